use Rattle.std.proofs.Common.{◌≡◌, length, Bool, List, arith, rules}
use Rattle.subnet_trace.proofs.Printing.{digit_before, no_digits}
use Rattle.subnet_trace.proofs.packets.digits.Goals as goal

pub returns : goal.returns
returns c =
    let bits : List Bool = c.args.bits.now in
    let long : length bits ≡ 8 = search rules in
    digit_before bits 0 _ _ (omega (arith, long)) c.digit_octet.ensures (digit_before bits 1 _ _ (omega (arith, long)) c.digit_octet-2.ensures (digit_before bits 2 _ _ (omega (arith, long)) c.digit_octet-3.ensures (digit_before bits 3 _ _ (omega (arith, long)) c.digit_octet-4.ensures
    (digit_before bits 4 _ _ (omega (arith, long)) c.digit_octet-5.ensures (digit_before bits 5 _ _ (omega (arith, long)) c.digit_octet-6.ensures (digit_before bits 6 _ _ (omega (arith, long)) c.digit_octet-7.ensures (digit_before bits 7 _ _ (omega (arith, long)) c.digit_octet-8.ensures
    (no_digits bits 8 (omega (arith, long))))))))))
