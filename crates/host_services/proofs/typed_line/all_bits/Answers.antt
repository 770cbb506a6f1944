use Rattle.std.proofs.Common.{rules, ◌≡◌, ◌*◌, length, take, ◌∙◌, arith}
use Rattle.std.proofs.lemmas.List.{take_all}
use Rattle.bit_messages.specs.Octets.{bits_of}
use Rattle.bit_messages.proofs.lemmas.{length-bits_of}
use Rattle.host_services.proofs.typed_line.all_bits.Goals as goal

pub returns-in-Ok : goal.returns-in-Ok
returns-in-Ok c =
    let bits : c.in-Ok.bits ≡ take c.in-Some.count (bits_of c.args.octets.now) = search rules in
    let many : c.in-Some.count ≡ length c.args.octets.now * 8 = search rules in
    bits ∙ take_all c.in-Some.count (bits_of c.args.octets.now) (omega (arith, many, length-bits_of c.args.octets.now))
