use Rattle.std.proofs.Common.{◌≡◌, ◌-◌, ◌/◌, ◌%◌, ◌<◌, ◌∙◌, ap, sym, subst, arith, ℕ, List, ◌++◌, OnOk, length, take, drop, replicate, false, get_or, set}
use Rattle.std.proofs.Math.ListN.{get_or-append}
use Rattle.std.proofs.lemmas.Bool.Decides.{nat_tests}
use Rattle.std.proofs.lemmas.Result.{on_ok_weaker}
use Rattle.bit_messages.specs.Octets.{octet_bits, bits_of}
use Rattle.bit_messages.specs.Packed.{Packs, IsPacked}
use Rattle.bit_messages.proofs.PackedLemmas.{put_whole, put_across, last_octet, on_fault, some_bits, octets_needed}
use Rattle.bit_messages.proofs.octets.put.Goals as goal

pub append-requires : goal.append-requires
append-requires c =
    omega (
      arith,
      octets_needed c.args.octets.now.octets c.args.octets.now.len c.requires.packed,
      octets_needed c.args.more.now c.args.more_len c.requires.more,
      c.len-len.ensures,
      c.if-used-eq0.true,
      c.in-Some.ensures.1,
    )

pub append-requires-2 : goal.append-requires-2
append-requires-2 c =
    omega (
      arith,
      octets_needed c.args.octets.now.octets c.args.octets.now.len c.requires.packed,
      some_bits c.args.more.now c.args.more_len c.requires.more (grind (arith, nat_tests, c.if-is_empty.false, c.is_empty.ensures)),
      c.len-len.ensures,
      c.if-used-eq0.false,
      c.in-Some.ensures.1,
      c.in_ok-tail.ensures.size,
      c.saturating_sub.ensures,
      ap length c.as_slice.ensures,
    )

pub filled-last-requires-clause-zeros : goal.filled-last-requires-clause-zeros
filled-last-requires-clause-zeros c =
    let l : ℕ = c.len-len.result in
    let L : ℕ → Type 0 = λ n. IsPacked c.args.octets.now.octets n in
    let h : IsPacked c.args.octets.now.octets l = subst L (sym c.len-len.ensures) c.requires.packed in
    let k : ℕ = l / 8 in
    let there : k < length c.args.octets.now.octets = omega (arith, h.within, c.if-used-eq0.false) in
    let read : get_or c.as_slice-2.result.now k 0 ≡ get_or c.args.octets.now.octets k 0 =
    ap (λ (ns : List ℕ). get_or ns k 0) (c.as_slice-2.ensures ∙ c.in_ok-append.ensures.octets) ∙ get_or-append c.args.octets.now.octets c.as_slice.result.now 0 k there in
    let P : ℕ → Type 0 = λ n. octet_bits n ≡ take (l % 8) (octet_bits n) ++ replicate (8 - l % 8) false in
    subst P (sym read) (last_octet c.args.octets.now.octets l k (l % 8) h (omega arith) (omega (arith, c.if-used-eq0.false)) (omega arith))

pub returns-then-used-eq0-clause-ok : goal.returns-then-used-eq0-clause-ok
returns-then-used-eq0-clause-ok c =
    let l : ℕ = c.len-len.result in
    let L : ℕ → Type 0 = λ n. IsPacked c.args.octets.now.octets n in
    let h : IsPacked c.args.octets.now.octets l = subst L (sym c.len-len.ensures) c.requires.packed in
    let Q : ℕ → Type 0 = λ n. OnOk c.append.result (Packs c.append.new.self.octets (take n (bits_of c.args.octets.now.octets) ++ take c.args.more_len (bits_of c.args.more.now))) in
    let P : List ℕ → Type 0 = λ ns. Packs ns (take l (bits_of c.args.octets.now.octets) ++ take c.args.more_len (bits_of c.args.more.now)) in
    subst Q c.len-len.ensures
    (on_ok_weaker c.append.result (λ e. subst P (sym e) (put_whole c.args.octets.now.octets c.args.more.now l c.args.more_len h c.requires.more c.if-used-eq0.true)) c.append.ensures.octets)

pub returns-clause-ok : goal.returns-clause-ok
returns-clause-ok c =
    let l : ℕ = c.len-len.result in
    let L : ℕ → Type 0 = λ n. IsPacked c.args.octets.now.octets n in
    let h : IsPacked c.args.octets.now.octets l = subst L (sym c.len-len.ensures) c.requires.packed in
    let k : ℕ = l / 8 in
    let used : ℕ = l % 8 in
    let there : k < length c.args.octets.now.octets = omega (arith, h.within, c.if-used-eq0.false) in
    let read : get_or c.as_slice-2.result.now k 0 ≡ get_or c.args.octets.now.octets k 0 =
    ap (λ (ns : List ℕ). get_or ns k 0) (c.as_slice-2.ensures ∙ c.in_ok-append.ensures.octets) ∙ get_or-append c.args.octets.now.octets c.as_slice.result.now 0 k there in
    let some : 0 < length c.args.more.now = grind (arith, nat_tests, c.if-is_empty.false, c.is_empty.ensures) in
    let bits : octet_bits c.filled-last.result ≡ take used (octet_bits (get_or c.args.octets.now.octets k 0)) ++ take (8 - used) (octet_bits (get_or c.args.more.now 0 0)) =
    c.filled-last.ensures ∙ ap (λ (n : ℕ). take used (octet_bits n) ++ take (8 - used) (octet_bits (get_or c.args.more.now 0 0))) read in
    let left : c.saturating_sub.result ≡ c.args.more_len - (8 - used) = c.saturating_sub.ensures in
    let Q : ℕ → Type 0 = λ n. Packs c.in_ok-tail.tail.octets (take n (drop (8 - used) (bits_of c.args.more.now))) in
    let tail : Packs c.in_ok-tail.tail.octets (take (c.args.more_len - (8 - used)) (drop (8 - used) (bits_of c.args.more.now))) = subst Q left c.in_ok-tail.ensures.packed in
    let P : List ℕ → Type 0 = λ ns. Packs (set ns k c.filled-last.result) (take l (bits_of c.args.octets.now.octets) ++ take c.args.more_len (bits_of c.args.more.now)) in
    let R : List ℕ → Type 0 = λ ns. Packs ns (take l (bits_of c.args.octets.now.octets) ++ take c.args.more_len (bits_of c.args.more.now)) in
    let S : ℕ → Type 0 = λ n. Packs c.set.new.self.octets (take n (bits_of c.args.octets.now.octets) ++ take c.args.more_len (bits_of c.args.more.now)) in
    subst S c.len-len.ensures
    (subst R (sym c.set.ensures.octets)
    (subst P (ap (λ (ns : List ℕ). c.args.octets.now.octets ++ ns) (sym c.as_slice.ensures) ∙ sym c.in_ok-append.ensures.octets)
    (put_across c.args.octets.now.octets c.args.more.now c.in_ok-tail.tail.octets l c.args.more_len k used c.filled-last.result h c.requires.more
    (omega arith) (omega (arith, c.if-used-eq0.false)) (omega arith) some bits tail)))

pub returns-in_default-clause-memory : goal.returns-in_default-clause-memory
returns-in_default-clause-memory c = some_bits c.args.more.now c.args.more_len c.requires.more (grind (arith, nat_tests, c.if-is_empty.false, c.is_empty.ensures))

pub returns-then-used-eq0-clause-memory : goal.returns-then-used-eq0-clause-memory
returns-then-used-eq0-clause-memory c = on_fault c.append.result (some_bits c.args.more.now c.args.more_len c.requires.more (grind (arith, nat_tests, c.if-is_empty.false, c.is_empty.ensures)))

pub returns-in_err-append-clause-memory : goal.returns-in_err-append-clause-memory
returns-in_err-append-clause-memory c = on_fault _ (some_bits c.args.more.now c.args.more_len c.requires.more (grind (arith, nat_tests, c.if-is_empty.false, c.is_empty.ensures)))
