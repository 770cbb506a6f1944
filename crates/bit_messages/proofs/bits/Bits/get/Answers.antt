use Rattle.std.proofs.Common.{◌≡◌, ◌∙◌, ap, sym, arith, Bool, Some, List, ℕ, false, get_or}
use Rattle.std.proofs.lemmas.List.{get_or-take}
use Rattle.std.proofs.lemmas.Option.{slice_get-get_or}
use Rattle.bit_messages.specs.Octets.{bits_of}
use Rattle.bit_messages.proofs.PackedLemmas.{keeps, KeepsIn}
use Rattle.bit_messages.proofs.bits.Bits.get.Goals as goal

pub returns : goal.returns
returns c =
    let k : KeepsIn c.self.inside.octets c.args.self.now = keeps _ _ _ c.self.invariant c.self.view_is in
    let read : c.bit_in.result ≡ get_or c.args.self.now c.args.i false =
    c.bit_in.ensures
    ∙ ap (λ (ns : List ℕ). get_or (bits_of ns) c.args.i false) c.as_slice.ensures
    ∙ sym (get_or-take c.self.inside.octets.len (bits_of c.self.inside.octets.octets) c.args.i false (omega (arith, c.if-i-len.false, c.len.ensures)))
    ∙ ap (λ (b : List Bool). get_or b c.args.i false) c.self.view_is in
    ap (λ (b : Bool). Some b) read ∙ sym (slice_get-get_or c.args.self.now c.args.i false (omega (arith, c.if-i-len.false, c.len.ensures, k.size)))
