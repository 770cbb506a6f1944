use Rattle.std.proofs.Common.{◌<◌, ◌∙◌, All, ℕ, List, subst}
use Rattle.bit_messages.proofs.PackedLemmas.{keeps, KeepsIn, packs_octets}
use Rattle.bit_messages.proofs.bits.Bits.as_octets.Goals as goal

pub returns : goal.returns
returns c =
    let k : KeepsIn c.self.inside.octets c.args.self.now = keeps _ _ _ c.self.invariant c.self.view_is in
    let P : List ℕ → Type 0 = λ ns. All (λ n. n < 256) ns in
    let small : All (λ n. n < 256) c.self.inside.octets.octets = subst P c.as_slice-octets.ensures c.are_octets.ensures in
    c.as_slice-octets.ensures ∙ packs_octets c.self.inside.octets.octets c.args.self.now small k.packs
