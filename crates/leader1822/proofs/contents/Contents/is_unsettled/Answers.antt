use Rattle.leader1822.proofs.Common.{Held, IsNamed, Flow}
use Rattle.std.proofs.Common.{◌≡◌, true, false, None, IsSome, subst}
use Rattle.std.specs.FinMap as map
use Rattle.leader1822.proofs.Index.{unsettles}
use Rattle.leader1822.proofs.contents.Contents.is_unsettled.Goals as goal

pub returns : goal.returns
returns c =
    let kept = c.requires.kept in
    let h = c.args.host.now in
    let r = c.has_from.result in
    let S : Held → Type 0 = λ x. r ≡ true → (f : Flow) × (f.source ≡ h) × IsSome (map.get x.flows f) in
    let N : Held → Type 0 = λ x. r ≡ false → (f : Flow) → IsNamed f → f.source ≡ h → map.get x.flows f ≡ None in
    unsettles c.args.self.now h r (kept.indexed c.requires.running) (kept.sound.matches c.requires.running) c.requires.down
    (subst S c.self.view_is c.has_from.ensures.some) (subst N c.self.view_is c.has_from.ensures.none)
