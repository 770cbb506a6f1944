use Rattle.std.proofs.Common.{◌≡◌, ◌<◌, ◌∙◌, ap, arith, ℕ, List, length, take, set}
use Rattle.std.proofs.Math.Seq.{take-set-lt}
use Rattle.std.proofs.lemmas.List.{length-take-le}
use Rattle.bit_messages.specs.Store.{Stored, stored, octets_for}
use Rattle.bit_messages.proofs.store.Few.set.Goals as goal

pub returns : goal.returns
returns c =
    let n : ℕ = octets_for c.self.inside.len in
    let all : List ℕ = c.self.inside.all in
    let size : length (take n all) ≡ n = length-take-le n all (omega (arith, c.self.invariant.0, c.self.invariant.1)) in
    let within : c.args.at < n = omega (arith, c.requires, ap (λ (s : Stored). length s.octets) c.self.view_is, size) in
    ap (λ (ns : List ℕ). stored ns c.self.inside.len) (take-set-lt n all c.args.at c.args.octet within)
    ∙ ap (λ (s : Stored). stored (set s.octets c.args.at c.args.octet) s.len) c.self.view_is
