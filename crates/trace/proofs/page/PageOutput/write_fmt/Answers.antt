use Rattle.trace.proofs.Common.{◌≡◌, ◌++◌, ℕ, List, Option, Some, None, IfSome, Appends}
use Rattle.std.proofs.lemmas.Fmt.{contents_after_writes}
use Rattle.std.specs.Fmt.{WritesText}
use Rattle.trace.specs.declared.page.Page.{Page}
use Rattle.trace.proofs.page.PageOutput.write_fmt.Goals as goal

-- where each piece is appended, so is the whole text, if it is known
text_appended : {W : Type 0} {took : W → List ℕ → W → Type 0} (contents : W → List ℕ) → ((w : W) (bs : List ℕ) (v : W) → took w bs v → contents v ≡ contents w ++ bs)
    → (w v : W) (o : Option (List ℕ)) → WritesText took w o v → IfSome o (Appends (Some (contents w)) (Some (contents v)))
text_appended {W} {took} contents appends w v None none = none
text_appended {W} {took} contents appends w v (Some bs) written = contents_after_writes took contents appends w bs v written

pub returns-in-Ok-clause-written : goal.returns-in-Ok-clause-written
returns-in-Ok-clause-written g c =
    text_appended (λ (page : Page). page.octets.items) (λ before text after appended. appended) c.args.self.now c.write_fmt.new.self (g.D.Display.output c.args.text) c.in-Ok.ensures.writes
