use Rattle.std.proofs.Common.{◌≡◌, Bool, List, reverse, ap, sym, subst, ◌∙◌}
use Rattle.std.proofs.lemmas.List.{reverse-reverse}
use Rattle.interface.specs.Calls.{Seen}
use Rattle.interface.specs.declared.crossing.Crossing.{Crossing}
use Rattle.net_sim.specs.Audit.{Says}
use Rattle.net_sim.specs.Book.{Kept}
use Rattle.promise.specs.declared.life.Life.{Life}
use Rattle.net_sim.specs.declared.auditing.said.Audit.TheVariants as said
use Rattle.headline.specs.Promise.{KeepsPromise}
use Rattle.headline.proofs.Audited.{kept_promise}
use Rattle.headline.proofs.audits.audit_of.Goals as goal

pub returns : goal.returns
returns g c =
    let k : Kept = c.args.world.now.kept in
    let log : reverse c.crossings.result.now ≡ k.book.crossings =
    ap (λ (xs : List Crossing). reverse xs) (c.crossings.ensures ∙ ap (λ (x : Kept). reverse x.book.crossings) c.book_of-book.ensures.value) ∙ reverse-reverse k.book.crossings in
    let lives : c.lives.result.now ≡ k.book.lives = c.lives.ensures ∙ ap (λ (x : Kept). x.book.lives) c.book_of-book.ensures.value in
    let handed : c.handed.result.now ≡ k.handed = c.handed.ensures.value in
    let seen : Seen = g.C.Carrier.calls.seen c.args.world.now.carrier in
    let says : Says said.Kept k.book.crossings k.book.lives k.handed =
    kept_promise seen.hosts seen.log c.args.world.now.stopped k
    (subst (KeepsPromise seen.hosts seen.log c.args.world.now.stopped) c.book_of-book.ensures.value c.book_of-book.ensures.promise) in
    let with_handed = subst (λ (h : List (List Bool)). Says said.Kept k.book.crossings k.book.lives h) (sym handed) says in
    let with_lives = subst (λ (xs : List Life). Says said.Kept k.book.crossings xs c.handed.result.now) (sym lives) with_handed in
    (c.audit.ensures said.Kept).1 (subst (λ (l : List Crossing). Says said.Kept l c.lives.result.now c.handed.result.now) (sym log) with_lives)
