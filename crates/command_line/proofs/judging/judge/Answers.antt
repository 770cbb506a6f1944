use Rattle.command_line.proofs.Common.{AreSuited, UnsuitedAt, AreMade, UnmadeAt, Host, is_host, Crossing, IsWellFormed}
use Rattle.std.proofs.Common.{Bool, List, MatchOption, ap, reverse, subst, ◌≡◌, ◌∙◌}
use Rattle.net_sim.specs.Findings.{ShowsMalformed}
use Rattle.command_line.specs.Audits.{AreParts, kept_by}
use Rattle.command_line.proofs.Verdicts.Among.{counted_beside, counted_lives}
use Rattle.command_line.proofs.Verdicts.Parts.{judged_of}
use Rattle.command_line.proofs.judging.judge.Goals as goal

pub returns : goal.returns
returns c =
    let strange : Host → Bool = λ h. is_host c.args.strangers.now h in
    let lives = c.args.lists.lives.items in
    let some = c.as_slice-some.result.now in
    let same : c.in_ok-log.log ≡ c.as_slice-crossed.result.now = c.in_ok-log.ensures in
    judged_of strange c.in_ok-stray.stray c.unmade_at-unmade.result c.in_ok-malformed.malformed c.in_ok-messages.messages
    c.in_ok-broken.broken c.in_ok-unsuited.unsuited c.untoward-toward.result
    c.as_slice-crossed.result.now c.args.lists.crossings.items c.as_slice-lives.result.now lives
    c.as_slice-handed.result.now c.args.lists.handed.items c.args.lists.fates.items
    c.as_slice-some.result.now c.as_slice-some_lists.result.now c.as_slice-ends.result.now
    c.as_slice-crossed.ensures.value c.as_slice-lives.ensures.value c.as_slice-handed.ensures.value
    (c.as_slice-some.ensures.value ∙ c.in_ok-lives_kept.ensures ∙ ap (λ (bs : List Bool). kept_by bs lives) c.requires ∙ counted_lives strange lives)
    (c.as_slice-some_lists.ensures.value ∙ c.in_ok-lists_kept.ensures ∙ ap (λ (bs : List Bool). kept_by bs c.args.lists.handed.items) c.requires ∙ counted_beside strange lives c.args.lists.handed.items)
    (c.as_slice-ends.ensures.value ∙ c.in_ok-fates_kept.ensures ∙ ap (λ (bs : List Bool). kept_by bs c.args.lists.fates.items) c.requires ∙ counted_beside strange lives c.args.lists.fates.items)
    (record {
      run = c.in_ok-stray.ensures;
      made = subst (λ (xs : List Crossing). MatchOption c.unmade_at-unmade.result (AreMade (reverse xs) some) (λ n. UnmadeAt (reverse xs) some n)) same c.unmade_at-unmade.ensures;
      formed = subst (λ (xs : List Crossing). MatchOption c.in_ok-malformed.malformed (IsWellFormed (reverse xs) c.as_slice-lives.result.now c.as_slice-handed.result.now) (λ found. ShowsMalformed found (reverse xs) c.as_slice-lives.result.now c.as_slice-handed.result.now)) same c.in_ok-malformed.ensures;
      safe = c.in_ok-messages.ensures;
      parts = subst (λ (xs : List Crossing). AreParts c.in_ok-malformed.malformed c.in_ok-broken.broken (reverse xs) some c.as_slice-some_lists.result.now c.as_slice-ends.result.now) same c.in_ok-broken.ensures;
      suited = subst (λ (xs : List Crossing). MatchOption c.in_ok-unsuited.unsuited (AreSuited (reverse xs) some c.as_slice-ends.result.now) (λ place. UnsuitedAt (reverse xs) some c.as_slice-ends.result.now place)) same c.in_ok-unsuited.ensures;
      to = c.untoward-toward.ensures;
    })
