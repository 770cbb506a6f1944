use Rattle.world_replay.proofs.Common.{◌≡◌, ◌≤◌, length, ap, subst, ◌∙◌, arith, length-reverse, Kept, Gains}
use Rattle.world_replay.proofs.Grown.{longer, more_notices, more_reports}
use Rattle.world_replay.proofs.ByKind.{event_ends}
use Rattle.world_replay.proofs.Replays.{News}
use Rattle.world_replay.proofs.events.replay_one.Goals as goal

pub print_news-requires-clause-crossed : goal.print_news-requires-clause-crossed
print_news-requires-clause-crossed g c =
    let old : Kept = g.R.Replayed.kind.kept c.args.world.now in
    let new : Kept = g.R.Replayed.kind.kept c.happen-outcome.new.self in
    let grew : Gains old new = c.is_replayable.ensures.gains c.args.event c.args.world.now c.happen-outcome.result c.happen-outcome.new.self c.happen-outcome.ensures in
    let was : length c.crossings-crossed.result.now ≡ length old.book.crossings =
    ap length c.crossings-crossed.ensures ∙ length-reverse c.book.result.book.crossings ∙ ap (λ (k : Kept). length k.book.crossings) c.book.ensures in
    let is : length c.book-4.result.book.crossings ≡ length new.book.crossings = ap (λ (k : Kept). length k.book.crossings) c.book-4.ensures in
    let more : length old.book.crossings ≤ length new.book.crossings = longer old new grew in
    omega (arith, was, is, more)

pub print_news-requires-clause-told : goal.print_news-requires-clause-told
print_news-requires-clause-told g c =
    let old : Kept = g.R.Replayed.kind.kept c.args.world.now in
    let new : Kept = g.R.Replayed.kind.kept c.happen-outcome.new.self in
    let grew : Gains old new = c.is_replayable.ensures.gains c.args.event c.args.world.now c.happen-outcome.result c.happen-outcome.new.self c.happen-outcome.ensures in
    let was : length c.notices-told.result.now ≡ length old.book.notices = ap length c.notices-told.ensures ∙ ap (λ (k : Kept). length k.book.notices) c.book-2.ensures in
    let is : length c.book-4.result.book.notices ≡ length new.book.notices = ap (λ (k : Kept). length k.book.notices) c.book-4.ensures in
    let more : length old.book.notices ≤ length new.book.notices = more_notices old new grew in
    omega (arith, was, is, more)

pub print_news-requires-clause-said : goal.print_news-requires-clause-said
print_news-requires-clause-said g c =
    let old : Kept = g.R.Replayed.kind.kept c.args.world.now in
    let new : Kept = g.R.Replayed.kind.kept c.happen-outcome.new.self in
    let grew : Gains old new = c.is_replayable.ensures.gains c.args.event c.args.world.now c.happen-outcome.result c.happen-outcome.new.self c.happen-outcome.ensures in
    let was : length c.reports-said.result.now ≡ length old.book.reports = ap length c.reports-said.ensures ∙ ap (λ (k : Kept). length k.book.reports) c.book-3.ensures in
    let is : length c.book-4.result.book.reports ≡ length new.book.reports = ap (λ (k : Kept). length k.book.reports) c.book-4.ensures in
    let more : length old.book.reports ≤ length new.book.reports = more_reports old new grew in
    omega (arith, was, is, more)

pub returns-clause-ends : goal.returns-clause-ends
returns-clause-ends g c =
    let old : Kept = g.R.Replayed.kind.kept c.args.world.now in
    let crossed : length c.crossings-crossed.result.now ≡ length old.book.crossings =
    ap length c.crossings-crossed.ensures ∙ length-reverse c.book.result.book.crossings ∙ ap (λ (k : Kept). length k.book.crossings) c.book.ensures in
    let told : length c.notices-told.result.now ≡ length old.book.notices = ap length c.notices-told.ensures ∙ ap (λ (k : Kept). length k.book.notices) c.book-2.ensures in
    let said : length c.reports-said.result.now ≡ length old.book.reports = ap length c.reports-said.ensures ∙ ap (λ (k : Kept). length k.book.reports) c.book-3.ensures in
    event_ends g.R.Replayed.kind c.is_replayable.ensures g.W.Output.contents c.args.detail c.args.world.now c.args.event c.happen-outcome.result c.happen-outcome.new.self c.print_refusal.result
    (length c.crossings-crossed.result.now) (length c.notices-told.result.now) (length c.reports-said.result.now)
    (g.W.Output.contents c.args.writer.now) c.print_news.new.writer c.print_refusal.new.writer c.happen-outcome.ensures crossed told said
    (subst (λ (k : Kept). News g.W.Output.contents c.args.detail (length c.crossings-crossed.result.now) (length c.notices-told.result.now) (length c.reports-said.result.now) (g.W.Output.contents c.args.writer.now) c.print_news.new.writer k) c.book-4.ensures c.in_ok-print_news.ensures.written)
    (c.print_refusal.ensures.shown c.args.detail) c.print_refusal.ensures.goes_on c.print_refusal.ensures.memory
