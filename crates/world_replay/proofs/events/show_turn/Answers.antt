use Rattle.world_replay.proofs.Common.{◌≡◌, ◌≤◌, true, length, ap, rules, subst, ◌∙◌, arith, length-reverse, Kept, shown, stops, Calls, Gains}
use Rattle.replay.proofs.lemmas.{on_ok}
use Rattle.world_replay.proofs.Grown.{longer, more_notices, more_reports, turn_gains}
use Rattle.world_replay.proofs.Replays.{News, calm_shown, calm_stopped}
use Rattle.world_replay.proofs.events.show_turn.Goals as goal

pub print_news-requires-clause-crossed : goal.print_news-requires-clause-crossed
print_news-requires-clause-crossed g c =
    let calls : Calls g.row.C.Denot = shown g.C.Carrier.calls in
    let grew : Gains (g.R.Turning.state c.args.world.now).kept (g.R.Turning.state c.turn-outcome.new.self).kept =
    turn_gains calls c.args.event (g.R.Turning.state c.args.world.now) c.turn-outcome.result
    (g.R.Turning.state c.turn-outcome.new.self) c.turn-outcome.ensures.gives in
    let was : length c.crossings-crossed.result.now ≡ length (g.R.Turning.state c.args.world.now).kept.book.crossings =
    ap length c.crossings-crossed.ensures ∙ length-reverse c.book.result.book.crossings
    ∙ ap (λ (k : Kept). length k.book.crossings) c.book.ensures in
    let is : length c.book-4.result.book.crossings ≡ length
    (g.R.Turning.state c.turn-outcome.new.self).kept.book.crossings = ap (λ (k : Kept). length k.book.crossings)
    c.book-4.ensures in
    let more : length (g.R.Turning.state c.args.world.now).kept.book.crossings ≤ length
    (g.R.Turning.state c.turn-outcome.new.self).kept.book.crossings =
    longer (g.R.Turning.state c.args.world.now).kept (g.R.Turning.state c.turn-outcome.new.self).kept grew in
    omega (arith, was, is, more)

pub print_news-requires-clause-told : goal.print_news-requires-clause-told
print_news-requires-clause-told g c =
    let calls : Calls g.row.C.Denot = shown g.C.Carrier.calls in
    let grew : Gains (g.R.Turning.state c.args.world.now).kept (g.R.Turning.state c.turn-outcome.new.self).kept =
    turn_gains calls c.args.event (g.R.Turning.state c.args.world.now) c.turn-outcome.result
    (g.R.Turning.state c.turn-outcome.new.self) c.turn-outcome.ensures.gives in
    let was : length c.notices-told.result.now ≡ length (g.R.Turning.state c.args.world.now).kept.book.notices =
    ap length c.notices-told.ensures ∙ ap (λ (k : Kept). length k.book.notices) c.book-2.ensures in
    let is : length c.book-4.result.book.notices ≡ length
    (g.R.Turning.state c.turn-outcome.new.self).kept.book.notices = ap (λ (k : Kept). length k.book.notices)
    c.book-4.ensures in
    let more : length (g.R.Turning.state c.args.world.now).kept.book.notices ≤ length
    (g.R.Turning.state c.turn-outcome.new.self).kept.book.notices = more_notices
    (g.R.Turning.state c.args.world.now).kept (g.R.Turning.state c.turn-outcome.new.self).kept grew in
    omega (arith, was, is, more)

pub print_news-requires-clause-said : goal.print_news-requires-clause-said
print_news-requires-clause-said g c =
    let calls : Calls g.row.C.Denot = shown g.C.Carrier.calls in
    let grew : Gains (g.R.Turning.state c.args.world.now).kept (g.R.Turning.state c.turn-outcome.new.self).kept =
    turn_gains calls c.args.event (g.R.Turning.state c.args.world.now) c.turn-outcome.result
    (g.R.Turning.state c.turn-outcome.new.self) c.turn-outcome.ensures.gives in
    let was : length c.reports-said.result.now ≡ length (g.R.Turning.state c.args.world.now).kept.book.reports =
    ap length c.reports-said.ensures ∙ ap (λ (k : Kept). length k.book.reports) c.book-3.ensures in
    let is : length c.book-4.result.book.reports ≡ length
    (g.R.Turning.state c.turn-outcome.new.self).kept.book.reports = ap (λ (k : Kept). length k.book.reports)
    c.book-4.ensures in
    let more : length (g.R.Turning.state c.args.world.now).kept.book.reports ≤ length
    (g.R.Turning.state c.turn-outcome.new.self).kept.book.reports = more_reports
    (g.R.Turning.state c.args.world.now).kept (g.R.Turning.state c.turn-outcome.new.self).kept grew in
    omega (arith, was, is, more)

pub returns-clause-replayed : goal.returns-clause-replayed
returns-clause-replayed g c =
    let calls : Calls g.row.C.Denot = shown g.C.Carrier.calls in
    let crossed : length c.crossings-crossed.result.now ≡ length
    (g.R.Turning.state c.args.world.now).kept.book.crossings =
    ap length c.crossings-crossed.ensures ∙ length-reverse c.book.result.book.crossings
    ∙ ap (λ (k : Kept). length k.book.crossings) c.book.ensures in
    let told : length c.notices-told.result.now ≡ length (g.R.Turning.state c.args.world.now).kept.book.notices =
    ap length c.notices-told.ensures ∙ ap (λ (k : Kept). length k.book.notices) c.book-2.ensures in
    let said : length c.reports-said.result.now ≡ length (g.R.Turning.state c.args.world.now).kept.book.reports =
    ap length c.reports-said.ensures ∙ ap (λ (k : Kept). length k.book.reports) c.book-3.ensures in
    let news : News g.W.Output.contents c.args.detail (length c.crossings-crossed.result.now)
    (length c.notices-told.result.now) (length c.reports-said.result.now) (g.W.Output.contents c.args.writer.now)
    c.print_news.new.writer (g.R.Turning.state c.turn-outcome.new.self).kept =
    subst (λ (k : Kept). News g.W.Output.contents c.args.detail (length c.crossings-crossed.result.now)
    (length c.notices-told.result.now) (length c.reports-said.result.now) (g.W.Output.contents c.args.writer.now)
    c.print_news.new.writer k) c.book-4.ensures c.in_ok-print_news.ensures.written in
    on_ok c.check_memory.result
    (λ on. calm_shown g.W.Output.contents calls c.args.detail (g.R.Turning.state c.args.world.now) c.args.event
    c.turn-outcome.result (g.R.Turning.state c.turn-outcome.new.self) (length c.crossings-crossed.result.now)
    (length c.notices-told.result.now) (length c.reports-said.result.now)
    (g.W.Output.contents c.args.writer.now) c.print_news.new.writer c.turn-outcome.ensures.gives crossed told said news
    on) c.check_memory.ensures.goes_on

pub returns-clause-memory : goal.returns-clause-memory
returns-clause-memory g c = λ e.
    let calls : Calls g.row.C.Denot = shown g.C.Carrier.calls in
    let crossed : length c.crossings-crossed.result.now ≡ length
    (g.R.Turning.state c.args.world.now).kept.book.crossings =
    ap length c.crossings-crossed.ensures ∙ length-reverse c.book.result.book.crossings
    ∙ ap (λ (k : Kept). length k.book.crossings) c.book.ensures in
    let told : length c.notices-told.result.now ≡ length (g.R.Turning.state c.args.world.now).kept.book.notices =
    ap length c.notices-told.ensures ∙ ap (λ (k : Kept). length k.book.notices) c.book-2.ensures in
    let said : length c.reports-said.result.now ≡ length (g.R.Turning.state c.args.world.now).kept.book.reports =
    ap length c.reports-said.ensures ∙ ap (λ (k : Kept). length k.book.reports) c.book-3.ensures in
    let news : News g.W.Output.contents c.args.detail (length c.crossings-crossed.result.now)
    (length c.notices-told.result.now) (length c.reports-said.result.now) (g.W.Output.contents c.args.writer.now)
    c.print_news.new.writer (g.R.Turning.state c.turn-outcome.new.self).kept =
    subst (λ (k : Kept). News g.W.Output.contents c.args.detail (length c.crossings-crossed.result.now)
    (length c.notices-told.result.now) (length c.reports-said.result.now) (g.W.Output.contents c.args.writer.now)
    c.print_news.new.writer k) c.book-4.ensures c.in_ok-print_news.ensures.written in
    let out : stops c.turn-outcome.result ≡ true = search (rules, e) in
    calm_stopped g.W.Output.contents calls c.args.detail (g.R.Turning.state c.args.world.now) c.args.event
    c.turn-outcome.result (g.R.Turning.state c.turn-outcome.new.self) (length c.crossings-crossed.result.now)
    (length c.notices-told.result.now) (length c.reports-said.result.now)
    (g.W.Output.contents c.args.writer.now) c.print_news.new.writer c.turn-outcome.ensures.gives crossed told said news
    out
