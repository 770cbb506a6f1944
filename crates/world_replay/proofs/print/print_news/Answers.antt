use Rattle.world_replay.proofs.Common.{◌≡◌, ap, drop, reverse, subst, ◌∙◌, Appends}
use Rattle.world_replay.specs.Output.{output, shown_in_turn, told_in_turn}
use Rattle.std.proofs.lemmas.Result.{on_ok_weaker}
use Rattle.world_replay.proofs.News.{all_fronts}
use Rattle.world_replay.proofs.print.print_news.Goals as goal

pub returns-clause-written : goal.returns-clause-written
returns-clause-written g c =
    let crossings : c.split_at.result.1.now ≡ drop c.args.crossed (reverse c.args.book.now.book.crossings) = c.split_at.ensures.back ∙ ap (drop c.args.crossed) c.crossings.ensures in
    let notices : c.split_at-2.result.1.now ≡ drop c.args.told c.args.book.now.book.notices = c.split_at-2.ensures.back ∙ ap (drop c.args.told) c.notices.ensures in
    let reports : c.split_at-3.result.1.now ≡ drop c.args.said c.args.book.now.book.reports = c.split_at-3.ensures.back ∙ ap (drop c.args.said) c.reports.ensures in
    let all : shown_in_turn c.args.crossed c.split_at.result.1.now (told_in_turn c.args.told c.split_at-2.result.1.now c.split_at-3.result.1.now)
    ≡ shown_in_turn c.args.crossed (drop c.args.crossed (reverse c.args.book.now.book.crossings)) (told_in_turn c.args.told (drop c.args.told c.args.book.now.book.notices) (drop c.args.said c.args.book.now.book.reports)) =
    ap (λ cs. shown_in_turn c.args.crossed cs (told_in_turn c.args.told c.split_at-2.result.1.now c.split_at-3.result.1.now)) crossings
    ∙ ap (λ ts. shown_in_turn c.args.crossed (drop c.args.crossed (reverse c.args.book.now.book.crossings)) (told_in_turn c.args.told ts c.split_at-3.result.1.now)) notices
    ∙ ap (λ rs. shown_in_turn c.args.crossed (drop c.args.crossed (reverse c.args.book.now.book.crossings)) (told_in_turn c.args.told (drop c.args.told c.args.book.now.book.notices) rs)) reports in
    on_ok_weaker c.print_crossings.result (λ crossed.
    subst (λ xs. Appends (g.W.Output.contents c.args.writer.now) (g.W.Output.contents c.print_crossings.new.writer) (output c.args.detail xs)) all
    (all_fronts c.args.detail c.args.crossed c.split_at.result.1.now (told_in_turn c.args.told c.split_at-2.result.1.now c.split_at-3.result.1.now) c.print_told.new.crossings.before c.print_told.new.crossings.left.now
    (g.W.Output.contents c.args.writer.now) (g.W.Output.contents c.print_told.new.writer) (g.W.Output.contents c.print_crossings.new.writer) c.in_ok-print_told.ensures.written crossed)) c.print_crossings.ensures.written
