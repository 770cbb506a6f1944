use Rattle.net_sim.proofs.Common.{shown, Calls}
use Rattle.net_sim.proofs.Books.Booked.{opening_booked, step_books, turn_books, run_books, calm_books, booked_messages}
use Rattle.net_sim.proofs.Books.Refusals.{calm_own, run_own, step_own, step_stands, turn_own, turn_stands}
use Rattle.net_sim.proofs.law.books.Goals as goal

pub returns : goal.returns
returns g c =
    let calls : Calls g.row.C.Denot = g.C.Carrier.calls in
    record {
      opening = λ x none. opening_booked calls x none;
      refused = λ old new e r f is h. step_stands (shown calls) f old r new is e h;
      turn_refused = λ old new e r f is h. turn_stands (shown calls) f old r new is e h;
      answered = λ old new e r none other h. step_own (shown calls) e old r new none other h;
      turn_answered = λ old new e r other h. turn_own (shown calls) e old r new other h;
      run_answered = λ old new events r h. run_own (shown calls) events old r new h;
      calm_answered = λ old new times r h. calm_own (shown calls) times old r new h;
      step = λ old new e r b h. step_books calls e old r new b h;
      turn = λ old new e r b h. turn_books calls e old r new b h;
      run = λ old new events r b h. run_books calls events old r new b h;
      calm = λ old new times r b h. calm_books calls times old r new b h;
      messages = λ w b is. booked_messages calls.seen w b is;
    }
