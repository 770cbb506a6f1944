use Rattle.interface.specs.Calls.{Calls}
use Rattle.net_sim.proofs.Resets.Clean.{seat_agrees, book_clean, book_front, book_run}
use Rattle.net_sim.proofs.law.clean_resets.Goals as goal

pub returns : goal.returns
returns g c =
    let calls : Calls g.row.C.Denot = g.C.Carrier.calls in
    record {
      clean =
          λ hosts w lawful newer older m parts ours plain through.
          book_clean calls.seen hosts w lawful newer older m parts ours plain through;
      stays = λ hosts w lawful a b ours link. book_front calls.seen hosts w lawful a b ours link;
      run = λ hosts w lawful. book_run calls.seen hosts w lawful;
      agrees = λ hosts w lawful running a b ours s is. seat_agrees calls.seen hosts w lawful running a b ours s is;
    }
