use Rattle.world_trace.proofs.Common.{◌++◌, IfSome, List, Option, ℕ, subst, sym, All-append, All-same, all_in, Service, IsShort}
use Rattle.world_trace.specs.Told.{IsServiceTold}
use Rattle.world_trace.proofs.Blocks.{in_blocks}
use Rattle.world_trace.proofs.lasting.ServiceSeatNumbered.numbers.Goals as goal

pub returns : goal.returns
returns c =
    let blocks : List (List Service) = c.running.result.0.now in
    let others : List Service = c.running.result.1.now in
    record {
      host = c.host.ensures;
      typing = subst (λ (o : Option ℕ). IfSome o IsShort) c.typing.ensures c.known_sending.ensures;
      running = All-same IsServiceTold c.args.self.now.services.running (all_in blocks ++ others) (sym c.running.ensures)
          (All-append IsServiceTold (all_in blocks) others (in_blocks IsServiceTold blocks c.all_numbers.ensures) c.all_numbers-2.ensures);
    }
