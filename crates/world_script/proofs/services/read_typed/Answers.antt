use Rattle.std.proofs.Common.{◌++◌, codes, inr, ap}
use Rattle.net_sim.specs.declared.event.Event.TheVariants as event
use Rattle.world_script.specs.declared.event.WorldEvent.TheVariants as world
use Rattle.world_script.proofs.Lines.{no_typing, no_typing_host, text_kept, text_refused}
use Rattle.world_script.proofs.Requests.{host_front, no_host, other_host}
use Rattle.world_script.proofs.services.read_typed.Goals as goal

pub returns-in_default-clause-read : goal.returns-in_default-clause-read
returns-in_default-clause-read c = no_typing_host c.args.words.now (no_host c.args.words.now c.in_default.ensures)

pub returns-in_default-read_host-clause-read : goal.returns-in_default-read_host-clause-read
returns-in_default-read_host-clause-read c = no_typing_host c.args.words.now (other_host c.args.words.now c.in-Some.host.now c.in-Some.text.now c.in-Some.ensures.0 c.in-Some.ensures.1 c.in_default-read_host.ensures)

pub returns-in-Err-NotPrintable-clause-read : goal.returns-in-Err-NotPrintable-clause-read
returns-in-Err-NotPrintable-clause-read c =
    no_typing c.args.words.now c.in-Some.text.now c.in-Some-read_host.host (host_front c.args.words.now c.in-Some.host.now c.in-Some.text.now c.in-Some-read_host.host c.in-Some.ensures.0 c.in-Some-read_host.ensures.0) c.in-Some-read_host.ensures.1
    (text_refused c.in-Some.text.now (rw c.in-Err-NotPrintable.field-0-is at c.in-Err-NotPrintable.ensures))

pub returns-in-Err-OutOfMemory-clause-memory : goal.returns-in-Err-OutOfMemory-clause-memory
returns-in-Err-OutOfMemory-clause-memory c strangers =
    inr (inr (
      world.Happen (event.Typed c.in-Some-read_host.host c.in-Some.text.now),
      ap (λ w. codes "type " ++ w) (host_front c.args.words.now c.in-Some.host.now c.in-Some.text.now c.in-Some-read_host.host c.in-Some.ensures.0 c.in-Some-read_host.ensures.0),
      (c.in-Some-read_host.ensures.1, text_kept c.in-Some.text.now (rw c.in-Err-OutOfMemory.field-0-is at c.in-Err-OutOfMemory.ensures)),
    ))
