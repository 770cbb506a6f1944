use Rattle.std.proofs.Common.{reverse, take}
use Rattle.interface.specs.Messages.{SafeMessages}
use Rattle.book_judge.proofs.Crossed.Taken.{AreNoted}
use Rattle.book_judge.proofs.messages.broken_message.Given as goal

abbrev pub invariant-loop-place : goal.invariant-loop-place
invariant-loop-place l = AreNoted l.log l.last (reverse (take l.place l.log)) × SafeMessages (reverse (take l.place l.log))
