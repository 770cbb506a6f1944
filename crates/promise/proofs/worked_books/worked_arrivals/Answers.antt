use Rattle.std.proofs.Common.{◌≡◌, inl, true, false, [], ◌∷◌, refl, arith}
use Rattle.bit_messages.specs.Octets.{octets_of}
use Rattle.ncp_control.specs.Reading.{command_of, read_of}
use Rattle.host_pairs.specs.Control.{orders_of}
use Rattle.promise.specs.Ends.{Going, stage}
use Rattle.promise.specs.Safe.{Match}
use Rattle.promise.specs.Worked.{closed, first, giver, message, second, taker}
use Rattle.promise.specs.declared.life.Life.{Life}
use Rattle.promise.proofs.worked_books.worked_arrivals.Goals as goal

pub returns-clause-stray : goal.returns-clause-stray
returns-clause-stray c book =
    omega (arith, (book.answered [] [] (message second first 1 []).flow refl refl).there.1)

half_closed : stage [] taker closed ≡ Going false true
unfolding octets_of orders_of read_of command_of
half_closed = refl

pub returns-clause-bits : goal.returns-clause-bits
returns-clause-bits c book =
    let other : Life = record giver { bits = [] } in
    let matched : Match closed taker other =
    record {
      receiving = refl;
      sending = refl;
      peers = (refl, refl);
      sockets = (refl, refl);
      asked =
          refl;
      answered = refl;
    } in
    let same : true ∷ [] ≡ [] =
    (book.closed taker other false (inl (refl, refl)) half_closed (1, omega arith, refl) matched).0 in
    absurd (cc)
