use Rattle.world_keeps_streams.proofs.Common.{◌≡◌, ◌≤◌, inl, inr, ℕ, true, List, [], ◌∷◌, length, refl, arith, Crossing, first, second, Called, eight_sent, rst, CountNothingLater}
use Rattle.promise.specs.Ends.{Cause, Over, Stopped, Dropped, stage, Closed}
use Rattle.promise.specs.Formed.{texts_on, link_of}
use Rattle.bit_messages.specs.Octets.{octets_of}
use Rattle.interface.specs.declared.crossing.Crossing.TheVariants as crossing
use Rattle.ncp_control.specs.Reading.{read_of, command_of}
use Rattle.host_pairs.specs.Control.{orders_of}
use Rattle.promise.specs.Safe.{before}
use Rattle.promise.specs.declared.life.Life.{Life}
use Rattle.world_keeps_streams.specs.WorkedEnds.{InTime, asker, begun_then, came_late, came_sooner, contact, eight_elsewhere, own_cls, partner_cls, took_later, took_one}
use Rattle.world_keeps_streams.proofs.Ends.Rows.{CountsBy, one_counts}
use Rattle.world_keeps_streams.proofs.Lives.Lists.{IsOf, contains}
use Rattle.world_keeps_streams.proofs.worked_ends.worked_within.Goals as goal

in_time : (contacts : List Called) (more : List Crossing)
    → CountsBy (begun_then more) took_one (stage contacts took_one (begun_then more)) → InTime contacts more
in_time contacts more counts = one_counts contacts (begun_then more) took_one counts

pub returns-clause-stopped : goal.returns-clause-stopped
unfolding octets_of orders_of read_of command_of
returns-clause-stopped c = in_time [] (crossing.Down first ∷ crossing.In eight_sent ∷ []) (omega arith)

pub returns-clause-contact : goal.returns-clause-contact
unfolding octets_of orders_of read_of command_of
returns-clause-contact c = in_time (contact first 3 second ∷ []) (crossing.In eight_sent ∷ []) (omega arith)

pub returns-clause-closed : goal.returns-clause-closed
unfolding octets_of orders_of read_of command_of
returns-clause-closed c =
    in_time [] (crossing.In partner_cls ∷ crossing.In eight_sent ∷ crossing.Out own_cls ∷ []) (omega arith)

pub returns-clause-open : goal.returns-clause-open
unfolding octets_of orders_of read_of command_of
returns-clause-open c = in_time [] (crossing.Out own_cls ∷ []) tt

-- a life counts one message, and none came in before it was over
too_many : (contacts : List Called) (log : List Crossing) (lives : List Life) (x : Life) (cause : Cause) (place : ℕ)
    → IsOf x lives → stage contacts x log ≡ Over cause place → x.messages ≡ 1
    → length (texts_on x (link_of log x) (before place log)) ≡ 0 → CountNothingLater contacts log lives → ⊥
too_many contacts log lives x cause place there over one none all =
    let enough : x.messages ≤ length (texts_on x (link_of log x) (before place log)) =
    all x cause place (contains x lives there) over in
    omega (arith, enough, one, none)

pub returns-clause-after_stop : goal.returns-clause-after_stop
unfolding octets_of orders_of read_of command_of
returns-clause-after_stop c =
    too_many [] (begun_then (crossing.In eight_sent ∷ crossing.Down first ∷ []))
    (took_one ∷ []) took_one Stopped 2 (inl refl) refl refl refl

pub returns-clause-after_reset : goal.returns-clause-after_reset
unfolding octets_of orders_of read_of command_of
returns-clause-after_reset c =
    too_many [] (begun_then (crossing.In eight_sent ∷ crossing.In (rst second first) ∷ []))
    (took_one ∷ []) took_one Dropped 2 (inl refl) refl refl refl

pub returns-clause-after_contact : goal.returns-clause-after_contact
unfolding octets_of orders_of read_of command_of
returns-clause-after_contact c =
    too_many (contact first 2 second ∷ []) (begun_then (crossing.In eight_sent ∷ []))
    (took_one ∷ []) took_one Dropped 2 (inl refl) refl refl refl

pub returns-clause-after_cls : goal.returns-clause-after_cls
unfolding octets_of orders_of read_of command_of
returns-clause-after_cls c =
    too_many [] (begun_then (crossing.In eight_sent ∷ crossing.In partner_cls ∷ crossing.Out own_cls ∷ []))
    (took_one ∷ []) took_one (Closed true) 3 (inl refl) refl refl refl

pub returns-clause-link : goal.returns-clause-link
unfolding octets_of orders_of read_of command_of
returns-clause-link c =
    too_many [] (begun_then (crossing.Down first ∷ crossing.In eight_elsewhere ∷ []))
    (took_one ∷ []) took_one Stopped 3 (inl refl) refl refl refl

pub returns-clause-second : goal.returns-clause-second
unfolding octets_of orders_of read_of command_of
returns-clause-second c =
    too_many [] came_late (asker ∷ took_one ∷ []) took_one Stopped 2 (inr (inl refl)) refl refl refl

pub returns-clause-sooner : goal.returns-clause-sooner
unfolding octets_of orders_of read_of command_of
returns-clause-sooner c =
    too_many [] came_sooner (took_later ∷ []) took_later Stopped 3 (inl refl) refl refl refl
