-- The laws of src/ that are longer than a line: each is a record, and its fields are the clauses.
use Rattle.std.specs.List.{Contains}
use Rattle.std.specs.Prelude.{Bool, List, Some, [], false, true, ◌∷◌, ◌≡◌}
use Rattle.interface.specs.Host.{Host, same_host}
use Rattle.interface.specs.Mailboxes.{Passing}
use Rattle.interface.specs.declared.address.Flow.{Flow}
use Rattle.interface.specs.declared.crossing.Crossing.TheVariants as crossing
use Rattle.interface.specs.declared.crossing.Crossing.{Crossing}
use Rattle.flow_law.specs.Follows.{Follows, passed_over}
use Rattle.flow_law.specs.Invariant.{Invariant}
use Rattle.flow_law.specs.Local.{started_host, stopped_host, stopped_host_queued, taken_here, view_started_itself}
use Rattle.flow_law.specs.Local.{view_stopped_here, view_stopped_itself, view_stopped_unread, view_taken_here}
use Rattle.flow_law.specs.Moves.{CanStartSource, CanTakeMessage, shown_by}
use Rattle.flow_law.specs.Runs.{ByTest}
use Rattle.flow_law.specs.View.{Packet, Queued, View}

-- A flow within one IMP, and a host that writes to itself: what their IMP does in one step is a list of moves.
pub record OneImp : Type 0 where
  -- a queued message is the outstanding one
  pub awaited :
      (test : List Bool → Packet → Bool) (v : View) (alive : List Packet) (oldest : Queued) (others : List Queued) →
      Invariant (ByTest test) v (Contains alive) → v.from_up ≡ true → v.queue ≡ oldest ∷ others →
      v.outstanding ≡ Some oldest.number
  -- and the only one in its queue
  pub alone :
      (test : List Bool → Packet → Bool) (v : View) (alive : List Packet) (oldest : Queued) (others : List Queued) →
      Invariant (ByTest test) v (Contains alive) → v.queue ≡ oldest ∷ others → others ≡ []
  -- the destination takes a message, and the source gets RFNM at once
  pub taken :
      (test : List Bool → Packet → Bool) (v : View) (alive : List Packet) (oldest : Queued) (others : List Queued) →
      CanTakeMessage v oldest others → v.outstanding ≡ Some oldest.number →
      Follows (ByTest test) (taken_here oldest others) v (view_taken_here oldest others v) (Contains alive)
      (Contains alive)
  pub taken_shows :
      (v : View) (oldest : Queued) (others : List Queued) →
      shown_by (taken_here oldest others) v ≡ Passing.Fetched oldest.text ∷ []
  -- what a flow sees of a host that goes down or comes up, as its source, as its destination or as both
  pub host_down :
      (f : Flow) (h : Host) (log : List Crossing) (v : View) →
      passed_over f (crossing.Down h ∷ []) log
      ≡ shown_by (stopped_host (same_host f.source h) (same_host f.destination h)) v
  pub host_up :
      (f : Flow) (h : Host) (log : List Crossing) (v : View) →
      passed_over f (crossing.Up h ∷ []) log
      ≡ shown_by (started_host (same_host f.source h) (same_host f.destination h)) v
  -- the destination goes down, and the source of a queued message, another host, gets Dead at once
  pub stopped :
      (test : List Bool → Packet → Bool) (v : View) (alive : List Packet) (message : Queued) → v.destination ≡ true →
      Contains v.queue message → v.outstanding ≡ Some message.number →
      Follows (ByTest test) (stopped_host_queued false message) v (view_stopped_here v) (Contains alive)
      (Contains alive)
  -- a host that writes to itself goes down while a message to itself is queued: it gets no answer
  pub itself_stopped_queued :
      (test : List Bool → Packet → Bool) (v : View) (alive : List Packet) (message : Queued) → v.source ≡ true →
      v.destination ≡ true → Contains v.queue message → v.outstanding ≡ Some message.number →
      Follows (ByTest test) (stopped_host_queued true message) v (view_stopped_itself v) (Contains alive)
      (Contains alive)
  -- the Dead that is given at once does not show
  pub queued_shows :
      (source : Bool) (v : View) (message : Queued) →
      shown_by (stopped_host_queued source message) v ≡ shown_by (stopped_host source true) v
  -- a host that writes to itself goes down while nothing is queued for it
  pub itself_stopped :
      (test : List Bool → Packet → Bool) (v : View) (alive : List Packet) → v.source ≡ true → v.destination ≡ true →
      Follows (ByTest test) (stopped_host true true) v (view_stopped_unread v) (Contains alive) (Contains alive)
  -- and comes up
  pub itself_started :
      (test : List Bool → Packet → Bool) (v : View) (alive : List Packet) → CanStartSource v → v.destination ≡ false →
      Follows (ByTest test) (started_host true true) v (view_started_itself v) (Contains alive) (Contains alive)
