-- A law of src/law.rt: its fields are the clauses.
use Rattle.std.specs.Prelude.{All, Any, None, Some, false, if◌then◌else◌, true, ℕ, ◌≡◌, ◌⊎◌}
use Rattle.interface.specs.declared.address.Flow.{Flow}
use Rattle.interface.specs.declared.carrier.CarrierFault.TheVariants as fault
use Rattle.interface.specs.declared.message.HostMessage.{HostMessage}
use Rattle.imp_node.specs.Contents.{messages, packets}
use Rattle.imp_node.specs.Flows.{next_number}
use Rattle.imp_node.specs.Offering as offering
use Rattle.imp_node.specs.Offering.{from_host, from_host_refusal, way_has_room, way_of}
use Rattle.imp_node.specs.Queries.{holds, holds_data, is_message_between, is_request_between, last, message_has}
use Rattle.imp_node.specs.Queries.{message_touches, packet_has, packet_touches, touches}
use Rattle.imp_node.specs.State.{State}

-- What the answers to queries say.
pub record Asking : Type 0 where
  -- what an IMP holds of a message is in one of its packets or messages, and what it doesn't hold in none
  pub held :
      (s : State) (f : Flow) (n : ℕ) → holds s f n ≡ true → Any (λ p. packet_has f n p ≡ true) (packets s) ⊎
      Any (λ m. message_has f n m ≡ true) (messages s)
  pub not_held :
      (s : State) (f : Flow) (n : ℕ) → holds s f n ≡ false → All (λ p. packet_has f n p ≡ false) (packets s) ×
      All (λ m. message_has f n m ≡ false) (messages s)
  -- the same of data from one IMP to another, questions counted, and of anything of a flow from or to an IMP
  pub «data» :
      (s : State) (from to : ℕ) → holds_data s from to ≡ true →
      Any (λ p. is_request_between from to p ≡ true) (packets s) ⊎
      Any (λ m. is_message_between from to m ≡ true) (messages s)
  pub no_data :
      (s : State) (from to : ℕ) → holds_data s from to ≡ false →
      All (λ p. is_request_between from to p ≡ false) (packets s) ×
      All (λ m. is_message_between from to m ≡ false) (messages s)
  pub touched :
      (s : State) (imp : ℕ) → touches s imp ≡ true → Any (λ p. packet_touches imp p ≡ true) (packets s) ⊎
      Any (λ m. message_touches imp m ≡ true) (messages s)
  pub untouched :
      (s : State) (imp : ℕ) → touches s imp ≡ false → All (λ p. packet_touches imp p ≡ false) (packets s) ×
      All (λ m. message_touches imp m ≡ false) (messages s)
  -- a message of a flow that begins is refused only if there is no room, and else begins the next number
  pub begins :
      (s : State) (m : HostMessage) → offering.begins s m.flow ≡ true →
      from_host_refusal s m ≡ (if way_has_room (way_of s m.flow) s m then None else Some fault.NoRoom)
  pub number :
      (s : State) (m : HostMessage) → offering.begins s m.flow ≡ true →
      last (from_host s m).state m.flow ≡ Some (next_number s m.flow)
  -- and one of a flow that does not begin is refused, or begins none
  pub no_number :
      (s : State) (m : HostMessage) → offering.begins s m.flow ≡ false → from_host_refusal s m ≡ None →
      last (from_host s m).state m.flow ≡ last s m.flow
