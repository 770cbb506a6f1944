-- The fate of a number at its flow's destination, as the flow's law sees it.
use Rattle.subnet.proofs.Common.{Box, Fate, Noted, PacketKind, is_request, Message, Sender, Receiver, messages_of, fated_with, Flow, kind_of, queued_of, view_of}
use Rattle.std.proofs.Common.{◌≡◌, ℕ, Bool, true, false, List, [], ◌∷◌, map, Option, Some, None, refl, ap, ◌∙◌, ◌==◌, if◌then◌else◌}
use Rattle.std.specs.Option.{option_map}
use Rattle.link_table.specs.Flows.{kept_in, fate_in, ended_in}
use Rattle.link_table.specs.declared.destination.Fate.TheVariants as fate
use Rattle.packetiser.specs.declared.packet.PacketKind.TheVariants as kind
use Rattle.flow_law.specs.Moves.{with_fate, with_fates}
use Rattle.imp_node.specs.Moves.{without_first}
use Rattle.imp_node.specs.Queries as queries

-- data and questions are what travels to the destination
pub request_is : (k : PacketKind) → is_request (kind_of k) ≡ queries.is_request k
request_is kind.Data = refl
request_is kind.Rfnm = refl
request_is kind.Dead = refl
request_is kind.Ask = refl
request_is kind.Never = refl

-- ---- one message met another fate

pub kept_ended : (n : ℕ) (new : Fate) (o : Option Noted) → kept_in (option_map (ended_in n new) o) ≡ kept_in o
kept_ended n new None = refl
kept_ended n new (Some k) = by (k.number == n) where
  by : (b : Bool) → kept_in (Some (if b then record k { fate = new } else k)) ≡ Some k.number
  by true = refl
  by false = refl

pub fate_ended : (n : ℕ) (new : Fate) (o : Option Noted) → fate_in (option_map (ended_in n new) o) ≡ with_fate (kept_in o) n new (fate_in o)
fate_ended n new None = refl
fate_ended n new (Some k) = by (k.number == n) where
  by : (b : Bool) → fate_in (Some (if b then record k { fate = new } else k)) ≡ (if b then new else k.fate)
  by true = refl
  by false = refl

-- ---- all messages of a list did, the oldest first

abbrev pub ended_all : Fate → List Message → Option Noted → Option Noted
ended_all new [] o = o
ended_all new (m ∷ ms) o = ended_all new ms (option_map (ended_in m.number new) o)

pub kept_all : (new : Fate) (ms : List Message) (o : Option Noted) → kept_in (ended_all new ms o) ≡ kept_in o
kept_all new [] o = refl
kept_all new (m ∷ ms) o = kept_all new ms (option_map (ended_in m.number new) o) ∙ kept_ended _ new o

pub fate_all : (new : Fate) (ms : List Message) (o : Option Noted) → fate_in (ended_all new ms o) ≡ with_fates (kept_in o) (map queued_of ms) new (fate_in o)
fate_all new [] o = refl
fate_all new (m ∷ ms) o =
    let p : Option Noted = option_map (ended_in m.number new) o in
    fate_all new ms p
    ∙ ap (λ (k : Option ℕ). with_fates k (map queued_of ms) new (fate_in p)) (kept_ended _ new o)
    ∙ ap (λ (x : Fate). with_fates (kept_in o) (map queued_of ms) new x) (fate_ended _ new o)

-- ---- the view of a flow

-- where the number that is kept stays, only the fate is another one
pub view_fated : (u : Bool) (s : Sender) (w : Bool) (r : Receiver) (box : Box) (o : Option Noted) (x : Fate) → kept_in o ≡ kept_in r.kept → fate_in o ≡ x
    → view_of u s w (record r { kept = o }) box ≡ record (view_of u s w r box) { fate = x }
view_fated u s w r box o x same is = rw (same, is) refl

-- the oldest message was taken
pub taken_view : (u : Bool) (s : Sender) (w : Bool) (r : Receiver) (box : Box) (n : ℕ) (f : Flow) (others : List Message)
    → (let queue : List Message = messages_of f others in
    view_of u s w (without_first others f (fated_with n fate.Taken r)) box
    ≡ record (view_of u s w r box) { fate = with_fate (kept_in r.kept) n fate.Taken (fate_in r.kept); queue = map queued_of queue })
taken_view u s w r box n f others =
    let left : Receiver = record r { queue = messages_of f others } in
    view_fated u s w left box _ _ (kept_ended n _ r.kept) (fate_ended n _ r.kept)
