-- What holds of an IMP after every call, if it held before.
use Rattle.imp_node.proofs.Common.{cases_Bool, Flow, Answer, HostMessage, Fate, Release, PacketKind, carried_by, answer_to, ChannelFault, Frame, Received, fresh_carried, Outgoing, Message, Told, State, HostState, opening_node, up_host, no_host, host_at, port_at, with_host, number, is_up, has_route, pump, is_from_here, replied, taken_by, to_host, resend, route, claim, end_down, end_up}
use Rattle.std.proofs.Common.{◌≡◌, ℕ, zero, suc, Bool, true, false, not, List, [], ◌∷◌, ◌++◌, get_or, set, Option, Some, None, Result, Ok, Err, refl, ◌∙◌, subst, cond, ◌==◌, inl, inr, eqb-true, All, replicate, arith}
use Rattle.std.specs.FinMap as finite
use Rattle.std.proofs.lemmas.List.Elements.{All-nil, All-head, All-tail, All-push}
use Rattle.interface.specs.declared.carrier.CarrierFault.{CarrierFault}
use Rattle.interface.specs.declared.carrier.CarrierFault.TheVariants as fault
use Rattle.interface.specs.declared.crossing.Answer.TheVariants as answer
use Rattle.link_table.specs.declared.destination.Fate.TheVariants as fate
use Rattle.link_table.specs.declared.source.Release.TheVariants as release
use Rattle.packetiser.specs.PacketFields.{PacketFields, IsPacket}
use Rattle.packetiser.specs.declared.packet.PacketKind.TheVariants as kind
use Rattle.packetiser.proofs.lemmas.{added_table, without_table}
use Rattle.imp_channel.specs.declared.line.Received.TheVariants as received
use Rattle.imp_node.specs.Flows.{given, answer_queued, answered_by, fated, message_queued}
use Rattle.imp_node.specs.Offering.{Way, Nowhere, Here, Away, way_of, is_own, offered, from_host, from_host_refusal}
use Rattle.imp_node.specs.Arrival.{Arrival, Passing, Old, Undeliverable, Replying, Piece, NoSlot, Whole, Unmarked, Answering, arrival, arrived, frame_taken, acknowledged, ignored, fresh, taken_frame, from_line}
use Rattle.imp_node.specs.Asking.{ask_refusal, asked_by, ask}
use Rattle.imp_node.specs.Stopping.{give_up, give_up_refusal, forget, abandon, message_returned, all_returned, stopped, host_down, host_up}
use Rattle.imp_node.specs.Moves.{ArrivalSays}
use Rattle.imp_node.specs.Sides.{IsImp}
use Rattle.imp_node.proofs.SidesOfCalls.{arrival_says}

-- ---- the hosts of an IMP

-- what holds of each element by its place holds after one was set
pub at_set : {A : Type 0} (P : ℕ → A → Type 0) (xs : List A) (k h : ℕ) (x d : A) → P h (get_or xs h d) → P k x → P h (get_or (set xs k x) h d)
at_set P [] k h x d old new = old
at_set P (y ∷ ys) zero zero x d old new = new
at_set P (y ∷ ys) zero (suc h) x d old new = old
at_set P (y ∷ ys) (suc k) zero x d old new = old
at_set P (y ∷ ys) (suc k) (suc h) x d old new = at_set (λ (n : ℕ). P (suc n)) ys k h x d old new

abbrev AnswersAt : ℕ → ℕ → HostState → Type 0
AnswersAt imp h host = All (λ told. told.flow.source ≡ record { imp = imp; host = h }) host.answers

abbrev QueueAt : ℕ → ℕ → HostState → Type 0
QueueAt imp h host = All (λ m. m.flow.destination ≡ record { imp = imp; host = h }) host.queue

-- an IMP that has another host in one's place
with_host_imp : (imp : ℕ) (s : State) (k : ℕ) (host : HostState) → IsImp imp s → AnswersAt imp k host → QueueAt imp k host → IsImp imp (with_host s k host)
with_host_imp imp s k host is answers queue = record {
  own = is.own;
  live = is.live;
  answers = λ h. at_set (AnswersAt imp) s.hosts k h host no_host (is.answers h) answers;
  queues = λ h. at_set (QueueAt imp) s.hosts k h host no_host (is.queues h) queue;
  slots = is.slots;
}

-- an IMP that differs in nothing that is spoken of
same_imp : (imp : ℕ) (s t : State) → IsImp imp s → t.routes.own ≡ s.routes.own → t.spent ≡ s.spent → t.hosts ≡ s.hosts → t.slots ≡ s.slots → IsImp imp t
same_imp imp s t is own live hosts slots = record {
  own = own ∙ is.own;
  live = live ∙ is.live;
  answers = λ h. rw hosts (is.answers h);
  queues = λ h. rw hosts (is.queues h);
  slots = rw slots is.slots;
}

-- ---- steps

told_imp : (imp : ℕ) (kind : Answer) (f : Flow) (s : State) → f.source.imp ≡ imp → IsImp imp s → IsImp imp (answer_queued kind f s)
told_imp imp kind f s here is =
    let host : HostState = given (host_at s f.source.host) (record { kind = kind; flow = f }) in
    let at : IsImp imp (with_host s f.source.host host) = with_host_imp imp s _ host is (by (is_up s _)) (is.queues f.source.host) in
    record { own = at.own; live = at.live; answers = at.answers; queues = at.queues; slots = at.slots }
  where
    by : (up : Bool) → All (λ told. told.flow.source ≡ record { imp = imp; host = f.source.host }) (cond up ((host_at s f.source.host).answers ++ record { kind = kind; flow = f } ∷ []) (host_at s f.source.host).answers)
    by true = All-push (λ (told : Told). told.flow.source ≡ record { imp = imp; host = f.source.host }) (host_at s f.source.host).answers (record { kind = kind; flow = f }) (is.answers f.source.host) (rw (← here) refl)
    by false = is.answers f.source.host

answered_imp : (imp : ℕ) (r : Release) (kind : Answer) (f : Flow) (n : ℕ) (s : State) → f.source.imp ≡ imp → IsImp imp s → IsImp imp (answered_by r kind f n s)
answered_imp imp release.Freed kind f n s here is = told_imp imp kind f _ here (record { own = is.own; live = is.live; answers = is.answers; queues = is.queues; slots = is.slots })
answered_imp imp release.Stale kind f n s here is = is

queued_imp : (imp : ℕ) (m : Message) (s : State) → m.flow.destination.imp ≡ imp → IsImp imp s → IsImp imp (message_queued m s)
queued_imp imp m s here is =
    let k : ℕ = m.flow.destination.host in
    with_host_imp imp s k _ is (is.answers k)
    (All-push (λ (x : Message). x.flow.destination ≡ record { imp = imp; host = m.flow.destination.host }) (host_at s m.flow.destination.host).queue m (is.queues m.flow.destination.host) (rw (← here) refl))

pumped_imp : (imp : ℕ) (frames : List Outgoing) (s : State) → IsImp imp s → IsImp imp (pump frames s).state
pumped_imp imp frames s is = record { own = is.own; live = is.live; answers = is.answers; queues = is.queues; slots = is.slots }

-- ---- calls that leave hosts and slots unchanged

pub resend_imp : (imp : ℕ) (s : State) → IsImp imp s → IsImp imp (resend s).state
resend_imp imp s is = record { own = is.own; live = is.live; answers = is.answers; queues = is.queues; slots = is.slots }

pub route_imp : (imp : ℕ) (s : State) → IsImp imp s → IsImp imp (route s).state
route_imp imp s is = record { own = is.own; live = is.live; answers = is.answers; queues = is.queues; slots = is.slots }

pub claim_imp : (imp : ℕ) (s : State) → IsImp imp s → IsImp imp (claim s).state
claim_imp imp s is = record { own = is.own; live = is.live; answers = is.answers; queues = is.queues; slots = is.slots }

pub end_down_imp : (imp : ℕ) (s : State) (k : ℕ) → IsImp imp s → IsImp imp (end_down s k).state
end_down_imp imp s k is = record { own = is.own; live = is.live; answers = is.answers; queues = is.queues; slots = is.slots }

pub end_up_imp : (imp : ℕ) (s : State) (k : ℕ) → IsImp imp s → IsImp imp (end_up s k).state
end_up_imp imp s k is = record { own = is.own; live = is.live; answers = is.answers; queues = is.queues; slots = is.slots }

pub forget_imp : (imp : ℕ) (s : State) (other : ℕ) → IsImp imp s → IsImp imp (forget s other).state
forget_imp imp s other is = record { own = is.own; live = is.live; answers = is.answers; queues = is.queues; slots = is.slots }

pub abandon_imp : (imp : ℕ) (s : State) (f : Flow) → IsImp imp s → IsImp imp (abandon s f).state
abandon_imp imp s f is = record { own = is.own; live = is.live; answers = is.answers; queues = is.queues; slots = without_table _ f is.slots }

-- ---- from_host, give_up

-- what is not refused comes from a host of the IMP
own_source : (s : State) (f : Flow) (others : Option CarrierFault) → cond (not (is_own s f.source)) (Some fault.NoSuch) others ≡ None → f.source.imp ≡ number s
own_source s f others is = elim (cases_Bool (f.source.imp == number s)) [
  | inl own ↦ eqb-true f.source.imp (number s) own
  | inr other ↦ let no : Some fault.NoSuch ≡ None = rw other at is in cc
]

offered_imp : (imp : ℕ) (way : Way) (m : HostMessage) (s : State) → m.flow.source.imp ≡ imp → (way ≡ Here → m.flow.destination.imp ≡ imp) → IsImp imp s → IsImp imp (offered way m s)
offered_imp imp Nowhere m s from to is = told_imp imp _ m.flow s from is
offered_imp imp Here m s from to is =
    queued_imp imp _ _ (to refl)
    (record { own = is.own; live = is.live; answers = is.answers; queues = is.queues; slots = is.slots })
offered_imp imp Away m s from to is = record { own = is.own; live = is.live; answers = is.answers; queues = is.queues; slots = is.slots }

pub here_imp : (s : State) (f : Flow) → way_of s f ≡ Here → f.destination.imp ≡ number s
here_imp s f is = elim (cases_Bool (f.destination.imp == number s)) [
  | inl own ↦ eqb-true f.destination.imp (number s) own
  | inr other ↦ elim (cases_Bool (has_route s f.destination.imp)) [
    | inl there ↦ let no : Away ≡ Here = rw (other, there) at is in cc
    | inr none ↦ let no : Nowhere ≡ Here = rw (other, none) at is in cc
  ]
]

pub from_host_imp : (imp : ℕ) (s : State) (m : HostMessage) → from_host_refusal s m ≡ None → IsImp imp s → IsImp imp (from_host s m).state
from_host_imp imp s m accepted is =
    pumped_imp imp [] _
    (offered_imp imp _ m s (own_source s m.flow _ accepted ∙ is.own) (λ here. here_imp s m.flow here ∙ is.own) is)

pub give_up_imp : (imp : ℕ) (s : State) (f : Flow) → give_up_refusal s f ≡ None → IsImp imp s → IsImp imp (give_up s f).state
give_up_imp imp s f accepted is =
    pumped_imp imp [] _
    (told_imp imp _ f _ (own_source s f _ accepted ∙ is.own) (record { own = is.own; live = is.live; answers = is.answers; queues = is.queues; slots = is.slots }))

-- ---- ask

pub asking_own : (s : State) (f : Flow) → ask_refusal s f ≡ None → f.source.imp ≡ number s
asking_own s f accepted = own_source s f _ accepted

asked_imp : (imp : ℕ) (o : Option ℕ) (f : Flow) (s : State) → IsImp imp s → IsImp imp (asked_by o f s)
asked_imp imp None f s is = is
asked_imp imp (Some n) f s is = record { own = is.own; live = is.live; answers = is.answers; queues = is.queues; slots = is.slots }

pub ask_imp : (imp : ℕ) (s : State) (f : Flow) → IsImp imp s → IsImp imp (ask s f).state
ask_imp imp s f is = pumped_imp imp [] _ (asked_imp imp _ f s is)

-- ---- from_line

arrived_imp : (imp : ℕ) (a : Arrival) (p : PacketFields) (s t : State) → ArrivalSays a s p → number s ≡ imp → IsPacket p → IsImp imp t → IsImp imp (arrived a p t)
arrived_imp imp Passing p s t says own format is = record { own = is.own; live = is.live; answers = is.answers; queues = is.queues; slots = is.slots }
arrived_imp imp Old p s t says own format is = is
arrived_imp imp (Replying told) p s t says own format is = record { own = is.own; live = is.live; answers = is.answers; queues = is.queues; slots = is.slots }
arrived_imp imp (Undeliverable new told) p s t says own format is = record { own = is.own; live = is.live; answers = is.answers; queues = is.queues; slots = without_table _ _ is.slots }
arrived_imp imp Piece p s t says own format is = record { own = is.own; live = is.live; answers = is.answers; queues = is.queues; slots = added_table _ p is.slots format says.1 }
arrived_imp imp NoSlot p s t says own format is = is
arrived_imp imp (Whole text) p s t says own format is =
    queued_imp imp _ _ (says.1.new.here ∙ own)
    (record { own = is.own; live = is.live; answers = is.answers; queues = is.queues; slots = added_table _ p is.slots format says.1.data_kind })
arrived_imp imp Unmarked p s t says own format is = record { own = is.own; live = is.live; answers = is.answers; queues = is.queues; slots = added_table _ p is.slots format says.1.data_kind }
arrived_imp imp (Answering kind) p s t says own format is = answered_imp imp _ kind _ _ t (says.0 ∙ own) is

taken_imp : (imp : ℕ) (k : ℕ) (f : Frame) (s : State) → IsImp imp s → IsImp imp (frame_taken k f s)
taken_imp imp k f s is = record { own = is.own; live = is.live; answers = is.answers; queues = is.queues; slots = is.slots }

fresh_imp : (imp : ℕ) (k : ℕ) (f : Frame) (p : PacketFields) (s : State) → IsPacket p → IsImp imp s → IsImp imp (fresh k f p s).state
fresh_imp imp k f p s format is = at _ where
  at : (room : Bool) → IsImp imp (cond room (pump (acknowledged k (frame_taken k f s)) (arrived (arrival s p) p (frame_taken k f s))) (ignored s)).state
  at true = pumped_imp imp (acknowledged k (frame_taken k f s)) _ (arrived_imp imp _ p s _ (arrival_says s p) is.own format (taken_imp imp k f s is))
  at false = is

frame_imp : (imp : ℕ) (got : Result Received ChannelFault) (k : ℕ) (f : Frame) (s : State) → ((p : PacketFields) → got ≡ Ok (received.Fresh p) → IsPacket p) → IsImp imp s → IsImp imp (taken_frame got k f s).state
frame_imp imp (Ok (received.Fresh p)) k f s format is = fresh_imp imp k f p s (format p refl) is
frame_imp imp (Ok received.Repeat) k f s format is = record { own = is.own; live = is.live; answers = is.answers; queues = is.queues; slots = is.slots }
frame_imp imp (Ok received.AckOnly) k f s format is = record { own = is.own; live = is.live; answers = is.answers; queues = is.queues; slots = is.slots }
frame_imp imp (Ok (received.Routes distances)) k f s format is = record { own = is.own; live = is.live; answers = is.answers; queues = is.queues; slots = is.slots }
frame_imp imp (Err fault) k f s format is = is

pub from_line_imp : (imp : ℕ) (s : State) (k : ℕ) (f : Frame) → All IsPacket (carried_by f.content) → IsImp imp s → IsImp imp (from_line s k f).state
from_line_imp imp s k f formats is = at _ where
  format : (p : PacketFields) → answer_to (port_at s.ports k).line f ≡ Ok (received.Fresh p) → IsPacket p
  format p fresh = All-head IsPacket p [] (subst (All IsPacket) (fresh_carried (port_at s.ports k).line f p fresh) formats)

  at : (up : Bool) → IsImp imp (cond up (taken_frame (answer_to (port_at s.ports k).line f) k f s) (ignored s)).state
  at true = frame_imp imp (answer_to (port_at s.ports k).line f) k f s format is
  at false = is

-- ---- to_host, host_down, host_up

fated_imp : (imp : ℕ) (f : Flow) (n : ℕ) (new : Fate) (s : State) → IsImp imp s → IsImp imp (fated f n new s)
fated_imp imp f n new s is = record { own = is.own; live = is.live; answers = is.answers; queues = is.queues; slots = is.slots }

replied_imp : (imp : ℕ) (kind : Answer) (packet : PacketKind) (m : Message) (s : State) → IsImp imp s → IsImp imp (replied kind packet m s)
replied_imp imp kind packet m s is = elim (cases_Bool (is_from_here s m)) [
  | inl here ↦ rw here (answered_imp imp _ kind m.flow _ s (eqb-true m.flow.source.imp (number s) here ∙ is.own) is)
  | inr other ↦ rw other (record { own = is.own; live = is.live; answers = is.answers; queues = is.queues; slots = is.slots })
]

taken_by_imp : (imp : ℕ) (h : ℕ) (told : List Told) (queue : List Message) (s : State) → (host_at s h).answers ≡ told → (host_at s h).queue ≡ queue → IsImp imp s → IsImp imp (taken_by h told queue s)
taken_by_imp imp h (t ∷ others) queue s answers queues is =
    let old : All (λ (x : Told). x.flow.source ≡ record { imp = imp; host = h }) (t ∷ others) = subst (All (λ (x : Told). x.flow.source ≡ record { imp = imp; host = h })) answers (is.answers h) in
    let at : IsImp imp (with_host s h (record (host_at s h) { answers = others })) =
    with_host_imp imp s h _ is (All-tail (λ (x : Told). x.flow.source ≡ record { imp = imp; host = h }) t others old) (is.queues h) in
    record { own = at.own; live = at.live; answers = at.answers; queues = at.queues; slots = at.slots }
taken_by_imp imp h [] (m ∷ others) s answers queues is =
    let old : All (λ (x : Message). x.flow.destination ≡ record { imp = imp; host = h }) (m ∷ others) = subst (All (λ (x : Message). x.flow.destination ≡ record { imp = imp; host = h })) queues (is.queues h) in
    replied_imp imp _ kind.Rfnm m _
    (fated_imp imp m.flow _ _ _ (with_host_imp imp s h _ is (is.answers h) (All-tail (λ (x : Message). x.flow.destination ≡ record { imp = imp; host = h }) m others old)))
taken_by_imp imp h [] [] s answers queues is = is

pub to_host_imp : (imp : ℕ) (s : State) (h : ℕ) → IsImp imp s → IsImp imp (to_host s h).state
to_host_imp imp s h is = pumped_imp imp [] _ (taken_by_imp imp h _ _ s refl refl is)

returned_imp : (imp : ℕ) (m : Message) (s : State) → IsImp imp s → IsImp imp (message_returned m s)
returned_imp imp m s is = at _ where
  t : State
  t = fated m.flow m.number fate.Dead s

  has : IsImp imp t
  has = fated_imp imp m.flow _ _ s is

  at : (room : Bool) → IsImp imp (cond room (replied answer.Dead kind.Dead m t) t)
  at true = replied_imp imp answer.Dead kind.Dead m t has
  at false = has

all_returned_imp : (imp : ℕ) (ms : List Message) (s : State) → IsImp imp s → IsImp imp (all_returned ms s)
all_returned_imp imp [] s is = is
all_returned_imp imp (m ∷ ms) s is = all_returned_imp imp ms (message_returned m s) (returned_imp imp m s is)

pub host_down_imp : (imp : ℕ) (s : State) (h : ℕ) → IsImp imp s → IsImp imp (host_down s h).state
host_down_imp imp s h is =
    let at : IsImp imp (with_host s h no_host) = with_host_imp imp s h no_host is (All-nil _) (All-nil _) in
    pumped_imp imp [] _ (all_returned_imp imp (host_at s h).queue (stopped s h) (record { own = at.own; live = at.live; answers = at.answers; queues = at.queues; slots = at.slots }))

pub host_up_imp : (imp : ℕ) (s : State) (h : ℕ) → IsImp imp s → IsImp imp (host_up s h).state
host_up_imp imp s h is = pumped_imp imp [] _ (with_host_imp imp s h _ is (is.answers h) (is.queues h))

-- ---- at the opening

pub opening_answers : (count h : ℕ) → (get_or (replicate count up_host) h no_host).answers ≡ []
opening_answers zero h = refl
opening_answers (suc count) zero = refl
opening_answers (suc count) (suc h) = opening_answers count h

pub opening_queue : (count h : ℕ) → (get_or (replicate count up_host) h no_host).queue ≡ []
opening_queue zero h = refl
opening_queue (suc count) zero = refl
opening_queue (suc count) (suc h) = opening_queue count h

pub opening_imp : (own hosts ports : ℕ) → IsImp own (opening_node own hosts ports)
opening_imp own hosts ports = record {
  own = refl;
  live = refl;
  answers = λ h. rw (opening_answers hosts h) (All-nil _);
  queues = λ h. rw (opening_queue hosts h) (All-nil _);
  slots = record { few = omega arith; in_order = tt; sound = All-nil _ };
}
