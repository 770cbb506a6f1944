-- How each call moves the flows of an IMP.
use Rattle.imp_node.proofs.Common.{cases_Bool, Flow, Answer, HostMessage, Fate, Noted, Release, PacketFields, flow_of, PacketKind, carried_by, answer_to, ChannelFault, Frame, Received, fresh_carried, Message, Told, State, HostState, no_host, host_at, port_at, with_host, number, is_up, has_route, last, outstanding, is_request, Way, Nowhere, Here, Away, offered, from_host, is_from_here, reply_has_room, replied, taken_by, to_host, resend, route, claim, end_down, end_up, asked_by, ask}
use Rattle.imp_node.specs.Offering.{way_of}
use Rattle.std.proofs.Common.{◌≡◌, ℕ, ◌<◌, zero, suc, Bool, true, false, not, List, [], ◌∷◌, length, get_or, set, Option, Some, None, Result, Ok, Err, refl, ap, sym, ◌∙◌, subst, cond, ◌==◌, ◌⊎◌, inl, inr, eqb-true, eq-eqb, if◌then◌else◌}
use Rattle.std.proofs.lemmas.List.{get_or-set_same, get_or-set_other}
use Rattle.std.specs.FinMap as finite
use Rattle.bit_messages.specs.Body.{body, has_mark, text_of}
use Rattle.interface.specs.declared.crossing.Answer.TheVariants as answer
use Rattle.link_table.specs.Flows.{Sources, kept_in, told_by, told_in, last_in, outstanding_in, release_in, handed}
use Rattle.link_table.specs.Keys.{is_from}
use Rattle.link_table.specs.Numbers.{is_new}
use Rattle.link_table.specs.declared.destination.Asked.TheVariants as asked
use Rattle.link_table.specs.declared.destination.Fate.TheVariants as fate
use Rattle.link_table.specs.declared.source.Release.TheVariants as release
use Rattle.link_table.proofs.lemmas.{get_dropped, handed_last, handed_outstanding}
use Rattle.packetiser.specs.Slots.{answer_of}
use Rattle.packetiser.specs.declared.packet.PacketKind.TheVariants as kind
use Rattle.packetiser.specs.declared.reassembly.Added.{Added}
use Rattle.packetiser.specs.declared.reassembly.Added.TheVariants as piece
use Rattle.imp_channel.specs.declared.line.Received.TheVariants as received
use Rattle.imp_node.specs.Pump.{pump, target, stored}
use Rattle.imp_node.specs.Flows.{freed, next_number, with_begun, noted, fated, message_queued, answer_packet}
use Rattle.imp_node.specs.Arrival.{Arrival, Passing, Old, Undeliverable, Replying, Piece, NoSlot, Whole, Unmarked, Answering, piece_arrival, ask_arrival, arrival_by, arrival, arrived, frame_taken, acknowledged, ignored, fresh, taken_frame, from_line}
use Rattle.imp_node.specs.Stopping.{give_up, forget, abandon, all_handed, told_back, message_returned, stopped, host_up}
use Rattle.imp_node.specs.Sides.{answers_of, messages_of, Sender, Receiver, sender, receiver, begun_with, ended_with, noted_with, fated_with, queued_with, Unmoved, AllUnmoved, Moved}
use Rattle.imp_node.specs.Moves.{OfferMoves, AnswerMoves, MakesWhole, TellsFate, Tells, ArrivalSays, ArrivalMoves, FrameMoves, without_first, sender_told, TellingMoves, ReturningMoves, source_down, destination_down, source_up, destination_up, Becomes}
use Rattle.imp_node.proofs.SideLemmas.{same_at, set_there, same_sender, same_receiver, told_moved, begun_moved, given_up_moved, ended_moved, freed_moved, stale_unmoved, fated_moved, noted_moved, queued_moved, queue_sender, queue_elsewhere, queue_here}

-- ---- calls that move no flow

pub resend_unmoved : (s : State) → AllUnmoved s (resend s).state
resend_unmoved s f = record { sender = refl; receiver = refl }

pub route_unmoved : (s : State) → AllUnmoved s (route s).state
route_unmoved s f = record { sender = refl; receiver = refl }

pub claim_unmoved : (s : State) → AllUnmoved s (claim s).state
claim_unmoved s f = record { sender = refl; receiver = refl }

pub end_down_unmoved : (s : State) (k : ℕ) → AllUnmoved s (end_down s k).state
end_down_unmoved s k f = record { sender = refl; receiver = refl }

pub end_up_unmoved : (s : State) (k : ℕ) → AllUnmoved s (end_up s k).state
end_up_unmoved s k f = record { sender = refl; receiver = refl }

pub abandon_unmoved : (s : State) (g : Flow) → AllUnmoved s (abandon s g).state
abandon_unmoved s g f = record { sender = refl; receiver = refl }

asked_unmoved : (o : Option ℕ) (g : Flow) (s : State) → AllUnmoved s (pump [] (asked_by o g s)).state
asked_unmoved None g s f = record { sender = refl; receiver = refl }
asked_unmoved (Some n) g s f = record { sender = refl; receiver = refl }

pub ask_unmoved : (s : State) (g : Flow) → AllUnmoved s (ask s g).state
ask_unmoved s g = asked_unmoved _ g s

-- ---- from_host

-- the pump moves no flow: what a call moved before it stays so
pumped_moved : (s t : State) (g : Flow) (from : Sender) (to : Receiver) → Moved s t g from to → Moved s (pump [] t).state g from to
pumped_moved s t g from to m = record { sender = m.sender; receiver = m.receiver; others = λ f other. record { sender = (m.others f other).sender; receiver = (m.others f other).receiver } }

here_up : (s : State) (f : Flow) → way_of s f ≡ Here → is_up s f.destination.host ≡ true
here_up s f is = by (cases_Bool (f.destination.imp == number s)) (cases_Bool (is_up s _)) where
  by : ((f.destination.imp == number s) ≡ true) ⊎ ((f.destination.imp == number s) ≡ false) → (is_up s f.destination.host ≡ true) ⊎ (is_up s f.destination.host ≡ false) → is_up s f.destination.host ≡ true
  by here (inl up) = up
  by (inl own) (inr down) = let no : Nowhere ≡ Here = rw (own, down) at is in cc
  by (inr own) (inr down) = elim (cases_Bool (has_route s f.destination.imp)) [
    | inl there ↦ let no : Away ≡ Here = rw (own, there) at is in cc
    | inr none ↦ let no : Nowhere ≡ Here = rw (own, none) at is in cc
  ]

offered_moved : (way : Way) (m : HostMessage) (s : State) → (way ≡ Here → is_up s m.flow.destination.host ≡ true) → OfferMoves way m s (pump [] (offered way m s)).state
offered_moved Nowhere m s up = pumped_moved s _ m.flow _ _ (told_moved _ m.flow s)
offered_moved Here m s up =
    let n : ℕ = next_number s m.flow in
    let begun : State = with_begun m.flow s in
    let first : Moved s begun m.flow (begun_with n (sender s m.flow)) (receiver s m.flow) = begun_moved m.flow s in
    let second : Moved begun (noted m.flow n fate.Waits begun) m.flow (sender begun m.flow) (noted_with n fate.Waits (receiver begun m.flow)) = noted_moved m.flow n _ begun in
    let third : Moved (noted m.flow n fate.Waits begun) (message_queued (record { flow = m.flow; number = n; text = m.text }) (noted m.flow n fate.Waits begun)) m.flow (sender (noted m.flow n fate.Waits begun) m.flow) (queued_with (record { flow = m.flow; number = n; text = m.text }) (receiver (noted m.flow n fate.Waits begun) m.flow)) =
    queued_moved _ _ (up refl) in
    record {
      sender = third.sender ∙ second.sender ∙ first.sender;
      receiver = third.receiver ∙ ap (queued_with (record { flow = m.flow; number = n; text = m.text })) second.receiver;
      others = λ f other. record {
        sender = (third.others f other).sender ∙ (second.others f other).sender ∙ (first.others f other).sender;
        receiver = (third.others f other).receiver ∙ (second.others f other).receiver ∙ (first.others f other).receiver;
      };
    }
offered_moved Away m s up = record {
  sender = (begun_moved m.flow s).sender;
  receiver = (begun_moved m.flow s).receiver;
  others = λ f other. record { sender = ((begun_moved m.flow s).others f other).sender; receiver = ((begun_moved m.flow s).others f other).receiver };
}

pub from_host_moves : (s : State) (m : HostMessage) → OfferMoves (way_of s m.flow) m s (from_host s m).state
from_host_moves s m = offered_moved _ m s (here_up s m.flow)

-- ---- give_up

pub give_up_moves : (s : State) (f : Flow) → Moved s (give_up s f).state f (ended_with answer.Incomplete (sender s f)) (receiver s f)
give_up_moves s f = pumped_moved s _ f _ _ (ended_moved _ f s _ (given_up_moved f s))

-- ---- what arrivals say

data_says : (s : State) (p : PacketFields) (new up : Bool) (a : Added) → is_new (kept_in (finite.get s.kept (flow_of p))) p.number ≡ new → is_up s p.destination.host ≡ up → answer_of s.slots p ≡ a
    → p.kind ≡ kind.Data → p.destination.imp ≡ number s → ArrivalSays (cond (not new) Old (cond (not up) (Undeliverable fate.Dead kind.Dead) (piece_arrival a))) s p
data_says s p false up a is_n is_u is_a data_kind here = tt
data_says s p true false a is_n is_u is_a data_kind here = (record { request = ap is_request data_kind; here = here; new = is_n }, (refl, data_kind, is_u))
data_says s p true true piece.Kept is_n is_u is_a data_kind here = (record { request = ap is_request data_kind; here = here; new = is_n }, data_kind, is_a)
data_says s p true true piece.Old is_n is_u is_a data_kind here = tt
data_says s p true true piece.Full is_n is_u is_a data_kind here = (record { request = ap is_request data_kind; here = here; new = is_n }, is_a)
data_says s p true true (piece.Whole body) is_n is_u is_a data_kind here = at (has_mark body) refl where
  made : MakesWhole s p body
  made = record { new = record { request = ap is_request data_kind; here = here; new = is_n }; data_kind = data_kind; up = is_u; whole = is_a }

  at : (mark : Bool) → has_mark body ≡ mark → ArrivalSays (cond mark (Whole (text_of body)) Unmarked) s p
  at true is = (body, made, is, refl)
  at false is = (body, made, is)

-- a question about the number that is kept
told_says : (s : State) (p : PacketFields) (k : Noted) (f : Fate) → k.fate ≡ f → k.number ≡ p.number → finite.get s.kept (flow_of p) ≡ Some k → p.kind ≡ kind.Ask → p.destination.imp ≡ number s
    → ArrivalSays (ask_arrival (told_by f)) s p
told_says s p k fate.Waits is same kept question here = tt
told_says s p k fate.Taken is same kept question here = record { question = question; here = here; noted = k; kept = kept; same = same; tells = subst (λ (f : Fate). TellsFate f kind.Rfnm) (sym is) refl }
told_says s p k fate.Dead is same kept question here = record { question = question; here = here; noted = k; kept = kept; same = same; tells = subst (λ (f : Fate). TellsFate f kind.Dead) (sym is) refl }
told_says s p k fate.Never is same kept question here = record { question = question; here = here; noted = k; kept = kept; same = same; tells = subst (λ (f : Fate). TellsFate f kind.Never) (sym is) refl }

-- a question
ask_says : (s : State) (p : PacketFields) (o : Option Noted) (new : Bool) → finite.get s.kept (flow_of p) ≡ o → is_new (kept_in o) p.number ≡ new → p.kind ≡ kind.Ask → p.destination.imp ≡ number s
    → ArrivalSays (ask_arrival (cond new asked.Note (told_in o p.number))) s p
ask_says s p o true is is_n question here =
    (record { request = ap is_request question; here = here; new = ap (λ (k : Option Noted). is_new (kept_in k) p.number) is ∙ is_n }, (refl, question))
ask_says s p None false is is_n question here = tt
ask_says s p (Some k) false is is_n question here = elim (cases_Bool (k.number == p.number)) [
  | inl same ↦ rw same (told_says s p k k.fate refl (eqb-true k.number p.number same) is question here)
  | inr other ↦ rw other tt
]

kind_says : (s : State) (p : PacketFields) (k : PacketKind) → p.kind ≡ k → (target p == number s) ≡ true → ArrivalSays (arrival_by k s p) s p
kind_says s p kind.Data is own =
    data_says s p _ _ _ refl refl refl is
    (eqb-true p.destination.imp (number s) (let same : (p.destination.imp == number s) ≡ true = rw is at own in same))
kind_says s p kind.Rfnm is own =
    (eqb-true p.source.imp (number s) (let same : (p.source.imp == number s) ≡ true = rw is at own in same), subst (λ (k : PacketKind). Tells k answer.Rfnm) (sym is) tt)
kind_says s p kind.Dead is own =
    (eqb-true p.source.imp (number s) (let same : (p.source.imp == number s) ≡ true = rw is at own in same), subst (λ (k : PacketKind). Tells k answer.Dead) (sym is) tt)
kind_says s p kind.Ask is own =
    ask_says s p _ _ refl refl is
    (eqb-true p.destination.imp (number s) (let same : (p.destination.imp == number s) ≡ true = rw is at own in same))
kind_says s p kind.Never is own =
    (eqb-true p.source.imp (number s) (let same : (p.source.imp == number s) ≡ true = rw is at own in same), subst (λ (k : PacketKind). Tells k answer.NotTaken) (sym is) tt)

pub arrival_says : (s : State) (p : PacketFields) → ArrivalSays (arrival s p) s p
arrival_says s p = by (cases_Bool (target p == number s)) where
  by : ((target p == number s) ≡ true) ⊎ ((target p == number s) ≡ false) → ArrivalSays (arrival s p) s p
  by (inl own) = rw own (kind_says s p p.kind refl own)
  by (inr other) = rw other tt

-- ---- from_line

-- the packet's line and the frames that were put on it move no flow: what an arrival moved stays so
taken_moves : (a : Arrival) (k : ℕ) (f : Frame) (p : PacketFields) (s : State) → ArrivalSays a s p → ArrivalMoves a p s (pump (acknowledged k (frame_taken k f s)) (arrived a p (frame_taken k f s))).state
taken_moves Passing k f p s says = λ g. record { sender = refl; receiver = refl }
taken_moves Old k f p s says = λ g. record { sender = refl; receiver = refl }
taken_moves (Undeliverable new told) k f p s says = record {
  sender = refl;
  receiver = (noted_moved (flow_of p) p.number new s).receiver;
  others = λ g other. record { sender = refl; receiver = ((noted_moved (flow_of p) p.number new s).others g other).receiver };
}
taken_moves (Replying told) k f p s says = λ g. record { sender = refl; receiver = refl }
taken_moves Piece k f p s says = λ g. record { sender = refl; receiver = refl }
taken_moves NoSlot k f p s says = λ g. record { sender = refl; receiver = refl }
taken_moves (Whole text) k f p s says =
    let m : Message = record { flow = flow_of p; number = p.number; text = text } in
    let first : Moved s (noted (flow_of p) p.number fate.Waits s) (flow_of p) (sender s (flow_of p)) (noted_with p.number fate.Waits (receiver s (flow_of p))) = noted_moved _ _ _ s in
    let second : Moved (noted (flow_of p) p.number fate.Waits s) (message_queued m (noted (flow_of p) p.number fate.Waits s)) (flow_of p) (sender (noted (flow_of p) p.number fate.Waits s) (flow_of p)) (queued_with m (receiver (noted (flow_of p) p.number fate.Waits s) (flow_of p))) =
    queued_moved m _ says.1.up in
    record {
      sender = second.sender;
      receiver = second.receiver ∙ ap (queued_with m) first.receiver;
      others = λ g other. record { sender = (second.others g other).sender; receiver = (second.others g other).receiver ∙ (first.others g other).receiver };
    }
taken_moves Unmarked k f p s says = record {
  sender = refl;
  receiver = (noted_moved (flow_of p) p.number fate.Never s).receiver;
  others = λ g other. record { sender = refl; receiver = ((noted_moved (flow_of p) p.number fate.Never s).others g other).receiver };
}
taken_moves (Answering answer) k f p s says = by (release_in p.number (finite.get s.sources (flow_of p))) refl where
  t : State
  t = (pump (acknowledged k (frame_taken k f s)) (arrived (Answering answer) p (frame_taken k f s))).state

  by : (r : Release) → release_in p.number (finite.get s.sources (flow_of p)) ≡ r → AnswerMoves r answer (flow_of p) s t
  by release.Freed is =
      let m : Moved (frame_taken k f s) (freed answer (flow_of p) p.number (frame_taken k f s)) (flow_of p) (ended_with answer (sender s (flow_of p))) (receiver s (flow_of p)) = freed_moved answer _ _ _ is in
      record { sender = m.sender; receiver = m.receiver; others = λ g other. record { sender = (m.others g other).sender; receiver = (m.others g other).receiver } }
  by release.Stale is = λ g.
      let m : Unmoved (frame_taken k f s) (freed answer (flow_of p) p.number (frame_taken k f s)) g = stale_unmoved answer _ _ _ is g in
      record { sender = m.sender; receiver = m.receiver }

ignored_moves : (f : Frame) (s : State) → FrameMoves f s (ignored s).state
ignored_moves f s = inl (λ g. record { sender = refl; receiver = refl })

fresh_moves : (k : ℕ) (f : Frame) (p : PacketFields) (s : State) → carried_by f.content ≡ p ∷ [] → FrameMoves f s (fresh k f p s).state
fresh_moves k f p s is = at _ where
  at : (room : Bool) → FrameMoves f s (cond room (pump (acknowledged k (frame_taken k f s)) (arrived (arrival s p) p (frame_taken k f s))) (ignored s)).state
  at true = inr (p, is, taken_moves _ k f p s (arrival_says s p))
  at false = ignored_moves f s

frame_moves : (got : Result Received ChannelFault) (k : ℕ) (f : Frame) (s : State) → ((p : PacketFields) → got ≡ Ok (received.Fresh p) → carried_by f.content ≡ p ∷ []) → FrameMoves f s (taken_frame got k f s).state
frame_moves (Ok (received.Fresh p)) k f s brings = fresh_moves k f p s (brings p refl)
frame_moves (Ok received.Repeat) k f s brings = inl (λ g. record { sender = refl; receiver = refl })
frame_moves (Ok received.AckOnly) k f s brings = inl (λ g. record { sender = refl; receiver = refl })
frame_moves (Ok (received.Routes distances)) k f s brings = inl (λ g. record { sender = refl; receiver = refl })
frame_moves (Err fault) k f s brings = ignored_moves f s

pub from_line_moves : (s : State) (k : ℕ) (f : Frame) → FrameMoves f s (from_line s k f).state
from_line_moves s k f = at _ where
  at : (up : Bool) → FrameMoves f s (cond up (taken_frame (answer_to (port_at s.ports k).line f) k f s) (ignored s)).state
  at true = frame_moves (answer_to (port_at s.ports k).line f) k f s (λ p is. fresh_carried (port_at s.ports k).line f p is)
  at false = ignored_moves f s

-- ---- to_host

answer_moves : (s : State) (h : ℕ) (t : Told) (others : List Told) (queue : List Message) → is_up s h ≡ true → (host_at s h).answers ≡ t ∷ others → t.flow.source.host ≡ h
    → Moved s (pump [] (taken_by h (t ∷ others) queue s)).state t.flow (record (sender s t.flow) { answers = answers_of t.flow others }) (receiver s t.flow)
answer_moves s h t others queue up is at =
    let host : HostState = record (host_at s h) { answers = others } in
    let u : State = (pump [] (taken_by h (t ∷ others) queue s)).state in
    let here : get_or (set s.hosts h host) t.flow.source.host no_host ≡ host = ap (λ (k : ℕ). get_or (set s.hosts h host) k no_host) at ∙ set_there _ h host up in
    record {
      sender = same_sender _ _ _ _ _ _
          _ _
          (same_at (λ (x : HostState). x.up) s.hosts h t.flow.source.host host no_host refl) (handed_last _ t.flow t.flow) (handed_outstanding _ t.flow t.flow)
          (ap (λ (x : HostState). answers_of t.flow x.answers) here);
      receiver = beside t.flow;
      others = λ g other. record {
        sender = same_sender _ _ _ _ _ _
            _ _
            (same_at (λ (x : HostState). x.up) s.hosts h g.source.host host no_host refl) (handed_last _ t.flow g) (handed_outstanding _ t.flow g)
            (same_at (λ (x : HostState). answers_of g x.answers) s.hosts h g.source.host host no_host (rw is (rw other refl)));
        receiver = beside g;
      };
    }
  where
    beside : (g : Flow) → receiver (pump [] (taken_by h (t ∷ others) queue s)).state g ≡ receiver s g
    beside g =
        let host : HostState = record (host_at s h) { answers = others } in
        same_receiver _ _ _ _
        _ _
        (same_at (λ (x : HostState). x.up) s.hosts h g.destination.host host no_host refl) refl
        (same_at (λ (x : HostState). messages_of g x.queue) s.hosts h g.destination.host host no_host refl)

pub answer_taken : (s : State) (h : ℕ) (t : Told) (others : List Told) → is_up s h ≡ true → (host_at s h).answers ≡ t ∷ others → t.flow.source.host ≡ h
    → Moved s (to_host s h).state t.flow (record (sender s t.flow) { answers = answers_of t.flow others }) (receiver s t.flow)
answer_taken s h t others up is at =
    subst (λ (told : List Told). Moved s (pump [] (taken_by h told (host_at s h).queue s)).state t.flow (record (sender s t.flow) { answers = answers_of t.flow others }) (receiver s t.flow)) (sym is)
    (answer_moves s h t others (host_at s h).queue up is at)

-- the source of a message is notified where it is at this IMP
replied_moves : (kind : Answer) (packet : PacketKind) (m : Message) (s : State) → TellingMoves kind m s (replied kind packet m s)
replied_moves kind packet m s = at _ where
  by : (r : Release) → release_in m.number (finite.get s.sources m.flow) ≡ r → Moved s (freed kind m.flow m.number s) m.flow (sender_told true r kind (sender s m.flow)) (receiver s m.flow)
  by release.Freed is = freed_moved kind m.flow m.number s is
  by _ is =
      let still : AllUnmoved s (freed kind m.flow m.number s) = stale_unmoved kind m.flow _ s is in
      record { sender = (still m.flow).sender; receiver = (still m.flow).receiver; others = λ g other. still g }

  at : (here : Bool) → Moved s (cond here (freed kind m.flow m.number s) (stored (answer_packet packet m.flow m.number) s)) m.flow (sender_told here (release_in m.number (finite.get s.sources m.flow)) kind (sender s m.flow)) (receiver s m.flow)
  at true = by (release_in m.number (finite.get s.sources m.flow)) refl
  at false = record { sender = refl; receiver = refl; others = λ g other. record { sender = refl; receiver = refl } }

message_moves : (s : State) (h : ℕ) (m : Message) (others : List Message) → is_up s h ≡ true → (host_at s h).queue ≡ m ∷ others → m.flow.destination.host ≡ h
    → Moved s (pump [] (taken_by h [] (m ∷ others) s)).state m.flow (sender_told (is_from_here s m) (release_in m.number (finite.get s.sources m.flow)) answer.Rfnm (sender s m.flow)) (without_first others m.flow (fated_with m.number fate.Taken (receiver s m.flow)))
message_moves s h m others up is at =
    let left : State = with_host s h (record (host_at s h) { queue = others }) in
    let mid : State = fated m.flow m.number fate.Taken left in
    let ends : Moved left mid m.flow (sender left m.flow) (fated_with m.number fate.Taken (receiver left m.flow)) = fated_moved m.flow _ _ left in
    let told : TellingMoves answer.Rfnm m mid (replied answer.Rfnm kind.Rfnm m mid) = replied_moves _ kind.Rfnm m mid in
    record {
      sender = told.sender ∙ ap (sender_told (is_from_here s m) (release_in m.number (finite.get s.sources m.flow)) answer.Rfnm) (queue_sender s h others m.flow);
      receiver = told.receiver ∙ ends.receiver ∙ ap (fated_with m.number fate.Taken) (queue_here s h others m.flow at up);
      others = λ g other. record {
        sender = (told.others g other).sender ∙ queue_sender s h others g;
        receiver = (told.others g other).receiver ∙ (ends.others g other).receiver ∙ queue_elsewhere s h others g (rw is (rw other refl));
      };
    }

pub message_taken : (s : State) (h : ℕ) (m : Message) (others : List Message) → is_up s h ≡ true → (host_at s h).answers ≡ [] → (host_at s h).queue ≡ m ∷ others → m.flow.destination.host ≡ h
    → Moved s (to_host s h).state m.flow (sender_told (is_from_here s m) (release_in m.number (finite.get s.sources m.flow)) answer.Rfnm (sender s m.flow)) (without_first others m.flow (fated_with m.number fate.Taken (receiver s m.flow)))
message_taken s h m others up none is at =
    let from : Sender = sender_told (is_from_here s m) (release_in m.number (finite.get s.sources m.flow)) answer.Rfnm (sender s m.flow) in
    let to : Receiver = without_first others m.flow (fated_with m.number fate.Taken (receiver s m.flow)) in
    subst (λ (told : List Told). Moved s (pump [] (taken_by h told (host_at s h).queue s)).state m.flow from to) (sym none)
    (subst (λ (queue : List Message). Moved s (pump [] (taken_by h [] queue s)).state m.flow from to) (sym is) (message_moves s h m others up is at))

pub nothing_taken : (s : State) (h : ℕ) → (host_at s h).answers ≡ [] → (host_at s h).queue ≡ [] → AllUnmoved s (to_host s h).state
nothing_taken s h none empty =
    subst (λ (told : List Told). AllUnmoved s (pump [] (taken_by h told (host_at s h).queue s)).state) (sym none)
    (subst (λ (queue : List Message). AllUnmoved s (pump [] (taken_by h [] queue s)).state) (sym empty) (λ g. record { sender = refl; receiver = refl }))

-- ---- forget

pub forget_becomes : (s : State) (imp : ℕ) (f : Flow) → Becomes s (forget s imp).state f (sender s f) (record (receiver s f) { kept = if is_from imp f then None else finite.get s.kept f })
forget_becomes s imp f = record {
  sender = refl;
  receiver = same_receiver _ _ _ _ _ _ refl (get_dropped s.kept imp f) refl;
}

-- ---- a host goes down

down_there : (hosts : List HostState) (h : ℕ) → get_or (set hosts h no_host) h no_host ≡ no_host
down_there [] h = refl
down_there (x ∷ xs) zero = refl
down_there (x ∷ xs) (suc h) = down_there xs h

-- a field of the hosts after one was set
field_set : {X : Type 0} (F : HostState → X) (hosts : List HostState) (h k : ℕ) (x : HostState) → get_or (set hosts h x) h no_host ≡ x → F (get_or (set hosts h x) k no_host) ≡ cond (k == h) (F x) (F (get_or hosts k no_host))
field_set F hosts h k x there = elim (cases_Bool (k == h)) [
  | inl same ↦ rw same (ap (λ (i : ℕ). F (get_or (set hosts h x) i no_host)) (eqb-true k h same) ∙ ap F there)
  | inr other ↦ rw other (ap F (get_or-set_other hosts h k x no_host (λ (e : k ≡ h). let both : true ≡ false = sym (eq-eqb k h e) ∙ other in cc)))
]

all_handed_last : (told : List Told) (m : Sources) (g : Flow) → last_in (finite.get (all_handed told m) g) ≡ last_in (finite.get m g)
all_handed_last [] m g = refl
all_handed_last (t ∷ told) m g = all_handed_last told (handed m t.flow) g ∙ handed_last m t.flow g

all_handed_outstanding : (told : List Told) (m : Sources) (g : Flow) → outstanding_in (finite.get (all_handed told m) g) ≡ outstanding_in (finite.get m g)
all_handed_outstanding [] m g = refl
all_handed_outstanding (t ∷ told) m g = all_handed_outstanding told (handed m t.flow) g ∙ handed_outstanding m t.flow g

source_down_is : (b u : Bool) (l o : Option ℕ) (xs ys : List Answer) (v : Bool) → v ≡ cond b false u → ys ≡ cond b [] xs
    → (let t : Sender = record { source = v; last = l; outstanding = o; answers = ys } in let s : Sender = record { source = u; last = l; outstanding = o; answers = xs } in t ≡ source_down b s)
source_down_is true u l o xs ys v e f = rw (e, f) refl
source_down_is false u l o xs ys v e f = rw (e, f) refl

destination_down_is : (b u : Bool) (k : Option Noted) (ms ns : List Message) (v : Bool) → v ≡ cond b false u → ns ≡ cond b [] ms
    → (let t : Receiver = record { destination = v; kept = k; queue = ns } in let s : Receiver = record { destination = u; kept = k; queue = ms } in t ≡ destination_down b s)
destination_down_is true u k ms ns v e f = rw (e, f) refl
destination_down_is false u k ms ns v e f = rw (e, f) refl

pub stopped_becomes : (s : State) (h : ℕ) (f : Flow) → Becomes s (stopped s h) f (source_down (f.source.host == h) (sender s f)) (destination_down (f.destination.host == h) (receiver s f))
stopped_becomes s h f =
    let t : State = stopped s h in
    let there : get_or (set s.hosts h no_host) h no_host ≡ no_host = down_there _ h in
    record {
      sender =
          same_sender _ _ _ _ _ _ _ _ refl (all_handed_last (host_at s h).answers s.sources f) (all_handed_outstanding (host_at s h).answers s.sources f) refl
          ∙ source_down_is (f.source.host == h) (is_up s _) _ _ (answers_of f (host_at s f.source.host).answers) _ _
          (field_set (λ (x : HostState). x.up) _ h f.source.host no_host there)
          (field_set (λ (x : HostState). answers_of f x.answers) _ h f.source.host no_host there);
      receiver =
          destination_down_is (f.destination.host == h) (is_up s _) _ (messages_of f (host_at s f.destination.host).queue) _ _
          (field_set (λ (x : HostState). x.up) _ h f.destination.host no_host there)
          (field_set (λ (x : HostState). messages_of f x.queue) _ h f.destination.host no_host there);
    }

told_back_moves : (m : Message) (s : State) → TellingMoves answer.Dead m s (told_back m s)
told_back_moves m s = by (is_from_here s m) refl (replied_moves _ kind.Dead m s) where
  by : (here : Bool) → is_from_here s m ≡ here → TellingMoves answer.Dead m s (replied answer.Dead kind.Dead m s) → TellingMoves answer.Dead m s (told_back m s)
  by true is moves = let all : reply_has_room s m ≡ true = rw is refl in subst (λ (room : Bool). TellingMoves answer.Dead m s (cond room (replied answer.Dead kind.Dead m s) s)) (sym all) moves
  by false is moves = at _ where
    still : TellingMoves answer.Dead m s s
    still = record { sender = ap (λ (here : Bool). sender_told here (release_in m.number (finite.get s.sources m.flow)) answer.Dead (sender s m.flow)) (sym is); receiver = refl; others = λ g other. record { sender = refl; receiver = refl } }

    at : (room : Bool) → TellingMoves answer.Dead m s (cond room (replied answer.Dead kind.Dead m s) s)
    at true = moves
    at false = still

pub returned_moves : (m : Message) (s : State) → ReturningMoves m s (message_returned m s)
returned_moves m s =
    let mid : State = fated m.flow m.number fate.Dead s in
    let ends : Moved s mid m.flow (sender s m.flow) (fated_with m.number fate.Dead (receiver s m.flow)) = fated_moved m.flow _ _ s in
    let told : TellingMoves answer.Dead m mid (told_back m mid) = told_back_moves m mid in
    record {
      sender = told.sender;
      receiver = told.receiver ∙ ends.receiver;
      others = λ g other. record { sender = (told.others g other).sender; receiver = (told.others g other).receiver ∙ (ends.others g other).receiver };
    }

-- ---- a host comes up

source_up_is : (b u : Bool) (l o : Option ℕ) (xs ys : List Answer) (v : Bool) → v ≡ cond b true u → ys ≡ xs
    → (let t : Sender = record { source = v; last = l; outstanding = o; answers = ys } in let s : Sender = record { source = u; last = l; outstanding = o; answers = xs } in t ≡ source_up b s)
source_up_is true u l o xs ys v e f = rw (e, f) refl
source_up_is false u l o xs ys v e f = rw (e, f) refl

destination_up_is : (b u : Bool) (k : Option Noted) (ms ns : List Message) (v : Bool) → v ≡ cond b true u → ns ≡ ms
    → (let t : Receiver = record { destination = v; kept = k; queue = ns } in let s : Receiver = record { destination = u; kept = k; queue = ms } in t ≡ destination_up b s)
destination_up_is true u k ms ns v e f = rw (e, f) refl
destination_up_is false u k ms ns v e f = rw (e, f) refl

pub host_up_becomes : (s : State) (h : ℕ) (f : Flow) → h < length s.hosts → Becomes s (host_up s h).state f (source_up (f.source.host == h) (sender s f)) (destination_up (f.destination.host == h) (receiver s f))
host_up_becomes s h f within =
    let host : HostState = record (host_at s h) { up = true } in
    let t : State = (host_up s h).state in
    let there : get_or (set s.hosts h host) h no_host ≡ host = get_or-set_same s.hosts h host no_host within in
    record {
      sender = source_up_is (f.source.host == h) (is_up s _) _ _ _ _ _
          (field_set (λ (x : HostState). x.up) _ h f.source.host host there)
          (same_at (λ (x : HostState). answers_of f x.answers) s.hosts h f.source.host host no_host refl);
      receiver = destination_up_is (f.destination.host == h) (is_up s _) _ _ _ _
          (field_set (λ (x : HostState). x.up) _ h f.destination.host host there)
          (same_at (λ (x : HostState). messages_of f x.queue) s.hosts h f.destination.host host no_host refl);
    }
