-- Only an offer makes a message outstanding at an IMP: so after any other call the numbers of outstanding messages are as low as before.
use Rattle.subnet.proofs.Common.{cases_Bool, same_flow, Flow, Answer, HostMessage, same_flow-true, release_in, Release, PacketFields, Frame, Message, Told, next_number, Way, Nowhere, Here, Away, from_host, outstanding, Sender, Receiver, sender, begun_with, ended_with, AllUnmoved, Moved, ask, give_up, message_returned, all_returned, stopped, host_down, to_host}
use Rattle.std.proofs.Common.{◌≡◌, ℕ, ◌≤◌, Bool, true, false, List, [], ◌∷◌, Some, refl, ap, sym, subst, ◌∙◌, inl, inr}
use Rattle.std.specs.FinMap as finite
use Rattle.interface.specs.declared.crossing.Answer.TheVariants as answer
use Rattle.link_table.specs.declared.destination.Fate.TheVariants as fate
use Rattle.link_table.specs.declared.source.Release.TheVariants as release
use Rattle.imp_node.specs.State.{State, host_at, is_up}
use Rattle.imp_node.specs.Arrival.{Arrival, Passing, Old, Undeliverable, Replying, Piece, NoSlot, Whole, Unmarked, Answering, from_line}
use Rattle.imp_node.specs.Moves.{OfferMoves, AnswerMoves, ArrivalMoves, sender_told, source_down}
use Rattle.imp_node.proofs.lemmas.{answer_taken, ask_unmoved, from_host_moves, from_line_moves, give_up_moves, message_taken, nothing_taken, returned_moves, stopped_becomes}
use Rattle.subnet.specs.Inside.Highest.{OutstandingUpTo}

-- ---- where each flow's source stays, and where that of one flow moves

same_low : (h : ℕ) (s t : State) → ((f : Flow) → outstanding t f ≡ outstanding s f) → OutstandingUpTo h s → OutstandingUpTo h t
same_low h s t same low f number is = low f number (sym (same f) ∙ is)

unmoved_low : (h : ℕ) (s t : State) → AllUnmoved s t → OutstandingUpTo h s → OutstandingUpTo h t
unmoved_low h s t still low = same_low h s t (λ f. ap (λ (x : Sender). x.outstanding) (still f).sender) low

-- what is outstanding at a source has a number up to this
abbrev SenderUpTo : ℕ → Sender → Type 0
SenderUpTo h x = (number : ℕ) → x.outstanding ≡ Some number → number ≤ h

moved_low : (h : ℕ) (s t : State) (g : Flow) (from : Sender) (to : Receiver) → Moved s t g from to → SenderUpTo h from → OutstandingUpTo h s → OutstandingUpTo h t
moved_low h s t g from to moved here low f number is = elim (cases_Bool (same_flow f g)) [
  | inl same ↦ (let ours : f ≡ g = same_flow-true f g same in
      here number (ap (λ (x : Sender). x.outstanding) (sym moved.sender) ∙ ap (outstanding t) (sym ours) ∙ is))
  | inr other ↦ low f number (ap (λ (x : Sender). x.outstanding) (sym (moved.others f other).sender) ∙ is)
]

ended_low : (h : ℕ) (k : Answer) (x : Sender) → SenderUpTo h (ended_with k x)
ended_low h k x number is = absurd (cc)

begun_low : (h next : ℕ) (x : Sender) → next ≤ h → SenderUpTo h (begun_with next x)
begun_low h next x low number is = let same : next ≡ number = cc in subst (λ (k : ℕ). k ≤ h) same low

told_low : (h : ℕ) (here : Bool) (e : Release) (k : Answer) (x : Sender) → SenderUpTo h x → SenderUpTo h (sender_told here e k x)
told_low h true release.Freed k x low = ended_low h k x
told_low h true release.Stale k x low = low
told_low h false e k x low = low

-- ---- each call

pub give_up_low : (h : ℕ) (s : State) (f : Flow) → OutstandingUpTo h s → OutstandingUpTo h (give_up s f).state
give_up_low h s f low =
    moved_low h s _ f _ _ (give_up_moves s f) (ended_low h answer.Incomplete (sender s f)) low

pub ask_low : (h : ℕ) (s : State) (f : Flow) → OutstandingUpTo h s → OutstandingUpTo h (ask s f).state
ask_low h s f low = unmoved_low h s _ (ask_unmoved s f) low

offered_low : (h : ℕ) (way : Way) (m : HostMessage) (s t : State) → OfferMoves way m s t → next_number s m.flow ≤ h → OutstandingUpTo h s → OutstandingUpTo h t
offered_low h Nowhere m s t moved next low = moved_low h s t m.flow _ _ moved (low m.flow) low
offered_low h Here m s t moved next low =
    let k : ℕ = next_number s m.flow in
    moved_low h s t m.flow _ _ moved (begun_low h k (sender s m.flow) next) low
offered_low h Away m s t moved next low =
    let k : ℕ = next_number s m.flow in
    moved_low h s t m.flow _ _ moved (begun_low h k (sender s m.flow) next) low

pub from_host_low : (h : ℕ) (s : State) (m : HostMessage) → next_number s m.flow ≤ h → OutstandingUpTo h s → OutstandingUpTo h (from_host s m).state
from_host_low h s m next low = offered_low h _ m s _ (from_host_moves s m) next low

answered_low : (h : ℕ) (e : Release) (k : Answer) (f : Flow) (s t : State) → AnswerMoves e k f s t → OutstandingUpTo h s → OutstandingUpTo h t
answered_low h release.Freed k f s t moved low = moved_low h s t f _ _ moved (ended_low h k (sender s f)) low
answered_low h release.Stale k f s t still low = unmoved_low h s t still low

arrived_low : (h : ℕ) (a : Arrival) (p : PacketFields) (s t : State) → ArrivalMoves a p s t → OutstandingUpTo h s → OutstandingUpTo h t
arrived_low h Passing p s t still low = unmoved_low h s t still low
arrived_low h Old p s t still low = unmoved_low h s t still low
arrived_low h (Undeliverable new told) p s t moved low = moved_low h s t _ _ _ moved (low _) low
arrived_low h (Replying told) p s t still low = unmoved_low h s t still low
arrived_low h Piece p s t still low = unmoved_low h s t still low
arrived_low h NoSlot p s t still low = unmoved_low h s t still low
arrived_low h (Whole text) p s t moved low =
    moved_low h s t _ _ _ moved (low _) low
arrived_low h Unmarked p s t moved low = moved_low h s t _ _ _ moved (low _) low
arrived_low h (Answering kind) p s t moves low = answered_low h _ kind _ s t moves low

pub from_line_low : (h : ℕ) (s : State) (k : ℕ) (f : Frame) → OutstandingUpTo h s → OutstandingUpTo h (from_line s k f).state
from_line_low h s k f low = elim (from_line_moves s k f) [
  | inl still ↦ unmoved_low h s _ still low
  | inr moves ↦ arrived_low h _ _ s _ moves.2 low
]

-- a host takes something: it is up, and what waits for it is for it
pub to_host_low : (h : ℕ) (s : State) (k : ℕ) (ts : List Told) (ms : List Message) → is_up s k ≡ true → (host_at s k).answers ≡ ts → (host_at s k).queue ≡ ms
    → ((t : Told) (others : List Told) → ts ≡ t ∷ others → t.flow.source.host ≡ k) → ((m : Message) (others : List Message) → ms ≡ m ∷ others → m.flow.destination.host ≡ k)
    → OutstandingUpTo h s → OutstandingUpTo h (to_host s k).state
to_host_low h s k (t ∷ others) ms up answers queue told waits low =
    moved_low h s _ t.flow _ _ (answer_taken s k t others up answers (told t others refl)) (low t.flow) low
to_host_low h s k [] (m ∷ others) up answers queue told waits low =
    let e : Release = release_in m.number (finite.get s.sources m.flow) in
    moved_low h s _ m.flow _ _
    (message_taken s k m others up answers queue (waits m others refl)) (told_low h _ e _ _ (low m.flow)) low
to_host_low h s k [] [] up answers queue told waits low = unmoved_low h s _ (nothing_taken s k answers queue) low

-- ---- a host goes down

returned_low : (h : ℕ) (ms : List Message) (s : State) → OutstandingUpTo h s → OutstandingUpTo h (all_returned ms s)
returned_low h [] s low = low
returned_low h (m ∷ ms) s low =
    let e : Release = release_in m.number (finite.get s.sources m.flow) in
    returned_low h ms (message_returned m s)
    (moved_low h s _ m.flow _ _ (returned_moves m s)
    (told_low h _ e _ _ (low m.flow)) low)

pub down_same : (b : Bool) (x : Sender) → (source_down b x).outstanding ≡ x.outstanding
down_same true x = refl
down_same false x = refl

pub host_down_low : (h : ℕ) (s : State) (k : ℕ) → OutstandingUpTo h s → OutstandingUpTo h (host_down s k).state
host_down_low h s k low =
    returned_low h (host_at s k).queue (stopped s k)
    (same_low h s (stopped s k) (λ f. ap (λ (x : Sender). x.outstanding) (stopped_becomes s k f).sender ∙ down_same _ _) low)
