-- Where a message that is taken went out, by the book; and two programs that start.
use Rattle.world_keeps_pairing.proofs.Common.{false, ◌≡◌, ℕ, ◌+◌, ◌-◌, Bool, List, [], ◌∷◌, ◌++◌, length, drop, Some, ap, sym, ◌∙◌, arith, eqb-true, Host, Flow, Crossing, HostMessage, Message, Receiver, Sender, message_on, control_flow, last_out, Moment, Crossed, Asked, places, opening_has, origin_or, place_or, Network}
use Rattle.std.proofs.lemmas.List.{append_assoc, length-append}
use Rattle.reset_law.specs.Boxes.{Box, Empty, Waiting, Taken}
use Rattle.net_sim.specs.Timeline.{crossings_of, seen_box}
use Rattle.net_sim.proofs.lemmas.{places_same, box_same, flow_of, waiting_out}
use Rattle.std.proofs.Math.Seq.{drop-append_seam}
use Rattle.interface.specs.Mailboxes as mail
use Rattle.interface.specs.declared.crossing.Crossing.TheVariants as crossing
use Rattle.promise.specs.Safe as book
use Rattle.world_keeps_pairing.proofs.Served.{AreServed}
use Rattle.world_keeps_pairing.proofs.Marks.{foreign_of, own_of}
use Rattle.world_keeps_pairing.proofs.Tied.{AreOrigins, IsOrigin, Tied}

-- ---- the crossings before a place

before_is : (newer older : List Crossing) (n : ℕ) → n ≡ length older → book.before n (newer ++ older) ≡ older
before_is newer older n e =
    let size : length (newer ++ older) ≡ length newer + length older = length-append newer older in
    let less : length (newer ++ older) - n ≡ length newer = omega (arith, size, e) in
    ap (λ (k : ℕ). drop k (newer ++ older)) less ∙ drop-append_seam newer older

seen_waiting : (link : ℕ) (box : mail.Box) (place : ℕ) (message : Message) → seen_box link box ≡ Waiting place message → (text : List Bool) × (box ≡ mail.Waiting place text)
seen_waiting link mail.Empty place message is = absurd (let both : Empty ≡ Waiting place message = is in cc)
seen_waiting link (mail.Waiting n text) place message is = (text, ap (λ (x : Box). mail.Waiting (place_of x) text) is) where
  place_of : Box → ℕ
  place_of Empty = 0
  place_of (Waiting n m) = n
  place_of (Taken n m) = n
seen_waiting link (mail.Taken n text) place message is = absurd (let both : Taken n (message_on link text) ≡ Waiting place message = is in cc)

origin_is : (none : ℕ) (log newer : List Crossing) (m : HostMessage) (moments : List Moment) → log ≡ newer ++ crossings_of (Crossed (crossing.In m) ∷ moments) → IsOrigin (origin_or none log) (Crossed (crossing.In m)) moments
origin_is none log newer m moments is = λ place box zero.
    let seen : seen_box m.flow.link.0 (mail.box_of m.flow (crossings_of moments)) ≡ Waiting place (message_on m.flow.link.0 m.text) = sym (box_same _ _ moments _) ∙ box in
    let waits : (text : List Bool) × (mail.box_of m.flow (crossings_of moments) ≡ mail.Waiting place text) = seen_waiting _ _ place _ seen in
    let out : last_out m.flow (crossings_of moments) ≡ Some place = waiting_out m.flow place _ (crossings_of moments) waits.1 in
    let flow : control_flow m.flow.source m.flow.destination ≡ m.flow = ap (λ (n : ℕ). flow_of m.flow.source m.flow.destination n) (sym (eqb-true m.flow.link.0 0 zero)) in
    let parts : log ≡ (newer ++ crossing.In m ∷ []) ++ crossings_of moments = is ∙ sym (append_assoc newer (crossing.In m ∷ []) (crossings_of moments)) in
    let older : book.before (places moments) log ≡ crossings_of moments = ap (λ (l : List Crossing). book.before (places moments) l) parts ∙ before_is _ _ _ (places_same moments) in
    ap (λ (l : List Crossing). place_or none (last_out (control_flow m.flow.source m.flow.destination) l)) older
    ∙ ap (λ (f : Flow). place_or none (last_out f (crossings_of moments))) flow
    ∙ ap (place_or none) out

-- ---- all moments

is_origin : (none : ℕ) (log newer : List Crossing) (x : Moment) (moments : List Moment) → log ≡ newer ++ crossings_of (x ∷ moments) → IsOrigin (origin_or none log) x moments
is_origin none log newer (Crossed (crossing.In m)) moments is = origin_is none log newer m moments is
is_origin none log newer (Crossed c) moments is = tt
is_origin none log newer (Asked h r) moments is = tt

pub served_below : (hosts : Network) (x : Moment) (moments : List Moment) → AreServed hosts (x ∷ moments) → AreServed hosts moments
served_below hosts (Crossed c) moments served = served
served_below hosts (Asked h r) moments served = served.1

older_log : (log newer : List Crossing) (x : Moment) (moments : List Moment) → log ≡ newer ++ crossings_of (x ∷ moments) → (more : List Crossing) × (log ≡ more ++ crossings_of moments)
older_log log newer (Crossed c) moments is = (newer ++ c ∷ [], is ∙ sym (append_assoc newer (c ∷ []) (crossings_of moments)))
older_log log newer (Asked h r) moments is = (newer, is)

-- by the book each message that was taken went out at its origin
pub are_origins : (none : ℕ) (log newer : List Crossing) (moments : List Moment) → log ≡ newer ++ crossings_of moments → AreOrigins (origin_or none log) moments
are_origins none log newer [] is = tt
are_origins none log newer (x ∷ moments) is =
    let more : (more : List Crossing) × (log ≡ more ++ crossings_of moments) = older_log log newer x moments is in
    (is_origin none log newer x moments is, are_origins none log more.0 moments more.1)

-- the opening
pub tied_opening : (origin : Host → Host → ℕ → ℕ) (a b : Host) → Tied origin a b []
tied_opening origin a b = record {
  steps = tt;
  receiver = λ s q. opening_has (origin a b) (own_of Receiver s) (foreign_of Receiver s) a b;
  sender = λ s q. opening_has (origin b a) (own_of Sender s) (foreign_of Sender s) b a;
  receiver_next = λ s q. omega arith;
  sender_next = λ s q. omega arith;
}
