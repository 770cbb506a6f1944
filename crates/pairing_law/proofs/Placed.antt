-- Texts that carry their places make a run as well: so what was heard is a prefix of what was said, with its places.
use Rattle.std.proofs.Common.{◌≡◌, ℕ, zero, suc, Bool, true, false, not, ◌&&◌, ◌||◌, List, [], ◌∷◌, refl, ap, sym, subst, ◌∙◌, if◌then◌else◌, ◌+◌}
use Rattle.interface.specs.Host.{Host, same_host}
use Rattle.interface.specs.declared.crossing.Answer.{Answer}
use Rattle.interface.specs.declared.crossing.Answer.TheVariants as answer
use Rattle.reset_law.specs.Events.{Message, Reset, Reply, Other, Event, Contact, Out, In, Told, Down, Up, Idle, Call, Send, Take, Hear, Begin, when, are, place, up_after_event, is_up}
use Rattle.reset_law.specs.Boxes.{Box, Empty, Waiting, Taken, WaitsWith, Fits, Put, Fetch, Clear, ClearAll, fetched, posted, boxes}
use Rattle.reset_law.specs.Pairs.{Pair, MaySend, pair_moved, pair}
use Rattle.reset_law.specs.Runs.{IsRun}
use Rattle.ncp_control.specs.Phases.{is_ready}
use Rattle.reset_law.specs.Stays.{ready, takes_reset, stays, heard_in_stay, said_in_stay, IsPrefix}
use Rattle.reset_law.proofs.lemmas.{heard_front}
use Rattle.pairing_law.specs.Places.{tagged, with_place, with_box, placed_event, placed}
use Rattle.reset_law.specs.Network.{AreOurs, Network}

-- ---- tags

head_of : List Bool → Bool
head_of [] = false
head_of (b ∷ bits) = b

tail_of : List Bool → List Bool
tail_of [] = []
tail_of (b ∷ bits) = bits

-- the place and the text are determined by the tagged text
pub tagged_once : (p q : ℕ) (s t : List Bool) → tagged p s ≡ tagged q t → (p ≡ q) × (s ≡ t)
unfolding head_of tail_of
tagged_once zero zero s t e = (refl, ap tail_of e)
tagged_once zero (suc q) s t e = absurd (let both : false ≡ true = ap head_of e in cc)
tagged_once (suc p) zero s t e = absurd (let both : true ≡ false = ap head_of e in cc)
tagged_once (suc p) (suc q) s t e = let h : (p ≡ q) × (s ≡ t) = tagged_once p q s t (ap tail_of e) in (ap suc h.0, h.1)

-- ---- nothing else changes

place_same : (events : List Event) → place (placed events) ≡ place events
place_same [] = refl
place_same (Contact x y ∷ events) = place_same events
place_same (Out x y l m ∷ events) = ap (λ (n : ℕ). 1 + n) (place_same events)
place_same (In x y l m ∷ events) = ap (λ (n : ℕ). 1 + n) (place_same events)
place_same (Told x y l k ∷ events) = ap (λ (n : ℕ). 1 + n) (place_same events)
place_same (Down x ∷ events) = ap (λ (n : ℕ). 1 + n) (place_same events)
place_same (Up x ∷ events) = ap (λ (n : ℕ). 1 + n) (place_same events)
place_same (Idle ∷ events) = place_same events

sent_same : (t : Bool) (l q : ℕ) (m : Message) (p : Pair) → pair_moved (when t (Send l (with_place q m))) p ≡ pair_moved (when t (Send l m)) p
sent_same true l q Reset p = refl
sent_same true l q Reply p = refl
sent_same true l q (Other text) p = refl
sent_same false l q m p = refl

took_place : (t : Bool) (q : ℕ) (m : Message) (p : Pair) → pair_moved (when t (Take (with_place q m))) p ≡ pair_moved (when t (Take m)) p
took_place true q Reset p = refl
took_place true q Reply p = refl
took_place true q (Other text) p = refl
took_place false q m p = refl

took_same : (t : Bool) (x : Box) (m : Message) (p : Pair) → pair_moved (when t (Take (with_box x m))) p ≡ pair_moved (when t (Take m)) p
took_same t Empty m p = refl
took_same t (Waiting q n) m p = took_place t q m p
took_same t (Taken q n) m p = refl

pub pair_same : (a b : Host) (events : List Event) → pair a b (placed events) ≡ pair a b events
pair_same a b [] = refl
pair_same a b (Contact x y ∷ events) = ap (λ (p : Pair). pair_moved (when (are a b x y) Call) p) (pair_same a b events)
pair_same a b (Out x y l m ∷ events) =
    ap (λ (p : Pair). pair_moved (when (are a b x y) (Send l (with_place (place events) m))) p) (pair_same a b events) ∙ sent_same (are a b x y) l (place events) m (pair a b events)
pair_same a b (In x y l m ∷ events) =
    ap (λ (p : Pair). pair_moved (when (are a b y x) (Take (with_box (boxes x y events l) m))) p) (pair_same a b events) ∙ took_same (are a b y x) (boxes x y events l) m (pair a b events)
pair_same a b (Told x y l k ∷ events) = ap (λ (p : Pair). pair_moved (when (are a b x y) (Hear l k)) p) (pair_same a b events)
pair_same a b (Down x ∷ events) = ap (λ (p : Pair). pair_moved (when (same_host a x) Begin) p) (pair_same a b events)
pair_same a b (Up x ∷ events) = ap (λ (p : Pair). pair_moved (when (same_host a x) Begin) p) (pair_same a b events)
pair_same a b (Idle ∷ events) = pair_same a b events

pub up_same : (hosts : List Host) (h : Host) (events : List Event) → is_up hosts h (placed events) ≡ is_up hosts h events
up_same hosts h [] = refl
up_same hosts h (Contact x y ∷ events) = up_same hosts h events
up_same hosts h (Out x y l m ∷ events) = up_same hosts h events
up_same hosts h (In x y l m ∷ events) = up_same hosts h events
up_same hosts h (Told x y l k ∷ events) = up_same hosts h events
up_same hosts h (Down x ∷ events) = ap (λ (u : Bool). up_after_event h (Down x) u) (up_same hosts h events)
up_same hosts h (Up x ∷ events) = ap (λ (u : Bool). up_after_event h (Up x) u) (up_same hosts h events)
up_same hosts h (Idle ∷ events) = up_same hosts h events

-- ---- boxes have the tagged texts

abbrev placed_box : Box → Box
placed_box Empty = Empty
placed_box (Waiting p m) = Waiting p (with_place p m)
placed_box (Taken p m) = Taken p (with_place p m)

fetched_same : (x : Box) → fetched (placed_box x) ≡ placed_box (fetched x)
fetched_same Empty = refl
fetched_same (Waiting p m) = refl
fetched_same (Taken p m) = refl

if_box : (v : Bool) (x' x y' y : Box) → x' ≡ placed_box x → y' ≡ placed_box y → (if v then x' else y') ≡ placed_box (if v then x else y)
if_box true x' x y' y e f = e
if_box false x' x y' y e f = f

put_same : (t : Bool) (here' here l k : ℕ) (m : Message) (bs' bs : ℕ → Box) → here' ≡ here → ((j : ℕ) → bs' j ≡ placed_box (bs j)) → posted here' (when t (Put l (with_place here m))) bs' k ≡ placed_box (posted here (when t (Put l m)) bs k)
put_same true here' here l k m bs' bs e h = if_box _ _ _ _ (bs k) (ap (λ (n : ℕ). Waiting n (with_place here m)) e) (h k)
put_same false here' here l k m bs' bs e h = h k

fetch_same : (t : Bool) (here' here l k : ℕ) (bs' bs : ℕ → Box) → ((j : ℕ) → bs' j ≡ placed_box (bs j)) → posted here' (when t (Fetch l)) bs' k ≡ placed_box (posted here (when t (Fetch l)) bs k)
fetch_same true here' here l k bs' bs h = if_box _ _ _ _ (bs k) (ap fetched (h l) ∙ fetched_same (bs l)) (h k)
fetch_same false here' here l k bs' bs h = h k

clear_same : (t : Bool) (here' here l k : ℕ) (bs' bs : ℕ → Box) → ((j : ℕ) → bs' j ≡ placed_box (bs j)) → posted here' (when t (Clear l)) bs' k ≡ placed_box (posted here (when t (Clear l)) bs k)
clear_same true here' here l k bs' bs h = if_box _ Empty Empty _ (bs k) refl (h k)
clear_same false here' here l k bs' bs h = h k

all_same : (t : Bool) (here' here k : ℕ) (bs' bs : ℕ → Box) → ((j : ℕ) → bs' j ≡ placed_box (bs j)) → posted here' (when t ClearAll) bs' k ≡ placed_box (posted here (when t ClearAll) bs k)
all_same true here' here k bs' bs h = refl
all_same false here' here k bs' bs h = h k

boxes_same : (a b : Host) (events : List Event) (k : ℕ) → boxes a b (placed events) k ≡ placed_box (boxes a b events k)
boxes_same a b [] k = refl
boxes_same a b (Contact x y ∷ events) k = boxes_same a b events k
boxes_same a b (Out x y l m ∷ events) k = put_same _ _ _ l k m _ _ (place_same events) (boxes_same a b events)
boxes_same a b (In x y l m ∷ events) k = fetch_same _ _ _ l k _ _ (boxes_same a b events)
boxes_same a b (Told x y l c ∷ events) k = clear_same _ _ _ l k _ _ (boxes_same a b events)
boxes_same a b (Down x ∷ events) k = boxes_same a b events k
boxes_same a b (Up x ∷ events) k = all_same _ _ _ k _ _ (boxes_same a b events)
boxes_same a b (Idle ∷ events) k = boxes_same a b events k

-- ---- a run stays one

waits_same : (x : Box) (m : Message) → WaitsWith x m → WaitsWith (placed_box x) (with_box x m)
waits_same Empty m w = absurd w
waits_same (Waiting p n) m w = ap (λ (z : Message). with_place p z) w
waits_same (Taken p n) m w = absurd w

fits_same : (k : Answer) (x : Box) → Fits k x → Fits k (placed_box x)
fits_same answer.Rfnm Empty f = absurd f
fits_same answer.Rfnm (Waiting p m) f = absurd f
fits_same answer.Rfnm (Taken p m) f = tt
fits_same answer.Dead (Waiting p m) f = tt
fits_same answer.Dead (Taken p m) f = absurd f
fits_same answer.Incomplete (Waiting p m) f = tt
fits_same answer.Incomplete (Taken p m) f = tt
fits_same k Empty f = absurd f
fits_same answer.NotTaken (Waiting p m) f = tt
fits_same answer.NotTaken (Taken p m) f = absurd f

may_same : (p : Pair) (l q : ℕ) (m : Message) → MaySend p l m → MaySend p l (with_place q m)
may_same p l q Reset may = may
may_same p l q Reply may = may
may_same p l q (Other text) may = may

pub placed_run : (hosts : Network) (events : List Event) → IsRun hosts events → IsRun hosts (placed events)
placed_run hosts [] r = tt
placed_run hosts (Contact x y ∷ events) r = (tt, (λ off. up_same hosts.all x events ∙ r.1 off), placed_run hosts events r.2)
placed_run hosts (Out x y l m ∷ events) r = (
  (up_same _ x events ∙ r.0.0, boxes_same x y events l ∙ ap placed_box r.0.1),
  (λ ours. subst (λ (p : Pair). MaySend p l (with_place (place events) m)) (sym (pair_same x y events)) (may_same _ l _ m (r.1 ours))),
  placed_run hosts events r.2,
)
placed_run hosts (In x y l m ∷ events) r = (
  (up_same _ y events ∙ r.0.0, subst (λ (z : Box). WaitsWith z (with_box (boxes x y events l) m)) (sym (boxes_same x y events l)) (waits_same _ m r.0.1)),
  tt,
  placed_run hosts events r.2,
)
placed_run hosts (Told x y l k ∷ events) r = (
  (up_same _ x events ∙ r.0.0, subst (λ (z : Box). Fits k z) (sym (boxes_same x y events l)) (fits_same k _ r.0.1)),
  tt,
  placed_run hosts events r.2,
)
placed_run hosts (Down x ∷ events) r = (up_same _ x events ∙ r.0, tt, placed_run hosts events r.2)
placed_run hosts (Up x ∷ events) r = ((r.0.0, up_same _ x events ∙ r.0.1), tt, placed_run hosts events r.2)
placed_run hosts (Idle ∷ events) r = (tt, tt, placed_run hosts events r.2)

pub placed_front : (hosts : Network) (events : List Event) → IsRun hosts events → (a b : Host) → AreOurs hosts a b → (l : ℕ) → IsPrefix (heard_in_stay a b l (placed events)) (said_in_stay a b l (placed events))
placed_front hosts events r a b ours l = heard_front hosts _ (placed_run hosts events r) a b ours l

-- ---- stays are the same

reset_same : (a b x y : Host) (l : ℕ) (m n : Message) (p : ℕ) → n ≡ with_place p m → takes_reset a b (In x y l n) ≡ takes_reset a b (In x y l m)
reset_same a b x y l Reset n p e = ap (λ (z : Message). takes_reset a b (In x y l z)) e
reset_same a b x y l Reply n p e = ap (λ (z : Message). takes_reset a b (In x y l z)) e
reset_same a b x y l (Other text) n p e = ap (λ (z : Message). takes_reset a b (In x y l z)) e

box_reset : (a b x y : Host) (l : ℕ) (m : Message) (box : Box) → takes_reset a b (In x y l (with_box box m)) ≡ takes_reset a b (In x y l m)
box_reset a b x y l m Empty = refl
box_reset a b x y l m (Waiting p n) = reset_same a b x y l m _ p refl
box_reset a b x y l m (Taken p n) = refl

takes_same : (a b : Host) (e : Event) (events : List Event) → takes_reset a b (placed_event e events) ≡ takes_reset a b e
takes_same a b (In x y l m) events = box_reset a b x y l m _
takes_same a b e events = refl

pub ready_same : (a b : Host) (events : List Event) → ready a b (placed events) ≡ ready a b events
ready_same a b events = ap (λ (p : Pair). is_ready p.phase) (pair_same a b events)

six : (r r' s s' t t' u u' k k' v v' : Bool) → r ≡ r' → s ≡ s' → t ≡ t' → u ≡ u' → k ≡ k' → v ≡ v' → (((r && s) && not (t && u)) || (r && not k && v)) ≡ (((r' && s') && not (t' && u')) || (r' && not k' && v'))
six r r' s s' t t' u u' k k' v v' e f g h i j = rw (e, f, g, h, i, j) refl

pub stays_same : (a b : Host) (events : List Event) → stays a b (placed events) ≡ stays a b events
stays_same a b [] = refl
stays_same a b (e ∷ events) =
    six _ _ _ _ _ _ _ _
    _ _ _ _
    (ready_same a b (e ∷ events)) (ready_same b a (e ∷ events)) (ready_same a b events) (ready_same b a events) (takes_same a b e events) (stays_same a b events)
