-- What the law of resets gives: a host that is through a reset takes a text only in a stay.
use Rattle.std.proofs.Common.{◌≡◌, ℕ, Bool, true, false, ◌&&◌, List, [], ◌∷◌, Some, refl, ap, sym, subst, ◌∙◌, inl, inr}
use Rattle.std.proofs.lemmas.Bool.{and_from}
use Rattle.interface.specs.Host.{Host}
use Rattle.ncp_control.specs.declared.phase.Phase.TheVariants.{Ready}
use Rattle.reset_law.specs.Events.{Message, Reset, Reply, Other, Event, Contact, Out, In, Told, Down, Up, Idle, Call, Send, Hear, Begin, when, are, place}
use Rattle.reset_law.specs.Boxes.{Box, Empty, Waiting, Taken, WaitsWith, Post, ClearAll, fetched, posted, at_link, boxes}
use Rattle.reset_law.specs.Pairs.{Pair, MaySend, kind_of, pair_moved, pair}
use Rattle.reset_law.specs.Monitor.{monitor}
use Rattle.reset_law.specs.Invariant.{kind_in, is_signal}
use Rattle.reset_law.specs.Runs.{IsRun}
use Rattle.reset_law.specs.Stays.{ready, joint, takes_reset, stays}
use Rattle.reset_law.proofs.lemmas.{NoPlain, alone_run, at, carry, contradicts, joint_stays, not_waiting, phase_ready, plain_alone, plain_fetched, plain_if, ready_taken, stays_on as goes_on, still_ready, turned_about}
use Rattle.reset_law.specs.Network.{AreOurs, Network}

stays_on : (e : Event) (events : List Event) (a b : Host) → (pair b a (e ∷ events)).phase ≡ Ready → takes_reset b a e ≡ false → stays b a events ≡ true → stays b a (e ∷ events) ≡ true
stays_on e events a b now none stay = goes_on _ _ _ _ (phase_ready _ now) none stay

-- where a text waits, the condition holds
abbrev Waits : (ℕ → Box) → Type 0 → Type 0
Waits bs S = (l p : ℕ) (text : List Bool) → bs l ≡ Waiting p (Other text) → S

waits_map : (bs : ℕ → Box) (S T : Type 0) → (S → T) → Waits bs S → Waits bs T
waits_map bs S T f h l p text e = f (h l p text e)

waits_fetched : (bs : ℕ → Box) (l : ℕ) (S : Type 0) → Waits bs S → Waits (at_link bs l (fetched (bs l))) S
waits_fetched bs l S h k p text e = elim (at bs l (fetched (bs l)) k) [
  | inl t ↦ absurd (not_waiting (bs l) p (Other text) (sym t.1 ∙ e))
  | inr t ↦ h k p text (sym t.1 ∙ e)
]

waits_cleared : (bs : ℕ → Box) (l : ℕ) (S : Type 0) → Waits bs S → Waits (at_link bs l Empty) S
waits_cleared bs l S h k p text e = elim (at bs l Empty k) [
  | inl t ↦ (let both : Empty ≡ Waiting p (Other text) = sym t.1 ∙ e in absurd (cc))
  | inr t ↦ h k p text (sym t.1 ∙ e)
]

waits_put : (bs : ℕ → Box) (l here : ℕ) (m : Message) (S : Type 0) → ((text : List Bool) → m ≡ Other text → S) → Waits bs S → Waits (at_link bs l (Waiting here m)) S
waits_put bs l here m S f h k p text e = elim (at bs l (Waiting here m) k) [
  | inl t ↦
      (let same : Waiting here m ≡ Waiting p (Other text) = sym t.1 ∙ e in
      let other : m ≡ Other text = cc in
      f text other)
  | inr t ↦ h k p text (sym t.1 ∙ e)
]

waits_if : (t : Bool) (post : Post) (here : ℕ) (bs : ℕ → Box) (S : Type 0) → (t ≡ true → Waits (posted here (Some post) bs) S) → Waits bs S → Waits (posted here (when t post) bs) S
waits_if true post here bs S f h = f refl
waits_if false post here bs S f h = h

-- after a signal is taken no text waits
none_waits : (bs : ℕ → Box) (S : Type 0) → NoPlain bs → Waits bs S
none_waits bs S none l p text e = absurd (none l (ap kind_in e))

-- who sends a text is ready, and stays so
sends_ready : (t : Bool) (l : ℕ) (text : List Bool) (p : Pair) → (t ≡ true → MaySend p l (Other text)) → t ≡ true → (pair_moved (when t (Send l (Other text))) p).phase ≡ Ready
sends_ready true l text p may e = (may refl).0
sends_ready false l text p may e = absurd (cc)

put_stays : (hosts : Network) (events : List Event) (x y : Host) (l : ℕ) (m : Message) → IsRun hosts (Out x y l m ∷ events) → (a b : Host) → AreOurs hosts a b → are a b x y ≡ true → (pair b a (Out x y l m ∷ events)).phase ≡ Ready
    → (text : List Bool) → m ≡ Other text → stays b a (Out x y l m ∷ events) ≡ true
put_stays hosts events x y l m r a b ours same now text other =
    let q : IsRun hosts (Out x y l (Other text) ∷ events) = subst (λ (z : Message). IsRun hosts (Out x y l z ∷ events)) other r in
    let may : MaySend (pair a b events) l (Other text) = carry (λ v w. AreOurs hosts v w → MaySend (pair v w events) l (Other text)) a b x y same q.1 ours in
    let there : (pair a b (Out x y l (Other text) ∷ events)).phase ≡ Ready = sends_ready _ l text _ (λ e. may) same in
    let here : (pair b a (Out x y l (Other text) ∷ events)).phase ≡ Ready = subst (λ (z : Message). (pair b a (Out x y l z ∷ events)).phase ≡ Ready) other now in
    let both : joint b a (Out x y l (Other text) ∷ events) ≡ true
    = and_from (ready b a (Out x y l (Other text) ∷ events)) (ready a b (Out x y l (Other text) ∷ events)) (phase_ready _ here) (phase_ready _ there) in
    subst (λ (z : Message). stays b a (Out x y l z ∷ events) ≡ true) (sym other) (joint_stays hosts (Out x y l (Other text) ∷ events) q b a (ours.1, ours.0) both)

no_reset : (b a x y : Host) (l : ℕ) (m : Message) → (m ≡ Reset → are b a y x ≡ false) → takes_reset b a (In x y l m) ≡ false
no_reset b a x y l Reset f = f refl
no_reset b a x y l Reply f = refl
no_reset b a x y l (Other text) f = refl

-- a text waits for a host that is through a reset only where it stays
pub waits_in_stay : (hosts : Network) (events : List Event) → IsRun hosts events → (a b : Host) → AreOurs hosts a b → (pair b a events).phase ≡ Ready → Waits (boxes a b events) (stays b a events ≡ true)
waits_in_stay hosts [] r a b ours now = absurd (cc)
waits_in_stay hosts (Contact x y ∷ events) r a b ours now =
    let was : (pair b a events).phase ≡ Ready = (still_ready _ Call (place events) _ (monitor b a events) tt now).0 in
    waits_map _ _ _ (stays_on (Contact x y) events a b now refl) (waits_in_stay hosts events r.2 a b ours was)
waits_in_stay hosts (Out x y l m ∷ events) r a b ours now =
    let was : (pair b a events).phase ≡ Ready = (still_ready (are b a x y) (Send l m) (place events) (pair b a events) (monitor b a events) tt now).0 in
    let old : Waits (boxes a b events) (stays b a (Out x y l m ∷ events) ≡ true)
    = waits_map _ _ _ (stays_on (Out x y l m) events a b now refl) (waits_in_stay hosts events r.2 a b ours was) in
    waits_if _ _ _ _ _
    (λ e. waits_put (boxes a b events) l (place events) m (stays b a (Out x y l m ∷ events) ≡ true) (put_stays hosts events x y l m r a b ours e now) old) old
waits_in_stay hosts (In x y l m ∷ events) r a b ours now = which _ m refl refl (waits_in_stay hosts events r.2 a b ours) where
  signal : are b a y x ≡ true → is_signal (Some (kind_of m)) ≡ true → Waits (boxes a b (In x y l m ∷ events)) (stays b a (In x y l m ∷ events) ≡ true)
  signal e is =
      let waits : WaitsWith (boxes a b events l) m = carry (λ v w. WaitsWith (boxes v w events l) m) a b x y (turned_about a b x y e) r.0.1 in
      let h : NoPlain (boxes a b events) = plain_alone _ l m (alone_run hosts events r.2 a b ours) waits is in
      none_waits (boxes a b (In x y l m ∷ events)) _ (plain_if _ _ _ _ (λ e. plain_fetched (boxes a b events) l h) h)

  quiet : (m ≡ Reset → are b a y x ≡ false) → (are b a y x ≡ true → is_signal (Some (kind_of m)) ≡ true → ⊥) → ((pair b a events).phase ≡ Ready → Waits (boxes a b events) (stays b a events ≡ true))
      → Waits (boxes a b (In x y l m ∷ events)) (stays b a (In x y l m ∷ events) ≡ true)
  quiet none plain h = elim (ready_taken (are b a y x) m (place events) _ (monitor b a events) now) [
    | inl s ↦ absurd (plain s.0 s.1)
    | inr t ↦
        (let old : Waits (boxes a b events) (stays b a (In x y l m ∷ events) ≡ true)
        = waits_map _ _ _ (stays_on (In x y l m) events a b now (no_reset b a x y l m none)) (h t.0) in
        waits_if _ _ _ _ _ (λ e. waits_fetched (boxes a b events) l (stays b a (In x y l m ∷ events) ≡ true) old) old)
  ]

  which : (v : Bool) (n : Message) → are b a y x ≡ v → m ≡ n → ((pair b a events).phase ≡ Ready → Waits (boxes a b events) (stays b a events ≡ true)) → Waits (boxes a b (In x y l m ∷ events)) (stays b a (In x y l m ∷ events) ≡ true)
  which true Reset e f h = signal e (ap (λ (z : Message). is_signal (Some (kind_of z))) f)
  which true Reply e f h = signal e (ap (λ (z : Message). is_signal (Some (kind_of z))) f)
  which true (Other text) e f h =
      quiet (λ z. let both : Other text ≡ Reset = sym f ∙ z in absurd (cc)) (λ same is. let both : false ≡ true = sym (ap (λ (z : Message). is_signal (Some (kind_of z))) f) ∙ is in absurd (cc)) h
  which false n e f h = quiet (λ z. e) (λ same is. contradicts (are b a y x) same e) h
waits_in_stay hosts (Told x y l k ∷ events) r a b ours now =
    let was : (pair b a events).phase ≡ Ready = (still_ready (are b a x y) (Hear l k) (place events) (pair b a events) (monitor b a events) tt now).0 in
    let old : Waits (boxes a b events) (stays b a (Told x y l k ∷ events) ≡ true)
    = waits_map _ _ _ (stays_on (Told x y l k) events a b now refl) (waits_in_stay hosts events r.2 a b ours was) in
    waits_if _ _ _ _ _ (λ e. waits_cleared (boxes a b events) l (stays b a (Told x y l k ∷ events) ≡ true) old) old
waits_in_stay hosts (Down x ∷ events) r a b ours now =
    let was : (pair b a events).phase ≡ Ready = (still_ready _ Begin (place events) _ (monitor b a events) tt now).0 in
    waits_map _ _ _ (stays_on (Down x) events a b now refl) (waits_in_stay hosts events r.2 a b ours was)
waits_in_stay hosts (Up x ∷ events) r a b ours now =
    let was : (pair b a events).phase ≡ Ready = (still_ready _ Begin (place events) _ (monitor b a events) tt now).0 in
    let old : Waits (boxes a b events) (stays b a (Up x ∷ events) ≡ true)
    = waits_map _ _ _ (stays_on (Up x) events a b now refl) (waits_in_stay hosts events r.2 a b ours was) in
    waits_if _ ClearAll _ _ _ (λ e l p text waits. absurd (cc)) old
waits_in_stay hosts (Idle ∷ events) r a b ours now =
    waits_map _ _ _ (stays_on Idle events a b now refl) (waits_in_stay hosts events r.2 a b ours now)

waiting : (x : Box) (m : Message) → WaitsWith x m → (p : ℕ) × (x ≡ Waiting p m)
waiting Empty m w = absurd w
waiting (Waiting p n) m w = (p, ap (λ (y : Message). Waiting p y) w)
waiting (Taken p n) m w = absurd w

-- a host that is through a reset takes a text only there
pub takes_in_stay : (hosts : Network) (events : List Event) (a b : Host) (l : ℕ) (text : List Bool) → AreOurs hosts a b → IsRun hosts (In a b l (Other text) ∷ events) → (pair b a events).phase ≡ Ready → stays b a events ≡ true
takes_in_stay hosts events a b l text ours r now =
    let w : (p : ℕ) × (boxes a b events l ≡ Waiting p (Other text)) = waiting _ _ r.0.1 in
    waits_in_stay hosts events r.2 a b ours now l w.0 text w.1
