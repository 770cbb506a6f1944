-- The invariant over whole lists of events.
pub use Rattle.interface.proofs.lemmas.{unlike as up_and_down}
use Rattle.reset_law.proofs.Common.{Host, same_host, Closed, Ready, Box, Empty, Waiting, Taken, Post, Put, ClearAll, Fits, fetched, posted, at_link, boxes, IsRun, AreOurs, Network}
use Rattle.std.proofs.Common.{◌≡◌, ◌≢◌, ℕ, Bool, true, false, List, [], ◌∷◌, Some, None, refl, ap, sym, subst, ◌∙◌, inl, inr, if◌then◌else◌}
use Rattle.interface.proofs.lemmas.{and_true, same_host-true}
use Rattle.reset_law.specs.Events.{Message, Reset, Reply, Other, Event, Contact, Out, In, Told, Down, Up, Idle, Part, Call, Send, Take, Begin, when, are, place, is_up}
use Rattle.reset_law.specs.Pairs.{Pair, MaySend, opening_pair, pair_moved, pair}
use Rattle.reset_law.specs.Monitor.{Monitor, monitored, monitor}
use Rattle.reset_law.specs.Invariant.{kind_in, is_signal, Outstanding, Sound}
use Rattle.reset_law.proofs.Links.{at, fetched_kind}
use Rattle.reset_law.proofs.Steps.{sound_opening, sound_contact, sound_reset_sent, sound_reply_sent, sound_other_sent, sound_reset_taken, sound_reply_taken, sound_fetched}
use Rattle.reset_law.proofs.Answers.{sound_told}

-- ---- tests of hosts

-- what is known of hosts x and y is known of a and b
pub carry : (P : Host → Host → Type 0) (a b x y : Host) → are a b x y ≡ true → P x y → P a b
carry P a b x y same h =
    let t : (same_host a x ≡ true) × (same_host b y ≡ true) = and_true (same_host a x) (same_host b y) same in
    let first : P a y = subst (λ (v : Host). P v y) (sym (same_host-true a x t.0)) h in
    subst (λ (w : Host). P a w) (sym (same_host-true b y t.1)) first

-- ---- one event more

chosen_part : (t : Bool) (part : Part) (here : ℕ) (p : Pair) (m : Monitor) (bs : ℕ → Box) → (t ≡ true → Sound (pair_moved (Some part) p) (monitored here (Some part) m) bs) → Sound p m bs
    → Sound (pair_moved (when t part) p) (monitored here (when t part) m) bs
chosen_part true part here p m bs f h = f refl
chosen_part false part here p m bs f h = h

chosen_post : (t : Bool) (post : Post) (here : ℕ) (p : Pair) (m : Monitor) (bs : ℕ → Box) → (t ≡ true → Sound p m (posted here (Some post) bs)) → Sound p m bs
    → Sound p m (posted here (when t post) bs)
chosen_post true post here p m bs f h = f refl
chosen_post false post here p m bs f h = h

chosen_both : (t : Bool) (part : Part) (post : Post) (here : ℕ) (p : Pair) (m : Monitor) (bs : ℕ → Box)
    → (t ≡ true → Sound (pair_moved (Some part) p) (monitored here (Some part) m) (posted here (Some post) bs)) → Sound p m bs
    → Sound (pair_moved (when t part) p) (monitored here (when t part) m) (posted here (when t post) bs)
chosen_both true part post here p m bs f h = f refl
chosen_both false part post here p m bs f h = h

-- a host that is up hasn't just stopped
stayed_up : (t up : Bool) → (if t then false else up) ≡ true → (t ≡ false) × (up ≡ true)
stayed_up true up h = absurd (cc)
stayed_up false up h = (refl, h)

not_stopped : (t : Bool) (here : ℕ) (p : Pair) (m : Monitor) (bs : ℕ → Box) → t ≡ false → Sound p m bs → Sound (pair_moved (when t Begin) p) (monitored here (when t Begin) m) bs
not_stopped true here p m bs no_stop h = absurd (cc)
not_stopped false here p m bs no_stop h = h

came_up : (t up : Bool) (here : ℕ) (p : Pair) (m : Monitor) (bs : ℕ → Box) → (if t then true else up) ≡ true → (up ≡ true → Sound p m bs)
    → Sound (pair_moved (when t Begin) p) (monitored here (when t Begin) m) (posted here (when t ClearAll) bs)
came_up true up here p m bs e h = sound_opening
came_up false up here p m bs e h = h e

sound_sent : (here l : ℕ) (message : Message) (p : Pair) (m : Monitor) (bs : ℕ → Box) → MaySend p l message → Sound p m bs
    → Sound (pair_moved (Some (Send l message)) p) (monitored here (Some (Send l message)) m) (posted here (Some (Put l message)) bs)
sound_sent here l Reset p m bs may s = sound_reset_sent here l p m bs may s
sound_sent here l Reply p m bs may s = sound_reply_sent here l p m bs may s
sound_sent here l (Other text) p m bs may s = sound_other_sent here l text p m bs may s

sound_taken : (here : ℕ) (message : Message) (p : Pair) (m : Monitor) (bs : ℕ → Box) → Sound p m bs → Sound (pair_moved (Some (Take message)) p) (monitored here (Some (Take message)) m) bs
sound_taken here Reset p m bs s = sound_reset_taken here p m bs s
sound_taken here Reply p m bs s = sound_reply_taken here p m bs s
sound_taken here (Other text) p m bs s = s

pub sound_run : (hosts : Network) (events : List Event) → IsRun hosts events → (a b : Host) → AreOurs hosts a b → is_up hosts.all a events ≡ true → Sound (pair a b events) (monitor a b events) (boxes a b events)
sound_run hosts [] r a b ours up = sound_opening
sound_run hosts (Contact x y ∷ events) r a b ours up =
    let h : Sound (pair a b events) (monitor a b events) (boxes a b events) = sound_run hosts events r.2 a b ours up in
    chosen_part _ Call _ _ _ _ (λ e. sound_contact (place events) (pair a b events) (monitor a b events) (boxes a b events) h) h
sound_run hosts (Out x y l message ∷ events) r a b ours up =
    let h : Sound (pair a b events) (monitor a b events) (boxes a b events) = sound_run hosts events r.2 a b ours up in
    chosen_both _ _ _ _ _ _ _
    (λ e. sound_sent (place events) l message (pair a b events) (monitor a b events) (boxes a b events) (carry (λ v w. AreOurs hosts v w → MaySend (pair v w events) l message) a b x y e r.1 ours) h) h
sound_run hosts (In x y l message ∷ events) r a b ours up =
    let h : Sound (pair a b events) (monitor a b events) (boxes a b events) = sound_run hosts events r.2 a b ours up in
    let bs : ℕ → Box = posted (place events) (when _ _) (boxes a b events) in
    let g : Sound (pair a b events) (monitor a b events) bs =
    chosen_post _ _ _ _ _ _ (λ e. sound_fetched l (pair a b events) (monitor a b events) (boxes a b events) h) h in
    chosen_part _ _ _ _ _ bs (λ e. sound_taken (place events) message (pair a b events) (monitor a b events) bs g) g
sound_run hosts (Told x y l k ∷ events) r a b ours up =
    let h : Sound (pair a b events) (monitor a b events) (boxes a b events) = sound_run hosts events r.2 a b ours up in
    chosen_both _ _ _ _ _ _ _
    (λ e. sound_told l k (pair a b events) (monitor a b events) (boxes a b events) (carry (λ v w. Fits k (boxes v w events l)) a b x y e r.0.1) h) h
sound_run hosts (Down x ∷ events) r a b ours up =
    let t : (same_host a x ≡ false) × (is_up hosts.all a events ≡ true) = stayed_up _ _ up in
    not_stopped _ _ _ _ _ t.0 (sound_run hosts events r.2 a b ours t.1)
sound_run hosts (Up x ∷ events) r a b ours up =
    came_up _ _ _ _ _ _ up (λ before. sound_run hosts events r.2 a b ours before)
sound_run hosts (Idle ∷ events) r a b ours up = sound_run hosts events r.2 a b ours up

-- ---- RST and RRP each go by themselves

-- a signal waits or is unanswered on link 0, and every other box is empty then
pub record IsAlone (bs : ℕ → Box) : Type 0 where
  pub on_zero : (k : ℕ) → is_signal (kind_in (bs k)) ≡ true → k ≡ 0
  pub empty : is_signal (kind_in (bs 0)) ≡ true → (k : ℕ) → k ≢ 0 → bs k ≡ Empty

pub empty_kind : (x : Box) → kind_in x ≡ None → x ≡ Empty
empty_kind Empty e = refl
empty_kind (Waiting p m) e = absurd (cc)
empty_kind (Taken p m) e = absurd (cc)

sound_alone : (p : Pair) (m : Monitor) (bs : ℕ → Box) → Sound p m bs → IsAlone bs
sound_alone p m bs s =
    let o : Outstanding p m bs = s.outstanding in
    record {
      on_zero = λ k signal. o.on_zero k (ap is_signal (o.boxed k) ∙ signal);
      empty = λ signal k away. empty_kind (bs k) (sym (o.boxed k) ∙ o.alone (ap is_signal (o.boxed 0) ∙ signal) k away);
    }

-- fewer are outstanding, or as many
record IsLess (new old : ℕ → Box) : Type 0 where
  signal : (k : ℕ) → is_signal (kind_in (new k)) ≡ true → is_signal (kind_in (old k)) ≡ true
  empty : (k : ℕ) → old k ≡ Empty → new k ≡ Empty

alone_less : (new old : ℕ → Box) → IsLess new old → IsAlone old → IsAlone new
alone_less new old less h = record { on_zero = λ k signal. h.on_zero k (less.signal k signal); empty = λ signal k away. less.empty k (h.empty (less.signal 0 signal) k away) }

fetched_empty : (x : Box) → x ≡ Empty → fetched x ≡ Empty
fetched_empty x e = ap fetched e

less_fetched : (bs : ℕ → Box) (l : ℕ) → IsLess (at_link bs l (fetched (bs l))) bs
less_fetched bs l = record {
  signal = λ k e. elim (at bs l (fetched (bs l)) k) [
    | inl t ↦ (ap (λ (j : ℕ). is_signal (kind_in (bs j))) t.0 ∙ ap is_signal (sym (fetched_kind (bs l))) ∙ ap (λ (x : Box). is_signal (kind_in x)) (sym t.1) ∙ e)
    | inr t ↦ (ap (λ (x : Box). is_signal (kind_in x)) (sym t.1) ∙ e)
  ];
  empty = λ k e. elim (at bs l (fetched (bs l)) k) [
    | inl t ↦ (t.1 ∙ fetched_empty (bs l) (ap bs (sym t.0) ∙ e))
    | inr t ↦ (t.1 ∙ e)
  ];
}

less_cleared : (bs : ℕ → Box) (l : ℕ) → IsLess (at_link bs l Empty) bs
less_cleared bs l = record {
  signal = λ k e. elim (at bs l Empty k) [
    | inl t ↦ (let both : true ≡ false = sym e ∙ ap (λ (x : Box). is_signal (kind_in x)) t.1 in absurd (cc))
    | inr t ↦ (ap (λ (x : Box). is_signal (kind_in x)) (sym t.1) ∙ e)
  ];
  empty = λ k e. elim (at bs l Empty k) [
    | inl t ↦ t.1
    | inr t ↦ (t.1 ∙ e)
  ];
}

none_alone : IsAlone (λ k. Empty)
none_alone = record { on_zero = λ k signal. absurd (cc); empty = λ signal k away. refl }

alone_if : (t : Bool) (post : Post) (here : ℕ) (bs : ℕ → Box) → (t ≡ true → IsAlone (posted here (Some post) bs)) → IsAlone bs → IsAlone (posted here (when t post) bs)
alone_if true post here bs f h = f refl
alone_if false post here bs f h = h

pub alone_run : (hosts : Network) (events : List Event) → IsRun hosts events → (a b : Host) → AreOurs hosts a b → IsAlone (boxes a b events)
alone_run hosts [] r a b ours = none_alone
alone_run hosts (Contact x y ∷ events) r a b ours = alone_run hosts events r.2 a b ours
alone_run hosts (Out x y l message ∷ events) r a b ours =
    alone_if _ _ _ _
    (λ e.
    (let up : is_up hosts.all a events ≡ true = carry (λ v w. is_up hosts.all v events ≡ true) a b x y e r.0.0 in
    let may : MaySend (pair a b events) l message = carry (λ v w. AreOurs hosts v w → MaySend (pair v w events) l message) a b x y e r.1 ours in
    sound_alone _ _ _
    (sound_sent _ l message _ _ _ may (sound_run hosts events r.2 a b ours up))))
    (alone_run hosts events r.2 a b ours)
alone_run hosts (In x y l message ∷ events) r a b ours =
    let h : IsAlone (boxes a b events) = alone_run hosts events r.2 a b ours in
    alone_if _ _ _ _ (λ e. alone_less (at_link _ l _) (boxes a b events) (less_fetched _ l) h) h
alone_run hosts (Told x y l k ∷ events) r a b ours =
    let h : IsAlone (boxes a b events) = alone_run hosts events r.2 a b ours in
    alone_if _ _ _ _ (λ e. alone_less (at_link _ l Empty) (boxes a b events) (less_cleared _ l) h) h
alone_run hosts (Down x ∷ events) r a b ours = alone_run hosts events r.2 a b ours
alone_run hosts (Up x ∷ events) r a b ours = alone_if _ ClearAll _ _ (λ e. none_alone) (alone_run hosts events r.2 a b ours)
alone_run hosts (Idle ∷ events) r a b ours = alone_run hosts events r.2 a b ours

-- ---- a host that is down is in the initial state

opened_if : (t : Bool) (part : Part) (p : Pair) → (t ≡ true → ⊥) → p ≡ opening_pair → pair_moved (when t part) p ≡ opening_pair
opened_if true part p no_part e = absurd (no_part refl)
opened_if false part p no_part e = e

stopped_pair : (t up : Bool) (p : Pair) → (if t then false else up) ≡ false → (up ≡ false → p ≡ opening_pair) → pair_moved (when t Begin) p ≡ opening_pair
stopped_pair true up p e h = refl
stopped_pair false up p e h = h e

not_up : (t up : Bool) → (if t then true else up) ≡ false → (t ≡ false) × (up ≡ false)
not_up true up e = absurd (cc)
not_up false up e = (refl, e)

pub down_pair : (hosts : Network) (events : List Event) → IsRun hosts events → (a b : Host) → AreOurs hosts a b → is_up hosts.all a events ≡ false → pair a b events ≡ opening_pair
down_pair hosts [] r a b ours down = refl
down_pair hosts (Contact x y ∷ events) r a b ours down =
    opened_if _ Call _ (λ e. up_and_down (is_up hosts.all a events) (carry (λ v w. hosts.strange v ≡ false → is_up hosts.all v events ≡ true) a b x y e r.1 ours.0) down) (down_pair hosts events r.2 a b ours down)
down_pair hosts (Out x y l message ∷ events) r a b ours down =
    opened_if _ _ _ (λ e. up_and_down (is_up hosts.all a events) (carry (λ v w. is_up hosts.all v events ≡ true) a b x y e r.0.0) down) (down_pair hosts events r.2 a b ours down)
down_pair hosts (In x y l message ∷ events) r a b ours down =
    opened_if _ _ _ (λ e. up_and_down (is_up hosts.all a events) (carry (λ v w. is_up hosts.all v events ≡ true) a b y x e r.0.0) down) (down_pair hosts events r.2 a b ours down)
down_pair hosts (Told x y l k ∷ events) r a b ours down =
    opened_if _ _ _ (λ e. up_and_down (is_up hosts.all a events) (carry (λ v w. is_up hosts.all v events ≡ true) a b x y e r.0.0) down) (down_pair hosts events r.2 a b ours down)
down_pair hosts (Down x ∷ events) r a b ours down = stopped_pair _ _ _ down (λ before. down_pair hosts events r.2 a b ours before)
down_pair hosts (Up x ∷ events) r a b ours down =
    let t : (same_host a x ≡ false) × (is_up hosts.all a events ≡ false) = not_up _ _ down in
    opened_if _ Begin _ (λ e. up_and_down (same_host a x) e t.0) (down_pair hosts events r.2 a b ours t.1)
down_pair hosts (Idle ∷ events) r a b ours down = down_pair hosts events r.2 a b ours down

-- a host that is ready is up
pub ready_up : (hosts : Network) (events : List Event) → IsRun hosts events → (a b : Host) → AreOurs hosts a b → (pair a b events).phase ≡ Ready → is_up hosts.all a events ≡ true
ready_up hosts events r a b ours ready = by (is_up hosts.all a events) refl where
  by : (up : Bool) → is_up hosts.all a events ≡ up → is_up hosts.all a events ≡ true
  by true e = e
  by false e = let both : Closed ≡ Ready = sym (ap (λ (p : Pair). p.phase) (down_pair hosts events r a b ours e)) ∙ ready in absurd (cc)
