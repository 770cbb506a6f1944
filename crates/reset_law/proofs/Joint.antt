-- Two hosts that are both through a reset: how that begins, and what it keeps.
pub use Rattle.reset_law.proofs.Runs.{up_and_down as contradicts}
use Rattle.reset_law.proofs.Common.{Host, Answer, Phase, Want, Gone, Ready, Box, Empty, Waiting, Taken, WaitsWith, Post, Put, Fetch, ClearAll, fetched, posted, at_link, boxes, IsRun, AreOurs, Network}
use Rattle.std.proofs.Common.{◌≡◌, ◌≢◌, ◌⊎◌, ℕ, Bool, true, false, List, [], ◌∷◌, Option, Some, None, refl, ap, sym, subst, ◌∙◌, inl, inr}
use Rattle.interface.specs.declared.crossing.Answer.TheVariants as answer
use Rattle.ncp_control.specs.Phases.{reset_phase, is_ready}
use Rattle.reset_law.specs.Events.{Message, Reset, Reply, Other, Event, Contact, Out, In, Told, Down, Up, Idle, Call, Send, Take, Hear, Begin, when, are, place, is_up}
use Rattle.reset_law.specs.Pairs.{Kind, Rst, Plain, kind_of, Pair, MaySend, pair_moved, pair}
use Rattle.reset_law.specs.Monitor.{Monitor, monitor}
use Rattle.reset_law.specs.Invariant.{kind_in, is_signal, Outstanding, Shape, Sound}
use Rattle.reset_law.specs.Stays.{ready, waits_in}
use Rattle.reset_law.proofs.Links.{at, fetched_kind}
use Rattle.reset_law.proofs.Runs.{carry, IsAlone, sound_run, alone_run, ready_up}
use Rattle.reset_law.proofs.Fresh.{turned_about, still_ready, ready_taken}

-- ---- tests

pub ready_phase : (ph : Phase) → is_ready ph ≡ true → ph ≡ Ready
ready_phase Ready e = refl
ready_phase ph e = absurd (cc)

pub phase_ready : (ph : Phase) → ph ≡ Ready → is_ready ph ≡ true
phase_ready ph e = ap is_ready e

-- ---- an RST that was taken

unready : (ph : Phase) (m : Monitor) (begun : Bool) (out : ℕ → Option Kind) → Shape ph m begun out → out 0 ≡ Some Rst → (ph ≢ Ready) × (reset_phase ph ≢ Ready)
unready Want m begun out s rst = ((λ e. absurd (cc)), (λ e. absurd (cc)))
unready (Gone early) m begun out s rst = ((λ e. absurd (cc)), (λ e. absurd (cc)))
unready ph m begun out s rst = absurd (s.no_rst rst)

taken_either : (t : Bool) (p : Pair) → (pair_moved (when t (Take Reset)) p).phase ≡ Ready → (p.phase ≡ Ready) ⊎ (reset_phase p.phase ≡ Ready)
taken_either true p e = inr e
taken_either false p e = inl e

rst_kind : (x : Box) → WaitsWith x Reset → kind_in x ≡ Some Rst
rst_kind Empty w = absurd w
rst_kind (Waiting q n) w = ap (λ (m : Message). Some (kind_of m)) w
rst_kind (Taken q n) w = absurd w

-- whose RST is taken isn't ready then
pub reset_unready : (hosts : Network) (events : List Event) (x y : Host) (l : ℕ) → IsRun hosts (In x y l Reset ∷ events) → (v w : Host) → AreOurs hosts v w → are v w y x ≡ true
    → (pair w v (In x y l Reset ∷ events)).phase ≡ Ready → ⊥
reset_unready hosts events x y l r v w ours same ready =
    let up : is_up hosts.all w events ≡ true = ready_up hosts (In x y l Reset ∷ events) r w v (ours.1, ours.0) ready in
    let s : Sound (pair w v events) (monitor w v events) (boxes w v events) = sound_run hosts events r.2 w v (ours.1, ours.0) up in
    let o : Outstanding (pair w v events) (monitor w v events) (boxes w v events) = s.outstanding in
    let waits : WaitsWith (boxes w v events l) Reset = carry (λ i j. WaitsWith (boxes i j events l) Reset) w v x y (turned_about w v x y same) r.0.1 in
    let out : (pair w v events).out l ≡ Some Rst = o.boxed l ∙ rst_kind _ waits in
    let zero : l ≡ 0 = o.on_zero l (ap is_signal out) in
    let rst : (pair w v events).out 0 ≡ Some Rst = subst (λ (k : ℕ). (pair w v events).out k ≡ Some Rst) zero out in
    let no_ready : ((pair w v events).phase ≢ Ready) × (reset_phase (pair w v events).phase ≢ Ready) =
    unready _ _ _ _ s.shape rst in
    elim (taken_either _ _ ready) [
      | inl e ↦ no_ready.0 e
      | inr e ↦ no_ready.1 e
    ]

-- ---- boxes without a message but RST and RRP

abbrev pub NoPlain : (ℕ → Box) → Type 0
NoPlain bs = (k : ℕ) → kind_in (bs k) ≢ Some Plain

pub nothing_waits : (x : Box) → kind_in x ≢ Some Plain → waits_in x ≡ []
nothing_waits Empty no_plain = refl
nothing_waits (Waiting p Reset) no_plain = refl
nothing_waits (Waiting p Reply) no_plain = refl
nothing_waits (Waiting p (Other text)) no_plain = absurd (no_plain refl)
nothing_waits (Taken p m) no_plain = refl

pub plain_fetched : (bs : ℕ → Box) (l : ℕ) → NoPlain bs → NoPlain (at_link bs l (fetched (bs l)))
plain_fetched bs l h k e = elim (at bs l (fetched (bs l)) k) [
  | inl t ↦ h l (sym (fetched_kind (bs l)) ∙ ap kind_in (sym t.1) ∙ e)
  | inr t ↦ h k (ap kind_in (sym t.1) ∙ e)
]

pub plain_cleared : (bs : ℕ → Box) (l : ℕ) → NoPlain bs → NoPlain (at_link bs l Empty)
plain_cleared bs l h k e = elim (at bs l Empty k) [
  | inl t ↦ (let both : None ≡ Some Plain = ap kind_in (sym t.1) ∙ e in absurd (cc))
  | inr t ↦ h k (ap kind_in (sym t.1) ∙ e)
]

pub plain_put : (bs : ℕ → Box) (l here : ℕ) (m : Message) → Some (kind_of m) ≢ Some Plain → NoPlain bs → NoPlain (at_link bs l (Waiting here m))
plain_put bs l here m signal h k e = elim (at bs l (Waiting here m) k) [
  | inl t ↦ signal (ap kind_in (sym t.1) ∙ e)
  | inr t ↦ h k (ap kind_in (sym t.1) ∙ e)
]

pub plain_if : (t : Bool) (post : Post) (here : ℕ) (bs : ℕ → Box) → (t ≡ true → NoPlain (posted here (Some post) bs)) → NoPlain bs → NoPlain (posted here (when t post) bs)
plain_if true post here bs f h = f refl
plain_if false post here bs f h = h

-- where a signal is taken nothing else is outstanding
pub plain_alone : (bs : ℕ → Box) (l : ℕ) (m : Message) → IsAlone bs → WaitsWith (bs l) m → is_signal (Some (kind_of m)) ≡ true → NoPlain bs
plain_alone bs l m alone waits signal k e =
    let there : is_signal (kind_in (bs l)) ≡ true = here (bs l) waits in
    let zero : l ≡ 0 = alone.on_zero l there in
    let at_zero : is_signal (kind_in (bs 0)) ≡ true = subst (λ (j : ℕ). is_signal (kind_in (bs j)) ≡ true) zero there in
    elim (at (λ (j : ℕ). true) 0 false k) [
      | inl t ↦
          (let plain : kind_in (bs 0) ≡ Some Plain = subst (λ (j : ℕ). kind_in (bs j) ≡ Some Plain) t.0 e in
          let both : false ≡ true = sym (ap is_signal plain) ∙ at_zero in
          absurd (cc))
      | inr t ↦ (let both : None ≡ Some Plain = sym (ap kind_in (alone.empty at_zero k t.0)) ∙ e in absurd (cc))
    ]
  where
    here : (x : Box) → WaitsWith x m → is_signal (kind_in x) ≡ true
    here Empty w = absurd w
    here (Waiting q n) w = ap (λ (y : Message). is_signal (Some (kind_of y))) w ∙ signal
    here (Taken q n) w = absurd w

-- ---- who owes an RRP to a host that is ready has said nothing to it

pub owed_sent : (t : Bool) (l : ℕ) (m : Message) (p : Pair) → (pair_moved (when t (Send l m)) p).owed ≡ true → (p.owed ≡ true) × ((t ≡ true) → m ≢ Reply)
owed_sent true l Reset p e = (e, (λ t same. absurd (cc)))
owed_sent true l Reply p e = absurd (cc)
owed_sent true l (Other text) p e = (e, (λ t same. absurd (cc)))
owed_sent false l m p e = (e, (λ t. absurd (cc)))

pub owed_told : (t : Bool) (l : ℕ) (k : Answer) (p : Pair) → (pair_moved (when t (Hear l k)) p).owed ≡ true → p.owed ≡ true
owed_told true l answer.Rfnm p e = e
owed_told true l answer.Dead p e = e
owed_told true l answer.Incomplete p e = e
owed_told true l answer.NotTaken p e = e
owed_told false l k p e = e

pub owed_call : (t : Bool) (p : Pair) → (pair_moved (when t Call) p).owed ≡ true → p.owed ≡ true
owed_call true p e = e
owed_call false p e = e

pub owed_begin : (t : Bool) (p : Pair) → (pair_moved (when t Begin) p).owed ≡ true → p.owed ≡ true
owed_begin true p e = absurd (cc)
owed_begin false p e = e

owed_taken : (t : Bool) (m : Message) (p : Pair) → (pair_moved (when t (Take m)) p).owed ≡ true → (p.owed ≡ true) ⊎ ((t ≡ true) × (m ≡ Reset))
owed_taken true Reset p e = inr (refl, refl)
owed_taken true Reply p e = inl e
owed_taken true (Other text) p e = inl e
owed_taken false m p e = inl e

-- what a host that owes an RRP sends is no plain message
pub sends_signal : (l : ℕ) (m : Message) (p : Pair) → p.owed ≡ true → MaySend p l m → Some (kind_of m) ≢ Some Plain
sends_signal l Reset p owed may e = absurd (cc)
sends_signal l Reply p owed may e = absurd (cc)
sends_signal l (Other text) p owed may e = contradicts p.owed owed may.1

pub owes_run : (hosts : Network) (events : List Event) → IsRun hosts events → (a b : Host) → AreOurs hosts a b → (pair a b events).owed ≡ true → (pair b a events).phase ≡ Ready → NoPlain (boxes a b events)
owes_run hosts [] r a b ours owed prepared = absurd (cc)
owes_run hosts (Contact x y ∷ events) r a b ours owed prepared =
    owes_run hosts events r.2 a b ours (owed_call (are a b x y) (pair a b events) owed) (still_ready (are b a x y) Call (place events) (pair b a events) (monitor b a events) tt prepared).0
owes_run hosts (Out x y l m ∷ events) r a b ours owed prepared =
    let old : (pair a b events).owed ≡ true = (owed_sent (are a b x y) l m (pair a b events) owed).0 in
    let h : NoPlain (boxes a b events) = owes_run hosts events r.2 a b ours old (still_ready (are b a x y) (Send l m) (place events) (pair b a events) (monitor b a events) tt prepared).0 in
    plain_if (are a b x y) (Put l m) (place events) (boxes a b events)
    (λ e. plain_put (boxes a b events) l (place events) m (sends_signal l m (pair a b events) old (carry (λ v w. AreOurs hosts v w → MaySend (pair v w events) l m) a b x y e r.1 ours)) h) h
owes_run hosts (In x y l m ∷ events) r a b ours owed prepared = elim (ready_taken (are b a y x) m (place events) (pair b a events) (monitor b a events) prepared) [
  | inl s ↦
      (let same : are a b x y ≡ true = turned_about a b x y s.0 in
      let waits : WaitsWith (boxes a b events l) m = carry (λ v w. WaitsWith (boxes v w events l) m) a b x y same r.0.1 in
      let h : NoPlain (boxes a b events) = plain_alone (boxes a b events) l m (alone_run hosts events r.2 a b ours) waits s.1 in
      plain_if (are a b x y) (Fetch l) (place events) (boxes a b events) (λ e. plain_fetched (boxes a b events) l h) h)
  | inr t ↦ elim (owed_taken (are a b y x) m (pair a b events) owed) [
    | inl old ↦
        (let h : NoPlain (boxes a b events) = owes_run hosts events r.2 a b ours old t.0 in
        plain_if (are a b x y) _ _ _ (λ e. plain_fetched (boxes a b events) l h) h)
    | inr taken ↦ absurd (took_reset taken.1 taken.0)
  ]
] where
  took_reset : m ≡ Reset → are a b y x ≡ true → ⊥
  took_reset e same =
      let q : IsRun hosts (In x y l Reset ∷ events) = subst (λ (z : Message). IsRun hosts (In x y l z ∷ events)) e r in
      let p : (pair b a (In x y l Reset ∷ events)).phase ≡ Ready = subst (λ (z : Message). (pair b a (In x y l z ∷ events)).phase ≡ Ready) e prepared in
      reset_unready hosts events x y l q a b ours same p
owes_run hosts (Told x y l k ∷ events) r a b ours owed prepared =
    let h : NoPlain (boxes a b events) =
    owes_run hosts events r.2 a b ours (owed_told _ l k _ owed) (still_ready (are b a x y) (Hear l k) (place events) (pair b a events) (monitor b a events) tt prepared).0 in
    plain_if _ _ _ _ (λ e. plain_cleared (boxes a b events) l h) h
owes_run hosts (Down x ∷ events) r a b ours owed prepared =
    owes_run hosts events r.2 a b ours (owed_begin _ _ owed) (still_ready _ Begin (place events) _ (monitor b a events) tt prepared).0
owes_run hosts (Up x ∷ events) r a b ours owed prepared =
    let h : NoPlain (boxes a b events) =
    owes_run hosts events r.2 a b ours (owed_begin _ _ owed) (still_ready _ Begin (place events) _ (monitor b a events) tt prepared).0 in
    plain_if _ ClearAll _ _ (λ e k plain. absurd (cc)) h
owes_run hosts (Idle ∷ events) r a b ours owed prepared = owes_run hosts events r.2 a b ours owed prepared
