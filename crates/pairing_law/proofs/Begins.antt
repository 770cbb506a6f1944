-- Where a stay begins: nothing was said since the connections were dropped last, and an older stay is over.
use Rattle.std.proofs.Common.{◌≡◌, ◌≢◌, ◌⊎◌, ℕ, Bool, true, false, not, ◌&&◌, ◌||◌, List, [], ◌∷◌, Some, refl, ap, sym, subst, ◌∙◌, inl, inr, if◌then◌else◌, ◌==◌, eq-eqb}
use Rattle.std.proofs.lemmas.Bool.{eqb-true, and_parts, and_right}
use Rattle.interface.specs.Host.{Host, same_host}
use Rattle.interface.specs.declared.crossing.Answer.{Answer}
use Rattle.interface.specs.declared.crossing.Answer.TheVariants as answer
use Rattle.ncp_control.specs.Phases.{reset_phase, reply_phase, taken_phase, failed_phase}
use Rattle.ncp_control.specs.declared.phase.Phase.{Phase}
use Rattle.ncp_control.specs.declared.phase.Phase.TheVariants.{Closed, Want, Gone, Heard, Ready}
use Rattle.reset_law.specs.Events.{Message, Reset, Reply, Other, Event, Contact, Out, In, Told, Down, Up, Idle, Call, Send, Take, Hear, Begin, when, are, place, is_up}
use Rattle.reset_law.specs.Boxes.{Box, Empty, Waiting, Taken, WaitsWith, Fits, Put, Fetch, Clear, ClearAll, fetched, posted, at_link, boxes}
use Rattle.reset_law.specs.Pairs.{Rst, Rrp, Pair, MaySend, kind_of, pair_moved, pair}
use Rattle.reset_law.specs.Monitor.{monitor}
use Rattle.reset_law.specs.Invariant.{kind_in, is_signal, InGone, InHeard, Shape, Sound}
use Rattle.reset_law.specs.Runs.{IsRun}
use Rattle.ncp_control.specs.Phases.{is_ready}
use Rattle.reset_law.specs.Stays.{ready, joint, begins, takes_reset, stays}
use Rattle.reset_law.proofs.lemmas.{at, carry, contradicts, down_pair, ready_phase, ready_taken, ready_up, reply_from, reset_unready, sound_run, stays_ready, still_ready, turned_about, unready_phase}
use Rattle.reset_law.specs.Network.{AreOurs, Network}

-- ---- an RST that was taken

-- the peer has taken the RST of this contact
abbrev HasGone : Phase → Box → Type 0
HasGone (Gone early) Empty = ⊥
HasGone (Gone early) (Waiting p m) = ⊥
HasGone (Gone early) (Taken p m) = Unit {0}
HasGone Heard box = Unit {0}
HasGone c box = ⊥

gone_unready : (ph : Phase) (box : Box) → HasGone ph box → is_ready ph ≡ false
gone_unready Ready box h = absurd h
gone_unready ph box h = refl

put_gone : (ph : Phase) (x y : Box) (p : ℕ) (m : Message) → y ≡ Waiting p m → HasGone ph y → HasGone ph x
put_gone (Gone early) x y p m e h = absurd (subst (λ (z : Box). HasGone (Gone early) z) e h)
put_gone Heard x y p m e h = tt
put_gone ph x y p m e h = h

at_zero : (bs : ℕ → Box) (l : ℕ) (x : Box) → l ≡ 0 → at_link bs l x 0 ≡ x
at_zero bs l x e = elim (at bs l x 0) [
  | inl t ↦ t.1
  | inr t ↦ absurd (t.0 (sym e))
]

sent_gone : (t : Bool) (l here : ℕ) (m : Message) (p : Pair) (bs : ℕ → Box) → (t ≡ true → MaySend p l m) → HasGone (pair_moved (when t (Send l m)) p).phase (posted here (when t (Put l m)) bs 0) → HasGone p.phase (bs 0)
sent_gone true l here Reset p bs may h = absurd (subst (λ (z : Box). HasGone (Gone false) z) (at_zero bs l _ (may refl).0) h)
sent_gone true l here Reply p bs may h = put_gone _ (bs 0) _ here Reply (at_zero bs l _ (may refl).0) h
sent_gone true l here (Other text) p bs may h = absurd (subst (λ (ph : Phase). HasGone ph (at_link bs l (Waiting here (Other text)) 0)) (may refl).0 h)
sent_gone false l here m p bs may h = h

reset_gone : (ph : Phase) (box : Box) → HasGone (reset_phase ph) box → HasGone ph box
reset_gone Closed box h = h
reset_gone ph box h = h

early_gone : (early late : Bool) (box : Box) → HasGone (Gone early) box → HasGone (Gone late) box
early_gone early late Empty h = h
early_gone early late (Waiting p m) h = h
early_gone early late (Taken p m) h = h

reply_gone : (ph : Phase) (box : Box) → HasGone (reply_phase ph) box → HasGone ph box
reply_gone (Gone early) box h = early_gone true early box h
reply_gone Heard box h = tt
reply_gone ph box h = h

took_gone : (t : Bool) (m : Message) (p : Pair) (box : Box) → HasGone (pair_moved (when t (Take m)) p).phase box → HasGone p.phase box
took_gone true Reset p box h = reset_gone _ box h
took_gone true Reply p box h = reply_gone _ box h
took_gone true (Other text) p box h = h
took_gone false m p box h = h

abbrev IsGone : Phase → Type 0
IsGone ph = (early : Bool) × (ph ≡ Gone early)

gone_either : (ph : Phase) (x y : Box) → HasGone ph y → HasGone ph x ⊎ IsGone ph
gone_either (Gone early) x y h = inr (early, refl)
gone_either Heard x y h = inl tt
gone_either ph x y h = inl h

fetched_gone : (t : Bool) (l here : ℕ) (ph : Phase) (bs : ℕ → Box) → HasGone ph (posted here (when t (Fetch l)) bs 0) → HasGone ph (bs 0) ⊎ ((t ≡ true) × (l ≡ 0) × IsGone ph)
fetched_gone true l here ph bs h = elim (at bs l (fetched (bs l)) 0) [
  | inl t ↦ elim (gone_either ph (bs 0) _ h) [
    | inl old ↦ inl old
    | inr gone ↦ inr (refl, sym t.0, gone)
  ]
  | inr t ↦ inl (subst (λ (z : Box). HasGone ph z) t.1 h)
]
fetched_gone false l here ph bs h = inl h

rfnm_taken : (x : Box) (early : Bool) → Fits answer.Rfnm x → HasGone (Gone early) x
rfnm_taken Empty early f = absurd f
rfnm_taken (Waiting p m) early f = absurd f
rfnm_taken (Taken p m) early f = tt

rfnm_gone : (ph : Phase) (x y : Box) → Fits answer.Rfnm x → HasGone (taken_phase ph) y → HasGone ph x
rfnm_gone (Gone true) x y f h = absurd h
rfnm_gone (Gone false) x y f h = rfnm_taken x false f
rfnm_gone Heard x y f h = tt
rfnm_gone ph x y f h = h

failed_gone : (ph : Phase) (owed : Bool) (x y : Box) → HasGone (failed_phase ph owed) y → HasGone ph x
failed_gone Closed owed x y h = h
failed_gone Want owed x y h = h
failed_gone (Gone early) owed x y h = absurd h
failed_gone Heard owed x y h = tt
failed_gone Ready true x y h = h
failed_gone Ready false x y h = h

told_gone : (t : Bool) (l here : ℕ) (k : Answer) (p : Pair) (bs : ℕ → Box) → (t ≡ true → Fits k (bs l)) → HasGone (pair_moved (when t (Hear l k)) p).phase (posted here (when t (Clear l)) bs 0) → HasGone p.phase (bs 0)
told_gone false l here k p bs f h = h
told_gone true l here answer.Dead p bs f h = failed_gone _ p.owed (bs 0) _ h
told_gone true l here answer.Incomplete p bs f h = failed_gone _ p.owed (bs 0) _ h
told_gone true l here answer.NotTaken p bs f h = failed_gone _ p.owed (bs 0) _ h
told_gone true l here answer.Rfnm p bs f h = by (l == 0) refl where
  by : (v : Bool) → (l == 0) ≡ v → HasGone p.phase (bs 0)
  by true e =
      rfnm_gone p.phase (bs 0) (at_link bs l Empty 0) (subst (λ (j : ℕ). Fits answer.Rfnm (bs j)) (eqb-true l 0 e) (f refl))
      (subst (λ (v : Bool). HasGone (if v then taken_phase p.phase else p.phase) (at_link bs l Empty 0)) e h)
  by false e = elim (at bs l Empty 0) [
    | inl t ↦ absurd (contradicts (l == 0) (eq-eqb l 0 (sym t.0)) e)
    | inr t ↦ subst (λ (z : Box). HasGone p.phase z) t.1 (subst (λ (v : Bool). HasGone (if v then taken_phase p.phase else p.phase) (at_link bs l Empty 0)) e h)
  ]

call_gone : (t : Bool) (p : Pair) (box : Box) → HasGone (pair_moved (when t Call) p).phase box → HasGone p.phase box
call_gone true p box h = absurd h
call_gone false p box h = h

down_gone : (t : Bool) (p : Pair) (box : Box) → HasGone (pair_moved (when t Begin) p).phase box → HasGone p.phase box
down_gone true p box h = absurd h
down_gone false p box h = h

up_gone : (t : Bool) (here : ℕ) (p : Pair) (bs : ℕ → Box) → HasGone (pair_moved (when t Begin) p).phase (posted here (when t ClearAll) bs 0) → HasGone p.phase (bs 0)
up_gone true here p bs h = absurd h
up_gone false here p bs h = h

-- ---- its peer doesn't stay

left_on : (t r k s : Bool) → t ≡ false → (k ≡ true) ⊎ (s ≡ false) → (t || (r && not k && s)) ≡ false
left_on true r k s e h = e
left_on false false k s e h = refl
left_on false true true s e h = refl
left_on false true false s e (inl f) = absurd (cc)
left_on false true false s e (inr f) = f

no_begin : (e : Event) (events : List Event) (v w : Host) → ready v w (e ∷ events) ≡ false → begins w v e events ≡ false
no_begin e events v w none = rw (and_right (ready w v (e ∷ events)) (ready v w (e ∷ events)) none) refl

stays_left : (e : Event) (events : List Event) (v w : Host) → HasGone (pair v w (e ∷ events)).phase (boxes v w (e ∷ events) 0) → (takes_reset w v e ≡ true) ⊎ (stays w v events ≡ false) → stays w v (e ∷ events) ≡ false
stays_left e events v w h left =
    left_on _ _ _ _ (no_begin e events v w (gone_unready _ _ h)) left

reset_waits : (x : Box) (m : Message) → WaitsWith x m → kind_in x ≡ Some Rst → m ≡ Reset
reset_waits Empty m w e = absurd w
reset_waits (Taken p n) m w e = absurd w
reset_waits (Waiting p Reset) m w e = sym w
reset_waits (Waiting p Reply) m w e = absurd (cc)
reset_waits (Waiting p (Other text)) m w e = absurd (cc)

gone_up : (hosts : Network) (events : List Event) → IsRun hosts events → (a b : Host) → AreOurs hosts a b → (early : Bool) → (pair a b events).phase ≡ Gone early → is_up hosts.all a events ≡ true
gone_up hosts events r a b ours early gone = by (is_up _ a events) refl where
  by : (v : Bool) → is_up hosts.all a events ≡ v → is_up hosts.all a events ≡ true
  by true e = e
  by false e = absurd (let both : Gone early ≡ Closed = sym gone ∙ ap (λ (p : Pair). p.phase) (down_pair hosts events r a b ours e) in absurd (cc))

takes_it : (hosts : Network) (events : List Event) (x y : Host) (l : ℕ) (m : Message) → IsRun hosts (In x y l m ∷ events) → (v w : Host) → AreOurs hosts v w → are v w x y ≡ true → l ≡ 0 → IsGone (pair v w events).phase
    → takes_reset w v (In x y l m) ≡ true
takes_it hosts events x y l m r v w ours same zero gone =
    let up : is_up hosts.all v events ≡ true = gone_up hosts events r.2 v w ours gone.0 gone.1 in
    let s : Sound (pair v w events) (monitor v w events) (boxes v w events) = sound_run hosts events r.2 v w ours up in
    let S : Phase → Type 0 = λ ph. Shape ph (monitor v w events) (pair v w events).begun (pair v w events).out in
    let i : InGone gone.0 (monitor v w events) (pair v w events).begun (pair v w events).out = subst S gone.1 s.shape in
    let waits : WaitsWith (boxes v w events l) m = carry (λ i j. WaitsWith (boxes i j events l) m) v w x y same r.0.1 in
    let kind : kind_in (boxes v w events l) ≡ Some Rst = subst (λ (j : ℕ). kind_in (boxes v w events j) ≡ Some Rst) (sym zero) (sym (s.outstanding.boxed 0) ∙ i.rst) in
    let rst : m ≡ Reset = reset_waits _ m waits kind in
    subst (λ (n : Message). takes_reset w v (In x y l n) ≡ true) (sym rst) (turned_about w v y x same)

-- a host whose RST was taken has a peer that left
has_left : (hosts : Network) (events : List Event) → IsRun hosts events → (v w : Host) → AreOurs hosts v w → HasGone (pair v w events).phase (boxes v w events 0) → stays w v events ≡ false
has_left hosts [] r v w ours h = refl
has_left hosts (Contact x y ∷ events) r v w ours h = stays_left (Contact x y) events v w h (inr (has_left hosts events r.2 v w ours (call_gone _ _ _ h)))
has_left hosts (Out x y l m ∷ events) r v w ours h =
    stays_left (Out x y l m) events v w h
    (inr (has_left hosts events r.2 v w ours (sent_gone _ l _ m _ _ (λ e. carry (λ i j. AreOurs hosts i j → MaySend (pair i j events) l m) v w x y e r.1 ours) h)))
has_left hosts (In x y l m ∷ events) r v w ours h =
    stays_left (In x y l m) events v w h (elim (fetched_gone (are v w x y) l (place events) (pair v w events).phase (boxes v w events) (took_gone (are v w y x) m (pair v w events) (boxes v w (In x y l m ∷ events) 0) h)) [
      | inl old ↦ inr (has_left hosts events r.2 v w ours old)
      | inr now ↦ inl (takes_it hosts events x y l m r v w ours now.0 now.1 now.2)
    ])
has_left hosts (Told x y l k ∷ events) r v w ours h =
    stays_left (Told x y l k) events v w h
    (inr (has_left hosts events r.2 v w ours (told_gone _ l _ k _ _ (λ e. carry (λ i j. Fits k (boxes i j events l)) v w x y e r.0.1) h)))
has_left hosts (Down x ∷ events) r v w ours h = stays_left (Down x) events v w h (inr (has_left hosts events r.2 v w ours (down_gone _ _ _ h)))
has_left hosts (Up x ∷ events) r v w ours h = stays_left (Up x) events v w h (inr (has_left hosts events r.2 v w ours (up_gone (same_host v x) (place events) (pair v w events) (boxes v w events) h)))
has_left hosts (Idle ∷ events) r v w ours h = stays_left Idle events v w h (inr (has_left hosts events r.2 v w ours h))

-- ---- how a stay begins

reply_begun : (t : Bool) (p : Pair) → p.begun ≡ false → (pair_moved (when t (Take Reply)) p).begun ≡ false
reply_begun true p e = e
reply_begun false p e = e

reply_kind : (x : Box) → WaitsWith x Reply → kind_in x ≡ Some Rrp
reply_kind Empty w = absurd w
reply_kind (Waiting p n) w = ap (λ (m : Message). Some (kind_of m)) w
reply_kind (Taken p n) w = absurd w

-- both have said nothing since their connections were dropped last, and neither is in an older stay
pub record Fresh (v w : Host) (e : Event) (events : List Event) : Type 0 where
  pub silent : (pair v w (e ∷ events)).begun ≡ false
  pub silent_peer : (pair w v (e ∷ events)).begun ≡ false
  pub left : stays v w events ≡ false
  pub peer_left : stays w v events ≡ false

unready_left : (events : List Event) (v w : Host) → (pair v w events).phase ≢ Ready → stays v w events ≡ false
unready_left events v w none = by (stays v w events) refl where
  by : (t : Bool) → stays v w events ≡ t → stays v w events ≡ false
  by false e = e
  by true e = absurd (none (ready_phase _ (stays_ready events v w e)))

heard_left : (hosts : Network) (events : List Event) → IsRun hosts events → (v w : Host) → AreOurs hosts v w → (pair v w events).phase ≡ Heard → stays w v events ≡ false
heard_left hosts events r v w ours h = has_left hosts events r v w ours (subst (λ (ph : Phase). HasGone ph (boxes v w events 0)) (sym h) tt)

became_fresh : (hosts : Network) (e : Event) (events : List Event) → IsRun hosts (e ∷ events) → (v w : Host) → AreOurs hosts v w → (pair v w (e ∷ events)).phase ≡ Ready → (pair v w events).phase ≢ Ready
    → (pair w v (e ∷ events)).phase ≡ Ready → Fresh v w e events
became_fresh hosts (Contact x y) events r v w ours here before there = absurd (before (still_ready (are v w x y) Call (place events) (pair v w events) (monitor v w events) tt here).0)
became_fresh hosts (Out x y l m) events r v w ours here before there = absurd (before (still_ready (are v w x y) (Send l m) (place events) (pair v w events) (monitor v w events) tt here).0)
became_fresh hosts (In x y l Reset) events r v w ours here before there = elim (ready_taken (are v w y x) Reset (place events) _ (monitor v w events) here) [
  | inl s ↦ absurd (reset_unready hosts events x y l r v w ours s.0 there)
  | inr t ↦ absurd (before t.0)
]
became_fresh hosts (In x y l Reply) events r v w ours here before there = elim (ready_taken (are v w y x) Reply (place events) (pair v w events) (monitor v w events) here) [
  | inl s ↦ elim (reply_from _ _ here) [
    | inl awaited ↦
        (let up : is_up hosts.all v events ≡ true = ready_up hosts (In x y l Reply ∷ events) r v w ours here in
        let sound : Sound (pair v w events) (monitor v w events) (boxes v w events) = sound_run hosts events r.2 v w ours up in
        let S : Phase → Type 0 = λ ph. Shape ph (monitor v w events) (pair v w events).begun (pair v w events).out in
        let i : InHeard (monitor v w events) (pair v w events).begun (pair v w events).out = subst S awaited sound.shape in
        let peer_up : is_up hosts.all w events ≡ true = ready_up hosts (In x y l Reply ∷ events) r w v (ours.1, ours.0) there in
        let other : Sound (pair w v events) (monitor w v events) (boxes w v events) = sound_run hosts events r.2 w v (ours.1, ours.0) peer_up in
        let same : are w v x y ≡ true = turned_about w v x y s.0 in
        let waits : WaitsWith (boxes w v events l) Reply = carry (λ i j. WaitsWith (boxes i j events l) Reply) w v x y same r.0.1 in
        let out : (pair w v events).out l ≡ Some Rrp = other.outstanding.boxed l ∙ reply_kind _ waits in
        let zero : l ≡ 0 = other.outstanding.on_zero l (ap is_signal out) in
        record {
          silent = reply_begun _ _ i.silent;
          silent_peer = reply_begun _ _ (other.outstanding.replying (subst (λ (k : ℕ). (pair w v events).out k ≡ Some Rrp) zero out));
          left = unready_left events v w before;
          peer_left = heard_left hosts events r.2 v w ours awaited;
        })
    | inr old ↦ absurd (before old)
  ]
  | inr t ↦ absurd (before t.0)
]
became_fresh hosts (In x y l (Other text)) events r v w ours here before there = elim (ready_taken (are v w y x) (Other text) (place events) (pair v w events) (monitor v w events) here) [
  | inl s ↦ (let both : false ≡ true = s.1 in absurd (cc))
  | inr t ↦ absurd (before t.0)
]
became_fresh hosts (Told x y l k) events r v w ours here before there = absurd (before (still_ready (are v w x y) (Hear l k) (place events) (pair v w events) (monitor v w events) tt here).0)
became_fresh hosts (Down x) events r v w ours here before there = absurd (before (still_ready (same_host v x) Begin (place events) (pair v w events) (monitor v w events) tt here).0)
became_fresh hosts (Up x) events r v w ours here before there = absurd (before (still_ready (same_host v x) Begin (place events) (pair v w events) (monitor v w events) tt here).0)
became_fresh hosts Idle events r v w ours here before there = absurd (before here)

one_false : (s t : Bool) → not (s && t) ≡ true → (s ≡ false) ⊎ (t ≡ false)
one_false true true e = absurd (cc)
one_false true false e = inr refl
one_false false t e = inl refl

pub begins_fresh : (hosts : Network) (e : Event) (events : List Event) → IsRun hosts (e ∷ events) → (a b : Host) → AreOurs hosts a b → begins a b e events ≡ true → Fresh a b e events
begins_fresh hosts e events r a b ours begun =
    let t : (joint a b (e ∷ events) ≡ true) × (not (joint a b events) ≡ true) = and_parts (joint a b (e ∷ events)) (not (joint a b events)) begun in
    let now : (ready a b (e ∷ events) ≡ true) × (ready b a (e ∷ events) ≡ true) = and_parts (ready a b (e ∷ events)) (ready b a (e ∷ events)) t.0 in
    let first : (pair a b (e ∷ events)).phase ≡ Ready = ready_phase _ now.0 in
    let second : (pair b a (e ∷ events)).phase ≡ Ready = ready_phase _ now.1 in
    elim (one_false _ _ t.1) [
      | inl was ↦ became_fresh hosts e events r a b ours first (unready_phase _ was) second
      | inr was ↦
          (let f : Fresh b a e events = became_fresh hosts e events r b a (ours.1, ours.0) second (unready_phase _ was) first in
          record { silent = f.silent_peer; silent_peer = f.silent; left = f.peer_left; peer_left = f.left })
    ]
