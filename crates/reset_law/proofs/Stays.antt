-- What a host heard of its peer while it stays is a prefix of what that peer said.
use Rattle.reset_law.proofs.Common.{Host, same_host, Answer, Phase, Closed, Want, Gone, Heard, Ready, IsRun, AreOurs, Network}
use Rattle.std.proofs.Common.{◌≡◌, ◌≢◌, ◌⊎◌, ℕ, Bool, true, false, not, ◌&&◌, ◌||◌, List, [], ◌∷◌, ◌++◌, refl, ap, sym, subst, ◌∙◌, inl, inr, if◌then◌else◌, ◌==◌, eq-eqb, append-nil}
use Rattle.std.proofs.lemmas.Bool.{eqb-true, false_from_ne_true, or_left, and_cases}
use Rattle.interface.specs.declared.crossing.Answer.TheVariants as answer
use Rattle.interface.proofs.lemmas.{and_true, not_true, and_turned}
use Rattle.ncp_control.specs.Phases.{reply_phase, failed_phase, is_ready}
use Rattle.reset_law.specs.Events.{Message, Reset, Reply, Other, Event, Contact, Out, In, Told, Down, Up, Idle, Call, Send, Take, Hear, Begin, when, are, place, is_up}
use Rattle.reset_law.specs.Boxes.{Box, Empty, Waiting, Taken, WaitsWith, Fits, Put, Fetch, Clear, ClearAll, fetched, posted, at_link, boxes}
use Rattle.reset_law.specs.Pairs.{Pair, MaySend, pair_moved, pair}
use Rattle.reset_law.specs.Monitor.{monitor}
use Rattle.reset_law.specs.Invariant.{InHeard, Shape, Sound}
use Rattle.reset_law.specs.Stays.{ready, joint, begins, takes_reset, stays, said_by, heard_by, said_in_stay, heard_in_stay, waits_in, IsPrefix}
use Rattle.reset_law.proofs.Links.{at}
use Rattle.reset_law.proofs.Runs.{carry, sound_run, alone_run, ready_up}
use Rattle.reset_law.proofs.Fresh.{turned_about, still_ready, ready_taken}
use Rattle.reset_law.proofs.Joint.{ready_phase, phase_ready, contradicts, reset_unready, NoPlain, nothing_waits, plain_fetched, plain_if, plain_alone, owes_run}
use Rattle.reset_law.proofs.Words.{Tells, tells_as, tells_all, front_longer, tells_quiet, tells_heard, tells_said}

-- ---- how a stay begins

pub reply_from : (t : Bool) (p : Pair) → (pair_moved (when t (Take Reply)) p).phase ≡ Ready → (p.phase ≡ Heard) ⊎ (p.phase ≡ Ready)
reply_from true p e = by p.phase e where
  by : (ph : Phase) → reply_phase ph ≡ Ready → (ph ≡ Heard) ⊎ (ph ≡ Ready)
  by Closed e = absurd (cc)
  by Want e = absurd (cc)
  by (Gone early) e = absurd (cc)
  by Heard e = inl refl
  by Ready e = inr refl
reply_from false p e = inr e

-- a host that becomes ready, with a peer that is: nothing waits either way
became_quiet : (hosts : Network) (e : Event) (events : List Event) → IsRun hosts (e ∷ events) → (v w : Host) → AreOurs hosts v w → (pair v w (e ∷ events)).phase ≡ Ready → (pair v w events).phase ≢ Ready
    → (pair w v (e ∷ events)).phase ≡ Ready → NoPlain (boxes v w (e ∷ events)) × NoPlain (boxes w v (e ∷ events))
became_quiet hosts (Contact x y) events r v w ours here before there = absurd (before (still_ready (are v w x y) Call (place events) (pair v w events) (monitor v w events) tt here).0)
became_quiet hosts (Out x y l m) events r v w ours here before there = absurd (before (still_ready (are v w x y) (Send l m) (place events) (pair v w events) (monitor v w events) tt here).0)
became_quiet hosts (In x y l Reset) events r v w ours here before there = elim (ready_taken (are v w y x) Reset (place events) (pair v w events) (monitor v w events) here) [
  | inl s ↦ absurd (reset_unready hosts events x y l r v w ours s.0 there)
  | inr t ↦ absurd (before t.0)
]
became_quiet hosts (In x y l Reply) events r v w ours here before there = elim (ready_taken (are v w y x) Reply (place events) (pair v w events) (monitor v w events) here) [
  | inl s ↦ elim (reply_from (are v w y x) (pair v w events) here) [
    | inl awaited ↦
        (let up : is_up hosts.all v events ≡ true = ready_up hosts (In x y l Reply ∷ events) r v w ours here in
        let sound : Sound (pair v w events) (monitor v w events) (boxes v w events) = sound_run hosts events r.2 v w ours up in
        let S : Phase → Type 0 = λ ph. Shape ph (monitor v w events) (pair v w events).begun (pair v w events).out in
        let i : InHeard (monitor v w events) (pair v w events).begun (pair v w events).out = subst S awaited sound.shape in
        let own : NoPlain (boxes v w events) = λ k plain. i.no_plain k (sound.outstanding.boxed k ∙ plain) in
        let same : are w v x y ≡ true = turned_about w v x y s.0 in
        let waits : WaitsWith (boxes w v events l) Reply = carry (λ i j. WaitsWith (boxes i j events l) Reply) w v x y same r.0.1 in
        let other : NoPlain (boxes w v events) = plain_alone (boxes w v events) l Reply (alone_run hosts events r.2 w v (ours.1, ours.0)) waits refl in (
          plain_if (are v w x y) (Fetch l) _ _ (λ e. plain_fetched (boxes v w events) l own) own,
          plain_if _ _ _ _ (λ e. plain_fetched (boxes w v events) l other) other,
        ))
    | inr old ↦ absurd (before old)
  ]
  | inr t ↦ absurd (before t.0)
]
became_quiet hosts (In x y l (Other text)) events r v w ours here before there = elim (ready_taken (are v w y x) (Other text) (place events) (pair v w events) (monitor v w events) here) [
  | inl s ↦ (let both : false ≡ true = s.1 in absurd (cc))
  | inr t ↦ absurd (before t.0)
]
became_quiet hosts (Told x y l k) events r v w ours here before there = absurd (before (still_ready (are v w x y) (Hear l k) (place events) (pair v w events) (monitor v w events) tt here).0)
became_quiet hosts (Down x) events r v w ours here before there = absurd (before (still_ready (same_host v x) Begin (place events) (pair v w events) (monitor v w events) tt here).0)
became_quiet hosts (Up x) events r v w ours here before there = absurd (before (still_ready (same_host v x) Begin (place events) (pair v w events) (monitor v w events) tt here).0)
became_quiet hosts Idle events r v w ours here before there = absurd (before here)

pub unready_phase : (ph : Phase) → is_ready ph ≡ false → ph ≢ Ready
unready_phase ph e same = contradicts (is_ready ph) (phase_ready ph same) e

pub begin_quiet : (hosts : Network) (e : Event) (events : List Event) → IsRun hosts (e ∷ events) → (a b : Host) → AreOurs hosts a b → begins a b e events ≡ true → NoPlain (boxes a b (e ∷ events)) × NoPlain (boxes b a (e ∷ events))
begin_quiet hosts e events r a b ours begun =
    let t : (joint a b (e ∷ events) ≡ true) × (not (joint a b events) ≡ true) = and_true (joint a b (e ∷ events)) (not (joint a b events)) begun in
    let now : (ready a b (e ∷ events) ≡ true) × (ready b a (e ∷ events) ≡ true) = and_true (ready a b (e ∷ events)) (ready b a (e ∷ events)) t.0 in
    let first : (pair a b (e ∷ events)).phase ≡ Ready = ready_phase _ now.0 in
    let second : (pair b a (e ∷ events)).phase ≡ Ready = ready_phase _ now.1 in
    elim (and_cases (ready a b events) (ready b a events) (not_true _ t.1)) [
      | inl was ↦ became_quiet hosts e events r a b ours first (unready_phase _ was) second
      | inr was ↦
          (let q : NoPlain (boxes b a (e ∷ events)) × NoPlain (boxes a b (e ∷ events)) = became_quiet hosts e events r b a (ours.1, ours.0) second (unready_phase _ was) first in
          (q.1, q.0))
    ]

-- ---- tests of stays

pub begins_either : (a b : Host) (e : Event) (events : List Event) → begins a b e events ≡ begins b a e events
begins_either a b e events =
    ap (λ (j : Bool). j && not (joint a b events)) (and_turned (ready a b (e ∷ events)) (ready b a (e ∷ events)))
    ∙ ap (λ (j : Bool). joint b a (e ∷ events) && not j) (and_turned (ready a b events) (ready b a events))

pub joint_either : (a b : Host) (events : List Event) → joint a b events ≡ true → joint b a events ≡ true
joint_either a b events together = sym (and_turned (ready a b events) (ready b a events)) ∙ together

pub stays_on : (t r k s : Bool) → r ≡ true → k ≡ false → s ≡ true → (t || (r && not k && s)) ≡ true
stays_on true r k s e f g = refl
stays_on false r k s e f g = rw (e, f, g) refl

stays_parts : (t r k s : Bool) → (t || (r && not k && s)) ≡ true → t ≡ false → (r ≡ true) × (k ≡ false) × (s ≡ true)
stays_parts true r k s e f = absurd (cc)
stays_parts false true true s e f = absurd (cc)
stays_parts false true false s e f = (refl, refl, e)
stays_parts false false k s e f = absurd (cc)

-- hosts that are together now, and not just begun, were so before
were_joint : (now before : Bool) → (now && not before) ≡ false → now ≡ true → before ≡ true
were_joint true true e f = refl
were_joint true false e f = absurd (cc)
were_joint false before e f = absurd (cc)

pub stays_ready : (events : List Event) (a b : Host) → stays a b events ≡ true → ready a b events ≡ true
stays_ready [] a b s = absurd (cc)
stays_ready (e ∷ events) a b s = by (begins a b e events) refl where
  by : (t : Bool) → begins a b e events ≡ t → ready a b (e ∷ events) ≡ true
  by true begun = (and_true (ready a b (e ∷ events)) (ready b a (e ∷ events)) (and_true (joint a b (e ∷ events)) (not (joint a b events)) begun).0).0
  by false old = (stays_parts _ _ _ _ s old).0

-- while two hosts are together neither takes an RST of the other
no_reset : (hosts : Network) (e : Event) (events : List Event) → IsRun hosts (e ∷ events) → (a b : Host) → AreOurs hosts a b → (pair b a (e ∷ events)).phase ≡ Ready → takes_reset a b e ≡ false
no_reset hosts (In x y l Reset) events r a b ours other = false_from_ne_true (are a b y x) (λ same. reset_unready hosts events x y l r a b ours same other)
no_reset hosts (In x y l Reply) events r a b ours other = refl
no_reset hosts (In x y l (Other text)) events r a b ours other = refl
no_reset hosts (Contact x y) events r a b ours other = refl
no_reset hosts e events r a b ours other = refl

-- so both stay
pub joint_stays : (hosts : Network) (events : List Event) → IsRun hosts events → (a b : Host) → AreOurs hosts a b → joint a b events ≡ true → stays a b events ≡ true
joint_stays hosts [] r a b ours together = absurd (cc)
joint_stays hosts (e ∷ events) r a b ours together = by (begins a b e events) refl (λ before. joint_stays hosts events r.2 a b ours before) where
  by : (t : Bool) → begins a b e events ≡ t → (joint a b events ≡ true → stays a b events ≡ true) → stays a b (e ∷ events) ≡ true
  by true begun rest = or_left (begins a b e events) (ready a b (e ∷ events) && not (takes_reset a b e) && stays a b events) begun
  by false old rest =
      let now : (ready a b (e ∷ events) ≡ true) × (ready b a (e ∷ events) ≡ true) = and_true (ready a b (e ∷ events)) (ready b a (e ∷ events)) together in
      let before : stays a b events ≡ true = rest (were_joint _ _ old together) in
      stays_on _ _ _ _ now.0
      (no_reset hosts e events r a b ours (ready_phase _ now.1)) before

-- ---- what waits, after one event more

fetched_waits : (x : Box) → waits_in (fetched x) ≡ []
fetched_waits Empty = refl
fetched_waits (Waiting p m) = refl
fetched_waits (Taken p m) = refl

reply_waits : (x : Box) → WaitsWith x Reply → waits_in x ≡ []
reply_waits Empty w = absurd w
reply_waits (Waiting p m) w = ap (λ (n : Message). waits_in (Waiting p n)) w
reply_waits (Taken p m) w = absurd w

other_waits : (x : Box) (text : List Bool) → WaitsWith x (Other text) → waits_in x ≡ text ∷ []
other_waits Empty text w = absurd w
other_waits (Waiting p m) text w = ap (λ (n : Message). waits_in (Waiting p n)) w
other_waits (Taken p m) text w = absurd w

rfnm_waits : (x : Box) → Fits answer.Rfnm x → waits_in x ≡ []
rfnm_waits Empty f = absurd f
rfnm_waits (Waiting p m) f = absurd f
rfnm_waits (Taken p m) f = refl

signal_put : (t : Bool) (here k l : ℕ) (m : Message) (bs : ℕ → Box) → waits_in (Waiting here m) ≡ [] → (t ≡ true → bs k ≡ Empty) → waits_in (posted here (when t (Put k m)) bs l) ≡ waits_in (bs l)
signal_put true here k l m bs signal empty = elim (at bs k (Waiting here m) l) [
  | inl u ↦ (ap waits_in u.1 ∙ signal ∙ sym (ap (λ (j : ℕ). waits_in (bs j)) u.0 ∙ ap waits_in (empty refl)))
  | inr u ↦ ap waits_in u.1
]
signal_put false here k l m bs signal empty = refl

reply_fetch : (t : Bool) (here k l : ℕ) (bs : ℕ → Box) → (t ≡ true → WaitsWith (bs k) Reply) → waits_in (posted here (when t (Fetch k)) bs l) ≡ waits_in (bs l)
reply_fetch true here k l bs waits = elim (at bs k (fetched (bs k)) l) [
  | inl u ↦ (ap waits_in u.1 ∙ fetched_waits (bs k) ∙ sym (ap (λ (j : ℕ). waits_in (bs j)) u.0 ∙ reply_waits (bs k) (waits refl)))
  | inr u ↦ ap waits_in u.1
]
reply_fetch false here k l bs waits = refl

no_fetch : (t : Bool) (here k l : ℕ) (bs : ℕ → Box) → t ≡ false → waits_in (posted here (when t (Fetch k)) bs l) ≡ waits_in (bs l)
no_fetch true here k l bs e = absurd (cc)
no_fetch false here k l bs e = refl

failed_owed : (ph : Phase) (owed : Bool) → failed_phase ph owed ≡ Ready → owed ≡ true
failed_owed Heard true e = refl
failed_owed Heard false e = absurd (cc)
failed_owed Ready true e = refl
failed_owed Ready false e = absurd (cc)
failed_owed ph owed e = absurd (cc)

-- a host that is notified of a message's answer stays ready by RFNM, or because it owes an RRP
told_owed : (t : Bool) (k : ℕ) (kind : Answer) (p : Pair) → t ≡ true → (pair_moved (when t (Hear k kind)) p).phase ≡ Ready → (kind ≡ answer.Rfnm) ⊎ (p.owed ≡ true)
told_owed true k answer.Rfnm p same e = inl refl
told_owed true k answer.Dead p same e = inr (failed_owed p.phase p.owed e)
told_owed true k answer.Incomplete p same e = inr (failed_owed p.phase p.owed e)
told_owed true k answer.NotTaken p same e = inr (failed_owed p.phase p.owed e)
told_owed false k kind p same e = absurd (cc)

-- what is said or heard on this link
on_link : (t u : Bool) (text : List (List Bool)) → t ≡ true → u ≡ true → (if t && u then text else []) ≡ text
on_link t u text e f = rw (e, f) refl

off_link : (t u : Bool) (text : List (List Bool)) → u ≡ false → (if t && u then text else []) ≡ []
off_link true u text e = rw e refl
off_link false u text e = refl

not_ours : (t u : Bool) (text : List (List Bool)) → t ≡ false → (if t && u then text else []) ≡ []
not_ours t u text e = rw e refl

other_link : (l k : ℕ) → l ≢ k → (l == k) ≡ false
other_link l k away = by (l == k) refl where
  by : (b : Bool) → (l == k) ≡ b → (l == k) ≡ false
  by true e = absurd (away (eqb-true l k e))
  by false e = e

-- ---- one event more in a stay

-- what is known before an event in which `b` stays with `a`, and whether they are together after it
record Stay (hosts : Network) (events : List Event) (a b : Host) (all' : Bool) : Type 0 where
  run : IsRun hosts events
  ours : AreOurs hosts a b
  stay : stays b a events ≡ true
  before : all' ≡ true → joint a b events ≡ true

abbrev HeardNow : Host → Host → ℕ → Event → List Event → Bool → Type 0
HeardNow a b l e events all' =
    Tells all' ((heard_in_stay a b l events ++ heard_by a b l e) ++ waits_in (boxes a b (e ∷ events) l)) (said_in_stay a b l events ++ (if stays a b events then said_by a b l e else []))

abbrev HeardBefore : Host → Host → ℕ → List Event → Type 0
HeardBefore a b l events = Tells (joint a b events) (heard_in_stay a b l events ++ waits_in (boxes a b events l)) (said_in_stay a b l events)

-- where nothing is said and nothing heard
quiet : (hosts : Network) (e : Event) (events : List Event) (a b : Host) (l : ℕ) (all' : Bool) → Stay hosts events a b all' → heard_by a b l e ≡ [] → said_by a b l e ≡ []
    → (waits_in (boxes a b (e ∷ events) l) ≡ waits_in (boxes a b events l)) ⊎ ((waits_in (boxes a b (e ∷ events) l) ≡ []) × (all' ≡ true → waits_in (boxes a b events l) ≡ []))
    → HeardBefore a b l events → HeardNow a b l e events all'
quiet hosts e events a b l all' s none silent waits h =
    tells_quiet _ all' _ _ _ _ _ _ _
    none silent s.before waits h

out_step : (hosts : Network) (x y : Host) (k : ℕ) (text : List Bool) (events : List Event) (a b : Host) (l : ℕ) (all' : Bool) → Stay hosts events a b all' → IsRun hosts (Out x y k (Other text) ∷ events)
    → HeardBefore a b l events → (t : Bool) → are a b x y ≡ t → HeardNow a b l (Out x y k (Other text)) events all'
out_step hosts x y k text events a b l all' s r h false apart =
    quiet hosts (Out x y k (Other text)) events a b l all' s refl (not_ours _ (l == k) (text ∷ []) apart)
    (inl (ap (λ (t : Bool). waits_in (posted (place events) (when t (Put k (Other text))) (boxes a b events) l)) apart)) h
out_step hosts x y k text events a b l all' s r h true same =
    let put : boxes a b (Out x y k (Other text) ∷ events) l ≡ at_link (boxes a b events) k _ l =
    ap (λ (t : Bool). posted (place events) (when t (Put k (Other text))) (boxes a b events) l) same in
    let empty : boxes a b events k ≡ Empty = carry (λ v w. boxes v w events k ≡ Empty) a b x y same r.0.1 in
    let may : MaySend (pair a b events) k (Other text) = carry (λ v w. AreOurs hosts v w → MaySend (pair v w events) k (Other text)) a b x y same r.1 s.ours in
    let own : ready a b events ≡ true = phase_ready _ may.0 in
    let peer : ready b a events ≡ true = stays_ready events b a s.stay in
    let together : joint a b events ≡ true = rw (own, peer) refl in
    let grows : stays a b events ≡ true = joint_stays hosts events s.run a b s.ours together in
    elim (at (boxes a b events) k (Waiting (place events) (Other text)) l) [
      | inl u ↦
          tells_said _ all' _ _ _ _ _
          _ _ _ refl
          (on_link _ _ _ same (eq-eqb l k u.0))
          (ap (λ (j : ℕ). waits_in (boxes a b events j)) u.0 ∙ ap waits_in empty)
          (ap waits_in (put ∙ u.1)) grows together h
      | inr u ↦
          quiet hosts (Out x y k (Other text)) events a b l all' s refl (off_link (are a b x y) _ (text ∷ []) (other_link l k u.0)) (inl (ap waits_in (put ∙ u.1))) h
    ]

in_step : (hosts : Network) (x y : Host) (k : ℕ) (text : List Bool) (events : List Event) (a b : Host) (l : ℕ) (all' : Bool) → Stay hosts events a b all' → IsRun hosts (In x y k (Other text) ∷ events)
    → HeardBefore a b l events → (t : Bool) → are a b x y ≡ t → HeardNow a b l (In x y k (Other text)) events all'
in_step hosts x y k text events a b l all' s r h false apart =
    quiet hosts (In x y k (Other text)) events a b l all' s (not_ours _ (l == k) (text ∷ []) apart) refl
    (inl (no_fetch _ (place events) k l (boxes a b events) apart)) h
in_step hosts x y k text events a b l all' s r h true same =
    let fetch : boxes a b (In x y k (Other text) ∷ events) l ≡ at_link (boxes a b events) k _ l =
    ap (λ (t : Bool). posted (place events) (when t (Fetch k)) (boxes a b events) l) same in
    let waits : WaitsWith (boxes a b events k) (Other text) = carry (λ v w. WaitsWith (boxes v w events k) (Other text)) a b x y same r.0.1 in
    elim (at (boxes a b events) k (fetched (boxes a b events k)) l) [
      | inl u ↦
          tells_heard (joint a b events) all' (stays a b events) (heard_in_stay a b l events) (waits_in (boxes a b events l)) (waits_in (boxes a b (In x y k (Other text) ∷ events) l)) (said_in_stay a b l events)
          (heard_by a b l (In x y k (Other text))) (said_by a b l (In x y k (Other text))) (text ∷ [])
          (on_link (are a b x y) (l == k) (text ∷ []) same (eq-eqb l k u.0))
          (ap (λ (j : ℕ). waits_in (boxes a b events j)) u.0 ∙ other_waits _ text waits)
          (ap waits_in (fetch ∙ u.1) ∙ fetched_waits _) refl s.before h
      | inr u ↦
          quiet hosts (In x y k (Other text)) events a b l all' s (off_link (are a b x y) _ (text ∷ []) (other_link l k u.0)) refl (inl (ap waits_in (fetch ∙ u.1))) h
    ]

-- a message that is answered waits no more; while both stay together it didn't
told_step : (hosts : Network) (x y : Host) (k : ℕ) (kind : Answer) (events : List Event) (a b : Host) (l : ℕ) → Stay hosts events a b (joint a b (Told x y k kind ∷ events)) → IsRun hosts (Told x y k kind ∷ events)
    → (t : Bool) → are a b x y ≡ t
    → (waits_in (boxes a b (Told x y k kind ∷ events) l) ≡ waits_in (boxes a b events l))
    ⊎ ((waits_in (boxes a b (Told x y k kind ∷ events) l) ≡ []) × (joint a b (Told x y k kind ∷ events) ≡ true → waits_in (boxes a b events l) ≡ []))
told_step hosts x y k kind events a b l s r false apart = inl (ap (λ (t : Bool). waits_in (posted (place events) (when t (Clear k)) (boxes a b events) l)) apart)
told_step hosts x y k kind events a b l s r true same =
    let clear : boxes a b (Told x y k kind ∷ events) l ≡ at_link (boxes a b events) k Empty l = ap (λ (t : Bool). posted (place events) (when t (Clear k)) (boxes a b events) l) same in
    let fits : Fits kind (boxes a b events k) = carry (λ v w. Fits kind (boxes v w events k)) a b x y same r.0.1 in
    elim (at (boxes a b events) k Empty l) [
      | inl u ↦
          inr (
            ap waits_in (clear ∙ u.1),
            λ together.
                (let own : ready a b (Told x y k kind ∷ events) ≡ true = (and_true (ready a b (Told x y k kind ∷ events)) (ready b a (Told x y k kind ∷ events)) together).0 in
                let phase : (pair a b (Told x y k kind ∷ events)).phase ≡ Ready = ready_phase _ own in
                let peer : (pair b a events).phase ≡ Ready = ready_phase _ (stays_ready events b a s.stay) in
                elim (told_owed _ k kind _ same phase) [
                  | inl rfnm ↦ (ap (λ (j : ℕ). waits_in (boxes a b events j)) u.0 ∙ rfnm_waits _ (subst (λ (z : Answer). Fits z (boxes a b events k)) rfnm fits))
                  | inr owed ↦ nothing_waits _ (owes_run hosts events s.run a b s.ours owed peer l)
                ]),
          )
      | inr u ↦ inl (ap waits_in (clear ∙ u.1))
    ]

up_step : (t : Bool) (here l : ℕ) (p : Pair) (bs : ℕ → Box) → (waits_in (posted here (when t ClearAll) bs l) ≡ waits_in (bs l)) ⊎ ((waits_in (posted here (when t ClearAll) bs l) ≡ []) × ((pair_moved (when t Begin) p).phase ≢ Ready))
up_step true here l p bs = inr (refl, λ e. absurd (cc))
up_step false here l p bs = inl refl

stay_step : (hosts : Network) (e : Event) (events : List Event) (a b : Host) (l : ℕ) → Stay hosts events a b (joint a b (e ∷ events)) → IsRun hosts (e ∷ events) → takes_reset b a e ≡ false
    → HeardBefore a b l events → HeardNow a b l e events (joint a b (e ∷ events))
stay_step hosts (Contact x y) events a b l s r kept h = quiet hosts (Contact x y) events a b l _ s refl refl (inl refl) h
stay_step hosts (Out x y k (Other text)) events a b l s r kept h = out_step hosts x y k text events a b l _ s r h _ refl
stay_step hosts (Out x y k c) events a b l s r kept h =
    quiet hosts (Out x y k c) events a b l _ s refl refl
    (inl (signal_put _ (place events) k l c (boxes a b events) refl (λ same. carry (λ v w. boxes v w events k ≡ Empty) a b x y same r.0.1))) h
stay_step hosts (In x y k Reset) events a b l s r kept h =
    quiet hosts (In x y k Reset) events a b l _ s refl refl
    (inl (no_fetch _ (place events) k l (boxes a b events) (false_from_ne_true (are a b x y) (λ same. contradicts (are b a y x) (turned_about b a y x same) kept)))) h
stay_step hosts (In x y k Reply) events a b l s r kept h =
    quiet hosts (In x y k Reply) events a b l _ s refl refl
    (inl (reply_fetch (are a b x y) (place events) k l (boxes a b events) (λ same. carry (λ v w. WaitsWith (boxes v w events k) Reply) a b x y same r.0.1))) h
stay_step hosts (In x y k (Other text)) events a b l s r kept h = in_step hosts x y k text events a b l (joint a b (In x y k (Other text) ∷ events)) s r h (are a b x y) refl
stay_step hosts (Told x y k kind) events a b l s r kept h =
    quiet hosts (Told x y k kind) events a b l (joint a b (Told x y k kind ∷ events)) s refl refl (told_step hosts x y k kind events a b l s r (are a b x y) refl) h
stay_step hosts (Down x) events a b l s r kept h = quiet hosts (Down x) events a b l (joint a b (Down x ∷ events)) s refl refl (inl refl) h
stay_step hosts (Up x) events a b l s r kept h =
    quiet hosts (Up x) events a b l (joint a b (Up x ∷ events)) s refl refl
    (elim (up_step (same_host a x) (place events) l (pair a b events) (boxes a b events)) [
      | inl same ↦ inl same
      | inr lost ↦
          inr (
            lost.0,
            λ together. absurd (lost.1 (ready_phase (pair a b (Up x ∷ events)).phase (and_true (ready a b (Up x ∷ events)) (ready b a (Up x ∷ events)) together).0)),
          )
    ]) h
stay_step hosts Idle events a b l s r kept h = quiet hosts Idle events a b l (joint a b (Idle ∷ events)) s refl refl (inl refl) h

-- ---- over whole lists of events

-- words begin anew where a stay begins
anew : (b : Bool) (xs : List (List Bool)) → b ≡ true → (if b then [] else xs) ≡ []
anew b xs e = rw e refl

-- and continue where it doesn't
goes_on : (b : Bool) (xs : List (List Bool)) → b ≡ false → (if b then [] else xs) ≡ xs
goes_on b xs e = rw e refl

pub stay_run : (hosts : Network) (events : List Event) → IsRun hosts events → (a b : Host) → AreOurs hosts a b → (l : ℕ) → stays b a events ≡ true → HeardBefore a b l events
stay_run hosts [] r a b ours l s = absurd (cc)
stay_run hosts (e ∷ events) r a b ours l s = by (begins a b e events) refl (λ before. stay_run hosts events r.2 a b ours l before) where
  by : (t : Bool) → begins a b e events ≡ t → (stays b a events ≡ true → HeardBefore a b l events) → HeardBefore a b l (e ∷ events)
  by true begun rest =
      let none : waits_in (boxes a b (e ∷ events) l) ≡ [] = nothing_waits _ ((begin_quiet hosts e events r a b ours begun).0 l) in
      let old : List (List Bool) = heard_in_stay a b l events ++ (if stays b a events then heard_by a b l e else []) in
      let spoken : List (List Bool) = said_in_stay a b l events ++ (if stays a b events then said_by a b l e else []) in
      tells_all (joint a b (e ∷ events)) (heard_in_stay a b l (e ∷ events) ++ waits_in (boxes a b (e ∷ events) l)) (said_in_stay a b l (e ∷ events))
      (ap (λ (v : List (List Bool)). v ++ waits_in (boxes a b (e ∷ events) l)) (anew _ old begun) ∙ none ∙ sym (anew _ spoken begun))
  by false same rest =
      let parts : (ready b a (e ∷ events) ≡ true) × (takes_reset b a e ≡ false) × (stays b a events ≡ true) =
      stays_parts _ _ _ _ s (sym (begins_either a b e events) ∙ same) in
      let old : List (List Bool) = heard_in_stay a b l events ++ (if stays b a events then heard_by a b l e else []) in
      let spoken : List (List Bool) = said_in_stay a b l events ++ (if stays a b events then said_by a b l e else []) in
      let more : heard_in_stay a b l (e ∷ events) ≡ heard_in_stay a b l events ++ heard_by a b l e =
      goes_on _ old same ∙ ap (λ (t : Bool). heard_in_stay a b l events ++ (if t then heard_by a b l e else [])) parts.2 in
      tells_as _ _ _
      spoken _ (ap (λ (v : List (List Bool)). v ++ waits_in (boxes a b (e ∷ events) l)) more) (goes_on _ spoken same)
      (stay_step hosts e events a b l (record { run = r.2; ours = ours; stay = parts.2; before = were_joint _ _ same }) r parts.1 (rest parts.2))

-- what is heard was waiting
heard_waiting : (hosts : Network) (e : Event) (events : List Event) → IsRun hosts (e ∷ events) → (a b : Host) (l : ℕ) → (heard_by a b l e ≡ []) ⊎ (heard_by a b l e ≡ waits_in (boxes a b events l))
heard_waiting hosts (In x y k (Other text)) events r a b l = by (are a b x y) (l == k) refl refl where
  by : (t u : Bool) → are a b x y ≡ t → (l == k) ≡ u → (heard_by a b l (In x y k (Other text)) ≡ []) ⊎ (heard_by a b l (In x y k (Other text)) ≡ waits_in (boxes a b events l))
  by false u apart other = inl (not_ours _ _ _ apart)
  by true false same other = inl (off_link _ _ _ other)
  by true true same ours =
      let link : l ≡ k = eqb-true l k ours in
      let waits : WaitsWith (boxes a b events k) (Other text) = carry (λ v w. WaitsWith (boxes v w events k) (Other text)) a b x y same r.0.1 in
      inr (on_link (are a b x y) (l == k) (text ∷ []) same ours ∙ sym (ap (λ (j : ℕ). waits_in (boxes a b events j)) link ∙ other_waits (boxes a b events k) text waits))
heard_waiting hosts (In x y k Reset) events r a b l = inl refl
heard_waiting hosts (In x y k Reply) events r a b l = inl refl
heard_waiting hosts (Contact x y) events r a b l = inl refl
heard_waiting hosts e events r a b l = inl refl

-- whoever has left meanwhile
pub heard_front : (hosts : Network) (events : List Event) → IsRun hosts events → (a b : Host) → AreOurs hosts a b → (l : ℕ) → IsPrefix (heard_in_stay a b l events) (said_in_stay a b l events)
heard_front hosts [] r a b ours l = ([], refl)
heard_front hosts (e ∷ events) r a b ours l = by (begins a b e events) refl (heard_front hosts events r.2 a b ours l) where
  new : List (List Bool)
  new = if stays b a events then heard_by a b l e else []

  spoken : List (List Bool)
  spoken = if stays a b events then said_by a b l e else []

  more : (t : Bool) → stays b a events ≡ t → IsPrefix (heard_in_stay a b l events) (said_in_stay a b l events) → IsPrefix (heard_in_stay a b l events ++ (if t then heard_by a b l e else [])) (said_in_stay a b l events)
  more false left h = subst (λ (v : List (List Bool)). IsPrefix v (said_in_stay a b l events)) (sym (append-nil (heard_in_stay a b l events))) h
  more true stay h = elim (heard_waiting hosts e events r a b l) [
    | inl none ↦ subst (λ (v : List (List Bool)). IsPrefix v (said_in_stay a b l events)) (sym (ap (λ (v : List (List Bool)). heard_in_stay a b l events ++ v) none ∙ append-nil (heard_in_stay a b l events))) h
    | inr waits ↦ subst (λ (v : List (List Bool)). IsPrefix v (said_in_stay a b l events)) (sym (ap (λ (v : List (List Bool)). heard_in_stay a b l events ++ v) waits)) (stay_run hosts events r.2 a b ours l stay).front
  ]

  by : (t : Bool) → begins a b e events ≡ t → IsPrefix (heard_in_stay a b l events) (said_in_stay a b l events) → IsPrefix (heard_in_stay a b l (e ∷ events)) (said_in_stay a b l (e ∷ events))
  by true begun h = subst (λ (v : List (List Bool)). IsPrefix v (said_in_stay a b l (e ∷ events))) (sym (anew _ _ begun)) (said_in_stay a b l (e ∷ events), refl)
  by false same h =
      let front : IsPrefix (heard_in_stay a b l events ++ new) (said_in_stay a b l events ++ spoken) = front_longer _ _ spoken (more _ refl h) in
      subst (λ (v : List (List Bool)). IsPrefix v (said_in_stay a b l (e ∷ events))) (sym (goes_on _ _ same))
      (subst (λ (v : List (List Bool)). IsPrefix (heard_in_stay a b l events ++ new) v) (sym (goes_on _ _ same)) front)
