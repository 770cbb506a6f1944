-- The lives of a host that stays: those since it dropped its ends last are those since both met.
use Rattle.world_keeps_streams.proofs.Common.{Host, both, Fresh, begins_fresh, pair, Moment, event_in, events_of, keeps, Network, AreOurs}
use Rattle.std.proofs.Common.{◌≡◌, inl, inr, ℕ, zero, suc, ◌≤◌, ◌&&◌, ◌||◌, not, Bool, if◌then◌else◌, List, [], ◌∷◌, ◌++◌, length, map, drop, refl, ap, sym, subst, ◌∙◌, arith, true, false}
use Rattle.reset_law.specs.Events.{Contact, Event, In, Other, Reply, Reset}
use Rattle.reset_law.proofs.lemmas.{begins_either, contradicts, ready_phase, reset_unready}
use Rattle.reset_law.specs.Runs.{IsRun}
use Rattle.reset_law.specs.Stays as stay
use Rattle.promise.specs.declared.life.Life.{Life}
use Rattle.world_keeps_streams.proofs.Carried.Calls as carried
use Rattle.world_keeps_streams.proofs.Books.Goes.{since_bound, since_on}
use Rattle.world_keeps_streams.proofs.Lives.Lists.{IsOf, drop_grown, grown, of_drop, of_either, of_left, of_map, of_mapped, of_right}
use Rattle.world_keeps_streams.proofs.Requests.Sides.{Lawful, coupled_in, lives_in, below}
use Rattle.world_keeps_streams.proofs.Carried.Owned.{since_within}
use Rattle.world_keeps_streams.proofs.Books.Whole.{present_in, since}
use Rattle.world_keeps_streams.proofs.Stays.Resets.{goes_on}

-- ---- where both meet, each keeps its ends

-- who takes an RST has a peer that waits for the RRP
reset_alone : (hosts : Network) (e : Event) (events : List Event) → IsRun hosts (e ∷ events) → (a b : Host)
    → AreOurs hosts a b → stay.takes_reset a b e ≡ true → stay.ready b a (e ∷ events) ≡ true → ⊥
reset_alone hosts (Contact x y) events r a b ours takes ready = absurd (cc)
reset_alone hosts (In x y l Reset) events r a b ours takes ready = reset_unready hosts events x y l r a b ours takes (ready_phase _ ready)
reset_alone hosts (In x y l Reply) events r a b ours takes ready = absurd (cc)
reset_alone hosts (In x y l (Other text)) events r a b ours takes ready = absurd (cc)
reset_alone hosts e events r a b ours takes ready = absurd (cc)

begins_keeps : (hosts : Network) (e : Event) (events : List Event) → IsRun hosts (e ∷ events) → (a b : Host)
    → AreOurs hosts a b → stay.begins a b e events ≡ true → keeps a b e events ≡ true
begins_keeps hosts e events r a b ours begun = by (stay.takes_reset a b e) refl where
  now : (stay.ready a b (e ∷ events) ≡ true) × (stay.ready b a (e ∷ events) ≡ true)
  now = both (stay.ready a b (e ∷ events)) (stay.ready b a (e ∷ events)) (both (stay.joint a b (e ∷ events)) (not (stay.joint a b events)) begun).0

  by : (t : Bool) → stay.takes_reset a b e ≡ t → keeps a b e events ≡ true
  by true takes = absurd (reset_alone hosts e events r a b ours takes now.1)
  by false takes = let here : stay.ready a b (e ∷ events) ≡ true = now.0 in rw (here, takes) refl

-- so a host that stays dropped its ends no later than both met
pub dropped_first : (hosts : Network) (a b : Host) → AreOurs hosts a b → (ms : List Moment) → Lawful hosts ms
    → stay.stays a b (events_of ms) ≡ true → carried.since a b ms ≤ since a b ms
dropped_first hosts a b ours [] l stays = absurd (cc)
dropped_first hosts a b ours (y ∷ ms) l stays =
    by (stay.begins a b (event_in y) (events_of ms)) (keeps a b (event_in y) (events_of ms)) (stay.stays a b (events_of ms)) (begins_keeps hosts (event_in y) (events_of ms) (coupled_in hosts (y ∷ ms) l).run a b ours) stays (since_within a b ms)
    (dropped_first hosts a b ours ms (below hosts y ms l)) where
      by : (t k s : Bool) → (t ≡ true → k ≡ true) → (t || (k && s)) ≡ true → carried.since a b ms ≤ length (lives_in ms) → (s ≡ true → carried.since a b ms ≤ since a b ms)
          → (if k then carried.since a b ms else length (lives_in (y ∷ ms))) ≤ (if t then length (lives_in ms) else since a b ms)
      by true true s m e bound old = bound
      by true false s m e bound old = absurd (let no : false ≡ true = m refl in cc)
      by false true true s e bound old = old refl
      by false true false s e bound old = absurd (cc)
      by false false s m e bound old = absurd (cc)

-- both met at one moment
pub since_either : (a b : Host) (ms : List Moment) → since b a ms ≡ since a b ms
since_either a b [] = refl
since_either a b (y ∷ ms) =
    ap (λ (v : Bool). if v then length (lives_in ms) else since b a ms) (begins_either b a (event_in y) (events_of ms)) ∙ ap (λ (n : ℕ). if stay.begins a b (event_in y) (events_of ms) then length (lives_in ms) else n) (since_either a b ms)

-- ---- what is in a list after a place

pub drop_more : (m n : ℕ) (x : Life) (xs : List Life) → m ≤ n → IsOf x (drop n xs) → IsOf x (drop m xs)
drop_more zero n x xs less i = of_drop n x xs i
drop_more (suc m) zero x xs less i = absurd (omega (arith, less))
drop_more (suc m) (suc n) x [] less i = i
drop_more (suc m) (suc n) x (y ∷ ys) less i = drop_more m n x ys (omega (arith, less)) i

drop_none : (x : Life) (xs : List Life) → IsOf x (drop (length xs) xs) → ⊥
drop_none x [] i = i
drop_none x (y ∷ ys) i = drop_none x ys i

-- ---- lives begin in a stay

abbrev pub NoneBegin : Network → Host → Host → Type 0
NoneBegin hosts h p = (y : Moment) (ms : List Moment) → Lawful hosts (y ∷ ms) → stay.stays h p (events_of (y ∷ ms)) ≡ false → (x : Life) → IsOf x (grown y ms).more → x.host ≡ h → x.peer ≡ p → ⊥

module _ (hosts : Network) (h p : Host) (ours : AreOurs hosts h p) (none : NoneBegin hosts h p) where
  -- a life since its host dropped its ends is there since both met, and the host stays
  pub recent_present : (ms : List Moment) → Lawful hosts ms → (x : Life) → IsOf x (drop (carried.since h p ms) (lives_in ms)) → x.host ≡ h → x.peer ≡ p → (stay.stays h p (events_of ms) ≡ true) × IsOf x (present_in h p ms)
  recent_present [] l x i f g = absurd (of_drop 0 x [] i)
  recent_present (y ∷ ms) l x i f g = by (recent_present ms (below hosts y ms l)) (keeps h p (event_in y) (events_of ms)) refl i where
    parts : (n : ℕ) → n ≤ length (lives_in ms) → drop n (lives_in (y ∷ ms)) ≡ map (grown y ms).change (drop n (lives_in ms)) ++ (grown y ms).more
    parts n less = ap (drop n) (grown y ms).is ∙ drop_grown (grown y ms).change n (lives_in ms) (grown y ms).more less

    -- one that was there
    older : keeps h p (event_in y) (events_of ms) ≡ true → (v : Life) → x ≡ (grown y ms).change v → (stay.stays h p (events_of ms) ≡ true) × IsOf v (present_in h p ms) → (stay.stays h p (events_of (y ∷ ms)) ≡ true) × IsOf x (present_in h p (y ∷ ms))
    older kept v is old = (goes_on h p (event_in y) (events_of ms) kept old.0, at (stay.begins h p (event_in y) (events_of ms)) refl) where
      moved : IsOf x (drop (since h p ms) (lives_in (y ∷ ms)))
      moved =
          subst (λ (ys : List Life). IsOf x ys) (sym (parts (since h p ms) (since_bound h p ms)))
          (of_left x (map (grown y ms).change (drop (since h p ms) (lives_in ms))) (grown y ms).more
          (subst (λ (z : Life). IsOf z (map (grown y ms).change (drop (since h p ms) (lives_in ms)))) (sym is) (of_map (grown y ms).change v (drop (since h p ms) (lives_in ms)) old.1)))

      at : (t : Bool) → stay.begins h p (event_in y) (events_of ms) ≡ t → IsOf x (present_in h p (y ∷ ms))
      at true new = let fresh : Fresh h p (event_in y) (events_of ms) = begins_fresh hosts (event_in y) (events_of ms) (coupled_in hosts (y ∷ ms) l).run h p ours new in absurd (contradicts (stay.stays h p (events_of ms)) old.0 fresh.left)
      at false still = subst (λ (n : ℕ). IsOf x (drop n (lives_in (y ∷ ms)))) (sym (since_on h p y ms still)) moved

    -- a new one
    newer : IsOf x (grown y ms).more → (s : Bool) → stay.stays h p (events_of (y ∷ ms)) ≡ s → (stay.stays h p (events_of (y ∷ ms)) ≡ true) × IsOf x (present_in h p (y ∷ ms))
    newer j false e = absurd (none y ms l e x j f g)
    newer j true e = (e, behind (stay.begins h p (event_in y) (events_of ms)) (since_bound h p ms)) where
      there : (n : ℕ) → n ≤ length (lives_in ms) → IsOf x (drop n (lives_in (y ∷ ms)))
      there n less = subst (λ (ys : List Life). IsOf x ys) (sym (parts n less)) (of_right x (map (grown y ms).change (drop n (lives_in ms))) (grown y ms).more j)

      behind : (t : Bool) → since h p ms ≤ length (lives_in ms) → IsOf x (drop (if t then length (lives_in ms) else since h p ms) (lives_in (y ∷ ms)))
      behind true bound = there (length (lives_in ms)) (omega arith)
      behind false bound = there (since h p ms) bound

    by : ((v : Life) → IsOf v (drop (carried.since h p ms) (lives_in ms)) → v.host ≡ h → v.peer ≡ p → (stay.stays h p (events_of ms) ≡ true) × IsOf v (present_in h p ms))
        → (k : Bool) → keeps h p (event_in y) (events_of ms) ≡ k → IsOf x (drop (if k then carried.since h p ms else length (lives_in (y ∷ ms))) (lives_in (y ∷ ms)))
        → (stay.stays h p (events_of (y ∷ ms)) ≡ true) × IsOf x (present_in h p (y ∷ ms))
    by old false e j = absurd (drop_none x (lives_in (y ∷ ms)) j)
    by old true e j =
        elim (of_either x (map (grown y ms).change (drop (carried.since h p ms) (lives_in ms))) (grown y ms).more (subst (λ (ys : List Life). IsOf x ys) (parts (carried.since h p ms) (since_within h p ms)) j)) [
          | inl here ↦
              (let m : (v : Life) × IsOf v (drop (carried.since h p ms) (lives_in ms)) × (x ≡ (grown y ms).change v) = of_mapped (grown y ms).change x (drop (carried.since h p ms) (lives_in ms)) here in
              older e m.0 m.2 (old m.0 m.1 (sym ((grown y ms).names m.0).host ∙ ap (λ (v : Life). v.host) (sym m.2) ∙ f) (sym ((grown y ms).names m.0).peer ∙ ap (λ (v : Life). v.peer) (sym m.2) ∙ g)))
          | inr new ↦ newer new (stay.stays h p (events_of (y ∷ ms))) refl
        ]
