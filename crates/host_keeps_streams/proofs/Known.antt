-- What a link's law knows of all sending ends.
use Rattle.host_keeps_streams.proofs.Common.{◌≡◌, ℕ, Bool, false, ◌&&◌, ◌==◌, List, [], ◌∷◌, ◌++◌, filter, find, Option, Some, None, refl, ap, sym, subst, ◌∙◌, inl, inr, ne_eqb, or_parts, Sender, at, changed_first, has_cls, is_receiving, Entry, all_sent, MayAllSend, NoneOpen, AreSender, HasSender, named, numbers, is_among, AreApart, IsKnown, AreKnown}
use Rattle.std.proofs.Common.{true}
use Rattle.stream_law.specs.Senders as senders
use Rattle.host_pairs.proofs.lemmas.ParcelLemmas as parcels
use Rattle.host_keeps_streams.proofs.Lists.{unlike}
use Rattle.host_keeps_streams.proofs.Names.{found_among}

-- what is known of all connections but one stays
abbrev pub Elsewhere : ℕ → Sender → Sender → Type 0
Elsewhere c s t = (k : ℕ) → (k == c) ≡ false → (t.size k ≡ s.size k) × (t.closed k ≡ s.closed k)

-- what a law's sender has to do, and what it has afterwards
pub record Sent (name : ℕ → ℕ → ℕ) (link : ℕ) (moves : List senders.Move) (es : List Entry) (s : Sender) : Type 0 where
  pub may : MayAllSend moves s
  pub has : HasSender name link es (all_sent moves s)
  pub known : AreKnown name es (all_sent moves s)

-- a change that is no matter of requests and CLS
pub record IsApart (change : Entry → Entry) : Type 0 where
  pub own : (x : Entry) → (change x).own ≡ x.own
  pub foreign : (x : Entry) → (change x).foreign ≡ x.foreign

module _ (name : ℕ → ℕ → ℕ) where
  pub known_other : (c : ℕ) (es : List Entry) (s t : Sender) → is_among c (numbers name es) ≡ false → Elsewhere c s t → AreKnown name es s → AreKnown name es t
  known_other c [] s t n e k = tt
  known_other c (y ∷ ys) s t n e k =
      let p : ((named name y == c) ≡ false) × (is_among c (numbers name ys) ≡ false) = or_parts (named name y == c) (is_among c (numbers name ys)) n in
      (λ i. (record { size = (e (named name y) p.0).0 ∙ (k.0 i).size; closed = (e (named name y) p.0).1 ∙ (k.0 i).closed }), known_other c ys s t p.1 e k.1)

  -- what is found is known
  found_step : (test : Entry → Bool) (e y : Entry) (ys : List Entry) (s : Sender) → is_receiving e ≡ false → (find test ys ≡ Some e → IsKnown (named name e) e s) → (is_receiving y ≡ false → IsKnown (named name y) y s) → (b : Bool) → test y ≡ b
      → find test (y ∷ ys) ≡ Some e → IsKnown (named name e) e s
  found_step test e y ys s i rest k true t f =
      let r : Some y ≡ Some e = rw t at f in
      let same : y ≡ e = parcels.some_is y e r in
      subst (λ (x : Entry). IsKnown (named name x) x s) same (k (ap is_receiving same ∙ i))
  found_step test e y ys s i rest k false t f = rest (rw t at f)

  pub known_found : (test : Entry → Bool) (e : Entry) (es : List Entry) (s : Sender) → is_receiving e ≡ false → AreKnown name es s → find test es ≡ Some e → IsKnown (named name e) e s
  known_found test e [] s i k f = absurd (cc)
  known_found test e (y ∷ ys) s i k f = found_step test e y ys s i (known_found test e ys s i k.1) k.0 (test y) refl f

  -- the end that is found is changed, and so is what is known of it
  changed_step : (test : Entry → Bool) (change : Entry → Entry) (e y : Entry) (ys : List Entry) (s t : Sender) → Elsewhere (named name e) s t → IsApart change → (is_receiving e ≡ false → IsKnown (named name e) (change e) t)
      → is_among (named name y) (numbers name ys) ≡ false → (find test ys ≡ Some e → AreKnown name (changed_first test change ys) t) → AreKnown name (y ∷ ys) s → (b : Bool) → test y ≡ b → find test (y ∷ ys) ≡ Some e
      → AreKnown name (changed_first test change (y ∷ ys)) t
  changed_step test change e y ys s t away a new n rest k true h f =
      let r : Some y ≡ Some e = rw h at f in
      let same : y ≡ e = parcels.some_is y e r in
      let none : is_among (named name e) (numbers name ys) ≡ false = subst (λ (x : Entry). is_among (named name x) (numbers name ys) ≡ false) same n in
      let first : is_receiving (change e) ≡ false → IsKnown (named name (change e)) (change e) t
      = λ i. subst (λ (c : ℕ). IsKnown c (change e) t) (sym (ap (λ (o : ℕ). name o (change e).foreign) (a.own e) ∙ ap (λ (o : ℕ). name e.own o) (a.foreign e))) (new (ap (λ (o : ℕ). receives o) (sym (a.own e)) ∙ i)) in
      rw h (subst (λ (x : Entry). is_receiving (change x) ≡ false → IsKnown (named name (change x)) (change x) t) (sym same) first, known_other _ ys s t none away k.1) where
        receives : ℕ → Bool
        receives o = is_receiving (record e { own = o })
  changed_step test change e y ys s t away a new n rest k false h f =
      let r : find test ys ≡ Some e = rw h at f in
      let other : (named name y == named name e) ≡ false
      = ne_eqb (named name y) (named name e) (λ same. unlike (is_among (named name e) (numbers name ys)) (found_among name test e ys r) (ap (λ (c : ℕ). is_among c (numbers name ys)) (sym same) ∙ n)) in
      rw h ((λ i. (record { size = (away _ other).0 ∙ (k.0 i).size; closed = (away _ other).1 ∙ (k.0 i).closed })), rest r)

  pub known_changed : (test : Entry → Bool) (change : Entry → Entry) (e : Entry) (es : List Entry) (s t : Sender) → Elsewhere (named name e) s t → IsApart change → (is_receiving e ≡ false → IsKnown (named name e) (change e) t)
      → AreApart (numbers name es) → AreKnown name es s → find test es ≡ Some e → AreKnown name (changed_first test change es) t
  known_changed test change e [] s t away a new p k f = absurd (cc)
  known_changed test change e (y ∷ ys) s t away a new p k f = changed_step test change e y ys s t away a new p.0 (known_changed test change e ys s t away a new p.1 k.1) k (test y) refl f

  -- some of them, and one more
  filter_step : (keep : Entry → Bool) (y : Entry) (ys : List Entry) (s : Sender) → AreKnown name (filter keep ys) s → (is_receiving y ≡ false → IsKnown (named name y) y s) → (b : Bool) → keep y ≡ b → AreKnown name (filter keep (y ∷ ys)) s
  filter_step keep y ys s rest k true t = rw t (k, rest)
  filter_step keep y ys s rest k false t = rw t rest

  pub known_filter : (keep : Entry → Bool) (es : List Entry) (s : Sender) → AreKnown name es s → AreKnown name (filter keep es) s
  known_filter keep [] s k = tt
  known_filter keep (y ∷ ys) s k = filter_step keep y ys s (known_filter keep ys s k.1) k.0 (keep y) refl

  pub known_append : (es : List Entry) (e : Entry) (s : Sender) → AreKnown name es s → (is_receiving e ≡ false → IsKnown (named name e) e s) → AreKnown name (es ++ e ∷ []) s
  known_append [] e s k one = (one, tt)
  known_append (y ∷ ys) e s k one = (k.0, known_append ys e s k.1 one)

-- ---- what is said of a connection that isn't on the link is no matter of its end

pub goes_some : (c : ℕ) (v : Bool) (o : Option ℕ) (k : ℕ) → senders.goes c v o ≡ Some k → o ≡ Some k
goes_some c v None k e = absurd (cc)
goes_some c v (Some own) k e = by (own == c && v) refl where
  by : (b : Bool) → (own == c && v) ≡ b → Some own ≡ Some k
  by true t = let r : None ≡ Some k = rw t at e in absurd (cc)
  by false t = rw t at e

none_closed : (c : ℕ) (s : Sender) → NoneOpen s → NoneOpen (senders.moved (senders.Close c) s)
none_closed c s none k f o = elim (at c true s.closed k) [
  | inl t ↦ t.1
  | inr t ↦ t.1 ∙ none k (goes_some c s.shut s.end k f) o
]

goes_away : (c own : ℕ) (v : Bool) → (own == c) ≡ false → senders.goes c v (Some own) ≡ Some own
goes_away c own v e = rw e refl

pub close_apart : (name : ℕ → ℕ → ℕ) (c : ℕ) (xs : List Entry) (s : Sender) → is_among c (numbers name xs) ≡ false → AreSender name xs s → AreSender name xs (senders.moved (senders.Close c) s)
close_apart name c [] s n h = none_closed c s h
close_apart name c (x ∷ []) s n (inl i) =
    let other : (named name x == c) ≡ false = (or_parts (named name x == c) false n).0 in
    inl (record {
      end = ap (λ (o : Option ℕ). senders.goes c s.shut o) i.end ∙ goes_away c _ s.shut other;
      opened = i.opened;
      shut = i.shut;
      closed = (rw other i.closed);
      size = i.size;
      allocation = i.allocation;
      live = i.live;
    })
close_apart name c (x ∷ []) s n (inr l) = inr (record { closed = l.closed; shut = l.shut; live = l.live; none = none_closed c s l.none })
close_apart name c (x ∷ y ∷ ys) s n h = h

pub closed_elsewhere : (c : ℕ) (s : Sender) → Elsewhere c s (senders.moved (senders.Close c) s)
closed_elsewhere c s k e = (refl, rw e refl)

-- ---- what is no matter of requests and CLS

-- a change of an end that leaves what is said of it
pub record IsIdle (change : Entry → Entry) : Type 0 where
  pub own : (x : Entry) → (change x).own ≡ x.own
  pub foreign : (x : Entry) → (change x).foreign ≡ x.foreign
  pub size : (x : Entry) → (change x).size ≡ x.size
  pub closing : (x : Entry) → (change x).closing ≡ x.closing

pub known_same : (name : ℕ → ℕ → ℕ) (es : List Entry) (s t : Sender) → t.size ≡ s.size → t.closed ≡ s.closed → AreKnown name es s → AreKnown name es t
known_same name [] s t z c k = tt
known_same name (y ∷ ys) s t z c k =
    (λ i. (record { size = ap (λ (f : ℕ → Option ℕ). f (named name y)) z ∙ (k.0 i).size; closed = ap (λ (f : ℕ → Bool). f (named name y)) c ∙ (k.0 i).closed }), known_same name ys s t z c k.1)

idle_one : (name : ℕ → ℕ → ℕ) (change : Entry → Entry) (s : Sender) (y : Entry) → IsIdle change → (is_receiving y ≡ false → IsKnown (named name y) y s) → is_receiving (change y) ≡ false → IsKnown (named name (change y)) (change y) s
idle_one name change s y idle k i =
    let same : named name (change y) ≡ named name y = ap (λ (o : ℕ). name o (change y).foreign) (idle.own y) ∙ ap (λ (o : ℕ). name y.own o) (idle.foreign y) in
    let known : IsKnown (named name y) y s = k (ap (λ (o : ℕ). is_receiving (record y { own = o })) (sym (idle.own y)) ∙ i) in
    record {
      size = ap s.size same ∙ known.size ∙ sym (idle.size y);
      closed = ap s.closed same ∙ known.closed ∙ sym (ap has_cls (idle.closing y));
    }

idle_step : (name : ℕ → ℕ → ℕ) (test : Entry → Bool) (change : Entry → Entry) (s : Sender) (y : Entry) (ys : List Entry) → IsIdle change → AreKnown name (changed_first test change ys) s → AreKnown name (y ∷ ys) s → (b : Bool) → test y ≡ b
    → AreKnown name (changed_first test change (y ∷ ys)) s
idle_step name test change s y ys idle rest k true t = rw t (idle_one name change s y idle k.0, k.1)
idle_step name test change s y ys idle rest k false t = rw t (k.0, rest)

pub known_idle : (name : ℕ → ℕ → ℕ) (test : Entry → Bool) (change : Entry → Entry) (s : Sender) (es : List Entry) → IsIdle change → AreKnown name es s → AreKnown name (changed_first test change es) s
known_idle name test change s [] idle k = tt
known_idle name test change s (y ∷ ys) idle k = idle_step name test change s y ys idle (known_idle name test change s ys idle k.1) k (test y) refl

-- ---- moves, one list after another

pub then_sent : (name : ℕ → ℕ → ℕ) (link : ℕ) (xs ys : List senders.Move) (es : List Entry) (s : Sender) → MayAllSend xs s → Sent name link ys es (all_sent xs s) → Sent name link (xs ++ ys) es s
then_sent name link [] ys es s m r = r
then_sent name link (x ∷ xs) ys es s m r =
    let rest : Sent name link (xs ++ ys) es (senders.moved x s) = then_sent name link xs ys es (senders.moved x s) m.1 r in
    record { may = (m.0, rest.may); has = rest.has; known = rest.known }
