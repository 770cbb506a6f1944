-- All sending ends that have to close do so, on whatever link they are.
use Rattle.host_keeps_streams.proofs.Common.{◌≡◌, ℕ, Bool, true, false, not, ◌&&◌, ◌==◌, List, [], ◌∷◌, ◌++◌, map, filter, refl, ap, sym, subst, ◌∙◌, inl, inr, or_parts, Sender, for_here, closed_when, is_due, is_drained, is_receiving, must_close, sends_on, Entry, both, not_is, all_sent, MayAllSend, AreSender, HasSender, closes, named, numbers, is_among, AreApart, IsKnown, AreKnown}
use Rattle.stream_law.specs.Senders as senders
use Rattle.host_pairs.specs.declared.entry.Closing.TheVariants as closing
use Rattle.host_keeps_streams.proofs.Lists.{filter_map, sent_is, unlike}
use Rattle.host_keeps_streams.proofs.Names.{among_filter, turned}
use Rattle.host_keeps_streams.proofs.Known.{Sent, close_apart, closed_elsewhere, known_other}
use Rattle.host_keeps_streams.proofs.Ending.{shut_one}
use Rattle.host_keeps_streams.proofs.Leaving.{closes_one, cls_not_due, due_open}

-- none of these has one of those numbers
abbrev AreClear : (ℕ → ℕ → ℕ) → List Entry → List ℕ → Type 0
AreClear name [] numbers = Unit {0}
AreClear name (x ∷ xs) numbers = (is_among (named name x) numbers ≡ false) × AreClear name xs numbers

-- the ends `xs` are those that were gone over before, as far as they are on the link
pub record Done (name : ℕ → ℕ → ℕ) (link : ℕ) (busy : List ℕ) (moves : List senders.Move) (xs es : List Entry) (s : Sender) : Type 0 where
  pub may : MayAllSend moves s
  pub has : AreSender name (xs ++ map (shut_one busy) (filter (sends_on link) es)) (all_sent moves s)
  pub known : AreKnown name (map (shut_one busy) es) (all_sent moves s)
  pub away : (k : ℕ) → is_among k (numbers name es) ≡ false → ((all_sent moves s).size k ≡ s.size k) × ((all_sent moves s).closed k ≡ s.closed k)

module _ (name : ℕ → ℕ → ℕ) (link : ℕ) (busy : List ℕ) where
  clear_rest : (c : ℕ) (cs : List ℕ) (xs : List Entry) → AreClear name xs (c ∷ cs) → AreClear name xs cs
  clear_rest c cs [] a = tt
  clear_rest c cs (x ∷ xs) a = ((or_parts (c == named name x) (is_among (named name x) cs) a.0).1, clear_rest c cs xs a.1)

  clear_among : (c : ℕ) (cs : List ℕ) (xs zs : List Entry) → AreClear name xs (c ∷ cs) → is_among c (numbers name zs) ≡ false → is_among c (numbers name (xs ++ zs)) ≡ false
  clear_among c cs [] zs a n = n
  clear_among c cs (x ∷ xs) zs a n =
      let other : (named name x == c) ≡ false = turned name c _ (or_parts (c == named name x) (is_among (named name x) cs) a.0).0 in
      rw other (clear_among c cs xs zs a.1 n)

  abbrev Rest : List Entry → Type 0
  Rest ys = (xs : List Entry) (s : Sender) → AreSender name (xs ++ filter (sends_on link) ys) s → AreClear name xs (numbers name ys) → AreKnown name ys s → AreApart (numbers name ys) → Done name link busy (closes name busy ys) xs ys s

  closes_first : (y : Entry) (ys : List Entry) → (must_close busy y && not (is_receiving y)) ≡ true → closes name busy (y ∷ ys) ≡ senders.Close (named name y) ∷ closes name busy ys
  closes_first y ys t = rw t refl

  closes_rest : (y : Entry) (ys : List Entry) → (must_close busy y && not (is_receiving y)) ≡ false → closes name busy (y ∷ ys) ≡ closes name busy ys
  closes_rest y ys t = rw t refl

  shut_now : (y : Entry) → must_close busy y ≡ true → shut_one busy y ≡ record y { closing = closing.Queued }
  shut_now y t = ap (λ (v : Bool). closed_when v y) t

  stays_open : (y : Entry) → must_close busy y ≡ false → shut_one busy y ≡ y
  stays_open y t = ap (λ (v : Bool). closed_when v y) t

  not_must : (y : Entry) → (must_close busy y && not (is_receiving y)) ≡ false → is_receiving y ≡ false → must_close busy y ≡ false
  not_must y t i = by (must_close busy y) refl where
    by : (v : Bool) → must_close busy y ≡ v → must_close busy y ≡ false
    by true e = absurd (let r : true ≡ false = rw (e, i) at t in cc)
    by false e = e

  -- one that closes
  due_is : (y : Entry) → must_close busy y ≡ true → is_due y.closing ≡ true
  due_is y t = (both (is_due y.closing) (is_drained busy y) t).0

  closed_known : (y : Entry) (s t : Sender) → must_close busy y ≡ true → IsKnown (named name y) y s → (t.size (named name y) ≡ s.size (named name y)) × (t.closed (named name y) ≡ true) → IsKnown (named name (shut_one busy y)) (shut_one busy y) t
  closed_known y s t m k e = subst (λ (x : Entry). IsKnown (named name y) x t) (sym (shut_now y m)) (record { size = e.0 ∙ k.size; closed = e.1 })

  first_closes : (xs : List Entry) (y : Entry) (ys : List Entry) (s : Sender) (zs : List Entry) → must_close busy y ≡ true → is_receiving y ≡ false → AreKnown name (y ∷ ys) s → AreApart (numbers name (y ∷ ys))
      → Done name link busy (closes name busy ys) zs ys (senders.moved (senders.Close (named name y)) s)
      → AreSender name (xs ++ map (shut_one busy) (filter (sends_on link) (y ∷ ys))) (all_sent (closes name busy ys) (senders.moved (senders.Close (named name y)) s))
      → Done name link busy (senders.Close (named name y) ∷ closes name busy ys) xs (y ∷ ys) s
  first_closes xs y ys s zs m i k a done has =
      let fresh : s.closed (named name y) ≡ false = (k.0 i).closed ∙ due_open y.closing (due_is y m) in
      let same : ((all_sent (closes name busy ys) (senders.moved (senders.Close (named name y)) s)).size (named name y) ≡ s.size (named name y)) × ((all_sent (closes name busy ys) (senders.moved (senders.Close (named name y)) s)).closed (named name y) ≡ true)
      = ((done.away (named name y) a.0).0, (done.away (named name y) a.0).1 ∙ for_here _ true s.closed) in
      record {
        may = (fresh, done.may);
        has = has;
        known = ((λ j. closed_known y s (all_sent (closes name busy ys) (senders.moved (senders.Close (named name y)) s)) m (k.0 i) same), done.known);
        away = λ n out. (let p : ((named name y == n) ≡ false) × (is_among n (numbers name ys) ≡ false) = or_parts (named name y == n) (is_among n (numbers name ys)) out in
            let e : (s.size n ≡ s.size n) × ((senders.moved (senders.Close (named name y)) s).closed n ≡ s.closed n) = closed_elsewhere (named name y) s n (turned name _ n p.0) in
            ((done.away n p.1).0, (done.away n p.1).1 ∙ e.1));
      }

  close_off : (xs : List Entry) (y : Entry) (ys : List Entry) (s : Sender) → Rest ys → must_close busy y ≡ true → is_receiving y ≡ false → sends_on link y ≡ false → AreSender name (xs ++ filter (sends_on link) ys) s
      → AreClear name xs (numbers name (y ∷ ys)) → AreKnown name (y ∷ ys) s → AreApart (numbers name (y ∷ ys)) → Done name link busy (senders.Close (named name y) ∷ closes name busy ys) xs (y ∷ ys) s
  close_off xs y ys s rest m i o h c k a =
      let none : is_among (named name y) (numbers name (xs ++ filter (sends_on link) ys)) ≡ false = clear_among _ _ xs _ c (among_filter name _ _ ys a.0) in
      let done : Done name link busy (closes name busy ys) xs ys (senders.moved (senders.Close (named name y)) s)
      = rest xs (senders.moved (senders.Close (named name y)) s) (close_apart name _ _ s none h) (clear_rest _ _ xs c)
      (known_other name _ ys s _ a.0 (closed_elsewhere _ s) k.1) a.1 in
      first_closes xs y ys s xs m i k a done (rw o done.has)

  -- the one on the link
  alone : (y : Entry) (zs : List Entry) (s : Sender) → AreSender name (y ∷ zs) s → zs ≡ []
  alone y [] s h = refl
  alone y (z ∷ zs) s h = absurd h

  close_it : (y : Entry) (s : Sender) → AreSender name (y ∷ []) s → must_close busy y ≡ true → AreSender name (shut_one busy y ∷ []) (senders.moved (senders.Close (named name y)) s)
  close_it y s (inl i) m = subst (λ (x : Entry). AreSender name (x ∷ []) (senders.moved (senders.Close (named name y)) s)) (sym (shut_now y m)) (closes_one name link y s i (due_is y m) y.partner_closed refl).1
  close_it y s (inr n) m = absurd (unlike (is_due y.closing) (due_is y m) (cls_not_due y.closing n.closed))

  close_on : (xs : List Entry) (y : Entry) (ys : List Entry) (s : Sender) → Rest ys → must_close busy y ≡ true → is_receiving y ≡ false → sends_on link y ≡ true → AreSender name (xs ++ y ∷ filter (sends_on link) ys) s
      → AreKnown name (y ∷ ys) s → AreApart (numbers name (y ∷ ys)) → Done name link busy (senders.Close (named name y) ∷ closes name busy ys) xs (y ∷ ys) s
  close_on [] y ys s rest m i o h k a =
      let none : filter (sends_on link) ys ≡ [] = alone y _ s h in
      let one : AreSender name (y ∷ []) s = subst (λ (zs : List Entry). AreSender name (y ∷ zs) s) none h in
      let done : Done name link busy (closes name busy ys) (shut_one busy y ∷ []) ys (senders.moved (senders.Close (named name y)) s)
      = rest (shut_one busy y ∷ []) (senders.moved (senders.Close (named name y)) s) (subst (λ (zs : List Entry). AreSender name (shut_one busy y ∷ zs) (senders.moved (senders.Close (named name y)) s)) (sym none) (close_it y s one m)) (a.0, tt)
      (known_other name _ ys s _ a.0 (closed_elsewhere _ s) k.1) a.1 in
      first_closes [] y ys s _ m i k a done (rw o done.has)
  close_on (x ∷ []) y ys s rest m i o h k a = absurd h
  close_on (x ∷ z ∷ xs) y ys s rest m i o h k a = absurd h

  -- one that doesn't
  stay_known : (y : Entry) (s t : Sender) → (must_close busy y && not (is_receiving y)) ≡ false → (is_receiving y ≡ false → IsKnown (named name y) y s) → (t.size (named name y) ≡ s.size (named name y)) × (t.closed (named name y) ≡ s.closed (named name y))
      → is_receiving (shut_one busy y) ≡ false → IsKnown (named name (shut_one busy y)) (shut_one busy y) t
  stay_known y s t m k e i = subst (λ (x : Entry). IsKnown (named name y) x t) (sym (stays_open y (not_must y m i))) (record { size = e.0 ∙ (k i).size; closed = e.1 ∙ (k i).closed })

  first_stays : (xs : List Entry) (y : Entry) (ys : List Entry) (s : Sender) (zs : List Entry) → (must_close busy y && not (is_receiving y)) ≡ false → AreKnown name (y ∷ ys) s → AreApart (numbers name (y ∷ ys))
      → Done name link busy (closes name busy ys) zs ys s → AreSender name (xs ++ map (shut_one busy) (filter (sends_on link) (y ∷ ys))) (all_sent (closes name busy ys) s)
      → Done name link busy (closes name busy ys) xs (y ∷ ys) s
  first_stays xs y ys s zs m k a done has = record {
    may = done.may;
    has = has;
    known = (stay_known y s _ m k.0 (done.away (named name y) a.0), done.known);
    away = λ n out. done.away n (or_parts (named name y == n) (is_among n (numbers name ys)) out).1;
  }

  stay_off : (xs : List Entry) (y : Entry) (ys : List Entry) (s : Sender) → Rest ys → (must_close busy y && not (is_receiving y)) ≡ false → sends_on link y ≡ false → AreSender name (xs ++ filter (sends_on link) ys) s
      → AreClear name xs (numbers name (y ∷ ys)) → AreKnown name (y ∷ ys) s → AreApart (numbers name (y ∷ ys)) → Done name link busy (closes name busy ys) xs (y ∷ ys) s
  stay_off xs y ys s rest m o h c k a =
      let done : Done name link busy (closes name busy ys) xs ys s = rest xs s h (clear_rest _ _ xs c) k.1 a.1 in
      first_stays xs y ys s xs m k a done (rw o done.has)

  stay_on : (xs : List Entry) (y : Entry) (ys : List Entry) (s : Sender) → Rest ys → (must_close busy y && not (is_receiving y)) ≡ false → sends_on link y ≡ true → AreSender name (xs ++ y ∷ filter (sends_on link) ys) s
      → AreKnown name (y ∷ ys) s → AreApart (numbers name (y ∷ ys)) → Done name link busy (closes name busy ys) xs (y ∷ ys) s
  stay_on [] y ys s rest m o h k a =
      let same : shut_one busy y ≡ y = stays_open y (not_must y m (sent_is link y o)) in
      let done : Done name link busy (closes name busy ys) (y ∷ []) ys s = rest (y ∷ []) s h (a.0, tt) k.1 a.1 in
      first_stays [] y ys s _ m k a done
      (rw o (subst (λ (x : Entry). AreSender name (x ∷ map (shut_one busy) (filter (sends_on link) ys)) (all_sent (closes name busy ys) s)) (sym same) done.has))
  stay_on (x ∷ []) y ys s rest m o h k a = absurd h
  stay_on (x ∷ z ∷ xs) y ys s rest m o h k a = absurd h

  settle_step : (y : Entry) (ys : List Entry) → Rest ys → (xs : List Entry) (s : Sender) → AreSender name (xs ++ filter (sends_on link) (y ∷ ys)) s → AreClear name xs (numbers name (y ∷ ys)) → AreKnown name (y ∷ ys) s
      → AreApart (numbers name (y ∷ ys)) → (b o : Bool) → (must_close busy y && not (is_receiving y)) ≡ b → sends_on link y ≡ o → Done name link busy (closes name busy (y ∷ ys)) xs (y ∷ ys) s
  settle_step y ys rest xs s h c k a true o m t = subst (λ (ms : List senders.Move). Done name link busy ms xs (y ∷ ys) s) (sym (closes_first y ys m)) (by o t) where
    parts : (must_close busy y ≡ true) × (not (is_receiving y) ≡ true)
    parts = both (must_close busy y) (not (is_receiving y)) m

    by : (o : Bool) → sends_on link y ≡ o → Done name link busy (senders.Close (named name y) ∷ closes name busy ys) xs (y ∷ ys) s
    by true t = close_on xs y ys s rest parts.0 (not_is _ parts.1) t (rw t at h) k a
    by false t = close_off xs y ys s rest parts.0 (not_is _ parts.1) t (rw t at h) c k a
  settle_step y ys rest xs s h c k a false o m t = subst (λ (ms : List senders.Move). Done name link busy ms xs (y ∷ ys) s) (sym (closes_rest y ys m)) (by o t) where
    by : (o : Bool) → sends_on link y ≡ o → Done name link busy (closes name busy ys) xs (y ∷ ys) s
    by true t = stay_on xs y ys s rest m t (rw t at h) k a
    by false t = stay_off xs y ys s rest m t (rw t at h) c k a

  settle_rest : (ys : List Entry) → Rest ys
  settle_rest [] xs s h c k a = record { may = tt; has = h; known = tt; away = λ n out. (refl, refl) }
  settle_rest (y ∷ ys) xs s h c k a = settle_step y ys (settle_rest ys) xs s h c k a _ _ refl refl

  pub settle_all : (es : List Entry) (s : Sender) → HasSender name link es s → AreKnown name es s → AreApart (numbers name es) → Sent name link (closes name busy es) (map (shut_one busy) es) s
  settle_all es s h k a =
      let done : Done name link busy (closes name busy es) [] es s = settle_rest es [] s h tt k a in
      record {
        may = done.may;
        has = subst (λ (xs : List Entry). AreSender name xs (all_sent (closes name busy es) s)) (sym (filter_map _ _ es (λ e. refl))) done.has;
        known = done.known;
      }
