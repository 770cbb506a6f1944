-- The clauses of a safe book that are about two hosts: what was taken has a source, and what was sent is granted.
use Rattle.world_keeps_streams.proofs.Common.{◌≡◌, ◌⊎◌, inl, inr, ℕ, ◌+◌, ◌≤◌, Bool, true, List, [], length, take, drop, refl, ap, sym, subst, ◌∙◌, arith, Contains, Seen, Host, Crossing, IsLawful, Moment, program, crossings_of, WorldState, Coupled, book_lives, served_in, Network, AreOurs, all_ours, same_Some}
use Rattle.promise.specs.Safe.{IsGranted, Match, Source, own_request, AreTwo, receives}
use Rattle.promise.specs.declared.life.Life.{Life}
use Rattle.net_sim.specs.Told.{kept_in}
use Rattle.world_keeps_lives.proofs.lemmas.{safe_life}
use Rattle.world_keeps_streams.proofs.Lives.Lists.{IsOf, contains, is_of, of_both, of_drop, of_parts, one_or_two}
use Rattle.world_keeps_streams.proofs.Requests.Sides.{Lawful, coupled_in, lives_in, book_lawful}
use Rattle.world_keeps_streams.proofs.Books.Whole.{since, Whole}
use Rattle.world_keeps_streams.proofs.Books.Source.{Granter, Sourced, granted_of, source_of}
use Rattle.world_keeps_streams.proofs.Books.Run.{Given, whole}
use Rattle.world_keeps_streams.proofs.Books.Clauses.{OldGranter, OldSource, settled_r, settled_s}
use Rattle.world_keeps_streams.proofs.Lives.Among.{safe_partners, two_among}
use Rattle.world_keeps_streams.proofs.Ours.{held, ours_receiver, ours_sender}

-- ---- one life for each request

module _ (hosts : Network) (ms : List Moment) (l : Lawful hosts ms) where
  own_once : (x y : Life) → AreOurs hosts x.host x.peer → AreOurs hosts y.host y.peer → AreTwo (lives_in ms) x y
      → own_request x ≡ own_request y → ⊥
  own_once x y ours theirs two =
      let c : Coupled hosts ms = coupled_in hosts ms l in (safe_partners hosts ms c.story c.run l.1 (served_in hosts ms l.2)).own_once x y (two_among hosts x y (lives_in ms) ours theirs two)

  -- a request is of one life
  pub one_own : (x y : Life) → AreOurs hosts x.host x.peer → AreOurs hosts y.host y.peer → IsOf x (lives_in ms)
      → IsOf y (lives_in ms) → own_request x ≡ own_request y → x ≡ y
  one_own x y ours theirs i j e = elim (one_or_two x y (lives_in ms) i j) [
    | inl same ↦ same
    | inr two ↦ elim two [
      | inl front ↦ absurd (own_once x y ours theirs front e)
      | inr back ↦ absurd (own_once y x theirs ours back (sym e))
    ]
  ]

  -- which is at one place
  pub one_place : (n : ℕ) (x : Life) → AreOurs hosts x.host x.peer → IsOf x (take n (lives_in ms))
      → IsOf x (drop n (lives_in ms)) → ⊥
  one_place n x ours i j = own_once x x ours ours (of_both n x (lives_in ms) i j) refl

  -- a sending life matches one receiving life at most
  pub one_receiver : (x y s : Life) → AreOurs hosts s.host s.peer → IsOf x (lives_in ms) → IsOf y (lives_in ms)
      → Match (crossings_of ms) x s → Match (crossings_of ms) y s → x ≡ y
  one_receiver x y s ours i j m n =
      one_own x y (ours_receiver hosts m ours) (ours_receiver hosts n ours) i j (same_Some (own_request x) (own_request y) (sym m.answered ∙ n.answered))

  -- and a receiving life matches one sending life at most
  pub one_sender : (x s t : Life) → AreOurs hosts x.host x.peer → IsOf s (lives_in ms) → IsOf t (lives_in ms)
      → Match (crossings_of ms) x s → Match (crossings_of ms) x t → s ≡ t
  one_sender x s t ours i j m n = one_own s t (ours_sender hosts m ours) (ours_sender hosts n ours) i j (same_Some (own_request s) (own_request t) (sym m.asked ∙ n.asked))

module _ (hosts : Network) (Own Heard : Host → Host → List Moment → ℕ → ℕ → ℕ → ℕ → Type 0)
    (given : (a b : Host) → AreOurs hosts a b → Given hosts a b (Own a b) (Heard a b)) where
  module _ (ms : List Moment) (l : Lawful hosts ms) where
    -- ---- what was taken

    pub source : (x : Life) → AreOurs hosts x.host x.peer → Contains (lives_in ms) x → receives x ≡ true
        → (x.bits ≡ [] → ⊥) → Source (crossings_of ms) (lives_in ms) x
    source x ours there q some = elim (of_parts (since x.host x.peer ms) x (lives_in ms) (is_of x (lives_in ms) there)) [
      | inl early ↦
          (let o : OldSource ms x = (settled_r hosts x.host x.peer (Own x.host x.peer) (Heard x.host x.peer) (given x.host x.peer ours) ms l x early refl refl q).source some in
          record { sender = o.sender; there = contains o.sender (lives_in ms) o.there; matches = o.matches; front = o.front })
      | inr late ↦
          (let w : Whole x.host x.peer (Own x.host x.peer) (Heard x.host x.peer) ms = whole hosts x.host x.peer (Own x.host x.peer) (Heard x.host x.peer) (given x.host x.peer ours) ms l in
          let o : Sourced x.host x.peer (Own x.host x.peer) (Heard x.host x.peer) ms w.j x =
          source_of x.host x.peer (Own x.host x.peer) (Heard x.host x.peer) ms ((given x.host x.peer ours).matched ms l) w x late refl refl q some in
          record { sender = o.sender; there = contains o.sender (lives_in ms) (of_drop (since x.host x.peer ms) o.sender (lives_in ms) o.there); matches = o.matches; front = o.front })
    ]

    -- ---- what was sent

    granted_none : (x s : Life) → AreOurs hosts x.host x.peer → Contains (lives_in ms) x → receives x ≡ true
        → (s.messages ≡ 0) × (s.bits ≡ []) → IsGranted x s.messages (length s.bits)
    granted_none x s ours there q none =
        let t : IsGranted x x.messages (length x.bits) = (safe_life (program x.host ms) (kept_in ms) x there (held x.host x.socket hosts l.0 ours.0 ms l.1 l.2)).1.within q in
        let tm : x.messages + x.returned.messages ≤ x.granted.messages = t.messages in
        let tb : length x.bits + x.returned.bits ≤ x.granted.bits = t.bits in
        let m : s.messages ≡ 0 = none.0 in
        let b : length s.bits ≡ 0 = ap (λ (bs : List Bool). length bs) none.1 in
        record { messages = omega (arith, tm, m); bits = omega (arith, tb, b) }

    granted_by : (x s y : Life) → AreOurs hosts x.host x.peer → IsOf x (lives_in ms) → IsOf y (lives_in ms)
        → Match (crossings_of ms) x s → Match (crossings_of ms) y s → IsGranted y s.messages (length s.bits)
        → IsGranted x s.messages (length s.bits)
    granted_by x s y ours i j m n g = subst (λ (v : Life). IsGranted v s.messages (length s.bits)) (sym (one_receiver hosts ms l x y s (ours_sender hosts m ours) i j m n)) g

    pub sent : (x s : Life) → AreOurs hosts x.host x.peer → Contains (lives_in ms) x → Contains (lives_in ms) s
        → Match (crossings_of ms) x s → IsGranted x s.messages (length s.bits)
    sent x s ours here there m = elim (of_parts (since s.peer s.host ms) s (lives_in ms) (is_of s (lives_in ms) there)) [
      | inl early ↦ settled (settled_s hosts s.peer s.host (Own s.peer s.host) (Heard s.peer s.host) (given s.peer s.host theirs) ms l s early refl refl m.sending).granted
      | inr late ↦
          (let w : Whole s.peer s.host (Own s.peer s.host) (Heard s.peer s.host) ms = whole hosts s.peer s.host (Own s.peer s.host) (Heard s.peer s.host) (given s.peer s.host theirs) ms l in
          present w (granted_of s.peer s.host (Own s.peer s.host) (Heard s.peer s.host) ms ((given s.peer s.host theirs).matched ms l) w s late refl refl m.sending))
    ] where
      theirs : AreOurs hosts s.peer s.host
      theirs = ((ours_sender hosts m ours).1, (ours_sender hosts m ours).0)

      settled : ((s.messages ≡ 0) × (s.bits ≡ [])) ⊎ OldGranter ms s → IsGranted x s.messages (length s.bits)
      settled (inl none) = granted_none x s ours here m.receiving none
      settled (inr o) = granted_by x s o.receiver ours (is_of x (lives_in ms) here) o.there m o.matches o.granted

      present : (w : Whole s.peer s.host (Own s.peer s.host) (Heard s.peer s.host) ms) → ((s.messages ≡ 0) × (s.bits ≡ [])) ⊎ Granter s.peer s.host (Own s.peer s.host) (Heard s.peer s.host) ms w.j s
          → IsGranted x s.messages (length s.bits)
      present w (inl none) = granted_none x s ours here m.receiving none
      present w (inr o) = granted_by x s o.receiver ours (is_of x (lives_in ms) here) (of_drop (since s.peer s.host ms) o.receiver (lives_in ms) o.there) m o.matches o.granted

-- ---- worlds

module _ (hosts : List Host) (Own Heard : Host → Host → List Moment → ℕ → ℕ → ℕ → ℕ → Type 0) (given : (a b : Host) → AreOurs (all_ours hosts) a b → Given (all_ours hosts) a b (Own a b) (Heard a b)) {C : Type 0} (seen : C → Seen) (w : WorldState C)
    (lawful : IsLawful seen hosts w) where
  pub world_source : (x : Life) → Contains w.kept.book.lives x → receives x ≡ true → (x.bits ≡ [] → ⊥)
      → Source w.kept.book.crossings w.kept.book.lives x
  world_source x there q some =
      subst (λ (log : List Crossing). Source log w.kept.book.lives x) (sym lawful.whole.crossings)
      (subst (λ (lives : List Life). Source (crossings_of lawful.whole.moments) lives x) (sym (book_lives seen hosts w lawful))
      (source (all_ours hosts) Own Heard given lawful.whole.moments (book_lawful seen hosts w lawful) x (refl, refl) (subst (λ (lives : List Life). Contains lives x) (book_lives seen hosts w lawful) there) q some))

  pub world_sent : (x s : Life) → Contains w.kept.book.lives x → Contains w.kept.book.lives s
      → Match w.kept.book.crossings x s → IsGranted x s.messages (length s.bits)
  world_sent x s here there m =
      sent (all_ours hosts) Own Heard given lawful.whole.moments (book_lawful seen hosts w lawful) x s (refl, refl) (subst (λ (lives : List Life). Contains lives x) (book_lives seen hosts w lawful) here)
      (subst (λ (lives : List Life). Contains lives s) (book_lives seen hosts w lawful) there) (subst (λ (log : List Crossing). Match log x s) lawful.whole.crossings m)
