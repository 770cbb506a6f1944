-- A connection was asked for on the link where its receiving end has it, where ends change, come and go.
use Rattle.pair_keeps_streams.proofs.Common.{◌≡◌, ℕ, Bool, true, false, ◌==◌, if◌then◌else◌, List, [], ◌∷◌, ◌++◌, map, filter, Option, refl, ap, sym, subst, ◌∙◌, eq-eqb, ne_eqb, is_receive_socket, for, Receiver, changed_first, is_link, is_receiving, Entry, named, numbers, is_among, shut_one, unlike}
use Rattle.stream_law.proofs.lemmas.{for_here}
use Rattle.host_keeps_streams.proofs.lemmas.{or_right}
use Rattle.pair_keeps_streams.proofs.Joint.{AreLinked}
use Rattle.pair_keeps_streams.proofs.Queues.{Stays}

-- ---- ends that change, come and go

module _ (name : ℕ → ℕ → ℕ) (link : ℕ) (r : Receiver) where
  -- the links of receiving ends stay
  abbrev pub KeepsLink : (Entry → Bool) → (Entry → Entry) → Type 0
  KeepsLink test change = (e : Entry) → test e ≡ true → is_receiving e ≡ true → (change e).link ≡ e.link

  changed_one : (change : Entry → Entry) → Stays change → (y : Entry) → (is_receiving y ≡ true → (change y).link ≡ y.link) → (is_receiving y ≡ true → r.asked (named name y) ≡ is_link link y.link)
      → is_receiving (change y) ≡ true → r.asked (named name (change y)) ≡ is_link link (change y).link
  changed_one change s y same l i =
      let there : is_receiving y ≡ true = subst (λ (n : ℕ). is_receive_socket n ≡ true) (s.own y) i in
      ap (λ (n : ℕ). r.asked (name n (change y).foreign)) (s.own y) ∙ ap (λ (n : ℕ). r.asked (name y.own n)) (s.foreign y) ∙ l there ∙ ap (λ (o : Option ℕ). is_link link o) (sym (same there))

  changed_step : (test : Entry → Bool) (change : Entry → Entry) → Stays change → KeepsLink test change → (y : Entry) (ys : List Entry) → AreLinked name link (y ∷ ys) r → AreLinked name link (changed_first test change ys) r
      → (b : Bool) → test y ≡ b → AreLinked name link (changed_first test change (y ∷ ys)) r
  changed_step test change s k y ys l rest true t = rw t (changed_one change s y (k y t) l.0, l.1)
  changed_step test change s k y ys l rest false t = rw t (l.0, rest)

  pub linked_changed : (test : Entry → Bool) (change : Entry → Entry) → Stays change → KeepsLink test change → (es : List Entry) → AreLinked name link es r → AreLinked name link (changed_first test change es) r
  linked_changed test change s k [] l = tt
  linked_changed test change s k (y ∷ ys) l = changed_step test change s k y ys l (linked_changed test change s k ys l.1) (test y) refl

  pub linked_settled : (busy : List ℕ) (es : List Entry) → AreLinked name link es r → AreLinked name link (map (shut_one busy) es) r
  linked_settled busy [] l = tt
  linked_settled busy (y ∷ ys) l = (l.0, linked_settled busy ys l.1)

  filter_step : (keep : Entry → Bool) (y : Entry) (ys : List Entry) → AreLinked name link (y ∷ ys) r → AreLinked name link (filter keep ys) r → (b : Bool) → keep y ≡ b → AreLinked name link (filter keep (y ∷ ys)) r
  filter_step keep y ys l rest true t = rw t (l.0, rest)
  filter_step keep y ys l rest false t = rw t rest

  pub linked_filter : (keep : Entry → Bool) (es : List Entry) → AreLinked name link es r → AreLinked name link (filter keep es) r
  linked_filter keep [] l = tt
  linked_filter keep (y ∷ ys) l = filter_step keep y ys l (linked_filter keep ys l.1) _ refl

  pub linked_append : (es : List Entry) (e : Entry) → AreLinked name link es r → (is_receiving e ≡ true → r.asked (named name e) ≡ is_link link e.link) → AreLinked name link (es ++ e ∷ []) r
  linked_append [] e l one = (one, tt)
  linked_append (y ∷ ys) e l one = (l.0, linked_append ys e l.1 one)

  -- nothing else is asked for of these ends
  pub linked_asked : (t : Receiver) (es : List Entry) → ((k : ℕ) → is_among k (numbers name es) ≡ true → t.asked k ≡ r.asked k) → AreLinked name link es r → AreLinked name link es t
  linked_asked t [] same l = tt
  linked_asked t (y ∷ ys) same l =
      let first : (named name y == named name y) ≡ true = eq-eqb (named name y) (named name y) refl in
      (λ i. same (named name y) (rw first refl) ∙ l.0 i, linked_asked t ys (λ k a. same k (or_right (named name y == k) (is_among k (numbers name ys)) a)) l.1)

  -- a new end, that has asked on its link
  pub linked_joined : (t : Receiver) (es : List Entry) (e : Entry) (v : Bool) → is_link link e.link ≡ v → ((k : ℕ) → t.asked k ≡ (if v then for (named name e) true r.asked k else r.asked k))
      → is_among (named name e) (numbers name es) ≡ false → r.asked (named name e) ≡ false → AreLinked name link es r → AreLinked name link (es ++ e ∷ []) t
  linked_joined t es e v on asks free unasked l = linked_append_to (linked_asked t es others l) where
    for_other : (k : ℕ) → (k == named name e) ≡ false → (u : Bool) → (if u then for (named name e) true r.asked k else r.asked k) ≡ r.asked k
    for_other k n true = rw n refl
    for_other k n false = refl

    others : (k : ℕ) → is_among k (numbers name es) ≡ true → t.asked k ≡ r.asked k
    others k a = asks k ∙ for_other k (ne_eqb k (named name e) (λ same. unlike (is_among (named name e) (numbers name es)) (subst (λ (n : ℕ). is_among n (numbers name es) ≡ true) same a) free)) v

    own : (u : Bool) → (if u then for (named name e) true r.asked (named name e) else r.asked (named name e)) ≡ u
    own true = for_here (named name e) true r.asked
    own false = unasked

    append_to : (ys : List Entry) → AreLinked name link ys t → AreLinked name link (ys ++ e ∷ []) t
    append_to [] k = (λ i. asks (named name e) ∙ own v ∙ sym on, tt)
    append_to (y ∷ ys) k = (k.0, append_to ys k.1)

    linked_append_to : AreLinked name link es t → AreLinked name link (es ++ e ∷ []) t
    linked_append_to k = append_to es k

-- by other names that are the same for these ends
pub linked_renamed : (name other : ℕ → ℕ → ℕ) (link : ℕ) (r : Receiver) (es : List Entry) → numbers other es ≡ numbers name es → AreLinked name link es r → AreLinked other link es r
linked_renamed name other link r [] e l = tt
linked_renamed name other link r (y ∷ ys) e l =
    let first : named other y ≡ named name y = cc in
    let rest : numbers other ys ≡ numbers name ys = cc in
    (λ i. ap r.asked first ∙ l.0 i, linked_renamed name other link r ys rest l.1)
