-- What the sender of a link does by a CLS of its peer.
use Rattle.host_keeps_streams.proofs.Common.{◌≡◌, ℕ, Bool, true, false, ◌==◌, if◌then◌else◌, List, [], ◌∷◌, ◌++◌, map, filter, Option, Some, None, refl, ap, sym, subst, ◌∙◌, inl, inr, eqb-true, or_parts, Host, for, Sender, cls_taken_by, DeskState, changed_first, close_due, closed_by_partner, entry_at, has_cls, is_busy, is_at, is_over, is_receiving, sends_on, Closing, Entry, all_sent, MayAllSend, IsSender, NoneOpen, AreSender, HasSender, KeepBox, closes, of_end, named, numbers, is_among, AreApart, IsKnown, AreKnown}
use Rattle.std.proofs.Common.{eq-eqb}
use Rattle.stream_law.specs.Words as words
use Rattle.stream_law.specs.Senders as senders
use Rattle.host_pairs.specs.Entries.{changed_at}
use Rattle.host_pairs.specs.declared.entry.Closing.TheVariants as closing
use Rattle.host_keeps_streams.specs.Moves.{cls_sent}
use Rattle.host_keeps_streams.proofs.Boxes.{keep_both, settled_box}
use Rattle.host_keeps_streams.proofs.Ending.{shut_one, stays}
use Rattle.host_keeps_streams.proofs.Known.{Sent, known_changed, known_filter, known_found, then_sent}
use Rattle.host_keeps_streams.proofs.Leaving.{heard_closed, heard_unclosed, still_swept}
use Rattle.host_keeps_streams.proofs.Lists.{away, filter_both, not_sent, unlike}
use Rattle.host_keeps_streams.proofs.Names.{apart_changed, apart_filter, others}
use Rattle.host_keeps_streams.proofs.Senders.{own_sender}
use Rattle.host_keeps_streams.proofs.Settling.{settle_all}
use Rattle.host_keeps_streams.proofs.Sweeping.{closes_swept, swept_first}

-- ---- a CLS where the law's end is of its connection

abbrev pub heard : ℕ → Option ℕ → List senders.Move
heard c o = of_end c o (senders.Hear (words.Cls c) ∷ [])

shuts_size : (c : ℕ) (o : Option ℕ) (s : Sender) → (senders.shuts c o s).size ≡ s.size
shuts_size c None s = refl
shuts_size c (Some own) s = by (own == c) (s.closed c) refl refl where
  by : (u v : Bool) → (own == c) ≡ u → s.closed c ≡ v → (senders.shuts c (Some own) s).size ≡ s.size
  by true true t f = rw (t, f) refl
  by true false t f = rw (t, f) refl
  by false v t f = rw t refl

shuts_closed : (c : ℕ) (o : Option ℕ) (s : Sender) → (senders.shuts c o s).closed ≡ s.closed
shuts_closed c None s = refl
shuts_closed c (Some own) s = by (own == c) (s.closed c) refl refl where
  by : (u v : Bool) → (own == c) ≡ u → s.closed c ≡ v → (senders.shuts c (Some own) s).closed ≡ s.closed
  by true true t f = rw (t, f) refl
  by true false t f = rw (t, f) refl
  by false v t f = rw t refl

heard_size : (c : ℕ) (o : Option ℕ) (s : Sender) → (all_sent (heard c o) s).size ≡ s.size
heard_size c None s = refl
heard_size c (Some own) s = by (own == c) refl where
  by : (u : Bool) → (own == c) ≡ u → (all_sent (heard c (Some own)) s).size ≡ s.size
  by true t = rw t (shuts_size c s.end s)
  by false t = rw t refl

heard_closes : (c : ℕ) (o : Option ℕ) (s : Sender) → (all_sent (heard c o) s).closed ≡ s.closed
heard_closes c None s = refl
heard_closes c (Some own) s = by (own == c) refl where
  by : (u : Bool) → (own == c) ≡ u → (all_sent (heard c (Some own)) s).closed ≡ s.closed
  by true t = rw t (shuts_closed c s.end s)
  by false t = rw t refl

heard_may : (c : ℕ) (o : Option ℕ) (s : Sender) → MayAllSend (heard c o) s
heard_may c None s = tt
heard_may c (Some own) s = by (own == c) refl where
  by : (u : Bool) → (own == c) ≡ u → MayAllSend (heard c (Some own)) s
  by true t = rw t (tt, tt)
  by false t = rw t tt

none_ended : (s : Sender) → NoneOpen (record s { end = None })
none_ended s = λ k f o. absurd (cc)

heard_none : (c : ℕ) (s : Sender) → NoneOpen s → (o : Option ℕ) → s.end ≡ o → NoneOpen (all_sent (heard c o) s)
heard_none c s none None e = none
heard_none c s none (Some own) e = by (own == c) (s.closed c) refl refl where
  by : (u v : Bool) → (own == c) ≡ u → s.closed c ≡ v → NoneOpen (all_sent (heard c (Some own)) s)
  by true true t f = rw t (subst NoneOpen (sym (heard_closed c s (e ∙ ap (λ (n : ℕ). Some n) (eqb-true own c t)) f)) (none_ended s))
  by true false t f = rw t (subst NoneOpen (sym (heard_unclosed c s (e ∙ ap (λ (n : ℕ). Some n) (eqb-true own c t)) f)) none)
  by false v t f = rw t none

heard_apart : (name : ℕ → ℕ → ℕ) (c : ℕ) (xs : List Entry) (s : Sender) → is_among c (numbers name xs) ≡ false → AreSender name xs s → AreSender name xs (all_sent (heard c s.end) s)
heard_apart name c [] s n h = heard_none c s h s.end refl
heard_apart name c (x ∷ []) s n (inl i) =
    let other : (named name x == c) ≡ false = (or_parts (named name x == c) false n).0 in
    subst (λ (o : Option ℕ). AreSender name (x ∷ []) (all_sent (heard c o) s)) (sym i.end) (rw other (inl i))
heard_apart name c (x ∷ []) s n (inr l) = inr (record { closed = l.closed; shut = l.shut; live = l.live; none = heard_none c s l.none s.end refl })
heard_apart name c (x ∷ y ∷ ys) s n h = absurd h

pub due_cls : (v : Closing) → has_cls v ≡ has_cls (close_due v)
due_cls closing.No = refl
due_cls v = refl

module _ (name : ℕ → ℕ → ℕ) (link : ℕ) where
  module _ (peer : Host) (busy : List ℕ) (own foreign : ℕ) (d : DeskState) (s : Sender) (h : HasSender name link d.entries s) (k : AreKnown name d.entries s) (a : AreApart (numbers name d.entries))
      (e : Entry) (found : entry_at own foreign d.entries ≡ Some e) (first : e.partner_closed ≡ false) where
    -- what is swept, on the link
    swept_on : (xs : List Entry) → filter (sends_on link) (changed_first (is_at own foreign) closed_by_partner d.entries) ≡ xs
        → filter (sends_on link) (filter stays (changed_first (is_at own foreign) closed_by_partner d.entries)) ≡ filter stays xs
    swept_on xs one = filter_both (sends_on link) stays (changed_first (is_at own foreign) closed_by_partner d.entries) ∙ ap (λ (ys : List Entry). filter stays ys) one

    shut_off : (t : Sender) → sends_on link e ≡ false → AreSender name (filter (sends_on link) d.entries) t → HasSender name link (filter stays (changed_first (is_at own foreign) closed_by_partner d.entries)) t
    shut_off t off g =
        let list : filter (sends_on link) (changed_first (is_at own foreign) closed_by_partner d.entries) ≡ filter (sends_on link) d.entries
        = away _ _ closed_by_partner e d.entries off off found in
        subst (λ (xs : List Entry). AreSender name xs t) (sym (swept_on _ list ∙ still_swept name link _ t g)) g

    abbrev Heard : Sender → Type 0
    Heard t = AreSender name (filter stays (closed_by_partner e ∷ [])) t

    open_due : (v : Closing) → e.closing ≡ v → has_cls v ≡ false → IsSender (named name e) e s → filter stays (closed_by_partner e ∷ []) ≡ closed_by_partner e ∷ [] → is_over (closed_by_partner e) ≡ false → Heard (record s { shut = true })
    open_due v same not_yet i list live =
        subst (λ (xs : List Entry). AreSender name xs (record s { shut = true })) (sym list)
        (inl (record { end = i.end; opened = i.opened; shut = refl; closed = i.closed ∙ due_cls e.closing; size = i.size; allocation = i.allocation; live = live }))

    heard_by : IsSender (named name e) e s → (v : Closing) → e.closing ≡ v → Heard (senders.shuts (named name e) s.end s)
    heard_by i closing.Queued same =
        let list : filter stays (closed_by_partner e ∷ []) ≡ closed_by_partner e ∷ [] = (rw same refl) in
        subst Heard (sym (heard_closed _ s i.end (i.closed ∙ ap has_cls same)))
        (subst (λ (xs : List Entry). AreSender name xs (record s { end = None })) (sym list) (inr (record { closed = (rw same refl); shut = refl; live = (rw same refl); none = none_ended s })))
    heard_by i closing.Sent same =
        let list : filter stays (closed_by_partner e ∷ []) ≡ [] = (rw same refl) in
        subst Heard (sym (heard_closed _ s i.end (i.closed ∙ ap has_cls same))) (subst (λ (xs : List Entry). AreSender name xs (record s { end = None })) (sym list) (none_ended s))
    heard_by i v same =
        subst Heard (sym (heard_unclosed _ s i.end (i.closed ∙ ap has_cls same))) (open_due v same refl i (rw same refl) (rw same refl))

    shut_on : sends_on link e ≡ true → HasSender name link (filter stays (changed_first (is_at own foreign) closed_by_partner d.entries)) (all_sent (heard (named name e) s.end) s)
    shut_on on =
        let both : AreSender name (e ∷ []) s × (filter (sends_on link) (changed_first (is_at own foreign) closed_by_partner d.entries) ≡ closed_by_partner e ∷ [])
        = own_sender name link _ closed_by_partner e d.entries s found on on h in
        let i : IsSender (named name e) e s = elim both.0 [
          | inl i ↦ i
          | inr n ↦ absurd (unlike e.partner_closed n.shut first)
        ] in
        let here : (named name e == named name e) ≡ true = eq-eqb (named name e) (named name e) refl in
        let moves : heard (named name e) s.end ≡ senders.Hear (words.Cls (named name e)) ∷ [] = ap (λ (o : Option ℕ). heard (named name e) o) i.end ∙ (rw here refl) in
        subst (λ (xs : List Entry). AreSender name xs (all_sent (heard (named name e) s.end) s)) (sym (swept_on _ both.1))
        (subst (λ (ms : List senders.Move). Heard (all_sent ms s)) (sym moves) (heard_by i e.closing refl))

    shut_has : (v : Bool) → sends_on link e ≡ v → is_receiving e ≡ false → HasSender name link (filter stays (changed_first (is_at own foreign) closed_by_partner d.entries)) (all_sent (heard (named name e) s.end) s)
    shut_has true on i = shut_on on
    shut_has false off i =
        shut_off _ off (heard_apart name _ _ s (others name _ _ e d.entries off a found) h)

    shut_known : (t : Sender) → t.size ≡ s.size → t.closed ≡ s.closed → AreKnown name (filter stays (changed_first (is_at own foreign) closed_by_partner d.entries)) t
    shut_known t z c =
        known_filter name stays _ t
        (known_changed name _ closed_by_partner e d.entries s t (λ n out. (ap (λ (f : ℕ → Option ℕ). f n) z, ap (λ (f : ℕ → Bool). f n) c)) (record { own = λ x. refl; foreign = λ x. refl })
        (λ i. (let one : IsKnown (named name e) e s = known_found name _ e d.entries s i k found in
        record { size = ap (λ (f : ℕ → Option ℕ). f (named name e)) z ∙ one.size; closed = ap (λ (f : ℕ → Bool). f (named name e)) c ∙ one.closed ∙ due_cls e.closing })) a k found)

    shut_apart : AreApart (numbers name (filter stays (changed_first (is_at own foreign) closed_by_partner d.entries)))
    shut_apart = apart_filter name stays _ (apart_changed name _ closed_by_partner d.entries (λ x. refl) a)

    -- then all settle
    then_settled : (t : Sender) → HasSender name link (filter stays (changed_first (is_at own foreign) closed_by_partner d.entries)) t → AreKnown name (filter stays (changed_first (is_at own foreign) closed_by_partner d.entries)) t
        → Sent name link (closes name busy (changed_first (is_at own foreign) closed_by_partner d.entries)) (filter stays (map (shut_one busy) (changed_first (is_at own foreign) closed_by_partner d.entries))) t
    then_settled t g j =
        subst (λ (es : List Entry). Sent name link (closes name busy (changed_first (is_at own foreign) closed_by_partner d.entries)) es t) (sym (swept_first busy (changed_first (is_at own foreign) closed_by_partner d.entries)))
        (subst (λ (ms : List senders.Move). Sent name link ms (map (shut_one busy) (filter stays (changed_first (is_at own foreign) closed_by_partner d.entries))) t) (sym (closes_swept name busy (changed_first (is_at own foreign) closed_by_partner d.entries)))
        (settle_all name link busy _ t g j shut_apart))

    cls_first : Sent name link ((if is_receiving e then [] else heard (named name e) s.end) ++ closes name busy (changed_at own foreign closed_by_partner d.entries)) (filter stays (map (shut_one busy) (changed_first (is_at own foreign) closed_by_partner d.entries))) s
    cls_first = by (is_receiving e) refl where
      by : (v : Bool) → is_receiving e ≡ v
          → Sent name link ((if v then [] else heard (named name e) s.end) ++ closes name busy (changed_at own foreign closed_by_partner d.entries)) (filter stays (map (shut_one busy) (changed_first (is_at own foreign) closed_by_partner d.entries))) s
      by true i = then_settled s (shut_off s (not_sent link e i) h) (shut_known s refl refl)
      by false i =
          then_sent name link _ _ _ s
          (heard_may _ s.end s)
          (then_settled _ (shut_has _ refl i) (shut_known _ (heard_size _ s.end s) (heard_closes _ s.end s)))

    heard_box : (out : Bool) (c : ℕ) (o : Option ℕ) → KeepBox out (heard c o) s
    heard_box out c None = tt
    heard_box out c (Some n) = by (n == c) where
      by : (u : Bool) → KeepBox out (if u then senders.Hear (words.Cls c) ∷ [] else []) s
      by true = (tt, tt)
      by false = tt

    then_box : (t : Sender) → HasSender name link (filter stays (changed_first (is_at own foreign) closed_by_partner d.entries)) t → AreKnown name (filter stays (changed_first (is_at own foreign) closed_by_partner d.entries)) t
        → KeepBox (is_busy busy link) (closes name busy (changed_first (is_at own foreign) closed_by_partner d.entries)) t
    then_box t g j =
        subst (λ (ms : List senders.Move). KeepBox (is_busy busy link) ms t) (sym (closes_swept name busy (changed_first (is_at own foreign) closed_by_partner d.entries)))
        (settled_box name busy link _ t g j shut_apart)

    -- none is outstanding where it closes
    first_box : KeepBox (is_busy busy link) ((if is_receiving e then [] else heard (named name e) s.end) ++ closes name busy (changed_at own foreign closed_by_partner d.entries)) s
    first_box = by (is_receiving e) refl where
      by : (v : Bool) → is_receiving e ≡ v → KeepBox (is_busy busy link) ((if v then [] else heard (named name e) s.end) ++ closes name busy (changed_at own foreign closed_by_partner d.entries)) s
      by true i = then_box s (shut_off s (not_sent link e i) h) (shut_known s refl refl)
      by false i =
          keep_both _ _ _ s (heard_box _ _ s.end)
          (then_box _ (shut_has _ refl i) (shut_known _ (heard_size _ s.end s) (heard_closes _ s.end s)))

  pub cls_box : (peer : Host) (busy : List ℕ) (own foreign : ℕ) (d : DeskState) (s : Sender) → HasSender name link d.entries s → AreKnown name d.entries s → AreApart (numbers name d.entries) → (o : Option Entry) → entry_at own foreign d.entries ≡ o
      → KeepBox (is_busy busy link) (cls_sent name busy own foreign d.entries s o) s
  cls_box peer busy own foreign d s h k a None found = tt
  cls_box peer busy own foreign d s h k a (Some e) found = by e.partner_closed refl where
    by : (v : Bool) → e.partner_closed ≡ v → KeepBox (is_busy busy link) (cls_sent name busy own foreign d.entries s (Some e)) s
    by true t = rw t tt
    by false t = rw t (first_box peer busy own foreign d s h k a e found t)

  pub cls_hears : (peer : Host) (busy : List ℕ) (own foreign : ℕ) (d : DeskState) (s : Sender) → HasSender name link d.entries s → AreKnown name d.entries s → AreApart (numbers name d.entries) → (o : Option Entry) → entry_at own foreign d.entries ≡ o
      → Sent name link (cls_sent name busy own foreign d.entries s o) (cls_taken_by peer busy own foreign o d).entries s
  cls_hears peer busy own foreign d s h k a None found = record { may = tt; has = h; known = k }
  cls_hears peer busy own foreign d s h k a (Some e) found = by e.partner_closed refl where
    by : (v : Bool) → e.partner_closed ≡ v → Sent name link (cls_sent name busy own foreign d.entries s (Some e)) (cls_taken_by peer busy own foreign (Some e) d).entries s
    by true t = rw t (record { may = tt; has = h; known = k })
    by false t = rw t (cls_first peer busy own foreign d s h k a e found t)
