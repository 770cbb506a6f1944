-- What the sender of a link does by a command of its peer.
use Rattle.host_keeps_streams.proofs.Common.{◌≡◌, ℕ, Bool, true, false, not, ◌&&◌, ◌==◌, List, [], ◌∷◌, ◌++◌, filter, Option, Some, None, is_some, refl, ap, sym, subst, ◌∙◌, inl, inr, eqb-true, list_any, Host, is_receive_socket, for, Sender, for_here, asked_on_link, rts_heard, rts_taken, rts_taken_by, DeskState, listener_on, changed_first, entry_at, has_cls, is_at, is_link, is_receiving, refused_end, sending_end, sends_on, Entry, Listener, all_sent, MayAllSend, sent_open, NoneOpen, AreSender, HasSender, IsFormed, AreFormed, hears_rts, rts_sent, named, numbers, is_among, AreApart, IsKnown, AreKnown, IsNewSent}
use Rattle.stream_law.specs.Words as words
use Rattle.stream_law.specs.Senders as senders
use Rattle.stream_law.proofs.lemmas.{some_is}
use Rattle.host_keeps_streams.proofs.Formed.{formed_found}
use Rattle.host_keeps_streams.proofs.Known.{Elsewhere, Sent, close_apart, closed_elsewhere, known_append, known_changed, known_found, known_other, known_same, then_sent}
use Rattle.host_keeps_streams.proofs.Lists.{append_off, append_on, away, joins, none_any}
use Rattle.host_keeps_streams.proofs.Names.{among_filter}
use Rattle.host_keeps_streams.proofs.Opening as opening
use Rattle.host_keeps_streams.proofs.Opening.{told_keeps}
use Rattle.host_keeps_streams.proofs.ReceiverHears.{own_name, own_parity}
use Rattle.interface.proofs.lemmas.{and_none}

-- ---- an RTS begins an end, where the law has none

begun_none : (c : ℕ) (o : Option ℕ) (s : Sender) → NoneOpen s → NoneOpen (senders.begins c o s)
begun_none c None s n = λ k f o. absurd (cc)
begun_none c (Some other) s n = n

begun_size : (c : ℕ) (o : Option ℕ) (s : Sender) → (senders.begins c o s).size ≡ s.size
begun_size c None s = refl
begun_size c (Some other) s = refl

begun_closed : (c : ℕ) (o : Option ℕ) (s : Sender) → (senders.begins c o s).closed ≡ s.closed
begun_closed c None s = refl
begun_closed c (Some other) s = refl

pub opened_size : (c : ℕ) (v : Bool) (s : Sender) → (all_sent (sent_open v c) s).size ≡ s.size
opened_size c true s = refl
opened_size c false s = refl

pub opened_closed : (c : ℕ) (v : Bool) (s : Sender) → (all_sent (sent_open v c) s).closed ≡ s.closed
opened_closed c true s = refl
opened_closed c false s = refl

pub ask_elsewhere : (c z : ℕ) (s : Sender) → Elsewhere c s (senders.moved (senders.Ask c z) s)
ask_elsewhere c z s k e = (rw e refl, refl)

module _ (name : ℕ → ℕ → ℕ) (link : ℕ) where
  module _ (peer : Host) (stamp own foreign l : ℕ) (d : DeskState) (s : Sender) (odd : is_receive_socket own ≡ false) (h : HasSender name link d.entries s) (k : AreKnown name d.entries s) (a : AreApart (numbers name d.entries))
      (formed : AreFormed d.entries) (unused : list_any (sends_on l) d.entries ≡ false) where
    free_list : (l == link) ≡ true → filter (sends_on link) d.entries ≡ []
    free_list e = none_any _ d.entries (ap (λ (n : ℕ). list_any (sends_on n) d.entries) (sym (eqb-true l link e)) ∙ unused)

    -- ---- nobody waits for it

    refuses : (t : Sender) → HasSender name link d.entries t → AreKnown name d.entries t → is_among (name own foreign) (numbers name d.entries) ≡ false → t.size (name own foreign) ≡ None → t.closed (name own foreign) ≡ false
        → Sent name link (senders.Close (name own foreign) ∷ []) (d.entries ++ refused_end own foreign stamp ∷ []) t
    refuses t g j free untold unclosed = record {
      may = (unclosed, tt);
      has = subst (λ (xs : List Entry). AreSender name xs (senders.moved (senders.Close (name own foreign)) t)) (sym (append_off _ _ d.entries (and_none _)))
          (close_apart name _ _ t (among_filter name _ _ d.entries free) g);
      known = known_append name d.entries _ _
          (known_other name _ d.entries t _ free (closed_elsewhere _ t) j)
          (λ i. record { size = untold; closed = for_here _ true t.closed });
    }

    refused_by : IsNewSent (name own foreign) (numbers name d.entries) s → (v : Bool) → (l == link) ≡ v
        → Sent name link (hears_rts v (name own foreign) ++ senders.Close (name own foreign) ∷ []) (d.entries ++ refused_end own foreign stamp ∷ []) s
    refused_by new true e =
        let none : NoneOpen s = subst (λ (xs : List Entry). AreSender name xs s) (free_list e) h in
        let has : HasSender name link d.entries (senders.begins (name own foreign) s.end s)
        = subst (λ (xs : List Entry). AreSender name xs (senders.begins (name own foreign) s.end s)) (sym (free_list e)) (begun_none _ s.end s none) in
        then_sent name link (senders.Hear (words.Rts (name own foreign)) ∷ []) (senders.Close (name own foreign) ∷ []) (d.entries ++ refused_end own foreign stamp ∷ []) s (tt, tt)
        (refuses _ has
        (known_same name d.entries s _ (begun_size _ s.end s) (begun_closed _ s.end s) k)
        new.free (ap (λ (f : ℕ → Option ℕ). f (name own foreign)) (begun_size _ s.end s) ∙ new.untold) (ap (λ (f : ℕ → Bool). f (name own foreign)) (begun_closed _ s.end s) ∙ new.unclosed))
    refused_by new false e = refuses s h k new.free new.untold new.unclosed

    -- ---- a socket that listens answers

    answer_known : (z : ℕ) → IsNewSent (name own foreign) (numbers name d.entries) s → AreKnown name (d.entries ++ asked_on_link stamp l (sending_end own foreign z) ∷ []) (senders.moved (senders.Ask (name own foreign) z) s)
    answer_known z new =
        known_append name d.entries _ _
        (known_other name _ d.entries s _ new.free (ask_elsewhere _ z s) k)
        (λ i. record { size = for_here _ (Some z) s.size; closed = new.unclosed })

    answers_here : (z : ℕ) → IsNewSent (name own foreign) (numbers name d.entries) s → (l == link) ≡ true → s.end ≡ None
        → Sent name link (senders.Ask (name own foreign) z ∷ senders.Hear (words.Rts (name own foreign)) ∷ []) (d.entries ++ asked_on_link stamp l (sending_end own foreign z) ∷ []) s
    answers_here z new e none =
        let on : sends_on link (asked_on_link stamp l (sending_end own foreign z)) ≡ true = (rw (odd, e) refl) in
        let one : AreSender name (asked_on_link stamp l (sending_end own foreign z) ∷ []) (senders.begins (name own foreign) None (senders.moved (senders.Ask (name own foreign) z) s))
        = inl (record { end = refl; opened = refl; shut = refl; closed = new.unclosed; size = for_here _ (Some z) s.size; allocation = refl; live = refl }) in
        record {
          may = (new.untold, (tt, tt));
          has = subst (λ (o : Option ℕ). HasSender name link (d.entries ++ asked_on_link stamp l (sending_end own foreign z) ∷ []) (senders.begins (name own foreign) o (senders.moved (senders.Ask (name own foreign) z) s))) (sym none)
              (subst (λ (xs : List Entry). AreSender name xs (senders.begins (name own foreign) None (senders.moved (senders.Ask (name own foreign) z) s))) (sym (append_on _ _ d.entries on (free_list e))) one);
          known = known_same name _ _ _
              (begun_size _ s.end _) (begun_closed _ s.end _) (answer_known z new);
        }

    answers_away : (z : ℕ) → IsNewSent (name own foreign) (numbers name d.entries) s → (l == link) ≡ false → Sent name link (senders.Ask (name own foreign) z ∷ []) (d.entries ++ asked_on_link stamp l (sending_end own foreign z) ∷ []) s
    answers_away z new e =
        let off : sends_on link (asked_on_link stamp l (sending_end own foreign z)) ≡ false = (rw e (and_none _)) in
        record {
          may = (new.untold, tt);
          has = subst (λ (xs : List Entry). AreSender name xs (senders.moved (senders.Ask (name own foreign) z) s)) (sym (append_off _ _ d.entries off))
              (told_keeps name link (name own foreign) z s new.unheard _ h);
          known = answer_known z new;
        }

    answered_by : (z : ℕ) → IsNewSent (name own foreign) (numbers name d.entries) s → (v : Bool) → (l == link) ≡ v → (v ≡ true → s.end ≡ None)
        → Sent name link (senders.Ask (name own foreign) z ∷ hears_rts v (name own foreign)) (d.entries ++ asked_on_link stamp l (sending_end own foreign z) ∷ []) s
    answered_by z new true e none = answers_here z new e (none refl)
    answered_by z new false e none = answers_away z new e

    listened_by : IsNewSent (name own foreign) (numbers name d.entries) s → (v : Bool) → (l == link) ≡ v → (v ≡ true → s.end ≡ None) → (o : Option Listener)
        → Sent name link (rts_sent v (name own foreign) o None) (rts_heard own foreign l stamp o d).entries s
    listened_by new v e none None = refused_by new v e
    listened_by new v e none (Some x) = answered_by x.size new v e none

    -- ---- an end waits for it

    known_still : (e : Entry) → entry_at own foreign d.entries ≡ Some e → AreKnown name (changed_first (is_at own foreign) (asked_on_link stamp l) d.entries) s
    known_still e found =
        let one : IsKnown (named name e) e s = known_found name _ e d.entries s (own_parity name link own foreign e d.entries found ∙ odd) k found in
        known_changed name _ _ e d.entries s s (λ n out. (refl, refl)) (record { own = λ x. refl; foreign = λ x. refl }) (λ i. record { size = one.size; closed = one.closed }) a k found

    found_away : (e : Entry) → entry_at own foreign d.entries ≡ Some e → is_some e.partner ≡ false → (l == link) ≡ false → Sent name link [] (changed_first (is_at own foreign) (asked_on_link stamp l) d.entries) s
    found_away e found first other =
        let none : e.link ≡ None = (formed_found _ e d.entries formed found).unlinked (own_parity name link own foreign e d.entries found ∙ odd) first in
        let off : sends_on link e ≡ false = ap (λ (o : Option ℕ). not (is_receiving e) && is_link link o) none ∙ and_none _ in
        let after : sends_on link (asked_on_link stamp l e) ≡ false = (rw other (and_none _)) in
        record {
          may = tt;
          has = subst (λ (xs : List Entry). AreSender name xs s) (sym (away _ _ _ e d.entries off after found)) h;
          known = known_still e found;
        }

    found_open : (e : Entry) → entry_at own foreign d.entries ≡ Some e → is_some e.partner ≡ false → (l == link) ≡ true → s.end ≡ None → e.partner_closed ≡ false
        → MayAllSend (senders.Hear (words.Rts (named name e)) ∷ sent_open (is_some e.asked) (named name e)) s
        × HasSender name link (changed_first (is_at own foreign) (asked_on_link stamp l) d.entries) (all_sent (senders.Hear (words.Rts (named name e)) ∷ sent_open (is_some e.asked) (named name e)) s)
    found_open e found first here none live =
        let f : IsFormed e = formed_found _ e d.entries formed found in
        let i : is_receiving e ≡ false = own_parity name link own foreign e d.entries found ∙ odd in
        let one : IsKnown (named name e) e s = known_found name _ e d.entries s i k found in
        let free : list_any (sends_on link) d.entries ≡ false = ap (λ (n : ℕ). list_any (sends_on n) d.entries) (sym (eqb-true l link here)) ∙ unused in
        let done : MayAllSend (senders.Hear (words.Rts (named name e)) ∷ sent_open (is_some e.asked) (named name e)) s
        × HasSender name link (rts_taken peer own foreign link stamp d).entries (all_sent (senders.Hear (words.Rts (named name e)) ∷ sent_open (is_some e.asked) (named name e)) s)
        = opening.rts_heard name link peer [] stamp own foreign d e s found i free none one.size one.closed (f.sized i first) (f.ungranted i first) live first in
        let linked : HasSender name link (changed_first (is_at own foreign) (asked_on_link stamp link) d.entries) (all_sent (senders.Hear (words.Rts (named name e)) ∷ sent_open (is_some e.asked) (named name e)) s)
        = rw (free, found, first) at done.1 in
        (done.0, subst (λ (n : ℕ). HasSender name link (changed_first (is_at own foreign) (asked_on_link stamp n) d.entries) (all_sent (senders.Hear (words.Rts (named name e)) ∷ sent_open (is_some e.asked) (named name e)) s)) (sym (eqb-true l link here)) linked)

    -- one that has closed both ways, and whose CLS waits to go out
    leaving_may : (e : Entry) (v : Bool) → IsKnown (named name e) e s → is_some e.size ≡ true → MayAllSend (sent_open v (named name e)) (senders.begins (named name e) None s)
    leaving_may e true one size = ((refl, ap is_some one.size ∙ size), tt)
    leaving_may e false one size = tt

    leaving_none : (e : Entry) (v : Bool) → IsKnown (named name e) e s → has_cls e.closing ≡ true → NoneOpen (all_sent (sent_open v (named name e)) (senders.begins (named name e) None s))
    leaving_none e true one closed = λ n f o. (let same : named name e ≡ n = some_is (named name e) n f in subst (λ (m : ℕ). s.closed m ≡ true) same (one.closed ∙ closed))
    leaving_none e false one closed = λ n f o. absurd (cc)

    found_leaving : (e : Entry) → entry_at own foreign d.entries ≡ Some e → is_some e.partner ≡ false → (l == link) ≡ true → s.end ≡ None → e.partner_closed ≡ true
        → MayAllSend (senders.Hear (words.Rts (named name e)) ∷ sent_open (is_some e.asked) (named name e)) s
        × HasSender name link (changed_first (is_at own foreign) (asked_on_link stamp l) d.entries) (all_sent (senders.Hear (words.Rts (named name e)) ∷ sent_open (is_some e.asked) (named name e)) s)
    found_leaving e found first here none over =
        let f : IsFormed e = formed_found _ e d.entries formed found in
        let i : is_receiving e ≡ false = own_parity name link own foreign e d.entries found ∙ odd in
        let one : IsKnown (named name e) e s = known_found name _ e d.entries s i k found in
        let closed : has_cls e.closing ≡ true = f.shut i (f.unlinked i first) over in
        let on : sends_on link (asked_on_link stamp l e) ≡ true = (rw (i, here) refl) in
        let list : filter (sends_on link) (changed_first (is_at own foreign) (asked_on_link stamp l) d.entries) ≡ asked_on_link stamp l e ∷ []
        = joins _ _ _ e d.entries on found (free_list here) in
        let has : AreSender name (asked_on_link stamp l e ∷ []) (all_sent (sent_open (is_some e.asked) (named name e)) (senders.begins (named name e) None s))
        = inr (record { closed = closed; shut = over; live = f.live; none = leaving_none e _ one closed }) in (
          (tt, subst (λ (o : Option ℕ). MayAllSend (sent_open (is_some e.asked) (named name e)) (senders.begins (named name e) o s)) (sym none) (leaving_may e _ one (f.sized i first))),
          subst (λ (o : Option ℕ). HasSender name link (changed_first (is_at own foreign) (asked_on_link stamp l) d.entries) (all_sent (sent_open (is_some e.asked) (named name e)) (senders.begins (named name e) o s))) (sym none)
              (subst (λ (xs : List Entry). AreSender name xs (all_sent (sent_open (is_some e.asked) (named name e)) (senders.begins (named name e) None s))) (sym list) has),
        )

    found_here : (e : Entry) → entry_at own foreign d.entries ≡ Some e → is_some e.partner ≡ false → (l == link) ≡ true → s.end ≡ None
        → Sent name link (senders.Hear (words.Rts (name own foreign)) ∷ sent_open (is_some e.asked) (name own foreign)) (changed_first (is_at own foreign) (asked_on_link stamp l) d.entries) s
    found_here e found first here none =
        let both : MayAllSend (senders.Hear (words.Rts (named name e)) ∷ sent_open (is_some e.asked) (named name e)) s
        × HasSender name link (changed_first (is_at own foreign) (asked_on_link stamp l) d.entries) (all_sent (senders.Hear (words.Rts (named name e)) ∷ sent_open (is_some e.asked) (named name e)) s)
        = by e.partner_closed refl in
        subst (λ (c : ℕ). Sent name link (senders.Hear (words.Rts c) ∷ sent_open (is_some e.asked) c) (changed_first (is_at own foreign) (asked_on_link stamp l) d.entries) s) (own_name name link own foreign e d.entries found) (record {
          may = both.0;
          has = both.1;
          known = known_same name _ s _
              (opened_size _ _ _ ∙ begun_size _ s.end s)
              (opened_closed _ _ _ ∙ begun_closed _ s.end s) (known_still e found);
        }) where
          by : (v : Bool) → e.partner_closed ≡ v
              → MayAllSend (senders.Hear (words.Rts (named name e)) ∷ sent_open (is_some e.asked) (named name e)) s
              × HasSender name link (changed_first (is_at own foreign) (asked_on_link stamp l) d.entries) (all_sent (senders.Hear (words.Rts (named name e)) ∷ sent_open (is_some e.asked) (named name e)) s)
          by true t = found_leaving e found first here none t
          by false t = found_open e found first here none t

    found_by : (e : Entry) → entry_at own foreign d.entries ≡ Some e → (u v : Bool) → is_some e.partner ≡ u → (l == link) ≡ v → (v ≡ true → s.end ≡ None) → (o : Option Listener)
        → Sent name link (rts_sent v (name own foreign) o (Some e)) (rts_taken_by peer own foreign l stamp (Some e) d).entries s
    found_by e found true v p here none o = rw p (record { may = tt; has = h; known = k })
    found_by e found false true p here none o = rw p (found_here e found p here (none refl))
    found_by e found false false p here none o = rw p (found_away e found p here)

    pub rts_by : (o : Option Entry) → entry_at own foreign d.entries ≡ o → (o ≡ None → IsNewSent (name own foreign) (numbers name d.entries) s) → ((l == link) ≡ true → s.end ≡ None)
        → Sent name link (rts_sent (l == link) (name own foreign) (listener_on own d.listening) o) (rts_taken_by peer own foreign l stamp o d).entries s
    rts_by None found new none = listened_by (new refl) (l == link) refl none _
    rts_by (Some e) found new none = found_by e found (is_some e.partner) (l == link) refl refl none (listener_on own d.listening)
