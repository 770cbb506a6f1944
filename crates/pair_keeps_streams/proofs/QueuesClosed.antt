-- Where ends close: by an answer, by a user, or by a CLS of the peer.
use Rattle.pair_keeps_streams.proofs.Common.{◌≡◌, ℕ, ◌==◌, ◌&&◌, not, Bool, true, false, if◌then◌else◌, List, [], ◌∷◌, ◌++◌, map, filter, find, Option, Some, None, refl, ap, sym, subst, ◌∙◌, Host, Command, Word, Receiver, Sender, cls_taken_by, DeskState, settled, called_off, changed_first, closed_by_partner, cls_of, entry_at, is_at, is_due, is_mine_on, is_receiving, must_close, receives_on, Closing, Entry, Listener, all_received, received_close, AreReceiver, closes, closes_on, cls_received, of_end, on_link, named, numbers, AreApart, apart_changed, name_of, own_name, own_receiver, shut_one, stays, plain, received_words, sent_words}
use Rattle.interface.proofs.lemmas.{or_false}
use Rattle.stream_law.specs.Words as words
use Rattle.stream_law.specs.Receivers as receivers
use Rattle.stream_law.specs.Senders as senders
use Rattle.host_pairs.specs.Commands.{cls_taken}
use Rattle.host_pairs.specs.Desk.{swept}
use Rattle.host_pairs.specs.Entries.{close_due, was_closed}
use Rattle.host_pairs.specs.declared.entry.Closing.TheVariants as closing
use Rattle.host_keeps_streams.specs.Ends.{HasReceiver}
use Rattle.host_keeps_streams.specs.Moves.{cls_sent, told_on}
use Rattle.host_keeps_streams.proofs.lemmas.{away, due_cls, not_called, not_received, received_is}
use Rattle.pair_keeps_streams.proofs.Joint.{AreLinked}
use Rattle.pair_keeps_streams.proofs.Queues.{Told, changed_alike, kept_same, silent}
use Rattle.pair_keeps_streams.proofs.QueuesAsked.{wrong_told}
use Rattle.pair_keeps_streams.proofs.QueuesShut.{closed_words, linked_changed, settled_told, swept_told}

-- the receiving end on a link never waits to close
none_must : (name : ℕ → ℕ → ℕ) (busy : List ℕ) (xs : List Entry) (r : Receiver) → AreReceiver name xs r → filter (must_close busy) xs ≡ []
none_must name busy [] r h = refl
none_must name busy (x ∷ []) r h = let due : is_due x.closing ≡ false = h.due in rw due refl
none_must name busy (x ∷ y ∷ ys) r h = absurd h

module _ (number : ℕ → ℕ → ℕ → ℕ) (link : ℕ) (gone : ℕ → ℕ → ℕ) (es : List Entry) (queue : List Command) (r : Receiver) (apart : AreApart (numbers (name_of number gone) es)) (h : HasReceiver (name_of number gone) link es r)
    (linked : AreLinked (name_of number gone) link es r) where
  -- ---- an answer

  told_same : (l : ℕ) (ms : List senders.Move) (s : Sender) → (v : Bool) → sent_words ((if v then senders.Told ∷ [] else []) ++ ms) s ≡ sent_words ms s
  told_same l ms s true = refl
  told_same l ms s false = refl

  pub answered_told : (busy : List ℕ) (l : ℕ) (s : Sender)
      → Told number link gone es queue (map (shut_one busy) es) (queue ++ map cls_of (filter (must_close busy) es)) r.asked [] (sent_words (told_on link l ++ closes (name_of number gone) busy es) s)
  answered_told busy l s =
      subst (λ (ss : List Word). Told number link gone es queue (map (shut_one busy) es) (queue ++ map cls_of (filter (must_close busy) es)) r.asked [] ss) (sym (told_same l (closes (name_of number gone) busy es) s (l == link)))
      (settled_told number link gone busy es es queue r s (λ x y. (refl, refl)) apart linked [] (ap (closed_words number link gone busy) (sym (none_must _ busy _ r h))))

  -- ---- the end on the link, or none, closes where one is changed

  module _ (busy : List ℕ) (test : Entry → Bool) (change : Entry → Entry) (e : Entry) (found : find test es ≡ Some e) (same_own : (change e).own ≡ e.own) (same_foreign : (change e).foreign ≡ e.foreign)
      (on : (x : Entry) → receives_on link (change x) ≡ receives_on link x) where
    closed_one : must_close busy (change e) ≡ true → receives_on link e ≡ true → words.Cls (named (name_of number gone) e) ∷ [] ≡ closed_words number link gone busy (filter (must_close busy) (filter (receives_on link) (changed_first test change es)))
    closed_one m o =
        let one : filter (receives_on link) (changed_first test change es) ≡ change e ∷ [] = (own_receiver _ link test change e es r found o (on e ∙ o) h).1 in
        let kept : filter (must_close busy) (change e ∷ []) ≡ change e ∷ [] = (rw m refl) in
        let same : named (name_of number gone) (change e) ≡ named (name_of number gone) e = ap (λ (n : ℕ). name_of number gone n (change e).foreign) same_own ∙ ap (λ (n : ℕ). name_of number gone e.own n) same_foreign in
        ap (λ (n : ℕ). words.Cls n ∷ []) (sym same) ∙ ap (closed_words number link gone busy) (sym (ap (filter (must_close busy)) one ∙ kept))

    closed_not : must_close busy (change e) ≡ false → receives_on link e ≡ true → [] ≡ closed_words number link gone busy (filter (must_close busy) (filter (receives_on link) (changed_first test change es)))
    closed_not m o =
        let one : filter (receives_on link) (changed_first test change es) ≡ change e ∷ [] = (own_receiver _ link test change e es r found o (on e ∙ o) h).1 in
        let kept : filter (must_close busy) (change e ∷ []) ≡ [] = (rw m refl) in
        ap (closed_words number link gone busy) (sym (ap (filter (must_close busy)) one ∙ kept))

    closed_off : receives_on link e ≡ false → [] ≡ closed_words number link gone busy (filter (must_close busy) (filter (receives_on link) (changed_first test change es)))
    closed_off o =
        let same : filter (receives_on link) (changed_first test change es) ≡ filter (receives_on link) es = away test (receives_on link) change e es o (on e ∙ o) found in
        ap (closed_words number link gone busy) (sym (ap (filter (must_close busy)) same ∙ none_must _ busy _ r h))

  -- ---- a user closes

  module _ (busy : List ℕ) (socket : ℕ) (e : Entry) (found : find (is_mine_on socket) es ≡ Some e) (fresh : was_closed e ≡ false) (s : Sender) where
    due_now : is_due (close_due e.closing) ≡ true
    due_now = ap (λ (v : Closing). is_due (close_due v)) (not_called _ (or_false _ _ fresh).0)

    must_now : is_receiving e ≡ true → must_close busy (called_off e) ≡ true
    must_now i = let d : is_due (close_due e.closing) ≡ true = due_now in rw (d, i) refl

    abbrev ClosesTold : List receivers.Move → Type 0
    ClosesTold ms =
        Told number link gone es queue (map (shut_one busy) (changed_first (is_mine_on socket) called_off es)) (queue ++ map cls_of (filter (must_close busy) (changed_first (is_mine_on socket) called_off es))) (all_received ms r).asked (received_words ms)
        (sent_words (closes (name_of number gone) busy (changed_first (is_mine_on socket) called_off es)) s)

    user_settled : (rs : List Word) → map plain rs ≡ closed_words number link gone busy (filter (must_close busy) (filter (receives_on link) (changed_first (is_mine_on socket) called_off es)))
        → Told number link gone es queue (map (shut_one busy) (changed_first (is_mine_on socket) called_off es)) (queue ++ map cls_of (filter (must_close busy) (changed_first (is_mine_on socket) called_off es))) r.asked rs
        (sent_words (closes (name_of number gone) busy (changed_first (is_mine_on socket) called_off es)) s)
    user_settled rs heard =
        settled_told number link gone busy es (changed_first (is_mine_on socket) called_off es) queue r s
        (changed_alike _ called_off (record { own = λ x. refl; foreign = λ x. refl }) es (λ x f. sym (due_cls _)))
        (apart_changed (name_of number gone) _ called_off es (λ x. refl) apart)
        (linked_changed (name_of number gone) link r called_off (record { own = λ x. refl; foreign = λ x. refl; link = λ x. refl }) _ es linked) rs heard

    closes_by : (v : Bool) → receives_on link e ≡ v → ClosesTold (if v then receivers.Close (named (name_of number gone) e) ∷ [] else [])
    closes_by true o = user_settled _ (closed_one busy (is_mine_on socket) called_off e found refl refl (λ x. refl) (must_now (received_is link e o)) o)
    closes_by false o = user_settled [] (closed_off busy (is_mine_on socket) called_off e found refl refl (λ x. refl) o)

    pub closes_told : ClosesTold (on_link link e (receivers.Close (named (name_of number gone) e) ∷ []))
    closes_told = closes_by _ refl

  -- ---- a CLS of the peer

  module _ (peer : Host) (busy : List ℕ) (own foreign : ℕ) (listening : List Listener) (s : Sender) where
    abbrev desk : DeskState
    desk = record { entries = es; queue = queue; listening = listening; notices = [] }

    abbrev ClsTold : DeskState → List receivers.Move → List senders.Move → Type 0
    ClsTold d ms ns = Told number link gone es queue d.entries d.queue (all_received ms r).asked (received_words ms) (sent_words ns s)

    module _ (e : Entry) (found : entry_at own foreign es ≡ Some e) where
      peer_settled : (rs : List Word) → map plain rs ≡ closed_words number link gone busy (filter (must_close busy) (filter (receives_on link) (changed_first (is_at own foreign) closed_by_partner es)))
          → Told number link gone es queue (filter stays (map (shut_one busy) (changed_first (is_at own foreign) closed_by_partner es))) (queue ++ map cls_of (filter (must_close busy) (changed_first (is_at own foreign) closed_by_partner es))) r.asked rs
          (sent_words (closes (name_of number gone) busy (changed_first (is_at own foreign) closed_by_partner es)) s)
      peer_settled rs heard =
          swept_told number link gone busy es (changed_first (is_at own foreign) closed_by_partner es) queue r s
          (changed_alike _ closed_by_partner (record { own = λ x. refl; foreign = λ x. refl }) es (λ x f. sym (due_cls _)))
          (apart_changed (name_of number gone) _ closed_by_partner es (λ x. refl) apart)
          (linked_changed (name_of number gone) link r closed_by_partner (record { own = λ x. refl; foreign = λ x. refl; link = λ x. refl }) _ es linked) rs heard

      must_heard : is_receiving e ≡ true → (v : Closing) → e.closing ≡ v → must_close busy (closed_by_partner e) ≡ is_due (close_due v)
      must_heard i v same = rw (i, same) (and_true _) where
        and_true : (b : Bool) → (b && true) ≡ b
        and_true true = refl
        and_true false = refl

      abbrev FirstTold : List receivers.Move → Type 0
      FirstTold ms =
          Told number link gone es queue (filter stays (map (shut_one busy) (changed_first (is_at own foreign) closed_by_partner es))) (queue ++ map cls_of (filter (must_close busy) (changed_first (is_at own foreign) closed_by_partner es)))
          (all_received ms r).asked (received_words ms) (sent_words (closes (name_of number gone) busy (changed_first (is_at own foreign) closed_by_partner es)) s)

      same_number : named (name_of number gone) e ≡ name_of number gone own foreign
      same_number = own_name (name_of number gone) link own foreign e es found

      first_on : receives_on link e ≡ true → (v : Closing) → e.closing ≡ v → (c : ℕ) → named (name_of number gone) e ≡ c → FirstTold (receivers.Hear (words.Cls c) ∷ received_close v c)
      first_on o closing.Queued same c n = peer_settled [] (closed_not busy (is_at own foreign) closed_by_partner e found refl refl (λ x. refl) (must_heard (received_is link e o) _ same) o)
      first_on o closing.Sent same c n = peer_settled [] (closed_not busy (is_at own foreign) closed_by_partner e found refl refl (λ x. refl) (must_heard (received_is link e o) _ same) o)
      first_on o v same c n =
          peer_settled _ (ap (λ (k : ℕ). words.Cls k ∷ []) (sym n) ∙ closed_one busy (is_at own foreign) closed_by_partner e found refl refl (λ x. refl) (must_heard (received_is link e o) v same) o)

      first_by : (c : ℕ) → named (name_of number gone) e ≡ c → (v : Bool) → receives_on link e ≡ v → FirstTold (receivers.Hear (words.Cls c) ∷ (if v then received_close e.closing c else []))
      first_by c n true o = first_on o _ refl c n
      first_by c n false o = peer_settled [] (closed_off busy (is_at own foreign) closed_by_partner e found refl refl (λ x. refl) o)

      heard_same : (ms : List senders.Move) → (o : Option ℕ) → (c : ℕ) → ((t : Sender) → sent_words ms t ≡ sent_words ms s) → sent_words (of_end c o (senders.Hear (words.Cls c) ∷ []) ++ ms) s ≡ sent_words ms s
      heard_same ms None c same = refl
      heard_same ms (Some k) c same = by (k == c) where
        by : (v : Bool) → sent_words ((if v then senders.Hear (words.Cls c) ∷ [] else []) ++ ms) s ≡ sent_words ms s
        by true = same (senders.moved (senders.Hear (words.Cls c)) s)
        by false = refl

      closes_same : (xs : List Entry) (t u : Sender) → sent_words (closes (name_of number gone) busy xs) t ≡ sent_words (closes (name_of number gone) busy xs) u
      closes_same [] t u = refl
      closes_same (x ∷ xs) t u = by (must_close busy x && not (is_receiving x)) (λ v w. closes_same xs v w) where
        by : (v : Bool) → ((v w : Sender) → sent_words (closes (name_of number gone) busy xs) v ≡ sent_words (closes (name_of number gone) busy xs) w)
            → sent_words (if v then senders.Close (named (name_of number gone) x) ∷ closes (name_of number gone) busy xs else closes (name_of number gone) busy xs) t
            ≡ sent_words (if v then senders.Close (named (name_of number gone) x) ∷ closes (name_of number gone) busy xs else closes (name_of number gone) busy xs) u
        by true rest = ap (λ (w : List Word). words.Cls (named (name_of number gone) x) ∷ w) (rest (senders.moved (senders.Close (named (name_of number gone) x)) t) (senders.moved (senders.Close (named (name_of number gone) x)) u))
        by false rest = rest t u

      abbrev After : DeskState
      After = swept peer (settled busy (record desk { entries = changed_first (is_at own foreign) closed_by_partner es }))

      with_words : (ms : List receivers.Move) (ns : List senders.Move) → sent_words ns s ≡ sent_words (closes (name_of number gone) busy (changed_first (is_at own foreign) closed_by_partner es)) s → FirstTold ms → ClsTold After ms ns
      with_words ms ns same t = subst (λ (ss : List Word). Told number link gone es queue After.entries After.queue (all_received ms r).asked (received_words ms) ss) (sym same) t

      first_told : (v : Bool) → is_receiving e ≡ v
          → ClsTold After (if v && true then receivers.Hear (words.Cls (name_of number gone own foreign)) ∷ closes_on link (name_of number gone own foreign) e else [])
          ((if v then [] else of_end (named (name_of number gone) e) s.end (senders.Hear (words.Cls (named (name_of number gone) e)) ∷ [])) ++ closes (name_of number gone) busy (changed_first (is_at own foreign) closed_by_partner es))
      first_told true i = with_words (receivers.Hear (words.Cls (name_of number gone own foreign)) ∷ closes_on link (name_of number gone own foreign) e) (closes (name_of number gone) busy (changed_first (is_at own foreign) closed_by_partner es)) refl (first_by _ same_number _ refl)
      first_told false i =
          with_words [] (of_end (named (name_of number gone) e) s.end (senders.Hear (words.Cls (named (name_of number gone) e)) ∷ []) ++ closes (name_of number gone) busy (changed_first (is_at own foreign) closed_by_partner es))
          (heard_same (closes (name_of number gone) busy (changed_first (is_at own foreign) closed_by_partner es)) s.end (named (name_of number gone) e) (λ t. closes_same (changed_first (is_at own foreign) closed_by_partner es) t s))
          (peer_settled [] (closed_off busy (is_at own foreign) closed_by_partner e found refl refl (λ x. refl) (not_received link e i)))

      once_told : (v : Bool) → e.partner_closed ≡ v
          → ClsTold (if v then desk else After) (if is_receiving e && not v then receivers.Hear (words.Cls (name_of number gone own foreign)) ∷ closes_on link (name_of number gone own foreign) e else [])
          (if v then [] else (if is_receiving e then [] else of_end (named (name_of number gone) e) s.end (senders.Hear (words.Cls (named (name_of number gone) e)) ∷ [])) ++ closes (name_of number gone) busy (changed_first (is_at own foreign) closed_by_partner es))
      once_told true p = second _ where
        second : (v : Bool) → ClsTold desk (if v && false then receivers.Hear (words.Cls (name_of number gone own foreign)) ∷ closes_on link (name_of number gone own foreign) e else []) []
        second true = silent number link gone es queue es r.asked (kept_same es) [] [] refl refl
        second false = silent number link gone es queue es r.asked (kept_same es) [] [] refl refl
      once_told false p = first_told _ refl

    cls_by : (o : Option Entry) → entry_at own foreign es ≡ o → ClsTold (cls_taken_by peer busy own foreign o desk) (cls_received link (name_of number gone own foreign) o) (cls_sent (name_of number gone) busy own foreign es s o)
    cls_by None f = wrong_told number link gone r.asked es queue _ _ [] [] refl refl
    cls_by (Some e) f = once_told e f _ refl

    pub cls_told : ClsTold (cls_taken peer busy own foreign desk) (cls_received link (name_of number gone own foreign) (entry_at own foreign es)) (cls_sent (name_of number gone) busy own foreign es s (entry_at own foreign es))
    cls_told = cls_by _ refl
