-- What the receiver of a link does by a command of its peer.
use Rattle.host_keeps_streams.proofs.Common.{◌≡◌, ℕ, Bool, true, false, not, if◌then◌else◌, ◌&&◌, ◌==◌, List, [], ◌∷◌, ◌++◌, filter, Option, Some, None, is_some, refl, ap, sym, subst, ◌∙◌, eqb-true, ne_eqb, or_parts, list_any, Host, IsCommand, is_receive_socket, Command, for, Receiver, for_here, asked_with_size, asked_on_link, cls_taken_by, rts_taken_by, rts_taken, str_heard, str_linked, str_taken, str_taken_by, rts_heard, desk_taken, DeskState, listener_on, changed_first, connection_links, entry_at, free_link, is_at, is_link, is_receiving, receiving_end, receives_on, refused_end, sending_end, sends_on, Entry, Listener, all_received, MayAllReceive, received_close, received_open, AreReceiver, HasReceiver, answers_str, closes_on, cls_received, received_by, str_received, named, numbers, is_among, AreApart, IsNewReceived, NewReceived, both, not_is, LeavesReceiver}
use Rattle.std.proofs.Common.{◌%◌, eq-eqb}
use Rattle.ncp_control.specs.Numbers.{is_send_socket}
use Rattle.ncp_control.specs.declared.command.Command.TheVariants as command
use Rattle.stream_law.specs.Words as words
use Rattle.stream_law.specs.Receivers as receivers
use Rattle.host_keeps_streams.proofs.Lists.{append_off, append_on, away, find_passes, none_any, not_received}
use Rattle.host_pairs.proofs.lemmas.{some_is}
use Rattle.host_keeps_streams.proofs.Quiet.{receiver_leaves}
use Rattle.host_keeps_streams.proofs.Receivers.{ret_receives}
use Rattle.host_keeps_streams.proofs.Opening.{number_passes}
use Rattle.host_keeps_streams.proofs.Names.{among_filter, others}
use Rattle.host_keeps_streams.proofs.Ending.{cls_receives, cls_elsewhere}
use Rattle.host_keeps_streams.proofs.Opening as opening
use Rattle.interface.proofs.lemmas.{and_none}

-- what a law's receiver has to do, and what it has afterwards
abbrev pub Received : (ℕ → ℕ → ℕ) → ℕ → List receivers.Move → List Entry → Receiver → Type 0
Received name link moves es r = MayAllReceive moves r × HasReceiver name link es (all_received moves r)

-- an odd socket isn't even
pub odd_is : (n : ℕ) → is_send_socket n ≡ true → is_receive_socket n ≡ false
odd_is n e = ne_eqb (n % 2) 0 (λ same. (let one : n % 2 ≡ 1 = eqb-true (n % 2) 1 e in absurd (cc)))

module _ (name : ℕ → ℕ → ℕ) where
  -- what is heard of a connection that isn't on the link is no matter of its end
  told_apart : (c z : ℕ) (xs : List Entry) (r : Receiver) → is_among c (numbers name xs) ≡ false → AreReceiver name xs r → AreReceiver name xs (receivers.hears (words.Str c z) r)
  told_apart c z [] r n h = h
  told_apart c z (x ∷ []) r n h =
      let other : (named name x == c) ≡ false = (or_parts (named name x == c) false n).0 in
      record { end = h.end; opened = h.opened; closed = h.closed; over = h.over; size = (rw other h.size); allocation = h.allocation; due = h.due; live = h.live }
  told_apart c z (x ∷ y ∷ ys) r n h = h

  over_apart : (c : ℕ) (xs : List Entry) (r : Receiver) → is_among c (numbers name xs) ≡ false → AreReceiver name xs r → AreReceiver name xs (receivers.hears (words.Cls c) r)
  over_apart c [] r n h = h
  over_apart c (x ∷ []) r n h =
      let other : (named name x == c) ≡ false = (or_parts (named name x == c) false n).0 in
      record { end = h.end; opened = h.opened; closed = h.closed; over = (rw other h.over); size = h.size; allocation = h.allocation; due = h.due; live = h.live }
  over_apart c (x ∷ y ∷ ys) r n h = h

module _ (name : ℕ → ℕ → ℕ) (link : ℕ) where
  -- an end that is found is that of these sockets
  pub own_name : (own foreign : ℕ) (e : Entry) (es : List Entry) → entry_at own foreign es ≡ Some e → named name e ≡ name own foreign
  own_name own foreign e es found =
      let t : ((e.own == own) ≡ true) × ((e.foreign == foreign) ≡ true) = both (e.own == own) (e.foreign == foreign) (find_passes _ e es found) in
      ap (λ (n : ℕ). name n e.foreign) (eqb-true e.own own t.0) ∙ ap (λ (n : ℕ). name own n) (eqb-true e.foreign foreign t.1)

  pub own_parity : (own foreign : ℕ) (e : Entry) (es : List Entry) → entry_at own foreign es ≡ Some e → is_receiving e ≡ is_receive_socket own
  own_parity own foreign e es found =
      let t : ((e.own == own) ≡ true) × ((e.foreign == foreign) ≡ true) = both (e.own == own) (e.foreign == foreign) (find_passes _ e es found) in
      ap is_receive_socket (eqb-true e.own own t.0)

  -- ---- an STR

  module _ (peer : Host) (stamp own foreign z : ℕ) (d : DeskState) (r : Receiver) (even : is_receive_socket own ≡ true) (h : HasReceiver name link d.entries r) (a : AreApart (numbers name d.entries)) where
    -- whatever comes isn't on this link
    refused_here : is_among (name own foreign) (numbers name d.entries) ≡ false → (e : Entry) → receives_on link e ≡ false → Received name link (receivers.Hear (words.Str (name own foreign) z) ∷ []) (d.entries ++ e ∷ []) r
    refused_here free e off = (
      (tt, tt),
      subst (λ (xs : List Entry). AreReceiver name xs (receivers.hears (words.Str (name own foreign) z) r)) (sym (append_off _ e d.entries off))
          (told_apart name _ z _ r (among_filter name _ _ d.entries free) h),
    )

    nowhere : (e : Entry) → e.link ≡ None → receives_on link e ≡ false
    nowhere e none = ap (λ (o : Option ℕ). is_receiving e && is_link link o) none ∙ and_none _

    answered_on_link : IsNewReceived (name own foreign) (numbers name d.entries) r → free_link d.entries ≡ Some link
        → Received name link (receivers.Hear (words.Str (name own foreign) z) ∷ receivers.Ask (name own foreign) ∷ []) (d.entries ++ asked_with_size stamp z (receiving_end own foreign link) ∷ []) r
    answered_on_link new free =
        let unused : list_any (receives_on link) d.entries ≡ false = not_is _ (number_passes (λ l. not (list_any (receives_on l) d.entries)) link connection_links free) in
        let empty : filter (receives_on link) d.entries ≡ [] = none_any _ d.entries unused in
        let on : receives_on link (asked_with_size stamp z (receiving_end own foreign link)) ≡ true = (let there : (link == link) ≡ true = eq-eqb link link refl in rw (even, there) refl) in
        let none : r.end ≡ None = subst (λ (xs : List Entry). AreReceiver name xs r) empty h in (
          (tt, ((none, new.unasked), tt)),
          subst (λ (xs : List Entry). AreReceiver name xs (all_received (receivers.Hear (words.Str (name own foreign) z) ∷ receivers.Ask (name own foreign) ∷ []) r)) (sym (append_on _ _ d.entries on empty))
              (record { end = refl; opened = refl; closed = refl; over = new.unheard; size = for_here _ (Some z) r.size; allocation = refl; due = refl; live = refl }),
        )

    answered_by : IsNewReceived (name own foreign) (numbers name d.entries) r → (other : ℕ) → free_link d.entries ≡ Some other → (v : Bool) → (other == link) ≡ v
        → Received name link (receivers.Hear (words.Str (name own foreign) z) ∷ answers_str link (name own foreign) (Some (record { socket = own; size = z })) (Some other)) (d.entries ++ asked_with_size stamp z (receiving_end own foreign other) ∷ []) r
    answered_by new other free true e =
        let same : other ≡ link = eqb-true other link e in
        rw e (subst (λ (l : ℕ). Received name link (receivers.Hear (words.Str (name own foreign) z) ∷ receivers.Ask (name own foreign) ∷ []) (d.entries ++ asked_with_size stamp z (receiving_end own foreign l) ∷ []) r) (sym same)
        (answered_on_link new (free ∙ ap (λ (l : ℕ). Some l) same)))
    answered_by new other free false e =
        rw e (refused_here new.free _ (ap (λ (v : Bool). is_receive_socket own && v) e ∙ and_none _))

    linked_by : IsNewReceived (name own foreign) (numbers name d.entries) r → (l : Listener) → (o : Option ℕ) → free_link d.entries ≡ o
        → Received name link (receivers.Hear (words.Str (name own foreign) z) ∷ answers_str link (name own foreign) (Some l) o) (str_linked own foreign z stamp o d).entries r
    linked_by new l None free = refused_here new.free _ (nowhere (refused_end own foreign stamp) refl)
    linked_by new l (Some other) free = answered_by new other free (other == link) refl

    listened_by : IsNewReceived (name own foreign) (numbers name d.entries) r → (o : Option Listener)
        → Received name link (receivers.Hear (words.Str (name own foreign) z) ∷ answers_str link (name own foreign) o (free_link d.entries)) (str_heard own foreign z stamp o d).entries r
    listened_by new None = refused_here new.free _ (nowhere (refused_end own foreign stamp) refl)
    listened_by new (Some l) = linked_by new l (free_link d.entries) refl

    -- an end is there
    abbrev Told : Entry → Type 0
    Told e = Received name link (str_received link (name own foreign) z (listener_on own d.listening) (free_link d.entries) (Some e)) (str_taken_by peer own foreign z stamp (Some e) d).entries r

    told_here : (e : Entry) → entry_at own foreign d.entries ≡ Some e → is_some e.partner ≡ false → receives_on link e ≡ true → Told e
    told_here e found first on =
        let done : MayAllReceive (receivers.Hear (words.Str (named name e) z) ∷ received_open (is_some e.asked) (named name e)) r
        × HasReceiver name link (str_taken_by peer own foreign z stamp (entry_at own foreign d.entries) d).entries (all_received (receivers.Hear (words.Str (named name e) z) ∷ received_open (is_some e.asked) (named name e)) r)
        = opening.str_heard name link peer [] stamp own foreign z d e r found on first h in
        let there : Received name link (receivers.Hear (words.Str (named name e) z) ∷ received_open (is_some e.asked) (named name e)) (str_taken_by peer own foreign z stamp (Some e) d).entries r
        = subst (λ (o : Option Entry). Received name link (receivers.Hear (words.Str (named name e) z) ∷ received_open (is_some e.asked) (named name e)) (str_taken_by peer own foreign z stamp o d).entries r) found done in
        let moved : Received name link (receivers.Hear (words.Str (name own foreign) z) ∷ received_open (is_some e.asked) (name own foreign)) (str_taken_by peer own foreign z stamp (Some e) d).entries r
        = subst (λ (c : ℕ). Received name link (receivers.Hear (words.Str c z) ∷ received_open (is_some e.asked) c) (str_taken_by peer own foreign z stamp (Some e) d).entries r) (own_name own foreign e d.entries found) there in
        rw (first, on) (rw first at moved)

    told_away : (e : Entry) → entry_at own foreign d.entries ≡ Some e → is_some e.partner ≡ false → receives_on link e ≡ false → Told e
    told_away e found first off =
        let list : filter (receives_on link) (changed_first (is_at own foreign) (asked_with_size stamp z) d.entries) ≡ filter (receives_on link) d.entries
        = away _ _ _ e d.entries off off found in
        let free : is_among (name own foreign) (numbers name (filter (receives_on link) d.entries)) ≡ false
        = subst (λ (c : ℕ). is_among c (numbers name (filter (receives_on link) d.entries)) ≡ false) (own_name own foreign e d.entries found) (others name _ _ e d.entries off a found) in
        rw (first, off) ((tt, tt), subst (λ (xs : List Entry). AreReceiver name xs (receivers.hears (words.Str (name own foreign) z) r)) (sym list) (told_apart name _ z _ r free h))

    told_by : (e : Entry) → entry_at own foreign d.entries ≡ Some e → (u v : Bool) → is_some e.partner ≡ u → receives_on link e ≡ v → Told e
    told_by e found true v p o = rw p (tt, h)
    told_by e found false true p o = told_here e found p o
    told_by e found false false p o = told_away e found p o

    str_by : (o : Option Entry) → entry_at own foreign d.entries ≡ o → (o ≡ None → IsNewReceived (name own foreign) (numbers name d.entries) r)
        → Received name link (str_received link (name own foreign) z (listener_on own d.listening) (free_link d.entries) o) (str_taken_by peer own foreign z stamp o d).entries r
    str_by None found new = listened_by (new refl) _
    str_by (Some e) found new = told_by e found _ _ refl refl

    str_receives : (entry_at own foreign d.entries ≡ None → IsNewReceived (name own foreign) (numbers name d.entries) r)
        → Received name link (str_received link (name own foreign) z (listener_on own d.listening) (free_link d.entries) (entry_at own foreign d.entries)) (str_taken peer own foreign z stamp d).entries r
    str_receives new = str_by (entry_at own foreign d.entries) refl new

  -- ---- a CLS

  module _ (peer : Host) (busy : List ℕ) (stamp own foreign : ℕ) (d : DeskState) (r : Receiver) (h : HasReceiver name link d.entries r) (a : AreApart (numbers name d.entries)) where
    abbrev Shut : Option Entry → Type 0
    Shut o = Received name link (cls_received link (name own foreign) o) (cls_taken_by peer busy own foreign o d).entries r

    -- nothing of it is this receiver's
    cls_away : (q : Receiver) → HasReceiver name link d.entries q → (e : Entry) → entry_at own foreign d.entries ≡ Some e → receives_on link e ≡ false → HasReceiver name link (cls_taken_by peer busy own foreign (Some e) d).entries q
    cls_away q k e found off =
        let one : (x : Entry) → entry_at own foreign d.entries ≡ Some x → receives_on link x ≡ false
        = λ x f. (let same : x ≡ e = some_is x e (sym f ∙ found) in ap (receives_on link) same ∙ off) in
        subst (λ (o : Option Entry). HasReceiver name link (cls_taken_by peer busy own foreign o d).entries q) found (cls_elsewhere name link peer busy stamp own foreign d q one k)

    cls_here : (e : Entry) → entry_at own foreign d.entries ≡ Some e → e.partner_closed ≡ false → receives_on link e ≡ true → Received name link (receivers.Hear (words.Cls (name own foreign)) ∷ closes_on link (name own foreign) e) (cls_taken_by peer busy own foreign (Some e) d).entries r
    cls_here e found first on =
        let done : Received name link (receivers.Hear (words.Cls (named name e)) ∷ received_close e.closing (named name e)) (cls_taken_by peer busy own foreign (entry_at own foreign d.entries) d).entries r
        = cls_receives name link peer busy stamp own foreign d e r found on first h in
        let there : Received name link (receivers.Hear (words.Cls (named name e)) ∷ received_close e.closing (named name e)) (cls_taken_by peer busy own foreign (Some e) d).entries r
        = subst (λ (o : Option Entry). Received name link (receivers.Hear (words.Cls (named name e)) ∷ received_close e.closing (named name e)) (cls_taken_by peer busy own foreign o d).entries r) found done in
        let own_one : Received name link (receivers.Hear (words.Cls (name own foreign)) ∷ received_close e.closing (name own foreign)) (cls_taken_by peer busy own foreign (Some e) d).entries r
        = subst (λ (c : ℕ). Received name link (receivers.Hear (words.Cls c) ∷ received_close e.closing c) (cls_taken_by peer busy own foreign (Some e) d).entries r) (own_name own foreign e d.entries found) there in
        subst (λ (v : Bool). Received name link (receivers.Hear (words.Cls (name own foreign)) ∷ (if v then received_close e.closing (name own foreign) else [])) (cls_taken_by peer busy own foreign (Some e) d).entries r) (sym on) own_one

    cls_there : (e : Entry) → entry_at own foreign d.entries ≡ Some e → receives_on link e ≡ false → Received name link (receivers.Hear (words.Cls (name own foreign)) ∷ closes_on link (name own foreign) e) (cls_taken_by peer busy own foreign (Some e) d).entries r
    cls_there e found off =
        let free : is_among (name own foreign) (numbers name (filter (receives_on link) d.entries)) ≡ false
        = subst (λ (c : ℕ). is_among c (numbers name (filter (receives_on link) d.entries)) ≡ false) (own_name own foreign e d.entries found) (others name _ _ e d.entries off a found) in
        subst (λ (v : Bool). Received name link (receivers.Hear (words.Cls (name own foreign)) ∷ (if v then received_close e.closing (name own foreign) else [])) (cls_taken_by peer busy own foreign (Some e) d).entries r) (sym off)
        ((tt, tt), cls_away _ (over_apart name _ _ r free h) e found off)

    is_first : (e : Entry) → is_receiving e ≡ true → e.partner_closed ≡ false → (is_receiving e && not e.partner_closed) ≡ true
    is_first e i p = rw (i, p) refl

    shut_by : (e : Entry) → entry_at own foreign d.entries ≡ Some e → (u v w : Bool) → is_receiving e ≡ u → e.partner_closed ≡ v → receives_on link e ≡ w → Shut (Some e)
    shut_by e found false v w i p o = subst (λ (b : Bool). Received name link (if b && not e.partner_closed then receivers.Hear (words.Cls (name own foreign)) ∷ closes_on link (name own foreign) e else []) (cls_taken_by peer busy own foreign (Some e) d).entries r) (sym i)
        (tt, cls_away r h e found (not_received link e i))
    shut_by e found true true w i p o = rw (i, p) (tt, h)
    shut_by e found true false true i p o =
        subst (λ (b : Bool). Received name link (if b then receivers.Hear (words.Cls (name own foreign)) ∷ closes_on link (name own foreign) e else []) (cls_taken_by peer busy own foreign (Some e) d).entries r) (sym (is_first e i p)) (cls_here e found p o)
    shut_by e found true false false i p o =
        subst (λ (b : Bool). Received name link (if b then receivers.Hear (words.Cls (name own foreign)) ∷ closes_on link (name own foreign) e else []) (cls_taken_by peer busy own foreign (Some e) d).entries r) (sym (is_first e i p)) (cls_there e found o)

    cls_by : (o : Option Entry) → entry_at own foreign d.entries ≡ o → Shut o
    cls_by None found = (tt, h)
    cls_by (Some e) found = shut_by e found _ e.partner_closed _ refl refl refl

    pub cls_hears : Shut (entry_at own foreign d.entries)
    cls_hears = cls_by _ refl

  -- ---- an RTS is no matter of a receiver

  module _ (peer : Host) (stamp own foreign l : ℕ) (d : DeskState) (r : Receiver) (odd : is_receive_socket own ≡ false) (h : HasReceiver name link d.entries r) where
    rts_more : (e : Entry) → is_receiving e ≡ false → HasReceiver name link (d.entries ++ e ∷ []) r
    rts_more e i = subst (λ (xs : List Entry). AreReceiver name xs r) (sym (append_off _ e d.entries (not_received link e i))) h

    rts_found : (e : Entry) → entry_at own foreign d.entries ≡ Some e → (v : Bool) → is_some e.partner ≡ v → HasReceiver name link (rts_taken_by peer own foreign l stamp (Some e) d).entries r
    rts_found e found true p = rw p h
    rts_found e found false p =
        let off : is_receiving e ≡ false = own_parity own foreign e d.entries found ∙ odd in
        rw p (subst (λ (xs : List Entry). AreReceiver name xs r) (sym (away _ _ _ e d.entries (not_received link e off) (not_received link (asked_on_link stamp l e) off) found)) h)

    rts_listened : (o : Option Listener) → HasReceiver name link (rts_heard own foreign l stamp o d).entries r
    rts_listened None = rts_more _ odd
    rts_listened (Some x) = rts_more _ odd

    rts_by : (o : Option Entry) → entry_at own foreign d.entries ≡ o → HasReceiver name link (rts_taken_by peer own foreign l stamp o d).entries r
    rts_by None found = rts_listened (listener_on own d.listening)
    rts_by (Some e) found = rts_found e found _ refl

    rts_linked : (v : Bool) → list_any (sends_on l) d.entries ≡ v → HasReceiver name link (rts_taken peer own foreign l stamp d).entries r
    rts_linked true used = rw used h
    rts_linked false used = rw used (rts_by _ refl)

    rts_leaves : HasReceiver name link (rts_taken peer own foreign l stamp d).entries r
    rts_leaves = rts_linked _ refl

  -- ---- all commands

  ret_by : (peer : Host) (busy : List ℕ) (stamp k l m n : ℕ) (d : DeskState) (r : Receiver) → HasReceiver name link d.entries r → (v : Bool) → (l == link) ≡ v
      → Received name link (if v then receivers.Hear (words.Ret k m n) ∷ [] else []) (desk_taken peer busy stamp (command.Ret l m n) d).entries r
  ret_by peer busy stamp k l m n d r h true e =
      ((tt, tt), subst (λ (x : ℕ). HasReceiver name link (desk_taken peer busy stamp (command.Ret x m n) d).entries (receivers.takes_back m n r.end r)) (sym (eqb-true l link e)) (ret_receives name link peer busy stamp m n d r h))
  ret_by peer busy stamp k l m n d r h false e = (tt, subst (λ (xs : List Entry). AreReceiver name xs r) (sym (receiver_leaves link peer busy stamp (command.Ret l m n) d e)) h)

  module _ (peer : Host) (busy : List ℕ) (stamp k : ℕ) (d : DeskState) (r : Receiver) (h : HasReceiver name link d.entries r) where
    left : (c : Command) → LeavesReceiver link c → Received name link [] (desk_taken peer busy stamp c d).entries r
    left c l = (tt, subst (λ (xs : List Entry). AreReceiver name xs r) (sym (receiver_leaves link peer busy stamp c d l)) h)

    pub hears_all : (c : Command) → IsCommand c → AreApart (numbers name d.entries) → NewReceived name c d.entries r → Received name link (received_by name link k c d) (desk_taken peer busy stamp c d).entries r
    hears_all (command.Rts receive send l) i a new = (tt, rts_leaves peer stamp send receive l d r (odd_is send i.3) h)
    hears_all (command.Str send receive size) i a new = str_receives peer stamp receive send size d r i.3 h a new
    hears_all (command.Cls foreign own) i a new = cls_hears peer busy stamp own foreign d r h a
    hears_all (command.Ret l m n) i a new = ret_by peer busy stamp k l m n d r h _ refl
    hears_all c i a new = left c tt
