-- Commands of the peer, and links.
use Rattle.world_keeps_pairing.proofs.Common.{eqb-true, list_any, Host, is_receive_socket, is_send_socket, Command, Entry, Listener, not_true}
use Rattle.std.proofs.Common.{◌≡◌, ℕ, ◌==◌, Bool, false, not, ◌&&◌, if◌then◌else◌, List, [], ◌∷◌, ◌++◌, map, filter, Option, Some, None, is_some, refl, ap, sym, subst, ◌∙◌, eq-eqb, true, nat_le, find}
use Rattle.host_pairs.specs.Commands.{desk_taken, Ending, Found, Open, Unconnected, all_taken, answered_on, asked_on_link, asked_with_size, at_end, changed, closed_once, cls_taken_by, gvb_taken, interrupted, entry_joined, matched_once, receiver_on, ret_taken, rts_heard, rts_taken, rts_taken_by, sender_on, str_heard, str_linked, str_taken_by}
use Rattle.host_pairs.specs.Data.{data_taken, arrived_if, data_found, is_acceptable}
use Rattle.host_pairs.specs.Desk.{DeskState, listener_on, command_queued, settled, swept}
use Rattle.host_pairs.specs.Entries.{entry_at, free_link, is_at, is_link, is_over, receives_on, receiving_end, sending_end, sends_on, closed_by_partner, closed_when, cls_of, connection_links, must_close, refused_end}
use Rattle.bit_messages.specs.Octets.{octets_of}
use Rattle.ncp_control.specs.Command.{spelling}
use Rattle.ncp_control.specs.DataHeader.{header_of}
use Rattle.ncp_control.specs.declared.command.Command.TheVariants as command
use Rattle.ncp_control.specs.declared.data_header.DataHeader.{DataHeader}
use Rattle.host_pairs.specs.Commands as commands
use Rattle.host_pairs.specs.Control.{ERRONEOUS, NOT_CONNECTED, NO_SOCKET, error}
use Rattle.host_pairs.proofs.lemmas.{both}
use Rattle.world_keeps_pairing.proofs.Claims.{Claim, last_link}
use Rattle.world_keeps_pairing.proofs.Local.{IsQuiet, Links, One, all_claims, claim_first, claim_of, claims_join, links_changed, links_filter, links_heard, links_joined, links_linked, links_map, links_said, none_found}

-- a desk's ends have the links that were said and heard
abbrev pub Linked : List Claim → List Claim → DeskState → Type 0
Linked said taken d = Links (all_claims d.queue said) taken d.entries

-- ---- the queue

cls_claims : (es : List Entry) (claims : List Claim) → all_claims (map cls_of es) claims ≡ claims
cls_claims [] claims = refl
cls_claims (e ∷ es) claims = cls_claims es claims

pub and_never : (b : Bool) → (b && false) ≡ true → ⊥
and_never true e = absurd (let both : false ≡ true = e in cc)
and_never false e = absurd (let both : false ≡ true = e in cc)

find_some : (test : ℕ → Bool) (xs : List ℕ) (x : ℕ) → find test xs ≡ Some x → test x ≡ true
find_some test [] x e = absurd (let both : None ≡ Some x = e in cc)
find_some test (y ∷ xs) x e = by (test y) refl (λ k. find_some test xs x k) where
  by : (b : Bool) → test y ≡ b → (find test xs ≡ Some x → test x ≡ true) → test x ≡ true
  by true t rest = let same : Some y ≡ Some x = rw t at e in let is : y ≡ x = cc in ap test (sym is) ∙ t
  by false t rest = rest (rw t at e)

free_is : (es : List Entry) (link : ℕ) → free_link es ≡ Some link → list_any (receives_on link) es ≡ false
free_is es link e = not_true _ (find_some (λ l. not (list_any (receives_on l) es)) connection_links link e)

module _ (said taken_claims : List Claim) where
  linked_queued : (c : Command) (d : DeskState) → ((claims : List Claim) → claim_of c claims ≡ claims) → Linked said taken_claims d → Linked said taken_claims (command_queued c d)
  linked_queued c d mute h = subst (λ (claims : List Claim). Links claims taken_claims d.entries) (sym (claims_join d.queue (c ∷ []) said ∙ mute (all_claims d.queue said))) h

  linked_error : (code : ℕ) (octets : List ℕ) (d : DeskState) → Linked said taken_claims d → Linked said taken_claims (command_queued (error code octets) d)
  linked_error code octets d h = linked_queued _ d (λ claims. refl) h

  linked_if : (b : Bool) (d e : DeskState) → Linked said taken_claims d → Linked said taken_claims e → Linked said taken_claims (if b then d else e)
  linked_if true d e h k = h
  linked_if false d e h k = k

  pub linked_settled : (busy : List ℕ) (d : DeskState) → Linked said taken_claims d → Linked said taken_claims (settled busy d)
  linked_settled busy d h =
      subst (λ (claims : List Claim). Links claims taken_claims (map (λ e. closed_when (must_close busy e) e) d.entries))
      (sym (claims_join d.queue _ said ∙ cls_claims (filter (must_close busy) d.entries) _))
      (links_map (all_claims d.queue said) taken_claims _ _
      (λ e. record { own = refl; foreign = refl; link = refl; mine = refl; partner = λ k. k; asked = λ k. k }) h)

  linked_swept : (peer : Host) (d : DeskState) → Linked said taken_claims d → Linked said taken_claims (swept peer d)
  linked_swept peer d h = links_filter (all_claims d.queue said) taken_claims _ _ h

  -- an end that is refused has no link
  refused_joined : (own foreign stamp : ℕ) (claims taken : List Claim) (es : List Entry) → Links claims taken es → Links claims taken (es ++ refused_end own foreign stamp ∷ [])
  refused_joined own foreign stamp claims taken es h =
      links_joined claims taken _ es (λ l on. absurd (and_never _ on)) (λ even mine. absurd (let both : false ≡ true = mine in cc)) (λ asked. absurd (let both : false ≡ true = asked in cc))
      (λ l on. absurd (and_never _ on)) h

  linked_refused : (own foreign stamp : ℕ) (d : DeskState) → Linked said taken_claims d → Linked said taken_claims (commands.refused own foreign stamp d)
  linked_refused own foreign stamp d h =
      linked_queued (cls_of (refused_end own foreign stamp)) (entry_joined (refused_end own foreign stamp) d) (λ claims. refl) (refused_joined own foreign stamp _ taken_claims _ h)

  -- a new receiving end, with its request
  pub receiver_joined : (own foreign link : ℕ) (e : Entry) (queue : List Command) (es : List Entry) → is_receive_socket own ≡ true → is_send_socket foreign ≡ true → e.own ≡ own → e.foreign ≡ foreign → e.link ≡ Some link → e.asked ≡ None
      → free_link es ≡ Some link → entry_at own foreign es ≡ None → Links (all_claims queue said) taken_claims es → Links (all_claims (queue ++ command.Rts own foreign link ∷ []) said) taken_claims (es ++ e ∷ [])
  receiver_joined own foreign link e queue es even odd o f linked unasked free none h =
      let claims : List Claim = all_claims queue said in
      let good : (is_receive_socket own && is_send_socket foreign) ≡ true = ap (λ (b : Bool). b && is_send_socket foreign) even ∙ odd in
      let is : all_claims (queue ++ command.Rts own foreign link ∷ []) said ≡ record { sockets = record { receive = own; send = foreign }; link = link } ∷ all_claims queue said =
      claims_join queue _ said ∙ ap (λ (b : Bool). if b then record { sockets = record { receive = own; send = foreign }; link = link } ∷ all_claims queue said else all_claims queue said) good in
      subst (λ (cs : List Claim). Links cs taken_claims (es ++ e ∷ [])) (sym is)
      (links_joined (record { sockets = record { receive = own; send = foreign }; link = link } ∷ all_claims queue said) taken_claims e es
      (λ l on. absurd (let no : true ≡ false = sym (both (not (is_receive_socket e.own)) (is_link l e.link) on).0 ∙ ap (λ (n : ℕ). not (is_receive_socket n)) o ∙ ap not even in cc))
      (λ even mine l last. (let named : Some link ≡ Some l =
      sym (ap (λ (n : ℕ). last_link (record { receive = n; send = e.foreign }) (record { sockets = record { receive = own; send = foreign }; link = link } ∷ all_claims queue said)) o
      ∙ ap (λ (n : ℕ). last_link (record { receive = own; send = n }) (record { sockets = record { receive = own; send = foreign }; link = link } ∷ all_claims queue said)) f
      ∙ claim_first (record { receive = own; send = foreign }) link _) ∙ last in
      let same : link ≡ l = cc in
      ap (λ (x : Option ℕ). is_link l x) linked ∙ ap (λ (n : ℕ). n == l) same ∙ eq_refl l))
      (λ asked. absurd (let no : false ≡ true = ap (λ (x : Option ℕ). is_some x) (sym unasked) ∙ asked in cc))
      (λ l on. (let there : is_link l (Some link) ≡ true = ap (λ (x : Option ℕ). is_link l x) (sym linked) ∙ (both (is_receive_socket e.own) (is_link l e.link) on).1 in
      ap (λ (n : ℕ). list_any (receives_on n) es) (sym (eqb-true link l there)) ∙ free_is es link free))
      (links_said _ taken_claims own foreign link es (none_found own foreign es none) h)) where
        eq_refl : (n : ℕ) → (n == n) ≡ true
        eq_refl n = eq-eqb n n refl

  -- ---- commands that don't name a link

  linked_matched : (peer : Host) (own foreign : ℕ) (c : Command) (e : Entry) (change : Entry → Entry) (d : DeskState) → ((e : Entry) → IsQuiet e (change e)) → Linked said taken_claims d → Linked said taken_claims (matched_once peer own foreign c e change d)
  linked_matched peer own foreign c e change d q h =
      linked_if _ _ _ (linked_error ERRONEOUS _ d h) (links_changed (all_claims d.queue said) taken_claims _ change _ q h)

  linked_str : (own foreign size stamp : ℕ) (l : Option ℕ) (d : DeskState) → is_receive_socket own ≡ true → is_send_socket foreign ≡ true → free_link d.entries ≡ l → entry_at own foreign d.entries ≡ None → Linked said taken_claims d
      → Linked said taken_claims (str_linked own foreign size stamp l d)
  linked_str own foreign size stamp None d even odd free none h = linked_refused own foreign stamp d h
  linked_str own foreign size stamp (Some link) d even odd free none h =
      receiver_joined own foreign link _ d.queue _ even odd refl refl refl refl free none h

  linked_str_heard : (own foreign size stamp : ℕ) (l : Option Listener) (d : DeskState) → is_receive_socket own ≡ true → is_send_socket foreign ≡ true → entry_at own foreign d.entries ≡ None → Linked said taken_claims d → Linked said taken_claims (str_heard own foreign size stamp l d)
  linked_str_heard own foreign size stamp None d even odd none h = linked_refused own foreign stamp d h
  linked_str_heard own foreign size stamp (Some l) d even odd none h = linked_str own foreign size stamp _ d even odd refl none h

  linked_str_by : (peer : Host) (own foreign size stamp : ℕ) (e : Option Entry) (d : DeskState) → is_receive_socket own ≡ true → is_send_socket foreign ≡ true → entry_at own foreign d.entries ≡ e → Linked said taken_claims d → Linked said taken_claims (str_taken_by peer own foreign size stamp e d)
  linked_str_by peer own foreign size stamp None d even odd none h = linked_str_heard own foreign size stamp _ d even odd none h
  linked_str_by peer own foreign size stamp (Some e) d even odd none h =
      linked_matched peer own foreign (command.Str foreign own size) e _ d (λ x. record { own = refl; foreign = refl; link = refl; mine = refl; partner = λ k. refl; asked = λ k. k }) h

  linked_closed : (peer : Host) (busy : List ℕ) (own foreign : ℕ) (e : Entry) (d : DeskState) → Linked said taken_claims d → Linked said taken_claims (closed_once peer busy own foreign e d)
  linked_closed peer busy own foreign e d h =
      let next : DeskState = changed (is_at own foreign) closed_by_partner d in
      linked_if _ d _ h
      (linked_swept peer (settled busy (changed _ closed_by_partner d))
      (linked_settled busy (changed _ closed_by_partner d)
      (links_changed (all_claims d.queue said) taken_claims _ closed_by_partner _ (λ x. record { own = refl; foreign = refl; link = refl; mine = refl; partner = λ k. k; asked = λ k. k }) h)))

  linked_cls : (peer : Host) (busy : List ℕ) (own foreign : ℕ) (e : Option Entry) (d : DeskState) → Linked said taken_claims d → Linked said taken_claims (cls_taken_by peer busy own foreign e d)
  linked_cls peer busy own foreign None d h = linked_error NO_SOCKET (spelling (command.Cls foreign own)) d h
  linked_cls peer busy own foreign (Some e) d h = linked_closed peer busy own foreign e d h

  linked_at : (c : Command) (change : Entry → DeskState → DeskState) (f : Found) (d : DeskState) → ((e : Entry) → Linked said taken_claims (change e d)) → Linked said taken_claims d → Linked said taken_claims (at_end c change f d)
  linked_at c change Unconnected d k h = linked_error NOT_CONNECTED _ d h
  linked_at c change Ending d k h = h
  linked_at c change (Open e) d k h = k e

  quiet_change : (test : Entry → Bool) (change : Entry → Entry) (d : DeskState) → ((e : Entry) → IsQuiet e (change e)) → Linked said taken_claims d → Linked said taken_claims (changed test change d)
  quiet_change test change d q h = links_changed (all_claims d.queue said) taken_claims test change _ q h

  linked_ret : (link messages bits : ℕ) (e : Entry) (d : DeskState) → Linked said taken_claims d → Linked said taken_claims (ret_taken link messages bits e d)
  linked_ret link messages bits e d h =
      linked_if _ _ _ (quiet_change _ _ d (λ x. record { own = refl; foreign = refl; link = refl; mine = refl; partner = λ k. k; asked = λ k. k }) h)
      (linked_error ERRONEOUS (spelling (command.Ret link messages bits)) d h)

  -- all commands but an RTS
  abbrev pub IsOther : Command → Type 0
  IsOther (command.Rts receive send link) = ⊥
  IsOther (command.Str send receive size) = (is_receive_socket receive ≡ true) × (is_send_socket send ≡ true)
  IsOther c = Unit {0}

  pub linked_other : (peer : Host) (busy : List ℕ) (stamp : ℕ) (c : Command) (d : DeskState) → IsOther c → Linked said taken_claims d → Linked said taken_claims (desk_taken peer busy stamp c d)
  linked_other peer busy stamp (command.Rts receive send link) d o h = absurd o
  linked_other peer busy stamp (command.Str send receive size) d o h = linked_str_by peer receive send size stamp _ d o.0 o.1 refl h
  linked_other peer busy stamp (command.Cls own foreign) d o h = linked_cls peer busy foreign own _ d h
  linked_other peer busy stamp (command.All link messages bits) d o h =
      linked_at (command.All link messages bits) (all_taken link messages bits) (sender_on link d) d (λ e. quiet_change (sends_on link) (commands.granted messages bits) d (λ x. record { own = refl; foreign = refl; link = refl; mine = refl; partner = λ k. k; asked = λ k. k }) h) h
  linked_other peer busy stamp (command.Gvb link messages bits) d o h =
      linked_at (command.Gvb link messages bits) (gvb_taken link messages bits) (sender_on link d) d
      (λ e. linked_queued _ (changed (sends_on link) (commands.given_back messages bits) d) (λ claims. refl) (quiet_change (sends_on link) (commands.given_back messages bits) d (λ x. record { own = refl; foreign = refl; link = refl; mine = refl; partner = λ k. k; asked = λ k. k }) h)) h
  linked_other peer busy stamp (command.Ret link messages bits) d o h = linked_at (command.Ret link messages bits) (ret_taken link messages bits) (receiver_on link d) d (λ e. linked_ret link messages bits e d h) h
  linked_other peer busy stamp (command.Inr link) d o h = linked_at (command.Inr link) interrupted (sender_on link d) d (λ e. h) h
  linked_other peer busy stamp (command.Ins link) d o h = linked_at (command.Ins link) interrupted (receiver_on link d) d (λ e. h) h
  linked_other peer busy stamp (command.Eco octet) d o h = linked_queued _ d (λ claims. refl) h
  linked_other peer busy stamp c d o h = h

  pub linked_wrong : (code : ℕ) (octets : List ℕ) (d : DeskState) → Linked said taken_claims d → Linked said taken_claims (command_queued (error code octets) d)
  linked_wrong code octets d h = linked_error code octets d h

  -- ---- data

  linked_arrived : (link : ℕ) (e : Entry) (text : List Bool) (o : Option DataHeader) (d : DeskState) → Linked said taken_claims d → Linked said taken_claims (arrived_if link e text o d)
  linked_arrived link e text None d h = linked_error ERRONEOUS _ d h
  linked_arrived link e text (Some k) d h =
      linked_if _ _ _ (quiet_change _ _ d (λ x. record { own = refl; foreign = refl; link = refl; mine = refl; partner = λ k. k; asked = λ k. k }) h) (linked_error ERRONEOUS _ d h)

  linked_found : (link : ℕ) (text : List Bool) (f : Found) (d : DeskState) → Linked said taken_claims d → Linked said taken_claims (data_found link text f d)
  linked_found link text Unconnected d h = linked_error NOT_CONNECTED _ d h
  linked_found link text Ending d h = h
  linked_found link text (Open e) d h = linked_arrived link e text _ d h

  pub linked_data : (link : ℕ) (text : List Bool) (d : DeskState) → Linked said taken_claims d → Linked said taken_claims (data_taken link text d)
  linked_data link text d h = linked_found link text _ d h

-- ---- an RTS, which names a free link

module _ (said taken_claims : List Claim) (own foreign link : ℕ) (odd : is_receive_socket own ≡ false) (even : is_receive_socket foreign ≡ true) where
  rts_joined : (e : Entry) (claims : List Claim) (es : List Entry) → e.own ≡ own → e.foreign ≡ foreign → e.link ≡ Some link → is_some e.partner ≡ true → e.asked ≡ None → entry_at own foreign es ≡ None → Links claims taken_claims es
      → Links claims (record { sockets = record { receive = foreign; send = own }; link = link } ∷ taken_claims) (es ++ e ∷ [])
  rts_joined e claims es o f linked partner unasked none h =
      links_joined claims (record { sockets = record { receive = foreign; send = own }; link = link } ∷ taken_claims) e es
      (λ l on. (let there : is_link l (Some link) ≡ true = ap (λ (x : Option ℕ). is_link l x) (sym linked) ∙ (both (not (is_receive_socket e.own)) (is_link l e.link) on).1 in (
        partner,
        ap (λ (n : ℕ). last_link (record { receive = n; send = e.own }) (record { sockets = record { receive = foreign; send = own }; link = link } ∷ taken_claims)) f
            ∙ ap (λ (n : ℕ). last_link (record { receive = foreign; send = n }) (record { sockets = record { receive = foreign; send = own }; link = link } ∷ taken_claims)) o
            ∙ claim_first (record { receive = foreign; send = own }) link taken_claims ∙ ap (λ (n : ℕ). Some n) (eqb-true link l there),
        ap is_receive_socket f ∙ even,
      )))
      (λ on mine. absurd (let no : true ≡ false = sym on ∙ ap is_receive_socket o ∙ odd in cc))
      (λ asked. absurd (let no : false ≡ true = ap (λ (x : Option ℕ). is_some x) (sym unasked) ∙ asked in cc))
      (λ l on. absurd (let no : true ≡ false = sym (both (is_receive_socket e.own) (is_link l e.link) on).0 ∙ ap is_receive_socket o ∙ odd in cc))
      (links_heard claims taken_claims own foreign link es (none_found own foreign es none) h)

  rts_heard_linked : (stamp : ℕ) (l : Option Listener) (d : DeskState) → entry_at own foreign d.entries ≡ None → Linked said taken_claims d → Linked said (record { sockets = record { receive = foreign; send = own }; link = link } ∷ taken_claims) (rts_heard own foreign link stamp l d)
  rts_heard_linked stamp None d none h =
      linked_queued said (record { sockets = record { receive = foreign; send = own }; link = link } ∷ taken_claims) (cls_of (refused_end own foreign stamp)) (entry_joined (refused_end own foreign stamp) d) (λ claims. refl)
      (refused_joined said taken_claims own foreign stamp _ _ _
      (links_heard _ taken_claims own foreign link _ (none_found own foreign _ none) h))
  rts_heard_linked stamp (Some l) d none h =
      linked_queued said (record { sockets = record { receive = foreign; send = own }; link = link } ∷ taken_claims) _ (entry_joined (asked_on_link stamp link (sending_end own foreign l.size)) (answered_on own d)) (λ claims. refl)
      (rts_joined _ _ _ refl refl refl refl refl none h)

  rts_by_linked : (peer : Host) (stamp : ℕ) (o : Option Entry) (d : DeskState) → entry_at own foreign d.entries ≡ o → ((e : Entry) → o ≡ Some e → is_some e.partner ≡ false) → One (map (is_at own foreign) d.entries) → Linked said taken_claims d
      → Linked said (record { sockets = record { receive = foreign; send = own }; link = link } ∷ taken_claims) (rts_taken_by peer own foreign link stamp o d)
  rts_by_linked peer stamp None d f fresh one h = rts_heard_linked stamp _ d f h
  rts_by_linked peer stamp (Some e) d f fresh one h =
      subst (λ (b : Bool). Linked said (record { sockets = record { receive = foreign; send = own }; link = link } ∷ taken_claims) (if b then commands.faulted ERRONEOUS (command.Rts foreign own link) d else commands.matched peer own foreign (asked_on_link stamp link) d)) (sym (fresh e refl))
      (links_linked _ taken_claims own foreign link _ _ odd even (λ x. (refl, refl, refl, refl, refl, refl)) one h)

  pub rts_linked : (peer : Host) (stamp : ℕ) (d : DeskState) → list_any (sends_on link) d.entries ≡ false → ((e : Entry) → entry_at own foreign d.entries ≡ Some e → is_some e.partner ≡ false) → One (map (is_at own foreign) d.entries) → Linked said taken_claims d
      → Linked said (record { sockets = record { receive = foreign; send = own }; link = link } ∷ taken_claims) (rts_taken peer own foreign link stamp d)
  rts_linked peer stamp d free fresh one h =
      subst (λ (b : Bool). Linked said (record { sockets = record { receive = foreign; send = own }; link = link } ∷ taken_claims) (if b then commands.faulted ERRONEOUS (command.Rts foreign own link) d else rts_taken_by peer own foreign link stamp (entry_at own foreign d.entries) d)) (sym free)
      (rts_by_linked peer stamp _ d refl fresh one h)
