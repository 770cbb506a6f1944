-- What a command or data of the peer does, at one socket of the host.
use Rattle.world_keeps_lives.proofs.Common.{length-append, list_any, Host, same_host, spelling, data_bits, header_of, is_receive_socket, is_send_socket, Allocation, Command, DataHeader, ERRONEOUS, NOT_CONNECTED, NO_SOCKET, error, DeskState, listener_on, settled, swept, desk_told, Entry, Listener, both, not_is, Life, Kept, all_told, carried, lives_at, where_it, receives, sends, AddsUp, EachOn, IsLifeOf, IsSafe, at_socket, has_opened}
use Rattle.std.proofs.Common.{◌≡◌, ℕ, ◌≤◌, ◌<◌, ◌==◌, ◌&&◌, Bool, true, false, not, nat_lt, if◌then◌else◌, List, [], ◌∷◌, find, length, Option, Some, None, is_some, refl, ap, sym, subst, ◌∙◌, arith, nat_le}
use Rattle.std.proofs.lemmas.Bool.{eqb-true, ltb-true, leb-true}
use Rattle.host_pairs.specs.Commands.{answered_on, asked_on_link, asked_with_size, at_end, changed, cls_taken_by, gvb_taken, interrupted, matched_once, ret_taken, rts_heard, rts_taken, rts_taken_by, str_heard, str_linked, str_taken_by, desk_taken, found_in, returned}
use Rattle.host_pairs.specs.Data.{arrived, arrived_if, data_found, data_of, data_taken, is_acceptable, spent, text_faulted, is_covered}
use Rattle.host_pairs.specs.Entries.{closed_by_partner, entry_at, free_link, is_at, is_ending, is_link, is_mine_on, is_open, is_receiving, receiving_end, receives_on, refused_end, sending_end, sends_on, is_size}
use Rattle.ncp_control.specs.Allocation as counters
use Rattle.ncp_control.specs.declared.command.Command.TheVariants as command
use Rattle.host_pairs.specs.Commands as commands
use Rattle.host_pairs.specs.declared.notice.Notice.TheVariants as notice
use Rattle.net_sim.specs.Book as book
use Rattle.world_keeps_lives.proofs.Ends.{IsRefusing, refusing_found, split}
use Rattle.world_keeps_lives.proofs.Books.{each_here, each_weaker}
use Rattle.world_keeps_lives.proofs.Desks.{At, Elsewhere, Near, Place, clash, open_mine, open_opened, own_is, own_off}
use Rattle.world_keeps_lives.proofs.Steps.{Good, good_aside, good_changed, good_foreign, good_if, good_joined, good_less, good_opening, good_queued, good_quiet, good_settled, good_swept, heard_drains, heard_less, refuses_due}
use Rattle.interface.proofs.lemmas.{and_none}
use Rattle.host_keeps_streams.proofs.lemmas.{bits_there}

-- ---- receiving ends and sending ones

-- no socket does both
pub apart : (P : Type 0) (k : ℕ) → is_receive_socket k ≡ true → is_send_socket k ≡ true → P
apart P k r s = absurd (omega (arith, eqb-true _ _ r, eqb-true _ _ s))

module _ (a : Host) (k : ℕ) where
  socket_of : (x : Life) → at_socket a k x ≡ true → x.socket ≡ k
  socket_of x there = eqb-true x.socket k (both (same_host a x.host) (x.socket == k) there).1

  pub life_receives : (e : Entry) (x : Life) → is_mine_on k e ≡ true → at_socket a k x ≡ true
      → receives x ≡ is_receiving e
  life_receives e x is there = ap is_receive_socket (socket_of x there ∙ sym (own_is k e is))

  life_sends : (P : Type 0) (e : Entry) (x : Life) → is_mine_on k e ≡ true → at_socket a k x ≡ true
      → is_receiving e ≡ true → sends x ≡ true → P
  life_sends P e x is there r s = apart P x.socket (life_receives e x is there ∙ r) s

  -- an open end is changed, and the lives of its socket with it
  pub at_here : (m : Place) (p : Host) (f : Life → Life) (e new : Entry) (l : Bool) (κ next : Kept)
      → is_mine_on k e ≡ true → has_opened new ≡ true → ((x : Life) → at_socket a k (f x) ≡ at_socket a k x)
      → ((x : Life) (t : List Bool) → at_socket a k x ≡ true → IsSafe x t → IsLifeOf p e x t → IsSafe (f x) t × IsLifeOf p new (f x) t)
      → next.book.lives ≡ where_it (lives_at a e.own) f κ.book.lives → next.handed ≡ κ.handed → At a k m p (e ∷ []) l κ
      → At a k m p (new ∷ []) l next
  at_here Near p f e new false κ next is opened keeps work lives handed h =
      let own : e.own ≡ k = own_is k e is in
      let done : EachOn a k (IsLifeOf p new) (where_it (lives_at a k) f κ.book.lives) κ.handed = each_here a k f _ _ κ.book.lives κ.handed keeps work h.1 in
      let moved : EachOn a k (IsLifeOf p new) (where_it (lives_at a e.own) f κ.book.lives) κ.handed = subst (λ (n : ℕ). EachOn a k (IsLifeOf p new) (where_it (lives_at a n) f κ.book.lives) κ.handed) (sym own) done in (
        (λ unopen. clash _ (has_opened new) opened unopen),
        subst (λ (ls : List Life). EachOn a k (IsLifeOf p new) ls next.handed) (sym lives) (subst (λ (hs : List (List Bool)). EachOn a k (IsLifeOf p new) (where_it (lives_at a e.own) f κ.book.lives) hs) (sym handed) moved),
      )
  at_here Near p f e new true κ next is opened keeps work lives handed h = absurd h
  at_here (Elsewhere g y) p f e new l κ next is opened keeps work lives handed h = absurd h

  -- an open end is changed, and no life
  at_still : (m : Place) (p : Host) (e new : Entry) (l : Bool) (κ : Kept) → has_opened new ≡ true
      → ((x : Life) (t : List Bool) → at_socket a k x ≡ true → IsLifeOf p e x t → IsLifeOf p new x t)
      → At a k m p (e ∷ []) l κ → At a k m p (new ∷ []) l κ
  at_still Near p e new false κ opened work h = ((λ unopen. clash _ (has_opened new) opened unopen), each_weaker a k (IsLifeOf p e) _ κ.book.lives κ.handed work h.1)
  at_still Near p e new true κ opened work h = absurd h
  at_still (Elsewhere g y) p e new l κ opened work h = absurd h

-- ---- the accounts of a life

-- more is granted to a sending end, or taken back from it
sender_still : (p : Host) (e : Entry) (c : Allocation) (x : Life) (t : List Bool) → receives x ≡ false
    → IsLifeOf p e x t → IsLifeOf p (record e { allocation = c }) x t
sender_still p e c x t off i = record { peers = i.peers; foreign = i.foreign; own = i.own; partner = i.partner; waits = i.waits; drained = i.drained; left = λ r. clash _ (receives x) r off }

covered : (bits : ℕ) (c : Allocation) → is_covered bits c ≡ true → (0 < c.messages) × (bits ≤ c.bits)
covered bits c is = let h : (nat_lt 0 c.messages ≡ true) × (nat_le bits c.bits ≡ true) = both (nat_lt 0 c.messages) (nat_le bits c.bits) is in (ltb-true 0 c.messages h.0, leb-true bits c.bits h.1)

-- a message is taken
taken_safe : (x : Life) (t ds : List Bool) (bits : ℕ) (c : Allocation) → (sends x ≡ true → ⊥)
    → (0 < c.messages) × (bits ≤ c.bits) → length ds ≡ bits → AddsUp x c → IsSafe x t → IsSafe (carried ds x) t
taken_safe x t ds bits c off ok whole i s = record {
  front = λ q. absurd (off q);
  within = λ r. record { messages = omega (arith, ok.0, i.messages); bits = omega (arith, ok.1, whole, i.bits, length-append x.bits ds) };
  bounded = λ r. record { messages = omega (arith, (s.bounded r).messages); bits = omega (arith, (s.bounded r).bits, length-append x.bits ds) };
}

taken_life : (p : Host) (e : Entry) (x : Life) (t ds : List Bool) (bits : ℕ) → (sends x ≡ true → ⊥)
    → (0 < e.allocation.messages) × (bits ≤ e.allocation.bits) → length ds ≡ bits → IsLifeOf p e x t
    → IsLifeOf p (spent bits e) (carried ds x) t
taken_life p e x t ds bits off ok whole i = record {
  peers = i.peers;
  foreign = i.foreign;
  own = i.own;
  partner = i.partner;
  waits = λ o s. absurd (off s);
  drained = λ q r s c f. absurd (off s);
  left = λ r. record { messages = omega (arith, ok.0, (i.left r).messages); bits = omega (arith, ok.1, whole, (i.left r).bits, length-append x.bits ds) };
}

-- a part is returned
returned_safe : (x : Life) (t : List Bool) (messages bits : ℕ) (c : Allocation) → (sends x ≡ true → ⊥)
    → messages ≤ c.messages → bits ≤ c.bits → (receives x ≡ true → AddsUp x c) → IsSafe x t
    → IsSafe (book.returned messages bits x) t
returned_safe x t messages bits c off m b i s = record {
  front = λ q. absurd (off q);
  within = λ r. record { messages = omega (arith, m, (i r).messages); bits = omega (arith, b, (i r).bits) };
  bounded = λ r. record { messages = omega (arith, (s.bounded r).messages); bits = omega (arith, (s.bounded r).bits) };
}

returned_life : (p : Host) (e : Entry) (x : Life) (t : List Bool) (messages bits : ℕ) → (sends x ≡ true → ⊥)
    → messages ≤ e.allocation.messages → bits ≤ e.allocation.bits → IsLifeOf p e x t
    → IsLifeOf p (returned messages bits e) (book.returned messages bits x) t
returned_life p e x t messages bits off m b i = record {
  peers = i.peers;
  foreign = i.foreign;
  own = i.own;
  partner = i.partner;
  waits = λ o s. absurd (off s);
  drained = λ q r s c f. absurd (off s);
  left = λ r. record { messages = omega (arith, m, (i.left r).messages); bits = omega (arith, b, (i.left r).bits) };
}

module _ (a : Host) (k : ℕ) (m : Place) (p : Host) (k0 : Kept) where
  abbrev pub G : DeskState → Type 0
  G d = Good a k m p k0 d

  good_fault : (code : ℕ) (c : Command) (d : DeskState) → G d → G (commands.faulted code c d)
  good_fault code c d h = good_queued a k m p k0 _ d h

  -- ---- requests

  good_matched : (x y : ℕ) (c : Command) (e : Entry) (change : Entry → Entry) (d : DeskState)
      → entry_at x y d.entries ≡ Some e → is_mine_on k (change e) ≡ is_mine_on k e → is_at x y (change e) ≡ is_at x y e
      → (change e).bits ≡ e.bits → (change e).allocation ≡ e.allocation
      → ((e : Entry) → IsRefusing e → IsRefusing (change e)) → G d → G (matched_once p x y c e change d)
  good_matched x y c e change d found keeps at bits allocation refuses h = by (is_some e.partner) refl where
    by : (b : Bool) → is_some e.partner ≡ b
        → G (if b then commands.faulted ERRONEOUS c d else commands.matched p x y change d)
    by true f = good_fault ERRONEOUS c d h
    by false f =
        good_opening a k m p k0 x y change d e found (ap (λ (b : Bool). is_some e.asked && b) f ∙ and_none _) keeps at bits allocation refuses h

  good_refused : (x y stamp : ℕ) (d : DeskState) → G d → G (commands.refused x y stamp d)
  good_refused x y stamp d h =
      let joined : G (commands.entry_joined (refused_end x y stamp) d) = good_foreign a k m p k0 _ d refl refl h in
      record { refusing = joined.refusing; on = joined.on }

  good_rts_heard : (x y link stamp : ℕ) (l : Option Listener) (d : DeskState) → listener_on x d.listening ≡ l → G d
      → G (rts_heard x y link stamp l d)
  good_rts_heard x y link stamp None d is h = good_refused x y stamp d h
  good_rts_heard x y link stamp (Some l) d is h =
      let joined : G (commands.entry_joined (asked_on_link stamp link (sending_end x y l.size)) (answered_on x d)) =
      good_joined a k m p k0 _ l d refl (λ f. (refl, refl)) is h in
      record { refusing = joined.refusing; on = joined.on }

  good_rts_by : (x y link stamp : ℕ) (o : Option Entry) (d : DeskState) → entry_at x y d.entries ≡ o → G d
      → G (rts_taken_by p x y link stamp o d)
  good_rts_by x y link stamp None d f h = good_rts_heard x y link stamp _ d refl h
  good_rts_by x y link stamp (Some e) d f h = good_matched x y (command.Rts y x link) e _ d f refl refl refl refl (λ e r. r) h

  good_rts : (x y link stamp : ℕ) (d : DeskState) → G d → G (rts_taken p x y link stamp d)
  good_rts x y link stamp d h =
      good_if a k m p k0 _ _ _
      (good_fault ERRONEOUS (command.Rts y x link) d h) (good_rts_by x y link stamp _ d refl h)

  good_str_linked : (x y size stamp : ℕ) (l : Listener) (link : Option ℕ) (d : DeskState)
      → listener_on x d.listening ≡ Some l → G d → G (str_linked x y size stamp link d)
  good_str_linked x y size stamp l None d is h = good_refused x y stamp d h
  good_str_linked x y size stamp l (Some link) d is h =
      let joined : G (commands.entry_joined (asked_with_size stamp size (receiving_end x y link)) (answered_on x d)) =
      good_joined a k m p k0 _ l d refl (λ f. (refl, refl)) is h in
      record { refusing = joined.refusing; on = joined.on }

  good_str_heard : (x y size stamp : ℕ) (l : Option Listener) (d : DeskState) → listener_on x d.listening ≡ l → G d
      → G (str_heard x y size stamp l d)
  good_str_heard x y size stamp None d is h = good_refused x y stamp d h
  good_str_heard x y size stamp (Some l) d is h = good_str_linked x y size stamp l (free_link d.entries) d is h

  good_str_by : (x y size stamp : ℕ) (o : Option Entry) (d : DeskState) → entry_at x y d.entries ≡ o → G d
      → G (str_taken_by p x y size stamp o d)
  good_str_by x y size stamp None d f h = good_str_heard x y size stamp _ d refl h
  good_str_by x y size stamp (Some e) d f h = good_matched x y (command.Str y x size) e _ d f refl refl refl refl (λ e r. r) h

  -- ---- a CLS

  heard_refuses : (e : Entry) → IsRefusing e → IsRefusing (closed_by_partner e)
  heard_refuses e r f = (refuses_due e r) f

  good_cls : (busy : List ℕ) (x y : ℕ) (o : Option Entry) (d : DeskState) → G d → G (cls_taken_by p busy x y o d)
  good_cls busy x y None d h = good_fault NO_SOCKET (command.Cls y x) d h
  good_cls busy x y (Some e) d h =
      good_if a k m p k0 e.partner_closed d _ h
      (good_swept a k m p k0 _ (good_settled a k m p k0 busy _ (good_less a k m p k0 (is_at x y) closed_by_partner d heard_less heard_drains heard_refuses h)))

  -- ---- a link

  good_found : (c : Command) (test : Entry → Bool) (change : Entry → DeskState → DeskState) (d : DeskState)
      → ((e : Entry) → find test d.entries ≡ Some e → is_open e ≡ true → G (change e d)) → G d
      → G (at_end c change (found_in (find test d.entries)) d)
  good_found c test change d work h = by (find test d.entries) refl where
    by : (o : Option Entry) → find test d.entries ≡ o → G (at_end c change (found_in o) d)
    by None f = good_fault NOT_CONNECTED c d h
    by (Some e) f = open_by (is_open e) refl where
      open_by : (b : Bool) → is_open e ≡ b
          → G (at_end c change (if b then commands.Open e else (if is_ending e then commands.Ending else commands.Unconnected)) d)
      open_by true o = work e f o
      open_by false o = ending_by _ where
        ending_by : (b : Bool) → G (at_end c change (if b then commands.Ending else commands.Unconnected) d)
        ending_by true = h
        ending_by false = good_fault NOT_CONNECTED c d h

  sending_found : (link : ℕ) (d : DeskState) (e : Entry) → find (sends_on link) d.entries ≡ Some e
      → is_receiving e ≡ false
  sending_found link d e f = not_is _ (both (not (is_receiving e)) (is_link link e.link) (split _ (λ x. x) d.entries e f).passes).0

  receiving_found : (link : ℕ) (d : DeskState) (e : Entry) → find (receives_on link) d.entries ≡ Some e
      → is_receiving e ≡ true
  receiving_found link d e f = (both (is_receiving e) (is_link link e.link) (split _ (λ x. x) d.entries e f).passes).0

  -- the counters of a sending end
  good_sender : (link : ℕ) (c : Entry → Allocation) (d : DeskState) (e : Entry)
      → find (sends_on link) d.entries ≡ Some e → is_open e ≡ true → G d
      → G (changed (sends_on link) (λ e. record e { allocation = c e }) d)
  good_sender link c d e f o h =
      good_quiet a k m p k0 _ _ d e f refl (λ e r. r)
      (λ is l κ i. at_still a k m p e (record e { allocation = c e }) l κ (open_opened e o)
      (λ x t there j. sender_still p e (c e) x t (life_receives a k e x is there ∙ sending_found link d e f) j) i) h

  good_ret : (link messages bits : ℕ) (d : DeskState) (e : Entry) → find (receives_on link) d.entries ≡ Some e
      → is_open e ≡ true → G d → G (ret_taken link messages bits e d)
  good_ret link messages bits d e f o h = by (nat_le messages e.allocation.messages && nat_le bits e.allocation.bits) refl where
    mine : e.mine ≡ true
    mine = open_mine e (refusing_found (receives_on link) d.entries e h.refusing f) o

    by : (b : Bool) → (nat_le messages e.allocation.messages && nat_le bits e.allocation.bits) ≡ b
        → G (if b then desk_told (notice.Returned e.own messages bits ∷ []) (changed (receives_on link) (returned messages bits) d) else commands.faulted ERRONEOUS (command.Ret link messages bits) d)
    by true fits =
        let ok : (nat_le messages e.allocation.messages ≡ true) × (nat_le bits e.allocation.bits ≡ true) = both (nat_le messages e.allocation.messages) (nat_le bits e.allocation.bits) fits in
        let fewer : messages ≤ e.allocation.messages = leb-true messages e.allocation.messages ok.0 in
        let less : bits ≤ e.allocation.bits = leb-true bits e.allocation.bits ok.1 in
        good_changed a k m p k0 (receives_on link) (returned messages bits) (notice.Returned e.own messages bits ∷ []) d e f refl (λ e r. r)
        (λ is l κ i. at_here a k m p (book.returned messages bits) e (returned messages bits e) l κ (all_told a (notice.Returned e.own messages bits ∷ []) κ) is (open_opened e o) (λ x. refl)
        (λ x t there s j. let off : sends x ≡ true → ⊥ = λ q. life_sends a k ⊥ e x is there (receiving_found link d e f) q in
        (returned_safe x t messages bits e.allocation off fewer less j.left s, returned_life p e x t messages bits off fewer less j)) refl refl i)
        (λ off. (own_off k e mine off, tt)) h
    by false fits = good_fault ERRONEOUS (command.Ret link messages bits) d h

  -- ---- all commands

  pub good_taken : (busy : List ℕ) (stamp : ℕ) (c : Command) (d : DeskState) → G d → G (desk_taken p busy stamp c d)
  good_taken busy stamp (command.Rts receive send link) d h = good_rts send receive link stamp d h
  good_taken busy stamp (command.Str send receive size) d h = good_str_by receive send size stamp _ d refl h
  good_taken busy stamp (command.Cls own foreign) d h = good_cls busy foreign own _ d h
  good_taken busy stamp (command.All link messages bits) d h =
      good_found (command.All link messages bits) _ (commands.all_taken link messages bits) d
      (λ e f o. good_sender link (λ e. counters.granted e.allocation messages bits) d e f o h) h
  good_taken busy stamp (command.Gvb link messages bits) d h =
      good_found (command.Gvb link messages bits) _ (gvb_taken link messages bits) d
      (λ e f o. let done : G (changed _ _ d) = good_sender link (λ e. counters.given_back e.allocation messages bits) d e f o h in
      record { refusing = done.refusing; on = done.on }) h
  good_taken busy stamp (command.Ret link messages bits) d h =
      good_found (command.Ret link messages bits) _ (ret_taken link messages bits) d (λ e f o. good_ret link messages bits d e f o h) h
  good_taken busy stamp (command.Inr link) d h =
      good_found (command.Inr link) _ interrupted d (λ e f o. good_aside a k m p k0 (notice.Interrupt e.own ∷ []) d (tt, tt) h) h
  good_taken busy stamp (command.Ins link) d h =
      good_found (command.Ins link) _ interrupted d (λ e f o. good_aside a k m p k0 (notice.Interrupt e.own ∷ []) d (tt, tt) h) h
  good_taken busy stamp (command.Eco octet) d h = good_queued a k m p k0 _ d h
  good_taken busy stamp (command.Erp octet) d h = good_aside a k m p k0 _ d (tt, tt) h
  good_taken busy stamp (command.Err code detail) d h = good_aside a k m p k0 _ d (tt, tt) h
  good_taken busy stamp c d h = h

  -- ---- data

  good_arrived : (link : ℕ) (text : List Bool) (g : Option DataHeader) (d : DeskState) (e : Entry) → header_of text ≡ g
      → find (receives_on link) d.entries ≡ Some e → is_open e ≡ true → G d → G (arrived_if link e text g d)
  good_arrived link text None d e headed f o h = record { refusing = h.refusing; on = h.on }
  good_arrived link text (Some g) d e headed f o h = by (is_acceptable e g) refl where
    mine : e.mine ≡ true
    mine = open_mine e (refusing_found _ d.entries e h.refusing f) o

    by : (b : Bool) → is_acceptable e g ≡ b
        → G (if b then arrived link e (data_bits g) text d else text_faulted ERRONEOUS text d)
    by true fits =
        let ok : (0 < e.allocation.messages) × (data_bits g ≤ e.allocation.bits) = covered _ e.allocation (both (is_size g.size e.size) (is_covered (data_bits g) e.allocation) fits).1 in
        let ds : List Bool = data_of (data_bits g) text in
        let whole : length ds ≡ data_bits g = bits_there text g headed in
        good_changed a k m p k0 (receives_on link) (spent (data_bits g)) (notice.Arrived e.own ds ∷ []) d e f refl (λ e r. r)
        (λ is l κ i. at_here a k m p (carried ds) e (spent (data_bits g) e) l κ (all_told a (notice.Arrived e.own ds ∷ []) κ) is (open_opened e o) (λ x. refl)
        (λ x t there s j. let off : sends x ≡ true → ⊥ = λ q. life_sends a k ⊥ e x is there (receiving_found link d e f) q in
        (taken_safe x t ds (data_bits g) e.allocation off ok whole (j.left (life_receives a k e x is there ∙ receiving_found link d e f)) s, taken_life p e x t ds _ off ok whole j)) refl refl i)
        (λ off. (own_off k e mine off, tt)) h
    by false fits = record { refusing = h.refusing; on = h.on }

  pub good_data : (link : ℕ) (text : List Bool) (d : DeskState) → G d → G (data_taken link text d)
  good_data link text d h = by (find (receives_on link) d.entries) refl where
    by : (o : Option Entry) → find (receives_on link) d.entries ≡ o → G (data_found link text (found_in o) d)
    by None f = record { refusing = h.refusing; on = h.on }
    by (Some e) f = open_by (is_open e) refl where
      open_by : (b : Bool) → is_open e ≡ b
          → G (data_found link text (if b then commands.Open e else (if is_ending e then commands.Ending else commands.Unconnected)) d)
      open_by true o = good_arrived link text (header_of text) d e refl f o h
      open_by false o = ending_by _ where
        ending_by : (b : Bool) → G (data_found link text (if b then commands.Ending else commands.Unconnected) d)
        ending_by true = h
        ending_by false = record { refusing = h.refusing; on = h.on }
