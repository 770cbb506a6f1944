-- What a user asks for, at one socket of the host.
use Rattle.world_keeps_lives.proofs.Common.{eqb-true, ltb-false, Host, not_false, or_false, is_receive_socket, is_send_socket, Allocation, Command, listens_on, without_listener, PairState, is_ready, Entry, Listener, both, NcpState, owner_of, pair_with, AreInOrder, Request, not_first, pair_changed, Life, IsPrefix, receives, AddsUp, AreRefusing, EachIn, EachOn, IsFresh, IsLifeOf, IsOwned, IsSafe, NoneOf, has_opened, mine_on}
use Rattle.std.proofs.Common.{◌≡◌, inl, inr, ℕ, ◌+◌, ◌≤◌, ◌==◌, ◌&&◌, Bool, true, false, not, nat_lt, if◌then◌else◌, List, [], ◌∷◌, ◌++◌, map, find, length, Option, Some, None, is_some, refl, ap, sym, subst, ◌∙◌, arith}
use Rattle.std.proofs.lemmas.List.{append_assoc, append-nil}
use Rattle.host_pairs.specs.Asked.{closed_end, commanded, contacted, interrupt_of, receiver_requested, requested, with_end, with_more_bits, contact_notices, passes}
use Rattle.host_pairs.specs.Entries.{called_off, changed_first, closed_when, entry_at, free_link, has_cls, is_mine_on, is_open, must_close, receiving_end, sending_end, was_closed}
use Rattle.sockets.specs.Requests.{at_owner, closed_socket, is_used, on_open, send_fault, grant_fault, is_taken, open_receive_refusal, open_send_refusal, refusal, served, served_notices, with_peer}
use Rattle.net_sim.specs.Book.{Kept, all_told, asked, handed_to, lives_at, where_it}
use Rattle.ncp_control.specs.declared.command.Command.TheVariants as command
use Rattle.host_pairs.specs.Commands.{granted}
use Rattle.host_pairs.specs.Parcels.{link_of}
use Rattle.host_pairs.specs.declared.notice.Notice.TheVariants as notice
use Rattle.sockets.specs.declared.request.Request.TheVariants as request
use Rattle.net_sim.specs.Book as book
use Rattle.world_keeps_lives.proofs.Ends.{IsRefusing, mine_append, mine_one, refusing_append, refusing_changed, refusing_mapped, split}
use Rattle.world_keeps_lives.proofs.Books.{each_apart, each_handed, each_weaker, other_socket, there_at}
use Rattle.world_keeps_lives.proofs.Desks.{At, Elsewhere, Near, Place, at_changed, at_lessened, at_mapped, at_same, clash, open_opened, open_parts, own_is}
use Rattle.world_keeps_lives.proofs.Steps.{called_drains, called_less, closed_drains, closed_less, refuses_due, refuses_when}
use Rattle.world_keeps_lives.proofs.Takes.{at_here}
use Rattle.world_keeps_lives.proofs.Hosts.{Done, Holds, IsPut, lift, lifted, near}
use Rattle.world_keeps_lives.proofs.Owners.{owner_found, unused}
use Rattle.world_keeps_lives.proofs.Turns.{cleared_on}

-- ---- accounts

-- what isn't refused stays within the counters
abbrev Fits : Allocation → ℕ → ℕ → Type 0
Fits c messages bits = (c.messages + messages ≤ 65535) × (c.bits + bits ≤ 4294967295)

fits : (c : Allocation) (messages bits : ℕ) → passes c messages bits ≡ false → Fits c messages bits
fits c messages bits may =
    let each : (nat_lt 65535 (c.messages + messages) ≡ false) × (nat_lt 4294967295 (c.bits + bits) ≡ false) = or_false (nat_lt 65535 (c.messages + messages)) _ may in
    (ltb-false 65535 (c.messages + messages) each.0, ltb-false 4294967295 (c.bits + bits) each.1)

granted_safe : (messages bits : ℕ) (x : Life) (t : List Bool) (c : Allocation) → Fits c messages bits → (receives x ≡ true → AddsUp x c) → IsSafe x t → IsSafe (book.granted messages bits x) t
granted_safe messages bits x t c ok i s = record {
  front = s.front;
  within = λ r. record { messages = omega (arith, (s.within r).messages); bits = omega (arith, (s.within r).bits) };
  bounded = λ r. record { messages = omega (arith, ok.0, (i r).messages); bits = omega (arith, ok.1, (i r).bits) };
}

granted_life : (p : Host) (messages bits : ℕ) (e : Entry) (x : Life) (t : List Bool) → Fits e.allocation messages bits → IsLifeOf p e x t → IsLifeOf p (granted messages bits e) (book.granted messages bits x) t
granted_life p messages bits e x t ok i = record {
  peers = i.peers;
  foreign = i.foreign;
  own = i.own;
  partner = i.partner;
  waits = i.waits;
  drained = i.drained;
  left = λ r. record { messages = omega (arith, ok.0, (i.left r).messages); bits = omega (arith, ok.1, (i.left r).bits) };
}

more_safe : (bits : List Bool) (x : Life) (t : List Bool) → IsSafe x t → IsSafe x (t ++ bits)
more_safe bits x t s = record { front = λ q. let f : IsPrefix x.bits t = s.front q in (f.0 ++ bits, sym (append_assoc x.bits f.0 bits) ∙ ap (λ (l : List Bool). l ++ bits) f.1); within = s.within; bounded = s.bounded }

more_life : (p : Host) (bits : List Bool) (e : Entry) (x : Life) (t : List Bool) → is_open e ≡ true → IsLifeOf p e x t → IsLifeOf p (with_more_bits bits e) x (t ++ bits)
more_life p bits e x t open_end i = record {
  peers = i.peers;
  foreign = i.foreign;
  own = i.own;
  partner = i.partner;
  drained = λ q r s c f. clash _ (has_cls e.closing) c (open_parts e open_end).unclosed;
  waits = λ o q. ap (λ (l : List Bool). l ++ bits) (i.waits o q) ∙ append_assoc x.bits e.bits bits;
  left = i.left;
}

module _ (a : Host) (k : ℕ) where
  -- what else is kept
  pub holds_same : (s : NcpState) (κ next : Kept) → ((P : Life → List Bool → Type 0) → EachIn a k P κ → EachIn a k P next) → Holds a k s κ → Holds a k s next
  holds_same s κ next w h = record {
    steady = h.steady;
    socket = elim h.socket [
      | inl f ↦ inl (record { none = f.none; lives = w NoneOf f.lives })
      | inr o ↦ inr (record { peer = o.peer; end = o.end; one = o.one; others = o.others; silent = o.silent; fresh = o.fresh; lives = w (IsLifeOf o.peer o.end) o.lives })
    ];
  }

  put_peer : (s : NcpState) (p : Host) (change : PairState → PairState) → IsPut s (with_peer s p change) p (change (pair_with p s.peers))
  put_peer s p change = record { pairs = λ h. pair_changed p h (change (pair_with p s.peers)) s.peers }

  -- what changes no end
  peer_holds : (s : NcpState) (p : Host) (change : PairState → PairState) (κ : Kept) → ((q : PairState) → ((change q).entries ≡ q.entries) × ((change q).phase ≡ q.phase)) → Holds a k s κ → Holds a k (with_peer s p change) κ
  peer_holds s p change κ same h =
      let q : PairState = pair_with p s.peers in
      lift a k s (with_peer s p change) p (change q) κ κ (put_peer s p change)
      (λ m d. record {
        refusing = subst (λ (es : List Entry). AreRefusing es) (sym (same q).0) d.refusing;
        idle = λ i. (same q).0 ∙ d.idle (ap is_ready (sym (same q).1) ∙ i);
        on = subst (λ (es : List Entry). At a k m p (mine_on k es) (listens_on k s.listening) κ) (sym (same q).0) d.on;
      }) h

  owner_holds : (s : NcpState) (o : Option (Host × Entry)) (change : Entry → PairState → PairState) (κ : Kept) → ((e : Entry) (q : PairState) → ((change e q).entries ≡ q.entries) × ((change e q).phase ≡ q.phase)) → Holds a k s κ → Holds a k (at_owner s o change) κ
  owner_holds s None change κ same h = h
  owner_holds s (Some (g, e)) change κ same h = peer_holds s g (change e) κ (same e) h

  -- a contact
  contact_holds : (s : NcpState) (p : Host) (κ next : Kept) → ((P : Life → List Bool → Type 0) → EachIn a k P κ → EachIn a k P next) → Holds a k s κ → Holds a k (with_peer s p contacted) (all_told a (contact_notices p (pair_with p s.peers).phase) next)
  contact_holds s p κ next w h =
      lift a k s (with_peer s p contacted) p (contacted (pair_with p s.peers)) κ (all_told a (contact_notices p (pair_with p s.peers).phase) next) (put_peer s p contacted)
      (λ m d. record { refusing = tt; idle = λ i. refl; on = by m d (is_ready (pair_with p s.peers).phase) refl }) h where
        by : (m : Place) → Done a k m p (pair_with p s.peers) (listens_on k s.listening) κ → (b : Bool) → is_ready (pair_with p s.peers).phase ≡ b
            → At a k m p [] (listens_on k s.listening) (all_told a (if b then notice.PairReset p ∷ [] else []) next)
        by m d true e = cleared_on a k m p next (mine_on k (pair_with p s.peers).entries) (listens_on k s.listening) next (at_same a k m p _ _ κ next w d.on)
        by m d false e = at_same a k m p [] _ κ next w (subst (λ (es : List Entry). At a k m p (mine_on k es) (listens_on k s.listening) κ) (d.idle e) d.on)

  -- a socket that listens
  listen_holds : (s : NcpState) (l : Listener) (κ : Kept) → is_used s l.socket ≡ false → Holds a k s κ → Holds a k (record s { listening = s.listening ++ l ∷ [] }) κ
  listen_holds s l κ off h = record {
    steady = record { refusing = h.steady.refusing; idle = h.steady.idle };
    socket = elim h.socket [
      | inl f ↦ inl (record { none = f.none; lives = f.lives })
      | inr o ↦ inr (record { peer = o.peer; end = o.end; one = o.one; others = o.others; silent = silent s.listening (other o _ refl) o.silent; fresh = o.fresh; lives = o.lives })
    ];
  } where
    other : IsOwned a k s κ → (b : Bool) → (l.socket == k) ≡ b → (l.socket == k) ≡ false
    other o true e = absurd (unused a k s κ (subst (λ (n : ℕ). is_used s n ≡ false) (eqb-true l.socket k e) off) o)
    other o false e = e

    silent : (ls : List Listener) → (l.socket == k) ≡ false → listens_on k ls ≡ false → listens_on k (ls ++ l ∷ []) ≡ false
    silent [] away e = rw away refl
    silent (x ∷ ls) away e = let p : ((x.socket == k) ≡ false) × (listens_on k ls ≡ false) = or_false (x.socket == k) _ e in rw p.0 (silent ls away p.1)

  unlistened : (ls : List Listener) (j : ℕ) → listens_on k ls ≡ false → listens_on k (without_listener j ls) ≡ false
  unlistened [] j e = e
  unlistened (x ∷ ls) j e = by (unlistened ls j (or_false (x.socket == k) _ e).1) (x.socket == j) refl where
    by : listens_on k (without_listener j ls) ≡ false → (b : Bool) → (x.socket == j) ≡ b → listens_on k (without_listener j (x ∷ ls)) ≡ false
    by rest true f = rw f rest
    by rest false f = rw (f, (or_false (x.socket == k) _ e).0) rest

  unlisten_holds : (s : NcpState) (j : ℕ) (κ : Kept) → Holds a k s κ → Holds a k (record s { listening = without_listener j s.listening }) κ
  unlisten_holds s j κ h = record {
    steady = record { refusing = h.steady.refusing; idle = h.steady.idle };
    socket = elim h.socket [
      | inl f ↦ inl (record { none = f.none; lives = f.lives })
      | inr o ↦ inr (record { peer = o.peer; end = o.end; one = o.one; others = o.others; silent = unlistened s.listening j o.silent; fresh = o.fresh; lives = o.lives })
    ];
  }

  -- an end that closes
  close_holds : (s : NcpState) (p : Host) (socket : ℕ) (κ : Kept) → Holds a k s κ → Holds a k (with_peer s p (closed_end socket)) κ
  close_holds s p socket κ h =
      lift a k s (with_peer s p (closed_end socket)) p (closed_end socket _) κ κ (put_peer s p (closed_end socket)) (λ m d. closes m (pair_with p s.peers) (listens_on k s.listening) d) h where
        closes : (m : Place) (q : PairState) (l : Bool) → Done a k m p q l κ → Done a k m p (closed_end socket q) l κ
        closes m q l d = record {
          refusing = refusing_settled _ (refusing_changed _ called_off q.entries refuses_due d.refusing);
          idle = λ i. ap (λ (es : List Entry). map (λ e. closed_when (must_close q.busy e) e) (changed_first (is_mine_on socket) called_off es)) (d.idle i);
          on = at_mapped a k m p _ (changed_first (is_mine_on socket) called_off q.entries) l κ (λ e. closed_less (must_close q.busy e) e) (closed_drains q.busy)
              (at_lessened a k m p _ called_off q.entries l κ called_less called_drains d.on);
        } where
          refusing_settled : (es : List Entry) → AreRefusing es → AreRefusing (map (λ e. closed_when (must_close q.busy e) e) es)
          refusing_settled es h = refusing_mapped _ es (λ e. refuses_when (must_close q.busy e) e) h

  -- a new end
  begin_holds : (s : NcpState) (p : Host) (e : Entry) (c : Command) (κ : Kept) → e.mine ≡ true → IsFresh e → is_ready (pair_with p s.peers).phase ≡ true → is_used s e.own ≡ false → Holds a k s κ → Holds a k (with_peer s p (requested e c)) κ
  begin_holds s p e c κ mine fresh ready off h = by (e.own == k) refl where
    q : PairState
    q = requested e c (pair_with p s.peers)

    new : NcpState
    new = with_peer s p (requested e c)

    is : (b : Bool) → (e.own == k) ≡ b → is_mine_on k e ≡ b
    is b f = ap (λ (v : Bool). v && e.own == k) mine ∙ f

    grown : (b : Bool) → (e.own == k) ≡ b → mine_on k ((pair_with p s.peers).entries ++ e ∷ []) ≡ mine_on k (pair_with p s.peers).entries ++ (if b then e ∷ [] else [])
    grown b f = mine_append k (pair_with p s.peers).entries (e ∷ []) ∙ ap (λ (ys : List Entry). mine_on k (pair_with p s.peers).entries ++ ys) (mine_one k e [] b (is b f))

    refuses : AreRefusing (pair_with p s.peers).entries → AreRefusing ((pair_with p s.peers).entries ++ e ∷ [])
    refuses r = refusing_append (pair_with p s.peers).entries (e ∷ []) r ((λ f. clash _ e.mine mine f), tt)

    by : (b : Bool) → (e.own == k) ≡ b → Holds a k (with_peer s p (requested e c)) κ
    by false f =
        lift a k s (with_peer s p (requested e c)) p (requested e c (pair_with p s.peers)) κ κ (put_peer s p (requested e c))
        (λ m d. record {
          refusing = refuses d.refusing;
          idle = λ i. clash _ (is_ready (pair_with p s.peers).phase) ready i;
          on = subst (λ (ys : List Entry). At a k m p ys (listens_on k s.listening) κ) (sym (grown false f ∙ append-nil (mine_on k (pair_with p s.peers).entries))) d.on;
        }) h
    by true f = elim h.socket [
      | inr o ↦ absurd (unused a k s κ (subst (λ (n : ℕ). is_used s n ≡ false) (eqb-true e.own k f) off) o)
      | inl r ↦
          (let ms : mine_on k ((pair_with p s.peers).entries ++ e ∷ []) ≡ e ∷ [] = grown true f ∙ ap (λ (ys : List Entry). ys ++ e ∷ []) (r.none p) in
          let silent : listens_on k s.listening ≡ false = (or_false (listens_on k s.listening) _ (subst (λ (n : ℕ). is_used s n ≡ false) (eqb-true e.own k f) off)).0 in
          let on : At a k Near p (e ∷ []) false κ = (fresh, each_weaker a k NoneOf _ κ.book.lives κ.handed (λ x t there none. absurd none) r.lives) in
          let d : Done a k Near p (requested e c (pair_with p s.peers)) (listens_on k s.listening) κ = record {
            refusing = refuses (h.steady.refusing p);
            idle = λ i. clash _ (is_ready (pair_with p s.peers).phase) ready i;
            on = subst (λ (ys : List Entry). At a k Near p ys (listens_on k s.listening) κ) (sym ms) (subst (λ (b : Bool). At a k Near p (e ∷ []) b κ) (sym silent) on);
          } in
          record {
            steady = lifted a k s (with_peer s p (requested e c)) p (requested e c (pair_with p s.peers)) κ κ (put_peer s p (requested e c)) Near d h.steady;
            socket = near a k s (with_peer s p (requested e c)) p (requested e c (pair_with p s.peers)) κ κ (put_peer s p (requested e c)) (λ g is. r.none g) (e ∷ []) false ms silent on;
          })
    ]

  -- an end that is open is changed, and its lives with it
  open_holds : (s : NcpState) (p : Host) (socket : ℕ) (change : Entry → Entry) (extra : PairState → PairState) (e : Entry) (κ next : Kept) → find (is_mine_on socket) (pair_with p s.peers).entries ≡ Some e
      → is_mine_on k (change e) ≡ is_mine_on k e → ((e : Entry) → IsRefusing e → IsRefusing (change e))
      → ((q : PairState) → ((extra q).entries ≡ q.entries) × ((extra q).phase ≡ q.phase))
      → (is_mine_on k e ≡ true → (m : Place) (l : Bool) → At a k m p (e ∷ []) l κ → At a k m p (change e ∷ []) l next)
      → ((socket == k) ≡ false → (P : Life → List Bool → Type 0) → EachIn a k P κ → EachIn a k P next)
      → Holds a k s κ → Holds a k (with_peer s p (λ q. extra (with_end socket change q))) next
  open_holds s p socket change extra e κ next found keeps refuses same here away h =
      let q : PairState = pair_with p s.peers in
      lift a k s (with_peer s p (λ q. extra (with_end socket change q))) p (extra (with_end socket change q)) κ next (put_peer s p (λ q. extra (with_end socket change q)))
      (λ m d. record {
        refusing = subst (λ (es : List Entry). AreRefusing es) (sym (same (with_end socket change q)).0) (refusing_changed _ change q.entries refuses d.refusing);
        idle = λ i. (same (with_end socket change q)).0 ∙ ap (λ (es : List Entry). changed_first (is_mine_on socket) change es) (d.idle (ap is_ready (sym (same (with_end socket change q)).1) ∙ i));
        on = subst (λ (es : List Entry). At a k m p (mine_on k es) (listens_on k s.listening) next) (sym (same (with_end socket change q)).0)
            (at_changed a k m p _ change q.entries _ κ next e found keeps (λ is i. here is m _ i)
            (λ off ms i. at_same a k m p ms (listens_on k s.listening) κ next (away (apart off (socket == k) refl)) i) d.on);
      }) h where
        apart : is_mine_on k e ≡ false → (b : Bool) → (socket == k) ≡ b → (socket == k) ≡ false
        apart off true f =
            let passes : is_mine_on socket e ≡ true = (split (is_mine_on socket) change (pair_with p s.peers).entries e found).passes in
            clash _ (is_mine_on k e) (subst (λ (n : ℕ). is_mine_on n e ≡ true) (eqb-true socket k f) passes) off
        apart off false f = f

  -- bits that wait are more, and so is what was handed over
  at_handed : (m : Place) (p : Host) (e : Entry) (socket : ℕ) (bits : List Bool) (l : Bool) (κ next : Kept) → (socket == k) ≡ true → is_open e ≡ true → next.book.lives ≡ κ.book.lives → next.handed ≡ handed_to (lives_at a socket) bits κ.book.lives κ.handed
      → At a k m p (e ∷ []) l κ → At a k m p (with_more_bits bits e ∷ []) l next
  at_handed Near p e socket bits false κ next is opened lives handed h =
      let own : socket ≡ k = eqb-true socket k is in
      let done : EachOn a k (IsLifeOf p (with_more_bits bits e)) κ.book.lives (handed_to (lives_at a k) bits κ.book.lives κ.handed) =
      each_handed a k _ bits _ _ κ.book.lives κ.handed
      (λ x t there on o. (more_safe bits x t o.0, λ goes. more_life p bits e x t opened (o.1 goes)))
      (λ x t there off o. (o.0, λ goes. clash _ x.ended (there_at a k x there off) goes)) h.1 in
      let moved : EachOn a k (IsLifeOf p (with_more_bits bits e)) κ.book.lives (handed_to (lives_at a socket) bits κ.book.lives κ.handed) =
      subst (λ (n : ℕ). EachOn a k (IsLifeOf p (with_more_bits bits e)) κ.book.lives (handed_to (lives_at a n) bits κ.book.lives κ.handed)) (sym own) done in (
        (λ unopen. clash _ (has_opened e) (open_opened e opened) unopen),
        subst (λ (hs : List (List Bool)). EachOn a k (IsLifeOf p (with_more_bits bits e)) next.book.lives hs) (sym handed)
            (subst (λ (ls : List Life). EachOn a k (IsLifeOf p (with_more_bits bits e)) ls (handed_to (lives_at a socket) bits κ.book.lives κ.handed)) (sym lives) moved),
      )
  at_handed Near p e socket bits true κ next is opened lives handed h = absurd h
  at_handed (Elsewhere g y) p e socket bits l κ next is opened lives handed h = absurd h

  send_holds : (s : NcpState) (socket : ℕ) (bits : List Bool) (κ : Kept) (o : Option (Host × Entry)) → owner_of socket s.peers ≡ o → AreInOrder s.peers → on_open (send_fault (length bits)) o ≡ None → Holds a k s κ
      → Holds a k (at_owner s o (λ e. with_end socket (with_more_bits bits))) (asked a (request.Send socket bits) κ)
  send_holds s socket bits κ None f order may h = absurd (cc)
  send_holds s socket bits κ (Some (g, e)) f order may h =
      let found : find (is_mine_on socket) (pair_with g s.peers).entries ≡ Some e = owner_found socket s.peers g e order f in
      let opened : is_open e ≡ true = not_false (is_open e) (not_first _ _ _ may).0 in
      let own : e.own ≡ socket = own_is socket e (split (is_mine_on socket) (λ y. y) (pair_with g s.peers).entries e found).passes in
      open_holds s g socket _ (λ q. q) e κ _ found refl (λ e r. r) (λ q. (refl, refl))
      (λ is m l i. at_handed m g e socket bits l κ (asked a (request.Send socket bits) κ) (subst (λ (n : ℕ). (n == k) ≡ true) own (both e.mine (e.own == k) is).1) opened refl refl i)
      (λ off P i. each_handed a k (lives_at a socket) bits P P κ.book.lives κ.handed (λ x t there on o. absurd (other_socket a k a socket x off there on)) (λ x t there out o. o) i) h

  grant_holds : (s : NcpState) (socket messages bits : ℕ) (κ : Kept) (o : Option (Host × Entry)) → owner_of socket s.peers ≡ o → AreInOrder s.peers → on_open (grant_fault messages bits) o ≡ None → Holds a k s κ
      → Holds a k (at_owner s o (λ e q. commanded (command.All (link_of e.link) messages bits) (with_end socket (granted messages bits) q))) (asked a (request.Grant socket messages bits) κ)
  grant_holds s socket messages bits κ None f order may h = absurd (cc)
  grant_holds s socket messages bits κ (Some (g, e)) f order may h =
      let found : find (is_mine_on socket) (pair_with g s.peers).entries ≡ Some e = owner_found socket s.peers g e order f in
      let opened : has_opened e ≡ true = open_opened e (not_false (is_open e) (not_first _ _ _ may).0) in
      let ok : Fits e.allocation messages bits = fits e.allocation messages bits (not_first _ _ _ (not_first (was_closed e) _ _ (not_first (not (is_open e)) _ _ may).1).1).0 in
      let own : e.own ≡ socket = own_is socket e (split (is_mine_on socket) (λ y. y) (pair_with g s.peers).entries e found).passes in
      open_holds s g socket (granted messages bits) (commanded (command.All (link_of e.link) messages bits)) e κ _ found refl (λ e r. r) (λ q. (refl, refl))
      (λ is m l i. at_here a k m g (book.granted messages bits) e (granted messages bits e) l κ (asked a (request.Grant socket messages bits) κ) is opened (λ x. refl)
      (λ x t there safe j. (granted_safe messages bits x t e.allocation ok j.left safe, granted_life g messages bits e x t ok j))
      (ap (λ (n : ℕ). where_it (lives_at a n) (book.granted messages bits) κ.book.lives) (sym own)) refl i)
      (λ off P i. each_apart a k (lives_at a socket) (book.granted messages bits) P κ.book.lives κ.handed (λ x. refl) (λ x. other_socket a k a socket x off) i) h

  -- ---- all that a user asks for

  used_send : (s : NcpState) (p : Host) (own foreign size : ℕ) → open_send_refusal s p own foreign size ≡ None → (is_ready (pair_with p s.peers).phase ≡ true) × (is_used s own ≡ false)
  used_send s p own foreign size e =
      let first : (not (is_ready (pair_with p s.peers).phase) ≡ false) × _ = not_first _ _ _ e in (
        not_false _ first.0,
        (or_false (is_used s own) _ (not_first _ _ _ (not_first _ _ _ first.1).1).0).0,
      )

  used_receive : (s : NcpState) (p : Host) (own foreign : ℕ) → open_receive_refusal s p own foreign ≡ None → (is_ready (pair_with p s.peers).phase ≡ true) × (is_used s own ≡ false)
  used_receive s p own foreign e =
      let first : (not (is_ready (pair_with p s.peers).phase) ≡ false) × _ = not_first _ _ _ e in (
        not_false _ first.0,
        (or_false (is_used s own) _ (not_first _ _ _ (not_first _ _ _ first.1).1).0).0,
      )

  receive_holds : (s : NcpState) (p : Host) (own foreign : ℕ) (κ : Kept) → (is_ready (pair_with p s.peers).phase ≡ true) × (is_used s own ≡ false) → (o : Option ℕ) → Holds a k s κ → Holds a k (with_peer s p (receiver_requested own foreign o)) κ
  receive_holds s p own foreign κ may None h = peer_holds s p (receiver_requested own foreign None) κ (λ q. (refl, refl)) h
  receive_holds s p own foreign κ may (Some link) h = begin_holds s p _ _ κ refl (λ f. (refl, refl)) may.0 may.1 h

  closing_holds : (s : NcpState) (socket : ℕ) (κ : Kept) → Holds a k s κ → Holds a k (closed_socket s socket) κ
  closing_holds s socket κ h = by (listens_on socket s.listening) (owner_of socket s.peers) where
    by : (b : Bool) (o : Option (Host × Entry)) → Holds a k (if b then record s { listening = without_listener socket s.listening } else at_owner s o (λ e. closed_end socket)) κ
    by true o = unlisten_holds s socket κ h
    by false None = h
    by false (Some (g, e)) = close_holds s g socket κ h

  pub request_holds : (s : NcpState) (r : Request) (κ : Kept) → AreInOrder s.peers → refusal s r ≡ None → Holds a k s κ → Holds a k (served s r) (all_told a (served_notices s r) (asked a r κ))
  unfolding served served_notices refusal
  request_holds s (request.Contact p) κ order may h = contact_holds s p κ _ (λ P e. e) h
  request_holds s (request.Listen socket size) κ order may h =
      holds_same _ κ _ (λ P e. e) (listen_holds s _ κ (not_first _ _ _ may).0 h)
  request_holds s (request.OpenSend p own foreign size) κ order may h =
      let ok : (is_ready (pair_with p s.peers).phase ≡ true) × (is_used s own ≡ false) = used_send s p own foreign size may in
      holds_same _ κ _ (λ P e. e)
      (begin_holds s p _ _ κ refl (λ f. (refl, refl)) ok.0 ok.1 h)
  request_holds s (request.OpenReceive p own foreign) κ order may h =
      holds_same _ κ _ (λ P e. e)
      (receive_holds s p own foreign κ (used_receive s p own foreign may) _ h)
  request_holds s (request.Send socket bits) κ order may h = send_holds s socket bits κ _ refl order (not_first _ _ _ may).1 h
  request_holds s (request.Grant socket messages bits) κ order may h = grant_holds s socket messages bits κ _ refl order (not_first _ _ _ may).1 h
  request_holds s (request.AskBack socket messages bits) κ order may h =
      holds_same _ κ _ (λ P e. e)
      (owner_holds s _ _ κ (λ e q. (refl, refl)) h)
  request_holds s (request.Interrupt socket) κ order may h =
      holds_same _ κ _ (λ P e. e)
      (owner_holds s _ _ κ (λ e q. (refl, refl)) h)
  request_holds s (request.Close socket) κ order may h = holds_same _ κ _ (λ P e. e) (closing_holds s socket κ h)
  request_holds s (request.Echo p octet) κ order may h =
      holds_same _ κ _ (λ P e. e) (peer_holds s p (commanded (command.Eco octet)) κ (λ q. (refl, refl)) h)
