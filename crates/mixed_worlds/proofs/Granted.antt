-- What each life that sends has sent, and what its end may still send, is within what its peer granted, from one moment
-- to the next, whatever that sends.
use Rattle.mixed_worlds.proofs.Common.{Contains, Host, same_host, Crossing, HostMessage, is_receive_socket, Command, Order, orders_of, Entry, sends, control_flow, Life, accepted, NcpState, pair_with, Request, next_in, offered, Peer, Asked, Crossed, Moment, places, program, crossings_of, places_same, IsMixed, mixed_kept, Flow, Allocation, Amount}
use Rattle.std.proofs.Common.{◌≡◌, ◌⊎◌, inl, inr, ℕ, ◌*◌, ◌+◌, ◌<◌, ◌&&◌, Bool, true, false, if◌then◌else◌, List, [], ◌∷◌, ◌++◌, find, length, take, Some, None, refl, ap, sym, subst, ◌∙◌, arith, eq-eqb, not, ◌==◌}
use Rattle.interface.proofs.lemmas.{same_host-refl, same_host-true, not_false, same_flow-refl}
use Rattle.host_pairs.specs.Entries.{is_mine_on, changed_first}
use Rattle.host_pairs.specs.Parcels.{bits_gone, may_send_on, link_of}
use Rattle.interface.specs.Mailboxes.{same_flow}
use Rattle.net_sim.specs.Book.{carried, nothing}
use Rattle.world_keeps_lives.proofs.lemmas.{Each, Ends, each_in, each_of, each_weaker, MayGrant}
use Rattle.world_keeps_lives.specs.Lives.{IsFreeSocket, IsOwned, mine_on}
use Rattle.mixed_worlds.proofs.Moments.{Orders, older}
use Rattle.std.specs.Prelude.{All, ◌≤◌, nat_le, nat_lt}
use Rattle.std.proofs.lemmas.Bool.{le-leb, lt-ltb}
use Rattle.std.proofs.lemmas.List.{length-append, length-take-le}
use Rattle.interface.specs.declared.crossing.Crossing.TheVariants as crossing
use Rattle.interface.specs.declared.crossing.Inbound.TheVariants as inbound
use Rattle.ncp_control.specs.Allocation as counters
use Rattle.host_pairs.specs.Allowed.{MaySend}
use Rattle.host_pairs.specs.Parcels as parcel
use Rattle.sockets.specs.Requests.{refusal}
use Rattle.sockets.specs.declared.request.Request.TheVariants as request
use Rattle.sockets.proofs.lemmas.{not_first}
use Rattle.mixed_worlds.specs.Toward.{granted_at, granted_in, granted_to, may_grant}
use Rattle.mixed_worlds.proofs.DataNotices.{bytes_left}
use Rattle.mixed_worlds.proofs.EndMoments.{Moves, moves_ends}
use Rattle.mixed_worlds.proofs.Rooms.{Asks, AtMost, Going, IsNow, IsRoom, Share, Within, asking, goes}
use Rattle.mixed_worlds.proofs.Rooms.{going_leaves, heard, leaves_of, nobody_passes, off as off_socket, one_passes, starts_so}
use Rattle.mixed_worlds.proofs.Sockets.{fit, held, own_request}

abbrev pub IsNew : Life → Type 0
IsNew x = (x.messages ≡ 0) × (x.bits ≡ [])

abbrev pub share_of : Life → Share
share_of x = record {
  socket = x.socket;
  own = x.own_stamp;
  partner = x.partner_stamp;
  messages = x.messages;
  bits = length x.bits;
}

-- there is room for what each end of a life's socket and stamps may still send
abbrev pub HasRoom : Life → List Crossing → ℕ → NcpState → Type 0
HasRoom x log n s = Each (Within (share_of x) (λ l. granted_to x l log) n n []) (pair_with x.peer s.peers).entries

-- and for what it sent
abbrev pub AreWithin : Life → ℕ → List Crossing → Type 0
AreWithin x link log = (x.messages ≤ (granted_to x link log).messages)
    × (length x.bits ≤ (granted_to x link log).bits)

-- ---- more time, and more that is granted

wider : (x : Share) (t u : ℕ → Amount) (n m k j : ℕ)
    → ((l : ℕ) → AtMost (t l) (u l)) → n ≤ m → k ≤ j → (e : Entry)
    → Within x t n k [] e → Within x u m j [] e
wider x t u n m k j more longer further e h = record {
  early = λ a is. (let r : a < n = h.early a is in omega (arith, r, longer));
  answered = λ mine b is. (let r : b < k = h.answered mine b is in omega (arith, r, further));
  fresh = h.fresh;
  held = λ mine own asked partner l link.
      (let r : IsRoom x (t l) (granted_in l []) e.allocation = h.held mine own asked partner l link in
      let g : AtMost (t l) (u l) = more l in
      record { messages = omega (arith, r.messages, g.0); bits = omega (arith, r.bits, g.1) });
}

pub no_less : (x : Life) (y : Moment) (moments : List Moment) (l : ℕ)
    → AtMost (granted_to x l (crossings_of moments)) (granted_to x l (crossings_of (y ∷ moments)))
no_less x (Crossed c) moments l = (omega arith, omega arith)
no_less x (Asked g r) moments l = (omega arith, omega arith)

-- what a control message of the peer grants
granted_here : (x : Life) (m : HostMessage) (n : ℕ) → m.flow ≡ control_flow x.peer x.host → x.own_stamp < n
    → x.partner_stamp ≤ n → (l : ℕ) → granted_at x l n (crossing.In m) ≡ granted_in l (orders_of m.text)
granted_here x m n flow own partner l =
    let same : same_flow (control_flow x.peer x.host) m.flow ≡ true = subst
    (λ (f : Flow). same_flow (control_flow x.peer x.host) f ≡ true) (sym flow)
    (same_flow-refl (control_flow x.peer x.host)) in
    let after : nat_lt x.own_stamp n ≡ true = lt-ltb x.own_stamp n own in
    let from : nat_le x.partner_stamp n ≡ true = le-leb x.partner_stamp n partner in
    let may : (may_grant x n && same_flow (control_flow x.peer x.host) m.flow) ≡ true = rw (after, from, same) refl in
    ap (λ (b : Bool). if b then granted_in l (orders_of m.text) else nothing) may

-- of the elements after a change of the first that passes, the changed one is one
gone_there : {A : Type 0} (Q : A → Type 0) (test : A → Bool) (change : A → A) (xs : List A) (e : A)
    → find test xs ≡ Some e → Each Q (changed_first test change xs) → Q (change e)
gone_there Q test change [] e found h = absurd (let clash : None ≡ Some e = found in cc)
gone_there {A} Q test change (x ∷ xs) e found h =
    by (test x) found h (λ f k. gone_there Q test change xs e f k) where
      by : (b : Bool) → (if b then Some x else find test xs) ≡ Some e
          → Each Q (if b then change x ∷ xs else x ∷ changed_first test change xs)
          → (find test xs ≡ Some e → Each Q (changed_first test change xs) → Q (change e)) → Q (change e)
      by true f k rest = let same : x ≡ e = cc in subst (λ (y : A). Q (change y)) same k.0
      by false f k rest = rest f k.1

-- a message takes itself and its bits
room_left : (x : Life) (bits : List Bool) (n : ℕ) (a : Allocation) (t u : Amount) → length bits ≡ n → 0 < a.messages
    → n ≤ a.bits → t.messages ≤ u.messages → t.bits ≤ u.bits
    → IsRoom (share_of x) t (record { messages = 0; bits = 0 }) a
    → IsRoom (share_of (carried bits x)) u (record { messages = 0; bits = 0 }) (counters.spent a n)
room_left x bits n a t u long some enough more further r = record {
  messages = omega (arith, r.messages, some, more);
  bits = (let whole : length (x.bits ++ bits) ≡ length x.bits + length bits = length-append x.bits bits in
      omega (arith, r.bits, enough, further, whole, long));
}

module _ (orders : Orders) (strange : Host → Bool) (hosts : List Host) (x : Life) (off : strange x.host ≡ false)
    (sending : sends x ≡ true) where
  abbrev total : List Moment → ℕ → Amount
  total moments = λ l. granted_to x l (crossings_of moments)

  abbrev pub Room : List Moment → Type 0
  Room moments = HasRoom x (crossings_of moments) (places moments) (program x.host moments)

  module _ (moments : List Moment) (own_new : x.own_stamp ≡ places moments → IsNew x)
      (partner_new : x.partner_stamp ≡ places moments → IsNew x) (old : Room moments) where
    abbrev here : List Entry
    here = (pair_with x.peer (program x.host moments).peers).entries

    abbrev After : Moment → Entry → Type 0
    After y = Within (share_of x) (total (y ∷ moments)) (places (y ∷ moments)) (places (y ∷ moments)) []

    later : (y : Moment) → places moments ≤ places (y ∷ moments)
    later (Crossed c) = omega arith
    later (Asked g r) = omega arith

    widened : (y : Moment) → Each (After y) here
    widened y = each_weaker (Within (share_of x) (total moments) (places moments) (places moments) []) (After y) here
        (wider (share_of x) (total moments) (total (y ∷ moments)) (places moments) (places (y ∷ moments))
        (places moments) (places (y ∷ moments)) (no_less x y moments) (later y) (later y))
        old

    moved : (y : Moment) → IsMixed strange hosts (y ∷ moments)
        → Moves orders strange hosts x.host off x.peer moments (After y) y → Room (y ∷ moments)
    moved y mixed moves =
        moves_ends orders strange hosts x.host off x.peer moments (After y)
        (leaves_of (share_of x) (total (y ∷ moments)) x.peer (places (y ∷ moments)) (places (y ∷ moments)) [])
        y mixed moves (widened y)

    -- ---- a control message of the peer

    module _ (m : HostMessage) (flow : m.flow ≡ control_flow x.peer x.host) where
      abbrev its : List Order
      its = orders_of m.text

      abbrev with_it : ℕ → Amount
      with_it = total (Crossed (crossing.In m) ∷ moments)

      abbrev IsIn : ℕ → Type 0
      IsIn l = AtMost (granted_in l its) (granted_at x l (length (crossings_of moments)) (crossing.In m))

      grants : x.own_stamp < places moments → x.partner_stamp ≤ places moments → (l : ℕ) → IsIn l
      grants own partner l = subst (λ (a : Amount). AtMost (granted_in l its) a)
          (sym (granted_here x m (length (crossings_of moments)) flow
          (subst (λ (n : ℕ). x.own_stamp < n) (places_same moments) own)
          (subst (λ (n : ℕ). x.partner_stamp ≤ n) (places_same moments) partner) l)) (omega arith, omega arith)

      now : IsNow (share_of x) with_it (places moments) its
      now own partner l =
          let new : IsNew x = partner_new partner in
          let at : x.partner_stamp ≡ places moments = partner in
          let g : IsIn l = grants own
          (omega (arith, at)) l in
          let none : length x.bits ≡ 0 = ap (λ (bs : List Bool). length bs) new.1 in
          (omega (arith, g.0, new.0), omega (arith, g.1, none))

      before : (e : Entry) → Within (share_of x) (total moments) (places moments) (places moments) [] e
          → Within (share_of x) with_it (places moments) (1 + places moments) its e
      before e h = record {
        early = h.early;
        answered = λ mine b is. (let r : b < places moments = h.answered mine b is in omega (arith, r));
        fresh = h.fresh;
        held = λ mine own asked partner l link.
            (let r : IsRoom (share_of x) (total moments l) (granted_in l []) e.allocation = h.held mine own asked
            partner l link in
            let late : x.partner_stamp < places moments = h.answered mine x.partner_stamp partner in
            let g : IsIn l = grants
            (h.early x.own_stamp asked) (omega (arith, late)) l in
            record { messages = omega (arith, r.messages, g.0); bits = omega (arith, r.bits, g.1) });
      }

      taken : (m.flow.link.0 == 0) ≡ true
          → Ends (After (Crossed (crossing.In m))) x.peer
          (accepted (program x.host moments) (inbound.Message m) (places moments)).0
      taken link =
          each_weaker (Within (share_of x) with_it (places moments) (1 + places moments) [])
          (After (Crossed (crossing.In m)))
          (pair_with x.peer
          (accepted (program x.host moments) (inbound.Message m) (places moments)).0.peers).entries
          (wider (share_of x) with_it with_it (places moments) (1 + places moments) (1 + places moments)
          (1 + places moments) (λ l. (omega arith, omega arith)) (omega arith) (omega arith))
          (heard (share_of x) with_it sending (program x.host moments) m (places moments) (1 + places moments) x.peer
          (omega arith) (ap (λ (f : Flow). f.source) flow) link now
          (each_weaker (Within (share_of x) (total moments) (places moments) (places moments) [])
          (Within (share_of x) with_it (places moments) (1 + places moments) its) here before old))

    -- ---- what a user grants is granted where a socket receives

    asks : (r : Request) → refusal (program x.host moments) r ≡ None → (y : Moment) → MayGrant (After y) r
    unfolding refusal
    asks (request.Grant socket messages bits) ok y =
        let even : is_receive_socket socket ≡ true = not_false (is_receive_socket socket)
        (not_first (not (is_receive_socket socket)) _ _ ok).0 in
        λ e its h. record {
          early = h.early;
          answered = h.answered;
          fresh = λ own lacks. off_socket (share_of x) (total moments) sending socket even (sym its ∙ own);
          held = λ mine own asked partner l link.
              off_socket (share_of x) (total moments) sending socket even (sym its ∙ own);
        }
    asks r ok y = tt

    -- ---- any moment

    pub stays : (y : Moment) → IsMixed strange hosts (y ∷ moments) → Room (y ∷ moments)
    stays (Crossed (crossing.In m)) mixed = moved (Crossed (crossing.In m)) mixed
        (λ flow. taken m flow (eq-eqb m.flow.link.0 0 (ap (λ (f : Flow). f.link.0) flow)))
    stays (Crossed (crossing.Out m)) mixed =
        each_weaker So (After (Crossed (crossing.Out m)))
        (pair_with x.peer (program x.host (Crossed (crossing.Out m) ∷ moments)).peers).entries (λ e i. i.0)
        (moves_ends orders strange hosts x.host off x.peer moments So
        (going_leaves (share_of x) (total (Crossed (crossing.Out m) ∷ moments)) sending x.peer (places moments)
        (1 + places moments) queue) (Crossed (crossing.Out m)) mixed
        (λ flow n reads. goes (share_of x) (total (Crossed (crossing.Out m) ∷ moments)) sending (places moments)
        (1 + places moments) none queue n) start) where
          queue : List Command
          queue = (pair_with x.peer (program x.host moments).peers).queue

          So : Entry → Type 0
          So e = Going (share_of x) (total (Crossed (crossing.Out m) ∷ moments)) (places moments) (1 + places moments)
              queue e

          none : x.own_stamp ≡ places moments → (x.messages ≡ 0) × (length x.bits ≡ 0)
          none is = let new : IsNew x = own_new is in (new.0, ap (λ (bs : List Bool). length bs) new.1)

          unasked : Each (λ (e : Entry). All (Asks (places moments) e) queue) here
          unasked = asking (places moments) (pair_with x.peer (program x.host moments).peers)
              (λ own foreign. (fit strange hosts x.host off moments (older orders strange hosts (Crossed (crossing.Out m)) moments mixed)).ends own foreign x.peer)

          start : Each So here
          start = each_weaker (λ (e : Entry). Contains here e) So here
              (λ e there. (
                each_in (After (Crossed (crossing.Out m))) here e there (widened (Crossed (crossing.Out m))),
                each_in (λ (z : Entry). All (Asks (places moments) z) queue) here e there unasked,
              )) (each_of here)
    stays (Asked g r) mixed = moved (Asked g r) mixed
        (λ own. (
          starts_so (share_of x) (total (Asked g r ∷ moments)) (places moments) (places moments) [],
          asks r (own_request strange hosts x.host off g r moments mixed own).2 (Asked g r),
        ))
    stays (Crossed c) mixed = moved (Crossed c) mixed tt

  -- a life that has sent nothing has room at any time
  pub always : IsNew x → (moments : List Moment) → IsMixed strange hosts moments → Room moments
  always new [] mixed = tt
  always new (y ∷ moments) mixed =
      stays moments (λ e. new) (λ e. new) (always new moments (older orders strange hosts y moments mixed)) y mixed

  -- ---- bytes that go out of its end

  module _ (moments : List Moment) (m : HostMessage)
      (mixed : IsMixed strange hosts (Crossed (crossing.Out m) ∷ moments)) (old : Room moments) (same : Room (Crossed (crossing.Out m) ∷ moments)) (from : m.flow.source ≡ x.host) (g : Peer)
      (e : Entry) (size count : ℕ) (next : next_in (program x.host moments).peers ≡ Some (g, parcel.Bytes e size count))
      (found : find (may_send_on g.pair.busy (link_of e.link)) g.pair.entries ≡ Some e) (to : g.host ≡ x.peer)
      (there : Contains (pair_with x.peer (program x.host moments).peers).entries e) (may : MaySend g.pair e size count)
      (mine : e.mine ≡ true) (own : e.own ≡ x.socket) (asked : e.asked ≡ Some x.own_stamp)
      (partner : e.partner ≡ Some x.partner_stamp) where
    abbrev all_now : List Moment
    all_now = Crossed (crossing.Out m) ∷ moments

    abbrev ends : List Entry
    ends = (pair_with x.peer (program x.host all_now).peers).entries

    abbrev gone : Entry
    gone = bits_gone (size * count) e

    abbrev sent_bits : List Bool
    sent_bits = take (size * count) e.bits

    abbrev Lone : Entry → Type 0
    Lone z = is_mine_on x.socket z ≡ true → z ≡ gone

    is_left : ends ≡ changed_first (may_send_on g.pair.busy (link_of e.link)) (bits_gone (size * count)) g.pair.entries
    is_left =
        ap (λ (b : Bool). (pair_with x.peer
        (if b then (offered (program x.host moments) (places moments)).0 else program x.host moments).peers).entries)
        (subst (λ (h : Host). same_host x.host h ≡ true) (sym from) (same_host-refl x.host))
        ∙ bytes_left (program x.host moments) (places moments) g e size count x.peer to next

    lone_by : (end : Entry) → mine_on x.socket ends ≡ end ∷ [] → Each Lone ends
    lone_by end one =
        let all : Each (λ (z : Entry). is_mine_on x.socket z ≡ true → z ≡ end) ends = one_passes
        (is_mine_on x.socket) end ends one in
        let is : gone ≡ end = gone_there (λ (z : Entry). is_mine_on x.socket z ≡ true → z ≡ end)
        (may_send_on g.pair.busy (link_of e.link)) (bits_gone (size * count)) g.pair.entries e found
        (subst (λ (es : List Entry). Each (λ (z : Entry). is_mine_on x.socket z ≡ true → z ≡ end) es) is_left all)
        (rw (mine, eq-eqb e.own x.socket own) refl) in
        each_weaker (λ (z : Entry). is_mine_on x.socket z ≡ true → z ≡ end) Lone ends (λ z k t. k t ∙ sym is) all

    none_left : mine_on x.socket ends ≡ [] → Each Lone ends
    none_left none = each_weaker (λ (z : Entry). is_mine_on x.socket z ≡ true → ⊥) Lone ends (λ z k t. absurd (k t))
        (nobody_passes (is_mine_on x.socket) ends none)

    lone : Each Lone ends
    lone = by (held strange hosts x.host off x.socket all_now mixed).socket where
      by : IsFreeSocket x.host x.socket (program x.host all_now) (mixed_kept strange all_now)
          ⊎ IsOwned x.host x.socket (program x.host all_now) (mixed_kept strange all_now) → Each Lone ends
      by (inl free) = none_left (free.none x.peer)
      by (inr owned) = at (same_host x.peer owned.peer) refl where
        at : (b : Bool) → same_host x.peer owned.peer ≡ b → Each Lone ends
        at true p = lone_by owned.end
            (subst
            (λ (h : Host). mine_on x.socket (pair_with h (program x.host all_now).peers).entries ≡ owned.end ∷ [])
            (sym (same_host-true x.peer owned.peer p)) owned.one)
        at false p = none_left (owned.others x.peer p)

    room : (l : ℕ) → e.link ≡ Some l
        → IsRoom (share_of (carried sent_bits x)) (granted_to x l (crossings_of all_now)) (granted_in l [])
        gone.allocation
    room l linked =
        let w : Within (share_of x) (total moments) (places moments) (places moments) [] e = each_in
        (Within (share_of x) (total moments) (places moments) (places moments) [])
        (pair_with x.peer (program x.host moments).peers).entries e there old in
        let more : AtMost (total moments l) (total all_now l) = no_less x (Crossed (crossing.Out m)) moments l in
        room_left x sent_bits (size * count) e.allocation (total moments l) (total all_now l)
        (length-take-le (size * count) e.bits may.waits) may.granted_message may.granted_bits more.0 more.1
        (w.held mine own asked partner l linked)

    pub spent : HasRoom (carried sent_bits x) (crossings_of all_now) (places all_now) (program x.host all_now)
    spent = each_weaker (λ (z : Entry). Contains ends z)
        (Within (share_of (carried sent_bits x)) (total all_now) (places all_now) (places all_now) []) ends
        (λ z t. one z
        (each_in (Within (share_of x) (total all_now) (places all_now) (places all_now) []) ends z t same)
        (each_in Lone ends z t lone)) (each_of ends) where
          one : (z : Entry) → Within (share_of x) (total all_now) (places all_now) (places all_now) [] z → Lone z
              → Within (share_of (carried sent_bits x)) (total all_now) (places all_now) (places all_now) [] z
          one z w k = record {
            early = w.early;
            answered = w.answered;
            fresh = w.fresh;
            held = λ its at a b l linked.
                (let is : z ≡ gone = k (rw (its, eq-eqb z.own x.socket at) refl) in
                subst
                (λ (v : Allocation). IsRoom (share_of (carried sent_bits x)) (total all_now l) (granted_in l []) v)
                (sym (ap (λ (v : Entry). v.allocation) is))
                (room l (sym (ap (λ (v : Entry). v.link) is) ∙ linked)));
          }

    pub sent : (l : ℕ) → e.link ≡ Some l → AreWithin (carried sent_bits x) l (crossings_of all_now)
    sent l linked =
        let r : IsRoom (share_of (carried sent_bits x)) (granted_to x l (crossings_of all_now)) (granted_in l [])
        gone.allocation = room l linked in
        (omega (arith, r.messages), omega (arith, r.bits))
