-- What a user asks for, and what goes out next, may be done.
use Rattle.world_keeps_streams.proofs.Common.{Host, same_host, not_false, or_false, same_host-true, is_receive_socket, is_send_socket, Command, passes, listens_on, entry_at, is_mine_on, is_open, was_closed, PairState, is_ready, Entry, Listener, both, what_goes, AreCommands, HasEnd, Stand, at, marks, End, Mark, NcpState, owner_of, pair_with, AreInOrder, Request, not_first, owner_found, send_odd}
use Rattle.std.proofs.Common.{◌≡◌, ℕ, zero, suc, ◌*◌, ◌<◌, ◌≤◌, ◌&&◌, not, Bool, true, false, if◌then◌else◌, List, [], ◌∷◌, take, drop, find, Option, Some, None, is_some, refl, ap, sym, subst, ◌∙◌, arith, ◌^◌}
use Rattle.host_pairs.specs.Parcels.{Parcel, may_send_on, next_of, link_of}
use Rattle.host_keeps_pairing.proofs.lemmas.{found_same, marks_append, none_is}
use Rattle.host_keeps_streams.specs.Histories.{AsksBack, Closes, Gives, Grants, OpensReceiver, OpensSender, Call}
use Rattle.sockets.specs.Requests.{grant_fault, is_taken, on_open, close_fault, closing_fault, is_used, refusal}
use Rattle.world_keeps_streams.specs.Calls.{owner_calls, parcel_calls, request_calls, called}
use Rattle.std.proofs.lemmas.List.{take-append-drop}
use Rattle.host_pairs.specs.Parcels as parcel
use Rattle.host_keeps_streams.proofs.lemmas.Senders as senders
use Rattle.sockets.specs.declared.fault.NcpFault.{NcpFault}
use Rattle.sockets.specs.declared.request.Request.TheVariants as request
use Rattle.world_keeps_streams.proofs.Calls.May.{AllMay, MayCall}
use Rattle.world_keeps_streams.proofs.Calls.MayTurns.{said_may}

-- ---- byte sizes

-- a byte size, where it is known, is an octet that isn't zero
abbrev pub IsSize : Option ℕ → Type 0
IsSize None = Unit {0}
IsSize (Some size) = (size < 2 ^ 8) × (0 < size)

abbrev pub AreSized : List Entry → Type 0
AreSized [] = Unit {0}
AreSized (e ∷ es) = IsSize e.size × AreSized es

sized_found : (test : Entry → Bool) (es : List Entry) (e : Entry) → AreSized es → find test es ≡ Some e → IsSize e.size
sized_found test [] e h f = absurd (cc)
sized_found test (x ∷ es) e h f = by (test x) refl (sized_found test es e h.1) where
  by : (b : Bool) → test x ≡ b → (find test es ≡ Some e → IsSize e.size) → IsSize e.size
  by true t rest = subst (λ (y : Entry). IsSize y.size) (found_same x e (rw t at f)) h.0
  by false t rest = rest (rw t at f)

few : (size count : ℕ) → 0 < size → size * count ≤ 8023 → count < 2 ^ 16
few zero count some h = absurd (omega (arith, some))
few (suc n) count some h = omega (arith, h)

-- ---- what goes out

module _ (origin : ℕ → ℕ) (peer : Host) (stamp : ℕ) where
  pub parcel_may : (q : PairState) (x : Parcel) (listening : List Listener) → next_of q ≡ Some x → AreCommands q.queue → AreSized q.entries → ((own foreign : ℕ) → (x : End) × HasEnd origin own foreign q x) → AllMay (parcel_calls peer stamp x q listening)
  parcel_may q parcel.Reset listening next is sized has = tt
  parcel_may q parcel.Reply listening next is sized has = tt
  parcel_may q (parcel.Commands count) listening next is sized has =
      said_may origin peer stamp (take count q.queue) (drop count q.queue) q listening [] (front count q.queue is)
      (λ own foreign.
      let h : (x : End) × HasEnd origin own foreign q x = has own foreign in (
        h.0,
        subst (λ (l : List Mark). Stand true origin 0 (at own foreign q.entries) l h.0)
            (ap (λ (cs : List Command). marks 0 own foreign cs) (sym (take-append-drop count q.queue)) ∙ marks_append 0 own foreign (take count q.queue) (drop count q.queue)) (h.1.ends 0),
      )) tt where
        front : (n : ℕ) (cs : List Command) → AreCommands cs → AreCommands (take n cs)
        front zero cs h = tt
        front (suc n) [] h = tt
        front (suc n) (c ∷ cs) h = (h.0, front n cs h.1)
  parcel_may q (parcel.Bytes e size count) listening next is sized has =
      let found : find (may_send_on q.busy (link_of e.link)) q.entries ≡ Some e = senders.next_is q e size count next in
      let there : IsSize e.size = sized_found (may_send_on q.busy (link_of e.link)) q.entries e sized found in
      let known : IsSize (Some size) = subst (λ (o : Option ℕ). IsSize o) (what_goes q (parcel.Bytes e size count) next).1.bytes there in
      ((next, record { size = known.0; count = few size count known.1 (what_goes q (parcel.Bytes e size count) next).1.fits }), tt)

-- ---- what a user asks for

module _ (s : NcpState) (b : Host) where
  owner_may : (socket : ℕ) (o : Option (Host × Entry)) (k : Entry → Call) → AreInOrder s.peers → owner_of socket s.peers ≡ o
      → ((g : Host) (e : Entry) → o ≡ Some (g, e) → find (is_mine_on socket) (pair_with b s.peers).entries ≡ Some e → MayCall (k e) (pair_with b s.peers)) → AllMay (owner_calls b k (pair_with b s.peers) s.listening o)
  owner_may socket None k order f may = tt
  owner_may socket (Some (g, e)) k order f may = by (same_host b g) refl where
    by : (c : Bool) → same_host b g ≡ c → AllMay (if c then called (k e) (pair_with b s.peers) s.listening ∷ [] else [])
    by true t =
        let is : b ≡ g = same_host-true b g t in
        (may g e refl (subst (λ (h : Host). find (is_mine_on socket) (pair_with h s.peers).entries ≡ Some e) (sym is) (owner_found socket s.peers g e order f)), tt)
    by false t = tt

  open_parts : (others : Entry → Option NcpFault) (g : Host) (e : Entry) → on_open others (Some (g, e)) ≡ None → (is_open e ≡ true) × (others e ≡ None)
  open_parts others g e h = let r : (not (is_open e) ≡ false) × (others e ≡ None) = not_first _ _ _ h in (not_false _ r.0, r.1)

  if_same : (g : Host) (k : Call) → (b ≡ g → MayCall k (pair_with b s.peers)) → (c : Bool) → same_host b g ≡ c → AllMay (if c then called k (pair_with b s.peers) s.listening ∷ [] else [])
  if_same g k may true e = (may (same_host-true b g e), tt)
  if_same g k may false e = tt

  closes_may : (socket : ℕ) → AreInOrder s.peers → (c : Bool) → (if c then None else close_fault (owner_of socket s.peers)) ≡ None
      → AllMay (if c then [] else owner_calls b (Closes socket) (pair_with b s.peers) s.listening (owner_of socket s.peers))
  closes_may socket order true may = tt
  closes_may socket order false may =
      owner_may socket _ _ order refl (λ g e f found. (found, (not_first _ _ _ (subst (λ (o : Option (Host × Entry)). close_fault o ≡ None) f may)).0))

  pub request_may : (r : Request) → AreInOrder s.peers → refusal s r ≡ None → AllMay (request_calls b s r)
  unfolding refusal
  request_may (request.OpenSend peer own foreign size) order may =
      let first : (not (is_ready (pair_with peer s.peers).phase) ≡ false) × _ = not_first (not (is_ready (pair_with peer s.peers).phase)) _ _ may in
      let second : (not (is_send_socket own && is_receive_socket foreign) ≡ false) × _ = not_first (not (is_send_socket own && is_receive_socket foreign)) _ _ first.1 in
      let kinds : (is_send_socket own ≡ true) × (is_receive_socket foreign ≡ true) = both (is_send_socket own) (is_receive_socket foreign) (not_false (is_send_socket own && is_receive_socket foreign) second.0) in
      let free : is_some (entry_at own foreign (pair_with peer s.peers).entries) ≡ false = (or_false (is_used s own) _ (not_first (is_taken s peer own foreign) _ _ second.1).0).1 in
      if_same peer (OpensSender own foreign size)
      (λ is. (kinds.0, kinds.1, subst (λ (h : Host). entry_at own foreign (pair_with h s.peers).entries ≡ None) (sym is) (none_is (entry_at own foreign (pair_with peer s.peers).entries) free))) (same_host b peer) refl
  request_may (request.OpenReceive peer own foreign) order may =
      let first : (not (is_ready (pair_with peer s.peers).phase) ≡ false) × _ = not_first (not (is_ready (pair_with peer s.peers).phase)) _ _ may in
      let second : (not (is_receive_socket own && is_send_socket foreign) ≡ false) × _ = not_first (not (is_receive_socket own && is_send_socket foreign)) _ _ first.1 in
      let kinds : (is_receive_socket own ≡ true) × (is_send_socket foreign ≡ true) = both (is_receive_socket own) (is_send_socket foreign) (not_false (is_receive_socket own && is_send_socket foreign) second.0) in
      let free : is_some (entry_at own foreign (pair_with peer s.peers).entries) ≡ false = (or_false (is_used s own) _ (not_first (is_taken s peer own foreign) _ _ second.1).0).1 in
      if_same peer (OpensReceiver own foreign)
      (λ is. (kinds.0, kinds.1, subst (λ (h : Host). entry_at own foreign (pair_with h s.peers).entries ≡ None) (sym is) (none_is (entry_at own foreign (pair_with peer s.peers).entries) free))) (same_host b peer) refl
  request_may (request.Send socket bits) order may =
      let first : (not (is_send_socket socket) ≡ false) × _ = not_first (not (is_send_socket socket)) _ _ may in
      owner_may socket (owner_of socket s.peers) (Gives socket bits) order refl (λ g e f found. (found, send_odd socket (not_false (is_send_socket socket) first.0)))
  request_may (request.Grant socket messages bits) order may =
      let first : (not (is_receive_socket socket) ≡ false) × (on_open (grant_fault messages bits) (owner_of socket s.peers) ≡ None) = not_first (not (is_receive_socket socket)) _ _ may in
      owner_may socket (owner_of socket s.peers) (Grants socket messages bits) order refl
      (λ g e f found.
      let parts : (is_open e ≡ true) × (grant_fault messages bits e ≡ None) = open_parts (grant_fault messages bits) g e (subst (λ (o : Option (Host × Entry)). on_open (grant_fault messages bits) o ≡ None) f first.1) in
      (found, not_false (is_receive_socket socket) first.0, parts.0, (not_first (passes e.allocation messages bits) _ _ (not_first (was_closed e) _ _ parts.1).1).0))
  request_may (request.AskBack socket messages bits) order may =
      let first : (not (is_receive_socket socket) ≡ false) × (on_open closing_fault (owner_of socket s.peers) ≡ None) = not_first (not (is_receive_socket socket)) _ _ may in
      owner_may socket (owner_of socket s.peers) (AsksBack socket messages bits) order refl
      (λ g e f found. (found, (open_parts closing_fault g e (subst (λ (o : Option (Host × Entry)). on_open closing_fault o ≡ None) f first.1)).0, not_false (is_receive_socket socket) first.0))
  request_may (request.Close socket) order may = closes_may socket order (listens_on socket s.listening) may
  request_may r order may = tt
