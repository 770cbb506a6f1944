-- The lives of a host with one peer are carried by its calls at a moment at which its user asks for something.
use Rattle.world_keeps_streams.proofs.Common.{eqb-true, Host, same_host, same_host-refl, same_host-true, is_receive_socket, contact_notices, listens_on, is_mine_on, PairState, is_ready, Entry, Notice, both, IsAsking, NcpState, owner_of, pair_with, Request, not_first, HaveAddresses, Asked, Moment, event_in, events_of, program, crossings_of, coupled, same_host-sym, HasOpenEnd, mine_on, owner_found, keeps, send_odd, Happened, Network, AreOurs}
use Rattle.std.proofs.Common.{◌≡◌, ℕ, ◌==◌, ◌&&◌, not, Bool, true, false, if◌then◌else◌, List, [], ◌∷◌, map, filter, find, Option, Some, None, refl, ap, sym, subst, ◌∙◌, append-nil}
use Rattle.host_keeps_streams.specs.Histories.{AreAllowed, AsksBack, Closes, Gives, Grants, IsTelling, OpensReceiver, OpensSender, Call}
use Rattle.sockets.specs.Requests.{grant_fault, on_open, refusal, served_notices}
use Rattle.net_sim.specs.Book.{changed_when, life_ended, lives_asked, lives_at, lives_with, where_it, asked}
use Rattle.world_keeps_streams.specs.Calls.{calls_by, owner_calls, own_calls, request_calls, called}
use Rattle.interface.specs.Mailboxes as mail
use Rattle.host_pairs.specs.declared.notice.Notice.TheVariants as notice
use Rattle.host_keeps_streams.specs.Histories as calls
use Rattle.sockets.specs.declared.request.Request.TheVariants as request
use Rattle.promise.specs.declared.life.Life.{Life}
use Rattle.net_sim.specs.Book as book
use Rattle.net_sim.specs.Told.{kept_in}
use Rattle.world_keeps_streams.proofs.Steps.ActsAsked.{no_contact}
use Rattle.world_keeps_streams.proofs.Calls.Allowed.{may_calls}
use Rattle.world_keeps_streams.proofs.Calls.May.{AllMay, MayCall}
use Rattle.world_keeps_streams.proofs.Deeds.Effects as deeds
use Rattle.world_keeps_streams.proofs.Deeds.Effects.{Among, Deed, all_lives, found_among}
use Rattle.world_keeps_streams.proofs.Deeds.Kinds.{deed_of}
use Rattle.world_keeps_streams.proofs.Deeds.Told.{After, map_same}
use Rattle.world_keeps_streams.proofs.Deeds.Ends.{Fits}
use Rattle.world_keeps_streams.proofs.Carried.Calls.{Carries, among_contains}
use Rattle.world_keeps_streams.proofs.Carried.Owned.{told_lives}
use Rattle.world_keeps_streams.proofs.Moments.AskedNext.{IsOff, call_kept, others_kept, unchanged_kept}
use Rattle.world_keeps_streams.proofs.Ours.{live}

-- ---- what a call needs, of what may be said of it

fits_asked : (k : Call) (q : PairState) → IsAsking k → MayCall k q → Fits k q
fits_asked (OpensReceiver own foreign) q is may = tt
fits_asked (OpensSender own foreign size) q is may = send_odd own may.0
fits_asked (Grants socket messages bits e) q is may = (may.0, may.2)
fits_asked (AsksBack socket messages bits e) q is may = tt
fits_asked (Gives socket bits e) q is may = tt
fits_asked (Closes socket e) q is may = tt
fits_asked k q is may = absurd is

-- an end that is found is among those that pass
none_found : (test : Entry → Bool) (es : List Entry) (e : Entry) → find test es ≡ Some e → filter test es ≡ [] → ⊥
none_found test [] e f none = absurd (cc)
none_found test (x ∷ xs) e f none = by (none_found test xs e) (test x) refl f none where
  by : (find test xs ≡ Some e → filter test xs ≡ [] → ⊥) → (v : Bool) → test x ≡ v → find test (x ∷ xs) ≡ Some e → filter test (x ∷ xs) ≡ [] → ⊥
  by rest true t g n = absurd (let r : x ∷ filter test xs ≡ [] = rw t at n in cc)
  by rest false t g n = rest (rw t at g) (rw t at n)

-- what isn't refused is granted at an own end
unowned_refused : (s : NcpState) (socket messages bits : ℕ) → refusal s (request.Grant socket messages bits) ≡ None → owner_of socket s.peers ≡ None → ⊥
unfolding refusal
unowned_refused s socket messages bits may f =
    let r : on_open (grant_fault messages bits) (owner_of socket s.peers) ≡ None = (not_first (not (is_receive_socket socket)) _ _ may).1 in
    let none : on_open (grant_fault messages bits) None ≡ None = subst (λ (o : Option (Host × Entry)). on_open (grant_fault messages bits) o ≡ None) f r in
    cc

module _ (number : ℕ → ℕ → ℕ → ℕ) (tells : IsTelling number) (hosts : Network) (addresses : HaveAddresses hosts.all) (a b : Host) (ours : AreOurs hosts a b)
    (allowed : (ms : List Moment) → mail.IsRun hosts.all (crossings_of ms) → Happened hosts ms → (link : ℕ) → (link == 0) ≡ false → AreAllowed number b link (own_calls a b ms)) where
  module _ (r : Request) (ms : List Moment) (run : mail.IsRun hosts.all (crossings_of (Asked a r ∷ ms)))
      (time : Happened hosts (Asked a r ∷ ms)) (on : keeps a b (event_in (Asked a r)) (events_of ms) ≡ true)
      (c : Carries number a b ms) where
    abbrev s : NcpState
    s = program a ms

    abbrev q : PairState
    q = pair_with b s.peers

    abbrev Kept : Type 0
    Kept = Carries number a b (Asked a r ∷ ms)

    here : (cs : List calls.Moment) → request_calls b s r ≡ cs → calls_by a b (Asked a r) ms ≡ cs
    here cs is = rw (same_host-refl a) is

    told : (ns : List Notice) → served_notices s r ≡ ns → (kept_in (Asked a r ∷ ms)).book.lives ≡ all_lives a ns (lives_asked a r (kept_in ms).book.lives)
    told ns is = told_lives a (served_notices s r) (asked a r (kept_in ms)) ∙ ap (λ (xs : List Notice). all_lives a xs (lives_asked a r (kept_in ms).book.lives)) is

    -- one call
    one : (k : Call) → IsAsking k → request_calls b s r ≡ called k q s.listening ∷ [] → (kept_in (Asked a r ∷ ms)).book.lives ≡ After a b (deed_of k q) (kept_in ms).book.lives → Kept
    one k asks is same =
        call_kept number tells hosts addresses a b ours allowed (Asked a r) ms run time on (called k q s.listening) (here (called k q s.listening ∷ []) is) refl (fits_asked k q asks may.0) same c where
          may : AllMay (called k q s.listening ∷ [])
          may = subst (λ (cs : List calls.Moment). AllMay cs) (here (called k q s.listening ∷ []) is) (may_calls hosts addresses (Asked a r) ms run time a b ours)

    -- one that is no deed, where the lives stay as they were
    quiet : (k : Call) → IsAsking k → request_calls b s r ≡ called k q s.listening ∷ [] → deed_of k q ≡ deeds.Nothing → (kept_in (Asked a r ∷ ms)).book.lives ≡ (kept_in ms).book.lives → Kept
    quiet k asks is nothing same =
        one k asks is (same ∙ sym (ap (λ (d : Deed). After a b d (kept_in ms).book.lives) nothing ∙ append-nil (map (λ x. x) (kept_in ms).book.lives) ∙ map_same (kept_in ms).book.lives))

    none : request_calls b s r ≡ [] → (kept_in (Asked a r ∷ ms)).book.lives ≡ (kept_in ms).book.lives → Kept
    none is same = unchanged_kept number tells hosts addresses a b ours allowed (Asked a r) ms run time on (here [] is) same c

    others : request_calls b s r ≡ [] → (test : Life → Bool) (change : Life → Life) → ((y : Life) → ((change y).host ≡ y.host) × ((change y).peer ≡ y.peer)) → IsOff a b test change (kept_in ms).book.lives
        → (kept_in (Asked a r ∷ ms)).book.lives ≡ where_it test change (kept_in ms).book.lives → Kept
    others is test change kept off same = others_kept number tells hosts addresses a b ours allowed (Asked a r) ms run time on (here [] is) test change kept off same c

    -- ---- of one peer, or of an own end, where the lives stay as they were

    peer_kept : (g : Host) (k : Call) → IsAsking k → deed_of k q ≡ deeds.Nothing → (kept_in (Asked a r ∷ ms)).book.lives ≡ (kept_in ms).book.lives → (t : Bool) → request_calls b s r ≡ (if t then called k q s.listening ∷ [] else []) → Kept
    peer_kept g k asks nothing same true is = quiet k asks is nothing same
    peer_kept g k asks nothing same false is = none is same

    owner_kept : (call : Entry → Call) → ((e : Entry) → IsAsking (call e)) → ((e : Entry) → deed_of (call e) q ≡ deeds.Nothing) → (kept_in (Asked a r ∷ ms)).book.lives ≡ (kept_in ms).book.lives
        → (o : Option (Host × Entry)) → request_calls b s r ≡ owner_calls b call q s.listening o → Kept
    owner_kept call asks nothing same None is = none is same
    owner_kept call asks nothing same (Some (g, e)) is = peer_kept g (call e) (asks e) (nothing e) same (same_host b g) is

    close_kept : (socket : ℕ) → (kept_in (Asked a r ∷ ms)).book.lives ≡ (kept_in ms).book.lives → (t : Bool) → request_calls b s r ≡ (if t then [] else owner_calls b (Closes socket) q s.listening (owner_of socket s.peers)) → Kept
    close_kept socket same true is = none is same
    close_kept socket same false is = owner_kept (Closes socket) (λ e. tt) (λ e. refl) same (owner_of socket s.peers) is

    -- ---- a grant

    -- the lives on a socket whose end is with another host are none of these two
    grant_off : (socket : ℕ) (g : Host) (e : Entry) (change : Life → Life) → owner_of socket s.peers ≡ Some (g, e) → same_host b g ≡ false → IsOff a b (lives_at a socket) change (kept_in ms).book.lives
    grant_off socket g e change f other y there host peer = by (lives_at a socket y) refl where
      by : (v : Bool) → lives_at a socket y ≡ v → v ≡ false
      by false t = refl
      by true t =
          let parts : ((same_host a y.host && y.socket == socket) ≡ true) × (not y.ended ≡ true) = both (same_host a y.host && y.socket == socket) (not y.ended) t in
          let socket_is : (y.socket == socket) ≡ true = (both (same_host a y.host) (y.socket == socket) parts.0).1 in
          let h : HasOpenEnd (program y.host ms) y = live hosts ms addresses run time.1 y (subst (λ (p : Host). hosts.strange p ≡ false) (sym host) ours.0) (among_contains (kept_in ms).book.lives y there) (goes y.ended parts.1) in
          let away : same_host g y.peer ≡ false = ap (λ (p : Host). same_host g p) peer ∙ same_host-sym g b ∙ other in
          let empty : mine_on socket (pair_with g s.peers).entries ≡ [] =
          subst (λ (n : ℕ). mine_on n (pair_with g s.peers).entries ≡ []) (eqb-true y.socket socket socket_is) (subst (λ (p : Host). mine_on y.socket (pair_with g (program p ms).peers).entries ≡ []) host (h.others g away)) in
          absurd (none_found (is_mine_on socket) (pair_with g s.peers).entries e (owner_found socket s.peers g e ((coupled hosts addresses ms run time.1).order a ours.0) f) empty) where
            goes : (v : Bool) → not v ≡ true → v ≡ false
            goes true t = absurd (cc)
            goes false t = refl

    grant_same : (socket messages bits : ℕ) (e : Entry) → e.own ≡ socket → where_it (lives_at a socket) (book.granted messages bits) (kept_in ms).book.lives ≡ After a b (deeds.Grants e messages bits) (kept_in ms).book.lives
    grant_same socket messages bits e is =
        ap (λ (n : ℕ). where_it (lives_at a n) (book.granted messages bits) (kept_in ms).book.lives) (sym is)
        ∙ sym (append-nil (map (λ x. changed_when (lives_at a e.own x) (book.granted messages bits) x) (kept_in ms).book.lives))

    grant_kept : (socket messages bits : ℕ) → (kept_in (Asked a r ∷ ms)).book.lives ≡ where_it (lives_at a socket) (book.granted messages bits) (kept_in ms).book.lives → (g : Host) (e : Entry) → owner_of socket s.peers ≡ Some (g, e)
        → (t : Bool) → same_host b g ≡ t → request_calls b s r ≡ (if t then called (Grants socket messages bits e) q s.listening ∷ [] else []) → Kept
    grant_kept socket messages bits same g e f true t is =
        one (Grants socket messages bits e) tt is (same ∙ grant_same socket messages bits e own) where
          found : find (is_mine_on socket) (pair_with g s.peers).entries ≡ Some e
          found = owner_found socket s.peers g e ((coupled hosts addresses ms run time.1).order a ours.0) f

          own : e.own ≡ socket
          own = eqb-true e.own socket (both e.mine (e.own == socket) (found_among (is_mine_on socket) (pair_with g s.peers).entries e found).1).1
    grant_kept socket messages bits same g e f false t is =
        others is (lives_at a socket) (book.granted messages bits) (λ y. (refl, refl)) (grant_off socket g e (book.granted messages bits) f t) same

    -- ---- a contact with another host

    contact_kept : (g : Host) → same_host b g ≡ false → (t : Bool) → request_calls b s r ≡ [] → (kept_in (Asked a r ∷ ms)).book.lives ≡ all_lives a (if t then notice.PairReset g ∷ [] else []) (kept_in ms).book.lives → Kept
    contact_kept g other true is same = others is (lives_with a g) life_ended (λ y. (refl, refl)) off same where
      off : IsOff a b (lives_with a g) life_ended (kept_in ms).book.lives
      off y there host peer =
          let away : same_host g y.peer ≡ false = ap (λ (p : Host). same_host g p) peer ∙ same_host-sym g b ∙ other in
          rw away (none_of (same_host a y.host)) where
            none_of : (v : Bool) → (v && false && not y.ended) ≡ false
            none_of true = refl
            none_of false = refl
    contact_kept g other false is same = none is same

  -- ---- all that its user asks for

  grants_kept : (ms : List Moment) (socket messages bits : ℕ) (run : mail.IsRun hosts.all (crossings_of (Asked a (request.Grant socket messages bits) ∷ ms))) (time : Happened hosts (Asked a (request.Grant socket messages bits) ∷ ms))
      → keeps a b (event_in (Asked a (request.Grant socket messages bits))) (events_of ms) ≡ true
      → Carries number a b ms
      → (kept_in (Asked a (request.Grant socket messages bits) ∷ ms)).book.lives ≡ where_it (lives_at a socket) (book.granted messages bits) (kept_in ms).book.lives
      → (o : Option (Host × Entry)) → owner_of socket (program a ms).peers ≡ o → Carries number a b (Asked a (request.Grant socket messages bits) ∷ ms)
  grants_kept ms socket messages bits run time on c same None f = absurd (unowned_refused (program a ms) socket messages bits (time.0 ours.0).2 f)
  grants_kept ms socket messages bits run time on c same (Some (g, e)) f =
      grant_kept (request.Grant socket messages bits) ms run time on c socket messages bits same g e f (same_host b g) refl (rw f refl)

  keeps_asked : (r : Request) (ms : List Moment) → mail.IsRun hosts.all (crossings_of (Asked a r ∷ ms))
      → Happened hosts (Asked a r ∷ ms) → keeps a b (event_in (Asked a r)) (events_of ms) ≡ true → Carries number a b ms
      → Carries number a b (Asked a r ∷ ms)
  unfolding served_notices
  keeps_asked (request.Contact g) ms run time on c =
      contact_kept (request.Contact g) ms run time on c g (no_contact a b a (request.Contact g) (events_of ms) on (same_host-refl a) g refl) (is_ready (pair_with g (program a ms).peers).phase) refl
      (told (request.Contact g) ms run time on c (contact_notices g (pair_with g (program a ms).peers).phase) refl)
  keeps_asked (request.OpenSend g own foreign size) ms run time on c =
      peer_kept (request.OpenSend g own foreign size) ms run time on c g (OpensSender own foreign size) tt refl refl (same_host b g) refl
  keeps_asked (request.OpenReceive g own foreign) ms run time on c =
      peer_kept (request.OpenReceive g own foreign) ms run time on c g (OpensReceiver own foreign) tt refl refl (same_host b g) refl
  keeps_asked (request.Send socket bits) ms run time on c =
      owner_kept (request.Send socket bits) ms run time on c (Gives socket bits) (λ e. tt) (λ e. refl) refl (owner_of socket (program a ms).peers) refl
  keeps_asked (request.Grant socket messages bits) ms run time on c = grants_kept ms socket messages bits run time on c refl (owner_of socket (program a ms).peers) refl
  keeps_asked (request.AskBack socket messages bits) ms run time on c =
      owner_kept (request.AskBack socket messages bits) ms run time on c (AsksBack socket messages bits) (λ e. tt) (λ e. refl) refl (owner_of socket (program a ms).peers) refl
  keeps_asked (request.Close socket) ms run time on c = close_kept (request.Close socket) ms run time on c socket refl (listens_on socket (program a ms).listening) refl
  keeps_asked r ms run time on c = none r ms run time on c refl refl

  -- the same of a host that is the same
  pub keeps_asked_by : (h : Host) (r : Request) (ms : List Moment) → same_host a h ≡ true
      → mail.IsRun hosts.all (crossings_of (Asked h r ∷ ms)) → Happened hosts (Asked h r ∷ ms)
      → keeps a b (event_in (Asked h r)) (events_of ms) ≡ true → Carries number a b ms
      → Carries number a b (Asked h r ∷ ms)
  keeps_asked_by h r ms is run time on c =
      let same : a ≡ h = same_host-true a h is in
      let all : Happened hosts (Asked h r ∷ ms) → keeps a b (event_in (Asked h r)) (events_of ms) ≡ true → Carries number a b (Asked h r ∷ ms) =
      subst (λ (g : Host). Happened hosts (Asked g r ∷ ms) → keeps a b (event_in (Asked g r)) (events_of ms) ≡ true → Carries number a b (Asked g r ∷ ms)) same (λ t k. keeps_asked r ms run t k c) in
      all time on
