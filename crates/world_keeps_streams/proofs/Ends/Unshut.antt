-- Ends that their own user hasn't closed: a call by which no user closes one leaves it so, or its partner's CLS was
-- taken.
use Rattle.world_keeps_streams.proofs.Common.{◌≡◌, ◌⊎◌, inl, inr, ℕ, zero, suc, ◌==◌, ◌&&◌, not, Bool, true, false, if◌then◌else◌, List, [], ◌∷◌, ◌++◌, filter, Option, Some, None, refl, ap, sym, subst, ◌∙◌, eq-eqb, ◌*◌, eqb-true, Host, same_host, same_host-refl, same_host-true, with_end, with_more_bits, receiver_requested, Command, Legal, DeskState, desk_of, listens_on, PairState, freed, Closing, Entry, Listener, both, owner_of, pair_with, NcpState, Request, lives_at, Asked, Crossed, Moment, events_of, event_in, program, HasSaid, keeps, AreOurs, Network}
use Rattle.host_pairs.specs.Commands.{changed, receiver_on}
use Rattle.host_pairs.specs.Entries.{called_off, changed_first, close_due, free_link, has_cls, is_at, is_called_off, is_due, is_mine_on, receiving_end, sending_end, is_over}
use Rattle.host_pairs.specs.Parcels.{bits_gone, cls_sent, may_send_on, link_of}
use Rattle.host_keeps_streams.specs.Histories.{AreAllowed, IsAllowed, IsHistory, Answered, AsksBack, Closes, Gives, Grants, Hears, OpensReceiver, OpensSender, Says, Sends, Takes, ends_by, ends_now, numbered, sender_now, Call}
use Rattle.world_keeps_streams.specs.Calls.{calls_by, own_calls, owner_calls, request_calls, called}
use Rattle.ncp_control.specs.declared.command.Command.TheVariants as command
use Rattle.host_pairs.specs.Commands as commands
use Rattle.host_pairs.specs.declared.entry.Closing.TheVariants as closing
use Rattle.host_keeps_streams.specs.Histories as calls
use Rattle.stream_law.specs.Senders.{Sender}
use Rattle.sockets.specs.declared.request.Request.TheVariants as request
use Rattle.promise.specs.declared.life.Life.{Life}
use Rattle.world_keeps_streams.proofs.Calls.Chain.{Chained, chain}
use Rattle.world_keeps_streams.proofs.Deeds.Effects.{Among, Changed, among_changed, among_filter}
use Rattle.world_keeps_streams.proofs.Ends.Kept.{IsTest, Keeps, Spares, keeps_changed, keeps_found, keeps_gone, keeps_joined, keeps_quiet, keeps_settled, keeps_taken}
use Rattle.world_keeps_streams.proofs.Ends.Marks.{never}
use Rattle.world_keeps_streams.proofs.Lives.Fates.{IsClose}
use Rattle.world_keeps_streams.proofs.Requests.Sides.{Lawful, below}
use Rattle.world_keeps_streams.proofs.Steps.Kinds.{NoClose, NoneClose, none_crossed, none_if, none_owner}
use Rattle.world_keeps_streams.proofs.Steps.Streams.{all_allowed}
use Rattle.world_keeps_streams.proofs.Facts.{middle_off, no_zero}

-- ---- an end that its user has closed, and its partner hasn't

abbrev pub is_shut : Entry → Bool
is_shut e = e.mine && is_called_off e.closing && not e.partner_closed

last_off : (a b : Bool) → (a && b && false) ≡ false
last_off true true = refl
last_off true false = refl
last_off false b = refl

due_off : (c : Closing) → is_due c ≡ true → is_called_off c ≡ true
due_off closing.Due e = refl
due_off closing.No e = never (sym e)
due_off closing.Queued e = refl
due_off closing.Sent e = refl

cls_off : (c : Closing) → has_cls c ≡ true → is_called_off c ≡ true
cls_off closing.No e = never (sym e)
cls_off closing.Due e = refl
cls_off closing.Queued e = refl
cls_off closing.Sent e = refl

pub test_shut : IsTest (Unit {0}) is_shut
test_shut = record {
  passes = λ e over no_zero. tt;
  same = λ e f mine is no_zero t.
      ap (λ (v : Bool). v && is_called_off f.closing && not f.partner_closed) mine
      ∙ ap (λ (c : Closing). e.mine && is_called_off c && not f.partner_closed) is
      ∙ ap (λ (v : Bool). e.mine && is_called_off e.closing && not v) no_zero ∙ t;
  fresh = λ e unsent untaken calm. elim calm [
    | inl m ↦ ap (λ (v : Bool). v && is_called_off e.closing && not e.partner_closed) m
    | inr c ↦ middle_off e.mine (is_called_off e.closing) (not e.partner_closed) c
  ];
  queued = λ e due t. ap (λ (v : Bool). e.mine && v && not e.partner_closed) (sym (due_off e.closing due)) ∙ t;
}

-- of two sockets
abbrev pub AreUnshut : ℕ → ℕ → List Entry → Type 0
AreUnshut own foreign es = (e : Entry) → Among e es → e.own ≡ own → e.foreign ≡ foreign → is_shut e ≡ false

-- no user closes an end of this socket
abbrev pub IsOther : ℕ → Call → Type 0
IsOther own (Closes socket e) = socket ≡ own → ⊥
IsOther own k = Unit {0}

abbrev pub AllOther : ℕ → List calls.Moment → Type 0
AllOther own [] = Unit {0}
AllOther own (m ∷ ms) = IsOther own m.call × AllOther own ms

-- ---- one call

module _ (g : Host) (own foreign link : ℕ) where
  abbrev Whole : DeskState → Type 0
  Whole d = Keeps (Unit {0}) g own foreign 0 is_shut test_shut d

  whole : (q : PairState) (listening : List Listener) → AreUnshut own foreign q.entries
      → Keeps (Unit {0}) g own foreign 0 is_shut test_shut (desk_of q listening)
  whole q listening h = record { ends = h; told = tt }

  spares : (stamp : ℕ) (c : Command) → Spares (Unit {0}) g own foreign stamp is_shut test_shut (Legal c)
  spares stamp (command.Cls mine yours) = λ e at unshut is there. last_off e.mine (is_called_off (close_due e.closing))
  spares stamp c = tt

  -- a CLS that goes out is that of an end which said it
  said_cls : (o f : ℕ) (es : List Entry) → HasSaid (command.Cls o f) es → AreUnshut own foreign es
      → AreUnshut own foreign (filter (λ e. not (is_over e)) (changed_first (is_at o f) cls_sent es))
  said_cls o f es said h e there =
      by (among_changed (is_at o f) cls_sent es e (among_filter (λ x. not (is_over x))
      (changed_first (is_at o f) cls_sent es) e there).0) where
        sent : (x : Entry) → has_cls x.closing ≡ true → (x.own ≡ own → x.foreign ≡ foreign → is_shut x ≡ false)
            → (cls_sent x).own ≡ own → (cls_sent x).foreign ≡ foreign → is_shut (cls_sent x) ≡ false
        sent x has no_zero is at =
            ap (λ (v : Bool). x.mine && v && not x.partner_closed) (sym (cls_off x.closing has)) ∙ no_zero is at

        by : Among e es ⊎ Changed (is_at o f) cls_sent es e → e.own ≡ own → e.foreign ≡ foreign → is_shut e ≡ false
        by (inl i) = h e i
        by (inr c) =
            subst (λ (x : Entry). x.own ≡ own → x.foreign ≡ foreign → is_shut x ≡ false) c.is
            (sent c.end (said c.end c.found) (h c.end c.there))

  said_keeps : (stamp : ℕ) (c : Command) (q : PairState) (listening : List Listener) → HasSaid c q.entries
      → AreUnshut own foreign q.entries → AreUnshut own foreign (ends_by g (Says stamp c) q listening)
  said_keeps stamp (command.Cls o f) q listening said h = said_cls o f q.entries said h
  said_keeps stamp (command.Rts r n l) q listening said h =
      (keeps_gone (Unit {0}) g own foreign stamp is_shut test_shut (command.Rts r n l) (desk_of q listening) tt
      (record { ends = h; told = tt })).ends
  said_keeps stamp (command.Str n r size) q listening said h =
      (keeps_gone (Unit {0}) g own foreign stamp is_shut test_shut (command.Str n r size) (desk_of q listening) tt
      (record { ends = h; told = tt })).ends
  said_keeps stamp c q listening said h = h

  asks_keep : (o f : ℕ) (l : Option ℕ) (q : PairState) → AreUnshut own foreign q.entries
      → AreUnshut own foreign (receiver_requested o f l q).entries
  asks_keep o f None q h = h
  asks_keep o f (Some l) q h =
      (keeps_joined (Unit {0}) g own foreign 0 is_shut test_shut (receiving_end o f l) (desk_of q []) refl refl
      (inr refl) (whole q [] h)).ends

  closes_keep : (socket : ℕ) (q : PairState) → (socket ≡ own → ⊥) → AreUnshut own foreign q.entries
      → Whole (changed (is_mine_on socket) called_off (desk_of q []))
  closes_keep socket q other h =
      keeps_changed (Unit {0}) g own foreign 0 is_shut test_shut (is_mine_on socket) called_off (desk_of q [])
      (λ e w unshut is there. absurd (other (sym (eqb-true e.own socket (both e.mine (e.own == socket) w).1) ∙ is)))
      (whole q [] h)

  call_keeps : (k : Call) (q : PairState) (listening : List Listener) → (s : Sender) → IsAllowed link k q s
      → AreUnshut own foreign q.entries → IsOther own k → AreUnshut own foreign (ends_by g k q listening)
  call_keeps (Hears stamp said c) q listening s may h other =
      (keeps_taken (Unit {0}) g own foreign stamp is_shut test_shut q.busy c (desk_of q listening) (spares stamp c)
      (record { ends = h; told = tt })).ends
  call_keeps (Takes l text) q listening s may h other =
      (keeps_found (Unit {0}) g own foreign 0 is_shut test_shut l text (receiver_on l (desk_of q listening))
      (desk_of q listening) (whole q listening h)).ends
  call_keeps (Says stamp c) q listening s may h other = said_keeps stamp c q listening may h
  call_keeps (Sends stamp e size count) q listening s may h other =
      (keeps_quiet (Unit {0}) g own foreign 0 is_shut test_shut (may_send_on q.busy (link_of e.link))
      (bits_gone (size * count)) (desk_of q listening) (λ x. (refl, refl, refl, refl, refl)) (whole q listening h)).ends
  call_keeps (Answered l) q listening s may h other =
      (keeps_settled (Unit {0}) g own foreign 0 is_shut test_shut (freed l q).busy (desk_of q listening)
      (whole q listening h)).ends
  call_keeps (OpensReceiver o f) q listening s may h other = asks_keep o f (free_link q.entries) q h
  call_keeps (OpensSender o f size) q listening s may h other =
      (keeps_joined (Unit {0}) g own foreign 0 is_shut test_shut (sending_end o f size) (desk_of q []) refl refl
      (inr refl) (whole q [] h)).ends
  call_keeps (Grants socket messages bits e) q listening s may h other =
      (keeps_quiet (Unit {0}) g own foreign 0 is_shut test_shut (is_mine_on socket) (commands.granted messages bits)
      (desk_of q []) (λ x. (refl, refl, refl, refl, refl)) (whole q [] h)).ends
  call_keeps (AsksBack socket messages bits e) q listening s may h other = h
  call_keeps (Gives socket bits e) q listening s may h other =
      (keeps_quiet (Unit {0}) g own foreign 0 is_shut test_shut (is_mine_on socket) (with_more_bits bits) (desk_of q [])
      (λ x. (refl, refl, refl, refl, refl)) (whole q [] h)).ends
  call_keeps (Closes socket e) q listening s may h other =
      (keeps_settled (Unit {0}) g own foreign 0 is_shut test_shut q.busy (desk_of (with_end socket called_off q) [])
      (record { ends = (closes_keep socket q other h).ends; told = tt })).ends

  -- one call after another
  pub walk : (ms older : List calls.Moment) → IsHistory g (ms ++ older) → AreAllowed numbered g link (ms ++ older)
      → AllOther own ms → AreUnshut own foreign (ends_now g older) → AreUnshut own foreign (ends_now g (ms ++ older))
  walk [] older history may other h = h
  walk (m ∷ ms) older history may other h =
      call_keeps m.call m.pair m.listening (sender_now numbered g link (ms ++ older)) may.0
      (subst (λ (es : List Entry). AreUnshut own foreign es) (sym history.0)
      (walk ms older history.1 may.1 other.1 h)) other.0

-- ---- one moment

other_one : (own : ℕ) (k : Call) → NoClose k → IsOther own k
other_one own (Closes socket e) n = absurd n
other_one own k n = tt

none_other : (own : ℕ) (ms : List calls.Moment) → NoneClose ms → AllOther own ms
none_other own [] n = tt
none_other own (m ∷ ms) n = (other_one own m.call n.0, none_other own ms n.1)

module _ (x : Life) (goes : x.ended ≡ false) (ms : List Moment) where
  abbrev s : NcpState
  s = program x.host ms

  its : (h : Host) (socket : ℕ) → same_host x.host h ≡ true → socket ≡ x.socket → lives_at h socket x ≡ true
  its h socket e same =
      let here : same_host h x.host ≡ true =
      subst (λ (v : Host). same_host h v ≡ true) (sym (same_host-true x.host h e)) (same_host-refl h) in
      let at : (x.socket == socket) ≡ true = eq-eqb x.socket socket (sym same) in
      rw (here, at, goes) refl

  close_owner : (h : Host) (socket : ℕ) (o : Option (Host × Entry)) → same_host x.host h ≡ true
      → (lives_at h socket x ≡ true → ⊥) → AllOther x.socket (owner_calls x.peer (Closes socket)
      (pair_with x.peer s.peers) s.listening o)
  close_owner h socket None e none = tt
  close_owner h socket (Some (k, end)) e none = by (same_host x.peer k) where
    by : (v : Bool) → AllOther x.socket (if v then called (Closes socket end)
        (pair_with x.peer s.peers) s.listening ∷ [] else [])
    by true = ((λ same. none (its h socket e same)), tt)
    by false = tt

  close_socket : (h : Host) (socket : ℕ) (v : Bool) → same_host x.host h ≡ true → (lives_at h socket x ≡ true → ⊥)
      → AllOther x.socket (if v then [] else owner_calls x.peer (Closes socket) (pair_with x.peer s.peers) s.listening
      (owner_of socket s.peers))
  close_socket h socket true e none = tt
  close_socket h socket false e none = close_owner h socket (owner_of socket s.peers) e none

  of_request : (h : Host) (r : Request) → same_host x.host h ≡ true → (IsClose (Asked h r) x → ⊥)
      → AllOther x.socket (request_calls x.peer s r)
  of_request h (request.Close socket) e none = close_socket h socket (listens_on socket s.listening) e none
  of_request h (request.OpenSend host k foreign size) e none =
      none_other x.socket (request_calls x.peer s (request.OpenSend host k foreign size))
      (none_if (same_host x.peer host) (called (OpensSender k foreign size)
      (pair_with x.peer s.peers) s.listening ∷ []) [] (tt, tt) tt)
  of_request h (request.OpenReceive host k foreign) e none =
      none_other x.socket (request_calls x.peer s (request.OpenReceive host k foreign))
      (none_if (same_host x.peer host) (called (OpensReceiver k foreign) (pair_with x.peer s.peers) s.listening ∷ []) []
      (tt, tt) tt)
  of_request h (request.Send socket bits) e none =
      none_other x.socket (request_calls x.peer s (request.Send socket bits))
      (none_owner x.peer (Gives socket bits) (pair_with x.peer s.peers) s.listening (owner_of socket s.peers) (λ d. tt))
  of_request h (request.Grant socket m n) e none =
      none_other x.socket (request_calls x.peer s (request.Grant socket m n))
      (none_owner x.peer (Grants socket m n) (pair_with x.peer s.peers) s.listening (owner_of socket s.peers) (λ d. tt))
  of_request h (request.AskBack socket m n) e none =
      none_other x.socket (request_calls x.peer s (request.AskBack socket m n))
      (none_owner x.peer (AsksBack socket m n) (pair_with x.peer s.peers) s.listening (owner_of socket s.peers)
      (λ d. tt))
  of_request h r e none = tt

  others : (y : Moment) → (IsClose y x → ⊥) → AllOther x.socket (calls_by x.host x.peer y ms)
  others (Crossed c) none =
      none_other x.socket (calls_by x.host x.peer (Crossed c) ms) (none_crossed x.host x.peer c ms)
  others (Asked h r) none = by (same_host x.host h) refl where
    by : (v : Bool) → same_host x.host h ≡ v → AllOther x.socket (if v then request_calls x.peer s r else [])
    by true e = of_request h r e none
    by false e = tt

-- of a life
abbrev pub Unshut : Life → List Moment → Type 0
Unshut x ms = AreUnshut x.socket x.foreign (pair_with x.peer (program x.host ms).peers).entries

-- a moment in which no user closes it leaves it so
pub unshut_next : (hosts : Network) (y : Moment) (ms : List Moment) → Lawful hosts (y ∷ ms) → (x : Life)
    → AreOurs hosts x.host x.peer
    → x.ended ≡ false → (IsClose y x → ⊥) → Unshut x ms → Unshut x (y ∷ ms)
unshut_next hosts y ms l x ours goes none h =
    subst (λ (es : List Entry). AreUnshut x.socket x.foreign es) now.1
    (by (keeps x.host x.peer (event_in y) (events_of ms)) refl) where
      lower : Lawful hosts ms
      lower = below hosts y ms l

      now : Chained x.host x.peer (y ∷ ms)
      now = chain hosts l.0 (y ∷ ms) l.1 l.2 x.host x.peer ours

      was : Chained x.host x.peer ms
      was = chain hosts lower.0 ms lower.1 lower.2 x.host x.peer ours

      by : (v : Bool) → keeps x.host x.peer (event_in y) (events_of ms) ≡ v
          → AreUnshut x.socket x.foreign (ends_now x.peer (own_calls x.host x.peer (y ∷ ms)))
      by true e =
          let is : own_calls x.host x.peer (y ∷ ms) ≡ calls_by x.host x.peer y ms ++ own_calls x.host x.peer ms =
          ap (λ (v : Bool). if v then calls_by x.host x.peer y ms ++ own_calls x.host x.peer ms else []) e in
          subst (λ (cs : List calls.Moment). AreUnshut x.socket x.foreign (ends_now x.peer cs)) (sym is)
          (walk x.peer x.socket x.foreign (suc zero) (calls_by x.host x.peer y ms) (own_calls x.host x.peer ms)
          (subst (λ (cs : List calls.Moment). IsHistory x.peer cs) is now.0)
          (subst (λ (cs : List calls.Moment). AreAllowed numbered x.peer (suc zero) cs) is
          (all_allowed hosts l.0 (suc zero) (no_zero zero) x.host x.peer ours (y ∷ ms) l.1 l.2)) (others x goes ms y none)
          (subst (λ (es : List Entry). AreUnshut x.socket x.foreign es) (sym was.1) h))
      by false e =
          subst (λ (cs : List calls.Moment). AreUnshut x.socket x.foreign (ends_now x.peer cs))
          (sym (ap (λ (v : Bool). if v then calls_by x.host x.peer y ms ++ own_calls x.host x.peer ms else []) e))
          (λ d there. absurd there)
