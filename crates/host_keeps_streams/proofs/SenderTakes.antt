-- What the sender of a link does by each command of its peer.
use Rattle.host_keeps_streams.proofs.Common.{◌≡◌, ℕ, Bool, true, false, ◌&&◌, ◌==◌, nat_le, if◌then◌else◌, List, [], ◌∷◌, ◌++◌, Option, Some, None, is_some, refl, sym, subst, ◌∙◌, eqb-true, list_any, Host, IsCommand, is_receive_socket, Allocation, Command, Sender, Found, Unconnected, Ending, Open, all_taken, asked_with_size, at_end, given_back, granted, gvb_taken, interrupted, ret_taken, returned, receiver_on, rts_taken, sender_on, str_heard, str_linked, str_taken, str_taken_by, desk_taken, DeskState, listener_on, entry_at, free_link, is_at, is_receiving, receiving_end, receives_on, refused_end, sends_on, Entry, Listener, AreSender, HasSender, AreFormed, rts_sent, sent_by, numbers, AreApart, AreKnown, NewSent, LeavesSender}
use Rattle.ncp_control.specs.Allocation as counters
use Rattle.ncp_control.specs.declared.command.Command.TheVariants as command
use Rattle.stream_law.specs.Words as words
use Rattle.stream_law.specs.Senders as senders
use Rattle.host_keeps_streams.specs.Formed.{FindsFree}
use Rattle.host_keeps_streams.proofs.Known.{Sent, known_append, known_changed, known_idle, known_same}
use Rattle.host_keeps_streams.proofs.Lists.{append_off, away, not_sent, unlike}
use Rattle.host_keeps_streams.proofs.Quiet.{sender_leaves}
use Rattle.host_keeps_streams.proofs.ReceiverHears.{odd_is, own_parity}
use Rattle.host_keeps_streams.proofs.Senders.{all_sends, gvb_sends}
use Rattle.host_keeps_streams.proofs.SenderHears as requests
use Rattle.host_keeps_streams.proofs.SenderShuts as closings

-- ---- counters are no matter of requests and CLS

counted_size : (f : Allocation → Allocation) (o : Option ℕ) (s : Sender) → (senders.with_allocation o f s).size ≡ s.size
counted_size f None s = refl
counted_size f (Some c) s = by (senders.is_open c s) refl where
  by : (v : Bool) → senders.is_open c s ≡ v → (senders.with_allocation (Some c) f s).size ≡ s.size
  by true t = rw t refl
  by false t = rw t refl

counted_closed : (f : Allocation → Allocation) (o : Option ℕ) (s : Sender) → (senders.with_allocation o f s).closed ≡ s.closed
counted_closed f None s = refl
counted_closed f (Some c) s = by (senders.is_open c s) refl where
  by : (v : Bool) → senders.is_open c s ≡ v → (senders.with_allocation (Some c) f s).closed ≡ s.closed
  by true t = rw t refl
  by false t = rw t refl

module _ (name : ℕ → ℕ → ℕ) (s : Sender) where
  at_end_known : (c : Command) (change : Entry → DeskState → DeskState) (w : Found) (d : DeskState) → AreKnown name d.entries s → ((e : Entry) → AreKnown name (change e d).entries s) → AreKnown name (at_end c change w d).entries s
  at_end_known c change Unconnected d k f = k
  at_end_known c change Ending d k f = k
  at_end_known c change (Open e) d k f = f e

  ret_known : (l m n : ℕ) (e : Entry) (d : DeskState) → AreKnown name d.entries s → AreKnown name (ret_taken l m n e d).entries s
  ret_known l m n e d k = by (nat_le m e.allocation.messages && nat_le n e.allocation.bits) refl where
    by : (v : Bool) → (nat_le m e.allocation.messages && nat_le n e.allocation.bits) ≡ v → AreKnown name (ret_taken l m n e d).entries s
    by true t = rw t (known_idle name _ _ s d.entries (record { own = λ x. refl; foreign = λ x. refl; size = λ x. refl; closing = λ x. refl }) k)
    by false t = rw t k

  all_known : (peer : Host) (busy : List ℕ) (stamp l m n : ℕ) (d : DeskState) → AreKnown name d.entries s → AreKnown name (desk_taken peer busy stamp (command.All l m n) d).entries s
  all_known peer busy stamp l m n d k =
      at_end_known (command.All l m n) _ (sender_on l d) d k (λ e. known_idle name (sends_on l) (granted m n) s d.entries (record { own = λ x. refl; foreign = λ x. refl; size = λ x. refl; closing = λ x. refl }) k)

  gvb_known : (peer : Host) (busy : List ℕ) (stamp l m n : ℕ) (d : DeskState) → AreKnown name d.entries s → AreKnown name (desk_taken peer busy stamp (command.Gvb l m n) d).entries s
  gvb_known peer busy stamp l m n d k =
      at_end_known (command.Gvb l m n) _ (sender_on l d) d k (λ e. known_idle name (sends_on l) (given_back m n) s d.entries (record { own = λ x. refl; foreign = λ x. refl; size = λ x. refl; closing = λ x. refl }) k)

module _ (name : ℕ → ℕ → ℕ) (link : ℕ) (peer : Host) (busy : List ℕ) (stamp k : ℕ) (d : DeskState) (s : Sender) (h : HasSender name link d.entries s) (known : AreKnown name d.entries s) where
  left : (c : Command) → LeavesSender link c → AreKnown name (desk_taken peer busy stamp c d).entries s → Sent name link [] (desk_taken peer busy stamp c d).entries s
  left c l j = record { may = tt; has = subst (λ (xs : List Entry). AreSender name xs s) (sym (sender_leaves link peer busy stamp c d l)) h; known = j }

  all_by : (l m n : ℕ) (v : Bool) → (l == link) ≡ v → Sent name link (if v then senders.Hear (words.All k m n) ∷ [] else []) (desk_taken peer busy stamp (command.All l m n) d).entries s
  all_by l m n true e = record {
    may = (tt, tt);
    has = subst (λ (x : ℕ). HasSender name link (desk_taken peer busy stamp (command.All x m n) d).entries (senders.with_allocation s.end (λ a. counters.granted a m n) s)) (sym (eqb-true l link e)) (all_sends name link peer busy stamp m n d s h);
    known = known_same name (desk_taken peer busy stamp (command.All l m n) d).entries s (senders.with_allocation s.end (λ a. counters.granted a m n) s)
        (counted_size (λ a. counters.granted a m n) s.end s) (counted_closed (λ a. counters.granted a m n) s.end s) (all_known name s peer busy stamp l m n d known);
  }
  all_by l m n false e = left (command.All l m n) e (all_known name s peer busy stamp l m n d known)

  gvb_by : (l m n : ℕ) (v : Bool) → (l == link) ≡ v → Sent name link (if v then senders.Hear (words.Gvb k m n) ∷ [] else []) (desk_taken peer busy stamp (command.Gvb l m n) d).entries s
  gvb_by l m n true e = record {
    may = (tt, tt);
    has = subst (λ (x : ℕ). HasSender name link (desk_taken peer busy stamp (command.Gvb x m n) d).entries (senders.with_allocation s.end (λ a. counters.given_back a m n) s)) (sym (eqb-true l link e)) (gvb_sends name link peer busy stamp m n d s h);
    known = known_same name (desk_taken peer busy stamp (command.Gvb l m n) d).entries s (senders.with_allocation s.end (λ a. counters.given_back a m n) s)
        (counted_size (λ a. counters.given_back a m n) s.end s) (counted_closed (λ a. counters.given_back a m n) s.end s) (gvb_known name s peer busy stamp l m n d known);
  }
  gvb_by l m n false e = left (command.Gvb l m n) e (gvb_known name s peer busy stamp l m n d known)

  -- ---- an STR is no matter of a sender

  module _ (own foreign z : ℕ) (even : is_receive_socket own ≡ true) (a : AreApart (numbers name d.entries)) where
    more : (e : Entry) → is_receiving e ≡ true → Sent name link [] (d.entries ++ e ∷ []) s
    more e i = record {
      may = tt;
      has = subst (λ (xs : List Entry). AreSender name xs s) (sym (append_off _ e d.entries (not_sent link e i))) h;
      known = known_append name d.entries e s known (λ j. absurd (unlike (is_receiving e) i j));
    }

    linked_by : (o : Option ℕ) → Sent name link [] (str_linked own foreign z stamp o d).entries s
    linked_by None = more _ even
    linked_by (Some l) = more _ even

    listened_by : (o : Option Listener) → Sent name link [] (str_heard own foreign z stamp o d).entries s
    listened_by None = more _ even
    listened_by (Some l) = linked_by _

    found_by : (e : Entry) → entry_at own foreign d.entries ≡ Some e → (v : Bool) → is_some e.partner ≡ v → Sent name link [] (str_taken_by peer own foreign z stamp (Some e) d).entries s
    found_by e found true p = rw p (record { may = tt; has = h; known = known })
    found_by e found false p =
        let i : is_receiving e ≡ true = own_parity name link own foreign e d.entries found ∙ even in
        rw p (record {
          may = tt;
          has = subst (λ (xs : List Entry). AreSender name xs s) (sym (away _ _ _ e d.entries (not_sent link e i) (not_sent link (asked_with_size stamp z e) i) found)) h;
          known = known_changed name _ _ e d.entries s s (λ n out. (refl, refl)) (record { own = λ x. refl; foreign = λ x. refl }) (λ j. absurd (unlike (is_receiving e) i j)) a known found;
        })

    str_by : (o : Option Entry) → entry_at own foreign d.entries ≡ o → Sent name link [] (str_taken_by peer own foreign z stamp o d).entries s
    str_by None found = listened_by _
    str_by (Some e) found = found_by e found _ refl

    str_leaves : Sent name link [] (str_taken peer own foreign z stamp d).entries s
    str_leaves = str_by _ refl

  -- ---- an RTS

  rts_by : (own foreign l : ℕ) → is_receive_socket own ≡ false → AreFormed d.entries → AreApart (numbers name d.entries) → NewSent name (command.Rts foreign own l) d.entries s → FindsFree link (command.Rts foreign own l) d.entries s
      → (v : Bool) → list_any (sends_on l) d.entries ≡ v
      → Sent name link (if v then [] else rts_sent (l == link) (name own foreign) (listener_on own d.listening) (entry_at own foreign d.entries)) (rts_taken peer own foreign l stamp d).entries s
  rts_by own foreign l odd formed a new free true e = rw e (record { may = tt; has = h; known = known })
  rts_by own foreign l odd formed a new free false e =
      let none : (l == link) ≡ true → s.end ≡ None
      = λ t. (let same : l ≡ link = eqb-true l link t in free same (subst (λ (n : ℕ). list_any (sends_on n) d.entries ≡ false) same e)) in
      rw e (requests.rts_by name link peer stamp own foreign l d s odd h known a formed e (entry_at own foreign d.entries) refl new none)

  -- ---- all commands

  module _ (a : AreApart (numbers name d.entries)) (formed : AreFormed d.entries) where
    pub takes_all : (c : Command) → IsCommand c → NewSent name c d.entries s → FindsFree link c d.entries s → Sent name link (sent_by name link k busy c d s) (desk_taken peer busy stamp c d).entries s
    takes_all (command.Rts receive send l) i new free = rts_by send receive l (odd_is send i.3) formed a new free (list_any (sends_on l) d.entries) refl
    takes_all (command.Str send receive size) i new free = str_leaves receive send size i.3 a
    takes_all (command.Cls foreign own) i new free = closings.cls_hears name link peer busy own foreign d s h known a (entry_at own foreign d.entries) refl
    takes_all (command.All l m n) i new free = all_by l m n (l == link) refl
    takes_all (command.Gvb l m n) i new free = gvb_by l m n (l == link) refl
    takes_all (command.Ret l m n) i new free = left (command.Ret l m n) tt (at_end_known name s (command.Ret l m n) (ret_taken l m n) (receiver_on l d) d known (λ e. ret_known name s l m n e d known))
    takes_all (command.Inr l) i new free = left (command.Inr l) tt (at_end_known name s (command.Inr l) interrupted (sender_on l d) d known (λ e. known))
    takes_all (command.Ins l) i new free = left (command.Ins l) tt (at_end_known name s (command.Ins l) interrupted (receiver_on l d) d known (λ e. known))
    takes_all c i new free = left c tt known
