-- What two programs of a world that stay together have of each link, as the law of streams has it.
use Rattle.world_keeps_streams.proofs.Common.{◌≡◌, ℕ, ◌==◌, Bool, true, false, List, refl, ap, sym, subst, ◌∙◌, Host, Entry, HasReceiver, AreAllowed, HasClosed, gone_now, name_now, numbered, receiver_now, sender_now, IsSending, safe_inv, pair_with, HaveAddresses, Moment, events_of, program, crossings_of, own_calls, numbered_by_peer, AreOurs, Network, Happened}
use Rattle.host_keeps_streams.proofs.lemmas.{closed_first, holds_now, numbered_tells, Holds}
use Rattle.stream_law.specs.Within.{IsSafe, AreGranted, IsPrefix}
use Rattle.interface.specs.Mailboxes as mail
use Rattle.stream_law.specs.Receivers.{Receiver}
use Rattle.stream_law.specs.Senders.{Sender}
use Rattle.reset_law.specs.Stays as stay
use Rattle.world_keeps_streams.proofs.Calls.Allowed.{may_calls}
use Rattle.world_keeps_streams.proofs.Calls.Chain.{Chained, chain}
use Rattle.world_keeps_streams.proofs.Steps.JoinedAll.{joined}
use Rattle.world_keeps_streams.proofs.Calls.MayAll.{allowed}

module _ (hosts : Network) (addresses : HaveAddresses hosts.all) (link : ℕ) (off : (link == 0) ≡ false) (a b : Host) (ours : AreOurs hosts a b) where
  -- each call since a host dropped its ends might be made
  pub all_allowed : (moments : List Moment) → mail.IsRun hosts.all (crossings_of moments) → Happened hosts moments → AreAllowed numbered b link (own_calls a b moments)
  all_allowed = allowed numbered link hosts addresses a b ours (λ moments run time. (joined link off hosts addresses a b ours moments run time).allowed_a) (λ x moments run time. may_calls hosts addresses x moments run time a b ours)

  -- so the program's ends are the law's
  all_hold : (moments : List Moment) → mail.IsRun hosts.all (crossings_of moments) → Happened hosts moments
      → Holds numbered numbered_tells link (gone_now b (own_calls a b moments)) (pair_with b (program a moments).peers).entries (receiver_now numbered b link (own_calls a b moments)) (sender_now numbered b link (own_calls a b moments))
  all_hold moments run time =
      let c : Chained a b moments = chain hosts addresses moments run time a b ours in
      subst (λ (es : List Entry). Holds numbered numbered_tells link (gone_now b (own_calls a b moments)) es (receiver_now numbered b link (own_calls a b moments)) (sender_now numbered b link (own_calls a b moments))) c.1
      (holds_now numbered numbered_tells b link (own_calls a b moments) c.0 (all_allowed moments run time))

  pub has_receiver : (moments : List Moment) → mail.IsRun hosts.all (crossings_of moments) → Happened hosts moments
      → HasReceiver (name_now numbered b (own_calls a b moments)) link (pair_with b (program a moments).peers).entries (receiver_now numbered b link (own_calls a b moments))
  has_receiver moments run time = (all_hold moments run time).received

  pub has_sender : (moments : List Moment) → mail.IsRun hosts.all (crossings_of moments) → Happened hosts moments
      → IsSending (name_now numbered b (own_calls a b moments)) link (pair_with b (program a moments).peers).entries (sender_now numbered b link (own_calls a b moments))
  has_sender moments run time = (all_hold moments run time).sent

  -- ---- while both stay

  module _ (moments : List Moment) (run : mail.IsRun hosts.all (crossings_of moments)) (time : Happened hosts moments) (mine : stay.stays a b (events_of moments) ≡ true) (theirs : stay.stays b a (events_of moments) ≡ true) (c : ℕ) where
    received : (joined link off hosts addresses a b ours moments run time).x.receiver ≡ receiver_now numbered b link (own_calls a b moments)
    received = (joined link off hosts addresses a b ours moments run time).received_a mine

    sent : (joined link off hosts addresses a b ours moments run time).x.sender ≡ sender_now numbered_by_peer a link (own_calls b a moments)
    sent = (joined link off hosts addresses a b ours moments run time).sent_b theirs

    safe : IsSafe (joined link off hosts addresses a b ours moments run time).x c
    safe = safe_inv (joined link off hosts addresses a b ours moments run time).x (joined link off hosts addresses a b ours moments run time).joint.inv_x c

    pub both_front : IsPrefix ((receiver_now numbered b link (own_calls a b moments)).taken c) ((sender_now numbered_by_peer a link (own_calls b a moments)).sent c)
    both_front =
        subst (λ (s : Sender). IsPrefix ((receiver_now numbered b link (own_calls a b moments)).taken c) (s.sent c)) sent
        (subst (λ (r : Receiver). IsPrefix (r.taken c) ((joined link off hosts addresses a b ours moments run time).x.sender.sent c)) received safe.front)

    -- and all of it, where the sender's CLS was heard and no user closed the end here
    pub both_whole : (receiver_now numbered b link (own_calls a b moments)).over c ≡ true → (HasClosed numbered b link c (own_calls a b moments) → ⊥)
        → (receiver_now numbered b link (own_calls a b moments)).taken c ≡ (sender_now numbered_by_peer a link (own_calls b a moments)).sent c
    both_whole over none = by ((receiver_now numbered b link (own_calls a b moments)).first c) refl where
      by : (v : Bool) → (receiver_now numbered b link (own_calls a b moments)).first c ≡ v → (receiver_now numbered b link (own_calls a b moments)).taken c ≡ (sender_now numbered_by_peer a link (own_calls b a moments)).sent c
      by true e = absurd (none (closed_first numbered b link c (own_calls a b moments) e))
      by false e =
          ap (λ (r : Receiver). r.taken c) (sym received) ∙ safe.whole (ap (λ (r : Receiver). r.over c) received ∙ over) (ap (λ (r : Receiver). r.first c) received ∙ e) ∙ ap (λ (s : Sender). s.sent c) sent

    pub both_taken : AreGranted ((receiver_now numbered b link (own_calls a b moments)).taken c) ((receiver_now numbered b link (own_calls a b moments)).returned c) ((receiver_now numbered b link (own_calls a b moments)).granted c)
    both_taken = subst (λ (r : Receiver). AreGranted (r.taken c) (r.returned c) (r.granted c)) received safe.taken

    pub both_sent : AreGranted ((sender_now numbered_by_peer a link (own_calls b a moments)).sent c) ((receiver_now numbered b link (own_calls a b moments)).returned c) ((receiver_now numbered b link (own_calls a b moments)).granted c)
    both_sent =
        subst (λ (s : Sender). AreGranted (s.sent c) ((receiver_now numbered b link (own_calls a b moments)).returned c) ((receiver_now numbered b link (own_calls a b moments)).granted c)) sent
        (subst (λ (r : Receiver). AreGranted ((joined link off hosts addresses a b ours moments run time).x.sender.sent c) (r.returned c) (r.granted c)) received safe.sent)
