-- The lives of a host's book with each peer are carried by its calls, at all lawful moments of a world.
use Rattle.world_keeps_streams.proofs.Common.{◌≡◌, ℕ, ◌==◌, ◌&&◌, Bool, true, false, if◌then◌else◌, List, [], ◌∷◌, Option, Some, refl, ap, sym, subst, Host, same_host, HostMessage, same_host-true, Parcel, Listener, AreAllowed, IsTelling, numbered, numbered_tells, turn_of, pair_with, next_in, Peer, HaveAddresses, Asked, Crossed, IsNext, Moment, event_in, events_of, places, program, crossings_of, coupled, clash, keeps, answer_calls, calls_by, message_calls, next_calls, own_calls, parcel_calls, request_calls, numbered_by_peer, Happened, Network, AreOurs}
use Rattle.interface.specs.Mailboxes as mail
use Rattle.interface.specs.declared.crossing.Crossing.TheVariants as crossing
use Rattle.host_keeps_streams.specs.Histories as calls
use Rattle.world_keeps_streams.proofs.Calls.Chain.{plain_at}
use Rattle.world_keeps_streams.proofs.Carried.Calls.{Carries}
use Rattle.world_keeps_streams.proofs.Carried.Every.{Keeping, carries_by}
use Rattle.world_keeps_streams.proofs.Moments.Answer.{keeps_answer}
use Rattle.world_keeps_streams.proofs.Moments.Asked.{keeps_asked_by}
use Rattle.world_keeps_streams.proofs.Moments.AskedDown.{keeps_down, keeps_up}
use Rattle.world_keeps_streams.proofs.Moments.AskedNext.{nothing_kept}
use Rattle.world_keeps_streams.proofs.Moments.In.{keeps_in}
use Rattle.world_keeps_streams.proofs.Moments.Out.{keeps_out}
use Rattle.world_keeps_streams.proofs.Moments.OtherLives.{IsElsewhere, other_back, other_forth}
use Rattle.world_keeps_streams.proofs.Steps.Streams.{all_allowed}
use Rattle.world_keeps_streams.proofs.Steps.Joined.{turned_tells}
use Rattle.world_keeps_streams.proofs.Steps.JoinedAll.{joined}
use Rattle.world_keeps_streams.proofs.Calls.MayAll as may
use Rattle.world_keeps_streams.proofs.Calls.Allowed.{may_calls}

-- ---- what goes out to one peer is no call with another

if_false : (t : Bool) (cs : List calls.Moment) → t ≡ false → (if t then cs else []) ≡ []
if_false t cs off = ap (λ (v : Bool). if v then cs else []) off

next_none : (b : Host) (stamp : ℕ) (listening : List Listener) (p : Peer) (parcel : Parcel) → same_host b p.host ≡ false → (o : Option (Peer × Parcel)) → o ≡ Some (p, parcel) → next_calls b stamp listening o ≡ []
next_none b stamp listening p parcel off o is =
    subst (λ (n : Option (Peer × Parcel)). next_calls b stamp listening n ≡ []) (sym is) (if_false (same_host b p.host) (parcel_calls b stamp parcel p.pair listening) off)

out_none : (a b : Host) (m : HostMessage) (ms : List Moment)
    → (same_host a m.flow.source ≡ true → IsNext (program m.flow.source ms) m)
    → (same_host a m.flow.source && same_host b m.flow.destination) ≡ false
    → calls_by a b (Crossed (crossing.Out m)) ms ≡ []
out_none a b m ms next off = by (same_host a m.flow.source) refl off where
  by : (t : Bool) → same_host a m.flow.source ≡ t → (t && same_host b m.flow.destination) ≡ false → (if t then next_calls b (places ms) (program a ms).listening (next_in (program a ms).peers) else []) ≡ []
  by false e f = refl
  by true e f =
      let to : m.flow.destination ≡ (next e).peer.host = ap (λ (n : HostMessage). n.flow.destination) (next e).message in
      let here : next_in (program a ms).peers ≡ Some ((next e).peer, (next e).parcel) = subst (λ (h : Host). next_in (program h ms).peers ≡ Some ((next e).peer, (next e).parcel)) (sym (same_host-true a m.flow.source e)) (next e).next in
      next_none b (places ms) (program a ms).listening (next e).peer (next e).parcel (subst (λ (h : Host). same_host b h ≡ false) to f) (next_in (program a ms).peers) here

-- ---- one moment

module _ (number : ℕ → ℕ → ℕ → ℕ) (tells : IsTelling number) (hosts : Network) (addresses : HaveAddresses hosts.all) (a b : Host) (ours : AreOurs hosts a b)
    (allowed : (ms : List Moment) → mail.IsRun hosts.all (crossings_of ms) → Happened hosts ms → (link : ℕ) → (link == 0) ≡ false → AreAllowed number b link (own_calls a b ms)) where
  -- no call with the peer
  still : (x : Moment) (ms : List Moment) → mail.IsRun hosts.all (crossings_of (x ∷ ms)) → Happened hosts (x ∷ ms)
      → keeps a b (event_in x) (events_of ms) ≡ true → calls_by a b x ms ≡ [] → IsElsewhere a b x ms
      → Carries number a b ms → Carries number a b (x ∷ ms)
  still x ms run time on none away c =
      nothing_kept number tells hosts addresses a b ours allowed x ms run time on none (other_forth hosts addresses a b ours x ms run time away) (other_back hosts addresses a b ours x ms run time away) c

  keeping : Keeping number hosts addresses a b ours
  keeping (Crossed (crossing.Out m)) ms run time on c = by (same_host a m.flow.source && same_host b m.flow.destination) refl where
    by : (t : Bool) → (same_host a m.flow.source && same_host b m.flow.destination) ≡ t → Carries number a b (Crossed (crossing.Out m) ∷ ms)
    by true e = keeps_out number tells hosts addresses a b ours allowed m ms run time on e c
    by false e = still (Crossed (crossing.Out m)) ms run time on (out_none a b m ms (λ s. (coupled hosts addresses (Crossed (crossing.Out m) ∷ ms) run time).story.0 (plain_at hosts a m.flow.source s ours.0)) e) e c
  keeping (Crossed (crossing.In m)) ms run time on c = by (same_host a m.flow.destination && same_host b m.flow.source) refl where
    by : (t : Bool) → (same_host a m.flow.destination && same_host b m.flow.source) ≡ t → Carries number a b (Crossed (crossing.In m) ∷ ms)
    by true e = keeps_in number tells hosts addresses a b ours allowed m ms run time on e c
    by false e = still (Crossed (crossing.In m)) ms run time on (if_false (same_host a m.flow.destination && same_host b m.flow.source) (message_calls b (places ms) m.flow.link.0 m.text (turn_of (program a ms) b)) e) e c
  keeping (Crossed (crossing.Answer kind f)) ms run time on c = by (same_host a f.source && same_host b f.destination) refl where
    by : (t : Bool) → (same_host a f.source && same_host b f.destination) ≡ t → Carries number a b (Crossed (crossing.Answer kind f) ∷ ms)
    by true e = keeps_answer number tells hosts addresses a b ours allowed kind f ms run time on e c
    by false e = still (Crossed (crossing.Answer kind f)) ms run time on (if_false (same_host a f.source && same_host b f.destination) (answer_calls f.link.0 (pair_with b (program a ms).peers) (program a ms).listening) e) e c
  keeping (Crossed (crossing.Down h)) ms run time on c = keeps_down number tells hosts addresses a b ours allowed h ms run time on c
  keeping (Crossed (crossing.Up h)) ms run time on c = keeps_up number tells hosts addresses a b ours allowed h ms run time on c
  keeping (Asked h r) ms run time on c = by (same_host a h) refl where
    by : (t : Bool) → same_host a h ≡ t → Carries number a b (Asked h r ∷ ms)
    by true e = keeps_asked_by number tells hosts addresses a b ours allowed h r ms e run time on c
    by false e = still (Asked h r) ms run time on (if_false (same_host a h) (request_calls b (program a ms) r) e) (λ f. clash _ (same_host a h) f e) c

  carries : (ms : List Moment) → mail.IsRun hosts.all (crossings_of ms) → Happened hosts ms → Carries number a b ms
  carries ms run time = carries_by number hosts addresses a b ours keeping ms run time

-- ---- all moments, by a host's own numbers, and by those of its peer

module _ (hosts : Network) (addresses : HaveAddresses hosts.all) (a b : Host) (ours : AreOurs hosts a b) where
  allowed_turned : (ms : List Moment) → mail.IsRun hosts.all (crossings_of ms) → Happened hosts ms → (link : ℕ)
      → (link == 0) ≡ false → AreAllowed numbered_by_peer b link (own_calls a b ms)
  allowed_turned ms run time link off =
      may.allowed numbered_by_peer link hosts addresses a b ours (λ ns r t. (joined link off hosts addresses b a (ours.1, ours.0) ns r t).allowed_b) (λ x ns r t. may_calls hosts addresses x ns r t a b ours) ms run time

  pub carries_numbered : (ms : List Moment) → mail.IsRun hosts.all (crossings_of ms) → Happened hosts ms
      → Carries numbered a b ms
  carries_numbered ms run time = carries numbered numbered_tells hosts addresses a b ours (λ ns r t link off. all_allowed hosts addresses link off a b ours ns r t) ms run time

  pub carries_turned : (ms : List Moment) → mail.IsRun hosts.all (crossings_of ms) → Happened hosts ms
      → Carries numbered_by_peer a b ms
  carries_turned ms run time = carries numbered_by_peer turned_tells hosts addresses a b ours allowed_turned ms run time
