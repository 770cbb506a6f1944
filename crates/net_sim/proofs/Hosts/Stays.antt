-- What no call of a program changes: whose it is, and whether memory has run out in it.
use Rattle.net_sim.proofs.Common.{◌≡◌, ℕ, Bool, true, false, if◌then◌else◌, List, [], ◌∷◌, Option, Some, None, refl, ◌∙◌, Host, same_host, Inbound, is_busy, PairState, NcpState, opening_state, owner_of, pair_with, listens_on, at_owner, Parcel, next_in, offered_by, Entry, Notice, Peer, Request, Moment, Crossed, Asked, places, program}
use Rattle.net_sim.specs.Story.{program_after}
use Rattle.interface.specs.declared.crossing.Crossing.TheVariants as crossing
use Rattle.interface.specs.declared.crossing.Inbound.TheVariants as inbound
use Rattle.sockets.specs.Accepting.{accepted}
use Rattle.sockets.specs.Requests.{served}
use Rattle.sockets.specs.Sending.{offered}
use Rattle.sockets.specs.declared.request.Request.TheVariants as request

-- nothing but its peers and what listens has changed
pub record Stays (s t : NcpState) : Type 0 where
  pub own : t.own ≡ s.own
  pub spent : t.spent ≡ s.spent

same : (s : NcpState) → Stays s s
same s = record { own = refl; spent = refl }

then_stays : (s t u : NcpState) → Stays t u → Stays s t → Stays s u
then_stays s t u later first = record { own = later.own ∙ first.own; spent = later.spent ∙ first.spent }

owner_stays : (s : NcpState) (o : Option (Host × Entry)) (change : Entry → PairState → PairState) → Stays s (at_owner s o change)
owner_stays s None change = same s
owner_stays s (Some (g, e)) change = record { own = refl; spent = refl }

if_stays : (b : Bool) (s t u : NcpState) → Stays s t → Stays s u → Stays s (if b then t else u)
if_stays true s t u k l = k
if_stays false s t u k l = l

pub served_stays : (s : NcpState) (r : Request) → Stays s (served s r)
unfolding served
served_stays s (request.Send socket bits) = owner_stays s (owner_of socket s.peers) _
served_stays s (request.Grant socket messages bits) = owner_stays s (owner_of socket s.peers) _
served_stays s (request.AskBack socket messages bits) = owner_stays s (owner_of socket s.peers) _
served_stays s (request.Interrupt socket) = owner_stays s (owner_of socket s.peers) _
served_stays s (request.Close socket) = if_stays (listens_on socket s.listening) s _ _ (record { own = refl; spent = refl }) (owner_stays s (owner_of socket s.peers) _)
served_stays s r = record { own = refl; spent = refl }

-- a turn leaves such a program
abbrev TurnStays : NcpState → NcpState × List Notice → Type 0
TurnStays s t = Stays s t.0

offered_by_stays : (s : NcpState) (stamp : ℕ) (o : Option (Peer × Parcel)) → TurnStays s (offered_by s stamp o)
offered_by_stays s stamp None = same s
offered_by_stays s stamp (Some (p, x)) = record { own = refl; spent = refl }

pub offered_stays : (s : NcpState) (stamp : ℕ) → TurnStays s (offered s stamp)
unfolding offered
offered_stays s stamp = offered_by_stays s stamp (next_in s.peers)

turn_if : (b : Bool) (s : NcpState) (t u : NcpState × List Notice) → TurnStays s t → TurnStays s u → TurnStays s (if b then t else u)
turn_if true s t u k l = k
turn_if false s t u k l = l

pub accepted_stays : (s : NcpState) (i : Inbound) (stamp : ℕ) → TurnStays s (accepted s i stamp)
unfolding accepted
accepted_stays s (inbound.Message m) stamp = turn_if (same_host s.own m.flow.destination) s _ (s, []) (record { own = refl; spent = refl }) (same s)
accepted_stays s (inbound.Answer kind f) stamp =
    turn_if (same_host s.own f.source) s _ (s, [])
    (turn_if (is_busy (pair_with f.destination s.peers).busy f.link.0) s _ (s, []) (record { own = refl; spent = refl }) (same s)) (same s)

-- ---- so it is as it was when its host came up

module _ (a : Host) (s : NcpState) (h : Stays (opening_state a) s) where
  or_stays : (b : Bool) (t : NcpState) → Stays s t → Stays (opening_state a) (if b then t else s)
  or_stays b t k = if_stays b (opening_state a) t s (then_stays (opening_state a) s t k h) h

  after_stays : (here : ℕ) (x : Moment) → Stays (opening_state a) (program_after a here x s)
  after_stays here (Crossed (crossing.Out m)) = or_stays (same_host a m.flow.source) (offered s here).0 (offered_stays s here)
  after_stays here (Crossed (crossing.In m)) = or_stays (same_host a m.flow.destination) (accepted s (inbound.Message m) here).0 (accepted_stays s (inbound.Message m) here)
  after_stays here (Crossed (crossing.Answer kind f)) = or_stays (same_host a f.source) (accepted s (inbound.Answer kind f) here).0 (accepted_stays s (inbound.Answer kind f) here)
  after_stays here (Crossed (crossing.Down g)) = if_stays (same_host a g) (opening_state a) (opening_state a) s (same (opening_state a)) h
  after_stays here (Crossed (crossing.Up g)) = if_stays (same_host a g) (opening_state a) (opening_state a) s (same (opening_state a)) h
  after_stays here (Asked g r) = or_stays (same_host a g) (served s r) (served_stays s r)

pub program_stays : (a : Host) (moments : List Moment) → Stays (opening_state a) (program a moments)
program_stays a [] = same (opening_state a)
program_stays a (x ∷ moments) = after_stays a (program a moments) (program_stays a moments) (places moments) x
