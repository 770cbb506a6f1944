-- After every story each program is, for each peer, where the law of resets has it.
use Rattle.net_sim.proofs.Common.{◌≡◌, Bool, true, false, if◌then◌else◌, List, [], ◌∷◌, refl, sym, subst, Host, same_host, Flow, Answer, HostMessage, PairState, NcpState, pair_with, message_for, Request, part_of, Pair, pair_moved, pair, Agrees, IsApart, message_on, event_of, event_by, Moment, Crossed, Asked, places, events_of, program, IsStory}
use Rattle.std.proofs.Common.{is_some}
use Rattle.interface.specs.declared.crossing.Crossing.TheVariants as crossing
use Rattle.interface.specs.declared.crossing.Inbound.TheVariants as inbound
use Rattle.interface.proofs.lemmas.{same_host-true}
use Rattle.sockets.specs.Accepting.{accepted}
use Rattle.sockets.specs.Requests.{served}
use Rattle.sockets.specs.Sending.{offered}
use Rattle.sockets.specs.declared.request.Request.TheVariants as request
use Rattle.reset_law.specs.Events.{Event}
use Rattle.net_sim.specs.Story.{AgreesAfter, IsNext, Follows}
use Rattle.net_sim.proofs.Hosts.Stays.{program_stays}
use Rattle.net_sim.proofs.Resets.Calls.{opening_agrees, request_agrees, message_agrees, answer_agrees}
use Rattle.net_sim.proofs.Resets.Offers.{offer_agrees}
use Rattle.reset_law.specs.Network.{AreOurs, Network}

-- ---- a program keeps its own address

pub program_own : (a : Host) (moments : List Moment) → (program a moments).own ≡ a
program_own a moments = (program_stays a moments).own

-- ---- one moment

-- what the law says of the program's own address, it says of the host
as_own : (a b : Host) (e : Event) (q : PairState) (p : Pair) (s : NcpState) → s.own ≡ a → Agrees q (pair_moved (part_of s.own b e) p) → Agrees q (pair_moved (part_of a b e) p)
as_own a b e q p s own h = subst (λ (x : Host). Agrees q (pair_moved (part_of x b e) p)) own h

another : (a b h : Host) (r : Request) (q : PairState) (p : Pair) → same_host a h ≡ false → Agrees q p → Agrees q (pair_moved (part_of a b (event_by h r)) p)
another a b h (request.Contact peer) q p e k = rw e k
another a b h r q p e k = k

asked_stands : (a b h : Host) (r : Request) (moments : List Moment) → AgreesAfter moments a b → (c : Bool) → same_host a h ≡ c → AgreesAfter (Asked h r ∷ moments) a b
asked_stands a b h r moments k true e =
    let s : NcpState = program a moments in
    let is : a ≡ h = same_host-true a h e in
    let step : Agrees (pair_with b (served (program a moments) r).peers) (pair_moved (part_of a b (event_by a r)) (pair a b (events_of moments))) =
    subst (λ (x : Host). Agrees (pair_with b (served (program a moments) r).peers) (pair_moved (part_of x b (event_by x r)) (pair a b (events_of moments)))) (program_own a moments) (request_agrees (program a moments) r b (pair a b (events_of moments)) k) in
    rw e (subst (λ (x : Host). Agrees (pair_with b (served (program a moments) r).peers) (pair_moved (part_of a b (event_by x r)) (pair a b (events_of moments)))) is step)
asked_stands a b h r moments k false e = rw e (another a b h r (pair_with b (program a moments).peers) (pair a b (events_of moments)) e k)

in_stands : (hosts : Network) (a b : Host) (m : HostMessage) (moments : List Moment) → AreOurs hosts a b → Follows hosts (Crossed (crossing.In m)) moments → AgreesAfter moments a b → (c : Bool) → same_host a m.flow.destination ≡ c → AgreesAfter (Crossed (crossing.In m) ∷ moments) a b
in_stands hosts a b m moments ours apart k true e =
    let from : same_host b m.flow.source ≡ true → IsApart m.flow.link.0 m.text (message_on m.flow.link.0 m.text) =
    λ f. apart (subst (λ (x : Host). hosts.strange x ≡ false) (same_host-true b m.flow.source f) ours.1, subst (λ (x : Host). hosts.strange x ≡ false) (same_host-true a m.flow.destination e) ours.0) in
    let step : Agrees (pair_with b (accepted (program a moments) (inbound.Message m) (places moments)).0.peers) (pair_moved (part_of a b (event_of (crossing.In m))) (pair a b (events_of moments))) =
    as_own a b (event_of (crossing.In m)) _ (pair a b (events_of moments)) (program a moments) (program_own a moments) (message_agrees (program a moments) m (places moments) b (pair a b (events_of moments)) from k) in
    let now : Agrees (pair_with b (if true then (accepted (program a moments) (inbound.Message m) (places moments)).0 else program a moments).peers) (pair_moved (part_of a b (event_of (crossing.In m))) (pair a b (events_of moments))) = step in
    subst (λ (x : Bool). Agrees (pair_with b (if x then (accepted (program a moments) (inbound.Message m) (places moments)).0 else program a moments).peers) (pair_moved (part_of a b (event_of (crossing.In m))) (pair a b (events_of moments)))) (sym e) now
in_stands hosts a b m moments ours apart k false e = rw e k

out_of : (a b : Host) (m : HostMessage) (moments : List Moment) → IsNext (program a moments) m → AgreesAfter moments a b
    → Agrees (pair_with b (offered (program a moments) (places moments)).0.peers) (pair_moved (part_of a b (event_of (crossing.Out m))) (pair a b (events_of moments)))
out_of a b m moments n k =
    let s : NcpState = program a moments in
    let step : Agrees (pair_with b (offered (program a moments) (places moments)).0.peers) (pair_moved (part_of (program a moments).own b (event_of (crossing.Out (message_for (program a moments).own n.peer n.parcel)))) (pair a b (events_of moments))) =
    offer_agrees (program a moments) (places moments) n.peer n.parcel b (pair a b (events_of moments)) n.order n.next k in
    let said : Agrees (pair_with b (offered (program a moments) (places moments)).0.peers) (pair_moved (part_of (program a moments).own b (event_of (crossing.Out m))) (pair a b (events_of moments))) =
    subst (λ (x : HostMessage). Agrees (pair_with b (offered (program a moments) (places moments)).0.peers) (pair_moved (part_of (program a moments).own b (event_of (crossing.Out x))) (pair a b (events_of moments)))) (sym n.message) step in
    as_own a b (event_of (crossing.Out m)) _ (pair a b (events_of moments)) (program a moments) (program_own a moments) said

out_stands : (hosts : Network) (a b : Host) (m : HostMessage) (moments : List Moment) → AreOurs hosts a b → Follows hosts (Crossed (crossing.Out m)) moments → AgreesAfter moments a b → (c : Bool) → same_host a m.flow.source ≡ c → AgreesAfter (Crossed (crossing.Out m) ∷ moments) a b
out_stands hosts a b m moments ours n k true e =
    let is : a ≡ m.flow.source = same_host-true a m.flow.source e in
    let step : Agrees (pair_with b (offered (program a moments) (places moments)).0.peers) (pair_moved (part_of a b (event_of (crossing.Out m))) (pair a b (events_of moments))) =
    out_of a b m moments (subst (λ (x : Host). IsNext (program x moments) m) (sym is) (n (subst (λ (x : Host). hosts.strange x ≡ false) is ours.0))) k in
    subst (λ (x : Bool). Agrees (pair_with b (if x then (offered (program a moments) (places moments)).0 else program a moments).peers) (pair_moved (part_of a b (event_of (crossing.Out m))) (pair a b (events_of moments)))) (sym e) step
out_stands hosts a b m moments ours n k false e = rw e k

answer_stands : (hosts : Network) (a b : Host) (kind : Answer) (f : Flow) (moments : List Moment) → AreOurs hosts a b → Follows hosts (Crossed (crossing.Answer kind f)) moments → AgreesAfter moments a b → (c : Bool) → same_host a f.source ≡ c → AgreesAfter (Crossed (crossing.Answer kind f) ∷ moments) a b
answer_stands hosts a b kind f moments ours out k true e =
    let is : a ≡ f.source = same_host-true a f.source e in
    let there : same_host (program a moments).own f.source ≡ true → same_host b f.destination ≡ true → is_some ((pair a b (events_of moments)).out f.link.0) ≡ true =
    λ own to. subst (λ (y : Host). is_some ((pair a y (events_of moments)).out f.link.0) ≡ true) (sym (same_host-true b f.destination to)) (subst (λ (x : Host). is_some ((pair x f.destination (events_of moments)).out f.link.0) ≡ true) (sym is) (out (subst (λ (x : Host). hosts.strange x ≡ false) is ours.0, subst (λ (x : Host). hosts.strange x ≡ false) (same_host-true b f.destination to) ours.1))) in
    let step : Agrees (pair_with b (accepted (program a moments) (inbound.Answer kind f) (places moments)).0.peers) (pair_moved (part_of a b (event_of (crossing.Answer kind f))) (pair a b (events_of moments))) =
    as_own a b (event_of (crossing.Answer kind f)) _ (pair a b (events_of moments)) (program a moments) (program_own a moments) (answer_agrees (program a moments) kind f (places moments) b (pair a b (events_of moments)) there k) in
    subst (λ (x : Bool). Agrees (pair_with b (if x then (accepted (program a moments) (inbound.Answer kind f) (places moments)).0 else program a moments).peers) (pair_moved (part_of a b (event_of (crossing.Answer kind f))) (pair a b (events_of moments)))) (sym e) step
answer_stands hosts a b kind f moments ours out k false e = rw e k

down_stands : (a b h : Host) (moments : List Moment) → AgreesAfter moments a b → (c : Bool) → same_host a h ≡ c → AgreesAfter (Crossed (crossing.Down h) ∷ moments) a b
down_stands a b h moments k true e = rw e (opening_agrees a b)
down_stands a b h moments k false e = rw e k

up_stands : (a b h : Host) (moments : List Moment) → AgreesAfter moments a b → (c : Bool) → same_host a h ≡ c → AgreesAfter (Crossed (crossing.Up h) ∷ moments) a b
up_stands a b h moments k true e = rw e (opening_agrees a b)
up_stands a b h moments k false e = rw e k

moment_stands : (hosts : Network) (a b : Host) (x : Moment) (moments : List Moment) → AreOurs hosts a b → Follows hosts x moments → AgreesAfter moments a b → AgreesAfter (x ∷ moments) a b
moment_stands hosts a b (Crossed (crossing.Out m)) moments ours f k = out_stands hosts a b m moments ours f k (same_host a m.flow.source) refl
moment_stands hosts a b (Crossed (crossing.In m)) moments ours f k = in_stands hosts a b m moments ours f k (same_host a m.flow.destination) refl
moment_stands hosts a b (Crossed (crossing.Answer kind g)) moments ours f k = answer_stands hosts a b kind g moments ours f k (same_host a g.source) refl
moment_stands hosts a b (Crossed (crossing.Down h)) moments ours f k = down_stands a b h moments k (same_host a h) refl
moment_stands hosts a b (Crossed (crossing.Up h)) moments ours f k = up_stands a b h moments k (same_host a h) refl
moment_stands hosts a b (Asked h r) moments ours f k = asked_stands a b h r moments k (same_host a h) refl

pub story_agrees : (hosts : Network) (moments : List Moment) (a b : Host) → AreOurs hosts a b → IsStory hosts moments → AgreesAfter moments a b
story_agrees hosts [] a b ours s = opening_agrees a b
story_agrees hosts (x ∷ moments) a b ours s = moment_stands hosts a b x moments ours s.0 (story_agrees hosts moments a b ours s.1)
