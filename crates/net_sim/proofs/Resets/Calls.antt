-- What a user asks for, what comes in and a program that starts are, for each peer, steps of the law of resets.
use Rattle.net_sim.proofs.Common.{◌≡◌, ℕ, Bool, true, false, ◌==◌, if◌then◌else◌, List, [], ◌∷◌, ◌++◌, Option, Some, None, refl, ap, sym, subst, ◌∙◌, cond, Host, same_host, Flow, Answer, HostMessage, same_host-refl, Command, accepted_message, accepted_answer, message_taken, answered_turn, is_busy, is_receiving, is_mine_on, sending_end, receiving_end, free_link, PairState, NcpState, opening_state, pair_with, with_pair, owner_of, desk_of, listens_on, settled, at_owner, closed_socket, requested, receiver_requested, commanded, closed_end, Entry, Peer, Request, pair_changed, when, part_of, Pair, pair_moved, has_control, message_on, event_of, event_by, Agrees, IsApart, IsQueued}
use Rattle.std.proofs.Common.{is_some}
use Rattle.interface.specs.declared.crossing.Crossing.TheVariants as crossing
use Rattle.interface.specs.declared.crossing.Inbound.TheVariants as inbound
use Rattle.interface.proofs.lemmas.{same_host-true}
use Rattle.ncp_control.specs.declared.command.Command.TheVariants as command
use Rattle.sockets.specs.Accepting.{accepted, turn_of}
use Rattle.host_pairs.specs.Commands.{granted}
use Rattle.host_pairs.specs.Entries.{called_off}
use Rattle.sockets.specs.Requests.{served}
use Rattle.host_pairs.specs.Asked.{contacted, interrupt_of, with_end, with_more_bits}
use Rattle.host_pairs.specs.Parcels.{link_of}
use Rattle.sockets.specs.declared.request.Request.TheVariants as request
use Rattle.sockets.proofs.lemmas.{others_stay}
use Rattle.reset_law.specs.Events.{Part, Call, Take, Hear}
use Rattle.reset_law.specs.Pairs as resets
use Rattle.net_sim.proofs.Resets.Kept.{AreKept, Kept, any_changed, any_more, asks, free_away, plain_one, strays, kept_settled}
use Rattle.net_sim.proofs.Resets.Turns.{agrees_message, agrees_answer, linked_by}

pub opening_agrees : (own h : Host) → Agrees (pair_with h (opening_state own).peers) resets.opening_pair
opening_agrees own h = record { phase = refl; owed = refl; busy = λ k. refl; ready = λ a. absurd (cc); begun = λ a. absurd (cc); plain = tt; linked = refl }

-- ---- one peer and the others

pub part_by : (g h : Host) (q : PairState) (peers : List Peer) (p : Pair) (part : Part) → Agrees (pair_with h peers) p
    → (same_host h g ≡ true → Agrees (pair_with g peers) p → Agrees q (pair_moved (Some part) p)) → (b : Bool) → same_host h g ≡ b
    → Agrees (pair_with h (with_pair g q peers)) (pair_moved (when b part) p)
part_by g h q peers p part a work true e =
    let is : h ≡ g = same_host-true h g e in
    let here : Agrees q (pair_moved (Some part) p) = work e (subst (λ (x : Host). Agrees (pair_with x peers) p) is a) in
    let put : pair_with h (with_pair g q peers) ≡ q = (let r : pair_with h (with_pair g q peers) ≡ cond (same_host h g) q (pair_with h peers) = pair_changed g h q peers in rw e at r) in
    subst (λ (x : PairState). Agrees x (pair_moved (Some part) p)) (sym put) here
part_by g h q peers p part a work false e = subst (λ (x : PairState). Agrees x p) (sym (others_stay g h q peers e)) a

quiet_by : (g h : Host) (q : PairState) (peers : List Peer) (p : Pair) → Agrees (pair_with h peers) p
    → (Agrees (pair_with g peers) p → Agrees q p) → (b : Bool) → same_host h g ≡ b → Agrees (pair_with h (with_pair g q peers)) p
quiet_by g h q peers p a work true e =
    let is : h ≡ g = same_host-true h g e in
    let here : Agrees q p = work (subst (λ (x : Host). Agrees (pair_with x peers) p) is a) in
    let put : pair_with h (with_pair g q peers) ≡ q = (let r : pair_with h (with_pair g q peers) ≡ cond (same_host h g) q (pair_with h peers) = pair_changed g h q peers in rw e at r) in
    subst (λ (x : PairState). Agrees x p) (sym put) here
quiet_by g h q peers p a work false e = subst (λ (x : PairState). Agrees x p) (sym (others_stay g h q peers e)) a

quiet : (g h : Host) (q : PairState) (peers : List Peer) (p : Pair) → Agrees (pair_with h peers) p → (Agrees (pair_with g peers) p → Agrees q p) → Agrees (pair_with h (with_pair g q peers)) p
quiet g h q peers p a work = quiet_by g h q peers p a work (same_host h g) refl

-- ---- what comes in

message_by : (s : NcpState) (m : HostMessage) (stamp : ℕ) (h : Host) (p : Pair) → (same_host h m.flow.source ≡ true → IsApart m.flow.link.0 m.text (message_on m.flow.link.0 m.text)) → Agrees (pair_with h s.peers) p
    → (b : Bool) → same_host s.own m.flow.destination ≡ b
    → Agrees (pair_with h (accepted_message s m stamp).0.peers) (pair_moved (part_of s.own h (event_of (crossing.In m))) p)
message_by s m stamp h p apart a true e =
    rw e (part_by m.flow.source h (message_taken m.flow.source stamp m.flow.link.0 m.text (turn_of s m.flow.source)).pair s.peers p (Take (message_on m.flow.link.0 m.text)) a
    (λ from b. agrees_message m.flow.source stamp m.flow.link.0 m.text (turn_of s m.flow.source) p (apart from) b) (same_host h m.flow.source) refl)
message_by s m stamp h p apart a false e = rw e a

pub message_agrees : (s : NcpState) (m : HostMessage) (stamp : ℕ) (h : Host) (p : Pair) → (same_host h m.flow.source ≡ true → IsApart m.flow.link.0 m.text (message_on m.flow.link.0 m.text)) → Agrees (pair_with h s.peers) p
    → Agrees (pair_with h (accepted s (inbound.Message m) stamp).0.peers) (pair_moved (part_of s.own h (event_of (crossing.In m))) p)
unfolding accepted
message_agrees s m stamp h p apart a = message_by s m stamp h p apart a (same_host s.own m.flow.destination) refl

-- an answer is about a message that is outstanding
abbrev IsOut : NcpState → Flow → Host → Pair → Type 0
IsOut s f h p = same_host s.own f.source ≡ true → same_host h f.destination ≡ true → is_some (p.out f.link.0) ≡ true

unanswered : (s : NcpState) (kind : Answer) (f : Flow) (h : Host) (p : Pair) → same_host s.own f.source ≡ true → IsOut s f h p → Agrees (pair_with h s.peers) p
    → is_busy (pair_with f.destination s.peers).busy f.link.0 ≡ false → (b : Bool) → same_host h f.destination ≡ b → Agrees (pair_with h s.peers) (pair_moved (when b (Hear f.link.0 kind)) p)
unanswered s kind f h p own out a idle true e =
    let is : h ≡ f.destination = same_host-true h f.destination e in
    let busy : is_busy (pair_with f.destination s.peers).busy f.link.0 ≡ true = ap (λ (x : Host). is_busy (pair_with x s.peers).busy f.link.0) (sym is) ∙ sym (a.busy f.link.0) ∙ out own e in
    absurd (let both : true ≡ false = sym busy ∙ idle in cc)
unanswered s kind f h p own out a idle false e = a

answer_by : (s : NcpState) (kind : Answer) (f : Flow) (h : Host) (p : Pair) → IsOut s f h p → Agrees (pair_with h s.peers) p
    → (b c : Bool) → same_host s.own f.source ≡ b → is_busy (pair_with f.destination s.peers).busy f.link.0 ≡ c
    → Agrees (pair_with h (accepted_answer s kind f).0.peers) (pair_moved (part_of s.own h (event_of (crossing.Answer kind f))) p)
answer_by s kind f h p out a true true e g =
    rw (e, g) (part_by f.destination h (answered_turn f.destination kind f.link.0 (turn_of s f.destination)).pair s.peers p (Hear f.link.0 kind) a
    (λ to b. agrees_answer f.destination kind f.link.0 (turn_of s f.destination) p b) (same_host h f.destination) refl)
answer_by s kind f h p out a true false e g = rw (e, g) (unanswered s kind f h p e out a g (same_host h f.destination) refl)
answer_by s kind f h p out a false c e g = rw e a

pub answer_agrees : (s : NcpState) (kind : Answer) (f : Flow) (stamp : ℕ) (h : Host) (p : Pair)
    → (same_host s.own f.source ≡ true → same_host h f.destination ≡ true → is_some (p.out f.link.0) ≡ true) → Agrees (pair_with h s.peers) p
    → Agrees (pair_with h (accepted s (inbound.Answer kind f) stamp).0.peers) (pair_moved (part_of s.own h (event_of (crossing.Answer kind f))) p)
unfolding accepted
answer_agrees s kind f stamp h p out a = answer_by s kind f h p out a (same_host s.own f.source) (is_busy (pair_with f.destination s.peers).busy f.link.0) refl refl

-- ---- what a user asks for

agrees_contacted : (q : PairState) (p : Pair) → Agrees q p → Agrees (contacted q) (pair_moved (Some Call) p)
agrees_contacted q p a = record { phase = refl; owed = a.owed; busy = a.busy; ready = λ h. absurd (cc); begun = λ h. absurd (cc); plain = tt; linked = refl }

agrees_requested : (e : Entry) (c : Command) (q : PairState) (p : Pair) → asks e ≡ false → strays e ≡ false → IsQueued c → Agrees q p → Agrees (requested e c q) p
agrees_requested e c q p none away queued a = record {
  phase = a.phase;
  owed = a.owed;
  busy = a.busy;
  ready = λ h. a.ready (any_more asks q.entries e none h);
  begun = λ h. a.begun (any_more asks q.entries e none h);
  plain = plain_one c q.queue queued a.plain;
  linked = linked_by (has_control (q.entries ++ e ∷ [])) (has_control q.entries) (any_more strays q.entries e away) a.linked;
}

agrees_receiver : (own foreign : ℕ) (link : Option ℕ) (q : PairState) (p : Pair) → ((l : ℕ) → link ≡ Some l → (l == 0) ≡ false) → Agrees q p → Agrees (receiver_requested own foreign link q) p
agrees_receiver own foreign None q p away a = a
agrees_receiver own foreign (Some link) q p away a = agrees_requested (receiving_end own foreign link) (command.Rts own foreign link) q p refl (away link refl) (refl, refl, away link refl, refl) a

agrees_end : (socket : ℕ) (change : Entry → Entry) (q : PairState) (p : Pair) → AreKept change → Agrees q p → Agrees (with_end socket change q) p
agrees_end socket change q p k a = record {
  phase = a.phase;
  owed = a.owed;
  busy = a.busy;
  ready = λ h. a.ready (any_changed asks (is_mine_on socket) change k.0 q.entries h);
  begun = λ h. a.begun (any_changed asks (is_mine_on socket) change k.0 q.entries h);
  plain = a.plain;
  linked = linked_by (has_control (with_end socket change q).entries) (has_control q.entries) (any_changed strays (is_mine_on socket) change k.1 q.entries) a.linked;
}

agrees_commanded : (c : Command) (q : PairState) (p : Pair) → IsQueued c → Agrees q p → Agrees (commanded c q) p
agrees_commanded c q p queued a = record { phase = a.phase; owed = a.owed; busy = a.busy; ready = a.ready; begun = a.begun; plain = plain_one c q.queue queued a.plain; linked = a.linked }

interrupt_by : (b : Bool) (link : ℕ) → IsQueued (if b then command.Inr link else command.Ins link)
interrupt_by true link = (refl, refl, refl, refl)
interrupt_by false link = (refl, refl, refl, refl)

agrees_interrupted : (e : Entry) (q : PairState) (p : Pair) → Agrees q p → Agrees (commanded (interrupt_of e) q) p
agrees_interrupted e q p a =
    agrees_commanded (interrupt_of e) q p (interrupt_by (is_receiving e) (link_of e.link)) a

agrees_closed : (socket : ℕ) (q : PairState) (p : Pair) → Agrees q p → Agrees (closed_end socket q) p
agrees_closed socket q p a =
    let b : Agrees (with_end socket called_off q) p = agrees_end socket called_off q p ((λ x h. h), (λ x h. h)) a in
    let k : Kept (desk_of (with_end socket called_off q) []) (settled q.busy (desk_of (with_end socket called_off q) [])) = kept_settled q.busy (desk_of (with_end socket called_off q) []) in
    record { phase = a.phase; owed = a.owed; busy = a.busy; ready = λ h. b.ready (k.asked h); begun = λ h. b.begun (k.asked h); plain = k.plain b.plain; linked = linked_by _ _ k.linked b.linked }

owner_agrees : (s : NcpState) (o : Option (Host × Entry)) (change : Entry → PairState → PairState) (h : Host) (p : Pair)
    → ((e : Entry) (q : PairState) → Agrees q p → Agrees (change e q) p) → Agrees (pair_with h s.peers) p → Agrees (pair_with h (at_owner s o change).peers) p
owner_agrees s None change h p work a = a
owner_agrees s (Some (g, e)) change h p work a = quiet g h (change e (pair_with g s.peers)) s.peers p a (work e (pair_with g s.peers))

close_agrees : (s : NcpState) (socket : ℕ) (h : Host) (p : Pair) → Agrees (pair_with h s.peers) p → (b : Bool) → listens_on socket s.listening ≡ b → Agrees (pair_with h (closed_socket s socket).peers) p
close_agrees s socket h p a true e = rw e a
close_agrees s socket h p a false e = rw e (owner_agrees s (owner_of socket s.peers) (λ x. closed_end socket) h p (λ x q. agrees_closed socket q p) a)

contact_agrees : (s : NcpState) (peer h : Host) (p : Pair) → Agrees (pair_with h s.peers) p
    → Agrees (pair_with h (with_pair peer (contacted (pair_with peer s.peers)) s.peers)) (pair_moved (part_of s.own h (event_by s.own (request.Contact peer))) p)
contact_agrees s peer h p a =
    rw (same_host-refl s.own) (part_by peer h (contacted (pair_with peer s.peers)) s.peers p Call a (λ to. agrees_contacted (pair_with peer s.peers) p) (same_host h peer) refl)

pub request_agrees : (s : NcpState) (r : Request) (h : Host) (p : Pair) → Agrees (pair_with h s.peers) p → Agrees (pair_with h (served s r).peers) (pair_moved (part_of s.own h (event_by s.own r)) p)
unfolding served
request_agrees s (request.Contact peer) h p a = contact_agrees s peer h p a
request_agrees s (request.Listen socket size) h p a = a
request_agrees s (request.OpenSend peer own foreign size) h p a =
    quiet peer h (requested (sending_end own foreign size) (command.Str own foreign size) (pair_with peer s.peers)) s.peers p a
    (agrees_requested (sending_end own foreign size) (command.Str own foreign size) (pair_with peer s.peers) p refl refl (refl, refl, refl, refl))
request_agrees s (request.OpenReceive peer own foreign) h p a =
    quiet peer h (receiver_requested own foreign (free_link (pair_with peer s.peers).entries) (pair_with peer s.peers)) s.peers p a
    (agrees_receiver own foreign (free_link (pair_with peer s.peers).entries) (pair_with peer s.peers) p (λ link is. free_away (pair_with peer s.peers).entries link is))
request_agrees s (request.Send socket bits) h p a =
    owner_agrees s (owner_of socket s.peers) (λ e. with_end socket (with_more_bits bits)) h p (λ e q. agrees_end socket (with_more_bits bits) q p ((λ x k. k), (λ x k. k))) a
request_agrees s (request.Grant socket messages bits) h p a =
    owner_agrees s (owner_of socket s.peers) (λ e q. commanded (command.All (link_of e.link) messages bits) (with_end socket (granted messages bits) q)) h p
    (λ e q b. agrees_commanded (command.All (link_of e.link) messages bits) (with_end socket (granted messages bits) q) p (refl, refl, refl, refl) (agrees_end socket (granted messages bits) q p ((λ x k. k), (λ x k. k)) b)) a
request_agrees s (request.AskBack socket messages bits) h p a =
    owner_agrees s (owner_of socket s.peers) (λ e. commanded (command.Gvb (link_of e.link) messages bits)) h p (λ e q. agrees_commanded (command.Gvb (link_of e.link) messages bits) q p (refl, refl, refl, refl)) a
request_agrees s (request.Interrupt socket) h p a =
    owner_agrees s (owner_of socket s.peers) (λ e. commanded (interrupt_of e)) h p (λ e q. agrees_interrupted e q p) a
request_agrees s (request.Close socket) h p a = close_agrees s socket h p a (listens_on socket s.listening) refl
request_agrees s (request.Echo peer octet) h p a =
    quiet peer h (commanded (command.Eco octet) (pair_with peer s.peers)) s.peers p a (agrees_commanded (command.Eco octet) (pair_with peer s.peers) p (refl, refl, refl, refl))
