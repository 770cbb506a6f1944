-- Each call of a host since it dropped its ends with a peer might be made, whether or not both have met since.
use Rattle.world_keeps_streams.proofs.Common.{◌≡◌, ℕ, ◌==◌, Bool, true, false, ◌&&◌, if◌then◌else◌, List, [], ◌∷◌, ◌++◌, take, Option, Some, None, refl, sym, subst, ◌∙◌, Host, same_host, same_host-true, Command, Order, Legal, orders_of, desk_of, listens_on, is_busy, PairState, Parcel, command_gone, with_connections, is_ready, TurnState, Entry, Listener, In, Message, Other, pair, ready_phase, takes_in_stay, turn_of, NcpState, owner_of, pair_with, next_in, Peer, Request, HaveAddresses, message_on, Asked, Crossed, Moment, event_in, events_of, places, program, crossings_of, clash, keeps, AText, AnRrp, AnRst, Sort, mail_below, sort_of, both, coupled, AreOurs, Network, Happened}
use Rattle.host_keeps_streams.specs.Histories.{Answered, AreAllowed, AsksBack, Closes, Gives, Grants, Hears, IsAllowed, OpensReceiver, OpensSender, Says, Sends, Takes, sender_now, Call}
use Rattle.world_keeps_streams.specs.Calls.{answer_calls, calls_by, commands_said, message_calls, next_calls, orders_heard, own_calls, owner_calls, parcel_calls, request_calls, called}
use Rattle.interface.specs.Mailboxes as mail
use Rattle.interface.specs.declared.crossing.Crossing.TheVariants as crossing
use Rattle.ncp_control.specs.declared.command.Command.TheVariants as command
use Rattle.stream_law.specs.Senders.{Sender}
use Rattle.host_pairs.specs.Parcels as parcel
use Rattle.host_keeps_streams.specs.Histories as calls
use Rattle.reset_law.specs.Runs.{IsRun}
use Rattle.reset_law.specs.Stays as stay
use Rattle.sockets.specs.declared.request.Request.TheVariants as request
use Rattle.world_keeps_streams.proofs.Calls.Chain.{ready_both}
use Rattle.world_keeps_streams.proofs.Calls.May.{AllMay, MayCall}
use Rattle.world_keeps_streams.proofs.Stays.Resets.{goes_on}

-- ---- calls that hear no request of a receiver

abbrev pub NoRts : Command → Type 0
NoRts (command.Rts receive send l) = ⊥
NoRts c = Unit {0}

abbrev HearsNoRts : Call → Type 0
HearsNoRts (Hears stamp said c) = NoRts c
HearsNoRts k = Unit {0}

abbrev HearNoRts : List calls.Moment → Type 0
HearNoRts [] = Unit {0}
HearNoRts (m ∷ ms) = HearsNoRts m.call × HearNoRts ms

hears_allowed : (link stamp said : ℕ) (q : PairState) (s : Sender) (c : Command) → NoRts c → MayCall (Hears stamp said c) q → IsAllowed link (Hears stamp said c) q s
hears_allowed link stamp said q s (command.Rts a b c) n m = absurd n
hears_allowed link stamp said q s c n m = (m.0, tt)

call_allowed : (link : ℕ) (q : PairState) (s : Sender) (k : Call) → HearsNoRts k → MayCall k q → IsAllowed link k q s
call_allowed link q s (Hears stamp said c) n m = hears_allowed link stamp said q s c n m
call_allowed link q s (Takes l text) n m = tt
call_allowed link q s (Says stamp c) n m = m.0
call_allowed link q s (Sends stamp e size count) n m = m.0
call_allowed link q s (Answered l) n m = tt
call_allowed link q s (OpensReceiver own foreign) n m = (m.0, m.2)
call_allowed link q s (OpensSender own foreign size) n m = m.2
call_allowed link q s (AsksBack socket messages bits e) n m = (m.0, m.1)
call_allowed link q s k n m = m

more_allowed : (number : ℕ → ℕ → ℕ → ℕ) (peer : Host) (link : ℕ) (cs older : List calls.Moment) → HearNoRts cs → AllMay cs → AreAllowed number peer link older → AreAllowed number peer link (cs ++ older)
more_allowed number peer link [] older n m a = a
more_allowed number peer link (c ∷ cs) older n m a = (call_allowed link c.pair _ c.call n.0 m.0, more_allowed number peer link cs older n.1 m.1 a)

-- ---- the calls of a moment of a host that doesn't stay

said_quiet : (peer : Host) (stamp : ℕ) (cs : List Command) (q : PairState) (listening : List Listener) (older : List calls.Moment) → HearNoRts older → HearNoRts (commands_said peer stamp cs q listening older)
said_quiet peer stamp [] q listening older n = n
said_quiet peer stamp (c ∷ cs) q listening older n =
    said_quiet peer stamp cs (with_connections q (command_gone peer stamp c (desk_of q listening))) listening (called (Says stamp c) q listening ∷ older) (tt, n)

parcel_quiet : (peer : Host) (stamp : ℕ) (x : Parcel) (q : PairState) (listening : List Listener) → HearNoRts (parcel_calls peer stamp x q listening)
parcel_quiet peer stamp parcel.Reset q listening = tt
parcel_quiet peer stamp parcel.Reply q listening = tt
parcel_quiet peer stamp (parcel.Commands count) q listening = said_quiet peer stamp (take count q.queue) q listening [] tt
parcel_quiet peer stamp (parcel.Bytes e size count) q listening = (tt, tt)

next_quiet : (peer : Host) (stamp : ℕ) (listening : List Listener) (o : Option (Peer × Parcel)) → HearNoRts (next_calls peer stamp listening o)
next_quiet peer stamp listening None = tt
next_quiet peer stamp listening (Some (p, x)) = by (same_host peer p.host) where
  by : (b : Bool) → HearNoRts (if b then parcel_calls peer stamp x p.pair listening else [])
  by true = parcel_quiet peer stamp x p.pair listening
  by false = tt

answer_quiet : (link : ℕ) (q : PairState) (listening : List Listener) → HearNoRts (answer_calls link q listening)
answer_quiet link q listening = by (is_busy q.busy link) where
  by : (b : Bool) → HearNoRts (if b then called (Answered link) q listening ∷ [] else [])
  by true = (tt, tt)
  by false = tt

call_if : (b : Bool) (k : Call) (q : PairState) (listening : List Listener) → HearsNoRts k → HearNoRts (if b then called k q listening ∷ [] else [])
call_if true k q listening n = (n, tt)
call_if false k q listening n = tt

owner_quiet : (peer : Host) (call : Entry → Call) (q : PairState) (listening : List Listener) (o : Option (Host × Entry)) → ((e : Entry) → HearsNoRts (call e)) → HearNoRts (owner_calls peer call q listening o)
owner_quiet peer call q listening None n = tt
owner_quiet peer call q listening (Some (h, e)) n = call_if _ _ q listening (n e)

close_quiet : (b : Bool) (cs : List calls.Moment) → HearNoRts cs → HearNoRts (if b then [] else cs)
close_quiet true cs n = tt
close_quiet false cs n = n

request_quiet : (peer : Host) (s : NcpState) (r : Request) → HearNoRts (request_calls peer s r)
request_quiet peer s (request.OpenSend host own foreign size) = call_if _ _ _ s.listening tt
request_quiet peer s (request.OpenReceive host own foreign) = call_if _ _ _ s.listening tt
request_quiet peer s (request.Send socket bits) = owner_quiet peer _ _ s.listening (owner_of socket s.peers) (λ e. tt)
request_quiet peer s (request.Grant socket m n) = owner_quiet peer _ _ s.listening (owner_of socket s.peers) (λ e. tt)
request_quiet peer s (request.AskBack socket m n) = owner_quiet peer _ _ s.listening (owner_of socket s.peers) (λ e. tt)
request_quiet peer s (request.Close socket) =
    close_quiet _ _ (owner_quiet peer _ _ s.listening (owner_of socket s.peers) (λ e. tt))
request_quiet peer s r = tt

one_order : (peer : Host) (stamp : ℕ) (c : Command) (os : List Order) (t : TurnState) → NoRts c → os ≡ Legal c ∷ [] → HearNoRts (orders_heard peer stamp os t [])
one_order peer stamp c os t n e = subst (λ (o : List Order). HearNoRts (orders_heard peer stamp o t [])) (sym e) (n, tt)

-- a message that isn't heard by a host that stays has no text for it
message_quiet : (peer : Host) (stamp link : ℕ) (text : List Bool) (t : TurnState) → (is_ready t.pair.phase ≡ true → message_on link text ≡ Other text → ⊥) → HearNoRts (message_calls peer stamp link text t)
message_quiet peer stamp link text t none = by (is_ready t.pair.phase) refl (sort_of link text) where
  by : (r : Bool) → is_ready t.pair.phase ≡ r → Sort link text → HearNoRts (if r then (if link == 0 then orders_heard peer stamp (orders_of text) t [] else called (Takes link text) t.pair t.listening ∷ []) else [])
  by false e x = tt
  by true e (AnRst zero os is) = rw zero (one_order peer stamp command.Rst _ t tt os)
  by true e (AnRrp zero os is) = rw zero (one_order peer stamp command.Rrp _ t tt os)
  by true e (AText is) = absurd (none e is)

module _ (hosts : Network) (addresses : HaveAddresses hosts.all) (a b : Host) (ours : AreOurs hosts a b) where
  quiet_if : (d : Bool) (cs : List calls.Moment) → (d ≡ true → HearNoRts cs) → HearNoRts (if d then cs else [])
  quiet_if true cs n = n refl
  quiet_if false cs n = tt

  left_quiet : (x : Moment) (moments : List Moment) → mail.IsRun hosts.all (crossings_of (x ∷ moments))
      → Happened hosts (x ∷ moments) → stay.stays a b (events_of moments) ≡ false → HearNoRts (calls_by a b x moments)
  left_quiet (Crossed (crossing.Out m)) moments run time left =
      quiet_if (same_host a m.flow.source) (next_calls b (places moments) (program a moments).listening (next_in (program a moments).peers)) (λ t. next_quiet b (places moments) (program a moments).listening (next_in (program a moments).peers))
  left_quiet (Crossed (crossing.In m)) moments run time left =
      quiet_if (same_host a m.flow.destination && same_host b m.flow.source) (message_calls b (places moments) m.flow.link.0 m.text (turn_of (program a moments) b))
      (λ t. message_quiet b (places moments) m.flow.link.0 m.text (turn_of (program a moments) b) (λ r is. alone (both (same_host a m.flow.destination) (same_host b m.flow.source) t) r is)) where
        events : IsRun hosts (In m.flow.source m.flow.destination m.flow.link.0 (message_on m.flow.link.0 m.text) ∷ events_of moments)
        events = (coupled hosts addresses (Crossed (crossing.In m) ∷ moments) run time).run

        alone : (same_host a m.flow.destination ≡ true) × (same_host b m.flow.source ≡ true) → is_ready (pair_with b (program a moments).peers).phase ≡ true → message_on m.flow.link.0 m.text ≡ Other m.text → ⊥
        alone t r is =
            let to : a ≡ m.flow.destination = same_host-true a m.flow.destination t.0 in
            let from : b ≡ m.flow.source = same_host-true b m.flow.source t.1 in
            let text : IsRun hosts (In m.flow.source m.flow.destination m.flow.link.0 (Other m.text) ∷ events_of moments) = subst (λ (n : Message). IsRun hosts (In m.flow.source m.flow.destination m.flow.link.0 n ∷ events_of moments)) is events in
            let mine : IsRun hosts (In b a m.flow.link.0 (Other m.text) ∷ events_of moments)
            = subst (λ (h : Host). IsRun hosts (In b h m.flow.link.0 (Other m.text) ∷ events_of moments)) (sym to) (subst (λ (h : Host). IsRun hosts (In h m.flow.destination m.flow.link.0 (Other m.text) ∷ events_of moments)) (sym from) text) in
            let ready : stay.ready a b (events_of moments) ≡ true = ready_both hosts a b moments ours (coupled hosts addresses (Crossed (crossing.In m) ∷ moments) run time).story.1 ∙ r in
            let stays : stay.stays a b (events_of moments) ≡ true = takes_in_stay hosts (events_of moments) b a m.flow.link.0 m.text (ours.1, ours.0) mine (ready_phase (pair a b (events_of moments)).phase ready) in
            clash _ (stay.stays a b (events_of moments)) stays left
  left_quiet (Crossed (crossing.Answer kind f)) moments run time left =
      quiet_if (same_host a f.source && same_host b f.destination) (answer_calls f.link.0 (pair_with b (program a moments).peers) (program a moments).listening) (λ t. answer_quiet f.link.0 (pair_with b (program a moments).peers) (program a moments).listening)
  left_quiet (Crossed (crossing.Down h)) moments run time left = tt
  left_quiet (Crossed (crossing.Up h)) moments run time left = tt
  left_quiet (Asked h r) moments run time left = quiet_if (same_host a h) (request_calls b (program a moments) r) (λ t. request_quiet b (program a moments) r)

-- ---- all moments

module _ (number : ℕ → ℕ → ℕ → ℕ) (link : ℕ) (hosts : Network) (addresses : HaveAddresses hosts.all) (a b : Host)
    (ours : AreOurs hosts a b)
    (staying : (moments : List Moment) → mail.IsRun hosts.all (crossings_of moments) → Happened hosts moments → stay.stays a b (events_of moments) ≡ true → AreAllowed number b link (own_calls a b moments))
    (may_calls : (x : Moment) (moments : List Moment) → mail.IsRun hosts.all (crossings_of (x ∷ moments)) → Happened hosts (x ∷ moments) → AllMay (calls_by a b x moments)) where
  pub allowed : (moments : List Moment) → mail.IsRun hosts.all (crossings_of moments) → Happened hosts moments
      → AreAllowed number b link (own_calls a b moments)
  allowed [] run time = tt
  allowed (x ∷ moments) run time = by (stay.stays a b (events_of (x ∷ moments))) refl (allowed moments (mail_below hosts.all x moments run) time.1) where
    alone : stay.stays a b (events_of (x ∷ moments)) ≡ false → AreAllowed number b link (own_calls a b moments) → (k : Bool) → keeps a b (event_in x) (events_of moments) ≡ k
        → AreAllowed number b link (if k then calls_by a b x moments ++ own_calls a b moments else [])
    alone left old false e = tt
    alone left old true e =
        more_allowed number b link (calls_by a b x moments) (own_calls a b moments) (left_quiet hosts addresses a b ours x moments run time (before (stay.stays a b (events_of moments)) refl)) (may_calls x moments run time) old where
          before : (s : Bool) → stay.stays a b (events_of moments) ≡ s → stay.stays a b (events_of moments) ≡ false
          before true s = clash _ (stay.stays a b (events_of (x ∷ moments))) (goes_on a b (event_in x) (events_of moments) e s) left
          before false s = s

    by : (s : Bool) → stay.stays a b (events_of (x ∷ moments)) ≡ s → AreAllowed number b link (own_calls a b moments) → AreAllowed number b link (own_calls a b (x ∷ moments))
    by true e old = staying (x ∷ moments) run time e
    by false e old = alone e old (keeps a b (event_in x) (events_of moments)) refl
