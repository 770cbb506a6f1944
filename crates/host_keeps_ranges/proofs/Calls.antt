-- Each call of a host's program keeps its numbers in their ranges, and what goes out is read as what it was made of.
use Rattle.std.proofs.Common.{◌≡◌, ℕ, ◌*◌, ◌^◌, ◌≤◌, nat_lt, filter, Bool, true, false, not, ◌||◌, ◌==◌, if◌then◌else◌, zero, suc, List, [], ◌∷◌, take, length, Option, Some, None, All, refl, sym, subst}
use Rattle.std.proofs.lemmas.List.Elements.{All-append, All-cons, All-nil}
use Rattle.interface.specs.Host.{Host, address_octet, same_host}
use Rattle.interface.specs.declared.address.Flow.{Flow}
use Rattle.interface.specs.declared.crossing.Answer.{Answer}
use Rattle.interface.specs.declared.crossing.Answer.TheVariants as answer
use Rattle.interface.specs.declared.crossing.Inbound.TheVariants as inbound
use Rattle.interface.specs.declared.message.HostMessage.{HostMessage}
use Rattle.ncp_control.proofs.lemmas.{longest_front, packed_again}
use Rattle.ncp_control.specs.Command.{IsCommand, IsOctet, spelling}
use Rattle.ncp_control.specs.Packing.{spellings}
use Rattle.ncp_control.specs.declared.command.Command.{Command}
use Rattle.ncp_control.specs.declared.command.Command.TheVariants as command
use Rattle.host_pairs.specs.Allowed.{MayGo}
use Rattle.host_pairs.specs.Commands as commands
use Rattle.host_pairs.specs.Commands.{changed, granted}
use Rattle.host_pairs.specs.Control.{Legal, Order, Wrong, error, orders_of}
use Rattle.host_pairs.specs.Data.{data_taken}
use Rattle.host_pairs.specs.Desk.{DeskState, desk_of, command_queued, settled}
use Rattle.host_pairs.specs.Entries.{changed_first, is_at, is_busy}
use Rattle.host_pairs.specs.Pair.{PairState, is_opening}
use Rattle.host_pairs.specs.Parcels as parcel
use Rattle.host_pairs.specs.Parcels.{Parcel, asked_at, bits_gone, cls_sent, command_gone, commands_gone, link_of, next_of, pair_after, parcel_gone, text_for}
use Rattle.ncp_control.specs.Phases.{is_ready}
use Rattle.host_pairs.specs.Turn.{TurnState, answered_turn, command_taken, failed, failed_by, freed, if_ready, is_gone, message_taken, order_taken, orders_taken, settled_turn, with_desk}
use Rattle.host_pairs.specs.declared.entry.Entry.{Entry}
use Rattle.host_pairs.specs.declared.listener.Listener.{Listener}
use Rattle.ncp_control.specs.declared.phase.Phase.{Phase}
use Rattle.ncp_control.specs.declared.phase.Phase.TheVariants as phase
use Rattle.host_pairs.proofs.lemmas.{control_again, signal_again, what_goes}
use Rattle.sockets.specs.Accepting.{accepted, turn_of, after_turn}
use Rattle.sockets.specs.Pairs.{NcpState, pair_with, placed, with_pair, without_peer}
use Rattle.sockets.specs.Sending.{next_in, offered, offered_by, parcel_for}
use Rattle.sockets.specs.declared.peer.Peer.{Peer}
use Rattle.sockets.proofs.lemmas.{next_is}
use Rattle.host_keeps_ranges.specs.Ranges.{AreCommands, AreInRange, AreOrders, ArePairs, IsReadBack, AreSizes, IsOrder, IsPair, IsRanged}
use Rattle.host_keeps_ranges.proofs.Orders.{spelled_octets, text_good}
use Rattle.host_keeps_ranges.proofs.Desks.{commands_drop, ends_changed}
use Rattle.host_keeps_ranges.proofs.Takes.{Ranged, less, ranged_changed, ranged_data, ranged_error, ranged_settled, ranged_swept, ranged_taken}

-- ---- a pair and what listens

pub record RangedTurn (t : TurnState) : Type 0 where
  pub pair : IsPair t.pair
  pub sizes : AreSizes t.listening

desk_range : (t : TurnState) → RangedTurn t → Ranged (desk_of t.pair t.listening)
desk_range t h = record { ends = h.pair.ends; commands = h.pair.commands; sizes = h.sizes }

turn_range : (t : TurnState) (d : DeskState) → Ranged d → RangedTurn (with_desk t d)
turn_range t d h = record { pair = record { ends = h.ends; commands = h.commands }; sizes = h.sizes }

ready_range : (work : DeskState → DeskState) (t : TurnState) → ((d : DeskState) → Ranged d → Ranged (work d)) → RangedTurn t → RangedTurn (if_ready work t)
ready_range work t k h = by (is_ready t.pair.phase) where
  by : (b : Bool) → RangedTurn (if b then with_desk t (work (desk_of t.pair t.listening)) else t)
  by true = turn_range t (work (desk_of t.pair t.listening)) (k (desk_of t.pair t.listening) (desk_range t h))
  by false = h

command_range : (peer : Host) (stamp : ℕ) (c : Command) (t : TurnState) → IsCommand c → RangedTurn t → RangedTurn (command_taken peer stamp c t)
command_range peer stamp command.Rst t ok h = record { pair = record { ends = tt; commands = tt }; sizes = h.sizes }
command_range peer stamp command.Rrp t ok h = record { pair = record { ends = h.pair.ends; commands = h.pair.commands }; sizes = h.sizes }
command_range peer stamp c t ok h = ready_range (commands.desk_taken peer t.pair.busy stamp c) t (λ d. ranged_taken peer t.pair.busy stamp c d ok) h

order_range : (peer : Host) (stamp : ℕ) (o : Order) (t : TurnState) → IsOrder o → RangedTurn t → RangedTurn (order_taken peer stamp o t)
order_range peer stamp (Legal c) t ok h = command_range peer stamp c t ok h
order_range peer stamp (Wrong code octets) t ok h = ready_range (command_queued (error code octets)) t (λ d. ranged_error code octets d ok.0 ok.1) h

orders_range : (peer : Host) (stamp : ℕ) (os : List Order) (t : TurnState) → AreOrders os → RangedTurn t → RangedTurn (orders_taken peer stamp os t)
orders_range peer stamp [] t ok h = h
orders_range peer stamp (o ∷ os) t ok h = orders_range peer stamp os (order_taken peer stamp o t) ok.1 (order_range peer stamp o t ok.0 h)

message_range : (peer : Host) (stamp link : ℕ) (text : List Bool) (t : TurnState) → RangedTurn t → RangedTurn (message_taken peer stamp link text t)
message_range peer stamp link text t h = by (link == 0) where
  by : (b : Bool) → RangedTurn (if b then orders_taken peer stamp (orders_of text) t else if_ready (data_taken link text) t)
  by true = orders_range peer stamp (orders_of text) t (text_good text) h
  by false = ready_range (data_taken link text) t (λ d. ranged_data link text d) h

-- ---- answers

settled_range : (t : TurnState) → RangedTurn t → RangedTurn (settled_turn t)
settled_range t h = turn_range t (settled t.pair.busy (desk_of t.pair t.listening)) (ranged_settled t.pair.busy (desk_of t.pair t.listening) (desk_range t h))

failed_by_range : (peer : Host) (ph : Phase) (t : TurnState) → RangedTurn t → RangedTurn (failed_by peer ph t)
failed_by_range peer phase.Closed t h = h
failed_by_range peer phase.Want t h = h
failed_by_range peer ph t h = record { pair = record { ends = tt; commands = tt }; sizes = h.sizes }

failed_range : (peer : Host) (t : TurnState) → RangedTurn t → RangedTurn (failed peer t)
failed_range peer t h = by (is_gone t.pair.phase || not t.pair.owed) where
  by : (b : Bool) → RangedTurn (if b then failed_by peer t.pair.phase t else settled_turn t)
  by true = failed_by_range peer t.pair.phase t h
  by false = settled_range t h

freed_range : (link : ℕ) (t : TurnState) → RangedTurn t → RangedTurn (record t { pair = freed link t.pair })
freed_range link t h = record { pair = record { ends = h.pair.ends; commands = h.pair.commands }; sizes = h.sizes }

answer_range : (peer : Host) (kind : Answer) (link : ℕ) (t : TurnState) → RangedTurn t → RangedTurn (answered_turn peer kind link t)
answer_range peer answer.Rfnm link t h = settled_range _ (record { pair = record { ends = h.pair.ends; commands = h.pair.commands }; sizes = h.sizes })
answer_range peer kind link t h = failed_range peer (record t { pair = freed link t.pair }) (freed_range link t h)

-- ---- a host

placed_range : (p : Peer) (peers : List Peer) → IsPair p.pair → ArePairs peers → ArePairs (placed p peers)
placed_range p [] is h = (is, tt)
placed_range p (q ∷ qs) is h = by (nat_lt (address_octet q.host) (address_octet p.host)) (same_host p.host q.host) (placed_range p qs is h.1) where
  by : (b c : Bool) → ArePairs (placed p qs) → ArePairs (if b then q ∷ placed p qs else (if c then p ∷ qs else p ∷ q ∷ qs))
  by true c rest = (h.0, rest)
  by false true rest = (is, h.1)
  by false false rest = (is, (h.0, h.1))

out_step : (test : Peer → Bool) (p : Peer) (ps : List Peer) → IsPair p.pair → ArePairs (filter test ps) → (b : Bool) → test p ≡ b → ArePairs (filter test (p ∷ ps))
out_step test p ps is rest true e = rw e (is, rest)
out_step test p ps is rest false e = rw e rest

out_range : (test : Peer → Bool) (ps : List Peer) → ArePairs ps → ArePairs (filter test ps)
out_range test [] h = tt
out_range test (p ∷ ps) h = out_step test p ps h.0 (out_range test ps h.1) (test p) refl

pub with_range : (g : Host) (q : PairState) (peers : List Peer) → IsPair q → ArePairs peers → ArePairs (with_pair g q peers)
with_range g q peers is h = by (is_opening q) where
  by : (b : Bool) → ArePairs (if b then without_peer g peers else placed (record { host = g; pair = q }) peers)
  by true = out_range _ peers h
  by false = placed_range (record { host = g; pair = q }) peers is h

found_step : (g : Host) (p : Peer) (ps : List Peer) → IsPair p.pair → IsPair (pair_with g ps) → (b : Bool) → same_host g p.host ≡ b → IsPair (pair_with g (p ∷ ps))
found_step g p ps is rest true e = rw e is
found_step g p ps is rest false e = rw e rest

pub pair_range : (g : Host) (ps : List Peer) → ArePairs ps → IsPair (pair_with g ps)
pair_range g [] h = record { ends = tt; commands = tt }
pair_range g (p ∷ ps) h = found_step g p ps h.0 (pair_range g ps h.1) (same_host g p.host) refl

turned_range : (s : NcpState) (peer : Host) (t : TurnState) → IsRanged s → RangedTurn t → IsRanged (after_turn s peer t).0
turned_range s peer t h k = record { pairs = with_range peer t.pair s.peers k.pair h.pairs; sizes = k.sizes }

own_turn : (s : NcpState) (peer : Host) → IsRanged s → RangedTurn (turn_of s peer)
own_turn s peer h = record { pair = pair_range peer s.peers h.pairs; sizes = h.sizes }

pub message_ranged : (s : NcpState) (m : HostMessage) (stamp : ℕ) → IsRanged s → IsRanged (accepted s (inbound.Message m) stamp).0
unfolding accepted
message_ranged s m stamp h = by (same_host s.own m.flow.destination) where
  t : TurnState
  t = message_taken m.flow.source stamp m.flow.link.0 m.text (turn_of s m.flow.source)

  by : (b : Bool) → IsRanged (if b then after_turn s m.flow.source t else (s, [])).0
  by true = turned_range s m.flow.source t h (message_range m.flow.source stamp m.flow.link.0 m.text (turn_of s m.flow.source) (own_turn s m.flow.source h))
  by false = h

pub answer_ranged : (s : NcpState) (kind : Answer) (f : Flow) (stamp : ℕ) → IsRanged s → IsRanged (accepted s (inbound.Answer kind f) stamp).0
unfolding accepted
answer_ranged s kind f stamp h = by (same_host s.own f.source) (is_busy (pair_with f.destination s.peers).busy f.link.0) where
  t : TurnState
  t = answered_turn f.destination kind f.link.0 (turn_of s f.destination)

  by : (b c : Bool) → IsRanged (if b then (if c then after_turn s f.destination t else (s, [])) else (s, [])).0
  by true true = turned_range s f.destination t h (answer_range f.destination kind f.link.0 (turn_of s f.destination) (own_turn s f.destination h))
  by true false = h
  by false c = h

-- ---- what goes out

request_gone_range : (own foreign stamp : ℕ) (es : List Entry) → AreInRange es → AreInRange (changed_first (is_at own foreign) (asked_at stamp) es)
request_gone_range own foreign stamp es h = ends_changed (is_at own foreign) (asked_at stamp) es (λ e i. record { own = i.own; foreign = i.foreign; link = i.link; messages = i.messages; bits = i.bits }) h

gone_range : (peer : Host) (stamp : ℕ) (c : Command) (d : DeskState) → Ranged d → Ranged (command_gone peer stamp c d)
gone_range peer stamp (command.Rts receive send link) d h = record { ends = request_gone_range receive send stamp d.entries h.ends; commands = h.commands; sizes = h.sizes }
gone_range peer stamp (command.Str send receive size) d h = record { ends = request_gone_range send receive stamp d.entries h.ends; commands = h.commands; sizes = h.sizes }
gone_range peer stamp (command.Cls own foreign) d h =
    ranged_swept peer (changed (is_at own foreign) cls_sent d) (ranged_changed (is_at own foreign) cls_sent d (λ e i. record { own = i.own; foreign = i.foreign; link = i.link; messages = i.messages; bits = i.bits }) h)
gone_range peer stamp c d h = h

all_gone_range : (peer : Host) (stamp : ℕ) (cs : List Command) (d : DeskState) → Ranged d → Ranged (commands_gone peer stamp cs d)
all_gone_range peer stamp [] d h = h
all_gone_range peer stamp (c ∷ cs) d h = all_gone_range peer stamp cs (command_gone peer stamp c d) (gone_range peer stamp c d h)

parcel_range : (peer : Host) (stamp : ℕ) (listening : List Listener) (x : Parcel) (q : PairState) → IsPair q → AreSizes listening → IsPair (pair_after x q (parcel_gone peer stamp q.busy x (desk_of q listening)))
parcel_range peer stamp listening parcel.Reset q h k = record { ends = h.ends; commands = h.commands }
parcel_range peer stamp listening parcel.Reply q h k = record { ends = h.ends; commands = h.commands }
parcel_range peer stamp listening (parcel.Commands count) q h k =
    let gone : Ranged (commands_gone peer stamp (take count q.queue) (desk_of q listening)) = all_gone_range peer stamp (take count q.queue) (desk_of q listening) (record { ends = h.ends; commands = h.commands; sizes = k }) in
    record { ends = gone.ends; commands = commands_drop count _ gone.commands }
parcel_range peer stamp listening (parcel.Bytes e size count) q h k =
    record { ends = ends_changed _ (bits_gone (size * count)) q.entries (λ y i. record { own = i.own; foreign = i.foreign; link = i.link; messages = less y.allocation.messages 1 (2 ^ 16) i.messages; bits = less y.allocation.bits (size * count) (2 ^ 32) i.bits }) h.ends; commands = h.commands }

abbrev NextRange : Option (Peer × Parcel) → Type 0
NextRange None = Unit {0}
NextRange (Some found) = IsPair found.0.pair

for_range : (p : Peer) (o : Option Parcel) (others : Option (Peer × Parcel)) → IsPair p.pair → NextRange others → NextRange (parcel_for p o others)
for_range p (Some x) others is rest = is
for_range p None others is rest = rest

next_range : (ps : List Peer) → ArePairs ps → NextRange (next_in ps)
next_range [] h = tt
next_range (p ∷ ps) h = for_range p (next_of p.pair) (next_in ps) h.0 (next_range ps h.1)

offered_range : (s : NcpState) (stamp : ℕ) (o : Option (Peer × Parcel)) → NextRange o → IsRanged s → IsRanged (offered_by s stamp o).0
offered_range s stamp None is h = h
offered_range s stamp (Some (p, x)) is h = record { pairs = with_range p.host _ s.peers (parcel_range p.host stamp s.listening x p.pair is h.sizes) h.pairs; sizes = h.sizes }

pub offer_ranged : (s : NcpState) (stamp : ℕ) → IsRanged s → IsRanged (offered s stamp).0
unfolding offered
offer_ranged s stamp h = offered_range s stamp (next_in s.peers) (next_range s.peers h.pairs) h

-- ---- what is read

all_commands : (n : ℕ) (cs : List Command) → AreCommands cs → All IsCommand (take n cs)
all_commands zero cs h = All-nil IsCommand
all_commands (suc n) [] h = All-nil IsCommand
all_commands (suc n) (c ∷ cs) h = All-cons IsCommand c (take n cs) h.0 (all_commands n cs h.1)

all_octets : (n : ℕ) (cs : List Command) → AreCommands cs → All IsOctet (spellings (take n cs))
all_octets zero cs h = All-nil IsOctet
all_octets (suc n) [] h = All-nil IsOctet
all_octets (suc n) (c ∷ cs) h = All-append IsOctet (spelling c) (spellings (take n cs)) (spelled_octets c h.0) (all_octets n cs h.1)

read_back : (q : PairState) (x : Parcel) → IsPair q → MayGo q x → IsReadBack q x
read_back q parcel.Reset h may = signal_again command.Rst refl
read_back q parcel.Reply h may = signal_again command.Rrp refl
read_back q (parcel.Commands count) h may =
    let fits : length (spellings (take count q.queue)) ≤ 120 = subst (λ (n : ℕ). length (spellings (take n q.queue)) ≤ 120) (sym may.1.front) (longest_front q.queue).fits in
    control_again (spellings (take count q.queue)) (take count q.queue) (all_octets count q.queue h.commands) fits (packed_again (take count q.queue) (all_commands count q.queue h.commands))
read_back q (parcel.Bytes e size count) h may = tt

the_range : (o : Option (Peer × Parcel)) (p : Peer) (x : Parcel) → o ≡ Some (p, x) → NextRange o → IsPair p.pair
the_range o p x e h = subst NextRange e h

pub offer_read : (s : NcpState) (p : Peer) (x : Parcel) → IsRanged s → next_in s.peers ≡ Some (p, x) → IsReadBack p.pair x
offer_read s p x h is = read_back p.pair x (the_range (next_in s.peers) p x is (next_range s.peers h.pairs)) (what_goes p.pair x (next_is p x s.peers is))
