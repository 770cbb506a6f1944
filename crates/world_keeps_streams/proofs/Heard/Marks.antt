-- The CLS that a host has heard of its peer since both met: as many by the law of pairing as by its calls.
use Rattle.world_keeps_streams.proofs.Common.{◌≡◌, ℕ, suc, ◌+◌, ◌==◌, ◌&&◌, Bool, true, false, if◌then◌else◌, List, [], ◌∷◌, ◌++◌, take, Option, Some, None, refl, ap, sym, ◌∙◌, arith, Host, same_host, Command, Order, Legal, Wrong, desk_of, listens_on, is_busy, PairState, Parcel, command_gone, with_connections, TurnState, order_taken, Entry, Listener, eqb-sym, mark_of, marks_in, Side, hears, says, NcpState, owner_of, pair_with, Peer, Request}
use Rattle.host_keeps_streams.specs.Histories.{Answered, AsksBack, Closes, Gives, Grants, Hears, OpensReceiver, OpensSender, Says, Call}
use Rattle.pairing_law.specs.Marks.{Mark, Ask, Close, closes}
use Rattle.world_keeps_pairing.proofs.lemmas.{all_hears, all_says}
use Rattle.world_keeps_streams.specs.Calls.{answer_calls, commands_said, next_calls, orders_heard, owner_calls, parcel_calls, request_calls, called}
use Rattle.ncp_control.specs.declared.command.Command.TheVariants as command
use Rattle.host_pairs.specs.Parcels as parcels
use Rattle.host_keeps_streams.specs.Histories as calls
use Rattle.sockets.specs.declared.request.Request.TheVariants as request
use Rattle.world_keeps_streams.proofs.Heard.Calls.{closes_by, closes_in}

-- ---- marks

-- how many closes there are after these marks, heard one after another
abbrev pub adds : List Mark → ℕ → ℕ
adds [] n = n
adds (Ask p ∷ ms) n = adds ms n
adds (Close ∷ ms) n = adds ms (suc n)

adds_join : (xs ys : List Mark) (n : ℕ) → adds (xs ++ ys) n ≡ adds ys (adds xs n)
adds_join [] ys n = refl
adds_join (Ask p ∷ xs) ys n = adds_join xs ys n
adds_join (Close ∷ xs) ys n = adds_join xs ys (suc n)

pub heard_adds : (ms : List Mark) (x : Side) → closes (all_hears ms x).heard ≡ adds ms (closes x.heard)
heard_adds [] x = refl
heard_adds (Ask p ∷ ms) x = heard_adds ms (hears (Ask p) x)
heard_adds (Close ∷ ms) x = heard_adds ms (hears Close x) ∙ ap (adds ms) (let e : closes x.heard + 1 ≡ suc (closes x.heard) = omega arith in e)

pub said_heard : (ms : List Mark) (x : Side) → (all_says ms x).heard ≡ x.heard
said_heard [] x = refl
said_heard (m ∷ ms) x = said_heard ms (says m x)

-- ---- orders

module _ (foreign own : ℕ) where
  -- the number of CLS after these calls, beginning with this many
  abbrev pub closes_on : List calls.Moment → ℕ → ℕ
  closes_on [] n = n
  closes_on (m ∷ ms) n = closes_by m.call foreign own (closes_on ms n)

  pub closes_join : (xs ys : List calls.Moment) → closes_in foreign own (xs ++ ys) ≡ closes_on xs (closes_in foreign own ys)
  closes_join [] ys = refl
  closes_join (m ∷ xs) ys = ap (closes_by m.call foreign own) (closes_join xs ys)

  cls_same : (theirs mine n : ℕ) → (if foreign == theirs && own == mine then suc n else n) ≡ adds (if theirs == foreign && mine == own then Close ∷ [] else []) n
  cls_same theirs mine n =
      ap (λ (v : Bool). if v && own == mine then suc n else n) (eqb-sym foreign theirs) ∙ ap (λ (v : Bool). if theirs == foreign && v then suc n else n) (eqb-sym own mine)
      ∙ by (theirs == foreign && mine == own) where
        by : (v : Bool) → (if v then suc n else n) ≡ adds (if v then Close ∷ [] else []) n
        by true = refl
        by false = refl

  ask_same : (v : Bool) (p n : ℕ) → n ≡ adds (if v then Ask p ∷ [] else []) n
  ask_same true p n = refl
  ask_same false p n = refl

  order_adds : (place stamp said : ℕ) (c : Command) (n : ℕ) → closes_by (Hears stamp said c) foreign own n ≡ adds (mark_of place foreign own c) n
  order_adds place stamp said (command.Cls theirs mine) n = cls_same theirs mine n
  order_adds place stamp said (command.Rts a b c) n = ask_same _ place n
  order_adds place stamp said (command.Str a b c) n = ask_same _ place n
  order_adds place stamp said c n = refl

  pub orders_add : (place : ℕ) (peer : Host) (stamp : ℕ) (orders : List Order) (t : TurnState) (older : List calls.Moment) (n : ℕ)
      → closes_on (orders_heard peer stamp orders t older) n ≡ adds (marks_in place foreign own orders) (closes_on older n)
  orders_add place peer stamp [] t older n = refl
  orders_add place peer stamp (Legal c ∷ orders) t older n =
      orders_add place peer stamp orders (order_taken peer stamp (Legal c) t) (called (Hears stamp 0 c) t.pair t.listening ∷ older) n
      ∙ ap (adds (marks_in place foreign own orders)) (order_adds place stamp 0 c (closes_on older n))
      ∙ sym (adds_join (mark_of place foreign own c) (marks_in place foreign own orders) (closes_on older n))
  orders_add place peer stamp (Wrong code octets ∷ orders) t older n = orders_add place peer stamp orders (order_taken peer stamp (Wrong code octets) t) older n

-- ---- moments

-- calls that hear no CLS
abbrev pub NoneHeard : List calls.Moment → Type 0
NoneHeard [] = Unit {0}
NoneHeard (m ∷ ms) = ((foreign own n : ℕ) → closes_by m.call foreign own n ≡ n) × NoneHeard ms

pub none_on : (foreign own : ℕ) (ms : List calls.Moment) → NoneHeard ms → (n : ℕ) → closes_on foreign own ms n ≡ n
none_on foreign own [] h n = refl
none_on foreign own (m ∷ ms) h n = ap (closes_by m.call foreign own) (none_on foreign own ms h.1 n) ∙ h.0 foreign own n

none_said : (peer : Host) (stamp : ℕ) (cs : List Command) (q : PairState) (listening : List Listener) (older : List calls.Moment) → NoneHeard older → NoneHeard (commands_said peer stamp cs q listening older)
none_said peer stamp [] q listening older h = h
none_said peer stamp (c ∷ cs) q listening older h =
    none_said peer stamp cs (with_connections q (command_gone peer stamp c (desk_of q listening))) listening (called (Says stamp c) q listening ∷ older) (λ foreign own n. refl, h)

none_parcel : (peer : Host) (stamp : ℕ) (x : Parcel) (q : PairState) (listening : List Listener) → NoneHeard (parcel_calls peer stamp x q listening)
none_parcel peer stamp parcels.Reset q listening = tt
none_parcel peer stamp parcels.Reply q listening = tt
none_parcel peer stamp (parcels.Commands count) q listening = none_said peer stamp (take count q.queue) q listening [] tt
none_parcel peer stamp (parcels.Bytes e size count) q listening = (λ foreign own n. refl, tt)

pub none_if : (v : Bool) (ms : List calls.Moment) → NoneHeard ms → NoneHeard (if v then ms else [])
none_if true ms h = h
none_if false ms h = tt

pub none_next : (peer : Host) (stamp : ℕ) (listening : List Listener) (o : Option (Peer × Parcel)) → NoneHeard (next_calls peer stamp listening o)
none_next peer stamp listening None = tt
none_next peer stamp listening (Some (p, x)) = none_if _ _ (none_parcel peer stamp x p.pair listening)

pub none_answer : (link : ℕ) (q : PairState) (listening : List Listener) → NoneHeard (answer_calls link q listening)
none_answer link q listening = none_if (is_busy q.busy link) (called (Answered link) q listening ∷ []) (λ foreign own n. refl, tt)

none_owner : (peer : Host) (call : Entry → Call) → ((e : Entry) (foreign own n : ℕ) → closes_by (call e) foreign own n ≡ n) → (q : PairState) (listening : List Listener) (o : Option (Host × Entry)) → NoneHeard (owner_calls peer call q listening o)
none_owner peer call h q listening None = tt
none_owner peer call h q listening (Some (g, e)) = none_if (same_host peer g) (called (call e) q listening ∷ []) (h e, tt)

pub none_asked : (peer : Host) (s : NcpState) (r : Request) → NoneHeard (request_calls peer s r)
none_asked peer s (request.OpenSend host own foreign size) = none_if (same_host peer host) (called (OpensSender own foreign size) (pair_with peer s.peers) s.listening ∷ []) (λ f o n. refl, tt)
none_asked peer s (request.OpenReceive host own foreign) = none_if (same_host peer host) (called (OpensReceiver own foreign) (pair_with peer s.peers) s.listening ∷ []) (λ f o n. refl, tt)
none_asked peer s (request.Send socket bits) = none_owner peer (Gives socket bits) (λ e f o n. refl) (pair_with peer s.peers) s.listening (owner_of socket s.peers)
none_asked peer s (request.Grant socket messages bits) = none_owner peer (Grants socket messages bits) (λ e f o n. refl) (pair_with peer s.peers) s.listening (owner_of socket s.peers)
none_asked peer s (request.AskBack socket messages bits) = none_owner peer (AsksBack socket messages bits) (λ e f o n. refl) (pair_with peer s.peers) s.listening (owner_of socket s.peers)
none_asked peer s (request.Close socket) = by (listens_on socket s.listening) where
  by : (v : Bool) → NoneHeard (if v then [] else owner_calls peer (Closes socket) (pair_with peer s.peers) s.listening (owner_of socket s.peers))
  by true = tt
  by false = none_owner peer (Closes socket) (λ e f o n. refl) (pair_with peer s.peers) s.listening (owner_of socket s.peers)
none_asked peer s r = tt
