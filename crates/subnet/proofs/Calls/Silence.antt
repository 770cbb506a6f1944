-- What is answered to a question that finds nothing alive.
use Rattle.subnet.proofs.Common.{list_any, flat_map, All-nil, All-cons, All-head, All-tail, All-append, same_flow, Flow, or_false, PacketFields, Message, State, HostState, no_host, host_at, messages_of, Net, Wire, imp_at, receiver_at}
use Rattle.std.proofs.Common.{◌≡◌, ℕ, zero, suc, Bool, true, false, List, [], ◌∷◌, ◌++◌, ◌&&◌, ◌||◌, ◌==◌, get_or, Option, Some, None, refl, cond, All}
use Rattle.imp_node.specs.Contents as imp
use Rattle.imp_node.specs.Queries.{packet_has, message_has}
use Rattle.imp_node.proofs.lemmas.{not_found}
use Rattle.subnet.specs.Alive.{packets_on_wire, packets_at_imp, messages_at_imp, packets, messages, says, carries, anywhere, is_alive}

-- ---- nothing alive passes a test

abbrev pub NotIn : Flow → ℕ → PacketFields → Type 0
NotIn f number p = packet_has f number p ≡ false

abbrev pub NotOf : Flow → ℕ → Message → Type 0
NotOf f number m = message_has f number m ≡ false

any_none : {X : Type 0} (test : X → Bool) (xs : List X) → list_any test xs ≡ false → All (λ x. test x ≡ false) xs
any_none {X} test [] none = let Not : X → Type 0 = λ x. test x ≡ false in All-nil Not
any_none {X} test (x ∷ xs) none =
    let Not : X → Type 0 = λ y. test y ≡ false in
    let both : (test x ≡ false) × (list_any test xs ≡ false) = or_false (test x) _ none in
    All-cons Not x xs both.0 (any_none test xs both.1)

-- whether a packet or a message of an IMP passes
abbrev passes : (PacketFields → Bool) → (Message → Bool) → State → Bool
passes test asked s = list_any test (imp.packets s) || list_any asked (imp.messages s)

-- no packet and no message of a list does
abbrev NonePass : (PacketFields → Bool) → (Message → Bool) → List PacketFields → List Message → Type 0
NonePass test asked ps ms = All (λ p. test p ≡ false) ps × All (λ m. asked m ≡ false) ms

imp_silent : (test : PacketFields → Bool) (asked : Message → Bool) (o : Option State) → says (passes test asked) o ≡ false → NonePass test asked (packets_at_imp o) (messages_at_imp o)
imp_silent test asked None none = (All-nil (λ (p : PacketFields). test p ≡ false), All-nil (λ (m : Message). asked m ≡ false))
imp_silent test asked (Some s) none = not_found test asked _ _ none

imps_silent : (test : PacketFields → Bool) (asked : Message → Bool) (imps : List (Option State)) → list_any (says (passes test asked)) imps ≡ false
    → NonePass test asked (flat_map packets_at_imp imps) (flat_map messages_at_imp imps)
imps_silent test asked [] none = (All-nil (λ (p : PacketFields). test p ≡ false), All-nil (λ (m : Message). asked m ≡ false))
imps_silent test asked (o ∷ imps) none =
    let both : (says (passes test asked) o ≡ false) × (list_any (says (passes test asked)) imps ≡ false) = or_false (says (passes test asked) o) _ none in
    let here : NonePass test asked (packets_at_imp o) (messages_at_imp o) = imp_silent test asked o both.0 in
    let rest : NonePass test asked (flat_map packets_at_imp imps) (flat_map messages_at_imp imps) = imps_silent test asked imps both.1 in
    (All-append (λ (p : PacketFields). test p ≡ false) (packets_at_imp o) (flat_map packets_at_imp imps) here.0 rest.0, All-append (λ (m : Message). asked m ≡ false) (messages_at_imp o) (flat_map messages_at_imp imps) here.1 rest.1)

lines_silent : (test : PacketFields → Bool) (lines : List Wire) → list_any (carries test) lines ≡ false → All (λ p. test p ≡ false) (flat_map packets_on_wire lines)
lines_silent test [] none = All-nil (λ (p : PacketFields). test p ≡ false)
lines_silent test (w ∷ ws) none =
    let both : (carries test w ≡ false) × (list_any (carries test) ws ≡ false) = or_false (carries test w) _ none in
    All-append (λ (p : PacketFields). test p ≡ false) (packets_on_wire w) (flat_map packets_on_wire ws) (any_none test _ both.0) (lines_silent test ws both.1)

pub nowhere : (n : Net) (test : PacketFields → Bool) (asked : Message → Bool) → anywhere n (passes test asked) test ≡ false → NonePass test asked (packets n) (messages n)
nowhere n test asked none =
    let both : (list_any (says (passes test asked)) n.imps ≡ false) × (list_any (carries test) n.lines ≡ false) = or_false (list_any (says _) n.imps) _ none in
    let held : NonePass test asked (flat_map packets_at_imp n.imps) (flat_map messages_at_imp n.imps) = imps_silent test asked n.imps both.0 in
    (All-append (λ (p : PacketFields). test p ≡ false) (flat_map packets_at_imp n.imps) (flat_map packets_on_wire n.lines) held.0 (lines_silent test n.lines both.1), held.1)

-- nothing of a flow has this number
pub not_alive : (n : Net) (f : Flow) (number : ℕ) → is_alive n f number ≡ false → All (NotIn f number) (packets n) × All (NotOf f number) (messages n)
not_alive n f number none = nowhere n _ _ none

-- ---- the queue of one flow

pub parts_left : (P : Message → Type 0) (xs ys : List Message) → All P (xs ++ ys) → All P xs
parts_left P [] ys all = All-nil P
parts_left P (x ∷ xs) ys all = All-cons P x xs (All-head P x (xs ++ ys) all) (parts_left P xs ys (All-tail P x (xs ++ ys) all))

pub parts_right : (P : Message → Type 0) (xs ys : List Message) → All P (xs ++ ys) → All P ys
parts_right P [] ys all = all
parts_right P (x ∷ xs) ys all = parts_right P xs ys (All-tail P x (xs ++ ys) all)

pub at_imp_all : (P : Message → Type 0) (imps : List (Option State)) (i : ℕ) → All P (flat_map messages_at_imp imps) → All P (messages_at_imp (imp_at imps i))
at_imp_all P [] i all = All-nil P
at_imp_all P (o ∷ imps) zero all = parts_left P _ _ all
at_imp_all P (o ∷ imps) (suc i) all = at_imp_all P imps i (parts_right P _ _ all)

pub at_host_all : (P : Message → Type 0) (hosts : List HostState) (h : ℕ) → All P (flat_map (λ (x : HostState). x.queue) hosts) → All P (get_or hosts h no_host).queue
at_host_all P [] h all = All-nil P
at_host_all P (x ∷ hosts) zero all = parts_left P _ _ all
at_host_all P (x ∷ hosts) (suc h) all = at_host_all P hosts h (parts_right P _ _ all)

-- the queue in which the messages of a flow wait
abbrev pub host_queue : Option State → Flow → List Message
host_queue None f = []
host_queue (Some s) f = (host_at s f.destination.host).queue

pub queue_all : (P : Message → Type 0) (n : Net) (f : Flow) → All P (messages n) → All P (host_queue (imp_at n.imps f.destination.imp) f)
queue_all P n f all = by (imp_at n.imps f.destination.imp) (at_imp_all P n.imps _ all) where
  by : (o : Option State) → All P (messages_at_imp o) → All P (host_queue o f)
  by None here = All-nil P
  by (Some s) here = at_host_all P s.hosts f.destination.host here

-- of a flow's messages, none has the number
numbers_apart : (f : Flow) (number : ℕ) (ms : List Message) → All (NotOf f number) ms → All (λ m. (m.number == number) ≡ false) (messages_of f ms)
numbers_apart f number [] all = All-nil (λ (m : Message). (m.number == number) ≡ false)
numbers_apart f number (m ∷ ms) all = by (same_flow f m.flow) refl (All-head (NotOf f number) m ms all) (numbers_apart f number ms (All-tail (NotOf f number) m ms all)) where
  by : (b : Bool) → same_flow f m.flow ≡ b → (b && (m.number == number)) ≡ false → All (λ x. (x.number == number) ≡ false) (messages_of f ms) → All (λ x. (x.number == number) ≡ false) (cond b (m ∷ messages_of f ms) (messages_of f ms))
  by true same here rest = All-cons (λ (x : Message). (x.number == number) ≡ false) m (messages_of f ms) here rest
  by false same here rest = rest

queue_apart : (f : Flow) (number : ℕ) (o : Option State) → All (NotOf f number) (messages_at_imp o) → All (λ m. (m.number == number) ≡ false) (receiver_at o f).queue
queue_apart f number None all = All-nil (λ (m : Message). (m.number == number) ≡ false)
queue_apart f number (Some s) all = numbers_apart f number _ (at_host_all (NotOf f number) s.hosts f.destination.host all)

pub queue_silent : (n : Net) (f : Flow) (number : ℕ) → All (NotOf f number) (messages n) → All (λ m. (m.number == number) ≡ false) (receiver_at (imp_at n.imps f.destination.imp) f).queue
queue_silent n f number all = queue_apart f number _ (at_imp_all (NotOf f number) n.imps _ all)
