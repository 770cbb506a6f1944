-- The services of hosts have texts of their own.
use Rattle.world_trace.proofs.Common.{◌≡◌, ℕ, Bool, List, [], ◌∷◌, ◌++◌, codes, map, Option, Some, None, IfSome, refl, sym, ap, ap₂, ◌∙◌, All-cons, All-head, All-nil, All-tail, decimal, All, encode_upper, ServicesState, Service, Host, host_text, ServiceSeat, unmarked_where, IsHostNamed, IsShort, array, bits_members, bool_text, member, object, quoted, ServiceLasts, ServicesLast}
use Rattle.icp.specs.Server.{ServerState}
use Rattle.icp.specs.User.{UserState}
use Rattle.terminal.specs.Machines.{EchoState, TerminalState}
use Rattle.trace.proofs.lemmas.{Any, IsClosed, Spelled, bool_spelled, decimal_closed, first_same, host_spelled, host_words, lists_spelled, member_closed, member_once, none_closed, object_once, rest_same, short_once, string_closed, other_first}
use Rattle.world_trace.specs.Texts.{asked_object, ends_object, number_text, service_object, services_member, sockets_object, met_object, partner_text, running_object, server_object, services_text, user_object}
use Rattle.world_trace.specs.Told.{IsServed, IsServiceTold, IsPartnerTold}
use Rattle.std.proofs.lemmas.List.{append_cancel_left}
use Rattle.host_services.specs.declared.service.Service.TheVariants as service
use Rattle.icp.specs.declared.notices.Partner.{Partner}
use Rattle.world_trace.proofs.Fields.{also, bits_object, fields, fields_spelled, name_once, null_closed, number_spelled, octets_spelled}
use Rattle.world_trace.proofs.Programs.{no_word}

-- ---- far ends, sockets, and whom a user asks

far_spelled : Spelled (λ (p : Partner). object (fields (codes "host" ∷ codes "socket" ∷ []) (quoted (host_text p.peer) ∷ decimal p.socket ∷ []))) IsPartnerTold
far_spelled =
    fields_spelled (codes "host" ∷ codes "socket" ∷ []) (λ (p : Partner). quoted (host_text p.peer) ∷ decimal p.socket ∷ []) IsPartnerTold refl (λ p. refl)
    (λ p is. also (host_spelled.closed p.peer is.peer) (also (decimal_closed p.socket) none_closed)) once
  where
    once : (p q : Partner) → IsPartnerTold p → IsPartnerTold q → quoted (host_text p.peer) ∷ decimal p.socket ∷ [] ≡ quoted (host_text q.peer) ∷ decimal q.socket ∷ [] → p ≡ q
    once p q a b e =
        let peer : p.peer ≡ q.peer = host_spelled.once p.peer q.peer a.peer b.peer (first_same e) in
        let socket : p.socket ≡ q.socket = short_once p.socket q.socket a.socket b.socket (first_same (rest_same e)) in
        λ i. record { peer = peer i; socket = socket i }

partner_closed : (o : Option Partner) → IfSome o IsPartnerTold → IsClosed (partner_text o)
partner_closed None is = null_closed
partner_closed (Some p) is = far_spelled.closed p is

partner_once : (o r : Option Partner) → IfSome o IsPartnerTold → IfSome r IsPartnerTold → partner_text o ≡ partner_text r → o ≡ r
partner_once None None p q e = refl
partner_once None (Some t) p q e = absurd (no_word _ e)
partner_once (Some s) None p q e = absurd (no_word _ (sym e))
partner_once (Some s) (Some t) p q e = ap (λ (x : Partner). Some x) (far_spelled.once s t p q e)

-- two sockets
abbrev Sockets : Type 0
Sockets = ℕ × ℕ

abbrev AreShort : Sockets → Type 0
AreShort s = IsShort s.0 × IsShort s.1

sockets_spelled : Spelled (λ (s : Sockets). sockets_object s.0 s.1) AreShort
sockets_spelled =
    fields_spelled (codes "receive" ∷ codes "send" ∷ []) (λ (s : Sockets). decimal s.0 ∷ decimal s.1 ∷ []) AreShort refl (λ s. refl)
    (λ s is. also (decimal_closed s.0) (also (decimal_closed s.1) none_closed)) once
  where
    once : (s t : Sockets) → AreShort s → AreShort t → decimal s.0 ∷ decimal s.1 ∷ [] ≡ decimal t.0 ∷ decimal t.1 ∷ [] → s ≡ t
    once s t p q e =
        let receive : s.0 ≡ t.0 = short_once s.0 t.0 p.0 q.0 (first_same e) in
        let send : s.1 ≡ t.1 = short_once s.1 t.1 p.1 q.1 (first_same (rest_same e)) in
        λ i. (receive i, send i)

-- three far ends
abbrev Met : Type 0
Met = Option Partner × (Option Partner × Option Partner)

abbrev AreMet : Met → Type 0
AreMet m = IfSome m.0 IsPartnerTold × (IfSome m.1.0 IsPartnerTold × IfSome m.1.1 IsPartnerTold)

abbrev met_values : Met → List (List ℕ)
met_values m = partner_text m.0 ∷ partner_text m.1.0 ∷ partner_text m.1.1 ∷ []

met_spelled : Spelled (λ (m : Met). object (fields (codes "user" ∷ codes "receiving" ∷ codes "sending" ∷ []) (met_values m))) AreMet
met_spelled =
    fields_spelled (codes "user" ∷ codes "receiving" ∷ codes "sending" ∷ []) met_values AreMet refl (λ m. refl)
    (λ m is. also (partner_closed m.0 is.0) (also (partner_closed m.1.0 is.1.0) (also (partner_closed m.1.1 is.1.1) none_closed))) once
  where
    once : (m n : Met) → AreMet m → AreMet n → met_values m ≡ met_values n → m ≡ n
    once m n p q e =
        let user : m.0 ≡ n.0 = partner_once m.0 n.0 p.0 q.0 (first_same e) in
        let receiving : m.1.0 ≡ n.1.0 = partner_once m.1.0 n.1.0 p.1.0 q.1.0 (first_same (rest_same e)) in
        let sending : m.1.1 ≡ n.1.1 = partner_once m.1.1 n.1.1 p.1.1 q.1.1 (first_same (rest_same (rest_same e))) in
        λ i. (user i, (receiving i, sending i))

-- ---- servers

abbrev server_names : List (List ℕ)
server_names = codes "kind" ∷ codes "listen" ∷ codes "sockets" ∷ codes "met" ∷ codes "over" ∷ []

abbrev server_values : ServerState → List (List ℕ)
server_values s = quoted (codes "server") ∷ decimal s.listen ∷ sockets_object s.receive s.send ∷ met_object s ∷ bool_text s.over ∷ []

-- a service in which memory lasts, of which texts say all
abbrev IsServiceWhole : Service → Type 0
IsServiceWhole s = ServiceLasts s × IsServiceTold s

server_once : (s t : ServerState) → IsServiceWhole (service.Server s) → IsServiceWhole (service.Server t) → server_values s ≡ server_values t → s ≡ t
server_once s t (unspent, p) (quiet, q) e =
    let after1 = rest_same e in
    let listen : s.listen ≡ t.listen = short_once s.listen t.listen p.listen q.listen (first_same after1) in
    let after2 = rest_same after1 in
    let sockets = sockets_spelled.once (s.receive, s.send) (t.receive, t.send) (p.receive, p.send) (q.receive, q.send) (first_same after2) in
    let receive : s.receive ≡ t.receive = ap (λ (x : Sockets). x.0) sockets in
    let send : s.send ≡ t.send = ap (λ (x : Sockets). x.1) sockets in
    let after3 = rest_same after2 in
    let met = met_spelled.once (s.user, (s.receiving, s.sending)) (t.user, (t.receiving, t.sending)) (p.user, (p.receiving, p.sending)) (q.user, (q.receiving, q.sending)) (first_same after3) in
    let user : s.user ≡ t.user = ap (λ (x : Met). x.0) met in
    let receiving : s.receiving ≡ t.receiving = ap (λ (x : Met). x.1.0) met in
    let sending : s.sending ≡ t.sending = ap (λ (x : Met). x.1.1) met in
    let over : s.over ≡ t.over = bool_spelled.once s.over t.over tt tt (first_same (rest_same after3)) in
    let spent : s.spent ≡ t.spent = unspent ∙ sym quiet in
    λ i. record { listen = listen i; receive = receive i; send = send i; user = user i; receiving = receiving i; sending = sending i; over = over i; spent = spent i }

server_spelled : Spelled server_object (λ s. IsServiceWhole (service.Server s))
server_spelled =
    fields_spelled server_names server_values (λ s. IsServiceWhole (service.Server s)) refl (λ s. refl)
    (λ s is. also (string_closed (codes "server") (unmarked_where 34 (codes "server") refl)) (also (decimal_closed s.listen) (also (sockets_spelled.closed (s.receive, s.send) (is.1.receive, is.1.send))
    (also (met_spelled.closed (s.user, (s.receiving, s.sending)) (is.1.user, (is.1.receiving, is.1.sending))) (also (bool_spelled.closed s.over tt) none_closed))))) server_once

-- ---- users

-- whom a user asks, and from which socket
abbrev Asking : Type 0
Asking = Host × Sockets

abbrev IsAsking : Asking → Type 0
IsAsking a = IsHostNamed a.0 × AreShort a.1

abbrev asking_values : Asking → List (List ℕ)
asking_values a = quoted (host_text a.0) ∷ decimal a.1.0 ∷ decimal a.1.1 ∷ []

asking_spelled : Spelled (λ (a : Asking). object (fields (codes "host" ∷ codes "listen" ∷ codes "own" ∷ []) (asking_values a))) IsAsking
asking_spelled =
    fields_spelled (codes "host" ∷ codes "listen" ∷ codes "own" ∷ []) asking_values IsAsking refl (λ a. refl)
    (λ a is. also (host_spelled.closed a.0 is.0) (also (decimal_closed a.1.0) (also (decimal_closed a.1.1) none_closed))) once
  where
    once : (a b : Asking) → IsAsking a → IsAsking b → asking_values a ≡ asking_values b → a ≡ b
    once a b p q e =
        let host : a.0 ≡ b.0 = host_spelled.once a.0 b.0 p.0 q.0 (first_same e) in
        let listen : a.1.0 ≡ b.1.0 = short_once a.1.0 b.1.0 p.1.0 q.1.0 (first_same (rest_same e)) in
        let own : a.1.1 ≡ b.1.1 = short_once a.1.1 b.1.1 p.1.1 q.1.1 (first_same (rest_same (rest_same e))) in
        λ i. (host i, (listen i, own i))

-- which of three connections were opened
abbrev Opened : Type 0
Opened = Bool × (Bool × Bool)

abbrev opened_values : Opened → List (List ℕ)
opened_values o = bool_text o.0 ∷ bool_text o.1.0 ∷ bool_text o.1.1 ∷ []

opened_spelled : Spelled (λ (o : Opened). object (fields (codes "asking" ∷ codes "receiving" ∷ codes "sending" ∷ []) (opened_values o))) Any
opened_spelled =
    fields_spelled (codes "asking" ∷ codes "receiving" ∷ codes "sending" ∷ []) opened_values Any refl (λ o. refl)
    (λ o is. also (bool_spelled.closed o.0 tt) (also (bool_spelled.closed o.1.0 tt) (also (bool_spelled.closed o.1.1 tt) none_closed))) once
  where
    once : (o r : Opened) → Any o → Any r → opened_values o ≡ opened_values r → o ≡ r
    once o r p q e =
        let asking : o.0 ≡ r.0 = bool_spelled.once o.0 r.0 tt tt (first_same e) in
        let receiving : o.1.0 ≡ r.1.0 = bool_spelled.once o.1.0 r.1.0 tt tt (first_same (rest_same e)) in
        let sending : o.1.1 ≡ r.1.1 = bool_spelled.once o.1.1 r.1.1 tt tt (first_same (rest_same (rest_same e))) in
        λ i. (asking i, (receiving i, sending i))

abbrev user_names : List (List ℕ)
user_names = codes "kind" ∷ codes "asked" ∷ codes "sockets" ∷ codes "opened" ∷ codes "base" ∷ codes "came" ∷ codes "over" ∷ []

abbrev user_values : UserState → List (List ℕ)
user_values u = quoted (codes "user") ∷ asked_object u ∷ sockets_object u.receive u.send ∷ ends_object u ∷ number_text u.base ∷ object (bits_members u.bits) ∷ bool_text u.over ∷ []

user_once : (u v : UserState) → IsServiceWhole (service.User u) → IsServiceWhole (service.User v) → user_values u ≡ user_values v → u ≡ v
user_once u v (unspent, p) (quiet, q) e =
    let after1 = rest_same e in
    let asked = asking_spelled.once (u.peer, (u.listen, u.own)) (v.peer, (v.listen, v.own)) (p.peer, (p.listen, p.own)) (q.peer, (q.listen, q.own)) (first_same after1) in
    let peer : u.peer ≡ v.peer = ap (λ (x : Asking). x.0) asked in
    let listen : u.listen ≡ v.listen = ap (λ (x : Asking). x.1.0) asked in
    let own : u.own ≡ v.own = ap (λ (x : Asking). x.1.1) asked in
    let after2 = rest_same after1 in
    let sockets = sockets_spelled.once (u.receive, u.send) (v.receive, v.send) (p.receive, p.send) (q.receive, q.send) (first_same after2) in
    let receive : u.receive ≡ v.receive = ap (λ (x : Sockets). x.0) sockets in
    let send : u.send ≡ v.send = ap (λ (x : Sockets). x.1) sockets in
    let after3 = rest_same after2 in
    let ends = opened_spelled.once (u.opened, (u.receiving, u.sending)) (v.opened, (v.receiving, v.sending)) tt tt (first_same after3) in
    let opened : u.opened ≡ v.opened = ap (λ (x : Opened). x.0) ends in
    let receiving : u.receiving ≡ v.receiving = ap (λ (x : Opened). x.1.0) ends in
    let sending : u.sending ≡ v.sending = ap (λ (x : Opened). x.1.1) ends in
    let after4 = rest_same after3 in
    let base : u.base ≡ v.base = number_spelled.once u.base v.base p.base q.base (first_same after4) in
    let after5 = rest_same after4 in
    let bits : u.bits ≡ v.bits = bits_object.once u.bits v.bits tt tt (first_same after5) in
    let over : u.over ≡ v.over = bool_spelled.once u.over v.over tt tt (first_same (rest_same after5)) in
    let spent : u.spent ≡ v.spent = unspent ∙ sym quiet in
    λ i. record { peer = peer i; listen = listen i; own = own i; receive = receive i; send = send i; opened = opened i; bits = bits i; base = base i; receiving = receiving i; sending = sending i; over = over i; spent = spent i }

user_spelled : Spelled user_object (λ u. IsServiceWhole (service.User u))
user_spelled =
    fields_spelled user_names user_values (λ u. IsServiceWhole (service.User u)) refl (λ u. refl)
    (λ u is. also (string_closed (codes "user") (unmarked_where 34 (codes "user") refl)) (also (asking_spelled.closed (u.peer, (u.listen, u.own)) (is.1.peer, (is.1.listen, is.1.own)))
    (also (sockets_spelled.closed (u.receive, u.send) (is.1.receive, is.1.send)) (also (opened_spelled.closed (u.opened, (u.receiving, u.sending)) tt) (also (number_spelled.closed u.base is.1.base)
    (also (bits_object.closed u.bits tt) (also (bool_spelled.closed u.over tt) none_closed))))))) user_once

-- ---- echo services and terminals

abbrev echo_values : EchoState → List (List ℕ)
echo_values e = quoted (codes "echo") ∷ sockets_object e.receive e.send ∷ []

echo_spelled : Spelled (λ (e : EchoState). service_object (service.Echo e)) (λ e. IsServiceWhole (service.Echo e))
echo_spelled =
    fields_spelled (codes "kind" ∷ codes "sockets" ∷ []) echo_values (λ e. IsServiceWhole (service.Echo e)) refl (λ e. refl)
    (λ e is. also (string_closed (codes "echo") (unmarked_where 34 (codes "echo") refl)) (also (sockets_spelled.closed (e.receive, e.send) (is.1.0, is.1.1)) none_closed)) once
  where
    once : (s t : EchoState) → IsServiceWhole (service.Echo s) → IsServiceWhole (service.Echo t) → echo_values s ≡ echo_values t → s ≡ t
    once s t (unspent, p) (quiet, q) e =
        let sockets = sockets_spelled.once (s.receive, s.send) (t.receive, t.send) (p.0, p.1) (q.0, q.1) (first_same (rest_same e)) in
        let receive : s.receive ≡ t.receive = ap (λ (x : Sockets). x.0) sockets in
        let send : s.send ≡ t.send = ap (λ (x : Sockets). x.1) sockets in
        let spent : s.spent ≡ t.spent = unspent ∙ sym quiet in
        λ i. record { receive = receive i; send = send i; spent = spent i }

abbrev terminal_values : TerminalState → List (List ℕ)
terminal_values t = quoted (codes "terminal") ∷ sockets_object t.receive t.send ∷ quoted (encode_upper t.rest) ∷ object (bits_members t.part) ∷ []

terminal_spelled : Spelled (λ (t : TerminalState). service_object (service.Terminal t)) (λ t. IsServiceWhole (service.Terminal t))
terminal_spelled =
    fields_spelled (codes "kind" ∷ codes "sockets" ∷ codes "rest" ∷ codes "came" ∷ []) terminal_values (λ t. IsServiceWhole (service.Terminal t)) refl (λ t. refl)
    (λ t is. also (string_closed (codes "terminal") (unmarked_where 34 (codes "terminal") refl)) (also (sockets_spelled.closed (t.receive, t.send) (is.1.0, is.1.1)) (also (octets_spelled.closed t.rest is.1.2) (also (bits_object.closed t.part tt) none_closed)))) once
  where
    once : (s t : TerminalState) → IsServiceWhole (service.Terminal s) → IsServiceWhole (service.Terminal t) → terminal_values s ≡ terminal_values t → s ≡ t
    once s t (unspent, p) (quiet, q) e =
        let after = rest_same e in
        let sockets = sockets_spelled.once (s.receive, s.send) (t.receive, t.send) (p.0, p.1) (q.0, q.1) (first_same after) in
        let receive : s.receive ≡ t.receive = ap (λ (x : Sockets). x.0) sockets in
        let send : s.send ≡ t.send = ap (λ (x : Sockets). x.1) sockets in
        let rest : s.rest ≡ t.rest = octets_spelled.once s.rest t.rest p.2 q.2 (first_same (rest_same after)) in
        let part : s.part ≡ t.part = bits_object.once s.part t.part tt tt (first_same (rest_same (rest_same after))) in
        let spent : s.spent ≡ t.spent = unspent ∙ sym quiet in
        λ i. record { receive = receive i; send = send i; part = part i; rest = rest i; spent = spent i }

-- ---- services

service_closed : (s : Service) → IsServiceWhole s → IsClosed (service_object s)
service_closed (service.Server s) is = server_spelled.closed s is
service_closed (service.User u) is = user_spelled.closed u is
service_closed (service.Echo e) is = echo_spelled.closed e is
service_closed (service.Terminal t) is = terminal_spelled.closed t is

-- the first letters of two kinds
letters : (xs ys : List ℕ) → codes "{\"kind\":\"" ++ xs ≡ codes "{\"kind\":\"" ++ ys → xs ≡ ys
letters xs ys e = append_cancel_left (codes "{\"kind\":\"") xs ys e

service_once : (s t : Service) → IsServiceWhole s → IsServiceWhole t → service_object s ≡ service_object t → s ≡ t
service_once (service.Server s) (service.Server t) p q e = ap (λ (x : ServerState). service.Server x) (server_spelled.once s t p q e)
service_once (service.Server s) (service.Echo t) p q e = absurd (other_first refl (letters _ _ e))
service_once (service.Server s) (service.Terminal t) p q e = absurd (other_first refl (letters _ _ e))
service_once (service.User s) (service.User t) p q e = ap (λ (x : UserState). service.User x) (user_spelled.once s t p q e)
service_once (service.Echo s) (service.Server t) p q e = absurd (other_first refl (letters _ _ e))
service_once (service.Echo s) (service.Echo t) p q e = ap (λ (x : EchoState). service.Echo x) (echo_spelled.once s t p q e)
service_once (service.Echo s) (service.Terminal t) p q e = absurd (other_first refl (letters _ _ e))
service_once (service.Terminal s) (service.Server t) p q e = absurd (other_first refl (letters _ _ e))
service_once (service.Terminal s) (service.Echo t) p q e = absurd (other_first refl (letters _ _ e))
service_once (service.Terminal s) (service.Terminal t) p q e = ap (λ (x : TerminalState). service.Terminal x) (terminal_spelled.once s t p q e)
service_once s (service.User t) p q e = absurd (other_first refl (letters _ _ e))
service_once (service.User s) t p q e = absurd (other_first refl (letters _ _ e))

all_spelled : Spelled (λ xs. array (map service_object xs)) (All IsServiceWhole)
all_spelled = lists_spelled service_object IsServiceWhole (record { closed = service_closed; once = service_once })

record IsRunning (s : ServicesState) : Type 0 where
  typing : IfSome s.typing IsShort
  running : All IsServiceWhole s.running

abbrev running_values : ServicesState → List (List ℕ)
running_values s = number_text s.typing ∷ array (map service_object s.running) ∷ []

running_spelled : Spelled running_object IsRunning
running_spelled =
    fields_spelled (codes "typing" ∷ codes "running" ∷ []) running_values IsRunning refl (λ s. refl)
    (λ s is. also (number_spelled.closed s.typing is.typing) (also (all_spelled.closed s.running is.running) none_closed)) once
  where
    once : (s t : ServicesState) → IsRunning s → IsRunning t → running_values s ≡ running_values t → s ≡ t
    once s t p q e =
        let typing : s.typing ≡ t.typing = number_spelled.once s.typing t.typing p.typing q.typing (first_same e) in
        let running : s.running ≡ t.running = all_spelled.once s.running t.running p.running q.running (first_same (rest_same e)) in
        λ i. record { running = running i; typing = typing i }

-- ---- on all hosts

both_all : (all : List Service) → All ServiceLasts all → All IsServiceTold all → All IsServiceWhole all
both_all [] lasting told = All-nil IsServiceWhole
both_all (s ∷ all) lasting told =
    All-cons IsServiceWhole s all (All-head ServiceLasts s all lasting, All-head IsServiceTold s all told) (both_all all (All-tail ServiceLasts s all lasting) (All-tail IsServiceTold s all told))

-- the services of a host, of which texts say all
record IsServedWhole (s : ServiceSeat) : Type 0 where
  host : IsHostNamed s.host
  services : IsRunning s.services

all_whole : (all : List ServiceSeat) → All ServicesLast all → All IsServed all → All IsServedWhole all
all_whole [] lasting told = All-nil IsServedWhole
all_whole (s ∷ all) lasting told =
    let is : IsServed s = All-head IsServed s all told in
    All-cons IsServedWhole s all (record { host = is.host; services = record { typing = is.typing; running = both_all s.services.running (All-head ServicesLast s all lasting) is.running } })
    (all_whole all (All-tail ServicesLast s all lasting) (All-tail IsServed s all told))

served_closed : (all : List ServiceSeat) → All IsServedWhole all → All IsClosed (map services_member all)
served_closed [] told = All-nil IsClosed
served_closed (s ∷ all) told =
    let is : IsServedWhole s = All-head IsServedWhole s all told in
    All-cons IsClosed (services_member s) (map services_member all) (member_closed (host_text s.host) (running_object s.services) (host_words.plain s.host is.host) (running_spelled.closed s.services is.services))
    (served_closed all (All-tail IsServedWhole s all told))

served_once : (all others : List ServiceSeat) → All IsServedWhole all → All IsServedWhole others → map services_member all ≡ map services_member others → all ≡ others
served_once [] [] p q e = refl
served_once [] (t ∷ others) p q e = absurd (cc)
served_once (s ∷ all) [] p q e = absurd (cc)
served_once (s ∷ all) (t ∷ others) p q e =
    let a : IsServedWhole s = All-head IsServedWhole s all p in
    let b : IsServedWhole t = All-head IsServedWhole t others q in
    let host : s.host ≡ t.host =
    host_words.once s.host t.host a.host b.host
    (name_once (host_text s.host) (host_text t.host) (running_object s.services) (running_object t.services) (host_words.plain s.host a.host) (host_words.plain t.host b.host) (first_same e)) in
    let moved : member (host_text t.host) (running_object s.services) ≡ services_member t = ap (λ (h : Host). member (host_text h) (running_object s.services)) (sym host) ∙ first_same e in
    let services : s.services ≡ t.services =
    running_spelled.once s.services t.services a.services b.services (member_once (host_text t.host) (running_object s.services) (running_object t.services) moved) in
    let seat : s ≡ t = λ i. record { host = host i; services = services i } in
    ap₂ (λ (x : ServiceSeat) (xs : List ServiceSeat). x ∷ xs) seat (served_once all others (All-tail IsServedWhole s all p) (All-tail IsServedWhole t others q) (rest_same e))

pub services_once : (all others : List ServiceSeat) → All ServicesLast all → All ServicesLast others → All IsServed all → All IsServed others → services_text all ≡ services_text others → all ≡ others
services_once all others k l p q e =
    let one : All IsServedWhole all = all_whole all k p in
    let other : All IsServedWhole others = all_whole others l q in
    served_once all others one other (object_once (map services_member all) (map services_member others) (served_closed all one) (served_closed others other) e)
