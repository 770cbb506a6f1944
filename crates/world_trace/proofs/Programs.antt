-- The programs of hosts have texts of their own.
use Rattle.world_trace.proofs.Common.{All-cons, All-head, All-nil, All-tail, decimal, All, bytes_eq, Host, host_text, Seat, unmarked_where, Lacks, NcpState, Peer, IsHostNamed, IsShort, array, bits_members, bool_text, member, object, quoted, kind_text, ProgramLasts, SeatLasts}
use Rattle.std.proofs.Common.{◌≡◌, ℕ, ◌%◌, ◌==◌, Bool, true, false, List, [], ◌∷◌, codes, if◌then◌else◌, map, Option, Some, None, IfSome, refl, sym, ap, ap₂, subst, ◌∙◌, arith}
use Rattle.trace.proofs.lemmas.{Any, AreClosed, IsClosed, Spelled, bool_spelled, decimal_closed, first_same, host_spelled, host_words, lists_spelled, member_closed, member_once, none_closed, object_once, rest_same, short_once, string_closed, Words, strings_spelled}
use Rattle.world_trace.specs.Texts.{allocation_object, closings_object, command_object, number_text, requests_object, seat_member, closing_word, end_object, listener_object, pair_object, phase_word, program_text, programs_text}
use Rattle.world_trace.specs.Told.{IsCommandTold, IsListenerTold, IsPairTold, IsSeatTold, IsAllocationTold, IsEndTold, IsProgramTold}
use Rattle.host_pairs.specs.declared.entry.Entry.{Entry}
use Rattle.host_pairs.specs.declared.entry.Closing.{Closing}
use Rattle.host_pairs.specs.declared.entry.Closing.TheVariants as closing
use Rattle.host_pairs.specs.declared.listener.Listener.{Listener}
use Rattle.ncp_control.specs.declared.allocation.Allocation.{Allocation}
use Rattle.ncp_control.specs.declared.phase.Phase.{Phase}
use Rattle.ncp_control.specs.declared.phase.Phase.TheVariants as phase
use Rattle.world_trace.proofs.CommandTexts.{command_spelled}
use Rattle.world_trace.proofs.Fields.{also, bits_object, decimal_spelled, fields, fields_spelled, name_once}
use Rattle.world_trace.proofs.Fields.{null_closed, number_spelled}

-- ---- words

phase_of : List ℕ → Phase
phase_of word =
    if bytes_eq word (codes "closed") then phase.Closed
    else if bytes_eq word (codes "want") then phase.Want
    else if bytes_eq word (codes "gone") then phase.Gone false
    else if bytes_eq word (codes "early") then phase.Gone true
    else if bytes_eq word (codes "heard") then phase.Heard
    else phase.Ready

phase_again : (p : Phase) → phase_of (phase_word p) ≡ p
unfolding phase_of
phase_again phase.Closed = refl
phase_again phase.Want = refl
phase_again (phase.Gone false) = refl
phase_again (phase.Gone true) = refl
phase_again phase.Heard = refl
phase_again phase.Ready = refl

phase_plain : (p : Phase) → Lacks 34 (phase_word p)
phase_plain phase.Closed = unmarked_where 34 (codes "closed") refl
phase_plain phase.Want = unmarked_where 34 (codes "want") refl
phase_plain (phase.Gone false) = unmarked_where 34 (codes "gone") refl
phase_plain (phase.Gone true) = unmarked_where 34 (codes "early") refl
phase_plain phase.Heard = unmarked_where 34 (codes "heard") refl
phase_plain phase.Ready = unmarked_where 34 (codes "ready") refl

phase_words : Words phase_word Any
phase_words = record { plain = λ p any. phase_plain p; once = λ p q a b e. sym (phase_again p) ∙ ap phase_of e ∙ phase_again q }

closing_of : List ℕ → Closing
closing_of word =
    if bytes_eq word (codes "no") then closing.No
    else if bytes_eq word (codes "due") then closing.Due
    else if bytes_eq word (codes "queued") then closing.Queued
    else closing.Sent

closing_again : (c : Closing) → closing_of (closing_word c) ≡ c
unfolding closing_of
closing_again closing.No = refl
closing_again c = refl

closing_plain : (c : Closing) → Lacks 34 (closing_word c)
closing_plain closing.No = unmarked_where 34 (codes "no") refl
closing_plain closing.Due = unmarked_where 34 (codes "due") refl
closing_plain closing.Queued = unmarked_where 34 (codes "queued") refl
closing_plain closing.Sent = unmarked_where 34 (codes "sent") refl

closing_words : Words closing_word Any
closing_words = record { plain = λ c any. closing_plain c; once = λ c d a b e. sym (closing_again c) ∙ ap closing_of e ∙ closing_again d }

phase_spelled : Spelled (λ p. quoted (phase_word p)) Any
phase_spelled = strings_spelled phase_word Any phase_words

closing_spelled : Spelled (λ c. quoted (closing_word c)) Any
closing_spelled = strings_spelled closing_word Any closing_words

kind_closed : (socket : ℕ) → IsClosed (quoted (kind_text socket))
kind_closed socket = by (socket % 2 == 0) where
  by : (receives : Bool) → IsClosed (quoted (if receives then codes "receive" else codes "send"))
  by true = string_closed (codes "receive") (unmarked_where 34 (codes "receive") refl)
  by false = string_closed (codes "send") (unmarked_where 34 (codes "send") refl)

-- ---- ends

pub allocation_spelled : Spelled allocation_object IsAllocationTold
allocation_spelled =
    fields_spelled (codes "messages" ∷ codes "bits" ∷ []) (λ (a : Allocation). decimal a.messages ∷ decimal a.bits ∷ []) IsAllocationTold refl (λ a. refl)
    (λ a is. also (decimal_closed a.messages) (also (decimal_closed a.bits) none_closed)) once
  where
    once : (a b : Allocation) → IsAllocationTold a → IsAllocationTold b → decimal a.messages ∷ decimal a.bits ∷ [] ≡ decimal b.messages ∷ decimal b.bits ∷ [] → a ≡ b
    once a b p q e =
        let messages : a.messages ≡ b.messages = short_once a.messages b.messages p.messages q.messages (first_same e) in
        let bits : a.bits ≡ b.bits = short_once a.bits b.bits p.bits q.bits (first_same (rest_same e)) in
        λ i. record { messages = messages i; bits = bits i }

-- two places in the log
abbrev Places : Type 0
Places = Option ℕ × Option ℕ

abbrev ArePlaces : Places → Type 0
ArePlaces r = IfSome r.0 IsShort × IfSome r.1 IsShort

places_spelled : Spelled (λ (r : Places). object (fields (codes "own" ∷ codes "peer" ∷ []) (number_text r.0 ∷ number_text r.1 ∷ []))) ArePlaces
places_spelled =
    fields_spelled (codes "own" ∷ codes "peer" ∷ []) (λ (r : Places). number_text r.0 ∷ number_text r.1 ∷ []) ArePlaces refl (λ r. refl)
    (λ r is. also (number_spelled.closed r.0 is.0) (also (number_spelled.closed r.1 is.1) none_closed)) once
  where
    once : (r s : Places) → ArePlaces r → ArePlaces s → number_text r.0 ∷ number_text r.1 ∷ [] ≡ number_text s.0 ∷ number_text s.1 ∷ [] → r ≡ s
    once r s p q e =
        let own : r.0 ≡ s.0 = number_spelled.once r.0 s.0 p.0 q.0 (first_same e) in
        let peer : r.1 ≡ s.1 = number_spelled.once r.1 s.1 p.1 q.1 (first_same (rest_same e)) in
        λ i. (own i, peer i)

-- how far two closings have come
abbrev Closings : Type 0
Closings = Closing × Bool

closed_spelled : Spelled (λ (r : Closings). object (fields (codes "own" ∷ codes "peer" ∷ []) (quoted (closing_word r.0) ∷ bool_text r.1 ∷ []))) Any
closed_spelled =
    fields_spelled (codes "own" ∷ codes "peer" ∷ []) (λ (r : Closings). quoted (closing_word r.0) ∷ bool_text r.1 ∷ []) Any refl (λ r. refl)
    (λ r is. also (closing_spelled.closed r.0 tt) (also (bool_spelled.closed r.1 tt) none_closed)) once
  where
    once : (r s : Closings) → Any r → Any s → quoted (closing_word r.0) ∷ bool_text r.1 ∷ [] ≡ quoted (closing_word s.0) ∷ bool_text s.1 ∷ [] → r ≡ s
    once r s p q e =
        let own : r.0 ≡ s.0 = closing_spelled.once r.0 s.0 tt tt (first_same e) in
        let peer : r.1 ≡ s.1 = bool_spelled.once r.1 s.1 tt tt (first_same (rest_same e)) in
        λ i. (own i, peer i)

abbrev end_names : List (List ℕ)
end_names = codes "socket" ∷ codes "foreign" ∷ codes "kind" ∷ codes "mine" ∷ codes "requests" ∷ codes "closing" ∷ codes "link" ∷ codes "size" ∷ codes "allocation" ∷ codes "waiting" ∷ []

abbrev end_values : Entry → List (List ℕ)
end_values e =
    decimal e.own ∷ decimal e.foreign ∷ quoted (kind_text e.own) ∷ bool_text e.mine ∷ requests_object e ∷ closings_object e ∷ number_text e.link ∷ number_text e.size ∷ allocation_object e.allocation ∷ object (bits_members e.bits) ∷ []

end_closed : (e : Entry) → IsEndTold e → AreClosed (end_values e)
end_closed e is =
    also (decimal_closed e.own) (also (decimal_closed e.foreign) (also (kind_closed e.own) (also (bool_spelled.closed e.mine tt)
    (also (places_spelled.closed (e.asked, e.partner) (is.asked, is.partner)) (also (closed_spelled.closed (e.closing, e.partner_closed) tt)
    (also (number_spelled.closed e.link is.link) (also (number_spelled.closed e.size is.size) (also (allocation_spelled.closed e.allocation is.allocation)
    (also (bits_object.closed e.bits tt) none_closed)))))))))

end_once : (d e : Entry) → IsEndTold d → IsEndTold e → end_values d ≡ end_values e → d ≡ e
end_once d e p q same =
    let own : d.own ≡ e.own = short_once d.own e.own p.own q.own (first_same same) in
    let after1 = rest_same same in
    let foreign : d.foreign ≡ e.foreign = short_once d.foreign e.foreign p.foreign q.foreign (first_same after1) in
    let after2 = rest_same (rest_same after1) in
    let mine : d.mine ≡ e.mine = bool_spelled.once d.mine e.mine tt tt (first_same after2) in
    let after3 = rest_same after2 in
    let places = places_spelled.once (d.asked, d.partner) (e.asked, e.partner) (p.asked, p.partner) (q.asked, q.partner) (first_same after3) in
    let asked : d.asked ≡ e.asked = ap (λ (r : Places). r.0) places in
    let partner : d.partner ≡ e.partner = ap (λ (r : Places). r.1) places in
    let after4 = rest_same after3 in
    let closings = closed_spelled.once (d.closing, d.partner_closed) (e.closing, e.partner_closed) tt tt (first_same after4) in
    let closing_is : d.closing ≡ e.closing = ap (λ (r : Closings). r.0) closings in
    let partner_closed : d.partner_closed ≡ e.partner_closed = ap (λ (r : Closings). r.1) closings in
    let after5 = rest_same after4 in
    let link : d.link ≡ e.link = number_spelled.once d.link e.link p.link q.link (first_same after5) in
    let after6 = rest_same after5 in
    let size : d.size ≡ e.size = number_spelled.once d.size e.size p.size q.size (first_same after6) in
    let after7 = rest_same after6 in
    let allocation : d.allocation ≡ e.allocation = allocation_spelled.once d.allocation e.allocation p.allocation q.allocation (first_same after7) in
    let bits : d.bits ≡ e.bits = bits_object.once d.bits e.bits tt tt (first_same (rest_same after7)) in
    λ i. record { own = own i; foreign = foreign i; mine = mine i; asked = asked i; partner = partner i; closing = closing_is i; partner_closed = partner_closed i; link = link i; size = size i; allocation = allocation i; bits = bits i }

pub end_spelled : Spelled end_object IsEndTold
end_spelled = fields_spelled end_names end_values IsEndTold refl (λ e. refl) end_closed end_once

-- ---- pairs

abbrev pair_names : List (List ℕ)
pair_names = codes "peer" ∷ codes "phase" ∷ codes "owed" ∷ codes "busy" ∷ codes "ends" ∷ codes "commands" ∷ []

abbrev pair_values : Peer → List (List ℕ)
pair_values p = quoted (host_text p.host) ∷ quoted (phase_word p.pair.phase) ∷ bool_text p.pair.owed ∷ array (map decimal p.pair.busy) ∷ array (map end_object p.pair.entries) ∷ array (map command_object p.pair.queue) ∷ []

busy_spelled : Spelled (λ xs. array (map decimal xs)) (All IsShort)
busy_spelled = lists_spelled decimal IsShort decimal_spelled

ends_spelled : Spelled (λ xs. array (map end_object xs)) (All IsEndTold)
ends_spelled = lists_spelled end_object IsEndTold end_spelled

commands_spelled : Spelled (λ xs. array (map command_object xs)) (All IsCommandTold)
commands_spelled = lists_spelled command_object IsCommandTold command_spelled

pair_closed : (p : Peer) → IsPairTold p → AreClosed (pair_values p)
pair_closed p is =
    also (host_spelled.closed p.host is.host) (also (phase_spelled.closed p.pair.phase tt) (also (bool_spelled.closed p.pair.owed tt)
    (also (busy_spelled.closed p.pair.busy is.busy) (also (ends_spelled.closed p.pair.entries is.ends) (also (commands_spelled.closed p.pair.queue is.commands) none_closed)))))

pair_once : (p r : Peer) → IsPairTold p → IsPairTold r → pair_values p ≡ pair_values r → p ≡ r
pair_once p r a b same =
    let host : p.host ≡ r.host = host_spelled.once p.host r.host a.host b.host (first_same same) in
    let after1 = rest_same same in
    let phase_is : p.pair.phase ≡ r.pair.phase = phase_spelled.once p.pair.phase r.pair.phase tt tt (first_same after1) in
    let after2 = rest_same after1 in
    let owed : p.pair.owed ≡ r.pair.owed = bool_spelled.once p.pair.owed r.pair.owed tt tt (first_same after2) in
    let after3 = rest_same after2 in
    let busy : p.pair.busy ≡ r.pair.busy = busy_spelled.once p.pair.busy r.pair.busy a.busy b.busy (first_same after3) in
    let after4 = rest_same after3 in
    let ends : p.pair.entries ≡ r.pair.entries = ends_spelled.once p.pair.entries r.pair.entries a.ends b.ends (first_same after4) in
    let queue : p.pair.queue ≡ r.pair.queue = commands_spelled.once p.pair.queue r.pair.queue a.commands b.commands (first_same (rest_same after4)) in
    λ i. record { host = host i; pair = record { phase = phase_is i; owed = owed i; busy = busy i; entries = ends i; queue = queue i } }

pub pair_spelled : Spelled pair_object IsPairTold
pair_spelled = fields_spelled pair_names pair_values IsPairTold refl (λ p. refl) pair_closed pair_once

-- ---- programs

pub listener_spelled : Spelled listener_object IsListenerTold
listener_spelled =
    fields_spelled (codes "socket" ∷ codes "size" ∷ []) (λ (l : Listener). decimal l.socket ∷ decimal l.size ∷ []) IsListenerTold refl (λ l. refl)
    (λ l is. also (decimal_closed l.socket) (also (decimal_closed l.size) none_closed)) once
  where
    once : (l m : Listener) → IsListenerTold l → IsListenerTold m → decimal l.socket ∷ decimal l.size ∷ [] ≡ decimal m.socket ∷ decimal m.size ∷ [] → l ≡ m
    once l m p q e =
        let socket : l.socket ≡ m.socket = short_once l.socket m.socket p.socket q.socket (first_same e) in
        let size : l.size ≡ m.size = short_once l.size m.size p.size q.size (first_same (rest_same e)) in
        λ i. record { socket = socket i; size = size i }

abbrev program_values : NcpState → List (List ℕ)
program_values s = array (map pair_object s.peers) ∷ array (map listener_object s.listening) ∷ []

pairs_spelled : Spelled (λ xs. array (map pair_object xs)) (All IsPairTold)
pairs_spelled = lists_spelled pair_object IsPairTold pair_spelled

listeners_spelled : Spelled (λ xs. array (map listener_object xs)) (All IsListenerTold)
listeners_spelled = lists_spelled listener_object IsListenerTold listener_spelled

-- the program of a host, of which texts say all
abbrev IsOwnTold : Host → NcpState → Type 0
IsOwnTold h s = ProgramLasts h s × IsProgramTold s

state_spelled : (h : Host) → Spelled (λ (s : NcpState). object (fields (codes "pairs" ∷ codes "listening" ∷ []) (program_values s))) (IsOwnTold h)
state_spelled h =
    fields_spelled (codes "pairs" ∷ codes "listening" ∷ []) program_values (IsOwnTold h) refl (λ s. refl)
    (λ s is. also (pairs_spelled.closed s.peers is.1.peers) (also (listeners_spelled.closed s.listening is.1.listening) none_closed)) once
  where
    once : (s t : NcpState) → IsOwnTold h s → IsOwnTold h t → program_values s ≡ program_values t → s ≡ t
    once s t p q e =
        let own : s.own ≡ t.own = p.0.own ∙ sym q.0.own in
        let peers : s.peers ≡ t.peers = pairs_spelled.once s.peers t.peers p.1.peers q.1.peers (first_same e) in
        let listening : s.listening ≡ t.listening = listeners_spelled.once s.listening t.listening p.1.listening q.1.listening (first_same (rest_same e)) in
        let spent : s.spent ≡ t.spent = p.0.unspent ∙ sym q.0.unspent in
        λ i. record { own = own i; peers = peers i; listening = listening i; spent = spent i }

-- an object is no word
pub no_word : (r : List ℕ) → codes "null" ≡ 123 ∷ r → ⊥
no_word r e = absurd (let bad : 110 ≡ 123 = first_same e in omega (arith, bad))

program_closed : (h : Host) (o : Option NcpState) → IfSome o (IsOwnTold h) → IsClosed (program_text o)
program_closed h None is = null_closed
program_closed h (Some s) is = (state_spelled h).closed s is

program_once : (h : Host) (o r : Option NcpState) → IfSome o (IsOwnTold h) → IfSome r (IsOwnTold h) → program_text o ≡ program_text r → o ≡ r
program_once h None None p q e = refl
program_once h None (Some t) p q e = absurd (no_word _ e)
program_once h (Some s) None p q e = absurd (no_word _ (sym e))
program_once h (Some s) (Some t) p q e = ap (λ (x : NcpState). Some x) ((state_spelled h).once s t p q e)

-- ---- seats

-- a host and its program, of which texts say all
record IsSeatWhole (s : Seat) : Type 0 where
  host : IsHostNamed s.host
  program : IfSome s.program (IsOwnTold s.host)

seat_whole : (s : Seat) → SeatLasts s → IsSeatTold s → IsSeatWhole s
seat_whole s lasting told = record { host = told.host; program = by s.program lasting told.program } where
  by : (o : Option NcpState) → IfSome o (ProgramLasts s.host) → IfSome o IsProgramTold → IfSome o (IsOwnTold s.host)
  by None last is = tt
  by (Some p) last is = (last, is)

seats_whole : (seats : List Seat) → All SeatLasts seats → All IsSeatTold seats → All IsSeatWhole seats
seats_whole [] lasting told = All-nil IsSeatWhole
seats_whole (s ∷ seats) lasting told =
    All-cons IsSeatWhole s seats (seat_whole s (All-head SeatLasts s seats lasting) (All-head IsSeatTold s seats told))
    (seats_whole seats (All-tail SeatLasts s seats lasting) (All-tail IsSeatTold s seats told))

seats_closed : (seats : List Seat) → All IsSeatWhole seats → All IsClosed (map seat_member seats)
seats_closed [] all = All-nil IsClosed
seats_closed (s ∷ seats) all =
    let is : IsSeatWhole s = All-head IsSeatWhole s seats all in
    All-cons IsClosed (seat_member s) (map seat_member seats) (member_closed (host_text s.host) (program_text s.program) (host_words.plain s.host is.host) (program_closed s.host s.program is.program))
    (seats_closed seats (All-tail IsSeatWhole s seats all))

seats_once : (seats others : List Seat) → All IsSeatWhole seats → All IsSeatWhole others → map seat_member seats ≡ map seat_member others → seats ≡ others
seats_once [] [] p q e = refl
seats_once [] (t ∷ others) p q e = absurd (cc)
seats_once (s ∷ seats) [] p q e = absurd (cc)
seats_once (s ∷ seats) (t ∷ others) p q e =
    let a : IsSeatWhole s = All-head IsSeatWhole s seats p in
    let b : IsSeatWhole t = All-head IsSeatWhole t others q in
    let host : s.host ≡ t.host =
    host_words.once s.host t.host a.host b.host
    (name_once (host_text s.host) (host_text t.host) (program_text s.program) (program_text t.program) (host_words.plain s.host a.host) (host_words.plain t.host b.host) (first_same e)) in
    let moved : member (host_text t.host) (program_text s.program) ≡ seat_member t = ap (λ (h : Host). member (host_text h) (program_text s.program)) (sym host) ∙ first_same e in
    let program : s.program ≡ t.program =
    program_once t.host s.program t.program (subst (λ (h : Host). IfSome s.program (IsOwnTold h)) host a.program) b.program (member_once (host_text t.host) (program_text s.program) (program_text t.program) moved) in
    let seat : s ≡ t = λ i. record { host = host i; program = program i } in
    ap₂ (λ (x : Seat) (xs : List Seat). x ∷ xs) seat (seats_once seats others (All-tail IsSeatWhole s seats p) (All-tail IsSeatWhole t others q) (rest_same e))

pub programs_once : (seats others : List Seat) → All SeatLasts seats → All SeatLasts others → All IsSeatTold seats → All IsSeatTold others → programs_text seats ≡ programs_text others → seats ≡ others
programs_once seats others k l p q e =
    let one : All IsSeatWhole seats = seats_whole seats k p in
    let other : All IsSeatWhole others = seats_whole others l q in
    seats_once seats others one other (object_once (map seat_member seats) (map seat_member others) (seats_closed seats one) (seats_closed others other) e)
