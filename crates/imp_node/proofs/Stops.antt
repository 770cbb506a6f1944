-- A host that goes down.
use Rattle.imp_node.proofs.Common.{Message, State, HostState, host_at, no_host, with_host, all_returned}
use Rattle.std.proofs.Common.{◌≡◌, ℕ, ◌<◌, false, List, [], ◌∷◌, length, get_or, set, nat_lt, refl, ap, sym, ◌∙◌, arith}
use Rattle.std.proofs.lemmas.List.{set-get_or, set-set, get_or-set_same}
use Rattle.link_table.specs.Flows.{Sources}

emptied : (h : HostState) → h.queue ≡ [] → record h { queue = [] } ≡ h
emptied h none = ap (λ (q : List Message). record h { queue = q }) (sym none)

none_by : (queue : List Message) → nat_lt 0 (length queue) ≡ false → queue ≡ []
none_by [] e = refl
none_by (m ∷ others) e = absurd (grind (arith, e))

-- where no message waits for a host, none is returned
pub none_returned : (s : State) (h : ℕ) → nat_lt 0 (length (host_at s h).queue) ≡ false
    → s ≡ all_returned (host_at s h).queue (with_host s h (record (host_at s h) { queue = [] }))
none_returned s h e =
    let none : (host_at s h).queue ≡ [] = none_by _ e in
    let same : with_host s h (record (host_at s h) { queue = [] }) ≡ s =
    ap (λ (host : HostState). with_host s h host) (emptied _ none) ∙ ap (λ (hosts : List HostState). record s { hosts = hosts }) (set-get_or s.hosts h no_host) in
    sym (ap (λ (q : List Message). all_returned q (with_host s h (record (host_at s h) { queue = [] }))) none ∙ same)

-- a host without answers, and then without messages, is one for which nothing waits
pub cleared_is : (s : State) (h : ℕ) (sources : Sources) → h < length s.hosts
    → (let t : State = record (with_host s h (record (host_at s h) { up = false; answers = [] })) { sources = sources } in
    all_returned (host_at t h).queue (with_host t h (record (host_at t h) { queue = [] })) ≡ all_returned (host_at s h).queue (record (with_host s h no_host) { sources = sources }))
cleared_is s h sources there =
    let down : HostState = record (host_at s h) { up = false; answers = [] } in
    let read : get_or (set s.hosts h down) h no_host ≡ down = get_or-set_same s.hosts h down no_host there in
    let F : HostState → State = λ host. all_returned host.queue (record s { sources = sources; hosts = set (set s.hosts h down) h (record host { queue = [] }) }) in
    let G : List HostState → State = λ hosts. all_returned (host_at s h).queue (record s { sources = sources; hosts = hosts }) in
    ap F read ∙ ap G (set-set s.hosts h down no_host)
