-- What hosts see of each call.
use Rattle.subnet.proofs.Common.{cases_Bool, nat_tests, Host, same_host, is_host, Flow, CarrierFault, Crossing, Inbound, Direction, NetEvent, HostMessage, Frame, Message, Told, State, HostState, ImpTurn, no_host, host_at, resend, route, from_host, Net, imp_at, wire_at, frames_on, far_end, at_imp, at_up, logging, accepted, is_imp, site_at, imp_refusal, offer_out, given_at, taken_by_host, crossings_of, take_in, delivered, deliver, downs_from, downs_at, quiet_round, step_refusal, stepped, host_there, hosts_of_one, hosts_from, IsAt, IsSound}
use Rattle.std.proofs.Common.{◌≡◌, ℕ, zero, suc, ◌+◌, ◌<◌, Bool, true, false, not, List, [], ◌∷◌, ◌++◌, map, get_or, Option, Some, None, is_some, refl, ap, sym, subst, ◌∙◌, ◌==◌, ◌&&◌, if◌then◌else◌, inl, inr, eqb-true, eq-eqb, append-nil, arith, reverse, filter, All}
use Rattle.std.specs.Prelude.{slice_get, slice_index_or, nat_lt}
use Rattle.std.proofs.lemmas.List.{reverse-append}
use Rattle.std.proofs.lemmas.List.Elements.{All-head, filter-append}
use Rattle.interface.specs.Calls.{IsFor, step_crossings}
use Rattle.interface.specs.Mailboxes.{Mail, is_up, UpsAreHosts}
use Rattle.interface.specs.declared.carrier.CarrierFault.TheVariants as fault
use Rattle.interface.specs.declared.crossing.Crossing.TheVariants as crossing
use Rattle.interface.specs.declared.crossing.Inbound.TheVariants as inbound
use Rattle.interface.specs.declared.event.NetEvent.TheVariants as event
use Rattle.interface.proofs.lemmas.{guard, mail_is, same_host-true}
use Rattle.imp_node.specs.Taking.{first_of}
use Rattle.subnet.specs.Flows.{sender_at, host_is_up}
use Rattle.subnet.specs.Seen.{seen, IsListed, SameNetwork}
use Rattle.subnet.proofs.Calls.Rounds.{round_keeps}
use Rattle.subnet.proofs.Calls.SiteHosts.{hosts_fit}

-- ---- hosts that are up

-- what the log says of a host is what its IMP says
pub imp_says : (n : Net) (h : Host) → IsSound n → is_up n.hosts h n.log ≡ host_is_up (imp_at n.imps h.imp) h.host
imp_says n h is =
    let f : Flow = record { source = h; destination = h; link = record { 0 = 0 } } in
    ap (λ (m : Mail). m.source) (sym (mail_is _ f n.log) ∙ (is.flows.flows f).mail) ∙ by (imp_at n.imps h.imp)
  where
    by : (o : Option State) → (let f : Flow = record { source = h; destination = h; link = record { 0 = 0 } } in (sender_at o f).source ≡ host_is_up o h.host)
    by None = refl
    by (Some s) = refl

-- and it is one of the network
up_is_host : (hosts : List Host) (log : List Crossing) (h : Host) → UpsAreHosts hosts log → is_up hosts h log ≡ true → is_host hosts h ≡ true
up_is_host hosts [] h ups up = up
up_is_host hosts (crossing.Out m ∷ log) h ups up = up_is_host hosts log h ups up
up_is_host hosts (crossing.In m ∷ log) h ups up = up_is_host hosts log h ups up
up_is_host hosts (crossing.Answer k f ∷ log) h ups up = up_is_host hosts log h ups up
up_is_host hosts (crossing.Down g ∷ log) h ups up = elim (cases_Bool (same_host h g)) [
  | inl same ↦ (let no : false ≡ true = rw same at up in absurd (cc))
  | inr other ↦ (let before : is_up hosts h log ≡ true = rw other at up in up_is_host hosts log h ups before)
]
up_is_host hosts (crossing.Up g ∷ log) h ups up = elim (cases_Bool (same_host h g)) [
  | inl same ↦ ap (is_host hosts) (same_host-true h g same) ∙ ups.0
  | inr other ↦ (let before : is_up hosts h log ≡ true = rw other at up in up_is_host hosts log h ups.1 before)
]

-- ---- the hosts of one IMP among all

abbrev host_of : ℕ → ℕ → Host
host_of i k = record { imp = i; host = k }

abbrev ours : ℕ → (Host → Bool) → Host → Bool
ours i up h = h.imp == i && up h

not_ours : (i : ℕ) (up : Host → Bool) (h : Host) → (h.imp ≡ i → ⊥) → ours i up h ≡ false
not_ours i up h other = elim (cases_Bool (h.imp == i)) [
  | inl same ↦ absurd (other (eqb-true h.imp i same))
  | inr differs ↦ rw differs refl
]

skipped : (test : Host → Bool) (h : Host) (hosts : List Host) → test h ≡ false → filter test (h ∷ hosts) ≡ filter test hosts
skipped test h hosts none = rw none refl

one_skipped : (i j k count : ℕ) (up : Host → Bool) → (j ≡ i → ⊥) → filter (ours i up) (hosts_of_one j k count) ≡ []
one_skipped i j k zero up other = refl
one_skipped i j k (suc count) up other = skipped (ours i up) (host_of j k) (hosts_of_one j (k + 1) count) (not_ours i up (host_of j k) other) ∙ one_skipped i j (k + 1) count up other

later_skipped : (i j : ℕ) (sites : List (Option ℕ)) (up : Host → Bool) → i < j → filter (ours i up) (hosts_from j sites) ≡ []
later_skipped i j [] up less = refl
later_skipped i j (None ∷ sites) up less = later_skipped i (j + 1) sites up (omega (arith, less))
later_skipped i j (Some count ∷ sites) up less =
    filter-append (ours i up) (hosts_of_one j 0 count) (hosts_from (j + 1) sites)
    ∙ ap (λ (hs : List Host). hs ++ filter (ours i up) (hosts_from (j + 1) sites)) (one_skipped i j 0 count up (λ e. omega (arith, e, less)))
    ∙ later_skipped i (j + 1) sites up (omega (arith, less))

of_site : (j x count : ℕ) (sites : List (Option ℕ)) (up : Host → Bool) → slice_index_or sites x None ≡ Some count → filter (ours (j + x) up) (hosts_from j sites) ≡ filter (ours (j + x) up) (hosts_of_one (j + x) 0 count)
of_site j x count [] up site = absurd (cc)
of_site j zero count (None ∷ sites) up site = absurd (cc)
of_site j (suc x) count (None ∷ sites) up site =
    let on : j + suc x ≡ j + 1 + x = omega arith in
    ap (λ (i : ℕ). filter (ours i up) (hosts_from (j + 1) sites)) on ∙ of_site (j + 1) x count sites up site ∙ ap (λ (i : ℕ). filter (ours i up) (hosts_of_one i 0 count)) (sym on)
of_site j zero count (Some c ∷ sites) up site =
    let same : c ≡ count = cc in
    let here : j ≡ j + 0 = omega arith in
    filter-append (ours (j + 0) up) (hosts_of_one j 0 c) (hosts_from (j + 1) sites)
    ∙ ap (λ (hs : List Host). filter (ours (j + 0) up) (hosts_of_one j 0 c) ++ hs) (later_skipped (j + 0) (j + 1) sites up (omega arith))
    ∙ append-nil (filter (ours (j + 0) up) (hosts_of_one j 0 c))
    ∙ ap (λ (d : ℕ). filter (ours (j + 0) up) (hosts_of_one j 0 d)) same
    ∙ ap (λ (i : ℕ). filter (ours (j + 0) up) (hosts_of_one i 0 count)) here
of_site j (suc x) count (Some c ∷ sites) up site =
    let on : j + suc x ≡ j + 1 + x = omega arith in
    filter-append (ours (j + suc x) up) (hosts_of_one j 0 c) (hosts_from (j + 1) sites)
    ∙ ap (λ (hs : List Host). hs ++ filter (ours (j + suc x) up) (hosts_from (j + 1) sites)) (one_skipped _ j 0 c up (λ e. omega (arith, e)))
    ∙ ap (λ (i : ℕ). filter (ours i up) (hosts_from (j + 1) sites)) on
    ∙ of_site (j + 1) x count sites up site
    ∙ ap (λ (i : ℕ). filter (ours i up) (hosts_of_one i 0 count)) (sym on)

-- ---- hosts that go down in order

abbrev downs_of : (Host → Bool) → List Host → List Crossing
downs_of test hosts = reverse (map (λ h. crossing.Down h) (filter test hosts))

next_down : (test : Host → Bool) (h : Host) (hosts : List Host) (b : Bool) → test h ≡ b → downs_of test hosts ++ (if b then crossing.Down h ∷ [] else []) ≡ downs_of test (h ∷ hosts)
next_down test h hosts true is = rw is (sym (reverse-append (crossing.Down h ∷ []) (map (λ (g : Host). crossing.Down g) (filter test hosts))))
next_down test h hosts false is = rw is (append-nil (downs_of test hosts))

-- the hosts of an IMP from number `k` on are up as it says, and hosts that it doesn't have are not
record SaysUp (i k count : ℕ) (up : Host → Bool) (hs : List HostState) : Type 0 where
  says : (x : ℕ) → up (host_of i (k + x)) ≡ (get_or hs x no_host).up
  within : (x : ℕ) → up (host_of i (k + x)) ≡ true → x < count

here_is : (i k count : ℕ) (up : Host → Bool) (hs : List HostState) → SaysUp i k count up hs → up (host_of i k) ≡ (get_or hs 0 no_host).up
here_is i k count up hs is = let same : k ≡ k + 0 = omega arith in ap (λ (j : ℕ). up (host_of i j)) same ∙ is.says 0

test_is : (i k : ℕ) (up : Host → Bool) (b : Bool) → up (host_of i k) ≡ b → ours i up (host_of i k) ≡ b
test_is i k up b is = rw (eq-eqb i i refl) is

downs_are : (i k count : ℕ) (up : Host → Bool) (hs : List HostState) → SaysUp i k count up hs → downs_from i k hs ≡ downs_of (ours i up) (hosts_of_one i k count)
downs_are i k zero up [] is = refl
downs_are i k (suc count) up [] is =
    let none : SaysUp i (k + 1) count up [] = record {
      says = λ x. (let on : k + 1 + x ≡ k + suc x = omega arith in ap (λ (j : ℕ). up (host_of i j)) on ∙ is.says (suc x));
      within = λ x later. (let on : k + suc x ≡ k + 1 + x = omega arith in let less : suc x < suc count = is.within (suc x) (ap (λ (j : ℕ). up (host_of i j)) on ∙ later) in omega (arith, less));
    } in
    downs_are i (k + 1) count up [] none
    ∙ sym (append-nil (downs_of (ours i up) (hosts_of_one i (k + 1) count)))
    ∙ next_down (ours i up) (host_of i k) (hosts_of_one i (k + 1) count) false (test_is i k up false (here_is i k _ up [] is))
downs_are i k zero up (h ∷ hs) is =
    let rest : SaysUp i (k + 1) zero up hs = record {
      says = λ x. (let on : k + 1 + x ≡ k + suc x = omega arith in ap (λ (j : ℕ). up (host_of i j)) on ∙ is.says (suc x));
      within = λ x later. (let on : k + suc x ≡ k + 1 + x = omega arith in let less : suc x < zero = is.within (suc x) (ap (λ (j : ℕ). up (host_of i j)) on ∙ later) in absurd (omega (arith, less)));
    } in
    let down : h.up ≡ false = elim (cases_Bool h.up) [
      | inl up_here ↦ (let less : 0 < zero = is.within 0 (is.says 0 ∙ up_here) in absurd (omega (arith, less)))
      | inr down_here ↦ down_here
    ] in
    ap (λ (b : Bool). downs_from i (k + 1) hs ++ (if b then crossing.Down (host_of i k) ∷ [] else [])) down
    ∙ append-nil (downs_from i (k + 1) hs)
    ∙ downs_are i (k + 1) zero up hs rest
downs_are i k (suc count) up (h ∷ hs) is =
    let rest : SaysUp i (k + 1) count up hs = record {
      says = λ x. (let on : k + 1 + x ≡ k + suc x = omega arith in ap (λ (j : ℕ). up (host_of i j)) on ∙ is.says (suc x));
      within = λ x later. (let on : k + suc x ≡ k + 1 + x = omega arith in let less : suc x < suc count = is.within (suc x) (ap (λ (j : ℕ). up (host_of i j)) on ∙ later) in omega (arith, less));
    } in
    ap (λ (cs : List Crossing). cs ++ (if h.up then crossing.Down (host_of i k) ∷ [] else [])) (downs_are i (k + 1) count up hs rest)
    ∙ next_down (ours i up) (host_of i k) (hosts_of_one i (k + 1) count) h.up (test_is i k up h.up (here_is i k _ up _ is))

-- an IMP of this many hosts
site_downs : (n : Net) (i count : ℕ) (s : State) → imp_at n.imps i ≡ Some s → site_at n i ≡ Some count → IsListed n → IsSound n → downs_from i 0 s.hosts ≡ step_crossings (seen n) (event.ImpDown i)
site_downs n i count s there site listed is =
    let up : Host → Bool = λ h. is_up n.hosts h n.log in
    let number : 0 + i ≡ i = omega arith in
    let filtered : filter (ours i up) (hosts_from 0 n.sites) ≡ filter (ours i up) (hosts_of_one i 0 count) =
    ap (λ (j : ℕ). filter (ours j up) (hosts_from 0 n.sites)) (sym number) ∙ of_site 0 i count _ up site ∙ ap (λ (j : ℕ). filter (ours j up) (hosts_of_one j 0 count)) number in
    downs_are i 0 count up _ (record { says = says; within = within })
    ∙ ap (λ (hs : List Host). reverse (map (λ (h : Host). crossing.Down h) hs)) (sym filtered ∙ ap (λ (hs : List Host). filter (ours i up) hs) (sym listed))
  where
    says : (x : ℕ) → is_up n.hosts (host_of i (0 + x)) n.log ≡ (get_or s.hosts x no_host).up
    says x =
        let same : 0 + x ≡ x = omega arith in
        ap (λ (j : ℕ). is_up n.hosts (host_of i j) n.log) same ∙ imp_says n _ is ∙ ap (λ (o : Option State). host_is_up o x) there

    within : (x : ℕ) → is_up n.hosts (host_of i (0 + x)) n.log ≡ true → x < count
    within x up =
        let same : 0 + x ≡ x = omega arith in
        let h : Host = host_of i x in
        let known : is_host n.hosts h ≡ true = up_is_host _ n.log h is.flows.ups (ap (λ (j : ℕ). is_up n.hosts (host_of i j) n.log) (sym same) ∙ up) in
        let less : nat_lt x count ≡ true = sym (ap (λ (hs : List Host). is_host hs h) listed ∙ hosts_fit n.sites h ∙ ap (λ (o : Option ℕ). host_there o x) site) ∙ known in
        grind (arith, nat_tests, less)

imp_down_shown : (n : Net) (i : ℕ) → imp_refusal n i ≡ None → IsListed n → IsSound n → downs_at i (imp_at n.imps i) ≡ step_crossings (seen n) (event.ImpDown i)
imp_down_shown n i allowed listed is =
    let last : Option CarrierFault = at_up (imp_at n.imps i) accepted in
    let there : (not (is_imp n i) ≡ false) × (last ≡ None) = guard _ _ last allowed in
    by (imp_at n.imps i) refl (site_at n i) refl there.0 there.1
  where
    by : (o : Option State) → imp_at n.imps i ≡ o → (site : Option ℕ) → site_at n i ≡ site → not (is_some site) ≡ false → at_up o accepted ≡ None → downs_at i o ≡ step_crossings (seen n) (event.ImpDown i)
    by None at site known none up = absurd (cc)
    by (Some s) at None known none up = absurd (cc)
    by (Some s) at (Some count) known none up = site_downs n i count s at known listed is

-- ---- the log after each call

-- of a call that puts these crossings on the log
call_log : (o : Option State) (i : ℕ) (call : State → ImpTurn) (entries : List Crossing) (n : Net) → (logging entries (at_imp o i call n)).log ≡ entries ++ n.log
call_log None i call entries n = refl
call_log (Some s) i call entries n = refl

deliver_log : (n : Net) (l : ℕ) (d : Direction) (k : ℕ) → (deliver n l d k).log ≡ n.log
deliver_log n l d k = by (slice_get (frames_on d (wire_at n.lines l)) k) where
  by : (o : Option Frame) → (delivered n l d o).log ≡ n.log
  by None = refl
  by (Some f) = let i : ℕ = far_end d _ in call_log _ i _ [] n

pub offer_log : (n : Net) (m : HostMessage) → (offer_out n m).log ≡ crossing.Out m ∷ n.log
offer_log n m = call_log (imp_at n.imps m.flow.source.imp) m.flow.source.imp (λ s. from_host s m) (crossing.Out m ∷ []) n

pub take_log : (n : Net) (h : Host) → (take_in n h).log ≡ crossings_of (taken_by_host n h) ++ n.log
take_log n h = call_log _ h.imp _ _ n

pub step_log : (n : Net) (e : NetEvent) → step_refusal n e ≡ None → IsListed n → IsSound n → (stepped n e).log ≡ step_crossings (seen n) e ++ n.log
step_log n (event.Deliver l d k) allowed listed is = deliver_log n l d k
step_log n (event.Drop l d k) allowed listed is = refl
step_log n (event.Garble l d k) allowed listed is = refl
step_log n (event.ImpDown i) allowed listed is = ap (λ (cs : List Crossing). cs ++ n.log) (imp_down_shown n i allowed listed is)
step_log n (event.ImpUp i) allowed listed is = refl
-- every other event is a call of one IMP
step_log n e allowed listed is = call_log (imp_at n.imps _) _ _ (step_crossings (seen n) e) n

pub round_log : (n : Net) → (quiet_round n).log ≡ n.log
round_log n = round_keeps (λ m. m.log ≡ n.log) (record {
  route = λ m i same. call_log (imp_at m.imps i) i route [] m ∙ same;
  resend = λ m i same. call_log (imp_at m.imps i) i resend [] m ∙ same;
  deliver = λ m l d k same. deliver_log m l d k ∙ same;
  drop = λ m l d k same. same;
}) n refl

-- what a host is given is for it
pub take_for : (n : Net) (h : Host) (i : Inbound) → IsSound n → taken_by_host n h ≡ Some i → IsFor h i
take_for n h i is given = by (imp_at n.imps h.imp) (is.imps h.imp) given where
  first : (ts : List Told) (ms : List Message) → All (λ t. t.flow.source ≡ h) ts → All (λ m. m.flow.destination ≡ h) ms → first_of ts ms ≡ Some i → IsFor h i
  first (t ∷ ts) ms answers queue is_first = let same : inbound.Answer t.kind t.flow ≡ i = cc in subst (IsFor h) same (All-head (λ (x : Told). x.flow.source ≡ h) t ts answers)
  first [] (m ∷ ms) answers queue is_first = let same : inbound.Message (record { flow = m.flow; text = m.text }) ≡ i = cc in subst (IsFor h) same (All-head (λ (x : Message). x.flow.destination ≡ h) m ms queue)
  first [] [] answers queue is_first = absurd (cc)

  by : (o : Option State) → IsAt h.imp o → given_at o h.host ≡ Some i → IsFor h i
  by None at given = absurd (cc)
  by (Some s) at given = first (host_at s h.host).answers (host_at s h.host).queue (at.answers h.host) (at.queues h.host) given

-- ---- hosts and sites stay

-- whatever crosses
call_same : (o : Option State) (i : ℕ) (call : State → ImpTurn) (log : List Crossing) (n : Net) → SameNetwork n (record (at_imp o i call n) { log = log })
call_same None i call log n = record { hosts = refl; sites = refl }
call_same (Some s) i call log n = record { hosts = refl; sites = refl }

deliver_same : (n : Net) (l : ℕ) (d : Direction) (k : ℕ) → SameNetwork n (deliver n l d k)
deliver_same n l d k = by (slice_get (frames_on d (wire_at n.lines l)) k) where
  by : (o : Option Frame) → SameNetwork n (delivered n l d o)
  by None = record { hosts = refl; sites = refl }
  by (Some f) = let i : ℕ = far_end d _ in call_same _ i _ _ n

same_then : (l m n : Net) → SameNetwork l m → SameNetwork m n → SameNetwork l n
same_then l m n first second = record { hosts = second.hosts ∙ first.hosts; sites = second.sites ∙ first.sites }

pub offer_same : (n : Net) (m : HostMessage) → SameNetwork n (offer_out n m)
offer_same n m = call_same _ _ _ _ n

pub take_same : (n : Net) (h : Host) → SameNetwork n (take_in n h)
take_same n h = call_same _ h.imp _ _ n

pub step_same : (n : Net) (e : NetEvent) → SameNetwork n (stepped n e)
step_same n (event.Deliver l d k) = deliver_same n l d k
step_same n (event.Drop l d k) = record { hosts = refl; sites = refl }
step_same n (event.Garble l d k) = record { hosts = refl; sites = refl }
step_same n (event.ImpDown i) = record { hosts = refl; sites = refl }
step_same n (event.ImpUp i) = record { hosts = refl; sites = refl }
-- every other event is a call of one IMP
step_same n e = call_same _ _ _ _ n

pub round_same : (n : Net) → SameNetwork n (quiet_round n)
round_same n = round_keeps _ (record {
  route = λ m i same. same_then n m (at_imp (imp_at m.imps i) i route m) same (call_same _ i route _ m);
  resend = λ m i same. same_then n m (at_imp (imp_at m.imps i) i resend m) same (call_same _ i resend _ m);
  deliver = λ m l d k same. same_then n m (deliver m l d k) same (deliver_same m l d k);
  drop = λ m l d k same. record { hosts = same.hosts; sites = same.sites };
}) n (record { hosts = refl; sites = refl })
