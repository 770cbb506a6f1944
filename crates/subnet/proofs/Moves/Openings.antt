-- A subnet at its opening is sound.
use Rattle.subnet.proofs.Common.{get-empty, flat_map, nat_tests, All-nil, All-cons, All-head, flow_cmp, Host, Flow, last_in, outstanding_in, PacketFields, IsPacket, Message, Told, answer_packet, IsImp, answers_of, messages_of, Net, imp_at, ends_at, packets, messages_at_imp, Alive, imp_is_up, sender_at, receiver_at, queued_of, view, Ends, empty_wire, opened_imp, opened_from, opening_subnet, host_there, AreHosts, IsAt, IsSound}
use Rattle.std.proofs.Common.{◌≡◌, ℕ, zero, suc, ◌+◌, Bool, true, false, List, [], ◌∷◌, ◌++◌, map, get_or, replicate, Option, Some, None, refl, ap, sym, ◌∙◌, subst, All, arith}
use Rattle.std.specs.Prelude.{nat_lt, slice_index_or, count_by}
use Rattle.interface.specs.Mailboxes.{Box, Mail, opening_mail}
use Rattle.interface.proofs.lemmas.{both_ways}
use Rattle.packetiser.specs.declared.packet.PacketKind.TheVariants as kind
use Rattle.flow_law.specs.View.{Packet, mail_now}
use Rattle.flow_law.specs.Runs.{IsOpening}
use Rattle.flow_law.proofs.lemmas.{all_open}
use Rattle.imp_node.specs.State.{State, HostState, up_host, no_host}
use Rattle.imp_node.specs.State as imp
use Rattle.imp_node.proofs.lemmas.{opening_answers, opening_imp, opening_queue, start_has}
use Rattle.subnet.proofs.Packets.Having.{FrameHas, WireHas, ImpHas, NetHas, net_packets, net_at}
use Rattle.subnet.proofs.Calls.SiteHosts.{below_both}

-- ---- IMPs by their places

opened_at : (i : ℕ) (sites : List (Option ℕ)) (ports : ℕ → ℕ) (k : ℕ) → imp_at (opened_from i sites ports) k ≡ opened_imp (i + k) (slice_index_or sites k None) (ports (i + k))
opened_at i [] ports k = refl
opened_at i (site ∷ sites) ports zero = let same : i ≡ i + 0 = omega arith in ap (λ (j : ℕ). opened_imp j site (ports j)) same
opened_at i (site ∷ sites) ports (suc k) =
    let same : i + 1 + k ≡ i + suc k = omega arith in
    opened_at (i + 1) sites ports k ∙ ap (λ (j : ℕ). opened_imp j (slice_index_or sites k None) (ports j)) same

opened_is : (k j : ℕ) (site : Option ℕ) (ports : ℕ) → j ≡ k → IsAt k (opened_imp j site ports)
opened_is k j None ports same = tt
opened_is k j (Some hosts) ports same = subst (λ (i : ℕ). IsImp i (imp.opening_node j hosts ports)) same (opening_imp j hosts ports)

-- ---- hosts

up_there : (count h : ℕ) → (get_or (replicate count up_host) h no_host).up ≡ nat_lt h count
up_there zero h = both_ways false (nat_lt h 0) (λ e. absurd (cc)) (λ e. grind (arith, nat_tests, e))
up_there (suc count) zero = both_ways true (nat_lt 0 (suc count)) (λ e. grind (arith, nat_tests)) (λ e. refl)
up_there (suc count) (suc h) = up_there count h ∙ below_both h count

none_waits : (count : ℕ) → flat_map (λ (h : HostState). h.queue) (replicate count up_host) ≡ []
none_waits zero = refl
none_waits (suc count) = none_waits count

no_messages : (i : ℕ) (sites : List (Option ℕ)) (ports : ℕ → ℕ) → flat_map messages_at_imp (opened_from i sites ports) ≡ []
no_messages i [] ports = refl
no_messages i (None ∷ sites) ports = no_messages (i + 1) sites ports
no_messages i (Some count ∷ sites) ports = ap (λ (ms : List Message). ms ++ flat_map messages_at_imp (opened_from (i + 1) sites ports)) (none_waits count) ∙ no_messages (i + 1) sites ports

-- ---- one flow

opened_last : (j : ℕ) (site : Option ℕ) (ports : ℕ) (f : Flow) → (sender_at (opened_imp j site ports) f).last ≡ None
opened_last j None ports f = refl
opened_last j (Some hosts) ports f = ap last_in (get-empty flow_cmp f)

opened_outstanding : (j : ℕ) (site : Option ℕ) (ports : ℕ) (f : Flow) → (sender_at (opened_imp j site ports) f).outstanding ≡ None
opened_outstanding j None ports f = refl
opened_outstanding j (Some hosts) ports f = ap outstanding_in (get-empty flow_cmp f)

opened_answers : (j : ℕ) (site : Option ℕ) (ports : ℕ) (f : Flow) → (sender_at (opened_imp j site ports) f).answers ≡ []
opened_answers j None ports f = refl
opened_answers j (Some hosts) ports f = ap (λ (told : List Told). answers_of f told) (opening_answers hosts _)

opened_queue : (j : ℕ) (site : Option ℕ) (ports : ℕ) (f : Flow) → map queued_of (receiver_at (opened_imp j site ports) f).queue ≡ []
opened_queue j None ports f = refl
opened_queue j (Some hosts) ports f = ap (λ (ms : List Message). map queued_of (messages_of f ms)) (opening_queue hosts _)

opened_source : (j : ℕ) (site : Option ℕ) (ports : ℕ) (f : Flow) → (sender_at (opened_imp j site ports) f).source ≡ host_there site f.source.host
opened_source j None ports f = refl
opened_source j (Some hosts) ports f = up_there hosts _

opened_destination : (j : ℕ) (site : Option ℕ) (ports : ℕ) (f : Flow) → (receiver_at (opened_imp j site ports) f).destination ≡ host_there site f.destination.host
opened_destination j None ports f = refl
opened_destination j (Some hosts) ports f = up_there hosts _

opened_home : (j : ℕ) (site : Option ℕ) (ports : ℕ) (f : Flow) → (sender_at (opened_imp j site ports) f).source ≡ true → imp_is_up (opened_imp j site ports) ≡ true
opened_home j None ports f up = up
opened_home j (Some hosts) ports f up = refl

same_mail : (a b c d : Bool) (x : Box) → a ≡ b → c ≡ d → (let m : Mail = record { source = a; destination = c; box = x } in let k : Mail = record { source = b; destination = d; box = x } in m ≡ k)
same_mail a b c d x e f = rw (e, f) refl

-- ---- packets

opened_has : (P : PacketFields → Type 0) (i : ℕ) (sites : List (Option ℕ)) (ports : ℕ → ℕ) → All (ImpHas P) (opened_from i sites ports)
opened_has P i [] ports = All-nil (ImpHas P)
opened_has P i (site ∷ sites) ports = All-cons (ImpHas P) (opened_imp i site (ports i)) (opened_from (i + 1) sites ports) (one site) (opened_has P (i + 1) sites ports) where
  one : (s : Option ℕ) → ImpHas P (opened_imp i s (ports i))
  one None = tt
  one (Some hosts) = start_has P i hosts _

wires_have_none : (P : PacketFields → Type 0) (ends : List Ends) → All (WireHas P) (map empty_wire ends)
wires_have_none P [] = All-nil (WireHas P)
wires_have_none P (e ∷ ends) = All-cons (WireHas P) (empty_wire e) (map empty_wire ends) (record { forward = All-nil (FrameHas P); back = All-nil (FrameHas P) }) (wires_have_none P ends)

opening_has : (P : PacketFields → Type 0) (hosts : List Host) (sites : List (Option ℕ)) (ends : List Ends) → NetHas P (opening_subnet hosts sites ends)
opening_has P hosts sites ends = record { imps = opened_has P 0 sites _; lines = wires_have_none P ends }

nothing_alive : (hosts : List Host) (sites : List (Option ℕ)) (ends : List Ends) (f : Flow) (x : Packet) → Alive (opening_subnet hosts sites ends) f x → ⊥
nothing_alive hosts sites ends f x a = net_at (λ (p : PacketFields). ⊥) _ (opening_has _ hosts sites ends) _ a.there

-- what every packet of a list has that none has: there is none
none_of : (ps : List PacketFields) → All (λ p. ⊥) ps → ps ≡ []
none_of [] all = refl
none_of (p ∷ ps) all = absurd (All-head (λ (q : PacketFields). ⊥) p ps all)

pub opening_empty : (hosts : List Host) (sites : List (Option ℕ)) (ends : List Ends) → packets (opening_subnet hosts sites ends) ≡ []
opening_empty hosts sites ends =
    let n : Net = opening_subnet hosts sites ends in
    none_of _ (net_packets (λ (p : PacketFields). ⊥) n (opening_has _ hosts sites ends))

-- ---- the subnet

flow_opens : (hosts : List Host) (sites : List (Option ℕ)) (ends : List Ends) (f : Flow) → IsOpening (view (opening_subnet hosts sites ends) f)
flow_opens hosts sites ends f =
    let ports : ℕ → ℕ = λ k. count_by (ends_at k) (map empty_wire ends) in
    let i : ℕ = f.source.imp in
    let j : ℕ = f.destination.imp in
    let here : Option ℕ = slice_index_or sites i None in
    let there : Option ℕ = slice_index_or sites j None in
    let from : imp_at (opened_from 0 sites ports) i ≡ opened_imp (0 + i) here (ports (0 + i)) = opened_at 0 sites ports i in
    let to : imp_at (opened_from 0 sites ports) j ≡ opened_imp (0 + j) there (ports (0 + j)) = opened_at 0 sites ports j in
    record {
      last = ap (λ (o : Option State). (sender_at o f).last) from ∙ opened_last _ here _ f;
      outstanding = ap (λ (o : Option State). (sender_at o f).outstanding) from ∙ opened_outstanding _ here _ f;
      answers = ap (λ (o : Option State). (sender_at o f).answers) from ∙ opened_answers _ here _ f;
      queue = ap (λ (o : Option State). map queued_of (receiver_at o f).queue) to ∙ opened_queue _ there _ f;
      box = refl;
      home = λ up. ap imp_is_up from ∙ opened_home _ here _ f (ap (λ (o : Option State). (sender_at o f).source) (sym from) ∙ up);
    }

mail_opens : (hosts : List Host) (sites : List (Option ℕ)) (ends : List Ends) → AreHosts hosts sites → (f : Flow) → mail_now (view (opening_subnet hosts sites ends) f) ≡ opening_mail hosts f
mail_opens hosts sites ends are f =
    let ports : ℕ → ℕ = λ k. count_by (ends_at k) (map empty_wire ends) in
    let i : ℕ = f.source.imp in
    let j : ℕ = f.destination.imp in
    let here : Option ℕ = slice_index_or sites i None in
    let there : Option ℕ = slice_index_or sites j None in
    let from : imp_at (opened_from 0 sites ports) i ≡ opened_imp (0 + i) here (ports (0 + i)) = opened_at 0 sites ports i in
    let to : imp_at (opened_from 0 sites ports) j ≡ opened_imp (0 + j) there (ports (0 + j)) = opened_at 0 sites ports j in
    same_mail _ _ _ _ Box.Empty
    (ap (λ (o : Option State). (sender_at o f).source) from ∙ opened_source _ here _ f ∙ sym (are f.source))
    (ap (λ (o : Option State). (receiver_at o f).destination) to ∙ opened_destination _ there _ f ∙ sym (are f.destination))

pub opening_sound : (hosts : List Host) (sites : List (Option ℕ)) (ends : List Ends) → AreHosts hosts sites → IsSound (opening_subnet hosts sites ends)
opening_sound hosts sites ends are =
    let n : Net = opening_subnet hosts sites ends in
    let ports : ℕ → ℕ = λ k. count_by (ends_at k) (map empty_wire ends) in
    let Answerable : Message → Type 0 = λ q. IsPacket (answer_packet kind.Rfnm q.flow q.number) in
    record {
      flows = all_open hosts (view n) (Alive n) (record { opening = flow_opens hosts sites ends; mail = mail_opens hosts sites ends are }) (nothing_alive hosts sites ends);
      imps = λ k. subst (IsAt k) (sym (opened_at 0 sites ports k)) (opened_is k _ _ _ (omega arith));
      formats = net_packets IsPacket n (opening_has IsPacket hosts sites ends);
      answers = subst (All Answerable) (sym (no_messages 0 sites ports)) (All-nil Answerable);
      askable = λ f number awaited. (let none : (view n f).outstanding ≡ None = (flow_opens hosts sites ends f).outstanding in absurd (cc));
    }
