use Rattle.net_sim.proofs.Common.{◌≡◌, ◌∙◌, ap, refl, sym, not, List, filter, subst, Calls, InOrder, Host, IsAddress, IsOnce, is_host}
use Rattle.std.specs.List.{All}
use Rattle.net_sim.specs.Inside.Parts.{opening_hosts}
use Rattle.net_sim.specs.Steps.{with_programs}
use Rattle.net_sim.proofs.Books.Held.{opening_among_held}
use Rattle.net_sim.proofs.Books.Seated.{once_in_order}
use Rattle.net_sim.proofs.Books.SomeHosts.{some_once}
use Rattle.net_sim.proofs.mixed_world.MixedWorld.beside.Goals as goal

pub new-requires : goal.new-requires
new-requires g c =
    let strangers : c.in_ok-strangers.strangers.items ≡ filter (λ h. is_host c.args.named.now h) (g.C.Carrier.calls.seen c.args.carrier).hosts = c.in_ok-strangers.ensures ∙ ap (λ (hs : List Host). filter (λ h. is_host c.args.named.now h) hs) c.hosts.ensures.value in
    let programs : c.in_ok-programs.programs.items ≡ with_programs (λ h. is_host c.in_ok-strangers.strangers.items h) (g.C.Carrier.calls.seen c.args.carrier).hosts = c.in_ok-programs.ensures ∙ ap (λ (xs : List Host). with_programs (λ h. is_host xs h) c.hosts-2.result.now) c.deref.ensures.value ∙ ap (λ (hs : List Host). with_programs (λ h. is_host c.in_ok-strangers.strangers.items h) hs) c.hosts-2.ensures.value in
    record {
      once = subst IsOnce (sym (c.deref-2.ensures.value ∙ programs))
          (some_once (λ h. not (is_host c.in_ok-strangers.strangers.items h)) _ (once_in_order _ c.hosts.ensures.ordered));
    }

pub of_parts-requires : goal.of_parts-requires
of_parts-requires g c =
    let calls : Calls g.row.C.Denot = g.C.Carrier.calls in
    let order : InOrder (g.C.Carrier.calls.seen c.args.carrier).hosts = c.hosts.ensures.ordered in
    let addresses : All (λ (h : Host). IsAddress h) (g.C.Carrier.calls.seen c.args.carrier).hosts = subst (All (λ (h : Host). IsAddress h)) c.hosts-3.ensures.value c.are_addresses.ensures in
    let strangers : c.in_ok-strangers.strangers.items ≡ filter (λ h. is_host c.args.named.now h) (g.C.Carrier.calls.seen c.args.carrier).hosts = c.in_ok-strangers.ensures ∙ ap (λ (hs : List Host). filter (λ h. is_host c.args.named.now h) hs) c.hosts.ensures.value in
    let programs : c.in_ok-programs.programs.items ≡ with_programs (λ h. is_host c.in_ok-strangers.strangers.items h) (g.C.Carrier.calls.seen c.args.carrier).hosts = c.in_ok-programs.ensures ∙ ap (λ (xs : List Host). with_programs (λ h. is_host xs h) c.hosts-2.result.now) c.deref.ensures.value ∙ ap (λ (hs : List Host). with_programs (λ h. is_host c.in_ok-strangers.strangers.items h) hs) c.hosts-2.ensures.value in
    let hosts : c.in_ok-hosts.hosts ≡ opening_hosts c.in_ok-programs.programs.items = c.in_ok-hosts.ensures ∙ ap (λ (hs : List Host). opening_hosts hs) c.deref-2.ensures.value in
    rw (hosts, programs, strangers) (opening_among_held calls c.args.carrier c.args.named.now c.requires.unused order addresses)

pub returns : goal.returns
returns g c =
    let strangers : c.in_ok-strangers.strangers.items ≡ filter (λ h. is_host c.args.named.now h) (g.C.Carrier.calls.seen c.args.carrier).hosts = c.in_ok-strangers.ensures ∙ ap (λ (hs : List Host). filter (λ h. is_host c.args.named.now h) hs) c.hosts.ensures.value in
    let programs : c.in_ok-programs.programs.items ≡ with_programs (λ h. is_host c.in_ok-strangers.strangers.items h) (g.C.Carrier.calls.seen c.args.carrier).hosts = c.in_ok-programs.ensures ∙ ap (λ (xs : List Host). with_programs (λ h. is_host xs h) c.hosts-2.result.now) c.deref.ensures.value ∙ ap (λ (hs : List Host). with_programs (λ h. is_host c.in_ok-strangers.strangers.items h) hs) c.hosts-2.ensures.value in
    let hosts : c.in_ok-hosts.hosts ≡ opening_hosts c.in_ok-programs.programs.items = c.in_ok-hosts.ensures ∙ ap (λ (hs : List Host). opening_hosts hs) c.deref-2.ensures.value in
    rw (c.of_parts.ensures, hosts, programs, strangers) refl
