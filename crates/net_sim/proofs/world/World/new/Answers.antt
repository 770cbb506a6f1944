use Rattle.net_sim.proofs.Common.{rules, ◌≡◌, List, [], ap, subst, ◌∙◌, sym, Calls, InOrder, Host, IsAddress, IsOnce}
use Rattle.std.specs.List.{All}
use Rattle.net_sim.specs.Inside.Parts.{opening_hosts}
use Rattle.net_sim.proofs.Books.Held.{opening_held}
use Rattle.net_sim.proofs.Books.Seated.{once_in_order}
use Rattle.net_sim.proofs.world.World.new.Goals as goal

pub new-requires : goal.new-requires
new-requires g c = record { once = subst IsOnce (sym c.hosts.ensures.value) (once_in_order _ c.hosts.ensures.ordered) }

pub of_parts-requires : goal.of_parts-requires
of_parts-requires g c =
    let calls : Calls g.row.C.Denot = g.C.Carrier.calls in
    let order : InOrder (g.C.Carrier.calls.seen c.args.carrier).hosts = c.hosts.ensures.ordered in
    let addresses : All (λ (h : Host). IsAddress h) (g.C.Carrier.calls.seen c.args.carrier).hosts = subst (All (λ (h : Host). IsAddress h)) c.hosts-2.ensures.value c.are_addresses.ensures in
    let hosts : c.in_ok-hosts.hosts ≡ opening_hosts (g.C.Carrier.calls.seen c.args.carrier).hosts =
    c.in_ok-hosts.ensures ∙ ap (λ (hs : List Host). opening_hosts hs) c.hosts.ensures.value in
    let none : c.new-2.result.items ≡ [] = search rules in
    rw (hosts, none) (opening_held calls c.args.carrier c.requires.unused order addresses)
