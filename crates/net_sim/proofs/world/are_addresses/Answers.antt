use Rattle.net_sim.proofs.Common.{rules, ◌≡◌, ◌+◌, ◌++◌, [], ◌∷◌, take, sym, ap, ◌∙◌, take_all, take_more, All-push, Host, IsAddress}
use Rattle.std.proofs.lemmas.List.Elements.{All-same}
use Rattle.net_sim.proofs.world.are_addresses.Goals as goal

pub loop-host-preserved : goal.loop-host-preserved
loop-host-preserved c =
    let is : IsAddress c.host-item.result = record { imp_from = search rules; imp_to = search rules; host_to = search rules } in
    let more : take (c.loop-host.host-index + 1) c.args.hosts.now ≡ take c.loop-host.host-index c.args.hosts.now ++ c.host-item.result ∷ [] =
    take_more c.args.hosts.now c.loop-host.host-index c.host-item.result (search rules) ∙ ap (λ (h : Host). take c.loop-host.host-index c.args.hosts.now ++ h ∷ []) (search rules) in
    All-same (λ (h : Host). IsAddress h) (take (c.loop-host.host-index + 1) c.args.hosts.now) (take c.loop-host.host-index c.args.hosts.now ++ c.host-item.result ∷ []) more
    (All-push (λ (h : Host). IsAddress h) (take c.loop-host.host-index c.args.hosts.now) c.host-item.result c.loop-host.invariant is)

pub returns : goal.returns
returns c =
    let all : take c.loop-host.host-index c.args.hosts.now ≡ c.args.hosts.now = take_all c.loop-host.host-index c.args.hosts.now (search rules) in
    All-same (λ (h : Host). IsAddress h) c.args.hosts.now (take c.loop-host.host-index c.args.hosts.now) (sym all) c.loop-host.invariant
