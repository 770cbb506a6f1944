use Rattle.topology.proofs.Common.{range_with_len, most_imps, ImpHosts}
use Rattle.std.proofs.Common.{◌≡◌, ◌≤◌, ◌<◌, ◌+◌, ◌++◌, ◌∷◌, [], List, Option, ℕ, sym, ap, ◌∙◌, subst, map, arith}
use Rattle.topology.specs.Topology.{AreSites, TopologyFields, hosts_from, hosts_of, site_of, sites_of}
use Rattle.topology.proofs.Sites.{hosts_listed, sites_kept, sites_more}
use Rattle.topology.proofs.network.Topology.sites.Goals as goal

pub loop-number-preserved : goal.loop-number-preserved
loop-number-preserved c =
    let imps : List ImpHosts = c.args.self.now.imps in
    c.in_ok-push.ensures.items ∙ ap (λ sites. sites ++ c.site_of.result ∷ []) c.loop-number.invariant
    ∙ ap (λ site. map (site_of imps) (range_with_len 0 c.loop-number.number) ++ site ∷ [])
    (c.site_of.ensures ∙ ap (λ of. site_of of c.loop-number.number) (c.deref.ensures.value ∙ ap (λ (t : TopologyFields). t.imps) c.self.view_is))
    ∙ sym (sites_more imps c.loop-number.number)

whole : (t : TopologyFields) (sites : List (Option ℕ)) (n : ℕ) → sites ≡ map (site_of t.imps) (range_with_len 0 n) → most_imps < n → n ≤ most_imps + 1 → sites ≡ sites_of t
whole t sites n is low high = is ∙ ap (λ k. map (site_of t.imps) (range_with_len 0 k)) (let e : n ≡ most_imps + 1 = omega (arith, low, high) in e)

pub returns-clause-kept : goal.returns-clause-kept
returns-clause-kept c =
    subst AreSites (sym (whole c.args.self.now c.loop-number.sites.items c.loop-number.number c.loop-number.invariant c.loop-number-test.false c.loop-number.auto.number-end))
    (subst (λ t. AreSites (sites_of t)) c.self.view_is (sites_kept _ c.self.invariant))

pub returns-clause-listed : goal.returns-clause-listed
returns-clause-listed c =
    subst (λ t. hosts_of t ≡ hosts_from 0 (sites_of t)) c.self.view_is (hosts_listed _ c.self.invariant)
    ∙ ap (hosts_from 0) (sym (whole c.args.self.now c.loop-number.sites.items c.loop-number.number c.loop-number.invariant c.loop-number-test.false c.loop-number.auto.number-end))
