use Rattle.net_sim.proofs.Common.{rules, ◌≡◌, ℕ, ◌+◌, List, None, OnOk, length, ap, subst, ◌∙◌, flat_map, Called, Kept, contacts_asked, all_asked, all_reported, all_told, all_crossed, entered}
use Rattle.std.proofs.Common.{reverse}
use Rattle.net_sim.proofs.Books.InOrder.{entered_crossed}
use Rattle.net_sim.proofs.hosting.write_crossing.Goals as goal

pub returns-clause-done : goal.returns-clause-done
returns-clause-done c =
    let k : Kept = c.args.notes.now in
    let place : ℕ = length k.book.crossings + length c.args.news.now in
    let p : c.in_ok-place.place ≡ place = c.in_ok-place.ensures in
    let u : c.in_ok-called.called.items ≡ flat_map (contacts_asked c.args.host c.in_ok-place.place) c.args.deeds.asked.items = search rules in
    let e : entered c.args.news.now None c.in_ok-called.called.items c.args.host c.args.notices.items c.args.deeds.asked.items c.args.deeds.reports.items k
    ≡ all_reported c.args.deeds.reports.items (all_asked c.args.host c.args.deeds.asked.items (all_told c.args.host c.args.notices.items (all_crossed (reverse c.args.news.now) k))) =
    ap (λ (us : List Called). entered c.args.news.now None us c.args.host c.args.notices.items c.args.deeds.asked.items c.args.deeds.reports.items k)
    (u ∙ ap (λ (n : ℕ). flat_map (contacts_asked c.args.host n) c.args.deeds.asked.items) p)
    ∙ entered_crossed c.args.host c.args.news.now c.args.notices.items c.args.deeds.asked.items c.args.deeds.reports.items k in
    subst (λ (x : Kept). OnOk c.write.result (c.write.new.self ≡ x)) e c.write.ensures.done
