use Rattle.net_sim.proofs.Common.{rules, ◌≡◌, ℕ, ◌++◌, List, [], Some, OnOk, length, ap, subst, ◌∙◌, flat_map, Called, Kept, all_asked, all_reported, all_told, asked, contacts_asked, entered}
use Rattle.net_sim.proofs.Books.InOrder.{entered_asked}
use Rattle.net_sim.proofs.asking.write_asked.Goals as goal

pub returns-clause-done : goal.returns-clause-done
returns-clause-done c =
    let k : Kept = c.args.notes.now in
    let p : c.crossed-place.result ≡ length k.book.crossings = c.crossed-place.ensures in
    let u : c.append.new.self.items ≡ contacts_asked c.args.host c.crossed-place.result c.args.request ++ flat_map (contacts_asked c.args.host c.crossed-place.result) c.args.deeds.asked.items = search rules in
    let e : entered [] (Some (c.args.host, c.args.request)) c.append.new.self.items c.args.host c.args.notices.items c.args.deeds.asked.items c.args.deeds.reports.items k
    ≡ all_reported c.args.deeds.reports.items (all_asked c.args.host c.args.deeds.asked.items (all_told c.args.host c.args.notices.items (asked c.args.host c.args.request k))) =
    ap (λ (us : List Called). entered [] (Some (c.args.host, c.args.request)) us c.args.host c.args.notices.items c.args.deeds.asked.items c.args.deeds.reports.items k)
    (u ∙ ap (λ (n : ℕ). contacts_asked c.args.host n c.args.request ++ flat_map (contacts_asked c.args.host n) c.args.deeds.asked.items) p)
    ∙ entered_asked c.args.host c.args.request c.args.notices.items c.args.deeds.asked.items c.args.deeds.reports.items k in
    subst (λ (x : Kept). OnOk c.write.result (c.write.new.self ≡ x)) e c.write.ensures.done
