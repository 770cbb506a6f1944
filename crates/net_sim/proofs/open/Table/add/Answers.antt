use Rattle.std.proofs.Common.{ℕ, ◌<◌, List, [], rules, length, slice_index_or, ap, sym, subst, ◌∙◌}
use Rattle.std.proofs.lemmas.List.{length-map}
use Rattle.std.proofs.lemmas.Result.{on_ok_weaker}
use Rattle.net_sim.proofs.Books.Marks.{here_put, other_put}
use Rattle.net_sim.proofs.open.Table.add.Goals as goal

pub returns-clause-here : goal.returns-clause-here
returns-clause-here c =
    on_ok_weaker c.put.result
    (λ e. here_put (λ list. list.items) c.self.inside.lists.items c.args.key c.index_mut.result.now c.index_mut.result.now c.put.new.list c.args.lives.now _ c.args.self.now
    (subst (λ (n : ℕ). c.args.key < n) (length-map c.self.inside.lists.items (λ list. list.items)) (subst (λ (ls : List (List ℕ)). c.args.key < length ls) (sym c.self.view_is) c.in_ok-widen.ensures.there)) (search rules)
    (ap (λ (ls : List (List ℕ)). slice_index_or ls c.args.key []) c.self.view_is ∙ c.in_ok-widen.ensures.same c.args.key) e)
    c.put.ensures

pub returns-clause-others : goal.returns-clause-others
returns-clause-others c =
    on_ok_weaker c.put.result
    (λ e. λ k off. other_put (λ list. list.items) c.self.inside.lists.items c.args.key c.put.new.list k off ∙ ap (λ (ls : List (List ℕ)). slice_index_or ls k []) c.self.view_is ∙ c.in_ok-widen.ensures.same k)
    c.put.ensures
