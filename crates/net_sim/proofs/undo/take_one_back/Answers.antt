use Rattle.net_sim.proofs.Common.{◌≡◌, rules, Bool, List, ap, sym, ◌∙◌, Fate, Life, Undo, life_back, reopened, undone}
use Rattle.std.proofs.Common.{slice_index_or}
use Rattle.net_sim.proofs.Books.Places.{set_here}
use Rattle.net_sim.proofs.Books.Undoing.{state, cut_past, cut_set, fate_past, fate_set, here_past}
use Rattle.net_sim.proofs.undo.take_one_back.Goals as goal

pub returns-then-at-len : goal.returns-then-at-len
returns-then-at-len c =
    let read : c.index_mut.result.now ≡ slice_index_or c.args.lives.now.items c.in-Ended.at c.index_mut.result.now = search rules in
    ap (λ (xs : List Life). state xs c.args.handed.now.items c.args.fates.now.items) (set_here reopened c.in-Ended.at c.args.lives.now.items c.index_mut.result.now _ (ap (λ (x : Life). reopened x) read))
    ∙ ap (λ (u : Undo). undone u (state c.args.lives.now.items c.args.handed.now.items c.args.fates.now.items)) (sym c.in-Ended.is)

pub returns-else-at-len : goal.returns-else-at-len
returns-else-at-len c =
    ap (λ (xs : List Life). state xs c.args.handed.now.items c.args.fates.now.items) (here_past reopened c.in-Ended.at c.args.lives.now.items (search rules))
    ∙ ap (λ (u : Undo). undone u (state c.args.lives.now.items c.args.handed.now.items c.args.fates.now.items)) (sym c.in-Ended.is)

pub returns-then-at-len-2 : goal.returns-then-at-len-2
returns-then-at-len-2 c =
    ap (λ (xs : List Life). state xs c.args.handed.now.items c.args.fates.now.items) (set_here (life_back c.in-Changed.was) c.in-Changed.at c.args.lives.now.items c.index_mut-then-at-len-2.result.now c.put_back.new.life (search rules))
    ∙ ap (λ (u : Undo). undone u (state c.args.lives.now.items c.args.handed.now.items c.args.fates.now.items)) (sym c.in-Changed.is)

pub returns-else-at-len-2 : goal.returns-else-at-len-2
returns-else-at-len-2 c =
    ap (λ (xs : List Life). state xs c.args.handed.now.items c.args.fates.now.items) (here_past (life_back c.in-Changed.was) c.in-Changed.at c.args.lives.now.items (search rules))
    ∙ ap (λ (u : Undo). undone u (state c.args.lives.now.items c.args.handed.now.items c.args.fates.now.items)) (sym c.in-Changed.is)

pub returns-then-at-len-3 : goal.returns-then-at-len-3
returns-then-at-len-3 c =
    ap (λ (hs : List (List Bool)). state c.args.lives.now.items hs c.args.fates.now.items) (cut_set c.in-Handed.bits c.in-Handed.at c.args.handed.now.items c.index_mut-then-at-len-3.result.now c.cut.new.self (search rules))
    ∙ ap (λ (u : Undo). undone u (state c.args.lives.now.items c.args.handed.now.items c.args.fates.now.items)) (sym c.in-Handed.is)

pub returns-else-at-len-3 : goal.returns-else-at-len-3
returns-else-at-len-3 c =
    ap (λ (hs : List (List Bool)). state c.args.lives.now.items hs c.args.fates.now.items) (cut_past c.in-Handed.bits c.in-Handed.at c.args.handed.now.items (search rules))
    ∙ ap (λ (u : Undo). undone u (state c.args.lives.now.items c.args.handed.now.items c.args.fates.now.items)) (sym c.in-Handed.is)

pub returns-then-at-len-4 : goal.returns-then-at-len-4
returns-then-at-len-4 c =
    ap (λ (fs : List Fate). state c.args.lives.now.items c.args.handed.now.items fs) (fate_set c.in-Turned.was c.in-Turned.at c.args.fates.now.items)
    ∙ ap (λ (u : Undo). undone u (state c.args.lives.now.items c.args.handed.now.items c.args.fates.now.items)) (sym c.in-Turned.is)

pub returns-else-at-len-4 : goal.returns-else-at-len-4
returns-else-at-len-4 c =
    ap (λ (fs : List Fate). state c.args.lives.now.items c.args.handed.now.items fs) (fate_past c.in-Turned.was c.in-Turned.at c.args.fates.now.items (search rules))
    ∙ ap (λ (u : Undo). undone u (state c.args.lives.now.items c.args.handed.now.items c.args.fates.now.items)) (sym c.in-Turned.is)
