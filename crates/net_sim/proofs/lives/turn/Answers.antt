use Rattle.std.proofs.Common.{refl, rules, ◌<◌, length, slice_index_or, ◌∙◌}
use Rattle.promise.specs.declared.life.Fate.TheVariants as fate
use Rattle.net_sim.specs.Inside.Endings.{turned, turns}
use Rattle.net_sim.proofs.Books.Marks.{kept_same, within}
use Rattle.net_sim.proofs.Books.Turned.{all_turned, next_turned, turn_here, turn_none}
use Rattle.net_sim.proofs.Books.Undoing.{state, turned_back, turned_next, turned_same}
use Rattle.net_sim.proofs.lives.turn.Goals as goal
use Rattle.net_sim.proofs.lives.turn.Goals.{then-at-fates+in_ok-turn_at, else-at-fates}

pub bounds-lives-at : goal.bounds-lives-at
bounds-lives-at c = within (turns c.args.turn.now) c.args.lives.now c.args.lives.now c.args.places.now c.loop-at.at-index 0 c.requires (kept_same c.args.lives.now) (search rules)

pub offset_bounds-lives-at : goal.offset_bounds-lives-at
offset_bounds-lives-at c =
    let at : slice_index_or c.args.places.now c.loop-at.at-index 0 < length c.args.lives.now = within (turns c.args.turn.now) c.args.lives.now c.args.lives.now c.args.places.now c.loop-at.at-index 0 c.requires (kept_same c.args.lives.now) (search rules) in
    search (rules, at)

pub loop-at-preserved : goal.loop-at-preserved
loop-at-preserved c = record {
  rest = next_turned (turns c.args.turn.now) (turned c.args.turn.now) c.args.places.now c.loop-at.at-index c.args.lives.now c.loop-at.fates c.if-at-fates.fates _ (search rules)
      (elim c.if-at-fates.branch [
        | then-at-fates+in_ok-turn_at w ↦
            w.fates-is ∙ turn_here (turns c.args.turn.now) (turned c.args.turn.now) (slice_index_or c.args.places.now c.loop-at.at-index 0) c.args.lives.now c.loop-at.fates w.index-lives-at.result fate.Open _ w.turn_at.new.fate
            (within (turns c.args.turn.now) c.args.lives.now c.args.lives.now c.args.places.now c.loop-at.at-index 0 c.requires (kept_same c.args.lives.now) (search rules)) refl (search rules)
        | else-at-fates w ↦ w.fates-is ∙ turn_none (turns c.args.turn.now) (turned c.args.turn.now) (slice_index_or c.args.places.now c.loop-at.at-index 0) c.args.lives.now c.loop-at.fates (search rules)
      ]) c.loop-at.invariant.rest;
  back = λ handed. elim c.if-at-fates.branch [
    | then-at-fates+in_ok-turn_at w ↦
        turned_next c.loop-at.done.items w.turn_at.new.done.items (slice_index_or c.args.places.now c.loop-at.at-index 0) c.args.lives.now handed c.loop-at.fates c.if-at-fates.fates _ _ w.turn_at.new.fate
        c.args.done.now.items (state c.args.lives.now handed c.args.fates.now) c.if-at-fates.done.items (search rules) w.fates-is refl w.turn_at.ensures.noted (c.loop-at.invariant.back handed)
    | else-at-fates w ↦
        turned_same c.loop-at.done.items c.args.lives.now handed c.loop-at.fates c.if-at-fates.fates c.args.done.now.items (state c.args.lives.now handed c.args.fates.now) c.if-at-fates.done.items (search rules) w.fates-is (c.loop-at.invariant.back handed)
  ];
}

pub returns-in_err-turn_at-clause-back : goal.returns-in_err-turn_at-clause-back
returns-in_err-turn_at-clause-back c = λ handed.
    turned_back c.loop-at.done.items c.turn_at.new.done.items (slice_index_or c.args.places.now c.loop-at.at-index 0) c.args.lives.now handed c.loop-at.fates _ _ c.turn_at.new.fate refl c.turn_at.ensures.noted
    ∙ c.loop-at.invariant.back handed

pub returns-clause-done : goal.returns-clause-done
returns-clause-done c =
    all_turned (turns c.args.turn.now) (turned c.args.turn.now) c.args.places.now c.loop-at.at-index c.args.lives.now c.args.fates.now c.loop-at.fates c.requires (search rules) c.loop-at.invariant.rest
