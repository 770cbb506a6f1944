use Rattle.std.proofs.Common.{refl, rules, ◌<◌, length, slice_index_or, ◌∙◌}
use Rattle.net_sim.specs.Book.{lives_at}
use Rattle.net_sim.proofs.Books.Marks.{all_handed, kept_same, within}
use Rattle.net_sim.proofs.Books.Places.{next_handed, hand_here, hand_none}
use Rattle.net_sim.proofs.Books.Undoing.{state, handed_back, handed_next, handed_same}
use Rattle.net_sim.proofs.lives.hand.Goals as goal
use Rattle.net_sim.proofs.lives.hand.Goals.{then-at-handed+in_ok-hand_at, else-at-handed}

pub bounds-lives-at : goal.bounds-lives-at
bounds-lives-at c = within (lives_at c.args.host c.args.socket) c.args.lives.now c.args.lives.now c.args.places.now c.loop-at.at-index 0 c.requires (kept_same c.args.lives.now) (search rules)

pub offset_bounds-lives-at : goal.offset_bounds-lives-at
offset_bounds-lives-at c =
    let at : slice_index_or c.args.places.now c.loop-at.at-index 0 < length c.args.lives.now = within (lives_at c.args.host c.args.socket) c.args.lives.now c.args.lives.now c.args.places.now c.loop-at.at-index 0 c.requires (kept_same c.args.lives.now) (search rules) in
    search (rules, at)

pub loop-at-preserved : goal.loop-at-preserved
loop-at-preserved c = record {
  rest = next_handed (lives_at c.args.host c.args.socket) c.args.bits.now c.args.places.now c.loop-at.at-index c.args.lives.now c.loop-at.handed c.if-at-handed.handed _ (search rules)
      (elim c.if-at-handed.branch [
        | then-at-handed+in_ok-hand_at w ↦
            w.handed-is ∙ hand_here (lives_at c.args.host c.args.socket) c.args.bits.now (slice_index_or c.args.places.now c.loop-at.at-index 0) c.args.lives.now c.loop-at.handed w.index-lives-at.result w.index-handed-at.result w.hand_at.new.handed
            (within (lives_at c.args.host c.args.socket) c.args.lives.now c.args.lives.now c.args.places.now c.loop-at.at-index 0 c.requires (kept_same c.args.lives.now) (search rules)) (search rules)
        | else-at-handed w ↦ w.handed-is ∙ hand_none (lives_at c.args.host c.args.socket) c.args.bits.now (slice_index_or c.args.places.now c.loop-at.at-index 0) c.args.lives.now c.loop-at.handed (search rules)
      ]) c.loop-at.invariant.rest;
  back = λ fates. elim c.if-at-handed.branch [
    | then-at-handed+in_ok-hand_at w ↦
        handed_next c.loop-at.done.items w.hand_at.new.done.items (slice_index_or c.args.places.now c.loop-at.at-index 0) c.args.lives.now fates c.loop-at.handed c.if-at-handed.handed w.index-handed-at.result _ w.hand_at.new.handed
        c.args.done.now.items (state c.args.lives.now c.args.handed.now fates) c.if-at-handed.done.items (search rules) w.handed-is refl w.hand_at.ensures.noted (c.loop-at.invariant.back fates)
    | else-at-handed w ↦
        handed_same c.loop-at.done.items c.args.lives.now fates c.loop-at.handed c.if-at-handed.handed c.args.done.now.items (state c.args.lives.now c.args.handed.now fates) c.if-at-handed.done.items (search rules) w.handed-is (c.loop-at.invariant.back fates)
  ];
}

pub returns-in_err-hand_at-clause-back : goal.returns-in_err-hand_at-clause-back
returns-in_err-hand_at-clause-back c = λ fates.
    handed_back c.loop-at.done.items c.hand_at.new.done.items (slice_index_or c.args.places.now c.loop-at.at-index 0) c.args.lives.now fates c.loop-at.handed c.index-handed-at.result _ c.hand_at.new.handed refl c.hand_at.ensures.noted
    ∙ c.loop-at.invariant.back fates

pub returns-clause-done : goal.returns-clause-done
returns-clause-done c =
    all_handed (lives_at c.args.host c.args.socket) c.args.bits.now c.args.places.now c.loop-at.at-index c.args.lives.now c.args.handed.now c.loop-at.handed c.requires (search rules) c.loop-at.invariant.rest
