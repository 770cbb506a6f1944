use Rattle.net_sim.proofs.Common.{refl, rules, arith, ◌<◌, length, ◌∙◌, life_ended, ends}
use Rattle.std.proofs.Common.{slice_index_or}
use Rattle.net_sim.proofs.Books.Counts.{counts_set}
use Rattle.net_sim.proofs.Books.Marks.{all_changed, ended_kept, kept_same, kept_set, within}
use Rattle.net_sim.proofs.Books.Places.{where_here, next_changed}
use Rattle.net_sim.proofs.Books.Undoing.{end_back}
use Rattle.net_sim.proofs.lives.end.Goals as goal

pub bounds-lives-at : goal.bounds-lives-at
bounds-lives-at c = within (ends c.args.ending.now) c.args.lives.now c.loop-at.lives c.args.places.now c.loop-at.at-index 0 c.requires c.loop-at.invariant.kept (search rules)

pub offset_bounds-lives-at : goal.offset_bounds-lives-at
offset_bounds-lives-at c =
    let at : slice_index_or c.args.places.now c.loop-at.at-index 0 < length c.loop-at.lives = within (ends c.args.ending.now) c.args.lives.now c.loop-at.lives c.args.places.now c.loop-at.at-index 0 c.requires c.loop-at.invariant.kept (search rules) in
    search (rules, at)

pub loop-at-init : goal.loop-at-init
loop-at-init c = record { rest = refl; kept = kept_same c.args.lives.now; within = λ n h. h; back = λ handed fates. refl }

pub loop-at-preserved : goal.loop-at-preserved
loop-at-preserved c = record {
  rest = next_changed (where_here (ends c.args.ending.now) life_ended) c.args.places.now c.loop-at.at-index c.loop-at.lives _ c.index-lives-at.result c.end_at.new.life (search rules) (search rules) c.loop-at.invariant.rest;
  kept = kept_set c.args.lives.now c.loop-at.lives (slice_index_or c.args.places.now c.loop-at.at-index 0) c.index-lives-at.result _ c.end_at.new.life c.loop-at.invariant.kept refl (ended_kept (slice_index_or c.args.places.now c.loop-at.at-index 0) c.loop-at.done.items c.end_at.new.done.items _ c.end_at.new.life c.end_at.ensures.noted);
  within = λ n h. counts_set n n c.loop-at.lives (slice_index_or c.args.places.now c.loop-at.at-index 0) c.end_at.new.life (omega arith) (c.loop-at.invariant.within n h) (c.end_at.ensures.within n (c.loop-at.invariant.within n h (slice_index_or c.args.places.now c.loop-at.at-index 0) c.index-lives-at.result (within (ends c.args.ending.now) c.args.lives.now c.loop-at.lives c.args.places.now c.loop-at.at-index 0 c.requires c.loop-at.invariant.kept (search rules))));
  back = λ handed fates. end_back c.loop-at.done.items c.end_at.new.done.items (slice_index_or c.args.places.now c.loop-at.at-index 0) c.loop-at.lives handed fates c.index-lives-at.result _ c.end_at.new.life refl c.end_at.ensures.noted ∙ c.loop-at.invariant.back handed fates;
}

pub returns-in_err-end_at-clause-kept : goal.returns-in_err-end_at-clause-kept
returns-in_err-end_at-clause-kept c = kept_set c.args.lives.now c.loop-at.lives (slice_index_or c.args.places.now c.loop-at.at-index 0) c.index-lives-at.result _ c.end_at.new.life c.loop-at.invariant.kept refl (ended_kept (slice_index_or c.args.places.now c.loop-at.at-index 0) c.loop-at.done.items c.end_at.new.done.items _ c.end_at.new.life c.end_at.ensures.noted)

pub returns-clause-done : goal.returns-clause-done
returns-clause-done c =
    all_changed (ends c.args.ending.now) life_ended c.args.places.now c.loop-at.at-index c.args.lives.now c.loop-at.lives c.requires (search rules) c.loop-at.invariant.rest

pub returns-clause-kept : goal.returns-clause-kept
returns-clause-kept c = c.loop-at.invariant.kept

pub returns-in_err-end_at-clause-back : goal.returns-in_err-end_at-clause-back
returns-in_err-end_at-clause-back c = λ handed fates. end_back c.loop-at.done.items c.end_at.new.done.items (slice_index_or c.args.places.now c.loop-at.at-index 0) c.loop-at.lives handed fates c.index-lives-at.result _ c.end_at.new.life refl c.end_at.ensures.noted ∙ c.loop-at.invariant.back handed fates

pub returns-clause-back : goal.returns-clause-back
returns-clause-back c = λ handed fates. c.loop-at.invariant.back handed fates

pub returns-in_err-end_at-clause-within : goal.returns-in_err-end_at-clause-within
returns-in_err-end_at-clause-within c = λ n h. counts_set n n c.loop-at.lives (slice_index_or c.args.places.now c.loop-at.at-index 0) c.end_at.new.life (omega arith) (c.loop-at.invariant.within n h) (c.end_at.ensures.within n (c.loop-at.invariant.within n h (slice_index_or c.args.places.now c.loop-at.at-index 0) c.index-lives-at.result (within (ends c.args.ending.now) c.args.lives.now c.loop-at.lives c.args.places.now c.loop-at.at-index 0 c.requires c.loop-at.invariant.kept (search rules))))

pub returns-clause-within : goal.returns-clause-within
returns-clause-within c = c.loop-at.invariant.within
