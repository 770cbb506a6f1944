use Rattle.net_sim.proofs.Common.{refl, rules, ◌<◌, length, ◌∙◌, lives_at, grown}
use Rattle.std.proofs.Common.{slice_index_or}
use Rattle.net_sim.proofs.Books.Counts.{counts_set}
use Rattle.net_sim.proofs.Books.Marks.{all_changed, kept_same, kept_set, noted_kept, within}
use Rattle.net_sim.proofs.Books.Places.{where_here, next_changed}
use Rattle.net_sim.proofs.Books.Undoing.{noted_back}
use Rattle.net_sim.proofs.lives.grow.Goals as goal

pub bounds-lives-at : goal.bounds-lives-at
bounds-lives-at c = within (lives_at c.args.host c.args.socket) c.args.lives.now c.loop-at.lives c.args.places.now c.loop-at.at-index 0 c.requires.places c.loop-at.invariant.kept (search rules)

pub offset_bounds-lives-at : goal.offset_bounds-lives-at
offset_bounds-lives-at c =
    let at : slice_index_or c.args.places.now c.loop-at.at-index 0 < length c.loop-at.lives = within (lives_at c.args.host c.args.socket) c.args.lives.now c.loop-at.lives c.args.places.now c.loop-at.at-index 0 c.requires.places c.loop-at.invariant.kept (search rules) in
    search (rules, at)

pub grow_at-requires : goal.grow_at-requires
grow_at-requires c = c.loop-at.invariant.within (slice_index_or c.args.places.now c.loop-at.at-index 0) c.index-lives-at.result (within (lives_at c.args.host c.args.socket) c.args.lives.now c.loop-at.lives c.args.places.now c.loop-at.at-index 0 c.requires.places c.loop-at.invariant.kept (search rules))

pub loop-at-init : goal.loop-at-init
loop-at-init c = record { rest = refl; kept = kept_same c.args.lives.now; within = c.requires.within; back = λ handed fates. refl }

pub loop-at-preserved : goal.loop-at-preserved
loop-at-preserved c = record {
  rest = next_changed (where_here (lives_at c.args.host c.args.socket) (grown c.args.growth.now)) c.args.places.now c.loop-at.at-index c.loop-at.lives _ c.index-lives-at.result c.grow_at.new.life (search rules) (search rules) c.loop-at.invariant.rest;
  kept = kept_set c.args.lives.now c.loop-at.lives (slice_index_or c.args.places.now c.loop-at.at-index 0) c.index-lives-at.result _ c.grow_at.new.life c.loop-at.invariant.kept refl (noted_kept (slice_index_or c.args.places.now c.loop-at.at-index 0) c.loop-at.done.items c.grow_at.new.done.items _ c.grow_at.new.life c.grow_at.ensures.noted);
  within = counts_set c.loop-at.changes c.grow_at.new.changes c.loop-at.lives (slice_index_or c.args.places.now c.loop-at.at-index 0) c.grow_at.new.life c.grow_at.ensures.more c.loop-at.invariant.within c.grow_at.ensures.within;
  back = λ handed fates. noted_back c.loop-at.done.items c.grow_at.new.done.items (slice_index_or c.args.places.now c.loop-at.at-index 0) c.loop-at.lives handed fates c.index-lives-at.result _ c.grow_at.new.life refl c.grow_at.ensures.noted ∙ c.loop-at.invariant.back handed fates;
}

pub returns-in_err-grow_at-clause-kept : goal.returns-in_err-grow_at-clause-kept
returns-in_err-grow_at-clause-kept c = kept_set c.args.lives.now c.loop-at.lives (slice_index_or c.args.places.now c.loop-at.at-index 0) c.index-lives-at.result _ c.grow_at.new.life c.loop-at.invariant.kept refl (noted_kept (slice_index_or c.args.places.now c.loop-at.at-index 0) c.loop-at.done.items c.grow_at.new.done.items _ c.grow_at.new.life c.grow_at.ensures.noted)

pub returns-clause-done : goal.returns-clause-done
returns-clause-done c =
    all_changed (lives_at c.args.host c.args.socket) (grown c.args.growth.now) c.args.places.now c.loop-at.at-index c.args.lives.now c.loop-at.lives c.requires.places (search rules) c.loop-at.invariant.rest

pub returns-clause-kept : goal.returns-clause-kept
returns-clause-kept c = c.loop-at.invariant.kept

pub returns-in_err-grow_at-clause-back : goal.returns-in_err-grow_at-clause-back
returns-in_err-grow_at-clause-back c = λ handed fates. noted_back c.loop-at.done.items c.grow_at.new.done.items (slice_index_or c.args.places.now c.loop-at.at-index 0) c.loop-at.lives handed fates c.index-lives-at.result _ c.grow_at.new.life refl c.grow_at.ensures.noted ∙ c.loop-at.invariant.back handed fates

pub returns-clause-back : goal.returns-clause-back
returns-clause-back c = λ handed fates. c.loop-at.invariant.back handed fates

pub returns-in_err-grow_at-clause-within : goal.returns-in_err-grow_at-clause-within
returns-in_err-grow_at-clause-within c = counts_set c.loop-at.changes c.grow_at.new.changes c.loop-at.lives (slice_index_or c.args.places.now c.loop-at.at-index 0) c.grow_at.new.life c.grow_at.ensures.more c.loop-at.invariant.within c.grow_at.ensures.within

pub returns-clause-within : goal.returns-clause-within
returns-clause-within c = c.loop-at.invariant.within
