use Rattle.flow_law.proofs.Common.{[], Contains, contains_none}
use Rattle.flow_law.proofs.FollowLemmas.{all_follow, all_open, sound_log, sound_run, passed_over-append}
use Rattle.flow_law.proofs.StepLemmas.{one_follows, silent_follows}
use Rattle.flow_law.proofs.law.interface.Goals as goal

pub returns-clause-opening : goal.returns-clause-opening
returns-clause-opening c = λ test hosts view o. all_open hosts view (λ f. Contains []) o (λ f. contains_none)

pub returns-clause-kept : goal.returns-clause-kept
returns-clause-kept c = λ test hosts entries log moves old new before left a h.
    all_follow hosts entries log moves old new (λ f. Contains (before f)) (λ f. Contains (left f)) a h

pub returns-clause-one : goal.returns-clause-one
returns-clause-one c = λ test hosts entries log g moves old new before left ups o h.
    one_follows hosts entries log g moves old new (λ f. Contains (before f)) (λ f. Contains (left f)) ups o h

pub returns-clause-sound : goal.returns-clause-sound
returns-clause-sound c = λ test hosts log view alive h. sound_log hosts log view (λ f. Contains (alive f)) h

pub returns-clause-run : goal.returns-clause-run
returns-clause-run c = λ test hosts log view alive h. sound_run hosts log view (λ f. Contains (alive f)) h

pub returns-clause-silent : goal.returns-clause-silent
returns-clause-silent c = λ test hosts log old new before left same less h. silent_follows hosts log old new (λ f. Contains (before f)) (λ f. Contains (left f)) same less h

pub returns-clause-appended : goal.returns-clause-appended
returns-clause-appended c = passed_over-append
