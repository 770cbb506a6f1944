use Rattle.net_sim.proofs.Resets.StoryLemmas.{story_agrees, program_own}
use Rattle.net_sim.proofs.law.stories.Goals as goal

pub returns-clause-agrees : goal.returns-clause-agrees
returns-clause-agrees c = story_agrees

pub returns-clause-own : goal.returns-clause-own
returns-clause-own c = λ moments a. program_own a moments
