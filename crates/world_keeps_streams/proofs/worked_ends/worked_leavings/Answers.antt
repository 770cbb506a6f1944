use Rattle.std.proofs.Common.{◌≡◌, true, false, refl}
use Rattle.world_keeps_streams.proofs.worked_ends.worked_leavings.Goals as goal

pub returns-clause-open : goal.returns-clause-open
returns-clause-open c = refl

pub returns-clause-closing : goal.returns-clause-closing
returns-clause-closing c = tt

pub returns-clause-ended : goal.returns-clause-ended
returns-clause-ended c = refl

pub returns-clause-closed : goal.returns-clause-closed
returns-clause-closed c = tt

pub returns-clause-own_first : goal.returns-clause-own_first
returns-clause-own_first c = tt

pub returns-clause-reset : goal.returns-clause-reset
returns-clause-reset c = tt

pub returns-clause-stopped : goal.returns-clause-stopped
returns-clause-stopped c = tt

pub returns-clause-unclosed : goal.returns-clause-unclosed
returns-clause-unclosed c h = absurd (let no : true ≡ false = h in cc)

pub returns-clause-unended : goal.returns-clause-unended
returns-clause-unended c h = absurd (let no : true ≡ false = h in cc)

pub returns-clause-early : goal.returns-clause-early
returns-clause-early c h = h

pub returns-clause-late : goal.returns-clause-late
returns-clause-late c h = h

pub returns-clause-restarted : goal.returns-clause-restarted
returns-clause-restarted c h = h

pub returns-clause-dropped : goal.returns-clause-dropped
returns-clause-dropped c h = h

pub returns-clause-asking : goal.returns-clause-asking
returns-clause-asking c f h = h
