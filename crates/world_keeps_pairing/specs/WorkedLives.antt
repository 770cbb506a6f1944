-- Small lists of moments, newest first: words for worked examples.
use Rattle.std.specs.Prelude.{List, ◌∷◌}
use Rattle.interface.specs.declared.crossing.Crossing.TheVariants as crossing
use Rattle.sockets.specs.Worked.{first, second}
use Rattle.sockets.specs.declared.request.Request.TheVariants as request
use Rattle.net_sim.specs.Story.{Moment, Crossed, Asked}
use Rattle.net_sim.specs.WorkedMoments.{answered_moment, contacted, rts, str}

-- after a contact the first host asks for a connection to its socket 16, and closes it before the STR that answers is taken
abbrev pub closed_early : List Moment
closed_early =
    Crossed (crossing.In str) ∷ answered_moment first second ∷ Crossed (crossing.Out str) ∷ Crossed (crossing.In rts) ∷ Asked first (request.Close 16)
    ∷ Crossed (crossing.Out rts) ∷ Asked first (request.OpenReceive second 16 33) ∷ Asked second (request.Listen 33 8) ∷ contacted
