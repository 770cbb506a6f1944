-- What is kept of a world, as its moments determine it. At each moment something crosses or is asked for, and the host's program reports
-- its user what came of it (NIC 8246).
use Rattle.std.specs.Prelude.{List, [], ◌∷◌}
use Rattle.interface.specs.Host.{Host}
use Rattle.interface.specs.declared.crossing.Crossing.TheVariants as crossing
use Rattle.interface.specs.declared.crossing.Inbound.TheVariants as inbound
use Rattle.host_pairs.specs.declared.notice.Notice.{Notice}
use Rattle.sockets.specs.Accepting.{accepted}
use Rattle.sockets.specs.Requests.{served_notices}
use Rattle.sockets.specs.Sending.{offered}
use Rattle.net_sim.specs.Book.{Kept, opening_kept, crossed, asked, all_told}
use Rattle.net_sim.specs.Story.{Moment, Crossed, Asked, places, program}

-- whose program acts
abbrev pub host_in : Moment → Host
host_in (Crossed (crossing.Out m)) = m.flow.source
host_in (Crossed (crossing.In m)) = m.flow.destination
host_in (Crossed (crossing.Answer kind f)) = f.source
host_in (Crossed (crossing.Down h)) = h
host_in (Crossed (crossing.Up h)) = h
host_in (Asked h r) = h

-- the notices to the host's user at a moment, after older moments
abbrev pub notices_by : Moment → List Moment → List Notice
notices_by (Crossed (crossing.Out m)) moments = (offered (program m.flow.source moments) (places moments)).1
notices_by (Crossed (crossing.In m)) moments = (accepted (program m.flow.destination moments) (inbound.Message m) (places moments)).1
notices_by (Crossed (crossing.Answer kind f)) moments = (accepted (program f.source moments) (inbound.Answer kind f) (places moments)).1
notices_by (Crossed (crossing.Down h)) moments = []
notices_by (Crossed (crossing.Up h)) moments = []
notices_by (Asked h r) moments = served_notices (program h moments) r

-- the moment itself is kept: its crossing, or its request
abbrev pub kept_by : Moment → Kept → Kept
kept_by (Crossed c) k = crossed c k
kept_by (Asked h r) k = asked h r k

-- all that is kept of these moments, except for what services report
abbrev pub kept_in : List Moment → Kept
kept_in [] = opening_kept
kept_in (x ∷ moments) = all_told (host_in x) (notices_by x moments) (kept_by x (kept_in moments))

-- what is kept, except for what services reported
abbrev pub without_reports : Kept → Kept
without_reports k = record k { book = record k.book { reports = [] } }
