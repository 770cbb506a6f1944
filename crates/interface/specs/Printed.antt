-- How hosts, flows and crossings are printed.
use Rattle.std.specs.Prelude.{ℕ, List, ◌++◌, length, codes}
use Rattle.std.specs.Fmt.{decimal}
use Rattle.interface.specs.Host.{Host}
use Rattle.interface.specs.declared.address.Flow.{Flow}
use Rattle.interface.specs.declared.crossing.Answer.{Answer}
use Rattle.interface.specs.declared.crossing.Answer.TheVariants as answer
use Rattle.interface.specs.declared.crossing.Crossing.{Crossing}
use Rattle.interface.specs.declared.crossing.Crossing.TheVariants as crossing

-- a host is its number, a slash, and its IMP's number
abbrev pub host_text : Host → List ℕ
host_text h = decimal h.host ++ (codes "/" ++ decimal h.imp)

-- a flow is its source, its destination and its link, with spaces between
abbrev pub flow_text : Flow → List ℕ
flow_text f = host_text f.source ++ (codes " " ++ (host_text f.destination ++ (codes " " ++ decimal f.link.0)))

abbrev pub answer_text : Answer → List ℕ
answer_text answer.Rfnm = codes "rfnm"
answer_text answer.Incomplete = codes "incomplete"
answer_text answer.Dead = codes "dead"
answer_text answer.NotTaken = codes "incomplete"

-- a crossing is a word for what crossed, and what it was about; of a text only the number of bits is printed
abbrev pub crossing_text : Crossing → List ℕ
crossing_text (crossing.Out m) = codes "out " ++ (flow_text m.flow ++ (codes " " ++ decimal (length m.text)))
crossing_text (crossing.In m) = codes "in " ++ (flow_text m.flow ++ (codes " " ++ decimal (length m.text)))
crossing_text (crossing.Answer kind f) = codes "answer " ++ (answer_text kind ++ (codes " " ++ flow_text f))
crossing_text (crossing.Down h) = codes "down " ++ host_text h
crossing_text (crossing.Up h) = codes "up " ++ host_text h
