-- How refusals of a world, the notices to a user, what services report and the lives of connections are printed.
use Rattle.std.specs.Prelude.{ℕ, ◌%◌, ◌==◌, Bool, true, false, List, [], ◌∷◌, ◌++◌, length, map, codes, if◌then◌else◌}
use Rattle.std.specs.Fmt.{decimal}
use Rattle.host_services.specs.declared.report.Report.{Report}
use Rattle.host_services.specs.declared.report.Report.TheVariants as report
use Rattle.host_services.specs.declared.report.Reported.{Reported}
use Rattle.icp.specs.declared.outcome.Failure.{Failure}
use Rattle.icp.specs.declared.outcome.Failure.TheVariants as failure
use Rattle.icp.specs.declared.outcome.Outcome.{Outcome}
use Rattle.icp.specs.declared.outcome.Outcome.TheVariants as outcome
use Rattle.interface.specs.Host.{Host}
use Rattle.interface.specs.Printed.{host_text}
use Rattle.promise.specs.declared.book.Told.{Told}
use Rattle.promise.specs.declared.life.Life.{Life}
use Rattle.net_sim.specs.declared.event.WorldFault.{WorldFault}
use Rattle.net_sim.specs.declared.event.WorldFault.TheVariants.{Carrier, HasProgram, NoProgram, Program}
use Rattle.replay.specs.Output.{fault_name}
use Rattle.sockets.specs.declared.fault.NcpFault.{NcpFault}
use Rattle.sockets.specs.declared.fault.NcpFault.TheVariants as problem
use Rattle.terminal.specs.Lines.{is_printable}
use Rattle.host_pairs.specs.declared.notice.Notice.{Notice}
use Rattle.host_pairs.specs.declared.notice.Notice.TheVariants as notice

-- words with single spaces between
abbrev pub words : List (List ℕ) → List ℕ
words [] = []
words (w ∷ []) = w
words (w ∷ v ∷ more) = w ++ (codes " " ++ words (v ∷ more))

-- ---- refusals

-- the name of a refusal by a host's program
abbrev pub problem_name : NcpFault → List ℕ
problem_name problem.NotContacted = codes "NotContacted"
problem_name problem.WrongEnd = codes "WrongEnd"
problem_name problem.InUse = codes "InUse"
problem_name problem.NoSuchSocket = codes "NoSuchSocket"
problem_name problem.NotOpen = codes "NotOpen"
problem_name problem.BadSize = codes "BadSize"
problem_name problem.Closing = codes "Closing"
problem_name problem.NoLink = codes "NoLink"
problem_name problem.OverGrant = codes "OverGrant"
problem_name problem.OutOfMemory = codes "OutOfMemory"

-- a refusal is its name only, whoever refused
abbrev pub refusal_name : WorldFault → List ℕ
refusal_name (Carrier f) = fault_name f
refusal_name (Program f) = problem_name f
refusal_name NoProgram = codes "NoProgram"
refusal_name HasProgram = codes "HasProgram"

abbrev pub refusal_text : WorldFault → List ℕ
refusal_text f = words (codes "refused" ∷ refusal_name f ∷ [])

-- ---- the notices to a user

-- a word for what it is, the host, and what it is about; of bits only their number is printed
abbrev pub notice_text : Host → Notice → List ℕ
notice_text h (notice.Ready peer) = words (codes "ready" ∷ host_text h ∷ host_text peer ∷ [])
notice_text h (notice.ContactFailed peer) = words (codes "contactfailed" ∷ host_text h ∷ host_text peer ∷ [])
notice_text h (notice.PairReset peer) = words (codes "pairreset" ∷ host_text h ∷ host_text peer ∷ [])
notice_text h (notice.Opened socket peer foreign own partner) = words (codes "opened" ∷ host_text h ∷ decimal socket ∷ host_text peer ∷ decimal foreign ∷ [])
notice_text h (notice.Ended socket peer foreign) = words (codes "ended" ∷ host_text h ∷ decimal socket ∷ host_text peer ∷ decimal foreign ∷ [])
notice_text h (notice.Sent socket bits) = words (codes "sent" ∷ host_text h ∷ decimal socket ∷ decimal (length bits) ∷ [])
notice_text h (notice.Arrived socket bits) = words (codes "arrived" ∷ host_text h ∷ decimal socket ∷ decimal (length bits) ∷ [])
notice_text h (notice.Returned socket messages bits) = words (codes "returned" ∷ host_text h ∷ decimal socket ∷ decimal messages ∷ decimal bits ∷ [])
notice_text h (notice.Interrupt socket) = words (codes "interrupt" ∷ host_text h ∷ decimal socket ∷ [])
notice_text h (notice.Echoed peer octet) = words (codes "echoed" ∷ host_text h ∷ host_text peer ∷ decimal octet ∷ [])
notice_text h (notice.RemoteError peer code detail) = words (codes "error" ∷ host_text h ∷ host_text peer ∷ decimal code ∷ [])

abbrev pub told_text : Told → List ℕ
told_text t = notice_text t.host t.notice

-- ---- what services report

-- why an initial connection failed, by its name; which request the own host's program refused, and why, isn't printed
abbrev pub reason_name : Failure → List ℕ
reason_name failure.Refused = codes "refused"
reason_name failure.Reset = codes "reset"
reason_name failure.Stranger = codes "stranger"
reason_name failure.BadSocket = codes "badsocket"
reason_name (failure.Local f) = codes "local"

-- who comes to the outcome, its host, and the own sockets, the one that receives first, or the reason
abbrev pub outcome_text : List ℕ → Host → Outcome → List ℕ
outcome_text who h (outcome.Done receive send) = words (codes "done" ∷ who ∷ host_text h ∷ decimal receive ∷ decimal send ∷ [])
outcome_text who h (outcome.Failed f) = words (codes "failed" ∷ who ∷ host_text h ∷ reason_name f ∷ [])

-- an octet of a line is printed as it is, and as a question mark if it is no printing character of ASCII
abbrev pub shown_octet : ℕ → ℕ
shown_octet octet = if is_printable octet then octet else 63

-- the text of a line is printed whole, after the terminal's host and a space
abbrev pub report_text : Host → Report → List ℕ
report_text h (report.Server o) = outcome_text (codes "server") h o
report_text h (report.User o) = outcome_text (codes "user") h o
report_text h (report.Line text) = words (codes "line" ∷ host_text h ∷ map shown_octet text ∷ [])

abbrev pub reported_text : Reported → List ℕ
reported_text r = report_text r.host r.report

-- ---- lives

-- a receiving end has an even socket, a sending end an odd one (NIC 8246)
abbrev pub kind_text : ℕ → List ℕ
kind_text socket = if socket % 2 == 0 then codes "receive" else codes "send"

abbrev pub state_text : Bool → List ℕ
state_text true = codes "ended"
state_text false = codes "open"

-- both ends, the host's own first, and the places of their requests in the log; its kind; the messages and bits that it has
-- carried, that were granted and that were returned; and a word for how far it is
abbrev pub worded_life : Life → List ℕ → List ℕ
worded_life x word =
    words (codes "life" ∷ host_text x.host ∷ decimal x.socket ∷ host_text x.peer ∷ decimal x.foreign ∷ decimal x.own_stamp ∷ decimal x.partner_stamp
    ∷ kind_text x.socket ∷ decimal x.messages ∷ decimal (length x.bits) ∷ decimal x.granted.messages ∷ decimal x.granted.bits
    ∷ decimal x.returned.messages ∷ decimal x.returned.bits ∷ word ∷ [])

-- a book only says whether it has ended
abbrev pub life_text : Life → List ℕ
life_text x = worded_life x (state_text x.ended)
