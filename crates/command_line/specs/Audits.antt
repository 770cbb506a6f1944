-- What is written of a log as its audit.
use Rattle.std.specs.Prelude.{◌≡◌, ◌≢◌, ◌↔◌, ℕ, ◌+◌, ◌&&◌, Bool, true, false, List, [], ◌∷◌, ◌++◌, length, map, reverse, suc}
use Rattle.std.specs.Prelude.{zero, if◌then◌else◌, is_none, MatchOption, Option, Some, None, Result, Ok, Err, codes}
use Rattle.std.specs.Fmt.{decimal}
use Rattle.std.specs.Io.KnownBytes.{Appends}
use Rattle.book_log.specs.Log.{Begins, Book, IsBadLine, IsLog, RanOut, fates_of, lives_of}
use Rattle.book_judge.specs.Broken.{IfFormed, IsBroken, KeepsGrants, first_closed, first_grants, first_sent, only_malformed}
use Rattle.book_judge.specs.Fates.{AreSuited, UnsuitedAt}
use Rattle.book_judge.specs.Lives.{AreMade, UnmadeAt}
use Rattle.book_judge.specs.Runs.{IsSomeRun, StraysAt}
use Rattle.book_judge.specs.Toward.{AreToward, UntowardAt}
use Rattle.interface.specs.Host.{Host, is_host}
use Rattle.interface.specs.Messages.{SafeMessages}
use Rattle.interface.specs.declared.crossing.Crossing.{Crossing}
use Rattle.mixed_worlds.specs.Book.{beside_among, is_among, lives_among}
use Rattle.net_sim.specs.Audit.{IsWellFormed, part_text}
use Rattle.net_sim.specs.Findings.{AreFed, ShowsCrossing, ShowsLife, ShowsMalformed, ShowsTwo, first_fed}
use Rattle.promise.specs.Fates.{ClosesWhole}
use Rattle.promise.specs.Safe.{SafePartners}
use Rattle.promise.specs.declared.life.Fate.{Fate}
use Rattle.promise.specs.declared.life.Life.{Life}
use Rattle.world_keeps_streams.specs.Sent.{EachWasSent}
use Rattle.book_judge.specs.declared.broken.Broken.{Broken}
use Rattle.net_sim.specs.declared.auditing.findings.Finding.{Finding}
use Rattle.net_sim.specs.declared.auditing.findings.Finding.TheVariants as finding
use Rattle.net_sim.specs.declared.auditing.said.Part.{Part}
use Rattle.net_sim.specs.declared.auditing.said.Part.TheVariants as part
use Rattle.command_line.specs.declared.auditing.AuditFault.{AuditFault}
use Rattle.command_line.specs.declared.verdict.Verdict.{Verdict}
use Rattle.command_line.specs.declared.verdict.Lines.{Lines}
use Rattle.command_line.specs.declared.verdict.Lines.TheVariants as lines
use Rattle.command_line.specs.declared.auditing.AuditFault.TheVariants as fault

-- ---- what is said

-- what is said of a log of a network in which these hosts are strangers, the oldest crossing first: a part that isn't
-- named holds, and of one that is it is said where it shows. A run, messages and the form are of all that the log has.
-- All else is of the lives among hosts with programs, that are neither a stranger's nor toward one, and places are
-- among these; and toward is of the others, with places among all
pub record Judged (v : Verdict) (strange : Host → Bool) (crossings : List Crossing) (lives : List Life)
    (handed : List (List Bool)) (fates : List Fate) : Type 0 where
  -- what crossed is a run of the mailboxes
  pub run : MatchOption v.stray (IsSomeRun (reverse crossings)) (λ place. StraysAt crossings place)
  -- the lives are made of what crossed before they were over
  pub made : MatchOption v.unmade (AreMade (reverse crossings) (lives_among strange lives))
      (λ n. UnmadeAt (reverse crossings) (lives_among strange lives) n)
  -- there is a list for each life, and their stamps name requests
  pub formed : MatchOption v.malformed (IsWellFormed (reverse crossings) lives handed) (λ found. ShowsMalformed found (reverse crossings) lives handed)
  -- the parts of a safe book. That a receiving life matches one sender at most is of partners
  pub messages : MatchOption v.messages (SafeMessages (reverse crossings)) (λ found. ShowsCrossing found (reverse crossings))
  pub partners : IfFormed v.malformed v.partners (SafePartners (reverse crossings) (lives_among strange lives))
      (λ found. ShowsTwo found (reverse crossings) (lives_among strange lives))
  pub streams : IfFormed v.malformed v.streams (AreFed (reverse crossings) (lives_among strange lives) (lives_among strange lives) (beside_among strange lives handed))
      (λ found. ShowsLife (first_fed (reverse crossings) (lives_among strange lives) (beside_among strange lives handed)) found (reverse crossings) (lives_among strange lives))
  -- and what was sent is within what ALLs granted
  pub grants : IfFormed v.malformed v.grants (KeepsGrants (reverse crossings) (lives_among strange lives))
      (λ found. ShowsLife (first_grants (reverse crossings) (lives_among strange lives)) found (reverse crossings) (lives_among strange lives))
  -- each message that a receiving life counts is, by its number, that of a life that it matches
  pub sent : IfFormed v.malformed v.sent (EachWasSent (reverse crossings) (lives_among strange lives))
      (λ found. ShowsLife (first_sent (reverse crossings) (lives_among strange lives)) found (reverse crossings) (lives_among strange lives))
  -- what lives that their partners ended have lost
  pub closes : IfFormed v.malformed v.closes (ClosesWhole (reverse crossings) (lives_among strange lives) (beside_among strange lives handed) (beside_among strange lives fates))
      (λ found. ShowsLife (first_closed (reverse crossings) (lives_among strange lives) (beside_among strange lives handed) (beside_among strange lives fates)) found
      (reverse crossings) (lives_among strange lives))
  -- each life has a fate that what crossed leaves it
  pub suited : MatchOption v.unsuited
      (AreSuited (reverse crossings) (lives_among strange lives) (beside_among strange lives fates))
      (λ place. UnsuitedAt (reverse crossings) (lives_among strange lives) (beside_among strange lives fates) place)
  -- no life is a stranger's, and those toward strangers took what they granted, and sent what was handed over in them
  pub toward : IfFormed v.malformed v.toward (AreToward strange lives handed)
      (λ place. UntowardAt strange lives handed place)

abbrev pub SaysOf : Verdict → List Host → Book → Type 0
SaysOf v strangers b = Judged v (λ h. is_host strangers h) b.crossings (lives_of b) b.handed (fates_of b)

-- of a log that isn't malformed nothing is named of a part just where this holds
abbrev pub TellsOf : {A : Type 0} → (Verdict → Option A) → (List Host → Book → Type 0) → Type 0
TellsOf part Holds =
    (strangers : List Host) (b : Book) (v : Verdict) → SaysOf v strangers b → v.malformed ≡ None → (part v ≡ None) ↔ Holds strangers b

-- the lives of a log among hosts with programs, with what was handed over in them and their fates
abbrev pub program_lives : List Host → Book → List Life
program_lives strangers b = lives_among (λ h. is_host strangers h) (lives_of b)

abbrev pub program_lists : List Host → Book → List (List Bool)
program_lists strangers b = beside_among (λ h. is_host strangers h) (lives_of b) b.handed

abbrev pub program_fates : List Host → Book → List Fate
program_fates strangers b = beside_among (λ h. is_host strangers h) (lives_of b) (fates_of b)

-- nothing is wrong with it
abbrev pub kept : Verdict
kept = record { stray = None; unmade = None; malformed = None; messages = None; partners = None; streams = None; grants = None; sent = None; closes = None; unsuited = None; toward = None }

-- what may be asked of the log of any host's program holds, whatever is wrong with how its lives end
abbrev pub is_safe : Verdict → Bool
is_safe v =
    is_none v.stray && is_none v.unmade && is_none v.malformed && is_none v.messages && is_none v.partners
    && is_none v.streams && is_none v.grants && is_none v.sent && is_none v.toward

-- what this program promises beyond that: how lives end, and that those which their partners ended have lost nothing
abbrev pub keeps_ends : Verdict → Bool
keeps_ends v = is_none v.closes && is_none v.unsuited

abbrev pub is_kept : Verdict → Bool
is_kept v = is_safe v && keeps_ends v

-- the same two of the log of a network with these strangers, without its verdict
pub record IsSafeLog (strangers : List Host) (b : Book) : Type 0 where
  pub run : IsSomeRun (reverse b.crossings)
  pub made : AreMade (reverse b.crossings) (program_lives strangers b)
  pub formed : IsWellFormed (reverse b.crossings) (lives_of b) b.handed
  pub messages : SafeMessages (reverse b.crossings)
  pub partners : SafePartners (reverse b.crossings) (program_lives strangers b)
  pub streams : AreFed (reverse b.crossings) (program_lives strangers b) (program_lives strangers b)
      (program_lists strangers b)
  pub grants : KeepsGrants (reverse b.crossings) (program_lives strangers b)
  pub sent : EachWasSent (reverse b.crossings) (program_lives strangers b)
  pub toward : AreToward (λ h. is_host strangers h) (lives_of b) b.handed

pub record KeepsEnds (strangers : List Host) (b : Book) : Type 0 where
  pub closes : ClosesWhole (reverse b.crossings) (program_lives strangers b) (program_lists strangers b)
      (program_fates strangers b)
  pub fates : AreSuited (reverse b.crossings) (program_lives strangers b) (program_fates strangers b)

-- ---- what is written

-- where the lines of a log are: how many strangers and crossings it has, and then of each life whether it is among
-- hosts with programs
pub record Layout : Type 0 where
  pub strangers : ℕ
  pub crossings : ℕ
  pub among : List Bool

abbrev pub layout_of : List Host → Book → Layout
layout_of strangers b = record {
  strangers = length strangers;
  crossings = length b.crossings;
  among = map (λ x. is_among (λ h. is_host strangers h) x) (lives_of b);
}

-- the place among all of the one that has this place among those that are counted; past the end all are
abbrev pub place_in : List Bool → ℕ → ℕ
place_in [] n = n
place_in (false ∷ counted) n = suc (place_in counted n)
place_in (true ∷ counted) zero = zero
place_in (true ∷ counted) (suc n) = suc (place_in counted n)

-- the line of a crossing, of a life that has a place among those that are counted, and of a list, counted from 1: first
-- come the strangers, then the crossings, then the lives, and then the lists
abbrev pub crossing_at : Layout → ℕ → ℕ
crossing_at l place = l.strangers + place + 1

abbrev pub life_at : Layout → List Bool → ℕ → ℕ
life_at l counted place = l.strangers + l.crossings + place_in counted place + 1

abbrev pub list_at : Layout → ℕ → ℕ
list_at l place = l.strangers + l.crossings + length l.among + place + 1

-- the lines of what is found of the lives that are counted
abbrev pub lines_of : Layout → List Bool → Finding → Lines
lines_of l counted (finding.Crossing place) = lines.One (crossing_at l place)
lines_of l counted (finding.Life place) = lines.One (life_at l counted place)
lines_of l counted (finding.Lives place other) = lines.Two (life_at l counted place) (life_at l counted other)
lines_of l counted (finding.List place) = lines.One (list_at l place)

abbrev pub lines_text : Lines → List ℕ
lines_text (lines.One line) = codes "line " ++ decimal line
lines_text (lines.Two line other) = codes "lines " ++ (decimal line ++ (codes " " ++ decimal other))

-- of crossings that are no run of the mailboxes, the line of the first that finds no box as it needs it
abbrev pub run_text : Layout → Option ℕ → List ℕ
run_text l None = []
run_text l (Some place) = codes "broken run line " ++ (decimal (crossing_at l place) ++ codes "\n")

-- of lives that aren't made of what crossed before they were over, the line of the first
abbrev pub lives_text : Layout → Option ℕ → List ℕ
lives_text l None = []
lives_text l (Some place) = codes "broken lives line " ++ (decimal (life_at l l.among place) ++ codes "\n")

-- of a malformed book, the line where it shows; that is of all lives
abbrev pub malformed_text : Layout → Option Finding → List ℕ
malformed_text l None = []
malformed_text l (Some found) = codes "malformed " ++ (lines_text (lines_of l [] found) ++ codes "\n")

-- of a part of a safe book that is broken, the line or the two lines where it shows
abbrev pub broken_text : Layout → Part → Option Finding → List ℕ
broken_text l p None = []
broken_text l p (Some found) =
    codes "broken " ++ (part_text p ++ (codes " " ++ (lines_text (lines_of l l.among found) ++ codes "\n")))

-- of a life that counts a message which wasn't sent so, its line and that of the life that it matches
abbrev pub sent_text : Layout → Option Finding → List ℕ
sent_text l None = []
sent_text l (Some found) = codes "broken sent " ++ (lines_text (lines_of l l.among found) ++ codes "\n")

-- of a life that its partner ended and that lost anything, its line and that of the life that it matches
abbrev pub closes_text : Layout → Option Finding → List ℕ
closes_text l None = []
closes_text l (Some found) = codes "broken closes " ++ (lines_text (lines_of l l.among found) ++ codes "\n")

-- of lives whose fates aren't such that what crossed leaves them, the line of the first
abbrev pub fates_text : Layout → Option ℕ → List ℕ
fates_text l None = []
fates_text l (Some place) = codes "broken fates line " ++ (decimal (life_at l l.among place) ++ codes "\n")

-- of lives that are a stranger's, or toward one and took or sent what they may not, the line of the first; that is of
-- all lives
abbrev pub toward_text : Layout → Option ℕ → List ℕ
toward_text l None = []
toward_text l (Some place) = codes "broken toward line " ++ (decimal (life_at l [] place) ++ codes "\n")

abbrev pub parts_text : Layout → Verdict → List ℕ
parts_text l v =
    broken_text l part.Messages v.messages ++ (broken_text l part.Partners v.partners ++ (broken_text l part.Streams v.streams ++ (broken_text l part.Grants v.grants ++ (sent_text l v.sent ++ closes_text l v.closes))))

-- the last line is a word: `kept` where nothing is wrong, `safe` where only closes or fates are
abbrev pub word_text : Verdict → List ℕ
word_text v = if is_kept v then codes "kept\n" else (if is_safe v then codes "safe\n" else [])

-- a line for each thing that is wrong, in this order, and the word
abbrev pub found_text : Layout → Verdict → List ℕ
found_text l v =
    run_text l v.stray ++ (lives_text l v.unmade ++ (malformed_text l v.malformed ++ (parts_text l v ++ (fates_text l v.unsuited ++ (toward_text l v.toward ++ word_text v)))))

abbrev pub verdict_text : List Host → Book → Verdict → List ℕ
verdict_text strangers b v = found_text (layout_of strangers b) v

-- octets are a log, and what is said of its book is written
pub record AuditsLog (octets : List ℕ) (said : Verdict) (before after : Option (List ℕ)) : Type 0 where
  pub strangers : List Host
  pub book : Book
  pub log : IsLog octets strangers book
  pub says : SaysOf said strangers book
  pub written : Appends before after (verdict_text strangers book said)

-- the same of some octets, for any reader
pub record Audited (said : Verdict) (before after : Option (List ℕ)) : Type 0 where
  pub octets : List ℕ
  pub audits : AuditsLog octets said before after

-- ---- faults

-- octets are the log of a network and its book
abbrev pub IsSomeLog : List ℕ → Type 0
IsSomeLog octets = (strangers : List Host) × (book : Book) × IsLog octets strangers book

-- when each fault may be given for these octets, where no read failed. Memory may run out as soon as there are some
abbrev pub IsAuditFault : List ℕ → AuditFault → Type 0
IsAuditFault octets (fault.BadLog number) = IsBadLine octets number
IsAuditFault octets fault.OutOfMemory = octets ≢ []
IsAuditFault octets fault.CannotWrite = IsSomeLog octets
IsAuditFault octets fault.CannotRead = ⊥

-- ---- logs that a replay wrote

-- octets are the log of a book that is kept, and what crossed in it is a run of the mailboxes
pub record IsKeptLog (octets : List ℕ) : Type 0 where
  pub strangers : List Host
  pub book : Book
  pub log : IsLog octets strangers book
  pub says : SaysOf kept strangers book

-- how the audit of such a log ends: it says `kept`. Only memory or a failed write can keep it from saying so
abbrev pub SaysKept : List ℕ → Result Verdict AuditFault → Type 0
SaysKept octets (Ok said) = said ≡ kept
SaysKept octets (Err fault.OutOfMemory) = Unit {0}
SaysKept octets (Err fault.CannotWrite) = Unit {0}
SaysKept octets (Err (fault.BadLog number)) = ⊥
SaysKept octets (Err fault.CannotRead) = ⊥

-- ---- exit statuses

-- the exit status of a fault
abbrev pub status_at : AuditFault → ℕ
status_at fault.CannotRead = 1
status_at (fault.BadLog number) = 2
status_at fault.OutOfMemory = 3
status_at fault.CannotWrite = 3

-- what standard error says of a fault
abbrev pub audit_text : AuditFault → List ℕ
audit_text fault.CannotRead = codes "arpasim: cannot read"
audit_text (fault.BadLog number) = codes "arpasim: bad log line " ++ decimal number
audit_text fault.OutOfMemory = codes "arpasim: stopped"
audit_text fault.CannotWrite = codes "arpasim: stopped"

-- the exit status after an audit
abbrev pub status_said : Verdict → ℕ
status_said v = if is_kept v then 0 else 4

-- ---- what the contracts of private functions say

-- the faults of reading octets
abbrev pub IsLogReadFault : AuditFault → Type 0
IsLogReadFault fault.CannotRead = Unit {0}
IsLogReadFault fault.OutOfMemory = Unit {0}
IsLogReadFault (fault.BadLog number) = ⊥
IsLogReadFault fault.CannotWrite = ⊥

-- the faults of octets that are no log
abbrev pub IsBookFault : List ℕ → AuditFault → Type 0
IsBookFault octets (fault.BadLog number) = IsBadLine octets number
IsBookFault octets fault.OutOfMemory = RanOut Begins octets
IsBookFault octets fault.CannotRead = ⊥
IsBookFault octets fault.CannotWrite = ⊥

-- how many of those that are counted are left before one, after one more; none where this is the one
abbrev pub passed_one : Bool → ℕ → Option ℕ
passed_one false left = Some left
passed_one true zero = None
passed_one true (suc left) = Some left

-- whether the first of a list counts: past the end all count
abbrev pub first_counts : List Bool → Bool
first_counts [] = true
first_counts (c ∷ counted) = c

-- those of a list that count
abbrev pub kept_by : {A : Type 0} → List Bool → List A → List A
kept_by {A} [] all = all
kept_by {A} (c ∷ counted) [] = []
kept_by {A} (true ∷ counted) (x ∷ all) = x ∷ kept_by counted all
kept_by {A} (false ∷ counted) (x ∷ all) = kept_by counted all

-- what is broken of the lives of a log, where it isn't malformed
abbrev pub AreParts : Option Finding → Broken → List Crossing → List Life → List (List Bool) → List Fate → Type 0
AreParts None broken log lives handed fates = IsBroken broken log lives handed fates
AreParts (Some found) broken log lives handed fates = broken ≡ only_malformed found
