-- The log of a book: its lines, and which octets are one.
use Rattle.std.specs.Prelude.{◌≡◌, ◌⊎◌, ℕ, ◌^◌, ◌<◌, ◌==◌, ◌||◌, Bool, true, List, [], ◌∷◌, ◌++◌, length, map, codes, suc, zip}
use Rattle.std.specs.Fmt.{decimal}
use Rattle.std.specs.List.{All, flat_map, slice_split}
use Rattle.std.specs.Str.{bytes_eq}
use Rattle.interface.specs.Host.{Host, InOrder}
use Rattle.interface.specs.Printed.{flow_text, host_text}
use Rattle.interface.specs.declared.crossing.Answer.{Answer}
use Rattle.interface.specs.declared.crossing.Answer.TheVariants as answer
use Rattle.interface.specs.declared.crossing.Crossing.{Crossing}
use Rattle.interface.specs.declared.crossing.Crossing.TheVariants as crossing
use Rattle.promise.specs.Fates.{is_over}
use Rattle.promise.specs.declared.life.Amount.{Amount}
use Rattle.promise.specs.declared.life.Fate.{Fate}
use Rattle.promise.specs.declared.life.Fate.TheVariants as fate
use Rattle.promise.specs.declared.life.Life.{Life}
use Rattle.replay.specs.InTurn.{text_of}
use Rattle.replay.specs.Output.{crossing_line}
use Rattle.replay.specs.declared.print.Detail.TheVariants.{Texts}
use Rattle.script.specs.Input.{ended_line}
use Rattle.script.specs.Spelling.{IsFlow, IsHost, IsMessage, octets_text}
use Rattle.world_replay.specs.Printed.{worded_life}
use Rattle.book_log.specs.declared.fault.LogFault.{LogFault}
use Rattle.book_log.specs.declared.fault.LogFault.TheVariants as fault

-- what a log describes: what crossed, oldest first, the lives of connections, each with its fate, and lists of bits that were handed over
pub record Book : Type 0 where
  pub crossings : List Crossing
  pub lives : List (Life × Fate)
  pub handed : List (List Bool)

abbrev pub lives_of : Book → List Life
lives_of b = map (λ (x : Life × Fate). x.0) b.lives

abbrev pub fates_of : Book → List Fate
fates_of b = map (λ (x : Life × Fate). x.1) b.lives

-- of a life that continues a log doesn't say whether somebody at its host has closed its end
abbrev pub logged_fate : Fate → Fate
logged_fate fate.Open = fate.Open
logged_fate fate.Closing = fate.Open
logged_fate fate.Closed = fate.Closed
logged_fate fate.Ended = fate.Ended
logged_fate fate.Reset = fate.Reset
logged_fate fate.Stopped = fate.Stopped

-- what a log says of lives with these fates
abbrev pub logged_book : List Crossing → List Life → List (List Bool) → List Fate → Book
logged_book crossings lives handed fates = record { crossings = crossings; lives = zip lives (map logged_fate fates); handed = handed }

-- ---- lines

-- the word of an answer. It distinguishes NotTaken from Incomplete, though a replay prints, as hosts read, one word for both
abbrev pub answer_name : Answer → List ℕ
answer_name answer.Rfnm = codes "rfnm"
answer_name answer.Incomplete = codes "incomplete"
answer_name answer.Dead = codes "dead"
answer_name answer.NotTaken = codes "nottaken"

-- a crossing with its text, as `--texts` prints it, but for that word
abbrev pub logged_line : Crossing → List ℕ
logged_line (crossing.Out m) = crossing_line Texts (crossing.Out m)
logged_line (crossing.In m) = crossing_line Texts (crossing.In m)
logged_line (crossing.Answer kind f) = codes "answer " ++ (answer_name kind ++ (codes " " ++ flow_text f))
logged_line (crossing.Down h) = crossing_line Texts (crossing.Down h)
logged_line (crossing.Up h) = crossing_line Texts (crossing.Up h)

-- the word for how far a life is, and how it ended
abbrev pub fate_name : Fate → List ℕ
fate_name fate.Open = codes "open"
fate_name fate.Closing = codes "open"
fate_name fate.Closed = codes "closed"
fate_name fate.Ended = codes "ended"
fate_name fate.Reset = codes "reset"
fate_name fate.Stopped = codes "stopped"

-- a life as `--book` prints it, but for that word, and the octets of what it sent or took
abbrev pub life_line : Life × Fate → List ℕ
life_line x = worded_life x.0 (fate_name x.1) ++ (codes " " ++ octets_text x.0.bits)

-- how many bits were handed over in a life, and their octets
abbrev pub handed_line : List Bool → List ℕ
handed_line bits = codes "handed " ++ (decimal (length bits) ++ (codes " " ++ octets_text bits))

-- the lines of a log: all crossings with their texts, then all lives, then what was handed over, and `end`
abbrev pub log_lines : Book → List (List ℕ)
log_lines b = map logged_line b.crossings ++ (map life_line b.lives ++ (map handed_line b.handed ++ codes "end" ∷ []))

-- each line has its end
abbrev pub text_of_lines : List (List ℕ) → List ℕ
text_of_lines lines = flat_map ended_line lines

abbrev pub log_text : Book → List ℕ
log_text b = text_of_lines (log_lines b)

-- ---- strangers

-- the line of a stranger: a host that runs no program of these
abbrev pub stranger_line : Host → List ℕ
stranger_line h = codes "foreign " ++ host_text h

-- what precedes the lines of a book in the log of a network with these strangers
abbrev pub strangers_text : List Host → List ℕ
strangers_text hosts = text_of stranger_line hosts

-- the lines of the log of a network: those of its strangers, and then those of its book
abbrev pub network_lines : List Host → Book → List (List ℕ)
network_lines strangers b = map stranger_line strangers ++ log_lines b

-- ---- which values a log describes

abbrev pub IsCrossing : Crossing → Type 0
IsCrossing (crossing.Out m) = IsMessage m
IsCrossing (crossing.In m) = IsMessage m
IsCrossing (crossing.Answer kind f) = IsFlow f
IsCrossing (crossing.Down h) = IsHost h
IsCrossing (crossing.Up h) = IsHost h

-- a list of fewer than 2^64 bits
abbrev pub IsHanded : List Bool → Type 0
IsHanded bits = length bits < 2 ^ 64

abbrev pub IsAmount : Amount → Type 0
IsAmount a = (a.messages < 2 ^ 128) × (a.bits < 2 ^ 128)

-- sockets have 32 bits, places and lengths 64, and counts 128; which socket sends and which receives, its line says by the socket
pub record IsLife (x : Life) : Type 0 where
  pub host : IsHost x.host
  pub socket : x.socket < 2 ^ 32
  pub peer : IsHost x.peer
  pub foreign : x.foreign < 2 ^ 32
  pub own : x.own_stamp < 2 ^ 64
  pub partner : x.partner_stamp < 2 ^ 64
  pub messages : x.messages < 2 ^ 128
  pub bits : length x.bits < 2 ^ 64
  pub granted : IsAmount x.granted
  pub returned : IsAmount x.returned

-- a life with one of the fates that have a word of their own, which says whether it is over
pub record IsLived (x : Life × Fate) : Type 0 where
  pub life : IsLife x.0
  pub logged : logged_fate x.1 ≡ x.1
  pub over : x.0.ended ≡ is_over x.1

pub record IsBook (b : Book) : Type 0 where
  pub crossings : All IsCrossing b.crossings
  pub lives : All IsLived b.lives
  pub handed : All IsHanded b.handed

-- hosts that exist, each once, by IMP and then by number
pub record AreStrangers (hosts : List Host) : Type 0 where
  pub valid : All IsHost hosts
  pub rising : InOrder hosts

-- ---- reading

-- octets are the log of a network with these strangers and this book
pub record IsLog (octets : List ℕ) (strangers : List Host) (b : Book) : Type 0 where
  pub spelled : octets ≡ strangers_text strangers ++ log_text b
  pub named : AreStrangers strangers
  pub valid : IsBook b

-- some log begins with these lines
pub record Begins (lines : List (List ℕ)) : Type 0 where
  pub strangers : List Host
  pub named : AreStrangers strangers
  pub book : Book
  pub valid : IsBook book
  pub more : List (List ℕ)
  pub whole : network_lines strangers book ≡ lines ++ more

-- the first bad line, counted from 1: some log begins with the lines before it. With it no log begins so, or it doesn't end with a line feed,
-- or it is after the last line of a log
pub record IsBadLine (octets : List ℕ) (number : ℕ) : Type 0 where
  pub before : List (List ℕ)
  pub rest : List ℕ
  pub parted : octets ≡ text_of_lines before ++ rest
  pub counted : number ≡ suc (length before)
  pub begins : Begins before
  pub bad : (line more : List ℕ) → rest ≡ ended_line line ++ more → Begins (before ++ line ∷ []) → ⊥
  pub none : (strangers : List Host) (b : Book) → IsLog octets strangers b → ⊥

-- the first word of a line with octets: a message, a life, or what was handed over
abbrev pub is_of_octets : List ℕ → Bool
is_of_octets word = bytes_eq word (codes "out") || bytes_eq word (codes "in") || bytes_eq word (codes "life") || bytes_eq word (codes "handed")

pub record HasOctets (line : List ℕ) : Type 0 where
  pub first : List ℕ
  pub others : List (List ℕ)
  pub words : slice_split (λ b. b == 32) line ≡ first ∷ others
  pub octets : is_of_octets first ≡ true

-- memory runs out at a line with octets, or at one with which such a text may begin; and some such text begins with the lines before it
pub record RanOut (BeginsWith : List (List ℕ) → Type 0) (octets : List ℕ) : Type 0 where
  pub before : List (List ℕ)
  pub line : List ℕ
  pub rest : List ℕ
  pub parted : octets ≡ text_of_lines before ++ (ended_line line ++ rest)
  pub begins : BeginsWith before
  pub wants : HasOctets line ⊎ BeginsWith (line ∷ [])

-- why octets are no log
abbrev pub IsLogFault : List ℕ → LogFault → Type 0
IsLogFault octets (fault.BadLine number) = IsBadLine octets number
IsLogFault octets fault.OutOfMemory = RanOut Begins octets
