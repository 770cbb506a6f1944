-- What the contracts of private functions say. No public clause cites this file.
use Rattle.std.specs.Prelude.{◌≡◌, ◌≢◌, ℕ, suc, ◌+◌, ◌^◌, ◌<◌, ◌==◌, ◌&&◌, ◌||◌, ◌⊎◌, nat_lt, Bool, true, false, List, []}
use Rattle.std.specs.Prelude.{◌∷◌, ◌++◌, length, slice_index_or, codes, Option, Some, None, Result, Ok, Err}
use Rattle.std.specs.Prelude.{if◌then◌else◌}
use Rattle.std.specs.Borrow.{Bor}
use Rattle.std.specs.Fmt.{decimal}
use Rattle.std.specs.List.{slice_split}
use Rattle.bit_messages.specs.Octets.{octet}
use Rattle.interface.specs.Host.{Host, host_before}
use Rattle.interface.specs.Printed.{host_text}
use Rattle.interface.specs.declared.address.Flow.{Flow}
use Rattle.interface.specs.declared.crossing.Answer.{Answer}
use Rattle.interface.specs.declared.crossing.Crossing.TheVariants as crossing
use Rattle.interface.specs.declared.message.HostMessage.{HostMessage}
use Rattle.promise.specs.declared.life.Amount.{Amount}
use Rattle.promise.specs.Fates as fates
use Rattle.promise.specs.declared.life.Fate.{Fate}
use Rattle.promise.specs.declared.life.Life.{Life}
use Rattle.script.specs.Input.{ended_line}
use Rattle.script.specs.Spelling.{IsFlow, IsHost, octets_text}
use Rattle.std.specs.declared.alloc.AllocError.{AllocError}
use Rattle.world_replay.specs.Printed.{kind_text}
use Rattle.book_log.specs.Log.{Book, IsAmount, IsBook, IsCrossing, IsHanded, IsLived, RanOut, answer_name, fate_name}
use Rattle.book_log.specs.Log.{handed_line, life_line, log_lines}
use Rattle.book_log.specs.Log.{log_text, logged_fate, logged_line, stranger_line, strangers_text, text_of_lines}
use Rattle.book_log.specs.declared.fault.LogFault.{LogFault}
use Rattle.book_log.specs.declared.fault.LogFault.TheVariants as fault
use Rattle.book_log.specs.declared.lines.Counts.{Counts}
use Rattle.book_log.specs.declared.lines.Ends.{Ends}
use Rattle.book_log.specs.declared.lines.Line.{Line}
use Rattle.book_log.specs.declared.lines.Line.TheVariants as line
use Rattle.book_log.specs.declared.words.Words.{Words}

-- ---- octets

-- the octet of the eight bits from a place on; past the end they are zeros
abbrev pub octet_at : ℕ → List Bool → ℕ
octet_at from bits =
    octet (bit from bits 0) (bit from bits 1) (bit from bits 2) (bit from bits 3) (bit from bits 4) (bit from bits 5) (bit from bits 6) (bit from bits 7)
  where
    bit : ℕ → List Bool → ℕ → Bool
    bit from bits k = slice_index_or bits (from + k) false

-- ---- words

-- the words of a text, with one space between each two
abbrev pub words_in : List ℕ → List (List ℕ)
words_in text = slice_split (λ b. b == 32) text

-- the words that are left
abbrev pub words_behind : Option (Bor (List ℕ)) → List (List ℕ)
words_behind None = []
words_behind (Some text) = words_in text.now

abbrev pub words_left : Words → List (List ℕ)
words_left w = words_behind w.rest

abbrev pub is_over : List (List ℕ) → Bool
is_over [] = true
is_over (w ∷ words) = false

-- the first words spell this value, which is valid, and others are left; `None` where they spell no valid one
abbrev pub TakesWords : {X : Type 0} → (X → List (List ℕ)) → (X → Type 0) → List (List ℕ) → Option X → List (List ℕ) → Type 0
TakesWords {X} spelled IsMeant old (Some x) new = (old ≡ spelled x ++ new) × IsMeant x
TakesWords {X} spelled IsMeant old None new = (x : X) (rest : List (List ℕ)) → IsMeant x → old ≢ spelled x ++ rest

abbrev pub TakesAs : {X : Type 0} → (X → List ℕ) → (X → Type 0) → List (List ℕ) → Option X → List (List ℕ) → Type 0
TakesAs {X} spelled IsMeant old (Some x) new = (old ≡ spelled x ∷ new) × IsMeant x
TakesAs {X} spelled IsMeant old None new = (x : X) (rest : List (List ℕ)) → IsMeant x → old ≢ spelled x ∷ rest

-- all words spell this value
abbrev pub ReadsWords : {X : Type 0} → (X → List (List ℕ)) → (X → Type 0) → List (List ℕ) → Option X → Type 0
ReadsWords {X} spelled IsMeant words (Some x) = (words ≡ spelled x) × IsMeant x
ReadsWords {X} spelled IsMeant words None = (x : X) → IsMeant x → words ≢ spelled x

-- a word that is no number by its first octet: it is empty, has a sign, or has a zero before other digits
abbrev pub begins_wrong : List ℕ → Bool
begins_wrong [] = true
begins_wrong (c ∷ cs) = c == 43 || (c == 48 && nat_lt 0 (length cs))

-- ---- the words of values

abbrev pub flow_words : Flow → List (List ℕ)
flow_words f = host_text f.source ∷ host_text f.destination ∷ decimal f.link.0 ∷ []

abbrev pub message_words : HostMessage → List (List ℕ)
message_words m = host_text m.flow.source ∷ host_text m.flow.destination ∷ decimal m.flow.link.0 ∷ decimal (length m.text) ∷ octets_text m.text ∷ []

abbrev pub answer_words : Answer × Flow → List (List ℕ)
answer_words a = answer_name a.0 ∷ host_text a.1.source ∷ host_text a.1.destination ∷ decimal a.1.link.0 ∷ []

abbrev pub IsAnswer : Answer × Flow → Type 0
IsAnswer a = IsFlow a.1

abbrev pub handed_words : List Bool → List (List ℕ)
handed_words bits = decimal (length bits) ∷ octets_text bits ∷ []

abbrev pub amount_words : Amount → List (List ℕ)
amount_words a = decimal a.messages ∷ decimal a.bits ∷ []

abbrev pub life_words : Life × Fate → List (List ℕ)
life_words x =
    host_text x.0.host ∷ decimal x.0.socket ∷ host_text x.0.peer ∷ decimal x.0.foreign ∷ decimal x.0.own_stamp ∷ decimal x.0.partner_stamp
    ∷ kind_text x.0.socket ∷ decimal x.0.messages ∷ decimal (length x.0.bits) ∷ decimal x.0.granted.messages ∷ decimal x.0.granted.bits
    ∷ decimal x.0.returned.messages ∷ decimal x.0.returned.bits ∷ fate_name x.1 ∷ octets_text x.0.bits ∷ []

abbrev pub host_words : Host → List (List ℕ)
host_words h = host_text h ∷ []

-- every answer has a word
abbrev pub IsKind : Answer → Type 0
IsKind kind = Unit {0}

-- a fate that has a word of its own
abbrev pub IsFate : Fate → Type 0
IsFate f = logged_fate f ≡ f

-- the words of a life, in three parts
abbrev pub ends_words : Ends → List (List ℕ)
ends_words e =
    host_text e.host ∷ decimal e.socket ∷ host_text e.peer ∷ decimal e.foreign ∷ decimal e.own_stamp ∷ decimal e.partner_stamp ∷ kind_text e.socket ∷ []

pub record AreEnds (e : Ends) : Type 0 where
  pub host : IsHost e.host
  pub socket : e.socket < 2 ^ 32
  pub peer : IsHost e.peer
  pub foreign : e.foreign < 2 ^ 32
  pub own : e.own_stamp < 2 ^ 64
  pub partner : e.partner_stamp < 2 ^ 64

abbrev pub counts_words : Counts → List (List ℕ)
counts_words k = decimal k.messages ∷ decimal k.bits ∷ amount_words k.granted ++ (amount_words k.returned ++ fate_name k.fate ∷ [])

pub record AreCounts (k : Counts) : Type 0 where
  pub messages : k.messages < 2 ^ 128
  pub bits : k.bits < 2 ^ 64
  pub granted : IsAmount k.granted
  pub returned : IsAmount k.returned
  pub fate : IsFate k.fate

abbrev pub life_of : Ends → Counts → List Bool → Life
life_of e k bits = record {
  host = e.host;
  socket = e.socket;
  peer = e.peer;
  foreign = e.foreign;
  own_stamp = e.own_stamp;
  partner_stamp = e.partner_stamp;
  bits = bits;
  messages = k.messages;
  granted = k.granted;
  returned = k.returned;
  ended = fates.is_over k.fate;
}

-- the words of a line
abbrev pub line_words : Line → List (List ℕ)
line_words (line.Crossed (crossing.Out m)) = codes "out" ∷ message_words m
line_words (line.Crossed (crossing.In m)) = codes "in" ∷ message_words m
line_words (line.Crossed (crossing.Answer kind f)) = codes "answer" ∷ answer_words (kind, f)
line_words (line.Crossed (crossing.Down h)) = codes "down" ∷ host_words h
line_words (line.Crossed (crossing.Up h)) = codes "up" ∷ host_words h
line_words (line.Lived x f) = codes "life" ∷ life_words (x, f)
line_words (line.Handed bits) = codes "handed" ∷ handed_words bits
line_words line.End = codes "end" ∷ []

-- the lines without octets
abbrev pub IsShort : Line → Type 0
IsShort (line.Crossed (crossing.Out m)) = ⊥
IsShort (line.Crossed (crossing.In m)) = ⊥
IsShort (line.Crossed (crossing.Answer kind f)) = IsFlow f
IsShort (line.Crossed (crossing.Down h)) = IsHost h
IsShort (line.Crossed (crossing.Up h)) = IsHost h
IsShort (line.Lived x f) = ⊥
IsShort (line.Handed bits) = ⊥
IsShort line.End = Unit {0}

-- ---- lines without octets

-- a crossing without a text, or the last line, by the first word and those after it
abbrev pub ReadsShort : List ℕ → List (List ℕ) → Option Line → Type 0
ReadsShort first left r = ReadsWords line_words IsShort (first ∷ left) r

-- ---- books

abbrev pub opening_book : Book
opening_book = record { crossings = []; lives = []; handed = [] }

-- whether a list has no elements
abbrev pub is_bare : {X : Type 0} → List X → Bool
is_bare [] = true
is_bare (x ∷ xs) = false

-- a book with what a line describes at its end; none where the line may not be there
abbrev pub added : Line → Book → Option Book
added (line.Crossed c) b = if is_bare b.lives && is_bare b.handed then Some (record b { crossings = b.crossings ++ c ∷ [] }) else None
added (line.Lived x f) b = if is_bare b.handed then Some (record b { lives = b.lives ++ (x, f) ∷ [] }) else None
added (line.Handed bits) b = Some (record b { handed = b.handed ++ bits ∷ [] })
added line.End b = None

abbrev pub Adds : Line → Book → Result Bool AllocError → Book → Type 0
Adds l old (Ok true) new = added l old ≡ Some new
Adds l old (Ok false) new = (added l old ≡ None) × (new ≡ old)
Adds l old (Err e) new = Unit {0}

-- ---- one line

abbrev pub line_text : Line → List ℕ
line_text (line.Crossed c) = logged_line c
line_text (line.Lived x f) = life_line (x, f)
line_text (line.Handed bits) = handed_line bits
line_text line.End = codes "end"

abbrev pub IsLine : Line → Type 0
IsLine (line.Crossed c) = IsCrossing c
IsLine (line.Lived x f) = IsLived (x, f)
IsLine (line.Handed bits) = IsHanded bits
IsLine line.End = Unit {0}

-- ---- the lines of a book, without those of strangers

-- octets are the text of this book
pub record IsBookText (octets : List ℕ) (b : Book) : Type 0 where
  pub spelled : octets ≡ log_text b
  pub valid : IsBook b

-- the text of some book begins with these lines
pub record BeginsBook (lines : List (List ℕ)) : Type 0 where
  pub book : Book
  pub valid : IsBook book
  pub more : List (List ℕ)
  pub whole : log_lines book ≡ lines ++ more

-- the first line that is bad in the text of a book, counted from 1
pub record IsBadBookLine (octets : List ℕ) (number : ℕ) : Type 0 where
  pub before : List (List ℕ)
  pub rest : List ℕ
  pub parted : octets ≡ text_of_lines before ++ rest
  pub counted : number ≡ suc (length before)
  pub begins : BeginsBook before
  pub bad : (line more : List ℕ) → rest ≡ ended_line line ++ more → BeginsBook (before ++ line ∷ []) → ⊥
  pub none : (b : Book) → IsBookText octets b → ⊥

abbrev pub IsBookFault : List ℕ → LogFault → Type 0
IsBookFault octets (fault.BadLine number) = IsBadBookLine octets number
IsBookFault octets fault.OutOfMemory = RanOut BeginsBook octets

-- a fault of the lines after this many, as one of all lines; its number has 64 bits
abbrev pub fault_after : ℕ → LogFault → LogFault
fault_after before (fault.BadLine number) = fault.BadLine (before + number)
fault_after before fault.OutOfMemory = fault.OutOfMemory

abbrev pub FitsAfter : ℕ → LogFault → Type 0
FitsAfter before (fault.BadLine number) = before + number < 2 ^ 64
FitsAfter before fault.OutOfMemory = Unit {0}

-- ---- the lines of strangers

-- whether a stranger may come after the last one that was named
abbrev pub follows : Option Host → Host → Bool
follows None h = true
follows (Some last) h = host_before last h

-- hosts that exist, each of which may come after the one before it, and the first of them after this one
abbrev pub NamedAfter : Option Host → List Host → Type 0
NamedAfter last [] = Unit {0}
NamedAfter last (h ∷ hosts) = IsHost h × (follows last h ≡ true) × NamedAfter (Some h) hosts

-- the last of them
abbrev pub last_of : Option Host → List Host → Option Host
last_of last [] = last
last_of last (h ∷ hosts) = last_of (Some h) hosts

-- a text doesn't begin with the line of a stranger that may come after this one
abbrev pub NamesNone : Option Host → List ℕ → Type 0
NamesNone last text =
    (h : Host) (more : List ℕ) → IsHost h → follows last h ≡ true → text ≢ ended_line (stranger_line h) ++ more

-- a text begins with the line of this stranger, which may come after the last one; or with none
abbrev pub NamesNext : Option Host → List ℕ → Option (Host × Bor (List ℕ)) → Type 0
NamesNext last text None = NamesNone last text
NamesNext last text (Some next) =
    (text ≡ ended_line (stranger_line next.0) ++ next.1.now) × IsHost next.0 × (follows last next.0 ≡ true)

-- a text begins with the lines of these strangers, and with no others
pub record Names (text : List ℕ) (strangers : List Host) (left : List ℕ) : Type 0 where
  pub parted : text ≡ strangers_text strangers ++ left
  pub named : NamedAfter None strangers
  pub none : NamesNone (last_of None strangers) left

-- a text begins with the lines of these strangers, and then with that of this one
pub record NamesMore (text : List ℕ) : Type 0 where
  pub strangers : List Host
  pub next : Host
  pub rest : List ℕ
  pub parted : text ≡ strangers_text strangers ++ (ended_line (stranger_line next) ++ rest)
  pub named : NamedAfter None strangers
  pub meant : IsHost next
