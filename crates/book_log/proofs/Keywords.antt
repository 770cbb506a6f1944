-- Lines as words: a keyword, and what follows it.
use Rattle.book_log.proofs.Common.{decimal, join_with_byte, bytes_eq, Host, Flow, Answer, HostMessage, Fate, Life, IsFlow, IsHost, IsMessage, ReadsAs, octets_text, Lacks, unmarked_where, Line}
use Rattle.std.proofs.Common.{◌≡◌, ◌≢◌, ℕ, ◌<◌, ◌≤◌, ◌^◌, ◌==◌, ◌%◌, Bool, true, false, List, [], ◌∷◌, ◌++◌, Option, Some, None, codes, length, refl, sym, ap, ◌∙◌, arith, subst, append_assoc, append-nil, if◌then◌else◌}
use Rattle.interface.specs.Printed.{host_text, crossing_text, flow_text}
use Rattle.world_replay.specs.Printed.{kind_text, words}
use Rattle.book_log.specs.Log.{IsHanded, IsLived, answer_name, fate_name}
use Rattle.book_log.specs.Steps.{IsLine, flow_words, handed_words, life_words, line_text, message_words, words_in, IsAnswer, IsShort, ReadsShort, answer_words, host_words, line_words}
use Rattle.interface.specs.declared.crossing.Answer.TheVariants as answer
use Rattle.interface.specs.declared.crossing.Crossing.TheVariants as crossing
use Rattle.promise.specs.declared.life.Fate.TheVariants as fate
use Rattle.book_log.specs.declared.lines.Line.TheVariants as line
use Rattle.book_log.proofs.Numbers.{number_word}
use Rattle.book_log.proofs.Cuts.{AreWords, IsWord, cut_again, first_same, host_word, joined_again, joined_ends, octets_word, rest_same}

-- ---- a keyword, and an operand of its kind

pub data Kind : Type 0 where
  Outs : Kind
  Ins : Kind
  Answers : Kind
  Downs : Kind
  Ups : Kind
  Lives : Kind
  Lists : Kind
  Ends : Kind

abbrev pub OperandOf : Kind → Type 0
OperandOf Outs = HostMessage
OperandOf Ins = HostMessage
OperandOf Answers = Answer × Flow
OperandOf Downs = Host
OperandOf Ups = Host
OperandOf Lives = Life × Fate
OperandOf Lists = List Bool
OperandOf Ends = Unit {0}

abbrev pub words_of : (k : Kind) → OperandOf k → List (List ℕ)
words_of Outs m = message_words m
words_of Ins m = message_words m
words_of Answers a = answer_words a
words_of Downs h = host_words h
words_of Ups h = host_words h
words_of Lives x = life_words x
words_of Lists bits = handed_words bits
words_of Ends e = []

abbrev pub IsMeant : (k : Kind) → OperandOf k → Type 0
IsMeant Outs m = IsMessage m
IsMeant Ins m = IsMessage m
IsMeant Answers a = IsAnswer a
IsMeant Downs h = IsHost h
IsMeant Ups h = IsHost h
IsMeant Lives x = IsLived x
IsMeant Lists bits = IsHanded bits
IsMeant Ends e = Unit {0}

abbrev pub keyword : Line → List ℕ
keyword (line.Crossed (crossing.Out m)) = codes "out"
keyword (line.Crossed (crossing.In m)) = codes "in"
keyword (line.Crossed (crossing.Answer kind f)) = codes "answer"
keyword (line.Crossed (crossing.Down h)) = codes "down"
keyword (line.Crossed (crossing.Up h)) = codes "up"
keyword (line.Lived x f) = codes "life"
keyword (line.Handed bits) = codes "handed"
keyword line.End = codes "end"

abbrev pub made : List ℕ → Kind
made word =
    if bytes_eq word (codes "out") then Outs else (
    if bytes_eq word (codes "in") then Ins else (
    if bytes_eq word (codes "answer") then Answers else (
    if bytes_eq word (codes "down") then Downs else (
    if bytes_eq word (codes "up") then Ups else (
    if bytes_eq word (codes "life") then Lives else (
    if bytes_eq word (codes "handed") then Lists else Ends))))))

abbrev pub operand : (l : Line) → OperandOf (made (keyword l))
operand (line.Crossed (crossing.Out m)) = m
operand (line.Crossed (crossing.In m)) = m
operand (line.Crossed (crossing.Answer kind f)) = (kind, f)
operand (line.Crossed (crossing.Down h)) = h
operand (line.Crossed (crossing.Up h)) = h
operand (line.Lived x f) = (x, f)
operand (line.Handed bits) = bits
operand line.End = tt

-- the line of a kind
abbrev pub make : (k : Kind) → OperandOf k → Line
make Outs m = line.Crossed (crossing.Out m)
make Ins m = line.Crossed (crossing.In m)
make Answers a = line.Crossed (crossing.Answer a.0 a.1)
make Downs h = line.Crossed (crossing.Down h)
make Ups h = line.Crossed (crossing.Up h)
make Lives x = line.Lived x.0 x.1
make Lists bits = line.Handed bits
make Ends e = line.End

pub made_again : (l : Line) → make (made (keyword l)) (operand l) ≡ l
made_again (line.Crossed (crossing.Out m)) = refl
made_again (line.Crossed c) = refl
made_again l = refl

pub is_meant : (l : Line) → IsLine l → IsMeant (made (keyword l)) (operand l)
is_meant (line.Crossed (crossing.Out m)) is = is
is_meant line.End is = tt
is_meant l is = is

-- ---- the words of a line

pub words_are : (l : Line) → line_words l ≡ keyword l ∷ words_of (made (keyword l)) (operand l)
words_are (line.Crossed (crossing.Out m)) = refl
words_are (line.Crossed c) = refl
words_are l = refl

flow_joined : (f : Flow) (rest : List ℕ) → flow_text f ++ rest ≡ host_text f.source ++ 32 ∷ (host_text f.destination ++ 32 ∷ (decimal f.link.0 ++ rest))
flow_joined f rest =
    append_assoc (host_text f.source) (32 ∷ (host_text f.destination ++ 32 ∷ decimal f.link.0)) rest
    ∙ ap (λ xs. host_text f.source ++ 32 ∷ xs) (append_assoc (host_text f.destination) (32 ∷ decimal f.link.0) rest)

message_joined : (m : HostMessage) → (flow_text m.flow ++ (32 ∷ decimal (length m.text))) ++ 32 ∷ octets_text m.text ≡ join_with_byte 32 (message_words m)
message_joined m =
    append_assoc (flow_text m.flow) (32 ∷ decimal (length m.text)) (32 ∷ octets_text m.text)
    ∙ flow_joined m.flow (32 ∷ (decimal (length m.text) ++ 32 ∷ octets_text m.text))

-- words in two spellings
words_joined : (w : List ℕ) (ws : List (List ℕ)) → words (w ∷ ws) ≡ join_with_byte 32 (w ∷ ws)
words_joined w [] = refl
words_joined w (v ∷ ws) = ap (λ xs. w ++ 32 ∷ xs) (words_joined v ws)

-- one word more
joined_more : (w : List ℕ) (ws : List (List ℕ)) (last : List ℕ) → join_with_byte 32 (w ∷ ws) ++ 32 ∷ last ≡ join_with_byte 32 (w ∷ (ws ++ last ∷ []))
joined_more w [] last = refl
joined_more w (v ∷ ws) last = append_assoc w (32 ∷ join_with_byte 32 (v ∷ ws)) (32 ∷ last) ∙ ap (λ xs. w ++ 32 ∷ xs) (joined_more v ws last)

abbrev life_front : Life → Fate → List (List ℕ)
life_front x f =
    host_text x.host ∷ decimal x.socket ∷ host_text x.peer ∷ decimal x.foreign ∷ decimal x.own_stamp ∷ decimal x.partner_stamp
    ∷ kind_text x.socket ∷ decimal x.messages ∷ decimal (length x.bits) ∷ decimal x.granted.messages ∷ decimal x.granted.bits
    ∷ decimal x.returned.messages ∷ decimal x.returned.bits ∷ fate_name f ∷ []

pub spelled : (l : Line) → line_text l ≡ join_with_byte 32 (line_words l)
spelled (line.Crossed (crossing.Out m)) = ap (λ xs. codes "out " ++ xs) (message_joined m)
spelled (line.Crossed (crossing.In m)) = ap (λ xs. codes "in " ++ xs) (message_joined m)
spelled (line.Crossed (crossing.Answer kind f)) = refl
spelled (line.Crossed (crossing.Down h)) = append-nil (crossing_text (crossing.Down h))
spelled (line.Crossed (crossing.Up h)) = append-nil (crossing_text (crossing.Up h))
spelled (line.Lived x f) =
    ap (λ xs. xs ++ 32 ∷ octets_text x.bits) (words_joined (codes "life") (life_front x f)) ∙ joined_more (codes "life") (life_front x f) (octets_text x.bits)
spelled (line.Handed bits) = refl
spelled line.End = refl

-- ---- each of them is a word

key_word : (w : List ℕ) → Lacks 32 w → Lacks 10 w → IsWord w
key_word w spaces ends = record { spaces = spaces; ends = ends }

pub keyword_word : (l : Line) → IsWord (keyword l)
keyword_word (line.Crossed (crossing.Out m)) = key_word (codes "out") (unmarked_where 32 (codes "out") refl) (unmarked_where 10 (codes "out") refl)
keyword_word (line.Crossed (crossing.In m)) = key_word (codes "in") (unmarked_where 32 (codes "in") refl) (unmarked_where 10 (codes "in") refl)
keyword_word (line.Crossed (crossing.Answer kind f)) = key_word (codes "answer") (unmarked_where 32 (codes "answer") refl) (unmarked_where 10 (codes "answer") refl)
keyword_word (line.Crossed (crossing.Down h)) = key_word (codes "down") (unmarked_where 32 (codes "down") refl) (unmarked_where 10 (codes "down") refl)
keyword_word (line.Crossed (crossing.Up h)) = key_word (codes "up") (unmarked_where 32 (codes "up") refl) (unmarked_where 10 (codes "up") refl)
keyword_word (line.Lived x f) = key_word (codes "life") (unmarked_where 32 (codes "life") refl) (unmarked_where 10 (codes "life") refl)
keyword_word (line.Handed bits) = key_word (codes "handed") (unmarked_where 32 (codes "handed") refl) (unmarked_where 10 (codes "handed") refl)
keyword_word line.End = key_word (codes "end") (unmarked_where 32 (codes "end") refl) (unmarked_where 10 (codes "end") refl)

answer_word : (kind : Answer) → IsWord (answer_name kind)
answer_word answer.Rfnm = key_word (codes "rfnm") (unmarked_where 32 (codes "rfnm") refl) (unmarked_where 10 (codes "rfnm") refl)
answer_word answer.Dead = key_word (codes "dead") (unmarked_where 32 (codes "dead") refl) (unmarked_where 10 (codes "dead") refl)
answer_word answer.Incomplete = key_word (codes "incomplete") (unmarked_where 32 (codes "incomplete") refl) (unmarked_where 10 (codes "incomplete") refl)
answer_word answer.NotTaken = key_word (codes "nottaken") (unmarked_where 32 (codes "nottaken") refl) (unmarked_where 10 (codes "nottaken") refl)

kind_word : (socket : ℕ) → IsWord (kind_text socket)
kind_word socket = by (socket % 2 == 0)
  where
    by : (even : Bool) → IsWord (if even then codes "receive" else codes "send")
    by true = key_word (codes "receive") (unmarked_where 32 (codes "receive") refl) (unmarked_where 10 (codes "receive") refl)
    by false = key_word (codes "send") (unmarked_where 32 (codes "send") refl) (unmarked_where 10 (codes "send") refl)

fate_word : (f : Fate) → IsWord (fate_name f)
fate_word fate.Open = key_word (codes "open") (unmarked_where 32 (codes "open") refl) (unmarked_where 10 (codes "open") refl)
fate_word fate.Closing = key_word (codes "open") (unmarked_where 32 (codes "open") refl) (unmarked_where 10 (codes "open") refl)
fate_word fate.Closed = key_word (codes "closed") (unmarked_where 32 (codes "closed") refl) (unmarked_where 10 (codes "closed") refl)
fate_word fate.Ended = key_word (codes "ended") (unmarked_where 32 (codes "ended") refl) (unmarked_where 10 (codes "ended") refl)
fate_word fate.Reset = key_word (codes "reset") (unmarked_where 32 (codes "reset") refl) (unmarked_where 10 (codes "reset") refl)
fate_word fate.Stopped = key_word (codes "stopped") (unmarked_where 32 (codes "stopped") refl) (unmarked_where 10 (codes "stopped") refl)

flow_words_are : (f : Flow) (rest : List (List ℕ)) → IsFlow f → AreWords rest → AreWords (flow_words f ++ rest)
flow_words_are f rest is are =
    let link : f.link.0 < 256 = is.2 in
    (host_word f.source is.0, (host_word f.destination is.1, (number_word f.link.0 (omega arith), are)))

message_words_are : (m : HostMessage) → IsMessage m → AreWords (message_words m)
message_words_are m is =
    let few : length m.text ≤ 8063 = is.1 in
    flow_words_are m.flow (decimal (length m.text) ∷ octets_text m.text ∷ []) is.0
    ((number_word (length m.text) (omega arith), (octets_word m.text, tt)))

life_words_are : (x : Life) (f : Fate) → IsLived (x, f) → AreWords (life_words (x, f))
life_words_are x f is =
    let socket : x.socket < 2 ^ 32 = is.life.socket in
    let foreign : x.foreign < 2 ^ 32 = is.life.foreign in
    let own : x.own_stamp < 2 ^ 64 = is.life.own in
    let partner : x.partner_stamp < 2 ^ 64 = is.life.partner in
    let bits : length x.bits < 2 ^ 64 = is.life.bits in
    (host_word x.host is.life.host, (number_word x.socket (omega arith), (host_word x.peer is.life.peer, (number_word x.foreign (omega arith), (number_word x.own_stamp (omega arith), (number_word x.partner_stamp (omega arith), (kind_word x.socket, (number_word x.messages is.life.messages, (number_word (length x.bits) (omega arith), (number_word x.granted.messages is.life.granted.0, (number_word x.granted.bits is.life.granted.1, (number_word x.returned.messages is.life.returned.0, (number_word x.returned.bits is.life.returned.1, (fate_word f, (octets_word x.bits, tt)))))))))))))))

behind_are : (l : Line) → IsLine l → AreWords (words_of (made (keyword l)) (operand l))
behind_are (line.Crossed (crossing.Out m)) is = message_words_are m is
behind_are (line.Crossed (crossing.In m)) is = message_words_are m is
behind_are (line.Crossed (crossing.Answer kind f)) is = (answer_word kind, (flow_words_are f [] is tt))
behind_are (line.Crossed (crossing.Down h)) is = (host_word h is, tt)
behind_are (line.Crossed (crossing.Up h)) is = (host_word h is, tt)
behind_are (line.Lived x f) is = life_words_are x f is
behind_are (line.Handed bits) is =
    let few : length bits < 2 ^ 64 = is in
    (number_word (length bits) (omega arith), (octets_word bits, tt))
behind_are line.End is = tt

pub line_words_are : (l : Line) → IsLine l → AreWords (line_words l)
line_words_are l is = subst AreWords (sym (words_are l)) ((keyword_word l, (behind_are l is)))

-- a line is cut into its words, and has no line feed
pub cut_line : (l : Line) → IsLine l → words_in (line_text l) ≡ line_words l
cut_line l is =
    ap words_in (spelled l ∙ ap (join_with_byte 32) (words_are l)) ∙ cut_again (keyword l) (words_of (made (keyword l)) (operand l)) (subst AreWords (words_are l) (line_words_are l is)) ∙ sym (words_are l)

pub line_ends : (l : Line) → IsLine l → Lacks 10 (line_text l)
line_ends l is = subst (Lacks 10) (sym (spelled l)) (joined_ends (line_words l) (line_words_are l is))

-- ---- reading

-- these words are a line's
pub read_as : (text first : List ℕ) (left : List (List ℕ)) (l : Line) → words_in text ≡ first ∷ left → first ≡ keyword l → left ≡ words_of (made (keyword l)) (operand l) → text ≡ line_text l
read_as text first left l cut is rest =
    sym (joined_again text) ∙ ap (join_with_byte 32) (cut ∙ (λ i. is i ∷ rest i) ∙ sym (words_are l)) ∙ sym (spelled l)

-- and where all of them are known
pub all_read_as : (text : List ℕ) (l : Line) → words_in text ≡ line_words l → text ≡ line_text l
all_read_as text l cut = sym (joined_again text) ∙ ap (join_with_byte 32) cut ∙ sym (spelled l)

heads : (text first : List ℕ) (left : List (List ℕ)) (l : Line) → IsLine l → words_in text ≡ first ∷ left → text ≡ line_text l → first ∷ left ≡ keyword l ∷ words_of (made (keyword l)) (operand l)
heads text first left l is cut e = sym cut ∙ ap words_in e ∙ cut_line l is ∙ words_are l

-- a line whose operand spells none of its keyword's kind is none
pub no_operand : (key text first : List ℕ) (left : List (List ℕ)) → words_in text ≡ first ∷ left → first ≡ key → ((z : OperandOf (made key)) → IsMeant (made key) z → left ≢ words_of (made key) z)
    → (l : Line) → IsLine l → text ≢ line_text l
no_operand key text first left cut is none l meant e =
    let both : first ∷ left ≡ keyword l ∷ words_of (made (keyword l)) (operand l) = heads text first left l meant cut e in
    let F : List ℕ → Type 0 = λ w. (z : OperandOf (made w)) → IsMeant (made w) z → left ≢ words_of (made w) z in
    subst F (sym is ∙ first_same both) none (operand l) (is_meant l meant) (rest_same both)

-- a line that is none of those without octets, and has another first word than the others
pub no_short : (text first : List ℕ) (left : List (List ℕ)) → words_in text ≡ first ∷ left
    → first ≢ codes "out" → first ≢ codes "in" → first ≢ codes "life" → first ≢ codes "handed" → ((l : Line) → IsShort l → first ∷ left ≢ line_words l)
    → (l : Line) → IsLine l → text ≢ line_text l
no_short text first left cut out in_ life handed none l meant e = by l meant (sym cut ∙ ap words_in e ∙ cut_line l meant)
  where
    by : (k : Line) → IsLine k → first ∷ left ≡ line_words k → ⊥
    by (line.Crossed (crossing.Out m)) is same = out (first_same same)
    by (line.Crossed (crossing.In m)) is same = in_ (first_same same)
    by (line.Crossed (crossing.Answer kind f)) is same = none (line.Crossed (crossing.Answer kind f)) is same
    by (line.Crossed (crossing.Down h)) is same = none (line.Crossed (crossing.Down h)) is same
    by (line.Crossed (crossing.Up h)) is same = none (line.Crossed (crossing.Up h)) is same
    by (line.Lived x f) is same = life (first_same same)
    by (line.Handed bits) is same = handed (first_same same)
    by line.End is same = none line.End tt same

-- a short line is a line
pub short_line : (l : Line) → IsShort l → IsLine l
short_line (line.Crossed (crossing.Out m)) is = absurd is
short_line (line.Crossed (crossing.In m)) is = absurd is
short_line (line.Crossed c) is = is
short_line (line.Lived x f) is = absurd is
short_line (line.Handed bits) is = absurd is
short_line line.End is = tt

-- a line whose operand spells none of its keyword's kind is none without octets
pub no_short_operand : (key first : List ℕ) (left : List (List ℕ)) → first ≡ key → ((z : OperandOf (made key)) → IsMeant (made key) z → left ≢ words_of (made key) z)
    → (l : Line) → IsShort l → first ∷ left ≢ line_words l
no_short_operand key first left is none l short e =
    let both : first ∷ left ≡ keyword l ∷ words_of (made (keyword l)) (operand l) = e ∙ words_are l in
    let F : List ℕ → Type 0 = λ w. (z : OperandOf (made w)) → IsMeant (made w) z → left ≢ words_of (made w) z in
    subst F (sym is ∙ first_same both) none (operand l) (is_meant l (short_line l short)) (rest_same both)

-- what is read of a line without octets
pub short_read : (text first : List ℕ) (left : List (List ℕ)) (r : Option Line) → words_in text ≡ first ∷ left
    → first ≢ codes "out" → first ≢ codes "in" → first ≢ codes "life" → first ≢ codes "handed" → ReadsShort first left r → ReadsAs line_text IsLine text r
short_read text first left (Some l) cut out in_ life handed h = (all_read_as text l (cut ∙ h.0), short_line l h.1)
short_read text first left None cut out in_ life handed h = no_short text first left cut out in_ life handed h
