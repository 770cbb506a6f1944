-- The log of a network: the lines of its strangers, and then those of its book.
use Rattle.book_log.proofs.Common.{◌≡◌, ◌≢◌, ℕ, ◌<◌, ◌≤◌, ◌+◌, ◌^◌, ◌==◌, true, false, List, [], ◌∷◌, ◌++◌, Option, Some, None, codes, length, map, refl, sym, ap, ap₂, ◌∙◌, arith, subst, append_assoc, inl, inr, All, All-append, All-cons, All-head, All-nil, All-tail, IsHost, Lacks, ended_line, host_text}
use Rattle.book_log.specs.Log.{Book, IsBadLine, IsBook, IsLog, handed_line, life_line, log_lines, logged_line, stranger_line, text_of_lines, AreStrangers, Begins, IsLogFault, RanOut, log_text, network_lines, strangers_text}
use Rattle.interface.specs.Host.{Host, InOrder, host_before}
use Rattle.book_log.specs.Steps.{IsBadBookLine, IsBookText, BeginsBook, FitsAfter, IsBookFault, fault_after, NamedAfter, Names, NamesMore, NamesNone, last_of}
use Rattle.script.proofs.lemmas.{SameCut, same_cut, unmarked_where, host_once}
use Rattle.std.proofs.lemmas.List.{append_cancel_left, length-append, length-map}
use Rattle.std.specs.Prelude.{◌↔◌}
use Rattle.book_log.specs.declared.fault.LogFault.{LogFault}
use Rattle.book_log.specs.declared.fault.LogFault.TheVariants as fault
use Rattle.book_log.proofs.Memory.{begins_nothing}
use Rattle.book_log.proofs.Books.{ended_more, front_of, log_ends, text_of_lines-append}
use Rattle.book_log.proofs.Cuts.{first_same, host_word, rest_same}
use Rattle.book_log.proofs.Others.{not_stranger, not_text}

-- ---- who may be named

in_order : (last : Host) (hosts : List Host) → NamedAfter (Some last) hosts → InOrder (last ∷ hosts)
in_order last [] named = tt
in_order last (h ∷ hosts) named = (named.1, in_order h hosts named.2)

each_named : (last : Option Host) (hosts : List Host) → NamedAfter last hosts → All IsHost hosts
each_named last [] named = All-nil IsHost
each_named last (h ∷ hosts) named = All-cons IsHost h hosts named.0 (each_named (Some h) hosts named.2)

pub are_strangers : (hosts : List Host) → NamedAfter None hosts → AreStrangers hosts
are_strangers [] named = record { valid = All-nil IsHost; rising = tt }
are_strangers (h ∷ hosts) named =
    record { valid = each_named None (h ∷ hosts) named; rising = in_order h hosts named.2 }

after_one : (last : Host) (hosts : List Host) → All IsHost hosts → InOrder (last ∷ hosts) → NamedAfter (Some last) hosts
after_one last [] each rising = tt
after_one last (h ∷ hosts) each rising =
    (All-head IsHost h hosts each, rising.0, after_one h hosts (All-tail IsHost h hosts each) rising.1)

pub after_named : (hosts : List Host) → AreStrangers hosts → NamedAfter None hosts
after_named [] are = tt
after_named (h ∷ hosts) are =
    (All-head IsHost h hosts are.valid, refl, after_one h hosts (All-tail IsHost h hosts are.valid) are.rising)

-- ---- their lines

pub stranger_once : (g h : Host) → IsHost g → IsHost h → stranger_line g ≡ stranger_line h → g ≡ h
stranger_once g h p q e = host_once g h p q (append_cancel_left (codes "foreign ") (host_text g) (host_text h) e)

pub stranger_ends : (h : Host) → IsHost h → Lacks 10 (stranger_line h)
stranger_ends h is =
    All-append (λ x. (x == 10) ≡ false) (codes "foreign ") (host_text h) (unmarked_where 10 (codes "foreign ") refl)
    (host_word h is).ends

strangers_end : (hosts : List Host) → All IsHost hosts → All (Lacks 10) (map stranger_line hosts)
strangers_end [] all = All-nil (Lacks 10)
strangers_end (h ∷ hosts) all =
    All-cons (Lacks 10) (stranger_line h) (map stranger_line hosts) (stranger_ends h (All-head IsHost h hosts all))
    (strangers_end hosts (All-tail IsHost h hosts all))

-- no line of a log has a line feed
pub begins_ends : (lines : List (List ℕ)) → Begins lines → All (Lacks 10) lines
begins_ends lines h =
    front_of (Lacks 10) lines h.more
    (subst (All (Lacks 10)) h.whole
    (All-append (Lacks 10) (map stranger_line h.strangers) (log_lines h.book) (strangers_end h.strangers h.named.valid) (log_ends h.book h.valid)))

-- two texts that begin with lines of strangers
lines_cut : (g h : Host) (gs hs : List Host) (a b : List ℕ) → IsHost g → IsHost h
    → strangers_text (g ∷ gs) ++ a ≡ strangers_text (h ∷ hs) ++ b
    → SameCut (stranger_line g) (strangers_text gs ++ a) (stranger_line h) (strangers_text hs ++ b)
lines_cut g h gs hs a b p q e =
    same_cut 10 (stranger_line g) (strangers_text gs ++ a) (stranger_line h) (strangers_text hs ++ b)
    (stranger_ends g p) (stranger_ends h q)
    (sym (ended_more (stranger_line g) (strangers_text gs ++ a)) ∙ sym (append_assoc (ended_line (stranger_line g)) (strangers_text gs) a) ∙ e
    ∙ append_assoc (ended_line (stranger_line h)) (strangers_text hs) b ∙ ended_more (stranger_line h) (strangers_text hs ++ b))

-- ---- one log

-- what begins with the lines of these strangers and of no others is the log of one book only after all of them
pub one_rest : (last : Option Host) (strangers others : List Host) (left : List ℕ) (b : Book)
    → NamedAfter last strangers → NamedAfter last others
    → NamesNone (last_of last strangers) left → strangers_text strangers ++ left ≡ strangers_text others ++ log_text b
    → (strangers ≡ others) × (left ≡ log_text b)
one_rest last [] [] left b p q none e = (refl, e)
one_rest last [] (h ∷ others) left b p q none e =
    absurd (none h (strangers_text others ++ log_text b) q.0 q.1 (e ∙ append_assoc (ended_line (stranger_line h)) (strangers_text others) (log_text b)))
one_rest last (g ∷ strangers) [] left b p q none e =
    absurd (not_text b g (strangers_text strangers ++ left) (sym e ∙ append_assoc (ended_line (stranger_line g)) (strangers_text strangers) left))
one_rest last (g ∷ strangers) (h ∷ others) left b p q none e =
    let cut : SameCut (stranger_line g) (strangers_text strangers ++ left) (stranger_line h) (strangers_text others ++ log_text b) = lines_cut g h strangers others left (log_text b) p.0 q.0 e in
    let same : g ≡ h = stranger_once g h p.0 q.0 cut.front in
    let rest =
    one_rest (Some g) strangers others left b p.2 (subst (λ (x : Host). NamedAfter (Some x) others) (sym same) q.2) none
    cut.back in
    (ap₂ (λ (x : Host) (xs : List Host). x ∷ xs) same rest.0, rest.1)

-- the text of a book names no stranger
pub names_none : (last : Option Host) (b : Book) → NamesNone last (log_text b)
names_none last b = λ h more is may e. not_text b h more e

-- ---- what was read

pub is_log : (text left : List ℕ) (strangers : List Host) (b : Book) → Names text strangers left → IsBookText left b
    → IsLog text strangers b
is_log text left strangers b names is = record {
  spelled = names.parted ∙ ap (λ (t : List ℕ). strangers_text strangers ++ t) is.spelled;
  named = are_strangers strangers names.named;
  valid = is.valid;
}

-- the lines of strangers as the first lines of a log
lines_text : (hosts : List Host) → text_of_lines (map stranger_line hosts) ≡ strangers_text hosts
lines_text [] = refl
lines_text (h ∷ hosts) = ap (λ (t : List ℕ). ended_line (stranger_line h) ++ t) (lines_text hosts)

-- some log begins with them, and with these lines, so its book begins with these
begins_behind : (last : Option Host) (strangers others : List Host) (before : List (List ℕ)) (line : List ℕ)
    (more : List (List ℕ)) (left rest behind : List ℕ) (b : Book)
    → NamedAfter last strangers → NamedAfter last others → NamesNone (last_of last strangers) left → BeginsBook before
    → left ≡ text_of_lines before ++ rest → rest ≡ ended_line line ++ behind
    → network_lines others b ≡ (map stranger_line strangers ++ (before ++ line ∷ [])) ++ more
    → log_lines b ≡ (before ++ line ∷ []) ++ more
begins_behind last [] [] before line more left rest behind b p q none begins parted next e = e
begins_behind last [] (h ∷ others) [] line more left rest behind b p q none begins parted next e =
    absurd (none h behind q.0 q.1 (parted ∙ next ∙ ap (λ (t : List ℕ). ended_line t ++ behind) (sym (first_same e))))
begins_behind last [] (h ∷ others) (t ∷ before) line more left rest behind b p q none begins parted next e =
    absurd (not_stranger begins.book [] h (before ++ begins.more) (begins.whole ∙ ap (λ (x : List ℕ). x ∷ (before ++ begins.more)) (sym (first_same e))))
begins_behind last (g ∷ strangers) [] before line more left rest behind b p q none begins parted next e =
    absurd (not_stranger b [] g ((map stranger_line strangers ++ (before ++ line ∷ [])) ++ more) e)
begins_behind last (g ∷ strangers) (h ∷ others) before line more left rest behind b p q none begins parted next e =
    let same : h ≡ g = stranger_once h g q.0 p.0 (first_same e) in
    begins_behind (Some g) strangers others before line more left rest behind b p.2
    (subst (λ (x : Host). NamedAfter (Some x) others) same q.2) none begins parted next (rest_same e)

-- the lines of a book after those of strangers
parted_behind : (text left : List ℕ) (strangers : List Host) (before : List (List ℕ)) (rest : List ℕ)
    → text ≡ strangers_text strangers ++ left → left ≡ text_of_lines before ++ rest
    → text ≡ text_of_lines (map stranger_line strangers ++ before) ++ rest
parted_behind text left strangers before rest named parted =
    named ∙ ap₂ (λ (t u : List ℕ). t ++ u) (sym (lines_text strangers)) parted
    ∙ sym (append_assoc (text_of_lines (map stranger_line strangers)) (text_of_lines before) rest)
    ∙ ap (λ (t : List ℕ). t ++ rest) (sym (text_of_lines-append (map stranger_line strangers) before))

begins_named : (strangers : List Host) → NamedAfter None strangers → (before : List (List ℕ)) → BeginsBook before
    → Begins (map stranger_line strangers ++ before)
begins_named strangers named before begins = record {
  strangers = strangers;
  named = are_strangers strangers named;
  book = begins.book;
  valid = begins.valid;
  more = begins.more;
  whole =
      ap (λ (ls : List (List ℕ)). map stranger_line strangers ++ ls) begins.whole
      ∙ sym (append_assoc (map stranger_line strangers) before begins.more);
}

pub is_bad : (text left : List ℕ) (strangers : List Host) (number : ℕ) → Names text strangers left
    → IsBadBookLine left number → IsBadLine text (length strangers + number)
is_bad text left strangers number names bad = record {
  before = map stranger_line strangers ++ bad.before;
  rest = bad.rest;
  parted = parted_behind text left strangers bad.before bad.rest names.parted bad.parted;
  counted =
      let all : length (map stranger_line strangers ++ bad.before) ≡ length (map stranger_line strangers) + length bad.before = length-append (map stranger_line strangers) bad.before in
      let long : length (map stranger_line strangers) ≡ length strangers = length-map strangers stranger_line in
      omega (arith, all, long, bad.counted);
  begins = begins_named strangers names.named bad.before bad.begins;
  bad = λ line more e begins. bad.bad line more e (record {
    book = begins.book;
    valid = begins.valid;
    more = begins.more;
    whole =
        begins_behind None strangers begins.strangers bad.before line begins.more left bad.rest more begins.book
        names.named (after_named begins.strangers begins.named) names.none
        bad.begins bad.parted e (begins.whole ∙ ap (λ (ls : List (List ℕ)). ls ++ begins.more) (append_assoc (map stranger_line strangers) bad.before (line ∷ [])));
  });
  none = λ others b log. (
      let rest =
      one_rest None strangers others left b names.named (after_named others log.named) names.none
      (sym names.parted ∙ log.spelled) in
      bad.none b (record { spelled = rest.1; valid = log.valid }));
}

-- ---- how many lines there are

lines_few : (lines : List (List ℕ)) → length lines ≤ length (text_of_lines lines)
lines_few [] = omega arith
lines_few (t ∷ lines) =
    let few : length lines ≤ length (text_of_lines lines) = lines_few lines in
    let all : length (ended_line t ++ text_of_lines lines) ≡ length (ended_line t) + length (text_of_lines lines) =
    length-append (ended_line t) (text_of_lines lines) in
    let one : length (ended_line t) ≡ length t + 1 = length-append t (10 ∷ []) in
    omega (arith, few, all, one)

-- the number of a bad line is not past the end
pub bad_few : (text left : List ℕ) (strangers : List Host) (number : ℕ) → Names text strangers left
    → IsBadBookLine left number → length strangers + number ≤ length text + 1
bad_few text left strangers number names bad =
    let few : length (map stranger_line strangers) ≤ length (text_of_lines (map stranger_line strangers)) =
    lines_few (map stranger_line strangers) in
    let named : length (map stranger_line strangers) ≡ length strangers = length-map strangers stranger_line in
    let same : length (text_of_lines (map stranger_line strangers)) ≡ length (strangers_text strangers) =
    ap length (lines_text strangers) in
    let before : length bad.before ≤ length (text_of_lines bad.before) = lines_few bad.before in
    let behind : length left ≡ length (text_of_lines bad.before) + length bad.rest =
    ap length bad.parted ∙ length-append (text_of_lines bad.before) bad.rest in
    let all : length text ≡ length (strangers_text strangers) + length left =
    ap length names.parted ∙ length-append (strangers_text strangers) left in
    omega (arith, few, named, same, before, behind, all, bad.counted)

-- whatever is wrong with what comes after the strangers
pub is_fault : (text left : List ℕ) (strangers : List Host) (f : LogFault) → Names text strangers left
    → IsBookFault left f → IsLogFault text (fault_after (length strangers) f)
is_fault text left strangers (fault.BadLine number) names bad = is_bad text left strangers number names bad
is_fault text left strangers fault.OutOfMemory names ran = record {
  before = map stranger_line strangers ++ ran.before;
  line = ran.line;
  rest = ran.rest;
  parted = parted_behind text left strangers ran.before (ended_line ran.line ++ ran.rest) names.parted ran.parted;
  begins = begins_named strangers names.named ran.before ran.begins;
  wants = elim ran.wants [ inl octets ↦ inl octets | inr begins ↦ inr (begins_named [] tt (ran.line ∷ []) begins) ];
}

-- memory runs out for a stranger
pub ran_out_named : (text : List ℕ) → NamesMore text → RanOut Begins text
ran_out_named text m = record {
  before = map stranger_line m.strangers ++ [];
  line = stranger_line m.next;
  rest = m.rest;
  parted = parted_behind text (ended_line (stranger_line m.next) ++ m.rest) m.strangers [] (ended_line (stranger_line m.next) ++ m.rest) m.parted refl;
  begins = begins_named m.strangers m.named [] begins_nothing;
  wants = inr (begins_named (m.next ∷ []) (m.meant, refl, tt) [] begins_nothing);
}

pub fault_fits : (text left : List ℕ) (strangers : List Host) (f : LogFault) → length text < 2 ^ 63
    → Names text strangers left → IsBookFault left f → FitsAfter (length strangers) f
fault_fits text left strangers (fault.BadLine number) short names bad =
    omega (arith, bad_few text left strangers number names bad, short)
fault_fits text left strangers fault.OutOfMemory short names bad = tt

-- ---- a line of a stranger

-- what is before it
pub only_strangers : (strangers : List Host) (last : Option Host) (b : Book) (before : List (List ℕ)) (line : List ℕ)
    (h : Host) (more : List (List ℕ)) → IsHost h → NamedAfter last strangers
    → network_lines strangers b ≡ (before ++ line ∷ stranger_line h ∷ []) ++ more
    → (one : Host) × (line ≡ stranger_line one) × (host_before one h ≡ true)
only_strangers [] last b before line h more is named e =
    absurd (not_stranger b (before ++ line ∷ []) h more (e ∙ append_assoc before (line ∷ stranger_line h ∷ []) more ∙ sym (append_assoc before (line ∷ []) (stranger_line h ∷ more))))
only_strangers (g ∷ []) last b [] line h more is named e = absurd (not_stranger b [] h more (rest_same e))
only_strangers (g ∷ k ∷ strangers) last b [] line h more is named e =
    let same : k ≡ h = stranger_once k h named.2.0 is (first_same (rest_same e)) in
    (g, sym (first_same e), subst (λ (x : Host). host_before g x ≡ true) same named.2.1)
only_strangers (g ∷ strangers) last b (t ∷ before) line h more is named e =
    only_strangers strangers (Some g) b before line h more is named.2 (rest_same e)

-- ---- no strangers

pub alone : (octets : List ℕ) (b : Book) → IsLog octets [] b ↔ ((octets ≡ log_text b) × IsBook b)
alone octets b =
    (λ log. (log.spelled, log.valid), λ h. record { spelled = h.0; named = are_strangers [] tt; valid = h.1 })

-- ---- no octets

-- a log has some, and so have octets at a line of which memory runs out
pub log_some : (octets : List ℕ) (strangers : List Host) (b : Book) → IsLog octets strangers b → octets ≢ []
log_some octets strangers b log none =
    let few : length (log_lines b) ≤ length (log_text b) = lines_few (log_lines b) in
    let all : length octets ≡ length (strangers_text strangers) + length (log_text b) =
    ap length log.spelled ∙ length-append (strangers_text strangers) (log_text b) in
    let first = length-append (map logged_line b.crossings) (map life_line b.lives ++ (map handed_line b.handed ++ codes "end" ∷ [])) in
    let second = length-append (map life_line b.lives) (map handed_line b.handed ++ codes "end" ∷ []) in
    let third = length-append (map handed_line b.handed) (codes "end" ∷ []) in
    let zero : length octets ≡ 0 = ap length none in
    absurd (omega (arith, few, all, first, second, third, zero))

pub ran_some : (octets : List ℕ) → RanOut Begins octets → octets ≢ []
ran_some octets ran none =
    let all = ap length ran.parted ∙ length-append (text_of_lines ran.before) (ended_line ran.line ++ ran.rest) in
    let behind = length-append (ended_line ran.line) ran.rest in
    let one = length-append ran.line (10 ∷ []) in
    let zero : length octets ≡ 0 = ap length none in
    absurd (omega (arith, all, behind, one, zero))
