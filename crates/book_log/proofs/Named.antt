-- Reading the lines of strangers.
use Rattle.book_log.proofs.Common.{◌≡◌, ◌≢◌, ℕ, ◌<◌, ◌+◌, arith, length, true, false, List, [], ◌∷◌, ◌++◌, Option, Some, None, codes, refl, sym, ap, ◌∙◌, subst, append_assoc, append-nil, false≢true, flat_map-append, Host, IsHost, ReadsAs, Lacks, SameCut, same_cut, unmarked_where, uncut, ended_line, host_text, stranger_line, strangers_text}
use Rattle.std.proofs.lemmas.List.{length-append}
use Rattle.book_log.specs.Steps.{NamedAfter, Names, NamesNone, follows, last_of}
use Rattle.book_log.proofs.Books.{ended_more}
use Rattle.book_log.proofs.Networks.{stranger_ends, stranger_once}

-- ---- one line

-- a line without a space, one with another first word, and one with no host after it
pub no_space : (line : List ℕ) → Lacks 32 line → (h : Host) → line ≢ stranger_line h
no_space line lacks h e = uncut 32 (codes "foreign") (host_text h) (subst (Lacks 32) e lacks)

word_cut : (line word rest : List ℕ) (h : Host) → line ≡ word ++ 32 ∷ rest → Lacks 32 word → line ≡ stranger_line h
    → SameCut word rest (codes "foreign") (host_text h)
word_cut line word rest h is lacks e =
    same_cut 32 word rest (codes "foreign") (host_text h) lacks (unmarked_where 32 (codes "foreign") refl) (sym is ∙ e)

pub other_word : (line word rest : List ℕ) → line ≡ word ++ 32 ∷ rest → Lacks 32 word → word ≢ codes "foreign"
    → (h : Host) → line ≢ stranger_line h
other_word line word rest is lacks other h e = other (word_cut line word rest h is lacks e).front

pub read_word : (line word rest : List ℕ) (r : Option Host) → line ≡ word ++ 32 ∷ rest → Lacks 32 word
    → word ≡ codes "foreign" → ReadsAs host_text IsHost rest r → ReadsAs stranger_line IsHost line r
read_word line word rest (Some h) is lacks same read =
    (is ∙ ap (λ (w : List ℕ). w ++ 32 ∷ rest) same ∙ ap (λ (t : List ℕ). codes "foreign" ++ 32 ∷ t) read.0, read.1)
read_word line word rest None is lacks same read = λ h meant e. read h meant (word_cut line word rest h is lacks e).back

-- ---- the first line of a text

pub no_line : (last : Option Host) (text : List ℕ) → Lacks 10 text → NamesNone last text
no_line last text lacks =
    λ h more is may e. uncut 10 (stranger_line h) more (subst (Lacks 10) (e ∙ ended_more (stranger_line h) more) lacks)

line_cut : (text line more : List ℕ) (h : Host) (behind : List ℕ) → IsHost h → text ≡ line ++ 10 ∷ more → Lacks 10 line
    → text ≡ ended_line (stranger_line h) ++ behind → SameCut line more (stranger_line h) behind
line_cut text line more h behind meant is lacks e =
    same_cut 10 line more (stranger_line h) behind lacks (stranger_ends h meant)
    (sym is ∙ e ∙ ended_more (stranger_line h) behind)

pub other_line : (last : Option Host) (text line more : List ℕ) → text ≡ line ++ 10 ∷ more → Lacks 10 line
    → ((h : Host) → IsHost h → line ≢ stranger_line h) → NamesNone last text
other_line last text line more is lacks none =
    λ h behind meant may e. none h meant (line_cut text line more h behind meant is lacks e).front

-- the line of a stranger who may come next
pub next_line : (last : Option Host) (text line more : List ℕ) (h : Host) → text ≡ line ++ 10 ∷ more
    → line ≡ stranger_line h → text ≡ ended_line (stranger_line h) ++ more
next_line last text line more h is same =
    is ∙ ap (λ (t : List ℕ). t ++ 10 ∷ more) same ∙ sym (ended_more (stranger_line h) more)

-- and of one who may not
pub not_next : (last : Option Host) (text line more : List ℕ) (h : Host) → IsHost h → text ≡ line ++ 10 ∷ more
    → Lacks 10 line → line ≡ stranger_line h → follows last h ≡ false → NamesNone last text
not_next last text line more h meant is lacks same not = λ g behind other may e. (
    let cut : SameCut line more (stranger_line g) behind = line_cut text line more g behind other is lacks e in
    let one : h ≡ g = stranger_once h g meant other (sym same ∙ cut.front) in
    false≢true (sym not ∙ ap (follows last) one ∙ may))

-- ---- one line after the other

-- the strangers that were read, the last of them, and the text that is left
pub record Passed (text left : List ℕ) (strangers : List Host) (last : Option Host) : Type 0 where
  pub parted : text ≡ strangers_text strangers ++ left
  pub named : NamedAfter None strangers
  pub ends : last_of None strangers ≡ last

named_more : (from : Option Host) (hosts : List Host) (h : Host) → NamedAfter from hosts → IsHost h
    → follows (last_of from hosts) h ≡ true → NamedAfter from (hosts ++ h ∷ [])
named_more from [] h named is may = (is, may, tt)
named_more from (g ∷ hosts) h named is may = (named.0, named.1, named_more (Some g) hosts h named.2 is may)

last_more : (from : Option Host) (hosts : List Host) (h : Host) → last_of from (hosts ++ h ∷ []) ≡ Some h
last_more from [] h = refl
last_more from (g ∷ hosts) h = last_more (Some g) hosts h

strangers_more : (hosts : List Host) (h : Host) (more : List ℕ)
    → strangers_text hosts ++ (ended_line (stranger_line h) ++ more) ≡ strangers_text (hosts ++ h ∷ []) ++ more
strangers_more hosts h more =
    sym (append_assoc (strangers_text hosts) (ended_line (stranger_line h)) more)
    ∙ ap (λ (t : List ℕ). t ++ more)
    (sym (flat_map-append (λ x. ended_line (stranger_line x)) hosts (h ∷ []) ∙ ap (λ (t : List ℕ). strangers_text hosts ++ t) (append-nil (ended_line (stranger_line h)))))

pub one_more : (text left more : List ℕ) (strangers all : List Host) (last : Option Host) (h : Host)
    → Passed text left strangers last → left ≡ ended_line (stranger_line h) ++ more → IsHost h → follows last h ≡ true
    → all ≡ strangers ++ h ∷ [] → Passed text more all (Some h)
one_more text left more strangers all last h p is meant may e = subst (λ (hosts : List Host). Passed text more hosts (Some h)) (sym e) (record {
  parted = p.parted ∙ ap (λ (t : List ℕ). strangers_text strangers ++ t) is ∙ strangers_more strangers h more;
  named = named_more None strangers h p.named meant (ap (λ (o : Option Host). follows o h) p.ends ∙ may);
  ends = last_more None strangers h;
})

pub names : (text left : List ℕ) (strangers : List Host) (last : Option Host) → Passed text left strangers last
    → NamesNone last left → Names text strangers left
names text left strangers last p none = record { parted = p.parted; named = p.named; none = subst (λ (o : Option Host). NamesNone o left) (sym p.ends) none }

-- a line less
pub named_less : (left more : List ℕ) (h : Host) → left ≡ ended_line (stranger_line h) ++ more
    → length more < length left
named_less left more h is =
    let all : length left ≡ length (ended_line (stranger_line h)) + length more =
    ap length is ∙ length-append (ended_line (stranger_line h)) more in
    let one : length (ended_line (stranger_line h)) ≡ length (stranger_line h) + 1 =
    length-append (stranger_line h) (10 ∷ []) in
    omega (arith, all, one)
