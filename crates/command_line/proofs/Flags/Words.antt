-- What the parser of arguments makes of the three flags.
use Rattle.command_line.proofs.Common.{false≢true, list_any}
use Rattle.std.proofs.Common.{◌≡◌, ◌≢◌, ◌⊎◌, ◌||◌, not, ℕ, Bool, true, false, if◌then◌else◌, List, [], ◌∷◌, ◌++◌, Option, Some, None, codes, subst, refl, sym, ap, ◌∙◌, inl, inr, ◌&&◌, find, is_some, fold}
use Rattle.std.specs.Str.{bytes_eq, chars}
use Rattle.std.specs.Option.{option_and_then, option_or}
use Rattle.clap.specs.Kinds.{HasKind, Kinds, or_else}
use Rattle.clap.specs.Lexer.{long_of, short_of}
use Rattle.clap.specs.Walk.{one_of, Held, Outcome, Row, Rule, Text, Walk, at_row, finished, has_row, is_empty, more_values, row_text, settled, with_default, with_values, without, walk_from, walked, after_flag, bundle_met, bundle_step, idle, long_or_other, plain}
use Rattle.clap.specs.Values.{kind_of, reading_of}
use Rattle.command_line.specs.Parser.{command_line, flag}
use Rattle.command_line.specs.declared.options.Options.{Options}
use Rattle.command_line.specs.Options.{options_of, options_after, with_word}
use Rattle.std.proofs.lemmas.List.{append-nil}
use Rattle.std.proofs.lemmas.Slice.Eq.{bytes_eq-Decides}
use Rattle.std.specs.Prelude.{slice_get, length, zero, suc}
use Rattle.clap.specs.Faults.{bundle_fault, check_fault, default_fault, defaults_fault, given_default_fault, repeat_fault, entered_fault, fault_of, flag_word_fault, is_simple_and_free, settle_fault, step_fault, turn_fault, walk_fault}
use Rattle.clap.specs.Simple.{Shape, built, entered, filled, matches_of}
use Rattle.clap.specs.declared.error.Error.{Error}
use Rattle.clap.specs.declared.error.kind.ErrorKind.{ErrorKind}
use Rattle.clap.specs.declared.error.kind.ErrorKind.TheVariants as kind
use Rattle.clap.proofs.OnLiterals.{clap_on_literals}
use Rattle.clap.specs.declared.builder.value_parser.ValueParser.TheVariants as parser
use Rattle.clap.specs.declared.parser.matches.ValueSource.TheVariants.{CommandLine, DefaultValue}
use Rattle.command_line.proofs.Flags.Hyphens.{long_is}

abbrev pub shape : Shape
shape = (built command_line).top

abbrev pub held : List Row → Held
held rows = record { rows = rows; pending = None; skip = 0 }

abbrev pub at : List Row → Walk
at rows = walk_from (held rows)

-- ---- a word that is no flag

neither : (s t : Bool) → (s || t) ≡ false → (s ≡ false) × (t ≡ false)
neither true t e = absurd (false≢true (sym e))
neither false t e = (refl, e)

some_after : (first : Kinds) (k : ErrorKind) (ks : Kinds) → or_else first (k ∷ ks) ≢ []
some_after [] k ks e = cc
some_after (x ∷ xs) k ks e = cc

-- what is said of a word, by how it is read as a long and as a short flag
abbrev said : List Row → Text → Option (Text × Option Text) → Kinds
said rows word long = or_else (flag_word_fault shape.rules false long word (held rows))
    (step_fault shape 1 (long_or_other shape.rules idle word long (held rows)).0 (long_or_other shape.rules idle word long (held rows)).1)

named : (rows : List Row) (word name : Text) (v : Option Text) (s t u : Bool) → bytes_eq (codes "book") name ≡ s → bytes_eq (codes "check") name ≡ t → bytes_eq (codes "texts") name ≡ u
    → (v ≡ None → s ≡ false) → (v ≡ None → t ≡ false) → (v ≡ None → u ≡ false) → said rows word (Some (name, v)) ≢ []
named rows word name None true t u es et eu b c d = absurd (false≢true (sym (b refl)))
named rows word name (Some v) true t u es et eu b c d = rw es (λ e. cc)
named rows word name None false true u es et eu b c d = absurd (false≢true (sym (c refl)))
named rows word name (Some v) false true u es et eu b c d = rw (es, et) (λ e. cc)
named rows word name None false false true es et eu b c d = absurd (false≢true (sym (d refl)))
named rows word name (Some v) false false true es et eu b c d = rw (es, et, eu) (λ e. cc)
named rows word name v false false false es et eu b c d = rw (es, et, eu) (λ e. cc)

-- what a word of short flags comes to: no flag has a short name
bundled : (rows : List Row) (word flags : Text) (first : Option ℕ) (next : Text → ℕ → Outcome → Held → Held × Outcome)
    → step_fault shape 1 (after_flag shape.rules idle word (bundle_step shape.rules first flags 0 plain (held rows) next).0 (bundle_step shape.rules first flags 0 plain (held rows) next).1).0
    (after_flag shape.rules idle word (bundle_step shape.rules first flags 0 plain (held rows) next).0 (bundle_step shape.rules first flags 0 plain (held rows) next).1).1 ≡ kind.UnknownArgument ∷ []
bundled rows word flags None next = refl
bundled rows word flags (Some x) next = refl

bundles : (rows : List Row) (word flags : Text) (k : ℕ)
    → step_fault shape 1 (after_flag shape.rules idle word (bundle_met shape.rules k flags 0 plain (held rows)).0 (bundle_met shape.rules k flags 0 plain (held rows)).1).0
    (after_flag shape.rules idle word (bundle_met shape.rules k flags 0 plain (held rows)).0 (bundle_met shape.rules k flags 0 plain (held rows)).1).1 ≡ kind.UnknownArgument ∷ []
unfolding bundle_met
bundles rows word flags zero = refl
bundles rows word flags (suc k) = bundled rows word flags (slice_get (chars flags) 0) (bundle_met shape.rules k)

unnamed : (rows : List Row) (word : Text) (short : Option Text) → short_of word ≡ short → said rows word None ≢ []
unnamed rows word None e = rw e (λ e. cc)
unnamed rows word (Some flags) e = rw e (rw (bundles rows word flags (length flags)) (some_after (bundle_fault shape.rules false flags (held rows)) kind.UnknownArgument []))

-- a name that is read of a word is another flag's, where the word is not that flag
differs : (word name : Text) (v : Option Text) (flag : Text) → bytes_eq word (45 ∷ 45 ∷ flag) ≡ false → long_of word ≡ Some (name, v) → v ≡ None → bytes_eq flag name ≡ false
differs word name v flag f e none = by (bytes_eq flag name) refl
  where
    by : (t : Bool) → bytes_eq flag name ≡ t → t ≡ false
    by false h = refl
    by true h =
        let same : flag ≡ name = (bytes_eq-Decides flag name).0 h in
        let is : word ≡ 45 ∷ 45 ∷ name = long_is word name (e ∙ ap (λ w. Some (name, w)) none) in
        absurd (false≢true (sym f ∙ (bytes_eq-Decides word (45 ∷ 45 ∷ flag)).1 (is ∙ ap (λ t. 45 ∷ 45 ∷ t) (sym same))))

-- a word that is no flag and not just two hyphens is refused
other : (rows : List Row) (word : Text) → bytes_eq word (codes "--book") ≡ false → bytes_eq word (codes "--check") ≡ false → bytes_eq word (codes "--texts") ≡ false → bytes_eq word (codes "--") ≡ false
    → turn_fault shape [] (at rows) word ≢ []
other rows word b c d m = rw m (by (long_of word) refl)
  where
    by : (long : Option (Text × Option Text)) → long_of word ≡ long → said rows word long ≢ []
    by None e = unnamed rows word (short_of word) refl
    by (Some p) e = named rows word p.0 p.1 (bytes_eq (codes "book") p.0) (bytes_eq (codes "check") p.0) (bytes_eq (codes "texts") p.0) refl refl refl
        (differs word p.0 p.1 (codes "book") b e) (differs word p.0 p.1 (codes "check") c e) (differs word p.0 p.1 (codes "texts") d e)

-- ---- what is held

-- what is held of a flag that was given
abbrev given : Text → Row
given name = record { id = name; values = codes "true" ∷ []; count = None; source = Some CommandLine; reading = reading_of parser.Bool }

abbrev given_if : Text → Bool → Option Row
given_if name true = Some (given name)
given_if name false = None

abbrev row_at : Text → List Row → Option Row
row_at name rows = find (λ r. bytes_eq r.id name) rows

met : (p : Row → Bool) (rows : List Row) → list_any p rows ≡ is_some (find p rows)
met p [] = refl
met p (r ∷ rows) = by (p r) refl (met p rows)
  where
    by : (t : Bool) → p r ≡ t → list_any p rows ≡ is_some (find p rows) → list_any p (r ∷ rows) ≡ is_some (find p (r ∷ rows))
    by true e rest = rw e refl
    by false e rest = rw e rest

-- what is changed of a flag that isn't held is after the rows
behind : (name : Text) (change : Row → List Row) (missing rows : List Row) → row_at name rows ≡ None → at_row name change missing rows ≡ rows ++ missing
behind name change missing [] none = refl
behind name change missing (r ∷ rows) none = by (bytes_eq r.id name) refl none (behind name change missing rows)
  where
    by : (t : Bool) → bytes_eq r.id name ≡ t → (if t then Some r else row_at name rows) ≡ None → (row_at name rows ≡ None → at_row name change missing rows ≡ rows ++ missing)
        → at_row name change missing (r ∷ rows) ≡ (r ∷ rows) ++ missing
    by true e n rest = cc
    by false e n rest = rw e (ap (λ rs. r ∷ rs) (rest n))

-- one row more
last : (name : Text) (new : Row) (rows : List Row) → row_at name (rows ++ new ∷ []) ≡ option_or (row_at name rows) (if bytes_eq new.id name then Some new else None)
last name new [] = refl
last name new (r ∷ rows) = by (bytes_eq r.id name) refl (last name new rows)
  where
    by : (t : Bool) → bytes_eq r.id name ≡ t → row_at name (rows ++ new ∷ []) ≡ option_or (row_at name rows) (if bytes_eq new.id name then Some new else None)
        → row_at name (r ∷ rows ++ new ∷ []) ≡ option_or (row_at name (r ∷ rows)) (if bytes_eq new.id name then Some new else None)
    by true e rest = rw e refl
    by false e rest = rw e rest

or_none : (o : Option Row) → option_or o None ≡ o
or_none None = refl
or_none (Some r) = refl

-- it is found by its own name, and others as before
found : (name : Text) (new : Row) (rows : List Row) → bytes_eq new.id name ≡ true → row_at name rows ≡ None → row_at name (rows ++ new ∷ []) ≡ Some new
found name new rows own none =
    last name new rows ∙ ap (λ (t : Bool). option_or (row_at name rows) (if t then Some new else None)) own ∙ ap (λ o. option_or o (Some new)) none

kept : (name : Text) (new : Row) (rows : List Row) → bytes_eq new.id name ≡ false → row_at name (rows ++ new ∷ []) ≡ row_at name rows
kept name new rows apart = last name new rows ∙ ap (λ (t : Bool). option_or (row_at name rows) (if t then Some new else None)) apart ∙ or_none (row_at name rows)

-- what is held where these flags were given
record Has (b c d : Bool) (rows : List Row) : Type 0 where
  pub book : row_at (codes "book") rows ≡ given_if (codes "book") b
  pub check : row_at (codes "check") rows ≡ given_if (codes "check") c
  pub texts : row_at (codes "texts") rows ≡ given_if (codes "texts") d

-- ---- one word more

abbrev options : Bool → Bool → Bool → Options
options b c d = record { book = b; check = c; texts = d }

-- what is held after a flag
abbrev flagged : Text → List Row → List Row
flagged name rows = with_values name (reading_of parser.Bool) CommandLine (codes "true" ∷ []) (without name rows)

flagged_is : (name : Text) (rows : List Row) → row_at name rows ≡ None → flagged name rows ≡ rows ++ given name ∷ []
flagged_is name rows none =
    ap (with_values name (reading_of parser.Bool) CommandLine (codes "true" ∷ [])) (behind name (λ r. []) [] rows none ∙ append-nil rows) ∙ behind name (more_values CommandLine (codes "true" ∷ [])) (given name ∷ []) rows none

-- what is said of a flag that may be held already
abbrev repeated : Text → List Row → Kinds
repeated name rows = or_else (or_else (repeat_fault false name rows) []) []

is_repeated : (name : Text) (rows : List Row) (held : Option Row) → row_at name rows ≡ held → repeated name rows ≡ (if is_some held then kind.ArgumentConflict ∷ [] else [])
is_repeated name rows None e = ap (λ (t : Bool). or_else (or_else (if t && not false then kind.ArgumentConflict ∷ [] else []) []) []) (met (λ r. bytes_eq r.id name) rows ∙ ap is_some e)
is_repeated name rows (Some r) e = ap (λ (t : Bool). or_else (or_else (if t && not false then kind.ArgumentConflict ∷ [] else []) []) []) (met (λ r. bytes_eq r.id name) rows ∙ ap is_some e)

-- a word is one more flag
record Goes (b c d : Bool) (rows : List Row) (word : Text) : Type 0 where
  book : Bool
  check : Bool
  texts : Bool
  more : List Row
  word_is : with_word word (options b c d) ≡ Some (options book check texts)
  has : Has book check texts more
  passes : turn_fault shape [] (at rows) word ≡ []
  moves : walked shape.rules [] (at rows) word ≡ at more

-- or it is none
record Stops (b c d : Bool) (rows : List Row) (word : Text) : Type 0 where
  word_is : with_word word (options b c d) ≡ None
  fails : turn_fault shape [] (at rows) word ≢ []

abbrev Turn : Bool → Bool → Bool → List Row → Text → Type 0
Turn b c d rows word = Goes b c d rows word ⊎ Stops b c d rows word

one_conflict : (ks : Kinds) → ks ≡ kind.ArgumentConflict ∷ [] → ks ≢ []
one_conflict ks is e = cc

fault_book : (rows : List Row) → turn_fault shape [] (at rows) (codes "--book") ≡ repeated (codes "book") rows
unfolding clap_on_literals
fault_book rows = refl

fault_check : (rows : List Row) → turn_fault shape [] (at rows) (codes "--check") ≡ repeated (codes "check") rows
unfolding clap_on_literals
fault_check rows = refl

fault_texts : (rows : List Row) → turn_fault shape [] (at rows) (codes "--texts") ≡ repeated (codes "texts") rows
unfolding clap_on_literals
fault_texts rows = refl

moves_book : (rows : List Row) → walked shape.rules [] (at rows) (codes "--book") ≡ at (flagged (codes "book") rows)
unfolding clap_on_literals
moves_book rows = refl

moves_check : (rows : List Row) → walked shape.rules [] (at rows) (codes "--check") ≡ at (flagged (codes "check") rows)
unfolding clap_on_literals
moves_check rows = refl

moves_texts : (rows : List Row) → walked shape.rules [] (at rows) (codes "--texts") ≡ at (flagged (codes "texts") rows)
unfolding clap_on_literals
moves_texts rows = refl

turn_book : (b c d : Bool) (rows : List Row) → Has b c d rows → Turn b c d rows (codes "--book")
turn_book false c d rows h = inl (record {
  book = true;
  check = c;
  texts = d;
  more = rows ++ given (codes "book") ∷ [];
  word_is = refl;
  has = record {
    book = found (codes "book") (given (codes "book")) rows refl h.book;
    check = kept (codes "check") (given (codes "book")) rows refl ∙ h.check;
    texts = kept (codes "texts") (given (codes "book")) rows refl ∙ h.texts;
  };
  passes = fault_book rows ∙ is_repeated (codes "book") rows None h.book;
  moves = moves_book rows ∙ ap at (flagged_is (codes "book") rows h.book);
})
turn_book true c d rows h = inr (record { word_is = refl; fails = one_conflict (turn_fault shape [] (at rows) (codes "--book")) (fault_book rows ∙ is_repeated (codes "book") rows (Some (given (codes "book"))) h.book) })

turn_check : (b c d : Bool) (rows : List Row) → Has b c d rows → Turn b c d rows (codes "--check")
turn_check b false d rows h = inl (record {
  book = b;
  check = true;
  texts = d;
  more = rows ++ given (codes "check") ∷ [];
  word_is = refl;
  has = record {
    book = kept (codes "book") (given (codes "check")) rows refl ∙ h.book;
    check = found (codes "check") (given (codes "check")) rows refl h.check;
    texts = kept (codes "texts") (given (codes "check")) rows refl ∙ h.texts;
  };
  passes = fault_check rows ∙ is_repeated (codes "check") rows None h.check;
  moves = moves_check rows ∙ ap at (flagged_is (codes "check") rows h.check);
})
turn_check b true d rows h = inr (record { word_is = refl; fails = one_conflict (turn_fault shape [] (at rows) (codes "--check")) (fault_check rows ∙ is_repeated (codes "check") rows (Some (given (codes "check"))) h.check) })

turn_texts : (b c d : Bool) (rows : List Row) → Has b c d rows → Turn b c d rows (codes "--texts")
turn_texts b c false rows h = inl (record {
  book = b;
  check = c;
  texts = true;
  more = rows ++ given (codes "texts") ∷ [];
  word_is = refl;
  has = record {
    book = kept (codes "book") (given (codes "texts")) rows refl ∙ h.book;
    check = kept (codes "check") (given (codes "texts")) rows refl ∙ h.check;
    texts = found (codes "texts") (given (codes "texts")) rows refl h.texts;
  };
  passes = fault_texts rows ∙ is_repeated (codes "texts") rows None h.texts;
  moves = moves_texts rows ∙ ap at (flagged_is (codes "texts") rows h.texts);
})
turn_texts b c true rows h = inr (record { word_is = refl; fails = one_conflict (turn_fault shape [] (at rows) (codes "--texts")) (fault_texts rows ∙ is_repeated (codes "texts") rows (Some (given (codes "texts"))) h.texts) })

turn : (b c d : Bool) (rows : List Row) (word : Text) → Has b c d rows → bytes_eq word (codes "--") ≡ false → Turn b c d rows word
turn b c d rows word h m = by (bytes_eq word (codes "--book")) (bytes_eq word (codes "--check")) (bytes_eq word (codes "--texts")) refl refl refl
  where
    by : (s t u : Bool) → bytes_eq word (codes "--book") ≡ s → bytes_eq word (codes "--check") ≡ t → bytes_eq word (codes "--texts") ≡ u → Turn b c d rows word
    by true t u es et eu = subst (λ w. Turn b c d rows w) (sym ((bytes_eq-Decides word (codes "--book")).0 es)) (turn_book b c d rows h)
    by false true u es et eu = subst (λ w. Turn b c d rows w) (sym ((bytes_eq-Decides word (codes "--check")).0 et)) (turn_check b c d rows h)
    by false false true es et eu = subst (λ w. Turn b c d rows w) (sym ((bytes_eq-Decides word (codes "--texts")).0 eu)) (turn_texts b c d rows h)
    by false false false es et eu = inr (record { word_is = rw (es, et, eu) refl; fails = other rows word es et eu m })

-- ---- all words

record AllGo (b c d : Bool) (rows : List Row) (words : List Text) : Type 0 where
  pub book : Bool
  pub check : Bool
  pub texts : Bool
  pub end : List Row
  pub words_are : options_after (options b c d) words ≡ Some (options book check texts)
  pub has : Has book check texts end
  pub passes : walk_fault shape [] (at rows) words ≡ []
  pub moves : fold (walked shape.rules []) (at rows) words ≡ at end

record OneStops (b c d : Bool) (rows : List Row) (words : List Text) : Type 0 where
  pub words_are : options_after (options b c d) words ≡ None
  pub fails : walk_fault shape [] (at rows) words ≢ []

abbrev Walks : Bool → Bool → Bool → List Row → List Text → Type 0
Walks b c d rows words = AllGo b c d rows words ⊎ OneStops b c d rows words

one_more : (b c d : Bool) (rows : List Row) (word : Text) (words : List Text) (g : Goes b c d rows word) → Walks g.book g.check g.texts g.more words → Walks b c d rows (word ∷ words)
unfolding walk_fault
one_more b c d rows word words g (inl a) = inl (record {
  book = a.book;
  check = a.check;
  texts = a.texts;
  end = a.end;
  words_are = rw g.word_is a.words_are;
  has = a.has;
  passes = rw (g.passes, g.moves) a.passes;
  moves = rw g.moves a.moves;
})
one_more b c d rows word words g (inr a) = inr (record {
  words_are = rw g.word_is a.words_are;
  fails = rw (g.passes, g.moves) a.fails;
})

some_first : (first next : Kinds) → first ≢ [] → or_else first next ≢ []
some_first [] next ne = absurd (ne refl)
some_first (k ∷ ks) next ne = λ e. cc

no_more : (b c d : Bool) (rows : List Row) (word : Text) (words : List Text) → Stops b c d rows word → Walks b c d rows (word ∷ words)
unfolding walk_fault
no_more b c d rows word words s = inr (record {
  words_are = rw s.word_is refl;
  fails = some_first (turn_fault shape [] (at rows) word) (walk_fault shape [] (walked shape.rules [] (at rows) word) words) s.fails;
})

no_words : (rows : List Row) → walk_fault shape [] (at rows) [] ≡ []
unfolding walk_fault
no_words rows = refl

walks : (words : List Text) (b c d : Bool) (rows : List Row) → Has b c d rows → list_any (λ word. bytes_eq word (codes "--")) words ≡ false → Walks b c d rows words
walks [] b c d rows h m = inl (record { book = b; check = c; texts = d; end = rows; words_are = refl; has = h; passes = no_words rows; moves = refl })
walks (word ∷ words) b c d rows h m =
    let apart : (bytes_eq word (codes "--") ≡ false) × (list_any (λ w. bytes_eq w (codes "--")) words ≡ false) = neither _ _ m in
    elim (turn b c d rows word h apart.0) [
      | inl g ↦ one_more b c d rows word words g (walks words g.book g.check g.texts g.more g.has apart.1)
      | inr s ↦ no_more b c d rows word words s
    ]

-- ---- the whole parse

-- what is said after the words
abbrev rest : Walk → Kinds
rest w = or_else (entered_fault (built command_line) w.stopped)
    (or_else (settle_fault shape.rules false w.held)
    (or_else (defaults_fault (settled shape.rules w.held).rows shape.rules)
    (check_fault shape (finished shape.rules w.held) (is_some (entered (built command_line) w.stopped)))))

rest_is : (words : List Text) → fault_of command_line words ≡ or_else (walk_fault shape [] (at []) words) (rest (fold (walked shape.rules []) (at []) words))
rest_is words = refl

-- an argument that was not used has a default value that is no fault
abbrev HaveDefaults : List Rule → Type 0
HaveDefaults [] = Unit {0}
HaveDefaults (a ∷ rules) = (given_default_fault a a.defaults ≡ []) × HaveDefaults rules

default_none : (a : Rule) (rows : List Row) → given_default_fault a a.defaults ≡ [] → default_fault rows a ≡ []
default_none a rows none = by (has_row a.id rows || is_empty a.defaults)
  where
    by : (t : Bool) → (if t then [] else given_default_fault a a.defaults) ≡ []
    by true = refl
    by false = none

defaults_none : (rows : List Row) (rules : List Rule) → HaveDefaults rules → defaults_fault rows rules ≡ []
unfolding defaults_fault
defaults_none rows [] h = refl
defaults_none rows (a ∷ rules) h = ap (λ ks. or_else ks (defaults_fault (with_default rows a) rules)) (default_none a rows h.0) ∙ defaults_none (with_default rows a) rules h.1

flags_have_defaults : HaveDefaults shape.rules
unfolding clap_on_literals
flags_have_defaults = (refl, (refl, (refl, tt)))

rest_at : (rows : List Row) → rest (at rows) ≡ or_else (defaults_fault rows shape.rules) []
unfolding clap_on_literals
rest_at rows = refl

nothing_more : (rows : List Row) → rest (at rows) ≡ []
nothing_more rows = rest_at rows ∙ ap (λ ks. or_else ks []) (defaults_none rows shape.rules flags_have_defaults)

-- ---- what is read

-- the text of a flag
abbrev pub flag_text : Bool → Text
flag_text true = codes "true"
flag_text false = codes "false"

-- a flag that was not given has a default value
abbrev unset : Text → Row
unset name = record { id = name; values = codes "false" ∷ []; count = None; source = Some DefaultValue; reading = reading_of parser.Bool }

abbrev final : Text → Bool → Row
final name true = given name
final name false = unset name

abbrev rule : Text → Rule
rule name = filled (flag name)

-- it is given one where it has none
unset_is : (name : Text) (rows : List Row) → row_at name rows ≡ None → with_default rows (rule name) ≡ rows ++ unset name ∷ []
unset_is name rows none =
    ap (λ (t : Bool). if t then rows else with_values name (reading_of parser.Bool) DefaultValue (codes "false" ∷ []) rows) (met (λ r. bytes_eq r.id name) rows ∙ ap is_some none)
    ∙ behind name (more_values DefaultValue (codes "false" ∷ [])) (unset name ∷ []) rows none

set_is : (name : Text) (rows : List Row) (r : Row) → row_at name rows ≡ Some r → with_default rows (rule name) ≡ rows
set_is name rows r some = ap (λ (t : Bool). if t then rows else with_values name (reading_of parser.Bool) DefaultValue (codes "false" ∷ []) rows) (met (λ r. bytes_eq r.id name) rows ∙ ap is_some some)

own : (name : Text) (b : Bool) (rows : List Row) → row_at name rows ≡ given_if name b → row_at name (with_default rows (rule name)) ≡ Some (final name b)
own name true rows h = ap (row_at name) (set_is name rows (given name) h) ∙ h
own name false rows h = ap (row_at name) (unset_is name rows h) ∙ found name (unset name) rows ((bytes_eq-Decides name name).1 refl) h

apart : (name other : Text) (rows : List Row) → bytes_eq other name ≡ false → row_at name (with_default rows (rule other)) ≡ row_at name rows
apart name other rows differ = by (row_at other rows) refl
  where
    by : (o : Option Row) → row_at other rows ≡ o → row_at name (with_default rows (rule other)) ≡ row_at name rows
    by (Some r) e = ap (row_at name) (set_is other rows r e)
    by None e = ap (row_at name) (unset_is other rows e) ∙ kept name (unset other) rows differ

final_text : (name : Text) (b : Bool) → row_text (final name b) ≡ Some (flag_text b)
unfolding clap_on_literals
final_text name true = refl
final_text name false = refl

one_text : (name : Text) (b : Bool) (rows : List Row) → row_at name rows ≡ Some (final name b) → one_of name rows ≡ Some (flag_text b)
one_text name b rows is = ap (option_and_then row_text) is ∙ final_text name b

record Reads (b c d : Bool) (rows : List Row) : Type 0 where
  pub book : one_of (codes "book") rows ≡ Some (flag_text b)
  pub check : one_of (codes "check") rows ≡ Some (flag_text c)
  pub texts : one_of (codes "texts") rows ≡ Some (flag_text d)

reads : (b c d : Bool) (rows : List Row) → Has b c d rows → Reads b c d (finished shape.rules (held rows))
reads b c d rows h =
    let first : List Row = with_default rows (rule (codes "book")) in
    let second : List Row = with_default first (rule (codes "check")) in
    let third : List Row = with_default second (rule (codes "texts")) in
    record {
      book = one_text (codes "book") b third
          (apart (codes "book") (codes "texts") second refl ∙ apart (codes "book") (codes "check") first refl ∙ own (codes "book") b rows h.book);
      check = one_text (codes "check") c third
          (apart (codes "check") (codes "texts") second refl ∙ own (codes "check") c first (apart (codes "check") (codes "book") rows refl ∙ h.check));
      texts = one_text (codes "texts") d third
          (own (codes "texts") d second (apart (codes "texts") (codes "check") first refl ∙ apart (codes "texts") (codes "book") rows refl ∙ h.texts));
    }

-- the words are parsed as these flags
pub record Parsed (words : List Text) : Type 0 where
  pub book : Bool
  pub check : Bool
  pub texts : Bool
  pub words_are : options_of words ≡ Some (options book check texts)
  pub book_is : one_of (codes "book") (matches_of command_line words) ≡ Some (flag_text book)
  pub check_is : one_of (codes "check") (matches_of command_line words) ≡ Some (flag_text check)
  pub texts_is : one_of (codes "texts") (matches_of command_line words) ≡ Some (flag_text texts)

-- the parse finds no fault where the words ask for options, and else it finds one
abbrev pub Verdict : List Text → Type 0
Verdict words = (Parsed words × (fault_of command_line words ≡ [])) ⊎ ((options_of words ≡ None) × (fault_of command_line words ≢ []))

parsed : (words : List Text) (a : AllGo false false false [] words) → Parsed words
parsed words a =
    let flags : Reads a.book a.check a.texts (finished shape.rules (held a.end)) = reads a.book a.check a.texts a.end a.has in
    let rows_are : finished shape.rules (fold (walked shape.rules []) (at []) words).held ≡ finished shape.rules (held a.end) = ap (λ (w : Walk). finished shape.rules w.held) a.moves in
    record {
      book = a.book;
      check = a.check;
      texts = a.texts;
      words_are = a.words_are;
      book_is = ap (one_of (codes "book")) rows_are ∙ flags.book;
      check_is = ap (one_of (codes "check")) rows_are ∙ flags.check;
      texts_is = ap (one_of (codes "texts")) rows_are ∙ flags.texts;
    }

pub verdict : (words : List Text) → list_any (λ word. bytes_eq word (codes "--")) words ≡ false → Verdict words
verdict words m = elim (walks words false false false [] (record { book = refl; check = refl; texts = refl }) m) [
  | inl a ↦ inl (parsed words a, rest_is words ∙ rw a.passes (rw a.moves (nothing_more a.end)))
  | inr s ↦ inr (s.words_are, λ e. some_first (walk_fault shape [] (at []) words) (rest (fold (walked shape.rules []) (at []) words)) s.fails (sym (rest_is words) ∙ e))
]

-- just two hyphens are no flag
after_any : (first : Option Options) (words : List Text) → ((more : Options) → options_after more words ≡ None) → option_and_then (λ more. options_after more words) first ≡ None
after_any None words none = refl
after_any (Some more) words none = none more

pub marked : (words : List Text) (o : Options) → list_any (λ word. bytes_eq word (codes "--")) words ≡ true → options_after o words ≡ None
marked [] o m = absurd (false≢true m)
marked (word ∷ words) o m = by (bytes_eq word (codes "--")) refl m (marked words)
  where
    by : (t : Bool) → bytes_eq word (codes "--") ≡ t → (t || list_any (λ w. bytes_eq w (codes "--")) words) ≡ true
        → ((more : Options) → list_any (λ w. bytes_eq w (codes "--")) words ≡ true → options_after more words ≡ None) → options_after o (word ∷ words) ≡ None
    by true e m none = subst (λ (w : Text). options_after o (w ∷ words) ≡ None) (sym ((bytes_eq-Decides word (codes "--")).0 e)) refl
    by false e m none = after_any (with_word word o) words (λ more. none more m)

pub is_simple_line : is_simple_and_free command_line ≡ true
is_simple_line = refl

-- what a flag says, as it is read
pub flag_is : (r b : Bool) (text : Option Text) → text ≡ Some (flag_text b) → (text ≡ Some (codes "true") → r ≡ true) → (text ≡ Some (codes "false") → r ≡ false) → r ≡ b
flag_is r true text e if_true if_false = if_true e
flag_is r false text e if_true if_false = if_false e

-- an error that is no running out of memory comes of words that ask for nothing
pub refused : (words : List Text) (e : Error) → Verdict words → HasKind (fault_of command_line words) e → kind_of e ≢ kind.OutOfMemory → options_of words ≡ None
refused words e (inl p) has other = absurd (elim (subst (λ kinds. HasKind kinds e) p.1 has) [ inl memory ↦ other memory | inr among ↦ among ])
refused words e (inr s) has other = s.0
