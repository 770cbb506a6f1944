use Rattle.command_line.proofs.Common.{false≢true, list_any}
use Rattle.std.proofs.Common.{rules, ◌≡◌, ◌≢◌, ◌∙◌, ap, sym, subst, codes, map, Some, true, List, inl, inr, Bor}
use Rattle.std.specs.Str.{bytes_eq}
use Rattle.clap.specs.Walk.{one_of, Text, rows_of}
use Rattle.clap.specs.Kinds.{HasKind}
use Rattle.clap.specs.Values.{kind_of}
use Rattle.command_line.specs.Parser.{command_line}
use Rattle.clap.proofs.WalkLemmas.{list_any-map, one_text-rows}
use Rattle.clap.specs.Matches.{found_of}
use Rattle.clap.specs.Words.{App, app_of, fault_of, is_simple, is_simple_and_free, matches_of}
use Rattle.clap.specs.declared.error.kind.ErrorKind.TheVariants as kind
use Rattle.command_line.proofs.Flags.Words.{Verdict, flag_is, is_simple_line, marked, refused, verdict}
use Rattle.command_line.proofs.options.Options.read_texts.Goals as goal

marks : (words : List (Bor Text)) → list_any (λ word. bytes_eq word (codes "--")) (map (λ word. word.now) words) ≡ list_any (λ word. bytes_eq word.now (codes "--")) words
marks words = sym (list_any-map (λ word. bytes_eq word (codes "--")) (λ word. word.now) words)

pub returns-then-has_double_hyphen : goal.returns-then-has_double_hyphen
returns-then-has_double_hyphen c = marked (map (λ word. word.now) c.args.words.now) _ (marks c.args.words.now ∙ sym c.has_double_hyphen.ensures ∙ c.if-has_double_hyphen.true)

pub returns-in-Ok : goal.returns-in-Ok
returns-in-Ok c =
    let words : List Text = map (λ word. word.now) c.args.words.now in
    let found = found_of c.in-Ok.matches in
    let app_is = c.in_ok-command.ensures in
    let judged : Verdict words = verdict words (marks c.args.words.now ∙ sym c.has_double_hyphen.ensures ∙ c.if-has_double_hyphen.false) in
    let rows_are : rows_of found ≡ matches_of command_line words = (c.in-Ok.ensures.matches (ap is_simple app_is)).0 ∙ ap (λ (a : App). matches_of a words) app_is in
    elim judged [
      | inl p ↦
          let book : c.get_flag.result ≡ p.0.book = flag_is _ _ _ (one_text-rows found (codes "book") ∙ ap (one_of (codes "book")) rows_are ∙ p.0.book_is) c.get_flag.ensures.value c.get_flag.ensures.other in
          let check : c.get_flag-in-Ok.result ≡ p.0.check = flag_is _ _ _ (one_text-rows found (codes "check") ∙ ap (one_of (codes "check")) rows_are ∙ p.0.check_is) c.get_flag-in-Ok.ensures.value c.get_flag-in-Ok.ensures.other in
          let texts : c.get_flag-in-Ok-2.result ≡ p.0.texts = flag_is _ _ _ (one_text-rows found (codes "texts") ∙ ap (one_of (codes "texts")) rows_are ∙ p.0.texts_is) c.get_flag-in-Ok-2.ensures.value c.get_flag-in-Ok-2.ensures.other in
          p.0.words_are ∙ (λ i. Some (record { book = sym book i; check = sym check i; texts = sym texts i }))
      | inr s ↦ absurd (s.1 (sym (ap (λ (a : App). fault_of a words) app_is) ∙ c.in-Ok.ensures.kinds (ap is_simple_and_free app_is ∙ is_simple_line)))
    ]

pub returns-in-Err-2 : goal.returns-in-Err-2
returns-in-Err-2 c =
    let words : List Text = map (λ word. word.now) c.args.words.now in
    let app_is = c.in_ok-command.ensures in
    let judged : Verdict words = verdict words (marks c.args.words.now ∙ sym c.has_double_hyphen.ensures ∙ c.if-has_double_hyphen.false) in
    let kinds : HasKind (fault_of (app_of c.in_ok-command.field-0) words) c.in-Err.error = c.in-Err.ensures.kinds (ap is_simple_and_free app_is ∙ is_simple_line) in
    let other : kind_of c.in-Err.error ≢ kind.OutOfMemory = λ e.
    let is : c.kind.result ≡ kind.OutOfMemory = c.kind.ensures ∙ e in
    let told : c.eq.result ≡ true = search rules in
    absurd (false≢true (sym c.if-eq.false ∙ told)) in
    refused words c.in-Err.error judged (subst (λ (a : App). HasKind (fault_of a words) c.in-Err.error) app_is kinds) other
