-- Words without marks are closed, and the two truth values have words of their own.
pub use Rattle.trace.proofs.FirstLine.{word_closed}
use Rattle.trace.proofs.Common.{◌≡◌, ℕ, Bool, true, false, List, [], ◌∷◌, codes, sym, ap, refl, ◌∙◌, All-cons, All-nil, All, list_all, bytes_eq}
use Rattle.trace.specs.Texts.{bool_text}
use Rattle.trace.proofs.Closed.{IsClosed, Spelled, is_plain, plain_closed}
use Rattle.trace.proofs.FirstLine.{plain_all}

-- any value of this kind
abbrev pub Any : {X : Type 0} → X → Type 0
Any x = Unit {0}

-- ---- plain words

is_true_word : List ℕ → Bool
is_true_word word = bytes_eq word (codes "true")

bool_again : (b : Bool) → is_true_word (bool_text b) ≡ b
unfolding is_true_word
bool_again true = refl
bool_again false = refl

pub bool_spelled : Spelled bool_text Any
bool_spelled = record { closed = closed; once = λ b c p q e. sym (bool_again b) ∙ ap is_true_word e ∙ bool_again c } where
  closed : (b : Bool) → Any b → IsClosed (bool_text b)
  closed true any = word_closed 116 (codes "rue") refl
  closed false any = word_closed 102 _ refl
