use Rattle.script.proofs.Texts.{word_of_text, text_word}
use Rattle.script.proofs.law.texts.Goals as goal

pub returns-clause-words : goal.returns-clause-words
returns-clause-words c = word_of_text

pub returns-clause-only_these : goal.returns-clause-only_these
returns-clause-only_these c = text_word
