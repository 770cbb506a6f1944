use Rattle.std.proofs.Common.{◌∷◌, ◌++◌, codes, ap, ◌∙◌, subst, sym}
use Rattle.std.proofs.lemmas.Result.{IfErr-weaker}
use Rattle.world_script.specs.Steps.{verb_text}
use Rattle.world_script.specs.WorldSpelling.{WantsMemory}
use Rattle.world_script.proofs.Lines.{no_space, read_anywhere}
use Rattle.world_script.proofs.events.read_event.Goals as goal

pub returns-in_default-clause-read : goal.returns-in_default-clause-read
returns-in_default-clause-read c = no_space c.args.line.now c.in_default.ensures c.args.strangers

pub returns-in-Some-read_verb-clause-read : goal.returns-in-Some-read_verb-clause-read
returns-in-Some-read_verb-clause-read c =
    read_anywhere c.args.strangers c.args.line.now (verb_text c.in-Some-read_verb.verb ++ 32 ∷ c.in-Some.rest.now) c.read_ask.result
    (c.in-Some.ensures.0 ∙ ap (λ w. w ++ 32 ∷ c.in-Some.rest.now) c.in-Some-read_verb.ensures.0) c.read_ask.ensures.read

pub returns-then-is_word-clause-read : goal.returns-then-is_word-clause-read
returns-then-is_word-clause-read c =
    read_anywhere c.args.strangers c.args.line.now (codes "type " ++ c.in-Some.rest.now) c.read_typed.result
    (c.in-Some.ensures.0 ∙ ap (λ w. w ++ 32 ∷ c.in-Some.rest.now) (c.is_word.ensures.0 c.if-is_word.true)) c.read_typed.ensures.read

pub returns-then-is_word-clause-memory : goal.returns-then-is_word-clause-memory
returns-then-is_word-clause-memory c =
    let same = c.in-Some.ensures.0 ∙ ap (λ w. w ++ 32 ∷ c.in-Some.rest.now) (c.is_word.ensures.0 c.if-is_word.true) in
    IfErr-weaker c.read_typed.result _ (λ f. WantsMemory c.args.strangers c.args.line.now) (λ f wants. subst (WantsMemory c.args.strangers) (sym same) (wants c.args.strangers)) c.read_typed.ensures.memory

pub returns-clause-read : goal.returns-clause-read
returns-clause-read c = rw c.in-Some.ensures.0 (c.read_plain.ensures c.args.strangers)
