use Rattle.std.proofs.Common.{sym, ◌∙◌}
use Rattle.std.proofs.lemmas.Bool.{false≢true}
use Rattle.world_script.proofs.Lines.{no_plain}
use Rattle.world_script.proofs.events.read_plain.Goals as goal

pub returns-in_err-read_net : goal.returns-in_err-read_net
returns-in_err-read_net c =
    rw c.from_residual-in_err-read_net.ensures (no_plain c.args.word.now c.args.rest.now c.requires.word c.requires.not_asked c.requires.not_typed c.requires.not_out
    (λ e. false≢true (sym c.if-is_word.false ∙ c.is_word.ensures.1 e))
    (λ e. false≢true (sym c.if-is_word-2.false ∙ c.is_word-2.ensures.1 e))
    (λ e. false≢true (sym c.if-is_word-3.false ∙ c.is_word-3.ensures.1 e))
    (λ e. false≢true (sym c.if-is_word-4.false ∙ c.is_word-4.ensures.1 e))
    (λ e. false≢true (sym c.if-is_word-5.false ∙ c.is_word-5.ensures.1 e))
    c.in_err-read_net.ensures)

pub returns-then-is_word-3 : goal.returns-then-is_word-3
returns-then-is_word-3 c = λ strangers. rw (c.is_word-3.ensures.0 c.if-is_word-3.true) (c.read_server.ensures strangers)

pub returns-then-is_word-4 : goal.returns-then-is_word-4
returns-then-is_word-4 c = λ strangers. rw (c.is_word-4.ensures.0 c.if-is_word-4.true) (c.read_user.ensures strangers)
