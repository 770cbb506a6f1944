use Rattle.flow_law.proofs.Common.{[], Contains, contains_none}
use Rattle.flow_law.specs.Moves.{Makes, Either, view_moved}
use Rattle.flow_law.specs.Runs.{ByTest}
use Rattle.flow_law.proofs.Clauses.{invariant_less}
use Rattle.flow_law.proofs.AllMoves.{invariant_after}
use Rattle.flow_law.proofs.RunLemmas.{history_sound, opening_invariant}
use Rattle.flow_law.proofs.law.mailbox.Goals as goal

pub returns-clause-flow : goal.returns-clause-flow
returns-clause-flow c = λ test start turns o h. (history_sound {Piece = ByTest test} start turns o h).run

pub returns-clause-mail : goal.returns-clause-mail
returns-clause-mail c = λ test start turns o h. (history_sound {Piece = ByTest test} start turns o h).mail

pub returns-clause-clauses : goal.returns-clause-clauses
returns-clause-clauses c = λ test start turns o h. (history_sound {Piece = ByTest test} start turns o h).clauses

pub returns-clause-opening : goal.returns-clause-opening
returns-clause-opening c = λ test start o. opening_invariant start (Contains []) o contains_none

pub returns-clause-kept : goal.returns-clause-kept
returns-clause-kept c = λ test v alive turn h is. invariant_less (view_moved turn.move v) (Either (Contains alive) (Makes (ByTest test) turn.move v)) (Contains turn.left) is.left (invariant_after turn.move v _ is.needs h)
