-- Ends that a session does not have.
use Rattle.simulator.proofs.Common.{◌≡◌, ◌∙◌, Appends, Err, Keeps, List, ap, inr, parted_once, subst, ℕ}
use Rattle.std.proofs.Common.{◌++◌, ◌∷◌, None, Ok, Option, Some, [], codes, inl, refl, sym}
use Rattle.std.proofs.lemmas.List.{append_cancel_right}
use Rattle.command_line.specs.declared.fault.ScriptFault.TheVariants as script
use Rattle.command_line.specs.declared.options.Task.TheVariants as task
use Rattle.script.specs.Input.{IsParted}
use Rattle.script.specs.Script.{lines_of}
use Rattle.session.specs.Head.{IsHead}
use Rattle.session.specs.Session.{EndsEarly, IsSession}
use Rattle.session.specs.Turns.{Turn, script_of, session_of}
use Rattle.simulator.specs.WorkedSides.{Never, ran, wrote}
use Rattle.simulator.specs.declared.program.Done.TheVariants as did
use Rattle.simulator.specs.declared.program.ProgramFault.TheVariants as fault
use Rattle.simulator.proofs.OneProgram.{no_parts}
use Rattle.simulator.proofs.WorkedPrograms.{kept_nothing, nothing_ended}

-- the input of a session begins with its head
parted : (octets : List ℕ) (before after : Option (List ℕ)) (h : IsSession octets before after) → IsParted octets h.document (script_of h.turns)
parted octets before after h = subst (λ xs. IsParted xs h.document (script_of h.turns)) (sym h.whole) (h.opens (script_of h.turns))

pub no_input : Never task.Live (wrote (codes "end\n")) (Ok did.Written)
no_input o (Ok done, written, inl (is, kept), ends) = no_parts _ _ (parted [] _ _ ends.session)
no_input o (Err f, written, inl (is, kept), ends) = cc
no_input o (ended, written, inr (is, other), ends) = cc

pub no_session : Never task.Live (wrote []) (Ok did.Written)
no_session o (Ok done, written, inl (is, kept), ends) = nothing_ended _ written ends.session.written kept
no_session o (Err f, written, inl (is, kept), ends) = cc
no_session o (ended, written, inr (is, other), ends) = cc

-- each line has at least an empty line
some_line : (answer rest : List ℕ) → (answer ++ 10 ∷ []) ++ rest ≡ [] → ⊥
some_line [] rest e = cc
some_line (x ∷ answer) rest e = cc

none_answered : (turns : List Turn) → session_of turns ≡ [] → script_of turns ≡ []
none_answered [] e = refl
none_answered (t ∷ turns) e = absurd (some_line t.answer (session_of turns) e)

only_end : (said : List ℕ) (written : Option (List ℕ)) → Appends (Some []) written (said ++ codes "end\n") → Keeps written (Some (codes "end\n")) → said ≡ []
only_end said None h k = absurd h
only_end said (Some ys) h k = sym (append_cancel_right [] said (codes "end\n") (k ∙ h))

pub unanswered : (head document : List ℕ) → IsHead head document → Never task.Live (ran (head ++ codes "\n") (codes "end\n")) (Ok did.Written)
unanswered head document opens o (Ok done, written, inl (is, kept), ends) =
    let h = ends.session in
    let none : script_of h.turns ≡ [] = none_answered h.turns (only_end (session_of h.turns) written h.written kept) in
    let same = parted_once (head ++ codes "\n") document (codes "\n") h.document (script_of h.turns) (opens (codes "\n")) (parted (head ++ codes "\n") _ _ h) in
    let bad : lines_of (codes "\n") ≡ lines_of [] = same.scripts ∙ ap lines_of none in cc
unanswered head document opens o (Err f, written, inl (is, kept), ends) = cc
unanswered head document opens o (ended, written, inr (is, other), ends) = cc

-- before a bad topology nothing is written
unwritten : (input : List ℕ) (written : Option (List ℕ)) → EndsEarly input script.BadTopology (Some []) written → Keeps (Some []) written
unwritten input written (inl (none, kept)) = kept
unwritten input written (inr (head, rest, opens, inl (bad, kept))) = kept
unwritten input written (inr (head, rest, opens, inr breaks)) = absurd breaks.cause

pub answered_first : (input : List ℕ) (x : ℕ) → Never task.Live (ran input (x ∷ [])) (Err (fault.Script script.BadTopology))
answered_first input x o (Ok done, written, inl (is, kept), ends) = cc
answered_first input x o (Err f, written, inl (is, kept), ends) =
    let same : f ≡ script.BadTopology = cc in
    kept_nothing written x (unwritten input written (subst (λ g. EndsEarly input g (Some []) written) same ends.early)) kept
answered_first input x o (ended, written, inr (is, other), ends) = cc
