-- Events that are replayed in parts.
use Rattle.session.proofs.Common.{ReplaysWith}
use Rattle.std.proofs.Common.{◌∙◌, ◌++◌, List, ap₂, sym, ℕ}
use Rattle.replay.proofs.lemmas.{text_of-append}
use Rattle.replay.specs.InTurn.{Happening}
use Rattle.world_replay.proofs.lemmas.Driven.{in_turn_then}
use Rattle.session.specs.Turns.{GoesOn}

pub goes_on : {S E L : Type 0} (Happens : Happening S E L) (text : L → List ℕ) (Keeps : S → Type 0) → GoesOn (ReplaysWith Happens text Keeps)
goes_on Happens text Keeps old mid new events more said rest h k =
    (h.0 ++ k.0, in_turn_then Happens old mid new events more h.0 k.0 h.1 k.1, ap₂ (λ (xs ys : List ℕ). xs ++ ys) h.2 k.2 ∙ sym (text_of-append text h.0 k.0), k.3)
