-- What is found by a place is what is found.
use Rattle.std.proofs.Common.{◌≡◌, ℕ, ◌<◌, List, [], ◌∷◌, length, Option, Some, slice_index_or, sym, subst, ap, ◌∙◌, arith}
use Rattle.ncp_control.specs.declared.command.Command.{Command}
use Rattle.host_pairs.specs.Commands as commands
use Rattle.host_pairs.specs.Commands.{found_in, at_end}
use Rattle.host_pairs.specs.Found.{IsFor}
use Rattle.host_pairs.specs.declared.entry.Entry.{Entry}
use Rattle.host_pairs.specs.Desk.{DeskState}
use Rattle.host_pairs.specs.declared.found.Found.{Found}
use Rattle.host_pairs.specs.declared.found.Found.TheVariants as found

pub for_found : (entries : List Entry) (at : ℕ) (answer : Found) (what : Option Entry) → at < length entries → ((d : Entry) → what ≡ Some (slice_index_or entries at d))
    → ((d : Entry) → IsFor entries answer (found_in (Some (slice_index_or entries at d)))) → IsFor entries answer (found_in what)
for_found [] at answer what there is told = absurd (omega (arith, there))
for_found (e ∷ es) at answer what there is told = subst (λ (o : Option Entry). IsFor (e ∷ es) answer (found_in o)) (sym (is e)) (told e)

-- what is done whatever the open end is like, is done at the open end
pub at_open : (entries : List Entry) (at : ℕ) (what same : commands.Found) (c : Command) (change : Entry → DeskState → DeskState) (old new : DeskState) → IsFor entries (found.Open at) what → what ≡ same
    → ((e : Entry) → new ≡ change e old) → new ≡ at_end c change same old
at_open [] at what same c change old new told is done = absurd (let there : at < 0 = told.0 in omega (arith, there))
at_open (e ∷ es) at what same c change old new told is done =
    done (slice_index_or (e ∷ es) at e) ∙ ap (λ (f : commands.Found). at_end c change f old) (sym (told.1 e) ∙ is)
