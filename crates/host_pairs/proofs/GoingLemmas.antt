-- The queue while commands go out.
use Rattle.std.proofs.Common.{◌≡◌, ℕ, List, [], ◌∷◌, refl, ◌∙◌}
use Rattle.interface.specs.Host.{Host}
use Rattle.ncp_control.specs.declared.command.Command.{Command}
use Rattle.ncp_control.specs.declared.command.Command.TheVariants as command
use Rattle.host_pairs.specs.Desk.{DeskState}
use Rattle.host_pairs.specs.Parcels.{command_gone, commands_gone}

gone_queue : (peer : Host) (stamp : ℕ) (c : Command) (d : DeskState) → (command_gone peer stamp c d).queue ≡ d.queue
gone_queue peer stamp command.Nop d = refl
gone_queue peer stamp (command.Rts receive send link) d = refl
gone_queue peer stamp (command.Str send receive size) d = refl
gone_queue peer stamp (command.Cls own foreign) d = refl
gone_queue peer stamp (command.All link messages bits) d = refl
gone_queue peer stamp (command.Gvb link messages bits) d = refl
gone_queue peer stamp (command.Ret link messages bits) d = refl
gone_queue peer stamp (command.Inr link) d = refl
gone_queue peer stamp (command.Ins link) d = refl
gone_queue peer stamp (command.Eco octet) d = refl
gone_queue peer stamp (command.Erp octet) d = refl
gone_queue peer stamp (command.Err code detail) d = refl
gone_queue peer stamp command.Rst d = refl
gone_queue peer stamp command.Rrp d = refl

pub all_gone_queue : (peer : Host) (stamp : ℕ) (cs : List Command) (d : DeskState) → (commands_gone peer stamp cs d).queue ≡ d.queue
all_gone_queue peer stamp [] d = refl
all_gone_queue peer stamp (c ∷ cs) d = all_gone_queue peer stamp cs (command_gone peer stamp c d) ∙ gone_queue peer stamp c d
