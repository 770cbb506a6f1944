-- Full lines: what is put on them is lost.
use Rattle.std.specs.Prelude.{◌≡◌, ℕ, List}
use Rattle.imp_channel.specs.declared.frame.Frame.{Frame}
use Rattle.imp_node.specs.Lines.{on_port}
use Rattle.subnet.specs.Net.{Wire, with_frame, put_one}

-- whatever frame IMP `i` puts on a line is lost
abbrev pub LosesAll : ℕ → Wire → Type 0
LosesAll i w = (f : Frame) → with_frame i f w ≡ w

-- and so on the line at this port of it, or there is no line
abbrev pub LosesAllAt : List Wire → ℕ → ℕ → Type 0
LosesAllAt lines i k = (f : Frame) → put_one lines i (on_port k f) ≡ lines
