-- A frame that is taken off its line before it is dropped there.
use Rattle.std.specs.Prelude.{ℕ, false, replicate, slice_set}
use Rattle.interface.specs.declared.event.Direction.{Direction}
use Rattle.interface.specs.declared.event.Direction.TheVariants as way
use Rattle.imp_channel.specs.declared.frame.Content.TheVariants as content
use Rattle.imp_channel.specs.declared.frame.Frame.{Frame}
use Rattle.imp_channel.specs.declared.frame.TheConstants.{ACKS}
use Rattle.subnet.specs.Net.{Net, Wire, wire_at}

-- an empty frame
abbrev pub hollow : Frame
hollow = record { acks = replicate ACKS false; content = content.Nothing }

-- a line with an empty frame in place of the oldest that goes one way, if there is one
abbrev pub hollowed : Direction → Wire → Wire
hollowed way.Forward w = record w { forward = slice_set w.forward 0 hollow }
hollowed way.Back w = record w { back = slice_set w.back 0 hollow }

abbrev pub frame_taken : Net → ℕ → Direction → Net
frame_taken n l d = record n { lines = slice_set n.lines l (hollowed d (wire_at n.lines l)) }
