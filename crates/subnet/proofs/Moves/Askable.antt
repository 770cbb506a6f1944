-- Only an offer makes a message outstanding: so after moves that begin none, a question about what is outstanding is a packet by
-- the format if it was before.
use Rattle.subnet.proofs.Common.{Flow, or_false, IsPacket, View, answer_packet, Net, view, IsSound}
use Rattle.std.proofs.Common.{◌≡◌, ℕ, Bool, true, false, List, [], ◌∷◌, ◌||◌, Some, ap, sym, ◌∙◌}
use Rattle.packetiser.specs.declared.packet.PacketKind.TheVariants as kind
use Rattle.flow_law.specs.Moves.{Move, view_moved, after_all}

-- a move that makes a number outstanding
abbrev pub begins : Move → Bool
begins Move.Quiet = false
begins (Move.DeadNow place text) = false
begins (Move.Begin place text) = true
begins (Move.BeginLocal place text) = true
begins (Move.NoteGone x new) = false
begins (Move.Whole x text) = false
begins (Move.Freed x kind) = false
begins (Move.TakeMessage oldest others) = false
begins (Move.TakeAnswer oldest others) = false
begins Move.StopSource = false
begins Move.StartSource = false
begins Move.StopDestination = false
begins Move.StartDestination = false
begins Move.StopFrom = false
begins Move.StartFrom = false
begins Move.StopTo = false
begins Move.StartTo = false
begins (Move.GiveUp number) = false
begins Move.Forget = false
begins (Move.Asks number) = false
begins (Move.Reply x told) = false

abbrev pub one_begins : List Move → Bool
one_begins [] = false
one_begins (m ∷ ms) = begins m || one_begins ms

was_awaited : (m : Move) (v : View) (number : ℕ) → begins m ≡ false → (view_moved m v).outstanding ≡ Some number → v.outstanding ≡ Some number
was_awaited Move.Quiet v number none is = is
was_awaited (Move.DeadNow place text) v number none is = is
was_awaited (Move.Begin place text) v number none is = absurd (cc)
was_awaited (Move.BeginLocal place text) v number none is = absurd (cc)
was_awaited (Move.NoteGone x new) v number none is = is
was_awaited (Move.Whole x text) v number none is = is
was_awaited (Move.Freed x kind) v number none is = absurd (cc)
was_awaited (Move.TakeMessage oldest others) v number none is = is
was_awaited (Move.TakeAnswer oldest others) v number none is = is
was_awaited Move.StopSource v number none is = is
was_awaited Move.StartSource v number none is = is
was_awaited Move.StopDestination v number none is = is
was_awaited Move.StartDestination v number none is = is
was_awaited Move.StopFrom v number none is = absurd (cc)
was_awaited Move.StartFrom v number none is = is
was_awaited Move.StopTo v number none is = is
was_awaited Move.StartTo v number none is = is
was_awaited (Move.GiveUp n) v number none is = absurd (cc)
was_awaited Move.Forget v number none is = is
was_awaited (Move.Asks n) v number none is = is
was_awaited (Move.Reply x told) v number none is = is

pub awaited_before : (ms : List Move) (v : View) (number : ℕ) → one_begins ms ≡ false → (after_all ms v).outstanding ≡ Some number → v.outstanding ≡ Some number
awaited_before [] v number none is = is
awaited_before (m ∷ ms) v number none is =
    let both : (begins m ≡ false) × (one_begins ms ≡ false) = or_false (begins m) _ none in
    awaited_before ms v number both.1 (was_awaited m _ number both.0 is)

-- the question about each outstanding message is a packet by the format
abbrev pub Askable : Net → Flow → Type 0
Askable n f = (number : ℕ) → (view n f).outstanding ≡ Some number → IsPacket (answer_packet kind.Rfnm f number)

-- it stays so where a flow stays, and where it makes moves that begin nothing
pub same_askable : (n m : Net) (f : Flow) → view m f ≡ view n f → IsSound n → Askable m f
same_askable n m f same is number awaited = is.askable f number (ap (λ (v : View). v.outstanding) (sym same) ∙ awaited)

pub moved_askable : (n m : Net) (f : Flow) (ms : List Move) → view m f ≡ after_all ms (view n f) → one_begins ms ≡ false → IsSound n → Askable m f
moved_askable n m f ms same none is number awaited = is.askable f number (awaited_before ms _ number none (ap (λ (v : View). v.outstanding) (sym same) ∙ awaited))
