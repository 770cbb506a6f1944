-- Every history of one flow: what its hosts see is a run of its mailbox.
use Rattle.std.specs.Prelude.{◌≡◌, Bool, true, List, [], ◌∷◌, ◌++◌, None}
use Rattle.std.specs.List.{Contains}
use Rattle.interface.specs.Mailboxes.{Box, Passing}
use Rattle.flow_law.specs.View.{View, Packet}
use Rattle.flow_law.specs.Moves.{Move, Needs, Makes, Either, view_moved, shows}

-- a move, and the packets that are alive after it
pub record FlowTurn : Type 0 where
  pub move : Move
  pub left : List Packet

-- a flow of which no message was offered yet, its IMPs and hosts up or not
pub record IsOpening (v : View) : Type 0 where
  pub last : v.last ≡ None
  pub outstanding : v.outstanding ≡ None
  pub answers : v.answers ≡ []
  pub queue : v.queue ≡ []
  pub box : v.box ≡ Box.Empty
  pub home : v.source ≡ true → v.from_up ≡ true

-- ---- a history: turns, newest first, from a view with no packet alive

abbrev pub left_by : List FlowTurn → List Packet
left_by [] = []
left_by (turn ∷ turns) = turn.left

abbrev pub view_after : List FlowTurn → View → View
view_after [] v = v
view_after (turn ∷ turns) v = view_moved turn.move (view_after turns v)

abbrev pub seen_in : List FlowTurn → View → List Passing
seen_in [] v = []
seen_in (turn ∷ turns) v = shows turn.move (view_after turns v) ++ seen_in turns v

-- the move finds what it needs, and leaves nothing alive but what was and what it made
pub record IsTurn (Asks : Move → View → (Packet → Type 0) → Type 0) (Piece : List Bool → Packet → Type 0) (v : View) (alive : List Packet) (turn : FlowTurn) : Type 0 where
  pub needs : Asks turn.move v (Contains alive)
  pub left : (x : Packet) → Contains turn.left x → Either (Contains alive) (Makes Piece turn.move v) x

-- a history of a machine whose moves have these needs
abbrev pub IsHistoryBy : (Move → View → (Packet → Type 0) → Type 0) → (List Bool → Packet → Type 0) → View → List FlowTurn → Type 0
IsHistoryBy needs Piece v [] = Unit {0}
IsHistoryBy needs Piece v (turn ∷ turns) = IsTurn needs Piece (view_after turns v) (left_by turns) turn × IsHistoryBy needs Piece v turns

-- a history
abbrev pub IsHistory : (List Bool → Packet → Type 0) → View → List FlowTurn → Type 0
IsHistory Piece = IsHistoryBy (Needs Piece) Piece

-- pieces by a test: whether a packet carries a piece of a text
abbrev pub ByTest : (List Bool → Packet → Bool) → List Bool → Packet → Type 0
ByTest test text x = test text x ≡ true
