-- What the layer above shows of its steps, and what it gets: each flow makes a list of moves, so the log stays a run.
use Rattle.std.specs.Prelude.{◌≡◌, Bool, false, List, [], ◌∷◌, ◌++◌, length}
use Rattle.interface.specs.declared.address.Flow.{Flow}
use Rattle.interface.specs.declared.crossing.Crossing.{Crossing}
use Rattle.interface.specs.Host.{Host}
use Rattle.interface.specs.Mailboxes.{Mail, Passing, passings, passed, opening_mail, mail_of, same_flow, IsFlowRun, UpsAreHosts}
use Rattle.flow_law.specs.View.{View, Packet, mail_now}
use Rattle.flow_law.specs.Moves.{Move, NeedsAll, Grown, after_all, shown_by}
use Rattle.flow_law.specs.Invariant.{Invariant}
use Rattle.flow_law.specs.Runs.{IsOpening}

-- a flow makes these moves: each finds what it needs, together they give the new view, and nothing is alive but what
-- was and what they made
pub record Follows (Piece : List Bool → Packet → Type 0) (moves : List Move) (old new : View) (before later : Packet → Type 0) : Type 0 where
  pub needs : NeedsAll Piece moves old before
  pub view : new ≡ after_all moves old
  pub packets : (x : Packet) → later x → Grown Piece moves old before x

-- what was seen of a flow is a run of its mailbox and led to the present state, and the invariant holds
pub record Sound (Piece : List Bool → Packet → Type 0) (start : Mail) (seen : List Passing) (v : View) (alive : Packet → Type 0) : Type 0 where
  pub clauses : Invariant Piece v alive
  pub run : IsFlowRun start seen
  pub mail : mail_of start seen ≡ mail_now v

-- so it is for each flow, and only hosts of the network came up
pub record AllSound (Piece : List Bool → Packet → Type 0) (hosts : List Host) (log : List Crossing) (view : Flow → View) (alive : Flow → Packet → Type 0) : Type 0 where
  pub flows : (f : Flow) → Sound Piece (opening_mail hosts f) (passed f log) (view f) (alive f)
  pub ups : UpsAreHosts hosts log

-- what a flow sees of new crossings, which are on top of the log
abbrev pub passed_over : Flow → List Crossing → List Crossing → List Passing
passed_over f [] log = []
passed_over f (c ∷ entries) log = passings (length (entries ++ log)) f c ++ passed_over f entries log

-- a step with these new crossings, newest first: each flow makes a list of moves, which show what the flow sees of the
-- crossings, and only hosts of the network come up
pub record AllFollow (Piece : List Bool → Packet → Type 0) (hosts : List Host) (entries log : List Crossing) (moves : Flow → List Move) (old new : Flow → View) (before later : Flow → Packet → Type 0) : Type 0 where
  pub follows : (f : Flow) → Follows Piece (moves f) (old f) (new f) (before f) (later f)
  pub shown : (f : Flow) → passed_over f entries log ≡ shown_by (moves f) (old f)
  pub ups : UpsAreHosts hosts entries

-- the network before anything happened: each flow is new, and its hosts are up where they are hosts of the network
pub record AllOpen (hosts : List Host) (view : Flow → View) : Type 0 where
  pub opening : (f : Flow) → IsOpening (view f)
  pub mail : (f : Flow) → mail_now (view f) ≡ opening_mail hosts f

-- a step that concerns one flow: it makes these moves, and the others stay
pub record OneFollows (Piece : List Bool → Packet → Type 0) (entries log : List Crossing) (g : Flow) (moves : List Move) (old new : Flow → View) (before later : Flow → Packet → Type 0) : Type 0 where
  pub here : Follows Piece moves (old g) (new g) (before g) (later g)
  pub shown : passed_over g entries log ≡ shown_by moves (old g)
  pub view : (f : Flow) → same_flow f g ≡ false → new f ≡ old f
  pub packets : (f : Flow) → same_flow f g ≡ false → (x : Packet) → later f x → before f x
  pub unseen : (f : Flow) → same_flow f g ≡ false → passed_over f entries log ≡ []
