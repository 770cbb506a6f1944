-- How far the reset of a pair of hosts has come, as one of the two sees it (NIC 8246, RST and RRP).
use Rattle.std.specs.Prelude.{ℕ, Bool, true, false, ◌==◌, if◌then◌else◌}
pub use Rattle.ncp_control.specs.declared.phase.Phase.{Phase}
pub use Rattle.ncp_control.specs.declared.phase.Phase.TheVariants.{Closed, Want, Gone, Heard, Ready}

abbrev pub is_closed : Phase → Bool
is_closed Closed = true
is_closed p = false

abbrev pub is_want : Phase → Bool
is_want Want = true
is_want p = false

abbrev pub is_ready : Phase → Bool
is_ready Ready = true
is_ready p = false

-- an RST of the peer opens a closed pair; any other phase stays
abbrev pub reset_phase : Phase → Phase
reset_phase Closed = Ready
reset_phase p = p

-- an RRP of the peer ends a reset that the peer has taken; while it isn't known whether the RST was taken, the RRP is remembered
abbrev pub reply_phase : Phase → Phase
reply_phase (Gone early) = Gone true
reply_phase Heard = Ready
reply_phase p = p

-- an RFNM for the RST: the peer has taken it. An RRP that came before may belong to an older RST, so then another goes out
abbrev pub taken_phase : Phase → Phase
taken_phase (Gone true) = Want
taken_phase (Gone false) = Heard
taken_phase p = p

-- an RFNM on a link; the RST went out on link 0
abbrev pub rfnm_phase : ℕ → Phase → Phase
rfnm_phase link p = if link == 0 then taken_phase p else p

-- a failure closes a pair, except for one that waits to reset, and while an RRP is owed; the failure of an RST always does
abbrev pub failed_phase : Phase → Bool → Phase
failed_phase Closed owed = Closed
failed_phase Want owed = Want
failed_phase (Gone early) owed = Closed
failed_phase Heard owed = if owed then Heard else Closed
failed_phase Ready owed = if owed then Ready else Closed
