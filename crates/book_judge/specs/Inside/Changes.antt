-- Which deeds change lives. No public clause cites this file.
use Rattle.std.specs.Prelude.{ℕ, ◌&&◌, ◌||◌, nat_lt, Bool, true, false, not, if◌then◌else◌, List, [], ◌∷◌, Option}
use Rattle.std.specs.Prelude.{Some, None}
use Rattle.std.specs.FinMap as map
use Rattle.std.specs.Option.{unwrap_or}
use Rattle.interface.specs.Flow.{flow_cmp}
use Rattle.interface.specs.Host.{Host, same_host}
use Rattle.interface.specs.declared.address.Flow.{Flow}
use Rattle.promise.specs.Safe.{control_flow}
use Rattle.book_judge.specs.declared.fates.deeds.Act.{Act}
use Rattle.book_judge.specs.declared.fates.deeds.Act.TheVariants as act
use Rattle.book_judge.specs.declared.fates.deeds.Deed.{Deed}
use Rattle.book_judge.specs.Inside.Deeds.{has_peer, owes_by}
use Rattle.book_judge.specs.declared.fates.changes.Change.{Change}
use Rattle.book_judge.specs.declared.fates.changes.Owed.{Owed}
use Rattle.book_judge.specs.declared.fates.changes.Turn.{Turn}
use Rattle.book_judge.specs.declared.fates.changes.Turn.TheVariants as turn

-- ---- what is owed

-- the number of a flow, and else 0
abbrev pub number_at : map.FinMap flow_cmp ℕ → Flow → ℕ
number_at numbers f = unwrap_or (map.get numbers f) 0

abbrev pub nothing_owed : Owed
nothing_owed = record { resets = map.empty; restarts = map.empty }

-- a host has taken an RST since it stopped or started, and since it sent its last RRP
abbrev pub owes : Owed → Host → Host → Bool
owes o h peer = nat_lt (number_at o.restarts (control_flow h h)) (number_at o.resets (control_flow h peer))

abbrev pub owed_by_act : ℕ → Host → Host → Act → Owed → Owed
owed_by_act n h peer (act.Resets true) o = record o { resets = map.insert o.resets (control_flow h peer) n }
owed_by_act n h peer act.Replies o = record o { resets = map.insert o.resets (control_flow h peer) 0 }
owed_by_act n h peer act.Stops o = record o { restarts = map.insert o.restarts (control_flow h h) n }
owed_by_act n h peer act.Starts o = record o { restarts = map.insert o.restarts (control_flow h h) n }
owed_by_act n h peer a o = o

abbrev pub owed_once : ℕ → Deed → Owed → Owed
owed_once n d o = owed_by_act n d.host d.peer d.act o

-- whether hosts owe peers an RRP after a deed
abbrev pub owes_after : Deed → (Host → Host → Bool) → Host → Host → Bool
owes_after d owes h peer =
    if same_host h d.host && (not (has_peer d.act) || same_host peer d.peer) then owes_by d.act
    (owes h peer) else owes h peer

abbrev pub owes_never : Host → Host → Bool
owes_never h peer = false

-- ---- changes

-- what an act is to lives, where an RRP is owed, or none is
abbrev pub turn_of : Act → Bool → Option Turn
turn_of (act.Asks comes own foreign) owes = Some (turn.Asks comes own foreign)
turn_of (act.Closes comes own foreign) owes = Some (turn.Closes comes own foreign)
turn_of (act.Resets comes) owes = Some turn.Drops
turn_of act.Replies owes = if owes then None else Some turn.Drops
turn_of act.Fails owes = if owes then None else Some turn.Drops
turn_of act.Stops owes = Some turn.Stops
turn_of act.Starts owes = None

abbrev pub with_turn : Deed → Option Turn → List Change → List Change
with_turn d None changes = changes
with_turn d (Some t) changes = record { place = d.place; host = d.host; peer = d.peer; turn = t } ∷ changes

-- without CLS
abbrev pub is_open : Turn → Bool
is_open (turn.Closes comes own foreign) = false
is_open t = true

abbrev pub opens : Change → Bool
opens c = is_open c.turn

-- of deeds, the oldest first, where RRP are owed at first
abbrev pub changes_in : (Host → Host → Bool) → List Deed → List Change
changes_in owes [] = []
changes_in owes (d ∷ deeds) = with_turn d (turn_of d.act (owes d.host d.peer)) (changes_in (owes_after d owes) deeds)
