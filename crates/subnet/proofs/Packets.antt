-- What holds of every packet of a subnet. Main lemmas: Having (a property of all packets, before and after an event), HavingByEvents
-- `stop_only` (by each kind of event), OnLines (a property of all frames on lines), Routed `step_routed` and `round_routed` (distances are sent of the subnet's IMPs only), Routed `can_go` (so a
-- packet has a line to go).
pub mod Having
pub mod HavingByEvents
pub mod OnLines
pub mod Routed
