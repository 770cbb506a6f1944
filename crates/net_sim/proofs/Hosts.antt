-- Hosts, their seats and their services in one event, and the rounds of a calm. Main lemmas: Serving `serves` (services are where their seat is),
-- Doing `call_done` (a call and the turns of its services), Seats `found_seat` (where a host sits), Telling (what is kept is what the moments say),
-- Calming `all_repeated` (the rounds of a calm), Stays `program_stays` (what no call of a program changes).
pub mod Anyone
pub mod Asks
pub mod Calming
pub mod Doing
pub mod Ends
pub mod Mute
pub mod Parts
pub mod Resting
pub mod SeatLemmas
pub mod Seats
pub mod Serving
pub mod Stays
pub mod Strange
pub mod Telling
pub mod Unresting
