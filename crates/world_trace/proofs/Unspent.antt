-- Memory lasts in all programs and services of a world that has not stopped. Main lemmas: Programs (what a program and its services do), Worlds
-- `event_lasts` (an event of a script), `replay_runs` (a replay from the opening).
pub mod Programs
pub mod Rows
pub mod Worlds
