-- The lemmas of this crate that others may use: the proofs of headline, world_keeps_connections, world_keeps_lives, world_keeps_pairing, world_keeps_streams, world_replay and world_trace do. All others in proofs/ are its own.
pub use Rattle.net_sim.proofs.AllOurs
pub use Rattle.net_sim.proofs.AllOurs.{kept_same}
pub use Rattle.net_sim.proofs.Books.Always.{calm_keeps}
pub use Rattle.net_sim.proofs.Books.Booked.{booked_messages}
pub use Rattle.net_sim.proofs.Books.Fated.{by_fated, kept_fated, told_fated, world_fated}
pub use Rattle.net_sim.proofs.Resets.Bridge.{box_same, by_request, flow_of, place_same, places_same, up_same}
pub use Rattle.net_sim.proofs.Resets.Clean.{cleared_waits, fetched_waits, waiting_out}
pub use Rattle.net_sim.proofs.Resets.Coupled.{Coupled, coupled, up_host}
pub use Rattle.net_sim.proofs.Resets.Offers.{data_away, plain_take, says_reply}
pub use Rattle.net_sim.proofs.Books.EachEvent.{Answered, HasProgram, Shows, Ways, event_way, turn_way, unshown}
pub use Rattle.net_sim.proofs.Books.Refusals.{step_stands, turn_stands}
pub use Rattle.net_sim.proofs.Books.Same.{calm_same, step_same, turn_same}
pub use Rattle.net_sim.proofs.Books.Strangers.{alone, each_way}
pub use Rattle.net_sim.proofs.Hosts.Calming.{memory_stops}
pub use Rattle.net_sim.proofs.Hosts.Seats.{same_host-sym}
pub use Rattle.net_sim.proofs.Hosts.Stays.{Stays, accepted_stays, offered_stays, served_stays}
pub use Rattle.net_sim.proofs.Resets.StoryLemmas.{program_own, story_agrees}
pub use Rattle.net_sim.proofs.Resets.Turns.{freed_busy}
