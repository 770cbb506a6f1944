-- The names that several files of these proofs take from elsewhere, passed on from one place.
pub use Rattle.host_keeps_pairing.specs.Ends.{HasEnd}
pub use Rattle.host_keeps_pairing.specs.Known.{ArePartners, Knows, all_known}
pub use Rattle.host_pairs.specs.declared.notice.Notice.{Notice}
pub use Rattle.interface.proofs.lemmas.{same_host-refl, same_host-true}
pub use Rattle.interface.specs.Calls.{Seen}
pub use Rattle.interface.specs.Host.{Host, same_host}
pub use Rattle.interface.specs.declared.address.Flow.{Flow}
pub use Rattle.interface.specs.declared.crossing.Answer.{Answer}
pub use Rattle.interface.specs.declared.crossing.Crossing.{Crossing}
pub use Rattle.interface.specs.declared.message.HostMessage.{HostMessage}
pub use Rattle.ncp_control.specs.Numbers.{is_receive_socket, is_send_socket}
pub use Rattle.net_sim.proofs.lemmas.{Coupled}
pub use Rattle.net_sim.specs.Clean.{HaveAddresses, IsLawful}
pub use Rattle.net_sim.specs.Reports.{IsBacked}
pub use Rattle.net_sim.specs.Story.{Asked, Crossed, Moment}
pub use Rattle.net_sim.specs.Timeline.{crossings_of}
pub use Rattle.net_sim.specs.World.{WorldState}
pub use Rattle.pairing_law.specs.Ends.{End}
pub use Rattle.pairing_law.specs.Links.{Sockets}
pub use Rattle.pairing_law.specs.Partners.{IsIn}
pub use Rattle.promise.specs.Safe.{Match, own_request, receives, sends}
pub use Rattle.sockets.specs.Accepting.{accepted}
pub use Rattle.sockets.specs.Pairs.{NcpState, pair_with}
pub use Rattle.sockets.specs.Requests.{refusal, served, served_notices}
pub use Rattle.sockets.specs.Sending.{offered}
pub use Rattle.sockets.specs.declared.request.Request.{Request}
pub use Rattle.std.proofs.Common.{Bool, List, None, Option, Some, [], ap, arith, eq-eqb, false, if◌then◌else◌, refl, subst, sym, true, ℕ, ◌&&◌, ◌==◌, ◌∙◌, ◌∷◌, ◌≡◌}
pub use Rattle.std.specs.List.{Contains}
pub use Rattle.world_keeps_connections.specs.Users.{AreOpposite, known_in}
pub use Rattle.world_keeps_pairing.proofs.lemmas.{AllTied, all_tied}
pub use Rattle.world_keeps_pairing.specs.Free.{origin_in}
pub use Rattle.world_keeps_pairing.specs.Lives.{is_between, life_of}
