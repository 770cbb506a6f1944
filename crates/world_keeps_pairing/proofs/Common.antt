-- The names that several files of these proofs take from elsewhere, passed on from one place.
pub use Rattle.host_keeps_pairing.proofs.lemmas.{answer_other, data_told, eqb-sym, idle_other, message_tells, offer_tells, opening_has, request_keeps, rrp_other, rst_other, same_kept, untagged_is}
pub use Rattle.host_keeps_pairing.specs.Ends.{HasEnd}
pub use Rattle.host_keeps_pairing.specs.Hearing.{AreFree, AreJoint, after_request}
pub use Rattle.host_keeps_pairing.specs.Openings.{AreAmong, all_lives_gone, all_lives_taken, with_openings}
pub use Rattle.host_keeps_pairing.specs.Spoken.{untagged}
pub use Rattle.host_keeps_pairing.specs.Words.{AllFit, MayAllGo, all_gone, mark_in, mark_of, marks, marks_in}
pub use Rattle.host_keeps_ranges.proofs.lemmas.{offer_read, pair_range, text_good}
pub use Rattle.host_keeps_ranges.specs.Ranges.{AreCommands, AreOrders, IsAsked, IsOrder, IsRanged, IsReadBack}
pub use Rattle.host_pairs.specs.Allowed.{MayGo, commands_of}
pub use Rattle.host_pairs.specs.Control.{Legal, Order, Wrong, orders_of}
pub use Rattle.host_pairs.specs.Desk.{desk_of}
pub use Rattle.host_pairs.specs.Pair.{PairState}
pub use Rattle.host_pairs.specs.Parcels.{link_for, text_for}
pub use Rattle.host_pairs.specs.declared.entry.Closing.{Closing}
pub use Rattle.host_pairs.specs.declared.entry.Entry.{Entry}
pub use Rattle.host_pairs.specs.declared.listener.Listener.{Listener}
pub use Rattle.interface.proofs.lemmas.{and_turned, not_true, same_flow-true, same_host-refl, same_host-true}
pub use Rattle.interface.specs.Host.{Host, same_host}
pub use Rattle.interface.specs.Mailboxes.{same_flow}
pub use Rattle.interface.specs.declared.address.Flow.{Flow}
pub use Rattle.interface.specs.declared.crossing.Answer.{Answer}
pub use Rattle.interface.specs.declared.crossing.Crossing.{Crossing}
pub use Rattle.interface.specs.declared.message.HostMessage.{HostMessage}
pub use Rattle.ncp_control.specs.Command.{IsCommand}
pub use Rattle.ncp_control.specs.Numbers.{is_receive_socket, is_send_socket}
pub use Rattle.ncp_control.specs.Phases.{is_ready}
pub use Rattle.ncp_control.specs.declared.command.Command.{Command}
pub use Rattle.ncp_control.specs.declared.phase.Phase.{Phase}
pub use Rattle.net_sim.proofs.lemmas.{by_request, data_away, program_own, story_agrees}
pub use Rattle.net_sim.specs.Clean.{HaveAddresses}
pub use Rattle.net_sim.specs.Mixed.{Happened, mixed_kept}
pub use Rattle.net_sim.specs.Projection.{Agrees, IsApart, event_by, event_of, message_on}
pub use Rattle.net_sim.specs.Story.{Asked, Crossed, IsNext, IsStory, Moment, event_in, events_of, places, program}
pub use Rattle.net_sim.specs.Timeline.{IsTimeline, crossings_of}
pub use Rattle.net_sim.specs.Told.{host_in, notices_by}
pub use Rattle.pairing_law.proofs.lemmas.{run_at, safe_run}
pub use Rattle.pairing_law.specs.Ends.{End, fits, gone, mark_taken, nothing}
pub use Rattle.pairing_law.specs.Links.{AreSteps, Hears, Receiver, Says, Sender, Sockets, Step, Who, Word, events_at, heard_words, receiver, said_words, sender, stays}
pub use Rattle.pairing_law.specs.Marks.{Ask, Close, Mark}
pub use Rattle.pairing_law.specs.Places.{placed_event, tagged, with_box, with_place}
pub use Rattle.pairing_law.specs.Sides.{Side}
pub use Rattle.promise.specs.Safe.{control_flow, last_out}
pub use Rattle.reset_law.proofs.lemmas.{begins_either}
pub use Rattle.reset_law.specs.Boxes.{Waiting, boxes}
pub use Rattle.reset_law.specs.Events.{Event, In, Message, Other, Out, Reply, Reset, are, place}
pub use Rattle.reset_law.specs.Network.{AreOurs, Network}
pub use Rattle.reset_law.specs.Pairs.{Pair, pair}
pub use Rattle.sockets.proofs.lemmas.{answer_about, message_about, offer_about}
pub use Rattle.sockets.specs.Accepting.{accepted, turn_of}
pub use Rattle.sockets.specs.Pairs.{NcpState, opening_state, pair_with}
pub use Rattle.sockets.specs.Requests.{refusal, served}
pub use Rattle.sockets.specs.Sending.{offered}
pub use Rattle.sockets.specs.declared.peer.Peer.{Peer}
pub use Rattle.sockets.specs.declared.request.Request.{Request}
pub use Rattle.std.proofs.Common.{Bool, IsSome, List, None, Option, Some, [], ap, arith, drop, eq-eqb, false, if◌then◌else◌, inl, inr, is_some, length, map, not, refl, subst, suc, sym, true, zero, ℕ, ◌%◌, ◌&&◌, ◌++◌, ◌+◌, ◌-◌, ◌<◌, ◌==◌, ◌||◌, ◌∙◌, ◌∷◌, ◌≡◌, ◌≤◌, ◌⊎◌}
pub use Rattle.std.proofs.lemmas.Bool.{eqb-true}
pub use Rattle.std.proofs.lemmas.List.{append-nil, append_assoc}
pub use Rattle.std.specs.List.{Contains, list_any}
pub use Rattle.world_keeps_pairing.specs.Free.{NameFree, NamesFreeAt, TakesFreeAt, law_events, origin_in, origin_or, place_or}
pub use Rattle.world_keeps_pairing.specs.Lives.{with_lives}
pub use Rattle.world_keeps_pairing.specs.Steps.{all_heard, all_said, heard_in, keeps, met, onto, spoken_by, steps, steps_left, taken_by, word_by, words_by, words_of}
