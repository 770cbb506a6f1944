-- The names that several files of these proofs take from elsewhere, passed on from one place.
pub use Rattle.book_judge.proofs.lemmas.{made_twice, made_with, suited_with}
pub use Rattle.book_judge.specs.Broken.{IfFormed, KeepsGrants, first_closed, first_grants, first_sent}
pub use Rattle.book_judge.specs.Fates.{AreSuited, UnsuitedAt}
pub use Rattle.book_judge.specs.Lives.{AreMade, UnmadeAt}
pub use Rattle.book_judge.specs.Runs.{IsSomeRun, StraysAt}
pub use Rattle.book_judge.specs.Toward.{AreToward, UntowardAt}
pub use Rattle.book_log.specs.Log.{fates_of, lives_of, logged_fate}
pub use Rattle.command_line.specs.Carriers.{plain_of, subnet_of}
pub use Rattle.command_line.specs.Described.{Describes}
pub use Rattle.command_line.specs.Events.{are_some, asked_of}
pub use Rattle.command_line.specs.Input.{IsInput, IsInputFault, IsScriptFault, IsSomeInput}
pub use Rattle.command_line.specs.Lived.{AreLived, ungranted}
pub use Rattle.command_line.specs.Logs.{Logged, LogsAmong, LogsInput, world_book}
pub use Rattle.command_line.specs.Printed.{AreOneBook, PrintsBook, PrintsPart, log_of, shown_book}
pub use Rattle.command_line.specs.Replayed.{ReplaysInput, ShowsAmong, StopsAmong, StopsInput, WritesWorld, book_text}
pub use Rattle.command_line.specs.declared.auditing.AuditFault.{AuditFault}
pub use Rattle.command_line.specs.declared.fault.ScriptFault.{ScriptFault}
pub use Rattle.command_line.specs.declared.verdict.Verdict.{Verdict}
pub use Rattle.headline.proofs.lemmas.{world_keeps}
pub use Rattle.headline.specs.Promise.{WorldKeeps}
pub use Rattle.host_pairs.specs.declared.notice.Notice.{Notice}
pub use Rattle.host_services.specs.declared.report.Reported.{Reported}
pub use Rattle.interface.proofs.lemmas.{contains_head, contains_tail}
pub use Rattle.interface.specs.Calls.{Calls}
pub use Rattle.interface.specs.Host.{Host, is_host}
pub use Rattle.interface.specs.Mailboxes.{IsRun}
pub use Rattle.interface.specs.Messages.{SafeMessages}
pub use Rattle.interface.specs.declared.crossing.Crossing.{Crossing}
pub use Rattle.interface.specs.declared.message.HostMessage.{HostMessage}
pub use Rattle.leader1822.specs.Boxes.{Boxes, plain_calls}
pub use Rattle.mixed_worlds.specs.Book.{beside_among, is_among, lives_among}
pub use Rattle.mixed_worlds.specs.Laws.{KeepsAmong, KeepsToward}
pub use Rattle.net_sim.specs.Audit.{IsWellFormed, Says}
pub use Rattle.net_sim.specs.Carriers.{shown}
pub use Rattle.net_sim.specs.Handed.{AreUnhanded}
pub use Rattle.net_sim.specs.Clean.{IsLawfulAmong}
pub use Rattle.net_sim.specs.Steps.{absent_in, opening_mixed, strange_in}
pub use Rattle.net_sim.specs.World.{WorldState, opening_world}
pub use Rattle.net_sim.specs.declared.auditing.findings.Finding.{Finding}
pub use Rattle.promise.specs.Fates.{AreFated, ClosesWhole, IsBeside}
pub use Rattle.promise.specs.Formed.{FormedBook}
pub use Rattle.promise.specs.Safe.{SafeBook}
pub use Rattle.promise.specs.declared.book.Told.{Told}
pub use Rattle.promise.specs.declared.life.Fate.{Fate}
pub use Rattle.promise.specs.declared.life.Life.{Life}
pub use Rattle.replay.proofs.lemmas.{on_ok}
pub use Rattle.replay.specs.Settled.{AreSettled}
pub use Rattle.replay.specs.declared.print.Detail.{Detail}
pub use Rattle.replay.specs.declared.print.Detail.TheVariants.{Sizes}
pub use Rattle.script.specs.declared.event.RawEvent.{RawEvent}
pub use Rattle.sockets.specs.declared.request.Request.{Request}
pub use Rattle.std.proofs.Common.{Err, List, MatchResult, None, OnOk, ap, inr, rules, subst, ℕ, ◌∙◌, ◌≡◌}
pub use Rattle.std.proofs.lemmas.Bool.{false≢true}
pub use Rattle.std.proofs.lemmas.List.{append_assoc, length-append, reverse-reverse}
pub use Rattle.std.specs.Io.KnownBytes.{Appends, Keeps}
pub use Rattle.std.specs.List.{All, Contains, list_any}
pub use Rattle.subnet.specs.Working.{subnet_calls}
pub use Rattle.subnet_trace.proofs.lemmas.{subnet_settled}
pub use Rattle.topology.specs.Topology.{ArePicked, TopologyFields, hosts_of}
pub use Rattle.topology.specs.declared.network.CarrierKind.{CarrierKind}
pub use Rattle.trace.proofs.lemmas.{plain_settled}
pub use Rattle.world_keeps_streams.specs.Granted.{EachIsWithin}
pub use Rattle.world_keeps_streams.specs.Sent.{EachWasSent}
pub use Rattle.world_replay.specs.Replay.{EndsIn, Replays, StopsIn}
pub use Rattle.world_script.specs.declared.event.WorldEvent.{WorldEvent}
