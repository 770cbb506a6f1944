-- The names that several files of these proofs take from elsewhere, passed on from one place.
pub use Rattle.book_judge.specs.Fates.{AreSuited, IsSuited, Outlasts, cut_at, is_begun, over_at, reopened, suits, unclosed, was_contacted}
pub use Rattle.book_judge.specs.Inside.{same_bit, same_text}
pub use Rattle.book_judge.specs.Inside.Arrivals.{AreArrivals, ArrivalOf, sent_by}
pub use Rattle.book_judge.specs.Inside.Asked.{AreNamed, AreOuts}
pub use Rattle.book_judge.specs.Inside.Chains.{ClosedAt, FedAt, FoundFirst, GrantedAt, SoughtAt}
pub use Rattle.book_judge.specs.Inside.Changes.{changes_in, owes_never}
pub use Rattle.book_judge.specs.Inside.Deeds.{Pace, after, begun_by, begun_of, deeds_by, deeds_in, end_after, opening, pace_of, suits_after, suits_begun}
pub use Rattle.book_judge.specs.Inside.Joined.{AreJoined, IsNth, texts_by}
pub use Rattle.book_judge.specs.Inside.Keys.{key_cmp, same_key}
pub use Rattle.book_judge.specs.Inside.Made.{since}
pub use Rattle.book_judge.specs.Inside.Sent.{SentAt}
pub use Rattle.book_judge.specs.Inside.Starts.{AreStarts}
pub use Rattle.book_judge.specs.Lives.{AreMade}
pub use Rattle.book_judge.specs.Runs.{IsSomeRun, StraysAt}
pub use Rattle.book_judge.specs.declared.arrivals.Arrival.{Arrival}
pub use Rattle.book_judge.specs.declared.fates.Courses.{Courses}
pub use Rattle.book_judge.specs.declared.fates.begins.Ahead.{Ahead}
pub use Rattle.book_judge.specs.declared.fates.begins.Begin.{Begin}
pub use Rattle.book_judge.specs.declared.fates.begins.Firsts.{Firsts}
pub use Rattle.book_judge.specs.declared.fates.begins.Known.{Known}
pub use Rattle.book_judge.specs.declared.fates.changes.Change.{Change}
pub use Rattle.book_judge.specs.declared.fates.changes.Owed.{Owed}
pub use Rattle.book_judge.specs.declared.fates.changes.Turn.{Turn}
pub use Rattle.book_judge.specs.declared.fates.contacts.Said.{Said}
pub use Rattle.book_judge.specs.declared.fates.deeds.Act.{Act}
pub use Rattle.book_judge.specs.declared.fates.deeds.Deed.{Deed}
pub use Rattle.book_judge.specs.declared.fates.key_map.Key.{Key}
pub use Rattle.book_judge.specs.declared.joined.Joined.{Joined}
pub use Rattle.book_judge.specs.declared.joined.Piece.{Piece}
pub use Rattle.book_judge.specs.declared.mail.Held.{Held}
pub use Rattle.book_judge.specs.declared.mail.Mail.{Mail}
pub use Rattle.book_judge.specs.declared.starts.Start.{Start}
pub use Rattle.book_judge.specs.declared.starts.Taking.{Taking}
pub use Rattle.host_pairs.specs.Control.{Legal, Order, Wrong, orders_of, orders_within}
pub use Rattle.interface.proofs.lemmas.{and_true, contains_none, same_flow-refl, same_flow-true, same_host-refl, same_host-true}
pub use Rattle.interface.specs.Flow.{flow_cmp, same_flow}
pub use Rattle.interface.specs.Host.{Host, is_host, same_host}
pub use Rattle.interface.specs.declared.address.Flow.{Flow}
pub use Rattle.interface.specs.declared.crossing.Answer.{Answer}
pub use Rattle.interface.specs.declared.crossing.Crossing.{Crossing}
pub use Rattle.interface.specs.declared.message.HostMessage.{HostMessage}
pub use Rattle.ncp_control.specs.Numbers.{is_receive_socket}
pub use Rattle.ncp_control.specs.declared.command.Command.{Command}
pub use Rattle.net_sim.specs.Findings.{EndsAt, ShowsLife, WithMatch}
pub use Rattle.net_sim.specs.declared.auditing.findings.Finding.{Finding}
pub use Rattle.promise.specs.Ends.{Asking, Course, Going, Over, Stage, course, stage}
pub use Rattle.promise.specs.Fates.{ClosesWhole, IsBeside}
pub use Rattle.promise.specs.Formed.{flow_of, named_in}
pub use Rattle.promise.specs.Safe.{AreTwo, IsPrefix, Name, before, control_flow, last_out, own_request, receives, sends}
pub use Rattle.promise.specs.declared.book.Called.{Called}
pub use Rattle.promise.specs.declared.life.Fate.{Fate}
pub use Rattle.promise.specs.declared.life.Life.{Life}
pub use Rattle.std.proofs.Common.{Bool, List, MatchBool, None, Option, Some, [], ap, append-nil, arith, cond, drop, false, get_or, if◌then◌else◌, inl, inr, length, not, refl, reverse, subst, suc, sym, take, true, zero, ℕ, ◌&&◌, ◌++◌, ◌+◌, ◌-◌, ◌<◌, ◌==◌, ◌||◌, ◌∙◌, ◌∷◌, ◌≡◌, ◌≤◌, ◌⊎◌}
pub use Rattle.std.proofs.Math.Bool.{or-false}
pub use Rattle.std.proofs.lemmas.Bool.{and_from, cases_lt, eqb-true, false_from_ne_true, false≢true, ltb-false, ltb-true, or_left, or_right}
pub use Rattle.std.proofs.lemmas.List.{drop_all, drop_more, length-append, length-drop, length-reverse, length-take-le, reverse-append, reverse-reverse, take_all, take_more}
pub use Rattle.std.proofs.lemmas.Option.{get_or_from_slice_get, slice_get_past, slice_get_read, slice_get_within}
pub use Rattle.std.specs.BTreeMap.{is_at}
pub use Rattle.std.specs.FinMap.{FinMap, find, from_entries, get, get-empty, get-from_entries, get-insert, insert, same_map}
pub use Rattle.std.specs.List.{Contains, filter, list_any}
pub use Rattle.std.specs.Map.{lookup}
pub use Rattle.std.specs.Option.{unwrap_or}
pub use Rattle.std.specs.Ordering.{eq_by_cmp, is_eq, nat_cmp}
pub use Rattle.std.specs.Prelude.{IsSome, option_map}
pub use Rattle.std.specs.declared.cmp.Ordering.{Ordering}
pub use Rattle.std.specs.declared.cmp.Ordering.TheVariants.{Equal, Greater, Less}
pub use Rattle.world_keeps_lives.specs.WorkedFormed.{gave, sent_log, took}
