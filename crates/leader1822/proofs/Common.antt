-- The names that several files of these proofs take from elsewhere, passed on from one place.
pub use Rattle.interface.proofs.lemmas.{get_flow}
pub use Rattle.interface.specs.Flow.{flow_cmp}
pub use Rattle.interface.specs.Host.{Host, host_cmp, is_host, same_host}
pub use Rattle.interface.specs.Mailboxes.{same_flow}
pub use Rattle.interface.specs.declared.address.Flow.{Flow}
pub use Rattle.interface.specs.declared.crossing.Answer.{Answer}
pub use Rattle.interface.specs.declared.crossing.Inbound.{Inbound}
pub use Rattle.interface.specs.declared.message.HostMessage.{HostMessage}
pub use Rattle.leader1822.specs.Answered.{AllAnswered}
pub use Rattle.leader1822.specs.Boxes.{Boxes, BoxesRound, BoxesTake, Queues, WaitingAnswer, answer_first, first_of_list, for_host, host_refusal, inbound_taken, is_of, is_rfnm_about, next_for, rest, seen_of, with_queue}
pub use Rattle.leader1822.specs.Inside.Held.{Held, IsKept}
pub use Rattle.leader1822.specs.Inside.Named.{IsNamed}
pub use Rattle.leader1822.specs.Inside.Shown.{shown, waiting_in}
pub use Rattle.leader1822.specs.Inside.Soundness.{AreTo, AreToldTo, FitsBox, FlowFits, IsSound, Matches, kinds_for, kinds_of, texts_for, texts_of}
pub use Rattle.std.proofs.Common.{None, Some, [], ap, arith, drop, false, filter, is_some, length, not, refl, rules, subst, sym, true, ℕ, ◌++◌, ◌-◌, ◌<◌, ◌∙◌, ◌∷◌, ◌≡◌, ◌≤◌}
pub use Rattle.std.proofs.lemmas.Bool.{false≢true}
pub use Rattle.std.proofs.lemmas.List.{append-nil}
pub use Rattle.std.proofs.lemmas.Option.{slice_get_read}
pub use Rattle.std.specs.BTreeMap.{is_at}
pub use Rattle.std.specs.Cmp.{eq_by_cmp_equiv}
pub use Rattle.std.specs.FinMap.{empty, get, get-empty, get-insert, get-remove}
pub use Rattle.std.specs.List.{list_any}
pub use Rattle.std.specs.declared.cmp.Ordering.{Ordering}
pub use Rattle.std.specs.declared.cmp.Ordering.TheVariants.{Equal, Greater, Less}
