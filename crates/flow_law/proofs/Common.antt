-- The names that several files of these proofs take from elsewhere, passed on from one place.
pub use Rattle.flow_law.specs.Example.{first_text}
pub use Rattle.flow_law.specs.Follows.{Sound}
pub use Rattle.flow_law.specs.Invariant.{Begun, Carried, FateSays, Fated, Gone, Held, Invariant, Lost, Unnoted}
pub use Rattle.flow_law.specs.View.{Kind, Packet, Queued, View, is_refusal, is_request, mail_now}
pub use Rattle.interface.proofs.lemmas.{contains_head, contains_none}
pub use Rattle.interface.specs.Mailboxes.{Box, Fits}
pub use Rattle.interface.specs.declared.address.Flow.{Flow}
pub use Rattle.interface.specs.declared.crossing.Answer.{Answer}
pub use Rattle.interface.specs.declared.crossing.Crossing.{Crossing}
pub use Rattle.link_table.proofs.lemmas.{near_same}
pub use Rattle.link_table.specs.Numbers.{Near}
pub use Rattle.link_table.specs.declared.destination.Fate.{Fate}
pub use Rattle.std.proofs.Common.{Bool, List, None, Option, Some, [], ap, append_assoc, arith, eq-eqb, false, if◌then◌else◌, inl, inr, length, refl, subst, sym, true, ℕ, ◌++◌, ◌<◌, ◌∙◌, ◌∷◌, ◌≡◌, ◌≢◌}
pub use Rattle.std.proofs.lemmas.Bool.{cases_Bool}
pub use Rattle.std.proofs.lemmas.List.Elements.{Contains-push_cases}
pub use Rattle.std.specs.List.{Contains}
