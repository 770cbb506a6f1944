use Rattle.std.proofs.Common.{rules, not}
use Rattle.std.proofs.lemmas.Fn.{filter_same}
use Rattle.host_pairs.specs.Entries.{is_over}
use Rattle.host_pairs.specs.declared.entry.Entry.{Entry}
use Rattle.host_pairs.proofs.ends.sweep.Goals as goal

pub returns : goal.returns
returns c = filter_same _ (λ (e : Entry). not (is_over e)) _ (λ x b f' k. search rules) _ _ c.retain.ensures.filtered
