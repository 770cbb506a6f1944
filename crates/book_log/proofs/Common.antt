-- The names that several files of these proofs take from elsewhere, passed on from one place.
pub use Rattle.book_log.specs.Log.{Book, IsCrossing, IsHanded, fates_of, handed_line, lives_of, logged_line, stranger_line, strangers_text}
pub use Rattle.book_log.specs.Steps.{BeginsBook, IsBadBookLine, IsBookText, IsLine, added, begins_wrong, is_bare, line_text, words_left}
pub use Rattle.book_log.specs.declared.lines.Line.{Line}
pub use Rattle.interface.specs.Host.{Host}
pub use Rattle.interface.specs.Printed.{host_text}
pub use Rattle.interface.specs.declared.address.Flow.{Flow}
pub use Rattle.interface.specs.declared.crossing.Answer.{Answer}
pub use Rattle.interface.specs.declared.crossing.Crossing.{Crossing}
pub use Rattle.interface.specs.declared.message.HostMessage.{HostMessage}
pub use Rattle.promise.specs.declared.life.Fate.{Fate}
pub use Rattle.promise.specs.declared.life.Life.{Life}
pub use Rattle.replay.proofs.lemmas.{on_ok, text_more}
pub use Rattle.replay.specs.InTurn.{text_of}
pub use Rattle.script.proofs.lemmas.{SameCut, differs, same_cut, uncut, unmarked_where}
pub use Rattle.script.specs.Input.{ended_line}
pub use Rattle.script.specs.Spelling.{IsFlow, IsHost, IsMessage, ReadsAs, octets_text}
pub use Rattle.script.specs.Steps.{Lacks}
pub use Rattle.std.proofs.Common.{Bool, Err, List, None, Option, Some, [], ap, append-nil, append_assoc, ap₂, arith, codes, false, inl, inr, length, map, refl, rules, subst, sym, take, true, ℕ, ◌++◌, ◌+◌, ◌<◌, ◌==◌, ◌^◌, ◌∙◌, ◌∷◌, ◌≡◌, ◌≢◌, ◌≤◌}
pub use Rattle.std.proofs.lemmas.Bool.{false≢true}
pub use Rattle.std.proofs.lemmas.Grind.{flat_map-append}
pub use Rattle.std.proofs.lemmas.List.Elements.{All-append, All-cons, All-head, All-more, All-nil, All-tail}
pub use Rattle.std.proofs.lemmas.Slice.Zip.{firsts-zip, seconds-zip}
pub use Rattle.std.specs.Fmt.{decimal}
pub use Rattle.std.specs.Io.KnownBytes.{Appends}
pub use Rattle.std.specs.List.{All, join_with_byte, zip}
pub use Rattle.std.specs.Str.{bytes_eq}
pub use Rattle.world_replay.specs.Printed.{worded_life}
