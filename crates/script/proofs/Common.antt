-- The names that several files of these proofs take from elsewhere, passed on from one place.
pub use Rattle.bit_messages.specs.Octets.{bits_of, octets_of}
pub use Rattle.hex.specs.Hex.{encode_upper}
pub use Rattle.interface.specs.Host.{Host}
pub use Rattle.interface.specs.Printed.{flow_text, host_text}
pub use Rattle.interface.specs.declared.address.Flow.{Flow}
pub use Rattle.interface.specs.declared.event.Direction.{Direction}
pub use Rattle.interface.specs.declared.message.HostMessage.{HostMessage}
pub use Rattle.script.specs.Input.{IsParted, ended_line}
pub use Rattle.script.specs.Spelling.{is_upper_digit}
pub use Rattle.script.specs.Steps.{Lacks, ReadsFlow, begins_wrong}
pub use Rattle.script.specs.declared.event.RawEvent.{RawEvent}
pub use Rattle.std.proofs.lemmas.Bool.{false≢true}
pub use Rattle.std.proofs.lemmas.Bool.Decides.{nat_tests}
pub use Rattle.std.proofs.lemmas.Fmt.{decimal_injective}
pub use Rattle.std.proofs.lemmas.List.Elements.{All-append, All-cons, All-head, All-nil, All-tail}
pub use Rattle.std.proofs.lemmas.Str.{digit_value_digit}
pub use Rattle.std.specs.Char.{digit_value}
pub use Rattle.std.specs.Fmt.{decimal}
pub use Rattle.std.specs.Int.{IsInRange}
pub use Rattle.std.specs.List.{All, flat_map, list_all, list_any}
