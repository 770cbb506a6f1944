-- What a place keeps.
use Rattle.bit_messages.specs.Store.{Stored, stored}
use Rattle.bit_messages.specs.declared.store.Place.{Place}
use Rattle.bit_messages.specs.declared.store.Place.TheVariants.{Within, Apart}

-- what a text is of octets that lie within its value or apart from it
abbrev pub stored_in : Place → Stored
stored_in (Within few) = few
stored_in (Apart len octets) = stored octets.items len
