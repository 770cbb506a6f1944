-- One end of a connection, as its host has it (NIC 8246, RTS, STR and CLS).
use Rattle.std.specs.Prelude.{◌≡◌, ℕ, Bool, true, false, not, ◌&&◌, ◌||◌, Option, Some, None, is_some, if◌then◌else◌}
use Rattle.pairing_law.specs.Marks.{Mark, Ask, Close}

-- where its own request went out and where its partner's did, which it has taken; whether its own CLS has gone out and whether
-- its partner's was taken
pub record End : Type 0 where
  pub asked : Option ℕ
  pub partner : Option ℕ
  pub gone : Bool
  pub taken : Bool

-- there is no connection
abbrev pub nothing : End
nothing = record { asked = None; partner = None; gone = false; taken = false }

-- one of the two has asked for it
abbrev pub is_begun : End → Bool
is_begun e = is_some e.asked || is_some e.partner

-- ---- what a host says

-- it asks once for a connection, not after its CLS, and closes once what was asked for
abbrev pub MayGo : Mark → End → Type 0
MayGo (Ask p) e = (e.asked ≡ None) × (e.gone ≡ false)
MayGo Close e = (is_begun e ≡ true) × (e.gone ≡ false)

-- an end is over once a CLS has passed both ways
abbrev pub gone : Mark → End → End
gone (Ask p) e = record e { asked = Some p }
gone Close e = if e.taken then nothing else record e { gone = true }

-- ---- what it hears

-- a request is in order that is the first, and came before a CLS; a CLS that is the first, of what was asked for. Anything else is an error
abbrev pub fits : Mark → End → Bool
fits (Ask p) e = not (is_some e.partner) && not e.taken
fits Close e = is_begun e && not e.taken

abbrev pub mark_taken : Mark → End → End
mark_taken (Ask p) e = record e { partner = Some p }
mark_taken Close e = if e.gone then nothing else record e { taken = true }
