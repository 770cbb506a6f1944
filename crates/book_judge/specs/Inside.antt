-- What the contracts of private functions say. No public clause cites this file.
pub mod Made
pub mod Asked
pub mod Partners
pub mod Chains
pub mod Joined
pub mod Starts
pub mod Arrivals
pub mod Sent
pub mod Allocations
pub mod Said
pub mod Taken
pub mod Keys
pub mod Deeds
pub mod Changes
pub mod Begins
pub mod Contacts
pub mod Indexed
use Rattle.std.specs.Prelude.{ℕ, Bool, true, false, not, ◌&&◌, nat_le, if◌then◌else◌, List, [], ◌∷◌, slice_get, Option, Some, None}
use Rattle.std.specs.FinMap as map
use Rattle.interface.specs.Flow.{flow_cmp}
use Rattle.interface.specs.Host.{Host}
use Rattle.interface.specs.declared.address.Flow.{Flow}
use Rattle.interface.specs.declared.crossing.Answer.{Answer}
use Rattle.interface.specs.declared.crossing.Answer.TheVariants as answer
use Rattle.interface.specs.declared.crossing.Crossing.{Crossing}
use Rattle.interface.specs.declared.crossing.Crossing.TheVariants as crossing
use Rattle.book_judge.specs.declared.mail.Held.{Held}
use Rattle.book_judge.specs.declared.mail.Held.TheVariants as held
use Rattle.book_judge.specs.declared.mail.Mail.{Mail}
use Rattle.book_judge.specs.declared.mail.Mark.{Mark}

-- ---- texts

abbrev pub same_bit : Bool → Bool → Bool
same_bit true b = b
same_bit false b = not b

abbrev pub same_text : List Bool → List Bool → Bool
same_text [] [] = true
same_text [] (y ∷ ys) = false
same_text (x ∷ xs) [] = false
same_text (x ∷ xs) (y ∷ ys) = same_bit x y && same_text xs ys

-- ---- hosts

-- a host's own flow to itself
abbrev pub to_itself : Host → Flow
to_itself h = record { source = h; destination = h; link = record { 0 = 0 } }

abbrev pub mark_or : Option Mark → Mark
mark_or None = record { up = true; since = 0 }
mark_or (Some m) = m

abbrev pub mark_in : map.FinMap flow_cmp Mark → Host → Mark
mark_in hosts h = mark_or (map.get hosts (to_itself h))

abbrev pub is_up : Mail → Host → Bool
is_up m h = (mark_in m.hosts h).up

-- ---- boxes

abbrev pub fresh : ℕ → Option Held → Held
fresh since None = held.Empty
fresh since (Some held.Empty) = held.Empty
fresh since (Some (held.Waiting place)) = if nat_le since place then held.Waiting place else held.Empty
fresh since (Some (held.Taken place)) = if nat_le since place then held.Taken place else held.Empty

abbrev pub held_in : Mail → Flow → Held
held_in m f = fresh (mark_in m.hosts f.source).since (map.get m.boxes f)

abbrev pub taken : Held → Held
taken held.Empty = held.Empty
taken (held.Waiting place) = held.Taken place
taken (held.Taken place) = held.Taken place

abbrev pub is_empty : Held → Bool
is_empty held.Empty = true
is_empty (held.Waiting place) = false
is_empty (held.Taken place) = false

-- whether what crossed at a place went out with this text
abbrev pub says : Option Crossing → List Bool → Bool
says None text = false
says (Some (crossing.Out m)) text = same_text m.text text
says (Some (crossing.In m)) text = false
says (Some (crossing.Answer kind f)) text = false
says (Some (crossing.Down h)) text = false
says (Some (crossing.Up h)) text = false

abbrev pub waits_with : Held → List Crossing → List Bool → Bool
waits_with held.Empty log text = false
waits_with (held.Waiting place) log text = says (slice_get log place) text
waits_with (held.Taken place) log text = false

abbrev pub fits_answer : Answer → Held → Bool
fits_answer kind held.Empty = false
fits_answer answer.Rfnm (held.Waiting place) = false
fits_answer answer.Incomplete (held.Waiting place) = true
fits_answer answer.Dead (held.Waiting place) = true
fits_answer answer.NotTaken (held.Waiting place) = true
fits_answer answer.Rfnm (held.Taken place) = true
fits_answer answer.Incomplete (held.Taken place) = true
fits_answer answer.Dead (held.Taken place) = false
fits_answer answer.NotTaken (held.Taken place) = false

-- ---- crossings

abbrev pub opening_mail : Mail
opening_mail = record { boxes = map.empty; hosts = map.empty }

abbrev pub finds : Mail → List Crossing → Crossing → Bool
finds s log (crossing.Out m) = is_up s m.flow.source && is_empty (held_in s m.flow)
finds s log (crossing.In m) = is_up s m.flow.destination && waits_with (held_in s m.flow) log m.text
finds s log (crossing.Answer kind f) = is_up s f.source && fits_answer kind (held_in s f)
finds s log (crossing.Down h) = is_up s h
finds s log (crossing.Up h) = not (is_up s h)

abbrev pub crossed : ℕ → Crossing → Mail → Mail
crossed place (crossing.Out m) s = record s { boxes = map.insert s.boxes m.flow (held.Waiting place) }
crossed place (crossing.In m) s = record s { boxes = map.insert s.boxes m.flow (taken (held_in s m.flow)) }
crossed place (crossing.Answer kind f) s = record s { boxes = map.insert s.boxes f held.Empty }
crossed place (crossing.Down h) s = record s { hosts = map.insert s.hosts (to_itself h) (record { up = false; since = (mark_in s.hosts h).since }) }
crossed place (crossing.Up h) s = record s { hosts = map.insert s.hosts (to_itself h) (record { up = true; since = place }) }
