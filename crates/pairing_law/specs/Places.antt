-- The events of the law of resets, where each text begins with the place where it went out.
use Rattle.std.specs.Prelude.{ℕ, zero, suc, Bool, true, false, List, [], ◌∷◌}
use Rattle.reset_law.specs.Events.{Message, Reset, Reply, Other, Event, Contact, Out, In, Told, Down, Up, Idle, place}
use Rattle.reset_law.specs.Boxes.{Box, Empty, Waiting, Taken, boxes}

-- a place, counted in bits, before a text
abbrev pub tagged : ℕ → List Bool → List Bool
tagged zero text = false ∷ text
tagged (suc p) text = true ∷ tagged p text

abbrev pub with_place : ℕ → Message → Message
with_place p Reset = Reset
with_place p Reply = Reply
with_place p (Other text) = Other (tagged p text)

-- what is taken has the place of the box in which it waits
abbrev pub with_box : Box → Message → Message
with_box Empty m = m
with_box (Waiting p n) m = with_place p m
with_box (Taken p n) m = m

abbrev pub placed_event : Event → List Event → Event
placed_event (Contact a b) events = Contact a b
placed_event (Out a b l m) events = Out a b l (with_place (place events) m)
placed_event (In a b l m) events = In a b l (with_box (boxes a b events l) m)
placed_event (Told a b l k) events = Told a b l k
placed_event (Down h) events = Down h
placed_event (Up h) events = Up h
placed_event Idle events = Idle

abbrev pub placed : List Event → List Event
placed [] = []
placed (e ∷ events) = placed_event e events ∷ placed events
