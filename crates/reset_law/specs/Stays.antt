-- What two hosts say to one another while they stay together, that is from where both are through a reset until one of
-- them leaves (NIC 8246, RST: it closes all connections between two hosts).
use Rattle.std.specs.Prelude.{◌≡◌, ℕ, Bool, true, false, not, ◌&&◌, ◌||◌, ◌==◌, List, [], ◌∷◌, ◌++◌, if◌then◌else◌}
use Rattle.interface.specs.Host.{Host}
use Rattle.ncp_control.specs.Phases.{is_ready}
use Rattle.reset_law.specs.Events.{Reset, Other, Event, In, Out, are}
use Rattle.reset_law.specs.Boxes.{Box, Waiting}
use Rattle.reset_law.specs.Pairs.{pair}

-- host `a` is through a reset with `b`
abbrev pub ready : Host → Host → List Event → Bool
ready a b events = is_ready (pair a b events).phase

-- both are
abbrev pub joint : Host → Host → List Event → Bool
joint a b events = ready a b events && ready b a events

-- from this event on they are
abbrev pub begins : Host → Host → Event → List Event → Bool
begins a b e events = joint a b (e ∷ events) && not (joint a b events)

-- `a` takes an RST of `b`
abbrev pub takes_reset : Host → Host → Event → Bool
takes_reset a b (In x y l Reset) = are a b y x
takes_reset a b e = false

-- `a` stays with `b`: since both were ready, `a` has always been, and took no RST
abbrev pub stays : Host → Host → List Event → Bool
stays a b [] = false
stays a b (e ∷ events) = begins a b e events || (ready a b (e ∷ events) && not (takes_reset a b e) && stays a b events)

-- ---- words

-- what `a` says to `b` on a link by this event, except for RST and RRP
abbrev pub said_by : Host → Host → ℕ → Event → List (List Bool)
said_by a b l (Out x y k (Other text)) = if are a b x y && l == k then text ∷ [] else []
said_by a b l e = []

-- what `b` hears of `a` by it
abbrev pub heard_by : Host → Host → ℕ → Event → List (List Bool)
heard_by a b l (In x y k (Other text)) = if are a b x y && l == k then text ∷ [] else []
heard_by a b l e = []

-- all that `a` said to `b` on a link in its last stay, the oldest first
abbrev pub said_in_stay : Host → Host → ℕ → List Event → List (List Bool)
said_in_stay a b l [] = []
said_in_stay a b l (e ∷ events) = if begins a b e events then [] else said_in_stay a b l events ++ (if stays a b events then said_by a b l e else [])

-- all that `b` heard of `a` on a link in its last stay
abbrev pub heard_in_stay : Host → Host → ℕ → List Event → List (List Bool)
heard_in_stay a b l [] = []
heard_in_stay a b l (e ∷ events) = if begins a b e events then [] else heard_in_stay a b l events ++ (if stays b a events then heard_by a b l e else [])

-- what waits in a box, except for RST and RRP
abbrev pub waits_in : Box → List (List Bool)
waits_in (Waiting place (Other text)) = text ∷ []
waits_in box = []

-- a list begins with another
abbrev pub IsPrefix : List (List Bool) → List (List Bool) → Type 0
IsPrefix xs ys = (rest : List (List Bool)) × (xs ++ rest ≡ ys)
