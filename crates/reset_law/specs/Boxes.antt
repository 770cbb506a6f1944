-- The mailboxes of the messages from one host to another, a box for each link (BBN Report 1822: one message outstanding on
-- a link).
use Rattle.std.specs.Prelude.{◌≡◌, ℕ, ◌==◌, List, [], ◌∷◌, Option, Some, None, if◌then◌else◌}
use Rattle.interface.specs.Host.{Host, same_host}
use Rattle.interface.specs.declared.crossing.Answer.{Answer}
use Rattle.interface.specs.declared.crossing.Answer.TheVariants as answer
use Rattle.reset_law.specs.Events.{Message, Event, Contact, Out, In, Told, Down, Up, Idle, place, when, are}

-- none is outstanding, or a message waits to be taken, or it was taken and has no answer yet. A message is given by the place
-- where it went out
pub data Box : Type 0 where
  Empty : Box
  Waiting : (place : ℕ) → (message : Message) → Box
  Taken : (place : ℕ) → (message : Message) → Box

abbrev pub WaitsWith : Box → Message → Type 0
WaitsWith Empty m = ⊥
WaitsWith (Waiting place kept) m = kept ≡ m
WaitsWith (Taken place kept) m = ⊥

abbrev pub fetched : Box → Box
fetched Empty = Empty
fetched (Waiting place m) = Taken place m
fetched (Taken place m) = Taken place m

-- an answer fits: RFNM a message that was taken, Dead one that waits, Incomplete either of them
abbrev pub Fits : Answer → Box → Type 0
Fits answer.Rfnm Empty = ⊥
Fits answer.Rfnm (Waiting place m) = ⊥
Fits answer.Rfnm (Taken place m) = Unit {0}
Fits answer.Dead Empty = ⊥
Fits answer.Dead (Waiting place m) = Unit {0}
Fits answer.Dead (Taken place m) = ⊥
Fits answer.Incomplete Empty = ⊥
Fits answer.Incomplete (Waiting place m) = Unit {0}
Fits answer.Incomplete (Taken place m) = Unit {0}
Fits answer.NotTaken Empty = ⊥
Fits answer.NotTaken (Waiting place m) = Unit {0}
Fits answer.NotTaken (Taken place m) = ⊥

-- what an event is for the boxes from one host to another
pub data Post : Type 0 where
  Put : (link : ℕ) → (message : Message) → Post
  Fetch : (link : ℕ) → Post
  Clear : (link : ℕ) → Post
  ClearAll : Post

abbrev pub post_of : Host → Host → Event → Option Post
post_of a b (Contact x y) = None
post_of a b (Out x y l m) = when (are a b x y) (Put l m)
post_of a b (In x y l m) = when (are a b x y) (Fetch l)
post_of a b (Told x y l k) = when (are a b x y) (Clear l)
post_of a b (Down x) = None
post_of a b (Up x) = when (same_host a x) ClearAll
post_of a b Idle = None

-- a function by link, changed at one link
abbrev pub at_link : {A : Type 0} → (ℕ → A) → ℕ → A → ℕ → A
at_link f l x k = if k == l then x else f k

abbrev pub posted : ℕ → Option Post → (ℕ → Box) → ℕ → Box
posted here None boxes = boxes
posted here (Some (Put l m)) boxes = at_link boxes l (Waiting here m)
posted here (Some (Fetch l)) boxes = at_link boxes l (fetched (boxes l))
posted here (Some (Clear l)) boxes = at_link boxes l Empty
posted here (Some ClearAll) boxes = λ k. Empty

-- the boxes from `a` to `b`, by link
abbrev pub boxes : Host → Host → List Event → ℕ → Box
boxes a b [] = λ k. Empty
boxes a b (e ∷ events) = posted (place events) (post_of a b e) (boxes a b events)
