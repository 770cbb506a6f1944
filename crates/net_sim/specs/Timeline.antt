-- The moments of a book, and what resets see of it: its crossings, and the contacts that users asked for.
use Rattle.std.specs.Prelude.{◌≡◌, ℕ, ◌==◌, true, if◌then◌else◌, List, [], ◌∷◌, ◌++◌, length, Some, None}
use Rattle.interface.specs.Host.{Host}
use Rattle.interface.specs.Mailboxes as mail
use Rattle.interface.specs.Mailboxes.{is_up}
use Rattle.interface.specs.declared.crossing.Crossing.{Crossing}
use Rattle.interface.specs.declared.crossing.Crossing.TheVariants as crossing
pub use Rattle.host_services.specs.Named.{IsAddressed, IsAsked}
use Rattle.sockets.specs.Requests.{refusal}
use Rattle.sockets.specs.Sending.{next_out}
use Rattle.reset_law.specs.Boxes.{Box, Empty, Waiting, Taken}
use Rattle.reset_law.specs.Events.{Event, Contact}
use Rattle.promise.specs.declared.book.Called.{Called}
use Rattle.net_sim.specs.Book.{contacts_asked}
use Rattle.net_sim.specs.Projection.{event_of, message_on}
use Rattle.net_sim.specs.Story.{Moment, Crossed, Asked, program, places}

-- ---- what resets see of a book

-- the contacts that were asked for when there were this many crossings, newest first
abbrev pub called_at : ℕ → List Called → List Event
called_at place [] = []
called_at place (x ∷ xs) = called_at place xs ++ (if x.place == place then Contact x.host x.peer ∷ [] else [])

-- crossings and contacts in one list, newest first: a contact is above the crossings that were before it
abbrev pub events_in : List Called → List Crossing → List Event
events_in contacts [] = called_at 0 contacts
events_in contacts (c ∷ log) = called_at (length (c ∷ log)) contacts ++ event_of c ∷ events_in contacts log

-- a box as the law of resets has it
abbrev pub seen_box : ℕ → mail.Box → Box
seen_box link mail.Empty = Empty
seen_box link (mail.Waiting place text) = Waiting place (message_on link text)
seen_box link (mail.Taken place text) = Taken place (message_on link text)

-- ---- moments

-- what crossed by these moments, newest first
abbrev pub crossings_of : List Moment → List Crossing
crossings_of [] = []
crossings_of (Crossed c ∷ moments) = c ∷ crossings_of moments
crossings_of (Asked h r ∷ moments) = crossings_of moments

-- the contacts that were asked for, oldest first
abbrev pub contacts_of : List Moment → List Called
contacts_of [] = []
contacts_of (Crossed c ∷ moments) = contacts_of moments
contacts_of (Asked h r ∷ moments) = contacts_of moments ++ contacts_asked h (places moments) r

-- what a moment asks of those before it: what goes out is what its host's program says next, and users ask where hosts are up, for
-- what isn't refused, in numbers of their types
abbrev pub Happens : List Host → Moment → List Moment → Type 0
Happens hosts (Crossed (crossing.Out m)) moments = next_out (program m.flow.source moments) ≡ Some m
Happens hosts (Crossed c) moments = Unit {0}
Happens hosts (Asked h r) moments = (is_up hosts h (crossings_of moments) ≡ true) × IsAddressed r × (refusal (program h moments) r ≡ None) × IsAsked r

abbrev pub IsTimeline : List Host → List Moment → Type 0
IsTimeline hosts [] = Unit {0}
IsTimeline hosts (x ∷ moments) = Happens hosts x moments × IsTimeline hosts moments
