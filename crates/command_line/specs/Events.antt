-- What scripts ask for.
use Rattle.std.specs.Prelude.{◌==◌, ℕ, Bool, true, false, List, length, not}
use Rattle.interface.specs.Host.{Host}
use Rattle.script.specs.Script.{AskFor, IsFirstBad, IsFirstBadAs}
use Rattle.script.specs.declared.event.RawEvent.{RawEvent}
use Rattle.world_script.specs.WorldScript as world
use Rattle.world_script.specs.WorldSpelling.{IsWorldEvent, world_spelling}
use Rattle.world_script.specs.declared.event.WorldEvent.{WorldEvent}
use Rattle.command_line.specs.declared.input.Events.{Events}
use Rattle.command_line.specs.declared.input.Events.TheVariants as given

-- events of a network without host programs, or of one whose hosts have programs
pub data Asked : Type 0 where
  Raw : List RawEvent → Asked
  World : List WorldEvent → Asked

abbrev pub asked_of : Events → Asked
asked_of (given.Raw events) = Raw events.items
asked_of (given.World events) = World events.items

-- whether they are of a network without host programs
abbrev pub is_raw : Asked → Bool
is_raw (Raw events) = true
is_raw (World events) = false

-- whether there are strangers
abbrev pub are_some : List Host → Bool
are_some strangers = not (length strangers == 0)

-- a script's lines ask for these events, where its network is raw or has host programs, with strangers or without
abbrev pub AsksFor : Bool → Bool → Asked → List (List ℕ) → Type 0
AsksFor true among (Raw events) lines = AskFor events lines
AsksFor true among (World events) lines = ⊥
AsksFor false among (Raw events) lines = ⊥
AsksFor false among (World events) lines = world.AskFor among events lines

-- this is the first line that asks for no event
abbrev pub IsFirstBadIn : Bool → Bool → List ℕ → ℕ → Type 0
IsFirstBadIn true among text number = IsFirstBad text number
IsFirstBadIn false among text number = IsFirstBadAs world_spelling (IsWorldEvent among) text number
