-- What is on a link, as the program says it: an open end by its place.
use Rattle.std.specs.Prelude.{◌≡◌, ◌<◌, List, length, slice_index_or}
use Rattle.host_pairs.specs.Commands as commands
use Rattle.host_pairs.specs.declared.entry.Entry.{Entry}
use Rattle.host_pairs.specs.declared.found.Found.{Found}
use Rattle.host_pairs.specs.declared.found.Found.TheVariants as found

-- the program's answer is for what was found among these ends
abbrev pub IsFor : List Entry → Found → commands.Found → Type 0
IsFor entries found.Unconnected what = what ≡ commands.Unconnected
IsFor entries found.Ending what = what ≡ commands.Ending
IsFor entries (found.Open at) what = (at < length entries) × ((d : Entry) → what ≡ commands.Open (slice_index_or entries at d))
