-- Boxes in which nothing waits, but for some hosts.
use Rattle.std.specs.Prelude.{◌≡◌, Bool, true, false, List, length, None, ◌==◌, ◌&&◌, ◌||◌}
use Rattle.interface.specs.Host.{Host, is_host}
use Rattle.leader1822.specs.Boxes.{Boxes, for_host, next_for}

-- nothing waits for a host, or it is one of these
abbrev pub has_none_beside : Boxes → List Host → Host → Bool
has_none_beside b hosts h = (length (for_host b.messages h) == 0 && length (for_host b.answers h) == 0) || is_host hosts h

-- nothing waits for any host of the network but these
abbrev pub AreEmptyBeside : Boxes → List Host → Type 0
AreEmptyBeside b hosts = (h : Host) → is_host b.hosts h ≡ true → is_host hosts h ≡ false → next_for b h ≡ None
