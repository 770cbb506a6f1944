-- Boxes in which nothing is outstanding.
use Rattle.std.specs.Prelude.{◌≡◌, true}
use Rattle.interface.specs.Mailboxes.{Empty, box_of, is_up}
use Rattle.interface.specs.declared.address.Flow.{Flow}
use Rattle.leader1822.specs.Boxes.{Boxes}

-- each message of a host that is up was answered
abbrev pub AllAnswered : Boxes → Type 0
AllAnswered b = (f : Flow) → is_up b.hosts f.source b.log ≡ true → box_of f b.log ≡ Empty
