-- What a life counts had crossed before it was over (NIC 8246, CLS, RST and RRP).
use Rattle.std.specs.Prelude.{◌≡◌, ℕ, ◌≤◌, List, length}
use Rattle.std.specs.List.{Contains}
use Rattle.interface.specs.declared.crossing.Crossing.{Crossing}
use Rattle.promise.specs.Ends.{Cause, Over, stage}
use Rattle.promise.specs.Formed.{link_of, texts_on}
use Rattle.promise.specs.Safe.{before}
use Rattle.promise.specs.declared.book.Called.{Called}
use Rattle.promise.specs.declared.life.Life.{Life}

-- before a place as many messages crossed on a life's link, after both of its requests, as it counts
abbrev pub CountsBefore : List Crossing → ℕ → Life → Type 0
CountsBefore log place x = x.messages ≤ length (texts_on x (link_of log x) (before place log))

-- a life that is over counts no message that crossed after what ended it: after both CLS, after its connections were
-- dropped, or after its host stopped
abbrev pub CountNothingLater : List Called → List Crossing → List Life → Type 0
CountNothingLater contacts log lives =
    (x : Life) (cause : Cause) (place : ℕ) → Contains lives x → stage contacts x log ≡ Over cause place
    → CountsBefore log place x
