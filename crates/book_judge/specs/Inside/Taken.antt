-- The tests by which messages are judged. No public clause cites this file.
use Rattle.std.specs.Prelude.{ℕ, Bool, true, false, List, Option, Some, None}
use Rattle.std.specs.FinMap as map
use Rattle.interface.specs.Flow.{flow_cmp}
use Rattle.interface.specs.declared.address.Flow.{Flow}
use Rattle.interface.specs.declared.crossing.Answer.{Answer}
use Rattle.interface.specs.declared.crossing.Answer.TheVariants as answer
use Rattle.interface.specs.declared.crossing.Crossing.{Crossing}
use Rattle.interface.specs.declared.crossing.Crossing.TheVariants as crossing
use Rattle.book_judge.specs.Inside.{waits_with}
use Rattle.book_judge.specs.declared.mail.Held.{Held}
use Rattle.book_judge.specs.declared.mail.Held.TheVariants as held

abbrev pub held_or : Option Held → Held
held_or None = held.Empty
held_or (Some h) = h

abbrev pub last_on : map.FinMap flow_cmp Held → Flow → Held
last_on last f = held_or (map.get last f)

abbrev pub was_taken : Held → Bool
was_taken held.Empty = false
was_taken (held.Waiting place) = false
was_taken (held.Taken place) = true

abbrev pub answers : Answer → Held → Bool
answers answer.Rfnm h = was_taken h
answers answer.Incomplete h = true
answers answer.Dead h = true
answers answer.NotTaken h = true

-- whether a crossing finds what it has to
abbrev pub finds : map.FinMap flow_cmp Held → List Crossing → Crossing → Bool
finds last log (crossing.Out m) = true
finds last log (crossing.In m) = waits_with (last_on last m.flow) log m.text
finds last log (crossing.Answer kind f) = answers kind (last_on last f)
finds last log (crossing.Down h) = true
finds last log (crossing.Up h) = true

abbrev pub noted : ℕ → Crossing → map.FinMap flow_cmp Held → map.FinMap flow_cmp Held
noted place (crossing.Out m) last = map.insert last m.flow (held.Waiting place)
noted place (crossing.In m) last = map.insert last m.flow (held.Taken place)
noted place (crossing.Answer kind f) last = last
noted place (crossing.Down h) last = last
noted place (crossing.Up h) last = last
