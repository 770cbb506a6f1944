-- Words for worked examples.
use Rattle.std.specs.Prelude.{◌≡◌, ◌++◌, ℕ, zero, suc, [], ◌∷◌, None, Some, codes, replicate, reverse}
use Rattle.host_services.specs.declared.report.Report.TheVariants as report
use Rattle.host_services.specs.declared.report.Reported.{Reported}
use Rattle.interface.specs.declared.crossing.Crossing.{Crossing}
use Rattle.interface.specs.declared.crossing.Crossing.TheVariants as crossing
use Rattle.interface.specs.Calls.{Seen}
use Rattle.host_services.specs.Services.{no_services}
use Rattle.net_sim.specs.Book.{all_crossed, crossed, opening_kept}
use Rattle.net_sim.specs.Worked.{fresh, message}
use Rattle.net_sim.specs.World.{WorldState, opening_world, serviced}
use Rattle.net_sim.specs.declared.event.Event.{Event}
use Rattle.promise.specs.declared.book.Told.{Told}
use Rattle.replay.specs.InTurn.{Happening}
pub use Rattle.replay.specs.Worked.{counting}
use Rattle.sockets.specs.Pairs.{opening_state}
use Rattle.sockets.specs.Worked.{first, second}
use Rattle.host_pairs.specs.declared.notice.Notice.TheVariants as notice

-- a message of the first host goes out, and comes to the second
abbrev pub went : Crossing
went = crossing.Out (message first second 0)

abbrev pub came : Crossing
came = crossing.In (message first second 0)

-- the second host gets a notice where there were this many crossings
abbrev pub told_at : ℕ → Told
told_at place = record { host = second; place = place; notice = notice.Ready first }

-- a line comes to its terminal, where this many notices was in the book
abbrev pub said_at : ℕ → Reported
said_at notices = record { host = second; notices = notices; report = report.Line (codes "A") }

-- the world over a carrier that counts its calls, after this many of them
abbrev pub after : ℕ → WorldState ℕ
after calls = opening_world counting calls

-- its book has one crossing more, and nothing else is other than it was
abbrev pub booked : {C : Type 0} → WorldState C → WorldState C
booked w = record w { kept = crossed went w.kept }

-- ---- worlds of two hosts

-- what is typed at the first one goes to socket 7
abbrev pub typing : WorldState Seen
typing = record fresh { services = serviced first (record no_services { typing = Some 7 }) fresh.services }

-- programs, or services, in another order
abbrev pub seats_turned_round : WorldState Seen
seats_turned_round = record fresh { seats = reverse fresh.seats }

abbrev pub services_turned_round : WorldState Seen
services_turned_round = record fresh { services = reverse fresh.services }

-- one more of them
abbrev pub one_more_seat : WorldState Seen
one_more_seat = record fresh { seats = fresh.seats ++ record { host = first; program = None } ∷ [] }

abbrev pub one_more_service : WorldState Seen
one_more_service = record fresh { services = fresh.services ++ record { host = first; services = no_services } ∷ [] }

-- ---- events by which something crosses until two messages have

-- the world in which this many have, of two hosts, of which the second is down
abbrev pub tally : ℕ → WorldState ℕ
tally crossings = record (after crossings) {
  seats = record { host = first; program = Some (opening_state first) } ∷ record { host = second; program = None } ∷ [];
  kept = all_crossed (replicate crossings went) opening_kept;
}

abbrev pub one_more : ℕ → ℕ
one_more zero = 1
one_more (suc crossings) = 2

-- each event shows itself
abbrev pub Ticks : Happening (WorldState ℕ) Event Event
Ticks old e new shown = (new ≡ tally (one_more old.carrier)) × (shown ≡ e ∷ [])

-- and one that fails changes nothing and shows nothing
abbrev pub Fails : Happening (WorldState ℕ) Event Event
Fails old e new shown = (new ≡ old) × (shown ≡ [])
