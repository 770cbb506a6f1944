-- Small books with resets in them: words for worked examples.
use Rattle.std.specs.Prelude.{ℕ, List, [], ◌∷◌}
use Rattle.interface.specs.Host.{Host}
use Rattle.interface.specs.declared.crossing.Answer.TheVariants as answer
use Rattle.interface.specs.declared.crossing.Crossing.{Crossing}
use Rattle.interface.specs.declared.crossing.Crossing.TheVariants as crossing
use Rattle.interface.specs.declared.message.HostMessage.{HostMessage}
use Rattle.sockets.specs.Worked.{control, first, second, on_link}
pub use Rattle.promise.specs.Worked.{rst}
use Rattle.promise.specs.declared.book.Called.{Called}
use Rattle.net_sim.specs.Worked.{message}

abbrev pub call : Host → ℕ → Host → Called
call h place peer = record { host = h; place = place; peer = peer }

abbrev pub rrp : Host → Host → HostMessage
rrp from to = control from to (13 ∷ [])

-- the first host's user asks for a contact with the second, and the whole reset crosses
abbrev pub contacts : List Called
contacts = call first 0 second ∷ []

abbrev pub reset_on : List Crossing → List Crossing
reset_on log =
    crossing.In (rrp second first) ∷ crossing.Out (rrp second first) ∷ crossing.Answer answer.Rfnm (on_link first second 0) ∷ crossing.In (rst first second)
    ∷ crossing.Out (rst first second) ∷ log

-- a message of data from the second host to the first
abbrev pub text : HostMessage
text = message second first 2
