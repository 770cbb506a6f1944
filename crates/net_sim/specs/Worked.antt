-- Small books and small worlds: words for worked examples.
use Rattle.std.specs.Prelude.{◌≡◌, ℕ, Bool, true, false, List, [], ◌∷◌, Some, Ok, Err, replicate}
use Rattle.interface.specs.Calls.{Calls, Seen, ShowsOffer, ShowsTake, ShowsStep, ShowsRound}
use Rattle.interface.specs.Host.{Host}
use Rattle.interface.specs.declared.carrier.CarrierFault.TheVariants as fault
use Rattle.interface.specs.declared.crossing.Answer.TheVariants as answer
use Rattle.interface.specs.declared.crossing.Crossing.{Crossing}
use Rattle.interface.specs.declared.crossing.Crossing.TheVariants as crossing
use Rattle.interface.specs.declared.crossing.Inbound.{Inbound}
use Rattle.interface.specs.declared.message.HostMessage.{HostMessage}
use Rattle.sockets.specs.Pairs.{opening_state}
use Rattle.host_pairs.specs.declared.notice.Notice.TheVariants as notice
use Rattle.sockets.specs.declared.request.Request.TheVariants as request
use Rattle.sockets.specs.Worked.{first, second, third, on_link}
use Rattle.promise.specs.Worked as promise
use Rattle.promise.specs.declared.life.Life.{Life}
use Rattle.promise.specs.declared.book.Told.{Told}
use Rattle.net_sim.specs.Book.{Kept, opening_kept, all_crossed, book_told, asked}
use Rattle.net_sim.specs.World.{WorldState, opening_world, changed, served_at}

-- ---- books

-- eight bits, four bits
abbrev pub eight : List Bool
eight = replicate 8 true

abbrev pub four : List Bool
four = replicate 4 false

-- as many bits as eight, each another
abbrev pub eight_zeros : List Bool
eight_zeros = replicate 8 false

abbrev pub message : Host → Host → ℕ → HostMessage
message from to link = promise.message from to link eight

-- newest first: a control message of the first host to the second, and one back; both are taken and answered
abbrev pub crossings : List Crossing
crossings =
    crossing.Answer answer.Rfnm (on_link second first 0) ∷ crossing.In (message second first 0) ∷ crossing.Answer answer.Rfnm (on_link first second 0)
    ∷ crossing.Out (message second first 0) ∷ crossing.In (message first second 0) ∷ crossing.Out (message first second 0) ∷ []

-- after them a connection is open from the second's socket 33 to the first's socket 16
abbrev pub opened_kept : Kept
opened_kept =
    book_told first (notice.Opened 16 second 33 0 4) (book_told second (notice.Opened 33 first 16 2 1) (all_crossed crossings opening_kept))

-- and two messages and 100 bits are granted, eight bits are handed over, sent and taken, and one message and 4 bits are returned
abbrev pub used : Kept
used =
    book_told first (notice.Returned 16 1 4) (book_told first (notice.Arrived 16 eight) (book_told second (notice.Sent 33 eight)
    (asked second (request.Send 33 eight) (asked first (request.Grant 16 2 100) opened_kept))))

-- and the receiver learns by CLS that its end is over
abbrev pub ended : Kept
ended = book_told first (notice.Ended 16 second 33) used

-- the lives that begin so
abbrev pub receiver : Life
receiver = record promise.taker { partner_stamp = 4; bits = []; messages = 0; granted = record { messages = 0; bits = 0 } }

abbrev pub sender : Life
sender = record promise.giver { bits = []; messages = 0 }

-- and as they are at last
abbrev pub taker : Life
taker = record receiver { bits = eight; messages = 1; granted = record { messages = 2; bits = 100 }; returned = record { messages = 1; bits = 4 } }

abbrev pub giver : Life
giver = record sender { bits = eight; messages = 1 }

-- where nothing was sent or taken
abbrev pub taker_of_nothing : Life
taker_of_nothing = record taker { bits = []; messages = 0 }

abbrev pub giver_of_nothing : Life
giver_of_nothing = record giver { bits = []; messages = 0 }

-- newest first: a control message to the first host, and one of the first to the third, which takes it
abbrev pub elsewhere : List Crossing
elsewhere = crossing.In (message first third 0) ∷ crossing.Out (message first third 0) ∷ crossing.Out (message second first 0) ∷ []

-- two lives whose requests answer one another, though the first is with the second host, and the other is the third host's
abbrev pub asker : Life
asker = record receiver { own_stamp = 1; partner_stamp = 1 }

abbrev pub stranger : Life
stranger = record sender { host = third; own_stamp = 0; partner_stamp = 2 }

abbrev pub over : Life → Life
over x = record x { ended = true }

-- who got which notice when
abbrev pub stamp_of : Told → Host × ℕ
stamp_of n = (n.host, n.place)

-- ---- worlds

-- a carrier of which no more is known than what it shows
abbrev pub any_carrier : Calls Seen
any_carrier = record { seen = λ s. s; offers = ShowsOffer; takes = ShowsTake; steps = ShowsStep; rounds = ShowsRound }

-- one that takes each message that it is offered, and one that has something for each host
abbrev pub accepting_carrier : Calls Seen
accepting_carrier = record any_carrier { offers = λ old m r new. (r ≡ Ok tt) × ShowsOffer old m r new }

abbrev pub giving_carrier : Calls Seen
giving_carrier = record any_carrier { takes = λ old h r new. (i : Inbound) × (r ≡ Ok (Some i)) × ShowsTake old h r new }

-- and one that has no memory for a quiet round
abbrev pub spent_carrier : Calls Seen
spent_carrier = record any_carrier { rounds = λ old r new. (r ≡ Err fault.OutOfMemory) × ShowsRound old r new }

-- two hosts that nobody has spoken to
abbrev pub fresh : WorldState Seen
fresh = opening_world any_carrier (record { hosts = first ∷ second ∷ []; log = []; stopped = false })

-- the second is down
abbrev pub down : WorldState Seen
down = changed fresh.carrier (crossing.Down second ∷ []) fresh

-- the first's user has asked for a contact
abbrev pub busy : WorldState Seen
busy = served_at first (request.Contact second) (opening_state first) fresh

-- memory has run out
abbrev pub halted : WorldState Seen
halted = record fresh { stopped = true }

-- and all this has crossed since the last event that is in the book
abbrev pub lacking : List Crossing → WorldState Seen
lacking log = record halted { carrier = record halted.carrier { log = log } }
