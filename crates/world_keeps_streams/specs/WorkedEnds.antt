-- A life of the first host's socket 16 with the second's socket 33, and what ends it: words for worked examples.
use Rattle.std.specs.Prelude.{ℕ, Bool, List, [], ◌∷◌, ◌++◌}
use Rattle.interface.specs.Host.{Host}
use Rattle.interface.specs.declared.crossing.Answer.{Answer}
use Rattle.interface.specs.declared.crossing.Crossing.{Crossing}
use Rattle.interface.specs.declared.crossing.Crossing.TheVariants as crossing
use Rattle.interface.specs.declared.message.HostMessage.{HostMessage}
use Rattle.promise.specs.Ends.{AreLeft, Stage, course, stage}
use Rattle.promise.specs.declared.book.Called.{Called}
use Rattle.promise.specs.declared.life.Fate.{Fate}
use Rattle.promise.specs.declared.life.Life.{Life}
use Rattle.net_sim.specs.Worked.{taker_of_nothing}
use Rattle.net_sim.specs.WorkedMoments.{eight_sent, rts, str}
use Rattle.world_keeps_streams.specs.Within.{CountNothingLater}
use Rattle.sockets.specs.Worked.{CLS, RTS, STR, control, first, message, on_link, second}

-- its own request is the RTS that went out at place 0, and its partner's the STR that came in at place 1
abbrev pub asker : Life
asker = record taker_of_nothing { own_stamp = 0; partner_stamp = 1 }

-- a life of the same sockets, of which the STR came in first
abbrev pub answerer : Life
answerer = record taker_of_nothing { own_stamp = 1; partner_stamp = 0 }

-- its stage, where no user of its host asked for a contact
abbrev pub stage_by : Life → List Crossing → Stage
stage_by x log = stage [] x log

-- and whether something that ends lives came between its requests
abbrev pub is_early : Life → List Crossing → Bool
is_early x log = (course [] x log).early

-- and whether it is left a fate, where it is the only one of a book
abbrev pub Left : Life → List Crossing → Fate → Type 0
Left x log f = AreLeft [] log (x ∷ []) (f ∷ [])

-- newest first: it has begun, and this came after that
abbrev pub begun_then : List Crossing → List Crossing
begun_then more = more ++ crossing.In str ∷ crossing.Out rts ∷ []

-- this crossed between its two requests
abbrev pub between : Crossing → List Crossing
between c = crossing.In str ∷ c ∷ crossing.Out rts ∷ []

-- a life whose partner's request came in at place 2
abbrev pub late_answer : Life
late_answer = record asker { partner_stamp = 2 }

-- one whose requests came a place later, and one whose requests came three places later
abbrev pub after_rst : Life
after_rst = record asker { own_stamp = 1; partner_stamp = 2 }

abbrev pub second_time : Life
second_time = record asker { own_stamp = 3; partner_stamp = 4 }

-- ---- CLS

-- the first host's CLS of the two sockets, and the second's
abbrev pub own_cls : HostMessage
own_cls = control first second (CLS 16 33)

abbrev pub partner_cls : HostMessage
partner_cls = control second first (CLS 33 16)

-- CLS of other sockets of the two hosts, one of which is the life's
abbrev pub other_cls : HostMessage
other_cls = control first second (CLS 16 35 ++ CLS 18 33)

-- several commands in one text of the second host
abbrev pub answered_by : List ℕ → HostMessage
answered_by octets = control second first octets

-- ---- contacts

abbrev pub contact : Host → ℕ → Host → Called
contact h place peer = record { host = h; place = place; peer = peer }

-- what became of a message on a link
abbrev pub told : Answer → Host → Host → ℕ → Crossing
told kind from to link = crossing.Answer kind (on_link from to link)

-- ---- two lives of the two hosts

-- the RTS and the STR of both cross in two messages
abbrev pub both_asked : List Crossing
both_asked = crossing.In (control second first (STR 33 16 8 ++ STR 35 18 8)) ∷ crossing.Out (control first second (RTS 16 33 2 ++ RTS 18 35 3)) ∷ []

abbrev pub second_life : Life
second_life = record asker { socket = 18; foreign = 35 }

-- the second life's requests cross after the first has begun
abbrev pub asked_later : List Crossing
asked_later = begun_then (crossing.In (control second first (STR 35 18 8)) ∷ crossing.Out (control first second (RTS 18 35 3)) ∷ [])

abbrev pub later_life : Life
later_life = record second_life { own_stamp = 2; partner_stamp = 3 }

-- ---- what a life counts

-- lives that count one message, which came in after their requests
abbrev pub took_one : Life
took_one = record asker { messages = 1 }

abbrev pub took_later : Life
took_later = record after_rst { messages = 1 }

-- a message with eight bits on another link than theirs
abbrev pub eight_elsewhere : HostMessage
eight_elsewhere = message second first 3 (0 ∷ 8 ∷ 0 ∷ 1 ∷ 0 ∷ 255 ∷ [])

-- a message comes in after the stop of the host, or before the requests
abbrev pub came_late : List Crossing
came_late = begun_then (crossing.In eight_sent ∷ crossing.Down first ∷ [])

abbrev pub came_sooner : List Crossing
came_sooner = crossing.Down first ∷ begun_then [] ++ crossing.In eight_sent ∷ []

-- the first of them counts nothing later, where this came after its requests
abbrev pub InTime : List Called → List Crossing → Type 0
InTime contacts more = CountNothingLater contacts (begun_then more) (took_one ∷ [])
