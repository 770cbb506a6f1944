-- What two hosts say and hear of all their connections one way, over the law of resets, as steps of the law of pairing: host `a`
-- has the receiving ends, and `b` the sending ones (NIC 8246, RTS, STR and CLS).
use Rattle.std.specs.Prelude.{ℕ, Bool, not, ◌&&◌, if◌then◌else◌, List, [], ◌∷◌, ◌++◌}
use Rattle.interface.specs.Host.{Host}
use Rattle.ncp_control.specs.Numbers.{is_receive_socket, is_send_socket}
use Rattle.ncp_control.specs.declared.command.Command.TheVariants as command
use Rattle.host_pairs.specs.Control.{Order, Legal, orders_of}
use Rattle.reset_law.specs.Events.{Event}
use Rattle.reset_law.specs.Stays as stay
use Rattle.pairing_law.specs.Marks.{Mark, Ask, Close}
use Rattle.pairing_law.specs.Links.{Word, Who, Receiver, Sender, Step, Says, Hears, Leaves, Meets}
use Rattle.host_keeps_pairing.specs.Spoken.{untagged}

-- ---- words

-- a word is of a receiving socket and a sending one; what a command says of any others is none
abbrev pub word : ℕ → ℕ → ℕ → Mark → List Word
word receive send link mark =
    if is_receive_socket receive && is_send_socket send then record { sockets = record { receive = receive; send = send }; link = link; mark = mark } ∷ []
    else []

-- what a command that is read says of connections one way: of the host with the receiving ends its RTS, which names the link, and the
-- CLS of its receiving sockets; of the other its STR, and the CLS of its sending sockets
abbrev pub word_by : Who → ℕ → Order → List Word
word_by Receiver place (Legal (command.Rts receive send link)) = word receive send link (Ask place)
word_by Receiver place (Legal (command.Cls own foreign)) = word own foreign 0 Close
word_by Sender place (Legal (command.Str send receive size)) = word receive send 0 (Ask place)
word_by Sender place (Legal (command.Cls own foreign)) = word foreign own 0 Close
word_by who place o = []

-- one command after the other
abbrev pub words_by : Who → ℕ → List Order → List Word
words_by who place [] = []
words_by who place (o ∷ orders) = word_by who place o ++ words_by who place orders

-- what texts say, each of which begins with its place, in their order
abbrev pub words_of : Who → List (List Bool) → List Word
words_of who [] = []
words_of who (text ∷ texts) = words_by who (untagged text).0 (orders_of (untagged text).1) ++ words_of who texts

-- words upon others, whose newest comes first
abbrev pub onto : List Word → List Word → List Word
onto [] base = base
onto (w ∷ words) base = onto words (w ∷ base)

-- ---- steps

-- one of them says these words, the first first, after older steps
abbrev pub all_said : Who → List Word → List Step → List Step
all_said who [] steps = steps
all_said who (w ∷ words) steps = all_said who words (Says who w ∷ steps)

-- it hears them, if it stays
abbrev pub all_heard : Who → List Word → List Step → List Step
all_heard who [] steps = steps
all_heard who (w ∷ words) steps = all_heard who words (Hears who w ∷ steps)

abbrev pub heard_in : Bool → Who → List Word → List Step → List Step
heard_in stays who words steps = if stays then all_heard who words steps else steps

-- host `x` is through a reset with `y` after the event, and took no RST
abbrev pub keeps : Host → Host → Event → List Event → Bool
keeps x y e events = stay.ready x y (e ∷ events) && not (stay.takes_reset x y e)

-- it leaves where it doesn't keep
abbrev pub steps_left : Bool → Who → List Step → List Step
steps_left keeps who steps = if keeps then steps else Leaves who ∷ steps

abbrev pub met : Bool → List Step → List Step
met begins steps = if begins then Meets ∷ steps else steps

-- what both say by an event, after older steps
abbrev pub spoken_by : Host → Host → Event → List Step → List Step
spoken_by a b e steps = all_said Receiver (words_of Receiver (stay.said_by a b 0 e)) (all_said Sender (words_of Sender (stay.said_by b a 0 e)) steps)

-- and what they hear
abbrev pub taken_by : Host → Host → Event → List Event → List Step → List Step
taken_by a b e events steps =
    heard_in (stay.stays a b events) Receiver (words_of Sender (stay.heard_by b a 0 e))
    (heard_in (stay.stays b a events) Sender (words_of Receiver (stay.heard_by a b 0 e)) steps)

-- all steps of a list of events, newest first: they say, they hear, they leave, they meet
abbrev pub steps : Host → Host → List Event → List Step
steps a b [] = []
steps a b (e ∷ events) =
    met (stay.begins a b e events) (steps_left (keeps a b e events) Receiver (steps_left (keeps b a e events) Sender (taken_by a b e events (spoken_by a b e (steps a b events)))))
