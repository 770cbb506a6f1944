-- What the commands of a host say on one link, as words of the law of streams (NIC 8246, the control commands). Sockets are named as the
-- speaker sees them: its own first.
use Rattle.std.specs.Prelude.{ℕ, suc, ◌==◌, ◌&&◌, Bool, false, if◌then◌else◌, List, [], ◌∷◌, ◌++◌, Option, Some, None}
use Rattle.ncp_control.specs.Numbers.{is_receive_socket}
use Rattle.ncp_control.specs.declared.command.Command.{Command}
use Rattle.ncp_control.specs.declared.command.Command.TheVariants as command
use Rattle.stream_law.specs.Words.{Word, Rts, Str, All, Gvb, Ret, Cls}
use Rattle.stream_law.specs.Receivers as receivers
use Rattle.stream_law.specs.Senders as senders
use Rattle.stream_law.specs.Senders.{Sender}
use Rattle.host_pairs.specs.Entries.{entry_at, has_cls}
use Rattle.host_pairs.specs.declared.entry.Entry.{Entry}

-- ---- words

-- a word without the connection in which it was said, where whoever hears it doesn't look at that
abbrev pub plain : Word → Word
plain (All c messages bits) = All 0 messages bits
plain (Gvb c messages bits) = Gvb 0 messages bits
plain (Ret c messages bits) = Ret 0 messages bits
plain w = w

abbrev pub one : Option Word → List Word
one None = []
one (Some w) = w ∷ []

-- what a receiver says by its moves, and what a sender says
abbrev pub received_words : List receivers.Move → List Word
received_words [] = []
received_words (m ∷ ms) = one (receivers.says m) ++ received_words ms

abbrev pub sent_words : List senders.Move → Sender → List Word
sent_words [] s = []
sent_words (m ∷ ms) s = one (senders.says m s) ++ sent_words ms (senders.moved m s)

-- ---- how many CLS were said of two sockets

-- one more, where this is a CLS of them
abbrev pub with_closing : Command → (ℕ → ℕ → ℕ) → ℕ → ℕ → ℕ
with_closing (command.Cls own foreign) n x y = if x == own && y == foreign then suc (n x y) else n x y
with_closing c n x y = n x y

abbrev pub closings_in : List Command → (ℕ → ℕ → ℕ) → ℕ → ℕ → ℕ
closings_in [] n = n
closings_in (c ∷ cs) n = closings_in cs (with_closing c n)

abbrev pub counted : Bool → ℕ → ℕ
counted more n = if more then suc n else n

abbrev pub has_said : Option Entry → Bool
has_said None = false
has_said (Some e) = has_cls e.closing

abbrev pub has_heard : Option Entry → Bool
has_heard None = false
has_heard (Some e) = e.partner_closed

-- a host has said one in each connection that is gone, and that of the end which is there; and it has heard as many
abbrev pub said_of : (ℕ → ℕ → ℕ) → List Entry → ℕ → ℕ → ℕ
said_of gone es own foreign = counted (has_said (entry_at own foreign es)) (gone own foreign)

abbrev pub heard_of : (ℕ → ℕ → ℕ) → List Entry → ℕ → ℕ → ℕ
heard_of gone es own foreign = counted (has_heard (entry_at own foreign es)) (gone own foreign)

-- as the peer sees the sockets
abbrev pub heard_from : (ℕ → ℕ → ℕ) → List Entry → ℕ → ℕ → ℕ
heard_from gone es foreign own = heard_of gone es own foreign

-- ---- the words of commands

-- what a host that receives on a link says by a command, after this many CLS. `number` identifies a connection by its sockets and how many
-- of theirs are over; the CLS of one that was never asked for on the link is no word there
abbrev pub receiver_word : (ℕ → ℕ → ℕ → ℕ) → ℕ → (ℕ → Bool) → (ℕ → ℕ → ℕ) → Command → List Word
receiver_word number link asked n (command.Rts receive send l) = if l == link then Rts (number receive send (n receive send)) ∷ [] else []
receiver_word number link asked n (command.All l messages bits) = if l == link then All 0 messages bits ∷ [] else []
receiver_word number link asked n (command.Gvb l messages bits) = if l == link then Gvb 0 messages bits ∷ [] else []
receiver_word number link asked n (command.Cls own foreign) =
    if is_receive_socket own && asked (number own foreign (n own foreign)) then Cls (number own foreign (n own foreign)) ∷ [] else []
receiver_word number link asked n c = []

abbrev pub receiver_words : (ℕ → ℕ → ℕ → ℕ) → ℕ → (ℕ → Bool) → (ℕ → ℕ → ℕ) → List Command → List Word
receiver_words number link asked n [] = []
receiver_words number link asked n (c ∷ cs) = receiver_word number link asked n c ++ receiver_words number link asked (with_closing c n) cs

-- and what a host that sends says: STR and CLS name no link, and are words on each
abbrev pub sender_word : (ℕ → ℕ → ℕ → ℕ) → ℕ → (ℕ → ℕ → ℕ) → Command → List Word
sender_word number link n (command.Str send receive size) = Str (number send receive (n send receive)) size ∷ []
sender_word number link n (command.Ret l messages bits) = if l == link then Ret 0 messages bits ∷ [] else []
sender_word number link n (command.Cls own foreign) = if is_receive_socket own then [] else Cls (number own foreign (n own foreign)) ∷ []
sender_word number link n c = []

abbrev pub sender_words : (ℕ → ℕ → ℕ → ℕ) → ℕ → (ℕ → ℕ → ℕ) → List Command → List Word
sender_words number link n [] = []
sender_words number link n (c ∷ cs) = sender_word number link n c ++ sender_words number link (with_closing c n) cs
