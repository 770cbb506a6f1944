-- What is known of each flow's messages, where their data are joined. No public clause cites this file.
use Rattle.std.specs.Prelude.{◌≡◌, ℕ, ◌<◌, ◌≤◌, ◌+◌, suc, Bool, true, false, List, [], ◌∷◌, ◌++◌, length, drop, take, slice_get, Option, Some, None}
use Rattle.std.specs.FinMap as map
use Rattle.interface.specs.declared.address.Flow.{Flow}
use Rattle.interface.specs.declared.crossing.Crossing.{Crossing}
use Rattle.interface.specs.declared.crossing.Crossing.TheVariants as crossing
use Rattle.interface.specs.declared.message.HostMessage.{HostMessage}
use Rattle.promise.specs.Formed.{data_in, first_data, text_of}
use Rattle.book_judge.specs.declared.joined.Joined.{Joined}
use Rattle.book_judge.specs.declared.joined.Piece.{Piece}
use Rattle.book_judge.specs.declared.joined.Stream.{Stream}

-- the texts that cross on a flow, the oldest first
abbrev pub texts_by : Bool → Flow → List Crossing → List (List Bool)
texts_by comes f [] = []
texts_by comes f (c ∷ log) = text_of comes f c ++ texts_by comes f log

-- the bits are the data of the first texts from a place on, as many as this
abbrev pub IsFirst : Bool → Flow → List Crossing → ℕ → ℕ → List Bool → Type 0
IsFirst comes f log since count bits = first_data comes count (texts_by comes f (drop since log)) ≡ Some bits

-- the message that comes in, or that goes out
abbrev pub message_of : Bool → Crossing → Option HostMessage
message_of true (crossing.In m) = Some m
message_of false (crossing.Out m) = Some m
message_of comes c = None

-- the data of all texts that have any, and how many have none
abbrev pub bits_in : Option (List Bool) → List Bool
bits_in None = []
bits_in (Some bits) = bits

abbrev pub all_bits : Bool → List (List Bool) → List Bool
all_bits comes [] = []
all_bits comes (text ∷ texts) = bits_in (data_in comes text) ++ all_bits comes texts

abbrev pub one_unread : Option (List Bool) → ℕ
one_unread None = 1
one_unread (Some bits) = 0

abbrev pub unread_in : Bool → List (List Bool) → ℕ
unread_in comes [] = 0
unread_in comes (text ∷ texts) = one_unread (data_in comes text) + unread_in comes texts

abbrev pub pair : ℕ → ℕ → ℕ × ℕ
pair a b = (a, b)

-- how many bits texts have, and how many of them have none
abbrev pub marked : Bool → List (List Bool) → ℕ × ℕ
marked comes texts = pair (length (all_bits comes texts)) (unread_in comes texts)

-- of pieces that cross one after another: how many are before a place
abbrev pub IsFirstFrom : List Piece → ℕ → ℕ → Type 0
IsFirstFrom pieces since n =
    (n ≤ length pieces)
    × (((i j : ℕ) (p q : Piece) → i < j → slice_get pieces i ≡ Some p → slice_get pieces j ≡ Some q → p.place < q.place)
    → ((i : ℕ) (p : Piece) → slice_get pieces i ≡ Some p → i < n → p.place < since) × ((i : ℕ) (p : Piece) → slice_get pieces i ≡ Some p → n ≤ i → since ≤ p.place))

-- a piece is the message at its number: where it crossed, and what the messages before it have
pub record IsPiece (comes : Bool) (f : Flow) (log : List Crossing) (i : ℕ) (p : Piece) : Type 0 where
  pub within : p.place < length log
  pub here : length (texts_by comes f (take p.place log)) ≡ i
  pub next : length (texts_by comes f (take (suc p.place) log)) ≡ suc i
  pub before : pair p.before p.unread ≡ marked comes (take i (texts_by comes f log))

-- a stream has all messages of a flow
pub record IsStream (comes : Bool) (f : Flow) (log : List Crossing) (s : Stream) : Type 0 where
  pub counts : length s.pieces.items ≡ length (texts_by comes f log)
  pub pieces : (i : ℕ) (p : Piece) → slice_get s.pieces.items i ≡ Some p → IsPiece comes f log i p
  pub bits : s.bits ≡ all_bits comes (texts_by comes f log)
  pub unread : length s.unread.items ≡ unread_in comes (texts_by comes f log)

-- one stream has a message more than another, with this text
abbrev pub Grows : Bool → ℕ → List Bool → Stream → Stream → Type 0
Grows comes place text was is = (f : Flow) (log : List Crossing) (c : Crossing) → length log ≡ place → text_of comes f c ≡ text ∷ [] → IsStream comes f log was → IsStream comes f (log ++ c ∷ []) is

-- a flow without a number has no messages, and of one with a number the stream is there
abbrev pub StreamOf : Bool → Flow → List Crossing → Option ℕ → List Stream → Type 0
StreamOf comes f log None streams = texts_by comes f log ≡ []
StreamOf comes f log (Some n) streams = (s : Stream) × (slice_get streams n ≡ Some s) × IsStream comes f log s

-- so it is of all flows, and no two have one number
pub record AreJoined (comes : Bool) (log : List Crossing) (j : Joined) : Type 0 where
  pub streams : (f : Flow) → StreamOf comes f log (map.get j.numbers f) j.streams.items
  pub apart : (f g : Flow) (n : ℕ) → map.get j.numbers f ≡ Some n → map.get j.numbers g ≡ Some n → f ≡ g

-- a flow has a number now: the one that it had, or a new one, whose stream has no messages
abbrev pub NumberBy : Option ℕ → ℕ → Flow → Joined → Joined → Type 0
NumberBy (Some old) n f was is = (n ≡ old) × (is ≡ was)
NumberBy None n f was is =
    (n ≡ length was.streams.items) × (is.numbers ≡ map.insert was.numbers f n)
    × ((s : Stream) × (is.streams.items ≡ was.streams.items ++ s ∷ []) × ((comes : Bool) (g : Flow) → IsStream comes g [] s))

abbrev pub HasNumber : ℕ → Flow → Joined → Joined → Type 0
HasNumber n f was is = NumberBy (map.get was.numbers f) n f was is

-- ---- numbers

-- the message of a flow with this number crosses at a place: that many crossed before it
abbrev pub IsNth : Bool → Flow → List Crossing → ℕ → ℕ → Type 0
IsNth comes f log n place =
    (place < length log) × (length (texts_by comes f (take place log)) ≡ n) × (length (texts_by comes f (take (suc place) log)) ≡ suc n)

-- where it is, or that there are no more
abbrev pub PlaceOf : Bool → Flow → List Crossing → ℕ → Option ℕ → Type 0
PlaceOf comes f log n None = length (texts_by comes f log) ≤ n
PlaceOf comes f log n (Some place) = IsNth comes f log n place
