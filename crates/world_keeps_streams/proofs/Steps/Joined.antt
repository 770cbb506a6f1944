-- The two programs of a pair of hosts of a world on one link, beside two runs of the law of streams.
use Rattle.world_keeps_streams.proofs.Common.{◌≡◌, ℕ, Bool, true, false, List, [], ◌∷◌, ◌++◌, Host, Command, boxes, Stream, Order, Legal, Wrong, orders_of, AreAllowed, IsTelling, gone_now, numbered, receiver_now, sender_now, numbered_tells, pair_with, Moment, events_of, program, Fetched, Free, Joint, Lies, Party, Post, own_calls}
use Rattle.reset_law.specs.Events.{Message, Other, Reset, Reply}
use Rattle.reset_law.specs.Boxes as reset
use Rattle.reset_law.specs.Stays as stay
use Rattle.stream_law.specs.Receivers.{Receiver}
use Rattle.stream_law.specs.Within.{IsPrefix}
pub use Rattle.world_keeps_streams.specs.Calls.{numbered_by_peer}

pub turned_tells : IsTelling numbered_by_peer
turned_tells = record {
  own = λ a b g c d h e. numbered_tells.foreign b a g d c h e;
  foreign = λ a b g c d h e. numbered_tells.own b a g d c h e;
  gone = λ a b g c d h e. numbered_tells.gone b a g d c h e;
}

-- ---- what lies in a box

abbrev pub legal_in : List Order → List Command
legal_in [] = []
legal_in (Legal c ∷ orders) = c ∷ legal_in orders
legal_in (Wrong code octets ∷ orders) = legal_in orders

abbrev pub commands_of_message : Message → List Command
commands_of_message (Other text) = legal_in (orders_of text)
commands_of_message Reset = []
commands_of_message Reply = []

-- the commands that wait to be taken
abbrev pub commands_in : reset.Box → List Command
commands_in reset.Empty = []
commands_in (reset.Waiting place m) = commands_of_message m
commands_in (reset.Taken place m) = []

abbrev pub post_of_message : Message → Post
post_of_message (Other text) = Lies text
post_of_message Reset = Free
post_of_message Reply = Free

abbrev pub post_in : reset.Box → Post
post_in reset.Empty = Free
post_in (reset.Waiting place m) = post_of_message m
post_in (reset.Taken place m) = Fetched

-- ---- the two hosts

-- host `a` beside `b`. After what waits to be taken comes `rest`: what waits in its program, while it stays
abbrev pub party : Host → Host → ℕ → List Command → List Moment → Party
party a b link rest moments = record {
  stays = stay.stays a b (events_of moments);
  gone = gone_now b (own_calls a b moments);
  entries = (pair_with b (program a moments).peers).entries;
  pending = commands_in (boxes a b (events_of moments) 0) ++ rest;
  post = post_in (boxes a b (events_of moments) link);
}

pub record Joined (a b : Host) (link : ℕ) (moments : List Moment) : Type 0 where
  pub x : Stream
  pub y : Stream
  pub rest_a : List Command
  pub rest_b : List Command
  pub joint : Joint numbered numbered_by_peer numbered_tells turned_tells link x y (party a b link rest_a moments) (party b a link rest_b moments)
  pub queue_a : stay.stays a b (events_of moments) ≡ true → rest_a ≡ (pair_with b (program a moments).peers).queue
  pub queue_b : stay.stays b a (events_of moments) ≡ true → rest_b ≡ (pair_with a (program b moments).peers).queue
  -- the streams are those of the calls that the two made
  pub received_a : stay.stays a b (events_of moments) ≡ true → x.receiver ≡ receiver_now numbered b link (own_calls a b moments)
  pub sent_a : stay.stays a b (events_of moments) ≡ true → y.sender ≡ sender_now numbered b link (own_calls a b moments)
  pub received_b : stay.stays b a (events_of moments) ≡ true → y.receiver ≡ receiver_now numbered_by_peer a link (own_calls b a moments)
  pub sent_b : stay.stays b a (events_of moments) ≡ true → x.sender ≡ sender_now numbered_by_peer a link (own_calls b a moments)
  -- and each of these calls might be made
  pub allowed_a : stay.stays a b (events_of moments) ≡ true → AreAllowed numbered b link (own_calls a b moments)
  pub allowed_b : stay.stays b a (events_of moments) ≡ true → AreAllowed numbered_by_peer a link (own_calls b a moments)

-- a receiver hears nothing more of a connection, and takes nothing more in it where it has heard its CLS
pub record IsSettled (old new : Receiver) (c : ℕ) : Type 0 where
  pub over : new.over c ≡ old.over c
  pub first : new.first c ≡ old.first c
  pub taken : old.over c ≡ true → new.taken c ≡ old.taken c

-- what is kept of a stream after its receiver has left: it may take what lies there still, but grants and gets back nothing; and after its sender has
pub record Keeps (receiver_stays sender_stays : Bool) (old new : Stream) : Type 0 where
  pub granted : receiver_stays ≡ false → (c : ℕ) → new.receiver.granted c ≡ old.receiver.granted c
  pub returned : receiver_stays ≡ false → (c : ℕ) → new.receiver.returned c ≡ old.receiver.returned c
  pub taken : receiver_stays ≡ false → (c : ℕ) → IsPrefix (old.receiver.taken c) (new.receiver.taken c)
  pub settled : receiver_stays ≡ false → (c : ℕ) → IsSettled old.receiver new.receiver c
  pub sent : sender_stays ≡ false → (c : ℕ) → new.sender.sent c ≡ old.sender.sent c
