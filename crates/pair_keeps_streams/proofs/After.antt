-- What a call of a host that stays keeps of the two hosts, whatever the call.
use Rattle.pair_keeps_streams.proofs.Common.{◌≡◌, ℕ, ◌<◌, Bool, true, List, ◌++◌, map, refl, ap, sym, subst, ◌∙◌, Host, Command, Word, Receiver, Sender, Stream, Box, PairState, Entry, Listener, all_received, all_sent, Call, IsTelling, IsAllowed, KeepBox, is_out, ends_by, gone_by, received_at, sent_at, Holds, name_of, plain, received_words, sent_words, closings_in, said_of, heard_from, receiver_words, sender_words}
use Rattle.std.proofs.lemmas.List.{map-append}
use Rattle.stream_law.specs.Receivers as receivers
use Rattle.stream_law.specs.Senders as senders
use Rattle.host_keeps_streams.proofs.lemmas.{step_box, step_holds, step_received, step_sent}
use Rattle.pair_keeps_streams.proofs.Granted.{AreKept, exact_receives, exact_sends}
use Rattle.pair_keeps_streams.proofs.Joint.{queue_by, AreLinked, Speaks, Party, Post, Half, Line, IsBox, Joint, receives, sends, heard_by, said_by}
use Rattle.pair_keeps_streams.proofs.Spoken.{AskedSame, closings_append, closings_same, receiver_append, receiver_same, sender_append, sender_same}
use Rattle.pair_keeps_streams.proofs.Streams.{Receiving, Sending, kept_receives, kept_sends, receives_receiver, receives_said, receives_sender, sends_receiver, sends_said, sends_sender}

-- ---- what is there after a call

abbrev pub x_after : (ℕ → ℕ → ℕ → ℕ) → ℕ → Call → PairState → List Listener → Party → Stream → Stream
x_after number link k q listening a x = receives (received_at (name_of number a.gone) link k q listening) x

abbrev pub y_after : (ℕ → ℕ → ℕ → ℕ) → ℕ → Call → PairState → List Listener → Party → Stream → Stream
y_after number link k q listening a y = sends (sent_at (name_of number a.gone) link k q listening y.sender) y

abbrev pub after : Party → Host → Call → PairState → List Listener → List Command → Post → Party
after a peer k q listening new post =
    record a { gone = gone_by a.entries (ends_by peer k q listening) a.gone; entries = ends_by peer k q listening; pending = a.pending ++ new; post = post }

-- the two hosts after a call of the one; `b` is the other as it is then
pub record Stepped (number other : ℕ → ℕ → ℕ → ℕ) (tells : IsTelling number) (others : IsTelling other) (link : ℕ) (x y : Stream) (a : Party) (peer : Host) (k : Call) (q : PairState) (listening : List Listener) (post : Post) (b : Party) : Type 0 where
  pub new : List Command
  pub queue : queue_by peer k q listening ≡ q.queue ++ new
  pub joint : Joint number other tells others link (x_after number link k q listening a x) (y_after number link k q listening a y) (after a peer k q listening new post) b

-- a host that stays
abbrev pub staying : (ℕ → ℕ → ℕ) → List Entry → List Command → Post → Party
staying gone entries pending post = record { stays = true; gone = gone; entries = entries; pending = pending; post = post }

pub staying_is : (a : Party) (q : PairState) → a.stays ≡ true → q.entries ≡ a.entries → staying a.gone q.entries a.pending a.post ≡ a
staying_is a q stays here =
    ap (λ (es : List Entry). staying a.gone es a.pending a.post) here
    ∙ ap (λ (v : Bool). record { stays = v; gone = a.gone; entries = a.entries; pending = a.pending; post = a.post }) (sym stays)

-- ---- what is kept

module _ (number other : ℕ → ℕ → ℕ → ℕ) (tells : IsTelling number) (others : IsTelling other) (link : ℕ) (x y : Stream) (gone : ℕ → ℕ → ℕ) (pending : List Command) (post : Post) (b : Party) (q : PairState)
    (j : Joint number other tells others link x y (staying gone q.entries pending post) b) (peer : Host) (listening : List Listener) (k : Call) where
  -- what the host knew, and what it does
  holds_here : Holds number tells link gone q.entries x.receiver y.sender
  holds_here = (j.mine refl).holds

  abbrev pub rm : List receivers.Move
  rm = received_at (name_of number gone) link k q listening

  abbrev pub sm : List senders.Move
  sm = sent_at (name_of number gone) link k q listening y.sender

  abbrev pub left : List Entry
  left = ends_by peer k q listening

  abbrev pub over : ℕ → ℕ → ℕ
  over = gone_by q.entries (ends_by peer k q listening) gone

  pub keep_box : IsAllowed link k q y.sender → KeepBox (is_out link k q) sm y.sender
  keep_box allowed = step_box number tells peer link gone k q listening x.receiver y.sender allowed holds_here

  module _ (speaks : Speaks number link gone peer k q listening (all_received rm x.receiver).asked (received_words rm) (sent_words sm y.sender)) where
    told_more : ((own foreign : ℕ) → said_of gone q.entries own foreign ≡ closings_in pending (heard_by b) own foreign) → (own foreign : ℕ)
        → said_of over left own foreign ≡ closings_in (pending ++ speaks.new) (heard_by b) own foreign
    told_more told own foreign =
        speaks.counts own foreign ∙ closings_same speaks.new _ _ told own foreign
        ∙ sym (ap (λ (n : ℕ → ℕ → ℕ). n own foreign) (closings_append pending _ _))

    module _ (told : (own foreign : ℕ) → said_of gone q.entries own foreign ≡ closings_in pending (heard_by b) own foreign) (line : Line number link (heard_by b) pending x.receiver.asked x.to_sender y.to_receiver)
        (news : AskedSame number link x.receiver.asked (all_received rm x.receiver).asked (said_of gone q.entries)) where
      -- what was said before says the same
      still_asked : AskedSame number link x.receiver.asked (all_received rm x.receiver).asked (closings_in pending (heard_by b))
      still_asked own foreign g l = news own foreign g (subst (λ (n : ℕ). g < n) (sym (told own foreign)) l)

      said_line : Line number link (heard_by b) (pending ++ speaks.new) (all_received rm x.receiver).asked (x.to_sender ++ received_words rm) (y.to_receiver ++ sent_words sm y.sender)
      said_line = record {
        received = map-append plain x.to_sender (received_words rm)
            ∙ ap (λ (l : List Word). l ++ map plain (received_words rm)) (line.received ∙ receiver_same number link x.receiver.asked (all_received rm x.receiver).asked pending _ _ (λ own foreign. refl) still_asked)
            ∙ ap (λ (l : List Word). receiver_words number link (all_received rm x.receiver).asked (heard_by b) pending ++ l)
            (speaks.received ∙ receiver_same number link (all_received rm x.receiver).asked (all_received rm x.receiver).asked speaks.new _ _ told (λ own foreign g l. refl))
            ∙ sym (receiver_append number link (all_received rm x.receiver).asked pending _ (heard_by b));
        sent = map-append plain y.to_receiver (sent_words sm y.sender)
            ∙ ap (λ (l : List Word). l ++ map plain (sent_words sm y.sender)) line.sent
            ∙ ap (λ (l : List Word). sender_words number link (heard_by b) pending ++ l) (speaks.sent ∙ sender_same number link speaks.new _ _ told)
            ∙ sym (sender_append number link pending _ _);
      }

    -- the other host is as it was, but for what is heard of it, and its message. `news`: nothing is asked for of which a CLS was said
    pub core : IsAllowed link k q y.sender → AreLinked (name_of number over) link left (all_received rm x.receiver) → AskedSame number link x.receiver.asked (all_received rm x.receiver).asked (said_of gone q.entries)
        → (rest_x rest_y : List Word) (box_x box_y : Box) → Receiving rm x rest_x box_x → Sending sm y rest_y box_y → (b.stays ≡ true → AreKept sm y)
        → (waits : List Command) → Line other link (heard_from over left) waits y.receiver.asked rest_y rest_x → (b.stays ≡ true → (own foreign : ℕ) → said_by b own foreign ≡ closings_in waits (heard_from over left) own foreign)
        → (mine theirs : Post) → IsBox (record b { pending = waits; post = theirs }) (staying over left (pending ++ speaks.new) mine) box_x → IsBox (staying over left (pending ++ speaks.new) mine) (record b { pending = waits; post = theirs }) box_y
        → Joint number other tells others link (receives rm x) (sends sm y) (staying over left (pending ++ speaks.new) mine) (record b { pending = waits; post = theirs })
    core allowed linked news rest_x rest_y box_x box_y rx sy ready waits line told mine theirs bx by = record {
      inv_x = kept_receives rm x (step_received number tells peer link gone k q listening x.receiver y.sender allowed holds_here).0 rx.may j.inv_x;
      inv_y = kept_sends sm y (step_sent number tells peer link gone k q listening x.receiver y.sender allowed holds_here).may sy.may j.inv_y;
      exact_x = λ e f. exact_receives rm x (step_received number tells peer link gone k q listening x.receiver y.sender allowed holds_here).0 rx.may j.inv_x (j.exact_x refl f);
      exact_y = λ e f. exact_sends sm y (step_sent number tells peer link gone k q listening x.receiver y.sender allowed holds_here).may sy.may (ready f) j.inv_y (j.exact_y refl f);
      mine = λ e. subst (λ (r : Receiver). Half number tells link r (sends sm y).sender (staying over left (pending ++ speaks.new) mine)) (sym (receives_receiver rm x))
          (subst (λ (s : Sender). Half number tells link (all_received rm x.receiver) s (staying over left (pending ++ speaks.new) mine)) (sym (sends_sender sm y)) half);
      theirs = λ e. subst (λ (r : Receiver). Half other others link r (receives rm x).sender (record b { pending = waits; post = theirs })) (sym (sends_receiver sm y))
          (subst (λ (s : Sender). Half other others link y.receiver s (record b { pending = waits; post = theirs })) (sym (receives_sender rm x)) (record { holds = (j.theirs e).holds; linked = (j.theirs e).linked }));
      to_b = λ e. subst (λ (r : Receiver). Line number link (heard_by b) (pending ++ speaks.new) r.asked (receives rm x).to_sender (sends sm y).to_receiver) (sym (receives_receiver rm x))
          (subst (λ (w : List Word). Line number link (heard_by b) (pending ++ speaks.new) (all_received rm x.receiver).asked w (sends sm y).to_receiver) (sym (receives_said rm x))
          (subst (λ (w : List Word). Line number link (heard_by b) (pending ++ speaks.new) (all_received rm x.receiver).asked (x.to_sender ++ received_words rm) w) (sym (sends_said sm y))
          (said_line (j.told_b refl e) (j.to_b e) news)));
      to_a = λ e. subst (λ (r : Receiver). Line other link (heard_from over left) waits r.asked (sends sm y).to_sender (receives rm x).to_receiver) (sym (sends_receiver sm y))
          (subst (λ (w : List Word). Line other link (heard_from over left) waits y.receiver.asked w (receives rm x).to_receiver) (sym sy.heard)
          (subst (λ (w : List Word). Line other link (heard_from over left) waits y.receiver.asked rest_y w) (sym rx.heard) line));
      told_b = λ e f. told_more (j.told_b refl f);
      told_a = λ e f. told f;
      box_x = subst (λ (o : Box). IsBox (record b { pending = waits; post = theirs }) (staying over left (pending ++ speaks.new) mine) o) (sym rx.box) bx;
      box_y = subst (λ (o : Box). IsBox (staying over left (pending ++ speaks.new) mine) (record b { pending = waits; post = theirs }) o) (sym sy.box) by;
    } where
      half : Half number tells link (all_received rm x.receiver) (all_sent sm y.sender) (staying over left (pending ++ speaks.new) mine)
      half = record { holds = step_holds number tells peer link gone k q listening x.receiver y.sender allowed holds_here; linked = linked }
