-- What is known of each call of a host that stays, whatever the other does, and what follows where the other hears and says nothing.
use Rattle.pair_keeps_streams.proofs.Common.{◌≡◌, ℕ, ◌==◌, true, false, List, ◌++◌, refl, sym, ◌∙◌, Host, Command, Word, Receiver, Sender, Stream, Box, Empty, Waiting, Taken, PairState, Listener, all_received, Call, Hears, IsTelling, IsAllowed, ends_by, gone_by, received_at, sent_at, Holds, name_of, received_words, sent_words, with_closing, closings_in, heard_of, heard_from}
use Rattle.stream_law.specs.Receivers as receivers
use Rattle.stream_law.specs.Senders as senders
use Rattle.pair_keeps_streams.proofs.Joint.{IsPairedCall, AreLinked, Speaks, IsFirst, Party, Post, Free, Lies, Fetched, Line, IsPosted, IsBox, Joint, receives, sends, heard_by, said_by}
use Rattle.pair_keeps_streams.proofs.After.{staying, core}
use Rattle.pair_keeps_streams.proofs.Granted.{AreKept}
use Rattle.pair_keeps_streams.proofs.News.{news}
use Rattle.pair_keeps_streams.proofs.Spoken.{closings_same, receiver_same, sender_same}
use Rattle.pair_keeps_streams.proofs.Streams.{Receiving, Sending}

-- nothing is heard
abbrev pub IsNoHearing : Call → Type 0
IsNoHearing (Hears stamp said c) = ⊥
IsNoHearing k = Unit {0}

pub record Facts (number : ℕ → ℕ → ℕ → ℕ) (tells : IsTelling number) : Type 0 where
  -- a call says what it queues
  pub queued : (link : ℕ) → (link == 0) ≡ false → (gone : ℕ → ℕ → ℕ) (peer : Host) (q : PairState) (listening : List Listener) (r : Receiver) (s : Sender) (k : Call)
      → IsAllowed link k q s → IsPairedCall k → Holds number tells link gone q.entries r s → AreLinked (name_of number gone) link q.entries r
      → Speaks number link gone peer k q listening (all_received (received_at (name_of number gone) link k q listening) r).asked
      (received_words (received_at (name_of number gone) link k q listening)) (sent_words (sent_at (name_of number gone) link k q listening s) s)
  -- its receiving ends have the links on which they were asked for
  pub linked : (link : ℕ) (gone : ℕ → ℕ → ℕ) (peer : Host) (q : PairState) (listening : List Listener) (r : Receiver) (s : Sender) (k : Call)
      → IsAllowed link k q s → IsPairedCall k → Holds number tells link gone q.entries r s → AreLinked (name_of number gone) link q.entries r
      → AreLinked (name_of number (gone_by q.entries (ends_by peer k q listening) gone)) link (ends_by peer k q listening) (all_received (received_at (name_of number gone) link k q listening) r)
  -- no CLS is heard where nothing is, and one where one is
  pub unheard : (link : ℕ) (gone : ℕ → ℕ → ℕ) (peer : Host) (q : PairState) (listening : List Listener) (r : Receiver) (s : Sender) (k : Call)
      → IsAllowed link k q s → Holds number tells link gone q.entries r s → IsNoHearing k → (own foreign : ℕ)
      → heard_of (gone_by q.entries (ends_by peer k q listening) gone) (ends_by peer k q listening) own foreign ≡ heard_of gone q.entries own foreign
  pub heard : (link : ℕ) (gone : ℕ → ℕ → ℕ) (peer : Host) (q : PairState) (listening : List Listener) (r : Receiver) (s : Sender) (stamp said : ℕ) (c : Command)
      → IsAllowed link (Hears stamp said c) q s → Holds number tells link gone q.entries r s → IsFirst c q.entries → (foreign own : ℕ)
      → heard_from (gone_by q.entries (ends_by peer (Hears stamp said c) q listening) gone) (ends_by peer (Hears stamp said c) q listening) foreign own ≡ with_closing c (heard_from gone q.entries) foreign own

-- nothing is outstanding
pub free_empty : (post : Post) (box : Box) → IsPosted post box → post ≡ Free → box ≡ Empty
free_empty Free Empty p e = refl
free_empty Free (Waiting c z bits) p e = absurd (p)
free_empty Free Taken p e = absurd (p)
free_empty (Lies text) box p e = absurd (cc)
free_empty Fetched box p e = absurd (cc)

module _ (number other : ℕ → ℕ → ℕ → ℕ) (tells : IsTelling number) (others : IsTelling other) (facts : Facts number tells) (link : ℕ) (off : (link == 0) ≡ false) (x y : Stream) (gone : ℕ → ℕ → ℕ) (pending : List Command) (post : Post) (b : Party)
    (q : PairState) (j : Joint number other tells others link x y (staying gone q.entries pending post) b) (peer : Host) (listening : List Listener) (k : Call) (allowed : IsAllowed link k q y.sender) (paired : IsPairedCall k) where
  abbrev pub rms : List receivers.Move
  rms = received_at (name_of number gone) link k q listening

  abbrev pub sms : List senders.Move
  sms = sent_at (name_of number gone) link k q listening y.sender

  pub said : Speaks number link gone peer k q listening (all_received rms x.receiver).asked (received_words rms) (sent_words sms y.sender)
  said = facts.queued link off gone peer q listening x.receiver y.sender k allowed paired (j.mine refl).holds (j.mine refl).linked

  abbrev pub later : Post → Party
  later mine = staying (gone_by q.entries (ends_by peer k q listening) gone) (ends_by peer k q listening) (pending ++ said.new) mine

  pub any : (rest_x rest_y : List Word) (box_x box_y : Box) → Receiving rms x rest_x box_x → Sending sms y rest_y box_y → (b.stays ≡ true → AreKept sms y)
      → (waits : List Command) → Line other link (heard_by (later post)) waits y.receiver.asked rest_y rest_x → (b.stays ≡ true → (own foreign : ℕ) → said_by b own foreign ≡ closings_in waits (heard_by (later post)) own foreign)
      → (mine theirs : Post) → IsBox (record b { pending = waits; post = theirs }) (later mine) box_x → IsBox (later mine) (record b { pending = waits; post = theirs }) box_y
      → Joint number other tells others link (receives rms x) (sends sms y) (later mine) (record b { pending = waits; post = theirs })
  any rest_x rest_y box_x box_y rx sy ready waits line told mine theirs bx by =
      core number other tells others link x y gone pending post b q j peer listening k said allowed
      (facts.linked link gone peer q listening x.receiver y.sender k allowed paired (j.mine refl).holds (j.mine refl).linked)
      (news number tells link gone q listening k y.sender allowed x.receiver) rest_x rest_y box_x box_y rx sy ready waits line told mine theirs bx by

  -- where nothing is heard
  pub alone : IsNoHearing k → (box_x box_y : Box) → Receiving rms x x.to_receiver box_x → Sending sms y y.to_sender box_y → (b.stays ≡ true → AreKept sms y)
      → (mine theirs : Post) → IsBox (record b { post = theirs }) (later mine) box_x → IsBox (later mine) (record b { post = theirs }) box_y
      → Joint number other tells others link (receives rms x) (sends sms y) (later mine) (record b { post = theirs })
  alone silent box_x box_y rx sy ready mine theirs bx by =
      any _ _ box_x box_y rx sy ready _ line told mine theirs bx by where
        same : (own foreign : ℕ) → heard_from gone q.entries own foreign ≡ heard_by (later post) own foreign
        same own foreign = sym (facts.unheard link gone peer q listening x.receiver y.sender k allowed (j.mine refl).holds silent foreign own)

        before : Line other link (heard_from gone q.entries) b.pending y.receiver.asked y.to_sender x.to_receiver
        before = j.to_a refl

        line : Line other link (heard_by (later post)) b.pending y.receiver.asked y.to_sender x.to_receiver
        line = record {
          received = before.received ∙ receiver_same other link y.receiver.asked y.receiver.asked b.pending _ _ same (λ own foreign g l. refl);
          sent = before.sent ∙ sender_same other link b.pending _ _ same;
        }

        told : b.stays ≡ true → (own foreign : ℕ) → said_by b own foreign ≡ closings_in b.pending (heard_by (later post)) own foreign
        told e own foreign = j.told_a refl e own foreign ∙ closings_same b.pending _ _ same own foreign
