-- Moves upon a stream, one after another: what they change, and what they leave.
use Rattle.pair_keeps_streams.proofs.Common.{◌≡◌, ℕ, Bool, false, List, [], ◌∷◌, ◌++◌, Option, Some, None, refl, ap, sym, ◌∙◌, append-nil, append_assoc, Word, Stream, Box, Empty, Waiting, Taken, Receives, happens, Inv, kept, all_received, MayAllReceive, all_sent, MayAllSend, KeepBox, one, received_words, sent_words}
use Rattle.stream_law.specs.Receivers as receivers
use Rattle.stream_law.specs.Senders as senders
use Rattle.stream_law.specs.Streams.{Sends, word_queued, behind, MayReceive, MaySend}
use Rattle.pair_keeps_streams.proofs.Joint.{receives, sends}

-- ---- the two hosts

pub receives_receiver : (ms : List receivers.Move) (x : Stream) → (receives ms x).receiver ≡ all_received ms x.receiver
receives_receiver [] x = refl
receives_receiver (m ∷ ms) x = receives_receiver ms (happens (Receives m) x)

pub receives_sender : (ms : List receivers.Move) (x : Stream) → (receives ms x).sender ≡ x.sender
receives_sender [] x = refl
receives_sender (m ∷ ms) x = receives_sender ms (happens (Receives m) x)

pub sends_sender : (ms : List senders.Move) (y : Stream) → (sends ms y).sender ≡ all_sent ms y.sender
sends_sender [] y = refl
sends_sender (m ∷ ms) y = sends_sender ms (happens (Sends m) y)

pub sends_receiver : (ms : List senders.Move) (y : Stream) → (sends ms y).receiver ≡ y.receiver
sends_receiver [] y = refl
sends_receiver (m ∷ ms) y = sends_receiver ms (happens (Sends m) y)

-- ---- what is said

queued_is : (o : Option Word) (ws : List Word) → word_queued o ws ≡ ws ++ one o
queued_is None ws = sym (append-nil ws)
queued_is (Some w) ws = refl

pub receives_said : (ms : List receivers.Move) (x : Stream) → (receives ms x).to_sender ≡ x.to_sender ++ received_words ms
receives_said [] x = sym (append-nil x.to_sender)
receives_said (m ∷ ms) x =
    receives_said ms (happens (Receives m) x) ∙ ap (λ (l : List Word). l ++ received_words ms) (queued_is _ _)
    ∙ append_assoc x.to_sender (one (receivers.says m)) (received_words ms)

pub sends_said : (ms : List senders.Move) (y : Stream) → (sends ms y).to_receiver ≡ y.to_receiver ++ sent_words ms y.sender
sends_said [] y = sym (append-nil y.to_receiver)
sends_said (m ∷ ms) y =
    sends_said ms (happens (Sends m) y) ∙ ap (λ (l : List Word). l ++ sent_words ms (senders.moved m y.sender)) (queued_is _ _)
    ∙ append_assoc y.to_receiver (one (senders.says m y.sender)) (sent_words ms (senders.moved m y.sender))

-- ---- all of them may happen

abbrev pub AllMayReceive : List receivers.Move → Stream → Type 0
AllMayReceive [] x = Unit {0}
AllMayReceive (m ∷ ms) x = MayReceive m x × AllMayReceive ms (happens (Receives m) x)

abbrev pub AllMaySend : List senders.Move → Stream → Type 0
AllMaySend [] y = Unit {0}
AllMaySend (m ∷ ms) y = MaySend m y × AllMaySend ms (happens (Sends m) y)

pub kept_receives : (ms : List receivers.Move) (x : Stream) → MayAllReceive ms x.receiver → AllMayReceive ms x → Inv x → Inv (receives ms x)
kept_receives [] x a b i = i
kept_receives (m ∷ ms) x a b i = kept_receives ms (happens (Receives m) x) a.1 b.1 (kept (Receives m) x (a.0, b.0) i)

pub kept_sends : (ms : List senders.Move) (y : Stream) → MayAllSend ms y.sender → AllMaySend ms y → Inv y → Inv (sends ms y)
kept_sends [] y a b i = i
kept_sends (m ∷ ms) y a b i = kept_sends ms (happens (Sends m) y) a.1 b.1 (kept (Sends m) y (a.0, b.0) i)

-- they may, and so much is still unheard, and this lies in the box
pub record Receiving (ms : List receivers.Move) (x : Stream) (rest : List Word) (lies : Box) : Type 0 where
  pub may : AllMayReceive ms x
  pub heard : (receives ms x).to_receiver ≡ rest
  pub box : (receives ms x).box ≡ lies

pub record Sending (ms : List senders.Move) (y : Stream) (rest : List Word) (lies : Box) : Type 0 where
  pub may : AllMaySend ms y
  pub heard : (sends ms y).to_sender ≡ rest
  pub box : (sends ms y).box ≡ lies

-- ---- moves that hear nothing and leave the box

abbrev pub IsQuiet : receivers.Move → Type 0
IsQuiet (receivers.Hear w) = ⊥
IsQuiet (receivers.Take z bits) = ⊥
IsQuiet m = Unit {0}

abbrev pub AreQuiet : List receivers.Move → Type 0
AreQuiet [] = Unit {0}
AreQuiet (m ∷ ms) = IsQuiet m × AreQuiet ms

-- or of which one hears this word
abbrev pub HearOne : Word → List receivers.Move → Type 0
HearOne w [] = ⊥
HearOne w (receivers.Hear v ∷ ms) = (v ≡ w) × AreQuiet ms
HearOne w (m ∷ ms) = IsQuiet m × HearOne w ms

abbrev pub IsQuietSent : senders.Move → Type 0
IsQuietSent (senders.Hear w) = ⊥
IsQuietSent (senders.Send c z bits) = ⊥
IsQuietSent senders.Told = ⊥
IsQuietSent m = Unit {0}

abbrev pub AreQuietSent : List senders.Move → Type 0
AreQuietSent [] = Unit {0}
AreQuietSent (m ∷ ms) = IsQuietSent m × AreQuietSent ms

abbrev pub HearOneSent : Word → List senders.Move → Type 0
HearOneSent w [] = ⊥
HearOneSent w (senders.Hear v ∷ ms) = (v ≡ w) × AreQuietSent ms
HearOneSent w (m ∷ ms) = IsQuietSent m × HearOneSent w ms

-- one more before
more : (m : receivers.Move) (ms : List receivers.Move) (x : Stream) (rest : List Word) (box : Box) → MayReceive m x → Receiving ms (happens (Receives m) x) rest box → Receiving (m ∷ ms) x rest box
more m ms x rest box a r = record { may = (a, r.may); heard = r.heard; box = r.box }

more_sent : (m : senders.Move) (ms : List senders.Move) (y : Stream) (rest : List Word) (box : Box) → MaySend m y → Sending ms (happens (Sends m) y) rest box → Sending (m ∷ ms) y rest box
more_sent m ms y rest box a r = record { may = (a, r.may); heard = r.heard; box = r.box }

pub quiet_received : (ms : List receivers.Move) (x : Stream) → AreQuiet ms → Receiving ms x x.to_receiver x.box
quiet_received [] x q = record { may = tt; heard = refl; box = refl }
quiet_received (receivers.Ask c ∷ ms) x q = more _ ms x _ x.box tt (quiet_received ms (happens (Receives (receivers.Ask c)) x) q.1)
quiet_received (receivers.Open c ∷ ms) x q = more _ ms x _ x.box tt (quiet_received ms (happens (Receives (receivers.Open c)) x) q.1)
quiet_received (receivers.Grant c m n ∷ ms) x q = more _ ms x _ x.box tt (quiet_received ms (happens (Receives (receivers.Grant c m n)) x) q.1)
quiet_received (receivers.AskBack c m n ∷ ms) x q = more _ ms x _ x.box tt (quiet_received ms (happens (Receives (receivers.AskBack c m n)) x) q.1)
quiet_received (receivers.Close c ∷ ms) x q = more _ ms x _ x.box tt (quiet_received ms (happens (Receives (receivers.Close c)) x) q.1)
quiet_received (receivers.Free c ∷ ms) x q = more _ ms x _ x.box tt (quiet_received ms (happens (Receives (receivers.Free c)) x) q.1)
quiet_received (receivers.Hear w ∷ ms) x q = absurd (q.0)
quiet_received (receivers.Take z bits ∷ ms) x q = absurd (q.0)

pub one_received : (w : Word) (rest : List Word) (ms : List receivers.Move) (x : Stream) → x.to_receiver ≡ w ∷ rest → HearOne w ms → Receiving ms x rest x.box
one_received w rest [] x e q = absurd (q)
one_received w rest (receivers.Hear v ∷ ms) x e q =
    let r : Receiving ms (happens (Receives (receivers.Hear v)) x) (behind x.to_receiver) x.box = quiet_received ms _ q.1 in
    record { may = ((rest, e ∙ ap (λ (u : Word). u ∷ rest) (sym q.0)), r.may); heard = r.heard ∙ ap behind e; box = r.box }
one_received w rest (receivers.Ask c ∷ ms) x e q = more _ ms x rest x.box tt (one_received w rest ms (happens (Receives (receivers.Ask c)) x) e q.1)
one_received w rest (receivers.Open c ∷ ms) x e q = more _ ms x rest x.box tt (one_received w rest ms (happens (Receives (receivers.Open c)) x) e q.1)
one_received w rest (receivers.Grant c m n ∷ ms) x e q = more _ ms x rest x.box tt (one_received w rest ms (happens (Receives (receivers.Grant c m n)) x) e q.1)
one_received w rest (receivers.AskBack c m n ∷ ms) x e q = more _ ms x rest x.box tt (one_received w rest ms (happens (Receives (receivers.AskBack c m n)) x) e q.1)
one_received w rest (receivers.Close c ∷ ms) x e q = more _ ms x rest x.box tt (one_received w rest ms (happens (Receives (receivers.Close c)) x) e q.1)
one_received w rest (receivers.Free c ∷ ms) x e q = more _ ms x rest x.box tt (one_received w rest ms (happens (Receives (receivers.Free c)) x) e q.1)
one_received w rest (receivers.Take z bits ∷ ms) x e q = absurd (q.0)

-- a message is taken
pub take_received : (c z : ℕ) (bits : List Bool) (x : Stream) → x.box ≡ Waiting c z bits → Receiving (receivers.Take z bits ∷ []) x x.to_receiver Taken
take_received c z bits x e = record { may = ((c, e), tt); heard = refl; box = refl }

-- ---- and of the sender, whose end closes where none is outstanding

pub quiet_sent : (out : Bool) (ms : List senders.Move) (y : Stream) → AreQuietSent ms → KeepBox out ms y.sender → (out ≡ false → y.box ≡ Empty) → Sending ms y y.to_sender y.box
quiet_sent out [] y q k f = record { may = tt; heard = refl; box = refl }
quiet_sent out (senders.Ask c z ∷ ms) y q k f = more_sent _ ms y _ y.box tt (quiet_sent out ms (happens (Sends (senders.Ask c z)) y) q.1 k.1 f)
quiet_sent out (senders.Open c ∷ ms) y q k f = more_sent _ ms y _ y.box tt (quiet_sent out ms (happens (Sends (senders.Open c)) y) q.1 k.1 f)
quiet_sent out (senders.Close c ∷ ms) y q k f =
    more_sent _ ms y _ y.box (λ e o. f (k.0 e o)) (quiet_sent out ms (happens (Sends (senders.Close c)) y) q.1 k.1 f)
quiet_sent out (senders.Hear w ∷ ms) y q k f = absurd (q.0)
quiet_sent out (senders.Send c z bits ∷ ms) y q k f = absurd (q.0)
quiet_sent out (senders.Told ∷ ms) y q k f = absurd (q.0)

pub one_sent : (out : Bool) (w : Word) (rest : List Word) (ms : List senders.Move) (y : Stream) → y.to_sender ≡ w ∷ rest → HearOneSent w ms → KeepBox out ms y.sender → (out ≡ false → y.box ≡ Empty) → Sending ms y rest y.box
one_sent out w rest [] y e q k f = absurd (q)
one_sent out w rest (senders.Hear v ∷ ms) y e q k f =
    let r : Sending ms (happens (Sends (senders.Hear v)) y) (behind y.to_sender) y.box = quiet_sent out ms _ q.1 k.1 f in
    record { may = ((rest, e ∙ ap (λ (u : Word). u ∷ rest) (sym q.0)), r.may); heard = r.heard ∙ ap behind e; box = r.box }
one_sent out w rest (senders.Ask c z ∷ ms) y e q k f = more_sent _ ms y rest y.box tt (one_sent out w rest ms (happens (Sends (senders.Ask c z)) y) e q.1 k.1 f)
one_sent out w rest (senders.Open c ∷ ms) y e q k f = more_sent _ ms y rest y.box tt (one_sent out w rest ms (happens (Sends (senders.Open c)) y) e q.1 k.1 f)
one_sent out w rest (senders.Close c ∷ ms) y e q k f =
    more_sent _ ms y rest y.box (λ g o. f (k.0 g o)) (one_sent out w rest ms (happens (Sends (senders.Close c)) y) e q.1 k.1 f)
one_sent out w rest (senders.Send c z bits ∷ ms) y e q k f = absurd (q.0)
one_sent out w rest (senders.Told ∷ ms) y e q k f = absurd (q.0)

-- a message goes out; and it is answered, and ends close
pub send_sent : (c z : ℕ) (bits : List Bool) (y : Stream) → y.box ≡ Empty → Sending (senders.Send c z bits ∷ []) y y.to_sender (Waiting c z bits)
send_sent c z bits y e = record { may = (e, tt); heard = refl; box = refl }

pub told_sent : (out : Bool) (ms : List senders.Move) (y : Stream) → AreQuietSent ms → KeepBox out ms y.sender → y.box ≡ Taken → Sending (senders.Told ∷ ms) y y.to_sender Empty
told_sent out ms y q k e = more_sent _ ms y _ Empty e (quiet_sent out ms _ q k (λ o. refl))
