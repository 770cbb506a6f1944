-- Each call of a host's program is, on a link, moves of the law, if new ends have new numbers.
use Rattle.host_keeps_streams.proofs.Common.{◌≡◌, ℕ, false, List, None, Host, Command, Receiver, Sender, desk_of, entry_at, free_link, PairState, freed, Entry, Listener, HasReceiver, HasSender, AreSound, Call, Hears, Takes, Says, Sends, Answered, OpensReceiver, OpensSender, Grants, AsksBack, Closes, ends_by, IsAllowed, received_at, sent_at, numbers, is_among, AreKnown, IsNewReceived, IsNewSent, NewNumber, NewReceived, NewSent}
use Rattle.ncp_control.specs.declared.command.Command.TheVariants as command
use Rattle.host_keeps_streams.specs.Histories.{Gives}
use Rattle.host_keeps_streams.proofs.Asks as asks
use Rattle.host_keeps_streams.proofs.GoesOut as goes
use Rattle.host_keeps_streams.proofs.Known.{Sent}
use Rattle.host_keeps_streams.proofs.ReceiverHears.{Received, hears_all}
use Rattle.host_keeps_streams.proofs.Requests as requests
use Rattle.host_keeps_streams.proofs.SenderTakes.{takes_all}
use Rattle.host_keeps_streams.proofs.Sound.{sound_taken}

-- sockets without an end have a new number
abbrev pub AllNewReceived : (ℕ → ℕ → ℕ) → List Entry → Receiver → Type 0
AllNewReceived name es r = (own foreign : ℕ) → entry_at own foreign es ≡ None → IsNewReceived (name own foreign) (numbers name es) r

abbrev pub AllNewSent : (ℕ → ℕ → ℕ) → List Entry → Sender → Type 0
AllNewSent name es s = (own foreign : ℕ) → entry_at own foreign es ≡ None → IsNewSent (name own foreign) (numbers name es) s

module _ (name : ℕ → ℕ → ℕ) (link : ℕ) (peer : Host) (q : PairState) (listening : List Listener) (sound : AreSound name q.entries) where
  module _ (r : Receiver) (h : HasReceiver name link q.entries r) (new : AllNewReceived name q.entries r) where
    new_for : (c : Command) → NewReceived name c q.entries r
    new_for (command.Str send receive size) = new receive send
    new_for c = tt

    pub call_received : (s : Sender) (c : Call) → IsAllowed link c q s → Received name link (received_at name link c q listening) (ends_by peer c q listening) r
    call_received s (Hears stamp said c) a = hears_all name link peer q.busy stamp said (desk_of q listening) r h c a.0 sound.apart (new_for c)
    call_received s (Takes l text) a = asks.takes_data name link l text (desk_of q listening) r h
    call_received s (Says stamp c) a = goes.out_received name link peer stamp (desk_of q listening) r h sound c a
    call_received s (Sends stamp e z n) a = (tt, asks.bytes_received name link peer stamp listening q e z n a r h)
    call_received s (Answered l) a = (tt, asks.settled_received name link (freed l q).busy (desk_of q listening) r h)
    call_received s (OpensReceiver own foreign) a = requests.receives_asked name link own foreign q a.0 r h (new own foreign a.1)
    call_received s (OpensSender own foreign z) a = (tt, requests.sends_received name link own foreign q z r h)
    call_received s (Grants socket m n e) a = requests.grants name link socket q e a.0 m n r a.2 a.3 h
    call_received s (AsksBack socket m n e) a = requests.asks_back name link socket q e a.0 m n r a.1 h
    call_received s (Gives socket bits e) a = (tt, requests.more_received name link socket q e a.0 bits r a.1 h)
    call_received s (Closes socket e) a = requests.closes_received name link socket q e a.0 r a.1 h

  module _ (s : Sender) (h : HasSender name link q.entries s) (k : AreKnown name q.entries s) (new : AllNewSent name q.entries s) where
    new_to_send : (c : Command) → NewSent name c q.entries s
    new_to_send (command.Rts receive send l) = new send receive
    new_to_send c = tt

    pub call_sent : (c : Call) → IsAllowed link c q s → Sent name link (sent_at name link c q listening s) (ends_by peer c q listening) s
    call_sent (Hears stamp said c) a = takes_all name link peer q.busy stamp said (desk_of q listening) s h k sound.apart sound.formed c a.0 (new_to_send c) a.1
    call_sent (Takes l text) a = asks.data_sent name link l text (desk_of q listening) s h k
    call_sent (Says stamp c) a = goes.out_sent name link peer stamp (desk_of q listening) s h k sound c a
    call_sent (Sends stamp e z n) a = asks.bytes_out name link peer stamp listening q e z n a s h k
    call_sent (Answered l) a = asks.told_sent name link (freed l q).busy (desk_of q listening) l s h k sound
    call_sent (OpensReceiver own foreign) a = requests.receives_sent name link own foreign q a.0 s h k (free_link q.entries)
    call_sent (OpensSender own foreign z) a = requests.sends_asked name link own foreign q z s h k (new own foreign a)
    call_sent (Grants socket m n e) a = requests.grants_sent name link socket q e a.0 m n s a.1 h k
    call_sent (AsksBack socket m n e) a = record { may = tt; has = h; known = k }
    call_sent (Gives socket bits e) a = requests.more_sent name link socket q e a.0 bits s h k
    call_sent (Closes socket e) a = requests.closes_sent name link socket q e a.0 s h k sound

  module _ (new : (own foreign : ℕ) → entry_at own foreign q.entries ≡ None → is_among (name own foreign) (numbers name q.entries) ≡ false) where
    new_number : (c : Command) → NewNumber name c q.entries
    new_number (command.Rts receive send l) = new send receive
    new_number (command.Str send receive size) = new receive send
    new_number c = tt

    pub call_sound : (s : Sender) (c : Call) → IsAllowed link c q s → AreSound name (ends_by peer c q listening)
    call_sound s (Hears stamp said c) a = sound_taken name peer q.busy stamp (desk_of q listening) sound c a.0 (new_number c)
    call_sound s (Takes l text) a = asks.data_sound name link l text (desk_of q listening) sound
    call_sound s (Says stamp c) a = goes.out_sound name peer stamp (desk_of q listening) sound c
    call_sound s (Sends stamp e z n) a = asks.bytes_sound name link peer stamp listening q e z n a sound
    call_sound s (Answered l) a = asks.settled_sound name link (freed l q).busy (desk_of q listening) sound
    call_sound s (OpensReceiver own foreign) a = requests.receives_sound name link own foreign q a.0 sound (new own foreign a.1) (free_link q.entries)
    call_sound s (OpensSender own foreign z) a = requests.sends_sound name link own foreign q z sound (new own foreign a)
    call_sound s (Grants socket m n e) a = requests.grants_sound name link socket q e a.0 m n a.1 sound
    call_sound s (AsksBack socket m n e) a = sound
    call_sound s (Gives socket bits e) a = requests.more_sound name link socket q e a.0 bits sound
    call_sound s (Closes socket e) a = requests.closes_sound name link socket q e a.0 sound
