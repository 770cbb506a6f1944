-- What each call of a program queues is what the moves by it say.
use Rattle.pair_keeps_streams.proofs.Common.{◌≡◌, ℕ, ◌==◌, ◌&&◌, Bool, true, false, if◌then◌else◌, List, [], ◌∷◌, ◌++◌, map, Option, Some, None, is_some, refl, ap, sym, subst, ◌∙◌, arith, list_any, Host, IsCommand, is_receive_socket, Command, Word, Receiver, Sender, rts_heard, rts_taken, rts_taken_by, str_heard, str_linked, str_taken_by, DeskState, desk_of, listener_on, changed_first, entry_at, free_link, has_cls, is_at, receives_on, receiving_end, sending_end, sends_on, PairState, Entry, Listener, all_received, received_open, sent_open, Call, Hears, Takes, Says, Answered, OpensReceiver, OpensSender, Grants, AsksBack, Gives, Closes, IsAllowed, IsTelling, ends_by, received_at, sent_at, answers_str, hears_rts, rts_sent, str_received, Holds, IsAhead, is_there, name_of, odd_is, unlike, plain, received_words, sent_words}
use Rattle.ncp_control.specs.declared.command.Command.TheVariants as command
use Rattle.stream_law.specs.Words as words
use Rattle.stream_law.specs.Receivers as receivers
use Rattle.stream_law.specs.Senders as senders
use Rattle.host_pairs.specs.Commands.{matched_once, str_taken, asked_on_link, asked_with_size}
use Rattle.host_keeps_streams.specs.Histories.{Sends}
use Rattle.pair_keeps_streams.proofs.Joint.{AreLinked, IsPairedCall, Speaks, queue_by}
use Rattle.pair_keeps_streams.proofs.Queues.{Told, append_kept, changed_kept, one_told, silent}
use Rattle.pair_keeps_streams.proofs.QueuesAsked.{asks_back_told, bytes_told, data_told, gives_told, grants_told, if_received, if_sent, opened_received, opened_sent, opens_receiver, opens_sender, rts_word, says_told, str_word, wrong_told}
use Rattle.pair_keeps_streams.proofs.QueuesClosed.{answered_told, closes_told, cls_told}
use Rattle.pair_keeps_streams.proofs.QueuesHeard.{all_told, echo_told, gvb_told, interrupt_told, quiet_told, refused_receiver, refused_sender, ret_told}

-- ---- requests

rts_quiet : (here : Bool) (c : ℕ) (ms : List senders.Move) (s : Sender) → ((t : Sender) → sent_words ms t ≡ sent_words ms s) → sent_words (hears_rts here c ++ ms) s ≡ sent_words ms s
rts_quiet true c ms s same = same (senders.moved (senders.Hear (words.Rts c)) s)
rts_quiet false c ms s same = refl

open_quiet : (v : Bool) (c : ℕ) (s t : Sender) → sent_words (sent_open v c) t ≡ sent_words (sent_open v c) s
open_quiet v c s t = opened_sent v c t ∙ sym (opened_sent v c s)

asks_quiet : (here : Bool) (c size : ℕ) (s : Sender) → sent_words (senders.Ask c size ∷ hears_rts here c) s ≡ words.Str c size ∷ []
asks_quiet true c size s = refl
asks_quiet false c size s = refl

module _ (number : ℕ → ℕ → ℕ → ℕ) (link : ℕ) (gone : ℕ → ℕ → ℕ) (peer : Host) (stamp own foreign : ℕ) (d : DeskState) where
  abbrev RequestTold : (ℕ → Bool) → DeskState → List Word → List Word → Type 0
  RequestTold asked e rs ss = Told number link gone d.entries d.queue e.entries e.queue asked rs ss

  -- one for an end
  matched_told : (asked : ℕ → Bool) (c : Command) (e : Entry) (change : Entry → Entry) (rs ss : List Word) → rs ≡ [] → ss ≡ [] → ((x : Entry) → (change x).own ≡ x.own) → ((x : Entry) → (change x).foreign ≡ x.foreign) → ((x : Entry) → (change x).closing ≡ x.closing)
      → (v : Bool) → is_some e.partner ≡ v → RequestTold asked (matched_once peer own foreign c e change d) rs ss
  matched_told asked c e change rs ss r s o f k true p = rw p (wrong_told number link gone asked _ _ _ _ rs ss r s)
  matched_told asked c e change rs ss r s o f k false p =
      rw p (silent number link gone d.entries d.queue (changed_first (is_at own foreign) change d.entries) asked
      (changed_kept _ change (record { own = o; foreign = f }) _ (λ x t. ap has_cls (k x))) rs ss r s)

  module _ (asked : ℕ → Bool) (l : ℕ) (odd : is_receive_socket own ≡ false) (s : Sender) where
    rts_end : (e : Entry) → (v : Bool) → sent_words (if v then [] else hears_rts (l == link) (name_of number gone own foreign) ++ sent_open ((l == link) && is_some e.asked) (name_of number gone own foreign)) s ≡ []
    rts_end e true = refl
    rts_end e false =
        rts_quiet (l == link) (name_of number gone own foreign) (sent_open ((l == link) && is_some e.asked) (name_of number gone own foreign)) s (open_quiet ((l == link) && is_some e.asked) (name_of number gone own foreign) s)
        ∙ opened_sent ((l == link) && is_some e.asked) (name_of number gone own foreign) s

    rts_new : entry_at own foreign d.entries ≡ None → (o : Option Listener) → RequestTold asked (rts_heard own foreign l stamp o d) [] (sent_words (rts_sent (l == link) (name_of number gone own foreign) o None) s)
    rts_new none None =
        subst (λ (ss : List Word). RequestTold asked (rts_heard own foreign l stamp None d) [] ss)
        (sym (rts_quiet (l == link) (name_of number gone own foreign) (senders.Close (name_of number gone own foreign) ∷ []) s (λ t. refl)))
        (refused_sender number link gone d.entries d.queue own foreign stamp none asked odd)
    rts_new none (Some m) =
        one_told number link gone d.entries d.queue (d.entries ++ asked_on_link stamp l (sending_end own foreign m.size) ∷ []) asked (append_kept _ _ refl) _ (λ n x y. refl)
        [] _ refl
        (ap (map plain) (asks_quiet (l == link) _ m.size s) ∙ str_word number link gone asked own foreign m.size _ none)

    rts_by : (o : Option Entry) → entry_at own foreign d.entries ≡ o
        → RequestTold asked (rts_taken_by peer own foreign l stamp o d) [] (sent_words (rts_sent (l == link) (name_of number gone own foreign) (listener_on own d.listening) o) s)
    rts_by None none = rts_new none _
    rts_by (Some e) found =
        matched_told asked (command.Rts foreign own l) e (asked_on_link stamp l) [] _ refl (rts_end e _) (λ x. refl) (λ x. refl) (λ x. refl) _ refl

    rts_free : (v : Bool) → list_any (sends_on l) d.entries ≡ v
        → RequestTold asked (rts_taken peer own foreign l stamp d) [] (sent_words (if v then [] else rts_sent (l == link) (name_of number gone own foreign) (listener_on own d.listening) (entry_at own foreign d.entries)) s)
    rts_free true t = rw t (wrong_told number link gone asked _ _ _ _ [] [] refl refl)
    rts_free false t = rw t (rts_by _ refl)

    rts_told : RequestTold asked (rts_taken peer own foreign l stamp d) []
        (sent_words (if list_any (sends_on l) d.entries then [] else rts_sent (l == link) (name_of number gone own foreign) (listener_on own d.listening) (entry_at own foreign d.entries)) s)
    rts_told = rts_free _ refl

  module _ (size : ℕ) (even : is_receive_socket own ≡ true) (r : Receiver) (new : entry_at own foreign d.entries ≡ None → r.asked (name_of number gone own foreign) ≡ false) where
    abbrev StrTold : DeskState → List receivers.Move → Type 0
    StrTold e ms = RequestTold (all_received ms r).asked e (received_words ms) []

    str_end : (e : Entry) → (v : Bool)
        → received_words (if v then [] else receivers.Hear (words.Str (name_of number gone own foreign) size) ∷ received_open (receives_on link e && is_some e.asked) (name_of number gone own foreign)) ≡ []
    str_end e true = refl
    str_end e false = opened_received _ _

    str_free : entry_at own foreign d.entries ≡ None → (m : Listener) (o : Option ℕ)
        → StrTold (str_linked own foreign size stamp o d) (receivers.Hear (words.Str (name_of number gone own foreign) size) ∷ answers_str link (name_of number gone own foreign) (Some m) o)
    str_free none m None = refused_receiver number link gone d.entries d.queue own foreign stamp none _ even (new none)
    str_free none m (Some other) =
        one_told number link gone d.entries d.queue (d.entries ++ asked_with_size stamp size (receiving_end own foreign other) ∷ []) _ (append_kept _ _ refl)
        _ (λ n x y. refl) _ [] (rts_word number link gone r.asked own foreign other _ none _ refl) refl

    str_new : entry_at own foreign d.entries ≡ None → (o : Option Listener)
        → StrTold (str_heard own foreign size stamp o d) (receivers.Hear (words.Str (name_of number gone own foreign) size) ∷ answers_str link (name_of number gone own foreign) o (free_link d.entries))
    str_new none None = refused_receiver number link gone d.entries d.queue own foreign stamp none _ even (new none)
    str_new none (Some m) = str_free none m _

    str_by : (o : Option Entry) → entry_at own foreign d.entries ≡ o
        → StrTold (str_taken_by peer own foreign size stamp o d) (str_received link (name_of number gone own foreign) size (listener_on own d.listening) (free_link d.entries) o)
    str_by None none = str_new none _
    str_by (Some e) found =
        matched_told _ (command.Str foreign own size) e (asked_with_size stamp size) _ [] (str_end e _) refl (λ x. refl) (λ x. refl) (λ x. refl) _ refl

    str_told : StrTold (str_taken peer own foreign size stamp d) (str_received link (name_of number gone own foreign) size (listener_on own d.listening) (free_link d.entries) (entry_at own foreign d.entries))
    str_told = str_by _ refl

-- ---- all calls

module _ (number : ℕ → ℕ → ℕ → ℕ) (tells : IsTelling number) (link : ℕ) (free : (link == 0) ≡ false) (gone : ℕ → ℕ → ℕ) (peer : Host) (q : PairState) (listening : List Listener) (r : Receiver) (s : Sender)
    (h : Holds number tells link gone q.entries r s) (linked : AreLinked (name_of number gone) link q.entries r) where
  -- a connection without an end was never asked for
  never_asked : (own foreign : ℕ) → entry_at own foreign q.entries ≡ None → r.asked (name_of number gone own foreign) ≡ false
  never_asked own foreign none = (h.unknown own foreign (gone own foreign) ahead).unasked where
    ahead : IsAhead gone q.entries own foreign (gone own foreign)
    ahead = record { none = λ t. omega arith; one = λ t. absurd (unlike (is_there own foreign _) t (ap is_some none)) }

  abbrev CallTold : Call → Type 0
  CallTold k =
      Told number link gone q.entries q.queue (ends_by peer k q listening) (queue_by peer k q listening) (all_received (received_at (name_of number gone) link k q listening) r).asked
      (received_words (received_at (name_of number gone) link k q listening)) (sent_words (sent_at (name_of number gone) link k q listening s) s)

  hears_told : (stamp said : ℕ) (c : Command) → IsCommand c → CallTold (Hears stamp said c)
  hears_told stamp said (command.Rts receive send l) i = rts_told number link gone peer stamp send receive (desk_of q listening) r.asked l (odd_is send i.3) s
  hears_told stamp said (command.Str send receive size) i = str_told number link gone peer stamp receive send (desk_of q listening) size i.3 r (never_asked receive send)
  hears_told stamp said (command.Cls foreign own) i = cls_told number link gone q.entries q.queue r h.sound.apart h.received linked peer q.busy own foreign listening s
  hears_told stamp said (command.All l m n) i =
      all_told number link gone (desk_of q listening) r.asked l m n [] _ refl (if_sent (l == link) (senders.Hear (words.All said m n) ∷ []) s refl)
  hears_told stamp said (command.Gvb l m n) i = gvb_told number link gone (desk_of q listening) r.asked _ said l m n s h.sent.here
  hears_told stamp said (command.Ret l m n) i =
      ret_told number link gone (desk_of q listening) _ l m n _ [] (if_received (l == link) (receivers.Hear (words.Ret said m n) ∷ []) refl) refl
  hears_told stamp said (command.Inr l) i = interrupt_told number link gone (desk_of q listening) r.asked (command.Inr l) _
  hears_told stamp said (command.Ins l) i = interrupt_told number link gone (desk_of q listening) r.asked (command.Ins l) _
  hears_told stamp said (command.Eco octet) i = echo_told number link gone (desk_of q listening) r.asked octet
  hears_told stamp said c i = quiet_told number link gone (desk_of q listening) r.asked

  call_told : (k : Call) → IsAllowed link k q s → IsPairedCall k → CallTold k
  call_told (Hears stamp said c) a p = hears_told stamp said c a.0
  call_told (Takes l text) a p = data_told number link gone _ l text _
  call_told (Says stamp c) a p = says_told number link gone _ peer stamp c q listening s h.sound.apart a
  call_told (Sends stamp e size count) a p = bytes_told number link gone r.asked peer stamp e size count q listening s
  call_told (Answered l) a p = answered_told number link gone q.entries q.queue r h.sound.apart h.received linked _ l s
  call_told (OpensReceiver own foreign) a p = opens_receiver number link gone _ own foreign q a.1 _
  call_told (OpensSender own foreign size) a p = opens_sender number link gone r.asked own foreign size q s a
  call_told (Grants socket m n e) a p = grants_told number link gone _ free socket q e a.0 m n a.1
  call_told (AsksBack socket m n e) a p = asks_back_told number link gone _ free socket q e a.0 m n p
  call_told (Gives socket bits e) a p = gives_told number link gone r.asked socket bits q
  call_told (Closes socket e) a p = closes_told number link gone q.entries q.queue r h.sound.apart h.received linked q.busy socket e a.0 a.1 s

  call_speaks : (k : Call) → IsAllowed link k q s → IsPairedCall k
      → Speaks number link gone peer k q listening (all_received (received_at (name_of number gone) link k q listening) r).asked
      (received_words (received_at (name_of number gone) link k q listening)) (sent_words (sent_at (name_of number gone) link k q listening s) s)
  call_speaks k a p = let t : CallTold k = call_told k a p in record { new = t.new; queue = t.adds; counts = t.counts; received = t.received; sent = t.sent }

pub queued : (number : ℕ → ℕ → ℕ → ℕ) (tells : IsTelling number) (link : ℕ) → (link == 0) ≡ false → (gone : ℕ → ℕ → ℕ) (peer : Host) (q : PairState) (listening : List Listener) (r : Receiver) (s : Sender) (k : Call)
    → IsAllowed link k q s → IsPairedCall k → Holds number tells link gone q.entries r s → AreLinked (name_of number gone) link q.entries r
    → Speaks number link gone peer k q listening (all_received (received_at (name_of number gone) link k q listening) r).asked
    (received_words (received_at (name_of number gone) link k q listening)) (sent_words (sent_at (name_of number gone) link k q listening s) s)
queued number tells link free gone peer q listening r s k a p h linked = call_speaks number tells link free gone peer q listening r s h linked k a p
