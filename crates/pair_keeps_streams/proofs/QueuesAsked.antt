-- What goes out, what comes as data, and what a user asks for: what is queued by it is what the moves say.
use Rattle.pair_keeps_streams.proofs.Common.{◌≡◌, ℕ, ◌==◌, ◌&&◌, Bool, true, false, if◌then◌else◌, List, [], ◌∷◌, ◌++◌, map, filter, find, Option, Some, None, is_some, refl, ap, sym, ◌∙◌, eqb-true, Host, header_of, data_bits, is_receive_socket, Command, DataHeader, Word, Receiver, Sender, receiver_requested, requested, with_end, Found, Unconnected, Ending, Open, granted, arrived_if, data_found, data_taken, DeskState, desk_of, changed_first, entry_at, is_at, is_link, is_mine_on, is_receiving, receives_on, receiving_end, sending_end, sends_on, PairState, Bytes, command_gone, link_of, Entry, Listener, both, received_gone, received_open, sent_open, HasSaid, asked_received, asked_sent, asks_for, closed_received, data_received, of_end, on_link, received_out, sent_out, named, numbers, AreApart, apart_changed, find_passes, name_of, stays, plain, counted, has_said, said_of, received_words, sent_words, receiver_word, sender_word}
use Rattle.host_pairs.specs.Asked.{with_more_bits}
use Rattle.ncp_control.specs.declared.command.Command.TheVariants as command
use Rattle.stream_law.specs.Words as words
use Rattle.stream_law.specs.Receivers as receivers
use Rattle.stream_law.specs.Senders as senders
use Rattle.host_pairs.specs.Data.{arrived, text_faulted}
use Rattle.host_pairs.specs.Control.{ERRONEOUS}
use Rattle.host_pairs.specs.Parcels.{cls_sent, parcel_gone, asked_at}
use Rattle.host_keeps_streams.specs.Moves.{bytes_sent}
use Rattle.pair_keeps_streams.proofs.Queues.{IsKept, Told, append_kept, changed_alike, changed_kept, kept_same, one_told, separate, silent, swept_said, turned_number}

-- ---- moves that say nothing

pub if_received : (v : Bool) (ms : List receivers.Move) → received_words ms ≡ [] → received_words (if v then ms else []) ≡ []
if_received true ms e = e
if_received false ms e = refl

pub if_sent : (v : Bool) (ms : List senders.Move) (s : Sender) → sent_words ms s ≡ [] → sent_words (if v then ms else []) s ≡ []
if_sent true ms s e = e
if_sent false ms s e = refl

pub opened_received : (v : Bool) (c : ℕ) → received_words (received_open v c) ≡ []
opened_received true c = refl
opened_received false c = refl

pub opened_sent : (v : Bool) (c : ℕ) (s : Sender) → sent_words (sent_open v c) s ≡ []
opened_sent true c s = refl
opened_sent false c s = refl

gone_received : (v : Bool) (c : ℕ) → received_words (received_gone v c) ≡ []
gone_received true c = refl
gone_received false c = refl

of_end_sent : (c : ℕ) (o : Option ℕ) (ms : List senders.Move) (s : Sender) → sent_words ms s ≡ [] → sent_words (of_end c o ms) s ≡ []
of_end_sent c None ms s e = refl
of_end_sent c (Some own) ms s e = if_sent _ ms s e

asked_silent : (name : ℕ → ℕ → ℕ) (link : ℕ) (o : Option Entry) → received_words (asked_received name link o) ≡ []
asked_silent name link None = refl
asked_silent name link (Some e) = if_received (receives_on link e) (received_open (is_some e.partner) (named name e)) (opened_received (is_some e.partner) (named name e))

asked_quiet : (name : ℕ → ℕ → ℕ) (link : ℕ) (s : Sender) (o : Option Entry) → sent_words (asked_sent name link s o) s ≡ []
asked_quiet name link s None = refl
asked_quiet name link s (Some e) =
    if_sent (sends_on link e) (of_end (named name e) s.end (sent_open (is_some e.partner) (named name e))) s
    (of_end_sent (named name e) s.end (sent_open (is_some e.partner) (named name e)) s (opened_sent (is_some e.partner) (named name e) s))

closed_silent : (name : ℕ → ℕ → ℕ) (link : ℕ) (o : Option Entry) → received_words (closed_received name link o) ≡ []
closed_silent name link None = refl
closed_silent name link (Some e) = if_received (receives_on link e) (received_gone e.partner_closed (named name e)) (gone_received e.partner_closed (named name e))

data_silent : (link l : ℕ) (text : List Bool) (o : Option DataHeader) → received_words (data_received link l text o) ≡ []
data_silent link l text None = refl
data_silent link l text (Some h) = if_received (l == link) _ refl

-- ---- an error

module _ (number : ℕ → ℕ → ℕ → ℕ) (link : ℕ) (gone : ℕ → ℕ → ℕ) (asked : ℕ → Bool) where
  -- an ERR is no word
  pub wrong_told : (es : List Entry) (queue : List Command) (code : ℕ) (detail : List ℕ) (rs ss : List Word) → rs ≡ [] → ss ≡ [] → Told number link gone es queue es (queue ++ command.Err code detail ∷ []) asked rs ss
  wrong_told es queue code detail rs ss r s =
      one_told number link gone es queue es asked (kept_same es) _ (λ n x y. refl) rs ss (ap (map plain) r) (ap (map plain) s)

  -- ---- what goes out

  pub bytes_told : (peer : Host) (stamp : ℕ) (e : Entry) (size count : ℕ) (q : PairState) (listening : List Listener) (s : Sender)
      → Told number link gone q.entries q.queue (parcel_gone peer stamp q.busy (Bytes e size count) (desk_of q listening)).entries q.queue asked [] (sent_words (bytes_sent (name_of number gone) link e size count) s)
  bytes_told peer stamp e size count q listening s =
      silent number link gone q.entries q.queue (parcel_gone peer stamp q.busy (Bytes e size count) (desk_of q listening)).entries asked
      (changed_kept _ _ (record { own = λ x. refl; foreign = λ x. refl }) _ (λ x f. refl)) [] _
      refl (if_sent (sends_on link e) _ s refl)

  asked_kept : (own foreign stamp : ℕ) (es : List Entry) → IsKept es (changed_first (is_at own foreign) (asked_at stamp) es)
  asked_kept own foreign stamp es = changed_kept _ _ (record { own = λ x. refl; foreign = λ x. refl }) es (λ x f. refl)

  gone_kept : (own foreign : ℕ) (es : List Entry) → AreApart (numbers (name_of number gone) es) → HasSaid (command.Cls own foreign) es → IsKept es (filter stays (changed_first (is_at own foreign) cls_sent es))
  gone_kept own foreign es a said x y =
      let lasts : (has_said (entry_at x y (changed_first (is_at own foreign) cls_sent es)) ≡ has_said (entry_at x y es)) × (is_some (entry_at x y (changed_first (is_at own foreign) cls_sent es)) ≡ is_some (entry_at x y es))
      = ((changed_alike _ cls_sent (record { own = λ x. refl; foreign = λ x. refl }) es (λ e f. sym (said e f)) x y).1, (changed_alike _ cls_sent (record { own = λ x. refl; foreign = λ x. refl }) es (λ e f. sym (said e f)) x y).0) in
      swept_said es _
      (separate _ _ (apart_changed (name_of number gone) _ cls_sent es (λ x. refl) a)) x y lasts.1 ∙ lasts.0

  pub says_told : (peer : Host) (stamp : ℕ) (c : Command) (q : PairState) (listening : List Listener) (s : Sender) → AreApart (numbers (name_of number gone) q.entries) → HasSaid c q.entries
      → Told number link gone q.entries q.queue (command_gone peer stamp c (desk_of q listening)).entries q.queue asked (received_words (received_out (name_of number gone) link c q.entries)) (sent_words (sent_out (name_of number gone) link c q.entries s) s)
  says_told peer stamp (command.Rts receive send l) q listening s a said =
      silent number link gone q.entries q.queue (changed_first (is_at receive send) (asked_at stamp) q.entries) asked (asked_kept receive send stamp _) _ _
      (asked_silent (name_of number gone) link (entry_at receive send q.entries)) (asked_quiet (name_of number gone) link s (entry_at receive send q.entries))
  says_told peer stamp (command.Str send receive size) q listening s a said =
      silent number link gone q.entries q.queue (changed_first (is_at send receive) (asked_at stamp) q.entries) asked (asked_kept send receive stamp _) _ _
      (asked_silent (name_of number gone) link (entry_at send receive q.entries)) (asked_quiet (name_of number gone) link s (entry_at send receive q.entries))
  says_told peer stamp (command.Cls own foreign) q listening s a said =
      silent number link gone q.entries q.queue (filter stays (changed_first (is_at own foreign) cls_sent q.entries)) asked (gone_kept own foreign _ a said) _ _
      (closed_silent (name_of number gone) link (entry_at own foreign q.entries)) refl
  says_told peer stamp c q listening s a said = silent number link gone q.entries q.queue q.entries asked (kept_same _) [] [] refl refl

  -- ---- data

  module _ (l : ℕ) (text : List Bool) (d : DeskState) (rs : List Word) (r : rs ≡ []) where
    abbrev DataTold : DeskState → Type 0
    DataTold e = Told number link gone d.entries d.queue e.entries e.queue asked rs []

    accepted_by : (e : Entry) (h : DataHeader) (v : Bool) → DataTold (if v then arrived l e (data_bits h) text d else text_faulted ERRONEOUS text d)
    accepted_by e h true =
        silent number link gone d.entries d.queue (arrived l e (data_bits h) text d).entries asked (changed_kept _ _ (record { own = λ x. refl; foreign = λ x. refl }) _ (λ x f. refl)) rs [] r refl
    accepted_by e h false = wrong_told _ _ _ _ rs [] r refl

    arrived_by : (e : Entry) (o : Option DataHeader) → DataTold (arrived_if l e text o d)
    arrived_by e None = wrong_told _ _ _ _ rs [] r refl
    arrived_by e (Some h) = accepted_by e h _

    data_by : (w : Found) → DataTold (data_found l text w d)
    data_by Unconnected = wrong_told _ _ _ _ rs [] r refl
    data_by Ending = silent number link gone d.entries d.queue d.entries asked (kept_same _) rs [] r refl
    data_by (Open e) = arrived_by e _

  pub data_told : (l : ℕ) (text : List Bool) (d : DeskState) → Told number link gone d.entries d.queue (data_taken l text d).entries (data_taken l text d).queue asked (received_words (data_received link l text (header_of text))) []
  data_told l text d = data_by l text d (received_words (data_received link l text (header_of text))) (data_silent link l text _) _

  -- ---- new ends

  pub unsaid : (own foreign : ℕ) (es : List Entry) → entry_at own foreign es ≡ None → said_of gone es own foreign ≡ gone own foreign
  unsaid own foreign es none = ap (λ (o : Option Entry). counted (has_said o) (gone own foreign)) none

  pub rts_word : (own foreign other : ℕ) (es : List Entry) → entry_at own foreign es ≡ None → (v : Bool) → (other == link) ≡ v
      → map plain (received_words (if other == link then receivers.Ask (number own foreign (gone own foreign)) ∷ [] else [])) ≡ receiver_word number link asked (said_of gone es) (command.Rts own foreign other)
  rts_word own foreign other es none true t = rw t (ap (λ (k : ℕ). words.Rts (number own foreign k) ∷ []) (sym (unsaid own foreign es none)))
  rts_word own foreign other es none false t = rw t refl

  pub str_word : (own foreign size : ℕ) (es : List Entry) → entry_at own foreign es ≡ None → words.Str (number own foreign (gone own foreign)) size ∷ [] ≡ sender_word number link (said_of gone es) (command.Str own foreign size)
  str_word own foreign size es none = ap (λ (k : ℕ). words.Str (number own foreign k) size ∷ []) (sym (unsaid own foreign es none))

  pub opens_receiver : (own foreign : ℕ) (q : PairState) → entry_at own foreign q.entries ≡ None → (o : Option ℕ)
      → Told number link gone q.entries q.queue (receiver_requested own foreign o q).entries (receiver_requested own foreign o q).queue asked (received_words (asks_for link (name_of number gone own foreign) o)) []
  opens_receiver own foreign q none None = silent number link gone q.entries q.queue q.entries asked (kept_same _) [] [] refl refl
  opens_receiver own foreign q none (Some other) =
      one_told number link gone q.entries q.queue (q.entries ++ receiving_end own foreign other ∷ []) asked (append_kept _ _ refl) _ (λ n x y. refl) _ []
      (rts_word own foreign other _ none _ refl) refl

  pub opens_sender : (own foreign size : ℕ) (q : PairState) (s : Sender) → entry_at own foreign q.entries ≡ None
      → Told number link gone q.entries q.queue (requested (sending_end own foreign size) (command.Str own foreign size) q).entries (requested (sending_end own foreign size) (command.Str own foreign size) q).queue asked []
      (sent_words (senders.Ask (name_of number gone own foreign) size ∷ []) s)
  opens_sender own foreign size q s none =
      one_told number link gone q.entries q.queue (q.entries ++ sending_end own foreign size ∷ []) asked (append_kept _ _ refl) _ (λ n x y. refl) [] _
      refl (str_word own foreign size _ none)

  -- ---- a user grants, asks back and sends

  module _ (free : (link == 0) ≡ false) (socket : ℕ) (q : PairState) (e : Entry) (found : find (is_mine_on socket) q.entries ≡ Some e) where
    receives : is_receive_socket socket ≡ true → is_receiving e ≡ true
    receives even = ap is_receive_socket (eqb-true e.own socket (both e.mine (e.own == socket) (find_passes (is_mine_on socket) e q.entries found)).1) ∙ even

    link_same : (o : Option ℕ) → (link_of o == link) ≡ is_link link o
    link_same None = turned_number 0 link ∙ free
    link_same (Some l) = refl

    here_same : is_receive_socket socket ≡ true → (link_of e.link == link) ≡ receives_on link e
    here_same even = link_same e.link ∙ ap (λ (v : Bool). v && is_link link e.link) (sym (receives even))

    said_if : (v : Bool) (m : receivers.Move) (w : Word) → map plain (received_words (m ∷ [])) ≡ w ∷ [] → map plain (received_words (if v then m ∷ [] else [])) ≡ (if v then w ∷ [] else [])
    said_if true m w e = e
    said_if false m w e = refl

    pub grants_told : (m n : ℕ) → is_receive_socket socket ≡ true
        → Told number link gone q.entries q.queue (with_end socket (granted m n) q).entries (q.queue ++ command.All (link_of e.link) m n ∷ []) asked (received_words (on_link link e (receivers.Grant (named (name_of number gone) e) m n ∷ []))) []
    grants_told m n even =
        one_told number link gone q.entries q.queue (changed_first (is_mine_on socket) (granted m n) q.entries) asked
        (changed_kept _ _ (record { own = λ x. refl; foreign = λ x. refl }) _ (λ x f. refl)) _ (λ n x y. refl) _ []
        (said_if _ _ _ refl ∙ ap (λ (v : Bool). if v then words.All 0 m n ∷ [] else []) (sym (here_same even))) refl

    pub asks_back_told : (m n : ℕ) → is_receive_socket socket ≡ true
        → Told number link gone q.entries q.queue q.entries (q.queue ++ command.Gvb (link_of e.link) m n ∷ []) asked (received_words (on_link link e (receivers.AskBack (named (name_of number gone) e) m n ∷ []))) []
    asks_back_told m n even =
        one_told number link gone q.entries q.queue q.entries asked (kept_same _) _ (λ n x y. refl) _ []
        (said_if _ _ _ refl ∙ ap (λ (v : Bool). if v then words.Gvb 0 m n ∷ [] else []) (sym (here_same even))) refl

  pub gives_told : (socket : ℕ) (bits : List Bool) (q : PairState) → Told number link gone q.entries q.queue (with_end socket (with_more_bits bits) q).entries q.queue asked [] []
  gives_told socket bits q =
      silent number link gone q.entries q.queue (changed_first (is_mine_on socket) (with_more_bits bits) q.entries) asked
      (changed_kept _ _ (record { own = λ x. refl; foreign = λ x. refl }) _ (λ x f. refl)) [] [] refl refl
