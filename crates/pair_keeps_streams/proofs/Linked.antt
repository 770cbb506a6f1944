-- A connection was asked for on the link where its receiving end has it, after each call.
use Rattle.pair_keeps_streams.proofs.Common.{◌≡◌, ℕ, nat_le, Bool, false, ◌&&◌, ◌==◌, List, [], ◌∷◌, ◌++◌, Option, Some, None, is_some, refl, ap, ◌∙◌, arith, eq-eqb, eqb-true, ne_eqb, list_any, Host, IsCommand, header_of, is_receive_socket, Command, DataHeader, for, Receiver, Sender, receiver_requested, Found, Unconnected, Ending, Open, all_taken, at_end, cls_taken_by, given_back, granted, gvb_taken, interrupted, ret_taken, receiver_on, rts_heard, rts_taken, rts_taken_by, sender_on, str_heard, str_linked, str_taken_by, desk_taken, arrived_if, data_found, is_acceptable, DeskState, desk_of, listener_on, called_off, changed_first, closed_by_partner, entry_at, free_link, is_at, is_receiving, receives_on, refused_end, sending_end, sends_on, PairState, command_gone, Entry, Listener, both, all_received, Call, Hears, Takes, Says, Answered, OpensReceiver, OpensSender, Grants, AsksBack, Gives, Closes, IsAllowed, IsTelling, ends_by, gone_by, received_at, answers_str, asks_for, data_received, str_received, named, numbers, is_among, Holds, IsAhead, is_there, name_of, odd_is, stays, unlike}
use Rattle.std.proofs.Common.{true}
use Rattle.ncp_control.specs.declared.command.Command.TheVariants as command
use Rattle.stream_law.specs.Words as words
use Rattle.stream_law.specs.Receivers as receivers
use Rattle.host_pairs.specs.Parcels.{cls_sent}
use Rattle.host_keeps_streams.specs.Histories.{Sends}
use Rattle.host_keeps_streams.specs.Moves.{received_by}
use Rattle.host_keeps_streams.proofs.lemmas.{same_numbers}
use Rattle.pair_keeps_streams.proofs.Asked.{AllAskNone, asked_if, cls_none, data_none, if_none, out_none, same_asked, str_none}
use Rattle.pair_keeps_streams.proofs.Joint.{AreLinked}
use Rattle.pair_keeps_streams.proofs.Queues.{Stays}
use Rattle.pair_keeps_streams.proofs.Links.{KeepsLink, linked_changed, linked_settled, linked_filter, linked_append, linked_asked, linked_joined, linked_renamed}

-- ---- numbers that are new

module _ (number : ℕ → ℕ → ℕ → ℕ) (tells : IsTelling number) (gone : ℕ → ℕ → ℕ) (own foreign : ℕ) where
  other_number : (y : Entry) → is_at own foreign y ≡ false → (named (name_of number gone) y == name_of number gone own foreign) ≡ false
  other_number y a = ne_eqb (named (name_of number gone) y) (name_of number gone own foreign) (λ same. unlike (is_at own foreign y) (there same) a) where
    there : named (name_of number gone) y ≡ name_of number gone own foreign → is_at own foreign y ≡ true
    there same =
        let e : (y.own == own) ≡ true = eq-eqb y.own own (tells.own y.own y.foreign (gone y.own _) own foreign (gone own foreign) same) in
        let f : (y.foreign == foreign) ≡ true = eq-eqb y.foreign foreign (tells.foreign y.own y.foreign (gone y.own _) own foreign (gone own foreign) same) in
        rw (e, f) refl

  none_step : (y : Entry) (ys : List Entry) → (entry_at own foreign ys ≡ None → is_among (name_of number gone own foreign) (numbers (name_of number gone) ys) ≡ false) → (b : Bool) → is_at own foreign y ≡ b → entry_at own foreign (y ∷ ys) ≡ None
      → is_among (name_of number gone own foreign) (numbers (name_of number gone) (y ∷ ys)) ≡ false
  none_step y ys rest true a e = let r : Some y ≡ None = (rw a at e) in absurd (cc)
  none_step y ys rest false a e =
      let other : (named (name_of number gone) y == name_of number gone own foreign) ≡ false = other_number y a in
      let more : entry_at own foreign ys ≡ None = (rw a at e) in
      rw other (rest more)

  -- sockets without an end have a number that no end has
  pub none_among : (es : List Entry) → entry_at own foreign es ≡ None → is_among (name_of number gone own foreign) (numbers (name_of number gone) es) ≡ false
  none_among [] e = refl
  none_among (y ∷ ys) e = none_step y ys (none_among ys) _ refl e

module _ (number : ℕ → ℕ → ℕ → ℕ) (tells : IsTelling number) (link : ℕ) (gone : ℕ → ℕ → ℕ) (es : List Entry) (r : Receiver) (s : Sender) (h : Holds number tells link gone es r s) where
  ahead : (own foreign : ℕ) → entry_at own foreign es ≡ None → IsAhead gone es own foreign (gone own foreign)
  ahead own foreign e = record { none = λ t. omega arith; one = λ t. absurd (unlike (is_there own foreign es) t (ap is_some e)) }

  -- and it was never asked for
  pub none_asked : (own foreign : ℕ) → entry_at own foreign es ≡ None → r.asked (name_of number gone own foreign) ≡ false
  none_asked own foreign e = (h.unknown own foreign (gone own foreign) (ahead own foreign e)).unasked

-- ---- commands

module _ (name : ℕ → ℕ → ℕ) (link : ℕ) (peer : Host) (busy : List ℕ) (stamp : ℕ) (d : DeskState) (r : Receiver) (l : AreLinked name link d.entries r) where
  abbrev Linked : List Entry → Type 0
  Linked es = AreLinked name link es r

  kept : (test : Entry → Bool) (change : Entry → Entry) → Stays change → KeepsLink name link r test change → Linked (changed_first test change d.entries)
  kept test change s k = linked_changed name link r test change s k _ l

  at_end_linked : (c : Command) (change : Entry → DeskState → DeskState) (w : Found) → ((e : Entry) → Linked (change e d).entries) → Linked (at_end c change w d).entries
  at_end_linked c change Unconnected f = l
  at_end_linked c change Ending f = l
  at_end_linked c change (Open e) f = f e

  module _ (own foreign other : ℕ) (odd : is_receive_socket own ≡ false) where
    -- an end that sends
    sends_more : (e : Entry) → e.own ≡ own → Linked (d.entries ++ e ∷ [])
    sends_more e same = linked_append name link r _ e l (λ i. absurd (unlike (is_receiving e) i (ap is_receive_socket same ∙ odd)))

    rts_listened : (o : Option Listener) → Linked (rts_heard own foreign other stamp o d).entries
    rts_listened None = sends_more _ refl
    rts_listened (Some x) = sends_more _ refl

    sends_at : (e : Entry) → is_at own foreign e ≡ true → is_receiving e ≡ false
    sends_at e t = ap is_receive_socket (eqb-true e.own own (both (e.own == own) (e.foreign == foreign) t).0) ∙ odd

    rts_by : (o : Option Entry) → Linked (rts_taken_by peer own foreign other stamp o d).entries
    rts_by None = rts_listened _
    rts_by (Some e) = by (is_some e.partner) refl where
      by : (v : Bool) → is_some e.partner ≡ v → Linked (rts_taken_by peer own foreign other stamp (Some e) d).entries
      by true t = rw t l
      by false t = rw t (kept _ _ (record { own = λ x. refl; foreign = λ x. refl }) (λ x t i. absurd (unlike (is_receiving x) i (sends_at x t))))

    rts_all : (v : Bool) → list_any (sends_on other) d.entries ≡ v → Linked (rts_taken peer own foreign other stamp d).entries
    rts_all true t = rw t l
    rts_all false t = rw t (rts_by _)

  -- an STR for an end that is there
  str_found : (own foreign z : ℕ) (e : Entry) → Linked (str_taken_by peer own foreign z stamp (Some e) d).entries
  str_found own foreign z e = by (is_some e.partner) refl where
    by : (v : Bool) → is_some e.partner ≡ v → Linked (str_taken_by peer own foreign z stamp (Some e) d).entries
    by true t = rw t l
    by false t = rw t (kept _ _ (record { own = λ x. refl; foreign = λ x. refl }) (λ x t i. refl))

  cls_linked : (own foreign : ℕ) (o : Option Entry) → Linked (cls_taken_by peer busy own foreign o d).entries
  cls_linked own foreign None = l
  cls_linked own foreign (Some e) = by e.partner_closed refl where
    by : (v : Bool) → e.partner_closed ≡ v → Linked (cls_taken_by peer busy own foreign (Some e) d).entries
    by true t = rw t l
    by false t =
        rw t (linked_filter name link r stays _
        (linked_settled name link r busy _ (kept _ closed_by_partner (record { own = λ x. refl; foreign = λ x. refl }) (λ x t i. refl))))

  ret_linked : (other m n : ℕ) (e : Entry) → Linked (ret_taken other m n e d).entries
  ret_linked other m n e = by (nat_le m e.allocation.messages && nat_le n e.allocation.bits) refl where
    by : (v : Bool) → (nat_le m e.allocation.messages && nat_le n e.allocation.bits) ≡ v → Linked (ret_taken other m n e d).entries
    by true t = rw t (kept _ _ (record { own = λ x. refl; foreign = λ x. refl }) (λ x t i. refl))
    by false t = rw t l

  data_by : (other : ℕ) (text : List Bool) (x : Entry) (o : Option DataHeader) → Linked (arrived_if other x text o d).entries
  data_by other text x None = l
  data_by other text x (Some h) = by (is_acceptable x h) refl where
    by : (v : Bool) → is_acceptable x h ≡ v → Linked (arrived_if other x text (Some h) d).entries
    by true t = rw t (kept _ _ (record { own = λ x. refl; foreign = λ x. refl }) (λ x t i. refl))
    by false t = rw t l

  data_linked : (other : ℕ) (text : List Bool) (w : Found) → Linked (data_found other text w d).entries
  data_linked other text Unconnected = l
  data_linked other text Ending = l
  data_linked other text (Open x) = data_by other text x _

  pub out_linked : (c : Command) → Linked (command_gone peer stamp c d).entries
  out_linked (command.Rts receive send other) = kept _ _ (record { own = λ x. refl; foreign = λ x. refl }) (λ x t i. refl)
  out_linked (command.Str send receive size) = kept _ _ (record { own = λ x. refl; foreign = λ x. refl }) (λ x t i. refl)
  out_linked (command.Cls own foreign) =
      linked_filter name link r stays _ (kept _ cls_sent (record { own = λ x. refl; foreign = λ x. refl }) (λ x t i. refl))
  out_linked c = l

  -- ---- with what is asked for by it

  pub idle : (ms : List receivers.Move) (es : List Entry) → AllAskNone ms → Linked es → AreLinked name link es (all_received ms r)
  idle ms es a k = linked_asked name link r _ es (λ c t. same_asked ms r a c) k

  abbrev IsNew : ℕ → ℕ → Type 0
  IsNew own foreign = (is_among (name own foreign) (numbers name d.entries) ≡ false) × (r.asked (name own foreign) ≡ false)

  module _ (own foreign z : ℕ) (new : entry_at own foreign d.entries ≡ None → IsNew own foreign) where
    refused_linked : IsNew own foreign → AreLinked name link (d.entries ++ refused_end own foreign stamp ∷ []) (receivers.hears (words.Str (name own foreign) z) r)
    refused_linked n = linked_joined name link r _ _ _ false refl (λ k. refl) n.0 n.1 l

    str_answered : IsNew own foreign → (x : Listener) (o : Option ℕ)
        → AreLinked name link (str_linked own foreign z stamp o d).entries (all_received (answers_str link (name own foreign) (Some x) o) (receivers.hears (words.Str (name own foreign) z) r))
    str_answered n x None = refused_linked n
    str_answered n x (Some other) =
        linked_joined name link r _ _ _ _ refl
        (λ k. asked_if name link (other == link) (name own foreign) (receivers.hears (words.Str (name own foreign) z) r) k) n.0 n.1 l

    str_listened : IsNew own foreign → (o : Option Listener)
        → AreLinked name link (str_heard own foreign z stamp o d).entries (all_received (answers_str link (name own foreign) o (free_link d.entries)) (receivers.hears (words.Str (name own foreign) z) r))
    str_listened n None = refused_linked n
    str_listened n (Some x) = str_answered n x _

    str_by : (o : Option Entry) → entry_at own foreign d.entries ≡ o → AreLinked name link (str_taken_by peer own foreign z stamp o d).entries (all_received (str_received link (name own foreign) z (listener_on own d.listening) (free_link d.entries) o) r)
    str_by None found = str_listened (new found) _
    str_by (Some e) found =
        idle _ _
        (str_none name link _ z (listener_on own d.listening) (free_link d.entries) e) (str_found own foreign z e)

  taken_linked : (said : ℕ) (c : Command) → IsCommand c → ((own foreign : ℕ) → entry_at own foreign d.entries ≡ None → IsNew own foreign) → AreLinked name link (desk_taken peer busy stamp c d).entries (all_received (received_by name link said c d) r)
  taken_linked said (command.Rts receive send other) i new = rts_all send receive other (odd_is send i.3) _ refl
  taken_linked said (command.Str send receive size) i new = str_by receive send size (new receive send) _ refl
  taken_linked said (command.Cls foreign own) i new =
      idle _ _ (cls_none name link (name own foreign) (entry_at own foreign d.entries)) (cls_linked own foreign _)
  taken_linked said (command.All other m n) i new = at_end_linked (command.All other m n) (all_taken other m n) (sender_on other d) (λ e. kept (sends_on other) (granted m n) (record { own = λ x. refl; foreign = λ x. refl }) (λ x t i. refl))
  taken_linked said (command.Gvb other m n) i new = at_end_linked (command.Gvb other m n) (gvb_taken other m n) (sender_on other d) (λ e. kept (sends_on other) (given_back m n) (record { own = λ x. refl; foreign = λ x. refl }) (λ x t i. refl))
  taken_linked said (command.Ret other m n) i new =
      idle _ _
      (if_none (other == link) (receivers.Hear (words.Ret said m n) ∷ []) (tt, tt)) (at_end_linked (command.Ret other m n) (ret_taken other m n) (receiver_on other d) (ret_linked other m n))
  taken_linked said (command.Inr other) i new = at_end_linked (command.Inr other) interrupted (sender_on other d) (λ e. l)
  taken_linked said (command.Ins other) i new = at_end_linked (command.Ins other) interrupted (receiver_on other d) (λ e. l)
  taken_linked said c i new = l

-- ---- each call

module _ (number : ℕ → ℕ → ℕ → ℕ) (tells : IsTelling number) (link : ℕ) (gone : ℕ → ℕ → ℕ) (peer : Host) (q : PairState) (listening : List Listener) (r : Receiver) (s : Sender)
    (h : Holds number tells link gone q.entries r s) (l : AreLinked (name_of number gone) link q.entries r) where
  new_one : (own foreign : ℕ) → entry_at own foreign q.entries ≡ None → (is_among (name_of number gone own foreign) (numbers (name_of number gone) q.entries) ≡ false) × (r.asked (name_of number gone own foreign) ≡ false)
  new_one own foreign none = (none_among number tells gone own foreign _ none, none_asked number tells link gone q.entries r s h own foreign none)

  abbrev Now : List receivers.Move → List Entry → Type 0
  Now ms es = AreLinked (name_of number gone) link es (all_received ms r)

  still : (ms : List receivers.Move) (es : List Entry) → AllAskNone ms → AreLinked (name_of number gone) link es r → Now ms es
  still ms es a k = idle (name_of number gone) link peer q.busy 0 (desk_of q listening) r l ms es a k

  opens_linked : (own foreign : ℕ) → entry_at own foreign q.entries ≡ None → (o : Option ℕ) → Now (asks_for link (name_of number gone own foreign) o) (receiver_requested own foreign o q).entries
  opens_linked own foreign none None = l
  opens_linked own foreign none (Some other) =
      linked_joined (name_of number gone) link r _ _ _ _ refl
      (λ k. asked_if (name_of number gone) link (other == link) (name_of number gone own foreign) r k) (new_one own foreign none).0 (new_one own foreign none).1 l

  -- a new end, that has no link
  sender_linked : (own foreign size : ℕ) → entry_at own foreign q.entries ≡ None → AreLinked (name_of number gone) link (q.entries ++ sending_end own foreign size ∷ []) r
  sender_linked own foreign size none = linked_joined (name_of number gone) link r r _ _ false refl (λ k. refl) (new_one own foreign none).0 (new_one own foreign none).1 l

  changed : (test : Entry → Bool) (change : Entry → Entry) → Stays change → KeepsLink (name_of number gone) link r test change → AreLinked (name_of number gone) link (changed_first test change q.entries) r
  changed test change e k = linked_changed (name_of number gone) link r test change e k _ l

  linked_call : (k : Call) → IsAllowed link k q s → Now (received_at (name_of number gone) link k q listening) (ends_by peer k q listening)
  linked_call (Hears stamp said c) a = taken_linked (name_of number gone) link peer q.busy stamp (desk_of q listening) r l said c a.0 new_one
  linked_call (Takes other text) a =
      still (data_received link other text (header_of text)) _ (data_none (name_of number gone) link other text (header_of text))
      (data_linked (name_of number gone) link peer q.busy 0 (desk_of q listening) r l other text _)
  linked_call (Says stamp c) a =
      still _ _ (out_none (name_of number gone) link c _) (out_linked (name_of number gone) link peer q.busy stamp (desk_of q listening) r l c)
  linked_call (Sends stamp e size count) a = changed _ _ (record { own = λ x. refl; foreign = λ x. refl }) (λ x t i. refl)
  linked_call (Answered other) a = linked_settled (name_of number gone) link r _ _ l
  linked_call (OpensReceiver own foreign) a = opens_linked own foreign a.1 _
  linked_call (OpensSender own foreign size) a = sender_linked own foreign size a
  linked_call (Grants socket m n e) a =
      still _ _ (if_none (receives_on link e) (receivers.Grant (named (name_of number gone) e) m n ∷ []) (tt, tt))
      (changed _ _ (record { own = λ x. refl; foreign = λ x. refl }) (λ x t i. refl))
  linked_call (AsksBack socket m n e) a =
      still _ _ (if_none (receives_on link e) (receivers.AskBack (named (name_of number gone) e) m n ∷ []) (tt, tt)) l
  linked_call (Gives socket bits e) a = changed _ _ (record { own = λ x. refl; foreign = λ x. refl }) (λ x t i. refl)
  linked_call (Closes socket e) a =
      still _ _ (if_none (receives_on link e) (receivers.Close (named (name_of number gone) e) ∷ []) (tt, tt))
      (linked_settled (name_of number gone) link r q.busy _ (changed _ called_off (record { own = λ x. refl; foreign = λ x. refl }) (λ x t i. refl)))

  pub linked_step : (k : Call) → IsAllowed link k q s
      → AreLinked (name_of number (gone_by q.entries (ends_by peer k q listening) gone)) link (ends_by peer k q listening) (all_received (received_at (name_of number gone) link k q listening) r)
  linked_step k a =
      linked_renamed _ _ link _ _
      (same_numbers number tells gone q.entries (ends_by peer k q listening)) (linked_call k a)
