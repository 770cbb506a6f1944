-- Each call concerns only connections that have an end before it, or after it.
use Rattle.host_keeps_streams.proofs.Common.{◌≡◌, ◌⊎◌, ℕ, ◌*◌, take, Bool, true, false, not, ◌&&◌, ◌==◌, if◌then◌else◌, List, ◌∷◌, ◌++◌, Option, Some, None, is_some, refl, subst, inl, inr, list_any, Host, header_of, data_bits, Command, DataHeader, Sender, receiver_requested, asked_on_link, asked_with_size, rts_heard, rts_taken, rts_taken_by, str_heard, str_linked, str_taken_by, data_of, DeskState, desk_of, listener_on, called_off, changed_first, closed_by_partner, entry_at, free_link, is_at, is_mine_on, is_receiving, must_close, receiving_end, receives_on, refused_end, sending_end, sends_on, PairState, freed, Closing, Entry, Listener, received_close, received_gone, received_open, sent_open, Call, Hears, Takes, Says, Sends, Answered, OpensReceiver, OpensSender, Grants, AsksBack, Closes, ends_by, received_at, sent_at, answers_str, asked_received, asked_sent, asks_for, closed_received, closes, closes_on, cls_received, data_received, hears_rts, of_end, received_out, rts_sent, sent_out, str_received, told_on, named, numbers, is_among}
use Rattle.std.proofs.Common.{[], eq-eqb}
use Rattle.std.proofs.lemmas.Bool.{or_right}
use Rattle.ncp_control.specs.declared.command.Command.TheVariants as command
use Rattle.stream_law.specs.Words as words
use Rattle.stream_law.specs.Receivers as receivers
use Rattle.stream_law.specs.Senders as senders
use Rattle.host_pairs.specs.declared.entry.Closing.TheVariants as closing
use Rattle.host_keeps_streams.specs.Moves.{cls_sent}
use Rattle.host_keeps_streams.proofs.Concerns.{AllConcern, AllConcernSent, concern_both}
use Rattle.host_keeps_streams.proofs.Names.{found_among, numbers_changed}
use Rattle.host_keeps_streams.proofs.ReceiverHears.{own_name}

-- a number of an end before or after
abbrev pub Meets : (ℕ → ℕ → ℕ) → List Entry → List Entry → ℕ → Type 0
Meets name before after c = (is_among c (numbers name before) ≡ true) ⊎ (is_among c (numbers name after) ≡ true)

module _ (name : ℕ → ℕ → ℕ) where
  among_last : (es : List Entry) (e : Entry) → is_among (named name e) (numbers name (es ++ e ∷ [])) ≡ true
  among_last [] e = let same : (named name e == named name e) ≡ true = eq-eqb (named name e) (named name e) refl in rw same refl
  among_last (y ∷ ys) e = let rest : is_among (named name e) (numbers name (ys ++ e ∷ [])) ≡ true = among_last ys e in rw rest (or_right (named name y == named name e) true refl)

  found_name : (own foreign : ℕ) (e : Entry) (es : List Entry) → entry_at own foreign es ≡ Some e → is_among (name own foreign) (numbers name es) ≡ true
  found_name own foreign e es found = subst (λ (c : ℕ). is_among c (numbers name es) ≡ true) (own_name name own own foreign e es found) (found_among name _ e es found)

  closes_step : (P : ℕ → Type 0) (busy : List ℕ) (y : Entry) (ys : List Entry) → P (named name y) → AllConcernSent P (closes name busy ys) → (b : Bool) → (must_close busy y && not (is_receiving y)) ≡ b → AllConcernSent P (closes name busy (y ∷ ys))
  closes_step P busy y ys p rest true t = rw t (p, rest)
  closes_step P busy y ys p rest false t = rw t rest

  closes_among : (P : ℕ → Type 0) (busy : List ℕ) (es : List Entry) → ((k : ℕ) → is_among k (numbers name es) ≡ true → P k) → AllConcernSent P (closes name busy es)
  closes_among P busy [] f = tt
  closes_among P busy (y ∷ ys) f =
      let same : (named name y == named name y) ≡ true = eq-eqb (named name y) (named name y) refl in
      closes_step P busy y ys (f (named name y) (rw same refl)) (closes_among P busy ys (λ k t. f k (rw t (or_right (named name y == k) true refl)))) _ refl

  -- ends that are changed have the numbers that they had
  closes_meet : (busy : List ℕ) (test : Entry → Bool) (change : Entry → Entry) (es after : List Entry) → ((x : Entry) → named name (change x) ≡ named name x) → AllConcernSent (Meets name es after) (closes name busy (changed_first test change es))
  closes_meet busy test change es after same =
      closes_among _ busy _ (λ k t. inl (subst (λ (ns : List ℕ). is_among k ns ≡ true) (numbers_changed name test change es same) t))

-- ---- lists that concern nobody

open_none : (P : ℕ → Type 0) (v : Bool) (c : ℕ) → AllConcern P (received_open v c)
open_none P true c = (tt, tt)
open_none P false c = tt

open_sent : (P : ℕ → Type 0) (v : Bool) (c : ℕ) → AllConcernSent P (sent_open v c)
open_sent P true c = (tt, tt)
open_sent P false c = tt

close_none : (P : ℕ → Type 0) (v : Closing) (c : ℕ) → AllConcern P (received_close v c)
close_none P closing.Queued c = tt
close_none P v c = (tt, tt)

gone_none : (P : ℕ → Type 0) (v : Bool) (c : ℕ) → AllConcern P (received_gone v c)
gone_none P true c = (tt, tt)
gone_none P false c = tt

if_none : (P : ℕ → Type 0) (v : Bool) (ms : List receivers.Move) → AllConcern P ms → AllConcern P (if v then ms else [])
if_none P true ms a = a
if_none P false ms a = tt

if_sent : (P : ℕ → Type 0) (v : Bool) (ms : List senders.Move) → AllConcernSent P ms → AllConcernSent P (if v then ms else [])
if_sent P true ms a = a
if_sent P false ms a = tt

not_sent : (P : ℕ → Type 0) (v : Bool) (ms : List senders.Move) → AllConcernSent P ms → AllConcernSent P (if v then [] else ms)
not_sent P true ms a = tt
not_sent P false ms a = a

end_sent : (P : ℕ → Type 0) (c : ℕ) (o : Option ℕ) (ms : List senders.Move) → AllConcernSent P ms → AllConcernSent P (of_end c o ms)
end_sent P c None ms a = tt
end_sent P c (Some own) ms a = if_sent P _ ms a

rts_concern : (P : ℕ → Type 0) (v : Bool) (c : ℕ) → P c → AllConcernSent P (hears_rts v c)
rts_concern P true c p = (p, tt)
rts_concern P false c p = tt

-- ---- receivers

module _ (name : ℕ → ℕ → ℕ) (link : ℕ) where
  module _ (peer : Host) (own foreign z stamp : ℕ) (d : DeskState) where
    answer_meets : (P : ℕ → Type 0) → P (name own foreign) → (l : Option Listener) (o : Option ℕ) → AllConcern P (answers_str link (name own foreign) l o)
    answer_meets P p None o = tt
    answer_meets P p (Some l) None = tt
    answer_meets P p (Some l) (Some other) = if_none P _ (receivers.Ask (name own foreign) ∷ []) (p, tt)

    linked_meets : (o : Option ℕ) → is_among (name own foreign) (numbers name (str_linked own foreign z stamp o d).entries) ≡ true
    linked_meets None = among_last name d.entries _
    linked_meets (Some l) = among_last name d.entries _

    new_meets : (o : Option Listener) → is_among (name own foreign) (numbers name (str_heard own foreign z stamp o d).entries) ≡ true
    new_meets None = among_last name d.entries _
    new_meets (Some l) = linked_meets _

    str_meets : (o : Option Entry) → entry_at own foreign d.entries ≡ o
        → AllConcern (Meets name d.entries (str_taken_by peer own foreign z stamp o d).entries) (str_received link (name own foreign) z (listener_on own d.listening) (free_link d.entries) o)
    str_meets None found =
        (inr (new_meets _), answer_meets _ (inr (new_meets _)) _ _)
    str_meets (Some e) found = by (is_some e.partner) where
      by : (v : Bool) → AllConcern (Meets name d.entries (str_taken_by peer own foreign z stamp (Some e) d).entries) (if v then [] else receivers.Hear (words.Str (name own foreign) z) ∷ received_open (receives_on link e && is_some e.asked) (name own foreign))
      by true = tt
      by false = (inl (found_name name own foreign e d.entries found), open_none _ _ _)

  cls_meets : (own foreign : ℕ) (es after : List Entry) (o : Option Entry) → entry_at own foreign es ≡ o → AllConcern (Meets name es after) (cls_received link (name own foreign) o)
  cls_meets own foreign es after None found = tt
  cls_meets own foreign es after (Some e) found =
      if_none _ (is_receiving e && not e.partner_closed) _
      (inl (found_name name own foreign e es found), if_none (Meets name es after) (receives_on link e) _ (close_none _ e.closing _))

  asked_meets : (P : ℕ → Type 0) (o : Option Entry) → AllConcern P (asked_received name link o)
  asked_meets P None = tt
  asked_meets P (Some e) = if_none P (receives_on link e) _ (open_none P _ _)

  closed_meets : (P : ℕ → Type 0) (o : Option Entry) → AllConcern P (closed_received name link o)
  closed_meets P None = tt
  closed_meets P (Some e) = if_none P _ _ (gone_none P e.partner_closed _)

  says_meets : (P : ℕ → Type 0) (es : List Entry) (c : Command) → AllConcern P (received_out name link c es)
  says_meets P es (command.Rts receive send l) = asked_meets P (entry_at receive send es)
  says_meets P es (command.Str send receive size) = asked_meets P (entry_at send receive es)
  says_meets P es (command.Cls own foreign) = closed_meets P (entry_at own foreign es)
  says_meets P es c = tt

  module _ (peer : Host) (q : PairState) (listening : List Listener) where
    hears_meets : (stamp said : ℕ) (c : Command) → AllConcern (Meets name q.entries (ends_by peer (Hears stamp said c) q listening)) (received_at name link (Hears stamp said c) q listening)
    hears_meets stamp said (command.Str send receive size) = str_meets peer receive send size stamp (desk_of q listening) _ refl
    hears_meets stamp said (command.Cls foreign own) = cls_meets own foreign q.entries _ _ refl
    hears_meets stamp said (command.Ret l m n) = if_none _ _ (receivers.Hear (words.Ret said m n) ∷ []) (tt, tt)
    hears_meets stamp said c = tt

    data_meets : (P : ℕ → Type 0) (l : ℕ) (text : List Bool) (o : Option DataHeader) → AllConcern P (data_received link l text o)
    data_meets P l text None = tt
    data_meets P l text (Some h) = by (l == link) where
      by : (v : Bool) → AllConcern P (if v then receivers.Take h.size (data_of (data_bits h) text) ∷ [] else [])
      by true = (tt, tt)
      by false = tt

    opens_meets : (own foreign : ℕ) (o : Option ℕ) → AllConcern (Meets name q.entries (receiver_requested own foreign o q).entries) (asks_for link (name own foreign) o)
    opens_meets own foreign None = tt
    opens_meets own foreign (Some l) =
        if_none _ _ (receivers.Ask (name own foreign) ∷ []) (inr (among_last name q.entries _), tt)

    pub call_meets : (c : Call) → AllConcern (Meets name q.entries (ends_by peer c q listening)) (received_at name link c q listening)
    call_meets (Hears stamp said c) = hears_meets stamp said c
    call_meets (Takes l text) = data_meets (Meets name q.entries (ends_by peer (Takes l text) q listening)) l text (header_of text)
    call_meets (Says stamp c) = says_meets (Meets name q.entries (ends_by peer (Says stamp c) q listening)) q.entries c
    call_meets (OpensReceiver own foreign) = opens_meets own foreign (free_link q.entries)
    call_meets (Grants socket m n e) = if_none (Meets name q.entries (ends_by peer (Grants socket m n e) q listening)) (receives_on link e) (receivers.Grant (named name e) m n ∷ []) (tt, tt)
    call_meets (AsksBack socket m n e) = if_none (Meets name q.entries (ends_by peer (AsksBack socket m n e) q listening)) (receives_on link e) (receivers.AskBack (named name e) m n ∷ []) (tt, tt)
    call_meets (Closes socket e) = if_none (Meets name q.entries (ends_by peer (Closes socket e) q listening)) (receives_on link e) (receivers.Close (named name e) ∷ []) (tt, tt)
    call_meets c = tt

-- ---- senders

module _ (name : ℕ → ℕ → ℕ) (link : ℕ) (s : Sender) where
  module _ (peer : Host) (own foreign l stamp : ℕ) (d : DeskState) where
    rts_new : (o : Option Listener) → is_among (name own foreign) (numbers name (rts_heard own foreign l stamp o d).entries) ≡ true
    rts_new None = among_last name d.entries _
    rts_new (Some x) = among_last name d.entries _

    rts_none : (v : Bool) (o : Option Listener) → AllConcernSent (Meets name d.entries (rts_heard own foreign l stamp o d).entries) (rts_sent v (name own foreign) o None)
    rts_none v None =
        concern_both _ _ _
        (rts_concern _ v _ (inr (rts_new None))) (inr (rts_new None), tt)
    rts_none v (Some x) = (inr (rts_new (Some x)), rts_concern _ v _ (inr (rts_new (Some x))))

    rts_by : (v : Bool) (o : Option Entry) → entry_at own foreign d.entries ≡ o → AllConcernSent (Meets name d.entries (rts_taken_by peer own foreign l stamp o d).entries) (rts_sent v (name own foreign) (listener_on own d.listening) o)
    rts_by v None found = rts_none v _
    rts_by v (Some e) found = by (is_some e.partner) where
      by : (u : Bool) → AllConcernSent (Meets name d.entries (rts_taken_by peer own foreign l stamp (Some e) d).entries) (if u then [] else hears_rts v (name own foreign) ++ sent_open (v && is_some e.asked) (name own foreign))
      by true = tt
      by false =
          concern_both _ _ _
          (rts_concern _ v _ (inl (found_name name own foreign e d.entries found)))
          (open_sent _ _ _)

    rts_meets : (v : Bool) → list_any (sends_on l) d.entries ≡ v
        → AllConcernSent (Meets name d.entries (rts_taken peer own foreign l stamp d).entries) (if v then [] else rts_sent (l == link) (name own foreign) (listener_on own d.listening) (entry_at own foreign d.entries))
    rts_meets true e = tt
    rts_meets false e = rw e (rts_by (l == link) _ refl)

  cls_met : (busy : List ℕ) (own foreign : ℕ) (es after : List Entry) (o : Option Entry) → AllConcernSent (Meets name es after) (cls_sent name busy own foreign es s o)
  cls_met busy own foreign es after None = tt
  cls_met busy own foreign es after (Some e) =
      not_sent _ e.partner_closed _
      (concern_both _ _ _
      (not_sent _ _ _ (end_sent _ _ s.end _ (tt, tt)))
      (closes_meet name busy _ closed_by_partner es after (λ x. refl)))

  asked_met : (P : ℕ → Type 0) (o : Option Entry) → AllConcernSent P (asked_sent name link s o)
  asked_met P None = tt
  asked_met P (Some e) = if_sent P _ _ (end_sent P _ s.end _ (open_sent P _ _))

  says_met : (P : ℕ → Type 0) (es : List Entry) (c : Command) → AllConcernSent P (sent_out name link c es s)
  says_met P es (command.Rts receive send l) = asked_met P (entry_at receive send es)
  says_met P es (command.Str send receive size) = asked_met P (entry_at send receive es)
  says_met P es c = tt

  module _ (peer : Host) (q : PairState) (listening : List Listener) where
    hears_met : (stamp said : ℕ) (c : Command) → AllConcernSent (Meets name q.entries (ends_by peer (Hears stamp said c) q listening)) (sent_at name link (Hears stamp said c) q listening s)
    hears_met stamp said (command.Rts receive send l) = rts_meets peer send receive l stamp (desk_of q listening) (list_any (sends_on l) q.entries) refl
    hears_met stamp said (command.Cls foreign own) = cls_met q.busy own foreign q.entries (ends_by peer (Hears stamp said (command.Cls foreign own)) q listening) (entry_at own foreign q.entries)
    hears_met stamp said (command.All l m n) = if_sent (Meets name q.entries (ends_by peer (Hears stamp said (command.All l m n)) q listening)) (l == link) (senders.Hear (words.All said m n) ∷ []) (tt, tt)
    hears_met stamp said (command.Gvb l m n) = if_sent (Meets name q.entries (ends_by peer (Hears stamp said (command.Gvb l m n)) q listening)) (l == link) (senders.Hear (words.Gvb said m n) ∷ []) (tt, tt)
    hears_met stamp said c = tt

    told_met : (P : ℕ → Type 0) (l : ℕ) → AllConcernSent P (told_on link l)
    told_met P l = if_sent P _ (senders.Told ∷ []) (tt, tt)

    pub call_met : (c : Call) → AllConcernSent (Meets name q.entries (ends_by peer c q listening)) (sent_at name link c q listening s)
    call_met (Hears stamp said c) = hears_met stamp said c
    call_met (Says stamp c) = says_met _ q.entries c
    call_met (Sends stamp e z n) = if_sent _ _ (senders.Send (named name e) z (take (z * n) e.bits) ∷ []) (tt, tt)
    call_met (Answered l) =
        concern_both _ _ _ (told_met _ l)
        (closes_among name _ _ q.entries (λ k t. inl t))
    call_met (OpensSender own foreign z) = (inr (among_last name q.entries _), tt)
    call_met (Closes socket e) = closes_meet name q.busy _ called_off q.entries _ (λ x. refl)
    call_met c = tt
