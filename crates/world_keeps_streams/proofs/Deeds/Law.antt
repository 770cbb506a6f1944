-- What the laws of a link have of each call of a host's program.
use Rattle.world_keeps_streams.proofs.Common.{eqb-true, list_any, data_bits, header_of, Command, DataHeader, for, covers, holds, data_of, is_acceptable, desk_of, listener_on, PairState, asked_at, Closing, Entry, Listener, all_received, received_close, received_gone, received_open, HasReceiver}
use Rattle.std.proofs.Common.{◌≡◌, ℕ, ◌*◌, ◌==◌, ◌&&◌, not, Bool, false, nat_le, if◌then◌else◌, List, [], ◌∷◌, ◌++◌, take, map, find, length, Option, Some, None, is_some, refl, ap, sym, subst, ◌∙◌, true}
use Rattle.host_pairs.specs.Commands.{Unconnected, Ending, Open, asked_on_link, asked_with_size, found_in, Found}
use Rattle.host_pairs.specs.Entries.{changed_at, closed_by_partner, closed_when, entry_at, free_link, is_ending, is_open, is_receiving, must_close, receives_on, sends_on}
use Rattle.host_keeps_streams.specs.Histories.{Hears, Takes, Says, Sends, OpensReceiver, Grants, AsksBack, Closes, received_at, Call}
use Rattle.host_keeps_streams.specs.Moves.{answers_str, cls_received, closed_received, asked_received, data_received, received_by, received_out, str_received, asks_for, on_link}
use Rattle.host_keeps_streams.proofs.lemmas.{accept_same, bits_there, find_passes, at_link, back_same, other_receives}
use Rattle.ncp_control.specs.Allocation as counters
use Rattle.ncp_control.specs.declared.command.Command.TheVariants as command
use Rattle.stream_law.specs.Words as words
use Rattle.stream_law.specs.Receivers as receivers
use Rattle.stream_law.specs.Receivers.{Receiver}
use Rattle.host_pairs.specs.declared.entry.Closing.TheVariants as closing
use Rattle.host_keeps_streams.specs.Names.{named}
use Rattle.world_keeps_streams.proofs.Deeds.Effects as deeds
use Rattle.world_keeps_streams.proofs.Deeds.Effects.{Deed, Receives, at_receiver}
use Rattle.world_keeps_streams.proofs.Deeds.Kinds.{arrives, arrives_if, closings, deed_of, hears, matches, opens, opens_by, returns, says, sweeps}

-- ---- moves that count nothing

abbrev pub IsStill : receivers.Move → Type 0
IsStill (receivers.Grant c m n) = ⊥
IsStill (receivers.Take z bits) = ⊥
IsStill (receivers.Hear (words.Ret c m n)) = ⊥
IsStill m = Unit {0}

abbrev pub AreStill : List receivers.Move → Type 0
AreStill [] = Unit {0}
AreStill (m ∷ ms) = IsStill m × AreStill ms

record Same (old new : Receiver) : Type 0 where
  taken : (c : ℕ) → new.taken c ≡ old.taken c
  granted : (c : ℕ) → new.granted c ≡ old.granted c
  returned : (c : ℕ) → new.returned c ≡ old.returned c

same : (r : Receiver) → Same r r
same r = record { taken = λ c. refl; granted = λ c. refl; returned = λ c. refl }

still_one : (m : receivers.Move) (r : Receiver) → IsStill m → Same r (receivers.moved m r)
still_one (receivers.Grant c m n) r s = absurd s
still_one (receivers.AskBack c m n) r s = same r
still_one (receivers.Take z bits) r s = absurd s
still_one (receivers.Hear (words.Rts c)) r s = same r
still_one (receivers.Hear (words.Str c z)) r s = record { taken = λ k. refl; granted = λ k. refl; returned = λ k. refl }
still_one (receivers.Hear (words.All c m n)) r s = same r
still_one (receivers.Hear (words.Gvb c m n)) r s = same r
still_one (receivers.Hear (words.Ret c m n)) r s = absurd s
still_one (receivers.Hear (words.Cls c)) r s = record { taken = λ k. refl; granted = λ k. refl; returned = λ k. refl }
still_one m r s = record { taken = λ k. refl; granted = λ k. refl; returned = λ k. refl }

still_all : (ms : List receivers.Move) (r : Receiver) → AreStill ms → Same r (all_received ms r)
still_all [] r s = same r
still_all (m ∷ ms) r s =
    let a : Same r (receivers.moved m r) = still_one m r s.0 in
    let b : Same (receivers.moved m r) (all_received ms (receivers.moved m r)) = still_all ms (receivers.moved m r) s.1 in
    record { taken = λ c. b.taken c ∙ a.taken c; granted = λ c. b.granted c ∙ a.granted c; returned = λ c. b.returned c ∙ a.returned c }

-- ---- deeds that count nothing at a receiver

abbrev IsPlain : Deed → Type 0
IsPlain (deeds.Arrives e bits) = ⊥
IsPlain (deeds.Grants e m n) = ⊥
IsPlain (deeds.Returns e m n) = ⊥
IsPlain d = Unit {0}

plain_by : (name : ℕ → ℕ → ℕ) (link : ℕ) (d : Deed) (r t : Receiver) → IsPlain d → Same r t → Receives name link d r t
plain_by name link (deeds.Arrives e bits) r t p s = absurd p
plain_by name link (deeds.Grants e m n) r t p s = absurd p
plain_by name link (deeds.Returns e m n) r t p s = absurd p
plain_by name link d r t p s = record { taken = s.taken; granted = s.granted; returned = s.returned }

plain_if : (v : Bool) (d e : Deed) → IsPlain d → IsPlain e → IsPlain (if v then d else e)
plain_if true d e p q = p
plain_if false d e p q = q

plain_opens : (o : Option Entry) → IsPlain (opens o)
plain_opens None = tt
plain_opens (Some e) = by e.asked e.partner where
  by : (u v : Option ℕ) → IsPlain (opens_by e u v)
  by None v = tt
  by (Some u) None = tt
  by (Some u) (Some v) = plain_if (is_ending e) deeds.Nothing (deeds.Opens e u v) tt tt

plain_matches : (own foreign : ℕ) (change : Entry → Entry) (es : List Entry) (o : Option Entry) → IsPlain (matches own foreign change es o)
plain_matches own foreign change es None = tt
plain_matches own foreign change es (Some e) = plain_if (is_some e.partner) deeds.Nothing (opens (entry_at own foreign (changed_at own foreign change es))) tt (plain_opens (entry_at own foreign (changed_at own foreign change es)))

plain_closings : (busy : List ℕ) (own foreign : ℕ) (es : List Entry) (o : Option Entry) → IsPlain (closings busy own foreign es o)
plain_closings busy own foreign es None = tt
plain_closings busy own foreign es (Some e) = plain_if e.partner_closed deeds.Nothing _ tt tt

-- ---- a receiver

still_if : (v : Bool) (xs ys : List receivers.Move) → AreStill xs → AreStill ys → AreStill (if v then xs else ys)
still_if true xs ys p q = p
still_if false xs ys p q = q

module _ (name : ℕ → ℕ → ℕ) (link : ℕ) where
  opens_still : (v : Bool) (c : ℕ) → AreStill (received_open v c)
  opens_still true c = (tt, tt)
  opens_still false c = tt

  gone_still : (v : Bool) (c : ℕ) → AreStill (received_gone v c)
  gone_still true c = (tt, tt)
  gone_still false c = tt

  close_still : (k : Closing) (c : ℕ) → AreStill (received_close k c)
  close_still closing.Queued c = tt
  close_still k c = (tt, tt)

  answers_still : (c : ℕ) (l : Option Listener) (free : Option ℕ) → AreStill (answers_str link c l free)
  answers_still c None free = tt
  answers_still c (Some l) None = tt
  answers_still c (Some l) (Some other) = still_if (other == link) (receivers.Ask c ∷ []) [] (tt, tt) tt

  pub str_still : (c z : ℕ) (l : Option Listener) (free : Option ℕ) (o : Option Entry) → AreStill (str_received link c z l free o)
  str_still c z l free None = (tt, answers_still c l free)
  str_still c z l free (Some e) = still_if (is_some e.partner) [] (receivers.Hear (words.Str c z) ∷ received_open (receives_on link e && is_some e.asked) c) tt (tt, opens_still (receives_on link e && is_some e.asked) c)

  pub cls_still : (c : ℕ) (o : Option Entry) → AreStill (cls_received link c o)
  cls_still c None = tt
  cls_still c (Some e) = still_if (is_receiving e && not e.partner_closed) _ [] (tt, still_if (receives_on link e) (received_close e.closing c) [] (close_still e.closing c) tt) tt

  asked_still : (o : Option Entry) → AreStill (asked_received name link o)
  asked_still None = tt
  asked_still (Some e) = still_if (receives_on link e) (received_open (is_some e.partner) (named name e)) [] (opens_still (is_some e.partner) (named name e)) tt

  closed_still : (o : Option Entry) → AreStill (closed_received name link o)
  closed_still None = tt
  closed_still (Some e) = still_if _ _ [] (gone_still e.partner_closed _) tt

  pub out_still : (c : Command) (es : List Entry) → AreStill (received_out name link c es)
  out_still (command.Rts receive send l) es = asked_still (entry_at receive send es)
  out_still (command.Str send receive size) es = asked_still (entry_at send receive es)
  out_still (command.Cls own foreign) es = closed_still (entry_at own foreign es)
  out_still c es = tt

  plain_says : (stamp : ℕ) (c : Command) (q : PairState) → IsPlain (says stamp c q)
  plain_says stamp (command.Rts receive send l) q = plain_opens _
  plain_says stamp (command.Str send receive size) q = plain_opens _
  plain_says stamp c q = tt

  pub asks_still : (c : ℕ) (free : Option ℕ) → AreStill (asks_for link c free)
  asks_still c None = tt
  asks_still c (Some other) = still_if (other == link) (receivers.Ask c ∷ []) [] (tt, tt) tt

  by_moves : (d : Deed) (ms : List receivers.Move) (r : Receiver) → IsPlain d → AreStill ms → Receives name link d r (all_received ms r)
  by_moves d ms r p s = plain_by name link d r _ p (still_all ms r s)

  -- ---- data

  -- a deed at an end on another link
  abbrev IsOff : Deed → Type 0
  IsOff (deeds.Arrives e bits) = receives_on link e ≡ false
  IsOff (deeds.Returns e m n) = receives_on link e ≡ false
  IsOff (deeds.Grants e m n) = receives_on link e ≡ false
  IsOff d = Unit {0}

  off_by : (d : Deed) (r : Receiver) → IsOff d → Receives name link d r r
  off_by (deeds.Arrives e bits) r o = record { taken = λ c. rw o refl; granted = λ c. refl; returned = λ c. refl }
  off_by (deeds.Grants e m n) r o = record { taken = λ c. refl; granted = λ c. rw o refl; returned = λ c. refl }
  off_by (deeds.Returns e m n) r o = record { taken = λ c. refl; granted = λ c. refl; returned = λ c. rw o refl }
  off_by d r o = record { taken = λ c. refl; granted = λ c. refl; returned = λ c. refl }

  off_if : (v : Bool) (d e : Deed) → IsOff d → IsOff e → IsOff (if v then d else e)
  off_if true d e p q = p
  off_if false d e p q = q

  -- what is done at the open end that is found, if there is one
  off_found : (f : Found → Deed) (o : Option Entry) → IsOff (f Unconnected) → IsOff (f Ending) → ((e : Entry) → o ≡ Some e → IsOff (f (Open e))) → IsOff (f (found_in o))
  off_found f None u v w = u
  off_found f (Some e) u v w = by (is_open e) (is_ending e) where
    by : (x y : Bool) → IsOff (f (if x then Open e else (if y then Ending else Unconnected)))
    by true y = w e refl
    by false true = v
    by false false = u

  -- what the law has at a connection that is its end's
  for_same : {A : Type 0} (x : Entry) (f : ℕ → A) (g : A → A) → receives_on link x ≡ true → (k : ℕ)
      → for (named name x) (g (f (named name x))) f k ≡ (if at_receiver name link k x then g (f k) else f k)
  for_same {A} x f g on k = by (k == named name x) refl where
    by : (v : Bool) → (k == named name x) ≡ v → for (named name x) (g (f (named name x))) f k ≡ (if at_receiver name link k x then g (f k) else f k)
    by true e = let s : k ≡ named name x = eqb-true k (named name x) e in rw (on, e) (ap (λ (n : ℕ). g (f n)) (sym s))
    by false e = rw (on, e) refl

  takes_by : (text : List Bool) (h : DataHeader) (r : Receiver) (x : Entry) → receives_on link x ≡ true → (v : Bool) → is_acceptable x h ≡ v
      → (receivers.is_open (named name x) r && words.is_size h.size (r.size (named name x)) && covers r.allocation (length (data_of (data_bits h) text))) ≡ v
      → Receives name link (if is_acceptable x h then deeds.Arrives x (data_of (data_bits h) text) else deeds.Nothing) r (receivers.takes h.size (data_of (data_bits h) text) (Some (named name x)) r)
  takes_by text h r x on true e g =
      rw (e, g) (record { taken = λ k. for_same x r.taken (λ ts. ts ++ data_of (data_bits h) text ∷ []) on k; granted = λ k. refl; returned = λ k. refl })
  takes_by text h r x on false e g = rw (e, g) (record { taken = λ k. refl; granted = λ k. refl; returned = λ k. refl })

  data_by : (l : ℕ) (text : List Bool) (es : List Entry) (r : Receiver) → HasReceiver name link es r → (o : Option DataHeader) → header_of text ≡ o
      → Receives name link (arrives text (found_in (find (receives_on l) es))) r (all_received (data_received link l text o) r)
  data_by l text es r has None is = off_by (arrives text (found_in (find (receives_on l) es))) r (off_found (arrives text) (find (receives_on l) es) tt tt (λ e f. subst (λ (o : Option DataHeader). IsOff (arrives_if e text o)) (sym is) tt))
  data_by l text es r has (Some h) is = by (l == link) refl where
    here : Receives name link (arrives text (found_in (find (receives_on link) es))) r (receivers.takes h.size (data_of (data_bits h) text) r.end r)
    here =
        at_link name link es r (λ w q. Receives name link (arrives text w) r q) (λ o. receivers.takes h.size (data_of (data_bits h) text) o r)
        (off_by deeds.Nothing r tt) (off_by deeds.Nothing r tt) refl
        (λ c shut. rw shut refl)
        (λ x f one i o. subst (λ (p : Option DataHeader). Receives name link (arrives_if x text p) r (receivers.takes h.size (data_of (data_bits h) text) (Some (named name x)) r)) (sym is)
        (takes_by text h r x (find_passes (receives_on link) x es f) (is_acceptable x h) refl (accept_same (named name x) x r h (data_of (data_bits h) text) i o (bits_there text h is)))) has

    by : (v : Bool) → (l == link) ≡ v → Receives name link (arrives text (found_in (find (receives_on l) es))) r (all_received (if v then receivers.Take h.size (data_of (data_bits h) text) ∷ [] else []) r)
    by true e = subst (λ (n : ℕ). Receives name link (arrives text (found_in (find (receives_on n) es))) r (receivers.moved (receivers.Take h.size (data_of (data_bits h) text)) r)) (sym (eqb-true l link e))
        (record { taken = here.taken; granted = here.granted; returned = here.returned })
    by false e = off_by (arrives text (found_in (find (receives_on l) es))) r
        (off_found (arrives text) (find (receives_on l) es) tt tt
        (λ x f. subst (λ (o : Option DataHeader). IsOff (arrives_if x text o)) (sym is)
        (off_if (is_acceptable x h) (deeds.Arrives x (data_of (data_bits h) text)) deeds.Nothing (other_receives link l e x (find_passes (receives_on l) x es f)) tt)))

  backs_by : (m n : ℕ) (r : Receiver) (x : Entry) → receives_on link x ≡ true → (v : Bool) → (nat_le m x.allocation.messages && nat_le n x.allocation.bits) ≡ v
      → (receivers.is_open (named name x) r && holds r.allocation m n) ≡ v
      → Receives name link (returns m n (Open x)) r (receivers.takes_back m n (Some (named name x)) r)
  backs_by m n r x on true e g = rw (e, g) (record { taken = λ k. refl; granted = λ k. refl; returned = λ k. for_same x r.returned (λ a. counters.added a m n) on k })
  backs_by m n r x on false e g = rw (e, g) (record { taken = λ k. refl; granted = λ k. refl; returned = λ k. refl })

  ret_by : (l m n said : ℕ) (es : List Entry) (r : Receiver) → HasReceiver name link es r
      → Receives name link (returns m n (found_in (find (receives_on l) es))) r (all_received (if l == link then receivers.Hear (words.Ret said m n) ∷ [] else []) r)
  ret_by l m n said es r has = by (l == link) refl where
    here : Receives name link (returns m n (found_in (find (receives_on link) es))) r (receivers.takes_back m n r.end r)
    here =
        at_link name link es r (λ w q. Receives name link (returns m n w) r q) (λ o. receivers.takes_back m n o r)
        (off_by deeds.Nothing r tt) (off_by deeds.Nothing r tt) refl
        (λ c shut. rw shut refl)
        (λ x f one i o. backs_by m n r x (find_passes (receives_on link) x es f) (nat_le m x.allocation.messages && nat_le n x.allocation.bits) refl (back_same m n (named name x) x r i o)) has

    by : (v : Bool) → (l == link) ≡ v → Receives name link (returns m n (found_in (find (receives_on l) es))) r (all_received (if v then receivers.Hear (words.Ret said m n) ∷ [] else []) r)
    by true e = subst (λ (k : ℕ). Receives name link (returns m n (found_in (find (receives_on k) es))) r (receivers.takes_back m n r.end r)) (sym (eqb-true l link e)) here
    by false e = off_by (returns m n (found_in (find (receives_on l) es))) r
        (off_found (returns m n) (find (receives_on l) es) tt tt
        (λ x f. off_if (nat_le m x.allocation.messages && nat_le n x.allocation.bits) (deeds.Returns x m n) deeds.Nothing (other_receives link l e x (find_passes (receives_on l) x es f)) tt))

  grant_by : (m n : ℕ) (e : Entry) (r : Receiver) → Receives name link (deeds.Grants e m n) r (all_received (on_link link e (receivers.Grant (named name e) m n ∷ [])) r)
  grant_by m n e r = by (receives_on link e) refl where
    by : (v : Bool) → receives_on link e ≡ v → Receives name link (deeds.Grants e m n) r (all_received (if v then receivers.Grant (named name e) m n ∷ [] else []) r)
    by true on = record { taken = λ k. refl; granted = λ k. for_same e r.granted (λ a. counters.added a m n) on k; returned = λ k. refl }
    by false on = off_by _ r on

  -- ---- each call

  hear_by : (stamp said : ℕ) (c : Command) (q : PairState) (listening : List Listener) (r : Receiver) → HasReceiver name link q.entries r
      → Receives name link (hears stamp c q) r (all_received (received_by name link said c (desk_of q listening)) r)
  hear_by stamp said (command.Rts receive send l) q listening r has =
      by_moves (hears stamp (command.Rts receive send l) q) [] r
      (plain_if (list_any (sends_on l) q.entries) deeds.Nothing (matches send receive (asked_on_link stamp l) q.entries (entry_at send receive q.entries)) tt (plain_matches send receive (asked_on_link stamp l) q.entries (entry_at send receive q.entries))) tt
  hear_by stamp said (command.Str send receive size) q listening r has =
      by_moves (hears stamp (command.Str send receive size) q) (str_received link (name receive send) size (listener_on receive listening) (free_link q.entries) (entry_at receive send q.entries)) r
      (plain_matches receive send (asked_with_size stamp size) q.entries (entry_at receive send q.entries))
      (str_still (name receive send) size (listener_on receive listening) (free_link q.entries) (entry_at receive send q.entries))
  hear_by stamp said (command.Cls foreign own) q listening r has =
      by_moves (hears stamp (command.Cls foreign own) q) (cls_received link (name own foreign) (entry_at own foreign q.entries)) r (plain_closings q.busy own foreign q.entries (entry_at own foreign q.entries)) (cls_still (name own foreign) (entry_at own foreign q.entries))
  hear_by stamp said (command.Ret l m n) q listening r has = ret_by l m n said q.entries r has
  hear_by stamp said c q listening r has = off_by deeds.Nothing r tt

  on_still : (e : Entry) (m : receivers.Move) → IsStill m → AreStill (on_link link e (m ∷ []))
  on_still e m s = still_if (receives_on link e) (m ∷ []) [] (s, tt) tt

  pub receiver_by : (c : Call) (q : PairState) (listening : List Listener) (r : Receiver) → HasReceiver name link q.entries r → Receives name link (deed_of c q) r (all_received (received_at name link c q listening) r)
  receiver_by (Hears stamp said c) q listening r has = hear_by stamp said c q listening r has
  receiver_by (Takes l text) q listening r has = data_by l text q.entries r has (header_of text) refl
  receiver_by (Says stamp c) q listening r has = by_moves (says stamp c q) (received_out name link c q.entries) r (plain_says stamp c q) (out_still c q.entries)
  receiver_by (Sends stamp e size count) q listening r has = off_by (deeds.Leaves e (take (size * count) e.bits)) r tt
  receiver_by (OpensReceiver own foreign) q listening r has = by_moves deeds.Nothing (asks_for link (name own foreign) (free_link q.entries)) r tt (asks_still (name own foreign) (free_link q.entries))
  receiver_by (Grants socket m n e) q listening r has = grant_by m n e r
  receiver_by (AsksBack socket m n e) q listening r has = by_moves deeds.Nothing (on_link link e (receivers.AskBack (named name e) m n ∷ [])) r tt (on_still e (receivers.AskBack (named name e) m n) tt)
  receiver_by (Closes socket e) q listening r has = by_moves deeds.Nothing (on_link link e (receivers.Close (named name e) ∷ [])) r tt (on_still e (receivers.Close (named name e)) tt)
  receiver_by c q listening r has = off_by deeds.Nothing r tt
