-- What the law of a sender has of each call of a host's program: only bytes that go out count.
use Rattle.world_keeps_streams.proofs.Common.{eqb-true, list_any, Allocation, Command, DataHeader, data_bits, header_of, for, with_end, data_of, is_acceptable, desk_of, listener_on, PairState, asked_at, freed, Entry, Listener}
use Rattle.std.proofs.Common.{◌≡◌, ℕ, ◌*◌, ◌==◌, ◌&&◌, not, Bool, false, nat_le, if◌then◌else◌, List, [], ◌∷◌, ◌++◌, take, map, find, Option, Some, None, is_some, refl, ap, sym, ◌∙◌, true}
use Rattle.host_pairs.specs.Commands.{Unconnected, Ending, Open, asked_on_link, asked_with_size, found_in, Found}
use Rattle.host_pairs.specs.Entries.{called_off, changed_at, closed_by_partner, closed_when, entry_at, is_ending, is_open, is_receiving, must_close, receives_on, sends_on}
use Rattle.host_keeps_streams.specs.Closings.{all_sent, sent_open}
use Rattle.host_keeps_streams.specs.Histories.{Hears, Takes, Says, Sends, Answered, OpensSender, Grants, Closes, sent_at, Call}
use Rattle.ncp_control.specs.Allocation as counters
use Rattle.ncp_control.specs.declared.command.Command.TheVariants as command
use Rattle.stream_law.specs.Words as words
use Rattle.stream_law.specs.Senders as senders
use Rattle.stream_law.specs.Senders.{Sender}
use Rattle.host_keeps_streams.specs.Moves.{asked_sent, bytes_sent, closes, cls_sent as cls_heard, hears_rts, of_end, rts_sent, sent_by, sent_out, told_on}
use Rattle.host_keeps_streams.specs.Names.{named}
use Rattle.world_keeps_streams.proofs.Deeds.Effects as deeds
use Rattle.world_keeps_streams.proofs.Deeds.Effects.{Deed, at_sender}
use Rattle.world_keeps_streams.proofs.Deeds.Kinds.{arrives, arrives_if, closings, deed_of, hears, matches, opens, opens_by, returns, says, sweeps}

-- ---- moves that send nothing

abbrev pub IsMute : senders.Move → Type 0
IsMute (senders.Send c z bits) = ⊥
IsMute m = Unit {0}

abbrev AreMute : List senders.Move → Type 0
AreMute [] = Unit {0}
AreMute (m ∷ ms) = IsMute m × AreMute ms

mute_if : (v : Bool) (x y s : Sender) (k : ℕ) → x.sent k ≡ s.sent k → y.sent k ≡ s.sent k → (if v then x else y).sent k ≡ s.sent k
mute_if true x y s k p q = p
mute_if false x y s k p q = q

mute_counts : (o : Option ℕ) (f : Allocation → Allocation) (s : Sender) (k : ℕ) → (senders.with_allocation o f s).sent k ≡ s.sent k
mute_counts None f s k = refl
mute_counts (Some c) f s k = mute_if (senders.is_open c s) (record s { allocation = f s.allocation }) s s k refl refl

mute_begins : (c : ℕ) (o : Option ℕ) (s : Sender) (k : ℕ) → (senders.begins c o s).sent k ≡ s.sent k
mute_begins c None s k = refl
mute_begins c (Some d) s k = refl

mute_shuts : (c : ℕ) (o : Option ℕ) (s : Sender) (k : ℕ) → (senders.shuts c o s).sent k ≡ s.sent k
mute_shuts c None s k = refl
mute_shuts c (Some own) s k =
    mute_if (own == c) (if s.closed c then record s { end = None } else record s { shut = true }) s s k
    (mute_if (s.closed c) (record s { end = None }) (record s { shut = true }) s k refl refl) refl

mute_one : (m : senders.Move) (s : Sender) (k : ℕ) → IsMute m → (senders.moved m s).sent k ≡ s.sent k
mute_one (senders.Send c z bits) s k i = absurd i
mute_one (senders.Hear (words.Rts c)) s k i = mute_begins c s.end s k
mute_one (senders.Hear (words.Str c z)) s k i = refl
mute_one (senders.Hear (words.All c m n)) s k i = mute_counts s.end _ s k
mute_one (senders.Hear (words.Gvb c m n)) s k i = mute_counts s.end _ s k
mute_one (senders.Hear (words.Ret c m n)) s k i = refl
mute_one (senders.Hear (words.Cls c)) s k i = mute_shuts c s.end s k
mute_one m s k i = refl

mute_all : (ms : List senders.Move) (s : Sender) (k : ℕ) → AreMute ms → (all_sent ms s).sent k ≡ s.sent k
mute_all [] s k i = refl
mute_all (m ∷ ms) s k i = mute_all ms (senders.moved m s) k i.1 ∙ mute_one m s k i.0

-- ---- deeds that send nothing

abbrev IsQuiet : Deed → Type 0
IsQuiet (deeds.Leaves e bits) = ⊥
IsQuiet d = Unit {0}

quiet_if : (v : Bool) (d e : Deed) → IsQuiet d → IsQuiet e → IsQuiet (if v then d else e)
quiet_if true d e p q = p
quiet_if false d e p q = q

quiet_opens : (o : Option Entry) → IsQuiet (opens o)
quiet_opens None = tt
quiet_opens (Some e) = by e.asked e.partner where
  by : (u v : Option ℕ) → IsQuiet (opens_by e u v)
  by None v = tt
  by (Some u) None = tt
  by (Some u) (Some v) = quiet_if (is_ending e) deeds.Nothing (deeds.Opens e u v) tt tt

quiet_matches : (own foreign : ℕ) (change : Entry → Entry) (es : List Entry) (o : Option Entry) → IsQuiet (matches own foreign change es o)
quiet_matches own foreign change es None = tt
quiet_matches own foreign change es (Some e) = quiet_if (is_some e.partner) deeds.Nothing (opens (entry_at own foreign (changed_at own foreign change es))) tt (quiet_opens (entry_at own foreign (changed_at own foreign change es)))

quiet_closings : (busy : List ℕ) (own foreign : ℕ) (es : List Entry) (o : Option Entry) → IsQuiet (closings busy own foreign es o)
quiet_closings busy own foreign es None = tt
quiet_closings busy own foreign es (Some e) = quiet_if e.partner_closed deeds.Nothing _ tt tt

-- what is done at the open end that is found, if there is one
quiet_found : (f : Found → Deed) (o : Option Entry) → IsQuiet (f Unconnected) → IsQuiet (f Ending) → ((e : Entry) → IsQuiet (f (Open e))) → IsQuiet (f (found_in o))
quiet_found f None u v w = u
quiet_found f (Some e) u v w = by (is_open e) (is_ending e) where
  by : (x y : Bool) → IsQuiet (f (if x then Open e else (if y then Ending else Unconnected)))
  by true y = w e
  by false true = v
  by false false = u

quiet_arrives : (text : List Bool) (e : Entry) (o : Option DataHeader) → IsQuiet (arrives_if e text o)
quiet_arrives text e None = tt
quiet_arrives text e (Some h) = quiet_if (is_acceptable e h) (deeds.Arrives e (data_of (data_bits h) text)) deeds.Nothing tt tt

quiet_hears : (stamp : ℕ) (c : Command) (q : PairState) → IsQuiet (hears stamp c q)
quiet_hears stamp (command.Rts receive send l) q =
    quiet_if (list_any (sends_on l) q.entries) deeds.Nothing (matches send receive (asked_on_link stamp l) q.entries (entry_at send receive q.entries)) tt (quiet_matches send receive (asked_on_link stamp l) q.entries (entry_at send receive q.entries))
quiet_hears stamp (command.Str send receive size) q = quiet_matches receive send (asked_with_size stamp size) q.entries (entry_at receive send q.entries)
quiet_hears stamp (command.Cls foreign own) q = quiet_closings q.busy own foreign q.entries (entry_at own foreign q.entries)
quiet_hears stamp (command.Ret l m n) q =
    quiet_found (returns m n) (find (receives_on l) q.entries) tt tt (λ e. quiet_if (nat_le m e.allocation.messages && nat_le n e.allocation.bits) (deeds.Returns e m n) deeds.Nothing tt tt)
quiet_hears stamp c q = tt

quiet_says : (stamp : ℕ) (c : Command) (q : PairState) → IsQuiet (says stamp c q)
quiet_says stamp (command.Rts receive send l) q = quiet_opens _
quiet_says stamp (command.Str send receive size) q = quiet_opens _
quiet_says stamp c q = tt

-- ---- a sender

mute_append : (xs ys : List senders.Move) → AreMute xs → AreMute ys → AreMute (xs ++ ys)
mute_append [] ys p q = q
mute_append (x ∷ xs) ys p q = (p.0, mute_append xs ys p.1 q)

choose : (v : Bool) (xs ys : List senders.Move) → AreMute xs → AreMute ys → AreMute (if v then xs else ys)
choose true xs ys p q = p
choose false xs ys p q = q

module _ (name : ℕ → ℕ → ℕ) (link : ℕ) where
  open_mute : (v : Bool) (c : ℕ) → AreMute (sent_open v c)
  open_mute true c = (tt, tt)
  open_mute false c = tt

  end_mute : (c : ℕ) (o : Option ℕ) (ms : List senders.Move) → AreMute ms → AreMute (of_end c o ms)
  end_mute c None ms i = tt
  end_mute c (Some own) ms i = choose _ ms [] i tt

  closes_mute : (busy : List ℕ) (es : List Entry) → AreMute (closes name busy es)
  closes_mute busy [] = tt
  closes_mute busy (e ∷ es) = choose (must_close busy e && not (is_receiving e)) (senders.Close (named name e) ∷ closes name busy es) (closes name busy es) (tt, closes_mute busy es) (closes_mute busy es)

  rts_mute : (here : Bool) (c : ℕ) → AreMute (hears_rts here c)
  rts_mute true c = (tt, tt)
  rts_mute false c = tt

  asks_mute : (here : Bool) (c : ℕ) (l : Option Listener) (o : Option Entry) → AreMute (rts_sent here c l o)
  asks_mute here c None None = mute_append _ _ (rts_mute here c) (tt, tt)
  asks_mute here c (Some l) None = (tt, rts_mute here c)
  asks_mute here c None (Some e) = choose _ [] _ tt (mute_append _ _ (rts_mute here c) (open_mute _ c))
  asks_mute here c (Some l) (Some e) = choose _ [] _ tt (mute_append _ _ (rts_mute here c) (open_mute _ c))

  cls_mute : (busy : List ℕ) (own foreign : ℕ) (es : List Entry) (s : Sender) (o : Option Entry) → AreMute (cls_heard name busy own foreign es s o)
  cls_mute busy own foreign es s None = tt
  cls_mute busy own foreign es s (Some e) =
      choose e.partner_closed [] ((if is_receiving e then [] else of_end (named name e) s.end (senders.Hear (words.Cls (named name e)) ∷ [])) ++ closes name busy (changed_at own foreign closed_by_partner es)) tt
      (mute_append (if is_receiving e then [] else of_end (named name e) s.end (senders.Hear (words.Cls (named name e)) ∷ [])) (closes name busy (changed_at own foreign closed_by_partner es))
      (choose (is_receiving e) [] (of_end (named name e) s.end (senders.Hear (words.Cls (named name e)) ∷ [])) tt (end_mute (named name e) s.end (senders.Hear (words.Cls (named name e)) ∷ []) (tt, tt)))
      (closes_mute busy (changed_at own foreign closed_by_partner es)))

  hear_mute : (said : ℕ) (c : Command) (q : PairState) (listening : List Listener) (s : Sender) → AreMute (sent_by name link said q.busy c (desk_of q listening) s)
  hear_mute said (command.Rts receive send l) q listening s =
      choose (list_any (sends_on l) q.entries) [] (rts_sent (l == link) (name send receive) (listener_on send listening) (entry_at send receive q.entries)) tt (asks_mute (l == link) (name send receive) (listener_on send listening) (entry_at send receive q.entries))
  hear_mute said (command.Cls foreign own) q listening s = cls_mute q.busy own foreign q.entries s (entry_at own foreign q.entries)
  hear_mute said (command.All l m n) q listening s = choose (l == link) (senders.Hear (words.All said m n) ∷ []) [] (tt, tt) tt
  hear_mute said (command.Gvb l m n) q listening s = choose (l == link) (senders.Hear (words.Gvb said m n) ∷ []) [] (tt, tt) tt
  hear_mute said c q listening s = tt

  asked_mute : (s : Sender) (o : Option Entry) → AreMute (asked_sent name link s o)
  asked_mute s None = tt
  asked_mute s (Some e) = choose _ _ [] (end_mute _ s.end _ (open_mute _ _)) tt

  out_mute : (c : Command) (es : List Entry) (s : Sender) → AreMute (sent_out name link c es s)
  out_mute (command.Rts receive send l) es s = asked_mute s (entry_at receive send es)
  out_mute (command.Str send receive size) es s = asked_mute s (entry_at send receive es)
  out_mute c es s = tt

  quiet_by : (d : Deed) (ms : List senders.Move) (s : Sender) → IsQuiet d → AreMute ms → deeds.Sends name link d s (all_sent ms s)
  quiet_by (deeds.Leaves e bits) ms s q i k = absurd q
  quiet_by d ms s q i k = mute_all ms s k i

  told_mute : (l : ℕ) → AreMute (told_on link l)
  told_mute l = choose (l == link) (senders.Told ∷ []) [] (tt, tt) tt

  send_by : (e : Entry) (size count : ℕ) (s : Sender) → deeds.Sends name link (deeds.Leaves e (take (size * count) e.bits)) s (all_sent (bytes_sent name link e size count) s)
  send_by e size count s k = by (sends_on link e) refl where
    by : (v : Bool) → sends_on link e ≡ v → (all_sent (if v then senders.Send (named name e) size (take (size * count) e.bits) ∷ [] else []) s).sent k ≡ (if at_sender name link k e then s.sent k ++ take (size * count) e.bits ∷ [] else s.sent k)
    by true on = here (k == named name e) refl where
      here : (v : Bool) → (k == named name e) ≡ v → for (named name e) (s.sent (named name e) ++ take (size * count) e.bits ∷ []) s.sent k ≡ (if at_sender name link k e then s.sent k ++ take (size * count) e.bits ∷ [] else s.sent k)
      here true f = let t : k ≡ named name e = eqb-true k (named name e) f in rw (on, f) (ap (λ (n : ℕ). s.sent n ++ take (size * count) e.bits ∷ []) (sym t))
      here false f = rw (on, f) refl
    by false on = rw on refl

  pub sender_by : (c : Call) (q : PairState) (listening : List Listener) (s : Sender) → deeds.Sends name link (deed_of c q) s (all_sent (sent_at name link c q listening s) s)
  sender_by (Hears stamp said c) q listening s = quiet_by (hears stamp c q) (sent_by name link said q.busy c (desk_of q listening) s) s (quiet_hears stamp c q) (hear_mute said c q listening s)
  sender_by (Takes l text) q listening s = quiet_by (arrives text (found_in (find (receives_on l) q.entries))) [] s (quiet_found (arrives text) (find (receives_on l) q.entries) tt tt (λ e. quiet_arrives text e (header_of text))) tt
  sender_by (Says stamp c) q listening s = quiet_by (says stamp c q) (sent_out name link c q.entries s) s (quiet_says stamp c q) (out_mute c q.entries s)
  sender_by (Sends stamp e size count) q listening s = send_by e size count s
  sender_by (Answered l) q listening s = quiet_by deeds.Nothing (told_on link l ++ closes name (freed l q).busy q.entries) s tt (mute_append (told_on link l) (closes name (freed l q).busy q.entries) (told_mute l) (closes_mute (freed l q).busy q.entries))
  sender_by (OpensSender own foreign size) q listening s = quiet_by deeds.Nothing (senders.Ask (name own foreign) size ∷ []) s tt (tt, tt)
  sender_by (Grants socket m n e) q listening s = quiet_by (deeds.Grants e m n) [] s tt tt
  sender_by (Closes socket e) q listening s = quiet_by deeds.Nothing (closes name q.busy (with_end socket called_off q).entries) s tt (closes_mute q.busy (with_end socket called_off q).entries)
  sender_by c q listening s = quiet_by deeds.Nothing [] s tt tt
