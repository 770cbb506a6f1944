-- A call asks only for connections of which no CLS was said.
use Rattle.pair_keeps_streams.proofs.Common.{◌≡◌, ℕ, ◌<◌, ◌==◌, ◌&&◌, Bool, true, false, if◌then◌else◌, List, [], ◌∷◌, length, Option, Some, None, is_some, refl, sym, subst, ◌∙◌, arith, ne_eqb, data_bits, Command, DataHeader, for, covers, holds, is_size, Receiver, Sender, data_of, entry_at, receives_on, PairState, Closing, Entry, Listener, all_received, received_close, received_gone, received_open, Call, Hears, Takes, Says, OpensReceiver, Grants, AsksBack, Closes, IsTelling, IsAllowed, received_at, answers_str, asked_received, asks_for, closed_received, cls_received, data_received, str_received, named, name_of, counted, has_said, said_of}
use Rattle.ncp_control.specs.declared.command.Command.TheVariants as command
use Rattle.stream_law.specs.Words as words
use Rattle.stream_law.specs.Receivers as receivers
use Rattle.host_pairs.specs.declared.entry.Closing.TheVariants as closing
use Rattle.pair_keeps_streams.proofs.Spoken.{AskedSame}

-- moves that ask for such connections only
abbrev pub Asks : (ℕ → Type 0) → receivers.Move → Type 0
Asks P (receivers.Ask c) = P c
Asks P m = Unit {0}

abbrev AllAsk : (ℕ → Type 0) → List receivers.Move → Type 0
AllAsk P [] = Unit {0}
AllAsk P (m ∷ ms) = Asks P m × AllAsk P ms

module _ (P : ℕ → Type 0) (c : ℕ) (out : P c → ⊥) where
  back_asked : (m n : ℕ) (o : Option ℕ) (r : Receiver) → r.asked c ≡ (receivers.takes_back m n o r).asked c
  back_asked m n None r = refl
  back_asked m n (Some k) r = by (receivers.is_open k r && holds r.allocation m n) refl where
    by : (v : Bool) → (receivers.is_open k r && holds r.allocation m n) ≡ v → r.asked c ≡ (receivers.takes_back m n (Some k) r).asked c
    by true e = rw e refl
    by false e = rw e refl

  pub take_asked : (z : ℕ) (bits : List Bool) (o : Option ℕ) (r : Receiver) → r.asked c ≡ (receivers.takes z bits o r).asked c
  take_asked z bits None r = refl
  take_asked z bits (Some k) r = by (receivers.is_open k r && is_size z (r.size k) && covers r.allocation (length bits)) refl where
    by : (v : Bool) → (receivers.is_open k r && is_size z (r.size k) && covers r.allocation (length bits)) ≡ v → r.asked c ≡ (receivers.takes z bits (Some k) r).asked c
    by true e = rw e refl
    by false e = rw e refl

  hear_asked : (w : words.Word) (r : Receiver) → r.asked c ≡ (receivers.hears w r).asked c
  hear_asked (words.Ret k m n) r = back_asked m n r.end r
  hear_asked w r = refl

  move_asked : (m : receivers.Move) (r : Receiver) → Asks P m → r.asked c ≡ (receivers.moved m r).asked c
  move_asked (receivers.Ask k) r p = let other : (c == k) ≡ false = ne_eqb c k (λ e. out (subst P (sym e) p)) in rw other refl
  move_asked (receivers.Hear w) r p = hear_asked w r
  move_asked (receivers.Take z bits) r p = take_asked z bits r.end r
  move_asked m r p = refl

  moves_asked : (ms : List receivers.Move) (r : Receiver) → AllAsk P ms → r.asked c ≡ (all_received ms r).asked c
  moves_asked [] r p = refl
  moves_asked (m ∷ ms) r p = move_asked m r p.0 ∙ moves_asked ms (receivers.moved m r) p.1

-- ---- each call

module _ (P : ℕ → Type 0) where
  if_ask : (v : Bool) (ms : List receivers.Move) → AllAsk P ms → AllAsk P (if v then ms else [])
  if_ask true ms a = a
  if_ask false ms a = tt

  open_ask : (v : Bool) (c : ℕ) → AllAsk P (received_open v c)
  open_ask true c = (tt, tt)
  open_ask false c = tt

  gone_ask : (v : Bool) (c : ℕ) → AllAsk P (received_gone v c)
  gone_ask true c = (tt, tt)
  gone_ask false c = tt

  close_ask : (v : Closing) (c : ℕ) → AllAsk P (received_close v c)
  close_ask closing.Queued c = tt
  close_ask v c = (tt, tt)

  asks_ask : (link c : ℕ) (o : Option ℕ) → P c → AllAsk P (asks_for link c o)
  asks_ask link c None p = tt
  asks_ask link c (Some other) p = if_ask _ (receivers.Ask c ∷ []) (p, tt)

  answers_ask : (link c : ℕ) (l : Option Listener) (o : Option ℕ) → P c → AllAsk P (answers_str link c l o)
  answers_ask link c None o p = tt
  answers_ask link c (Some l) None p = tt
  answers_ask link c (Some l) (Some other) p = if_ask _ (receivers.Ask c ∷ []) (p, tt)

  str_ask : (link c z : ℕ) (l : Option Listener) (free : Option ℕ) (o : Option Entry) → (o ≡ None → P c) → AllAsk P (str_received link c z l free o)
  str_ask link c z l free None p = (tt, answers_ask link c l free (p refl))
  str_ask link c z l free (Some e) p = by (is_some e.partner) where
    by : (v : Bool) → AllAsk P (if v then [] else receivers.Hear (words.Str c z) ∷ received_open (receives_on link e && is_some e.asked) c)
    by true = tt
    by false = (tt, open_ask _ c)

  cls_ask : (link c : ℕ) (o : Option Entry) → AllAsk P (cls_received link c o)
  cls_ask link c None = tt
  cls_ask link c (Some e) = if_ask _ (receivers.Hear (words.Cls c) ∷ (if receives_on link e then received_close e.closing c else [])) (tt, if_ask (receives_on link e) (received_close e.closing c) (close_ask e.closing c))

  data_ask : (link l : ℕ) (text : List Bool) (o : Option DataHeader) → AllAsk P (data_received link l text o)
  data_ask link l text None = tt
  data_ask link l text (Some h) = by (l == link) where
    by : (v : Bool) → AllAsk P (if v then receivers.Take h.size (data_of (data_bits h) text) ∷ [] else [])
    by true = (tt, tt)
    by false = tt

  asked_ask : (name : ℕ → ℕ → ℕ) (link : ℕ) (o : Option Entry) → AllAsk P (asked_received name link o)
  asked_ask name link None = tt
  asked_ask name link (Some e) = if_ask (receives_on link e) (received_open (is_some e.partner) (named name e)) (open_ask (is_some e.partner) (named name e))

  closed_ask : (name : ℕ → ℕ → ℕ) (link : ℕ) (o : Option Entry) → AllAsk P (closed_received name link o)
  closed_ask name link None = tt
  closed_ask name link (Some e) = if_ask (receives_on link e) (received_gone e.partner_closed (named name e)) (gone_ask e.partner_closed (named name e))

  module _ (name : ℕ → ℕ → ℕ) (link : ℕ) (q : PairState) (listening : List Listener) (new : (own foreign : ℕ) → entry_at own foreign q.entries ≡ None → P (name own foreign)) where
    heard_ask : (stamp said : ℕ) (c : Command) → AllAsk P (received_at name link (Hears stamp said c) q listening)
    heard_ask stamp said (command.Str send receive z) = str_ask link _ z _ _ _ (new receive send)
    heard_ask stamp said (command.Cls foreign own) = cls_ask link (name own foreign) (entry_at own foreign q.entries)
    heard_ask stamp said (command.Ret l m n) = if_ask _ (receivers.Hear (words.Ret said m n) ∷ []) (tt, tt)
    heard_ask stamp said c = tt

    out_ask : (stamp : ℕ) (c : Command) → AllAsk P (received_at name link (Says stamp c) q listening)
    out_ask stamp (command.Rts receive send l) = asked_ask name link (entry_at receive send q.entries)
    out_ask stamp (command.Str send receive z) = asked_ask name link (entry_at send receive q.entries)
    out_ask stamp (command.Cls own foreign) = closed_ask name link (entry_at own foreign q.entries)
    out_ask stamp c = tt

    call_ask : (k : Call) (s : Sender) → IsAllowed link k q s → AllAsk P (received_at name link k q listening)
    call_ask (Hears stamp said c) s a = heard_ask stamp said c
    call_ask (Takes l text) s a = data_ask link l text _
    call_ask (Says stamp c) s a = out_ask stamp c
    call_ask (OpensReceiver own foreign) s a = asks_ask link _ _ (new own foreign a.1)
    call_ask (Grants socket m n e) s a = if_ask _ (receivers.Grant (named name e) m n ∷ []) (tt, tt)
    call_ask (AsksBack socket m n e) s a = if_ask _ (receivers.AskBack (named name e) m n ∷ []) (tt, tt)
    call_ask (Closes socket e) s a = if_ask _ (receivers.Close (named name e) ∷ []) (tt, tt)
    call_ask k s a = tt

-- ---- no CLS was said of it

module _ (number : ℕ → ℕ → ℕ → ℕ) (tells : IsTelling number) (link : ℕ) (gone : ℕ → ℕ → ℕ) (q : PairState) (listening : List Listener) (k : Call) (s : Sender) (allowed : IsAllowed link k q s) (r : Receiver) where
  -- sockets without an end
  abbrev IsNone : ℕ → Type 0
  IsNone c = (own : ℕ) × (foreign : ℕ) × (c ≡ number own foreign (gone own foreign)) × (entry_at own foreign q.entries ≡ None)

  none_said : (own foreign g : ℕ) → g < said_of gone q.entries own foreign → IsNone (number own foreign g) → ⊥
  none_said own foreign g l n =
      let a : own ≡ n.0 = tells.own own foreign g n.0 n.1 (gone n.0 n.1) n.2 in
      let b : foreign ≡ n.1 = tells.foreign own foreign g n.0 n.1 (gone n.0 n.1) n.2 in
      let c : g ≡ gone n.0 n.1 = tells.gone own foreign g n.0 n.1 (gone n.0 n.1) n.2 in
      let m : g < said_of gone q.entries n.0 n.1 = subst (λ (i : ℕ). g < said_of gone q.entries n.0 i) b (subst (λ (i : ℕ). g < said_of gone q.entries i foreign) a l) in
      absurd (less _ n.3 _ c m) where
        less : (o : Option Entry) → o ≡ None → (h : ℕ) → g ≡ h → g < counted (has_said o) h → ⊥
        less None e h c m = absurd (omega (arith, c, m))
        less (Some y) e h c m = absurd (cc)

  pub news : AskedSame number link r.asked (all_received (received_at (name_of number gone) link k q listening) r).asked (said_of gone q.entries)
  news own foreign g l =
      moves_asked IsNone (number own foreign g) (none_said own foreign g l) _ r
      (call_ask IsNone (name_of number gone) link q listening (λ o f e. (o, f, refl, e)) k s allowed)
