-- What a host has asked for on a link, by each call.
use Rattle.pair_keeps_streams.proofs.Common.{◌≡◌, ◌⊎◌, ℕ, Bool, true, false, ◌&&◌, if◌then◌else◌, List, [], ◌∷◌, length, Option, Some, None, is_some, refl, ◌∙◌, inl, inr, eqb-true, data_bits, Command, DataHeader, covers, for, holds, is_size, Receiver, data_of, entry_at, receives_on, PairState, Closing, Entry, Listener, all_received, received_close, received_gone, received_open, answers_str, asked_received, asks_for, closed_received, closes_on, cls_received, data_received, received_out, str_received, named}
use Rattle.ncp_control.specs.declared.command.Command.TheVariants as command
use Rattle.stream_law.specs.Words as words
use Rattle.stream_law.specs.Receivers as receivers
use Rattle.host_pairs.specs.declared.entry.Closing.TheVariants as closing

-- ---- moves that ask for nothing

abbrev pub AsksNone : receivers.Move → Type 0
AsksNone (receivers.Ask c) = ⊥
AsksNone m = Unit {0}

abbrev pub AllAskNone : List receivers.Move → Type 0
AllAskNone [] = Unit {0}
AllAskNone (m ∷ ms) = AsksNone m × AllAskNone ms

returned_asked : (m n : ℕ) (o : Option ℕ) (r : Receiver) (k : ℕ) → (receivers.takes_back m n o r).asked k ≡ r.asked k
returned_asked m n None r k = refl
returned_asked m n (Some c) r k = by (receivers.is_open c r && holds r.allocation m n) refl where
  by : (v : Bool) → (receivers.is_open c r && holds r.allocation m n) ≡ v → (receivers.takes_back m n (Some c) r).asked k ≡ r.asked k
  by true t = rw t refl
  by false t = rw t refl

taken_asked : (z : ℕ) (bits : List Bool) (o : Option ℕ) (r : Receiver) (k : ℕ) → (receivers.takes z bits o r).asked k ≡ r.asked k
taken_asked z bits None r k = refl
taken_asked z bits (Some c) r k = by (receivers.is_open c r && is_size z (r.size c) && covers r.allocation (length bits)) refl where
  by : (v : Bool) → (receivers.is_open c r && is_size z (r.size c) && covers r.allocation (length bits)) ≡ v → (receivers.takes z bits (Some c) r).asked k ≡ r.asked k
  by true t = rw t refl
  by false t = rw t refl

word_asked : (w : words.Word) (r : Receiver) (k : ℕ) → (receivers.hears w r).asked k ≡ r.asked k
word_asked (words.Ret c m n) r k = returned_asked m n r.end r k
word_asked w r k = refl

moved_asked : (m : receivers.Move) (r : Receiver) → AsksNone m → (k : ℕ) → (receivers.moved m r).asked k ≡ r.asked k
moved_asked (receivers.Ask c) r a k = absurd a
moved_asked (receivers.Hear w) r a k = word_asked w r k
moved_asked (receivers.Take z bits) r a k = taken_asked z bits r.end r k
moved_asked m r a k = refl

pub same_asked : (ms : List receivers.Move) (r : Receiver) → AllAskNone ms → (k : ℕ) → (all_received ms r).asked k ≡ r.asked k
same_asked [] r a k = refl
same_asked (m ∷ ms) r a k = same_asked ms (receivers.moved m r) a.1 k ∙ moved_asked m r a.0 k

-- ---- calls that ask for nothing

open_none : (v : Bool) (c : ℕ) → AllAskNone (received_open v c)
open_none true c = (tt, tt)
open_none false c = tt

close_none : (v : Closing) (c : ℕ) → AllAskNone (received_close v c)
close_none closing.Queued c = tt
close_none v c = (tt, tt)

gone_none : (v : Bool) (c : ℕ) → AllAskNone (received_gone v c)
gone_none true c = (tt, tt)
gone_none false c = tt

pub if_none : (v : Bool) (ms : List receivers.Move) → AllAskNone ms → AllAskNone (if v then ms else [])
if_none true ms a = a
if_none false ms a = tt

not_none : (v : Bool) (ms : List receivers.Move) → AllAskNone ms → AllAskNone (if v then [] else ms)
not_none true ms a = tt
not_none false ms a = a

module _ (name : ℕ → ℕ → ℕ) (link : ℕ) where
  -- an STR for an end that is there
  pub str_none : (c z : ℕ) (listener : Option Listener) (free : Option ℕ) (e : Entry) → AllAskNone (str_received link c z listener free (Some e))
  str_none c z listener free e = not_none _ (receivers.Hear (words.Str c z) ∷ received_open (receives_on link e && is_some e.asked) c) (tt, open_none _ c)

  pub cls_none : (c : ℕ) (o : Option Entry) → AllAskNone (cls_received link c o)
  cls_none c None = tt
  cls_none c (Some e) = if_none _ (receivers.Hear (words.Cls c) ∷ closes_on link c e) (tt, if_none (receives_on link e) (received_close e.closing c) (close_none e.closing c))

  pub data_none : (l : ℕ) (text : List Bool) (o : Option DataHeader) → AllAskNone (data_received link l text o)
  data_none l text None = tt
  data_none l text (Some h) = if_none _ (receivers.Take h.size (data_of (data_bits h) text) ∷ []) (tt, tt)

  asked_none : (o : Option Entry) → AllAskNone (asked_received name link o)
  asked_none None = tt
  asked_none (Some e) = if_none (receives_on link e) (received_open (is_some e.partner) (named name e)) (open_none (is_some e.partner) (named name e))

  closed_none : (o : Option Entry) → AllAskNone (closed_received name link o)
  closed_none None = tt
  closed_none (Some e) = if_none (receives_on link e) (received_gone e.partner_closed (named name e)) (gone_none e.partner_closed (named name e))

  pub out_none : (c : Command) (es : List Entry) → AllAskNone (received_out name link c es)
  out_none (command.Rts receive send l) es = asked_none (entry_at receive send es)
  out_none (command.Str send receive size) es = asked_none (entry_at send receive es)
  out_none (command.Cls own foreign) es = closed_none (entry_at own foreign es)
  out_none c es = tt

  -- ---- calls that ask

  -- what is asked for is one connection, if at all
  pub asked_if : (v : Bool) (c : ℕ) (r : Receiver) (k : ℕ) → (all_received (if v then receivers.Ask c ∷ [] else []) r).asked k ≡ (if v then for c true r.asked k else r.asked k)
  asked_if true c r k = refl
  asked_if false c r k = refl
