-- A receiving end says its CLS of itself only after it heard its partner's. Before, only a user closes it.
use Rattle.host_keeps_streams.proofs.Common.{◌≡◌, ◌⊎◌, ℕ, Bool, true, false, ◌==◌, ◌&&◌, not, List, ◌∷◌, length, Option, Some, None, is_some, if◌then◌else◌, refl, ap, sym, ◌∙◌, inl, inr, Host, Command, header_of, DataHeader, for, covers, holds, Receiver, at, for_here, DeskState, desk_of, listener_on, entry_at, free_link, is_receiving, receives_on, PairState, Closing, Entry, Listener, all_received, received_close, received_gone, received_open, Call, Hears, Takes, Says, OpensReceiver, Grants, AsksBack, Closes, Moment, received_at, receiver_now, answers_str, asked_received, asks_for, closed_received, cls_received, closes_on, data_received, on_link, received_by, received_out, str_received, named}
use Rattle.std.proofs.Common.{[]}
use Rattle.ncp_control.specs.declared.command.Command.TheVariants as command
use Rattle.stream_law.specs.Words.{Word, Str, Ret, Cls, is_size}
use Rattle.stream_law.specs.Receivers as receivers
use Rattle.host_pairs.specs.declared.entry.Closing.TheVariants as closing
use Rattle.host_keeps_streams.specs.Histories.{HasClosed, IsClosing, name_now}

-- ---- moves other than a CLS leave who was first

abbrev NoClose : receivers.Move → Type 0
NoClose (receivers.Close c) = ⊥
NoClose m = Unit {0}

abbrev NoCloses : List receivers.Move → Type 0
NoCloses [] = Unit {0}
NoCloses (m ∷ ms) = NoClose m × NoCloses ms

first_back : (m n : ℕ) (o : Option ℕ) (r : Receiver) → (receivers.takes_back m n o r).first ≡ r.first
first_back m n None r = refl
first_back m n (Some k) r = by (receivers.is_open k r && holds r.allocation m n) refl where
  by : (v : Bool) → (receivers.is_open k r && holds r.allocation m n) ≡ v → (receivers.takes_back m n (Some k) r).first ≡ r.first
  by true t = rw t refl
  by false t = rw t refl

first_taken : (z : ℕ) (bits : List Bool) (o : Option ℕ) (r : Receiver) → (receivers.takes z bits o r).first ≡ r.first
first_taken z bits None r = refl
first_taken z bits (Some k) r = by (receivers.is_open k r && is_size z (r.size k) && covers r.allocation (length bits)) refl where
  by : (v : Bool) → (receivers.is_open k r && is_size z (r.size k) && covers r.allocation (length bits)) ≡ v → (receivers.takes z bits (Some k) r).first ≡ r.first
  by true t = rw t refl
  by false t = rw t refl

first_heard : (w : Word) (r : Receiver) → (receivers.hears w r).first ≡ r.first
first_heard (Ret k m n) r = first_back m n r.end r
first_heard w r = refl

first_moved : (m : receivers.Move) → NoClose m → (r : Receiver) → (receivers.moved m r).first ≡ r.first
first_moved (receivers.Close k) n r = absurd n
first_moved (receivers.Hear w) n r = first_heard w r
first_moved (receivers.Take z bits) n r = first_taken z bits r.end r
first_moved m n r = refl

first_all : (ms : List receivers.Move) → NoCloses ms → (r : Receiver) → (all_received ms r).first ≡ r.first
first_all [] n r = refl
first_all (m ∷ ms) n r = first_all ms n.1 (receivers.moved m r) ∙ first_moved m n.0 r

-- ---- the moves of each call

none_if : (v : Bool) (ms : List receivers.Move) → NoCloses ms → NoCloses (if v then ms else [])
none_if true ms n = n
none_if false ms n = tt

none_open : (v : Bool) (c : ℕ) → NoCloses (received_open v c)
none_open true c = (tt, tt)
none_open false c = tt

none_gone : (v : Bool) (c : ℕ) → NoCloses (received_gone v c)
none_gone true c = (tt, tt)
none_gone false c = tt

none_answers : (link c : ℕ) (l : Option Listener) (free : Option ℕ) → NoCloses (answers_str link c l free)
none_answers link c None free = tt
none_answers link c (Some l) None = tt
none_answers link c (Some l) (Some other) = none_if _ (receivers.Ask c ∷ []) (tt, tt)

by_partner : (v : Bool) (ms : List receivers.Move) → NoCloses ms → NoCloses (if v then [] else ms)
by_partner true ms n = tt
by_partner false ms n = n

none_str : (link c z : ℕ) (l : Option Listener) (free : Option ℕ) (o : Option Entry) → NoCloses (str_received link c z l free o)
none_str link c z l free None = (tt, none_answers link c l free)
none_str link c z l free (Some e) = by_partner _ (receivers.Hear (Str c z) ∷ received_open (receives_on link e && is_some e.asked) c) (tt, none_open _ c)

none_asked : (name : ℕ → ℕ → ℕ) (link : ℕ) (o : Option Entry) → NoCloses (asked_received name link o)
none_asked name link None = tt
none_asked name link (Some e) = none_if (receives_on link e) _ (none_open _ _)

none_closed : (name : ℕ → ℕ → ℕ) (link : ℕ) (o : Option Entry) → NoCloses (closed_received name link o)
none_closed name link None = tt
none_closed name link (Some e) = none_if _ _ (none_gone e.partner_closed _)

none_out : (name : ℕ → ℕ → ℕ) (link : ℕ) (c : Command) (es : List Entry) → NoCloses (received_out name link c es)
none_out name link (command.Rts receive send l) es = none_asked name link (entry_at receive send es)
none_out name link (command.Str send receive size) es = none_asked name link (entry_at send receive es)
none_out name link (command.Cls own foreign) es = none_closed name link (entry_at own foreign es)
none_out name link c es = tt

none_data : (link l : ℕ) (text : List Bool) (h : Option DataHeader) → NoCloses (data_received link l text h)
none_data link l text None = tt
none_data link l text (Some h) = by (l == link) refl where
  by : (v : Bool) → (l == link) ≡ v → NoCloses (data_received link l text (Some h))
  by true t = rw t (tt, tt)
  by false t = rw t tt

none_asks : (link c : ℕ) (free : Option ℕ) → NoCloses (asks_for link c free)
none_asks link c None = tt
none_asks link c (Some other) = none_if _ (receivers.Ask c ∷ []) (tt, tt)

-- ---- an end that hears a CLS says its own after it

first_over : (c : ℕ) (r : Receiver) → r.over c ≡ true → (receivers.closes c r).first ≡ r.first
first_over c r over = rw over refl

first_closing : (x : Closing) (c : ℕ) (r : Receiver) → r.over c ≡ true → (all_received (received_close x c) r).first ≡ r.first
first_closing closing.No c r over = first_over c r over
first_closing closing.Due c r over = first_over c r over
first_closing closing.Queued c r over = refl
first_closing closing.Sent c r over = refl

first_cls_on : (link c : ℕ) (e : Entry) (r : Receiver) → r.over c ≡ true → (all_received (closes_on link c e) r).first ≡ r.first
first_cls_on link c e r over = by (receives_on link e) where
  by : (v : Bool) → (all_received (if v then received_close e.closing c else []) r).first ≡ r.first
  by true = first_closing e.closing c r over
  by false = refl

first_cls : (link c : ℕ) (o : Option Entry) (r : Receiver) → (all_received (cls_received link c o) r).first ≡ r.first
first_cls link c None r = refl
first_cls link c (Some e) r = by (is_receiving e && not e.partner_closed) where
  by : (v : Bool) → (all_received (if v then receivers.Hear (Cls c) ∷ closes_on link c e else []) r).first ≡ r.first
  by true = first_cls_on link c e _ (for_here c true r.over)
  by false = refl

first_by : (name : ℕ → ℕ → ℕ) (link said : ℕ) (c : Command) (d : DeskState) (r : Receiver) → (all_received (received_by name link said c d) r).first ≡ r.first
first_by name link said (command.Str send receive size) d r =
    first_all (str_received link (name receive send) size (listener_on receive d.listening) (free_link d.entries) (entry_at receive send d.entries))
    (none_str link (name receive send) size (listener_on receive d.listening) (free_link d.entries) (entry_at receive send d.entries)) r
first_by name link said (command.Cls foreign own) d r = first_cls link (name own foreign) (entry_at own foreign d.entries) r
first_by name link said (command.Ret l m n) d r = first_all (if l == link then receivers.Hear (Ret said m n) ∷ [] else []) (none_if (l == link) (receivers.Hear (Ret said m n) ∷ []) (tt, tt)) r
first_by name link said c d r = refl

-- ---- and an end that a user closes may say it first

first_said : (n c : ℕ) (r : Receiver) → (receivers.closes n r).first c ≡ true → (r.first c ≡ true) ⊎ (n ≡ c)
first_said n c r = by (r.over n) where
  by : (v : Bool) → (if v then r.first else for n true r.first) c ≡ true → (r.first c ≡ true) ⊎ (n ≡ c)
  by true f = inl f
  by false f = elim (at n true r.first c) [
    | inl t ↦ inr (sym t.0)
    | inr t ↦ inl (sym t.1 ∙ f)
  ]

first_on : (name : ℕ → ℕ → ℕ) (link c socket : ℕ) (e : Entry) (r : Receiver) → (all_received (on_link link e (receivers.Close (named name e) ∷ [])) r).first c ≡ true → (r.first c ≡ true) ⊎ IsClosing name link c (Closes socket e)
first_on name link c socket e r = by (receives_on link e) refl where
  by : (v : Bool) → receives_on link e ≡ v → (all_received (if v then receivers.Close (named name e) ∷ [] else []) r).first c ≡ true → (r.first c ≡ true) ⊎ IsClosing name link c (Closes socket e)
  by true t f = elim (first_said _ c r f) [
    | inl before ↦ inl before
    | inr same ↦ inr (t, same)
  ]
  by false t f = inl f

before : (c : ℕ) (f g : ℕ → Bool) → f ≡ g → f c ≡ true → g c ≡ true
before c f g same e = ap (λ (h : ℕ → Bool). h c) (sym same) ∙ e

first_call : (name : ℕ → ℕ → ℕ) (link c : ℕ) (x : Call) (q : PairState) (listening : List Listener) (r : Receiver) → (all_received (received_at name link x q listening) r).first c ≡ true
    → (r.first c ≡ true) ⊎ IsClosing name link c x
first_call name link c (Hears stamp said w) q listening r f = inl (before c (all_received (received_by name link said w (desk_of q listening)) r).first r.first (first_by name link said w (desk_of q listening) r) f)
first_call name link c (Takes l text) q listening r f =
    inl (before c (all_received (data_received link l text (header_of text)) r).first r.first (first_all (data_received link l text (header_of text)) (none_data link l text (header_of text)) r) f)
first_call name link c (Says stamp w) q listening r f = inl (before c (all_received (received_out name link w q.entries) r).first r.first (first_all (received_out name link w q.entries) (none_out name link w q.entries) r) f)
first_call name link c (OpensReceiver own foreign) q listening r f =
    inl (before c (all_received (asks_for link (name own foreign) (free_link q.entries)) r).first r.first (first_all (asks_for link (name own foreign) (free_link q.entries)) (none_asks link (name own foreign) (free_link q.entries)) r) f)
first_call name link c (Grants socket m n e) q listening r f =
    inl (before c (all_received (on_link link e (receivers.Grant (named name e) m n ∷ [])) r).first r.first
    (first_all (on_link link e (receivers.Grant (named name e) m n ∷ [])) (none_if (receives_on link e) (receivers.Grant (named name e) m n ∷ []) (tt, tt)) r) f)
first_call name link c (AsksBack socket m n e) q listening r f =
    inl (before c (all_received (on_link link e (receivers.AskBack (named name e) m n ∷ [])) r).first r.first
    (first_all (on_link link e (receivers.AskBack (named name e) m n ∷ [])) (none_if (receives_on link e) (receivers.AskBack (named name e) m n ∷ []) (tt, tt)) r) f)
first_call name link c (Closes socket e) q listening r f = first_on name link c socket e r f
first_call name link c x q listening r f = inl f

pub closed_first : (number : ℕ → ℕ → ℕ → ℕ) (peer : Host) (link c : ℕ) (ms : List Moment) → (receiver_now number peer link ms).first c ≡ true → HasClosed number peer link c ms
closed_first number peer link c [] f = let both : false ≡ true = f in absurd (cc)
closed_first number peer link c (m ∷ ms) f =
    elim (first_call _ link c m.call m.pair m.listening _ f) [
      | inl earlier ↦ inr (closed_first number peer link c ms earlier)
      | inr here ↦ inl here
    ]
