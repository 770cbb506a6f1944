-- A receiving end that hasn't said its CLS doesn't go where commands are heard: it says its own first.
use Rattle.world_keeps_streams.proofs.Common.{◌≡◌, ℕ, ◌==◌, ◌&&◌, Bool, true, false, if◌then◌else◌, List, [], ◌∷◌, ◌++◌, filter, Option, Some, None, is_some, refl, ap, sym, subst, ◌∙◌, not, eqb-true, Host, Command, for_here, some_is, DeskState, desk_of, listener_on, entry_at, free_link, has_cls, is_at, is_receiving, receives_on, PairState, Closing, Entry, Listener, both, not_is, MayAllReceive, all_received, received_close, received_open, HasReceiver, IsReceiver}
use Rattle.stream_law.specs.Words.{Word, Str, Ret, Cls, for, holds}
use Rattle.host_keeps_streams.specs.Histories.{AreAllowed, Hears, IsHistory, IsTelling, gone_now, name_now, received_at, receiver_now, sender_now, Call}
use Rattle.host_keeps_streams.specs.Moves.{answers_str, closes_on, cls_received, received_by, str_received}
use Rattle.host_keeps_streams.proofs.lemmas.{holds_now, step_received, Holds}
use Rattle.ncp_control.specs.declared.command.Command.TheVariants as command
use Rattle.stream_law.specs.Receivers as receivers
use Rattle.stream_law.specs.Receivers.{Receiver}
use Rattle.host_pairs.specs.declared.entry.Closing.TheVariants as closing
use Rattle.host_keeps_streams.specs.Histories as calls
use Rattle.world_keeps_streams.proofs.Deeds.Effects.{Among, among_kept, found_among}
use Rattle.world_keeps_streams.proofs.Books.Arrives.{one_end}
use Rattle.interface.proofs.lemmas.{unlike}

-- its end is there, and it has said its CLS only where it has heard the sender's
pub record IsHere (r : Receiver) (c : ℕ) : Type 0 where
  pub end : r.end ≡ Some c
  pub late : r.closed ≡ true → r.over c ≡ true

-- ---- moves by which none is said, and no end goes

abbrev IsCalm : receivers.Move → Type 0
IsCalm (receivers.Close c) = ⊥
IsCalm (receivers.Free c) = ⊥
IsCalm (receivers.Take z bits) = ⊥
IsCalm m = Unit {0}

abbrev AreCalm : List receivers.Move → Type 0
AreCalm [] = Unit {0}
AreCalm (m ∷ ms) = IsCalm m × AreCalm ms

heard_more : (c k : ℕ) (f : ℕ → Bool) → f c ≡ true → for k true f c ≡ true
heard_more c k f e = by (c == k) where
  by : (v : Bool) → (if v then true else f c) ≡ true
  by true = refl
  by false = e

here_back : (m n : ℕ) (o : Option ℕ) (r : Receiver) (c : ℕ) → IsHere r c → IsHere (receivers.takes_back m n o r) c
here_back m n None r c h = h
here_back m n (Some k) r c h = by (receivers.is_open k r && holds r.allocation m n) refl where
  by : (v : Bool) → (receivers.is_open k r && holds r.allocation m n) ≡ v → IsHere (receivers.takes_back m n (Some k) r) c
  by true t = rw t (record { end = h.end; late = h.late })
  by false t = rw t h

here_heard : (w : Word) (r : Receiver) (c : ℕ) → IsHere r c → IsHere (receivers.hears w r) c
here_heard (Str k z) r c h = record { end = h.end; late = h.late }
here_heard (Ret k m n) r c h = here_back m n r.end r c h
here_heard (Cls k) r c h = record { end = h.end; late = λ e. heard_more c k r.over (h.late e) }
here_heard w r c h = h

here_move : (m : receivers.Move) (r : Receiver) (c : ℕ) → IsCalm m → receivers.May m r → IsHere r c → IsHere (receivers.moved m r) c
here_move (receivers.Ask k) r c calm may h = let not : None ≡ Some c = sym may.0 ∙ h.end in absurd (cc)
here_move (receivers.Open k) r c calm may h = record { end = h.end; late = h.late }
here_move (receivers.Grant k m n) r c calm may h = record { end = h.end; late = h.late }
here_move (receivers.AskBack k m n) r c calm may h = h
here_move (receivers.Close k) r c calm may h = absurd calm
here_move (receivers.Free k) r c calm may h = absurd calm
here_move (receivers.Hear w) r c calm may h = here_heard w r c h
here_move (receivers.Take z bits) r c calm may h = absurd calm

here_moves : (ms : List receivers.Move) (r : Receiver) (c : ℕ) → AreCalm ms → MayAllReceive ms r → IsHere r c → IsHere (all_received ms r) c
here_moves [] r c calm may h = h
here_moves (m ∷ ms) r c calm may h = here_moves ms (receivers.moved m r) c calm.1 may.1 (here_move m r c calm.0 may.0 h)

-- ---- what is heard

calm_open : (v : Bool) (c : ℕ) → AreCalm (received_open v c)
calm_open true c = (tt, tt)
calm_open false c = tt

calm_if : (v : Bool) (ms : List receivers.Move) → AreCalm ms → AreCalm (if v then ms else [])
calm_if true ms n = n
calm_if false ms n = tt

calm_answers : (link c : ℕ) (l : Option Listener) (free : Option ℕ) → AreCalm (answers_str link c l free)
calm_answers link c None free = tt
calm_answers link c (Some l) None = tt
calm_answers link c (Some l) (Some other) = calm_if (other == link) (receivers.Ask c ∷ []) (tt, tt)

calm_unless : (v : Bool) (ms : List receivers.Move) → AreCalm ms → AreCalm (if v then [] else ms)
calm_unless true ms n = tt
calm_unless false ms n = n

calm_str : (link c z : ℕ) (l : Option Listener) (free : Option ℕ) (o : Option Entry) → AreCalm (str_received link c z l free o)
calm_str link c z l free None = (tt, calm_answers link c l free)
calm_str link c z l free (Some e) =
    calm_unless (is_some e.partner) (receivers.Hear (Str c z) ∷ received_open (receives_on link e && is_some e.asked) c) (tt, calm_open (receives_on link e && is_some e.asked) c)

-- an end hears the sender's CLS, and says its own
module _ (name : ℕ → ℕ → ℕ) (link : ℕ) (es : List Entry) (r : Receiver) (c : ℕ) (has : HasReceiver name link es r) (h : IsHere r c) where
  closes_here : (k : ℕ) (e : Entry) → e.partner_closed ≡ false → IsReceiver k e r → k ≡ c → (x : Closing) → e.closing ≡ x → IsHere (all_received (received_close x k) (receivers.hears (Cls k) r)) c
  closes_here k e unheard is same closing.No f =
      record { end = h.end; late = λ g. subst (λ (j : ℕ). for j true r.over c ≡ true) (sym same) (for_here c true r.over) }
  closes_here k e unheard is same closing.Due f =
      record { end = h.end; late = λ g. subst (λ (j : ℕ). for j true r.over c ≡ true) (sym same) (for_here c true r.over) }
  closes_here k e unheard is same closing.Queued f =
      record { end = h.end; late = λ g. subst (λ (j : ℕ). for j true r.over c ≡ true) (sym same) (for_here c true r.over) }
  closes_here k e unheard is same closing.Sent f =
      let said : r.closed ≡ true = is.closed ∙ ap has_cls f in
      let heard : e.partner_closed ≡ true = sym is.over ∙ subst (λ (j : ℕ). r.over j ≡ true) (sym same) (h.late said) in
      absurd (unlike e.partner_closed heard unheard)

  closes_on_it : (own foreign : ℕ) (e : Entry) → Among e es → e.own ≡ own → e.foreign ≡ foreign → e.partner_closed ≡ false → (v : Bool) → receives_on link e ≡ v
      → IsHere (all_received (if v then received_close e.closing (name own foreign) else []) (receivers.hears (Cls (name own foreign)) r)) c
  closes_on_it own foreign e there at with unheard false on = here_heard (Cls (name own foreign)) r c h
  closes_on_it own foreign e there at with unheard true on =
      let is : IsReceiver (name e.own e.foreign) e r = (one_end name e (filter (receives_on link) es) r has (among_kept (receives_on link) es e there on)).1 in
      let name_is : name e.own e.foreign ≡ name own foreign = ap (λ (j : ℕ). name j e.foreign) at ∙ ap (λ (j : ℕ). name own j) with in
      let same : name own foreign ≡ c = sym name_is ∙ some_is (name e.own e.foreign) c (sym is.end ∙ h.end) in
      closes_here (name own foreign) e unheard (subst (λ (j : ℕ). IsReceiver j e r) name_is is) same e.closing refl

  cls_here : (own foreign : ℕ) (o : Option Entry) → entry_at own foreign es ≡ o → IsHere (all_received (cls_received link (name own foreign) o) r) c
  cls_here own foreign None f = h
  cls_here own foreign (Some e) f = by (is_receiving e && not e.partner_closed) refl where
    found : Among e es × (is_at own foreign e ≡ true)
    found = found_among (is_at own foreign) es e f

    parts : ((e.own == own) ≡ true) × ((e.foreign == foreign) ≡ true)
    parts = both _ _ found.1

    by : (v : Bool) → (is_receiving e && not e.partner_closed) ≡ v → IsHere (all_received (if v then receivers.Hear (Cls (name own foreign)) ∷ closes_on link (name own foreign) e else []) r) c
    by false t = h
    by true t =
        closes_on_it own foreign e found.0 (eqb-true e.own own parts.0) (eqb-true e.foreign foreign parts.1) (not_is e.partner_closed (both _ _ t).1) _ refl

hear_here : (name : ℕ → ℕ → ℕ) (link said : ℕ) (w : Command) (d : DeskState) (r : Receiver) (c : ℕ) → HasReceiver name link d.entries r → MayAllReceive (received_by name link said w d) r → IsHere r c
    → IsHere (all_received (received_by name link said w d) r) c
hear_here name link said (command.Str send receive size) d r c has may h =
    here_moves (str_received link (name receive send) size (listener_on receive d.listening) (free_link d.entries) (entry_at receive send d.entries)) r c
    (calm_str link (name receive send) size (listener_on receive d.listening) (free_link d.entries) (entry_at receive send d.entries)) may h
hear_here name link said (command.Cls foreign own) d r c has may h = cls_here name link d.entries r c has h own foreign (entry_at own foreign d.entries) refl
hear_here name link said (command.Ret l m n) d r c has may h =
    here_moves (if l == link then receivers.Hear (Ret said m n) ∷ [] else []) r c (calm_if (l == link) (receivers.Hear (Ret said m n) ∷ []) (tt, tt)) may h
hear_here name link said w d r c has may h = h

-- ---- calls by which commands are heard

abbrev pub HearsOne : Call → Type 0
HearsOne (Hears stamp said c) = Unit {0}
HearsOne k = ⊥

abbrev pub AllHear : List calls.Moment → Type 0
AllHear [] = Unit {0}
AllHear (m ∷ ms) = HearsOne m.call × AllHear ms

call_here : (name : ℕ → ℕ → ℕ) (link : ℕ) (k : Call) (q : PairState) (listening : List Listener) (r : Receiver) (c : ℕ) → HearsOne k → HasReceiver name link q.entries r → MayAllReceive (received_at name link k q listening) r → IsHere r c
    → IsHere (all_received (received_at name link k q listening) r) c
call_here name link (Hears stamp said w) q listening r c one has may h = hear_here name link said w _ r c has may h
call_here name link k q listening r c one has may h = absurd one

pub here_calls : (number : ℕ → ℕ → ℕ → ℕ) (tells : IsTelling number) (peer : Host) (link c : ℕ) (more own : List calls.Moment) → AllHear more → IsHistory peer (more ++ own) → AreAllowed number peer link (more ++ own)
    → IsHere (receiver_now number peer link own) c → IsHere (receiver_now number peer link (more ++ own)) c
here_calls number tells peer link c [] own all i a h = h
here_calls number tells peer link c (m ∷ more) own all i a h =
    let holds : Holds number tells link (gone_now peer (more ++ own)) m.pair.entries (receiver_now number peer link (more ++ own)) (sender_now number peer link (more ++ own)) =
    subst (λ (es : List Entry). Holds number tells link (gone_now peer (more ++ own)) es (receiver_now number peer link (more ++ own)) (sender_now number peer link (more ++ own))) (sym i.0) (holds_now number tells peer link _ i.1 a.1) in
    let may : MayAllReceive (received_at (name_now number peer (more ++ own)) link m.call m.pair m.listening) (receiver_now number peer link (more ++ own)) =
    (step_received number tells peer link (gone_now peer (more ++ own)) m.call m.pair m.listening (receiver_now number peer link (more ++ own)) (sender_now number peer link (more ++ own)) a.0 holds).0 in
    call_here _ link m.call m.pair m.listening _ c all.0 holds.received may (here_calls number tells peer link c more own all.1 i.1 a.1 h)
