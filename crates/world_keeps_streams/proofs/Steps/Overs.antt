-- What the law's receivers have of a CLS of the sender: it names no link, so all of them hear it; and once it was heard nothing is granted more.
use Rattle.world_keeps_streams.proofs.Common.{◌≡◌, ℕ, ◌==◌, ◌&&◌, not, Bool, true, false, if◌then◌else◌, List, [], ◌∷◌, ◌++◌, length, Option, Some, None, is_some, refl, ap, sym, subst, ◌∙◌, eqb-true, Host, header_of, Command, DataHeader, DeskState, desk_of, listener_on, entry_at, free_link, is_receiving, receives_on, PairState, Closing, Entry, Listener, MayAllReceive, all_received, received_close, received_gone, received_open}
use Rattle.stream_law.specs.Words.{Rts, Str, All, Gvb, Ret, Cls, covers, for, is_size, holds}
use Rattle.host_keeps_streams.specs.Histories.{Hears, Takes, Says, OpensReceiver, Grants, AsksBack, Closes, AreAllowed, IsHistory, IsTelling, gone_now, name_now, received_at, receiver_now, sender_now, Call}
use Rattle.host_keeps_streams.specs.Moves.{answers_str, asked_received, closed_received, closes_on, cls_received, data_received, received_by, received_out, str_received, asks_for, on_link}
use Rattle.host_keeps_streams.proofs.lemmas.{holds_now, step_received, Holds}
use Rattle.ncp_control.specs.declared.command.Command.TheVariants as command
use Rattle.ncp_control.specs.Allocation as counters
use Rattle.stream_law.specs.Receivers as receivers
use Rattle.stream_law.specs.Receivers.{Receiver}
use Rattle.host_pairs.specs.declared.entry.Closing.TheVariants as closing
use Rattle.host_keeps_streams.specs.Histories as calls
use Rattle.host_keeps_streams.specs.Names.{named}
use Rattle.world_keeps_streams.proofs.Facts.{last_off}

-- ---- moves other than the hearing of a CLS

abbrev NoCls : receivers.Move → Type 0
NoCls (receivers.Hear (Cls c)) = ⊥
NoCls m = Unit {0}

abbrev NoneCls : List receivers.Move → Type 0
NoneCls [] = Unit {0}
NoneCls (m ∷ ms) = NoCls m × NoneCls ms

back_over : (m n : ℕ) (o : Option ℕ) (r : Receiver) → (receivers.takes_back m n o r).over ≡ r.over
back_over m n None r = refl
back_over m n (Some k) r = by (receivers.is_open k r && holds r.allocation m n) refl where
  by : (v : Bool) → (receivers.is_open k r && holds r.allocation m n) ≡ v → (receivers.takes_back m n (Some k) r).over ≡ r.over
  by true t = rw t refl
  by false t = rw t refl

taken_over : (z : ℕ) (bits : List Bool) (o : Option ℕ) (r : Receiver) → (receivers.takes z bits o r).over ≡ r.over
taken_over z bits None r = refl
taken_over z bits (Some k) r = by (receivers.is_open k r && is_size z (r.size k) && covers r.allocation (length bits)) refl where
  by : (v : Bool) → (receivers.is_open k r && is_size z (r.size k) && covers r.allocation (length bits)) ≡ v → (receivers.takes z bits (Some k) r).over ≡ r.over
  by true t = rw t refl
  by false t = rw t refl

moved_over : (m : receivers.Move) → NoCls m → (r : Receiver) → (receivers.moved m r).over ≡ r.over
moved_over (receivers.Take z bits) n r = taken_over z bits r.end r
moved_over (receivers.Hear (Rts k)) n r = refl
moved_over (receivers.Hear (Str k z)) n r = refl
moved_over (receivers.Hear (All k x y)) n r = refl
moved_over (receivers.Hear (Gvb k x y)) n r = refl
moved_over (receivers.Hear (Ret k x y)) n r = back_over x y r.end r
moved_over (receivers.Hear (Cls k)) n r = absurd n
moved_over m n r = refl

all_over : (ms : List receivers.Move) → NoneCls ms → (r : Receiver) → (all_received ms r).over ≡ r.over
all_over [] n r = refl
all_over (m ∷ ms) n r = all_over ms n.1 (receivers.moved m r) ∙ moved_over m n.0 r

-- ---- the moves of each call

none_if : (v : Bool) (ms : List receivers.Move) → NoneCls ms → NoneCls (if v then ms else [])
none_if true ms n = n
none_if false ms n = tt

none_unless : (v : Bool) (ms : List receivers.Move) → NoneCls ms → NoneCls (if v then [] else ms)
none_unless true ms n = tt
none_unless false ms n = n

none_open : (v : Bool) (c : ℕ) → NoneCls (received_open v c)
none_open true c = (tt, tt)
none_open false c = tt

none_gone : (v : Bool) (c : ℕ) → NoneCls (received_gone v c)
none_gone true c = (tt, tt)
none_gone false c = tt

none_close : (x : Closing) (c : ℕ) → NoneCls (received_close x c)
none_close closing.Queued c = tt
none_close x c = (tt, tt)

none_answers : (link c : ℕ) (l : Option Listener) (free : Option ℕ) → NoneCls (answers_str link c l free)
none_answers link c None free = tt
none_answers link c (Some l) None = tt
none_answers link c (Some l) (Some other) = none_if (other == link) (receivers.Ask c ∷ []) (tt, tt)

none_str : (link c z : ℕ) (l : Option Listener) (free : Option ℕ) (o : Option Entry) → NoneCls (str_received link c z l free o)
none_str link c z l free None = (tt, none_answers link c l free)
none_str link c z l free (Some e) = none_unless (is_some e.partner) (receivers.Hear (Str c z) ∷ received_open (receives_on link e && is_some e.asked) c) (tt, none_open (receives_on link e && is_some e.asked) c)

none_asked : (name : ℕ → ℕ → ℕ) (link : ℕ) (o : Option Entry) → NoneCls (asked_received name link o)
none_asked name link None = tt
none_asked name link (Some e) = none_if (receives_on link e) (received_open (is_some e.partner) (named name e)) (none_open (is_some e.partner) (named name e))

none_closed : (name : ℕ → ℕ → ℕ) (link : ℕ) (o : Option Entry) → NoneCls (closed_received name link o)
none_closed name link None = tt
none_closed name link (Some e) = none_if _ _ (none_gone e.partner_closed _)

none_out : (name : ℕ → ℕ → ℕ) (link : ℕ) (c : Command) (es : List Entry) → NoneCls (received_out name link c es)
none_out name link (command.Rts receive send l) es = none_asked name link (entry_at receive send es)
none_out name link (command.Str send receive size) es = none_asked name link (entry_at send receive es)
none_out name link (command.Cls own foreign) es = none_closed name link (entry_at own foreign es)
none_out name link c es = tt

none_data : (link l : ℕ) (text : List Bool) (h : Option DataHeader) → NoneCls (data_received link l text h)
none_data link l text None = tt
none_data link l text (Some h) = by (l == link) refl where
  by : (v : Bool) → (l == link) ≡ v → NoneCls (data_received link l text (Some h))
  by true t = rw t (tt, tt)
  by false t = rw t tt

none_asks : (link c : ℕ) (free : Option ℕ) → NoneCls (asks_for link c free)
none_asks link c None = tt
none_asks link c (Some other) = none_if (other == link) (receivers.Ask c ∷ []) (tt, tt)

-- ---- a CLS is heard on each link

cls_over : (link c : ℕ) (o : Option Entry) (r : Receiver) → (all_received (cls_received link c o) r).over ≡ (all_received (cls_received 0 c o) r).over
cls_over link c None r = refl
cls_over link c (Some e) r = by (is_receiving e && not e.partner_closed) where
  by : (v : Bool) → (all_received (if v then receivers.Hear (Cls c) ∷ closes_on link c e else []) r).over ≡ (all_received (if v then receivers.Hear (Cls c) ∷ closes_on 0 c e else []) r).over
  by true =
      all_over (closes_on link c e) (none_if (receives_on link e) (received_close e.closing c) (none_close e.closing c)) (receivers.hears (Cls c) r)
      ∙ sym (all_over (closes_on 0 c e) (none_if (receives_on 0 e) (received_close e.closing c) (none_close e.closing c)) (receivers.hears (Cls c) r))
  by false = refl

-- by two receivers that have heard the same
cls_same : (c : ℕ) (o : Option Entry) (r t : Receiver) → r.over ≡ t.over → (all_received (cls_received 0 c o) r).over ≡ (all_received (cls_received 0 c o) t).over
cls_same c None r t e = e
cls_same c (Some x) r t e = by (is_receiving x && not x.partner_closed) where
  by : (v : Bool) → (all_received (if v then receivers.Hear (Cls c) ∷ closes_on 0 c x else []) r).over ≡ (all_received (if v then receivers.Hear (Cls c) ∷ closes_on 0 c x else []) t).over
  by true =
      all_over (closes_on 0 c x) (none_if (receives_on 0 x) (received_close x.closing c) (none_close x.closing c)) (receivers.hears (Cls c) r)
      ∙ ap (λ (f : ℕ → Bool). for c true f) e
      ∙ sym (all_over (closes_on 0 c x) (none_if (receives_on 0 x) (received_close x.closing c) (none_close x.closing c)) (receivers.hears (Cls c) t))
  by false = e

none_on : (link : ℕ) (e : Entry) (m : receivers.Move) → NoCls m → NoneCls (on_link link e (m ∷ []))
none_on link e m n = none_if (receives_on link e) (m ∷ []) (n, tt)

both_none : (ms ns : List receivers.Move) → NoneCls ms → NoneCls ns → (r t : Receiver) → r.over ≡ t.over → (all_received ms r).over ≡ (all_received ns t).over
both_none ms ns m n r t e = all_over ms m r ∙ e ∙ sym (all_over ns n t)

module _ (name : ℕ → ℕ → ℕ) (link other : ℕ) where
  hear_alike : (said : ℕ) (c : Command) (d : DeskState) (r t : Receiver) → r.over ≡ t.over → (all_received (received_by name link said c d) r).over ≡ (all_received (received_by name other said c d) t).over
  hear_alike said (command.Str send receive size) d r t e =
      both_none (str_received link (name receive send) size (listener_on receive d.listening) (free_link d.entries) (entry_at receive send d.entries)) (str_received other (name receive send) size (listener_on receive d.listening) (free_link d.entries) (entry_at receive send d.entries))
      (none_str link (name receive send) size (listener_on receive d.listening) (free_link d.entries) (entry_at receive send d.entries))
      (none_str other (name receive send) size (listener_on receive d.listening) (free_link d.entries) (entry_at receive send d.entries)) r t e
  hear_alike said (command.Cls foreign own) d r t e =
      cls_over link (name own foreign) (entry_at own foreign d.entries) r ∙ cls_same (name own foreign) (entry_at own foreign d.entries) r t e ∙ sym (cls_over other (name own foreign) (entry_at own foreign d.entries) t)
  hear_alike said (command.Ret l m n) d r t e =
      both_none (if l == link then receivers.Hear (Ret said m n) ∷ [] else []) (if l == other then receivers.Hear (Ret said m n) ∷ [] else [])
      (none_if (l == link) (receivers.Hear (Ret said m n) ∷ []) (tt, tt)) (none_if (l == other) (receivers.Hear (Ret said m n) ∷ []) (tt, tt)) r t e
  hear_alike said c d r t e = e

  call_alike : (k : Call) (q : PairState) (listening : List Listener) (r t : Receiver) → r.over ≡ t.over → (all_received (received_at name link k q listening) r).over ≡ (all_received (received_at name other k q listening) t).over
  call_alike (Hears stamp said c) q listening r t e = hear_alike said c (desk_of q listening) r t e
  call_alike (Takes l text) q listening r t e =
      both_none (data_received link l text (header_of text)) (data_received other l text (header_of text)) (none_data link l text (header_of text)) (none_data other l text (header_of text)) r t e
  call_alike (Says stamp c) q listening r t e = both_none (received_out name link c q.entries) (received_out name other c q.entries) (none_out name link c q.entries) (none_out name other c q.entries) r t e
  call_alike (OpensReceiver own foreign) q listening r t e =
      both_none (asks_for link (name own foreign) (free_link q.entries)) (asks_for other (name own foreign) (free_link q.entries)) (none_asks link (name own foreign) (free_link q.entries)) (none_asks other (name own foreign) (free_link q.entries)) r t e
  call_alike (Grants socket m n x) q listening r t e =
      both_none (on_link link x (receivers.Grant (named name x) m n ∷ [])) (on_link other x (receivers.Grant (named name x) m n ∷ [])) (none_on link x (receivers.Grant (named name x) m n) tt) (none_on other x (receivers.Grant (named name x) m n) tt) r t e
  call_alike (AsksBack socket m n x) q listening r t e =
      both_none (on_link link x (receivers.AskBack (named name x) m n ∷ [])) (on_link other x (receivers.AskBack (named name x) m n ∷ [])) (none_on link x (receivers.AskBack (named name x) m n) tt) (none_on other x (receivers.AskBack (named name x) m n) tt) r t e
  call_alike (Closes socket x) q listening r t e =
      both_none (on_link link x (receivers.Close (named name x) ∷ [])) (on_link other x (receivers.Close (named name x) ∷ [])) (none_on link x (receivers.Close (named name x)) tt) (none_on other x (receivers.Close (named name x)) tt) r t e
  call_alike k q listening r t e = e

pub over_alike : (number : ℕ → ℕ → ℕ → ℕ) (peer : Host) (link other : ℕ) (own : List calls.Moment) → (receiver_now number peer link own).over ≡ (receiver_now number peer other own).over
over_alike number peer link other [] = refl
over_alike number peer link other (m ∷ own) =
    call_alike (name_now number peer own) link other m.call m.pair m.listening _ _ (over_alike number peer link other own)

-- ---- what is kept of a connection whose CLS was heard

pub record Kept (old new : Receiver) (c : ℕ) : Type 0 where
  pub over : new.over c ≡ true
  pub first : new.first c ≡ old.first c
  pub granted : new.granted c ≡ old.granted c
  pub taken : new.taken c ≡ old.taken c

unlike : (r : Receiver) (c k : ℕ) → (c == k) ≡ true → r.over c ≡ true → r.over k ≡ false → ⊥
unlike r c k e f g = let no : true ≡ false = sym f ∙ ap r.over (eqb-true c k e) ∙ g in absurd (cc)

for_other : {A : Type 0} (c k : ℕ) (x : A) (f : ℕ → A) → ((c == k) ≡ true → ⊥) → for k x f c ≡ f c
for_other {A} c k x f off = by (c == k) refl where
  by : (v : Bool) → (c == k) ≡ v → (if v then x else f c) ≡ f c
  by true e = absurd (off e)
  by false e = refl

module _ (r : Receiver) (c : ℕ) (o : r.over c ≡ true) where
  itself : Kept r r c
  itself = record { over = o; first = refl; granted = refl; taken = refl }

  kept_close : (k : ℕ) (v : Bool) → r.over k ≡ v → (if v then r.first else for k true r.first) c ≡ r.first c
  kept_close k true e = refl
  kept_close k false e = for_other c k true r.first (λ same. unlike r c k same o e)

  kept_cls : (k : ℕ) → for k true r.over c ≡ true
  kept_cls k = by (c == k) where
    by : (v : Bool) → (if v then true else r.over c) ≡ true
    by true = refl
    by false = o

  kept_back : (m n : ℕ) (e : Option ℕ) → Kept r (receivers.takes_back m n e r) c
  kept_back m n None = itself
  kept_back m n (Some k) = by (receivers.is_open k r && holds r.allocation m n) refl where
    by : (v : Bool) → (receivers.is_open k r && holds r.allocation m n) ≡ v → Kept r (receivers.takes_back m n (Some k) r) c
    by true t = rw t (record { over = o; first = refl; granted = refl; taken = refl })
    by false t = rw t itself

  kept_taken : (z : ℕ) (bits : List Bool) (e : Option ℕ) → Kept r (receivers.takes z bits e r) c
  kept_taken z bits None = itself
  kept_taken z bits (Some k) = by (receivers.is_open k r && is_size z (r.size k) && covers r.allocation (length bits)) refl where
    open_there : (u v w : Bool) → (u && v && w) ≡ true → u ≡ true
    open_there true v w e = refl
    open_there false true w e = e
    open_there false false w e = e

    by : (v : Bool) → (receivers.is_open k r && is_size z (r.size k) && covers r.allocation (length bits)) ≡ v → Kept r (receivers.takes z bits (Some k) r) c
    by true t = rw t (record {
      over = o;
      first = refl;
      granted = refl;
      taken = for_other c k _ r.taken
          (λ same. unlike r c k same o (last_off r.opened r.closed _ (open_there _ _ _ t)));
    })
    by false t = rw t itself

  kept_move : (m : receivers.Move) → receivers.May m r → Kept r (receivers.moved m r) c
  kept_move (receivers.Ask k) may = record { over = o; first = refl; granted = refl; taken = refl }
  kept_move (receivers.Open k) may = record { over = o; first = refl; granted = refl; taken = refl }
  kept_move (receivers.Grant k m n) may = record {
    over = o;
    first = refl;
    granted = for_other c k _ r.granted (λ same. unlike r c k same o (last_off r.opened r.closed _ may.1));
    taken = refl;
  }
  kept_move (receivers.AskBack k m n) may = itself
  kept_move (receivers.Close k) may = record { over = o; first = kept_close k _ refl; granted = refl; taken = refl }
  kept_move (receivers.Free k) may = record { over = o; first = refl; granted = refl; taken = refl }
  kept_move (receivers.Take z bits) may = let t : Kept r (receivers.takes z bits r.end r) c = kept_taken z bits r.end in record { over = t.over; first = t.first; granted = t.granted; taken = t.taken }
  kept_move (receivers.Hear (Str k z)) may = record { over = o; first = refl; granted = refl; taken = refl }
  kept_move (receivers.Hear (Ret k m n)) may = kept_back m n r.end
  kept_move (receivers.Hear (Cls k)) may = record { over = kept_cls k; first = refl; granted = refl; taken = refl }
  kept_move (receivers.Hear c) may = itself

kept_then : (r s t : Receiver) (c : ℕ) → Kept r s c → Kept s t c → Kept r t c
kept_then r s t c k l = record { over = l.over; first = l.first ∙ k.first; granted = l.granted ∙ k.granted; taken = l.taken ∙ k.taken }

kept_moves : (ms : List receivers.Move) (r : Receiver) (c : ℕ) → MayAllReceive ms r → r.over c ≡ true → Kept r (all_received ms r) c
kept_moves [] r c may o = itself r c o
kept_moves (m ∷ ms) r c may o =
    let one : Kept r (receivers.moved m r) c = kept_move r c o m may.0 in
    kept_then r _ _ c one (kept_moves ms (receivers.moved m r) c may.1 one.over)

-- by more calls
pub kept_calls : (number : ℕ → ℕ → ℕ → ℕ) (tells : IsTelling number) (peer : Host) (link c : ℕ) (more own : List calls.Moment) → IsHistory peer (more ++ own) → AreAllowed number peer link (more ++ own) → (receiver_now number peer link own).over c ≡ true
    → Kept (receiver_now number peer link own) (receiver_now number peer link (more ++ own)) c
kept_calls number tells peer link c [] own i a o = itself (receiver_now number peer link own) c o
kept_calls number tells peer link c (m ∷ more) own i a o =
    let before : Kept (receiver_now number peer link own) (receiver_now number peer link (more ++ own)) c = kept_calls number tells peer link c more own i.1 a.1 o in
    let holds : Holds number tells link (gone_now peer (more ++ own)) m.pair.entries (receiver_now number peer link (more ++ own)) (sender_now number peer link (more ++ own)) =
    subst (λ (es : List Entry). Holds number tells link (gone_now peer (more ++ own)) es (receiver_now number peer link (more ++ own)) (sender_now number peer link (more ++ own))) (sym i.0) (holds_now number tells peer link _ i.1 a.1) in
    let may : MayAllReceive (received_at (name_now number peer (more ++ own)) link m.call m.pair m.listening) (receiver_now number peer link (more ++ own)) =
    (step_received number tells peer link (gone_now peer (more ++ own)) m.call m.pair m.listening (receiver_now number peer link (more ++ own)) (sender_now number peer link (more ++ own)) a.0 holds).0 in
    kept_then _ _ _ c before
    (kept_moves _ _ c may before.over)

-- ---- calls by which none is heard

abbrev pub HearsNone : Call → Type 0
HearsNone (Hears stamp said c) = ⊥
HearsNone k = Unit {0}

abbrev pub AllHearNone : List calls.Moment → Type 0
AllHearNone [] = Unit {0}
AllHearNone (m ∷ ms) = HearsNone m.call × AllHearNone ms

call_over : (name : ℕ → ℕ → ℕ) (link : ℕ) (k : Call) (q : PairState) (listening : List Listener) (r : Receiver) → HearsNone k → (all_received (received_at name link k q listening) r).over ≡ r.over
call_over name link (Hears stamp said c) q listening r n = absurd n
call_over name link (Takes l text) q listening r n = all_over (data_received link l text (header_of text)) (none_data link l text (header_of text)) r
call_over name link (Says stamp c) q listening r n = all_over (received_out name link c q.entries) (none_out name link c q.entries) r
call_over name link (OpensReceiver own foreign) q listening r n = all_over (asks_for link (name own foreign) (free_link q.entries)) (none_asks link (name own foreign) (free_link q.entries)) r
call_over name link (Grants socket m n x) q listening r none = all_over (on_link link x (receivers.Grant (named name x) m n ∷ [])) (none_on link x (receivers.Grant (named name x) m n) tt) r
call_over name link (AsksBack socket m n x) q listening r none = all_over (on_link link x (receivers.AskBack (named name x) m n ∷ [])) (none_on link x (receivers.AskBack (named name x) m n) tt) r
call_over name link (Closes socket x) q listening r n = all_over (on_link link x (receivers.Close (named name x) ∷ [])) (none_on link x (receivers.Close (named name x)) tt) r
call_over name link k q listening r n = refl

pub over_same : (number : ℕ → ℕ → ℕ → ℕ) (peer : Host) (link : ℕ) (more own : List calls.Moment) → AllHearNone more → (receiver_now number peer link (more ++ own)).over ≡ (receiver_now number peer link own).over
over_same number peer link [] own n = refl
over_same number peer link (m ∷ more) own n =
    call_over _ link m.call m.pair m.listening _ n.0 ∙ over_same number peer link more own n.1
