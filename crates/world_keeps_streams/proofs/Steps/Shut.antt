-- A receiving end that a user closed has said its CLS, by what the law's receiver has of its connection; and an end that is there later was there already,
-- where its connection had been asked for.
use Rattle.world_keeps_streams.proofs.Common.{◌≡◌, inl, inr, ℕ, ◌==◌, ◌&&◌, Bool, true, false, if◌then◌else◌, List, [], ◌∷◌, ◌++◌, length, Option, Some, None, refl, ap, sym, subst, ◌∙◌, Host, for_here, some_is, receives_on, PairState, Entry, Listener, MayAllReceive, all_received}
use Rattle.stream_law.specs.Words.{Str, Ret, Cls, covers, for, is_size, holds}
use Rattle.host_keeps_streams.specs.Histories.{AreAllowed, Closes, HasClosed, IsHistory, IsTelling, gone_now, name_now, received_at, receiver_now, sender_now, Call, IsClosing}
use Rattle.host_keeps_streams.proofs.lemmas.{holds_now, step_received, Holds}
use Rattle.stream_law.specs.Receivers as receivers
use Rattle.stream_law.specs.Receivers.{Receiver}
use Rattle.host_keeps_streams.specs.Histories as calls
use Rattle.host_keeps_streams.specs.Names.{named}
use Rattle.interface.proofs.lemmas.{unlike}

-- ---- a connection that was asked for

abbrev pub Known : Receiver → Type 0
Known r = (c : ℕ) → r.end ≡ Some c → r.asked c ≡ true

-- it was asked for, and if its end is there, its CLS is said
pub record IsShut (r : Receiver) (c : ℕ) : Type 0 where
  pub asked : r.asked c ≡ true
  pub closed : r.end ≡ Some c → r.closed ≡ true

-- ---- moves that leave all of this

record Same (r t : Receiver) : Type 0 where
  end : t.end ≡ r.end
  asked : t.asked ≡ r.asked
  closed : t.closed ≡ r.closed

same_itself : (r : Receiver) → Same r r
same_itself r = record { end = refl; asked = refl; closed = refl }

same_back : (m n : ℕ) (o : Option ℕ) (r : Receiver) → Same r (receivers.takes_back m n o r)
same_back m n None r = same_itself r
same_back m n (Some k) r = by (receivers.is_open k r && holds r.allocation m n) refl where
  by : (v : Bool) → (receivers.is_open k r && holds r.allocation m n) ≡ v → Same r (receivers.takes_back m n (Some k) r)
  by true t = rw t (record { end = refl; asked = refl; closed = refl })
  by false t = rw t (same_itself r)

same_taken : (z : ℕ) (bits : List Bool) (o : Option ℕ) (r : Receiver) → Same r (receivers.takes z bits o r)
same_taken z bits None r = same_itself r
same_taken z bits (Some k) r = by (receivers.is_open k r && is_size z (r.size k) && covers r.allocation (length bits)) refl where
  by : (v : Bool) → (receivers.is_open k r && is_size z (r.size k) && covers r.allocation (length bits)) ≡ v → Same r (receivers.takes z bits (Some k) r)
  by true t = rw t (record { end = refl; asked = refl; closed = refl })
  by false t = rw t (same_itself r)

-- a message that comes counts, and leaves these
same_come : (z : ℕ) (bits : List Bool) (r : Receiver) → Same r (receivers.moved (receivers.Take z bits) r)
same_come z bits r = let s : Same r (receivers.takes z bits r.end r) = same_taken z bits r.end r in record { end = s.end; asked = s.asked; closed = s.closed }

known_same : (r t : Receiver) → Same r t → Known r → Known t
known_same r t s k c e = ap (λ (f : ℕ → Bool). f c) s.asked ∙ k c (sym s.end ∙ e)

shut_same : (r t : Receiver) (c : ℕ) → Same r t → IsShut r c → IsShut t c
shut_same r t c s h = record { asked = ap (λ (f : ℕ → Bool). f c) s.asked ∙ h.asked; closed = λ e. s.closed ∙ h.closed (sym s.end ∙ e) }

-- ---- one move

known_move : (m : receivers.Move) (r : Receiver) → Known r → Known (receivers.moved m r)
known_move (receivers.Ask k) r h c e = let same : k ≡ c = some_is k c e in subst (λ (j : ℕ). for k true r.asked j ≡ true) same (for_here k true r.asked)
known_move (receivers.Open k) r h c e = h c e
known_move (receivers.Grant k m n) r h c e = h c e
known_move (receivers.AskBack k m n) r h c e = h c e
known_move (receivers.Close k) r h c e = h c e
known_move (receivers.Free k) r h c e = absurd (let no : None ≡ Some c = e in cc)
known_move (receivers.Take z bits) r h c e = known_same r (receivers.moved (receivers.Take z bits) r) (same_come z bits r) h c e
known_move (receivers.Hear (Str k z)) r h c e = h c e
known_move (receivers.Hear (Ret k m n)) r h c e = known_same r (receivers.takes_back m n r.end r) (same_back m n r.end r) h c e
known_move (receivers.Hear (Cls k)) r h c e = h c e
known_move (receivers.Hear w) r h c e = h c e

asked_more : (k c : ℕ) (f : ℕ → Bool) → f c ≡ true → for k true f c ≡ true
asked_more k c f e = by (c == k) where
  by : (v : Bool) → (if v then true else f c) ≡ true
  by true = refl
  by false = e

shut_move : (m : receivers.Move) (r : Receiver) (c : ℕ) → receivers.May m r → IsShut r c → IsShut (receivers.moved m r) c
shut_move (receivers.Ask k) r c may h = record {
  asked = asked_more k c r.asked h.asked;
  closed = λ e. absurd (unlike (r.asked c) h.asked (subst (λ (j : ℕ). r.asked j ≡ false) (some_is k c e) may.1));
}
shut_move (receivers.Open k) r c may h = record { asked = h.asked; closed = h.closed }
shut_move (receivers.Grant k m n) r c may h = record { asked = h.asked; closed = h.closed }
shut_move (receivers.AskBack k m n) r c may h = h
shut_move (receivers.Close k) r c may h = record { asked = h.asked; closed = λ e. refl }
shut_move (receivers.Free k) r c may h = record { asked = h.asked; closed = λ e. absurd (let no : None ≡ Some c = e in cc) }
shut_move (receivers.Take z bits) r c may h = shut_same r (receivers.moved (receivers.Take z bits) r) c (same_come z bits r) h
shut_move (receivers.Hear (Str k z)) r c may h = record { asked = h.asked; closed = h.closed }
shut_move (receivers.Hear (Ret k m n)) r c may h = shut_same r (receivers.takes_back m n r.end r) c (same_back m n r.end r) h
shut_move (receivers.Hear (Cls k)) r c may h = record { asked = h.asked; closed = h.closed }
shut_move (receivers.Hear w) r c may h = h

-- ---- several

known_moves : (ms : List receivers.Move) (r : Receiver) → Known r → Known (all_received ms r)
known_moves [] r h = h
known_moves (m ∷ ms) r h = known_moves ms (receivers.moved m r) (known_move m r h)

asked_move : (m : receivers.Move) (r : Receiver) (c : ℕ) → r.asked c ≡ true → (receivers.moved m r).asked c ≡ true
asked_move (receivers.Ask k) r c h = asked_more k c r.asked h
asked_move (receivers.Take z bits) r c h = ap (λ (f : ℕ → Bool). f c) (same_come z bits r).asked ∙ h
asked_move (receivers.Hear (Ret k m n)) r c h = ap (λ (f : ℕ → Bool). f c) (same_back m n r.end r).asked ∙ h
asked_move (receivers.Hear (Str k z)) r c h = h
asked_move (receivers.Hear (Cls k)) r c h = h
asked_move (receivers.Hear w) r c h = h
asked_move m r c h = h

asked_moves : (ms : List receivers.Move) (r : Receiver) (c : ℕ) → r.asked c ≡ true → (all_received ms r).asked c ≡ true
asked_moves [] r c h = h
asked_moves (m ∷ ms) r c h = asked_moves ms (receivers.moved m r) c (asked_move m r c h)

-- an end that is there after moves was there before, where its connection had been asked for
back_move : (m : receivers.Move) (r : Receiver) (c : ℕ) → receivers.May m r → r.asked c ≡ true → (receivers.moved m r).end ≡ Some c → r.end ≡ Some c
back_move (receivers.Ask k) r c may asked e = absurd (unlike (r.asked c) asked (subst (λ (j : ℕ). r.asked j ≡ false) (some_is k c e) may.1))
back_move (receivers.Free k) r c may asked e = absurd (let no : None ≡ Some c = e in cc)
back_move (receivers.Take z bits) r c may asked e = sym (same_come z bits r).end ∙ e
back_move (receivers.Hear (Ret k m n)) r c may asked e = sym (same_back m n r.end r).end ∙ e
back_move (receivers.Hear (Str k z)) r c may asked e = e
back_move (receivers.Hear (Cls k)) r c may asked e = e
back_move (receivers.Hear w) r c may asked e = e
back_move m r c may asked e = e

back_moves : (ms : List receivers.Move) (r : Receiver) (c : ℕ) → MayAllReceive ms r → r.asked c ≡ true → (all_received ms r).end ≡ Some c → r.end ≡ Some c
back_moves [] r c may asked e = e
back_moves (m ∷ ms) r c may asked e = back_move m r c may.0 asked (back_moves ms (receivers.moved m r) c may.1 (asked_move m r c asked) e)

shut_moves : (ms : List receivers.Move) (r : Receiver) (c : ℕ) → MayAllReceive ms r → IsShut r c → IsShut (all_received ms r) c
shut_moves [] r c may h = h
shut_moves (m ∷ ms) r c may h = shut_moves ms (receivers.moved m r) c may.1 (shut_move m r c may.0 h)

-- ---- calls

-- where a user closes it
shut_here : (name : ℕ → ℕ → ℕ) (link c : ℕ) (k : Call) (q : PairState) (listening : List Listener) (r : Receiver) → Known r → MayAllReceive (received_at name link k q listening) r → IsClosing name link c k
    → IsShut (all_received (received_at name link k q listening) r) c
shut_here name link c (Closes socket e) q listening r known may i = by (receives_on link e) i.0 may where
  by : (v : Bool) → v ≡ true → MayAllReceive (if v then receivers.Close (named name e) ∷ [] else []) r → IsShut (all_received (if v then receivers.Close (named name e) ∷ [] else []) r) c
  by true t m = record { asked = subst (λ (j : ℕ). r.asked j ≡ true) i.1 (known _ m.0.0); closed = λ f. refl }
  by false t m = absurd (let no : false ≡ true = t in cc)
shut_here name link c k q listening r known may i = absurd i

module _ (number : ℕ → ℕ → ℕ → ℕ) (tells : IsTelling number) (peer : Host) (link : ℕ) where
  may_call : (m : calls.Moment) (own : List calls.Moment) → IsHistory peer (m ∷ own) → AreAllowed number peer link (m ∷ own) → MayAllReceive (received_at (name_now number peer own) link m.call m.pair m.listening) (receiver_now number peer link own)
  may_call m own i a =
      let holds : Holds number tells link (gone_now peer own) m.pair.entries (receiver_now number peer link own) (sender_now number peer link own) =
      subst (λ (es : List Entry). Holds number tells link (gone_now peer own) es (receiver_now number peer link own) (sender_now number peer link own)) (sym i.0) (holds_now number tells peer link own i.1 a.1) in
      (step_received number tells peer link (gone_now peer own) m.call m.pair m.listening (receiver_now number peer link own) (sender_now number peer link own) a.0 holds).0

  pub known_calls : (own : List calls.Moment) → Known (receiver_now number peer link own)
  known_calls [] c e = absurd (let no : None ≡ Some c = e in cc)
  known_calls (m ∷ own) c e = known_moves (received_at (name_now number peer own) link m.call m.pair m.listening) (receiver_now number peer link own) (known_calls own) c e

  pub asked_calls : (c : ℕ) (more own : List calls.Moment) → (receiver_now number peer link own).asked c ≡ true → (receiver_now number peer link (more ++ own)).asked c ≡ true
  asked_calls c [] own h = h
  asked_calls c (m ∷ more) own h = asked_moves (received_at (name_now number peer (more ++ own)) link m.call m.pair m.listening) (receiver_now number peer link (more ++ own)) c (asked_calls c more own h)

  pub end_back : (c : ℕ) (more own : List calls.Moment) → IsHistory peer (more ++ own) → AreAllowed number peer link (more ++ own) → (receiver_now number peer link own).asked c ≡ true → (receiver_now number peer link (more ++ own)).end ≡ Some c
      → (receiver_now number peer link own).end ≡ Some c
  end_back c [] own i a h e = e
  end_back c (m ∷ more) own i a h e =
      end_back c more own i.1 a.1 h
      (back_moves _ _ c (may_call m _ i a) (asked_calls c more own h) e)

  -- once a user has closed it
  pub closed_shut : (c : ℕ) (own : List calls.Moment) → IsHistory peer own → AreAllowed number peer link own → HasClosed number peer link c own → IsShut (receiver_now number peer link own) c
  closed_shut c [] i a h = absurd h
  closed_shut c (m ∷ own) i a (inl here) =
      shut_here _ link c m.call m.pair m.listening _ (known_calls own) (may_call m own i a) here
  closed_shut c (m ∷ own) i a (inr older) =
      shut_moves _ _ c (may_call m own i a) (closed_shut c own i.1 a.1 older)
