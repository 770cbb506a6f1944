-- Of which connections moves change what the law knows.
use Rattle.host_keeps_streams.proofs.Common.{◌≡◌, ℕ, Bool, true, false, ◌&&◌, ◌==◌, List, [], ◌∷◌, ◌++◌, length, Option, Some, None, refl, sym, subst, ne_eqb, Allocation, covers, holds, Receiver, Sender, all_received, all_sent}
use Rattle.ncp_control.specs.Allocation as counters
use Rattle.stream_law.specs.Words as words
use Rattle.stream_law.specs.Words.{is_size}
use Rattle.stream_law.specs.Receivers as receivers
use Rattle.stream_law.specs.Senders as senders
use Rattle.stream_law.proofs.lemmas.{some_is}
use Rattle.host_keeps_streams.proofs.Known.{goes_some}

-- ---- receivers

-- the law's receiver knows nothing of this connection
pub record IsUnknown (c : ℕ) (r : Receiver) : Type 0 where
  pub unasked : r.asked c ≡ false
  pub untold : r.size c ≡ None
  pub unheard : r.over c ≡ false

-- a move that notifies it of something is of a connection of these
abbrev pub Concerns : (ℕ → Type 0) → receivers.Move → Type 0
Concerns P (receivers.Ask c) = P c
Concerns P (receivers.Hear (words.Str c z)) = P c
Concerns P (receivers.Hear (words.Cls c)) = P c
Concerns P m = Unit {0}

abbrev pub AllConcern : (ℕ → Type 0) → List receivers.Move → Type 0
AllConcern P [] = Unit {0}
AllConcern P (m ∷ ms) = Concerns P m × AllConcern P ms

module _ (P : ℕ → Type 0) (c : ℕ) (out : P c → ⊥) where
  other : (k : ℕ) → P k → (c == k) ≡ false
  other k p = ne_eqb c k (λ same. out (subst P (sym same) p))

  taken_back : (m n : ℕ) (o : Option ℕ) (r : Receiver) → IsUnknown c r → IsUnknown c (receivers.takes_back m n o r)
  taken_back m n None r u = u
  taken_back m n (Some k) r u = by (receivers.is_open k r && holds r.allocation m n) refl where
    by : (v : Bool) → (receivers.is_open k r && holds r.allocation m n) ≡ v → IsUnknown c (receivers.takes_back m n (Some k) r)
    by true t = rw t (record { unasked = u.unasked; untold = u.untold; unheard = u.unheard })
    by false t = rw t u

  data_taken : (z : ℕ) (bits : List Bool) (o : Option ℕ) (r : Receiver) → IsUnknown c r → IsUnknown c (receivers.takes z bits o r)
  data_taken z bits None r u = u
  data_taken z bits (Some k) r u = by (receivers.is_open k r && is_size z (r.size k) && covers r.allocation (length bits)) refl where
    by : (v : Bool) → (receivers.is_open k r && is_size z (r.size k) && covers r.allocation (length bits)) ≡ v → IsUnknown c (receivers.takes z bits (Some k) r)
    by true t = rw t (record { unasked = u.unasked; untold = u.untold; unheard = u.unheard })
    by false t = rw t u

  heard_one : (w : words.Word) (r : Receiver) → Concerns P (receivers.Hear w) → IsUnknown c r → IsUnknown c (receivers.hears w r)
  heard_one (words.Str k z) r p u = let away : (c == k) ≡ false = other k p in record { unasked = u.unasked; untold = (rw away u.untold); unheard = u.unheard }
  heard_one (words.Cls k) r p u = let away : (c == k) ≡ false = other k p in record { unasked = u.unasked; untold = u.untold; unheard = (rw away u.unheard) }
  heard_one (words.Ret k m n) r p u = taken_back m n r.end r u
  heard_one w r p u = u

  moved_one : (m : receivers.Move) (r : Receiver) → Concerns P m → IsUnknown c r → IsUnknown c (receivers.moved m r)
  moved_one (receivers.Ask k) r p u = let away : (c == k) ≡ false = other k p in record { unasked = (rw away u.unasked); untold = u.untold; unheard = u.unheard }
  moved_one (receivers.AskBack k m n) r p u = u
  moved_one (receivers.Hear w) r p u = heard_one w r p u
  moved_one (receivers.Take z bits) r p u = let t : IsUnknown c (receivers.takes z bits r.end r) = data_taken z bits r.end r u in record { unasked = t.unasked; untold = t.untold; unheard = t.unheard }
  moved_one m r p u = record { unasked = u.unasked; untold = u.untold; unheard = u.unheard }

  -- what is unknown stays so by moves of others
  pub still_unknown : (ms : List receivers.Move) (r : Receiver) → AllConcern P ms → IsUnknown c r → IsUnknown c (all_received ms r)
  still_unknown [] r a u = u
  still_unknown (m ∷ ms) r a u = still_unknown ms (receivers.moved m r) a.1 (moved_one m r a.0 u)

-- ---- senders

pub record IsUnsaid (c : ℕ) (s : Sender) : Type 0 where
  pub untold : s.size c ≡ None
  pub unclosed : s.closed c ≡ false
  pub unheard : s.end ≡ Some c → ⊥

abbrev pub ConcernsSent : (ℕ → Type 0) → senders.Move → Type 0
ConcernsSent P (senders.Ask c z) = P c
ConcernsSent P (senders.Close c) = P c
ConcernsSent P (senders.Hear (words.Rts c)) = P c
ConcernsSent P m = Unit {0}

abbrev pub AllConcernSent : (ℕ → Type 0) → List senders.Move → Type 0
AllConcernSent P [] = Unit {0}
AllConcernSent P (m ∷ ms) = ConcernsSent P m × AllConcernSent P ms

pub concern_both : (P : ℕ → Type 0) (xs ys : List senders.Move) → AllConcernSent P xs → AllConcernSent P ys → AllConcernSent P (xs ++ ys)
concern_both P [] ys a b = b
concern_both P (x ∷ xs) ys a b = (a.0, concern_both P xs ys a.1 b)

module _ (P : ℕ → Type 0) (c : ℕ) (out : P c → ⊥) where
  begun : (k : ℕ) (o : Option ℕ) (s : Sender) → P k → IsUnsaid c s → IsUnsaid c (senders.begins k o s)
  begun k None s p u = record { untold = u.untold; unclosed = u.unclosed; unheard = λ e. out (subst P (some_is k c e) p) }
  begun k (Some own) s p u = u

  counted : (f : Allocation → Allocation) (o : Option ℕ) (s : Sender) → IsUnsaid c s → IsUnsaid c (senders.with_allocation o f s)
  counted f None s u = u
  counted f (Some k) s u = by (senders.is_open k s) refl where
    by : (v : Bool) → senders.is_open k s ≡ v → IsUnsaid c (senders.with_allocation (Some k) f s)
    by true t = rw t (record { untold = u.untold; unclosed = u.unclosed; unheard = u.unheard })
    by false t = rw t u

  shut : (k : ℕ) (o : Option ℕ) (s : Sender) → IsUnsaid c s → IsUnsaid c (senders.shuts k o s)
  shut k None s u = u
  shut k (Some own) s u = by (own == k) (s.closed k) refl refl where
    by : (v w : Bool) → (own == k) ≡ v → s.closed k ≡ w → IsUnsaid c (senders.shuts k (Some own) s)
    by true true t f = rw (t, f) (record { untold = u.untold; unclosed = u.unclosed; unheard = λ e. absurd (cc) })
    by true false t f = rw (t, f) (record { untold = u.untold; unclosed = u.unclosed; unheard = u.unheard })
    by false w t f = rw t u

  word_sent : (w : words.Word) (s : Sender) → ConcernsSent P (senders.Hear w) → IsUnsaid c s → IsUnsaid c (senders.hears w s)
  word_sent (words.Rts k) s p u = begun k s.end s p u
  word_sent (words.All k m n) s p u = counted _ s.end s u
  word_sent (words.Gvb k m n) s p u = counted _ s.end s u
  word_sent (words.Cls k) s p u = shut k s.end s u
  word_sent (words.Str k z) s p u = u
  word_sent (words.Ret k m n) s p u = u

  sent_one : (m : senders.Move) (s : Sender) → ConcernsSent P m → IsUnsaid c s → IsUnsaid c (senders.moved m s)
  sent_one (senders.Ask k z) s p u = let away : (c == k) ≡ false = ne_eqb c k (λ same. out (subst P (sym same) p)) in record { untold = (rw away u.untold); unclosed = u.unclosed; unheard = u.unheard }
  sent_one (senders.Open k) s p u = record { untold = u.untold; unclosed = u.unclosed; unheard = u.unheard }
  sent_one (senders.Send k z bits) s p u = record { untold = u.untold; unclosed = u.unclosed; unheard = u.unheard }
  sent_one (senders.Close k) s p u =
      let away : (c == k) ≡ false = ne_eqb c k (λ same. out (subst P (sym same) p)) in
      record { untold = u.untold; unclosed = (rw away u.unclosed); unheard = λ e. u.unheard (goes_some k s.shut s.end c e) }
  sent_one (senders.Hear w) s p u = word_sent w s p u
  sent_one senders.Told s p u = u

  pub still_unsaid : (ms : List senders.Move) (s : Sender) → AllConcernSent P ms → IsUnsaid c s → IsUnsaid c (all_sent ms s)
  still_unsaid [] s a u = u
  still_unsaid (m ∷ ms) s a u = still_unsaid ms (senders.moved m s) a.1 (sent_one m s a.0 u)
