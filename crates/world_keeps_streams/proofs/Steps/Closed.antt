-- A connection that the law's sender has closed stays closed, and nothing is sent in it any more.
use Rattle.world_keeps_streams.proofs.Common.{◌≡◌, ℕ, ◌==◌, Bool, true, false, if◌then◌else◌, List, [], ◌∷◌, ◌++◌, Option, Some, None, refl, ap, sym, subst, ◌∙◌, eqb-true, Host, Allocation, Entry}
use Rattle.stream_law.specs.Words.{Word, Rts, All, Gvb, Cls, for}
use Rattle.host_keeps_streams.specs.Closings.{all_sent, MayAllSend}
use Rattle.host_keeps_streams.specs.Histories.{AreAllowed, IsHistory, IsTelling, gone_now, name_now, receiver_now, sender_now, sent_at}
use Rattle.host_keeps_streams.proofs.lemmas.{holds_now, Holds, step_sent}
use Rattle.ncp_control.specs.Allocation as counters
use Rattle.stream_law.specs.Senders as senders
use Rattle.stream_law.specs.Senders.{Sender}
use Rattle.host_keeps_streams.specs.Histories as calls
use Rattle.world_keeps_streams.proofs.Facts.{last_off}

pub record Kept (old new : Sender) (c : ℕ) : Type 0 where
  pub closed : new.closed c ≡ true
  pub sent : new.sent c ≡ old.sent c

module _ (s : Sender) (c : ℕ) (o : s.closed c ≡ true) where
  itself : Kept s s c
  itself = record { closed = o; sent = refl }

  kept_allocated : (e : Option ℕ) (change : Allocation → Allocation) → Kept s (senders.with_allocation e change s) c
  kept_allocated None change = itself
  kept_allocated (Some k) change = by (senders.is_open k s) where
    by : (v : Bool) → Kept s (if v then record s { allocation = change s.allocation } else s) c
    by true = record { closed = o; sent = refl }
    by false = itself

  kept_begins : (k : ℕ) (e : Option ℕ) → Kept s (senders.begins k e s) c
  kept_begins k None = record { closed = o; sent = refl }
  kept_begins k (Some other) = itself

  kept_shuts : (k : ℕ) (e : Option ℕ) → Kept s (senders.shuts k e s) c
  kept_shuts k None = itself
  kept_shuts k (Some own) = by (own == k) (s.closed k) where
    by : (v w : Bool) → Kept s (if v then (if w then record s { end = None } else record s { shut = true }) else s) c
    by true true = record { closed = o; sent = refl }
    by true false = record { closed = o; sent = refl }
    by false w = itself

  kept_hears : (w : Word) → Kept s (senders.hears w s) c
  kept_hears (Rts k) = kept_begins k s.end
  kept_hears (All k m n) = kept_allocated s.end _
  kept_hears (Gvb k m n) = kept_allocated s.end _
  kept_hears (Cls k) = kept_shuts k s.end
  kept_hears w = itself

  still_closed : (k : ℕ) → for k true s.closed c ≡ true
  still_closed k = by (c == k) where
    by : (v : Bool) → (if v then true else s.closed c) ≡ true
    by true = refl
    by false = o

  -- what is sent is of an end that isn't closed
  not_sent : (k : ℕ) (bits : List Bool) → senders.is_open k s ≡ true → for k (s.sent k ++ bits ∷ []) s.sent c ≡ s.sent c
  not_sent k bits opened = by (c == k) refl where
    by : (v : Bool) → (c == k) ≡ v → (if v then s.sent k ++ bits ∷ [] else s.sent c) ≡ s.sent c
    by true e = absurd (let no : true ≡ false = sym o ∙ ap s.closed (eqb-true c k e) ∙ last_off s.opened s.shut _ opened in cc)
    by false e = refl

  kept_move : (m : senders.Move) → senders.May m s → Kept s (senders.moved m s) c
  kept_move (senders.Ask k z) may = record { closed = o; sent = refl }
  kept_move (senders.Open k) may = record { closed = o; sent = refl }
  kept_move (senders.Send k z bits) may = record { closed = o; sent = not_sent k bits may.1 }
  kept_move (senders.Close k) may = record { closed = still_closed k; sent = refl }
  kept_move (senders.Hear w) may = kept_hears w
  kept_move senders.Told may = itself

kept_moves : (ms : List senders.Move) (s : Sender) (c : ℕ) → MayAllSend ms s → s.closed c ≡ true → Kept s (all_sent ms s) c
kept_moves [] s c may o = itself s c o
kept_moves (m ∷ ms) s c may o =
    let one : Kept s (senders.moved m s) c = kept_move s c o m may.0 in
    let more : Kept (senders.moved m s) (all_sent ms (senders.moved m s)) c = kept_moves ms (senders.moved m s) c may.1 one.closed in
    record { closed = more.closed; sent = more.sent ∙ one.sent }

-- by more calls
pub kept_calls : (number : ℕ → ℕ → ℕ → ℕ) (tells : IsTelling number) (peer : Host) (link c : ℕ) (more own : List calls.Moment) → IsHistory peer (more ++ own) → AreAllowed number peer link (more ++ own) → (sender_now number peer link own).closed c ≡ true
    → Kept (sender_now number peer link own) (sender_now number peer link (more ++ own)) c
kept_calls number tells peer link c [] own i a o = itself (sender_now number peer link own) c o
kept_calls number tells peer link c (m ∷ more) own i a o =
    let before : Kept (sender_now number peer link own) (sender_now number peer link (more ++ own)) c = kept_calls number tells peer link c more own i.1 a.1 o in
    let holds : Holds number tells link (gone_now peer (more ++ own)) m.pair.entries (receiver_now number peer link (more ++ own)) (sender_now number peer link (more ++ own)) =
    subst (λ (es : List Entry). Holds number tells link (gone_now peer (more ++ own)) es (receiver_now number peer link (more ++ own)) (sender_now number peer link (more ++ own))) (sym i.0) (holds_now number tells peer link _ i.1 a.1) in
    let may : MayAllSend (sent_at _ link m.call m.pair m.listening (sender_now number peer link (more ++ own))) (sender_now number peer link (more ++ own)) =
    (step_sent number tells peer link (gone_now peer (more ++ own)) m.call m.pair m.listening (receiver_now number peer link (more ++ own)) (sender_now number peer link (more ++ own)) a.0 holds).may in
    let last : Kept (sender_now number peer link (more ++ own)) (sender_now number peer link (m ∷ (more ++ own))) c =
    kept_moves _ _ c may before.closed in
    record { closed = last.closed; sent = last.sent ∙ before.sent }
