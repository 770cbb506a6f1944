-- A moment at which a host makes no call with its peer leaves the lives of the two carried as they were.
use Rattle.world_keeps_streams.proofs.Common.{◌≡◌, ℕ, true, List, [], ◌∷◌, ◌++◌, drop, sym, subst, Host, Entry, gone_now, receiver_now, sender_now, pair_with, Moment, event_in, events_of, program, keeps, calls_by, own_calls}
use Rattle.host_keeps_streams.specs.Histories as calls
use Rattle.promise.specs.declared.life.Life.{Life}
use Rattle.net_sim.specs.Told.{kept_in}
use Rattle.world_keeps_streams.proofs.Deeds.Effects.{Among}
use Rattle.world_keeps_streams.proofs.Carried.Calls.{Named, Carries, CarryIn, recent, since}
use Rattle.world_keeps_streams.proofs.Carried.Moments.{carry_moved}

-- the lives of these two in one list are those in another
abbrev pub AreIn : Host → Host → List Life → List Life → Type 0
AreIn a b lives others = (x : Life) → x.host ≡ a → x.peer ≡ b → Among x lives → Among x others

pub still_next : (number : ℕ → ℕ → ℕ → ℕ) (a b : Host) (x : Moment) (ms : List Moment) → keeps a b (event_in x) (events_of ms) ≡ true → calls_by a b x ms ≡ []
    → (pair_with b (program a (x ∷ ms)).peers).entries ≡ (pair_with b (program a ms).peers).entries
    → AreIn a b (recent a b ms) (drop (since a b ms) (kept_in (x ∷ ms)).book.lives) → AreIn a b (drop (since a b ms) (kept_in (x ∷ ms)).book.lives) (recent a b ms)
    → Carries number a b ms → Carries number a b (x ∷ ms)
still_next number a b x ms on none same forth back c = rw on whole where
  moved : CarryIn a b number (own_calls a b ms) (pair_with b (program a ms).peers).entries (drop (since a b ms) (kept_in (x ∷ ms)).book.lives)
  moved = carry_moved (Named number b (own_calls a b ms)) a b number (gone_now b (own_calls a b ms)) (pair_with b (program a ms).peers).entries (λ link. receiver_now number b link (own_calls a b ms)) (λ link. sender_now number b link (own_calls a b ms))
      (recent a b ms) (drop (since a b ms) (kept_in (x ∷ ms)).book.lives) forth back c

  whole : CarryIn a b number (calls_by a b x ms ++ own_calls a b ms) (pair_with b (program a (x ∷ ms)).peers).entries (drop (since a b ms) (kept_in (x ∷ ms)).book.lives)
  whole = subst (λ (cs : List calls.Moment). CarryIn a b number (cs ++ own_calls a b ms) (pair_with b (program a (x ∷ ms)).peers).entries (drop (since a b ms) (kept_in (x ∷ ms)).book.lives)) (sym none)
      (subst (λ (es : List Entry). CarryIn a b number (own_calls a b ms) es (drop (since a b ms) (kept_in (x ∷ ms)).book.lives)) (sym same) moved)
