-- The lives of a host's book with one peer are carried by its calls at all lawful moments, if they are from each moment to the next.
use Rattle.world_keeps_streams.proofs.Common.{◌≡◌, ℕ, Bool, true, false, List, [], ◌∷◌, refl, sym, Host, ends_now, pair_with, HaveAddresses, Moment, event_in, events_of, program, crossings_of, keeps, mail_below, own_calls, Happened, Network, AreOurs}
use Rattle.interface.specs.Mailboxes as mail
use Rattle.world_keeps_streams.proofs.Carried.Calls.{Carries, carry_none}
use Rattle.world_keeps_streams.proofs.Carried.Moments.{dropped_next}
use Rattle.world_keeps_streams.proofs.Calls.Chain.{Chained, chain}

module _ (number : ℕ → ℕ → ℕ → ℕ) (hosts : Network) (addresses : HaveAddresses hosts.all) (a b : Host)
    (ours : AreOurs hosts a b) where
  -- a host that drops its ends has none
  pub dropped_none : (x : Moment) (ms : List Moment) → mail.IsRun hosts.all (crossings_of (x ∷ ms))
      → Happened hosts (x ∷ ms) → keeps a b (event_in x) (events_of ms) ≡ false
      → (pair_with b (program a (x ∷ ms)).peers).entries ≡ []
  dropped_none x ms run time off =
      let c : Chained a b (x ∷ ms) = chain hosts addresses (x ∷ ms) run time a b ours in
      let last : ends_now b (own_calls a b (x ∷ ms)) ≡ (pair_with b (program a (x ∷ ms)).peers).entries = c.1 in
      sym (rw off at last)

  -- what is left to show of a moment at which the host keeps its ends
  abbrev pub Keeping : Type 0
  Keeping = (x : Moment) (ms : List Moment) → mail.IsRun hosts.all (crossings_of (x ∷ ms)) → Happened hosts (x ∷ ms) → keeps a b (event_in x) (events_of ms) ≡ true → Carries number a b ms → Carries number a b (x ∷ ms)

  pub carries_by : Keeping → (ms : List Moment) → mail.IsRun hosts.all (crossings_of ms) → Happened hosts ms
      → Carries number a b ms
  carries_by next [] run time = carry_none a b number
  carries_by next (x ∷ ms) run time = by (carries_by next ms (mail_below hosts.all x ms run) time.1) (keeps a b (event_in x) (events_of ms)) refl where
    by : Carries number a b ms → (v : Bool) → keeps a b (event_in x) (events_of ms) ≡ v → Carries number a b (x ∷ ms)
    by old true e = next x ms run time e old
    by old false e = dropped_next number a b x ms e (dropped_none x ms run time e)
