-- The lives of a host with one peer are carried by its calls at a moment at which some host stops or starts.
use Rattle.world_keeps_streams.proofs.Common.{◌≡◌, ℕ, ◌==◌, ◌&&◌, not, Bool, true, false, List, ◌∷◌, refl, ap, ◌∙◌, Host, same_host, pair, AreAllowed, IsTelling, life_ended, lives_on, HaveAddresses, Crossed, Moment, event_in, events_of, crossings_of, same_host-sym, keeps, own_calls, Happened, Network, AreOurs}
use Rattle.interface.specs.Mailboxes as mail
use Rattle.interface.specs.declared.crossing.Crossing.TheVariants as crossing
use Rattle.promise.specs.declared.life.Life.{Life}
use Rattle.net_sim.specs.Told.{kept_in}
use Rattle.world_keeps_streams.proofs.Deeds.Effects.{Among}
use Rattle.world_keeps_streams.proofs.Steps.ActsAsked.{kept_stop}
use Rattle.world_keeps_streams.proofs.Carried.Calls.{Carries}
use Rattle.world_keeps_streams.proofs.Moments.AskedNext.{others_kept, unchanged_kept}

module _ (number : ℕ → ℕ → ℕ → ℕ) (tells : IsTelling number) (hosts : Network) (addresses : HaveAddresses hosts.all) (a b : Host) (ours : AreOurs hosts a b)
    (allowed : (ms : List Moment) → mail.IsRun hosts.all (crossings_of ms) → Happened hosts ms → (link : ℕ) → (link == 0) ≡ false → AreAllowed number b link (own_calls a b ms)) where
  -- a host that stops doesn't keep its ends, so that another one stops; and this ends only its own lives
  pub keeps_down : (h : Host) (ms : List Moment) → mail.IsRun hosts.all (crossings_of (Crossed (crossing.Down h) ∷ ms))
      → Happened hosts (Crossed (crossing.Down h) ∷ ms)
      → keeps a b (event_in (Crossed (crossing.Down h))) (events_of ms) ≡ true
      → Carries number a b ms → Carries number a b (Crossed (crossing.Down h) ∷ ms)
  keeps_down h ms run time on c =
      others_kept number tells hosts addresses a b ours allowed (Crossed (crossing.Down h)) ms run time on refl (lives_on h) life_ended (λ y. (refl, refl)) off refl c where
        other : same_host h a ≡ false
        other = same_host-sym h a ∙ kept_stop (same_host a h) (pair a b (events_of ms)) on

        off : (y : Life) → Among y (kept_in ms).book.lives → y.host ≡ a → y.peer ≡ b → lives_on h y ≡ false
        off y there host peer = ap (λ (g : Host). same_host h g && not y.ended) host ∙ ap (λ (v : Bool). v && not y.ended) other

  -- a host that starts changes no life
  pub keeps_up : (h : Host) (ms : List Moment) → mail.IsRun hosts.all (crossings_of (Crossed (crossing.Up h) ∷ ms))
      → Happened hosts (Crossed (crossing.Up h) ∷ ms)
      → keeps a b (event_in (Crossed (crossing.Up h))) (events_of ms) ≡ true
      → Carries number a b ms → Carries number a b (Crossed (crossing.Up h) ∷ ms)
  keeps_up h ms run time on c = unchanged_kept number tells hosts addresses a b ours allowed (Crossed (crossing.Up h)) ms run time on refl refl c
