-- Ends that two users know of, in a run of the law of pairing.
use Rattle.host_keeps_pairing.proofs.Common.{inl, inr, List, [], ◌∷◌, sym, subst, End, Life, Knows}
use Rattle.pairing_law.specs.Partners.{IsIn, IsOpen}
use Rattle.pairing_law.specs.Sides.{Event, IsRun, both}
use Rattle.pairing_law.proofs.lemmas.{joined_run, open_match}
use Rattle.host_keeps_pairing.specs.Known.{ArePartners}

known_open : (x : Life) (known : List Life) (e : End) → IsIn x known → Knows known e → IsOpen x.own x.partner e
known_open x [] e i h = absurd i
known_open x (l ∷ known) e (inl same) h = subst (λ (y : Life). IsOpen y.own y.partner e) (sym same) h.0
known_open x (l ∷ known) e (inr i) h = known_open x known e i h.1

pub known_match : (events : List Event) (known others : List Life) (x y : Life) → IsRun events → Knows known (both events).one.end → Knows others (both events).two.end → IsIn x known → IsIn y others → ArePartners x y
known_match events known others x y run k j i l =
    open_match _ _ x.own _ y.own _ (joined_run events run) (known_open x known _ i k) (known_open y others _ l j)
