use Rattle.std.proofs.Common.{◌≡◌, refl, inl, arith}
use Rattle.pairing_law.proofs.law.worked_runs.Goals as goal

pub returns-clause-stale_breaks : goal.returns-clause-stale_breaks
returns-clause-stale_breaks c s = let e : 3 ≡ 8 = s.both_ways.0 (record { own = 8; partner = 6 }) (record { own = 6; partner = 3 }) (inl refl) (inl refl) refl in omega (arith, e)

pub returns-clause-unreset_breaks : goal.returns-clause-unreset_breaks
returns-clause-unreset_breaks c s = let e : 3 ≡ 7 = s.both_ways.0 (record { own = 7; partner = 5 }) (record { own = 5; partner = 3 }) (inl refl) (inl refl) refl in omega (arith, e)
