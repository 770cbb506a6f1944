use Rattle.std.proofs.Common.{◌≡◌, ◌+◌, Bool, List, [], ◌∷◌, ◌++◌, drop, false, true, length, refl, ap, arith, subst, ◌∙◌, length-append}
use Rattle.interface.specs.declared.crossing.Crossing.{Crossing}
use Rattle.interface.specs.declared.crossing.Crossing.TheVariants as crossing
use Rattle.net_sim.specs.Carriers.{AreOfOneEvent, AreStops}
use Rattle.promise.specs.Worked.{first, opened, second, str}
use Rattle.headline.specs.Promise.{HasLog}
use Rattle.headline.proofs.worked.worked_logs.Goals as goal

pub returns-clause-all : goal.returns-clause-all
returns-clause-all c = record { unbooked = []; parts = refl; all = λ e. refl; one = tt }

-- as many crossings are unbooked as the log has more
sizes : (log book : List Crossing) (stopped : Bool) (h : HasLog log stopped book) → length log ≡ length h.unbooked + length book
sizes log book stopped h = ap length h.parts ∙ length-append h.unbooked book

-- and none before memory has run out
none : (log book : List Crossing) → HasLog log false book → length log ≡ length book
none log book h =
    let all : length log ≡ length h.unbooked + length book = sizes log book false h in
    let no : length h.unbooked ≡ 0 = ap length (h.all refl) in
    omega (arith, all, no)

pub returns-clause-empty : goal.returns-clause-empty
returns-clause-empty c h = let same : 4 ≡ 0 = none opened [] h in omega (arith, same)

pub returns-clause-last : goal.returns-clause-last
returns-clause-last c h = let same : 4 ≡ 3 = none opened (drop 1 opened) h in omega (arith, same)

pub returns-clause-other : goal.returns-clause-other
returns-clause-other c h = by h.unbooked h.parts where
  by : (u : List Crossing) → opened ≡ u ++ crossing.Down first ∷ drop 1 opened → ⊥
  by [] e = absurd (let no : crossing.In str ∷ drop 1 opened ≡ crossing.Down first ∷ drop 1 opened = e in cc)
  by (x ∷ xs) e =
      let long : 4 ≡ length ((x ∷ xs) ++ crossing.Down first ∷ drop 1 opened) = ap length e in
      let both : length ((x ∷ xs) ++ crossing.Down first ∷ drop 1 opened) ≡ length (x ∷ xs) + 4 =
      length-append (x ∷ xs) (crossing.Down first ∷ drop 1 opened) in
      omega (arith, long, both)

pub returns-clause-stopped : goal.returns-clause-stopped
returns-clause-stopped c = record {
  unbooked = crossing.In str ∷ [];
  parts = refl;
  all = λ e. absurd (let no : true ≡ false = e in cc);
  one = tt;
}

pub returns-clause-two : goal.returns-clause-two
returns-clause-two c h = by h.unbooked h.parts h.one where
  by : (u : List Crossing) → opened ≡ u ++ drop 2 opened → AreOfOneEvent u → ⊥
  by [] e one = let long : 4 ≡ 2 = ap length e in omega (arith, long)
  by (x ∷ []) e one = let long : 4 ≡ 3 = ap length e in omega (arith, long)
  by (x ∷ y ∷ xs) e one = subst (λ (d : Crossing). AreStops (d ∷ y ∷ xs)) (let same : crossing.In str ∷ drop 1 opened ≡ x ∷ (y ∷ (xs ++ drop 2 opened)) = e in let is : x ≡ crossing.In str = cc in is) one

pub returns-clause-stops : goal.returns-clause-stops
returns-clause-stops c = record {
  unbooked = crossing.Down first ∷ crossing.Down second ∷ [];
  parts = refl;
  all = λ e. absurd (let no : true ≡ false = e in cc);
  one = tt;
}
