-- Lines, ports and neighbours.
use Rattle.std.proofs.Common.{◌≡◌, ℕ, zero, suc, ◌<◌, ◌==◌, Bool, true, false, List, [], ◌∷◌, length, get_or, Option, Some, None, refl, sym, ◌∙◌, ap, arith, inl, inr, if◌then◌else◌, unwrap_or}
use Rattle.std.specs.Prelude.{◌⊎◌, Contains}
use Rattle.std.specs.List.{cons_option}
use Rattle.std.proofs.lemmas.Bool.{eq-eqb, eqb-true}
use Rattle.routing.specs.Walks.{AreJoined}
use Rattle.routing.specs.Settle.{other_end, neighbours}

-- a port of these leads to an IMP
pub record LeadsTo (ports : List ℕ) (imp : ℕ) : Type 0 where
  pub port : ℕ
  pub there : port < length ports
  pub is : get_or ports port 0 ≡ imp

leads_cons : (o : Option ℕ) (ports : List ℕ) (imp : ℕ) → LeadsTo ports imp → LeadsTo (cons_option o ports) imp
leads_cons None ports imp l = l
leads_cons (Some x) ports imp l = record { port = suc l.port; there = omega (arith, l.there); is = l.is }

leads_first : (o : Option ℕ) (ports : List ℕ) (imp : ℕ) → o ≡ Some imp → LeadsTo (cons_option o ports) imp
leads_first None ports imp e = absurd cc
leads_first (Some x) ports imp e = record { port = 0; there = omega arith; is = ap (λ (o : Option ℕ). unwrap_or o 0) e }

end_of_first : (a b : ℕ) → other_end a (a, b) ≡ Some b
end_of_first a b = (let same : (a == a) ≡ true = eq-eqb a a refl in rw same refl)

end_on_test : (t : Bool) (a b : ℕ) → (t ≡ true → a ≡ b) → (if t then Some a else (if a == a then Some b else None)) ≡ Some b
end_on_test true a b same = ap (λ (n : ℕ). Some n) (same refl)
end_on_test false a b same = (let here : (a == a) ≡ true = eq-eqb a a refl in rw here refl)

end_of_second : (a b : ℕ) → other_end a (b, a) ≡ Some b
end_of_second a b = end_on_test (b == a) a b (λ e. sym (eqb-true b a e))

-- a line from an IMP is one of its ports
port_from : (graph : List (ℕ × ℕ)) (a b : ℕ) → Contains graph (a, b) → LeadsTo (neighbours graph a) b
port_from [] a b line = absurd (omega (arith, line.1))
port_from (l ∷ graph) a b (zero, there, e) = leads_first (other_end a l) (neighbours graph a) b (ap (λ (l : ℕ × ℕ). other_end a l) e ∙ end_of_first a b)
port_from (l ∷ graph) a b (suc k, there, e) = leads_cons (other_end a l) (neighbours graph a) b (port_from graph a b (k, omega (arith, there), e))

-- and so is a line to it
port_to : (graph : List (ℕ × ℕ)) (a b : ℕ) → Contains graph (b, a) → LeadsTo (neighbours graph a) b
port_to [] a b line = absurd (omega (arith, line.1))
port_to (l ∷ graph) a b (zero, there, e) = leads_first (other_end a l) (neighbours graph a) b (ap (λ (l : ℕ × ℕ). other_end a l) e ∙ end_of_second a b)
port_to (l ∷ graph) a b (suc k, there, e) = leads_cons (other_end a l) (neighbours graph a) b (port_to graph a b (k, omega (arith, there), e))

pub joined_port : (graph : List (ℕ × ℕ)) (a b : ℕ) → AreJoined graph a b → LeadsTo (neighbours graph a) b
joined_port graph a b (inl line) = port_from graph a b line
joined_port graph a b (inr line) = port_to graph a b line

-- the line that has an IMP at its other end has it at one of its ends
same_ends : (x y a b : ℕ) → x ≡ a → y ≡ b → ◌≡◌ {A = ℕ × ℕ} (x, y) (a, b)
same_ends x y a b first second = rw (first, second) refl

end_cases : (s t : Bool) (x y a b : ℕ) → (s ≡ true → x ≡ a) → (t ≡ true → y ≡ a) → (if s then Some y else (if t then Some x else None)) ≡ Some b
    → (◌≡◌ {A = ℕ × ℕ} (x, y) (a, b)) ⊎ (◌≡◌ {A = ℕ × ℕ} (x, y) (b, a))
end_cases true t x y a b first second e = inl (same_ends x y a b (first refl) (ap (λ (o : Option ℕ). unwrap_or o 0) e))
end_cases false true x y a b first second e = inr (same_ends x y b a (ap (λ (o : Option ℕ). unwrap_or o 0) e) (second refl))
end_cases false false x y a b first second e = absurd cc

end_is : (line : ℕ × ℕ) (a b : ℕ) → other_end a line ≡ Some b → (line ≡ (a, b)) ⊎ (line ≡ (b, a))
end_is line a b e = end_cases (line.0 == a) (line.1 == a) line.0 line.1 a b (eqb-true line.0 a) (eqb-true line.1 a) e

joined_first : (line : ℕ × ℕ) (graph : List (ℕ × ℕ)) (a b : ℕ) → (line ≡ (a, b)) ⊎ (line ≡ (b, a)) → AreJoined (line ∷ graph) a b
joined_first line graph a b (inl e) = inl (0, omega arith, e)
joined_first line graph a b (inr e) = inr (0, omega arith, e)

joined_later : (line : ℕ × ℕ) (graph : List (ℕ × ℕ)) (a b : ℕ) → AreJoined graph a b → AreJoined (line ∷ graph) a b
joined_later line graph a b (inl l) = inl (suc l.0, omega (arith, l.1), l.2)
joined_later line graph a b (inr l) = inr (suc l.0, omega (arith, l.1), l.2)

-- an IMP is joined to each of its neighbours
port_joined_by : (o : Option ℕ) (line : ℕ × ℕ) (graph : List (ℕ × ℕ)) (a port : ℕ) → other_end a line ≡ o
    → ((port : ℕ) → port < length (neighbours graph a) → AreJoined graph a (get_or (neighbours graph a) port 0))
    → port < length (cons_option o (neighbours graph a)) → AreJoined (line ∷ graph) a (get_or (cons_option o (neighbours graph a)) port 0)
port_joined_by None line graph a port e later there = joined_later line graph a _ (later port there)
port_joined_by (Some x) line graph a zero e later there = joined_first line graph a x (end_is line a x e)
port_joined_by (Some x) line graph a (suc port) e later there = joined_later line graph a _ (later port (omega (arith, there)))

pub port_joined : (graph : List (ℕ × ℕ)) (a port : ℕ) → port < length (neighbours graph a) → AreJoined graph a (get_or (neighbours graph a) port 0)
port_joined [] a port there = absurd (omega (arith, there))
port_joined (line ∷ graph) a port there = port_joined_by (other_end a line) line graph a port refl (λ port there. port_joined graph a port there) there
