-- What the answers to queries say.
use Rattle.imp_node.proofs.Common.{list_any, cases_Bool, HostMessage, State, is_up, last}
use Rattle.std.proofs.Common.{◌≡◌, Bool, true, false, not, List, [], ◌∷◌, Some, None, refl, ap, ◌&&◌, ◌||◌, ◌⊎◌, inl, inr, All, Any, if◌then◌else◌}
use Rattle.std.proofs.lemmas.List.Elements.{All-nil, All-cons}
use Rattle.std.proofs.lemmas.List.Folds.{Any-from_list_any}
use Rattle.interface.specs.declared.carrier.CarrierFault.TheVariants as fault
use Rattle.imp_node.specs.Flows.{is_idle, next_number}
use Rattle.imp_node.specs.Offering.{Way, Nowhere, Here, Away, is_own, goes, begins, way_of, way_has_room, from_host, from_host_refusal}
use Rattle.imp_node.specs.Sides.{Sender}
use Rattle.imp_node.specs.Moves.{OfferMoves}
use Rattle.imp_node.proofs.SidesOfCalls.{from_host_moves}

-- ---- tests over two lists

none_any : {X : Type 0} (p : X → Bool) (xs : List X) → list_any p xs ≡ false → All (λ x. p x ≡ false) xs
none_any p [] fails = All-nil (λ x. p x ≡ false)
none_any p (x ∷ xs) fails = by (cases_Bool (p x)) (none_any p xs) where
  by : (p x ≡ true) ⊎ (p x ≡ false) → (list_any p xs ≡ false → All (λ y. p y ≡ false) xs) → All (λ y. p y ≡ false) (x ∷ xs)
  by (inl holds_so) rest = let both : true ≡ false = rw holds_so at fails in cc
  by (inr other) rest = All-cons (λ y. p y ≡ false) x xs other (rest (rw other at fails))

pub found : {X Y : Type 0} (p : X → Bool) (q : Y → Bool) (xs : List X) (ys : List Y) → (list_any p xs || list_any q ys) ≡ true → Any (λ x. p x ≡ true) xs ⊎ Any (λ y. q y ≡ true) ys
found p q xs ys holds_so = elim (cases_Bool (list_any p xs)) [
  | inl first ↦ inl (Any-from_list_any p xs first)
  | inr none ↦ inr (Any-from_list_any q ys (rw none at holds_so))
]

pub not_found : {X Y : Type 0} (p : X → Bool) (q : Y → Bool) (xs : List X) (ys : List Y) → (list_any p xs || list_any q ys) ≡ false → All (λ x. p x ≡ false) xs × All (λ y. q y ≡ false) ys
not_found p q xs ys fails = elim (cases_Bool (list_any p xs)) [
  | inl first ↦ let both : true ≡ false = rw first at fails in cc
  | inr none ↦ (none_any p xs none, none_any q ys (rw none at fails))
]

-- ---- what would begin a number

-- the refusals before want of room, and the question, over the four tests that they share
begun_by : (own up idle any room : Bool) → (own && (up && (idle && any))) ≡ true
    → (if not own then Some fault.NoSuch else (if not up then Some fault.IsDown else (if not idle then Some fault.Blocked else (if not room then Some fault.NoRoom else None)))) ≡ (if room then None else Some fault.NoRoom)
begun_by true true true true true holds_so = refl
begun_by true true true true false holds_so = refl
begun_by true true true false room holds_so = cc
begun_by true true false any room holds_so = cc
begun_by true false idle any room holds_so = cc
begun_by false up idle any room holds_so = cc

goes_by : (own up idle any : Bool) → (own && (up && (idle && any))) ≡ true → any ≡ true
goes_by true true true any holds_so = holds_so
goes_by true true false any holds_so = cc
goes_by true false idle any holds_so = cc
goes_by false up idle any holds_so = cc

stays_by : (own up idle any room : Bool) → (own && (up && (idle && any))) ≡ false
    → (if not own then Some fault.NoSuch else (if not up then Some fault.IsDown else (if not idle then Some fault.Blocked else (if not room then Some fault.NoRoom else None)))) ≡ None → any ≡ false
stays_by true true true any room fails accepted = fails
stays_by true true false any room fails accepted = cc
stays_by true false idle any room fails accepted = cc
stays_by false up idle any room fails accepted = cc

pub begins_refusal : (s : State) (m : HostMessage) → begins s m.flow ≡ true → from_host_refusal s m ≡ (if way_has_room (way_of s m.flow) s m then None else Some fault.NoRoom)
begins_refusal s m holds_so = begun_by _ _ _ _ _ holds_so

number_by : (way : Way) (m : HostMessage) (s t : State) → OfferMoves way m s t → goes way ≡ true → last t m.flow ≡ Some (next_number s m.flow)
number_by Nowhere m s t moved holds_so = cc
number_by Here m s t moved holds_so = ap (λ (side : Sender). side.last) moved.sender
number_by Away m s t moved holds_so = ap (λ (side : Sender). side.last) moved.sender

pub begins_number : (s : State) (m : HostMessage) → begins s m.flow ≡ true → last (from_host s m).state m.flow ≡ Some (next_number s m.flow)
begins_number s m holds_so =
    number_by _ m s _ (from_host_moves s m)
    (goes_by (is_own s m.flow.source) (is_up s _) (is_idle s m.flow) _ holds_so)

no_number_by : (way : Way) (m : HostMessage) (s t : State) → OfferMoves way m s t → goes way ≡ false → last t m.flow ≡ last s m.flow
no_number_by Nowhere m s t moved fails = ap (λ (side : Sender). side.last) moved.sender
no_number_by Here m s t moved fails = cc
no_number_by Away m s t moved fails = cc

pub begins_nothing : (s : State) (m : HostMessage) → begins s m.flow ≡ false → from_host_refusal s m ≡ None → last (from_host s m).state m.flow ≡ last s m.flow
begins_nothing s m fails accepted =
    no_number_by _ m s _ (from_host_moves s m)
    (stays_by _ _ _ _ _ fails accepted)
