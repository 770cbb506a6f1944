-- Events in turn, repeated, and of a round, in two accounts: where each of them shows lines as it shows others, all of them do.
use Rattle.world_replay.proofs.Common.{◌≡◌, ℕ, zero, suc, Bool, true, false, List, [], ◌∷◌, ◌++◌, refl, sym, subst, MatchBool, WorldState, Event, Happening, InTurn}
use Rattle.world_replay.specs.Rounds.{Again, Repeated, RoundOf, crosses, turns_in}

-- what happens and shows these lines also happens as in another account, and what that shows is to them as is said
abbrev pub ShowsAs : {S E L M : Type 0} → Happening S E L → Happening S E M → (List L → List M → Type 0) → Type 0
ShowsAs {S} {E} {L} {M} Happens Other As = (old : S) (e : E) (new : S) (lines : List L) → Happens old e new lines → (shown : List M) × Other old e new shown × As lines shown

-- and what is said is said of lines in turn where it is said of each
pub record AreParts {L M : Type 0} (As : List L → List M → Type 0) : Type 0 where
  pub none : As [] []
  pub more : (first rest : List L) (begin later : List M) → As first begin → As rest later → As (first ++ rest) (begin ++ later)

module _ {S E L M : Type 0} (Happens : Happening S E L) (Other : Happening S E M) (As : List L → List M → Type 0) (parts : AreParts As) (each : ShowsAs Happens Other As) where
  in_turn_as : (old : S) (events : List E) (new : S) (lines : List L) → InTurn Happens old events new lines → (shown : List M) × InTurn Other old events new shown × As lines shown
  in_turn_as old [] new lines (left, none) = ([], (left, refl), subst (λ (ls : List L). As ls []) (sym none) parts.none)
  in_turn_as old (e ∷ events) new lines (mid, first, rest, h, hs, all) =
      let (begin, one, is) = each old e mid first h in
      let (later, others, are) = in_turn_as mid events new rest hs in
      (begin ++ later, (mid, begin, later, one, others, refl), subst (λ (ls : List L). As ls (begin ++ later)) (sym all) (parts.more first rest begin later is are))

-- what is left, and what is shown of it
abbrev Left : {C L : Type 0} → (WorldState C → List L → Type 0) → WorldState C → Bool → WorldState C → List L → Type 0
Left {C} {L} More mid b new rest = MatchBool b (More new rest) ((new ≡ mid) × (rest ≡ []))

left_as : {C L M : Type 0} (More : WorldState C → List L → Type 0) (Others : WorldState C → List M → Type 0) (As : List L → List M → Type 0) → AreParts As → (mid new : WorldState C) (rest : List L) (b : Bool)
    → (More new rest → (later : List M) × Others new later × As rest later) → Left More mid b new rest → (later : List M) × Left Others mid b new later × As rest later
left_as More Others As parts mid new rest true on h = on h
left_as {C} {L} More Others As parts mid new rest false on (same, none) = ([], (same, refl), subst (λ (ls : List L). As ls []) (sym none) parts.none)

module _ {C L M : Type 0} (Happens : Happening (WorldState C) Event L) (Other : Happening (WorldState C) Event M) (As : List L → List M → Type 0) (parts : AreParts As) (each : ShowsAs Happens Other As) where
  repeated_as : (e : Event) (times : ℕ) (old new : WorldState C) (lines : List L) → Repeated Happens e times old new lines → (shown : List M) × Repeated Other e times old new shown × As lines shown
  repeated_as e zero old new lines (same, none) = ([], (same, refl), subst (λ (ls : List L). As ls []) (sym none) parts.none)
  repeated_as e (suc times) old new lines (mid, first, rest, h, hs, all) =
      let (begin, one, is) = each old e mid first h in
      let (later, others, are) = left_as (Repeated Happens e times mid) (Repeated Other e times mid) As parts mid new rest (crosses old mid) (λ k. repeated_as e times mid new rest k) hs in
      (begin ++ later, (mid, begin, later, one, others, refl), subst (λ (ls : List L). As ls (begin ++ later)) (sym all) (parts.more first rest begin later is are))

  -- a round in which events show lines, where each shows them as it shows others, is a round in which these others are shown
  pub round_as : (old new : WorldState C) (lines : List L) → RoundOf Happens old new lines → (shown : List M) × RoundOf Other old new shown × As lines shown
  round_as old new lines h = in_turn_as (Again Happens) (Again Other) As parts (λ before e after own k. repeated_as e.0 e.1 before after own k) old (turns_in old.seats) new lines h
