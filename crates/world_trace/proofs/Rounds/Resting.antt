-- A world that rests: the events of a round change nothing, so that they have no lines.
use Rattle.world_trace.proofs.Common.{append-nil, flat_map, Calls, Host, WorldState, up_in, Event, Offer, Quiet, Take, InTurn, none_changed, no_part_changed, Spot, seat_member, services_member, TellsInCalm, TellsRound, AllParts}
use Rattle.std.proofs.Common.{◌≡◌, inl, ℕ, suc, false, List, [], ◌∷◌, length, map, le-ltb, arith, refl, sym}
use Rattle.net_sim.specs.Rest.{IsAtRest, Leaves}
use Rattle.world_replay.proofs.lemmas.{when_false}
use Rattle.world_replay.specs.Rounds.{Again, Repeated, crosses, turn_of}

module _ {C : Type 0} (calls : Calls C) (members : C → AllParts) (spot : Spot) (round : ℕ) where
  abbrev Tells : WorldState C → Event → WorldState C → List (List ℕ) → Type 0
  Tells = TellsInCalm calls members spot round

  silent : (e : Event) (w : WorldState C) → Leaves calls w e → Tells w e w []
  silent e w l =
      let book = w.kept.book in
      inl (
        record {
          outcome = l.answer;
          gives = l.step;
          goes_on = l.continues;
          gains = record { crossings = []; notices = []; reports = []; crossed = refl; told = sym (append-nil book.notices); said = sym (append-nil book.reports) };
          lines = refl;
        },
        record { parts = no_part_changed (members w.carrier); programs = none_changed (map seat_member w.seats); services = none_changed (map services_member w.services) },
        refl,
      )

  -- nothing crosses by it, and so it happens once
  once : (e : Event) (times : ℕ) (w : WorldState C) → Leaves calls w e → Again Tells w (e, suc times) w []
  once e times w l =
      let count : ℕ = length w.kept.book.crossings in
      let no : crosses w w ≡ false = le-ltb count count (omega arith) in
      (w, [], [], silent e w l, when_false (Repeated Tells e times w w []) ((w ≡ w) × ([] ≡ [])) (crosses w w) no (refl, refl), refl)

  turns : (hosts : List Host) (w : WorldState C) → IsAtRest calls w → InTurn (Again Tells) w (flat_map turn_of hosts) w []
  turns [] w rest = (refl, refl)
  turns (h ∷ hosts) w rest = (w, [], [], once (Take h) 15 w (rest.takings h), (w, [], [], once (Offer h) 31 w (rest.offers h), turns hosts w rest, refl), refl)

  pub round_rests : (w : WorldState C) → IsAtRest calls w → TellsRound calls members spot w round w []
  round_rests w rest = (w, [], [], once Quiet 0 w rest.round, turns (up_in w.seats) w rest, refl)
