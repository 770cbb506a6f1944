-- What a world may rely on of its carrier, whatever it is made of, and what the book has of the carrier's log.
use Rattle.std.specs.Prelude.{◌≡◌, false, List, [], ◌∷◌, ◌++◌}
use Rattle.interface.specs.Calls.{Calls, Seen, ShowsOffer, ShowsTake, ShowsStep, ShowsRound}
use Rattle.interface.specs.declared.crossing.Crossing.{Crossing}
use Rattle.interface.specs.declared.crossing.Crossing.TheVariants as crossing
use Rattle.net_sim.specs.World.{WorldState}

-- the calls of a carrier, each with what it shows besides its own relation
abbrev pub shown : {C : Type 0} → Calls C → Calls C
shown calls = record {
  seen = calls.seen;
  offers = λ old m r new. calls.offers old m r new × ShowsOffer (calls.seen old) m r (calls.seen new);
  takes = λ old h r new. calls.takes old h r new × ShowsTake (calls.seen old) h r (calls.seen new);
  steps = λ old e r new. calls.steps old e r new × ShowsStep (calls.seen old) e r (calls.seen new);
  rounds = λ old r new. calls.rounds old r new × ShowsRound (calls.seen old) r (calls.seen new);
}

-- hosts stop, and nothing else crosses
abbrev pub AreStops : List Crossing → Type 0
AreStops [] = Unit {0}
AreStops (crossing.Down h ∷ cs) = AreStops cs
AreStops (c ∷ cs) = ⊥

-- what crosses in one event: at most one crossing, or the stops of an IMP's hosts
abbrev pub AreOfOneEvent : List Crossing → Type 0
AreOfOneEvent [] = Unit {0}
AreOfOneEvent (c ∷ []) = Unit {0}
AreOfOneEvent (c ∷ d ∷ cs) = AreStops (c ∷ d ∷ cs)

-- the book has the carrier's log, except for what crossed in the one event in which memory ran out
pub record IsBooked {C : Type 0} (seen : C → Seen) (w : WorldState C) : Type 0 where
  pub unbooked : List Crossing
  pub book : (seen w.carrier).log ≡ unbooked ++ w.kept.book.crossings
  pub all : w.stopped ≡ false → unbooked ≡ []
  pub one : AreOfOneEvent unbooked
