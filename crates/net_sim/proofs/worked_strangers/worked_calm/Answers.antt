use Rattle.net_sim.proofs.Common.{◌≡◌, Bool, true, false, [], ◌∷◌, Option, None, Ok, Err, IfSome, refl, sym, subst, Seen, Host, same_host, CarrierFault, Inbound, RefusesOffer, HostMessage, opening_state, first, second, WorldState, Carrier}
use Rattle.std.proofs.Common.{Result}
use Rattle.std.proofs.lemmas.Bool.{or_parts}
use Rattle.interface.specs.Rest.{BringsNothing, TakesNothing}
use Rattle.interface.specs.declared.carrier.CarrierFault.TheVariants as fault
use Rattle.sockets.proofs.lemmas.{same_host-true}
use Rattle.sockets.specs.Worked.{third}
use Rattle.net_sim.specs.Inside.Calm.{AllOfferNothing}
use Rattle.net_sim.specs.Rest.{IsAtRest, Leaves}
use Rattle.net_sim.specs.World.{Quiet, Take}
use Rattle.net_sim.specs.WorkedStrangers.{beside_nobody, beside_third, waiting_carrier}
use Rattle.net_sim.proofs.Hosts.Calming.{begun, none_passed}
use Rattle.net_sim.proofs.Hosts.Mute.{all_mute}
use Rattle.net_sim.proofs.Hosts.Resting.{offer_leaves, rest_passed, take_leaves}
use Rattle.net_sim.proofs.Hosts.Unresting.{given_moves}
use Rattle.net_sim.proofs.worked_strangers.worked_calm.Goals as goal

abbrev world : WorldState Seen
world = beside_third

-- a quiet round may change nothing
still : Leaves waiting_carrier world Quiet
still = record {
  answer = Ok tt;
  step = (Ok tt, world.carrier, record { running = refl; shown = refl }, (refl, refl));
  continues = refl;
}

-- nothing waits for another than the third host
apart_takes : (h : Host) → same_host h third ≡ false → TakesNothing waiting_carrier.takes world.carrier h
apart_takes h away = record { answer = Ok None; nothing = tt; unchanged = (rw away refl, record { running = refl; shown = refl }) }

-- the stranger has no seat, and nothing waits for another
none_takes : (h : Host) (b : Bool) → same_host h third ≡ b → Leaves waiting_carrier world (Take h)
none_takes h true e =
    subst (λ (x : Host). Leaves waiting_carrier world (Take x)) (sym (same_host-true h third e))
    (record { answer = Err (Carrier fault.NoSuch); step = (refl, refl); continues = refl })
none_takes h false e = take_leaves waiting_carrier h world refl (λ seat found. apart_takes h e)

none_offers : AllOfferNothing waiting_carrier world.carrier world.seats
none_offers at below seat found s is =
    subst (λ (o : Option HostMessage). IfSome o (λ m. RefusesOffer waiting_carrier.offers world.carrier m))
    (sym (all_mute (first ∷ second ∷ []) at seat s found is)) tt

rests : IsAtRest waiting_carrier world
rests = record {
  running = refl;
  round = still;
  takings = λ h. none_takes h (same_host h third) refl;
  offers = λ h. offer_leaves waiting_carrier h world refl none_offers;
}

pub returns-clause-rests : goal.returns-clause-rests
returns-clause-rests c = rests

pub returns-clause-stays : goal.returns-clause-stays
returns-clause-stays c rounds =
    begun waiting_carrier rounds world (Ok tt) world refl
    (rest_passed waiting_carrier rounds 0 world world (none_passed waiting_carrier rounds world) rests)

pub returns-clause-comes : goal.returns-clause-comes
returns-clause-comes c rest =
    let t = (rest.takings third).step in
    given_moves waiting_carrier third (opening_state third) t.2.0.0 t.1 t.0 beside_nobody
    (rest.takings third).answer t.2.0.1 t.3 (rest.takings third).continues

-- a taking of the third host always brings something
always_brings : TakesNothing waiting_carrier.takes world.carrier third → ⊥
always_brings t = subst (λ (r : Result (Option Inbound) CarrierFault). BringsNothing r) t.unchanged.0.1 t.nothing

pub returns-clause-beside : goal.returns-clause-beside
returns-clause-beside c = record {
  round = record { running = refl; shown = refl };
  takings = λ h other. apart_takes h (or_parts (same_host h third) false other).0;
}

pub returns-clause-nobody : goal.returns-clause-nobody
returns-clause-nobody c rest = always_brings (rest.takings third refl)

pub returns-clause-others : goal.returns-clause-others
returns-clause-others c rest = always_brings (rest.takings third refl)

pub returns-clause-spent : goal.returns-clause-spent
returns-clause-spent c rest = absurd (let no : ◌≡◌ {A = Result (Unit {0}) CarrierFault} (Ok tt) (Err fault.OutOfMemory) = rest.round.0 in cc)
