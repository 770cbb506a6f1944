-- An offer that a subnet refuses: it leaves the subnet as it is.
use Rattle.subnet.proofs.Common.{is_host, CarrierFault, HostMessage, is_idle, is_own, way_of, way_has_room, from_host_refusal, Net, imp_at}
use Rattle.std.proofs.Common.{◌≡◌, Bool, true, false, not, Option, Some, None, if◌then◌else◌, is_some, refl, ap, sym, subst, ◌∙◌}
use Rattle.interface.specs.Calls.{is_halt, is_memory}
use Rattle.interface.specs.declared.carrier.CarrierFault.TheVariants as fault
use Rattle.interface.specs.Rest.{RefusesOffer}
use Rattle.imp_node.specs.State.{State, is_up}
use Rattle.subnet.specs.Calls.{Kept, Fails, refusal_of}
use Rattle.subnet.specs.Events.{at_up, first_of, offer_alive, offer_refusal}
use Rattle.subnet.specs.Working.{SubnetOffer}

-- it isn't refused for want of memory
abbrev Lasts : Option CarrierFault → Type 0
Lasts None = Unit {0}
Lasts (Some e) = (is_halt e ≡ false) × (is_memory e ≡ false)

first_lasts : (test : Bool) (e : CarrierFault) (others : Option CarrierFault) → (is_halt e ≡ false) × (is_memory e ≡ false) → Lasts others → Lasts (first_of test e others)
first_lasts true e others lasts rest = lasts
first_lasts false e others lasts rest = rest

from_host_lasts : (o : Option State) (m : HostMessage) → Lasts (at_up o (λ s. from_host_refusal s m))
from_host_lasts None m = (refl, refl)
from_host_lasts (Some s) m =
    first_lasts (not (is_own s m.flow.source)) fault.NoSuch _ (refl, refl)
    (first_lasts (not (is_up s _)) fault.IsDown _ (refl, refl)
    (first_lasts (not (is_idle s m.flow)) fault.Blocked _ (refl, refl)
    (first_lasts (not (way_has_room (way_of s m.flow) s m)) fault.NoRoom None (refl, refl) tt)))

offer_lasts : (n : Net) (m : HostMessage) → Lasts (offer_refusal n m)
offer_lasts n m =
    first_lasts (not (is_host n.hosts m.flow.source)) fault.NoSuch _ (refl, refl)
    (first_lasts (offer_alive n m.flow (imp_at n.imps m.flow.source.imp)) fault.StillAlive _ (refl, refl) (from_host_lasts (imp_at n.imps m.flow.source.imp) m))

pub refused_offer : (k : Kept) (m : HostMessage) (o : Option CarrierFault) → k.stopped ≡ false → o ≡ refusal_of k (λ n. offer_refusal n m) → is_some o ≡ true → RefusesOffer SubnetOffer k m
refused_offer k m None goes is some = absurd (cc)
refused_offer k m (Some e) goes is some =
    let first : offer_refusal k.net m ≡ Some e = sym (ap (λ (s : Bool). first_of s fault.Stopped (offer_refusal k.net m)) goes) ∙ sym is in
    let lasts : Lasts (Some e) = subst Lasts first (offer_lasts k.net m) in
    record {
      fault = e;
      lasts = lasts;
      unchanged = subst (λ (b : Bool). Fails (refusal_of k (λ n. offer_refusal n m)) true b e k k) (sym lasts.1) (sym is, refl);
    }
