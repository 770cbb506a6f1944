-- A subnet that rests: no quiet round changes anything, and no taking of any host but some.
use Rattle.subnet.proofs.Common.{nat_tests, Host, same_host, is_host, CarrierFault, same_host-true, to_host_refusal, Net, imp_at, SubnetRound, SubnetTake}
use Rattle.std.proofs.Common.{◌≡◌, ℕ, ◌+◌, ◌<◌, suc, Bool, true, false, not, ◌||◌, ◌==◌, List, [], ◌∷◌, length, slice_get, Option, Some, None, Ok, Err, if◌then◌else◌, refl, ap, sym, subst, ◌∙◌, inl, inr, arith}
use Rattle.std.proofs.lemmas.Bool.{eqb-true}
use Rattle.interface.specs.Rest.{RestsBeside, TakesNothing}
use Rattle.interface.specs.declared.carrier.CarrierFault.TheVariants as fault
use Rattle.imp_node.specs.State.{State}
use Rattle.subnet.specs.Calls.{Kept, Fails, refusal_of, take_grows}
use Rattle.subnet.specs.Events.{at_up, first_of, take_refusal, taken_by_host, take_in, quiet_round}
use Rattle.subnet.specs.Inside.Resting.{IsRefused, TakesNone, TakesNoneAt, is_away}
use Rattle.subnet.proofs.Calls.Working.{nothing_given, rested_round}

-- ---- a host that is down

host_refused : (there up : Bool) (others : Option CarrierFault) → not up ≡ true → IsRefused (if not there then Some fault.NoSuch else (if not up then Some fault.IsDown else others))
host_refused false up others away = record { fault = fault.NoSuch; is = refl; no_halt = refl; no_memory = refl }
host_refused true true others away = absurd (cc)
host_refused true false others away = record { fault = fault.IsDown; is = refl; no_halt = refl; no_memory = refl }

at_refused : (h : ℕ) (o : Option State) → is_away o h ≡ true → IsRefused (at_up o (λ s. to_host_refusal s h))
at_refused h None away = record { fault = fault.IsDown; is = refl; no_halt = refl; no_memory = refl }
at_refused h (Some s) away = host_refused _ _ _ away

first_refused : (test : Bool) (others : Option CarrierFault) → IsRefused others → IsRefused (first_of test fault.NoSuch others)
first_refused true others r = record { fault = fault.NoSuch; is = refl; no_halt = refl; no_memory = refl }
first_refused false others r = r

pub away_takes : (n : Net) (h : Host) → is_away (imp_at n.imps h.imp) h.host ≡ true → TakesNone n h
away_takes n h away = inl (first_refused _ _ (at_refused h.host _ away))

-- ---- a host for which nothing waits

pub empty_takes : (n : Net) (h : Host) → take_refusal n h ≡ None → taken_by_host n h ≡ None → take_in n h ≡ n → TakesNone n h
empty_takes n h accepted nothing unchanged = inr (record { accepted = accepted; nothing = nothing; unchanged = unchanged })

-- ---- all hosts

-- the host at one place more
one_by : (b : Bool) (n : Net) (hosts : List Host) (k i : ℕ) → (i == k) ≡ b → ((j : ℕ) → j < k → TakesNoneAt n hosts j) → TakesNoneAt n hosts k → i < k + 1 → TakesNoneAt n hosts i
one_by true n hosts k i is earlier here below = let same : i ≡ k = eqb-true i k is in subst (TakesNoneAt n hosts) (sym same) here
one_by false n hosts k i is earlier here below = earlier i (grind (arith, nat_tests, is, below))

pub one_more : (n : Net) (hosts : List Host) (k : ℕ) (b : Bool) → b ≡ true → ((j : ℕ) → j < k → TakesNoneAt n hosts j) → (b ≡ true → TakesNoneAt n hosts k) → (i : ℕ) → i < k + 1
    → TakesNoneAt n hosts i
one_more n hosts k b said earlier here = λ i below. one_by (i == k) n hosts k i refl earlier (here said) below

-- where a host is among these
record Place (hosts : List Host) (h : Host) : Type 0 where
  pub place : ℕ
  pub within : place < length hosts
  pub got : slice_get hosts place ≡ Some h

place_of : (hosts : List Host) (h : Host) → is_host hosts h ≡ true → Place hosts h
place_of [] h there = absurd (cc)
place_of (g ∷ hosts) h there = by (same_host h g) refl there (place_of hosts h) where
  by : (b : Bool) → same_host h g ≡ b → (same_host h g || is_host hosts h) ≡ true → (is_host hosts h ≡ true → Place hosts h) → Place (g ∷ hosts) h
  by true same t others = record { place = 0; within = omega arith; got = ap (λ (x : Host). Some x) (sym (same_host-true h g same)) }
  by false same t others =
      let p : Place hosts h = others (rw same at t) in
      let within = p.within in
      record { place = suc p.place; within = omega (arith, within); got = p.got }

takes_none : (k : Kept) (h : Host) → k.stopped ≡ false → TakesNone k.net h → TakesNothing SubnetTake k h
takes_none k h goes (inl r) = record {
  answer = Err r.fault;
  nothing = (r.no_halt, r.no_memory);
  unchanged = subst (λ (b : Bool). Fails (refusal_of k (λ n. take_refusal n h)) (take_grows k.net h) b r.fault k k) (sym r.no_memory) (ap (λ (s : Bool). first_of s fault.Stopped (take_refusal k.net h)) goes ∙ r.is, refl);
}
takes_none k h goes (inr e) = record { answer = Ok None; nothing = tt; unchanged = nothing_given k h goes e.accepted e.nothing e.unchanged }

no_such : (k : Kept) (h : Host) → k.stopped ≡ false → is_host k.net.hosts h ≡ false → TakesNothing SubnetTake k h
no_such k h goes away =
    takes_none k h goes (inl (record {
      fault = fault.NoSuch;
      is = ap (λ (b : Bool). first_of (not b) fault.NoSuch (at_up (imp_at k.net.imps h.imp) (λ s. to_host_refusal s h.host))) away;
      no_halt = refl;
      no_memory = refl;
    }))

pub subnet_rests : (k : Kept) (hosts : List Host) → k.stopped ≡ false → quiet_round k.net ≡ k.net → ((i : ℕ) → i < length k.net.hosts → TakesNoneAt k.net hosts i)
    → RestsBeside SubnetRound SubnetTake hosts k
subnet_rests k hosts goes rests none = record {
  round = rested_round k goes rests;
  takings = λ h other. by h other (is_host k.net.hosts h) refl;
} where
  by : (h : Host) → is_host hosts h ≡ false → (b : Bool) → is_host k.net.hosts h ≡ b → TakesNothing SubnetTake k h
  by h other true there = let p : Place k.net.hosts h = place_of _ h there in takes_none k h goes (none p.place p.within h p.got other)
  by h other false away = no_such k h goes away
