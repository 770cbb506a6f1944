-- The calls of a subnet leave a replay no choice.
use Rattle.subnet_trace.proofs.Common.{true, ◌≡◌, ◌||◌, Bool, false, [], Option, None, Result, Ok, Err, sym, ap, subst, ◌∙◌, false≢true, Host, GoesOn, outcome_of, Fails, Kept, refusal_of, running, Decided, CarrierFault, Inbound}
use Rattle.subnet.specs.Working.{subnet_calls, SubnetRound, SubnetTake}
use Rattle.subnet.proofs.lemmas.{round_log, take_log}
use Rattle.replay.specs.Settled.{AreSettled, Grows, SameEnd}
use Rattle.subnet.specs.Calls as subnet
use Rattle.subnet.specs.Events as events
use Rattle.trace.proofs.lemmas.{Continues, IsDecided, goes_as, goes_back, same_answer, same_step}
use Rattle.interface.proofs.lemmas.{or_second}

decided : {T : Type 0} (refusal : Option CarrierFault) (grows : Bool) (Gives : T → Type 0) (old : Kept)
    (r : Result T CarrierFault) (new : Kept) → Decided refusal grows Gives old new r → Continues r
    → IsDecided refusal Gives old r new
decided refusal grows Gives old (Ok x) new h goes = h
decided refusal grows Gives old (Err f) new h goes =
    subst (λ (memory : Bool). Fails refusal grows memory f old new) (or_second _ _ goes) h

one_call : (refusal : Option CarrierFault) (grows : Bool) (left old : Kept) (r q : Result (Unit {0}) CarrierFault)
    (new other : Kept)
    → Decided refusal grows (λ done. new ≡ left) old new r → GoesOn r
    → Decided refusal grows (λ done. other ≡ left) old other q → GoesOn q → SameEnd r q new other
one_call refusal grows left old r q new other h goes k on =
    same_step refusal left old r q new other
    (decided refusal grows _ old r new h (goes_as r goes))
    (decided refusal grows _ old q other k (goes_as q on))

one_take : (old : Kept) (g : Host) (r q : Result (Option Inbound) CarrierFault) (new other : Kept)
    → SubnetTake old g r new → GoesOn (outcome_of r) → SubnetTake old g q other → GoesOn (outcome_of q)
    → SameEnd r q new other
one_take old g r q new other h goes k on =
    let P : Option Inbound → Type 0 = λ o. (o ≡ events.taken_by_host old.net g)
    × (new ≡ running (events.take_in old.net g)) in
    let Q : Option Inbound → Type 0 = λ o. (o ≡ events.taken_by_host old.net g)
    × (other ≡ running (events.take_in old.net g)) in
    let refusal : Option CarrierFault = refusal_of old (λ n. events.take_refusal n g) in
    same_answer refusal P Q old r q new other
    (λ x y a b. (a.0 ∙ sym b.0, a.1 ∙ sym b.1))
    (decided refusal _ P old r new h (goes_back r goes))
    (decided refusal _ Q old q other k (goes_back q on))

failed_log : (refusal : Option CarrierFault) (grows memory : Bool) (f : CarrierFault) (old new : Kept)
    → Fails refusal grows memory f old new → new.net.log ≡ old.net.log
failed_log refusal grows true f old new h = h.2.log
failed_log refusal grows false f old new h = ap (λ (k : Kept). k.net.log) h.1

refused_take : (old : Kept) (g : Host) (f : CarrierFault) (new : Kept) → SubnetTake old g (Err f) new
    → new.net.log ≡ old.net.log
refused_take old g f new h = failed_log _
    _ _ f old new h

take_grew : (old : Kept) (g : Host) (r : Result (Option Inbound) CarrierFault) (new : Kept)
    → SubnetTake old g r new → Grows subnet_calls old new
take_grew old g (Ok o) new h = record {
  crossings = events.crossings_of (events.taken_by_host old.net g);
  grown =
      ap (λ (k : Kept). k.net.log) h.1.1 ∙ take_log old.net g;
}
take_grew old g (Err f) new h = record { crossings = []; grown = refused_take old g f new h }

round_logs : (old : Kept) (r : Result (Unit {0}) CarrierFault) (new : Kept) → SubnetRound old r new
    → new.net.log ≡ old.net.log
round_logs old (Ok done) new h = ap (λ (k : Kept). k.net.log) h.1 ∙ round_log old.net
round_logs old (Err f) new h = failed_log _ _ _ f old new h

pub subnet_settled : AreSettled subnet_calls
subnet_settled = record {
  offers_once = λ old m r q new other h hg k kg. one_call (refusal_of old (λ n. events.offer_refusal n m)) true
      (running (events.offer_out old.net m)) old r q new other h hg k kg;
  takes_once = λ old g r q new other h hg k kg. one_take old g r q new other h hg k kg;
  steps_once = λ old e r q new other h hg k kg. one_call (refusal_of old (λ n. events.step_refusal n e))
      (subnet.step_grows old.net e) (running (events.stepped old.net e)) old r q new other h hg k kg;
  rounds_once = λ old r q new other h hg k kg. one_call (refusal_of old (λ n. None)) _
      (running (events.quiet_round old.net)) old r q new other h hg k kg;
  taking_grows = λ old g r new h. take_grew old g r new h;
  refused_taking = λ old g f new h. refused_take old g f new h;
  quiet_round = λ old r new h. round_logs old r new h;
}
