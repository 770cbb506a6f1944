-- The calls of plain mailboxes leave a replay no choice.
use Rattle.trace.proofs.Common.{◌≡◌, ◌||◌, Bool, true, false, [], ◌∷◌, Option, Some, None, Result, Ok, Err, refl, sym, ap, ◌∙◌, false≢true, is_halt, is_memory, Host, GoesOn, outcome_of}
use Rattle.interface.specs.declared.carrier.CarrierFault.{CarrierFault}
use Rattle.interface.specs.declared.carrier.CarrierFault.TheVariants as fault
use Rattle.interface.specs.declared.crossing.Crossing.TheVariants as crossing
use Rattle.interface.specs.declared.crossing.Inbound.{Inbound}
use Rattle.interface.specs.declared.crossing.Inbound.TheVariants as inbound
use Rattle.leader1822.specs.Boxes.{Boxes, BoxesDecided, BoxesRound, BoxesTake, next_for, offer_refusal, offered, plain_calls, step_grows, step_refusal, stepped, inbound_taken}
use Rattle.replay.specs.Settled.{AreSettled, Grows, SameEnd}

-- ---- one call

abbrev pub Continues : {T : Type 0} → Result T CarrierFault → Type 0
Continues (Ok x) = Unit {0}
Continues (Err f) = (is_halt f || is_memory f) ≡ false

-- a call after which the replay continues was done, or refused for its one reason
abbrev pub IsDecided : {C T : Type 0} → Option CarrierFault → (T → Type 0) → C → Result T CarrierFault → C → Type 0
IsDecided refusal Gives old (Ok x) new = (refusal ≡ None) × Gives x
IsDecided refusal Gives old (Err f) new = (refusal ≡ Some f) × (new ≡ old)

-- two answers of one call are one, where what is given, and what is left, is settled
pub same_answer : {C T : Type 0} (refusal : Option CarrierFault) (P Q : T → Type 0) (old : C)
    (r q : Result T CarrierFault) (new other : C)
    → ((x y : T) → P x → Q y → (x ≡ y) × (new ≡ other)) → IsDecided refusal P old r new
    → IsDecided refusal Q old q other → SameEnd r q new other
same_answer refusal P Q old (Ok x) (Ok y) new other given h k =
    let both : (x ≡ y) × (new ≡ other) = given x y h.1 k.1 in
    record { answers = ap Ok both.0; carriers = both.1 }
same_answer refusal P Q old (Ok x) (Err f) new other given h k = absurd (let e : None ≡ Some f = sym h.0 ∙ k.0 in cc)
same_answer refusal P Q old (Err f) (Ok y) new other given h k = absurd (let e : None ≡ Some f = sym k.0 ∙ h.0 in cc)
same_answer refusal P Q old (Err f) (Err g) new other given h k =
    let e : Some f ≡ Some g = sym h.0 ∙ k.0 in
    let same : f ≡ g = cc in
    record { answers = ap Err same; carriers = h.1 ∙ sym k.1 }

pub goes_back : (r : Result (Option Inbound) CarrierFault) → GoesOn (outcome_of r) → Continues r
goes_back (Ok x) goes = tt
goes_back (Err f) goes = goes

pub goes_as : (r : Result (Unit {0}) CarrierFault) → GoesOn r → Continues r
goes_as (Ok x) goes = tt
goes_as (Err f) goes = goes

pub same_step : {C : Type 0} (refusal : Option CarrierFault) (left old : C) (r q : Result (Unit {0}) CarrierFault)
    (new other : C)
    → IsDecided refusal (λ done. new ≡ left) old r new → IsDecided refusal (λ done. other ≡ left) old q other
    → SameEnd r q new other
same_step refusal left old r q new other h k =
    same_answer refusal _ _ old r q new other (λ x y a b. (refl, a ∙ sym b)) h k

-- ---- the calls of plain mailboxes

settled : {T : Type 0} (refusal : Option CarrierFault) (grows : Bool) (Gives : T → Type 0) (old : Boxes)
    (r : Result T CarrierFault) (new : Boxes) → BoxesDecided refusal grows Gives old r new → Continues r
    → IsDecided refusal Gives old r new
settled refusal grows Gives old (Ok x) new h goes = h
settled refusal grows Gives old (Err fault.NoSuch) new h goes = h
settled refusal grows Gives old (Err fault.StillAlive) new h goes = h
settled refusal grows Gives old (Err fault.IsDown) new h goes = h
settled refusal grows Gives old (Err fault.IsUp) new h goes = h
settled refusal grows Gives old (Err fault.Unsettled) new h goes = h
settled refusal grows Gives old (Err fault.NotOutstanding) new h goes = h
settled refusal grows Gives old (Err fault.Blocked) new h goes = h
settled refusal grows Gives old (Err fault.NoRoom) new h goes = h
settled refusal grows Gives old (Err fault.Stopped) new h goes = absurd (false≢true (sym goes))
settled refusal grows Gives old (Err fault.OutOfMemory) new h goes = absurd (false≢true (sym goes))

one_step : (refusal : Option CarrierFault) (grows : Bool) (left old : Boxes) (r q : Result (Unit {0}) CarrierFault)
    (new other : Boxes)
    → BoxesDecided refusal grows (λ done. new ≡ left) old r new → GoesOn r
    → BoxesDecided refusal grows (λ done. other ≡ left) old q other → GoesOn q → SameEnd r q new other
one_step refusal grows left old r q new other h goes k on =
    same_step refusal left old r q new other
    (settled refusal grows _ old r new h (goes_as r goes))
    (settled refusal grows _ old q other k (goes_as q on))

one_taking : (old : Boxes) (g : Host) (r q : Result (Option Inbound) CarrierFault) (new other : Boxes)
    → BoxesTake old g r new → GoesOn (outcome_of r) → BoxesTake old g q other → GoesOn (outcome_of q)
    → SameEnd r q new other
one_taking old g r q new other h goes k on =
    let P : Option Inbound → Type 0 = λ o. (o ≡ next_for old g) × (new ≡ inbound_taken old g o) in
    let Q : Option Inbound → Type 0 = λ o. (o ≡ next_for old g) × (other ≡ inbound_taken old g o) in
    same_answer _ P Q old r q new other
    (λ x y a b. (a.0 ∙ sym b.0, a.1 ∙ ap (inbound_taken old g) (a.0 ∙ sym b.0) ∙ sym b.1))
    (settled _ _ P old r new h (goes_back r goes))
    (settled _ _ Q old q other k (goes_back q on))

one_round : (old : Boxes) (r q : Result (Unit {0}) CarrierFault) (new other : Boxes) → BoxesRound old r new → GoesOn r
    → BoxesRound old q other → GoesOn q → SameEnd r q new other
one_round old (Ok x) (Ok y) new other h goes k on = record { answers = refl; carriers = h.1 ∙ sym k.1 }
one_round old (Ok x) (Err f) new other h goes k on = absurd (false≢true (sym h.0 ∙ k.0))
one_round old (Err f) (Ok y) new other h goes k on = absurd (false≢true (sym k.0 ∙ h.0))
one_round old (Err f) (Err g) new other h goes k on =
    record { answers = ap Err (h.1 ∙ sym k.1); carriers = h.2 ∙ sym k.2 }

refused_log : (old : Boxes) (g : Host) (f : CarrierFault) (new : Boxes) → BoxesTake old g (Err f) new
    → new.log ≡ old.log
refused_log old g fault.NoSuch new h = ap (λ (b : Boxes). b.log) h.1
refused_log old g fault.StillAlive new h = ap (λ (b : Boxes). b.log) h.1
refused_log old g fault.IsDown new h = ap (λ (b : Boxes). b.log) h.1
refused_log old g fault.IsUp new h = ap (λ (b : Boxes). b.log) h.1
refused_log old g fault.Unsettled new h = ap (λ (b : Boxes). b.log) h.1
refused_log old g fault.NotOutstanding new h = ap (λ (b : Boxes). b.log) h.1
refused_log old g fault.Blocked new h = ap (λ (b : Boxes). b.log) h.1
refused_log old g fault.NoRoom new h = ap (λ (b : Boxes). b.log) h.1
refused_log old g fault.Stopped new h = ap (λ (b : Boxes). b.log) h.1
refused_log old g fault.OutOfMemory new h = h.2.log

given_log : (old : Boxes) (g : Host) (o : Option Inbound) (new : Boxes) → new ≡ inbound_taken old g o
    → Grows plain_calls old new
given_log old g None new h = record { crossings = []; grown = ap (λ (b : Boxes). b.log) h }
given_log old g (Some (inbound.Answer kind f)) new h =
    record { crossings = crossing.Answer kind f ∷ []; grown = ap (λ (b : Boxes). b.log) h }
given_log old g (Some (inbound.Message m)) new h =
    record { crossings = crossing.In m ∷ []; grown = ap (λ (b : Boxes). b.log) h }

taking_log : (old : Boxes) (g : Host) (r : Result (Option Inbound) CarrierFault) (new : Boxes) → BoxesTake old g r new
    → Grows plain_calls old new
taking_log old g (Ok o) new h = given_log old g o new h.1.1
taking_log old g (Err f) new h = record { crossings = []; grown = refused_log old g f new h }

still_log : (old : Boxes) (r : Result (Unit {0}) CarrierFault) (new : Boxes) → BoxesRound old r new → new.log ≡ old.log
still_log old (Ok done) new h = ap (λ (b : Boxes). b.log) h.1
still_log old (Err f) new h = ap (λ (b : Boxes). b.log) h.2

pub plain_settled : AreSettled plain_calls
plain_settled = record {
  offers_once = λ old m r q new other h hg k kg. one_step (offer_refusal old m.flow) true
      (offered old m) old r q new other h hg k kg;
  takes_once = λ old g r q new other h hg k kg. one_taking old g r q new other h hg k kg;
  steps_once = λ old n r q new other h hg k kg. one_step (step_refusal old n) (step_grows old n)
      (stepped old n) old r q new other h hg k kg;
  rounds_once = λ old r q new other h hg k kg. one_round old r q new other h hg k kg;
  taking_grows = λ old g r new h. taking_log old g r new h;
  refused_taking = λ old g f new h. refused_log old g f new h;
  quiet_round = λ old r new h. still_log old r new h;
}
