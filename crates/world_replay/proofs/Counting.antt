-- Worlds over a carrier that counts its calls.
use Rattle.world_replay.proofs.Common.{MatchBool, Calms, QuietEnds, TurnGives, TurnsOf, WorldState, stops, up_in, with_carrier, Kept, Quiet, Take, WorldFault, Carrier, first, Gains, gained, WorldEvent, Calm, Happen}
use Rattle.std.proofs.Common.{◌≡◌, ℕ, ◌+◌, zero, suc, Bool, true, false, List, [], ◌∷◌, length, Result, Ok, Err, refl, ap, sym, subst, ◌∙◌, arith, add-zero}
use Rattle.world_replay.specs.Replay.{HappensInCalm, MayDo, EventGives}
use Rattle.world_replay.specs.Rounds.{Again, Repeated, crosses}
use Rattle.world_replay.specs.Worked.{after, counting}
use Rattle.interface.specs.declared.carrier.CarrierFault.{CarrierFault}
use Rattle.interface.specs.declared.carrier.CarrierFault.TheVariants as fault
use Rattle.world_replay.proofs.Replays.{gains_once, same_news}
use Rattle.world_replay.specs.Output.{Shown}
use Rattle.world_replay.specs.Kinds.{Begins}

-- a quiet round is one call, and succeeds
record Counts (n : ℕ) (r : Result (Unit {0}) WorldFault) (new : WorldState ℕ) : Type 0 where
  succeeds : r ≡ Ok tt
  counted : new ≡ after (suc n)

quiet_ends : (n c : ℕ) (answer : Result (Unit {0}) CarrierFault) (r : Result (Unit {0}) WorldFault) (new : WorldState ℕ) → answer ≡ Ok tt → c ≡ suc n → QuietEnds answer c (after n) r new → Counts n r new
quiet_ends n c (Ok done) r new ok counted ends = record { succeeds = ends.0; counted = ends.1 ∙ ap (λ k. with_carrier k (after n)) counted }
quiet_ends n c (Err f) r new ok counted ends = absurd (cc)

quiet_counts : (n : ℕ) (r : Result (Unit {0}) WorldFault) (new : WorldState ℕ) → TurnGives counting (after n) Quiet r new → Counts n r new
quiet_counts n r new (answer, c, called, ends) = quiet_ends n c answer r new called.0 called.1 ends

one_more : (n : ℕ) → TurnGives counting (after n) Quiet (Ok tt) (after (suc n))
one_more n = (Ok tt, suc n, (refl, refl), (refl, refl))

pub once : MayDo counting (after 3) (Happen Quiet) (after 4) []
once = record { processed = Happen Quiet; begins = refl; outcome = Ok tt; gives = one_more 3; unknown = refl }

pub not_other : (m : ℕ) (shown : List Shown) → MayDo counting (after 3) (Happen Quiet) (after m) shown → m ≡ 4
not_other m shown h =
    let gives : TurnGives counting (after 3) Quiet h.outcome (after m) = subst (λ (e : WorldEvent). EventGives counting (after 3) e h.outcome (after m)) h.begins h.gives in
    let counts : Counts 3 h.outcome (after m) = quiet_counts 3 h.outcome (after m) gives in
    ap (λ (w : WorldState ℕ). w.carrier) counts.counted

-- ---- calms

pub two_rounds : MayDo counting (after 3) (Calm 2) (after 5) []
two_rounds = record {
  processed = Calm 2;
  begins = (2, refl, omega arith);
  outcome = Ok tt;
  gives = (Ok tt, after 4, one_more 3, (Ok tt, after 4, (refl, refl), (Ok tt, after 5, one_more 4, (Ok tt, after 5, (refl, refl), (refl, refl)))));
  unknown = refl;
}

-- after a round's call
abbrev Turned : ℕ → Result (Unit {0}) WorldFault → WorldState ℕ → Result (Unit {0}) WorldFault → WorldState ℕ → Type 0
Turned rounds second turned r new = MatchBool (stops second) ((r ≡ second) × (new ≡ turned)) (Calms counting rounds turned r new)

abbrev Called : ℕ → Result (Unit {0}) WorldFault → WorldState ℕ → Result (Unit {0}) WorldFault → WorldState ℕ → Type 0
Called rounds first quiet r new =
    MatchBool (stops first) ((r ≡ first) × (new ≡ quiet))
    ((second : Result (Unit {0}) WorldFault) × (turned : WorldState ℕ) × TurnsOf counting (up_in quiet.seats) quiet second turned × Turned rounds second turned r new)

called_again : (rounds n : ℕ) (r : Result (Unit {0}) WorldFault) (new : WorldState ℕ) → Called rounds (Ok tt) (after (suc n)) r new → Calms counting rounds (after (suc n)) r new
called_again rounds n r new (second, turned, does, more) =
    let ok : Turned rounds (Ok tt) turned r new = subst (λ s. Turned rounds s turned r new) does.0 more in
    subst (λ (w : WorldState ℕ). Turned rounds (Ok tt) w r new) does.1 ok

calms_count : (rounds n : ℕ) (r : Result (Unit {0}) WorldFault) (new : WorldState ℕ) → Calms counting rounds (after n) r new → new.carrier ≡ n + rounds
calms_count zero n r new h = ap (λ (w : WorldState ℕ). w.carrier) h.1 ∙ sym (add-zero n)
calms_count (suc rounds) n r new (first, quiet, step, rest) =
    let counts : Counts n first quiet = quiet_counts n first quiet step in
    let ok : Called rounds (Ok tt) quiet r new = subst (λ s. Called rounds s quiet r new) counts.succeeds rest in
    let more : Calms counting rounds (after (suc n)) r new = called_again rounds n r new (subst (λ (w : WorldState ℕ). Called rounds (Ok tt) w r new) counts.counted ok) in
    let counted : new.carrier ≡ suc n + rounds = calms_count rounds (suc n) r new more in
    omega (arith, counted)

-- its first round is enough
pub one_round : MayDo counting (after 3) (Calm 2) (after 4) []
one_round = record {
  processed = Calm 1;
  begins = (1, refl, omega arith);
  outcome = Ok tt;
  gives = (Ok tt, after 4, one_more 3, (Ok tt, after 4, (refl, refl), (refl, refl)));
  unknown = refl;
}

-- a calm of two rounds has no third
pub no_third : (shown : List Shown) → ¬ (MayDo counting (after 3) (Calm 2) (after 6) shown)
no_third shown h = by h.begins where
  by : Begins (Calm 2) h.processed → ⊥
  by (fewer, is, le) =
      let gives : Calms counting fewer (after 3) h.outcome (after 6) = subst (λ (e : WorldEvent). EventGives counting (after 3) e h.outcome (after 6)) is h.gives in
      let counted : 6 ≡ 3 + fewer = calms_count fewer 3 h.outcome (after 6) gives in
      omega (arith, counted, le)

-- ---- the events of a calm

abbrev none_gained : (n m : ℕ) → Gains (after n).kept (after m).kept
none_gained n m = record { crossings = []; notices = []; reports = []; crossed = refl; told = refl; said = refl }

pub quiet_once : HappensInCalm counting (after 3) Quiet (after 4) []
quiet_once = record { outcome = Ok tt; gives = one_more 3; goes_on = refl; gains = none_gained 3 4; lines = refl }

pub quiet_twice : (shown : List Shown) → ¬ (HappensInCalm counting (after 3) Quiet (after 5) shown)
quiet_twice shown h =
    let counts : Counts 3 h.outcome (after 5) = quiet_counts 3 h.outcome (after 5) h.gives in
    let same : 5 ≡ 4 = ap (λ (w : WorldState ℕ). w.carrier) counts.counted in
    omega (arith, same)

pub take_refused : HappensInCalm counting (after 3) (Take first) (after 3) []
take_refused = record { outcome = Err (Carrier fault.NoSuch); gives = (refl, refl); goes_on = refl; gains = none_gained 3 3; lines = refl }

-- a book that gains nothing shows nothing
pub refusal_unshown : (s : Shown) → ¬ (HappensInCalm counting (after 3) (Take first) (after 3) (s ∷ []))
refusal_unshown s h =
    let kept : Kept = (after 3).kept in
    let same : gained h.gains ≡ gained (none_gained 3 3) = same_news kept kept kept h.gains (none_gained 3 3) (gains_once kept kept kept h.gains (none_gained 3 3) refl) in
    let none : s ∷ [] ≡ [] = h.lines ∙ same in
    let long : length (s ∷ []) ≡ 0 = ap length none in
    omega (arith, long)

-- nothing crosses by it, and so it happens once
pub again_once : Again (HappensInCalm counting) (after 3) (Quiet, 16) (after 4) []
again_once = (after 4, [], [], quiet_once, (refl, refl), refl)

pub again_twice : (shown : List Shown) → Again (HappensInCalm counting) (after 3) (Quiet, 16) (after 5) shown → ⊥
again_twice shown (mid, first, rest, happens, left, all) = quiet_twice first (subst (λ (w : WorldState ℕ). HappensInCalm counting (after 3) Quiet w first) (sym (no_more (crosses (after 3) mid) (same happens) left)) happens) where
  same : HappensInCalm counting (after 3) Quiet mid first → crosses (after 3) mid ≡ false
  same h = ap (λ (w : WorldState ℕ). crosses (after 3) w) (quiet_counts 3 h.outcome mid h.gives).counted

  no_more : (b : Bool) → b ≡ false → MatchBool b (Repeated (HappensInCalm counting) Quiet 15 mid (after 5) rest) ((after 5 ≡ mid) × (rest ≡ [])) → after 5 ≡ mid
  no_more true is k = absurd (cc)
  no_more false is k = k.0
