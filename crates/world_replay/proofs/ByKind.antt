-- The replay of events over any kind of world of which what a replay needs is known.
use Rattle.world_replay.proofs.Common.{Appends, Appends-nil, Appends-trans, Detail, Gains, gained, WorldFault, stops, Calm, Happen, WorldEvent}
use Rattle.std.proofs.Common.{◌≡◌, ℕ, ◌+◌, ◌-◌, ◌<◌, ◌≤◌, zero, suc, Bool, true, false, List, [], ◌∷◌, ◌++◌, length, Option, None, Result, Ok, Err, refl, ap, ap₂, sym, subst, ◌∙◌, arith, OnOk}
use Rattle.std.proofs.lemmas.List.{append-nil, append_assoc}
use Rattle.world_replay.specs.Output.{Writes, output, shown_refusal, Shown, shown_text}
use Rattle.world_replay.specs.Steps.{EventEnds, IsReplayable, OneEnds}
use Rattle.world_replay.specs.Kinds.{HappensBy, StopsBy, Begins, Kind, rounds_in}
use Rattle.replay.proofs.lemmas.{one_written, seen_written}
use Rattle.replay.specs.declared.events.ReplayFault.{ReplayFault}
use Rattle.replay.specs.declared.events.ReplayFault.TheVariants as fault
use Rattle.replay.specs.Seen.{IsSeen}
use Rattle.world_replay.specs.Seen.{AreSeenBy, CalmHandsOn}
use Rattle.world_replay.proofs.News.{output-append}
use Rattle.world_replay.proofs.Grown.{gains_none}
use Rattle.world_replay.proofs.Replays.{News, news_is}

-- ---- what is handed on after the last of several events

-- one event more
pub one_seen : {S W : Type 0} (kind : Kind S) (detail : Detail) (contents : W → Option (List ℕ)) (flushed : W → Bool)
    (old mid new : S × W) (events : List WorldEvent) (e : WorldEvent) → AreSeenBy kind detail contents flushed old events mid
    → Writes detail (HappensBy kind mid.0 e new.0) (contents mid.1) (contents new.1)
    → CalmHandsOn kind detail contents flushed (rounds_in e) mid new
    → AreSeenBy kind detail contents flushed old (events ++ e ∷ []) new
one_seen {S} {W} kind detail contents flushed old mid new events e before goes handed =
    let Handed : S × W → WorldEvent → S × W → Type 0 = λ old e new. CalmHandsOn kind detail contents flushed (rounds_in e) old new in
    let seen = seen_written (HappensBy kind) (shown_text detail) contents Handed mid e new goes handed in
    let both = one_written (IsSeen (HappensBy kind) (shown_text detail) contents Handed) (λ s. []) old mid new events e None None None
    (record { shown = before.0; is_shown = before.1; written = tt })
    (record { shown = seen.shown; is_shown = seen.is_shown; written = tt }) in
    (both.shown, both.is_shown)

-- this many rounds have passed, and what they showed is written
abbrev pub HaveRounds : {S : Type 0} → Kind S → Detail → ℕ → S → S → Option (List ℕ) → Option (List ℕ) → Type 0
HaveRounds kind detail zero old now a b = (now ≡ old) × Appends a b []
HaveRounds kind detail (suc n) old now a b = Writes detail (HappensBy kind old (Calm (suc n)) now) a b

pub no_rounds : {S : Type 0} (kind : Kind S) (detail : Detail) (w : S) (a : Option (List ℕ))
    → HaveRounds kind detail 0 w w a a
no_rounds kind detail w a = (refl, Appends-nil a)

module _ {S : Type 0} (kind : Kind S) (is : IsReplayable kind) where
  -- ---- an event that is printed at once

  begins : (e : WorldEvent) → Begins e e
  begins (Happen e) = refl
  begins (Calm n) = (n, refl, omega arith)

  -- an event ends as its printing ends
  pub event_ends : {W : Type 0} (contents : W → Option (List ℕ)) (detail : Detail) (old : S) (e : WorldEvent)
      (answer : Result (Unit {0}) WorldFault) (new : S) (printed : Result (Unit {0}) ReplayFault)
      (crossed noticed said : ℕ) (a : Option (List ℕ)) (mid last : W)
      → kind.gives old e answer new → crossed ≡ length (kind.kept old).book.crossings → noticed ≡ length (kind.kept old).book.notices → said ≡ length (kind.kept old).book.reports
      → News contents detail crossed noticed said a mid (kind.kept new)
      → OnOk printed (Appends (contents mid) (contents last) (output detail (shown_refusal answer))) → OnOk printed (stops answer ≡ false)
      → (printed ≡ Err fault.OutOfMemory → (stops answer ≡ true) × (last ≡ mid)) → OneEnds kind detail old e printed new a (contents last)
  event_ends contents detail old e answer new (Ok done) crossed noticed said a mid last gives at same alike lines refusal goes memory =
      let gains : Gains (kind.kept old) (kind.kept new) = is.gains e old answer new gives in
      record {
        shown = gained gains ++ shown_refusal answer;
        is_shown = record { outcome = answer; gives = gives; goes_on = goes; gains = gains; lines = refl };
        written = subst (Appends a (contents last)) (sym (output-append detail (gained gains) (shown_refusal answer)))
            (Appends-trans a (contents mid) (contents last) (output detail (gained gains)) (output detail (shown_refusal answer))
            (subst (λ xs. Appends a (contents mid) (output detail xs)) (news_is (kind.kept old) (kind.kept new) gains crossed noticed said at same alike) lines) refusal);
      }
  event_ends contents detail old e answer new (Err fault.OutOfMemory) crossed noticed said a mid last gives at same alike lines refusal goes memory =
      let gains : Gains (kind.kept old) (kind.kept new) = is.gains e old answer new gives in
      let out : (stops answer ≡ true) × (last ≡ mid) = memory refl in
      record {
        shown = gained gains;
        is_shown = record { outcome = answer; gives = gives; stops = out.0; gains = gains; lines = refl };
        written = subst (λ w. Appends a (contents w) (output detail (gained gains))) (sym out.1)
            (subst (λ xs. Appends a (contents mid) (output detail xs)) (news_is (kind.kept old) (kind.kept new) gains crossed noticed said at same alike) lines);
      }
  event_ends contents detail old e answer new (Err fault.CannotWrite) crossed noticed said a mid last gives at same alike lines refusal goes memory = (answer, gives)

  -- ---- rounds, and then further ones

  shown_well : (n : ℕ) (old mid : S) (first : List Shown) (h : HappensBy kind old (Calm n) mid first)
      → first ≡ gained h.gains
  shown_well n old mid first h = h.lines ∙ ap (λ (xs : List Shown). gained h.gains ++ xs) (ap shown_refusal (is.well n old h.outcome mid h.gives h.goes_on)) ∙ append-nil (gained h.gains)

  pub happens_more : (n k : ℕ) (old mid new : S) (first rest : List Shown)
      → HappensBy kind old (Calm (suc n)) mid first → HappensBy kind mid (Calm (suc k)) new rest
      → HappensBy kind old (Calm (suc n + suc k)) new (first ++ rest)
  happens_more n k old mid new first rest h j =
      let gives : kind.gives old (Calm (suc n + suc k)) j.outcome new = is.more n k old mid new h.outcome j.outcome h.gives h.goes_on j.gives in
      let all : Gains (kind.kept old) (kind.kept new) = is.gains (Calm (suc n + suc k)) old j.outcome new gives in
      record {
        outcome = j.outcome;
        gives = gives;
        goes_on = j.goes_on;
        gains = all;
        lines = ap₂ (λ (xs ys : List Shown). xs ++ ys) (shown_well (suc n) old mid first h) j.lines ∙ sym (append_assoc (gained h.gains) (gained j.gains) (shown_refusal j.outcome))
            ∙ ap (λ (xs : List Shown). xs ++ shown_refusal j.outcome) (sym (is.shows (suc n) (suc k) old mid new h.outcome j.outcome h.gives j.gives h.gains j.gains all));
      }

  stops_more : (n k : ℕ) (old mid new : S) (first rest : List Shown)
      → HappensBy kind old (Calm (suc n)) mid first → StopsBy kind mid (Calm (suc k)) new rest
      → StopsBy kind old (Calm (suc n + suc k)) new (first ++ rest)
  stops_more n k old mid new first rest h j =
      let gives : kind.gives old (Calm (suc n + suc k)) j.outcome new = is.more n k old mid new h.outcome j.outcome h.gives h.goes_on j.gives in
      let all : Gains (kind.kept old) (kind.kept new) = is.gains (Calm (suc n + suc k)) old j.outcome new gives in
      record {
        outcome = j.outcome;
        gives = gives;
        stops = j.stops;
        gains = all;
        lines = ap₂ (λ (xs ys : List Shown). xs ++ ys) (shown_well (suc n) old mid first h) j.lines
            ∙ sym (is.shows (suc n) (suc k) old mid new h.outcome j.outcome h.gives j.gives h.gains j.gains all);
      }

  -- a world that rests shows nothing in a calm
  rest_happens : (k : ℕ) (now : S) → kind.gives now (Calm k) (Ok tt) now
      → HappensBy kind now (Calm k) now []
  rest_happens k now gives = record {
    outcome = Ok tt;
    gives = gives;
    goes_on = refl;
    gains = gains_none (kind.kept now);
    lines = refl;
  }

  -- ---- this many rounds

  -- what is shown by further ones is written after what was shown before
  after_more : (detail : Detail) (count k : ℕ) (old now new : S) (a b c : Option (List ℕ))
      → HaveRounds kind detail count old now a b → Writes detail (HappensBy kind now (Calm (suc k)) new) b c
      → Writes detail (HappensBy kind old (Calm (count + suc k)) new) a c
  after_more detail zero k old now new a b c (same, none) w = record {
    shown = w.shown;
    is_shown = subst (λ (n : ℕ). HappensBy kind old (Calm n) new w.shown) (let e : suc k ≡ 0 + suc k = omega arith in e) (subst (λ (s : S). HappensBy kind s (Calm (suc k)) new w.shown) same w.is_shown);
    written = Appends-trans a b c [] (output detail w.shown) none w.written;
  }
  after_more detail (suc n) k old now new a b c h w = record {
    shown = h.shown ++ w.shown;
    is_shown = happens_more n k old now new h.shown w.shown h.is_shown w.is_shown;
    written = subst (Appends a c) (sym (output-append detail h.shown w.shown)) (Appends-trans a b c (output detail h.shown) (output detail w.shown) h.written w.written);
  }

  after_stops : (detail : Detail) (count k : ℕ) (old now new : S) (a b c : Option (List ℕ))
      → HaveRounds kind detail count old now a b → Writes detail (StopsBy kind now (Calm (suc k)) new) b c
      → Writes detail (StopsBy kind old (Calm (count + suc k)) new) a c
  after_stops detail zero k old now new a b c (same, none) w = record {
    shown = w.shown;
    is_shown = subst (λ (n : ℕ). StopsBy kind old (Calm n) new w.shown) (let e : suc k ≡ 0 + suc k = omega arith in e) (subst (λ (s : S). StopsBy kind s (Calm (suc k)) new w.shown) same w.is_shown);
    written = Appends-trans a b c [] (output detail w.shown) none w.written;
  }
  after_stops detail (suc n) k old now new a b c h w = record {
    shown = h.shown ++ w.shown;
    is_shown = stops_more n k old now new h.shown w.shown h.is_shown w.is_shown;
    written = subst (Appends a c) (sym (output-append detail h.shown w.shown)) (Appends-trans a b c (output detail h.shown) (output detail w.shown) h.written w.written);
  }

  after_gives : (detail : Detail) (count k : ℕ) (old now new : S) (q : Result (Unit {0}) WorldFault) (a b : Option (List ℕ))
      → HaveRounds kind detail count old now a b → kind.gives now (Calm (suc k)) q new
      → kind.gives old (Calm (count + suc k)) q new
  after_gives detail zero k old now new q a b (same, none) gives =
      subst (λ (n : ℕ). kind.gives old (Calm n) q new) (let e : suc k ≡ 0 + suc k = omega arith in e) (subst (λ (s : S). kind.gives s (Calm (suc k)) q new) same gives)
  after_gives detail (suc n) k old now new q a b h gives = is.more n k old now new h.is_shown.outcome q h.is_shown.gives h.is_shown.goes_on gives

  pub round_more : (detail : Detail) (count : ℕ) (old now mid : S) (a b c : Option (List ℕ))
      → HaveRounds kind detail count old now a b → OneEnds kind detail now (Calm 1) (Ok tt) mid b c
      → HaveRounds kind detail (count + 1) old mid a c
  round_more detail count old now mid a b c h k =
      let same : count + suc 0 ≡ suc count = omega arith in
      let one : suc count ≡ count + 1 = omega arith in
      let all : Writes detail (HappensBy kind old (Calm (suc count)) mid) a c = subst (λ (n : ℕ). Writes detail (HappensBy kind old (Calm n) mid) a c) same (after_more detail count 0 old now mid a b c h k) in
      subst (λ (n : ℕ). HaveRounds kind detail n old mid a c) one all

  -- a round that is the last one, since memory ran out or a write failed
  pub round_ends_so : (detail : Detail) (count total : ℕ) (old now mid : S) (f : ReplayFault) (a b c : Option (List ℕ))
      → HaveRounds kind detail count old now a b → count < total
      → OneEnds kind detail now (Calm 1) (Err f) mid b c
      → EventEnds kind detail old (Calm total) (Err f) mid a c
  round_ends_so detail count total old now mid fault.OutOfMemory a b c h lt k =
      let left : ℕ = total - (count + 1) in
      let same : count + suc left ≡ total = omega (arith, lt) in
      let one = k.is_shown in
      let longer : Writes detail (StopsBy kind now (Calm (suc left)) mid) b c = record {
        shown = k.shown;
        is_shown = record { outcome = one.outcome; gives = is.ends left now mid one.outcome one.gives one.stops; stops = one.stops; gains = one.gains; lines = one.lines };
        written = k.written;
      } in
      subst (λ (n : ℕ). Writes detail (StopsBy kind old (Calm n) mid) a c) same (after_stops detail count left old now mid a b c h longer)
  round_ends_so detail count total old now mid fault.CannotWrite a b c h lt k = (
    [],
    record {
      processed = Calm (count + 1);
      begins = (count + 1, refl, omega (arith, lt));
      outcome = k.0;
      gives = (let one : count + suc 0 ≡ count + 1 = omega arith in subst (λ (n : ℕ). kind.gives old (Calm n) k.0 mid) one (after_gives detail count 0 old now mid k.0 a b h k.1));
      unknown = refl;
    },
  )

  -- the end of a calm, of which the rounds that are left change nothing
  pub rounds_end : (detail : Detail) (count left total : ℕ) (old now : S) (a b : Option (List ℕ))
      → HaveRounds kind detail count old now a b → 0 < count → count + left ≡ total
      → ((n : ℕ) → kind.gives now (Calm n) (Ok tt) now)
      → EventEnds kind detail old (Calm total) (Ok tt) now a b
  rounds_end detail zero left total old now a b h some sum rest = absurd (omega (arith, some))
  rounds_end detail (suc n) zero total old now a b h some sum rest =
      let same : suc n ≡ total = omega (arith, sum) in subst (λ (m : ℕ). Writes detail (HappensBy kind old (Calm m) now) a b) same h
  rounds_end detail (suc n) (suc k) total old now a b h some sum rest =
      subst (λ (m : ℕ). Writes detail (HappensBy kind old (Calm m) now) a b) sum
      (after_more detail (suc n) k old now now a b b h (record { shown = []; is_shown = rest_happens (suc k) now (rest (suc k)); written = Appends-nil b }))

  -- and of one that has passed whole
  pub all_passed : (detail : Detail) (count total : ℕ) (old now : S) (a b : Option (List ℕ))
      → HaveRounds kind detail count old now a b → 0 < count → count ≡ total
      → EventEnds kind detail old (Calm total) (Ok tt) now a b
  all_passed detail zero total old now a b h some same = absurd (omega (arith, some))
  all_passed detail (suc n) total old now a b h some same = subst (λ (m : ℕ). Writes detail (HappensBy kind old (Calm m) now) a b) same h
