-- One event of a world's script, and what it shows.
use Rattle.world_replay.proofs.Common.{◌≡◌, ℕ, ◌+◌, true, false, List, ◌++◌, drop, length, reverse, Option, Result, refl, ap, sym, subst, ◌∙◌, arith, Appends, Kept, shown, CalmGives, TurnGives, WorldState, stops, Event, Calls, WorldFault, Detail, calm_keeps}
use Rattle.std.proofs.lemmas.List.{length-append, length-reverse, reverse-append, reverse-reverse, append_cancel_left, append_cancel_right, drop_at}
use Rattle.replay.specs.Settled.{AreSettled, Grows}
use Rattle.world_replay.specs.Gains.{Gains, gained, news}
use Rattle.world_replay.specs.Output.{Writes, output, shown_in_turn, told_in_turn}
use Rattle.world_replay.specs.Replay.{HappensInCalm, StopsInCalm}
use Rattle.world_replay.proofs.Grown.{Grew, begins, grew_more, grew_none, turn_gains, turn_grows}
use Rattle.world_replay.proofs.News.{news_later, told_begin, told_later, told_want}

-- a book gains one list of crossings, one of notices and one of reports
pub record SameGains {old new other : Kept} (g : Gains old new) (k : Gains old other) : Type 0 where
  pub crossings : g.crossings ≡ k.crossings
  pub notices : g.notices ≡ k.notices
  pub reports : g.reports ≡ k.reports

pub same_news : (old new other : Kept) (g : Gains old new) (k : Gains old other) → SameGains g k → gained g ≡ gained k
same_news old new other g k same =
    ap (λ cs. news old cs g.notices g.reports) same.crossings ∙ ap (λ ns. news old k.crossings ns g.reports) same.notices ∙ ap (λ rs. news old k.crossings k.notices rs) same.reports

pub gains_once : (old new other : Kept) (g : Gains old new) (k : Gains old other) → new ≡ other → SameGains g k
gains_once old new other g k same =
    let both : reverse g.crossings ++ old.book.crossings ≡ reverse k.crossings ++ old.book.crossings = sym g.crossed ∙ ap (λ (x : Kept). x.book.crossings) same ∙ k.crossed in
    let told : old.book.notices ++ g.notices ≡ old.book.notices ++ k.notices = sym g.told ∙ ap (λ (x : Kept). x.book.notices) same ∙ k.told in
    let said : old.book.reports ++ g.reports ≡ old.book.reports ++ k.reports = sym g.said ∙ ap (λ (x : Kept). x.book.reports) same ∙ k.said in
    record {
      crossings = sym (reverse-reverse g.crossings) ∙ ap reverse (append_cancel_right (reverse g.crossings) (reverse k.crossings) old.book.crossings both) ∙ reverse-reverse k.crossings;
      notices = append_cancel_left old.book.notices g.notices k.notices told;
      reports = append_cancel_left old.book.reports g.reports k.reports said;
    }

-- this many crossings were there, and this many came
counted : (old new : Kept) (g : Gains old new)
    → length new.book.crossings ≡ length old.book.crossings + length g.crossings
counted old new g =
    let all : length new.book.crossings ≡ length (reverse g.crossings ++ old.book.crossings) = ap length g.crossed in
    omega (arith, all, length-append (reverse g.crossings) old.book.crossings, length-reverse g.crossings)

-- and this many notices
noticed : (old new : Kept) (g : Gains old new) → length new.book.notices ≡ length old.book.notices + length g.notices
noticed old new g =
    let all : length new.book.notices ≡ length (old.book.notices ++ g.notices) = ap length g.told in
    omega (arith, all, length-append old.book.notices g.notices)

-- the lines of two events in turn are the lines of each
pub gained_more : (old mid new : Kept) (g : Grew old mid) (k : Grew mid new)
    → gained (grew_more old mid new g k).gains ≡ gained g.gains ++ gained k.gains
unfolding grew_more
gained_more old mid new g k =
    let n : ℕ = length old.book.notices in
    let told : told_in_turn n (g.gains.notices ++ k.gains.notices) (g.gains.reports ++ k.gains.reports) ≡ told_in_turn n g.gains.notices g.gains.reports ++ told_in_turn (length mid.book.notices) k.gains.notices k.gains.reports =
    told_later n (length mid.book.notices) n (length new.book.notices) g.gains.notices k.gains.notices g.gains.reports k.gains.reports (noticed old mid g.gains) g.about k.about in
    ap (shown_in_turn (length old.book.crossings) (g.gains.crossings ++ k.gains.crossings)) told
    ∙ news_later (length old.book.crossings) (length mid.book.crossings) g.gains.crossings k.gains.crossings (told_in_turn n g.gains.notices g.gains.reports) (told_in_turn (length mid.book.notices) k.gains.notices k.gains.reports) (counted old mid g.gains)
    (told_want (length old.book.crossings) (length mid.book.crossings) n g.gains.notices g.gains.reports g.between)
    (told_begin (length mid.book.crossings) (length new.book.crossings) (length mid.book.notices) (length new.book.notices) k.gains.notices k.gains.reports (noticed mid new k.gains) k.between k.about)

-- ---- printing an event

pub calm_grows : {C : Type 0} (calls : Calls C) (rounds : ℕ) (old : WorldState C) (r : Result (Unit {0}) WorldFault)
    (new : WorldState C) → CalmGives calls rounds old r new → Grew old.kept new.kept
calm_grows {C} calls rounds old r new h =
    calm_keeps calls (λ (w : WorldState C). Grew old.kept w.kept) (λ e. begins e ≡ false) refl (λ x. refl) (λ x. refl) (λ e v q w n g s. grew_more old.kept v.kept w.kept g (turn_grows calls e v q w n s)) rounds old r new (grew_none old.kept) h

-- the crossings, notices and reports after those of before are what the book gained
pub news_is : (old new : Kept) (g : Gains old new) (crossed told said : ℕ) → crossed ≡ length old.book.crossings
    → told ≡ length old.book.notices → said ≡ length old.book.reports
    → shown_in_turn crossed (drop crossed (reverse new.book.crossings)) (told_in_turn told (drop told new.book.notices) (drop said new.book.reports)) ≡ gained g
news_is old new g crossed told said is same alike =
    let whole : reverse new.book.crossings ≡ reverse old.book.crossings ++ g.crossings =
    ap reverse g.crossed ∙ reverse-append (reverse g.crossings) old.book.crossings ∙ ap (λ cs. reverse old.book.crossings ++ cs) (reverse-reverse g.crossings) in
    let front : crossed ≡ length (reverse old.book.crossings) = is ∙ sym (length-reverse old.book.crossings) in
    let crossings : drop crossed (reverse new.book.crossings) ≡ g.crossings = ap (drop crossed) whole ∙ drop_at (reverse old.book.crossings) g.crossings crossed (sym front) in
    let notices : drop told new.book.notices ≡ g.notices = ap (drop told) g.told ∙ drop_at old.book.notices g.notices told (sym same) in
    let reports : drop said new.book.reports ≡ g.reports = ap (drop said) g.said ∙ drop_at old.book.reports g.reports said (sym alike) in
    ap (λ cs. shown_in_turn crossed cs (told_in_turn told (drop told new.book.notices) (drop said new.book.reports))) crossings
    ∙ ap (λ ns. shown_in_turn crossed g.crossings (told_in_turn told ns (drop said new.book.reports))) notices
    ∙ ap (λ rs. shown_in_turn crossed g.crossings (told_in_turn told g.notices rs)) reports
    ∙ ap (λ n. shown_in_turn n g.crossings (told_in_turn told g.notices g.reports)) is
    ∙ ap (λ n. shown_in_turn (length old.book.crossings) g.crossings (told_in_turn n g.notices g.reports)) same

-- this book's news are written
abbrev pub News : {W : Type 0} → (W → Option (List ℕ)) → Detail → ℕ → ℕ → ℕ → Option (List ℕ) → W → Kept → Type 0
News contents detail crossed told said a mid k =
    Appends a (contents mid) (output detail (shown_in_turn crossed (drop crossed (reverse k.book.crossings)) (told_in_turn told (drop told k.book.notices) (drop said k.book.reports))))

-- an event of a calm, whose printing leaves out a refusal
pub calm_shown : {C W : Type 0} (contents : W → Option (List ℕ)) (calls : Calls C) (detail : Detail)
    (old : WorldState C) (e : Event) (outcome : Result (Unit {0}) WorldFault) (new : WorldState C)
    (crossed told said : ℕ) (a : Option (List ℕ)) (mid : W)
    → TurnGives calls old e outcome new → crossed ≡ length old.kept.book.crossings → told ≡ length old.kept.book.notices → said ≡ length old.kept.book.reports
    → News contents detail crossed told said a mid new.kept → stops outcome ≡ false → Writes detail (HappensInCalm calls old e new) a (contents mid)
calm_shown contents calls detail old e outcome new crossed told said a mid gives is same alike lines goes =
    let gains : Gains old.kept new.kept = turn_gains calls e old outcome new gives in
    record {
      shown = gained gains;
      is_shown = record { outcome = outcome; gives = gives; goes_on = goes; gains = gains; lines = refl };
      written = subst (λ xs. Appends a (contents mid) (output detail xs)) (news_is old.kept new.kept gains crossed told said is same alike) lines;
    }

pub calm_stopped : {C W : Type 0} (contents : W → Option (List ℕ)) (calls : Calls C) (detail : Detail)
    (old : WorldState C) (e : Event) (outcome : Result (Unit {0}) WorldFault) (new : WorldState C)
    (crossed told said : ℕ) (a : Option (List ℕ)) (mid : W)
    → TurnGives calls old e outcome new → crossed ≡ length old.kept.book.crossings → told ≡ length old.kept.book.notices → said ≡ length old.kept.book.reports
    → News contents detail crossed told said a mid new.kept → stops outcome ≡ true → Writes detail (StopsInCalm calls old e new) a (contents mid)
calm_stopped contents calls detail old e outcome new crossed told said a mid gives is same alike lines halts =
    let gains : Gains old.kept new.kept = turn_gains calls e old outcome new gives in
    record {
      shown = gained gains;
      is_shown = record { outcome = outcome; gives = gives; stops = halts; gains = gains; lines = refl };
      written = subst (λ xs. Appends a (contents mid) (output detail xs)) (news_is old.kept new.kept gains crossed told said is same alike) lines;
    }

-- ---- a carrier that shows what every carrier shows is settled where it is settled without that

same_growth : {C : Type 0} (own : Calls C) (old new : C) → Grows own old new → Grows (shown own) old new
same_growth own old new g = record { crossings = g.crossings; grown = g.grown }

pub shown_settled : {C : Type 0} (own : Calls C) → AreSettled own → AreSettled (shown own)
shown_settled own s = record {
  offers_once = λ old m r q new other h hg k kg. s.offers_once old m r q new other h.0 hg k.0 kg;
  takes_once = λ old g r q new other h hg k kg. s.takes_once old g r q new other h.0 hg k.0 kg;
  steps_once = λ old e r q new other h hg k kg. s.steps_once old e r q new other h.0 hg k.0 kg;
  rounds_once = λ old r q new other h hg k kg. s.rounds_once old r q new other h.0 hg k.0 kg;
  taking_grows = λ old g r new h. same_growth own old new (s.taking_grows old g r new h.0);
  refused_taking = λ old g f new h. s.refused_taking old g f new h.0;
  quiet_round = λ old r new h. s.quiet_round old r new h.0;
}
