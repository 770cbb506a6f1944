-- What is shown has all that a book gained, in any kind of world.
use Rattle.world_replay.proofs.Common.{◌≡◌, ℕ, List, [], ◌∷◌, ◌++◌, length, reverse, Result, Ok, Err, refl, ap, sym, subst, ◌∙◌, Kept, WorldFault, Gains, gained, WorldEvent}
use Rattle.std.proofs.lemmas.List.{append-nil, append_assoc}
use Rattle.replay.proofs.lemmas.{grown_more}
use Rattle.world_replay.specs.Kinds.{HappensBy, StopsBy, Kind, ReplaysBy, RunsOutBy}
use Rattle.world_replay.specs.Output.{notices_of, reports_of, shown_refusal, Shown, crossings_of}
use Rattle.world_replay.proofs.News.{crossings_in_turn, crossings_of-append, notices_in_turn, notices_of-append}
use Rattle.world_replay.proofs.News.{reports_in_turn, reports_of-append}

-- lines have the crossings, the notices and the reports that a book gained, and no others
pub record HaveGains (old new : Kept) (shown : List Shown) : Type 0 where
  pub crossed : new.book.crossings ≡ reverse (crossings_of shown) ++ old.book.crossings
  pub told : new.book.notices ≡ old.book.notices ++ notices_of shown
  pub said : new.book.reports ≡ old.book.reports ++ reports_of shown

nothing_gained : (k : Kept) → HaveGains k k []
nothing_gained k =
    record { crossed = refl; told = sym (append-nil k.book.notices); said = sym (append-nil k.book.reports) }

pub news_gained : (old new : Kept) (g : Gains old new) → HaveGains old new (gained g)
news_gained old new g =
    let crossings : ℕ = length old.book.crossings in
    let notices : ℕ = length old.book.notices in
    record {
      crossed = g.crossed
          ∙ ap (λ cs. reverse cs ++ old.book.crossings)
          (sym (crossings_in_turn crossings notices g.crossings g.notices g.reports));
      told = g.told
          ∙ ap (λ ts. old.book.notices ++ ts) (sym (notices_in_turn crossings notices g.crossings g.notices g.reports));
      said = g.said
          ∙ ap (λ rs. old.book.reports ++ rs) (sym (reports_in_turn crossings notices g.crossings g.notices g.reports));
    }

both_gained : (old mid new : Kept) (first rest : List Shown) → HaveGains old mid first → HaveGains mid new rest
    → HaveGains old new (first ++ rest)
both_gained old mid new first rest h k = record {
  crossed = grown_more old.book.crossings mid.book.crossings new.book.crossings (crossings_of first) (crossings_of rest)
      h.crossed k.crossed
      ∙ ap (λ cs. reverse cs ++ old.book.crossings) (sym (crossings_of-append first rest));
  told = k.told ∙ ap (λ ts. ts ++ notices_of rest) h.told
      ∙ append_assoc old.book.notices (notices_of first) (notices_of rest)
      ∙ ap (λ ts. old.book.notices ++ ts) (sym (notices_of-append first rest));
  said = k.said ∙ ap (λ rs. rs ++ reports_of rest) h.said
      ∙ append_assoc old.book.reports (reports_of first) (reports_of rest)
      ∙ ap (λ rs. old.book.reports ++ rs) (sym (reports_of-append first rest));
}

-- ---- refusals, by which nothing is gained

refusal_gained : (k : Kept) (r : Result (Unit {0}) WorldFault) → HaveGains k k (shown_refusal r)
refusal_gained k (Ok done) = nothing_gained k
refusal_gained k (Err f) =
    record { crossed = refl; told = sym (append-nil k.book.notices); said = sym (append-nil k.book.reports) }

-- ---- replays

module _ {S : Type 0} (kind : Kind S) where
  happens_show : (old : S) (e : WorldEvent) (new : S) (shown : List Shown) → HappensBy kind old e new shown
      → HaveGains (kind.kept old) (kind.kept new) shown
  happens_show old e new shown h =
      subst (HaveGains (kind.kept old) (kind.kept new)) (sym h.lines)
      (both_gained (kind.kept old) (kind.kept new) (kind.kept new) (gained h.gains) (shown_refusal h.outcome)
      (news_gained (kind.kept old) (kind.kept new) h.gains) (refusal_gained (kind.kept new) h.outcome))

  pub replays_show : (old : S) (events : List WorldEvent) (new : S) (shown : List Shown) → ReplaysBy kind old events new shown
      → HaveGains (kind.kept old) (kind.kept new) shown
  replays_show old [] new shown h =
      subst (λ (w : S). HaveGains (kind.kept old) (kind.kept w) shown) (sym h.0)
      (subst (HaveGains (kind.kept old) (kind.kept old)) (sym h.1) (nothing_gained (kind.kept old)))
  replays_show old (e ∷ events) new shown (mid, first, rest, happens, more, whole) =
      subst (HaveGains (kind.kept old) (kind.kept new)) (sym whole)
      (both_gained (kind.kept old) (kind.kept mid) (kind.kept new) first rest (happens_show old e mid first happens)
      (replays_show mid events new rest more))

  pub stops_show : (old : S) (events : List WorldEvent) (new : S) (shown : List Shown) → RunsOutBy kind old events new shown
      → HaveGains (kind.kept old) (kind.kept new) shown
  stops_show old events new shown h =
      subst (HaveGains (kind.kept old) (kind.kept new)) (sym h.lines)
      (both_gained (kind.kept old) (kind.kept h.mid) (kind.kept new) h.front h.own
      (replays_show old h.done h.mid h.front h.before)
      (subst (HaveGains (kind.kept h.mid) (kind.kept new)) (sym h.goes.lines)
      (news_gained (kind.kept h.mid) (kind.kept new) h.goes.gains)))
