use Rattle.book_judge.proofs.Common.{◌≡◌, ◌≤◌, List, [], ◌∷◌, inl, inr, true, false, refl, ap, arith, sym, subst, ◌∙◌, length, false≢true, same_host, same_host-refl, Life, Fate, suits, is_begun, AreSuited, IsSuited, Outlasts, cut_at, over_at, was_contacted, IsBeside, gave, sent_log, took, Crossing}
use Rattle.promise.specs.Ends.{Going, Asking, Closed, Over, Stage, Stopped, course, stage}
use Rattle.bit_messages.specs.Octets.{octets_of}
use Rattle.ncp_control.specs.Reading.{command_of, read_of}
use Rattle.host_pairs.specs.Control.{orders_of}
use Rattle.promise.specs.declared.life.Fate.TheVariants as fate
use Rattle.book_judge.specs.WorkedLives.{again_log, down_log, reset_log, third_down_log, third_log, took_after, took_again, took_from_third, took_nothing, unasked}
use Rattle.book_judge.proofs.Worked.{gave_goes, took_goes}
use Rattle.book_judge.proofs.law.worked_contacts.Goals as goal

took_begins : (course [] took sent_log).early ≡ false
unfolding octets_of orders_of read_of command_of
took_begins = refl

nothing_goes : stage [] took_nothing sent_log ≡ Going false false
unfolding octets_of orders_of read_of command_of
nothing_goes = refl

nothing_begins : (course [] took_nothing sent_log).early ≡ false
unfolding octets_of orders_of read_of command_of
nothing_begins = refl

gave_begins : (course [] gave sent_log).early ≡ false
unfolding octets_of orders_of read_of command_of
gave_begins = refl

took_goes_on : stage [] took third_log ≡ Going false false
unfolding octets_of orders_of read_of command_of
took_goes_on = refl

took_begins_there : (course [] took third_log).early ≡ false
unfolding octets_of orders_of read_of command_of
took_begins_there = refl

third_goes : stage [] took_from_third third_log ≡ Going false false
unfolding octets_of orders_of read_of command_of
third_goes = refl

third_begins : (course [] took_from_third third_log).early ≡ false
unfolding octets_of orders_of read_of command_of
third_begins = refl

never_asks : stage [] unasked sent_log ≡ Asking false false
unfolding octets_of orders_of read_of command_of
never_asks = refl

same_cut : cut_at sent_log took ≡ cut_at sent_log took_nothing
unfolding octets_of orders_of read_of command_of
same_cut = refl

took_stops : stage [] took down_log ≡ Over Stopped 17
unfolding octets_of orders_of read_of command_of
took_stops = refl

took_stops_begun : (course [] took down_log).early ≡ false
unfolding octets_of orders_of read_of command_of
took_stops_begun = refl

nothing_stops : stage [] took_nothing down_log ≡ Over Stopped 17
unfolding octets_of orders_of read_of command_of
nothing_stops = refl

nothing_stops_begun : (course [] took_nothing down_log).early ≡ false
unfolding octets_of orders_of read_of command_of
nothing_stops_begun = refl

took_stops_there : stage [] took third_down_log ≡ Over Stopped 19
unfolding octets_of orders_of read_of command_of
took_stops_there = refl

took_stops_there_begun : (course [] took third_down_log).early ≡ false
unfolding octets_of orders_of read_of command_of
took_stops_there_begun = refl

third_stops : stage [] took_from_third third_down_log ≡ Over Stopped 19
unfolding octets_of orders_of read_of command_of
third_stops = refl

third_stops_begun : (course [] took_from_third third_down_log).early ≡ false
unfolding octets_of orders_of read_of command_of
third_stops_begun = refl

took_closes : stage [] took again_log ≡ Over (Closed true) 18
unfolding octets_of orders_of read_of command_of
took_closes = refl

took_closes_begun : (course [] took again_log).early ≡ false
unfolding octets_of orders_of read_of command_of
took_closes_begun = refl

again_goes : stage [] took_again again_log ≡ Going false false
unfolding octets_of orders_of read_of command_of
again_goes = refl

again_goes_begun : (course [] took_again again_log).early ≡ false
unfolding octets_of orders_of read_of command_of
again_goes_begun = refl

took_closes_there : stage [] took reset_log ≡ Over (Closed true) 18
unfolding octets_of orders_of read_of command_of
took_closes_there = refl

took_closes_there_begun : (course [] took reset_log).early ≡ false
unfolding octets_of orders_of read_of command_of
took_closes_there_begun = refl

after_goes : stage [] took_after reset_log ≡ Going false false
unfolding octets_of orders_of read_of command_of
after_goes = refl

after_goes_begun : (course [] took_after reset_log).early ≡ false
unfolding octets_of orders_of read_of command_of
after_goes_begun = refl

down_cut : cut_at down_log took ≡ cut_at down_log took_nothing
unfolding octets_of orders_of read_of command_of
down_cut = refl

again_cut : cut_at again_log took ≡ cut_at again_log took_again
unfolding octets_of orders_of read_of command_of
again_cut = refl

reset_cut : cut_at reset_log took ≡ 19
unfolding octets_of orders_of read_of command_of
reset_cut = refl

after_cut : cut_at reset_log took_after ≡ 22
unfolding octets_of orders_of read_of command_of
after_cut = refl

module _ (log : List Crossing) where
  -- a life that is this far suits these fates
  is_far : (x : Life) (s : Stage) (f : Fate) → stage [] x log ≡ s → (course [] x log).early ≡ false
      → suits s f ≡ true → IsSuited log x f
  is_far x s f far begins fits =
      record { begins = λ e. begins; fate = ap (λ (t : Stage). suits t f) far ∙ fits }

  -- two lives are suited, where each is, and where a contact that reset either reset what outlasts it
  two_suit : (x y : Life) (f g : Fate) → IsSuited log x f → IsSuited log y g
      → (Outlasts log x y → f ≡ fate.Reset → g ≡ fate.Reset) → (Outlasts log y x → g ≡ fate.Reset → f ≡ fate.Reset)
      → AreSuited log (x ∷ y ∷ []) (f ∷ g ∷ [])
  two_suit x y f g one other forth back = record { each = each; contact = contact } where
    each : (z : Life) (h : Fate) → IsBeside z h (x ∷ y ∷ []) (f ∷ g ∷ []) → IsSuited log z h
    each z h b = elim b [
      | inl e ↦ subst (λ (w : Life). IsSuited log w h) (sym e.0) (subst (IsSuited log x) (sym e.1) one)
      | inr r ↦ elim r [
        | inl e ↦ subst (λ (w : Life). IsSuited log w h) (sym e.0) (subst (IsSuited log y) (sym e.1) other)
        | inr none ↦ absurd none
      ]
    ]

    at : (z w a b : Life) → z ≡ a → w ≡ b → Outlasts log z w → Outlasts log a b
    at z w a b e i t = subst (λ (u : Life). Outlasts log u b) e (subst (Outlasts log z) i t)

    contact : (z w : Life) (h : Fate) → IsBeside z fate.Reset (x ∷ y ∷ []) (f ∷ g ∷ [])
        → IsBeside w h (x ∷ y ∷ []) (f ∷ g ∷ []) → Outlasts log z w → h ≡ fate.Reset
    contact z w h b c t = elim b [
      | inl e ↦ elim c [
        | inl i ↦ i.1 ∙ sym e.1
        | inr r ↦ elim r [
          | inl i ↦ i.1 ∙ forth (at z w x y e.0 i.0 t) (sym e.1)
          | inr none ↦ absurd none
        ]
      ]
      | inr s ↦ elim s [
        | inl e ↦ elim c [
          | inl i ↦ i.1 ∙ back (at z w y x e.0 i.0 t) (sym e.1)
          | inr r ↦ elim r [ inl i ↦ i.1 ∙ sym e.1 | inr none ↦ absurd none ]
        ]
        | inr none ↦ absurd none
      ]
    ]

  outlasts : (x y : Life) (s t : Stage) → stage [] x log ≡ s → stage [] y log ≡ t → x.host ≡ y.host → x.peer ≡ y.peer
      → cut_at log x ≡ cut_at log y → was_contacted s ≡ true → is_begun t ≡ true
      → over_at (length log) s ≤ over_at (length log) t → Outlasts log x y
  outlasts x y s t e f host peer cuts contact begun later = record {
    host = host;
    peer = peer;
    stretch = cuts;
    contact = ap was_contacted e ∙ contact;
    begun = ap is_begun f ∙ begun;
    later =
        subst (λ (u : Stage). over_at (length log) u ≤ over_at (length log) (stage [] y log)) (sym e)
        (subst (λ (u : Stage). over_at (length log) s ≤ over_at (length log) u) (sym f) later);
  }

  -- so the second isn't spared
  is_reset : (x y : Life) (g : Fate) → Outlasts log x y → AreSuited log (x ∷ y ∷ []) (fate.Reset ∷ g ∷ [])
      → g ≡ fate.Reset
  is_reset x y g both all = all.contact x y g (inl (refl, refl)) (inr (inl (refl, refl))) both

took_suits : (f : Fate) → suits (Going false false) f ≡ true → IsSuited sent_log took f
took_suits f fits = is_far sent_log took (Going false false) f took_goes took_begins fits

nothing_suits : (f : Fate) → suits (Going false false) f ≡ true → IsSuited sent_log took_nothing f
nothing_suits f fits = is_far sent_log took_nothing (Going false false) f nothing_goes nothing_begins fits

pub returns-clause-both : goal.returns-clause-both
returns-clause-both c =
    two_suit sent_log took took_nothing fate.Reset fate.Reset (took_suits fate.Reset refl)
    (nothing_suits fate.Reset refl) (λ t e. e) (λ t e. e)

pub returns-clause-neither : goal.returns-clause-neither
returns-clause-neither c =
    two_suit sent_log took took_nothing fate.Open fate.Closing (took_suits fate.Open refl)
    (nothing_suits fate.Closing refl) (λ t e. absurd (cc)) (λ t e. absurd (cc))

-- their hosts are two
pub returns-clause-not_peers : goal.returns-clause-not_peers
returns-clause-not_peers c =
    two_suit sent_log took gave fate.Reset fate.Open (took_suits fate.Reset refl)
    (is_far sent_log gave (Going false false) fate.Open gave_goes gave_begins refl)
    (λ t e. absurd (false≢true (sym (ap (same_host took.host) t.host) ∙ same_host-refl took.host))) (λ t e. absurd (cc))

-- their peers are
pub returns-clause-other_peer : goal.returns-clause-other_peer
returns-clause-other_peer c =
    two_suit third_log took took_from_third fate.Reset fate.Open
    (is_far third_log took (Going false false) fate.Reset took_goes_on took_begins_there refl)
    (is_far third_log took_from_third (Going false false) fate.Open third_goes third_begins refl)
    (λ t e. absurd (false≢true (sym (ap (same_host took.peer) t.peer) ∙ same_host-refl took.peer)))
    (λ t e. absurd (cc))

alike : Outlasts sent_log took took_nothing
alike =
    outlasts sent_log took took_nothing (Going false false) (Going false false) took_goes nothing_goes refl refl same_cut
    refl refl (omega arith)

alike_turned : Outlasts sent_log took_nothing took
alike_turned =
    outlasts sent_log took_nothing took (Going false false) (Going false false) nothing_goes took_goes refl refl
    (sym same_cut) refl refl (omega arith)

one_reset : AreSuited sent_log (took ∷ took_nothing ∷ []) (fate.Reset ∷ fate.Open ∷ []) → ⊥
one_reset all =
    let no : fate.Open ≡ fate.Reset = is_reset sent_log took took_nothing fate.Open alike all in cc

pub returns-clause-not_one : goal.returns-clause-not_one
returns-clause-not_one c = one_reset

pub returns-clause-not_other : goal.returns-clause-not_other
returns-clause-not_other c = λ all.
    (let no : fate.Open ≡ fate.Reset =
    all.contact took_nothing took fate.Open (inr (inl (refl, refl))) (inl (refl, refl)) alike_turned in
    cc)

-- the first by itself is suited
first_suits : AreSuited sent_log (took ∷ []) (fate.Reset ∷ fate.Open ∷ [])
first_suits = record { each = each; contact = contact } where
  each : (z : Life) (h : Fate) → IsBeside z h (took ∷ []) (fate.Reset ∷ fate.Open ∷ []) → IsSuited sent_log z h
  each z h b = elim b [
    | inl e ↦ subst (λ (w : Life). IsSuited sent_log w h) (sym e.0)
        (subst (IsSuited sent_log took) (sym e.1) (took_suits fate.Reset refl))
    | inr none ↦ absurd none
  ]

  contact : (z w : Life) (h : Fate) → IsBeside z fate.Reset (took ∷ []) (fate.Reset ∷ fate.Open ∷ [])
      → IsBeside w h (took ∷ []) (fate.Reset ∷ fate.Open ∷ []) → Outlasts sent_log z w → h ≡ fate.Reset
  contact z w h b c t = elim c [ inl i ↦ i.1 | inr none ↦ absurd none ]

pub returns-clause-second : goal.returns-clause-second
returns-clause-second c = (first_suits, one_reset)

pub returns-clause-not_first : goal.returns-clause-not_first
returns-clause-not_first c = λ at. at.1 first_suits

pub returns-clause-unasked : goal.returns-clause-unasked
returns-clause-unasked c =
    two_suit sent_log took unasked fate.Reset fate.Open (took_suits fate.Reset refl)
    (record {
      begins = λ e. absurd (false≢true (sym (ap is_begun never_asks) ∙ e));
      fate = ap (λ (s : Stage). suits s fate.Open) never_asks;
    })
    (λ t e. absurd (false≢true (sym (ap is_begun never_asks) ∙ t.begun))) (λ t e. absurd (cc))

pub returns-clause-unbegun : goal.returns-clause-unbegun
returns-clause-unbegun c =
    two_suit sent_log unasked took fate.Reset fate.Open
    (record {
      begins = λ e. absurd (false≢true (sym (ap is_begun never_asks) ∙ e));
      fate = ap (λ (s : Stage). suits s fate.Reset) never_asks;
    })
    (took_suits fate.Open refl)
    (λ t e. absurd (false≢true (sym (ap was_contacted never_asks) ∙ t.contact))) (λ t e. absurd (cc))

-- ---- their host stops

pub returns-clause-both_down : goal.returns-clause-both_down
returns-clause-both_down c =
    two_suit down_log took took_nothing fate.Reset fate.Reset
    (is_far down_log took (Over Stopped 17) fate.Reset took_stops took_stops_begun refl)
    (is_far down_log took_nothing (Over Stopped 17) fate.Reset nothing_stops nothing_stops_begun refl)
    (λ t e. e) (λ t e. e)

pub returns-clause-not_one_down : goal.returns-clause-not_one_down
returns-clause-not_one_down c = λ all.
    (let no : fate.Stopped ≡ fate.Reset =
    is_reset down_log took took_nothing fate.Stopped
    (outlasts down_log took took_nothing (Over Stopped 17) (Over Stopped 17) took_stops nothing_stops refl refl down_cut
    refl refl (omega arith)) all in
    cc)

pub returns-clause-other_down : goal.returns-clause-other_down
returns-clause-other_down c =
    two_suit third_down_log took took_from_third fate.Reset fate.Stopped
    (is_far third_down_log took (Over Stopped 19) fate.Reset took_stops_there took_stops_there_begun refl)
    (is_far third_down_log took_from_third (Over Stopped 19) fate.Stopped third_stops third_stops_begun refl)
    (λ t e. absurd (false≢true (sym (ap (same_host took.peer) t.peer) ∙ same_host-refl took.peer)))
    (λ t e. absurd (cc))

-- ---- both CLS cross

pub returns-clause-not_later : goal.returns-clause-not_later
returns-clause-not_later c = λ all.
    (let no : fate.Open ≡ fate.Reset =
    is_reset again_log took took_again fate.Open
    (outlasts again_log took took_again (Over (Closed true) 18) (Going false false) took_closes again_goes refl refl
    again_cut refl refl (omega arith)) all in
    cc)

-- one is cut at place 19, and the other by nothing
pub returns-clause-after_reset : goal.returns-clause-after_reset
returns-clause-after_reset c =
    two_suit reset_log took took_after fate.Reset fate.Open
    (is_far reset_log took (Over (Closed true) 18) fate.Reset took_closes_there took_closes_there_begun refl)
    (is_far reset_log took_after (Going false false) fate.Open after_goes after_goes_begun refl)
    (λ t e. absurd (let same : 19 ≡ 22 = sym reset_cut ∙ t.stretch ∙ after_cut in omega (arith, same)))
    (λ t e. absurd (cc))

-- one is over at place 18, and the other by nothing
pub returns-clause-over : goal.returns-clause-over
returns-clause-over c =
    two_suit again_log took took_again fate.Closed fate.Reset
    (is_far again_log took (Over (Closed true) 18) fate.Closed took_closes took_closes_begun refl)
    (is_far again_log took_again (Going false false) fate.Reset again_goes again_goes_begun refl) (λ t e. absurd (cc))
    (λ t e. absurd (let late : 21 ≤ 18 =
    subst (λ (u : Stage). 21 ≤ over_at 21 u) took_closes
    (subst (λ (u : Stage). over_at 21 u ≤ over_at 21 (stage [] took again_log)) again_goes t.later) in
    omega (arith, late)))
