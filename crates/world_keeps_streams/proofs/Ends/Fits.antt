-- At all moments each life of the book has a fate that its stage leaves. One that continues is as far as its end is by the law of pairing.
use Rattle.world_keeps_streams.proofs.Common.{◌≡◌, ◌⊎◌, inl, inr, ℕ, ◌==◌, ◌&&◌, not, Bool, true, false, if◌then◌else◌, List, [], ◌∷◌, Option, Some, None, is_some, refl, ap, sym, subst, ◌∙◌, arith, Contains, Seen, Host, Crossing, has_cls, is_called_off, is_due, is_ending, is_mine_on, is_sent, Closing, Entry, Notice, Ask, Close, Mark, came_from, standing, all_lives_gone, all_lives_taken, with_openings, pair_with, Called, Fate, Kept, IsLawful, Crossed, Moment, places, program, contacts_of, crossings_of, WorldState, kept_fated, HasOpenEnd, AreOurs, Network, all_ours}
use Rattle.std.proofs.lemmas.Bool.{eqb-true, or_from, or_left, or_right}
use Rattle.host_pairs.proofs.lemmas.{both}
use Rattle.pairing_law.specs.Ends.{End, nothing}
use Rattle.host_keeps_pairing.specs.Words.{all_gone, all_taken}
use Rattle.host_keeps_pairing.proofs.lemmas.{plain}
use Rattle.promise.specs.Ends.{Asking, Cause, Course, Dropped, Going, Over, Stage, Stopped, cut, own_asked, own_closed, partner_asked, partner_closed, Leaves, AreLeft, Closed, course}
use Rattle.promise.specs.Fates.{IsBeside, is_over}
use Rattle.net_sim.specs.Told.{host_in, notices_by, kept_in}
use Rattle.world_keeps_lives.proofs.lemmas.{unopened, none_some}
use Rattle.interface.specs.declared.crossing.Crossing.TheVariants as crossing
use Rattle.host_pairs.specs.declared.entry.Closing.TheVariants as closing
use Rattle.ncp_control.specs.declared.phase.Phase.TheVariants as phase
use Rattle.promise.specs.declared.life.Fate.TheVariants as fate
use Rattle.promise.specs.declared.life.Life.{Life}
use Rattle.world_keeps_streams.proofs.Books.Arrives.{end_at}
use Rattle.world_keeps_streams.proofs.Books.Ending.{no_close_opening}
use Rattle.world_keeps_streams.proofs.Deeds.Effects.{Among}
use Rattle.world_keeps_streams.proofs.Ends.Courses.{course_in, course_key, course_same, key_named, key_of}
use Rattle.world_keeps_streams.proofs.Ends.Every.{kind_here}
use Rattle.world_keeps_streams.proofs.Ends.Halves.{asked_below, begun_stays, half_own, half_partner, over_stays}
use Rattle.world_keeps_streams.proofs.Ends.Kinds.{Hears, ItDrops, ItHears, ItIdles, ItSays, ItStays, ItStops, Kind, Pace, Says, among_none, end_of, openings_some, stage_of}
use Rattle.world_keeps_streams.proofs.Ends.MarkedEnds.{HearsOn, HearsOver, SaysOn, SaysOver, asked_heard, asks_here, begin_hears, begin_hears_early, begin_says, begin_says_early, hears_here, hears_lock, none_hears, none_says, partner_said, says_lock}
use Rattle.world_keeps_streams.proofs.Ends.Marks.{is_asking, never, own_early, own_marks, partner_early, partner_marks}
use Rattle.world_keeps_streams.proofs.Ends.Opens.{one_end, undue_asked, undue_heard, unshut_end}
use Rattle.world_keeps_streams.proofs.Ends.Ties.{IsGoing, entry_is, going, itself, law_end}
use Rattle.world_keeps_streams.proofs.Ends.Unshut.{Unshut, is_shut, unshut_next}
use Rattle.world_keeps_streams.proofs.Lives.Fates.{Came, How, IsBegun, IsCls, IsDown, Moved, TellsEnd, TellsOpening, TellsReset, beside_of, beside_over, came, ends_named, opening_named, resets_named, cls_over}
use Rattle.world_keeps_streams.proofs.Lives.Lists.{Named, contains}
use Rattle.world_keeps_streams.proofs.Lives.Opened.{contains_among, no_openings}
use Rattle.world_keeps_streams.proofs.Requests.Sides.{Lawful, coupled_in, below, book_lawful}
use Rattle.world_keeps_streams.proofs.Books.Began.{sent_cls}
use Rattle.net_sim.specs.Among.{beside_among, lives_among}
use Rattle.world_keeps_streams.proofs.Ours.{live, ours_of}
use Rattle.world_keeps_lives.proofs.lemmas.AllOurs.{among_all, beside_all}
use Rattle.world_keeps_streams.proofs.Lives.Among.{in_beside}

-- ---- stages and fates

-- a stage where it isn't said whose CLS was the first
abbrev unordered : Stage → Stage
unordered (Going own partner) = Going false partner
unordered (Over (Closed own_first) place) = Over (Closed false) place
unordered s = s

left_by : (s : Stage) (f : Fate) → Leaves (unordered s) f → ((p : Bool) → s ≡ Going true p → f ≡ fate.Open → ⊥)
    → ((n : ℕ) → s ≡ Over (Closed true) n → f ≡ fate.Ended → ⊥) → Leaves s f
left_by (Asking o p) f leaves said first = absurd leaves
left_by (Going false p) f leaves said first = leaves
left_by (Going true p) fate.Open leaves said first = absurd (said p refl refl)
left_by (Going true p) fate.Closing leaves said first = tt
left_by (Going true p) fate.Closed leaves said first = absurd leaves
left_by (Going true p) fate.Ended leaves said first = absurd leaves
left_by (Going true p) fate.Reset leaves said first = absurd leaves
left_by (Going true p) fate.Stopped leaves said first = absurd leaves
left_by (Over Dropped n) f leaves said first = leaves
left_by (Over Stopped n) f leaves said first = leaves
left_by (Over (Closed false) n) f leaves said first = leaves
left_by (Over (Closed true) n) fate.Ended leaves said first = absurd (first n refl refl)
left_by (Over (Closed true) n) fate.Closed leaves said first = tt
left_by (Over (Closed true) n) fate.Open leaves said first = absurd leaves
left_by (Over (Closed true) n) fate.Closing leaves said first = absurd leaves
left_by (Over (Closed true) n) fate.Reset leaves said first = absurd leaves
left_by (Over (Closed true) n) fate.Stopped leaves said first = absurd leaves

pub over_stage : (s : Stage) (f : Fate) → is_over f ≡ true → Leaves (unordered s) f → (c : Cause) × (n : ℕ) × (s ≡ Over c n)
over_stage (Asking o p) f over leaves = absurd leaves
over_stage (Going o p) fate.Open over leaves = never (sym over)
over_stage (Going o p) fate.Closing over leaves = never (sym over)
over_stage (Going o p) fate.Closed over leaves = absurd leaves
over_stage (Going o p) fate.Ended over leaves = absurd leaves
over_stage (Going o p) fate.Reset over leaves = absurd leaves
over_stage (Going o p) fate.Stopped over leaves = absurd leaves
over_stage (Over c n) f over leaves = (c, n, refl)

goes_leaves : (o p : Bool) (f : Fate) → is_over f ≡ false → Leaves (unordered (Going o p)) f
goes_leaves o p fate.Open goes = refl
goes_leaves o p fate.Closing goes = tt
goes_leaves o p fate.Closed goes = never goes
goes_leaves o p fate.Ended goes = never goes
goes_leaves o p fate.Reset goes = never goes
goes_leaves o p fate.Stopped goes = never goes

cls_leaves : (b : Bool) (n : ℕ) (f : Fate) → IsCls f → Leaves (unordered (Over (Closed b) n)) f
cls_leaves b n f (inl e) = subst (λ (g : Fate). Leaves (Over (Closed false) n) g) (sym e) tt
cls_leaves b n f (inr e) = subst (λ (g : Fate). Leaves (Over (Closed false) n) g) (sym e) refl

-- ---- a life's fate and its end

abbrev pub Fit : Life → List Moment → Fate → Type 0
Fit k ms f = Leaves (unordered (stage_of k ms)) f × (is_over f ≡ false → stage_of k ms ≡ Going (end_of k ms).gone (end_of k ms).taken)

fit_over : (k : Life) (ms : List Moment) (s : Stage) (f : Fate) → stage_of k ms ≡ s → is_over f ≡ true → Leaves (unordered s) f → Fit k ms f
fit_over k ms s f is over leaves = (subst (λ (t : Stage). Leaves (unordered t) f) (sym is) leaves, λ goes. never (sym over ∙ goes))

fit_goes : (k : Life) (ms : List Moment) (f : Fate) → is_over f ≡ false → stage_of k ms ≡ Going (end_of k ms).gone (end_of k ms).taken → Fit k ms f
fit_goes k ms f goes is = (subst (λ (t : Stage). Leaves (unordered t) f) (sym is) (goes_leaves (end_of k ms).gone (end_of k ms).taken f goes), λ e. is)

-- and nothing ended it before it began; while it is open no user has closed it, and it has ended only where its own CLS
-- wasn't the first
pub record IsFit (k : Life) (ms : List Moment) (f : Fate) : Type 0 where
  pub both : Fit k ms f
  pub early : (course_in k ms).early ≡ false
  pub unshut : f ≡ fate.Open → Unshut k ms
  pub first : (n : ℕ) → stage_of k ms ≡ Over (Closed true) n → f ≡ fate.Ended → ⊥

-- one of its two requests has still to cross
abbrev IsFresh : Life → List Moment → Type 0
IsFresh k ms =
    (((end_of k ms).asked ≡ None) × ((pair_with k.peer (program k.host ms).peers).phase ≡ phase.Ready)
    × ((pair_with k.peer (program k.host ms).peers).owed ≡ false))
    ⊎ ((end_of k ms).partner ≡ None)

named_key : (x : Life) → Named x (key_of x)
named_key x = record { host = refl; socket = refl; peer = refl; foreign = refl; own = refl; partner = refl }

key_back : (x : Life) → Named (key_of x) x
key_back x = record { host = refl; socket = refl; peer = refl; foreign = refl; own = refl; partner = refl }

-- ---- what a life may become, by the kind of a moment

module _ (k : Life) (y : Moment) (ms : List Moment) (f : Fate) where
  -- by its notices, or by its host's stop
  abbrev Becomes : Type 0
  Becomes = (is_over f ≡ false) ⊎ ((IsCls f × (host_in y ≡ k.host) × TellsEnd k (notices_by y ms)) ⊎ (((f ≡ fate.Reset) × (host_in y ≡ k.host) × TellsReset k (notices_by y ms)) ⊎ ((f ≡ fate.Stopped) × IsDown y k)))

  goes_on : ((host_in y ≡ k.host) → TellsEnd k (notices_by y ms) → ⊥) → ((host_in y ≡ k.host) → TellsReset k (notices_by y ms) → ⊥) → (IsDown y k → ⊥) → Becomes → is_over f ≡ false
  goes_on unended unreset up (inl goes) = goes
  goes_on unended unreset up (inr (inl b)) = absurd (unended b.1 b.2)
  goes_on unended unreset up (inr (inr (inl b))) = absurd (unreset b.1 b.2)
  goes_on unended unreset up (inr (inr (inr b))) = absurd (up b.1)

  closes_now : (is_over f ≡ false → ⊥) → ((host_in y ≡ k.host) → TellsReset k (notices_by y ms) → ⊥) → (IsDown y k → ⊥) → Becomes → IsCls f
  closes_now off unreset up (inl goes) = absurd (off goes)
  closes_now off unreset up (inr (inl b)) = b.0
  closes_now off unreset up (inr (inr (inl b))) = absurd (unreset b.1 b.2)
  closes_now off unreset up (inr (inr (inr b))) = absurd (up b.1)

  drops_now : (is_over f ≡ false → ⊥) → ((host_in y ≡ k.host) → TellsEnd k (notices_by y ms) → ⊥) → (IsDown y k → ⊥) → Becomes → f ≡ fate.Reset
  drops_now off unended up (inl goes) = absurd (off goes)
  drops_now off unended up (inr (inl b)) = absurd (unended b.1 b.2)
  drops_now off unended up (inr (inr (inl b))) = b.0
  drops_now off unended up (inr (inr (inr b))) = absurd (up b.1)

  stops_now : (is_over f ≡ false → ⊥) → ((host_in y ≡ k.host) → TellsEnd k (notices_by y ms) → ⊥) → ((host_in y ≡ k.host) → TellsReset k (notices_by y ms) → ⊥) → Becomes → f ≡ fate.Stopped
  stops_now off unended unreset (inl goes) = absurd (off goes)
  stops_now off unended unreset (inr (inl b)) = absurd (unended b.1 b.2)
  stops_now off unended unreset (inr (inr (inl b))) = absurd (unreset b.1 b.2)
  stops_now off unended unreset (inr (inr (inr b))) = b.0

  -- one that went, where its end is there as long as it continues
  module _ (hosts : Network) (kind : (z : Moment) (zs : List Moment) → Lawful hosts (z ∷ zs) → Kind k z zs) (l : Lawful hosts (y ∷ ms)) (was : IsGoing k (end_of k ms)) (is : is_over f ≡ false → IsGoing k (end_of k (y ∷ ms))) (stage : stage_of k ms ≡ Going (end_of k ms).gone (end_of k ms).taken)
      (becomes : Becomes) where
    gone_off : end_of k (y ∷ ms) ≡ nothing → is_over f ≡ false → ⊥
    gone_off none goes = none_some k.own_stamp (sym (ap (λ (e : End). e.asked) none) ∙ (is goes).asked)

    -- not both its CLS are there
    not_both : (v w : Bool) → (v && w) ≡ false → v ≡ true → w ≡ false
    not_both true w e t = e
    not_both false w e t = never (sym t)

    not_second : (v w : Bool) → (v && w) ≡ false → w ≡ true → v ≡ false
    not_second true w e t = never (sym t ∙ e)
    not_second false w e t = refl

    says : Says k y ms → Fit k (y ∷ ms) f
    says s = by (says_lock k (places ms) s.marks (end_of k ms) (places ms) k.own_stamp was.asked (s.may (places ms) (omega arith))) where
      stage_now : stage_of k (y ∷ ms) ≡ own_marks k (places ms) s.marks (Going (end_of k ms).gone (end_of k ms).taken)
      stage_now = s.stage ∙ ap (own_marks k (places ms) s.marks) stage

      unended : SaysOn k (places ms) s.marks (end_of k ms) → (host_in y ≡ k.host) → TellsEnd k (notices_by y ms) → ⊥
      unended on = of (end_of k ms).taken refl where
        of : (v : Bool) → (end_of k ms).taken ≡ v → (host_in y ≡ k.host) → TellsEnd k (notices_by y ms) → ⊥
        of true e = s.unsaid (not_second (end_of k ms).gone (end_of k ms).taken was.live e) (on.quiet e)
        of false e = s.untaken e

      by : SaysOn k (places ms) s.marks (end_of k ms) ⊎ SaysOver k (places ms) s.marks (end_of k ms) → Fit k (y ∷ ms) f
      by (inl on) =
          fit_goes k (y ∷ ms) f (goes_on (unended on) s.unreset s.up becomes)
          (stage_now ∙ on.stage ∙ ap (λ (e : End). Going e.gone e.taken) (sym s.ends))
      by (inr over) =
          let cls : IsCls f = closes_now (λ goes.
          over.left (places ms) (asked_below k hosts kind ms (below hosts y ms l) k.own_stamp was.asked) (s.may (places ms) (omega arith)) (ap (λ (e : End). e.asked) (sym s.ends) ∙ (is goes).asked)) s.unreset s.up becomes in
          fit_over k (y ∷ ms) (Over (Closed false) (places ms)) f (stage_now ∙ over.stage) (cls_over f cls) (cls_leaves false (places ms) f cls)

    hears : Hears k y ms → Fit k (y ∷ ms) f
    hears s = by (hears_lock k (places ms) s.marks (end_of k ms) (ap is_some was.partner) s.fit) where
      stage_now : stage_of k (y ∷ ms) ≡ partner_marks k (places ms) s.marks (Going (end_of k ms).gone (end_of k ms).taken)
      stage_now = s.stage ∙ ap (partner_marks k (places ms) s.marks) stage

      unended : HearsOn k (places ms) s.marks (end_of k ms) → (host_in y ≡ k.host) → TellsEnd k (notices_by y ms) → ⊥
      unended on = of (end_of k ms).gone refl where
        of : (v : Bool) → (end_of k ms).gone ≡ v → (host_in y ≡ k.host) → TellsEnd k (notices_by y ms) → ⊥
        of true e = s.unheard (not_both (end_of k ms).gone (end_of k ms).taken was.live e) (on.quiet e)
        of false e = s.unsent e

      by : HearsOn k (places ms) s.marks (end_of k ms) ⊎ HearsOver k (places ms) s.marks (end_of k ms) → Fit k (y ∷ ms) f
      by (inl on) =
          fit_goes k (y ∷ ms) f (goes_on (unended on) s.unreset s.up becomes)
          (stage_now ∙ on.stage ∙ ap (λ (e : End). Going e.gone e.taken) (sym s.ends))
      by (inr over) =
          let cls : IsCls f = closes_now (λ goes. none_some k.own_stamp (sym over.left ∙ ap (λ (e : End). e.asked) (sym s.ends) ∙ (is goes).asked)) s.unreset s.up becomes in
          fit_over k (y ∷ ms) (Over (Closed true) (places ms)) f (stage_now ∙ over.stage) (cls_over f cls) (cls_leaves true (places ms) f cls)

    step : Kind k y ms → Fit k (y ∷ ms) f
    step (ItSays s) = says s
    step (ItHears s) = hears s
    step (ItDrops s) =
        let r : f ≡ fate.Reset = drops_now (gone_off s.ends) s.unended s.up becomes in
        fit_over k (y ∷ ms) (Over Dropped (places ms)) f (s.stage ∙ ap (cut Dropped (places ms)) stage) (ap is_over r) (subst (λ (g : Fate). Leaves (Over Dropped (places ms)) g) (sym r) tt)
    step (ItStops s) =
        let r : f ≡ fate.Stopped = stops_now (gone_off s.ends) s.unended s.unreset becomes in
        fit_over k (y ∷ ms) (Over Stopped (places ms)) f (s.stage ∙ ap (cut Stopped (places ms)) stage) (ap is_over r) (subst (λ (g : Fate). Leaves (Over Stopped (places ms)) g) (sym r) tt)
    step (ItStays s) =
        fit_goes k (y ∷ ms) f (goes_on s.unended s.unreset s.up becomes)
        (ap (λ (p : Pace). p.0) s.pace ∙ stage ∙ ap (λ (e : End). Going e.gone e.taken) (sym s.ends))
    step (ItIdles s) = by s.idle where
      by : (end_of k ms ≡ nothing) ⊎ (((host_in y ≡ k.host) → TellsEnd k (notices_by y ms) → ⊥) × ((host_in y ≡ k.host) → TellsReset k (notices_by y ms) → ⊥)) → Fit k (y ∷ ms) f
      by (inl none) = none_some k.own_stamp (sym (ap (λ (e : End). e.asked) none) ∙ was.asked)
      by (inr quiet) = absurd (gone_off s.ends (goes_on quiet.0 quiet.1 s.up becomes))

  -- one that begins
  module _ (hosts : Network) (kind : (z : Moment) (zs : List Moment) → Lawful hosts (z ∷ zs) → Kind k z zs) (l : Lawful hosts (y ∷ ms)) (clear : ((end_of k ms).gone ≡ false) × ((end_of k ms).taken ≡ false))
      (is : is_over f ≡ false → IsGoing k (end_of k (y ∷ ms))) (host : host_in y ≡ k.host) (opens : TellsOpening k (notices_by y ms)) (becomes : Becomes) where
    old : Lawful hosts ms
    old = below hosts y ms l

    abbrev Begins : Type 0
    Begins =
        (is_over f ≡ false) × (stage_of k (y ∷ ms) ≡ Going (end_of k (y ∷ ms)).gone (end_of k (y ∷ ms)).taken)
        × ((course_in k (y ∷ ms)).early ≡ false) × IsFresh k ms

    begin_saying : Says k y ms → Begins
    begin_saying s =
        (goes, (by (end_of k ms).asked refl).0, (by (end_of k ms).asked refl).1, (by (end_of k ms).asked refl).2) where
          goes : is_over f ≡ false
          goes = goes_on (s.untaken clear.1) s.unreset s.up becomes

          asked_now : (all_gone s.marks (end_of k ms)).asked ≡ Some k.own_stamp
          asked_now = ap (λ (e : End). e.asked) (sym s.ends) ∙ (is goes).asked

          partner_was : (end_of k ms).partner ≡ Some k.partner_stamp
          partner_was = partner_said k (places ms) s.marks (end_of k ms) k.partner_stamp (ap (λ (e : End). e.partner) (sym s.ends) ∙ (is goes).partner)

          by : (o : Option ℕ) → (end_of k ms).asked ≡ o → (stage_of k (y ∷ ms) ≡ Going (end_of k (y ∷ ms)).gone
              (end_of k (y ∷ ms)).taken) × ((course_in k (y ∷ ms)).early ≡ false) × IsFresh k ms
          by (Some a) e =
              absurd (openings_some k (notices_by y ms) [] opens
              (among_none (with_openings itself k.socket k.foreign (notices_by y ms) []) (all_lives_gone s.marks (end_of k ms) []) s.opens
              (none_says k (places ms) s.marks (end_of k ms) (places ms) (inl (ap is_some e)) (s.may (places ms) (omega arith)))))
          by None e =
              let at : k.own_stamp ≡ places ms = asks_here k (places ms) s.marks (end_of k ms) k.own_stamp s.here e asked_now in
              let half : (stage_of k ms ≡ Asking false true) × ((course_in k ms).early ≡ false) =
              half_partner k hosts kind ms old partner_was clear.0 clear.1 (omega (arith, at)) in (
                s.stage ∙ ap (own_marks k (places ms) s.marks) half.0
                    ∙ begin_says k (places ms) s.marks (end_of k ms) (places ms) k.own_stamp s.here at clear.1 e
                    (s.may (places ms) (omega arith)) asked_now
                    ∙ ap (λ (e : End). Going e.gone e.taken) (sym s.ends),
                s.early
                    ∙ or_from (course_in k ms).early (own_early k (places ms) s.marks (stage_of k ms)) half.1
                    (ap (λ (t : Stage). own_early k (places ms) s.marks t) half.0
                    ∙ begin_says_early k (places ms) s.marks (end_of k ms) (places ms) k.own_stamp at clear.1 e
                    (s.may (places ms) (omega arith)) asked_now),
                inl (e, s.ready, s.owes),
              )

    begin_hearing : Hears k y ms → Begins
    begin_hearing s = (
      goes,
      (by (end_of k ms).partner refl).0,
      (by (end_of k ms).partner refl).1,
      (by (end_of k ms).partner refl).2,
    ) where
      goes : is_over f ≡ false
      goes = goes_on (s.unsent clear.0) s.unreset s.up becomes

      partner_now : (all_taken s.marks (end_of k ms)).partner ≡ Some k.partner_stamp
      partner_now = ap (λ (e : End). e.partner) (sym s.ends) ∙ (is goes).partner

      asked_was : (end_of k ms).asked ≡ Some k.own_stamp
      asked_was = asked_heard k (places ms) s.marks (end_of k ms) k.own_stamp (ap (λ (e : End). e.asked) (sym s.ends) ∙ (is goes).asked)

      by : (o : Option ℕ) → (end_of k ms).partner ≡ o → (stage_of k (y ∷ ms) ≡ Going (end_of k (y ∷ ms)).gone
          (end_of k (y ∷ ms)).taken) × ((course_in k (y ∷ ms)).early ≡ false) × IsFresh k ms
      by (Some b) e =
          absurd (openings_some k (notices_by y ms) [] opens
          (among_none (with_openings itself k.socket k.foreign (notices_by y ms) []) (all_lives_taken s.marks (end_of k ms) []) s.opens
          (none_hears k (places ms) s.marks (end_of k ms) (inr (ap is_some e)) s.fit)))
      by None e =
          let at : k.partner_stamp ≡ places ms = hears_here k (places ms) s.marks (end_of k ms) k.partner_stamp s.here e partner_now in
          let half : (stage_of k ms ≡ Asking true false) × ((course_in k ms).early ≡ false) =
          half_own k hosts kind ms old asked_was clear.0 clear.1 (omega (arith, at)) in (
            s.stage ∙ ap (partner_marks k (places ms) s.marks) half.0
                ∙ begin_hears k (places ms) s.marks (end_of k ms) k.partner_stamp s.here at clear.0 e s.fit partner_now
                ∙ ap (λ (e : End). Going e.gone e.taken) (sym s.ends),
            s.early
                ∙ or_from (course_in k ms).early (partner_early k (places ms) s.marks (stage_of k ms)) half.1
                (ap (λ (t : Stage). partner_early k (places ms) s.marks t) half.0
                ∙ begin_hears_early k (places ms) s.marks (end_of k ms) k.partner_stamp at clear.0 e s.fit partner_now),
            inr e,
          )

    begins : Kind k y ms → Begins
    begins (ItSays s) = begin_saying s
    begins (ItHears s) = begin_hearing s
    begins (ItDrops s) = absurd (s.unopened host opens)
    begins (ItStops s) = absurd (s.unopened host opens)
    begins (ItStays s) = absurd (s.unopened host opens)
    begins (ItIdles s) = absurd (s.unopened host opens)

-- ---- whose CLS was the first

module _ (k : Life) (y : Moment) (ms : List Moment) (f : Fate) (ended : f ≡ fate.Ended) (n : ℕ) where
  going_over : {A : Type 0} (o p : Bool) → Going o p ≡ Over (Closed true) n → A
  going_over o p e = absurd (cc)

  -- what is said makes none of these
  own_if : (v : Bool) (s : Stage) → (s ≡ Over (Closed true) n → ⊥) → (if v then own_asked s else s) ≡ Over
      (Closed true) n → ⊥
  own_if true (Asking o true) not e = going_over false false e
  own_if true (Asking o false) not e = absurd (let no : Asking true false ≡ Over (Closed true) n = e in cc)
  own_if true (Going o p) not e = not e
  own_if true (Over c m) not e = not e
  own_if false s not e = not e

  own_end : (place : ℕ) (s : Stage) → (s ≡ Over (Closed true) n → ⊥) → own_closed place s ≡ Over (Closed true) n → ⊥
  own_end place (Asking o p) not e = not e
  own_end place (Going o true) not e = absurd (let no : Over (Closed false) place ≡ Over (Closed true) n = e in cc)
  own_end place (Going o false) not e = going_over true false e
  own_end place (Over c m) not e = not e

  own_never : (place : ℕ) (marks : List Mark) (s : Stage) → (s ≡ Over (Closed true) n → ⊥)
      → own_marks k place marks s ≡ Over (Closed true) n → ⊥
  own_never place [] s not e = not e
  own_never place (Ask p ∷ marks) s not e =
      own_never place marks (if place == k.own_stamp then own_asked s else s) (own_if (place == k.own_stamp) s not) e
  own_never place (Close ∷ marks) s not e = own_never place marks (own_closed place s) (own_end place s not) e

  -- nor what is heard, while the own CLS hasn't gone out
  abbrev Unsaid : Stage → Type 0
  Unsaid (Going own partner) = own ≡ false
  Unsaid (Asking own partner) = Unit {0}
  Unsaid (Over cause place) = ⊥

  partner_if : (v : Bool) (s : Stage) → Unsaid s → Unsaid (if v then partner_asked s else s)
  partner_if true (Asking true p) u = refl
  partner_if true (Asking false p) u = tt
  partner_if true (Going o p) u = u
  partner_if true (Over c m) u = u
  partner_if false s u = u

  partner_end : (place : ℕ) (s : Stage) → Unsaid s → Unsaid (partner_closed place s)
  partner_end place (Asking o p) u = u
  partner_end place (Going true p) u = never u
  partner_end place (Going false p) u = refl
  partner_end place (Over c m) u = u

  partner_never : (place : ℕ) (marks : List Mark) (s : Stage) → Unsaid s
      → partner_marks k place marks s ≡ Over (Closed true) n → ⊥
  partner_never place [] s u e = subst Unsaid e u
  partner_never place (Ask p ∷ marks) s u e =
      partner_never place marks (if place == k.partner_stamp then partner_asked s else s)
      (partner_if (place == k.partner_stamp) s u) e
  partner_never place (Close ∷ marks) s u e =
      partner_never place marks (partner_closed place s) (partner_end place s u) e

  over_now_is : is_over f ≡ true
  over_now_is = ap is_over ended

  -- so its own CLS had gone out
  pub first_gone : Kind k y ms → IsGoing k (end_of k ms) → stage_of k ms ≡ Going (end_of k ms).gone (end_of k ms).taken
      → Becomes k y ms f → stage_of k (y ∷ ms) ≡ Over (Closed true) n → (end_of k ms).gone ≡ true
  first_gone kind was stage becomes now = by kind (end_of k ms).gone refl where
    by : Kind k y ms → (v : Bool) → (end_of k ms).gone ≡ v → v ≡ true
    by kind true e = refl
    by (ItSays s) false e =
        absurd (own_never (places ms) s.marks (Going (end_of k ms).gone (end_of k ms).taken)
        (λ same. going_over (end_of k ms).gone (end_of k ms).taken same)
        (ap (own_marks k (places ms) s.marks) (sym stage) ∙ sym s.stage ∙ now))
    by (ItHears s) false e =
        absurd (partner_never (places ms) s.marks (Going (end_of k ms).gone (end_of k ms).taken) e
        (ap (partner_marks k (places ms) s.marks) (sym stage) ∙ sym s.stage ∙ now))
    by (ItDrops s) false e =
        absurd (let no : Over Dropped (places ms) ≡ Over (Closed true) n = ap (cut Dropped (places ms)) (sym stage)
        ∙ sym s.stage ∙ now in cc)
    by (ItStops s) false e =
        absurd (let no : Over Stopped (places ms) ≡ Over (Closed true) n = ap (cut Stopped (places ms)) (sym stage)
        ∙ sym s.stage ∙ now in cc)
    by (ItStays s) false e =
        going_over (end_of k ms).gone (end_of k ms).taken (sym stage ∙ sym (ap (λ (p : Pace). p.0) s.pace) ∙ now)
    by (ItIdles s) false e = idle s.idle where
      idle : (end_of k ms ≡ nothing) ⊎ (((host_in y ≡ k.host) → TellsEnd k (notices_by y ms) → ⊥)
          × ((host_in y ≡ k.host) → TellsReset k (notices_by y ms) → ⊥)) → false ≡ true
      idle (inl none) = none_some k.own_stamp (sym (ap (λ (x : End). x.asked) none) ∙ was.asked)
      idle (inr quiet) = never (sym over_now_is ∙ goes_on k y ms f quiet.0 quiet.1 s.up becomes)

-- ---- all lives at all moments

module _ (hosts : Network) where
  -- one that isn't over has its end
  goes_now : (ms : List Moment) → Lawful hosts ms → (x : Life) (f : Fate) → AreOurs hosts x.host x.peer
      → IsBeside x f (kept_in ms).book.lives (kept_in ms).fates → is_over f ≡ false
      → IsGoing (key_of x) (end_of (key_of x) ms)
  goes_now ms l x f ours i goes =
      let open_end : HasOpenEnd (program x.host ms) x =
      live hosts ms l.0 l.1 l.2 x ours.0 (contains x (kept_in ms).book.lives (beside_of (kept_in ms).book.lives (kept_in ms).fates x f i)) (beside_over (kept_in ms).book.lives (kept_in ms).fates x f (kept_fated ms) i ∙ goes) in
      let g : IsGoing x (end_of (key_of x) ms) = going hosts ms l x ours open_end in
      record { asked = g.asked; partner = g.partner; live = g.live }

  -- before it begins no CLS of its end was taken, and none went out
  module _ (y : Moment) (ms : List Moment) (l : Lawful hosts (y ∷ ms)) (x : Life) (ours : AreOurs hosts x.host x.peer)
      (host : host_in y ≡ x.host) (opens : TellsOpening x (notices_by y ms)) where
    not_shut : ((e : Entry) → Among e (pair_with x.peer (program x.host ms).peers).entries → e.own ≡ x.socket → e.foreign ≡ x.foreign → is_ending e ≡ true) → ⊥
    not_shut shut =
        let old : Lawful hosts ms = below hosts y ms l in
        no_openings x (notices_by y ms)
        (unopened x.peer x.socket x.foreign hosts old.0 ms old.1 old.2 y (subst (λ (h : Host). hosts.strange h ≡ false) (sym host) ours.0) (coupled_in hosts (y ∷ ms) l).story
        (λ e there own foreign. shut e (contains_among (pair_with x.peer (program x.host ms).peers).entries e (subst (λ (h : Host). Contains (pair_with x.peer (program h ms).peers).entries e) host there)) own foreign)) opens

    ends_as : (e : Entry) → Among e (pair_with x.peer (program x.host ms).peers).entries → e.own ≡ x.socket → e.foreign ≡ x.foreign → end_of (key_of x) ms ≡ plain itself (standing e)
    ends_as e there own foreign = (entry_is hosts ms (below hosts y ms l) x.host x.peer ours x.socket x.foreign e there own foreign).0

    clear_before : ((end_of (key_of x) ms).gone ≡ false) × ((end_of (key_of x) ms).taken ≡ false)
    clear_before = (by_gone (end_of (key_of x) ms).gone refl, by_taken (end_of (key_of x) ms).taken refl) where
      by_gone : (v : Bool) → (end_of (key_of x) ms).gone ≡ v → (end_of (key_of x) ms).gone ≡ false
      by_gone false e = e
      by_gone true e = absurd (not_shut (λ d there own foreign. or_left (has_cls d.closing) d.partner_closed (sent_cls d.closing (ap (λ (z : End). z.gone) (sym (ends_as d there own foreign)) ∙ e))))

      by_taken : (v : Bool) → (end_of (key_of x) ms).taken ≡ v → (end_of (key_of x) ms).taken ≡ false
      by_taken false e = e
      by_taken true e = absurd (not_shut (λ d there own foreign. or_right (has_cls d.closing) d.partner_closed (ap (λ (z : End). z.taken) (sym (ends_as d there own foreign)) ∙ e)))

    -- nor has a user closed it
    unending : (e : Entry) → Among e (pair_with x.peer (program x.host ms).peers).entries → e.own ≡ x.socket
        → e.foreign ≡ x.foreign → is_ending e ≡ false
    unending e there own foreign = by (is_ending e) refl where
      by : (v : Bool) → is_ending e ≡ v → v ≡ false
      by false t = refl
      by true t =
          absurd (not_shut (λ d i at to. ap is_ending (one_end hosts ms
          (below hosts y ms l) x ours d e i there at to own foreign) ∙ t))

    unshut_before : IsFresh (key_of x) ms → Unshut x ms
    unshut_before fresh e there own foreign =
        unshut_end hosts ms old x ours e (unending e there own foreign) (by fresh) where
          old : Lawful hosts ms
          old = below hosts y ms l

          no_partner : (o : Option ℕ) → came_from itself o ≡ None → is_some o ≡ false
          no_partner None none = refl
          no_partner (Some n) none = none_some n (sym none)

          and_off : (v w : Bool) → w ≡ false → (v && w) ≡ false
          and_off true w t = t
          and_off false w t = refl

          by : IsFresh (key_of x) ms → is_due e.closing ≡ false
          by (inl s) =
              undue_heard hosts ms old x ours e there own (unending e there own foreign)
              (ap (λ (o : Option ℕ). is_some o && is_some e.partner) (sym (ap (λ (z : End). z.asked)
              (ends_as e there own foreign)) ∙ s.0)) s.1 s.2
          by (inr none) =
              let off : is_some e.partner ≡ false =
              no_partner e.partner (sym (ap (λ (z : End). z.partner) (ends_as e there own foreign)) ∙ none) in
              undue_asked hosts ms old x ours e there own (unending e there own foreign)
              (and_off (is_some e.asked) (is_some e.partner) off) off

  -- one whose user hasn't closed it says no CLS first
  pub not_gone : (ms : List Moment) → Lawful hosts ms → (x : Life) (f : Fate) → AreOurs hosts x.host x.peer
      → IsBeside x f (kept_in ms).book.lives (kept_in ms).fates → is_over f ≡ false → Unshut x ms
      → (end_of (key_of x) ms).gone ≡ true → ⊥
  not_gone ms l x f ours i goes unshut gone =
      clash_shut (is_shut h.end) (shut h.end.mine h.end.closing h.end.partner_closed mine (sym gone_is ∙ gone) taken)
      (unshut h.end there.0 own h.foreign) where
        h : HasOpenEnd (program x.host ms) x
        h =
            live hosts ms l.0 l.1 l.2 x ours.0 (contains x (kept_in ms).book.lives
            (beside_of (kept_in ms).book.lives (kept_in ms).fates x f i)) (beside_over (kept_in ms).book.lives
            (kept_in ms).fates x f (kept_fated ms) i ∙ goes)

        there : Among h.end (pair_with x.peer (program x.host ms).peers).entries × (is_mine_on x.socket h.end ≡ true)
        there = end_at x (program x.host ms) h

        mine : h.end.mine ≡ true
        mine = (both h.end.mine (h.end.own == x.socket) there.1).0

        own : h.end.own ≡ x.socket
        own = eqb-true h.end.own x.socket (both h.end.mine (h.end.own == x.socket) there.1).1

        is : law_end x.host x.peer x.socket x.foreign ms ≡ plain itself (standing h.end)
        is = (entry_is hosts ms l x.host x.peer ours x.socket x.foreign h.end there.0 own h.foreign).0

        gone_is : (end_of (key_of x) ms).gone ≡ is_sent h.end.closing
        gone_is = ap (λ (z : End). z.gone) is

        taken : h.end.partner_closed ≡ false
        taken =
            sym (ap (λ (z : End). z.taken) is) ∙ not_second_of (end_of (key_of x) ms).gone (end_of (key_of x) ms).taken
            (goes_now ms l x f ours i goes).live gone where
              not_second_of : (v w : Bool) → (v && w) ≡ false → v ≡ true → w ≡ false
              not_second_of true w e t = e
              not_second_of false w e t = never (sym t)

        clash_shut : (v : Bool) → v ≡ true → v ≡ false → ⊥
        clash_shut v e t = never (sym e ∙ t)

        shut : (m : Bool) (c : Closing) (p : Bool) → m ≡ true → is_sent c ≡ true → p ≡ false
            → (m && is_called_off c && not p) ≡ true
        shut m closing.Sent p e s t = ap (λ (v : Bool). v && true && not p) e ∙ ap not t
        shut m closing.No p e s t = never (sym s)
        shut m closing.Due p e s t = never (sym s)
        shut m closing.Queued p e s t = never (sym s)

  openings_named : (x : Life) (ns : List Notice) → TellsOpening x ns → TellsOpening (key_of x) ns
  openings_named x [] t = t
  openings_named x (n ∷ ns) (inl o) = inl (opening_named x (key_of x) (named_key x) n o)
  openings_named x (n ∷ ns) (inr t) = inr (openings_named x ns t)

  how_key : (y : Moment) (ms : List Moment) (x : Life) (f : Fate) → How (host_in y) x (notices_by y ms) f ⊎ ((f ≡ fate.Stopped) × IsDown y x) → Becomes (key_of x) y ms f
  how_key y ms x f (inl (inl goes)) = inl goes
  how_key y ms x f (inl (inr (inl b))) = inr (inl (b.0, b.1, (ends_named x (key_of x) (named_key x) (notices_by y ms)).0 b.2))
  how_key y ms x f (inl (inr (inr b))) = inr (inr (inl (b.0, b.1, resets_named (key_of x) x (key_back x) (notices_by y ms) b.2)))
  how_key y ms x f (inr down) = inr (inr (inr (down.0, down_key y down.1))) where
    down_key : (z : Moment) → IsDown z x → IsDown z (key_of x)
    down_key (Crossed (crossing.Down g)) d = d
    down_key z d = absurd d

  -- one that has just begun continues
  abbrev pub HasBegun : Moment → List Moment → Life → Fate → Type 0
  HasBegun y ms x f =
      (is_over f ≡ false) × (stage_of (key_of x) (y ∷ ms) ≡ Going (end_of (key_of x) (y ∷ ms)).gone
      (end_of (key_of x) (y ∷ ms)).taken) × ((course_in (key_of x) (y ∷ ms)).early ≡ false) × IsFresh (key_of x) ms

  pub begun_now : (y : Moment) (ms : List Moment) → Lawful hosts (y ∷ ms) → (x : Life) (f : Fate)
      → AreOurs hosts x.host x.peer
      → IsBeside x f (kept_in (y ∷ ms)).book.lives (kept_in (y ∷ ms)).fates
      → IsBegun (host_in y) (notices_by y ms) x f → HasBegun y ms x f
  begun_now y ms l x f ours i b =
      begins (key_of x) y ms f hosts (kind_here hosts x ours) l (clear_before y ms l x ours b.host b.opens)
      (goes_now (y ∷ ms) l x f ours i) b.host (openings_named x (notices_by y ms) b.opens) (how_key y ms x f (inl b.how))
      (kind_here hosts x ours y ms l)

  pub fits_now : (ms : List Moment) → Lawful hosts ms → (x : Life) (f : Fate) → AreOurs hosts x.host x.peer
      → IsBeside x f (kept_in ms).book.lives (kept_in ms).fates → IsFit (key_of x) ms f
  fits_now [] l x f ours i = absurd i
  fits_now (y ∷ ms) l x f ours i = by (came y ms x f i) (fits_now ms (below hosts y ms l)) where
    old : Lawful hosts ms
    old = below hosts y ms l

    ended_now : (ns : List Moment) (z : Life) (h : Fate) → IsBeside z h (kept_in ns).book.lives (kept_in ns).fates
        → z.ended ≡ is_over h
    ended_now ns z h there = beside_over (kept_in ns).book.lives (kept_in ns).fates z h (kept_fated ns) there

    continued : (w : Life) (g : Fate) → AreOurs hosts w.host w.peer
        → IsBeside w g (kept_in ms).book.lives (kept_in ms).fates → Moved y ms w g x f
        → IsFit (key_of w) ms g → IsFit (key_of w) (y ∷ ms) f
    continued w g of_w there m was = of (is_over g) refl where
      of : (v : Bool) → is_over g ≡ v → IsFit (key_of w) (y ∷ ms) f
      of true over =
          let s : (c : Cause) × (n : ℕ) × (stage_of (key_of w) ms ≡ Over c n) =
          over_stage (stage_of (key_of w) ms) g over was.both.0 in
          let same : f ≡ g = m.over over in
          record {
            both =
                fit_over (key_of w) (y ∷ ms) (Over s.0 s.1) f (over_stays (key_of w) y ms s.0 s.1 s.2)
                (ap is_over same ∙ over)
                (subst (λ (h : Fate). Leaves (unordered (Over s.0 s.1)) h) (sym same)
                (subst (λ (t : Stage). Leaves (unordered t) g) s.2 was.both.0));
            early = begun_stays (key_of w) y ms (ap is_asking s.2) was.early;
            unshut = λ o. never (sym over ∙ ap is_over (sym same ∙ o));
            first =
                λ n st ended. was.first n (s.2 ∙ sym (over_stays (key_of w) y ms s.0 s.1 s.2) ∙ st) (sym same ∙ ended);
          }
      of false goes = record {
        both =
            step (key_of w) y ms f hosts (kind_here hosts w of_w) l (goes_now ms old w g of_w there goes)
            (λ on. subst (λ (k : Life). IsGoing k (end_of k (y ∷ ms))) (key_named w x m.named)
            (goes_now (y ∷ ms) l x f ours i on)) (was.both.1 goes) (how_key y ms w f (m.how goes))
            (kind_here hosts w of_w y ms l);
        early = begun_stays (key_of w) y ms (ap is_asking (was.both.1 goes)) was.early;
        unshut =
            λ o. unshut_next hosts y ms l w of_w (ended_now ms w g there ∙ goes) (m.unclosed o) (was.unshut (m.opens o));
        first = λ n st ended. elim (m.ends ended) [
          | inl over ↦ never (sym (ap is_over over) ∙ goes)
          | inr t ↦ not_gone ms old w g of_w there goes (was.unshut t.0) (first_gone (key_of w) y ms f ended n
              (kind_here hosts w of_w y ms l) (goes_now ms old w g of_w there goes) (was.both.1 goes)
              (how_key y ms w f (m.how goes)) st)
        ];
      }

    by : Came y ms x f
        → ((w : Life) (g : Fate) → AreOurs hosts w.host w.peer → IsBeside w g (kept_in ms).book.lives (kept_in ms).fates
        → IsFit (key_of w) ms g) → IsFit (key_of x) (y ∷ ms) f
    by (inl o) before =
        subst (λ (k : Life). IsFit k (y ∷ ms) f) (sym (key_named o.0 x o.3.named))
        (let of_w : AreOurs hosts o.0.host o.0.peer = ours_of hosts o.0 x.host x.peer ours (sym o.3.named.host, sym o.3.named.peer) in continued o.0 o.1 of_w o.2 o.3 (before o.0 o.1 of_w o.2))
    by (inr b) before = record {
      both = fit_goes (key_of x) (y ∷ ms) f begun.0 begun.1;
      early = begun.2;
      unshut =
          λ o. unshut_next hosts y ms l x ours (ended_now (y ∷ ms) x f i ∙ begun.0) (no_close_opening y ms x b.opens) (unshut_before y ms l x ours b.host b.opens begun.3);
      first =
          λ n st ended. going_over (key_of x) y ms f ended n (end_of (key_of x) (y ∷ ms)).gone
          (end_of (key_of x) (y ∷ ms)).taken (sym begun.1 ∙ st);
    } where
      begun : HasBegun y ms x f
      begun = begun_now y ms l x f ours i b

-- ---- by crossings and contacts

-- each life begins as it should, and is left its fate
pub over_now : (hosts : Network) (ms : List Moment) → Lawful hosts ms
    → AreLeft (contacts_of ms) (crossings_of ms) (lives_among hosts.strange (kept_in ms).book.lives) (beside_among hosts.strange (kept_in ms).book.lives (kept_in ms).fates)
over_now hosts ms l x f b = record {
  begins = ap (λ (k : Course). k.early) same ∙ fit.early;
  fate =
      subst (λ (s : Stage). Leaves s f) (sym (ap (λ (k : Course). k.stage) same))
      (left_by (stage_of (key_of x) ms) f fit.both.0 (λ p is o. not_gone hosts ms l x f i.1 i.0 (ap is_over o) (fit.unshut o)
      (gone_of p is (fit.both.1 (ap is_over o)))) fit.first);
} where
  i : IsBeside x f (kept_in ms).book.lives (kept_in ms).fates × AreOurs hosts x.host x.peer
  i = in_beside hosts x f (kept_in ms).book.lives (kept_in ms).fates b

  fit : IsFit (key_of x) ms f
  fit = fits_now hosts ms l x f i.1 i.0

  same : course (contacts_of ms) x (crossings_of ms) ≡ course_in (key_of x) ms
  same = sym (course_key (contacts_of ms) x (crossings_of ms)) ∙ course_same (key_of x) ms

  gone_of : (p : Bool) → stage_of (key_of x) ms ≡ Going true p → stage_of (key_of x) ms ≡ Going
      (end_of (key_of x) ms).gone (end_of (key_of x) ms).taken → (end_of (key_of x) ms).gone ≡ true
  gone_of p is now =
      let both_are : Going true p ≡ Going (end_of (key_of x) ms).gone (end_of (key_of x) ms).taken = sym is
      ∙ now in let first : true ≡ (end_of (key_of x) ms).gone = cc in sym first

-- where all hosts run the program, so it is of all lives
pub all_over : (hosts : List Host) (ms : List Moment) → Lawful (all_ours hosts) ms
    → AreLeft (contacts_of ms) (crossings_of ms) (kept_in ms).book.lives (kept_in ms).fates
all_over hosts ms l =
    subst (λ (ls : List Life). AreLeft (contacts_of ms) (crossings_of ms) ls (kept_in ms).fates) (among_all (kept_in ms).book.lives)
    (subst (λ (fs : List Fate). AreLeft (contacts_of ms) (crossings_of ms) (lives_among (λ h. false) (kept_in ms).book.lives) fs)
    (beside_all (kept_in ms).book.lives (kept_in ms).fates) (over_now (all_ours hosts) ms l))

pub world_over : {C : Type 0} (seen : C → Seen) (hosts : List Host) (w : WorldState C) → IsLawful seen hosts w
    → AreLeft w.kept.book.contacts w.kept.book.crossings w.kept.book.lives w.kept.fates
world_over seen hosts w lawful =
    subst (λ (cs : List Called). AreLeft cs w.kept.book.crossings w.kept.book.lives w.kept.fates)
    (sym lawful.whole.contacts)
    (subst (λ (log : List Crossing). AreLeft (contacts_of lawful.whole.moments) log w.kept.book.lives w.kept.fates)
    (sym lawful.whole.crossings)
    (subst (λ (k : Kept). AreLeft (contacts_of lawful.whole.moments)
    (crossings_of lawful.whole.moments) k.book.lives k.fates) (sym lawful.whole.kept)
    (all_over hosts lawful.whole.moments (book_lawful seen hosts w lawful))))
