-- The same where all hosts run the program.
use Rattle.world_keeps_lives.proofs.Common.{◌≡◌, ◌∙◌, Bool, true, false, List, [], ◌∷◌, ◌++◌, length, refl, ap, sym, subst, Contains, Crossing, Told, Host, Kept, Life, AreHanded, receives, IsGranted, Moment, program, kept_in, HasOpenEnd, IsBounded, mixed_kept, beside_among, lives_among, among}
use Rattle.promise.specs.Notices.{FormedNotices}
use Rattle.net_sim.specs.Clean.{HaveAddresses, IsLawful}
use Rattle.net_sim.specs.Timeline.{crossings_of, IsTimeline}
use Rattle.net_sim.specs.World.{WorldState}
use Rattle.interface.specs.Calls.{Seen}
use Rattle.interface.specs.Mailboxes as mail
use Rattle.reset_law.specs.Network.{all_ours}
use Rattle.net_sim.proofs.lemmas.{kept_same}
use Rattle.net_sim.proofs.lemmas.AllOurs.{happened}
use Rattle.world_keeps_lives.specs.Drained.{AllDrained, AllSent, all_lives}
use Rattle.world_keeps_pairing.proofs.lemmas.{mail_below, book_lives, book_run}
use Rattle.world_keeps_lives.proofs.Drained as by_cls
use Rattle.world_keeps_lives.proofs.Firsts.Ends.{lives_in}
use Rattle.world_keeps_lives.proofs.Laws as laws
use Rattle.world_keeps_lives.proofs.Notices as notices
use Rattle.world_keeps_lives.proofs.Notices.{formed_notices}

module _ (hosts : List Host) (moments : List Moment) (addresses : HaveAddresses hosts)
    (run : mail.IsRun hosts (crossings_of moments)) (time : IsTimeline hosts moments) where
  there : (x : Life) → Contains (kept_in moments).book.lives x → Contains (mixed_kept (λ h. false) moments).book.lives x
  there x c = subst (λ (k : Kept). Contains k.book.lives x) (sym (kept_same moments)) c

  pub handed : AreHanded (kept_in moments).book.lives (kept_in moments).handed
  handed = subst (λ (k : Kept). AreHanded k.book.lives k.handed) (kept_same moments) (laws.handed (all_ours hosts) moments addresses run (happened hosts moments time))

  pub taken : (receiver : Life) → Contains (kept_in moments).book.lives receiver → receives receiver ≡ true
      → IsGranted receiver receiver.messages (length receiver.bits)
  taken x c r = laws.taken (all_ours hosts) moments addresses run (happened hosts moments time) x refl (there x c) r

  pub bounded : (receiver : Life) → Contains (kept_in moments).book.lives receiver → receives receiver ≡ true
      → IsBounded receiver
  bounded x c r = laws.bounded (all_ours hosts) moments addresses run (happened hosts moments time) x refl (there x c) r

  pub live : (x : Life) → Contains (kept_in moments).book.lives x → x.ended ≡ false
      → HasOpenEnd (program x.host moments) x
  live x c goes = laws.live (all_ours hosts) moments addresses run (happened hosts moments time) x refl (there x c) goes

-- ---- notices of data

pub told : (hosts : List Host) → HaveAddresses hosts → (moments : List Moment) → mail.IsRun hosts (crossings_of moments)
    → IsTimeline hosts moments → FormedNotices (crossings_of moments) (kept_in moments).book.notices
told hosts addresses moments run time =
    subst (λ (k : Kept). FormedNotices (crossings_of moments) k.book.notices) (kept_same moments)
    (formed_notices (crossings_of moments) (mixed_kept (λ h. false) moments).book.notices (notices.told (all_ours hosts) addresses moments run (happened hosts moments time)))

-- ---- what was handed over in a life that closed first

pub beside_all : {A : Type 0} (lives : List Life) (others : List A) → beside_among (λ h. false) lives others ≡ others
beside_all [] others = refl
beside_all (x ∷ lives) [] = refl
beside_all {A} (x ∷ lives) (a ∷ others) = ap (λ (rest : List A). a ∷ rest) (beside_all lives others)

-- ---- lives with their links

pub among_all : (lives : List Life) → lives_among (λ h. false) lives ≡ lives
among_all [] = refl
among_all (x ∷ lives) = ap (λ (xs : List Life). x ∷ xs) (among_all lives)

pub lives_all : (hosts : List Host) (moments : List Moment)
    → lives_in (all_ours hosts) moments ≡ (kept_in moments).book.lives
lives_all hosts moments = among_all _ ∙ ap (λ (k : Kept). k.book.lives) (kept_same moments)

pub handed_all : (hosts : List Host) (moments : List Moment)
    → by_cls.handed_in (all_ours hosts) moments ≡ (kept_in moments).handed
handed_all hosts moments =
    beside_all _ _ ∙ ap (λ (κ : Kept). κ.handed) (kept_same moments)

-- the lives of a book are given by what they are after each list of moments
sent_as : (f g : List Moment → List Life) → ((ms : List Moment) → f ms ≡ g ms)
    → (moments : List Moment) (lives : List Life) (handed : List (List Bool)) → AllSent f moments lives handed
    → AllSent g moments lives handed
sent_as f g same moments [] handed s = tt
sent_as f g same moments (x ∷ lives) [] s = s
sent_as f g same moments (x ∷ lives) (t ∷ handed) s = (
  (λ c. s.0 (record { later = c.later; earlier = c.earlier; is = c.is; sender = c.sender; there = subst (λ (xs : List Life). Contains xs c.sender) (sym (same c.earlier)) c.there; first = c.first; same = c.same })),
  sent_as f g same moments lives handed s.1,
)

pub drained : (hosts : List Host) (moments : List Moment) → HaveAddresses hosts
    → mail.IsRun hosts (crossings_of moments) → IsTimeline hosts moments
    → AllSent all_lives moments (kept_in moments).book.lives (kept_in moments).handed
drained hosts moments addresses run time =
    sent_as (among (all_ours hosts)) all_lives (lives_all hosts) moments _ _
    (subst (λ (xs : List Life). AllSent (among (all_ours hosts)) moments xs (kept_in moments).handed) (lives_all hosts moments)
    (subst (λ (ts : List (List Bool)). AllSent (among (all_ours hosts)) moments (lives_in (all_ours hosts) moments) ts) (handed_all hosts moments)
    (by_cls.drained (all_ours hosts) moments addresses run (happened hosts moments time))))

all_drained : (hosts : List Host) (later earlier : List Moment) → HaveAddresses hosts
    → mail.IsRun hosts (crossings_of (later ++ earlier)) → IsTimeline hosts (later ++ earlier)
    → AllSent all_lives earlier (kept_in earlier).book.lives (kept_in earlier).handed
all_drained hosts [] earlier addresses run time = drained hosts earlier addresses run time
all_drained hosts (y ∷ later) earlier addresses run time =
    all_drained hosts later earlier addresses (mail_below hosts y _ run) time.1

-- ---- worlds

module _ {C : Type 0} (seen : C → Seen) (hosts : List Host) (w : WorldState C) (lawful : IsLawful seen hosts w) where
  book_handed : w.kept.handed ≡ (kept_in lawful.whole.moments).handed
  book_handed = ap (λ (k : Kept). k.handed) lawful.whole.kept

  pub world_handed : AreHanded w.kept.book.lives w.kept.handed
  world_handed =
      subst (λ (lives : List Life). AreHanded lives w.kept.handed) (sym (book_lives seen hosts w lawful))
      (subst (λ (ts : List (List Bool)). AreHanded (kept_in lawful.whole.moments).book.lives ts) (sym book_handed) (handed hosts lawful.whole.moments lawful.addresses (book_run seen hosts w lawful) lawful.whole.timeline))

  pub world_taken : (receiver : Life) → Contains w.kept.book.lives receiver → receives receiver ≡ true
      → IsGranted receiver receiver.messages (length receiver.bits)
  world_taken x there r = taken hosts lawful.whole.moments lawful.addresses (book_run seen hosts w lawful) lawful.whole.timeline x (subst (λ (lives : List Life). Contains lives x) (book_lives seen hosts w lawful) there) r

  pub world_bounded : (receiver : Life) → Contains w.kept.book.lives receiver → receives receiver ≡ true
      → IsBounded receiver
  world_bounded x there r = bounded hosts lawful.whole.moments lawful.addresses (book_run seen hosts w lawful) lawful.whole.timeline x (subst (λ (lives : List Life). Contains lives x) (book_lives seen hosts w lawful) there) r

  pub world_live : (x : Life) → Contains w.kept.book.lives x → x.ended ≡ false
      → HasOpenEnd (program x.host lawful.whole.moments) x
  world_live x there goes = live hosts lawful.whole.moments lawful.addresses (book_run seen hosts w lawful) lawful.whole.timeline x (subst (λ (lives : List Life). Contains lives x) (book_lives seen hosts w lawful) there) goes

  pub world_told : FormedNotices w.kept.book.crossings w.kept.book.notices
  world_told =
      subst (λ (log : List Crossing). FormedNotices log w.kept.book.notices) (sym lawful.whole.crossings)
      (subst (λ (ts : List Told). FormedNotices (crossings_of lawful.whole.moments) ts) (sym (ap (λ (k : Kept). k.book.notices) lawful.whole.kept))
      (told hosts lawful.addresses lawful.whole.moments (book_run seen hosts w lawful) lawful.whole.timeline))

  pub world_drained : AllDrained lawful.whole.moments
  world_drained later earlier is =
      all_drained hosts later earlier lawful.addresses (subst (λ (ms : List Moment). mail.IsRun hosts (crossings_of ms)) is (book_run seen hosts w lawful))
      (subst (λ (ms : List Moment). IsTimeline hosts ms) is lawful.whole.timeline)
