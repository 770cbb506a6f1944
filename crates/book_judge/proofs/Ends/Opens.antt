-- Changes without CLS are those of deeds without CLS, and what is said of a life is what both say.
use Rattle.book_judge.proofs.Common.{option_map, ◌≡◌, ℕ, Bool, true, false, List, [], ◌∷◌, Option, Some, None, refl, ap, subst, sym, ◌∙◌, if◌then◌else◌, Host, Fate, Life, Act, Deed, Ahead, Change, Pace, end_after, begun_of, after, opening, pace_of, filter, Courses, Known, Said}
use Rattle.book_judge.specs.Inside.Begins.{IsAhead, place_at, AreCourses, IsKnown, pace_at}
use Rattle.book_judge.specs.Inside.Changes.{changes_in, owes_after, owes_never, opens, turn_of, with_turn}
use Rattle.book_judge.specs.declared.fates.deeds.Act.TheVariants as act
use Rattle.book_judge.specs.declared.fates.changes.Turn.TheVariants as turn
use Rattle.book_judge.specs.Inside.Contacts.{but_closes, is_open, said_after, said_begun}
use Rattle.book_judge.proofs.Ends.Owed.{same_if}

module _ (d : Deed) (rest : List Change) where
  -- an RRP, or a message that fails
  opens_unowed : (w : Bool) → filter opens (with_turn d (if w then None else Some turn.Drops) rest)
      ≡ with_turn d (if w then None else Some turn.Drops) (filter opens rest)
  opens_unowed true = refl
  opens_unowed false = refl

  opens_turn : (a : Act) (w : Bool) → is_open a ≡ true
      → filter opens (with_turn d (turn_of a w) rest) ≡ with_turn d (turn_of a w) (filter opens rest)
  opens_turn (act.Asks comes own foreign) w e = refl
  opens_turn (act.Closes comes own foreign) w e = absurd (cc)
  opens_turn (act.Resets comes) w e = refl
  opens_turn act.Replies w e = opens_unowed w
  opens_turn act.Fails w e = opens_unowed w
  opens_turn act.Stops w e = refl
  opens_turn act.Starts w e = refl

-- a CLS is dropped, and changes nothing that is owed
closes_turn : (d : Deed) (rest : List Change) (a : Act) (w : Bool) → is_open a ≡ false
    → filter opens (with_turn d (turn_of a w) rest) ≡ filter opens rest
closes_turn d rest (act.Closes comes own foreign) w e = refl
closes_turn d rest (act.Asks comes own foreign) w e = absurd (cc)
closes_turn d rest (act.Resets comes) w e = absurd (cc)
closes_turn d rest act.Replies w e = absurd (cc)
closes_turn d rest act.Fails w e = absurd (cc)
closes_turn d rest act.Stops w e = absurd (cc)
closes_turn d rest act.Starts w e = absurd (cc)

closes_owe : (d : Deed) (owes : Host → Host → Bool) (a : Act) → d.act ≡ a → is_open a ≡ false
    → owes_after d owes ≡ owes
closes_owe d owes (act.Closes comes own foreign) is e = λ i h peer. by h peer i where
  by : (h peer : Host) → owes_after d owes h peer ≡ owes h peer
  by h peer =
      ap (λ (b : Act). owes_after (record d { act = b }) owes h peer) is ∙ sym (same_if _ (owes h peer))
closes_owe d owes (act.Asks comes own foreign) is e = absurd (cc)
closes_owe d owes (act.Resets comes) is e = absurd (cc)
closes_owe d owes act.Replies is e = absurd (cc)
closes_owe d owes act.Fails is e = absurd (cc)
closes_owe d owes act.Stops is e = absurd (cc)
closes_owe d owes act.Starts is e = absurd (cc)

changes_open : (deeds : List Deed) (owes : Host → Host → Bool)
    → filter opens (changes_in owes deeds) ≡ changes_in owes (but_closes deeds)
changes_open [] owes = refl
changes_open (d ∷ deeds) owes = by (is_open d.act) refl (changes_open deeds (owes_after d owes)) where
  rest : List Change
  rest = changes_in (owes_after d owes) deeds

  by : (b : Bool) → is_open d.act ≡ b
      → filter opens rest ≡ changes_in (owes_after d owes) (but_closes deeds)
      → filter opens (with_turn d (turn_of d.act (owes d.host d.peer)) rest)
      ≡ changes_in owes (if b then d ∷ but_closes deeds else but_closes deeds)
  by true e same =
      opens_turn d rest d.act (owes d.host d.peer) e ∙ ap (with_turn d (turn_of d.act (owes d.host d.peer))) same
  by false e same =
      closes_turn d rest d.act (owes d.host d.peer) e ∙ same
      ∙ ap (λ (ws : Host → Host → Bool). changes_in ws (but_closes deeds)) (closes_owe d owes d.act refl e)

pub cuts_known : (deeds : List Deed) (all known rest changes : List Change) (a : Ahead)
    → all ≡ changes_in owes_never deeds → known ≡ all → rest ≡ filter opens known → changes ≡ rest
    → IsAhead changes a → (rest ≡ changes_in owes_never (but_closes deeds)) × IsAhead rest a
cuts_known deeds all known rest changes a is same e read h = (
  e ∙ ap (filter opens) (same ∙ is) ∙ changes_open deeds owes_never,
  subst (λ (cs : List Change). IsAhead cs a) read h,
)

pub said_known : (x : Life) (deeds : List Deed) (cs : Courses) → AreCourses deeds cs → (all cut : ℕ) (o : Option Fate)
    (said : Option Said) (known : Option Known) (changes : List Change) → changes ≡ cs.changes.items
    → said ≡ said_begun all cut (option_map (pace_at (place_at changes)) known) o → IsKnown deeds x known
    → cut ≡ end_after all (but_closes deeds) x → said ≡ said_after all deeds x o
said_known x deeds cs are all cut o said known changes same e is cuts =
    e
    ∙ ap (λ (ds : List Change). said_begun all cut (option_map (pace_at (place_at ds)) known) o) (same ∙ are.0)
    ∙ ap (λ (p : Option Pace). said_begun all cut p o) is
    ∙ ap (λ (n : ℕ). said_begun all n (begun_of (pace_of (after x deeds opening))) o) cuts
