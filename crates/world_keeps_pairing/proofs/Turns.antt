-- One moment more: a host's program has, at two sockets, the end that the steps say.
use Rattle.world_keeps_pairing.proofs.Common.{◌≡◌, ℕ, ◌==◌, Bool, true, false, not, ◌&&◌, if◌then◌else◌, List, [], ◌∷◌, refl, ap, sym, subst, ◌∙◌, Host, same_host, Order, orders_of, PairState, pair_with, marks_in, eqb-sym, End, nothing, Mark, tagged, with_place, Side, Sockets, Who, Receiver, Sender, Event, Message, Out, place, Pair, pair, Agrees, message_on, Moment, IsStory, events_of, program, story_agrees, keeps, law_events, AreOurs, Network}
use Rattle.host_keeps_pairing.specs.Ends.{HasEnd, kept_in}
use Rattle.ncp_control.specs.Phases as program_phases
use Rattle.pairing_law.proofs.lemmas.{pair_same}
use Rattle.reset_law.specs.Stays as stay
use Rattle.world_keeps_pairing.proofs.Sides.{all_says, at_texts, before, hears_if, left_if, met_if, met_end}
use Rattle.world_keeps_pairing.proofs.Marks.{IsPair, foreign_of, own_of, text_at}
use Rattle.world_keeps_pairing.proofs.Programs.{AnRrp, AnRst, AText, Sort, read_marks, sort_of}

abbrev pub other : Who → Who
other Receiver = Sender
other Sender = Receiver

pub ready_is : (hosts : Network) (h p : Host) (moments : List Moment) → AreOurs hosts h p → IsStory hosts moments → stay.ready h p (law_events moments) ≡ program_phases.is_ready (pair_with p (program h moments).peers).phase
ready_is hosts h p moments ours story =
    let a : Agrees (pair_with p (program h moments).peers) (pair h p (events_of moments)) = story_agrees hosts moments h p ours story in
    ap (λ (q : Pair). program_phases.is_ready q.phase) (pair_same h p (events_of moments)) ∙ ap program_phases.is_ready a.phase

-- ---- what a text says

and_three : (a b z : Bool) (T : List (List Bool)) → (if a && b && z then T else []) ≡ (if a then (if b then (if z then T else []) else []) else [])
and_three true true z T = refl
and_three true false z T = refl
and_three false b z T = refl

abbrev pub when_all : Bool → Bool → List Mark → List Mark
when_all a b ms = if a then (if b then ms else []) else []

module _ (s : Sockets) (pair : IsPair s) (who : Who) where
  texts_if : (a b z : Bool) (place : ℕ) (text : List Bool) → at_texts s who (if a then (if b then (if z then tagged place text ∷ [] else []) else []) else [])
      ≡ when_all a b (if z then marks_in place (own_of who s) (foreign_of who s) (orders_of text) else [])
  texts_if true true true place text = text_at s pair who place text
  texts_if true true false place text = refl
  texts_if true false z place text = refl
  texts_if false b z place text = refl

  none_if : (a b : Bool) → [] ≡ when_all a b []
  none_if true true = refl
  none_if true false = refl
  none_if false b = refl

  signal_marks : (own foreign place link : ℕ) (text : List Bool) (orders : List Order) → orders_of text ≡ orders → marks_in place own foreign orders ≡ [] → (z : Bool) → (if z then marks_in place own foreign (orders_of text) else []) ≡ []
  signal_marks own foreign place link text orders e f true = ap (marks_in place own foreign) e ∙ f
  signal_marks own foreign place link text orders e f false = refl

  said_by_sort : (h p x y : Host) (link place : ℕ) (text : List Bool) → Sort link text → at_texts s who (stay.said_by h p 0 (Out x y link (with_place place (message_on link text))))
      ≡ when_all (same_host h x) (same_host p y) (read_marks place (own_of who s) (foreign_of who s) link text)
  said_by_sort h p x y link place text (AnRst z orders is) =
      ap (λ (m : Message). at_texts s who (stay.said_by h p 0 (Out x y link (with_place place m)))) is ∙ none_if _ _
      ∙ ap (when_all (same_host h x) (same_host p y)) (sym (signal_marks _ _ place link text _ orders refl _))
  said_by_sort h p x y link place text (AnRrp z orders is) =
      ap (λ (m : Message). at_texts s who (stay.said_by h p 0 (Out x y link (with_place place m)))) is ∙ none_if _ _
      ∙ ap (when_all (same_host h x) (same_host p y)) (sym (signal_marks _ _ place link text _ orders refl _))
  said_by_sort h p x y link place text (AText is) =
      ap (λ (m : Message). at_texts s who (stay.said_by h p 0 (Out x y link (with_place place m)))) is
      ∙ ap (at_texts s who) (and_three _ _ (0 == link) _)
      ∙ texts_if _ _ (0 == link) place text
      ∙ ap (λ (z : Bool). when_all (same_host h x) (same_host p y) (if z then marks_in place (own_of who s) (foreign_of who s) (orders_of text) else [])) (eqb-sym 0 link)

  -- what a host says by a message that goes out
  pub said_is : (h p x y : Host) (link place : ℕ) (text : List Bool) → at_texts s who (stay.said_by h p 0 (Out x y link (with_place place (message_on link text))))
      ≡ when_all (same_host h x) (same_host p y) (read_marks place (own_of who s) (foreign_of who s) link text)
  said_is h p x y link place text = said_by_sort h p x y link place text (sort_of link text)

-- what is heard in a text of the peer
pub heard_is : (s : Sockets) → IsPair s → (who : Who) (place : ℕ) (text : List Bool) → at_texts s (other who) (tagged place text ∷ []) ≡ marks_in place (foreign_of who s) (own_of who s) (orders_of text)
heard_is s pair Receiver place text = text_at s pair Sender place text
heard_is s pair Sender place text = text_at s pair Receiver place text

-- ---- one event

pub hears_none : (b : Bool) (x : Side) → (hears_if b [] x).end ≡ x.end
hears_none true x = refl
hears_none false x = refl

module _ (origin : ℕ → ℕ) (own foreign : ℕ) where
  left_end : (keep : Bool) (q : PairState) (x : Side) → keep ≡ program_phases.is_ready q.phase → HasEnd origin own foreign q (kept_in q x.end) → HasEnd origin own foreign q (left_if keep x).end
  left_end keep q x e h = by keep (subst (λ (b : Bool). HasEnd origin own foreign q (if b then x.end else nothing)) (sym e) h) where
    by : (b : Bool) → HasEnd origin own foreign q (if b then x.end else nothing) → HasEnd origin own foreign q (left_if b x).end
    by true k = k
    by false k = k

  and_kept : (a b : Bool) → b ≡ false → (a && not b) ≡ a
  and_kept true b e = ap not e
  and_kept false b e = refl

  module _ (h p : Host) (spoken heard : List (List Bool) → List Mark) (e : Event) (older : List Event) (x : Side) (q : PairState) where
    abbrev turned : Side
    turned = hears_if (stay.stays h p older) (heard (stay.heard_by p h 0 e)) (all_says (spoken (stay.said_by h p 0 e)) x)

    pub tie_by : (z : End) → stay.ready h p (e ∷ older) ≡ program_phases.is_ready q.phase → stay.takes_reset h p e ≡ false → HasEnd origin own foreign q (kept_in q z) → z ≡ turned.end
        → HasEnd origin own foreign q (met_if (stay.begins h p e older) (before h p spoken heard e older x)).end
    tie_by z ready none k is =
        let keep : keeps h p e older ≡ program_phases.is_ready q.phase = and_kept _ _ none ∙ ready in
        subst (λ (y : End). HasEnd origin own foreign q y) (sym (met_end _ _))
        (left_end _ q turned keep (subst (λ (y : End). HasEnd origin own foreign q (kept_in q y)) is k))

    -- an event that says nothing of these two
    abbrev pub IsQuiet : Type 0
    IsQuiet = (stay.said_by h p 0 e ≡ []) × (stay.heard_by p h 0 e ≡ []) × (stay.takes_reset h p e ≡ false)

    pub tie_quiet : spoken [] ≡ [] → heard [] ≡ [] → stay.ready h p (e ∷ older) ≡ program_phases.is_ready q.phase → IsQuiet → HasEnd origin own foreign q (kept_in q x.end)
        → HasEnd origin own foreign q (met_if (stay.begins h p e older) (before h p spoken heard e older x)).end
    tie_quiet mute deaf ready quiet k =
        let said : spoken _ ≡ [] = ap spoken quiet.0 ∙ mute in
        let taken : heard (stay.heard_by p h 0 e) ≡ [] = ap heard quiet.1 ∙ deaf in
        tie_by x.end ready quiet.2 k
        (sym (ap (λ (ms : List Mark). (hears_if (stay.stays h p older) ms (all_says (spoken (stay.said_by h p 0 e)) x)).end) taken
        ∙ hears_none _ _
        ∙ ap (λ (ms : List Mark). (all_says ms x).end) said))

    -- an RST of the peer is taken
    pub tie_reset : stay.takes_reset h p e ≡ true → HasEnd origin own foreign q nothing → HasEnd origin own foreign q (met_if (stay.begins h p e older) (before h p spoken heard e older x)).end
    tie_reset takes k =
        subst (λ (y : End). HasEnd origin own foreign q y) (sym (met_end _ _))
        (by (stay.ready h p (e ∷ older)) (stay.takes_reset h p e) takes) where
          by : (a b : Bool) → b ≡ true → HasEnd origin own foreign q (left_if (a && not b) turned).end
          by true true f = k
          by true false f = absurd (let no : false ≡ true = f in cc)
          by false b f = k
