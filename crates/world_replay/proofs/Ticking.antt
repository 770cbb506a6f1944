-- Events by which something crosses until two messages have.
use Rattle.world_replay.proofs.Common.{false≢true, WorldState, Event, Offer, Quiet, Take, in_turn_once, first}
use Rattle.std.proofs.Common.{◌≡◌, ◌⊎◌, ℕ, zero, suc, ◌<◌, List, [], ◌∷◌, ◌++◌, length, refl, ap, sym, subst, ◌∙◌, arith, inl, inr}
use Rattle.replay.specs.InTurn.{Happening, HappensOnce, InTurn, EndsInTurn}
use Rattle.world_replay.specs.Rounds.{Again, EndsAgain, EndsRepeated, Repeated, RoundOf, crosses, turns_in, EndsRound}
use Rattle.world_replay.specs.Worked.{tally, Fails, Ticks}
use Rattle.std.proofs.lemmas.List.{append_assoc}
use Rattle.world_replay.proofs.Turns.{again_once, repeated_once}

ticks_once : HappensOnce Ticks
ticks_once old e new other shown more h k = (h.0 ∙ sym k.0, h.1 ∙ sym k.1)

-- ---- an event again and again

pub until : Repeated Ticks Quiet 16 (tally 0) (tally 2) (Quiet ∷ Quiet ∷ Quiet ∷ [])
until = (tally 1, Quiet ∷ [], Quiet ∷ Quiet ∷ [], (refl, refl), (tally 2, Quiet ∷ [], Quiet ∷ [], (refl, refl), (tally 2, Quiet ∷ [], [], (refl, refl), (refl, refl), refl), refl), refl)

pub twice : Repeated Ticks Quiet 2 (tally 0) (tally 2) (Quiet ∷ Quiet ∷ [])
twice = (tally 1, Quiet ∷ [], Quiet ∷ [], (refl, refl), (tally 2, Quiet ∷ [], [], (refl, refl), (refl, refl), refl), refl)

-- it shows these lines and no others
pub only_until : (new : WorldState ℕ) (shown : List Event) → Repeated Ticks Quiet 16 (tally 0) new shown → length shown ≡ 3
only_until new shown h = ap length (repeated_once Ticks ticks_once Quiet 16 (tally 0) new (tally 2) shown (Quiet ∷ Quiet ∷ Quiet ∷ []) h until).1

pub only_twice : (new : WorldState ℕ) (shown : List Event) → Repeated Ticks Quiet 2 (tally 0) new shown → length shown ≡ 2
only_twice new shown h = ap length (repeated_once Ticks ticks_once Quiet 2 (tally 0) new (tally 2) shown (Quiet ∷ Quiet ∷ []) h twice).1

-- ---- a round

taking : Repeated Ticks (Take first) 16 (tally 1) (tally 2) (Take first ∷ Take first ∷ [])
taking = (tally 2, Take first ∷ [], Take first ∷ [], (refl, refl), (tally 2, Take first ∷ [], [], (refl, refl), (refl, refl), refl), refl)

offering : Repeated Ticks (Offer first) 32 (tally 2) (tally 2) (Offer first ∷ [])
offering = (tally 2, Offer first ∷ [], [], (refl, refl), (refl, refl), refl)

quiet : Repeated Ticks Quiet 1 (tally 0) (tally 1) (Quiet ∷ [])
quiet = (tally 1, Quiet ∷ [], [], (refl, refl), (refl, refl), refl)

pub round : RoundOf Ticks (tally 0) (tally 2) (Quiet ∷ Take first ∷ Take first ∷ Offer first ∷ [])
round = (tally 1, Quiet ∷ [], Take first ∷ Take first ∷ Offer first ∷ [], quiet, (tally 2, Take first ∷ Take first ∷ [], Offer first ∷ [], taking, (tally 2, Offer first ∷ [], [], offering, (refl, refl), refl), refl), refl)

pub only_round : (new : WorldState ℕ) (shown : List Event) → RoundOf Ticks (tally 0) new shown → shown ≡ Quiet ∷ Take first ∷ Take first ∷ Offer first ∷ []
only_round new shown h = (in_turn_once (Again Ticks) (again_once Ticks ticks_once) (tally 0) (turns_in (tally 0).seats) new (tally 2) shown (Quiet ∷ Take first ∷ Take first ∷ Offer first ∷ []) h round).1

-- ---- endings

pub in_a_taking : EndsRound Ticks Fails (tally 0) (tally 2) (Quiet ∷ Take first ∷ [])
in_a_taking = record {
  done = (Quiet, 1) ∷ [];
  last = (Take first, 16);
  left = (Offer first, 32) ∷ [];
  parts = refl;
  mid = tally 1;
  front = Quiet ∷ [];
  before = (tally 1, Quiet ∷ [], [], quiet, (refl, refl), refl);
  own = Take first ∷ [];
  goes = inr (tally 2, Take first ∷ [], [], (refl, refl), refl, inl (refl, refl), refl);
  lines = refl;
}

pub in_an_offer : EndsRound Ticks Fails (tally 0) (tally 2) (Quiet ∷ Take first ∷ Take first ∷ [])
in_an_offer = record {
  done = (Quiet, 1) ∷ (Take first, 16) ∷ [];
  last = (Offer first, 32);
  left = [];
  parts = refl;
  mid = tally 2;
  front = Quiet ∷ Take first ∷ Take first ∷ [];
  before = (tally 1, Quiet ∷ [], Take first ∷ Take first ∷ [], quiet, (tally 2, Take first ∷ Take first ∷ [], [], taking, (refl, refl), refl), refl);
  own = [];
  goes = inl (refl, refl);
  lines = refl;
}

pub second : EndsRepeated Ticks Fails Quiet 16 (tally 0) (tally 1) (Quiet ∷ [])
second = inr (tally 1, Quiet ∷ [], [], (refl, refl), refl, inl (refl, refl), refl)

-- an event that happens once at most fails at once
pub too_many : (new : WorldState ℕ) (shown : List Event) → EndsRepeated Ticks Fails Quiet 1 (tally 0) new shown → shown ≡ []
too_many new shown (inl fails) = fails.1
too_many new shown (inr (mid, begin, rest, h, is, more, all)) = absurd more

-- after an event by which nothing crossed it isn't repeated
pub fails_at_once : (e : Event) (times : ℕ) (new : WorldState ℕ) (shown : List Event) → EndsRepeated Ticks Fails e times (tally 2) new shown → shown ≡ []
fails_at_once e zero new shown h = absurd h
fails_at_once e (suc times) new shown (inl fails) = fails.1
fails_at_once e (suc times) new shown (inr (mid, begin, rest, h, is, more, all)) = absurd (false≢true (ap (λ (w : WorldState ℕ). crosses (tally 2) w) (sym h.0) ∙ is))

-- and what happens once where nothing crosses shows itself
shows_itself : (e : Event) (times : ℕ) (new : WorldState ℕ) (shown : List Event) → Repeated Ticks e (suc times) (tally 2) new shown → (new ≡ tally 2) × (shown ≡ e ∷ [])
shows_itself e times new shown h = repeated_once Ticks ticks_once e (suc times) (tally 2) new (tally 2) shown (e ∷ []) h (tally 2, e ∷ [], [], (refl, refl), (refl, refl), refl)

-- events that end in one of them end in the first, or after it
ends_cons : {S E L : Type 0} (Happens Goes : Happening S E L) (old : S) (e : E) (events : List E) (new : S) (shown : List L) → EndsInTurn Happens Goes old (e ∷ events) new shown
    → Goes old e new shown ⊎ ((mid : S) × (begin : List L) × (rest : List L) × Happens old e mid begin × EndsInTurn Happens Goes mid events new rest × (shown ≡ begin ++ rest))
ends_cons {S} {E} {L} Happens Goes old e events new shown h = by h.done h.parts h.before where
  by : (done : List E) → e ∷ events ≡ done ++ h.last ∷ h.left → InTurn Happens old done h.mid h.front
      → Goes old e new shown ⊎ ((mid : S) × (begin : List L) × (rest : List L) × Happens old e mid begin × EndsInTurn Happens Goes mid events new rest × (shown ≡ begin ++ rest))
  by [] parts before =
      let is : h.last ≡ e = cc in
      let own : h.own ≡ shown = sym (h.lines ∙ ap (λ ls. ls ++ h.own) before.1) in
      inl (subst (λ ls. Goes old e new ls) own (subst (λ (s : S). Goes s e new h.own) before.0 (subst (λ (x : E). Goes h.mid x new h.own) is h.goes)))
  by (d ∷ done) parts (mid, begin, rest, one, more, all) =
      let is : d ≡ e = cc in
      let tail : events ≡ done ++ h.last ∷ h.left = cc in
      inr (
        mid,
        begin,
        rest ++ h.own,
        subst (λ (x : E). Happens old x mid begin) is one,
        record { done = done; last = h.last; left = h.left; parts = tail; mid = h.mid; front = rest; before = more; own = h.own; goes = h.goes; lines = refl },
        h.lines ∙ ap (λ ls. ls ++ h.own) all ∙ append_assoc begin rest h.own,
      )

-- so where nothing crosses, turns show themselves one by one until one fails
abbrev Ends : List (Event × ℕ) → List Event → Type 0
Ends turns shown = (new : WorldState ℕ) × EndsInTurn (Again Ticks) (EndsAgain Ticks Fails) (tally 2) turns new shown

pub one_by_one : (e : Event) (times : ℕ) (turns : List (Event × ℕ)) (shown : List Event) → Ends ((e, suc times) ∷ turns) shown → (shown ≡ []) ⊎ ((rest : List Event) × (shown ≡ e ∷ rest) × Ends turns rest)
one_by_one e times turns shown (new, h) = elim (ends_cons (Again Ticks) (EndsAgain Ticks Fails) (tally 2) (e, suc times) turns new shown h) [
  | inl fails ↦ inl (fails_at_once e (suc times) new shown fails)
  | inr later ↦ inr (by later.0 later.1 later.2 later.3 later.4 later.5)
] where
  by : (mid : WorldState ℕ) (begin rest : List Event) → Repeated Ticks e (suc times) (tally 2) mid begin → EndsInTurn (Again Ticks) (EndsAgain Ticks Fails) mid turns new rest → shown ≡ begin ++ rest
      → (rest : List Event) × (shown ≡ e ∷ rest) × Ends turns rest
  by mid begin rest one more all =
      let (still, own) = shows_itself e times mid begin one in
      (rest, all ∙ ap (λ ls. ls ++ rest) own, (new, subst (λ (w : WorldState ℕ). EndsInTurn (Again Ticks) (EndsAgain Ticks Fails) w turns new rest) still more))

abbrev after_quiet : List (Event × ℕ)
after_quiet = (Take first, 16) ∷ (Offer first, 32) ∷ []

pub skipped : (new : WorldState ℕ) → EndsRound Ticks Fails (tally 2) new (Take first ∷ []) → ⊥
skipped new h = elim (one_by_one Quiet 0 after_quiet (Take first ∷ []) (new, h)) [ inl none ↦ absurd (cc) | inr later ↦ absurd (let is = later.1 in cc) ]

none_ends : (shown : List Event) → Ends [] shown → ⊥
none_ends shown (new, h) = by h.done h.parts where
  by : (done : List (Event × ℕ)) → [] ≡ done ++ h.last ∷ h.left → ⊥
  by [] parts = absurd (cc)
  by (d ∷ done) parts = absurd (cc)

-- fewer lines are shown than there are turns
fewer_one : (e : Event) (times : ℕ) (turns : List (Event × ℕ)) → ((shown : List Event) → Ends turns shown → length shown < length turns) → (shown : List Event) → Ends ((e, suc times) ∷ turns) shown → length shown < suc (length turns)
fewer_one e times turns k shown h = elim (one_by_one e times turns shown h) [
  | inl none ↦ let same : length shown ≡ 0 = ap length none in omega (arith, same)
  | inr later ↦ let less = k later.0 later.2 in let same : length shown ≡ suc (length later.0) = ap length later.1 in omega (arith, less, same)
]

pub not_whole : (new : WorldState ℕ) (shown : List Event) → EndsRound Ticks Fails (tally 2) new shown → length shown < 3
not_whole new shown h = fewer_one Quiet 0 after_quiet (fewer_one (Take first) 15 ((Offer first, 32) ∷ []) (fewer_one (Offer first) 31 [] (λ none k. absurd (none_ends none k)))) shown (new, h)
