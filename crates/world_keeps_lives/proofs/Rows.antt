-- Ends, lives and programs, computed.
use Rattle.world_keeps_lives.proofs.Common.{◌≡◌, ℕ, true, false, List, [], ◌∷◌, find, Option, Some, None, refl, ap, ◌∙◌, arith, Host, same_host, asked_at, Entry, Peer, first, second, EachOn, HasOpenEnd, IsBounded, IsFreeSocket, IsFresh, IsLifeOf, IsOwned, IsSafe, IsSteady, NoneOf, mine_on}
use Rattle.host_pairs.specs.Asked.{with_more_bits}
use Rattle.host_pairs.specs.Commands.{asked_on_link}
use Rattle.host_pairs.specs.Entries.{receiving_end, sending_end}
use Rattle.sockets.specs.Pairs.{opening_state, pair_with, pair_in}
use Rattle.net_sim.specs.Book.{carried, life_ended, new_life, granted, returned, opening_kept}
use Rattle.host_pairs.specs.Commands as commands
use Rattle.world_keeps_lives.specs.Worked.{worked_end, with_one}

pub row_early : IsFresh (with_more_bits (true ∷ []) (sending_end 33 16 8)) → ⊥
row_early h = absurd (let r : true ∷ [] ≡ [] = (h refl).0 in cc)

pub row_granted : IsFresh (commands.granted 1 5 (receiving_end 16 33 5)) → ⊥
row_granted h = absurd (let r : 1 ≡ 0 = ap (λ a. a.messages) (h refl).1 in omega (arith, r))

pub row_sent : IsSafe (carried (true ∷ []) (new_life first 33 second 16 6 10)) (true ∷ false ∷ [])
row_sent = record { front = λ s. (false ∷ [], refl); within = λ r. absurd (let q : false ≡ true = r in cc); bounded = λ r. absurd (let q : false ≡ true = r in cc) }

pub row_more : IsSafe (carried (true ∷ []) (new_life first 33 second 16 6 10)) [] → ⊥
row_more h = absurd (let r : true ∷ (h.front refl).0 ≡ [] = (h.front refl).1 in cc)

pub row_others : IsSafe (carried (true ∷ []) (new_life first 33 second 16 6 10)) (false ∷ true ∷ []) → ⊥
row_others h = absurd (let r : true ∷ (h.front refl).0 ≡ false ∷ true ∷ [] = (h.front refl).1 in cc)

pub row_taken : IsSafe (carried (true ∷ []) (granted 1 5 (new_life first 16 second 33 6 10))) []
row_taken = record { front = λ s. absurd (let q : false ≡ true = s in cc); within = λ r. record { messages = omega arith; bits = omega arith }; bounded = λ r. record { messages = omega arith; bits = omega arith } }

pub row_ungranted : IsSafe (carried (true ∷ []) (granted 0 5 (new_life first 16 second 33 6 10))) [] → ⊥
row_ungranted h = absurd (omega (arith, (h.within refl).messages))

pub row_longer : IsSafe (carried (true ∷ []) (granted 1 0 (new_life first 16 second 33 6 10))) [] → ⊥
row_longer h = absurd (omega (arith, (h.within refl).bits))

pub row_returned : IsSafe (carried (true ∷ []) (returned 1 0 (granted 1 5 (new_life first 16 second 33 6 10)))) [] → ⊥
row_returned h = absurd (omega (arith, (h.within refl).messages))

pub row_gone : EachOn first 16 NoneOf (life_ended (new_life first 16 second 33 6 10) ∷ []) ([] ∷ [])
row_gone = (
  (λ there. (record { front = λ s. absurd (let q : false ≡ true = s in cc); within = λ r. record { messages = omega arith; bits = omega arith }; bounded = λ r. record { messages = omega arith; bits = omega arith } }, λ goes. absurd (let q : true ≡ false = goes in cc))),
  tt,
)

pub row_goes : EachOn first 16 NoneOf (new_life first 16 second 33 6 10 ∷ []) ([] ∷ []) → ⊥
row_goes h = (h.0 refl).1 refl

pub row_life : IsLifeOf second worked_end (new_life first 16 second 33 6 10) []
row_life = record {
  peers = refl;
  foreign = refl;
  own = refl;
  partner = refl;
  waits = λ o s. refl;
  drained = λ q r s c f. refl;
  left = λ r. record { messages = refl; bits = refl };
}

number_of : Option ℕ → ℕ
number_of None = 0
number_of (Some n) = n

pub row_stamp : IsLifeOf second worked_end (new_life first 16 second 33 7 10) [] → ⊥
unfolding number_of
row_stamp h = absurd (let r : 6 ≡ 7 = ap number_of h.own in omega (arith, r))

pub row_waits : IsLifeOf second (with_more_bits (true ∷ []) (asked_on_link 10 5 (asked_at 6 (sending_end 33 16 8)))) (new_life first 33 second 16 6 10) [] → ⊥
row_waits h = absurd (let r : [] ≡ true ∷ [] = h.waits refl refl in cc)

pub row_left : IsLifeOf second (commands.granted 1 5 worked_end) (new_life first 16 second 33 6 10) [] → ⊥
row_left h = absurd (omega (arith, (h.left refl).messages))

pub row_lost : IsLifeOf second worked_end (granted 1 5 (new_life first 16 second 33 6 10)) [] → ⊥
row_lost h = absurd (omega (arith, (h.left refl).messages))

pub row_outstanding : IsBounded (granted 65535 4294967295 (new_life first 16 second 33 6 10))
row_outstanding = record { messages = omega arith; bits = omega arith }

pub row_renewed : IsBounded (granted 3 1 (returned 2 0 (carried (true ∷ []) (granted 65535 4294967295 (new_life first 16 second 33 6 10)))))
row_renewed = record { messages = omega arith; bits = omega arith }

pub row_many : IsBounded (granted 65536 0 (new_life first 16 second 33 6 10)) → ⊥
row_many h = absurd (omega (arith, h.messages))

pub row_long : IsBounded (granted 0 4294967296 (new_life first 16 second 33 6 10)) → ⊥
row_long h = absurd (omega (arith, h.bits))

first_or : Entry → List Entry → Entry
first_or d [] = d
first_or d (e ∷ es) = e

pub row_open : HasOpenEnd with_one (new_life first 16 second 33 6 10)
row_open = record { end = worked_end; one = refl; others = λ other off. rw off refl; foreign = refl; own = refl; partner = refl }

pub row_other : HasOpenEnd with_one (new_life first 16 second 33 7 10) → ⊥
unfolding first_or number_of
row_other h = absurd (
    let same : worked_end ≡ h.end = ap (first_or worked_end) h.one in
    let r : 6 ≡ 7 = ap (λ (e : Entry). number_of e.asked) same ∙ ap number_of h.own in
    omega (arith, r)
    )

pub row_turned : HasOpenEnd with_one (new_life first 33 second 16 6 10) → ⊥
row_turned h = absurd (let r : [] ≡ h.end ∷ [] = h.one in cc)

pub row_free : IsFreeSocket first 16 (opening_state first) opening_kept
row_free = record { none = λ p. refl; lives = tt }

pub row_taken_up : IsFreeSocket first 16 with_one opening_kept → ⊥
row_taken_up h = absurd (let r : worked_end ∷ [] ≡ [] = h.none second in cc)

pub row_unowned : IsOwned first 16 (opening_state first) opening_kept → ⊥
row_unowned h = absurd (let r : [] ≡ h.end ∷ [] = h.one in cc)

pub row_steady : IsSteady (opening_state first)
row_steady = record { refusing = λ p. tt; idle = λ p i. refl }

-- ---- a host that has one peer has no ends with another

-- all of these are of one host
abbrev pub AreOf : Host → List Peer → Type 0
AreOf h [] = Unit {0}
AreOf h (p ∷ ps) = (p.host ≡ h) × AreOf h ps

found_none : (h other : Host) (ps : List Peer) → AreOf h ps → same_host other h ≡ false → find (λ (p : Peer). same_host other p.host) ps ≡ None
found_none h other [] are away = refl
found_none h other (p ∷ ps) are away = let off : same_host other p.host ≡ false = ap (same_host other) are.0 ∙ away in rw off (found_none h other ps are.1 away)

pub none_there : (socket : ℕ) (h other : Host) (ps : List Peer) → AreOf h ps → same_host other h ≡ false → mine_on socket (pair_with other ps).entries ≡ []
none_there socket h other ps are away = ap (λ (o : Option Peer). mine_on socket (pair_in o).entries) (found_none h other ps are away)
