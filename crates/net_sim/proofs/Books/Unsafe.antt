-- Books that aren't safe.
use Rattle.net_sim.proofs.Common.{◌≡◌, ◌⊎◌, ◌≤◌, true, false, List, [], ◌∷◌, ◌++◌, ℕ, Option, Some, None, zero, suc, inl, inr, refl, ap, sym, subst, ◌∙◌, arith, Contains, Host, Crossing, first, second, third, Life, Name, SafeBook, IsGranted, Source, Match, sends, own_request, partner_request, eight, eight_zeros, four, crossings, message, receiver, sender, taker, giver, elsewhere, asker, stranger}
use Rattle.std.proofs.Common.{IsSome}
use Rattle.interface.specs.declared.crossing.Answer.TheVariants as answer
use Rattle.interface.specs.declared.crossing.Crossing.TheVariants as crossing
use Rattle.sockets.specs.Worked.{on_link}
use Rattle.promise.specs.Safe.{IsPrefix}

-- ---- where a life is

pub one_there : (x y : Life) → Contains (x ∷ []) y → x ≡ y
one_there x y (zero, lt, e) = e
one_there x y (suc k, lt, e) = absurd (omega (arith, lt))

pub two_there : (x y z : Life) → Contains (x ∷ y ∷ []) z → (x ≡ z) ⊎ (y ≡ z)
two_there x y z (zero, lt, e) = inl e
two_there x y z (suc zero, lt, e) = inr e
two_there x y z (suc (suc k), lt, e) = absurd (omega (arith, lt))

-- the receiving life is none that sends
pub not_sending : (x : Life) → sends taker ≡ sends x → sends x ≡ true → ⊥
not_sending x same s = let both : false ≡ true = same ∙ s in absurd (cc)

-- ---- messages

since : List Crossing
since =
    crossing.In (message first second 0) ∷ crossing.Answer answer.Rfnm (on_link second first 0) ∷ crossing.In (message second first 0) ∷ crossing.Answer answer.Rfnm (on_link first second 0)
    ∷ crossing.Out (message second first 0) ∷ crossing.In (message first second 0) ∷ []

pub twice : SafeBook (crossing.In (message first second 0) ∷ crossings) [] [] → ⊥
unfolding since
twice b = elim (b.messages.once [] since [] (message first second 0) refl refl) [
  | inl none ↦ absurd (cc)
  | inr one ↦ absurd (cc)
]

-- ---- allocation

pub granted_bits : SafeBook crossings (giver ∷ record taker { granted = record { messages = 2; bits = 11 } } ∷ []) (eight ∷ [] ∷ []) → ⊥
granted_bits b =
    let g : IsGranted (record taker { granted = record { messages = 2; bits = 11 } }) 1 8 = b.grants.taken (record taker { granted = record { messages = 2; bits = 11 } }) (1, omega arith, refl) refl in
    let le : 12 ≤ 11 = g.bits in omega (arith, le)

pub taken_messages : SafeBook crossings (giver ∷ record taker { messages = 3 } ∷ []) (eight ∷ [] ∷ []) → ⊥
taken_messages b =
    let g : IsGranted (record taker { messages = 3 }) 3 8 = b.grants.taken (record taker { messages = 3 }) (1, omega arith, refl) refl in
    let le : 4 ≤ 2 = g.messages in omega (arith, le)

pub granted_messages : SafeBook crossings (giver ∷ record taker { granted = record { messages = 1; bits = 100 } } ∷ []) (eight ∷ [] ∷ []) → ⊥
granted_messages b =
    let g : IsGranted (record taker { granted = record { messages = 1; bits = 100 } }) 1 8 = b.grants.taken (record taker { granted = record { messages = 1; bits = 100 } }) (1, omega arith, refl) refl in
    let le : 2 ≤ 1 = g.messages in omega (arith, le)

pub sent_bits : SafeBook crossings (record giver { bits = eight ++ eight } ∷ record taker { granted = record { messages = 2; bits = 19 } } ∷ []) ((eight ++ eight) ∷ [] ∷ []) → ⊥
sent_bits b =
    let r : Life = record taker { granted = record { messages = 2; bits = 19 } } in
    let s : Life = record giver { bits = eight ++ eight } in
    let m : Match crossings r s = record { receiving = refl; sending = refl; peers = (refl, refl); sockets = (refl, refl); asked = refl; answered = refl } in
    let g : IsGranted r 1 16 = b.grants.sent r s (1, omega arith, refl) (0, omega arith, refl) m in
    let le : 20 ≤ 19 = g.bits in omega (arith, le)

pub sent_messages : SafeBook crossings (record giver { messages = 2 } ∷ taker ∷ []) (eight ∷ [] ∷ []) → ⊥
sent_messages b =
    let s : Life = record giver { messages = 2 } in
    let m : Match crossings taker s = record { receiving = refl; sending = refl; peers = (refl, refl); sockets = (refl, refl); asked = refl; answered = refl } in
    let g : IsGranted taker 2 8 = b.grants.sent taker s (1, omega arith, refl) (0, omega arith, refl) m in
    let le : 3 ≤ 2 = g.messages in omega (arith, le)

-- ---- partners

abbrev pub place_of : Option Name → ℕ
place_of None = 9
place_of (Some n) = n.place

pub own_twice : SafeBook (crossing.Out (message second first 0) ∷ crossings) (receiver ∷ record receiver { partner_stamp = 7 } ∷ []) ([] ∷ [] ∷ []) → ⊥
own_twice b = b.partners.own_once receiver (record receiver { partner_stamp = 7 }) ([], [], [], refl) refl

pub partner_twice : SafeBook crossings (receiver ∷ record receiver { own_stamp = 7 } ∷ []) ([] ∷ [] ∷ []) → ⊥
partner_twice b = b.partners.partner_once receiver (record receiver { own_stamp = 7 }) (own_request sender) ([], [], [], refl) refl refl

pub one_way : SafeBook (crossing.Out (message first second 0) ∷ crossings) (record sender { partner_stamp = 7 } ∷ receiver ∷ []) ([] ∷ [] ∷ []) → ⊥
one_way b =
    let x : Life = record sender { partner_stamp = 7 } in
    let back : partner_request (crossing.Out (message first second 0) ∷ crossings) (record sender { partner_stamp = 7 }) ≡ Some (own_request receiver) = b.partners.both_ways receiver (record sender { partner_stamp = 7 }) (1, omega arith, refl) (0, omega arith, refl) refl in
    let places : 6 ≡ 0 = ap place_of back in absurd (omega (arith, places))

-- ---- streams

pub unanswered : SafeBook crossings (record giver { partner_stamp = 0 } ∷ []) (eight ∷ []) → ⊥
unanswered b = let some : IsSome (partner_request crossings (record giver { partner_stamp = 0 })) = b.partners.named (record giver { partner_stamp = 0 }) (0, omega arith, refl) in absurd (cc)

pub another_host : SafeBook elsewhere (asker ∷ stranger ∷ []) ([] ∷ [] ∷ []) → ⊥
another_host b =
    let apart : (second ≡ third) × (first ≡ first) = b.partners.peers asker stranger (0, omega arith, refl) (1, omega arith, refl) refl in
    let octets : 2 ≡ 3 = ap (λ (h : Host). h.imp) apart.0 in absurd (omega (arith, octets))

pub from_nobody : SafeBook crossings (taker ∷ []) ([] ∷ []) → ⊥
from_nobody b =
    let s : Source crossings (taker ∷ []) taker = b.streams.source taker (0, omega arith, refl) refl (λ none. absurd (cc)) in
    not_sending s.sender (ap sends (one_there taker s.sender s.there)) s.matches.sending

pub other_bits : SafeBook crossings (record giver { bits = four } ∷ taker ∷ []) (four ∷ [] ∷ []) → ⊥
other_bits b =
    let x : Life = record giver { bits = four } in
    let s : Source crossings (x ∷ taker ∷ []) taker = b.streams.source taker (1, omega arith, refl) refl (λ none. absurd (cc)) in
    elim (two_there x taker s.sender s.there) [
      | inl is ↦ (let f : IsPrefix eight four = subst (λ (y : Life). IsPrefix eight y.bits) (sym is) s.front in (let e : eight ++ f.0 ≡ four = f.1 in absurd (cc)))
      | inr is ↦ not_sending s.sender (ap sends is) s.matches.sending
    ]

pub other_taken : SafeBook crossings (record giver { bits = eight_zeros } ∷ taker ∷ []) (eight_zeros ∷ [] ∷ []) → ⊥
other_taken b =
    let x : Life = record giver { bits = eight_zeros } in
    let s : Source crossings (x ∷ taker ∷ []) taker = b.streams.source taker (1, omega arith, refl) refl (λ none. absurd (cc)) in
    elim (two_there x taker s.sender s.there) [
      | inl is ↦ (let f : IsPrefix eight eight_zeros = subst (λ (y : Life). IsPrefix eight y.bits) (sym is) s.front in (let e : eight ++ f.0 ≡ eight_zeros = f.1 in absurd (cc)))
      | inr is ↦ not_sending s.sender (ap sends is) s.matches.sending
    ]

pub other_handed : SafeBook crossings (giver ∷ taker ∷ []) (eight_zeros ∷ [] ∷ []) → ⊥
other_handed b = let f : IsPrefix eight eight_zeros = b.streams.sent.0 refl in let e : eight ++ f.0 ≡ eight_zeros = f.1 in absurd (cc)
