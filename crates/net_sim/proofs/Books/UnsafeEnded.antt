-- Books that aren't safe though each of their lives has ended.
use Rattle.net_sim.proofs.Common.{◌≡◌, ◌≤◌, [], ◌∷◌, ◌++◌, Some, refl, ap, arith, Host, first, second, third, Life, SafeBook, IsGranted, Source, Match, sends, own_request, partner_request, eight, four, crossings, message, receiver, sender, taker, giver, elsewhere, asker, stranger, over}
use Rattle.std.proofs.Common.{IsSome}
use Rattle.interface.specs.declared.crossing.Crossing.TheVariants as crossing
use Rattle.promise.specs.Safe.{IsPrefix}
use Rattle.net_sim.proofs.Books.Unsafe.{one_there, not_sending, place_of}

-- ---- partners

pub own_twice : SafeBook (crossing.Out (message second first 0) ∷ crossings) (over receiver ∷ over (record receiver { partner_stamp = 7 }) ∷ []) ([] ∷ [] ∷ []) → ⊥
own_twice b = b.partners.own_once (over receiver) (over (record receiver { partner_stamp = 7 })) ([], [], [], refl) refl

pub partner_twice : SafeBook crossings (over receiver ∷ over (record receiver { own_stamp = 7 }) ∷ []) ([] ∷ [] ∷ []) → ⊥
partner_twice b = b.partners.partner_once (over receiver) (over (record receiver { own_stamp = 7 })) (own_request sender) ([], [], [], refl) refl refl

pub unanswered : SafeBook crossings (over (record giver { partner_stamp = 0 }) ∷ []) (eight ∷ []) → ⊥
unanswered b =
    let some : IsSome (partner_request crossings (over (record giver { partner_stamp = 0 }))) = b.partners.named (over (record giver { partner_stamp = 0 })) (0, omega arith, refl) in absurd (cc)

pub another_host : SafeBook elsewhere (over asker ∷ over stranger ∷ []) ([] ∷ [] ∷ []) → ⊥
another_host b =
    let apart : (second ≡ third) × (first ≡ first) = b.partners.peers (over asker) (over stranger) (0, omega arith, refl) (1, omega arith, refl) refl in
    let octets : 2 ≡ 3 = ap (λ (h : Host). h.imp) apart.0 in absurd (omega (arith, octets))

pub one_way : SafeBook (crossing.Out (message first second 0) ∷ crossings) (over (record sender { partner_stamp = 7 }) ∷ over receiver ∷ []) ([] ∷ [] ∷ []) → ⊥
one_way b =
    let back : partner_request (crossing.Out (message first second 0) ∷ crossings) (over (record sender { partner_stamp = 7 })) ≡ Some (own_request receiver) = b.partners.both_ways (over receiver) (over (record sender { partner_stamp = 7 })) (1, omega arith, refl) (0, omega arith, refl) refl in
    let places : 6 ≡ 0 = ap place_of back in absurd (omega (arith, places))

-- ---- streams

pub unhanded : SafeBook crossings (over giver ∷ over taker ∷ []) (four ∷ [] ∷ []) → ⊥
unhanded b = let f : IsPrefix eight four = b.streams.sent.0 refl in let e : eight ++ f.0 ≡ four = f.1 in absurd (cc)

pub from_nobody : SafeBook crossings (over taker ∷ []) ([] ∷ []) → ⊥
from_nobody b =
    let s : Source crossings (over taker ∷ []) (over taker) = b.streams.source (over taker) (0, omega arith, refl) refl (λ none. absurd (cc)) in
    not_sending s.sender (ap sends (one_there (over taker) s.sender s.there)) s.matches.sending

-- ---- allocation

pub taken_messages : SafeBook crossings (over giver ∷ over (record taker { messages = 3 }) ∷ []) (eight ∷ [] ∷ []) → ⊥
taken_messages b =
    let r : Life = over (record taker { messages = 3 }) in
    let g : IsGranted r 3 8 = b.grants.taken r (1, omega arith, refl) refl in
    let le : 4 ≤ 2 = g.messages in omega (arith, le)

pub sent_messages : SafeBook crossings (over (record giver { messages = 2 }) ∷ over taker ∷ []) (eight ∷ [] ∷ []) → ⊥
sent_messages b =
    let r : Life = over taker in
    let s : Life = over (record giver { messages = 2 }) in
    let m : Match crossings r s = record { receiving = refl; sending = refl; peers = (refl, refl); sockets = (refl, refl); asked = refl; answered = refl } in
    let g : IsGranted r 2 8 = b.grants.sent r s (1, omega arith, refl) (0, omega arith, refl) m in
    let le : 3 ≤ 2 = g.messages in omega (arith, le)
