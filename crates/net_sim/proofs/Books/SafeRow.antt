-- The book of a connection on which a message was taken is safe.
use Rattle.net_sim.proofs.Common.{◌≡◌, true, false, [], ◌∷◌, ◌++◌, length, Some, inl, inr, refl, ap, sym, subst, ◌∙◌, arith, safe_messages, first, second, Life, Name, SafeBook, SafePartners, SafeStreams, SafeGrants, IsGranted, Source, AreTwo, receives, sends, own_request, partner_request, eight, crossings, taker, giver}
use Rattle.std.proofs.Common.{length-append, IsSome}
use Rattle.interface.specs.Mailboxes.{IsRun}
use Rattle.net_sim.proofs.Books.Unsafe.{two_there, not_sending, place_of}

-- the two lives, and no others, are two
only_two : (x y a b : Life) → AreTwo (x ∷ y ∷ []) a b → (x ≡ a) × (y ≡ b)
only_two x y a b ([], [], [], e) = (cc, cc)
only_two x y a b ([], [], c ∷ rest, e) = absurd (let l : 2 ≡ length (a ∷ b ∷ c ∷ rest) = ap length e in omega (arith, l))
only_two x y a b ([], c ∷ between, rest, e) = absurd (let l : 2 ≡ length (a ∷ c ∷ between ++ b ∷ rest) = ap length e in omega (arith, l, length-append between (b ∷ rest)))
only_two x y a b (c ∷ front, between, rest, e) =
    absurd (let l : 2 ≡ length (c ∷ front ++ a ∷ between ++ b ∷ rest) = ap length e in omega (arith, l, length-append (front ++ a ∷ between) (b ∷ rest), length-append front (a ∷ between)))

-- the two have no request in common
apart : own_request giver ≡ own_request taker → ⊥
apart e = let z : 2 ≡ 0 = ap (λ (n : Name). n.place) e in omega (arith, z)

some_apart : Some (own_request giver) ≡ Some (own_request taker) → ⊥
some_apart e = let z : 2 ≡ 0 = ap place_of e in omega (arith, z)

pub partners : SafePartners crossings (giver ∷ taker ∷ [])
partners = record {
  own_once = λ x y two e. (let s : (giver ≡ x) × (taker ≡ y) = only_two giver taker x y two in let w : own_request giver ≡ own_request taker = ap own_request s.0 ∙ e ∙ sym (ap own_request s.1) in apart w);
  partner_once = λ x y name two e f.
      (let s : (giver ≡ x) × (taker ≡ y) = only_two giver taker x y two in
      let w : partner_request crossings giver ≡ partner_request crossings taker = ap (partner_request crossings) s.0 ∙ e ∙ sym f ∙ sym (ap (partner_request crossings) s.1) in
      some_apart (sym w));
  named = λ x inx.
      elim (two_there giver taker x inx) [
        | inl a ↦ subst (λ (z : Life). IsSome (partner_request crossings z)) a refl
        | inr a ↦ subst (λ (z : Life). IsSome (partner_request crossings z)) a refl
      ];
  peers = λ x y inx iny e.
      elim (two_there giver taker x inx) [
        | inl a ↦ elim (two_there giver taker y iny) [
          | inl b ↦ absurd (let w : Some (own_request taker) ≡ Some (own_request giver) = ap (partner_request crossings) a ∙ e ∙ ap (λ (z : Life). Some (own_request z)) (sym b) in some_apart (sym w))
          | inr b ↦ (ap (λ (z : Life). z.peer) (sym a) ∙ ap (λ (z : Life). z.host) b, ap (λ (z : Life). z.peer) (sym b) ∙ ap (λ (z : Life). z.host) a)
        ]
        | inr a ↦ elim (two_there giver taker y iny) [
          | inl b ↦ (ap (λ (z : Life). z.peer) (sym a) ∙ ap (λ (z : Life). z.host) b, ap (λ (z : Life). z.peer) (sym b) ∙ ap (λ (z : Life). z.host) a)
          | inr b ↦ absurd (let w : Some (own_request giver) ≡ Some (own_request taker) = ap (partner_request crossings) a ∙ e ∙ ap (λ (z : Life). Some (own_request z)) (sym b) in some_apart w)
        ]
      ];
  both_ways = λ x y inx iny e.
      elim (two_there giver taker x inx) [
        | inl a ↦ elim (two_there giver taker y iny) [
          | inl b ↦ absurd (let w : Some (own_request taker) ≡ Some (own_request giver) = ap (partner_request crossings) a ∙ e ∙ ap (λ (z : Life). Some (own_request z)) (sym b) in some_apart (sym w))
          | inr b ↦ ap (partner_request crossings) (sym b) ∙ ap (λ (z : Life). Some (own_request z)) a
        ]
        | inr a ↦ elim (two_there giver taker y iny) [
          | inl b ↦ ap (partner_request crossings) (sym b) ∙ ap (λ (z : Life). Some (own_request z)) a
          | inr b ↦ absurd (let w : Some (own_request giver) ≡ Some (own_request taker) = ap (partner_request crossings) a ∙ e ∙ ap (λ (z : Life). Some (own_request z)) (sym b) in some_apart w)
        ]
      ];
}

streams : SafeStreams crossings (giver ∷ taker ∷ []) (eight ∷ [] ∷ [])
streams = record {
  one = λ r x y inr_ two m n. (let s : (giver ≡ x) × (taker ≡ y) = only_two giver taker x y two in not_sending y (ap sends s.1) n.sending);
  source = λ r there receiving some.
      elim (two_there giver taker r there) [
        | inl a ↦ absurd (let w : false ≡ true = ap receives a ∙ receiving in cc)
        | inr a ↦ subst (λ (x : Life). Source crossings (giver ∷ taker ∷ []) x) a
            (record {
              sender = giver;
              there = (0, omega arith, refl);
              matches = record { receiving = refl; sending = refl; peers = (refl, refl); sockets = (refl, refl); asked = refl; answered = refl };
              front = ([], refl);
            })
      ];
  sent = ((λ s. ([], refl)), ((λ s. absurd (cc)), refl));
}

grants : SafeGrants crossings (giver ∷ taker ∷ [])
grants = record {
  taken = λ r there receiving.
      elim (two_there giver taker r there) [
        | inl a ↦ absurd (let w : false ≡ true = ap receives a ∙ receiving in cc)
        | inr a ↦ subst (λ (x : Life). IsGranted x x.messages (length x.bits)) a (record { messages = omega arith; bits = omega arith })
      ];
  sent = λ r s inr_ ins m.
      elim (two_there giver taker r inr_) [
        | inl a ↦ absurd (let w : false ≡ true = ap receives a ∙ m.receiving in cc)
        | inr a ↦ elim (two_there giver taker s ins) [
          | inl b ↦ subst (λ (x : Life). IsGranted x s.messages (length s.bits)) a (subst (λ (y : Life). IsGranted taker y.messages (length y.bits)) b (record { messages = omega arith; bits = omega arith }))
          | inr b ↦ absurd (not_sending s (ap sends b) m.sending)
        ]
      ];
}

run : IsRun (first ∷ second ∷ []) crossings
run = ((refl, tt), ((refl, refl), ((refl, tt), ((refl, refl), ((refl, refl), ((refl, refl), tt))))))

pub safe : SafeBook crossings (giver ∷ taker ∷ []) (eight ∷ [] ∷ [])
safe = record { messages = safe_messages (first ∷ second ∷ []) crossings run; partners = partners; streams = streams; grants = grants }
