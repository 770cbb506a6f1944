use Rattle.net_sim.proofs.Common.{◌≡◌, inl, inr, Bool, List, [], ◌++◌, length, refl, ap, sym, ◌∙◌, arith, is_send_socket, Life, eight, four, giver, over, taker}
use Rattle.promise.specs.declared.life.Fate.TheVariants as fate
use Rattle.net_sim.specs.Worked.{giver_of_nothing, taker_of_nothing}
use Rattle.net_sim.proofs.Books.Unsafe.{not_sending, two_there}
use Rattle.net_sim.proofs.worked_closes.whole_closes.Goals as goal

pub returns-clause-whole : goal.returns-clause-whole
returns-clause-whole c = record {
  took_sent = λ x s i there m.
      elim i [
        | inl e ↦ absurd (let no_fate : fate.Ended ≡ fate.Closed = e.1 in cc)
        | inr j ↦ elim j [
          | inl e ↦ elim (two_there (over giver) (over taker) s there) [
            | inl a ↦ (ap (λ (z : Life). z.bits) e.0 ∙ ap (λ (z : Life). z.bits) a, ap (λ (z : Life). z.messages) e.0 ∙ ap (λ (z : Life). z.messages) a)
            | inr a ↦ absurd (not_sending s (ap (λ (z : Life). is_send_socket z.socket) a) m.sending)
          ]
          | inr none ↦ absurd none
        ]
      ];
  took_handed = λ x s t i j m.
      elim i [
        | inl e ↦ absurd (let no_fate : fate.Ended ≡ fate.Closed = e.1 in cc)
        | inr k ↦ elim k [
          | inl e ↦ elim j [
            | inl a ↦ ap (λ (z : Life). z.bits) e.0 ∙ sym a.1
            | inr b ↦ elim b [
              | inl a ↦ absurd (not_sending s (ap (λ (z : Life). is_send_socket z.socket) (sym a.0)) m.sending)
              | inr none ↦ absurd none
            ]
          ]
          | inr none ↦ absurd none
        ]
      ];
}

pub returns-clause-closed : goal.returns-clause-closed
returns-clause-closed c = record {
  took_sent = λ x s i there m. elim i [
    | inl e ↦ absurd (let no_fate : fate.Ended ≡ fate.Closed = e.1 in cc)
    | inr j ↦ elim j [
      | inl e ↦ absurd (let no_fate : fate.Ended ≡ fate.Closed = e.1 in cc)
      | inr none ↦ absurd none
    ]
  ];
  took_handed = λ x s t i j m. elim i [
    | inl e ↦ absurd (let no_fate : fate.Ended ≡ fate.Closed = e.1 in cc)
    | inr k ↦ elim k [
      | inl e ↦ absurd (let no_fate : fate.Ended ≡ fate.Closed = e.1 in cc)
      | inr none ↦ absurd none
    ]
  ];
}

pub returns-clause-reset : goal.returns-clause-reset
returns-clause-reset c = record {
  took_sent = λ x s i there m. elim i [
    | inl e ↦ absurd (let no_fate : fate.Ended ≡ fate.Closed = e.1 in cc)
    | inr j ↦ elim j [
      | inl e ↦ absurd (let no_fate : fate.Ended ≡ fate.Reset = e.1 in cc)
      | inr none ↦ absurd none
    ]
  ];
  took_handed = λ x s t i j m. elim i [
    | inl e ↦ absurd (let no_fate : fate.Ended ≡ fate.Closed = e.1 in cc)
    | inr k ↦ elim k [
      | inl e ↦ absurd (let no_fate : fate.Ended ≡ fate.Reset = e.1 in cc)
      | inr none ↦ absurd none
    ]
  ];
}

pub returns-clause-less : goal.returns-clause-less
returns-clause-less c u =
    let bits : [] ≡ eight =
    (u.took_sent (over taker_of_nothing) (over giver) (inr (inl (refl, refl))) (0, omega arith, refl)
    (record { receiving = refl; sending = refl; peers = (refl, refl); sockets = (refl, refl); asked = refl; answered = refl })).0 in
    absurd (cc)

pub returns-clause-other : goal.returns-clause-other
returns-clause-other c u =
    let bits : eight ≡ four =
    (u.took_sent (over taker) (over (record giver { bits = four })) (inr (inl (refl, refl))) (0, omega arith, refl)
    (record { receiving = refl; sending = refl; peers = (refl, refl); sockets = (refl, refl); asked = refl; answered = refl })).0 in
    absurd (cc)

pub returns-clause-messages : goal.returns-clause-messages
returns-clause-messages c u =
    let count : 2 ≡ 1 =
    (u.took_sent (over (record taker { messages = 2 })) (over giver) (inr (inl (refl, refl))) (0, omega arith, refl)
    (record { receiving = refl; sending = refl; peers = (refl, refl); sockets = (refl, refl); asked = refl; answered = refl })).1 in
    absurd (omega (arith, count))

pub returns-clause-handed : goal.returns-clause-handed
returns-clause-handed c u =
    let bits : eight ≡ eight ++ four =
    u.took_handed (over taker) (over giver) (eight ++ four) (inr (inl (refl, refl))) (inl (refl, refl))
    (record { receiving = refl; sending = refl; peers = (refl, refl); sockets = (refl, refl); asked = refl; answered = refl }) in
    let count : 8 ≡ 12 = ap (λ (bs : List Bool). length bs) bits in
    absurd (omega (arith, count))

pub returns-clause-unsent : goal.returns-clause-unsent
returns-clause-unsent c u =
    let bits : [] ≡ eight =
    u.took_handed (over taker_of_nothing) (over giver_of_nothing) eight (inr (inl (refl, refl))) (inl (refl, refl))
    (record { receiving = refl; sending = refl; peers = (refl, refl); sockets = (refl, refl); asked = refl; answered = refl }) in
    absurd (cc)

pub returns-clause-nothing : goal.returns-clause-nothing
returns-clause-nothing c = record {
  took_sent = λ x s i there m.
      elim i [
        | inl e ↦ absurd (let no_fate : fate.Ended ≡ fate.Closed = e.1 in cc)
        | inr j ↦ elim j [
          | inl e ↦ elim (two_there (over giver_of_nothing) (over taker_of_nothing) s there) [
            | inl a ↦ (ap (λ (z : Life). z.bits) e.0 ∙ ap (λ (z : Life). z.bits) a, ap (λ (z : Life). z.messages) e.0 ∙ ap (λ (z : Life). z.messages) a)
            | inr a ↦ absurd (not_sending s (ap (λ (z : Life). is_send_socket z.socket) a) m.sending)
          ]
          | inr none ↦ absurd none
        ]
      ];
  took_handed = λ x s t i j m.
      elim i [
        | inl e ↦ absurd (let no_fate : fate.Ended ≡ fate.Closed = e.1 in cc)
        | inr k ↦ elim k [
          | inl e ↦ elim j [
            | inl a ↦ ap (λ (z : Life). z.bits) e.0 ∙ sym a.1
            | inr b ↦ elim b [
              | inl a ↦ absurd (not_sending s (ap (λ (z : Life). is_send_socket z.socket) (sym a.0)) m.sending)
              | inr none ↦ absurd none
            ]
          ]
          | inr none ↦ absurd none
        ]
      ];
}
