-- Short logs whose messages aren't safe.
use Rattle.std.proofs.Common.{◌≡◌, ◌≢◌, true, false, List, [], ◌∷◌, ◌++◌, ap, sym, ◌∙◌, refl, inl, inr}
use Rattle.interface.specs.Flow.{same_flow}
use Rattle.interface.specs.Messages.{SafeMessages, NeverTaken, TakenOnce, taken_in, went_out, told_not_taken}
use Rattle.interface.specs.declared.crossing.Answer.TheVariants as answer
use Rattle.interface.specs.declared.crossing.Crossing.{Crossing}
use Rattle.interface.specs.declared.crossing.Crossing.TheVariants as crossing
use Rattle.interface.specs.declared.message.HostMessage.{HostMessage}
use Rattle.interface.proofs.Lists.{same_flow-refl}

none_behind : (since before : List Crossing) (c : Crossing) → [] ≡ since ++ c ∷ before → ⊥
none_behind [] before c e = cc
none_behind (d ∷ since) before c e = cc

tail_of : (c d : Crossing) (xs ys : List Crossing) → c ∷ xs ≡ d ∷ ys → xs ≡ ys
tail_of c d xs ys e = cc

-- what was taken since the one message out is nothing
nothing_since : (m : HostMessage) (since before : List Crossing) (n : HostMessage) → crossing.Out m ∷ [] ≡ since ++ crossing.Out n ∷ before → taken_in m.flow since ≡ n.text ∷ [] → ⊥
nothing_since m [] before n parts once = cc
nothing_since m (c ∷ since) before n parts once = none_behind since before (crossing.Out n) (tail_of (crossing.Out m) c [] (since ++ crossing.Out n ∷ before) parts)

pub untaken : (m : HostMessage) → SafeMessages (crossing.Answer answer.Rfnm m.flow ∷ crossing.Out m ∷ []) → ⊥
untaken m safe =
    let t : TakenOnce m.flow (crossing.Out m ∷ []) = safe.answered [] (crossing.Out m ∷ []) m.flow refl in
    nothing_since m t.out.since t.out.before t.out.message t.out.parts t.once

pub twice : (m : HostMessage) → SafeMessages (crossing.In m ∷ crossing.In m ∷ crossing.Out m ∷ []) → ⊥
twice m safe =
    let since : List Crossing = crossing.In m ∷ crossing.In m ∷ [] in
    let both : taken_in m.flow since ≡ m.text ∷ m.text ∷ [] = rw (same_flow-refl m.flow) refl in
    elim (safe.once [] since [] m refl refl) [
      | inl none ↦ (let no : m.text ∷ m.text ∷ [] ≡ [] = sym both ∙ none in cc)
      | inr one ↦ (let no : m.text ∷ m.text ∷ [] ≡ m.text ∷ [] = sym both ∙ one in cc)
    ]

pub other_text : (m n : HostMessage) → n.flow ≡ m.flow → n.text ≢ m.text → SafeMessages (crossing.In n ∷ crossing.Out m ∷ []) → ⊥
other_text m n same differs safe =
    let since : List Crossing = crossing.In n ∷ [] in
    let test : same_flow m.flow n.flow ≡ true = ap (λ f. same_flow m.flow f) same ∙ same_flow-refl m.flow in
    let given : taken_in m.flow since ≡ n.text ∷ [] = rw test refl in
    elim (safe.once [] since [] m refl refl) [
      | inl none ↦ (let no : n.text ∷ [] ≡ [] = sym given ∙ none in cc)
      | inr one ↦ differs (let yes : n.text ∷ [] ≡ m.text ∷ [] = sym given ∙ one in cc)
    ]

pub early : (m : HostMessage) → SafeMessages (crossing.In m ∷ []) → ⊥
early m safe =
    let given : taken_in m.flow (crossing.In m ∷ []) ≡ m.text ∷ [] = rw (same_flow-refl m.flow) refl in
    let no : m.text ∷ [] ≡ [] = sym given ∙ safe.none_before [] (crossing.In m ∷ []) m.flow refl refl in
    cc

-- ---- messages whose source was notified of Dead or NotTaken

-- one text was taken since the message went out, though its source was notified that it was not
not_never : (m : HostMessage) (newer since : List Crossing) → went_out m.flow since ≡ false → told_not_taken m.flow since ≡ true → taken_in m.flow since ≡ m.text ∷ []
    → NeverTaken (newer ++ (since ++ crossing.Out m ∷ [])) → ⊥
not_never m newer since last told taken safe = let no : m.text ∷ [] ≡ [] = sym taken ∙ safe.never newer since [] m refl last told in cc

pub taken_and_told : (m : HostMessage) → NeverTaken (crossing.Answer answer.NotTaken m.flow ∷ crossing.In m ∷ crossing.Out m ∷ []) → ⊥
taken_and_told m = not_never m [] (crossing.Answer answer.NotTaken m.flow ∷ crossing.In m ∷ []) refl (rw (same_flow-refl m.flow) refl) (rw (same_flow-refl m.flow) refl)

pub told_and_taken : (m : HostMessage) → NeverTaken (crossing.In m ∷ crossing.Answer answer.NotTaken m.flow ∷ crossing.Out m ∷ []) → ⊥
told_and_taken m = not_never m [] (crossing.In m ∷ crossing.Answer answer.NotTaken m.flow ∷ []) refl (rw (same_flow-refl m.flow) refl) (rw (same_flow-refl m.flow) refl)

pub taken_below : (m : HostMessage) → NeverTaken (crossing.Out m ∷ crossing.Answer answer.NotTaken m.flow ∷ crossing.In m ∷ crossing.Out m ∷ []) → ⊥
taken_below m = not_never m (crossing.Out m ∷ []) (crossing.Answer answer.NotTaken m.flow ∷ crossing.In m ∷ []) refl (rw (same_flow-refl m.flow) refl) (rw (same_flow-refl m.flow) refl)

pub taken_and_dead : (m : HostMessage) → NeverTaken (crossing.Answer answer.Dead m.flow ∷ crossing.In m ∷ crossing.Out m ∷ []) → ⊥
taken_and_dead m = not_never m [] (crossing.Answer answer.Dead m.flow ∷ crossing.In m ∷ []) refl (rw (same_flow-refl m.flow) refl) (rw (same_flow-refl m.flow) refl)

pub dead_and_taken : (m : HostMessage) → NeverTaken (crossing.In m ∷ crossing.Answer answer.Dead m.flow ∷ crossing.Out m ∷ []) → ⊥
dead_and_taken m = not_never m [] (crossing.In m ∷ crossing.Answer answer.Dead m.flow ∷ []) refl (rw (same_flow-refl m.flow) refl) (rw (same_flow-refl m.flow) refl)
