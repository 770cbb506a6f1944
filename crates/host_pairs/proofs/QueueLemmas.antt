-- RST and RRP never wait.
use Rattle.std.proofs.Common.{◌≡◌, ℕ, ◌+◌, ◌-◌, ◌≤◌, ◌++◌, true, false, not, List, [], ◌∷◌, length, drop, min, zero, suc, refl, sym, ◌∙◌, arith}
use Rattle.std.proofs.Math.Nat.{min-le_right}
use Rattle.std.proofs.lemmas.List.{length-append, length-drop, drop-drop, drop-append-le, drop_min}
use Rattle.std.proofs.lemmas.List.Folds.{list_all-append}
use Rattle.ncp_control.specs.Command.{is_alone}
use Rattle.ncp_control.specs.declared.command.Command.{Command}
use Rattle.host_pairs.specs.Queue.{are_joint}
use Rattle.host_pairs.proofs.OpeningLemmas.{both}

pub joint_more : (c : Command) (cs : List Command) → is_alone c ≡ false → are_joint cs ≡ true → are_joint (cs ++ c ∷ []) ≡ true
joint_more c cs e h = rw (list_all-append (λ (d : Command). not (is_alone d)) cs (c ∷ []), h, e) refl

pub joint_behind : (count : ℕ) (cs : List Command) → are_joint cs ≡ true → are_joint (drop count cs) ≡ true
joint_behind zero cs h = h
joint_behind (suc n) [] h = refl
joint_behind (suc n) (c ∷ cs) h = joint_behind n cs ((both _ _ h).1)

-- ---- those after the ones that have gone out

pub length_behind : (gone : ℕ) (cs : List Command) → length (drop gone cs) ≡ length cs - gone
length_behind gone cs = length-drop gone cs

pub one_more : (gone : ℕ) (cs : List Command) (c : Command) → gone ≤ length cs → drop gone (cs ++ c ∷ []) ≡ drop gone cs ++ c ∷ []
one_more gone cs c h = drop-append-le gone cs (c ∷ []) h

pub joint_pushed : (gone : ℕ) (cs : List Command) (c : Command) → gone ≤ length cs → is_alone c ≡ false → are_joint (drop gone cs) ≡ true
    → are_joint (drop gone (cs ++ c ∷ [])) ≡ true
joint_pushed gone cs c h e j = rw (one_more gone cs c h) (joint_more c (drop gone cs) e j)

pub within_more : (gone : ℕ) (cs : List Command) (c : Command) → gone ≤ length cs → gone ≤ length (cs ++ c ∷ [])
within_more gone cs c h = omega (arith, h, length-append cs (c ∷ []))

pub further : (gone count : ℕ) (cs : List Command) → drop (gone + min count (length (drop gone cs))) cs ≡ drop count (drop gone cs)
further gone count cs = sym (drop-drop (min count (length (drop gone cs))) gone cs) ∙ drop_min count (drop gone cs)

pub joint_further : (gone count : ℕ) (cs : List Command) → are_joint (drop gone cs) ≡ true → are_joint (drop (gone + min count (length (drop gone cs))) cs) ≡ true
joint_further gone count cs j = rw (further gone count cs) (joint_behind count (drop gone cs) j)

pub within_further : (gone count : ℕ) (cs : List Command) → gone ≤ length cs → gone + min count (length (drop gone cs)) ≤ length cs
within_further gone count cs h = omega (arith, h, length-drop gone cs, min-le_right count (length (drop gone cs)))
