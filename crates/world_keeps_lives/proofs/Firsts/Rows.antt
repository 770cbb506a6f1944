-- Books whose messages that went out are those of lives, and books whose aren't.
use Rattle.world_keeps_lives.proofs.Common.{Contains, option_map, Crossing, HostMessage, before, receives, Life}
use Rattle.std.proofs.Common.{◌≡◌, inl, inr, ℕ, ◌<◌, ◌≤◌, ◌==◌, true, false, List, [], ◌∷◌, drop, length, Option, Some, refl, ap, sym, subst, ◌∙◌, arith}
use Rattle.bit_messages.specs.Octets.{octets_of}
use Rattle.ncp_control.specs.Reading.{command_of, read_of}
use Rattle.host_pairs.specs.Control.{orders_of}
use Rattle.promise.specs.Formed.{CrossedAt, texts_on, flow_of, link_of}
use Rattle.promise.specs.Safe.{sends}
use Rattle.net_sim.specs.WorkedMoments.{eight_sent}
use Rattle.world_keeps_lives.specs.Firsts.{AreApart, IsSentIn, FirstBook, texts_before}
use Rattle.world_keeps_lives.specs.WorkedFormed.{gave, sent_log, stray_log, took, two_log, zeros_sent}
use Rattle.interface.specs.declared.crossing.Crossing.TheVariants as crossing
use Rattle.world_keeps_lives.proofs.FormedRows.{rts_named}
use Rattle.world_keeps_lives.proofs.Walk.Rules.{Each, each_in}

-- the link of the sending life
pub gave_sent : link_of sent_log gave ≡ Some 2
gave_sent = rts_named

pub gave_two : link_of two_log gave ≡ Some 2
gave_two = rts_named

pub gave_stray : link_of stray_log gave ≡ Some 2
unfolding octets_of orders_of read_of command_of
gave_stray = refl

-- it doesn't receive, nor does the receiving life send
pub not_receiving : (x : Life) → x ≡ gave → receives x ≡ true → ⊥
not_receiving x is on = absurd (let no : false ≡ true = ap receives (sym is) ∙ on in cc)

pub not_sending : (x : Life) → x ≡ took → sends x ≡ true → ⊥
not_sending x is on = absurd (let no : false ≡ true = ap sends (sym is) ∙ on in cc)

pub row_twice : AreApart sent_log (gave ∷ gave ∷ []) → ⊥
row_twice a = elim (a.0.0 (refl, refl, refl)) [
  | inl e ↦ (let no : 1 ≡ 0 = e in omega (arith, no))
  | inr k ↦
      (let less : 1 ≤ length (texts_on gave (Some 2) (before 8 sent_log)) = subst (λ (o : Option ℕ). 1 ≤ length (texts_on gave o (before 8 sent_log))) gave_sent k in
      let none : length (texts_on gave (Some 2) (before 8 sent_log)) ≡ 0 = refl in
      omega (arith, less, none))
]

-- the second message has one before it, and the life counts one; and the other life receives
two_of : (x : Life) → IsSentIn two_log 18 zeros_sent x → (x ≡ took → ⊥) × (x ≡ gave → ⊥)
two_of x s = (
  λ is. (let way : true ≡ false = ap receives (sym is) ∙ s.sending in cc),
  λ is.
      (let less : length (texts_before 18 two_log gave) < 1 = subst (λ (y : Life). length (texts_before 18 two_log y) < y.messages) is s.counted in
      let one : length (texts_on gave (Some 2) (before 18 two_log)) < 1 = subst (λ (o : Option ℕ). length (texts_on gave o (before 18 two_log)) < 1) gave_two less in
      let count : length (texts_on gave (Some 2) (before 18 two_log)) ≡ 1 = refl in
      omega (arith, one, count)),
)

pub row_left_out : FirstBook two_log (took ∷ gave ∷ []) → ⊥
row_left_out f =
    let s : (x : Life) × Contains (took ∷ gave ∷ []) x × IsSentIn two_log 18 zeros_sent x = f.sent 18 zeros_sent (inr (inl (refl, refl))) refl in
    let other : (s.0 ≡ took → ⊥) × (s.0 ≡ gave → ⊥) = two_of s.0 s.2 in
    each_in (λ (y : Life). s.0 ≡ y → ⊥) (took ∷ gave ∷ []) s.0 s.1 (other.0, (other.1, tt)) refl

-- ---- the book in which nothing is left out

abbrev OnZero : Crossing → Type 0
OnZero (crossing.Out m) = (m.flow.link.0 == 0) ≡ true
OnZero c = Unit {0}

none_off : (log : List Crossing) (place : ℕ) (m : HostMessage) → Each OnZero log → CrossedAt place (crossing.Out m) log → (m.flow.link.0 == 0) ≡ false → ⊥
none_off [] place m z i off = i
none_off (c ∷ log) place m z (inl i) off = let on : (m.flow.link.0 == 0) ≡ true = subst OnZero (sym i.0) z.0 in let both : true ≡ false = sym on ∙ off in cc
none_off (c ∷ log) place m z (inr i) off = none_off log place m z.1 i off

rest_on : Each OnZero (drop 2 sent_log)
rest_on = (tt, (tt, (refl, (tt, (tt, (tt, (refl, (tt, (refl, (tt, (tt, (refl, (tt, (tt, (refl, tt)))))))))))))))

its : IsSentIn sent_log 15 eight_sent gave
its = record {
  sending = refl;
  flow = ap (λ (o : Option ℕ). option_map (flow_of gave) o) gave_sent;
  own = omega arith;
  partner = omega arith;
  counted = subst (λ (o : Option ℕ). length (texts_on gave o (before 15 sent_log)) < 1) (sym gave_sent) (omega arith);
}

sent_by : (place : ℕ) (m : HostMessage) → CrossedAt place (crossing.Out m) sent_log → (m.flow.link.0 == 0) ≡ false → (x : Life) × Contains (took ∷ gave ∷ []) x × IsSentIn sent_log place m x
sent_by place m (inl i) off = absurd (let both : crossing.Out m ≡ crossing.In eight_sent = i.0 in cc)
sent_by place m (inr (inl i)) off =
    let same : m ≡ eight_sent = cc in
    (gave, (1, omega arith, refl), subst (λ (n : ℕ). IsSentIn sent_log n m gave) (sym i.1) (subst (λ (n : HostMessage). IsSentIn sent_log 15 n gave) (sym same) its))
sent_by place m (inr (inr i)) off = absurd (none_off (drop 2 sent_log) place m rest_on i off)

pub row_sent : FirstBook sent_log (took ∷ gave ∷ [])
row_sent = record { apart = (((λ share. absurd (let both : true ≡ false = share.0 in cc)), tt), (tt, tt)); sent = sent_by }
