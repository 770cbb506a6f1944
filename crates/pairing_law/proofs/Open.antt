-- Two open ends are of one connection.
use Rattle.std.proofs.Common.{◌≡◌, ℕ, ◌≤◌, Bool, true, false, Some, refl, sym, subst, ◌∙◌, arith}
use Rattle.std.proofs.lemmas.Option.{same_Some}
use Rattle.pairing_law.specs.Marks.{Asks}
use Rattle.pairing_law.specs.Sides.{Side}
use Rattle.pairing_law.specs.Partners.{IsOpen}
use Rattle.pairing_law.proofs.Words.{asks_said}
use Rattle.pairing_law.proofs.Balance.{Balanced, none_some}
use Rattle.pairing_law.proofs.Joint.{Half, Joined}

-- a host with an open end stays, so the end is what its words say
open_balanced : (floor other own partner : ℕ) (a b : Side) → Half floor other a b → IsOpen own partner a.end → Balanced a.said a.heard a.end
open_balanced floor other own partner a b h o = by a.stays refl where
  by : (v : Bool) → a.stays ≡ v → Balanced a.said a.heard a.end
  by true e = subst (λ x. Balanced a.said a.heard x) (h.same e) h.balanced
  by false e = absurd (none_some _ partner (h.alone e) o.1)

-- the partner's request of an open end was said in its own connection, so the other end doesn't lag
not_behind : (floor other own partner : ℕ) (a b : Side) (h : Half floor other a b) (s : Balanced a.said a.heard a.end) (t : Balanced b.said b.heard b.end) → IsOpen own partner a.end → s.now ≤ t.now
not_behind floor other own partner a b h s t o = t.within s.now partner (asks_said s.now partner _ b.said h.older (s.partner_at partner o.1))

-- so each is the other's partner
partner_is_own : (floor other own partner : ℕ) (a b : Side) (h : Half floor other a b) (s : Balanced a.said a.heard a.end) (t : Balanced b.said b.heard b.end) → s.now ≡ t.now → IsOpen own partner a.end → b.end.asked ≡ Some partner
partner_is_own floor other own partner a b h s t same o =
    t.asked_is partner (subst (λ (k : ℕ). Asks k partner b.said) same (asks_said s.now partner _ b.said h.older (s.partner_at partner o.1)))

pub open_match : (a b : Side) (p q r s : ℕ) → Joined a b → IsOpen p q a.end → IsOpen r s b.end → (q ≡ r) × (s ≡ p)
open_match a b p q r s j one two =
    let here : Balanced a.said a.heard a.end = open_balanced _ _ p q a b j.here one in
    let there : Balanced b.said b.heard b.end = open_balanced _ _ r s b a j.there two in
    let ahead : here.now ≤ there.now = not_behind _ _ p q a b j.here here there one in
    let back : there.now ≤ here.now = not_behind _ _ r s b a j.there there here two in
    let same : here.now ≡ there.now = omega (arith, ahead, back) in (
      same_Some q r (sym (partner_is_own _ _ p q a b j.here here there same one) ∙ two.0),
      same_Some s p (sym (partner_is_own _ _ r s b a j.there there here (sym same) two) ∙ one.0),
    )
