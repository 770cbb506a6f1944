-- The end of a life keeps the link that it has, whatever its peer sends.
use Rattle.mixed_worlds.proofs.Common.{◌≡◌, ℕ, ◌<◌, Bool, true, false, List, ◌∷◌, Option, Some, None, sym, ◌∙◌, arith, Host, Command, Order, orders_of, Entry, Life, Asked, Crossed, Moment, places, program, IsMixed}
use Rattle.world_keeps_lives.proofs.lemmas.{Ends, Goes, Hears, Quiet, Begins}
use Rattle.mixed_worlds.proofs.Moments.{Orders}
use Rattle.interface.specs.declared.crossing.Crossing.TheVariants as crossing
use Rattle.mixed_worlds.proofs.EndMoments.{Moved, moved_ends}

-- whatever end has the socket and the stamps of a life has this link
abbrev pub Bound : Life → Option ℕ → Entry → Type 0
Bound x link e =
    e.mine ≡ true → e.own ≡ x.socket → e.asked ≡ Some x.own_stamp → e.partner ≡ Some x.partner_stamp
    → e.link ≡ link

module _ (x : Life) (link : Option ℕ) where
  bound_quiet : (e f : Entry) → Quiet e f → Bound x link e → Bound x link f
  bound_quiet e f q b = λ mine own asked partner. q.link
      ∙ b (sym q.mine ∙ mine) (sym q.own ∙ own) (sym q.asked ∙ asked) (sym q.partner ∙ partner)

  bound_fresh : (e : Entry) → e.mine ≡ true → e.asked ≡ None → e.partner ≡ None → Bound x link e
  bound_fresh e mine none other = λ m own asked partner.
      absurd (let clash : None ≡ Some x.own_stamp = sym none ∙ asked in cc)

  begins : Begins (Bound x link)
  begins = record { fresh = bound_fresh; refused = λ o f s m. absurd (let clash : false ≡ true = m in cc) }

  module _ (stamp : ℕ) (own : x.own_stamp < stamp) (partner : x.partner_stamp < stamp) where
    later_own : {A : Type 0} → Some stamp ≡ Some x.own_stamp → A
    later_own e = absurd (let same : stamp ≡ x.own_stamp = cc in omega (arith, own, same))

    later_partner : {A : Type 0} → Some stamp ≡ Some x.partner_stamp → A
    later_partner e = absurd (let same : stamp ≡ x.partner_stamp = cc in omega (arith, partner, same))

    hears : (orders : List Order) → Hears (Bound x link) stamp orders
    hears orders = record {
      begins = begins;
      rts = λ o f l e there even odd is at b. λ m w asked p. later_partner p;
      str = λ o f l e there odd even is at b. λ m w asked p. later_partner p;
    }

    goes : (cs : List Command) → Goes (Bound x link) stamp cs
    goes cs = record {
      rts = λ o f l e there even is at b. λ m w asked p. later_own asked;
      str = λ o f l e there odd is at b. λ m w asked p. later_own asked;
    }

module _ (orders : Orders) (strange : Host → Bool) (hosts : List Host) (a : Host) (off : strange a ≡ false) (x : Life)
    (link : Option ℕ) (p : Host) where
  pub stays_bound : (y : Moment) (moments : List Moment) → IsMixed strange hosts (y ∷ moments)
      → x.own_stamp < places moments → x.partner_stamp < places moments
      → Ends (Bound x link) p (program a moments) → Ends (Bound x link) p (program a (y ∷ moments))
  stays_bound y moments mixed own partner old =
      moved_ends orders strange hosts a off p moments (Bound x link) (bound_quiet x link) y mixed (by y) old where
        by : (y : Moment) → Moved orders strange hosts a off p moments (Bound x link) y
        by (Crossed (crossing.Out m)) = λ flow n reads. goes x link (places moments) own partner _
        by (Crossed (crossing.In m)) = λ flow. hears x link (places moments) own partner (orders_of m.text)
        by (Asked g r) = begins x link
        by (Crossed c) = tt
