-- Events that don't leave a world as it is: something crosses by them, or memory runs out.
use Rattle.net_sim.proofs.Common.{◌≡◌, ◌⊎◌, inl, inr, suc, true, false, None, List, ◌∷◌, length, Ok, Some, Option, arith, ap, subst, ◌∙◌, Calls, crossing_of, Host, CarrierFault, Crossing, Inbound, HostMessage, Notice, accepted, NcpState, offered, crossed, WorldState, WorldFault, Does, Halts, OfferEnds, OfferGives, TakeEnds, noticed, services_of, stops, world_moved}
use Rattle.std.proofs.Common.{is_some, Result}
use Rattle.interface.specs.declared.crossing.Crossing.TheVariants as crossing
use Rattle.net_sim.specs.World.{turn_of}
use Rattle.net_sim.proofs.Books.Booked.{heard_crossings}
use Rattle.net_sim.proofs.Hosts.Calming.{no_halt}

-- a world in which something crosses isn't as it was
moved_differs : {C : Type 0} (c : C) (h : Host) (x : Crossing) (turn : NcpState × List Notice) (w : WorldState C) → w ≡ world_moved c h x turn w → ⊥
moved_differs {C} c h x turn w same =
    let grown : (world_moved c h x turn w).kept.book.crossings ≡ x ∷ w.kept.book.crossings = heard_crossings h turn.1 (turn_of h (noticed w) (services_of h w.services) turn).1.asked (crossed x w.kept) in
    let as_long : length w.kept.book.crossings ≡ suc (length w.kept.book.crossings) = ap (λ (v : WorldState C). length v.kept.book.crossings) same ∙ ap (λ (cs : List Crossing). length cs) grown in
    absurd (omega (arith, as_long))

does_or_halts : {C : Type 0} (calls : Calls C) (c : C) (h : Host) (x : Crossing) (turn : NcpState × List Notice) (w : WorldState C) (r : Result (Unit {0}) WorldFault)
    → Does (world_moved c h x turn w) r w ⊎ Halts c w r w → stops r ≡ false → ⊥
does_or_halts calls c h x turn w r ends continues = elim ends [
  | inl d ↦ moved_differs c h x turn w d.1
  | inr k ↦ no_halt calls c w r w continues k
]

module _ {C : Type 0} (calls : Calls C) where
  -- the carrier takes each message
  pub taken_moves : (h : Host) (s : NcpState) (o : Option HostMessage) (w : WorldState C) (r : Result (Unit {0}) WorldFault) → is_some o ≡ true
      → ((m : HostMessage) (c d : C) (answer : Result (Unit {0}) CarrierFault) → calls.offers c m answer d → answer ≡ Ok tt) → OfferGives calls h s o w r w → stops r ≡ false → ⊥
  taken_moves h s None w r some takes gives continues = absurd (cc)
  taken_moves h s (Some m) w r some takes (inl k) continues = no_halt calls w.carrier w r w continues k
  taken_moves h s (Some m) w r some takes (inr t) continues =
      let ends : OfferEnds h s m (Ok tt) t.1 w r w = subst (λ (a : Result (Unit {0}) CarrierFault). OfferEnds h s m a t.1 w r w) (takes m w.carrier t.1 t.0 t.2) t.3 in
      does_or_halts calls t.1 h (crossing.Out m) (offered s (length w.kept.book.crossings)) w r ends continues

  -- the carrier gives this
  pub given_moves : (h : Host) (s : NcpState) (i : Inbound) (c : C) (answer : Result (Option Inbound) CarrierFault) (w : WorldState C) (r : Result (Unit {0}) WorldFault) → answer ≡ Ok (Some i)
      → TakeEnds h s answer c w r w → stops r ≡ false → ⊥
  given_moves h s i c answer w r is ends continues =
      let moves : TakeEnds h s (Ok (Some i)) c w r w = subst (λ (a : Result (Option Inbound) CarrierFault). TakeEnds h s a c w r w) is ends in
      does_or_halts calls c h (crossing_of i) (accepted s i (length w.kept.book.crossings)) w r moves continues
