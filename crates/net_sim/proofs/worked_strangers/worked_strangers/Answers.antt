use Rattle.net_sim.proofs.Common.{◌≡◌, inl, inr, true, false, [], ◌∷◌, List, Option, Some, None, Ok, Err, refl, ap, sym, ◌∙◌, Seen, Host, first, message, CarrierFault, WorldFault, WorldState}
use Rattle.std.proofs.Common.{Result}
use Rattle.interface.specs.declared.crossing.Crossing.TheVariants as crossing
use Rattle.net_sim.specs.Steps.{OutEnds, StrangersFault, absent_in}
use Rattle.sockets.specs.Worked.{third}
use Rattle.net_sim.specs.declared.strangers.StrangersFault.TheVariants as absent
use Rattle.net_sim.specs.WorkedStrangers.{IsMadeNaming, IsRefusedNaming, beside_third, fifth, fourth, three_seen}
use Rattle.net_sim.proofs.worked_strangers.worked_strangers.Goals as goal

ends : (a : Result (Unit {0}) CarrierFault) (c : Seen) (r : Result (Unit {0}) WorldFault) (new : WorldState Seen) → a ≡ Ok tt → OutEnds (message third first 2) a c beside_third r new → new.stopped ≡ false
    → (new.kept.book.crossings ≡ crossing.Out (message third first 2) ∷ []) × (new.kept.book.notices ≡ [])
ends (Ok done) c r new is (inl d) on = (ap (λ (w : WorldState Seen). w.kept.book.crossings) d.1, ap (λ (w : WorldState Seen). w.kept.book.notices) d.1)
ends (Ok done) c r new is (inr h) on = absurd (let no : true ≡ false = sym h.stopped ∙ on in cc)
ends (Err e) c r new is h on = absurd (cc)

pub returns-clause-written : goal.returns-clause-written
returns-clause-written c r new h on = ends h.0 h.1 r new h.2.0 h.3 on

refuses : (named : List Host) (h : Host) → absent_in three_seen.hosts named ≡ Some h → IsRefusedNaming named h
refuses named h is (Ok s) opens = absurd (let no : None ≡ Some h = sym opens.0 ∙ is in cc)
refuses named h is (Err (absent.NoSuch g)) opens = ap for (sym opens ∙ is) where
  for : Option Host → Result (WorldState Seen) StrangersFault
  for None = Err absent.OutOfMemory
  for (Some x) = Err (absent.NoSuch x)
refuses named h is (Err absent.OutOfMemory) opens = absurd (let no : None ≡ Some h = sym opens ∙ is in cc)

makes : IsMadeNaming (third ∷ []) beside_third
makes (Ok s) opens = inl (ap (λ (x : WorldState Seen). Ok x) opens.1)
makes (Err (absent.NoSuch g)) opens = absurd (let no : None ≡ Some g = opens in cc)
makes (Err absent.OutOfMemory) opens = inr refl

pub returns-clause-refused : goal.returns-clause-refused
returns-clause-refused c = refuses (third ∷ fourth ∷ fifth ∷ []) fourth refl

pub returns-clause-made : goal.returns-clause-made
returns-clause-made c = makes
