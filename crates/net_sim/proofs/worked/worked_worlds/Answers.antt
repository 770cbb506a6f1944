use Rattle.net_sim.proofs.Common.{◌≡◌, true, false, List, [], ◌∷◌, ◌++◌, refl, ap, sym, subst, Crossing, HostMessage, first, second, AreOfOneEvent, AreStops, message}
use Rattle.interface.specs.declared.crossing.Crossing.TheVariants as crossing
use Rattle.host_services.specs.Turns as turns
use Rattle.sockets.specs.Requests.{refusal, served_notices}
use Rattle.sockets.specs.Sending.{next_out}
use Rattle.net_sim.proofs.worked.worked_worlds.Goals as goal

-- two messages that went out are of two events
first_of : Crossing → List Crossing → Crossing
first_of d [] = d
first_of d (c ∷ cs) = c

two_out : (m n : HostMessage) (cs : List Crossing) → crossing.Out m ∷ crossing.Out n ∷ [] ≡ cs ++ [] → AreOfOneEvent cs → ⊥
unfolding first_of
two_out m n [] e one = cc
two_out m n (c ∷ []) e one = cc
two_out m n (c ∷ d ∷ cs) e one =
    let same : crossing.Out m ≡ c = ap (first_of (crossing.Out m)) e in
    subst (λ (x : Crossing). AreStops (x ∷ d ∷ cs)) (sym same) one

pub returns : goal.returns
unfolding refusal next_out served_notices turns.services_told
returns c = record {
  nobody = λ r new h. h;
  is_down = λ r new h. h;
  refused = λ r new h. h;
  stopped = λ r new h. h;
  lacks_one = record {
    unbooked = crossing.Out (message first second 0) ∷ [];
    book = refl;
    all = λ running. absurd (let no : true ≡ false = running in cc);
    one = tt;
  };
  lacks_stops = record {
    unbooked = crossing.Down second ∷ crossing.Down first ∷ [];
    book = refl;
    all = λ running. absurd (let no : true ≡ false = running in cc);
    one = tt;
  };
  lacks_two = λ b. two_out (message second first 0) (message first second 0) b.unbooked b.book b.one;
  nothing = λ r new h. h;
  stops = (refl, refl);
  starts = refl;
  both = refl;
  anew = refl;
  asked = refl;
  served = (refl, refl);
}
