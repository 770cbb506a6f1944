-- Looking through live frames.
use Rattle.subnet.proofs.Common.{list_any, carried_by, Frame, packets_on, carries, Wire}
use Rattle.std.proofs.Common.{◌≡◌, Bool, true, false, ◌||◌, ◌&&◌, List, [], ◌∷◌, ◌++◌, length, refl, ap, ◌∙◌, arith}
use Rattle.subnet.specs.declared.seeking.Sought.{Sought}
use Rattle.subnet.specs.Inside.Seeking.{packet_is, frame_has}

-- nothing is under way where no frame is
pub none_under_way : (q : Sought) (frames : List Frame) → length frames ≡ 0 → list_any (frame_has q) frames ≡ false
none_under_way q [] none = refl
none_under_way q (f ∷ frames) none = absurd (omega (arith, none))

or_assoc : (a b c : Bool) → (a || (b || c)) ≡ ((a || b) || c)
or_assoc true b c = refl
or_assoc false b c = refl

pub any_append : {X : Type 0} (test : X → Bool) (xs ys : List X) → list_any test (xs ++ ys) ≡ (list_any test xs || list_any test ys)
any_append test [] ys = refl
any_append test (x ∷ xs) ys = ap (λ (b : Bool). test x || b) (any_append test xs ys) ∙ or_assoc (test x) (list_any test xs) (list_any test ys)

any_frames : (q : Sought) (frames : List Frame) → list_any (packet_is q) (packets_on frames) ≡ list_any (frame_has q) frames
any_frames q [] = refl
any_frames q (f ∷ frames) = any_append (packet_is q) (carried_by f.content) (packets_on frames) ∙ ap (λ (b : Bool). frame_has q f || b) (any_frames q frames)

pub carries_is : (q : Sought) (w : Wire) → carries (packet_is q) w ≡ (list_any (frame_has q) w.forward || list_any (frame_has q) w.back)
carries_is q w = any_append (packet_is q) (packets_on w.forward) (packets_on w.back) ∙ (ap (λ (b : Bool). b || list_any (packet_is q) (packets_on w.back)) (any_frames q w.forward) ∙ ap (λ (b : Bool). list_any (frame_has q) w.forward || b) (any_frames q w.back))
