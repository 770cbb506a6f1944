-- Frames that are put on full lines.
use Rattle.subnet.proofs.Common.{set-get_or, nat_tests, Frame, Port, on_port, resent_by, Wire, wire_at, no_wire, followed_by, line_from, put_on, put_all}
use Rattle.std.proofs.Common.{◌≡◌, ℕ, ◌≤◌, ◌==◌, Bool, true, false, List, [], ◌∷◌, ◌++◌, length, map, set, nat_lt, if◌then◌else◌, Some, None, refl, ap, sym, ◌∙◌, arith}
use Rattle.imp_channel.specs.Line as line
use Rattle.subnet.specs.Inside.Losing.{LosesAll, LosesAllAt}

not_followed : (frames : List Frame) (f : Frame) → 256 ≤ length frames → followed_by frames f ≡ frames
not_followed frames f full =
    let test : nat_lt (length frames) 256 ≡ false = grind (arith, nat_tests, full) in
    ap (λ (b : Bool). if b then frames ++ f ∷ [] else frames) test

-- a line that is full the way that leads from this IMP
pub forward_full : (i : ℕ) (w : Wire) → (w.a == i) ≡ true → 256 ≤ length w.forward → LosesAll i w
forward_full i w from full = λ f.
    ap (λ (b : Bool). if b then record w { forward = followed_by w.forward f } else record w { back = followed_by w.back f }) from
    ∙ ap (λ (frames : List Frame). record w { forward = frames }) (not_followed _ f full)

pub back_full : (i : ℕ) (w : Wire) → (w.a == i) ≡ false → 256 ≤ length w.back → LosesAll i w
back_full i w from full = λ f.
    ap (λ (b : Bool). if b then record w { forward = followed_by w.forward f } else record w { back = followed_by w.back f }) from
    ∙ ap (λ (frames : List Frame). record w { back = frames }) (not_followed w.back f full)

-- the line at a port
pub lost_there : (lines : List Wire) (i k l : ℕ) → line_from 0 lines i k ≡ Some l → LosesAll i (wire_at lines l) → LosesAllAt lines i k
lost_there lines i k l there full = λ f.
    ap (put_on lines i f) there
    ∙ ap (set lines l) (full f)
    ∙ set-get_or lines l no_wire

pub lost_nowhere : (lines : List Wire) (i k : ℕ) → line_from 0 lines i k ≡ None → LosesAllAt lines i k
lost_nowhere lines i k none = λ f. ap (put_on lines i f) none

-- all frames of a port
all_lost : (lines : List Wire) (i k : ℕ) (frames : List Frame) → LosesAllAt lines i k → put_all lines i (map (on_port k) frames) ≡ lines
all_lost lines i k [] full = refl
all_lost lines i k (f ∷ frames) full =
    ap (λ (ws : List Wire). put_all ws i (map (on_port k) frames)) (full f) ∙ all_lost lines i k frames full

pub resent_lost : (lines : List Wire) (i k : ℕ) (port : Port) → LosesAllAt lines i k → lines ≡ put_all lines i (resent_by k port)
resent_lost lines i k port full = by port.up refl where
  by : (up : Bool) → port.up ≡ up → lines ≡ put_all lines i (resent_by k port)
  by true up = sym (ap (λ (b : Bool). put_all lines i (if b then map (on_port k) (line.resent port.line) else [])) up ∙ all_lost lines i k (line.resent port.line) full)
  by false up = sym (ap (λ (b : Bool). put_all lines i (if b then map (on_port k) (line.resent port.line) else [])) up)
