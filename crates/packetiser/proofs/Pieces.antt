-- The pieces of a body.
use Rattle.std.proofs.Common.{◌≡◌, ℕ, ◌+◌, ◌*◌, ◌<◌, ◌≤◌, Bool, true, false, List, length, take, drop, min, ap, ◌∙◌, arith, length-append, ◌-◌, length-drop, replicate, ◌∷◌, ◌==◌, eq-eqb, ◌≢◌, map, ◌++◌, []}
use Rattle.std.proofs.lemmas.List.{length-take, length-replicate, take_min, drop-take}
use Rattle.std.proofs.lemmas.List.FromFn.{map-range_with_len_more}
use Rattle.interface.specs.declared.address.Flow.{Flow}
use Rattle.bit_messages.specs.Body.{body, filling}
use Rattle.packetiser.specs.PacketFields.{IsPiece}
use Rattle.packetiser.specs.Pieces.{piece_count, piece, IsBodySize, piece_packet, places}

-- a body has the size of one
pub body_sized : (text : List Bool) → length text ≤ 8063 → IsBodySize (length (body text))
body_sized text short =
    let size : length (body text) ≡ length text + 1 + filling (length text) = omega (arith, length-append text (true ∷ replicate (filling (length text)) false), length-replicate (filling (length text)) false) in
    record { some = omega arith; units = omega arith; most = omega arith }

pub few_pieces : (w : List Bool) → IsBodySize (length w) → piece_count w ≤ 8
few_pieces w h = omega (arith, h.most)

length-piece : (w : List Bool) (place : ℕ) → length (piece w place) ≡ min 1008 (length w - 1008 * place)
length-piece w place = length-take 1008 (drop (1008 * place) w) ∙ ap (λ (n : ℕ). min 1008 n) (length-drop (1008 * place) w)

-- a piece is one by its size
pub piece_fits : (w : List Bool) (place : ℕ) → IsBodySize (length w) → place < piece_count w → IsPiece place (place + 1 == piece_count w) (length (piece w place))
piece_fits w place h there =
    let size : length (piece w place) ≡ min 1008 (length w - 1008 * place) = length-piece w place in
    record {
      some = omega (arith, h.some);
      most = omega arith;
      units = omega (arith, h.units);
      full = λ more. (let ne : place + 1 ≢ piece_count w = λ e. let same : (place + 1 == piece_count w) ≡ true = eq-eqb (place + 1) (piece_count w) e in absurd (cc) in omega arith);
      end = λ e. eq-eqb (place + 1) (piece_count w) (omega (arith, h.most));
    }

-- a piece by its bounds
pub piece_between : (w : List Bool) (place : ℕ) → drop (1008 * place) (take (min (1008 * place + 1008) (length w)) w) ≡ piece w place
piece_between w place = ap (λ (b : List Bool). drop (1008 * place) b) (take_min (1008 * place + 1008) w) ∙ drop-take (1008 * place) 1008 w

-- one packet more
pub packets_more : (flow : Flow) (number : ℕ) (w : List Bool) (place : ℕ)
    → map (piece_packet flow number w) (places (place + 1)) ≡ map (piece_packet flow number w) (places place) ++ piece_packet flow number w place ∷ []
packets_more flow number w place = map-range_with_len_more (piece_packet flow number w) 0 place place (omega arith)
