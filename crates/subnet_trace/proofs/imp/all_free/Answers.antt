use Rattle.subnet_trace.proofs.Common.{PacketFields, Channel, channel_text}
use Rattle.std.proofs.Common.{◌≡◌, ◌++◌, ◌+◌, ◌∷◌, [], ◌<◌, ◌∙◌, List, None, Option, ap, arith, codes, false, is_some, length, map, sym, take, ℕ}
use Rattle.std.proofs.lemmas.List.{length-set, map-append, take_all, take_more, take_more_set}
use Rattle.subnet_trace.proofs.Members.{free_text}
use Rattle.subnet_trace.proofs.imp.all_free.Goals as goal

pub loop-place-preserved : goal.loop-place-preserved
loop-place-preserved c =
    let f : Channel → List ℕ = λ channel. codes "," ++ channel_text channel in
    let channels : List Channel = c.args.channels.now in
    let place : ℕ = c.loop-place.place in
    let x : Channel = c.index-channels-place.result in
    let there : place < length channels = omega (arith, c.if-channels-ne-CHANNELS.false, c.loop-place-test.true) in
    let within : place < length c.loop-place.texts = omega (arith, c.loop-place.invariant.size, c.loop-place-test.true) in
    let row : c.free_octets.result ≡ f x = c.free_octets.ensures ∙ ap (λ (v : List ℕ). codes "," ++ v) (free_text x.bit x.packet (sym c.is_some.ensures ∙ c.if-is_some.false)) in
    record {
      texts =
          (take_more_set c.loop-place.texts place c.free_octets.result within
          ∙ ap (λ (v : List (List ℕ)). v ++ c.free_octets.result ∷ []) c.loop-place.invariant.texts
          ∙ ap (λ (v : List ℕ). map f (take place channels) ++ v ∷ []) row
          ∙ sym (map-append f (take place channels) (x ∷ []))
          ∙ ap (λ (v : Channel). map f (take place channels ++ v ∷ [])) c.index-channels-place.is
          ∙ ap (λ (v : List Channel). map f v) (sym (take_more channels place x there)));
      size = length-set c.loop-place.texts place c.free_octets.result ∙ c.loop-place.invariant.size;
    }

pub returns : goal.returns
returns c =
    let f : Channel → List ℕ = λ channel. codes "," ++ channel_text channel in
    let place : ℕ = c.loop-place.place in
    sym (take_all place c.loop-place.texts (omega (arith, c.loop-place.invariant.size, c.loop-place-test.false)))
    ∙ c.loop-place.invariant.texts
    ∙ ap (λ (v : List Channel). map f v) (take_all place c.args.channels.now (omega (arith, c.if-channels-ne-CHANNELS.false, c.loop-place-test.false)))
