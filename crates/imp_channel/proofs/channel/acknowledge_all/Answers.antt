use Rattle.std.specs.Prelude.{if◌then◌else◌}
use Rattle.std.proofs.Common.{arith, true, false, Bool, cond, length, get_or, ℕ, ◌+◌, ◌<◌, ◌≡◌, ◌∙◌, ap}
use Rattle.std.proofs.lemmas.Grind.{common_steps}
use Rattle.imp_channel.proofs.Acknowledging.{bits_changed, bits_kept, freed_set, none_more, one_more}
use Rattle.imp_channel.proofs.channel.acknowledge_all.Goals as goal
use Rattle.imp_channel.proofs.channel.acknowledge_all.Goals.{then-acknowledge, else-acknowledge}

pub loop-c-preserved : goal.loop-c-preserved
loop-c-preserved c =
    let at : ℕ = c.loop-c.c in
    let within : at < length c.loop-c.channels = omega (arith, c.loop-c-test.true, c.loop-c.auto.channels) in
    let bit_by : (gone : Bool) → c.acknowledge.result ≡ gone → c.acknowledge.new.self.bit ≡ (if gone then get_or c.args.acks.now at false else get_or c.loop-c.bits at false) =
    λ gone is. c.acknowledge.ensures.bit ∙ ap (λ (g : Bool). if g then get_or c.args.acks.now at false else get_or c.loop-c.bits at false) is in
    let more : c.if-acknowledge.freed ≡ c.loop-c.freed + cond c.acknowledge.result 1 0 = elim c.if-acknowledge.branch [
      | then-acknowledge w ↦ one_more c.acknowledge.result c.loop-c.freed c.if-acknowledge.freed w.if-acknowledge.true w.freed-is
      | else-acknowledge w ↦ none_more c.acknowledge.result c.loop-c.freed c.if-acknowledge.freed w.if-acknowledge.false w.freed-is
    ] in
    record {
      channels = grind (arith, common_steps);
      bits = elim c.if-acknowledge.branch [
        | then-acknowledge w ↦ bits_changed c.loop-c.bits c.if-acknowledge.bits c.loop-c.channels at c.acknowledge.new.self _ c.loop-c.invariant.bits (bit_by true w.if-acknowledge.true) w.bits-is
        | else-acknowledge w ↦ bits_kept c.loop-c.bits c.if-acknowledge.bits c.loop-c.channels at c.acknowledge.new.self c.loop-c.invariant.bits within (bit_by false w.if-acknowledge.false) w.bits-is
      ];
      freed = freed_set c.loop-c.channels at c.index-channels-c.result c.acknowledge.new.self c.acknowledge.result c.loop-c.freed c.if-acknowledge.freed _ within c.acknowledge.ensures.freed more c.loop-c.invariant.freed;
    }
