use Rattle.std.proofs.Common.{◌≤◌, ◌*◌, ◌+◌, arith, ap, sym, ◌∙◌, refl, length}
use Rattle.std.proofs.lemmas.List.{take_all, length-set}
use Rattle.hex.specs.Hex.{encode_upper, encode_with}
use Rattle.script.proofs.Digits.{spelled_more}
use Rattle.script.proofs.hexadecimal.spelled_octets.Goals as goal

pub loop-i-init : goal.loop-i-init
unfolding encode_with
loop-i-init c = record { spelled = refl; size = omega (arith, c.in_ok-octets.octets.ok.1, c.in_ok-octets.ensures.len); half = refl }

pub loop-i-preserved : goal.loop-i-preserved
loop-i-preserved c = record {
  spelled =
      spelled_more c.args.word.now c.loop-i.octets.items c.loop-i.i (16 * c.value_of.result + c.value_of-in-loop-i.result) c.value_of.result c.value_of-in-loop-i.result
      (omega (arith, c.loop-i-test.true)) (omega (arith, c.loop-i-test.true, c.loop-i.invariant.size)) c.value_of.ensures.small c.value_of-in-loop-i.ensures.small refl
      c.value_of.ensures.same c.value_of-in-loop-i.ensures.same c.loop-i.invariant.spelled;
  size = length-set c.loop-i.octets.items c.loop-i.i (16 * c.value_of.result + c.value_of-in-loop-i.result) ∙ c.loop-i.invariant.size;
  half = refl;
}

pub returns : goal.returns
returns c =
    let end : length c.args.word.now ≤ 2 * c.loop-i.i = omega (arith, c.loop-i-test.false, c.requires.even) in
    let all : length c.loop-i.octets.items ≤ c.loop-i.i = omega (arith, c.loop-i-test.false, c.loop-i.invariant.size) in
    sym (take_all (2 * c.loop-i.i) c.args.word.now end) ∙ sym c.loop-i.invariant.spelled ∙ ap encode_upper (take_all c.loop-i.i c.loop-i.octets.items all)
