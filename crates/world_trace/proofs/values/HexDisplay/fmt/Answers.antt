use Rattle.world_trace.proofs.Common.{◌++◌, ◌+◌, ap₂, drop, rules, ◌∙◌, has_written_append, has_written_of_eq, encode_upper}
use Rattle.world_trace.proofs.Lists.{hex_all, hex_more}
use Rattle.world_trace.proofs.values.HexDisplay.fmt.Goals as goal

pub loop-octet-preserved : goal.loop-octet-preserved
loop-octet-preserved g c =
    let (front, whole, wrote) = c.loop-octet.invariant in
    let octets = c.args.self.now.0.now in
    let i = c.loop-octet.octet-index in (
      front ++ (c.digit.result.now ++ c.digit-in-loop-octet.result.now),
      ap₂ (λ a b. (front ++ (a ++ b)) ++ encode_upper (drop (i + 1) octets)) c.digit.ensures c.digit-in-loop-octet.ensures ∙ hex_more octets i front c.loop-octet-test.true whole,
      λ plain.
          let before = wrote plain in
          let high = c.write_str.ensures.writes before.plain (search rules) in
          let low = c.write_str-in-loop-octet.ensures.writes high.plain (search rules) in
          has_written_append _ _ _ _ _ _ before (has_written_append _ _ _ _ _ _ high low),
    )

pub returns-clause-writes : goal.returns-clause-writes
returns-clause-writes g c = λ plain ok.
    let (front, whole, wrote) = c.loop-octet.invariant in
    has_written_of_eq _ _ _ _ _ (hex_all c.args.self.now.0.now c.loop-octet.octet-index front c.loop-octet-test.false whole) (wrote plain)
