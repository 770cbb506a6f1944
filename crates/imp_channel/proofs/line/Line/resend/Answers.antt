use Rattle.std.proofs.Common.{◌≡◌, ◌<◌, Result, Ok, Err, OnErr, List, length, rules, subst}
use Rattle.imp_channel.specs.declared.channel.Channel.{Channel}
use Rattle.imp_channel.specs.Holding.{packets_in}
use Rattle.imp_channel.proofs.Calls.{busy_counted}
use Rattle.imp_channel.proofs.line.Line.resend.Goals as goal

on_err : {T E : Type 0} (r : Result T E) (P : Type 0) → P → OnErr r P
on_err (Ok x) P holds = tt
on_err (Err e) P holds = holds

pub returns-in_err-push_frame-clause-memory : goal.returns-in_err-push_frame-clause-memory
returns-in_err-push_frame-clause-memory c =
    let busy : 0 < length (packets_in c.deref-channel-items.result.now) = busy_counted c.deref-channel-items.result.now c.loop-c.c c.channel-item.result c.loop-c-test.true c.channel-item.is c.in_err-push_frame.ensures.memory in
    let same : c.deref-channel-items.result.now ≡ c.args.self.now.sending = search rules in
    let P : List Channel → Type 0 = λ chs. 0 < length (packets_in chs) in
    on_err _ _ (subst P same busy)
