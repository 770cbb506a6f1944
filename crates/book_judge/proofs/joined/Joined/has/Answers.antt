use Rattle.std.proofs.Common.{ℕ, ◌==◌, ap}
use Rattle.book_judge.proofs.Crossed.Streamed.{else_counted, none_after, no_stream, nothing_counted, past_end, piece_there, stream_there}
use Rattle.book_judge.proofs.joined.Joined.has.Goals as goal

pub returns-in-Some-get : goal.returns-in-Some-get
returns-in-Some-get c = λ comes log h. c.has.ensures comes c.args.flow.now log
    (stream_there comes log c.args.self.now c.args.flow.now c.get.result c.in-Some.number c.in-Some-get.stream.now h c.get.ensures c.in-Some.is
    (piece_there c.args.self.now.streams.items c.deref.result.now c.in-Some.number c.in-Some-get.stream.now c.deref.ensures.value c.in-Some-get.ensures.lookup.0 c.in-Some-get.ensures.lookup.1))

pub returns-in-None-get : goal.returns-in-None-get
returns-in-None-get c = λ comes log h k. no_stream comes log c.args.self.now c.args.flow.now c.get.result c.in-Some.number h c.get.ensures c.in-Some.is
    (past_end c.args.self.now.streams.items c.deref.result.now c.in-Some.number c.deref.ensures.value c.in-None-get.ensures.lookup.0)

pub returns-then-count-eq0 : goal.returns-then-count-eq0
returns-then-count-eq0 c = λ comes log h.
    nothing_counted comes c.args.count _ c.args.bits.now _ (none_after comes log c.args.self.now c.args.flow.now c.get.result c.args.since h c.get.ensures c.in-None.is) c.if-count-eq0.true (ap (λ (n : ℕ). n == 0) c.len.ensures)

pub returns-else-count-eq0 : goal.returns-else-count-eq0
returns-else-count-eq0 c = λ comes log h.
    else_counted comes c.args.count _ c.args.bits.now (none_after comes log c.args.self.now c.args.flow.now c.get.result c.args.since h c.get.ensures c.in-None.is) c.if-count-eq0.false
