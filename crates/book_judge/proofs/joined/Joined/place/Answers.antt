use Rattle.std.proofs.Common.{List, length, ap, arith}
use Rattle.book_judge.proofs.Crossed.Streamed.{no_stream, none_after, past_end, piece_there, stream_there}
use Rattle.book_judge.proofs.joined.Joined.place.Goals as goal

pub returns-in-Some-get : goal.returns-in-Some-get
returns-in-Some-get c = λ comes log h.
    c.place.ensures comes c.args.flow.now log
    (stream_there comes log c.args.self.now c.args.flow.now c.get.result c.in-Some.found c.in-Some-get.stream.now h
    c.get.ensures c.in-Some.is
    (piece_there c.args.self.now.streams.items c.deref.result.now c.in-Some.found c.in-Some-get.stream.now
    c.deref.ensures.value c.in-Some-get.ensures.lookup.0 c.in-Some-get.ensures.lookup.1))

pub returns-in-None-get : goal.returns-in-None-get
returns-in-None-get c = λ comes log h.
    absurd (no_stream comes log c.args.self.now c.args.flow.now c.get.result c.in-Some.found h c.get.ensures
    c.in-Some.is
    (past_end c.args.self.now.streams.items c.deref.result.now c.in-Some.found c.deref.ensures.value
    c.in-None-get.ensures.lookup.0))

pub returns-in-None : goal.returns-in-None
returns-in-None c = λ comes log h.
    (let none = ap (λ (us : List _). length us)
    (none_after comes log c.args.self.now c.args.flow.now c.get.result 0 h c.get.ensures c.in-None.is) in
    omega (arith, none))
