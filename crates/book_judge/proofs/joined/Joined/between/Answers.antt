use Rattle.book_judge.proofs.Crossed.Streamed.{no_stream, none_between, past_end, piece_there, stream_there}
use Rattle.book_judge.proofs.joined.Joined.between.Goals as goal

pub returns-in-Some-get : goal.returns-in-Some-get
returns-in-Some-get c = λ comes log h.
    c.between.ensures comes c.args.flow.now log
    (stream_there comes log c.args.self.now c.args.flow.now c.get.result c.in-Some.number c.in-Some-get.stream.now h
    c.get.ensures c.in-Some.is
    (piece_there c.args.self.now.streams.items c.deref.result.now c.in-Some.number c.in-Some-get.stream.now
    c.deref.ensures.value c.in-Some-get.ensures.lookup.0 c.in-Some-get.ensures.lookup.1))

pub returns-in-None-get : goal.returns-in-None-get
returns-in-None-get c = λ comes log h.
    absurd (no_stream comes log c.args.self.now c.args.flow.now c.get.result c.in-Some.number h c.get.ensures
    c.in-Some.is
    (past_end c.args.self.now.streams.items c.deref.result.now c.in-Some.number c.deref.ensures.value
    c.in-None-get.ensures.lookup.0))

pub returns-in-None : goal.returns-in-None
returns-in-None c = λ comes log h.
    none_between comes log c.args.self.now c.args.flow.now c.get.result c.args.since c.args.until h c.get.ensures
    c.in-None.is
