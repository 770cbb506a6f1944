use Rattle.std.proofs.Common.{drop, ◌++◌}
use Rattle.book_log.specs.Steps.{ends_words}
use Rattle.book_log.proofs.Cuts.{after, front}
use Rattle.book_log.proofs.Reading.{no_word, other_kind}
use Rattle.book_log.proofs.lines.read_ends.Goals as goal

pub returns-in_err-host : goal.returns-in_err-host
returns-in_err-host c = rw c.from_residual.ensures (λ y rest meant e. c.in_err-host.ensures y.host (drop 1 (ends_words y ++ rest)) meant.host e)

pub returns-in_err-socket : goal.returns-in_err-socket
returns-in_err-socket c = rw c.from_residual-in_err-socket.ensures (λ y rest meant e. c.in_err-socket.ensures y.socket (drop 2 (ends_words y ++ rest)) meant.socket (after c.in_ok-host.ensures.0 e))

pub returns-in_err-peer : goal.returns-in_err-peer
returns-in_err-peer c = rw c.from_residual-in_err-peer.ensures (λ y rest meant e. c.in_err-peer.ensures y.peer (drop 3 (ends_words y ++ rest)) meant.peer (after c.in_ok-socket.ensures.0 (after c.in_ok-host.ensures.0 e)))

pub returns-in_err-foreign : goal.returns-in_err-foreign
returns-in_err-foreign c = rw c.from_residual-in_err-foreign.ensures (λ y rest meant e. c.in_err-foreign.ensures y.foreign (drop 4 (ends_words y ++ rest)) meant.foreign (after c.in_ok-peer.ensures.0 (after c.in_ok-socket.ensures.0 (after c.in_ok-host.ensures.0 e))))

pub returns-in_err-own_stamp : goal.returns-in_err-own_stamp
returns-in_err-own_stamp c = rw c.from_residual-in_err-own_stamp.ensures (λ y rest meant e. c.in_err-own_stamp.ensures y.own_stamp (drop 5 (ends_words y ++ rest)) meant.own (after c.in_ok-foreign.ensures.0 (after c.in_ok-peer.ensures.0 (after c.in_ok-socket.ensures.0 (after c.in_ok-host.ensures.0 e)))))

pub returns-in_err-partner_stamp : goal.returns-in_err-partner_stamp
returns-in_err-partner_stamp c = rw c.from_residual-in_err-partner_stamp.ensures (λ y rest meant e. c.in_err-partner_stamp.ensures y.partner_stamp (drop 6 (ends_words y ++ rest)) meant.partner (after c.in_ok-own_stamp.ensures.0 (after c.in_ok-foreign.ensures.0 (after c.in_ok-peer.ensures.0 (after c.in_ok-socket.ensures.0 (after c.in_ok-host.ensures.0 e))))))

pub returns-in_err-kind : goal.returns-in_err-kind
returns-in_err-kind c = rw c.from_residual-in_err-kind.ensures (λ y rest meant e. absurd (no_word c.in_err-kind.ensures.0 (after c.in_ok-partner_stamp.ensures.0 (after c.in_ok-own_stamp.ensures.0 (after c.in_ok-foreign.ensures.0 (after c.in_ok-peer.ensures.0 (after c.in_ok-socket.ensures.0 (after c.in_ok-host.ensures.0 e))))))))

pub returns-then-not-is_kind : goal.returns-then-not-is_kind
returns-then-not-is_kind c = λ y rest meant e.
    other_kind c.in_ok-socket.socket y.socket c.in_ok-kind.kind.now c.is_kind.result c.in_ok-socket.ensures.1 meant.socket (front c.in_ok-socket.ensures.0 (after c.in_ok-host.ensures.0 e)) (front c.in_ok-kind.ensures (after c.in_ok-partner_stamp.ensures.0 (after c.in_ok-own_stamp.ensures.0 (after c.in_ok-foreign.ensures.0 (after c.in_ok-peer.ensures.0 (after c.in_ok-socket.ensures.0 (after c.in_ok-host.ensures.0 e))))))) c.is_kind.ensures c.if-not-is_kind.true
