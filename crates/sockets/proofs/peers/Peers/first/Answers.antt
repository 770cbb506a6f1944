use Rattle.std.proofs.Common.{◌≡◌, ◌∙◌, sym, Some, None, position, rules}
use Rattle.sockets.specs.Peers.{has_parcel}
use Rattle.sockets.proofs.DueLemmas.{next_due, none_due, nothing_due}
use Rattle.sockets.proofs.peers.Peers.first.Goals as goal

pub returns-in_err-at-clause-next : goal.returns-in_err-at-clause-next
returns-in_err-at-clause-next c =
    let none : position has_parcel c.self.inside.peers.items ≡ None = sym c.self.invariant.2 ∙ search rules in
    rw (← c.self.view_is, c.from_residual.ensures) (none_due c.self.inside.peers.items none)

pub returns-in_err-next-clause-next : goal.returns-in_err-next-clause-next
returns-in_err-next-clause-next c =
    let one : position has_parcel c.self.inside.peers.items ≡ Some c.in_ok-at.at = sym c.self.invariant.2 ∙ search rules in
    rw (← c.self.view_is, c.from_residual-in_err-next.ensures) (nothing_due c.self.inside.peers.items c.in_ok-at.at c.index-peer.result.now one (search rules) (search rules))

pub returns-clause-next : goal.returns-clause-next
returns-clause-next c =
    let one : position has_parcel c.self.inside.peers.items ≡ Some c.in_ok-at.at = sym c.self.invariant.2 ∙ search rules in
    rw (← c.self.view_is) (next_due c.self.inside.peers.items c.in_ok-at.at c.index-peer.result.now _ one (search rules) (search rules))
