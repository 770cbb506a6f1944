use Rattle.std.proofs.Common.{◌≡◌, List, rules, subst}
use Rattle.interface.specs.Host.{IsAddress}
use Rattle.host_pairs.specs.Pair.{opening_pair}
use Rattle.sockets.specs.Peers.{AreInOrder, IsMissing, StandsAt}
use Rattle.sockets.specs.declared.peer.Peer.{Peer}
use Rattle.sockets.proofs.PeerLemmas.{is_missing, stands_at}
use Rattle.sockets.proofs.peers.Peers.place.Goals as goal

pub returns-then-stands_at : goal.returns-then-stands_at
returns-then-stands_at c =
    let yes : _ = c.if-stands_at.ensures.yes in
    let there : c.deref.result.now ≡ c.args.self.now = search rules in
    let order : AreInOrder c.deref.result.now = search rules in
    subst (λ (ps : List Peer). StandsAt c.args.host ps c.self.inside.recent) there (stands_at c.args.host 0 _ _ _ order yes.0 (yes.1 (record { host = c.args.host; pair = opening_pair })))

pub returns-then-stands_at-2 : goal.returns-then-stands_at-2
returns-then-stands_at-2 c =
    let yes : _ = c.if-stands_at-2.ensures.yes in
    let there : c.deref-3.result.now ≡ c.args.self.now = search rules in
    let order : AreInOrder c.deref-3.result.now = search rules in
    subst (λ (ps : List Peer). StandsAt c.args.host ps c.first_from-at.result) there (stands_at c.args.host 0 _ _ _ order yes.0 (yes.1 (record { host = c.args.host; pair = opening_pair })))

pub returns-else-stands_at-2 : goal.returns-else-stands_at-2
returns-else-stands_at-2 c =
    let address : IsAddress c.args.host = search rules in
    let there : c.deref-3.result.now ≡ c.args.self.now = search rules in
    let order : AreInOrder c.deref-3.result.now = search rules in
    subst (λ (ps : List Peer). IsMissing c.args.host ps c.first_from-at.result) there
    (is_missing c.args.host 0 c.deref-3.result.now c.first_from-at.result address order (search rules) (search rules) c.if-stands_at-2.ensures.no)
