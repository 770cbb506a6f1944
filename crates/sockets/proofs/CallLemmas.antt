-- How a call ends that is served by what was done to a peer.
use Rattle.std.proofs.Common.{◌≡◌, ℕ, true, false, List, [], Result, Ok, Err, Option, Some, OnErr, OnOk, IfErr, MatchResult, ◌+◌, ◌<◌, subst, refl, ap, sym, ◌∙◌, arith}
use Rattle.std.specs.declared.alloc.AllocError.{AllocError}
use Rattle.sockets.specs.Calls.{IsSpent}
use Rattle.sockets.specs.Memory.{newly_known, queued_by_closing}
use Rattle.sockets.specs.Accepting.{after_turn, turn_of}
use Rattle.sockets.specs.Pairs.{NcpState, owner_of, pair_with, with_pair}
use Rattle.host_pairs.specs.Desk.{listens_on}
use Rattle.host_pairs.specs.Turn.{TurnState, answered_turn, freed, is_quiet}
use Rattle.host_pairs.proofs.lemmas.{quiet_turn}
use Rattle.interface.specs.declared.crossing.Answer.TheVariants as answer
use Rattle.interface.specs.Host.{Host}
use Rattle.sockets.specs.Peers.{AreInOrder}
use Rattle.sockets.proofs.PeerLemmas.{owner_known}
use Rattle.sockets.specs.Requests.{at_owner, closed_socket, with_peer}
use Rattle.host_pairs.specs.Asked.{closed_end}
use Rattle.sockets.specs.declared.fault.NcpFault.{NcpFault}
use Rattle.sockets.specs.declared.fault.NcpFault.TheVariants as fault
use Rattle.host_pairs.specs.declared.notice.Notice.{Notice}

abbrev told_nothing : NcpState → NcpState × List Notice
told_nothing s = (s, [])

-- what was done is what is to be served
pub ended : (done : Result (Unit {0}) AllocError) (result : Result (Unit {0}) NcpFault) (mid new found target : NcpState)
    → OnOk done (mid ≡ found) → target ≡ found
    → MatchResult done (λ x. (result ≡ Ok x) × (new ≡ mid)) (λ e. (result ≡ Err fault.OutOfMemory) × (new.spent ≡ true))
    → MatchResult result (λ x. (new ≡ target) × ((let none : List Notice = [] in none) ≡ [])) (λ f. IsSpent f new)
ended (Ok x) result mid new found target state is ends = rw (ends.0) (ends.1 ∙ state ∙ sym is, refl)
ended (Err e) result mid new found target state is ends = rw (ends.0) (refl, ends.1)

-- a socket that doesn't listen is closed with its peer
pub closed_found : (s : NcpState) (socket : ℕ) (peer : Host) → listens_on socket s.listening ≡ false
    → at_owner s (owner_of socket s.peers) (λ e. closed_end socket) ≡ with_peer s peer (closed_end socket) → closed_socket s socket ≡ with_peer s peer (closed_end socket)
closed_found s socket peer silent is = rw silent is

-- to close a connection makes no host known
pub closed_known : (s : NcpState) (socket : ℕ) → AreInOrder s.peers → listens_on socket s.listening ≡ false → newly_known s (closed_socket s socket) ≡ 0
closed_known s socket order silent = rw silent (owner_known s socket (λ e. closed_end socket) order (owner_of socket s.peers) refl)

-- where memory ran out, what was to be served wants it; and no host came to be known by what was done to the owner of a socket
pub wanted : (more : ℕ) (done : Result (Unit {0}) AllocError) (result : Result (Unit {0}) NcpFault) (mid new old found target : NcpState)
    → OnErr done (0 < more + newly_known old found) → target ≡ found → newly_known old target ≡ 0
    → MatchResult done (λ x. (result ≡ Ok x) × (new ≡ mid)) (λ e. (result ≡ Err fault.OutOfMemory) × (new.spent ≡ true))
    → IfErr result (λ f. 0 < more)
wanted more (Ok x) result mid new old found target memory is none ends = rw (ends.0) tt
wanted more (Err e) result mid new old found target memory is none ends =
    let wants : 0 < more + newly_known old target = subst (λ (s : NcpState). 0 < more + newly_known old s) (sym is) memory in
    rw (ends.0) (omega (arith, wants, none))

pub wanted_closing : (socket : ℕ) (peer : Host) (old : NcpState) (o : Option Host) (result : Result (Unit {0}) NcpFault) → o ≡ Some peer
    → IfErr result (λ f. 0 < queued_by_closing old socket (Some peer)) → IfErr result (λ f. 0 < queued_by_closing old socket o)
wanted_closing socket peer old o result is memory =
    subst (λ (x : Option Host). IfErr result (λ f. 0 < queued_by_closing old socket x)) (sym is) memory

-- an RFNM of which nothing else comes leaves the host with the link free
pub freed_quietly : (old new : NcpState) (peer : Host) (link : ℕ) → is_quiet (pair_with peer old.peers) ≡ true
    → new ≡ record old { peers = with_pair peer (freed link (pair_with peer old.peers)) old.peers }
    → after_turn old peer (answered_turn peer answer.Rfnm link (turn_of old peer)) ≡ (new, [])
freed_quietly old new peer link quiet is =
    ap (λ (t : TurnState). after_turn old peer t) (quiet_turn peer link (turn_of old peer) quiet) ∙ ap (λ (s : NcpState). told_nothing s) (sym is)
