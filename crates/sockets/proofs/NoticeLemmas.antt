-- What a host is notified of about one peer names that peer.
use Rattle.std.proofs.Common.{◌≡◌, ℕ, Bool, true, false, cond, List, [], ◌∷◌, Some, refl}
use Rattle.interface.specs.Host.{Host, same_host}
use Rattle.interface.specs.declared.address.Flow.{Flow}
use Rattle.interface.specs.declared.crossing.Answer.{Answer}
use Rattle.interface.specs.declared.crossing.Inbound.TheVariants as inbound
use Rattle.interface.specs.declared.message.HostMessage.{HostMessage}
use Rattle.host_pairs.specs.Turn.{message_taken, freed, answered_turn}
use Rattle.sockets.specs.Accepting.{turn_of, after_turn, accepted}
use Rattle.host_pairs.specs.Entries.{is_busy}
use Rattle.host_pairs.specs.About.{AreAbout}
use Rattle.sockets.specs.Pairs.{NcpState, pair_with}
use Rattle.host_pairs.specs.Desk.{desk_of}
use Rattle.ncp_control.specs.Phases.{is_ready}
use Rattle.sockets.specs.Requests.{served_notices}
use Rattle.host_pairs.specs.Parcels.{Parcel}
use Rattle.sockets.specs.Sending.{next_in, offered}
use Rattle.host_pairs.specs.declared.notice.Notice.{Notice}
use Rattle.host_pairs.specs.declared.notice.Notice.TheVariants as notice
use Rattle.sockets.specs.declared.peer.Peer.{Peer}
use Rattle.sockets.specs.declared.request.Request.TheVariants as request
use Rattle.host_pairs.proofs.lemmas.{about_if, answer_told, parcel_kept, text_told}

-- ---- a host

if_turned : (peer : Host) (b : Bool) (x y : NcpState × List Notice) → AreAbout peer x.1 → AreAbout peer y.1 → AreAbout peer (cond {A = NcpState × List Notice} b x y).1
if_turned peer true x y a b = a
if_turned peer false x y a b = b

pub message_about : (s : NcpState) (m : HostMessage) (stamp : ℕ) → AreAbout m.flow.source (accepted s (inbound.Message m) stamp).1
unfolding accepted
message_about s m stamp =
    let p : Host = m.flow.source in
    if_turned p (same_host s.own m.flow.destination) (after_turn s p (message_taken p stamp m.flow.link.0 m.text (turn_of s p))) (s, [])
    (text_told p stamp m.flow.link.0 m.text (turn_of s p) tt) tt

pub answer_about : (s : NcpState) (kind : Answer) (f : Flow) (stamp : ℕ) → AreAbout f.destination (accepted s (inbound.Answer kind f) stamp).1
unfolding accepted
answer_about s kind f stamp =
    let p : Host = f.destination in
    if_turned p (same_host s.own f.source)
    (cond {A = NcpState × List Notice} (is_busy (pair_with p s.peers).busy f.link.0) (after_turn s p (answered_turn p kind f.link.0 (turn_of s p))) (s, [])) (s, [])
    (if_turned p (is_busy (pair_with p s.peers).busy f.link.0) (after_turn s p (answered_turn p kind f.link.0 (turn_of s p))) (s, [])
    (answer_told p kind f.link.0 (record (turn_of s p) { pair = freed f.link.0 (turn_of s p).pair }) tt) tt) tt

pub offer_about : (s : NcpState) (stamp : ℕ) (p : Peer) (parcel : Parcel) → next_in s.peers ≡ Some (p, parcel) → AreAbout p.host (offered s stamp).1
unfolding offered
offer_about s stamp p parcel e = rw e (parcel_kept p.host stamp p.pair.busy parcel (desk_of p.pair s.listening) tt)

pub contact_about : (s : NcpState) (peer : Host) → AreAbout peer (served_notices s (request.Contact peer))
unfolding served_notices
contact_about s peer = about_if peer (is_ready (pair_with peer s.peers).phase) (notice.PairReset peer ∷ []) [] (refl, tt) tt
