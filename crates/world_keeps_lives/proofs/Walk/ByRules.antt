-- What holds of each end that a host's program has with a peer, through each of its calls, by rules that take all changes alike that name no request.
use Rattle.world_keeps_lives.proofs.Common.{◌≡◌, ℕ, ◌==◌, true, false, List, find, Some, Host, Flow, Answer, HostMessage, data_bits, header_of, DataHeader, cls_sent, Parcel, orders_of, Order, data_of, PairState, Entry, Notice, Command, AreCommands, NcpState, pair_with, AreInOrder, next_in, offered, Peer, Request, accepted}
use Rattle.host_pairs.specs.Entries.{closed_by_partner, is_open, receives_on}
use Rattle.sockets.specs.Requests.{served, served_notices}
use Rattle.interface.specs.declared.crossing.Inbound.TheVariants as inbound
use Rattle.host_pairs.specs.Commands.{granted}
use Rattle.host_pairs.specs.Parcels as parcel
use Rattle.host_pairs.specs.declared.notice.Notice.TheVariants as notice
use Rattle.sockets.specs.declared.request.Request.TheVariants as request
use Rattle.world_keeps_lives.proofs.Walk.Rules.{Begins, Each, Goes, Hears, MayTell, Rules, quiet_off, quiet_sent}
use Rattle.world_keeps_lives.proofs.Walk.Leaves.{GoesAll, HearsAll, Leaves, MaySay, Starts, quiet_bits}
use Rattle.world_keeps_lives.proofs.Walk.Calls.{MayGrant, Passed, answer_passes, message_passes, offer_passes, request_passes, request_reports}
pub use Rattle.world_keeps_lives.proofs.Walk.Calls.{Ends}

-- ---- the rules at each leaf

pub starts : (P : Entry → Type 0) → Begins P → Starts P
starts P begins = record {
  fresh = λ e mine asked partner unclosed none. begins.fresh e mine asked partner;
  refused = begins.refused;
}

module _ (P : Entry → Type 0) (N : Notice → Type 0) (p : Host) (rules : Rules P N p) where
  pub leaves : Leaves P N p
  leaves = record {
    plain = λ e f q h. rules.quiet e f q.quiet h;
    others = λ n other unended. rules.others n other;
    ends = λ e h over. rules.others (notice.Ended e.own p e.foreign) tt;
    opens = rules.opens;
    returns = rules.returns;
  }

  hears_all : (stamp : ℕ) (orders : List Order) → Hears P stamp orders → HearsAll P stamp orders
  hears_all stamp orders h = record {
    begins = starts P h.begins;
    rts = λ own foreign link e there even odd o f none. h.rts own foreign link e there even odd o f;
    str = λ own foreign size e there odd even o f none. h.str own foreign size e there odd even o f;
    cls = λ e k. rules.quiet e (closed_by_partner e) (quiet_off e) k;
    all = λ link messages bits e there sends k. rules.quiet e (granted messages bits e) (quiet_bits e _ _) k;
  }

  pub goes_all : (stamp : ℕ) (cs : List Command) → Goes P stamp cs → GoesAll P stamp cs
  goes_all stamp cs g = record { rts = g.rts; str = g.str; cls = λ e k. rules.quiet e (cls_sent e) (quiet_sent e) k }

  may_say : (stamp : ℕ) (x : Parcel) (q : PairState) → MayTell P N p rules stamp x q → MaySay P N p leaves stamp x q
  may_say stamp (parcel.Commands count) q may = goes_all stamp _ may
  may_say stamp parcel.Reset q may = may
  may_say stamp parcel.Reply q may = may
  may_say stamp (parcel.Bytes e size count) q may = may

  -- ---- calls

  -- what becomes of a call: the ends with the peer, and what is reported
  abbrev pub Done : NcpState × List Notice → Type 0
  Done turn = Passed P N p leaves turn

  pub may_grant : (r : Request) → MayGrant P r
  may_grant (request.Grant socket messages bits) = λ e own h.
      rules.quiet e (granted messages bits e) (quiet_bits e _ _) h
  may_grant r = tt

  pub request_keeps : Begins P → (s : NcpState) (r : Request) → Ends P p s → Ends P p (served s r)
  request_keeps begins s r h = request_passes P N p leaves (starts P begins) s r (may_grant r) h

  pub request_told : (s : NcpState) (r : Request) → Each N (served_notices s r)
  request_told s r = request_reports P N p leaves s r

  -- whatever it says, where it is a control message by the rules and data are reported by them
  abbrev pub MayTake : NcpState → HostMessage → ℕ → Type 0
  MayTake s m stamp =
      ((m.flow.link.0 == 0) ≡ true → Hears P stamp (orders_of m.text))
      × ((m.flow.link.0 == 0) ≡ false → (e : Entry) (k : DataHeader) → find (receives_on m.flow.link.0) (pair_with p s.peers).entries ≡ Some e → is_open e ≡ true → header_of m.text ≡ Some k → N (notice.Arrived e.own (data_of (data_bits k) m.text)))

  pub message_keeps : (s : NcpState) (m : HostMessage) (stamp : ℕ) → m.flow.source ≡ p → MayTake s m stamp → Ends P p s → Done (accepted s (inbound.Message m) stamp)
  message_keeps s m stamp from may h = message_passes P N p leaves s m stamp from ((λ zero. hears_all stamp (orders_of m.text) (may.0 zero)), may.1) h

  pub answer_keeps : (s : NcpState) (kind : Answer) (f : Flow) (stamp : ℕ) → f.destination ≡ p → Ends P p s → Done (accepted s (inbound.Answer kind f) stamp)
  answer_keeps s kind f stamp to h = answer_passes P N p leaves s kind f stamp to h

  pub offer_keeps : (s : NcpState) (stamp : ℕ) (g : Peer) (x : Parcel) → AreInOrder s.peers → next_in s.peers ≡ Some (g, x) → g.host ≡ p → AreCommands (pair_with p s.peers).queue → MayTell P N p rules stamp x (pair_with p s.peers) → Ends P p s → Done (offered s stamp)
  offer_keeps s stamp g x order next to ok may h = offer_passes P N p leaves s stamp g x order next to ok (may_say stamp x _ may) h
