-- What a program reports by a moment with which its host leaves a peer: of no end with that peer that it is over.
use Rattle.world_keeps_streams.proofs.Common.{◌≡◌, inl, inr, ℕ, ◌==◌, ◌||◌, not, Bool, true, false, if◌then◌else◌, List, [], ◌∷◌, ◌++◌, refl, sym, subst, Host, same_host, Flow, Answer, HostMessage, Legal, orders_of, is_busy, is_ready, Phase, TurnState, answered_turn, failed_by, freed, is_gone, message_taken, reply_notices, reset_notices, settled_turn, Notice, In, Message, Other, stays_ready, NcpState, pair_with, Request, message_on, Asked, Crossed, Moment, event_in, events_of, places, program, host_in, notices_by, Coupled, clash, keeps, AText, AnRrp, AnRst, Sort, sort_of, Network, AreOurs}
use Rattle.sockets.specs.Accepting.{after_turn, turn_of, accepted}
use Rattle.interface.specs.declared.crossing.Answer.TheVariants as answer
use Rattle.interface.specs.declared.crossing.Crossing.TheVariants as crossing
use Rattle.interface.specs.declared.crossing.Inbound.TheVariants as inbound
use Rattle.ncp_control.specs.declared.command.Command.TheVariants as command
use Rattle.ncp_control.specs.declared.phase.Phase.TheVariants as phase
use Rattle.host_pairs.specs.declared.notice.Notice.TheVariants as notice
use Rattle.reset_law.specs.Stays as stay
use Rattle.sockets.specs.Requests.{served_notices}
use Rattle.sockets.specs.declared.request.Request.TheVariants as request
use Rattle.promise.specs.declared.life.Life.{Life}
use Rattle.world_keeps_streams.proofs.Lives.Fates.{IsEnd, TellsEnd}
use Rattle.world_keeps_streams.proofs.Lives.Leaves.{keeps_out, keeps_text}
use Rattle.world_keeps_streams.proofs.Requests.Sides.{Lawful, coupled_in}
use Rattle.world_keeps_streams.proofs.Stays.Resets.{leaves_by}

-- ---- notices of no such end

abbrev pub IsQuiet : Notice → Type 0
IsQuiet (notice.Ended socket peer foreign) = ⊥
IsQuiet n = Unit {0}

abbrev pub AreQuiet : List Notice → Type 0
AreQuiet [] = Unit {0}
AreQuiet (n ∷ ns) = IsQuiet n × AreQuiet ns

not_end : (x : Life) (n : Notice) → IsQuiet n → IsEnd x n → ⊥
not_end x (notice.Ended socket peer foreign) q e = q
not_end x n q e = e

pub quiet_tells : (x : Life) (ns : List Notice) → AreQuiet ns → TellsEnd x ns → ⊥
quiet_tells x [] q t = t
quiet_tells x (n ∷ ns) q (inl e) = not_end x n q.0 e
quiet_tells x (n ∷ ns) q (inr t) = quiet_tells x ns q.1 t

-- ---- a program

module _ (s : NcpState) (stamp : ℕ) where
  if_quiet : (v : Bool) (x y : NcpState × List Notice) → AreQuiet x.1 → AreQuiet y.1 → AreQuiet (if v then x else y).1
  if_quiet true x y a b = a
  if_quiet false x y a b = b

  fails : (peer : Host) (ph : Phase) (t : TurnState) → t.notices ≡ [] → AreQuiet (failed_by peer ph t).notices
  fails peer phase.Closed t e = subst (λ (ns : List Notice). AreQuiet ns) (sym e) tt
  fails peer phase.Want t e = subst (λ (ns : List Notice). AreQuiet ns) (sym e) tt
  fails peer (phase.Gone early) t e = subst (λ (ns : List Notice). AreQuiet (ns ++ notice.ContactFailed peer ∷ [])) (sym e) (tt, tt)
  fails peer phase.Heard t e = subst (λ (ns : List Notice). AreQuiet (ns ++ notice.ContactFailed peer ∷ [])) (sym e) (tt, tt)
  fails peer phase.Ready t e = subst (λ (ns : List Notice). AreQuiet (ns ++ notice.PairReset peer ∷ [])) (sym e) (tt, tt)

  answer_turn : (peer : Host) (link : ℕ) (kind : Answer) → AreQuiet (answered_turn peer kind link (turn_of s peer)).notices
  answer_turn peer link answer.Rfnm = tt
  answer_turn peer link kind = lost (is_gone (pair_with peer s.peers).phase || not (pair_with peer s.peers).owed) where
    lost : (v : Bool) → AreQuiet (if v then failed_by peer (pair_with peer s.peers).phase (record (turn_of s peer) { pair = freed link (pair_with peer s.peers) }) else settled_turn (record (turn_of s peer) { pair = freed link (pair_with peer s.peers) })).notices
    lost true = fails peer (pair_with peer s.peers).phase (record (turn_of s peer) { pair = freed link (pair_with peer s.peers) }) refl
    lost false = tt

  pub answer_quiet : (kind : Answer) (f : Flow) → AreQuiet (accepted s (inbound.Answer kind f) stamp).1
  unfolding accepted
  answer_quiet kind f =
      if_quiet (same_host s.own f.source) (if is_busy (pair_with f.destination s.peers).busy f.link.0 then after_turn s f.destination (answered_turn f.destination kind f.link.0 (turn_of s f.destination)) else (s, [])) (s, [])
      (if_quiet (is_busy (pair_with f.destination s.peers).busy f.link.0) (after_turn s f.destination (answered_turn f.destination kind f.link.0 (turn_of s f.destination))) (s, [])
      (answer_turn f.destination f.link.0 kind) tt) tt

  message_quiet : (m : HostMessage) → AreQuiet (message_taken m.flow.source stamp m.flow.link.0 m.text (turn_of s m.flow.source)).notices → AreQuiet (accepted s (inbound.Message m) stamp).1
  unfolding accepted
  message_quiet m q = if_quiet _ _ (s, []) q tt

  reset_told : (peer : Host) (ph : Phase) → AreQuiet (reset_notices peer ph)
  reset_told peer phase.Closed = (tt, tt)
  reset_told peer phase.Ready = (tt, tt)
  reset_told peer ph = tt

  reply_told : (peer : Host) (ph : Phase) → AreQuiet (reply_notices peer ph)
  reply_told peer phase.Heard = (tt, tt)
  reply_told peer ph = tt

  pub reset_quiet : (m : HostMessage) → (m.flow.link.0 == 0) ≡ true → orders_of m.text ≡ Legal command.Rst ∷ [] → AreQuiet (accepted s (inbound.Message m) stamp).1
  reset_quiet m zero orders = message_quiet m (rw (zero, orders) (reset_told m.flow.source _))

  pub reply_quiet : (m : HostMessage) → (m.flow.link.0 == 0) ≡ true → orders_of m.text ≡ Legal command.Rrp ∷ [] → AreQuiet (accepted s (inbound.Message m) stamp).1
  reply_quiet m zero orders = message_quiet m (rw (zero, orders) (reply_told m.flow.source _))

  contact_told : (peer : Host) (v : Bool) → AreQuiet (if v then notice.PairReset peer ∷ [] else [])
  contact_told peer true = (tt, tt)
  contact_told peer false = tt

  pub request_quiet : (r : Request) → AreQuiet (served_notices s r)
  unfolding served_notices
  request_quiet (request.Contact peer) = contact_told peer _
  request_quiet r = tt

-- ---- a moment

module _ (hosts : Network) (p : Host) where
  out_quiet : (m : HostMessage) (ms : List Moment) → AreOurs hosts m.flow.source p
      → Lawful hosts (Crossed (crossing.Out m) ∷ ms)
      → stay.stays m.flow.source p (events_of (Crossed (crossing.Out m) ∷ ms)) ≡ false
      → stay.stays m.flow.source p (events_of ms) ≡ true
      → AreQuiet (notices_by (Crossed (crossing.Out m)) ms)
  out_quiet m ms ours l left before =
      let c : Coupled hosts (Crossed (crossing.Out m) ∷ ms) = coupled_in hosts (Crossed (crossing.Out m) ∷ ms) l in
      clash _ (keeps m.flow.source p (event_in (Crossed (crossing.Out m))) (events_of ms))
      (keeps_out m.flow.source p (events_of ms) (stays_ready (events_of ms) m.flow.source p before) hosts ours m.flow.destination m.flow.link.0 (message_on m.flow.link.0 m.text) c.run)
      (leaves_by m.flow.source p (event_in (Crossed (crossing.Out m))) (events_of ms) before left)

  in_quiet : (m : HostMessage) (ms : List Moment) → stay.stays m.flow.destination p (events_of (Crossed (crossing.In m) ∷ ms)) ≡ false → stay.stays m.flow.destination p (events_of ms) ≡ true
      → AreQuiet (notices_by (Crossed (crossing.In m)) ms)
  in_quiet m ms left before = by (sort_of m.flow.link.0 m.text) where
    by : Sort m.flow.link.0 m.text → AreQuiet (notices_by (Crossed (crossing.In m)) ms)
    by (AnRst zero orders is) = reset_quiet (program m.flow.destination ms) (places ms) m zero orders
    by (AnRrp zero orders is) = reply_quiet (program m.flow.destination ms) (places ms) m zero orders
    by (AText is) =
        clash _ (keeps m.flow.destination p (In m.flow.source m.flow.destination m.flow.link.0 (Other m.text)) (events_of ms))
        (keeps_text m.flow.destination p (events_of ms) (stays_ready (events_of ms) m.flow.destination p before) m.flow.source m.flow.destination m.flow.link.0 m.text)
        (subst (λ (n : Message). keeps m.flow.destination p (In m.flow.source m.flow.destination m.flow.link.0 n) (events_of ms) ≡ false) is (leaves_by m.flow.destination p (event_in (Crossed (crossing.In m))) (events_of ms) before left))

  quiet : (y : Moment) (ms : List Moment) → AreOurs hosts (host_in y) p → Lawful hosts (y ∷ ms)
      → stay.stays (host_in y) p (events_of (y ∷ ms)) ≡ false → stay.stays (host_in y) p (events_of ms) ≡ true
      → AreQuiet (notices_by y ms)
  quiet (Crossed (crossing.Out m)) ms ours l left before = out_quiet m ms ours l left before
  quiet (Crossed (crossing.In m)) ms ours l left before = in_quiet m ms left before
  quiet (Crossed (crossing.Answer kind f)) ms ours l left before = answer_quiet (program f.source ms) (places ms) kind f
  quiet (Crossed (crossing.Down g)) ms ours l left before = tt
  quiet (Crossed (crossing.Up g)) ms ours l left before = tt
  quiet (Asked g r) ms ours l left before = request_quiet (program g ms) (places ms) r

  -- so a host that reports the end of a connection with a peer stays with it
  pub still_stays : (x : Life) (y : Moment) (ms : List Moment) → AreOurs hosts (host_in y) p → Lawful hosts (y ∷ ms)
      → stay.stays (host_in y) p (events_of ms) ≡ true → TellsEnd x (notices_by y ms)
      → stay.stays (host_in y) p (events_of (y ∷ ms)) ≡ true
  still_stays x y ms ours l before t = by (stay.stays (host_in y) p (events_of (y ∷ ms))) refl where
    by : (v : Bool) → stay.stays (host_in y) p (events_of (y ∷ ms)) ≡ v → stay.stays (host_in y) p (events_of (y ∷ ms)) ≡ true
    by true e = e
    by false e = absurd (quiet_tells x _ (quiet y ms ours l e before) t)
