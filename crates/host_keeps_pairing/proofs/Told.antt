-- What each call reports of openings.
use Rattle.host_keeps_pairing.proofs.Common.{◌≡◌, ℕ, Bool, true, false, not, ◌||◌, ◌==◌, if◌then◌else◌, List, [], ◌∷◌, ◌++◌, take, drop, Some, refl, ap, sym, subst, ◌∙◌, Host, same_host, Flow, Answer, HostMessage, End, Mark, Life, lives_taken, TurnState, answered_turn, failed, failed_by, if_ready, is_gone, message_taken, order_taken, orders_taken, reply_notices, reset_notices, settled_turn, with_desk, accepted_answer, turn_of, Legal, Order, Wrong, orders_of, data_taken, is_busy, commands_of, PairState, DeskState, desk_of, NcpState, pair_with, AreInOrder, is_ready, Parcel, parcel_gone, next_in, Listener, Notice, Peer, Phase, Request, next_pair, AllFit, mark_in, marks, marks_in, HasEnd, Stand, at, AreFree, AreJoint, AreAmong, all_lives_gone, all_lives_taken, with_openings}
use Rattle.interface.specs.declared.crossing.Answer.TheVariants as answer
use Rattle.interface.specs.declared.crossing.Inbound.TheVariants as inbound
use Rattle.ncp_control.specs.declared.command.Command.TheVariants as command
use Rattle.pairing_law.specs.Ends as law
use Rattle.sockets.specs.Accepting.{accepted}
use Rattle.sockets.specs.Requests.{served_notices}
use Rattle.host_pairs.specs.Parcels as parcel
use Rattle.sockets.specs.Sending.{offered}
use Rattle.host_pairs.specs.declared.notice.Notice.TheVariants as notice
use Rattle.ncp_control.specs.declared.phase.Phase.TheVariants as phase
use Rattle.sockets.specs.declared.request.Request.TheVariants as request
use Rattle.host_keeps_pairing.specs.Words.{all_taken}
use Rattle.host_keeps_pairing.proofs.Openings.{AreOther, Tells, all_gone_tells, data_tells, openings_append, taken_tells}
use Rattle.host_keeps_pairing.proofs.Passes.{parted}
use Rattle.host_keeps_pairing.proofs.Turns.{fit_first, one_order, orders_idle, ready_when, work_of}

module _ (origin : ℕ → ℕ) (own foreign : ℕ) where
  -- ---- a turn

  -- what a desk reports is after what was reported before
  desk_tells : (old ns : List Notice) (lives more : List Life) → Tells origin own foreign [] ns lives more → Tells origin own foreign old (old ++ ns) lives more
  desk_tells old ns lives more h told k =
      subst (λ (ts : List Life). AreAmong ts more) (sym (openings_append origin own foreign old ns told)) (h (with_openings origin own foreign old told) k)

  work_tells : (peer : Host) (stamp : ℕ) (o : Order) (t : TurnState) (x : End) (lives : List Life) → AllFit (mark_in (origin stamp) foreign own o) x → HasEnd origin own foreign t.pair x
      → Tells origin own foreign [] (work_of peer t.pair.busy stamp o (desk_of t.pair t.listening)).notices lives (all_lives_taken (mark_in (origin stamp) foreign own o) x lives)
  work_tells peer stamp (Legal c) t x lives fit h = taken_tells origin own foreign 0 peer _ stamp c _ x lives fit (h.ends 0)
  work_tells peer stamp (Wrong code octets) t x lives fit h = λ told k. k

  lives_append : (ms ns : List Mark) (x : End) (lives : List Life) → all_lives_taken (ms ++ ns) x lives ≡ all_lives_taken ns (all_taken ms x) (all_lives_taken ms x lives)
  lives_append [] ns x lives = refl
  lives_append (m ∷ ms) ns x lives = lives_append ms ns (law.mark_taken m x) (lives_taken m x lives)

  orders_tell : (peer : Host) (stamp : ℕ) (os : List Order) (t : TurnState) (x : End) (lives : List Life) → AreJoint os → AreFree peer stamp os t → AllFit (marks_in (origin stamp) foreign own os) x → is_ready t.pair.phase ≡ true
      → HasEnd origin own foreign t.pair x → Tells origin own foreign t.notices (orders_taken peer stamp os t).notices lives (all_lives_taken (marks_in (origin stamp) foreign own os) x lives)
  orders_tell peer stamp [] t x lives joint free fit ready h told k = k
  orders_tell peer stamp (o ∷ os) t x lives joint free fit ready h told k =
      let parts : AllFit (mark_in (origin stamp) foreign own o) x × AllFit (marks_in (origin stamp) foreign own os) (all_taken (mark_in (origin stamp) foreign own o) x) =
      fit_first origin own foreign _ _ x fit in
      let d : DeskState = work_of peer t.pair.busy stamp o (desk_of t.pair t.listening) in
      let next : order_taken peer stamp o t ≡ with_desk t d = ready_when peer stamp o t joint.0 ready in
      let one : HasEnd origin own foreign (order_taken peer stamp o t).pair (all_taken (mark_in (origin stamp) foreign own o) x) =
      subst (λ (u : TurnState). HasEnd origin own foreign u.pair (all_taken (mark_in (origin stamp) foreign own o) x)) (sym next) (one_order origin own foreign peer stamp o t x joint.0 free.0 parts.0 ready h) in
      let still : is_ready (order_taken peer stamp o t).pair.phase ≡ true = ap (λ (u : TurnState). is_ready u.pair.phase) next ∙ ready in
      let first : Tells origin own foreign t.notices (order_taken peer stamp o t).notices lives (all_lives_taken (mark_in (origin stamp) foreign own o) x lives) =
      subst (λ (u : TurnState). Tells origin own foreign t.notices u.notices lives (all_lives_taken (mark_in (origin stamp) foreign own o) x lives)) (sym next)
      (desk_tells t.notices d.notices lives (all_lives_taken (mark_in (origin stamp) foreign own o) x lives) (work_tells peer stamp o t x lives parts.0 h)) in
      subst (λ (ls : List Life). AreAmong (with_openings origin own foreign (orders_taken peer stamp (o ∷ os) t).notices told) ls) (sym (lives_append (mark_in (origin stamp) foreign own o) (marks_in (origin stamp) foreign own os) x lives))
      (orders_tell peer stamp os (order_taken peer stamp o t) (all_taken (mark_in (origin stamp) foreign own o) x) (all_lives_taken (mark_in (origin stamp) foreign own o) x lives) joint.1 free.1 parts.1 still one told (first told k))

  -- ---- what reports no opening

  reset_other : (peer : Host) (ph : Phase) → AreOther origin own foreign (reset_notices peer ph)
  reset_other peer phase.Closed told = refl
  reset_other peer ph told = refl

  reply_other : (peer : Host) (ph : Phase) → AreOther origin own foreign (reply_notices peer ph)
  reply_other peer phase.Closed told = refl
  reply_other peer ph told = refl

  failed_other : (peer : Host) (ph : Phase) (t : TurnState) → t.notices ≡ [] → AreOther origin own foreign (failed_by peer ph t).notices
  failed_other peer phase.Closed t e told = ap (λ (ns : List Notice). with_openings origin own foreign ns told) e
  failed_other peer phase.Want t e told = ap (λ (ns : List Notice). with_openings origin own foreign ns told) e
  failed_other peer (phase.Gone early) t e told = ap (λ (ns : List Notice). with_openings origin own foreign (ns ++ notice.ContactFailed peer ∷ []) told) e
  failed_other peer phase.Heard t e told = ap (λ (ns : List Notice). with_openings origin own foreign (ns ++ notice.ContactFailed peer ∷ []) told) e
  failed_other peer phase.Ready t e told = ap (λ (ns : List Notice). with_openings origin own foreign (ns ++ notice.PairReset peer ∷ []) told) e

  failing : (peer : Host) (u : TurnState) → u.notices ≡ [] → AreOther origin own foreign (failed peer u).notices
  failing peer u e = by (is_gone u.pair.phase || not u.pair.owed) where
    by : (b : Bool) → AreOther origin own foreign (if b then failed_by peer u.pair.phase u else settled_turn u).notices
    by true = failed_other peer u.pair.phase u e
    by false = λ told. ap (λ (ns : List Notice). with_openings origin own foreign (ns ++ []) told) e

  answered_other : (peer : Host) (kind : Answer) (link : ℕ) (t : TurnState) → t.notices ≡ [] → AreOther origin own foreign (answered_turn peer kind link t).notices
  answered_other peer answer.Rfnm link t e = λ told. ap (λ (ns : List Notice). with_openings origin own foreign (ns ++ []) told) e
  answered_other peer kind link t e = failing peer _ e

  -- ---- a host

  pub message_notices : (s : NcpState) (m : HostMessage) (stamp : ℕ) → same_host s.own m.flow.destination ≡ true → (accepted s (inbound.Message m) stamp).1 ≡ (message_taken m.flow.source stamp m.flow.link.0 m.text (turn_of s m.flow.source)).notices
  unfolding accepted
  message_notices s m stamp mine =
      rw mine refl

  pub control_notices : (s : NcpState) (m : HostMessage) (stamp : ℕ) → same_host s.own m.flow.destination ≡ true → (m.flow.link.0 == 0) ≡ true → (accepted s (inbound.Message m) stamp).1 ≡ (orders_taken m.flow.source stamp (orders_of m.text) (turn_of s m.flow.source)).notices
  control_notices s m stamp mine zero =
      message_notices s m stamp mine ∙ ap (λ (b : Bool). (if b then orders_taken m.flow.source stamp (orders_of m.text) (turn_of s m.flow.source) else if_ready (data_taken m.flow.link.0 m.text) (turn_of s m.flow.source)).notices) zero

  -- commands that are in order
  pub message_tells : (s : NcpState) (m : HostMessage) (stamp : ℕ) (x : End) (told lives : List Life) → same_host s.own m.flow.destination ≡ true → (m.flow.link.0 == 0) ≡ true → is_ready (pair_with m.flow.source s.peers).phase ≡ true
      → AreJoint (orders_of m.text) → AreFree m.flow.source stamp (orders_of m.text) (turn_of s m.flow.source) → AllFit (marks_in (origin stamp) foreign own (orders_of m.text)) x → HasEnd origin own foreign (pair_with m.flow.source s.peers) x
      → AreAmong told lives → AreAmong (with_openings origin own foreign (accepted s (inbound.Message m) stamp).1 told) (all_lives_taken (marks_in (origin stamp) foreign own (orders_of m.text)) x lives)
  message_tells s m stamp x told lives mine zero ready joint free fit h k =
      subst (λ (ns : List Notice). AreAmong (with_openings origin own foreign ns told) (all_lives_taken (marks_in (origin stamp) foreign own (orders_of m.text)) x lives)) (sym (control_notices s m stamp mine zero))
      (orders_tell m.flow.source stamp _ _ x lives joint free fit ready h told k)

  -- what isn't heard, an RST and an RRP report no opening
  pub idle_other : (s : NcpState) (m : HostMessage) (stamp : ℕ) → same_host s.own m.flow.destination ≡ true → (m.flow.link.0 == 0) ≡ true → is_ready (pair_with m.flow.source s.peers).phase ≡ false → AreJoint (orders_of m.text)
      → (told : List Life) → with_openings origin own foreign (accepted s (inbound.Message m) stamp).1 told ≡ told
  idle_other s m stamp mine zero idle joint told =
      ap (λ (ns : List Notice). with_openings origin own foreign ns told) (control_notices s m stamp mine zero ∙ ap (λ (t : TurnState). t.notices) (orders_idle _ stamp _ _ joint idle))

  pub rst_other : (s : NcpState) (m : HostMessage) (stamp : ℕ) → same_host s.own m.flow.destination ≡ true → (m.flow.link.0 == 0) ≡ true → orders_of m.text ≡ Legal command.Rst ∷ []
      → (told : List Life) → with_openings origin own foreign (accepted s (inbound.Message m) stamp).1 told ≡ told
  rst_other s m stamp mine zero is told =
      ap (λ (ns : List Notice). with_openings origin own foreign ns told) (control_notices s m stamp mine zero ∙ ap (λ (os : List Order). (orders_taken m.flow.source stamp os (turn_of s m.flow.source)).notices) is)
      ∙ reset_other m.flow.source _ told

  pub rrp_other : (s : NcpState) (m : HostMessage) (stamp : ℕ) → same_host s.own m.flow.destination ≡ true → (m.flow.link.0 == 0) ≡ true → orders_of m.text ≡ Legal command.Rrp ∷ []
      → (told : List Life) → with_openings origin own foreign (accepted s (inbound.Message m) stamp).1 told ≡ told
  rrp_other s m stamp mine zero is told =
      ap (λ (ns : List Notice). with_openings origin own foreign ns told) (control_notices s m stamp mine zero ∙ ap (λ (os : List Order). (orders_taken m.flow.source stamp os (turn_of s m.flow.source)).notices) is)
      ∙ reply_other m.flow.source _ told

  -- nor do data
  data_step : (link : ℕ) (text : List Bool) (t : TurnState) (lives : List Life) → t.notices ≡ [] → Tells origin own foreign [] (if_ready (data_taken link text) t).notices lives lives
  data_step link text t lives none = by (is_ready t.pair.phase) where
    by : (b : Bool) → Tells origin own foreign [] (if b then with_desk t (data_taken link text (desk_of t.pair t.listening)) else t).notices lives lives
    by true = subst (λ (ns : List Notice). Tells origin own foreign [] (ns ++ (data_taken link text (desk_of t.pair t.listening)).notices) lives lives) (sym none) (data_tells origin own foreign link text (desk_of t.pair t.listening) lives)
    by false = subst (λ (ns : List Notice). Tells origin own foreign [] ns lives lives) (sym none) (λ told k. k)

  pub data_told : (s : NcpState) (m : HostMessage) (stamp : ℕ) (told lives : List Life) → same_host s.own m.flow.destination ≡ true → (m.flow.link.0 == 0) ≡ false
      → AreAmong told lives → AreAmong (with_openings origin own foreign (accepted s (inbound.Message m) stamp).1 told) lives
  data_told s m stamp told lives mine away k =
      let is : (accepted s (inbound.Message m) stamp).1 ≡ (if_ready (data_taken m.flow.link.0 m.text) (turn_of s m.flow.source)).notices =
      message_notices s m stamp mine ∙ ap (λ (b : Bool). (if b then orders_taken m.flow.source stamp (orders_of m.text) (turn_of s m.flow.source) else if_ready (data_taken m.flow.link.0 m.text) (turn_of s m.flow.source)).notices) away in
      subst (λ (ns : List Notice). AreAmong (with_openings origin own foreign ns told) lives) (sym is) (data_step m.flow.link.0 m.text (turn_of s m.flow.source) lives refl told k)

  -- nor does an answer
  answer_step : (s : NcpState) (kind : Answer) (f : Flow) (b c : Bool) → same_host s.own f.source ≡ b → is_busy (pair_with f.destination s.peers).busy f.link.0 ≡ c
      → (told : List Life) → with_openings origin own foreign (accepted_answer s kind f).1 told ≡ told
  answer_step s kind f true true e g told = rw (e, g) (answered_other f.destination kind _ _ refl told)
  answer_step s kind f true false e g told = rw (e, g) refl
  answer_step s kind f false c e g told = rw e refl

  pub answer_other : (s : NcpState) (kind : Answer) (f : Flow) (stamp : ℕ) (told : List Life) → with_openings origin own foreign (accepted s (inbound.Answer kind f) stamp).1 told ≡ told
  unfolding accepted
  answer_other s kind f stamp told = answer_step s kind f _ _ refl refl told

  -- nor does what a user asks for
  contact_other : (peer : Host) (b : Bool) (told : List Life) → with_openings origin own foreign (if b then notice.PairReset peer ∷ [] else []) told ≡ told
  contact_other peer true told = refl
  contact_other peer false told = refl

  pub request_other : (s : NcpState) (r : Request) (told : List Life) → with_openings origin own foreign (served_notices s r) told ≡ told
  unfolding served_notices
  request_other s (request.Contact peer) told = contact_other peer _ told
  request_other s r told = refl

  -- what goes out
  parcel_tells : (stamp : ℕ) (peer : Host) (listening : List Listener) (q : PairState) (p : Parcel) (x : End) (lives : List Life) → HasEnd origin own foreign q x
      → Tells origin own foreign [] (parcel_gone peer stamp q.busy p (desk_of q listening)).notices lives (all_lives_gone (marks stamp own foreign (commands_of q p)) x lives)
  parcel_tells stamp peer listening q (parcel.Commands count) x lives h =
      all_gone_tells origin own foreign 0 peer stamp (take count q.queue) (desk_of q listening) (marks 0 own foreign (drop count q.queue)) x lives
      (subst (λ (l : List Mark). Stand true origin 0 (at own foreign q.entries) l x) (parted origin own foreign 0 count q.queue) (h.ends 0))
  parcel_tells stamp peer listening q p x lives h = λ told k. k

  pub offer_tells : (s : NcpState) (stamp : ℕ) (g : Peer) (p : Parcel) (x : End) (told lives : List Life) → AreInOrder s.peers → next_in s.peers ≡ Some (g, p) → HasEnd origin own foreign (pair_with g.host s.peers) x
      → AreAmong told lives → AreAmong (with_openings origin own foreign (offered s stamp).1 told) (all_lives_gone (marks stamp own foreign (commands_of g.pair p)) x lives)
  unfolding offered
  offer_tells s stamp g p x told lives order is h k =
      rw is (parcel_tells stamp g.host _ g.pair p x lives (subst (λ (q : PairState). HasEnd origin own foreign q x) (next_pair _ g p order is) h) told k)
