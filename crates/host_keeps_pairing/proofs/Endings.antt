-- What each call reports of an end: what is known of it stays so.
use Rattle.host_keeps_pairing.proofs.Common.{◌≡◌, ℕ, Bool, true, false, not, ◌||◌, ◌==◌, if◌then◌else◌, List, [], ◌∷◌, ◌++◌, take, drop, Some, refl, ap, sym, subst, ◌∙◌, Host, same_host, Flow, Answer, HostMessage, same_host-refl, same_host-true, End, nothing, Mark, Life, TurnState, answered_turn, failed, failed_by, if_ready, is_gone, order_taken, orders_taken, reply_notices, reset_notices, settled_turn, with_desk, accepted_answer, turn_of, Legal, Order, Wrong, orders_of, data_taken, is_busy, commands_of, PairState, DeskState, desk_of, NcpState, pair_with, AreInOrder, is_ready, Parcel, parcel_gone, next_in, Listener, Notice, Peer, Phase, Request, next_pair, AllFit, all_gone, mark_in, marks, marks_in, HasEnd, Stand, at, kept_in, AreFree, AreJoint, after_request, Knows, all_known, known_after}
use Rattle.interface.specs.declared.crossing.Answer.TheVariants as answer
use Rattle.interface.specs.declared.crossing.Inbound.TheVariants as inbound
use Rattle.ncp_control.specs.declared.command.Command.TheVariants as command
use Rattle.host_pairs.specs.About.{AreAbout, IsAbout}
use Rattle.sockets.specs.Accepting.{accepted}
use Rattle.sockets.specs.Requests.{served_notices}
use Rattle.host_pairs.specs.Parcels as parcel
use Rattle.sockets.specs.Sending.{offered}
use Rattle.host_pairs.specs.declared.notice.Notice.TheVariants as notice
use Rattle.ncp_control.specs.declared.phase.Phase.TheVariants as phase
use Rattle.sockets.specs.declared.request.Request.TheVariants as request
use Rattle.host_keeps_pairing.specs.Words.{all_taken}
use Rattle.host_keeps_pairing.proofs.Calls.{put}
use Rattle.host_keeps_pairing.proofs.Known.{Learns, all_gone_learns, data_leaves, learns_on, taken_learns}
use Rattle.host_keeps_pairing.proofs.Passes.{parted}
use Rattle.host_keeps_pairing.proofs.Told.{control_notices, message_notices}
use Rattle.host_keeps_pairing.proofs.Turns.{all_taken_append, fit_first, one_order, orders_idle, ready_when, rfnm_idle, work_of}

-- ---- an end that the pair keeps

knows_nothing : (q : PairState) (x : End) (k : List Life) → (is_ready q.phase ≡ false → x ≡ nothing) → is_ready q.phase ≡ false → Knows k x → Knows k nothing
knows_nothing q x k idle e h = subst (λ (y : End). Knows k y) (idle e) h

knows_kept : (q : PairState) (x : End) (k : List Life) → (is_ready q.phase ≡ false → x ≡ nothing) → Knows k x → Knows k (kept_in q x)
knows_kept q x k idle h = by (is_ready q.phase) refl where
  by : (b : Bool) → is_ready q.phase ≡ b → Knows k (if b then x else nothing)
  by true e = h
  by false e = knows_nothing q x k idle e h

module _ (origin : ℕ → ℕ) (own foreign : ℕ) where
  -- ---- a turn

  work_learns : (peer : Host) (stamp : ℕ) (o : Order) (t : TurnState) (x : End) → AllFit (mark_in (origin stamp) foreign own o) x → HasEnd origin own foreign t.pair x
      → Learns origin peer own foreign [] (work_of peer t.pair.busy stamp o (desk_of t.pair t.listening)).notices x (all_taken (mark_in (origin stamp) foreign own o) x)
  work_learns peer stamp (Legal c) t x fit h = taken_learns origin peer own foreign 0 _ stamp c _ x fit (h.ends 0)
  work_learns peer stamp (Wrong code octets) t x fit h = λ k knows. knows

  orders_learn : (peer : Host) (stamp : ℕ) (os : List Order) (t : TurnState) (x : End) → AreJoint os → AreFree peer stamp os t → AllFit (marks_in (origin stamp) foreign own os) x → is_ready t.pair.phase ≡ true
      → HasEnd origin own foreign t.pair x → Learns origin peer own foreign t.notices (orders_taken peer stamp os t).notices x (all_taken (marks_in (origin stamp) foreign own os) x)
  orders_learn peer stamp [] t x joint free fit ready h k knows = knows
  orders_learn peer stamp (o ∷ os) t x joint free fit ready h k knows =
      let parts : AllFit (mark_in (origin stamp) foreign own o) x × AllFit (marks_in (origin stamp) foreign own os) (all_taken (mark_in (origin stamp) foreign own o) x) =
      fit_first origin own foreign _ _ x fit in
      let d : DeskState = work_of peer t.pair.busy stamp o (desk_of t.pair t.listening) in
      let next : order_taken peer stamp o t ≡ with_desk t d = ready_when peer stamp o t joint.0 ready in
      let one : HasEnd origin own foreign (order_taken peer stamp o t).pair (all_taken (mark_in (origin stamp) foreign own o) x) =
      subst (λ (u : TurnState). HasEnd origin own foreign u.pair (all_taken (mark_in (origin stamp) foreign own o) x)) (sym next) (one_order origin own foreign peer stamp o t x joint.0 free.0 parts.0 ready h) in
      let still : is_ready (order_taken peer stamp o t).pair.phase ≡ true = ap (λ (u : TurnState). is_ready u.pair.phase) next ∙ ready in
      let first : Learns origin peer own foreign t.notices (order_taken peer stamp o t).notices x (all_taken (mark_in (origin stamp) foreign own o) x) =
      subst (λ (u : TurnState). Learns origin peer own foreign t.notices u.notices x (all_taken (mark_in (origin stamp) foreign own o) x)) (sym next)
      (learns_on origin peer own foreign t.notices d.notices x (all_taken (mark_in (origin stamp) foreign own o) x) (work_learns peer stamp o t x parts.0 h)) in
      subst (λ (y : End). Knows (all_known origin peer own foreign (orders_taken peer stamp (o ∷ os) t).notices k) y) (sym (all_taken_append origin own foreign (mark_in (origin stamp) foreign own o) (marks_in (origin stamp) foreign own os) x))
      (orders_learn peer stamp os (order_taken peer stamp o t) (all_taken (mark_in (origin stamp) foreign own o) x) joint.1 free.1 parts.1 still one k (first k knows))

  -- ---- a pair that is ready no longer

  reset_knows : (peer : Host) (q : PairState) (ph : Phase) (x : End) (k : List Life) → q.phase ≡ ph → (is_ready q.phase ≡ false → x ≡ nothing) → Knows k x → Knows (all_known origin peer own foreign (reset_notices peer ph) k) nothing
  reset_knows peer q phase.Ready x k e idle h = let same : same_host peer peer ≡ true = same_host-refl peer in rw same tt
  reset_knows peer q ph x k e idle h = knows_nothing q x k idle (ap is_ready e) h

  reply_same : (peer : Host) (ph : Phase) (k : List Life) → all_known origin peer own foreign (reply_notices peer ph) k ≡ k
  reply_same peer phase.Closed k = refl
  reply_same peer ph k = refl

  -- notices after none
  after_none : (peer : Host) (old ns : List Notice) (k : List Life) (y : End) → old ≡ [] → Knows (all_known origin peer own foreign ns k) y → Knows (all_known origin peer own foreign (old ++ ns) k) y
  after_none peer old ns k y e h = subst (λ (l : List Notice). Knows (all_known origin peer own foreign (l ++ ns) k) y) (sym e) h

  failed_knows : (peer : Host) (ph : Phase) (t : TurnState) (x : End) (k : List Life) → t.pair.phase ≡ ph → t.notices ≡ [] → (is_ready t.pair.phase ≡ false → x ≡ nothing) → Knows k x
      → Knows (all_known origin peer own foreign (failed_by peer ph t).notices k) (kept_in (failed_by peer ph t).pair x)
  failed_knows peer phase.Closed t x k e none idle h = subst (λ (ns : List Notice). Knows (all_known origin peer own foreign ns k) (kept_in t.pair x)) (sym none) (knows_kept t.pair x k idle h)
  failed_knows peer phase.Want t x k e none idle h = subst (λ (ns : List Notice). Knows (all_known origin peer own foreign ns k) (kept_in t.pair x)) (sym none) (knows_kept t.pair x k idle h)
  failed_knows peer (phase.Gone early) t x k e none idle h = after_none peer _ _ k nothing none (knows_nothing t.pair x k idle (ap is_ready e) h)
  failed_knows peer phase.Heard t x k e none idle h = after_none peer _ _ k nothing none (knows_nothing t.pair x k idle (ap is_ready e) h)
  failed_knows peer phase.Ready t x k e none idle h =
      after_none peer _ _ k nothing none (let same : same_host peer peer ≡ true = same_host-refl peer in rw same tt)

  failing_knows : (peer : Host) (t : TurnState) (x : End) (k : List Life) → t.notices ≡ [] → (is_ready t.pair.phase ≡ false → x ≡ nothing) → Knows k x → Knows (all_known origin peer own foreign (failed peer t).notices k) (kept_in (failed peer t).pair x)
  failing_knows peer t x k none idle h = by (is_gone t.pair.phase || not t.pair.owed) where
    by : (b : Bool) → Knows (all_known origin peer own foreign (if b then failed_by peer t.pair.phase t else settled_turn t).notices k) (kept_in (if b then failed_by peer t.pair.phase t else settled_turn t).pair x)
    by true = failed_knows peer t.pair.phase t x k refl none idle h
    by false = after_none peer _ [] k _ none (knows_kept (settled_turn t).pair x k idle h)

  answered_knows : (peer : Host) (kind : Answer) (link : ℕ) (t : TurnState) (x : End) (k : List Life) → t.notices ≡ [] → HasEnd origin own foreign t.pair x → Knows k x
      → Knows (all_known origin peer own foreign (answered_turn peer kind link t).notices k) (kept_in (answered_turn peer kind link t).pair x)
  answered_knows peer answer.Rfnm link t x k none h knows =
      after_none peer _ [] k _ none
      (knows_kept (answered_turn peer answer.Rfnm link t).pair x k (λ e. h.idle (rfnm_idle _ _ e)) knows)
  answered_knows peer kind link t x k none h knows = failing_knows peer _ x k none h.idle knows

  -- ---- a host

  -- commands that are in order
  pub message_knows : (s : NcpState) (m : HostMessage) (stamp : ℕ) (x : End) (k : List Life) → same_host s.own m.flow.destination ≡ true → (m.flow.link.0 == 0) ≡ true → is_ready (pair_with m.flow.source s.peers).phase ≡ true
      → AreJoint (orders_of m.text) → AreFree m.flow.source stamp (orders_of m.text) (turn_of s m.flow.source) → AllFit (marks_in (origin stamp) foreign own (orders_of m.text)) x → HasEnd origin own foreign (pair_with m.flow.source s.peers) x
      → Knows k x → Knows (all_known origin m.flow.source own foreign (accepted s (inbound.Message m) stamp).1 k) (all_taken (marks_in (origin stamp) foreign own (orders_of m.text)) x)
  message_knows s m stamp x k mine zero ready joint free fit h knows =
      subst (λ (ns : List Notice). Knows (all_known origin m.flow.source own foreign ns k) (all_taken (marks_in (origin stamp) foreign own (orders_of m.text)) x)) (sym (control_notices origin own foreign s m stamp mine zero))
      (orders_learn m.flow.source stamp _ _ x joint free fit ready h k knows)

  one_notices : (s : NcpState) (m : HostMessage) (stamp : ℕ) (o : Order) → same_host s.own m.flow.destination ≡ true → (m.flow.link.0 == 0) ≡ true → orders_of m.text ≡ o ∷ []
      → (accepted s (inbound.Message m) stamp).1 ≡ (orders_taken m.flow.source stamp (o ∷ []) (turn_of s m.flow.source)).notices
  one_notices s m stamp o mine zero is = control_notices origin own foreign s m stamp mine zero ∙ ap (λ (os : List Order). (orders_taken m.flow.source stamp os (turn_of s m.flow.source)).notices) is

  pub rst_knows : (s : NcpState) (m : HostMessage) (stamp : ℕ) (x : End) (k : List Life) → same_host s.own m.flow.destination ≡ true → (m.flow.link.0 == 0) ≡ true → orders_of m.text ≡ Legal command.Rst ∷ []
      → HasEnd origin own foreign (pair_with m.flow.source s.peers) x → Knows k x → Knows (all_known origin m.flow.source own foreign (accepted s (inbound.Message m) stamp).1 k) nothing
  rst_knows s m stamp x k mine zero is h knows =
      subst (λ (ns : List Notice). Knows (all_known origin m.flow.source own foreign ns k) nothing) (sym (one_notices s m stamp _ mine zero is))
      (reset_knows _ (pair_with m.flow.source s.peers) _ x k refl h.idle knows)

  pub rrp_leaves : (s : NcpState) (m : HostMessage) (stamp : ℕ) (k : List Life) → same_host s.own m.flow.destination ≡ true → (m.flow.link.0 == 0) ≡ true → orders_of m.text ≡ Legal command.Rrp ∷ []
      → all_known origin m.flow.source own foreign (accepted s (inbound.Message m) stamp).1 k ≡ k
  rrp_leaves s m stamp k mine zero is =
      ap (λ (ns : List Notice). all_known origin m.flow.source own foreign ns k) (one_notices s m stamp _ mine zero is) ∙ reply_same _ _ k

  pub idle_leaves : (s : NcpState) (m : HostMessage) (stamp : ℕ) (k : List Life) → same_host s.own m.flow.destination ≡ true → (m.flow.link.0 == 0) ≡ true → is_ready (pair_with m.flow.source s.peers).phase ≡ false → AreJoint (orders_of m.text)
      → all_known origin m.flow.source own foreign (accepted s (inbound.Message m) stamp).1 k ≡ k
  idle_leaves s m stamp k mine zero idle joint =
      ap (λ (ns : List Notice). all_known origin m.flow.source own foreign ns k)
      (control_notices origin own foreign s m stamp mine zero ∙ ap (λ (t : TurnState). t.notices) (orders_idle _ stamp _ _ joint idle))

  -- data
  data_same : (peer : Host) (link : ℕ) (text : List Bool) (t : TurnState) (k : List Life) → t.notices ≡ [] → all_known origin peer own foreign (if_ready (data_taken link text) t).notices k ≡ k
  data_same peer link text t k none = by (is_ready t.pair.phase) where
    by : (b : Bool) → all_known origin peer own foreign (if b then with_desk t (data_taken link text (desk_of t.pair t.listening)) else t).notices k ≡ k
    by true = ap (λ (ns : List Notice). all_known origin peer own foreign (ns ++ (data_taken link text (desk_of t.pair t.listening)).notices) k) none ∙ data_leaves origin peer own foreign link text (desk_of t.pair t.listening) k
    by false = ap (λ (ns : List Notice). all_known origin peer own foreign ns k) none

  pub data_told_same : (s : NcpState) (m : HostMessage) (stamp : ℕ) (k : List Life) → same_host s.own m.flow.destination ≡ true → (m.flow.link.0 == 0) ≡ false → all_known origin m.flow.source own foreign (accepted s (inbound.Message m) stamp).1 k ≡ k
  data_told_same s m stamp k mine away =
      let is : (accepted s (inbound.Message m) stamp).1 ≡ (if_ready (data_taken m.flow.link.0 m.text) (turn_of s m.flow.source)).notices =
      message_notices origin own foreign s m stamp mine ∙ ap (λ (b : Bool). (if b then orders_taken m.flow.source stamp (orders_of m.text) (turn_of s m.flow.source) else if_ready (data_taken m.flow.link.0 m.text) (turn_of s m.flow.source)).notices) away in
      ap (λ (ns : List Notice). all_known origin m.flow.source own foreign ns k) is ∙ data_same m.flow.source m.flow.link.0 m.text (turn_of s m.flow.source) k refl

  -- an answer
  answer_step : (s : NcpState) (kind : Answer) (f : Flow) (x : End) (k : List Life) → HasEnd origin own foreign (pair_with f.destination s.peers) x → Knows k x → (b c : Bool) → same_host s.own f.source ≡ b → is_busy (pair_with f.destination s.peers).busy f.link.0 ≡ c
      → Knows (all_known origin f.destination own foreign (accepted_answer s kind f).1 k) (kept_in (pair_with f.destination (accepted_answer s kind f).0.peers) x)
  answer_step s kind f x k h knows true true e g =
      rw (e, g) (subst (λ (q : PairState). Knows (all_known origin f.destination own foreign (answered_turn f.destination kind f.link.0 (turn_of s f.destination)).notices k) (kept_in q x)) (sym (put f.destination _ s.peers))
      (answered_knows _ kind _ _ x k refl h knows))
  answer_step s kind f x k h knows true false e g = rw (e, g) (knows_kept (pair_with f.destination s.peers) x k h.idle knows)
  answer_step s kind f x k h knows false c e g = rw e (knows_kept (pair_with f.destination s.peers) x k h.idle knows)

  pub answer_knows : (s : NcpState) (kind : Answer) (f : Flow) (stamp : ℕ) (x : End) (k : List Life) → HasEnd origin own foreign (pair_with f.destination s.peers) x → Knows k x
      → Knows (all_known origin f.destination own foreign (accepted s (inbound.Answer kind f) stamp).1 k) (kept_in (pair_with f.destination (accepted s (inbound.Answer kind f) stamp).0.peers) x)
  unfolding accepted
  answer_knows s kind f stamp x k h knows = answer_step s kind f x k h knows _ (is_busy (pair_with f.destination s.peers).busy f.link.0) refl refl

  -- what a user asks for
  contact_knows : (s : NcpState) (contacted peer : Host) (x : End) (k : List Life) → HasEnd origin own foreign (pair_with peer s.peers) x → Knows k x → (b c : Bool) → same_host peer contacted ≡ b → is_ready (pair_with contacted s.peers).phase ≡ c
      → Knows (all_known origin peer own foreign (if c then notice.PairReset contacted ∷ [] else []) k) (if b then nothing else x)
  contact_knows s contacted peer x k h knows true true e f = rw e tt
  contact_knows s contacted peer x k h knows true false e f =
      knows_nothing (pair_with peer s.peers) x k h.idle (ap (λ (g : Host). is_ready (pair_with g s.peers).phase) (same_host-true peer contacted e) ∙ f) knows
  contact_knows s contacted peer x k h knows false true e f = rw e knows
  contact_knows s contacted peer x k h knows false false e f = knows

  pub request_knows : (s : NcpState) (r : Request) (peer : Host) (x : End) (k : List Life) → HasEnd origin own foreign (pair_with peer s.peers) x → Knows k x
      → Knows (all_known origin peer own foreign (served_notices s r) k) (after_request peer r x)
  unfolding served_notices
  request_knows s (request.Contact contacted) peer x k h knows = contact_knows s contacted peer x k h knows _ _ refl refl
  request_knows s r peer x k h knows = knows

  -- what goes out
  parcel_knows : (stamp : ℕ) (peer : Host) (listening : List Listener) (q : PairState) (p : Parcel) (x : End) → HasEnd origin own foreign q x
      → Learns origin peer own foreign [] (parcel_gone peer stamp q.busy p (desk_of q listening)).notices x (all_gone (marks stamp own foreign (commands_of q p)) x)
  parcel_knows stamp peer listening q (parcel.Commands count) x h =
      all_gone_learns origin peer own foreign 0 stamp (take count q.queue) (desk_of q listening) (marks 0 own foreign (drop count q.queue)) x
      (subst (λ (l : List Mark). Stand true origin 0 (at own foreign q.entries) l x) (parted origin own foreign 0 count q.queue) (h.ends 0))
  parcel_knows stamp peer listening q p x h = λ k knows. knows

  pub offer_knows : (s : NcpState) (stamp : ℕ) (g : Peer) (p : Parcel) (x : End) (k : List Life) → AreInOrder s.peers → next_in s.peers ≡ Some (g, p) → HasEnd origin own foreign (pair_with g.host s.peers) x
      → Knows k x → Knows (all_known origin g.host own foreign (offered s stamp).1 k) (all_gone (marks stamp own foreign (commands_of g.pair p)) x)
  unfolding offered
  offer_knows s stamp g p x k order is h knows =
      rw is (parcel_knows stamp g.host _ g.pair p x (subst (λ (q : PairState). HasEnd origin own foreign q x) (next_pair _ g p order is) h) k knows)

  -- ---- what is reported of another peer

  other_one : (peer other : Host) (n : Notice) (k : List Life) → IsAbout other n → same_host peer other ≡ false → known_after origin peer own foreign n k ≡ k
  other_one peer other (notice.PairReset p) k is away = let e : same_host peer p ≡ false = ap (same_host peer) is ∙ away in rw e refl
  other_one peer other (notice.Opened socket p there asked partner) k is away = let e : same_host peer p ≡ false = ap (same_host peer) is ∙ away in rw e refl
  other_one peer other (notice.Ended socket p there) k is away = let e : same_host peer p ≡ false = ap (same_host peer) is ∙ away in rw e refl
  other_one peer other n k is away = refl

  pub others_leave : (peer other : Host) (ns : List Notice) (k : List Life) → AreAbout other ns → same_host peer other ≡ false → all_known origin peer own foreign ns k ≡ k
  others_leave peer other [] k are away = refl
  others_leave peer other (n ∷ ns) k are away = others_leave peer other ns (known_after origin peer own foreign n k) are.1 away ∙ other_one peer other n k are.0 away
