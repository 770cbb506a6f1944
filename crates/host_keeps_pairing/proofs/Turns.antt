-- What comes in, at one pair of sockets: the orders of a message, an RST, an RRP, data, and answers.
use Rattle.host_keeps_pairing.proofs.Common.{◌≡◌, ℕ, Bool, true, false, not, ◌||◌, ◌==◌, if◌then◌else◌, List, [], ◌∷◌, ◌++◌, refl, ap, sym, subst, ◌∙◌, Host, Answer, Command, End, nothing, mark_taken, Mark, TurnState, if_ready, with_desk, order_taken, orders_taken, settled_turn, failed_by, failed, is_gone, answered_turn, Order, Legal, Wrong, error, data_taken, PairState, DeskState, desk_of, command_queued, is_ready, Phase, AllFit, mark_in, marks_in, HasEnd, kept_in, AreFree, AreJoint}
use Rattle.interface.specs.declared.crossing.Answer.TheVariants as answer
use Rattle.ncp_control.specs.Command.{is_alone}
use Rattle.ncp_control.specs.declared.command.Command.TheVariants as command
use Rattle.host_pairs.specs.Turn.{reset_taken, reply_taken, command_taken, freed}
use Rattle.host_pairs.specs.Commands as commands
use Rattle.ncp_control.specs.Phases.{reply_phase, taken_phase}
use Rattle.ncp_control.specs.declared.phase.Phase.TheVariants as phase
use Rattle.host_keeps_pairing.specs.Words.{all_taken}
use Rattle.host_keeps_pairing.specs.Ends.{AreEnd}
use Rattle.host_keeps_pairing.specs.Hearing.{IsFreeIn, IsJoint}
use Rattle.host_keeps_pairing.proofs.Desks.{on_queued, on_settled}
use Rattle.host_keeps_pairing.proofs.Takes.{on_data, on_taken}

-- no RST and no RRP is taken as one
taken_when : (peer : Host) (stamp : ℕ) (c : Command) (t : TurnState) → is_alone c ≡ false → command_taken peer stamp c t ≡ if_ready (commands.desk_taken peer t.pair.busy stamp c) t
taken_when peer stamp command.Rst t e = absurd (cc)
taken_when peer stamp command.Rrp t e = absurd (cc)
taken_when peer stamp c t e = refl

-- an order does its work on the connections, where the pair is ready
abbrev pub work_of : Host → List ℕ → ℕ → Order → DeskState → DeskState
work_of peer busy stamp (Legal c) d = commands.desk_taken peer busy stamp c d
work_of peer busy stamp (Wrong code octets) d = command_queued (error code octets) d

order_when : (peer : Host) (stamp : ℕ) (o : Order) (t : TurnState) → IsJoint o → order_taken peer stamp o t ≡ if_ready (work_of peer t.pair.busy stamp o) t
order_when peer stamp (Legal c) t e = taken_when peer stamp c t e
order_when peer stamp (Wrong code octets) t e = refl

-- ---- where the pair isn't ready nothing happens

pub orders_idle : (peer : Host) (stamp : ℕ) (os : List Order) (t : TurnState) → AreJoint os → is_ready t.pair.phase ≡ false → orders_taken peer stamp os t ≡ t
orders_idle peer stamp [] t e idle = refl
orders_idle peer stamp (o ∷ os) t e idle =
    let one : order_taken peer stamp o t ≡ t = order_when peer stamp o t e.0 ∙ ap (λ (b : Bool). if b then with_desk t (work_of peer t.pair.busy stamp o (desk_of t.pair t.listening)) else t) idle in
    ap (λ (u : TurnState). orders_taken peer stamp os u) one ∙ orders_idle peer stamp os t e.1 idle

-- ---- where it is ready

pub ready_when : (peer : Host) (stamp : ℕ) (o : Order) (t : TurnState) → IsJoint o → is_ready t.pair.phase ≡ true → order_taken peer stamp o t ≡ with_desk t (work_of peer t.pair.busy stamp o (desk_of t.pair t.listening))
ready_when peer stamp o t e ready = order_when peer stamp o t e ∙ ap (λ (b : Bool). if b then with_desk t (work_of peer t.pair.busy stamp o (desk_of t.pair t.listening)) else t) ready

-- a pair that is not ready after an RRP was not ready before it
pub reply_idle : (ph : Phase) → is_ready (reply_phase ph) ≡ false → is_ready ph ≡ false
reply_idle phase.Ready e = absurd (cc)
reply_idle ph e = refl

-- a pair that is not ready after an RFNM was not ready before it
pub rfnm_idle : (zero : Bool) (ph : Phase) → is_ready (if zero then taken_phase ph else ph) ≡ false → is_ready ph ≡ false
rfnm_idle false ph e = e
rfnm_idle true phase.Closed e = refl
rfnm_idle true phase.Want e = refl
rfnm_idle true (phase.Gone true) e = refl
rfnm_idle true (phase.Gone false) e = refl
rfnm_idle true phase.Heard e = refl
rfnm_idle true phase.Ready e = absurd (cc)

module _ (origin : ℕ → ℕ) (own foreign : ℕ) where
  -- a desk that is done, at a pair that is ready
  done : (t : TurnState) (d : DeskState) (x : End) → is_ready t.pair.phase ≡ true → AreEnd true origin own foreign d.entries d.queue x → HasEnd origin own foreign (with_desk t d).pair x
  done t d x ready h = record { ends = h; idle = λ e. absurd (let r : true ≡ false = sym ready ∙ e in cc) }

  pub one_order : (peer : Host) (stamp : ℕ) (o : Order) (t : TurnState) (x : End) → IsJoint o → IsFreeIn o t → AllFit (mark_in (origin stamp) foreign own o) x → is_ready t.pair.phase ≡ true → HasEnd origin own foreign t.pair x
      → HasEnd origin own foreign (with_desk t (work_of peer t.pair.busy stamp o (desk_of t.pair t.listening))).pair (all_taken (mark_in (origin stamp) foreign own o) x)
  one_order peer stamp (Legal c) t x joint free fit ready h =
      done t (commands.desk_taken peer t.pair.busy stamp c (desk_of t.pair t.listening)) _ ready
      (λ place. on_taken origin own foreign place peer t.pair.busy stamp c (desk_of t.pair t.listening) x free fit (h.ends place))
  one_order peer stamp (Wrong code octets) t x joint free fit ready h =
      done t (command_queued (error code octets) (desk_of t.pair t.listening)) x ready (λ place. on_queued origin own foreign place true (error code octets) (desk_of t.pair t.listening) x refl (h.ends place))

  pub all_taken_append : (ms ns : List Mark) (x : End) → all_taken (ms ++ ns) x ≡ all_taken ns (all_taken ms x)
  all_taken_append [] ns x = refl
  all_taken_append (m ∷ ms) ns x = all_taken_append ms ns (mark_taken m x)

  pub fit_first : (ms ns : List Mark) (x : End) → AllFit (ms ++ ns) x → AllFit ms x × AllFit ns (all_taken ms x)
  fit_first [] ns x h = (tt, h)
  fit_first (m ∷ ms) ns x h = let r : AllFit ms (mark_taken m x) × AllFit ns (all_taken ms (mark_taken m x)) = fit_first ms ns (mark_taken m x) h.1 in ((h.0, r.0), r.1)

  pub orders_ready : (peer : Host) (stamp : ℕ) (os : List Order) (t : TurnState) (x : End) → AreJoint os → AreFree peer stamp os t → AllFit (marks_in (origin stamp) foreign own os) x → is_ready t.pair.phase ≡ true
      → HasEnd origin own foreign t.pair x → HasEnd origin own foreign (orders_taken peer stamp os t).pair (all_taken (marks_in (origin stamp) foreign own os) x)
  orders_ready peer stamp [] t x joint free fit ready h = h
  orders_ready peer stamp (o ∷ os) t x joint free fit ready h =
      let parts : AllFit (mark_in (origin stamp) foreign own o) x × AllFit (marks_in (origin stamp) foreign own os) (all_taken (mark_in (origin stamp) foreign own o) x) =
      fit_first _ _ x fit in
      let next : order_taken peer stamp o t ≡ with_desk t (work_of peer t.pair.busy stamp o (desk_of t.pair t.listening)) = ready_when peer stamp o t joint.0 ready in
      let one : HasEnd origin own foreign (order_taken peer stamp o t).pair (all_taken (mark_in (origin stamp) foreign own o) x) =
      subst (λ (u : TurnState). HasEnd origin own foreign u.pair (all_taken (mark_in (origin stamp) foreign own o) x)) (sym next) (one_order peer stamp o t x joint.0 free.0 parts.0 ready h) in
      let still : is_ready (order_taken peer stamp o t).pair.phase ≡ true = ap (λ (u : TurnState). is_ready u.pair.phase) next ∙ ready in
      subst (λ (y : End). HasEnd origin own foreign (orders_taken peer stamp (o ∷ os) t).pair y) (sym (all_taken_append (mark_in (origin stamp) foreign own o) (marks_in (origin stamp) foreign own os) x))
      (orders_ready peer stamp os (order_taken peer stamp o t) (all_taken (mark_in (origin stamp) foreign own o) x) joint.1 free.1 parts.1 still one)

  -- ---- RST, RRP and data

  pub after_reset : (peer : Host) (t : TurnState) → HasEnd origin own foreign (reset_taken peer t).pair nothing
  after_reset peer t = record { ends = λ place. (refl, refl); idle = λ e. refl }

  pub after_reply : (peer : Host) (t : TurnState) (x : End) → HasEnd origin own foreign t.pair x → HasEnd origin own foreign (reply_taken peer t).pair x
  after_reply peer t x h = record { ends = h.ends; idle = λ e. h.idle (reply_idle _ e) }

  pub after_data : (link : ℕ) (text : List Bool) (t : TurnState) (x : End) → HasEnd origin own foreign t.pair x → HasEnd origin own foreign (if_ready (data_taken link text) t).pair x
  after_data link text t x h = by (is_ready t.pair.phase) refl where
    by : (b : Bool) → is_ready t.pair.phase ≡ b → HasEnd origin own foreign (if b then with_desk t (data_taken link text (desk_of t.pair t.listening)) else t).pair x
    by true e = done t (data_taken link text (desk_of t.pair t.listening)) x e (λ place. on_data origin own foreign place link text (desk_of t.pair t.listening) x (h.ends place))
    by false e = h

  -- ---- answers

  after_settled : (t : TurnState) (x : End) → HasEnd origin own foreign t.pair x → HasEnd origin own foreign (settled_turn t).pair x
  after_settled t x h = record { ends = λ place. on_settled origin own foreign place true t.pair.busy (desk_of t.pair t.listening) x (h.ends place); idle = h.idle }

  pub same_kept : (q : PairState) (x : End) → HasEnd origin own foreign q x → HasEnd origin own foreign q (kept_in q x)
  same_kept q x h = by (is_ready q.phase) refl where
    by : (b : Bool) → is_ready q.phase ≡ b → HasEnd origin own foreign q (if b then x else nothing)
    by true e = h
    by false e = subst (λ (y : End). HasEnd origin own foreign q y) (h.idle e) h

  fails : (peer : Host) (ph : Phase) (t : TurnState) (x : End) → t.pair.phase ≡ ph → HasEnd origin own foreign t.pair x → HasEnd origin own foreign (failed_by peer ph t).pair (kept_in (failed_by peer ph t).pair x)
  fails peer phase.Closed t x e h = same_kept t.pair x h
  fails peer phase.Want t x e h = same_kept t.pair x h
  fails peer ph t x e h = record { ends = λ place. (refl, refl); idle = λ i. refl }

  after_failed : (peer : Host) (t : TurnState) (x : End) → HasEnd origin own foreign t.pair x → HasEnd origin own foreign (failed peer t).pair (kept_in (failed peer t).pair x)
  after_failed peer t x h = by (is_gone t.pair.phase || not t.pair.owed) where
    by : (b : Bool) → HasEnd origin own foreign (if b then failed_by peer t.pair.phase t else settled_turn t).pair (kept_in (if b then failed_by peer t.pair.phase t else settled_turn t).pair x)
    by true = fails peer t.pair.phase t x refl h
    by false = same_kept _ x (after_settled t x h)

  pub after_answer : (peer : Host) (kind : Answer) (link : ℕ) (t : TurnState) (x : End) → HasEnd origin own foreign t.pair x
      → HasEnd origin own foreign (answered_turn peer kind link t).pair (kept_in (answered_turn peer kind link t).pair x)
  after_answer peer answer.Rfnm link t x h =
      same_kept _ x
      (after_settled (record t { pair = record (freed link t.pair) { phase = if link == 0 then taken_phase t.pair.phase else t.pair.phase } }) x (record { ends = h.ends; idle = λ e. h.idle (rfnm_idle _ _ e) }))
  after_answer peer kind link t x h = after_failed peer _ x (record { ends = h.ends; idle = h.idle })
