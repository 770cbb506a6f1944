-- What comes in is, for each peer, a step of the law of resets.
use Rattle.net_sim.proofs.Common.{◌≡◌, ℕ, Bool, not, ◌==◌, if◌then◌else◌, List, [], ◌∷◌, filter, Option, None, refl, ap, sym, subst, ◌∙◌, eq-eqb, eqb-true, Host, Answer, Command, TurnState, if_ready, command_taken, order_taken, orders_taken, message_taken, answered_turn, desk_taken, Order, Legal, Wrong, orders_of, error, data_taken, is_busy, PairState, DeskState, desk_of, command_queued, Entry, Listener, Notice, at_link, Message, Reset, Reply, Other, Pair, Kind, has_control, is_rst, is_rrp, names_control, is_alone, message_on, Agrees, IsPlain, AllPlain, IsApart}
use Rattle.std.proofs.Common.{true, false, is_some}
use Rattle.interface.specs.declared.crossing.Answer.TheVariants as answer
use Rattle.ncp_control.specs.declared.command.Command.TheVariants as command
use Rattle.host_pairs.specs.Turn.{with_desk, reset_taken, reply_taken, freed, settled_turn, rfnm_taken, failed}
use Rattle.ncp_control.specs.Phases as program
use Rattle.ncp_control.specs.declared.phase.Phase as host
use Rattle.ncp_control.specs.declared.phase.Phase.TheVariants as phase
use Rattle.reset_law.specs.Pairs.{took, pair_answered}
use Rattle.net_sim.specs.Projection.{control_message}
use Rattle.net_sim.proofs.Resets.Kept.{Kept, kept_taken, kept_data, kept_error, kept_settled}

-- ---- phases

-- a pair that is ready stays so by an RRP and by an RFNM
reply_ready : (ph : host.Phase) → program.is_ready ph ≡ true → program.is_ready (program.reply_phase ph) ≡ true
reply_ready phase.Heard h = refl
reply_ready phase.Ready h = refl
reply_ready ph h = h

taken_ready : (ph : host.Phase) → program.is_ready ph ≡ true → program.is_ready (program.taken_phase ph) ≡ true
taken_ready phase.Ready h = refl
taken_ready (phase.Gone true) h = h
taken_ready ph h = h

rfnm_ready : (zero : Bool) (ph : host.Phase) → program.is_ready ph ≡ true → program.is_ready (if zero then program.taken_phase ph else ph) ≡ true
rfnm_ready true ph h = taken_ready ph h
rfnm_ready false ph h = h

-- ---- the connections

pub linked_by : (b c : Bool) → (b ≡ true → c ≡ true) → c ≡ false → b ≡ false
linked_by true c k none = absurd (let both : true ≡ false = sym (k refl) ∙ none in cc)
linked_by false c k none = refl

agrees_desk : (t : TurnState) (p : Pair) (d : DeskState) → Agrees t.pair p → Kept (desk_of t.pair t.listening) d → Agrees (with_desk t d).pair p
agrees_desk t p d a k = record { phase = a.phase; owed = a.owed; busy = a.busy; ready = λ h. a.ready (k.asked h); begun = λ h. a.begun (k.asked h); plain = k.plain a.plain; linked = linked_by (has_control d.entries) (has_control t.pair.entries) k.linked a.linked }

ready_by : (work : DeskState → DeskState) (t : TurnState) (p : Pair) → ((d : DeskState) → Kept d (work d)) → Agrees t.pair p → (b : Bool) → program.is_ready t.pair.phase ≡ b → Agrees (if_ready work t).pair p
ready_by work t p k a true e = rw e (agrees_desk t p (work (desk_of t.pair t.listening)) a (k (desk_of t.pair t.listening)))
ready_by work t p k a false e = rw e a

agrees_if : (work : DeskState → DeskState) (t : TurnState) (p : Pair) → ((d : DeskState) → Kept d (work d)) → Agrees t.pair p → Agrees (if_ready work t).pair p
agrees_if work t p k a = ready_by work t p k a (program.is_ready t.pair.phase) refl

-- ---- RST and RRP

agrees_reset : (peer : Host) (t : TurnState) (p : Pair) → Agrees t.pair p → Agrees (reset_taken peer t).pair (took Reset p)
agrees_reset peer t p a = record {
  phase = ap program.reset_phase a.phase;
  owed = refl;
  busy = a.busy;
  ready = λ h. absurd (cc);
  begun = λ h. absurd (cc);
  plain = tt;
  linked = refl;
}

agrees_reply : (peer : Host) (t : TurnState) (p : Pair) → Agrees t.pair p → Agrees (reply_taken peer t).pair (took Reply p)
agrees_reply peer t p a = record {
  phase = ap program.reply_phase a.phase;
  owed = a.owed;
  busy = a.busy;
  ready = λ h. reply_ready t.pair.phase (a.ready h);
  begun = a.begun;
  plain = a.plain;
  linked = a.linked;
}

-- ---- orders

agrees_command : (peer : Host) (stamp : ℕ) (c : Command) (t : TurnState) (p : Pair) → is_rst c ≡ false → is_rrp c ≡ false → names_control c ≡ false → Agrees t.pair p → Agrees (command_taken peer stamp c t).pair p
agrees_command peer stamp command.Rst t p rst rrp away a = absurd (cc)
agrees_command peer stamp command.Rrp t p rst rrp away a = absurd (cc)
agrees_command peer stamp c t p rst rrp away a = agrees_if (desk_taken peer t.pair.busy stamp c) t p (kept_taken peer t.pair.busy stamp c away) a

agrees_order : (peer : Host) (stamp : ℕ) (o : Order) (t : TurnState) (p : Pair) → IsPlain o → Agrees t.pair p → Agrees (order_taken peer stamp o t).pair p
agrees_order peer stamp (Legal c) t p plain a = agrees_command peer stamp c t p plain.0 plain.1 plain.2 a
agrees_order peer stamp (Wrong code octets) t p plain a = agrees_if (command_queued (error code octets)) t p (kept_error code octets) a

agrees_orders : (peer : Host) (stamp : ℕ) (os : List Order) (t : TurnState) (p : Pair) → AllPlain os → Agrees t.pair p → Agrees (orders_taken peer stamp os t).pair p
agrees_orders peer stamp [] t p plain a = a
agrees_orders peer stamp (o ∷ os) t p plain a = agrees_orders peer stamp os (order_taken peer stamp o t) p plain.1 (agrees_order peer stamp o t p plain.0 a)

pub rst_is : (c : Command) → is_rst c ≡ true → c ≡ command.Rst
rst_is command.Rst e = refl
rst_is c e = absurd (cc)

pub rrp_is : (c : Command) → is_rrp c ≡ true → c ≡ command.Rrp
rrp_is command.Rrp e = refl
rrp_is c e = absurd (cc)

pub alone_is : (test : Command → Bool) (x : Command) → ((c : Command) → test c ≡ true → c ≡ x) → (os : List Order) → is_alone test os ≡ true → os ≡ Legal x ∷ []
alone_is test x only [] e = absurd (cc)
alone_is test x only (Legal c ∷ []) e = ap (λ (y : Command). Legal y ∷ []) (only c e)
alone_is test x only (Legal c ∷ o ∷ os) e = absurd (cc)
alone_is test x only (Wrong code octets ∷ os) e = absurd (cc)

agrees_control : (peer : Host) (stamp : ℕ) (text : List Bool) (os : List Order) (t : TurnState) (p : Pair)
    → (is_alone is_rst os ≡ false → is_alone is_rrp os ≡ false → AllPlain os) → Agrees t.pair p
    → (rst rrp : Bool) → is_alone is_rst os ≡ rst → is_alone is_rrp os ≡ rrp → Agrees (orders_taken peer stamp os t).pair (took (control_message text os) p)
agrees_control peer stamp text os t p plain a true rrp e f =
    let is : os ≡ Legal command.Rst ∷ [] = alone_is is_rst command.Rst rst_is os e in
    subst (λ (xs : List Order). Agrees (orders_taken peer stamp xs t).pair (took (control_message text xs) p)) (sym is) (agrees_reset peer t p a)
agrees_control peer stamp text os t p plain a false true e f =
    let is : os ≡ Legal command.Rrp ∷ [] = alone_is is_rrp command.Rrp rrp_is os f in
    subst (λ (xs : List Order). Agrees (orders_taken peer stamp xs t).pair (took (control_message text xs) p)) (sym is) (agrees_reply peer t p a)
agrees_control peer stamp text os t p plain a false false e f = rw (e, f) (agrees_orders peer stamp os t p (plain e f) a)

-- ---- a message

apart_by : (link : ℕ) (text : List Bool) → (link == 0) ≡ true → IsApart link text (message_on link text)
    → (rst rrp : Bool) → is_alone is_rst (orders_of text) ≡ rst → is_alone is_rrp (orders_of text) ≡ rrp → rst ≡ false → rrp ≡ false → AllPlain (orders_of text)
apart_by link text zero apart rst rrp e f g h =
    let w : is_alone is_rst (orders_of text) ≡ false = e ∙ g in
    let v : is_alone is_rrp (orders_of text) ≡ false = f ∙ h in
    let same : message_on link text ≡ Other text = rw (zero, w, v) refl in
    (subst (λ (m : Message). IsApart link text m) same apart) zero

message_by : (peer : Host) (stamp link : ℕ) (text : List Bool) (t : TurnState) (p : Pair) → IsApart link text (message_on link text) → Agrees t.pair p
    → (zero : Bool) → (link == 0) ≡ zero → Agrees (message_taken peer stamp link text t).pair (took (message_on link text) p)
message_by peer stamp link text t p apart a true e =
    let plain : is_alone is_rst (orders_of text) ≡ false → is_alone is_rrp (orders_of text) ≡ false → AllPlain (orders_of text) =
    λ g h. apart_by link text e apart (is_alone is_rst (orders_of text)) (is_alone is_rrp (orders_of text)) refl refl g h in
    rw e (agrees_control peer stamp text (orders_of text) t p plain a (is_alone is_rst (orders_of text)) (is_alone is_rrp (orders_of text)) refl refl)
message_by peer stamp link text t p apart a false e = rw e (agrees_if (data_taken link text) t p (kept_data link text) a)

pub agrees_message : (peer : Host) (stamp link : ℕ) (text : List Bool) (t : TurnState) (p : Pair) → IsApart link text (message_on link text) → Agrees t.pair p
    → Agrees (message_taken peer stamp link text t).pair (took (message_on link text) p)
agrees_message peer stamp link text t p apart a = message_by peer stamp link text t p apart a (link == 0) refl

-- ---- an answer

free_step : (x link k : ℕ) (xs : List ℕ) → is_busy (filter (λ l. not (l == link)) xs) k ≡ (if k == link then false else is_busy xs k)
    → (at same mine : Bool) → (x == link) ≡ at → (k == link) ≡ same → (x == k) ≡ mine
    → is_busy (filter (λ l. not (l == link)) (x ∷ xs)) k ≡ (if k == link then false else is_busy (x ∷ xs) k)
free_step x link k xs rest true true mine e f g = let r : is_busy (filter (λ l. not (l == link)) xs) k ≡ false = rw f at rest in rw (e, f) r
free_step x link k xs rest true false true e f g =
    absurd (let a : k ≡ link = sym (eqb-true x k g) ∙ eqb-true x link e in let b : true ≡ false = sym (eq-eqb k link a) ∙ f in cc)
free_step x link k xs rest true false false e f g = let r : is_busy (filter (λ l. not (l == link)) xs) k ≡ is_busy xs k = rw f at rest in rw (e, f, g) r
free_step x link k xs rest false true true e f g =
    absurd (let a : x ≡ link = eqb-true x k g ∙ eqb-true k link f in let b : true ≡ false = sym (eq-eqb x link a) ∙ e in cc)
free_step x link k xs rest false true false e f g = let r : is_busy (filter (λ l. not (l == link)) xs) k ≡ false = rw f at rest in rw (e, f, g) r
free_step x link k xs rest false false true e f g = rw (e, f, g) refl
free_step x link k xs rest false false false e f g = let r : is_busy (filter (λ l. not (l == link)) xs) k ≡ is_busy xs k = rw f at rest in rw (e, f, g) r

free_none : (b : Bool) → false ≡ (if b then false else false)
free_none true = refl
free_none false = refl

free_busy : (link k : ℕ) (xs : List ℕ) → is_busy (filter (λ l. not (l == link)) xs) k ≡ (if k == link then false else is_busy xs k)
free_busy link k [] = free_none (k == link)
free_busy link k (x ∷ xs) = free_step x link k xs (free_busy link k xs) (x == link) (k == link) (x == k) refl refl refl

out_by : (b : Bool) (o : Option Kind) → is_some (if b then None else o) ≡ (if b then false else is_some o)
out_by true o = refl
out_by false o = refl

pub freed_busy : (q : PairState) (p : Pair) (link : ℕ) → ((k : ℕ) → is_some (p.out k) ≡ is_busy q.busy k) → (k : ℕ) → is_some (at_link p.out link None k) ≡ is_busy (freed link q).busy k
freed_busy q p link h k =
    out_by (k == link) (p.out k) ∙ ap (λ (b : Bool). if k == link then false else b) (h k) ∙ sym (free_busy link k q.busy)

agrees_freed : (q : PairState) (p : Pair) (link : ℕ) → Agrees q p → Agrees (freed link q) (record p { out = at_link p.out link None })
agrees_freed q p link a = record { phase = a.phase; owed = a.owed; busy = freed_busy q p link a.busy; ready = a.ready; begun = a.begun; plain = a.plain; linked = a.linked }

agrees_settled : (t : TurnState) (p : Pair) → Agrees t.pair p → Agrees (settled_turn t).pair p
agrees_settled t p a = agrees_desk t p _ a (kept_settled t.pair.busy (desk_of t.pair t.listening))

agrees_rfnm : (link : ℕ) (t : TurnState) (p : Pair) → Agrees t.pair p → Agrees (rfnm_taken link t).pair (record p { phase = program.rfnm_phase link p.phase })
agrees_rfnm link t p a =
    let ph : program.rfnm_phase link p.phase ≡ program.rfnm_phase link t.pair.phase = ap (program.rfnm_phase link) a.phase in
    agrees_settled (record t { pair = record t.pair { phase = program.rfnm_phase link t.pair.phase } }) (record p { phase = program.rfnm_phase link p.phase })
    (record { phase = ph; owed = a.owed; busy = a.busy; ready = λ h. rfnm_ready (link == 0) t.pair.phase (a.ready h); begun = a.begun; plain = a.plain; linked = a.linked })

-- what becomes of a pair when a message of it fails
abbrev unsaid : Pair → Pair
unsaid p = record p { phase = program.failed_phase p.phase p.owed; begun = if p.owed then p.begun else false }

abbrev turn_by : host.Phase → Bool → List ℕ → List Entry → List Command → List Listener → List Notice → TurnState
turn_by ph owed busy entries queue listening notices =
    record { pair = record { phase = ph; owed = owed; busy = busy; entries = entries; queue = queue }; listening = listening; notices = notices }

fails_to : (p : Pair) (ph : host.Phase) (owed : Bool) → p.phase ≡ ph → p.owed ≡ owed → program.failed_phase p.phase p.owed ≡ program.failed_phase ph owed
fails_to p ph owed e f = rw (e, f) refl

-- it is closed, or owes an RRP and stays
dropped : (p : Pair) (q : PairState) → program.failed_phase p.phase p.owed ≡ phase.Closed → Agrees q p → Agrees (record q { phase = phase.Closed; entries = []; queue = [] }) (unsaid p)
dropped p q to a = record { phase = to; owed = a.owed; busy = a.busy; ready = λ h. absurd (cc); begun = λ h. absurd (cc); plain = tt; linked = refl }

stayed : (p : Pair) (q : PairState) → program.failed_phase p.phase p.owed ≡ q.phase → q.owed ≡ true → Agrees q p → Agrees q (unsaid p)
stayed p q to owing a =
    let o : p.owed ≡ true = a.owed ∙ owing in
    record { phase = to; owed = a.owed; busy = a.busy; ready = a.ready; begun = λ h. rw o (a.begun h); plain = a.plain; linked = a.linked }

silent : (p : Pair) (q : PairState) → program.failed_phase p.phase p.owed ≡ q.phase → program.is_ready q.phase ≡ false → Agrees q p → Agrees q (unsaid p)
silent p q to quiet a =
    record { phase = to; owed = a.owed; busy = a.busy; ready = a.ready; begun = λ h. absurd (let r : true ≡ false = sym (a.ready h) ∙ quiet in cc); plain = a.plain; linked = a.linked }

failed_by : (peer : Host) (ph : host.Phase) (owed : Bool) (busy : List ℕ) (entries : List Entry) (queue : List Command) (listening : List Listener) (notices : List Notice) (p : Pair)
    → Agrees (turn_by ph owed busy entries queue listening notices).pair p → Agrees (failed peer (turn_by ph owed busy entries queue listening notices)).pair (unsaid p)
failed_by peer phase.Closed false busy entries queue listening notices p a = silent p (record { phase = phase.Closed; owed = false; busy = busy; entries = entries; queue = queue }) (fails_to p phase.Closed false a.phase a.owed) refl a
failed_by peer phase.Want false busy entries queue listening notices p a = silent p (record { phase = phase.Want; owed = false; busy = busy; entries = entries; queue = queue }) (fails_to p phase.Want false a.phase a.owed) refl a
failed_by peer (phase.Gone early) true busy entries queue listening notices p a = dropped p (record { phase = phase.Gone early; owed = true; busy = busy; entries = entries; queue = queue }) (fails_to p (phase.Gone early) true a.phase a.owed) a
failed_by peer (phase.Gone early) false busy entries queue listening notices p a = dropped p (record { phase = phase.Gone early; owed = false; busy = busy; entries = entries; queue = queue }) (fails_to p (phase.Gone early) false a.phase a.owed) a
failed_by peer phase.Heard false busy entries queue listening notices p a = dropped p (record { phase = phase.Heard; owed = false; busy = busy; entries = entries; queue = queue }) (fails_to p phase.Heard false a.phase a.owed) a
failed_by peer phase.Ready false busy entries queue listening notices p a = dropped p (record { phase = phase.Ready; owed = false; busy = busy; entries = entries; queue = queue }) (fails_to p phase.Ready false a.phase a.owed) a
failed_by peer ph true busy entries queue listening notices p a = agrees_settled (turn_by ph true busy entries queue listening notices) (unsaid p) (stayed p (record { phase = ph; owed = true; busy = busy; entries = entries; queue = queue }) (fails_to p ph true a.phase a.owed) refl a)

agrees_failed : (peer : Host) (t : TurnState) (p : Pair) → Agrees t.pair p → Agrees (failed peer t).pair (unsaid p)
agrees_failed peer t p a = failed_by peer t.pair.phase t.pair.owed t.pair.busy t.pair.entries t.pair.queue t.listening t.notices p a

answer_by : (peer : Host) (kind : Answer) (link : ℕ) (t : TurnState) (p : Pair) → Agrees (record t { pair = freed link t.pair }).pair (record p { out = at_link p.out link None })
    → Agrees (answered_turn peer kind link t).pair (pair_answered link kind p)
answer_by peer answer.Rfnm link t p a = agrees_rfnm link (record t { pair = freed link t.pair }) (record p { out = at_link p.out link None }) a
answer_by peer kind link t p a = agrees_failed peer (record t { pair = freed link t.pair }) (record p { out = at_link p.out link None }) a

pub agrees_answer : (peer : Host) (kind : Answer) (link : ℕ) (t : TurnState) (p : Pair) → Agrees t.pair p → Agrees (answered_turn peer kind link t).pair (pair_answered link kind p)
agrees_answer peer kind link t p a = answer_by peer kind link t p (agrees_freed t.pair p link a)
