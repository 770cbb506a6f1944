-- The calls of one turn lead from the ends that it finds to those that it leaves.
use Rattle.world_keeps_streams.proofs.Common.{◌≡◌, ℕ, ◌==◌, Bool, true, false, not, ◌||◌, if◌then◌else◌, List, [], ◌∷◌, ◌++◌, take, refl, ap, sym, subst, ◌∙◌, Host, Answer, Command, MayGo, desk_taken, Order, Legal, Wrong, error, orders_of, data_taken, DeskState, desk_of, command_queued, settled, PairState, Parcel, command_gone, commands_gone, pair_after, parcel_gone, with_connections, is_ready, rfnm_phase, TurnState, answered_turn, failed_by, freed, is_gone, message_taken, order_taken, orders_taken, settled_turn, with_desk, Entry, Listener, Phase, AreJoint, IsApart, message_on, clash, AText, AnRrp, AnRst, Sort, plain_joint, sort_of}
use Rattle.host_keeps_pairing.proofs.lemmas.{orders_idle, ready_when, reply_idle, work_of, rfnm_idle}
use Rattle.host_keeps_streams.specs.Histories.{Answered, Hears, IsHistory, Says, Sends, Takes, ends_by, ends_now, Call}
use Rattle.reset_law.specs.Events.{Message, Other, Reset, Reply}
use Rattle.world_keeps_streams.specs.Calls.{commands_said, message_calls, orders_heard, parcel_calls, called}
use Rattle.interface.specs.declared.crossing.Answer.TheVariants as answer
use Rattle.ncp_control.specs.declared.command.Command.TheVariants as command
use Rattle.host_pairs.specs.Parcels as parcel
use Rattle.ncp_control.specs.declared.phase.Phase.TheVariants as phase
use Rattle.host_keeps_streams.specs.Histories as calls

-- ---- what is shown of a turn

abbrev pub Leads : Host → List Entry → List Entry → List calls.Moment → Type 0
Leads peer es fs cs = (older : List calls.Moment) → IsHistory peer older → ends_now peer older ≡ es → IsHistory peer (cs ++ older) × (ends_now peer (cs ++ older) ≡ fs)

-- a pair that isn't ready has no ends, and nothing to say
abbrev pub IsIdle : PairState → Type 0
IsIdle q = is_ready q.phase ≡ false → (q.entries ≡ []) × (q.queue ≡ [])

-- where no RST is taken the calls lead on, if the pair is ready after them
pub record Turned (peer : Host) (resets : Bool) (q next : PairState) (cs : List calls.Moment) : Type 0 where
  pub leads : resets ≡ false → is_ready next.phase ≡ true → Leads peer q.entries next.entries cs
  pub drops : resets ≡ true → next.entries ≡ []
  pub idle : IsIdle q → IsIdle next

no_lead : (peer : Host) (es fs : List Entry) → es ≡ fs → Leads peer es fs []
no_lead peer es fs is = λ older h e. (h, e ∙ is)

pub one_lead : (peer : Host) (k : Call) (q : PairState) (listening : List Listener) (fs : List Entry) → ends_by peer k q listening ≡ fs → Leads peer q.entries fs (called k q listening ∷ [])
one_lead peer k q listening fs is = λ older h e. ((sym e, h), is)

-- nothing is done
pub same_turned : (peer : Host) (q next : PairState) → q.entries ≡ next.entries → (IsIdle q → IsIdle next) → Turned peer false q next []
same_turned peer q next is idle = record { leads = λ n r. no_lead peer q.entries next.entries is; drops = λ e. clash _ true refl (sym e); idle = idle }

abbrev pub is_reset : Message → Bool
is_reset Reset = true
is_reset Reply = false
is_reset (Other text) = false

-- ---- a message

module _ (peer : Host) (stamp : ℕ) where
  heard_leads : (orders : List Order) (t : TurnState) (older base : List calls.Moment) → AreJoint orders → is_ready t.pair.phase ≡ true → IsHistory peer (older ++ base) → ends_now peer (older ++ base) ≡ t.pair.entries
      → IsHistory peer (orders_heard peer stamp orders t older ++ base) × (ends_now peer (orders_heard peer stamp orders t older ++ base) ≡ (orders_taken peer stamp orders t).pair.entries)
  heard_leads [] t older base joint ready h e = (h, e)
  heard_leads (Legal c ∷ orders) t older base joint ready h e =
      let next : order_taken peer stamp (Legal c) t ≡ with_desk t (desk_taken peer t.pair.busy stamp c (desk_of t.pair t.listening)) = ready_when peer stamp (Legal c) t joint.0 ready in
      heard_leads orders (order_taken peer stamp (Legal c) t) (called (Hears stamp 0 c) t.pair t.listening ∷ older) base joint.1 (ap (λ (u : TurnState). is_ready u.pair.phase) next ∙ ready)
      (sym e, h) (sym (ap (λ (u : TurnState). u.pair.entries) next))
  heard_leads (Wrong code octets ∷ orders) t older base joint ready h e =
      let next : order_taken peer stamp (Wrong code octets) t ≡ with_desk t (command_queued (error code octets) (desk_of t.pair t.listening)) = ready_when peer stamp (Wrong code octets) t joint.0 ready in
      heard_leads orders (order_taken peer stamp (Wrong code octets) t) older base joint.1 (ap (λ (u : TurnState). is_ready u.pair.phase) next ∙ ready)
      h (e ∙ sym (ap (λ (u : TurnState). u.pair.entries) next))

  still_ready : (orders : List Order) (t : TurnState) → AreJoint orders → is_ready t.pair.phase ≡ true → is_ready (orders_taken peer stamp orders t).pair.phase ≡ true
  still_ready [] t joint ready = ready
  still_ready (o ∷ orders) t joint ready =
      let next : order_taken peer stamp o t ≡ with_desk t (work_of peer t.pair.busy stamp o (desk_of t.pair t.listening)) = ready_when peer stamp o t joint.0 ready in
      still_ready orders (order_taken peer stamp o t) joint.1 (ap (λ (u : TurnState). is_ready u.pair.phase) next ∙ ready)

  module _ (link : ℕ) (text : List Bool) (t : TurnState) where
    abbrev Result : Bool → Bool → Message → List Order → Type 0
    Result z r m orders =
        Turned peer (is_reset m) t.pair (if z then orders_taken peer stamp orders t else (if r then with_desk t (data_taken link text (desk_of t.pair t.listening)) else t)).pair
        (if r then (if z then orders_heard peer stamp orders t [] else called (Takes link text) t.pair t.listening ∷ []) else [])

    signal_rst : (r : Bool) → Result true r Reset (Legal command.Rst ∷ [])
    signal_rst r = record { leads = λ e. clash _ true refl e; drops = λ e. refl; idle = λ i j. (refl, refl) }

    signal_rrp : (r : Bool) → Result true r Reply (Legal command.Rrp ∷ [])
    signal_rrp true = record { leads = λ e f. one_lead peer (Hears stamp 0 command.Rrp) t.pair t.listening t.pair.entries refl; drops = λ e. clash _ true refl (sym e); idle = λ i j. i (reply_idle t.pair.phase j) }
    signal_rrp false = record { leads = λ e f. no_lead peer t.pair.entries t.pair.entries refl; drops = λ e. clash _ true refl (sym e); idle = λ i j. i (reply_idle t.pair.phase j) }

    plain : (z r : Bool) → is_ready t.pair.phase ≡ r → (z ≡ true → AreJoint (orders_of text)) → Result z r (Other text) (orders_of text)
    plain true true ready joint = record {
      leads = λ e f older h is. heard_leads (orders_of text) t [] older (joint refl) ready h is;
      drops = λ e. clash _ true refl (sym e);
      idle = λ i j. clash _ (is_ready (orders_taken peer stamp (orders_of text) t).pair.phase) (still_ready (orders_of text) t (joint refl) ready) j;
    }
    plain true false ready joint =
        let is : orders_taken peer stamp (orders_of text) t ≡ t = orders_idle peer stamp (orders_of text) t (joint refl) ready in
        subst (λ (u : TurnState). Turned peer false t.pair u.pair []) (sym is) (same_turned peer t.pair t.pair refl (λ i. i))
    plain false true ready joint = record {
      leads = λ e f. one_lead peer (Takes link text) t.pair t.listening (data_taken link text (desk_of t.pair t.listening)).entries refl;
      drops = λ e. clash _ true refl (sym e);
      idle = λ i j. clash _ (is_ready t.pair.phase) ready j;
    }
    plain false false ready joint = same_turned peer t.pair t.pair refl (λ i. i)

    by_sort : (z r : Bool) → (link == 0) ≡ z → is_ready t.pair.phase ≡ r → IsApart link text (message_on link text) → Sort link text → Result z r (message_on link text) (orders_of text)
    by_sort z r e ready apart (AnRst zero orders is) =
        subst (λ (m : Message). Result z r m (orders_of text)) (sym is)
        (subst (λ (os : List Order). Result z r Reset os) (sym orders)
        (subst (λ (y : Bool). Result y r Reset (Legal command.Rst ∷ [])) (sym zero ∙ e) (signal_rst r)))
    by_sort z r e ready apart (AnRrp zero orders is) =
        subst (λ (m : Message). Result z r m (orders_of text)) (sym is)
        (subst (λ (os : List Order). Result z r Reply os) (sym orders)
        (subst (λ (y : Bool). Result y r Reply (Legal command.Rrp ∷ [])) (sym zero ∙ e) (signal_rrp r)))
    by_sort z r e ready apart (AText is) =
        subst (λ (m : Message). Result z r m (orders_of text)) (sym is)
        (plain z r ready (λ f. plain_joint (orders_of text) ((subst (λ (m : Message). IsApart link text m) is apart) (e ∙ f))))

    pub message_turned : IsApart link text (message_on link text) → Turned peer (is_reset (message_on link text)) t.pair (message_taken peer stamp link text t).pair (message_calls peer stamp link text t)
    message_turned apart = by_sort (link == 0) (is_ready t.pair.phase) refl refl apart (sort_of link text)

-- ---- an answer

settled_none : (busy : List ℕ) (es : List Entry) (cs : List Command) (listening : List Listener) → (es ≡ []) × (cs ≡ [])
    → ((settled busy (record { entries = es; queue = cs; listening = listening; notices = [] })).entries ≡ []) × ((settled busy (record { entries = es; queue = cs; listening = listening; notices = [] })).queue ≡ [])
settled_none busy es cs listening e = rw (e.0, e.1) (refl, refl)

module _ (peer : Host) (link : ℕ) (t : TurnState) where
  abbrev cleared : TurnState
  cleared = record t { pair = freed link t.pair }

  abbrev told_of : List calls.Moment
  told_of = called (Answered link) t.pair t.listening ∷ []

  fails : (ph : Phase) → t.pair.phase ≡ ph → Turned peer false t.pair (failed_by peer ph cleared).pair told_of
  fails phase.Closed e = record { leads = λ n r. clash _ (is_ready t.pair.phase) r (ap is_ready e); drops = λ f. clash _ true refl (sym f); idle = λ i. i }
  fails phase.Want e = record { leads = λ n r. clash _ (is_ready t.pair.phase) r (ap is_ready e); drops = λ f. clash _ true refl (sym f); idle = λ i. i }
  fails ph e = record { leads = λ n r. clash _ true refl (sym r); drops = λ f. clash _ true refl (sym f); idle = λ i j. (refl, refl) }

  settles : (ph : Phase) → (is_ready ph ≡ false → is_ready t.pair.phase ≡ false) → Turned peer false t.pair (settled_turn (record t { pair = record (freed link t.pair) { phase = ph } })).pair told_of
  settles ph back = record {
    leads = λ n r. one_lead peer (Answered link) t.pair t.listening _ refl;
    drops = λ f. clash _ true refl (sym f);
    idle = λ i j. settled_none (freed link t.pair).busy t.pair.entries t.pair.queue t.listening (i (back j));
  }

  lost : (b : Bool) → Turned peer false t.pair (if b then failed_by peer t.pair.phase cleared else settled_turn cleared).pair told_of
  lost true = fails t.pair.phase refl
  lost false = settles t.pair.phase (λ e. e)

  pub answer_turned : (kind : Answer) → Turned peer false t.pair (answered_turn peer kind link t).pair told_of
  answer_turned answer.Rfnm = settles (rfnm_phase link t.pair.phase) (rfnm_idle (link == 0) t.pair.phase)
  answer_turned kind = lost (is_gone t.pair.phase || not t.pair.owed)

-- ---- what goes out

module _ (peer : Host) (stamp : ℕ) where
  pub gone_same : (c : Command) (d e : DeskState) → d.entries ≡ e.entries → (command_gone peer stamp c d).entries ≡ (command_gone peer stamp c e).entries
  gone_same (command.Rts receive send link) d e is = rw is refl
  gone_same (command.Str send receive size) d e is = rw is refl
  gone_same (command.Cls own foreign) d e is = rw is refl
  gone_same c d e is = is

  said_leads : (cs : List Command) (q : PairState) (listening : List Listener) (older base : List calls.Moment) (d : DeskState) → d.entries ≡ q.entries → IsHistory peer (older ++ base) → ends_now peer (older ++ base) ≡ q.entries
      → IsHistory peer (commands_said peer stamp cs q listening older ++ base) × (ends_now peer (commands_said peer stamp cs q listening older ++ base) ≡ (commands_gone peer stamp cs d).entries)
  said_leads [] q listening older base d is h e = (h, e ∙ sym is)
  said_leads (c ∷ cs) q listening older base d is h e =
      said_leads cs (with_connections q (command_gone peer stamp c (desk_of q listening))) listening (called (Says stamp c) q listening ∷ older) base (command_gone peer stamp c d)
      (gone_same c d (desk_of q listening) is) (sym e, h) refl

  pub parcel_turned : (q : PairState) (x : Parcel) (listening : List Listener) → MayGo q x → Turned peer false q (pair_after x q (parcel_gone peer stamp q.busy x (desk_of q listening))) (parcel_calls peer stamp x q listening)
  parcel_turned q parcel.Reset listening may = same_turned peer q _ refl (λ i j. i (ap is_ready may.wanted))
  parcel_turned q parcel.Reply listening may = same_turned peer q _ refl (λ i j. i j)
  parcel_turned q (parcel.Commands count) listening may = record {
    leads = λ n r older h e. said_leads (take count q.queue) q listening [] older (desk_of q listening) refl h e;
    drops = λ f. clash _ true refl (sym f);
    idle = λ i j. clash _ (is_ready q.phase) (ap is_ready may.0.ready) j;
  }
  parcel_turned q (parcel.Bytes e size count) listening may = record {
    leads = λ n r. one_lead peer (Sends stamp e size count) q listening _ refl;
    drops = λ f. clash _ true refl (sym f);
    idle = λ i j. clash _ (is_ready q.phase) (ap is_ready may.0.ready) j;
  }
