-- What goes out of a host that stays keeps two streams of a link beside its program.
use Rattle.world_keeps_streams.proofs.Common.{◌≡◌, ℕ, zero, suc, ◌==◌, Bool, true, false, not, ◌&&◌, if◌then◌else◌, List, [], ◌∷◌, ◌++◌, map, take, drop, Option, Some, None, is_some, refl, ap, sym, subst, ◌∙◌, Host, Command, Stream, MayGo, Order, Legal, orders_of, DeskState, desk_of, is_busy, is_link, sends_on, PairState, Entry, Listener, Phase, what_goes, IsReadBack, IsTelling, Says, gone_now, name_of, Other, Pair, eqb-sym}
use Rattle.host_pairs.specs.Parcels.{Parcel, command_gone, commands_gone, link_for, next_of, pair_after, parcel_gone, text_for, with_connections, link_of}
use Rattle.pair_keeps_streams.proofs.lemmas.{Free, NotTaken, Party, Post, Steps, taken_gone}
use Rattle.net_sim.specs.Projection.{Agrees, ArePlain, control_message, message_on}
use Rattle.net_sim.proofs.lemmas.{data_away, plain_take, says_reply}
use Rattle.world_keeps_streams.specs.Calls.{commands_said, parcel_calls, called}
use Rattle.ncp_control.specs.declared.command.Command.TheVariants as command
use Rattle.host_pairs.specs.Parcels as parcel
use Rattle.ncp_control.specs.declared.phase.Phase.TheVariants as phase
use Rattle.host_keeps_streams.specs.Histories as calls
use Rattle.reset_law.specs.Boxes.{Box, Empty, Waiting}
use Rattle.world_keeps_streams.proofs.Steps.Going.{Goes, Here, bytes_here, no_bytes_here, renamed, says_here, stays_as, then_goes}
use Rattle.world_keeps_streams.proofs.Steps.Joined.{commands_in, commands_of_message, legal_in, post_in, post_of_message}
use Rattle.world_keeps_streams.proofs.Calls.Leads.{gone_same}
use Rattle.world_keeps_streams.proofs.Calls.MayCalls.{MayCalls}

-- ---- commands one after another

module _ (peer : Host) (stamp : ℕ) where
  gone_queue : (c : Command) (d : DeskState) → (command_gone peer stamp c d).queue ≡ d.queue
  gone_queue command.Nop d = refl
  gone_queue c d = refl

  all_queue : (cs : List Command) (d : DeskState) → (commands_gone peer stamp cs d).queue ≡ d.queue
  all_queue [] d = refl
  all_queue (c ∷ cs) d = all_queue cs (command_gone peer stamp c d) ∙ gone_queue c d

  -- the pair after them, but for what is taken off its queue
  abbrev said_pair : List Command → PairState → List Listener → PairState
  said_pair [] q listening = q
  said_pair (c ∷ cs) q listening = said_pair cs (with_connections q (command_gone peer stamp c (desk_of q listening))) listening

  said_queue : (cs : List Command) (q : PairState) (listening : List Listener) → (said_pair cs q listening).queue ≡ q.queue
  said_queue [] q listening = refl
  said_queue (c ∷ cs) q listening = said_queue cs (with_connections q (command_gone peer stamp c (desk_of q listening))) listening ∙ gone_queue c _

  said_ends : (cs : List Command) (q : PairState) (listening : List Listener) (d : DeskState) → d.entries ≡ q.entries → (said_pair cs q listening).entries ≡ (commands_gone peer stamp cs d).entries
  said_ends [] q listening d is = sym is
  said_ends (c ∷ cs) q listening d is =
      said_ends cs (with_connections q (command_gone peer stamp c (desk_of q listening))) listening (command_gone peer stamp c d) (gone_same peer stamp c d (desk_of q listening) is)

  said_under : (cs : List Command) (q : PairState) (listening : List Listener) (older : List calls.Moment) → MayCalls (commands_said peer stamp cs q listening older) → MayCalls older
  said_under [] q listening older m = m
  said_under (c ∷ cs) q listening older m =
      (said_under cs (with_connections q (command_gone peer stamp c (desk_of q listening))) listening (called (Says stamp c) q listening ∷ older) m).1

-- ---- what is read

legal_all : (cs : List Command) → legal_in (map Legal cs) ≡ cs
legal_all [] = refl
legal_all (c ∷ cs) = ap (λ (l : List Command). c ∷ l) (legal_all cs)

plain_message : (text : List Bool) (cs : List Command) → ArePlain cs → control_message text (map Legal cs) ≡ Other text
plain_message text [] h = refl
plain_message text (c ∷ []) h = rw (h.0.0, h.0.1) refl
plain_message text (c ∷ d ∷ cs) h = refl

take_drop : (n : ℕ) (cs : List Command) → cs ≡ take n cs ++ drop n cs
take_drop zero cs = refl
take_drop (suc n) [] = refl
take_drop (suc n) (c ∷ cs) = ap (λ (l : List Command). c ∷ l) (take_drop n cs)

sends_as : (o : Option ℕ) (link : ℕ) → is_some o ≡ true → is_link link o ≡ (link_of o == link)
sends_as None link e = absurd (let no : false ≡ true = e in cc)
sends_as (Some l) link e = refl

never_ready : (P : Type 0) (ph : Phase) → ph ≡ phase.Want → ph ≡ phase.Ready → P
never_ready P ph e f = absurd (let no : phase.Want ≡ phase.Ready = sym e ∙ f in cc)

module _ (number other : ℕ → ℕ → ℕ → ℕ) (tells : IsTelling number) (others : IsTelling other) (link : ℕ) (off : (link == 0) ≡ false) (steps : Steps number other tells others link) (p : Host) (stamp here : ℕ) (own : List calls.Moment) (listening : List Listener) (b : Party) where
  said_run : (post : Post) (cs : List Command) (q : PairState) (older : List calls.Moment) (front : List Command) (x y : Stream) → MayCalls (commands_said p stamp cs q listening older)
      → (b.stays ≡ true → NotTaken (name_of number (gone_now p (older ++ own))) (name_of other b.gone) q.entries b.entries) → Here number other tells others link p (older ++ own) q front post b x y
      → Goes number other tells others link p (commands_said p stamp cs q listening older ++ own) (said_pair p stamp cs q listening) front post b x y
  said_run post [] q older front x y may none h = stays_as number other tells others link p _ q front post b x y h
  said_run post (c ∷ cs) q older front x y may none h =
      let next : PairState = with_connections q (command_gone p stamp c (desk_of q listening)) in
      let one : Goes number other tells others link p (called (Says stamp c) q listening ∷ (older ++ own)) (with_connections q (command_gone p stamp c (desk_of q listening))) front post b x y =
      says_here number other tells others link p (older ++ own) q front post b x y h steps listening stamp c
      (said_under p stamp cs _ listening _ may).0 (λ s r. none s)
      _ refl (sym (gone_queue p stamp c _)) in
      then_goes number other tells others link p _ _ _
      _ front front post post b b x y one
      (λ first second g. said_run post cs (with_connections q (command_gone p stamp c (desk_of q listening))) (called (Says stamp c) q listening ∷ older) front first second may
      (λ s. taken_gone number (name_of other b.gone) (gone_now p (older ++ own)) p stamp q listening b.entries (h.joint.mine refl).holds.sound.apart c (none s)) g)

  module _ (q : PairState) (x y : Stream) (control at : Box) (h : Here number other tells others link p own q (commands_in control) (post_in at) b x y) (agrees : (law : Pair) × Agrees q law) (ready : q.phase ≡ phase.Ready)
      (none : b.stays ≡ true → NotTaken (name_of number (gone_now p own)) (name_of other b.gone) q.entries b.entries) where
    abbrev After : Parcel → Type 0
    After g =
        Goes number other tells others link p (parcel_calls p stamp g q listening ++ own) (pair_after g q (parcel_gone p stamp q.busy g (desk_of q listening)))
        (commands_in (if 0 == link_for g then Waiting here (message_on (link_for g) (text_for q g)) else control)) (post_in (if link == link_for g then Waiting here (message_on (link_for g) (text_for q g)) else at)) b x y

    reply_goes : 0 == 0 ≡ true → control ≡ Empty → After parcel.Reply
    reply_goes e empty =
        let nothing : commands_in control ≡ commands_of_message (message_on 0 (text_for q parcel.Reply)) = ap commands_in empty ∙ sym (ap commands_of_message (says_reply q)) in
        rw off (stays_as number other tells others link p own _ _ _ b x y
        (renamed number other tells others link p own q _ _ _ _ b x y h refl
        (ap (λ (cs : List Command). cs ++ q.queue) nothing)))

    commands_go : (count : ℕ) → control ≡ Empty → orders_of (text_for q (parcel.Commands count)) ≡ map Legal (take count q.queue) → MayCalls (commands_said p stamp (take count q.queue) q listening []) → After (parcel.Commands count)
    commands_go count empty back may =
        let text : List Bool = text_for q (parcel.Commands count) in
        let is : message_on 0 (text_for q (parcel.Commands count)) ≡ Other (text_for q (parcel.Commands count)) =
        ap (λ (os : List Order). control_message (text_for q (parcel.Commands count)) os) back ∙ plain_message (text_for q (parcel.Commands count)) (take count q.queue) (plain_take count q.queue agrees.1.plain) in
        let said : commands_of_message (message_on 0 (text_for q (parcel.Commands count))) ≡ take count q.queue = ap commands_of_message is ∙ ap legal_in back ∙ legal_all (take count q.queue) in
        let run : Goes number other tells others link p (commands_said p stamp (take count q.queue) q listening [] ++ own) (said_pair p stamp (take count q.queue) q listening) (commands_in control) (post_in at) b x y =
        said_run (post_in at) (take count q.queue) q [] (commands_in control) x y may none h in
        let ends : (said_pair p stamp (take count q.queue) q listening).entries ≡ (pair_after (parcel.Commands count) q (parcel_gone p stamp q.busy (parcel.Commands count) (desk_of q listening))).entries = said_ends p stamp (take count q.queue) q listening (desk_of q listening) refl in
        let queue : commands_in control ++ (said_pair p stamp (take count q.queue) q listening).queue ≡ commands_of_message (message_on 0 (text_for q (parcel.Commands count))) ++ (pair_after (parcel.Commands count) q (parcel_gone p stamp q.busy (parcel.Commands count) (desk_of q listening))).queue =
        ap (λ (z : Box). commands_in z ++ (said_pair p stamp (take count q.queue) q listening).queue) empty ∙ said_queue p stamp (take count q.queue) q listening ∙ take_drop count q.queue
        ∙ ap (λ (cs : List Command). cs ++ drop count q.queue) (sym said)
        ∙ ap (λ (cs : List Command). commands_of_message (message_on 0 (text_for q (parcel.Commands count))) ++ drop count cs) (sym (all_queue p stamp (take count q.queue) (desk_of q listening))) in
        rw off (record {
          first = run.first;
          second = run.second;
          here = renamed number other tells others link p (commands_said p stamp (take count q.queue) q listening [] ++ own) (said_pair p stamp (take count q.queue) q listening)
              (pair_after (parcel.Commands count) q (parcel_gone p stamp q.busy (parcel.Commands count) (desk_of q listening))) (commands_in control) (commands_of_message (message_on 0 (text_for q (parcel.Commands count)))) (post_in at) b run.first run.second run.here ends queue;
          sender = run.sender;
          receiver = run.receiver;
        })

    bytes_go : (e : Entry) (size count : ℕ) → next_of q ≡ Some (parcel.Bytes e size count) → (is_busy q.busy link ≡ false → post_in at ≡ Free) → MayCalls (parcel_calls p stamp (parcel.Bytes e size count) q listening) → After (parcel.Bytes e size count)
    bytes_go e size count n room may = by (link == link_of e.link) refl where
      goes : MayGo q (parcel.Bytes e size count)
      goes = what_goes q _ n

      away : (link_of e.link == 0) ≡ false
      away = data_away q e size count agrees.1.linked goes.1.linked n

      on_link : sends_on link e ≡ (link == link_of e.link)
      on_link = ap (λ (t : Bool). not t && is_link link e.link) goes.1.sends ∙ sends_as e.link link goes.1.linked ∙ eqb-sym (link_of e.link) link

      is : message_on (link_of e.link) (text_for q (parcel.Bytes e size count)) ≡ Other (text_for q (parcel.Bytes e size count))
      is = rw away refl

      apart : (0 == link_of e.link) ≡ false
      apart = eqb-sym 0 _ ∙ away

      by : (v : Bool) → (link == link_of e.link) ≡ v
          → Goes number other tells others link p (parcel_calls p stamp (parcel.Bytes e size count) q listening ++ own) (pair_after (parcel.Bytes e size count) q (parcel_gone p stamp q.busy (parcel.Bytes e size count) (desk_of q listening)))
          (commands_in (if 0 == link_of e.link then Waiting here (message_on (link_of e.link) (text_for q (parcel.Bytes e size count))) else control))
          (post_in (if v then Waiting here (message_on (link_of e.link) (text_for q (parcel.Bytes e size count))) else at)) b x y
      by true f =
          rw apart
          (subst (λ (o : Post). Goes number other tells others link p (parcel_calls p stamp (parcel.Bytes e size count) q listening ++ own) (pair_after (parcel.Bytes e size count) q (parcel_gone p stamp q.busy (parcel.Bytes e size count) (desk_of q listening))) (commands_in control) o b x y)
          (sym (ap post_of_message is))
          (bytes_here number other tells others link p own q (commands_in control) (post_in at) b x y h steps listening stamp e size count n may.0.1 (on_link ∙ f) room
          _ refl refl))
      by false f =
          rw apart
          (no_bytes_here number other tells others link p own q (commands_in control) (post_in at) b x y h steps listening stamp e size count n (on_link ∙ f)
          _ refl refl)

    -- whatever goes out next
    pub parcel_goes : (g : Parcel) → next_of q ≡ Some g → IsReadBack q g → (0 == link_for g ≡ true → control ≡ Empty) → (is_busy q.busy link ≡ false → post_in at ≡ Free) → MayCalls (parcel_calls p stamp g q listening) → After g
    parcel_goes parcel.Reset n back empty room may = never_ready _ q.phase (what_goes q parcel.Reset n).wanted ready
    parcel_goes parcel.Reply n back empty room may = reply_goes refl (empty refl)
    parcel_goes (parcel.Commands count) n back empty room may = commands_go count (empty refl) back may
    parcel_goes (parcel.Bytes e size count) n back empty room may = bytes_go e size count n room may
