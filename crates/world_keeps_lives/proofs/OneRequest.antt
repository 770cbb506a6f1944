-- A message of a host's program has one RTS of two sockets at most, where it goes out and where it comes in.
use Rattle.world_keeps_lives.proofs.Common.{◌≡◌, inl, inr, ℕ, ◌<◌, ◌==◌, Bool, true, false, if◌then◌else◌, zero, suc, List, [], ◌∷◌, map, take, drop, length, slice_index_or, Some, refl, ap, sym, subst, ◌∙◌, arith, Contains, take-append-drop, Contains-append_left, same_flow, Host, same_host, Flow, Crossing, HostMessage, same_flow-true, Command, MayGo, Legal, Order, orders_of, PairState, what_goes, offer_read, IsReadBack, pair_with, message_for, next_is, next_pair, HaveAddresses, Agrees, Asked, Crossed, IsNext, IsStory, Moment, events_of, program, crossings_of, CrossedAt, coming, going, pair, AreOurs, Network, Happened}
use Rattle.host_pairs.specs.Parcels.{Parcel, next_of, link_of}
use Rattle.net_sim.proofs.lemmas.{Coupled, data_away, story_agrees, cleared_waits, fetched_waits, coupled}
use Rattle.world_keeps_pairing.proofs.lemmas.{programs_ranged, queued_once, served_in}
use Rattle.interface.specs.Mailboxes as mail
use Rattle.interface.specs.declared.crossing.Crossing.TheVariants as crossing
use Rattle.ncp_control.specs.declared.command.Command.TheVariants as command
use Rattle.host_pairs.specs.Parcels as parcel
use Rattle.world_keeps_lives.proofs.Facts.{no}
use Rattle.world_keeps_lives.proofs.Walk.Rules.{each_in}

-- the requests of two sockets in a text name one link
abbrev pub NamesOnce : List Bool → Type 0
NamesOnce text =
    (own foreign l k : ℕ) → Contains (orders_of text) (Legal (command.Rts own foreign l)) → Contains (orders_of text) (Legal (command.Rts own foreign k)) → l ≡ k

-- ---- what is read of commands

read_back : (cs : List Command) (c : Command) → Contains (map Legal cs) (Legal c) → Contains cs c
read_back cs c there = at cs there.0 there.1 there.2 where
  at : (cs : List Command) (i : ℕ) → i < length (map Legal cs) → slice_index_or (map Legal cs) i (Legal c) ≡ Legal c
      → Contains cs c
  at [] i less is = absurd (omega (arith, less))
  at (d ∷ cs) zero less is = (0, omega arith, (let same : d ≡ c = cc in same))
  at (d ∷ cs) (suc i) less is = let rest : Contains cs c = at cs i (omega (arith, less)) is in (suc rest.0, omega (arith, rest.1), rest.2)

taken_of : (n : ℕ) (cs : List Command) (c : Command) → Contains (take n cs) c → Contains cs c
taken_of n cs c there = subst (λ (l : List Command). Contains l c) (take-append-drop n cs) (Contains-append_left (take n cs) (drop n cs) c there)

none_of : (own foreign l : ℕ) (c : Command) → (c ≡ command.Rts own foreign l → ⊥)
    → Contains (c ∷ []) (command.Rts own foreign l) → ⊥
none_of own foreign l c other there = each_in (λ (d : Command). d ≡ command.Rts own foreign l → ⊥) (c ∷ []) _ there (other, tt) refl

-- ---- where it goes out

module _ (hosts : Network) (addresses : HaveAddresses hosts.all) where
  module _ (moments : List Moment) (run : mail.IsRun hosts.all (crossings_of moments)) (time : Happened hosts moments)
      (story : IsStory hosts moments) (m : HostMessage) (ours : AreOurs hosts m.flow.source m.flow.destination)
      (n : IsNext (program m.flow.source moments) m) (zero_link : (m.flow.link.0 == 0) ≡ true) where
    peers : AreOurs hosts m.flow.source n.peer.host
    peers = (ours.0, subst (λ (g : Host). hosts.strange g ≡ false) (ap (λ (x : HostMessage). x.flow.destination) n.message) ours.1)

    same : pair_with n.peer.host (program m.flow.source moments).peers ≡ n.peer.pair
    same = next_pair _ n.peer n.parcel n.order n.next

    by : (z : Parcel) → n.parcel ≡ z → IsReadBack n.peer.pair z
        → m ≡ message_for (program m.flow.source moments).own n.peer z → next_of n.peer.pair ≡ Some z → NamesOnce m.text
    by parcel.Reset e back is next own foreign l k one other =
        absurd (none_of own foreign l command.Rst (λ f. (let d : command.Rst ≡ command.Rts own foreign l = f in absurd (cc)))
        (read_back (command.Rst ∷ []) _ (subst (λ (os : List Order). Contains os (Legal (command.Rts own foreign l))) (ap (λ (x : HostMessage). orders_of x.text) is ∙ back) one)))
    by parcel.Reply e back is next own foreign l k one other =
        absurd (none_of own foreign l command.Rrp (λ f. (let d : command.Rrp ≡ command.Rts own foreign l = f in absurd (cc)))
        (read_back (command.Rrp ∷ []) _ (subst (λ (os : List Order). Contains os (Legal (command.Rts own foreign l))) (ap (λ (x : HostMessage). orders_of x.text) is ∙ back) one)))
    by (parcel.Commands count) e back is next own foreign l k one other = queued_once hosts moments addresses run time m.flow.source n.peer.host peers own foreign l k (waits l one) (waits k other) where
      waits : (j : ℕ) → Contains (orders_of m.text) (Legal (command.Rts own foreign j))
          → Contains (pair_with n.peer.host (program m.flow.source moments).peers).queue (command.Rts own foreign j)
      waits j there =
          subst (λ (q : PairState). Contains q.queue (command.Rts own foreign j)) (sym same)
          (taken_of count n.peer.pair.queue _
          (read_back _ _ (subst (λ (os : List Order). Contains os (Legal (command.Rts own foreign j))) (ap (λ (x : HostMessage). orders_of x.text) is ∙ back) there)))
    by (parcel.Bytes d size count) e back is next own foreign l k one other =
        let may : MayGo n.peer.pair (parcel.Bytes d size count) = what_goes n.peer.pair _ next in
        let agrees : Agrees n.peer.pair (pair m.flow.source n.peer.host (events_of moments)) = subst (λ (q : PairState). Agrees q (pair m.flow.source n.peer.host (events_of moments))) same (story_agrees hosts moments m.flow.source n.peer.host peers story) in
        let away : (link_of d.link == 0) ≡ false = data_away n.peer.pair d size count agrees.linked may.1.linked next in
        no _ zero_link (ap (λ (x : HostMessage). x.flow.link.0 == 0) is ∙ away)

    pub said_once : NamesOnce m.text
    said_once =
        by n.parcel refl (offer_read _ n.peer n.parcel (programs_ranged hosts moments (served_in hosts moments time) m.flow.source ours.0) n.next) n.message
        (next_is n.peer n.parcel (program m.flow.source moments).peers n.next)

  pub out_once : (moments : List Moment) → mail.IsRun hosts.all (crossings_of moments) → Happened hosts moments
      → (m : HostMessage) → AreOurs hosts m.flow.source m.flow.destination → (place : ℕ)
      → CrossedAt place (going m) (crossings_of moments) → (m.flow.link.0 == 0) ≡ true → NamesOnce m.text
  out_once [] run time m ours place i zero_link = absurd i
  out_once (Asked h r ∷ moments) run time m ours place i zero_link =
      out_once moments run time.1 m ours place i zero_link
  out_once (Crossed c ∷ moments) run time m ours place (inl i) zero_link =
      let k : Coupled hosts (Crossed c ∷ moments) = coupled hosts addresses _ run time in
      said_once moments run.1 time.1 k.story.1 m ours (next_by c k.story (sym i.0)) zero_link where
        next_by : (c : Crossing) → IsStory hosts (Crossed c ∷ moments) → c ≡ crossing.Out m
            → IsNext (program m.flow.source moments) m
        next_by c story e = (subst (λ (d : Crossing). IsStory hosts (Crossed d ∷ moments)) e story).0 ours.0
  out_once (Crossed c ∷ moments) run time m ours place (inr i) zero_link =
      out_once moments run.1 time.1 m ours place i zero_link

-- ---- where it comes in

-- a message that waits went out
record WentOut (f : Flow) (text : List Bool) (log : List Crossing) : Type 0 where
  message : HostMessage
  place : ℕ
  crossed : CrossedAt place (going message) log
  flow : message.flow ≡ f
  same : message.text ≡ text

more_out : (f : Flow) (text : List Bool) (c : Crossing) (log : List Crossing) → WentOut f text log
    → WentOut f text (c ∷ log)
more_out f text c log w = record { message = w.message; place = w.place; crossed = inr w.crossed; flow = w.flow; same = w.same }

abbrev text_in : mail.Box → List Bool
text_in mail.Empty = []
text_in (mail.Waiting place text) = text
text_in (mail.Taken place text) = text

waits_out : (f : Flow) (p : ℕ) (text : List Bool) (log : List Crossing) → mail.box_of f log ≡ mail.Waiting p text
    → WentOut f text log
waits_out f p text [] is = absurd (let none : mail.Empty ≡ mail.Waiting p text = is in cc)
waits_out f p text (crossing.Out m ∷ log) is = by (same_flow f m.flow) refl is (λ w. waits_out f p text log w) where
  by : (v : Bool) → same_flow f m.flow ≡ v
      → (if v then mail.Waiting (length log) m.text else mail.box_of f log) ≡ mail.Waiting p text
      → (mail.box_of f log ≡ mail.Waiting p text → WentOut f text log) → WentOut f text (crossing.Out m ∷ log)
  by true e w rest = record { message = m; place = length log; crossed = inl (refl, refl); flow = sym (same_flow-true f m.flow e); same = ap text_in w }
  by false e w rest = more_out f text _ log (rest w)
waits_out f p text (crossing.In m ∷ log) is = more_out f text _ log (waits_out f p text log (fetched_waits (mail.box_of f log) p text _ is))
waits_out f p text (crossing.Answer kind g ∷ log) is = more_out f text _ log (waits_out f p text log (cleared_waits _ p text _ is))
waits_out f p text (crossing.Down h ∷ log) is = more_out f text _ log (waits_out f p text log is)
waits_out f p text (crossing.Up h ∷ log) is = more_out f text _ log (waits_out f p text log (cleared_waits _ p text _ is))

waiting : (f : Flow) (text : List Bool) (log : List Crossing) → mail.WaitsWith (mail.box_of f log) text
    → WentOut f text log
waiting f text log w = by (mail.box_of f log) refl w where
  by : (b : mail.Box) → mail.box_of f log ≡ b → mail.WaitsWith b text → WentOut f text log
  by mail.Empty e k = absurd k
  by (mail.Waiting p kept) e k = waits_out f p text log (e ∙ ap (λ (t : List Bool). mail.Waiting p t) k)
  by _ e k = absurd k

-- what came in had gone out
came_out : (hosts : List Host) (log : List Crossing) → mail.IsRun hosts log → (m : HostMessage) (place : ℕ)
    → CrossedAt place (coming m) log → WentOut m.flow m.text log
came_out hosts [] run m place i = absurd i
came_out hosts (c ∷ log) run m place (inl i) = by c (sym i.0) run where
  by : (d : Crossing) → d ≡ crossing.In m → mail.IsRun hosts (d ∷ log) → WentOut m.flow m.text (d ∷ log)
  by d e r =
      subst (λ (x : Crossing). WentOut m.flow m.text (x ∷ log)) (sym e)
      (more_out m.flow m.text _ log (waiting m.flow m.text log (subst (λ (x : Crossing). mail.IsRun hosts (x ∷ log)) e r).0.1))
came_out hosts (c ∷ log) run m place (inr i) = more_out m.flow m.text c log (came_out hosts log run.1 m place i)

pub in_once : (hosts : Network) → HaveAddresses hosts.all → (moments : List Moment)
    → mail.IsRun hosts.all (crossings_of moments) → Happened hosts moments → (m : HostMessage)
    → AreOurs hosts m.flow.source m.flow.destination → (place : ℕ) → CrossedAt place (coming m) (crossings_of moments)
    → (m.flow.link.0 == 0) ≡ true → NamesOnce m.text
in_once hosts addresses moments run time m ours place i zero_link =
    let w : WentOut m.flow m.text (crossings_of moments) = came_out hosts.all _ run m place i in
    subst NamesOnce w.same (out_once hosts addresses moments run time w.message (subst (λ (f : Flow). AreOurs hosts f.source f.destination) (sym w.flow) ours) w.place w.crossed (ap (λ (f : Flow). f.link.0 == 0) w.flow ∙ zero_link))
