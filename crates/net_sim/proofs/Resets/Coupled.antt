-- What the hosts do over the mailboxes is a run of the law of resets.
use Rattle.net_sim.proofs.Common.{◌≡◌, ℕ, Bool, true, false, if◌then◌else◌, List, [], ◌∷◌, Option, Some, None, refl, ap, sym, subst, ◌∙◌, Host, same_host, is_host, same_flow, Flow, Answer, Crossing, HostMessage, same_flow-true, NcpState, opening_state, pair_with, AreInOrder, served, Parcel, message_for, next_in, offered, Peer, Request, Box, boxes, Kind, pair, Needs, Allowed, HaveAddresses, Agrees, IsApart, message_on, Moment, Crossed, Asked, places, events_of, program, IsStory, crossings_of, seen_box}
use Rattle.std.proofs.Common.{is_some}
use Rattle.interface.specs.Mailboxes as mail
use Rattle.interface.specs.declared.crossing.Answer.TheVariants as answer
use Rattle.interface.specs.declared.crossing.Crossing.TheVariants as crossing
use Rattle.interface.proofs.lemmas.{same_host-true}
use Rattle.sockets.specs.Sending.{message_of, next_out}
use Rattle.reset_law.specs.Events.{is_up}
use Rattle.reset_law.specs.Invariant.{kind_in, Sound}
use Rattle.reset_law.specs.Monitor.{monitor}
use Rattle.reset_law.specs.Pairs.{MaySend}
use Rattle.reset_law.specs.Runs.{IsRun}
use Rattle.reset_law.proofs.lemmas.{sound_run}
use Rattle.net_sim.specs.Mixed.{MayHappen}
use Rattle.net_sim.proofs.Resets.Bridge.{by_request, box_same, needs_same, up_same}
use Rattle.net_sim.proofs.Resets.Offers.{offer_apart, offer_may}
use Rattle.net_sim.proofs.Resets.Ordered.{answer_order, message_order, offer_order, request_order}
use Rattle.net_sim.proofs.Resets.StoryLemmas.{story_agrees}
use Rattle.reset_law.specs.Network.{AreOurs, Network}
use Rattle.net_sim.specs.Mixed.{Happened}

-- ---- what waits

-- what waits comes from a host of the network, and between two with programs is an RST or an RRP by itself, or has neither
abbrev pub Stands : Network → Flow → mail.Box → Type 0
Stands hosts f mail.Empty = Unit {0}
Stands hosts f (mail.Waiting place text) = (AreOurs hosts f.source f.destination → IsApart f.link.0 text (message_on f.link.0 text)) × (is_host hosts.all f.source ≡ true)
Stands hosts f (mail.Taken place text) = Unit {0}

stands_out : (hosts : Network) (m : HostMessage) (place : ℕ) (f : Flow) (box : mail.Box) → Stands hosts m.flow (mail.Waiting place m.text) → Stands hosts f box → (b : Bool) → same_flow f m.flow ≡ b
    → Stands hosts f (if b then mail.Waiting place m.text else box)
stands_out hosts m place f box new old true e = subst (λ (g : Flow). Stands hosts g (mail.Waiting place m.text)) (sym (same_flow-true f m.flow e)) new
stands_out hosts m place f box new old false e = old

stands_fetched : (hosts : Network) (f : Flow) (box : mail.Box) → Stands hosts f box → (b : Bool) → Stands hosts f (if b then mail.fetched box else box)
stands_fetched hosts f mail.Empty s true = tt
stands_fetched hosts f (mail.Waiting place text) s true = tt
stands_fetched hosts f (mail.Taken place text) s true = tt
stands_fetched hosts f box s false = s

stands_cleared : (hosts : Network) (f : Flow) (box : mail.Box) → Stands hosts f box → (b : Bool) → Stands hosts f (if b then mail.Empty else box)
stands_cleared hosts f box s true = tt
stands_cleared hosts f box s false = s

stands_waiting : (hosts : Network) (f : Flow) (box : mail.Box) (text : List Bool) → mail.WaitsWith box text → Stands hosts f box → Stands hosts f (mail.Waiting 0 text)
stands_waiting hosts f mail.Empty text w s = absurd w
stands_waiting hosts f (mail.Waiting place kept) text w s = subst (λ (t : List Bool). Stands hosts f (mail.Waiting 0 t)) w s
stands_waiting hosts f (mail.Taken place kept) text w s = absurd w

-- a host that is up is one of the network
down_host : (P : Type 0) (b up : Bool) → (up ≡ true → P) → (if b then false else up) ≡ true → P
down_host P true up k e = absurd (cc)
down_host P false up k e = k e

came_host : (hosts : List Host) (h g : Host) (up : Bool) → is_host hosts g ≡ true → (up ≡ true → is_host hosts h ≡ true) → (b : Bool) → same_host h g ≡ b → (if b then true else up) ≡ true → is_host hosts h ≡ true
came_host hosts h g up there k true e f = subst (λ (x : Host). is_host hosts x ≡ true) (sym (same_host-true h g e)) there
came_host hosts h g up there k false e f = k f

pub up_host : (hosts : List Host) (h : Host) (log : List Crossing) → mail.IsRun hosts log → mail.is_up hosts h log ≡ true → is_host hosts h ≡ true
up_host hosts h [] r up = up
up_host hosts h (crossing.Out m ∷ log) r up = up_host hosts h log r.1 up
up_host hosts h (crossing.In m ∷ log) r up = up_host hosts h log r.1 up
up_host hosts h (crossing.Answer kind f ∷ log) r up = up_host hosts h log r.1 up
up_host hosts h (crossing.Down g ∷ log) r up = down_host (is_host hosts h ≡ true) (same_host h g) (mail.is_up hosts h log) (λ before. up_host hosts h log r.1 before) up
up_host hosts h (crossing.Up g ∷ log) r up = came_host hosts h g (mail.is_up hosts h log) r.0.0 (λ before. up_host hosts h log r.1 before) (same_host h g) refl up

-- ---- what is outstanding

fits_kind : (link : ℕ) (kind : Answer) (box : mail.Box) → mail.Fits kind box → is_some (kind_in (seen_box link box)) ≡ true
fits_kind link answer.Rfnm mail.Empty h = absurd h
fits_kind link answer.Rfnm (mail.Waiting place text) h = absurd h
fits_kind link answer.Rfnm (mail.Taken place text) h = refl
fits_kind link answer.Dead (mail.Waiting place text) h = refl
fits_kind link answer.Dead (mail.Taken place text) h = absurd h
fits_kind link answer.Incomplete (mail.Waiting place text) h = refl
fits_kind link answer.Incomplete (mail.Taken place text) h = refl
fits_kind link answer.NotTaken (mail.Waiting place text) h = refl
fits_kind link answer.NotTaken (mail.Taken place text) h = absurd h
fits_kind link kind mail.Empty h = absurd h

-- ---- what a program says

pub record Said (s : NcpState) (m : HostMessage) : Type 0 where
  pub peer : Peer
  pub parcel : Parcel
  pub next : next_in s.peers ≡ Some (peer, parcel)
  pub message : m ≡ message_for s.own peer parcel

abbrev message_or : HostMessage → Option HostMessage → HostMessage
message_or d None = d
message_or d (Some m) = m

said_by : (s : NcpState) (m : HostMessage) (o : Option (Peer × Parcel)) → next_in s.peers ≡ o → message_of s.own o ≡ Some m → Said s m
said_by s m None e f = absurd (let no : None ≡ Some m = f in cc)
said_by s m (Some (p, x)) e f = record { peer = p; parcel = x; next = e; message = sym (ap (message_or m) f) }

pub said : (s : NcpState) (m : HostMessage) → next_out s ≡ Some m → Said s m
unfolding next_out
said s m e = said_by s m (next_in s.peers) refl e

-- ---- one moment more

pub record Coupled (hosts : Network) (moments : List Moment) : Type 0 where
  pub run : IsRun hosts (events_of moments)
  pub story : IsStory hosts moments
  pub order : (a : Host) → hosts.strange a ≡ false → AreInOrder (program a moments).peers
  pub waits : (f : Flow) → Stands hosts f (mail.box_of f (crossings_of moments))

order_if : (b : Bool) (s t : NcpState) → (b ≡ true → AreInOrder s.peers) → AreInOrder t.peers → AreInOrder (if b then s else t).peers
order_if true s t k o = k refl
order_if false s t k o = o

module _ (hosts : Network) (addresses : HaveAddresses hosts.all) where
  out_coupled : (m : HostMessage) (moments : List Moment) → mail.IsRun hosts.all (crossings_of moments) → mail.Needs hosts.all (crossing.Out m) (crossings_of moments)
      → MayHappen hosts.strange hosts.all (Crossed (crossing.Out m)) moments → Coupled hosts moments → Coupled hosts (Crossed (crossing.Out m) ∷ moments)
  out_coupled m moments below needs next c =
      record {
        run = (needs_same hosts.all (crossing.Out m) moments needs, (λ ours. (going ours).0), c.run);
        story = ((λ off. (let x : Said (program m.flow.source moments) m = says off in record { peer = x.peer; parcel = x.parcel; order = c.order m.flow.source off; next = x.next; message = x.message })), c.story);
        order = λ a off. order_if (same_host a m.flow.source) (offered (program a moments) (places moments)).0 (program a moments) (λ e. offer_order (program a moments) (places moments) (c.order a off)) (c.order a off);
        waits = λ f. stands_out hosts m _ f (mail.box_of f (crossings_of moments)) ((λ ours. (going ours).1), up_host hosts.all m.flow.source (crossings_of moments) below needs.0) (c.waits f) (same_flow f m.flow) refl;
      }
    where
      says : hosts.strange m.flow.source ≡ false → Said (program m.flow.source moments) m
      says off = said (program m.flow.source moments) m (next off)

      going : AreOurs hosts m.flow.source m.flow.destination
          → MaySend (pair m.flow.source m.flow.destination (events_of moments)) m.flow.link.0 (message_on m.flow.link.0 m.text) × IsApart m.flow.link.0 m.text (message_on m.flow.link.0 m.text)
      going ours =
          let x : Said (program m.flow.source moments) m = says ours.0 in
          let order : AreInOrder (program m.flow.source moments).peers = c.order m.flow.source ours.0 in
          let to : hosts.strange x.peer.host ≡ false = subst (λ (y : HostMessage). hosts.strange y.flow.destination ≡ false) x.message ours.1 in
          let agrees : Agrees (pair_with x.peer.host (program m.flow.source moments).peers) (pair m.flow.source x.peer.host (events_of moments)) = story_agrees hosts moments m.flow.source x.peer.host (ours.0, to) c.story in (
            subst (λ (y : HostMessage). MaySend (pair m.flow.source y.flow.destination (events_of moments)) y.flow.link.0 (message_on y.flow.link.0 y.text)) (sym x.message)
                (offer_may (program m.flow.source moments) x.peer x.parcel (pair m.flow.source x.peer.host (events_of moments)) order x.next agrees),
            subst (λ (y : HostMessage). IsApart y.flow.link.0 y.text (message_on y.flow.link.0 y.text)) (sym x.message)
                (offer_apart (program m.flow.source moments) x.peer x.parcel (pair m.flow.source x.peer.host (events_of moments)) order x.next agrees),
          )

  in_coupled : (m : HostMessage) (moments : List Moment) → mail.Needs hosts.all (crossing.In m) (crossings_of moments) → Coupled hosts moments → Coupled hosts (Crossed (crossing.In m) ∷ moments)
  in_coupled m moments needs c =
      let waited : Stands hosts m.flow (mail.Waiting 0 m.text) = stands_waiting hosts m.flow (mail.box_of m.flow (crossings_of moments)) m.text needs.1 (c.waits m.flow) in
      record {
        run = (needs_same hosts.all (crossing.In m) moments needs, tt, c.run);
        story = (waited.0, c.story);
        order = λ a off. order_if (same_host a m.flow.destination) _ (program a moments) (λ e. message_order (program a moments) m (places moments) (addresses m.flow.source waited.1) (c.order a off)) (c.order a off);
        waits = λ f. stands_fetched hosts f (mail.box_of f (crossings_of moments)) (c.waits f) (same_flow f m.flow);
      }

  answer_coupled : (kind : Answer) (g : Flow) (moments : List Moment) → mail.Needs hosts.all (crossing.Answer kind g) (crossings_of moments) → Coupled hosts moments → Coupled hosts (Crossed (crossing.Answer kind g) ∷ moments)
  answer_coupled kind g moments needs c =
      let up : is_up hosts.all g.source (events_of moments) ≡ true = up_same hosts.all g.source moments ∙ needs.0 in
      let sound : AreOurs hosts g.source g.destination → Sound (pair g.source g.destination (events_of moments)) (monitor g.source g.destination (events_of moments)) (boxes g.source g.destination (events_of moments)) =
      λ ours. sound_run hosts (events_of moments) c.run g.source g.destination ours up in
      let kept : is_some (kind_in (boxes g.source g.destination (events_of moments) g.link.0)) ≡ true =
      ap (λ (x : Box). is_some (kind_in x)) (box_same g.source g.destination moments g.link.0) ∙ fits_kind g.link.0 kind (mail.box_of g (crossings_of moments)) needs.1 in
      record {
        run = (needs_same hosts.all (crossing.Answer kind g) moments needs, tt, c.run);
        story = ((λ ours. ap (λ (o : Option Kind). is_some o) ((sound ours).outstanding.boxed g.link.0) ∙ kept), c.story);
        order = λ a off. order_if (same_host a g.source) _ (program a moments) (λ e. answer_order (program a moments) kind g (places moments) (c.order a off)) (c.order a off);
        waits = λ f. stands_cleared hosts f (mail.box_of f (crossings_of moments)) (c.waits f) (same_flow f g);
      }

  down_coupled : (h : Host) (moments : List Moment) → mail.Needs hosts.all (crossing.Down h) (crossings_of moments) → Coupled hosts moments → Coupled hosts (Crossed (crossing.Down h) ∷ moments)
  down_coupled h moments needs c = record {
    run = (needs_same hosts.all (crossing.Down h) moments needs, tt, c.run);
    story = (tt, c.story);
    order = λ a off. order_if (same_host a h) (opening_state a) (program a moments) (λ e. tt) (c.order a off);
    waits = c.waits;
  }

  up_coupled : (h : Host) (moments : List Moment) → mail.Needs hosts.all (crossing.Up h) (crossings_of moments) → Coupled hosts moments → Coupled hosts (Crossed (crossing.Up h) ∷ moments)
  up_coupled h moments needs c = record {
    run = (needs_same hosts.all (crossing.Up h) moments needs, tt, c.run);
    story = (tt, c.story);
    order = λ a off. order_if (same_host a h) (opening_state a) (program a moments) (λ e. tt) (c.order a off);
    waits = λ f. stands_cleared hosts f (mail.box_of f (crossings_of moments)) (c.waits f) (same_host f.source h);
  }

  asked_coupled : (h : Host) (r : Request) (moments : List Moment) → MayHappen hosts.strange hosts.all (Asked h r) moments → Coupled hosts moments → Coupled hosts (Asked h r ∷ moments)
  asked_coupled h r moments happens c = record {
    run = (by_request (λ e. Needs hosts.all e (events_of moments)) h r (λ peer. tt) tt, by_request (λ e. Allowed hosts e (events_of moments)) h r (λ peer off. up_same hosts.all h moments ∙ (happens off).0) tt, c.run);
    story = (tt, c.story);
    order = λ a off. order_if (same_host a h) (served (program a moments) r) (program a moments)
        (λ e. request_order (program a moments) r (happens (subst (λ (x : Host). hosts.strange x ≡ false) (same_host-true a h e) off)).1 (c.order a off)) (c.order a off);
    waits = c.waits;
  }

  -- what hosts do over the mailboxes
  pub coupled : (moments : List Moment) → mail.IsRun hosts.all (crossings_of moments) → Happened hosts moments → Coupled hosts moments
  coupled [] r t = record { run = tt; story = tt; order = λ a off. tt; waits = λ f. tt }
  coupled (Crossed (crossing.Out m) ∷ moments) r t = out_coupled m moments r.1 r.0 t.0 (coupled moments r.1 t.1)
  coupled (Crossed (crossing.In m) ∷ moments) r t = in_coupled m moments r.0 (coupled moments r.1 t.1)
  coupled (Crossed (crossing.Answer kind f) ∷ moments) r t = answer_coupled kind f moments r.0 (coupled moments r.1 t.1)
  coupled (Crossed (crossing.Down h) ∷ moments) r t = down_coupled h moments r.0 (coupled moments r.1 t.1)
  coupled (Crossed (crossing.Up h) ∷ moments) r t = up_coupled h moments r.0 (coupled moments r.1 t.1)
  coupled (Asked h q ∷ moments) r t = asked_coupled h q moments t.0 (coupled moments r t.1)
