-- What each moment reports of data: one notice of what goes out on a connection's link, at most one of what comes in on it, and none otherwise.
use Rattle.world_keeps_lives.proofs.Common.{◌≡◌, ◌⊎◌, inl, inr, ℕ, ◌*◌, ◌==◌, Bool, true, false, if◌then◌else◌, List, [], ◌∷◌, ◌++◌, take, find, Option, Some, None, refl, ap, sym, subst, eqb-true, Host, same_host, Flow, Answer, Crossing, HostMessage, data_bits, header_of, Command, DataHeader, ERRONEOUS, Order, DeskState, desk_of, is_ending, is_open, receives_on, is_ready, Entry, Notice, NcpState, pair_with, Peer, Request, HaveAddresses, Asked, Crossed, IsNext, Moment, places, program, Contains, crossings_of, notices_by, places_same, AreCommands, AreOurs, Network, Happened, pair_range, programs_ranged, served_in}
use Rattle.host_pairs.specs.Commands.{Ending, Open, Unconnected, Found}
use Rattle.host_pairs.specs.Data.{arrived, arrived_if, data_found, data_of, data_taken, is_acceptable, text_faulted}
use Rattle.host_pairs.specs.Parcels.{Parcel, link_of}
use Rattle.host_pairs.specs.Turn.{TurnState, if_ready, message_taken, with_desk}
use Rattle.sockets.specs.Accepting.{after_turn, turn_of, accepted}
use Rattle.sockets.specs.Sending.{message_for, next_in, offered_by, offered}
use Rattle.interface.specs.Mailboxes as mail
use Rattle.interface.specs.declared.crossing.Crossing.TheVariants as crossing
use Rattle.interface.specs.declared.crossing.Inbound.TheVariants as inbound
use Rattle.host_pairs.specs.Commands as commands
use Rattle.host_pairs.specs.Parcels as parcel
use Rattle.host_pairs.specs.declared.notice.Notice.TheVariants as notice
use Rattle.world_keeps_lives.proofs.Facts.{no}
use Rattle.world_keeps_lives.proofs.Walk.Rules.{Each, MayTell, each_weaker}
use Rattle.world_keeps_lives.proofs.Walk.ByRules.{Ends, answer_keeps, message_keeps, offer_keeps, request_told}
use Rattle.world_keeps_lives.proofs.Grounds.{Going, Grounded, Opens, Tells, goes_of, flow_is, going_now, going_rules, grounded_hears, grounded_rules, grounds, still_grounded}
use Rattle.world_keeps_lives.proofs.Walk.Rules.{Begins, Goes, Hears, Rules, each_of}

-- ---- data

-- what is reported of data that come in
pub record Takes (link : ℕ) (text : List Bool) (es : List Entry) (ns : List Notice) : Type 0 where
  pub end : Entry
  pub header : DataHeader
  pub found : find (receives_on link) es ≡ Some end
  pub opened : is_open end ≡ true
  pub read : header_of text ≡ Some header
  pub is : ns ≡ notice.Arrived end.own (data_of (data_bits header) text) ∷ []

abbrev pub TakesIf : ℕ → List Bool → List Entry → List Notice → Type 0
TakesIf link text es ns = (ns ≡ []) ⊎ Takes link text es ns

desk_takes : (link : ℕ) (text : List Bool) (d : DeskState) → d.notices ≡ []
    → TakesIf link text d.entries (data_taken link text d).notices
desk_takes link text d none = by (find (receives_on link) d.entries) refl where
  by : (o : Option Entry) → find (receives_on link) d.entries ≡ o
      → TakesIf link text d.entries (data_found link text (commands.found_in o) d).notices
  by None f = inl none
  by (Some e) f = opened (is_open e) (is_ending e) refl where
    opened : (a b : Bool) → is_open e ≡ a
        → TakesIf link text d.entries (data_found link text (if a then Open e else (if b then Ending else Unconnected)) d).notices
    opened false true g = inl none
    opened false false g = inl none
    opened true b g = read (header_of text) refl where
      read : (o : Option DataHeader) → header_of text ≡ o
          → TakesIf link text d.entries (arrived_if link e text o d).notices
      read None r = inl none
      read (Some k) r = fits (is_acceptable e k) where
        fits : (c : Bool)
            → TakesIf link text d.entries (if c then arrived link e (data_bits k) text d else text_faulted ERRONEOUS text d).notices
        fits false = inl none
        fits true = inr (record { end = e; header = k; found = f; opened = g; read = r; is = ap (λ (ns : List Notice). ns ++ notice.Arrived e.own (data_of (data_bits k) text) ∷ []) none })

turn_takes : (link : ℕ) (text : List Bool) (t : TurnState) → t.notices ≡ []
    → TakesIf link text t.pair.entries (if_ready (data_taken link text) t).notices
turn_takes link text t none = by (is_ready t.pair.phase) where
  by : (b : Bool)
      → TakesIf link text t.pair.entries (if b then with_desk t (data_taken link text (desk_of t.pair t.listening)) else t).notices
  by false = inl none
  by true = subst (λ (ns : List Notice). TakesIf link text t.pair.entries (ns ++ (data_taken link text (desk_of t.pair t.listening)).notices)) (sym none) (desk_takes link text _ refl)

pub message_takes : (s : NcpState) (m : HostMessage) (stamp : ℕ) → (m.flow.link.0 == 0) ≡ false
    → TakesIf m.flow.link.0 m.text (pair_with m.flow.source s.peers).entries (accepted s (inbound.Message m) stamp).1
unfolding accepted
message_takes s m stamp off = by (same_host s.own m.flow.destination) where
  turn : (b : Bool) → (m.flow.link.0 == 0) ≡ b
      → TakesIf m.flow.link.0 m.text (pair_with m.flow.source s.peers).entries (message_taken m.flow.source stamp m.flow.link.0 m.text (turn_of s m.flow.source)).notices
  turn true e = no (m.flow.link.0 == 0) e off
  turn false e = rw e (turn_takes m.flow.link.0 m.text _ refl)

  by : (b : Bool)
      → TakesIf m.flow.link.0 m.text (pair_with m.flow.source s.peers).entries (if b then after_turn s m.flow.source (message_taken m.flow.source stamp m.flow.link.0 m.text (turn_of s m.flow.source)) else (s, [])).1
  by true = turn (m.flow.link.0 == 0) refl
  by false = inl refl

-- what is reported of data that go out
pub bytes_told : (s : NcpState) (stamp : ℕ) (g : Peer) (e : Entry) (size count : ℕ)
    → next_in s.peers ≡ Some (g, parcel.Bytes e size count)
    → (offered s stamp).1 ≡ notice.Sent e.own (take (size * count) e.bits) ∷ []
unfolding offered
bytes_told s stamp g e size count next = ap (λ (o : Option (Peer × Parcel)). (offered_by s stamp o).1) next

-- ---- all else reports no data

-- what is reported of what a host does with a peer: no data, and of an opening with a peer that runs the program that its requests crossed
abbrev pub Reports : Network → Host → Host → List Crossing → Notice → Type 0
Reports hosts h p log (notice.Opened s q f a b) = (q ≡ p) × (AreOurs hosts h p → Opens h p log s f a b)
Reports hosts h p log (notice.Sent s bits) = ⊥
Reports hosts h p log (notice.Arrived s bits) = ⊥
Reports hosts h p log n = Unit {0}

module _ (hosts : Network) (h p : Host) (log : List Crossing) where
  reported : (n : Notice) → Tells h p log n → Reports hosts h p log n
  reported (notice.Opened s q f a b) t = (t.0, λ ours. t.1)
  reported (notice.Sent s bits) t = absurd t
  reported (notice.Arrived s bits) t = absurd t
  reported n t = tt

  all_reported : (ns : List Notice) → Each (Tells h p log) ns → Each (Reports hosts h p log) ns
  all_reported ns t = each_weaker _ _ ns reported t

  -- of an end with a stranger nothing is asked
  abbrev Any : Entry → Type 0
  Any e = Unit {0}

  any_ends : (s : NcpState) → Ends Any p s
  any_ends s = each_weaker _ Any _ (λ e there. tt) (each_of _)

  aside_rules : hosts.strange p ≡ true → Rules Any (Reports hosts h p log) p
  aside_rules on = record {
    quiet = λ e f q i. tt;
    others = λ n o. reported n ((grounded_rules h p log).others n o);
    opens = λ e a b i asked partner goes. (refl, λ ours. no (hosts.strange p) on ours.1);
    returns = λ e messages bits i o. tt;
  }

  any_begins : Begins Any
  any_begins = record { fresh = λ e mine asked partner. tt; refused = λ own foreign stamp. tt }

  any_hears : (stamp : ℕ) (orders : List Order) → Hears Any stamp orders
  any_hears stamp orders = record { begins = any_begins; rts = λ own foreign link e there even odd o f i. tt; str = λ own foreign size e there odd even o f i. tt }

  any_goes : (stamp : ℕ) (cs : List Command) → Goes Any stamp cs
  any_goes stamp cs = record { rts = λ own foreign link e there even o f i. tt; str = λ own foreign size e there odd o f i. tt }

-- what goes out isn't data
abbrev pub IsNoData : Parcel → Type 0
IsNoData (parcel.Bytes e size count) = ⊥
IsNoData z = Unit {0}

module _ (hosts : Network) (addresses : HaveAddresses hosts.all) (moments : List Moment)
    (run : mail.IsRun hosts.all (crossings_of moments)) (time : Happened hosts moments) where
  grounds_after : (a b : Host) → AreOurs hosts a b → (c : Crossing)
      → Ends (Grounded a b (c ∷ crossings_of moments)) b (program a moments)
  grounds_after a b ours c = each_weaker _ _ _ (still_grounded a b c _) (grounds hosts addresses moments run time a b ours)

  -- a message with commands, an RST or an RRP goes out
  module _ (m : HostMessage) (plain : hosts.strange m.flow.source ≡ false) (n : IsNext (program m.flow.source moments) m) (z : Parcel) (quiet : IsNoData z)
      (next : next_in (program m.flow.source moments).peers ≡ Some (n.peer, z)) (is : m ≡ message_for (program m.flow.source moments).own n.peer z) where
    abbrev a : Host
    a = m.flow.source

    abbrev b : Host
    b = m.flow.destination

    abbrev log : List Crossing
    log = crossing.Out m ∷ crossings_of moments

    abbrev queue : List Command
    queue = (pair_with m.flow.destination (program m.flow.source moments).peers).queue

    queued : AreCommands (pair_with m.flow.destination (program m.flow.source moments).peers).queue
    queued = (pair_range m.flow.destination _ (programs_ranged hosts moments (served_in hosts moments time) m.flow.source plain).pairs).commands

    to : n.peer.host ≡ m.flow.destination
    to = sym (ap (λ (x : HostMessage). x.flow.destination) is)

    offer_ours : AreOurs hosts m.flow.source m.flow.destination
        → Each (Tells m.flow.source m.flow.destination (crossing.Out m ∷ crossings_of moments)) (notices_by (Crossed (crossing.Out m)) moments)
    offer_ours ours =
        (offer_keeps (Going a b log queue) (Tells a b log) b (going_rules a b log queue) _ _ n.peer z n.order next to queued (may z quiet next is)
        (going_now hosts addresses moments run time a b ours log (grounds_after a b ours _))).told where
          may : (z : Parcel) → IsNoData z → next_in (program m.flow.source moments).peers ≡ Some (n.peer, z)
              → m ≡ message_for (program m.flow.source moments).own n.peer z
              → MayTell (Going a b log queue) (Tells a b log) b (going_rules a b log queue) (places moments) z (pair_with b (program a moments).peers)
          may parcel.Reset quiet next is = tt
          may parcel.Reply quiet next is = tt
          may (parcel.Commands count) quiet next is = goes_of hosts addresses moments run time a b ours log m n.peer count (inl (refl, places_same moments)) refl next n.order is
          may (parcel.Bytes e size count) quiet next is = absurd quiet

    offer_aside : hosts.strange m.flow.destination ≡ true
        → Each (Reports hosts m.flow.source m.flow.destination (crossing.Out m ∷ crossings_of moments)) (notices_by (Crossed (crossing.Out m)) moments)
    offer_aside on =
        (offer_keeps (Any hosts a b log) (Reports hosts a b log) b (aside_rules hosts a b log on) _ _ n.peer z n.order next to queued (may z quiet)
        (any_ends hosts a b log (program a moments))).told where
          may : (z : Parcel) → IsNoData z
              → MayTell (Any hosts a b log) (Reports hosts a b log) b (aside_rules hosts a b log on) (places moments) z (pair_with b (program a moments).peers)
          may parcel.Reset quiet = tt
          may parcel.Reply quiet = tt
          may (parcel.Commands count) quiet = any_goes hosts a b log (places moments) _
          may _ quiet = absurd quiet

    pub offer_told : Each (Reports hosts m.flow.source m.flow.destination (crossing.Out m ∷ crossings_of moments)) (notices_by (Crossed (crossing.Out m)) moments)
    offer_told = by (hosts.strange m.flow.destination) refl where
      by : (v : Bool) → hosts.strange m.flow.destination ≡ v
          → Each (Reports hosts m.flow.source m.flow.destination (crossing.Out m ∷ crossings_of moments)) (notices_by (Crossed (crossing.Out m)) moments)
      by true on = offer_aside on
      by false off = all_reported hosts a b log _ (offer_ours (plain, off))

  -- a message on link 0 comes in
  pub control_told : (m : HostMessage) → hosts.strange m.flow.destination ≡ false → (m.flow.link.0 == 0) ≡ true
      → Each (Reports hosts m.flow.destination m.flow.source (crossing.In m ∷ crossings_of moments)) (notices_by (Crossed (crossing.In m)) moments)
  control_told m plain here = by (hosts.strange m.flow.source) refl where
    a : Host
    a = m.flow.destination

    b : Host
    b = m.flow.source

    log : List Crossing
    log = crossing.In m ∷ crossings_of moments

    by : (v : Bool) → hosts.strange m.flow.source ≡ v
        → Each (Reports hosts m.flow.destination m.flow.source (crossing.In m ∷ crossings_of moments)) (notices_by (Crossed (crossing.In m)) moments)
    by true on =
        (message_keeps (Any hosts a b log) (Reports hosts a b log) b (aside_rules hosts a b log on) _ m _ refl
        ((λ z. any_hears hosts a b log (places moments) _), (λ off e k f o t. no (m.flow.link.0 == 0) here off)) (any_ends hosts a b log (program a moments))).told
    by false off =
        all_reported hosts a b log _
        (message_keeps (Grounded a b log) (Tells a b log) b (grounded_rules a b log) _ m _ refl
        ((λ z. grounded_hears a b log m (places moments) (flow_is m.flow b a refl refl (eqb-true m.flow.link.0 0 z)) (inl (refl, places_same moments))), (λ off e k f o t. no (m.flow.link.0 == 0) here off))
        (grounds_after a b (plain, off) _)).told

  pub answer_told : (kind : Answer) (f : Flow) → hosts.strange f.source ≡ false
      → Each (Reports hosts f.source f.destination (crossing.Answer kind f ∷ crossings_of moments)) (notices_by (Crossed (crossing.Answer kind f)) moments)
  answer_told kind f plain = by (hosts.strange f.destination) refl where
    log : List Crossing
    log = crossing.Answer kind f ∷ crossings_of moments

    by : (v : Bool) → hosts.strange f.destination ≡ v
        → Each (Reports hosts f.source f.destination (crossing.Answer kind f ∷ crossings_of moments)) (notices_by (Crossed (crossing.Answer kind f)) moments)
    by true on =
        (answer_keeps (Any hosts f.source f.destination log) (Reports hosts f.source f.destination log) f.destination (aside_rules hosts f.source f.destination log on)
        _ kind f _ refl (any_ends hosts f.source f.destination log (program f.source moments))).told
    by false off =
        all_reported hosts f.source f.destination log _
        (answer_keeps (Grounded f.source f.destination log) (Tells f.source f.destination log) f.destination (grounded_rules f.source f.destination log)
        _ kind f _ refl (grounds_after f.source f.destination (plain, off) _)).told

pub asking_told : (hosts : Network) (moments : List Moment) (h : Host) (r : Request)
    → Each (Reports hosts h h (crossings_of moments)) (notices_by (Asked h r) moments)
asking_told hosts moments h r =
    all_reported hosts h h (crossings_of moments) _
    (request_told (Grounded h h (crossings_of moments)) (Tells h h (crossings_of moments)) h (grounded_rules h h (crossings_of moments)) _ r)
