-- The requests of each end of a host's program, in the messages that crossed.
use Rattle.world_keeps_lives.proofs.Common.{◌≡◌, inl, inr, ℕ, ◌<◌, Bool, true, false, if◌then◌else◌, zero, suc, List, [], ◌∷◌, map, take, drop, length, slice_index_or, Some, refl, ap, sym, subst, ◌∙◌, arith, Contains, eqb-true, take-append-drop, Contains-append_left, Host, same_host, Flow, Answer, Crossing, HostMessage, or_false, same_host-true, is_receive_socket, is_send_socket, Command, Legal, Order, orders_of, has_cls, is_ending, is_receiving, PairState, Entry, Notice, offer_read, AreCommands, IsReadBack, accepted, NcpState, opening_state, pair_with, AreInOrder, message_for, next_in, offered, Peer, next_pair, answer_leaves, message_leaves, offer_leaves, HaveAddresses, CrossedAt, HasCrossed, coming, going, request, control_flow, Asked, Crossed, IsNext, Moment, places, program, Follows, crossings_of, AreOurs, Network, same_Some, Happened}
use Rattle.host_pairs.specs.Parcels.{Parcel, text_for}
use Rattle.sockets.specs.Requests.{served}
use Rattle.net_sim.proofs.lemmas.{places_same, flow_of, program_own, coupled}
use Rattle.world_keeps_pairing.proofs.lemmas.{even_odd, programs_ranged, send_odd, queued_commands, queued_link, served_in}
use Rattle.interface.specs.Mailboxes as mail
use Rattle.interface.specs.declared.crossing.Crossing.TheVariants as crossing
use Rattle.interface.specs.declared.crossing.Inbound.TheVariants as inbound
use Rattle.ncp_control.specs.declared.command.Command.TheVariants as command
use Rattle.host_pairs.specs.Parcels as parcel
use Rattle.host_pairs.specs.declared.notice.Notice.TheVariants as notice
use Rattle.world_keeps_lives.proofs.Facts.{no_place}
use Rattle.world_keeps_lives.proofs.Walk.Rules.{Begins, Each, Goes, Hears, IsOther, MayTell, Quiet, Rules, each_of, each_weaker}
use Rattle.world_keeps_lives.proofs.Walk.ByRules.{Done, Ends, MayTake, answer_keeps, message_keeps, offer_keeps, request_keeps}

-- ---- what crossed stays in the log

pub still_crossed : (way : HostMessage → Crossing) (from to : Host) (place : ℕ) (c : Command) (d : Crossing) (log : List Crossing)
    → HasCrossed way from to place c log → HasCrossed way from to place c (d ∷ log)
still_crossed way from to place c d log h = record { message = h.message; flow = h.flow; crossed = inr h.crossed; holds = h.holds }

pub crossed_below : (place : ℕ) (c : Crossing) (log : List Crossing) → CrossedAt place c log → place < length log
crossed_below place c [] i = absurd i
crossed_below place c (d ∷ log) (inl i) = omega (arith, i.1)
crossed_below place c (d ∷ log) (inr i) = let below : place < length log = crossed_below place c log i in omega (arith, below)

-- ---- ends

pub record IsAsked (h p : Host) (log : List Crossing) (e : Entry) (a : ℕ) : Type 0 where
  pub named : ℕ
  pub crossed : HasCrossed going h p a (request e.own e.foreign named) log
  pub link : is_receiving e ≡ true → e.link ≡ Some named

pub record IsAnswered (h p : Host) (log : List Crossing) (e : Entry) (b : ℕ) : Type 0 where
  pub named : ℕ
  pub crossed : HasCrossed coming p h b (request e.foreign e.own named) log
  pub link : is_receiving e ≡ false → e.link ≡ Some named

-- an end of this host's own has asked in a message that went out, and was answered in one that came in
pub record Grounded (h p : Host) (log : List Crossing) (e : Entry) : Type 0 where
  pub refusing : e.mine ≡ false → has_cls e.closing ≡ true
  pub asked : e.mine ≡ true → (a : ℕ) → e.asked ≡ Some a → IsAsked h p log e a
  pub partner : e.mine ≡ true → (b : ℕ) → e.partner ≡ Some b → IsAnswered h p log e b

-- what is reported of an opening
pub record Opens (h p : Host) (log : List Crossing) (s f a b : ℕ) : Type 0 where
  pub link : ℕ
  pub size : ℕ
  pub own : HasCrossed going h p a (request s f (if is_receive_socket s then link else size)) log
  pub partner : HasCrossed coming p h b (request f s (if is_receive_socket s then size else link)) log

abbrev pub Tells : Host → Host → List Crossing → Notice → Type 0
Tells h p log (notice.Opened s q f a b) = (q ≡ p) × Opens h p log s f a b
Tells h p log (notice.Sent s bits) = ⊥
Tells h p log (notice.Arrived s bits) = ⊥
Tells h p log n = Unit {0}

abbrev pub Nothing : Notice → Type 0
Nothing n = Unit {0}

rts_is : (own foreign link : ℕ) → is_receive_socket own ≡ true → request own foreign link ≡ command.Rts own foreign link
rts_is own foreign link e = ap (λ (b : Bool). if b then command.Rts own foreign link else command.Str own foreign link) e

str_is : (own foreign size : ℕ) → is_send_socket own ≡ true → request own foreign size ≡ command.Str own foreign size
str_is own foreign size e = ap (λ (b : Bool). if b then command.Rts own foreign size else command.Str own foreign size) (send_odd own e)

false_is : {A : Type 0} → false ≡ true → A
false_is e = absurd (cc)

module _ (h p : Host) (log : List Crossing) where
  asked_same : (e f : Entry) (a : ℕ) → Quiet e f → IsAsked h p log e a → IsAsked h p log f a
  asked_same e f a q i = record {
    named = i.named;
    crossed = subst (λ (n : ℕ). HasCrossed going h p a (request n f.foreign i.named) log) (sym q.own) (subst (λ (n : ℕ). HasCrossed going h p a (request e.own n i.named) log) (sym q.foreign) i.crossed);
    link = λ r. q.link ∙ i.link (ap is_receive_socket (sym q.own) ∙ r);
  }

  answered_same : (e f : Entry) (b : ℕ) → Quiet e f → IsAnswered h p log e b → IsAnswered h p log f b
  answered_same e f b q i = record {
    named = i.named;
    crossed = subst (λ (n : ℕ). HasCrossed coming p h b (request n f.own i.named) log) (sym q.foreign) (subst (λ (n : ℕ). HasCrossed coming p h b (request e.foreign n i.named) log) (sym q.own) i.crossed);
    link = λ r. q.link ∙ i.link (ap is_receive_socket (sym q.own) ∙ r);
  }

  quiet_grounded : (e f : Entry) → Quiet e f → Grounded h p log e → Grounded h p log f
  quiet_grounded e f q g = record {
    refusing = λ m. q.closing (g.refusing (sym q.mine ∙ m));
    asked = λ m a is. asked_same e f a q (g.asked (sym q.mine ∙ m) a (sym q.asked ∙ is));
    partner = λ m b is. answered_same e f b q (g.partner (sym q.mine ∙ m) b (sym q.partner ∙ is));
  }

  pub grounded_begins : Begins (Grounded h p log)
  grounded_begins = record {
    fresh = λ e mine asked partner. record { refusing = λ f. false_is (sym f ∙ mine); asked = λ m a is. no_place a (sym asked ∙ is); partner = λ m b is. no_place b (sym partner ∙ is) };
    refused = λ own foreign stamp. record { refusing = λ f. refl; asked = λ m a is. false_is m; partner = λ m b is. false_is m };
  }

  other_told : (n : Notice) → IsOther n → Tells h p log n
  other_told (notice.Opened s q f a b) o = absurd o
  other_told (notice.Sent s bits) o = absurd o
  other_told (notice.Arrived s bits) o = absurd o
  other_told n o = tt

  own_end : (e : Entry) → (e.mine ≡ false → has_cls e.closing ≡ true) → is_ending e ≡ false → e.mine ≡ true
  own_end e r goes = by e.mine refl where
    by : (b : Bool) → e.mine ≡ b → b ≡ true
    by true f = refl
    by false f = false_is (sym (or_false (has_cls e.closing) e.partner_closed goes).0 ∙ r f)

  opening_by_ends : (e : Entry) (a b : ℕ) → IsAsked h p log e a → IsAnswered h p log e b
      → Opens h p log e.own e.foreign a b
  opening_by_ends e a b i j = by (is_receive_socket e.own) refl where
    by : (r : Bool) → is_receive_socket e.own ≡ r → Opens h p log e.own e.foreign a b
    by true r = record {
      link = i.named;
      size = j.named;
      own = subst (λ (t : Bool). HasCrossed going h p a (request e.own e.foreign (if t then i.named else j.named)) log) (sym r) i.crossed;
      partner = subst (λ (t : Bool). HasCrossed coming p h b (request e.foreign e.own (if t then j.named else i.named)) log) (sym r) j.crossed;
    }
    by false r = record {
      link = j.named;
      size = i.named;
      own = subst (λ (t : Bool). HasCrossed going h p a (request e.own e.foreign (if t then j.named else i.named)) log) (sym r) i.crossed;
      partner = subst (λ (t : Bool). HasCrossed coming p h b (request e.foreign e.own (if t then i.named else j.named)) log) (sym r) j.crossed;
    }

  pub grounded_rules : Rules (Grounded h p log) (Tells h p log) p
  grounded_rules = record {
    quiet = quiet_grounded;
    others = other_told;
    opens = λ e a b g asked partner goes. (let mine : e.mine ≡ true = own_end e g.refusing goes in (refl, opening_by_ends e a b (g.asked mine a asked) (g.partner mine b partner)));
    returns = λ e messages bits g o. tt;
  }

  pub grounded_hears : (m : HostMessage) (stamp : ℕ) → m.flow ≡ control_flow p h → CrossedAt stamp (coming m) log
      → Hears (Grounded h p log) stamp (orders_of m.text)
  grounded_hears m stamp flow crossed = record {
    begins = grounded_begins;
    rts = λ own foreign link e there even odd o f g. record {
      refusing = g.refusing;
      asked = λ mine a is. (let i : IsAsked h p log e a = g.asked mine a is in record { named = i.named; crossed = i.crossed; link = λ r. absurd (even_odd own (ap is_receive_socket (sym o) ∙ r) odd) });
      partner = λ mine b is. record {
        named = link;
        crossed = subst (λ (place : ℕ). HasCrossed coming p h place (request e.foreign e.own link) log) (same_Some stamp b is) (record {
          message = m;
          flow = flow;
          crossed = crossed;
          holds = subst (λ (c : Command). Contains (orders_of m.text) (Legal c)) (sym (ap (λ (n : ℕ). request n e.own link) f ∙ ap (λ (n : ℕ). request foreign n link) o ∙ rts_is foreign own link even)) there;
        });
        link = λ r. refl;
      };
    };
    str = λ own foreign size e there odd even o f g. record {
      refusing = g.refusing;
      asked = λ mine a is. (let i : IsAsked h p log e a = g.asked mine a is in record { named = i.named; crossed = i.crossed; link = i.link });
      partner = λ mine b is. record {
        named = size;
        crossed = subst (λ (place : ℕ). HasCrossed coming p h place (request e.foreign e.own size) log) (same_Some stamp b is) (record {
          message = m;
          flow = flow;
          crossed = crossed;
          holds = subst (λ (c : Command). Contains (orders_of m.text) (Legal c)) (sym (ap (λ (n : ℕ). request n e.own size) f ∙ ap (λ (n : ℕ). request foreign n size) o ∙ str_is foreign own size odd)) there;
        });
        link = λ r. false_is (sym r ∙ ap is_receive_socket o ∙ even);
      };
    };
  }

  -- ---- what goes out: an RTS that waits names the link of its end

  abbrev pub Names : List Command → Entry → Type 0
  Names queue e = e.mine ≡ true → (l : ℕ) → Contains queue (command.Rts e.own e.foreign l) → e.link ≡ Some l

  abbrev pub Going : List Command → Entry → Type 0
  Going queue e = Grounded h p log e × Names queue e

  pub going_rules : (queue : List Command) → Rules (Going queue) (Tells h p log) p
  going_rules queue = record {
    quiet = λ e f q g. (
      quiet_grounded e f q g.0,
      λ m l there. q.link ∙ g.1 (sym q.mine ∙ m) l (subst (λ (n : ℕ). Contains queue (command.Rts n e.foreign l)) q.own (subst (λ (n : ℕ). Contains queue (command.Rts f.own n l)) q.foreign there)),
    );
    others = other_told;
    opens = λ e a b g asked partner goes. (let mine : e.mine ≡ true = own_end e g.0.refusing goes in (refl, opening_by_ends e a b (g.0.asked mine a asked) (g.0.partner mine b partner)));
    returns = λ e messages bits g o. tt;
  }

  taken_in : (n : ℕ) (queue : List Command) (c : Command) → Contains (take n queue) c → Contains queue c
  taken_in n queue c there = subst (λ (l : List Command). Contains l c) (take-append-drop n queue) (Contains-append_left (take n queue) (drop n queue) c there)

  read_at : (cs : List Command) (c : Command) (i : ℕ) → i < length cs → slice_index_or cs i c ≡ c
      → Contains (map Legal cs) (Legal c)
  read_at [] c i less is = absurd (omega (arith, less))
  read_at (d ∷ cs) c zero less is = (0, omega arith, ap Legal is)
  read_at (d ∷ cs) c (suc i) less is = let rest : Contains (map Legal cs) (Legal c) = read_at cs c i (omega (arith, less)) is in (suc rest.0, omega (arith, rest.1), rest.2)

  going_goes : (m : HostMessage) (stamp n : ℕ) (queue : List Command) → m.flow ≡ control_flow h p
      → CrossedAt stamp (going m) log → orders_of m.text ≡ map Legal (take n queue)
      → Goes (Going queue) stamp (take n queue)
  going_goes m stamp n queue flow crossed reads = record {
    rts = λ own foreign link e there even o f g. (
      record {
        refusing = g.0.refusing;
        asked = λ mine a is. record {
          named = link;
          crossed = subst (λ (place : ℕ). HasCrossed going h p place (request e.own e.foreign link) log) (same_Some stamp a is) (has _ _ (ap (λ (k : ℕ). request k e.foreign link) o ∙ ap (λ (k : ℕ). request own k link) f ∙ rts_is own foreign link even) there);
          link = λ r. g.1 mine link (subst (λ (k : ℕ). Contains queue (command.Rts k e.foreign link)) (sym o) (subst (λ (k : ℕ). Contains queue (command.Rts own k link)) (sym f) (taken_in n queue _ there)));
        };
        partner = λ mine b is. (let i : IsAnswered h p log e b = g.0.partner mine b is in record { named = i.named; crossed = i.crossed; link = i.link });
      },
      g.1,
    );
    str = λ own foreign size e there odd o f g. (
      record {
        refusing = g.0.refusing;
        asked = λ mine a is. record {
          named = size;
          crossed = subst (λ (place : ℕ). HasCrossed going h p place (request e.own e.foreign size) log) (same_Some stamp a is) (has _ _ (ap (λ (k : ℕ). request k e.foreign size) o ∙ ap (λ (k : ℕ). request own k size) f ∙ str_is own foreign size odd) there);
          link = λ r. absurd (even_odd own (ap is_receive_socket (sym o) ∙ r) odd);
        };
        partner = λ mine b is. (let i : IsAnswered h p log e b = g.0.partner mine b is in record { named = i.named; crossed = i.crossed; link = i.link });
      },
      g.1,
    );
  } where
    has : (c d : Command) → c ≡ d → Contains (take n queue) d → HasCrossed going h p stamp c log
    has c d same there = record {
      message = m;
      flow = flow;
      crossed = crossed;
      holds = subst (λ (x : Command). Contains (orders_of m.text) (Legal x)) (sym same) (subst (λ (os : List Order). Contains os (Legal d)) (sym reads) (read_at _ d there.0 there.1 there.2));
    }

pub still_grounded : (h p : Host) (d : Crossing) (log : List Crossing) (e : Entry) → Grounded h p log e
    → Grounded h p (d ∷ log) e
still_grounded h p d log e g = record {
  refusing = g.refusing;
  asked = λ m a is. (let i : IsAsked h p log e a = g.asked m a is in record { named = i.named; crossed = still_crossed going h p a _ d log i.crossed; link = i.link });
  partner = λ m b is. (let i : IsAnswered h p log e b = g.partner m b is in record { named = i.named; crossed = still_crossed coming p h b _ d log i.crossed; link = i.link });
}

-- ---- one moment, by any rules

module _ (P : Entry → Type 0) (N : Notice → Type 0) (a b : Host) (rules : Rules P N b) where
  if_ends : (c : Bool) (t old : NcpState) → (c ≡ true → Ends P b t) → Ends P b old → Ends P b (if c then t else old)
  if_ends true t old k h = k refl
  if_ends false t old k h = h

  abbrev pub MayOut : HostMessage → List Moment → Type 0
  MayOut m moments =
      (g : Peer) (y : Parcel) → a ≡ m.flow.source → b ≡ m.flow.destination → next_in (program a moments).peers ≡ Some (g, y) → AreInOrder (program a moments).peers → m ≡ message_for (program a moments).own g y
      → MayTell P N b rules (places moments) y (pair_with b (program a moments).peers)

  abbrev pub MayIn : HostMessage → List Moment → Type 0
  MayIn m moments = a ≡ m.flow.destination → b ≡ m.flow.source → MayTake P N b rules (program a moments) m (places moments)

  pub out_done : (m : HostMessage) (moments : List Moment) → IsNext (program a moments) m
      → AreCommands (pair_with b (program a moments).peers).queue → MayOut m moments → a ≡ m.flow.source
      → b ≡ m.flow.destination → Ends P b (program a moments)
      → Done P N b rules (offered (program a moments) (places moments))
  out_done m moments n ok may from to h =
      offer_keeps P N b rules _ _ n.peer n.parcel n.order n.next (sym (to ∙ ap (λ (x : HostMessage). x.flow.destination) n.message)) ok (may n.peer n.parcel from to n.next n.order n.message) h

  pub out_ends : (m : HostMessage) (moments : List Moment)
      → (a ≡ m.flow.source → IsNext (program m.flow.source moments) m)
      → AreCommands (pair_with b (program a moments).peers).queue → MayOut m moments → Ends P b (program a moments)
      → Ends P b (program a (Crossed (crossing.Out m) ∷ moments))
  out_ends m moments n ok may h = if_ends _ _ _ here h where
    here : same_host a m.flow.source ≡ true → Ends P b (offered (program a moments) (places moments)).0
    here e = by (same_host b m.flow.destination) refl where
      from : a ≡ m.flow.source
      from = same_host-true a m.flow.source e

      own : IsNext (program a moments) m
      own = subst (λ (y : Host). IsNext (program y moments) m) (sym from) (n from)

      by : (c : Bool) → same_host b m.flow.destination ≡ c → Ends P b (offered (program a moments) (places moments)).0
      by true f = (out_done m moments own ok may from (same_host-true b m.flow.destination f) h).ends
      by false f =
          subst (λ (q : PairState). Each P q.entries) (sym (offer_leaves (program a moments) (places moments) own.peer own.parcel b own.next (ap (λ (y : HostMessage). same_host b y.flow.destination) (sym own.message) ∙ f))) h

  pub in_ends : (m : HostMessage) (moments : List Moment) → MayIn m moments → Ends P b (program a moments)
      → Ends P b (program a (Crossed (crossing.In m) ∷ moments))
  in_ends m moments may h = if_ends _ _ _ here h where
    here : same_host a m.flow.destination ≡ true
        → Ends P b (accepted (program a moments) (inbound.Message m) (places moments)).0
    here e = by (same_host b m.flow.source) refl where
      by : (c : Bool) → same_host b m.flow.source ≡ c
          → Ends P b (accepted (program a moments) (inbound.Message m) (places moments)).0
      by true f =
          let from : b ≡ m.flow.source = same_host-true b m.flow.source f in
          (message_keeps P N b rules _ m _ (sym from) (may (same_host-true a m.flow.destination e) from) h).ends
      by false f = subst (λ (q : PairState). Each P q.entries) (sym (message_leaves _ m _ b f)) h

  answer_ends : (kind : Answer) (f : Flow) (moments : List Moment) → Ends P b (program a moments)
      → Ends P b (program a (Crossed (crossing.Answer kind f) ∷ moments))
  answer_ends kind f moments h = if_ends _ _ _ (λ e. here) h where
    here : Ends P b (accepted (program a moments) (inbound.Answer kind f) (places moments)).0
    here = by (same_host b f.destination) refl where
      by : (c : Bool) → same_host b f.destination ≡ c
          → Ends P b (accepted (program a moments) (inbound.Answer kind f) (places moments)).0
      by true g = (answer_keeps P N b rules _ kind f _ (sym (same_host-true b f.destination g)) h).ends
      by false g = subst (λ (q : PairState). Each P q.entries) (sym (answer_leaves _ kind f _ b g)) h

  abbrev pub May : Moment → List Moment → Type 0
  May (Crossed (crossing.Out m)) moments =
      MayOut m moments × (a ≡ m.flow.source → IsNext (program m.flow.source moments) m)
  May (Crossed (crossing.In m)) moments = MayIn m moments
  May x moments = Unit {0}

  pub step_ends : Begins P → (x : Moment) (moments : List Moment)
      → AreCommands (pair_with b (program a moments).peers).queue → May x moments → Ends P b (program a moments)
      → Ends P b (program a (x ∷ moments))
  step_ends begins (Crossed (crossing.Out m)) moments ok may h = out_ends m moments may.1 ok may.0 h
  step_ends begins (Crossed (crossing.In m)) moments ok may h = in_ends m moments may h
  step_ends begins (Crossed (crossing.Answer kind f)) moments ok may h = answer_ends kind f moments h
  step_ends begins (Crossed (crossing.Down g)) moments ok may h = if_ends (same_host a g) (opening_state a) (program a moments) (λ e. tt) h
  step_ends begins (Crossed (crossing.Up g)) moments ok may h = if_ends (same_host a g) (opening_state a) (program a moments) (λ e. tt) h
  step_ends begins (Asked g r) moments ok may h = if_ends _ _ _ (λ e. request_keeps P N b rules begins (program a moments) r h) h

-- ---- all moments

quietly : (P : Entry → Type 0) (N : Notice → Type 0) (p : Host) → Rules P N p → Rules P Nothing p
quietly P N p r = record { quiet = r.quiet; others = λ n o. tt; opens = λ e a b g f k o. tt; returns = λ e messages bits g o. tt }

pub flow_is : (f : Flow) (x y : Host) → x ≡ f.source → y ≡ f.destination → f.link.0 ≡ 0 → f ≡ control_flow x y
flow_is f x y s d l =
    ap (λ (n : ℕ). flow_of f.source f.destination n) l ∙ ap (λ (h : Host). flow_of h f.destination 0) (sym s) ∙ ap (λ (h : Host). flow_of x h 0) (sym d)

each_both : (P Q R : Entry → Type 0) (es : List Entry) → ((e : Entry) → P e → Q e → R e) → Each P es → Each Q es
    → Each R es
each_both P Q R [] k h j = tt
each_both P Q R (e ∷ es) k h j = (k e h.0 j.0, each_both P Q R es k h.1 j.1)

module _ (hosts : Network) (addresses : HaveAddresses hosts.all) where
  module _ (moments : List Moment) (run : mail.IsRun hosts.all (crossings_of moments)) (time : Happened hosts moments)
      (a b : Host) (ours : AreOurs hosts a b) (log : List Crossing) where
    -- commands that go out of a host's program hold the requests that waited
    pub goes_of : (m : HostMessage) (g : Peer) (count : ℕ) → CrossedAt (places moments) (going m) log
        → b ≡ m.flow.destination → next_in (program a moments).peers ≡ Some (g, parcel.Commands count)
        → AreInOrder (program a moments).peers → m ≡ message_for (program a moments).own g (parcel.Commands count)
        → Goes (Going a b log (pair_with b (program a moments).peers).queue) (places moments) (take count (pair_with b (program a moments).peers).queue)
    goes_of m g count crossed to next order is =
        let there : g.host ≡ b = sym (to ∙ ap (λ (x : HostMessage). x.flow.destination) is) in
        let same : pair_with b (program a moments).peers ≡ g.pair = subst (λ (y : Host). pair_with y (program a moments).peers ≡ g.pair) there (next_pair _ g _ order next) in
        let back : IsReadBack g.pair (parcel.Commands count) = offer_read _ g _ (programs_ranged hosts moments (served_in hosts moments time) a ours.0) next in
        let reads : orders_of m.text ≡ map Legal (take count (pair_with b (program a moments).peers).queue) =
        ap (λ (x : HostMessage). orders_of x.text) is ∙ back ∙ ap (λ (q : PairState). map Legal (take count q.queue)) (sym same) in
        going_goes a b log m _ count _
        (flow_is m.flow a b (sym (ap (λ (x : HostMessage). x.flow.source) is ∙ program_own a moments)) to (ap (λ (x : HostMessage). x.flow.link.0) is)) crossed reads

    -- where the ends are so, they are so beside their requests that wait
    pub going_now : Ends (Grounded a b log) b (program a moments)
        → Ends (Going a b log (pair_with b (program a moments).peers).queue) b (program a moments)
    going_now h =
        each_both _ _ _ _
        (λ e g there. (g, λ mine l waits. queued_link hosts moments addresses run time a b ours l e waits there mine)) h (each_of _)

    commands : AreCommands (pair_with b (program a moments).peers).queue
    commands = queued_commands hosts moments addresses run time a b ours

    out_grounds : (m : HostMessage) → Follows hosts (Crossed (crossing.Out m)) moments
        → CrossedAt (places moments) (going m) log → Ends (Grounded a b log) b (program a moments)
        → Ends (Grounded a b log) b (program a (Crossed (crossing.Out m) ∷ moments))
    out_grounds m n crossed h =
        each_weaker _ _ _ (λ e g. g.0)
        (out_ends (Going a b log (pair_with b (program a moments).peers).queue) Nothing a b (quietly _ _ b (going_rules a b log _)) m moments (λ from. n (subst (λ (g : Host). hosts.strange g ≡ false) from ours.0)) commands may (going_now h)) where
          may : MayOut (Going a b log (pair_with b (program a moments).peers).queue) Nothing a b (quietly _ _ b (going_rules a b log _)) m moments
          may g parcel.Reset from to next order is = tt
          may g parcel.Reply from to next order is = tt
          may g (parcel.Commands count) from to next order is = goes_of m g count crossed to next order is
          may g _ from to next order is = tt

    in_grounds : (m : HostMessage) → CrossedAt (places moments) (coming m) log
        → Ends (Grounded a b log) b (program a moments)
        → Ends (Grounded a b log) b (program a (Crossed (crossing.In m) ∷ moments))
    in_grounds m crossed h =
        in_ends (Grounded a b log) Nothing a b (quietly _ _ b (grounded_rules a b log)) m moments
        (λ to from. ((λ zero. grounded_hears a b log m (places moments) (flow_is m.flow b a from to (eqb-true m.flow.link.0 0 zero)) crossed), (λ off e k f o t. tt))) h

  pub grounds : (moments : List Moment) → mail.IsRun hosts.all (crossings_of moments) → Happened hosts moments
      → (a b : Host) → AreOurs hosts a b → Ends (Grounded a b (crossings_of moments)) b (program a moments)
  grounds [] run time a b ours = tt
  grounds (Asked g r ∷ moments) run time a b ours =
      step_ends (Grounded a b (crossings_of moments)) (Tells a b (crossings_of moments)) a b (grounded_rules a b (crossings_of moments)) (grounded_begins a b (crossings_of moments)) (Asked g r) moments (queued_commands hosts moments addresses run time.1 a b ours) tt (grounds moments run time.1 a b ours)
  grounds (Crossed c ∷ moments) run time a b ours = by c run time (each_weaker (Grounded a b (crossings_of moments)) (Grounded a b (c ∷ crossings_of moments)) (pair_with b (program a moments).peers).entries (still_grounded a b c (crossings_of moments)) (grounds moments run.1 time.1 a b ours)) where
    by : (c : Crossing) → mail.IsRun hosts.all (c ∷ crossings_of moments) → Happened hosts (Crossed c ∷ moments)
        → Ends (Grounded a b (c ∷ crossings_of moments)) b (program a moments)
        → Ends (Grounded a b (c ∷ crossings_of moments)) b (program a (Crossed c ∷ moments))
    by (crossing.Out m) run time h =
        out_grounds moments run.1 time.1 a b ours (crossing.Out m ∷ crossings_of moments) m ((coupled hosts addresses (Crossed (crossing.Out m) ∷ moments) run time).story.0) (inl (refl, places_same moments)) h
    by (crossing.In m) run time h = in_grounds moments run.1 time.1 a b ours (crossing.In m ∷ crossings_of moments) m (inl (refl, places_same moments)) h
    by (crossing.Answer kind f) run time h =
        step_ends (Grounded a b (crossing.Answer kind f ∷ crossings_of moments)) (Tells a b (crossing.Answer kind f ∷ crossings_of moments)) a b (grounded_rules a b (crossing.Answer kind f ∷ crossings_of moments)) (grounded_begins a b (crossing.Answer kind f ∷ crossings_of moments)) (Crossed (crossing.Answer kind f)) moments (queued_commands hosts moments addresses run.1 time.1 a b ours) tt h
    by (crossing.Down g) run time h =
        step_ends (Grounded a b (crossing.Down g ∷ crossings_of moments)) (Tells a b (crossing.Down g ∷ crossings_of moments)) a b (grounded_rules a b (crossing.Down g ∷ crossings_of moments)) (grounded_begins a b (crossing.Down g ∷ crossings_of moments)) (Crossed (crossing.Down g)) moments (queued_commands hosts moments addresses run.1 time.1 a b ours) tt h
    by (crossing.Up g) run time h =
        step_ends (Grounded a b (crossing.Up g ∷ crossings_of moments)) (Tells a b (crossing.Up g ∷ crossings_of moments)) a b (grounded_rules a b (crossing.Up g ∷ crossings_of moments)) (grounded_begins a b (crossing.Up g ∷ crossings_of moments)) (Crossed (crossing.Up g)) moments (queued_commands hosts moments addresses run.1 time.1 a b ours) tt h
