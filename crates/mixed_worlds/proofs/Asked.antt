-- Both requests of a life of a host that runs the program crossed at its stamps, and what is reported of data has just
-- crossed, whatever its peer sends.
use Rattle.mixed_worlds.proofs.Common.{Contains, drop-append_seam, Host, Flow, Answer, Crossing, HostMessage, or_false, header_bits, is_receive_socket, is_send_socket, Command, Legal, Order, orders_of, PairState, Parcel, Entry, Notice, control_flow, accepted, pair_with, AreInOrder, message_for, next_in, offered, next_pair, pair_range, offer_read, Asked, Crossed, Moment, places, program, crossings_of, host_in, notices_by, places_same, IsMixed, IsReadBack, even_odd, send_odd, eqb-true, same_Some}
use Rattle.std.proofs.Common.{◌≡◌, inl, inr, ℕ, ◌*◌, ◌<◌, Bool, true, false, if◌then◌else◌, zero, suc, List, [], ◌∷◌, ◌++◌, take, drop, length, Option, Some, None, refl, ap, sym, subst, ◌∙◌, arith, map, slice_index_or}
use Rattle.host_pairs.specs.Entries.{is_ending, has_cls}
use Rattle.promise.specs.Formed.{CrossedAt, data_by, HasCrossed, going, request, coming}
use Rattle.world_keeps_lives.proofs.lemmas.{Begins, Each, Ends, Goes, Hears, IsOther, MayTell, Quiet, Rules, each_weaker, message_keeps, offer_keeps, request_told, Done, answer_keeps}
use Rattle.mixed_worlds.proofs.Moments.{Orders, Says, older, ordered}
use Rattle.mixed_worlds.specs.Toward.{ReportsData}
use Rattle.interface.specs.declared.crossing.Crossing.TheVariants as crossing
use Rattle.interface.specs.declared.crossing.Inbound.TheVariants as inbound
use Rattle.ncp_control.specs.declared.command.Command.TheVariants as command
use Rattle.host_pairs.specs.Parcels as parcel
use Rattle.host_pairs.specs.declared.notice.Notice.TheVariants as notice
use Rattle.mixed_worlds.proofs.EndMoments.{Moved, control_is, moved_ends, own_out}
use Rattle.mixed_worlds.proofs.Sockets.{fit}

-- ---- requests as commands

pub rts_is : (own foreign link : ℕ) → is_receive_socket own ≡ true
    → request own foreign link ≡ command.Rts own foreign link
rts_is own foreign link e = ap
    (λ (b : Bool). if b then command.Rts own foreign link else command.Str own foreign link) e

str_is : (own foreign size : ℕ) → is_send_socket own ≡ true → request own foreign size ≡ command.Str own foreign size
str_is own foreign size e = ap
    (λ (b : Bool). if b then command.Rts own foreign size else command.Str own foreign size) (send_odd own e)

request_as : (a b own foreign n : ℕ) → a ≡ own → b ≡ foreign → request a b n ≡ request own foreign n
request_as a b own foreign n e f = ap (λ (k : ℕ). request k b n) e ∙ ap (λ (k : ℕ). request own k n) f

pub read_at : (cs : List Command) (c : Command) (i : ℕ) → i < length cs → slice_index_or cs i c ≡ c
    → Contains (map Legal cs) (Legal c)
read_at [] c i less is = absurd (omega (arith, less))
read_at (d ∷ cs) c zero less is = (0, omega arith, ap Legal is)
read_at (d ∷ cs) c (suc i) less is = let rest : Contains (map Legal cs) (Legal c) = read_at cs c i
    (omega (arith, less)) is in (suc rest.0, omega (arith, rest.1), rest.2)

-- ---- ends

module _ (h p : Host) (log : List Crossing) where
  pub record Went (own foreign a : ℕ) : Type 0 where
    pub named : ℕ
    pub crossed : HasCrossed going h p a (request own foreign named) log

  pub record Came (own foreign b : ℕ) : Type 0 where
    pub named : ℕ
    pub crossed : HasCrossed coming p h b (request foreign own named) log

  -- an RTS for two sockets came in, and names this link
  pub record Linked (own foreign b : ℕ) (link : Option ℕ) : Type 0 where
    pub number : ℕ
    pub is : link ≡ Some number
    pub crossed : HasCrossed coming p h b (command.Rts foreign own number) log

  -- an end of this host's own has asked in a message that went out, and was answered in one that came in. If it sends
  -- it has the link that was named there
  pub record Placed (e : Entry) : Type 0 where
    pub refusing : e.mine ≡ false → has_cls e.closing ≡ true
    pub asked : e.mine ≡ true → (a : ℕ) → e.asked ≡ Some a → Went e.own e.foreign a
    pub partner : e.mine ≡ true → (b : ℕ) → e.partner ≡ Some b → Came e.own e.foreign b
    pub linked : e.mine ≡ true → is_send_socket e.own ≡ true → (b : ℕ) → e.partner ≡ Some b
        → Linked e.own e.foreign b e.link

  went_as : (e f : Entry) (a : ℕ) → f.own ≡ e.own → f.foreign ≡ e.foreign → Went e.own e.foreign a
      → Went f.own f.foreign a
  went_as e f a own foreign w = subst (λ (n : ℕ). Went n f.foreign a) (sym own)
      (subst (λ (n : ℕ). Went e.own n a) (sym foreign) w)

  came_as : (e f : Entry) (b : ℕ) → f.own ≡ e.own → f.foreign ≡ e.foreign → Came e.own e.foreign b
      → Came f.own f.foreign b
  came_as e f b own foreign w = subst (λ (n : ℕ). Came n f.foreign b) (sym own)
      (subst (λ (n : ℕ). Came e.own n b) (sym foreign) w)

  linked_as : (e f : Entry) (b : ℕ) → f.own ≡ e.own → f.foreign ≡ e.foreign → f.link ≡ e.link
      → Linked e.own e.foreign b e.link → Linked f.own f.foreign b f.link
  linked_as e f b own foreign link w = record {
    number = w.number;
    is = link ∙ w.is;
    crossed = subst (λ (n : ℕ). HasCrossed coming p h b (command.Rts n f.own w.number) log) (sym foreign)
        (subst (λ (n : ℕ). HasCrossed coming p h b (command.Rts e.foreign n w.number) log) (sym own) w.crossed);
  }

  placed_quiet : (e f : Entry) → Quiet e f → Placed e → Placed f
  placed_quiet e f q i = record {
    refusing = λ m. q.closing (i.refusing (sym q.mine ∙ m));
    asked = λ m a is. went_as e f a q.own q.foreign (i.asked (sym q.mine ∙ m) a (sym q.asked ∙ is));
    partner = λ m b is. came_as e f b q.own q.foreign (i.partner (sym q.mine ∙ m) b (sym q.partner ∙ is));
    linked = λ m s b is. linked_as e f b q.own q.foreign q.link
        (i.linked (sym q.mine ∙ m) (ap is_send_socket (sym q.own) ∙ s) b (sym q.partner ∙ is));
  }

  placed_fresh : (e : Entry) → e.mine ≡ true → e.asked ≡ None → e.partner ≡ None → Placed e
  placed_fresh e mine asked partner = record {
    refusing = λ f. absurd (let clash : false ≡ true = sym f ∙ mine in cc);
    asked = λ m a is. absurd (let clash : None ≡ Some a = sym asked ∙ is in cc);
    partner = λ m b is. absurd (let clash : None ≡ Some b = sym partner ∙ is in cc);
    linked = λ m s b is. absurd (let clash : None ≡ Some b = sym partner ∙ is in cc);
  }

  begins : Begins Placed
  begins = record {
    fresh = placed_fresh;
    refused = λ own foreign stamp. record {
      refusing = λ f. refl;
      asked = λ m a is. absurd (let clash : false ≡ true = m in cc);
      partner = λ m b is. absurd (let clash : false ≡ true = m in cc);
      linked = λ m s b is. absurd (let clash : false ≡ true = m in cc);
    };
  }

  own_end : (e : Entry) → (e.mine ≡ false → has_cls e.closing ≡ true) → is_ending e ≡ false → e.mine ≡ true
  own_end e r goes = by e.mine refl where
    by : (b : Bool) → e.mine ≡ b → b ≡ true
    by true f = refl
    by false f = absurd (let clash : false ≡ true = sym (or_false (has_cls e.closing) e.partner_closed goes).0
        ∙ r f in cc)

  -- what is reported at a moment: openings whose requests crossed, and data that crossed just then
  abbrev pub Tells : Moment → Notice → Type 0
  Tells x (notice.Opened s q f a b) = (q ≡ p) × Went s f a × Came s f b
      × (is_send_socket s ≡ true → (link : Option ℕ) × Linked s f b link)
  Tells x n = ReportsData x n

  other_told : (x : Moment) (n : Notice) → IsOther n → Tells x n
  other_told x (notice.Opened s q f a b) o = absurd o
  other_told x (notice.Sent s bits) o = absurd o
  other_told x (notice.Arrived s bits) o = absurd o
  other_told x n o = tt

  pub rules : (x : Moment) → Rules Placed (Tells x) p
  rules x = record {
    quiet = placed_quiet;
    others = other_told x;
    opens = λ e a b i asked partner goes.
        (let mine : e.mine ≡ true = own_end e i.refusing goes in
        (refl, i.asked mine a asked, i.partner mine b partner, λ s. (e.link, i.linked mine s b partner)));
    returns = λ e messages bits i o. tt;
  }

  pub hears : (m : HostMessage) (stamp : ℕ) → m.flow ≡ control_flow p h → CrossedAt stamp (coming m) log
      → Hears Placed stamp (orders_of m.text)
  hears m stamp flow crossed = record {
    begins = begins;
    rts = λ own foreign link e there even odd o f i. record {
      refusing = i.refusing;
      asked = λ mine a is. i.asked mine a is;
      partner = λ mine b is. came link e.own e.foreign b (same_Some stamp b is)
          (sym (request_as e.foreign e.own foreign own link f o ∙ rts_is foreign own link even)) there;
      linked = λ mine s b is. record {
        number = link;
        is = refl;
        crossed = subst (λ (place : ℕ). HasCrossed coming p h place (command.Rts e.foreign e.own link) log)
            (same_Some stamp b is) (record {
              message = m;
              flow = flow;
              crossed = crossed;
              holds = subst (λ (c : Command). Contains (orders_of m.text) (Legal c))
                  (ap (λ (n : ℕ). command.Rts n own link) (sym f)
                  ∙ ap (λ (n : ℕ). command.Rts e.foreign n link) (sym o))
                  there;
            });
      };
    };
    str = λ own foreign size e there odd even o f i. record {
      refusing = i.refusing;
      asked = λ mine a is. i.asked mine a is;
      partner = λ mine b is. came size e.own e.foreign b (same_Some stamp b is)
          (sym (request_as e.foreign e.own foreign own size f o ∙ str_is foreign own size odd)) there;
      linked = λ mine s b is. absurd (even_odd own even (ap is_send_socket (sym o) ∙ s));
    };
  } where
    came : (n own foreign b : ℕ) → stamp ≡ b → {c : Command} → c ≡ request foreign own n
        → Contains (orders_of m.text) (Legal c) → Came own foreign b
    came n own foreign b at {c} same there = record {
      named = n;
      crossed = subst (λ (place : ℕ). HasCrossed coming p h place (request foreign own n) log) at (record {
        message = m;
        flow = flow;
        crossed = crossed;
        holds = subst (λ (d : Command). Contains (orders_of m.text) (Legal d)) same there;
      });
    }

  pub goes : (m : HostMessage) (stamp n : ℕ) (queue : List Command) → m.flow ≡ control_flow h p
      → CrossedAt stamp (going m) log → orders_of m.text ≡ map Legal (take n queue)
      → Goes Placed stamp (take n queue)
  goes m stamp n queue flow crossed reads = record {
    rts = λ own foreign link e there even o f i. record {
      refusing = i.refusing;
      asked = λ mine a is. went link e.own e.foreign a (same_Some stamp a is)
          (sym (request_as e.own e.foreign own foreign link o f ∙ rts_is own foreign link even)) there;
      partner = λ mine b is. i.partner mine b is;
      linked = λ mine s b is. i.linked mine s b is;
    };
    str = λ own foreign size e there odd o f i. record {
      refusing = i.refusing;
      asked = λ mine a is. went size e.own e.foreign a (same_Some stamp a is)
          (sym (request_as e.own e.foreign own foreign size o f ∙ str_is own foreign size odd)) there;
      partner = λ mine b is. i.partner mine b is;
      linked = λ mine s b is. i.linked mine s b is;
    };
  } where
    went : (k own foreign a : ℕ) → stamp ≡ a → {c : Command} → c ≡ request own foreign k
        → Contains (take n queue) c → Went own foreign a
    went k own foreign a at {c} same there = record {
      named = k;
      crossed = subst (λ (place : ℕ). HasCrossed going h p place (request own foreign k) log) at (record {
        message = m;
        flow = flow;
        crossed = crossed;
        holds = subst (λ (d : Command). Contains (orders_of m.text) (Legal d)) same
            (subst (λ (os : List Order). Contains os (Legal c)) (sym reads)
            (read_at (take n queue) c there.0 there.1 there.2));
      });
    }

-- what crossed stays in the log
pub went_still : (h p : Host) (d : Crossing) (log : List Crossing) (own foreign a : ℕ) → Went h p log own foreign a
    → Went h p (d ∷ log) own foreign a
went_still h p d log own foreign a w = record {
  named = w.named;
  crossed = record
      { message = w.crossed.message; flow = w.crossed.flow; crossed = inr w.crossed.crossed; holds = w.crossed.holds };
}

pub came_still : (h p : Host) (d : Crossing) (log : List Crossing) (own foreign b : ℕ) → Came h p log own foreign b
    → Came h p (d ∷ log) own foreign b
came_still h p d log own foreign b w = record {
  named = w.named;
  crossed = record
      { message = w.crossed.message; flow = w.crossed.flow; crossed = inr w.crossed.crossed; holds = w.crossed.holds };
}

pub linked_still : (h p : Host) (d : Crossing) (log : List Crossing) (own foreign b : ℕ) (link : Option ℕ)
    → Linked h p log own foreign b link → Linked h p (d ∷ log) own foreign b link
linked_still h p d log own foreign b link w = record {
  number = w.number;
  is = w.is;
  crossed = record
      { message = w.crossed.message; flow = w.crossed.flow; crossed = inr w.crossed.crossed; holds = w.crossed.holds };
}

placed_still : (h p : Host) (d : Crossing) (log : List Crossing) (e : Entry) → Placed h p log e → Placed h p (d ∷ log) e
placed_still h p d log e i = record {
  refusing = i.refusing;
  asked = λ m a is. went_still h p d log e.own e.foreign a (i.asked m a is);
  partner = λ m b is. came_still h p d log e.own e.foreign b (i.partner m b is);
  linked = λ m s b is. linked_still h p d log e.own e.foreign b e.link (i.linked m s b is);
}

-- ---- one moment

module _ (orders : Orders) (strange : Host → Bool) (hosts : List Host) (a : Host) (off : strange a ≡ false)
    (moments : List Moment) (below : IsMixed strange hosts moments) where
  order : AreInOrder (program a moments).peers
  order = ordered orders strange hosts a moments off below

  -- its own message goes out
  module _ (m : HostMessage) (from : a ≡ m.flow.source) (out : Says (program a moments) m) (p : Host)
      (to : out.peer.host ≡ p)
      (old : Ends (Placed a p (crossing.Out m ∷ crossings_of moments)) p (program a moments)) where
    destination : p ≡ m.flow.destination
    destination = sym to ∙ ap (λ (y : HostMessage). y.flow.destination) out.message

    may : (x : Parcel) → next_in (program a moments).peers ≡ Some (out.peer, x)
        → message_for (program a moments).own out.peer x ≡ m
        → MayTell (Placed a p (crossing.Out m ∷ crossings_of moments))
        (Tells a p (crossing.Out m ∷ crossings_of moments) (Crossed (crossing.Out m))) p
        (rules a p (crossing.Out m ∷ crossings_of moments) (Crossed (crossing.Out m))) (places moments) x
        (pair_with p (program a moments).peers)
    may parcel.Reset next is = tt
    may parcel.Reply next is = tt
    may (parcel.Commands count) next is =
        let same : pair_with p (program a moments).peers ≡ out.peer.pair = subst
        (λ (y : Host). pair_with y (program a moments).peers ≡ out.peer.pair) to
        (next_pair (program a moments).peers out.peer (parcel.Commands count) order next) in
        let back : IsReadBack out.peer.pair (parcel.Commands count) = offer_read (program a moments) out.peer
        (parcel.Commands count) (fit strange hosts a off moments below).ranged next in
        let reads : orders_of m.text ≡ map Legal (take count (pair_with p (program a moments).peers).queue) =
        ap (λ (y : HostMessage). orders_of y.text) (sym is) ∙ back
        ∙ ap (λ (q : PairState). map Legal (take count q.queue)) (sym same) in
        goes a p (crossing.Out m ∷ crossings_of moments) m (places moments) count
        (pair_with p (program a moments).peers).queue
        (control_is m.flow a p from destination (sym (ap (λ (y : HostMessage). y.flow.link.0) is)))
        (inl (refl, places_same moments)) reads
    may (parcel.Bytes e size count) next is =
        let four : length (header_bits (record { size = size; count = count })) ≡ 40 = refl in
        ap (λ (y : HostMessage). drop 40 y.text) (sym is)
        ∙ ap
        (λ (k : ℕ). drop k (header_bits (record { size = size; count = count }) ++ take (size * count) e.bits))
        (sym four)
        ∙ drop-append_seam (header_bits (record { size = size; count = count })) (take (size * count) e.bits)

    pub out_done : Done (Placed a p (crossing.Out m ∷ crossings_of moments))
        (Tells a p (crossing.Out m ∷ crossings_of moments) (Crossed (crossing.Out m))) p
        (rules a p (crossing.Out m ∷ crossings_of moments) (Crossed (crossing.Out m)))
        (offered (program a moments) (places moments))
    out_done =
        offer_keeps (Placed a p (crossing.Out m ∷ crossings_of moments))
        (Tells a p (crossing.Out m ∷ crossings_of moments) (Crossed (crossing.Out m))) p
        (rules a p (crossing.Out m ∷ crossings_of moments) (Crossed (crossing.Out m))) (program a moments)
        (places moments) out.peer out.parcel order out.next to
        (pair_range p (program a moments).peers (fit strange hosts a off moments below).ranged.pairs).commands
        (may out.parcel out.next out.message) old

  -- a message comes in
  pub in_done : (m : HostMessage) (p : Host) → a ≡ m.flow.destination → m.flow.source ≡ p
      → Ends (Placed a p (crossing.In m ∷ crossings_of moments)) p (program a moments)
      → Done (Placed a p (crossing.In m ∷ crossings_of moments))
      (Tells a p (crossing.In m ∷ crossings_of moments) (Crossed (crossing.In m))) p
      (rules a p (crossing.In m ∷ crossings_of moments) (Crossed (crossing.In m)))
      (accepted (program a moments) (inbound.Message m) (places moments))
  in_done m p to from old =
      message_keeps (Placed a p (crossing.In m ∷ crossings_of moments))
      (Tells a p (crossing.In m ∷ crossings_of moments) (Crossed (crossing.In m))) p
      (rules a p (crossing.In m ∷ crossings_of moments) (Crossed (crossing.In m))) (program a moments) m
      (places moments) from (
        λ zero.
            hears a p (crossing.In m ∷ crossings_of moments) m (places moments)
            (control_is m.flow p a (sym from) to (eqb-true m.flow.link.0 0 zero)) (inl (refl, places_same moments)),
        λ away e k found opened read. (away, ap (data_by m.text) read),
      ) old

  -- an answer comes in
  pub answer_done : (kind : Answer) (f : Flow) (p : Host) → f.destination ≡ p
      → Ends (Placed a p (crossing.Answer kind f ∷ crossings_of moments)) p (program a moments)
      → Done (Placed a p (crossing.Answer kind f ∷ crossings_of moments))
      (Tells a p (crossing.Answer kind f ∷ crossings_of moments) (Crossed (crossing.Answer kind f))) p
      (rules a p (crossing.Answer kind f ∷ crossings_of moments) (Crossed (crossing.Answer kind f)))
      (accepted (program a moments) (inbound.Answer kind f) (places moments))
  answer_done kind f p to old =
      answer_keeps (Placed a p (crossing.Answer kind f ∷ crossings_of moments))
      (Tells a p (crossing.Answer kind f ∷ crossings_of moments) (Crossed (crossing.Answer kind f))) p
      (rules a p (crossing.Answer kind f ∷ crossings_of moments) (Crossed (crossing.Answer kind f)))
      (program a moments) kind f (places moments) to old

-- ---- all moments

module _ (orders : Orders) (strange : Host → Bool) (hosts : List Host) (a : Host) (off : strange a ≡ false) where
  pub placed : (moments : List Moment) → IsMixed strange hosts moments → (p : Host)
      → Ends (Placed a p (crossings_of moments)) p (program a moments)
  placed [] mixed p = tt
  placed (x ∷ moments) mixed p =
      moved_ends orders strange hosts a off p moments (Placed a p (crossings_of (x ∷ moments)))
      (placed_quiet a p (crossings_of (x ∷ moments))) x mixed (moved x)
      (grown x (placed moments (older orders strange hosts x moments mixed) p)) where
        grown : (y : Moment) → Ends (Placed a p (crossings_of moments)) p (program a moments)
            → Ends (Placed a p (crossings_of (y ∷ moments))) p (program a moments)
        grown (Asked g r) old = old
        grown (Crossed c) old = each_weaker (Placed a p (crossings_of moments)) (Placed a p (c ∷ crossings_of moments))
            (pair_with p (program a moments).peers).entries (placed_still a p c (crossings_of moments)) old

        moved : (y : Moment)
            → Moved orders strange hosts a off p moments (Placed a p (crossings_of (y ∷ moments))) y
        moved (Crossed (crossing.Out m)) = λ flow n reads.
            goes a p (crossing.Out m ∷ crossings_of moments) m (places moments) n
            (pair_with p (program a moments).peers).queue flow (inl (refl, places_same moments)) reads
        moved (Crossed (crossing.In m)) = λ flow.
            hears a p (crossing.In m ∷ crossings_of moments) m (places moments) flow (inl (refl, places_same moments))
        moved (Asked g r) = begins a p (crossings_of moments)
        moved (Crossed c) = tt

-- ---- what a host is notified of at a moment

-- a peer, and what is reported of it
pub record TellsOfOne (h : Host) (log : List Crossing) (x : Moment) (ns : List Notice) : Type 0 where
  pub peer : Host
  pub told : Each (Tells h peer log x) ns

module _ (orders : Orders) (strange : Host → Bool) (hosts : List Host) where
  pub told : (x : Moment) (moments : List Moment) → IsMixed strange hosts (x ∷ moments)
      → strange (host_in x) ≡ false
      → TellsOfOne (host_in x) (crossings_of (x ∷ moments)) x (notices_by x moments)
  told x moments mixed off = by x mixed off (older orders strange hosts x moments mixed) where
    grown : (h p : Host) (c : Crossing) → strange h ≡ false → IsMixed strange hosts moments
        → Ends (Placed h p (c ∷ crossings_of moments)) p (program h moments)
    grown h p c off below =
        each_weaker (Placed h p (crossings_of moments)) (Placed h p (c ∷ crossings_of moments))
        (pair_with p (program h moments).peers).entries (placed_still h p c (crossings_of moments))
        (placed orders strange hosts h off moments below p)

    by : (x : Moment) → IsMixed strange hosts (x ∷ moments) → strange (host_in x) ≡ false
        → IsMixed strange hosts moments
        → TellsOfOne (host_in x) (crossings_of (x ∷ moments)) x (notices_by x moments)
    by (Crossed (crossing.Out m)) mixed off below =
        let out : Says (program m.flow.source moments) m = own_out orders strange hosts m.flow.source off m moments
        mixed refl in
        record {
          peer = out.peer.host;
          told = (out_done orders strange hosts m.flow.source off moments below m refl out out.peer.host refl
              (grown m.flow.source out.peer.host (crossing.Out m) off below)).told;
        }
    by (Crossed (crossing.In m)) mixed off below = record {
      peer = m.flow.source;
      told = (in_done orders strange hosts m.flow.destination off moments below m m.flow.source refl refl
          (grown m.flow.destination m.flow.source (crossing.In m) off below)).told;
    }
    by (Crossed (crossing.Answer kind f)) mixed off below = record {
      peer = f.destination;
      told = (answer_done orders strange hosts f.source off moments below kind f f.destination refl
          (grown f.source f.destination (crossing.Answer kind f) off below)).told;
    }
    by (Crossed (crossing.Down g)) mixed off below = record { peer = g; told = tt }
    by (Crossed (crossing.Up g)) mixed off below = record { peer = g; told = tt }
    by (Asked g r) mixed off below = record {
      peer = g;
      told = request_told (Placed g g (crossings_of moments)) (Tells g g (crossings_of moments) (Asked g r)) g
          (rules g g (crossings_of moments) (Asked g r)) (program g moments) r;
    }
