-- The ends of lives that aren't over, each on its link. What is asked of two programs together is `Together`.
use Rattle.world_keeps_lives.proofs.Common.{Contains, max-le, eqb-true, Host, Flow, Crossing, HostMessage, IsCommand, Command, Legal, Order, orders_of, is_link, is_mine_on, is_open, is_receiving, sends_on, Parcel, Entry, both, text_good, AreOrders, IsOrder, pair_with, AreInOrder, message_for, next_in, Peer, HaveAddresses, Name, before, own_request, receives, Asked, Crossed, IsNext, Moment, places, program, crossings_of, notices_by, Life, begun, HasOpenEnd, same_Some, AreOurs, Network, Happened, mixed_kept, among, in_book}
use Rattle.std.proofs.Common.{◌≡◌, ◌⊎◌, inr, ℕ, ◌<◌, ◌≤◌, ◌==◌, Bool, true, false, if◌then◌else◌, List, [], ◌∷◌, map, drop, length, Some, refl, ap, sym, subst, ◌∙◌, arith, eq-eqb}
use Rattle.ncp_control.specs.Numbers.{is_receive_socket, is_connection_link}
use Rattle.promise.specs.Formed.{CrossedAt, coming, going, request, texts_for, flow_of}
use Rattle.interface.specs.Mailboxes as mail
use Rattle.interface.specs.declared.crossing.Crossing.TheVariants as crossing
use Rattle.ncp_control.specs.declared.command.Command.TheVariants as command
use Rattle.host_pairs.specs.Parcels as parcel
use Rattle.host_pairs.specs.declared.notice.Notice.TheVariants as notice
use Rattle.world_keeps_lives.proofs.Facts.{no, no_place}
use Rattle.world_keeps_lives.proofs.Desks.{open_mine}
use Rattle.world_keeps_lives.proofs.Firsts.Lists.{Pairwise, each_all, life_of}
use Rattle.world_keeps_lives.proofs.Begun.{alone_on, one_is}
use Rattle.world_keeps_lives.proofs.Grounds.{Grounded, Nothing, May, crossed_below, grounds}
use Rattle.world_keeps_lives.proofs.Laws.{live}
use Rattle.world_keeps_lives.proofs.Firsts.Linked.{HasRequests, IsFirst, IsSentIn, Linked}
use Rattle.world_keeps_lives.proofs.Walk.Rules.{Begins, Each, Goes, Hears, MayTell, Rules, each_in, each_of}
use Rattle.world_keeps_lives.proofs.Stamps.{Due, open_back}
use Rattle.world_keeps_lives.proofs.Firsts.Texts.{IsFull}

-- what happened in a network, whatever its strangers did, where what crossed is a run of the mailboxes
abbrev pub Lawful : Network → List Moment → Type 0
Lawful hosts ms = HaveAddresses hosts.all × mail.IsRun hosts.all (crossings_of ms) × Happened hosts ms

abbrev pub ends_in : Host → Host → List Moment → List Entry
ends_in a b ms = (pair_with b (program a ms).peers).entries

-- the lives between two hosts with programs
abbrev pub lives_in : Network → List Moment → List Life
lives_in hosts ms = among hosts ms

-- ---- an RTS names no link 0

orders_each : (os : List Order) → AreOrders os → Each IsOrder os
orders_each [] h = tt
orders_each (o ∷ os) h = (h.0, orders_each os h.1)

order_there : (text : List Bool) (c : Command) → Contains (orders_of text) (Legal c) → IsCommand c
order_there text c there = each_in IsOrder _ (Legal c) there (orders_each _ (text_good text))

pub not_zero : (link : ℕ) → is_connection_link link ≡ true → (link == 0) ≡ false
not_zero link e = by (link == 0) refl where
  by : (v : Bool) → (link == 0) ≡ v → v ≡ false
  by true f = absurd (let r : is_connection_link 0 ≡ true = subst (λ (n : ℕ). is_connection_link n ≡ true) (eqb-true link 0 f) e in let t : false ≡ true = r in cc)
  by false f = refl

rts_off : (text : List Bool) (own foreign link : ℕ) → is_receive_socket own ≡ true
    → Contains (orders_of text) (Legal (request own foreign link)) → (link == 0) ≡ false
rts_off text own foreign link even there =
    let c : request own foreign link ≡ command.Rts own foreign link = ap (λ (b : Bool). if b then command.Rts own foreign link else command.Str own foreign link) even in
    let ok : IsCommand (command.Rts own foreign link) = order_there text _ (subst (λ (d : Command). Contains (orders_of text) (Legal d)) c there) in
    not_zero link ok.4

pub str_foreign : (text : List Bool) (own foreign size : ℕ) → is_receive_socket own ≡ false
    → Contains (orders_of text) (Legal (request own foreign size)) → is_receive_socket foreign ≡ true
str_foreign text own foreign size odd there =
    let c : request own foreign size ≡ command.Str own foreign size = ap (λ (b : Bool). if b then command.Rts own foreign size else command.Str own foreign size) odd in
    let ok : IsCommand (command.Str own foreign size) = order_there text _ (subst (λ (d : Command). Contains (orders_of text) (Legal d)) c there) in
    ok.3

pub linked_off : (log : List Crossing) (p : Linked) → HasRequests log p → (p.link == 0) ≡ false
linked_off log p f = by (receives p.life) refl where
  own_is : (b : Bool) → receives p.life ≡ b
      → Contains (orders_of f.own.message.text) (Legal (request p.life.socket p.life.foreign (if b then p.link else f.size)))
  own_is b e = subst (λ (v : Bool). Contains (orders_of f.own.message.text) (Legal (request p.life.socket p.life.foreign (if v then p.link else f.size)))) e f.own.holds

  partner_is : (b : Bool) → receives p.life ≡ b
      → Contains (orders_of f.partner.message.text) (Legal (request p.life.foreign p.life.socket (if b then f.size else p.link)))
  partner_is b e = subst (λ (v : Bool). Contains (orders_of f.partner.message.text) (Legal (request p.life.foreign p.life.socket (if v then f.size else p.link)))) e f.partner.holds

  by : (b : Bool) → receives p.life ≡ b → (p.link == 0) ≡ false
  by true e = rts_off f.own.message.text p.life.socket p.life.foreign p.link e (own_is true e)
  by false e = rts_off f.partner.message.text p.life.foreign p.life.socket p.link (str_foreign f.own.message.text p.life.socket p.life.foreign f.size e (own_is false e)) (partner_is false e)

-- ---- what two programs do together

pub record HasOwner (hosts : Network) (a b : Host) (ms : List Moment) (e : Entry) : Type 0 where
  pub life : Life
  pub there : Contains (lives_in hosts ms) life
  pub host : life.host ≡ a
  pub peer : life.peer ≡ b
  pub goes : life.ended ≡ false
  pub socket : life.socket ≡ e.own

pub record Together (hosts : Network) : Type 0 where
  -- of the ends of a host with a peer at most one sends on a link
  pub one_sender : (ms : List Moment) → Lawful hosts ms → (a b : Host) → AreOurs hosts a b → (link : ℕ)
      → (link == 0) ≡ false → (e f : Entry) → Contains (ends_in a b ms) e → Contains (ends_in a b ms) f
      → sends_on link e ≡ true → sends_on link f ≡ true → e ≡ f
  -- an open end has a life
  pub owner : (ms : List Moment) → Lawful hosts ms → (a b : Host) → AreOurs hosts a b → (e : Entry)
      → Contains (ends_in a b ms) e → e.mine ≡ true → is_open e ≡ true → HasOwner hosts a b ms e
  -- data that come to an open end arrive
  pub arrives : (ms : List Moment) (m : HostMessage) → Lawful hosts (Crossed (crossing.In m) ∷ ms) → (x : Life)
      → Contains (lives_in hosts ms) x → receives x ≡ true → x.ended ≡ false → x.host ≡ m.flow.destination
      → x.peer ≡ m.flow.source
      → (o : HasOpenEnd (program x.host ms) x) → is_open o.end ≡ true → o.end.link ≡ Some m.flow.link.0
      → (m.flow.link.0 == 0) ≡ false
      → notices_by (Crossed (crossing.In m)) ms ≡ notice.Arrived x.socket (drop 40 m.text) ∷ []

-- ---- a life's end, which has its link. While it is open this holds

module _ (x : Life) (link : ℕ) (N : Type 0) where
  abbrev pub Held : Entry → Type 0
  Held e = e.mine ≡ true → e.own ≡ x.socket → e.asked ≡ Some x.own_stamp → e.partner ≡ Some x.partner_stamp → (e.link ≡ Some link) × (is_open e ≡ true → N)

  pub held_rules : (p : Host) → Rules Held Nothing p
  held_rules p = record {
    quiet = λ e f q h mine own asked partner.
        (let k : (e.link ≡ Some link) × (is_open e ≡ true → N) = h (sym q.mine ∙ mine) (sym q.own ∙ own) (sym q.asked ∙ asked) (sym q.partner ∙ partner) in (q.link ∙ k.0, λ o. k.1 (open_back e f q o)));
    others = λ n o. tt;
    opens = λ e a b h f g goes. tt;
    returns = λ e messages bits h o. tt;
  }

  pub held_begins : Begins Held
  held_begins = record { fresh = λ e mine asked partner m own is b. no_place x.own_stamp (sym asked ∙ is); refused = λ own foreign stamp m o is b. no false m refl }

  held_hears : (stamp : ℕ) (orders : List Order) → x.partner_stamp < stamp → Hears Held stamp orders
  held_hears stamp orders below = record {
    begins = held_begins;
    rts = λ own foreign l e there even odd o f h mine o2 asked partner. absurd (let s : stamp ≡ x.partner_stamp = same_Some stamp x.partner_stamp partner in omega (arith, s, below));
    str = λ own foreign size e there odd even o f h mine o2 asked partner. absurd (let s : stamp ≡ x.partner_stamp = same_Some stamp x.partner_stamp partner in omega (arith, s, below));
  }

  held_goes : (stamp : ℕ) (cs : List Command) → x.own_stamp < stamp → Goes Held stamp cs
  held_goes stamp cs below = record {
    rts = λ own foreign l e there even o f h mine o2 asked partner. absurd (let s : stamp ≡ x.own_stamp = same_Some stamp x.own_stamp asked in omega (arith, s, below));
    str = λ own foreign size e there odd o f h mine o2 asked partner. absurd (let s : stamp ≡ x.own_stamp = same_Some stamp x.own_stamp asked in omega (arith, s, below));
  }

  pub held_may : (y : Moment) (moments : List Moment) → (a b : Host)
      → ((m : HostMessage) → y ≡ Crossed (crossing.Out m) → a ≡ m.flow.source → IsNext (program m.flow.source moments) m)
      → x.own_stamp < places moments → x.partner_stamp < places moments → May Held Nothing a b (held_rules b) y moments
  held_may (Crossed (crossing.Out m)) moments a b story below later = (may, λ from. story m refl from) where
    may : (g : Peer) (z : Parcel) → a ≡ m.flow.source → b ≡ m.flow.destination
        → next_in (program a moments).peers ≡ Some (g, z) → AreInOrder (program a moments).peers
        → m ≡ message_for (program a moments).own g z
        → MayTell Held Nothing b (held_rules b) (places moments) z (pair_with b (program a moments).peers)
    may g parcel.Reset from to next order is = tt
    may g parcel.Reply from to next order is = tt
    may g (parcel.Commands count) from to next order is = held_goes (places moments) _ below
    may g (parcel.Bytes e size count) from to next order is = tt
  held_may (Crossed (crossing.In m)) moments a b story below later = λ to from. ((λ zero. held_hears (places moments) _ later), (λ off e k f o t. tt))
  held_may (Crossed c) moments a b story below later = tt
  held_may (Asked g r) moments a b story below later = tt

-- ---- what holds of all lives

pub record Tracked (ms : List Moment) (p : Linked) : Type 0 where
  pub first : IsFirst (crossings_of ms) p
  pub other : (p.link == 0) ≡ false
  pub held : p.life.ended ≡ false
      → Each (Held p.life p.link (IsFull (crossings_of ms) p.life p.link)) (ends_in p.life.host p.life.peer ms)

-- a life with its link that was there before, with the same requests
pub record Was (hosts : Network) (ms : List Moment) (p : Linked) : Type 0 where
  pub one : Linked
  pub there : Contains (lives_in hosts ms) one.life
  pub tracked : Tracked ms one
  pub link : p.link ≡ one.link
  pub host : p.life.host ≡ one.life.host
  pub peer : p.life.peer ≡ one.life.peer
  pub socket : p.life.socket ≡ one.life.socket
  pub foreign : p.life.foreign ≡ one.life.foreign
  pub own : p.life.own_stamp ≡ one.life.own_stamp
  pub partner : p.life.partner_stamp ≡ one.life.partner_stamp
  pub goes : p.life.ended ≡ false → one.life.ended ≡ false

-- each life was there before the last moment, or one of its requests crossed in that
abbrev pub IsGrown : Network → List Moment → Linked → Type 0
IsGrown hosts [] p = ⊥
IsGrown hosts (y ∷ ms) p = Was hosts ms p ⊎ (begun p.life ≡ length (crossings_of ms))

-- of two sending lives on one flow the earlier one is over, or the later one is and has nothing
abbrev pub Apart : List Crossing → Linked → Linked → Type 0
Apart log p q =
    receives p.life ≡ false → receives q.life ≡ false → flow_of p.life p.link ≡ flow_of q.life q.link
    → ((q.life.messages ≡ 0) × (q.life.ended ≡ true)) ⊎ ((p.life.ended ≡ true) × (p.life.messages ≤ length (texts_for p.life p.link (before (begun q.life) log))))

pub record Good (hosts : Network) (ms : List Moment) : Type 0 where
  pub links : List Linked
  pub all : map life_of links ≡ lives_in hosts ms
  pub tracked : Each (Tracked ms) links
  pub grown : Each (IsGrown hosts ms) links
  pub apart : Pairwise (Apart (crossings_of ms)) links
  pub sent : (place : ℕ) (m : HostMessage) → AreOurs hosts m.flow.source m.flow.destination
      → CrossedAt place (crossing.Out m) (crossings_of ms) → (m.flow.link.0 == 0) ≡ false
      → (p : Linked) × Contains links p × IsSentIn (crossings_of ms) place m p

abbrev on_link : Flow → ℕ
on_link f = f.link.0

pub flow_link : (x : Life) (link : ℕ) → (flow_of x link).link.0 ≡ link
flow_link x link = by (receives x) where
  by : (b : Bool)
      → on_link (if b then record { source = x.peer; destination = x.host; link = record { 0 = link } } else record { source = x.host; destination = x.peer; link = record { 0 = link } }) ≡ link
  by true = refl
  by false = refl

module _ (ms : List Moment) (p : Linked) (t : Tracked ms p) where
  pub asked_before : p.life.own_stamp < length (crossings_of ms)
  asked_before = crossed_below p.life.own_stamp _ _ t.first.asked.own.crossed

  pub answered_before : p.life.partner_stamp < length (crossings_of ms)
  answered_before = crossed_below p.life.partner_stamp _ _ t.first.asked.partner.crossed

  pub begun_before : begun p.life ≤ length (crossings_of ms)
  begun_before =
      let a : p.life.own_stamp < length (crossings_of ms) = asked_before in
      let b : p.life.partner_stamp < length (crossings_of ms) = answered_before in
      max-le (omega (arith, a)) (omega (arith, b))

-- the life of an open end
pub record Owner (hosts : Network) (a b : Host) (ms : List Moment) (e : Entry) : Type 0 where
  pub life : Life
  pub there : Contains (lives_in hosts ms) life
  pub host : life.host ≡ a
  pub peer : life.peer ≡ b
  pub goes : life.ended ≡ false
  pub socket : e.own ≡ life.socket
  pub foreign : e.foreign ≡ life.foreign
  pub mine : e.mine ≡ true
  pub asked : e.asked ≡ Some life.own_stamp
  pub partner : e.partner ≡ Some life.partner_stamp

-- a life that isn't over has its end on its link
pub record AtEnd (ms : List Moment) (p : Linked) : Type 0 where
  pub end : Entry
  pub there : Contains (ends_in p.life.host p.life.peer ms) end
  pub mine : end.mine ≡ true
  pub own : end.own ≡ p.life.socket
  pub foreign : end.foreign ≡ p.life.foreign
  pub asked : end.asked ≡ Some p.life.own_stamp
  pub partner : end.partner ≡ Some p.life.partner_stamp
  pub link : end.link ≡ Some p.link
  pub full : is_open end ≡ true → IsFull (crossings_of ms) p.life p.link

-- ---- in lawful moments

module _ (hosts : Network) (given : Together hosts) where
  module _ (ms : List Moment) (l : Lawful hosts ms) where
    -- each of them is in the book, and between two such hosts
    pub ours : (x : Life) → Contains (lives_in hosts ms) x → AreOurs hosts x.host x.peer
    ours x there = (in_book hosts _ x there).1

    -- the end of one that isn't over
    pub live_now : (x : Life) → Contains (lives_in hosts ms) x → x.ended ≡ false → HasOpenEnd (program x.host ms) x
    live_now x there goes = live hosts ms l.0 l.1 l.2 x (ours x there).0 (in_book hosts _ x there).0 goes

    -- the one end of a life that isn't over
    pub is_end : (x : Life) (o : HasOpenEnd (program x.host ms) x) (e : Entry) → Contains (ends_in x.host x.peer ms) e
        → e.mine ≡ true → e.own ≡ x.socket → e ≡ o.end
    is_end x o e there mine own = each_in (λ (f : Entry). f.mine ≡ true → f.own ≡ x.socket → f ≡ o.end) (ends_in x.host x.peer ms) e there (alone_on x.socket _ o.end o.one) mine own

    pub owned : (a b : Host) → AreOurs hosts a b → (e : Entry) → Contains (ends_in a b ms) e → is_open e ≡ true
        → Owner hosts a b ms e
    owned a b two e there opened = from (given.owner ms l a b two e there mine opened) where
      ground : Grounded a b (crossings_of ms) e
      ground = each_in (Grounded a b (crossings_of ms)) _ e there (grounds hosts l.0 ms l.1 l.2 a b two)

      mine : e.mine ≡ true
      mine = open_mine e ground.refusing opened

      from : HasOwner hosts a b ms e → Owner hosts a b ms e
      from w =
          let o : HasOpenEnd (program w.life.host ms) w.life = live_now w.life w.there w.goes in
          let here : Contains (ends_in w.life.host w.life.peer ms) e = subst (λ (g : Host). Contains (ends_in g w.life.peer ms) e) (sym w.host) (subst (λ (g : Host). Contains (ends_in a g ms) e) (sym w.peer) there) in
          let is : e ≡ o.end = is_end w.life o e here mine (sym w.socket) in
          record {
            life = w.life;
            there = w.there;
            host = w.host;
            peer = w.peer;
            goes = w.goes;
            socket = sym w.socket;
            foreign = ap (λ (f : Entry). f.foreign) is ∙ o.foreign;
            mine = mine;
            asked = ap (λ (f : Entry). f.asked) is ∙ o.own;
            partner = ap (λ (f : Entry). f.partner) is ∙ o.partner;
          }

    -- so each open end has a life of its own request
    pub all_due : (a b : Host) → AreOurs hosts a b → Each (Due (lives_in hosts ms) (places ms)) (ends_in a b ms)
    all_due a b two = each_all _ _ (λ e there opened u v asked partner.
        (let w : Owner hosts a b ms e = owned a b two e there opened in
        inr (inr (record { life = w.life; there = w.there; place = same_Some w.life.own_stamp u (sym w.asked ∙ asked); socket = sym w.socket; foreign_is = sym w.foreign }))))

    abbrev pub at_end : (p : Linked) → Contains (lives_in hosts ms) p.life → Tracked ms p → p.life.ended ≡ false
        → AtEnd ms p
    at_end p there t goes =
        let o : HasOpenEnd (program p.life.host ms) p.life = live_now p.life there goes in
        let i : Contains (ends_in p.life.host p.life.peer ms) o.end × (is_mine_on p.life.socket o.end ≡ true) =
        one_is (λ e. Contains (ends_in p.life.host p.life.peer ms) e) p.life.socket (ends_in p.life.host p.life.peer ms) o.end o.one (each_of (ends_in p.life.host p.life.peer ms)) in
        let parts : (o.end.mine ≡ true) × ((o.end.own == p.life.socket) ≡ true) = both o.end.mine (o.end.own == p.life.socket) i.1 in
        let own : o.end.own ≡ p.life.socket = eqb-true o.end.own p.life.socket parts.1 in
        let h : (o.end.link ≡ Some p.link) × (is_open o.end ≡ true → IsFull (crossings_of ms) p.life p.link) =
        each_in (Held p.life p.link (IsFull (crossings_of ms) p.life p.link)) (ends_in p.life.host p.life.peer ms) o.end i.0 (t.held goes) parts.0 own o.own o.partner in
        record { end = o.end; there = i.0; mine = parts.0; own = own; foreign = o.foreign; asked = o.own; partner = o.partner; link = h.0; full = h.1 }

    -- two sending lives on one flow that aren't over are one
    pub sends_at : (p : Linked) → AtEnd ms p → receives p.life ≡ false → (link : ℕ) → p.link ≡ link → (e : Entry)
        → e.own ≡ p.life.socket → e.link ≡ Some p.link → sends_on link e ≡ true
    sends_at p i kind link is e own linked =
        let k : is_receiving e ≡ false = ap is_receive_socket own ∙ kind in
        let s : is_link link e.link ≡ true = ap (is_link link) linked ∙ eq-eqb p.link link is in
        rw (k, s) refl

    ends_same : (p q : Linked) → AreOurs hosts p.life.host p.life.peer → (i : AtEnd ms p) → (j : AtEnd ms q)
        → (p.link == 0) ≡ false → receives p.life ≡ false → receives q.life ≡ false → p.life.host ≡ q.life.host
        → p.life.peer ≡ q.life.peer → p.link ≡ q.link → i.end ≡ j.end
    ends_same p q two i j other kind like host peer link =
        given.one_sender ms l p.life.host p.life.peer two p.link other i.end j.end i.there
        (subst (λ (g : Host). Contains (ends_in g p.life.peer ms) j.end) (sym host) (subst (λ (g : Host). Contains (ends_in q.life.host g ms) j.end) (sym peer) j.there))
        (sends_at p i kind p.link refl i.end i.own i.link) (sends_at q j like p.link (sym link) j.end j.own j.link)

    -- as what each has shows: host, peer and link
    abbrev sending_flow : Life → ℕ → Flow
    sending_flow x link = record { source = x.host; destination = x.peer; link = record { 0 = link } }

    sends_out : (x : Life) (link : ℕ) → receives x ≡ false → flow_of x link ≡ sending_flow x link
    sends_out x link kind = ap (λ (b : Bool). if b then record { source = x.peer; destination = x.host; link = record { 0 = link } } else sending_flow x link) kind

    pub never_two : (p q : Linked) → Contains (lives_in hosts ms) p.life → Contains (lives_in hosts ms) q.life
        → Tracked ms p → Tracked ms q → receives p.life ≡ false → receives q.life ≡ false
        → flow_of p.life p.link ≡ flow_of q.life q.link
        → p.life.ended ≡ false → q.life.ended ≡ false → own_request p.life ≡ own_request q.life
    never_two p q here there t u kind like flow goes also =
        let f : sending_flow p.life p.link ≡ sending_flow q.life q.link = sym (sends_out p.life p.link kind) ∙ flow ∙ sends_out q.life q.link like in
        let i : AtEnd ms p = at_end p here t goes in
        let j : AtEnd ms q = at_end q there u also in
        let same : i.end ≡ j.end = ends_same p q (ours p.life here) i j t.other kind like (ap (λ (g : Flow). g.source) f) (ap (λ (g : Flow). g.destination) f) (ap (λ (g : Flow). g.link.0) f) in
        let place : p.life.own_stamp ≡ q.life.own_stamp = same_Some p.life.own_stamp q.life.own_stamp (sym i.asked ∙ ap (λ (e : Entry). e.asked) same ∙ j.asked) in
        let own : p.life.socket ≡ q.life.socket = sym i.own ∙ ap (λ (e : Entry). e.own) same ∙ j.own in
        let foreign : p.life.foreign ≡ q.life.foreign = sym i.foreign ∙ ap (λ (e : Entry). e.foreign) same ∙ j.foreign in
        named_by p.life.own_stamp q.life.own_stamp p.life.socket q.life.socket p.life.foreign q.life.foreign place own foreign where
          name_of : ℕ → ℕ → ℕ → Name
          name_of place own foreign = record { place = place; own = own; foreign = foreign }

          named_by : (a b c d e f : ℕ) → a ≡ b → c ≡ d → e ≡ f → name_of a c e ≡ name_of b d f
          named_by a b c d e f g h i = ap (λ (n : ℕ). name_of n c e) g ∙ ap (λ (n : ℕ). name_of b n e) h ∙ ap (λ (n : ℕ). name_of b d n) i
