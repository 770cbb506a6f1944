-- The messages of each life are the first on its link, over all moments.
use Rattle.world_keeps_lives.proofs.Common.{◌≡◌, ◌⊎◌, ◌<◌, inl, inr, ℕ, ◌*◌, ◌==◌, Bool, true, false, if◌then◌else◌, List, [], ◌∷◌, ◌++◌, take, drop, length, Option, Some, None, is_some, refl, ap, sym, subst, ◌∙◌, eq-eqb, not, ◌&&◌, Contains, eqb-true, drop-append_seam, same_flow, Host, same_host, Flow, Crossing, HostMessage, same_flow-refl, same_flow-true, same_host-refl, same_host-true, data_bits, header_bits, is_receive_socket, MayGo, data_of, is_link, is_open, is_receiving, receives_on, sends_on, has_cls, is_mine_on, PairState, Entry, Notice, both, what_goes, not_is, pair_with, message_for, next_in, next_is, next_pair, all_told, carried, lives_at, where_it, receives, Asked, Crossed, IsNext, Moment, places, program, Follows, crossings_of, host_in, kept_by, notices_by, Life, begun, HasOpenEnd, AreRefusing, mine_on, AreOurs, Network, lives_among, crossed_only, mixed_kept, coupled, mail_below, same_Some}
use Rattle.host_pairs.specs.Parcels.{Parcel, may_send_on, next_of, link_of, link_for}
use Rattle.host_keeps_streams.proofs.lemmas.{find_passes}
use Rattle.promise.specs.Formed.{data_by, data_in, text_of, flow_of}
use Rattle.interface.specs.declared.crossing.Crossing.TheVariants as crossing
use Rattle.host_pairs.specs.Parcels as parcel
use Rattle.host_pairs.specs.declared.notice.Notice.TheVariants as notice
use Rattle.host_keeps_streams.proofs.lemmas.Senders as senders
use Rattle.world_keeps_lives.proofs.Facts.{no}
use Rattle.world_keeps_lives.proofs.Among.{Leaves, among_where, where_none}
use Rattle.world_keeps_lives.proofs.Calms.{Calm, calm_moment, calm_none}
use Rattle.world_keeps_lives.proofs.DataTold.{IsNoData, Reports, TakesIf, answer_told, asking_told, bytes_told, control_told, message_takes, offer_told}
use Rattle.world_keeps_lives.proofs.Firsts.Ends.{Apart, AtEnd, IsGrown, Together, Good, Lawful, Tracked, all_due, answered_before, asked_before, at_end, ends_in, flow_link, is_end, live_now, lives_in, ours}
use Rattle.world_keeps_lives.proofs.Firsts.Lists.{After, From, Pairwise, each_all, from_map, life_of}
use Rattle.world_keeps_lives.proofs.Firsts.Steps.{good_calm, good_data}
use Rattle.world_keeps_lives.proofs.Begun.{flow_two, in_filter, mine_true, nobody}
use Rattle.world_keeps_lives.proofs.Desks.{open_mine}
use Rattle.world_keeps_lives.proofs.Laws.{holds}
use Rattle.world_keeps_lives.proofs.Firsts.Linked.{AreAfter, AreApart, Linked, LinkedBook}
use Rattle.world_keeps_lives.proofs.Walk.Rules.{Each, each_in, each_of, found_in}
use Rattle.world_keeps_lives.proofs.Stamps.{other_in, stamped}

-- ---- what is on no link of a life

-- what goes over link 0, or isn't a message
abbrev IsControl : Crossing → Type 0
IsControl (crossing.Out m) = (m.flow.link.0 == 0) ≡ true
IsControl (crossing.In m) = (m.flow.link.0 == 0) ≡ true
IsControl c = Unit {0}

not_same : (f g : Flow) → (f.link.0 == 0) ≡ false → (g.link.0 == 0) ≡ true → same_flow f g ≡ false
not_same f g off on = by (same_flow f g) refl where
  by : (v : Bool) → same_flow f g ≡ v → v ≡ false
  by true e = no (g.link.0 == 0) on (ap (λ (h : Flow). h.link.0 == 0) (sym (same_flow-true f g e)) ∙ off)
  by false e = refl

quiet_text : (comes : Bool) (f : Flow) (c : Crossing) → (f.link.0 == 0) ≡ false → IsControl c → text_of comes f c ≡ []
quiet_text true f (crossing.In m) off on = let e : same_flow f m.flow ≡ false = not_same f m.flow off on in rw e refl
quiet_text false f (crossing.Out m) off on = let e : same_flow f m.flow ≡ false = not_same f m.flow off on in rw e refl
quiet_text false f (crossing.In m) off on = refl
quiet_text false f (crossing.Answer kind k) off on = refl
quiet_text false f (crossing.Down h) off on = refl
quiet_text false f (crossing.Up h) off on = refl
quiet_text true f c off on = refl

-- the text of what is on a flow
text_here : (v : Bool) (f g : Flow) (text : List Bool) → g ≡ f → (if same_flow f g then text ∷ [] else []) ≡ text ∷ []
text_here v f g text e = let s : same_flow f g ≡ true = subst (λ (h : Flow). same_flow f h ≡ true) (sym e) (same_flow-refl f) in rw s refl

-- ---- a life's flow

sends_on_flow : (x : Life) (link : ℕ) → receives x ≡ false
    → flow_of x link ≡ record { source = x.host; destination = x.peer; link = record { 0 = link } }
sends_on_flow x link kind = ap (λ (b : Bool). if b then record { source = x.peer; destination = x.host; link = record { 0 = link } } else record { source = x.host; destination = x.peer; link = record { 0 = link } }) kind

takes_on_flow : (x : Life) (link : ℕ) → receives x ≡ true
    → flow_of x link ≡ record { source = x.peer; destination = x.host; link = record { 0 = link } }
takes_on_flow x link kind = ap (λ (b : Bool). if b then record { source = x.peer; destination = x.host; link = record { 0 = link } } else record { source = x.host; destination = x.peer; link = record { 0 = link } }) kind

pub some_link : (o : Option ℕ) → is_some o ≡ true → o ≡ Some (link_of o)
some_link None e = absurd (let both : false ≡ true = e in cc)
some_link (Some l) e = refl

pub same_out : (m n : HostMessage) → crossing.Out m ≡ crossing.Out n → m ≡ n
same_out m n e = cc

no_out : {A : Type 0} (m n : HostMessage) → crossing.In m ≡ crossing.Out n → A
no_out m n e = absurd (cc)

same_arrived : (s t : ℕ) (a b : List Bool) → notice.Arrived s a ∷ [] ≡ notice.Arrived t b ∷ [] → s ≡ t
same_arrived s t a b e = cc

none_arrived : {A : Type 0} (s : ℕ) (a : List Bool) → [] ≡ notice.Arrived s a ∷ [] → A
none_arrived s a e = absurd (cc)

all_refuse : (es : List Entry) → AreRefusing es → Each (λ (e : Entry). e.mine ≡ false → has_cls e.closing ≡ true) es
all_refuse [] r = tt
all_refuse (e ∷ es) r = (r.0, all_refuse es r.1)

-- ---- a crossing between other hosts than a life's two

module _ (hosts : Network) where
  -- the two hosts of a moment don't both run the program
  abbrev IsAside : Moment → Type 0
  IsAside y = AreOurs hosts (host_in y) (other_in y) → ⊥

  aside_text : (x : Life) (link : ℕ) → AreOurs hosts x.host x.peer → (c : Crossing) → IsAside (Crossed c)
      → text_of (receives x) (flow_of x link) c ≡ []
  aside_text x link two c off = by c off (receives x) refl where
    taken : (m : HostMessage) → IsAside (Crossed (crossing.In m))
        → flow_of x link ≡ record { source = x.peer; destination = x.host; link = record { 0 = link } } → (v : Bool)
        → same_flow (flow_of x link) m.flow ≡ v → (if v then m.text ∷ [] else []) ≡ []
    taken m off is true f =
        let same : record { source = x.peer; destination = x.host; link = record { 0 = link } } ≡ m.flow = sym is ∙ same_flow-true _ m.flow f in
        absurd (off (
          subst (λ (h : Host). hosts.strange h ≡ false) (ap (λ (g : Flow). g.destination) same) two.0,
          subst (λ (h : Host). hosts.strange h ≡ false) (ap (λ (g : Flow). g.source) same) two.1,
        ))
    taken m off is false f = refl

    sent : (m : HostMessage) → IsAside (Crossed (crossing.Out m))
        → flow_of x link ≡ record { source = x.host; destination = x.peer; link = record { 0 = link } } → (v : Bool)
        → same_flow (flow_of x link) m.flow ≡ v → (if v then m.text ∷ [] else []) ≡ []
    sent m off is true f =
        let same : record { source = x.host; destination = x.peer; link = record { 0 = link } } ≡ m.flow = sym is ∙ same_flow-true _ m.flow f in
        absurd (off (
          subst (λ (h : Host). hosts.strange h ≡ false) (ap (λ (g : Flow). g.source) same) two.0,
          subst (λ (h : Host). hosts.strange h ≡ false) (ap (λ (g : Flow). g.destination) same) two.1,
        ))
    sent m off is false f = refl

    by : (c : Crossing) → IsAside (Crossed c) → (v : Bool) → receives x ≡ v → text_of v (flow_of x link) c ≡ []
    by (crossing.In m) off true kind = taken m off (takes_on_flow x link kind) (same_flow (flow_of x link) m.flow) refl
    by (crossing.Out m) off false kind = sent m off (sends_on_flow x link kind) (same_flow (flow_of x link) m.flow) refl
    by (crossing.In m) off false kind = refl
    by (crossing.Answer answer f) off false kind = refl
    by (crossing.Down h) off false kind = refl
    by (crossing.Up h) off false kind = refl
    by c off true kind = refl

module _ (hosts : Network) (given : Together hosts) where
  story_by : (y : Moment) (ms : List Moment) → Follows hosts y ms → (m : HostMessage)
      → y ≡ Crossed (crossing.Out m) → hosts.strange m.flow.source ≡ false → IsNext (program m.flow.source ms) m
  story_by y ms f m e = subst (λ (z : Moment). Follows hosts z ms) e f

  module _ (ms : List Moment) (l : Lawful hosts ms) (g : Good hosts ms) where
    -- ---- moments of no data

    -- nothing crosses that is on a link of a life, or it is with a stranger
    abbrev IsSilent : Moment → Type 0
    IsSilent y = (c : Crossing) → y ≡ Crossed c → IsControl c ⊎ IsAside hosts y

    calm : (y : Moment) → Lawful hosts (y ∷ ms) → Follows hosts y ms → IsSilent y
        → Calm (lives_in hosts ms) (places ms) (crossings_of (y ∷ ms)) (lives_in hosts ms) (lives_in hosts (y ∷ ms))
        → Good hosts (y ∷ ms)
    calm y late follows silent still =
        good_calm hosts given y ms l late (story_by y ms follows) g still
        (λ q there t goes o c is. quiet q there t c is (silent c is)) (λ m is two. off m is two (silent _ is)) where
          quiet : (q : Linked) → Contains (lives_in hosts ms) q.life → Tracked ms q → (c : Crossing) → y ≡ Crossed c
              → IsControl c ⊎ IsAside hosts y → text_of (receives q.life) (flow_of q.life q.link) c ≡ []
          quiet q there t c is (inl control) = quiet_text (receives q.life) (flow_of q.life q.link) c (ap (λ (n : ℕ). n == 0) (flow_link q.life q.link) ∙ t.other) control
          quiet q there t c is (inr aside) = aside_text hosts q.life q.link (ours hosts given ms l q.life there) c (subst (IsAside hosts) is aside)

          off : (m : HostMessage) → y ≡ Crossed (crossing.Out m) → AreOurs hosts m.flow.source m.flow.destination
              → IsControl (crossing.Out m) ⊎ IsAside hosts y → (m.flow.link.0 == 0) ≡ true
          off m is two (inl control) = control
          off m is two (inr aside) = absurd (subst (IsAside hosts) is aside two)

    told_calm : (y : Moment) → Lawful hosts (y ∷ ms) → Follows hosts y ms → IsSilent y
        → (hosts.strange (host_in y) ≡ false → Each (Reports hosts (host_in y) (other_in y) (crossings_of (y ∷ ms))) (notices_by y ms))
        → Good hosts (y ∷ ms)
    told_calm y late follows silent told =
        calm y late follows silent
        (calm_moment hosts (lives_in hosts ms) (places ms) (crossings_of (y ∷ ms)) y ms _ told
        (λ two. stamped hosts l.0 ms l.1 l.2 (lives_in hosts ms) (all_due hosts given ms l) y two
        (λ m is. story_by y ms follows m is (let both_ours : AreOurs hosts m.flow.source m.flow.destination = subst (λ (z : Moment). AreOurs hosts (host_in z) (other_in z)) is two in both_ours.0))))

    -- a stranger's moment
    strange_good : (y : Moment) → Lawful hosts (y ∷ ms) → Follows hosts y ms → hosts.strange (host_in y) ≡ true
        → Good hosts (y ∷ ms)
    strange_good y late follows on = told_calm y late follows (λ c is. inr (λ two. no (hosts.strange (host_in y)) on two.0)) (λ plain. no (hosts.strange (host_in y)) on plain)

    -- a stranger's data come to an end of its own, or go out from one: no life of two others is there
    module _ (a b : Host) (plain : hosts.strange a ≡ false) (on : hosts.strange b ≡ true) (e : Entry)
        (there : Contains (ends_in a b ms) e) (opened : is_open e ≡ true) where
      refusing : e.mine ≡ false → has_cls e.closing ≡ true
      refusing = each_in _ _ e there (all_refuse _ ((holds hosts ms l.0 l.1 l.2 a plain 0).steady.refusing b))

      elsewhere : (x : Life) → Contains (lives_in hosts ms) x → (v : Bool) → lives_at a e.own x ≡ v
          → lives_at a e.own x ≡ false
      elsewhere x i false f = f
      elsewhere x i true f =
          let p : ((same_host a x.host && x.socket == e.own) ≡ true) × (not x.ended ≡ true) = both (same_host a x.host && x.socket == e.own) (not x.ended) f in
          let q : (same_host a x.host ≡ true) × ((x.socket == e.own) ≡ true) = both (same_host a x.host) (x.socket == e.own) p.0 in
          let o : HasOpenEnd (program x.host ms) x = live_now hosts given ms l x i (not_is x.ended p.1) in
          let here : Contains (ends_in x.host b ms) e = subst (λ (h : Host). Contains (ends_in h b ms) e) (same_host-true a x.host q.0) there in
          let its : Contains (mine_on x.socket (ends_in x.host b ms)) e = each_in (λ (f : Entry). is_mine_on x.socket f ≡ true → Contains (mine_on x.socket (ends_in x.host b ms)) f) _ e here (in_filter _ _) (mine_true x.socket e (open_mine e refusing opened) (sym (eqb-true x.socket e.own q.1))) in
          nobody e (subst (λ (es : List Entry). Contains es e) (o.others b (apart x i (same_host b x.peer) refl)) its) where
            apart : (x : Life) → Contains (lives_in hosts ms) x → (v : Bool) → same_host b x.peer ≡ v
                → same_host b x.peer ≡ false
            apart x i false f = f
            apart x i true f = no _ (subst (λ (h : Host). hosts.strange h ≡ true) (same_host-true b x.peer f) on) (ours hosts given ms l x i).1

      pub aside_good : (y : Moment) (bits : List Bool) → Lawful hosts (y ∷ ms) → Follows hosts y ms → IsAside hosts y
          → lives_in hosts (y ∷ ms) ≡ where_it (lives_at a e.own) (carried bits) (lives_in hosts ms)
          → Good hosts (y ∷ ms)
      aside_good y bits late follows aside is =
          calm y late follows (λ c same. inr aside)
          (subst (λ (xs : List Life). Calm (lives_in hosts ms) (places ms) (crossings_of (y ∷ ms)) (lives_in hosts ms) xs)
          (sym (is ∙ where_none _ _ _ (each_all _ _ (λ x i. elsewhere x i (lives_at a e.own x) refl))))
          (calm_none (lives_in hosts ms) (places ms) (crossings_of (y ∷ ms)) _))

    -- what a host with a program is notified of changes these lives as it changes all
    told_where : (y : Moment) (test : Life → Bool) (change : Life → Life) → hosts.strange (host_in y) ≡ false
        → Leaves change
        → (all_told (host_in y) (notices_by y ms) (kept_by y (mixed_kept hosts.strange ms))).book.lives ≡ where_it test change (mixed_kept hosts.strange ms).book.lives
        → lives_in hosts (y ∷ ms) ≡ where_it test change (lives_in hosts ms)
    told_where y test change own leaves is =
        ap (λ (v : Bool). lives_among hosts.strange (if v then crossed_only y (mixed_kept hosts.strange ms) else all_told (host_in y) (notices_by y ms) (kept_by y (mixed_kept hosts.strange ms))).book.lives) own
        ∙ ap (lives_among hosts.strange) is ∙ among_where hosts.strange test change _ leaves

    -- ---- a message goes out

    module _ (m : HostMessage) (late : Lawful hosts (Crossed (crossing.Out m) ∷ ms))
        (follows : Follows hosts (Crossed (crossing.Out m)) ms) (plain : hosts.strange m.flow.source ≡ false) where
      n : IsNext (program m.flow.source ms) m
      n = follows plain

      quiet_out : (z : Parcel) → IsNoData z → link_for z ≡ 0
          → next_in (program m.flow.source ms).peers ≡ Some (n.peer, z)
          → m ≡ message_for (program m.flow.source ms).own n.peer z → Good hosts (Crossed (crossing.Out m) ∷ ms)
      quiet_out z quiet zero next is = told_calm _ late follows (λ c same. inl (control c same)) (λ off. offer_told hosts l.0 ms l.1 l.2 m plain n z quiet next is) where
        on : (m.flow.link.0 == 0) ≡ true
        on = eq-eqb m.flow.link.0 0 (ap (λ (x : HostMessage). x.flow.link.0) is ∙ zero)

        control : (c : Crossing) → Crossed (crossing.Out m) ≡ Crossed c → IsControl c
        control c same = subst (λ (d : Crossing). IsControl d) (let two : crossing.Out m ≡ c = cc in two) on

      module _ (e : Entry) (size count : ℕ)
          (next : next_in (program m.flow.source ms).peers ≡ Some (n.peer, parcel.Bytes e size count))
          (is : m ≡ message_for (program m.flow.source ms).own n.peer (parcel.Bytes e size count)) where
        to : m.flow.destination ≡ n.peer.host
        to = ap (λ (x : HostMessage). x.flow.destination) is

        same : pair_with m.flow.destination (program m.flow.source ms).peers ≡ n.peer.pair
        same = subst (λ (y : Host). pair_with y (program m.flow.source ms).peers ≡ n.peer.pair) (sym to) (next_pair _ n.peer _ n.order next)

        parcel_next : next_of n.peer.pair ≡ Some (parcel.Bytes e size count)
        parcel_next = next_is n.peer (parcel.Bytes e size count) (program m.flow.source ms).peers next

        may : MayGo n.peer.pair (parcel.Bytes e size count)
        may = what_goes n.peer.pair _ parcel_next

        among : Contains (ends_in m.flow.source m.flow.destination ms) e
        among = subst (λ (q : PairState). Contains q.entries e) (sym same)
            (found_in _ _ n.peer.pair.entries e (senders.next_is n.peer.pair e size count parcel_next) (each_of n.peer.pair.entries))

        text : drop 40 m.text ≡ take (size * count) e.bits
        text =
            let four : length (header_bits (record { size = size; count = count })) ≡ 40 = refl in
            ap (λ (x : HostMessage). drop 40 x.text) is ∙ ap (λ (k : ℕ). drop k (header_bits (record { size = size; count = count }) ++ take (size * count) e.bits)) (sym four) ∙ drop-append_seam (header_bits (record { size = size; count = count })) (take (size * count) e.bits)

        linked : e.link ≡ Some m.flow.link.0
        linked = some_link e.link may.1.linked ∙ ap (λ (k : ℕ). Some k) (sym (ap (λ (x : HostMessage). x.flow.link.0) is))

        lives_are : lives_in hosts (Crossed (crossing.Out m) ∷ ms) ≡ where_it (lives_at m.flow.source e.own) (carried (take (size * count) e.bits)) (lives_in hosts ms)
        lives_are = told_where (Crossed (crossing.Out m)) _ _ plain (λ x. (refl, refl))
            (ap (λ (ns : List Notice). (all_told m.flow.source ns (kept_by (Crossed (crossing.Out m)) (mixed_kept hosts.strange ms))).book.lives) (bytes_told (program m.flow.source ms) (places ms) n.peer e size count next))

        -- a life on whose flow it is
        on_flow : (x : Life) (link : ℕ) → x.host ≡ m.flow.source → x.peer ≡ m.flow.destination → x.socket ≡ e.own
            → e.link ≡ Some link → (receives x ≡ false) × (m.flow ≡ flow_of x link)
        on_flow x link host peer socket its =
            let kind : receives x ≡ false = ap is_receive_socket socket ∙ may.1.sends in
            (kind, flow_two m.flow x.host x.peer link host peer (sym (same_Some link m.flow.link.0 (sym its ∙ linked))) ∙ sym (sends_on_flow x link kind))

        hit : (x : Life) (link : ℕ) → x.host ≡ m.flow.source → x.peer ≡ m.flow.destination → x.socket ≡ e.own
            → e.link ≡ Some link
            → (text_of (receives x) (flow_of x link) (crossing.Out m) ≡ m.text ∷ []) × (data_in (receives x) m.text ≡ Some (take (size * count) e.bits))
        hit x link host peer socket its =
            let f : (receives x ≡ false) × (m.flow ≡ flow_of x link) = on_flow x link host peer socket its in (
              ap (λ (v : Bool). text_of v (flow_of x link) (crossing.Out m)) f.0 ∙ text_here false _ m.flow m.text f.1,
              ap (λ (v : Bool). data_in v m.text) f.0 ∙ ap (λ (bs : List Bool). Some bs) text,
            )

        missed : (p : Linked) → (there : Contains (lives_in hosts ms) p.life) → (t : Tracked ms p)
            → (goes : p.life.ended ≡ false) → is_open (at_end hosts given ms l p there t goes).end ≡ true
            → lives_at m.flow.source e.own p.life ≡ false
            → text_of (receives p.life) (flow_of p.life p.link) (crossing.Out m) ≡ []
        missed p there t goes o off = by (receives p.life) refl where
          i : AtEnd ms p
          i = at_end hosts given ms l p there t goes

          never : receives p.life ≡ false → flow_of p.life p.link ≡ m.flow → ⊥
          never kind flow =
              let f : record { source = p.life.host; destination = p.life.peer; link = record { 0 = p.link } } ≡ m.flow = sym (sends_on_flow p.life p.link kind) ∙ flow in
              let host : p.life.host ≡ m.flow.source = ap (λ (g : Flow). g.source) f in
              let peer : p.life.peer ≡ m.flow.destination = ap (λ (g : Flow). g.destination) f in
              let link : p.link ≡ m.flow.link.0 = ap (λ (g : Flow). g.link.0) f in
              let its : Contains (ends_in p.life.host p.life.peer ms) e = subst (λ (x : Host). Contains (ends_in x p.life.peer ms) e) (sym host) (subst (λ (x : Host). Contains (ends_in m.flow.source x ms) e) (sym peer) among) in
              let one : i.end ≡ e = given.one_sender ms l p.life.host p.life.peer (ours hosts given ms l p.life there) p.link t.other i.end e i.there its (sends i.end (ap is_receive_socket i.own ∙ kind) i.link) (sends e may.1.sends (linked ∙ ap (λ (k : ℕ). Some k) (sym link))) in
              let socket : p.life.socket ≡ e.own = sym i.own ∙ ap (λ (x : Entry). x.own) one in
              let h : same_host m.flow.source p.life.host ≡ true = subst (λ (x : Host). same_host m.flow.source x ≡ true) (sym host) (same_host-refl m.flow.source) in
              let s : (p.life.socket == e.own) ≡ true = eq-eqb p.life.socket e.own socket in
              let on : lives_at m.flow.source e.own p.life ≡ true = rw (h, s, goes) refl in
              no _ on off where
                sends : (x : Entry) → is_receiving x ≡ false → x.link ≡ Some p.link → sends_on p.link x ≡ true
                sends x k is = let s : is_link p.link x.link ≡ true = ap (is_link p.link) is ∙ eq-eqb p.link p.link refl in rw (k, s) refl

          by : (v : Bool) → receives p.life ≡ v → text_of v (flow_of p.life p.link) (crossing.Out m) ≡ []
          by true kind = refl
          by false kind = flows _ refl where
            flows : (v : Bool) → same_flow (flow_of p.life p.link) m.flow ≡ v → (if v then m.text ∷ [] else []) ≡ []
            flows true f = absurd (never kind (same_flow-true _ m.flow f))
            flows false f = refl

        bytes_out : hosts.strange m.flow.destination ≡ false → Good hosts (Crossed (crossing.Out m) ∷ ms)
        bytes_out off =
            good_data hosts given (Crossed (crossing.Out m)) ms l late (story_by _ ms follows) g (crossing.Out m) refl m.flow.source m.flow.destination (plain, off) e m.text (take (size * count) e.bits) among may.1.is_opened lives_are hit missed
            (λ k two x link host peer socket its. subst (λ (w : HostMessage). (receives x ≡ false) × (w.flow ≡ flow_of x link)) (same_out m k two) (on_flow x link host peer socket its))

        bytes_good : Good hosts (Crossed (crossing.Out m) ∷ ms)
        bytes_good = by (hosts.strange m.flow.destination) refl where
          by : (v : Bool) → hosts.strange m.flow.destination ≡ v → Good hosts (Crossed (crossing.Out m) ∷ ms)
          by true on = aside_good m.flow.source m.flow.destination plain on e among may.1.is_opened (Crossed (crossing.Out m)) (take (size * count) e.bits) late follows (λ two. no (hosts.strange m.flow.destination) on two.1) lives_are
          by false off = bytes_out off

      out_good : Good hosts (Crossed (crossing.Out m) ∷ ms)
      out_good = by n.parcel n.next n.message where
        by : (z : Parcel) → next_in (program m.flow.source ms).peers ≡ Some (n.peer, z)
            → m ≡ message_for (program m.flow.source ms).own n.peer z → Good hosts (Crossed (crossing.Out m) ∷ ms)
        by parcel.Reset next is = quiet_out parcel.Reset tt refl next is
        by parcel.Reply next is = quiet_out parcel.Reply tt refl next is
        by (parcel.Commands count) next is = quiet_out (parcel.Commands count) tt refl next is
        by (parcel.Bytes e size count) next is = bytes_good e size count next is

    -- ---- a message comes in

    module _ (m : HostMessage) (late : Lawful hosts (Crossed (crossing.In m) ∷ ms))
        (follows : Follows hosts (Crossed (crossing.In m)) ms) (plain : hosts.strange m.flow.destination ≡ false) (off : (m.flow.link.0 == 0) ≡ false) where
      -- it arrives where it is on the flow of an open end
      arrived : (p : Linked) → (there : Contains (lives_in hosts ms) p.life) → (t : Tracked ms p)
          → (goes : p.life.ended ≡ false) → is_open (at_end hosts given ms l p there t goes).end ≡ true
          → receives p.life ≡ true → flow_of p.life p.link ≡ m.flow
          → notices_by (Crossed (crossing.In m)) ms ≡ notice.Arrived p.life.socket (drop 40 m.text) ∷ []
      arrived p there t goes o kind flow =
          let f : record { source = p.life.peer; destination = p.life.host; link = record { 0 = p.link } } ≡ m.flow = sym (takes_on_flow p.life p.link kind) ∙ flow in
          given.arrives ms m late p.life there kind goes (ap (λ (g : Flow). g.destination) f) (ap (λ (g : Flow). g.source) f) (live_now hosts given ms l p.life there goes) o
          ((at_end hosts given ms l p there t goes).link ∙ ap (λ (k : ℕ). Some k) (ap (λ (g : Flow). g.link.0) f)) off

      taken_text : (p : Linked) → (receives p.life ≡ true → flow_of p.life p.link ≡ m.flow → ⊥)
          → text_of (receives p.life) (flow_of p.life p.link) (crossing.In m) ≡ []
      taken_text p never = by (receives p.life) refl where
        by : (v : Bool) → receives p.life ≡ v → text_of v (flow_of p.life p.link) (crossing.In m) ≡ []
        by false kind = refl
        by true kind = flows _ refl where
          flows : (v : Bool) → same_flow (flow_of p.life p.link) m.flow ≡ v → (if v then m.text ∷ [] else []) ≡ []
          flows true f = absurd (never kind (same_flow-true _ m.flow f))
          flows false f = refl

      taken_none : notices_by (Crossed (crossing.In m)) ms ≡ []
          → Calm (lives_in hosts ms) (places ms) (crossings_of (Crossed (crossing.In m) ∷ ms)) (lives_in hosts ms) (lives_in hosts (Crossed (crossing.In m) ∷ ms))
      taken_none none =
          subst (λ (xs : List Life). Calm (lives_in hosts ms) (places ms) (crossings_of (Crossed (crossing.In m) ∷ ms)) (lives_in hosts ms) xs)
          (sym (told_where (Crossed (crossing.In m)) (λ x. false) (λ x. x) plain (λ x. (refl, refl)) (ap (λ (ns : List Notice). (all_told m.flow.destination ns (kept_by (Crossed (crossing.In m)) (mixed_kept hosts.strange ms))).book.lives) none ∙ sym (where_none (λ x. false) (λ x. x) _ (each_all (λ (x : Life). false ≡ false) (mixed_kept hosts.strange ms).book.lives (λ x i. refl))))
          ∙ where_none _ (λ x. x) _ (each_all _ _ (λ x i. refl))))
          (calm_none (lives_in hosts ms) (places ms) (crossings_of (Crossed (crossing.In m) ∷ ms)) _)

      taken_ours : hosts.strange m.flow.source ≡ false
          → TakesIf m.flow.link.0 m.text (ends_in m.flow.destination m.flow.source ms) (notices_by (Crossed (crossing.In m)) ms)
          → Good hosts (Crossed (crossing.In m) ∷ ms)
      taken_ours plain_too (inl none) =
          good_calm hosts given (Crossed (crossing.In m)) ms l late (story_by (Crossed (crossing.In m)) ms follows) g (taken_none none)
          (λ p there t goes o c two. subst (λ (d : Crossing). text_of (receives p.life) (flow_of p.life p.link) d ≡ []) (let same : crossing.In m ≡ c = cc in same)
          (taken_text p (λ kind flow. none_arrived p.life.socket (drop 40 m.text) (sym none ∙ arrived p there t goes o kind flow))))
          (λ k two between. no_out m k (let same : crossing.In m ≡ crossing.Out k = cc in same))
      taken_ours plain_too (inr t) =
          good_data hosts given (Crossed (crossing.In m)) ms l late (story_by (Crossed (crossing.In m)) ms follows) g (crossing.In m) refl m.flow.destination m.flow.source (plain, plain_too) t.end m.text (data_of (data_bits t.header) m.text) among t.opened lives_are hit missed
          (λ k two x link host peer socket its. no_out m k two) where
            among : Contains (ends_in m.flow.destination m.flow.source ms) t.end
            among = found_in (λ (y : Entry). Contains (ends_in m.flow.destination m.flow.source ms) y) (receives_on m.flow.link.0) (ends_in m.flow.destination m.flow.source ms) t.end t.found (each_of (ends_in m.flow.destination m.flow.source ms))

            on : (is_receiving t.end ≡ true) × (is_link m.flow.link.0 t.end.link ≡ true)
            on = both (is_receiving t.end) (is_link m.flow.link.0 t.end.link) (find_passes (receives_on m.flow.link.0) t.end (ends_in m.flow.destination m.flow.source ms) t.found)

            lives_are : lives_in hosts (Crossed (crossing.In m) ∷ ms) ≡ where_it (lives_at m.flow.destination t.end.own) (carried (data_of (data_bits t.header) m.text)) (lives_in hosts ms)
            lives_are = told_where (Crossed (crossing.In m)) (lives_at m.flow.destination t.end.own) (carried (data_of (data_bits t.header) m.text)) plain (λ x. (refl, refl)) (ap (λ (ns : List Notice). (all_told m.flow.destination ns (kept_by (Crossed (crossing.In m)) (mixed_kept hosts.strange ms))).book.lives) t.is)

            hit : (x : Life) (link : ℕ) → x.host ≡ m.flow.destination → x.peer ≡ m.flow.source → x.socket ≡ t.end.own
                → t.end.link ≡ Some link
                → (text_of (receives x) (flow_of x link) (crossing.In m) ≡ m.text ∷ []) × (data_in (receives x) m.text ≡ Some (data_of (data_bits t.header) m.text))
            hit x link host peer socket its =
                let kind : receives x ≡ true = ap is_receive_socket socket ∙ on.0 in
                let same : link ≡ m.flow.link.0 = eqb-true link m.flow.link.0 (ap (λ (o : Option ℕ). is_link m.flow.link.0 o) (sym its) ∙ on.1) in
                let flow : m.flow ≡ flow_of x link = flow_two m.flow x.peer x.host link peer host (sym same) ∙ sym (takes_on_flow x link kind) in (
                  ap (λ (v : Bool). text_of v (flow_of x link) (crossing.In m)) kind ∙ text_here true (flow_of x link) m.flow m.text flow,
                  ap (λ (v : Bool). data_in v m.text) kind ∙ ap (data_by m.text) t.read,
                )

            missed : (p : Linked) → (there : Contains (lives_in hosts ms) p.life) → (u : Tracked ms p)
                → (goes : p.life.ended ≡ false) → is_open (at_end hosts given ms l p there u goes).end ≡ true
                → lives_at m.flow.destination t.end.own p.life ≡ false
                → text_of (receives p.life) (flow_of p.life p.link) (crossing.In m) ≡ []
            missed p there u goes o not_at = taken_text p never where
              never : receives p.life ≡ true → flow_of p.life p.link ≡ m.flow → ⊥
              never kind flow =
                  let f : record { source = p.life.peer; destination = p.life.host; link = record { 0 = p.link } } ≡ m.flow = sym (takes_on_flow p.life p.link kind) ∙ flow in
                  let host : p.life.host ≡ m.flow.destination = ap (λ (g : Flow). g.destination) f in
                  let socket : p.life.socket ≡ t.end.own = same_arrived p.life.socket t.end.own (drop 40 m.text) (data_of (data_bits t.header) m.text) (sym (arrived p there u goes o kind flow) ∙ t.is) in
                  let h : same_host m.flow.destination p.life.host ≡ true = subst (λ (x : Host). same_host m.flow.destination x ≡ true) (sym host) (same_host-refl m.flow.destination) in
                  let s : (p.life.socket == t.end.own) ≡ true = eq-eqb p.life.socket t.end.own socket in
                  let at : lives_at m.flow.destination t.end.own p.life ≡ true = rw (h, s, goes) refl in
                  no (lives_at m.flow.destination t.end.own p.life) at not_at

      taken_aside : hosts.strange m.flow.source ≡ true
          → TakesIf m.flow.link.0 m.text (ends_in m.flow.destination m.flow.source ms) (notices_by (Crossed (crossing.In m)) ms)
          → Good hosts (Crossed (crossing.In m) ∷ ms)
      taken_aside on (inl none) = calm (Crossed (crossing.In m)) late follows (λ c same. inr (λ two. no (hosts.strange m.flow.source) on two.1)) (taken_none none)
      taken_aside on (inr t) =
          aside_good m.flow.destination m.flow.source plain on t.end
          (found_in (λ (y : Entry). Contains (ends_in m.flow.destination m.flow.source ms) y) (receives_on m.flow.link.0) (ends_in m.flow.destination m.flow.source ms) t.end t.found (each_of (ends_in m.flow.destination m.flow.source ms))) t.opened
          (Crossed (crossing.In m)) (data_of (data_bits t.header) m.text) late follows (λ two. no (hosts.strange m.flow.source) on two.1)
          (told_where (Crossed (crossing.In m)) (lives_at m.flow.destination t.end.own) (carried (data_of (data_bits t.header) m.text)) plain (λ x. (refl, refl)) (ap (λ (ns : List Notice). (all_told m.flow.destination ns (kept_by (Crossed (crossing.In m)) (mixed_kept hosts.strange ms))).book.lives) t.is))

      taken_good : TakesIf m.flow.link.0 m.text (ends_in m.flow.destination m.flow.source ms) (notices_by (Crossed (crossing.In m)) ms)
          → Good hosts (Crossed (crossing.In m) ∷ ms)
      taken_good = by (hosts.strange m.flow.source) refl where
        by : (v : Bool) → hosts.strange m.flow.source ≡ v
            → TakesIf m.flow.link.0 m.text (ends_in m.flow.destination m.flow.source ms) (notices_by (Crossed (crossing.In m)) ms)
            → Good hosts (Crossed (crossing.In m) ∷ ms)
        by true on = taken_aside on
        by false plain_too = taken_ours plain_too

    in_good : (m : HostMessage) → Lawful hosts (Crossed (crossing.In m) ∷ ms)
        → Follows hosts (Crossed (crossing.In m)) ms → hosts.strange m.flow.destination ≡ false
        → Good hosts (Crossed (crossing.In m) ∷ ms)
    in_good m late follows plain = by (m.flow.link.0 == 0) refl where
      by : (z : Bool) → (m.flow.link.0 == 0) ≡ z → Good hosts (Crossed (crossing.In m) ∷ ms)
      by true here = told_calm (Crossed (crossing.In m)) late follows (λ c two. inl (subst (λ (d : Crossing). IsControl d) (let same : crossing.In m ≡ c = cc in same) here)) (λ off. control_told hosts l.0 ms l.1 l.2 m plain here)
      by false off = taken_good m late follows plain off (message_takes (program m.flow.destination ms) m (places ms) off)

    own_good : (y : Moment) → Lawful hosts (y ∷ ms) → Follows hosts y ms → hosts.strange (host_in y) ≡ false
        → Good hosts (y ∷ ms)
    own_good (Crossed (crossing.Out m)) late follows plain = out_good m late follows plain
    own_good (Crossed (crossing.In m)) late follows plain = in_good m late follows plain
    own_good (Crossed (crossing.Answer kind f)) late follows plain =
        told_calm _ late follows (λ c two. inl (subst (λ (d : Crossing). IsControl d) (let same : crossing.Answer kind f ≡ c = cc in same) tt)) (λ off. answer_told hosts l.0 ms l.1 l.2 kind f plain)
    own_good (Crossed (crossing.Down h)) late follows plain = told_calm _ late follows (λ c two. inl (subst (λ (d : Crossing). IsControl d) (let same : crossing.Down h ≡ c = cc in same) tt)) (λ off. tt)
    own_good (Crossed (crossing.Up h)) late follows plain = told_calm _ late follows (λ c two. inl (subst (λ (d : Crossing). IsControl d) (let same : crossing.Up h ≡ c = cc in same) tt)) (λ off. tt)
    own_good (Asked h r) late follows plain = told_calm (Asked h r) late follows (λ c two. absurd (let no_two : Asked h r ≡ Crossed c = two in cc)) (λ off. asking_told hosts ms h r)

    one_more : (y : Moment) → Lawful hosts (y ∷ ms) → Follows hosts y ms → Good hosts (y ∷ ms)
    one_more y late follows = by (hosts.strange (host_in y)) refl where
      by : (v : Bool) → hosts.strange (host_in y) ≡ v → Good hosts (y ∷ ms)
      by true on = strange_good y late follows on
      by false plain = own_good y late follows plain

  -- ---- all moments

  pub good : (ms : List Moment) → Lawful hosts ms → Good hosts ms
  good [] l = record { links = []; all = refl; tracked = tt; grown = tt; apart = tt; sent = λ place m two i off. absurd i }
  good (y ∷ ms) l =
      let before : Lawful hosts ms = (l.0, mail_below hosts.all y ms l.1, l.2.1) in
      one_more ms before (good ms before) y l (coupled hosts l.0 (y ∷ ms) l.1 l.2).story.0

  after_apart : (crossings : List Crossing) (p : Linked) (qs : List Linked) → After (Apart crossings) p qs
      → AreAfter crossings p qs
  after_apart crossings p [] h = tt
  after_apart crossings p (q ∷ qs) h = (
    (λ f. elim (h.0 f.0 f.1 f.2) [
      | inl e ↦ inl e.0
      | inr e ↦ inr e.1
    ]),
    after_apart crossings p qs h.1,
  )

  all_apart : (crossings : List Crossing) (ps : List Linked) → Pairwise (Apart crossings) ps → AreApart crossings ps
  all_apart crossings [] h = tt
  all_apart crossings (p ∷ ps) h = (after_apart crossings p ps h.0, all_apart crossings ps h.1)

  pub linked_book : (ms : List Moment) → Lawful hosts ms → LinkedBook hosts (crossings_of ms) (lives_in hosts ms)
  linked_book ms l =
      let g : Good hosts ms = good ms l in
      record { links = g.links; all = g.all; first = λ p there. (each_in _ g.links p there g.tracked).first; apart = all_apart _ g.links g.apart; sent = g.sent }

  -- the end of a life that isn't over has a link
  abbrev HasLink : List Moment → Life → Type 0
  HasLink ms x = x.ended ≡ false → (o : HasOpenEnd (program x.host ms) x) → (link : ℕ) × (o.end.link ≡ Some link) × ((link == 0) ≡ false)

  pub linked_end : (ms : List Moment) → Lawful hosts ms → (x : Life) → Contains (lives_in hosts ms) x → x.ended ≡ false
      → (o : HasOpenEnd (program x.host ms) x) → (link : ℕ) × (o.end.link ≡ Some link) × ((link == 0) ≡ false)
  linked_end ms l x there =
      let g : Good hosts ms = good ms l in
      let f : From life_of g.links x = from_map life_of g.links x (subst (λ (ls : List Life). Contains ls x) (sym g.all) there) in
      let t : Tracked ms f.one = each_in (Tracked ms) g.links f.one f.there g.tracked in
      subst (HasLink ms) f.is (λ goes o.
      (let i : AtEnd ms f.one = at_end hosts given ms l f.one (subst (λ (z : Life). Contains (lives_in hosts ms) z) (sym f.is) there) t goes in
      let same : i.end ≡ o.end = is_end hosts given ms l f.one.life o i.end i.there i.mine i.own in
      (f.one.link, ap (λ (e : Entry). e.link) (sym same) ∙ i.link, t.other)))

  -- a life that isn't over was there before the last moment, with its end on the same link, or one of its requests crossed in that
  pub record WasAt (ms : List Moment) (x : Life) (link : ℕ) : Type 0 where
    pub life : Life
    pub there : Contains (lives_in hosts ms) life
    pub host : x.host ≡ life.host
    pub peer : x.peer ≡ life.peer
    pub socket : x.socket ≡ life.socket
    pub foreign : x.foreign ≡ life.foreign
    pub own : x.own_stamp ≡ life.own_stamp
    pub partner : x.partner_stamp ≡ life.partner_stamp
    pub goes : life.ended ≡ false
    pub end : HasOpenEnd (program life.host ms) life
    pub linked : end.end.link ≡ Some link
    pub asked : life.own_stamp < length (crossings_of ms)
    pub answered : life.partner_stamp < length (crossings_of ms)

  abbrev pub WasOrBegins : Moment → List Moment → Life → Type 0
  WasOrBegins y ms x =
      x.ended ≡ false → (o : HasOpenEnd (program x.host (y ∷ ms)) x) → (link : ℕ) → o.end.link ≡ Some link → WasAt ms x link ⊎ (begun x ≡ length (crossings_of ms))

  pub was_or_begins : (y : Moment) (ms : List Moment) → Lawful hosts ms → Lawful hosts (y ∷ ms) → (x : Life)
      → Contains (lives_in hosts (y ∷ ms)) x → WasOrBegins y ms x
  was_or_begins y ms l late x there =
      let g : Good hosts (y ∷ ms) = good (y ∷ ms) late in
      let f : From life_of g.links x = from_map life_of g.links x (subst (λ (ls : List Life). Contains ls x) (sym g.all) there) in
      let t : Tracked (y ∷ ms) f.one = each_in _ g.links f.one f.there g.tracked in
      subst (WasOrBegins y ms) f.is (from f.one (subst (λ (z : Life). Contains (lives_in hosts (y ∷ ms)) z) (sym f.is) there) t (each_in _ g.links f.one f.there g.grown)) where
        from : (p : Linked) → Contains (lives_in hosts (y ∷ ms)) p.life → Tracked (y ∷ ms) p → IsGrown hosts (y ∷ ms) p
            → WasOrBegins y ms p.life
        from p here t (inr now) goes o link linked = inr now
        from p here t (inl w) goes o link linked =
            let i : AtEnd (y ∷ ms) p = at_end hosts given (y ∷ ms) late p here t goes in
            let same : i.end ≡ o.end = is_end hosts given (y ∷ ms) late p.life o i.end i.there i.mine i.own in
            let on : p.link ≡ link = same_Some p.link link (sym i.link ∙ ap (λ (e : Entry). e.link) same ∙ linked) in
            let also : w.one.life.ended ≡ false = w.goes goes in
            let k : AtEnd ms w.one = at_end hosts given ms l w.one w.there w.tracked also in
            let v : HasOpenEnd (program w.one.life.host ms) w.one.life = live_now hosts given ms l w.one.life w.there also in
            let its : k.end ≡ v.end = is_end hosts given ms l w.one.life v k.end k.there k.mine k.own in
            inl (record {
              life = w.one.life;
              there = w.there;
              host = w.host;
              peer = w.peer;
              socket = w.socket;
              foreign = w.foreign;
              own = w.own;
              partner = w.partner;
              goes = also;
              end = v;
              linked = ap (λ (e : Entry). e.link) (sym its) ∙ k.link ∙ ap (λ (n : ℕ). Some n) (sym w.link ∙ on);
              asked = asked_before ms w.one w.tracked;
              answered = answered_before ms w.one w.tracked;
            })
