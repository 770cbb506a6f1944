-- The bits of each life of a network with strangers are those of messages on one link, in their order.
use Rattle.mixed_worlds.proofs.Common.{◌≡◌, inl, inr, ℕ, ◌*◌, ◌<◌, ◌==◌, ◌&&◌, not, Bool, true, false, if◌then◌else◌, List, [], ◌∷◌, ◌++◌, drop, length, take, Option, Some, None, refl, ap, sym, subst, ◌∙◌, eq-eqb, arith, find, is_some, Contains, drop-append_seam, Host, same_host, Flow, Command, Crossing, HostMessage, data_bits, header_bits, is_receive_socket, is_send_socket, PairState, Entry, Notice, pair_range, receives, sends, Life, pair_with, message_for, next_in, Asked, Crossed, Moment, places, program, crossings_of, host_in, kept_by, notices_by, places_same, HasOpenEnd, IsMixed, crossed_only, mixed_kept, find_passes, even_odd, eqb-true}
use Rattle.interface.proofs.lemmas.{same_host-true, not_true}
use Rattle.host_pairs.specs.Data.{data_of}
use Rattle.host_pairs.specs.Entries.{is_mine_on, is_open, receives_on, is_receiving, is_link}
use Rattle.host_pairs.specs.Parcels.{Parcel, next_of, may_send_on, link_of}
use Rattle.host_pairs.proofs.lemmas.{both, what_goes}
use Rattle.promise.specs.Formed.{data_by, flow_of, HasCrossed, going, AreData}
use Rattle.sockets.proofs.lemmas.{next_pair, next_is}
use Rattle.net_sim.specs.Book.{all_told, carried, changed_when, lives_at, where_it}
use Rattle.world_keeps_lives.proofs.lemmas.{Each, IsOther, MayTell, Rules, each_weaker, message_keeps, offer_keeps, request_told, each_in, each_of, answer_keeps, found_in, open_mine, live_end}
use Rattle.mixed_worlds.proofs.Moments.{Orders, Says, older, ordered}
use Rattle.mixed_worlds.specs.Toward.{AreOf, IsCarried, IsNamed, NamesItself, HasData, granted_to}
use Rattle.interface.specs.declared.crossing.Crossing.TheVariants as crossing
use Rattle.host_pairs.specs.Allowed.{MayGo}
use Rattle.host_pairs.specs.Parcels as parcel
use Rattle.host_pairs.specs.declared.notice.Notice.TheVariants as notice
use Rattle.host_keeps_streams.proofs.lemmas.Senders as senders
use Rattle.mixed_worlds.proofs.Asked.{Linked, Placed, linked_still, placed, rts_is}
use Rattle.mixed_worlds.proofs.EndMoments.{own_out}
use Rattle.mixed_worlds.proofs.AskedLives.{IsOwn, all_own}
use Rattle.mixed_worlds.proofs.Bound.{Bound, stays_bound}
use Rattle.mixed_worlds.proofs.Carried.{Counted, IsCalm, ItsEnd, Known, below_all, its_end, kept_each, known_all}
use Rattle.mixed_worlds.proofs.Carried.{known_asked, known_crossed, none_of}
use Rattle.mixed_worlds.proofs.Granted.{AreWithin, HasRoom, IsNew, always, no_less, sent, spent, stays}
use Rattle.mixed_worlds.proofs.Rooms.{AtMost, link_is, one_passes}
use Rattle.mixed_worlds.proofs.DataNotices.{TakesIf, bytes_told, message_takes}
use Rattle.mixed_worlds.proofs.OwnLinks.{HasSaid, Said, said, said_still}
use Rattle.mixed_worlds.proofs.Sockets.{fit, held}

-- ---- moments that report no data

abbrev Any : Entry → Type 0
Any e = Unit {0}

calm_other : (n : Notice) → IsOther n → IsCalm n
calm_other (notice.Opened s q f a b) o = absurd o
calm_other (notice.Sent s bits) o = absurd o
calm_other (notice.Arrived s bits) o = absurd o
calm_other n o = tt

calm_rules : (p : Host) → Rules Any IsCalm p
calm_rules p = record {
  quiet = λ e f q i. tt;
  others = calm_other;
  opens = λ e a b i asked partner goes. tt;
  returns = λ e messages bits i o. tt;
}

any_ends : (es : List Entry) → Each Any es
any_ends [] = tt
any_ends (e ∷ es) = (tt, any_ends es)

-- ---- small facts

flow_two : (f : Flow) (x y : Host) (l : ℕ) → x ≡ f.source → y ≡ f.destination → f.link.0 ≡ l
    → f ≡ record { source = x; destination = y; link = record { 0 = l } }
flow_two f x y l s d e =
    ap (λ (n : ℕ). two f.source f.destination n) e ∙ ap (λ (h : Host). two h f.destination l) (sym s)
    ∙ ap (λ (h : Host). two x h l) (sym d) where
      two : Host → Host → ℕ → Flow
      two a b n = record { source = a; destination = b; link = record { 0 = n } }

each_three : {A : Type 0} (P Q R T : A → Type 0) (xs : List A) → ((x : A) → P x → Q x → R x → T x) → Each P xs
    → Each Q xs → Each R xs → Each T xs
each_three P Q R T [] k h i j = tt
each_three P Q R T (x ∷ xs) k h i j = (k x h.0 i.0 j.0, each_three P Q R T xs k h.1 i.1 j.1)

-- a life of a socket of this host that isn't over
record IsThere (h : Host) (socket : ℕ) (x : Life) : Type 0 where
  host : h ≡ x.host
  socket_is : x.socket ≡ socket
  goes : x.ended ≡ false

is_there : (h : Host) (socket : ℕ) (x : Life) → lives_at h socket x ≡ true → IsThere h socket x
is_there h socket x is =
    let p : ((same_host h x.host && x.socket == socket) ≡ true) × (not x.ended ≡ true) = both
    (same_host h x.host && x.socket == socket) (not x.ended) is in
    let q : (same_host h x.host ≡ true) × ((x.socket == socket) ≡ true) = both (same_host h x.host)
    (x.socket == socket) p.0 in
    record {
      host = same_host-true h x.host q.0;
      socket_is = eqb-true x.socket socket q.1;
      goes = not_true x.ended p.1;
    }

module _ (orders : Orders) (strange : Host → Bool) (hosts : List Host) where
  -- ---- what stays

  carry_on : (y : Moment) (moments : List Moment) (comes : Bool) (f : Flow) (a b n : ℕ) (bits : List Bool)
      → AreOf comes f a b (crossings_of moments) n bits → AreOf comes f a b (crossings_of (y ∷ moments)) n bits
  carry_on (Crossed c) moments comes f a b n bits h = inl h
  carry_on (Asked g r) moments comes f a b n bits h = h

  -- the link of a life was named in what has crossed
  abbrev IsLinked : List Moment → Life → Option ℕ → Type 0
  IsLinked moments x link = Linked x.host x.peer (crossings_of moments) x.socket x.foreign x.partner_stamp link

  link_on : (y : Moment) (moments : List Moment) (x : Life) (link : Option ℕ) → IsLinked moments x link
      → IsLinked (y ∷ moments) x link
  link_on (Crossed c) moments x link w = linked_still x.host x.peer c (crossings_of moments) x.socket x.foreign
      x.partner_stamp link w
  link_on (Asked g r) moments x link w = w

  -- and so was that of one that receives, by itself
  abbrev IsSaid : List Moment → Life → Option ℕ → Type 0
  IsSaid moments x link = Said x.host x.peer (crossings_of moments) x.socket x.foreign x.own_stamp link

  said_on : (y : Moment) (moments : List Moment) (x : Life) (link : Option ℕ) → IsSaid moments x link
      → IsSaid (y ∷ moments) x link
  said_on (Crossed c) moments x link w = said_still x.host x.peer c (crossings_of moments) x.socket x.foreign
      x.own_stamp link w
  said_on (Asked g r) moments x link w = w

  -- of a life that sends there is room for what its end has left, and for a message more that it sent
  abbrev Grows : List Moment → Crossing → List Bool → Life → Option ℕ → Type 0
  Grows moments c bits x link = sends x ≡ true
      → HasRoom (carried bits x) (crossings_of (Crossed c ∷ moments)) (length (crossings_of (Crossed c ∷ moments)))
      (program x.host (Crossed c ∷ moments))
      × AreWithin (carried bits x) (link_of link) (crossings_of (Crossed c ∷ moments))

  module _ (moments : List Moment) (x : Life) (own : IsOwn strange (crossings_of moments) x) where
    own_before : x.own_stamp < length (crossings_of moments)
    own_before = below_all x.own_stamp _ (crossings_of moments) own.own.crossed.crossed

    partner_before : x.partner_stamp < length (crossings_of moments)
    partner_before = below_all x.partner_stamp _ (crossings_of moments) own.partner.crossed.crossed

    still_bound : (link : Option ℕ) (y : Moment) → IsMixed strange hosts (y ∷ moments)
        → Each (Bound x link) (pair_with x.peer (program x.host moments).peers).entries
        → Each (Bound x link) (pair_with x.peer (program x.host (y ∷ moments)).peers).entries
    still_bound link y mixed old =
        stays_bound orders strange hosts x.host own.plain x link x.peer y moments mixed
        (subst (λ (n : ℕ). x.own_stamp < n) (sym (places_same moments)) own_before)
        (subst (λ (n : ℕ). x.partner_stamp < n) (sym (places_same moments)) partner_before) old

    by_length : (z : Life) (ms : List Moment) → HasRoom z (crossings_of ms) (places ms) (program z.host ms)
        → HasRoom z (crossings_of ms) (length (crossings_of ms)) (program z.host ms)
    by_length z ms h = subst (λ (n : ℕ). HasRoom z (crossings_of ms) n (program z.host ms)) (places_same ms) h

    -- there is room still
    room_on : (s : sends x ≡ true) (y : Moment) → IsMixed strange hosts (y ∷ moments)
        → HasRoom x (crossings_of moments) (places moments) (program x.host moments)
        → HasRoom x (crossings_of (y ∷ moments)) (places (y ∷ moments)) (program x.host (y ∷ moments))
    room_on s y mixed old =
        stays orders strange hosts x own.plain s moments
        (λ e. absurd (let p : places moments ≡ length (crossings_of moments) = places_same moments in
        omega (arith, own_before, e, p)))
        (λ e. absurd (let p : places moments ≡ length (crossings_of moments) = places_same moments in
        omega (arith, partner_before, e, p))) old y mixed

    by_places : HasRoom x (crossings_of moments) (length (crossings_of moments)) (program x.host moments)
        → HasRoom x (crossings_of moments) (places moments) (program x.host moments)
    by_places h = subst (λ (n : ℕ). HasRoom x (crossings_of moments) n (program x.host moments))
        (sym (places_same moments)) h

    still_within : (y : Moment) (l : ℕ) → AreWithin x l (crossings_of moments)
        → AreWithin x l (crossings_of (y ∷ moments))
    still_within y l w =
        let more : AtMost (granted_to x l (crossings_of moments)) (granted_to x l (crossings_of (y ∷ moments))) =
        no_less x y moments l in
        (omega (arith, w.0, more.0), omega (arith, w.1, more.1))

    still : (y : Moment) → IsMixed strange hosts (y ∷ moments)
        → Counted (crossings_of moments) (program x.host moments) x
        → Counted (crossings_of (y ∷ moments)) (program x.host (y ∷ moments)) x
    still y mixed c = record {
      link = c.link;
      messages = carry_on y moments (receives x) (flow_of x (link_of c.link)) x.own_stamp x.partner_stamp x.messages
          x.bits c.messages;
      bound = λ goes. still_bound c.link y mixed (c.bound goes);
      named = λ s. link_on y moments x c.link (c.named s);
      itself = λ r. said_on y moments x c.link (c.itself r);
      room = λ s goes. by_length x (y ∷ moments) (room_on s y mixed (by_places (c.room s goes)));
      within = λ s. still_within y (link_of c.link) (c.within s);
    }

    -- a message more
    one_message : (c : Crossing) (bits : List Bool) (known : Counted (crossings_of moments) (program x.host moments) x)
        → IsMixed strange hosts (Crossed c ∷ moments) → x.ended ≡ false
        → HasData (receives x) (flow_of x (link_of known.link)) c bits → Grows moments c bits x known.link
        → Counted (crossings_of (Crossed c ∷ moments)) (program x.host (Crossed c ∷ moments)) (carried bits x)
    one_message c bits known mixed goes has grows = record {
      link = known.link;
      messages = inr (x.messages, x.bits, bits, refl, refl, has, own_before, partner_before, known.messages);
      bound = λ over. still_bound known.link (Crossed c) mixed (known.bound goes);
      named = λ s. link_on (Crossed c) moments x known.link (known.named s);
      itself = λ r. said_on (Crossed c) moments x known.link (known.itself r);
      room = λ s over. (grows s).0;
      within = λ s. (grows s).1;
    }

    live : IsMixed strange hosts moments → Contains (mixed_kept strange moments).book.lives x → x.ended ≡ false
        → HasOpenEnd (program x.host moments) x
    live mixed there goes =
        live_end (program x.host moments) (mixed_kept strange moments) x there goes
        (held strange hosts x.host own.plain x.socket moments mixed)

  -- ---- the message of a notice of data

  module _ (moments : List Moment) (below : IsMixed strange hosts moments) (x : Life)
      (own : IsOwn strange (crossings_of moments) x)
      (there : Contains (mixed_kept strange moments).book.lives x)
      (known : Counted (crossings_of moments) (program x.host moments) x) where
    -- an open end of this life's socket
    end_of_life : (p : Host) (e : Entry) → Contains (pair_with p (program x.host moments).peers).entries e
        → is_open e ≡ true → x.socket ≡ e.own → x.ended ≡ false → ItsEnd x known.link p e
    end_of_life p e among opened socket goes =
        let refusing : Placed x.host p (crossings_of moments) e = each_in (Placed x.host p (crossings_of moments))
        (pair_with p (program x.host moments).peers).entries e among
        (placed orders strange hosts x.host own.plain moments below p) in
        let mine : e.mine ≡ true = open_mine e refusing.refusing opened in
        its_end (program x.host moments) x known.link p e among (rw (mine, eq-eqb e.own x.socket (sym socket)) refl)
        (live moments x own below there goes) (known.bound goes)

    in_data : (m : HostMessage) (bits : List Bool) (e : Entry) → m.flow.destination ≡ x.host
        → Contains (pair_with m.flow.source (program x.host moments).peers).entries e → is_open e ≡ true
        → is_receiving e ≡ true → e.link ≡ Some m.flow.link.0 → x.socket ≡ e.own → x.ended ≡ false
        → AreData true m.text bits → HasData (receives x) (flow_of x (link_of known.link)) (crossing.In m) bits
    in_data m bits e to among opened takes link socket goes has =
        let i : ItsEnd x known.link m.flow.source e = end_of_life m.flow.source e among opened socket goes in
        subst
        (λ (v : Bool). HasData v (if v then record {
          source = x.peer;
          destination = x.host;
          link = record {
            0 =
                link_of known.link;
          };
        } else record {
          source = x.host;
          destination = x.peer;
          link = record {
            0 = link_of
                known.link;
          };
        }) (crossing.In m) bits) (sym (ap is_receive_socket socket ∙ takes)) (
          flow_two m.flow x.peer x.host (link_of known.link) (sym i.peer) (sym to)
              (ap link_of (sym link ∙ i.linked)),
          has,
        )

    out_data : (m : HostMessage) (bits : List Bool) (e : Entry) → m.flow.source ≡ x.host
        → Contains (pair_with m.flow.destination (program x.host moments).peers).entries e → is_open e ≡ true
        → is_receiving e ≡ false → link_of e.link ≡ m.flow.link.0 → x.socket ≡ e.own → x.ended ≡ false
        → AreData false m.text bits → HasData (receives x) (flow_of x (link_of known.link)) (crossing.Out m) bits
    out_data m bits e from among opened sends link socket goes has =
        let i : ItsEnd x known.link m.flow.destination e = end_of_life m.flow.destination e among opened socket goes in
        subst
        (λ (v : Bool). HasData v (if v then record {
          source = x.peer;
          destination = x.host;
          link = record {
            0 =
                link_of known.link;
          };
        } else record {
          source = x.host;
          destination = x.peer;
          link = record {
            0 = link_of
                known.link;
          };
        }) (crossing.Out m) bits) (sym (ap is_receive_socket socket ∙ sends)) (
          flow_two m.flow x.host x.peer (link_of known.link) (sym from) (sym i.peer)
              (sym link ∙ ap link_of i.linked),
          has,
        )

  -- ---- all lives, after one moment more

  module _ (moments : List Moment) (below : IsMixed strange hosts moments)
      (old : Each (λ (x : Life). Counted (crossings_of moments) (program x.host moments) x)
      (mixed_kept strange moments).book.lives) where
    record Given (x : Life) : Type 0 where
      own : IsOwn strange (crossings_of moments) x
      counts : Counted (crossings_of moments) (program x.host moments) x
      there : Contains (mixed_kept strange moments).book.lives x

    all_given : Each Given (mixed_kept strange moments).book.lives
    all_given = each_three (IsOwn strange (crossings_of moments))
        (λ (x : Life). Counted (crossings_of moments) (program x.host moments) x)
        (λ (x : Life). Contains (mixed_kept strange moments).book.lives x) Given
        (mixed_kept strange moments).book.lives (λ x own c there. record { own = own; counts = c; there = there })
        (all_own orders strange hosts moments below) old (each_of (mixed_kept strange moments).book.lives)

    all_still : (y : Moment) → IsMixed strange hosts (y ∷ moments)
        → Each (Known (λ h. program h (y ∷ moments)) (crossings_of (y ∷ moments)))
        (mixed_kept strange moments).book.lives
    all_still y mixed = each_weaker Given (Known (λ h. program h (y ∷ moments)) (crossings_of (y ∷ moments)))
        (mixed_kept strange moments).book.lives (λ x g. inr (still moments x g.own y mixed g.counts)) all_given

    -- notices that aren't of data
    calm_moment : (y : Moment) (h : Host) (ns : List Notice) → IsMixed strange hosts (y ∷ moments) → Each IsCalm ns
        → Each (Known (λ h. program h (y ∷ moments)) (crossings_of (y ∷ moments)))
        (all_told h ns (kept_by y (mixed_kept strange moments))).book.lives
    calm_moment y h ns mixed calm = known_all (λ h. program h (y ∷ moments)) (crossings_of (y ∷ moments)) h ns
        (kept_by y (mixed_kept strange moments)) calm (before y (all_still y mixed)) where
          before : (y : Moment)
              → Each (Known (λ h. program h (y ∷ moments)) (crossings_of (y ∷ moments)))
              (mixed_kept strange moments).book.lives
              → Each (Known (λ h. program h (y ∷ moments)) (crossings_of (y ∷ moments)))
              (kept_by y (mixed_kept strange moments)).book.lives
          before (Crossed c) all = known_crossed (λ h. program h (Crossed c ∷ moments))
              (crossings_of (Crossed c ∷ moments)) c (mixed_kept strange moments).book.lives all
          before (Asked g r) all = known_asked (λ h. program h (Asked g r ∷ moments))
              (crossings_of (Asked g r ∷ moments)) g r (mixed_kept strange moments).book.lives all

    -- one notice of data
    data_moment : (h : Host) (c : Crossing) (socket : ℕ) (bits : List Bool)
        → IsMixed strange hosts (Crossed c ∷ moments)
        →
        ((x : Life) (g : Given x) → IsThere h socket x
        → HasData (receives x) (flow_of x (link_of g.counts.link)) c bits × Grows moments c bits x g.counts.link)
        → Each (Known (λ h. program h (Crossed c ∷ moments)) (crossings_of (Crossed c ∷ moments)))
        (where_it (lives_at h socket) (carried bits) (mixed_kept strange moments).book.lives)
    data_moment h c socket bits mixed has = all (mixed_kept strange moments).book.lives all_given where
      one : (x : Life) → Given x → (b : Bool) → lives_at h socket x ≡ b
          → Known (λ h. program h (Crossed c ∷ moments)) (crossings_of (Crossed c ∷ moments))
          (changed_when b (carried bits) x)
      one x g true e =
          let i : IsThere h socket x = is_there h socket x e in
          inr (one_message moments x g.own c bits g.counts mixed i.goes (has x g i).0 (has x g i).1)
      one x g false e = inr (still moments x g.own (Crossed c) mixed g.counts)

      all : (xs : List Life) → Each Given xs
          → Each (Known (λ h. program h (Crossed c ∷ moments)) (crossings_of (Crossed c ∷ moments)))
          (where_it (lives_at h socket) (carried bits) xs)
      all [] k = tt
      all (x ∷ xs) k = (one x k.0 (lives_at h socket x) refl, all xs k.1)

    -- ---- what comes in

    taken : (m : HostMessage) → IsMixed strange hosts (Crossed (crossing.In m) ∷ moments)
        → TakesIf m.flow.link.0 m.text (pair_with m.flow.source (program m.flow.destination moments).peers).entries
        (notices_by (Crossed (crossing.In m)) moments)
        → Each (Known (λ h. program h (Crossed (crossing.In m) ∷ moments))
        (crossings_of (Crossed (crossing.In m) ∷ moments)))
        (all_told m.flow.destination (notices_by (Crossed (crossing.In m)) moments)
        (kept_by (Crossed (crossing.In m)) (mixed_kept strange moments))).book.lives
    taken m mixed (inl none) = calm_moment (Crossed (crossing.In m)) m.flow.destination
        (notices_by (Crossed (crossing.In m)) moments) mixed
        (subst (λ (ns : List Notice). Each IsCalm ns) (sym none) tt)
    taken m mixed (inr t) =
        subst
        (λ (ns : List Notice). Each (Known (λ h. program h (Crossed (crossing.In m) ∷ moments))
        (crossings_of (Crossed (crossing.In m) ∷ moments))) (all_told m.flow.destination ns
        (kept_by (Crossed (crossing.In m)) (mixed_kept strange moments))).book.lives) (sym t.is)
        (data_moment m.flow.destination (crossing.In m) t.end.own (data_of (data_bits t.header) m.text) mixed has) where
          among : Contains (pair_with m.flow.source (program m.flow.destination moments).peers).entries t.end
          among = found_in
              (λ (z : Entry). Contains (pair_with m.flow.source (program m.flow.destination moments).peers).entries z)
              (receives_on m.flow.link.0) (pair_with m.flow.source (program m.flow.destination moments).peers).entries
              t.end t.found (each_of (pair_with m.flow.source (program m.flow.destination moments).peers).entries)

          on : (is_receiving t.end ≡ true) × (is_link m.flow.link.0 t.end.link ≡ true)
          on = both (is_receiving t.end) (is_link m.flow.link.0 t.end.link)
              (find_passes (receives_on m.flow.link.0) t.end
              (pair_with m.flow.source (program m.flow.destination moments).peers).entries t.found)

          has : (x : Life) (g : Given x) → IsThere m.flow.destination t.end.own x
              → HasData (receives x) (flow_of x (link_of g.counts.link)) (crossing.In m)
              (data_of (data_bits t.header) m.text)
              × Grows moments (crossing.In m) (data_of (data_bits t.header) m.text) x g.counts.link
          has x g i = (
            in_data moments below x g.own g.there g.counts m (data_of (data_bits t.header) m.text) t.end i.host
                (subst (λ (h : Host). Contains (pair_with m.flow.source (program h moments).peers).entries t.end) i.host
                among) t.opened on.0 (link_is m.flow.link.0 t.end.link on.1) i.socket_is i.goes
                (ap (data_by m.text) t.read),
            λ s. absurd (even_odd x.socket (ap is_receive_socket i.socket_is ∙ on.0) s),
          )

    comes_in : (m : HostMessage) → IsMixed strange hosts (Crossed (crossing.In m) ∷ moments)
        → Each (Known (λ h. program h (Crossed (crossing.In m) ∷ moments))
        (crossings_of (Crossed (crossing.In m) ∷ moments)))
        (all_told m.flow.destination (notices_by (Crossed (crossing.In m)) moments)
        (kept_by (Crossed (crossing.In m)) (mixed_kept strange moments))).book.lives
    comes_in m mixed = by (m.flow.link.0 == 0) refl where
      by : (b : Bool) → (m.flow.link.0 == 0) ≡ b
          → Each (Known (λ h. program h (Crossed (crossing.In m) ∷ moments))
          (crossings_of (Crossed (crossing.In m) ∷ moments)))
          (all_told m.flow.destination (notices_by (Crossed (crossing.In m)) moments)
          (kept_by (Crossed (crossing.In m)) (mixed_kept strange moments))).book.lives
      by true here =
          calm_moment (Crossed (crossing.In m)) m.flow.destination (notices_by (Crossed (crossing.In m)) moments) mixed
          (message_keeps Any IsCalm m.flow.source (calm_rules m.flow.source) (program m.flow.destination moments) m
          (places moments) refl (
            λ zero. record {
              begins = record { fresh = λ e i asked partner. tt; refused = λ o f s. tt };
              rts = λ o f l e there even odd is at i. tt;
              str = λ o f l e there odd even is at i. tt;
            },
            λ away e k found opened read. absurd (let clash : true ≡ false = sym here ∙ away in cc),
          ) (any_ends (pair_with m.flow.source (program m.flow.destination moments).peers).entries)).told
      by false away = taken m mixed (message_takes (program m.flow.destination moments) m (places moments) away)

    -- ---- what goes out

    module _ (m : HostMessage) (mixed : IsMixed strange hosts (Crossed (crossing.Out m) ∷ moments))
        (off : strange m.flow.source ≡ false) where
      out : Says (program m.flow.source moments) m
      out = own_out orders strange hosts m.flow.source off m moments mixed refl

      abbrev After : List Notice → Type 0
      After ns = Each
          (Known (λ h. program h (Crossed (crossing.Out m) ∷ moments))
          (crossings_of (Crossed (crossing.Out m) ∷ moments)))
          (all_told m.flow.source ns (kept_by (Crossed (crossing.Out m)) (mixed_kept strange moments))).book.lives

      quiet : (z : Parcel) → next_in (program m.flow.source moments).peers ≡ Some (out.peer, z)
          → MayTell Any IsCalm out.peer.host (calm_rules out.peer.host) (places moments) z
          (pair_with out.peer.host (program m.flow.source moments).peers)
          → After (notices_by (Crossed (crossing.Out m)) moments)
      quiet z next may =
          calm_moment (Crossed (crossing.Out m)) m.flow.source (notices_by (Crossed (crossing.Out m)) moments) mixed
          (offer_keeps Any IsCalm out.peer.host (calm_rules out.peer.host) (program m.flow.source moments)
          (places moments) out.peer z (ordered orders strange hosts m.flow.source moments off below) next refl
          (pair_range out.peer.host (program m.flow.source moments).peers
          (fit strange hosts m.flow.source off moments below).ranged.pairs).commands may
          (any_ends (pair_with out.peer.host (program m.flow.source moments).peers).entries)).told

      bytes : (e : Entry) (size count : ℕ)
          → next_in (program m.flow.source moments).peers ≡ Some (out.peer, parcel.Bytes e size count)
          → message_for (program m.flow.source moments).own out.peer (parcel.Bytes e size count) ≡ m
          → After (notices_by (Crossed (crossing.Out m)) moments)
      bytes e size count next is =
          subst (λ (ns : List Notice). After ns)
          (sym (bytes_told (program m.flow.source moments) (places moments) out.peer e size count next))
          (data_moment m.flow.source (crossing.Out m) e.own (take (size * count) e.bits) mixed has) where
            parcel_next : next_of out.peer.pair ≡ Some (parcel.Bytes e size count)
            parcel_next = next_is out.peer (parcel.Bytes e size count) (program m.flow.source moments).peers next

            may : MayGo out.peer.pair (parcel.Bytes e size count)
            may = what_goes out.peer.pair (parcel.Bytes e size count) parcel_next

            to : out.peer.host ≡ m.flow.destination
            to = ap (λ (y : HostMessage). y.flow.destination) is

            same : pair_with m.flow.destination (program m.flow.source moments).peers ≡ out.peer.pair
            same = subst (λ (h : Host). pair_with h (program m.flow.source moments).peers ≡ out.peer.pair) to
                (next_pair (program m.flow.source moments).peers out.peer (parcel.Bytes e size count)
                (ordered orders strange hosts m.flow.source moments off below) next)

            among : Contains (pair_with m.flow.destination (program m.flow.source moments).peers).entries e
            among = subst (λ (q : PairState). Contains q.entries e) (sym same)
                (found_in (λ (z : Entry). Contains out.peer.pair.entries z)
                (may_send_on out.peer.pair.busy (link_of e.link)) out.peer.pair.entries e
                (senders.next_is out.peer.pair e size count parcel_next) (each_of out.peer.pair.entries))

            text : AreData false m.text (take (size * count) e.bits)
            text =
                let four : length (header_bits (record { size = size; count = count })) ≡ 40 = refl in
                ap (λ (y : HostMessage). drop 40 y.text) (sym is)
                ∙ ap
                (λ (k : ℕ). drop k (header_bits (record { size = size; count = count }) ++ take (size * count) e.bits))
                (sym four)
                ∙ drop-append_seam (header_bits (record { size = size; count = count })) (take (size * count) e.bits)

            its_link : (o : Option ℕ) → e.link ≡ o → is_some o ≡ true → e.link ≡ Some (link_of e.link)
            its_link None f some = absurd (let clash : false ≡ true = some in cc)
            its_link (Some l) f some = f ∙ ap (λ (n : Option ℕ). Some (link_of n)) (sym f)

            grows : (x : Life) (g : Given x) → IsThere m.flow.source e.own x
                → Grows moments (crossing.Out m) (take (size * count) e.bits) x g.counts.link
            grows x g i s =
                let here : Contains (pair_with m.flow.destination (program x.host moments).peers).entries e = subst
                (λ (h : Host). Contains (pair_with m.flow.destination (program h moments).peers).entries e) i.host
                among in
                let its : ItsEnd x g.counts.link m.flow.destination e = end_of_life moments below x g.own g.there
                g.counts m.flow.destination e here may.1.is_opened i.socket_is i.goes in
                let old : HasRoom x (crossings_of moments) (places moments) (program x.host moments) = by_places moments
                x g.own (g.counts.room s i.goes) in
                let same : HasRoom x (crossings_of (Crossed (crossing.Out m) ∷ moments))
                (places (Crossed (crossing.Out m) ∷ moments)) (program x.host (Crossed (crossing.Out m) ∷ moments)) =
                room_on moments x g.own s (Crossed (crossing.Out m)) mixed old in
                let says : next_in (program x.host moments).peers ≡ Some (out.peer, parcel.Bytes e size count) = subst
                (λ (h : Host). next_in (program h moments).peers ≡ Some (out.peer, parcel.Bytes e size count)) i.host
                next in
                let found : find (may_send_on out.peer.pair.busy (link_of e.link)) out.peer.pair.entries ≡ Some e =
                senders.next_is out.peer.pair e size count parcel_next in
                let there : Contains (pair_with x.peer (program x.host moments).peers).entries e = subst
                (λ (h : Host). Contains (pair_with h (program x.host moments).peers).entries e) its.peer here in (
                  by_length moments x g.own (carried (take (size * count) e.bits) x)
                      (Crossed (crossing.Out m) ∷ moments)
                      (spent orders strange hosts x g.own.plain s moments m mixed old same i.host out.peer e size count
                      says found (to ∙ its.peer) there may.1 its.mine (sym i.socket_is) its.asked its.partner),
                  subst (λ (l : ℕ). AreWithin (carried (take (size * count) e.bits) x) l
                      (crossings_of (Crossed (crossing.Out m) ∷ moments))) (ap link_of its.linked)
                      (sent orders strange hosts x g.own.plain s moments m mixed old same i.host out.peer e size count
                      says found (to ∙ its.peer) there may.1 its.mine (sym i.socket_is) its.asked its.partner
                      (link_of e.link) (its_link e.link refl may.1.linked)),
                )

            has : (x : Life) (g : Given x) → IsThere m.flow.source e.own x
                → HasData (receives x) (flow_of x (link_of g.counts.link)) (crossing.Out m) (take (size * count) e.bits)
                × Grows moments (crossing.Out m) (take (size * count) e.bits) x g.counts.link
            has x g i = (
              out_data moments below x g.own g.there g.counts m (take (size * count) e.bits) e i.host
                  (subst
                  (λ (h : Host). Contains (pair_with m.flow.destination (program h moments).peers).entries e) i.host
                  among) may.1.is_opened may.1.sends (ap (λ (y : HostMessage). y.flow.link.0) is) i.socket_is i.goes
                  text,
              grows x g i,
            )

      goes_out : After (notices_by (Crossed (crossing.Out m)) moments)
      goes_out = by out.parcel out.next out.message where
        by : (z : Parcel) → next_in (program m.flow.source moments).peers ≡ Some (out.peer, z)
            → message_for (program m.flow.source moments).own out.peer z ≡ m
            → After (notices_by (Crossed (crossing.Out m)) moments)
        by parcel.Reset next is = quiet parcel.Reset next tt
        by parcel.Reply next is = quiet parcel.Reply next tt
        by (parcel.Commands count) next is = quiet (parcel.Commands count) next
            (record { rts = λ o f l e there even is at i. tt; str = λ o f l e there odd is at i. tt })
        by (parcel.Bytes e size count) next is = bytes e size count next is

    -- ---- any moment

    after : (y : Moment) → IsMixed strange hosts (y ∷ moments) → strange (host_in y) ≡ false
        → Each (Known (λ h. program h (y ∷ moments)) (crossings_of (y ∷ moments)))
        (all_told (host_in y) (notices_by y moments) (kept_by y (mixed_kept strange moments))).book.lives
    after (Crossed (crossing.Out m)) mixed off = goes_out m mixed off
    after (Crossed (crossing.In m)) mixed off = comes_in m mixed
    after (Crossed (crossing.Answer kind f)) mixed off =
        calm_moment (Crossed (crossing.Answer kind f)) f.source (notices_by (Crossed (crossing.Answer kind f)) moments)
        mixed
        (answer_keeps Any IsCalm f.destination (calm_rules f.destination) (program f.source moments) kind f
        (places moments) refl (any_ends (pair_with f.destination (program f.source moments).peers).entries)).told
    after (Crossed (crossing.Down g)) mixed off = calm_moment (Crossed (crossing.Down g)) g [] mixed tt
    after (Crossed (crossing.Up g)) mixed off = calm_moment (Crossed (crossing.Up g)) g [] mixed tt
    after (Asked g r) mixed off = calm_moment (Asked g r) g (notices_by (Asked g r) moments) mixed
        (request_told Any IsCalm g (calm_rules g) (program g moments) r)

    aside : (y : Moment) → IsMixed strange hosts (y ∷ moments)
        → Each (Known (λ h. program h (y ∷ moments)) (crossings_of (y ∷ moments)))
        (crossed_only y (mixed_kept strange moments)).book.lives
    aside (Crossed c) mixed = known_crossed (λ h. program h (Crossed c ∷ moments))
        (crossings_of (Crossed c ∷ moments)) c (mixed_kept strange moments).book.lives (all_still (Crossed c) mixed)
    aside (Asked g r) mixed = all_still (Asked g r) mixed

  -- ---- a life that has just begun

  -- the link of its end was named
  end_linked : (moments : List Moment) → IsMixed strange hosts moments → (x : Life)
      → IsOwn strange (crossings_of moments) x → (o : HasOpenEnd (program x.host moments) x) → sends x ≡ true
      → IsLinked moments x o.end.link
  end_linked moments mixed x own o s =
      let Here : Entry → Type 0 = Placed x.host x.peer (crossings_of moments) in
      let both_so : Each (λ (e : Entry). (is_mine_on x.socket e ≡ true) × Here e) (o.end ∷ []) =
      subst (λ (es : List Entry). Each (λ (e : Entry). (is_mine_on x.socket e ≡ true) × Here e) es) o.one
      (kept_each Here (is_mine_on x.socket) (pair_with x.peer (program x.host moments).peers).entries
      (placed orders strange hosts x.host own.plain moments mixed x.peer)) in
      let parts : (o.end.mine ≡ true) × ((o.end.own == x.socket) ≡ true) = both o.end.mine (o.end.own == x.socket)
      both_so.0.0 in
      let socket : o.end.own ≡ x.socket = eqb-true o.end.own x.socket parts.1 in
      let there : Linked x.host x.peer (crossings_of moments) o.end.own o.end.foreign x.partner_stamp o.end.link =
      both_so.0.1.linked parts.0 (ap is_send_socket socket ∙ s) x.partner_stamp o.partner in
      subst
      (λ (n : ℕ). Linked x.host x.peer (crossings_of moments) n x.foreign x.partner_stamp o.end.link) socket
      (subst
      (λ (n : ℕ). Linked x.host x.peer (crossings_of moments) o.end.own n x.partner_stamp o.end.link) o.foreign there)

  -- and it was named by its own RTS
  end_said : (moments : List Moment) → IsMixed strange hosts moments → (x : Life)
      → IsOwn strange (crossings_of moments) x → (o : HasOpenEnd (program x.host moments) x) → receives x ≡ true
      → IsSaid moments x o.end.link
  end_said moments mixed x own o r =
      let Here : Entry → Type 0 = HasSaid x.host x.peer (crossings_of moments) in
      let both_so : Each (λ (e : Entry). (is_mine_on x.socket e ≡ true) × Here e) (o.end ∷ []) =
      subst (λ (es : List Entry). Each (λ (e : Entry). (is_mine_on x.socket e ≡ true) × Here e) es) o.one
      (kept_each Here (is_mine_on x.socket) (pair_with x.peer (program x.host moments).peers).entries
      (said orders strange hosts x.host own.plain moments mixed x.peer)) in
      let parts : (o.end.mine ≡ true) × ((o.end.own == x.socket) ≡ true) = both o.end.mine (o.end.own == x.socket)
      both_so.0.0 in
      let socket : o.end.own ≡ x.socket = eqb-true o.end.own x.socket parts.1 in
      let there : Said x.host x.peer (crossings_of moments) o.end.own o.end.foreign x.own_stamp o.end.link =
      both_so.0.1 (ap is_receive_socket socket ∙ r) x.own_stamp o.own in
      subst
      (λ (n : ℕ). Said x.host x.peer (crossings_of moments) n x.foreign x.own_stamp o.end.link) socket
      (subst
      (λ (n : ℕ). Said x.host x.peer (crossings_of moments) o.end.own n x.own_stamp o.end.link) o.foreign there)

  settle : (moments : List Moment) → IsMixed strange hosts moments
      → Each (Known (λ h. program h moments) (crossings_of moments)) (mixed_kept strange moments).book.lives
      → Each (λ (x : Life). Counted (crossings_of moments) (program x.host moments) x)
      (mixed_kept strange moments).book.lives
  settle moments mixed all =
      each_three (IsOwn strange (crossings_of moments)) (Known (λ h. program h moments) (crossings_of moments))
      (λ (x : Life). Contains (mixed_kept strange moments).book.lives x)
      (λ (x : Life). Counted (crossings_of moments) (program x.host moments) x)
      (mixed_kept strange moments).book.lives one (all_own orders strange hosts moments mixed) all
      (each_of (mixed_kept strange moments).book.lives) where
        none : (x : Life) (link : ℕ) → IsNew x
            → AreOf (receives x) (flow_of x link) x.own_stamp x.partner_stamp (crossings_of moments) x.messages x.bits
        none x link new =
            subst
            (λ (n : ℕ). AreOf (receives x) (flow_of x link) x.own_stamp x.partner_stamp (crossings_of moments) n x.bits)
            (sym new.0)
            (subst
            (λ (bits : List Bool). AreOf (receives x) (flow_of x link) x.own_stamp x.partner_stamp
            (crossings_of moments) 0 bits) (sym new.1)
            (none_of (receives x) (flow_of x link) x.own_stamp x.partner_stamp (crossings_of moments)))

        unsent : (x : Life) (l : ℕ) → IsNew x → AreWithin x l (crossings_of moments)
        unsent x l new = let z : length x.bits ≡ 0 = ap (λ (bs : List Bool). length bs) new.1 in
            (omega (arith, new.0), omega (arith, z))

        begun : (x : Life) → IsOwn strange (crossings_of moments) x
            → Contains (mixed_kept strange moments).book.lives x → IsNew x → (b : Bool) → x.ended ≡ b
            → Counted (crossings_of moments) (program x.host moments) x
        begun x own there new true over = by (sends x) refl where
          by : (b : Bool) → sends x ≡ b → Counted (crossings_of moments) (program x.host moments) x
          by true s =
              let w : (link : Option ℕ) × IsLinked moments x link = own.linked s in
              record {
                link = w.0;
                messages = none x (link_of w.0) new;
                bound = λ goes. absurd (let clash : true ≡ false = sym over ∙ goes in cc);
                named = λ k. w.1;
                itself = λ r. absurd (even_odd x.socket r s);
                room = λ k goes. absurd (let clash : true ≡ false = sym over ∙ goes in cc);
                within = λ k. unsent x (link_of w.0) new;
              }
          by false s = record {
            link = Some own.own.named;
            messages = none x own.own.named new;
            bound = λ goes. absurd (let clash : true ≡ false = sym over ∙ goes in cc);
            named = λ k. absurd (let clash : true ≡ false = sym k ∙ s in cc);
            itself = λ r. record {
              number = own.own.named;
              is = refl;
              crossed = subst
                  (λ (c : Command). HasCrossed going x.host x.peer x.own_stamp c (crossings_of moments))
                  (rts_is x.socket x.foreign own.own.named r) own.own.crossed;
            };
            room = λ k goes. absurd (let clash : true ≡ false = sym over ∙ goes in cc);
            within = λ k. unsent x own.own.named new;
          }
        begun x own there new false goes =
            let o : HasOpenEnd (program x.host moments) x = live moments x own mixed there goes in
            record {
              link = o.end.link;
              messages = none x (link_of o.end.link) new;
              bound = λ on. each_weaker (λ (z : Entry). is_mine_on x.socket z ≡ true → z ≡ o.end)
                  (Bound x o.end.link) (pair_with x.peer (program x.host moments).peers).entries
                  (λ z k mine socket asked partner. ap (λ (w : Entry). w.link)
                  (k (rw (mine, eq-eqb z.own x.socket socket) refl)))
                  (one_passes (is_mine_on x.socket) o.end (pair_with x.peer (program x.host moments).peers).entries
                  o.one);
              named = λ s. end_linked moments mixed x own o s;
              itself = λ r. end_said moments mixed x own o r;
              room = λ s on. by_length moments x own x moments
                  (always orders strange hosts x own.plain s new moments mixed);
              within = λ s. unsent x (link_of o.end.link) new;
            }

        one : (x : Life) → IsOwn strange (crossings_of moments) x
            → Known (λ h. program h moments) (crossings_of moments) x
            → Contains (mixed_kept strange moments).book.lives x
            → Counted (crossings_of moments) (program x.host moments) x
        one x own (inl new) there = begun x own there new x.ended refl
        one x own (inr c) there = c

  all_counted : (moments : List Moment) → IsMixed strange hosts moments
      → Each (λ (x : Life). Counted (crossings_of moments) (program x.host moments) x)
      (mixed_kept strange moments).book.lives
  all_counted [] mixed = tt
  all_counted (y ∷ moments) mixed = settle (y ∷ moments) mixed
      (by (strange (host_in y)) refl
      (all_counted moments (older orders strange hosts y moments mixed))) where
        by : (b : Bool) → strange (host_in y) ≡ b
            → Each (λ (x : Life). Counted (crossings_of moments) (program x.host moments) x)
            (mixed_kept strange moments).book.lives
            → Each (Known (λ h. program h (y ∷ moments)) (crossings_of (y ∷ moments)))
            (if b then crossed_only y (mixed_kept strange moments) else all_told (host_in y) (notices_by y moments)
            (kept_by y (mixed_kept strange moments))).book.lives
        by true on old = aside moments (older orders strange hosts y moments mixed) old y mixed
        by false off old = after moments (older orders strange hosts y moments mixed) old y mixed off

  pub is_carried : (moments : List Moment) → IsMixed strange hosts moments → (x : Life)
      → Contains (mixed_kept strange moments).book.lives x → IsCarried (crossings_of moments) x
  is_carried moments mixed x there =
      let c : Counted (crossings_of moments) (program x.host moments) x = each_in
      (λ (z : Life). Counted (crossings_of moments) (program z.host moments) z)
      (mixed_kept strange moments).book.lives x
      there (all_counted moments mixed) in
      record {
        link = link_of c.link;
        messages = c.messages;
        named = λ s. (let w : IsLinked moments x c.link = c.named s in
            subst (IsNamed (crossings_of moments) x) (sym (ap link_of w.is)) w.crossed);
        within = λ s. record { messages = (c.within s).0; bits = (c.within s).1 };
        itself = λ r. (let w : IsSaid moments x c.link = c.itself r in
            subst (NamesItself (crossings_of moments) x) (sym (ap link_of w.is)) w.crossed);
      }
