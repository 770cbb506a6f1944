-- The messages of each life are the first on its link, and each message that goes out is one of a life: from one moment to the next.
use Rattle.world_keeps_lives.proofs.Common.{Contains, eqb-true, map-append, Host, same_host, Crossing, HostMessage, same_host-refl, same_host-true, not_true, contains_head, contains_tail, is_mine_on, is_open, Entry, both, AreTwo, Name, SafePartners, before, own_request, receives, Asked, Crossed, IsNext, Moment, places, program, crossings_of, Amount, Life, Coupled, places_same, coupled, begun, HasOpenEnd, mine_on, AreOurs, Network, mixed_kept}
use Rattle.std.proofs.Common.{◌≡◌, ◌⊎◌, inl, inr, ℕ, suc, ◌+◌, ◌<◌, ◌≤◌, ◌==◌, ◌&&◌, max, not, Bool, true, false, List, [], ◌∷◌, ◌++◌, map, length, Some, refl, ap, sym, subst, ◌∙◌, arith, eq-eqb}
use Rattle.std.proofs.Math.Nat.{max-le, le-max_left, le-max_right}
use Rattle.std.proofs.lemmas.List.Elements.{Contains-append_left, Contains-append_right}
use Rattle.net_sim.specs.Book.{carried, changed_when, lives_at, where_it}
use Rattle.promise.specs.Formed.{CrossedAt, coming, data_in, going, text_of, texts_for, flow_of}
use Rattle.world_keeps_pairing.proofs.lemmas.{in_book, queued_commands, safe_partners, served_in, two_in_book}
use Rattle.interface.specs.declared.crossing.Crossing.TheVariants as crossing
use Rattle.world_keeps_lives.proofs.Facts.{no}
use Rattle.world_keeps_lives.proofs.Calms.{Born, Calm, kept_as, kept_so}
use Rattle.world_keeps_lives.proofs.Firsts.Lists.{After, AreDistinct, From, Pairwise, after_all, all_distinct, each_changed, each_two, from_map, life_of, map_life, mapped, pairs_all, pairs_append, pairs_both, pairs_changed, two_in}
use Rattle.world_keeps_lives.proofs.Firsts.Ends.{Apart, Together, Good, Held, IsGrown, Lawful, Owner, Tracked, answered_before, asked_before, at_end, begun_before, ends_in, held_begins, held_may, held_rules, is_end, linked_off, live_now, lives_in, never_two, ours, owned}
use Rattle.world_keeps_lives.proofs.Begun.{Begun, Bound, begins, in_filter, mine_true, nobody}
use Rattle.world_keeps_lives.proofs.Grounds.{Nothing, crossed_below, step_ends}
use Rattle.world_keeps_lives.proofs.Firsts.Linked.{IsFirst, IsSentIn, Linked, all_data}
use Rattle.world_keeps_lives.proofs.Walk.Rules.{Each, each_append, each_in, each_of, each_weaker}
use Rattle.world_keeps_lives.proofs.Stamps.{HasLife, Now}
use Rattle.world_keeps_lives.proofs.Firsts.Texts.{IsFull, before_all, before_here, before_still, first_more, first_still, full_more, take_whole, texts_none, texts_same}

-- ---- one moment more

first_later : (y : Moment) (ms : List Moment) (p : Linked) → IsFirst (crossings_of ms) p
    → IsFirst (crossings_of (y ∷ ms)) p
first_later (Crossed c) ms p f = first_still c _ p f
first_later (Asked h r) ms p f = f

before_later : (y : Moment) (ms : List Moment) (place : ℕ) → place ≤ length (crossings_of ms)
    → before place (crossings_of (y ∷ ms)) ≡ before place (crossings_of ms)
before_later (Crossed c) ms place less = before_still place c _ less
before_later (Asked h r) ms place less = refl

before_now : (y : Moment) (ms : List Moment)
    → before (length (crossings_of ms)) (crossings_of (y ∷ ms)) ≡ crossings_of ms
before_now (Crossed c) ms = before_here c _
before_now (Asked h r) ms = before_all _

length_now : (y : Moment) (ms : List Moment) → length (crossings_of (y ∷ ms)) ≤ suc (length (crossings_of ms))
length_now (Crossed c) ms = omega arith
length_now (Asked h r) ms = omega arith

full_later : (y : Moment) (ms : List Moment) (p : Linked)
    → ((d : Crossing) → y ≡ Crossed d → text_of (receives p.life) (flow_of p.life p.link) d ≡ [])
    → IsFull (crossings_of ms) p.life p.link → IsFull (crossings_of (y ∷ ms)) p.life p.link
full_later (Crossed c) ms p quiet f = f ∙ ap length (sym (texts_same _ _ p.life.own_stamp p.life.partner_stamp c (crossings_of ms) (quiet c refl)))
full_later (Asked h r) ms p quiet f = f

crossed_now : (y : Moment) (ms : List Moment) (place : ℕ) (m : HostMessage)
    → CrossedAt place (crossing.Out m) (crossings_of (y ∷ ms))
    → ((y ≡ Crossed (crossing.Out m)) × (place ≡ length (crossings_of ms))) ⊎ CrossedAt place (crossing.Out m) (crossings_of ms)
crossed_now (Crossed c) ms place m (inl i) = inl (ap (λ (d : Crossing). Crossed d) (sym i.0), i.1)
crossed_now (Crossed c) ms place m (inr i) = inr i
crossed_now (Asked h r) ms place m i = inr i

-- a life after a moment: what carries on is what it is
abbrev put : List Bool → ℕ → Amount → Amount → Bool → Life → Life
put bits messages granted returned ended x =
    record x { bits = bits; messages = messages; granted = granted; returned = returned; ended = ended }

module _ (hosts : Network) (given : Together hosts) (y : Moment) (ms : List Moment) (l : Lawful hosts ms)
    (late : Lawful hosts (y ∷ ms))
    (story : (m : HostMessage) → y ≡ Crossed (crossing.Out m) → hosts.strange m.flow.source ≡ false → IsNext (program m.flow.source ms) m)
    (g : Good hosts ms) where
  life_there : (p : Linked) → Contains g.links p → Contains (lives_in hosts ms) p.life
  life_there p there = subst (λ (xs : List Life). Contains xs p.life) g.all (mapped life_of g.links p there)

  -- what holds of each life with its link
  abbrev Known : Linked → Type 0
  Known p = Contains (lives_in hosts ms) p.life × Tracked ms p

  all_known : Each Known g.links
  all_known = each_two _ _ Known g.links (λ p there t. (life_there p there, t)) (each_of g.links) g.tracked

  partners : SafePartners (crossings_of (y ∷ ms)) (lives_in hosts (y ∷ ms))
  partners =
      let c : Coupled hosts (y ∷ ms) = coupled hosts late.0 (y ∷ ms) late.1 late.2 in
      safe_partners hosts (y ∷ ms) c.story c.run late.1 (served_in hosts (y ∷ ms) late.2) (lives_in hosts (y ∷ ms))
      (in_book hosts _) (two_in_book hosts _)

  -- ---- a life's end

  module _ (p : Linked) (there : Contains (lives_in hosts ms) p.life) (t : Tracked ms p) where
    two : AreOurs hosts p.life.host p.life.peer
    two = ours hosts given ms l p.life there

    below : (p.life.own_stamp < places ms) × (p.life.partner_stamp < places ms)
    below = (
      subst (λ (n : ℕ). p.life.own_stamp < n) (sym (places_same ms)) (asked_before ms p t),
      subst (λ (n : ℕ). p.life.partner_stamp < n) (sym (places_same ms)) (answered_before ms p t),
    )

    held_on : (N : Type 0) → (goes : p.life.ended ≡ false)
        → (is_open (at_end hosts given ms l p there t goes).end ≡ true → N)
        → Each (Held p.life p.link N) (ends_in p.life.host p.life.peer (y ∷ ms))
    held_on N goes shows =
        step_ends (Held p.life p.link N) Nothing p.life.host p.life.peer (held_rules p.life p.link N p.life.peer) (held_begins p.life p.link N) y ms (queued_commands hosts ms l.0 l.1 l.2 p.life.host p.life.peer two)
        (held_may p.life p.link N y ms p.life.host p.life.peer (λ m is from. story m is (subst (λ (g : Host). hosts.strange g ≡ false) from two.0)) below.0 below.1)
        (each_two _ _ _ _
        (λ e in_ends h mine own asked partner. (
          (h mine own asked partner).0,
          λ o. shows (subst (λ (f : Entry). is_open f ≡ true) (is_end hosts given ms l p.life (live_now hosts given ms l p.life there goes) e in_ends mine own) o),
        ))
        (each_of _) (t.held goes))

    -- the life after the moment
    tracked_as : (bits : List Bool) (messages : ℕ) (granted returned : Amount) (ended : Bool)
        → (p.life.ended ≡ true → ended ≡ true)
        → IsFirst (crossings_of (y ∷ ms)) (record p { life = put bits messages granted returned ended p.life })
        → ((goes : p.life.ended ≡ false) → is_open (at_end hosts given ms l p there t goes).end ≡ true → messages ≡ length (texts_for p.life p.link (crossings_of (y ∷ ms))))
        → Tracked (y ∷ ms) (record p { life = put bits messages granted returned ended p.life })
    tracked_as bits messages granted returned ended still first full = record {
      first = first;
      other = t.other;
      held = λ goes. held_on (messages ≡ length (texts_for p.life p.link (crossings_of (y ∷ ms)))) (before_it goes) (full _);
    } where
      before_it : ended ≡ false → p.life.ended ≡ false
      before_it e = by p.life.ended refl where
        by : (b : Bool) → p.life.ended ≡ b → p.life.ended ≡ false
        by true f = no ended (still f) e
        by false f = f

    first_kept : (granted returned : Amount) (ended : Bool) → IsFirst (crossings_of (y ∷ ms)) p
        → IsFirst (crossings_of (y ∷ ms)) (record p { life = kept_as granted returned ended p.life })
    first_kept granted returned ended f = record { asked = record { size = f.asked.size; own = f.asked.own; partner = f.asked.partner }; enough = f.enough; bits = f.bits }

  sent_as : (place : ℕ) (m : HostMessage) (p : Linked) (bits : List Bool) (messages : ℕ) (granted returned : Amount) (ended : Bool)
      → place < length (crossings_of ms) → p.life.messages ≤ messages → IsSentIn (crossings_of ms) place m p
      → IsSentIn (crossings_of (y ∷ ms)) place m (record p { life = put bits messages granted returned ended p.life })
  sent_as place m p bits messages granted returned ended less more s = record {
    sending = s.sending;
    flow = s.flow;
    own = s.own;
    partner = s.partner;
    counted =
        (let k : length (texts_for p.life p.link (before place (crossings_of ms))) < p.life.messages = s.counted in
        let same : length (texts_for p.life p.link (before place (crossings_of (y ∷ ms)))) ≡ length (texts_for p.life p.link (before place (crossings_of ms))) =
        ap (λ (log : List Crossing). length (texts_for p.life p.link log)) (before_later y ms place (omega (arith, less))) in omega (arith, k, same, more));
  }

  -- ---- all of them together

  -- of two sending lives on one flow the later one has nothing yet, if they aren't apart
  abbrev Pre : Linked → Linked → Type 0
  Pre p q =
      receives p.life ≡ false → receives q.life ≡ false → flow_of p.life p.link ≡ flow_of q.life q.link
      → (((q.life.messages ≡ 0) × (q.life.ended ≡ true)) ⊎ ((p.life.ended ≡ true) × (p.life.messages ≤ length (texts_for p.life p.link (before (begun q.life) (crossings_of (y ∷ ms)))))))
      ⊎ ((q.life.messages ≡ 0) × (p.life.messages ≤ length (texts_for p.life p.link (before (begun q.life) (crossings_of (y ∷ ms))))))

  finish : (links : List Linked) → map life_of links ≡ lives_in hosts (y ∷ ms) → Each (Tracked (y ∷ ms)) links
      → Each (IsGrown hosts (y ∷ ms)) links → Pairwise Pre links
      → ((place : ℕ) (m : HostMessage) → AreOurs hosts m.flow.source m.flow.destination → CrossedAt place (crossing.Out m) (crossings_of (y ∷ ms)) → (m.flow.link.0 == 0) ≡ false → (p : Linked) × Contains links p × IsSentIn (crossings_of (y ∷ ms)) place m p)
      → Good hosts (y ∷ ms)
  finish links all tracked grown pairs sent = record {
    links = links;
    all = all;
    tracked = tracked;
    grown = grown;
    apart = pairs_both Pre AreDistinct _ Now_known links resolved known pairs apart;
    sent = sent;
  } where
    Now_known : Linked → Type 0
    Now_known p = Contains (lives_in hosts (y ∷ ms)) p.life × Tracked (y ∷ ms) p

    known : Each Now_known links
    known = each_two (λ p. Contains links p) _ Now_known links (λ p there t. (subst (λ (xs : List Life). Contains xs p.life) all (mapped life_of links p there), t)) (each_of links) tracked

    apart : Pairwise AreDistinct links
    apart = all_distinct [] links (λ u v two. partners.own_once u v (subst (λ (xs : List Life). AreTwo xs u v) all two))

    resolved : (p q : Linked) → Now_known p → Now_known q → Pre p q → AreDistinct p q
        → Apart (crossings_of (y ∷ ms)) p q
    resolved p q i j pre other kind like flow = elim (pre kind like flow) [
      | inl a ↦ a
      | inr n ↦ by n p.life.ended q.life.ended refl refl
    ] where
      by : (q.life.messages ≡ 0) × (p.life.messages ≤ length (texts_for p.life p.link (before (begun q.life) (crossings_of (y ∷ ms)))))
          → (v w : Bool) → p.life.ended ≡ v → q.life.ended ≡ w
          → ((q.life.messages ≡ 0) × (q.life.ended ≡ true)) ⊎ ((p.life.ended ≡ true) × (p.life.messages ≤ length (texts_for p.life p.link (before (begun q.life) (crossings_of (y ∷ ms))))))
      by n v true e f = inl (n.0, f)
      by n true false e f = inr (e, n.1)
      by n false false e f = absurd (other (never_two hosts given (y ∷ ms) late p q i.0 j.0 i.1 j.1 kind like flow e f))

  -- ---- a moment of no data

  module _ (c : Calm (lives_in hosts ms) (places ms) (crossings_of (y ∷ ms)) (lives_in hosts ms) (lives_in hosts (y ∷ ms)))
      (quiet : (p : Linked) → (there : Contains (lives_in hosts ms) p.life) → (t : Tracked ms p) → (goes : p.life.ended ≡ false) → is_open (at_end hosts given ms l p there t goes).end ≡ true → (d : Crossing) → y ≡ Crossed d → text_of (receives p.life) (flow_of p.life p.link) d ≡ [])
      (control : (m : HostMessage) → y ≡ Crossed (crossing.Out m) → AreOurs hosts m.flow.source m.flow.destination → (m.flow.link.0 == 0) ≡ true) where
    abbrev calm_one : Linked → Linked
    calm_one p = record p { life = kept_so c.given c.back c.over p.life }

    calm_tracked : (p : Linked) → Known p → Tracked (y ∷ ms) (record p { life = kept_so c.given c.back c.over p.life })
    calm_tracked p k =
        tracked_as p k.0 k.1 p.life.bits p.life.messages (c.given p.life) (c.back p.life) (c.over p.life) (c.still p.life) (first_kept p k.0 k.1 (c.given p.life) (c.back p.life) (c.over p.life) (first_later y ms p k.1.first))
        (λ goes o. full_later y ms p (quiet p k.0 k.1 goes o) ((at_end hosts given ms l p k.0 k.1 goes).full o))

    -- ---- those that begin

    abbrev Newest : Linked → Type 0
    Newest q = (q.life.messages ≡ 0) × (begun q.life ≡ length (crossings_of ms))

    record Newly (x : Life) : Type 0 where
      one : Linked
      is : one.life ≡ x
      tracked : Tracked (y ∷ ms) one
      newest : Newest one

    latest : (a b n : ℕ) → a ≤ n → b ≤ n → (a ≡ n) ⊎ (b ≡ n) → max a b ≡ n
    latest a b n f h e =
        let top : max a b ≤ n = max-le f h in
        let left : a ≤ max a b = le-max_left a b in
        let right : b ≤ max a b = le-max_right a b in
        elim e [
          | inl i ↦ omega (arith, top, left, i)
          | inr i ↦ omega (arith, top, right, i)
        ]

    module _ (x : Life) (more : Contains c.more x)
        (b : Born (lives_in hosts ms) (places ms) (crossings_of (y ∷ ms)) x) where
      there : Contains (lives_in hosts (y ∷ ms)) x
      there = subst (λ (xs : List Life). Contains xs x) (sym c.is) (Contains-append_right (map (kept_so c.given c.back c.over) (lives_in hosts ms)) c.more x more)

      made : Begun (y ∷ ms) x
      made = begins hosts late.0 (y ∷ ms) late.1 late.2 x (ours hosts given (y ∷ ms) late x there) (in_book hosts _ x there).0 b.2

      -- no life has its own request yet
      name_is : (w : HasLife (lives_in hosts ms) (places ms) x.socket x.foreign x.own_stamp)
          → own_request w.life ≡ own_request x
      name_is w = ap (λ (n : ℕ). name n w.life.socket w.life.foreign) w.place ∙ ap (λ (n : ℕ). name x.own_stamp n w.life.foreign) w.socket ∙ ap (λ (n : ℕ). name x.own_stamp x.socket n) w.foreign_is where
        name : ℕ → ℕ → ℕ → Name
        name place own foreign = record { place = place; own = own; foreign = foreign }

      unknown : HasLife (lives_in hosts ms) (places ms) x.socket x.foreign x.own_stamp → ⊥
      unknown w =
          partners.own_once (kept_so c.given c.back c.over w.life) x
          (subst (λ (xs : List Life). AreTwo xs (kept_so c.given c.back c.over w.life) x) (sym c.is)
          (two_in _ c.more _ x (mapped _ _ w.life w.there) more)) (name_is w)

      just : begun x ≡ length (crossings_of ms)
      just =
          let a : x.own_stamp < length (crossings_of (y ∷ ms)) = crossed_below x.own_stamp _ _ b.2.own.crossed in
          let d : x.partner_stamp < length (crossings_of (y ∷ ms)) = crossed_below x.partner_stamp _ _ b.2.partner.crossed in
          let n : length (crossings_of (y ∷ ms)) ≤ suc (length (crossings_of ms)) = length_now y ms in
          latest x.own_stamp x.partner_stamp _ (omega (arith, a, n)) (omega (arith, d, n)) (which b.3) where
            which : Now (lives_in hosts ms) (places ms) x.socket x.foreign x.own_stamp x.partner_stamp
                → (x.own_stamp ≡ length (crossings_of ms)) ⊎ (x.partner_stamp ≡ length (crossings_of ms))
            which (inl e) = inl (e ∙ places_same ms)
            which (inr (inl e)) = inr (e ∙ places_same ms)
            which (inr (inr w)) = absurd (unknown w)

      none : (link : ℕ) → texts_for x link (crossings_of (y ∷ ms)) ≡ []
      none link =
          let n : length (crossings_of (y ∷ ms)) ≤ suc (length (crossings_of ms)) = length_now y ms in
          let k : max x.own_stamp x.partner_stamp ≡ length (crossings_of ms) = just in
          texts_none _ _ x.own_stamp x.partner_stamp (crossings_of (y ∷ ms)) (omega (arith, n, k))

      full : (link : ℕ) → IsFull (crossings_of (y ∷ ms)) x link
      full link = b.0 ∙ ap length (sym (none link))

      first : IsFirst (crossings_of (y ∷ ms)) (record { life = x; link = made.link })
      first = record {
        asked = made.asked;
        enough = (let e : x.messages ≡ length (texts_for x made.link (crossings_of (y ∷ ms))) = full made.link in omega (arith, e));
        bits = ap (all_data _) (take_whole x.messages _ (full made.link) ∙ none made.link) ∙ ap (λ (bs : List Bool). Some bs) (sym b.1);
      }

      begins_so : Newly x
      begins_so = record {
        one = record { life = x; link = made.link };
        is = refl;
        tracked = record {
          first = first;
          other = linked_off _ _ made.asked;
          held = λ goes. held_by (made.bound goes);
        };
        newest = (b.0, just);
      } where
        held_by : Each (Bound x made.link) (ends_in x.host x.peer (y ∷ ms))
            → Each (Held x made.link (IsFull (crossings_of (y ∷ ms)) x made.link)) (ends_in x.host x.peer (y ∷ ms))
        held_by h = each_weaker _ _ _ (λ e k mine own asked partner. (k mine own asked partner, λ o. full made.link)) h

    record AllBegun (xs : List Life) : Type 0 where
      ones : List Linked
      are : map life_of ones ≡ xs
      tracked : Each (Tracked (y ∷ ms)) ones
      newest : Each Newest ones

    all_begin : (xs : List Life) → ((x : Life) → Contains xs x → Contains c.more x)
        → Each (Born (lives_in hosts ms) (places ms) (crossings_of (y ∷ ms))) xs → AllBegun xs
    all_begin [] in_more born = record { ones = []; are = refl; tracked = tt; newest = tt }
    all_begin (x ∷ xs) in_more born =
        let one : Newly x = begins_so x (in_more x (contains_head x xs)) born.0 in
        let rest : AllBegun xs = all_begin xs (λ z k. in_more z (contains_tail x xs z k)) born.1 in
        record { ones = one.one ∷ rest.ones; are = ap (λ (z : Life). z ∷ map life_of rest.ones) one.is ∙ ap (λ (zs : List Life). x ∷ zs) rest.are; tracked = (one.tracked, rest.tracked); newest = (one.newest, rest.newest) }

    new : AllBegun c.more
    new = all_begin c.more (λ x k. k) c.born

    -- ---- so all are

    old_pair : (p q : Linked) → Known p → Known q → Apart (crossings_of ms) p q → Pre (calm_one p) (calm_one q)
    old_pair p q j k apart kind like flow = elim (apart kind like flow) [
      | inl e ↦ inl (inl (e.0, c.still q.life e.1))
      | inr e ↦
          inl (inr (c.still p.life e.0, subst (λ (log : List Crossing). p.life.messages ≤ length (texts_for p.life p.link log)) (sym (before_later y ms _ (begun_before ms q k.1))) e.1))
    ]

    cross_pair : (p q : Linked) → Known p → Newest q → Pre (calm_one p) q
    cross_pair p q k n kind like flow =
        inr (n.0, subst (λ (log : List Crossing). p.life.messages ≤ length (texts_for p.life p.link log)) (sym (ap (λ (place : ℕ). before place (crossings_of (y ∷ ms))) n.1 ∙ before_now y ms)) k.1.first.enough)

    new_pair : (p q : Linked) → Newest p → Newest q → Pre p q
    new_pair p q m n kind like flow = let e : p.life.messages ≡ 0 = m.0 in inr (n.0, omega (arith, e))

    calm_grown : (p : Linked) → Known p → IsGrown hosts (y ∷ ms) (calm_one p)
    calm_grown p k = inl (record {
      one = p;
      there = k.0;
      tracked = k.1;
      link = refl;
      host = refl;
      peer = refl;
      socket = refl;
      foreign = refl;
      own = refl;
      partner = refl;
      goes = λ e. by p.life.ended refl e;
    }) where
      by : (v : Bool) → p.life.ended ≡ v → c.over p.life ≡ false → v ≡ false
      by true f e = no (c.over p.life) (c.still p.life f) e
      by false f e = refl

    abbrev calm_links : List Linked
    calm_links = map calm_one g.links ++ new.ones

    calm_all : map life_of (map calm_one g.links ++ new.ones) ≡ lives_in hosts (y ∷ ms)
    calm_all =
        map-append life_of (map calm_one g.links) new.ones
        ∙ ap (λ (xs : List Life). xs ++ map life_of new.ones) (map_life calm_one _ (λ p. refl) g.links ∙ ap (map (kept_so c.given c.back c.over)) g.all)
        ∙ ap (λ (xs : List Life). map (kept_so c.given c.back c.over) (lives_in hosts ms) ++ xs) new.are ∙ sym c.is

    calm_sent : (place : ℕ) (m : HostMessage) → AreOurs hosts m.flow.source m.flow.destination
        → CrossedAt place (crossing.Out m) (crossings_of (y ∷ ms)) → (m.flow.link.0 == 0) ≡ false
        → (p : Linked) × Contains (map calm_one g.links ++ new.ones) p × IsSentIn (crossings_of (y ∷ ms)) place m p
    calm_sent place m between i off = elim (crossed_now y ms place m i) [
      | inl now ↦ no _ (control m now.0 between) off
      | inr was ↦
          (let s : (p : Linked) × Contains g.links p × IsSentIn (crossings_of ms) place m p = g.sent place m between was off in (
            calm_one s.0,
            Contains-append_left (map calm_one g.links) new.ones (calm_one s.0) (mapped calm_one g.links s.0 s.1),
            sent_as place m s.0 s.0.life.bits s.0.life.messages _ _ _ (crossed_below place _ _ was) (omega arith) s.2,
          ))
    ]

    pub good_calm : Good hosts (y ∷ ms)
    good_calm =
        finish calm_links calm_all
        (each_append _ _ new.ones (each_changed Known _ calm_one g.links calm_tracked all_known) new.tracked)
        (each_append _ _ new.ones (each_changed Known _ calm_one g.links calm_grown all_known) (each_weaker Newest _ new.ones (λ q n. inr n.1) new.newest))
        (pairs_append Pre _ new.ones (pairs_changed _ Pre Known calm_one g.links old_pair all_known g.apart) (pairs_all Pre Newest new.ones new_pair new.newest)
        (each_changed Known _ calm_one g.links (λ p k. after_all Pre Newest (calm_one p) new.ones (λ q n. cross_pair p q k n) new.newest) all_known)) calm_sent

  -- ---- a message of data

  module _ (d : Crossing) (is : y ≡ Crossed d) (h b : Host) (between : AreOurs hosts h b) (e : Entry) (text bits : List Bool)
      (at : Contains (ends_in h b ms) e) (opened : is_open e ≡ true)
      (lives_are : lives_in hosts (y ∷ ms) ≡ where_it (lives_at h e.own) (carried bits) (lives_in hosts ms))
      (hit : (x : Life) (link : ℕ) → x.host ≡ h → x.peer ≡ b → x.socket ≡ e.own → e.link ≡ Some link → (text_of (receives x) (flow_of x link) d ≡ text ∷ []) × (data_in (receives x) text ≡ Some bits))
      (missed : (p : Linked) → (there : Contains (lives_in hosts ms) p.life) → (t : Tracked ms p) → (goes : p.life.ended ≡ false) → is_open (at_end hosts given ms l p there t goes).end ≡ true → lives_at h e.own p.life ≡ false → text_of (receives p.life) (flow_of p.life p.link) d ≡ [])
      (sends_now : (m : HostMessage) → d ≡ crossing.Out m → (x : Life) (link : ℕ) → x.host ≡ h → x.peer ≡ b → x.socket ≡ e.own → e.link ≡ Some link → (receives x ≡ false) × (m.flow ≡ flow_of x link)) where
    abbrev data_one : Linked → Linked
    data_one p = record p { life = changed_when (lives_at h e.own p.life) (carried bits) p.life }

    owner : Owner hosts h b ms e
    owner = owned hosts given ms l h b between e at opened

    -- a life that takes part in it
    record Part (p : Linked) : Type 0 where
      goes : p.life.ended ≡ false
      host : p.life.host ≡ h
      peer : p.life.peer ≡ b
      socket : p.life.socket ≡ e.own
      link : e.link ≡ Some p.link
      full : IsFull (crossings_of ms) p.life p.link

    goes_at : (x : Life) → lives_at h e.own x ≡ true → x.ended ≡ false
    goes_at x f = not_true x.ended (both (same_host h x.host && x.socket == e.own) (not x.ended) f).1

    peer_at : (x : Life) → (o : HasOpenEnd (program x.host ms) x) → Contains (ends_in x.host b ms) e → x.socket ≡ e.own
        → x.peer ≡ b
    peer_at x o here socket = by (same_host b x.peer) refl where
      its : Contains (mine_on x.socket (ends_in x.host b ms)) e
      its = each_in (λ (f : Entry). is_mine_on x.socket f ≡ true → Contains (mine_on x.socket (ends_in x.host b ms)) f) (ends_in x.host b ms) e here (in_filter _ _) (mine_true x.socket e owner.mine (sym socket))

      by : (v : Bool) → same_host b x.peer ≡ v → x.peer ≡ b
      by true f = sym (same_host-true b x.peer f)
      by false f = nobody e (subst (λ (es : List Entry). Contains es e) (o.others b f) its)

    part : (p : Linked) → Known p → lives_at h e.own p.life ≡ true → Part p
    part p k f =
        let here : (same_host h p.life.host ≡ true) × ((p.life.socket == e.own) ≡ true) = both (same_host h p.life.host) (p.life.socket == e.own) (both (same_host h p.life.host && p.life.socket == e.own) (not p.life.ended) f).0 in
        let host : h ≡ p.life.host = same_host-true h p.life.host here.0 in
        let socket : p.life.socket ≡ e.own = eqb-true p.life.socket e.own here.1 in
        let goes : p.life.ended ≡ false = goes_at p.life f in
        let among : Contains (ends_in p.life.host b ms) e = subst (λ (x : Host). Contains (ends_in x b ms) e) host at in
        let peer : p.life.peer ≡ b = peer_at p.life (live_now hosts given ms l p.life k.0 goes) among socket in
        let same : e ≡ (at_end hosts given ms l p k.0 k.1 goes).end = is_end hosts given ms l p.life (live_now hosts given ms l p.life k.0 goes) e (subst (λ (x : Host). Contains (ends_in p.life.host x ms) e) (sym peer) among) owner.mine (sym socket) in
        record {
          goes = goes;
          host = sym host;
          peer = peer;
          socket = socket;
          link = ap (λ (x : Entry). x.link) same ∙ (at_end hosts given ms l p k.0 k.1 goes).link;
          full = (at_end hosts given ms l p k.0 k.1 goes).full (subst (λ (x : Entry). is_open x ≡ true) same opened);
        }

    one_tracked : (p : Linked) → Known p → (v : Bool) → lives_at h e.own p.life ≡ v
        → Tracked (y ∷ ms) (record p { life = changed_when v (carried bits) p.life })
    one_tracked p k true f =
        let w : Part p = part p k f in
        let s : (text_of (receives p.life) (flow_of p.life p.link) d ≡ text ∷ []) × (data_in (receives p.life) text ≡ Some bits) = hit p.life p.link w.host w.peer w.socket w.link in
        let more : IsFirst (d ∷ crossings_of ms) (record p { life = carried bits p.life }) = first_more d (crossings_of ms) p k.1.first w.full text bits (asked_before ms p k.1) (answered_before ms p k.1) s.0 s.1 in
        let count : IsFull (d ∷ crossings_of ms) (carried bits p.life) p.link = full_more d (crossings_of ms) p k.1.first w.full text bits (asked_before ms p k.1) (answered_before ms p k.1) s.0 s.1 in
        tracked_as p k.0 k.1 (p.life.bits ++ bits) (p.life.messages + 1) p.life.granted p.life.returned p.life.ended (λ x. x)
        (subst (λ (z : Moment). IsFirst (crossings_of (z ∷ ms)) (record p { life = carried bits p.life })) (sym is) more)
        (λ goes o. subst (λ (z : Moment). p.life.messages + 1 ≡ length (texts_for p.life p.link (crossings_of (z ∷ ms)))) (sym is) count)
    one_tracked p k false f =
        tracked_as p k.0 k.1 p.life.bits p.life.messages p.life.granted p.life.returned p.life.ended (λ x. x) (first_later y ms p k.1.first)
        (λ goes o. full_later y ms p (λ c same. subst (λ (z : Crossing). text_of (receives p.life) (flow_of p.life p.link) z ≡ []) (one_crossing c same) (missed p k.0 k.1 goes o f)) ((at_end hosts given ms l p k.0 k.1 goes).full o)) where
          one_crossing : (c : Crossing) → y ≡ Crossed c → d ≡ c
          one_crossing c same = let two : Crossed d ≡ Crossed c = sym is ∙ same in cc

    pair_one : (p q : Linked) → Known p → Known q → Apart (crossings_of ms) p q → (v w : Bool)
        → lives_at h e.own p.life ≡ v → lives_at h e.own q.life ≡ w
        → Pre (record p { life = changed_when v (carried bits) p.life }) (record q { life = changed_when w (carried bits) q.life })
    pair_one p q j k apart true w f i kind like flow = by w i kind like flow where
      by : (w : Bool) → lives_at h e.own q.life ≡ w
          → Pre (record p { life = carried bits p.life }) (record q { life = changed_when w (carried bits) q.life })
      by true i kind like flow = elim (apart kind like flow) [ inl a ↦ no q.life.ended a.1 (goes_at q.life i) | inr a ↦ no p.life.ended a.0 (goes_at p.life f) ]
      by false i kind like flow =
          elim (apart kind like flow) [ inl a ↦ inl (inl a) | inr a ↦ no p.life.ended a.0 (goes_at p.life f) ]
    pair_one p q j k apart false w f i kind like flow = by w i kind like flow where
      count : p.life.messages ≤ length (texts_for p.life p.link (before (begun q.life) (crossings_of ms)))
          → p.life.messages ≤ length (texts_for p.life p.link (before (begun q.life) (crossings_of (y ∷ ms))))
      count n = subst (λ (log : List Crossing). p.life.messages ≤ length (texts_for p.life p.link log)) (sym (before_later y ms _ (begun_before ms q k.1))) n

      by : (w : Bool) → lives_at h e.own q.life ≡ w → Pre p (record q { life = changed_when w (carried bits) q.life })
      by true i kind like flow = elim (apart kind like flow) [ inl a ↦ no q.life.ended a.1 (goes_at q.life i) | inr a ↦ inl (inr (a.0, count a.1)) ]
      by false i kind like flow =
          elim (apart kind like flow) [ inl a ↦ inl (inl a) | inr a ↦ inl (inr (a.0, count a.1)) ]

    data_all : map life_of (map data_one g.links) ≡ lives_in hosts (y ∷ ms)
    data_all = map_life data_one _ (λ p. refl) g.links ∙ ap (map (λ x. changed_when (lives_at h e.own x) (carried bits) x)) g.all ∙ sym lives_are

    sent_one : (place : ℕ) (m : HostMessage) (p : Linked) → place < length (crossings_of ms)
        → IsSentIn (crossings_of ms) place m p → (v : Bool)
        → IsSentIn (crossings_of (y ∷ ms)) place m (record p { life = changed_when v (carried bits) p.life })
    sent_one place m p less s true = sent_as place m p _ _ p.life.granted p.life.returned p.life.ended less (omega arith) s
    sent_one place m p less s false =
        sent_as place m p p.life.bits p.life.messages p.life.granted p.life.returned p.life.ended less (omega arith) s

    now_one : (m : HostMessage) → y ≡ Crossed (crossing.Out m) → (p : Linked) → Known p → (v : Bool)
        → lives_at h e.own p.life ≡ v → v ≡ true
        → IsSentIn (crossings_of (y ∷ ms)) (length (crossings_of ms)) m (record p { life = changed_when v (carried bits) p.life })
    now_one m same p k false f t = no false t refl
    now_one m same p k true f t =
        let w : Part p = part p k f in
        let s : (receives p.life ≡ false) × (m.flow ≡ flow_of p.life p.link) = sends_now m (let two : Crossed d ≡ Crossed (crossing.Out m) = sym is ∙ same in cc) p.life p.link w.host w.peer w.socket w.link in
        record {
          sending = s.0;
          flow = s.1;
          own = asked_before ms p k.1;
          partner = answered_before ms p k.1;
          counted = (let n : p.life.messages ≡ length (texts_for p.life p.link (crossings_of ms)) = w.full in
              let log : length (texts_for p.life p.link (before (length (crossings_of ms)) (crossings_of (y ∷ ms)))) ≡ length (texts_for p.life p.link (crossings_of ms)) = ap (λ (l : List Crossing). length (texts_for p.life p.link l)) (before_now y ms) in omega (arith, n, log));
        }

    data_sent : (place : ℕ) (m : HostMessage) → AreOurs hosts m.flow.source m.flow.destination
        → CrossedAt place (crossing.Out m) (crossings_of (y ∷ ms)) → (m.flow.link.0 == 0) ≡ false
        → (p : Linked) × Contains (map data_one g.links) p × IsSentIn (crossings_of (y ∷ ms)) place m p
    data_sent place m between i off = elim (crossed_now y ms place m i) [
      | inl now ↦
          (let f : From life_of g.links owner.life = from_map life_of g.links owner.life (subst (λ (xs : List Life). Contains xs owner.life) (sym g.all) owner.there) in
          let k : Known f.one = (life_there f.one f.there, each_in _ g.links f.one f.there g.tracked) in
          let at_it : lives_at h e.own f.one.life ≡ true = subst (λ (x : Life). lives_at h e.own x ≡ true) (sym f.is) its in (
            data_one f.one,
            mapped data_one g.links f.one f.there,
            subst (λ (n : ℕ). IsSentIn (crossings_of (y ∷ ms)) n m (data_one f.one)) (sym now.1) (now_one m now.0 f.one k _ refl at_it),
          ))
      | inr was ↦
          (let s : (p : Linked) × Contains g.links p × IsSentIn (crossings_of ms) place m p = g.sent place m between was off in (
            data_one s.0,
            mapped data_one g.links s.0 s.1,
            sent_one place m s.0 (crossed_below place _ _ was) s.2 (lives_at h e.own s.0.life),
          ))
    ] where
      its : lives_at h e.own owner.life ≡ true
      its =
          let a : same_host h owner.life.host ≡ true = subst (λ (x : Host). same_host h x ≡ true) (sym owner.host) (same_host-refl h) in
          let s : (owner.life.socket == e.own) ≡ true = eq-eqb owner.life.socket e.own (sym owner.socket) in
          rw (a, s, owner.goes) refl

    one_grown : (p : Linked) → Known p → (v : Bool)
        → IsGrown hosts (y ∷ ms) (record p { life = changed_when v (carried bits) p.life })
    one_grown p k true = inl (record { one = p; there = k.0; tracked = k.1; link = refl; host = refl; peer = refl; socket = refl; foreign = refl; own = refl; partner = refl; goes = λ e. e })
    one_grown p k false = inl (record { one = p; there = k.0; tracked = k.1; link = refl; host = refl; peer = refl; socket = refl; foreign = refl; own = refl; partner = refl; goes = λ e. e })

    pub good_data : Good hosts (y ∷ ms)
    good_data =
        finish _ data_all (each_changed Known _ data_one g.links (λ p k. one_tracked p k (lives_at h e.own p.life) refl) all_known)
        (each_changed Known _ data_one g.links (λ p k. one_grown p k (lives_at h e.own p.life)) all_known)
        (pairs_changed _ Pre Known data_one g.links (λ p q j k a. pair_one p q j k a (lives_at h e.own p.life) (lives_at h e.own q.life) refl refl) all_known g.apart) data_sent
