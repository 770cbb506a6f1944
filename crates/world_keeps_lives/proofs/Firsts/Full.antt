-- A sending life that isn't over counts all that went out on its link since it began; and each life was there since
-- then.
use Rattle.world_keeps_lives.proofs.Common.{max-le, ltb-true, ltb-false, length-append, Contains, Flow, Crossing, HostMessage, same_flow, same_flow-true, Moment, crossings_of, Life, begun, AreOurs, Network}
use Rattle.std.proofs.Common.{◌≡◌, ◌⊎◌, inl, inr, ℕ, zero, suc, ◌+◌, ◌<◌, ◌≤◌, ◌==◌, ◌&&◌, nat_lt, max, Bool, true, false, if◌then◌else◌, List, [], ◌∷◌, ◌++◌, map, drop, length, Option, Some, refl, ap, sym, subst, ◌∙◌, arith, ◌-◌}
use Rattle.promise.specs.Formed.{CrossedAt, text_of, texts_for, texts_on, flow_of, link_of, texts_of}
use Rattle.promise.specs.Safe.{before, receives, last_out}
use Rattle.interface.specs.declared.crossing.Crossing.TheVariants as crossing
use Rattle.world_keeps_lives.proofs.Facts.{no}
use Rattle.world_keeps_lives.proofs.Firsts.Books.{good}
use Rattle.world_keeps_lives.proofs.Firsts.Ends.{Apart, Good, IsGrown, Lawful, Together, Tracked, flow_link, lives_in}
use Rattle.world_keeps_lives.proofs.Firsts.Ends.{ours}
use Rattle.world_keeps_lives.proofs.Firsts.Lists.{After, From, Pairwise, from_map, life_of}
use Rattle.world_keeps_lives.proofs.Formed.{link_is}
use Rattle.world_keeps_lives.proofs.Grounds.{crossed_below}
use Rattle.world_keeps_lives.proofs.Firsts.Linked.{IsSentIn, Linked}
use Rattle.world_keeps_lives.proofs.Firsts.Texts.{before_here, before_still, texts_none, texts_one, texts_same}
use Rattle.world_keeps_lives.proofs.Walk.Rules.{Each, each_in, each_of, each_weaker}

-- ---- the last of the texts that went out on a flow

-- where it did: none went out on the flow since, and one fewer before it
pub record Latest (f : Flow) (a b : ℕ) (log : List Crossing) : Type 0 where
  pub place : ℕ
  pub message : HostMessage
  pub crossed : CrossedAt place (crossing.Out message) log
  pub flow : message.flow ≡ f
  pub last : last_out f log ≡ Some place
  pub own : a < place
  pub partner : b < place
  pub older : length (texts_of false f a b log) ≡ length (texts_of false f a b (before place log)) + 1

module _ (f : Flow) (a b : ℕ) where
  latest_still : (c : Crossing) (log : List Crossing) → text_of false f c ≡ [] → last_out f (c ∷ log) ≡ last_out f log
      → Latest f a b log → Latest f a b (c ∷ log)
  latest_still c log none same k = record {
    place = k.place;
    message = k.message;
    crossed = inr k.crossed;
    flow = k.flow;
    last = same ∙ k.last;
    own = k.own;
    partner = k.partner;
    older = ap (λ (ts : List (List Bool)). length ts) (texts_same false f a b c log none) ∙ k.older
        ∙ ap (λ (xs : List Crossing). length (texts_of false f a b xs) + 1) (sym (before_still k.place c log
        (let less : k.place < length log = crossed_below k.place _ log k.crossed in
        omega (arith, less))));
  }

  latest_here : (m : HostMessage) (log : List Crossing) → same_flow f m.flow ≡ true → a < length log → b < length log
      → Latest f a b (crossing.Out m ∷ log)
  latest_here m log is after behind =
      let one : texts_of false f a b (crossing.Out m ∷ log) ≡ texts_of false f a b log ++ m.text ∷ [] =
      texts_one false f a b (crossing.Out m) log m.text after behind (rw is refl) in
      record {
        place = length log;
        message = m;
        crossed = inl (refl, refl);
        flow = sym (same_flow-true f m.flow is);
        last = rw is refl;
        own = after;
        partner = behind;
        older = ap (λ (ts : List (List Bool)). length ts) one ∙ length-append (texts_of false f a b log) (m.text ∷ [])
            ∙ ap (λ (xs : List Crossing). length (texts_of false f a b xs) + 1) (sym (before_here
            _ log));
      }

  latest_early : (c : Crossing) (log : List Crossing) → length log ≤ max a b
      → 1 ≤ length (texts_of false f a b (c ∷ log)) → Latest f a b (c ∷ log)
  latest_early c log early some =
      let none : texts_of false f a b (c ∷ log) ≡ [] = texts_none false f a b (c ∷ log) (omega (arith, early)) in
      let zero_is : length (texts_of false f a b (c ∷ log)) ≡ 0 = ap (λ (ts : List (List Bool)). length ts) none in
      absurd (omega (arith, some, zero_is))

  pub latest : (log : List Crossing) → 1 ≤ length (texts_of false f a b log) → Latest f a b log
  latest [] some = absurd (omega (arith, some))
  latest (c ∷ log) some = by c refl (latest log) where
    still : (d : Crossing) → c ≡ d → text_of false f d ≡ [] → last_out f (d ∷ log) ≡ last_out f log
        → (1 ≤ length (texts_of false f a b log) → Latest f a b log) → Latest f a b (c ∷ log)
    still d is none same rest =
        let quiet : text_of false f c ≡ [] = ap (text_of false f) is ∙ none in
        let shorter : length (texts_of false f a b (c ∷ log)) ≡ length (texts_of false f a b log) =
        ap (λ (ts : List (List Bool)). length ts) (texts_same false f a b c log quiet) in
        latest_still c log quiet (ap (λ (e : Crossing). last_out f (e ∷ log)) is
        ∙ same) (rest (omega (arith, some, shorter)))

    out : (m : HostMessage) → c ≡ crossing.Out m → same_flow f m.flow ≡ true → Latest f a b (c ∷ log)
    out m is same = at (nat_lt a (length log)) (nat_lt b (length log)) refl refl where
      at : (v w : Bool) → nat_lt a (length log) ≡ v → nat_lt b (length log) ≡ w → Latest f a b (c ∷ log)
      at true true i j = subst (λ (e : Crossing). Latest f a b (e ∷ log)) (sym is) (latest_here m log same (ltb-true a
          (length log) i) (ltb-true b (length log) j))
      at false w i j = latest_early c log (let less : length log ≤ a =
          ltb-false a (length log) i in omega (arith, less)) some
      at true false i j = latest_early c log (let less : length log ≤ b =
          ltb-false b (length log) j in omega (arith, less)) some

    by : (d : Crossing) → c ≡ d → (1 ≤ length (texts_of false f a b log) → Latest f a b log) → Latest f a b (c ∷ log)
    by (crossing.Out m) is rest = sent _ refl where
      sent : (v : Bool) → same_flow f m.flow ≡ v → Latest f a b (c ∷ log)
      sent true same = out m is same
      sent false other = still (crossing.Out m) is (rw other refl) (rw other refl) rest
    by (crossing.In m) is rest = still (crossing.In m) is refl refl rest
    by (crossing.Answer kind g) is rest = still (crossing.Answer kind g) is refl refl rest
    by (crossing.Down h) is rest = still (crossing.Down h) is refl refl rest
    by (crossing.Up h) is rest = still _ is refl refl rest

-- ---- fewer went out before an earlier place

fewer : (comes : Bool) (f : Flow) (a b n k : ℕ) (log : List Crossing) → n ≤ k
    → length (texts_of comes f a b (drop k log)) ≤ length (texts_of comes f a b (drop n log))
fewer comes f a b zero zero log less = omega arith
fewer comes f a b (suc n) zero log less = absurd (omega (arith, less))
fewer comes f a b zero (suc k) [] less = omega arith
fewer comes f a b (suc n) (suc k) [] less = omega arith
fewer comes f a b (suc n) (suc k) (c ∷ log) less = fewer comes f a b n k log (omega (arith, less))
fewer comes f a b zero (suc k) (c ∷ log) less =
    let rest : length (texts_of comes f a b (drop k log)) ≤ length (texts_of comes f a b (drop 0 log)) =
    fewer comes f a b 0 k log (omega arith) in
    let all : length (texts_of comes f a b log ++ new) ≡ length (texts_of comes f a b log) + length new =
    length-append (texts_of comes f a b log) new in
    omega (arith, rest, all) where
      new : List (List Bool)
      new = if nat_lt a (length log) && nat_lt b (length log) then text_of comes f c else []

-- ---- two of a list

after_each : (R : Linked → Linked → Type 0) (p : Linked) (ps : List Linked) → After R p ps
    → Each (λ (q : Linked). R p q) ps
after_each R p [] h = tt
after_each R p (q ∷ ps) h = (h.0, after_each R p ps h.1)

first_or : (z p : Linked) (zs : List Linked) → Contains (z ∷ zs) p → (p ≡ z) ⊎ Contains zs p
first_or z p zs there =
    each_in (λ (y : Linked). (y ≡ z) ⊎ Contains zs y) (z ∷ zs) p there (
      inl refl,
      each_weaker _ _ zs (λ y i. inr i) (each_of zs),
    )

in_order : (R : Linked → Linked → Type 0) (ps : List Linked) → Pairwise R ps → (p q : Linked) → Contains ps p
    → Contains ps q → (p ≡ q) ⊎ (R p q ⊎ R q p)
in_order R [] h p q i j = absurd (let less : i.0 < 0 = i.1 in omega (arith, less))
in_order R (z ∷ zs) h p q i j = by (first_or z p zs i) (first_or z q zs j) (λ k n. in_order R zs h.1 p q k n) where
  by : (p ≡ z) ⊎ Contains zs p → (q ≡ z) ⊎ Contains zs q → (Contains zs p → Contains zs q → (p ≡ q) ⊎ (R p q ⊎ R q p))
      → (p ≡ q) ⊎ (R p q ⊎ R q p)
  by (inl e) (inl g) rest = inl (e ∙ sym g)
  by (inl e) (inr k) rest = inr (inl (subst (λ (w : Linked). R w q) (sym e) (each_in _ zs q k
      (after_each R z zs h.0))))
  by (inr k) (inl g) rest = inr (inr (subst (λ (w : Linked). R w p) (sym g) (each_in _ zs p k
      (after_each R z zs h.0))))
  by (inr k) (inr n) rest = rest k n

-- ---- a life that isn't over

module _ (hosts : Network) (given : Together hosts) (ms : List Moment) (l : Lawful hosts ms) where
  abbrev log : List Crossing
  log = crossings_of ms

  module _ (g : Good hosts ms) (p : Linked) (two : AreOurs hosts p.life.host p.life.peer) (there : Contains g.links p)
      (t : Tracked ms p) (goes : p.life.ended ≡ false) (kind : receives p.life ≡ false) where
    sends_to : flow_of p.life p.link
        ≡ record { source = p.life.host; destination = p.life.peer; link = record { 0 = p.link } }
    sends_to =
        ap (λ (v : Bool). if v
        then record { source = p.life.peer; destination = p.life.host; link = record { 0 = p.link } }
        else record { source = p.life.host; destination = p.life.peer; link = record { 0 = p.link } }) kind

    abbrev count : List Crossing → ℕ
    count older = length (texts_of false (flow_of p.life p.link) p.life.own_stamp p.life.partner_stamp older)

    enough : p.life.messages ≤ count (crossings_of ms)
    enough = subst (λ (v : Bool). p.life.messages ≤ length (texts_of v
        (flow_of p.life p.link) p.life.own_stamp p.life.partner_stamp (crossings_of ms))) kind t.first.enough

    module _ (k : Latest (flow_of p.life p.link) p.life.own_stamp p.life.partner_stamp (crossings_of ms)) (q : Linked)
        (s : IsSentIn (crossings_of ms) k.place k.message q) where
      on_one : flow_of p.life p.link ≡ flow_of q.life q.link
      on_one = sym k.flow ∙ s.flow

      itself : p ≡ q → count (crossings_of ms) ≤ p.life.messages
      itself e =
          let c : length (texts_for p.life p.link (before k.place (crossings_of ms))) < p.life.messages =
          subst (λ (z : Linked). length (texts_for z.life z.link (before k.place
          (crossings_of ms))) < z.life.messages) (sym e) s.counted in
          let d : count (before k.place (crossings_of ms)) < p.life.messages =
          subst (λ (v : Bool). length (texts_of v (flow_of p.life p.link) p.life.own_stamp p.life.partner_stamp
          (before k.place (crossings_of ms))) < p.life.messages) kind c in
          let older : count (crossings_of ms) ≡ count (before k.place (crossings_of ms)) + 1 = k.older in
          omega (arith, d, older)

      later : Apart (crossings_of ms) p q → count (crossings_of ms) ≤ p.life.messages
      later apart = elim (apart kind s.sending on_one) [
        | inl none ↦ absurd (let zero_is : q.life.messages ≡ 0 =
            none.0 in let c : length (texts_for q.life q.link (before k.place (crossings_of ms))) < q.life.messages =
            s.counted in omega (arith, zero_is, c))
        | inr over ↦ no p.life.ended over.0 goes
      ]

      sooner : Apart (crossings_of ms) q p → count (crossings_of ms) ≤ p.life.messages
      sooner apart = elim (apart s.sending kind (sym on_one)) [
        | inl none ↦ no p.life.ended none.1 goes
        | inr over ↦
            (let c : length (texts_for q.life q.link (before k.place (crossings_of ms))) < q.life.messages =
            s.counted in
            let all : q.life.messages ≤ length (texts_for q.life q.link (before (begun p.life) (crossings_of ms))) =
            over.1 in
            let below : begun p.life ≤ k.place = max-le (let o : p.life.own_stamp < k.place =
            k.own in omega (arith, o)) (let o : p.life.partner_stamp < k.place = k.partner in omega (arith, o)) in
            let less : length (texts_for q.life q.link (before (begun p.life) (crossings_of ms))) ≤ length
            (texts_for q.life q.link (before k.place (crossings_of ms))) =
            fewer _ _ q.life.own_stamp q.life.partner_stamp _ _ (crossings_of ms) (omega
            (arith, below)) in
            absurd (omega (arith, c, all, less)))
      ]

    most : count (crossings_of ms) ≤ p.life.messages
    most = by (count (crossings_of ms)) refl where
      by : (n : ℕ) → count (crossings_of ms) ≡ n → count (crossings_of ms) ≤ p.life.messages
      by zero e = omega (arith, e)
      by (suc n) e =
          let k : Latest (flow_of p.life p.link) p.life.own_stamp p.life.partner_stamp (crossings_of ms) =
          latest _ p.life.own_stamp p.life.partner_stamp (crossings_of ms) (omega (arith, e)) in
          let off : (k.message.flow.link.0 == 0) ≡ false = ap (λ (f : Flow). f.link.0 == 0) k.flow
          ∙ ap (λ (n : ℕ). n == 0) (flow_link p.life p.link) ∙ t.other in
          let between : AreOurs hosts k.message.flow.source k.message.flow.destination =
          subst (λ (f : Flow). AreOurs hosts f.source f.destination) (sym (k.flow ∙ sends_to)) two in
          let s : (q : Linked) × Contains g.links q × IsSentIn (crossings_of ms) k.place k.message q =
          g.sent k.place k.message between k.crossed off in
          elim (in_order _ g.links g.apart p s.0 there s.1) [
            | inl e ↦ itself k s.0 s.2 e
            | inr two ↦ elim two [
              | inl apart ↦ later k s.0 s.2 apart
              | inr apart ↦ sooner k s.0 s.2 apart
            ]
          ]

    whole : p.life.messages ≡ length (texts_on p.life (link_of (crossings_of ms) p.life) (crossings_of ms))
    whole =
        let low : p.life.messages ≤ count (crossings_of ms) = enough in
        let high : count (crossings_of ms) ≤ p.life.messages = most in
        let same : p.life.messages ≡ count (crossings_of ms) = omega (arith, low, high) in
        same ∙ ap (λ (v : Bool). length (texts_of v (flow_of p.life p.link) p.life.own_stamp p.life.partner_stamp
        (crossings_of ms))) (sym kind)
        ∙ ap (λ (o : Option ℕ). length (texts_on p.life o (crossings_of ms)))
        (sym (link_is hosts ms l p two t.first.asked))

  abbrev HasAll : Life → Type 0
  HasAll x = x.ended ≡ false → receives x ≡ false → x.messages
      ≡ length (texts_on x (link_of (crossings_of ms) x) (crossings_of ms))

  pub full : (x : Life) → Contains (lives_in hosts ms) x → x.ended ≡ false → receives x ≡ false
      → x.messages ≡ length (texts_on x (link_of (crossings_of ms) x) (crossings_of ms))
  full x there =
      let g : Good hosts ms = good hosts given ms l in
      let f : From life_of g.links x = from_map life_of g.links x (subst (λ (ls : List Life). Contains ls x)
      (sym g.all) there) in
      let t : Tracked ms f.one = each_in _ g.links f.one f.there g.tracked in
      let two : AreOurs hosts f.one.life.host f.one.life.peer =
      ours hosts given ms l f.one.life (subst (λ (z : Life). Contains (lives_in hosts ms) z) (sym f.is) there) in
      subst HasAll f.is (whole g f.one two f.there t)

-- ---- a life that had begun before

pub record WasThere (hosts : Network) (ms : List Moment) (x : Life) : Type 0 where
  pub life : Life
  pub there : Contains (lives_in hosts ms) life
  pub host : x.host ≡ life.host
  pub peer : x.peer ≡ life.peer
  pub socket : x.socket ≡ life.socket
  pub foreign : x.foreign ≡ life.foreign
  pub own : x.own_stamp ≡ life.own_stamp
  pub partner : x.partner_stamp ≡ life.partner_stamp

module _ (hosts : Network) (given : Together hosts) (y : Moment) (ms : List Moment)
    (l : Lawful hosts (y ∷ ms)) where
  abbrev Were : Life → Type 0
  Were x = x.own_stamp < length (crossings_of ms) → x.partner_stamp < length (crossings_of ms) → WasThere hosts ms x

  from_grown : (p : Linked) → IsGrown hosts (y ∷ ms) p → Were p.life
  from_grown p (inl w) own partner = record {
    life = w.one.life;
    there = w.there;
    host = w.host;
    peer = w.peer;
    socket = w.socket;
    foreign = w.foreign;
    own = w.own;
    partner = w.partner;
  }
  from_grown p (inr now) own partner = by (length (crossings_of ms)) refl where
    by : (n : ℕ) → length (crossings_of ms) ≡ n → WasThere hosts ms p.life
    by zero e = absurd (omega (arith, own, e))
    by (suc n) e =
        let top : max p.life.own_stamp p.life.partner_stamp ≤ n =
        max-le (omega (arith, own, e)) (omega (arith, partner, e)) in
        let is : max p.life.own_stamp p.life.partner_stamp ≡ length (crossings_of ms) = now in
        absurd (omega (arith, top, is, e))

  pub were_there : (x : Life) → Contains (lives_in hosts (y ∷ ms)) x → Were x
  were_there x there =
      let g : Good hosts (y ∷ ms) = good hosts given (y ∷ ms) l in
      let f : From life_of g.links x = from_map life_of g.links x (subst (λ (ls : List Life). Contains ls x)
      (sym g.all) there) in
      subst Were f.is (from_grown f.one (each_in _ g.links f.one f.there g.grown))
