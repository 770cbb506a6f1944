-- Which message of its partner each one is that a receiving life counts: what is tested of numbers is so of places.
use Rattle.book_judge.proofs.Common.{cases_lt, ltb-true, eqb-true, and_from, false_from_ne_true, slice_get_within, take_all, EndsAt, ShowsLife, WithMatch, Finding, Host, Flow, Crossing, HostMessage, and_true, Life, texts_by, IsNth, AreNamed, FoundFirst, sent_by, since, Start, Taking}
use Rattle.std.proofs.Common.{◌≡◌, ℕ, suc, ◌+◌, ◌-◌, ◌<◌, ◌≤◌, ◌==◌, ◌&&◌, Bool, true, false, if◌then◌else◌, List, length, take, reverse, Option, Some, None, refl, ap, sym, subst, ◌∙◌, arith, inl, inr, eq-eqb, lt-ltb}
use Rattle.std.specs.Prelude.{option_map, max, nat_lt}
use Rattle.std.specs.List.{Contains, slice_get}
use Rattle.promise.specs.Formed.{CrossedAt, link_of, flow_of, texts_on}
use Rattle.promise.specs.Safe.{Match, Name, before, last_out, partner_request, receives}
use Rattle.interface.specs.declared.crossing.Crossing.TheVariants as crossing
use Rattle.promise.specs.Arrived.{IsCounted}
use Rattle.world_keeps_streams.specs.Sent.{EachWasSent, WasSent}
use Rattle.book_judge.specs.Broken.{first_sent}
use Rattle.book_judge.specs.Inside.Sent.{AllSent, SenderAt, SentAt, taking_at}
use Rattle.book_judge.specs.Inside.Starts.{AreStarts, IsStart, counts, counts_of}
use Rattle.book_judge.proofs.Crossed.Numbers.{message_nth, nth_message}
use Rattle.book_judge.proofs.Crossed.Sent.{count_since, sent_back, sent_forth}
use Rattle.book_judge.proofs.Crossed.TextsBy.{texts_less}
use Rattle.book_judge.proofs.Elements.{contains_place, get_take, get_took, place_contains}
use Rattle.book_judge.proofs.FirstLives.Strangers.{one_kind}
use Rattle.book_judge.proofs.Identities.Named.{crossed_there, got_there}
use Rattle.book_judge.proofs.Peace.{asked_of, fits_match, match_fits, one_some}

-- ---- the test

pub counts_true : (s : Start) (y : Life) (t : Taking) → counts s y t ≡ true
    → (s.link ≡ t.link) × (s.before < t.sent) × (t.sent - s.before - 1 ≡ t.nth) × (t.nth < y.messages)
counts_true s y t e =
    let u = and_true (s.link == t.link && nat_lt s.before t.sent && (t.sent - s.before - 1) == t.nth) (nat_lt t.nth y.messages) e in
    let v = and_true (s.link == t.link && nat_lt s.before t.sent) ((t.sent - s.before - 1) == t.nth) u.0 in
    let w = and_true (s.link == t.link) (nat_lt s.before t.sent) v.0 in (
      eqb-true s.link t.link w.0,
      ltb-true s.before t.sent w.1,
      eqb-true (t.sent - s.before - 1) t.nth v.1,
      ltb-true t.nth y.messages u.1,
    )

pub counts_is : (s : Start) (y : Life) (t : Taking) → s.link ≡ t.link → s.before < t.sent
    → t.sent - s.before - 1 ≡ t.nth → t.nth < y.messages → counts s y t ≡ true
counts_is s y t link low nth within =
    and_from (s.link == t.link && nat_lt s.before t.sent && (t.sent - s.before - 1) == t.nth) (nat_lt t.nth y.messages)
    (and_from (s.link == t.link && nat_lt s.before t.sent) ((t.sent - s.before - 1) == t.nth)
    (and_from (s.link == t.link) (nat_lt s.before t.sent) (eq-eqb s.link t.link link) (lt-ltb s.before t.sent low))
    (eq-eqb (t.sent - s.before - 1) t.nth nth))
    (lt-ltb t.nth y.messages within)

-- ---- flows

abbrev flow_by : Bool → Host → Host → ℕ → Flow
flow_by comes own peer link =
    if comes then record { source = peer; destination = own; link = record { 0 = link } }
    else record { source = own; destination = peer; link = record { 0 = link } }

-- those of two lives that match are one, on one link
one_flow : (log : List Crossing) (x y : Life) (link : ℕ) → Match log x y → receives y ≡ false → flow_of y link ≡ flow_of x link
one_flow log x y link m kind =
    ap (λ (b : Bool). flow_by b y.host y.peer link) kind
    ∙ ap (λ (h : Host). flow_by false h y.peer link) (sym m.peers.0)
    ∙ ap (λ (h : Host). flow_by false x.peer h link) m.peers.1
    ∙ ap (λ (b : Bool). flow_by b x.host x.peer link) (sym m.receiving)

link_is : (x : Life) (link : ℕ) → receives x ≡ true → (flow_of x link).link.0 ≡ link
link_is x link comes = ap (λ (b : Bool). (flow_by b x.host x.peer link).link.0) comes

on_flow : (x : Life) (o : Option ℕ) (link : ℕ) (f : Flow) → o ≡ Some link → option_map (flow_of x) o ≡ Some f
    → flow_of x link ≡ f
on_flow x o link f e g = let same : Some (flow_of x link) ≡ Some f = sym (ap (λ (p : Option ℕ). option_map (flow_of x) p) e) ∙ g in cc

sender_sends : (log : List Crossing) (x y : Life) → Match log x y → receives y ≡ false
sender_sends log x y m = false_from_ne_true (receives y) (λ comes. one_kind y comes m.sending)

-- ---- one life

module _ (log : List Crossing) (names : List Name) (lives : List Life) (starts : List (Option Start))
    (are : AreNamed (length lives) names lives (reverse log)) (begin : AreStarts (length lives) starts lives log)
    (x : Life) (a : Name) (s : Start) (asks : partner_request (reverse log) x ≡ Some a) (comes : receives x ≡ true)
    (is : IsStart log x (Some s)) where
  abbrev f : Flow
  f = flow_of x s.link

  -- the number that it has for the life, of a message that came in at a place
  number : (p : ℕ) → length (texts_on x (link_of (reverse log) x) (before p (reverse log)))
      ≡ length (texts_by true f (take p log)) - s.before
  number p = count_since log x s p is ∙ ap (λ (v : Bool). length (texts_by v f (take p log)) - s.before) comes

  start : s.before ≡ length (texts_by true f (take (since x) log))
  start = is.1 ∙ ap (λ (v : Bool). length (texts_by v f (take (since x) log))) comes

  -- what it counts came in after both its requests
  after : (n p : ℕ) → IsNth true f log n p → s.before ≤ n → since x ≤ p
  after n p nth from = elim (cases_lt p (since x)) [
    | inl less ↦
        (let next : length (texts_by true f (take (suc p) log)) ≡ suc n = nth.2 in
        let more : length (texts_by true f (take (suc p) log)) ≤ length (texts_by true f (take (since x) log)) =
        texts_less true f (suc p) (since x) log (omega (arith, less)) in
        absurd (omega (arith, next, more, start, from)))
    | inr ge ↦ ge
  ]

  -- a life that matches it, and counts a message as it does
  by_sender : (y : Life) (r : Start) (n p : ℕ) (m : HostMessage) → Contains lives y → Match (reverse log) x y
      → IsStart log y (Some r) → counts r y (taking_at log s x n p) ≡ true → f ≡ m.flow
      → length (texts_by true f (take p log)) ≡ n → WasSent (reverse log) lives p m x
  by_sender y r n p m there matches begins count on here =
      let t = counts_true r y (taking_at log s x n p) count in
      let kind : receives y ≡ false = sender_sends (reverse log) x y matches in
      let flow : flow_of y r.link ≡ f =
      ap (λ (l : ℕ). flow_of y l) t.0 ∙ one_flow (reverse log) x y s.link matches kind in
      let same : sent_by (flow_of y r.link) log p ≡ sent_by f log p = ap (λ (g : Flow). sent_by g log p) flow in
      let low : r.before < sent_by f log p = t.1 in
      let nth : sent_by f log p - r.before - 1 ≡ n - s.before = t.2 in
      let within : n - s.before < y.messages = t.3 in
      let o = sent_forth log y r begins kind p (n - s.before) (omega (arith, same, low, nth)) in
      let one : length (texts_on y (link_of (reverse log) y) (before o.0 (reverse log))) ≡ n - s.before = o.1.3 in
      record {
        sender = y;
        there = there;
        matches = matches;
        out = o.0;
        last = ap (λ (g : Flow). last_out g (before p (reverse log))) (sym (flow ∙ on)) ∙ o.1.0;
        counted = record {
          flow = ap (λ (l : Option ℕ). option_map (flow_of y) l) begins.0 ∙ ap (λ (g : Flow). Some g) (flow ∙ on);
          own = o.1.1;
          partner = o.1.2;
          counted = omega (arith, one, within);
        };
        nth = (let num : length (texts_on x (link_of (reverse log) x) (before p (reverse log))) ≡ length (texts_by true f (take p log)) - s.before = number p in
            omega (arith, one, num, here));
      }

  found : (n p : ℕ) (m : HostMessage) → f ≡ m.flow → length (texts_by true f (take p log)) ≡ n
      → (i : ℕ) × SenderAt starts (taking_at log s x n p) a x names lives i → WasSent (reverse log) lives p m x
  found n p m on here (i, (b, y, e, g, fit, count)) =
      let c = asked_of names lives (reverse log) i y are g in
      let same : c.0 ≡ b = one_some (slice_get names i) c.0 b c.1 e in
      let matches : Match (reverse log) x y =
      fits_match (reverse log) a x b y asks (c.2 ∙ ap (λ (z : Name). Some z) same) fit in
      let r = begin.each i y (slice_get_within lives i y g) g in
      by r.0 r.2 (sym (ap (λ (z : Option (Option Start)). counts_of z y (taking_at log s x n p)) r.1) ∙ count) matches
    where
      by : (o : Option Start) → IsStart log y o → counts_of (Some o) y (taking_at log s x n p) ≡ true
          → Match (reverse log) x y → WasSent (reverse log) lives p m x
      by None begins h matches = absurd (let both : false ≡ true = h in cc)
      by (Some r) begins h matches = by_sender y r n p m (place_contains lives i y g) matches begins h on here

  pub all_were_sent : AllSent log starts s a x names lives → (p : ℕ) (m : HostMessage)
      → CrossedAt p (crossing.In m) (reverse log) → IsCounted (reverse log) p m x → WasSent (reverse log) lives p m x
  all_were_sent all p m crossed c =
      let on : f ≡ m.flow = on_flow x (link_of (reverse log) x) s.link m.flow is.0 c.flow in
      let n : ℕ = length (texts_by true f (take p log)) in
      let nth : IsNth true f log n p = message_nth f log p m (got_there log p (crossing.In m) crossed) (sym on) in
      let own : x.own_stamp < p = c.own in
      let partner : x.partner_stamp < p = c.partner in
      let from : length (texts_by true f (take (since x) log)) ≤ n =
      texts_less true f (since x) p log (omega (arith, own, partner)) in
      let low : length (texts_on x (link_of (reverse log) x) (before p (reverse log))) < x.messages = c.counted in
      let num : length (texts_on x (link_of (reverse log) x) (before p (reverse log))) ≡ n - s.before = number p in
      found n p m on refl (all n (omega (arith, start, from)) (omega (arith, low, num)) p nth)

  -- and back
  sent_as : (n p : ℕ) (m : HostMessage) (w : WasSent (reverse log) lives p m x) → m.flow ≡ f
      → length (texts_by true f (take p log)) ≡ n → (o : Option Start) → IsStart log w.sender o
      → counts_of (Some o) w.sender (taking_at log s x n p) ≡ true
  sent_as n p m w on here None begins =
      absurd (let both : None ≡ Some m.flow = sym (ap (λ (l : Option ℕ). option_map (flow_of w.sender) l) begins) ∙ w.counted.flow in cc)
  sent_as n p m w on here (Some r) begins =
      let y : Life = w.sender in
      let kind : receives y ≡ false = sender_sends (reverse log) x y w.matches in
      let flow : flow_of y r.link ≡ f =
      on_flow y (link_of (reverse log) y) r.link m.flow begins.0 w.counted.flow ∙ on in
      let own : flow_of x r.link ≡ f = sym (one_flow (reverse log) x y r.link w.matches kind) ∙ flow in
      let link : r.link ≡ s.link = sym (link_is x r.link comes) ∙ ap (λ (g : Flow). g.link.0) own ∙ link_is x s.link comes in
      let num : length (texts_on x (link_of (reverse log) x) (before p (reverse log))) ≡ length (texts_by true f (take p log)) - s.before = number p in
      let nth : length (texts_on y (link_of (reverse log) y) (before w.out (reverse log)))
      ≡ length (texts_on x (link_of (reverse log) x) (before p (reverse log))) = w.nth in
      let one : length (texts_on y (link_of (reverse log) y) (before w.out (reverse log))) ≡ n - s.before =
      omega (arith, num, nth, here) in
      let within : length (texts_on y (link_of (reverse log) y) (before w.out (reverse log))) < y.messages =
      w.counted.counted in
      let sent : sent_by (flow_of y r.link) log p - r.before ≡ suc (n - s.before) =
      sent_back log y r begins kind p (n - s.before) w.out
      (ap (λ (g : Flow). last_out g (before p (reverse log))) (flow ∙ sym on) ∙ w.last, w.counted.own, w.counted.partner, one) in
      let same : sent_by (flow_of y r.link) log p ≡ sent_by f log p = ap (λ (g : Flow). sent_by g log p) flow in
      counts_is r y (taking_at log s x n p) link (omega (arith, sent, same)) (omega (arith, sent, same))
      (omega (arith, one, within))

  pub were_all_sent : ((p : ℕ) (m : HostMessage) → CrossedAt p (crossing.In m) (reverse log)
      → IsCounted (reverse log) p m x → WasSent (reverse log) lives p m x) → AllSent log starts s a x names lives
  were_all_sent each n from low p nth =
      let t = nth_message f log n p nth in
      let late : since x ≤ p = after n p nth from in
      let here : length (texts_by true f (take p log)) ≡ n = nth.1 in
      let num : length (texts_on x (link_of (reverse log) x) (before p (reverse log))) ≡ length (texts_by true f (take p log)) - s.before = number p in
      let w : WasSent (reverse log) lives p t.0 x =
      each p t.0 (crossed_there log p (crossing.In t.0) t.1) (record {
        flow = ap (λ (l : Option ℕ). option_map (flow_of x) l) is.0 ∙ ap (λ (g : Flow). Some g) (sym t.2);
        own = omega (arith, late);
        partner = omega (arith, late);
        counted = omega (arith, num, here, from, low);
      }) in
      let i = contains_place lives w.sender w.there in
      let b = asked_of names lives (reverse log) i.0 w.sender are i.1 in
      let r = begin.each i.0 w.sender (slice_get_within lives i.0 w.sender i.1) i.1 in (
        i.0,
        (
          b.0,
          w.sender,
          b.1,
          i.1,
          match_fits (reverse log) a x b.0 w.sender asks b.2 w.matches,
          ap (λ (z : Option (Option Start)). counts_of z w.sender (taking_at log s x n p)) r.1
              ∙ sent_as n p t.0 w t.2 here r.0 r.2,
        ),
      )

-- ---- the first lives

unlinked : (log : List Crossing) (x : Life) (p : ℕ) (m : HostMessage) → link_of (reverse log) x ≡ None
    → IsCounted (reverse log) p m x → ⊥
unlinked log x p m none c =
    let both : None ≡ Some m.flow = sym (ap (λ (l : Option ℕ). option_map (flow_of x) l) none) ∙ c.flow in cc

module _ (log : List Crossing) (names : List Name) (lives : List Life) (starts : List (Option Start))
    (are : AreNamed (length lives) names lives (reverse log)) (begin : AreStarts (length lives) starts lives log) where
  sent_by_start : (x : Life) (a : Name) (i : ℕ) (o : Option Start) → slice_get names i ≡ Some a → slice_get lives i ≡ Some x
      → partner_request (reverse log) x ≡ Some a → slice_get starts i ≡ Some o → IsStart log x o → receives x ≡ true
      → SentAt log starts names lives i → (p : ℕ) (m : HostMessage) → CrossedAt p (crossing.In m) (reverse log)
      → IsCounted (reverse log) p m x → WasSent (reverse log) lives p m x
  sent_by_start x a i None e f asks g is comes at p m crossed c = absurd (unlinked log x p m is c)
  sent_by_start x a i (Some s) e f asks g is comes at p m crossed c =
      all_were_sent log names lives starts are begin x a s asks comes is (at a x s e f g comes) p m crossed c

  pub sent_first : (n : ℕ) → ((i : ℕ) → i < n → SentAt log starts names lives i) → first_sent (reverse log) lives n
  sent_first n all x p m there comes crossed c =
      let t = contains_place (take n lives) x there in
      let i = get_took n lives t.0 x t.1 in
      let a = asked_of names lives (reverse log) t.0 x are i.1 in
      let s = begin.each t.0 x (slice_get_within lives t.0 x i.1) i.1 in
      sent_by_start x a.0 t.0 s.0 a.1 i.1 a.2 s.1 s.2 comes (all t.0 i.0) p m crossed c

  pub sent_at : (n i : ℕ) → i < n → first_sent (reverse log) lives n → SentAt log starts names lives i
  sent_at n i less first a x s e f g comes =
      let c = asked_of names lives (reverse log) i x are f in
      let same : c.0 ≡ a = one_some (slice_get names i) c.0 a c.1 e in
      let r = begin.each i x (slice_get_within lives i x f) f in
      let one : r.0 ≡ Some s = one_some (slice_get starts i) r.0 (Some s) r.1 g in
      were_all_sent log names lives starts are begin x a s (c.2 ∙ ap (λ (z : Name). Some z) same) comes
      (subst (λ (o : Option Start). IsStart log x o) one r.2)
      (λ p m crossed k. first x p m (place_contains (take n lives) i x (get_take n lives i x less f)) comes crossed k)

  pub sent_none : FoundFirst (SentAt log starts names lives) (length lives) None → EachWasSent (reverse log) lives
  sent_none all x p m there comes crossed c =
      sent_first (length lives) all x p m (subst (λ (zs : List Life). Contains zs x) (sym (take_all (length lives) lives (omega arith))) there)
      comes crossed c

  pub sent_some : (p : ℕ) (found : Finding) → FoundFirst (SentAt log starts names lives) (length lives) (Some p)
      → WithMatch found p (reverse log) lives → ShowsLife (first_sent (reverse log) lives) found (reverse log) lives
  sent_some p found at w = record {
    place = p;
    first = (sent_first p at.1, λ first. at.2 (sent_at (p + 1) p (omega arith) first));
    at = w;
  }
