-- What is said of partners, of two lives that match, of streams and of grants is so.
use Rattle.book_judge.proofs.Common.{◌≡◌, ℕ, zero, suc, ◌+◌, ◌-◌, ◌<◌, ◌≤◌, Bool, true, false, not, ◌&&◌, if◌then◌else◌, List, [], ◌∷◌, length, take, drop, Option, Some, None, refl, ap, sym, subst, ◌∙◌, inl, inr, arith, length-take-le, take_all, slice_get_within, same_flow, Host, same_host, Flow, Crossing, HostMessage, and_true, same_flow-true, same_host-refl, same_host-true, Finding, Fate, Life}
use Rattle.std.specs.Prelude.{Err, IsSome, Ok, Result, IfOk, nat_le, MatchOption}
use Rattle.std.proofs.lemmas.Bool.{cases_lt, le-leb, leb-true, and_from, false_from_ne_true, true_from_ne_false}
use Rattle.net_sim.specs.Audit.{IsStamped, IsWellFormed}
use Rattle.net_sim.specs.Findings.{AreStamped, EndsAt, ShowsLife, WithMatch, AreAtPeace, AreFed, AreUnmatched, HaveGranted, ShowsMalformed, ShowsTwo, first_fed, first_granted}
use Rattle.promise.specs.Formed.{CrossedAt}
use Rattle.promise.specs.Safe.{AreTwo, Match, Name, before, control_flow, last_out, named, own_request, partner_request, receives, sends, AreHanded, IsGranted, SafeGrants, SafePartners, Source}
use Rattle.book_judge.specs.Inside.Asked.{AreNamed, same_name, Names, unstamped}
use Rattle.book_judge.specs.Inside.Partners.{AllApart, ApartFrom, FoundOdds, apart_at}
use Rattle.book_judge.specs.Inside.Chains.{FedAt, FoundFirst, GrantedAt, IsHanded, SourceAt, fits, fits_at, is_granted, fits_of}
use Rattle.std.specs.List.{slice_get}
use Rattle.std.specs.declared.alloc.AllocError.{AllocError}
use Rattle.interface.specs.declared.crossing.Crossing.TheVariants as crossing
use Rattle.std.specs.Global.{Vec}
use Rattle.net_sim.specs.declared.auditing.findings.Finding.TheVariants as finding
use Rattle.book_judge.proofs.Elements.{AreAt, contains_place, false_not, get_take, get_took, place_contains, places_two, read_at, two_places}
use Rattle.book_judge.proofs.Identities.Known.{Apart, apart_is, apart_there, apart_true, same_is, same_true}

-- ---- the partner's request of a life

name_at : (x : Life) (o : Option ℕ) → IsSome o → (a : Name) × (named x o ≡ Some a)
name_at x None h = absurd (cc)
name_at x (Some p) h = (record { place = p; own = x.foreign; foreign = x.socket }, refl)

asked_name : (log : List Crossing) (x : Life) → IsStamped log x → (a : Name) × (partner_request log x ≡ Some a)
asked_name log x s = name_at x (last_out (control_flow x.peer x.host) (before x.partner_stamp log)) s.asked

is_named : (x : Life) (o : Option ℕ) (a : Name) → named x o ≡ Some a → (o ≡ Some a.place) × (x.foreign ≡ a.own) × (x.socket ≡ a.foreign)
is_named x None a h = absurd (cc)
is_named x (Some p) a h =
    let made : Name = record { place = p; own = x.foreign; foreign = x.socket } in
    let e : made ≡ a = cc in
    (ap (λ (n : Name). Some n.place) e, ap (λ (n : Name). n.own) e, ap (λ (n : Name). n.foreign) e)

fields : (log : List Crossing) (x : Life) (a : Name) → partner_request log x ≡ Some a
    → (last_out (control_flow x.peer x.host) (before x.partner_stamp log) ≡ Some a.place) × (x.foreign ≡ a.own) × (x.socket ≡ a.foreign)
fields log x a h = is_named x (last_out (control_flow x.peer x.host) (before x.partner_stamp log)) a h

pub one_some : {X : Type 0} (o : Option X) (a b : X) → o ≡ Some a → o ≡ Some b → a ≡ b
one_some o a b e f = cc

-- ---- the hosts of two lives one of which has the other's request

abbrev WentAt : Flow → ℕ → List Crossing → Type 0
WentAt f p log = (m : HostMessage) × (m.flow ≡ f) × CrossedAt p (crossing.Out m) log

crossed_below : (p : ℕ) (c : Crossing) (log : List Crossing) → CrossedAt p c log → p < length log
crossed_below p c [] h = absurd h
crossed_below p c (d ∷ log) (inl h) = let e : p ≡ length log = h.1 in omega (arith, e)
crossed_below p c (d ∷ log) (inr h) = let l : p < length log = crossed_below p c log h in omega (arith, l)

crossed_one : (p : ℕ) (c d : Crossing) (log : List Crossing) → CrossedAt p c log → CrossedAt p d log → c ≡ d
crossed_one p c d [] h k = absurd h
crossed_one p c d (x ∷ log) (inl h) (inl k) = h.0 ∙ sym k.0
crossed_one p c d (x ∷ log) (inl h) (inr k) = absurd (let e : p ≡ length log = h.1 in let l : p < length log = crossed_below p d log k in omega (arith, e, l))
crossed_one p c d (x ∷ log) (inr h) (inl k) = absurd (let e : p ≡ length log = k.1 in let l : p < length log = crossed_below p c log h in omega (arith, e, l))
crossed_one p c d (x ∷ log) (inr h) (inr k) = crossed_one p c d log h k

crossed_drop : (n p : ℕ) (c : Crossing) (log : List Crossing) → CrossedAt p c (drop n log) → CrossedAt p c log
crossed_drop zero p c log h = h
crossed_drop (suc n) p c [] h = absurd h
crossed_drop (suc n) p c (d ∷ log) h = inr (crossed_drop n p c log h)

went_more : (f : Flow) (p : ℕ) (c : Crossing) (log : List Crossing) → WentAt f p log → WentAt f p (c ∷ log)
went_more f p c log (m, e, h) = (m, e, inr h)

went_out_at : (f : Flow) (p : ℕ) (m : HostMessage) (log : List Crossing) → (b : Bool) → same_flow f m.flow ≡ b → (if b then Some (length log) else last_out f log) ≡ Some p
    → (last_out f log ≡ Some p → WentAt f p log) → WentAt f p (crossing.Out m ∷ log)
went_out_at f p m log true e h rec = (m, sym (same_flow-true f m.flow e), inl (refl, (let q : length log ≡ p = cc in sym q)))
went_out_at f p m log false e h rec = went_more f p (crossing.Out m) log (rec h)

last_went : (f : Flow) (p : ℕ) (log : List Crossing) → last_out f log ≡ Some p → WentAt f p log
last_went f p [] h = absurd (cc)
last_went f p (crossing.Out m ∷ log) h = went_out_at f p m log (same_flow f m.flow) refl h (last_went f p log)
last_went f p (crossing.In m ∷ log) h = went_more f p (crossing.In m) log (last_went f p log h)
last_went f p (crossing.Answer k g ∷ log) h = went_more f p (crossing.Answer k g) log (last_went f p log h)
last_went f p (crossing.Down g ∷ log) h = went_more f p (crossing.Down g) log (last_went f p log h)
last_went f p (crossing.Up g ∷ log) h = went_more f p (crossing.Up g) log (last_went f p log h)

asks_hosts : (log : List Crossing) (x y : Life) → IsStamped log y → partner_request log x ≡ Some (own_request y) → (x.peer ≡ y.host) × (y.peer ≡ x.host)
asks_hosts log x y s e =
    let w = last_went (control_flow x.peer x.host) y.own_stamp (before x.partner_stamp log) (fields log x (own_request y) e).0 in
    let c : CrossedAt y.own_stamp (crossing.Out w.0) log = crossed_drop (length log - x.partner_stamp) y.own_stamp (crossing.Out w.0) log w.2 in
    let o : crossing.Out w.0 ≡ crossing.Out s.own.0 = crossed_one y.own_stamp (crossing.Out w.0) (crossing.Out s.own.0) log c s.own.2 in
    let m : w.0 ≡ s.own.0 = cc in
    let f : control_flow x.peer x.host ≡ control_flow y.host y.peer = sym w.1 ∙ ap (λ (n : HostMessage). n.flow) m ∙ s.own.1 in
    (ap (λ (g : Flow). g.source) f, sym (ap (λ (g : Flow). g.destination) f))

-- ---- partners

-- two lives of a list may both be in one book
abbrev pub ArePairs : List Crossing → List Life → Type 0
ArePairs log lives = (x y : Life) (a b : Name) → AreTwo lives x y → partner_request log x ≡ Some a → partner_request log y ≡ Some b → Apart a x b y

both : (log : List Crossing) (lives : List Life) (x y : Life) (i j : ℕ) → AreStamped log lives → ArePairs log lives → slice_get lives i ≡ Some x → slice_get lives j ≡ Some y
    → partner_request log x ≡ Some (own_request y) → partner_request log y ≡ Some (own_request x)
both log lives x y i j stamped pairs e f asks =
    let b = asked_name log y (stamped y (place_contains lives j y f)) in
    elim (cases_lt i j) [
      | inl l ↦ (let t = pairs x y (own_request y) b.0 (places_two lives i j x y l e f) asks b.1 in b.1 ∙ ap (λ (n : Name). Some n) (t.forth refl))
      | inr ge ↦ elim (cases_lt j i) [
        | inl l ↦ (let t = pairs y x b.0 (own_request y) (places_two lives j i y x l f e) b.1 asks in b.1 ∙ ap (λ (n : Name). Some n) (t.back refl))
        | inr le ↦ (let one : i ≡ j = omega (arith, ge, le) in
            let there : slice_get lives j ≡ Some x = ap (λ (k : ℕ). slice_get lives k) (sym one) ∙ e in
            let same : x ≡ y = one_some (slice_get lives j) x y there f in
            subst (λ (z : Life). partner_request log z ≡ Some (own_request x)) same (subst (λ (z : Life). partner_request log x ≡ Some (own_request z)) (sym same) asks))
      ]
    ]

safe_pairs : (log : List Crossing) (lives : List Life) → AreStamped log lives → ArePairs log lives → SafePartners log lives
safe_pairs log lives stamped pairs = record {
  own_once = λ x y two e.
      (let at = two_places lives x y two in
      let a = asked_name log x (stamped x (place_contains lives at.first x at.one)) in
      let b = asked_name log y (stamped y (place_contains lives at.second y at.other)) in
      (pairs x y a.0 b.0 two a.1 b.1).own e);
  partner_once = λ x y name two e f. (pairs x y name name two e f).partner refl;
  named = λ x c. (let a = asked_name log x (stamped x c) in let P : Option Name → Type 0 = λ o. IsSome o in subst P (sym a.1) refl);
  peers = λ x y c d e. asks_hosts log x y (stamped y d) e;
  both_ways = λ x y c d e. (let i = contains_place lives x c in let j = contains_place lives y d in both log lives x y i.0 j.0 stamped pairs i.1 j.1 e);
}

pairs_safe : (log : List Crossing) (lives : List Life) → SafePartners log lives → ArePairs log lives
pairs_safe log lives s x y a b two e f =
    let at = two_places lives x y two in
    let c = place_contains lives at.first x at.one in
    let d = place_contains lives at.second y at.other in
    record {
      own = λ h. s.own_once x y two h;
      partner = λ h. s.partner_once x y b two (e ∙ ap (λ (n : Name). Some n) h) f;
      forth = λ h. one_some (partner_request log y) b (own_request x) f (s.both_ways x y c d (e ∙ ap (λ (n : Name). Some n) h));
      back = λ h. one_some (partner_request log x) a (own_request y) e (s.both_ways y x d c (f ∙ ap (λ (n : Name). Some n) h));
    }

-- the request of the partner of a life
pub asked_of : (names : List Name) (lives : List Life) (log : List Crossing) (i : ℕ) (x : Life) → AreNamed (length lives) names lives log → slice_get lives i ≡ Some x
    → (a : Name) × (slice_get names i ≡ Some a) × (partner_request log x ≡ Some a)
asked_of names lives log i x n e = n.named i x (slice_get_within lives i x e) e

all_stamped : (names : List Name) (lives : List Life) (log : List Crossing) (i : ℕ) (x : Life) → AreNamed (length lives) names lives log → slice_get lives i ≡ Some x → IsStamped log x
all_stamped names lives log i x n e =
    n.stamped x (place_contains (take (length lives) lives) i x (get_take (length lives) lives i x (slice_get_within lives i x e) e))

stamped_in : (names : List Name) (lives : List Life) (log : List Crossing) (n : ℕ) → AreNamed (length lives) names lives log → AreStamped log (take n lives)
stamped_in names lives log n are x c = (let t = contains_place (take n lives) x c in let k = get_took n lives t.0 x t.1 in all_stamped names lives log t.0 x are k.1)

pub safe_first : (names : List Name) (lives : List Life) (log : List Crossing) (n : ℕ) → AreNamed (length lives) names lives log → AllApart n names lives → SafePartners log (take n lives)
safe_first names lives log n are all = safe_pairs log (take n lives) (stamped_in names lives log n are) (λ x y a b two e f.
    (let at = two_places (take n lives) x y two in
    let i = get_took n lives at.first x at.one in
    let j = get_took n lives at.second y at.other in
    let c = asked_of names lives log at.first x are i.1 in
    let d = asked_of names lives log at.second y are j.1 in
    let p : c.0 ≡ a = one_some (partner_request log x) c.0 a c.2 e in
    let q : d.0 ≡ b = one_some (partner_request log y) d.0 b d.2 f in
    apart_true a x b y (sym (apart_there names lives at.first at.second a b x y (c.1 ∙ ap (λ (m : Name). Some m) p) i.1 (d.1 ∙ ap (λ (m : Name). Some m) q) j.1)
    ∙ all at.second j.0 at.first at.before)))

apart_safe : (names : List Name) (lives : List Life) (log : List Crossing) (n i j : ℕ) → AreNamed (length lives) names lives log → SafePartners log (take n lives)
    → i < j → j < n → j < length lives → apart_at names lives i j ≡ true
apart_safe names lives log n i j are s l m w =
    let x = read_at lives i (omega (arith, l, w)) in
    let y = read_at lives j w in
    let a = asked_of names lives log i x.0 are x.1 in
    let b = asked_of names lives log j y.0 are y.1 in
    let two : AreTwo (take n lives) x.0 y.0 = places_two (take n lives) i j x.0 y.0 l (get_take n lives i x.0 (omega (arith, l, m)) x.1) (get_take n lives j y.0 m y.1) in
    apart_there names lives i j a.0 b.0 x.0 y.0 a.1 x.1 b.1 y.1 ∙ apart_is a.0 x.0 b.0 y.0 (pairs_safe log (take n lives) s x.0 y.0 a.0 b.0 two a.2 b.2)

-- ---- one life beside each of some others

two_only : (x y u v : Life) → AreAt (x ∷ y ∷ []) u v → (x ≡ u) × (y ≡ v)
two_only x y u v at = by at.first at.second at.before at.one at.other where
  by : (i j : ℕ) → i < j → slice_get (x ∷ y ∷ []) i ≡ Some u → slice_get (x ∷ y ∷ []) j ≡ Some v → (x ≡ u) × (y ≡ v)
  by zero zero l e f = absurd (omega (arith, l))
  by zero (suc zero) l e f = (cc, cc)
  by zero (suc (suc j)) l e f = absurd (cc)
  by (suc zero) zero l e f = absurd (omega (arith, l))
  by (suc zero) (suc zero) l e f = absurd (omega (arith, l))
  by (suc zero) (suc (suc j)) l e f = absurd (cc)
  by (suc (suc i)) j l e f = absurd (cc)

two_stamped : (log : List Crossing) (x y : Life) → IsStamped log x → IsStamped log y → AreStamped log (x ∷ y ∷ [])
two_stamped log x y s t z c = by (contains_place (x ∷ y ∷ []) z c) where
  by : (i : ℕ) × (slice_get (x ∷ y ∷ []) i ≡ Some z) → IsStamped log z
  by (zero, e) = (let same : x ≡ z = cc in subst (λ (w : Life). IsStamped log w) same s)
  by (suc zero, e) = (let same : y ≡ z = cc in subst (λ (w : Life). IsStamped log w) same t)
  by (suc (suc i), e) = absurd (cc)

peace_first : (names : List Name) (lives : List Life) (log : List Crossing) (n j : ℕ) (y : Life) → AreNamed (length lives) names lives log → slice_get lives j ≡ Some y
    → ApartFrom n j names lives → AreAtPeace log (take n lives) y
peace_first names lives log n j y are e apart x c =
    let t = contains_place (take n lives) x c in
    let i = get_took n lives t.0 x t.1 in
    let a = asked_of names lives log t.0 x are i.1 in
    let b = asked_of names lives log j y are e in
    let is : Apart a.0 x b.0 y = apart_true a.0 x b.0 y (sym (apart_there names lives t.0 j a.0 b.0 x y a.1 i.1 b.1 e) ∙ apart t.0 i.0) in
    safe_pairs log (x ∷ y ∷ []) (two_stamped log x y (all_stamped names lives log t.0 x are i.1) (all_stamped names lives log j y are e)) (λ u v p q two f g.
    (let only = two_only x y u v (two_places (x ∷ y ∷ []) u v two) in
    let k : a.0 ≡ p = one_some (partner_request log x) a.0 p a.2 (ap (λ (z : Life). partner_request log z) only.0 ∙ f) in
    let m : b.0 ≡ q = one_some (partner_request log y) b.0 q b.2 (ap (λ (z : Life). partner_request log z) only.1 ∙ g) in
    let P : Name → Life → Name → Life → Type 0 = λ c w d z. Apart c w d z in
    subst (λ (c : Name). P c u q v) k (subst (λ (d : Name). P a.0 u d v) m (subst (λ (w : Life). P a.0 w b.0 v) only.0 (subst (λ (z : Life). P a.0 x b.0 z) only.1 is)))))

apart_peace : (names : List Name) (lives : List Life) (log : List Crossing) (n i j : ℕ) (y : Life) → AreNamed (length lives) names lives log → slice_get lives j ≡ Some y
    → i < n → i < length lives → AreAtPeace log (take n lives) y → apart_at names lives i j ≡ true
apart_peace names lives log n i j y are e l w peace =
    let x = read_at lives i w in
    let a = asked_of names lives log i x.0 are x.1 in
    let b = asked_of names lives log j y are e in
    let s = peace x.0 (place_contains (take n lives) i x.0 (get_take n lives i x.0 l x.1)) in
    let two : AreTwo (x.0 ∷ y ∷ []) x.0 y = ([], [], [], refl) in
    apart_there names lives i j a.0 b.0 x.0 y a.1 x.1 b.1 e ∙ apart_is a.0 x.0 b.0 y (pairs_safe log (x.0 ∷ y ∷ []) s x.0 y a.0 b.0 two a.2 b.2)

pub partners_safe : (names : List Name) (lives : List Life) (log : List Crossing) → AreNamed (length lives) names lives log → FoundOdds None names lives → SafePartners log lives
partners_safe names lives log are all =
    let P : List Life → Type 0 = λ zs. SafePartners log zs in subst P (take_all (length lives) lives (omega arith)) (safe_first names lives log (length lives) are all)

pub partners_odd : (names : List Name) (lives : List Life) (log : List Crossing) (at : ℕ × ℕ) → AreNamed (length lives) names lives log → FoundOdds (Some at) names lives
    → ShowsTwo (finding.Lives at.0 at.1) log lives
partners_odd names lives log at are f =
    let y = read_at lives at.1 f.1 in (
      (safe_first names lives log at.1 are f.2, λ s. false_not (apart_at names lives at.0 at.1) f.4 (apart_safe names lives log (at.1 + 1) at.0 at.1 are s f.0 (omega arith) f.1)),
      (
        y.0,
        y.1,
        f.0,
        (
          peace_first names lives log at.0 at.1 y.0 are y.1 f.3,
          λ p. false_not (apart_at names lives at.0 at.1) f.4 (apart_peace names lives log (at.0 + 1) at.0 at.1 y.0 are y.1 (omega arith) (omega (arith, f.0, f.1)) p),
        ),
      ),
    )

-- ---- matches

host_is : (g h : Host) → g ≡ h → same_host g h ≡ true
host_is g h e = let P : Host → Type 0 = λ x. same_host g x ≡ true in subst P e (same_host-refl g)

pub fits_match : (log : List Crossing) (a : Name) (x : Life) (b : Name) (y : Life) → partner_request log x ≡ Some a → partner_request log y ≡ Some b → fits a x b y ≡ true → Match log x y
fits_match log a x b y e f h =
    let t = and_true (receives x && sends y && same_host x.peer y.host && same_host y.peer x.host && same_name a (own_request y)) (same_name b (own_request x)) h in
    let u = and_true (receives x && sends y && same_host x.peer y.host && same_host y.peer x.host) (same_name a (own_request y)) t.0 in
    let v = and_true (receives x && sends y && same_host x.peer y.host) (same_host y.peer x.host) u.0 in
    let w = and_true (receives x && sends y) (same_host x.peer y.host) v.0 in
    let z = and_true (receives x) (sends y) w.0 in
    let p : a ≡ own_request y = same_true a (own_request y) u.1 in
    let q : b ≡ own_request x = same_true b (own_request x) t.1 in
    let n = fields log x a e in
    record {
      receiving = z.0;
      sending = z.1;
      peers = (same_host-true x.peer y.host w.1, same_host-true y.peer x.host v.1);
      sockets = (n.1 ∙ ap (λ (m : Name). m.own) p, sym (n.2 ∙ ap (λ (m : Name). m.foreign) p));
      asked = e ∙ ap (λ (m : Name). Some m) p;
      answered = f ∙ ap (λ (m : Name). Some m) q;
    }

pub match_fits : (log : List Crossing) (a : Name) (x : Life) (b : Name) (y : Life) → partner_request log x ≡ Some a → partner_request log y ≡ Some b → Match log x y → fits a x b y ≡ true
match_fits log a x b y e f m =
    and_from (receives x && sends y && same_host x.peer y.host && same_host y.peer x.host && same_name a (own_request y)) (same_name b (own_request x))
    (and_from (receives x && sends y && same_host x.peer y.host && same_host y.peer x.host) (same_name a (own_request y))
    (and_from (receives x && sends y && same_host x.peer y.host) (same_host y.peer x.host)
    (and_from (receives x && sends y) (same_host x.peer y.host) (and_from (receives x) (sends y) m.receiving m.sending) (host_is x.peer y.host m.peers.0))
    (host_is y.peer x.host m.peers.1))
    (same_is a (own_request y) (one_some (partner_request log x) a (own_request y) e m.asked)))
    (same_is b (own_request x) (one_some (partner_request log y) b (own_request x) f m.answered))

fits_there : (a : Name) (x : Life) (names : List Name) (lives : List Life) (i : ℕ) (b : Name) (y : Life) → slice_get names i ≡ Some b → slice_get lives i ≡ Some y
    → fits_at a x names lives i ≡ fits a x b y
fits_there a x names lives i b y e f = ap (λ (o : Option Name). fits_of a x o (slice_get lives i)) e ∙ ap (λ (o : Option Life). fits_of a x (Some b) o) f

unmatched : (names : List Name) (lives : List Life) (log : List Crossing) (a : Name) (x : Life) (n : ℕ) → AreNamed (length lives) names lives log → partner_request log x ≡ Some a
    → ((i : ℕ) → i < n → fits_at a x names lives i ≡ false) → AreUnmatched log (take n lives) x
unmatched names lives log a x n are e none y c m =
    let t = contains_place (take n lives) y c in
    let i = get_took n lives t.0 y t.1 in
    let b = asked_of names lives log t.0 y are i.1 in
    false_not (fits_at a x names lives t.0) (none t.0 i.0) (fits_there a x names lives t.0 b.0 y b.1 i.1 ∙ match_fits log a x b.0 y e b.2 m)

pub with_none : (names : List Name) (lives : List Life) (log : List Crossing) (a : Name) (x : Life) (p : ℕ) → AreNamed (length lives) names lives log
    → slice_get names p ≡ Some a → slice_get lives p ≡ Some x → FoundFirst (λ i. fits_at a x names lives i ≡ false) (length lives) None
    → AreUnmatched log lives x
with_none names lives log a x p are e f none =
    let c = asked_of names lives log p x are f in
    let same : c.0 ≡ a = one_some (slice_get names p) c.0 a c.1 e in
    let P : List Life → Type 0 = λ zs. AreUnmatched log zs x in
    subst P (take_all (length lives) lives (omega arith))
    (unmatched names lives log a x (length lives) are (c.2 ∙ ap (λ (m : Name). Some m) same) none)

pub with_some : (names : List Name) (lives : List Life) (log : List Crossing) (a : Name) (x : Life) (p other : ℕ) → AreNamed (length lives) names lives log
    → slice_get names p ≡ Some a → slice_get lives p ≡ Some x → FoundFirst (λ i. fits_at a x names lives i ≡ false) (length lives) (Some other)
    → EndsAt (λ n. AreUnmatched log (take n lives) x) other
with_some names lives log a x p other are e f found =
    let c = asked_of names lives log p x are f in
    let same : c.0 ≡ a = one_some (slice_get names p) c.0 a c.1 e in
    let asks : partner_request log x ≡ Some a = c.2 ∙ ap (λ (m : Name). Some m) same in (
      unmatched names lives log a x other are asks found.1,
      λ none. found.2 (false_from_ne_true (fits_at a x names lives other) (λ h.
          (let y = read_at lives other found.0 in
          let b = asked_of names lives log other y.0 are y.1 in
          none y.0 (place_contains (take (other + 1) lives) other y.0 (get_take (other + 1) lives other y.0 (omega arith) y.1))
          (fits_match log a x b.0 y.0 asks b.2 (sym (fits_there a x names lives other b.0 y.0 b.1 y.1) ∙ h))))),
    )

-- ---- streams

source_is : (names : List Name) (lives : List Life) (log : List Crossing) (a : Name) (x : Life) → AreNamed (length lives) names lives log → partner_request log x ≡ Some a
    → (i : ℕ) × SourceAt a x names lives i → Source log lives x
source_is names lives log a x are e (i, (b, y, f, g, h, p)) =
    let c = asked_of names lives log i y are g in
    let same : c.0 ≡ b = one_some (slice_get names i) c.0 b c.1 f in
    record { sender = y; there = place_contains lives i y g; matches = fits_match log a x b y e (c.2 ∙ ap (λ (m : Name). Some m) same) h; front = p }

is_source : (names : List Name) (lives : List Life) (log : List Crossing) (a : Name) (x : Life) → AreNamed (length lives) names lives log → partner_request log x ≡ Some a
    → Source log lives x → (i : ℕ) × SourceAt a x names lives i
is_source names lives log a x are e s =
    let t = contains_place lives s.sender s.there in
    let b = asked_of names lives log t.0 s.sender are t.1 in
    (t.0, (b.0, s.sender, b.1, t.1, match_fits log a x b.0 s.sender e b.2 s.matches, s.front))

handed_from : (lives : List Life) (handed : List (List Bool)) → length lives ≡ length handed
    → ((i : ℕ) (x : Life) (h : List Bool) → slice_get lives i ≡ Some x → slice_get handed i ≡ Some h → IsHanded x h) → AreHanded lives handed
handed_from [] [] e f = refl
handed_from [] (h ∷ handed) e f = absurd (omega (arith, e))
handed_from (x ∷ lives) [] e f = absurd (omega (arith, e))
handed_from (x ∷ lives) (h ∷ handed) e f = (f 0 x h refl refl, handed_from lives handed (omega (arith, e)) (λ i y k p q. f (suc i) y k p q))

handed_there : (lives : List Life) (handed : List (List Bool)) → AreHanded lives handed → (i : ℕ) (x : Life) (h : List Bool) → slice_get lives i ≡ Some x
    → slice_get handed i ≡ Some h → IsHanded x h
handed_there [] handed are i x h e f = absurd (cc)
handed_there (y ∷ lives) [] are i x h e f = absurd are
handed_there (y ∷ lives) (k ∷ handed) are zero x h e f =
    let one : y ≡ x = cc in
    let two : k ≡ h = cc in
    let P : Life → List Bool → Type 0 = λ z b. IsHanded z b in
    subst (λ (b : List Bool). P x b) two (subst (λ (z : Life). P z k) one are.0)
handed_there (y ∷ lives) (k ∷ handed) are (suc i) x h e f = handed_there lives handed are.1 i x h e f

pub fed_first : (names : List Name) (lives : List Life) (handed : List (List Bool)) (log : List Crossing) (n : ℕ) → AreNamed (length lives) names lives log
    → length handed ≡ length lives → n ≤ length lives → ((i : ℕ) → i < n → FedAt names lives handed i) → AreFed log lives (take n lives) (take n handed)
fed_first names lives handed log n are counts w all = record {
  source = λ x c r some.
      (let t = contains_place (take n lives) x c in
      let i = get_took n lives t.0 x t.1 in
      let a = asked_of names lives log t.0 x are i.1 in
      let h = read_at handed t.0 (omega (arith, i.0, w, counts)) in
      source_is names lives log a.0 x are a.2 ((all t.0 i.0 a.0 x h.0 a.1 i.1 h.1).0 r some));
  sent = handed_from (take n lives) (take n handed) (length-take-le n lives w ∙ sym (length-take-le n handed (omega (arith, w, counts)))) (λ i x h e f.
      (let j = get_took n lives i x e in
      let k = get_took n handed i h f in
      let a = asked_of names lives log i x are j.1 in
      (all i j.0 a.0 x h a.1 j.1 k.1).1));
}

pub fed_at : (names : List Name) (lives : List Life) (handed : List (List Bool)) (log : List Crossing) (n i : ℕ) → AreNamed (length lives) names lives log
    → i < n → AreFed log lives (take n lives) (take n handed) → FedAt names lives handed i
fed_at names lives handed log n i are l fed a x h e f g =
    let c = asked_of names lives log i x are f in
    let same : c.0 ≡ a = one_some (slice_get names i) c.0 a c.1 e in
    let there : slice_get (take n lives) i ≡ Some x = get_take n lives i x l f in (
      λ r some. is_source names lives log a x are (c.2 ∙ ap (λ (m : Name). Some m) same) (fed.source x (place_contains (take n lives) i x there) r some),
      handed_there (take n lives) (take n handed) fed.sent i x h there (get_take n handed i h l g),
    )

-- ---- grants

pub granted_true : (x : Life) (count size : ℕ) → is_granted x count size ≡ true → IsGranted x count size
granted_true x count size h =
    let t = and_true (nat_le (count + x.returned.messages) x.granted.messages) (nat_le (size + x.returned.bits) x.granted.bits) h in
    record { messages = leb-true (count + x.returned.messages) x.granted.messages t.0; bits = leb-true (size + x.returned.bits) x.granted.bits t.1 }

pub granted_is : (x : Life) (count size : ℕ) → IsGranted x count size → is_granted x count size ≡ true
granted_is x count size g =
    and_from (nat_le (count + x.returned.messages) x.granted.messages) (nat_le (size + x.returned.bits) x.granted.bits)
    (le-leb (count + x.returned.messages) x.granted.messages g.messages) (le-leb (size + x.returned.bits) x.granted.bits g.bits)

pub granted_first : (names : List Name) (lives : List Life) (log : List Crossing) (n : ℕ) → AreNamed (length lives) names lives log
    → ((i : ℕ) → i < n → GrantedAt names lives i) → HaveGranted log lives (take n lives)
granted_first names lives log n are all = record {
  taken = λ x c r.
      (let t = contains_place (take n lives) x c in
      let i = get_took n lives t.0 x t.1 in
      let a = asked_of names lives log t.0 x are i.1 in
      granted_true x x.messages (length x.bits) (all t.0 i.0 a.0 x a.1 i.1 r).0);
  sent = λ x y c d m.
      (let t = contains_place (take n lives) x c in
      let i = get_took n lives t.0 x t.1 in
      let a = asked_of names lives log t.0 x are i.1 in
      let j = contains_place lives y d in
      let b = asked_of names lives log j.0 y are j.1 in
      granted_true x y.messages (length y.bits) (true_from_ne_false (is_granted x y.messages (length y.bits)) (λ e.
      (all t.0 i.0 a.0 x a.1 i.1 m.receiving).1 j.0 (b.0, y, b.1, j.1, match_fits log a.0 x b.0 y a.2 b.2 m, e))));
}

pub granted_at : (names : List Name) (lives : List Life) (log : List Crossing) (n i : ℕ) → AreNamed (length lives) names lives log
    → i < n → HaveGranted log lives (take n lives) → GrantedAt names lives i
granted_at names lives log n i are l has a x e f r =
    let c = asked_of names lives log i x are f in
    let same : c.0 ≡ a = one_some (slice_get names i) c.0 a c.1 e in
    let there = place_contains (take n lives) i x (get_take n lives i x l f) in (
      granted_is x x.messages (length x.bits) (has.taken x there r),
      λ j (b, y, g, h, fit, not).
          (let d = asked_of names lives log j y are h in
          let one : d.0 ≡ b = one_some (slice_get names j) d.0 b d.1 g in
          let m : Match log x y = fits_match log a x b y (c.2 ∙ ap (λ (k : Name). Some k) same) (d.2 ∙ ap (λ (k : Name). Some k) one) fit in
          false_not (is_granted x y.messages (length y.bits)) not (granted_is x y.messages (length y.bits) (has.sent x y there (place_contains lives j y h) m))),
    )

-- ---- what is found

pub well_formed : (names : List Name) (lives : List Life) (handed : List (List Bool)) (log : List Crossing) → AreNamed (length lives) names lives log
    → length lives ≡ length handed → IsWellFormed log lives handed
well_formed names lives handed log are counts =
    let P : List Life → Type 0 = λ zs. AreStamped log zs in
    record { counts = counts; stamped = subst P (take_all (length lives) lives (omega arith)) are.stamped }

-- lists are as many as lives, so where it shows that a book is malformed a stamp names no request
pub formed_by : (named : Result (Vec Name) ℕ) (lives : List Life) (handed : List (List Bool)) (log : List Crossing)
    → length lives ≡ length handed → Names named lives log
    → MatchOption (unstamped named) (IsWellFormed log lives handed) (λ found. ShowsMalformed found log lives handed)
formed_by (Ok names) lives handed log counts are = well_formed names.items lives handed log are counts
formed_by (Err place) lives handed log counts at = inr (counts, at)

pub fed_none : (names : List Name) (lives : List Life) (handed : List (List Bool)) (log : List Crossing) → AreNamed (length lives) names lives log
    → length handed ≡ length lives → FoundFirst (FedAt names lives handed) (length lives) None → AreFed log lives lives handed
fed_none names lives handed log are counts all =
    let P : List Life → List (List Bool) → Type 0 = λ xs hs. AreFed log lives xs hs in
    subst (λ (hs : List (List Bool)). P lives hs) (take_all (length lives) handed (omega (arith, counts)))
    (subst (λ (xs : List Life). P xs (take (length lives) handed)) (take_all (length lives) lives (omega arith))
    (fed_first names lives handed log (length lives) are counts (omega arith) all))

pub fed_some : (names : List Name) (lives : List Life) (handed : List (List Bool)) (log : List Crossing) (p : ℕ) (found : Finding) → AreNamed (length lives) names lives log
    → length handed ≡ length lives → FoundFirst (FedAt names lives handed) (length lives) (Some p) → WithMatch found p log lives
    → ShowsLife (first_fed log lives handed) found log lives
fed_some names lives handed log p found are counts at w = record {
  place = p;
  first = (fed_first names lives handed log p are counts (omega (arith, at.0)) at.1, λ fed. at.2 (fed_at names lives handed log (p + 1) p are (omega arith) fed));
  at = w;
}
