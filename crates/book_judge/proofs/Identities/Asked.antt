-- The requests that stamps name, and where messages went out before they came in.
use Rattle.book_judge.proofs.Common.{◌≡◌, ◌⊎◌, ℕ, zero, suc, ◌+◌, ◌<◌, ◌≤◌, Bool, true, false, not, if◌then◌else◌, List, [], ◌∷◌, ◌++◌, length, take, get_or, reverse, Option, Some, None, refl, ap, sym, subst, ◌∙◌, inl, inr, arith, IsSome, get-empty, length-reverse, length-take-le, reverse-append, take_more, slice_get_read, slice_get_within, flow_cmp, same_flow, Flow, Crossing, HostMessage, same_flow-true, Life}
use Rattle.net_sim.specs.Audit.{IsStamped, Passes}
use Rattle.net_sim.specs.Findings.{AreStamped, EndsAt}
use Rattle.promise.specs.Safe.{Name, before, control_flow, last_out, named, partner_request}
use Rattle.book_judge.specs.Inside.Asked.{AreNamed, AreOuts, found_at, noted, out_at, passes}
use Rattle.book_judge.proofs.Crossed.TextsBy.{before_place}
use Rattle.std.specs.List.{slice_get}
use Rattle.std.specs.FinMap as map
use Rattle.interface.specs.declared.crossing.Crossing.TheVariants as crossing
use Rattle.promise.specs.Formed.{coming, going}
use Rattle.book_judge.proofs.Elements.{contains_place, get_take, get_took, place_contains}
use Rattle.book_judge.proofs.Crossed.Mailboxes.{get_set}
use Rattle.book_judge.proofs.Identities.Named.{crossed_there, get_front, get_seam, got_there, same_flow_is}

-- ---- a list that grows

-- the element at a place of a longer list
pub grown_get : {X : Type 0} (xs : List X) (y : X) (i : ℕ) (x : X) → slice_get xs i ≡ Some x → slice_get (xs ++ y ∷ []) i ≡ Some x
grown_get xs y i x e = get_front xs y x i e

pub grown_last : {X : Type 0} (xs : List X) (y : X) (i : ℕ) → i ≡ length xs → slice_get (xs ++ y ∷ []) i ≡ Some y
grown_last {X} xs y i e = ap (λ (n : ℕ). slice_get (xs ++ y ∷ []) n) e ∙ get_seam xs y

pub grown_length : {X : Type 0} (xs : List X) (y : X) → length (xs ++ y ∷ []) ≡ length xs + 1
grown_length [] y = refl
grown_length (x ∷ xs) y = omega (arith, grown_length xs y)

-- a place below one more is that, or below
pub below_cases : (p n : ℕ) → p < n + 1 → (p ≡ n) ⊎ (p < n)
below_cases zero zero h = inl refl
below_cases zero (suc n) h = inr (omega arith)
below_cases (suc p) zero h = absurd (omega (arith, h))
below_cases (suc p) (suc n) h = elim (below_cases p n (omega (arith, h))) [
  | inl e ↦ inl (ap (λ (k : ℕ). suc k) e)
  | inr l ↦ inr (omega (arith, l))
]

-- ---- the log before a place

pub one_back : (log : List Crossing) (i : ℕ) (c : Crossing) → i < length log → c ≡ get_or log i c → reverse (take (i + 1) log) ≡ c ∷ reverse (take i log)
one_back log i c h e =
    ap (λ (xs : List Crossing). reverse xs) (take_more log i c h ∙ ap (λ (z : Crossing). take i log ++ z ∷ []) (sym e))
    ∙ reverse-append (take i log) (c ∷ [])

-- ---- where messages went out

-- what is noted of flows is where their last messages went out
abbrev pub AreLast : map.FinMap flow_cmp ℕ → List Crossing → Type 0
AreLast last log = (f : Flow) → map.get last f ≡ last_out f log

pub none_last : AreLast map.empty []
none_last f = get-empty flow_cmp f

pub last_more : (last : map.FinMap flow_cmp ℕ) (place : ℕ) (c : Crossing) (log : List Crossing) → place ≡ length log → AreLast last log
    → AreLast (noted place c last) (c ∷ log)
last_more last place (crossing.Out m) log e a = λ f.
    get_set last m.flow place f ∙ ap (λ (n : ℕ). if same_flow f m.flow then Some n else map.get last f) e
    ∙ ap (λ (o : Option ℕ). if same_flow f m.flow then Some (length log) else o) (a f)
last_more last place (crossing.In m) log e a = a
last_more last place (crossing.Answer kind g) log e a = a
last_more last place (crossing.Down h) log e a = a
last_more last place (crossing.Up h) log e a = a

out_of : (last : map.FinMap flow_cmp ℕ) (log : List Crossing) (c : Crossing) (m : HostMessage) → AreLast last log → c ≡ crossing.In m
    → out_at last c ≡ last_out m.flow log
out_of last log c m a e = ap (λ (d : Crossing). out_at last d) e ∙ a m.flow

outs_at : (n : ℕ) (outs : List (Option ℕ)) (log : List Crossing) (last : map.FinMap flow_cmp ℕ) (c : Crossing) → n < length log → c ≡ get_or log n c
    → AreLast last (reverse (take n log)) → AreOuts n outs log → (p : ℕ) (m : HostMessage) → p < n + 1 → slice_get log p ≡ Some (crossing.In m)
    → slice_get (outs ++ out_at last c ∷ []) p ≡ Some (last_out m.flow (reverse (take p log)))
outs_at n outs log last c h at a o p m l e = elim (below_cases p n l) [
  | inl s ↦
      (let here : slice_get log n ≡ Some c = slice_get_read log (length log) n c refl h at in
      let there : slice_get log n ≡ Some (crossing.In m) = ap (λ (k : ℕ). slice_get log k) (sym s) ∙ e in
      let same : c ≡ crossing.In m = cc in
      grown_last outs (out_at last c) p (s ∙ sym o.0)
      ∙ ap (λ (x : Option ℕ). Some x) (out_of last (reverse (take n log)) c m a same ∙ ap (λ (k : ℕ). last_out m.flow (reverse (take k log))) (sym s)))
  | inr b ↦ grown_get outs (out_at last c) p (last_out m.flow (reverse (take p log))) (o.1 p m b e)
]

pub outs_more : (n : ℕ) (outs : List (Option ℕ)) (log : List Crossing) (last : map.FinMap flow_cmp ℕ) (c : Crossing) → n < length log → c ≡ get_or log n c
    → AreLast last (reverse (take n log)) → AreOuts n outs log → AreOuts (n + 1) (outs ++ out_at last c ∷ []) log
outs_more n outs log last c h at a o = (grown_length outs (out_at last c) ∙ ap (λ (k : ℕ). k + 1) o.0, outs_at n outs log last c h at a o)

pub outs_init : (last : map.FinMap flow_cmp ℕ) (outs : List (Option ℕ)) (log : List Crossing) → last ≡ map.empty → outs ≡ [] → AreLast last [] × AreOuts 0 outs log
outs_init last outs log e f = (
  λ g. ap (λ (m : map.FinMap flow_cmp ℕ). map.get m g) e ∙ none_last g,
  (ap (λ (os : List (Option ℕ)). length os) f, λ p m l h. absurd (omega (arith, l))),
)

pub outs_next : (n : ℕ) (outs next : List (Option ℕ)) (log : List Crossing) (last more : map.FinMap flow_cmp ℕ) (c : Crossing) (v : Option ℕ)
    → n < length log → c ≡ get_or log n c → v ≡ out_at last c → next ≡ outs ++ v ∷ [] → more ≡ noted n c last
    → AreLast last (reverse (take n log)) × AreOuts n outs log → AreLast more (reverse (take (n + 1) log)) × AreOuts (n + 1) next log
outs_next n outs next log last more c v h at e f g inv =
    let count : n ≡ length (reverse (take n log)) = sym (length-reverse (take n log) ∙ length-take-le n log (omega (arith, h))) in
    let A : map.FinMap flow_cmp ℕ → List Crossing → Type 0 = λ m zs. AreLast m zs in
    let O : List (Option ℕ) → Type 0 = λ os. AreOuts (n + 1) os log in (
      subst (λ (m : map.FinMap flow_cmp ℕ). A m (reverse (take (n + 1) log))) (sym g)
          (subst (λ (zs : List Crossing). A (noted n c last) zs) (sym (one_back log n c h at)) (last_more last n c (reverse (take n log)) count inv.0)),
      subst O (sym (f ∙ ap (λ (o : Option ℕ). outs ++ o ∷ []) e)) (outs_more n outs log last c h at inv.0 inv.1),
    )

-- ---- stamps

went : (f : Flow) (o : Option Crossing) → passes false f o ≡ true → (m : HostMessage) × (m.flow ≡ f) × (o ≡ Some (crossing.Out m))
went f None e = absurd (cc)
went f (Some (crossing.Out m)) e = (m, sym (same_flow-true f m.flow e), refl)
went f (Some (crossing.In m)) e = absurd (cc)
went f (Some (crossing.Answer kind g)) e = absurd (cc)
went f (Some (crossing.Down g)) e = absurd (cc)
went f (Some (crossing.Up g)) e = absurd (cc)

came : (f : Flow) (o : Option Crossing) → passes true f o ≡ true → (m : HostMessage) × (m.flow ≡ f) × (o ≡ Some (crossing.In m))
came f None e = absurd (cc)
came f (Some (crossing.Out m)) e = absurd (cc)
came f (Some (crossing.In m)) e = (m, sym (same_flow-true f m.flow e), refl)
came f (Some (crossing.Answer kind g)) e = absurd (cc)
came f (Some (crossing.Down g)) e = absurd (cc)
came f (Some (crossing.Up g)) e = absurd (cc)

went_passes : (f : Flow) (log : List Crossing) (p : ℕ) → Passes going f p (reverse log) → passes false f (slice_get log p) ≡ true
went_passes f log p (m, e, c) = ap (λ (o : Option Crossing). passes false f o) (got_there log p (crossing.Out m) c) ∙ same_flow_is f m.flow e

came_passes : (f : Flow) (log : List Crossing) (p : ℕ) → Passes coming f p (reverse log) → passes true f (slice_get log p) ≡ true
came_passes f log p (m, e, c) = ap (λ (o : Option Crossing). passes true f o) (got_there log p (crossing.In m) c) ∙ same_flow_is f m.flow e

pub unsent : (log : List Crossing) (x : Life) (b : Bool) → b ≡ passes false (control_flow x.host x.peer) (slice_get log x.own_stamp) → b ≡ false
    → IsStamped (reverse log) x → ⊥
unsent log x b e f s = (let t = went_passes (control_flow x.host x.peer) log x.own_stamp s.own in cc)

pub untaken : (log : List Crossing) (x : Life) (b : Bool) → b ≡ passes true (control_flow x.peer x.host) (slice_get log x.partner_stamp) → b ≡ false
    → IsStamped (reverse log) x → ⊥
untaken log x b e f s = (let t = came_passes (control_flow x.peer x.host) log x.partner_stamp s.partner in cc)

-- where the partner's request came in, its message is known
asked_out : (log : List Crossing) (outs : List (Option ℕ)) (x : Life) → AreOuts (length log) outs log
    → passes true (control_flow x.peer x.host) (slice_get log x.partner_stamp) ≡ true
    → found_at (slice_get outs x.partner_stamp) ≡ last_out (control_flow x.peer x.host) (before x.partner_stamp (reverse log))
asked_out log outs x o e =
    let t = came (control_flow x.peer x.host) (slice_get log x.partner_stamp) e in
    let l = slice_get_within log x.partner_stamp (crossing.In t.0) t.2 in
    ap (λ (z : Option (Option ℕ)). found_at z) (o.1 x.partner_stamp t.0 l t.2)
    ∙ ap (λ (f : Flow). last_out f (reverse (take x.partner_stamp log))) t.1
    ∙ ap (λ (zs : List Crossing). last_out (control_flow x.peer x.host) zs) (sym (before_place log x.partner_stamp (omega (arith, l))))

pub unasked : (log : List Crossing) (outs : List (Option ℕ)) (x : Life) (b : Bool) (o : Option ℕ) → AreOuts (length log) outs log
    → b ≡ passes true (control_flow x.peer x.host) (slice_get log x.partner_stamp) → b ≡ true
    → o ≡ found_at (slice_get outs x.partner_stamp) → o ≡ None → IsStamped (reverse log) x → ⊥
unasked log outs x b o a e t f n s =
    let none : last_out (control_flow x.peer x.host) (before x.partner_stamp (reverse log)) ≡ None =
    sym (asked_out log outs x a (sym e ∙ t)) ∙ sym f ∙ n in
    absent (last_out (control_flow x.peer x.host) (before x.partner_stamp (reverse log))) none s.asked
  where
    absent : (z : Option ℕ) → z ≡ None → IsSome z → ⊥
    absent None e h = cc
    absent (Some p) e h = absurd (cc)

pub stamped_by : (log : List Crossing) (outs : List (Option ℕ)) (x : Life) (a b : Bool) (o : Option ℕ) (p : ℕ) → AreOuts (length log) outs log
    → a ≡ passes false (control_flow x.host x.peer) (slice_get log x.own_stamp) → a ≡ true
    → b ≡ passes true (control_flow x.peer x.host) (slice_get log x.partner_stamp) → b ≡ true
    → o ≡ found_at (slice_get outs x.partner_stamp) → o ≡ Some p
    → IsStamped (reverse log) x × (partner_request (reverse log) x ≡ Some (record { place = p; own = x.foreign; foreign = x.socket }))
stamped_by log outs x a b o p are e t f u g h =
    let v = went (control_flow x.host x.peer) (slice_get log x.own_stamp) (sym e ∙ t) in
    let w = came (control_flow x.peer x.host) (slice_get log x.partner_stamp) (sym f ∙ u) in
    let out : last_out (control_flow x.peer x.host) (before x.partner_stamp (reverse log)) ≡ Some p = sym (asked_out log outs x are (sym f ∙ u)) ∙ sym g ∙ h in
    let P : Option ℕ → Type 0 = λ z. IsSome z in (
      record {
        own = (v.0, v.1, crossed_there log x.own_stamp (crossing.Out v.0) v.2);
        partner = (w.0, w.1, crossed_there log x.partner_stamp (crossing.In w.0) w.2);
        asked = subst P (sym out) refl;
      },
      ap (λ (z : Option ℕ). named x z) out,
    )

-- ---- the first lives

pub none_named : (lives : List Life) (log : List Crossing) → AreNamed 0 [] lives log
none_named lives log = record {
  counts = refl;
  stamped = λ x c. (let t = contains_place (take 0 lives) x c in absurd (let k = get_took 0 lives t.0 x t.1 in omega (arith, k.0)));
  named = λ i x l e. absurd (omega (arith, l));
}

pub named_more : (n : ℕ) (names : List Name) (lives : List Life) (log : List Crossing) (x : Life) (name : Name) → n < length lives → x ≡ get_or lives n x
    → IsStamped log x × (partner_request log x ≡ Some name) → AreNamed n names lives log → AreNamed (n + 1) (names ++ name ∷ []) lives log
named_more n names lives log x name h at is a =
    let here : slice_get lives n ≡ Some x = slice_get_read lives (length lives) n x refl h at in
    record {
      counts = grown_length names name ∙ ap (λ (k : ℕ). k + 1) a.counts;
      stamped = λ y c.
          (let t = contains_place (take (n + 1) lives) y c in
          let k = get_took (n + 1) lives t.0 y t.1 in
          elim (below_cases t.0 n k.0) [
            | inl s ↦ (let there : slice_get lives n ≡ Some y = ap (λ (i : ℕ). slice_get lives i) (sym s) ∙ k.1 in
                let same : x ≡ y = cc in subst (λ (z : Life). IsStamped log z) same is.0)
            | inr b ↦ a.stamped y (place_contains (take n lives) t.0 y (get_take n lives t.0 y b k.1))
          ]);
      named = λ i y l e. elim (below_cases i n l) [
        | inl s ↦ (let there : slice_get lives n ≡ Some y = ap (λ (k : ℕ). slice_get lives k) (sym s) ∙ e in
            let same : x ≡ y = cc in
            (name, grown_last names name i (s ∙ sym a.counts), subst (λ (z : Life). partner_request log z ≡ Some name) same is.1))
        | inr b ↦ (let t = a.named i y b e in (t.0, grown_get names name i t.0 t.1, t.2))
      ];
    }

pub unstamped_here : (n : ℕ) (names : List Name) (lives : List Life) (log : List Crossing) (x : Life) → n < length lives → x ≡ get_or lives n x
    → (IsStamped log x → ⊥) → AreNamed n names lives log → EndsAt (λ k. AreStamped log (take k lives)) n
unstamped_here n names lives log x h at not a =
    let here : slice_get lives n ≡ Some x = slice_get_read lives (length lives) n x refl h at in
    (a.stamped, λ s. not (s x (place_contains (take (n + 1) lives) n x (get_take (n + 1) lives n x (omega arith) here))))

pub named_next : (n : ℕ) (names next : List Name) (lives : List Life) (log : List Crossing) (x : Life) (name : Name) → n < length lives → x ≡ get_or lives n x
    → next ≡ names ++ name ∷ [] → IsStamped log x × (partner_request log x ≡ Some name) → AreNamed n names lives log → AreNamed (n + 1) next lives log
named_next n names next lives log x name h at e is a =
    let P : List Name → Type 0 = λ ns. AreNamed (n + 1) ns lives log in subst P (sym e) (named_more n names lives log x name h at is a)

pub named_init : (names : List Name) (lives : List Life) (log : List Crossing) → names ≡ [] → AreNamed 0 names lives log
named_init names lives log e = let P : List Name → Type 0 = λ ns. AreNamed 0 ns lives log in subst P (sym e) (none_named lives log)

pub all_asked : (n : ℕ) (names : List Name) (lives : List Life) (log : List Crossing) → length lives ≤ n → n ≤ length lives → AreNamed n names lives log
    → AreNamed (length lives) names lives log
all_asked n names lives log h k a = let e : n ≡ length lives = omega (arith, h, k) in let P : ℕ → Type 0 = λ m. AreNamed m names lives log in subst P e a
