-- What an earlier life with the same requests shows of one: where that granted as much, nothing was sent past the grant of this.
use Rattle.book_judge.proofs.Common.{◌≡◌, ℕ, ◌+◌, ◌<◌, ◌==◌, Bool, true, ◌&&◌, List, length, get_or, Option, Some, None, refl, ap, sym, subst, ◌∙◌, nat_cmp, eqb-true, slice_get_read, Host, same_host, and_true, same_host-true, is_receive_socket, Name, own_request, receives, sends, Life}
use Rattle.std.specs.Prelude.{IfSome, nat_le}
use Rattle.book_judge.specs.Inside.Asked.{found_at, same_name, key}
use Rattle.book_judge.specs.Inside.Chains.{AreChained, ExceedsAt, GrantedAt, HasGranted, IsLast, fits, is_granted, repeats, is_shown, same_amount, shown_of}
use Rattle.std.specs.FinMap as map
use Rattle.std.specs.List.{slice_get}
use Rattle.promise.specs.declared.life.Amount.{Amount}
use Rattle.book_judge.proofs.Identities.Known.{same_true}

same_amounts : (a b : Amount) → same_amount a b ≡ true → a ≡ b
same_amounts a b h =
    let t = and_true (a.messages == b.messages) (a.bits == b.bits) h in
    let at : ℕ → ℕ → Amount = λ m s. record { messages = m; bits = s } in
    ap (λ (m : ℕ). at m a.bits) (eqb-true a.messages b.messages t.0)
    ∙ ap (λ (s : ℕ). at b.messages s) (eqb-true a.bits b.bits t.1)

-- what is tested of two lives, by what it is about
abbrev fits_by : Host → Host → Name → Name → Bool → Name → Life → Bool
fits_by host peer a own receiving b z =
    receiving && sends z && same_host peer z.host && same_host z.peer host && same_name a (own_request z)
    && same_name b own

abbrev granted_by_amounts : Amount → Amount → ℕ → ℕ → Bool
granted_by_amounts granted returned count size =
    nat_le (count + returned.messages) granted.messages && nat_le (size + returned.bits) granted.bits

pub fits_too : (a : Name) (x : Life) (b : Name) (y : Life) (c : Name) (z : Life) → a ≡ b → own_request x ≡ own_request y
    → x.host ≡ y.host → x.peer ≡ y.peer → fits a x c z ≡ fits b y c z
fits_too a x b y c z e own host peer =
    let kind : receives x ≡ receives y = ap (λ (n : Name). is_receive_socket n.own) own in
    ap (λ (h : Host). fits_by h x.peer a (own_request x) (receives x) c z) host
    ∙ ap (λ (h : Host). fits_by y.host h a (own_request x) (receives x) c z) peer
    ∙ ap (λ (n : Name). fits_by y.host y.peer n (own_request x) (receives x) c z) e
    ∙ ap (λ (n : Name). fits_by y.host y.peer b n (receives x) c z) own
    ∙ ap (λ (r : Bool). fits_by y.host y.peer b (own_request y) r c z) kind

-- the same requests, hosts and peers
pub repeats_true : (a : Name) (x : Life) (b : Name) (y : Life) → repeats a x b y ≡ true
    → (a ≡ b) × (own_request x ≡ own_request y) × (x.host ≡ y.host) × (x.peer ≡ y.peer)
repeats_true a x b y h =
    let u =
    and_true (same_name a b && same_name (own_request x) (own_request y) && same_host x.host y.host)
    (same_host x.peer y.peer) h in
    let v = and_true (same_name a b && same_name (own_request x) (own_request y)) (same_host x.host y.host) u.0 in
    let w = and_true (same_name a b) (same_name (own_request x) (own_request y)) v.0 in
    (same_true a b w.0, same_true (own_request x) (own_request y) w.1, same_host-true x.host y.host v.1, same_host-true x.peer y.peer u.1)

exceeds_too : (a : Name) (x : Life) (b : Name) (y : Life) (names : List Name) (lives : List Life) (i : ℕ) → a ≡ b
    → own_request x ≡ own_request y → x.host ≡ y.host → x.peer ≡ y.peer
    → x.granted ≡ y.granted → x.returned ≡ y.returned → ExceedsAt a x names lives i → ExceedsAt b y names lives i
exceeds_too a x b y names lives i e own host peer granted returned (c, z, f, g, fit, not) =
    let room : is_granted x z.messages (length z.bits) ≡ is_granted y z.messages (length z.bits) =
    ap (λ (m : Amount). granted_by_amounts m x.returned z.messages (length z.bits)) granted
    ∙ ap (λ (m : Amount). granted_by_amounts y.granted m z.messages (length z.bits)) returned in
    (c, z, f, g, sym (fits_too a x b y c z e own host peer) ∙ fit, sym room ∙ not)

shown_by : (a : Name) (x : Life) (names : List Name) (lives : List Life) (p : ℕ) (o : Option Name) (q : Option Life)
    → slice_get names p ≡ o → slice_get lives p ≡ q
    → shown_of a x o q ≡ true → GrantedAt names lives p → receives x ≡ true → (i : ℕ) → ExceedsAt a x names lives i → ⊥
shown_by a x names lives p None q e f h granted r i ex = absurd (cc)
shown_by a x names lives p (Some b) None e f h granted r i ex = absurd (cc)
shown_by a x names lives p (Some b) (Some y) e f h granted r i ex =
    let s = and_true (repeats a x b y && same_amount x.granted y.granted) (same_amount x.returned y.returned) h in
    let t = and_true (repeats a x b y) (same_amount x.granted y.granted) s.0 in
    let u = repeats_true a x b y t.0 in
    let kind : receives y ≡ true = ap (λ (n : Name). is_receive_socket n.own) (sym u.1) ∙ r in
    (granted b y e f kind).1 i
    (exceeds_too a x b y names lives i u.0 u.1 u.2 u.3 (same_amounts x.granted y.granted t.1) (same_amounts x.returned y.returned s.1) ex)

pub shown_granted : (a : Name) (x : Life) (names : List Name) (lives : List Life) (o : Option ℕ)
    → is_shown a x names lives o ≡ true → IfSome o (GrantedAt names lives)
    → is_granted x x.messages (length x.bits) ≡ true → HasGranted a x names lives
shown_granted a x names lives None h granted g r = absurd (cc)
shown_granted a x names lives (Some p) h granted g r =
    (g, shown_by a x names lives p (slice_get names p) (slice_get lives p) refl refl h granted r)

-- what holds of all lives before one holds of the last of them with its own request
pub earlier_all : (P : ℕ → Type 0) (lives : List Life) (before : List (Option ℕ)) (last : map.FinMap nat_cmp ℕ) (n : ℕ) (x : Life) (o : Option ℕ)
    → n < length lives
    → x ≡ get_or lives n x → AreChained (length lives) last before lives → o ≡ found_at (slice_get before n)
    → ((i : ℕ) → i < n → P i) → IfSome o P
earlier_all P lives before last n x o l e chains is all =
    let t = chains.links n x l (slice_get_read lives (length lives) n x refl l e) in
    let Q : Option ℕ → Type 0 = λ z. IfSome z P in
    subst Q (sym (is ∙ ap (λ (z : Option (Option ℕ)). found_at z) t.1)) (by t.0 t.2)
  where
    by : (z : Option ℕ) → IsLast (key (own_request x)) n lives z → IfSome z P
    by None h = tt
    by (Some p) h = all p h.0
