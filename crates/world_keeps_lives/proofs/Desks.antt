-- What is done to the connections of one pair, at one socket of the host.
pub use Rattle.world_keeps_lives.proofs.Books.{not_both as clash}
use Rattle.world_keeps_lives.proofs.Common.{◌≡◌, ◌⊎◌, inl, inr, ℕ, ◌==◌, ◌&&◌, ◌||◌, Bool, true, false, not, if◌then◌else◌, List, [], ◌∷◌, ◌++◌, map, find, Option, Some, None, is_some, refl, ap, sym, subst, ◌∙◌, eqb-true, Host, or_false, changed_first, has_cls, is_ending, is_mine_on, is_open, listener_on, listens_on, without_listener, Entry, Listener, Notice, both, not_is, Life, Kept, all_told, is_receive_socket, is_send_socket, Allocation, sends, AddsUp, EachIn, IsFresh, IsLifeOf, NoneOf, has_opened, mine_on}
use Rattle.std.proofs.lemmas.List.{append-nil}
use Rattle.net_sim.specs.Book as book
use Rattle.world_keeps_lives.proofs.Ends.{IsRefusing, IsSplit, mine_append, mine_one, none_changed, split}
use Rattle.world_keeps_lives.proofs.Books.{IsAside, each_aside, each_weaker}

-- ---- tests

-- ---- open ends

pub record IsAnOpen (e : Entry) : Type 0 where
  pub asked : is_some e.asked ≡ true
  pub partner : is_some e.partner ≡ true
  pub unclosed : has_cls e.closing ≡ false
  pub unheard : e.partner_closed ≡ false

pub open_parts : (e : Entry) → is_open e ≡ true → IsAnOpen e
open_parts e o =
    let p : (has_opened e ≡ true) × (not (is_ending e) ≡ true) = both (has_opened e) (not (is_ending e)) o in
    let q : (is_some e.asked ≡ true) × (is_some e.partner ≡ true) = both (is_some e.asked) (is_some e.partner) p.0 in
    let r : (has_cls e.closing ≡ false) × (e.partner_closed ≡ false) = or_false (has_cls e.closing) e.partner_closed (not_is _ p.1) in
    record { asked = q.0; partner = q.1; unclosed = r.0; unheard = r.1 }

pub open_opened : (e : Entry) → is_open e ≡ true → has_opened e ≡ true
open_opened e o = (both (has_opened e) (not (is_ending e)) o).0

-- it is this host's own
pub open_mine : (e : Entry) → IsRefusing e → is_open e ≡ true → e.mine ≡ true
open_mine e r o = by e.mine refl where
  by : (b : Bool) → e.mine ≡ b → b ≡ true
  by true f = refl
  by false f = clash _ _ (r f) (open_parts e o).unclosed

pub own_is : (k : ℕ) (e : Entry) → is_mine_on k e ≡ true → e.own ≡ k
own_is k e is = eqb-true e.own k (both e.mine (e.own == k) is).1

pub own_off : (k : ℕ) (e : Entry) → e.mine ≡ true → is_mine_on k e ≡ false → (e.own == k) ≡ false
own_off k e mine off = by e.mine refl off where
  by : (b : Bool) → e.mine ≡ b → (b && e.own == k) ≡ false → (e.own == k) ≡ false
  by true f g = g
  by false f g = clash _ e.mine mine f

-- a life of an end stays one where the end only closes
pub record IsLess (e new : Entry) : Type 0 where
  pub mine : (new.mine ≡ e.mine) × (new.own ≡ e.own)
  pub foreign : new.foreign ≡ e.foreign
  pub asked : new.asked ≡ e.asked
  pub partner : new.partner ≡ e.partner
  pub allocation : new.allocation ≡ e.allocation
  pub waits : is_open new ≡ true → (is_open e ≡ true) × (new.bits ≡ e.bits)
  pub fresh : IsFresh e → IsFresh new

-- the CLS of a sending end is queued only when nothing waits
abbrev pub Drains : Entry → Entry → Type 0
Drains e new =
    is_send_socket e.own ≡ true → is_receive_socket e.foreign ≡ true → has_cls new.closing ≡ true → new.partner_closed ≡ false → (e.partner_closed ≡ false) × ((has_cls e.closing ≡ true) ⊎ ((has_cls e.closing ≡ false) × (e.bits ≡ [])))

less_life : (p : Host) (e new : Entry) (x : Life) (t : List Bool) → IsLess e new → Drains e new → IsLifeOf p e x t → IsLifeOf p new x t
less_life p e new x t less drains h = record {
  peers = h.peers;
  foreign = less.foreign ∙ h.foreign;
  own = less.asked ∙ h.own;
  partner = less.partner ∙ h.partner;
  waits = λ o s. h.waits (less.waits o).0 s ∙ ap (λ (bits : List Bool). x.bits ++ bits) (sym (less.waits o).1);
  drained = λ q r s c f. by (kind q) (foreign r) s (drains (kind q) (foreign r) c f).0 (drains (kind q) (foreign r) c f).1;
  left = λ r. subst (λ (c : Allocation). AddsUp x c) (sym less.allocation) (h.left r);
} where
  kind : is_send_socket new.own ≡ true → is_send_socket e.own ≡ true
  kind q = ap is_send_socket (sym less.mine.1) ∙ q

  foreign : is_receive_socket new.foreign ≡ true → is_receive_socket e.foreign ≡ true
  foreign r = ap is_receive_socket (sym less.foreign) ∙ r

  opened : has_opened e ≡ true
  opened = ap (λ (o : Option ℕ). is_some o && is_some e.partner) h.own ∙ ap is_some h.partner

  by : is_send_socket e.own ≡ true → is_receive_socket e.foreign ≡ true → sends x ≡ true → e.partner_closed ≡ false → (has_cls e.closing ≡ true) ⊎ ((has_cls e.closing ≡ false) × (e.bits ≡ [])) → t ≡ x.bits
  by q r s f (inl c) = h.drained q r s c f
  by q r s f (inr o) =
      let unclosed : has_cls e.closing ≡ false = o.0 in
      let is : is_open e ≡ true = (rw (opened, unclosed, f) refl) in
      h.waits is s ∙ ap (λ (bits : List Bool). x.bits ++ bits) o.1 ∙ append-nil x.bits

-- ---- a place

-- the socket's end is none or in this pair, or it is another pair's
pub data Place : Type 0 where
  Near : Place
  Elsewhere : (peer : Host) → (end : Entry) → Place

abbrev pub At : Host → ℕ → Place → Host → List Entry → Bool → Kept → Type 0
At a k Near p [] l κ = EachIn a k NoneOf κ
At a k Near p (e ∷ []) false κ = IsFresh e × EachIn a k (IsLifeOf p e) κ
At a k Near p (e ∷ []) true κ = ⊥
At a k Near p (e ∷ f ∷ more) l κ = ⊥
At a k (Elsewhere g e) p [] false κ = EachIn a k (IsLifeOf g e) κ
At a k (Elsewhere g e) p [] true κ = ⊥
At a k (Elsewhere g e) p (f ∷ more) l κ = ⊥

abbrev pub AreAside : Host → ℕ → List Notice → Type 0
AreAside a k [] = Unit {0}
AreAside a k (n ∷ ns) = IsAside a k n × AreAside a k ns

-- ---- sockets that listen

pub without_same : (k : ℕ) (ls : List Listener) → listens_on k (without_listener k ls) ≡ false
without_same k [] = refl
without_same k (l ∷ ls) = by (without_same k ls) (l.socket == k) refl where
  by : listens_on k (without_listener k ls) ≡ false → (b : Bool) → (l.socket == k) ≡ b → listens_on k (without_listener k (l ∷ ls)) ≡ false
  by rest true e = rw e rest
  by rest false e = rw (e, e) rest

pub without_other : (k j : ℕ) (ls : List Listener) → (j == k) ≡ false → listens_on k (without_listener j ls) ≡ listens_on k ls
without_other k j [] off = refl
without_other k j (l ∷ ls) off = by (without_other k j ls off) (l.socket == j) refl where
  by : listens_on k (without_listener j ls) ≡ listens_on k ls → (b : Bool) → (l.socket == j) ≡ b → listens_on k (without_listener j (l ∷ ls)) ≡ listens_on k (l ∷ ls)
  by rest true e =
      let there : l.socket ≡ j = eqb-true l.socket j e in
      let away : (l.socket == k) ≡ false = subst (λ (n : ℕ). (n == k) ≡ false) (sym there) off in
      rw (e, away) rest
  by rest false e = rw e (ap (λ (b : Bool). l.socket == k || b) rest)

pub listens_found : (k : ℕ) (ls : List Listener) (l : Listener) → listener_on k ls ≡ Some l → listens_on k ls ≡ true
listens_found k [] l f = absurd (cc)
listens_found k (x ∷ ls) l f = by (listens_found k ls l) (x.socket == k) refl f where
  by : (listener_on k ls ≡ Some l → listens_on k ls ≡ true) → (b : Bool) → (x.socket == k) ≡ b → listener_on k (x ∷ ls) ≡ Some l → listens_on k (x ∷ ls) ≡ true
  by rest true e g = rw e refl
  by rest false e g = rw e (rest (rw e at g))

module _ (a : Host) (k : ℕ) where
  -- ---- one place, where what is kept changes

  pub at_same : (m : Place) (p : Host) (ms : List Entry) (l : Bool) (κ new : Kept) → ((P : Life → List Bool → Type 0) → EachIn a k P κ → EachIn a k P new) → At a k m p ms l κ → At a k m p ms l new
  at_same Near p [] l κ new w h = w NoneOf h
  at_same Near p (e ∷ []) false κ new w h = (h.0, w (IsLifeOf p e) h.1)
  at_same Near p (e ∷ []) true κ new w h = h
  at_same Near p (e ∷ f ∷ more) l κ new w h = h
  at_same (Elsewhere g e) p [] false κ new w h = w (IsLifeOf g e) h
  at_same (Elsewhere g e) p [] true κ new w h = h
  at_same (Elsewhere g e) p (f ∷ more) l κ new w h = h

  pub each_all_aside : (P : Life → List Bool → Type 0) (ns : List Notice) (κ : Kept) → AreAside a k ns → EachIn a k P κ → EachIn a k P (all_told a ns κ)
  each_all_aside P [] κ off e = e
  each_all_aside P (n ∷ ns) κ off e = each_all_aside P ns (book.book_told a n κ) off.1 (each_aside a k P n κ.book.lives κ.handed off.0 e)

  pub at_aside : (m : Place) (p : Host) (ms : List Entry) (l : Bool) (ns : List Notice) (κ : Kept) → AreAside a k ns → At a k m p ms l κ → At a k m p ms l (all_told a ns κ)
  at_aside m p ms l ns κ off h = at_same m p ms l κ _ (λ P. each_all_aside P ns κ off) h

  -- ---- one place, where its ends change

  record IsAlone (front rest : List Entry) : Type 0 where
    none_before : front ≡ []
    none_behind : rest ≡ []

  alone : (m : Place) (p : Host) (front : List Entry) (e : Entry) (rest : List Entry) (l : Bool) (κ : Kept) → At a k m p (front ++ e ∷ rest) l κ → IsAlone front rest
  alone Near p [] e [] l κ h = record { none_before = refl; none_behind = refl }
  alone Near p [] e (f ∷ rest) l κ h = absurd h
  alone Near p (g ∷ []) e rest l κ h = absurd h
  alone Near p (g ∷ f ∷ front) e rest l κ h = absurd h
  alone (Elsewhere q x) p [] e rest l κ h = absurd h
  alone (Elsewhere q x) p (g ∷ front) e rest l κ h = absurd h

  pub at_changed : (m : Place) (p : Host) (test : Entry → Bool) (change : Entry → Entry) (xs : List Entry) (l : Bool) (κ new : Kept) (e : Entry) → find test xs ≡ Some e → is_mine_on k (change e) ≡ is_mine_on k e
      → (is_mine_on k e ≡ true → At a k m p (e ∷ []) l κ → At a k m p (change e ∷ []) l new)
      → (is_mine_on k e ≡ false → (ms : List Entry) → At a k m p ms l κ → At a k m p ms l new)
      → At a k m p (mine_on k xs) l κ → At a k m p (mine_on k (changed_first test change xs)) l new
  at_changed m p test change xs l κ new e found keeps here away h = by (is_mine_on k e) refl where
    s : IsSplit test change xs e
    s = split test change xs e found

    old : (b : Bool) → is_mine_on k e ≡ b → mine_on k xs ≡ mine_on k (split test change xs e found).front ++ (if b then e ∷ mine_on k (split test change xs e found).rest else mine_on k (split test change xs e found).rest)
    old b f =
        ap (λ (ys : List Entry). mine_on k ys) (split test change xs e found).is ∙ mine_append k (split test change xs e found).front (e ∷ (split test change xs e found).rest)
        ∙ ap (λ (ys : List Entry). mine_on k (split test change xs e found).front ++ ys) (mine_one k e (split test change xs e found).rest b f)

    now : (b : Bool) → is_mine_on k e ≡ b → mine_on k (changed_first test change xs) ≡ mine_on k (split test change xs e found).front ++ (if b then change e ∷ mine_on k (split test change xs e found).rest else mine_on k (split test change xs e found).rest)
    now b f =
        ap (λ (ys : List Entry). mine_on k ys) (split test change xs e found).now ∙ mine_append k (split test change xs e found).front (change e ∷ (split test change xs e found).rest)
        ∙ ap (λ (ys : List Entry). mine_on k (split test change xs e found).front ++ ys) (mine_one k (change e) (split test change xs e found).rest b (keeps ∙ f))

    by : (b : Bool) → is_mine_on k e ≡ b → At a k m p (mine_on k (changed_first test change xs)) l new
    by true f =
        let front : List Entry = mine_on k (split test change xs e found).front in
        let rest : List Entry = mine_on k (split test change xs e found).rest in
        let was : At a k m p (front ++ e ∷ rest) l κ = subst (λ (ys : List Entry). At a k m p ys l κ) (old true f) h in
        let one : IsAlone front rest = alone m p front e rest l κ was in
        let single : (y : Entry) → front ++ y ∷ rest ≡ y ∷ [] = λ y. ap (λ (ys : List Entry). ys ++ y ∷ rest) one.none_before ∙ ap (λ (ys : List Entry). y ∷ ys) one.none_behind in
        let done : At a k m p (change e ∷ []) l new = here f (subst (λ (ys : List Entry). At a k m p ys l κ) (single e) was) in
        subst (λ (ys : List Entry). At a k m p ys l new) (sym (now true f ∙ single (change e))) done
    by false f =
        let same : mine_on k (changed_first test change xs) ≡ mine_on k xs = now false f ∙ sym (old false f) in
        subst (λ (ys : List Entry). At a k m p ys l new) (sym same) (away f (mine_on k xs) h)

  -- ends that only close
  pub at_less : (m : Place) (p : Host) (e new : Entry) (l : Bool) (κ : Kept) → IsLess e new → Drains e new → At a k m p (e ∷ []) l κ → At a k m p (new ∷ []) l κ
  at_less Near p e new false κ less drains h = (less.fresh h.0, each_weaker a k (IsLifeOf p e) _ κ.book.lives κ.handed (λ x t there i. less_life p e new x t less drains i) h.1)
  at_less Near p e new true κ less drains h = h
  at_less (Elsewhere g y) p e new l κ less drains h = h

  mine_same : (e new : Entry) → IsLess e new → is_mine_on k new ≡ is_mine_on k e
  mine_same e new less = ap (λ (b : Bool). b && new.own == k) less.mine.0 ∙ ap (λ (n : ℕ). e.mine && n == k) less.mine.1

  pub at_lessened : (m : Place) (p : Host) (test : Entry → Bool) (change : Entry → Entry) (xs : List Entry) (l : Bool) (κ : Kept) → ((e : Entry) → IsLess e (change e)) → ((e : Entry) → Drains e (change e))
      → At a k m p (mine_on k xs) l κ → At a k m p (mine_on k (changed_first test change xs)) l κ
  at_lessened m p test change xs l κ less drains h = by (find test xs) refl where
    by : (o : Option Entry) → find test xs ≡ o → At a k m p (mine_on k (changed_first test change xs)) l κ
    by None f = subst (λ (ys : List Entry). At a k m p (mine_on k ys) l κ) (sym (none_changed test change xs f)) h
    by (Some e) f = at_changed m p test change xs l κ κ e f (mine_same e (change e) (less e)) (λ is i. at_less m p e (change e) l κ (less e) (drains e) i) (λ is ms i. i) h

  mapped_mine : (f : Entry → Entry) (xs : List Entry) → ((e : Entry) → IsLess e (f e)) → mine_on k (map f xs) ≡ map f (mine_on k xs)
  mapped_mine f [] less = refl
  mapped_mine f (x ∷ xs) less = by (mapped_mine f xs less) (is_mine_on k x) refl where
    by : mine_on k (map f xs) ≡ map f (mine_on k xs) → (b : Bool) → is_mine_on k x ≡ b → mine_on k (map f (x ∷ xs)) ≡ map f (mine_on k (x ∷ xs))
    by rest true e = rw (e, let s : is_mine_on k (f x) ≡ true = mine_same x (f x) (less x) ∙ e in s) (ap (λ (ys : List Entry). f x ∷ ys) rest)
    by rest false e = rw (e, let s : is_mine_on k (f x) ≡ false = mine_same x (f x) (less x) ∙ e in s) rest

  at_map : (m : Place) (p : Host) (f : Entry → Entry) (ms : List Entry) (l : Bool) (κ : Kept) → ((e : Entry) → IsLess e (f e)) → ((e : Entry) → Drains e (f e)) → At a k m p ms l κ → At a k m p (map f ms) l κ
  at_map m p f [] l κ less drains h = h
  at_map m p f (e ∷ []) l κ less drains h = at_less m p e (f e) l κ (less e) (drains e) h
  at_map Near p f (e ∷ g ∷ ms) l κ less drains h = h
  at_map (Elsewhere q y) p f (e ∷ g ∷ ms) l κ less drains h = h

  pub at_mapped : (m : Place) (p : Host) (f : Entry → Entry) (xs : List Entry) (l : Bool) (κ : Kept) → ((e : Entry) → IsLess e (f e)) → ((e : Entry) → Drains e (f e)) → At a k m p (mine_on k xs) l κ → At a k m p (mine_on k (map f xs)) l κ
  at_mapped m p f xs l κ less drains h = subst (λ (ys : List Entry). At a k m p ys l κ) (sym (mapped_mine f xs less)) (at_map m p f _ l κ less drains h)
