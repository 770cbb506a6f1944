-- Lists of places that have at least those of the open lives.
use Rattle.net_sim.proofs.Common.{◌≡◌, inl, inr, ℕ, ◌<◌, ◌≤◌, ◌&&◌, ◌==◌, Bool, true, false, not, if◌then◌else◌, zero, suc, List, [], ◌∷◌, ◌++◌, length, take, drop, map, filter, slice_set, refl, ap, sym, subst, ◌∙◌, arith, eq-eqb, eqb-true, map-append, take-append_seam, Host, same_host, Life, changed_when, where_it, handed_to, lives_at, ends, AreKept, AreMarked, Covers, Holds, marked, is_open_at, IsEndNoted, IsNoted, Undo}
use Rattle.std.proofs.Common.{slice_index_or}
use Rattle.interface.proofs.lemmas.{same_host-true}
use Rattle.net_sim.specs.Inside.Endings.{Ending}
use Rattle.net_sim.specs.Inside.Open.{Extends, IsKept, has_host, has_socket, host_key, places_at, places_of, socket_key}
use Rattle.net_sim.specs.Inside.Places.{changed_at}
use Rattle.net_sim.specs.declared.life.Ending.TheVariants as ending
use Rattle.net_sim.proofs.Books.Places.{hand_shifted, handed_at, none_handed, nothing_left, shifted, where_here}

-- ---- marks

pub same_long : (test : Life → Bool) (bs : List Bool) (xs : List Life) → AreMarked test bs xs → length bs ≡ length xs
same_long test [] [] h = refl
same_long test [] (x ∷ xs) h = absurd h
same_long test (b ∷ bs) [] h = absurd h
same_long test (b ∷ bs) (x ∷ xs) h = ap suc (same_long test bs xs h.1)

-- fewer lives are looked for
fewer : (test more : Life → Bool) → ((x : Life) → test x ≡ true → more x ≡ true) → (bs : List Bool) (xs : List Life) → AreMarked more bs xs → AreMarked test bs xs
fewer test more less [] [] h = tt
fewer test more less [] (x ∷ xs) h = h
fewer test more less (b ∷ bs) [] h = h
fewer test more less (b ∷ bs) (x ∷ xs) h = ((λ is. h.0 (less x is)), fewer test more less bs xs h.1)

pub holds_fewer : (test more : Life → Bool) → ((x : Life) → test x ≡ true → more x ≡ true) → (ats : List ℕ) (xs : List Life) → Holds more ats xs → Holds test ats xs
holds_fewer test more less ats xs h = (h.0, h.1, fewer test more less h.0 xs h.2)

-- ---- a life more

marked_more : (bs : List Bool) → marked (bs ++ true ∷ []) ≡ marked bs ++ length bs ∷ []
marked_more [] = refl
marked_more (b ∷ bs) = by (ap (λ (ats : List ℕ). map suc ats) (marked_more bs) ∙ map-append suc (marked bs) (length bs ∷ [])) b where
  by : map suc (marked (bs ++ true ∷ [])) ≡ map suc (marked bs) ++ suc (length bs) ∷ [] → (c : Bool)
      → (if c then 0 ∷ map suc (marked (bs ++ true ∷ [])) else map suc (marked (bs ++ true ∷ []))) ≡ (if c then 0 ∷ map suc (marked bs) else map suc (marked bs)) ++ suc (length bs) ∷ []
  by rest true = ap (λ (ats : List ℕ). 0 ∷ ats) rest
  by rest false = rest

marked_same : (bs : List Bool) → marked (bs ++ false ∷ []) ≡ marked bs
marked_same [] = refl
marked_same (b ∷ bs) = ap (λ (ats : List ℕ). if b then 0 ∷ map suc ats else map suc ats) (marked_same bs)

are_more : (test : Life → Bool) (b : Bool) (x : Life) → (test x ≡ true → b ≡ true) → (bs : List Bool) (xs : List Life) → AreMarked test bs xs → AreMarked test (bs ++ b ∷ []) (xs ++ x ∷ [])
are_more test b x is [] [] h = (is, tt)
are_more test b x is [] (y ∷ xs) h = absurd h
are_more test b x is (c ∷ bs) [] h = absurd h
are_more test b x is (c ∷ bs) (y ∷ xs) h = (h.0, are_more test b x is bs xs h.1)

pub holds_more : (test : Life → Bool) (ats : List ℕ) (xs : List Life) (x : Life) → Holds test ats xs → Holds test (ats ++ length xs ∷ []) (xs ++ x ∷ [])
holds_more test ats xs x h = (
  h.0 ++ true ∷ [],
  ap (λ (ns : List ℕ). ns ++ length xs ∷ []) h.1 ∙ ap (λ (n : ℕ). marked h.0 ++ n ∷ []) (sym (same_long test h.0 xs h.2)) ∙ sym (marked_more h.0),
  are_more test true x (λ is. refl) h.0 xs h.2,
)

pub holds_aside : (test : Life → Bool) (ats : List ℕ) (xs : List Life) (x : Life) → test x ≡ false → Holds test ats xs → Holds test ats (xs ++ x ∷ [])
holds_aside test ats xs x off h =
    (h.0 ++ false ∷ [], h.1 ∙ sym (marked_same h.0), are_more test false x (λ is. absurd (let r : true ≡ false = sym is ∙ off in cc)) h.0 xs h.2)

-- ---- places of lives that have ended go

abbrev Opens : (Life → Bool) → Type 0
Opens test = (x : Life) → test x ≡ true → x.ended ≡ false

left_marks : List Bool → List Life → List Bool
left_marks [] xs = []
left_marks (b ∷ bs) [] = []
left_marks (b ∷ bs) (x ∷ xs) = (b && not x.ended) ∷ left_marks bs xs

filter_shift : (y : Life) (ys : List Life) (ats : List ℕ) → filter (is_open_at (y ∷ ys)) (map suc ats) ≡ map suc (filter (is_open_at ys) ats)
filter_shift y ys [] = refl
filter_shift y ys (at ∷ ats) = by (filter_shift y ys ats) (is_open_at ys at) where
  by : filter (is_open_at (y ∷ ys)) (map suc ats) ≡ map suc (filter (is_open_at ys) ats)
      → (b : Bool) → (if b then suc at ∷ filter (is_open_at (y ∷ ys)) (map suc ats) else filter (is_open_at (y ∷ ys)) (map suc ats)) ≡ map suc (if b then at ∷ filter (is_open_at ys) ats else filter (is_open_at ys) ats)
  by rest true = ap (λ (all : List ℕ). suc at ∷ all) rest
  by rest false = rest

marked_left : (test : Life → Bool) (bs : List Bool) (xs : List Life) → AreMarked test bs xs → filter (is_open_at xs) (marked bs) ≡ marked (left_marks bs xs)
unfolding left_marks
marked_left test [] [] h = refl
marked_left test [] (x ∷ xs) h = absurd h
marked_left test (b ∷ bs) [] h = absurd h
marked_left test (b ∷ bs) (x ∷ xs) h = by (filter_shift x xs (marked bs) ∙ ap (λ (ats : List ℕ). map suc ats) (marked_left test bs xs h.1)) b (not x.ended) refl where
  by : filter (is_open_at (x ∷ xs)) (map suc (marked bs)) ≡ map suc (marked (left_marks bs xs)) → (c o : Bool) → not x.ended ≡ o
      → filter (is_open_at (x ∷ xs)) (if c then 0 ∷ map suc (marked bs) else map suc (marked bs)) ≡ (if c && o then 0 ∷ map suc (marked (left_marks bs xs)) else map suc (marked (left_marks bs xs)))
  by rest true true is = ap (λ (o : Bool). if o then 0 ∷ filter (is_open_at (x ∷ xs)) (map suc (marked bs)) else filter (is_open_at (x ∷ xs)) (map suc (marked bs))) is ∙ ap (λ (ats : List ℕ). 0 ∷ ats) rest
  by rest true false is = ap (λ (o : Bool). if o then 0 ∷ filter (is_open_at (x ∷ xs)) (map suc (marked bs)) else filter (is_open_at (x ∷ xs)) (map suc (marked bs))) is ∙ rest
  by rest false true is = rest
  by rest false false is = rest

are_left : (test : Life → Bool) → Opens test → (bs : List Bool) (xs : List Life) → AreMarked test bs xs → AreMarked test (left_marks bs xs) xs
unfolding left_marks
are_left test opens [] [] h = tt
are_left test opens [] (x ∷ xs) h = h
are_left test opens (b ∷ bs) [] h = absurd h
are_left test opens (b ∷ bs) (x ∷ xs) h = ((λ is. rw (h.0 is, opens x is) refl), are_left test opens bs xs h.1)

pub holds_left : (test : Life → Bool) → Opens test → (ats : List ℕ) (xs : List Life) → Holds test ats xs → Holds test (filter (is_open_at xs) ats) xs
holds_left test opens ats xs h =
    (left_marks h.0 xs, ap (λ (ns : List ℕ). filter (is_open_at xs) ns) h.1 ∙ marked_left test h.0 xs h.2, are_left test opens h.0 xs h.2)

holds_extended : (test : Life → Bool) → Opens test → (old new : List ℕ) (xs : List Life) (x : Life) → Extends xs (length xs) old new → Holds test old xs → Holds test new (xs ++ x ∷ [])
holds_extended test opens old new xs x (inl is) h = subst (λ (ats : List ℕ). Holds test ats (xs ++ x ∷ [])) (sym is) (holds_more test old xs x h)
holds_extended test opens old new xs x (inr is) h =
    subst (λ (ats : List ℕ). Holds test ats (xs ++ x ∷ [])) (sym is) (holds_more test (filter (is_open_at xs) old) xs x (holds_left test opens old xs h))

-- ---- the lists of hosts and of sockets

open_of : (a b : Bool) → (a && not b) ≡ true → (a ≡ true) × (b ≡ false)
open_of true false e = (refl, refl)
open_of true true e = absurd (cc)
open_of false b e = absurd (cc)

-- a list, by its number
extended : (key : Life → ℕ) (old new : List (List ℕ)) (at : ℕ) (xs : List Life) (x : Life) → key x ≡ at → Extends xs (length xs) (slice_index_or old at []) (slice_index_or new at []) → ((k : ℕ) → (k ≡ at → ⊥) → slice_index_or new k [] ≡ slice_index_or old k [])
    → (k : ℕ) → Holds (λ y. key y == k && not y.ended) (slice_index_or old k []) xs → Holds (λ y. key y == k && not y.ended) (slice_index_or new k []) (xs ++ x ∷ [])
extended key old new at xs x is here others k h = by (key x == k) refl where
  by : (b : Bool) → (key x == k) ≡ b → Holds (λ y. key y == k && not y.ended) (slice_index_or new k []) (xs ++ x ∷ [])
  by true e =
      let same : at ≡ k = sym is ∙ eqb-true (key x) k e in
      holds_extended (λ y. key y == k && not y.ended) (λ y on. (open_of (key y == k) y.ended on).1) (slice_index_or old k []) (slice_index_or new k []) xs x
      (subst (λ (n : ℕ). Extends xs (length xs) (slice_index_or old n []) (slice_index_or new n [])) same here) h
  by false e =
      subst (λ (ats : List ℕ). Holds (λ y. key y == k && not y.ended) ats (xs ++ x ∷ []))
      (sym (others k (λ same. let r : true ≡ false = sym (eq-eqb (key x) k (is ∙ sym same)) ∙ e in absurd (cc))))
      (holds_aside (λ y. key y == k && not y.ended) (slice_index_or old k []) xs x (rw e refl) h)

pub covers_more : (hosts sockets hosts2 sockets2 : List (List ℕ)) (host : Host) (socket a b : ℕ) (xs : List Life) (x : Life) → x.host ≡ host → x.socket ≡ socket → a ≡ host_key host → b ≡ socket_key host socket
    → Extends xs (length xs) (slice_index_or hosts a []) (slice_index_or hosts2 a []) → ((k : ℕ) → (k ≡ a → ⊥) → slice_index_or hosts2 k [] ≡ slice_index_or hosts k [])
    → Extends xs (length xs) (slice_index_or sockets b []) (slice_index_or sockets2 b []) → ((k : ℕ) → (k ≡ b → ⊥) → slice_index_or sockets2 k [] ≡ slice_index_or sockets k [])
    → Covers hosts sockets xs → Covers hosts2 sockets2 (xs ++ x ∷ [])
covers_more hosts sockets hosts2 sockets2 host socket a b xs x h s first second here others there apart c = record {
  by_host = λ k. extended (λ y. host_key y.host) hosts hosts2 a xs x (ap (λ (g : Host). host_key g) h ∙ sym first) here others k (c.by_host k);
  by_socket = λ k. extended (λ y. socket_key y.host y.socket) sockets sockets2 b xs x (ap (λ (g : Host). socket_key g x.socket) h ∙ ap (λ (n : ℕ). socket_key host n) s ∙ sym second) there apart k (c.by_socket k);
}

-- ---- where to look

and_first : (a b : Bool) → (a && b) ≡ true → a ≡ true
and_first true b e = refl
and_first false b e = absurd (cc)

at_key : (h : Host) (socket : ℕ) (x : Life) → lives_at h socket x ≡ true → has_socket (socket_key h socket) x ≡ true
at_key h socket x is =
    let two : ((same_host h x.host && x.socket == socket) ≡ true) × (x.ended ≡ false) = open_of (same_host h x.host && x.socket == socket) x.ended is in
    let host : h ≡ x.host = same_host-true h x.host (and_first (same_host h x.host) (x.socket == socket) two.0) in
    let at : x.socket ≡ socket = eqb-true x.socket socket (and_second (same_host h x.host) (x.socket == socket) two.0) in
    let same : socket_key x.host x.socket ≡ socket_key h socket = ap (λ (g : Host). socket_key g x.socket) (sym host) ∙ ap (λ (n : ℕ). socket_key h n) at in
    rw (eq-eqb (socket_key x.host x.socket) (socket_key h socket) same, two.1) refl where
      and_second : (a b : Bool) → (a && b) ≡ true → b ≡ true
      and_second true b e = e
      and_second false b e = absurd (cc)

on_key : (h : Host) (x : Life) → same_host h x.host ≡ true → x.ended ≡ false → has_host (host_key h) x ≡ true
on_key h x is goes =
    let host : h ≡ x.host = same_host-true h x.host is in
    rw (eq-eqb (host_key x.host) (host_key h) (ap (λ (g : Host). host_key g) (sym host)), goes) refl

pub look_at : (hosts sockets : List (List ℕ)) (h : Host) (socket : ℕ) (xs : List Life) → Covers hosts sockets xs → Holds (lives_at h socket) (places_at h socket sockets) xs
look_at hosts sockets h socket xs c = holds_fewer (lives_at h socket) (has_socket (socket_key h socket)) (at_key h socket) (places_at h socket sockets) xs (c.by_socket (socket_key h socket))

pub look_of : (hosts sockets : List (List ℕ)) (e : Ending) (xs : List Life) → Covers hosts sockets xs → Holds (ends e) (places_of e hosts sockets) xs
look_of hosts sockets (ending.Between h socket peer foreign) xs c =
    holds_fewer (ends (ending.Between h socket peer foreign)) (lives_at h socket) (λ x is. and_first (lives_at h socket x) (same_host peer x.peer) (and_first (lives_at h socket x && same_host peer x.peer) (x.foreign == foreign) is))
    (places_at h socket sockets) xs (look_at hosts sockets h socket xs c)
look_of hosts sockets (ending.With h peer) xs c =
    holds_fewer (ends (ending.With h peer)) (has_host (host_key h))
    (λ x is. let two : ((same_host h x.host && same_host peer x.peer) ≡ true) × (x.ended ≡ false) = open_of (same_host h x.host && same_host peer x.peer) x.ended is in on_key h x (and_first (same_host h x.host) (same_host peer x.peer) two.0) two.1)
    (slice_index_or hosts (host_key h) []) xs (c.by_host (host_key h))
look_of hosts sockets (ending.On h) xs c =
    holds_fewer (ends (ending.On h)) (has_host (host_key h)) (λ x is. let two : (same_host h x.host ≡ true) × (x.ended ≡ false) = open_of (same_host h x.host) x.ended is in on_key h x two.0 two.1)
    (slice_index_or hosts (host_key h) []) xs (c.by_host (host_key h))

-- ---- lives that are kept where they are

pub kept_same : (xs : List Life) → AreKept xs xs
kept_same [] = tt
kept_same (x ∷ xs) = ((refl, refl, λ e. e), kept_same xs)

pub kept_set : (xs ys : List Life) (at : ℕ) (d x y : Life) → AreKept xs ys → x ≡ slice_index_or ys at d → IsKept x y → AreKept xs (slice_set ys at y)
kept_set [] [] at d x y h is keeps = tt
kept_set [] (z ∷ ys) at d x y h is keeps = absurd h
kept_set (w ∷ xs) [] at d x y h is keeps = h
kept_set (w ∷ xs) (z ∷ ys) zero d x y h is keeps =
    ((keeps.0 ∙ ap (λ (v : Life). v.host) is ∙ h.0.0, keeps.1 ∙ ap (λ (v : Life). v.socket) is ∙ h.0.1, λ e. h.0.2 (ap (λ (v : Life). v.ended) (sym is) ∙ keeps.2 e)), h.1)
kept_set (w ∷ xs) (z ∷ ys) (suc at) d x y h is keeps = (h.0, kept_set xs ys at d x y h.1 is keeps)

-- what is noted keeps a life
pub noted_kept : (at : ℕ) (us vs : List Undo) (x y : Life) → IsNoted at us x vs y → IsKept x y
noted_kept at us vs x y (inl same) = (ap (λ (v : Life). v.host) same.1, ap (λ (v : Life). v.socket) same.1, λ e. ap (λ (v : Life). v.ended) (sym same.1) ∙ e)
noted_kept at us vs x y (inr n) = (ap (λ (v : Life). v.host) n.2, ap (λ (v : Life). v.socket) n.2, λ e. ap (λ (v : Life). v.ended) (sym n.2) ∙ e)

pub ended_kept : (at : ℕ) (us vs : List Undo) (x y : Life) → IsEndNoted at us x vs y → IsKept x y
ended_kept at us vs x y (inl same) = (ap (λ (v : Life). v.host) same.1, ap (λ (v : Life). v.socket) same.1, λ e. ap (λ (v : Life). v.ended) (sym same.1) ∙ e)
ended_kept at us vs x y (inr n) = (ap (λ (v : Life). v.host) n.1, ap (λ (v : Life). v.socket) n.1, λ e. ap (λ (v : Life). v.ended) (sym n.1))

pub kept_long : (xs ys : List Life) → AreKept xs ys → length ys ≡ length xs
kept_long [] [] h = refl
kept_long [] (y ∷ ys) h = absurd h
kept_long (x ∷ xs) [] h = absurd h
kept_long (x ∷ xs) (y ∷ ys) h = ap suc (kept_long xs ys h.1)

-- what a loop made of the lives is in their place
pub kept_put : (xs ys zs : List Life) (n : ℕ) → n ≡ length xs → AreKept xs ys → AreKept xs (take n (ys ++ zs))
kept_put xs ys zs n long h =
    subst (λ (all : List Life). AreKept xs all) (sym (ap (λ (k : ℕ). take k (ys ++ zs)) (long ∙ sym (kept_long xs ys h)) ∙ take-append_seam ys zs)) h

still_marked : (key : Life → ℕ) → ((x y : Life) → y.host ≡ x.host → y.socket ≡ x.socket → key y ≡ key x) → (k : ℕ) (bs : List Bool) (xs ys : List Life) → AreKept xs ys → AreMarked (λ y. key y == k && not y.ended) bs xs → AreMarked (λ y. key y == k && not y.ended) bs ys
still_marked key same k [] [] [] h m = tt
still_marked key same k [] [] (y ∷ ys) h m = h
still_marked key same k [] (x ∷ xs) ys h m = absurd m
still_marked key same k (b ∷ bs) [] ys h m = absurd m
still_marked key same k (b ∷ bs) (x ∷ xs) [] h m = h
still_marked key same k (b ∷ bs) (x ∷ xs) (y ∷ ys) h m = (at_first, still_marked key same k bs xs ys h.1 m.1) where
  at_first : (key y == k && not y.ended) ≡ true → b ≡ true
  at_first is =
      let two : ((key y == k) ≡ true) × (y.ended ≡ false) = open_of (key y == k) y.ended is in
      m.0 (let e : (key x == k) ≡ true = ap (λ (n : ℕ). n == k) (sym (same x y h.0.0 h.0.1)) ∙ two.0 in rw (e, h.0.2 two.1) refl)

pub covers_kept : (hosts sockets : List (List ℕ)) (xs ys : List Life) → AreKept xs ys → Covers hosts sockets xs → Covers hosts sockets ys
covers_kept hosts sockets xs ys h c = record {
  by_host = λ k. let o : Holds (has_host k) (slice_index_or hosts k []) xs = c.by_host k in (o.0, o.1, still_marked (λ y. host_key y.host) (λ x y host socket. ap (λ (g : Host). host_key g) host) k o.0 xs ys h o.2);
  by_socket = λ k. let o : Holds (has_socket k) (slice_index_or sockets k []) xs = c.by_socket k in
      (o.0, o.1, still_marked (λ y. socket_key y.host y.socket) (λ x y host socket. ap (λ (g : Host). socket_key g y.socket) host ∙ ap (λ (n : ℕ). socket_key x.host n) socket) k o.0 xs ys h o.2);
}

-- ---- what is done at such places is done to all

none_there : (test : Life → Bool) (change : Life → Life) (x : Life) (b : Bool) → (test x ≡ true → b ≡ true) → b ≡ false → where_here test change x ≡ x
none_there test change x b is off = by (test x) refl where
  by : (c : Bool) → test x ≡ c → changed_when c change x ≡ x
  by true e = absurd (let r : true ≡ false = sym (is e) ∙ off in cc)
  by false e = refl

whole : (test : Life → Bool) (change : Life → Life) (bs : List Bool) (xs : List Life) → AreMarked test bs xs → changed_at (where_here test change) (marked bs) xs ≡ where_it test change xs
whole test change [] [] h = refl
whole test change [] (x ∷ xs) h = absurd h
whole test change (b ∷ bs) [] h = absurd h
whole test change (b ∷ bs) (x ∷ xs) h = by (whole test change bs xs h.1) b refl where
  f : Life → Life
  f = where_here test change

  by : changed_at f (marked bs) xs ≡ where_it test change xs → (c : Bool) → b ≡ c → changed_at f (if c then 0 ∷ map suc (marked bs) else map suc (marked bs)) (x ∷ xs) ≡ f x ∷ where_it test change xs
  by rest true e = shifted f (marked bs) (f x) xs ∙ ap (λ (ys : List Life). f x ∷ ys) rest
  by rest false e = shifted f (marked bs) x xs ∙ ap (λ (ys : List Life). x ∷ ys) rest ∙ ap (λ (y : Life). y ∷ where_it test change xs) (sym (none_there test change x b h.0 e))

pub all_changed : (test : Life → Bool) (change : Life → Life) (ats : List ℕ) (k : ℕ) (xs ys : List Life) → Holds test ats xs → length ats ≤ k
    → changed_at (where_here test change) (drop k ats) ys ≡ changed_at (where_here test change) ats xs → ys ≡ where_it test change xs
all_changed test change ats k xs ys h le rest =
    ap (λ (ns : List ℕ). changed_at (where_here test change) ns ys) (sym (nothing_left ats k le)) ∙ rest ∙ ap (λ (ns : List ℕ). changed_at (where_here test change) ns xs) h.1 ∙ whole test change h.0 xs h.2

whole_handed : (test : Life → Bool) (bits : List Bool) (bs : List Bool) (xs : List Life) (hs : List (List Bool)) → AreMarked test bs xs → handed_at test bits (marked bs) xs hs ≡ handed_to test bits xs hs
whole_handed test bits [] [] hs h = refl
whole_handed test bits [] (x ∷ xs) hs h = absurd h
whole_handed test bits (b ∷ bs) [] hs h = absurd h
whole_handed test bits (b ∷ bs) (x ∷ xs) [] h = none_handed test bits (marked (b ∷ bs)) x xs
whole_handed test bits (b ∷ bs) (x ∷ xs) (g ∷ hs) h = by (whole_handed test bits bs xs hs h.1) b refl (test x) refl where
  by : handed_at test bits (marked bs) xs hs ≡ handed_to test bits xs hs → (c : Bool) → b ≡ c → (t : Bool) → test x ≡ t
      → handed_at test bits (if c then 0 ∷ map suc (marked bs) else map suc (marked bs)) (x ∷ xs) (g ∷ hs) ≡ (if t then g ++ bits else g) ∷ handed_to test bits xs hs
  by rest true e t f = hand_shifted test bits (marked bs) x xs (if test x then g ++ bits else g) hs ∙ ap (λ (gs : List (List Bool)). (if test x then g ++ bits else g) ∷ gs) rest
      ∙ ap (λ (c : Bool). (if c then g ++ bits else g) ∷ handed_to test bits xs hs) f
  by rest false e true f = absurd (let r : true ≡ false = sym (h.0 f) ∙ e in cc)
  by rest false e false f = hand_shifted test bits (marked bs) x xs g hs ∙ ap (λ (gs : List (List Bool)). g ∷ gs) rest

pub all_handed : (test : Life → Bool) (bits : List Bool) (ats : List ℕ) (k : ℕ) (xs : List Life) (hs gs : List (List Bool)) → Holds test ats xs → length ats ≤ k
    → handed_at test bits (drop k ats) xs gs ≡ handed_at test bits ats xs hs → gs ≡ handed_to test bits xs hs
all_handed test bits ats k xs hs gs h le rest =
    ap (λ (ns : List ℕ). handed_at test bits ns xs gs) (sym (nothing_left ats k le)) ∙ rest ∙ ap (λ (ns : List ℕ). handed_at test bits ns xs hs) h.1 ∙ whole_handed test bits h.0 xs hs h.2

-- ---- they are places of lives

abbrev AreBelow : ℕ → List ℕ → Type 0
AreBelow n [] = Unit {0}
AreBelow n (at ∷ ats) = (at < n) × AreBelow n ats

bounded : (n : ℕ) (ats : List ℕ) → AreBelow n ats → AreBelow (suc n) (map suc ats)
bounded n [] h = tt
bounded n (at ∷ ats) h = let k : at < n = h.0 in (omega (arith, k), bounded n ats h.1)

below : (test : Life → Bool) (bs : List Bool) (xs : List Life) → AreMarked test bs xs → AreBelow (length xs) (marked bs)
below test [] [] h = tt
below test [] (x ∷ xs) h = absurd h
below test (b ∷ bs) [] h = absurd h
below test (b ∷ bs) (x ∷ xs) h = by (bounded (length xs) (marked bs) (below test bs xs h.1)) b where
  by : AreBelow (suc (length xs)) (map suc (marked bs)) → (c : Bool) → AreBelow (suc (length xs)) (if c then 0 ∷ map suc (marked bs) else map suc (marked bs))
  by rest true = (omega arith, rest)
  by rest false = rest

below_at : (n : ℕ) (ats : List ℕ) (k d : ℕ) → AreBelow n ats → k < length ats → slice_index_or ats k d < n
below_at n [] k d h lt = absurd (omega (arith, lt))
below_at n (at ∷ ats) zero d h lt = h.0
below_at n (at ∷ ats) (suc k) d h lt = below_at n ats k d h.1 (omega (arith, lt))

pub within : (test : Life → Bool) (xs ys : List Life) (ats : List ℕ) (k d : ℕ) → Holds test ats xs → AreKept xs ys → k < length ats → slice_index_or ats k d < length ys
within test xs ys ats k d h kept lt =
    subst (λ (n : ℕ). slice_index_or ats k d < n) (sym (kept_long xs ys kept)) (below_at (length xs) ats k d (subst (λ (ns : List ℕ). AreBelow (length xs) ns) (sym h.1) (below test h.0 xs h.2)) lt)

-- ---- lists of a table

list_at : {V : Type 0} (f : V → List ℕ) (ls : List V) (key : ℕ) (d v : V) → key < length ls → v ≡ slice_index_or ls key d → slice_index_or (map f ls) key [] ≡ f v
list_at f [] key d v lt is = absurd (omega (arith, lt))
list_at {V} f (l ∷ ls) zero d v lt is = ap (λ (x : V). f x) (sym is)
list_at f (l ∷ ls) (suc key) d v lt is = list_at f ls key d v (omega (arith, lt)) is

list_set : {V : Type 0} (f : V → List ℕ) (ls : List V) (key : ℕ) (w : V) → key < length ls → slice_index_or (map f (slice_set ls key w)) key [] ≡ f w
list_set f [] key w lt = absurd (omega (arith, lt))
list_set f (l ∷ ls) zero w lt = refl
list_set f (l ∷ ls) (suc key) w lt = list_set f ls key w (omega (arith, lt))

pub other_put : {V : Type 0} (f : V → List ℕ) (ls : List V) (key : ℕ) (w : V) (k : ℕ) → (k ≡ key → ⊥) → slice_index_or (map f (slice_set ls key w)) k [] ≡ slice_index_or (map f ls) k []
other_put f [] key w k off = refl
other_put f (l ∷ ls) zero w zero off = absurd (off refl)
other_put f (l ∷ ls) zero w (suc k) off = refl
other_put f (l ∷ ls) (suc key) w zero off = refl
other_put f (l ∷ ls) (suc key) w (suc k) off = other_put f ls key w k (λ e. off (ap suc e))

pub here_put : {V : Type 0} (f : V → List ℕ) (ls : List V) (key : ℕ) (d v w : V) (xs : List Life) (at : ℕ) (old : List (List ℕ)) → key < length ls → v ≡ slice_index_or ls key d → slice_index_or (map f ls) key [] ≡ slice_index_or old key []
    → Extends xs at (f v) (f w) → Extends xs at (slice_index_or old key []) (slice_index_or (map f (slice_set ls key w)) key [])
here_put f ls key d v w xs at old lt is same e =
    subst (λ (ats : List ℕ). Extends xs at (slice_index_or old key []) ats) (sym (list_set f ls key w lt))
    (subst (λ (ats : List ℕ). Extends xs at ats (f w)) (sym (list_at f ls key d v lt is) ∙ same) e)
