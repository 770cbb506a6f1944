-- What the kept queues show.
use Rattle.leader1822.proofs.Common.{is_at, eq_by_cmp_equiv, Host, host_cmp, Queues, for_host, with_queue, first_of_list, rest, shown, waiting_in}
use Rattle.std.proofs.Common.{◌≡◌, Bool, true, false, List, [], ◌∷◌, Option, Some, None, ◌++◌, unwrap_or, cond, drop, length, option_to_list, refl, ap, sym, ◌∙◌, arith}
use Rattle.std.specs.Map.{lookup}
use Rattle.std.specs.declared.collections.VecDeque.{VecDeque}
use Rattle.std.specs.VecDeque.{deque_items}
use Rattle.std.specs.Ordering.{eq_by_cmp}
use Rattle.std.specs.FinMap.{get, get-empty, get-insert, get-remove, same_map}
use Rattle.interface.proofs.lemmas.{exact_hosts, hosts_total, same_host-true}
use Rattle.leader1822.proofs.ForHost.{eq_host}

-- what a list of entries has for a host
abbrev pub queue_in : {A Z : Type 0} → List (Host × VecDeque A Z) → Host → Option (VecDeque A Z)
queue_in es h = lookup (is_at (host_cmp h)) es

-- a queue that is empty isn't shown
abbrev pub kept : {A : Type 0} → List A → Option (List A)
kept [] = None
kept (x ∷ xs) = Some (x ∷ xs)

get_with : {A : Type 0} (q : Queues A) (h : Host) (xs : List A) (g : Host) → get (with_queue q h xs) g ≡ cond (eq_by_cmp host_cmp g h) (kept xs) (get q g)
get_with q h [] g = get-remove hosts_total q h g
get_with q h (x ∷ xs) g = get-insert hosts_total q h (x ∷ xs) g

get_shown : {A Z : Type 0} (es : List (Host × VecDeque A Z)) (g : Host) → get (shown es) g ≡ kept (waiting_in (queue_in es g))
get_shown [] g = get-empty host_cmp g
get_shown (e ∷ es) g = get_with (shown es) e.0 (deque_items e.1) g ∙ by (eq_by_cmp host_cmp g e.0) (get_shown es g) where
  by : (b : Bool) → get (shown es) g ≡ kept (waiting_in (queue_in es g)) → cond b (kept (deque_items e.1)) (get (shown es) g) ≡ kept (waiting_in (cond b (Some e.1) (queue_in es g)))
  by true rest = refl
  by false rest = rest

again : {A : Type 0} (xs : List A) → unwrap_or (kept xs) [] ≡ xs
again [] = refl
again (x ∷ xs) = refl

pub for_shown : {A Z : Type 0} (es : List (Host × VecDeque A Z)) (g : Host) → for_host (shown es) g ≡ waiting_in (queue_in es g)
for_shown {A} {Z} es g = ap (λ (o : Option (List A)). unwrap_or o []) (get_shown es g) ∙ again (waiting_in (queue_in es g))

chosen : {A Z : Type 0} (b c : Bool) (v : Option (VecDeque A Z)) (o : Option (VecDeque A Z)) (xs : List A) → b ≡ c → waiting_in v ≡ xs → kept (waiting_in (cond b v o)) ≡ cond c (kept xs) (kept (waiting_in o))
chosen true true v o xs e f = ap kept f
chosen false false v o xs e f = refl
chosen true false v o xs e f = absurd (cc)
chosen false true v o xs e f = absurd (cc)

-- entries that differ for one host show queues that differ there
pub shown_with : {A Z : Type 0} (es ds : List (Host × VecDeque A Z)) (h : Host) (v : Option (VecDeque A Z)) (xs : List A)
    → ((g : Host) → queue_in ds g ≡ cond (is_at (host_cmp h) g) v (queue_in es g)) → waiting_in v ≡ xs → shown ds ≡ with_queue (shown es) h xs
shown_with {A} {Z} es ds h v xs differ items = same_map hosts_total exact_hosts _ _ (λ g.
    get_shown ds g ∙ ap (λ (o : Option (VecDeque A Z)). kept (waiting_in o)) (differ g)
    ∙ chosen (is_at (host_cmp h) g) (eq_by_cmp host_cmp g h) v (queue_in es g) xs ((eq_by_cmp_equiv hosts_total).symm h g) items
    ∙ sym (get_with (shown es) h xs g ∙ ap (cond (eq_by_cmp host_cmp g h) (kept xs)) (get_shown es g)))

-- what waits for a host, put in its own place
pub shown_same : {A Z : Type 0} (es : List (Host × VecDeque A Z)) (h : Host) (xs : List A) → waiting_in (queue_in es h) ≡ xs → shown es ≡ with_queue (shown es) h xs
shown_same {A} {Z} es h xs items = shown_with es es h (queue_in es h) xs (λ g. by g (is_at (host_cmp h) g) refl) items where
  by : (g : Host) (b : Bool) → is_at (host_cmp h) g ≡ b → queue_in es g ≡ cond b (queue_in es h) (queue_in es g)
  by g true e = ap (queue_in es) (sym (same_host-true h g (sym (eq_host h g) ∙ e)))
  by g false e = refl

-- ---- the ends of a queue

-- what is taken off the beginning is the first, and leaves the rest
pub record Popped {A : Type 0} (r : Option A) (old new : List A) : Type 0 where
  pub oldest : r ≡ first_of_list old
  pub left : new ≡ rest old

pub popped : {A : Type 0} (r : Option A) (old new : List A) → old ≡ option_to_list r ++ new → new ≡ drop 1 old → Popped r old new
popped None [] new whole left = record { oldest = refl; left = left }
popped (Some y) [] new whole left = absurd (cc)
popped {A} None (x ∷ xs) new whole left = absurd (let e : length (x ∷ xs) ≡ length xs = ap length (whole ∙ left) in omega (arith, e))
popped {A} (Some y) (x ∷ xs) new whole left = let same : y ≡ x = cc in record { oldest = ap Some same; left = left }
