-- One queue changes, and no other does.
use Rattle.trace.proofs.Common.{eqb-true, false≢true, and_parts, All-append, All-cons, All-nil, All-same, All-tail, All, AreQueues}
use Rattle.std.proofs.Common.{◌≡◌, ◌≢◌, ℕ, ◌==◌, ◌&&◌, Bool, true, false, List, [], ◌∷◌, Option, Some, None, unwrap_or, cond, if◌then◌else◌, refl, sym, ap, subst, ◌∙◌, eq-eqb}
use Rattle.std.proofs.lemmas.Cmp.{on_total, then_total}
use Rattle.std.proofs.lemmas.Map.Lookups.{CmpEqualImpliesEq, exact_pairs, exact_unsigned}
use Rattle.std.specs.Cmp.{IsTotalOrder, eq_by_cmp_equiv, nat_cmp_total}
use Rattle.std.specs.FinMap.{empty, get, get-empty, get-insert, get-remove, same_map}
use Rattle.std.specs.Ordering.{eq_by_cmp, is_eq, nat_cmp}
use Rattle.std.specs.declared.cmp.Ordering.{Ordering}
use Rattle.std.specs.declared.cmp.Ordering.TheVariants.{Less, Equal, Greater}
use Rattle.leader1822.specs.Boxes.{Queues, for_host, queued_if, rest, with_queue}
use Rattle.interface.specs.Host.{Host, host_cmp, is_host, same_host}
use Rattle.interface.proofs.lemmas.{is_equal, same_host-true}

-- ---- hosts

pub host_itself : (h : Host) → same_host h h ≡ true
host_itself h = rw (eq-eqb h.imp h.imp refl, eq-eqb h.host h.host refl) refl

total : IsTotalOrder host_cmp
total = then_total (on_total (λ h. h.imp) nat_cmp_total) (on_total (λ h. h.host) nat_cmp_total)

exact : CmpEqualImpliesEq host_cmp
exact g h e = ap (λ (p : ℕ × ℕ). record { imp = p.0; host = p.1 }) (exact_pairs nat_cmp nat_cmp exact_unsigned exact_unsigned (g.imp, g.host) (h.imp, h.host) e)

either_way : (a b : Bool) → (a ≡ true → b ≡ true) → (b ≡ true → a ≡ true) → a ≡ b
either_way true b f g = sym (f refl)
either_way false true f g = g refl
either_way false false f g = refl

ties : (g h : Host) → eq_by_cmp host_cmp g h ≡ same_host g h
ties g h = either_way _ _
    (λ e. let P : Host → Type 0 = λ x. same_host g x ≡ true in subst P (exact g h (is_equal _ e)) (host_itself g))
    (λ e. let P : Host → Type 0 = λ x. eq_by_cmp host_cmp g x ≡ true in subst P (same_host-true g h e) ((eq_by_cmp_equiv total).refl g))

-- ---- one queue

-- what is kept for a host: a list, or nothing where the list is empty
abbrev kept : {A : Type 0} → List A → Option (List A)
kept [] = None
kept (x ∷ xs) = Some (x ∷ xs)

get_with : {A : Type 0} (q : Queues A) (h : Host) (xs : List A) (g : Host) → get (with_queue q h xs) g ≡ (if same_host g h then kept xs else get q g)
get_with {A} q h [] g = get-remove total q h g ∙ ap (λ b. cond b None (get q g)) (ties g h)
get_with {A} q h (x ∷ xs) g = get-insert total q h (x ∷ xs) g ∙ ap (λ b. cond b (Some (x ∷ xs)) (get q g)) (ties g h)

get_here : {A : Type 0} (q : Queues A) (h : Host) (xs : List A) → get (with_queue q h xs) h ≡ kept xs
get_here q h xs = get_with q h xs h ∙ ap (λ (b : Bool). if b then kept xs else get q h) (host_itself h)

get_other : {A : Type 0} (q : Queues A) (h : Host) (xs : List A) (g : Host) → same_host g h ≡ false → get (with_queue q h xs) g ≡ get q g
get_other q h xs g e = get_with q h xs g ∙ ap (λ (b : Bool). if b then kept xs else get q g) e

unkept : {A : Type 0} (xs : List A) → unwrap_or (kept xs) [] ≡ xs
unkept [] = refl
unkept (x ∷ xs) = refl

pub for_here : {A : Type 0} (q : Queues A) (h : Host) (xs : List A) → for_host (with_queue q h xs) h ≡ xs
for_here {A} q h xs = ap (λ (o : Option (List A)). unwrap_or o []) (get_here q h xs) ∙ unkept xs

pub for_other : {A : Type 0} (q : Queues A) (h : Host) (xs : List A) (g : Host) → same_host g h ≡ false → for_host (with_queue q h xs) g ≡ for_host q g
for_other {A} q h xs g e = ap (λ (o : Option (List A)). unwrap_or o []) (get_other q h xs g e)

pub queued_other : {A : Type 0} (t : Bool) (q : Queues A) (h : Host) (x : A) (g : Host) → same_host g h ≡ false → for_host (queued_if t q h x) g ≡ for_host q g
queued_other true q h x g e = for_other q h _ g e
queued_other false q h x g e = refl

pub none_for : {A : Type 0} (h : Host) → for_host {A = A} empty h ≡ []
none_for {A} h = ap (λ (o : Option (List A)). unwrap_or o []) (get-empty host_cmp h)

-- ---- all queues

pub no_queues : {A : Type 0} (IsValid : A → Type 0) (hosts : List Host) → AreQueues IsValid hosts empty
no_queues {A} IsValid hosts = record {
  of_hosts = λ h e. none_for h;
  filled = λ h e. let o : Option (List A) = None in let bad : o ≡ Some [] = sym (get-empty host_cmp h) ∙ e in cc;
  valid = λ h. All-same IsValid (for_host empty h) [] (none_for h) (All-nil IsValid);
}

kept_filled : {A : Type 0} (xs : List A) → kept xs ≢ Some []
kept_filled [] e = absurd (cc)
kept_filled (x ∷ xs) e = absurd (cc)

-- a queue is put in the place of another
pub queues_with : {A : Type 0} (IsValid : A → Type 0) (hosts : List Host) (q : Queues A) (h : Host) (xs : List A) → AreQueues IsValid hosts q → All IsValid xs → (is_host hosts h ≡ false → xs ≡ [])
    → AreQueues IsValid hosts (with_queue q h xs)
queues_with {A} IsValid hosts q h xs are valid own = record {
  of_hosts = λ g none. of (same_host g h) g refl none;
  filled = λ g e. filled (same_host g h) g refl e;
  valid = λ g. all (same_host g h) g refl;
} where
  of : (b : Bool) (g : Host) → same_host g h ≡ b → is_host hosts g ≡ false → for_host (with_queue q h xs) g ≡ []
  of true g e none = ap (λ x. for_host (with_queue q h xs) x) (same_host-true g h e) ∙ for_here q h xs ∙ own (ap (is_host hosts) (sym (same_host-true g h e)) ∙ none)
  of false g e none = for_other q h xs g e ∙ are.of_hosts g none

  filled : (b : Bool) (g : Host) → same_host g h ≡ b → get (with_queue q h xs) g ≢ Some []
  filled true g e is = kept_filled xs (sym (ap (λ x. get (with_queue q h xs) x) (same_host-true g h e) ∙ get_here q h xs) ∙ is)
  filled false g e is = are.filled g (sym (get_other q h xs g e) ∙ is)

  all : (b : Bool) (g : Host) → same_host g h ≡ b → All IsValid (for_host (with_queue q h xs) g)
  all true g e = All-same IsValid (for_host (with_queue q h xs) g) xs (ap (λ x. for_host (with_queue q h xs) x) (same_host-true g h e) ∙ for_here q h xs) valid
  all false g e = All-same IsValid (for_host (with_queue q h xs) g) (for_host q g) (for_other q h xs g e) (are.valid g)

-- one more waits
pub queues_more : {A : Type 0} (IsValid : A → Type 0) (hosts : List Host) (t : Bool) (q : Queues A) (h : Host) (x : A) → AreQueues IsValid hosts q → IsValid x → (t ≡ true → is_host hosts h ≡ true)
    → AreQueues IsValid hosts (queued_if t q h x)
queues_more IsValid hosts true q h x are valid there =
    queues_with IsValid hosts q h _ are
    (All-append IsValid (for_host q h) (x ∷ []) (are.valid h) (All-cons IsValid x [] valid (All-nil IsValid)))
    (λ none. absurd (false≢true (sym none ∙ there refl)))
queues_more IsValid hosts false q h x are valid there = are

All-rest_of : {A : Type 0} (IsValid : A → Type 0) (xs : List A) → All IsValid xs → All IsValid (rest xs)
All-rest_of IsValid [] h = h
All-rest_of IsValid (x ∷ xs) h = All-tail IsValid x xs h

-- the oldest is taken
pub queues_rest : {A : Type 0} (IsValid : A → Type 0) (hosts : List Host) (q : Queues A) (h : Host) → AreQueues IsValid hosts q → AreQueues IsValid hosts (with_queue q h (rest (for_host q h)))
queues_rest {A} IsValid hosts q h are =
    queues_with IsValid hosts q h _ are (All-rest_of IsValid _ (are.valid h)) (λ none. ap (λ (xs : List A). rest xs) (are.of_hosts h none))

-- ---- two maps of queues

same_kept : {A : Type 0} (o p : Option (List A)) → o ≢ Some [] → p ≢ Some [] → unwrap_or o [] ≡ unwrap_or p [] → o ≡ p
same_kept None None a b e = refl
same_kept None (Some []) a b e = absurd (b refl)
same_kept None (Some (y ∷ ys)) a b e = absurd (cc)
same_kept (Some []) p a b e = absurd (a refl)
same_kept (Some (x ∷ xs)) None a b e = absurd (cc)
same_kept (Some (x ∷ xs)) (Some []) a b e = absurd (b refl)
same_kept (Some (x ∷ xs)) (Some (y ∷ ys)) a b e = ap (λ zs. Some zs) e

pub same_queues : {A : Type 0} (IsValid : A → Type 0) (hosts : List Host) (q r : Queues A) → AreQueues IsValid hosts q → AreQueues IsValid hosts r → ((h : Host) → is_host hosts h ≡ true → for_host q h ≡ for_host r h) → q ≡ r
same_queues {A} IsValid hosts q r p s same = same_map total exact q r (λ h. same_kept (get q h) (get r h) (p.filled h) (s.filled h) (at (is_host hosts h) h refl)) where
  at : (b : Bool) (h : Host) → is_host hosts h ≡ b → for_host q h ≡ for_host r h
  at true h e = same h e
  at false h e = p.of_hosts h e ∙ sym (s.of_hosts h e)
