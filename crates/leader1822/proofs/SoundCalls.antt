-- What a taking gives and leaves.
use Rattle.leader1822.proofs.Common.{Host, Boxes, WaitingAnswer, for_host, first_of_list, rest, host_refusal, next_for, answer_first, seen_of, inbound_taken, Matches, IsSound, Inbound, HostMessage}
use Rattle.std.proofs.Common.{◌≡◌, List, [], ◌∷◌, refl, ap, sym, subst, Option, Some, None, Result, Ok, Err, OnOk, OnErr}
use Rattle.interface.specs.Calls.{ShowsTake, IsFor}
use Rattle.interface.specs.declared.crossing.Inbound.TheVariants as inbound
use Rattle.leader1822.proofs.Sound.{Runs, runs_here, TakesAnswer, takes_answer, TakesMessage, takes_message, answer_sound, message_sound}

-- a queue with a first element is that and the rest
pub first_is : {A : Type 0} (xs : List A) (x : A) → first_of_list xs ≡ Some x → xs ≡ x ∷ rest xs
first_is [] x e = absurd (cc)
first_is {A} (y ∷ xs) x e = let same : y ≡ x = cc in ap (λ (z : A). z ∷ xs) same

pub none_first : {A : Type 0} (xs : List A) → first_of_list xs ≡ None → xs ≡ []
none_first [] e = refl
none_first (y ∷ xs) e = absurd (cc)

-- what a taking leaves is sound
taken_by : (b : Boxes) (h : Host) → IsSound b → host_refusal b h ≡ None → (told : Option WaitingAnswer) (sent : Option HostMessage)
    → first_of_list (for_host b.answers h) ≡ told → first_of_list (for_host b.messages h) ≡ sent → IsSound (inbound_taken b h (answer_first told sent))
taken_by b h s none (Some a) sent e f = answer_sound b h a (rest (for_host b.answers h)) s none (first_is (for_host b.answers h) a e)
taken_by b h s none None (Some m) e f = message_sound b h m (rest (for_host b.messages h)) s none (first_is (for_host b.messages h) m f)
taken_by b h s none None None e f = s

pub taken_sound : (b : Boxes) (h : Host) → IsSound b → host_refusal b h ≡ None → IsSound (inbound_taken b h (next_for b h))
taken_sound b h s none = taken_by b h s none (first_of_list (for_host b.answers h)) (first_of_list (for_host b.messages h)) refl refl

-- what is given is for the host that takes
same_inbound : {x y : Inbound} → Some x ≡ Some y → x ≡ y
same_inbound e = cc

for_by : (b : Boxes) (h : Host) → Matches b → Runs b h → (told : Option WaitingAnswer) (sent : Option HostMessage) → first_of_list (for_host b.answers h) ≡ told → first_of_list (for_host b.messages h) ≡ sent
    → (i : Inbound) → answer_first told sent ≡ Some i → IsFor h i
for_by b h k r (Some a) sent e f i is =
    let t : TakesAnswer b h a (rest (for_host b.answers h)) = takes_answer b h a (rest (for_host b.answers h)) k r.host (first_is (for_host b.answers h) a e) in
    subst (IsFor h) (same_inbound is) t.mine
for_by b h k r None (Some m) e f i is =
    let t : TakesMessage b h m (rest (for_host b.messages h)) = takes_message b h m (rest (for_host b.messages h)) k (first_is (for_host b.messages h) m f) in
    subst (IsFor h) (same_inbound is) t.mine
for_by b h k r None None e f i is = absurd (cc)

next_is_for : (b : Boxes) (h : Host) → Matches b → Runs b h → (i : Inbound) → next_for b h ≡ Some i → IsFor h i
next_is_for b h k r i e = for_by b h k r (first_of_list (for_host b.answers h)) (first_of_list (for_host b.messages h)) refl refl i e

-- what a taking that succeeds shows
shows : (b new : Boxes) (h : Host) → Matches b → Runs b h → (o : Option Inbound) → o ≡ next_for b h → new ≡ inbound_taken b h o → ShowsTake (seen_of b) h (Ok o) (seen_of new)
shows b new h k r None next is = record { running = r.running; shown = ap seen_of is }
shows b new h k r (Some (inbound.Message m)) next is = (record { running = r.running; shown = ap seen_of is }, next_is_for b h k r (inbound.Message m) (sym next))
shows b new h k r (Some (inbound.Answer kind f)) next is = (record { running = r.running; shown = ap seen_of is }, next_is_for b h k r (inbound.Answer kind f) (sym next))

pub shows_taking : (b new : Boxes) (h : Host) (o : Option Inbound) → IsSound b → host_refusal b h ≡ None → o ≡ next_for b h → new ≡ inbound_taken b h o → ShowsTake (seen_of b) h (Ok o) (seen_of new)
shows_taking b new h o s none next is = let r : Runs b h = runs_here b h none in shows b new h (s.matches r.running) r o next is

-- what a call that succeeded gives may be said otherwise
pub on_ok : {T E : Type 0} {P Q : Type 0} (r : Result T E) → OnOk r P → (P → Q) → OnOk r Q
on_ok (Ok x) p f = f p
on_ok (Err e) p f = tt

pub on_err : {T E : Type 0} {P Q : Type 0} (r : Result T E) → OnErr r P → (P → Q) → OnErr r Q
on_err (Ok x) p f = tt
on_err (Err e) p f = f p
