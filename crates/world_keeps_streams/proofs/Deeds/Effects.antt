-- What one call of a host's program does to the lives of its ends, and to what the laws of their links have of them.
use Rattle.world_keeps_streams.proofs.Common.{◌≡◌, ◌⊎◌, inl, inr, ℕ, ◌==◌, ◌&&◌, Bool, true, false, if◌then◌else◌, List, [], ◌∷◌, ◌++◌, map, filter, find, Some, None, is_some, refl, ap, sym, subst, ◌∙◌, Host, Allocation, changed_first, is_open, is_receiving, receives_on, sends_on, Entry, Notice, found_same, has_opened, changed_when, life_ended, lives_at, lives_between, lives_told, new_life}
use Rattle.ncp_control.specs.Allocation as counters
use Rattle.stream_law.specs.Receivers.{Receiver}
use Rattle.stream_law.specs.Senders.{Sender}
use Rattle.host_keeps_streams.specs.Names.{named}
use Rattle.promise.specs.declared.life.Life.{Life}
use Rattle.net_sim.specs.Book as book

-- ---- one of a list

abbrev pub Among : {A : Type 0} → A → List A → Type 0
Among e [] = ⊥
Among e (x ∷ xs) = (x ≡ e) ⊎ Among e xs

-- ---- what a call does

pub data Deed : Type 0 where
  Nothing : Deed
  -- an end opens by its two requests; ends go
  Opens : (entry : Entry) → (asked partner : ℕ) → Deed
  Ends : (entries : List Entry) → Deed
  -- a message is taken at an end, or goes out of it
  Arrives : (entry : Entry) → (bits : List Bool) → Deed
  Leaves : (entry : Entry) → (bits : List Bool) → Deed
  -- a part is granted at it, or returned to it
  Grants : (entry : Entry) → (messages bits : ℕ) → Deed
  Returns : (entry : Entry) → (messages bits : ℕ) → Deed

-- ---- to the lives

abbrev pub life_ends : Host → Host → List Entry → Life → Life
life_ends a p [] x = x
life_ends a p (e ∷ es) x = life_ends a p es (if e.mine then changed_when (lives_between a e.own p e.foreign x) life_ended x else x)

abbrev pub life_by : Host → Host → Deed → Life → Life
life_by a p Nothing x = x
life_by a p (Opens e u v) x = x
life_by a p (Ends es) x = life_ends a p es x
life_by a p (Arrives e bits) x = changed_when (lives_at a e.own x) (book.carried bits) x
life_by a p (Leaves e bits) x = changed_when (lives_at a e.own x) (book.carried bits) x
life_by a p (Grants e messages bits) x = changed_when (lives_at a e.own x) (book.granted messages bits) x
life_by a p (Returns e messages bits) x = changed_when (lives_at a e.own x) (book.returned messages bits) x

abbrev pub new_by : Host → Host → Deed → List Life
new_by a p (Opens e u v) = new_life a e.own p e.foreign u v ∷ []
new_by a p d = []

abbrev pub all_lives : Host → List Notice → List Life → List Life
all_lives h [] ls = ls
all_lives h (n ∷ ns) ls = all_lives h ns (lives_told h n ls)

-- ---- to what the law of a link has

abbrev pub at_receiver : (ℕ → ℕ → ℕ) → ℕ → ℕ → Entry → Bool
at_receiver name link c e = receives_on link e && c == named name e

abbrev pub at_sender : (ℕ → ℕ → ℕ) → ℕ → ℕ → Entry → Bool
at_sender name link c e = sends_on link e && c == named name e

abbrev pub taken_by : (ℕ → ℕ → ℕ) → ℕ → Deed → ℕ → List (List Bool) → List (List Bool)
taken_by name link (Arrives e bits) c ts = if at_receiver name link c e then ts ++ bits ∷ [] else ts
taken_by name link d c ts = ts

abbrev pub granted_by : (ℕ → ℕ → ℕ) → ℕ → Deed → ℕ → Allocation → Allocation
granted_by name link (Grants e messages bits) c g = if at_receiver name link c e then counters.added g messages bits else g
granted_by name link d c g = g

abbrev pub returned_by : (ℕ → ℕ → ℕ) → ℕ → Deed → ℕ → Allocation → Allocation
returned_by name link (Returns e messages bits) c g = if at_receiver name link c e then counters.added g messages bits else g
returned_by name link d c g = g

abbrev pub sent_by : (ℕ → ℕ → ℕ) → ℕ → Deed → ℕ → List (List Bool) → List (List Bool)
sent_by name link (Leaves e bits) c ts = if at_sender name link c e then ts ++ bits ∷ [] else ts
sent_by name link d c ts = ts

pub record Receives (name : ℕ → ℕ → ℕ) (link : ℕ) (deed : Deed) (old new : Receiver) : Type 0 where
  pub taken : (c : ℕ) → new.taken c ≡ taken_by name link deed c (old.taken c)
  pub granted : (c : ℕ) → new.granted c ≡ granted_by name link deed c (old.granted c)
  pub returned : (c : ℕ) → new.returned c ≡ returned_by name link deed c (old.returned c)

abbrev pub Sends : (ℕ → ℕ → ℕ) → ℕ → Deed → Sender → Sender → Type 0
Sends name link deed old new = (c : ℕ) → new.sent c ≡ sent_by name link deed c (old.sent c)

-- ---- to the ends

pub record HasLink (e : Entry) : Type 0 where
  pub link : ℕ
  pub is : e.link ≡ Some link
  pub other : (link == 0) ≡ false

-- an own end that receives has a link, and so has one whose partner's request was taken
abbrev pub IsLinked : Entry → Type 0
IsLinked e = e.mine ≡ true → (is_receiving e ≡ true) ⊎ (is_some e.partner ≡ true) → HasLink e

abbrev pub OpensAs : Deed → Entry → Type 0
OpensAs (Opens e u v) x = e ≡ x
OpensAs d x = ⊥

-- what becomes of an end
pub record Becomes (deed : Deed) (e new : Entry) : Type 0 where
  pub own : new.own ≡ e.own
  pub foreign : new.foreign ≡ e.foreign
  pub mine : new.mine ≡ e.mine
  pub opened : has_opened e ≡ true → has_opened new ≡ true
  pub link : has_opened e ≡ true → new.link ≡ e.link
  pub linked : IsLinked e → IsLinked new
  pub opens : is_open new ≡ true → (is_open e ≡ true) ⊎ OpensAs deed new

pub record From (deed : Deed) (es : List Entry) (new : Entry) : Type 0 where
  pub end : Entry
  pub there : Among end es
  pub becomes : Becomes deed end new

pub record IsNew (e : Entry) : Type 0 where
  pub unasked : e.asked ≡ None
  pub linked : IsLinked e

-- the ends after a call come from those before it, or are new
abbrev pub Comes : Deed → List Entry → List Entry → Type 0
Comes deed es new = (e : Entry) → Among e new → From deed es e ⊎ IsNew e

-- and all come from those
abbrev pub Stays : List Entry → List Entry → Type 0
Stays es new = (e : Entry) → Among e new → From Nothing es e

become_same : (d : Deed) (e : Entry) → Becomes d e e
become_same d e = record { own = refl; foreign = refl; mine = refl; opened = λ o. o; link = λ o. refl; linked = λ l. l; opens = λ o. inl o }

pub stays_same : (es : List Entry) → Stays es es
stays_same es e there = record { end = e; there = there; becomes = become_same Nothing e }

pub stays_comes : (d : Deed) (es new : List Entry) → Stays es new → Comes d es new
stays_comes d es new s e there =
    let f : From Nothing es e = s e there in
    inl (record { end = f.end; there = f.there; becomes = weak f.end f.becomes }) where
      weak : (x : Entry) → Becomes Nothing x e → Becomes d x e
      weak x b = record { own = b.own; foreign = b.foreign; mine = b.mine; opened = b.opened; link = b.link; linked = b.linked; opens = λ o. elim (b.opens o) [ inl p ↦ inl p | inr q ↦ absurd q ] }

become_then : (e f g : Entry) → Becomes Nothing e f → Becomes Nothing f g → Becomes Nothing e g
become_then e f g b c = record {
  own = c.own ∙ b.own;
  foreign = c.foreign ∙ b.foreign;
  mine = c.mine ∙ b.mine;
  opened = λ o. c.opened (b.opened o);
  link = λ o. c.link (b.opened o) ∙ b.link o;
  linked = λ l. c.linked (b.linked l);
  opens = λ o. elim (c.opens o) [ inl p ↦ b.opens p | inr q ↦ absurd q ];
}

pub stays_then : (es fs gs : List Entry) → Stays es fs → Stays fs gs → Stays es gs
stays_then es fs gs s t g there =
    let second : From Nothing fs g = t g there in
    let first : From Nothing es second.end = s second.end second.there in
    record { end = first.end; there = first.there; becomes = become_then first.end second.end g first.becomes second.becomes }

-- ---- lists of ends

pub among_filter : (keep : Entry → Bool) (es : List Entry) (e : Entry) → Among e (filter keep es) → Among e es × (keep e ≡ true)
among_filter keep [] e h = absurd h
among_filter keep (x ∷ xs) e h = by (among_filter keep xs e) (keep x) refl h where
  by : (Among e (filter keep xs) → Among e xs × (keep e ≡ true)) → (v : Bool) → keep x ≡ v → Among e (filter keep (x ∷ xs)) → Among e (x ∷ xs) × (keep e ≡ true)
  by rest true t i =
      let j : (x ≡ e) ⊎ Among e (filter keep xs) = rw t at i in
      elim j [
        | inl s ↦ (inl s, subst (λ (y : Entry). keep y ≡ true) s t)
        | inr s ↦ (let r : Among e xs × (keep e ≡ true) = rest s in (inr r.0, r.1))
      ]
  by rest false t i =
      let j : Among e (filter keep xs) = rw t at i in
      let r : Among e xs × (keep e ≡ true) = rest j in
      (inr r.0, r.1)

pub among_kept : (keep : Entry → Bool) (es : List Entry) (e : Entry) → Among e es → keep e ≡ true → Among e (filter keep es)
among_kept keep [] e h k = absurd h
among_kept keep (x ∷ xs) e h k = by (λ s. among_kept keep xs e s k) (keep x) refl h where
  by : (Among e xs → Among e (filter keep xs)) → (v : Bool) → keep x ≡ v → Among e (x ∷ xs) → Among e (filter keep (x ∷ xs))
  by rest true t (inl s) = rw t (inl s)
  by rest true t (inr s) = rw t (inr (rest s))
  by rest false t (inl s) = absurd (let r : true ≡ false = sym (subst (λ (y : Entry). keep y ≡ true) (sym s) k) ∙ t in cc)
  by rest false t (inr s) = rw t (rest s)

pub among_map : {A B : Type 0} (f : A → B) (es : List A) (y : B) → Among y (map f es) → (x : A) × Among x es × (f x ≡ y)
among_map f [] y h = absurd h
among_map f (x ∷ xs) y (inl s) = (x, inl refl, s)
among_map f (x ∷ xs) y (inr s) = let r : (z : _) × Among z xs × (f z ≡ y) = among_map f xs y s in (r.0, inr r.1, r.2)

pub among_mapped : {A B : Type 0} (f : A → B) (es : List A) (x : A) → Among x es → Among (f x) (map f es)
among_mapped f [] x h = absurd h
among_mapped f (z ∷ zs) x (inl s) = inl (ap f s)
among_mapped f (z ∷ zs) x (inr s) = inr (among_mapped f zs x s)

pub among_front : {A : Type 0} (xs ys : List A) (x : A) → Among x xs → Among x (xs ++ ys)
among_front [] ys x h = absurd h
among_front (z ∷ zs) ys x (inl s) = inl s
among_front (z ∷ zs) ys x (inr s) = inr (among_front zs ys x s)

pub among_behind : {A : Type 0} (xs ys : List A) (x : A) → Among x ys → Among x (xs ++ ys)
among_behind [] ys x h = h
among_behind (z ∷ zs) ys x h = inr (among_behind zs ys x h)

pub among_either : {A : Type 0} (xs ys : List A) (x : A) → Among x (xs ++ ys) → Among x xs ⊎ Among x ys
among_either [] ys x h = inr h
among_either (z ∷ zs) ys x (inl s) = inl (inl s)
among_either (z ∷ zs) ys x (inr s) = elim (among_either zs ys x s) [ inl p ↦ inl (inr p) | inr q ↦ inr q ]

-- the first that passes is changed
pub record Changed (test : Entry → Bool) (change : Entry → Entry) (es : List Entry) (new : Entry) : Type 0 where
  pub end : Entry
  pub found : find test es ≡ Some end
  pub there : Among end es
  pub is : change end ≡ new

pub among_changed : (test : Entry → Bool) (change : Entry → Entry) (es : List Entry) (e : Entry) → Among e (changed_first test change es) → Among e es ⊎ Changed test change es e
among_changed test change [] e h = absurd h
among_changed test change (x ∷ xs) e h = by (among_changed test change xs e) (test x) refl h where
  by : (Among e (changed_first test change xs) → Among e xs ⊎ Changed test change xs e) → (v : Bool) → test x ≡ v → Among e (changed_first test change (x ∷ xs)) → Among e (x ∷ xs) ⊎ Changed test change (x ∷ xs) e
  by rest true t i =
      let j : (change x ≡ e) ⊎ Among e xs = rw t at i in
      elim j [
        | inl s ↦ inr (record { end = x; found = (let f : find test (x ∷ xs) ≡ Some x = rw t refl in f); there = inl refl; is = s })
        | inr s ↦ inl (inr s)
      ]
  by rest false t i =
      let j : (x ≡ e) ⊎ Among e (changed_first test change xs) = rw t at i in
      elim j [
        | inl s ↦ inl (inl s)
        | inr s ↦ elim (rest s) [
          | inl r ↦ inl (inr r)
          | inr r ↦ inr (record { end = r.end; found = (let f : find test (x ∷ xs) ≡ Some r.end = rw t r.found in f); there = inr r.there; is = r.is })
        ]
      ]

pub found_among : (test : Entry → Bool) (es : List Entry) (e : Entry) → find test es ≡ Some e → Among e es × (test e ≡ true)
found_among test [] e f = absurd (cc)
found_among test (x ∷ xs) e f = by (found_among test xs e) (test x) refl f where
  by : (find test xs ≡ Some e → Among e xs × (test e ≡ true)) → (v : Bool) → test x ≡ v → find test (x ∷ xs) ≡ Some e → Among e (x ∷ xs) × (test e ≡ true)
  by rest true t g =
      let s : x ≡ e = found_same x e (rw t at g) in
      (inl s, subst (λ (y : Entry). test y ≡ true) s t)
  by rest false t g =
      let r : Among e xs × (test e ≡ true) = rest (rw t at g) in
      (inr r.0, r.1)

-- ---- ends that come from others

pub changed_comes : (d : Deed) (test : Entry → Bool) (change : Entry → Entry) (es : List Entry) → ((e : Entry) → find test es ≡ Some e → Among e es → Becomes d e (change e)) → Comes d es (changed_first test change es)
changed_comes d test change es b e there = elim (among_changed test change es e there) [
  | inl s ↦ inl (record { end = e; there = s; becomes = become_same d e })
  | inr c ↦ inl (record { end = c.end; there = c.there; becomes = subst (λ (x : Entry). Becomes d c.end x) c.is (b c.end c.found c.there) })
]

pub changed_stays : (test : Entry → Bool) (change : Entry → Entry) (es : List Entry) → ((e : Entry) → Becomes Nothing e (change e)) → Stays es (changed_first test change es)
changed_stays test change es b e there = elim (among_changed test change es e there) [
  | inl s ↦ record { end = e; there = s; becomes = become_same Nothing e }
  | inr c ↦ record { end = c.end; there = c.there; becomes = subst (λ (x : Entry). Becomes Nothing c.end x) c.is (b c.end) }
]

pub mapped_stays : (f : Entry → Entry) (es : List Entry) → ((e : Entry) → Becomes Nothing e (f e)) → Stays es (map f es)
mapped_stays f es b e there =
    let m : (x : Entry) × Among x es × (f x ≡ e) = among_map f es e there in
    record { end = m.0; there = m.1; becomes = subst (λ (y : Entry). Becomes Nothing m.0 y) m.2 (b m.0) }

pub filtered_stays : (keep : Entry → Bool) (es : List Entry) → Stays es (filter keep es)
filtered_stays keep es e there = record { end = e; there = (among_filter keep es e there).0; becomes = become_same Nothing e }

pub joined_comes : (d : Deed) (new : Entry) (es : List Entry) → IsNew new → Comes d es (es ++ new ∷ [])
joined_comes d new es n e there = elim (among_either es _ e there) [
  | inl s ↦ inl (record { end = e; there = s; becomes = become_same d e })
  | inr s ↦ one s
] where
  one : Among e (new ∷ []) → From d es e ⊎ IsNew e
  one (inl s) = inr (subst (λ (x : Entry). IsNew x) s n)
  one (inr s) = absurd s
