-- How far lives are, and how a moment changes it: an open life ends by CLS only where its host's user is notified of that, and one begins where the user is
-- notified of an opening.
use Rattle.world_keeps_streams.proofs.Common.{◌≡◌, ◌⊎◌, inl, inr, ℕ, ◌==◌, ◌&&◌, Bool, true, false, not, if◌then◌else◌, List, [], ◌∷◌, ◌++◌, refl, ap, sym, subst, ◌∙◌, eqb-true, Host, same_host, Crossing, Notice, both, Request, same_host-true, Fate, Moment, Crossed, Asked}
use Rattle.promise.specs.Fates.{IsBeside, AreFated, is_over}
use Rattle.net_sim.specs.Book.{Kept, all_told, book_told, carried, changed_when, life_ended, lives_asked, lives_at, lives_between, lives_crossed, lives_on, lives_told, lives_with, new_life, where_it, closing, fates_asked, fates_crossed, fates_told, fates_where, granted, nothing, over_by_cls, returned}
use Rattle.net_sim.specs.Told.{host_in, kept_by, notices_by, kept_in}
use Rattle.net_sim.proofs.lemmas.{kept_fated, by_fated, told_fated}
use Rattle.interface.specs.declared.crossing.Crossing.TheVariants as crossing
use Rattle.host_pairs.specs.declared.notice.Notice.TheVariants as notice
use Rattle.sockets.specs.declared.request.Request.TheVariants as request
use Rattle.promise.specs.declared.life.Fate.TheVariants as fate
use Rattle.promise.specs.declared.life.Life.{Life}
use Rattle.world_keeps_streams.proofs.Lives.Lists.{IsOf, Named, named_itself}
use Rattle.world_keeps_lives.proofs.lemmas.{goes_at, goes_with, goes_on}

-- ---- lists that are changed

pub record Was (x : Life) (f : Fate) (lives : List Life) (fates : List Fate) (test : Life → Bool) (change : Life → Life) (turn : Fate → Fate) : Type 0 where
  pub life : Life
  pub how : Fate
  pub there : IsBeside life how lives fates
  pub is : x ≡ changed_when (test life) change life
  pub fate_is : f ≡ (if test life then turn how else how)

was_where : (test : Life → Bool) (change : Life → Life) (turn : Fate → Fate) (lives : List Life) (fates : List Fate) (x : Life) (f : Fate) → IsBeside x f (where_it test change lives) (fates_where test turn lives fates)
    → Was x f lives fates test change turn
was_where test change turn [] fates x f i = absurd i
was_where test change turn (y ∷ lives) [] x f i = absurd i
was_where test change turn (y ∷ lives) (g ∷ fates) x f (inl e) = record { life = y; how = g; there = inl (refl, refl); is = e.0; fate_is = e.1 }
was_where test change turn (y ∷ lives) (g ∷ fates) x f (inr i) =
    let w : Was x f lives fates test change turn = was_where test change turn lives fates x f i in
    record { life = w.life; how = w.how; there = inr w.there; is = w.is; fate_is = w.fate_is }

pub was_life : {A : Type 0} (test : Life → Bool) (change : Life → Life) (lives : List Life) (others : List A) (x : Life) (a : A) → IsBeside x a (where_it test change lives) others
    → (y : Life) × IsBeside y a lives others × (x ≡ changed_when (test y) change y)
was_life test change [] others x a i = absurd i
was_life test change (y ∷ lives) [] x a i = absurd i
was_life test change (y ∷ lives) (b ∷ others) x a (inl e) = (y, inl (refl, e.1), e.0)
was_life {A} test change (y ∷ lives) (b ∷ others) x a (inr i) = let w : (z : Life) × IsBeside z a lives others × (x ≡ changed_when (test z) change z) = was_life test change lives others x a i in (w.0, inr w.1, w.2)

was_fate : (test : Life → Bool) (turn : Fate → Fate) (lives : List Life) (fates : List Fate) (x : Life) (f : Fate) → IsBeside x f lives (fates_where test turn lives fates) → (g : Fate) × IsBeside x g lives fates × (f ≡ (if test x then turn g else g))
was_fate test turn [] fates x f i = absurd i
was_fate test turn (y ∷ lives) [] x f i = absurd i
was_fate test turn (y ∷ lives) (g ∷ fates) x f (inl e) = (g, inl (e.0, refl), e.1 ∙ ap (λ (z : Life). if test z then turn g else g) (sym e.0))
was_fate test turn (y ∷ lives) (g ∷ fates) x f (inr i) = let w : (h : Fate) × IsBeside x h lives fates × (f ≡ (if test x then turn h else h)) = was_fate test turn lives fates x f i in (w.0, inr w.1, w.2)

was_more : (lives : List Life) (fates : List Fate) (n : Life) (u : Fate) (x : Life) (f : Fate) → AreFated lives fates → IsBeside x f (lives ++ n ∷ []) (fates ++ u ∷ []) → IsBeside x f lives fates ⊎ ((x ≡ n) × (f ≡ u))
was_more [] [] n u x f a (inl e) = inr e
was_more [] [] n u x f a (inr i) = absurd i
was_more [] (g ∷ fates) n u x f a i = absurd (let no : g ∷ fates ≡ [] = a in cc)
was_more (y ∷ lives) [] n u x f a i = absurd a
was_more (y ∷ lives) (g ∷ fates) n u x f a (inl e) = inl (inl e)
was_more (y ∷ lives) (g ∷ fates) n u x f a (inr i) = elim (was_more lives fates n u x f a.1 i) [
  | inl old ↦ inl (inr old)
  | inr new ↦ inr new
]

-- a life is over where its fate says so
pub beside_over : (lives : List Life) (fates : List Fate) (x : Life) (f : Fate) → AreFated lives fates → IsBeside x f lives fates → x.ended ≡ is_over f
beside_over [] fates x f a i = absurd i
beside_over (y ∷ lives) [] x f a i = absurd i
beside_over (y ∷ lives) (g ∷ fates) x f a (inl e) = ap (λ (z : Life). z.ended) e.0 ∙ a.0 ∙ ap is_over (sym e.1)
beside_over (y ∷ lives) (g ∷ fates) x f a (inr i) = beside_over lives fates x f a.1 i

pub beside_of : {A : Type 0} (lives : List Life) (others : List A) (x : Life) (a : A) → IsBeside x a lives others → IsOf x lives
beside_of {A} [] others x a i = absurd i
beside_of {A} (y ∷ lives) [] x a i = absurd i
beside_of {A} (y ∷ lives) (b ∷ others) x a (inl e) = inl e.0
beside_of {A} (y ∷ lives) (b ∷ others) x a (inr i) = inr (beside_of lives others x a i)

-- ---- notices that the end of a life is over, and that it is open

abbrev pub IsEnd : Life → Notice → Type 0
IsEnd x (notice.Ended socket peer foreign) = (peer ≡ x.peer) × (socket ≡ x.socket) × (foreign ≡ x.foreign)
IsEnd x n = ⊥

abbrev pub TellsEnd : Life → List Notice → Type 0
TellsEnd x [] = ⊥
TellsEnd x (n ∷ ns) = IsEnd x n ⊎ TellsEnd x ns

abbrev pub IsOpening : Life → Notice → Type 0
IsOpening x (notice.Opened socket peer foreign own partner) = (peer ≡ x.peer) × (socket ≡ x.socket) × (foreign ≡ x.foreign)
IsOpening x n = ⊥

abbrev pub TellsOpening : Life → List Notice → Type 0
TellsOpening x [] = ⊥
TellsOpening x (n ∷ ns) = IsOpening x n ⊎ TellsOpening x ns

abbrev pub IsResetting : Life → Notice → Type 0
IsResetting x (notice.PairReset peer) = peer ≡ x.peer
IsResetting x n = ⊥

abbrev pub TellsReset : Life → List Notice → Type 0
TellsReset x [] = ⊥
TellsReset x (n ∷ ns) = IsResetting x n ⊎ TellsReset x ns

-- they are of a life by its names
end_named : (x y : Life) → Named x y → (n : Notice) → (IsEnd x n → IsEnd y n) × (IsEnd y n → IsEnd x n)
end_named x y m (notice.Ended socket peer foreign) = (
  λ e. (e.0 ∙ sym m.peer, e.1 ∙ sym m.socket, e.2 ∙ sym m.foreign),
  λ e. (e.0 ∙ m.peer, e.1 ∙ m.socket, e.2 ∙ m.foreign),
)
end_named x y m n = (λ e. absurd e, λ e. absurd e)

pub ends_named : (x y : Life) → Named x y → (ns : List Notice) → (TellsEnd x ns → TellsEnd y ns) × (TellsEnd y ns → TellsEnd x ns)
ends_named x y m [] = (λ t. t, λ t. t)
ends_named x y m (n ∷ ns) = (
  λ t. elim t [
    | inl e ↦ inl ((end_named x y m n).0 e)
    | inr r ↦ inr ((ends_named x y m ns).0 r)
  ],
  λ t. elim t [
    | inl e ↦ inl ((end_named x y m n).1 e)
    | inr r ↦ inr ((ends_named x y m ns).1 r)
  ],
)

pub opening_named : (x y : Life) → Named x y → (n : Notice) → IsOpening x n → IsOpening y n
opening_named x y m (notice.Opened socket peer foreign own partner) o = (o.0 ∙ sym m.peer, o.1 ∙ sym m.socket, o.2 ∙ sym m.foreign)
opening_named x y m n o = absurd o

resetting_named : (x y : Life) → Named x y → (n : Notice) → IsResetting y n → IsResetting x n
resetting_named x y m (notice.PairReset peer) e = e ∙ m.peer
resetting_named x y m n e = absurd e

pub resets_named : (x y : Life) → Named x y → (ns : List Notice) → TellsReset y ns → TellsReset x ns
resets_named x y m [] t = t
resets_named x y m (n ∷ ns) (inl e) = inl (resetting_named x y m n e)
resets_named x y m (n ∷ ns) (inr t) = inr (resets_named x y m ns t)

-- ---- what becomes of a life that isn't over by a host's notices: it continues, it is over by CLS, or its pair was reset

abbrev pub IsCls : Fate → Type 0
IsCls g = (g ≡ fate.Closed) ⊎ (g ≡ fate.Ended)

abbrev pub How : Host → Life → List Notice → Fate → Type 0
How h x ns g = (is_over g ≡ false) ⊎ ((IsCls g × (h ≡ x.host) × TellsEnd x ns) ⊎ ((g ≡ fate.Reset) × (h ≡ x.host) × TellsReset x ns))

pub cls_over : (g : Fate) → IsCls g → is_over g ≡ true
cls_over g (inl e) = ap is_over e
cls_over g (inr e) = ap is_over e

first_end : (x : Life) (n : Notice) (ns : List Notice) → TellsEnd x (n ∷ []) → TellsEnd x (n ∷ ns)
first_end x n ns (inl e) = inl e
first_end x n ns (inr t) = absurd t

first_reset : (x : Life) (n : Notice) (ns : List Notice) → TellsReset x (n ∷ []) → TellsReset x (n ∷ ns)
first_reset x n ns (inl e) = inl e
first_reset x n ns (inr t) = absurd t

-- by names that are the same, and by notices after another
how_named : (h : Host) (ns : List Notice) (x y : Life) (g : Fate) → Named x y → How h y ns g → How h x ns g
how_named h ns x y g m (inl goes) = inl goes
how_named h ns x y g m (inr (inl t)) = inr (inl (t.0, t.1 ∙ m.host, (ends_named x y m ns).1 t.2))
how_named h ns x y g m (inr (inr t)) = inr (inr (t.0, t.1 ∙ m.host, resets_named x y m ns t.2))

how_later : (h : Host) (n : Notice) (ns : List Notice) (x : Life) (g : Fate) → How h x ns g → How h x (n ∷ ns) g
how_later h n ns x g (inl goes) = inl goes
how_later h n ns x g (inr (inl t)) = inr (inl (t.0, t.1, inr t.2))
how_later h n ns x g (inr (inr t)) = inr (inr (t.0, t.1, inr t.2))

how_then : (h : Host) (n : Notice) (ns : List Notice) (x : Life) (g k : Fate) → How h x (n ∷ []) g → (is_over g ≡ true → k ≡ g) → (is_over g ≡ false → How h x ns k) → How h x (n ∷ ns) k
how_then h n ns x g k (inl goes) over more = how_later h n ns x k (more goes)
how_then h n ns x g k (inr (inl t)) over more = inr (inl (subst IsCls (sym (over (cls_over g t.0))) t.0, t.1, first_end x n ns t.2))
how_then h n ns x g k (inr (inr t)) over more = inr (inr (over (ap is_over t.0) ∙ t.0, t.1, first_reset x n ns t.2))

-- ---- what becomes of a life and its fate by notices

pub record Turned (h : Host) (ns : List Notice) (x : Life) (f : Fate) (y : Life) (g : Fate) : Type 0 where
  pub named : Named x y
  pub granted : y.granted ≡ x.granted
  pub opens : g ≡ fate.Open → f ≡ fate.Open
  pub ends : g ≡ fate.Ended → (f ≡ fate.Ended) ⊎ ((f ≡ fate.Open) × (h ≡ x.host) × TellsEnd x ns)
  pub still : x.ended ≡ true → y ≡ x
  pub over : is_over f ≡ true → g ≡ f
  pub how : is_over f ≡ false → How h x ns g

turned_same : (h : Host) (ns : List Notice) (x : Life) (f : Fate) → Turned h ns x f x f
turned_same h ns x f = record { named = named_itself x; granted = refl; opens = λ e. e; ends = λ e. inl e; still = λ e. refl; over = λ e. refl; how = λ e. inl e }

turned_then : (h : Host) (n : Notice) (ns : List Notice) (x y z : Life) (f g k : Fate) → Turned h (n ∷ []) x f y g → Turned h ns y g z k → Turned h (n ∷ ns) x f z k
turned_then h n ns x y z f g k a b = record {
  named = record {
    host = b.named.host ∙ a.named.host;
    socket = b.named.socket ∙ a.named.socket;
    peer = b.named.peer ∙ a.named.peer;
    foreign = b.named.foreign ∙ a.named.foreign;
    own = b.named.own ∙ a.named.own;
    partner = b.named.partner ∙ a.named.partner;
  };
  granted = b.granted ∙ a.granted;
  opens = λ e. a.opens (b.opens e);
  ends = λ e. elim (b.ends e) [
    | inl was ↦ first (a.ends was)
    | inr now ↦ inr (a.opens now.0, now.1 ∙ a.named.host, inr ((ends_named x y a.named ns).1 now.2))
  ];
  still = λ e. b.still (ap (λ (v : Life). v.ended) (a.still e) ∙ e) ∙ a.still e;
  over = λ e. b.over (ap is_over (a.over e) ∙ e) ∙ a.over e;
  how = λ e. how_then h n ns x g k (a.how e) b.over (λ goes. how_named h ns x y k a.named (b.how goes));
} where
  first : (f ≡ fate.Ended) ⊎ ((f ≡ fate.Open) × (h ≡ x.host) × TellsEnd x (n ∷ [])) → (f ≡ fate.Ended) ⊎ ((f ≡ fate.Open) × (h ≡ x.host) × TellsEnd x (n ∷ ns))
  first (inl e) = inl e
  first (inr (o, host, inl t)) = inr (o, host, inl t)
  first (inr (o, host, inr t)) = absurd t

-- a change of lives only
turned_life : (h : Host) (ns : List Notice) (v : Bool) (change : Life → Life) (x : Life) (f : Fate) → ((z : Life) → Named z (change z)) → ((z : Life) → (change z).granted ≡ z.granted) → (v ≡ true → x.ended ≡ false)
    → Turned h ns x f (changed_when v change x) f
turned_life h ns true change x f names keeps goes = record {
  named = names x;
  granted = keeps x;
  opens = λ e. e;
  ends = λ e. inl e;
  still = λ e. absurd (let no : true ≡ false = sym e ∙ goes refl in cc);
  over = λ e. refl;
  how = λ e. inl e;
}
turned_life h ns false change x f names keeps goes = turned_same h ns x f

-- lives that end
turned_over : (h : Host) (ns : List Notice) (v : Bool) (turn : Fate → Fate) (x : Life) (f : Fate) → (v ≡ true → x.ended ≡ false) → ((g : Fate) → turn g ≡ fate.Open → ⊥) → (v ≡ true → turn f ≡ fate.Ended → (f ≡ fate.Open) × (h ≡ x.host) × TellsEnd x ns)
    → (v ≡ true → is_over f ≡ false) → (v ≡ true → How h x ns (turn f)) → Turned h ns x f (changed_when v life_ended x) (if v then turn f else f)
turned_over h ns true turn x f goes never ends fated how = record {
  named = record { host = refl; socket = refl; peer = refl; foreign = refl; own = refl; partner = refl };
  granted = refl;
  opens = λ e. absurd (never f e);
  ends = λ e. inr (ends refl e);
  still = λ e. absurd (let no : true ≡ false = sym e ∙ goes refl in cc);
  over = λ e. absurd (let no : true ≡ false = sym e ∙ fated refl in cc);
  how = λ e. how refl;
}
turned_over h ns false turn x f goes never ends fated how = turned_same h ns x f

-- ---- which lives those are

-- the life that an end is of
between_at : (h : Host) (socket : ℕ) (peer : Host) (foreign : ℕ) (x : Life) → lives_between h socket peer foreign x ≡ true
    → (lives_at h socket x ≡ true) × IsEnd x (notice.Ended socket peer foreign)
between_at h socket peer foreign x e =
    let p : ((lives_at h socket x && same_host peer x.peer) ≡ true) × ((x.foreign == foreign) ≡ true) = both _ _ e in
    let q : (lives_at h socket x ≡ true) × (same_host peer x.peer ≡ true) = both _ _ p.0 in
    let r : ((same_host h x.host && x.socket == socket) ≡ true) × (not x.ended ≡ true) = both _ _ q.0 in
    let at : (x.socket == socket) ≡ true = (both _ _ r.0).1 in
    (q.0, (same_host-true peer x.peer q.1, sym (eqb-true x.socket socket at), sym (eqb-true x.foreign foreign p.1)))

at_host : (h : Host) (socket : ℕ) (x : Life) → lives_at h socket x ≡ true → h ≡ x.host
at_host h socket x e =
    let p : ((same_host h x.host && x.socket == socket) ≡ true) × (not x.ended ≡ true) = both _ _ e in
    same_host-true h x.host (both _ _ p.0).0

-- those with a peer
with_names : (h peer : Host) (x : Life) → lives_with h peer x ≡ true → (h ≡ x.host) × (peer ≡ x.peer)
with_names h peer x e =
    let p : (same_host h x.host ≡ true) × (same_host peer x.peer ≡ true) = both (same_host h x.host) (same_host peer x.peer) (both (same_host h x.host && same_host peer x.peer) (not x.ended) e).0 in
    (same_host-true h x.host p.0, same_host-true peer x.peer p.1)

on_host : (h : Host) (x : Life) → lives_on h x ≡ true → h ≡ x.host
on_host h x e = same_host-true h x.host (both _ _ e).0

-- ---- fates

over_never : (g : Fate) → over_by_cls g ≡ fate.Open → ⊥
over_never fate.Open e = absurd (let no : fate.Ended ≡ fate.Open = e in cc)
over_never fate.Closing e = absurd (let no : fate.Closed ≡ fate.Open = e in cc)
over_never fate.Closed e = absurd (let no : fate.Ended ≡ fate.Open = e in cc)
over_never fate.Ended e = absurd (let no : fate.Ended ≡ fate.Open = e in cc)
over_never fate.Reset e = absurd (let no : fate.Ended ≡ fate.Open = e in cc)
over_never fate.Stopped e = absurd (let no : fate.Ended ≡ fate.Open = e in cc)

-- only an open life that isn't over ends so
over_open : (g : Fate) → is_over g ≡ false → over_by_cls g ≡ fate.Ended → g ≡ fate.Open
over_open fate.Open o e = refl
over_open fate.Closing o e = absurd (let no : fate.Closed ≡ fate.Ended = e in cc)
over_open fate.Closed o e = absurd (let no : true ≡ false = o in cc)
over_open fate.Ended o e = absurd (let no : true ≡ false = o in cc)
over_open fate.Reset o e = absurd (let no : true ≡ false = o in cc)
over_open fate.Stopped o e = absurd (let no : true ≡ false = o in cc)

over_cls : (g : Fate) → IsCls (over_by_cls g)
over_cls fate.Open = inr refl
over_cls fate.Closing = inl refl
over_cls fate.Closed = inr refl
over_cls fate.Ended = inr refl
over_cls fate.Reset = inr refl
over_cls fate.Stopped = inr refl

closing_over : (g : Fate) → is_over g ≡ true → closing g ≡ g
closing_over fate.Open e = absurd (let no : false ≡ true = e in cc)
closing_over fate.Closing e = refl
closing_over fate.Closed e = refl
closing_over fate.Ended e = refl
closing_over fate.Reset e = refl
closing_over fate.Stopped e = refl

closing_goes : (g : Fate) → is_over g ≡ false → is_over (closing g) ≡ false
closing_goes fate.Open e = refl
closing_goes g e = e

closing_open : (g : Fate) → closing g ≡ fate.Open → ⊥
closing_open fate.Open e = absurd (let no : fate.Closing ≡ fate.Open = e in cc)
closing_open fate.Closing e = absurd (let no : fate.Closing ≡ fate.Open = e in cc)
closing_open fate.Closed e = absurd (let no : fate.Closed ≡ fate.Open = e in cc)
closing_open fate.Ended e = absurd (let no : fate.Ended ≡ fate.Open = e in cc)
closing_open fate.Reset e = absurd (let no : fate.Reset ≡ fate.Open = e in cc)
closing_open fate.Stopped e = absurd (let no : fate.Stopped ≡ fate.Open = e in cc)

closing_ended : (g : Fate) → closing g ≡ fate.Ended → g ≡ fate.Ended
closing_ended fate.Open e = absurd (let no : fate.Closing ≡ fate.Ended = e in cc)
closing_ended g e = e

-- ---- a notice, and several

-- a life that begins by one of these notices: nothing is granted in it, and it ends only by another
pub record IsBegun (h : Host) (ns : List Notice) (y : Life) (g : Fate) : Type 0 where
  pub granted : y.granted ≡ nothing
  pub host : h ≡ y.host
  pub opens : TellsOpening y ns
  pub ends : g ≡ fate.Ended → TellsEnd y ns
  pub how : How h y ns g

-- a life and its fate come from such that were there, or it begins
abbrev pub Comes : Host → List Notice → List Life → List Fate → Life → Fate → Type 0
Comes h ns lives fates y g = ((x : Life) × (f : Fate) × IsBeside x f lives fates × Turned h ns x f y g) ⊎ IsBegun h ns y g

lives_come : (h : Host) (ns : List Notice) (test : Life → Bool) (change : Life → Life) (lives : List Life) (fates : List Fate) (y : Life) (g : Fate) → ((z : Life) → Named z (change z)) → ((z : Life) → (change z).granted ≡ z.granted)
    → ((z : Life) → test z ≡ true → z.ended ≡ false) → IsBeside y g (where_it test change lives) fates → Comes h ns lives fates y g
lives_come h ns test change lives fates y g names keeps goes i =
    let w : (x : Life) × IsBeside x g lives fates × (y ≡ changed_when (test x) change x) = was_life test change lives fates y g i in
    inl (w.0, g, w.1, subst (λ (z : Life). Turned h ns w.0 g z g) (sym w.2) (turned_life h ns _ change w.0 g names keeps (goes w.0)))

over_comes : (h : Host) (ns : List Notice) (test : Life → Bool) (turn : Fate → Fate) (lives : List Life) (fates : List Fate) (y : Life) (g : Fate) → ((z : Life) → test z ≡ true → z.ended ≡ false) → ((k : Fate) → turn k ≡ fate.Open → ⊥)
    → ((x : Life) (k : Fate) → IsBeside x k lives fates → test x ≡ true → turn k ≡ fate.Ended → (k ≡ fate.Open) × (h ≡ x.host) × TellsEnd x ns)
    → AreFated lives fates → ((x : Life) (k : Fate) → test x ≡ true → How h x ns (turn k))
    → IsBeside y g (where_it test life_ended lives) (fates_where test turn lives fates) → Comes h ns lives fates y g
over_comes h ns test turn lives fates y g goes never ends a how i =
    let w : Was y g lives fates test life_ended turn = was_where test life_ended turn lives fates y g i in
    inl (
      w.life,
      w.how,
      w.there,
      subst (λ (k : Fate). Turned h ns w.life w.how y k) (sym w.fate_is)
          (subst (λ (z : Life). Turned h ns w.life w.how z (if test w.life then turn w.how else w.how)) (sym w.is) (turned_over h ns _ turn w.life w.how (goes w.life) never (ends w.life w.how w.there)
          (λ e. sym (beside_over lives fates w.life w.how a w.there) ∙ goes w.life e) (how w.life w.how))),
    )

told_comes : (h : Host) (n : Notice) (lives : List Life) (fates : List Fate) (y : Life) (g : Fate) → AreFated lives fates → IsBeside y g (lives_told h n lives) (fates_told h n lives fates) → Comes h (n ∷ []) lives fates y g
told_comes h (notice.Opened socket peer foreign own partner) lives fates y g a i = elim (was_more lives fates _ fate.Open y g a i) [
  | inl old ↦ inl (y, g, old, turned_same h _ y g)
  | inr new ↦ inr (record {
    granted = ap (λ (z : Life). z.granted) new.0;
    host = ap (λ (z : Life). z.host) (sym new.0);
    opens = inl (ap (λ (z : Life). z.peer) (sym new.0), ap (λ (z : Life). z.socket) (sym new.0), ap (λ (z : Life). z.foreign) (sym new.0));
    ends = λ e. absurd (let no : fate.Open ≡ fate.Ended = sym new.1 ∙ e in cc);
    how = inl (ap is_over new.1);
  })
]
told_comes h (notice.Ended socket peer foreign) lives fates y g a i =
    over_comes h _ _ over_by_cls lives fates y g (λ z e. goes_at h socket z (between_at h socket peer foreign z e).0) over_never
    (λ x k there e turns.
    (let p : (lives_at h socket x ≡ true) × IsEnd x (notice.Ended socket peer foreign) = between_at h socket peer foreign x e in
    let over : is_over k ≡ false = sym (beside_over lives fates x k a there) ∙ goes_at h socket x p.0 in
    (over_open k over turns, at_host h socket x p.0, inl p.1))) a
    (λ x k e. (let p : (lives_at h socket x ≡ true) × IsEnd x (notice.Ended socket peer foreign) = between_at h socket peer foreign x e in inr (inl (over_cls k, at_host h socket x p.0, inl p.1)))) i
told_comes h (notice.PairReset peer) lives fates y g a i =
    over_comes h _ _ _ lives fates y g (goes_with h peer) (λ k e. absurd (let no : fate.Reset ≡ fate.Open = e in cc))
    (λ x k there e turns. absurd (let no : fate.Reset ≡ fate.Ended = turns in cc)) a
    (λ x k e. (let p : (h ≡ x.host) × (peer ≡ x.peer) = with_names h peer x e in inr (inr (refl, p.0, inl p.1)))) i
told_comes h (notice.Sent socket bits) lives fates y g a i =
    lives_come h _ _ _ lives fates y g (λ z. record { host = refl; socket = refl; peer = refl; foreign = refl; own = refl; partner = refl }) (λ z. refl) (goes_at h socket) i
told_comes h (notice.Arrived socket bits) lives fates y g a i =
    lives_come h _ _ _ lives fates y g (λ z. record { host = refl; socket = refl; peer = refl; foreign = refl; own = refl; partner = refl }) (λ z. refl) (goes_at h socket) i
told_comes h (notice.Returned socket messages bits) lives fates y g a i =
    lives_come h _ _ _ lives fates y g (λ z. record { host = refl; socket = refl; peer = refl; foreign = refl; own = refl; partner = refl }) (λ z. refl) (goes_at h socket) i
told_comes h n lives fates y g a i = inl (y, g, i, turned_same h _ y g)

turned_back : (x y : Life) → Named x y → Named y x
turned_back x y m = record { host = sym m.host; socket = sym m.socket; peer = sym m.peer; foreign = sym m.foreign; own = sym m.own; partner = sym m.partner }

all_come : (h : Host) (ns : List Notice) (k : Kept) (y : Life) (g : Fate) → AreFated k.book.lives k.fates → IsBeside y g (all_told h ns k).book.lives (all_told h ns k).fates → Comes h ns k.book.lives k.fates y g
all_come h [] k y g a i = inl (y, g, i, turned_same h [] y g)
all_come h (n ∷ ns) k y g a i = by (all_come h ns (book_told h n k) y g (told_fated h n k.book.lives k.fates a) i) where
  first : (x : Life) (f : Fate) → Turned h ns x f y g → Comes h (n ∷ []) k.book.lives k.fates x f → Comes h (n ∷ ns) k.book.lives k.fates y g
  first x f t (inl o) = inl (o.0, o.1, o.2, turned_then h n ns o.0 x y o.1 f g o.3 t)
  first x f t (inr b) = inr (record {
    granted = t.granted ∙ b.granted;
    host = b.host ∙ sym t.named.host;
    opens = elim b.opens [
      | inl o ↦ inl (opening_named x y t.named n o)
      | inr none ↦ absurd none
    ];
    ends = λ e. elim (t.ends e) [
      | inl was ↦ elim (b.ends was) [
        | inl o ↦ inl ((end_named x y t.named n).0 o)
        | inr none ↦ absurd none
      ]
      | inr now ↦ inr ((ends_named x y t.named ns).0 now.2)
    ];
    how = how_named h (n ∷ ns) y x g (turned_back x y t.named) (how_then h n ns x f g b.how t.over t.how);
  })

  by : Comes h ns (lives_told h n k.book.lives) (fates_told h n k.book.lives k.fates) y g → Comes h (n ∷ ns) k.book.lives k.fates y g
  by (inl o) = first o.0 o.1 o.3 (told_comes h n k.book.lives k.fates o.0 o.1 a o.2)
  by (inr b) = inr (record { granted = b.granted; host = b.host; opens = inr b.opens; ends = λ e. inr (b.ends e); how = how_later h n ns y g b.how })

-- ---- the moment itself

-- a user of the life's host closes its end, or grants there
abbrev pub IsClose : Moment → Life → Type 0
IsClose (Asked h (request.Close socket)) x = lives_at h socket x ≡ true
IsClose y x = ⊥

abbrev pub IsGrant : Moment → Type 0
IsGrant (Asked h (request.Grant socket messages bits)) = Unit {0}
IsGrant y = ⊥

-- its host stops
abbrev pub IsDown : Moment → Life → Type 0
IsDown (Crossed (crossing.Down h)) x = h ≡ x.host
IsDown y x = ⊥

pub record Stepped (m : Moment) (x : Life) (f : Fate) (y : Life) (g : Fate) : Type 0 where
  pub named : Named x y
  pub granted : (y.granted ≡ x.granted) ⊎ IsGrant m
  pub opens : g ≡ fate.Open → f ≡ fate.Open
  pub unclosed : g ≡ fate.Open → IsClose m x → ⊥
  pub ends : g ≡ fate.Ended → f ≡ fate.Ended
  pub still : x.ended ≡ true → y ≡ x
  pub over : is_over f ≡ true → g ≡ f
  pub how : is_over f ≡ false → (is_over g ≡ false) ⊎ ((g ≡ fate.Stopped) × IsDown m x)

abbrev pub CameBy : Moment → List Life → List Fate → Life → Fate → Type 0
CameBy m lives fates y g = (x : Life) × (f : Fate) × IsBeside x f lives fates × Stepped m x f y g

same_step : (m : Moment) (x : Life) (f : Fate) → (IsClose m x → ⊥) → Stepped m x f x f
same_step m x f none = record { named = named_itself x; granted = inl refl; opens = λ e. e; unclosed = λ e. none; ends = λ e. e; still = λ e. refl; over = λ e. refl; how = λ e. inl e }

down_step : (h : Host) (v : Bool) (x : Life) (f : Fate) → (v ≡ true → x.ended ≡ false) → (v ≡ true → is_over f ≡ false) → (v ≡ true → h ≡ x.host) → Stepped (Crossed (crossing.Down h)) x f (changed_when v life_ended x) (if v then fate.Stopped else f)
down_step h true x f goes fated here = record {
  named = record { host = refl; socket = refl; peer = refl; foreign = refl; own = refl; partner = refl };
  granted = inl refl;
  opens = λ e. absurd (let no : fate.Stopped ≡ fate.Open = e in cc);
  unclosed = λ e i. i;
  ends = λ e. absurd (let no : fate.Stopped ≡ fate.Ended = e in cc);
  still = λ e. absurd (let no : true ≡ false = sym e ∙ goes refl in cc);
  over = λ e. absurd (let no : true ≡ false = sym e ∙ fated refl in cc);
  how = λ e. inr (refl, here refl);
}
down_step h false x f goes fated here = same_step _ x f (λ i. i)

crossed_step : (c : Crossing) (lives : List Life) (fates : List Fate) (y : Life) (g : Fate) → AreFated lives fates → IsBeside y g (lives_crossed c lives) (fates_crossed c lives fates) → CameBy (Crossed c) lives fates y g
crossed_step (crossing.Down h) lives fates y g a i =
    let w : Was y g lives fates (lives_on h) life_ended (λ f. fate.Stopped) = was_where _ life_ended _ lives fates y g i in (
      w.life,
      w.how,
      w.there,
      subst (λ (k : Fate). Stepped (Crossed (crossing.Down h)) w.life w.how y k) (sym w.fate_is)
          (subst (λ (z : Life). Stepped (Crossed (crossing.Down h)) w.life w.how z (if lives_on h w.life then fate.Stopped else w.how)) (sym w.is) (down_step h _ w.life w.how (goes_on h w.life)
          (λ e. sym (beside_over lives fates w.life w.how a w.there) ∙ goes_on h w.life e) (on_host h w.life))),
    )
crossed_step c lives fates y g a i = (y, g, i, same_step _ y g (λ e. e))

close_step : (h : Host) (socket : ℕ) (v : Bool) (x : Life) (f : Fate) → lives_at h socket x ≡ v → Stepped (Asked h (request.Close socket)) x f x (if v then closing f else f)
close_step h socket true x f is = record {
  named = named_itself x;
  granted = inl refl;
  opens = λ e. absurd (closing_open f e);
  unclosed = λ e i. closing_open f e;
  ends = closing_ended f;
  still = λ e. refl;
  over = closing_over f;
  how = λ e. inl (closing_goes f e);
}
close_step h socket false x f is = same_step _ x f (λ i. absurd (let no : true ≡ false = sym i ∙ is in cc))

grant_step : (h : Host) (socket messages bits : ℕ) (v : Bool) (x : Life) (f : Fate) → (v ≡ true → x.ended ≡ false) → Stepped (Asked h (request.Grant socket messages bits)) x f (changed_when v (granted messages bits) x) f
grant_step h socket messages bits true x f goes = record {
  named = record { host = refl; socket = refl; peer = refl; foreign = refl; own = refl; partner = refl };
  granted = inr tt;
  opens = λ e. e;
  unclosed = λ e i. i;
  ends = λ e. e;
  still = λ e. absurd (let no : true ≡ false = sym e ∙ goes refl in cc);
  over = λ e. refl;
  how = λ e. inl e;
}
grant_step h socket messages bits false x f goes = same_step _ x f (λ i. i)

asked_step : (h : Host) (r : Request) (lives : List Life) (fates : List Fate) (y : Life) (g : Fate) → IsBeside y g (lives_asked h r lives) (fates_asked h r lives fates) → CameBy (Asked h r) lives fates y g
asked_step h (request.Close socket) lives fates y g i =
    let w : (k : Fate) × IsBeside y k lives fates × (g ≡ (if lives_at h socket y then closing k else k)) = was_fate (lives_at h socket) closing lives fates y g i in
    (y, w.0, w.1, subst (λ (k : Fate). Stepped (Asked h (request.Close socket)) y w.0 y k) (sym w.2) (close_step h socket (lives_at h socket y) y w.0 refl))
asked_step h (request.Grant socket messages bits) lives fates y g i =
    let w : (x : Life) × IsBeside x g lives fates × (y ≡ changed_when (lives_at h socket x) (granted messages bits) x) = was_life (lives_at h socket) (granted messages bits) lives fates y g i in
    (w.0, g, w.1, subst (λ (z : Life). Stepped (Asked h (request.Grant socket messages bits)) w.0 g z g) (sym w.2) (grant_step h socket messages bits (lives_at h socket w.0) w.0 g (goes_at h socket w.0)))
asked_step h r lives fates y g i = (y, g, i, same_step (Asked h r) y g (λ e. e))

by_step : (m : Moment) (k : Kept) (y : Life) (g : Fate) → AreFated k.book.lives k.fates → IsBeside y g (kept_by m k).book.lives (kept_by m k).fates → CameBy m k.book.lives k.fates y g
by_step (Crossed c) k y g a i = crossed_step c k.book.lives k.fates y g a i
by_step (Asked h r) k y g a i = asked_step h r k.book.lives k.fates y g i

-- ---- a moment, with its notices

pub record Moved (m : Moment) (ms : List Moment) (x : Life) (f : Fate) (y : Life) (g : Fate) : Type 0 where
  pub named : Named x y
  pub granted : (y.granted ≡ x.granted) ⊎ IsGrant m
  pub opens : g ≡ fate.Open → f ≡ fate.Open
  pub unclosed : g ≡ fate.Open → IsClose m x → ⊥
  pub ends : g ≡ fate.Ended → (f ≡ fate.Ended) ⊎ ((f ≡ fate.Open) × (host_in m ≡ x.host) × TellsEnd x (notices_by m ms))
  pub still : x.ended ≡ true → y ≡ x
  pub over : is_over f ≡ true → g ≡ f
  pub how : is_over f ≡ false → How (host_in m) x (notices_by m ms) g ⊎ ((g ≡ fate.Stopped) × IsDown m x)

abbrev pub Came : Moment → List Moment → Life → Fate → Type 0
Came m ms y g = ((x : Life) × (f : Fate) × IsBeside x f (kept_in ms).book.lives (kept_in ms).fates × Moved m ms x f y g) ⊎ IsBegun (host_in m) (notices_by m ms) y g

pub came : (m : Moment) (ms : List Moment) (y : Life) (g : Fate) → IsBeside y g (kept_in (m ∷ ms)).book.lives (kept_in (m ∷ ms)).fates → Came m ms y g
came m ms y g i = by (all_come (host_in m) (notices_by m ms) (kept_by m (kept_in ms)) y g (by_fated m (kept_in ms) (kept_fated ms)) i) where
  both_steps : (z : Life) (k : Fate) → Turned (host_in m) (notices_by m ms) z k y g → CameBy m (kept_in ms).book.lives (kept_in ms).fates z k → Came m ms y g
  both_steps z k t o = inl (
    o.0,
    o.1,
    o.2,
    record {
      named = record {
        host = t.named.host ∙ o.3.named.host;
        socket = t.named.socket ∙ o.3.named.socket;
        peer = t.named.peer ∙ o.3.named.peer;
        foreign = t.named.foreign ∙ o.3.named.foreign;
        own = t.named.own ∙ o.3.named.own;
        partner = t.named.partner ∙ o.3.named.partner;
      };
      granted = elim o.3.granted [
        | inl e ↦ inl (t.granted ∙ e)
        | inr p ↦ inr p
      ];
      opens = λ e. o.3.opens (t.opens e);
      unclosed = λ e. o.3.unclosed (t.opens e);
      ends = λ e. elim (t.ends e) [
        | inl was ↦ inl (o.3.ends was)
        | inr now ↦ inr (o.3.opens now.0, now.1 ∙ o.3.named.host, (ends_named o.0 z o.3.named (notices_by m ms)).1 now.2)
      ];
      still = λ e. t.still (ap (λ (v : Life). v.ended) (o.3.still e) ∙ e) ∙ o.3.still e;
      over = λ e. t.over (ap is_over (o.3.over e) ∙ e) ∙ o.3.over e;
      how = λ e. elim (o.3.how e) [
        | inl goes ↦ inl (how_named (host_in m) (notices_by m ms) o.0 z g o.3.named (t.how goes))
        | inr down ↦ inr (t.over (ap is_over down.0) ∙ down.0, down.1)
      ];
    },
  )

  by : Comes (host_in m) (notices_by m ms) (kept_by m (kept_in ms)).book.lives (kept_by m (kept_in ms)).fates y g → Came m ms y g
  by (inl o) = both_steps o.0 o.1 o.3 (by_step m (kept_in ms) o.0 o.1 (kept_fated ms) o.2)
  by (inr b) = inr b
