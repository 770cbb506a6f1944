-- What was done to the lives is taken back.
use Rattle.net_sim.proofs.Common.{◌≡◌, inl, inr, ℕ, ◌+◌, ◌<◌, ◌≤◌, Bool, zero, suc, List, [], ◌∷◌, ◌++◌, length, take, drop, slice_set, refl, ap, sym, ◌∙◌, arith, drop_more, take-append_seam, Fate, Life, LivesState, changed_here, Undo, life_back, reopened, undone, all_undone, GoesBack, IsEndNoted, IsNoted}
use Rattle.std.proofs.Common.{slice_index_or}
pub use Rattle.net_sim.specs.Inside.Lives.{state}
use Rattle.net_sim.specs.Inside.Undo.{cut_here, fate_here, IsTurnNoted, AreNoted}
use Rattle.net_sim.specs.declared.undo.Undo.TheVariants as undo

-- one thing more was done
last_undone : (us : List Undo) (u : Undo) (s : LivesState) → all_undone (us ++ u ∷ []) s ≡ all_undone us (undone u s)
last_undone [] u s = refl
last_undone (v ∷ us) u s = ap (λ (t : LivesState). undone v t) (last_undone us u s)

-- it is taken back
pub one_back : (us vs : List Undo) (u : Undo) (s t : LivesState) → vs ≡ us ++ u ∷ [] → undone u t ≡ s → all_undone vs t ≡ all_undone us s
one_back us vs u s t more back = ap (λ (ws : List Undo). all_undone ws t) more ∙ last_undone us u t ∙ ap (λ (r : LivesState). all_undone us r) back

-- ---- at a place

-- it is as it was
here_back : (f : Life → Life) (at : ℕ) (xs : List Life) (d x y : Life) → x ≡ slice_index_or xs at d → f y ≡ x → changed_here f at (slice_set xs at y) ≡ xs
here_back f at [] d x y is back = refl
here_back f zero (z ∷ xs) d x y is back = ap (λ (w : Life). w ∷ xs) (back ∙ is)
here_back f (suc at) (z ∷ xs) d x y is back = ap (λ (ws : List Life). z ∷ ws) (here_back f at xs d x y is back)

-- nothing changes there
here_same : {A : Type 0} (at : ℕ) (xs : List A) (d x y : A) → x ≡ slice_index_or xs at d → y ≡ x → slice_set xs at y ≡ xs
here_same at [] d x y is same = refl
here_same {A} zero (z ∷ xs) d x y is same = ap (λ (w : A). w ∷ xs) (same ∙ is)
here_same {A} (suc at) (z ∷ xs) d x y is same = ap (λ (ws : List A). z ∷ ws) (here_same at xs d x y is same)

-- nothing is there
pub here_past : (f : Life → Life) (at : ℕ) (xs : List Life) → length xs ≤ at → xs ≡ changed_here f at xs
here_past f at [] le = refl
here_past f zero (x ∷ xs) le = absurd (omega (arith, le))
here_past f (suc at) (x ∷ xs) le = ap (λ (ys : List Life). x ∷ ys) (here_past f at xs (omega (arith, le)))

-- a life at a place is changed, and that is noted
pub noted_back : (us vs : List Undo) (at : ℕ) (xs : List Life) (handed : List (List Bool)) (fates : List Fate) (d x y : Life) → x ≡ slice_index_or xs at d → IsNoted at us x vs y
    → GoesBack us (state xs handed fates) vs (state (slice_set xs at y) handed fates)
noted_back us vs at xs handed fates d x y is (inl same) =
    ap (λ (ws : List Undo). all_undone ws (state (slice_set xs at y) handed fates)) same.0 ∙ ap (λ (ys : List Life). all_undone us (state ys handed fates)) (here_same at xs d x y is same.1)
noted_back us vs at xs handed fates d x y is (inr n) =
    one_back us vs (undo.Changed at n.0) (state xs handed fates) (state (slice_set xs at y) handed fates) n.1 (ap (λ (ys : List Life). state ys handed fates) (here_back (life_back n.0) at xs d x y is n.2))

-- a life at a place ends, and that is noted
pub end_back : (us vs : List Undo) (at : ℕ) (xs : List Life) (handed : List (List Bool)) (fates : List Fate) (d x y : Life) → x ≡ slice_index_or xs at d → IsEndNoted at us x vs y
    → GoesBack us (state xs handed fates) vs (state (slice_set xs at y) handed fates)
end_back us vs at xs handed fates d x y is (inl same) =
    ap (λ (ws : List Undo). all_undone ws (state (slice_set xs at y) handed fates)) same.0 ∙ ap (λ (ys : List Life). all_undone us (state ys handed fates)) (here_same at xs d x y is same.1)
end_back us vs at xs handed fates d x y is (inr n) =
    one_back us vs (undo.Ended at) (state xs handed fates) (state (slice_set xs at y) handed fates) n.0 (ap (λ (ys : List Life). state ys handed fates) (here_back reopened at xs d x y is n.1))

-- ---- what was handed over

pub cut_set : (n at : ℕ) (hs : List (List Bool)) (d new : List Bool) → new ≡ take n (slice_index_or hs at d) → slice_set hs at new ≡ cut_here n at hs
cut_set n at [] d new is = refl
cut_set n zero (h ∷ hs) d new is = ap (λ (g : List Bool). g ∷ hs) is
cut_set n (suc at) (h ∷ hs) d new is = ap (λ (gs : List (List Bool)). h ∷ gs) (cut_set n at hs d new is)

pub cut_past : (n at : ℕ) (hs : List (List Bool)) → length hs ≤ at → hs ≡ cut_here n at hs
cut_past n at [] le = refl
cut_past n zero (h ∷ hs) le = absurd (omega (arith, le))
cut_past n (suc at) (h ∷ hs) le = ap (λ (gs : List (List Bool)). h ∷ gs) (cut_past n at hs (omega (arith, le)))

cut_back : (n at : ℕ) (hs : List (List Bool)) (d h g : List Bool) → h ≡ slice_index_or hs at d → take n g ≡ h → cut_here n at (slice_set hs at g) ≡ hs
cut_back n at [] d h g is back = refl
cut_back n zero (k ∷ hs) d h g is back = ap (λ (w : List Bool). w ∷ hs) (back ∙ is)
cut_back n (suc at) (k ∷ hs) d h g is back = ap (λ (ws : List (List Bool)). k ∷ ws) (cut_back n at hs d h g is back)

pub handed_back : (us vs : List Undo) (at : ℕ) (lives : List Life) (fates : List Fate) (hs : List (List Bool)) (d h g : List Bool) → h ≡ slice_index_or hs at d → AreNoted at us h vs g
    → GoesBack us (state lives hs fates) vs (state lives (slice_set hs at g) fates)
handed_back us vs at lives fates hs d h g is (inl same) =
    ap (λ (ws : List Undo). all_undone ws (state lives (slice_set hs at g) fates)) same.0 ∙ ap (λ (gs : List (List Bool)). all_undone us (state lives gs fates)) (here_same at hs d h g is same.1)
handed_back us vs at lives fates hs d h g is (inr n) =
    one_back us vs (undo.Handed at n.0) (state lives hs fates) (state lives (slice_set hs at g) fates) n.1 (ap (λ (gs : List (List Bool)). state lives gs fates) (cut_back n.0 at hs d h g is n.2))

pub handed_next : (us vs : List Undo) (at : ℕ) (lives : List Life) (fates : List Fate) (hs gs : List (List Bool)) (d h g : List Bool) (before : List Undo) (s : LivesState) (ws : List Undo) → ws ≡ vs → gs ≡ slice_set hs at g → h ≡ slice_index_or hs at d → AreNoted at us h vs g
    → GoesBack before s us (state lives hs fates) → GoesBack before s ws (state lives gs fates)
handed_next us vs at lives fates hs gs d h g before s ws same set is noted rest =
    ap (λ (zs : List Undo). all_undone zs (state lives gs fates)) same ∙ ap (λ (ks : List (List Bool)). all_undone vs (state lives ks fates)) set ∙ handed_back us vs at lives fates hs d h g is noted ∙ rest

pub handed_same : (us : List Undo) (lives : List Life) (fates : List Fate) (hs gs : List (List Bool)) (before : List Undo) (s : LivesState) (ws : List Undo) → ws ≡ us → gs ≡ hs → GoesBack before s us (state lives hs fates) → GoesBack before s ws (state lives gs fates)
handed_same us lives fates hs gs before s ws same is rest = ap (λ (zs : List Undo). all_undone zs (state lives gs fates)) same ∙ ap (λ (ks : List (List Bool)). all_undone us (state lives ks fates)) is ∙ rest

-- ---- fates

pub fate_set : (was : Fate) (at : ℕ) (fs : List Fate) → slice_set fs at was ≡ fate_here was at fs
fate_set was at [] = refl
fate_set was zero (f ∷ fs) = refl
fate_set was (suc at) (f ∷ fs) = ap (λ (gs : List Fate). f ∷ gs) (fate_set was at fs)

pub fate_past : (was : Fate) (at : ℕ) (fs : List Fate) → length fs ≤ at → fs ≡ fate_here was at fs
fate_past was at [] le = refl
fate_past was zero (f ∷ fs) le = absurd (omega (arith, le))
fate_past was (suc at) (f ∷ fs) le = ap (λ (gs : List Fate). f ∷ gs) (fate_past was at fs (omega (arith, le)))

fate_back : (at : ℕ) (fs : List Fate) (d f g : Fate) → f ≡ slice_index_or fs at d → fate_here f at (slice_set fs at g) ≡ fs
fate_back at [] d f g is = refl
fate_back zero (h ∷ fs) d f g is = ap (λ (w : Fate). w ∷ fs) is
fate_back (suc at) (h ∷ fs) d f g is = ap (λ (gs : List Fate). h ∷ gs) (fate_back at fs d f g is)

pub turned_back : (us vs : List Undo) (at : ℕ) (lives : List Life) (handed : List (List Bool)) (fs : List Fate) (d f g : Fate) → f ≡ slice_index_or fs at d → IsTurnNoted at us f vs g
    → GoesBack us (state lives handed fs) vs (state lives handed (slice_set fs at g))
turned_back us vs at lives handed fs d f g is (inl same) =
    ap (λ (ws : List Undo). all_undone ws (state lives handed (slice_set fs at g))) same.0 ∙ ap (λ (gs : List Fate). all_undone us (state lives handed gs)) (here_same at fs d f g is same.1)
turned_back us vs at lives handed fs d f g is (inr n) =
    one_back us vs (undo.Turned at f) (state lives handed fs) (state lives handed (slice_set fs at g)) n (ap (λ (gs : List Fate). state lives handed gs) (fate_back at fs d f g is))

pub turned_next : (us vs : List Undo) (at : ℕ) (lives : List Life) (handed : List (List Bool)) (fs gs : List Fate) (d f g : Fate) (before : List Undo) (s : LivesState) (ws : List Undo) → ws ≡ vs → gs ≡ slice_set fs at g
    → f ≡ slice_index_or fs at d → IsTurnNoted at us f vs g → GoesBack before s us (state lives handed fs) → GoesBack before s ws (state lives handed gs)
turned_next us vs at lives handed fs gs d f g before s ws same set is noted rest =
    ap (λ (zs : List Undo). all_undone zs (state lives handed gs)) same ∙ ap (λ (ks : List Fate). all_undone vs (state lives handed ks)) set ∙ turned_back us vs at lives handed fs d f g is noted ∙ rest

pub turned_same : (us : List Undo) (lives : List Life) (handed : List (List Bool)) (fs gs : List Fate) (before : List Undo) (s : LivesState) (ws : List Undo) → ws ≡ us → gs ≡ fs → GoesBack before s us (state lives handed fs)
    → GoesBack before s ws (state lives handed gs)
turned_same us lives handed fs gs before s ws same is rest =
    ap (λ (zs : List Undo). all_undone zs (state lives handed gs)) same ∙ ap (λ (ks : List Fate). all_undone us (state lives handed ks)) is ∙ rest

-- ---- lives begin

pub begun_back : (xs ys : List Life) (hs gs : List (List Bool)) (fs es : List Fate) (x : Life) (h : List Bool) (f : Fate) (n m j : ℕ) (s : LivesState) → ys ≡ xs ++ x ∷ [] → gs ≡ hs ++ h ∷ [] → es ≡ fs ++ f ∷ []
    → n ≡ length xs → m ≡ length hs → j ≡ length fs → s ≡ state xs hs fs → undone (undo.Begun n m j) (state ys gs es) ≡ s
begun_back xs ys hs gs fs es x h f n m j s lives handed fates long many each is =
    let cut_lives : take n ys ≡ xs = ap (λ (zs : List Life). take n zs) lives ∙ ap (λ (k : ℕ). take k (xs ++ x ∷ [])) long ∙ take-append_seam xs (x ∷ []) in
    let cut_handed : take m gs ≡ hs = ap (λ (ks : List (List Bool)). take m ks) handed ∙ ap (λ (k : ℕ). take k (hs ++ h ∷ [])) many ∙ take-append_seam hs (h ∷ []) in
    let cut_fates : take j es ≡ fs = ap (λ (ks : List Fate). take j ks) fates ∙ ap (λ (k : ℕ). take k (fs ++ f ∷ [])) each ∙ take-append_seam fs (f ∷ []) in
    ap (λ (zs : List Life). state zs (take m gs) (take j es)) cut_lives ∙ ap (λ (ks : List (List Bool)). state xs ks (take j es)) cut_handed ∙ ap (λ (ks : List Fate). state xs hs ks) cut_fates ∙ sym is

-- ---- one thing after the other

-- the last thing that was done is taken back
pub step_back : (us vs : List Undo) (u : Undo) (s new t : LivesState) → us ≡ vs ++ u ∷ [] → new ≡ undone u s → all_undone us s ≡ t → all_undone vs new ≡ t
step_back us vs u s new t popped is rest = ap (λ (r : LivesState). all_undone vs r) is ∙ sym (last_undone vs u s) ∙ ap (λ (ws : List Undo). all_undone ws s) (sym popped) ∙ rest

-- one more of a list is done
pub next_of : {A : Type 0} (all : List A → LivesState → LivesState) (one : A → LivesState → LivesState) → ((x : A) (xs : List A) (s : LivesState) → all (x ∷ xs) s ≡ all xs (one x s)) → (xs : List A) (k : ℕ) (d : A) (s new t : LivesState)
    → k < length xs → new ≡ one (slice_index_or xs k d) s → all (drop k xs) s ≡ t → all (drop (k + 1) xs) new ≡ t
next_of {A} all one step xs k d s new t lt is rest =
    ap (λ (r : LivesState). all (drop (k + 1) xs) r) is ∙ sym (step (slice_index_or xs k d) (drop (k + 1) xs) s) ∙ ap (λ (ys : List A). all ys s) (sym (drop_more xs k d lt)) ∙ rest
