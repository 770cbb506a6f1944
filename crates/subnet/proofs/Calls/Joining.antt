-- The tables of what the ends of lines determine.
use Rattle.subnet.proofs.Common.{sum_by-cons, nat_tests, Direction, Wire, no_wire, wire_at, ends_at, port_of, line_from, dropping, Ends}
use Rattle.std.specs.Prelude.{if◌then◌else◌, IfSome}
use Rattle.std.proofs.Common.{◌≡◌, ℕ, ◌+◌, ◌-◌, ◌<◌, ◌≤◌, zero, suc, Bool, true, false, List, [], ◌∷◌, ◌++◌, length, take, drop, get_or, set, slice_get, ◌==◌, ◌||◌, count_by, Option, Some, refl, ap, sym, subst, ◌∙◌, arith, nat_lt}
use Rattle.std.proofs.lemmas.List.{length-set, length-append, append_assoc, drop_more, get_or_default}
use Rattle.interface.specs.declared.event.Direction.TheVariants as way
use Rattle.subnet.specs.declared.lines.EndPorts.{EndPorts}
use Rattle.subnet.specs.Inside.Joined.{numbers, lines_from, ports_at, ports_from, AreJoined}
use Rattle.subnet.specs.Inside.Taking.{hollowed}

-- ---- a line by its port

head_read : (b : Bool) (l : ℕ) (lines : List ℕ) (o : ℕ → Option ℕ) (k : ℕ) → ((p : ℕ) → slice_get lines p ≡ o p)
    → slice_get (if b then l ∷ lines else lines) k ≡ (if b then (if k == 0 then Some l else o (k - 1)) else o k)
head_read true l lines o zero alike = refl
head_read true l lines o (suc k) alike =
    let some : (suc k == 0) ≡ false = grind (arith, nat_tests) in
    let same : suc k - 1 ≡ k = omega arith in
    alike k ∙ (ap o (sym same) ∙ ap (λ (b : Bool). if b then Some l else o (suc k - 1)) (sym some))
head_read false l lines o k alike = alike k

lines_read : (l : ℕ) (ws : List Wire) (i k : ℕ) → slice_get (lines_from l ws i) k ≡ line_from l ws i k
lines_read l [] i k = refl
lines_read l (w ∷ ws) i k = head_read _ l _ _ k (λ p. lines_read (l + 1) ws i p)

pub line_read : (lines : List Wire) (by_imp : List (List ℕ)) (ports : List EndPorts) (i k : ℕ) → AreJoined lines by_imp ports → i < length by_imp → slice_get (get_or by_imp i []) k ≡ line_from 0 lines i k
line_read lines by_imp ports i k are within = ap (λ (ls : List ℕ). slice_get ls k) (are.leads i within) ∙ lines_read 0 lines i k

within_by : (b c : Bool) (l n : ℕ) (o rest : Option ℕ) → l < n → IfSome o (λ m. m < n) → IfSome rest (λ m. m < n) → IfSome (if b then (if c then Some l else o) else rest) (λ m. m < n)
within_by true true l n o rest here there later = here
within_by true false l n o rest here there later = there
within_by false c l n o rest here there later = later

within_from : (l : ℕ) (ws : List Wire) (i k n : ℕ) → l + length ws ≤ n → IfSome (line_from l ws i k) (λ m. m < n)
within_from l [] i k n most = tt
within_from l (w ∷ ws) i k n most =
    let here : l < n = omega (arith, most) in
    let more : l + 1 + length ws ≤ n = omega (arith, most) in
    within_by _ _ l n _ _ here (within_from (l + 1) ws i (k - 1) n more) (within_from (l + 1) ws i k n more)

line_within : (lines : List Wire) (i k : ℕ) (o : Option ℕ) → o ≡ line_from 0 lines i k → IfSome o (λ line. line < length lines)
line_within lines i k o is =
    let most : 0 + length lines ≤ length lines = omega arith in
    subst (λ (p : Option ℕ). IfSome p (λ line. line < length lines)) (sym is) (within_from 0 lines i k _ most)

pub line_there : (all lines : List Wire) (by_imp : List (List ℕ)) (ports : List EndPorts) (i k : ℕ) (ls : List ℕ) (o : Option ℕ) → all ≡ lines → AreJoined lines by_imp ports → i < length by_imp → ls ≡ get_or by_imp i ls → o ≡ slice_get ls k
    → IfSome o (λ line. line < length all)
line_there all lines by_imp ports i k ls o same are within read is =
    subst (λ (ws : List Wire). IfSome o (λ line. line < length ws)) (sym same)
    (line_within lines i k o (is ∙ (ap (λ (xs : List ℕ). slice_get xs k) (read ∙ get_or_default by_imp i ls [] within) ∙ line_read lines by_imp ports i k are within)))

-- ---- a port by its line

ports_read : (k : ℕ) (lines ws : List Wire) (l : ℕ) (d : EndPorts) → l < length ws → get_or (ports_from k lines ws) l d ≡ ports_at lines (k + l) (wire_at ws l)
ports_read k lines [] l d within = absurd (omega (arith, within))
ports_read k lines (w ∷ ws) zero d within =
    let same : k ≡ k + 0 = omega arith in
    ap (λ (n : ℕ). ports_at lines n w) same
ports_read k lines (w ∷ ws) (suc l) d within =
    let less : l < length ws = omega (arith, within) in
    let same : k + 1 + l ≡ k + suc l = omega arith in
    ports_read (k + 1) lines ws l d less ∙ ap (λ (n : ℕ). ports_at lines n (wire_at ws l)) same

pub port_read : (lines : List Wire) (by_imp : List (List ℕ)) (ports : List EndPorts) (l : ℕ) (d : EndPorts) → AreJoined lines by_imp ports → l < length lines → get_or ports l d ≡ ports_at lines l (wire_at lines l)
port_read lines by_imp ports l d are within =
    let same : 0 + l ≡ l = omega arith in
    ap (λ (ps : List EndPorts). get_or ps l d) are.ends ∙ (ports_read 0 lines lines l d within ∙ ap (λ (n : ℕ). ports_at lines n (wire_at lines l)) same)

-- ---- frames don't change the ends

pub record SameEnds (v w : Wire) : Type 0 where
  pub a : v.a ≡ w.a
  pub b : v.b ≡ w.b

ends_alike : (i : ℕ) (v w : Wire) → SameEnds v w → ends_at i v ≡ ends_at i w
ends_alike i v w same = ap (λ (n : ℕ). n == i || v.b == i) same.a ∙ ap (λ (n : ℕ). w.a == i || n == i) same.b

lines_kept : (k : ℕ) (lines : List Wire) (l i : ℕ) (v : Wire) → SameEnds v (wire_at lines l) → lines_from k (set lines l v) i ≡ lines_from k lines i
lines_kept k [] l i v same = refl
lines_kept k (w ∷ ws) zero i v same = ap (λ (b : Bool). if b then k ∷ lines_from (k + 1) ws i else lines_from (k + 1) ws i) (ends_alike i v w same)
lines_kept k (w ∷ ws) (suc l) i v same = ap (λ (ls : List ℕ). if ends_at i w then k ∷ ls else ls) (lines_kept (k + 1) ws l i v same)

pub counted : (i : ℕ) (w : Wire) (ws : List Wire) → count_by (ends_at i) (w ∷ ws) ≡ (if ends_at i w then 1 else 0) + count_by (ends_at i) ws
counted i w ws = sum_by-cons (λ (x : Wire). if ends_at i x then 1 else 0) w ws

port_kept : (lines : List Wire) (l i n : ℕ) (v : Wire) → SameEnds v (wire_at lines l) → port_of (set lines l v) i n ≡ port_of lines i n
port_kept [] l i n v same = refl
port_kept (w ∷ ws) zero i zero v same = refl
port_kept (w ∷ ws) (suc l) i zero v same = refl
port_kept (w ∷ ws) zero i (suc n) v same =
    counted i v (take n ws) ∙ (ap (λ (b : Bool). (if b then 1 else 0) + count_by (ends_at i) (take n ws)) (ends_alike i v w same) ∙ sym (counted i w (take n ws)))
port_kept (w ∷ ws) (suc l) i (suc n) v same =
    counted i w (take n (set ws l v)) ∙ (ap (λ (m : ℕ). (if ends_at i w then 1 else 0) + m) (port_kept ws l i n v same) ∙ sym (counted i w (take n ws)))

at_kept : (lines : List Wire) (l k : ℕ) (v w : Wire) → SameEnds v (wire_at lines l) → ports_at (set lines l v) k w ≡ ports_at lines k w
at_kept lines l k v w same =
    ap (λ (a : ℕ). record { a = a; b = port_of (set lines l v) w.b k }) (port_kept lines l w.a k v same)
    ∙ ap (λ (b : ℕ). record { a = port_of lines w.a k; b = b }) (port_kept lines l w.b k v same)

all_kept : (k : ℕ) (lines ws : List Wire) (l : ℕ) (v : Wire) → SameEnds v (wire_at lines l) → ports_from k (set lines l v) ws ≡ ports_from k lines ws
all_kept k lines [] l v same = refl
all_kept k lines (w ∷ ws) l v same =
    ap (λ (p : EndPorts). p ∷ ports_from (k + 1) (set lines l v) ws) (at_kept lines l k v w same) ∙ ap (λ (ps : List EndPorts). ports_at lines k w ∷ ps) (all_kept (k + 1) lines ws l v same)

alike_at : (lines : List Wire) (k : ℕ) (v w : Wire) → SameEnds v w → ports_at lines k v ≡ ports_at lines k w
alike_at lines k v w same =
    ap (λ (a : ℕ). record { a = port_of lines a k; b = port_of lines v.b k }) same.a
    ∙ ap (λ (b : ℕ). record { a = port_of lines w.a k; b = port_of lines b k }) same.b

rest_kept : (k : ℕ) (lines ws : List Wire) (l : ℕ) (v : Wire) → SameEnds v (wire_at ws l) → ports_from k lines (set ws l v) ≡ ports_from k lines ws
rest_kept k lines [] l v same = refl
rest_kept k lines (w ∷ ws) zero v same = ap (λ (p : EndPorts). p ∷ ports_from (k + 1) lines ws) (alike_at lines k v w same)
rest_kept k lines (w ∷ ws) (suc l) v same = ap (λ (ps : List EndPorts). ports_at lines k w ∷ ps) (rest_kept (k + 1) lines ws l v same)

joined_kept : (lines : List Wire) (by_imp : List (List ℕ)) (ports : List EndPorts) (l : ℕ) (v : Wire) → AreJoined lines by_imp ports → SameEnds v (wire_at lines l) → AreJoined (set lines l v) by_imp ports
joined_kept lines by_imp ports l v are same =
    let long : length (set lines l v) ≡ length lines = length-set lines l v in
    record {
      few = subst (λ (n : ℕ). n < 256) (sym long) are.few;
      count = are.count;
      leads = λ i within. are.leads i within ∙ sym (lines_kept 0 lines l i v same);
      places = are.places ∙ sym long;
      ends = are.ends ∙ (sym (rest_kept 0 lines lines l v same) ∙ sym (all_kept 0 lines _ l v same));
    }

-- ---- the calls

hollow_ends : (d : Direction) (w : Wire) → SameEnds (hollowed d w) w
hollow_ends way.Forward w = record { a = refl; b = refl }
hollow_ends way.Back w = record { a = refl; b = refl }

dropped_ends : (d : Direction) (k : ℕ) (w : Wire) → SameEnds (dropping d k w) w
dropped_ends way.Forward k w = record { a = refl; b = refl }
dropped_ends way.Back k w = record { a = refl; b = refl }

-- a line in whose place another with the same ends comes
joined_by : (lines : List Wire) (by_imp : List (List ℕ)) (ports : List EndPorts) (l : ℕ) (v w : Wire) → AreJoined lines by_imp ports → l < length lines → w ≡ get_or lines l w → SameEnds v w → AreJoined (set lines l v) by_imp ports
joined_by lines by_imp ports l v w are within there same =
    joined_kept lines by_imp ports l v are (subst (λ (x : Wire). SameEnds v x) (there ∙ get_or_default lines l w no_wire within) same)

pub hollowed_joined : (lines : List Wire) (by_imp : List (List ℕ)) (ports : List EndPorts) (l : ℕ) (d : Direction) (v w : Wire) → AreJoined lines by_imp ports → l < length lines → w ≡ get_or lines l w → v ≡ hollowed d w
    → AreJoined (set lines l v) by_imp ports
hollowed_joined lines by_imp ports l d v w are within there is = joined_by lines by_imp ports l v w are within there (subst (λ (x : Wire). SameEnds x w) (sym is) (hollow_ends d w))

pub dropping_joined : (lines : List Wire) (by_imp : List (List ℕ)) (ports : List EndPorts) (l : ℕ) (d : Direction) (k : ℕ) (v w : Wire) → AreJoined lines by_imp ports → l < length lines → w ≡ get_or lines l w → v ≡ dropping d k w
    → AreJoined (set lines l v) by_imp ports
dropping_joined lines by_imp ports l d k v w are within there is = joined_by lines by_imp ports l v w are within there (subst (λ (x : Wire). SameEnds x w) (sym is) (dropped_ends d k w))

pub put_joined : (lines : List Wire) (by_imp : List (List ℕ)) (ports : List EndPorts) (l : ℕ) (v w : Wire) → AreJoined lines by_imp ports → l < length lines → w ≡ get_or lines l w → v.a ≡ w.a → v.b ≡ w.b → AreJoined (set lines l v) by_imp ports
put_joined lines by_imp ports l v w are within there a b = joined_by lines by_imp ports l v w are within there (record { a = a; b = b })

-- ---- at the opening

read_in : (xs : List (List ℕ)) (y : List ℕ) (i : ℕ) → i < length xs → get_or (xs ++ y ∷ []) i [] ≡ get_or xs i []
read_in [] y i within = absurd (omega (arith, within))
read_in (x ∷ xs) y zero within = refl
read_in (x ∷ xs) y (suc i) within = (let less : i < length xs = omega (arith, within) in read_in xs y i less)

read_last : (xs : List (List ℕ)) (y : List ℕ) → get_or (xs ++ y ∷ []) (length xs) [] ≡ y
read_last [] y = refl
read_last (x ∷ xs) y = read_last xs y

-- one more list of lines
pub read_pushed : (lines : List Wire) (xs : List (List ℕ)) (y : List ℕ) (i : ℕ) → ((j : ℕ) → j < length xs → get_or xs j [] ≡ lines_from 0 lines j) → y ≡ lines_from 0 lines (length xs)
    → i < length (xs ++ y ∷ []) → get_or (xs ++ y ∷ []) i [] ≡ lines_from 0 lines i
read_pushed lines xs y i are last within = at (nat_lt i (length xs)) refl where
  at : (b : Bool) → nat_lt i (length xs) ≡ b → get_or (xs ++ y ∷ []) i [] ≡ lines_from 0 lines i
  at true test =
      let less : i < length xs = grind (arith, nat_tests) in
      read_in xs y i less ∙ are i less
  at false test =
      let more : length xs ≤ i = grind (arith, nat_tests) in
      let same : length xs ≡ i = omega (arith, more, within, length-append xs (y ∷ [])) in
      subst (λ (n : ℕ). get_or (xs ++ y ∷ []) n [] ≡ lines_from 0 lines n) same (read_last xs y ∙ last)

-- one more line's ports
pub ports_pushed : (lines : List Wire) (done new all : List EndPorts) (k : ℕ) (w : Wire) (p : EndPorts) → k < length lines → w ≡ get_or lines k w → p ≡ ports_at lines k w → new ≡ done ++ p ∷ []
    → done ++ ports_from k lines (drop k lines) ≡ all → new ++ ports_from (k + 1) lines (drop (k + 1) lines) ≡ all
ports_pushed lines done new all k w p within there is added before =
    let more : drop k lines ≡ w ∷ drop (k + 1) lines = drop_more lines k w within ∙ ap (λ (x : Wire). x ∷ drop (k + 1) lines) (sym there) in
    ap (λ (xs : List EndPorts). xs ++ ports_from (k + 1) lines (drop (k + 1) lines)) (added ∙ ap (λ (q : EndPorts). done ++ q ∷ []) is)
    ∙ (append_assoc done (ports_at lines k w ∷ []) (ports_from (k + 1) lines (drop (k + 1) lines))
    ∙ (ap (λ (ws : List Wire). done ++ ports_from k lines ws) (sym more) ∙ before))

places_from : (k : ℕ) (lines ws : List Wire) → length (ports_from k lines ws) ≡ length ws
places_from k lines [] = refl
places_from k lines (w ∷ ws) = ap suc (places_from (k + 1) lines ws)

pub opened_joined : (lines : List Wire) (by_imp : List (List ℕ)) (ports : List EndPorts) (ends : List Ends) → length ends < 256 → length lines ≡ length ends → length by_imp ≡ numbers
    → ((i : ℕ) → i < length by_imp → get_or by_imp i [] ≡ lines_from 0 lines i) → ports ≡ ports_from 0 lines lines → AreJoined lines by_imp ports
opened_joined lines by_imp ports ends few long count read same = record {
  few = subst (λ (n : ℕ). n < 256) (sym long) few;
  count = count;
  leads = read;
  places = ap length same ∙ places_from 0 lines lines;
  ends = same;
}
