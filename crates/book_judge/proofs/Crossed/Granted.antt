-- What ALLs grant to a life, by the places of a log, and whether lives are within that.
use Rattle.book_judge.proofs.Common.{◌≡◌, ℕ, suc, ◌+◌, ◌<◌, ◌≤◌, ◌==◌, ◌&&◌, ◌⊎◌, Bool, true, false, if◌then◌else◌, List, [], ◌∷◌, ◌++◌, length, take, reverse, Option, Some, None, MatchBool, refl, ap, sym, subst, ◌∙◌, inl, inr, arith, cases_lt, and_from, false_from_ne_true, get_or, slice_get_read, take_all, length-reverse, reverse-append, reverse-reverse, slice_get_within, Flow, same_flow, Host, same_host, Crossing, HostMessage, Legal, Order, Wrong, orders_of, Contains, AreNamed, AreStarts, FoundFirst, GrantedAt, ShowsLife, WithMatch, Finding, Name, Start, control_flow, receives, sends, Life}
use Rattle.std.specs.Prelude.{max, min, nat_le, nat_lt, ◌%◌}
use Rattle.std.specs.List.{slice_get}
use Rattle.std.proofs.lemmas.Bool.{and_left, and_right, eq-eqb, le-leb, le-ltb, leb-true, lt-leb, lt-ltb}
use Rattle.host_keeps_pairing.proofs.lemmas.{eqb-sym}
use Rattle.interface.specs.declared.crossing.Crossing.TheVariants as crossing
use Rattle.ncp_control.specs.declared.command.Command.{Command}
use Rattle.ncp_control.specs.declared.command.Command.TheVariants as command
use Rattle.net_sim.specs.Book.{more, nothing}
use Rattle.net_sim.specs.Findings.{HaveGranted}
use Rattle.promise.specs.Formed.{flow_of, link_of}
use Rattle.promise.specs.declared.life.Amount.{Amount}
use Rattle.world_keeps_streams.specs.Granted.{EachIsWithin, IsWithin, granted_at, granted_in, granted_to, may_grant}
use Rattle.book_judge.specs.Broken.{KeepsGrants, first_grants}
use Rattle.book_judge.specs.Inside.Chains.{first_of}
use Rattle.book_judge.specs.Inside.Allocations.{IsWithinOn, WithinAt, both, by_crossing, by_grant, by_grants, by_log, data_flow, grants_in}
use Rattle.book_judge.specs.Inside.Starts.{IsStart, start_at}
use Rattle.book_judge.proofs.Elements.{contains_place, get_take, get_took, place_contains}
use Rattle.book_judge.proofs.Peace.{granted_at as has_granted_at, granted_first}
use Rattle.book_judge.proofs.FirstLives.Strangers.{one_kind}
use Rattle.book_judge.proofs.Crossed.Supplies.{amount, both_apart, both_nothing, both_other}

-- ---- a text

-- an ALL counts where it comes in late enough, from the peer, and on this link
one_more : (late between here : Bool) (messages bits : ℕ) (rest : Amount)
    → both (if late && (between && here) then amount messages bits else nothing) (if late && between then rest else nothing)
    ≡ (if late && between then (if here then more messages bits rest else rest) else nothing)
one_more true true true messages bits rest = refl
one_more true true false messages bits rest = both_nothing rest
one_more true false here messages bits rest = refl
one_more false between here messages bits rest = refl

whatever : (b : Bool) → nothing ≡ (if b then nothing else nothing)
whatever true = refl
whatever false = refl

grants_of_text : (place : ℕ) (host peer : Host) (orders : List Order) (f : Flow) (from : ℕ)
    → by_grants place host peer (grants_in orders) f from
    ≡ (if nat_le from place && (same_host f.source host && same_host f.destination peer) then granted_in f.link.0 orders else nothing)
grants_of_text place host peer [] f from = whatever (nat_le from place && (same_host f.source host && same_host f.destination peer))
grants_of_text place host peer (Wrong code octets ∷ orders) f from = grants_of_text place host peer orders f from
grants_of_text place host peer (Legal command.Nop ∷ orders) f from = grants_of_text place host peer orders f from
grants_of_text place host peer (Legal (command.Rts receive send link) ∷ orders) f from = grants_of_text place host peer orders f from
grants_of_text place host peer (Legal (command.Str send receive size) ∷ orders) f from = grants_of_text place host peer orders f from
grants_of_text place host peer (Legal (command.Cls own foreign) ∷ orders) f from = grants_of_text place host peer orders f from
grants_of_text place host peer (Legal (command.All link messages bits) ∷ orders) f from =
    ap (λ (a : Amount). both (by_grant place host peer (record { link = link; messages = messages; bits = bits }) f from) a) (grants_of_text place host peer orders f from)
    ∙ one_more (nat_le from place) (same_host f.source host && same_host f.destination peer) (f.link.0 == link) messages bits (granted_in f.link.0 orders)
    ∙ ap (λ (b : Bool). if nat_le from place && (same_host f.source host && same_host f.destination peer) then (if b then more messages bits (granted_in f.link.0 orders) else granted_in f.link.0 orders) else nothing)
    (eqb-sym f.link.0 link)
grants_of_text place host peer (Legal (command.Gvb link messages bits) ∷ orders) f from = grants_of_text place host peer orders f from
grants_of_text place host peer (Legal (command.Ret link messages bits) ∷ orders) f from = grants_of_text place host peer orders f from
grants_of_text place host peer (Legal (command.Inr link) ∷ orders) f from = grants_of_text place host peer orders f from
grants_of_text place host peer (Legal (command.Ins link) ∷ orders) f from = grants_of_text place host peer orders f from
grants_of_text place host peer (Legal (command.Eco octet) ∷ orders) f from = grants_of_text place host peer orders f from
grants_of_text place host peer (Legal (command.Erp octet) ∷ orders) f from = grants_of_text place host peer orders f from
grants_of_text place host peer (Legal (command.Err code detail) ∷ orders) f from = grants_of_text place host peer orders f from
grants_of_text place host peer (Legal command.Rst ∷ orders) f from = grants_of_text place host peer orders f from
grants_of_text place host peer (Legal command.Rrp ∷ orders) f from = grants_of_text place host peer orders f from

-- ---- a crossing

-- from this place on an ALL that a life's host takes lets the life send
abbrev pub from_of : Life → ℕ
from_of x = max (x.own_stamp + 1) x.partner_stamp

may : (x : Life) (place : ℕ) → nat_le (from_of x) place ≡ may_grant x place
may x place = by (cases_lt x.own_stamp place) (cases_lt place x.partner_stamp) where
  by : (x.own_stamp < place) ⊎ (place ≤ x.own_stamp) → (place < x.partner_stamp) ⊎ (x.partner_stamp ≤ place)
      → nat_le (from_of x) place ≡ may_grant x place
  by (inl after) (inr past) =
      le-leb (from_of x) place (omega (arith, after, past))
      ∙ sym (and_from (nat_lt x.own_stamp place) (nat_le x.partner_stamp place) (lt-ltb x.own_stamp place after) (le-leb x.partner_stamp place past))
  by (inl after) (inl early) =
      lt-leb (from_of x) place (omega (arith, early))
      ∙ sym (and_right (nat_lt x.own_stamp place) (nat_le x.partner_stamp place) (lt-leb x.partner_stamp place early))
  by (inr early) either =
      lt-leb (from_of x) place (omega (arith, early))
      ∙ sym (and_left (nat_lt x.own_stamp place) (nat_le x.partner_stamp place) (le-ltb x.own_stamp place early))

one_test : (late host peer control : Bool) (given : Amount)
    → (if control then (if late && (host && peer) then given else nothing) else nothing)
    ≡ (if late && ((peer && host) && control) then given else nothing)
one_test true true true true given = refl
one_test true true true false given = refl
one_test true true false true given = refl
one_test true true false false given = refl
one_test true false true true given = refl
one_test true false true false given = refl
one_test true false false true given = refl
one_test true false false false given = refl
one_test false host peer true given = refl
one_test false host peer false given = refl

at_crossing : (x : Life) (link place : ℕ) (c : Crossing)
    → by_crossing place c (data_flow x.host x.peer link) (from_of x) ≡ granted_at x link place c
at_crossing x link place (crossing.In m) =
    ap (λ (a : Amount). if 0 == m.flow.link.0 then a else nothing)
    (grants_of_text place m.flow.destination m.flow.source (orders_of m.text) (data_flow x.host x.peer link) (from_of x))
    ∙ one_test (nat_le (from_of x) place) (same_host x.host m.flow.destination) (same_host x.peer m.flow.source) (0 == m.flow.link.0) (granted_in link (orders_of m.text))
    ∙ ap (λ (b : Bool). if b && same_flow (control_flow x.peer x.host) m.flow then granted_in link (orders_of m.text) else nothing) (may x place)
at_crossing x link place (crossing.Out m) = refl
at_crossing x link place (crossing.Answer kind f) = refl
at_crossing x link place (crossing.Down h) = refl
at_crossing x link place (crossing.Up h) = refl

-- ---- a log

log_more : (place : ℕ) (log : List Crossing) (c : Crossing) (f : Flow) (from : ℕ)
    → by_log place (log ++ c ∷ []) f from ≡ both (by_log place log f from) (by_crossing (place + length log) c f from)
log_more place [] c f from =
    let same : place ≡ place + 0 = omega arith in
    both_other (by_crossing place c f from) nothing ∙ ap (λ (p : ℕ). both nothing (by_crossing p c f from)) same
log_more place (d ∷ log) c f from =
    let same : suc place + length log ≡ place + suc (length log) = omega arith in
    ap (λ (a : Amount). both (by_crossing place d f from) a) (log_more (suc place) log c f from)
    ∙ both_apart (by_crossing place d f from) (by_log (suc place) log f from) (by_crossing (suc place + length log) c f from)
    ∙ ap (λ (p : ℕ). both (by_log place (d ∷ log) f from) (by_crossing p c f from)) same

-- by places, the oldest first, it is what the newest first grant
by_places : (x : Life) (link : ℕ) (log : List Crossing)
    → by_log 0 (reverse log) (data_flow x.host x.peer link) (from_of x) ≡ granted_to x link log
by_places x link [] = refl
by_places x link (c ∷ log) =
    ap (λ (cs : List Crossing). by_log 0 cs (data_flow x.host x.peer link) (from_of x)) (reverse-append (c ∷ []) log)
    ∙ log_more 0 (reverse log) c (data_flow x.host x.peer link) (from_of x)
    ∙ ap (λ (n : ℕ). both (by_log 0 (reverse log) (data_flow x.host x.peer link) (from_of x)) (by_crossing n c (data_flow x.host x.peer link) (from_of x)))
    (let long : length (reverse log) ≡ length log = length-reverse log in let same : 0 + length (reverse log) ≡ length log = omega (arith, long) in same)
    ∙ ap (λ (a : Amount). both a (by_crossing (length log) c (data_flow x.host x.peer link) (from_of x))) (by_places x link log)
    ∙ ap (λ (a : Amount). both (granted_to x link log) a) (at_crossing x link (length log) c)
    ∙ both_other (granted_to x link log) (granted_at x link (length log) c)

pub to_life : (x : Life) (link : ℕ) (log : List Crossing)
    → by_log 0 log (data_flow x.host x.peer link) (from_of x) ≡ granted_to x link (reverse log)
to_life x link log =
    ap (λ (cs : List Crossing). by_log 0 cs (data_flow x.host x.peer link) (from_of x)) (sym (reverse-reverse log)) ∙ by_places x link (reverse log)

-- nothing comes in after a place that is past the log
early_at : (x : Life) (link place : ℕ) (c : Crossing) → place ≤ x.own_stamp → granted_at x link place c ≡ nothing
early_at x link place (crossing.In m) early =
    ap (λ (b : Bool). if b then granted_in link (orders_of m.text) else nothing)
    (and_left (may_grant x place) (same_flow (control_flow x.peer x.host) m.flow) (and_left (nat_lt x.own_stamp place) (nat_le x.partner_stamp place) (le-ltb x.own_stamp place early)))
early_at x link place (crossing.Out m) early = refl
early_at x link place (crossing.Answer kind f) early = refl
early_at x link place (crossing.Down h) early = refl
early_at x link place (crossing.Up h) early = refl

late_life : (x : Life) (link : ℕ) (log : List Crossing) → length log ≤ x.own_stamp → granted_to x link log ≡ nothing
late_life x link [] late = refl
late_life x link (c ∷ log) late =
    ap (λ (a : Amount). both a (granted_to x link log)) (early_at x link (length log) c (omega (arith, late)))
    ∙ both_nothing (granted_to x link log) ∙ late_life x link log (omega (arith, late))

pub nothing_late : (x : Life) (link : ℕ) (log : List Crossing) → length log ≤ x.own_stamp → granted_to x link (reverse log) ≡ nothing
nothing_late x link log late = late_life x link (reverse log) (let same : length (reverse log) ≡ length log = length-reverse log in omega (arith, same, late))

-- ---- a life

pub at_most : (used most all cap : ℕ) → used ≤ cap → most ≡ min all cap → nat_le used most ≡ nat_le used all
at_most used most all cap fits is = by (cases_lt all used) where
  by : (all < used) ⊎ (used ≤ all) → nat_le used most ≡ nat_le used all
  by (inl past) = lt-leb used most (omega (arith, past, is)) ∙ sym (lt-leb used all past)
  by (inr within) = le-leb used most (omega (arith, within, is, fits)) ∙ sym (le-leb used all within)

module _ (log : List Crossing) (x : Life) (s : Start) where
  abbrev all : Amount
  all = granted_to x s.link (reverse log)

  false_true : false ≡ true → ⊥
  false_true f = cc

  pub within_fails : sends x ≡ true → nat_le x.messages all.messages ≡ false → IsWithinOn log x (Some s) → ⊥
  within_fails sending past within = (let k : IsWithin (reverse log) x s.link = within sending in false_true (sym past ∙ le-leb x.messages all.messages k.messages))

  pub within_told : (b : Bool) (size : ℕ) → sends x ≡ true → size ≡ length x.bits → nat_le x.messages all.messages ≡ true
      → b ≡ nat_le size all.bits → MatchBool b (IsWithinOn log x (Some s)) (IsWithinOn log x (Some s) → ⊥)
  within_told true size sending long few is = λ _. record {
    messages = leb-true x.messages all.messages few;
    bits = subst (λ (n : ℕ). n ≤ all.bits) long (leb-true size all.bits (sym is));
  }
  within_told false size sending long few is = λ within.
      (let k : IsWithin (reverse log) x s.link = within sending in
      false_true (is ∙ le-leb size all.bits (subst (λ (n : ℕ). n ≤ all.bits) (sym long) k.bits)))

-- ---- which lives send

sending_kind : (x : Life) → sends x ≡ true → receives x ≡ false
sending_kind x sending = false_from_ne_true (receives x) (λ comes. one_kind x comes sending)

pub sending_other : (x : Life) → receives x ≡ false → sends x ≡ true
sending_other x kind = by (cases_lt 0 (x.socket % 2)) where
  by : (0 < x.socket % 2) ⊎ (x.socket % 2 ≤ 0) → sends x ≡ true
  by (inl some) = (let one : x.socket % 2 ≡ 1 = omega (arith, some) in eq-eqb (x.socket % 2) 1 one)
  by (inr none) = (let even : x.socket % 2 ≡ 0 = omega (arith, none) in let wrong : true ≡ false = sym (eq-eqb (x.socket % 2) 0 even) ∙ kind in absurd (cc))

pub sending_flow : (x : Life) (link : ℕ) → sends x ≡ true → flow_of x link ≡ data_flow x.host x.peer link
sending_flow x link sending =
    ap (λ (b : Bool). if b then data_flow x.peer x.host link else data_flow x.host x.peer link) (sending_kind x sending)

pub receiving_within : (log : List Crossing) (x : Life) (s : Start) → receives x ≡ true → IsWithinOn log x (Some s)
receiving_within log x s comes sending = absurd (one_kind x comes sending)

-- ---- the life at a place

pub within_here : (log : List Crossing) (starts : List (Option Start)) (lives : List Life) (n : ℕ) (x : Life) (o : Option Start)
    → n < length lives → x ≡ get_or lives n x → o ≡ start_at (slice_get starts n) → IsWithinOn log x o → WithinAt log starts lives n
within_here log starts lives n x o less at start h y s e begun =
    let there : slice_get lives n ≡ Some x = slice_get_read lives (length lives) n x refl less at in
    let one : x ≡ y = (let same : Some x ≡ Some y = sym there ∙ e in cc) in
    let from : o ≡ Some s = start ∙ ap start_at begun in
    subst (λ (z : Life). IsWithinOn log z (Some s)) one (subst (λ (p : Option Start). IsWithinOn log x p) from h)

pub beyond_here : (log : List Crossing) (starts : List (Option Start)) (lives : List Life) (n : ℕ) (x : Life) (o : Option Start)
    → n < length lives → x ≡ get_or lives n x → o ≡ start_at (slice_get starts n) → WithinAt log starts lives n → IsWithinOn log x o
beyond_here log starts lives n x o less at start w = by (slice_get starts n) refl where
  by : (v : Option (Option Start)) → slice_get starts n ≡ v → IsWithinOn log x o
  by None e = subst (λ (p : Option Start). IsWithinOn log x p) (sym (start ∙ ap start_at e)) tt
  by (Some None) e = subst (λ (p : Option Start). IsWithinOn log x p) (sym (start ∙ ap start_at e)) tt
  by (Some (Some s)) e =
      subst (λ (p : Option Start). IsWithinOn log x p) (sym (start ∙ ap start_at e))
      (w x s (slice_get_read lives (length lives) n x refl less at) e)

-- ---- the first lives

module _ (P Q : ℕ → Type 0) (n : ℕ) where
  sooner : (a b place : ℕ) → place ≡ min a b → FoundFirst P n (Some a) → FoundFirst Q n (Some b) → FoundFirst (λ i. P i × Q i) n (Some place)
  sooner a b place least p q = (
    (let low : a < n = p.0 in let other : b < n = q.0 in omega (arith, low, other, least)),
    λ i less. (p.1 i (omega (arith, less, least)), q.1 i (omega (arith, less, least))),
    λ here. by here (cases_lt b a),
  ) where
    by : P place × Q place → (b < a) ⊎ (a ≤ b) → ⊥
    by here (inl before) = (let same : place ≡ b = omega (arith, before, least) in q.2 (subst Q same here.1))
    by here (inr after) = (let same : place ≡ a = omega (arith, after, least) in p.2 (subst P same here.0))

  pub both_found : (a b : Option ℕ) → FoundFirst P n a → FoundFirst Q n b → FoundFirst (λ i. P i × Q i) n (first_of a b)
  both_found None None p q = λ i less. (p i less, q i less)
  both_found None (Some b) p q = (q.0, λ i less. (p i (let below : b < n = q.0 in omega (arith, less, below)), q.1 i less), λ here. q.2 here.1)
  both_found (Some a) None p q = (p.0, λ i less. (p.1 i less, q i (let below : a < n = p.0 in omega (arith, less, below))), λ here. p.2 here.0)
  both_found (Some a) (Some b) p q = sooner a b (min a b) refl p q

module _ (log : List Crossing) (names : List Name) (lives : List Life) (starts : List (Option Start))
    (are : AreNamed (length lives) names lives (reverse log)) (begin : AreStarts (length lives) starts lives log) where
  abbrev pub Both : ℕ → Type 0
  Both i = GrantedAt names lives i × WithinAt log starts lives i

  within_of : (x : Life) (i link : ℕ) (o : Option Start) → slice_get lives i ≡ Some x → slice_get starts i ≡ Some o → IsStart log x o
      → WithinAt log starts lives i → sends x ≡ true → link_of (reverse log) x ≡ Some link → IsWithin (reverse log) x link
  within_of x i link None at begun is within sending named = absurd (let wrong : None ≡ Some link = sym is ∙ named in cc)
  within_of x i link (Some s) at begun is within sending named =
      let same : s.link ≡ link = (let some : Some s.link ≡ Some link = sym is.0 ∙ named in cc) in
      subst (λ (n : ℕ). IsWithin (reverse log) x n) same (within x s at begun sending)

  within_first : (n : ℕ) → ((i : ℕ) → i < n → WithinAt log starts lives i) → EachIsWithin (reverse log) (take n lives)
  within_first n all x link there sending named =
      let t = contains_place (take n lives) x there in
      let i = get_took n lives t.0 x t.1 in
      let s = begin.each t.0 x (slice_get_within lives t.0 x i.1) i.1 in
      within_of x t.0 link s.0 i.1 s.1 s.2 (all t.0 i.0) sending named

  within_at : (n i : ℕ) → i < n → EachIsWithin (reverse log) (take n lives) → WithinAt log starts lives i
  within_at n i less each x s at begun sending =
      let r = begin.each i x (slice_get_within lives i x at) at in
      let one : r.0 ≡ Some s = (let both_are : Some r.0 ≡ Some (Some s) = sym r.1 ∙ begun in cc) in
      let is : IsStart log x (Some s) = subst (λ (o : Option Start). IsStart log x o) one r.2 in
      each x s.link (place_contains (take n lives) i x (get_take n lives i x less at)) sending is.0

  both_first : (n : ℕ) → n ≤ length lives → ((i : ℕ) → i < n → Both i) → first_grants (reverse log) lives n
  both_first n within all =
      (granted_first names lives (reverse log) n are (λ i less. (all i less).0), within_first n (λ i less. (all i less).1))

  pub found_both : (a b o : Option ℕ) → o ≡ first_of a b → FoundFirst (GrantedAt names lives) (length lives) a
      → FoundFirst (WithinAt log starts lives) (length lives) b → FoundFirst Both (length lives) o
  found_both a b o is p q =
      subst (λ (r : Option ℕ). FoundFirst Both (length lives) r) (sym is)
      (both_found (λ i. GrantedAt names lives i) (λ i. WithinAt log starts lives i) (length lives) a b p q)

  pub grants_none : FoundFirst Both (length lives) None → KeepsGrants (reverse log) lives
  grants_none all =
      let P : List Life → Type 0 = λ xs. HaveGranted (reverse log) lives xs × EachIsWithin (reverse log) xs in
      let has = subst P (take_all (length lives) lives (omega arith)) (both_first (length lives) (omega arith) all) in
      record { counted = record { taken = has.0.taken; sent = has.0.sent }; crossed = has.1 }

  pub grants_some : (p : ℕ) (found : Finding) → FoundFirst Both (length lives) (Some p) → WithMatch found p (reverse log) lives
      → ShowsLife (first_grants (reverse log) lives) found (reverse log) lives
  grants_some p found at w = record {
    place = p;
    first = (
      both_first p (let less : p < length lives = at.0 in omega (arith, less)) at.1,
      λ has. at.2 (has_granted_at names lives (reverse log) (p + 1) p are (omega arith) has.0, within_at (p + 1) p (omega arith) has.1),
    );
    at = w;
  }
