-- A message of a peer opens no end whose own request is that of a life already, whatever it says.
use Rattle.mixed_worlds.proofs.Common.{Host, Command, Entry, Notice, append-nil, append_assoc, End, Mark, Listener, Stand, Standing, at, standing, find_passes, eqb-true, same_Some}
use Rattle.std.proofs.Common.{◌≡◌, ◌⊎◌, inl, inr, ℕ, ◌<◌, ◌==◌, ◌&&◌, ◌||◌, eq-eqb, arith, Bool, false, not, if◌then◌else◌, List, [], ◌∷◌, ◌++◌, map, filter, find, Option, Some, None, is_some, refl, ap, sym, subst, ◌∙◌, true}
use Rattle.host_pairs.specs.Desk.{DeskState, desk_told, listener_on, listens_on, without_listener}
use Rattle.host_pairs.specs.Entries.{is_ending, changed_at, changed_first, entry_at, is_at, opening_by, opening_notices}
use Rattle.std.proofs.lemmas.List.Elements.{All-append, All-cons, All-filter, All-head, All-map, All-nil, All-tail, All-weaker}
use Rattle.host_pairs.specs.Commands.{changed, entry_joined, matched}
use Rattle.host_keeps_pairing.proofs.lemmas.{found_at, Found, at_one}
use Rattle.host_pairs.proofs.lemmas.{both}
use Rattle.std.specs.Prelude.{All}
use Rattle.ncp_control.specs.declared.command.Command.TheVariants as command
use Rattle.host_pairs.specs.declared.notice.Notice.TheVariants as notice
use Rattle.world_keeps_lives.proofs.lemmas.{SomeEnd}
use Rattle.mixed_worlds.proofs.Steps.{IsBegun, IsHeard, IsSame, OpenNone, OpensNone, Steps}
use Rattle.mixed_worlds.proofs.Waiting.{all_changed}

-- ---- openings

-- an opening: of which host with which peer, for which two sockets, and where its two requests crossed
pub record Opening : Type 0 where
  pub host : Host
  pub peer : Host
  pub own : ℕ
  pub foreign : ℕ
  pub asked : ℕ
  pub partner : ℕ

-- those that are reported
abbrev pub opening_in : Host → Notice → List Opening
opening_in h (notice.Opened socket peer foreign own partner) = record {
  host = h;
  peer = peer;
  own = socket;
  foreign = foreign;
  asked = own;
  partner = partner;
} ∷ []
opening_in h n = []

abbrev pub openings : Host → List Notice → List Opening
openings h [] = []
openings h (n ∷ ns) = opening_in h n ++ openings h ns

pub openings_append : (h : Host) (xs ys : List Notice) → openings h (xs ++ ys) ≡ openings h xs ++ openings h ys
openings_append h [] ys = refl
openings_append h (x ∷ xs) ys = ap (λ (os : List Opening). opening_in h x ++ os) (openings_append h xs ys)
    ∙ sym (append_assoc (opening_in h x) (openings h xs) (openings h ys))

opens_none : (h : Host) (n : Notice) → OpensNone n → opening_in h n ≡ []
opens_none h (notice.Opened socket peer foreign own partner) none = absurd none
opens_none h n none = refl

pub none_opened : (h : Host) (ns : List Notice) → OpenNone ns → openings h ns ≡ []
none_opened h [] none = refl
none_opened h (n ∷ ns) none = ap (λ (os : List Opening). os ++ openings h ns) (opens_none h n none.0)
    ∙ none_opened h ns none.1

-- two requests are one: of the same host with the same peer, for the same two sockets, at the same place
pub record IsOne (n m : Opening) (a b : ℕ) : Type 0 where
  pub host : n.host ≡ m.host
  pub peer : n.peer ≡ m.peer
  pub own : n.own ≡ m.own
  pub foreign : n.foreign ≡ m.foreign
  pub place : a ≡ b

-- neither their own requests nor those of their partners are one
pub record Differ (n m : Opening) : Type 0 where
  pub own : IsOne n m n.asked m.asked → ⊥
  pub partner : IsOne n m n.partner m.partner → ⊥

abbrev pub AreApart : List Opening → Type 0
AreApart [] = Unit {0}
AreApart (n ∷ ns) = All (Differ n) ns × AreApart ns

pub apart_more : (ns : List Opening) (n : Opening) → AreApart ns → All (λ m. Differ m n) ns → AreApart (ns ++ n ∷ [])
apart_more [] n a b = (All-nil (Differ n), tt)
apart_more (m ∷ ns) n a b = (
  All-append (Differ m) ns (n ∷ []) a.0
      (All-cons (Differ m) n [] (All-head (λ k. Differ k n) m ns b) (All-nil (Differ m))),
  apart_more ns n a.1 (All-tail (λ k. Differ k n) m ns b),
)

-- an end of its own that has one of its requests has both
abbrev pub IsDone : Opening → Entry → Type 0
IsDone n e = e.own ≡ n.own → e.foreign ≡ n.foreign → e.mine ≡ true
    → (e.asked ≡ Some n.asked → is_some e.partner ≡ true) × (e.partner ≡ Some n.partner → is_some e.asked ≡ true)

-- an end of its own on its sockets has both requests
abbrev pub IsBoth : Opening → Entry → Type 0
IsBoth n e = e.own ≡ n.own → e.foreign ≡ n.foreign → e.mine ≡ true
    → (is_some e.asked ≡ true) × (is_some e.partner ≡ true)

pub done_both : (n : Opening) (e : Entry) → IsBoth n e → IsDone n e
done_both n e k own foreign mine = ((λ a. (k own foreign mine).1), (λ p. (k own foreign mine).0))

pub done_same : (n : Opening) (e f : Entry) → IsSame e f → IsDone n e → IsDone n f
done_same n e f s k own foreign mine = (
  (λ a. ap is_some s.partner ∙ (old own foreign mine).0 (sym s.asked ∙ a)),
  (λ p. ap is_some s.asked ∙ (old own foreign mine).1 (sym s.partner ∙ p)),
) where
  old : f.own ≡ n.own → f.foreign ≡ n.foreign → f.mine ≡ true
      → (e.asked ≡ Some n.asked → is_some e.partner ≡ true) × (e.partner ≡ Some n.partner → is_some e.asked ≡ true)
  old o g m = k (sym s.own ∙ o) (sym s.foreign ∙ g) (sym s.mine ∙ m)

pub both_same : (n : Opening) (e f : Entry) → IsSame e f → IsBoth n e → IsBoth n f
both_same n e f s k own foreign mine =
    let i : (is_some e.asked ≡ true) × (is_some e.partner ≡ true) = k (sym s.own ∙ own) (sym s.foreign ∙ foreign)
    (sym s.mine ∙ mine) in
    (ap is_some s.asked ∙ i.0, ap is_some s.partner ∙ i.1)

pub not_mine : {A : Type 0} (e : Entry) → e.mine ≡ false → e.mine ≡ true → A
not_mine e other mine = absurd (let clash : false ≡ true = sym other ∙ mine in cc)

-- ---- the one end of two sockets

pub found_all : (P : Entry → Type 0) (test : Entry → Bool) (es : List Entry) (e : Entry) → find test es ≡ Some e
    → All P es → P e
found_all P test [] e is h = absurd (let clash : None ≡ Some e = is in cc)
found_all P test (x ∷ es) e is h = by (test x) is (λ k. found_all P test es e k (All-tail P x es h)) where
  by : (b : Bool) → (if b then Some x else find test es) ≡ Some e → (find test es ≡ Some e → P e) → P e
  by true k rest = let same : x ≡ e = cc in subst P same (All-head P x es h)
  by false k rest = rest k

-- at most one
abbrev pub IsLone : List Standing → Type 0
IsLone [] = Unit {0}
IsLone (s ∷ []) = Unit {0}
IsLone (s ∷ t ∷ more) = ⊥

pub lone_by : (place : ℕ) (ss : List Standing) (words : List Mark) (x : End)
    → Stand true (λ n. n) place ss words x → IsLone ss
lone_by place [] words x h = tt
lone_by place (s ∷ []) words x h = tt
lone_by place (s ∷ t ∷ more) words x h = h

-- an end that refuses has its partner's request
refused_partner : (own foreign : ℕ) (es : List Entry) (e : Entry) → entry_at own foreign es ≡ Some e
    → (words : List Mark) (x : End) → Stand true (λ n. n) 0 (at own foreign es) words x → e.mine ≡ false
    → is_some e.partner ≡ true
refused_partner own foreign es e found words x h other =
    let g : Found own foreign es e = found_at own foreign es e found in
    by g.rest (subst (λ (ss : List Standing). Stand true (λ n. n) 0 ss words x) g.first h) where
      by : (rest : List Standing) → Stand true (λ n. n) 0 (standing e ∷ rest) words x → is_some e.partner ≡ true
      by [] k = (k.0.refused other).0
      by (t ∷ rest) k = absurd k

pub at_two : (own foreign : ℕ) (x : Entry) → (x.own ≡ own) × (x.foreign ≡ foreign) → is_at own foreign x ≡ true
at_two own foreign x at = ap (λ (b : Bool). b && x.foreign == foreign) (eq-eqb x.own own at.0)
    ∙ eq-eqb x.foreign foreign at.1

none_here : (P : Entry → Type 0) (own foreign : ℕ) (es : List Entry) → at own foreign es ≡ []
    → All (λ x. is_at own foreign x ≡ true → P x) es
none_here P own foreign [] none = All-nil (λ x. is_at own foreign x ≡ true → P x)
none_here P own foreign (x ∷ es) none = by (is_at own foreign x) refl (none_here P own foreign es) where
  by : (b : Bool) → is_at own foreign x ≡ b
      → (at own foreign es ≡ [] → All (λ y. is_at own foreign y ≡ true → P y) es)
      → All (λ y. is_at own foreign y ≡ true → P y) (x ∷ es)
  by true t rest = absurd
      (let clash : standing x ∷ at own foreign es ≡ [] = sym (at_one own foreign x es true t) ∙ none in cc)
  by false t rest = All-cons (λ y. is_at own foreign y ≡ true → P y) x es
      (λ here. absurd (let clash : true ≡ false = sym here ∙ t in cc))
      (rest (sym (at_one own foreign x es false t) ∙ none))

lone_rest : (s : Standing) (ss : List Standing) → IsLone (s ∷ ss) → ss ≡ []
lone_rest s [] h = refl
lone_rest s (t ∷ ss) h = absurd h

-- where the one end of two sockets is changed, what is so of what comes of it is so of all that have these sockets
pub all_here : (P : Entry → Type 0) (own foreign : ℕ) (change : Entry → Entry) (es : List Entry) (e : Entry)
    → ((x : Entry) → is_at own foreign x ≡ true → is_at own foreign (change x) ≡ true) → P (change e)
    → entry_at own foreign es ≡ Some e → IsLone (at own foreign es)
    → All (λ x. is_at own foreign x ≡ true → P x) (changed_at own foreign change es)
all_here P own foreign change [] e stays so found lone = All-nil (λ x. is_at own foreign x ≡ true → P x)
all_here P own foreign change (x ∷ es) e stays so found lone = by (is_at own foreign x) refl found
    (all_here P own foreign change es e stays so) where
      by : (b : Bool) → is_at own foreign x ≡ b → (if b then Some x else entry_at own foreign es) ≡ Some e
          → (entry_at own foreign es ≡ Some e → IsLone (at own foreign es)
          → All (λ y. is_at own foreign y ≡ true → P y) (changed_at own foreign change es))
          → All (λ y. is_at own foreign y ≡ true → P y)
          (if b then change x ∷ es else x ∷ changed_first (is_at own foreign) change es)
      by true t k rest =
          let same : x ≡ e = cc in
          let alone : IsLone (standing x ∷ at own foreign es) = subst IsLone (at_one own foreign x es true t) lone in
          All-cons (λ y. is_at own foreign y ≡ true → P y) (change x) es
          (λ here. subst (λ (y : Entry). P (change y)) (sym same) so)
          (none_here P own foreign es (lone_rest (standing x) (at own foreign es) alone))
      by false t k rest = All-cons (λ y. is_at own foreign y ≡ true → P y) x
          (changed_first (is_at own foreign) change es)
          (λ here. absurd (let clash : true ≡ false = sym here ∙ t in cc))
          (rest k (subst IsLone (at_one own foreign x es false t) lone))

-- the first that passes is found after the change too
pub changed_found : (own foreign : ℕ) (change : Entry → Entry) (es : List Entry) (e : Entry)
    → ((x : Entry) → is_at own foreign x ≡ true → is_at own foreign (change x) ≡ true)
    → entry_at own foreign es ≡ Some e → entry_at own foreign (changed_at own foreign change es) ≡ Some (change e)
changed_found own foreign change [] e stays found = absurd (let clash : None ≡ Some e = found in cc)
changed_found own foreign change (x ∷ es) e stays found = by (is_at own foreign x) refl found
    (changed_found own foreign change es e stays) where
      by : (b : Bool) → is_at own foreign x ≡ b → (if b then Some x else entry_at own foreign es) ≡ Some e
          → (entry_at own foreign es ≡ Some e
          → entry_at own foreign (changed_at own foreign change es) ≡ Some (change e))
          → entry_at own foreign (if b then change x ∷ es else x ∷ changed_first (is_at own foreign) change es)
          ≡ Some (change e)
      by true t k rest =
          let same : x ≡ e = cc in
          let here : is_at own foreign (change x) ≡ true = stays x t in
          rw here (ap (λ (y : Entry). Some (change y)) same)
      by false t k rest = rw t (rest k)

-- ---- sockets that listen

less_listens : (k j : ℕ) (ls : List Listener) → (k ≡ j) ⊎ (listens_on k ls ≡ false)
    → listens_on k (without_listener j ls) ≡ false
less_listens k j [] i = refl
less_listens k j (l ∷ ls) i = by (l.socket == j) (l.socket == k) refl refl i (less_listens k j ls) where
  by : (b c : Bool) → (l.socket == j) ≡ b → (l.socket == k) ≡ c → (k ≡ j) ⊎ ((c || listens_on k ls) ≡ false)
      → ((k ≡ j) ⊎ (listens_on k ls ≡ false) → listens_on k (without_listener j ls) ≡ false)
      → listens_on k (if not b then l ∷ without_listener j ls else without_listener j ls) ≡ false
  by true c e f (inl same) rest = rest (inl same)
  by true true e f (inr none) rest = absurd (let clash : true ≡ false = none in cc)
  by true false e f (inr none) rest = rest (inr none)
  by false true e f (inl same) rest =
      let clash : true ≡ false = sym (eq-eqb l.socket j (eqb-true l.socket k f ∙ same)) ∙ e in absurd (cc)
  by false true e f (inr none) rest = absurd (let clash : true ≡ false = none in cc)
  by false false e f (inl same) rest = rw f (rest (inl same))
  by false false e f (inr none) rest = rw f (rest (inr none))

-- a socket of which a listener is found listens
unheard : (k : ℕ) (ls : List Listener) (l : Listener) → listener_on k ls ≡ Some l → listens_on k ls ≡ false → ⊥
unheard k [] l found none = absurd (let clash : None ≡ Some l = found in cc)
unheard k (x ∷ ls) l found none = by (x.socket == k) found none (unheard k ls l) where
  by : (b : Bool) → (if b then Some x else listener_on k ls) ≡ Some l → (b || listens_on k ls) ≡ false
      → (listener_on k ls ≡ Some l → listens_on k ls ≡ false → ⊥) → ⊥
  by true f n rest = absurd (let clash : true ≡ false = n in cc)
  by false f n rest = rest f n

-- ---- a message of a peer

-- an end of its own is on a socket that doesn't listen
abbrev pub IsSilent : List Listener → Entry → Type 0
IsSilent ls e = e.mine ≡ true → listens_on e.own ls ≡ false

-- no two lives, and none that is reported here, have the same own request or the same partner's; those that are
-- reported here have both requests, and their sockets don't listen
pub record IsOnce (h p : Host) (stamp : ℕ) (before : List Opening) (d : DeskState) : Type 0 where
  pub apart : AreApart (before ++ openings h d.notices)
  pub old : All (λ n. (n.partner < stamp) × (n.host ≡ h → n.peer ≡ p → All (IsDone n) d.entries)) before
  pub new : All (λ n. (n.host ≡ h) × (n.peer ≡ p) × (listens_on n.own d.listening ≡ false)
      × All (IsBoth n) d.entries) (openings h d.notices)
  pub silent : All (IsSilent d.listening) d.entries

module _ (h p : Host) (stamp : ℕ) (before : List Opening) where
  abbrev So : DeskState → Type 0
  So d = IsOnce h p stamp before d

  abbrev Old : List Entry → Opening → Type 0
  Old es n = (n.partner < stamp) × (n.host ≡ h → n.peer ≡ p → All (IsDone n) es)

  abbrev New : List Listener → List Entry → Opening → Type 0
  New ls es n = (n.host ≡ h) × (n.peer ≡ p) × (listens_on n.own ls ≡ false) × All (IsBoth n) es

  -- what a change of the ends has to keep
  record Turns (d : DeskState) (es : List Entry) (ls : List Listener) : Type 0 where
    done : (n : Opening) → n.partner < stamp → All (IsDone n) d.entries → All (IsDone n) es
    both : (n : Opening) → listens_on n.own d.listening ≡ false → All (IsBoth n) d.entries
        → (listens_on n.own ls ≡ false) × All (IsBoth n) es
    silent : All (IsSilent ls) es

  turned : (d : DeskState) (es : List Entry) (queue : List Command) (ls : List Listener) → Turns d es ls → So d
      → So (record { entries = es; queue = queue; listening = ls; notices = d.notices })
  turned d es queue ls k i = record {
    apart = i.apart;
    old = All-weaker (Old d.entries) (Old es) (λ n o. (o.0, λ host peer. k.done n o.0 (o.1 host peer))) before i.old;
    new = All-weaker (New d.listening d.entries) (New ls es)
        (λ n o. (let t : (listens_on n.own ls ≡ false) × All (IsBoth n) es = k.both n o.2 o.3 in
        (o.0, o.1, t.0, t.1))) (openings h d.notices) i.new;
    silent = k.silent;
  }

  -- ends that are the same but for what doesn't matter
  same_turns : (d : DeskState) (es : List Entry) → ((P : Entry → Type 0)
      → ((e f : Entry) → IsSame e f → P e → P f) → All P d.entries → All P es) → So d → Turns d es d.listening
  same_turns d es k i = record {
    done = λ n less all. k (IsDone n) (done_same n) all;
    both = λ n off all. (off, k (IsBoth n) (both_same n) all);
    silent = k (IsSilent d.listening)
        (λ e f s quiet mine. ap (λ (n : ℕ). listens_on n d.listening) s.own ∙ quiet (sym s.mine ∙ mine)) i.silent;
  }

  -- ---- an end begins

  pub refused_once : (e : Entry) (d : DeskState) → e.mine ≡ false → So d → So (entry_joined e d)
  refused_once e d other i = turned d (d.entries ++ e ∷ []) d.queue d.listening (record {
    done = λ n less all. All-append (IsDone n) d.entries (e ∷ []) all
        (All-cons (IsDone n) e [] (λ o f mine. not_mine e other mine) (All-nil (IsDone n)));
    both = λ n off all. (
      off,
      All-append (IsBoth n) d.entries (e ∷ []) all
          (All-cons (IsBoth n) e [] (λ o f mine. not_mine e other mine) (All-nil (IsBoth n))),
    );
    silent = All-append (IsSilent d.listening) d.entries (e ∷ []) i.silent
        (All-cons (IsSilent d.listening) e [] (λ mine. not_mine e other mine) (All-nil (IsSilent d.listening)));
  }) i

  pub joined_once : (e : Entry) (l : Listener) (d : DeskState) (queue : List Command) → IsBegun stamp e
      → listener_on e.own d.listening ≡ Some l → So d
      → So (record {
        entries = d.entries ++ e ∷ [];
        queue = queue;
        listening = without_listener e.own d.listening;
        notices = d.notices;
      })
  joined_once e l d queue begun listens i =
      turned d (d.entries ++ e ∷ []) queue (without_listener e.own d.listening) (record {
        done = λ n less all. All-append (IsDone n) d.entries (e ∷ []) all
            (All-cons (IsDone n) e [] (new_done n less) (All-nil (IsDone n)));
        both = λ n off all. (
          less_listens n.own e.own d.listening (inr off),
          All-append (IsBoth n) d.entries (e ∷ []) all
              (All-cons (IsBoth n) e [] (λ o f mine. elsewhere n off o) (All-nil (IsBoth n))),
        );
        silent = All-append (IsSilent (without_listener e.own d.listening)) d.entries (e ∷ [])
            (All-weaker (IsSilent d.listening) (IsSilent (without_listener e.own d.listening))
            (λ x quiet mine. less_listens x.own e.own d.listening (inr (quiet mine))) d.entries i.silent)
            (All-cons (IsSilent (without_listener e.own d.listening)) e []
            (λ mine. less_listens e.own e.own d.listening (inl refl))
            (All-nil (IsSilent (without_listener e.own d.listening))));
      }) i where
        new_done : (n : Opening) → n.partner < stamp → IsDone n e
        new_done n less own foreign mine = (
          (λ a. absurd (let clash : None ≡ Some n.asked = sym begun.asked ∙ a in cc)),
          (λ q. absurd (let same : stamp ≡ n.partner = same_Some stamp n.partner (sym begun.partner ∙ q) in
              omega (arith, less, same))),
        )

        elsewhere : {A : Type 0} (n : Opening) → listens_on n.own d.listening ≡ false → e.own ≡ n.own → A
        elsewhere n off own = absurd
            (unheard e.own d.listening l listens (ap (λ (k : ℕ). listens_on k d.listening) own ∙ off))

  -- ---- what is reported: nothing, or one opening more

  as_told : (d : DeskState) (ns : List Notice) → openings h ns ≡ [] → So d → So (desk_told ns d)
  as_told d ns none i =
      let same : openings h (d.notices ++ ns) ≡ openings h d.notices = openings_append h d.notices ns
      ∙ ap (λ (os : List Opening). openings h d.notices ++ os) none ∙ append-nil (openings h d.notices) in
      record {
        apart = subst (λ (os : List Opening). AreApart (before ++ os)) (sym same) i.apart;
        old = i.old;
        new = subst (λ (os : List Opening). All (New d.listening d.entries) os) (sym same) i.new;
        silent = i.silent;
      }

  one_more : (d : DeskState) (n : Opening) (ns : List Notice) → openings h ns ≡ n ∷ []
      → All (λ m. Differ m n) (before ++ openings h d.notices) → New d.listening d.entries n → So d
      → So (desk_told ns d)
  one_more d n ns is other here i =
      let more : openings h (d.notices ++ ns) ≡ openings h d.notices ++ n ∷ [] = openings_append h d.notices ns
      ∙ ap (λ (os : List Opening). openings h d.notices ++ os) is in
      let all : before ++ openings h (d.notices ++ ns) ≡ (before ++ openings h d.notices) ++ n ∷ [] =
      ap (λ (os : List Opening). before ++ os) more ∙ sym (append_assoc before (openings h d.notices) (n ∷ [])) in
      record {
        apart = subst AreApart (sym all) (apart_more (before ++ openings h d.notices) n i.apart other);
        old = i.old;
        new = subst (λ (os : List Opening). All (New d.listening d.entries) os) (sym more)
            (All-append (New d.listening d.entries) (openings h d.notices) (n ∷ []) i.new
            (All-cons (New d.listening d.entries) n [] here (All-nil (New d.listening d.entries))));
        silent = i.silent;
      }

  -- ---- an end is matched

  module _ (own foreign : ℕ) (e : Entry) (change : Entry → Entry) (d : DeskState)
      (found : entry_at own foreign d.entries ≡ Some e) (none : e.partner ≡ None)
      (s : SomeEnd (λ n. n) own foreign d)
      (is : (x : Entry) → is_at own foreign x ≡ true → IsHeard stamp x (change x)) (i : So d) where
    stays : (x : Entry) → is_at own foreign x ≡ true → is_at own foreign (change x) ≡ true
    stays x here = ap (λ (n : ℕ). n == own && (change x).foreign == foreign) (is x here).own
        ∙ ap (λ (n : ℕ). x.own == own && n == foreign) (is x here).foreign ∙ here

    here : is_at own foreign e ≡ true
    here = find_passes (is_at own foreign) e d.entries found

    at_it : ((change e).own ≡ own) × ((change e).foreign ≡ foreign)
    at_it =
        let two : (((change e).own == own) ≡ true) × (((change e).foreign == foreign) ≡ true) = both
        ((change e).own == own) ((change e).foreign == foreign) (stays e here) in
        (eqb-true (change e).own own two.0, eqb-true (change e).foreign foreign two.1)

    -- one without a partner's request is its own
    own_end : e.mine ≡ true
    own_end = by e.mine refl where
      by : (b : Bool) → e.mine ≡ b → b ≡ true
      by true m = refl
      by false m = absurd
          (let partner : is_some e.partner ≡ true = refused_partner own foreign d.entries e found _ s.x (s.on 0) m in
          let clash : false ≡ true = ap is_some (sym none) ∙ partner in cc)

    -- what was open stays so
    before_this : So (changed (is_at own foreign) change d)
    before_this = turned d (changed_at own foreign change d.entries) d.queue d.listening (record {
      done = λ n less all. all_changed (IsDone n) (is_at own foreign) change d.entries
          (λ x t k o f mine. (
            (λ a. ap is_some (is x t).partner),
            (λ q. absurd (let same : stamp ≡ n.partner = same_Some stamp n.partner (sym (is x t).partner ∙ q) in
                omega (arith, less, same))),
          )) all;
      both = λ n off all. (
        off,
        all_changed (IsBoth n) (is_at own foreign) change d.entries
            (λ x t k o f mine. (
              ap is_some (is x t).asked
                  ∙ (k (sym (is x t).own ∙ o) (sym (is x t).foreign ∙ f) (sym (is x t).mine ∙ mine)).0,
              ap is_some (is x t).partner,
            )) all,
      );
      silent = all_changed (IsSilent d.listening) (is_at own foreign) change d.entries
          (λ x t k mine. ap (λ (n : ℕ). listens_on n d.listening) (is x t).own ∙ k (sym (is x t).mine ∙ mine)) i.silent;
    }) i

    abbrev opening : ℕ → Opening
    opening a = record {
      host = h;
      peer = p;
      own = (change e).own;
      foreign = (change e).foreign;
      asked = a;
      partner = stamp;
    }

    -- it has no partner's request, so neither of its requests is a life's
    not_old : (a : ℕ) (m : Opening) → e.asked ≡ Some a → Old d.entries m → Differ m (opening a)
    not_old a m asked o = record {
      own = λ same.
          (let partner : is_some e.partner ≡ true = (found_all (IsDone m) (is_at own foreign) d.entries e found
          (o.1 same.host same.peer) (sym (is e here).own ∙ sym same.own) (sym (is e here).foreign ∙ sym same.foreign)
          own_end).0 (asked ∙ ap (λ (n : ℕ). Some n) (sym same.place)) in
          let clash : false ≡ true = ap is_some (sym none) ∙ partner in cc);
      partner = λ same. (let less : m.partner < stamp = o.0 in let at : m.partner ≡ stamp = same.place in
          omega (arith, less, at));
    }

    not_new : (a : ℕ) (m : Opening) → New d.listening d.entries m → Differ m (opening a)
    not_new a m o = record {
      own = λ same. clash same.own same.foreign;
      partner = λ same. clash same.own same.foreign;
    } where
      clash : m.own ≡ (change e).own → m.foreign ≡ (change e).foreign → ⊥
      clash x y =
          let partner : is_some e.partner ≡ true = (found_all (IsBoth m) (is_at own foreign) d.entries e found o.3
          (sym (is e here).own ∙ sym x) (sym (is e here).foreign ∙ sym y) own_end).1 in
          let no : false ≡ true = ap is_some (sym none) ∙ partner in cc

    other : (a : ℕ) → e.asked ≡ Some a → All (λ m. Differ m (opening a)) (before ++ openings h d.notices)
    other a asked = All-append (λ m. Differ m (opening a)) before (openings h d.notices)
        (All-weaker (Old d.entries) (λ m. Differ m (opening a)) (λ m o. not_old a m asked o) before i.old)
        (All-weaker (New d.listening d.entries) (λ m. Differ m (opening a)) (λ m o. not_new a m o)
        (openings h d.notices) i.new)

    both_here : (a : ℕ) → e.asked ≡ Some a → All (IsBoth (opening a)) (changed_at own foreign change d.entries)
    both_here a asked = All-weaker
        (λ x. is_at own foreign x ≡ true → (is_some x.asked ≡ true) × (is_some x.partner ≡ true))
        (IsBoth (opening a)) (λ x k o f mine. k (at_two own foreign x (o ∙ at_it.0, f ∙ at_it.1)))
        (changed_at own foreign change d.entries)
        (all_here (λ x. (is_some x.asked ≡ true) × (is_some x.partner ≡ true)) own foreign change d.entries e stays
        (ap is_some (is e here).asked ∙ ap is_some asked, ap is_some (is e here).partner) found
        (lone_by 0 (at own foreign d.entries) _ s.x (s.on 0)))

    told : (o b : Option ℕ) → (change e).asked ≡ o → b ≡ Some stamp
        → So (desk_told (opening_by p (change e) o b) (changed (is_at own foreign) change d))
    told None b asked partner = as_told (changed (is_at own foreign) change d) (opening_by p (change e) None b)
        (none_by b) before_this where
          none_by : (b : Option ℕ) → openings h (opening_by p (change e) None b) ≡ []
          none_by None = refl
          none_by (Some n) = refl
    told (Some a) None asked partner = absurd (let clash : None ≡ Some stamp = partner in cc)
    told (Some a) (Some b) asked partner = by (is_ending (change e)) where
      was : e.asked ≡ Some a
      was = sym (is e here).asked ∙ asked

      by : (v : Bool)
          → So (desk_told (if v then [] else notice.Opened (change e).own p (change e).foreign a b ∷ [])
          (changed (is_at own foreign) change d))
      by true = as_told (changed (is_at own foreign) change d) [] refl before_this
      by false = one_more (changed (is_at own foreign) change d) (opening a)
          (notice.Opened (change e).own p (change e).foreign a b ∷ [])
          (ap (λ (n : ℕ). openings h (notice.Opened (change e).own p (change e).foreign a n ∷ []))
          (same_Some b stamp partner))
          (other a was) (
            refl,
            refl,
            ap (λ (n : ℕ). listens_on n d.listening) (is e here).own
                ∙ found_all (IsSilent d.listening) (is_at own foreign) d.entries e found i.silent own_end,
            both_here a was,
          )
          before_this

    pub matched_once_more : So (matched p own foreign change d)
    matched_once_more =
        subst (λ (o : Option Entry). So (desk_told (opening_notices p o) (changed (is_at own foreign) change d)))
        (sym (changed_found own foreign change d.entries e stays found))
        (told (change e).asked (change e).partner refl (is e here).partner)

  pub once_steps : Steps p stamp So
  once_steps = record {
    queued = λ cs d mute i. record { apart = i.apart; old = i.old; new = i.new; silent = i.silent };
    told = λ ns d none i. as_told d ns (none_opened h ns none) i;
    kept = λ keep d i. turned d (filter keep d.entries) d.queue d.listening (record {
      done = λ n less all. All-filter keep (IsDone n) d.entries all;
      both = λ n off all. (off, All-filter keep (IsBoth n) d.entries all);
      silent = All-filter keep (IsSilent d.listening) d.entries i.silent;
    }) i;
    one = λ test change d same i. turned d (changed_first test change d.entries) d.queue d.listening
        (same_turns d (changed_first test change d.entries)
        (λ P k all. all_changed P test change d.entries (λ e t j. k e (change e) (same e) j) all) i) i;
    all = λ change d same i. turned d (map change d.entries) d.queue d.listening
        (same_turns d (map change d.entries)
        (λ P k all. All-map P change d.entries
        (All-weaker P (λ e. P (change e)) (λ e j. k e (change e) (same e) j) d.entries all)) i) i;
    refuses = λ e d other none v i. refused_once e d other i;
    joins = λ e l d begun listens v i. joined_once e l d d.queue begun listens i;
    requests = λ e link l d begun linked listens v i.
        joined_once e l d (d.queue ++ command.Rts e.own e.foreign link ∷ []) begun listens i;
    matches = λ own foreign e change d found none s is i. matched_once_more own foreign e change d found none s is i;
    clears = λ d i. turned d [] [] d.listening (record {
      done = λ n less all. All-nil (IsDone n);
      both = λ n off all. (off, All-nil (IsBoth n));
      silent = All-nil (IsSilent d.listening);
    }) i;
  }
