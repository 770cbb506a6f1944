-- What comes first is kept: with one change before the others it is so again.
use Rattle.book_judge.proofs.Common.{◌≡◌, ℕ, ◌+◌, ◌-◌, ◌<◌, ◌≤◌, Bool, true, false, ◌&&◌, List, [], ◌∷◌, length, drop, get_or, Option, Some, refl, ap, sym, subst, ◌∙◌, if◌then◌else◌, arith, get-empty, unwrap_or, drop_all, drop_more, length-drop, flow_cmp, Host, same_host, control_flow, Key, Ahead, Begin, Firsts, Change, Turn, key_cmp, same_key}
use Rattle.book_judge.specs.Inside.Begins.{IsAhead, asks_at, begin_at, closes_at, drops_at, first_begin, first_close, first_drop, first_stop, firsts_from, firsts_with, stops_at, ahead_by, ahead_once, closed_at, key, firsts_at, firsts_by}
use Rattle.book_judge.specs.Inside.Changes.{number_at}
use Rattle.std.specs.FinMap as map
use Rattle.book_judge.specs.declared.fates.changes.Turn.TheVariants as turn
use Rattle.book_judge.proofs.Ends.Keys.{get_set_key, same_key-true}
use Rattle.book_judge.proofs.Ends.Owed.{number_empty, own_set, pair_set}

pub ahead_first : (closes : map.FinMap key_cmp ℕ) (drops stops : map.FinMap flow_cmp ℕ)
    (begins : map.FinMap key_cmp Begin)
    → closes ≡ map.empty → drops ≡ map.empty → stops ≡ map.empty → begins ≡ map.empty
    → IsAhead [] (record { closes = closes; drops = drops; stops = stops; begins = begins })
ahead_first closes drops stops begins e f g h = record {
  closes =
      λ k. ap (λ (m : map.FinMap key_cmp ℕ). closed_at m k) e
      ∙ ap (λ (o : Option ℕ). unwrap_or o 0) (get-empty key_cmp k);
  drops =
      λ host peer. ap (λ (m : map.FinMap flow_cmp ℕ). number_at m (control_flow host peer)) f
      ∙ number_empty (control_flow host peer);
  stops =
      λ host. ap (λ (m : map.FinMap flow_cmp ℕ). number_at m (control_flow host host)) g
      ∙ number_empty (control_flow host host);
  begins = λ k. ap (λ (m : map.FinMap key_cmp Begin). map.get m k) h ∙ get-empty key_cmp k;
}

-- what comes first after a request is what comes first of what follows
firsts_same : (changes : List Change) (a : Ahead) → IsAhead changes a → (k : Key) → firsts_by a k
    ≡ firsts_with k changes
firsts_same changes a h k = by k.comes where
  from : (socket foreign : ℕ) → firsts_at a k.host k.peer socket foreign
      ≡ firsts_from k.host k.peer socket foreign changes
  from socket foreign = λ i. record {
    own = h.closes (key 0 k.host k.peer false socket foreign) i;
    partner = h.closes (key 0 k.host k.peer true foreign socket) i;
    drop = h.drops k.host k.peer i;
    stop = h.stops k.host i;
  }

  by : (v : Bool)
      → (if v then firsts_at a k.host k.peer k.foreign k.own else firsts_at a k.host k.peer k.own k.foreign)
      ≡ (if v then firsts_from k.host k.peer k.foreign k.own changes else firsts_from k.host k.peer k.own k.foreign
      changes)
  by true = from k.foreign k.own
  by false = from k.own k.foreign

closes_more : (c : Change) (t : Turn) (changes : List Change) (a : Ahead) → IsAhead changes a → (k : Key)
    → closed_at (ahead_by (1 + length changes) c t a).closes k
    ≡ (if closes_at k c t then 1 + length changes else first_close k changes)
closes_more c (turn.Closes comes own foreign) changes a h k =
    ap (λ (o : Option ℕ). unwrap_or o 0)
    (get_set_key a.closes (key 0 c.host c.peer comes own foreign) (1 + length changes) k)
    ∙ by (same_key k (key 0 c.host c.peer comes own foreign)) where
      by : (b : Bool) → unwrap_or (if b then Some (1 + length changes) else map.get a.closes k) 0
          ≡ (if b then 1 + length changes else first_close k changes)
      by true = refl
      by false = h.closes k
closes_more c (turn.Asks comes own foreign) changes a h k = h.closes k
closes_more c turn.Drops changes a h k = h.closes k
closes_more c turn.Stops changes a h k = h.closes k

drops_more : (c : Change) (t : Turn) (changes : List Change) (a : Ahead) → IsAhead changes a → (host peer : Host)
    → number_at (ahead_by (1 + length changes) c t a).drops (control_flow host peer)
    ≡ (if drops_at host peer c t then 1 + length changes else first_drop host peer changes)
drops_more c turn.Drops changes a h host peer =
    pair_set a.drops c.host c.peer (1 + length changes) host peer
    ∙ ap (λ (n : ℕ). if same_host host c.host && same_host peer c.peer then 1 + length changes else n)
    (h.drops host peer)
drops_more c (turn.Asks comes own foreign) changes a h host peer = h.drops host peer
drops_more c (turn.Closes comes own foreign) changes a h host peer = h.drops host peer
drops_more c turn.Stops changes a h host peer = h.drops host peer

stops_more : (c : Change) (t : Turn) (changes : List Change) (a : Ahead) → IsAhead changes a → (host : Host)
    → number_at (ahead_by (1 + length changes) c t a).stops (control_flow host host)
    ≡ (if stops_at host c t then 1 + length changes else first_stop host changes)
stops_more c turn.Stops changes a h host =
    own_set a.stops c.host (1 + length changes) host
    ∙ ap (λ (n : ℕ). if same_host host c.host then 1 + length changes else n) (h.stops host)
stops_more c (turn.Asks comes own foreign) changes a h host = h.stops host
stops_more c (turn.Closes comes own foreign) changes a h host = h.stops host
stops_more c turn.Drops changes a h host = h.stops host

begins_more : (c : Change) (t : Turn) (changes : List Change) (a : Ahead) → IsAhead changes a → (k : Key)
    → begin_at (ahead_by (1 + length changes) c t a) k
    ≡ (if asks_at k c t then Some
    (record { rest = 1 + length changes; firsts = firsts_with k changes }) else first_begin k changes)
begins_more c (turn.Asks comes own foreign) changes a h k =
    get_set_key a.begins asked (record { rest = 1 + length changes; firsts = firsts_by a asked }) k
    ∙ by (same_key k asked) refl where
      asked : Key
      asked = key c.place c.host c.peer comes own foreign

      with : Firsts → Option Begin
      with e = Some (record { rest = 1 + length changes; firsts = e })

      by : (b : Bool) → same_key k asked ≡ b → (if b then with (firsts_by a asked) else map.get a.begins k)
          ≡ (if b then with (firsts_with k changes) else first_begin k changes)
      by true e =
          ap with (firsts_same changes a h asked
          ∙ ap (λ (q : Key). firsts_with q changes) (sym (same_key-true k asked e)))
      by false e = h.begins k
begins_more c (turn.Closes comes own foreign) changes a h k = h.begins k
begins_more c turn.Drops changes a h k = h.begins k
begins_more c turn.Stops changes a h k = h.begins k

ahead_more : (c : Change) (changes : List Change) (a : Ahead) → IsAhead changes a
    → IsAhead (c ∷ changes) (ahead_once (1 + length changes) c a)
ahead_more c changes a h = record {
  closes = closes_more c c.turn changes a h;
  drops = drops_more c c.turn changes a h;
  stops = stops_more c c.turn changes a h;
  begins = begins_more c c.turn changes a h;
}

-- the search takes one change after another from the end
pub ahead_init : (changes : List Change) (a : Ahead) → IsAhead [] a
    → IsAhead (drop (length changes) changes) a × (length changes ≤ length changes)
ahead_init changes a h = (
  subst (λ (cs : List Change). IsAhead cs a) (sym (drop_all (length changes) changes (omega arith))) h,
  omega arith,
)

pub ahead_next : (changes : List Change) (place : ℕ) (c : Change) (a next : Ahead) → 0 < place → c
    ≡ get_or changes (place - 1) c
    → next ≡ ahead_once (length changes - (place - 1)) c a → IsAhead (drop place changes) a × (place ≤ length changes)
    → IsAhead (drop (place - 1) changes) next × (place - 1 ≤ length changes)
ahead_next changes place c a next some read noted h =
    let le : place ≤ length changes = h.1 in
    let within : place - 1 < length changes = omega (arith, some, le) in
    let is : place ≡ (place - 1) + 1 = omega (arith, some) in
    let later : List Change = drop ((place - 1) + 1) changes in
    let here : drop (place - 1) changes ≡ c ∷ later =
    drop_more changes (place - 1) c within ∙ ap (λ (z : Change). z ∷ later) (sym read) in
    let count : length later ≡ length changes - ((place - 1) + 1) = length-drop ((place - 1) + 1) changes in
    let many : length changes - (place - 1) ≡ 1 + length later = omega (arith, count, within) in
    let so : next ≡ ahead_once (1 + length later) c a = noted ∙ ap (λ (n : ℕ). ahead_once n c a) many in
    let known : IsAhead later a = subst (λ (n : ℕ). IsAhead (drop n changes) a) is h.0 in (
      subst (λ (b : Ahead). IsAhead (drop (place - 1) changes) b) (sym so)
          (subst (λ (cs : List Change). IsAhead cs (ahead_once (1 + length later) c a)) (sym here)
          (ahead_more c later a known)),
      omega (arith, le),
    )

pub ahead_last : (changes : List Change) (place : ℕ) (a : Ahead) → place ≤ 0 → IsAhead (drop place changes) a
    → IsAhead changes a
ahead_last changes place a past h =
    let none : place ≡ 0 = omega (arith, past) in subst (λ (n : ℕ). IsAhead (drop n changes) a) none h
