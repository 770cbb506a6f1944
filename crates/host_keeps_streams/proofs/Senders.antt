-- What a sending end does.
use Rattle.host_keeps_streams.proofs.Common.{◌≡◌, ℕ, ◌*◌, Bool, not, ◌&&◌, ◌||◌, ◌==◌, nat_lt, nat_le, if◌then◌else◌, List, [], ◌∷◌, ◌++◌, length, take, filter, find, Option, Some, None, is_some, refl, ap, sym, subst, ◌∙◌, inl, inr, append-nil, eqb-true, length-take-le, Host, Allocation, Command, covers, Sender, MaySend, Found, Unconnected, Ending, Open, found_in, at_end, all_taken, granted, gvb_taken, given_back, desk_taken, DeskState, desk_of, changed_first, has_cls, is_busy, is_link, is_open, is_receiving, sends_on, PairState, Bytes, bits_gone, link_of, may_send, may_send_on, next_of, parcel_gone, Entry, Listener, both, what_goes, has_opened, IsSender, NoneOpen, IsLeaving, AreSender, HasSender}
use Rattle.std.proofs.Common.{true, false, eq-eqb}
use Rattle.std.proofs.lemmas.Bool.{le-leb, lt-ltb}
use Rattle.ncp_control.specs.Allocation as counters
use Rattle.ncp_control.specs.Packing.{packed_count}
use Rattle.ncp_control.specs.declared.command.Command.TheVariants as command
use Rattle.stream_law.specs.Senders as senders
use Rattle.host_pairs.specs.Control.{error, NOT_CONNECTED}
use Rattle.ncp_control.specs.Phases.{is_want, is_ready}
use Rattle.host_pairs.specs.Parcels.{Parcel, Reset, Reply, Commands, bytes_by, bytes_of, bytes_on, if_silent, lowest_link, next_bytes, next_of_ready}
use Rattle.ncp_control.specs.Command.{spelling}
use Rattle.host_keeps_streams.specs.Said.{returned_on, returned_in}
use Rattle.host_keeps_streams.proofs.Lists.{find_passes, none_is, first_is, missed, unlike, Here, here}
use Rattle.host_keeps_streams.proofs.Receivers.{closed_found, open_found}
use Rattle.interface.proofs.lemmas.{and_none}

open_bool : (a x y : Bool) → (a && not y && not x) ≡ (a && not (x || y))
open_bool true true true = refl
open_bool true true false = refl
open_bool true false true = refl
open_bool true false false = refl
open_bool false x y = refl

pub open_same : (c : ℕ) (e : Entry) (s : Sender) → IsSender c e s → senders.is_open c s ≡ is_open e
open_same c e s h =
    ap (λ (v : Bool). v && not s.shut && not (s.closed c)) h.opened ∙ ap (λ (v : Bool). has_opened e && not v && not (s.closed c)) h.shut
    ∙ ap (λ (v : Bool). has_opened e && not e.partner_closed && not v) h.closed ∙ open_bool _ _ e.partner_closed

-- an end whose CLS waits to go out, or has gone out, isn't open, nor is one that leaves
closed_shut : (e : Entry) → has_cls e.closing ≡ true → is_open e ≡ false
closed_shut e closed = ap (λ (v : Bool). is_some e.asked && is_some e.partner && not (v || e.partner_closed)) closed ∙ and_none _

pub leaving_shut : (e : Entry) (s : Sender) → IsLeaving e s → is_open e ≡ false
leaving_shut e s n = closed_shut e n.closed

-- an end that didn't open, or has closed, isn't open
pub unopened : (s : Sender) → NoneOpen s → (c : ℕ) → s.end ≡ Some c → senders.is_open c s ≡ false
unopened s n c e = by s.opened refl where
  by : (v : Bool) → s.opened ≡ v → senders.is_open c s ≡ false
  by true t = ap (λ (v : Bool). s.opened && not s.shut && not v) (n c e t) ∙ and_none (s.opened && not s.shut)
  by false t = ap (λ (v : Bool). v && not s.shut && not (s.closed c)) t

-- what holds of the work that is done at the open end of a link, and of the law's move there
pub at_link : (name : ℕ → ℕ → ℕ) (link : ℕ) (es : List Entry) (s : Sender) (P : Found → Sender → Type 0) (work : Option ℕ → Sender) → P Unconnected s → P Ending s → work None ≡ s
    → ((c : ℕ) → senders.is_open c s ≡ false → work (Some c) ≡ s)
    → ((x : Entry) → find (sends_on link) es ≡ Some x → filter (sends_on link) es ≡ x ∷ [] → IsSender (name x.own x.foreign) x s → is_open x ≡ true → P (Open x) (work (Some (name x.own x.foreign))))
    → HasSender name link es s → P (found_in (find (sends_on link) es)) (work s.end)
at_link name link es s P work none ending idle shut opened h = by (filter (sends_on link) es) refl where
  at : Option Entry → Type 0
  at o = P (found_in o) (work s.end)

  same : NoneOpen s → work s.end ≡ s
  same n = kept s.end refl where
    kept : (o : Option ℕ) → s.end ≡ o → work s.end ≡ s
    kept None e = (ap work e ∙ idle)
    kept (Some c) e = (ap work e ∙ shut c (unopened s n c e))

  one : (x : Entry) → filter (sends_on link) es ≡ x ∷ [] → IsSender (name x.own x.foreign) x s → (v : Bool) → is_open x ≡ v → at (Some x)
  one x e i true o =
      open_found (λ (w : Found). P w (work s.end)) x o (subst (λ (p : Option ℕ). P (Open x) (work p)) (sym i.end) (opened x (first_is _ x [] es e) e i o))
  one x e i false o =
      subst (λ (q : Sender). P (found_in (Some x)) q) (sym (ap work i.end ∙ shut _ (open_same _ x s i ∙ o))) (closed_found (λ (w : Found). P w s) none ending x o)

  by : (xs : List Entry) → filter (sends_on link) es ≡ xs → at (find (sends_on link) es)
  by [] e =
      let n : NoneOpen s = subst (λ (ys : List Entry). AreSender name ys s) e h in
      subst at (sym (none_is _ es e)) (subst (λ (q : Sender). P Unconnected q) (sym (same n)) none)
  by (x ∷ []) e =
      let i : AreSender name (x ∷ []) s = subst (λ (ys : List Entry). AreSender name ys s) e h in
      subst at (sym (first_is _ x [] es e)) (elim i [
        | inl is ↦ one x e is _ refl
        | inr n ↦ subst (λ (q : Sender). P (found_in (Some x)) q) (sym (same n.none)) (closed_found (λ (w : Found). P w s) none ending x (leaving_shut x s n))
      ])
  by (x ∷ y ∷ ys) e = absurd (subst (λ (zs : List Entry). AreSender name zs s) e h)

-- an end on the link that is found, and changed, is the law's, or leaves
own_by : (name : ℕ → ℕ → ℕ) (link : ℕ) (test : Entry → Bool) (change : Entry → Entry) (e : Entry) (es : List Entry) (s : Sender) → find test es ≡ Some e → sends_on link e ≡ true → sends_on link (change e) ≡ true → HasSender name link es s
    → (xs : List Entry) → filter (sends_on link) es ≡ xs → AreSender name (e ∷ []) s × (filter (sends_on link) (changed_first test change es) ≡ change e ∷ [])
own_by name link test change e es s found on after h [] f = absurd (missed test _ e es on f found)
own_by name link test change e es s found on after h (x ∷ []) f =
    let k : Here test (sends_on link) change e x es = here test _ change e x es on after found f in
    (subst (λ (y : Entry). AreSender name (y ∷ []) s) (sym k.0) (subst (λ (ys : List Entry). AreSender name ys s) f h), k.1)
own_by name link test change e es s found on after h (x ∷ y ∷ ys) f = absurd (subst (λ (zs : List Entry). AreSender name zs s) f h)

pub own_sender : (name : ℕ → ℕ → ℕ) (link : ℕ) (test : Entry → Bool) (change : Entry → Entry) (e : Entry) (es : List Entry) (s : Sender) → find test es ≡ Some e → sends_on link e ≡ true → sends_on link (change e) ≡ true
    → HasSender name link es s → AreSender name (e ∷ []) s × (filter (sends_on link) (changed_first test change es) ≡ change e ∷ [])
own_sender name link test change e es s found on after h = own_by name link test change e es s found on after h _ refl

shut_counts : (f : Allocation → Allocation) (s : Sender) (c : ℕ) → senders.is_open c s ≡ false → senders.with_allocation (Some c) f s ≡ s
shut_counts f s c e = rw e refl

-- ---- what is returned

pub returned_more : (link : ℕ) (xs : List Command) (c : Command) → returned_on link (xs ++ c ∷ []) ≡ returned_on link xs ++ returned_on link (c ∷ [])
returned_more link [] c = refl
returned_more link (command.Ret l m n ∷ xs) c = by (l == link) (returned_more link xs c) where
  by : (v : Bool) → returned_on link (xs ++ c ∷ []) ≡ returned_on link xs ++ returned_on link (c ∷ [])
      → (if v then (m, n) ∷ returned_on link (xs ++ c ∷ []) else returned_on link (xs ++ c ∷ [])) ≡ (if v then (m, n) ∷ returned_on link xs else returned_on link xs) ++ returned_on link (c ∷ [])
  by true e = ap (λ (l : List (ℕ × ℕ)). (m, n) ∷ l) e
  by false e = e
returned_more link (command.Nop ∷ xs) c = returned_more link xs c
returned_more link (command.Rts a b l ∷ xs) c = returned_more link xs c
returned_more link (command.Str a b z ∷ xs) c = returned_more link xs c
returned_more link (command.Cls a b ∷ xs) c = returned_more link xs c
returned_more link (command.All l m n ∷ xs) c = returned_more link xs c
returned_more link (command.Gvb l m n ∷ xs) c = returned_more link xs c
returned_more link (command.Inr l ∷ xs) c = returned_more link xs c
returned_more link (command.Ins l ∷ xs) c = returned_more link xs c
returned_more link (command.Eco o ∷ xs) c = returned_more link xs c
returned_more link (command.Erp o ∷ xs) c = returned_more link xs c
returned_more link (command.Err k o ∷ xs) c = returned_more link xs c
returned_more link (command.Rst ∷ xs) c = returned_more link xs c
returned_more link (command.Rrp ∷ xs) c = returned_more link xs c

module _ (name : ℕ → ℕ → ℕ) (link : ℕ) where
  -- one end is changed as the law changes its counters
  counted : (change : Entry → Entry) (f : Allocation → Allocation) (d : DeskState) (s : Sender) (x : Entry) → ((e : Entry) → change e ≡ record e { allocation = f e.allocation }) → find (sends_on link) d.entries ≡ Some x
      → filter (sends_on link) d.entries ≡ x ∷ [] → IsSender (name x.own x.foreign) x s → is_open x ≡ true
      → HasSender name link (changed_first (sends_on link) change d.entries) (senders.with_allocation (Some (name x.own x.foreign)) f s)
  counted change f d s x is g one i o =
      let there : sends_on link x ≡ true = find_passes _ x d.entries g in
      let after : sends_on link (change x) ≡ true = ap (sends_on link) (is x) ∙ there in
      let k : Here (sends_on link) (sends_on link) change x x d.entries = here _ _ change x x d.entries there after g one in
      let opened : senders.is_open (name x.own x.foreign) s ≡ true = open_same _ x s i ∙ o in
      subst (λ (es : List Entry). AreSender name es (senders.with_allocation (Some (name x.own x.foreign)) f s)) (sym (k.1 ∙ ap (λ (e : Entry). e ∷ []) (is x)))
      (rw opened (inl (record { end = i.end; opened = i.opened; shut = i.shut; closed = i.closed; size = i.size; allocation = ap f i.allocation; live = i.live })))

  pub all_sends : (peer : Host) (busy : List ℕ) (stamp m n : ℕ) (d : DeskState) (s : Sender) → HasSender name link d.entries s
      → HasSender name link (desk_taken peer busy stamp (command.All link m n) d).entries (senders.with_allocation s.end (λ a. counters.granted a m n) s)
  all_sends peer busy stamp m n d s h =
      at_link name link d.entries s (λ w q. HasSender name link (at_end (command.All link m n) (all_taken link m n) w d).entries q) (λ o. senders.with_allocation o (λ a. counters.granted a m n) s) h h refl
      (shut_counts (λ a. counters.granted a m n) s)
      (λ x g one i o. counted (granted m n) (λ a. counters.granted a m n) d s x (λ e. refl) g one i o) h

  pub gvb_sends : (peer : Host) (busy : List ℕ) (stamp m n : ℕ) (d : DeskState) (s : Sender) → HasSender name link d.entries s
      → HasSender name link (desk_taken peer busy stamp (command.Gvb link m n) d).entries (senders.with_allocation s.end (λ a. counters.given_back a m n) s)
  gvb_sends peer busy stamp m n d s h =
      at_link name link d.entries s (λ w q. HasSender name link (at_end (command.Gvb link m n) (gvb_taken link m n) w d).entries q) (λ o. senders.with_allocation o (λ a. counters.given_back a m n) s) h h refl
      (shut_counts (λ a. counters.given_back a m n) s)
      (λ x g one i o. counted (given_back m n) (λ a. counters.given_back a m n) d s x (λ e. refl) g one i o) h

  -- what it returns is what the law returns
  pub gvb_answers : (peer : Host) (busy : List ℕ) (stamp m n : ℕ) (d : DeskState) (s : Sender) → HasSender name link d.entries s
      → returned_on link (desk_taken peer busy stamp (command.Gvb link m n) d).queue ≡ returned_on link d.queue ++ returned_in (senders.returns m n s.end s)
  gvb_answers peer busy stamp m n d s h = by (filter (sends_on link) d.entries) refl where
    at : Found → Type 0
    at w = returned_on link (at_end (command.Gvb link m n) (gvb_taken link m n) w d).queue ≡ returned_on link d.queue ++ returned_in (senders.returns m n s.end s)

    silent : (c : ℕ) → senders.is_open c s ≡ false → returned_in (senders.returns m n (Some c) s) ≡ []
    silent c e = rw e refl

    none_said : NoneOpen s → returned_in (senders.returns m n s.end s) ≡ []
    none_said k = of s.end refl where
      of : (o : Option ℕ) → s.end ≡ o → returned_in (senders.returns m n s.end s) ≡ []
      of None e = ap (λ (o : Option ℕ). returned_in (senders.returns m n o s)) e
      of (Some c) e = ap (λ (o : Option ℕ). returned_in (senders.returns m n o s)) e ∙ silent c (unopened s k c e)

    quiet : returned_in (senders.returns m n s.end s) ≡ [] → (returned_on link d.queue ≡ returned_on link d.queue ++ returned_in (senders.returns m n s.end s))
    quiet e = sym (ap (λ (l : List (ℕ × ℕ)). returned_on link d.queue ++ l) e ∙ append-nil (returned_on link d.queue))

    unconnected : returned_in (senders.returns m n s.end s) ≡ [] → at Unconnected
    unconnected e = returned_more link d.queue _ ∙ append-nil (returned_on link d.queue) ∙ quiet e

    shut : (x : Entry) → is_open x ≡ false → returned_in (senders.returns m n s.end s) ≡ [] → at (found_in (Some x))
    shut x o e = closed_found at (unconnected e) (quiet e) x o

    one : (x : Entry) → IsSender (name x.own x.foreign) x s → (v : Bool) → is_open x ≡ v → at (found_in (Some x))
    one x i true o =
        let opened : senders.is_open (name x.own x.foreign) s ≡ true = open_same _ x s i ∙ o in
        let said : returned_in (senders.returns m n s.end s) ≡ (counters.share s.allocation.messages m, counters.share s.allocation.bits n) ∷ []
        = ap (λ (p : Option ℕ). returned_in (senders.returns m n p s)) i.end ∙ (rw opened refl) in
        let same : returned_in (senders.returns m n s.end s) ≡ (counters.share x.allocation.messages m, counters.share x.allocation.bits n) ∷ []
        = said ∙ ap (λ (a : Allocation). (counters.share a.messages m, counters.share a.bits n) ∷ []) i.allocation in
        let own : returned_on link (command.Ret link (counters.share x.allocation.messages m) (counters.share x.allocation.bits n) ∷ []) ≡ (counters.share x.allocation.messages m, counters.share x.allocation.bits n) ∷ []
        = (let e : (link == link) ≡ true = eq-eqb link link refl in rw e refl) in
        open_found at x o (returned_more link d.queue _ ∙ ap (λ (l : List (ℕ × ℕ)). returned_on link d.queue ++ l) (own ∙ sym same))
    one x i false o =
        shut x o (ap (λ (p : Option ℕ). returned_in (senders.returns m n p s)) i.end ∙ silent _ (open_same _ x s i ∙ o))

    by : (xs : List Entry) → filter (sends_on link) d.entries ≡ xs → at (found_in (find (sends_on link) d.entries))
    by [] e =
        let k : NoneOpen s = subst (λ (ys : List Entry). AreSender name ys s) e h in
        subst (λ (o : Option Entry). at (found_in o)) (sym (none_is _ d.entries e)) (unconnected (none_said k))
    by (x ∷ []) e =
        let i : AreSender name (x ∷ []) s = subst (λ (ys : List Entry). AreSender name ys s) e h in
        subst (λ (o : Option Entry). at (found_in o)) (sym (first_is _ x [] d.entries e)) (elim i [
          | inl is ↦ one x is _ refl
          | inr k ↦ shut x (leaving_shut x s k) (none_said k.none)
        ])
    by (x ∷ y ∷ ys) e = absurd (subst (λ (zs : List Entry). AreSender name zs s) e h)

-- ---- what goes out

not_silent : (v : Bool) (x : Parcel) (e : Entry) (size count : ℕ) → (Some x ≡ Some (Bytes e size count) → ⊥) → (if v then Some x else None) ≡ Some (Bytes e size count) → ⊥
not_silent true x e size count other g = other g
not_silent false x e size count other g = absurd (cc)

abbrev pub IsNext : PairState → Entry → Type 0
IsNext q e = find (may_send_on q.busy (link_of e.link)) q.entries ≡ Some e

entry_in : Entry → Option Parcel → Entry
entry_in d (Some (Bytes e size count)) = e
entry_in d o = d

data_by : (q : PairState) (link : ℕ) (x e : Entry) (size count : ℕ) (o : Option ℕ) → find (may_send_on q.busy link) q.entries ≡ Some x → bytes_by x o ≡ Some (Bytes e size count) → IsNext q e
unfolding entry_in
data_by q link x e size count None f g = absurd (cc)
data_by q link x e size count (Some z) f g =
    let same : x ≡ e = ap (entry_in x) g in
    let t : (may_send q.busy x ≡ true) × ((link_of x.link == link) ≡ true) = both (may_send q.busy x) (link_of x.link == link) (find_passes _ x q.entries f) in
    let linked : link ≡ link_of x.link = sym (eqb-true (link_of x.link) link t.1) in
    subst (λ (y : Entry). IsNext q y) same (subst (λ (l : ℕ). find (may_send_on q.busy l) q.entries ≡ Some x) linked f)

data_found : (q : PairState) (link : ℕ) (e : Entry) (size count : ℕ) (o : Option Entry) → find (may_send_on q.busy link) q.entries ≡ o → bytes_of o ≡ Some (Bytes e size count) → IsNext q e
data_found q link e size count None f g = absurd (cc)
data_found q link e size count (Some x) f g = data_by q link x e size count x.size f g

data_on : (q : PairState) (e : Entry) (size count : ℕ) (o : Option ℕ) → bytes_on q.busy q.entries o ≡ Some (Bytes e size count) → IsNext q e
data_on q e size count None g = absurd (cc)
data_on q e size count (Some link) g = data_found q link e size count _ refl g

ready_by : (q : PairState) (e : Entry) (size count : ℕ) (v : Bool) → (nat_lt 0 (length q.queue) && not (is_busy q.busy 0)) ≡ v → next_of_ready q ≡ Some (Bytes e size count) → IsNext q e
ready_by q e size count true t g = let r : Some (Commands (packed_count q.queue)) ≡ Some (Bytes e size count) = rw t at g in absurd (cc)
ready_by q e size count false t g = let r : next_bytes q.busy q.entries ≡ Some (Bytes e size count) = rw t at g in data_on q e size count _ r

next_by : (q : PairState) (e : Entry) (size count : ℕ) (want owed ready : Bool) → is_want q.phase ≡ want → q.owed ≡ owed → is_ready q.phase ≡ ready → next_of q ≡ Some (Bytes e size count) → IsNext q e
next_by q e size count true owed ready w o r g =
    let t : if_silent q.busy Reset ≡ Some (Bytes e size count) = rw w at g in absurd (not_silent _ Reset e size count (λ same. absurd (cc)) t)
next_by q e size count false true ready w o r g =
    let t : if_silent q.busy Reply ≡ Some (Bytes e size count) = rw (w, o) at g in absurd (not_silent _ Reply e size count (λ same. absurd (cc)) t)
next_by q e size count false false true w o r g =
    let t : next_of_ready q ≡ Some (Bytes e size count) = rw (w, o, r) at g in ready_by q e size count _ refl t
next_by q e size count false false false w o r g = absurd (let t : None ≡ Some (Bytes e size count) = rw (w, o, r) at g in cc)

-- the end of which bytes go out is the one that is changed
pub next_is : (q : PairState) (e : Entry) (size count : ℕ) → next_of q ≡ Some (Bytes e size count) → IsNext q e
next_is q e size count g = next_by q e size count _ q.owed _ refl refl refl g

module _ (name : ℕ → ℕ → ℕ) (link : ℕ) (q : PairState) (e : Entry) (size count : ℕ) (next : next_of q ≡ Some (Bytes e size count)) where
  may : MaySend q e size count
  may = (what_goes q _ next).1

  on_link : e.link ≡ Some link → sends_on link e ≡ true
  on_link linked = let there : is_link link e.link ≡ true = ap (is_link link) linked ∙ eq-eqb link link refl in let sends : is_receiving e ≡ false = may.sends in rw (sends, there) refl

  bits_are : length (take (size * count) e.bits) ≡ size * count
  bits_are = length-take-le (size * count) e.bits may.waits

  -- the end is the law's, and it is open
  own_end : (s : Sender) → e.link ≡ Some link → HasSender name link q.entries s
      → IsSender (name e.own e.foreign) e s × (filter (sends_on link) (changed_first (may_send_on q.busy (link_of e.link)) (bits_gone (size * count)) q.entries) ≡ bits_gone (size * count) e ∷ [])
  own_end s linked h =
      let k : AreSender name (e ∷ []) s × (filter (sends_on link) (changed_first (may_send_on q.busy (link_of e.link)) (bits_gone (size * count)) q.entries) ≡ bits_gone (size * count) e ∷ [])
      = own_sender name link _ _ e q.entries s (next_is q e size count next) (on_link linked) (on_link linked) h in (
        elim k.0 [
          | inl is ↦ is
          | inr n ↦ absurd (unlike (is_open e) may.is_opened (leaving_shut e s n))
        ],
        k.1,
      )

  pub bytes_may : (s : Sender) → e.link ≡ Some link → HasSender name link q.entries s → senders.May (senders.Send (name e.own e.foreign) size (take (size * count) e.bits)) s
  bytes_may s linked h =
      let i : IsSender (name e.own e.foreign) e s = (own_end s linked h).0 in
      let message : nat_lt 0 e.allocation.messages ≡ true = lt-ltb 0 e.allocation.messages may.granted_message in
      let room : nat_le (size * count) e.allocation.bits ≡ true = le-leb (size * count) e.allocation.bits may.granted_bits in
      let covered : covers e.allocation (size * count) ≡ true = (rw (message, room) refl) in (
        i.end,
        open_same _ e s i ∙ may.is_opened,
        i.size ∙ may.bytes,
        ap (λ (a : Allocation). covers a (length (take (size * count) e.bits))) i.allocation ∙ ap (λ (n : ℕ). covers e.allocation n) bits_are ∙ covered,
      )

  pub bytes_send : (peer : Host) (stamp : ℕ) (listening : List Listener) (s : Sender) → e.link ≡ Some link → HasSender name link q.entries s
      → HasSender name link (parcel_gone peer stamp q.busy (Bytes e size count) (desk_of q listening)).entries (senders.moved (senders.Send (name e.own e.foreign) size (take (size * count) e.bits)) s)
  bytes_send peer stamp listening s linked h =
      let k : IsSender (name e.own e.foreign) e s × (filter (sends_on link) (changed_first (may_send_on q.busy (link_of e.link)) (bits_gone (size * count)) q.entries) ≡ bits_gone (size * count) e ∷ [])
      = own_end s linked h in
      let i : IsSender (name e.own e.foreign) e s = k.0 in
      let spends : counters.spent s.allocation (length (take (size * count) e.bits)) ≡ counters.spent e.allocation (size * count)
      = ap (λ (a : Allocation). counters.spent a (length (take (size * count) e.bits))) i.allocation ∙ ap (λ (n : ℕ). counters.spent e.allocation n) bits_are in
      subst (λ (es : List Entry). AreSender name es (senders.moved (senders.Send (name e.own e.foreign) size (take (size * count) e.bits)) s)) (sym k.1)
      (inl (record { end = i.end; opened = i.opened; shut = i.shut; closed = i.closed; size = i.size; allocation = spends; live = i.live }))
