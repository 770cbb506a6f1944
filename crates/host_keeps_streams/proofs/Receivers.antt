-- What a receiving end does.
use Rattle.host_keeps_streams.proofs.Common.{◌≡◌, ℕ, ◌+◌, ◌≤◌, Bool, true, false, not, ◌&&◌, ◌||◌, nat_le, if◌then◌else◌, List, [], ◌∷◌, ◌++◌, length, take, filter, find, Option, Some, None, refl, ap, sym, subst, ◌∙◌, append-nil, arith, length-take-le, Host, Allocation, header_of, data_bits, DataHeader, for, holds, Receiver, Found, Unconnected, Ending, Open, found_in, at_end, ret_taken, returned, desk_taken, data_of, data_found, data_taken, arrived_if, is_acceptable, spent, DeskState, changed_first, has_cls, is_open, receives_on, Entry, for_here, has_opened, IsReceiver, AreReceiver, HasReceiver}
use Rattle.std.proofs.Common.{◌-◌, drop}
use Rattle.std.proofs.lemmas.List.{length-drop}
use Rattle.ncp_control.specs.Allocation as counters
use Rattle.ncp_control.specs.declared.command.Command.TheVariants as command
use Rattle.stream_law.specs.Words as words
use Rattle.stream_law.specs.Words.{covers}
use Rattle.stream_law.specs.Receivers as receivers
use Rattle.host_pairs.specs.Control.{ERRONEOUS}
use Rattle.host_pairs.specs.Data.{arrived, is_covered, text_faulted}
use Rattle.host_pairs.specs.Entries.{is_ending, is_size}
use Rattle.host_pairs.proofs.lemmas.{header_covers}
use Rattle.host_pairs.specs.declared.notice.Notice.{Notice}
use Rattle.host_pairs.specs.declared.notice.Notice.TheVariants as notice
use Rattle.stream_law.proofs.lemmas.{some_is}
use Rattle.host_keeps_streams.specs.Said.{arrivals}
use Rattle.host_keeps_streams.proofs.Lists.{find_passes, none_is, first_is, missed, Here, here}

open_bool : (a x y : Bool) → (a && not x && not y) ≡ (a && not (x || y))
open_bool true true y = refl
open_bool true false y = refl
open_bool false x y = refl

-- an end is open as the law has it
pub open_same : (c : ℕ) (e : Entry) (r : Receiver) → IsReceiver c e r → receivers.is_open c r ≡ is_open e
open_same c e r h =
    ap (λ (v : Bool). v && not r.closed && not (r.over c)) h.opened ∙ ap (λ (v : Bool). has_opened e && not v && not (r.over c)) h.closed
    ∙ ap (λ (v : Bool). has_opened e && not (has_cls e.closing) && not v) h.over ∙ open_bool _ _ e.partner_closed

-- what is found where an end isn't open, and where it is
pub closed_found : (P : Found → Type 0) → P Unconnected → P Ending → (x : Entry) → is_open x ≡ false → P (found_in (Some x))
closed_found P none ending x shut = subst (λ (v : Bool). P (if v then Open x else (if is_ending x then Ending else Unconnected))) (sym shut) (by (is_ending x)) where
  by : (v : Bool) → P (if v then Ending else Unconnected)
  by true = ending
  by false = none

pub open_found : (P : Found → Type 0) (x : Entry) → is_open x ≡ true → P (Open x) → P (found_in (Some x))
open_found P x is h = subst (λ (v : Bool). P (if v then Open x else (if is_ending x then Ending else Unconnected))) (sym is) h

-- what holds of the work that is done at the open end of a link, and of the law's move there
pub at_link : (name : ℕ → ℕ → ℕ) (link : ℕ) (es : List Entry) (r : Receiver) (P : Found → Receiver → Type 0) (work : Option ℕ → Receiver) → P Unconnected r → P Ending r → work None ≡ r
    → ((c : ℕ) → receivers.is_open c r ≡ false → work (Some c) ≡ r)
    → ((x : Entry) → find (receives_on link) es ≡ Some x → filter (receives_on link) es ≡ x ∷ [] → IsReceiver (name x.own x.foreign) x r → is_open x ≡ true → P (Open x) (work (Some (name x.own x.foreign))))
    → HasReceiver name link es r → P (found_in (find (receives_on link) es)) (work r.end)
at_link name link es r P work none ending idle shut opened h = by (filter (receives_on link) es) refl where
  at : Option Entry → Type 0
  at o = P (found_in o) (work r.end)

  one : (x : Entry) → filter (receives_on link) es ≡ x ∷ [] → IsReceiver (name x.own x.foreign) x r → (v : Bool) → is_open x ≡ v → at (Some x)
  one x e i true o =
      open_found (λ (w : Found). P w (work r.end)) x o (subst (λ (p : Option ℕ). P (Open x) (work p)) (sym i.end) (opened x (first_is _ x [] es e) e i o))
  one x e i false o =
      subst (λ (q : Receiver). P (found_in (Some x)) q) (sym (ap work i.end ∙ shut _ (open_same _ x r i ∙ o))) (closed_found (λ (w : Found). P w r) none ending x o)

  by : (xs : List Entry) → filter (receives_on link) es ≡ xs → at (find (receives_on link) es)
  by [] e =
      let end : AreReceiver name [] r = subst (λ (ys : List Entry). AreReceiver name ys r) e h in
      subst at (sym (none_is _ es e)) (subst (λ (q : Receiver). P Unconnected q) (sym (ap work end ∙ idle)) none)
  by (x ∷ []) e =
      let i : AreReceiver name (x ∷ []) r = subst (λ (ys : List Entry). AreReceiver name ys r) e h in
      subst at (sym (first_is _ x [] es e)) (one x e i _ refl)
  by (x ∷ y ∷ ys) e = absurd (subst (λ (zs : List Entry). AreReceiver name zs r) e h)

-- an end on the link that is found, and changed, is the law's
own_by : (name : ℕ → ℕ → ℕ) (link : ℕ) (test : Entry → Bool) (change : Entry → Entry) (e : Entry) (es : List Entry) (r : Receiver) → find test es ≡ Some e → receives_on link e ≡ true → receives_on link (change e) ≡ true → HasReceiver name link es r
    → (xs : List Entry) → filter (receives_on link) es ≡ xs → IsReceiver (name e.own e.foreign) e r × (filter (receives_on link) (changed_first test change es) ≡ change e ∷ [])
own_by name link test change e es r found on after h [] f = absurd (missed test _ e es on f found)
own_by name link test change e es r found on after h (x ∷ []) f =
    let k : Here test (receives_on link) change e x es = here test _ change e x es on after found f in
    (subst (λ (y : Entry). IsReceiver (name y.own y.foreign) y r) (sym k.0) (subst (λ (ys : List Entry). AreReceiver name ys r) f h), k.1)
own_by name link test change e es r found on after h (x ∷ y ∷ ys) f = absurd (subst (λ (zs : List Entry). AreReceiver name zs r) f h)

pub own_receiver : (name : ℕ → ℕ → ℕ) (link : ℕ) (test : Entry → Bool) (change : Entry → Entry) (e : Entry) (es : List Entry) (r : Receiver) → find test es ≡ Some e → receives_on link e ≡ true → receives_on link (change e) ≡ true
    → HasReceiver name link es r → IsReceiver (name e.own e.foreign) e r × (filter (receives_on link) (changed_first test change es) ≡ change e ∷ [])
own_receiver name link test change e es r found on after h = own_by name link test change e es r found on after h _ refl

-- ---- data

-- the bits of a text are as many as its header says
pub bits_there : (text : List Bool) (h : DataHeader) → header_of text ≡ Some h → length (data_of (data_bits h) text) ≡ data_bits h
bits_there text h is =
    let covers : 40 + data_bits h ≤ length text = header_covers text h is in
    let taken : length (take (40 + data_bits h) text) ≡ 40 + data_bits h = length-take-le (40 + data_bits h) text covers in
    let dropped : length (drop 40 (take (40 + data_bits h) text)) ≡ length (take (40 + data_bits h) text) - 40 = length-drop 40 (take (40 + data_bits h) text) in
    omega (arith, taken, dropped)

-- a closed end takes nothing
shut_takes : (z : ℕ) (bits : List Bool) (r : Receiver) (c : ℕ) → receivers.is_open c r ≡ false → receivers.takes z bits (Some c) r ≡ r
shut_takes z bits r c e = rw e refl

pub accept_same : (c : ℕ) (x : Entry) (r : Receiver) (h : DataHeader) (bits : List Bool) → IsReceiver c x r → is_open x ≡ true → length bits ≡ data_bits h
    → (receivers.is_open c r && words.is_size h.size (r.size c) && covers r.allocation (length bits)) ≡ is_acceptable x h
accept_same c x r h bits i o e =
    ap (λ (v : Bool). v && words.is_size h.size (r.size c) && covers r.allocation (length bits)) (open_same c x r i ∙ o)
    ∙ ap (λ (z : Option ℕ). words.is_size h.size z && covers r.allocation (length bits)) i.size
    ∙ ap (λ (a : Allocation). words.is_size h.size x.size && covers a (length bits)) i.allocation
    ∙ ap (λ (n : ℕ). words.is_size h.size x.size && covers x.allocation n) e
    ∙ size_same x.size where
      size_same : (z : Option ℕ) → (words.is_size h.size z && covers x.allocation (data_bits h)) ≡ (is_size h.size z && is_covered (data_bits h) x.allocation)
      size_same None = refl
      size_same (Some z) = refl

pub back_same : (m n : ℕ) (c : ℕ) (x : Entry) (r : Receiver) → IsReceiver c x r → is_open x ≡ true → (receivers.is_open c r && holds r.allocation m n) ≡ (nat_le m x.allocation.messages && nat_le n x.allocation.bits)
back_same m n c x r i o = ap (λ (v : Bool). v && holds r.allocation m n) (open_same c x r i ∙ o) ∙ ap (λ (a : Allocation). holds a m n) i.allocation

none_told : (d : DeskState) → d.notices ≡ [] → (ms : List (List Bool)) → ms ++ arrivals d.notices ≡ ms
none_told d silent ms = ap (λ (ns : List Notice). ms ++ arrivals ns) silent ∙ append-nil ms

module _ (name : ℕ → ℕ → ℕ) (link : ℕ) where
  -- no end looks at how many messages came
  with_came : (xs : List Entry) (r : Receiver) (came : ℕ → ℕ) → AreReceiver name xs r → AreReceiver name xs (record r { came = came })
  with_came [] r came h = h
  with_came (e ∷ []) r came h = record { end = h.end; opened = h.opened; closed = h.closed; over = h.over; size = h.size; allocation = h.allocation; due = h.due; live = h.live }
  with_came (e ∷ f ∷ more) r came h = absurd h

  taken_by : (text : List Bool) (h : DataHeader) (bits : List Bool) (d : DeskState) (r : Receiver) (x : Entry) → length bits ≡ data_bits h → find (receives_on link) d.entries ≡ Some x → filter (receives_on link) d.entries ≡ x ∷ []
      → IsReceiver (name x.own x.foreign) x r → (v : Bool) → is_acceptable x h ≡ v
      → (receivers.is_open (name x.own x.foreign) r && words.is_size h.size (r.size (name x.own x.foreign)) && covers r.allocation (length bits)) ≡ v
      → HasReceiver name link (if v then arrived link x (data_bits h) text d else text_faulted ERRONEOUS text d).entries (receivers.takes h.size bits (Some (name x.own x.foreign)) r)
  taken_by text h bits d r x size f one i true e g =
      let there : receives_on link x ≡ true = find_passes _ x d.entries f in
      let k : Here (receives_on link) (receives_on link) (spent (data_bits h)) x x d.entries = here _ _ _ x x d.entries there there f one in
      let spends : counters.spent r.allocation (length bits) ≡ counters.spent x.allocation (data_bits h) = ap (λ (a : Allocation). counters.spent a (length bits)) i.allocation ∙ ap (λ (n : ℕ). counters.spent x.allocation n) size in
      subst (λ (es : List Entry). AreReceiver name es (receivers.takes h.size bits (Some (name x.own x.foreign)) r)) (sym k.1)
      (rw g (record { end = i.end; opened = i.opened; closed = i.closed; over = i.over; size = i.size; allocation = spends; due = i.due; live = i.live }))
  taken_by text h bits d r x size f one i false e g = subst (λ (es : List Entry). AreReceiver name es (receivers.takes h.size bits (Some (name x.own x.foreign)) r)) (sym one) (rw g i)

  data_takes : (text : List Bool) (h : DataHeader) (d : DeskState) (r : Receiver) → header_of text ≡ Some h → HasReceiver name link d.entries r
      → HasReceiver name link (data_taken link text d).entries (receivers.takes h.size (data_of (data_bits h) text) r.end r)
  data_takes text h d r is k =
      at_link name link d.entries r (λ w q. HasReceiver name link (data_found link text w d).entries q) (λ o. receivers.takes h.size (data_of (data_bits h) text) o r) k k refl
      (shut_takes h.size _ r)
      (λ x f one i o.
      subst (λ (p : Option DataHeader). HasReceiver name link (arrived_if link x text p d).entries (receivers.takes h.size (data_of (data_bits h) text) (Some (name x.own x.foreign)) r)) (sym is)
      (taken_by text h _ d r x (bits_there text h is) f one i _ refl (accept_same _ x r h _ i o (bits_there text h is))))
      k

  pub data_receives : (text : List Bool) (h : DataHeader) (d : DeskState) (r : Receiver) → header_of text ≡ Some h → HasReceiver name link d.entries r
      → HasReceiver name link (data_taken link text d).entries (receivers.moved (receivers.Take h.size (data_of (data_bits h) text)) r)
  data_receives text h d r is k =
      with_came _ _ _ (data_takes text h d r is k)

  -- what is reported as taken is what the law takes
  told_by : (text : List Bool) (h : DataHeader) (bits : List Bool) (d : DeskState) (r : Receiver) (x : Entry) → data_of (data_bits h) text ≡ bits → IsReceiver (name x.own x.foreign) x r → (v : Bool) → is_acceptable x h ≡ v
      → (receivers.is_open (name x.own x.foreign) r && words.is_size h.size (r.size (name x.own x.foreign)) && covers r.allocation (length bits)) ≡ v → d.notices ≡ []
      → (c : ℕ) → r.end ≡ Some c
      → (receivers.takes h.size bits (Some (name x.own x.foreign)) r).taken c ≡ r.taken c ++ arrivals (if v then arrived link x (data_bits h) text d else text_faulted ERRONEOUS text d).notices
  told_by text h bits d r x same i true e g silent c end =
      let own : c ≡ name x.own x.foreign = some_is c (name x.own x.foreign) (sym end ∙ i.end) in
      let told : arrivals (d.notices ++ notice.Arrived x.own (data_of (data_bits h) text) ∷ []) ≡ bits ∷ []
      = ap (λ (ns : List Notice). arrivals (ns ++ notice.Arrived x.own (data_of (data_bits h) text) ∷ [])) silent ∙ ap (λ (b : List Bool). b ∷ []) same in
      subst (λ (k : ℕ). (receivers.takes h.size bits (Some (name x.own x.foreign)) r).taken k ≡ r.taken k ++ arrivals (d.notices ++ notice.Arrived x.own (data_of (data_bits h) text) ∷ [])) (sym own)
      (rw g (for_here _ _ r.taken ∙ ap (λ (l : List (List Bool)). r.taken (name x.own x.foreign) ++ l) (sym told)))
  told_by text h bits d r x same i false e g silent c end = rw g (sym (none_told d silent _))

  pub data_told : (text : List Bool) (h : DataHeader) (d : DeskState) (r : Receiver) → header_of text ≡ Some h → HasReceiver name link d.entries r → d.notices ≡ [] → (c : ℕ) → r.end ≡ Some c
      → (receivers.takes h.size (data_of (data_bits h) text) r.end r).taken c ≡ r.taken c ++ arrivals (data_taken link text d).notices
  data_told text h d r is k silent c end =
      at_link name link d.entries r (λ w q. q.taken c ≡ r.taken c ++ arrivals (data_found link text w d).notices) (λ o. receivers.takes h.size (data_of (data_bits h) text) o r)
      (sym (none_told d silent _)) (sym (none_told d silent _)) refl
      (shut_takes h.size (data_of (data_bits h) text) r)
      (λ x f one i o.
      subst (λ (p : Option DataHeader). (receivers.takes h.size (data_of (data_bits h) text) (Some (name x.own x.foreign)) r).taken c ≡ r.taken c ++ arrivals (arrived_if link x text p d).notices) (sym is)
      (told_by text h _ d r x refl i _ refl (accept_same _ x r h _ i o (bits_there text h is)) silent c end))
      k

  -- ---- what is returned

  shut_back : (m n : ℕ) (r : Receiver) (c : ℕ) → receivers.is_open c r ≡ false → receivers.takes_back m n (Some c) r ≡ r
  shut_back m n r c e = rw e refl

  back_by : (m n : ℕ) (d : DeskState) (r : Receiver) (x : Entry) → find (receives_on link) d.entries ≡ Some x → filter (receives_on link) d.entries ≡ x ∷ [] → IsReceiver (name x.own x.foreign) x r
      → (v : Bool) → (nat_le m x.allocation.messages && nat_le n x.allocation.bits) ≡ v → (receivers.is_open (name x.own x.foreign) r && holds r.allocation m n) ≡ v
      → HasReceiver name link (ret_taken link m n x d).entries (receivers.takes_back m n (Some (name x.own x.foreign)) r)
  back_by m n d r x f one i true e g =
      let there : receives_on link x ≡ true = find_passes _ x d.entries f in
      let k : Here (receives_on link) (receives_on link) (returned m n) x x d.entries = here _ _ _ x x d.entries there there f one in
      let less : record { messages = r.allocation.messages - m; bits = r.allocation.bits - n } ≡ record { messages = x.allocation.messages - m; bits = x.allocation.bits - n }
      = ap (λ (a : Allocation). less_by a) i.allocation in
      rw (e, g) (subst (λ (es : List Entry). AreReceiver name es (back r (name x.own x.foreign))) (sym k.1) (record { end = i.end; opened = i.opened; closed = i.closed; over = i.over; size = i.size; allocation = less; due = i.due; live = i.live })) where
        less_by : Allocation → Allocation
        less_by a = record { messages = a.messages - m; bits = a.bits - n }

        back : Receiver → ℕ → Receiver
        back r c = record r { allocation = record { messages = r.allocation.messages - m; bits = r.allocation.bits - n }; returned = for c (counters.added (r.returned c) m n) r.returned }
  back_by m n d r x f one i false e g = rw (e, g) (subst (λ (es : List Entry). AreReceiver name es r) (sym one) i)

  pub ret_receives : (peer : Host) (busy : List ℕ) (stamp m n : ℕ) (d : DeskState) (r : Receiver) → HasReceiver name link d.entries r
      → HasReceiver name link (desk_taken peer busy stamp (command.Ret link m n) d).entries (receivers.takes_back m n r.end r)
  ret_receives peer busy stamp m n d r k =
      at_link name link d.entries r (λ w q. HasReceiver name link (at_end (command.Ret link m n) (ret_taken link m n) w d).entries q) (λ o. receivers.takes_back m n o r) k k refl
      (shut_back m n r)
      (λ x f one i o. back_by m n d r x f one i (nat_le m x.allocation.messages && nat_le n x.allocation.bits) refl (back_same m n _ x r i o))
      k
