-- What the two hosts of a link keep, through all that happens.
use Rattle.std.proofs.Common.{◌≡◌, ◌⊎◌, ℕ, ◌+◌, ◌≤◌, ◌==◌, if◌then◌else◌, Bool, true, false, ◌&&◌, List, [], ◌∷◌, ◌++◌, length, Option, Some, None, is_some, refl, ap, sym, subst, ◌∙◌, inl, inr, eq-eqb, nat_lt, nat_le, arith}
use Rattle.std.proofs.lemmas.Bool.{le-leb, lt-ltb}
use Rattle.ncp_control.specs.declared.allocation.Allocation.{Allocation}
use Rattle.stream_law.specs.Words.{Word, Rts, covers, is_size}
use Rattle.stream_law.specs.Receivers as receivers
use Rattle.stream_law.specs.Receivers.{Receiver}
use Rattle.stream_law.specs.Senders.{Sender}
use Rattle.stream_law.specs.Streams.{Stream, Box, Empty, Waiting, Taken}
use Rattle.stream_law.specs.Within.{IsPrefix, waiting_in}
use Rattle.stream_law.proofs.Amounts.{unlike, some_is, Counter, Messages, Bits, number, cost, total, total_of, granted_in, returned_in, held}
use Rattle.stream_law.proofs.Words.{unless, NoRts, DownFits, UpFits}

abbrev pub made : Receiver → Sender → List Word → List Word → Box → Stream
made r s down up box = record { receiver = r; sender = s; to_sender = down; to_receiver = up; box = box }

-- ---- what is under way

abbrev pub Down : Receiver → Sender → List Word → Type 0
Down r s w = DownFits r.over r.asked (unless s.shut s.end) w (unless r.closed r.end)

-- what waits is of an end that isn't closed
abbrev pub Waits : Sender → Box → Type 0
Waits s Empty = Unit {0}
Waits s (Waiting c z bits) = (s.end ≡ Some c) × (s.opened ≡ true) × (s.closed c ≡ false) × (s.size c ≡ Some z)
Waits s Taken = Unit {0}

abbrev pub waiting_of : ℕ → Box → ℕ
waiting_of c Empty = 0
waiting_of c (Waiting k size bits) = if c == k then 1 else 0
waiting_of c Taken = 0

-- what was granted is at least what was sent, what may still be sent, the grants and returns under way, and what was returned
abbrev pub Account : Counter → ℕ → Receiver → Sender → List Word → List Word → Type 0
Account u c r s down up = total u (s.sent c) + held u c s.end s.allocation + granted_in u c down + returned_in u c up + number u (r.returned c) ≤ number u (r.granted c)

-- ---- groups by what they speak of: a step passes on as it is each group of which it changes nothing

-- the two ends, and the connections that were asked for, are over, and are closed by the sender
pub record Ends (receives sends : Option ℕ) (asked over closed : ℕ → Bool) (shut : Bool) : Type 0 where
  -- what was asked for has the link, or is over
  pub known : (c : ℕ) → asked c ≡ true → (receives ≡ Some c) ⊎ (over c ≡ true)
  pub own : (c : ℕ) → receives ≡ Some c → asked c ≡ true
  pub passed : (c : ℕ) → over c ≡ true → closed c ≡ true
  pub heard : (c : ℕ) → sends ≡ Some c → asked c ≡ true
  -- an end of which both CLS have passed is gone
  pub half : (c : ℕ) → sends ≡ Some c → shut ≡ true → closed c ≡ false

-- byte sizes
pub record Sizes (end : Option ℕ) (opened : Bool) (heard said : ℕ → Option ℕ) : Type 0 where
  pub told : (c z : ℕ) → heard c ≡ Some z → said c ≡ Some z
  pub sized : (c : ℕ) → end ≡ Some c → opened ≡ true → is_some (heard c) ≡ true

-- the messages that were sent, that wait, that came and that were taken
pub record Arrivals (end : Option ℕ) (closed : Bool) (asked over first : ℕ → Bool) (taken sent : ℕ → List (List Bool))
    (waiting : List (List Bool)) (count waits : ℕ → ℕ) : Type 0 where
  -- an end that isn't closing took all but what waits
  pub whole : (c : ℕ) → end ≡ Some c → closed ≡ false → over c ≡ false → sent c ≡ taken c ++ waiting
  -- an end that closes, and that hasn't heard the sender's CLS, said its own first
  pub firsts : (c : ℕ) → end ≡ Some c → closed ≡ true → over c ≡ false → first c ≡ true
  -- where it heard the sender's first, it has taken all that was sent
  pub settled : (c : ℕ) → over c ≡ true → first c ≡ false → taken c ≡ sent c
  pub fronts : (c : ℕ) → IsPrefix (taken c) (sent c)
  pub unsent : (c : ℕ) → asked c ≡ false → sent c ≡ []
  -- each message that was sent waits, or it came
  pub came : (c : ℕ) → length (sent c) ≡ count c + waits c

-- the amounts that the receiver granted
pub record Grants (end : Option ℕ) (opened : Bool) (asked : ℕ → Bool) (allocation : Allocation) (granted returned : ℕ → Allocation)
    (taken : ℕ → List (List Bool)) : Type 0 where
  pub left : (u : Counter) (c : ℕ) → end ≡ Some c
      → number u (granted c) ≤ number u allocation + total u (taken c) + number u (returned c)
  pub unopened : (u : Counter) (c : ℕ) → end ≡ Some c → opened ≡ false → number u (granted c) ≡ 0
  pub ungranted : (u : Counter) (c : ℕ) → asked c ≡ false → number u (granted c) ≡ 0

-- ---- all of it

pub record Inv (x : Stream) : Type 0 where
  pub ends : Ends x.receiver.end x.sender.end x.receiver.asked x.receiver.over x.sender.closed x.sender.shut
  pub down : Down x.receiver x.sender x.to_sender
  -- no other connection is asked for while the sender's end isn't closed
  pub still : (c : ℕ) → x.sender.end ≡ Some c → x.sender.closed c ≡ false → NoRts x.to_sender
  pub up : UpFits x.receiver.over x.receiver.asked x.sender.closed x.sender.size x.to_receiver
  pub sizes : Sizes x.receiver.end x.receiver.opened x.receiver.size x.sender.size
  pub waiting : Waits x.sender x.box
  pub arrivals : Arrivals x.receiver.end x.receiver.closed x.receiver.asked x.receiver.over x.receiver.first
      x.receiver.taken x.sender.sent (waiting_in x.box) x.receiver.came (λ c. waiting_of c x.box)
  pub account : (u : Counter) (c : ℕ) → Account u c x.receiver x.sender x.to_sender x.to_receiver
  pub grants : Grants x.receiver.end x.receiver.opened x.receiver.asked x.receiver.allocation
      x.receiver.granted x.receiver.returned x.receiver.taken

-- ---- what follows

-- where the link is free all that were asked for are over
pub all_over : (x : Stream) → Inv x → x.receiver.end ≡ None → (k : ℕ) → x.receiver.asked k ≡ true → x.receiver.over k ≡ true
all_over x h none k asked = elim (h.ends.known k asked) [
  | inl e ↦ (let both : None ≡ Some k = sym none ∙ e in absurd (cc))
  | inr o ↦ o
]

-- what was asked for and isn't closed has the link
pub sole : (x : Stream) → Inv x → (c : ℕ) → x.receiver.asked c ≡ true → x.sender.closed c ≡ false → x.receiver.end ≡ Some c
sole x h c asked none = elim (h.ends.known c asked) [
  | inl e ↦ e
  | inr o ↦ absurd (unlike _ (h.ends.passed c o) none)
]

pub waits_for : (x : Stream) → Inv x → (c z : ℕ) (bits : List Bool) → x.box ≡ Waiting c z bits → Waits x.sender (Waiting c z bits)
waits_for x h c z bits e = subst (λ (b : Box). Waits x.sender b) e h.waiting

pub waits_of : (x : Stream) → Inv x → (c z : ℕ) (bits : List Bool) → x.box ≡ Waiting c z bits → x.receiver.end ≡ Some c
waits_of x h c z bits e =
    let w : Waits x.sender (Waiting c z bits) = waits_for x h c z bits e in
    sole x h c (h.ends.heard c w.0) w.2

-- the sender's end is closed where the receiver has none
pub closed_of : (x : Stream) → Inv x → x.receiver.end ≡ None → (c : ℕ) → x.sender.end ≡ Some c → x.sender.closed c ≡ true
closed_of x h none c e = h.ends.passed c (all_over x h none c (h.ends.heard c e))

-- a request finds the link free
pub link_free : (x : Stream) (c : ℕ) (rest : List Word) → Inv x → x.to_sender ≡ Rts c ∷ rest → x.sender.end ≡ None
link_free x c rest h same = by x.sender.end refl where
  view : unless x.sender.shut x.sender.end ≡ None
  view = (subst (λ (w : List Word). Down x.receiver x.sender w) same h.down).0

  closed : (k : ℕ) → x.sender.end ≡ Some k → (v : Bool) → x.sender.closed k ≡ v → (w : Bool) → x.sender.shut ≡ w → ⊥
  closed k e false none w shut = subst NoRts same (h.still k e none)
  closed k e true gone true shut = unlike (x.sender.closed k) gone (h.ends.half k e shut)
  closed k e true gone false shut =
      let seen : Some k ≡ None = sym e ∙ (sym (ap (λ (v : Bool). unless v x.sender.end) shut) ∙ view) in absurd (cc)

  by : (o : Option ℕ) → x.sender.end ≡ o → x.sender.end ≡ None
  by None e = e
  by (Some k) e = absurd (closed k e (x.sender.closed k) refl x.sender.shut refl)

-- ---- what waits is acceptable

only_some : (o : Option ℕ) → is_some o ≡ true → (z : ℕ) → ((y : ℕ) → o ≡ Some y → y ≡ z) → o ≡ Some z
only_some None e z f = absurd (cc)
only_some (Some y) e z f = ap (λ (n : ℕ). Some n) (f y refl)

-- it costs no more than what was granted and is left
affordable : (x : Stream) → Inv x → (u : Counter) (c : ℕ) (bits : List Bool) → x.receiver.end ≡ Some c → x.sender.sent c ≡ x.receiver.taken c ++ bits ∷ [] → cost u bits ≤ number u x.receiver.allocation
affordable x h u c bits end sent =
    let a : Account u c x.receiver x.sender x.to_sender x.to_receiver = h.account u c in
    let l : number u (x.receiver.granted c) ≤ number u x.receiver.allocation + total u (x.receiver.taken c) + number u (x.receiver.returned c) = h.grants.left u c end in
    let t : total u (x.sender.sent c) ≡ total u (x.receiver.taken c) + cost u bits = ap (λ (ms : List (List Bool)). total u ms) sent ∙ total_of u _ bits in
    omega (arith, a, l, t)

pub acceptable : (x : Stream) → Inv x → (c z : ℕ) (bits : List Bool) → x.box ≡ Waiting c z bits → x.receiver.closed ≡ false → x.receiver.over c ≡ false
    → (receivers.is_open c x.receiver && is_size z (x.receiver.size c) && covers x.receiver.allocation (length bits)) ≡ true
acceptable x h c z bits e closed over =
    let w : Waits x.sender (Waiting c z bits) = waits_for x h c z bits e in
    let end : x.receiver.end ≡ Some c = waits_of x h c z bits e in
    let sent : x.sender.sent c ≡ x.receiver.taken c ++ bits ∷ [] = subst (λ (b : Box). x.sender.sent c ≡ x.receiver.taken c ++ waiting_in b) e (h.arrivals.whole c end closed over) in
    let opened : x.receiver.opened ≡ true = opens end sent x.receiver.opened refl in
    let sized : x.receiver.size c ≡ Some z = only_some _ (h.sizes.sized c end opened) z (λ y there. some_is y z (sym (h.sizes.told c y there) ∙ w.3)) in
    let right : is_size z (x.receiver.size c) ≡ true = ap (is_size z) sized ∙ eq-eqb z z refl in
    let one : 1 ≤ x.receiver.allocation.messages = affordable x h Messages c bits end sent in
    let room : length bits ≤ x.receiver.allocation.bits = affordable x h Bits c bits end sent in
    let some : nat_lt 0 x.receiver.allocation.messages ≡ true = lt-ltb 0 x.receiver.allocation.messages one in
    let all : nat_le (length bits) x.receiver.allocation.bits ≡ true = le-leb (length bits) x.receiver.allocation.bits room in
    rw (opened, closed, over, right, some, all) refl where
      opens : x.receiver.end ≡ Some c → x.sender.sent c ≡ x.receiver.taken c ++ bits ∷ [] → (v : Bool) → x.receiver.opened ≡ v → x.receiver.opened ≡ true
      opens end sent true v = v
      opens end sent false v =
          let none : number Messages (x.receiver.granted c) ≡ 0 = h.grants.unopened Messages c end v in
          let a : Account Messages c x.receiver x.sender x.to_sender x.to_receiver = h.account Messages c in
          let t : total Messages (x.sender.sent c) ≡ total Messages (x.receiver.taken c) + 1 = ap (λ (ms : List (List Bool)). total Messages ms) sent ∙ total_of Messages _ bits in
          absurd (omega (arith, none, a, t))
