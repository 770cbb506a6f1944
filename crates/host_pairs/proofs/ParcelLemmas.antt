-- What goes out of a pair, and when it may.
pub use Rattle.std.proofs.lemmas.Option.{same_Some as some_is}
use Rattle.std.proofs.Common.{◌≡◌, ℕ, ◌*◌, ◌/◌, ◌<◌, ◌≤◌, ◌==◌, ◌&&◌, Bool, true, false, not, min, nat_lt, List, [], ◌∷◌, length, find, filter, Option, Some, None, is_some, refl, ap, sym, subst, ◌∙◌, arith, zero, suc}
use Rattle.std.proofs.Math.Nat.{min-le_left, min-le_right, mul-div-le, mul-le-mul_left, zero-div}
use Rattle.std.proofs.lemmas.Bool.{eqb-true, ltb-true}
use Rattle.ncp_control.specs.Allocation as counters
use Rattle.ncp_control.specs.Packing.{packed_count}
use Rattle.ncp_control.specs.declared.allocation.Allocation.{Allocation}
use Rattle.host_pairs.specs.Entries.{is_receiving, is_open, is_answered, is_busy}
use Rattle.host_pairs.specs.Allowed.{MaySpeak, MaySend, MayGo}
use Rattle.host_pairs.specs.Pair.{PairState}
use Rattle.ncp_control.specs.Phases.{is_want, is_ready}
use Rattle.host_pairs.specs.Parcels.{Parcel, Reset, Reply, Commands, Bytes, sendable, sendable_by, may_send, may_send_on, link_of, lowest_link, bytes_by, bytes_of, bytes_on, next_bytes, if_silent, next_of_ready, next_of}
use Rattle.host_pairs.specs.declared.entry.Entry.{Entry}
use Rattle.ncp_control.specs.declared.phase.Phase.{Phase}
use Rattle.ncp_control.specs.declared.phase.Phase.TheVariants as phase
use Rattle.host_pairs.proofs.OpeningLemmas.{none_of, both, not_is}
use Rattle.interface.proofs.lemmas.{and_none, and_turned}

want_is : (p : Phase) → is_want p ≡ true → p ≡ phase.Want
want_is phase.Closed e = absurd (cc)
want_is phase.Want e = refl
want_is (phase.Gone early) e = absurd (cc)
want_is phase.Heard e = absurd (cc)
want_is phase.Ready e = absurd (cc)

ready_is : (p : Phase) → is_ready p ≡ true → p ≡ phase.Ready
ready_is phase.Closed e = absurd (cc)
ready_is phase.Want e = absurd (cc)
ready_is (phase.Gone early) e = absurd (cc)
ready_is phase.Heard e = absurd (cc)
ready_is phase.Ready e = refl

-- ---- numbers

not_none : (n : ℕ) → (b : Bool) → (n == 0) ≡ b → b ≡ false → 0 < n
not_none zero b e f = absurd (cc)
not_none (suc n) b e f = omega arith

record IsWithin (a : Allocation) (size bytes count : ℕ) : Type 0 where
  messages : 0 < a.messages
  waits : count ≤ bytes
  bits : count ≤ a.bits / size
  fits : count ≤ 8023 / size

within_by : (a : Allocation) (size bytes count : ℕ) → count ≡ counters.may_send a size bytes → 0 < count → (b : Bool) → (a.messages == 0) ≡ b → IsWithin a size bytes count
within_by a size bytes count e lt true z = absurd (let n : count ≡ 0 = rw z at e in omega (arith, n, lt))
within_by a size bytes count e lt false z =
    let n : count ≡ min bytes (min (a.bits / size) (8023 / size)) = rw z at e in
    record {
      messages = not_none a.messages false z refl;
      waits = omega (arith, n, min-le_left bytes (min (a.bits / size) (8023 / size)));
      bits = omega (arith, n, min-le_right bytes (min (a.bits / size) (8023 / size)), min-le_left (a.bits / size) (8023 / size));
      fits = omega (arith, n, min-le_right bytes (min (a.bits / size) (8023 / size)), min-le_right (a.bits / size) (8023 / size));
    }

-- whole bytes of what a count covers
bits_within : (size count n : ℕ) → count ≤ n / size → size * count ≤ n
bits_within size count n le = omega (arith, mul-le-mul_left size le, mul-div-le n size)

sendable_at : (a : Allocation) (size bytes : ℕ) → (b : Bool) → (a.messages == 0) ≡ b → (counters.may_send a size bytes ≤ bytes) × (counters.may_send a size bytes ≤ 8023 / size)
sendable_at a size bytes true z = rw z (omega arith, omega arith)
sendable_at a size bytes false z =
    rw z (
      omega (arith, min-le_left bytes (min (a.bits / size) (8023 / size))),
      omega (arith, min-le_right bytes (min (a.bits / size) (8023 / size)), min-le_right (a.bits / size) (8023 / size)),
    )

-- what an end may send has room in one message, and is there
pub within_message : (e : Entry) (size : ℕ) → e.size ≡ Some size → size * sendable e ≤ 8023
within_message e size z =
    let n : sendable e ≡ counters.may_send e.allocation size (length e.bits / size) = ap (λ (s : Option ℕ). sendable_by s e) z in
    rw n (bits_within size _ 8023 (sendable_at e.allocation size (length e.bits / size) (e.allocation.messages == 0) refl).1)

pub within_bits : (e : Entry) (size : ℕ) → e.size ≡ Some size → size * sendable e ≤ length e.bits
within_bits e size z =
    let n : sendable e ≡ counters.may_send e.allocation size (length e.bits / size) = ap (λ (s : Option ℕ). sendable_by s e) z in
    rw n (bits_within size _ (length e.bits) (sendable_at e.allocation size (length e.bits / size) (e.allocation.messages == 0) refl).0)

-- an end with no bits that wait sends nothing
none_sendable : (e : Entry) → length e.bits ≡ 0 → (size : Option ℕ) → sendable_by size e ≡ 0
none_sendable e z None = refl
none_sendable e z (Some size) =
    let bytes : length e.bits / size ≡ 0 = rw z (zero-div size) in
    omega (arith, bytes, (sendable_at e.allocation size (length e.bits / size) (e.allocation.messages == 0) refl).0)

nothing_waits : (busy : List ℕ) (e : Entry) → length e.bits ≡ 0 → may_send busy e ≡ false
nothing_waits busy e z =
    rw (none_sendable e z e.size) (and_none (not (is_receiving e) && is_open e && is_some e.link && is_answered busy e.link))

-- nor does one without a message left
none_granted : (e : Entry) → (e.allocation.messages == 0) ≡ true → (size : Option ℕ) → sendable_by size e ≡ 0
none_granted e z None = refl
none_granted e z (Some size) = rw z refl

nothing_granted : (busy : List ℕ) (e : Entry) → (e.allocation.messages == 0) ≡ true → may_send busy e ≡ false
nothing_granted busy e z =
    rw (none_granted e z e.size) (and_none (not (is_receiving e) && is_open e && is_some e.link && is_answered busy e.link))

no_turn_by : (busy : List ℕ) (e : Entry) → (waits granted : Bool) → (length e.bits == 0) ≡ waits → (e.allocation.messages == 0) ≡ granted
    → (not waits && not granted) ≡ false → may_send busy e ≡ false
no_turn_by busy e true granted w g h = nothing_waits busy e (eqb-true (length e.bits) 0 w)
no_turn_by busy e false true w g h = nothing_granted busy e g
no_turn_by busy e false false w g h = absurd (cc)

pub no_turn : (busy : List ℕ) (e : Entry) → (not (length e.bits == 0) && not (e.allocation.messages == 0)) ≡ false → may_send busy e ≡ false
no_turn busy e h = no_turn_by busy e (length e.bits == 0) (e.allocation.messages == 0) refl refl h

-- ---- the link of an end

pub on_its_link : (busy : List ℕ) (link : ℕ) (e : Entry) → (link_of e.link == link && may_send busy e) ≡ may_send_on busy link e
on_its_link busy link e = and_turned (link_of e.link == link) (may_send busy e)

-- ---- data

find_step : {A : Type 0} (test : A → Bool) (x y : A) (ys : List A) → (b : Bool) → test y ≡ b → find test (y ∷ ys) ≡ Some x → (find test ys ≡ Some x → test x ≡ true) → test x ≡ true
find_step {A} test x y ys true e h rest = let r : Some y ≡ Some x = rw e at h in sym (ap test (some_is y x r)) ∙ e
find_step {A} test x y ys false e h rest = rest (rw e at h)

find_passes : {A : Type 0} (test : A → Bool) (x : A) (xs : List A) → find test xs ≡ Some x → test x ≡ true
find_passes test x [] h = absurd (cc)
find_passes test x (y ∷ ys) h = find_step test x y ys (test y) refl h (find_passes test x ys)

may_parts : (busy : List ℕ) (e : Entry) → may_send busy e ≡ true → (is_receiving e ≡ false) × (is_open e ≡ true) × (is_some e.link ≡ true) × (is_answered busy e.link ≡ true) × (0 < sendable e)
may_parts busy e h =
    let a : ((not (is_receiving e) && is_open e && is_some e.link && is_answered busy e.link) ≡ true) × (nat_lt 0 (sendable e) ≡ true) = both _ _ h in
    let b : ((not (is_receiving e) && is_open e && is_some e.link) ≡ true) × (is_answered busy e.link ≡ true) = both _ _ a.0 in
    let c : ((not (is_receiving e) && is_open e) ≡ true) × (is_some e.link ≡ true) = both _ _ b.0 in
    let d : (not (is_receiving e) ≡ true) × (is_open e ≡ true) = both _ _ c.0 in
    (not_is (is_receiving e) d.0, d.1, c.1, b.1, ltb-true 0 (sendable e) a.1)

send_by : (q : PairState) (e : Entry) (size : ℕ) → may_send q.busy e ≡ true → e.size ≡ Some size → MaySend q e size (sendable e)
send_by q e size h z =
    let p : (is_receiving e ≡ false) × (is_open e ≡ true) × (is_some e.link ≡ true) × (is_answered q.busy e.link ≡ true) × (0 < sendable e) = may_parts q.busy e h in
    let n : sendable e ≡ counters.may_send e.allocation size (length e.bits / size) = ap (λ (s : Option ℕ). sendable_by s e) z in
    let w : IsWithin e.allocation size (length e.bits / size) (sendable e) = within_by e.allocation size (length e.bits / size) (sendable e) n p.4 (e.allocation.messages == 0) refl in
    record {
      sends = p.0;
      is_opened = p.1;
      linked = p.2;
      answered = p.3;
      bytes = z;
      some = p.4;
      waits = bits_within size (sendable e) (length e.bits) w.waits;
      granted_bits = bits_within size (sendable e) e.allocation.bits w.bits;
      granted_message = w.messages;
      fits = bits_within size (sendable e) 8023 w.fits;
    }

data_by : (q : PairState) (parcel : Parcel) → MaySpeak q → (e : Entry) → may_send q.busy e ≡ true → (o : Option ℕ) → e.size ≡ o → bytes_by e o ≡ Some parcel → MayGo q parcel
data_by q parcel m e h None z g = absurd (cc)
data_by q parcel m e h (Some size) z g = subst (λ (x : Parcel). MayGo q x) (some_is (Bytes e size (sendable e)) parcel g) (m, send_by q e size h z)

data_found : (q : PairState) (parcel : Parcel) → MaySpeak q → (link : ℕ) (o : Option Entry) → find (may_send_on q.busy link) q.entries ≡ o → bytes_of o ≡ Some parcel → MayGo q parcel
data_found q parcel m link None f g = absurd (cc)
data_found q parcel m link (Some e) f g =
    let t : may_send_on q.busy link e ≡ true = find_passes (may_send_on q.busy link) e q.entries f in
    let b : (may_send q.busy e ≡ true) × ((link_of e.link == link) ≡ true) = both _ _ t in
    data_by q parcel m e b.0 e.size refl g

data_on : (q : PairState) (parcel : Parcel) → MaySpeak q → (o : Option ℕ) → bytes_on q.busy q.entries o ≡ Some parcel → MayGo q parcel
data_on q parcel m None g = absurd (cc)
data_on q parcel m (Some link) g = data_found q parcel m link (find (may_send_on q.busy link) q.entries) refl g

-- ---- what goes

command_by : (q : PairState) (parcel : Parcel) → MaySpeak q → (b : Bool) → (nat_lt 0 (length q.queue) && not (is_busy q.busy 0)) ≡ b → next_of_ready q ≡ Some parcel → MayGo q parcel
command_by q parcel m true e g =
    let r : Some (Commands (packed_count q.queue)) ≡ Some parcel = rw e at g in
    let b : (nat_lt 0 (length q.queue) ≡ true) × (not (is_busy q.busy 0) ≡ true) = both _ _ e in
    subst (λ (x : Parcel). MayGo q x) (some_is (Commands (packed_count q.queue)) parcel r) (m, record { answered = not_is (is_busy q.busy 0) b.1; front = refl })
command_by q parcel m false e g =
    let r : next_bytes q.busy q.entries ≡ Some parcel = rw e at g in data_on q parcel m (lowest_link (filter (may_send q.busy) q.entries)) r

silent_by : (busy : List ℕ) (x parcel : Parcel) (b : Bool) → (length busy == 0) ≡ b → if_silent busy x ≡ Some parcel → (busy ≡ []) × (x ≡ parcel)
silent_by busy x parcel true e g = let r : Some x ≡ Some parcel = rw e at g in (none_of busy e, some_is x parcel r)
silent_by busy x parcel false e g = absurd (let r : None ≡ Some parcel = rw e at g in cc)

silent_is : (busy : List ℕ) (x parcel : Parcel) → if_silent busy x ≡ Some parcel → (busy ≡ []) × (x ≡ parcel)
silent_is busy x parcel g = silent_by busy x parcel (length busy == 0) refl g

goes_by : (q : PairState) (parcel : Parcel) (want owed ready : Bool) → is_want q.phase ≡ want → q.owed ≡ owed → is_ready q.phase ≡ ready → next_of q ≡ Some parcel → MayGo q parcel
goes_by q parcel true owed ready w o r g =
    let s : if_silent q.busy Reset ≡ Some parcel = rw w at g in
    let t : (q.busy ≡ []) × (Reset ≡ parcel) = silent_is q.busy Reset parcel s in
    subst (λ (x : Parcel). MayGo q x) t.1 (record { wanted = want_is q.phase w; silent = t.0 })
goes_by q parcel false true ready w o r g =
    let s : if_silent q.busy Reply ≡ Some parcel = rw (w, o) at g in
    let t : (q.busy ≡ []) × (Reply ≡ parcel) = silent_is q.busy Reply parcel s in
    subst (λ (x : Parcel). MayGo q x) t.1 (record { owed = o; unwanted = w; silent = t.0 })
goes_by q parcel false false true w o r g =
    let s : next_of_ready q ≡ Some parcel = rw (w, o, r) at g in
    command_by q parcel (record { ready = ready_is q.phase r; owes = o }) (nat_lt 0 (length q.queue) && not (is_busy q.busy 0)) refl s
goes_by q parcel false false false w o r g = absurd (let s : None ≡ Some parcel = rw (w, o, r) at g in cc)

pub what_goes : (q : PairState) (parcel : Parcel) → next_of q ≡ Some parcel → MayGo q parcel
what_goes q parcel g = goes_by q parcel (is_want q.phase) q.owed (is_ready q.phase) refl refl refl g
