-- The mailboxes that are kept are those of the log, and a crossing finds in them what it needs exactly where it does in the log.
use Rattle.book_judge.proofs.Common.{slice_get_read, get-empty, get-insert, eq_by_cmp, is_eq, Ordering, Less, Equal, Greater, flow_cmp, same_flow, Host, is_host, same_host, Flow, Answer, Crossing, HostMessage, IsSomeRun, StraysAt, Held, Mail}
use Rattle.std.proofs.Common.{◌≡◌, ℕ, ◌+◌, ◌<◌, ◌≤◌, suc, Bool, true, false, not, ◌&&◌, ◌||◌, List, [], ◌∷◌, ◌++◌, length, take, drop, get_or, reverse, Option, Some, None, refl, ap, sym, subst, ◌∙◌, inl, inr, ◌⊎◌, if◌then◌else◌, cond, arith, nat_le, slice_get}
use Rattle.std.proofs.lemmas.Bool.{le-leb, or_right, not_from_false}
use Rattle.std.proofs.lemmas.List.{length-append, length-reverse, length-take-le, reverse-append, reverse-reverse, take-append-drop, take_all, take_more, append_assoc}
use Rattle.std.specs.Cmp.{eq_by_cmp_equiv}
use Rattle.interface.specs.Mailboxes.{Empty, Fits, Box, Waiting, Taken, WaitsWith, fetched, box_of, is_up, up_after_crossing, IsRun}
use Rattle.interface.proofs.lemmas.{both_ways, same_flow-refl, same_flow-true, same_host-refl, same_host-true, exact_flows, flows_total, run_below, not_true}
use Rattle.book_judge.specs.Inside.{same_text, to_itself, mark_in, held_in, fresh}
use Rattle.std.proofs.Math.Seq.{get_or-append_seam}
use Rattle.std.proofs.lemmas.Bool.Decides.{leb_tells}
use Rattle.std.specs.FinMap as fin
use Rattle.interface.specs.declared.crossing.Answer.TheVariants as answer
use Rattle.interface.specs.declared.crossing.Crossing.TheVariants as crossing
use Rattle.book_judge.specs.Inside as tests
use Rattle.book_judge.specs.declared.mail.Held.TheVariants as held
use Rattle.book_judge.specs.declared.mail.Mark.{Mark}
use Rattle.book_judge.proofs.Crossed.SameText.{same_text-is, same_text-true}
use Rattle.book_judge.proofs.Ends.Keys.{is_equal}

-- ---- a run without hosts

-- whether a host is up, where every host is at first
abbrev pub is_on : Host → List Crossing → Bool
is_on h [] = true
is_on h (c ∷ log) = up_after_crossing h c (is_on h log)

-- what a crossing needs, where every host is of the network
abbrev pub FindsIn : Crossing → List Crossing → Type 0
FindsIn (crossing.Out m) log = (is_on m.flow.source log ≡ true) × (box_of m.flow log ≡ Empty)
FindsIn (crossing.In m) log = (is_on m.flow.destination log ≡ true) × WaitsWith (box_of m.flow log) m.text
FindsIn (crossing.Answer kind f) log = (is_on f.source log ≡ true) × Fits kind (box_of f log)
FindsIn (crossing.Down h) log = is_on h log ≡ true
FindsIn (crossing.Up h) log = is_on h log ≡ false

abbrev pub IsFree : List Crossing → Type 0
IsFree [] = Unit {0}
IsFree (c ∷ log) = FindsIn c log × IsFree log

after_on : (h : Host) (c : Crossing) (a b : Bool) → (a ≡ true → b ≡ true) → up_after_crossing h c a ≡ true → up_after_crossing h c b ≡ true
after_on h (crossing.Out m) a b f e = f e
after_on h (crossing.In m) a b f e = f e
after_on h (crossing.Answer kind g) a b f e = f e
after_on h (crossing.Down g) a b f e = by (same_host h g) e where
  by : (t : Bool) → (if t then false else a) ≡ true → (if t then false else b) ≡ true
  by true e = e
  by false e = f e
after_on h (crossing.Up g) a b f e = by (same_host h g) e where
  by : (t : Bool) → (if t then true else a) ≡ true → (if t then true else b) ≡ true
  by true e = e
  by false e = f e

up_on : (hosts : List Host) (h : Host) (log : List Crossing) → is_up hosts h log ≡ true → is_on h log ≡ true
up_on hosts h [] e = refl
up_on hosts h (c ∷ log) e = after_on h c (is_up hosts h log) (is_on h log) (up_on hosts h log) e

up_same : (hosts : List Host) (h : Host) → is_host hosts h ≡ true → (log : List Crossing) → is_up hosts h log ≡ is_on h log
up_same hosts h e [] = e
up_same hosts h e (c ∷ log) = ap (λ (b : Bool). up_after_crossing h c b) (up_same hosts h e log)

free_of_run : (hosts : List Host) (log : List Crossing) → IsRun hosts log → IsFree log
free_of_run hosts [] r = tt
free_of_run hosts (crossing.Out m ∷ log) r = ((up_on hosts m.flow.source log r.0.0, r.0.1), free_of_run hosts log r.1)
free_of_run hosts (crossing.In m ∷ log) r = ((up_on hosts m.flow.destination log r.0.0, r.0.1), free_of_run hosts log r.1)
free_of_run hosts (crossing.Answer kind f ∷ log) r = ((up_on hosts f.source log r.0.0, r.0.1), free_of_run hosts log r.1)
free_of_run hosts (crossing.Down h ∷ log) r = (up_on hosts h log r.0, free_of_run hosts log r.1)
free_of_run hosts (crossing.Up h ∷ log) r = (sym (up_same hosts h r.0.0 log) ∙ r.0.1, free_of_run hosts log r.1)

-- the host at whose interface something crosses
abbrev host_of : Crossing → Host
host_of (crossing.Out m) = m.flow.source
host_of (crossing.In m) = m.flow.destination
host_of (crossing.Answer kind f) = f.source
host_of (crossing.Down h) = h
host_of (crossing.Up h) = h

abbrev hosts_of : List Crossing → List Host
hosts_of [] = []
hosts_of (c ∷ log) = host_of c ∷ hosts_of log

abbrev AreHosts : List Host → List Crossing → Type 0
AreHosts hosts [] = Unit {0}
AreHosts hosts (c ∷ log) = (is_host hosts (host_of c) ≡ true) × AreHosts hosts log

one_more : (h : Host) (hosts : List Host) (log : List Crossing) → AreHosts hosts log → AreHosts (h ∷ hosts) log
one_more h hosts [] a = tt
one_more h hosts (c ∷ log) a = (or_right (same_host (host_of c) h) (is_host hosts (host_of c)) a.0, one_more h hosts log a.1)

are_hosts : (log : List Crossing) → AreHosts (hosts_of log) log
are_hosts [] = tt
are_hosts (c ∷ log) = (rw (same_host-refl (host_of c)) refl, one_more (host_of c) (hosts_of log) log (are_hosts log))

run_of_free : (hosts : List Host) (log : List Crossing) → AreHosts hosts log → IsFree log → IsRun hosts log
run_of_free hosts [] a r = tt
run_of_free hosts (crossing.Out m ∷ log) a r = ((up_same hosts m.flow.source a.0 log ∙ r.0.0, r.0.1), run_of_free hosts log a.1 r.1)
run_of_free hosts (crossing.In m ∷ log) a r = ((up_same hosts m.flow.destination a.0 log ∙ r.0.0, r.0.1), run_of_free hosts log a.1 r.1)
run_of_free hosts (crossing.Answer kind f ∷ log) a r = ((up_same hosts f.source a.0 log ∙ r.0.0, r.0.1), run_of_free hosts log a.1 r.1)
run_of_free hosts (crossing.Down h ∷ log) a r = (up_same hosts h a.0 log ∙ r.0, run_of_free hosts log a.1 r.1)
run_of_free hosts (crossing.Up h ∷ log) a r = ((a.0, up_same hosts h a.0 log ∙ r.0), run_of_free hosts log a.1 r.1)

some_run : (log : List Crossing) → IsFree log → IsSomeRun log
some_run log r = (hosts_of log, run_of_free (hosts_of log) log (are_hosts log) r)

pub free_run : (log : List Crossing) → IsSomeRun log → IsFree log
free_run log r = free_of_run r.0 log r.1

-- ---- maps

alike : (f g : Flow) → eq_by_cmp flow_cmp f g ≡ same_flow f g
alike f g = both_ways (eq_by_cmp flow_cmp f g) (same_flow f g)
    (λ e. let P : Flow → Type 0 = λ x. same_flow f x ≡ true in subst P (exact_flows f g (is_equal (flow_cmp f g) e)) (same_flow-refl f))
    (λ e. let P : Flow → Type 0 = λ x. eq_by_cmp flow_cmp f x ≡ true in subst P (same_flow-true f g e) ((eq_by_cmp_equiv flows_total).refl f))

pub get_set : {V : Type 0} (m : fin.FinMap flow_cmp V) (k : Flow) (v : V) (f : Flow) → fin.get (fin.insert m k v) f ≡ (if same_flow f k then Some v else fin.get m f)
get_set {V} m k v f = get-insert flows_total m k v f ∙ by (eq_by_cmp flow_cmp f k) (same_flow f k) (alike f k) where
  by : (a b : Bool) → a ≡ b → cond a (Some v) (fin.get m f) ≡ (if b then Some v else fin.get m f)
  by true true e = refl
  by false false e = refl
  by true false e = absurd (cc)
  by false true e = absurd (cc)

own_flows : (g h : Host) → same_flow (to_itself g) (to_itself h) ≡ same_host g h
own_flows g h = by (same_host g h) where
  by : (b : Bool) → (b && b && true) ≡ b
  by true = refl
  by false = refl

mark_set : (hosts : fin.FinMap flow_cmp Mark) (k : Host) (m : Mark) (h : Host) → mark_in (fin.insert hosts (to_itself k) m) h ≡ (if same_host h k then m else mark_in hosts h)
mark_set hosts k m h =
    ap (λ (o : Option Mark). tests.mark_or o) (get_set hosts (to_itself k) m (to_itself h) ∙ ap (λ (b : Bool). if b then Some m else fin.get hosts (to_itself h)) (own_flows h k))
    ∙ by (same_host h k) where
      by : (b : Bool) → tests.mark_or (if b then Some m else fin.get hosts (to_itself h)) ≡ (if b then m else mark_in hosts h)
      by true = refl
      by false = refl

-- ---- what is kept

-- a box without its text
abbrev pub noted : Box → Held
noted Empty = held.Empty
noted (Waiting place text) = held.Waiting place
noted (Taken place text) = held.Taken place

abbrev pub IsBelow : ℕ → Option Held → Type 0
IsBelow n None = Unit {0}
IsBelow n (Some held.Empty) = Unit {0}
IsBelow n (Some (held.Waiting place)) = place < n
IsBelow n (Some (held.Taken place)) = place < n

pub record Agrees (s : Mail) (log : List Crossing) : Type 0 where
  pub up : (h : Host) → tests.is_up s h ≡ is_on h log
  pub box : (f : Flow) → held_in s f ≡ noted (box_of f log)
  pub since : (h : Host) → (mark_in s.hosts h).since ≤ length log
  pub places : (f : Flow) → IsBelow (length log) (fin.get s.boxes f)

pub opening_agrees : Agrees tests.opening_mail []
opening_agrees = record {
  up = λ h. ap (λ (o : Option Mark). (tests.mark_or o).up) (get-empty flow_cmp (to_itself h));
  box = λ f. ap (λ (o : Option Held). fresh (mark_in fin.empty f.source).since o) (get-empty flow_cmp f);
  since = λ h. (let e : (mark_in fin.empty h).since ≡ 0 = ap (λ (o : Option Mark). (tests.mark_or o).since) (get-empty flow_cmp (to_itself h)) in omega (arith, e));
  places = λ f. (let P : Option Held → Type 0 = λ o. IsBelow 0 o in subst P (sym (get-empty flow_cmp f)) tt);
}

-- ---- what each crossing changes

not_le : (a b : ℕ) → b < a → nat_le a b ≡ false
not_le a b lt = by (leb_tells a b) where
  by : ((nat_le a b ≡ true) × (a ≤ b)) ⊎ ((nat_le a b ≡ false) × (b < a)) → nat_le a b ≡ false
  by (inl t) = absurd (omega (arith, lt, t.1))
  by (inr t) = t.0

still_fresh : (since place : ℕ) → since ≤ place → fresh since (Some (held.Waiting place)) ≡ held.Waiting place
still_fresh since place le = rw (le-leb since place le) refl

stale : (since : ℕ) (o : Option Held) → IsBelow since o → fresh since o ≡ held.Empty
stale since None b = refl
stale since (Some held.Empty) b = refl
stale since (Some (held.Waiting place)) b = rw (not_le since place b) refl
stale since (Some (held.Taken place)) b = rw (not_le since place b) refl

fresh_taken : (since : ℕ) (o : Option Held) → fresh since (Some (tests.taken (fresh since o))) ≡ tests.taken (fresh since o)
fresh_taken since None = refl
fresh_taken since (Some held.Empty) = refl
fresh_taken since (Some (held.Waiting place)) = by (nat_le since place) refl where
  by : (b : Bool) → nat_le since place ≡ b
      → fresh since (Some (tests.taken (if b then held.Waiting place else held.Empty))) ≡ tests.taken (if b then held.Waiting place else held.Empty)
  by true e = rw e refl
  by false e = refl
fresh_taken since (Some (held.Taken place)) = by (nat_le since place) refl where
  by : (b : Bool) → nat_le since place ≡ b
      → fresh since (Some (tests.taken (if b then held.Taken place else held.Empty))) ≡ tests.taken (if b then held.Taken place else held.Empty)
  by true e = rw e refl
  by false e = refl

noted_fetched : (box : Box) → tests.taken (noted box) ≡ noted (fetched box)
noted_fetched Empty = refl
noted_fetched (Waiting place text) = refl
noted_fetched (Taken place text) = refl

below_more : (n : ℕ) (o : Option Held) → IsBelow n o → IsBelow (suc n) o
below_more n None b = tt
below_more n (Some held.Empty) b = tt
below_more n (Some (held.Waiting place)) b = omega (arith, b)
below_more n (Some (held.Taken place)) b = omega (arith, b)

below_taken : (n since : ℕ) (o : Option Held) → IsBelow n o → IsBelow (suc n) (Some (tests.taken (fresh since o)))
below_taken n since None b = tt
below_taken n since (Some held.Empty) b = tt
below_taken n since (Some (held.Waiting place)) b = by (nat_le since place) where
  by : (t : Bool) → IsBelow (suc n) (Some (tests.taken (if t then held.Waiting place else held.Empty)))
  by true = omega (arith, b)
  by false = tt
below_taken n since (Some (held.Taken place)) b = by (nat_le since place) where
  by : (t : Bool) → IsBelow (suc n) (Some (tests.taken (if t then held.Taken place else held.Empty)))
  by true = omega (arith, b)
  by false = tt

-- one flow has another box, and no host changes
with_box : (s : Mail) (log : List Crossing) (c : Crossing) (k : Flow) (v : Held) → Agrees s log → ((h : Host) → is_on h (c ∷ log) ≡ is_on h log)
    → ((f : Flow) → same_flow f k ≡ true → fresh (mark_in s.hosts f.source).since (Some v) ≡ noted (box_of f (c ∷ log)))
    → ((f : Flow) → same_flow f k ≡ false → box_of f (c ∷ log) ≡ box_of f log)
    → IsBelow (suc (length log)) (Some v) → Agrees (record s { boxes = fin.insert s.boxes k v }) (c ∷ log)
with_box s log c k v a up here other below = record {
  up = λ h. a.up h ∙ sym (up h);
  box = λ f. ap (λ (o : Option Held). fresh (mark_in s.hosts f.source).since o) (get_set s.boxes k v f) ∙ box_at f (same_flow f k) refl;
  since = λ h. omega (arith, a.since h);
  places = λ f. (let P : Option Held → Type 0 = λ o. IsBelow (suc (length log)) o in subst P (sym (get_set s.boxes k v f)) (place_at f (same_flow f k)));
} where
  box_at : (f : Flow) (b : Bool) → same_flow f k ≡ b → fresh (mark_in s.hosts f.source).since (if b then Some v else fin.get s.boxes f) ≡ noted (box_of f (c ∷ log))
  box_at f true e = here f e
  box_at f false e = a.box f ∙ ap (λ (x : Box). noted x) (sym (other f e))

  place_at : (f : Flow) (b : Bool) → IsBelow (suc (length log)) (if b then Some v else fin.get s.boxes f)
  place_at f true = below
  place_at f false = below_more (length log) (fin.get s.boxes f) (a.places f)

out_agrees : (s : Mail) (log : List Crossing) (m : HostMessage) → Agrees s log → Agrees (tests.crossed (length log) (crossing.Out m) s) (crossing.Out m ∷ log)
out_agrees s log m a =
    with_box s log (crossing.Out m) m.flow (held.Waiting (length log)) a (λ h. refl)
    (λ f e. rw e (still_fresh (mark_in s.hosts f.source).since (length log) (a.since f.source)))
    (λ f e. rw e refl)
    (omega arith)

in_agrees : (s : Mail) (log : List Crossing) (m : HostMessage) → Agrees s log → Agrees (tests.crossed (length log) (crossing.In m) s) (crossing.In m ∷ log)
in_agrees s log m a =
    let k : Flow = m.flow in
    let v : Held = tests.taken (held_in s k) in
    let P : Flow → Type 0 = λ f. fresh (mark_in s.hosts f.source).since (Some v) ≡ noted (fetched (box_of f log)) in
    let own : P k = fresh_taken (mark_in s.hosts k.source).since (fin.get s.boxes k) ∙ ap (λ (x : Held). tests.taken x) (a.box k) ∙ noted_fetched (box_of k log) in
    with_box s log (crossing.In m) k v a (λ h. refl)
    (λ f e. rw e (subst P (sym (same_flow-true f k e)) own))
    (λ f e. rw e refl)
    (below_taken (length log) (mark_in s.hosts k.source).since (fin.get s.boxes k) (a.places k))

answer_agrees : (s : Mail) (log : List Crossing) (kind : Answer) (f : Flow) → Agrees s log
    → Agrees (tests.crossed (length log) (crossing.Answer kind f) s) (crossing.Answer kind f ∷ log)
answer_agrees s log kind k a = with_box s log (crossing.Answer kind k) k held.Empty a (λ h. refl) (λ f e. rw e refl) (λ f e. rw e refl) tt

down_agrees : (s : Mail) (log : List Crossing) (k : Host) → Agrees s log → Agrees (tests.crossed (length log) (crossing.Down k) s) (crossing.Down k ∷ log)
down_agrees s log k a = record {
  up = λ h. ap (λ (m : Mark). m.up) (mark_set s.hosts k down h) ∙ up_at h (same_host h k);
  box = λ f. ap (λ (n : ℕ). fresh n (fin.get s.boxes f)) (same_since f.source) ∙ a.box f;
  since = λ h. (let e = same_since h in omega (arith, e, a.since h));
  places = λ f. below_more (length log) (fin.get s.boxes f) (a.places f);
} where
  down : Mark
  down = record { up = false; since = (mark_in s.hosts k).since }

  up_at : (h : Host) (b : Bool) → (if b then down else mark_in s.hosts h).up ≡ (if b then false else is_on h log)
  up_at h true = refl
  up_at h false = a.up h

  since_at : (h : Host) (b : Bool) → same_host h k ≡ b → (if b then down else mark_in s.hosts h).since ≡ (mark_in s.hosts h).since
  since_at h true e = ap (λ (g : Host). (mark_in s.hosts g).since) (sym (same_host-true h k e))
  since_at h false e = refl

  same_since : (h : Host) → (mark_in (fin.insert s.hosts (to_itself k) down) h).since ≡ (mark_in s.hosts h).since
  same_since h = ap (λ (m : Mark). m.since) (mark_set s.hosts k down h) ∙ since_at h (same_host h k) refl

up_agrees : (s : Mail) (log : List Crossing) (k : Host) → Agrees s log → Agrees (tests.crossed (length log) (crossing.Up k) s) (crossing.Up k ∷ log)
up_agrees s log k a = record {
  up = λ h. ap (λ (m : Mark). m.up) (mark_set s.hosts k now h) ∙ up_at h (same_host h k);
  box = λ f. ap (λ (m : Mark). fresh m.since (fin.get s.boxes f)) (mark_set s.hosts k now f.source) ∙ box_at f (same_host f.source k);
  since = λ h. (let P : Mark → Type 0 = λ m. m.since ≤ suc (length log) in subst P (sym (mark_set s.hosts k now h)) (since_at h (same_host h k)));
  places = λ f. below_more (length log) (fin.get s.boxes f) (a.places f);
} where
  now : Mark
  now = record { up = true; since = length log }

  up_at : (h : Host) (b : Bool) → (if b then now else mark_in s.hosts h).up ≡ (if b then true else is_on h log)
  up_at h true = refl
  up_at h false = a.up h

  box_at : (f : Flow) (b : Bool) → fresh (if b then now else mark_in s.hosts f.source).since (fin.get s.boxes f) ≡ noted (if b then Empty else box_of f log)
  box_at f true = stale (length log) (fin.get s.boxes f) (a.places f)
  box_at f false = a.box f

  since_at : (h : Host) (b : Bool) → (if b then now else mark_in s.hosts h).since ≤ suc (length log)
  since_at h true = omega arith
  since_at h false = omega (arith, a.since h)

crossed_agrees : (s : Mail) (log : List Crossing) (c : Crossing) → Agrees s log → Agrees (tests.crossed (length log) c s) (c ∷ log)
crossed_agrees s log (crossing.Out m) a = out_agrees s log m a
crossed_agrees s log (crossing.In m) a = in_agrees s log m a
crossed_agrees s log (crossing.Answer kind f) a = answer_agrees s log kind f a
crossed_agrees s log (crossing.Down h) a = down_agrees s log h a
crossed_agrees s log (crossing.Up h) a = up_agrees s log h a

-- ---- the text that waits

-- what crossed at a place went out with this text
record WentOut (whole : List Crossing) (place : ℕ) (text : List Bool) : Type 0 where
  message : HostMessage
  there : slice_get whole place ≡ Some (crossing.Out message)
  same : message.text ≡ text

at_seam : {X : Type 0} (xs : List X) (y : X) (ys : List X) → slice_get (xs ++ (y ∷ ys)) (length xs) ≡ Some y
at_seam xs y ys =
    slice_get_read (xs ++ (y ∷ ys)) (length (xs ++ (y ∷ ys))) (length xs) y refl (omega (arith, length-append xs (y ∷ ys))) (sym (get_or-append_seam xs y ys y))

-- the crossings, the oldest first, with one more in front of the rest
seam : (c : Crossing) (log rest : List Crossing) → reverse (c ∷ log) ++ rest ≡ reverse log ++ (c ∷ rest)
seam c log rest = ap (λ (zs : List Crossing). zs ++ rest) (reverse-append (c ∷ []) log) ∙ append_assoc (reverse log) (c ∷ []) rest

at_out : (whole log rest : List Crossing) (m : HostMessage) (place : ℕ) (text : List Bool) (box : Box) (b : Bool) → whole ≡ reverse log ++ (crossing.Out m ∷ rest)
    → (box ≡ Waiting place text → WentOut whole place text) → (if b then Waiting (length log) m.text else box) ≡ Waiting place text → WentOut whole place text
at_out whole log rest m place text box true w below e =
    let at : length log ≡ place = cc in
    let here : slice_get (reverse log ++ (crossing.Out m ∷ rest)) (length (reverse log)) ≡ Some (crossing.Out m) = at_seam (reverse log) (crossing.Out m) rest in
    record {
      message = m;
      there = ap (λ (zs : List Crossing). slice_get zs place) w ∙ ap (λ (n : ℕ). slice_get (reverse log ++ (crossing.Out m ∷ rest)) n) (sym at ∙ sym (length-reverse log)) ∙ here;
      same = cc;
    }
at_out whole log rest m place text box false w below e = below e

fetched_waits : (box : Box) (place : ℕ) (text : List Bool) → fetched box ≡ Waiting place text → ⊥
fetched_waits Empty place text e = absurd (cc)
fetched_waits (Waiting p t) place text e = absurd (cc)
fetched_waits (Taken p t) place text e = absurd (cc)

if_fetched : (b : Bool) (box : Box) (place : ℕ) (text : List Bool) → (if b then fetched box else box) ≡ Waiting place text → box ≡ Waiting place text
if_fetched true box place text e = absurd (fetched_waits box place text e)
if_fetched false box place text e = e

if_empty : (b : Bool) (box : Box) (place : ℕ) (text : List Bool) → (if b then Empty else box) ≡ Waiting place text → box ≡ Waiting place text
if_empty true box place text e = absurd (cc)
if_empty false box place text e = e

went_out : (whole log rest : List Crossing) → whole ≡ reverse log ++ rest → (f : Flow) (place : ℕ) (text : List Bool) → box_of f log ≡ Waiting place text → WentOut whole place text
went_out whole [] rest w f place text e = absurd (cc)
went_out whole (crossing.Out m ∷ log) rest w f place text e =
    let w' : whole ≡ reverse log ++ (crossing.Out m ∷ rest) = w ∙ seam (crossing.Out m) log rest in
    at_out whole log rest m place text (box_of f log) (same_flow f m.flow) w' (λ b. went_out whole log (crossing.Out m ∷ rest) w' f place text b) e
went_out whole (crossing.In m ∷ log) rest w f place text e =
    went_out whole log (crossing.In m ∷ rest) (w ∙ seam (crossing.In m) log rest) f place text (if_fetched (same_flow f m.flow) (box_of f log) place text e)
went_out whole (crossing.Answer kind g ∷ log) rest w f place text e =
    went_out whole log (crossing.Answer kind g ∷ rest) (w ∙ seam (crossing.Answer kind g) log rest) f place text (if_empty (same_flow f g) (box_of f log) place text e)
went_out whole (crossing.Down h ∷ log) rest w f place text e =
    went_out whole log (crossing.Down h ∷ rest) (w ∙ seam (crossing.Down h) log rest) f place text e
went_out whole (crossing.Up h ∷ log) rest w f place text e =
    went_out whole log (crossing.Up h ∷ rest) (w ∙ seam (crossing.Up h) log rest) f place text (if_empty (same_host f.source h) (box_of f log) place text e)

-- ---- the tests

-- a test is true exactly where this holds
abbrev Tells : Bool → Type 0 → Type 0
Tells b P = (b ≡ true → P) × (P → b ≡ true)

and_tells : (a up b : Bool) (Q : Type 0) → a ≡ up → Tells b Q → Tells (a && b) ((up ≡ true) × Q)
and_tells true true b Q e t = (λ u. (refl, t.0 u), λ q. t.1 q.1)
and_tells false false b Q e t = (λ u. absurd (cc), λ q. absurd (let n : false ≡ true = q.0 in cc))
and_tells true false b Q e t = absurd (cc)
and_tells false true b Q e t = absurd (cc)

empty_tells : (box : Box) → Tells (tests.is_empty (noted box)) (box ≡ Empty)
empty_tells Empty = (λ u. refl, λ e. refl)
empty_tells (Waiting place text) = (λ u. absurd (cc), λ e. absurd (cc))
empty_tells (Taken place text) = (λ u. absurd (cc), λ e. absurd (cc))

fits_tells : (kind : Answer) (box : Box) → Tells (tests.fits_answer kind (noted box)) (Fits kind box)
fits_tells answer.Rfnm Empty = (λ u. absurd (cc), λ e. absurd e)
fits_tells answer.Incomplete Empty = (λ u. absurd (cc), λ e. absurd e)
fits_tells answer.Dead Empty = (λ u. absurd (cc), λ e. absurd e)
fits_tells answer.NotTaken Empty = (λ u. absurd (cc), λ e. absurd e)
fits_tells answer.Rfnm (Waiting place text) = (λ u. absurd (cc), λ e. absurd e)
fits_tells answer.Incomplete (Waiting place text) = (λ u. tt, λ e. refl)
fits_tells answer.Dead (Waiting place text) = (λ u. tt, λ e. refl)
fits_tells answer.NotTaken (Waiting place text) = (λ u. tt, λ e. refl)
fits_tells answer.Rfnm (Taken place text) = (λ u. tt, λ e. refl)
fits_tells answer.Incomplete (Taken place text) = (λ u. tt, λ e. refl)
fits_tells answer.Dead (Taken place text) = (λ u. absurd (cc), λ e. absurd e)
fits_tells answer.NotTaken (Taken place text) = (λ u. absurd (cc), λ e. absurd e)

waits_tells : (whole : List Crossing) (text : List Bool) (box : Box) → ((place : ℕ) (kept : List Bool) → box ≡ Waiting place kept → WentOut whole place kept)
    → Tells (tests.waits_with (noted box) whole text) (WaitsWith box text)
waits_tells whole text Empty out = (λ u. absurd (cc), λ e. absurd e)
waits_tells whole text (Waiting place kept) out =
    let o : WentOut whole place kept = out place kept refl in
    let says : tests.says (slice_get whole place) text ≡ same_text o.message.text text = ap (λ (x : Option Crossing). tests.says x text) o.there in
    (λ u. sym o.same ∙ same_text-true o.message.text text (sym says ∙ u), λ e. says ∙ same_text-is o.message.text text (o.same ∙ e))
waits_tells whole text (Taken place kept) out = (λ u. absurd (cc), λ e. absurd e)

-- a test of a box
boxed : (test : Held → Bool) (P : Type 0) (h : Held) (box : Box) → h ≡ noted box → Tells (test (noted box)) P → Tells (test h) P
boxed test P h box e t = let F : Held → Type 0 = λ x. Tells (test x) P in subst F (sym e) t

finds_tells : (s : Mail) (whole log rest : List Crossing) → whole ≡ reverse log ++ rest → Agrees s log → (c : Crossing) → Tells (tests.finds s whole c) (FindsIn c log)
finds_tells s whole log rest w a (crossing.Out m) =
    and_tells (tests.is_up s m.flow.source) (is_on m.flow.source log) (tests.is_empty (held_in s m.flow)) (box_of m.flow log ≡ Empty) (a.up m.flow.source)
    (boxed (λ x. tests.is_empty x) (box_of m.flow log ≡ Empty) (held_in s m.flow) (box_of m.flow log) (a.box m.flow) (empty_tells (box_of m.flow log)))
finds_tells s whole log rest w a (crossing.In m) =
    and_tells (tests.is_up s m.flow.destination) (is_on m.flow.destination log) (tests.waits_with (held_in s m.flow) whole m.text) (WaitsWith (box_of m.flow log) m.text) (a.up m.flow.destination)
    (boxed (λ x. tests.waits_with x whole m.text) (WaitsWith (box_of m.flow log) m.text) (held_in s m.flow) (box_of m.flow log) (a.box m.flow)
    (waits_tells whole m.text (box_of m.flow log) (λ place kept e. went_out whole log rest w m.flow place kept e)))
finds_tells s whole log rest w a (crossing.Answer kind f) =
    and_tells (tests.is_up s f.source) (is_on f.source log) (tests.fits_answer kind (held_in s f)) (Fits kind (box_of f log)) (a.up f.source)
    (boxed (λ x. tests.fits_answer kind x) (Fits kind (box_of f log)) (held_in s f) (box_of f log) (a.box f) (fits_tells kind (box_of f log)))
finds_tells s whole log rest w a (crossing.Down h) = (λ u. sym (a.up h) ∙ u, λ e. a.up h ∙ e)
finds_tells s whole log rest w a (crossing.Up h) = (λ u. sym (a.up h) ∙ not_true (tests.is_up s h) u, λ e. not_from_false (tests.is_up s h) (a.up h ∙ e))

-- ---- the search

-- the first crossings of a log, the newest first
abbrev pub first_of : ℕ → List Crossing → List Crossing
first_of n log = reverse (take n log)

first_more : (log : List Crossing) (i : ℕ) (c : Crossing) → i < length log → c ≡ get_or log i c → first_of (i + 1) log ≡ c ∷ first_of i log
first_more log i c lt at =
    ap (λ (zs : List Crossing). reverse zs) (take_more log i c lt) ∙ reverse-append (take i log) (get_or log i c ∷ []) ∙ ap (λ (z : Crossing). z ∷ first_of i log) (sym at)

parted : (log : List Crossing) (i : ℕ) → log ≡ reverse (first_of i log) ++ drop i log
parted log i = sym (take-append-drop i log) ∙ ap (λ (zs : List Crossing). zs ++ drop i log) (sym (reverse-reverse (take i log)))

pub strays : (log : List Crossing) (i : ℕ) (c : Crossing) (s : Mail) → i < length log → c ≡ get_or log i c → Agrees s (first_of i log) → IsFree (first_of i log)
    → tests.finds s log c ≡ false → StraysAt log i
strays log i c s lt at a r lacks = (
  some_run (first_of i log) r,
  λ some.
      (let P : List Crossing → Type 0 = λ zs. IsFree zs in
      let whole : IsFree (c ∷ first_of i log) = subst P (first_more log i c lt at) (free_run (first_of (i + 1) log) some) in
      let found : tests.finds s log c ≡ true = (finds_tells s log (first_of i log) (drop i log) (parted log i) a c).1 whole.0 in
      let n : false ≡ true = sym lacks ∙ found in
      absurd (cc)),
)

pub goes_on : (log : List Crossing) (i : ℕ) (c : Crossing) (s t : Mail) → i < length log → c ≡ get_or log i c → Agrees s (first_of i log) → IsFree (first_of i log)
    → tests.finds s log c ≡ true → t ≡ tests.crossed i c s → Agrees t (first_of (i + 1) log) × IsFree (first_of (i + 1) log)
goes_on log i c s t lt at a r found e =
    let count : length (first_of i log) ≡ i = length-reverse (take i log) ∙ length-take-le i log (omega (arith, lt)) in
    let now : t ≡ tests.crossed (length (first_of i log)) c s = e ∙ ap (λ (n : ℕ). tests.crossed n c s) (sym count) in
    let more : first_of (i + 1) log ≡ c ∷ first_of i log = first_more log i c lt at in
    let A : List Crossing → Type 0 = λ zs. Agrees t zs in
    let B : Mail → Type 0 = λ x. Agrees x (c ∷ first_of i log) in
    let P : List Crossing → Type 0 = λ zs. IsFree zs in (
      subst A (sym more) (subst B (sym now) (crossed_agrees s (first_of i log) c a)),
      subst P (sym more) ((finds_tells s log (first_of i log) (drop i log) (parted log i) a c).0 found, r),
    )

pub whole_run : (log : List Crossing) (i : ℕ) → length log ≤ i → IsFree (first_of i log) → IsSomeRun (reverse log)
whole_run log i le r =
    let P : List Crossing → Type 0 = λ zs. IsFree (reverse zs) in
    some_run (reverse log) (subst P (take_all i log le) r)

-- what is before any place of a run is one
pub run_front : (log : List Crossing) (n : ℕ) → IsSomeRun (reverse log) → IsSomeRun (reverse (take n log))
run_front log n r =
    let all : reverse log ≡ reverse (drop n log) ++ reverse (take n log) = ap (λ (zs : List Crossing). reverse zs) (sym (take-append-drop n log)) ∙ reverse-append (take n log) (drop n log) in
    let P : List Crossing → Type 0 = λ zs. IsRun r.0 zs in
    (r.0, run_below r.0 (reverse (drop n log)) (reverse (take n log)) (subst P all r.1))
