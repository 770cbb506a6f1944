-- The map by flow says what waits, and continues to do so.
use Rattle.leader1822.proofs.Common.{append-nil, false≢true, list_any, empty, get, get-empty, get-insert, get-remove, flow_cmp, IsNamed, texts_of, kinds_of, texts_for, kinds_for, FitsBox, AreTo, AreToldTo, Matches, IsSound, Flow, Answer, Inbound, HostMessage}
use Rattle.std.proofs.Common.{◌≡◌, Bool, true, false, not, ◌&&◌, ◌||◌, List, [], ◌∷◌, ◌++◌, cond, Option, Some, None, IsSome, is_some, refl, ap, sym, subst, ◌∙◌, if◌then◌else◌, inl, inr}
use Rattle.interface.specs.Host.{Host, same_host, is_host, InOrder}
use Rattle.interface.specs.Mailboxes.{Box, same_flow}
use Rattle.leader1822.specs.Boxes.{Boxes, WaitingAnswer, for_host, first_of_list, rest, is_of, is_about, is_rfnm, is_from, is_running, is_busy, is_outstanding, is_unsettled, one_if, offer_refusal, host_refusal, give_up_refusal, next_for, answer_first, inbound_of, inbound_taken, given_up, opening_boxes}
use Rattle.leader1822.specs.Inside.Held.{Flows, Held, pending_of, IsIndexed, IsKept, is_unanswered, put, answer_if, cleared, flows_dead, held_offered, held_taken, held_given_up, held_stopped, held_started}
use Rattle.interface.specs.declared.crossing.Answer.TheVariants as answer
use Rattle.interface.specs.declared.crossing.Inbound.TheVariants as inbound
use Rattle.leader1822.specs.declared.flows.Pending.{Pending}
use Rattle.leader1822.specs.declared.flows.Pending.TheVariants as pending
use Rattle.interface.proofs.lemmas.{and_true, eq_flow, flows_total, same_flow-refl, same_flow-true, same_host-refl, same_host-true}
use Rattle.leader1822.proofs.Waiting.{has_any, any_of, any_about, any_rfnm, none_from, if_same}
use Rattle.leader1822.proofs.ForHost.{for_none}
use Rattle.leader1822.proofs.Sound.{same_fits, fits_empty, Waits, Offerable, offerable, offered_here, offered_there, Runs, runs_here, TakesAnswer, takes_answer, answered_here, answered_there, TakesMessage, takes_message, fetched_here, fetched_there}
use Rattle.leader1822.proofs.SoundEvents.{down_kinds, down_stands, runs_less, Outstanding, outstanding, GivesUp, gives_up, given_here, given_there, stopped_waits, texts_there, kinds_there}
use Rattle.leader1822.proofs.SoundCalls.{first_is, taken_sound}

-- ---- what the map says

pub some_pending : (ts : List (List Bool)) (ks : List Answer) → is_some (pending_of ts ks) ≡ (has_any ts || has_any ks)
some_pending (t ∷ ts) ks = refl
some_pending [] (k ∷ ks) = refl
some_pending [] [] = refl

pub busy : (c : Held) (f : Flow) → IsIndexed c → is_some (get c.flows f) ≡ is_busy c.boxes f
busy c f i =
    ap is_some (i.each f) ∙ some_pending (texts_for c.boxes f) (kinds_for c.boxes f)
    ∙ ap (λ (b : Bool). b || has_any (kinds_for c.boxes f)) (sym (any_of f (for_host c.boxes.messages f.destination)))
    ∙ ap (λ (b : Bool). list_any (is_of f) (for_host c.boxes.messages f.destination) || b) (sym (any_about f (for_host c.boxes.answers f.source)))

single : (k : Answer) → list_any is_rfnm (k ∷ []) ≡ is_rfnm k
single answer.Rfnm = refl
single answer.Incomplete = refl
single answer.Dead = refl
single answer.NotTaken = refl

-- of a flow whose message doesn't wait, at most one answer does
quiet_unanswered : (s d : Bool) (ks : List Answer) (box : Box) → FitsBox s d [] ks box → (b : Bool) → s ≡ b → is_unanswered (pending_of [] ks) ≡ list_any is_rfnm ks
quiet_unanswered s d ks box h false e = let P : List Answer → Type 0 = λ x. is_unanswered (pending_of [] x) ≡ list_any is_rfnm x in subst P (sym (h.shut e)) refl
quiet_unanswered s d ks box h true e = elim (h.told e refl) [
  | inl (none, _) ↦ (let P : List Answer → Type 0 = λ x. is_unanswered (pending_of [] x) ≡ list_any is_rfnm x in subst P (sym none) refl)
  | inr (k, one, fit) ↦ (let P : List Answer → Type 0 = λ x. is_unanswered (pending_of [] x) ≡ list_any is_rfnm x in subst P (sym one) (sym (single k)))
]

unanswered : (s d : Bool) (ts : List (List Bool)) (ks : List Answer) (box : Box) → FitsBox s d ts ks box → is_unanswered (pending_of ts ks) ≡ (has_any ts || list_any is_rfnm ks)
unanswered s d (t ∷ ts) ks box h = refl
unanswered s d [] ks box h = quiet_unanswered s d ks box h s refl

pub outstands : (c : Held) (f : Flow) → IsIndexed c → Matches c.boxes → is_unanswered (get c.flows f) ≡ is_outstanding c.boxes f
outstands c f i k =
    let b = c.boxes in
    ap is_unanswered (i.each f)
    ∙ unanswered (is_running b.hosts b.down f.source) (is_running b.hosts b.down f.destination) (texts_for b f) (kinds_for b f) _ (k.flows f)
    ∙ ap (λ (v : Bool). v || list_any is_rfnm (kinds_for b f)) (sym (any_of f (for_host b.messages f.destination)))
    ∙ ap (λ (v : Bool). list_any (is_of f) (for_host b.messages f.destination) || v) (sym (any_rfnm f (for_host b.answers f.source)))

-- ---- whether a message from a host waits

-- where one host passes, some host does
some_of : (test : Host → Bool) (hosts : List Host) (x : Host) → is_host hosts x ≡ true → test x ≡ true → list_any test hosts ≡ true
some_of test [] x there e = absurd (cc)
some_of test (g ∷ hosts) x there e = by (same_host x g) refl there (some_of test hosts x) where
  by : (v : Bool) → same_host x g ≡ v → (same_host x g || is_host hosts x) ≡ true → (is_host hosts x ≡ true → test x ≡ true → list_any test hosts ≡ true) → list_any test (g ∷ hosts) ≡ true
  by true s h rests = let here : test g ≡ true = ap test (sym (same_host-true x g s)) ∙ e in rw here refl
  by false s h rests = still (test g) (rests (rw s at h) e) where
    still : (v : Bool) → list_any test hosts ≡ true → (v || list_any test hosts) ≡ true
    still true k = refl
    still false k = k

which_of : (test : Host → Bool) (hosts : List Host) → list_any test hosts ≡ true → (x : Host) × (test x ≡ true)
which_of test [] e = absurd (cc)
which_of test (g ∷ hosts) e = by (test g) refl (which_of test hosts) where
  by : (v : Bool) → test g ≡ v → (list_any test hosts ≡ true → (x : Host) × (test x ≡ true)) → (x : Host) × (test x ≡ true)
  by true t rests = (g, t)
  by false t rests = rests (rw t at e)

some_text : (f : Flow) (q : List HostMessage) → has_any (texts_of f q) ≡ true → list_any (is_from f.source) q ≡ true
some_text f q some = by (list_any (is_from f.source) q) refl where
  by : (v : Bool) → list_any (is_from f.source) q ≡ v → list_any (is_from f.source) q ≡ true
  by true e = e
  by false e = absurd (let c : false ≡ true = ap has_any (sym (none_from f q e)) ∙ some in cc)

record IsSent (h g : Host) (q : List HostMessage) : Type 0 where
  pub message : HostMessage
  pub source : message.flow.source ≡ h
  pub destination : message.flow.destination ≡ g
  pub waits : has_any (texts_of message.flow q) ≡ true

which_sent : (h g : Host) (q : List HostMessage) → AreTo g q → list_any (is_from h) q ≡ true → IsSent h g q
which_sent h g [] to some = absurd (cc)
which_sent h g (m ∷ q) to some = by (is_from h m) refl (which_sent h g q to.1) where
  by : (v : Bool) → is_from h m ≡ v → (list_any (is_from h) q ≡ true → IsSent h g q) → IsSent h g (m ∷ q)
  by true t rests = record {
    message = m;
    source = sym (same_host-true h m.flow.source t);
    destination = sym (same_host-true g m.flow.destination to.0);
    waits = rw (same_flow-refl m.flow) refl;
  }
  by false t rests =
      let r : IsSent h g q = rests (rw t at some) in
      record { message = r.message; source = r.source; destination = r.destination; waits = still r.message.flow (is_of r.message.flow m) r.waits } where
        still : (f : Flow) (v : Bool) → has_any (texts_of f q) ≡ true → has_any ((if v then m.text ∷ [] else []) ++ texts_of f q) ≡ true
        still f true k = refl
        still f false k = k

unsettled_if : (c : Held) (h : Host) → IsIndexed c → Matches c.boxes → is_host c.boxes.down h ≡ true → (f : Flow) → f.source ≡ h → IsSome (get c.flows f) → is_unsettled c.boxes h ≡ true
unsettled_if c h i k down f from some =
    let b = c.boxes in
    let stands : is_running b.hosts b.down f.source ≡ false = down_stands b h f.source down (ap (λ (x : Host). same_host x h) from ∙ same_host-refl h) in
    let waits : (has_any (texts_for b f) || has_any (kinds_for b f)) ≡ true = sym (some_pending (texts_for b f) (kinds_for b f)) ∙ ap is_some (sym (i.each f)) ∙ some in
    let text : has_any (texts_for b f) ≡ true = only (has_any (texts_for b f)) (ap (λ (ks : List Answer). has_any (texts_for b f) || has_any ks) (sym ((k.flows f).shut stands)) ∙ waits) in
    elim ((k.flows f).queued) [
      | inl none ↦ absurd (let c : false ≡ true = ap has_any (sym none) ∙ text in cc)
      | inr (t, one, holds, none, there) ↦
          (let known : is_host b.hosts f.destination ≡ true = (and_true (is_host b.hosts f.destination) (not (is_host b.down f.destination)) there).0 in
          some_of (λ g. list_any (is_from h) (for_host b.messages g)) b.hosts f.destination known
          (ap (λ (x : Host). list_any (is_from x) (for_host b.messages f.destination)) (sym from) ∙ some_text f (for_host b.messages f.destination) text))
    ] where
      only : (v : Bool) → (v || false) ≡ true → v ≡ true
      only true e = refl
      only false e = e

settled_if : (c : Held) (h : Host) → IsIndexed c → Matches c.boxes → ((f : Flow) → IsNamed f → f.source ≡ h → get c.flows f ≡ None) → (v : Bool) → is_unsettled c.boxes h ≡ v → is_unsettled c.boxes h ≡ false
settled_if c h i k none false e = e
settled_if c h i k none true e =
    let b = c.boxes in
    let g = which_of (λ x. list_any (is_from h) (for_host b.messages x)) b.hosts e in
    let s : IsSent h g.0 (for_host b.messages g.0) = which_sent h g.0 (for_host b.messages g.0) (k.sent g.0) g.1 in
    let f = s.message.flow in
    let text : has_any (texts_for b f) ≡ true = ap (λ (x : Host). has_any (texts_of f (for_host b.messages x))) s.destination ∙ s.waits in
    let some : IsSome (get c.flows f) = ap is_some (i.each f) ∙ some_pending (texts_for b f) (kinds_for b f) ∙ ap (λ (v : Bool). v || has_any (kinds_for b f)) text in
    absurd (let c : false ≡ true = ap is_some (sym (none f (i.named f some) s.source)) ∙ some in cc)

pub unsettles : (c : Held) (h : Host) (r : Bool) → IsIndexed c → Matches c.boxes → is_host c.boxes.down h ≡ true
    → (r ≡ true → (f : Flow) × (f.source ≡ h) × IsSome (get c.flows f)) → (r ≡ false → (f : Flow) → IsNamed f → f.source ≡ h → get c.flows f ≡ None) → r ≡ is_unsettled c.boxes h
unsettles c h true i k down some none = let f = some refl in sym (unsettled_if c h i k down f.0 f.1 f.2)
unsettles c h false i k down some none = sym (settled_if c h i k (none refl) (is_unsettled c.boxes h) refl)

-- ---- a map in which one flow changes

get_put : (m : Flows) (f : Flow) (o : Option Pending) (g : Flow) → get (put m f o) g ≡ cond (same_flow g f) o (get m g)
get_put m f None g = get-remove flows_total m f g ∙ ap (λ (b : Bool). cond b None (get m g)) (eq_flow g f)
get_put m f (Some p) g = get-insert flows_total m f p g ∙ ap (λ (b : Bool). cond b (Some p) (get m g)) (eq_flow g f)

pub changed : (c : Held) (new : Boxes) (f : Flow) (o : Option Pending) → IsIndexed c → (IsSome o → IsNamed f) → pending_of (texts_for new f) (kinds_for new f) ≡ o
    → ((g : Flow) → same_flow g f ≡ false → Waits new g (texts_for c.boxes g) (kinds_for c.boxes g)) → IsIndexed (record { boxes = new; flows = put c.flows f o })
changed c new f o i known here there = record { each = λ g. each g (same_flow g f) refl; named = λ g. named g (same_flow g f) refl } where
  each : (g : Flow) (b : Bool) → same_flow g f ≡ b → get (put c.flows f o) g ≡ pending_of (texts_for new g) (kinds_for new g)
  each g true e =
      let P : Flow → Type 0 = λ x. get (put c.flows f o) x ≡ pending_of (texts_for new x) (kinds_for new x) in
      subst P (sym (same_flow-true g f e)) (get_put c.flows f o f ∙ ap (λ (b : Bool). cond b o (get c.flows f)) (same_flow-refl f) ∙ sym here)
  each g false e =
      let w = there g e in
      get_put c.flows f o g ∙ ap (λ (b : Bool). cond b o (get c.flows g)) e ∙ i.each g
      ∙ sym (ap (λ (ts : List (List Bool)). pending_of ts (kinds_for new g)) w.texts ∙ ap (pending_of (texts_for c.boxes g)) w.kinds)

  named : (g : Flow) (b : Bool) → same_flow g f ≡ b → IsSome (get (put c.flows f o) g) → IsNamed g
  named g true e some =
      let o_some : IsSome o = sym (ap is_some (get_put c.flows f o g ∙ ap (λ (b : Bool). cond b o (get c.flows g)) e)) ∙ some in
      subst IsNamed (sym (same_flow-true g f e)) (known o_some)
  named g false e some = i.named g (sym (ap is_some (get_put c.flows f o g ∙ ap (λ (b : Bool). cond b o (get c.flows g)) e)) ∙ some)

-- ---- the calls

put_text : (d : Bool) (t : List Bool) → pending_of (one_if d t) (one_if (not d) answer.Dead) ≡ Some (if d then pending.Message else pending.Answer answer.Dead)
put_text true t = refl
put_text false t = refl

pub offered_indexed : (c : Held) (m : HostMessage) → IsIndexed c → offer_refusal c.boxes m.flow ≡ None → IsNamed m.flow → IsIndexed (held_offered c m)
offered_indexed c m i none known =
    let b = c.boxes in
    let d = is_running b.hosts b.down m.flow.destination in
    let o : Offerable b m.flow = offerable b m.flow none in
    let w = offered_here b m o in
    let new : Boxes = (held_offered c m).boxes in
    changed c new m.flow (Some (if d then pending.Message else pending.Answer answer.Dead)) i (λ some. known)
    (ap (λ (ts : List (List Bool)). pending_of ts (kinds_for new m.flow)) w.texts ∙ ap (pending_of (one_if d m.text)) w.kinds ∙ put_text d m.text)
    (λ g e. offered_there b m g e)

put_answer : (s : Bool) (k : Answer) → pending_of [] (one_if s k) ≡ answer_if s k
put_answer true k = refl
put_answer false k = refl

-- a flow of which something waits can be named
some_waits : (c : Held) (f : Flow) → IsIndexed c → (has_any (texts_for c.boxes f) || has_any (kinds_for c.boxes f)) ≡ true → IsNamed f
some_waits c f i e = i.named f (ap is_some (i.each f) ∙ some_pending (texts_for c.boxes f) (kinds_for c.boxes f) ∙ e)

taken_by : (c : Held) (h : Host) → IsIndexed c → Matches c.boxes → Runs c.boxes h → (told : Option WaitingAnswer) (sent : Option HostMessage)
    → first_of_list (for_host c.boxes.answers h) ≡ told → first_of_list (for_host c.boxes.messages h) ≡ sent → IsIndexed (held_taken c h (answer_first told sent))
taken_by c h i k r (Some a) sent e f =
    let b = c.boxes in
    let left = rest (for_host b.answers h) in
    let whole : for_host b.answers h ≡ a ∷ left = first_is (for_host b.answers h) a e in
    let t : TakesAnswer b h a left = takes_answer b h a left k r.host whole in
    let w = answered_here b h a left whole t in
    let new : Boxes = inbound_taken b h (Some (inbound_of a)) in
    changed c new a.1 None i (λ some. absurd (false≢true some))
    (ap (λ (ts : List (List Bool)). pending_of ts (kinds_for new a.1)) w.texts ∙ ap (pending_of []) w.kinds)
    (λ g o. answered_there b h a left whole g o)
taken_by c h i k r None (Some m) e f =
    let b = c.boxes in
    let left = rest (for_host b.messages h) in
    let whole : for_host b.messages h ≡ m ∷ left = first_is (for_host b.messages h) m f in
    let t : TakesMessage b h m left = takes_message b h m left k whole in
    let w = fetched_here b h m left whole t in
    let s = is_running b.hosts b.down m.flow.source in
    let new : Boxes = inbound_taken b h (Some (inbound.Message m)) in
    changed c new m.flow (answer_if s answer.Rfnm) i (λ some. some_waits c m.flow i (ap (λ (ts : List (List Bool)). has_any ts || has_any (kinds_for b m.flow)) t.all))
    (ap (λ (ts : List (List Bool)). pending_of ts (kinds_for new m.flow)) w.texts ∙ ap (pending_of []) w.kinds ∙ put_answer s answer.Rfnm)
    (λ g o. fetched_there b h m left whole g o)
taken_by c h i k r None None e f = i

taken_indexed : (c : Held) (h : Host) → IsIndexed c → IsSound c.boxes → host_refusal c.boxes h ≡ None → IsIndexed (held_taken c h (next_for c.boxes h))
taken_indexed c h i s none =
    let r : Runs c.boxes h = runs_here c.boxes h none in
    taken_by c h i (s.matches r.running) r (first_of_list (for_host c.boxes.answers h)) (first_of_list (for_host c.boxes.messages h)) refl refl

any_kind : (ks : List Answer) → list_any is_rfnm ks ≡ true → has_any ks ≡ true
any_kind [] e = e
any_kind (k ∷ ks) e = refl

either : (a v w : Bool) → (v ≡ true → w ≡ true) → (a || v) ≡ true → (a || w) ≡ true
either true v w f e = refl
either false v w f e = f e

pub given_indexed : (c : Held) (f : Flow) → IsIndexed c → IsSound c.boxes → give_up_refusal c.boxes f ≡ None → IsIndexed (held_given_up c f)
given_indexed c f i s none =
    let b = c.boxes in
    let o : Outstanding b f = outstanding b f none in
    let k : Matches b = s.matches o.running in
    let t = not (is_host b.down f.source) in
    let w = given_here b f in
    let new : Boxes = given_up b f in
    let g : GivesUp (is_running b.hosts b.down f.source) (kinds_for b f) _ =
    gives_up (is_running b.hosts b.down f.source) (is_running b.hosts b.down f.destination) (texts_for b f) (kinds_for b f) _ (k.flows f) o.busy in
    changed c new f (answer_if t answer.Incomplete) i
    (λ some. some_waits c f i (either (has_any (texts_for b f)) (list_any is_rfnm (kinds_for b f)) (has_any (kinds_for b f)) (any_kind (kinds_for b f)) o.busy))
    (ap (λ (ts : List (List Bool)). pending_of ts (kinds_for new f)) w.texts ∙ ap (pending_of []) w.kinds
    ∙ ap (λ (ks : List Answer). pending_of [] (ks ++ one_if t answer.Incomplete)) g.rest ∙ put_answer t answer.Incomplete)
    (λ x e. given_there b f x e)

-- ---- a host that goes down

get_cleared : (m : Flows) (xs : List WaitingAnswer) (g : Flow) → get (cleared m xs) g ≡ (if has_any (kinds_of g xs) then None else get m g)
get_cleared m [] g = refl
get_cleared m (a ∷ xs) g =
    get_cleared (put m a.1 None) xs g ∙ ap (λ (o : Option Pending). if has_any (kinds_of g xs) then None else o) (get_put m a.1 None g) ∙ by (is_about g a) refl where
      by : (b : Bool) → is_about g a ≡ b → (if has_any (kinds_of g xs) then None else cond (same_flow g a.1) None (get m g)) ≡ (if has_any (kinds_of g (a ∷ xs)) then None else get m g)
      by true e = rw e (sym (if_same (has_any (kinds_of g xs))))
      by false e = rw e refl

get_turned : (hosts down : List Host) (m : Flows) (ms : List HostMessage) (g : Flow)
    → get (flows_dead hosts down m ms) g ≡ (if has_any (texts_of g ms) then answer_if (is_running hosts down g.source) answer.Dead else get m g)
get_turned hosts down m [] g = refl
get_turned hosts down m (x ∷ ms) g =
    let o = answer_if (is_running hosts down x.flow.source) answer.Dead in
    get_turned hosts down (put m x.flow o) ms g
    ∙ ap (λ (v : Option Pending). if has_any (texts_of g ms) then answer_if (is_running hosts down g.source) answer.Dead else v) (get_put m x.flow o g) ∙ by (is_of g x) refl where
      by : (b : Bool) → is_of g x ≡ b
          → (if has_any (texts_of g ms) then answer_if (is_running hosts down g.source) answer.Dead else cond (same_flow g x.flow) (answer_if (is_running hosts down x.flow.source) answer.Dead) (get m g))
          ≡ (if has_any (texts_of g (x ∷ ms)) then answer_if (is_running hosts down g.source) answer.Dead else get m g)
      by true e =
          let same : answer_if (is_running hosts down x.flow.source) answer.Dead ≡ answer_if (is_running hosts down g.source) answer.Dead =
          ap (λ (f : Flow). answer_if (is_running hosts down f.source) answer.Dead) (sym (same_flow-true g x.flow e)) in
          rw e (alike (has_any (texts_of g ms)) (answer_if (is_running hosts down g.source) answer.Dead) (answer_if (is_running hosts down x.flow.source) answer.Dead) same) where
            alike : (v : Bool) (p q : Option Pending) → q ≡ p → (if v then p else q) ≡ p
            alike true p q e = refl
            alike false p q e = e
      by false e = rw e refl

-- what the map says of a flow when its source (a) or its destination (b) goes down
abbrev left_pending : Bool → Bool → Bool → List (List Bool) → List Answer → Option Pending
left_pending a b s ts ks = if has_any (if b then ts else []) then answer_if (if a then false else s) answer.Dead else (if has_any (if a then ks else []) then None else pending_of ts ks)

one_text : (a b s : Bool) (t : List Bool) → left_pending a b s (t ∷ []) [] ≡ pending_of (if b then [] else t ∷ []) (down_kinds a b s (t ∷ []) [])
one_text true true s t = refl
one_text true false s t = refl
one_text false true true t = refl
one_text false true false t = refl
one_text false false true t = refl
one_text false false false t = refl

no_text : (a b s : Bool) (ks : List Answer) → left_pending a b s [] ks ≡ pending_of (if b then [] else []) (down_kinds a b s [] ks)
no_text true true s [] = refl
no_text true true s (k ∷ ks) = refl
no_text true false s [] = refl
no_text true false s (k ∷ ks) = refl
no_text false true true ks = ap (pending_of []) (sym (append-nil ks))
no_text false true false ks = ap (pending_of []) (sym (append-nil ks))
no_text false false true ks = ap (pending_of []) (sym (append-nil ks))
no_text false false false ks = ap (pending_of []) (sym (append-nil ks))

down_pending : (a b s d : Bool) (ts : List (List Bool)) (ks : List Answer) (box : Box) → FitsBox s d ts ks box → left_pending a b s ts ks ≡ pending_of (if b then [] else ts) (down_kinds a b s ts ks)
down_pending a b s d ts ks box h =
    let P : List (List Bool) → List Answer → Type 0 = λ x y. left_pending a b s x y ≡ pending_of (if b then [] else x) (down_kinds a b s x y) in
    elim h.queued [
      | inl none ↦ subst (λ x. P x ks) (sym none) (no_text a b s ks)
      | inr (t, one, holds, none, there) ↦ subst (λ x. P x ks) (sym one) (subst (λ y. P (t ∷ []) y) (sym none) (one_text a b s t))
    ]

stopped_each : (c : Held) (h : Host) → IsIndexed c → Matches c.boxes → (g : Flow)
    → get (held_stopped c h).flows g ≡ pending_of (if same_host g.destination h then [] else texts_for c.boxes g)
    (down_kinds (same_host g.source h) (same_host g.destination h) (is_running c.boxes.hosts c.boxes.down g.source) (texts_for c.boxes g) (kinds_for c.boxes g))
stopped_each c h i k g =
    let b = c.boxes in
    let x = same_host g.source h in
    let y = same_host g.destination h in
    let s = is_running b.hosts b.down g.source in
    let xs = for_host b.answers h in
    let ms = for_host b.messages h in
    get_turned b.hosts (b.down ++ h ∷ []) (cleared c.flows xs) ms g
    ∙ ap (λ (o : Option Pending). if has_any (texts_of g ms) then answer_if (is_running b.hosts (b.down ++ h ∷ []) g.source) answer.Dead else o) (get_cleared c.flows xs g)
    ∙ ap (λ (ts : List (List Bool)). if has_any ts then answer_if (is_running b.hosts (b.down ++ h ∷ []) g.source) answer.Dead else (if has_any (kinds_of g xs) then None else get c.flows g)) (texts_there b h g k y refl)
    ∙ ap (λ (v : Bool). if has_any (if y then texts_for b g else []) then answer_if v answer.Dead else (if has_any (kinds_of g xs) then None else get c.flows g)) (runs_less b.hosts b.down h g.source)
    ∙ ap (λ (ks : List Answer). if has_any (if y then texts_for b g else []) then answer_if (if x then false else s) answer.Dead else (if has_any ks then None else get c.flows g)) (kinds_there b h g k x refl)
    ∙ ap (λ (o : Option Pending). if has_any (if y then texts_for b g else []) then answer_if (if x then false else s) answer.Dead else (if has_any (if x then kinds_for b g else []) then None else o)) (i.each g)
    ∙ down_pending x y s (is_running b.hosts b.down g.destination) (texts_for b g) (kinds_for b g) _ (k.flows g)

-- if something waits of a flow then, something waited of it before
still_waits : (a b s : Bool) (ts : List (List Bool)) (ks : List Answer) → IsSome (pending_of (if b then [] else ts) (down_kinds a b s ts ks)) → IsSome (pending_of ts ks)
still_waits a b s (t ∷ ts) ks some = refl
still_waits a b s [] (k ∷ ks) some = refl
still_waits true true s [] [] some = some
still_waits true false s [] [] some = some
still_waits false true true [] [] some = some
still_waits false true false [] [] some = some
still_waits false false true [] [] some = some
still_waits false false false [] [] some = some

pub stopped_indexed : (c : Held) (h : Host) → IsIndexed c → IsSound c.boxes → host_refusal c.boxes h ≡ None → IsIndexed (held_stopped c h)
stopped_indexed c h i s none =
    let b = c.boxes in
    let r : Runs b h = runs_here b h none in
    let k : Matches b = s.matches r.running in
    let new : Boxes = (held_stopped c h).boxes in
    record {
      each = λ g. (let w = stopped_waits b h k g in
          stopped_each c h i k g ∙ sym (ap (λ (ts : List (List Bool)). pending_of ts (kinds_for new g)) w.texts ∙ ap (pending_of (if same_host g.destination h then [] else texts_for b g)) w.kinds));
      named = λ g some. i.named g (ap is_some (i.each g)
          ∙ still_waits (same_host g.source h) (same_host g.destination h) (is_running b.hosts b.down g.source) (texts_for b g) (kinds_for b g) (sym (ap is_some (stopped_each c h i k g)) ∙ some));
    }

pub started_indexed : (c : Held) (h : Host) → IsIndexed c → IsIndexed (held_started c h)
started_indexed c h i = record { each = i.each; named = i.named }

-- ---- the boxes themselves

pub same_boxes : (c : Held) (h : Host) (o : Option Inbound) → (held_taken c h o).boxes ≡ inbound_taken c.boxes h o
same_boxes c h None = refl
same_boxes c h (Some (inbound.Answer kind f)) = refl
same_boxes c h (Some (inbound.Message m)) = refl

pub taken_kept : (c : Held) (h : Host) → IsKept c → host_refusal c.boxes h ≡ None → IsKept (held_taken c h (next_for c.boxes h))
taken_kept c h k none =
    let same : (held_taken c h (next_for c.boxes h)).boxes ≡ inbound_taken c.boxes h (next_for c.boxes h) = same_boxes c h (next_for c.boxes h) in
    record {
      sound = subst IsSound (sym same) (taken_sound c.boxes h k.sound none);
      indexed = λ running. taken_indexed c h (k.indexed (runs_here c.boxes h none).running) k.sound none;
    }

both_up : (v : Bool) → v ≡ (v && true)
both_up true = refl
both_up false = refl

-- boxes between hosts that are all up, with nothing in transit
pub opening_kept : (hosts : List Host) → InOrder hosts → IsKept (record { boxes = opening_boxes hosts; flows = empty })
opening_kept hosts order =
    let b : Boxes = opening_boxes hosts in
    let texts : (f : Flow) → texts_for b f ≡ [] = λ f. ap (texts_of f) (for_none f.destination) in
    let kinds : (f : Flow) → kinds_for b f ≡ [] = λ f. ap (kinds_of f) (for_none f.source) in
    record {
      sound = record {
        ordered = order;
        run = tt;
        matches = λ running. record {
          up = λ h. both_up (is_host hosts h);
          flows = λ f. same_fits refl refl (texts f) (kinds f) refl (fits_empty (is_running hosts [] f.source) (is_running hosts [] f.destination));
          sent = λ h. subst (AreTo h) (sym (for_none h)) tt;
          told = λ h. subst (AreToldTo h) (sym (for_none h)) tt;
        };
      };
      indexed = λ running. record {
        each = λ f. get-empty flow_cmp f ∙ sym (ap (λ (ts : List (List Bool)). pending_of ts (kinds_for b f)) (texts f) ∙ ap (pending_of []) (kinds f));
        named = λ f some. absurd (false≢true (sym (ap is_some (get-empty flow_cmp f)) ∙ some));
      };
    }
