-- The law of resets has the mailboxes, the hosts that are up and the places that the crossings have.
use Rattle.net_sim.proofs.Common.{◌≡◌, ◌⊎◌, inl, inr, ℕ, ◌+◌, Bool, true, false, ◌&&◌, ◌==◌, if◌then◌else◌, List, [], ◌∷◌, length, refl, ap, sym, subst, ◌∙◌, arith, eqb-true, Host, same_host, Flow, Answer, Crossing, Request, Box, Waiting, WaitsWith, Fits, posted, boxes, Contact, Idle, when, place, Needs, contacts_asked, message_on, event_of, event_by, Moment, Crossed, Asked, places, events_of, crossings_of, seen_box}
use Rattle.interface.specs.Mailboxes as mail
use Rattle.interface.specs.declared.crossing.Answer.TheVariants as answer
use Rattle.interface.specs.declared.crossing.Crossing.TheVariants as crossing
use Rattle.sockets.specs.declared.request.Request.TheVariants as request
use Rattle.reset_law.specs.Boxes.{Put, Fetch, Clear, ClearAll, fetched}
use Rattle.reset_law.specs.Events.{Event, are, is_up}

-- ---- what a user asks for is a contact, or nothing to a reset

abbrev pub IsQuiet : Host → ℕ → Request → Type 0
IsQuiet h here r = (event_by h r ≡ Idle) × (contacts_asked h here r ≡ [])

pub contact_or : (h : Host) (here : ℕ) (r : Request) → ((peer : Host) × (r ≡ request.Contact peer)) ⊎ IsQuiet h here r
contact_or h here (request.Contact peer) = inl (peer, refl)
contact_or h here r = inr (refl, refl)

-- what holds of every contact and where nothing happens, holds of what a user asks for
pub by_request : (P : Event → Type 0) (h : Host) (r : Request) → ((peer : Host) → P (Contact h peer)) → P Idle → P (event_by h r)
by_request P h r contact idle = elim (contact_or h 0 r) [
  | inl c ↦ subst (λ (x : Request). P (event_by h x)) (sym c.1) (contact c.0)
  | inr q ↦ subst P (sym q.0) idle
]

-- ---- places and hosts that are up

pub place_by : (c : Crossing) (events : List Event) → place (event_of c ∷ events) ≡ 1 + place events
place_by (crossing.Out m) events = refl
place_by c events = refl

pub place_same : (moments : List Moment) → place (events_of moments) ≡ length (crossings_of moments)
place_same [] = refl
place_same (Crossed c ∷ moments) = omega (arith, place_by c (events_of moments), place_same moments)
place_same (Asked h r ∷ moments) = by_request (λ e. place (e ∷ events_of moments) ≡ length (crossings_of moments)) h r (λ peer. place_same moments) (place_same moments)

pub places_same : (moments : List Moment) → places moments ≡ length (crossings_of moments)
places_same [] = refl
places_same (Crossed c ∷ moments) = omega (arith, places_same moments)
places_same (Asked h r ∷ moments) = places_same moments

up_by : (hosts : List Host) (h : Host) (c : Crossing) (events : List Event) (log : List Crossing) → is_up hosts h events ≡ mail.is_up hosts h log → is_up hosts h (event_of c ∷ events) ≡ mail.is_up hosts h (c ∷ log)
up_by hosts h (crossing.Down g) events log e = ap (λ (up : Bool). if same_host h g then false else up) e
up_by hosts h (crossing.Up g) events log e = ap (λ (up : Bool). if same_host h g then true else up) e
up_by hosts h c events log e = e

pub up_same : (hosts : List Host) (h : Host) (moments : List Moment) → is_up hosts h (events_of moments) ≡ mail.is_up hosts h (crossings_of moments)
up_same hosts h [] = refl
up_same hosts h (Crossed c ∷ moments) = up_by hosts h c (events_of moments) (crossings_of moments) (up_same hosts h moments)
up_same hosts h (Asked g r ∷ moments) = by_request (λ e. is_up hosts h (e ∷ events_of moments) ≡ mail.is_up hosts h (crossings_of moments)) g r (λ peer. up_same hosts h moments) (up_same hosts h moments)

-- ---- boxes

abbrev pub flow_of : Host → Host → ℕ → Flow
flow_of a b link = record { source = a; destination = b; link = record { 0 = link } }

seen_fetched : (link : ℕ) (box : mail.Box) → fetched (seen_box link box) ≡ seen_box link (mail.fetched box)
seen_fetched link mail.Empty = refl
seen_fetched link (mail.Waiting place text) = refl
seen_fetched link (mail.Taken place text) = refl

-- all links of a pair of hosts
abbrev pub SameBoxes : (ℕ → Box) → (ℕ → mail.Box) → Type 0
SameBoxes bs ms = (k : ℕ) → bs k ≡ seen_box k (ms k)

out_by : (here there link k : ℕ) (text : List Bool) (bs : ℕ → Box) (ms : ℕ → mail.Box) → here ≡ there → SameBoxes bs ms → (b c : Bool) → (k == link) ≡ c
    → posted here (when b (Put link (message_on link text))) bs k ≡ seen_box k (if b && (k == link) then mail.Waiting there text else ms k)
out_by here there link k text bs ms e h true true f =
    rw f (ap (λ (n : ℕ). Waiting n (message_on link text)) e ∙ ap (λ (n : ℕ). Waiting there (message_on n text)) (sym (eqb-true k link f)))
out_by here there link k text bs ms e h true false f = rw f (h k)
out_by here there link k text bs ms e h false c f = h k

in_by : (here link k : ℕ) (bs : ℕ → Box) (ms : ℕ → mail.Box) → SameBoxes bs ms → (b c : Bool) → (k == link) ≡ c
    → posted here (when b (Fetch link)) bs k ≡ seen_box k (if b && (k == link) then mail.fetched (ms k) else ms k)
in_by here link k bs ms h true true f =
    rw f (ap (λ (n : ℕ). fetched (bs n)) (sym (eqb-true k link f)) ∙ ap fetched (h k) ∙ seen_fetched k (ms k))
in_by here link k bs ms h true false f = rw f (h k)
in_by here link k bs ms h false c f = h k

clear_by : (here link k : ℕ) (bs : ℕ → Box) (ms : ℕ → mail.Box) → SameBoxes bs ms → (b c : Bool) → (k == link) ≡ c
    → posted here (when b (Clear link)) bs k ≡ seen_box k (if b && (k == link) then mail.Empty else ms k)
clear_by here link k bs ms h true true f = rw f refl
clear_by here link k bs ms h true false f = rw f (h k)
clear_by here link k bs ms h false c f = h k

up_clears : (here k : ℕ) (bs : ℕ → Box) (ms : ℕ → mail.Box) → SameBoxes bs ms → (b : Bool) → posted here (when b ClearAll) bs k ≡ seen_box k (if b then mail.Empty else ms k)
up_clears here k bs ms h true = refl
up_clears here k bs ms h false = h k

-- one crossing more
pub box_step : (a b : Host) (c : Crossing) (events : List Event) (log : List Crossing) → place events ≡ length log → SameBoxes (boxes a b events) (λ k. mail.box_of (flow_of a b k) log)
    → SameBoxes (boxes a b (event_of c ∷ events)) (λ k. mail.box_of (flow_of a b k) (c ∷ log))
box_step a b (crossing.Out m) events log at h k =
    out_by (place events) (length log) m.flow.link.0 k m.text (boxes a b events) (λ l. mail.box_of (flow_of a b l) log) at h (are a b m.flow.source m.flow.destination) (k == m.flow.link.0) refl
box_step a b (crossing.In m) events log at h k =
    in_by (place events) m.flow.link.0 k (boxes a b events) (λ l. mail.box_of (flow_of a b l) log) h (are a b m.flow.source m.flow.destination) (k == m.flow.link.0) refl
box_step a b (crossing.Answer kind f) events log at h k =
    clear_by (place events) f.link.0 k (boxes a b events) (λ l. mail.box_of (flow_of a b l) log) h (are a b f.source f.destination) (k == f.link.0) refl
box_step a b (crossing.Down g) events log at h k = h k
box_step a b (crossing.Up g) events log at h k = up_clears (place events) k (boxes a b events) (λ l. mail.box_of (flow_of a b l) log) h (same_host a g)

pub box_same : (a b : Host) (moments : List Moment) (k : ℕ) → boxes a b (events_of moments) k ≡ seen_box k (mail.box_of (flow_of a b k) (crossings_of moments))
box_same a b [] k = refl
box_same a b (Crossed c ∷ moments) k = box_step a b c (events_of moments) (crossings_of moments) (place_same moments) (box_same a b moments) k
box_same a b (Asked h r ∷ moments) k =
    by_request (λ e. boxes a b (e ∷ events_of moments) k ≡ seen_box k (mail.box_of (flow_of a b k) (crossings_of moments))) h r (λ peer. box_same a b moments k) (box_same a b moments k)

-- ---- what the mailboxes need

seen_waits : (link : ℕ) (box : mail.Box) (text : List Bool) → mail.WaitsWith box text → WaitsWith (seen_box link box) (message_on link text)
seen_waits link mail.Empty text h = h
seen_waits link (mail.Waiting place kept) text h = ap (λ (t : List Bool). message_on link t) h
seen_waits link (mail.Taken place kept) text h = h

seen_fits : (link : ℕ) (kind : Answer) (box : mail.Box) → mail.Fits kind box → Fits kind (seen_box link box)
seen_fits link answer.Rfnm mail.Empty h = h
seen_fits link answer.Rfnm (mail.Waiting place text) h = h
seen_fits link answer.Rfnm (mail.Taken place text) h = h
seen_fits link answer.Dead (mail.Waiting place text) h = h
seen_fits link answer.Dead (mail.Taken place text) h = h
seen_fits link answer.Incomplete (mail.Waiting place text) h = h
seen_fits link answer.Incomplete (mail.Taken place text) h = h
seen_fits link answer.NotTaken (mail.Waiting place text) h = h
seen_fits link answer.NotTaken (mail.Taken place text) h = h
seen_fits link kind mail.Empty h = h

pub needs_same : (hosts : List Host) (c : Crossing) (moments : List Moment) → mail.Needs hosts c (crossings_of moments) → Needs hosts (event_of c) (events_of moments)
needs_same hosts (crossing.Out m) moments n =
    (up_same hosts m.flow.source moments ∙ n.0, box_same m.flow.source m.flow.destination moments m.flow.link.0 ∙ ap (seen_box m.flow.link.0) n.1)
needs_same hosts (crossing.In m) moments n = (
  up_same hosts m.flow.destination moments ∙ n.0,
  subst (λ (x : Box). WaitsWith x (message_on m.flow.link.0 m.text)) (sym (box_same m.flow.source m.flow.destination moments m.flow.link.0)) (seen_waits m.flow.link.0 (mail.box_of m.flow (crossings_of moments)) m.text n.1),
)
needs_same hosts (crossing.Answer kind f) moments n = (
  up_same hosts f.source moments ∙ n.0,
  subst (λ (x : Box). Fits kind x) (sym (box_same f.source f.destination moments f.link.0)) (seen_fits f.link.0 kind (mail.box_of f (crossings_of moments)) n.1),
)
needs_same hosts (crossing.Down h) moments n = up_same hosts h moments ∙ n
needs_same hosts (crossing.Up h) moments n = (n.0, up_same hosts h moments ∙ n.1)
