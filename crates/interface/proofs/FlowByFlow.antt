-- If each flow's part of a log is a run of its own box and its two hosts, the log is a run.
use Rattle.std.proofs.Common.{◌≡◌, Bool, true, false, List, [], ◌∷◌, ◌++◌, length, refl, ap, subst, ◌∙◌, if◌then◌else◌}
use Rattle.interface.specs.Host.{Host, same_host}
use Rattle.interface.specs.Mailboxes.{Empty, Waiting, fetched, box_of, is_up, same_flow, Needs, IsRun, Passing, Put, Fetched, Told, SourceDown, SourceUp, DestinationDown, DestinationUp, first_if, passings, passed, Mail, opening_mail, MailNeeds, mail_after, mail_of, IsFlowRun, UpsAreHosts, EachIsRun}
use Rattle.interface.specs.declared.address.Flow.{Flow}
use Rattle.interface.specs.declared.crossing.Crossing.{Crossing}
use Rattle.interface.specs.declared.crossing.Crossing.TheVariants as crossing
use Rattle.interface.proofs.Lists.{same_flow-refl, same_host-refl}

abbrev mail_at : List Host → Flow → List Crossing → Mail
mail_at hosts f log = record { source = is_up hosts f.source log; destination = is_up hosts f.destination log; box = box_of f log }

mail_append : (start : Mail) (ps qs : List Passing) → mail_of start (ps ++ qs) ≡ mail_of (mail_of start qs) ps
mail_append start [] qs = refl
mail_append start (p ∷ ps) qs = ap (λ (m : Mail). mail_after p m) (mail_append start ps qs)

mail_more : (hosts : List Host) (f : Flow) (c : Crossing) (log : List Crossing) → mail_of (mail_at hosts f log) (passings (length log) f c) ≡ mail_at hosts f (c ∷ log)
mail_more hosts f (crossing.Out m) log = by (same_flow f m.flow) where
  by : (b : Bool) → mail_of (mail_at hosts f log) (first_if b (Put (length log) m.text) []) ≡ record { source = is_up hosts f.source log; destination = is_up hosts f.destination log; box = if b then Waiting (length log) m.text else box_of f log }
  by true = refl
  by false = refl
mail_more hosts f (crossing.In m) log = by (same_flow f m.flow) where
  by : (b : Bool) → mail_of (mail_at hosts f log) (first_if b (Fetched m.text) []) ≡ record { source = is_up hosts f.source log; destination = is_up hosts f.destination log; box = if b then fetched (box_of f log) else box_of f log }
  by true = refl
  by false = refl
mail_more hosts f (crossing.Answer k g) log = by (same_flow f g) where
  by : (b : Bool) → mail_of (mail_at hosts f log) (first_if b (Told k) []) ≡ record { source = is_up hosts f.source log; destination = is_up hosts f.destination log; box = if b then Empty else box_of f log }
  by true = refl
  by false = refl
mail_more hosts f (crossing.Down h) log = by (same_host f.source h) (same_host f.destination h) where
  by : (a b : Bool) → mail_of (mail_at hosts f log) (first_if b DestinationDown (first_if a SourceDown [])) ≡ record { source = if a then false else is_up hosts f.source log; destination = if b then false else is_up hosts f.destination log; box = box_of f log }
  by true true = refl
  by true false = refl
  by false true = refl
  by false false = refl
mail_more hosts f (crossing.Up h) log = by (same_host f.source h) (same_host f.destination h) where
  by : (a b : Bool) → mail_of (mail_at hosts f log) (first_if b DestinationUp (first_if a SourceUp [])) ≡ record { source = if a then true else is_up hosts f.source log; destination = if b then true else is_up hosts f.destination log; box = if a then Empty else box_of f log }
  by true true = refl
  by true false = refl
  by false true = refl
  by false false = refl

-- a flow's own story names its hosts and its box
pub mail_is : (hosts : List Host) (f : Flow) (log : List Crossing) → mail_of (opening_mail hosts f) (passed f log) ≡ mail_at hosts f log
mail_is hosts f [] = refl
mail_is hosts f (c ∷ log) =
    mail_append (opening_mail hosts f) (passings (length log) f c) (passed f log)
    ∙ ap (λ (m : Mail). mail_of m (passings (length log) f c)) (mail_is hosts f log) ∙ mail_more hosts f c log

flow_below : (start : Mail) (ps qs : List Passing) → IsFlowRun start (ps ++ qs) → IsFlowRun start qs
flow_below start [] qs r = r
flow_below start (p ∷ ps) qs r = flow_below start ps qs r.1

ups_below : (hosts : List Host) (c : Crossing) (log : List Crossing) → UpsAreHosts hosts (c ∷ log) → UpsAreHosts hosts log
ups_below hosts (crossing.Up h) log u = u.1
ups_below hosts c log u = u

-- a host's own flow to itself
abbrev to_itself : Host → Flow
to_itself h = record { source = h; destination = h; link = record { 0 = 0 } }

-- what the newest passing needs, of hosts and box
needed : (hosts : List Host) (f : Flow) (p : Passing) (log : List Crossing) → IsFlowRun (opening_mail hosts f) (p ∷ passed f log) → MailNeeds p (mail_at hosts f log)
needed hosts f p log r = let P : Mail → Type 0 = λ m. MailNeeds p m in subst P (mail_is hosts f log) r.0

needs : (hosts : List Host) (c : Crossing) (log : List Crossing) → EachIsRun hosts (c ∷ log) → Needs hosts c log
needs hosts (crossing.Out m) log e =
    let r : IsFlowRun (opening_mail hosts m.flow) (Put (length log) m.text ∷ passed m.flow log) = rw (same_flow-refl m.flow) at (e.flows m.flow) in
    needed hosts m.flow (Put (length log) m.text) log r
needs hosts (crossing.In m) log e =
    let r : IsFlowRun (opening_mail hosts m.flow) (Fetched m.text ∷ passed m.flow log) = rw (same_flow-refl m.flow) at (e.flows m.flow) in
    needed hosts m.flow (Fetched m.text) log r
needs hosts (crossing.Answer k f) log e =
    let r : IsFlowRun (opening_mail hosts f) (Told k ∷ passed f log) = rw (same_flow-refl f) at (e.flows f) in
    needed hosts f (Told k) log r
needs hosts (crossing.Down h) log e =
    let f = to_itself h in
    let r : IsFlowRun (opening_mail hosts f) (DestinationDown ∷ SourceDown ∷ passed f log) = rw (same_host-refl h) at (e.flows f) in
    needed hosts f SourceDown log r.1
needs hosts (crossing.Up h) log e =
    let f = to_itself h in
    let r : IsFlowRun (opening_mail hosts f) (DestinationUp ∷ SourceUp ∷ passed f log) = rw (same_host-refl h) at (e.flows f) in
    (e.ups.0, needed hosts f SourceUp log r.1)

pub each_is_run : (hosts : List Host) (log : List Crossing) → EachIsRun hosts log → IsRun hosts log
each_is_run hosts [] e = tt
each_is_run hosts (c ∷ log) e = (
  needs hosts c log e,
  each_is_run hosts log (record {
    flows = λ f. flow_below (opening_mail hosts f) (passings (length log) f c) (passed f log) (e.flows f);
    ups = ups_below hosts c log e.ups;
  }),
)
