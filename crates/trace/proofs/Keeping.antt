-- Each event keeps that all that waits and all that is down can be named.
use Rattle.trace.proofs.Common.{◌≡◌, Bool, true, false, not, List, [], ◌∷◌, Option, Some, None, if◌then◌else◌, filter, inl, inr, refl, sym, ap, ◌∙◌, subst, false≢true, and_parts, All, Host, is_host, same_host, Flow, NetEvent, RawEvent, AreQueues, IsTold, IsValidAnswer, Shown, Happens, Replays}
use Rattle.std.proofs.lemmas.List.Elements.{All-append, All-cons, All-filter, All-head, All-nil, All-tail}
use Rattle.leader1822.specs.Boxes.{Boxes, Queues, WaitingAnswer, first_of_list, for_host, give_up_refusal, given_up, host_started, host_stopped, inbound_taken, is_of, is_rfnm_about, is_running, next_for, offer_refusal, offered, one_if, opening_boxes, queued_if, rest, step_refusal, stepped, told_dead, plain_calls}
use Rattle.interface.specs.declared.CarrierFault.{CarrierFault}
use Rattle.interface.specs.declared.CarrierFault.TheVariants as fault
use Rattle.interface.specs.declared.Inbound.{Inbound}
use Rattle.interface.specs.declared.Inbound.TheVariants as inbound
use Rattle.interface.specs.declared.NetEvent.TheVariants as net
use Rattle.interface.specs.declared.HostMessage.{HostMessage}
use Rattle.interface.specs.declared.crossing.Answer.TheVariants as answer
use Rattle.script.specs.Spelling.{IsEvent, IsFlow, IsHost, IsMessage, IsNetEvent}
use Rattle.script.specs.declared.event.RawEvent.TheVariants as event
use Rattle.trace.proofs.Calms.{IsTaking, elementary, rounds_are}
use Rattle.trace.proofs.Each.{Left, left_of}
use Rattle.trace.proofs.Queues.{no_queues, queues_more, queues_rest, queues_with}
use Rattle.interface.proofs.lemmas.{not_false}

-- ---- what is waiting, after each step

running_there : (hosts down : List Host) (h : Host) → is_running hosts down h ≡ true → is_host hosts h ≡ true
running_there hosts down h e = (and_parts (is_host hosts h) (not (is_host down h)) e).0

-- a chain of refusals that ends in none
past_first : (b : Bool) (f : CarrierFault) (more : Option CarrierFault) → (if b then Some f else more) ≡ None → (b ≡ false) × (more ≡ None)
past_first true f more h = absurd (cc)
past_first false f more h = (refl, h)

offer_there : (old : Boxes) (f : Flow) → offer_refusal old f ≡ None → is_host old.hosts f.source ≡ true
offer_there old f none = not_false _ (past_first _ _ _ (past_first _ _ _ none).1).0

give_up_there : (old : Boxes) (f : Flow) → give_up_refusal old f ≡ None → is_host old.hosts f.source ≡ true
give_up_there old f none = not_false _ (past_first _ _ _ (past_first _ _ _ none).1).0

offered_kept : (old : Boxes) (m : HostMessage) → IsTold old → IsMessage m → is_host old.hosts m.flow.source ≡ true → IsTold (offered old m)
offered_kept old m told valid there = record {
  running = told.running;
  down = told.down;
  messages = queues_more IsMessage _ _ _ m.flow.destination m told.messages valid (running_there old.hosts old.down m.flow.destination);
  answers = queues_more IsValidAnswer _ _ _ _ _ told.answers valid.0 (λ e. there);
}

-- the first of valid items is valid
first_valid : {A : Type 0} (IsValid : A → Type 0) (xs : List A) (x : A) → All IsValid xs → first_of_list xs ≡ Some x → IsValid x
first_valid IsValid [] x h e = absurd (cc)
first_valid {A} IsValid (y ∷ xs) x h e = let is : y ≡ x = cc in subst IsValid is (All-head IsValid y xs h)

taken_kept : (old : Boxes) (h : Host) (o : Option Inbound) → IsTold old → ((m : HostMessage) → o ≡ Some (inbound.Message m) → IsMessage m) → IsTold (inbound_taken old h o)
taken_kept old h None told valid = told
taken_kept old h (Some (inbound.Answer kind f)) told valid = record { running = told.running; down = told.down; messages = told.messages; answers = queues_rest IsValidAnswer _ _ h told.answers }
taken_kept old h (Some (inbound.Message m)) told valid = record {
  running = told.running;
  down = told.down;
  messages = queues_rest IsMessage _ _ h told.messages;
  answers = queues_more IsValidAnswer _ _ _ m.flow.source (answer.Rfnm, m.flow) told.answers (valid m refl).0 (running_there old.hosts old.down m.flow.source);
}

next_valid : (old : Boxes) (h : Host) → IsTold old → (m : HostMessage) → next_for old h ≡ Some (inbound.Message m) → IsMessage m
next_valid old h told m e = by (first_of_list (for_host old.answers h)) refl (first_of_list (for_host old.messages h)) refl
  where
    by : (a : Option WaitingAnswer) → first_of_list (for_host old.answers h) ≡ a → (n : Option HostMessage) → first_of_list (for_host old.messages h) ≡ n → IsMessage m
    by (Some a) is n at = absurd (let bad = rw is at e in cc)
    by None is (Some n) at = let same : n ≡ m = (let s = rw (is, at) at e in cc) in subst IsMessage same (first_valid IsMessage _ n (told.messages.valid h) at)
    by None is None at = absurd (let bad = rw (is, at) at e in cc)

All-one_if : {A : Type 0} (IsValid : A → Type 0) (t : Bool) (x : A) → IsValid x → All IsValid (one_if t x)
All-one_if IsValid true x h = All-cons IsValid x [] h (All-nil IsValid)
All-one_if IsValid false x h = All-nil IsValid

given_up_kept : (old : Boxes) (f : Flow) → IsTold old → IsFlow f → is_host old.hosts f.source ≡ true → IsTold (given_up old f)
given_up_kept old f told valid there = record {
  running = told.running;
  down = told.down;
  messages = queues_with IsMessage _ _ _ _ told.messages (All-filter (λ m. not (is_of f m)) IsMessage (for_host old.messages f.destination) (told.messages.valid f.destination))
      (λ none. ap (λ (xs : List HostMessage). filter (λ m. not (is_of f m)) xs) (told.messages.of_hosts f.destination none));
  answers = queues_with IsValidAnswer _ _ _ _ told.answers
      (All-append IsValidAnswer (filter (λ a. not (is_rfnm_about f a)) (for_host old.answers f.source)) (one_if (not (is_host old.down f.source)) (answer.Incomplete, f)) (All-filter (λ a. not (is_rfnm_about f a)) IsValidAnswer (for_host old.answers f.source) (told.answers.valid f.source)) (All-one_if IsValidAnswer _ _ valid))
      (λ none. absurd (false≢true (sym none ∙ there)));
}

told_dead_kept : (hosts down : List Host) (answers : Queues WaitingAnswer) (ms : List HostMessage) → AreQueues IsValidAnswer hosts answers → All IsMessage ms → AreQueues IsValidAnswer hosts (told_dead hosts down answers ms)
told_dead_kept hosts down answers [] are valid = are
told_dead_kept hosts down answers (m ∷ ms) are valid =
    told_dead_kept hosts down (queued_if (is_running hosts down m.flow.source) answers m.flow.source (answer.Dead, m.flow)) ms
    (queues_more IsValidAnswer hosts _ answers _ _ are (All-head IsMessage m ms valid).0 (running_there hosts down _))
    (All-tail IsMessage m ms valid)

host_stopped_kept : (old : Boxes) (h : Host) → IsTold old → IsHost h → IsTold (host_stopped old h)
host_stopped_kept old h told valid = record {
  running = told.running;
  down = All-append IsHost old.down (h ∷ []) told.down (All-cons IsHost h [] valid (All-nil IsHost));
  messages = queues_with IsMessage _ _ h [] told.messages (All-nil IsMessage) (λ none. refl);
  answers = told_dead_kept _ _ _ _
      (queues_with IsValidAnswer _ _ h [] told.answers (All-nil IsValidAnswer) (λ none. refl)) (told.messages.valid h);
}

host_started_kept : (old : Boxes) (h : Host) → IsTold old → IsTold (host_started old h)
host_started_kept old h told = record { running = told.running; down = All-filter (λ g. not (same_host h g)) IsHost old.down told.down; messages = told.messages; answers = told.answers }

stepped_kept : (old : Boxes) (e : NetEvent) → IsTold old → IsNetEvent e → step_refusal old e ≡ None → IsTold (stepped old e)
stepped_kept old (net.GiveUp f) told valid none = given_up_kept old f told valid (give_up_there old f none)
stepped_kept old (net.HostDown h) told valid none = host_stopped_kept old h told valid
stepped_kept old (net.HostUp h) told valid none = host_started_kept old h told
stepped_kept old e told valid none = told

-- ---- one call

-- what an event may be, where it is a call: a taking may name any host
abbrev IsCall : RawEvent → Type 0
IsCall (event.Out m) = IsMessage m
IsCall (event.Take h) = Unit {0}
IsCall (event.Net e) = IsNetEvent e
IsCall (event.Calm rounds) = ⊥

call_kept : (old new : Boxes) (e : RawEvent) → IsTold old → IsCall e → Left old new e → IsTold new
call_kept old new (event.Out m) told valid (inl same) = subst IsTold (sym same) told
call_kept old new (event.Out m) told valid (inr left) = subst IsTold (sym left.1) (offered_kept old m told valid (offer_there old m.flow left.0))
call_kept old new (event.Take h) told valid (inl same) = subst IsTold (sym same) told
call_kept old new (event.Take h) told valid (inr left) = subst IsTold (sym left.1) (taken_kept old h _ told (next_valid old h told))
call_kept old new (event.Net e) told valid (inl same) = subst IsTold (sym same) told
call_kept old new (event.Net e) told valid (inr left) = subst IsTold (sym left.1) (stepped_kept old e told valid left.0)
call_kept old new (event.Calm rounds) told valid left = absurd valid

opening_told : (hosts : List Host) → IsTold (opening_boxes hosts)
opening_told hosts = record { running = refl; down = All-nil IsHost; messages = no_queues IsMessage hosts; answers = no_queues IsValidAnswer hosts }

-- ---- events of a script

takings_kept : (events : List RawEvent) (old new : Boxes) (shown : List Shown) → All IsTaking events → Replays plain_calls old events new shown → IsTold old → IsTold new
takings_kept [] old new shown all h told = subst IsTold (sym h.0) told
takings_kept (event.Take g ∷ events) old new shown all (mid, first, rest, h, hs, whole) told =
    takings_kept events mid new rest (All-tail IsTaking (event.Take g) events all) hs (call_kept old mid (event.Take g) told tt (left_of old mid _ first tt h))
takings_kept (event.Out m ∷ events) old new shown all h told = absurd (All-head IsTaking (event.Out m) events all)
takings_kept (event.Net e ∷ events) old new shown all h told = absurd (All-head IsTaking (event.Net e) events all)
takings_kept (event.Calm rounds ∷ events) old new shown all h told = absurd (All-head IsTaking (event.Calm rounds) events all)

kept : (old new : Boxes) (e : RawEvent) (shown : List Shown) → IsEvent e → IsTold old → Happens plain_calls old e new shown → IsTold new
kept old new (event.Out m) shown valid told k = call_kept old new (event.Out m) told valid (left_of old new _ shown tt k)
kept old new (event.Take h) shown valid told k = call_kept old new (event.Take h) told tt (left_of old new _ shown tt k)
kept old new (event.Net e) shown valid told k = call_kept old new (event.Net e) told valid (left_of old new _ shown tt k)
kept old new (event.Calm rounds) shown valid told k =
    takings_kept _ old new shown (rounds_are 1 rounds old) (elementary old new _ shown k) told

all_kept : (events : List RawEvent) (old new : Boxes) (shown : List Shown) → All IsEvent events → Replays plain_calls old events new shown → IsTold old → IsTold new
all_kept [] old new shown valid h told = subst IsTold (sym h.0) told
all_kept (e ∷ events) old new shown valid (mid, first, rest, h, hs, whole) told =
    all_kept events mid new rest (All-tail IsEvent e events valid) hs (kept old mid e first (All-head IsEvent e events valid) told h)

pub reached : (hosts : List Host) (events : List RawEvent) (new : Boxes) (shown : List Shown) → All IsEvent events → Replays plain_calls (opening_boxes hosts) events new shown → IsTold new
reached hosts events new shown valid h = all_kept events _ new shown valid h (opening_told hosts)
