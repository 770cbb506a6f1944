-- Small carriers as raw networks.
use Rattle.world_trace.proofs.Common.{◌≡◌, inl, ℕ, List, [], ◌∷◌, ◌++◌, Ok, reverse, refl, ap, ap₂, sym, subst, ◌∙◌, arith, append-nil, All-cons, All-head, All-nil, All-tail, All, Calls, WorldState, Event, InTurn, RawEvent, IsOfRound}
use Rattle.replay.specs.Replay.{IsOneCall, Happens, Replays}
use Rattle.world_replay.specs.Driven.{Drive, IsDriven, IsDrivenIn, Raw, Round}
use Rattle.world_trace.specs.Carriers.{AreMade, IsRawNetwork}
use Rattle.interface.specs.declared.event.NetEvent.{NetEvent}
use Rattle.interface.specs.declared.event.NetEvent.TheVariants as net
use Rattle.net_sim.specs.declared.event.Event.TheVariants as event
use Rattle.replay.specs.Output.{Shown, crossings_of}
use Rattle.replay.specs.Worked.{counting}
use Rattle.replay.proofs.lemmas.{replays_show}
use Rattle.script.specs.declared.event.RawEvent.TheVariants as raw
use Rattle.world_replay.specs.Worked.{after, went}
use Rattle.world_script.specs.declared.event.WorldEvent.TheVariants.{Happen}
use Rattle.world_trace.specs.Worked.{counting_rounds, crossing_always}

abbrev again : NetEvent
again = net.Resend 1

-- ---- which are

sent_again : Happens counting 0 (raw.Net again) 1 []
sent_again = record { outcome = Ok tt; gives = (refl, refl); goes_on = tt; crossings = []; grown = refl; lines = refl }

one_event : Replays counting 0 (raw.Net again ∷ []) 1 []
one_event = (1, [], [], sent_again, (refl, refl), refl)

pub by_an_event : IsRawNetwork counting 0 (Happen (event.Net again) ∷ []) (after 1)
by_an_event = record {
  drives = Raw (raw.Net again) ∷ [];
  driven = (
    after 1,
    Raw (raw.Net again) ∷ [],
    [],
    (
      event.Net again ∷ [],
      refl,
      (after 1, Raw (raw.Net again) ∷ [], [], record { makes = refl; shown = []; goes = (1, [], [], (sent_again, inl ([], refl, refl)), (refl, refl), refl); crossed = refl }, (refl, refl), refl),
    ),
    (refl, refl),
    refl,
  );
  events = raw.Net again ∷ [];
  made = ([], refl, refl);
  one_call = All-cons IsOneCall (raw.Net again) [] tt (All-nil IsOneCall);
  lines = [];
  replays = one_event;
  crossed = refl;
}

pub by_a_round : IsRawNetwork counting 0 (Happen event.Quiet ∷ []) (after 1)
by_a_round = record {
  drives = Round ∷ [];
  driven = (
    after 1,
    Round ∷ [],
    [],
    (event.Quiet ∷ [], refl, (after 1, Round ∷ [], [], record { makes = refl; shown = []; goes = (1, [], [], (Ok tt, (refl, refl), tt, refl), (refl, refl), refl); crossed = refl }, (refl, refl), refl)),
    (refl, refl),
    refl,
  );
  events = raw.Net again ∷ [];
  made = (raw.Net again ∷ [], [], All-cons IsOfRound (raw.Net again) [] tt (All-nil IsOfRound), refl, refl);
  one_call = All-cons IsOneCall (raw.Net again) [] tt (All-nil IsOneCall);
  lines = [];
  replays = one_event;
  crossed = refl;
}

-- ---- which aren't

pub stays : IsRawNetwork counting 0 [] (after 1) → ⊥
stays h = let same : 1 ≡ 0 = ap (λ (w : WorldState ℕ). w.carrier) h.driven.0 in omega (arith, same)

-- a quiet round is one call
module _ (calls : Calls ℕ) where
  round_of : (old new : WorldState ℕ) (drives : List Drive) → InTurn (IsDriven calls) old (event.Quiet ∷ []) new drives → drives ≡ Round ∷ []
  round_of old new drives (mid, begin, rest, one, left, all) = all ∙ ap₂ (λ (xs ys : List Drive). xs ++ ys) one.makes left.1

  one_round : (old new : WorldState ℕ) (drives : List Drive) → IsDrivenIn calls old (Happen event.Quiet) new drives → drives ≡ Round ∷ []
  one_round old new drives (events, course, driven) = round_of old new drives (subst (λ (es : List Event). InTurn (IsDriven calls) old es new drives) course driven)

  only_round : (old new : WorldState ℕ) (drives : List Drive) → InTurn (IsDrivenIn calls) old (Happen event.Quiet ∷ []) new drives → drives ≡ Round ∷ []
  only_round old new drives (mid, begin, rest, one, left, all) = all ∙ ap₂ (λ (xs ys : List Drive). xs ++ ys) (one_round old mid begin one) left.1

-- of which events are made that are of a round
of_a_round : (drives : List Drive) (events : List RawEvent) → drives ≡ Round ∷ [] → AreMade drives events → All IsOfRound events
of_a_round drives events is made = by (subst (λ (ds : List Drive). AreMade ds events) is made) where
  by : AreMade (Round ∷ []) events → All IsOfRound events
  by (quiet, others, own, all, none) = subst (All IsOfRound) (sym (all ∙ ap (λ es. quiet ++ es) none ∙ append-nil quiet)) own

-- and these aren't counted
not_counted : (e : RawEvent) (old new : ℕ) (lines : List Shown) → IsOfRound e → Happens counting_rounds old e new lines → new ≡ old
not_counted (raw.Net e) old new lines is h = h.gives.1
not_counted (raw.Out m) old new lines is h = absurd is
not_counted (raw.Take g) old new lines is h = absurd is
not_counted (raw.Calm rounds) old new lines is h = absurd is

none_counted : (events : List RawEvent) (old new : ℕ) (lines : List Shown) → All IsOfRound events → Replays counting_rounds old events new lines → new ≡ old
none_counted [] old new lines all h = h.0
none_counted (e ∷ events) old new lines all (mid, begin, rest, one, more, whole) =
    none_counted events mid new rest (All-tail IsOfRound e events all) more ∙ not_counted e old mid begin (All-head IsOfRound e events all) one

pub unmoved : IsRawNetwork counting_rounds 0 (Happen event.Quiet ∷ []) (after 1) → ⊥
unmoved h =
    let own : All IsOfRound h.events = of_a_round h.drives h.events (only_round counting_rounds (after 0) (after 1) h.drives h.driven) h.made in
    let same : 1 ≡ 0 = none_counted h.events 0 1 h.lines own h.replays in
    omega (arith, same)

-- a message went out that isn't in the book
pub uncrossed : IsRawNetwork crossing_always 0 (Happen event.Quiet ∷ []) (after 1) → ⊥
uncrossed h =
    let logged : went ∷ [] ≡ reverse (crossings_of h.lines) ++ [] = replays_show crossing_always 0 1 h.events h.lines h.replays in
    let none : went ∷ [] ≡ [] = logged ∙ append-nil (reverse (crossings_of h.lines)) ∙ sym h.crossed in
    absurd (cc)
