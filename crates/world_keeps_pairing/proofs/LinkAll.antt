-- Links are free at each moment of two programs.
use Rattle.world_keeps_pairing.proofs.Common.{◌≡◌, Bool, true, false, if◌then◌else◌, List, [], ◌∷◌, None, refl, ap, sym, subst, ◌∙◌, Host, same_host, Flow, Answer, PairState, NcpState, opening_state, pair_with, refusal, Request, Receiver, Sender, Step, placed_event, Event, event_by, event_of, Asked, Crossed, Moment, events_of, places, program, by_request, law_events, all_said, heard_in, steps, words_of}
use Rattle.interface.specs.declared.crossing.Crossing.TheVariants as crossing
use Rattle.interface.specs.declared.crossing.Inbound.TheVariants as inbound
use Rattle.reset_law.specs.Stays as stay
use Rattle.world_keeps_pairing.proofs.Claims.{Claim, heard_claims, said_claims}
use Rattle.world_keeps_pairing.proofs.LinkCalls.{LinksOf, answer_links, request_links}
use Rattle.world_keeps_pairing.proofs.LinkMoments.{heard_next, said_next}

-- a host's ends with a peer have the links that were said and heard
abbrev pub Linked : Host → Host → List Moment → Type 0
Linked a b moments = LinksOf (said_claims (steps a b (law_events moments))) (heard_claims (steps b a (law_events moments))) (pair_with b (program a moments).peers)

-- ---- moments that say nothing of these two

pub heard_nothing : (stays : Bool) (xs : List Step) → heard_in stays Sender [] xs ≡ xs
heard_nothing true xs = refl
heard_nothing false xs = refl

pub as_before : (a b : Host) (e : Event) (older : List Event) (q : PairState) → stay.said_by a b 0 e ≡ [] → stay.heard_by b a 0 e ≡ [] → LinksOf (said_claims (steps a b older)) (heard_claims (steps b a older)) q
    → LinksOf (said_claims (steps a b (e ∷ older))) (heard_claims (steps b a (e ∷ older))) q
as_before a b e older q said heard h =
    let s : said_claims (steps a b (e ∷ older)) ≡ said_claims (steps a b older) =
    said_next a b e older ∙ ap (λ (ts : List (List Bool)). said_claims (all_said Receiver (words_of Receiver ts) (steps a b older))) said in
    let t : heard_claims (steps b a (e ∷ older)) ≡ heard_claims (steps b a older) =
    heard_next b a e older ∙ ap (λ (ts : List (List Bool)). heard_claims (heard_in (stay.stays a b older) Sender (words_of Receiver ts) (steps b a older))) heard ∙ ap heard_claims (heard_nothing (stay.stays a b older) _) in
    subst (λ (cs : List Claim). LinksOf cs (heard_claims (steps b a (e ∷ older))) q) (sym s) (subst (λ (cs : List Claim). LinksOf (said_claims (steps a b older)) cs q) (sym t) h)

pub if_links : (said taken : List Claim) (b : Host) (c : Bool) (t old : NcpState) → (c ≡ true → LinksOf said taken (pair_with b t.peers)) → LinksOf said taken (pair_with b old.peers) → LinksOf said taken (pair_with b (if c then t else old).peers)
if_links said taken b true t old k h = k refl
if_links said taken b false t old k h = h

pub down_links : (a b g : Host) (moments : List Moment) → Linked a b moments → Linked a b (Crossed (crossing.Down g) ∷ moments)
down_links a b g moments h =
    as_before a b (placed_event (event_of (crossing.Down g)) (events_of moments)) (law_events moments) (pair_with b (program a (Crossed (crossing.Down g) ∷ moments)).peers) refl refl
    (if_links _ _ b (same_host a g) (opening_state a) (program a moments) (λ e. record { sends = tt; names = tt; own = tt; single = λ l. tt }) h)

pub up_links : (a b g : Host) (moments : List Moment) → Linked a b moments → Linked a b (Crossed (crossing.Up g) ∷ moments)
up_links a b g moments h =
    as_before a b (placed_event (event_of (crossing.Up g)) (events_of moments)) (law_events moments) (pair_with b (program a (Crossed (crossing.Up g) ∷ moments)).peers) refl refl
    (if_links _ _ b (same_host a g) (opening_state a) (program a moments) (λ e. record { sends = tt; names = tt; own = tt; single = λ l. tt }) h)

pub told_links : (a b : Host) (kind : Answer) (f : Flow) (moments : List Moment) → Linked a b moments → Linked a b (Crossed (crossing.Answer kind f) ∷ moments)
told_links a b kind f moments h =
    as_before a b (placed_event (event_of (crossing.Answer kind f)) (events_of moments)) (law_events moments) (pair_with b (program a (Crossed (crossing.Answer kind f) ∷ moments)).peers) refl refl
    (if_links _ _ b _ _ _
    (λ e. answer_links (said_claims (steps a b (law_events moments))) (heard_claims (steps b a (law_events moments))) (program a moments) kind f (places moments) b h) h)

pub asked_links : (a b g : Host) (r : Request) (moments : List Moment) → (same_host a g ≡ true → refusal (program a moments) r ≡ None) → Linked a b moments → Linked a b (Asked g r ∷ moments)
asked_links a b g r moments ok h =
    as_before a b (placed_event (event_by g r) (events_of moments)) (law_events moments) (pair_with b (program a (Asked g r ∷ moments)).peers)
    (by_request (λ e. stay.said_by a b 0 (placed_event e (events_of moments)) ≡ []) g r (λ peer. refl) refl)
    (by_request (λ e. stay.heard_by b a 0 (placed_event e (events_of moments)) ≡ []) g r (λ peer. refl) refl)
    (if_links _ _ b _ _ _
    (λ e. request_links (said_claims (steps a b (law_events moments))) (heard_claims (steps b a (law_events moments))) (program a moments) r b (ok e) h) h)
