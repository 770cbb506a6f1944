-- Moments in which a host's boxes stay as they are: what a user asks for, and hosts that stop.
use Rattle.world_keeps_streams.proofs.Common.{◌≡◌, ℕ, Bool, true, false, not, ◌&&◌, if◌then◌else◌, List, [], ◌∷◌, ◌++◌, refl, subst, Host, same_host, Command, Stream, is_busy, IsTelling, Free, Party, Post, Steps, Pair, pair_moved, pair, pair_with, opening_state, served, Request, event_by, Moment, Crossed, Asked, event_in, events_of, program, keeps, calls_by, own_calls, request_calls}
use Rattle.reset_law.specs.Events.{Event, Contact, Begin, when, Call}
use Rattle.interface.specs.declared.crossing.Crossing.TheVariants as crossing
use Rattle.ncp_control.specs.Phases as phases
use Rattle.reset_law.specs.Stays as stay
use Rattle.sockets.specs.declared.request.Request.TheVariants as request
use Rattle.world_keeps_streams.proofs.Steps.Going.{Goes, stays_as}
use Rattle.world_keeps_streams.proofs.Steps.GoesAsked.{request_goes}
use Rattle.world_keeps_streams.proofs.Steps.Held.{Acted, Held, HereIn, act}
use Rattle.world_keeps_streams.proofs.Calls.MayCalls.{MayCalls}

-- a host that keeps its ends doesn't contact this peer
kept_contact : (t u : Bool) (q : Pair) → (phases.is_ready (pair_moved (when (t && u) Call) q).phase && not false) ≡ true → t ≡ true → u ≡ false
kept_contact true true q k e = absurd (let no : false ≡ true = k in cc)
kept_contact true false q k e = refl
kept_contact false u q k e = absurd (let no : false ≡ true = e in cc)

pub no_contact : (h p g : Host) (r : Request) (events : List Event) → keeps h p (event_by g r) events ≡ true → same_host h g ≡ true → (peer : Host) → r ≡ request.Contact peer → same_host p peer ≡ false
no_contact h p g r events k e peer is =
    let kept : keeps h p (Contact g peer) events ≡ true = subst (λ (y : Request). keeps h p (event_by g y) events ≡ true) is k in
    kept_contact _ _ _ kept e

pub kept_stop : (t : Bool) (q : Pair) → (phases.is_ready (pair_moved (when t Begin) q).phase && not false) ≡ true → t ≡ false
kept_stop true q k = absurd (let no : false ≡ true = k in cc)
kept_stop false q k = refl

module _ (number other : ℕ → ℕ → ℕ → ℕ) (tells : IsTelling number) (others : IsTelling other) (link : ℕ) (steps : Steps number other tells others link) (h p : Host) (moments : List Moment) (front rest : List Command) (post : Post) (b : Party) (x y : Stream)
    (held : Held number other tells others link h p moments front rest post b x y) where
  -- a host of whose program a moment changes nothing with this peer
  act_none : (m : Moment) → stay.begins h p (event_in m) (events_of moments) ≡ false → (keeps h p (event_in m) (events_of moments) ≡ true → (calls_by h p m moments ≡ []) × (pair_with p (program h (m ∷ moments)).peers ≡ pair_with p (program h moments).peers))
      → Acted number other tells others link h p (m ∷ moments) front post b x y
  act_none m old none =
      act number other tells others link steps h p m moments front rest post b x y old held
      (λ k s here. rw ((none k).0, (none k).1) (stays_as number other tells others link p _ _ front post b x y here))

  pub act_asked : (g : Host) (r : Request) → stay.begins h p (event_by g r) (events_of moments) ≡ false
      → (stay.stays h p (events_of moments) ≡ true → is_busy (pair_with p (program h moments).peers).busy link ≡ false → post ≡ Free)
      → (keeps h p (event_by g r) (events_of moments) ≡ true → stay.stays h p (events_of moments) ≡ true → MayCalls (calls_by h p (Asked g r) moments))
      → Acted number other tells others link h p (Asked g r ∷ moments) front post b x y
  act_asked g r old room may =
      act number other tells others link steps h p (Asked g r) moments front rest post b x y old held (λ k s here. by (same_host h g) refl k s here (may k s)) where
        by : (t : Bool) → same_host h g ≡ t → keeps h p (event_by g r) (events_of moments) ≡ true → stay.stays h p (events_of moments) ≡ true → HereIn number other tells others link h p moments front post b x y
            → MayCalls (if t then request_calls p (program h moments) r else [])
            → Goes number other tells others link p ((if t then request_calls p (program h moments) r else []) ++ own_calls h p moments) (pair_with p (if t then served (program h moments) r else program h moments).peers) front post b x y
        by true e k s here calls = request_goes number other tells others link steps p (own_calls h p moments) (program h moments) front post b x y (room s) here r (no_contact h p g r (events_of moments) k e) calls
        by false e k s here calls = stays_as number other tells others link p (own_calls h p moments) (pair_with p (program h moments).peers) front post b x y here

  stopped : (t : Bool) → t ≡ false → pair_with p (if t then opening_state h else program h moments).peers ≡ pair_with p (program h moments).peers
  stopped true e = absurd (let no : true ≡ false = e in cc)
  stopped false e = refl

  pub act_down : (g : Host) → stay.begins h p (event_in (Crossed (crossing.Down g))) (events_of moments) ≡ false → Acted number other tells others link h p (Crossed (crossing.Down g) ∷ moments) front post b x y
  act_down g old = act_none _ old (λ k. (refl, stopped _ (kept_stop _ _ k)))
