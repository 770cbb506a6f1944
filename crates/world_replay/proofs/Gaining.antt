-- What a book gains by any event of a script, where strangers speak and take as well.
use Rattle.world_replay.proofs.Common.{inl, inr, [], ◌∷◌, Option, None, Some, Result, Ok, Err, ap, Calls, crossing_of, Event, Take, Out, WorldFault, Gains, NoProgram, Carrier, WorldEvent}
use Rattle.net_sim.specs.World.{WorldState, changed, with_carrier, Refuses}
use Rattle.net_sim.specs.Steps.{FetchEnds, OutEnds, AmongGives, AskedGives, asked_at, is_strange, strange_in}
use Rattle.interface.specs.declared.carrier.CarrierFault.{CarrierFault}
use Rattle.interface.specs.declared.carrier.CarrierFault.TheVariants as fault
use Rattle.interface.specs.declared.crossing.Crossing.TheVariants as crossing
use Rattle.interface.specs.declared.crossing.Inbound.{Inbound}
use Rattle.interface.specs.declared.message.HostMessage.{HostMessage}
use Rattle.world_replay.proofs.Grown.{Grew, does_grow, gains_same, grew_all_crossed, grew_none, halts_grow, passes_grow, event_gains}
use Rattle.world_replay.proofs.Replays.{calm_grows}
use Rattle.world_replay.proofs.Steady.{on_either}
use Rattle.world_replay.specs.Replay.{EventGives}
use Rattle.world_script.specs.declared.event.WorldEvent.TheVariants as script

module _ {C : Type 0} (calls : Calls C) where
  out_end : (m : HostMessage) (answer : Result (Unit {0}) CarrierFault) (c : C) (old : WorldState C)
      (r : Result (Unit {0}) WorldFault) (new : WorldState C)
      → OutEnds m answer c old r new → Grew old.kept new.kept
  out_end m (Ok done) c old r new (inl d) = does_grow calls old (changed c (crossing.Out m ∷ []) old) r new (grew_all_crossed (crossing.Out m ∷ []) old.kept) d
  out_end m (Ok done) c old r new (inr h) = halts_grow calls c old r new h
  out_end m (Err e) c old r new ends = passes_grow calls e c old r new ends

  fetch_end : (answer : Result (Option Inbound) CarrierFault) (c : C) (old : WorldState C)
      (r : Result (Unit {0}) WorldFault) (new : WorldState C)
      → FetchEnds answer c old r new → Grew old.kept new.kept
  fetch_end (Ok None) c old r new ends = does_grow calls old (with_carrier c old) r new (grew_none old.kept) ends
  fetch_end (Ok (Some i)) c old r new (inl d) = does_grow calls old (changed c (crossing_of i ∷ []) old) r new (grew_all_crossed (crossing_of i ∷ []) old.kept) d
  fetch_end (Ok (Some i)) c old r new (inr h) = halts_grow calls c old r new h
  fetch_end (Err e) c old r new ends = passes_grow calls e c old r new ends

  -- ---- one event

  refused : (f : WorldFault) (old : WorldState C) (r : Result (Unit {0}) WorldFault) (new : WorldState C)
      → Refuses f old r new → Gains old.kept new.kept
  refused f old r new h = gains_same old.kept new.kept (ap (λ (w : WorldState C). w.kept) h.1)

  asked_gains : (e : Event) (old : WorldState C) (r : Result (Unit {0}) WorldFault) (new : WorldState C)
      → AskedGives calls old e r new → Gains old.kept new.kept
  asked_gains e old r new h = on_either (is_strange (strange_in old) (asked_at e)) (λ s g. refused NoProgram old r new g) (λ s g. event_gains calls e old r new g) h

  among_gains : (e : Event) (old : WorldState C) (r : Result (Unit {0}) WorldFault) (new : WorldState C)
      → AmongGives calls old e r new → Gains old.kept new.kept
  among_gains (Take h) old r new g =
      on_either (strange_in old h) (λ s f. (fetch_end f.0 f.1 old r new f.3).gains) (λ s f. event_gains calls (Take h) old r new f) g
  among_gains (Out m) old r new g =
      on_either (strange_in old m.flow.source) (λ s f. (out_end m f.0 f.1 old r new f.3).gains) (λ s f. event_gains calls (Out m) old r new f) g
  among_gains e old r new g = asked_gains e old r new g

  -- of a script
  pub script_gains : (e : WorldEvent) (old : WorldState C) (r : Result (Unit {0}) WorldFault)
      (new : WorldState C)
      → EventGives calls old e r new → Gains old.kept new.kept
  script_gains (script.Happen e) old r new h = on_either old.stopped (λ s g. refused (Carrier fault.Stopped) old r new g) (λ s g. among_gains e old r new g) h
  script_gains (script.Calm rounds) old r new h = (calm_grows calls rounds old r new h).gains
