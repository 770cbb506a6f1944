-- What is printed of scripts on each kind of network.
use Rattle.session.proofs.Common.{WorldKeeps, shown, Texts, Happens, KeepsAll, KeepsRun, ReplaysWith}
use Rattle.topology.specs.declared.network.CarrierKind.{CarrierKind}
use Rattle.topology.specs.Topology.{TopologyFields}
use Rattle.subnet.specs.Calls.{Kept}
use Rattle.script.specs.Script.{lines_of}
use Rattle.interface.specs.Host.{Host}
use Rattle.std.proofs.Common.{◌≡◌, ◌++◌, ℕ, Bool, true, List, [], Some, codes, false, refl, subst, sym}
use Rattle.interface.proofs.lemmas.{safe_messages}
use Rattle.interface.specs.Calls.{Calls}
use Rattle.leader1822.specs.Boxes.{Boxes, plain_calls}
use Rattle.net_sim.specs.Steps.{opening_mixed}
use Rattle.net_sim.specs.World.{WorldState, opening_world}
use Rattle.replay.specs.Output as raw_lines
use Rattle.replay.specs.Replay as raw
use Rattle.script.specs.Spelling.{IsEvent, spelling}
use Rattle.subnet.specs.Working.{subnet_calls}
use Rattle.topology.specs.declared.network.CarrierKind.TheVariants as kind
use Rattle.world_replay.specs.Output as lines
use Rattle.world_script.specs.WorldScript.{AskFor}
use Rattle.world_script.specs.WorldSpelling.{IsWorldEvent, world_spelling}
use Rattle.command_line.proofs.lemmas.{among_writes_all, world_writes_all, writes_all}
use Rattle.command_line.specs.Carriers.{plain_of, subnet_of}
use Rattle.command_line.specs.Events.{IsFirstBadIn, Raw, World, are_some}
use Rattle.command_line.specs.Replayed.{ShowsIn, WritesWorld}
use Rattle.session.specs.Session.{PrintsOn, PrintsOver, on, over}
use Rattle.session.specs.Turns.{Leads, Prints}
use Rattle.session.proofs.Sessions.{Translates}

module _ {C : Type 0} (calls : Calls C) (carrier : C) (strangers : List Host) where
  -- what is so of a network with strangers, or without, is so of these
  as_given : (P : Bool → Type 0) (among : Bool) → are_some strangers ≡ among → P among → P (are_some strangers)
  as_given P among is h = subst P (sym is) h

  pub among_prints : are_some strangers ≡ true → (opening : WorldState C) → opening ≡ opening_mixed (shown calls) carrier strangers → (script said : List ℕ)
      → Prints world_spelling (IsWorldEvent true) (ReplaysWith (Happens (shown calls)) (lines.shown_text Texts) (KeepsAll calls)) opening script said
      → PrintsOver calls carrier false strangers script said
  among_prints some opening is script said (last, h) =
      let (shows, in_turn, written, kept) = h.replayed in (
        World h.events,
        as_given (λ among. AskFor among h.events (lines_of script)) true some h.asked,
        as_given (λ among. WritesWorld false Texts (ShowsIn among calls strangers carrier h.events) (Some []) (Some (said ++ codes "end\n"))) true some
            (among_writes_all calls strangers carrier opening last h.events last.kept.book.lives false Texts (Some []) (Some said) (Some (said ++ codes "end\n"))
            is (record { shown = shows; is_shown = in_turn; written = written }) kept.0 kept.1 refl refl),
      )

  pub world_prints : are_some strangers ≡ false → (opening : WorldState C) → opening ≡ opening_world (shown calls) carrier → (script said : List ℕ)
      → Prints world_spelling (IsWorldEvent false) (ReplaysWith (Happens (shown calls)) (lines.shown_text Texts) (WorldKeeps calls.seen)) opening script said
      → PrintsOver calls carrier false strangers script said
  world_prints none opening is script said (last, h) =
      let (shows, in_turn, written, kept) = h.replayed in (
        World h.events,
        as_given (λ among. AskFor among h.events (lines_of script)) false none h.asked,
        as_given (λ among. WritesWorld false Texts (ShowsIn among calls strangers carrier h.events) (Some []) (Some (said ++ codes "end\n"))) false none
            (world_writes_all calls carrier opening last h.events last.kept.book.lives false Texts (Some []) (Some said) (Some (said ++ codes "end\n"))
            is (record { shown = shows; is_shown = in_turn; written = written }) kept refl refl),
      )

  -- the first line that is no event
  pub refused : (among : Bool) → are_some strangers ≡ among → (script : List ℕ) (number : ℕ) → IsFirstBadIn false among script number
      → IsFirstBadIn false (are_some strangers) script number
  refused among is script number bad = as_given (λ b. IsFirstBadIn false b script number) among is bad

  pub raw_prints : (calls.seen carrier).log ≡ [] → (script said : List ℕ) (last : C)
      → Leads spelling IsEvent (ReplaysWith (raw.Happens calls) (raw_lines.shown_text Texts) (KeepsRun calls)) carrier last script said
      → PrintsOver calls carrier true strangers script said
  raw_prints empty script said last h =
      let (shows, in_turn, written, run) = h.replayed in (
        Raw h.events,
        h.asked,
        writes_all calls carrier last h.events Texts (Some []) (Some said) (Some (said ++ codes "end\n")) empty
            (record { shown = shows; is_shown = in_turn; written = written }) (safe_messages (calls.seen last).hosts (calls.seen last).log run) run refl,
      )

-- over the carrier that a topology names
pub plain_over : (n : ℕ) (t : TopologyFields) (strangers : List Host) (b : Boxes) (raw : Bool) → t.carrier ≡ kind.Plain → b ≡ plain_of t → raw ≡ t.raw
    → strangers ≡ t.strangers → Translates n (over plain_calls b raw strangers) (on t)
plain_over n t strangers b raw is at same named = record {
  prints = λ script said short h. subst (λ (k : CarrierKind). PrintsOn k t script said) (sym is) (rw (← at, ← same, ← named) h);
  refuses = λ script number short bad. rw (← same, ← named) bad;
}

pub subnet_over : (n : ℕ) (t : TopologyFields) (strangers : List Host) (k : Kept) (raw : Bool) → t.carrier ≡ kind.Subnet → k ≡ subnet_of t → raw ≡ t.raw
    → strangers ≡ t.strangers → Translates n (over subnet_calls k raw strangers) (on t)
subnet_over n t strangers k raw is at same named = record {
  prints = λ script said short h. subst (λ (c : CarrierKind). PrintsOn c t script said) (sym is) (rw (← at, ← same, ← named) h);
  refuses = λ script number short bad. rw (← same, ← named) bad;
}
