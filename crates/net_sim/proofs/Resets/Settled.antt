-- Both halves of a clean reset: what a host takes went out after its last clean point, or does nothing.
use Rattle.net_sim.proofs.Common.{◌≡◌, ◌⊎◌, inl, inr, Bool, true, false, List, [], ◌∷◌, ◌++◌, refl, ap, sym, subst, ◌∙◌, Seen, Crossing, HostMessage, run_below, accepted, pair_with, Message, Other, In, Pair, pair, WaitsAfterClean, is_ready, clean_run, ready_phase, HaveAddresses, IsFresh, IsText, IsUnheard, is_through, WorldState, Agrees, event_of, Crossed, Asked, Moment, events_of, places, contacts_of, crossings_of, events_in}
use Rattle.interface.specs.Mailboxes as mail
use Rattle.interface.specs.declared.crossing.Crossing.TheVariants as crossing
use Rattle.interface.specs.declared.crossing.Inbound.TheVariants as inbound
use Rattle.ncp_control.specs.Phases as program
use Rattle.reset_law.specs.Events as reset
use Rattle.reset_law.specs.Runs.{IsRun}
use Rattle.net_sim.specs.Clean.{IsLawfulAmong}
use Rattle.net_sim.specs.Story as story
use Rattle.net_sim.proofs.Books.BookEvents.{box_in, pair_told, run_at, run_told, same_events}
use Rattle.net_sim.proofs.Resets.Clean.{seen_waiting, waiting_out}
use Rattle.net_sim.proofs.Resets.Coupled.{Coupled, coupled}
use Rattle.net_sim.proofs.Resets.StoryLemmas.{story_agrees}
use Rattle.net_sim.proofs.Resets.Unheard.{unheard}
use Rattle.reset_law.specs.Network.{AreOurs, Network}
use Rattle.net_sim.specs.Mixed.{Happened}

-- what a host takes now
abbrev Settles : HostMessage → List Moment → Type 0
Settles m older =
    IsFresh m (contacts_of older) (crossings_of older)
    ⊎ IsUnheard (story.program m.flow.destination older) (accepted (story.program m.flow.destination older) (inbound.Message m) (places older))

module _ (hosts : Network) (addresses : HaveAddresses hosts.all) where
  taken_now : (m : HostMessage) (older : List Moment) → mail.IsRun hosts.all (crossings_of (Crossed (crossing.In m) ∷ older)) → Happened hosts (Crossed (crossing.In m) ∷ older) → AreOurs hosts m.flow.source m.flow.destination → IsText m → Settles m older
  taken_now m older run time ours plain = by (is_through m.flow.destination m.flow.source (contacts_of older) (crossings_of older)) refl where
    c : Coupled hosts (Crossed (crossing.In m) ∷ older)
    c = coupled hosts addresses (Crossed (crossing.In m) ∷ older) run time

    by : (b : Bool) → is_through m.flow.destination m.flow.source (contacts_of older) (crossings_of older) ≡ b → Settles m older
    by true through =
        let all : IsRun hosts (events_in (contacts_of older) (crossing.In m ∷ crossings_of older)) = subst (λ (es : List reset.Event). IsRun hosts es) (sym (same_events (Crossed (crossing.In m) ∷ older))) (run_told hosts (Crossed (crossing.In m) ∷ older) c.run) in
        let here : IsRun hosts (event_of (crossing.In m) ∷ events_in (contacts_of older) (crossings_of older)) = run_at hosts (contacts_of older) [] (crossing.In m) (crossings_of older) all in
        let run : IsRun hosts (In m.flow.source m.flow.destination m.flow.link.0 (Other m.text) ∷ events_in (contacts_of older) (crossings_of older)) =
        subst (λ (x : Message). IsRun hosts (In m.flow.source m.flow.destination m.flow.link.0 x ∷ events_in (contacts_of older) (crossings_of older))) plain here in
        let waits : WaitsAfterClean m.flow.source m.flow.destination m.flow.link.0 m.text (events_in (contacts_of older) (crossings_of older)) =
        clean_run hosts (events_in (contacts_of older) (crossings_of older)) m.flow.source m.flow.destination m.flow.link.0 m.text ours run (ready_phase (pair m.flow.destination m.flow.source (events_in (contacts_of older) (crossings_of older))).phase through) in
        let kept : (text : List Bool) × (mail.box_of m.flow (crossings_of older) ≡ mail.Waiting waits.place text) =
        seen_waiting m.flow.link.0 (mail.box_of m.flow (crossings_of older)) waits.place (Other m.text) (sym (box_in m.flow.source m.flow.destination (contacts_of older) (crossings_of older) m.flow.link.0) ∙ waits.waits) in
        inl (record { place = waits.place; out = waiting_out m.flow waits.place kept.0 (crossings_of older) kept.1; after = waits.after })
    by false away =
        let same : pair m.flow.destination m.flow.source (events_in (contacts_of older) (crossings_of older)) ≡ pair m.flow.destination m.flow.source (events_of older) =
        ap (λ (es : List reset.Event). pair m.flow.destination m.flow.source es) (same_events older) ∙ pair_told m.flow.destination m.flow.source older in
        let agrees : Agrees (pair_with m.flow.source (story.program m.flow.destination older).peers) (pair m.flow.destination m.flow.source (events_of older)) = story_agrees hosts older m.flow.destination m.flow.source (ours.1, ours.0) c.story.1 in
        let idle : program.is_ready (pair_with m.flow.source (story.program m.flow.destination older).peers).phase ≡ false =
        ap is_ready (sym agrees.phase) ∙ ap (λ (p : Pair). is_ready p.phase) (sym same) ∙ away in
        inr (unheard (story.program m.flow.destination older) m (places older) (c.story.0 ours) plain idle)

  pub settled : (newer older : List Moment) (m : HostMessage) → mail.IsRun hosts.all (crossings_of (newer ++ Crossed (crossing.In m) ∷ older)) → Happened hosts (newer ++ Crossed (crossing.In m) ∷ older) → AreOurs hosts m.flow.source m.flow.destination → IsText m → Settles m older
  settled [] older m run time ours plain = taken_now m older run time ours plain
  settled (Crossed c ∷ newer) older m run time ours plain = settled newer older m run.1 time.1 ours plain
  settled (Asked h r ∷ newer) older m run time ours plain = settled newer older m run time.1 ours plain

pub world_settled : {C : Type 0} (seen : C → Seen) (hosts : Network) (w : WorldState C) → (lawful : IsLawfulAmong hosts.strange seen hosts.all w) → (newer older : List Moment) (m : HostMessage) → lawful.whole.moments ≡ newer ++ Crossed (crossing.In m) ∷ older → AreOurs hosts m.flow.source m.flow.destination → IsText m → Settles m older
world_settled seen hosts w lawful newer older m parts ours plain =
    let all : mail.IsRun hosts.all (lawful.booked.unbooked ++ w.kept.book.crossings) = subst (λ (xs : List Crossing). mail.IsRun hosts.all xs) lawful.booked.book lawful.run in
    let run : mail.IsRun hosts.all (crossings_of lawful.whole.moments) = subst (λ (xs : List Crossing). mail.IsRun hosts.all xs) lawful.whole.crossings (run_below hosts.all lawful.booked.unbooked w.kept.book.crossings all) in
    settled hosts lawful.addresses newer older m (subst (λ (ms : List Moment). mail.IsRun hosts.all (crossings_of ms)) parts run) (subst (λ (ms : List Moment). Happened hosts ms) parts lawful.whole.mixed) ours plain
