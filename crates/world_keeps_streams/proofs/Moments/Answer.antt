-- The lives of a host with one peer are carried by its calls at a moment at which an answer comes back.
use Rattle.world_keeps_streams.proofs.Common.{◌≡◌, ℕ, ◌==◌, Bool, true, false, not, ◌&&◌, ◌||◌, if◌then◌else◌, List, [], ◌∷◌, ◌++◌, is_some, refl, ap, sym, subst, ◌∙◌, Host, same_host, Flow, Answer, same_host-true, is_busy, PairState, TurnState, answered_turn, failed, failed_by, freed, is_gone, settled_turn, Notice, Phase, put, Answered, AreAllowed, IsTelling, ends_after, ends_now, pair, NcpState, pair_with, all_told, crossed, HaveAddresses, Agrees, Crossed, IsStory, Moment, event_in, events_of, places, program, crossings_of, coupled, program_own, story_agrees, keeps, mail_below, both, Happened, Network, AreOurs}
use Rattle.sockets.specs.Accepting.{turn_of, accepted}
use Rattle.world_keeps_streams.specs.Calls.{calls_by, own_calls, called}
use Rattle.interface.specs.Mailboxes as mail
use Rattle.interface.specs.declared.crossing.Answer.TheVariants as answer
use Rattle.interface.specs.declared.crossing.Crossing.TheVariants as crossing
use Rattle.interface.specs.declared.crossing.Inbound.TheVariants as inbound
use Rattle.ncp_control.specs.Phases as program_phases
use Rattle.ncp_control.specs.declared.phase.Phase.TheVariants as phase
use Rattle.host_keeps_streams.specs.Histories as calls
use Rattle.reset_law.specs.Stays as stay
use Rattle.net_sim.specs.Told.{kept_in}
use Rattle.world_keeps_streams.proofs.Calls.Chain.{Chained, chain, plain_at, ready_both}
use Rattle.world_keeps_streams.proofs.Deeds.Effects.{all_lives}
use Rattle.world_keeps_streams.proofs.Deeds.Told.{call_told}
use Rattle.world_keeps_streams.proofs.Carried.Calls.{Carries}
use Rattle.world_keeps_streams.proofs.Carried.Owned.{told_lives}
use Rattle.world_keeps_streams.proofs.Carried.Moments.{single_next}
use Rattle.world_keeps_streams.proofs.Moments.Out.{allowed_at, history_at, placed_in}

-- ---- an answer after which the pair is ready

-- a failure that isn't ignored leaves a pair that isn't ready
failed_unready : (p : Host) (ph : Phase) (t : TurnState) → t.pair.phase ≡ ph → program_phases.is_ready (failed_by p ph t).pair.phase ≡ false
failed_unready p phase.Closed t e = ap program_phases.is_ready e
failed_unready p phase.Want t e = ap program_phases.is_ready e
failed_unready p ph t e = refl

failed_quiet : (p : Host) (t : TurnState) → t.notices ≡ [] → program_phases.is_ready (failed p t).pair.phase ≡ true → (failed p t).notices ≡ []
failed_quiet p t none ready = by (is_gone t.pair.phase || not t.pair.owed) ready where
  by : (v : Bool) → program_phases.is_ready (if v then failed_by p t.pair.phase t else settled_turn t).pair.phase ≡ true → (if v then failed_by p t.pair.phase t else settled_turn t).notices ≡ []
  by true r = absurd (let no : true ≡ false = sym r ∙ failed_unready p t.pair.phase t refl in cc)
  by false r = ap (λ (ns : List Notice). ns ++ []) none

-- nothing is reported of it
answered_quiet : (p : Host) (kind : Answer) (l : ℕ) (t : TurnState) → t.notices ≡ [] → program_phases.is_ready (answered_turn p kind l t).pair.phase ≡ true → (answered_turn p kind l t).notices ≡ []
answered_quiet p answer.Rfnm l t none ready = ap (λ (ns : List Notice). ns ++ []) none
answered_quiet p kind l t none ready = failed_quiet p (record t { pair = freed l t.pair }) none ready

-- what is accepted
pub accepted_pair : (s : NcpState) (kind : Answer) (f : Flow) (stamp : ℕ) → same_host s.own f.source ≡ true → is_busy (pair_with f.destination s.peers).busy f.link.0 ≡ true
    → pair_with f.destination (accepted s (inbound.Answer kind f) stamp).0.peers ≡ (answered_turn f.destination kind f.link.0 (turn_of s f.destination)).pair
unfolding accepted
accepted_pair s kind f stamp own busy = rw (own, busy) (put f.destination (answered_turn f.destination kind f.link.0 (turn_of s f.destination)).pair s.peers)

accepted_told : (s : NcpState) (kind : Answer) (f : Flow) (stamp : ℕ) → same_host s.own f.source ≡ true → is_busy (pair_with f.destination s.peers).busy f.link.0 ≡ true
    → (accepted s (inbound.Answer kind f) stamp).1 ≡ (answered_turn f.destination kind f.link.0 (turn_of s f.destination)).notices
unfolding accepted
accepted_told s kind f stamp own busy = rw (own, busy) refl

module _ (number : ℕ → ℕ → ℕ → ℕ) (tells : IsTelling number) (hosts : Network) (addresses : HaveAddresses hosts.all) (a b : Host) (ours : AreOurs hosts a b)
    (allowed : (ms : List Moment) → mail.IsRun hosts.all (crossings_of ms) → Happened hosts ms → (link : ℕ) → (link == 0) ≡ false → AreAllowed number b link (own_calls a b ms)) where
  module _ (kind : Answer) (f : Flow) (ms : List Moment) (run : mail.IsRun hosts.all (crossings_of (Crossed (crossing.Answer kind f) ∷ ms))) (time : Happened hosts (Crossed (crossing.Answer kind f) ∷ ms))
      (on : keeps a b (event_in (Crossed (crossing.Answer kind f))) (events_of ms) ≡ true) (mine : same_host a f.source ≡ true) (theirs : same_host b f.destination ≡ true) where
    story : IsStory hosts (Crossed (crossing.Answer kind f) ∷ ms)
    story = (coupled hosts addresses (Crossed (crossing.Answer kind f) ∷ ms) run time).story

    below : mail.IsRun hosts.all (crossings_of ms)
    below = mail_below hosts.all (Crossed (crossing.Answer kind f)) ms run

    own_host : a ≡ f.source
    own_host = same_host-true a f.source mine

    peer_host : b ≡ f.destination
    peer_host = same_host-true b f.destination theirs

    own_is : same_host (program a ms).own f.source ≡ true
    own_is = ap (λ (g : Host). same_host g f.source) (program_own a ms) ∙ mine

    -- an answer is about a message that is outstanding
    outstanding : is_busy (pair_with b (program a ms).peers).busy f.link.0 ≡ true
    outstanding =
        let agrees : Agrees (pair_with b (program a ms).peers) (pair a b (events_of ms)) = story_agrees hosts ms a b ours story.1 in
        sym (agrees.busy f.link.0) ∙ subst (λ (g : Host). is_some ((pair g b (events_of ms)).out f.link.0) ≡ true) (sym own_host)
        (subst (λ (g : Host). is_some ((pair f.source g (events_of ms)).out f.link.0) ≡ true) (sym peer_host) (story.0 (plain_at hosts a f.source mine ours.0, plain_at hosts b f.destination theirs ours.1)))

    abbrev Call : calls.Moment
    Call = called (Answered f.link.0) (pair_with b (program a ms).peers) (program a ms).listening

    calls_are : calls_by a b (Crossed (crossing.Answer kind f)) ms ≡ Call ∷ []
    calls_are = rw (mine, theirs, outstanding) refl

    busy_there : is_busy (pair_with f.destination (program a ms).peers).busy f.link.0 ≡ true
    busy_there = subst (λ (h : Host). is_busy (pair_with h (program a ms).peers).busy f.link.0 ≡ true) peer_host outstanding

    -- the host keeps its ends, so it is ready after the answer
    ready_by : program_phases.is_ready (pair_with b (program a (Crossed (crossing.Answer kind f) ∷ ms)).peers).phase ≡ true
    ready_by =
        sym (ready_both hosts a b (Crossed (crossing.Answer kind f) ∷ ms) ours story)
        ∙ (both (stay.ready a b (events_of (Crossed (crossing.Answer kind f) ∷ ms))) (not (stay.takes_reset a b (event_in (Crossed (crossing.Answer kind f))))) on).0

    ready_now : program_phases.is_ready (answered_turn f.destination kind f.link.0 (turn_of (program a ms) f.destination)).pair.phase ≡ true
    ready_now =
        let accepts : program_phases.is_ready (pair_with b (accepted (program a ms) (inbound.Answer kind f) (places ms)).0.peers).phase ≡ true = rw mine at ready_by in
        ap (λ (q : PairState). program_phases.is_ready q.phase) (sym (accepted_pair (program a ms) kind f (places ms) own_is busy_there))
        ∙ subst (λ (h : Host). program_phases.is_ready (pair_with h (accepted (program a ms) (inbound.Answer kind f) (places ms)).0.peers).phase ≡ true) peer_host accepts

    told_are : (kept_in (Crossed (crossing.Answer kind f) ∷ ms)).book.lives ≡ all_lives a [] (kept_in ms).book.lives
    told_are =
        ap (λ (g : Host). (all_told g (accepted (program g ms) (inbound.Answer kind f) (places ms)).1 (crossed (crossing.Answer kind f) (kept_in ms))).book.lives) (sym own_host)
        ∙ told_lives a (accepted (program a ms) (inbound.Answer kind f) (places ms)).1 (crossed (crossing.Answer kind f) (kept_in ms))
        ∙ ap (λ (ns : List Notice). all_lives a ns (kept_in ms).book.lives)
        (accepted_told (program a ms) kind f (places ms) own_is busy_there ∙ answered_quiet f.destination kind f.link.0 (turn_of (program a ms) f.destination) refl ready_now)

    -- the calls lead to the program's ends
    ends_are : ends_after b Call ≡ (pair_with b (program a (Crossed (crossing.Answer kind f) ∷ ms)).peers).entries
    ends_are =
        let c : Chained a b (Crossed (crossing.Answer kind f) ∷ ms) = chain hosts addresses (Crossed (crossing.Answer kind f) ∷ ms) run time a b ours in
        let last : ends_now b (calls_by a b (Crossed (crossing.Answer kind f)) ms ++ own_calls a b ms) ≡ (pair_with b (program a (Crossed (crossing.Answer kind f) ∷ ms)).peers).entries = rw on at c.1 in
        subst (λ (ks : List calls.Moment). ends_now b (ks ++ own_calls a b ms) ≡ (pair_with b (program a (Crossed (crossing.Answer kind f) ∷ ms)).peers).entries) calls_are last

    answer_next : Carries number a b ms → Carries number a b (Crossed (crossing.Answer kind f) ∷ ms)
    answer_next c =
        single_next number tells hosts a b ours (Crossed (crossing.Answer kind f)) ms addresses run time below time.1 on Call calls_are refl ends_are
        (history_at number tells hosts addresses a b ours allowed (Crossed (crossing.Answer kind f)) ms (Call ∷ []) run time on calls_are)
        (allowed_at number tells hosts addresses a b ours allowed (Crossed (crossing.Answer kind f)) ms (Call ∷ []) run time on calls_are)
        (placed_in number tells hosts addresses a b ours allowed ms below time.1 0).2.refusing tt
        (told_are ∙ call_told a b (pair_with b (program a ms).peers) (program a ms).listening (Answered f.link.0) tt (kept_in ms).book.lives) c

  pub keeps_answer : (kind : Answer) (f : Flow) (ms : List Moment)
      → mail.IsRun hosts.all (crossings_of (Crossed (crossing.Answer kind f) ∷ ms))
      → Happened hosts (Crossed (crossing.Answer kind f) ∷ ms)
      → keeps a b (event_in (Crossed (crossing.Answer kind f))) (events_of ms) ≡ true → (same_host a f.source && same_host b f.destination) ≡ true → Carries number a b ms → Carries number a b (Crossed (crossing.Answer kind f) ∷ ms)
  keeps_answer kind f ms run time on these c =
      let t : (same_host a f.source ≡ true) × (same_host b f.destination ≡ true) = both (same_host a f.source) (same_host b f.destination) these in
      answer_next kind f ms run time on t.0 t.1 c
