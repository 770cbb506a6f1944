-- Where two hosts of a world meet both streams begin.
use Rattle.world_keeps_streams.proofs.Common.{◌≡◌, ℕ, ◌==◌, Bool, true, false, not, ◌&&◌, if◌then◌else◌, List, [], ◌∷◌, ◌++◌, refl, ap, sym, subst, ◌∙◌, Host, same_host, HostMessage, Command, PairState, ends_now, pair, begins_either, contradicts, Fresh, begins_fresh, accepted, pair_with, HaveAddresses, Asked, Crossed, Moment, event_in, events_of, places, program, crossings_of, Coupled, by_request, program_own, coupled, keeps, AText, AnRrp, AnRst, Sort, mail_below, sort_of, calls_by, own_calls, AreOurs, Network, Happened}
use Rattle.interface.proofs.lemmas.{same_host-true, and_true}
use Rattle.reset_law.specs.Events.{Message, In, Reset}
use Rattle.reset_law.specs.Stays.{begins, ready, takes_reset, stays}
use Rattle.interface.specs.Mailboxes as mail
use Rattle.interface.specs.declared.crossing.Crossing.TheVariants as crossing
use Rattle.interface.specs.declared.crossing.Inbound.TheVariants as inbound
use Rattle.host_keeps_streams.specs.Histories as calls
use Rattle.reset_law.specs.Runs.{IsRun}
use Rattle.world_keeps_streams.proofs.Calls.Allowed.{may_calls}
use Rattle.world_keeps_streams.proofs.Stays.Calm.{Calm, One, Still, reset_drops}
use Rattle.world_keeps_streams.proofs.Calls.Chain.{chain, idle, ready_both}
use Rattle.world_keeps_streams.proofs.Steps.Joined.{Joined}
use Rattle.world_keeps_streams.proofs.Calls.May.{AllMay}
use Rattle.world_keeps_streams.proofs.Stays.Meeting.{Alone, met}
use Rattle.world_keeps_streams.proofs.Stays.Quiet.{IsSolo, no_more, solo_more}
use Rattle.world_keeps_streams.proofs.Stays.Resets.{begins_stays, free_control, free_links, goes_on}
use Rattle.world_keeps_streams.proofs.Stays.Solo.{calm, silent_before}

-- ---- a host that leaves has nothing to say any more

in_drops : (a b : Host) (m : HostMessage) (moments : List Moment) → Sort m.flow.link.0 m.text → takes_reset a b (event_in (Crossed (crossing.In m))) ≡ true → (pair_with b (program a (Crossed (crossing.In m) ∷ moments)).peers).queue ≡ []
in_drops a b m moments (AnRst zero orders is) takes =
    let reset : takes_reset a b (In m.flow.source m.flow.destination m.flow.link.0 Reset) ≡ true =
    subst (λ (n : Message). takes_reset a b (In m.flow.source m.flow.destination m.flow.link.0 n) ≡ true) is takes in
    let both : (same_host a m.flow.destination ≡ true) × (same_host b m.flow.source ≡ true) = and_true (same_host a m.flow.destination) (same_host b m.flow.source) reset in
    let here : same_host a m.flow.destination ≡ true = both.0 in
    let own : same_host (program a moments).own m.flow.destination ≡ true = ap (λ (g : Host). same_host g m.flow.destination) (program_own a moments) ∙ here in
    rw here (subst (λ (h : Host). (pair_with h (accepted (program a moments) (inbound.Message m) (places moments)).0.peers).queue ≡ []) (sym (same_host-true b m.flow.source both.1))
    (reset_drops (program a moments) (places moments) m own zero orders))
in_drops a b m moments (AnRrp zero orders is) takes =
    absurd (let no : false ≡ true = subst (λ (n : Message). takes_reset a b (In m.flow.source m.flow.destination m.flow.link.0 n) ≡ true) is takes in cc)
in_drops a b m moments (AText is) takes =
    absurd (let no : false ≡ true = subst (λ (n : Message). takes_reset a b (In m.flow.source m.flow.destination m.flow.link.0 n) ≡ true) is takes in cc)

drops : (a b : Host) (x : Moment) (moments : List Moment) → takes_reset a b (event_in x) ≡ true → (pair_with b (program a (x ∷ moments)).peers).queue ≡ []
drops a b (Crossed (crossing.In m)) moments takes = in_drops a b m moments (sort_of m.flow.link.0 m.text) takes
drops a b (Crossed c) moments takes = absurd (let no : false ≡ true = takes in cc)
drops a b (Asked h r) moments takes =
    absurd (contradicts (takes_reset a b (event_in (Asked h r))) takes (by_request (λ e. takes_reset a b e ≡ false) h r (λ peer. refl) refl))

-- ---- what it does afterwards, until its peer has met it

module _ (hosts : Network) (addresses : HaveAddresses hosts.all) (a b : Host) (ours : AreOurs hosts a b) where
  abbrev Solo : List Moment → Type 0
  Solo moments = IsSolo b (own_calls a b moments) (pair_with b (program a moments).peers).queue

  leaves_empty : (x : Moment) (moments : List Moment) → mail.IsRun hosts.all (crossings_of (x ∷ moments)) → Happened hosts (x ∷ moments) → keeps a b (event_in x) (events_of moments) ≡ false
      → (pair_with b (program a (x ∷ moments)).peers).queue ≡ []
  leaves_empty x moments run time left = by (ready a b (events_of (x ∷ moments))) (takes_reset a b (event_in x)) refl refl left where
    by : (r t : Bool) → ready a b (events_of (x ∷ moments)) ≡ r → takes_reset a b (event_in x) ≡ t → (r && not t) ≡ false → (pair_with b (program a (x ∷ moments)).peers).queue ≡ []
    by true true e f g = drops a b x moments f
    by true false e f g = absurd (let no : true ≡ false = g in cc)
    by false t e f g = (idle hosts addresses (x ∷ moments) run time a b ours (sym (ready_both hosts a b (x ∷ moments) ours (coupled hosts addresses (x ∷ moments) run time).story) ∙ e)).1

  none_left : (x : Moment) (moments : List Moment) → mail.IsRun hosts.all (crossings_of (x ∷ moments)) → Happened hosts (x ∷ moments) → keeps a b (event_in x) (events_of moments) ≡ false → Solo (x ∷ moments)
  none_left x moments run time left =
      subst (λ (v : Bool). IsSolo b (if v then calls_by a b x moments ++ own_calls a b moments else []) (pair_with b (program a (x ∷ moments)).peers).queue) (sym left)
      (subst (λ (cs : List Command). IsSolo b [] cs) (sym (leaves_empty x moments run time left)) (no_more []))

  -- one call more
  grows : (x : Moment) (moments : List Moment) (cs : List calls.Moment)
      → Calm b (pair_with b (program a moments).peers) (pair_with b (program a (x ∷ moments)).peers) cs → AllMay cs → ends_now b (own_calls a b moments) ≡ (pair_with b (program a moments).peers).entries
      → Solo moments → IsSolo b (cs ++ own_calls a b moments) (pair_with b (program a (x ∷ moments)).peers).queue
  grows x moments cs (Still none more) may ends h =
      subst (λ (l : List calls.Moment). IsSolo b (l ++ own_calls a b moments) (pair_with b (program a (x ∷ moments)).peers).queue) (sym none)
      (solo_more b (own_calls a b moments) (pair_with b (program a moments).peers).queue (pair_with b (program a (x ∷ moments)).peers).queue h more)
  grows x moments cs (One m one same quiet more) may ends h =
      let first : AllMay (m ∷ []) = subst AllMay one may in
      subst (λ (l : List calls.Moment). IsSolo b (l ++ own_calls a b moments) (pair_with b (program a (x ∷ moments)).peers).queue) (sym one)
      (quiet first.0, ap (λ (q : PairState). q.entries) same ∙ sym ends, subst (λ (q : PairState). IsSolo b (own_calls a b moments) q.queue) (sym same) h, more)

  abbrev Waits : List Moment → Type 0
  Waits moments = stays a b (events_of moments) ≡ false → (pair a b (events_of moments)).begun ≡ false → Solo moments

  -- after one moment more, also where it begins to stay
  solo_next : (x : Moment) (moments : List Moment) → mail.IsRun hosts.all (crossings_of (x ∷ moments)) → Happened hosts (x ∷ moments) → Waits moments → stays a b (events_of moments) ≡ false
      → (pair a b (events_of (x ∷ moments))).begun ≡ false → Solo (x ∷ moments)
  solo_next x moments run time old left silent = by (keeps a b (event_in x) (events_of moments)) refl where
    below : mail.IsRun hosts.all (crossings_of moments)
    below = mail_below hosts.all x moments run

    now : Coupled hosts (x ∷ moments)
    now = coupled hosts addresses (x ∷ moments) run time

    by : (k : Bool) → keeps a b (event_in x) (events_of moments) ≡ k → Solo (x ∷ moments)
    by false k = none_left x moments run time k
    by true k =
        let before : (pair a b (events_of moments)).begun ≡ false = silent_before a b (event_in x) (events_of moments) k silent in
        subst (λ (v : Bool). IsSolo b (if v then calls_by a b x moments ++ own_calls a b moments else []) (pair_with b (program a (x ∷ moments)).peers).queue) (sym k)
        (grows x moments (calls_by a b x moments) (calm a b hosts moments (coupled hosts addresses moments below time.1) ours x now.story now.run k left silent)
        (may_calls hosts addresses x moments run time a b ours) (chain hosts addresses moments below time.1 a b ours).1 (old left before))

  solo : (moments : List Moment) → mail.IsRun hosts.all (crossings_of moments) → Happened hosts moments → Waits moments
  solo [] run time left silent = no_more []
  solo (x ∷ moments) run time left silent = by (keeps a b (event_in x) (events_of moments)) refl (solo moments (mail_below hosts.all x moments run) time.1) where
    by : (k : Bool) → keeps a b (event_in x) (events_of moments) ≡ k → Waits moments → Solo (x ∷ moments)
    by false k old = none_left x moments run time k
    by true k old = solo_next x moments run time old (was (stays a b (events_of moments)) refl) silent where
      was : (s : Bool) → stays a b (events_of moments) ≡ s → stays a b (events_of moments) ≡ false
      was false e = e
      was true e = absurd (contradicts (stays a b (events_of (x ∷ moments))) (goes_on a b (event_in x) (events_of moments) k e) left)

  -- where it begins to stay
  pub solo_there : (x : Moment) (moments : List Moment) → mail.IsRun hosts.all (crossings_of (x ∷ moments)) → Happened hosts (x ∷ moments) → stays a b (events_of moments) ≡ false
      → (pair a b (events_of (x ∷ moments))).begun ≡ false → Solo (x ∷ moments)
  solo_there x moments run time left silent = solo_next x moments run time (solo moments (mail_below hosts.all x moments run) time.1) left silent

  alone_there : (x : Moment) (moments : List Moment) (link : ℕ) → (link == 0) ≡ false → mail.IsRun hosts.all (crossings_of (x ∷ moments)) → Happened hosts (x ∷ moments) → begins a b (event_in x) (events_of moments) ≡ true
      → Alone a b link (x ∷ moments)
  alone_there x moments link off run time begun =
      let law : IsRun hosts (events_of (x ∷ moments)) = (coupled hosts addresses (x ∷ moments) run time).run in
      let f : Fresh a b (event_in x) (events_of moments) = begins_fresh hosts (event_in x) (events_of moments) law a b ours begun in
      record {
        stays = begins_stays a b (event_in x) (events_of moments) begun;
        solo = solo_there x moments run time f.left f.silent;
        ends = (chain hosts addresses (x ∷ moments) run time a b ours).1;
        control = (free_control hosts (event_in x) (events_of moments) law a b ours begun).0;
        free = (free_links hosts (event_in x) (events_of moments) law a b ours begun link off).0;
      }

-- ---- both

pub meets : (link : ℕ) → (link == 0) ≡ false → (hosts : Network) → HaveAddresses hosts.all → (a b : Host) → AreOurs hosts a b → (x : Moment) (moments : List Moment) → mail.IsRun hosts.all (crossings_of (x ∷ moments)) → Happened hosts (x ∷ moments)
    → begins a b (event_in x) (events_of moments) ≡ true → Joined a b link (x ∷ moments)
meets link off hosts addresses a b ours x moments run time begun =
    met link off a b (x ∷ moments) (alone_there hosts addresses a b ours x moments link off run time begun)
    (alone_there hosts addresses b a (ours.1, ours.0) x moments link off run time (sym (begins_either a b (event_in x) (events_of moments)) ∙ begun))
