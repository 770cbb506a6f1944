-- Each call of a world's programs may be made.
use Rattle.world_keeps_streams.proofs.Common.{◌≡◌, ℕ, ◌&&◌, Bool, true, false, if◌then◌else◌, List, [], ◌∷◌, None, Option, Some, refl, ap, sym, subst, ◌∙◌, Host, same_host, Flow, Answer, HostMessage, same_host-true, is_busy, PairState, Parcel, AreCommands, IsRanged, pair_range, HasEnd, End, turn_of, pair_with, refusal, next_in, Peer, Request, next_is, next_pair, HaveAddresses, Asked, Crossed, Moment, places, program, crossings_of, Coupled, coupled, origin_in, calls_by, message_calls, next_calls, parcel_calls, request_calls, AreOurs, Network, Happened}
use Rattle.world_keeps_pairing.proofs.lemmas.{AllBare, AllTied, AreOrigins, all_bare, all_tied, are_origins, mail_below, programs_ranged, takes, served_in, AreServed}
use Rattle.world_keeps_streams.proofs.Calls.Chain.{plain_at}
use Rattle.interface.specs.Mailboxes as mail
use Rattle.interface.specs.declared.crossing.Crossing.TheVariants as crossing
use Rattle.host_keeps_streams.specs.Histories as calls
use Rattle.world_keeps_streams.proofs.Calls.CallSizes.{all_sized}
use Rattle.world_keeps_streams.proofs.Calls.May.{AllMay}
use Rattle.world_keeps_streams.proofs.Calls.MayAsk.{AreSized, parcel_may, request_may}
use Rattle.world_keeps_streams.proofs.Calls.MayHear.{has_end, message_may}

-- what is known of the programs before a moment
pub record IsKnown (hosts : Network) (origin : Host → Host → ℕ → ℕ) (moments : List Moment) : Type 0 where
  pub tied : AllTied hosts origin moments
  pub bare : AllBare hosts origin moments
  pub ranged : (h : Host) → hosts.strange h ≡ false → IsRanged (program h moments)

pub known : (hosts : Network) (origin : Host → Host → ℕ → ℕ) → HaveAddresses hosts.all → (moments : List Moment) → mail.IsRun hosts.all (crossings_of moments) → Happened hosts moments → AreOrigins origin moments → IsKnown hosts origin moments
known hosts origin addresses moments run time from =
    let c : Coupled hosts moments = coupled hosts addresses moments run time in
    let served : AreServed hosts moments = served_in hosts moments time in
    record { tied = all_tied hosts origin moments from c.story c.run served; bare = all_bare hosts origin moments from c.story c.run run served; ranged = programs_ranged hosts moments served }

module _ (hosts : Network) (addresses : HaveAddresses hosts.all) (moments : List Moment) (a b : Host)
    (ours : AreOurs hosts a b) where
  out_may : (origin : Host → Host → ℕ → ℕ) → IsKnown hosts origin moments → Coupled hosts moments → AreSized (pair_with b (program a moments).peers).entries → AllMay (next_calls b (places moments) (program a moments).listening (next_in (program a moments).peers))
  out_may origin k c sized = by (next_in (program a moments).peers) refl where
    by : (o : Option (Peer × Parcel)) → next_in (program a moments).peers ≡ o → AllMay (next_calls b (places moments) (program a moments).listening o)
    by None f = tt
    by (Some (g, x)) f = at (same_host b g.host) refl where
      at : (d : Bool) → same_host b g.host ≡ d → AllMay (if d then parcel_calls b (places moments) x g.pair (program a moments).listening else [])
      at true e =
          let is : b ≡ g.host = same_host-true b g.host e in
          let old : pair_with b (program a moments).peers ≡ g.pair = ap (λ (h : Host). pair_with h (program a moments).peers) is ∙ next_pair (program a moments).peers g x (c.order a ours.0) f in
          let queue : AreCommands (pair_with b (program a moments).peers).queue = (pair_range b (program a moments).peers (k.ranged a ours.0).pairs).commands in
          parcel_may (origin a b) b (places moments) g.pair x (program a moments).listening (next_is g x (program a moments).peers f)
          (subst (λ (q : PairState). AreCommands q.queue) old queue) (subst (λ (q : PairState). AreSized q.entries) old sized)
          (subst (λ (q : PairState). (own foreign : ℕ) → (y : End) × HasEnd (origin a b) own foreign q y) old (λ own foreign. has_end hosts origin moments k.tied k.bare a b ours own foreign))
      at false e = tt

  in_may : (m : HostMessage) → mail.IsRun hosts.all (crossings_of (Crossed (crossing.In m) ∷ moments))
      → Happened hosts (Crossed (crossing.In m) ∷ moments) → AllMay (calls_by a b (Crossed (crossing.In m)) moments)
  in_may m run time = by (same_host a m.flow.destination) (same_host b m.flow.source) refl refl where
    o : Host → Host → ℕ → ℕ
    o = origin_in (crossings_of (Crossed (crossing.In m) ∷ moments))

    from : AreOrigins o (Crossed (crossing.In m) ∷ moments)
    from = are_origins 0 (crossings_of (Crossed (crossing.In m) ∷ moments)) [] (Crossed (crossing.In m) ∷ moments) refl

    k : IsKnown hosts o moments
    k = known hosts o addresses moments (mail_below hosts.all (Crossed (crossing.In m)) moments run) time.1 from.1

    later : IsKnown hosts o (Crossed (crossing.In m) ∷ moments)
    later = known hosts o addresses (Crossed (crossing.In m) ∷ moments) run time from

    c : Coupled hosts (Crossed (crossing.In m) ∷ moments)
    c = coupled hosts addresses (Crossed (crossing.In m) ∷ moments) run time

    here : AreOurs hosts m.flow.source m.flow.destination → AllMay (message_calls m.flow.source (places moments) m.flow.link.0 m.text (turn_of (program m.flow.destination moments) m.flow.source))
    here our = message_may hosts o m moments our run c.story c.run from k.tied later.tied k.bare (takes hosts o (Crossed (crossing.In m)) moments c.story c.run k.ranged from.0 k.tied)

    by : (d e : Bool) → same_host a m.flow.destination ≡ d → same_host b m.flow.source ≡ e → AllMay (if d && e then message_calls b (places moments) m.flow.link.0 m.text (turn_of (program a moments) b) else [])
    by true true f g =
        subst (λ (h : Host). AllMay (message_calls b (places moments) m.flow.link.0 m.text (turn_of (program h moments) b))) (sym (same_host-true a m.flow.destination f))
        (subst (λ (h : Host). AllMay (message_calls h (places moments) m.flow.link.0 m.text (turn_of (program m.flow.destination moments) h))) (sym (same_host-true b m.flow.source g)) (here (plain_at hosts b m.flow.source g ours.1, plain_at hosts a m.flow.destination f ours.0)))
    by true false f g = tt
    by false e f g = tt

  told_may : (kind : Answer) (f : Flow) → AllMay (calls_by a b (Crossed (crossing.Answer kind f)) moments)
  told_may kind f = by (same_host a f.source && same_host b f.destination) (is_busy (pair_with b (program a moments).peers).busy f.link.0) where
    by : (d e : Bool) → AllMay (if d then (if e then record { call = calls.Answered f.link.0; pair = pair_with b (program a moments).peers; listening = (program a moments).listening } ∷ [] else []) else [])
    by true true = (tt, tt)
    by true false = tt
    by false e = tt

  asked_may : (h : Host) (r : Request) → Coupled hosts moments
      → (same_host a h ≡ true → refusal (program h moments) r ≡ None) → AllMay (calls_by a b (Asked h r) moments)
  asked_may h r c may = by (same_host a h) refl where
    by : (d : Bool) → same_host a h ≡ d → AllMay (if d then request_calls b (program a moments) r else [])
    by true e = request_may (program a moments) b r (c.order a ours.0) (subst (λ (g : Host). refusal (program g moments) r ≡ None) (sym (same_host-true a h e)) (may e))
    by false e = tt

  -- where byte sizes are known
  sized_calls : (x : Moment) → mail.IsRun hosts.all (crossings_of (x ∷ moments)) → Happened hosts (x ∷ moments)
      → AreSized (pair_with b (program a moments).peers).entries → AllMay (calls_by a b x moments)
  sized_calls (Crossed (crossing.Out m)) run time sized =
      by (same_host a m.flow.source) where
        below : Coupled hosts moments
        below = coupled hosts addresses moments run.1 time.1

        from : AreOrigins (origin_in (crossings_of moments)) moments
        from = are_origins 0 (crossings_of moments) [] moments refl

        by : (d : Bool) → AllMay (if d then next_calls b (places moments) (program a moments).listening (next_in (program a moments).peers) else [])
        by true = out_may (origin_in (crossings_of moments)) (known hosts (origin_in (crossings_of moments)) addresses moments run.1 time.1 from) below sized
        by false = tt
  sized_calls (Crossed (crossing.In m)) run time sized = in_may m run time
  sized_calls (Crossed (crossing.Answer kind f)) run time sized = told_may kind f
  sized_calls (Crossed (crossing.Down h)) run time sized = tt
  sized_calls (Crossed (crossing.Up h)) run time sized = tt
  sized_calls (Asked h r) run time sized =
      asked_may h r (coupled hosts addresses moments run time.1) (λ e. (time.0 (plain_at hosts a h e ours.0)).2)

-- each call of a moment may be made
pub may_calls : (hosts : Network) → HaveAddresses hosts.all → (x : Moment) (moments : List Moment) → mail.IsRun hosts.all (crossings_of (x ∷ moments)) → Happened hosts (x ∷ moments) → (a b : Host) → AreOurs hosts a b → AllMay (calls_by a b x moments)
may_calls hosts addresses x moments run time a b ours = sized_calls hosts addresses moments a b ours x run time (all_sized hosts addresses moments (mail_below hosts.all x moments run) time.1 a b ours)
