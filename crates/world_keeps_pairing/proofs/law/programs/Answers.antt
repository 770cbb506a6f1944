use Rattle.world_keeps_pairing.proofs.Common.{Bool, List, [], refl, sym, subst, Host, HaveAddresses, Moment, program, crossings_of, pair_with, HasEnd, Side, events_at, run_at, safe_run, steps, law_events, origin_in, AreOurs, Network, Happened}
use Rattle.net_sim.proofs.lemmas.{Coupled, coupled}
use Rattle.interface.specs.Mailboxes as mail
use Rattle.world_keeps_pairing.proofs.Served.{served_in}
use Rattle.world_keeps_pairing.proofs.LinkRun.{all_tied}
use Rattle.world_keeps_pairing.proofs.Origins.{are_origins}
use Rattle.world_keeps_pairing.proofs.Sides.{receiver_half, sender_half}
use Rattle.world_keeps_pairing.proofs.Tied.{Tied}
use Rattle.world_keeps_pairing.proofs.law.programs.Goals as goal

tied : (hosts : Network) (moments : List Moment) → HaveAddresses hosts.all → mail.IsRun hosts.all (crossings_of moments) → Happened hosts moments → (a b : Host) → AreOurs hosts a b → Tied (origin_in (crossings_of moments)) a b moments
tied hosts moments addresses run time a b ours =
    let c : Coupled hosts moments = coupled hosts addresses moments run time in
    (all_tied hosts _ moments (are_origins 0 _ [] moments refl) c.story c.run (served_in hosts moments time)).tied a b ours

pub returns : goal.returns
returns c = record {
  steps = λ hosts moments addresses run time a b ours. (tied hosts moments addresses run time a b ours).steps;
  receiver = λ hosts moments addresses run time a b ours s even odd.
      subst (λ (x : Side). HasEnd (origin_in (crossings_of moments) a b) s.receive s.send (pair_with b (program a moments).peers) x.end) (sym (receiver_half s a b (law_events moments)))
      ((tied hosts moments addresses run time a b ours).receiver s (even, odd));
  sender = λ hosts moments addresses run time a b ours s even odd.
      subst (λ (x : Side). HasEnd (origin_in (crossings_of moments) b a) s.send s.receive (pair_with a (program b moments).peers) x.end) (sym (sender_half s a b (law_events moments)))
      ((tied hosts moments addresses run time a b ours).sender s (even, odd));
  partners = λ hosts moments addresses run time a b ours s.
      safe_run (events_at s (steps a b (law_events moments))) (run_at s (steps a b (law_events moments)) (tied hosts moments addresses run time a b ours).steps);
}
