-- The same where all hosts run the program.
use Rattle.net_sim.proofs.Common.{◌≡◌, false, List, refl, Host, HaveAddresses, Moment, IsTimeline, crossings_of, kept_in}
use Rattle.interface.specs.Mailboxes as mail
use Rattle.reset_law.specs.Network.{all_ours}
use Rattle.net_sim.specs.Mixed.{Happened, mixed_kept}
use Rattle.net_sim.proofs.Books.Nobody.{any_mixed}
use Rattle.net_sim.proofs.Hosts.Telling.{kept_nobody}
use Rattle.net_sim.proofs.Resets.Coupled as among
use Rattle.net_sim.proofs.Resets.Coupled.{Coupled}

pub happened : (hosts : List Host) (moments : List Moment) → IsTimeline hosts moments → Happened (all_ours hosts) moments
happened hosts moments time = any_mixed (λ h. false) hosts moments time

pub coupled : (hosts : List Host) → HaveAddresses hosts → (moments : List Moment) → mail.IsRun hosts (crossings_of moments) → IsTimeline hosts moments → Coupled (all_ours hosts) moments
coupled hosts addresses moments run time = among.coupled (all_ours hosts) addresses moments run (happened hosts moments time)

pub kept_same : (moments : List Moment) → mixed_kept (λ h. false) moments ≡ kept_in moments
kept_same moments = kept_nobody (λ h. false) (λ h. refl) moments
