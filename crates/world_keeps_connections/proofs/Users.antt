-- What users know is so, over any list of moments.
use Rattle.world_keeps_connections.proofs.Common.{◌≡◌, true, List, [], refl, sym, subst, Host, is_receive_socket, is_send_socket, Sockets, IsIn, ArePartners, Knows, HaveAddresses, Moment, crossings_of, Coupled, origin_in, AllTied, all_tied, known_in}
use Rattle.interface.specs.Mailboxes as mail
use Rattle.pairing_law.specs.Links.{events_at, receiver, sender}
use Rattle.pairing_law.specs.Sides.{Life, Side}
use Rattle.pairing_law.proofs.lemmas.{run_at}
use Rattle.host_keeps_pairing.proofs.lemmas.{known_match}
use Rattle.world_keeps_pairing.specs.Free.{law_events}
use Rattle.world_keeps_pairing.specs.Steps.{steps}
use Rattle.reset_law.specs.Network.{AreOurs, Network}
use Rattle.net_sim.specs.Mixed.{Happened}
use Rattle.net_sim.proofs.lemmas.{coupled}
use Rattle.world_keeps_pairing.proofs.lemmas.{are_origins, receiver_half, sender_half, served_in}
use Rattle.world_keeps_connections.proofs.Known.{AllKnown, all_known_at}

known : (hosts : Network) (moments : List Moment) → HaveAddresses hosts.all → mail.IsRun hosts.all (crossings_of moments) → Happened hosts moments → AllKnown hosts (origin_in (crossings_of moments)) moments
known hosts moments addresses run time =
    let c : Coupled hosts moments = coupled hosts addresses moments run time in
    all_known_at hosts (origin_in (crossings_of moments)) moments (are_origins 0 (crossings_of moments) [] moments refl) c.story c.run (served_in hosts moments time)

tied : (hosts : Network) (moments : List Moment) → HaveAddresses hosts.all → mail.IsRun hosts.all (crossings_of moments)
    → Happened hosts moments → AllTied hosts (origin_in (crossings_of moments)) moments
tied hosts moments addresses run time =
    let c : Coupled hosts moments = coupled hosts addresses moments run time in
    all_tied hosts (origin_in (crossings_of moments)) moments (are_origins 0 (crossings_of moments) [] moments refl) c.story c.run (served_in hosts moments time)

pub at_receiver : (hosts : Network) (moments : List Moment) → HaveAddresses hosts.all → mail.IsRun hosts.all (crossings_of moments) → Happened hosts moments → (a b : Host) → AreOurs hosts a b → (s : Sockets) → is_receive_socket s.receive ≡ true → is_send_socket s.send ≡ true
    → Knows (known_in (origin_in (crossings_of moments) a b) a b s.receive s.send moments) (receiver s (steps a b (law_events moments))).end
at_receiver hosts moments addresses run time a b ours s even odd =
    subst (λ (x : Side). Knows (known_in (origin_in (crossings_of moments) a b) a b s.receive s.send moments) x.end) (sym (receiver_half s a b (law_events moments)))
    ((known hosts moments addresses run time).receiver s (even, odd) a b ours)

pub at_sender : (hosts : Network) (moments : List Moment) → HaveAddresses hosts.all → mail.IsRun hosts.all (crossings_of moments) → Happened hosts moments → (a b : Host) → AreOurs hosts a b → (s : Sockets) → is_receive_socket s.receive ≡ true → is_send_socket s.send ≡ true
    → Knows (known_in (origin_in (crossings_of moments) b a) b a s.send s.receive moments) (sender s (steps a b (law_events moments))).end
at_sender hosts moments addresses run time a b ours s even odd =
    subst (λ (x : Side). Knows (known_in (origin_in (crossings_of moments) b a) b a s.send s.receive moments) x.end) (sym (sender_half s a b (law_events moments)))
    ((known hosts moments addresses run time).sender s (even, odd) a b ours)

pub known_partners : (hosts : Network) (moments : List Moment) → HaveAddresses hosts.all → mail.IsRun hosts.all (crossings_of moments) → Happened hosts moments → (a b : Host) → AreOurs hosts a b → (s : Sockets) → is_receive_socket s.receive ≡ true → is_send_socket s.send ≡ true
    → (x y : Life) → IsIn x (known_in (origin_in (crossings_of moments) a b) a b s.receive s.send moments) → IsIn y (known_in (origin_in (crossings_of moments) b a) b a s.send s.receive moments) → ArePartners x y
known_partners hosts moments addresses run time a b ours s even odd x y i j =
    known_match (events_at s (steps a b (law_events moments))) (known_in (origin_in (crossings_of moments) a b) a b s.receive s.send moments) (known_in (origin_in (crossings_of moments) b a) b a s.send s.receive moments) x y
    (run_at s (steps a b (law_events moments)) ((tied hosts moments addresses run time).tied a b ours).steps)
    (at_receiver hosts moments addresses run time a b ours s even odd) (at_sender hosts moments addresses run time a b ours s even odd) i j
