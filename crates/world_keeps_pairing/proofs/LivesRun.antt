-- At all moments the lives of the book at a receiving socket and a sending one are some of those that the law says.
use Rattle.world_keeps_pairing.proofs.Common.{false, Bool, ◌≡◌, ℕ, true, List, [], ◌∷◌, refl, Host, same_host, HostMessage, IsRanged, Sockets, Who, Receiver, Sender, Moment, Crossed, Asked, IsStory, events_of, program, TakesFreeAt, AreOurs, Network}
use Rattle.interface.specs.declared.crossing.Crossing.TheVariants as crossing
use Rattle.reset_law.specs.Runs.{IsRun}
use Rattle.world_keeps_pairing.proofs.Served.{AreServed}
use Rattle.world_keeps_pairing.proofs.Listened.{in_among}
use Rattle.world_keeps_pairing.proofs.LinkRun.{AllTied, all_tied, takes}
use Rattle.world_keeps_pairing.proofs.Marks.{IsPair}
use Rattle.world_keeps_pairing.proofs.Messages.{Hears, IsFrom}
use Rattle.world_keeps_pairing.proofs.Moments.{Tie}
use Rattle.world_keeps_pairing.proofs.Opened.{Among, answer_among, asked_among, down_among, out_among, up_among}
use Rattle.world_keeps_pairing.proofs.Origins.{served_below}
use Rattle.world_keeps_pairing.proofs.Tied.{AreOrigins, programs_ranged, receiver_hears, sender_hears}

-- each moment
among_turn : (s : Sockets) (q : IsPair s) (who : Who) (h p : Host) (origin : ℕ → ℕ) (hosts : Network) (x : Moment) (moments : List Moment) → AreOurs hosts h p → IsStory hosts (x ∷ moments) → IsRun hosts (events_of (x ∷ moments)) → IsRanged (program h moments)
    → ((m : HostMessage) (our : AreOurs hosts m.flow.source m.flow.destination) (story : IsStory hosts (Crossed (crossing.In m) ∷ moments)) (run : IsRun hosts (events_of (Crossed (crossing.In m) ∷ moments))) → x ≡ Crossed (crossing.In m) → same_host h m.flow.destination ≡ true → same_host p m.flow.source ≡ true
    → Hears s q who origin hosts m moments our story run × IsFrom s q who origin hosts m moments our story run)
    → Tie s q who h p origin moments → Among s q who h p origin hosts moments → Among s q who h p origin hosts (x ∷ moments)
among_turn s q who h p origin hosts (Crossed (crossing.Out m)) moments ours story run ranged k t among = out_among s q who h p origin hosts ours m moments story ranged t among
among_turn s q who h p origin hosts (Crossed (crossing.In m)) moments ours story run ranged k t among = in_among s q who h p origin hosts m moments ours story run (λ our. k m our story run refl) t among
among_turn s q who h p origin hosts (Crossed (crossing.Answer kind f)) moments ours story run ranged k t among = answer_among s q who h p origin hosts ours kind f moments among
among_turn s q who h p origin hosts (Crossed (crossing.Down g)) moments ours story run ranged k t among = down_among s q who h p origin hosts ours g moments among
among_turn s q who h p origin hosts (Crossed (crossing.Up g)) moments ours story run ranged k t among = up_among s q who h p origin hosts ours g moments among
among_turn s q who h p origin hosts (Asked g r) moments ours story run ranged k t among = asked_among s q who h p origin hosts ours g r moments among

-- all pairs of hosts, one way and the other
pub record AllAmong (hosts : Network) (origin : Host → Host → ℕ → ℕ) (moments : List Moment) : Type 0 where
  pub receiver : (s : Sockets) (q : IsPair s) (a b : Host) → AreOurs hosts a b → Among s q Receiver a b (origin a b) hosts moments
  pub sender : (s : Sockets) (q : IsPair s) (a b : Host) → AreOurs hosts a b → Among s q Sender b a (origin b a) hosts moments

pub all_among : (hosts : Network) (origin : Host → Host → ℕ → ℕ) (moments : List Moment) → AreOrigins origin moments → IsStory hosts moments → IsRun hosts (events_of moments) → AreServed hosts moments → AllAmong hosts origin moments
all_among hosts origin [] from story run served = record { receiver = λ s q a b ours. tt; sender = λ s q a b ours. tt }
all_among hosts origin (x ∷ moments) from story run served =
    let below : AreServed hosts moments = served_below hosts x moments served in
    let old : AllAmong hosts origin moments = all_among hosts origin moments from.1 story.1 run.2 below in
    let t : AllTied hosts origin moments = all_tied hosts origin moments from.1 story.1 run.2 below in
    let next : AllTied hosts origin (x ∷ moments) = all_tied hosts origin _ from story run served in
    let ranged : (h : Host) → hosts.strange h ≡ false → IsRanged (program h moments) = programs_ranged hosts moments below in
    let free : TakesFreeAt hosts x moments = takes hosts origin x moments story run ranged from.0 t in
    record {
      receiver = λ s q a b ours. among_turn s q Receiver a b (origin a b) hosts x moments ours story run (ranged a ours.0) (λ m our story run is e f. receiver_hears hosts origin a b x moments from.0 free s q m our story run is e f (next.tied a b ours).steps) ((t.tied a b ours).receiver s q) (old.receiver s q a b ours);
      sender = λ s q a b ours. among_turn s q Sender b a (origin b a) hosts x moments (ours.1, ours.0) story run (ranged b ours.1) (λ m our story run is e f. sender_hears hosts origin a b x moments from.0 free s q m our story run is e f (next.tied a b ours).steps) ((t.tied a b ours).sender s q) (old.sender s q a b ours);
    }
