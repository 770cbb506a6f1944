-- Octets are one input.
use Rattle.command_line.proofs.Common.{TopologyFields, Describes, IsInput, are_some}
use Rattle.world_script.proofs.lemmas.{world_asked_once}
use Rattle.std.proofs.Common.{◌≡◌, ℕ, Bool, true, false, List, Some, ap, sym, ◌∙◌, subst}
use Rattle.script.proofs.lemmas.{parted_once, SameInput, asked_once}
use Rattle.command_line.specs.Events.{Raw, World, AsksFor, Asked}
use Rattle.script.specs.Script.{lines_of}

network_once : (document : List ℕ) (network other : TopologyFields) → Describes document network → Describes document other → network ≡ other
network_once document network other h k =
    let found : Some network ≡ Some other = sym h ∙ k in
    cc

-- lines ask for one list of events
events_once : (raw among : Bool) (events others : Asked) (lines : List (List ℕ)) → AsksFor raw among events lines → AsksFor raw among others lines → events ≡ others
events_once true among (Raw events) (Raw others) lines h k = ap Raw (asked_once events others lines h k)
events_once true among (Raw events) (World others) lines h k = absurd k
events_once true among (World events) others lines h k = absurd h
events_once false among (World events) (World others) lines h k = ap World (world_asked_once among events others lines h k)
events_once false among (World events) (Raw others) lines h k = absurd k
events_once false among (Raw events) others lines h k = absurd h

pub record OneInput (network other : TopologyFields) (events others : Asked) : Type 0 where
  pub same_network : network ≡ other
  pub same_events : events ≡ others

pub input_once : (octets : List ℕ) (network other : TopologyFields) (events others : Asked) → IsInput octets network events → IsInput octets other others → OneInput network other events others
input_once octets network other events others p q =
    let same : SameInput p.document p.script q.document q.script = parted_once octets p.document p.script q.document q.script p.parted q.parted in
    let networks : network ≡ other = network_once q.document network other (subst (λ t. Describes t network) same.topologies p.described) q.described in
    record {
      same_network = networks;
      same_events = events_once other.raw (are_some other.strangers) events others (lines_of q.script)
          (subst (λ (t : TopologyFields). AsksFor t.raw (are_some t.strangers) events (lines_of q.script)) networks
          (subst (λ (lines : List (List ℕ)). AsksFor network.raw (are_some network.strangers) events lines) same.scripts p.asked)) q.asked;
    }
