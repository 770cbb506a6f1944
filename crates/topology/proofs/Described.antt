-- A document describes only topologies that keep the rules.
use Rattle.topology.proofs.Common.{most_imps, ImpHosts, LineEnds}
use Rattle.topology.specs.declared.network.CarrierKind.{CarrierKind}
use Rattle.toml.specs.Parse.{parse_document}
use Rattle.std.proofs.Common.{◌≡◌, ◌+◌, ◌&&◌, ◌==◌, ℕ, Bool, true, false, List, [], Option, Some, None, codes, if◌then◌else◌, refl, subst}
use Rattle.toml.specs.Data.{Data, Members, get, table}
use Rattle.topology.specs.Topology.{IsTopology, TopologyFields, all_placed, are_imps, are_lines, by_number, carrier_of, hosts_of, imps_of, items_at, known_members, lines_of, network_of, raw_of, size, topology_by, topology_from, topology_if, topology_if_read, topology_in, topology_of}
use Rattle.topology.proofs.Order.{numbered_rising}
use Rattle.topology.proofs.Picked.{naming_keeps, none_picked}

fits : (placed good joined : Bool) (n t : TopologyFields) → topology_if (placed && (good && joined)) n ≡ Some t
    → (good ≡ true) × (joined ≡ true) × (n ≡ t)
fits true true true n t e = (refl, refl, (let same : Some n ≡ Some t = e in cc))
fits true true false n t e = absurd (cc)
fits true false joined n t e = absurd (cc)
fits false good joined n t e = absurd (cc)

by_keeps : (carrier : CarrierKind) (raw : Bool) (imps : List ImpHosts) (lines : List LineEnds) (t : TopologyFields)
    → topology_by carrier raw imps lines ≡ Some t → IsTopology t
by_keeps carrier raw imps lines t e =
    let all : List ImpHosts = by_number imps in
    let n : TopologyFields = record { carrier = carrier; raw = raw; imps = all; lines = lines; strangers = [] } in
    let (good, joined, is) = fits (all_placed imps) (are_imps all) (are_lines all lines) n t e in
    subst IsTopology is (record {
      imps = good;
      rising = numbered_rising imps (most_imps + 1);
      lines = joined;
      strangers = none_picked (hosts_of n) [] refl;
      programs = λ raw. refl;
    })

from_keeps : (carrier : Option CarrierKind) (raw : Option Bool) (imps : Option (List ImpHosts))
    (lines : Option (List LineEnds)) (t : TopologyFields) → topology_from carrier raw imps lines ≡ Some t
    → IsTopology t
from_keeps None raw imps lines t e = absurd (cc)
from_keeps (Some carrier) None imps lines t e = absurd (cc)
from_keeps (Some carrier) (Some raw) None lines t e = absurd (cc)
from_keeps (Some carrier) (Some raw) (Some imps) None t e = absurd (cc)
from_keeps (Some carrier) (Some raw) (Some imps) (Some lines) t e = by_keeps carrier raw imps lines t e

network_keeps : (d : Data) (t : TopologyFields) → network_of d ≡ Some t → IsTopology t
network_keeps d t e = by (size d == known_members d) e where
  found : Option TopologyFields
  found =
      topology_from (carrier_of (get (codes "carrier") d)) (raw_of (get (codes "raw") d))
      (imps_of (get (codes "imp") d)) (lines_of (get (codes "line") d))

  by : (known : Bool) → (if known then found else None) ≡ Some t → IsTopology t
  by true e =
      from_keeps (carrier_of (get (codes "carrier") d)) (raw_of (get (codes "raw") d))
      (imps_of (get (codes "imp") d)) (lines_of (get (codes "line") d)) t e
  by false e = absurd (cc)

data_keeps : (d : Data) (t : TopologyFields) → topology_of d ≡ Some t → IsTopology t
data_keeps d t e = naming_keeps (items_at (codes "imp") d) (network_of d) (network_keeps d) t e

read_keeps : (o : Option Members) (t : TopologyFields) → topology_if_read o ≡ Some t → IsTopology t
read_keeps None t e = absurd (cc)
read_keeps (Some all) t e = data_keeps (table all) t e

pub described_keeps : (text : List ℕ) (t : TopologyFields) → topology_in text ≡ Some t → IsTopology t
described_keeps text t e = read_keeps (parse_document text) t e
