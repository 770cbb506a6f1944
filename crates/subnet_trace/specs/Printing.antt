-- What the contracts of private functions say. No public clause cites this file.
use Rattle.std.specs.Prelude.{◌≡◌, ℕ, Bool, List, [], ◌∷◌, ◌++◌, Option, Some, None, codes, if◌then◌else◌, map, nat_lt}
use Rattle.std.specs.Prelude.{slice_index_or, slice_set, ◌+◌}
use Rattle.std.specs.Fmt.{decimal}
use Rattle.std.specs.List.{flat_map}
use Rattle.imp_node.specs.Arrival.{Arrival, arrival_has_room}
use Rattle.imp_node.specs.State.{State}
use Rattle.interface.specs.declared.address.Flow.{Flow}
use Rattle.packetiser.specs.PacketFields.{PacketFields}
use Rattle.routing.specs.RouteTable.{Table, vector_of}
use Rattle.routing.specs.Vector.{infinite}
use Rattle.subnet.specs.Events.{is_imp}
use Rattle.subnet.specs.Net.{Net}
use Rattle.subnet_trace.specs.Fates.{arrival_fate}
use Rattle.subnet_trace.specs.Parts.{Part, Imp, flows_at, part_name, part_text}
use Rattle.subnet_trace.specs.Texts.{distances_text, heard_text, host_object, kept_of, next_text, packet_text}
use Rattle.subnet_trace.specs.Texts.{port_object, slot_text, sources_of}
use Rattle.trace.specs.Changes.{changed_flows}
use Rattle.trace.specs.Flows.{told}
use Rattle.trace.specs.Joined.{mark}
use Rattle.trace.specs.Texts.{array, member}
use Rattle.trace.specs.declared.fate.Fate.{Fate}
use Rattle.trace.specs.declared.flow_part.FlowPart.{FlowPart}
use Rattle.trace.specs.declared.flow_part.FlowState.{FlowState}
use Rattle.trace.specs.declared.flow_part.Side.{Side}
use Rattle.trace.specs.declared.fate.Fate.TheVariants as fates

-- ---- distances and ports

-- a number under the number of an IMP, after this many others, if it is there
abbrev pub number_behind : ℕ → ℕ → ℕ → Bool → List ℕ
number_behind place imp number there = if there then mark (codes "{") (codes ",") place ++ member (decimal imp) (decimal number) else []

-- the distance to an IMP; nothing where there is no way
abbrev pub distance_behind : ℕ → ℕ → ℕ → List ℕ
distance_behind place imp d = number_behind place imp d (nat_lt d infinite)

-- the port to an IMP, if there is one
abbrev pub next_behind : ℕ → ℕ → Option ℕ → List ℕ
next_behind place imp None = []
next_behind place imp (Some port) = mark (codes "{") (codes ",") place ++ member (decimal imp) (decimal port)

abbrev pub place_after : ℕ → Option ℕ → ℕ
place_after place None = place
place_after place (Some port) = 1

-- ---- flows

-- what is known of a flow, at this side
abbrev pub known_part : {V : Type 0} → Side → (Flow → V → FlowState) → (V → ℕ) → Flow × V → FlowPart
known_part side state number e = record { side = side; flow = e.0; state = state e.0 e.1; number = number e.1 }

-- what an IMP knows of flows, as members of an object
abbrev pub known_members : State → List (List ℕ)
known_members s = map told (sources_of (Some s)) ++ map told (kept_of (Some s))

-- the two lists of an IMP in the place of those from this place on, if they may have changed
abbrev pub put_lists : Bool → List (List FlowPart) → ℕ → Option State → List (List FlowPart)
put_lists may lists place o = if may then slice_set (slice_set lists place (sources_of o)) (place + 1) (kept_of o) else lists

-- and what is other in them
abbrev pub changed_at : Bool → List (List FlowPart) → ℕ → Option State → List (List ℕ)
changed_at may lists place o =
    if may
    then changed_flows (slice_index_or lists place []) (sources_of o) ++ changed_flows (slice_index_or lists (place + 1) []) (kept_of o)
    else []

-- members after this many others, and the place after them
abbrev pub members_behind : ℕ → List (List ℕ) → List ℕ
members_behind place [] = []
members_behind place (x ∷ xs) = mark (codes "{") (codes ",") place ++ (x ++ members_behind 1 xs)

abbrev pub place_after_members : ℕ → List (List ℕ) → ℕ
place_after_members place [] = place
place_after_members place (x ∷ xs) = 1

-- the flows of an IMP, if it is in the network
abbrev pub flows_there : Net → ℕ → List (List FlowPart)
flows_there n i = if is_imp n i then flows_at n i else []

-- as members of an object
abbrev pub flow_members : Net → ℕ → List (List ℕ)
flow_members n i = flat_map (map told) (flows_there n i)

-- ---- an IMP, piece by piece

-- what its neighbours announced
abbrev pub heard_list : Table → List ℕ
heard_list t = array (map heard_text t.heard)

-- its hosts, its ends of lines, and what its neighbours announced
abbrev pub begun_text : State → List ℕ
begun_text s = codes "{\"hosts\":" ++ (array (map host_object s.hosts) ++ (codes ",\"ports\":" ++ (array (map port_object s.ports) ++ (codes ",\"routes\":" ++ heard_list s.routes))))

-- the packets outside of channels
abbrev pub held_text : State → List ℕ
held_text s = codes ",\"store\":" ++ (array (map packet_text s.store) ++ (codes ",\"slots\":" ++ array (map slot_text s.slots)))

-- what follows of routes, and the end
abbrev pub concluded_text : Table → List ℕ
concluded_text t = codes ",\"distances\":" ++ (distances_text (vector_of t) ++ (codes ",\"next\":" ++ (next_text t ++ codes "}")))

-- what its neighbours announced and what follows have these texts
pub record AreWaysTexts (t : Table) (heard concluded : List ℕ) : Type 0 where
  pub heard_is : heard ≡ heard_list t
  pub concluded_is : concluded ≡ concluded_text t

-- ---- parts

-- a part with its name
abbrev pub named : Net → Part → List ℕ
named n p = member (part_name p) (part_text n p)

-- an IMP with its name, if it is in the network
abbrev pub imp_members : Net → ℕ → List (List ℕ)
imp_members n i = if is_imp n i then named n (Imp i) ∷ [] else []

-- ---- fates

-- this fate where there is room
abbrev pub fate_with_room : Bool → Fate → Fate
fate_with_room room fate = if room then fate else fates.NoRoom

-- what becomes of a fresh packet that is this to the IMP
abbrev pub judged_with_room : Arrival → State → PacketFields → Fate
judged_with_room a s p = fate_with_room (arrival_has_room a s p) (arrival_fate a s p)
