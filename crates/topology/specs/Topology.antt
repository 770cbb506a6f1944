-- Topologies: a network's IMPs, hosts and lines, and the documents that describe them.
use Rattle.std.specs.Prelude.{◌≡◌, ℕ, zero, suc, ◌+◌, ◌*◌, ◌/◌, ◌%◌, ◌<◌, ◌≤◌, ◌==◌, ◌&&◌, ◌||◌, nat_le, nat_lt, not}
use Rattle.std.specs.Prelude.{Bool, true, false, List, [], ◌∷◌, ◌++◌, All, filter, length, map, codes, Option, Some, None}
use Rattle.std.specs.Prelude.{option_and_then, option_map, IfSome, slice_index_or, is_some, if◌then◌else◌, ℤ, pos}
use Rattle.std.specs.Prelude.{negsuc, count_by, nat_eq}
use Rattle.std.specs.Cmp.Lexicographic.{pointwise}
use Rattle.std.specs.List.{list_any, list_all, find, cons_option, range_with_len}
use Rattle.toml.specs.Data.{Data, Items, no_items, item, Members, no_members, member, table, get, as_integer, as_str}
use Rattle.toml.specs.Data.{as_bool, as_array, as_table}
use Rattle.toml.specs.Parse.{parse_document}
use Rattle.interface.specs.Host.{Host, most_imps}
use Rattle.topology.specs.declared.network.CarrierKind.{CarrierKind}
use Rattle.topology.specs.declared.network.CarrierKind.TheVariants as kind
use Rattle.topology.specs.declared.network.ImpHosts.{ImpHosts}
use Rattle.topology.specs.declared.network.LineEnds.{LineEnds}

-- a topology: what carries the messages, whether there are no host programs, the IMPs by rising number, the lines in order, and those of its hosts that
-- are strangers, which run no program
pub record TopologyFields : Type 0 where
  pub carrier : CarrierKind
  pub raw : Bool
  pub imps : List ImpHosts
  pub lines : List LineEnds
  pub strangers : List Host

-- ---- the limits

-- hosts of one IMP
abbrev pub most_hosts : ℕ
most_hosts = 4

-- lines of one IMP
abbrev pub most_lines : ℕ
most_lines = 5

-- lines of a network, each of which has two ends: 157
abbrev pub most_network_lines : ℕ
most_network_lines = most_lines * most_imps / 2

-- ---- the rules

-- whether an IMP has this number

abbrev pub is_there : List ImpHosts → ℕ → Bool
is_there imps number = list_any (λ i. i.imp == number) imps

-- an IMP is numbered from 1 to the greatest and has at most 4 hosts
abbrev pub is_imp : ImpHosts → Bool
is_imp i = nat_le 1 i.imp && (nat_le i.imp most_imps && nat_le i.hosts most_hosts)

-- at least one IMP, and at most as many as there are numbers
abbrev pub are_imps : List ImpHosts → Bool
are_imps imps = nat_le 1 (length imps) && (nat_le (length imps) most_imps && list_all is_imp imps)

-- a line joins two IMPs that are there
abbrev pub is_line : List ImpHosts → LineEnds → Bool
is_line imps line = not (line.a == line.b) && (is_there imps line.a && is_there imps line.b)

-- two lines join the same IMPs, in either direction
abbrev pub joins_same : LineEnds → LineEnds → Bool
joins_same line other = (other.a == line.a && other.b == line.b) || (other.a == line.b && other.b == line.a)

-- no two lines join the same IMPs
abbrev pub are_apart : List LineEnds → Bool
are_apart [] = true
are_apart (line ∷ lines) = not (list_any (joins_same line) lines) && are_apart lines

-- how many lines an IMP has
abbrev pub line_count : List LineEnds → ℕ → ℕ
line_count lines number = count_by (λ line. line.a == number || line.b == number) lines

-- no IMP has more than five lines
abbrev pub has_ports : List ImpHosts → List LineEnds → Bool
has_ports imps lines = list_all (λ i. nat_le (line_count lines i.imp) most_lines) imps

-- the rules of lines
abbrev pub are_lines : List ImpHosts → List LineEnds → Bool
are_lines imps lines = (list_all (is_line imps) lines && are_apart lines) && has_ports imps lines

-- ---- order

-- the IMP with this number
abbrev pub imp_of_number : List ImpHosts → ℕ → Option ImpHosts
imp_of_number imps number = find (λ i. i.imp == number) imps

-- the IMPs with a number below this one, by rising number
unfoldable pub numbered_below : List ImpHosts → ℕ → List ImpHosts
numbered_below imps zero = []
numbered_below imps (suc number) = numbered_below imps number ++ cons_option (imp_of_number imps number) []

-- all IMPs by rising number
abbrev pub by_number : List ImpHosts → List ImpHosts
by_number imps = numbered_below imps (most_imps + 1)

-- IMPs by rising number, each number once
abbrev pub IsRising : List ImpHosts → Type 0
IsRising [] = Unit {0}
IsRising (i ∷ []) = Unit {0}
IsRising (i ∷ j ∷ imps) = (i.imp < j.imp) × IsRising (j ∷ imps)

-- ---- hosts

-- whether an IMP has a host of this number
abbrev pub has_host : List ImpHosts → ℕ → ℕ → Bool
has_host imps imp host = list_any (λ i. i.imp == imp && nat_lt host i.hosts) imps

abbrev pub host_if : Bool → Host → List Host
host_if true h = h ∷ []
host_if false h = []

-- the hosts at places below this one: four places for each IMP, from IMP 1 on
unfoldable pub hosts_below : List ImpHosts → ℕ → List Host
hosts_below imps zero = []
hosts_below imps (suc place) = hosts_below imps place ++ host_if (has_host imps (place / 4 + 1) (place % 4)) (record { imp = place / 4 + 1; host = place % 4 })

-- all hosts of a topology, in order: four places for each IMP that there can be
abbrev pub hosts_of : TopologyFields → List Host
hosts_of t = hosts_below t.imps (most_imps * most_hosts)

-- strangers are some of these hosts, in the order of these
abbrev pub ArePicked : List Host → List Host → Type 0
ArePicked hosts strangers = (p : Host → Bool) × (strangers ≡ filter p hosts)

-- the rules that a topology keeps. Where there are no host programs there are no strangers
pub record IsTopology (n : TopologyFields) : Type 0 where
  pub imps : are_imps n.imps ≡ true
  pub rising : IsRising n.imps
  pub lines : are_lines n.imps n.lines ≡ true
  pub strangers : ArePicked (hosts_of n) n.strangers
  pub programs : n.raw ≡ true → n.strangers ≡ []

-- ---- documents

-- how many members a table has
abbrev pub member_count : Members → ℕ
member_count no_members = 0
member_count (member key value members) = member_count members + 1

abbrev pub size_of : Option Members → ℕ
size_of None = 0
size_of (Some members) = member_count members

abbrev pub size : Data → ℕ
size d = size_of (as_table d)

-- whether a table has a member with this key
abbrev pub has : List ℕ → Data → Bool
has key d = is_some (get key d)

abbrev pub one_if : Bool → ℕ
one_if true = 1
one_if false = 0

-- a document has no key but these four: as many members as it has of them
abbrev pub known_members : Data → ℕ
known_members d = one_if (has (codes "carrier") d) + one_if (has (codes "raw") d) + one_if (has (codes "imp") d) + one_if (has (codes "line") d)

-- a number from 0 to 255
abbrev pub octet_of : ℤ → Option ℕ
octet_of (pos n) = if nat_lt n 256 then Some n else None
octet_of (negsuc n) = None

abbrev pub number_of : Data → Option ℕ
number_of d = option_and_then octet_of (as_integer d)

-- the number from 0 to 255 at a key
abbrev pub number_at : List ℕ → Data → Option ℕ
number_at key d = option_and_then number_of (get key d)

abbrev pub imp_from : Option ℕ → Option ℕ → Option ImpHosts
imp_from None hosts = None
imp_from (Some imp) None = None
imp_from (Some imp) (Some hosts) = Some (record { imp = imp; hosts = hosts })

abbrev pub line_from : Option ℕ → Option ℕ → Option LineEnds
line_from None b = None
line_from (Some a) None = None
line_from (Some a) (Some b) = Some (record { a = a; b = b })

-- a table with the keys `id` and `hosts`, and no other but `foreign`
abbrev pub imp_of : Data → Option ImpHosts
imp_of d =
    if size d == 2 + one_if (has (codes "foreign") d)
    then imp_from (number_at (codes "id") d) (number_at (codes "hosts") d) else None

-- a table with the keys `a` and `b` and no other
abbrev pub line_of : Data → Option LineEnds
line_of d = if size d == 2 then line_from (number_at (codes "a") d) (number_at (codes "b") d) else None

abbrev pub joined_option : {X : Type 0} → Option X → Option (List X) → Option (List X)
joined_option {X} None xs = None
joined_option {X} (Some x) None = None
joined_option {X} (Some x) (Some xs) = Some (x ∷ xs)

-- what the items of an array describe, in order; none where one of them describes nothing
abbrev pub each_of : {X : Type 0} → (Data → Option X) → Items → Option (List X)
each_of {X} describes no_items = Some []
each_of {X} describes (item d items) = joined_option (describes d) (each_of describes items)

abbrev pub all_of : {X : Type 0} → (Data → Option X) → Option Items → Option (List X)
all_of {X} describes None = None
all_of {X} describes (Some items) = each_of describes items

abbrev pub imps_of : Option Data → Option (List ImpHosts)
imps_of None = None
imps_of (Some d) = all_of imp_of (as_array d)

abbrev pub lines_of : Option Data → Option (List LineEnds)
lines_of None = Some []
lines_of (Some d) = all_of line_of (as_array d)

abbrev pub kind_named : Option (List ℕ) → Option CarrierKind
kind_named None = None
kind_named (Some name) = if pointwise nat_eq name (codes "plain") then Some kind.Plain else (if pointwise nat_eq name (codes "subnet") then Some kind.Subnet else None)

-- without the key the carrier is a subnet
abbrev pub carrier_of : Option Data → Option CarrierKind
carrier_of None = Some kind.Subnet
carrier_of (Some d) = kind_named (as_str d)

-- without the key there are host programs
abbrev pub raw_of : Option Data → Option Bool
raw_of None = Some false
raw_of (Some d) = as_bool d

-- no number occurs twice, and none passes the greatest: the IMPs by rising number are as many as the document's
abbrev pub all_placed : List ImpHosts → Bool
all_placed imps = length (by_number imps) == length imps

abbrev pub topology_if : Bool → TopologyFields → Option TopologyFields
topology_if true n = Some n
topology_if false n = None

-- the topology of these IMPs and lines without strangers, where they keep the rules
abbrev pub topology_by : CarrierKind → Bool → List ImpHosts → List LineEnds → Option TopologyFields
topology_by carrier raw imps lines =
    topology_if (all_placed imps && (are_imps (by_number imps) && are_lines (by_number imps) lines))
    (record { carrier = carrier; raw = raw; imps = by_number imps; lines = lines; strangers = [] })

abbrev pub topology_from : Option CarrierKind → Option Bool → Option (List ImpHosts) → Option (List LineEnds) → Option TopologyFields
topology_from None raw imps lines = None
topology_from (Some carrier) None imps lines = None
topology_from (Some carrier) (Some raw) None lines = None
topology_from (Some carrier) (Some raw) (Some imps) None = None
topology_from (Some carrier) (Some raw) (Some imps) (Some lines) = topology_by carrier raw imps lines

-- a document's network, whichever strangers its IMPs name
abbrev pub network_of : Data → Option TopologyFields
network_of d =
    if size d == known_members d
    then topology_from (carrier_of (get (codes "carrier") d)) (raw_of (get (codes "raw") d)) (imps_of (get (codes "imp") d)) (lines_of (get (codes "line") d))
    else None

-- ---- strangers

-- a number is there, from the least to below the limit
abbrev pub is_between : ℕ → ℕ → Option ℕ → Bool
is_between least limit None = false
is_between least limit (Some n) = nat_le least n && nat_lt n limit

abbrev pub next_of : Option ℕ → ℕ
next_of None = 0
next_of (Some n) = n + 1

-- numbers from the least to below the limit, each greater than the one before
abbrev pub are_rising : ℕ → ℕ → Items → Bool
are_rising least limit no_items = true
are_rising least limit (item d items) =
    is_between least limit (number_of d) && are_rising (next_of (number_of d)) limit items

-- how many of an IMP's hosts may be strangers: none where no host runs a program
abbrev pub most_foreign : Bool → ℕ → ℕ
most_foreign raw hosts = if raw then 0 else hosts

-- numbers of hosts that an IMP has, where it has this many: each once, and rising
abbrev pub are_numbers : Bool → Option ℕ → Option Items → Bool
are_numbers raw None items = false
are_numbers raw (Some hosts) None = false
are_numbers raw (Some hosts) (Some items) = are_rising 0 (most_foreign raw hosts) items

-- an IMP names strangers rightly by its key `foreign`, or none
abbrev pub are_foreign : Bool → Data → Option Data → Bool
are_foreign raw imp None = true
are_foreign raw imp (Some d) = are_numbers raw (number_at (codes "hosts") imp) (as_array d)

-- so does each IMP of a document
abbrev pub all_foreign : Bool → Items → Bool
all_foreign raw no_items = true
all_foreign raw (item imp imps) = are_foreign raw imp (get (codes "foreign") imp) && all_foreign raw imps

abbrev pub is_number : ℕ → Option ℕ → Bool
is_number n None = false
is_number n (Some m) = m == n

-- whether an array has a number
abbrev pub names : ℕ → Items → Bool
names n no_items = false
names n (item d items) = is_number n (number_of d) || names n items

abbrev pub items_in : Option Items → Items
items_in None = no_items
items_in (Some items) = items

abbrev pub items_at : List ℕ → Data → Items
items_at key d = items_in (option_and_then as_array (get key d))

-- whether an IMP names a host as a stranger, and whether one of these does
abbrev pub names_host : Data → Host → Bool
names_host imp h = is_number h.imp (number_at (codes "id") imp) && names h.host (items_at (codes "foreign") imp)

abbrev pub is_foreign : Items → Host → Bool
is_foreign no_items h = false
is_foreign (item imp imps) h = names_host imp h || is_foreign imps h

-- those of a network's hosts that one of these IMPs names, and the one at a place, if it is such a host
abbrev pub named_in : Items → List ImpHosts → List Host
named_in imps network = filter (is_foreign imps) (hosts_below network (most_imps * most_hosts))

abbrev pub host_at : ℕ → Host
host_at place = record { imp = place / 4 + 1; host = place % 4 }

abbrev pub named_at : Items → List ImpHosts → ℕ → List Host
named_at imps network place =
    filter (is_foreign imps) (host_if (has_host network (place / 4 + 1) (place % 4)) (host_at place))

-- the topology with the strangers that these IMPs name, where they name them rightly
abbrev pub naming : Items → TopologyFields → Option TopologyFields
naming imps t = topology_if (all_foreign t.raw imps) (record t { strangers = named_in imps t.imps })

-- ---- what a document describes

-- the topology that a document's value describes
abbrev pub topology_of : Data → Option TopologyFields
topology_of d = option_and_then (naming (items_at (codes "imp") d)) (network_of d)

abbrev pub topology_if_read : Option Members → Option TopologyFields
topology_if_read None = None
topology_if_read (Some members) = topology_of (table members)

-- the topology that a text describes: the text is a TOML document, and the document describes one
abbrev pub topology_in : List ℕ → Option TopologyFields
topology_in text = topology_if_read (parse_document text)

-- ---- sites

-- how many hosts the IMP of this number has, where there is one
abbrev pub site_of : List ImpHosts → ℕ → Option ℕ
site_of imps number = option_map (λ (i : ImpHosts). i.hosts) (imp_of_number imps number)

-- that of each number from 0 to the greatest, in order
abbrev pub sites_of : TopologyFields → List (Option ℕ)
sites_of t = map (site_of t.imps) (range_with_len 0 (most_imps + 1))

-- this many hosts of the IMP with this number, from host 0 on
abbrev pub hosts_at : ℕ → Option ℕ → List Host
hosts_at number None = []
hosts_at number (Some count) = map (λ k. record { imp = number; host = k }) (range_with_len 0 count)

-- the hosts of sites, of which the first has this number: those of one IMP after the other
abbrev pub hosts_from : ℕ → List (Option ℕ) → List Host
hosts_from number [] = []
hosts_from number (site ∷ sites) = hosts_at number site ++ hosts_from (number + 1) sites

-- no IMP has the number 0, the others go up to the greatest, and none has more than four hosts
pub record AreSites (sites : List (Option ℕ)) : Type 0 where
  pub none : slice_index_or sites 0 None ≡ None
  pub numbers : length sites ≡ most_imps + 1
  pub counts : All (λ site. IfSome site (λ count. count ≤ most_hosts)) sites
