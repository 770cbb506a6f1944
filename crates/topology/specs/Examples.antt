-- Small documents, for the worked rows. A table's members are in the order of their keys.
use Rattle.std.specs.Prelude.{ℕ, List, [], ◌∷◌, Option, codes, option_map, pos, false, true}
use Rattle.interface.specs.Host.{Host}
use Rattle.toml.specs.Data.{Data, Items, no_items, item, no_members, member, integer, array, table, string, boolean}
use Rattle.topology.specs.Topology.{TopologyFields, topology_of}
use Rattle.topology.specs.declared.network.CarrierKind.TheVariants as kind
use Rattle.topology.specs.declared.network.ImpHosts.{ImpHosts}
use Rattle.topology.specs.declared.network.LineEnds.{LineEnds}

-- an IMP with this number of hosts, and the ends of a line
abbrev pub imp_table : ℕ → ℕ → Data
imp_table id hosts = table (member (codes "hosts") (integer (pos hosts)) (member (codes "id") (integer (pos id)) no_members))

abbrev pub line_table : ℕ → ℕ → Data
line_table a b = table (member (codes "a") (integer (pos a)) (member (codes "b") (integer (pos b)) no_members))

-- a document that lists these IMPs and lines, and has no other key
abbrev pub document : Items → Items → Data
document imps lines = table (member (codes "imp") (array imps) (member (codes "line") (array lines) no_members))

-- a document that lists these IMPs, with this carrier, of a raw network
abbrev pub raw_document : List ℕ → Items → Data
raw_document carrier imps = table (member (codes "carrier") (string carrier) (member (codes "imp") (array imps) (member (codes "raw") (boolean true) no_members)))

-- IMP 2 with one host, and then IMP 1 with two
abbrev pub two_imps : Items
two_imps = item (imp_table 2 1) (item (imp_table 1 2) no_items)

abbrev pub one_imp : ℕ → ℕ → Items
one_imp id hosts = item (imp_table id hosts) no_items

-- what a document describes whose only IMP is this
abbrev pub alone : ℕ → ℕ → Option TopologyFields
alone id hosts = topology_of (document (one_imp id hosts) no_items)

abbrev pub one_line : ℕ → ℕ → Items
one_line a b = item (line_table a b) no_items

-- the same IMPs as a topology has them
abbrev pub imp_hosts : ℕ → ℕ → ImpHosts
imp_hosts imp hosts = record { imp = imp; hosts = hosts }

abbrev pub line : ℕ → ℕ → LineEnds
line a b = record { a = a; b = b }

-- five lines of IMP 1
abbrev pub five_lines : List LineEnds
five_lines = line 1 2 ∷ line 3 1 ∷ line 1 4 ∷ line 1 5 ∷ line 6 1 ∷ []

-- an IMP with this at its key `foreign`, IMPs some of whose hosts it names as strangers, and the only one of a document
abbrev pub foreign_table : ℕ → ℕ → Data → Data
foreign_table id hosts foreign =
    table (member (codes "foreign") foreign
    (member (codes "hosts") (integer (pos hosts)) (member (codes "id") (integer (pos id)) no_members)))

abbrev pub items_of : List ℕ → Items
items_of [] = no_items
items_of (n ∷ numbers) = item (integer (pos n)) (items_of numbers)

abbrev pub naming_table : ℕ → ℕ → List ℕ → Data
naming_table id hosts numbers = foreign_table id hosts (array (items_of numbers))

abbrev pub naming : ℕ → ℕ → List ℕ → Items
naming id hosts numbers = item (naming_table id hosts numbers) no_items

-- a document of these two IMPs, and the strangers that one describes
abbrev pub two : Data → Data → Data
two imp other = document (item imp (item other no_items)) no_items

abbrev pub strangers_in : Data → Option (List Host)
strangers_in d = option_map (λ (t : TopologyFields). t.strangers) (topology_of d)

-- what such documents describe: these hosts of an IMP, and a subnet of IMP 2, which has two hosts, with these strangers
abbrev pub strangers_of : ℕ → List ℕ → List Host
strangers_of imp [] = []
strangers_of imp (n ∷ numbers) = record { imp = imp; host = n } ∷ strangers_of imp numbers

abbrev pub lone_imp : List Host → TopologyFields
lone_imp strangers =
    record { carrier = kind.Subnet; raw = false; imps = imp_hosts 2 2 ∷ []; lines = []; strangers = strangers }
