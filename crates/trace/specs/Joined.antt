-- What the contracts of private functions say. No public clause cites this file.
use Rattle.std.specs.Prelude.{ℕ, zero, suc, Bool, if◌then◌else◌, List, [], ◌∷◌, ◌++◌, Option, Some, None, codes, length, map, Result, Ok, Err}
use Rattle.std.specs.Fmt.{decimal}
use Rattle.leader1822.specs.Boxes.{Boxes}
use Rattle.interface.specs.declared.carrier.CarrierFault.{CarrierFault}
use Rattle.interface.specs.declared.crossing.Crossing.{Crossing}
use Rattle.replay.specs.Output.{fault_name, shown_crossings, shown_refusal, shown_text}
use Rattle.replay.specs.declared.print.Detail.TheVariants.{Sizes}
use Rattle.script.specs.Spelling.{spelling}
use Rattle.script.specs.declared.event.RawEvent.{RawEvent}
use Rattle.topology.specs.Topology.{TopologyFields}
use Rattle.trace.specs.Parts.{Part}
use Rattle.trace.specs.Texts.{array, bool_text, carrier_word, crossing_object, ends_text, fate_word, member, part_name, part_text, quoted, site_text, strings}
use Rattle.trace.specs.declared.element.Spot.{Spot}
use Rattle.trace.specs.declared.fate.Fate.{Fate}

-- a comma before every item but the first
abbrev pub comma_before : ℕ → List ℕ
comma_before zero = []
comma_before (suc place) = codes ","

-- items, each with a comma before it, where this many are before them
abbrev pub joined_from : ℕ → List (List ℕ) → List ℕ
joined_from place [] = []
joined_from place (x ∷ xs) = comma_before place ++ (x ++ joined_from (suc place) xs)

-- a refusal after this many items, where there is one
abbrev pub refused_text : ℕ → Result (Unit {0}) CarrierFault → List ℕ
refused_text place (Ok done) = []
refused_text place (Err f) = comma_before place ++ quoted (codes "refused " ++ fault_name f)

-- an object of the parts so far
abbrev pub begun : Boxes → List Part → List ℕ
begun b parts = codes "{" ++ joined_from 0 (map (λ p. member (part_name p) (part_text b p)) parts)

-- one mark at place 0, and another at any other place
abbrev pub mark : List ℕ → List ℕ → ℕ → List ℕ
mark first other zero = first
mark first other (suc place) = other

-- ---- items that may be missing

-- an item after this many others, if it is there
abbrev pub part_behind : Bool → ℕ → List ℕ → List ℕ
part_behind there place text = if there then mark (codes "{") (codes ",") place ++ text else []

-- the place after it
abbrev pub place_behind : ℕ → Bool → ℕ
place_behind place there = if there then 1 else place

-- the text of an object without its end, with these members more
abbrev pub extended : List ℕ → List (List ℕ) → List ℕ
extended object [] = object
extended object (x ∷ xs) = extended (object ++ (mark (codes "{") (codes ",") (length object) ++ x)) xs

-- ---- lines

-- the beginning of a line
abbrev pub head_text : Spot → ℕ → RawEvent → List ℕ
head_text spot round e = codes "{\"line\":" ++ (decimal spot.line ++ (codes ",\"number\":" ++ (decimal spot.number ++ (codes ",\"round\":" ++ (decimal round ++ (codes ",\"event\":" ++ quoted (spelling e)))))))

-- what became of a frame, after other members
abbrev pub fate_text : Option Fate → List ℕ
fate_text None = []
fate_text (Some f) = codes ",\"fate\":\"" ++ (fate_word f ++ codes "\"")

-- what crossed, and what was printed, after other members
abbrev pub outcome_text : List Crossing → Result (Unit {0}) CarrierFault → List ℕ
outcome_text cs r = codes ",\"crossed\":" ++ (array (map crossing_object cs) ++ (codes ",\"printed\":" ++ strings (map (shown_text Sizes) (shown_crossings cs ++ shown_refusal r))))

-- the first line up to its parts
abbrev pub network_front : TopologyFields → List ℕ
network_front t =
    codes "{\"trace\":3,\"carrier\":\"" ++ (carrier_word t.carrier ++ (codes "\",\"raw\":" ++ (bool_text t.raw ++ (codes ",\"imps\":" ++ (array (map site_text t.imps)
    ++ (codes ",\"lines\":" ++ (array (map ends_text t.lines) ++ codes ",\"parts\":")))))))
