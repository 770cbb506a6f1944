-- Which IMPs and lines are where an event happens, whether the network has them or not. No public clause cites this file.
use Rattle.std.specs.Prelude.{◌≡◌, ℕ, Bool, false, ◌==◌, List, length}
use Rattle.subnet.specs.Net.{Net, Wire, ends_at, imp_at, wire_at}
use Rattle.subnet_trace.specs.Parts.{all_flows, all_parts, parts_members, parts_of_net}
use Rattle.trace.specs.declared.all_parts.AllParts.{AllParts}
use Rattle.trace.specs.declared.flow_part.FlowPart.{FlowPart}
use Rattle.subnet_trace.specs.declared.parts.Scope.{Scope}
use Rattle.subnet_trace.specs.declared.parts.Scope.TheVariants as scope

-- an IMP is there, and a line
abbrev pub has_imp : Scope → ℕ → Bool
has_imp (scope.ImpAndLines i) j = i == j
has_imp (scope.Imp i) j = i == j
has_imp (scope.Line l) j = false
has_imp scope.Nothing j = false

abbrev pub has_line : Scope → ℕ → Wire → Bool
has_line (scope.ImpAndLines i) l w = ends_at i w
has_line (scope.Imp i) l w = false
has_line (scope.Line k) l w = l == k
has_line scope.Nothing l w = false

-- no IMP and no line but these is other than before
pub record SameBut (s : Scope) (old new : Net) : Type 0 where
  pub sites : new.sites ≡ old.sites
  pub places : length new.imps ≡ length old.imps
  pub lines : length new.lines ≡ length old.lines
  pub imps : (i : ℕ) → has_imp s i ≡ false → imp_at new.imps i ≡ imp_at old.imps i
  pub wires : (l : ℕ) → has_line s l (wire_at new.lines l) ≡ false → wire_at new.lines l ≡ wire_at old.lines l

-- before an event all parts were these, and no IMP and no line but these is other than it was then
pub record OnlyIn (parts : AllParts) (s : Scope) (new : Net) : Type 0 where
  pub old : Net
  pub known : parts ≡ parts_of_net old
  pub same : SameBut s old new

-- so it is of the IMPs and the lines, and of the flows
abbrev pub IsOnlyIn : Scope → List (List ℕ) → Net → Type 0
IsOnlyIn s texts new = (old : Net) × (texts ≡ parts_members old (all_parts old)) × SameBut s old new

abbrev pub HasFlowsIn : Scope → List (List FlowPart) → Net → Type 0
HasFlowsIn s lists new = (old : Net) × (lists ≡ all_flows old) × SameBut s old new
