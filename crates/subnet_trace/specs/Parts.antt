-- The parts of a subnet, and which of them an event can change.
use Rattle.std.specs.Prelude.{◌≡◌, ℕ, Bool, false, ◌==◌, ◌||◌, List, [], ◌∷◌, ◌++◌, codes, filter, if◌then◌else◌, length, map, nat_lt}
use Rattle.std.specs.Fmt.{decimal}
use Rattle.std.specs.List.{flat_map, range_with_len}
use Rattle.interface.specs.declared.event.Direction.{Direction}
use Rattle.interface.specs.declared.event.NetEvent.TheVariants as net
use Rattle.script.specs.declared.event.RawEvent.{RawEvent}
use Rattle.script.specs.declared.event.RawEvent.TheVariants as event
use Rattle.subnet.specs.Events.{is_imp}
use Rattle.subnet.specs.Net.{Net, ends_at, far_end, imp_at, wire_at}
use Rattle.subnet_trace.specs.Texts.{imp_text, kept_of, line_text, sources_of}
use Rattle.subnet_trace.specs.declared.parts.Scope.{Scope}
use Rattle.subnet_trace.specs.declared.parts.Scope.TheVariants as scope
use Rattle.trace.specs.declared.all_parts.AllParts.{AllParts}
use Rattle.trace.specs.declared.flow_part.FlowPart.{FlowPart}
use Rattle.trace.specs.Texts.{member, object}

-- an IMP and a line, by their numbers
pub data Part : Type 0 where
  Imp : (number : ℕ) → Part
  Line : (number : ℕ) → Part

-- a part of this network
abbrev pub is_part : Net → Part → Bool
is_part n (Imp i) = is_imp n i
is_part n (Line l) = nat_lt l (length n.lines)

abbrev pub part_name : Part → List ℕ
part_name (Imp i) = codes "imp " ++ decimal i
part_name (Line l) = codes "line " ++ decimal l

abbrev pub part_text : Net → Part → List ℕ
part_text n (Imp i) = imp_text (imp_at n.imps i)
part_text n (Line l) = line_text (wire_at n.lines l)

-- parts with their names
abbrev pub parts_members : Net → List Part → List (List ℕ)
parts_members n parts = map (λ p. member (part_name p) (part_text n p)) parts

abbrev pub parts_text : Net → List Part → List ℕ
parts_text n parts = object (parts_members n parts)

-- all parts: the IMPs by rising number, and the lines in order
abbrev pub all_parts : Net → List Part
all_parts n = map (λ i. Imp i) (filter (is_imp n) (range_with_len 0 (length n.imps))) ++ map (λ l. Line l) (range_with_len 0 (length n.lines))

-- what an IMP knows of flows: of those that begin there, and of those that end there
abbrev pub flows_at : Net → ℕ → List (List FlowPart)
flows_at n i = sources_of (imp_at n.imps i) ∷ kept_of (imp_at n.imps i) ∷ []

-- the flows of all IMPs, by rising number
abbrev pub all_flows : Net → List (List FlowPart)
all_flows n = flat_map (flows_at n) (filter (is_imp n) (range_with_len 0 (length n.imps)))

-- all parts: the IMPs and the lines, which are always there, and the flows
abbrev pub parts_of_net : Net → AllParts
parts_of_net n = record { fixed = parts_members n (all_parts n); flows = all_flows n }

-- ---- the parts that an event can change

-- the lines that end at an IMP, in order
abbrev pub lines_at : Net → ℕ → List ℕ
lines_at n i = filter (λ l. ends_at i (wire_at n.lines l)) (range_with_len 0 (length n.lines))

-- an IMP that is in the network
abbrev pub imp_alone : Net → ℕ → List Part
imp_alone n i = if is_imp n i then Imp i ∷ [] else []

-- and its lines
abbrev pub imp_and_lines : Net → ℕ → List Part
imp_and_lines n i = if is_imp n i then Imp i ∷ map (λ l. Line l) (lines_at n i) else []

-- a line that is in the network
abbrev pub line_alone : Net → ℕ → List Part
line_alone n l = if nat_lt l (length n.lines) then Line l ∷ [] else []

-- the IMP at the far end of a line, with its lines
abbrev pub scope_of_delivery : Net → ℕ → Direction → Scope
scope_of_delivery n l d = if nat_lt l (length n.lines) then scope.ImpAndLines (far_end d (wire_at n.lines l)) else scope.Nothing

-- where an elementary event happens: at an IMP that makes a call, with the lines that it may put frames on; at an IMP that stops or
-- starts; at a line that loses a frame
abbrev pub scope_of : Net → RawEvent → Scope
scope_of n (event.Out m) = scope.ImpAndLines m.flow.source.imp
scope_of n (event.Take h) = scope.ImpAndLines h.imp
scope_of n (event.Net (net.Deliver l d k)) = scope_of_delivery n l d
scope_of n (event.Net (net.Drop l d k)) = scope.Line l
scope_of n (event.Net (net.Garble l d k)) = scope.Line l
scope_of n (event.Net (net.Resend i)) = scope.ImpAndLines i
scope_of n (event.Net (net.Route i)) = scope.ImpAndLines i
scope_of n (event.Net (net.Claim i)) = scope.ImpAndLines i
scope_of n (event.Net (net.EndDown i l)) = scope.ImpAndLines i
scope_of n (event.Net (net.EndUp i l)) = scope.ImpAndLines i
scope_of n (event.Net (net.ImpDown i)) = scope.Imp i
scope_of n (event.Net (net.ImpUp i)) = scope.Imp i
scope_of n (event.Net (net.HostDown h)) = scope.ImpAndLines h.imp
scope_of n (event.Net (net.HostUp h)) = scope.ImpAndLines h.imp
scope_of n (event.Net (net.GiveUp f)) = scope.ImpAndLines f.source.imp
scope_of n (event.Net (net.Forget at from)) = scope.ImpAndLines at
scope_of n (event.Net (net.Abandon f)) = scope.ImpAndLines f.destination.imp
scope_of n (event.Net (net.Ask f)) = scope.ImpAndLines f.source.imp
scope_of n (event.Calm rounds) = scope.Nothing

-- the parts of such a place that the network has
abbrev pub parts_in : Net → Scope → List Part
parts_in n (scope.ImpAndLines i) = imp_and_lines n i
parts_in n (scope.Imp i) = imp_alone n i
parts_in n (scope.Line l) = line_alone n l
parts_in n scope.Nothing = []

-- the parts that an elementary event can change
abbrev pub parts_of : Net → RawEvent → List Part
parts_of n e = parts_in n (scope_of n e)

-- ---- what a part is, and is named

abbrev pub same_part : Part → Part → Bool
same_part (Imp i) (Imp j) = i == j
same_part (Imp i) (Line k) = false
same_part (Line l) (Imp j) = false
same_part (Line l) (Line k) = l == k

abbrev pub is_named : Part → List Part → Bool
is_named p [] = false
is_named p (q ∷ parts) = same_part p q || is_named p parts

-- a part is the same in two states
abbrev pub SamePart : Part → Net → Net → Type 0
SamePart (Imp i) old new = imp_at new.imps i ≡ imp_at old.imps i
SamePart (Line l) old new = wire_at new.lines l ≡ wire_at old.lines l
