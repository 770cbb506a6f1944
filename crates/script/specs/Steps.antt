-- What the contracts of private functions say. No public clause cites this file.
use Rattle.std.specs.Prelude.{◌≡◌, ◌≢◌, ◌++◌, codes, ℕ, ◌==◌, ◌&&◌, ◌||◌, nat_lt, Bool, true, false, List, [], ◌∷◌, Option, Some, None, Ok, length}
use Rattle.std.specs.Fmt.{decimal}
use Rattle.std.specs.List.{All}
use Rattle.hex.specs.Hex.{encode_upper, decode_of, IsBytes}
use Rattle.interface.specs.Printed.{host_text}
use Rattle.interface.specs.declared.address.Flow.{Flow}
use Rattle.interface.specs.declared.event.Direction.{Direction}
use Rattle.interface.specs.declared.event.NetEvent.{NetEvent}
use Rattle.interface.specs.declared.event.NetEvent.TheVariants as net
use Rattle.script.specs.Spelling.{IsHost, IsFlow, IsImp, IsIndex, direction_text}

-- octets without this one
abbrev pub Lacks : ℕ → List ℕ → Type 0
Lacks octet xs = All (λ x. (x == octet) ≡ false) xs

-- words without two spaces
abbrev pub AreTooFew : List ℕ → Type 0
AreTooFew words = (a b c : List ℕ) → words ≢ a ++ 32 ∷ (b ++ 32 ∷ c)

-- the first two of these words, and what follows them
abbrev pub AreCutTwice : List ℕ → List ℕ → List ℕ → List ℕ → Type 0
AreCutTwice words first second rest = (words ≡ first ++ 32 ∷ (second ++ 32 ∷ rest)) × Lacks 32 first × Lacks 32 second

-- a word that spells no octets
abbrev pub SpellsNone : List ℕ → Type 0
SpellsNone word = (octets : List ℕ) → IsBytes octets → word ≢ encode_upper octets

-- a word that spells these octets
abbrev pub Spells : List ℕ → List ℕ → Type 0
Spells word octets = (decode_of word ≡ Ok octets) × (word ≡ encode_upper octets)

-- three words spell this flow, or no valid one
abbrev pub ReadsFlow : List ℕ → List ℕ → List ℕ → Option Flow → Type 0
ReadsFlow source destination link (Some f) = (source ≡ host_text f.source) × (destination ≡ host_text f.destination) × (link ≡ decimal f.link.0) × IsFlow f
ReadsFlow source destination link None = (f : Flow) → IsFlow f → source ≡ host_text f.source → destination ≡ host_text f.destination → link ≡ decimal f.link.0 → ⊥

-- a word that is no number by its first octet: it is empty, has a sign, or has a zero before other digits
abbrev pub begins_wrong : List ℕ → Bool
begins_wrong [] = true
begins_wrong (c ∷ cs) = c == 43 || (c == 48 && nat_lt 0 (length cs))

-- ---- events inside a network, by what they name

-- a host or a flow
abbrev pub IsOfHosts : NetEvent → Type 0
IsOfHosts (net.HostDown h) = IsHost h
IsOfHosts (net.HostUp h) = IsHost h
IsOfHosts (net.GiveUp f) = IsFlow f
IsOfHosts (net.Abandon f) = IsFlow f
IsOfHosts (net.Ask f) = IsFlow f
IsOfHosts e = ⊥

-- IMPs only
abbrev pub IsOfImps : NetEvent → Type 0
IsOfImps (net.Resend imp) = IsImp imp
IsOfImps (net.Route imp) = IsImp imp
IsOfImps (net.Claim imp) = IsImp imp
IsOfImps (net.ImpDown imp) = IsImp imp
IsOfImps (net.ImpUp imp) = IsImp imp
IsOfImps (net.Forget at from) = IsImp at × IsImp from
IsOfImps e = ⊥

-- a line
abbrev pub IsOfLines : NetEvent → Type 0
IsOfLines (net.Deliver line way frame) = IsIndex line × IsIndex frame
IsOfLines (net.Drop line way frame) = IsIndex line × IsIndex frame
IsOfLines (net.Garble line way frame) = IsIndex line × IsIndex frame
IsOfLines (net.EndDown imp line) = IsImp imp × IsIndex line
IsOfLines (net.EndUp imp line) = IsImp imp × IsIndex line
IsOfLines e = ⊥

-- a frame: its line, its way and its place
abbrev pub frame_text : ℕ × Direction × ℕ → List ℕ
frame_text f = decimal f.0 ++ (codes " " ++ (direction_text f.1 ++ (codes " " ++ decimal f.2)))

abbrev pub IsFrame : ℕ × Direction × ℕ → Type 0
IsFrame f = IsIndex f.0 × IsIndex f.2

-- two numbers
abbrev pub pair_text : ℕ × ℕ → List ℕ
pair_text p = decimal p.0 ++ (codes " " ++ decimal p.1)

-- an IMP and a line
abbrev pub IsEnd : ℕ × ℕ → Type 0
IsEnd p = IsImp p.0 × IsIndex p.1

-- two IMPs
abbrev pub AreImps : ℕ × ℕ → Type 0
AreImps p = IsImp p.0 × IsImp p.1

-- each direction has a sign
abbrev pub IsDirection : Direction → Type 0
IsDirection way = Unit {0}
