-- No two events of a world are spelled alike.
use Rattle.std.proofs.Common.{◌≡◌, Bool, ℕ, ◌<◌, ◌^◌, List, ◌∷◌, ◌++◌, length, refl, sym, ap, ◌∙◌, arith, subst, lit<}
use Rattle.std.proofs.lemmas.Fmt.{decimal_injective}
use Rattle.std.specs.Fmt.{decimal}
use Rattle.interface.specs.Host.{Host}
use Rattle.interface.specs.Printed.{host_text}
use Rattle.interface.specs.declared.event.NetEvent.{NetEvent}
use Rattle.script.specs.Spelling.{IsHost, octets_text}
use Rattle.script.specs.declared.event.RawEvent.TheVariants as raw
use Rattle.script.proofs.lemmas.{SameCut, asked_once_as, event_once, host_once, host_unmarked, message_once, same_cut, text_once}
use Rattle.world_script.specs.Steps.{arguments, three_text, two_text}
use Rattle.world_script.specs.WorldScript.{AskFor}
use Rattle.world_script.specs.WorldSpelling.{IsRequest, IsWorldEvent, world_spelling}
use Rattle.world_script.specs.declared.event.WorldEvent.{WorldEvent}
use Rattle.world_script.specs.declared.verb.Verb.{Verb}
use Rattle.world_script.specs.declared.verb.Verb.TheVariants as verb
use Rattle.world_script.proofs.Lines.{Asks, Calms, Head, Nets, Offers, OperandAt, Says, Serves, Takes, Types, Uses, behind, cut_alike, event_again, event_at, first, first_unmarked, head, head_again, head_of, operand_at, spelled_event}
use Rattle.world_script.proofs.Requests.{OperandOf, SameNumber, behind_number, request_of}

-- ---- numbers and hosts

number_once : (n m : ℕ) → n < 2 ^ 32 → m < 2 ^ 32 → decimal n ≡ decimal m → n ≡ m
number_once n m small few e = decimal_injective n m (omega arith) (omega arith) e

two_once : (p q : ℕ × ℕ) → p.0 < 2 ^ 32 → p.1 < 2 ^ 32 → q.0 < 2 ^ 32 → q.1 < 2 ^ 32 → two_text p ≡ two_text q → p ≡ q
two_once (a, b) (c, d) la lb lc ld e =
    let same : SameNumber a c (decimal b) (decimal d) = behind_number (two_text (a, b)) (decimal b) a c (decimal d) refl la lc e in
    let next : b ≡ d = number_once b d lb ld same.back in
    λ i. (same.number i, next i)

three_once : (p q : ℕ × ℕ × ℕ) → p.0 < 2 ^ 32 → p.1 < 2 ^ 32 → p.2 < 2 ^ 32 → q.0 < 2 ^ 32 → q.1 < 2 ^ 32 → q.2 < 2 ^ 32 → three_text p ≡ three_text q → p ≡ q
three_once (a, b, x) (c, d, y) la lb lx lc ld ly e =
    let same : SameNumber a c (two_text (b, x)) (two_text (d, y)) = behind_number (three_text (a, b, x)) (two_text (b, x)) a c (two_text (d, y)) refl la lc e in
    let next : SameNumber b d (decimal x) (decimal y) = behind_number (two_text (b, x)) (decimal x) b d (decimal y) refl lb ld same.back in
    let last : x ≡ y = number_once x y lx ly next.back in
    λ i. (same.number i, next.number i, last i)

record SameHost (h g : Host) (rest other : List ℕ) : Type 0 where
  host : h ≡ g
  back : rest ≡ other

hosts_alike : (h g : Host) (rest other : List ℕ) → IsHost h → IsHost g → host_text h ++ 32 ∷ rest ≡ host_text g ++ 32 ∷ other → SameHost h g rest other
hosts_alike h g rest other right meant e =
    let cut : SameCut (host_text h) rest (host_text g) other = same_cut 32 (host_text h) rest (host_text g) other (host_unmarked 32 h (lit< tt) right) (host_unmarked 32 g (lit< tt) meant) e in
    record { host = host_once h g right meant cut.front; back = cut.back }

-- ---- requests

arguments_once : (v : Verb) (x y : OperandOf v) → IsRequest (request_of v x) → IsRequest (request_of v y) → arguments (request_of v x) ≡ arguments (request_of v y) → x ≡ y
arguments_once verb.Contact x y p q e = host_once x y p q e
arguments_once verb.Echo (h, n) (g, m) p q e =
    let same : SameHost h g (decimal n) (decimal m) = hosts_alike h g (decimal n) (decimal m) p.0 q.0 e in
    let next : n ≡ m = number_once n m (omega (arith, p.1)) (omega (arith, q.1)) same.back in
    λ i. (same.host i, next i)
arguments_once verb.Listen x y p q e = two_once x y p.0 (omega (arith, p.1)) q.0 (omega (arith, q.1)) e
arguments_once verb.OpenSend (h, a, b, c) (g, x, y, z) p q e =
    let same : SameHost h g (three_text (a, b, c)) (three_text (x, y, z)) = hosts_alike h g (three_text (a, b, c)) (three_text (x, y, z)) p.0 q.0 e in
    let next : (a, b, c) ≡ (x, y, z) = three_once (a, b, c) (x, y, z) p.1 p.2 (omega (arith, p.3)) q.1 q.2 (omega (arith, q.3)) same.back in
    λ i. (same.host i, (next i).0, (next i).1, (next i).2)
arguments_once verb.OpenReceive (h, a, b) (g, x, y) p q e =
    let same : SameHost h g (two_text (a, b)) (two_text (x, y)) = hosts_alike h g (two_text (a, b)) (two_text (x, y)) p.0 q.0 e in
    let next : (a, b) ≡ (x, y) = two_once (a, b) (x, y) p.1 p.2 q.1 q.2 same.back in
    λ i. (same.host i, (next i).0, (next i).1)
arguments_once verb.Send (n, bits) (m, others) p q e =
    let same : SameNumber n m (decimal (length bits) ++ 32 ∷ octets_text bits) (decimal (length others) ++ 32 ∷ octets_text others) = behind_number (decimal n ++ 32 ∷ (decimal (length bits) ++ 32 ∷ octets_text bits)) (decimal (length bits) ++ 32 ∷ octets_text bits) n m (decimal (length others) ++ 32 ∷ octets_text others) refl p.0 q.0 e in
    let next : SameNumber (length bits) (length others) (octets_text bits) (octets_text others) = behind_number (decimal (length bits) ++ 32 ∷ octets_text bits) (octets_text bits) (length bits) (length others) (octets_text others) refl p.1 q.1 same.back in
    let text : bits ≡ others = text_once bits others next.number next.back in
    λ i. (same.number i, text i)
arguments_once verb.Grant x y p q e = three_once x y p.0 (omega (arith, p.1)) p.2 q.0 (omega (arith, q.1)) q.2 e
arguments_once verb.AskBack x y p q e = three_once x y p.0 (omega (arith, p.1)) (omega (arith, p.2)) q.0 (omega (arith, q.1)) (omega (arith, q.2)) e
arguments_once verb.Interrupt x y p q e = number_once x y p q e
arguments_once verb.Close x y p q e = number_once x y p q e

-- ---- events by their first word

net_inside : (a b : NetEvent) → raw.Net a ≡ raw.Net b → a ≡ b
net_inside a b e = cc

operand_once : (strangers : Bool) (k : Head) (x y : OperandAt k) → IsWorldEvent strangers (event_at k x) → IsWorldEvent strangers (event_at k y) → world_spelling (event_at k x) ≡ world_spelling (event_at k y) → behind (event_at k x) ≡ behind (event_at k y) → x ≡ y
operand_once strangers (Asks v) (h, x) (g, y) p q e b =
    let same : SameHost h g (arguments (request_of v x)) (arguments (request_of v y)) = hosts_alike h g (arguments (request_of v x)) (arguments (request_of v y)) p.0 q.0 b in
    let next : x ≡ y = arguments_once v x y p.1 q.1 same.back in
    λ i. (same.host i, next i)
operand_once strangers Offers x y p q e b = host_once x y p q b
operand_once strangers Takes x y p q e b = host_once x y p q b
operand_once strangers Calms x y p q e b = number_once x y p q b
operand_once strangers Serves (h, l, s) (g, x, y) p q e b =
    let same : SameHost h g (two_text (l, s)) (two_text (x, y)) = hosts_alike h g (two_text (l, s)) (two_text (x, y)) p.0 q.0 b in
    let next : (l, s) ≡ (x, y) = two_once (l, s) (x, y) p.1 p.2 q.1 q.2 same.back in
    λ i. (same.host i, (next i).0, (next i).1)
operand_once strangers Uses (h, k, l, u) (g, m, x, y) p q e b =
    let same : SameHost h g (host_text k ++ 32 ∷ two_text (l, u)) (host_text m ++ 32 ∷ two_text (x, y)) = hosts_alike h g (host_text k ++ 32 ∷ two_text (l, u)) (host_text m ++ 32 ∷ two_text (x, y)) p.0 q.0 b in
    let peers : SameHost k m (two_text (l, u)) (two_text (x, y)) = hosts_alike k m (two_text (l, u)) (two_text (x, y)) p.1 q.1 same.back in
    let next : (l, u) ≡ (x, y) = two_once (l, u) (x, y) p.2 p.3 q.2 q.3 peers.back in
    λ i. (same.host i, peers.host i, (next i).0, (next i).1)
operand_once strangers Types (h, text) (g, other) p q e b =
    let same : SameHost h g text other = hosts_alike h g text other p.0 q.0 b in
    λ i. (same.host i, same.back i)
operand_once strangers Says x y p q e b = message_once x y p.1 q.1 b
operand_once strangers Nets x y p q e b = net_inside x y (event_once (raw.Net x) (raw.Net y) p q e)

at_once : (strangers : Bool) (k : Head) (x : OperandAt k) (d : WorldEvent) → head d ≡ k → IsWorldEvent strangers (event_at k x) → (meant : IsWorldEvent strangers d) → world_spelling (event_at k x) ≡ world_spelling d → behind (event_at k x) ≡ behind d → event_at k x ≡ d
at_once strangers k x d same p meant e b =
    let F : Head → Type 0 = λ j. (y : OperandAt j) → IsWorldEvent strangers (event_at j y) → world_spelling (event_at j y) ≡ world_spelling d → behind (event_at j y) ≡ behind d → event_at j y ≡ d in
    let again : event_at (head d) (operand_at strangers d meant) ≡ d = event_again strangers d meant in
    let here : F (head d) = λ y q alike rest. ap (event_at (head d)) (operand_once strangers (head d) y (operand_at strangers d meant) q (subst (IsWorldEvent strangers) (sym again) meant) (alike ∙ ap world_spelling (sym again)) (rest ∙ ap behind (sym again))) ∙ again in
    subst F same here x p e b

pub world_event_once : (strangers : Bool) (d e : WorldEvent) → IsWorldEvent strangers d → IsWorldEvent strangers e → world_spelling d ≡ world_spelling e → d ≡ e
world_event_once strangers d e p q same =
    let cut : SameCut (first d) (behind d) (first e) (behind e) = cut_alike strangers (first d) (behind d) e q (first_unmarked strangers d p) (sym (spelled_event strangers d p) ∙ same) in
    let heads : head e ≡ head d = sym (head_again strangers e q) ∙ ap head_of (sym cut.front) ∙ head_again strangers d p in
    let again : event_at (head d) (operand_at strangers d p) ≡ d = event_again strangers d p in
    sym again ∙ at_once strangers (head d) (operand_at strangers d p) e heads (subst (IsWorldEvent strangers) (sym again) p) q (ap world_spelling again ∙ same) (ap behind again ∙ cut.back)

pub world_asked_once : (strangers : Bool) (ds es : List WorldEvent) (lines : List (List ℕ)) → AskFor strangers ds lines → AskFor strangers es lines → ds ≡ es
world_asked_once strangers ds es lines d e = asked_once_as world_spelling (IsWorldEvent strangers) (world_event_once strangers) ds es lines d e
