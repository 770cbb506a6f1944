-- Requests as words after a verb and a host.
use Rattle.std.proofs.Common.{◌≡◌, ◌≢◌, ℕ, ◌<◌, ◌≤◌, ◌^◌, ◌==◌, Bool, false, List, ◌∷◌, ◌++◌, length, None, refl, sym, ap, ◌∙◌, arith, subst, lit<}
use Rattle.std.proofs.lemmas.Fmt.{decimal_injective}
use Rattle.std.specs.Fmt.{decimal}
use Rattle.std.specs.List.{list_any}
use Rattle.interface.specs.Host.{Host}
use Rattle.interface.specs.Printed.{host_text}
use Rattle.script.specs.Spelling.{IsHost, ReadsAs, octets_text}
use Rattle.script.specs.Steps.{Lacks}
use Rattle.script.proofs.lemmas.{All-unmarked_decimal, SameCut, host_unmarked, not_back, not_cut, not_front, same_cut, unmarked_where}
use Rattle.sockets.specs.declared.request.Request.{Request}
use Rattle.sockets.specs.declared.request.Request.TheVariants as request
use Rattle.world_script.specs.Steps.{AreThree, AreTwo, arguments, three_text, two_text, verb_of, verb_text}
use Rattle.world_script.specs.WorldSpelling.{IsRequest, request_spelling}
use Rattle.world_script.specs.declared.verb.Verb.{Verb}
use Rattle.world_script.specs.declared.verb.Verb.TheVariants as verb

-- ---- words at the beginning

number_unmarked : (n limit : ℕ) → limit < 2 ^ 32 → n ≤ limit → Lacks 32 (decimal n)
number_unmarked n limit few small = All-unmarked_decimal 32 n (lit< tt) (omega arith)

wide_unmarked : (n : ℕ) → n < 2 ^ 32 → Lacks 32 (decimal n)
wide_unmarked n small = All-unmarked_decimal 32 n (lit< tt) (omega arith)

-- words without a space don't begin with a host and a space
pub no_host : (words : List ℕ) → Lacks 32 words → (h : Host) (rest : List ℕ) → IsHost h → words ≢ host_text h ++ 32 ∷ rest
no_host words lacks h rest is e = not_cut 32 words (λ (x : Host). host_text x) (λ (x : Host). rest) IsHost lacks h is e

pub other_host : (words a b : List ℕ) → words ≡ a ++ 32 ∷ b → Lacks 32 a → ReadsAs host_text IsHost a None → (h : Host) (rest : List ℕ) → IsHost h → words ≢ host_text h ++ 32 ∷ rest
other_host words a b is lacks none h rest meant e = not_front 32 words a b (λ (x : Host). host_text x) (λ (x : Host). rest) IsHost is lacks (λ x right. host_unmarked 32 x (lit< tt) right) none h meant e

pub no_number : (words : List ℕ) → Lacks 32 words → (n : ℕ) (rest : List ℕ) → n < 2 ^ 32 → words ≢ decimal n ++ 32 ∷ rest
no_number words lacks n rest small e = not_cut 32 words (λ (x : ℕ). decimal x) (λ (x : ℕ). rest) (λ (x : ℕ). x < 2 ^ 32) lacks n small e

pub other_number : (words a b : List ℕ) → words ≡ a ++ 32 ∷ b → Lacks 32 a → ReadsAs decimal (λ n. n < 2 ^ 32) a None → (n : ℕ) (rest : List ℕ) → n < 2 ^ 32 → words ≢ decimal n ++ 32 ∷ rest
other_number words a b is lacks none n rest small e = not_front 32 words a b (λ (x : ℕ). decimal x) (λ (x : ℕ). rest) (λ (x : ℕ). x < 2 ^ 32) is lacks (λ x few. wide_unmarked x few) none n small e

-- ---- two and three numbers

pub no_two : (a b : ℕ) (words : List ℕ) → Lacks 32 words → (p : ℕ × ℕ) → AreTwo a b p → words ≢ two_text p
no_two a b words lacks = not_cut 32 words (λ (p : ℕ × ℕ). decimal p.0) (λ (p : ℕ × ℕ). decimal p.1) (AreTwo a b) lacks

pub other_first : (a b : ℕ) (words x y : List ℕ) → a < 2 ^ 32 → words ≡ x ++ 32 ∷ y → Lacks 32 x → ReadsAs decimal (λ n. n ≤ a) x None → (p : ℕ × ℕ) → AreTwo a b p → words ≢ two_text p
other_first a b words x y few is lacks none = not_front 32 words x y (λ (p : ℕ × ℕ). decimal p.0) (λ (p : ℕ × ℕ). decimal p.1) (AreTwo a b) is lacks (λ p are. number_unmarked p.0 a few are.0) (λ p are e. none p.0 are.0 e)

pub other_second : (a b : ℕ) (words x y : List ℕ) → a < 2 ^ 32 → words ≡ x ++ 32 ∷ y → Lacks 32 x → ReadsAs decimal (λ n. n ≤ b) y None → (p : ℕ × ℕ) → AreTwo a b p → words ≢ two_text p
other_second a b words x y few is lacks none = not_back 32 words x y (λ (p : ℕ × ℕ). decimal p.0) (λ (p : ℕ × ℕ). decimal p.1) (AreTwo a b) is lacks (λ p are. number_unmarked p.0 a few are.0) (λ p are e. none p.1 are.1 e)

pub no_three : (a b d : ℕ) (words : List ℕ) → Lacks 32 words → (p : ℕ × ℕ × ℕ) → AreThree a b d p → words ≢ three_text p
no_three a b d words lacks = not_cut 32 words (λ (p : ℕ × ℕ × ℕ). decimal p.0) (λ (p : ℕ × ℕ × ℕ). two_text (p.1, p.2)) (AreThree a b d) lacks

pub other_front : (a b d : ℕ) (words x y : List ℕ) → a < 2 ^ 32 → words ≡ x ++ 32 ∷ y → Lacks 32 x → ReadsAs decimal (λ n. n ≤ a) x None → (p : ℕ × ℕ × ℕ) → AreThree a b d p → words ≢ three_text p
other_front a b d words x y few is lacks none = not_front 32 words x y (λ (p : ℕ × ℕ × ℕ). decimal p.0) (λ (p : ℕ × ℕ × ℕ). two_text (p.1, p.2)) (AreThree a b d) is lacks (λ p are. number_unmarked p.0 a few are.0) (λ p are e. none p.0 are.0 e)

pub other_back : (a b d : ℕ) (words x y : List ℕ) → a < 2 ^ 32 → words ≡ x ++ 32 ∷ y → Lacks 32 x → ReadsAs two_text (AreTwo b d) y None → (p : ℕ × ℕ × ℕ) → AreThree a b d p → words ≢ three_text p
other_back a b d words x y few is lacks none = not_back 32 words x y (λ (p : ℕ × ℕ × ℕ). decimal p.0) (λ (p : ℕ × ℕ × ℕ). two_text (p.1, p.2)) (AreThree a b d) is lacks (λ p are. number_unmarked p.0 a few are.0) (λ p are e. none (p.1, p.2) (are.1, are.2) e)

-- ---- the operands of a verb

abbrev pub OperandOf : Verb → Type 0
OperandOf verb.Contact = Host
OperandOf verb.Echo = Host × ℕ
OperandOf verb.Listen = ℕ × ℕ
OperandOf verb.OpenSend = Host × ℕ × ℕ × ℕ
OperandOf verb.OpenReceive = Host × ℕ × ℕ
OperandOf verb.Send = ℕ × List Bool
OperandOf verb.Grant = ℕ × ℕ × ℕ
OperandOf verb.AskBack = ℕ × ℕ × ℕ
OperandOf verb.Interrupt = ℕ
OperandOf verb.Close = ℕ

abbrev pub request_of : (v : Verb) → OperandOf v → Request
request_of verb.Contact h = request.Contact h
request_of verb.Echo p = request.Echo p.0 p.1
request_of verb.Listen p = request.Listen p.0 p.1
request_of verb.OpenSend p = request.OpenSend p.0 p.1 p.2 p.3
request_of verb.OpenReceive p = request.OpenReceive p.0 p.1 p.2
request_of verb.Send p = request.Send p.0 p.1
request_of verb.Grant p = request.Grant p.0 p.1 p.2
request_of verb.AskBack p = request.AskBack p.0 p.1 p.2
request_of verb.Interrupt n = request.Interrupt n
request_of verb.Close n = request.Close n

abbrev pub operand : (r : Request) → OperandOf (verb_of r)
operand (request.Contact h) = h
operand (request.Echo h n) = (h, n)
operand (request.Listen n m) = (n, m)
operand (request.OpenSend h n m k) = (h, n, m, k)
operand (request.OpenReceive h n m) = (h, n, m)
operand (request.Send n bits) = (n, bits)
operand (request.Grant n m k) = (n, m, k)
operand (request.AskBack n m k) = (n, m, k)
operand (request.Interrupt n) = n
operand (request.Close n) = n

pub request_again : (r : Request) → request_of (verb_of r) (operand r) ≡ r
request_again (request.Contact h) = refl
request_again r = refl

pub verb_again : (v : Verb) (z : OperandOf v) → verb_of (request_of v z) ≡ v
verb_again verb.Contact z = refl
verb_again v z = refl

-- words that are the arguments of no operand of a verb are those of no request of that verb
no_request : (v : Verb) (words : List ℕ) → ((z : OperandOf v) → IsRequest (request_of v z) → words ≢ arguments (request_of v z)) → (r : Request) → IsRequest r → verb_of r ≡ v → words ≢ arguments r
no_request v words none r meant same e =
    let F : Verb → Type 0 = λ w. (z : OperandOf w) → IsRequest (request_of w z) → words ≢ arguments (request_of w z) in
    let there : F (verb_of r) = subst F (sym same) none in
    there (operand r) (subst IsRequest (sym (request_again r)) meant) (e ∙ ap arguments (sym (request_again r)))

-- a request's line is its verb, its host and its arguments
pub spelled_request : (h : Host) (r : Request) → request_spelling h r ≡ verb_text (verb_of r) ++ 32 ∷ (host_text h ++ 32 ∷ arguments r)
spelled_request h (request.Contact peer) = refl
spelled_request h r = refl

-- a verb's word has no space
verb_plain : (v : Verb) → list_any (λ x. x == 32) (verb_text v) ≡ false
verb_plain verb.Contact = refl
verb_plain v = refl

pub verb_unmarked : (v : Verb) → Lacks 32 (verb_text v)
verb_unmarked v = unmarked_where 32 (verb_text v) (verb_plain v)

-- ---- after a host or a number

pub host_front : (words a b : List ℕ) (h : Host) → words ≡ a ++ 32 ∷ b → a ≡ host_text h → words ≡ host_text h ++ 32 ∷ b
host_front words a b h is same = is ∙ ap (λ v. v ++ 32 ∷ b) same

pub behind_host : (words rest : List ℕ) (h g : Host) (other : List ℕ) → words ≡ host_text h ++ 32 ∷ rest → IsHost h → IsHost g → words ≡ host_text g ++ 32 ∷ other → rest ≡ other
behind_host words rest h g other is right meant e =
    let cut : SameCut (host_text h) rest (host_text g) other = same_cut 32 (host_text h) rest (host_text g) other (host_unmarked 32 h (lit< tt) right) (host_unmarked 32 g (lit< tt) meant) (sym is ∙ e) in
    cut.back

pub record SameNumber (n m : ℕ) (rest other : List ℕ) : Type 0 where
  pub number : n ≡ m
  pub back : rest ≡ other

pub behind_number : (words rest : List ℕ) (n m : ℕ) (other : List ℕ) → words ≡ decimal n ++ 32 ∷ rest → n < 2 ^ 32 → m < 2 ^ 32 → words ≡ decimal m ++ 32 ∷ other → SameNumber n m rest other
behind_number words rest n m other is small few e =
    let cut : SameCut (decimal n) rest (decimal m) other = same_cut 32 (decimal n) rest (decimal m) other (wide_unmarked n small) (wide_unmarked m few) (sym is ∙ e) in
    record { number = decimal_injective n m (omega arith) (omega arith) cut.front; back = cut.back }

-- ---- words that are no request of a verb

pub no_echo : (words : List ℕ) → ((h : Host) (rest : List ℕ) → IsHost h → words ≢ host_text h ++ 32 ∷ rest) → (r : Request) → IsRequest r → verb_of r ≡ verb.Echo → words ≢ arguments r
no_echo words none = no_request verb.Echo words (λ z meant e. none z.0 (decimal z.1) meant.0 e)

pub no_octet : (words rest : List ℕ) (h : Host) → words ≡ host_text h ++ 32 ∷ rest → IsHost h → ReadsAs decimal (λ n. n ≤ 255) rest None → (r : Request) → IsRequest r → verb_of r ≡ verb.Echo → words ≢ arguments r
no_octet words rest h is right none = no_request verb.Echo words (λ z meant e. none z.1 (omega (arith, meant.1)) (behind_host words rest h z.0 (decimal z.1) is right meant.0 e))

pub no_listen : (words : List ℕ) → ReadsAs two_text (AreTwo 4294967295 255) words None → (r : Request) → IsRequest r → verb_of r ≡ verb.Listen → words ≢ arguments r
no_listen words none = no_request verb.Listen words (λ z meant e. none z (omega (arith, meant.0), omega (arith, meant.1)) e)

pub no_send_peer : (words : List ℕ) → ((h : Host) (rest : List ℕ) → IsHost h → words ≢ host_text h ++ 32 ∷ rest) → (r : Request) → IsRequest r → verb_of r ≡ verb.OpenSend → words ≢ arguments r
no_send_peer words none = no_request verb.OpenSend words (λ z meant e. none z.0 (three_text (z.1, z.2, z.3)) meant.0 e)

pub no_send_sockets : (words rest : List ℕ) (h : Host) → words ≡ host_text h ++ 32 ∷ rest → IsHost h → ReadsAs three_text (AreThree 4294967295 4294967295 255) rest None → (r : Request) → IsRequest r → verb_of r ≡ verb.OpenSend → words ≢ arguments r
no_send_sockets words rest h is right none = no_request verb.OpenSend words (λ z meant e. none (z.1, z.2, z.3) (omega (arith, meant.1), omega (arith, meant.2), omega (arith, meant.3)) (behind_host words rest h z.0 (three_text (z.1, z.2, z.3)) is right meant.0 e))

pub no_receive_peer : (words : List ℕ) → ((h : Host) (rest : List ℕ) → IsHost h → words ≢ host_text h ++ 32 ∷ rest) → (r : Request) → IsRequest r → verb_of r ≡ verb.OpenReceive → words ≢ arguments r
no_receive_peer words none = no_request verb.OpenReceive words (λ z meant e. none z.0 (two_text (z.1, z.2)) meant.0 e)

pub no_receive_sockets : (words rest : List ℕ) (h : Host) → words ≡ host_text h ++ 32 ∷ rest → IsHost h → ReadsAs two_text (AreTwo 4294967295 4294967295) rest None → (r : Request) → IsRequest r → verb_of r ≡ verb.OpenReceive → words ≢ arguments r
no_receive_sockets words rest h is right none = no_request verb.OpenReceive words (λ z meant e. none (z.1, z.2) (omega (arith, meant.1), omega (arith, meant.2)) (behind_host words rest h z.0 (two_text (z.1, z.2)) is right meant.0 e))

pub no_grant : (words : List ℕ) → ReadsAs three_text (AreThree 4294967295 65535 4294967295) words None → (r : Request) → IsRequest r → verb_of r ≡ verb.Grant → words ≢ arguments r
no_grant words none = no_request verb.Grant words (λ z meant e. none z (omega (arith, meant.0), omega (arith, meant.1), omega (arith, meant.2)) e)

pub no_ask_back : (words : List ℕ) → ReadsAs three_text (AreThree 4294967295 255 255) words None → (r : Request) → IsRequest r → verb_of r ≡ verb.AskBack → words ≢ arguments r
no_ask_back words none = no_request verb.AskBack words (λ z meant e. none z (omega (arith, meant.0), omega (arith, meant.1), omega (arith, meant.2)) e)

-- ---- bits to send

pub no_count : (words rest : List ℕ) (n : ℕ) → words ≡ decimal n ++ 32 ∷ rest → n < 2 ^ 32 → ((m : ℕ) (more : List ℕ) → m < 2 ^ 32 → rest ≢ decimal m ++ 32 ∷ more) → (r : Request) → IsRequest r → verb_of r ≡ verb.Send → words ≢ arguments r
no_count words rest n is small none = no_request verb.Send words (λ z meant e.
    let same = behind_number words rest n z.0 (decimal (length z.1) ++ 32 ∷ octets_text z.1) is small meant.0 e in
    none (length z.1) (octets_text z.1) meant.1 same.back)

pub no_bits : (words rest word : List ℕ) (n count : ℕ) → words ≡ decimal n ++ 32 ∷ rest → n < 2 ^ 32 → rest ≡ decimal count ++ 32 ∷ word → count < 2 ^ 32 → ReadsAs octets_text (λ x. length x ≡ count) word None → (r : Request) → IsRequest r → verb_of r ≡ verb.Send → words ≢ arguments r
no_bits words rest word n count is small counted few none = no_request verb.Send words (λ z meant e.
    let same = behind_number words rest n z.0 (decimal (length z.1) ++ 32 ∷ octets_text z.1) is small meant.0 e in
    let next = behind_number rest word count (length z.1) (octets_text z.1) counted few meant.1 same.back in
    none z.1 (sym next.number) next.back)
