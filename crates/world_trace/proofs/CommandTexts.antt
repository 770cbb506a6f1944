-- Commands have texts of their own.
use Rattle.world_trace.proofs.Common.{false≢true, All-head, All-tail, decimal, All, bytes_eq, Command, unmarked_where, Lacks, IsShort, member, object, quoted}
use Rattle.std.proofs.Common.{◌≡◌, ℕ, Bool, true, false, List, [], ◌∷◌, codes, if◌then◌else◌, length, refl, sym, ap, ap₂, subst, ◌∙◌, arith, slice_index_or}
use Rattle.hex.specs.Hex.{IsBytes, encode_upper}
use Rattle.trace.proofs.lemmas.{AreClosed, IsClosed, Spelled, also_closed, decimal_closed, first_same, member_once, none_closed, object_closed, object_once, quoted_once, rest_same, short_once, string_closed}
use Rattle.world_trace.specs.Texts.{command_object}
use Rattle.world_trace.specs.Told.{IsCommandTold, numbers_of, quoted_by}
use Rattle.ncp_control.specs.declared.command.Command.TheVariants as command
use Rattle.world_trace.proofs.Fields.{AreNames, all_names, are_names, octets_spelled}

-- ---- words

word_of : Command → List ℕ
word_of command.Nop = codes "nop"
word_of (command.Rts receive send link) = codes "rts"
word_of (command.Str send receive size) = codes "str"
word_of (command.Cls own foreign) = codes "cls"
word_of (command.All link messages bits) = codes "all"
word_of (command.Gvb link messages bits) = codes "gvb"
word_of (command.Ret link messages bits) = codes "ret"
word_of (command.Inr link) = codes "inr"
word_of (command.Ins link) = codes "ins"
word_of (command.Eco octet) = codes "eco"
word_of (command.Erp octet) = codes "erp"
word_of (command.Err code detail) = codes "err"
word_of command.Rst = codes "rst"
word_of command.Rrp = codes "rrp"

word_plain : (c : Command) → Lacks 34 (word_of c)
unfolding word_of
word_plain command.Nop = unmarked_where 34 (codes "nop") refl
word_plain (command.Rts receive send link) = unmarked_where 34 (codes "rts") refl
word_plain (command.Str send receive size) = unmarked_where 34 (codes "str") refl
word_plain (command.Cls own foreign) = unmarked_where 34 (codes "cls") refl
word_plain (command.All link messages bits) = unmarked_where 34 (codes "all") refl
word_plain (command.Gvb link messages bits) = unmarked_where 34 (codes "gvb") refl
word_plain (command.Ret link messages bits) = unmarked_where 34 (codes "ret") refl
word_plain (command.Inr link) = unmarked_where 34 (codes "inr") refl
word_plain (command.Ins link) = unmarked_where 34 (codes "ins") refl
word_plain (command.Eco octet) = unmarked_where 34 (codes "eco") refl
word_plain (command.Erp octet) = unmarked_where 34 (codes "erp") refl
word_plain (command.Err code detail) = unmarked_where 34 (codes "err") refl
word_plain command.Rst = unmarked_where 34 (codes "rst") refl
word_plain command.Rrp = unmarked_where 34 (codes "rrp") refl

-- ---- the command of a word, numbers and octets

command_of : List ℕ → List ℕ → List ℕ → Command
command_of word ns octets =
    let n : ℕ → ℕ = λ i. slice_index_or ns i 0 in
    if bytes_eq word (codes "rts") then command.Rts (n 0) (n 1) (n 2)
    else if bytes_eq word (codes "str") then command.Str (n 0) (n 1) (n 2)
    else if bytes_eq word (codes "cls") then command.Cls (n 0) (n 1)
    else if bytes_eq word (codes "all") then command.All (n 0) (n 1) (n 2)
    else if bytes_eq word (codes "gvb") then command.Gvb (n 0) (n 1) (n 2)
    else if bytes_eq word (codes "ret") then command.Ret (n 0) (n 1) (n 2)
    else if bytes_eq word (codes "inr") then command.Inr (n 0)
    else if bytes_eq word (codes "ins") then command.Ins (n 0)
    else if bytes_eq word (codes "eco") then command.Eco (n 0)
    else if bytes_eq word (codes "erp") then command.Erp (n 0)
    else if bytes_eq word (codes "err") then command.Err (n 0) octets
    else if bytes_eq word (codes "rst") then command.Rst
    else if bytes_eq word (codes "rrp") then command.Rrp
    else command.Nop

command_again : (c : Command) → command_of (word_of c) (numbers_of c) (quoted_by c) ≡ c
unfolding word_of command_of
command_again command.Nop = refl
command_again c = refl

-- ---- members

-- numbers under these names, before other members
numbered : List (List ℕ) → List ℕ → List (List ℕ) → List (List ℕ)
numbered [] ns others = others
numbered (name ∷ names) [] others = others
numbered (name ∷ names) (n ∷ ns) others = member name (decimal n) ∷ numbered names ns others

names_of : List ℕ → List (List ℕ)
names_of word =
    if bytes_eq word (codes "rts") then codes "receive" ∷ codes "send" ∷ codes "link" ∷ []
    else if bytes_eq word (codes "str") then codes "send" ∷ codes "receive" ∷ codes "size" ∷ []
    else if bytes_eq word (codes "cls") then codes "own" ∷ codes "foreign" ∷ []
    else if bytes_eq word (codes "all") then codes "link" ∷ codes "messages" ∷ codes "bits" ∷ []
    else if bytes_eq word (codes "gvb") then codes "link" ∷ codes "messages" ∷ codes "bits" ∷ []
    else if bytes_eq word (codes "ret") then codes "link" ∷ codes "messages" ∷ codes "bits" ∷ []
    else if bytes_eq word (codes "inr") then codes "link" ∷ []
    else if bytes_eq word (codes "ins") then codes "link" ∷ []
    else if bytes_eq word (codes "eco") then codes "octet" ∷ []
    else if bytes_eq word (codes "erp") then codes "octet" ∷ []
    else if bytes_eq word (codes "err") then codes "code" ∷ []
    else []

quoting : Bool → List ℕ → List (List ℕ)
quoting true octets = member (codes "detail") (quoted (encode_upper octets)) ∷ []
quoting false octets = []

is_error : List ℕ → Bool
is_error word = bytes_eq word (codes "err")

members_of : Command → List (List ℕ)
members_of c = member (codes "kind") (quoted (word_of c)) ∷ numbered (names_of (word_of c)) (numbers_of c) (quoting (is_error (word_of c)) (quoted_by c))

object_is : (c : Command) → command_object c ≡ object (members_of c)
unfolding word_of members_of numbered names_of quoting is_error
object_is command.Nop = refl
object_is c = refl

-- each number has a name, and only an error quotes octets
record IsFormed (c : Command) : Type 0 where
  long : length (numbers_of c) ≡ length (names_of (word_of c))
  plain : all_names (names_of (word_of c)) ≡ true
  quiet : is_error (word_of c) ≡ false → quoted_by c ≡ []

formed : (c : Command) → IsFormed c
unfolding word_of names_of is_error
formed (command.Err code detail) = record { long = refl; plain = refl; quiet = λ e. absurd (false≢true (sym e)) }
formed c = record { long = refl; plain = refl; quiet = λ e. refl }

-- ---- each text is closed, and no two are alike

numbered_closed : (names : List (List ℕ)) (ns : List ℕ) (others : List (List ℕ)) → AreNames names → AreClosed others → AreClosed (numbered names ns others)
unfolding numbered
numbered_closed [] ns others plain more = more
numbered_closed (name ∷ names) [] others plain more = more
numbered_closed (name ∷ names) (n ∷ ns) others plain more = also_closed name plain.0 (decimal_closed n) (numbered_closed names ns others plain.1 more)

-- the numbers, and what follows them
abbrev Numbered : List ℕ → List ℕ → List (List ℕ) → List (List ℕ) → Type 0
Numbered ns ms r s = (ns ≡ ms) × (r ≡ s)

numbered_once : (names : List (List ℕ)) (ns ms : List ℕ) (r s : List (List ℕ)) → length ns ≡ length names → length ms ≡ length names → All IsShort ns → All IsShort ms → numbered names ns r ≡ numbered names ms s → Numbered ns ms r s
unfolding numbered
numbered_once [] [] [] r s long far p q e = (refl, e)
numbered_once [] [] (m ∷ ms) r s long far p q e = absurd (omega (arith, far))
numbered_once [] (n ∷ ns) ms r s long far p q e = absurd (omega (arith, long))
numbered_once (name ∷ names) [] ms r s long far p q e = absurd (omega (arith, long))
numbered_once (name ∷ names) (n ∷ ns) [] r s long far p q e = absurd (omega (arith, far))
numbered_once (name ∷ names) (n ∷ ns) (m ∷ ms) r s long far p q e =
    let first : n ≡ m = short_once n m (All-head IsShort n ns p) (All-head IsShort m ms q) (member_once name (decimal n) (decimal m) (first_same e)) in
    let rest : Numbered ns ms r s = numbered_once names ns ms r s (omega (arith, long)) (omega (arith, far)) (All-tail IsShort n ns p) (All-tail IsShort m ms q) (rest_same e) in
    (ap₂ (λ (x : ℕ) (xs : List ℕ). x ∷ xs) first rest.0, rest.1)

quoting_closed : (b : Bool) (octets : List ℕ) → IsBytes octets → AreClosed (quoting b octets)
unfolding quoting
quoting_closed true octets small = also_closed (codes "detail") refl (octets_spelled.closed octets small) none_closed
quoting_closed false octets small = none_closed

quoted_same : (b : Bool) (os ps : List ℕ) → IsBytes os → IsBytes ps → (b ≡ false → os ≡ []) → (b ≡ false → ps ≡ []) → quoting b os ≡ quoting b ps → os ≡ ps
unfolding quoting
quoted_same true os ps p q none nothing e = octets_spelled.once os ps p q (member_once (codes "detail") (quoted (encode_upper os)) (quoted (encode_upper ps)) (first_same e))
quoted_same false os ps p q none nothing e = none refl ∙ sym (nothing refl)

members_closed : (c : Command) → IsCommandTold c → AreClosed (members_of c)
unfolding members_of
members_closed c is =
    also_closed (codes "kind") refl (string_closed (word_of c) (word_plain c))
    (numbered_closed (names_of (word_of c)) (numbers_of c) (quoting (is_error (word_of c)) (quoted_by c)) (are_names (names_of (word_of c)) (formed c).plain) (quoting_closed (is_error (word_of c)) (quoted_by c) is.octets))

command_once : (c d : Command) → IsCommandTold c → IsCommandTold d → command_object c ≡ command_object d → c ≡ d
unfolding members_of
command_once c d p q e =
    let all : members_of c ≡ members_of d = object_once (members_of c) (members_of d) (members_closed c p).all (members_closed d q).all (sym (object_is c) ∙ e ∙ object_is d) in
    let word : word_of c ≡ word_of d = quoted_once (word_of c) (word_of d) (member_once (codes "kind") (quoted (word_of c)) (quoted (word_of d)) (first_same all)) in
    let others : List (List ℕ) = quoting (is_error (word_of d)) (quoted_by d) in
    let moved : numbered (names_of (word_of d)) (numbers_of c) (quoting (is_error (word_of d)) (quoted_by c)) ≡ numbered (names_of (word_of d)) (numbers_of d) others =
    subst (λ (w : List ℕ). numbered (names_of w) (numbers_of c) (quoting (is_error w) (quoted_by c)) ≡ numbered (names_of (word_of d)) (numbers_of d) others) word (rest_same all) in
    let long : length (numbers_of c) ≡ length (names_of (word_of d)) = (formed c).long ∙ ap (λ (w : List ℕ). length (names_of w)) word in
    let both : Numbered (numbers_of c) (numbers_of d) (quoting (is_error (word_of d)) (quoted_by c)) others =
    numbered_once (names_of (word_of d)) (numbers_of c) (numbers_of d) (quoting (is_error (word_of d)) (quoted_by c)) others long (formed d).long p.numbers q.numbers moved in
    let octets : quoted_by c ≡ quoted_by d = quoted_same (is_error (word_of d)) (quoted_by c) (quoted_by d) p.octets q.octets (λ h. (formed c).quiet (ap is_error word ∙ h)) (formed d).quiet both.1 in
    sym (command_again c) ∙ ap (λ (w : List ℕ). command_of w (numbers_of c) (quoted_by c)) word ∙ ap₂ (λ (ns os : List ℕ). command_of (word_of d) ns os) both.0 octets ∙ command_again d

pub command_spelled : Spelled command_object IsCommandTold
command_spelled = record {
  closed = λ c is. subst IsClosed (sym (object_is c)) (object_closed (members_of c) (members_closed c is).all);
  once = command_once;
}
