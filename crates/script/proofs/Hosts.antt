-- Hosts and flows as words.
use Rattle.script.proofs.Common.{nat_tests, decimal_injective, All-append, All-cons, decimal, host_text, flow_text, Flow, ReadsFlow, Lacks}
use Rattle.std.proofs.Common.{◌≡◌, ℕ, ◌<◌, ◌≤◌, ◌==◌, ◌&&◌, nat_le, Bool, true, false, List, ◌∷◌, ◌++◌, Option, Some, None, if◌then◌else◌, sym, ap, ◌∙◌, arith, subst, append_assoc, lit<}
use Rattle.interface.specs.Host.{Host, host_at, is_imp}
use Rattle.script.specs.Spelling.{ReadsAs, IsHost, IsFlow}
use Rattle.script.proofs.Numbers.{All-unmarked_decimal}
use Rattle.script.proofs.Words.{SameCut, SameThree, same_three, same_cut}

pub record HostRange (h : Host) : Type 0 where
  pub host : h.host ≤ 3
  pub imp : h.imp ≤ 63

pub host_range : (h : Host) → IsHost h → HostRange h
host_range h is = record { host = grind (arith, nat_tests); imp = grind (arith, nat_tests) }

pub host_unmarked : (mark : ℕ) (h : Host) → mark < 47 → IsHost h → Lacks mark (host_text h)
host_unmarked mark h low is =
    let range = host_range h is in
    let small : h.host ≤ 3 = range.host in
    let few : h.imp ≤ 63 = range.imp in
    let slash : (47 == mark) ≡ false = grind (arith, nat_tests) in
    let P : ℕ → Type 0 = λ x. (x == mark) ≡ false in
    All-append P (decimal h.host) (47 ∷ decimal h.imp) (All-unmarked_decimal mark h.host (omega arith) (omega arith)) (All-cons P 47 (decimal h.imp) slash (All-unmarked_decimal mark h.imp (omega arith) (omega arith)))

-- the number of a host has no slash
pub front_unmarked : (h : Host) → IsHost h → Lacks 47 (decimal h.host)
front_unmarked h is =
    let small : h.host ≤ 3 = (host_range h is).host in
    All-unmarked_decimal 47 h.host (omega arith) (omega arith)

some_same : {X : Type 0} {x y : X} → Some x ≡ Some y → x ≡ y
some_same e = cc

made_is : (test : Bool) (x y : ℕ) (h : Host) → Some h ≡ (if test then Some (record { imp = y; host = x }) else None) → record { imp = y; host = x } ≡ h
made_is true x y h e = sym (some_same e)
made_is false x y h e = cc

-- two numbers with a slash between name the host that they make
pub host_read : (word a b : List ℕ) (x y : ℕ) (o : Option Host) → word ≡ a ++ 47 ∷ b → Lacks 47 a → a ≡ decimal x → b ≡ decimal y → x < 256 → y < 256 → o ≡ host_at x y → ReadsAs host_text IsHost word o
host_read word a b x y (Some h) is unmarked isa isb xl yl made =
    let same : record { imp = y; host = x } ≡ h = made_is (nat_le x 3 && is_imp y) x y h made in
    let text : word ≡ host_text (record { imp = y; host = x }) = is ∙ ap (λ v. v ++ 47 ∷ b) isa ∙ ap (λ v. decimal x ++ 47 ∷ v) isb in
    let F : Host → Type 0 = λ g. (word ≡ host_text g) × (host_at g.host g.imp ≡ Some h) in
    subst F same (text, sym made)
host_read word a b x y None is unmarked isa isb xl yl made = λ h meant e.
    let cut : SameCut a b (decimal h.host) (decimal h.imp) = same_cut 47 a b (decimal h.host) (decimal h.imp) unmarked (front_unmarked h meant) (sym is ∙ e) in
    let small : h.host ≤ 3 = (host_range h meant).host in
    let few : h.imp ≤ 63 = (host_range h meant).imp in
    let same_host : x ≡ h.host = decimal_injective x h.host (omega arith) (omega arith) (sym isa ∙ cut.front) in
    let same_imp : y ≡ h.imp = decimal_injective y h.imp (omega arith) (omega arith) (sym isb ∙ cut.back) in
    let there : host_at x y ≡ Some h = ap (λ n. host_at n y) same_host ∙ ap (λ n. host_at h.host n) same_imp ∙ meant in
    let nothing : Option Host = None in
    let bad : nothing ≡ Some h = made ∙ there in
    cc

-- three words are a flow where they are its hosts and its link
pub same_words : (f : Flow) (R : List ℕ) → flow_text f ++ 32 ∷ R ≡ host_text f.source ++ 32 ∷ (host_text f.destination ++ 32 ∷ (decimal f.link.0 ++ 32 ∷ R))
same_words f R = append_assoc (host_text f.source) (32 ∷ (host_text f.destination ++ 32 ∷ decimal f.link.0)) (32 ∷ R) ∙ ap (λ v. host_text f.source ++ 32 ∷ v) (append_assoc (host_text f.destination) (32 ∷ decimal f.link.0) (32 ∷ R))

pub flow_read : (words a b c : List ℕ) (r : Option Flow) → words ≡ a ++ 32 ∷ (b ++ 32 ∷ c) → Lacks 32 a → Lacks 32 b → ReadsFlow a b c r → ReadsAs flow_text IsFlow words r
flow_read words a b c (Some f) is ha hb (s, d, l, meant) =
    (is ∙ ap (λ v. v ++ 32 ∷ (b ++ 32 ∷ c)) s ∙ ap (λ v. host_text f.source ++ 32 ∷ (v ++ 32 ∷ c)) d ∙ ap (λ v. host_text f.source ++ 32 ∷ (host_text f.destination ++ 32 ∷ v)) l, meant)
flow_read words a b c None is ha hb none = λ f meant e.
    let same : SameThree a b c (host_text f.source) (host_text f.destination) (decimal f.link.0) = same_three 32 a b c (host_text f.source) (host_text f.destination) (decimal f.link.0) ha hb (host_unmarked 32 f.source (lit< tt) meant.0) (host_unmarked 32 f.destination (lit< tt) meant.1) (sym is ∙ e) in
    none f meant same.first same.second same.third
