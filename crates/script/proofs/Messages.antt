-- Messages as words.
use Rattle.script.proofs.Common.{decimal_injective, decimal, host_text, HostMessage, Flow, ReadsFlow, Lacks}
use Rattle.std.proofs.Common.{◌≡◌, ◌≢◌, ℕ, ◌<◌, ◌≤◌, List, ◌∷◌, ◌++◌, length, Some, None, refl, sym, ap, ◌∙◌, arith, lit<}
use Rattle.script.specs.Spelling.{ReadsAs, IsHex, IsMessage, IsTextRead, message_text, octets_text}
use Rattle.script.proofs.Numbers.{All-unmarked_decimal}
use Rattle.script.proofs.Words.{SameThree, same_three}
use Rattle.script.proofs.Hosts.{host_unmarked, same_words}

-- a message's five words
pub message_words : (m : HostMessage) → message_text m ≡ host_text m.flow.source ++ 32 ∷ (host_text m.flow.destination ++ 32 ∷ (decimal m.flow.link.0 ++ 32 ∷ (decimal (length m.text) ++ 32 ∷ octets_text m.text)))
message_words m = same_words m.flow (decimal (length m.text) ++ 32 ∷ octets_text m.text)

-- words that are cut twice, and the two words that a message begins with
begins_alike : (words s d rest : List ℕ) (m : HostMessage) → IsMessage m → words ≡ s ++ 32 ∷ (d ++ 32 ∷ rest) → Lacks 32 s → Lacks 32 d → words ≡ message_text m → SameThree s d rest (host_text m.flow.source) (host_text m.flow.destination) (decimal m.flow.link.0 ++ 32 ∷ (decimal (length m.text) ++ 32 ∷ octets_text m.text))
begins_alike words s d rest m meant is hs hd e =
    same_three 32 s d rest (host_text m.flow.source) (host_text m.flow.destination) (decimal m.flow.link.0 ++ 32 ∷ (decimal (length m.text) ++ 32 ∷ octets_text m.text)) hs hd
    (host_unmarked 32 m.flow.source (lit< tt) meant.0.0) (host_unmarked 32 m.flow.destination (lit< tt) meant.0.1) (sym is ∙ e ∙ message_words m)

pub too_few_words : (words s d rest : List ℕ) → words ≡ s ++ 32 ∷ (d ++ 32 ∷ rest) → Lacks 32 s → Lacks 32 d → ((a b c : List ℕ) → rest ≢ a ++ 32 ∷ (b ++ 32 ∷ c)) → (m : HostMessage) → IsMessage m → words ≢ message_text m
too_few_words words s d rest is hs hd none m meant e =
    let same = begins_alike words s d rest m meant is hs hd e in
    none (decimal m.flow.link.0) (decimal (length m.text)) (octets_text m.text) same.third

-- words that are cut into five
pub record CutInFive (words s d l n h : List ℕ) : Type 0 where
  pub rest : List ℕ
  pub front : words ≡ s ++ 32 ∷ (d ++ 32 ∷ rest)
  pub back : rest ≡ l ++ 32 ∷ (n ++ 32 ∷ h)
  pub source : Lacks 32 s
  pub destination : Lacks 32 d
  pub link : Lacks 32 l
  pub count : Lacks 32 n

record SameFive (s d l n h : List ℕ) (m : HostMessage) : Type 0 where
  source : s ≡ host_text m.flow.source
  destination : d ≡ host_text m.flow.destination
  link : l ≡ decimal m.flow.link.0
  count : n ≡ decimal (length m.text)
  octets : h ≡ octets_text m.text

same_five : (words s d l n h : List ℕ) (m : HostMessage) → CutInFive words s d l n h → IsMessage m → words ≡ message_text m → SameFive s d l n h m
same_five words s d l n h m cut meant e =
    let outer = begins_alike words s d cut.rest m meant cut.front cut.source cut.destination e in
    let small : m.flow.link.0 < 256 = meant.0.2 in
    let few : length m.text ≤ 8063 = meant.1 in
    let inner = same_three 32 l n h (decimal m.flow.link.0) (decimal (length m.text)) (octets_text m.text) cut.link cut.count (All-unmarked_decimal 32 m.flow.link.0 (lit< tt) (omega arith)) (All-unmarked_decimal 32 (length m.text) (lit< tt) (omega arith)) (sym cut.back ∙ outer.third) in
    record { source = outer.first; destination = outer.second; link = inner.first; count = inner.second; octets = inner.third }

pub no_flow : (words s d l n h : List ℕ) → CutInFive words s d l n h → ReadsFlow s d l None → (m : HostMessage) → IsMessage m → words ≢ message_text m
no_flow words s d l n h cut none m meant e =
    let same = same_five words s d l n h m cut meant e in
    none m.flow meant.0 same.source same.destination same.link

pub no_count : (words s d l n h : List ℕ) → CutInFive words s d l n h → ReadsAs decimal (λ x. x ≤ 8063) n None → (m : HostMessage) → IsMessage m → words ≢ message_text m
no_count words s d l n h cut none m meant e =
    let same = same_five words s d l n h m cut meant e in
    none (length m.text) meant.1 same.count

pub no_text : (words s d l n h : List ℕ) (count : ℕ) → CutInFive words s d l n h → n ≡ decimal count → count ≤ 8063 → ReadsAs octets_text (λ x. length x ≡ count) h None → (m : HostMessage) → IsMessage m → words ≢ message_text m
no_text words s d l n h count cut is few none m meant e =
    let same = same_five words s d l n h m cut meant e in
    let short : length m.text ≤ 8063 = meant.1 in
    let counted : count ≡ length m.text = decimal_injective count (length m.text) (omega arith) (omega arith) (sym is ∙ same.count) in
    none m.text (sym counted) same.octets

-- five words of which the first four are good
pub text_read : (words s d l n h : List ℕ) (f : Flow) (count : ℕ) → CutInFive words s d l n h → ReadsFlow s d l (Some f) → n ≡ decimal count → count ≤ 8063 → IsHex h → IsTextRead words
text_read words s d l n h f count cut (source, destination, link, meant) is few hex = record {
  flow = f;
  count = count;
  word = h;
  spelled = cut.front ∙ ap (λ rest. s ++ 32 ∷ (d ++ 32 ∷ rest)) cut.back
      ∙ rw (source, destination, link, is) refl ∙ sym (same_words f (decimal count ++ 32 ∷ h));
  meant = meant;
  few = few;
  hex = hex;
}
