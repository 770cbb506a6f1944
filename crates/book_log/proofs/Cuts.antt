-- Words of a line: where it is cut, and what no word of a log has in it.
use Rattle.book_log.proofs.Common.{All-append, All-cons, All-head, All-nil, All-tail, All, join_with_byte, Host, host_text, IsHost, octets_text, Lacks}
use Rattle.std.proofs.Common.{◌+◌, ◌≡◌, ℕ, ◌<◌, ◌/◌, ◌%◌, ◌==◌, zero, suc, Bool, true, false, List, [], ◌∷◌, ◌++◌, Option, Some, None, codes, length, slice_index, refl, sym, ap, ◌∙◌, arith, lit<, count_by}
use Rattle.hex.specs.Hex.{encode_upper, upper_digits, encode_with}
use Rattle.script.proofs.lemmas.{unmarked_where, host_unmarked}
use Rattle.book_log.specs.Steps.{words_in, is_over, words_behind}
use Rattle.std.proofs.lemmas.List.Splits.{join_with_byte-slice_split, length-slice_split, slice_split_at, slice_split_none}
use Rattle.bit_messages.specs.Octets.{octets_of}
use Rattle.bit_messages.proofs.lemmas.{octets_below}
use Rattle.std.specs.Borrow.{Bor}

-- ---- what no word has in it: a space, and a line feed

pub record IsWord (word : List ℕ) : Type 0 where
  pub spaces : Lacks 32 word
  pub ends : Lacks 10 word

pub host_word : (h : Host) → IsHost h → IsWord (host_text h)
host_word h is = record { spaces = host_unmarked 32 h (lit< tt) is; ends = host_unmarked 10 h (lit< tt) is }

record IsPlain (c : ℕ) : Type 0 where
  space : (c == 32) ≡ false
  end : (c == 10) ≡ false

digit_plain : (k : ℕ) → k < 16 → IsPlain (slice_index upper_digits k)
digit_plain zero h = record { space = refl; end = refl }
digit_plain (suc zero) h = record { space = refl; end = refl }
digit_plain (suc (suc zero)) h = record { space = refl; end = refl }
digit_plain (suc (suc (suc zero))) h = record { space = refl; end = refl }
digit_plain (suc (suc (suc (suc zero)))) h = record { space = refl; end = refl }
digit_plain (suc (suc (suc (suc (suc zero))))) h = record { space = refl; end = refl }
digit_plain (suc (suc (suc (suc (suc (suc zero)))))) h = record { space = refl; end = refl }
digit_plain (suc (suc (suc (suc (suc (suc (suc zero))))))) h = record { space = refl; end = refl }
digit_plain (suc (suc (suc (suc (suc (suc (suc (suc zero)))))))) h = record { space = refl; end = refl }
digit_plain (suc (suc (suc (suc (suc (suc (suc (suc (suc zero))))))))) h = record { space = refl; end = refl }
digit_plain (suc (suc (suc (suc (suc (suc (suc (suc (suc (suc zero)))))))))) h = record { space = refl; end = refl }
digit_plain (suc (suc (suc (suc (suc (suc (suc (suc (suc (suc (suc zero))))))))))) h = record { space = refl; end = refl }
digit_plain (suc (suc (suc (suc (suc (suc (suc (suc (suc (suc (suc (suc zero)))))))))))) h = record { space = refl; end = refl }
digit_plain (suc (suc (suc (suc (suc (suc (suc (suc (suc (suc (suc (suc (suc zero))))))))))))) h = record { space = refl; end = refl }
digit_plain (suc (suc (suc (suc (suc (suc (suc (suc (suc (suc (suc (suc (suc (suc zero)))))))))))))) h = record { space = refl; end = refl }
digit_plain (suc (suc (suc (suc (suc (suc (suc (suc (suc (suc (suc (suc (suc (suc (suc zero))))))))))))))) h = record { space = refl; end = refl }
digit_plain (suc (suc (suc (suc (suc (suc (suc (suc (suc (suc (suc (suc (suc (suc (suc (suc k)))))))))))))))) h = absurd (omega arith)

hex_word : (octets : List ℕ) → All (λ n. n < 256) octets → IsWord (encode_upper octets)
unfolding encode_with
hex_word [] small = record { spaces = All-nil (λ x. (x == 32) ≡ false); ends = All-nil (λ x. (x == 10) ≡ false) }
hex_word (o ∷ octets) small =
    let below : o < 256 = All-head (λ n. n < 256) o octets small in
    let high = digit_plain (o / 16) (omega arith) in
    let low = digit_plain (o % 16) (omega arith) in
    let rest = hex_word octets (All-tail (λ n. n < 256) o octets small) in
    record {
      spaces = All-cons (λ x. (x == 32) ≡ false) (slice_index upper_digits (o / 16)) (slice_index upper_digits (o % 16) ∷ encode_upper octets) high.space (All-cons (λ x. (x == 32) ≡ false) (slice_index upper_digits (o % 16)) (encode_upper octets) low.space rest.spaces);
      ends = All-cons (λ x. (x == 10) ≡ false) (slice_index upper_digits (o / 16)) (slice_index upper_digits (o % 16) ∷ encode_upper octets) high.end (All-cons (λ x. (x == 10) ≡ false) (slice_index upper_digits (o % 16)) (encode_upper octets) low.end rest.ends);
    }

pub octets_word : (bits : List Bool) → IsWord (octets_text bits)
octets_word [] = record { spaces = unmarked_where 32 (codes "-") refl; ends = unmarked_where 10 (codes "-") refl }
octets_word (b ∷ bits) = hex_word (octets_of (b ∷ bits)) (octets_below (b ∷ bits))

-- ---- words are cut where the spaces are

abbrev pub AreWords : List (List ℕ) → Type 0
AreWords [] = Unit {0}
AreWords (w ∷ words) = IsWord w × AreWords words

pub cut_again : (w : List ℕ) (words : List (List ℕ)) → AreWords (w ∷ words) → words_in (join_with_byte 32 (w ∷ words)) ≡ w ∷ words
cut_again w [] are = slice_split_none (λ b. b == 32) w are.0.spaces
cut_again w (v ∷ words) are =
    slice_split_at (λ b. b == 32) w 32 (join_with_byte 32 (v ∷ words)) are.0.spaces refl ∙ ap (λ ws. w ∷ ws) (cut_again v words are.1)

pub joined_again : (text : List ℕ) → join_with_byte 32 (words_in text) ≡ text
joined_again text = join_with_byte-slice_split 32 text

-- words with spaces between have no line feed
pub joined_ends : (words : List (List ℕ)) → AreWords words → Lacks 10 (join_with_byte 32 words)
joined_ends [] are = All-nil (λ x. (x == 10) ≡ false)
joined_ends (w ∷ []) are = are.0.ends
joined_ends (w ∷ v ∷ words) are =
    let P : ℕ → Type 0 = λ x. (x == 10) ≡ false in
    All-append P w (32 ∷ join_with_byte 32 (v ∷ words)) are.0.ends (All-cons P 32 (join_with_byte 32 (v ∷ words)) refl (joined_ends (v ∷ words) are.1))

-- ---- one word after the other

pub first_same : {X : Type 0} {x y : X} {xs ys : List X} → x ∷ xs ≡ y ∷ ys → x ≡ y
first_same e = cc

pub rest_same : {X : Type 0} {x y : X} {xs ys : List X} → x ∷ xs ≡ y ∷ ys → xs ≡ ys
rest_same e = cc

-- the first word, and those after it, where the words are known in two ways
pub front : {words left more : List (List ℕ)} {w v : List ℕ} → words ≡ w ∷ left → words ≡ v ∷ more → w ≡ v
front e d = first_same (sym e ∙ d)

pub after : {words left more : List (List ℕ)} {w v : List ℕ} → words ≡ w ∷ left → words ≡ v ∷ more → left ≡ more
after e d = rest_same (sym e ∙ d)

-- ---- the words that are left

pub first_cut : (text word more : List ℕ) → text ≡ word ++ 32 ∷ more → Lacks 32 word → words_in text ≡ word ∷ words_in more
first_cut text word more is lacks = ap words_in is ∙ slice_split_at (λ b. b == 32) word 32 more lacks refl

pub only_word : (text : List ℕ) → Lacks 32 text → words_in text ≡ text ∷ []
only_word text lacks = slice_split_none (λ b. b == 32) text lacks

-- a text has at least one word
some_word : (words : List (List ℕ)) (n : ℕ) → length words ≡ n + 1 → is_over words ≡ false
some_word [] n e = absurd (omega (arith, e))
some_word (w ∷ words) n e = refl

pub none_over : (o : Option (Bor (List ℕ))) → o ≡ None → true ≡ is_over (words_behind o)
none_over None e = refl
none_over (Some text) e = absurd (cc)

pub some_over : (o : Option (Bor (List ℕ))) (text : Bor (List ℕ)) → o ≡ Some text → false ≡ is_over (words_behind o)
some_over None text e = absurd (cc)
some_over (Some t) text e = sym (some_word (words_in t.now) (count_by (λ b. b == 32) t.now) (length-slice_split (λ b. b == 32) t.now))
