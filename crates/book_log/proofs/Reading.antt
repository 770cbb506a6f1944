-- Words read one after the other.
use Rattle.book_log.proofs.Common.{decimal, Flow, HostMessage, Fate, Life, IsMessage, octets_text}
use Rattle.std.proofs.Common.{◌≡◌, ◌≢◌, ℕ, ◌<◌, ◌≤◌, ◌^◌, Bool, true, false, List, [], ◌∷◌, ◌++◌, Option, Some, None, Result, Ok, Err, drop, length, sym, ap, ◌∙◌, arith, subst, IfOk}
use Rattle.world_replay.specs.Printed.{kind_text}
use Rattle.book_log.specs.Log.{IsHanded, IsLived}
use Rattle.book_log.specs.Steps.{counts_words, ends_words, flow_words, handed_words, life_words, message_words, TakesAs, AreCounts, AreEnds, TakesWords}
use Rattle.std.specs.Prelude.{IsTrue, ◌↔◌}
use Rattle.book_log.specs.declared.lines.Counts.{Counts}
use Rattle.book_log.specs.declared.lines.Ends.{Ends}
use Rattle.book_log.proofs.Cuts.{after, first_same, front, rest_same}
use Rattle.book_log.proofs.Numbers.{decimal_once}

-- where no word is left there is none
pub no_word : {words more : List (List ℕ)} {w : List ℕ} → words ≡ [] → words ≡ w ∷ more → ⊥
no_word none e = by (sym none ∙ e)
  where
    by : {v : List ℕ} {ws : List (List ℕ)} → [] ≡ v ∷ ws → ⊥
    by is = cc

-- what follows two words
pub after_two : {words left more : List (List ℕ)} {w x v y : List ℕ} → words ≡ w ∷ x ∷ left → words ≡ v ∷ y ∷ more → left ≡ more
after_two e d = rest_same (after e d)

-- and after three
pub after_three : {words left more : List (List ℕ)} {w x u v y z : List ℕ} → words ≡ w ∷ x ∷ u ∷ left → words ≡ v ∷ y ∷ z ∷ more → left ≡ more
after_three e d = rest_same (after_two e d)

-- the kind of another socket
pub other_kind : (socket other : ℕ) (word : List ℕ) (t : Bool) → socket < 2 ^ 32 → other < 2 ^ 32 → decimal socket ≡ decimal other → word ≡ kind_text other → IsTrue t ↔ (word ≡ kind_text socket) → t ≡ false → ⊥
other_kind socket other word t small few same is tells fails =
    let one : socket ≡ other = decimal_once socket other (omega arith) (omega arith) same in
    absurd (true_false t (tells.1 (is ∙ ap kind_text (sym one))) fails)
  where
    true_false : (b : Bool) → IsTrue b → b ≡ false → ⊥
    true_false true h e = cc
    true_false false h e = absurd (cc)

-- ---- bits, and how many

pub counted : {E : Type 0} (words left last : List (List ℕ)) (count : ℕ) (r : Result (Option (List Bool)) E) → words ≡ decimal count ∷ left → count < 2 ^ 64
    → IfOk r (λ read. TakesAs octets_text (λ bits. length bits ≡ count) left read last) → IfOk r (λ read. TakesWords handed_words IsHanded words read last)
counted words left last count (Err e) is small h = tt
counted words left last count (Ok (Some bits)) is small h =
    (is ∙ ap (λ n. decimal n ∷ left) (sym h.1) ∙ ap (λ ws. decimal (length bits) ∷ ws) h.0, subst (λ n. n < 2 ^ 64) (sym h.1) small)
counted words left last count (Ok None) is small h = λ x rest meant e.
    let long : count ≡ length x = decimal_once count (length x) (omega arith) (omega (arith, meant)) (front is e) in
    h x rest (sym long) (after is e)

-- a text that is too long
pub too_long : (words left last : List (List ℕ)) (f : Flow) (bits : List Bool) → words ≡ flow_words f ++ left → left ≡ handed_words bits ++ last → length bits < 2 ^ 64 → (length bits ≤ 8063 → ⊥)
    → (m : HostMessage) → IsMessage m → words ≢ message_words m
too_long words left last f bits is behind small long m meant e =
    let few : length m.text ≤ 8063 = meant.1 in
    let same : length bits ≡ length m.text = decimal_once (length bits) (length m.text) (omega arith) (omega arith) (front behind (after_three is e)) in
    long (omega arith)

-- ---- lives

abbrev pub ends_of : Life → Ends
ends_of x = record { host = x.host; socket = x.socket; peer = x.peer; foreign = x.foreign; own_stamp = x.own_stamp; partner_stamp = x.partner_stamp }

abbrev pub counts_of : Life × Fate → Counts
counts_of x = record { messages = x.0.messages; bits = length x.0.bits; granted = x.0.granted; returned = x.0.returned; fate = x.1 }

after_seven : {words left more : List (List ℕ)} {a b d e f g h i j k l m n o : List ℕ} → words ≡ a ∷ b ∷ d ∷ e ∷ f ∷ g ∷ h ∷ left → words ≡ i ∷ j ∷ k ∷ l ∷ m ∷ n ∷ o ∷ more → left ≡ more
after_seven p q = rest_same (rest_same (rest_same (rest_same (after_three p q))))

pub no_ends : (words : List (List ℕ)) → TakesWords ends_words AreEnds words None [] → (x : Life × Fate) → IsLived x → words ≢ life_words x
no_ends words none x meant e =
    none (ends_of x.0) (drop 7 (life_words x)) (record { host = meant.life.host; socket = meant.life.socket; peer = meant.life.peer; foreign = meant.life.foreign; own = meant.life.own; partner = meant.life.partner }) e

pub no_counts : (words left : List (List ℕ)) (ends : Ends) → words ≡ ends_words ends ++ left → TakesWords counts_words AreCounts left None [] → (x : Life × Fate) → IsLived x → words ≢ life_words x
no_counts words left ends is none x meant e =
    none (counts_of x) (octets_text x.0.bits ∷ []) (record { messages = meant.life.messages; bits = meant.life.bits; granted = meant.life.granted; returned = meant.life.returned; fate = meant.logged }) (after_seven is e)

pub no_life_bits : (words left behind last : List (List ℕ)) (ends : Ends) (counts : Counts) → words ≡ ends_words ends ++ left → left ≡ counts_words counts ++ behind → counts.bits < 2 ^ 64
    → TakesAs octets_text (λ bits. length bits ≡ counts.bits) behind None last → (x : Life × Fate) → IsLived x → words ≢ life_words x
no_life_bits words left behind last ends counts is then_is small none x meant e =
    let few : length x.0.bits < 2 ^ 64 = meant.life.bits in
    let same : counts.bits ≡ length x.0.bits = decimal_once counts.bits (length x.0.bits) (omega arith) (omega arith) (first_same (after then_is (after_seven is e))) in
    none x.0.bits [] (sym same) (after_seven then_is (after_seven is e))
