-- Octets are read in one way: no two networks or books are spelled alike, and no two lines are the first bad one.
use Rattle.book_log.proofs.Common.{◌≡◌, ◌≢◌, ℕ, ◌<◌, ◌≤◌, ◌^◌, Bool, true, false, None, List, [], ◌∷◌, ◌++◌, codes, length, map, refl, sym, ap, ap₂, ◌∙◌, arith, subst, append_assoc, append-nil, false≢true, decimal, All, bytes_eq, Flow, Answer, Crossing, HostMessage, Fate, Life, ended_line, IsFlow, IsMessage, octets_text, Lacks, Host, Line}
use Rattle.std.proofs.lemmas.List.Elements.{All-append, All-head, All-tail, All-weaker}
use Rattle.script.proofs.lemmas.{SameCut, same_cut, host_once, text_once}
use Rattle.book_log.specs.Log.{Book, IsBadLine, IsLived, IsLog, answer_name, fate_name, log_lines, logged_fate, text_of_lines, IsAmount, log_text}
use Rattle.book_log.specs.Steps.{IsBookText, IsLine, flow_words, life_words, line_text, message_words, words_in, last_of}
use Rattle.interface.specs.declared.crossing.Answer.TheVariants as answer
use Rattle.promise.specs.declared.life.Amount.{Amount}
use Rattle.promise.specs.Fates.{is_over}
use Rattle.promise.specs.declared.life.Fate.TheVariants as fate
use Rattle.book_log.specs.declared.lines.Line.TheVariants as line
use Rattle.book_log.proofs.Books.{Longer, all_of, all_told, all_told_are, ended_more, lines_are, lived, log_ends}
use Rattle.book_log.proofs.Books.{longer, nil_not, not_ended, rank, texts, told}
use Rattle.book_log.proofs.Cuts.{first_same, rest_same}
use Rattle.book_log.proofs.Keywords.{Answers, Downs, Ends, Ins, IsMeant, Kind, Lists, Lives, OperandOf, Outs, Ups, cut_line, is_meant, keyword, made, made_again, make, operand, words_are, words_of}
use Rattle.book_log.proofs.Networks.{after_named, begins_ends, names_none, one_rest}
use Rattle.book_log.proofs.Numbers.{decimal_once}

-- ---- the first bad line

-- a longer list of first lines continues with a line of what is left after a shorter one
record Further (front all : List (List ℕ)) (rest left : List ℕ) : Type 0 where
  line : List ℕ
  more : List (List ℕ)
  whole : all ≡ front ++ line ∷ more
  begins : rest ≡ ended_line line ++ (text_of_lines more ++ left)

further : (front all : List (List ℕ)) (rest left : List ℕ) → All (Lacks 10) front → All (Lacks 10) all
    → length front < length all → text_of_lines front ++ rest ≡ text_of_lines all ++ left → Further front all rest left
further [] [] rest left h k less e = absurd (omega (arith, less))
further [] (a ∷ all) rest left h k less e = record { line = a; more = all; whole = refl; begins = e ∙ append_assoc (ended_line a) (text_of_lines all) left }
further (f ∷ front) [] rest left h k less e = absurd (omega (arith, less))
further (f ∷ front) (a ∷ all) rest left h k less e =
    let cut : SameCut f (text_of_lines front ++ rest) a (text_of_lines all ++ left) =
    same_cut 10 f (text_of_lines front ++ rest) a (text_of_lines all ++ left) (All-head (Lacks 10) f front h)
    (All-head (Lacks 10) a all k)
    (sym (ended_more f (text_of_lines front ++ rest)) ∙ sym (append_assoc (ended_line f) (text_of_lines front) rest) ∙ e ∙ append_assoc (ended_line a) (text_of_lines all) left ∙ ended_more a (text_of_lines all ++ left)) in
    let rests : Further front all rest left =
    further front all rest left (All-tail (Lacks 10) f front h) (All-tail (Lacks 10) a all k) (omega (arith, less))
    cut.back in
    record { line = rests.line; more = rests.more; whole = ap₂ (λ (z : List ℕ) (zs : List (List ℕ)). z ∷ zs) (sym cut.front) rests.whole; begins = rests.begins }

-- of two numbers of lines before a bad one neither is the smaller
not_before : (octets : List ℕ) (number other : ℕ) (p : IsBadLine octets number) (q : IsBadLine octets other)
    → length p.before < length q.before → ⊥
not_before octets number other p q less =
    let on : Further p.before q.before p.rest q.rest =
    further p.before q.before p.rest q.rest (begins_ends p.before p.begins) (begins_ends q.before q.begins) less
    (sym p.parted ∙ q.parted) in
    p.bad on.line (text_of_lines on.more ++ q.rest) on.begins
    (record {
      strangers = q.begins.strangers;
      named = q.begins.named;
      book = q.begins.book;
      valid = q.begins.valid;
      more = on.more ++ q.begins.more;
      whole = q.begins.whole ∙ ap (λ (ls : List (List ℕ)). ls ++ q.begins.more) on.whole
          ∙ append_assoc p.before (on.line ∷ on.more) q.begins.more
          ∙ sym (append_assoc p.before (on.line ∷ []) (on.more ++ q.begins.more));
    })

pub number_once : (octets : List ℕ) (number other : ℕ) → IsBadLine octets number → IsBadLine octets other
    → number ≡ other
number_once octets number other p q =
    let one : length p.before < length q.before → ⊥ = not_before octets number other p q in
    let two : length q.before < length p.before → ⊥ = not_before octets other number q p in
    omega (arith, one, two, p.counted, q.counted)

-- ---- two operands of one kind

flow_once : (f g : Flow) → IsFlow f → IsFlow g → (a b : List (List ℕ)) → flow_words f ++ a ≡ flow_words g ++ b → f ≡ g
flow_once f g p q a b e =
    let small : f.link.0 < 256 = p.2 in
    let few : g.link.0 < 256 = q.2 in
    let source : f.source ≡ g.source = host_once f.source g.source p.0 q.0 (first_same e) in
    let destination : f.destination ≡ g.destination =
    host_once f.destination g.destination p.1 q.1 (first_same (rest_same e)) in
    let link : f.link.0 ≡ g.link.0 =
    decimal_once f.link.0 g.link.0 (omega arith) (omega arith) (first_same (rest_same (rest_same e))) in
    λ i. record { source = source i; destination = destination i; link = record { 0 = link i } }

bits_once : (a b : List Bool) → length a < 2 ^ 64 → length b < 2 ^ 64 → decimal (length a) ≡ decimal (length b)
    → octets_text a ≡ octets_text b → a ≡ b
bits_once a b p q count e = text_once a b (decimal_once (length a) (length b) (omega arith) (omega arith) count) e

message_once : (m n : HostMessage) → IsMessage m → IsMessage n → message_words m ≡ message_words n → m ≡ n
message_once m n p q e =
    let few : length m.text ≤ 8063 = p.1 in
    let short : length n.text ≤ 8063 = q.1 in
    let flow : m.flow ≡ n.flow =
    flow_once m.flow n.flow p.0 q.0 (decimal (length m.text) ∷ octets_text m.text ∷ [])
    (decimal (length n.text) ∷ octets_text n.text ∷ []) e in
    let behind = rest_same (rest_same (rest_same e)) in
    let text : m.text ≡ n.text =
    bits_once m.text n.text (omega arith) (omega arith) (first_same behind) (first_same (rest_same behind)) in
    λ i. record { flow = flow i; text = text i }

unlike : (a b : List ℕ) → bytes_eq a a ≡ true → bytes_eq a b ≡ false → a ≡ b → ⊥
unlike a b same other e = false≢true (sym other ∙ ap (bytes_eq a) (sym e) ∙ same)

kind_once : (a b : Answer) → answer_name a ≡ answer_name b → a ≡ b
kind_once answer.Rfnm answer.Rfnm e = refl
kind_once answer.Rfnm answer.Incomplete e = absurd (unlike (codes "rfnm") (codes "incomplete") refl refl e)
kind_once answer.Rfnm answer.Dead e = absurd (unlike (codes "rfnm") (codes "dead") refl refl e)
kind_once answer.Rfnm answer.NotTaken e = absurd (unlike (codes "rfnm") (codes "nottaken") refl refl e)
kind_once answer.Incomplete answer.Rfnm e = absurd (unlike (codes "incomplete") (codes "rfnm") refl refl e)
kind_once answer.Incomplete answer.Incomplete e = refl
kind_once answer.Incomplete answer.Dead e = absurd (unlike (codes "incomplete") (codes "dead") refl refl e)
kind_once answer.Incomplete answer.NotTaken e = absurd (unlike (codes "incomplete") (codes "nottaken") refl refl e)
kind_once answer.Dead answer.Rfnm e = absurd (unlike (codes "dead") (codes "rfnm") refl refl e)
kind_once answer.Dead answer.Incomplete e = absurd (unlike (codes "dead") (codes "incomplete") refl refl e)
kind_once answer.Dead answer.Dead e = refl
kind_once answer.Dead answer.NotTaken e = absurd (unlike (codes "dead") (codes "nottaken") refl refl e)
kind_once answer.NotTaken answer.Rfnm e = absurd (unlike (codes "nottaken") (codes "rfnm") refl refl e)
kind_once answer.NotTaken answer.Incomplete e = absurd (unlike (codes "nottaken") (codes "incomplete") refl refl e)
kind_once answer.NotTaken answer.Dead e = absurd (unlike (codes "nottaken") (codes "dead") refl refl e)
kind_once answer.NotTaken answer.NotTaken e = refl

-- a fate that is logged as another has no word of its own
not_closing : (P : Type 0) → logged_fate fate.Closing ≡ fate.Closing → P
not_closing P e = absurd (cc)

fate_once : (f g : Fate) → logged_fate f ≡ f → logged_fate g ≡ g → fate_name f ≡ fate_name g → f ≡ g
fate_once fate.Closing g p q e = not_closing (fate.Closing ≡ g) p
fate_once fate.Open fate.Open p q e = refl
fate_once fate.Open fate.Closing p q e = not_closing (fate.Open ≡ fate.Closing) q
fate_once fate.Open fate.Closed p q e = absurd (unlike (codes "open") (codes "closed") refl refl e)
fate_once fate.Open fate.Ended p q e = absurd (unlike (codes "open") (codes "ended") refl refl e)
fate_once fate.Open fate.Reset p q e = absurd (unlike (codes "open") (codes "reset") refl refl e)
fate_once fate.Open fate.Stopped p q e = absurd (unlike (codes "open") (codes "stopped") refl refl e)
fate_once fate.Closed fate.Open p q e = absurd (unlike (codes "closed") (codes "open") refl refl e)
fate_once fate.Closed fate.Closing p q e = not_closing (fate.Closed ≡ fate.Closing) q
fate_once fate.Closed fate.Closed p q e = refl
fate_once fate.Closed fate.Ended p q e = absurd (unlike (codes "closed") (codes "ended") refl refl e)
fate_once fate.Closed fate.Reset p q e = absurd (unlike (codes "closed") (codes "reset") refl refl e)
fate_once fate.Closed fate.Stopped p q e = absurd (unlike (codes "closed") (codes "stopped") refl refl e)
fate_once fate.Ended fate.Open p q e = absurd (unlike (codes "ended") (codes "open") refl refl e)
fate_once fate.Ended fate.Closing p q e = not_closing (fate.Ended ≡ fate.Closing) q
fate_once fate.Ended fate.Closed p q e = absurd (unlike (codes "ended") (codes "closed") refl refl e)
fate_once fate.Ended fate.Ended p q e = refl
fate_once fate.Ended fate.Reset p q e = absurd (unlike (codes "ended") (codes "reset") refl refl e)
fate_once fate.Ended fate.Stopped p q e = absurd (unlike (codes "ended") (codes "stopped") refl refl e)
fate_once fate.Reset fate.Open p q e = absurd (unlike (codes "reset") (codes "open") refl refl e)
fate_once fate.Reset fate.Closing p q e = not_closing (fate.Reset ≡ fate.Closing) q
fate_once fate.Reset fate.Closed p q e = absurd (unlike (codes "reset") (codes "closed") refl refl e)
fate_once fate.Reset fate.Ended p q e = absurd (unlike (codes "reset") (codes "ended") refl refl e)
fate_once fate.Reset fate.Reset p q e = refl
fate_once fate.Reset fate.Stopped p q e = absurd (unlike (codes "reset") (codes "stopped") refl refl e)
fate_once fate.Stopped fate.Open p q e = absurd (unlike (codes "stopped") (codes "open") refl refl e)
fate_once fate.Stopped fate.Closing p q e = not_closing (fate.Stopped ≡ fate.Closing) q
fate_once fate.Stopped fate.Closed p q e = absurd (unlike (codes "stopped") (codes "closed") refl refl e)
fate_once fate.Stopped fate.Ended p q e = absurd (unlike (codes "stopped") (codes "ended") refl refl e)
fate_once fate.Stopped fate.Reset p q e = absurd (unlike (codes "stopped") (codes "reset") refl refl e)
fate_once fate.Stopped fate.Stopped p q e = refl

amount_once : (a b : Amount) → IsAmount a → IsAmount b → decimal a.messages ≡ decimal b.messages
    → decimal a.bits ≡ decimal b.bits → a ≡ b
amount_once a b p q e d =
    let messages : a.messages ≡ b.messages = decimal_once a.messages b.messages p.0 q.0 e in
    let bits : a.bits ≡ b.bits = decimal_once a.bits b.bits p.1 q.1 d in
    λ i. record { messages = messages i; bits = bits i }

life_once : (x y : Life × Fate) → IsLived x → IsLived y → life_words x ≡ life_words y → x ≡ y
life_once x y p q e =
    let x_socket : x.0.socket < 2 ^ 32 = p.life.socket in
    let y_socket : y.0.socket < 2 ^ 32 = q.life.socket in
    let x_foreign : x.0.foreign < 2 ^ 32 = p.life.foreign in
    let y_foreign : y.0.foreign < 2 ^ 32 = q.life.foreign in
    let x_own : x.0.own_stamp < 2 ^ 64 = p.life.own in
    let y_own : y.0.own_stamp < 2 ^ 64 = q.life.own in
    let x_partner : x.0.partner_stamp < 2 ^ 64 = p.life.partner in
    let y_partner : y.0.partner_stamp < 2 ^ 64 = q.life.partner in
    let e1 = rest_same e in
    let e2 = rest_same e1 in
    let e3 = rest_same e2 in
    let e4 = rest_same e3 in
    let e5 = rest_same e4 in
    let e7 = rest_same (rest_same e5) in
    let e8 = rest_same e7 in
    let e9 = rest_same e8 in
    let e10 = rest_same e9 in
    let e11 = rest_same e10 in
    let e12 = rest_same e11 in
    let e13 = rest_same e12 in
    let host : x.0.host ≡ y.0.host = host_once x.0.host y.0.host p.life.host q.life.host (first_same e) in
    let socket : x.0.socket ≡ y.0.socket =
    decimal_once x.0.socket y.0.socket (omega arith) (omega arith) (first_same e1) in
    let peer : x.0.peer ≡ y.0.peer = host_once x.0.peer y.0.peer p.life.peer q.life.peer (first_same e2) in
    let foreign : x.0.foreign ≡ y.0.foreign =
    decimal_once x.0.foreign y.0.foreign (omega arith) (omega arith) (first_same e3) in
    let own : x.0.own_stamp ≡ y.0.own_stamp =
    decimal_once x.0.own_stamp y.0.own_stamp (omega arith) (omega arith) (first_same e4) in
    let partner : x.0.partner_stamp ≡ y.0.partner_stamp =
    decimal_once x.0.partner_stamp y.0.partner_stamp (omega arith) (omega arith) (first_same e5) in
    let messages : x.0.messages ≡ y.0.messages =
    decimal_once x.0.messages y.0.messages p.life.messages q.life.messages (first_same e7) in
    let granted : x.0.granted ≡ y.0.granted =
    amount_once x.0.granted y.0.granted p.life.granted q.life.granted (first_same e9) (first_same e10) in
    let returned : x.0.returned ≡ y.0.returned =
    amount_once x.0.returned y.0.returned p.life.returned q.life.returned (first_same e11) (first_same e12) in
    let how : x.1 ≡ y.1 = fate_once x.1 y.1 p.logged q.logged (first_same e13) in
    let ended : x.0.ended ≡ y.0.ended = p.over ∙ ap is_over how ∙ sym q.over in
    let bits : x.0.bits ≡ y.0.bits =
    bits_once x.0.bits y.0.bits p.life.bits q.life.bits (first_same e8) (first_same (rest_same e13)) in
    λ i. (
      record {
        host = host i;
        socket = socket i;
        peer = peer i;
        foreign = foreign i;
        own_stamp = own i;
        partner_stamp = partner i;
        bits = bits i;
        messages = messages i;
        granted = granted i;
        returned = returned i;
        ended = ended i;
      },
      how i,
    )

operand_once : (k : Kind) (x y : OperandOf k) → IsMeant k x → IsMeant k y → words_of k x ≡ words_of k y → x ≡ y
operand_once Outs x y p q e = message_once x y p q e
operand_once Ins x y p q e = message_once x y p q e
operand_once Answers (a, f) (b, g) p q e =
    let kind : a ≡ b = kind_once a b (first_same e) in
    let flow : f ≡ g = flow_once f g p q [] [] (rest_same e) in
    λ i. (kind i, flow i)
operand_once Downs x y p q e = host_once x y p q (first_same e)
operand_once Ups x y p q e = host_once x y p q (first_same e)
operand_once Lives x y p q e = life_once x y p q e
operand_once Lists x y p q e = bits_once x y p q (first_same e) (first_same (rest_same e))
operand_once Ends x y p q e = refl

made_once : (word other : List ℕ) → word ≡ other → (x : OperandOf (made word)) (y : OperandOf (made other))
    → IsMeant (made word) x → IsMeant (made other) y
    → words_of (made word) x ≡ words_of (made other) y → make (made word) x ≡ make (made other) y
made_once word other same x y p q e =
    let F : List ℕ → Type 0 =
    λ w. (z : OperandOf (made w)) → IsMeant (made w) z → words_of (made word) x ≡ words_of (made w) z → make (made word) x ≡ make (made w) z in
    let here : F word = λ z is alike. ap (make (made word)) (operand_once (made word) x z p is alike) in
    subst F same here y q e

-- no two lines are spelled alike
line_once : (k l : Line) → IsLine k → IsLine l → line_text k ≡ line_text l → k ≡ l
line_once k l p q e =
    let both : keyword k ∷ words_of (made (keyword k)) (operand k) ≡ keyword l ∷ words_of (made (keyword l)) (operand l) =
    sym (words_are k) ∙ sym (cut_line k p) ∙ ap words_in e ∙ cut_line l q ∙ words_are l in
    sym (made_again k)
    ∙ made_once (keyword k) (keyword l) (first_same both) (operand k) (operand l) (is_meant k p) (is_meant l q) (rest_same both)
    ∙ made_again l

-- ---- two books

lines_once : (ks ls : List Line) → All IsLine ks → All IsLine ls → texts ks ≡ texts ls → ks ≡ ls
lines_once [] [] p q e = refl
lines_once [] (l ∷ ls) p q e = absurd (nil_not e)
lines_once (k ∷ ks) [] p q e = absurd (nil_not (sym e))
lines_once (k ∷ ks) (l ∷ ls) p q e =
    ap₂ (λ (x : Line) (xs : List Line). x ∷ xs)
    (line_once k l (All-head IsLine k ks p) (All-head IsLine l ls q) (first_same e))
    (lines_once ks ls (All-tail IsLine k ks p) (All-tail IsLine l ls q) (rest_same e))

-- what lines describe
crossings_told : List Line → List Crossing
crossings_told [] = []
crossings_told (line.Crossed c ∷ ls) = c ∷ crossings_told ls
crossings_told (line.Lived x f ∷ ls) = crossings_told ls
crossings_told (line.Handed bits ∷ ls) = crossings_told ls
crossings_told (line.End ∷ ls) = crossings_told ls

lives_told : List Line → List (Life × Fate)
lives_told [] = []
lives_told (line.Crossed c ∷ ls) = lives_told ls
lives_told (line.Lived x f ∷ ls) = (x, f) ∷ lives_told ls
lives_told (line.Handed bits ∷ ls) = lives_told ls
lives_told (line.End ∷ ls) = lives_told ls

lists_told : List Line → List (List Bool)
lists_told [] = []
lists_told (line.Crossed c ∷ ls) = lists_told ls
lists_told (line.Lived x f ∷ ls) = lists_told ls
lists_told (line.Handed bits ∷ ls) = bits ∷ lists_told ls
lists_told (line.End ∷ ls) = lists_told ls

past_crossings : (cs : List Crossing) (ls : List Line)
    → (crossings_told (map (λ c. line.Crossed c) cs ++ ls) ≡ cs ++ crossings_told ls) × (lives_told (map (λ c. line.Crossed c) cs ++ ls) ≡ lives_told ls) × (lists_told (map (λ c. line.Crossed c) cs ++ ls) ≡ lists_told ls)
unfolding crossings_told lives_told lists_told
past_crossings [] ls = (refl, refl, refl)
past_crossings (c ∷ cs) ls = let t = past_crossings cs ls in (ap (λ (xs : List Crossing). c ∷ xs) t.0, t.1, t.2)

past_lives : (xs : List (Life × Fate)) (ls : List Line)
    → (crossings_told (map lived xs ++ ls) ≡ crossings_told ls) × (lives_told (map lived xs ++ ls) ≡ xs ++ lives_told ls) × (lists_told (map lived xs ++ ls) ≡ lists_told ls)
unfolding crossings_told lives_told lists_told
past_lives [] ls = (refl, refl, refl)
past_lives (x ∷ xs) ls = let t = past_lives xs ls in (t.0, ap (λ (ys : List (Life × Fate)). x ∷ ys) t.1, t.2)

past_lists : (hs : List (List Bool))
    → (crossings_told (map (λ bits. line.Handed bits) hs) ≡ []) × (lives_told (map (λ bits. line.Handed bits) hs) ≡ []) × (lists_told (map (λ bits. line.Handed bits) hs) ≡ hs)
unfolding crossings_told lives_told lists_told
past_lists [] = (refl, refl, refl)
past_lists (h ∷ hs) = let t = past_lists hs in (t.0, t.1, ap (λ (ys : List (List Bool)). h ∷ ys) t.2)

told_back : (b : Book)
    → (crossings_told (told b) ≡ b.crossings) × (lives_told (told b) ≡ b.lives) × (lists_told (told b) ≡ b.handed)
told_back b =
    let xs : List Line = map lived b.lives in
    let hs : List Line = map (λ bits. line.Handed bits) b.handed in
    let c = past_crossings b.crossings (xs ++ hs) in
    let x = past_lives b.lives hs in
    let h = past_lists b.handed in
    (c.0 ∙ ap (λ (ys : List Crossing). b.crossings ++ ys) (x.0 ∙ h.0) ∙ append-nil b.crossings, c.1 ∙ x.1 ∙ ap (λ (ys : List (Life × Fate)). b.lives ++ ys) h.1 ∙ append-nil b.lives, c.2 ∙ x.2 ∙ h.2)

last_off : (ks ls : List Line) → ks ++ line.End ∷ [] ≡ ls ++ line.End ∷ [] → All (λ l. l ≢ line.End) ks
    → All (λ l. l ≢ line.End) ls → ks ≡ ls
last_off [] [] e p q = refl
last_off [] (l ∷ ls) e p q = absurd (All-head (λ l. l ≢ line.End) l ls q (sym (first_same e)))
last_off (k ∷ ks) [] e p q = absurd (All-head (λ l. l ≢ line.End) k ks p (first_same e))
last_off (k ∷ ks) (l ∷ ls) e p q =
    ap₂ (λ (x : Line) (xs : List Line). x ∷ xs) (first_same e)
    (last_off ks ls (rest_same e) (All-tail (λ l. l ≢ line.End) k ks p) (All-tail (λ l. l ≢ line.End) l ls q))

not_last : (r : ℕ) → r < 3 → (ls : List Line) → All (λ l. rank l ≡ r) ls → All (λ l. l ≢ line.End) ls
not_last r few ls h =
    All-weaker (λ l. rank l ≡ r) (λ l. l ≢ line.End)
    (λ l is e. let three : 3 ≡ r = sym (ap rank e) ∙ is in absurd (omega (arith, three, few))) ls h

none_last : (b : Book) → All (λ l. l ≢ line.End) (told b)
none_last b =
    All-append (λ l. l ≢ line.End) (map (λ c. line.Crossed c) b.crossings) _
    (not_last 0 (omega arith) _ (all_of 0 (λ c. line.Crossed c) b.crossings (λ c. refl)))
    (All-append (λ l. l ≢ line.End) (map lived b.lives) _ (not_last 1 (omega arith) _ (all_of 1 lived b.lives (λ x. refl))) (not_last 2 (omega arith) _ (all_of 2 (λ bits. line.Handed bits) b.handed (λ bits. refl))))

told_once : (b c : Book) → told b ≡ told c → b ≡ c
told_once b c e =
    let p = told_back b in
    let q = told_back c in
    let crossings : b.crossings ≡ c.crossings = sym p.0 ∙ ap crossings_told e ∙ q.0 in
    let lives : b.lives ≡ c.lives = sym p.1 ∙ ap lives_told e ∙ q.1 in
    let handed : b.handed ≡ c.handed = sym p.2 ∙ ap lists_told e ∙ q.2 in
    λ i. record { crossings = crossings i; lives = lives i; handed = handed i }

-- texts of lines without line feeds
whole_once : (front all : List (List ℕ)) → All (Lacks 10) front → All (Lacks 10) all
    → text_of_lines front ≡ text_of_lines all → front ≡ all
whole_once front all p q e = by h.more h.whole h.left
  where
    h : Longer front all []
    h = longer front all [] p q (append-nil (text_of_lines front) ∙ e)

    by : (more : List (List ℕ)) → all ≡ front ++ more → [] ≡ text_of_lines more → front ≡ all
    by [] is none = sym (is ∙ append-nil front)
    by (m ∷ more) is none = absurd (not_ended m (text_of_lines more) none)

text_of_one : (octets : List ℕ) (book other : Book) → IsBookText octets book → IsBookText octets other → book ≡ other
text_of_one octets book other h k =
    let lines : log_lines book ≡ log_lines other =
    whole_once (log_lines book) (log_lines other) (log_ends book h.valid) (log_ends other k.valid)
    (sym h.spelled ∙ k.spelled) in
    let all : all_told book ≡ all_told other =
    lines_once (all_told book) (all_told other) (all_told_are book h.valid) (all_told_are other k.valid)
    (sym (lines_are book) ∙ lines ∙ lines_are other) in
    told_once book other (last_off (told book) (told other) all (none_last book) (none_last other))

-- ---- the log of a network

-- what one log names of strangers the other names, and then they have the text of one book
same_rest : (octets : List ℕ) (strangers others : List Host) (book other : Book) → IsLog octets strangers book
    → IsLog octets others other → (strangers ≡ others) × (log_text book ≡ log_text other)
same_rest octets strangers others book other h k =
    one_rest None strangers others (log_text book) other (after_named strangers h.named) (after_named others k.named)
    (names_none (last_of None strangers) book) (sym h.spelled ∙ k.spelled)

pub strangers_once : (octets : List ℕ) (strangers others : List Host) (book other : Book) → IsLog octets strangers book
    → IsLog octets others other → strangers ≡ others
strangers_once octets strangers others book other h k = (same_rest octets strangers others book other h k).0

pub book_once : (octets : List ℕ) (strangers others : List Host) (book other : Book) → IsLog octets strangers book
    → IsLog octets others other → book ≡ other
book_once octets strangers others book other h k =
    text_of_one (log_text book) book other (record { spelled = refl; valid = h.valid })
    (record { spelled = (same_rest octets strangers others book other h k).1; valid = k.valid })
