-- Hosts, flows, bits, messages and answers have texts of their own.
use Rattle.trace.proofs.Common.{◌≡◌, ℕ, ◌<◌, ◌≤◌, ◌==◌, Bool, false, List, [], ◌∷◌, ◌++◌, codes, if◌then◌else◌, length, map, refl, sym, ap, ◌∙◌, arith, lit<, nat_tests, All-append, All-cons, decimal, All, bytes_eq, WaitingAnswer, Host, host_text, Flow, Lacks, SameCut, same_cut, unmarked_where, IsFlowNamed, IsHostNamed}
use Rattle.interface.specs.declared.crossing.Answer.{Answer}
use Rattle.interface.specs.declared.crossing.Answer.TheVariants as answer
use Rattle.interface.specs.declared.message.HostMessage.{HostMessage}
use Rattle.script.specs.Spelling.{IsFlow, IsHost}
use Rattle.trace.specs.Texts.{answer_object, answer_word, array, bits_members, flow_members, host_string, member, message_object, queues_text, quoted}
use Rattle.trace.proofs.Decimals.{decimal_closed, decimal_lacks, octets_lack, short_once, sized_once}
use Rattle.trace.proofs.Closed.{AreClosed, Spelled, Words, also_closed, first_same, lists_spelled, member_once, none_closed, object_closed, object_once, quoted_once, rest_same, string_closed, strings_spelled}

-- ---- hosts

pub host_words : Words host_text IsHostNamed
host_words = record { plain = plain; once = once } where
  plain : (h : Host) → IsHostNamed h → Lacks 34 (host_text h)
  plain h is =
      let P : ℕ → Type 0 = λ x. (x == 34) ≡ false in
      All-append P (decimal h.host) (47 ∷ decimal h.imp) (decimal_lacks 34 h.host (lit< tt)) (All-cons P 47 (decimal h.imp) refl (decimal_lacks 34 h.imp (lit< tt)))

  once : (g h : Host) → IsHostNamed g → IsHostNamed h → host_text g ≡ host_text h → g ≡ h
  once g h p q e =
      let cut : SameCut (decimal g.host) (decimal g.imp) (decimal h.host) (decimal h.imp) = same_cut 47 (decimal g.host) (decimal g.imp) (decimal h.host) (decimal h.imp) (decimal_lacks 47 g.host (lit< tt)) (decimal_lacks 47 h.host (lit< tt)) e in
      let host : g.host ≡ h.host = short_once g.host h.host p.host q.host cut.front in
      let imp : g.imp ≡ h.imp = short_once g.imp h.imp p.imp q.imp cut.back in
      λ i. record { imp = imp i; host = host i }

pub host_spelled : Spelled host_string IsHostNamed
host_spelled = strings_spelled host_text IsHostNamed host_words

-- valid hosts are named
pub host_named : (h : Host) → IsHost h → IsHostNamed h
host_named h is =
    let imp : h.imp ≤ 63 = grind (arith, nat_tests) in
    let host : h.host ≤ 3 = grind (arith, nat_tests) in
    record { imp = omega (arith, imp); host = omega (arith, host) }

-- ---- flows

pub flow_named : (f : Flow) → IsFlow f → IsFlowNamed f
flow_named f is = let link : f.link.0 < 256 = is.2 in record { source = host_named _ is.0; destination = host_named _ is.1; link = omega (arith, link) }

-- two values are the same, and so is what follows their members
pub record SameThen {X : Type 0} (x y : X) (r s : List (List ℕ)) : Type 0 where
  pub first : x ≡ y
  pub behind : r ≡ s

pub flow_closed : (f : Flow) {others : List (List ℕ)} → IsFlowNamed f → AreClosed others → AreClosed (flow_members f ++ others)
flow_closed f is more =
    also_closed (codes "from") refl (host_spelled.closed f.source is.source)
    (also_closed (codes "to") refl (host_spelled.closed f.destination is.destination)
    (also_closed (codes "link") refl (decimal_closed f.link.0) more))

pub flow_same : (f g : Flow) (r s : List (List ℕ)) → IsFlowNamed f → IsFlowNamed g → flow_members f ++ r ≡ flow_members g ++ s → SameThen f g r s
flow_same f g r s p q e =
    let source : f.source ≡ g.source = host_spelled.once f.source g.source p.source q.source (member_once (codes "from") _ _ (first_same e)) in
    let destination : f.destination ≡ g.destination = host_spelled.once f.destination g.destination p.destination q.destination (member_once (codes "to") _ _ (first_same (rest_same e))) in
    let link : f.link.0 ≡ g.link.0 = short_once _ _ p.link q.link (member_once (codes "link") _ _ (first_same (rest_same (rest_same e)))) in
    record { first = λ i. record { source = source i; destination = destination i; link = record { 0 = link i } }; behind = rest_same (rest_same (rest_same e)) }

-- ---- bits

pub bits_closed : (bits : List Bool) → AreClosed (bits_members bits)
bits_closed bits =
    also_closed (codes "bits") refl (decimal_closed (length bits))
    (also_closed (codes "octets") refl (string_closed _ (octets_lack 34 (lit< tt) bits)) none_closed)

pub bits_same : (a b : List Bool) → bits_members a ≡ bits_members b → a ≡ b
bits_same a b e =
    sized_once a b (member_once (codes "bits") _ _ (first_same e))
    (quoted_once _ _ (member_once (codes "octets") _ _ (first_same (rest_same e))))

-- ---- messages

abbrev IsMessageNamed : HostMessage → Type 0
IsMessageNamed m = IsFlowNamed m.flow

message_once : (m n : HostMessage) → IsMessageNamed m → IsMessageNamed n → message_object m ≡ message_object n → m ≡ n
message_once m n p q e =
    let all = object_once _ _ (flow_closed m.flow p (bits_closed m.text)).all (flow_closed n.flow q (bits_closed n.text)).all e in
    let flows = flow_same m.flow n.flow _ _ p q all in
    let text : m.text ≡ n.text = bits_same m.text n.text flows.behind in
    λ i. record { flow = flows.first i; text = text i }

pub message_spelled : Spelled message_object IsMessageNamed
message_spelled = record { closed = λ m is. object_closed (flow_members m.flow ++ bits_members m.text) (flow_closed m.flow is (bits_closed m.text)).all; once = message_once }

-- ---- answers

answer_in_word : List ℕ → Answer
answer_in_word word =
    if bytes_eq word (codes "rfnm") then answer.Rfnm
    else if bytes_eq word (codes "incomplete") then answer.Incomplete
    else if bytes_eq word (codes "dead") then answer.Dead
    else answer.NotTaken

answer_again : (k : Answer) → answer_in_word (answer_word k) ≡ k
unfolding answer_in_word
answer_again answer.Rfnm = refl
answer_again k = refl

word_plain : (k : Answer) → Lacks 34 (answer_word k)
word_plain answer.Rfnm = unmarked_where 34 (codes "rfnm") refl
word_plain answer.Incomplete = unmarked_where 34 (codes "incomplete") refl
word_plain answer.Dead = unmarked_where 34 (codes "dead") refl
word_plain answer.NotTaken = unmarked_where 34 (codes "nottaken") refl

abbrev IsAnswerNamed : WaitingAnswer → Type 0
IsAnswerNamed a = IsFlowNamed a.1

abbrev answer_members : WaitingAnswer → List (List ℕ)
answer_members a = member (codes "kind") (quoted (answer_word a.0)) ∷ flow_members a.1

answer_closed : (a : WaitingAnswer) → IsAnswerNamed a → AreClosed (answer_members a)
answer_closed a is = also_closed (codes "kind") refl (string_closed _ (word_plain a.0)) (flow_closed a.1 is none_closed)

answer_once : (a b : WaitingAnswer) → IsAnswerNamed a → IsAnswerNamed b → answer_object a ≡ answer_object b → a ≡ b
answer_once a b p q e =
    let all = object_once _ _ (answer_closed a p).all (answer_closed b q).all e in
    let word : answer_word a.0 ≡ answer_word b.0 = quoted_once _ _ (member_once (codes "kind") _ _ (first_same all)) in
    let kind : a.0 ≡ b.0 = sym (answer_again a.0) ∙ ap answer_in_word word ∙ answer_again b.0 in
    let flows = flow_same a.1 b.1 [] [] p q (rest_same all) in
    λ i. (kind i, flows.first i)

pub answer_spelled : Spelled answer_object IsAnswerNamed
answer_spelled = record { closed = λ a is. object_closed (answer_members a) (answer_closed a is).all; once = answer_once }

-- ---- what waits for a host

pub record SameQueues (ms ns : List HostMessage) (xs ys : List WaitingAnswer) : Type 0 where
  pub messages : ms ≡ ns
  pub answers : xs ≡ ys

messages_spelled : Spelled (λ xs. array (map message_object xs)) (All IsMessageNamed)
messages_spelled = lists_spelled message_object IsMessageNamed message_spelled

answers_spelled : Spelled (λ xs. array (map answer_object xs)) (All IsAnswerNamed)
answers_spelled = lists_spelled answer_object IsAnswerNamed answer_spelled

abbrev queues_members : List HostMessage → List WaitingAnswer → List (List ℕ)
queues_members ms xs = member (codes "messages") (array (map message_object ms)) ∷ member (codes "answers") (array (map answer_object xs)) ∷ []

queues_closed : (ms : List HostMessage) (xs : List WaitingAnswer) → All IsMessageNamed ms → All IsAnswerNamed xs → AreClosed (queues_members ms xs)
queues_closed ms xs p q = also_closed (codes "messages") refl (messages_spelled.closed ms p) (also_closed (codes "answers") refl (answers_spelled.closed xs q) none_closed)

pub queues_once : (ms ns : List HostMessage) (xs ys : List WaitingAnswer) → All IsMessageNamed ms → All IsMessageNamed ns → All IsAnswerNamed xs → All IsAnswerNamed ys → queues_text ms xs ≡ queues_text ns ys → SameQueues ms ns xs ys
queues_once ms ns xs ys pm pn px py e =
    let all = object_once (queues_members ms xs) (queues_members ns ys) (queues_closed ms xs pm px).all (queues_closed ns ys pn py).all e in record {
      messages = messages_spelled.once ms ns pm pn (member_once (codes "messages") (array (map message_object ms)) (array (map message_object ns)) (first_same all));
      answers = answers_spelled.once xs ys px py (member_once (codes "answers") (array (map answer_object xs)) (array (map answer_object ys)) (first_same (rest_same all)));
    }

pub hosts_spelled : Spelled (λ xs. array (map host_string xs)) (All IsHostNamed)
hosts_spelled = lists_spelled host_string IsHostNamed host_spelled
