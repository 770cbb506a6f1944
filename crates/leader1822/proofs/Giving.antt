-- What a giving up finds, and what a taking leaves.
use Rattle.leader1822.proofs.Common.{false≢true, list_any, get, Host, is_host, texts_of, kinds_of, texts_for, kinds_for, Matches, IsSound, Flow, Answer, HostMessage}
use Rattle.std.proofs.Common.{◌≡◌, suc, Bool, true, false, not, ◌&&◌, ◌||◌, List, [], ◌∷◌, length, filter, Option, Some, None, IsSome, is_some, refl, ap, sym, ◌∙◌, inl, inr}
use Rattle.leader1822.specs.Boxes.{Boxes, WaitingAnswer, for_host, with_queue, queued_if, first_of_list, rest, is_of, is_about, is_rfnm, is_rfnm_about, is_running, give_up_refusal, next_for, answer_first}
use Rattle.leader1822.specs.Inside.Held.{Held, pending_of, is_message, IsIndexed, put, answer_if, held_taken}
use Rattle.interface.specs.declared.crossing.Answer.TheVariants as answer
use Rattle.interface.specs.declared.crossing.Crossing.TheVariants as crossing
use Rattle.interface.specs.declared.crossing.Inbound.TheVariants as inbound
use Rattle.interface.proofs.lemmas.{or_false}
use Rattle.leader1822.proofs.Waiting.{has_any, any_of, any_rfnm, none_waits}
use Rattle.leader1822.proofs.SoundEvents.{Outstanding, outstanding}

-- ---- counting

count_more : (f : Flow) (m : HostMessage) (q : List HostMessage) → length (filter (is_of f) q) ≡ length (texts_of f q) → (b : Bool) → is_of f m ≡ b → length (filter (is_of f) (m ∷ q)) ≡ length (texts_of f (m ∷ q))
count_more f m q others true e = rw e (ap suc others)
count_more f m q others false e = rw e others

count_texts : (f : Flow) (q : List HostMessage) → length (filter (is_of f) q) ≡ length (texts_of f q)
count_texts f [] = refl
count_texts f (m ∷ q) = count_more f m q (count_texts f q) (is_of f m) refl

count_kinds_more : (f : Flow) (a : WaitingAnswer) (xs : List WaitingAnswer) → length (filter (is_rfnm_about f) xs) ≡ length (filter is_rfnm (kinds_of f xs))
    → (b r : Bool) → is_about f a ≡ b → is_rfnm a.0 ≡ r → length (filter (is_rfnm_about f) (a ∷ xs)) ≡ length (filter is_rfnm (kinds_of f (a ∷ xs)))
count_kinds_more f a xs others true true e r = rw (e, r) (ap suc others)
count_kinds_more f a xs others true false e r = rw (e, r) others
count_kinds_more f a xs others false r e is = rw e others

count_kinds : (f : Flow) (xs : List WaitingAnswer) → length (filter (is_rfnm_about f) xs) ≡ length (filter is_rfnm (kinds_of f xs))
count_kinds f [] = refl
count_kinds f (a ∷ xs) = count_kinds_more f a xs (count_kinds f xs) (is_about f a) (is_rfnm a.0) refl refl

all_stay_more : {A : Type 0} (test : A → Bool) (x : A) (xs : List A) → (list_any test xs ≡ false → filter (λ y. not (test y)) xs ≡ xs)
    → list_any test (x ∷ xs) ≡ false → filter (λ y. not (test y)) (x ∷ xs) ≡ x ∷ xs
all_stay_more {A} test x xs others none =
    let t = or_false (test x) (list_any test xs) none in
    rw (t.0) (ap (λ (ys : List A). x ∷ ys) (others t.1))

-- a list in which nothing passes loses nothing
all_stay : {A : Type 0} (test : A → Bool) (xs : List A) → list_any test xs ≡ false → filter (λ y. not (test y)) xs ≡ xs
all_stay test [] none = refl
all_stay test (x ∷ xs) none = all_stay_more test x xs (all_stay test xs) none

-- ---- giving up a message that waits

pub record ByMessage (b : Boxes) (f : Flow) : Type 0 where
  pub one : length (filter (is_of f) (for_host b.messages f.destination)) ≡ 1
  pub no_rfnm : list_any (is_rfnm_about f) (for_host b.answers f.source) ≡ false
  pub answers_stay : filter (λ a. not (is_rfnm_about f a)) (for_host b.answers f.source) ≡ for_host b.answers f.source

has_text : (ts : List (List Bool)) (ks : List Answer) → is_message (pending_of ts ks) ≡ has_any ts
has_text (t ∷ ts) ks = refl
has_text [] (k ∷ ks) = refl
has_text [] [] = refl

pub by_message : (c : Held) (f : Flow) → IsIndexed c → Matches c.boxes → is_message (get c.flows f) ≡ true → ByMessage c.boxes f
by_message c f i k told =
    let b = c.boxes in
    let text : has_any (texts_for b f) ≡ true = sym (has_text (texts_for b f) (kinds_for b f)) ∙ ap is_message (sym (i.each f)) ∙ told in
    elim ((k.flows f).queued) [
      | inl none ↦ absurd (false≢true (ap has_any (sym none) ∙ text))
      | inr (t, one, holds, none, there) ↦
          (let quiet : list_any (is_rfnm_about f) (for_host b.answers f.source) ≡ false = any_rfnm f (for_host b.answers f.source) ∙ ap (list_any is_rfnm) none in
          record {
            one = count_texts f (for_host b.messages f.destination) ∙ ap length one;
            no_rfnm = quiet;
            answers_stay = all_stay (is_rfnm_about f) (for_host b.answers f.source) quiet;
          })
    ]

-- ---- giving up a message whose RFNM waits

pub record ByRfnm (c : Held) (f : Flow) : Type 0 where
  pub one : length (filter (is_rfnm_about f) (for_host c.boxes.answers f.source)) ≡ 1
  pub known : IsSome (get c.flows f)
  pub messages_stay : filter (λ m. not (is_of f m)) (for_host c.boxes.messages f.destination) ≡ for_host c.boxes.messages f.destination
  pub up : is_host c.boxes.down f.source ≡ false

rfnm_one : (k : Answer) → list_any is_rfnm (k ∷ []) ≡ true → length (filter is_rfnm (k ∷ [])) ≡ 1
rfnm_one answer.Rfnm e = refl
rfnm_one answer.Incomplete e = absurd (false≢true e)
rfnm_one answer.Dead e = absurd (false≢true e)
rfnm_one answer.NotTaken e = absurd (false≢true e)

is_up : (v w : Bool) → (v && not w) ≡ true → w ≡ false
is_up true true e = absurd (false≢true e)
is_up true false e = refl
is_up false w e = absurd (false≢true e)

by_source : (c : Held) (f : Flow) → IsIndexed c → Matches c.boxes → texts_for c.boxes f ≡ [] → list_any is_rfnm (kinds_for c.boxes f) ≡ true
    → (s : Bool) → is_running c.boxes.hosts c.boxes.down f.source ≡ s → ByRfnm c f
by_source c f i k quiet rfnm false e = absurd (false≢true (ap (list_any is_rfnm) (sym ((k.flows f).shut e)) ∙ rfnm))
by_source c f i k quiet rfnm true e =
    let b = c.boxes in
    elim ((k.flows f).told e quiet) [
      | inl (none, empty) ↦ absurd (false≢true (ap (list_any is_rfnm) (sym none) ∙ rfnm))
      | inr (kind, one, fit) ↦ record {
        one = count_kinds f (for_host b.answers f.source) ∙ ap (λ (ks : List Answer). length (filter is_rfnm ks)) one ∙ rfnm_one kind (ap (list_any is_rfnm) (sym one) ∙ rfnm);
        known = ap is_some (i.each f) ∙ ap (λ (ts : List (List Bool)). is_some (pending_of ts (kinds_for b f))) quiet ∙ ap (λ (ks : List Answer). is_some (pending_of [] ks)) one;
        messages_stay = all_stay (is_of f) (for_host b.messages f.destination) (any_of f (for_host b.messages f.destination) ∙ ap has_any quiet);
        up = is_up (is_host b.hosts f.source) (is_host b.down f.source) e;
      }
    ]

pub by_rfnm : (c : Held) (f : Flow) → IsIndexed c → IsSound c.boxes → give_up_refusal c.boxes f ≡ None → is_message (get c.flows f) ≡ false → ByRfnm c f
by_rfnm c f i s none told =
    let b = c.boxes in
    let o : Outstanding b f = outstanding b f none in
    let k : Matches b = s.matches o.running in
    let quiet : texts_for b f ≡ [] = none_waits (texts_for b f) (sym (has_text (texts_for b f) (kinds_for b f)) ∙ ap is_message (sym (i.each f)) ∙ told) in
    let rfnm : list_any is_rfnm (kinds_for b f) ≡ true = ap (λ (ts : List (List Bool)). has_any ts || list_any is_rfnm (kinds_for b f)) (sym quiet) ∙ o.busy in
    by_source c f i k quiet rfnm (is_running b.hosts b.down f.source) refl

-- ---- taking

next_message : (b : Boxes) (h : Host) (m : HostMessage) → first_of_list (for_host b.answers h) ≡ None → first_of_list (for_host b.messages h) ≡ Some m → next_for b h ≡ Some (inbound.Message m)
next_message b h m e f = ap (λ (x : Option WaitingAnswer). answer_first x (first_of_list (for_host b.messages h))) e ∙ ap (λ (x : Option HostMessage). answer_first None x) f

next_nothing : (b : Boxes) (h : Host) → first_of_list (for_host b.answers h) ≡ None → first_of_list (for_host b.messages h) ≡ None → next_for b h ≡ None
next_nothing b h e f = ap (λ (x : Option WaitingAnswer). answer_first x (first_of_list (for_host b.messages h))) e ∙ ap (λ (x : Option HostMessage). answer_first None x) f

-- a host for which nothing waits takes nothing
pub nothing_taken : (c a last : Held) (h : Host) → a ≡ c → last ≡ a → first_of_list (for_host c.boxes.answers h) ≡ None → first_of_list (for_host a.boxes.messages h) ≡ None → last ≡ held_taken c h (next_for c.boxes h)
nothing_taken c a last h same left untold unsent =
    let none : first_of_list (for_host c.boxes.messages h) ≡ None = ap (λ (x : Held). first_of_list (for_host x.boxes.messages h)) (sym same) ∙ unsent in
    left ∙ same ∙ ap (held_taken c h) (sym (next_nothing c.boxes h untold none))

abbrev without_message : Held → Host → Held
without_message a h = record a { boxes = record a.boxes { messages = with_queue a.boxes.messages h (rest (for_host a.boxes.messages h)) } }

abbrev acknowledged : Held → Flow → Held
acknowledged a f = record {
  boxes = record a.boxes { answers = queued_if (is_running a.boxes.hosts a.boxes.down f.source) a.boxes.answers f.source (answer.Rfnm, f) };
  flows = put a.flows f (answer_if (is_running a.boxes.hosts a.boxes.down f.source) answer.Rfnm);
}

abbrev crossed : Held → HostMessage → Held
crossed a m = record a { boxes = record a.boxes { log = crossing.In m ∷ a.boxes.log } }

-- a host for which a message waits, and no answer, takes the message
pub message_taken : (c a left told last : Held) (h : Host) (m : HostMessage) → a ≡ c → left ≡ without_message a h → told ≡ acknowledged left m.flow → last ≡ crossed told m
    → first_of_list (for_host c.boxes.answers h) ≡ None → first_of_list (for_host a.boxes.messages h) ≡ Some m → last ≡ held_taken c h (next_for c.boxes h)
message_taken c a left told last h m same out rfnm logged untold found =
    let sent : first_of_list (for_host c.boxes.messages h) ≡ Some m = ap (λ (x : Held). first_of_list (for_host x.boxes.messages h)) (sym same) ∙ found in
    logged ∙ ap (λ (x : Held). crossed x m) (rfnm ∙ ap (λ (x : Held). acknowledged x m.flow) (out ∙ ap (λ (x : Held). without_message x h) same))
    ∙ ap (held_taken c h) (sym (next_message c.boxes h m untold sent))
