-- A calm of two rounds in which a message and its answer are taken.
use Rattle.trace.proofs.Common.{◌≡◌, ℕ, true, false, List, [], ◌∷◌, ◌++◌, Option, Some, is_some, refl, ap, ap₂, ◌∙◌, Host, Course, all_takings, elements_of, from_boxes, is_given, no_course, round_of, rounds_from, takings, then_course}
use Rattle.leader1822.specs.Boxes.{Boxes, WaitingAnswer, answer_first, first_of_list, for_host, inbound_taken, next_for, opening_boxes, rest}
use Rattle.interface.specs.declared.Inbound.{Inbound}
use Rattle.interface.specs.declared.Inbound.TheVariants as inbound
use Rattle.interface.specs.declared.HostMessage.{HostMessage}
use Rattle.interface.specs.declared.crossing.Answer.TheVariants as answer
use Rattle.script.specs.declared.event.RawEvent.TheVariants as event
use Rattle.trace.specs.Worked.{first, flow, one_waits, short, third}
use Rattle.trace.proofs.Courses.{none_given, one_given}
use Rattle.trace.proofs.Queues.{for_here, for_other, none_for}

next_is : (b : Boxes) (h : Host) (xs : List WaitingAnswer) (ms : List HostMessage) → for_host b.answers h ≡ xs
    → for_host b.messages h ≡ ms → next_for b h ≡ answer_first (first_of_list xs) (first_of_list ms)
next_is b h xs ms a m = ap₂ (λ (xs : List WaitingAnswer) (ms : List HostMessage). answer_first (first_of_list xs)
    (first_of_list ms)) a m

-- a taking that gives something, and then one that gives nothing
one_then_none : (round : ℕ) (h : Host) (b c : Boxes) → is_given b h ≡ true → inbound_taken b h (next_for b h) ≡ c
    → is_given c h ≡ false
    → takings from_boxes round h 16 b ≡ record {
      elements = record { round = round; event = event.Take h } ∷ [];
      left =
          c;
    }
one_then_none round h b c given left none =
    one_given from_boxes round h 15 b given
    ∙ ap (λ (x : Boxes). record {
      elements =
          record { round = round; event = event.Take h } ∷ (takings from_boxes round h 15 x).elements;
      left =
          (takings from_boxes round h 15 x).left;
    }) left
    ∙ ap (λ (x : Course Boxes). record {
      elements = record { round = round; event = event.Take h } ∷ x.elements;
      left =
          x.left;
    }) (none_given from_boxes round h 14 c none)

-- ---- where nothing waits

abbrev alone : Boxes
alone = opening_boxes (first ∷ [])

none_alone : is_given alone first ≡ false
none_alone = ap (λ (o : Option Inbound). is_some o) (next_is alone first [] [] (none_for first) (none_for first))

still : (round : ℕ) → all_takings from_boxes round (first ∷ []) alone ≡ no_course alone
still round = ap (λ (c : Course Boxes). then_course c (λ b. no_course b))
    (none_given from_boxes round first 15 alone none_alone)

pub quiet : elements_of alone (event.Calm 2) ≡ []
quiet = ap (λ (c : Course Boxes). (then_course c (rounds_from round_of 2 1)).elements) (still 1)
    ∙ ap (λ (c : Course Boxes). (then_course c (rounds_from round_of 3 0)).elements) (still 2)

-- ---- where a message waits

-- after the message was taken, and after its RFNM was
abbrev answered : Boxes
answered = inbound_taken one_waits third (Some (inbound.Message short))

abbrev settled : Boxes
settled = inbound_taken answered first (Some (inbound.Answer answer.Rfnm flow))

messages_third : for_host one_waits.messages third ≡ short ∷ []
messages_third = for_here _ third _
    ∙ ap (λ (ms : List HostMessage). ms ++ short ∷ []) (none_for third)

messages_first : for_host one_waits.messages first ≡ []
messages_first = for_other _ third _ first refl ∙ none_for first

none_third : for_host answered.messages third ≡ []
none_third = for_here _ third _
    ∙ ap (λ (ms : List HostMessage). rest ms) messages_third

none_first : for_host answered.messages first ≡ []
none_first = for_other _ third _ first refl ∙ messages_first

answer_waits : for_host answered.answers first ≡ (answer.Rfnm, flow) ∷ []
answer_waits = for_here _ first _
    ∙ ap (λ (xs : List WaitingAnswer). xs ++ (answer.Rfnm, flow) ∷ []) (none_for first)

no_answer : for_host answered.answers third ≡ []
no_answer = for_other _ first _ third refl ∙ none_for third

taken_answer : for_host settled.answers first ≡ []
taken_answer = for_here _ first _
    ∙ ap (λ (xs : List WaitingAnswer). rest xs) answer_waits

still_no_answer : for_host settled.answers third ≡ []
still_no_answer = for_other _ first _ third refl ∙ no_answer

next_message : next_for one_waits third ≡ Some (inbound.Message short)
next_message = next_is one_waits third [] _ (none_for third) messages_third

next_answer : next_for answered first ≡ Some (inbound.Answer answer.Rfnm flow)
next_answer = next_is answered first _ [] answer_waits none_first

-- the first host finds nothing yet, and the third the message
first_round : all_takings from_boxes 1
    (first ∷ third ∷ []) one_waits ≡ record {
      elements = record { round = 1; event = event.Take third } ∷ [];
      left =
          answered;
    }
first_round =
    ap (λ (c : Course Boxes). then_course c (all_takings from_boxes 1 (third ∷ [])))
    (none_given from_boxes 1 first 15 one_waits
    (ap (λ (o : Option Inbound). is_some o) (next_is one_waits first [] [] (none_for first) messages_first)))
    ∙ ap (λ (c : Course Boxes). then_course c (λ b. no_course b))
    (one_then_none 1 third one_waits answered (ap (λ (o : Option Inbound). is_some o) next_message)
    (ap (λ o. inbound_taken one_waits third o) next_message)
    (ap (λ (o : Option Inbound). is_some o) (next_is answered third [] [] no_answer none_third)))

-- the first host takes the answer, and the third nothing
second_round : all_takings from_boxes 2
    (first ∷ third ∷ []) answered ≡ record {
      elements = record { round = 2; event = event.Take first } ∷ [];
      left =
          settled;
    }
second_round =
    ap (λ (c : Course Boxes). then_course c (all_takings from_boxes 2 (third ∷ [])))
    (one_then_none 2 first answered settled (ap (λ (o : Option Inbound). is_some o) next_answer)
    (ap (λ o. inbound_taken answered first o) next_answer)
    (ap (λ (o : Option Inbound). is_some o) (next_is settled first [] [] taken_answer none_first)))
    ∙ ap (λ (c : Course Boxes). record {
      elements =
          record { round = 2; event = event.Take first } ∷ (then_course c (λ b. no_course b)).elements;
      left =
          (then_course c (λ b. no_course b)).left;
    })
    (none_given from_boxes 2 third 15 settled
    (ap (λ (o : Option Inbound). is_some o) (next_is settled third [] [] still_no_answer none_third)))

pub message : elements_of one_waits (event.Calm 2) ≡ record { round = 1; event = event.Take third } ∷ record {
  round =
      2;
  event = event.Take first;
} ∷ []
message = ap (λ (c : Course Boxes). (then_course c (rounds_from round_of 2 1)).elements) first_round
    ∙ ap (λ (c : Course Boxes). record { round = 1; event = event.Take third } ∷
    (then_course c (rounds_from round_of 3 0)).elements) second_round
