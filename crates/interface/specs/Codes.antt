-- Hosts, flows, messages and answers as numbers and lists, which a model needs whose value is a map of them.
use Rattle.std.specs.Prelude.{◌≡◌, ℕ, zero, suc, refl, Bool, List}
use Rattle.std.specs.Coded.{Coded, code_by, coded×, coded_ℕ, coded_bool, coded_list}
use Rattle.interface.specs.Host.{Host}
use Rattle.interface.specs.declared.address.Flow.{Flow}
use Rattle.interface.specs.declared.crossing.Answer.{Answer}
use Rattle.interface.specs.declared.crossing.Answer.TheVariants as answer
use Rattle.interface.specs.declared.message.HostMessage.{HostMessage}

abbrev pub coded_host : Coded Host
coded_host = code_by (ℕ × ℕ) (coded× coded_ℕ coded_ℕ) (λ h. (h.imp, h.host)) (λ p. record { imp = p.0; host = p.1 }) (λ _. refl)

-- a flow as five numbers
abbrev pub coded_flow : Coded Flow
coded_flow = code_by (Host × (Host × ℕ)) (coded× coded_host (coded× coded_host coded_ℕ))
    (λ f. (f.source, (f.destination, f.link.0))) (λ p. record { source = p.0; destination = p.1.0; link = record { 0 = p.1.1 } }) (λ _. refl)

abbrev pub coded_message : Coded HostMessage
coded_message = code_by (Flow × List Bool) (coded× coded_flow (coded_list coded_bool)) (λ m. (m.flow, m.text)) (λ p. record { flow = p.0; text = p.1 }) (λ _. refl)

-- an answer as a number
abbrev pub number_of : Answer → ℕ
number_of answer.Rfnm = 0
number_of answer.Incomplete = 1
number_of answer.Dead = 2
number_of answer.NotTaken = 3

abbrev pub answer_by : ℕ → Answer
answer_by zero = answer.Rfnm
answer_by (suc zero) = answer.Incomplete
answer_by (suc (suc zero)) = answer.Dead
answer_by (suc (suc (suc kind))) = answer.NotTaken

abbrev pub answer_again : (kind : Answer) → answer_by (number_of kind) ≡ kind
answer_again answer.Rfnm = refl
answer_again answer.Incomplete = refl
answer_again answer.Dead = refl
answer_again answer.NotTaken = refl

abbrev pub coded_answer : Coded Answer
coded_answer = code_by ℕ coded_ℕ number_of answer_by answer_again
