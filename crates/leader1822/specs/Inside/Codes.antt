-- What waits of a flow, as a number, and what waits for each host.
use Rattle.std.specs.Prelude.{◌≡◌, ℕ, zero, suc, refl, List}
use Rattle.std.specs.Coded.{Coded, code_by, coded×, coded_ℕ, coded_list}
use Rattle.std.specs.FinMap as map
use Rattle.interface.specs.Flow.{flow_cmp}
use Rattle.interface.specs.Codes.{coded_answer, coded_flow, coded_host, coded_message, number_of, answer_by, answer_again}
use Rattle.interface.specs.Host.{host_cmp}
use Rattle.interface.specs.declared.address.Flow.{Flow}
use Rattle.interface.specs.declared.crossing.Answer.{Answer}
use Rattle.interface.specs.declared.message.HostMessage.{HostMessage}
use Rattle.leader1822.specs.declared.flows.Pending.{Pending}
use Rattle.leader1822.specs.declared.flows.Pending.TheVariants as pending

abbrev pub number_of_pending : Pending → ℕ
number_of_pending pending.Message = 0
number_of_pending (pending.Answer kind) = suc (number_of kind)

abbrev pub pending_by : ℕ → Pending
pending_by zero = pending.Message
pending_by (suc n) = pending.Answer (answer_by n)

abbrev pub pending_again : (p : Pending) → pending_by (number_of_pending p) ≡ p
pending_again pending.Message = refl
pending_again (pending.Answer kind) = λ i. pending.Answer (answer_again kind i)

abbrev pub coded_pending : Coded Pending
coded_pending = code_by ℕ coded_ℕ number_of_pending pending_by pending_again

abbrev pub coded_flows : Coded (map.FinMap flow_cmp Pending)
coded_flows = map.code coded_flow coded_pending

-- what waits for each host
abbrev pub coded_queues : Coded (map.FinMap host_cmp (List HostMessage))
coded_queues = map.code coded_host (coded_list coded_message)

abbrev pub coded_answers : Coded (map.FinMap host_cmp (List (Answer × Flow)))
coded_answers = map.code coded_host (coded_list (coded× coded_answer coded_flow))
