use Rattle.net_sim.proofs.Common.{rules, ◌≡◌, ℕ, Some, ap, sym, subst, ◌∙◌, line_bits, ServiceSeat, refusal, Request}
use Rattle.std.proofs.Common.{slice_index_or}
use Rattle.net_sim.proofs.Hosts.Doing.{same_number}
use Rattle.net_sim.proofs.Hosts.Ends.{IsAnswered}
use Rattle.sockets.specs.declared.request.Request.TheVariants as requests
use Rattle.net_sim.proofs.parts.Hosts.type_at.Goals as goal

pub returns-clause-refused : goal.returns-clause-refused
returns-clause-refused c = λ h s x sits serves socket f typing r.
    let here : (slice_index_or c.args.self.now.services c.args.at c.index.result.now).services.typing ≡ Some c.number.result = search rules in
    let same : c.number.result ≡ socket = same_number c.number.result socket (sym here ∙ ap (λ (z : ServiceSeat). z.services.typing) (serves.is c.index.result.now) ∙ typing) in
    let asked : c.in-Ok.request ≡ requests.Send c.number.result (line_bits c.args.line.now) = search rules in
    let is : c.in-Ok.request ≡ requests.Send socket (line_bits c.args.line.now) = asked ∙ ap (λ (n : ℕ). requests.Send n (line_bits c.args.line.now)) same in
    c.ask_at.ensures.refused h s f sits (ap (λ (q : Request). refusal s q) is ∙ r)

pub returns-clause-served : goal.returns-clause-served
returns-clause-served c = λ h s x sits serves socket typing r.
    let here : (slice_index_or c.args.self.now.services c.args.at c.index.result.now).services.typing ≡ Some c.number.result = search rules in
    let same : c.number.result ≡ socket = same_number c.number.result socket (sym here ∙ ap (λ (z : ServiceSeat). z.services.typing) (serves.is c.index.result.now) ∙ typing) in
    let asked : c.in-Ok.request ≡ requests.Send c.number.result (line_bits c.args.line.now) = search rules in
    let is : c.in-Ok.request ≡ requests.Send socket (line_bits c.args.line.now) = asked ∙ ap (λ (n : ℕ). requests.Send n (line_bits c.args.line.now)) same in
    let done : IsAnswered h s x c.in-Ok.request c.args.self.now.seats c.ask_at.new.self.seats c.args.self.now.services c.ask_at.new.self.services c.args.self.now.book c.ask_at.new.self.book c.ask_at.result = c.ask_at.ensures.served h s x sits serves (ap (λ (q : Request). refusal s q) is ∙ r) in
    subst (λ (q : Request). IsAnswered h s x q c.args.self.now.seats c.ask_at.new.self.seats c.args.self.now.services c.ask_at.new.self.services c.args.self.now.book c.ask_at.new.self.book c.ask_at.result) is done
