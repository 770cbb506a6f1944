use Rattle.subnet_trace.proofs.Common.{◌≡◌, ◌∙◌, ◌++◌, List, ℕ, codes, length, rules, subst, sym, IfOk-weaker, Kept, subnet_calls, OnlyIn, mark, object, AllParts}
use Rattle.subnet_trace.specs.Parts.{scope_of, parts_of_net}
use Rattle.trace.specs.Traces.{HasHappened}
use Rattle.trace.specs.Changes.{changed_parts}
use Rattle.subnet_trace.proofs.Scopes.{only_in, refused_texts}
use Rattle.subnet_trace.proofs.traced.TracedSubnetInspect.change.Goals as goal
use Rattle.trace.proofs.lemmas.{none_changed_now}

abbrev parts_kept : Kept → AllParts
parts_kept k = parts_of_net k.net

pub change-requires-clause-inside : goal.change-requires-clause-inside
change-requires-clause-inside c =
    subst (λ (k : Kept). OnlyIn c.args.known.now (scope_of k.net c.args.event.now) k.net) (sym c.self.view_is)
    (only_in c.args.known.now c.args.event.now c.args._crossings.now c.args.outcome c.args.self.now c.requires.happened)

pub returns-in-Err-clause-known : goal.returns-in-Err-clause-known
returns-in-Err-clause-known c =
    let same : c.args.known.now ≡ parts_kept c.args.self.now =
    refused_texts c.args.known.now c.args.event.now c.args._crossings.now c.in-Err.field-0 c.args.self.now
    (subst (λ r. HasHappened subnet_calls parts_kept c.args.known.now c.args.event.now c.args._crossings.now r c.args.self.now) c.in-Err.is c.requires.happened) in
    search (rules, same)

pub returns-in-Err-clause-changed : goal.returns-in-Err-clause-changed
returns-in-Err-clause-changed c =
    let same : c.args.known.now ≡ parts_kept c.args.self.now =
    refused_texts c.args.known.now c.args.event.now c.args._crossings.now c.in-Err.field-0 c.args.self.now
    (subst (λ r. HasHappened subnet_calls parts_kept c.args.known.now c.args.event.now c.args._crossings.now r c.args.self.now) c.in-Err.is c.requires.happened) in
    let room : List ℕ = c.args.room.items in
    IfOk-weaker c.ended.result (λ text. text.items ≡ room ++ mark (codes "{}") (codes "}") (length room)) (λ text. text.items ≡ object (changed_parts c.args.known.now (parts_kept c.args.self.now)))
    (λ text ends. ends ∙ none_changed_now c.args.known.now (parts_kept c.args.self.now) room c.requires.empty same) c.ended.ensures
