use Rattle.trace.proofs.Common.{◌≡◌, ◌∙◌, ◌++◌, [], List, ap, ap₂, codes, length, rules, subst, sym, ℕ, IfOk-weaker, on_ok, changed, changed_parts, mark, all_members, object, HasHappened, plain_inside, AllParts, FlowPart}
use Rattle.leader1822.specs.Boxes.{plain_calls}
use Rattle.trace.proofs.Changes.Flowing.{none_changed_now, without_flows}
use Rattle.trace.proofs.Changes.Reached.{only_reached, refused_texts}
use Rattle.trace.proofs.plain.PlainBoxesInspect.change.Goals as goal

pub change-requires-clause-reached : goal.change-requires-clause-reached
change-requires-clause-reached c = only_reached c.args.known.now c.args.event.now c.args.crossings.now c.args.outcome c.args.self.now c.requires.happened

pub returns-in-Ok-clause-known : goal.returns-in-Ok-clause-known
returns-in-Ok-clause-known c =
    let none : c.args.known.now.flows ≡ [] = ap (λ (p : AllParts). p.flows) c.requires.happened.known in
    on_ok c.change.result
    (λ known. ap₂
    (λ (xs : List (List ℕ))
    (fs : List (List FlowPart)). record { fixed = xs; flows = fs }) known none) c.change.ensures.known

pub returns-in-Ok-clause-changed : goal.returns-in-Ok-clause-changed
returns-in-Ok-clause-changed c =
    let now : List (List ℕ) = all_members c.args.self.now in
    IfOk-weaker c.change.result (λ text. text.items ≡ object (changed c.args.known.now.fixed now))
    (λ text. text.items ≡ object (changed_parts c.args.known.now (plain_inside.members c.args.self.now)))
    (λ text is. is ∙ ap object (sym (without_flows c.args.known.now now))) c.change.ensures.changed

pub returns-in-Err-clause-known : goal.returns-in-Err-clause-known
returns-in-Err-clause-known c =
    let same : c.args.known.now ≡ plain_inside.members c.args.self.now =
    refused_texts c.args.known.now c.args.event.now c.args.crossings.now c.in-Err.field-0 c.args.self.now
    (subst
    (λ r. HasHappened plain_calls plain_inside.members c.args.known.now c.args.event.now c.args.crossings.now r c.args.self.now) c.in-Err.is c.requires.happened) in
    search (rules, same)

pub returns-in-Err-clause-changed : goal.returns-in-Err-clause-changed
returns-in-Err-clause-changed c =
    let same : c.args.known.now ≡ plain_inside.members c.args.self.now =
    refused_texts c.args.known.now c.args.event.now c.args.crossings.now c.in-Err.field-0 c.args.self.now
    (subst
    (λ r. HasHappened plain_calls plain_inside.members c.args.known.now c.args.event.now c.args.crossings.now r c.args.self.now) c.in-Err.is c.requires.happened) in
    IfOk-weaker c.ended.result
    (λ text. text.items ≡ c.args.room.items ++ mark (codes "{}") (codes "}") (length c.args.room.items))
    (λ text. text.items ≡ object (changed_parts c.args.known.now (plain_inside.members c.args.self.now)))
    (λ text ends. ends
    ∙ none_changed_now c.args.known.now
    (plain_inside.members c.args.self.now) c.args.room.items c.requires.empty same) c.ended.ensures
