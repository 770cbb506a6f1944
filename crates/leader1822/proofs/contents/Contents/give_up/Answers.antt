use Rattle.leader1822.proofs.Common.{is_host, HostMessage}
use Rattle.std.proofs.Common.{◌++◌, List, Bool, true, not, filter, refl, ap, sym, ◌∙◌}
use Rattle.leader1822.specs.Boxes.{WaitingAnswer, for_host, with_queue, is_of, is_rfnm_about, one_if}
use Rattle.leader1822.specs.Inside.Held.{Held, put, answer_if}
use Rattle.interface.specs.declared.crossing.Answer.TheVariants as answer
use Rattle.leader1822.proofs.Giving.{ByMessage, by_message, ByRfnm, by_rfnm}
use Rattle.leader1822.proofs.SoundCalls.{on_ok, on_err}
use Rattle.leader1822.proofs.SoundEvents.{Outstanding, outstanding}
use Rattle.leader1822.proofs.contents.Contents.give_up.Goals as goal

pub give_up_message-requires : goal.give_up_message-requires
give_up_message-requires c =
    let kept = c.requires.kept in
    let o : Outstanding c.args.self.now.boxes c.args.flow = outstanding c.args.self.now.boxes c.args.flow c.requires.outstanding in
    (by_message c.args.self.now c.args.flow (kept.indexed o.running) (kept.sound.matches o.running) (sym c.has_message.ensures ∙ c.if-has_message.true)).one

pub returns-then-has_message-clause-ok : goal.returns-then-has_message-clause-ok
returns-then-has_message-clause-ok c =
    let kept = c.requires.kept in
    let h : Held = c.args.self.now in
    let f = c.args.flow in
    let t = not (is_host h.boxes.down f.source) in
    let o : Outstanding h.boxes f = outstanding h.boxes f c.requires.outstanding in
    let m : ByMessage h.boxes f = by_message h f (kept.indexed o.running) (kept.sound.matches o.running) (sym c.has_message.ensures ∙ c.if-has_message.true) in
    let given : List WaitingAnswer → Held = λ xs. record {
      boxes = record h.boxes {
        messages = with_queue h.boxes.messages f.destination (filter (λ x. not (is_of f x)) (for_host h.boxes.messages f.destination));
        answers = with_queue h.boxes.answers f.source (xs ++ one_if t (answer.Incomplete, f));
      };
      flows = put h.flows f (answer_if t answer.Incomplete);
    } in
    on_ok c.give_up_message.result c.give_up_message.ensures.ok (λ e. e ∙ ap given (sym m.answers_stay))

pub returns-then-has_message-clause-grows : goal.returns-then-has_message-clause-grows
returns-then-has_message-clause-grows c =
    let kept = c.requires.kept in
    let h : Held = c.args.self.now in
    let f = c.args.flow in
    let o : Outstanding h.boxes f = outstanding h.boxes f c.requires.outstanding in
    let m : ByMessage h.boxes f = by_message h f (kept.indexed o.running) (kept.sound.matches o.running) (sym c.has_message.ensures ∙ c.if-has_message.true) in
    on_err c.give_up_message.result c.give_up_message.ensures.grows (λ up. rw (up, m.no_rfnm) refl)

pub give_up_rfnm-requires-clause-one : goal.give_up_rfnm-requires-clause-one
give_up_rfnm-requires-clause-one c =
    let kept = c.requires.kept in
    let o : Outstanding c.args.self.now.boxes c.args.flow = outstanding c.args.self.now.boxes c.args.flow c.requires.outstanding in
    (by_rfnm c.args.self.now c.args.flow (kept.indexed o.running) kept.sound c.requires.outstanding (sym c.has_message.ensures ∙ c.if-has_message.false)).one

pub give_up_rfnm-requires-clause-known : goal.give_up_rfnm-requires-clause-known
give_up_rfnm-requires-clause-known c =
    let kept = c.requires.kept in
    let o : Outstanding c.args.self.now.boxes c.args.flow = outstanding c.args.self.now.boxes c.args.flow c.requires.outstanding in
    (by_rfnm c.args.self.now c.args.flow (kept.indexed o.running) kept.sound c.requires.outstanding (sym c.has_message.ensures ∙ c.if-has_message.false)).known

pub returns-clause-ok : goal.returns-clause-ok
returns-clause-ok c =
    let kept = c.requires.kept in
    let h : Held = c.args.self.now in
    let f = c.args.flow in
    let o : Outstanding h.boxes f = outstanding h.boxes f c.requires.outstanding in
    let r : ByRfnm h f = by_rfnm h f (kept.indexed o.running) kept.sound c.requires.outstanding (sym c.has_message.ensures ∙ c.if-has_message.false) in
    let given : List HostMessage → Bool → Held = λ ms t. record {
      boxes = record h.boxes {
        messages = with_queue h.boxes.messages f.destination ms;
        answers = with_queue h.boxes.answers f.source (filter (λ a. not (is_rfnm_about f a)) (for_host h.boxes.answers f.source) ++ one_if t (answer.Incomplete, f));
      };
      flows = put h.flows f (answer_if t answer.Incomplete);
    } in
    c.give_up_rfnm.ensures ∙ ap (λ ms. given ms true) (sym r.messages_stay) ∙ ap (given (filter (λ x. not (is_of f x)) (for_host h.boxes.messages f.destination))) (ap not (sym r.up))
