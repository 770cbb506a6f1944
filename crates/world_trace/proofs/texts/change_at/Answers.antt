use Rattle.world_trace.proofs.Common.{◌≡◌, ◌++◌, ◌≤◌, ◌∙◌, Bool, ap, arith, codes, length, map, rules, object, IfOk-weaker}
use Rattle.trace.specs.Changes.{put_at, put_text, changed}
use Rattle.trace.proofs.lemmas.{AllPut, ended_object}
use Rattle.world_trace.specs.Steps.{at_host}
use Rattle.trace.specs.Joined.{mark}
use Rattle.world_trace.proofs.Changing.{all_changed, next_changed, none_changed_yet, within}
use Rattle.world_trace.proofs.texts.change_at.Goals as goal

pub loop-place-init : goal.loop-place-init
loop-place-init g c = none_changed_yet (at_host g.T.Placed.place c.args.host.now) g.T.Json.text c.args.known.now c.args.items.now c.new-text.result.items c.new-text.ensures.items c.requires.others

pub put-requires : goal.put-requires
put-requires g c =
    within (at_host g.T.Placed.place c.args.host.now) g.T.Json.text c.args.known.now c.args.items.now c.loop-place.place c.loop-place.known c.loop-place.text.items c.index-items-place.result c.loop-place-test.true c.index-items-place.is c.loop-place.invariant

pub loop-place-preserved : goal.loop-place-preserved
loop-place-preserved g c =
    let l = c.loop-place in
    let x = c.index-items-place.result in
    let text = g.T.Json.text x in
    next_changed (at_host g.T.Placed.place c.args.host.now) g.T.Json.text c.args.known.now c.args.items.now l.place l.known c.put.new.self l.text.items c.in_ok-text.text.items x c.loop-place-test.true c.index-items-place.is
    (c.in_ok-text.ensures.members ∙ ap (λ (may : Bool). put_at may l.known l.place text) c.is_at.ensures) (c.in_ok-text.ensures.object ∙ ap (λ (may : Bool). put_text may l.known l.place text l.text.items) c.is_at.ensures) l.invariant

pub returns-clause-known : goal.returns-clause-known
returns-clause-known g c =
    let l = c.loop-place in
    let past : length c.args.items.now ≤ l.place = omega (arith, c.loop-place-test.false) in
    let all : AllPut c.args.known.now (map g.T.Json.text c.args.items.now) l.known l.text.items = all_changed (at_host g.T.Placed.place c.args.host.now) g.T.Json.text c.args.known.now c.args.items.now l.place l.known l.text.items past l.invariant in
    search (rules, all.all)

pub returns-clause-changed : goal.returns-clause-changed
returns-clause-changed g c =
    let l = c.loop-place in
    let past : length c.args.items.now ≤ l.place = omega (arith, c.loop-place-test.false) in
    let now = map g.T.Json.text c.args.items.now in
    let all : AllPut c.args.known.now now l.known l.text.items = all_changed (at_host g.T.Placed.place c.args.host.now) g.T.Json.text c.args.known.now c.args.items.now l.place l.known l.text.items past l.invariant in
    IfOk-weaker c.ended.result (λ text. text.items ≡ l.text.items ++ mark (codes "{}") (codes "}") (length l.text.items)) (λ text. text.items ≡ object (changed c.args.known.now now)) (λ text ends. ends ∙ ended_object l.text.items (changed c.args.known.now now) all.written) c.ended.ensures
