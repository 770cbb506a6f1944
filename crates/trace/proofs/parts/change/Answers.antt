use Rattle.trace.proofs.Common.{◌≡◌, ◌++◌, ◌+◌, ◌≤◌, ◌∙◌, List, ℕ, ap, arith, codes, length, rules, sym, IfOk-weaker, Host, changed, put_at, put_text, mark, Down, OnlyReached, all_members, member, object, part_name, part_text}
use Rattle.trace.proofs.Changes.Extending.{ended_object}
use Rattle.trace.proofs.Changes.Putting.{AllPut, all_put}
use Rattle.trace.proofs.Changes.Reached.{begin_put, host_put, waiting_left, waiting_none}
use Rattle.trace.proofs.parts.change.Goals as goal

pub loop-index-init : goal.loop-index-init
loop-index-init c =
    let r : OnlyReached c.args.known.now c.args.event.now c.args.crossings.now c.args.boxes.now = c.requires.reached in
    let down : List ℕ = member (part_name Down) (part_text c.args.boxes.now Down) in (
      r,
      begin_put c.args.known.now c.args.event.now c.args.crossings.now c.args.boxes.now r c.hosts-hosts.result.now c.put.new.self c.args.room.items c.in_ok-text.text.items c.hosts-hosts.ensures.value c.requires.empty
          (c.in_ok-text.ensures.members ∙ ap (λ may. put_at may c.args.known.now 0 down) c.moves_host.ensures) (c.in_ok-text.ensures.object ∙ ap (λ may. put_text may c.args.known.now 0 down c.args.room.items) c.moves_host.ensures),
    )

pub loop-index-preserved : goal.loop-index-preserved
loop-index-preserved c =
    let i : ℕ = c.loop-index.index in
    let h : Host = c.index-hosts-index.result in
    let r : OnlyReached c.args.known.now c.args.event.now c.args.crossings.now c.args.boxes.now = c.loop-index.invariant.0 in (
      r,
      host_put r.old c.args.boxes.now c.hosts-hosts.result.now i (i + 1) h c.reaches.result c.args.known.now (all_members c.args.boxes.now) c.loop-index.known c.put-in-loop-index.new.self c.loop-index.text.items c.in_ok-text-2.text.items
          c.loop-index-test.true c.index-hosts-index.is (λ none. r.waiting h (sym c.reaches.ensures ∙ none)) c.in_ok-text-2.ensures.members c.in_ok-text-2.ensures.object c.loop-index.invariant.1,
    )

pub returns-clause-known : goal.returns-clause-known
returns-clause-known c =
    let i : ℕ = c.loop-index.index in
    let r : OnlyReached c.args.known.now c.args.event.now c.args.crossings.now c.args.boxes.now = c.loop-index.invariant.0 in
    let past : length c.hosts-hosts.result.now ≤ i = omega (arith, c.loop-index-test.false) in
    let all : AllPut c.args.known.now (all_members c.args.boxes.now) c.loop-index.known c.loop-index.text.items =
    all_put c.args.known.now (all_members c.args.boxes.now) (i + 1) c.loop-index.known c.loop-index.text.items (waiting_left r.old c.hosts-hosts.result.now i) (waiting_left c.args.boxes.now c.hosts-hosts.result.now i)
    (waiting_none r.old c.hosts-hosts.result.now i past) (waiting_none c.args.boxes.now c.hosts-hosts.result.now i past) c.loop-index.invariant.1 in
    search (rules, all.all)

pub returns-clause-changed : goal.returns-clause-changed
returns-clause-changed c =
    let i : ℕ = c.loop-index.index in
    let r : OnlyReached c.args.known.now c.args.event.now c.args.crossings.now c.args.boxes.now = c.loop-index.invariant.0 in
    let past : length c.hosts-hosts.result.now ≤ i = omega (arith, c.loop-index-test.false) in
    let all : AllPut c.args.known.now (all_members c.args.boxes.now) c.loop-index.known c.loop-index.text.items =
    all_put c.args.known.now (all_members c.args.boxes.now) (i + 1) c.loop-index.known c.loop-index.text.items (waiting_left r.old c.hosts-hosts.result.now i) (waiting_left c.args.boxes.now c.hosts-hosts.result.now i)
    (waiting_none r.old c.hosts-hosts.result.now i past) (waiting_none c.args.boxes.now c.hosts-hosts.result.now i past) c.loop-index.invariant.1 in
    IfOk-weaker c.ended.result (λ text. text.items ≡ c.loop-index.text.items ++ mark (codes "{}") (codes "}") (length c.loop-index.text.items)) (λ text. text.items ≡ object (changed c.args.known.now (all_members c.args.boxes.now)))
    (λ text ends. ends ∙ ended_object c.loop-index.text.items (changed c.args.known.now (all_members c.args.boxes.now)) all.written) c.ended.ensures
