use Rattle.replay.proofs.Common.{Calls}
use Rattle.std.proofs.Common.{◌≡◌, ◌<◌, ◌≤◌, length, get_or, sym, subst, ◌∙◌, Err, rules}
use Rattle.replay.specs.Replay.{Round}
use Rattle.replay.proofs.Passing.{all_turned, grew_more, none_turned, one_turned, turn_ends}
use Rattle.replay.proofs.Shown.{grew_round}
use Rattle.replay.proofs.calm.pass_round.Goals as goal

pub loop-index-init : goal.loop-index-init
loop-index-init g c =
    let calls : Calls g.row.C.Denot = g.C.Carrier.calls in
    none_turned calls c.args.carrier.now c.quiet_round.new.self c.quiet_round.result c.quiet_round.ensures.relation c.in_ok-calmly.ensures.calm
    (grew_round (calls.seen c.args.carrier.now) c.quiet_round.result (calls.seen c.quiet_round.new.self) c.quiet_round.ensures.shown)

pub loop-index-preserved : goal.loop-index-preserved
loop-index-preserved g c =
    let calls : Calls g.row.C.Denot = g.C.Carrier.calls in
    let grew = grew_round (calls.seen c.args.carrier.now) c.quiet_round.result (calls.seen c.quiet_round.new.self) c.quiet_round.ensures.shown in
    let hosts : c.hosts-hosts.result.now ≡ (calls.seen c.args.carrier.now).hosts = c.hosts-hosts.ensures.value ∙ grew.hosts in
    let now : c.hosts.result.now ≡ (calls.seen c.args.carrier.now).hosts = c.hosts.ensures.value ∙ c.loop-index.invariant.grew.hosts in
    let there : c.loop-index.index < length (calls.seen c.args.carrier.now).hosts = subst (λ hs. c.loop-index.index < length hs) hosts c.loop-index-test.true in
    let is : c.index-hosts-index.result ≡ get_or (calls.seen c.args.carrier.now).hosts c.loop-index.index c.index-hosts-index.result = subst (λ hs. c.index-hosts-index.result ≡ get_or hs c.loop-index.index c.index-hosts-index.result) now c.index-hosts-index.is in
    one_turned calls c.args.carrier.now c.loop-index.carrier c.take_all.new.carrier c.loop-index.index c.index-hosts-index.result there is
    c.loop-index.invariant c.in_ok-take_all.ensures.takings c.in_ok-take_all.ensures.grew

pub returns-in_err-take_all-clause-round : goal.returns-in_err-take_all-clause-round
returns-in_err-take_all-clause-round g c =
    let calls : Calls g.row.C.Denot = g.C.Carrier.calls in
    let grew = grew_round (calls.seen c.args.carrier.now) c.quiet_round.result (calls.seen c.quiet_round.new.self) c.quiet_round.ensures.shown in
    let hosts : c.hosts-hosts.result.now ≡ (calls.seen c.args.carrier.now).hosts = c.hosts-hosts.ensures.value ∙ grew.hosts in
    let now : c.hosts.result.now ≡ (calls.seen c.args.carrier.now).hosts = c.hosts.ensures.value ∙ c.loop-index.invariant.grew.hosts in
    let there : c.loop-index.index < length (calls.seen c.args.carrier.now).hosts = subst (λ hs. c.loop-index.index < length hs) hosts c.loop-index-test.true in
    let is : c.index-hosts-index.result ≡ get_or (calls.seen c.args.carrier.now).hosts c.loop-index.index c.index-hosts-index.result = subst (λ hs. c.index-hosts-index.result ≡ get_or hs c.loop-index.index c.index-hosts-index.result) now c.index-hosts-index.is in
    let same : c.from_residual-in_err-take_all.result ≡ Err c.in_err-take_all.field-0.0 = search rules in
    subst (λ r. Round calls c.args.carrier.now r c.take_all.new.carrier) (sym same)
    (turn_ends calls c.args.carrier.now c.loop-index.carrier c.take_all.new.carrier c.loop-index.index c.index-hosts-index.result c.in_err-take_all.field-0.0 there is c.loop-index.invariant c.in_err-take_all.ensures.takings)

pub returns-in_err-take_all-clause-grew : goal.returns-in_err-take_all-clause-grew
returns-in_err-take_all-clause-grew g c =
    let calls : Calls g.row.C.Denot = g.C.Carrier.calls in
    grew_more (calls.seen c.args.carrier.now) (calls.seen c.loop-index.carrier) (calls.seen c.take_all.new.carrier) c.loop-index.invariant.grew c.in_err-take_all.ensures.grew

pub returns-clause-round : goal.returns-clause-round
returns-clause-round g c =
    let calls : Calls g.row.C.Denot = g.C.Carrier.calls in
    let grew = grew_round (calls.seen c.args.carrier.now) c.quiet_round.result (calls.seen c.quiet_round.new.self) c.quiet_round.ensures.shown in
    let hosts : c.hosts-hosts.result.now ≡ (calls.seen c.args.carrier.now).hosts = c.hosts-hosts.ensures.value ∙ grew.hosts in
    all_turned calls c.args.carrier.now c.loop-index.carrier c.loop-index.index (subst (λ hs. length hs ≤ c.loop-index.index) hosts c.loop-index-test.false) c.loop-index.invariant
