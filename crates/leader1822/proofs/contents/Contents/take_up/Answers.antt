use Rattle.leader1822.proofs.Common.{Host, same_host, Held}
use Rattle.std.proofs.Common.{◌≡◌, List, rules, not, filter, reverse, ap, ◌∙◌}
use Rattle.std.proofs.lemmas.Fn.{filter_same}
use Rattle.leader1822.proofs.contents.Contents.take_up.Goals as goal

pub returns : goal.returns
returns c =
    let fewer : c.retain.new.self.items ≡ filter (λ g. not (same_host c.args.host.now g)) c.self.inside.down.items =
    filter_same _ (λ (x : Host). not (same_host c.args.host.now x)) _ (λ x b f' k. search rules) _ _ c.retain.ensures.filtered in
    let down_as : Held → List Host → Held = λ h xs. record h { boxes = record h.boxes { down = xs } } in
    ap (λ xs. down_as (record { boxes = record { hosts = c.self.inside.hosts; down = xs; messages = c.self.inside.messages; answers = c.self.inside.answers; log = reverse c.self.inside.log.items; stopped = c.self.inside.stopped }; flows = c.self.inside.flows }) xs) fewer
    ∙ ap (λ h. down_as h (filter (λ g. not (same_host c.args.host.now g)) h.boxes.down)) c.self.view_is
