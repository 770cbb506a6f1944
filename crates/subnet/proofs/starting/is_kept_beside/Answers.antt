use Rattle.subnet.proofs.Common.{Option, None, sym, subst, ◌∙◌, get_or_default, State, IsLive}
use Rattle.subnet.proofs.starting.is_kept_beside.Goals as goal

pub is_kept_at-requires : goal.is_kept_at-requires
is_kept_at-requires c =
    subst (λ (o : Option State). IsLive c.loop-at.at o) (sym (c.index-imps-at.is ∙ get_or_default c.args.imps.now c.loop-at.at c.index-imps-at.result None c.loop-at-test.true)) (c.requires c.loop-at.at)
