use Rattle.command_line.proofs.Common.{Host, is_host, Life, is_among}
use Rattle.std.proofs.Common.{ap, sym, ◌∙◌, List, map}
use Rattle.command_line.specs.Audits.{Layout, layout_of}
use Rattle.command_line.proofs.Verdicts.Judged.{says_of}
use Rattle.command_line.proofs.auditing.judged.Goals as goal

pub judge-requires : goal.judge-requires
judge-requires c =
    c.among.ensures ∙ ap (λ (l : Layout). l.among) c.in_ok-layout.ensures
    ∙ ap (λ (hosts : List Host). (layout_of hosts c.args.log.book).among) (c.deref.ensures.value ∙ sym c.deref-2.ensures.value)
    ∙ ap (λ (xs : List Life). map (λ x. is_among (λ h. is_host c.deref-2.result.now h) x) xs) (sym c.into_lists.ensures.lives)

pub returns : goal.returns
returns c = (
  c.in_ok-layout.ensures ∙ ap (λ (hosts : List Host). layout_of hosts c.args.log.book) c.deref.ensures.value,
  says_of c.args.log.strangers.items c.deref-2.result.now c.args.log.book c.in_ok-found.found
      c.into_lists.result.crossings.items c.into_lists.result.lives.items
      c.into_lists.result.handed.items c.into_lists.result.fates.items c.deref-2.ensures.value
      c.into_lists.ensures.crossings c.into_lists.ensures.lives c.into_lists.ensures.handed
      c.into_lists.ensures.fates c.in_ok-found.ensures,
)
