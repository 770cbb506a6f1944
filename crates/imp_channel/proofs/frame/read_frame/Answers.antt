use Rattle.std.proofs.lemmas.Result.{err_from_is_err_and}
use Rattle.imp_channel.proofs.FrameLemmas.{read_fault}
use Rattle.imp_channel.proofs.frame.read_frame.Goals as goal

pub returns-in_err-content-clause-exact : goal.returns-in_err-content-clause-exact
returns-in_err-content-clause-exact c =
    let p = err_from_is_err_and c.from_residual.result c.from_residual.ensures.1 in
    rw (p.1, p.2) (read_fault c.args.octets.now c.in_err-content.field-0.0 c.in-len2-up.len_at_least c.in_err-content.ensures.exact)
