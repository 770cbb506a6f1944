use Rattle.std.proofs.Common.{arith, get_or, drop, inl, inr, refl}
use Rattle.script.proofs.Short.{no_second_slash, cut_behind, no_host_digit, no_imp_behind, host_behind}
use Rattle.script.proofs.word.read_host.Goals as goal
use Rattle.script.proofs.word.read_host.Goals.{then-word-lt2-via-then-word-lt2, then-word-lt2-via-else-word-lt2+then-word-ne47}

pub returns-then-word-lt2 : goal.returns-then-word-lt2
returns-then-word-lt2 c = elim c.then-word-lt2.branch [
  | then-word-lt2-via-then-word-lt2 w ↦ no_second_slash c.args.word.now (inl w.if-word-lt2.true)
  | then-word-lt2-via-else-word-lt2+then-word-ne47 w ↦ no_second_slash c.args.word.now (inr w.if-word-ne47.true)
]

pub returns-in_err-host : goal.returns-in_err-host
returns-in_err-host c =
    rw c.from_residual.ensures (no_host_digit c.args.word.now (get_or c.args.word.now 0 0) (drop 2 c.args.word.now)
    (cut_behind c.args.word.now (drop 2 c.args.word.now) (omega (arith, c.if-word-lt2.false)) c.if-word-ne47.false refl) c.in_err-host.ensures.octet)

pub returns-in_err-imp : goal.returns-in_err-imp
returns-in_err-imp c =
    rw c.from_residual-in_err-imp.ensures (no_imp_behind c.args.word.now (get_or c.args.word.now 0 0) c.split_at.result.1.now
    (cut_behind c.args.word.now c.split_at.result.1.now (omega (arith, c.if-word-lt2.false)) c.if-word-ne47.false c.split_at.ensures.back) c.in_err-imp.ensures)

pub returns : goal.returns
returns c =
    host_behind c.args.word.now (get_or c.args.word.now 0 0) c.split_at.result.1.now c.in_ok-host.host c.in_ok-imp.imp c.new.result
    (cut_behind c.args.word.now c.split_at.result.1.now (omega (arith, c.if-word-lt2.false)) c.if-word-ne47.false c.split_at.ensures.back)
    c.in_ok-host.ensures.octet.0 c.in_ok-imp.ensures.0 c.in_ok-host.ensures.octet.1 c.in_ok-imp.ensures.1 c.new.ensures
