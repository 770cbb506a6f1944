use Rattle.std.proofs.Common.{◌<◌, ◌^◌, ◌≡◌, ◌∙◌, ℕ, Err, arith, length, rules, subst, sym, vec_len}
use Rattle.book_log.specs.Steps.{FitsAfter}
use Rattle.book_log.specs.declared.fault.LogFault.TheVariants as fault
use Rattle.book_log.proofs.Networks.{fault_fits, is_fault, is_log, ran_out_named}
use Rattle.book_log.proofs.read.read_log.Goals as goal

pub returns-in-Ok : goal.returns-in-Ok
returns-in-Ok c =
    is_log c.args.text.now c.in_ok-strangers.left.now c.in_ok-strangers.strangers.items c.in-Ok.book
    c.in_ok-strangers.ensures.names c.in-Ok.ensures

pub fault_after-requires : goal.fault_after-requires
fault_after-requires c =
    let short : length c.args.text.now < 2 ^ 63 = search rules in
    let long : vec_len c.in_ok-strangers.strangers ≡ length c.in_ok-strangers.strangers.items =
    omega (arith, c.in_ok-strangers.strangers.ok.0) in
    subst (λ (n : ℕ). FitsAfter n c.in-Err.fault) (sym (c.len.ensures ∙ long))
    (fault_fits c.args.text.now c.in_ok-strangers.left.now c.in_ok-strangers.strangers.items c.in-Err.fault short c.in_ok-strangers.ensures.names c.in-Err.ensures)

pub returns-in-Err : goal.returns-in-Err
returns-in-Err c =
    let long : vec_len c.in_ok-strangers.strangers ≡ length c.in_ok-strangers.strangers.items =
    omega (arith, c.in_ok-strangers.strangers.ok.0) in
    rw (c.fault_after.ensures, c.len.ensures, long)
    (is_fault c.args.text.now c.in_ok-strangers.left.now c.in_ok-strangers.strangers.items c.in-Err.fault c.in_ok-strangers.ensures.names c.in-Err.ensures)

pub returns-in_err-strangers : goal.returns-in_err-strangers
returns-in_err-strangers c =
    let same : c.from_residual.result ≡ Err fault.OutOfMemory = search rules in
    rw same (ran_out_named c.args.text.now c.in_err-strangers.ensures.memory)
