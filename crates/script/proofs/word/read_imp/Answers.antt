use Rattle.script.proofs.Places.{imp_read}
use Rattle.script.proofs.word.read_imp.Goals as goal

pub returns : goal.returns
returns c = imp_read c.args.word.now c.in_ok-read_octet.field-0 c.new.result c.in_ok-read_octet.ensures.0 c.in_ok-read_octet.ensures.1 c.new.ensures
