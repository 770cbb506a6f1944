use Rattle.host_keeps_ranges.proofs.Calls.{offer_read}
use Rattle.host_keeps_ranges.proofs.law.reading.Goals as goal

pub returns : goal.returns
returns c = record { again = offer_read }
