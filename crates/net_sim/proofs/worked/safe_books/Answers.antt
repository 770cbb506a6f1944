use Rattle.net_sim.proofs.Books.SafeRow.{safe}
use Rattle.net_sim.proofs.worked.safe_books.Goals as goal

pub returns : goal.returns
returns c = safe
