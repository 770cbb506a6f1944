-- Which hosts there are.
use Rattle.book_log.proofs.Common.{◌≤◌, refl, Host, IsHost}
use Rattle.std.proofs.lemmas.Bool.{le-leb}

pub host_there : (h : Host) → 1 ≤ h.imp → h.imp ≤ 63 → h.host ≤ 3 → IsHost h
host_there h from to few = rw (le-leb h.host 3 few, le-leb 1 h.imp from, le-leb h.imp 63 to) refl
