use Rattle.std.proofs.Common.{reverse, rules, length, ◌≡◌}
use Rattle.book_judge.proofs.Peace.{formed_by}
use Rattle.book_judge.proofs.broken.malformed_at.Goals as goal

pub returns : goal.returns
returns c =
    let counts : length c.args.lives.now ≡ length c.args.handed.now = search rules in
    rw c.unstamped.ensures (formed_by c.in_ok-named.named c.args.lives.now c.args.handed.now (reverse c.args.log.now) counts c.in_ok-named.ensures)
