use Rattle.std.proofs.Common.{reverse}
use Rattle.book_judge.proofs.Peace.{well_formed}
use Rattle.book_judge.proofs.broken.broken_parts.Goals as goal

pub returns : goal.returns
returns c =
    let log = reverse c.args.log.now in
    record {
      formed = well_formed c.args.names.now c.args.lives.now c.args.handed.now log c.requires.named c.requires.counts.1;
      partners = c.in_ok-partners.ensures log c.requires.named;
      streams = c.unfed-streams.ensures log c.requires.named;
      grants = c.in_ok-grants.ensures;
      sent = c.in_ok-sent.ensures;
      closes = c.lost-closes.ensures log c.requires.named;
    }
