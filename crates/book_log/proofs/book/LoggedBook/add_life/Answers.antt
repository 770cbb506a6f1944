use Rattle.book_log.proofs.Books.{life_added}
use Rattle.book_log.proofs.book.LoggedBook.add_life.Goals as goal

pub returns : goal.returns
returns c = life_added c.self.inside.crossings.items c.self.inside.lives.items c.push-2.new.self.items c.self.inside.fates.items c.push.new.self.items c.self.inside.handed.items c.args.life c.args.fate c.args.self.now c.self.invariant
    c.in-Ok.ensures.items c.in_ok-push.ensures.items c.self.view_is
