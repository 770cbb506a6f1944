-- Words for worked rows: a receiving end of a connection, where one message of two bits arrived.
use Rattle.std.specs.Prelude.{true, false, List, [], ◌∷◌}
use Rattle.interface.specs.Host.{Host}
use Rattle.interface.specs.declared.crossing.Crossing.{Crossing}
use Rattle.interface.specs.declared.crossing.Crossing.TheVariants as crossing
use Rattle.interface.specs.declared.message.HostMessage.{HostMessage}
use Rattle.host_pairs.specs.declared.notice.Notice.TheVariants as notice
use Rattle.net_sim.specs.Book.{new_life}
use Rattle.promise.specs.declared.book.Told.{Told}
use Rattle.promise.specs.declared.life.Life.{Life}

abbrev pub here : Host
here = record { imp = 1; host = 0 }

abbrev pub there : Host
there = record { imp = 2; host = 0 }

-- the requests crossed at places 0 and 1, and the message at place 2: newest first, whatever is in them
abbrev pub took_one : HostMessage → List Crossing
took_one m = crossing.In m ∷ crossing.In m ∷ crossing.Out m ∷ []

-- the end is open after the second crossing, and the bits are there after the third
abbrev pub told_one : List Told
told_one = record { host = here; place = 2; notice = notice.Opened 16 there 33 0 1 } ∷ record { host = here; place = 3; notice = notice.Arrived 16 (true ∷ false ∷ []) } ∷ []

-- the end's life
abbrev pub life_one : Life
life_one = record (new_life here 16 there 33 0 1) { bits = true ∷ false ∷ []; messages = 1 }
