-- What a world keeps of its hosts: the crossings, the notices to each user, the contacts, what services reported, and a life for
-- each opened end of a connection (NIC 8246).
use Rattle.std.specs.Prelude.{ℕ, ◌+◌, ◌==◌, ◌&&◌, Bool, true, false, not, if◌then◌else◌, List, [], ◌∷◌, ◌++◌, map, length}
use Rattle.interface.specs.Host.{Host, same_host}
use Rattle.interface.specs.declared.crossing.Crossing.{Crossing}
use Rattle.interface.specs.declared.crossing.Crossing.TheVariants as crossing
use Rattle.promise.specs.Book.{Book}
use Rattle.promise.specs.declared.life.Life.{Life}
use Rattle.promise.specs.declared.life.Amount.{Amount}
use Rattle.promise.specs.declared.life.Fate.{Fate}
use Rattle.promise.specs.declared.life.Fate.TheVariants as fate
use Rattle.promise.specs.declared.book.Called.{Called}
use Rattle.host_services.specs.declared.report.Reported.{Reported}
use Rattle.host_pairs.specs.declared.notice.Notice.{Notice}
use Rattle.host_pairs.specs.declared.notice.Notice.TheVariants as notice
use Rattle.sockets.specs.declared.request.Request.{Request}
use Rattle.sockets.specs.declared.request.Request.TheVariants as request

-- ---- lives

abbrev pub nothing : Amount
nothing = record { messages = 0; bits = 0 }

abbrev pub more : ℕ → ℕ → Amount → Amount
more messages bits a = record { messages = a.messages + messages; bits = a.bits + bits }

abbrev pub new_life : Host → ℕ → Host → ℕ → ℕ → ℕ → Life
new_life host socket peer foreign own partner = record {
  host = host;
  socket = socket;
  peer = peer;
  foreign = foreign;
  own_stamp = own;
  partner_stamp = partner;
  bits = [];
  messages = 0;
  granted = nothing;
  returned = nothing;
  ended = false;
}

-- a message more was sent or taken, with these bits
abbrev pub carried : List Bool → Life → Life
carried bits x = record x { bits = x.bits ++ bits; messages = x.messages + 1 }

abbrev pub granted : ℕ → ℕ → Life → Life
granted messages bits x = record x { granted = more messages bits x.granted }

abbrev pub returned : ℕ → ℕ → Life → Life
returned messages bits x = record x { returned = more messages bits x.returned }

abbrev pub life_ended : Life → Life
life_ended x = record x { ended = true }

-- the life of a host's socket: the one there that hasn't ended
abbrev pub lives_at : Host → ℕ → Life → Bool
lives_at h socket x = same_host h x.host && x.socket == socket && not x.ended

-- the life of this end
abbrev pub lives_between : Host → ℕ → Host → ℕ → Life → Bool
lives_between h socket peer foreign x = lives_at h socket x && same_host peer x.peer && x.foreign == foreign

-- a life of a host with this peer
abbrev pub lives_with : Host → Host → Life → Bool
lives_with h peer x = same_host h x.host && same_host peer x.peer && not x.ended

abbrev pub lives_on : Host → Life → Bool
lives_on h x = same_host h x.host && not x.ended

abbrev pub changed_when : Bool → (Life → Life) → Life → Life
changed_when true change x = change x
changed_when false change x = x

abbrev pub where_it : (Life → Bool) → (Life → Life) → List Life → List Life
where_it test change lives = map (λ x. changed_when (test x) change x) lives

-- what a notice of a host does to the lives: one begins when its end is open, and ends when its end does, or when all
-- connections with its peer are gone
abbrev pub lives_told : Host → Notice → List Life → List Life
lives_told h (notice.Opened socket peer foreign own partner) lives = lives ++ new_life h socket peer foreign own partner ∷ []
lives_told h (notice.Ended socket peer foreign) lives = where_it (lives_between h socket peer foreign) life_ended lives
lives_told h (notice.PairReset peer) lives = where_it (lives_with h peer) life_ended lives
lives_told h (notice.Sent socket bits) lives = where_it (lives_at h socket) (carried bits) lives
lives_told h (notice.Arrived socket bits) lives = where_it (lives_at h socket) (carried bits) lives
lives_told h (notice.Returned socket messages bits) lives = where_it (lives_at h socket) (returned messages bits) lives
lives_told h (notice.Ready peer) lives = lives
lives_told h (notice.ContactFailed peer) lives = lives
lives_told h (notice.Interrupt socket) lives = lives
lives_told h (notice.Echoed peer octet) lives = lives
lives_told h (notice.RemoteError peer code detail) lives = lives

-- what a user asks for changes the lives by what it grants
abbrev pub lives_asked : Host → Request → List Life → List Life
lives_asked h (request.Grant socket messages bits) lives = where_it (lives_at h socket) (granted messages bits) lives
lives_asked h r lives = lives

-- a host that stops ends its lives
abbrev pub lives_crossed : Crossing → List Life → List Life
lives_crossed (crossing.Down h) lives = where_it (lives_on h) life_ended lives
lives_crossed c lives = lives

-- ---- what was handed over to be sent, a list of bits for each life

abbrev pub handed_to : (Life → Bool) → List Bool → List Life → List (List Bool) → List (List Bool)
handed_to test bits [] handed = handed
handed_to test bits (x ∷ lives) [] = []
handed_to test bits (x ∷ lives) (h ∷ handed) = (if test x then h ++ bits else h) ∷ handed_to test bits lives handed

abbrev pub handed_told : Notice → List (List Bool) → List (List Bool)
handed_told (notice.Opened socket peer foreign own partner) handed = handed ++ [] ∷ []
handed_told n handed = handed

abbrev pub handed_asked : Host → Request → List Life → List (List Bool) → List (List Bool)
handed_asked h (request.Send socket bits) lives handed = handed_to (lives_at h socket) bits lives handed
handed_asked h r lives handed = handed

-- ---- how far the lives are, a fate for each life

abbrev pub fates_where : (Life → Bool) → (Fate → Fate) → List Life → List Fate → List Fate
fates_where test change [] fates = fates
fates_where test change (x ∷ lives) [] = []
fates_where test change (x ∷ lives) (f ∷ fates) = (if test x then change f else f) ∷ fates_where test change lives fates

-- its user closes its end, and it is over by CLS
abbrev pub closing : Fate → Fate
closing fate.Open = fate.Closing
closing f = f

abbrev pub over_by_cls : Fate → Fate
over_by_cls fate.Closing = fate.Closed
over_by_cls f = fate.Ended

abbrev pub fates_told : Host → Notice → List Life → List Fate → List Fate
fates_told h (notice.Opened socket peer foreign own partner) lives fates = fates ++ fate.Open ∷ []
fates_told h (notice.Ended socket peer foreign) lives fates = fates_where (lives_between h socket peer foreign) over_by_cls lives fates
fates_told h (notice.PairReset peer) lives fates = fates_where (lives_with h peer) (λ f. fate.Reset) lives fates
fates_told h n lives fates = fates

abbrev pub fates_asked : Host → Request → List Life → List Fate → List Fate
fates_asked h (request.Close socket) lives fates = fates_where (lives_at h socket) closing lives fates
fates_asked h r lives fates = fates

abbrev pub fates_crossed : Crossing → List Life → List Fate → List Fate
fates_crossed (crossing.Down h) lives fates = fates_where (lives_on h) (λ f. fate.Stopped) lives fates
fates_crossed c lives fates = fates

-- ---- the book

abbrev pub opening_book : Book
opening_book = record { crossings = []; notices = []; contacts = []; reports = []; lives = [] }

-- ---- the book, what was handed over, and how far the lives are, together

-- the book of a world, and for each of its lives the bits that were handed over to be sent in it, and its fate
pub record Kept : Type 0 where
  pub book : Book
  pub handed : List (List Bool)
  pub fates : List Fate

abbrev pub opening_kept : Kept
opening_kept = record { book = opening_book; handed = []; fates = [] }

-- the crossing is in the log, and a host that stops ends its lives
abbrev pub crossed : Crossing → Kept → Kept
crossed c k = record k { book = record k.book { crossings = c ∷ k.book.crossings; lives = lives_crossed c k.book.lives }; fates = fates_crossed c k.book.lives k.fates }

-- several crossings, newest first
abbrev pub all_crossed : List Crossing → Kept → Kept
all_crossed [] k = k
all_crossed (c ∷ cs) k = crossed c (all_crossed cs k)

-- a host gets a notice
abbrev pub book_told : Host → Notice → Kept → Kept
book_told h n k = record {
  book = record k.book { notices = k.book.notices ++ record { host = h; place = length k.book.crossings; notice = n } ∷ []; lives = lives_told h n k.book.lives };
  handed = handed_told n k.handed;
  fates = fates_told h n k.book.lives k.fates;
}

abbrev pub all_told : Host → List Notice → Kept → Kept
all_told h [] k = k
all_told h (n ∷ ns) k = all_told h ns (book_told h n k)

abbrev pub contacts_asked : Host → ℕ → Request → List Called
contacts_asked h place (request.Contact peer) = record { host = h; place = place; peer = peer } ∷ []
contacts_asked h place r = []

-- the user of a host asked for something, and wasn't refused
abbrev pub asked : Host → Request → Kept → Kept
asked h r k = record {
  book = record k.book { contacts = k.book.contacts ++ contacts_asked h (length k.book.crossings) r; lives = lives_asked h r k.book.lives };
  handed = handed_asked h r k.book.lives k.handed;
  fates = fates_asked h r k.book.lives k.fates;
}

-- services of a host asked for all this, one after another, and weren't refused
abbrev pub all_asked : Host → List Request → Kept → Kept
all_asked h [] k = k
all_asked h (r ∷ requests) k = all_asked h requests (asked h r k)

-- and this is what they reported
abbrev pub all_reported : List Reported → Kept → Kept
all_reported reports k = record k { book = record k.book { reports = k.book.reports ++ reports } }
