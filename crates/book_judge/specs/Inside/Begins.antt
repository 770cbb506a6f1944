-- How far lives come that begin with requests, by the changes that follow. No public clause cites this file.
use Rattle.std.specs.Prelude.{◌≡◌, ℕ, ◌+◌, ◌==◌, ◌&&◌, ◌||◌, nat_lt, Bool, true, false, if◌then◌else◌, List}
use Rattle.std.specs.Prelude.{[], ◌∷◌, length, Option, Some, None, option_map}
use Rattle.std.specs.FinMap as map
use Rattle.std.specs.Option.{unwrap_or}
use Rattle.promise.specs.Safe.{control_flow}
use Rattle.interface.specs.Host.{Host, same_host}
use Rattle.promise.specs.declared.life.Life.{Life}
use Rattle.promise.specs.Ends.{Closed, Dropped, Going, Over, Stage, Stopped}
use Rattle.book_judge.specs.Inside.Deeds.{Pace, after, begun_of, opening, pace_of}
use Rattle.book_judge.specs.declared.fates.Courses.{Courses}
use Rattle.book_judge.specs.declared.fates.begins.Ahead.{Ahead}
use Rattle.book_judge.specs.declared.fates.begins.Begin.{Begin}
use Rattle.book_judge.specs.declared.fates.begins.Firsts.{Firsts}
use Rattle.book_judge.specs.declared.fates.begins.Known.{Known}
use Rattle.book_judge.specs.declared.fates.begins.Reached.{Reached}
use Rattle.book_judge.specs.declared.fates.begins.Reached.TheVariants as reached
use Rattle.book_judge.specs.declared.fates.changes.Change.{Change}
use Rattle.book_judge.specs.declared.fates.changes.Turn.{Turn}
use Rattle.book_judge.specs.declared.fates.changes.Turn.TheVariants as turn
use Rattle.book_judge.specs.declared.fates.key_map.Key.{Key}
use Rattle.book_judge.specs.declared.fates.deeds.Deed.{Deed}
use Rattle.book_judge.specs.Inside.Changes.{changes_in, number_at, owes_never}
use Rattle.book_judge.specs.Inside.Keys.{key_cmp, same_key}

abbrev pub key : ℕ → Host → Host → Bool → ℕ → ℕ → Key
key place h peer comes own foreign =
    record { place = place; host = h; peer = peer; comes = comes; own = own; foreign = foreign }

-- ---- what comes first

-- how many changes are left from the first one on that is so, and 0 where none is
abbrev pub closes_at : Key → Change → Turn → Bool
closes_at k c (turn.Closes comes own foreign) = same_key k (key 0 c.host c.peer comes own foreign)
closes_at k c t = false

abbrev pub first_close : Key → List Change → ℕ
first_close k [] = 0
first_close k (c ∷ changes) = if closes_at k c c.turn then 1 + length changes else first_close k changes

abbrev pub drops_at : Host → Host → Change → Turn → Bool
drops_at h peer c turn.Drops = same_host h c.host && same_host peer c.peer
drops_at h peer c t = false

abbrev pub first_drop : Host → Host → List Change → ℕ
first_drop h peer [] = 0
first_drop h peer (c ∷ changes) = if drops_at h peer c c.turn then 1 + length changes else first_drop h peer changes

abbrev pub stops_at : Host → Change → Turn → Bool
stops_at h c turn.Stops = same_host h c.host
stops_at h c t = false

abbrev pub first_stop : Host → List Change → ℕ
first_stop h [] = 0
first_stop h (c ∷ changes) = if stops_at h c c.turn then 1 + length changes else first_stop h changes

-- ---- what comes first after a request

-- of one with these sockets that comes before these changes
abbrev pub firsts_from : Host → Host → ℕ → ℕ → List Change → Firsts
firsts_from h peer socket foreign changes = record {
  own = first_close (key 0 h peer false socket foreign) changes;
  partner = first_close (key 0 h peer true foreign socket) changes;
  drop = first_drop h peer changes;
  stop = first_stop h changes;
}

-- and with this key
abbrev pub firsts_with : Key → List Change → Firsts
firsts_with k changes =
    if k.comes then firsts_from k.host k.peer k.foreign k.own changes else firsts_from k.host k.peer k.own k.foreign
    changes

-- the first request with a key
abbrev pub asks_at : Key → Change → Turn → Bool
asks_at k c (turn.Asks comes own foreign) = same_key k (key c.place c.host c.peer comes own foreign)
asks_at k c t = false

abbrev pub first_begin : Key → List Change → Option Begin
first_begin k [] = None
first_begin k (c ∷ changes) =
    if asks_at k c c.turn then Some
    (record { rest = 1 + length changes; firsts = firsts_with k changes }) else first_begin k changes

-- ---- what is known of that

abbrev pub closed_at : map.FinMap key_cmp ℕ → Key → ℕ
closed_at closes k = unwrap_or (map.get closes k) 0

abbrev pub begin_at : Ahead → Key → Option Begin
begin_at a k = map.get a.begins k

abbrev pub firsts_at : Ahead → Host → Host → ℕ → ℕ → Firsts
firsts_at a h peer socket foreign = record {
  own = closed_at a.closes (key 0 h peer false socket foreign);
  partner = closed_at a.closes (key 0 h peer true foreign socket);
  drop = number_at a.drops (control_flow h peer);
  stop = number_at a.stops (control_flow h h);
}

abbrev pub firsts_by : Ahead → Key → Firsts
firsts_by a k =
    if k.comes then firsts_at a k.host k.peer k.foreign k.own else firsts_at a k.host k.peer k.own k.foreign

abbrev pub ahead_by : ℕ → Change → Turn → Ahead → Ahead
ahead_by rest c (turn.Asks comes own foreign) a =
    record a {
      begins = map.insert a.begins (key c.place c.host c.peer comes own foreign)
          (record { rest = rest; firsts = firsts_by a (key c.place c.host c.peer comes own foreign) });
    }
ahead_by rest c (turn.Closes comes own foreign) a =
    record a { closes = map.insert a.closes (key 0 c.host c.peer comes own foreign) rest }
ahead_by rest c turn.Drops a = record a { drops = map.insert a.drops (control_flow c.host c.peer) rest }
ahead_by rest c turn.Stops a = record a { stops = map.insert a.stops (control_flow c.host c.host) rest }

abbrev pub ahead_once : ℕ → Change → Ahead → Ahead
ahead_once rest c a = ahead_by rest c c.turn a

-- so it is of all changes
pub record IsAhead (changes : List Change) (a : Ahead) : Type 0 where
  pub closes : (k : Key) → closed_at a.closes k ≡ first_close k changes
  pub drops : (h peer : Host) → number_at a.drops (control_flow h peer) ≡ first_drop h peer changes
  pub stops : (h : Host) → number_at a.stops (control_flow h h) ≡ first_stop h changes
  pub begins : (k : Key) → begin_at a k ≡ first_begin k changes

-- ---- lives

-- the request of a life that its host takes, or sends
abbrev pub ask_key : Life → Bool → Key
ask_key x true = key x.partner_stamp x.host x.peer true x.foreign x.socket
ask_key x false = key x.own_stamp x.host x.peer false x.socket x.foreign

-- ---- how far it comes

-- what comes before both of two others
abbrev pub is_before : ℕ → ℕ → ℕ → Bool
is_before n drop stop = nat_lt drop n && nat_lt stop n

-- where it is over, as many changes are left with the one that ended it as said here
abbrev pub cut_from : Firsts → Bool → Bool → Reached
cut_from e own partner =
    if nat_lt e.stop e.drop then reached.Dropped e.drop
    else if nat_lt 0 e.stop then reached.Stopped e.stop
    else reached.Going own partner

abbrev pub closed_from : Firsts → Reached
closed_from e = if nat_lt e.partner e.own then reached.Closed true e.partner else reached.Closed false e.own

-- by which of its CLS cross before it is cut
abbrev pub reached_if : Firsts → Bool → Bool → Reached
reached_if e own partner = if own && partner then closed_from e else cut_from e own partner

abbrev pub reached_from : Firsts → Reached
reached_from e = reached_if e (is_before e.own e.drop e.stop) (is_before e.partner e.drop e.stop)

-- something that ends it comes before the other request, with which this many are left
abbrev pub ends_before : ℕ → Firsts → Bool
ends_before rest e = nat_lt rest e.own || (nat_lt rest e.partner || (nat_lt rest e.drop || nat_lt rest e.stop))

-- a life begins with the second of its two requests
abbrev pub known_two : Begin → Begin → Known
known_two first second =
    record { reached = reached_from second.firsts; early = ends_before second.rest first.firsts }

abbrev pub known_by : Option Begin → Option Begin → Option Known
known_by None b = None
known_by (Some a) None = None
known_by (Some a) (Some b) = Some (if nat_lt a.rest b.rest then known_two b a else known_two a b)

-- ---- in terms of stages

-- where the change crossed with which this many are left, and 0 where there is none
abbrev pub place_at : List Change → ℕ → ℕ
place_at [] n = 0
place_at (c ∷ changes) n = if n == 1 + length changes then c.place else place_at changes n

abbrev pub stage_of : (ℕ → ℕ) → Reached → Stage
stage_of at (reached.Going own partner) = Going own partner
stage_of at (reached.Dropped rest) = Over Dropped (at rest)
stage_of at (reached.Stopped rest) = Over Stopped (at rest)
stage_of at (reached.Closed own_first rest) = Over (Closed own_first) (at rest)

abbrev pub pace_at : (ℕ → ℕ) → Known → Pace
pace_at at k = (stage_of at k.reached, k.early)

-- ---- what is known of a log

-- its changes, and what comes first of them
abbrev pub AreCourses : List Deed → Courses → Type 0
AreCourses deeds c = (c.changes.items ≡ changes_in owes_never deeds) × IsAhead c.changes.items c.ahead

-- what is known of a life is how far it is after deeds
abbrev pub IsKnown : List Deed → Life → Option Known → Type 0
IsKnown deeds x known =
    option_map (pace_at (place_at (changes_in owes_never deeds))) known ≡ begun_of (pace_of (after x deeds opening))
