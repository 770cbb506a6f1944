-- The two hosts of a connection, from contact to contact (NIC 8246, RST: it closes all connections between two hosts).
use Rattle.std.specs.Prelude.{◌≡◌, ℕ, ◌+◌, ◌≤◌, Bool, true, false, List, [], ◌∷◌, Option, Some, if◌then◌else◌}
use Rattle.pairing_law.specs.Marks.{Mark, Ask, Close, IsOlder}
use Rattle.pairing_law.specs.Ends.{End, nothing, MayGo, gone, fits, mark_taken}

-- an opened end: where its own request went out, and where its partner's did
pub record Life : Type 0 where
  pub own : ℕ
  pub partner : ℕ

-- one of the two: its end; whether it stays since both were through a reset, and what it said and heard in its last stay; all the
-- ends that it opened; and a number above the places of all its requests so far
pub record Side : Type 0 where
  pub end : End
  pub stays : Bool
  pub said : List Mark
  pub heard : List Mark
  pub lives : List Life
  pub next : ℕ

abbrev pub opening_side : Side
opening_side = record { end = nothing; stays = false; said = []; heard = []; lives = []; next = 0 }

-- an end opens where its own request has gone out and its partner's was taken
abbrev pub lives_opened : Option ℕ → Option ℕ → List Life → List Life
lives_opened (Some p) (Some q) lives = record { own = p; partner = q } ∷ lives
lives_opened p q lives = lives

abbrev pub lives_gone : Mark → End → List Life → List Life
lives_gone (Ask p) e lives = lives_opened (Some p) e.partner lives
lives_gone Close e lives = lives

abbrev pub lives_taken : Mark → End → List Life → List Life
lives_taken (Ask p) e lives = lives_opened e.asked (Some p) lives
lives_taken Close e lives = lives

-- ---- moves

pub data Move : Type 0 where
  -- what it says goes out
  Say : (mark : Mark) → Move
  -- it takes what its peer said
  Hear : (mark : Mark) → Move
  -- it leaves, and forgets its end: by a contact, a failure, an RST that it takes, or a stop
  Leave : Move

abbrev pub above : Mark → ℕ → ℕ
above (Ask p) next = p + 1
above Close next = next

abbrev pub says : Mark → Side → Side
says m x = record {
  end = gone m x.end;
  stays = x.stays;
  said = if x.stays then m ∷ x.said else x.said;
  heard = x.heard;
  lives = lives_gone m x.end x.lives;
  next = above m x.next;
}

-- a mark that is an error changes nothing
abbrev pub hears : Mark → Side → Side
hears m x = record {
  end = if fits m x.end then mark_taken m x.end else x.end;
  stays = x.stays;
  said = x.said;
  heard = m ∷ x.heard;
  lives = if fits m x.end then lives_taken m x.end x.lives else x.lives;
  next = x.next;
}

abbrev pub leaves : Side → Side
leaves x = record x { end = nothing; stays = false }

abbrev pub moved : Move → Side → Side
moved (Say m) x = says m x
moved (Hear m) x = hears m x
moved Leave x = leaves x

-- ---- what may happen

-- the requests of a host go out one after the other
abbrev pub IsLater : Mark → ℕ → Type 0
IsLater (Ask p) next = next ≤ p
IsLater Close next = Unit {0}

-- a host says what it may. It hears its peer in a stay only, and what it heard there, with this, is what its peer said first:
-- that is what a reset gives
abbrev pub May : Move → Side → Side → Type 0
May (Say m) x peer = MayGo m x.end × IsLater m x.next
May (Hear m) x peer = (x.stays ≡ true) × IsOlder (m ∷ x.heard) peer.said
May Leave x peer = Unit {0}

-- ---- both

pub data Event : Type 0 where
  One : (move : Move) → Event
  Two : (move : Move) → Event
  -- from here on both are through a reset, and stay
  Meet : Event

pub record Both : Type 0 where
  pub one : Side
  pub two : Side

abbrev pub opening_both : Both
opening_both = record { one = opening_side; two = opening_side }

abbrev pub meets : Side → Side
meets x = record x { stays = true; said = []; heard = [] }

abbrev pub happens : Event → Both → Both
happens (One move) b = record { one = moved move b.one; two = b.two }
happens (Two move) b = record { one = b.one; two = moved move b.two }
happens Meet b = record { one = meets b.one; two = meets b.two }

-- the two hosts after a list of events, newest first
abbrev pub both : List Event → Both
both [] = opening_both
both (e ∷ events) = happens e (both events)

-- where they meet neither has said or heard anything since it last left
abbrev pub MayHappen : Event → Both → Type 0
MayHappen (One move) b = May move b.one b.two
MayHappen (Two move) b = May move b.two b.one
MayHappen Meet b = (b.one.end ≡ nothing) × (b.two.end ≡ nothing)

abbrev pub IsRun : List Event → Type 0
IsRun [] = Unit {0}
IsRun (e ∷ events) = MayHappen e (both events) × IsRun events
