-- Which lives a contact has reset, and where these and the others are over. No public clause cites this file.
use Rattle.std.specs.Prelude.{◌≡◌, ℕ, ◌<◌, ◌≤◌, ◌&&◌, nat_lt, not, Bool, true, false, if◌then◌else◌, List, [], ◌∷◌}
use Rattle.std.specs.Prelude.{length, Option, Some, None}
use Rattle.std.specs.FinMap as map
use Rattle.interface.specs.declared.crossing.Crossing.{Crossing}
use Rattle.promise.specs.Ends.{Stage, course, stage}
use Rattle.promise.specs.Fates.{IsBeside}
use Rattle.promise.specs.declared.life.Fate.{Fate}
use Rattle.promise.specs.declared.life.Fate.TheVariants as fate
use Rattle.promise.specs.declared.life.Life.{Life}
use Rattle.book_judge.specs.Fates.{cut_at, over_at, was_contacted}
use Rattle.book_judge.specs.Inside.Begins.{key}
use Rattle.book_judge.specs.Inside.Deeds.{Pace, after, begun_by, begun_of, end_after, opening, pace_of}
use Rattle.book_judge.specs.Inside.Keys.{key_cmp}
use Rattle.book_judge.specs.declared.fates.contacts.Said.{Said}
use Rattle.book_judge.specs.declared.fates.deeds.Act.{Act}
use Rattle.book_judge.specs.declared.fates.deeds.Act.TheVariants as act
use Rattle.book_judge.specs.declared.fates.deeds.Deed.{Deed}
use Rattle.book_judge.specs.declared.fates.key_map.Key.{Key}

-- ---- a life

abbrev pub is_reset : Fate → Bool
is_reset fate.Open = false
is_reset fate.Closing = false
is_reset fate.Closed = false
is_reset fate.Ended = false
is_reset fate.Reset = true
is_reset fate.Stopped = false

-- deeds without CLS: by these a life is over where its connections are cut
abbrev pub is_open : Act → Bool
is_open (act.Closes comes own foreign) = false
is_open a = true

abbrev pub but_closes : List Deed → List Deed
but_closes [] = []
but_closes (d ∷ deeds) = if is_open d.act then d ∷ but_closes deeds else but_closes deeds

-- whether a contact reset a life with this fate, and where its connections are cut and it is over. Of one that what
-- crossed reset nothing is said
abbrev pub said_at : ℕ → ℕ → Stage → Fate → Option Said
said_at all cut s f =
    if is_reset f && not (was_contacted s) then None
    else Some (record { reset = is_reset f; cut = cut; end = over_at all s })

-- nor of one that hasn't begun, or has no fate
abbrev pub said_begun : ℕ → ℕ → Option Pace → Option Fate → Option Said
said_begun all cut p None = None
said_begun all cut None (Some f) = None
said_begun all cut (Some p) (Some f) = said_at all cut p.0 f

abbrev pub said_after : ℕ → List Deed → Life → Option Fate → Option Said
said_after all deeds x o =
    said_begun all (end_after all (but_closes deeds) x) (begun_of (pace_of (after x deeds opening))) o

-- ---- what is known of hosts and peers

-- by what the ends are found of lives whose connections are cut at one place: of those that a contact reset, or of those
-- that aren't `reset`
abbrev pub ends_key : Life → Bool → ℕ → Key
ends_key x reset cut = key cut x.host x.peer reset 0 0

-- of those that a contact reset the first end is kept, and of the others the last
abbrev pub kept_end : Bool → Option ℕ → ℕ → ℕ
kept_end reset None end = end
kept_end true (Some first) end = if nat_lt end first then end else first
kept_end false (Some last) end = if nat_lt last end then end else last

-- the first that a contact reset ends after the last of the others
abbrev pub is_apart : Bool → Option ℕ → ℕ → Bool
is_apart reset None end = true
is_apart true (Some last) end = nat_lt last end
is_apart false (Some first) end = nat_lt end first

abbrev pub agrees : map.FinMap key_cmp ℕ → Life → Option Said → Bool
agrees ends x None = true
agrees ends x (Some s) = is_apart s.reset (map.get ends (ends_key x (not s.reset) s.cut)) s.end

abbrev pub noted : Life → Option Said → map.FinMap key_cmp ℕ → map.FinMap key_cmp ℕ
noted x None ends = ends
noted x (Some s) ends =
    map.insert ends (ends_key x s.reset s.cut) (kept_end s.reset (map.get ends (ends_key x s.reset s.cut)) s.end)

-- what is said of a life with a fate by what crossed
abbrev pub said_in : List Crossing → Life → Fate → Option Said
said_in log x f =
    said_begun (length log) (cut_at log x) (begun_by (course [] x log).early (stage [] x log)) (Some f)

-- one of these lives is over there, and found by this
pub record IsEnd (log : List Crossing) (lives : List Life) (fates : List Fate) (k : Key) (end : ℕ) : Type 0 where
  pub life : Life
  pub fate_of : Fate
  pub said : Said
  pub beside : IsBeside life fate_of lives fates
  pub is : said_in log life fate_of ≡ Some said
  pub found : ends_key life said.reset said.cut ≡ k
  pub at : said.end ≡ end

-- what is kept is no later than an end, or no earlier
abbrev pub Bounds : Bool → ℕ → ℕ → Type 0
Bounds true first end = first ≤ end
Bounds false last end = end ≤ last

-- of all ends the first or the last is known, and nothing else; and those that a contact reset end after the others
pub record AreNoted (log : List Crossing) (lives : List Life) (fates : List Fate) (ends : map.FinMap key_cmp ℕ)
    : Type 0 where
  pub all : (k : Key) (end : ℕ) → IsEnd log lives fates k end
      → (known : ℕ) × (map.get ends k ≡ Some known) × Bounds k.comes known end
  pub some : (k : Key) (known : ℕ) → map.get ends k ≡ Some known → IsEnd log lives fates k known
  pub apart : (place : ℕ) (x : Life) (first last : ℕ) → map.get ends (ends_key x true place) ≡ Some first
      → map.get ends (ends_key x false place) ≡ Some last → last < first
