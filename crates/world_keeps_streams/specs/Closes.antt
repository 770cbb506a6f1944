-- What the end of a connection by CLS says to the user who receives (NIC 8246, CLS).
use Rattle.std.specs.Prelude.{◌≡◌, ℕ, Bool, false, true, List, [], ◌∷◌, ◌++◌, Some}
use Rattle.std.specs.List.{Contains}
use Rattle.interface.specs.declared.crossing.Crossing.{Crossing}
use Rattle.promise.specs.Safe.{Match, own_request, receives}
use Rattle.net_sim.specs.Story.{Moment, program}
use Rattle.net_sim.specs.Timeline.{crossings_of}
use Rattle.net_sim.specs.Told.{kept_in}
use Rattle.promise.specs.declared.life.Life.{Life}
use Rattle.world_keeps_lives.specs.Lives.{HasOpenEnd}
use Rattle.world_keeps_streams.specs.Arrivals.{IsUnclosed}

-- a receiving life isn't over, its end has taken the partner's CLS, and none of its host's users has closed it
pub record IsClosedByPartner (moments : List Moment) (receiver : Life) : Type 0 where
  pub there : Contains (kept_in moments).book.lives receiver
  pub receiving : receives receiver ≡ true
  pub goes : receiver.ended ≡ false
  pub end : HasOpenEnd (program receiver.host moments) receiver
  pub closed : end.end.partner_closed ≡ true
  pub link : ℕ
  pub linked : end.end.link ≡ Some link
  pub unclosed : IsUnclosed link moments receiver

-- at some moment up to now it was so of this life, which may be over since
pub record WasClosedByPartner (moments : List Moment) (life : Life) : Type 0 where
  pub there : Contains (kept_in moments).book.lives life
  pub later : List Moment
  pub earlier : List Moment
  pub is : moments ≡ later ++ earlier
  pub receiver : Life
  pub then : IsClosedByPartner earlier receiver
  pub same : own_request life ≡ own_request receiver

-- it took all that the life which it matches sent
abbrev pub TookAll : List Crossing → List Life → Life → Type 0
TookAll log lives receiver = (sender : Life) → Contains lives sender → Match log receiver sender → (receiver.bits ≡ sender.bits) × (receiver.messages ≡ sender.messages)

-- so it is at every moment
abbrev pub AllClose : List Moment → Type 0
AllClose moments =
    (later earlier : List Moment) → moments ≡ later ++ earlier → (receiver : Life) → WasClosedByPartner earlier receiver
    → TookAll (crossings_of earlier) (kept_in earlier).book.lives receiver

-- ---- what was handed over

-- so it was of this receiving life, by the sending life that it matches
pub record WasClosedBy (moments : List Moment) (sender receiver : Life) : Type 0 where
  pub closed : WasClosedByPartner moments receiver
  pub matches : Match (crossings_of moments) receiver sender

-- it took all that was handed over in that life
abbrev pub TookHanded : List Moment → Life → List Life → List (List Bool) → Type 0
TookHanded moments receiver [] handed = Unit {0}
TookHanded moments receiver (x ∷ lives) [] = ⊥
TookHanded moments receiver (x ∷ lives) (t ∷ handed) =
    (WasClosedBy moments x receiver → receiver.bits ≡ t) × TookHanded moments receiver lives handed

-- so it is for all lives of a book, at every moment
abbrev pub EachHanded : List Moment → Type 0
EachHanded moments = (receiver : Life) → TookHanded moments receiver (kept_in moments).book.lives (kept_in moments).handed

abbrev pub AllHanded : List Moment → Type 0
AllHanded moments = (later earlier : List Moment) → moments ≡ later ++ earlier → EachHanded earlier
