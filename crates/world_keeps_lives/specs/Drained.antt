-- What a sending life has sent once its CLS is queued (NIC 8246, CLS).
use Rattle.std.specs.Prelude.{◌≡◌, Bool, false, true, List, [], ◌∷◌, ◌++◌}
use Rattle.std.specs.List.{Contains}
use Rattle.host_pairs.specs.Entries.{has_cls}
use Rattle.promise.specs.Safe.{own_request, sends}
use Rattle.net_sim.specs.Story.{Moment, program}
use Rattle.net_sim.specs.Told.{kept_in}
use Rattle.promise.specs.declared.life.Life.{Life}
use Rattle.world_keeps_lives.specs.Lives.{HasOpenEnd}

-- a sending life isn't over, its end's CLS is queued or has gone out, and the partner's CLS wasn't taken before
pub record ClosesFirst (moments : List Moment) (sender : Life) : Type 0 where
  pub goes : sender.ended ≡ false
  pub sending : sends sender ≡ true
  pub end : HasOpenEnd (program sender.host moments) sender
  pub closed : has_cls end.end.closing ≡ true
  pub unheard : end.end.partner_closed ≡ false

-- at some moment up to now it was so of this life, which may be over since. The lives after some moments are given
pub record ClosedFirst (lives_in : List Moment → List Life) (moments : List Moment) (life : Life) : Type 0 where
  pub later : List Moment
  pub earlier : List Moment
  pub is : moments ≡ later ++ earlier
  pub sender : Life
  pub there : Contains (lives_in earlier) sender
  pub first : ClosesFirst earlier sender
  pub same : own_request life ≡ own_request sender

-- each such life has sent all that was handed over in it
abbrev pub AllSent : (List Moment → List Life) → List Moment → List Life → List (List Bool) → Type 0
AllSent lives_in moments [] handed = Unit {0}
AllSent lives_in moments (x ∷ lives) [] = ⊥
AllSent lives_in moments (x ∷ lives) (t ∷ handed) =
    (ClosedFirst lives_in moments x → x.bits ≡ t) × AllSent lives_in moments lives handed

-- the lives of a book all of whose hosts run the program
abbrev pub all_lives : List Moment → List Life
all_lives moments = (kept_in moments).book.lives

-- so it is at every moment
abbrev pub AllDrained : List Moment → Type 0
AllDrained moments = (later earlier : List Moment) → moments ≡ later ++ earlier →
    AllSent all_lives earlier (kept_in earlier).book.lives (kept_in earlier).handed
