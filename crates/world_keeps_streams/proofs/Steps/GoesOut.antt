-- What a host that doesn't stay leaves in its boxes; and what a host that stays knows of them.
use Rattle.world_keeps_streams.proofs.Common.{◌≡◌, ◌⊎◌, inl, inr, ℕ, Bool, true, false, List, ◌++◌, ap, sym, subst, ◌∙◌, Host, Command, Stream, is_busy, IsTelling, stays_ready, pair_with, Moment, IsStory, events_of, program, story_agrees, Free, Joint, Lies, Party, Post, Steps, AreOurs, Network}
use Rattle.reset_law.specs.Boxes.{boxes, Box, Empty}
use Rattle.reset_law.specs.Runs.{IsRun}
use Rattle.reset_law.specs.Stays as stay
use Rattle.world_keeps_streams.proofs.Steps.Held.{Acted, acted_out, side}
use Rattle.world_keeps_streams.proofs.Steps.Joined.{commands_in, post_in}
use Rattle.world_keeps_streams.proofs.Stays.Resets.{box_busy, up_ready}

-- ---- phases

-- where a link is free by the program nothing is outstanding
pub box_is_free : (hosts : Network) (h p : Host) → AreOurs hosts h p → (moments : List Moment) → IsRun hosts (events_of moments) → IsStory hosts moments → stay.stays h p (events_of moments) ≡ true
    → (l : ℕ) → is_busy (pair_with p (program h moments).peers).busy l ≡ false → boxes h p (events_of moments) l ≡ Empty
box_is_free hosts h p ours moments run story s l free =
    box_busy hosts (events_of moments) run h p ours (up_ready hosts (events_of moments) run h p ours (stays_ready (events_of moments) h p s))
    (pair_with p (program h moments).peers) (story_agrees hosts moments h p ours story) l free

-- ---- boxes of a host that has left

-- a message of it is gone, or is as it was
abbrev pub IsCleared : Box → Box → Type 0
IsCleared old new = (new ≡ old) ⊎ (new ≡ Empty)

module _ (number other : ℕ → ℕ → ℕ → ℕ) (tells : IsTelling number) (others : IsTelling other) (link : ℕ) (steps : Steps number other tells others link) (h p : Host) (moments : List Moment) (b : Party) (x y : Stream) (left : stay.stays h p (events_of moments) ≡ false) where
  abbrev OutJoint : List Command → Post → Type 0
  OutJoint pending post = Joint number other tells others link x y (side h p moments pending post) b

  posted_out : (pending : List Command) (post post' : Post) → OutJoint pending post → (post' ≡ post) ⊎ ((text : List Bool) → post' ≡ Lies text → ⊥) → OutJoint pending post'
  posted_out pending post post' j (inl is) = subst (λ (o : Post). OutJoint pending o) (sym is) j
  posted_out pending post post' j (inr none) = steps.gone_post x y (side h p moments pending post) b j left post' none

  cleared_post : (old new : Box) → IsCleared old new → (post_in new ≡ post_in old) ⊎ ((text : List Bool) → post_in new ≡ Lies text → ⊥)
  cleared_post old new (inl is) = inl (ap post_in is)
  cleared_post old new (inr is) = inr (λ text e. absurd (let no : Free ≡ Lies text = sym (ap post_in is) ∙ e in cc))

  pub out_cleared : (old new old_link new_link : Box) (rest : List Command) → IsCleared old new → IsCleared old_link new_link → OutJoint (commands_in old ++ rest) (post_in old_link)
      → Acted number other tells others link h p moments (commands_in new) (post_in new_link) b x y
  out_cleared old new old_link new_link rest (inl is) c j =
      acted_out number other tells others link h p moments _ rest _ b x y left
      (subst (λ (k : Box). OutJoint (commands_in k ++ rest) (post_in new_link)) (sym is) (posted_out _ _ _ j (cleared_post old_link new_link c)))
  out_cleared old new old_link new_link rest (inr is) c j =
      acted_out number other tells others link h p moments _ _ _ b x y left
      (subst (λ (k : Box). OutJoint (commands_in k ++ (commands_in old ++ rest)) (post_in new_link)) (sym is) (posted_out _ _ _ j (cleared_post old_link new_link c)))
