-- What was heard of two sockets is what was said first.
use Rattle.host_keeps_pairing.proofs.Common.{◌≡◌, ℕ, Bool, List, [], ◌∷◌, ◌++◌, refl, ap, sym, ◌∙◌, append_assoc, Host, Mark}
use Rattle.std.proofs.Common.{zero, suc}
use Rattle.pairing_law.specs.Marks.{IsOlder}
use Rattle.pairing_law.specs.Places.{tagged}
use Rattle.pairing_law.proofs.lemmas.{placed_front}
use Rattle.reset_law.specs.Events.{Event}
use Rattle.reset_law.specs.Runs.{IsRun}
use Rattle.reset_law.specs.Stays as stays
use Rattle.host_keeps_pairing.specs.Spoken.{IsHeardAsSaid, marks_of_text, one_more, spoken_upon, untagged, upon}
use Rattle.reset_law.specs.Network.{AreOurs, Network}

pub untagged_is : (place : ℕ) (text : List Bool) → untagged (tagged place text) ≡ (place, text)
untagged_is zero text = refl
untagged_is (suc p) text = ap one_more (untagged_is p text)

-- a word that continues another
record Above (word under : List Mark) : Type 0 where
  new : List Mark
  is : word ≡ new ++ under

above_self : (word : List Mark) → Above word word
above_self word = record { new = []; is = refl }

above_above : (w v u : List Mark) → Above w v → Above v u → Above w u
above_above w v u h k = record { new = h.new ++ k.new; is = h.is ∙ ap (λ (l : List Mark). h.new ++ l) k.is ∙ sym (append_assoc h.new k.new u) }

upon_above : (ms word : List Mark) → Above (upon ms word) word
upon_above [] word = above_self word
upon_above (m ∷ ms) word = above_above _ _ _ (upon_above ms (m ∷ word)) (record { new = m ∷ []; is = refl })

spoken_above : (own foreign : ℕ) (texts : List (List Bool)) (word : List Mark) → Above (spoken_upon own foreign texts word) word
spoken_above own foreign [] word = above_self word
spoken_above own foreign (text ∷ texts) word =
    above_above _ _ _ (spoken_above own foreign texts (upon (marks_of_text own foreign (untagged text)) word)) (upon_above (marks_of_text own foreign (untagged text)) word)

spoken_append : (own foreign : ℕ) (xs ys : List (List Bool)) (word : List Mark) → spoken_upon own foreign (xs ++ ys) word ≡ spoken_upon own foreign ys (spoken_upon own foreign xs word)
spoken_append own foreign [] ys word = refl
spoken_append own foreign (x ∷ xs) ys word = spoken_append own foreign xs ys (upon (marks_of_text own foreign (untagged x)) word)

-- a prefix of texts says a prefix of what they say
front_spoken : (own foreign : ℕ) (xs ys : List (List Bool)) → stays.IsPrefix xs ys → IsOlder (spoken_upon own foreign xs []) (spoken_upon own foreign ys [])
front_spoken own foreign xs ys front =
    let above : Above (spoken_upon own foreign front.0 (spoken_upon own foreign xs [])) (spoken_upon own foreign xs []) = spoken_above own foreign front.0 _ in
    (above.new, ap (λ (texts : List (List Bool)). spoken_upon own foreign texts []) (sym front.1) ∙ spoken_append own foreign xs _ [] ∙ above.is)

pub heard_older : (hosts : Network) (events : List Event) → IsRun hosts events → (a b : Host) → AreOurs hosts a b → IsHeardAsSaid a b events
heard_older hosts events run a b ours own foreign = front_spoken own foreign _ _ (placed_front hosts events run a b ours 0)
