-- A host that leaves, or has left: its lives with the peer end, where they do nothing else and no new one begins.
use Rattle.world_keeps_streams.proofs.Common.{◌≡◌, ◌⊎◌, inl, inr, Bool, true, false, List, ◌∷◌, map, ap, sym, subst, ◌∙◌, Host, life_ended, Moment, events_of, Network, AreOurs}
use Rattle.reset_law.specs.Stays as stay
use Rattle.promise.specs.declared.life.Life.{Life}
use Rattle.world_keeps_streams.proofs.Lives.Lists.{Grown, IsOf, grown, of_left, of_map}
use Rattle.world_keeps_streams.proofs.Lives.Left.{over_when_left}
use Rattle.world_keeps_streams.proofs.Requests.Sides.{Lawful, lives_in, below}
use Rattle.world_keeps_streams.proofs.Books.Whole.{Away}

with_end : Life → Bool → Life
with_end x v = record x { ended = v }

ended_same : (x : Life) → x.ended ≡ true → x ≡ life_ended x
unfolding with_end
ended_same x e = ap (with_end x) e

module _ (hosts : Network) (h p : Host) (ours : AreOurs hosts h p) (y : Moment) (ms : List Moment) (l : Lawful hosts (y ∷ ms)) (left : stay.stays h p (events_of (y ∷ ms)) ≡ false)
    (none : (x : Life) → IsOf x (grown y ms).more → x.host ≡ h → x.peer ≡ p → ⊥) where
  -- each of its lives stays as it is, or ends
  pub away : ((x : Life) → IsOf x (lives_in ms) → x.host ≡ h → x.peer ≡ p → ((grown y ms).change x ≡ x) ⊎ ((grown y ms).change x ≡ life_ended x)) → Away h p (lives_in ms) (lives_in (y ∷ ms))
  away quiet =
      let g : Grown (lives_in ms) (lives_in (y ∷ ms)) = grown y ms in
      record {
        change = (grown y ms).change;
        more = (grown y ms).more;
        is = (grown y ms).is;
        names = λ x. (((grown y ms).names x).host, ((grown y ms).names x).peer);
        over = λ x i f k. by x i f k (quiet x i f k);
        none = none;
      } where
        there : (x : Life) → IsOf x (lives_in ms) → IsOf ((grown y ms).change x) (lives_in (y ∷ ms))
        there x i = subst (λ (v : List Life). IsOf ((grown y ms).change x) v) (sym (grown y ms).is) (of_left ((grown y ms).change x) (map (grown y ms).change (lives_in ms)) (grown y ms).more (of_map (grown y ms).change x (lives_in ms) i))

        over_now : (x : Life) → IsOf x (lives_in ms) → x.host ≡ h → x.peer ≡ p → ((grown y ms).change x).ended ≡ true
        over_now x i f k = over_when_left hosts (y ∷ ms) l h p ours left ((grown y ms).change x) (there x i) (((grown y ms).names x).host ∙ f) (((grown y ms).names x).peer ∙ k)

        by : (x : Life) → IsOf x (lives_in ms) → x.host ≡ h → x.peer ≡ p → ((grown y ms).change x ≡ x) ⊎ ((grown y ms).change x ≡ life_ended x) → (grown y ms).change x ≡ life_ended x
        by x i f k (inl same) = same ∙ ended_same x (ap (λ (v : Life). v.ended) (sym same) ∙ over_now x i f k)
        by x i f k (inr over) = over

  -- where it had left before, they had all ended
  pub away_still : stay.stays h p (events_of ms) ≡ false → Away h p (lives_in ms) (lives_in (y ∷ ms))
  away_still before = away (λ x i f k. inl ((grown y ms).still x (over_when_left hosts ms (below hosts y ms l) h p ours before x i f k)))
