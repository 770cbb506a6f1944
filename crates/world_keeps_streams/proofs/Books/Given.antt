-- What a safe book asks of two hosts, but for their lives: requests and streams.
use Rattle.world_keeps_streams.proofs.Common.{◌≡◌, ℕ, suc, ◌≤◌, true, false, List, [], ◌∷◌, refl, Host, numbered, receiver_now, sender_now, numbered_tells, Moment, event_in, events_of, own_calls, numbered_by_peer, Network, AreOurs}
use Rattle.reset_law.specs.Stays as stay
use Rattle.promise.specs.Safe.{receives, sends}
use Rattle.promise.specs.declared.life.Life.{Life}
use Rattle.world_keeps_streams.proofs.Lives.Lists.{IsOf}
use Rattle.world_keeps_streams.proofs.Requests.Now.{Counts}
use Rattle.world_keeps_streams.proofs.Requests.Placed.{heard_law_on, matched_law, own_law_on}
use Rattle.world_keeps_streams.proofs.Books.Run.{Given}
use Rattle.world_keeps_streams.proofs.Requests.Sides.{Heard, Lawful, Own, lives_in}
use Rattle.world_keeps_streams.proofs.Books.Starts.{starts}
use Rattle.world_keeps_streams.proofs.Books.Whole.{present_in, Away, Receives, Sends, HasReceives, HasSends}
use Rattle.world_keeps_streams.proofs.Heard.Calls.{heard_calls}
use Rattle.world_keeps_streams.proofs.Steps.Joined.{Joined, Keeps}
use Rattle.world_keeps_streams.proofs.Steps.JoinedAll as joint
use Rattle.world_keeps_streams.proofs.Steps.Joining.{Goes}
use Rattle.world_keeps_streams.proofs.Stays.Meets.{meets}
use Rattle.world_keeps_streams.proofs.Steps.Streams.{all_allowed}
use Rattle.world_keeps_streams.proofs.Facts.{no_zero}

-- ---- the requests of ends that are there

-- a program heard as many CLS as it has seen connections go, and one more where the end that is there heard one
pub counts : (hosts : Network) (ms : List Moment) → Lawful hosts ms → (a b : Host) → AreOurs hosts a b → Counts a b ms
counts hosts ms l a b ours = heard_calls numbered numbered_tells 1 hosts l.0 ms l.1 l.2 a b ours (all_allowed hosts l.0 1 refl a b ours ms l.1 l.2)

-- ---- the streams

pub goes_on : (hosts : Network) (a b : Host) → AreOurs hosts a b → (y : Moment) (ms : List Moment)
    → Lawful hosts (y ∷ ms) → stay.begins a b (event_in y) (events_of ms) ≡ false → (n : ℕ) (j : Joined a b (suc n) ms)
    → (k : Joined a b (suc n) (y ∷ ms)) × Keeps (stay.stays a b (events_of (y ∷ ms))) (stay.stays b a (events_of (y ∷ ms))) j.x k.x
goes_on hosts a b ours y ms l none n j = let g : Goes a b (suc n) y ms j = joint.goes (suc n) (no_zero n) hosts l.0 a b ours y ms l.1 l.2 j none in (g.joined, g.keeps_x)

meets_at : (hosts : Network) (a b : Host) → AreOurs hosts a b → (y : Moment) (ms : List Moment) → Lawful hosts (y ∷ ms)
    → stay.begins a b (event_in y) (events_of ms) ≡ true → (n : ℕ) → Joined a b (suc n) (y ∷ ms)
meets_at hosts a b ours y ms l new n =
    meets (suc n) (no_zero n) hosts l.0 a b ours y ms l.1 l.2 new

-- ---- so what is left is asked of lives

pub record Lives (hosts : Network) (a b : Host) : Type 0 where
  -- of a host that stays
  pub carried_r : (ms : List Moment) → Lawful hosts ms → stay.stays a b (events_of ms) ≡ true → (x : Life) → IsOf x (present_in a b ms) → x.host ≡ a → x.peer ≡ b → receives x ≡ true → Receives a b (Own a b) (Heard a b) ms x
  pub carried_s : (ms : List Moment) → Lawful hosts ms → stay.stays b a (events_of ms) ≡ true → (s : Life) → IsOf s (present_in a b ms) → s.host ≡ b → s.peer ≡ a → sends s ≡ true → Sends a b (Own a b) (Heard a b) ms s
  pub taken_by : (ms : List Moment) → Lawful hosts ms → stay.stays a b (events_of ms) ≡ true → (n c : ℕ) → 1 ≤ ((receiver_now numbered b (suc n) (own_calls a b ms)).granted c).messages → HasReceives a b (Own a b) (Heard a b) ms n c
  pub sent_by : (ms : List Moment) → Lawful hosts ms → stay.stays b a (events_of ms) ≡ true → (n c : ℕ) → ((sender_now numbered_by_peer a (suc n) (own_calls b a ms)).sent c ≡ [] → ⊥) → HasSends a b (Own a b) (Heard a b) ms n c
  -- and of one that leaves, or has left
  pub away_r : (y : Moment) (ms : List Moment) → Lawful hosts (y ∷ ms) → stay.stays a b (events_of (y ∷ ms)) ≡ false → Away a b (lives_in ms) (lives_in (y ∷ ms))
  pub away_s : (y : Moment) (ms : List Moment) → Lawful hosts (y ∷ ms) → stay.stays b a (events_of (y ∷ ms)) ≡ false → Away b a (lives_in ms) (lives_in (y ∷ ms))

pub given : (hosts : Network) (a b : Host) → AreOurs hosts a b → Lives hosts a b → Given hosts a b (Own a b) (Heard a b)
given hosts a b ours v = record {
  ours = ours;
  own_on = own_law_on hosts a b ours;
  heard_on = heard_law_on hosts a b ours;
  matched = matched_law hosts a b ours;
  starts = starts a b;
  meets = meets_at hosts a b ours;
  goes = goes_on hosts a b ours;
  carried_r = v.carried_r;
  carried_s = v.carried_s;
  taken_by = v.taken_by;
  sent_by = v.sent_by;
  away_r = v.away_r;
  away_s = v.away_s;
}
