-- What the book has of two hosts beside their streams, over all moments.
use Rattle.world_keeps_streams.proofs.Common.{◌≡◌, ℕ, suc, ◌≤◌, ◌||◌, ◌&&◌, not, Bool, true, false, List, [], ◌∷◌, refl, ap, sym, subst, ◌∙◌, arith, Host, Allocation, Stream, numbered, receiver_now, sender_now, begins_either, Moment, event_in, events_of, crossings_of, own_calls, Network, AreOurs}
use Rattle.promise.specs.Safe.{Match, receives, sends}
use Rattle.stream_law.specs.Receivers.{Receiver}
use Rattle.stream_law.specs.Senders.{Sender}
use Rattle.stream_law.specs.Streams as streams
use Rattle.reset_law.specs.Stays as stay
use Rattle.promise.specs.declared.life.Life.{Life}
use Rattle.world_keeps_streams.proofs.Steps.Joined.{Joined, Keeps, numbered_by_peer}
use Rattle.world_keeps_streams.proofs.Lives.Lists.{IsOf}
use Rattle.world_keeps_streams.proofs.Requests.Sides.{Lawful, lives_in, below}
use Rattle.world_keeps_streams.proofs.Books.Whole.{present_in, Away, Receives, Sends, HasReceives, HasSends, PresentR, PresentS, HasR, HasS, Whole, staying_r, staying_s, staying_has_r, staying_has_s}
use Rattle.world_keeps_streams.proofs.Books.Goes.{since_bound, left_r, left_s, left_has_r, left_has_s}

-- what is asked of each moment
pub record Given (hosts : Network) (a b : Host) (Own Heard : List Moment → ℕ → ℕ → ℕ → ℕ → Type 0) : Type 0 where
  pub ours : AreOurs hosts a b
  -- requests
  pub own_on : (y : Moment) (ms : List Moment) → Lawful hosts (y ∷ ms) → stay.begins a b (event_in y) (events_of ms) ≡ false → (receive send stamp g : ℕ) → Own ms receive send stamp g → Own (y ∷ ms) receive send stamp g
  pub heard_on : (y : Moment) (ms : List Moment) → Lawful hosts (y ∷ ms) → stay.begins a b (event_in y) (events_of ms) ≡ false → (s : Life) → IsOf s (lives_in ms) → s.host ≡ b → s.peer ≡ a → (g : ℕ)
      → Heard ms s.foreign s.socket s.partner_stamp g → Heard (y ∷ ms) s.foreign s.socket s.partner_stamp g
  pub matched : (ms : List Moment) → Lawful hosts ms → (x s : Life) (g : ℕ) → IsOf x (lives_in ms) → IsOf s (lives_in ms) → (x.host ≡ a) × (x.peer ≡ b) → (s.host ≡ b) × (s.peer ≡ a) → (x.socket ≡ s.foreign) × (x.foreign ≡ s.socket)
      → receives x ≡ true → Own ms x.socket x.foreign x.own_stamp g → Heard ms s.foreign s.socket s.partner_stamp g → Match (crossings_of ms) x s
  -- the streams
  pub starts : (n : ℕ) → (j : Joined a b (suc n) []) × (j.x ≡ streams.opening_stream)
  pub meets : (y : Moment) (ms : List Moment) → Lawful hosts (y ∷ ms) → stay.begins a b (event_in y) (events_of ms) ≡ true → (n : ℕ) → Joined a b (suc n) (y ∷ ms)
  pub goes : (y : Moment) (ms : List Moment) → Lawful hosts (y ∷ ms) → stay.begins a b (event_in y) (events_of ms) ≡ false → (n : ℕ) (j : Joined a b (suc n) ms)
      → (k : Joined a b (suc n) (y ∷ ms)) × Keeps (stay.stays a b (events_of (y ∷ ms))) (stay.stays b a (events_of (y ∷ ms))) j.x k.x
  -- the lives of a host that stays
  pub carried_r : (ms : List Moment) → Lawful hosts ms → stay.stays a b (events_of ms) ≡ true → (x : Life) → IsOf x (present_in a b ms) → x.host ≡ a → x.peer ≡ b → receives x ≡ true → Receives a b Own Heard ms x
  pub carried_s : (ms : List Moment) → Lawful hosts ms → stay.stays b a (events_of ms) ≡ true → (s : Life) → IsOf s (present_in a b ms) → s.host ≡ b → s.peer ≡ a → sends s ≡ true → Sends a b Own Heard ms s
  pub taken_by : (ms : List Moment) → Lawful hosts ms → stay.stays a b (events_of ms) ≡ true → (n c : ℕ) → 1 ≤ ((receiver_now numbered b (suc n) (own_calls a b ms)).granted c).messages → HasReceives a b Own Heard ms n c
  pub sent_by : (ms : List Moment) → Lawful hosts ms → stay.stays b a (events_of ms) ≡ true → (n c : ℕ) → ((sender_now numbered_by_peer a (suc n) (own_calls b a ms)).sent c ≡ [] → ⊥) → HasSends a b Own Heard ms n c
  -- and of one that leaves, or has left
  pub away_r : (y : Moment) (ms : List Moment) → Lawful hosts (y ∷ ms) → stay.stays a b (events_of (y ∷ ms)) ≡ false → Away a b (lives_in ms) (lives_in (y ∷ ms))
  pub away_s : (y : Moment) (ms : List Moment) → Lawful hosts (y ∷ ms) → stay.stays b a (events_of (y ∷ ms)) ≡ false → Away b a (lives_in ms) (lives_in (y ∷ ms))

begins_stays : (a b : Host) (y : Moment) (ms : List Moment) → stay.begins a b (event_in y) (events_of ms) ≡ true → (stay.stays a b (events_of (y ∷ ms)) ≡ true) × (stay.stays b a (events_of (y ∷ ms)) ≡ true)
begins_stays a b y ms new = (first a b new, first b a (sym (begins_either a b (event_in y) (events_of ms)) ∙ new)) where
  first : (v w : Host) → stay.begins v w (event_in y) (events_of ms) ≡ true → stay.stays v w (events_of (y ∷ ms)) ≡ true
  first v w e = ap (λ (t : Bool). t || (stay.ready v w (event_in y ∷ events_of ms) && not (stay.takes_reset v w (event_in y)) && stay.stays v w (events_of ms))) e

module _ (hosts : Network) (a b : Host) (Own Heard : List Moment → ℕ → ℕ → ℕ → ℕ → Type 0)
    (given : Given hosts a b Own Heard) where
  -- ---- hosts that stay

  module _ (ms : List Moment) (l : Lawful hosts ms) (j : (n : ℕ) → Joined a b (suc n) ms) where
    stay_r : stay.stays a b (events_of ms) ≡ true → (x : Life) → IsOf x (present_in a b ms) → x.host ≡ a → x.peer ≡ b → receives x ≡ true → PresentR a b Own Heard ms j x
    stay_r on x i f g q = staying_r a b Own Heard ms j x on (given.carried_r ms l on x i f g q)

    stay_s : stay.stays b a (events_of ms) ≡ true → (s : Life) → IsOf s (present_in a b ms) → s.host ≡ b → s.peer ≡ a → sends s ≡ true → PresentS a b Own Heard ms j s
    stay_s on s i f g q = staying_s a b Own Heard ms j s on (given.carried_s ms l on s i f g q)

    stay_has_r : stay.stays a b (events_of ms) ≡ true → (n c : ℕ) → 1 ≤ ((j n).x.receiver.granted c).messages → HasR a b Own Heard ms j n c
    stay_has_r on n c some = staying_has_r a b Own Heard ms j n c on (given.taken_by ms l on n c (subst (λ (r : Receiver). 1 ≤ (r.granted c).messages) ((j n).received_a on) some))

    stay_has_s : stay.stays b a (events_of ms) ≡ true → (n c : ℕ) → ((j n).x.sender.sent c ≡ [] → ⊥) → HasS a b Own Heard ms j n c
    stay_has_s on n c some = staying_has_s a b Own Heard ms j n c on (given.sent_by ms l on n c (subst (λ (s : Sender). s.sent c ≡ [] → ⊥) ((j n).sent_b on) some))

  -- ---- where both meet

  whole_new : (y : Moment) (ms : List Moment) → Lawful hosts (y ∷ ms) → stay.begins a b (event_in y) (events_of ms) ≡ true → Whole a b Own Heard (y ∷ ms)
  whole_new y ms l new =
      let both : (stay.stays a b (events_of (y ∷ ms)) ≡ true) × (stay.stays b a (events_of (y ∷ ms)) ≡ true) = begins_stays a b y ms new in
      record {
        j = given.meets y ms l new;
        bound = since_bound a b (y ∷ ms);
        receiving = stay_r (y ∷ ms) l (given.meets y ms l new) both.0;
        sending = stay_s (y ∷ ms) l (given.meets y ms l new) both.1;
        has_receiver = stay_has_r (y ∷ ms) l (given.meets y ms l new) both.0;
        has_sender = stay_has_s (y ∷ ms) l (given.meets y ms l new) both.1;
      }

  -- ---- and from there on

  module _ (y : Moment) (ms : List Moment) (l : Lawful hosts (y ∷ ms)) (none : stay.begins a b (event_in y) (events_of ms) ≡ false) (w : Whole a b Own Heard ms) where
    keeps : (n : ℕ) → Keeps (stay.stays a b (events_of (y ∷ ms))) (stay.stays b a (events_of (y ∷ ms))) (w.j n).x (given.goes y ms l none n (w.j n)).0.x
    keeps n = (given.goes y ms l none n (w.j n)).1

    on_r : (v : Bool) → stay.stays a b (events_of (y ∷ ms)) ≡ v → (x : Life) → IsOf x (present_in a b (y ∷ ms)) → x.host ≡ a → x.peer ≡ b → receives x ≡ true → PresentR a b Own Heard (y ∷ ms) (λ n. (given.goes y ms l none n (w.j n)).0) x
    on_r true on = stay_r (y ∷ ms) l (λ n. (given.goes y ms l none n (w.j n)).0) on
    on_r false off = left_r a b Own Heard y ms none w.j (λ n. (given.goes y ms l none n (w.j n)).0) keeps (given.own_on y ms l none) (given.heard_on y ms l none) off (given.away_r y ms l off) w.receiving

    on_s : (v : Bool) → stay.stays b a (events_of (y ∷ ms)) ≡ v → (s : Life) → IsOf s (present_in a b (y ∷ ms)) → s.host ≡ b → s.peer ≡ a → sends s ≡ true → PresentS a b Own Heard (y ∷ ms) (λ n. (given.goes y ms l none n (w.j n)).0) s
    on_s true on = stay_s (y ∷ ms) l (λ n. (given.goes y ms l none n (w.j n)).0) on
    on_s false off = left_s a b Own Heard y ms none w.j (λ n. (given.goes y ms l none n (w.j n)).0) keeps (given.own_on y ms l none) (given.heard_on y ms l none) off (given.away_s y ms l off) w.sending

    on_has_r : (v : Bool) → stay.stays a b (events_of (y ∷ ms)) ≡ v → (n c : ℕ) → 1 ≤ ((given.goes y ms l none n (w.j n)).0.x.receiver.granted c).messages → HasR a b Own Heard (y ∷ ms) (λ n. (given.goes y ms l none n (w.j n)).0) n c
    on_has_r true on n c some = stay_has_r (y ∷ ms) l (λ n. (given.goes y ms l none n (w.j n)).0) on n c some
    on_has_r false off n c some =
        left_has_r a b Own Heard y ms none w.j (λ n. (given.goes y ms l none n (w.j n)).0) keeps (given.own_on y ms l none) (given.heard_on y ms l none) off (given.away_r y ms l off) n c
        (w.has_receiver n c (subst (λ (v : Allocation). 1 ≤ v.messages) ((keeps n).granted off c) some))

    on_has_s : (v : Bool) → stay.stays b a (events_of (y ∷ ms)) ≡ v → (n c : ℕ) → ((given.goes y ms l none n (w.j n)).0.x.sender.sent c ≡ [] → ⊥) → HasS a b Own Heard (y ∷ ms) (λ n. (given.goes y ms l none n (w.j n)).0) n c
    on_has_s true on n c some = stay_has_s (y ∷ ms) l (λ n. (given.goes y ms l none n (w.j n)).0) on n c some
    on_has_s false off n c some =
        left_has_s a b Own Heard y ms none w.j (λ n. (given.goes y ms l none n (w.j n)).0) keeps (given.own_on y ms l none) (given.heard_on y ms l none) off (given.away_s y ms l off) n c
        (w.has_sender n c (λ e. some ((keeps n).sent off c ∙ e)))

    whole_on : Whole a b Own Heard (y ∷ ms)
    whole_on = record {
      j = λ n. (given.goes y ms l none n (w.j n)).0;
      bound = since_bound a b (y ∷ ms);
      receiving = on_r (stay.stays a b (events_of (y ∷ ms))) refl;
      sending = on_s (stay.stays b a (events_of (y ∷ ms))) refl;
      has_receiver = on_has_r (stay.stays a b (events_of (y ∷ ms))) refl;
      has_sender = on_has_s (stay.stays b a (events_of (y ∷ ms))) refl;
    }

  -- ---- all moments

  whole_none : Whole a b Own Heard []
  whole_none = record {
    j = λ n. (given.starts n).0;
    bound = omega arith;
    receiving = λ x i. absurd i;
    sending = λ x i. absurd i;
    has_receiver = λ n c some. (let e : 1 ≤ (streams.opening_stream.receiver.granted c).messages = subst (λ (x : Stream). 1 ≤ (x.receiver.granted c).messages) (given.starts n).1 some in absurd (omega (arith, e)));
    has_sender = λ n c some. absurd (some (ap (λ (x : Stream). x.sender.sent c) (given.starts n).1));
  }

  whole_next : (y : Moment) (ms : List Moment) → Lawful hosts (y ∷ ms) → (v : Bool) → stay.begins a b (event_in y) (events_of ms) ≡ v → Whole a b Own Heard ms → Whole a b Own Heard (y ∷ ms)
  whole_next y ms l true new w = whole_new y ms l new
  whole_next y ms l false none w = whole_on y ms l none w

  pub whole : (ms : List Moment) → Lawful hosts ms → Whole a b Own Heard ms
  whole [] l = whole_none
  whole (y ∷ ms) l = whole_next y ms l _ refl (whole ms (below hosts y ms l))

  -- what is kept of the streams from one moment to the next
  pub whole_keeps : (y : Moment) (ms : List Moment) (l : Lawful hosts (y ∷ ms)) → stay.begins a b (event_in y) (events_of ms) ≡ false → (n : ℕ)
      → Keeps (stay.stays a b (events_of (y ∷ ms))) (stay.stays b a (events_of (y ∷ ms))) ((whole ms (below hosts y ms l)).j n).x ((whole (y ∷ ms) l).j n).x
  unfolding whole whole_next whole_on
  whole_keeps y ms l none n = by (stay.begins a b (event_in y) (events_of ms)) refl (whole ms _) none where
    by : (v : Bool) (e : stay.begins a b (event_in y) (events_of ms) ≡ v) (w : Whole a b Own Heard ms) → v ≡ false → Keeps (stay.stays a b (events_of (y ∷ ms))) (stay.stays b a (events_of (y ∷ ms))) (w.j n).x ((whole_next y ms l v e w).j n).x
    by true e w off = absurd (let no : true ≡ false = off in cc)
    by false e w off = keeps y ms l e w n
