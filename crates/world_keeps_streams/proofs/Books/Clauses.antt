-- Of all lives of a book: what was taken has a source, and what was sent is granted.
use Rattle.world_keeps_streams.proofs.Common.{◌≡◌, ◌⊎◌, inl, inr, ℕ, ◌≤◌, Bool, true, false, List, [], ◌∷◌, length, map, take, refl, ap, sym, subst, ◌∙◌, arith, Host, is_receive_socket, is_send_socket, Fresh, begins_fresh, Moment, Crossed, Asked, event_in, events_of, crossings_of, Network, AreOurs}
use Rattle.promise.specs.Safe.{IsGranted, Match, receives, sends}
use Rattle.reset_law.specs.Stays as stay
use Rattle.promise.specs.Safe as book
use Rattle.promise.specs.declared.life.Life.{Life}
use Rattle.world_keeps_streams.proofs.Lives.Lists.{IsOf, Grown, contains, grown, of_drop, of_left, of_map, of_mapped, of_parts, of_take, take_grown}
use Rattle.world_keeps_streams.proofs.Requests.Names.{request_grows}
use Rattle.world_keeps_streams.proofs.Requests.Sides.{Lawful, coupled_in, lives_in, below}
use Rattle.world_keeps_streams.proofs.Books.Whole.{since, present_in, Whole}
use Rattle.world_keeps_streams.proofs.Books.Goes.{since_bound, since_new, since_on}
use Rattle.world_keeps_streams.proofs.Books.Source.{Granter, Sourced, granted_of, source_of}
use Rattle.world_keeps_streams.proofs.Books.Run.{Given, whole}
use Rattle.world_keeps_streams.proofs.Ours.{ours_of, ours_receiver, ours_sender}

-- ---- lives of before the last meeting: all have ended

pub record OldSource (ms : List Moment) (x : Life) : Type 0 where
  pub sender : Life
  pub there : IsOf sender (lives_in ms)
  pub over : sender.ended ≡ true
  pub matches : Match (crossings_of ms) x sender
  pub front : book.IsPrefix x.bits sender.bits

pub record OldGranter (ms : List Moment) (s : Life) : Type 0 where
  pub receiver : Life
  pub there : IsOf receiver (lives_in ms)
  pub over : receiver.ended ≡ true
  pub matches : Match (crossings_of ms) receiver s
  pub granted : IsGranted receiver s.messages (length s.bits)

pub record SettledR (ms : List Moment) (x : Life) : Type 0 where
  pub over : x.ended ≡ true
  pub source : (x.bits ≡ [] → ⊥) → OldSource ms x

pub record SettledS (ms : List Moment) (s : Life) : Type 0 where
  pub over : s.ended ≡ true
  pub granted : ((s.messages ≡ 0) × (s.bits ≡ [])) ⊎ OldGranter ms s

-- ---- they stay as they are

pub match_grows : (hosts : Network) (y : Moment) (ms : List Moment) → Lawful hosts ms → (x s : Life)
    → AreOurs hosts x.host x.peer → IsOf x (lives_in ms) → IsOf s (lives_in ms) → Match (crossings_of ms) x s
    → Match (crossings_of (y ∷ ms)) x s
match_grows hosts (Asked h r) ms l x s ours i j m = m
match_grows hosts (Crossed c) ms l x s ours i j m = record {
  receiving = m.receiving;
  sending = m.sending;
  peers = m.peers;
  sockets = m.sockets;
  asked = request_grows hosts ms l (c ∷ []) x ours (contains x (lives_in ms) i) ∙ m.asked;
  answered = request_grows hosts ms l (c ∷ []) s (ours_sender hosts m ours) (contains s (lives_in ms) j) ∙ m.answered;
}

pub stays_in : (y : Moment) (ms : List Moment) (x : Life) → IsOf x (lives_in ms) → x.ended ≡ true → IsOf x (lives_in (y ∷ ms))
stays_in y ms x i over =
    let g : Grown (lives_in ms) (lives_in (y ∷ ms)) = grown y ms in
    subst (λ (l : List Life). IsOf x l) (sym g.is)
    (of_left x _ g.more (subst (λ (v : Life). IsOf v (map g.change (lives_in ms))) (g.still x over) (of_map g.change x _ i)))

settled_r_on : (hosts : Network) (y : Moment) (ms : List Moment) → Lawful hosts ms → (x : Life)
    → AreOurs hosts x.host x.peer → IsOf x (lives_in ms) → SettledR ms x → SettledR (y ∷ ms) x
settled_r_on hosts y ms l x ours i r = record {
  over = r.over;
  source = λ some. let o : OldSource ms x = r.source some in record {
    sender = o.sender;
    there = stays_in y ms o.sender o.there o.over;
    over = o.over;
    matches = match_grows hosts y ms l x o.sender ours i o.there o.matches;
    front = o.front;
  };
}

settled_s_on : (hosts : Network) (y : Moment) (ms : List Moment) → Lawful hosts ms → (s : Life)
    → AreOurs hosts s.host s.peer → IsOf s (lives_in ms) → SettledS ms s → SettledS (y ∷ ms) s
settled_s_on hosts y ms l s ours i r = record { over = r.over; granted = by r.granted } where
  by : ((s.messages ≡ 0) × (s.bits ≡ [])) ⊎ OldGranter ms s → ((s.messages ≡ 0) × (s.bits ≡ [])) ⊎ OldGranter (y ∷ ms) s
  by (inl none) = inl none
  by (inr o) = inr (record {
    receiver = o.receiver;
    there = stays_in y ms o.receiver o.there o.over;
    over = o.over;
    matches = match_grows hosts y ms l o.receiver s (ours_receiver hosts o.matches ours) o.there i o.matches;
    granted = o.granted;
  })

-- a life among the older ones, by what it was
pub record Older (n : ℕ) (ms : List Moment) (y : Moment) (x : Life) : Type 0 where
  pub life : Life
  pub there : IsOf life (take n (lives_in ms))
  pub host : life.host ≡ x.host
  pub peer : life.peer ≡ x.peer
  pub socket : life.socket ≡ x.socket
  pub same : life.ended ≡ true → x ≡ life

pub older : (n : ℕ) (ms : List Moment) (y : Moment) (x : Life) → n ≤ length (lives_in ms) → IsOf x (take n (lives_in (y ∷ ms))) → Older n ms y x
older n ms y x less i =
    let g : Grown (lives_in ms) (lives_in (y ∷ ms)) = grown y ms in
    let m : (v : Life) × IsOf v (take n (lives_in ms)) × (x ≡ g.change v) =
    of_mapped g.change x _ (subst (λ (l : List Life). IsOf x l) (ap (take n) g.is ∙ take_grown g.change n _ g.more less) i) in
    record {
      life = m.0;
      there = m.1;
      host = sym (ap (λ (v : Life). v.host) m.2 ∙ (g.names m.0).host);
      peer = sym (ap (λ (v : Life). v.peer) m.2 ∙ (g.names m.0).peer);
      socket = sym (ap (λ (v : Life). v.socket) m.2 ∙ (g.names m.0).socket);
      same = λ over. m.2 ∙ g.still m.0 over;
    }

module _ (hosts : Network) (a b : Host) (Own Heard : List Moment → ℕ → ℕ → ℕ → ℕ → Type 0)
    (given : Given hosts a b Own Heard) where
  -- where both meet what was since they met before is settled
  module _ (y : Moment) (ms : List Moment) (l : Lawful hosts (y ∷ ms)) (new : stay.begins a b (event_in y) (events_of ms) ≡ true) where
    fresh : Fresh a b (event_in y) (events_of ms)
    fresh =
        begins_fresh hosts (event_in y) (events_of ms) (coupled_in hosts (y ∷ ms) l).run a b given.ours new

    settle_r : (x : Life) → IsOf x (present_in a b ms) → x.host ≡ a → x.peer ≡ b → receives x ≡ true → SettledR ms x
    settle_r x i f g q =
        let w : Whole a b Own Heard ms = whole hosts a b Own Heard given ms (below hosts y ms l) in
        record {
          over = (w.receiving x i f g q).over fresh.left;
          source = λ some. let o : Sourced a b Own Heard ms w.j x = source_of a b Own Heard ms (given.matched ms (below hosts y ms l)) w x i f g q some in record {
            sender = o.sender;
            there = of_drop _ o.sender _ o.there;
            over = o.is.over fresh.peer_left;
            matches = o.matches;
            front = o.front;
          };
        }

    settle_s : (s : Life) → IsOf s (present_in a b ms) → s.host ≡ b → s.peer ≡ a → sends s ≡ true → SettledS ms s
    settle_s s i f g q =
        let w : Whole a b Own Heard ms = whole hosts a b Own Heard given ms (below hosts y ms l) in
        record {
          over = (w.sending s i f g q).over fresh.peer_left;
          granted = by w (granted_of a b Own Heard ms (given.matched ms (below hosts y ms l)) w s i f g q);
        } where
          by : (w : Whole a b Own Heard ms) → ((s.messages ≡ 0) × (s.bits ≡ [])) ⊎ Granter a b Own Heard ms w.j s → ((s.messages ≡ 0) × (s.bits ≡ [])) ⊎ OldGranter ms s
          by w (inl none) = inl none
          by w (inr o) = inr (record {
            receiver = o.receiver;
            there = of_drop _ o.receiver _ o.there;
            over = o.is.over fresh.left;
            matches = o.matches;
            granted = o.granted;
          })

  -- ---- all moments

  pub settled_r : (ms : List Moment) → Lawful hosts ms → (x : Life) → IsOf x (take (since a b ms) (lives_in ms)) → x.host ≡ a → x.peer ≡ b → receives x ≡ true → SettledR ms x
  settled_r [] l x i f g q = absurd i
  settled_r (y ∷ ms) l x i f g q = by (stay.begins a b (event_in y) (events_of ms)) refl (settled_r ms (below hosts y ms l)) where
    kept : (n : ℕ) (o : Older n ms y x) → SettledR ms o.life → SettledR (y ∷ ms) x
    kept n o r = subst (λ (v : Life). SettledR (y ∷ ms) v) (sym (o.same r.over)) (settled_r_on hosts y ms (below hosts y ms l) o.life (ours_of hosts o.life a b given.ours (o.host ∙ f, o.peer ∙ g)) (of_take n o.life _ o.there) r)

    by : (v : Bool) → stay.begins a b (event_in y) (events_of ms) ≡ v → ((x : Life) → IsOf x (take (since a b ms) (lives_in ms)) → x.host ≡ a → x.peer ≡ b → receives x ≡ true → SettledR ms x) → SettledR (y ∷ ms) x
    by false none old =
        let o : Older (since a b ms) ms y x = older (since a b ms) ms y x (since_bound a b ms) (subst (λ (n : ℕ). IsOf x (take n (lives_in (y ∷ ms)))) (since_on a b y ms none) i) in
        kept (since a b ms) o (old o.life o.there (o.host ∙ f) (o.peer ∙ g) (ap is_receive_socket o.socket ∙ q))
    by true new old =
        let o : Older (length (lives_in ms)) ms y x = older (length (lives_in ms)) ms y x (omega arith) (subst (λ (n : ℕ). IsOf x (take n (lives_in (y ∷ ms)))) (since_new a b y ms new) i) in
        let kind : receives o.life ≡ true = ap is_receive_socket o.socket ∙ q in
        kept _ o (elim (of_parts _ o.life _ (of_take _ o.life _ o.there)) [
          | inl early ↦ old o.life early (o.host ∙ f) (o.peer ∙ g) kind
          | inr late ↦ settle_r y ms l new o.life late (o.host ∙ f) (o.peer ∙ g) kind
        ])

  pub settled_s : (ms : List Moment) → Lawful hosts ms → (s : Life) → IsOf s (take (since a b ms) (lives_in ms)) → s.host ≡ b → s.peer ≡ a → sends s ≡ true → SettledS ms s
  settled_s [] l x i f g q = absurd i
  settled_s (y ∷ ms) l x i f g q = by (stay.begins a b (event_in y) (events_of ms)) refl (settled_s ms (below hosts y ms l)) where
    kept : (n : ℕ) (o : Older n ms y x) → SettledS ms o.life → SettledS (y ∷ ms) x
    kept n o r = subst (λ (v : Life). SettledS (y ∷ ms) v) (sym (o.same r.over)) (settled_s_on hosts y ms (below hosts y ms l) o.life (ours_of hosts o.life b a (given.ours.1, given.ours.0) (o.host ∙ f, o.peer ∙ g)) (of_take n o.life _ o.there) r)

    by : (v : Bool) → stay.begins a b (event_in y) (events_of ms) ≡ v → ((s : Life) → IsOf s (take (since a b ms) (lives_in ms)) → s.host ≡ b → s.peer ≡ a → sends s ≡ true → SettledS ms s) → SettledS (y ∷ ms) x
    by false none old =
        let o : Older (since a b ms) ms y x = older (since a b ms) ms y x (since_bound a b ms) (subst (λ (n : ℕ). IsOf x (take n (lives_in (y ∷ ms)))) (since_on a b y ms none) i) in
        kept (since a b ms) o (old o.life o.there (o.host ∙ f) (o.peer ∙ g) (ap is_send_socket o.socket ∙ q))
    by true new old =
        let o : Older (length (lives_in ms)) ms y x = older (length (lives_in ms)) ms y x (omega arith) (subst (λ (n : ℕ). IsOf x (take n (lives_in (y ∷ ms)))) (since_new a b y ms new) i) in
        let kind : sends o.life ≡ true = ap is_send_socket o.socket ∙ q in
        kept _ o (elim (of_parts _ o.life _ (of_take _ o.life _ o.there)) [
          | inl early ↦ old o.life early (o.host ∙ f) (o.peer ∙ g) kind
          | inr late ↦ settle_s y ms l new o.life late (o.host ∙ f) (o.peer ∙ g) kind
        ])
