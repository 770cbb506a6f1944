-- What follows for lives since both met: what was taken has a source, and what was sent is granted.
use Rattle.world_keeps_streams.proofs.Common.{◌≡◌, ◌⊎◌, inl, inr, ℕ, suc, ◌+◌, ◌≤◌, Bool, true, List, [], ◌∷◌, length, refl, ap, sym, subst, ◌∙◌, arith, Host, Allocation, IsSafe, message_bits, safe_inv, numbered, numbered_tells, Moment, crossings_of, prefix_more}
use Rattle.promise.specs.Safe.{IsGranted, Match, receives, sends}
use Rattle.promise.specs.Safe as book
use Rattle.promise.specs.declared.life.Life.{Life}
use Rattle.world_keeps_streams.proofs.Steps.Joined.{Joined}
use Rattle.world_keeps_streams.proofs.Carried.Streams.{all_bits}
use Rattle.world_keeps_streams.proofs.Lives.Lists.{IsOf, of_drop}
use Rattle.world_keeps_streams.proofs.Requests.Sides.{lives_in}
use Rattle.world_keeps_streams.proofs.Books.Streams.{all_bits_length, front_bits, front_none, fronts_none}
use Rattle.world_keeps_streams.proofs.Books.Whole.{since, present_in, PresentR, PresentS, HasR, HasS, Whole}

module _ (a b : Host) (Own Heard : List Moment → ℕ → ℕ → ℕ → ℕ → Type 0) (ms : List Moment) where
  -- whom a receiving life took from
  pub record Sourced (j : (n : ℕ) → Joined a b (suc n) ms) (x : Life) : Type 0 where
    pub sender : Life
    pub there : IsOf sender (present_in a b ms)
    pub host : sender.host ≡ b
    pub peer : sender.peer ≡ a
    pub is : PresentS a b Own Heard ms j sender
    pub matches : Match (crossings_of ms) x sender
    pub front : book.IsPrefix x.bits sender.bits

  -- who granted what a sending life sent
  pub record Granter (j : (n : ℕ) → Joined a b (suc n) ms) (s : Life) : Type 0 where
    pub receiver : Life
    pub there : IsOf receiver (present_in a b ms)
    pub host : receiver.host ≡ a
    pub peer : receiver.peer ≡ b
    pub is : PresentR a b Own Heard ms j receiver
    pub matches : Match (crossings_of ms) receiver s
    pub granted : IsGranted receiver s.messages (length s.bits)

  module _ (matched : (x s : Life) (g : ℕ) → IsOf x (lives_in ms) → IsOf s (lives_in ms) → (x.host ≡ a) × (x.peer ≡ b) → (s.host ≡ b) × (s.peer ≡ a) → (x.socket ≡ s.foreign) × (x.foreign ≡ s.socket) → receives x ≡ true
      → Own ms x.socket x.foreign x.own_stamp g → Heard ms s.foreign s.socket s.partner_stamp g → Match (crossings_of ms) x s) (w : Whole a b Own Heard ms) where
    -- one connection
    pub one_matches : (x s : Life) (g k : ℕ) → IsOf x (present_in a b ms) → IsOf s (present_in a b ms) → (x.host ≡ a) × (x.peer ≡ b) → (s.host ≡ b) × (s.peer ≡ a) → receives x ≡ true
        → numbered s.foreign s.socket k ≡ numbered x.socket x.foreign g → Own ms x.socket x.foreign x.own_stamp g → Heard ms s.foreign s.socket s.partner_stamp k → Match (crossings_of ms) x s
    one_matches x s g k i j f h q name own heard =
        matched x s g (of_drop (since a b ms) x (lives_in ms) i) (of_drop (since a b ms) s (lives_in ms) j) f h
        (sym (numbered_tells.own s.foreign s.socket k x.socket x.foreign g name), sym (numbered_tells.foreign s.foreign s.socket k x.socket x.foreign g name)) q own
        (subst (λ (n : ℕ). Heard ms s.foreign s.socket s.partner_stamp n) (numbered_tells.gone s.foreign s.socket k x.socket x.foreign g name) heard)

    pub source_of : (x : Life) → IsOf x (present_in a b ms) → x.host ≡ a → x.peer ≡ b → receives x ≡ true → (x.bits ≡ [] → ⊥) → Sourced w.j x
    source_of x i f g q some =
        let p : PresentR a b Own Heard ms w.j x = w.receiving x i f g q in
        let c : ℕ = numbered x.socket x.foreign p.g in
        let safe : IsSafe (w.j p.link).x (numbered x.socket x.foreign p.g) = safe_inv (w.j p.link).x (w.j p.link).joint.inv_x (numbered x.socket x.foreign p.g) in
        let h : HasS a b Own Heard ms w.j p.link (numbered x.socket x.foreign p.g) = w.has_sender p.link (numbered x.socket x.foreign p.g) (λ none.
        some (front_none x.bits (all_bits ((w.j p.link).x.receiver.taken (numbered x.socket x.foreign p.g))) p.bits
        (ap all_bits (fronts_none ((w.j p.link).x.receiver.taken (numbered x.socket x.foreign p.g)) ((w.j p.link).x.sender.sent (numbered x.socket x.foreign p.g)) safe.front none)))) in
        let bits : h.life.bits ≡ all_bits ((w.j p.link).x.sender.sent (numbered x.socket x.foreign p.g)) =
        h.is.gave.bits ∙ ap (λ (n : ℕ). all_bits ((w.j n).x.sender.sent (numbered h.life.foreign h.life.socket h.is.g))) h.link ∙ ap (λ (n : ℕ). all_bits ((w.j p.link).x.sender.sent n)) h.name in
        record {
          sender = h.life;
          there = h.there;
          host = h.host;
          peer = h.peer;
          is = h.is;
          matches = one_matches x h.life p.g h.is.g i h.there (f, g) (h.host, h.peer) q h.name p.own h.is.heard;
          front = subst (λ (bs : List Bool). book.IsPrefix x.bits bs) (sym bits)
              (prefix_more x.bits (all_bits ((w.j p.link).x.receiver.taken (numbered x.socket x.foreign p.g))) (all_bits ((w.j p.link).x.sender.sent (numbered x.socket x.foreign p.g))) p.bits
              (front_bits ((w.j p.link).x.receiver.taken (numbered x.socket x.foreign p.g)) ((w.j p.link).x.sender.sent (numbered x.socket x.foreign p.g)) safe.front));
        }

    some_sent : (ms : List (List Bool)) → (ms ≡ [] → ⊥) → 1 ≤ length ms
    some_sent [] some = absurd (some refl)
    some_sent (m ∷ ms) some = omega arith

    granter : (s : Life) → IsOf s (present_in a b ms) → s.host ≡ b → s.peer ≡ a → sends s ≡ true → (p : PresentS a b Own Heard ms w.j s)
        → ((w.j p.link).x.sender.sent (numbered s.foreign s.socket p.g) ≡ [] → ⊥) → Granter w.j s
    granter s i f g q p some =
        let safe : IsSafe (w.j p.link).x (numbered s.foreign s.socket p.g) = safe_inv (w.j p.link).x (w.j p.link).joint.inv_x (numbered s.foreign s.socket p.g) in
        let one : 1 ≤ length ((w.j p.link).x.sender.sent (numbered s.foreign s.socket p.g)) = some_sent ((w.j p.link).x.sender.sent (numbered s.foreign s.socket p.g)) some in
        let in_messages : length ((w.j p.link).x.sender.sent (numbered s.foreign s.socket p.g)) + ((w.j p.link).x.receiver.returned (numbered s.foreign s.socket p.g)).messages ≤ ((w.j p.link).x.receiver.granted (numbered s.foreign s.socket p.g)).messages = safe.sent.in_messages in
        let in_bits : message_bits ((w.j p.link).x.sender.sent (numbered s.foreign s.socket p.g)) + ((w.j p.link).x.receiver.returned (numbered s.foreign s.socket p.g)).bits ≤ ((w.j p.link).x.receiver.granted (numbered s.foreign s.socket p.g)).bits = safe.sent.in_bits in
        let h : HasR a b Own Heard ms w.j p.link (numbered s.foreign s.socket p.g) = w.has_receiver p.link (numbered s.foreign s.socket p.g) (omega (arith, one, in_messages)) in
        let granted : (w.j h.is.link).x.receiver.granted (numbered h.life.socket h.life.foreign h.is.g) ≡ (w.j p.link).x.receiver.granted (numbered s.foreign s.socket p.g) =
        ap (λ (n : ℕ). (w.j n).x.receiver.granted (numbered h.life.socket h.life.foreign h.is.g)) h.link ∙ ap (λ (n : ℕ). (w.j p.link).x.receiver.granted n) h.name in
        let returned : (w.j h.is.link).x.receiver.returned (numbered h.life.socket h.life.foreign h.is.g) ≡ (w.j p.link).x.receiver.returned (numbered s.foreign s.socket p.g) =
        ap (λ (n : ℕ). (w.j n).x.receiver.returned (numbered h.life.socket h.life.foreign h.is.g)) h.link ∙ ap (λ (n : ℕ). (w.j p.link).x.receiver.returned n) h.name in
        let gm : h.life.granted.messages ≡ ((w.j p.link).x.receiver.granted (numbered s.foreign s.socket p.g)).messages = h.is.granted_messages ∙ ap (λ (v : Allocation). v.messages) granted in
        let gb : h.life.granted.bits ≡ ((w.j p.link).x.receiver.granted (numbered s.foreign s.socket p.g)).bits = h.is.granted_bits ∙ ap (λ (v : Allocation). v.bits) granted in
        let rm : h.life.returned.messages ≡ ((w.j p.link).x.receiver.returned (numbered s.foreign s.socket p.g)).messages = h.is.returned_messages ∙ ap (λ (v : Allocation). v.messages) returned in
        let rb : h.life.returned.bits ≡ ((w.j p.link).x.receiver.returned (numbered s.foreign s.socket p.g)).bits = h.is.returned_bits ∙ ap (λ (v : Allocation). v.bits) returned in
        let sm : s.messages ≡ length ((w.j p.link).x.sender.sent (numbered s.foreign s.socket p.g)) = p.gave.messages in
        let sb : length s.bits ≡ message_bits ((w.j p.link).x.sender.sent (numbered s.foreign s.socket p.g)) = ap (λ (bs : List Bool). length bs) p.gave.bits ∙ all_bits_length ((w.j p.link).x.sender.sent (numbered s.foreign s.socket p.g)) in
        record {
          receiver = h.life;
          there = h.there;
          host = h.host;
          peer = h.peer;
          is = h.is;
          matches = one_matches h.life s h.is.g p.g h.there i (h.host, h.peer) (f, g) h.kind (sym h.name) h.is.own p.heard;
          granted = record { messages = omega (arith, in_messages, gm, rm, sm); bits = omega (arith, in_bits, gb, rb, sb) };
        }

    pub granted_of : (s : Life) → IsOf s (present_in a b ms) → s.host ≡ b → s.peer ≡ a → sends s ≡ true → ((s.messages ≡ 0) × (s.bits ≡ [])) ⊎ Granter w.j s
    granted_of s i f g q =
        let p : PresentS a b Own Heard ms w.j s = w.sending s i f g q in
        by p ((w.j p.link).x.sender.sent (numbered s.foreign s.socket p.g)) refl where
          by : (p : PresentS a b Own Heard ms w.j s) (v : List (List Bool)) → (w.j p.link).x.sender.sent (numbered s.foreign s.socket p.g) ≡ v → ((s.messages ≡ 0) × (s.bits ≡ [])) ⊎ Granter w.j s
          by p [] e = inl (p.gave.messages ∙ ap (λ (l : List (List Bool)). length l) e, p.gave.bits ∙ ap all_bits e)
          by p (m ∷ more) e = inr (granter s i f g q p (λ none. absurd (let both : m ∷ more ≡ [] = sym e ∙ none in cc)))
