-- What the book has of two hosts beside their streams, moment by moment.
use Rattle.world_keeps_streams.proofs.Common.{◌≡◌, ℕ, suc, ◌+◌, ◌≤◌, Bool, true, false, List, [], ◌∷◌, length, map, drop, if◌then◌else◌, refl, ap, sym, subst, ◌∙◌, arith, length-append, Host, Allocation, numbered, life_ended, Moment, event_in, events_of, prefix_more}
use Rattle.reset_law.specs.Stays as stay
use Rattle.promise.specs.Safe.{receives, sends}
use Rattle.promise.specs.declared.life.Life.{Life}
use Rattle.world_keeps_streams.proofs.Steps.Joined.{IsSettled, Joined, Keeps}
use Rattle.world_keeps_streams.proofs.Carried.Streams.{all_bits}
use Rattle.world_keeps_streams.proofs.Lives.Lists.{IsOf, Grown, grown, of_drop}
use Rattle.world_keeps_streams.proofs.Requests.Sides.{lives_in}
use Rattle.world_keeps_streams.proofs.Books.Streams.{front_bits}
use Rattle.world_keeps_streams.proofs.Books.Whole.{since, present_in, Away, Was, PresentR, PresentS, HasR, HasS, was_there, still_there}

map_length : (f : Life → Life) (xs : List Life) → length (map f xs) ≡ length xs
map_length f [] = refl
map_length f (x ∷ xs) = ap suc (map_length f xs)

grown_length : (old new : List Life) → Grown old new → length old ≤ length new
grown_length old new g =
    let e : length new ≡ length (map g.change old) + length g.more = ap (λ (l : List Life). length l) g.is ∙ length-append (map g.change old) g.more in
    let f : length (map g.change old) ≡ length old = map_length g.change old in
    omega (arith, e, f)

pub since_on : (a b : Host) (y : Moment) (ms : List Moment) → stay.begins a b (event_in y) (events_of ms) ≡ false → since a b (y ∷ ms) ≡ since a b ms
since_on a b y ms none = ap (λ (v : Bool). if v then length (lives_in ms) else since a b ms) none

pub since_new : (a b : Host) (y : Moment) (ms : List Moment) → stay.begins a b (event_in y) (events_of ms) ≡ true → since a b (y ∷ ms) ≡ length (lives_in ms)
since_new a b y ms new = ap (λ (v : Bool). if v then length (lives_in ms) else since a b ms) new

pub since_bound : (a b : Host) (ms : List Moment) → since a b ms ≤ length (lives_in ms)
since_bound a b [] = omega arith
since_bound a b (y ∷ ms) = by (stay.begins a b (event_in y) (events_of ms)) (since_bound a b ms) (grown_length _ _ (grown y ms)) where
  by : (v : Bool) → since a b ms ≤ length (lives_in ms) → length (lives_in ms) ≤ length (lives_in (y ∷ ms)) → (if v then length (lives_in ms) else since a b ms) ≤ length (lives_in (y ∷ ms))
  by true older longer = longer
  by false older longer = omega (arith, longer, older)

module _ (a b : Host) (Own Heard : List Moment → ℕ → ℕ → ℕ → ℕ → Type 0) (y : Moment) (ms : List Moment) (none : stay.begins a b (event_in y) (events_of ms) ≡ false)
    (j : (n : ℕ) → Joined a b (suc n) ms) (k : (n : ℕ) → Joined a b (suc n) (y ∷ ms))
    (keeps : (n : ℕ) → Keeps (stay.stays a b (events_of (y ∷ ms))) (stay.stays b a (events_of (y ∷ ms))) (j n).x (k n).x)
    (own_on : (receive send stamp g : ℕ) → Own ms receive send stamp g → Own (y ∷ ms) receive send stamp g)
    (heard_on : (s : Life) → IsOf s (lives_in ms) → s.host ≡ b → s.peer ≡ a → (g : ℕ) → Heard ms s.foreign s.socket s.partner_stamp g → Heard (y ∷ ms) s.foreign s.socket s.partner_stamp g) where
  abbrev leaving_r : (x : Life) → stay.stays a b (events_of (y ∷ ms)) ≡ false → PresentR a b Own Heard ms j x → PresentR a b Own Heard (y ∷ ms) k (life_ended x)
  leaving_r x off p = record {
    link = p.link;
    g = p.g;
    bits = prefix_more x.bits (all_bits ((j p.link).x.receiver.taken (numbered x.socket x.foreign p.g))) (all_bits ((k p.link).x.receiver.taken (numbered x.socket x.foreign p.g))) p.bits
        (front_bits ((j p.link).x.receiver.taken (numbered x.socket x.foreign p.g)) ((k p.link).x.receiver.taken (numbered x.socket x.foreign p.g)) ((keeps p.link).taken off (numbered x.socket x.foreign p.g)));
    granted_messages = p.granted_messages ∙ ap (λ (v : Allocation). v.messages) (sym ((keeps p.link).granted off (numbered x.socket x.foreign p.g)));
    granted_bits = p.granted_bits ∙ ap (λ (v : Allocation). v.bits) (sym ((keeps p.link).granted off (numbered x.socket x.foreign p.g)));
    returned_messages = p.returned_messages ∙ ap (λ (v : Allocation). v.messages) (sym ((keeps p.link).returned off (numbered x.socket x.foreign p.g)));
    returned_bits = p.returned_bits ∙ ap (λ (v : Allocation). v.bits) (sym ((keeps p.link).returned off (numbered x.socket x.foreign p.g)));
    own = own_on x.socket x.foreign x.own_stamp p.g p.own;
    over = λ o. refl;
    going = λ goes. absurd (let both : true ≡ false = goes in cc);
    settled = λ o.
        (let kept : IsSettled (j p.link).x.receiver (k p.link).x.receiver (numbered x.socket x.foreign p.g) = (keeps p.link).settled off (numbered x.socket x.foreign p.g) in
        let before : (j p.link).x.receiver.over (numbered x.socket x.foreign p.g) ≡ true = sym kept.over ∙ o in
        let same : (k p.link).x.receiver.taken (numbered x.socket x.foreign p.g) ≡ (j p.link).x.receiver.taken (numbered x.socket x.foreign p.g) = kept.taken before in
        ((p.settled before).0 ∙ ap all_bits (sym same), (p.settled before).1 ∙ ap (λ (ts : List (List Bool)). length ts) (sym same)));
  }

  abbrev leaving_s : (s : Life) → IsOf s (lives_in ms) → s.host ≡ b → s.peer ≡ a → stay.stays b a (events_of (y ∷ ms)) ≡ false → PresentS a b Own Heard ms j s → PresentS a b Own Heard (y ∷ ms) k (life_ended s)
  leaving_s s there f g off p = record {
    link = p.link;
    g = p.g;
    gave = record {
      bits = p.gave.bits ∙ ap all_bits (sym ((keeps p.link).sent off (numbered s.foreign s.socket p.g)));
      messages = p.gave.messages ∙ ap (λ (l : List (List Bool)). length l) (sym ((keeps p.link).sent off (numbered s.foreign s.socket p.g)));
    };
    heard = heard_on s there f g p.g p.heard;
    over = λ o. refl;
  }

  now_in : (x : Life) → IsOf x (present_in a b (y ∷ ms)) → IsOf x (drop (since a b ms) (lives_in (y ∷ ms)))
  now_in x i = subst (λ (n : ℕ). IsOf x (drop n (lives_in (y ∷ ms)))) (since_on a b y ms none) i

  in_now : (x : Life) → IsOf x (drop (since a b ms) (lives_in (y ∷ ms))) → IsOf x (present_in a b (y ∷ ms))
  in_now x i = subst (λ (n : ℕ). IsOf x (drop n (lives_in (y ∷ ms)))) (sym (since_on a b y ms none)) i

  pub left_r : stay.stays a b (events_of (y ∷ ms)) ≡ false → Away a b (lives_in ms) (lives_in (y ∷ ms))
      → ((x : Life) → IsOf x (present_in a b ms) → x.host ≡ a → x.peer ≡ b → receives x ≡ true → PresentR a b Own Heard ms j x)
      → (x : Life) → IsOf x (present_in a b (y ∷ ms)) → x.host ≡ a → x.peer ≡ b → receives x ≡ true → PresentR a b Own Heard (y ∷ ms) k x
  left_r off away receiving x i f g q =
      let w : Was a b (since a b ms) (lives_in ms) x = was_there a b _ _ _ (since_bound a b ms) away x (now_in x i) f g in
      let kind : receives w.life ≡ true = ap receives (sym w.is) ∙ q in
      subst (λ (v : Life). PresentR a b Own Heard (y ∷ ms) k v) (sym w.is) (leaving_r w.life off (receiving w.life w.there w.host w.peer kind))

  pub left_s : stay.stays b a (events_of (y ∷ ms)) ≡ false → Away b a (lives_in ms) (lives_in (y ∷ ms))
      → ((s : Life) → IsOf s (present_in a b ms) → s.host ≡ b → s.peer ≡ a → sends s ≡ true → PresentS a b Own Heard ms j s)
      → (s : Life) → IsOf s (present_in a b (y ∷ ms)) → s.host ≡ b → s.peer ≡ a → sends s ≡ true → PresentS a b Own Heard (y ∷ ms) k s
  left_s off away sending x i f g q =
      let w : Was b a (since a b ms) (lives_in ms) x = was_there b a _ _ _ (since_bound a b ms) away x (now_in x i) f g in
      let kind : sends w.life ≡ true = ap sends (sym w.is) ∙ q in
      subst (λ (v : Life). PresentS a b Own Heard (y ∷ ms) k v) (sym w.is) (leaving_s w.life (of_drop _ w.life _ w.there) w.host w.peer off (sending w.life w.there w.host w.peer kind))

  pub left_has_r : stay.stays a b (events_of (y ∷ ms)) ≡ false → Away a b (lives_in ms) (lives_in (y ∷ ms)) → (n c : ℕ) → HasR a b Own Heard ms j n c → HasR a b Own Heard (y ∷ ms) k n c
  left_has_r off away n c h = record {
    life = life_ended h.life;
    there = in_now _ (still_there a b _ _ _ (since_bound a b ms) away h.life h.there h.host h.peer);
    host = h.host;
    peer = h.peer;
    kind = h.kind;
    is = leaving_r h.life off h.is;
    link = h.link;
    name = h.name;
  }

  pub left_has_s : stay.stays b a (events_of (y ∷ ms)) ≡ false → Away b a (lives_in ms) (lives_in (y ∷ ms)) → (n c : ℕ) → HasS a b Own Heard ms j n c → HasS a b Own Heard (y ∷ ms) k n c
  left_has_s off away n c h = record {
    life = life_ended h.life;
    there = in_now _ (still_there b a _ _ _ (since_bound a b ms) away h.life h.there h.host h.peer);
    host = h.host;
    peer = h.peer;
    kind = h.kind;
    is = leaving_s h.life (of_drop _ h.life _ h.there) h.host h.peer off h.is;
    link = h.link;
    name = h.name;
  }
