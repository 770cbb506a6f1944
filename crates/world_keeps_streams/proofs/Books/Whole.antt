-- What the book has of two hosts, one that receives and one that sends, beside the streams of their links.
use Rattle.world_keeps_streams.proofs.Common.{◌≡◌, inl, inr, ℕ, suc, ◌≤◌, Bool, true, false, List, [], ◌∷◌, ◌++◌, length, map, drop, if◌then◌else◌, Some, refl, ap, sym, subst, ◌∙◌, Host, Entry, gone_now, numbered, receiver_now, sender_now, pair_with, life_ended, Moment, event_in, events_of, program, own_calls}
use Rattle.stream_law.specs.Receivers.{Receiver}
use Rattle.stream_law.specs.Senders.{Sender}
use Rattle.reset_law.specs.Stays as stay
use Rattle.promise.specs.Safe as book
use Rattle.promise.specs.Safe.{receives, sends}
use Rattle.promise.specs.declared.life.Life.{Life}
use Rattle.world_keeps_streams.proofs.Steps.Joined.{Joined, numbered_by_peer}
use Rattle.world_keeps_streams.proofs.Carried.Streams.{all_bits}
use Rattle.world_keeps_streams.proofs.Deeds.Effects.{Among}
use Rattle.world_keeps_streams.proofs.Lives.Lists.{IsOf, of_drop, of_either, of_left, of_map, of_mapped, drop_grown}
use Rattle.world_keeps_streams.proofs.Requests.Sides.{lives_in}

-- how many lives there were when both met last
abbrev pub since : Host → Host → List Moment → ℕ
since a b [] = 0
since a b (y ∷ ms) = if stay.begins a b (event_in y) (events_of ms) then length (lives_in ms) else since a b ms

abbrev pub present_in : Host → Host → List Moment → List Life
present_in a b ms = drop (since a b ms) (lives_in ms)

-- a receiving life has what the law's receiver has of its connection
pub record Took (x : Life) (r : Receiver) (c : ℕ) : Type 0 where
  pub bits : x.bits ≡ all_bits (r.taken c)
  pub messages : x.messages ≡ length (r.taken c)
  pub granted_messages : x.granted.messages ≡ (r.granted c).messages
  pub granted_bits : x.granted.bits ≡ (r.granted c).bits
  pub returned_messages : x.returned.messages ≡ (r.returned c).messages
  pub returned_bits : x.returned.bits ≡ (r.returned c).bits

-- a sending life has what the law's sender has
pub record Gave (x : Life) (s : Sender) (c : ℕ) : Type 0 where
  pub bits : x.bits ≡ all_bits (s.sent c)
  pub messages : x.messages ≡ length (s.sent c)

-- a host leaves, or has left: its lives with the peer end, and no new one begins
pub record Away (h p : Host) (old new : List Life) : Type 0 where
  pub change : Life → Life
  pub more : List Life
  pub is : new ≡ map change old ++ more
  pub names : (x : Life) → ((change x).host ≡ x.host) × ((change x).peer ≡ x.peer)
  pub over : (x : Life) → IsOf x old → x.host ≡ h → x.peer ≡ p → change x ≡ life_ended x
  pub none : (x : Life) → IsOf x more → x.host ≡ h → x.peer ≡ p → ⊥

pub record Was (h p : Host) (n : ℕ) (old : List Life) (x : Life) : Type 0 where
  pub life : Life
  pub there : IsOf life (drop n old)
  pub host : life.host ≡ h
  pub peer : life.peer ≡ p
  pub is : x ≡ life_ended life

pub nil_bits : (bs : List Bool) → bs ++ [] ≡ bs
nil_bits [] = refl
nil_bits (v ∷ bs) = ap (λ (vs : List Bool). v ∷ vs) (nil_bits bs)

-- the lives of `a` and `b` are named by requests: `Own` of the receiver's, `Heard` of those that the sender took
module _ (a b : Host) (Own Heard : List Moment → ℕ → ℕ → ℕ → ℕ → Type 0) where
  -- a life of a host that stays
  pub record Receives (ms : List Moment) (x : Life) : Type 0 where
    pub link : ℕ
    pub g : ℕ
    pub took : Took x (receiver_now numbered b (suc link) (own_calls a b ms)) (numbered x.socket x.foreign g)
    pub own : Own ms x.socket x.foreign x.own_stamp g
    pub gone : x.ended ≡ false → g ≡ gone_now b (own_calls a b ms) x.socket x.foreign
    pub over : x.ended ≡ true → suc g ≤ gone_now b (own_calls a b ms) x.socket x.foreign
    pub linked : x.ended ≡ false → (e : Entry) → Among e (pair_with b (program a ms).peers).entries → e.mine ≡ true → e.own ≡ x.socket → e.link ≡ Some (suc link)

  pub record Sends (ms : List Moment) (s : Life) : Type 0 where
    pub link : ℕ
    pub g : ℕ
    pub gave : Gave s (sender_now numbered_by_peer a (suc link) (own_calls b a ms)) (numbered s.foreign s.socket g)
    pub heard : Heard ms s.foreign s.socket s.partner_stamp g
    pub gone : s.ended ≡ true → suc g ≤ gone_now a (own_calls b a ms) s.socket s.foreign

  pub record HasReceives (ms : List Moment) (n c : ℕ) : Type 0 where
    pub life : Life
    pub there : IsOf life (present_in a b ms)
    pub host : life.host ≡ a
    pub peer : life.peer ≡ b
    pub kind : receives life ≡ true
    pub is : Receives ms life
    pub link : is.link ≡ n
    pub name : numbered life.socket life.foreign is.g ≡ c

  pub record HasSends (ms : List Moment) (n c : ℕ) : Type 0 where
    pub life : Life
    pub there : IsOf life (present_in a b ms)
    pub host : life.host ≡ b
    pub peer : life.peer ≡ a
    pub kind : sends life ≡ true
    pub is : Sends ms life
    pub link : is.link ≡ n
    pub name : numbered life.foreign life.socket is.g ≡ c

  -- one that continues is of the connection of its end, and has all that the law's receiver took
  pub record GoesOn (ms : List Moment) (j : (n : ℕ) → Joined a b (suc n) ms) (link g : ℕ) (x : Life) : Type 0 where
    pub bits : x.bits ≡ all_bits ((j link).x.receiver.taken (numbered x.socket x.foreign g))
    pub messages : x.messages ≡ length ((j link).x.receiver.taken (numbered x.socket x.foreign g))
    pub gone : g ≡ gone_now b (own_calls a b ms) x.socket x.foreign
    pub linked : (e : Entry) → Among e (pair_with b (program a ms).peers).entries → e.mine ≡ true → e.own ≡ x.socket → e.link ≡ Some (suc link)

  -- a life since both met, whether its host stays or not
  pub record PresentR (ms : List Moment) (j : (n : ℕ) → Joined a b (suc n) ms) (x : Life) : Type 0 where
    pub link : ℕ
    pub g : ℕ
    pub bits : book.IsPrefix x.bits (all_bits ((j link).x.receiver.taken (numbered x.socket x.foreign g)))
    pub granted_messages : x.granted.messages ≡ ((j link).x.receiver.granted (numbered x.socket x.foreign g)).messages
    pub granted_bits : x.granted.bits ≡ ((j link).x.receiver.granted (numbered x.socket x.foreign g)).bits
    pub returned_messages : x.returned.messages ≡ ((j link).x.receiver.returned (numbered x.socket x.foreign g)).messages
    pub returned_bits : x.returned.bits ≡ ((j link).x.receiver.returned (numbered x.socket x.foreign g)).bits
    pub own : Own ms x.socket x.foreign x.own_stamp g
    pub over : stay.stays a b (events_of ms) ≡ false → x.ended ≡ true
    pub going : x.ended ≡ false → GoesOn ms j link g x
    -- where its CLS was heard it has all that was taken, also where its host has left
    pub settled : (j link).x.receiver.over (numbered x.socket x.foreign g) ≡ true → (x.bits ≡ all_bits ((j link).x.receiver.taken (numbered x.socket x.foreign g))) × (x.messages ≡ length ((j link).x.receiver.taken (numbered x.socket x.foreign g)))

  pub record PresentS (ms : List Moment) (j : (n : ℕ) → Joined a b (suc n) ms) (s : Life) : Type 0 where
    pub link : ℕ
    pub g : ℕ
    pub gave : Gave s (j link).x.sender (numbered s.foreign s.socket g)
    pub heard : Heard ms s.foreign s.socket s.partner_stamp g
    pub over : stay.stays b a (events_of ms) ≡ false → s.ended ≡ true

  pub record HasR (ms : List Moment) (j : (n : ℕ) → Joined a b (suc n) ms) (n c : ℕ) : Type 0 where
    pub life : Life
    pub there : IsOf life (present_in a b ms)
    pub host : life.host ≡ a
    pub peer : life.peer ≡ b
    pub kind : receives life ≡ true
    pub is : PresentR ms j life
    pub link : is.link ≡ n
    pub name : numbered life.socket life.foreign is.g ≡ c

  pub record HasS (ms : List Moment) (j : (n : ℕ) → Joined a b (suc n) ms) (n c : ℕ) : Type 0 where
    pub life : Life
    pub there : IsOf life (present_in a b ms)
    pub host : life.host ≡ b
    pub peer : life.peer ≡ a
    pub kind : sends life ≡ true
    pub is : PresentS ms j life
    pub link : is.link ≡ n
    pub name : numbered life.foreign life.socket is.g ≡ c

  -- what all of them are
  pub record Whole (ms : List Moment) : Type 0 where
    pub j : (n : ℕ) → Joined a b (suc n) ms
    pub bound : since a b ms ≤ length (lives_in ms)
    pub receiving : (x : Life) → IsOf x (present_in a b ms) → x.host ≡ a → x.peer ≡ b → receives x ≡ true → PresentR ms j x
    pub sending : (s : Life) → IsOf s (present_in a b ms) → s.host ≡ b → s.peer ≡ a → sends s ≡ true → PresentS ms j s
    pub has_receiver : (n c : ℕ) → 1 ≤ ((j n).x.receiver.granted c).messages → HasR ms j n c
    pub has_sender : (n c : ℕ) → ((j n).x.sender.sent c ≡ [] → ⊥) → HasS ms j n c

  -- ---- while a host stays

  module _ (ms : List Moment) (j : (n : ℕ) → Joined a b (suc n) ms) where
    abbrev pub staying_r : (x : Life) → stay.stays a b (events_of ms) ≡ true → Receives ms x → PresentR ms j x
    staying_r x stays r =
        let c : ℕ = numbered x.socket x.foreign r.g in
        let t : Took x (j r.link).x.receiver (numbered x.socket x.foreign r.g) = subst (λ (v : Receiver). Took x v (numbered x.socket x.foreign r.g)) (sym ((j r.link).received_a stays)) r.took in
        record {
          link = r.link;
          g = r.g;
          bits = ([], nil_bits x.bits ∙ t.bits);
          granted_messages = t.granted_messages;
          granted_bits = t.granted_bits;
          returned_messages = t.returned_messages;
          returned_bits = t.returned_bits;
          own = r.own;
          over = λ off. absurd (let both : true ≡ false = sym stays ∙ off in cc);
          going = λ goes. record { bits = t.bits; messages = t.messages; gone = r.gone goes; linked = r.linked goes };
          settled = λ o. (t.bits, t.messages);
        }

    abbrev pub staying_s : (s : Life) → stay.stays b a (events_of ms) ≡ true → Sends ms s → PresentS ms j s
    staying_s s stays r = record {
      link = r.link;
      g = r.g;
      gave = subst (λ (v : Sender). Gave s v (numbered s.foreign s.socket r.g)) (sym ((j r.link).sent_b stays)) r.gave;
      heard = r.heard;
      over = λ off. absurd (let both : true ≡ false = sym stays ∙ off in cc);
    }

    pub staying_has_r : (n c : ℕ) → stay.stays a b (events_of ms) ≡ true → HasReceives ms n c → HasR ms j n c
    staying_has_r n c stays r = record { life = r.life; there = r.there; host = r.host; peer = r.peer; kind = r.kind; is = staying_r r.life stays r.is; link = r.link; name = r.name }

    pub staying_has_s : (n c : ℕ) → stay.stays b a (events_of ms) ≡ true → HasSends ms n c → HasS ms j n c
    staying_has_s n c stays r = record { life = r.life; there = r.there; host = r.host; peer = r.peer; kind = r.kind; is = staying_s r.life stays r.is; link = r.link; name = r.name }

-- ---- what is there since both met, by a moment by which a host leaves, or after it left

pub was_there : (h p : Host) (n : ℕ) (old new : List Life) → n ≤ length old → (w : Away h p old new) → (x : Life) → IsOf x (drop n new) → x.host ≡ h → x.peer ≡ p → Was h p n old x
was_there h p n old new less w x i f g =
    elim (of_either x _ w.more (subst (λ (l : List Life). IsOf x l) (ap (drop n) w.is ∙ drop_grown w.change n old w.more less) i)) [
      | inl here ↦
          (let m : (v : Life) × IsOf v (drop n old) × (x ≡ w.change v) = of_mapped w.change x _ here in
          let host : m.0.host ≡ h = sym (w.names m.0).0 ∙ ap (λ (v : Life). v.host) (sym m.2) ∙ f in
          let peer : m.0.peer ≡ p = sym (w.names m.0).1 ∙ ap (λ (v : Life). v.peer) (sym m.2) ∙ g in
          record { life = m.0; there = m.1; host = host; peer = peer; is = m.2 ∙ w.over m.0 (of_drop n m.0 old m.1) host peer })
      | inr new_one ↦ absurd (w.none x new_one f g)
    ]

pub still_there : (h p : Host) (n : ℕ) (old new : List Life) → n ≤ length old → (w : Away h p old new) → (x : Life) → IsOf x (drop n old) → x.host ≡ h → x.peer ≡ p → IsOf (life_ended x) (drop n new)
still_there h p n old new less w x i f g =
    subst (λ (l : List Life). IsOf (life_ended x) l) (sym (ap (drop n) w.is ∙ drop_grown w.change n old w.more less))
    (of_left _ _ w.more (subst (λ (v : Life). IsOf v (map w.change (drop n old))) (w.over x (of_drop n x old i) f g) (of_map w.change x _ i)))
