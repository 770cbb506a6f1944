-- The lives of two hosts that stay, as a safe book asks for them.
use Rattle.world_keeps_streams.proofs.Common.{◌≡◌, inl, inr, ℕ, zero, suc, ◌≤◌, ◌==◌, true, false, List, [], ◌∷◌, drop, refl, sym, subst, arith, Host, is_receive_socket, AreAllowed, gone_now, numbered, receiver_now, sender_now, Asks, Mark, Side, pair_with, Moment, events_of, program, crossings_of, Coupled, law_events, origin_in, own_calls, numbered_by_peer, Network, AreOurs, ArePaired}
use Rattle.pairing_law.specs.Links.{Sockets, Who, Receiver, Sender}
use Rattle.world_keeps_pairing.proofs.lemmas.{are_origins, at_texts, even_odd, foreign_of, half, other, own_of, receiver_half, sender_half, served_in, IsPair, other_sends}
use Rattle.reset_law.specs.Stays as stay
use Rattle.promise.specs.Safe.{receives, sends}
use Rattle.promise.specs.declared.life.Life.{Life}
use Rattle.world_keeps_streams.proofs.Carried.Streams.{IsSent, IsTaken}
use Rattle.world_keeps_streams.proofs.Carried.Calls as carried
use Rattle.world_keeps_streams.proofs.Carried.Calls.{Carries, Named}
use Rattle.world_keeps_streams.proofs.Carried.Step.{CarriedOn}
use Rattle.world_keeps_streams.proofs.Calls.Chain.{Chained, chain}
use Rattle.world_keeps_streams.proofs.Deeds.Effects.{Among}
use Rattle.world_keeps_streams.proofs.Books.Given.{Lives}
use Rattle.world_keeps_streams.proofs.Lives.Lists.{IsOf, contains, of_drop}
use Rattle.world_keeps_streams.proofs.Lives.Since.{NoneBegin, drop_more, dropped_first, recent_present, since_either}
use Rattle.world_keeps_streams.proofs.Requests.Own.{own_is_of}
use Rattle.world_keeps_streams.proofs.Requests.Sides.{Heard, Lawful, Own, coupled_in, lives_in}
use Rattle.world_keeps_streams.proofs.Books.Whole.{Away, HasReceives, HasSends, Receives, Sends, present_in, since}
use Rattle.world_keeps_streams.proofs.Heard.Alike.{heard_marks}
use Rattle.world_keeps_streams.proofs.Heard.Calls.{own_may}
use Rattle.world_keeps_streams.proofs.Steps.JoinedAll.{joined}
use Rattle.world_keeps_streams.proofs.Facts.{no_zero}
use Rattle.world_keeps_streams.proofs.Lives.Among.{life_paired}
use Rattle.world_keeps_streams.proofs.Ours.{ours_of}

-- ---- words

to_among : (x : Life) (xs : List Life) → IsOf x xs → Among x xs
to_among x [] i = absurd i
to_among x (y ∷ ys) (inl e) = inl (sym e)
to_among x (y ∷ ys) (inr i) = inr (to_among x ys i)

pub from_among : (x : Life) (xs : List Life) → Among x xs → IsOf x xs
from_among x [] i = absurd i
from_among x (y ∷ ys) (inl e) = inl (sym e)
from_among x (y ∷ ys) (inr i) = inr (from_among x ys i)

-- ---- what the calls of a host that stays heard, its side of the law of pairing has heard

module _ (hosts : Network) (ms : List Moment) (l : Lawful hosts ms) (h p : Host) (ours : AreOurs hosts h p)
    (number : ℕ → ℕ → ℕ → ℕ) (allowed : AreAllowed number p 1 (own_calls h p ms))
    (stays : stay.stays h p (events_of ms) ≡ true) where
  law_heard : (s : Sockets) (q : IsPair s) (who : Who) (g stamp : ℕ) → Named number p (own_calls h p ms) (own_of who s) (foreign_of who s) g stamp
      → Asks g (origin_in (crossings_of ms) h p stamp) (half h p (at_texts s who) (at_texts s (other who)) (law_events ms)).heard
  law_heard s q who g stamp named =
      let c : Chained h p ms = chain hosts l.0 ms l.1 l.2 h p ours in
      subst (λ (w : List Mark). Asks g (origin_in (crossings_of ms) h p stamp) w) (sym (heard_marks s q who h p (origin_in (crossings_of ms)) hosts l.0 ours ms l.1 l.2 (are_origins 0 (crossings_of ms) [] ms refl) stays))
      (named 1 c.0 allowed (own_may hosts l.0 ms l.1 l.2 h p ours) (origin_in (crossings_of ms) h p))

-- ---- sockets

life_pair : (hosts : Network) (ms : List Moment) → Lawful hosts ms → (x : Life) → AreOurs hosts x.host x.peer
    → IsOf x (lives_in ms) → ArePaired x
life_pair hosts ms l x ours i =
    let c : Coupled hosts ms = coupled_in hosts ms l in
    life_paired hosts ms c.story c.run l.1 (served_in hosts ms l.2) x ours (contains x (lives_in ms) i)

foreign_receives : (x : Life) → sends x ≡ true → ArePaired x → is_receive_socket x.foreign ≡ true
foreign_receives x s (inl p) = absurd (even_odd x.socket p.0 s)
foreign_receives x s (inr p) = p.1

-- ---- lives

module _ (hosts : Network) (a b : Host) (ours : AreOurs hosts a b) (mine : (ms : List Moment) → Lawful hosts ms → Carries numbered a b ms) (theirs : (ms : List Moment) → Lawful hosts ms → Carries numbered_by_peer b a ms)
    (none_mine : NoneBegin hosts a b) (none_theirs : NoneBegin hosts b a) where
  -- ---- one life

  abbrev Mine : List Moment → ℕ → ℕ → Life → Type 0
  Mine ms link g x = CarriedOn (Named numbered b (own_calls a b ms)) numbered (gone_now b (own_calls a b ms)) (pair_with b (program a ms).peers).entries (λ n. receiver_now numbered b n (own_calls a b ms)) (λ n. sender_now numbered b n (own_calls a b ms)) link g x

  abbrev Theirs : List Moment → ℕ → ℕ → Life → Type 0
  Theirs ms link g x = CarriedOn (Named numbered_by_peer a (own_calls b a ms)) numbered_by_peer (gone_now a (own_calls b a ms)) (pair_with a (program b ms).peers).entries (λ n. receiver_now numbered_by_peer a n (own_calls b a ms)) (λ n. sender_now numbered_by_peer a n (own_calls b a ms)) link g x

  module _ (ms : List Moment) (l : Lawful hosts ms) where
    own_request : stay.stays a b (events_of ms) ≡ true → (link g : ℕ) (x : Life) → IsOf x (lives_in ms) → x.host ≡ a → x.peer ≡ b → receives x ≡ true → Mine ms link g x → Own a b ms x.socket x.foreign x.own_stamp g
    own_request stays link g x i f k r c =
        let allowed : AreAllowed numbered b 1 (own_calls a b ms) = (joined 1 refl hosts l.0 a b ours ms l.1 l.2).allowed_a stays in
        own_is_of hosts ms l a b ours x g i (f, k) r
        (subst (λ (y : Side). Asks g (origin_in (crossings_of ms) a b x.partner_stamp) y.heard) (sym (receiver_half (record { receive = x.socket; send = x.foreign }) a b (law_events ms)))
        (law_heard hosts ms l a b ours numbered allowed stays (record { receive = x.socket; send = x.foreign }) (r, other_sends x r (life_pair hosts ms l x (ours_of hosts x a b ours (f, k)) i)) Receiver g x.partner_stamp c.named))

    heard_request : stay.stays b a (events_of ms) ≡ true → (link g : ℕ) (x : Life) → IsOf x (lives_in ms) → x.host ≡ b
        → x.peer ≡ a → sends x ≡ true → Theirs ms link g x → Heard a b ms x.foreign x.socket x.partner_stamp g
    heard_request stays link g x i f k r c =
        let allowed : AreAllowed numbered_by_peer a 1 (own_calls b a ms) = (joined 1 refl hosts l.0 a b ours ms l.1 l.2).allowed_b stays in
        subst (λ (y : Side). Asks g (origin_in (crossings_of ms) b a x.partner_stamp) y.heard) (sym (sender_half (record { receive = x.foreign; send = x.socket }) a b (law_events ms)))
        (law_heard hosts ms l b a (ours.1, ours.0) numbered_by_peer allowed stays (record { receive = x.foreign; send = x.socket }) (foreign_receives x r (life_pair hosts ms l x (ours_of hosts x b a (ours.1, ours.0) (f, k)) i), r) Sender g x.partner_stamp c.named)

    abbrev receives_on : stay.stays a b (events_of ms) ≡ true → (n g : ℕ) (x : Life) → IsOf x (lives_in ms) → x.host ≡ a → x.peer ≡ b → receives x ≡ true → Mine ms (suc n) g x → Receives a b (Own a b) (Heard a b) ms x
    receives_on stays n g x i f k r c =
        let t : IsTaken (numbered x.socket x.foreign g) (receiver_now numbered b (suc n) (own_calls a b ms)) x = c.taken r in
        record {
          link = n;
          g = g;
          took = record {
            bits = t.bits;
            messages = t.messages;
            granted_messages = t.granted_messages;
            granted_bits = t.granted_bits;
            returned_messages = t.returned_messages;
            returned_bits = t.returned_bits;
          };
          own = own_request stays (suc n) g x i f k r c;
          gone = c.goes;
          over = c.over;
          linked = c.linked;
        }

    abbrev sends_on : stay.stays b a (events_of ms) ≡ true → (n g : ℕ) (x : Life) → IsOf x (lives_in ms) → x.host ≡ b → x.peer ≡ a → sends x ≡ true → Theirs ms (suc n) g x → Sends a b (Own a b) (Heard a b) ms x
    sends_on stays n g x i f k r c =
        let t : IsSent (numbered_by_peer x.socket x.foreign g) (sender_now numbered_by_peer a (suc n) (own_calls b a ms)) x = c.sent r in
        record {
          link = n;
          g = g;
          gave = record {
            bits = t.bits;
            messages = t.messages;
          };
          heard = heard_request stays (suc n) g x i f k r c;
          gone = c.over;
        }

  -- ---- lives that are there

  carried_r : (ms : List Moment) → Lawful hosts ms → stay.stays a b (events_of ms) ≡ true → (x : Life) → IsOf x (present_in a b ms) → x.host ≡ a → x.peer ≡ b → receives x ≡ true → Receives a b (Own a b) (Heard a b) ms x
  carried_r ms l stays x i f k r =
      let there : IsOf x (drop (carried.since a b ms) (lives_in ms)) = drop_more (carried.since a b ms) (since a b ms) x (lives_in ms) (dropped_first hosts a b ours ms l stays) i in
      let c : (link : ℕ) × (g : ℕ) × Mine ms link g x = (mine ms l).all x (to_among x (drop (carried.since a b ms) (lives_in ms)) there) f k in
      by c.0 c.1 c.2 where
        by : (link g : ℕ) → Mine ms link g x → Receives a b (Own a b) (Heard a b) ms x
        by zero g c = absurd (let no : (0 == 0) ≡ false = c.other in cc)
        by (suc n) g c = receives_on ms l stays n g x (of_drop (since a b ms) x (lives_in ms) i) f k r c

  carried_s : (ms : List Moment) → Lawful hosts ms → stay.stays b a (events_of ms) ≡ true → (s : Life) → IsOf s (present_in a b ms) → s.host ≡ b → s.peer ≡ a → sends s ≡ true → Sends a b (Own a b) (Heard a b) ms s
  carried_s ms l stays s i f k r =
      let less : carried.since b a ms ≤ since a b ms = subst (λ (n : ℕ). carried.since b a ms ≤ n) (since_either a b ms) (dropped_first hosts b a (ours.1, ours.0) ms l stays) in
      let there : IsOf s (drop (carried.since b a ms) (lives_in ms)) = drop_more (carried.since b a ms) (since a b ms) s (lives_in ms) less i in
      let c : (link : ℕ) × (g : ℕ) × Theirs ms link g s = (theirs ms l).all s (to_among s (drop (carried.since b a ms) (lives_in ms)) there) f k in
      by c.0 c.1 c.2 where
        by : (link g : ℕ) → Theirs ms link g s → Sends a b (Own a b) (Heard a b) ms s
        by zero g c = absurd (let no : (0 == 0) ≡ false = c.other in cc)
        by (suc n) g c = sends_on ms l stays n g s (of_drop (since a b ms) s (lives_in ms) i) f k r c

  -- ---- what was granted has a life, and so has what was sent

  pub taken_by : (ms : List Moment) → Lawful hosts ms → stay.stays a b (events_of ms) ≡ true → (n c : ℕ) → 1 ≤ ((receiver_now numbered b (suc n) (own_calls a b ms)).granted c).messages → HasReceives a b (Own a b) (Heard a b) ms n c
  taken_by ms l stays n c some =
      elim ((mine ms l).takes (suc n) (no_zero n) c) [
        | inl u ↦ absurd (let no : ((receiver_now numbered b (suc n) (own_calls a b ms)).granted c).messages ≡ 0 = u.granted_messages in omega (arith, some, no))
        | inr v ↦
            (let there : IsOf v.0.life (present_in a b ms) = (recent_present hosts a b ours none_mine ms l v.0.life (from_among v.0.life (drop (carried.since a b ms) (lives_in ms)) v.0.there) v.0.host v.0.peer).1 in
            record {
              life = v.0.life;
              there = there;
              host = v.0.host;
              peer = v.0.peer;
              kind = v.1;
              is = receives_on ms l stays n v.0.gone_before v.0.life (of_drop (since a b ms) v.0.life (lives_in ms) there) v.0.host v.0.peer v.1 v.0.carried;
              link = refl;
              name = v.0.is;
            })
      ]

  pub sent_by : (ms : List Moment) → Lawful hosts ms → stay.stays b a (events_of ms) ≡ true → (n c : ℕ) → ((sender_now numbered_by_peer a (suc n) (own_calls b a ms)).sent c ≡ [] → ⊥) → HasSends a b (Own a b) (Heard a b) ms n c
  sent_by ms l stays n c some =
      elim ((theirs ms l).sends (suc n) (no_zero n) c) [
        | inl u ↦ absurd (some u)
        | inr v ↦
            (let there : IsOf v.0.life (present_in a b ms) =
            subst (λ (k : ℕ). IsOf v.0.life (drop k (lives_in ms))) (since_either a b ms)
            (recent_present hosts b a (ours.1, ours.0) none_theirs ms l v.0.life (from_among v.0.life (drop (carried.since b a ms) (lives_in ms)) v.0.there) v.0.host v.0.peer).1 in
            record {
              life = v.0.life;
              there = there;
              host = v.0.host;
              peer = v.0.peer;
              kind = v.1;
              is = sends_on ms l stays n v.0.gone_before v.0.life (of_drop (since a b ms) v.0.life (lives_in ms) there) v.0.host v.0.peer v.1 v.0.carried;
              link = refl;
              name = v.0.is;
            })
      ]

  -- ---- so what is left is asked of a host that leaves, or has left

  pub lives : ((y : Moment) (ms : List Moment) → Lawful hosts (y ∷ ms) → stay.stays a b (events_of (y ∷ ms)) ≡ false → Away a b (lives_in ms) (lives_in (y ∷ ms)))
      → ((y : Moment) (ms : List Moment) → Lawful hosts (y ∷ ms) → stay.stays b a (events_of (y ∷ ms)) ≡ false → Away b a (lives_in ms) (lives_in (y ∷ ms))) → Lives hosts a b
  lives away_r away_s = record { carried_r = carried_r; carried_s = carried_s; taken_by = taken_by; sent_by = sent_by; away_r = away_r; away_s = away_s }
