-- The own request of a receiving life: it is that of the connection whose partner's request its host took.
use Rattle.world_keeps_streams.proofs.Common.{◌≡◌, inl, inr, ℕ, ◌<◌, ◌≤◌, ◌&&◌, Bool, true, if◌then◌else◌, List, [], ap, sym, subst, ◌∙◌, arith, Contains, Host, is_receive_socket, is_send_socket, receiver, sender, Asks, IsIn, Side, Joined, Stands, Stood, asks_once, asks_said, every_in, from_asks, Moment, crossings_of, Coupled, law_events, origin_in, life_of, openings, steps, served_in, other_sends, Network, AreOurs}
use Rattle.pairing_law.specs.Sides as law
use Rattle.promise.specs.declared.life.Life.{Life}
use Rattle.promise.specs.Safe.{receives}
use Rattle.world_keeps_streams.proofs.Lives.Lists.{IsOf, contains}
use Rattle.world_keeps_streams.proofs.Requests.Sides.{Lawful, Own, coupled_in, law_joined, lives_in}
use Rattle.world_keeps_streams.proofs.Lives.Among.{life_in, life_paired}
use Rattle.world_keeps_streams.proofs.Ours.{ours_of}

-- an opened end whose partner's request of connection `g` was heard in this stay asked for `g` itself
stood_own : (a b : Side) (x : law.Life) (g : ℕ) → Joined a b → IsIn x a.lives → Asks g x.partner a.heard → Asks g x.own a.said
stood_own a b x g j i heard =
    by (every_in _ x a.lives j.here.lived.stands i).stood where
      said : Asks g x.partner b.said
      said = asks_said g x.partner a.heard b.said j.here.older heard

      by : Stood j.floor j.other a.said a.heard x → Asks g x.own a.said
      by (inl old) = absurd (let l : x.partner < j.other = old.1 in let m : j.other ≤ x.partner = from_asks g j.other x.partner b.said j.there.from said in omega (arith, l, m))
      by (inr new) =
          subst (λ (k : ℕ). Asks k x.own a.said)
          (asks_once new.0 g x.partner b.said j.there.grows (asks_said new.0 x.partner a.heard b.said j.here.older new.2) said) new.1

-- a receiving life is one of the receiver's ends
receiver_in : (y : law.Life) (x : Life) (ms : List Moment) → receives x ≡ true → is_send_socket x.foreign ≡ true → IsIn y (openings x.host x.peer x.socket x.foreign ms)
    → IsIn y (receiver (record { receive = x.socket; send = x.foreign }) (steps x.host x.peer (law_events ms))).lives
receiver_in y x ms r s i =
    subst (λ (v : Bool). IsIn y (if v then (receiver (record { receive = x.socket; send = x.foreign }) (steps x.host x.peer (law_events ms))).lives
    else (if is_send_socket x.socket && is_receive_socket x.foreign then (sender (record { receive = x.foreign; send = x.socket }) (steps x.peer x.host (law_events ms))).lives else [])))
    (ap (λ (v : Bool). v && is_send_socket x.foreign) r ∙ s) i

-- the partner's request of a connection, that the receiver heard
abbrev pub Took : Host → Host → List Moment → ℕ → ℕ → ℕ → ℕ → Type 0
Took a b ms receive send stamp g = Asks g (origin_in (crossings_of ms) a b stamp) (receiver (record { receive = receive; send = send }) (steps a b (law_events ms))).heard

module _ (hosts : Network) (ms : List Moment) (l : Lawful hosts ms) where
  own_at : (x : Life) (g : ℕ) → AreOurs hosts x.host x.peer → Contains (lives_in ms) x → receives x ≡ true
      → Took x.host x.peer ms x.socket x.foreign x.partner_stamp g
      → Own x.host x.peer ms x.socket x.foreign x.own_stamp g
  own_at x g ours there r took =
      let c : Coupled hosts ms = coupled_in hosts ms l in
      stood_own _ _
      _ g (law_joined hosts ms l x.host x.peer ours _)
      (receiver_in _ x ms r (other_sends x r (life_paired hosts ms c.story c.run l.1 (served_in hosts ms l.2) x ours there))
      (life_in hosts ms c.story c.run l.1 (served_in hosts ms l.2) 0 x ours there)) took

  pub own_of : (a b : Host) → AreOurs hosts a b → (x : Life) (g : ℕ) → Contains (lives_in ms) x
      → (x.host ≡ a) × (x.peer ≡ b) → receives x ≡ true → Took a b ms x.socket x.foreign x.partner_stamp g
      → Own a b ms x.socket x.foreign x.own_stamp g
  own_of a b ours x g there of_a r took =
      subst (λ (h : Host). Own h b ms x.socket x.foreign x.own_stamp g) of_a.0
      (subst (λ (p : Host). Own x.host p ms x.socket x.foreign x.own_stamp g) of_a.1
      (own_at x g (ours_of hosts x a b ours of_a) there r
      (subst (λ (p : Host). Took x.host p ms x.socket x.foreign x.partner_stamp g) (sym of_a.1)
      (subst (λ (h : Host). Took h b ms x.socket x.foreign x.partner_stamp g) (sym of_a.0) took))))

  pub own_is_of : (a b : Host) → AreOurs hosts a b → (x : Life) (g : ℕ) → IsOf x (lives_in ms)
      → (x.host ≡ a) × (x.peer ≡ b) → receives x ≡ true → Took a b ms x.socket x.foreign x.partner_stamp g
      → Own a b ms x.socket x.foreign x.own_stamp g
  own_is_of a b ours x g i of_a r took = own_of a b ours x g (contains x _ i) of_a r took
