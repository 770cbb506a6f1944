-- Requests by the places where they went out, connection by connection: what the clauses of a safe book ask of them.
use Rattle.world_keeps_streams.proofs.Common.{◌≡◌, ℕ, true, false, List, [], ◌∷◌, refl, subst, Host, Moment, Crossed, Asked, event_in, events_of, crossings_of, origin_in, Network, AreOurs}
use Rattle.promise.specs.Safe.{Match, receives}
use Rattle.reset_law.specs.Stays as stay
use Rattle.promise.specs.declared.life.Life.{Life}
use Rattle.world_keeps_streams.proofs.Lives.Lists.{IsOf, contains}
use Rattle.world_keeps_streams.proofs.Requests.Names.{matched, origin_grows}
use Rattle.world_keeps_streams.proofs.Requests.Sides as sides
use Rattle.world_keeps_streams.proofs.Requests.Sides.{Lawful, heard_on, lives_in, own_on, below}
use Rattle.world_keeps_streams.proofs.Ours.{ours_of}

-- the origin of a life's partner's request stays the same by a moment
origin_on : (hosts : Network) (y : Moment) (ms : List Moment) → Lawful hosts ms → (b a : Host) → AreOurs hosts b a
    → (s : Life) → IsOf s (lives_in ms) → s.host ≡ b → s.peer ≡ a
    → origin_in (crossings_of (y ∷ ms)) b a s.partner_stamp ≡ origin_in (crossings_of ms) b a s.partner_stamp
origin_on hosts (Asked h r) ms l b a ours s i f g = refl
origin_on hosts (Crossed c) ms l b a ours s i f g =
    subst (λ (h : Host). origin_in (c ∷ crossings_of ms) h a s.partner_stamp ≡ origin_in (crossings_of ms) h a s.partner_stamp) f
    (subst (λ (p : Host). origin_in (c ∷ crossings_of ms) s.host p s.partner_stamp ≡ origin_in (crossings_of ms) s.host p s.partner_stamp) g
    (origin_grows hosts ms l (c ∷ []) s (ours_of hosts s b a ours (f, g)) (contains s (lives_in ms) i)))

-- ---- by the law of pairing

module _ (hosts : Network) (a b : Host) (ours : AreOurs hosts a b) where
  pub own_law_on : (y : Moment) (ms : List Moment) → Lawful hosts (y ∷ ms) → stay.begins a b (event_in y) (events_of ms) ≡ false → (receive send stamp g : ℕ) → sides.Own a b ms receive send stamp g → sides.Own a b (y ∷ ms) receive send stamp g
  own_law_on y ms l none receive send stamp g o = own_on a b y ms none receive send g stamp o

  pub heard_law_on : (y : Moment) (ms : List Moment) → Lawful hosts (y ∷ ms) → stay.begins a b (event_in y) (events_of ms) ≡ false → (s : Life) → IsOf s (lives_in ms) → s.host ≡ b → s.peer ≡ a → (g : ℕ)
      → sides.Heard a b ms s.foreign s.socket s.partner_stamp g → sides.Heard a b (y ∷ ms) s.foreign s.socket s.partner_stamp g
  heard_law_on y ms l none s i f h g o = heard_on a b y ms none s.foreign s.socket g s.partner_stamp (origin_on hosts y ms (below hosts y ms l) b a (ours.1, ours.0) s i f h) o

  pub matched_law : (ms : List Moment) → Lawful hosts ms → (x s : Life) (g : ℕ) → IsOf x (lives_in ms) → IsOf s (lives_in ms) → (x.host ≡ a) × (x.peer ≡ b) → (s.host ≡ b) × (s.peer ≡ a) → (x.socket ≡ s.foreign) × (x.foreign ≡ s.socket)
      → receives x ≡ true → sides.Own a b ms x.socket x.foreign x.own_stamp g → sides.Heard a b ms s.foreign s.socket s.partner_stamp g → Match (crossings_of ms) x s
  matched_law ms l x s g i j of_a of_b ends receiving own heard =
      matched hosts ms l a b ours x s g (contains x _ i) (contains s _ j) of_a of_b ends receiving own heard
