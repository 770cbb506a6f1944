-- What all lives of a book have, by what each socket of each host with a program has.
use Rattle.world_keeps_lives.proofs.Common.{◌≡◌, inl, inr, ℕ, ◌<◌, Bool, true, false, List, [], ◌∷◌, length, slice_index_or, zero, suc, refl, sym, subst, eq-eqb, arith, Contains, Host, same_host, same_host-refl, NcpState, pair_with, Life, Kept, HaveAddresses, AreHanded, receives, IsGranted, Moment, program, crossings_of, EachIn, EachOn, HasOpenEnd, IsBounded, IsLifeOf, IsOwned, IsSafe, NoneOf, at_socket, mine_on, Network, Happened, mixed_kept}
use Rattle.interface.specs.Mailboxes as mail
use Rattle.world_keeps_lives.proofs.Books.{One, each_weaker}
use Rattle.world_keeps_lives.proofs.Hosts.{Holds}
use Rattle.world_keeps_lives.proofs.Among.{AreOwned, all_owned}
use Rattle.world_keeps_lives.proofs.Sockets.{held}

-- ---- lists

abbrev Any : Life → List Bool → Type 0
Any x t = Unit {0}

pub own_socket : (x : Life) → at_socket x.host x.socket x ≡ true
own_socket x = rw (same_host-refl x.host, eq-eqb x.socket x.socket refl) refl

found_from : (a : Host) (k : ℕ) (P : Life → List Bool → Type 0) (lives : List Life) (handed : List (List Bool)) (x : Life) (i : ℕ)
    → i < length lives → slice_index_or lives i x ≡ x → EachOn a k P lives handed
    → (t : List Bool) × (at_socket a k x ≡ true → One P x t)
found_from a k P [] handed x i less is e = absurd (omega (arith, less))
found_from a k P (y ∷ lives) [] x i less is e = absurd e
found_from a k P (y ∷ lives) (t ∷ handed) x zero less is e = (t, subst (λ (z : Life). at_socket a k z ≡ true → One P z t) is e.0)
found_from a k P (y ∷ lives) (t ∷ handed) x (suc i) less is e = found_from a k P lives handed x i (omega (arith, less)) is e.1

found : (a : Host) (k : ℕ) (P : Life → List Bool → Type 0) (lives : List Life) (handed : List (List Bool)) (x : Life)
    → Contains lives x → EachOn a k P lives handed → (t : List Bool) × (at_socket a k x ≡ true → One P x t)
found a k P lives handed x there e = found_from a k P lives handed x there.0 there.1 there.2 e

all_handed : (strange : Host → Bool) (lives : List Life) (handed : List (List Bool)) → AreOwned strange lives handed
    → ((a : Host) → strange a ≡ false → (k : ℕ) → EachOn a k Any lives handed) → AreHanded lives handed
all_handed strange [] [] owned e = refl
all_handed strange [] (t ∷ handed) owned e = absurd owned
all_handed strange (x ∷ lives) [] owned e = absurd owned
all_handed strange (x ∷ lives) (t ∷ handed) owned e = ((λ s. ((e x.host owned.0 x.socket).0 (own_socket x)).0.front s), all_handed strange lives handed owned.1 (λ a plain k. (e a plain k).1))

-- ---- one host

-- what holds of all lives of a socket
pub any_life : (a : Host) (k : ℕ) (s : NcpState) (κ : Kept) → Holds a k s κ → EachIn a k Any κ
any_life a k s κ h = elim h.socket [
  | inl f ↦ each_weaker a k NoneOf Any κ.book.lives κ.handed (λ x t there i. tt) f.lives
  | inr o ↦ each_weaker a k (IsLifeOf o.peer o.end) Any κ.book.lives κ.handed (λ x t there i. tt) o.lives
]

-- a life is safe, and one that isn't over is that of an open end
pub safe_life : (s : NcpState) (κ : Kept) (x : Life) → Contains κ.book.lives x → Holds x.host x.socket s κ
    → (t : List Bool) × IsSafe x t
safe_life s κ x there h =
    let f : (t : List Bool) × (at_socket x.host x.socket x ≡ true → One Any x t) = found x.host x.socket Any κ.book.lives κ.handed x there (any_life x.host x.socket s κ h) in
    (f.0, (f.1 (own_socket x)).0)

pub live_end : (s : NcpState) (κ : Kept) (x : Life) → Contains κ.book.lives x → x.ended ≡ false
    → Holds x.host x.socket s κ → HasOpenEnd s x
live_end s κ x there goes h = elim h.socket [
  | inl f ↦
      (let i : (t : List Bool) × (at_socket x.host x.socket x ≡ true → One NoneOf x t) = found x.host x.socket NoneOf κ.book.lives κ.handed x there f.lives in
      absurd ((i.1 (own_socket x)).1 goes))
  | inr o ↦
      (let i : (t : List Bool) × (at_socket x.host x.socket x ≡ true → One (IsLifeOf o.peer o.end) x t) = found x.host x.socket (IsLifeOf o.peer o.end) κ.book.lives κ.handed x there o.lives in
      its o i.0 ((i.1 (own_socket x)).1 goes))
] where
  its : (o : IsOwned x.host x.socket s κ) → (t : List Bool) → IsLifeOf o.peer o.end x t → HasOpenEnd s x
  its o t i = record {
    end = o.end;
    one = subst (λ (g : Host). mine_on x.socket (pair_with g s.peers).entries ≡ o.end ∷ []) (sym i.peers) o.one;
    others = λ g off. o.others g (subst (λ (h : Host). same_host g h ≡ false) i.peers off);
    foreign = i.foreign;
    own = i.own;
    partner = i.partner;
  }

-- ---- moments

module _ (hosts : Network) (moments : List Moment) (addresses : HaveAddresses hosts.all)
    (run : mail.IsRun hosts.all (crossings_of moments)) (time : Happened hosts moments) where
  pub holds : (a : Host) → hosts.strange a ≡ false → (k : ℕ)
      → Holds a k (program a moments) (mixed_kept hosts.strange moments)
  holds a plain k = held hosts addresses a plain k moments run time

  safe : (x : Life) → hosts.strange x.host ≡ false → Contains (mixed_kept hosts.strange moments).book.lives x
      → (t : List Bool) × IsSafe x t
  safe x plain there = safe_life _ _ x there (holds x.host plain x.socket)

  pub taken : (receiver : Life) → hosts.strange receiver.host ≡ false
      → Contains (mixed_kept hosts.strange moments).book.lives receiver → receives receiver ≡ true
      → IsGranted receiver receiver.messages (length receiver.bits)
  taken x plain there r = (safe x plain there).1.within r

  pub bounded : (receiver : Life) → hosts.strange receiver.host ≡ false
      → Contains (mixed_kept hosts.strange moments).book.lives receiver → receives receiver ≡ true → IsBounded receiver
  bounded x plain there r = (safe x plain there).1.bounded r

  pub live : (x : Life) → hosts.strange x.host ≡ false → Contains (mixed_kept hosts.strange moments).book.lives x
      → x.ended ≡ false → HasOpenEnd (program x.host moments) x
  live x plain there goes = live_end _ _ x there goes (holds x.host plain x.socket)

  any : (a : Host) → hosts.strange a ≡ false → (k : ℕ) → EachIn a k Any (mixed_kept hosts.strange moments)
  any a plain k = any_life a k _ _ (holds a plain k)

  pub handed : AreHanded (mixed_kept hosts.strange moments).book.lives (mixed_kept hosts.strange moments).handed
  handed = all_handed hosts.strange _ _ (all_owned hosts.strange moments) any
