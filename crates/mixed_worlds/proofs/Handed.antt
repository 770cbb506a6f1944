-- What each life of a host that runs the program sent is a prefix of what was handed over in it, whatever its peer
-- sends.
use Rattle.mixed_worlds.proofs.Common.{Host, IsBeside, Life, NcpState, Kept, Holds, same_host-refl, Contains}
use Rattle.std.proofs.Common.{◌≡◌, ◌⊎◌, inl, inr, ℕ, Bool, true, List, [], ◌∷◌, refl, ap, sym, subst, ◌∙◌, eq-eqb, arith, suc}
use Rattle.world_keeps_lives.specs.Lives.{IsFreeSocket, IsOwned, IsSafe, NoneOf, EachOn, IsLifeOf, at_socket}

-- a life of a socket, and what is beside it
beside_safe : (a : Host) (k : ℕ) (P : Life → List Bool → Type 0) (lives : List Life) (handed : List (List Bool))
    → EachOn a k P lives handed → (x : Life) (t : List Bool) → IsBeside x t lives handed → at_socket a k x ≡ true
    → IsSafe x t
beside_safe a k P [] [] each x t i is = absurd i
beside_safe a k P [] (u ∷ handed) each x t i is = absurd i
beside_safe a k P (y ∷ lives) [] each x t i is = absurd i
beside_safe a k P (y ∷ lives) (u ∷ handed) each x t (inl (e, f)) is =
    subst (λ (z : Life). IsSafe z t) (sym e)
    (subst (λ (v : List Bool). IsSafe y v) (sym f) (each.0 (ap (at_socket a k) (sym e) ∙ is)).0)
beside_safe a k P (y ∷ lives) (u ∷ handed) each x t (inr i) is = beside_safe a k P lives handed each.1 x t i is

here : (x : Life) → at_socket x.host x.socket x ≡ true
here x = rw (same_host-refl x.host, eq-eqb x.socket x.socket refl) refl

pub safe_beside : (s : NcpState) (κ : Kept) (x : Life) (t : List Bool) → IsBeside x t κ.book.lives κ.handed
    → Holds x.host x.socket s κ → IsSafe x t
safe_beside s κ x t i h = by h.socket where
  by : IsFreeSocket x.host x.socket s κ ⊎ IsOwned x.host x.socket s κ → IsSafe x t
  by (inl free) = beside_safe x.host x.socket NoneOf κ.book.lives κ.handed free.lives x t i (here x)
  by (inr owned) = beside_safe x.host x.socket (IsLifeOf owned.peer owned.end) κ.book.lives κ.handed owned.lives x t i
      (here x)

pub beside_in : {A : Type 0} (x : Life) (a : A) (lives : List Life) (others : List A) → IsBeside x a lives others
    → Contains lives x
beside_in x a [] others i = absurd i
beside_in x a (y ∷ lives) [] i = absurd i
beside_in x a (y ∷ lives) (b ∷ others) (inl (e, f)) = (0, omega arith, sym e)
beside_in x a (y ∷ lives) (b ∷ others) (inr i) =
    let rest : Contains lives x = beside_in x a lives others i in (suc rest.0, omega (arith, rest.1), rest.2)
