-- One socket of a host, over all moments of a world.
use Rattle.world_keeps_lives.proofs.Common.{◌≡◌, inl, inr, ℕ, ◌==◌, Bool, true, false, if◌then◌else◌, List, refl, sym, subst, Host, same_host, Crossing, same_host-refl, same_host-true, Notice, both, NcpState, opening_state, Request, Life, EachIn, IsLifeOf, NoneOf, at_socket}
use Rattle.net_sim.specs.Book.{Kept, all_told, asked, crossed, lives_at, lives_on, granted}
use Rattle.interface.specs.Mailboxes as mail
use Rattle.interface.specs.declared.crossing.Crossing.TheVariants as crossing
use Rattle.sockets.specs.declared.request.Request.TheVariants as request
use Rattle.world_keeps_lives.proofs.Books.{all_away, away_at, each_apart, each_ended, each_handed}
use Rattle.world_keeps_lives.proofs.Desks.{clash}
use Rattle.world_keeps_lives.proofs.Hosts.{Holds}
use Rattle.world_keeps_lives.proofs.Asks.{holds_same}

-- ---- what is known of all moments

-- a host that isn't up has a program that does nothing
pub idle_if : (a h : Host) (up : Bool) (s new : NcpState) → up ≡ false → (same_host a h ≡ true → up ≡ true) → s ≡ opening_state a → (if same_host a h then new else s) ≡ opening_state a
idle_if a h up s new down needs is = by (same_host a h) refl where
  by : (b : Bool) → same_host a h ≡ b → (if b then new else s) ≡ opening_state a
  by true e = clash _ up (needs e) down
  by false e = is

pub up_at : (hosts : List Host) (a h : Host) (log : List Crossing) → mail.is_up hosts h log ≡ true → same_host a h ≡ true → mail.is_up hosts a log ≡ true
up_at hosts a h log up e = subst (λ (g : Host). mail.is_up hosts g log ≡ true) (sym (same_host-true a h e)) up

module _ (a : Host) (k : ℕ) where
  -- a program that starts
  pub opening_holds : (κ : Kept) → EachIn a k NoneOf κ → Holds a k (opening_state a) κ
  opening_holds κ e = record { steady = record { refusing = λ p. tt; idle = λ p i. refl }; socket = inl (record { none = λ p. refl; lives = e }) }

  -- all lives of a host end with it
  down_lives : (P : Life → List Bool → Type 0) (κ : Kept) → EachIn a k P κ → EachIn a k NoneOf (crossed (crossing.Down a) κ)
  down_lives P κ e = each_ended a k _ P NoneOf κ.book.lives κ.handed (λ x t there goes i. all x there goes) e where
    all : (x : Life) → at_socket a k x ≡ true → x.ended ≡ false → lives_on a x ≡ true
    all x there goes = let host : same_host a x.host ≡ true = (both (same_host a x.host) (x.socket == k) there).0 in rw (host, goes) refl

  pub ended_holds : (s : NcpState) (κ : Kept) → Holds a k s κ → Holds a k (opening_state a) (crossed (crossing.Down a) κ)
  ended_holds s κ h = elim h.socket [
    | inl f ↦ opening_holds _ (down_lives NoneOf κ f.lives)
    | inr o ↦ opening_holds _ (down_lives _ κ o.lives)
  ]

  -- what another host's user asks for
  pub asked_away : (h : Host) (r : Request) (κ : Kept) → same_host h a ≡ false → (P : Life → List Bool → Type 0) → EachIn a k P κ → EachIn a k P (asked h r κ)
  asked_away h (request.Send socket bits) κ off P e =
      each_handed a k _ bits P P κ.book.lives κ.handed (λ x t there on o. absurd (away_at a k h socket x off there on)) (λ x t there out o. o) e
  asked_away h (request.Grant socket messages bits) κ off P e = each_apart a k _ _ P κ.book.lives κ.handed (λ x. refl) (λ x. away_at a k h socket x off) e
  asked_away h r κ off P e = e

  -- another host
  away : (h : Host) (ns : List Notice) (s : NcpState) (κ next : Kept) → same_host a h ≡ false → ((P : Life → List Bool → Type 0) → EachIn a k P κ → EachIn a k P next) → Holds a k s κ → Holds a k s (all_told h ns next)
  away h ns s κ next off w e = holds_same a k s κ _ (λ P i. all_away a k P h ns next (turned _ refl) (w P i)) e where
    turned : (b : Bool) → same_host h a ≡ b → b ≡ false
    turned true f = clash (true ≡ false) (same_host a h) (subst (λ (g : Host). same_host g h ≡ true) (same_host-true h a f) (same_host-refl h)) off
    turned false f = refl

  -- one host or another acts
  pub acts : (h : Host) (ns : Host → List Notice) (s new : NcpState) (κ : Kept) (next : Host → Kept) → (same_host a h ≡ true → Holds a k new (all_told a (ns a) (next a))) → (same_host a h ≡ false → (P : Life → List Bool → Type 0) → EachIn a k P κ → EachIn a k P (next h))
      → Holds a k s κ → Holds a k (if same_host a h then new else s) (all_told h (ns h) (next h))
  acts h ns s new κ next here there e = by (same_host a h) refl where
    by : (b : Bool) → same_host a h ≡ b → Holds a k (if b then new else s) (all_told h (ns h) (next h))
    by true f = subst (λ (g : Host). Holds a k new (all_told g (ns g) (next g))) (same_host-true a h f) (here f)
    by false f = away h (ns h) s κ (next h) f (there f) e

  -- what crosses is added
  pub crossed_holds : (s : NcpState) (c : Crossing) (κ : Kept) → ((P : Life → List Bool → Type 0) → EachIn a k P κ → EachIn a k P (crossed c κ)) → Holds a k s κ → Holds a k s (crossed c κ)
  crossed_holds s c κ w h = holds_same a k s κ _ w h
