-- What is under way between the two hosts of a link, and of which connections it is.
use Rattle.std.proofs.Common.{◌≡◌, ◌⊎◌, ℕ, Bool, true, false, List, [], ◌∷◌, ◌++◌, Option, Some, None, refl, ap, sym, ◌∙◌, inl, inr}
use Rattle.stream_law.specs.Words.{Word, Rts, Str, All, Gvb, Ret, Cls, for}
use Rattle.stream_law.specs.Within.{NoneReturned}
use Rattle.stream_law.proofs.Amounts.{at, unlike}

-- the connection that an end has, unless something ended it
abbrev pub unless : Bool → Option ℕ → Option ℕ
unless true o = None
unless false o = o

pub unless_none : (v : Bool) → unless v None ≡ None
unless_none true = refl
unless_none false = refl

pub unless_some : (v : Bool) (o : Option ℕ) (c : ℕ) → unless v o ≡ Some c → (o ≡ Some c) × (v ≡ false)
unless_some true o c e = absurd (cc)
unless_some false o c e = (e, refl)

-- ---- from the receiver to the sender

abbrev pub NoRts : List Word → Type 0
NoRts [] = Unit {0}
NoRts (Rts c ∷ w) = ⊥
NoRts (other ∷ w) = NoRts w

-- whoever has heard all but these words of connection `view` has heard all of connection `last` after them. All that is said between
-- an RTS and a CLS is of one connection, and where another RTS follows, the sender's CLS was heard
abbrev pub DownFits : (ℕ → Bool) → (ℕ → Bool) → Option ℕ → List Word → Option ℕ → Type 0
DownFits over asked view [] last = view ≡ last
DownFits over asked view (Rts c ∷ w) last = (view ≡ None) × (asked c ≡ true) × (NoRts w ⊎ (over c ≡ true)) × DownFits over asked (Some c) w last
DownFits over asked view (All c m b ∷ w) last = (view ≡ Some c) × DownFits over asked view w last
DownFits over asked view (Gvb c m b ∷ w) last = (view ≡ Some c) × DownFits over asked view w last
DownFits over asked view (Cls c ∷ w) last = (view ≡ Some c) × DownFits over asked None w last
DownFits over asked view (other ∷ w) last = ⊥

pub down_more : (over more : ℕ → Bool) (asked : ℕ → Bool) → ((c : ℕ) → over c ≡ true → more c ≡ true) → (view : Option ℕ) (w : List Word) (last : Option ℕ) → DownFits over asked view w last
    → DownFits more asked view w last
down_more over more asked f view [] last d = d
down_more over more asked f view (Rts c ∷ w) last d =
    let third : NoRts w ⊎ (more c ≡ true) = elim d.2 [ inl n ↦ inl n | inr o ↦ inr (f c o) ] in
    (d.0, d.1, third, down_more over more asked f (Some c) w last d.3)
down_more over more asked f view (All c m b ∷ w) last d = (d.0, down_more over more asked f view w last d.1)
down_more over more asked f view (Gvb c m b ∷ w) last d = (d.0, down_more over more asked f view w last d.1)
down_more over more asked f view (Cls c ∷ w) last d = (d.0, down_more over more asked f None w last d.1)
down_more over more asked f view (other ∷ w) last d = absurd d

pub no_rts_said : (x : Word) (w : List Word) → NoRts (x ∷ []) → NoRts w → NoRts (w ++ x ∷ [])
no_rts_said x [] q n = q
no_rts_said x (Rts c ∷ w) q n = absurd n
no_rts_said x (other ∷ w) q n = no_rts_said x w q n

-- something is said that isn't an RTS
pub down_said : (over asked : ℕ → Bool) (x : Word) (last next : Option ℕ) → NoRts (x ∷ []) → ((view : Option ℕ) → view ≡ last → DownFits over asked view (x ∷ []) next) → (view : Option ℕ) (w : List Word)
    → DownFits over asked view w last → DownFits over asked view (w ++ x ∷ []) next
down_said over asked x last next q f view [] d = f view d
down_said over asked x last next q f view (Rts c ∷ w) d =
    let third : NoRts (w ++ x ∷ []) ⊎ (over c ≡ true) = elim d.2 [ inl n ↦ inl (no_rts_said x w q n) | inr o ↦ inr o ] in
    (d.0, d.1, third, down_said over asked x last next q f _ w d.3)
down_said over asked x last next q f view (All c m b ∷ w) d = (d.0, down_said over asked x last next q f view w d.1)
down_said over asked x last next q f view (Gvb c m b ∷ w) d = (d.0, down_said over asked x last next q f view w d.1)
down_said over asked x last next q f view (Cls c ∷ w) d = (d.0, down_said over asked x last next q f None w d.1)
down_said over asked x last next q f view (other ∷ w) d = absurd d

-- an RTS is said where all that were asked for are over
pub down_asked : (over asked more : ℕ → Bool) (c : ℕ) → ((k : ℕ) → asked k ≡ true → over k ≡ true) → ((k : ℕ) → asked k ≡ true → more k ≡ true) → more c ≡ true → (view : Option ℕ) (w : List Word)
    → DownFits over asked view w None → DownFits over more view (w ++ Rts c ∷ []) (Some c)
down_asked over asked more c f g own view [] d = (d, own, inl tt, refl)
down_asked over asked more c f g own view (Rts k ∷ w) d = (d.0, g k d.1, inr (f k d.1), down_asked over asked more c f g own (Some k) w d.3)
down_asked over asked more c f g own view (All k m b ∷ w) d = (d.0, down_asked over asked more c f g own view w d.1)
down_asked over asked more c f g own view (Gvb k m b ∷ w) d = (d.0, down_asked over asked more c f g own view w d.1)
down_asked over asked more c f g own view (Cls k ∷ w) d = (d.0, down_asked over asked more c f g own None w d.1)
down_asked over asked more c f g own view (other ∷ w) d = absurd d

-- ---- from the sender to the receiver

-- a return is before the CLS of its connection
abbrev pub UpFits : (ℕ → Bool) → (ℕ → Bool) → (ℕ → Bool) → (ℕ → Option ℕ) → List Word → Type 0
UpFits over asked closed size [] = Unit {0}
UpFits over asked closed size (Str c z ∷ w) = (size c ≡ Some z) × UpFits over asked closed size w
UpFits over asked closed size (Ret c m b ∷ w) = (over c ≡ false) × (asked c ≡ true) × UpFits over asked closed size w
UpFits over asked closed size (Cls c ∷ w) = (closed c ≡ true) × UpFits (for c true over) asked closed size w
UpFits over asked closed size (other ∷ w) = ⊥

pub up_more : (asked closed asked' closed' : ℕ → Bool) (size size' : ℕ → Option ℕ) → ((c : ℕ) → asked c ≡ true → asked' c ≡ true) → ((c : ℕ) → closed c ≡ true → closed' c ≡ true)
    → ((c z : ℕ) → size c ≡ Some z → size' c ≡ Some z) → (over : ℕ → Bool) (w : List Word) → UpFits over asked closed size w → UpFits over asked' closed' size' w
up_more asked closed asked' closed' size size' f g h over [] u = tt
up_more asked closed asked' closed' size size' f g h over (Str c z ∷ w) u = (h c z u.0, up_more asked closed asked' closed' size size' f g h over w u.1)
up_more asked closed asked' closed' size size' f g h over (Ret c m b ∷ w) u = (u.0, f c u.1, up_more asked closed asked' closed' size size' f g h over w u.2)
up_more asked closed asked' closed' size size' f g h over (Cls c ∷ w) u = (g c u.0, up_more asked closed asked' closed' size size' f g h (for c true over) w u.1)
up_more asked closed asked' closed' size size' f g h over (other ∷ w) u = absurd u

-- what is over was closed, also once one more is
pub closed_more : (c : ℕ) (over closed : ℕ → Bool) → closed c ≡ true → ((k : ℕ) → over k ≡ true → closed k ≡ true) → (k : ℕ) → for c true over k ≡ true → closed k ≡ true
closed_more c over closed own f k e = elim (at c true over k) [
  | inl t ↦ (ap closed t.0 ∙ own)
  | inr t ↦ f k (sym t.1 ∙ e)
]

pub up_said : (asked closed : ℕ → Bool) (size : ℕ → Option ℕ) (x : Word) → ((over : ℕ → Bool) → ((k : ℕ) → over k ≡ true → closed k ≡ true) → UpFits over asked closed size (x ∷ [])) → (over : ℕ → Bool) (w : List Word)
    → ((k : ℕ) → over k ≡ true → closed k ≡ true) → UpFits over asked closed size w → UpFits over asked closed size (w ++ x ∷ [])
up_said asked closed size x f over [] g u = f over g
up_said asked closed size x f over (Str c z ∷ w) g u = (u.0, up_said asked closed size x f over w g u.1)
up_said asked closed size x f over (Ret c m b ∷ w) g u = (u.0, u.1, up_said asked closed size x f over w g u.2)
up_said asked closed size x f over (Cls c ∷ w) g u = (u.0, up_said asked closed size x f (for c true over) w (closed_more c over closed u.0 g) u.1)
up_said asked closed size x f over (other ∷ w) g u = absurd u

-- where all that were asked for are over, nothing is being returned
pub none_returned : (asked closed : ℕ → Bool) (size : ℕ → Option ℕ) (over : ℕ → Bool) (w : List Word) → ((k : ℕ) → asked k ≡ true → over k ≡ true) → UpFits over asked closed size w → NoneReturned w
none_returned asked closed size over [] f u = tt
none_returned asked closed size over (Str c z ∷ w) f u = none_returned asked closed size over w f u.1
none_returned asked closed size over (Ret c m b ∷ w) f u = unlike _ (f c u.1) u.0
none_returned asked closed size over (Cls c ∷ w) f u =
    none_returned asked closed size (for c true over) w (λ k a. elim (at c true over k) [ inl t ↦ t.1 | inr t ↦ (t.1 ∙ f k a) ]) u.1
none_returned asked closed size over (other ∷ w) f u = absurd u
