-- The lives of a host with one peer beside what the laws of their links have, as one call changes them.
use Rattle.world_keeps_streams.proofs.Common.{eqb-true, append_assoc, length-append, Host, Allocation, is_at, is_mine_on, is_receiving, Entry, both, has_opened, gone_by, is_there, changed_when, life_ended, lives_at, lives_between, mine_on, clash}
use Rattle.std.proofs.Common.{◌≡◌, inl, inr, ℕ, suc, ◌+◌, ◌≤◌, ◌==◌, ◌&&◌, not, Bool, true, false, if◌then◌else◌, List, [], ◌∷◌, ◌++◌, length, Option, Some, is_some, refl, ap, sym, subst, ◌∙◌, eq-eqb, arith, append-nil}
use Rattle.ncp_control.specs.Allocation as counters
use Rattle.stream_law.specs.Receivers.{Receiver}
use Rattle.stream_law.specs.Senders.{Sender}
use Rattle.promise.specs.declared.life.Life.{Life}
use Rattle.net_sim.specs.Book as book
use Rattle.world_keeps_streams.proofs.Deeds.Effects as deeds
use Rattle.world_keeps_streams.proofs.Deeds.Effects.{Among, Deed, among_kept, at_receiver, at_sender, granted_by, life_by, life_ends, returned_by, sent_by, taken_by}
use Rattle.world_keeps_streams.proofs.Deeds.Ends.{Acts, IsAt}

-- ---- what a life and the law have in common

-- messages one after the other
abbrev pub all_bits : List (List Bool) → List Bool
all_bits [] = []
all_bits (t ∷ ts) = t ++ all_bits ts

pub record HasTaken (taken : List (List Bool)) (granted returned : Allocation) (x : Life) : Type 0 where
  pub bits : x.bits ≡ all_bits taken
  pub messages : x.messages ≡ length taken
  pub granted_messages : x.granted.messages ≡ granted.messages
  pub granted_bits : x.granted.bits ≡ granted.bits
  pub returned_messages : x.returned.messages ≡ returned.messages
  pub returned_bits : x.returned.bits ≡ returned.bits

pub record HasSent (sent : List (List Bool)) (x : Life) : Type 0 where
  pub bits : x.bits ≡ all_bits sent
  pub messages : x.messages ≡ length sent

abbrev pub IsTaken : ℕ → Receiver → Life → Type 0
IsTaken c r x = HasTaken (r.taken c) (r.granted c) (r.returned c) x

abbrev pub IsSent : ℕ → Sender → Life → Type 0
IsSent c s x = HasSent (s.sent c) x

pub all_more : (ts : List (List Bool)) (bits : List Bool) → all_bits (ts ++ bits ∷ []) ≡ all_bits ts ++ bits
all_more [] bits = append-nil bits
all_more (t ∷ ts) bits = ap (λ (l : List Bool). t ++ l) (all_more ts bits) ∙ sym (append_assoc t (all_bits ts) bits)

-- ---- the end of a life that continues

pub record EndOf (es : List Entry) (x : Life) : Type 0 where
  pub end : Entry
  pub one : mine_on x.socket es ≡ end ∷ []
  pub foreign : end.foreign ≡ x.foreign
  pub asked : end.asked ≡ Some x.own_stamp
  pub partner : end.partner ≡ Some x.partner_stamp

module _ (es : List Entry) (x : Life) (h : EndOf es x) where
  pub the_end : (e : Entry) → Among e es → e.mine ≡ true → e.own ≡ x.socket → h.end ≡ e
  the_end e there mine own =
      let is : is_mine_on x.socket e ≡ true = mine_here e mine own in
      only (subst (λ (ys : List Entry). Among e ys) h.one (among_kept (is_mine_on x.socket) es e there is)) where
        mine_here : (e : Entry) → e.mine ≡ true → e.own ≡ x.socket → is_mine_on x.socket e ≡ true
        mine_here e mine own = let n : (e.own == x.socket) ≡ true = eq-eqb e.own x.socket own in rw (mine, n) refl

        only : Among e (h.end ∷ []) → h.end ≡ e
        only (inl s) = s
        only (inr s) = absurd s

  pub end_there : Among h.end es × (is_mine_on x.socket h.end ≡ true)
  end_there = deeds.among_filter (is_mine_on x.socket) es h.end (subst (λ (ys : List Entry). Among h.end ys) (sym h.one) (inl refl))

  pub end_own : h.end.own ≡ x.socket
  end_own = eqb-true h.end.own x.socket (both h.end.mine _ end_there.1).1

  pub end_opened : has_opened h.end ≡ true
  end_opened = ap (λ (o : Option ℕ). is_some o && is_some h.end.partner) h.asked ∙ ap is_some h.partner

-- there is an end of these sockets where one is among them
pub among_there : (es : List Entry) (e : Entry) (own foreign : ℕ) → Among e es → e.own ≡ own → e.foreign ≡ foreign → is_there own foreign es ≡ true
among_there [] e own foreign h a b = absurd h
among_there (y ∷ ys) e own foreign h a b = by (λ k. among_there ys e own foreign k a b) (is_at own foreign y) refl h where
  by : (Among e ys → is_there own foreign ys ≡ true) → (v : Bool) → is_at own foreign y ≡ v → Among e (y ∷ ys) → is_there own foreign (y ∷ ys) ≡ true
  by rest true t k = rw t refl
  by rest false t (inl s) =
      let m : (e.own == own) ≡ true = eq-eqb e.own own a in
      let n : (e.foreign == foreign) ≡ true = eq-eqb e.foreign foreign b in
      let is : is_at own foreign e ≡ true = (rw (m, n) refl) in
      clash _ (is_at own foreign y) (subst (λ (z : Entry). is_at own foreign z ≡ true) (sym s) is) t
  by rest false t (inr s) = rw t (rest s)

pub gone_same : (es after : List Entry) (gone : ℕ → ℕ → ℕ) (own foreign : ℕ) → is_there own foreign after ≡ true → gone_by es after gone own foreign ≡ gone own foreign
gone_same es after gone own foreign t = by (is_there own foreign es) refl where
  by : (v : Bool) → is_there own foreign es ≡ v → gone_by es after gone own foreign ≡ gone own foreign
  by true e = rw (e, t) refl
  by false e = rw e refl

pub gone_more : (es after : List Entry) (gone : ℕ → ℕ → ℕ) (own foreign : ℕ) → gone own foreign ≤ gone_by es after gone own foreign
gone_more es after gone own foreign = by (is_there own foreign es && not (is_there own foreign after)) where
  by : (v : Bool) → gone own foreign ≤ (if v then suc (gone own foreign) else gone own foreign)
  by true = omega arith
  by false = omega arith

pub gone_one : (es after : List Entry) (gone : ℕ → ℕ → ℕ) (own foreign : ℕ) → is_there own foreign es ≡ true → is_there own foreign after ≡ false → gone_by es after gone own foreign ≡ suc (gone own foreign)
gone_one es after gone own foreign e t = rw (e, t) refl

-- ---- what a life has by a deed

ends_keep : (a p : Host) (es : List Entry) (x : Life) (P : Life → Type 0) → ((y : Life) → P y → P (life_ended y)) → P x → P (life_ends a p es x)
ends_keep a p [] x P keeps h = h
ends_keep a p (e ∷ es) x P keeps h = ends_keep a p es (if e.mine then changed_when (lives_between a e.own p e.foreign x) life_ended x else x) P keeps (by e.mine (lives_between a e.own p e.foreign x)) where
  by : (v w : Bool) → P (if v then changed_when w life_ended x else x)
  by true true = keeps x h
  by true false = h
  by false w = h

module _ (a p : Host) (name : ℕ → ℕ → ℕ) (link c : ℕ) (x : Life) where
  -- where a receiving life is hit just where the law is
  pub taken_step : (d : Deed) (es new : List Entry) → Acts d es new → ((e : Entry) → IsAt e es → lives_at a e.own x ≡ at_receiver name link c e) → (ts : List (List Bool)) (g b : Allocation)
      → HasTaken ts g b x → HasTaken (taken_by name link d c ts) (granted_by name link d c g) (returned_by name link d c b) (life_by a p d x)
  taken_step deeds.Nothing es new act hits ts g b h = h
  taken_step (deeds.Opens e u v) es new act hits ts g b h = h
  taken_step (deeds.Ends over) es new act hits ts g b h =
      ends_keep a p over x (λ y. HasTaken ts g b y)
      (λ y k. record { bits = k.bits; messages = k.messages; granted_messages = k.granted_messages; granted_bits = k.granted_bits; returned_messages = k.returned_messages; returned_bits = k.returned_bits }) h
  taken_step (deeds.Arrives e bits) es new act hits ts g b h = by (at_receiver name link c e) (hits e act.0) where
    by : (v : Bool) → lives_at a e.own x ≡ v → HasTaken (if v then ts ++ bits ∷ [] else ts) g b (changed_when (lives_at a e.own x) (book.carried bits) x)
    by true f = rw f (record {
      bits = ap (λ (l : List Bool). l ++ bits) h.bits ∙ sym (all_more ts bits);
      messages = ap (λ (n : ℕ). n + 1) h.messages ∙ sym (length-append ts (bits ∷ []));
      granted_messages = h.granted_messages;
      granted_bits = h.granted_bits;
      returned_messages = h.returned_messages;
      returned_bits = h.returned_bits;
    })
    by false f = rw f h
  taken_step (deeds.Leaves e bits) es new act hits ts g b h =
      let off : at_receiver name link c e ≡ false = (let s : is_receiving e ≡ false = act.1 in rw s refl) in
      let f : lives_at a e.own x ≡ false = hits e act.0 ∙ off in
      rw f h
  taken_step (deeds.Grants e m n) es new act hits ts g b h = by (at_receiver name link c e) (hits e act) where
    by : (v : Bool) → lives_at a e.own x ≡ v → HasTaken ts (if v then counters.added g m n else g) b (changed_when (lives_at a e.own x) (book.granted m n) x)
    by true f = rw f (record {
      bits = h.bits;
      messages = h.messages;
      granted_messages = ap (λ (k : ℕ). k + m) h.granted_messages;
      granted_bits = ap (λ (k : ℕ). k + n) h.granted_bits;
      returned_messages = h.returned_messages;
      returned_bits = h.returned_bits;
    })
    by false f = rw f h
  taken_step (deeds.Returns e m n) es new act hits ts g b h = by (at_receiver name link c e) (hits e act) where
    by : (v : Bool) → lives_at a e.own x ≡ v → HasTaken ts g (if v then counters.added b m n else b) (changed_when (lives_at a e.own x) (book.returned m n) x)
    by true f = rw f (record {
      bits = h.bits;
      messages = h.messages;
      granted_messages = h.granted_messages;
      granted_bits = h.granted_bits;
      returned_messages = ap (λ (k : ℕ). k + m) h.returned_messages;
      returned_bits = ap (λ (k : ℕ). k + n) h.returned_bits;
    })
    by false f = rw f h

  -- and a sending life
  pub sent_step : (d : Deed) (es new : List Entry) → Acts d es new → ((e : Entry) → IsAt e es → lives_at a e.own x ≡ at_sender name link c e) → (ts : List (List Bool))
      → HasSent ts x → HasSent (sent_by name link d c ts) (life_by a p d x)
  sent_step deeds.Nothing es new act hits ts h = h
  sent_step (deeds.Opens e u v) es new act hits ts h = h
  sent_step (deeds.Ends over) es new act hits ts h = ends_keep a p over x (λ y. HasSent ts y) (λ y k. record { bits = k.bits; messages = k.messages }) h
  sent_step (deeds.Leaves e bits) es new act hits ts h = by (at_sender name link c e) (hits e act.0) where
    by : (v : Bool) → lives_at a e.own x ≡ v → HasSent (if v then ts ++ bits ∷ [] else ts) (changed_when (lives_at a e.own x) (book.carried bits) x)
    by true f = rw f (record { bits = ap (λ (l : List Bool). l ++ bits) h.bits ∙ sym (all_more ts bits); messages = ap (λ (n : ℕ). n + 1) h.messages ∙ sym (length-append ts (bits ∷ [])) })
    by false f = rw f h
  sent_step (deeds.Arrives e bits) es new act hits ts h =
      let off : at_sender name link c e ≡ false = (let s : is_receiving e ≡ true = act.1 in rw s refl) in
      let f : lives_at a e.own x ≡ false = hits e act.0 ∙ off in
      rw f h
  sent_step (deeds.Grants e m n) es new act hits ts h = by (lives_at a e.own x) where
    by : (v : Bool) → HasSent ts (changed_when v (book.granted m n) x)
    by true = record { bits = h.bits; messages = h.messages }
    by false = h
  sent_step (deeds.Returns e m n) es new act hits ts h = by (lives_at a e.own x) where
    by : (v : Bool) → HasSent ts (changed_when v (book.returned m n) x)
    by true = record { bits = h.bits; messages = h.messages }
    by false = h
