-- All lives of a host with one peer, beside the laws of their links, from one call to the next.
use Rattle.world_keeps_streams.proofs.Common.{◌≡◌, ◌⊎◌, inl, inr, ℕ, suc, ◌≤◌, ◌==◌, ◌&&◌, not, Bool, true, false, if◌then◌else◌, List, [], ◌∷◌, Some, refl, ap, sym, ◌∙◌, eqb-true, Host, same_host, is_open, Entry, both, is_there, changed_when, life_ended, lives_at, lives_between, clash}
use Rattle.stream_law.specs.Receivers.{Receiver}
use Rattle.stream_law.specs.Senders.{Sender}
use Rattle.promise.specs.declared.life.Life.{Life}
use Rattle.net_sim.specs.Book as book
use Rattle.promise.specs.Safe.{receives, sends}
use Rattle.world_keeps_streams.proofs.Deeds.Effects as deeds
use Rattle.world_keeps_streams.proofs.Deeds.Effects.{Among, Becomes, Deed, From, HasLink, IsLinked, IsNew, OpensAs, Receives, Sends, among_either, among_front, among_behind, among_map, among_mapped, at_receiver, at_sender, granted_by, life_by, life_ends, new_by, returned_by, sent_by, taken_by}
use Rattle.world_keeps_streams.proofs.Deeds.Ends.{Acts}
use Rattle.world_keeps_streams.proofs.Carried.Streams.{EndOf, IsSent, IsTaken}

-- ---- a life beside the law of its link

-- where this many connections are gone, and these ends are there. `r` and `s` are the law's receiver and sender of each link
pub record CarriedOn (told : ℕ → ℕ → ℕ → ℕ → Type 0) (number : ℕ → ℕ → ℕ → ℕ) (gone : ℕ → ℕ → ℕ) (es : List Entry) (r : ℕ → Receiver) (s : ℕ → Sender) (link g : ℕ) (x : Life) : Type 0 where
  pub other : (link == 0) ≡ false
  pub taken : receives x ≡ true → IsTaken (number x.socket x.foreign g) (r link) x
  pub sent : sends x ≡ true → IsSent (number x.socket x.foreign g) (s link) x
  pub goes : x.ended ≡ false → g ≡ gone x.socket x.foreign
  pub linked : x.ended ≡ false → (e : Entry) → Among e es → e.mine ≡ true → e.own ≡ x.socket → e.link ≡ Some link
  pub over : x.ended ≡ true → suc g ≤ gone x.socket x.foreign
  -- what is reported of the request of its partner
  pub named : told x.socket x.foreign g x.partner_stamp

-- nothing was granted, returned or taken in a connection
pub record IsBlank (c : ℕ) (r : Receiver) : Type 0 where
  pub taken : r.taken c ≡ []
  pub granted_messages : (r.granted c).messages ≡ 0
  pub granted_bits : (r.granted c).bits ≡ 0
  pub returned_messages : (r.returned c).messages ≡ 0
  pub returned_bits : (r.returned c).bits ≡ 0

-- a life of this host with its peer, on this link, in this connection
pub record Lives (told : ℕ → ℕ → ℕ → ℕ → Type 0) (a b : Host) (number : ℕ → ℕ → ℕ → ℕ) (gone : ℕ → ℕ → ℕ) (es : List Entry) (r : ℕ → Receiver) (s : ℕ → Sender) (lives : List Life) (link c : ℕ) : Type 0 where
  pub life : Life
  pub there : Among life lives
  pub host : life.host ≡ a
  pub peer : life.peer ≡ b
  pub gone_before : ℕ
  pub carried : CarriedOn told number gone es r s link gone_before life
  pub is : number life.socket life.foreign gone_before ≡ c

-- an open end has a life
pub record LifeFor (a b : Host) (e : Entry) (lives : List Life) : Type 0 where
  pub life : Life
  pub there : Among life lives
  pub host : life.host ≡ a
  pub peer : life.peer ≡ b
  pub goes : life.ended ≡ false
  pub socket : life.socket ≡ e.own
  pub foreign : life.foreign ≡ e.foreign

pub record Carry (told : ℕ → ℕ → ℕ → ℕ → Type 0) (a b : Host) (number : ℕ → ℕ → ℕ → ℕ) (gone : ℕ → ℕ → ℕ) (es : List Entry) (r : ℕ → Receiver) (s : ℕ → Sender) (lives : List Life) : Type 0 where
  pub all : (x : Life) → Among x lives → x.host ≡ a → x.peer ≡ b → (link : ℕ) × (g : ℕ) × CarriedOn told number gone es r s link g x
  pub takes : (link : ℕ) → (link == 0) ≡ false → (c : ℕ) → IsBlank c (r link) ⊎ ((l : Lives told a b number gone es r s lives link c) × (receives l.life ≡ true))
  pub sends : (link : ℕ) → (link == 0) ≡ false → (c : ℕ) → ((s link).sent c ≡ []) ⊎ ((l : Lives told a b number gone es r s lives link c) × (sends l.life ≡ true))
  pub opens : (e : Entry) → Among e es → e.mine ≡ true → is_open e ≡ true → LifeFor a b e lives
  pub linked : (e : Entry) → Among e es → IsLinked e

-- each life that continues is that of the one own end on its socket
abbrev pub AreOwned : Host → Host → List Entry → List Life → Type 0
AreOwned a b es lives = (x : Life) → Among x lives → x.host ≡ a → x.peer ≡ b → x.ended ≡ false → EndOf es x

-- ---- one call

pub by_goes : (a p : Host) (d : Deed) (x : Life) → (life_by a p d x).ended ≡ false → x.ended ≡ false
by_goes a p d x e = of x.ended refl where
  still : (es : List Entry) (y : Life) → y.ended ≡ true → (life_ends a p es y).ended ≡ true
  still [] y t = t
  still (e ∷ es) y t = still es (if e.mine then changed_when (lives_between a e.own p e.foreign y) life_ended y else y) (by e.mine (lives_between a e.own p e.foreign y)) where
    by : (v w : Bool) → (if v then changed_when w life_ended y else y).ended ≡ true
    by true true = refl
    by true false = t
    by false w = t

  kept : (v : Bool) (f : Life → Life) → ((y : Life) → (f y).ended ≡ y.ended) → x.ended ≡ true → (changed_when v f x).ended ≡ true
  kept true f same t = same x ∙ t
  kept false f same t = t

  later : (d : Deed) → x.ended ≡ true → (life_by a p d x).ended ≡ true
  later deeds.Nothing t = t
  later (deeds.Opens e u v) t = t
  later (deeds.Ends es) t = still es x t
  later (deeds.Arrives e bits) t = kept (lives_at a e.own x) (book.carried bits) (λ y. refl) t
  later (deeds.Leaves e bits) t = kept (lives_at a e.own x) (book.carried bits) (λ y. refl) t
  later (deeds.Grants e m n) t = kept (lives_at a e.own x) (book.granted m n) (λ y. refl) t
  later (deeds.Returns e m n) t = kept (lives_at a e.own x) (book.returned m n) (λ y. refl) t

  of : (v : Bool) → x.ended ≡ v → v ≡ false
  of true t = clash (true ≡ false) (life_by a p d x).ended (later d t) e
  of false t = refl

-- what a deed leaves as it is
pub record Same (x y : Life) : Type 0 where
  pub host : y.host ≡ x.host
  pub peer : y.peer ≡ x.peer
  pub socket : y.socket ≡ x.socket
  pub foreign : y.foreign ≡ x.foreign

pub by_same : (a p : Host) (d : Deed) (x : Life) → Same x (life_by a p d x)
by_same a p d x = of d where
  none : Same x x
  none = record { host = refl; peer = refl; socket = refl; foreign = refl }

  ends : (es : List Entry) (y : Life) → Same x y → Same x (life_ends a p es y)
  ends [] y s = s
  ends (e ∷ es) y s = ends es (if e.mine then changed_when (lives_between a e.own p e.foreign y) life_ended y else y) (by e.mine (lives_between a e.own p e.foreign y)) where
    by : (v w : Bool) → Same x (if v then changed_when w life_ended y else y)
    by true true = record { host = s.host; peer = s.peer; socket = s.socket; foreign = s.foreign }
    by true false = s
    by false w = s

  kept : (v : Bool) (f : Life → Life) → Same x (f x) → Same x (changed_when v f x)
  kept true f s = s
  kept false f s = record { host = refl; peer = refl; socket = refl; foreign = refl }

  of : (d : Deed) → Same x (life_by a p d x)
  of deeds.Nothing = record { host = refl; peer = refl; socket = refl; foreign = refl }
  of (deeds.Opens e u v) = record { host = refl; peer = refl; socket = refl; foreign = refl }
  of (deeds.Ends es) = ends es x (record { host = refl; peer = refl; socket = refl; foreign = refl })
  of (deeds.Arrives e bits) = kept (lives_at a e.own x) (book.carried bits) (record { host = refl; peer = refl; socket = refl; foreign = refl })
  of (deeds.Leaves e bits) = kept (lives_at a e.own x) (book.carried bits) (record { host = refl; peer = refl; socket = refl; foreign = refl })
  of (deeds.Grants e m n) = kept (lives_at a e.own x) (book.granted m n) (record { host = refl; peer = refl; socket = refl; foreign = refl })
  of (deeds.Returns e m n) = kept (lives_at a e.own x) (book.returned m n) (record { host = refl; peer = refl; socket = refl; foreign = refl })

-- a life that ends by ends that go has one of them
pub record Hit (over : List Entry) (x : Life) : Type 0 where
  pub end : Entry
  pub there : Among end over
  pub own : x.socket ≡ end.own
  pub foreign : x.foreign ≡ end.foreign

ends_hit : (a p : Host) (over : List Entry) (x : Life) → x.ended ≡ false → (life_ends a p over x).ended ≡ true → Hit over x
ends_hit a p [] x goes t = clash _ x.ended t goes
ends_hit a p (e ∷ es) x goes t = by e.mine (lives_between a e.own p e.foreign x) refl (λ h. ends_hit a p es x goes h) t where
  more : Hit es x → Hit (e ∷ es) x
  more h = record { end = h.end; there = inr h.there; own = h.own; foreign = h.foreign }

  by : (v w : Bool) → lives_between a e.own p e.foreign x ≡ w → ((life_ends a p es x).ended ≡ true → Hit es x) → (life_ends a p es (if v then changed_when w life_ended x else x)).ended ≡ true → Hit (e ∷ es) x
  by true true is rest h =
      let q : (_ ≡ true) × ((x.foreign == e.foreign) ≡ true) = both _ _ is in
      let l : (lives_at a e.own x ≡ true) × (same_host p x.peer ≡ true) = both _ _ q.0 in
      let m : (_ ≡ true) × (not x.ended ≡ true) = both _ _ l.0 in
      record { end = e; there = inl refl; own = eqb-true x.socket e.own (both _ _ m.0).1; foreign = eqb-true x.foreign e.foreign q.1 }
  by true false is rest h = more (rest h)
  by false w is rest h = more (rest h)

pub by_over : (a p : Host) (d : Deed) (x : Life) (es new : List Entry) → Acts d es new → x.ended ≡ false → (life_by a p d x).ended ≡ true → is_there x.socket x.foreign new ≡ false
by_over a p d x es new act goes t = of d act t where
  kept : (v : Bool) (f : Life → Life) → ((y : Life) → (f y).ended ≡ y.ended) → (changed_when v f x).ended ≡ true → is_there x.socket x.foreign new ≡ false
  kept true f same h = clash _ x.ended (sym (same x) ∙ h) goes
  kept false f same h = clash _ x.ended h goes

  of : (d : Deed) → Acts d es new → (life_by a p d x).ended ≡ true → is_there x.socket x.foreign new ≡ false
  of deeds.Nothing act h = clash _ x.ended h goes
  of (deeds.Opens e u v) act h = clash _ x.ended h goes
  of (deeds.Ends over) act h =
      let k : Hit over x = ends_hit a p over x goes h in
      ap (λ (n : ℕ). is_there n x.foreign new) k.own ∙ ap (λ (n : ℕ). is_there k.end.own n new) k.foreign ∙ act k.end k.there
  of (deeds.Arrives e bits) act h = kept (lives_at a e.own x) (book.carried bits) (λ y. refl) h
  of (deeds.Leaves e bits) act h = kept (lives_at a e.own x) (book.carried bits) (λ y. refl) h
  of (deeds.Grants e m n) act h = kept (lives_at a e.own x) (book.granted m n) (λ y. refl) h
  of (deeds.Returns e m n) act h = kept (lives_at a e.own x) (book.returned m n) (λ y. refl) h

-- ---- stamps

stamp_when : (t : Bool) (f : Life → Life) (x : Life) → ((y : Life) → (f y).partner_stamp ≡ y.partner_stamp) → (changed_when t f x).partner_stamp ≡ x.partner_stamp
stamp_when true f x k = k x
stamp_when false f x k = refl

stamp_ends : (a p : Host) (es : List Entry) (x : Life) → (life_ends a p es x).partner_stamp ≡ x.partner_stamp
stamp_ends a p [] x = refl
stamp_ends a p (e ∷ es) x = stamp_ends a p es (if e.mine then changed_when (lives_between a e.own p e.foreign x) life_ended x else x) ∙ by e.mine where
  by : (v : Bool) → (if v then changed_when (lives_between a e.own p e.foreign x) life_ended x else x).partner_stamp ≡ x.partner_stamp
  by true = stamp_when (lives_between a e.own p e.foreign x) life_ended x (λ y. refl)
  by false = refl

pub by_stamp : (a p : Host) (d : Deed) (x : Life) → (life_by a p d x).partner_stamp ≡ x.partner_stamp
by_stamp a p deeds.Nothing x = refl
by_stamp a p (deeds.Opens e u v) x = refl
by_stamp a p (deeds.Ends es) x = stamp_ends a p es x
by_stamp a p (deeds.Arrives e bits) x = stamp_when _ _ x (λ y. refl)
by_stamp a p (deeds.Leaves e bits) x = stamp_when _ _ x (λ y. refl)
by_stamp a p (deeds.Grants e m n) x = stamp_when _ _ x (λ y. refl)
by_stamp a p (deeds.Returns e m n) x = stamp_when _ _ x (λ y. refl)
