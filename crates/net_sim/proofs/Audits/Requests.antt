-- The requests of lives: where one went out, and which two are alike.
use Rattle.net_sim.proofs.Common.{◌≡◌, ℕ, zero, suc, ◌-◌, ◌<◌, ◌≤◌, Bool, true, false, ◌&&◌, ◌==◌, List, [], ◌∷◌, ◌++◌, length, take, drop, refl, ap, sym, subst, ◌∙◌, if◌then◌else◌, arith, inl, inr, Option, Some, None, eq-eqb, eqb-true, take-append-drop, reverse-append, length-reverse, Host, same_host, same_flow, Flow, Crossing, HostMessage, and_true, same_flow-true, same_host-refl, Life, CrossedAt, is_place, is_asked, same_own, same_asked, is_partner, Name, before, control_flow, last_out, own_request, partner_request}
use Rattle.std.proofs.Common.{reverse}
use Rattle.std.specs.Prelude.{IsSome}
use Rattle.std.proofs.lemmas.List.{length-drop, drop_at}
use Rattle.interface.specs.declared.crossing.Crossing.TheVariants as crossing
use Rattle.interface.proofs.lemmas.{same_host-true}
use Rattle.net_sim.specs.Inside.Audit.{asked_at, same_place, same_ends}
use Rattle.promise.specs.Safe.{named}
use Rattle.std.proofs.lemmas.Bool.{and_from}

-- ---- the log before a place, read from its end

pub before_inside : (log : List Crossing) (n : ℕ) → n ≤ length log → before n (reverse log) ≡ reverse (take n log)
before_inside log n h =
    let e : reverse log ≡ reverse (drop n log) ++ reverse (take n log) = ap (λ (xs : List Crossing). reverse xs) (sym (take-append-drop n log)) ∙ reverse-append (take n log) (drop n log) in
    let k : length (reverse (drop n log)) ≡ length (reverse log) - n = length-reverse (drop n log) ∙ length-drop n log ∙ ap (λ (m : ℕ). m - n) (sym (length-reverse log)) in
    let P : List Crossing → Type 0 = λ z. drop (length (reverse log) - n) z ≡ reverse (take n log) in
    subst P (sym e) (drop_at (reverse (drop n log)) (reverse (take n log)) (length (reverse log) - n) k)

-- ---- places of crossings

pub crossed_below : (p : ℕ) (c : Crossing) (log : List Crossing) → CrossedAt p c log → p < length log
crossed_below p c [] h = absurd h
crossed_below p c (d ∷ log) (inl h) = let e : p ≡ length log = h.1 in omega arith
crossed_below p c (d ∷ log) (inr h) = let l : p < length log = crossed_below p c log h in omega arith

pub crossed_one : (p : ℕ) (c d : Crossing) (log : List Crossing) → CrossedAt p c log → CrossedAt p d log → c ≡ d
crossed_one p c d [] h k = absurd h
crossed_one p c d (x ∷ log) (inl h) (inl k) = h.0 ∙ sym k.0
crossed_one p c d (x ∷ log) (inl h) (inr k) = absurd (let e : p ≡ length log = h.1 in let l : p < length log = crossed_below p d log k in omega arith)
crossed_one p c d (x ∷ log) (inr h) (inl k) = absurd (let e : p ≡ length log = k.1 in let l : p < length log = crossed_below p c log h in omega arith)
crossed_one p c d (x ∷ log) (inr h) (inr k) = crossed_one p c d log h k

crossed_drop : (n p : ℕ) (c : Crossing) (log : List Crossing) → CrossedAt p c (drop n log) → CrossedAt p c log
crossed_drop zero p c log h = h
crossed_drop (suc n) p c [] h = absurd h
crossed_drop (suc n) p c (d ∷ log) h = inr (crossed_drop n p c log h)

-- a message of a flow went out at a place
abbrev pub WentAt : Flow → ℕ → List Crossing → Type 0
WentAt f p log = (m : HostMessage) × (m.flow ≡ f) × CrossedAt p (crossing.Out m) log

went_more : (f : Flow) (p : ℕ) (c : Crossing) (log : List Crossing) → WentAt f p log → WentAt f p (c ∷ log)
went_more f p c log (m, e, h) = (m, e, inr h)

went_out_at : (f : Flow) (p : ℕ) (m : HostMessage) (log : List Crossing) → (b : Bool) → same_flow f m.flow ≡ b → (if b then Some (length log) else last_out f log) ≡ Some p
    → (last_out f log ≡ Some p → WentAt f p log) → WentAt f p (crossing.Out m ∷ log)
went_out_at f p m log true e h rec = (m, sym (same_flow-true f m.flow e), inl (refl, (let q : length log ≡ p = cc in sym q)))
went_out_at f p m log false e h rec = went_more f p (crossing.Out m) log (rec h)

-- where a flow's last message went out, a message of it did
pub last_went : (f : Flow) (p : ℕ) (log : List Crossing) → last_out f log ≡ Some p → WentAt f p log
last_went f p [] h = absurd (cc)
last_went f p (crossing.Out m ∷ log) h = went_out_at f p m log (same_flow f m.flow) refl h (last_went f p log)
last_went f p (crossing.In m ∷ log) h = went_more f p (crossing.In m) log (last_went f p log h)
last_went f p (crossing.Answer k g ∷ log) h = went_more f p (crossing.Answer k g) log (last_went f p log h)
last_went f p (crossing.Down g ∷ log) h = went_more f p (crossing.Down g) log (last_went f p log h)
last_went f p (crossing.Up g ∷ log) h = went_more f p (crossing.Up g) log (last_went f p log h)

pub asked_went : (log : List Crossing) (x : Life) (p : ℕ) → asked_at log x ≡ Some p → WentAt (control_flow x.peer x.host) p log
asked_went log x p h =
    let w : WentAt (control_flow x.peer x.host) p (before x.partner_stamp log) = last_went (control_flow x.peer x.host) p (before x.partner_stamp log) h in
    (w.0, w.1, crossed_drop (length log - x.partner_stamp) p (crossing.Out w.0) log w.2)

-- two lives with one partner's request have the same hosts
pub same_hosts : (log : List Crossing) (x y : Life) (p : ℕ) → asked_at log x ≡ Some p → asked_at log y ≡ Some p → (x.host ≡ y.host) × (x.peer ≡ y.peer)
same_hosts log x y p h k =
    let v : WentAt (control_flow x.peer x.host) p log = asked_went log x p h in
    let w : WentAt (control_flow y.peer y.host) p log = asked_went log y p k in
    let o : crossing.Out v.0 ≡ crossing.Out w.0 = crossed_one p (crossing.Out v.0) (crossing.Out w.0) log v.2 w.2 in
    let m : v.0 ≡ w.0 = cc in
    let f : control_flow x.peer x.host ≡ control_flow y.peer y.host = sym v.1 ∙ ap (λ (n : HostMessage). n.flow) m ∙ w.1 in
    (ap (λ (g : Flow). g.destination) f, ap (λ (g : Flow). g.source) f)

-- ---- names of requests

pub same_host-is : (g h : Host) → g ≡ h → same_host g h ≡ true
same_host-is g h e = let P : Host → Type 0 = λ x. same_host g x ≡ true in subst P e (same_host-refl g)

pub named_some : (x : Life) (a : Option ℕ) (name : Name) → named x a ≡ Some name → (a ≡ Some name.place) × (x.foreign ≡ name.own) × (x.socket ≡ name.foreign)
named_some x None name h = absurd (cc)
named_some x (Some p) name h =
    let made : Name = record { place = p; own = x.foreign; foreign = x.socket } in
    let e : made ≡ name = cc in
    (ap (λ (n : Name). Some n.place) e, ap (λ (n : Name). n.own) e, ap (λ (n : Name). n.foreign) e)

pub named_is : (x : Life) (a : Option ℕ) (name : Name) → a ≡ Some name.place → x.foreign ≡ name.own → x.socket ≡ name.foreign → named x a ≡ Some name
named_is x a name h o f =
    let at : ℕ → ℕ → ℕ → Option Name = λ p s t. Some (record { place = p; own = s; foreign = t }) in
    ap (λ (z : Option ℕ). named x z) h ∙ ap (λ (s : ℕ). at name.place s x.socket) o ∙ ap (λ (t : ℕ). at name.place name.own t) f

pub place_true : (p : ℕ) (a : Option ℕ) → is_place p a ≡ true → a ≡ Some p
place_true p None h = absurd (cc)
place_true p (Some q) h = ap (λ (n : ℕ). Some n) (sym (eqb-true p q h))

pub place_is : (p : ℕ) (a : Option ℕ) → a ≡ Some p → is_place p a ≡ true
place_is p a e = let P : Option ℕ → Type 0 = λ z. is_place p z ≡ true in subst P (sym e) (eq-eqb p p refl)

-- the sockets of the two
pub asked_sockets : (a : Option ℕ) (x y : Life) → is_asked a x y ≡ true → (x.foreign ≡ y.socket) × (x.socket ≡ y.foreign)
asked_sockets a x y h =
    let t = and_true (x.foreign == y.socket && x.socket == y.foreign) (is_place y.own_stamp a) h in
    let u = and_true (x.foreign == y.socket) (x.socket == y.foreign) t.0 in
    (eqb-true x.foreign y.socket u.0, eqb-true x.socket y.foreign u.1)

-- whether one's partner's request is the other's own
pub asks : (log : List Crossing) (x y : Life) → is_asked (asked_at log x) x y ≡ true → partner_request log x ≡ Some (own_request y)
asks log x y h =
    let t = and_true (x.foreign == y.socket && x.socket == y.foreign) (is_place y.own_stamp (asked_at log x)) h in
    let u = and_true (x.foreign == y.socket) (x.socket == y.foreign) t.0 in
    named_is x (asked_at log x) (own_request y) (place_true y.own_stamp (asked_at log x) t.1) (eqb-true x.foreign y.socket u.0) (eqb-true x.socket y.foreign u.1)

pub asks_is : (log : List Crossing) (x y : Life) → partner_request log x ≡ Some (own_request y) → is_asked (asked_at log x) x y ≡ true
asks_is log x y h =
    let t = named_some x (asked_at log x) (own_request y) h in
    and_from (x.foreign == y.socket && x.socket == y.foreign) (is_place y.own_stamp (asked_at log x))
    (and_from (x.foreign == y.socket) (x.socket == y.foreign) (eq-eqb x.foreign y.socket t.1) (eq-eqb x.socket y.foreign t.2))
    (place_is y.own_stamp (asked_at log x) t.0)

-- whether two own requests are one
pub own_is : (x y : Life) → own_request x ≡ own_request y → same_own x y ≡ true
own_is x y e =
    and_from (x.own_stamp == y.own_stamp && x.socket == y.socket) (x.foreign == y.foreign)
    (and_from (x.own_stamp == y.own_stamp) (x.socket == y.socket) (eq-eqb x.own_stamp y.own_stamp (ap (λ (n : Name). n.place) e)) (eq-eqb x.socket y.socket (ap (λ (n : Name). n.own) e)))
    (eq-eqb x.foreign y.foreign (ap (λ (n : Name). n.foreign) e))

pub own_true : (x y : Life) → same_own x y ≡ true → own_request x ≡ own_request y
own_true x y h =
    let t = and_true (x.own_stamp == y.own_stamp && x.socket == y.socket) (x.foreign == y.foreign) h in
    let u = and_true (x.own_stamp == y.own_stamp) (x.socket == y.socket) t.0 in
    let at : ℕ → ℕ → ℕ → Name = λ p s f. record { place = p; own = s; foreign = f } in
    ap (λ (p : ℕ). at p x.socket x.foreign) (eqb-true x.own_stamp y.own_stamp u.0) ∙ ap (λ (s : ℕ). at y.own_stamp s x.foreign) (eqb-true x.socket y.socket u.1)
    ∙ ap (λ (f : ℕ). at y.own_stamp y.socket f) (eqb-true x.foreign y.foreign t.1)

-- whether two partner's requests are one
places_true : (a b : Option ℕ) → same_place a b ≡ true → (p : ℕ) × (a ≡ Some p) × (b ≡ Some p)
places_true None b h = absurd (cc)
places_true (Some p) b h = (p, refl, place_true p b h)

places_is : (a b : Option ℕ) (p : ℕ) → a ≡ Some p → b ≡ Some p → same_place a b ≡ true
places_is a b p e f =
    let P : Option ℕ → Type 0 = λ z. same_place z b ≡ true in
    subst P (sym e) (place_is p b f)

ends_is : (x y : Life) → x.socket ≡ y.socket → x.foreign ≡ y.foreign → x.host ≡ y.host → x.peer ≡ y.peer → same_ends x y ≡ true
ends_is x y s f h p =
    and_from (x.socket == y.socket && x.foreign == y.foreign && same_host x.host y.host) (same_host x.peer y.peer)
    (and_from (x.socket == y.socket && x.foreign == y.foreign) (same_host x.host y.host)
    (and_from (x.socket == y.socket) (x.foreign == y.foreign) (eq-eqb x.socket y.socket s) (eq-eqb x.foreign y.foreign f)) (same_host-is x.host y.host h))
    (same_host-is x.peer y.peer p)

pub asked_is : (log : List Crossing) (x y : Life) (name : Name) → partner_request log x ≡ Some name → partner_request log y ≡ Some name → same_asked log (asked_at log y) x y ≡ true
asked_is log x y name h k =
    let t = named_some x (asked_at log x) name h in
    let u = named_some y (asked_at log y) name k in
    let hosts = same_hosts log x y name.place t.0 u.0 in
    and_from (same_ends x y) (same_place (asked_at log x) (asked_at log y))
    (ends_is x y (t.2 ∙ sym u.2) (t.1 ∙ sym u.1) hosts.0 hosts.1) (places_is (asked_at log x) (asked_at log y) name.place t.0 u.0)

pub asked_true : (log : List Crossing) (x y : Life) → same_asked log (asked_at log y) x y ≡ true
    → (name : Name) × (partner_request log x ≡ Some name) × (partner_request log y ≡ Some name)
asked_true log x y h =
    let t = and_true (same_ends x y) (same_place (asked_at log x) (asked_at log y)) h in
    let p = places_true (asked_at log x) (asked_at log y) t.1 in
    let u = and_true (x.socket == y.socket && x.foreign == y.foreign && same_host x.host y.host) (same_host x.peer y.peer) t.0 in
    let v = and_true (x.socket == y.socket && x.foreign == y.foreign) (same_host x.host y.host) u.0 in
    let w = and_true (x.socket == y.socket) (x.foreign == y.foreign) v.0 in
    let name : Name = record { place = p.0; own = x.foreign; foreign = x.socket } in
    (name, named_is x (asked_at log x) name p.1 refl refl, named_is y (asked_at log y) name p.2 (sym (eqb-true x.foreign y.foreign w.1)) (sym (eqb-true x.socket y.socket w.0)))

-- a life whose partner's message went out has a partner's request
pub some_named : (x : Life) (a : Option ℕ) → IsSome a → IsSome (named x a)
some_named x None h = absurd (cc)
some_named x (Some p) h = refl

-- whether they are each other's partners
pub partner_true : (log : List Crossing) (x y : Life) → is_partner log x y ≡ true → (x.peer ≡ y.host) × (y.peer ≡ x.host) × (partner_request log y ≡ Some (own_request x))
partner_true log x y h =
    let t = and_true (same_host x.peer y.host && same_host y.peer x.host) (is_asked (asked_at log y) y x) h in
    let u = and_true (same_host x.peer y.host) (same_host y.peer x.host) t.0 in
    (same_host-true x.peer y.host u.0, same_host-true y.peer x.host u.1, asks log y x t.1)

pub partner_is : (log : List Crossing) (x y : Life) → x.peer ≡ y.host → y.peer ≡ x.host → partner_request log y ≡ Some (own_request x) → is_partner log x y ≡ true
partner_is log x y p q a =
    and_from (same_host x.peer y.host && same_host y.peer x.host) (is_asked (asked_at log y) y x)
    (and_from (same_host x.peer y.host) (same_host y.peer x.host) (same_host-is x.peer y.host p) (same_host-is y.peer x.host q)) (asks_is log y x a)
