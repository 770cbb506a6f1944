-- The course of a life, moment by moment: each crossing and each contact of its host changes it once.
use Rattle.world_keeps_streams.proofs.Common.{◌≡◌, ℕ, suc, ◌+◌, ◌<◌, ◌≤◌, ◌==◌, ◌&&◌, ◌||◌, Bool, true, false, if◌then◌else◌, List, [], ◌∷◌, ◌++◌, length, refl, ap, sym, ◌∙◌, eq-eqb, arith, eqb-true, list_any, Host, same_host, Crossing, Legal, Order, Wrong, orders_of, Command, Request, Called, Asked, Crossed, Moment, places, contacts_of, crossings_of, places_same, or_nothing}
use Rattle.promise.specs.Ends.{Asking, Course, Dropped, Going, Over, Stage, crosses, cut, each, ended_by, heard, is_contact, said, called, course, is_half}
use Rattle.net_sim.specs.Book.{new_life, contacts_asked}
use Rattle.std.proofs.lemmas.List.{append-nil}
use Rattle.std.proofs.lemmas.List.Folds.{list_any-append}
use Rattle.interface.specs.declared.crossing.Crossing.TheVariants as crossing
use Rattle.ncp_control.specs.declared.command.Command.TheVariants as command
use Rattle.sockets.specs.declared.request.Request.TheVariants as request
use Rattle.promise.specs.declared.life.Life.{Life}
use Rattle.world_keeps_streams.proofs.Lives.Lists.{Named}

-- ---- a life by its names only

abbrev pub key_of : Life → Life
key_of x = new_life x.host x.socket x.peer x.foreign x.own_stamp x.partner_stamp

pub key_named : (x z : Life) → Named x z → key_of z ≡ key_of x
key_named x z n =
    ap (λ (v : Host). new_life v z.socket z.peer z.foreign z.own_stamp z.partner_stamp) n.host
    ∙ ap (λ (v : ℕ). new_life x.host v z.peer z.foreign z.own_stamp z.partner_stamp) n.socket
    ∙ ap (λ (v : Host). new_life x.host x.socket v z.foreign z.own_stamp z.partner_stamp) n.peer
    ∙ ap (λ (v : ℕ). new_life x.host x.socket x.peer v z.own_stamp z.partner_stamp) n.foreign
    ∙ ap (λ (v : ℕ). new_life x.host x.socket x.peer x.foreign v z.partner_stamp) n.own
    ∙ ap (λ (v : ℕ). new_life x.host x.socket x.peer x.foreign x.own_stamp v) n.partner

said_key : (x : Life) (place : ℕ) (c : Command) (k : Course) → said (key_of x) place c k ≡ said x place c k
said_key x place command.Rst k = refl
said_key x place command.Rrp k = refl
said_key x place c k = refl

heard_key : (x : Life) (place : ℕ) (c : Command) (k : Course) → heard (key_of x) place c k ≡ heard x place c k
heard_key x place command.Rst k = refl
heard_key x place c k = refl

each_same : (f g : Command → Course → Course) → ((c : Command) (k : Course) → f c k ≡ g c k) → (os : List Order) (k : Course) → each f os k ≡ each g os k
each_same f g same [] k = refl
each_same f g same (Legal c ∷ os) k = ap (λ (j : Course). each f os j) (same c k) ∙ each_same f g same os (g c k)
each_same f g same (Wrong code octets ∷ os) k = each_same f g same os k

if_same : (v : Bool) (j k l : Course) → j ≡ k → (if v then j else l) ≡ (if v then k else l)
if_same true j k l e = e
if_same false j k l e = refl

crosses_key : (x : Life) (place : ℕ) (c : Crossing) (k : Course) → crosses (key_of x) place c k ≡ crosses x place c k
crosses_key x place (crossing.Out m) k = if_same _ (each (said (key_of x) place) (orders_of m.text) k) (each (said x place) (orders_of m.text) k) k (each_same (said (key_of x) place) (said x place) (said_key x place) (orders_of m.text) k)
crosses_key x place (crossing.In m) k = if_same _ (each (heard (key_of x) place) (orders_of m.text) k) (each (heard x place) (orders_of m.text) k) k (each_same (heard (key_of x) place) (heard x place) (heard_key x place) (orders_of m.text) k)
crosses_key x place (crossing.Answer kind f) k = refl
crosses_key x place (crossing.Down h) k = refl
crosses_key x place (crossing.Up h) k = refl

pub course_key : (contacts : List Called) (x : Life) (log : List Crossing) → course contacts (key_of x) log ≡ course contacts x log
course_key contacts x [] = refl
course_key contacts x (c ∷ log) =
    ap (λ (k : Course). called contacts x (length (c ∷ log)) k)
    (ap (λ (k : Course). crosses (key_of x) (length log) c k) (course_key contacts x log) ∙ crosses_key x (length log) c (course contacts x log))

-- ---- moment by moment

abbrev pub begin : Course
begin = record { stage = Asking false false; owes = false; early = false }

abbrev pub contacted_if : Bool → ℕ → Course → Course
contacted_if v place k = if v then ended_by (cut Dropped place) k else k

abbrev pub moved : Life → ℕ → Moment → Course → Course
moved x place (Crossed c) k = crosses x place c k
moved x place (Asked h (request.Contact peer)) k = contacted_if (same_host x.host h && same_host x.peer peer) place k
moved x place (Asked h r) k = k

abbrev pub course_in : Life → List Moment → Course
course_in x [] = begin
course_in x (y ∷ ms) = moved x (places ms) y (course_in x ms)

-- ---- contacts are at the places where they were asked for

abbrev AllBelow : ℕ → List Called → Type 0
AllBelow n [] = Unit {0}
AllBelow n (c ∷ cs) = (c.place ≤ n) × AllBelow n cs

below_more : (n : ℕ) (cs ds : List Called) → AllBelow n cs → AllBelow n ds → AllBelow n (cs ++ ds)
below_more n [] ds h k = k
below_more n (c ∷ cs) ds h k = (h.0, below_more n cs ds h.1 k)

below_next : (n : ℕ) (cs : List Called) → AllBelow n cs → AllBelow (1 + n) cs
below_next n [] h = tt
below_next n (c ∷ cs) h = ((let l : c.place ≤ n = h.0 in omega (arith, l)), below_next n cs h.1)

below_asked : (h : Host) (n : ℕ) (r : Request) → AllBelow n (contacts_asked h n r)
below_asked h n (request.Contact peer) = (omega arith, tt)
below_asked h n r = tt

pub contacts_below : (ms : List Moment) → AllBelow (places ms) (contacts_of ms)
contacts_below [] = tt
contacts_below (Crossed c ∷ ms) = below_next _ _ (contacts_below ms)
contacts_below (Asked h r ∷ ms) = below_more _ _ _ (contacts_below ms) (below_asked h _ r)

-- one at another place isn't of this one
pub not_there : (h p : Host) (place : ℕ) (c : Called) (v : Bool) → (c.place ≡ place → ⊥) → (c.place == place) ≡ v
    → is_contact h p place c ≡ false
not_there h p place c true never e = absurd (never (eqb-true c.place place e))
not_there h p place c false never e = by (same_host h c.host && same_host p c.peer) where
  by : (w : Bool) → (w && c.place == place) ≡ false
  by true = e
  by false = refl

pub none_there : (h p : Host) (n place : ℕ) (cs : List Called) → n < place → AllBelow n cs
    → list_any (is_contact h p place) cs ≡ false
none_there h p n place [] less b = refl
none_there h p n place (c ∷ cs) less b =
    let first : is_contact h p place c ≡ false = not_there h p place c _ (λ e. (let l : c.place ≤ n = b.0 in absurd (omega (arith, l, less, e)))) refl in
    let rest : list_any (is_contact h p place) cs ≡ false = none_there h p n place cs less b.1 in
    rw (first, rest) refl

called_none : (x : Life) (n place : ℕ) (cs : List Called) (k : Course) → n < place → AllBelow n cs → called cs x place k ≡ k
called_none x n place cs k less b = ap (λ (v : Bool). contacted_if v place k) (none_there x.host x.peer n place cs less b)

-- ---- a contact more

pub any_with : (h p : Host) (place : ℕ) (cs : List Called) (c : Called)
    → list_any (is_contact h p place) (cs ++ c ∷ []) ≡ (list_any (is_contact h p place) cs || is_contact h p place c)
any_with h p place cs c = list_any-append (is_contact h p place) cs (c ∷ []) ∙ ap (λ (v : Bool). list_any (is_contact h p place) cs || v) (or_nothing _)

-- before its place it changes nothing
called_with : (x : Life) (place : ℕ) (cs : List Called) (c : Called) (k : Course) → (c.place ≡ place → ⊥) → called (cs ++ c ∷ []) x place k ≡ called cs x place k
called_with x place cs c k never =
    ap (λ (v : Bool). contacted_if v place k)
    (any_with x.host x.peer place cs c ∙ ap (λ (v : Bool). list_any (is_contact x.host x.peer place) cs || v) (not_there x.host x.peer place c _ never refl) ∙ or_nothing _)

later_contact : (x : Life) (cs : List Called) (c : Called) (log : List Crossing) → length log < c.place → course (cs ++ c ∷ []) x log ≡ course cs x log
later_contact x cs c [] less = called_with x 0 cs c begin (λ e. absurd (omega (arith, less, e)))
later_contact x cs c (d ∷ log) less =
    called_with x (length (d ∷ log)) cs c (crosses x (length log) d (course (cs ++ c ∷ []) x log)) (λ e. (let l : length (d ∷ log) < c.place = less in absurd (omega (arith, l, e))))
    ∙ ap (λ (k : Course). called cs x (length (d ∷ log)) (crosses x (length log) d k)) (later_contact x cs c log (let l : suc (length log) < c.place = less in omega (arith, l)))

-- twice is once
half_cut : (place : ℕ) (e : Bool) (s : Stage) → ((e || is_half s) || is_half (cut Dropped place s)) ≡ (e || is_half s)
half_cut place true s = refl
half_cut place false (Asking true p) = refl
half_cut place false (Asking false true) = refl
half_cut place false (Asking false false) = refl
half_cut place false (Going o p) = refl
half_cut place false (Over c n) = refl

cut_again : (place : ℕ) (s : Stage) → cut Dropped place (cut Dropped place s) ≡ cut Dropped place s
cut_again place (Asking o p) = refl
cut_again place (Going o p) = refl
cut_again place (Over c n) = refl

twice : (place : ℕ) (k : Course) → ended_by (cut Dropped place) (ended_by (cut Dropped place) k) ≡ ended_by (cut Dropped place) k
twice place k =
    ap (λ (s : Stage). let j : Course = record { stage = s; owes = k.owes; early = (k.early || is_half k.stage) || is_half (cut Dropped place k.stage) } in j) (cut_again place k.stage)
    ∙ ap (λ (v : Bool). let j : Course = record { stage = cut Dropped place k.stage; owes = k.owes; early = v } in j) (half_cut place k.early k.stage)

added : (v w : Bool) (place : ℕ) (k : Course) → contacted_if (v || w) place k ≡ contacted_if w place (contacted_if v place k)
added true true place k = sym (twice place k)
added true false place k = refl
added false true place k = refl
added false false place k = refl

called_more : (x : Life) (place : ℕ) (cs : List Called) (c : Called) (k : Course) → called (cs ++ c ∷ []) x place k ≡ contacted_if (is_contact x.host x.peer place c) place (called cs x place k)
called_more x place cs c k =
    ap (λ (v : Bool). contacted_if v place k) (any_with x.host x.peer place cs c)
    ∙ added _ _ place k

now_contact : (x : Life) (cs : List Called) (c : Called) (log : List Crossing) → c.place ≡ length log → course (cs ++ c ∷ []) x log ≡ contacted_if (is_contact x.host x.peer (length log) c) (length log) (course cs x log)
now_contact x cs c [] at = called_more x 0 cs c begin
now_contact x cs c (d ∷ log) at =
    called_more x (length (d ∷ log)) cs c (crosses x (length log) d (course (cs ++ c ∷ []) x log))
    ∙ ap (λ (k : Course). contacted_if (is_contact x.host x.peer (length (d ∷ log)) c) (length (d ∷ log)) (called cs x (length (d ∷ log)) (crosses x (length log) d k)))
    (later_contact x cs c log (let l : c.place ≡ suc (length log) = at in omega (arith, l)))

and_true : (a b : Bool) → (a && b && true) ≡ (a && b)
and_true true true = refl
and_true true false = refl
and_true false b = refl

pub is_there : (h p g q : Host) (n m : ℕ) → n ≡ m → is_contact h p m (record { host = g; place = n; peer = q }) ≡
    (same_host h g && same_host p q)
is_there h p g q n m e = by (n == m) refl where
  by : (v : Bool) → (n == m) ≡ v → (same_host h g && same_host p q && v) ≡ (same_host h g && same_host p q)
  by true f = and_true (same_host h g) (same_host p q)
  by false f = absurd (let t : (n == m) ≡ true = eq-eqb n m e in let no : true ≡ false = sym t ∙ f in cc)

-- ---- all moments

pub course_same : (x : Life) (ms : List Moment) → course (contacts_of ms) x (crossings_of ms) ≡ course_in x ms
course_same x [] = refl
course_same x (Crossed c ∷ ms) =
    called_none x _ _ _ _ (let e : places ms ≡ length (crossings_of ms) = places_same ms in omega (arith, e)) (contacts_below ms)
    ∙ ap (λ (n : ℕ). crosses x n c (course (contacts_of ms) x (crossings_of ms))) (sym (places_same ms))
    ∙ ap (λ (k : Course). crosses x (places ms) c k) (course_same x ms)
course_same x (Asked h (request.Contact peer) ∷ ms) =
    now_contact x _ _ _ (places_same ms)
    ∙ ap (λ (v : Bool). contacted_if v (length (crossings_of ms)) (course (contacts_of ms) x (crossings_of ms))) (is_there x.host x.peer h peer _ _ (places_same ms))
    ∙ ap (λ (n : ℕ). contacted_if (same_host x.host h && same_host x.peer peer) n (course (contacts_of ms) x (crossings_of ms))) (sym (places_same ms))
    ∙ ap (λ (k : Course). contacted_if (same_host x.host h && same_host x.peer peer) (places ms) k) (course_same x ms)
course_same x (Asked h r ∷ ms) = ap (λ (cs : List Called). course cs x (crossings_of ms)) (append-nil (contacts_of ms)) ∙ course_same x ms
