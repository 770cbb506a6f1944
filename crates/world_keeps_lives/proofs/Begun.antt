-- A life that begins has both requests in messages that crossed, and the link of its end.
use Rattle.world_keeps_lives.proofs.Common.{◌≡◌, ℕ, ◌==◌, Bool, true, false, ◌&&◌, if◌then◌else◌, List, [], ◌∷◌, filter, Some, refl, ap, sym, subst, ◌∙◌, eq-eqb, Contains, eqb-true, Host, Flow, is_receive_socket, is_mine_on, Entry, both, pair_with, HaveAddresses, HasCrossed, coming, going, request, Moment, program, crossings_of, Life, HasOpenEnd, mine_on, AreOurs, Network, Happened, mixed_kept, contains_head, contains_tail}
use Rattle.interface.specs.Mailboxes as mail
use Rattle.world_keeps_lives.proofs.Facts.{no}
use Rattle.world_keeps_lives.proofs.Laws.{live_end}
use Rattle.world_keeps_lives.proofs.Sockets.{held}
use Rattle.world_keeps_lives.proofs.Firsts.Linked.{HasRequests}
use Rattle.world_keeps_lives.proofs.Walk.Rules.{Each, each_filter, each_in, each_weaker}
use Rattle.world_keeps_lives.proofs.Grounds.{Grounded, IsAnswered, IsAsked, Opens, grounds}

-- ---- the end of a life that continues has the link of its messages

abbrev pub Bound : Life → ℕ → Entry → Type 0
Bound x link e = e.mine ≡ true → e.own ≡ x.socket → e.asked ≡ Some x.own_stamp → e.partner ≡ Some x.partner_stamp → e.link ≡ Some link

abbrev pub IsBound : List Moment → Life → ℕ → Type 0
IsBound moments x link = x.ended ≡ false → Each (Bound x link) (pair_with x.peer (program x.host moments).peers).entries

-- its requests crossed, and its end, where it continues, has their link
pub record Begun (moments : List Moment) (x : Life) : Type 0 where
  pub link : ℕ
  pub asked : HasRequests (crossings_of moments) (record { life = x; link = link })
  pub bound : IsBound moments x link

-- ---- lists of ends

filter_on : (test : Entry → Bool) (x : Entry) (es : List Entry) → test x ≡ true → filter test (x ∷ es) ≡ x ∷ filter test es
filter_on test x es t = rw t refl

filter_off : (test : Entry → Bool) (x : Entry) (es : List Entry) → test x ≡ false → filter test (x ∷ es) ≡ filter test es
filter_off test x es t = rw t refl

pub in_filter : (test : Entry → Bool) (es : List Entry) → Each (λ (e : Entry). test e ≡ true → Contains (filter test es) e) es
in_filter test [] = tt
in_filter test (x ∷ es) = by (test x) refl (in_filter test es) where
  by : (b : Bool) → test x ≡ b → Each (λ (e : Entry). test e ≡ true → Contains (filter test es) e) es → Each (λ (e : Entry). test e ≡ true → Contains (filter test (x ∷ es)) e) (x ∷ es)
  by true t rest =
      subst (λ (l : List Entry). Each (λ (e : Entry). test e ≡ true → Contains l e) (x ∷ es)) (sym (filter_on test x es t))
      ((λ u. contains_head x (filter test es)), each_weaker _ _ es (λ e k u. contains_tail x (filter test es) e (k u)) rest)
  by false t rest = subst (λ (l : List Entry). Each (λ (e : Entry). test e ≡ true → Contains l e) (x ∷ es)) (sym (filter_off test x es t)) ((λ u. no (test x) u t), rest)

only_one : (x e : Entry) → Contains (x ∷ []) e → e ≡ x
only_one x e there = each_in (λ (y : Entry). y ≡ x) (x ∷ []) e there (refl, tt)

pub nobody : {A : Type 0} (e : Entry) → Contains [] e → A
nobody e there = absurd (each_in (λ (y : Entry). ⊥) [] e there tt)

pub mine_true : (s : ℕ) (e : Entry) → e.mine ≡ true → e.own ≡ s → is_mine_on s e ≡ true
mine_true s e mine own = ap (λ (b : Bool). b && e.own == s) mine ∙ eq-eqb e.own s own

-- all of a host's own on a socket are the one that there is
pub alone_on : (s : ℕ) (es : List Entry) (x : Entry) → mine_on s es ≡ x ∷ [] → Each (λ (e : Entry). e.mine ≡ true → e.own ≡ s → e ≡ x) es
alone_on s es x one =
    each_weaker _ _ es
    (λ e k mine own. only_one x e (subst (λ (l : List Entry). Contains l e) one (k (mine_true s e mine own)))) (in_filter _ es)

passing : (test : Entry → Bool) (es : List Entry) → Each (λ (e : Entry). test e ≡ true) (filter test es)
passing test [] = tt
passing test (x ∷ es) = by (test x) refl (passing test es) where
  by : (b : Bool) → test x ≡ b → Each (λ (e : Entry). test e ≡ true) (filter test es) → Each (λ (e : Entry). test e ≡ true) (filter test (x ∷ es))
  by true t rest = rw t (t, rest)
  by false t rest = rw t rest

pub one_is : (P : Entry → Type 0) (s : ℕ) (es : List Entry) (x : Entry) → mine_on s es ≡ x ∷ [] → Each P es → P x × (is_mine_on s x ≡ true)
one_is P s es x one h = (
  (subst (λ (l : List Entry). Each P l) one (each_filter P _ es h)).0,
  (subst (λ (l : List Entry). Each (λ (e : Entry). is_mine_on s e ≡ true) l) one (passing _ es)).0,
)

-- ---- a life that begins has the link of its end

module _ (hosts : Network) (addresses : HaveAddresses hosts.all) (moments : List Moment)
    (run : mail.IsRun hosts.all (crossings_of moments)) (time : Happened hosts moments) where
  begun_by : (x : Life) → (o : HasOpenEnd (program x.host moments) x) → Grounded x.host x.peer (crossings_of moments) o.end × (is_mine_on x.socket o.end ≡ true) → Begun moments x
  begun_by x o g = by (is_receive_socket x.socket) refl where
    on : (o.end.mine ≡ true) × ((o.end.own == x.socket) ≡ true)
    on = both o.end.mine (o.end.own == x.socket) g.1

    own : o.end.own ≡ x.socket
    own = eqb-true o.end.own x.socket on.1

    asked : IsAsked x.host x.peer (crossings_of moments) o.end x.own_stamp
    asked = g.0.asked on.0 x.own_stamp o.own

    answered : IsAnswered x.host x.peer (crossings_of moments) o.end x.partner_stamp
    answered = g.0.partner on.0 x.partner_stamp o.partner

    went : HasCrossed going x.host x.peer x.own_stamp (request x.socket x.foreign asked.named) (crossings_of moments)
    went = subst (λ (n : ℕ). HasCrossed going x.host x.peer x.own_stamp (request n x.foreign asked.named) (crossings_of moments)) own
        (subst (λ (n : ℕ). HasCrossed going x.host x.peer x.own_stamp (request o.end.own n asked.named) (crossings_of moments)) o.foreign asked.crossed)

    came : HasCrossed coming x.peer x.host x.partner_stamp (request x.foreign x.socket answered.named) (crossings_of moments)
    came = subst (λ (n : ℕ). HasCrossed coming x.peer x.host x.partner_stamp (request n x.socket answered.named) (crossings_of moments)) o.foreign
        (subst (λ (n : ℕ). HasCrossed coming x.peer x.host x.partner_stamp (request o.end.foreign n answered.named) (crossings_of moments)) own answered.crossed)

    tied : (link : ℕ) → o.end.link ≡ Some link → IsBound moments x link
    tied link is = λ goes.
        each_weaker (λ (e : Entry). e.mine ≡ true → e.own ≡ x.socket → e ≡ o.end) (Bound x link) (pair_with x.peer (program x.host moments).peers).entries
        (λ e k mine same a b. ap (λ (y : Entry). y.link) (k mine same) ∙ is) (alone_on x.socket _ o.end o.one)

    by : (r : Bool) → is_receive_socket x.socket ≡ r → Begun moments x
    by true r = record {
      link = asked.named;
      asked = record {
        size = answered.named;
        own = subst (λ (t : Bool). HasCrossed going x.host x.peer x.own_stamp (request x.socket x.foreign (if t then asked.named else answered.named)) (crossings_of moments)) (sym r) went;
        partner = subst (λ (t : Bool). HasCrossed coming x.peer x.host x.partner_stamp (request x.foreign x.socket (if t then answered.named else asked.named)) (crossings_of moments)) (sym r) came;
      };
      bound = tied asked.named (asked.link (ap is_receive_socket own ∙ r));
    }
    by false r = record {
      link = answered.named;
      asked = record {
        size = asked.named;
        own = subst (λ (t : Bool). HasCrossed going x.host x.peer x.own_stamp (request x.socket x.foreign (if t then answered.named else asked.named)) (crossings_of moments)) (sym r) went;
        partner = subst (λ (t : Bool). HasCrossed coming x.peer x.host x.partner_stamp (request x.foreign x.socket (if t then asked.named else answered.named)) (crossings_of moments)) (sym r) came;
      };
      bound = tied answered.named (answered.link (ap is_receive_socket own ∙ r));
    }

  pub begins : (x : Life) → AreOurs hosts x.host x.peer → Contains (mixed_kept hosts.strange moments).book.lives x
      → Opens x.host x.peer (crossings_of moments) x.socket x.foreign x.own_stamp x.partner_stamp → Begun moments x
  begins x ours there o = by x.ended refl where
    by : (z : Bool) → x.ended ≡ z → Begun moments x
    by true f = record { link = o.link; asked = record { size = o.size; own = o.own; partner = o.partner }; bound = λ g. no x.ended f g }
    by false f =
        let e : HasOpenEnd (program x.host moments) x = live_end _ _ x there f (held hosts addresses x.host ours.0 x.socket moments run time) in
        begun_by x e (one_is (Grounded x.host x.peer (crossings_of moments)) x.socket (pair_with x.peer (program x.host moments).peers).entries e.end e.one (grounds hosts addresses moments run time x.host x.peer ours))

-- ---- the flow of a message

pub flow_two : (f : Flow) (x y : Host) (l : ℕ) → x ≡ f.source → y ≡ f.destination → f.link.0 ≡ l → f ≡ record { source = x; destination = y; link = record { 0 = l } }
flow_two f x y l s d e =
    ap (λ (n : ℕ). two f.source f.destination n) e ∙ ap (λ (h : Host). two h f.destination l) (sym s) ∙ ap (λ (h : Host). two x h l) (sym d) where
      two : Host → Host → ℕ → Flow
      two a b n = record { source = a; destination = b; link = record { 0 = n } }
