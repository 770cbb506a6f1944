-- Each thing that is done to the connections of a pair, at one socket of the host.
use Rattle.world_keeps_lives.proofs.Common.{◌≡◌, ◌⊎◌, inl, inr, ℕ, ◌==◌, ◌&&◌, ◌||◌, Bool, true, false, not, if◌then◌else◌, List, [], ◌∷◌, ◌++◌, length, filter, find, Option, Some, None, is_some, refl, ap, sym, subst, ◌∙◌, eq-eqb, arith, eqb-true, flat_map, Host, same_host, same_host-refl, is_receive_socket, is_send_socket, Allocation, Command, cls_sent, DeskState, listener_on, listens_on, command_queued, settled, swept, desk_told, Entry, Listener, Notice, both, Life, AddsUp, AreRefusing, EachIn, IsFresh, IsLifeOf, IsSafe, NoneOf, at_socket, has_opened, mine_on}
use Rattle.host_pairs.specs.Entries.{called_off, changed_first, closed_by_partner, closed_when, ending, entry_at, has_cls, is_at, is_ending, is_mine_on, is_over, is_receiving, must_close, opening_notices, opening_by, is_answered, is_drained, is_due}
use Rattle.host_pairs.specs.Commands.{answered_on, changed, entry_joined}
use Rattle.net_sim.specs.Book.{Kept, all_told, lives_between, new_life}
use Rattle.std.proofs.lemmas.List.{append-nil, nil_from_length}
use Rattle.ncp_control.specs.Allocation as counters
use Rattle.host_pairs.specs.declared.entry.Closing.TheVariants as closing
use Rattle.host_pairs.specs.declared.notice.Notice.TheVariants as notice
use Rattle.host_keeps_streams.proofs.lemmas.{odd_is, due_open, due_cls}
use Rattle.world_keeps_lives.proofs.Ends.{IsRefusing, split, found_changed, mine_append, mine_one, refusing_append, refusing_changed, refusing_filtered, refusing_found, refusing_mapped}
use Rattle.world_keeps_lives.proofs.Books.{all_told_append, each_ended, each_more, each_weaker}
use Rattle.world_keeps_lives.proofs.Desks.{AreAside, At, Drains, Elsewhere, IsLess, Near, Place, at_aside, at_changed, at_lessened, at_mapped, clash, each_all_aside, listens_found, open_parts, own_is, own_off, without_other, without_same}

-- ---- ends that only close

pub closed_less : (b : Bool) (e : Entry) → IsLess e (closed_when b e)
closed_less true e = record {
  mine = (refl, refl);
  foreign = refl;
  asked = refl;
  partner = refl;
  allocation = refl;
  waits = λ o. clash _ true refl (open_parts (closed_when true e) o).unclosed;
  fresh = λ f. f;
}
closed_less false e = record { mine = (refl, refl); foreign = refl; asked = refl; partner = refl; allocation = refl; waits = λ o. (o, refl); fresh = λ f. f }

pub called_less : (e : Entry) → IsLess e (called_off e)
called_less e = record {
  mine = (refl, refl);
  foreign = refl;
  asked = refl;
  partner = refl;
  allocation = refl;
  waits = λ o. (ap (λ (b : Bool). has_opened e && not (b || e.partner_closed)) (due_cls e.closing) ∙ o, refl);
  fresh = λ f. f;
}

pub heard_less : (e : Entry) → IsLess e (closed_by_partner e)
heard_less e = record {
  mine = (refl, refl);
  foreign = refl;
  asked = refl;
  partner = refl;
  allocation = refl;
  waits = λ o. clash _ true refl (open_parts (closed_by_partner e) o).unheard;
  fresh = λ f lacks. (refl, (f lacks).1);
}

pub sent_less : (e : Entry) → IsLess e (cls_sent e)
sent_less e = record {
  mine = (refl, refl);
  foreign = refl;
  asked = refl;
  partner = refl;
  allocation = refl;
  waits = λ o. clash _ true refl (open_parts (cls_sent e) o).unclosed;
  fresh = λ f. f;
}

-- ---- what the CLS of a sending end finds sent

must_drain : (busy : List ℕ) (e : Entry) → must_close busy e ≡ true → is_send_socket e.own ≡ true → (has_cls e.closing ≡ false) × (e.bits ≡ [])
must_drain busy e must kind =
    let sends : is_receiving e ≡ false = odd_is e.own kind in
    let m : (is_due e.closing ≡ true) × (is_drained busy e ≡ true) = both (is_due e.closing) (is_drained busy e) must in
    let d : (length e.bits == 0 && is_answered busy e.link) ≡ true = sym (rw sends refl) ∙ m.1 in
    (due_open e.closing m.0, nil_from_length e.bits (eqb-true (length e.bits) 0 (both (length e.bits == 0) (is_answered busy e.link) d).0))

pub closed_drains : (busy : List ℕ) (e : Entry) → Drains e (closed_when (must_close busy e) e)
closed_drains busy e q r c f = by (must_close busy e) refl c where
  by : (b : Bool) → must_close busy e ≡ b → has_cls (if b then closing.Queued else e.closing) ≡ true → (e.partner_closed ≡ false) × ((has_cls e.closing ≡ true) ⊎ ((has_cls e.closing ≡ false) × (e.bits ≡ [])))
  by true must c = (f, inr (must_drain busy e must q))
  by false must c = (f, inl c)

pub called_drains : (e : Entry) → Drains e (called_off e)
called_drains e q r c f = (f, inl (due_cls e.closing ∙ c))

pub heard_drains : (e : Entry) → Drains e (closed_by_partner e)
heard_drains e q r c f = absurd (let no : true ≡ false = f in cc)

-- a CLS that goes out was queued
pub sent_drains : (e : Entry) → (is_send_socket e.own ≡ true → is_receive_socket e.foreign ≡ true → has_cls e.closing ≡ true) → Drains e (cls_sent e)
sent_drains e queued q r c f = (f, inl (queued q r))

pub refuses_when : (b : Bool) (e : Entry) → IsRefusing e → IsRefusing (closed_when b e)
refuses_when true e r m = refl
refuses_when false e r m = r m

pub refuses_due : (e : Entry) → IsRefusing e → IsRefusing (called_off e)
refuses_due e r m = sym (due_cls e.closing) ∙ r m

module _ (a : Host) (k : ℕ) (m : Place) (p : Host) (k0 : Kept) where
  abbrev pub On : DeskState → Type 0
  On d = At a k m p (mine_on k d.entries) (listens_on k d.listening) (all_told a d.notices k0)

  pub record Good (d : DeskState) : Type 0 where
    pub refusing : AreRefusing d.entries
    pub on : On d

  pub good_if : (b : Bool) (d e : DeskState) → Good d → Good e → Good (if b then d else e)
  good_if true d e h k = h
  good_if false d e h k = k

  pub good_queued : (c : Command) (d : DeskState) → Good d → Good (command_queued c d)
  good_queued c d h = record { refusing = h.refusing; on = h.on }

  -- what is reported of something done, where the rest is done
  pub told_on : (ns : List Notice) (d : DeskState) → AreRefusing d.entries → At a k m p (mine_on k d.entries) (listens_on k d.listening) (all_told a ns (all_told a d.notices k0)) → Good (desk_told ns d)
  told_on ns d r h = record { refusing = r; on = subst (λ (κ : Kept). At a k m p (mine_on k d.entries) (listens_on k d.listening) κ) (sym (all_told_append a d.notices ns k0)) h }

  pub good_aside : (ns : List Notice) (d : DeskState) → AreAside a k ns → Good d → Good (desk_told ns d)
  good_aside ns d off h = told_on ns d h.refusing (at_aside a k m p _ _ ns _ off h.on)

  pub good_less : (test : Entry → Bool) (change : Entry → Entry) (d : DeskState) → ((e : Entry) → IsLess e (change e)) → ((e : Entry) → Drains e (change e)) → ((e : Entry) → IsRefusing e → IsRefusing (change e)) → Good d
      → Good (changed test change d)
  good_less test change d less drains keeps h = record {
    refusing = refusing_changed test change d.entries keeps h.refusing;
    on = at_lessened a k m p test change d.entries _ _ less drains h.on;
  }

  -- an end is changed, and this is reported
  pub good_changed : (test : Entry → Bool) (change : Entry → Entry) (ns : List Notice) (d : DeskState) (e : Entry) → find test d.entries ≡ Some e → is_mine_on k (change e) ≡ is_mine_on k e → ((e : Entry) → IsRefusing e → IsRefusing (change e))
      → (is_mine_on k e ≡ true → (l : Bool) (κ : Kept) → At a k m p (e ∷ []) l κ → At a k m p (change e ∷ []) l (all_told a ns κ))
      → (is_mine_on k e ≡ false → AreAside a k ns)
      → Good d → Good (desk_told ns (changed test change d))
  good_changed test change ns d e found keeps refuses here away h =
      told_on ns _ (refusing_changed test change d.entries refuses h.refusing)
      (at_changed a k m p test change d.entries _ _ _ e found keeps
      (λ is i. here is (listens_on k d.listening) _ i)
      (λ is ms i. at_aside a k m p ms (listens_on k d.listening) ns (all_told a d.notices k0) (away is) i) h.on)

  pub good_quiet : (test : Entry → Bool) (change : Entry → Entry) (d : DeskState) (e : Entry) → find test d.entries ≡ Some e → is_mine_on k (change e) ≡ is_mine_on k e → ((e : Entry) → IsRefusing e → IsRefusing (change e))
      → (is_mine_on k e ≡ true → (l : Bool) (κ : Kept) → At a k m p (e ∷ []) l κ → At a k m p (change e ∷ []) l κ)
      → Good d → Good (changed test change d)
  good_quiet test change d e found keeps refuses here h = record {
    refusing = refusing_changed test change d.entries refuses h.refusing;
    on = at_changed a k m p test change d.entries _ _ _ e found keeps
        (λ is i. here is (listens_on k d.listening) _ i) (λ is ms i. i) h.on;
  }

  -- ---- new ends

  -- one that isn't this host's own
  pub good_foreign : (e : Entry) (d : DeskState) → e.mine ≡ false → has_cls e.closing ≡ true → Good d → Good (entry_joined e d)
  good_foreign e d mine cls h =
      let off : is_mine_on k e ≡ false = ap (λ (b : Bool). b && e.own == k) mine in
      let same : mine_on k (d.entries ++ e ∷ []) ≡ mine_on k d.entries = mine_append k d.entries (e ∷ []) ∙ ap (λ (ys : List Entry). mine_on k d.entries ++ ys) (mine_one k e [] false off) ∙ append-nil (mine_on k d.entries) in
      record {
        refusing = refusing_append d.entries (e ∷ []) h.refusing ((λ f. cls), tt);
        on = subst (λ (ys : List Entry). At a k m p ys (listens_on k d.listening) (all_told a d.notices k0)) (sym same) h.on;
      }

  begun : (ms : List Entry) (e : Entry) (κ : Kept) → IsFresh e → At a k m p ms true κ → At a k m p (ms ++ e ∷ []) false κ
  begun ms e κ fresh h = by m ms h where
    by : (n : Place) (ms : List Entry) → At a k n p ms true κ → At a k n p (ms ++ e ∷ []) false κ
    by Near [] i = (fresh, each_weaker a k NoneOf _ κ.book.lives κ.handed (λ x t there lacks. absurd lacks) i)
    by Near (f ∷ []) i = absurd i
    by Near (f ∷ g ∷ ms) i = absurd i
    by (Elsewhere q y) [] i = absurd i
    by (Elsewhere q y) (f ∷ ms) i = absurd i

  -- one of this host's own, on a socket that listened
  pub good_joined : (e : Entry) (l : Listener) (d : DeskState) → e.mine ≡ true → IsFresh e → listener_on e.own d.listening ≡ Some l → Good d → Good (entry_joined e (answered_on e.own d))
  good_joined e l d mine fresh listens h = record { refusing = refusing_append d.entries (e ∷ []) h.refusing ((λ f. clash _ e.mine mine f), tt); on = by (e.own == k) refl } where
    is : (b : Bool) → (e.own == k) ≡ b → is_mine_on k e ≡ b
    is b f = ap (λ (c : Bool). c && e.own == k) mine ∙ f

    grown : (b : Bool) → (e.own == k) ≡ b → mine_on k (d.entries ++ e ∷ []) ≡ mine_on k d.entries ++ (if b then e ∷ [] else [])
    grown b f = mine_append k d.entries (e ∷ []) ∙ ap (λ (ys : List Entry). mine_on k d.entries ++ ys) (mine_one k e [] b (is b f))

    by : (b : Bool) → (e.own == k) ≡ b → On (entry_joined e (answered_on e.own d))
    by true f =
        let own : e.own ≡ k = own_is k e (is true f) in
        let was : listens_on k d.listening ≡ true = subst (λ (n : ℕ). listens_on n d.listening ≡ true) own (listens_found e.own d.listening l listens) in
        let now : listens_on k (answered_on e.own d).listening ≡ false = subst (λ (n : ℕ). listens_on k (answered_on n d).listening ≡ false) (sym own) (without_same k d.listening) in
        let old : At a k m p (mine_on k d.entries) true (all_told a d.notices k0) = subst (λ (b : Bool). At a k m p (mine_on k d.entries) b (all_told a d.notices k0)) was h.on in
        let new : At a k m p (mine_on k (d.entries ++ e ∷ [])) false (all_told a d.notices k0) =
        subst (λ (ys : List Entry). At a k m p ys false (all_told a d.notices k0)) (sym (grown true f)) (begun _ e _ fresh old) in
        subst (λ (b : Bool). At a k m p (mine_on k (d.entries ++ e ∷ [])) b (all_told a d.notices k0)) (sym now) new
    by false f =
        let same : mine_on k (d.entries ++ e ∷ []) ≡ mine_on k d.entries = grown false f ∙ append-nil (mine_on k d.entries) in
        let still : listens_on k (answered_on e.own d).listening ≡ listens_on k d.listening = without_other k e.own d.listening f in
        subst (λ (ys : List Entry). At a k m p ys (listens_on k (answered_on e.own d).listening) (all_told a d.notices k0)) (sym same)
        (subst (λ (b : Bool). At a k m p (mine_on k d.entries) b (all_told a d.notices k0)) (sym still) h.on)

  -- ---- ends that close, and that go

  pub good_settled : (busy : List ℕ) (d : DeskState) → Good d → Good (settled busy d)
  good_settled busy d h = record {
    refusing = refusing_mapped _ d.entries (λ e. refuses_when (must_close busy e) e) h.refusing;
    on = at_mapped a k m p _ d.entries _ _ (λ e. closed_less (must_close busy e) e) (closed_drains busy) h.on;
  }

  abbrev stays : Entry → Bool
  stays e = not (is_over e)

  swept_mine : (xs : List Entry) → mine_on k (filter stays xs) ≡ filter stays (mine_on k xs)
  swept_mine [] = refl
  swept_mine (x ∷ xs) = by (swept_mine xs) (is_mine_on k x) (stays x) refl refl where
    by : mine_on k (filter stays xs) ≡ filter stays (mine_on k xs) → (b c : Bool) → is_mine_on k x ≡ b → stays x ≡ c → mine_on k (filter stays (x ∷ xs)) ≡ filter stays (mine_on k (x ∷ xs))
    by rest true true f g = rw (f, g, f) (ap (λ (ys : List Entry). x ∷ ys) rest)
    by rest true false f g = rw (f, g) rest
    by rest false true f g = rw (f, g, f) rest
    by rest false false f g = rw (f, g) rest

  ended_aside : (es : List Entry) → AreAside a k (flat_map (ending p) es)
  ended_aside [] = tt
  ended_aside (e ∷ es) = by e.mine (ended_aside es) where
    by : (b : Bool) → AreAside a k (flat_map (ending p) es) → AreAside a k ((if b then notice.Ended e.own p e.foreign ∷ [] else []) ++ flat_map (ending p) es)
    by true rest = (tt, rest)
    by false rest = rest

  -- the lives of an end that goes end
  one_ended : (e : Entry) (κ : Kept) → is_mine_on k e ≡ true → EachIn a k (IsLifeOf p e) κ → EachIn a k NoneOf (all_told a (ending p e) κ)
  one_ended e κ is h =
      let mine : e.mine ≡ true = (both e.mine (e.own == k) is).0 in
      let own : e.own ≡ k = own_is k e is in
      subst (λ (b : Bool). EachIn a k NoneOf (all_told a (if b then notice.Ended e.own p e.foreign ∷ [] else []) κ)) (sym mine)
      (each_ended a k _ _ NoneOf κ.book.lives κ.handed (λ x t there goes i. all x t own there goes i) h) where
        all : (x : Life) (t : List Bool) → e.own ≡ k → at_socket a k x ≡ true → x.ended ≡ false → IsLifeOf p e x t → lives_between a e.own p e.foreign x ≡ true
        all x t own there goes i =
            let at : at_socket a e.own x ≡ true = subst (λ (n : ℕ). at_socket a n x ≡ true) (sym own) there in
            let peer : same_host p x.peer ≡ true = subst (λ (g : Host). same_host p g ≡ true) (sym i.peers) (same_host-refl p) in
            let foreign : (x.foreign == e.foreign) ≡ true = eq-eqb x.foreign e.foreign (sym i.foreign) in
            rw (at, goes, peer, foreign) refl

  all_ended : (xs : List Entry) (e : Entry) (κ : Kept) → mine_on k xs ≡ e ∷ [] → is_over e ≡ true → EachIn a k (IsLifeOf p e) κ → EachIn a k NoneOf (all_told a (flat_map (ending p) (filter is_over xs)) κ)
  all_ended [] e κ is over h = absurd (cc)
  all_ended (x ∷ xs) e κ is over h = by (λ κ. all_ended xs e κ) (is_mine_on k x) (is_over x) refl refl where
    headed : (ys : List Entry) (zs : List Entry) (y z : Entry) → y ∷ ys ≡ z ∷ zs → y ≡ z
    headed ys zs y z f = ap (λ (l : List Entry). first l) f where
      first : List Entry → Entry
      first [] = y
      first (w ∷ ws) = w

    by : ((κ : Kept) → mine_on k xs ≡ e ∷ [] → is_over e ≡ true → EachIn a k (IsLifeOf p e) κ → EachIn a k NoneOf (all_told a (flat_map (ending p) (filter is_over xs)) κ))
        → (b c : Bool) → is_mine_on k x ≡ b → is_over x ≡ c → EachIn a k NoneOf (all_told a (flat_map (ending p) (filter is_over (x ∷ xs))) κ)
    by rest true c f g =
        let same : x ≡ e = headed _ [] x e (sym (mine_one k x xs true f) ∙ is) in
        let there : is_over x ≡ true = subst (λ (y : Entry). is_over y ≡ true) (sym same) over in
        let mine : EachIn a k (IsLifeOf p x) κ = subst (λ (y : Entry). EachIn a k (IsLifeOf p y) κ) (sym same) h in
        rw there (subst (λ (κ : Kept). EachIn a k NoneOf κ) (sym (all_told_append a (ending p x) (flat_map (ending p) (filter is_over xs)) κ))
        (each_all_aside a k NoneOf (flat_map (ending p) (filter is_over xs)) (all_told a (ending p x) κ) (ended_aside (filter is_over xs)) (one_ended x κ f mine)))
    by rest false true f g =
        let later : mine_on k xs ≡ e ∷ [] = sym (mine_one k x xs false f) ∙ is in
        let aside : AreAside a k (ending p x) = subst (λ (ns : List Notice). AreAside a k ns) (append-nil (ending p x)) (ended_aside (x ∷ [])) in
        rw g (subst (λ (κ : Kept). EachIn a k NoneOf κ) (sym (all_told_append a (ending p x) _ κ))
        (rest (all_told a (ending p x) κ) later over (each_all_aside a k _ _ κ aside h)))
    by rest false false f g =
        let later : mine_on k xs ≡ e ∷ [] = sym (mine_one k x xs false f) ∙ is in
        rw g (rest κ later over h)

  at_swept : (xs ms : List Entry) (l : Bool) (κ : Kept) → mine_on k xs ≡ ms → At a k m p ms l κ → At a k m p (filter stays ms) l (all_told a (flat_map (ending p) (filter is_over xs)) κ)
  at_swept xs ms l κ is h = by m ms l is h where
    aside : AreAside a k (flat_map (ending p) (filter is_over xs))
    aside = ended_aside (filter is_over xs)

    one : (n : Place) (e : Entry) (l : Bool) → mine_on k xs ≡ e ∷ [] → At a k n p (e ∷ []) l κ → (c : Bool) → is_over e ≡ c → At a k n p (filter stays (e ∷ [])) l (all_told a (flat_map (ending p) (filter is_over xs)) κ)
    one Near e false is i true over = rw over (all_ended xs e κ is over i.1)
    one Near e true is i true over = absurd i
    one (Elsewhere q y) e l is i true over = absurd i
    one n e l is i false over = rw over (at_aside a k n p (e ∷ []) l _ κ aside i)

    by : (n : Place) (ms : List Entry) (l : Bool) → mine_on k xs ≡ ms → At a k n p ms l κ → At a k n p (filter stays ms) l (all_told a (flat_map (ending p) (filter is_over xs)) κ)
    by n [] l is i = at_aside a k n p [] l (flat_map (ending p) (filter is_over xs)) κ aside i
    by n (e ∷ []) l is i = one n e l is i (is_over e) refl
    by Near (e ∷ f ∷ ms) l is i = absurd i
    by (Elsewhere q y) (e ∷ f ∷ ms) l is i = absurd i

  pub good_swept : (d : DeskState) → Good d → Good (swept p d)
  good_swept d h =
      told_on (flat_map (ending p) (filter is_over d.entries)) (record d { entries = filter stays d.entries }) (refusing_filtered stays d.entries h.refusing)
      (subst (λ (ys : List Entry). At a k m p ys (listens_on k d.listening) (all_told a (flat_map (ending p) (filter is_over d.entries)) (all_told a d.notices k0))) (sym (swept_mine d.entries))
      (at_swept d.entries _ _ _ refl h.on))

  -- ---- openings

  opening_life : (e : Entry) (x y : Option ℕ) (κ : Kept) → e.asked ≡ x → e.partner ≡ y → e.bits ≡ [] → e.allocation ≡ counters.nothing → EachIn a k NoneOf κ → EachIn a k (IsLifeOf p e) (all_told a (opening_by p e x y) κ)
  opening_life e None y κ f g none nothing h = each_weaker a k NoneOf _ κ.book.lives κ.handed (λ x t there lacks. absurd lacks) h
  opening_life e (Some x) None κ f g none nothing h = each_weaker a k NoneOf _ κ.book.lives κ.handed (λ x t there lacks. absurd lacks) h
  opening_life e (Some x) (Some y) κ f g none nothing h = by (is_ending e) where
    weak : EachIn a k (IsLifeOf p e) κ
    weak = each_weaker a k NoneOf (IsLifeOf p e) κ.book.lives κ.handed (λ x t there lacks. absurd lacks) h

    new : Life
    new = new_life a e.own p e.foreign x y

    safe : IsSafe (new_life a e.own p e.foreign x y) []
    safe = record {
      front = λ s. ([], refl);
      within = λ r. record { messages = omega arith; bits = omega arith };
      bounded = λ r. record { messages = omega arith; bits = omega arith };
    }

    life : IsLifeOf p e (new_life a e.own p e.foreign x y) []
    life = record {
      peers = refl;
      foreign = refl;
      own = f;
      partner = g;
      waits = λ o s. sym none;
      drained = λ q r s c f. refl;
      left = λ r. subst (λ (c : Allocation). AddsUp (new_life a e.own p e.foreign x y) c) (sym nothing) (record { messages = refl; bits = refl });
    }

    by : (b : Bool) → EachIn a k (IsLifeOf p e) (all_told a (if b then [] else notice.Opened e.own p e.foreign x y ∷ []) κ)
    by true = weak
    by false = each_more a k _ κ.book.lives κ.handed _ (λ there. (safe, λ goes. life)) weak

  unopened : (e : Entry) (x : Life) (t : List Bool) → has_opened e ≡ false → IsLifeOf p e x t → ⊥
  unopened e x t lacks i = absurd (let r : true ≡ false = sym (ap (λ (o : Option ℕ). is_some o && is_some e.partner) i.own ∙ ap is_some i.partner) ∙ lacks in cc)

  at_opening : (e new : Entry) (l : Bool) (κ : Kept) → has_opened e ≡ false → new.bits ≡ e.bits → new.allocation ≡ e.allocation → At a k m p (e ∷ []) l κ → At a k m p (new ∷ []) l (all_told a (opening_by p new new.asked new.partner) κ)
  at_opening e new l κ lacks bits allocation h = by m l h where
    by : (n : Place) (l : Bool) → At a k n p (e ∷ []) l κ → At a k n p (new ∷ []) l (all_told a (opening_by p new new.asked new.partner) κ)
    by Near false i = (
      (λ f. (bits ∙ (i.0 lacks).0, allocation ∙ (i.0 lacks).1)),
      opening_life new new.asked new.partner κ refl refl (bits ∙ (i.0 lacks).0) (allocation ∙ (i.0 lacks).1) (each_weaker a k (IsLifeOf p e) NoneOf κ.book.lives κ.handed (λ x t there j. unopened e x t lacks j) i.1),
    )
    by Near true i = absurd i
    by (Elsewhere q y) l i = absurd i

  opening_aside : (new : Entry) (x y : Option ℕ) → IsRefusing new → is_mine_on k new ≡ false → AreAside a k (opening_by p new x y)
  opening_aside new None y refuses off = tt
  opening_aside new (Some x) None refuses off = tt
  opening_aside new (Some x) (Some y) refuses off = by new.mine refl where
    by : (b : Bool) → new.mine ≡ b → AreAside a k (if is_ending new then [] else notice.Opened new.own p new.foreign x y ∷ [])
    by true f = told_by _ where
      told_by : (c : Bool) → AreAside a k (if c then [] else notice.Opened new.own p new.foreign x y ∷ [])
      told_by true = tt
      told_by false = (own_off k new f off, tt)
    by false f =
        let over : is_ending new ≡ true = ap (λ (b : Bool). b || new.partner_closed) (refuses f) in
        subst (λ (c : Bool). AreAside a k (if c then [] else notice.Opened new.own p new.foreign x y ∷ [])) (sym over) tt

  -- an end that wasn't open has a request that it lacked
  pub good_opening : (x y : ℕ) (change : Entry → Entry) (d : DeskState) (e : Entry) → entry_at x y d.entries ≡ Some e → has_opened e ≡ false → is_mine_on k (change e) ≡ is_mine_on k e → is_at x y (change e) ≡ is_at x y e
      → (change e).bits ≡ e.bits → (change e).allocation ≡ e.allocation → ((e : Entry) → IsRefusing e → IsRefusing (change e)) → Good d
      → Good (desk_told (opening_notices p (entry_at x y (changed_first (is_at x y) change d.entries))) (changed (is_at x y) change d))
  good_opening x y change d e found lacks keeps at bits allocation refuses h =
      let passes : is_at x y (change e) ≡ true = at ∙ passed in
      let there : entry_at x y (changed_first (is_at x y) change d.entries) ≡ Some (change e) = found_changed (is_at x y) change d.entries e found passes in
      subst (λ (o : Option Entry). Good (desk_told (opening_notices p o) (changed (is_at x y) change d))) (sym there)
      (good_changed (is_at x y) change (opening_by p (change e) _ (change e).partner) d e found keeps refuses
      (λ is l κ i. at_opening e (change e) l κ lacks bits allocation i)
      (λ is. opening_aside (change e) (change e).asked (change e).partner (refuses e (refusing_found (is_at x y) d.entries e h.refusing found)) (keeps ∙ is)) h) where
        passed : is_at x y e ≡ true
        passed = (split (is_at x y) change d.entries e found).passes
