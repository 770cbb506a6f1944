-- A sending life whose CLS is queued before its partner's was taken has sent all that was handed over in it, also once
-- it is over.
use Rattle.world_keeps_lives.proofs.Common.{eqb-true, Contains, Host, same_host, not_false, same_host-true, is_receive_socket, is_send_socket, Command, Order, orders_of, has_cls, is_mine_on, is_open, Entry, both, not_is, NcpState, owner_of, pair_with, AreInOrder, not_first, lives_at, HaveAddresses, going, AreHanded, IsPrefix, Name, SafePartners, own_request, sends, Asked, Crossed, Moment, places, program, crossings_of, Life, Coupled, places_same, coupled, host_in, AreRefusing, EachOn, HasOpenEnd, IsFreeSocket, IsLifeOf, IsOwned, NoneOf, mine_on, AreOurs, Network, beside_among, Happened, mixed_kept, among, same_Some}
use Rattle.std.proofs.Common.{◌≡◌, ◌⊎◌, inl, inr, ℕ, zero, suc, ◌<◌, ◌==◌, ◌&&◌, not, Bool, false, if◌then◌else◌, List, [], ◌∷◌, ◌++◌, length, filter, find, slice_index_or, Option, Some, None, refl, ap, sym, subst, ◌∙◌, eq-eqb, arith, true}
use Rattle.sockets.specs.Requests.{on_open, send_fault, refusal}
use Rattle.world_keeps_pairing.proofs.lemmas.{even_odd, in_book, life_paired, queued_commands, safe_partners, served_in, two_in_book, mail_below}
use Rattle.world_keeps_lives.specs.Drained.{ClosedFirst, ClosesFirst, AllSent}
use Rattle.interface.specs.Mailboxes as mail
use Rattle.interface.specs.declared.crossing.Crossing.TheVariants as crossing
use Rattle.host_pairs.specs.Parcels as parcel
use Rattle.sockets.specs.declared.request.Request.TheVariants as request
use Rattle.world_keeps_pairing.specs.Lives.{ArePaired}
use Rattle.world_keeps_lives.proofs.Desks.{clash, open_parts, own_is}
use Rattle.world_keeps_lives.proofs.Ends.{mine_one}
use Rattle.world_keeps_lives.proofs.Begun as begun
use Rattle.world_keeps_lives.proofs.Grounds.{Grounded, IsAsked, May, MayOut, Nothing, crossed_below, grounds, step_ends}
use Rattle.world_keeps_lives.proofs.Laws as laws
use Rattle.world_keeps_lives.proofs.Laws.{holds, live, own_socket}
use Rattle.world_keeps_lives.proofs.Owners.{owner_found}
use Rattle.world_keeps_lives.proofs.Pairs.{IsPair, IsUnsent, Later, handed_among, moment_later, pair_among, pair_front, pair_one, pair_there, prefix_same}
use Rattle.world_keeps_lives.proofs.Walk.Rules.{Begins, Each, Goes, Hears, Rules, each_filter}

one_is : (e f : Entry) → e ∷ [] ≡ f ∷ [] → e ≡ f
one_is e f h = cc

passes_one : (test : Entry → Bool) (xs : List Entry) (e : Entry) → filter test xs ≡ e ∷ [] → test e ≡ true
passes_one test [] e h = absurd (let no : [] ≡ e ∷ [] = h in cc)
passes_one test (x ∷ xs) e h = by (passes_one test xs e) (test x) refl h where
  by : (filter test xs ≡ e ∷ [] → test e ≡ true) → (v : Bool) → test x ≡ v
      → (if v then x ∷ filter test xs else filter test xs) ≡ e ∷ [] → test e ≡ true
  by rest true t g = let same : x ≡ e = cc in subst (λ (y : Entry). test y ≡ true) same t
  by rest false t g = rest g

receives_foreign : (x : Life) → ArePaired x → sends x ≡ true → is_receive_socket x.foreign ≡ true
receives_foreign x (inl p) s = absurd (even_odd x.socket p.0 s)
receives_foreign x (inr p) s = p.1

module _ (moments : List Moment) where
  -- the lives of a socket that continue are those of no end, or of its one end
  abbrev On : Host → ℕ → List Life → List (List Bool) → Type 0
  On a k lives handed =
      EachOn a k NoneOf lives handed ⊎
      ((p : Host) × (e : Entry) × (mine_on k (pair_with p (program a moments).peers).entries ≡ e ∷ []) × EachOn a k (IsLifeOf p e) lives handed)

  on_rest : (a : Host) (k : ℕ) (x : Life) (t : List Bool) (lives : List Life) (handed : List (List Bool))
      → On a k (x ∷ lives) (t ∷ handed) → On a k lives handed
  on_rest a k x t lives handed (inl f) = inl f.1
  on_rest a k x t lives handed (inr o) = inr (o.0, o.1, o.2, o.3.1)

  sent_now : (x : Life) (t : List Bool) (lives : List Life) (handed : List (List Bool)) → ArePaired x
      → On x.host x.socket (x ∷ lives) (t ∷ handed) → ClosesFirst moments x → x.bits ≡ t
  sent_now x t lives handed paired (inl f) c = absurd ((f.0 (own_socket x)).1 c.goes)
  sent_now x t lives handed paired (inr o) c = sym (i.drained kind foreign c.sending (ap (λ (e : Entry). has_cls e.closing) same ∙ c.closed) (ap (λ (e : Entry). e.partner_closed) same ∙ c.unheard)) where
    i : IsLifeOf o.0 o.1 x t
    i = (o.3.0 (own_socket x)).1 c.goes

    here : mine_on x.socket (pair_with x.peer (program x.host moments).peers).entries ≡ o.1 ∷ []
    here =
        subst (λ (p : Host). mine_on x.socket (pair_with p (program x.host moments).peers).entries ≡ o.1 ∷ [])
        (sym i.peers) o.2

    same : o.1 ≡ c.end.end
    same = one_is o.1 c.end.end (sym here ∙ c.end.one)

    kind : is_send_socket o.1.own ≡ true
    kind =
        ap is_send_socket
        (own_is x.socket o.1 (passes_one (is_mine_on x.socket) (pair_with x.peer (program x.host moments).peers).entries o.1 here)) ∙ c.sending

    foreign : is_receive_socket o.1.foreign ≡ true
    foreign = ap is_receive_socket i.foreign ∙ receives_foreign x paired c.sending

  -- at one place
  sent_at : (x : Life) (t : List Bool) (lives : List Life) (handed : List (List Bool)) → ArePaired x
      → On x.host x.socket lives handed → IsPair x t lives handed → ClosesFirst moments x → x.bits ≡ t
  sent_at x t [] handed paired on i c = absurd i
  sent_at x t (y ∷ lives) [] paired on i c = absurd i
  sent_at x t (y ∷ lives) (u ∷ handed) paired on (inl e) c =
      let d : ClosesFirst moments y = subst (λ (z : Life). ClosesFirst moments z) e.0 c in
      ap (λ (z : Life). z.bits) e.0 ∙ sent_now y u lives handed (subst ArePaired e.0 paired)
      (subst (λ (z : Life). On z.host z.socket (y ∷ lives) (u ∷ handed)) e.0 on) d ∙ sym e.1
  sent_at x t (y ∷ lives) (u ∷ handed) paired on (inr i) c =
      sent_at x t lives handed paired (on_rest x.host x.socket y u lives handed on) i c

-- ---- an end that closes

-- the end of this socket that asked at this place has its CLS queued
abbrev IsShut : ℕ → ℕ → Entry → Type 0
IsShut k n e = e.own ≡ k → e.asked ≡ Some n → has_cls e.closing ≡ true

shut_rules : (k n : ℕ) (p : Host) → Rules (IsShut k n) Nothing p
shut_rules k n p = record {
  quiet = λ e f q shut own asked. q.closing (shut (sym q.own ∙ own) (sym q.asked ∙ asked));
  others = λ m o. tt;
  opens = λ e a b shut f g o. tt;
  returns = λ e messages bits shut o. tt;
}

shut_begins : (k n : ℕ) → Begins (IsShut k n)
shut_begins k n = record {
  fresh = λ e mine unasked unheard own asked. absurd (let no : None ≡ Some n = sym unasked ∙ asked in cc);
  refused = λ own foreign stamp is asked. refl;
}

shut_hears : (k n here : ℕ) (orders : List Order) → Hears (IsShut k n) here orders
shut_hears k n here orders = record {
  begins = shut_begins k n;
  rts = λ own foreign link e there even odd o f shut is asked. shut is asked;
  str = λ own foreign size e there even odd o f shut is asked. shut is asked;
}

shut_goes : (k n here : ℕ) (cs : List Command) → n < here → Goes (IsShut k n) here cs
shut_goes k n here cs less = record {
  rts =
      λ own foreign link e there even o f shut is asked. absurd
      (let same : here ≡ n = same_Some here n asked in omega (arith, less, same));
  str =
      λ own foreign size e there odd o f shut is asked. absurd
      (let same : here ≡ n = same_Some here n asked in omega (arith, less, same));
}

-- at first: the one own end of the socket, and ends that refuse
all_shut : (k n : ℕ) (es : List Entry) → AreRefusing es
    → Each (λ (e : Entry). has_cls e.closing ≡ true) (mine_on k es) → Each (IsShut k n) es
all_shut k n [] r h = tt
all_shut k n (e ∷ es) r h = by (all_shut k n es r.1) (is_mine_on k e) refl h where
  by : (Each (λ (f : Entry). has_cls f.closing ≡ true) (mine_on k es) → Each (IsShut k n) es) → (b : Bool)
      → is_mine_on k e ≡ b → Each (λ (f : Entry). has_cls f.closing ≡ true) (mine_on k (e ∷ es))
      → Each (IsShut k n) (e ∷ es)
  by rest true is g =
      let both_parts : (has_cls e.closing ≡ true) × Each (λ (f : Entry). has_cls f.closing ≡ true) (mine_on k es) =
      rw is at g in
      ((λ own asked. both_parts.0), rest both_parts.1)
  by rest false is g =
      let others : Each (λ (f : Entry). has_cls f.closing ≡ true) (mine_on k es) = rw is at g in
      ((λ own asked. refused e.mine refl own), rest others) where
        mine_here : (f : Entry) → f.mine ≡ true → f.own ≡ k → is_mine_on k f ≡ true
        mine_here f m own = rw (m, eq-eqb f.own k own) refl

        refused : (b : Bool) → e.mine ≡ b → e.own ≡ k → has_cls e.closing ≡ true
        refused false m own = r.0 m
        refused true m own =
            absurd (let no : is_mine_on k e ≡ true = mine_here e m own in let r : true ≡ false = sym no ∙ is in cc)

-- ---- nothing more is handed over

on_mine : (k : ℕ) (es : List Entry) (e : Entry) → find (is_mine_on k) es ≡ Some e → Contains (mine_on k es) e
on_mine k [] e f = absurd (cc)
on_mine k (x ∷ xs) e f = by (on_mine k xs e) (is_mine_on k x) refl f where
  by : (find (is_mine_on k) xs ≡ Some e → Contains (mine_on k xs) e) → (b : Bool) → is_mine_on k x ≡ b
      → find (is_mine_on k) (x ∷ xs) ≡ Some e → Contains (mine_on k (x ∷ xs)) e
  by rest true is g =
      let same : Some x ≡ Some e = rw is at g in
      let one : x ≡ e = cc in
      subst (λ (es : List Entry). Contains es e) (sym (mine_one k x xs true is)) (0, omega arith, one)
  by rest false is g = subst (λ (es : List Entry). Contains es e) (sym (mine_one k x xs false is)) (rest (rw is at g))

none_in : (es : List Entry) (e : Entry) → es ≡ [] → Contains es e → ⊥
none_in es e none c =
    let l : c.0 < length es = c.1 in
    let n : length es ≡ 0 = ap (λ (xs : List Entry). length xs) none in
    absurd (omega (arith, l, n))

one_in : (f e : Entry) → Contains (f ∷ []) e → f ≡ e
one_in f e c = by c.0 c.1 c.2 where
  by : (i : ℕ) → i < length (f ∷ []) → slice_index_or (f ∷ []) i e ≡ e → f ≡ e
  by zero l is = is
  by (suc i) l is = absurd (omega (arith, l))

module _ (s : NcpState) (x : Life) (h : HasOpenEnd s x) where
  -- the end to which a user hands bits over is that of the life
  owner_is : (g : Host) (e : Entry) → AreInOrder s.peers → owner_of x.socket s.peers ≡ Some (g, e) → h.end ≡ e
  owner_is g e order f = by (same_host g x.peer) refl where
    there : Contains (mine_on x.socket (pair_with g s.peers).entries) e
    there = on_mine x.socket (pair_with g s.peers).entries e (owner_found x.socket s.peers g e order f)

    by : (b : Bool) → same_host g x.peer ≡ b → h.end ≡ e
    by true is =
        let here : mine_on x.socket (pair_with g s.peers).entries ≡ h.end ∷ [] =
        subst (λ (p : Host). mine_on x.socket (pair_with p s.peers).entries ≡ h.end ∷ [])
        (sym (same_host-true g x.peer is)) h.one in
        one_in h.end e (subst (λ (es : List Entry). Contains es e) here there)
    by false off = absurd (none_in _ e (h.others g off) there)

  closing_refuses : (bits : List Bool) → AreInOrder s.peers → has_cls h.end.closing ≡ true
      → refusal s (request.Send x.socket bits) ≡ None → ⊥
  unfolding refusal
  closing_refuses bits order shut may = by (owner_of x.socket s.peers) refl (not_first _ _ _ may).1 where
    by : (o : Option (Host × Entry)) → owner_of x.socket s.peers ≡ o → on_open (send_fault (length bits)) o ≡ None → ⊥
    by None f on = absurd (cc)
    by (Some (g, e)) f on =
        let opened : is_open e ≡ true = not_false (is_open e) (not_first _ _ _ on).0 in
        let same : h.end ≡ e = owner_is g e order f in
        clash ⊥ _ (ap (λ (y : Entry). has_cls y.closing) (sym same) ∙ shut) (open_parts e opened).unclosed

-- ---- one life, from then on

name_is : (x y : Life) → y.socket ≡ x.socket → y.foreign ≡ x.foreign → y.own_stamp ≡ x.own_stamp
    → own_request y ≡ own_request x
name_is x y socket foreign stamp =
    ap (λ (k : ℕ). let r : Name = record { place = k; own = y.socket; foreign = y.foreign } in r) stamp
    ∙ ap (λ (k : ℕ). let r : Name = record { place = x.own_stamp; own = k; foreign = y.foreign } in r) socket
    ∙ ap (λ (k : ℕ). let r : Name = record { place = x.own_stamp; own = x.socket; foreign = k } in r) foreign

pair_at : (x : Life) (lives : List Life) (handed : List (List Bool)) (i : ℕ) → i < length lives
    → slice_index_or lives i x ≡ x → AreHanded lives handed
    → (t : List Bool) × IsPair x t lives handed
pair_at x [] handed i l e h = absurd (omega (arith, l))
pair_at x (y ∷ lives) [] i l e h = absurd h
pair_at x (y ∷ lives) (u ∷ handed) zero l e h = (u, inl (sym e, refl))
pair_at x (y ∷ lives) (u ∷ handed) (suc i) l e h =
    let r : (t : List Bool) × IsPair x t lives handed = pair_at x lives handed i (omega (arith, l)) e h.1 in
    (r.0, inr r.1)

-- what was handed over in lives between hosts with programs
abbrev pub handed_in : Network → List Moment → List (List Bool)
handed_in hosts ms = beside_among hosts.strange (mixed_kept hosts.strange ms).book.lives (mixed_kept hosts.strange ms).handed

module _ (hosts : Network) (addresses : HaveAddresses hosts.all) where
  -- a life that closed first and has sent all, as it is at some later moment
  record Whole (ms : List Moment) (r : Life) : Type 0 where
    life : Life
    text : List Bool
    there : IsPair life text (mixed_kept hosts.strange ms).book.lives (mixed_kept hosts.strange ms).handed
    sending : sends life ≡ true
    host : life.host ≡ r.host
    peer : life.peer ≡ r.peer
    socket : life.socket ≡ r.socket
    foreign : life.foreign ≡ r.foreign
    stamp : life.own_stamp ≡ r.own_stamp
    bits : life.bits ≡ text
    shut : Each (IsShut r.socket r.own_stamp) (pair_with r.peer (program r.host ms).peers).entries
    placed : r.own_stamp < places ms

  module _ (ms : List Moment) (run : mail.IsRun hosts.all (crossings_of ms)) (time : Happened hosts ms) where
    sockets : (a : Host) → hosts.strange a ≡ false → (k : ℕ)
        → On ms a k (mixed_kept hosts.strange ms).book.lives (mixed_kept hosts.strange ms).handed
    sockets a plain k = by (holds hosts ms addresses run time a plain k).socket where
      by : IsFreeSocket a k (program a ms) (mixed_kept hosts.strange ms) ⊎ IsOwned a k (program a ms) (mixed_kept hosts.strange ms)
          → On ms a k (mixed_kept hosts.strange ms).book.lives (mixed_kept hosts.strange ms).handed
      by (inl f) = inl f.lives
      by (inr o) = inr (o.peer, o.end, o.one, o.lives)

    paired : (x : Life) → AreOurs hosts x.host x.peer → Contains (mixed_kept hosts.strange ms).book.lives x
        → ArePaired x
    paired x two there =
        let c : Coupled hosts ms = coupled hosts addresses ms run time in
        life_paired hosts ms c.story c.run run (served_in hosts ms time) x two there

    placed_first : (r : Life) → AreOurs hosts r.host r.peer → HasOpenEnd (program r.host ms) r → r.own_stamp < places ms
    placed_first r two o =
        let g : Grounded r.host r.peer (crossings_of ms) o.end × (is_mine_on r.socket o.end ≡ true) =
        begun.one_is (Grounded r.host r.peer (crossings_of ms)) r.socket (pair_with r.peer (program r.host ms).peers).entries o.end o.one (grounds hosts addresses ms run time r.host r.peer two) in
        let mine : o.end.mine ≡ true = (both o.end.mine (o.end.own == r.socket) g.1).0 in
        let asked : IsAsked r.host r.peer (crossings_of ms) o.end r.own_stamp = g.0.asked mine r.own_stamp o.own in
        let less : r.own_stamp < length (crossings_of ms) =
        crossed_below r.own_stamp _ _ asked.crossed.crossed in
        subst (λ (n : ℕ). r.own_stamp < n) (sym (places_same ms)) less

    first : (r : Life) → AreOurs hosts r.host r.peer → Contains (mixed_kept hosts.strange ms).book.lives r
        → ClosesFirst ms r → Whole ms r
    first r two there c =
        let i : (t : List Bool) × IsPair r t (mixed_kept hosts.strange ms).book.lives (mixed_kept hosts.strange ms).handed =
        pair_at r _ _ there.0 there.1 there.2 (laws.handed hosts ms addresses run time) in
        record {
          life = r;
          text = i.0;
          there = i.1;
          sending = c.sending;
          host = refl;
          peer = refl;
          socket = refl;
          foreign = refl;
          stamp = refl;
          bits = sent_at ms r i.0 _ _ (paired r two there) (sockets r.host two.0 r.socket) i.1 c;
          shut =
              all_shut r.socket r.own_stamp _
              ((holds hosts ms addresses run time r.host two.0 0).steady.refusing r.peer)
              (subst (λ (es : List Entry). Each (λ (e : Entry). has_cls e.closing ≡ true) es) (sym c.end.one) (c.closed, tt));
          placed = placed_first r two c.end;
        }

    -- ---- a moment more

    module _ (r : Life) (two : AreOurs hosts r.host r.peer) (w : Whole ms r) where
      own_host : hosts.strange w.life.host ≡ false
      own_host = subst (λ (g : Host). hosts.strange g ≡ false) (sym w.host) two.0

      end_shut : (h : HasOpenEnd (program w.life.host ms) w.life) → has_cls h.end.closing ≡ true
      end_shut h =
          let own : h.end.own ≡ w.life.socket =
          own_is w.life.socket h.end
          (passes_one (is_mine_on w.life.socket) (pair_with w.life.peer (program w.life.host ms).peers).entries h.end h.one) in
          (subst (λ (es : List Entry). Each (IsShut r.socket r.own_stamp) es) h.one all).0 (own ∙ w.socket)
          (h.own ∙ ap (λ (n : ℕ). Some n) w.stamp) where
            here : Each (IsShut r.socket r.own_stamp) (pair_with w.life.peer (program w.life.host ms).peers).entries
            here =
                subst
                (λ (g : Host). Each (IsShut r.socket r.own_stamp) (pair_with w.life.peer (program g ms).peers).entries)
                (sym w.host)
                (subst (λ (p : Host). Each (IsShut r.socket r.own_stamp) (pair_with p (program r.host ms).peers).entries) (sym w.peer) w.shut)

            all : Each (IsShut r.socket r.own_stamp) (mine_on w.life.socket (pair_with w.life.peer (program w.life.host ms).peers).entries)
            all =
                each_filter _ _
                _ here

      not_handed : (h : Host) (socket : ℕ) (bits : List Bool)
          → refusal (program h ms) (request.Send socket bits) ≡ None → lives_at h socket w.life ≡ false
      not_handed h socket bits may = by (lives_at h socket w.life) refl where
        by : (b : Bool) → lives_at h socket w.life ≡ b → b ≡ false
        by false e = refl
        by true e =
            let p : ((same_host h w.life.host && w.life.socket == socket) ≡ true) × (not w.life.ended ≡ true) =
            both (same_host h w.life.host && w.life.socket == socket) (not w.life.ended) e in
            let q : (same_host h w.life.host ≡ true) × ((w.life.socket == socket) ≡ true) =
            both (same_host h w.life.host) (w.life.socket == socket) p.0 in
            let goes : w.life.ended ≡ false = not_is w.life.ended p.1 in
            let open_end : HasOpenEnd (program w.life.host ms) w.life =
            live hosts ms addresses run time w.life own_host
            (pair_there w.life w.text _ _ w.there) goes in
            absurd
            (closing_refuses (program w.life.host ms) w.life open_end bits ((coupled hosts addresses ms run time).order w.life.host own_host) (end_shut open_end)
            (subst (λ (g : Host). refusal (program g ms) (request.Send w.life.socket bits) ≡ None) (same_host-true h w.life.host q.0)
            (subst (λ (k : ℕ). refusal (program h ms) (request.Send k bits) ≡ None) (sym (eqb-true w.life.socket socket q.1)) may)))

      unsent : (y : Moment) → Happened hosts (y ∷ ms) → hosts.strange (host_in y) ≡ false → IsUnsent y w.life
      unsent (Crossed c) t plain = tt
      unsent (Asked h (request.Send socket bits)) t plain = not_handed h socket bits (t.0 plain).2
      unsent (Asked h c) t plain = tt

      may : (y : Moment) → mail.IsRun hosts.all (crossings_of (y ∷ ms)) → Happened hosts (y ∷ ms)
          → May (IsShut r.socket r.own_stamp) Nothing r.host r.peer (shut_rules r.socket r.own_stamp r.peer) y ms
      may (Crossed (crossing.Out m)) on t = (out, λ from. (coupled hosts addresses (Crossed (crossing.Out m) ∷ ms) on t).story.0 (subst (λ (g : Host). hosts.strange g ≡ false) from two.0)) where
        out : MayOut (IsShut r.socket r.own_stamp) Nothing r.host r.peer (shut_rules r.socket r.own_stamp r.peer) m ms
        out g parcel.Reset from to next order is = tt
        out g parcel.Reply from to next order is = tt
        out g (parcel.Commands count) from to next order is = shut_goes r.socket r.own_stamp (places ms) _ w.placed
        out g (parcel.Bytes e size count) from to next order is = tt
      may (Crossed (crossing.In m)) on t =
          λ to from. ((λ zero. shut_hears r.socket r.own_stamp (places ms) (orders_of m.text)), (λ off e k f o h. tt))
      may (Crossed c) on t = tt
      may (Asked h q) on t = tt

      placed_next : (y : Moment) → r.own_stamp < places (y ∷ ms)
      placed_next (Crossed c) = omega (arith, w.placed)
      placed_next (Asked h q) = w.placed

      next : (y : Moment) → mail.IsRun hosts.all (crossings_of (y ∷ ms)) → Happened hosts (y ∷ ms) → Whole (y ∷ ms) r
      next y on t =
          let l : Later w.life w.text (mixed_kept hosts.strange (y ∷ ms)).book.lives (mixed_kept hosts.strange (y ∷ ms)).handed =
          moment_later hosts.strange y ms w.life w.text (unsent y t) w.there in
          let sending : sends l.life ≡ true = ap is_send_socket l.next.socket ∙ w.sending in
          let within : IsPrefix l.life.bits w.text =
          pair_front l.life w.text _ _
          (laws.handed hosts (y ∷ ms) addresses on t) l.there sending in
          let more : IsPrefix w.text l.life.bits =
          subst (λ (bs : List Bool). IsPrefix bs l.life.bits) w.bits l.next.front in
          record {
            life = l.life;
            text = w.text;
            there = l.there;
            sending = sending;
            host = l.next.host ∙ w.host;
            peer = l.next.peer ∙ w.peer;
            socket = l.next.socket ∙ w.socket;
            foreign = l.next.foreign ∙ w.foreign;
            stamp = l.next.stamp ∙ w.stamp;
            bits = prefix_same w.text l.life.bits more within;
            shut =
                step_ends (IsShut r.socket r.own_stamp) Nothing r.host r.peer (shut_rules r.socket r.own_stamp r.peer)
                (shut_begins r.socket r.own_stamp) y ms
                (queued_commands hosts ms addresses run time r.host r.peer two) (may y on t) w.shut;
            placed = placed_next y;
          }

  later : (newer ms : List Moment) → mail.IsRun hosts.all (crossings_of (newer ++ ms)) → Happened hosts (newer ++ ms)
      → (r : Life) → AreOurs hosts r.host r.peer
      → Contains (mixed_kept hosts.strange ms).book.lives r → ClosesFirst ms r → Whole (newer ++ ms) r
  later [] ms run time r two there c = first ms run time r two there c
  later (y ∷ newer) ms run time r two there c =
      let below : mail.IsRun hosts.all (crossings_of (newer ++ ms)) = mail_below hosts.all y _ run in
      next (newer ++ ms) below time.1 r two (later newer ms below time.1 r two there c) y run time

  -- ---- all lives of a book

  module _ (ms : List Moment) (run : mail.IsRun hosts.all (crossings_of ms)) (time : Happened hosts ms) where
    sent_since : (x : Life) (t : List Bool) → IsPair x t (among hosts ms) (handed_in hosts ms)
        → ClosedFirst (among hosts) ms x → x.bits ≡ t
    sent_since x t i c =
        let s : Contains (mixed_kept hosts.strange c.earlier).book.lives c.sender × AreOurs hosts c.sender.host c.sender.peer =
        in_book hosts _ c.sender c.there in
        let w : Whole ms c.sender = subst (λ (ns : List Moment). Whole ns c.sender) (sym c.is)
        (later c.later c.earlier (subst (λ (ns : List Moment). mail.IsRun hosts.all (crossings_of ns)) c.is run)
        (subst (λ (ns : List Moment). Happened hosts ns) c.is time) c.sender s.1 s.0 c.first) in
        let k : Coupled hosts ms = coupled hosts addresses ms run time in
        let partners : SafePartners (crossings_of ms) (among hosts ms) =
        safe_partners hosts ms k.story k.run run (served_in hosts ms time) (among hosts ms)
        (in_book hosts _) (two_in_book hosts _) in
        let own : hosts.strange w.life.host ≡ false = subst (λ (g : Host). hosts.strange g ≡ false) (sym w.host) s.1.0 in
        let other : hosts.strange w.life.peer ≡ false = subst (λ (g : Host). hosts.strange g ≡ false) (sym w.peer) s.1.1 in
        let there : IsPair w.life w.text (among hosts ms) (handed_in hosts ms) =
        pair_among hosts.strange w.life w.text _ _
        (rw (own, other) refl) w.there in
        let same : (x ≡ w.life) × (t ≡ w.text) =
        pair_one x w.life t w.text _ _ partners.own_once
        (c.same ∙ sym (name_is c.sender w.life w.socket w.foreign w.stamp)) i there in
        ap (λ (y : Life). y.bits) same.0 ∙ w.bits ∙ sym same.1

each_sent : (lives_in : List Moment → List Life) (ms : List Moment) (lives : List Life) (ts : List (List Bool))
    → AreHanded lives ts
    → ((x : Life) (t : List Bool) → IsPair x t lives ts → ClosedFirst lives_in ms x → x.bits ≡ t)
    → AllSent lives_in ms lives ts
each_sent lives_in ms [] ts h sent = tt
each_sent lives_in ms (x ∷ lives) [] h sent = h
each_sent lives_in ms (x ∷ lives) (t ∷ ts) h sent =
    (sent x t (inl (refl, refl)), each_sent lives_in ms lives ts h.1 (λ y u i. sent y u (inr i)))

-- ---- moments

pub drained : (hosts : Network) (moments : List Moment) → HaveAddresses hosts.all
    → mail.IsRun hosts.all (crossings_of moments) → Happened hosts moments
    → AllSent (among hosts) moments (among hosts moments) (handed_in hosts moments)
drained hosts moments addresses run time =
    each_sent _ moments _ _
    (handed_among hosts.strange _ _ (laws.handed hosts moments addresses run time))
    (sent_since hosts addresses moments run time)
