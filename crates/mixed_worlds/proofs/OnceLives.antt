-- No two lives have the same own request, nor the same one of their partner, whatever peers send.
use Rattle.mixed_worlds.proofs.Common.{◌≡◌, inl, inr, ℕ, ◌<◌, Bool, true, false, if◌then◌else◌, List, [], ◌∷◌, ◌++◌, length, map, Some, None, is_some, refl, ap, sym, subst, ◌∙◌, arith, eq-eqb, Contains, Host, same_host, Flow, Answer, Crossing, HostMessage, same_host-refl, Command, Order, orders_of, is_mine_on, Entry, Notice, CrossedAt, Life, accepted, NcpState, pair_with, offered, Request, Asked, Crossed, Moment, places, program, crossings_of, host_in, kept_by, notices_by, places_same, mine_on, IsMixed, crossed_only, mixed_kept, listens_on, is_ready, same_Some}
use Rattle.promise.specs.Safe.{control_flow, AreTwo, Name, own_request}
use Rattle.net_sim.specs.Book.{Kept, all_told, book_told, carried, changed_when, life_ended, lives_asked, lives_at, lives_between, lives_crossed, lives_on, lives_told, lives_with, new_life, returned, where_it, granted}
use Rattle.world_keeps_lives.proofs.lemmas.{Begins, Each, each_in, each_weaker, Ends, Goes, Hears, Quiet, each_of}
use Rattle.mixed_worlds.proofs.Moments.{Orders, Says, older, ordered}
use Rattle.std.proofs.lemmas.List.{append-nil, append_assoc, map-append}
use Rattle.std.proofs.lemmas.List.Elements.{All-append, All-cons, All-head, All-nil, All-tail, All-weaker}
use Rattle.std.specs.Prelude.{All}
use Rattle.interface.specs.declared.crossing.Crossing.TheVariants as crossing
use Rattle.interface.specs.declared.crossing.Inbound.TheVariants as inbound
use Rattle.host_pairs.specs.declared.notice.Notice.TheVariants as notice
use Rattle.sockets.specs.Requests.{served_notices}
use Rattle.sockets.specs.declared.request.Request.TheVariants as request
use Rattle.mixed_worlds.specs.Toward.{taken_request}
use Rattle.mixed_worlds.proofs.EndMoments.{Moved, moved_ends, own_out}
use Rattle.mixed_worlds.proofs.AskedLives.{IsOwn, all_own}
use Rattle.mixed_worlds.proofs.Carried.{below_all}
use Rattle.mixed_worlds.proofs.Rooms.{nobody_passes}
use Rattle.mixed_worlds.proofs.Once.{AreApart, Differ, IsBoth, IsDone, IsOnce, IsSilent, Opening, done_both, once_steps}
use Rattle.mixed_worlds.proofs.Once.{opening_in, openings}
use Rattle.mixed_worlds.proofs.OnceGone.{IsOnceGone, offer_once}
use Rattle.mixed_worlds.proofs.Sockets.{fit, held}
use Rattle.mixed_worlds.proofs.Steps.{answer_step, desk_with, message_step}
use Rattle.mixed_worlds.proofs.Waiting.{AreSound}

-- ---- the openings of lives

abbrev pub opening_of : Life → Opening
opening_of x = record {
  host = x.host;
  peer = x.peer;
  own = x.socket;
  foreign = x.foreign;
  asked = x.own_stamp;
  partner = x.partner_stamp;
}

abbrev pub opened : List Life → List Opening
opened lives = map opening_of lives

where_same : (test : Life → Bool) (change : Life → Life) (lives : List Life)
    → ((x : Life) → opening_of (change x) ≡ opening_of x) → opened (where_it test change lives) ≡ opened lives
where_same test change [] k = refl
where_same test change (x ∷ lives) k =
    ap (λ (o : Opening). o ∷ opened (where_it test change lives)) (by (test x))
    ∙ ap (λ (os : List Opening). opening_of x ∷ os) (where_same test change lives k) where
      by : (b : Bool) → opening_of (changed_when b change x) ≡ opening_of x
      by true = k x
      by false = refl

as_before : (os ps : List Opening) → os ≡ ps → os ≡ ps ++ []
as_before os ps e = e ∙ sym (append-nil ps)

told_openings : (h : Host) (n : Notice) (lives : List Life)
    → opened (lives_told h n lives) ≡ opened lives ++ opening_in h n
told_openings h (notice.Opened socket peer foreign own partner) lives = map-append opening_of lives
    (new_life h socket peer foreign own partner ∷ [])
told_openings h (notice.Ended socket peer foreign) lives = as_before _ (opened lives)
    (where_same (lives_between h socket peer foreign) life_ended lives (λ x. refl))
told_openings h (notice.PairReset peer) lives = as_before _ (opened lives)
    (where_same (lives_with h peer) life_ended lives (λ x. refl))
told_openings h (notice.Sent socket bits) lives = as_before _ (opened lives)
    (where_same (lives_at h socket) (carried bits) lives (λ x. refl))
told_openings h (notice.Arrived socket bits) lives = as_before _ (opened lives)
    (where_same (lives_at h socket) (carried bits) lives (λ x. refl))
told_openings h (notice.Returned socket messages bits) lives = as_before _ (opened lives)
    (where_same (lives_at h socket) (returned messages bits) lives (λ x. refl))
told_openings h n lives = as_before (opened lives) (opened lives) refl

all_openings : (h : Host) (ns : List Notice) (κ : Kept)
    → opened (all_told h ns κ).book.lives ≡ opened κ.book.lives ++ openings h ns
all_openings h [] κ = sym (append-nil (opened κ.book.lives))
all_openings h (n ∷ ns) κ =
    all_openings h ns (book_told h n κ)
    ∙ ap (λ (os : List Opening). os ++ openings h ns) (told_openings h n κ.book.lives)
    ∙ append_assoc (opened κ.book.lives) (opening_in h n) (openings h ns)

crossed_openings : (c : Crossing) (lives : List Life) → opened (lives_crossed c lives) ≡ opened lives
crossed_openings (crossing.Down h) lives = where_same (lives_on h) life_ended lives (λ x. refl)
crossed_openings c lives = refl

asked_openings : (h : Host) (r : Request) (lives : List Life) → opened (lives_asked h r lives) ≡ opened lives
asked_openings h (request.Grant socket messages bits) lives = where_same (lives_at h socket)
    (granted messages bits) lives (λ x. refl)
asked_openings h r lives = refl

kept_openings : (x : Moment) (κ : Kept) → opened (kept_by x κ).book.lives ≡ opened κ.book.lives
kept_openings (Crossed c) κ = crossed_openings c κ.book.lives
kept_openings (Asked h r) κ = asked_openings h r κ.book.lives

aside_openings : (x : Moment) (κ : Kept) → opened (crossed_only x κ).book.lives ≡ opened κ.book.lives
aside_openings (Crossed c) κ = crossed_openings c κ.book.lives
aside_openings (Asked h r) κ = refl

-- ---- lists

to_all : {A : Type 0} (P : A → Type 0) (xs : List A) → Each P xs → All P xs
to_all P [] k = All-nil P
to_all P (x ∷ xs) k = All-cons P x xs k.0 (to_all P xs k.1)

to_each : {A : Type 0} (P : A → Type 0) (xs : List A) → All P xs → Each P xs
to_each P [] k = tt
to_each P (x ∷ xs) k = (All-head P x xs k, to_each P xs (All-tail P x xs k))

each_opened : (Q : Life → Type 0) (P : Opening → Type 0) (lives : List Life) → ((x : Life) → Q x → P (opening_of x))
    → Each Q lives → All P (opened lives)
each_opened Q P [] k all = All-nil P
each_opened Q P (x ∷ lives) k all = All-cons P (opening_of x) (opened lives) (k x all.0)
    (each_opened Q P lives k all.1)

both_all : {A : Type 0} (P Q R : A → Type 0) (xs : List A) → ((x : A) → P x → Q x → R x) → All P xs → All Q xs
    → All R xs
both_all P Q R [] k a b = All-nil R
both_all P Q R (x ∷ xs) k a b = All-cons R x xs (k x (All-head P x xs a) (All-head Q x xs b))
    (both_all P Q R xs k (All-tail P x xs a) (All-tail Q x xs b))

-- ---- an end that has one of the requests of an opening has both, and keeps them

module _ (n : Opening) where
  done_quiet : (e f : Entry) → Quiet e f → IsDone n e → IsDone n f
  done_quiet e f q k own foreign mine = (
    (λ a. ap is_some q.partner ∙ (old own foreign mine).0 (sym q.asked ∙ a)),
    (λ b. ap is_some q.asked ∙ (old own foreign mine).1 (sym q.partner ∙ b)),
  ) where
    old : f.own ≡ n.own → f.foreign ≡ n.foreign → f.mine ≡ true
        → (e.asked ≡ Some n.asked → is_some e.partner ≡ true) × (e.partner ≡ Some n.partner → is_some e.asked ≡ true)
    old o g m = k (sym q.own ∙ o) (sym q.foreign ∙ g) (sym q.mine ∙ m)

  done_begins : Begins (IsDone n)
  done_begins = record {
    fresh = λ e mine asked partner. (λ o f m. (
      (λ a. absurd (let clash : None ≡ Some n.asked = sym asked ∙ a in cc)),
      (λ b. absurd (let clash : None ≡ Some n.partner = sym partner ∙ b in cc)),
    ));
    refused = λ own foreign stamp. (λ o f m. absurd (let clash : false ≡ true = m in cc));
  }

  module _ (stamp : ℕ) (own : n.asked < stamp) (partner : n.partner < stamp) where
    later_own : {A : Type 0} → Some stamp ≡ Some n.asked → A
    later_own e = absurd (let same : stamp ≡ n.asked = same_Some stamp n.asked e in omega (arith, own, same))

    later_partner : {A : Type 0} → Some stamp ≡ Some n.partner → A
    later_partner e = absurd
        (let same : stamp ≡ n.partner = same_Some stamp n.partner e in omega (arith, partner, same))

    done_hears : (orders : List Order) → Hears (IsDone n) stamp orders
    done_hears orders = record {
      begins = done_begins;
      rts = λ o f l e there even odd is at k. (λ x y m. ((λ a. refl), (λ b. later_partner b)));
      str = λ o f l e there odd even is at k. (λ x y m. ((λ a. refl), (λ b. later_partner b)));
    }

    done_goes : (cs : List Command) → Goes (IsDone n) stamp cs
    done_goes cs = record {
      rts = λ o f l e there even is at k. (λ x y m. ((λ a. later_own a), (λ b. refl)));
      str = λ o f l e there odd is at k. (λ x y m. ((λ a. later_own a), (λ b. refl)));
    }

module _ (orders : Orders) (strange : Host → Bool) (hosts : List Host) (a : Host) (off : strange a ≡ false)
    (n : Opening) (p : Host) where
  stays_done : (y : Moment) (moments : List Moment) → IsMixed strange hosts (y ∷ moments)
      → n.asked < places moments → n.partner < places moments
      → Ends (IsDone n) p (program a moments) → Ends (IsDone n) p (program a (y ∷ moments))
  stays_done y moments mixed own partner old =
      moved_ends orders strange hosts a off p moments (IsDone n) (done_quiet n) y mixed (by y) old where
        by : (y : Moment) → Moved orders strange hosts a off p moments (IsDone n) y
        by (Crossed (crossing.Out m)) = λ flow count reads. done_goes n (places moments) own partner _
        by (Crossed (crossing.In m)) = λ flow. done_hears n (places moments) own partner (orders_of m.text)
        by (Asked g r) = done_begins n
        by (Crossed c) = tt

-- ---- what is kept from one moment to the next

module _ (orders : Orders) (strange : Host → Bool) (hosts : List Host) where
  -- all openings until now
  abbrev so_far : List Moment → List Opening
  so_far moments = opened (mixed_kept strange moments).book.lives

  -- both requests of an opening crossed before, and it is a host's with a program
  record IsPast (moments : List Moment) (n : Opening) : Type 0 where
    plain : strange n.host ≡ false
    asked : n.asked < places moments
    partner : n.partner < places moments

  all_past : (moments : List Moment) → IsMixed strange hosts moments
      → All (IsPast moments) (so_far moments)
  all_past moments mixed = each_opened (IsOwn strange (crossings_of moments)) (IsPast moments)
      (mixed_kept strange moments).book.lives
      (λ x i. record {
        plain = i.plain;
        asked = subst (λ (k : ℕ). x.own_stamp < k) (sym (places_same moments))
            (below_all x.own_stamp _ (crossings_of moments) i.own.crossed.crossed);
        partner = subst (λ (k : ℕ). x.partner_stamp < k) (sym (places_same moments))
            (below_all x.partner_stamp _ (crossings_of moments) i.partner.crossed.crossed);
      }) (all_own orders strange hosts moments mixed)

  -- the ends of an opening
  abbrev AreDone : List Moment → Opening → Type 0
  AreDone moments n = Ends (IsDone n) n.peer (program n.host moments)

  record AreOnce (moments : List Moment) (os : List Opening) : Type 0 where
    apart : AreApart os
    done : All (AreDone moments) os

  module _ (x : Moment) (moments : List Moment) (mixed : IsMixed strange hosts (x ∷ moments)) where
    below : IsMixed strange hosts moments
    below = older orders strange hosts x moments mixed

    -- those that were there
    still_done : All (AreDone moments) (so_far moments)
        → All (AreDone (x ∷ moments)) (so_far moments)
    still_done all = both_all (IsPast moments) (AreDone moments) (AreDone (x ∷ moments))
        (so_far moments)
        (λ n past done. stays_done orders strange hosts n.host past.plain n n.peer x moments mixed past.asked
        past.partner done) (all_past moments below) all

  -- what a call reports of openings with one peer, and what becomes of their ends
  record Reports (h p : Host) (os : List Opening) (ns : List Notice) (s : NcpState) : Type 0 where
    apart : AreApart (os ++ openings h ns)
    new : All (λ n. (n.host ≡ h) × (n.peer ≡ p) × All (IsBoth n) (pair_with p s.peers).entries) (openings h ns)

  -- a host with a program at one moment
  module _ (h : Host) (off : strange h ≡ false) (moments : List Moment) (mixed : IsMixed strange hosts moments)
      (once : AreOnce moments (so_far moments)) where
    sound : AreSound (program h moments)
    sound = (fit strange hosts h off moments mixed).ends

    -- the ends of its own are on sockets that don't listen
    silent_at : (p : Host) (e : Entry) → Contains (pair_with p (program h moments).peers).entries e
        → IsSilent (program h moments).listening e
    silent_at p e there mine = elim (held strange hosts h off e.own moments mixed).socket [
      | inl f ↦ absurd (none_of (f.none p))
      | inr o ↦ o.silent
    ] where
      none_of : mine_on e.own (pair_with p (program h moments).peers).entries ≡ [] → ⊥
      none_of none = each_in (λ (z : Entry). is_mine_on e.own z ≡ true → ⊥)
          (pair_with p (program h moments).peers).entries e there
          (nobody_passes (is_mine_on e.own) (pair_with p (program h moments).peers).entries none)
          (rw (mine, eq-eqb e.own e.own refl) refl)

    silent : (p : Host) → All (IsSilent (program h moments).listening) (pair_with p (program h moments).peers).entries
    silent p = to_all (IsSilent (program h moments).listening) (pair_with p (program h moments).peers).entries
        (each_weaker (λ (e : Entry). Contains (pair_with p (program h moments).peers).entries e)
        (IsSilent (program h moments).listening) (pair_with p (program h moments).peers).entries (silent_at p)
        (each_of (pair_with p (program h moments).peers).entries))

    done_here : (p : Host) (n : Opening) → AreDone moments n → n.host ≡ h → n.peer ≡ p
        → All (IsDone n) (pair_with p (program h moments).peers).entries
    done_here p n done host peer = to_all (IsDone n) (pair_with p (program h moments).peers).entries
        (subst (λ (g : Host). Ends (IsDone n) g (program h moments)) peer
        (subst (λ (g : Host). Ends (IsDone n) n.peer (program g moments)) host done))

    none_yet : AreApart (so_far moments ++ [])
    none_yet = subst AreApart (sym (append-nil (so_far moments))) once.apart

    coming_in : (p : Host) → IsOnce h p (places moments) (so_far moments)
        (desk_with p (program h moments, []))
    coming_in p = record {
      apart = none_yet;
      old = both_all (IsPast moments) (AreDone moments)
          (λ n. (n.partner < places moments) × (n.host ≡ h → n.peer ≡ p
          → All (IsDone n) (pair_with p (program h moments).peers).entries))
          (so_far moments)
          (λ n past done. (past.partner, λ host peer. done_here p n done host peer)) (all_past moments mixed) once.done;
      new = All-nil _;
      silent = silent p;
    }

    going_out : (p : Host) → IsOnceGone h p (places moments) (so_far moments)
        (desk_with p (program h moments, []))
    going_out p = record {
      apart = none_yet;
      old = both_all (IsPast moments) (AreDone moments)
          (λ n. (n.asked < places moments) × (n.host ≡ h → n.peer ≡ p
          → All (IsDone n) (pair_with p (program h moments).peers).entries))
          (so_far moments)
          (λ n past done. (past.asked, λ host peer. done_here p n done host peer)) (all_past moments mixed) once.done;
      new = All-nil _;
    }

    by_once : (p : Host) (turn : NcpState × List Notice)
        → IsOnce h p (places moments) (so_far moments) (desk_with p turn)
        → Reports h p (so_far moments) turn.1 turn.0
    by_once p turn i = record {
      apart = i.apart;
      new = All-weaker (λ n. (n.host ≡ h) × (n.peer ≡ p) × (listens_on n.own turn.0.listening ≡ false)
          × All (IsBoth n) (pair_with p turn.0.peers).entries)
          (λ n. (n.host ≡ h) × (n.peer ≡ p) × All (IsBoth n) (pair_with p turn.0.peers).entries)
          (λ n o. (o.0, o.1, o.3)) (openings h turn.1) i.new;
    }

    in_reports : (m : HostMessage)
        → Reports h m.flow.source (so_far moments)
        (accepted (program h moments) (inbound.Message m) (places moments)).1
        (accepted (program h moments) (inbound.Message m) (places moments)).0
    in_reports m = by_once m.flow.source (accepted (program h moments) (inbound.Message m) (places moments))
        (message_step (program h moments) m (places moments)
        (IsOnce h m.flow.source (places moments) (so_far moments))
        (once_steps h m.flow.source (places moments) (so_far moments))
        (λ own foreign. sound own foreign m.flow.source) (coming_in m.flow.source))

    answer_reports : (kind : Answer) (f : Flow)
        → Reports h f.destination (so_far moments)
        (accepted (program h moments) (inbound.Answer kind f) (places moments)).1
        (accepted (program h moments) (inbound.Answer kind f) (places moments)).0
    answer_reports kind f = by_once f.destination
        (accepted (program h moments) (inbound.Answer kind f) (places moments))
        (answer_step (program h moments) kind f (places moments)
        (IsOnce h f.destination (places moments) (so_far moments))
        (once_steps h f.destination (places moments) (so_far moments))
        (coming_in f.destination))

    out_reports : (m : HostMessage) (out : Says (program h moments) m)
        → Reports h out.peer.host (so_far moments)
        (offered (program h moments) (places moments)).1 (offered (program h moments) (places moments)).0
    out_reports m out =
        let i : IsOnceGone h out.peer.host (places moments) (so_far moments)
        (desk_with out.peer.host (offered (program h moments) (places moments))) = offer_once (program h moments)
        (places moments) out.peer out.parcel h (so_far moments)
        (ordered orders strange hosts h moments off mixed) out.next
        (λ own foreign. sound own foreign out.peer.host) (going_out out.peer.host) in
        record { apart = i.apart; new = i.new }

  -- a program after a moment of its host
  own_program : (h : Host) (s t : NcpState) → (if same_host h h then s else t) ≡ s
  own_program h s t = ap (λ (b : Bool). if b then s else t) (same_host-refl h)

  -- all lives after it
  more : (x : Moment) (moments : List Moment) → IsMixed strange hosts (x ∷ moments) → (p : Host) (s : NcpState)
      → program (host_in x) (x ∷ moments) ≡ s
      → AreOnce moments (so_far moments)
      → Reports (host_in x) p (so_far moments) (notices_by x moments) s
      → AreOnce (x ∷ moments)
      (opened (all_told (host_in x) (notices_by x moments) (kept_by x (mixed_kept strange moments))).book.lives)
  more x moments mixed p s is once r =
      let same :
      opened (all_told (host_in x) (notices_by x moments) (kept_by x (mixed_kept strange moments))).book.lives
      ≡ so_far moments ++ openings (host_in x) (notices_by x moments) =
      all_openings (host_in x) (notices_by x moments) (kept_by x (mixed_kept strange moments))
      ∙ ap (λ (os : List Opening). os ++ openings (host_in x) (notices_by x moments))
      (kept_openings x (mixed_kept strange moments)) in
      subst (AreOnce (x ∷ moments)) (sym same) (record {
        apart = r.apart;
        done = All-append (AreDone (x ∷ moments)) (so_far moments)
            (openings (host_in x) (notices_by x moments)) (still_done x moments mixed once.done)
            (All-weaker (λ n. (n.host ≡ host_in x) × (n.peer ≡ p) × All (IsBoth n) (pair_with p s.peers).entries)
            (AreDone (x ∷ moments)) (λ n o. new_done n o.0 o.1 o.2)
            (openings (host_in x) (notices_by x moments)) r.new);
      }) where
        new_done : (n : Opening) → n.host ≡ host_in x → n.peer ≡ p → All (IsBoth n) (pair_with p s.peers).entries
            → AreDone (x ∷ moments) n
        new_done n host peer all =
            subst (λ (g : Host). Ends (IsDone n) n.peer (program g (x ∷ moments))) (sym host)
            (subst (λ (t : NcpState). Ends (IsDone n) n.peer t) (sym is)
            (subst (λ (g : Host). Ends (IsDone n) g s) (sym peer)
            (to_each (IsDone n) (pair_with p s.peers).entries
            (All-weaker (IsBoth n) (IsDone n) (done_both n) (pair_with p s.peers).entries all))))

  abbrev New : Moment → List Moment → Opening → Type 0
  New x moments n = (n.host ≡ host_in x) × (n.peer ≡ host_in x)
      × All (IsBoth n) (pair_with (host_in x) (program (host_in x) (x ∷ moments)).peers).entries

  -- a moment that reports no opening
  quiet_more : (x : Moment) (moments : List Moment) → IsMixed strange hosts (x ∷ moments)
      → openings (host_in x) (notices_by x moments) ≡ []
      → AreOnce moments (so_far moments)
      → AreOnce (x ∷ moments)
      (opened (all_told (host_in x) (notices_by x moments) (kept_by x (mixed_kept strange moments))).book.lives)
  quiet_more x moments mixed none once = more x moments mixed (host_in x) (program (host_in x) (x ∷ moments)) refl once
      (record {
        apart = subst (λ (os : List Opening). AreApart (so_far moments ++ os)) (sym none)
            (subst AreApart (sym (append-nil (so_far moments))) once.apart);
        new = subst (λ (os : List Opening). All (New x moments) os) (sym none) (All-nil (New x moments));
      })

  served_none : (h : Host) (s : NcpState) (r : Request) → openings h (served_notices s r) ≡ []
  unfolding served_notices
  served_none h s (request.Contact peer) = by (is_ready (pair_with peer s.peers).phase) where
    by : (b : Bool) → openings h (if b then notice.PairReset peer ∷ [] else []) ≡ []
    by true = refl
    by false = refl
  served_none h s r = refl

  after : (x : Moment) (moments : List Moment) → IsMixed strange hosts (x ∷ moments) → strange (host_in x) ≡ false
      → AreOnce moments (so_far moments)
      → AreOnce (x ∷ moments)
      (opened (all_told (host_in x) (notices_by x moments) (kept_by x (mixed_kept strange moments))).book.lives)
  after (Crossed (crossing.Out m)) moments mixed off once =
      let out : Says (program m.flow.source moments) m = own_out orders strange hosts m.flow.source off m moments mixed
      refl in
      more (Crossed (crossing.Out m)) moments mixed out.peer.host
      (offered (program m.flow.source moments) (places moments)).0
      (own_program m.flow.source (offered (program m.flow.source moments) (places moments)).0
      (program m.flow.source moments)) once
      (out_reports m.flow.source off moments (older orders strange hosts (Crossed (crossing.Out m)) moments mixed)
      once m
      out)
  after (Crossed (crossing.In m)) moments mixed off once =
      more (Crossed (crossing.In m)) moments mixed m.flow.source
      (accepted (program m.flow.destination moments) (inbound.Message m) (places moments)).0
      (own_program m.flow.destination
      (accepted (program m.flow.destination moments) (inbound.Message m) (places moments)).0
      (program m.flow.destination moments)) once
      (in_reports m.flow.destination off moments (older orders strange hosts (Crossed (crossing.In m)) moments mixed)
      once
      m)
  after (Crossed (crossing.Answer kind f)) moments mixed off once =
      more (Crossed (crossing.Answer kind f)) moments mixed f.destination
      (accepted (program f.source moments) (inbound.Answer kind f) (places moments)).0
      (own_program f.source (accepted (program f.source moments) (inbound.Answer kind f) (places moments)).0
      (program f.source moments)) once
      (answer_reports f.source off moments
      (older orders strange hosts (Crossed (crossing.Answer kind f)) moments mixed) once kind f)
  after (Crossed (crossing.Down g)) moments mixed off once = quiet_more (Crossed (crossing.Down g)) moments mixed
      refl once
  after (Crossed (crossing.Up g)) moments mixed off once = quiet_more (Crossed (crossing.Up g)) moments mixed refl once
  after (Asked g r) moments mixed off once = quiet_more (Asked g r) moments mixed
      (served_none g (program g moments) r) once

  all_once : (moments : List Moment) → IsMixed strange hosts moments
      → AreOnce moments (so_far moments)
  all_once [] mixed = record { apart = tt; done = All-nil (AreDone []) }
  all_once (x ∷ moments) mixed = by (strange (host_in x)) refl
      (all_once moments (older orders strange hosts x moments mixed)) where
        by : (b : Bool) → strange (host_in x) ≡ b → AreOnce moments (so_far moments)
            → AreOnce (x ∷ moments)
            (opened (if b then crossed_only x (mixed_kept strange moments) else all_told (host_in x)
            (notices_by x moments) (kept_by x (mixed_kept strange moments))).book.lives)
        by false off once = after x moments mixed off once
        by true on once = subst (AreOnce (x ∷ moments)) (sym (aside_openings x (mixed_kept strange moments)))
            (record { apart = once.apart; done = still_done x moments mixed once.done })

  -- ---- two lives

  apart_at : (front between rest : List Life) (x y : Life) → AreApart (opened (front ++ x ∷ between ++ y ∷ rest))
      → Differ (opening_of x) (opening_of y)
  apart_at [] between rest x y h = later between h.0 where
    later : (between : List Life) → All (Differ (opening_of x)) (opened (between ++ y ∷ rest))
        → Differ (opening_of x) (opening_of y)
    later [] all = All-head (Differ (opening_of x)) (opening_of y) (opened rest) all
    later (z ∷ between) all = later between
        (All-tail (Differ (opening_of x)) (opening_of z) (opened (between ++ y ∷ rest)) all)
  apart_at (z ∷ front) between rest x y h = apart_at front between rest x y h.1

  differ : (moments : List Moment) → IsMixed strange hosts moments → (x y : Life)
      → AreTwo (mixed_kept strange moments).book.lives x y → Differ (opening_of x) (opening_of y)
  differ moments mixed x y (front, between, rest, is) = apart_at front between rest x y
      (subst (λ (lives : List Life). AreApart (opened lives)) is (all_once moments mixed).apart)

  two_in : (moments : List Moment) → IsMixed strange hosts moments → (x y : Life)
      → AreTwo (mixed_kept strange moments).book.lives x y
      → IsOwn strange (crossings_of moments) x × IsOwn strange (crossings_of moments) y
  two_in moments mixed x y (front, between, rest, is) = parts front
      (subst (λ (lives : List Life). Each (IsOwn strange (crossings_of moments)) lives) is
      (all_own orders strange hosts moments mixed)) where
        second : (between : List Life) → Each (IsOwn strange (crossings_of moments)) (between ++ y ∷ rest)
            → IsOwn strange (crossings_of moments) y
        second [] all = all.0
        second (z ∷ between) all = second between all.1

        parts : (front : List Life)
            → Each (IsOwn strange (crossings_of moments)) (front ++ x ∷ between ++ y ∷ rest)
            → IsOwn strange (crossings_of moments) x × IsOwn strange (crossings_of moments) y
        parts [] all = (all.0, second between all.1)
        parts (z ∷ front) all = parts front all.1

  -- at one place one thing crossed
  one_crossing : (place : ℕ) (c d : Crossing) (log : List Crossing) → CrossedAt place c log → CrossedAt place d log
      → c ≡ d
  one_crossing place c d [] i j = absurd i
  one_crossing place c d (e ∷ log) (inl i) (inl j) = i.0 ∙ sym j.0
  one_crossing place c d (e ∷ log) (inl i) (inr j) = absurd
      (let less : place < length log = below_all place d log j in let at : place ≡ length log = i.1 in
      omega (arith, less, at))
  one_crossing place c d (e ∷ log) (inr i) (inl j) = absurd
      (let less : place < length log = below_all place c log i in let at : place ≡ length log = j.1 in
      omega (arith, less, at))
  one_crossing place c d (e ∷ log) (inr i) (inr j) = one_crossing place c d log i j

  abbrev flow_in : Flow → Crossing → Flow
  flow_in f (crossing.Out m) = m.flow
  flow_in f (crossing.In m) = m.flow
  flow_in f c = f

  pub own_once : (moments : List Moment) → IsMixed strange hosts moments → (x y : Life)
      → AreTwo (mixed_kept strange moments).book.lives x y → own_request x ≡ own_request y → ⊥
  own_once moments mixed x y two same =
      let i : IsOwn strange (crossings_of moments) x × IsOwn strange (crossings_of moments) y = two_in moments mixed x y
      two in
      let at : x.own_stamp ≡ y.own_stamp = ap (λ (n : Name). n.place) same in
      let m : crossing.Out i.0.own.crossed.message ≡ crossing.Out i.1.own.crossed.message = one_crossing x.own_stamp
      (crossing.Out i.0.own.crossed.message) (crossing.Out i.1.own.crossed.message) (crossings_of moments)
      i.0.own.crossed.crossed
      (subst (λ (k : ℕ). CrossedAt k (crossing.Out i.1.own.crossed.message) (crossings_of moments)) (sym at)
      i.1.own.crossed.crossed) in
      let flows : control_flow x.host x.peer ≡ control_flow y.host y.peer = sym i.0.own.crossed.flow
      ∙ ap (flow_in (control_flow x.host x.peer)) m ∙ i.1.own.crossed.flow in
      (differ moments mixed x y two).own (record {
        host = ap (λ (f : Flow). f.source) flows;
        peer = ap (λ (f : Flow). f.destination) flows;
        own = ap (λ (n : Name). n.own) same;
        foreign = ap (λ (n : Name). n.foreign) same;
        place = at;
      })

  pub partner_once : (moments : List Moment) → IsMixed strange hosts moments → (x y : Life)
      → AreTwo (mixed_kept strange moments).book.lives x y → taken_request x ≡ taken_request y → ⊥
  partner_once moments mixed x y two same =
      let i : IsOwn strange (crossings_of moments) x × IsOwn strange (crossings_of moments) y = two_in moments mixed x y
      two in
      let at : x.partner_stamp ≡ y.partner_stamp = ap (λ (n : Name). n.place) same in
      let m : crossing.In i.0.partner.crossed.message ≡ crossing.In i.1.partner.crossed.message = one_crossing
      x.partner_stamp (crossing.In i.0.partner.crossed.message) (crossing.In i.1.partner.crossed.message)
      (crossings_of moments) i.0.partner.crossed.crossed
      (subst (λ (k : ℕ). CrossedAt k (crossing.In i.1.partner.crossed.message) (crossings_of moments)) (sym at)
      i.1.partner.crossed.crossed) in
      let flows : control_flow x.peer x.host ≡ control_flow y.peer y.host = sym i.0.partner.crossed.flow
      ∙ ap (flow_in (control_flow x.peer x.host)) m ∙ i.1.partner.crossed.flow in
      (differ moments mixed x y two).partner (record {
        host = ap (λ (f : Flow). f.destination) flows;
        peer = ap (λ (f : Flow). f.source) flows;
        own = ap (λ (n : Name). n.foreign) same;
        foreign = ap (λ (n : Name). n.own) same;
        place = at;
      })
