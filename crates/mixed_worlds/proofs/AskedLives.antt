-- Each life of a network with strangers is of a host that runs the program, and both its requests crossed.
use Rattle.mixed_worlds.proofs.Common.{◌≡◌, ℕ, Option, Bool, true, false, if◌then◌else◌, List, [], ◌∷◌, ◌++◌, is_some, refl, ap, sym, subst, ◌∙◌, is_send_socket, Contains, Host, Crossing, orders_of, Notice, Life, Request, Asked, Crossed, Moment, crossings_of, host_in, kept_by, notices_by, IsMixed, crossed_only, mixed_kept}
use Rattle.net_sim.specs.Book.{Kept, all_told, book_told, carried, changed_when, life_ended, lives_asked, lives_at, lives_between, lives_crossed, lives_on, lives_told, lives_with, new_life, returned, where_it, granted}
use Rattle.world_keeps_lives.proofs.lemmas.{Each, each_in, Names, named_there, names_of}
use Rattle.mixed_worlds.proofs.Moments.{Orders, older}
use Rattle.mixed_worlds.specs.Toward.{ReportsData, HasAsked}
use Rattle.std.specs.Prelude.{IsSome}
use Rattle.promise.specs.Formed.{own_named, partner_named}
use Rattle.interface.specs.declared.crossing.Crossing.TheVariants as crossing
use Rattle.host_pairs.specs.declared.notice.Notice.TheVariants as notice
use Rattle.sockets.specs.declared.request.Request.TheVariants as request
use Rattle.mixed_worlds.proofs.Asked.{Came, Linked, Tells, TellsOfOne, Went, came_still, linked_still, told, went_still}

module _ (strange : Host → Bool) where
  -- of a host with a program, and both requests crossed
  pub record IsOwn (log : List Crossing) (x : Life) : Type 0 where
    pub plain : strange x.host ≡ false
    pub own : Went x.host x.peer log x.socket x.foreign x.own_stamp
    pub partner : Came x.host x.peer log x.socket x.foreign x.partner_stamp
    pub linked : is_send_socket x.socket ≡ true
        → (link : Option ℕ) × Linked x.host x.peer log x.socket x.foreign x.partner_stamp link

  own_still : (c : Crossing) (log : List Crossing) (lives : List Life) → Each (IsOwn log) lives
      → Each (IsOwn (c ∷ log)) lives
  own_still c log [] all = tt
  own_still c log (x ∷ lives) all = (
    record {
      plain = all.0.plain;
      own = went_still x.host x.peer c log x.socket x.foreign x.own_stamp all.0.own;
      partner = came_still x.host x.peer c log x.socket x.foreign x.partner_stamp all.0.partner;
      linked = λ s. (let w : (link : Option ℕ) × Linked x.host x.peer log x.socket x.foreign x.partner_stamp link =
          all.0.linked s in
          (w.0, linked_still x.host x.peer c log x.socket x.foreign x.partner_stamp w.0 w.1));
    },
    own_still c log lives all.1,
  )

  -- a change that leaves whose life it is, and its stamps
  module _ (log : List Crossing) where
    one_more : (lives : List Life) (y : Life) → Each (IsOwn log) lives → IsOwn log y
        → Each (IsOwn log) (lives ++ y ∷ [])
    one_more [] y all i = (i, tt)
    one_more (x ∷ lives) y all i = (all.0, one_more lives y all.1 i)

    own_where : (test : Life → Bool) (change : Life → Life) (lives : List Life)
        → ((x : Life) → IsOwn log x → IsOwn log (change x)) → Each (IsOwn log) lives
        → Each (IsOwn log) (where_it test change lives)
    own_where test change [] stays all = tt
    own_where test change (x ∷ lives) stays all = (by (test x), own_where test change lives stays all.1) where
      by : (b : Bool) → IsOwn log (changed_when b change x)
      by true = stays x all.0
      by false = all.0

    own_told : (h p : Host) (x : Moment) (n : Notice) (lives : List Life) → strange h ≡ false → Tells h p log x n
        → Each (IsOwn log) lives → Each (IsOwn log) (lives_told h n lives)
    own_told h p x (notice.Opened socket peer foreign own partner) lives off tells all =
        one_more lives (new_life h socket peer foreign own partner) all
        (record {
          plain = off;
          own = subst (λ (q : Host). Went h q log socket foreign own) (sym tells.0) tells.1;
          partner = subst (λ (q : Host). Came h q log socket foreign partner) (sym tells.0) tells.2;
          linked = λ s. subst (λ (q : Host). (link : Option ℕ) × Linked h q log socket foreign partner link)
              (sym tells.0) (tells.3 s);
        })
    own_told h p x (notice.Ended socket peer foreign) lives off tells all = own_where
        (lives_between h socket peer foreign) life_ended lives
        (λ y i. record { plain = i.plain; own = i.own; partner = i.partner; linked = i.linked }) all
    own_told h p x (notice.PairReset peer) lives off tells all = own_where (lives_with h peer) life_ended lives
        (λ y i. record { plain = i.plain; own = i.own; partner = i.partner; linked = i.linked }) all
    own_told h p x (notice.Sent socket bits) lives off tells all = own_where (lives_at h socket) (carried bits) lives
        (λ y i. record { plain = i.plain; own = i.own; partner = i.partner; linked = i.linked }) all
    own_told h p x (notice.Arrived socket bits) lives off tells all = own_where (lives_at h socket) (carried bits)
        lives (λ y i. record { plain = i.plain; own = i.own; partner = i.partner; linked = i.linked }) all
    own_told h p x (notice.Returned socket messages bits) lives off tells all = own_where (lives_at h socket)
        (returned messages bits) lives (λ y i. record { plain = i.plain; own = i.own; partner = i.partner; linked = i.linked }) all
    own_told h p x n lives off tells all = all

    own_all : (h p : Host) (x : Moment) (ns : List Notice) (κ : Kept) → strange h ≡ false → Each (Tells h p log x) ns
        → Each (IsOwn log) κ.book.lives → Each (IsOwn log) (all_told h ns κ).book.lives
    own_all h p x [] κ off tells all = all
    own_all h p x (n ∷ ns) κ off tells all = own_all h p x ns (book_told h n κ) off tells.1
        (own_told h p x n κ.book.lives off tells.0 all)

    own_crossed : (c : Crossing) (lives : List Life) → Each (IsOwn log) lives → Each (IsOwn log) (lives_crossed c lives)
    own_crossed (crossing.Down h) lives all = own_where (lives_on h) life_ended lives
        (λ y i. record { plain = i.plain; own = i.own; partner = i.partner; linked = i.linked }) all
    own_crossed c lives all = all

    own_asked : (h : Host) (r : Request) (lives : List Life) → Each (IsOwn log) lives
        → Each (IsOwn log) (lives_asked h r lives)
    own_asked h (request.Grant socket messages bits) lives all = own_where (lives_at h socket) (granted messages bits)
        lives (λ y i. record { plain = i.plain; own = i.own; partner = i.partner; linked = i.linked }) all
    own_asked h r lives all = all

-- what a life's requests name
names_own : (x : Life) (log : List Crossing) → Went x.host x.peer log x.socket x.foreign x.own_stamp
    → IsSome (own_named log x)
names_own x log w =
    let n : Names x.socket x.foreign (orders_of w.crossed.message.text) = names_of x.socket x.foreign w.named
    (orders_of w.crossed.message.text) w.crossed.holds in
    ap is_some
    (named_there false x.host x.peer x.socket x.foreign x.own_stamp w.crossed.message log w.crossed.flow
    w.crossed.crossed ∙ n.is)

names_partner : (x : Life) (log : List Crossing) → Came x.host x.peer log x.socket x.foreign x.partner_stamp
    → IsSome (partner_named log x)
names_partner x log w =
    let n : Names x.foreign x.socket (orders_of w.crossed.message.text) = names_of x.foreign x.socket w.named
    (orders_of w.crossed.message.text) w.crossed.holds in
    ap is_some
    (named_there true x.peer x.host x.foreign x.socket x.partner_stamp w.crossed.message log w.crossed.flow
    w.crossed.crossed ∙ n.is)

module _ (orders : Orders) (strange : Host → Bool) (hosts : List Host) where
  pub all_own : (moments : List Moment) → IsMixed strange hosts moments
      → Each (IsOwn strange (crossings_of moments)) (mixed_kept strange moments).book.lives
  all_own [] mixed = tt
  all_own (x ∷ moments) mixed = by x mixed (strange (host_in x)) refl
      (all_own moments (older orders strange hosts x moments mixed)) where
        by : (x : Moment) → IsMixed strange hosts (x ∷ moments) → (b : Bool) → strange (host_in x) ≡ b
            → Each (IsOwn strange (crossings_of moments)) (mixed_kept strange moments).book.lives
            → Each (IsOwn strange (crossings_of (x ∷ moments)))
            (if b then crossed_only x (mixed_kept strange moments) else all_told (host_in x) (notices_by x moments)
            (kept_by x (mixed_kept strange moments))).book.lives
        by (Crossed c) mixed true on all = own_crossed strange (c ∷ crossings_of moments) c
            (mixed_kept strange moments).book.lives
            (own_still strange c (crossings_of moments) (mixed_kept strange moments).book.lives all)
        by (Asked h r) mixed true on all = all
        by (Crossed c) mixed false off all =
            let t : TellsOfOne (host_in (Crossed c)) (c ∷ crossings_of moments) (Crossed c) (notices_by (Crossed c)
            moments) = told orders strange hosts (Crossed c) moments mixed off in
            own_all strange (c ∷ crossings_of moments) (host_in (Crossed c)) t.peer (Crossed c)
            (notices_by (Crossed c) moments) (kept_by (Crossed c) (mixed_kept strange moments)) off t.told
            (own_crossed strange (c ∷ crossings_of moments) c (mixed_kept strange moments).book.lives
            (own_still strange c (crossings_of moments) (mixed_kept strange moments).book.lives all))
        by (Asked h r) mixed false off all =
            let t : TellsOfOne h (crossings_of moments) (Asked h r) (notices_by (Asked h r) moments) = told orders
            strange hosts (Asked h r) moments mixed off in
            own_all strange (crossings_of moments) h t.peer (Asked h r) (notices_by (Asked h r) moments)
            (kept_by (Asked h r) (mixed_kept strange moments)) off t.told
            (own_asked strange (crossings_of moments) h r (mixed_kept strange moments).book.lives all)

  own_one : (moments : List Moment) → IsMixed strange hosts moments → (x : Life)
      → Contains (mixed_kept strange moments).book.lives x → IsOwn strange (crossings_of moments) x
  own_one moments mixed x there = each_in (IsOwn strange (crossings_of moments))
      (mixed_kept strange moments).book.lives x there (all_own moments mixed)

  pub plain_owner : (moments : List Moment) → IsMixed strange hosts moments → (x : Life)
      → Contains (mixed_kept strange moments).book.lives x → strange x.host ≡ false
  plain_owner moments mixed x there = (own_one moments mixed x there).plain

  pub has_asked : (moments : List Moment) → IsMixed strange hosts moments → (x : Life)
      → Contains (mixed_kept strange moments).book.lives x → HasAsked (crossings_of moments) x
  has_asked moments mixed x there =
      let i : IsOwn strange (crossings_of moments) x = own_one moments mixed x there in
      record {
        own = names_own x (crossings_of moments) i.own;
        partner = names_partner x (crossings_of moments) i.partner;
      }

  -- what is reported of data
  tells_data : (h p : Host) (log : List Crossing) (x : Moment) (n : Notice) → Tells h p log x n → ReportsData x n
  tells_data h p log x (notice.Opened socket peer foreign own partner) tells = tt
  tells_data h p log x n tells = tells

  pub data_reported : (x : Moment) (moments : List Moment) → IsMixed strange hosts (x ∷ moments)
      → strange (host_in x) ≡ false → (n : Notice) → Contains (notices_by x moments) n → ReportsData x n
  data_reported x moments mixed off n there =
      let t : TellsOfOne (host_in x) (crossings_of (x ∷ moments)) x (notices_by x moments) = told orders strange hosts x
      moments mixed off in
      tells_data (host_in x) t.peer (crossings_of (x ∷ moments)) x n
      (each_in (Tells (host_in x) t.peer (crossings_of (x ∷ moments)) x) (notices_by x moments) n there t.told)
