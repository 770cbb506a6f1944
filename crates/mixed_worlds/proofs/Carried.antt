-- The bits of each life are those of messages on one link, in their order, whatever its peer sends.
use Rattle.mixed_worlds.proofs.Common.{Contains, Host, same_host, Flow, Crossing, same_host-true, is_mine_on, Entry, Notice, both, receives, sends, Life, NcpState, pair_with, Request, HasOpenEnd, AreOf, eqb-true}
use Rattle.std.proofs.Common.{Some, ◌≡◌, ◌⊎◌, inl, inr, ℕ, ◌<◌, ◌==◌, Bool, true, false, if◌then◌else◌, List, [], ◌∷◌, ◌++◌, filter, length, Option, refl, ap, subst, ◌∙◌, arith}
use Rattle.promise.specs.Formed.{CrossedAt, flow_of}
use Rattle.net_sim.specs.Book.{Kept, all_told, book_told, changed_when, life_ended, lives_asked, lives_at, lives_between, lives_crossed, lives_on, lives_told, lives_with, new_life, returned, where_it, granted}
use Rattle.world_keeps_lives.proofs.lemmas.{Each, each_in}
use Rattle.interface.specs.declared.crossing.Crossing.TheVariants as crossing
use Rattle.host_pairs.specs.Parcels.{link_of}
use Rattle.host_pairs.specs.declared.notice.Notice.TheVariants as notice
use Rattle.sockets.specs.declared.request.Request.TheVariants as request
use Rattle.mixed_worlds.proofs.Asked.{Linked}
use Rattle.mixed_worlds.proofs.Bound.{Bound}
use Rattle.mixed_worlds.proofs.OwnLinks.{Said}
use Rattle.mixed_worlds.proofs.Granted.{AreWithin, HasRoom, IsNew}
use Rattle.mixed_worlds.proofs.Rooms.{nobody_passes, one_passes}

-- ---- places

pub below_all : (place : ℕ) (c : Crossing) (log : List Crossing) → CrossedAt place c log → place < length log
below_all place c [] i = absurd i
below_all place c (d ∷ log) (inl i) = omega (arith, i.1)
below_all place c (d ∷ log) (inr i) = let below : place < length log = below_all place c log i in omega (arith, below)

-- ---- bits that messages carried

pub none_of : (comes : Bool) (f : Flow) (a b : ℕ) (log : List Crossing) → AreOf comes f a b log 0 []
none_of comes f a b [] = (refl, refl)
none_of comes f a b (c ∷ log) = inl (none_of comes f a b log)

-- ---- ends

-- what is so of all ends is so of those that pass a test
pub kept_each : (P : Entry → Type 0) (test : Entry → Bool) (es : List Entry) → Each P es
    → Each (λ (e : Entry). (test e ≡ true) × P e) (filter test es)
kept_each P test [] all = tt
kept_each P test (e ∷ es) all = by (test e) refl (kept_each P test es all.1) where
  by : (b : Bool) → test e ≡ b → Each (λ (y : Entry). (test y ≡ true) × P y) (filter test es)
      → Each (λ (y : Entry). (test y ≡ true) × P y) (if b then e ∷ filter test es else filter test es)
  by true t rest = ((t, all.0), rest)
  by false t rest = rest

-- an open end on the socket of a life that isn't over is its end: it is with its peer, and has its link
pub record ItsEnd (y : Life) (link : Option ℕ) (p : Host) (e : Entry) : Type 0 where
  pub peer : p ≡ y.peer
  pub linked : e.link ≡ link
  pub asked : e.asked ≡ Some y.own_stamp
  pub partner : e.partner ≡ Some y.partner_stamp
  pub mine : e.mine ≡ true

pub its_end : (s : NcpState) (y : Life) (link : Option ℕ) (p : Host) (e : Entry)
    → Contains (pair_with p s.peers).entries e → is_mine_on y.socket e ≡ true → HasOpenEnd s y
    → Each (Bound y link) (pair_with y.peer s.peers).entries → ItsEnd y link p e
its_end s y link p e there mine o bound = by (same_host p y.peer) refl where
  by : (b : Bool) → same_host p y.peer ≡ b → ItsEnd y link p e
  by false off = absurd
      (each_in (λ (z : Entry). is_mine_on y.socket z ≡ true → ⊥) (pair_with p s.peers).entries e there
      (nobody_passes (is_mine_on y.socket) (pair_with p s.peers).entries (o.others p off)) mine)
  by true same =
      let peer : p ≡ y.peer = same_host-true p y.peer same in
      let here : Contains (pair_with y.peer s.peers).entries e = subst
      (λ (h : Host). Contains (pair_with h s.peers).entries e) peer there in
      let is : e ≡ o.end = each_in (λ (z : Entry). is_mine_on y.socket z ≡ true → z ≡ o.end)
      (pair_with y.peer s.peers).entries e here
      (one_passes (is_mine_on y.socket) o.end (pair_with y.peer s.peers).entries o.one) mine in
      let parts : (e.mine ≡ true) × ((e.own == y.socket) ≡ true) = both e.mine (e.own == y.socket) mine in
      record {
        peer = peer;
        linked = each_in (Bound y link) (pair_with y.peer s.peers).entries e here bound parts.0
            (eqb-true e.own y.socket parts.1) (ap (λ (z : Entry). z.asked) is ∙ o.own)
            (ap (λ (z : Entry). z.partner) is ∙ o.partner);
        asked = ap (λ (z : Entry). z.asked) is ∙ o.own;
        partner = ap (λ (z : Entry). z.partner) is ∙ o.partner;
        mine = parts.0;
      }

-- ---- what is known of a life

pub record Counted (log : List Crossing) (s : NcpState) (x : Life) : Type 0 where
  pub link : Option ℕ
  pub messages : AreOf (receives x) (flow_of x (link_of link)) x.own_stamp x.partner_stamp log x.messages x.bits
  pub bound : x.ended ≡ false → Each (Bound x link) (pair_with x.peer s.peers).entries
  pub named : sends x ≡ true → Linked x.host x.peer log x.socket x.foreign x.partner_stamp link
  pub itself : receives x ≡ true → Said x.host x.peer log x.socket x.foreign x.own_stamp link
  pub room : sends x ≡ true → x.ended ≡ false → HasRoom x log (length log) s
  pub within : sends x ≡ true → AreWithin x (link_of link) log

-- a life that has just begun, or one that is as it was
abbrev pub Known : (Host → NcpState) → List Crossing → Life → Type 0
Known programs log x = IsNew x ⊎ Counted log (programs x.host) x

-- a notice that isn't of data
abbrev pub IsCalm : Notice → Type 0
IsCalm (notice.Sent socket bits) = ⊥
IsCalm (notice.Arrived socket bits) = ⊥
IsCalm n = Unit {0}

-- what such notices do
module _ (programs : Host → NcpState) (log : List Crossing) where
  one_more : (lives : List Life) (y : Life) → Each (Known programs log) lives → Known programs log y
      → Each (Known programs log) (lives ++ y ∷ [])
  one_more [] y all i = (i, tt)
  one_more (x ∷ lives) y all i = (all.0, one_more lives y all.1 i)

  known_where : (test : Life → Bool) (change : Life → Life) (lives : List Life)
      → ((x : Life) → Known programs log x → Known programs log (change x)) → Each (Known programs log) lives
      → Each (Known programs log) (where_it test change lives)
  known_where test change [] stays all = tt
  known_where test change (x ∷ lives) stays all = (by (test x), known_where test change lives stays all.1) where
    by : (b : Bool) → Known programs log (changed_when b change x)
    by true = stays x all.0
    by false = all.0

  over : (x : Life) → Known programs log x → Known programs log (life_ended x)
  over x (inl i) = inl i
  over x (inr c) = inr (record {
    link = c.link;
    messages = c.messages;
    bound = λ e. absurd (let clash : true ≡ false = e in cc);
    named = c.named;
    itself = c.itself;
    room = λ sending e. absurd (let clash : true ≡ false = e in cc);
    within = c.within;
  })

  gave_back : (messages bits : ℕ) (x : Life) → Known programs log x → Known programs log (returned messages bits x)
  gave_back messages bits x (inl i) = inl i
  gave_back messages bits x (inr c) = inr (record {
    link = c.link;
    messages = c.messages;
    bound = c.bound;
    named = c.named;
    itself = c.itself;
    room = c.room;
    within = c.within;
  })

  gave : (messages bits : ℕ) (x : Life) → Known programs log x → Known programs log (granted messages bits x)
  gave messages bits x (inl i) = inl i
  gave messages bits x (inr c) = inr (record {
    link = c.link;
    messages = c.messages;
    bound = c.bound;
    named = c.named;
    itself = c.itself;
    room = c.room;
    within = c.within;
  })

  known_told : (h : Host) (n : Notice) (lives : List Life) → IsCalm n → Each (Known programs log) lives
      → Each (Known programs log) (lives_told h n lives)
  known_told h (notice.Opened socket peer foreign own partner) lives calm all = one_more lives
      (new_life h socket peer foreign own partner) all (inl (refl, refl))
  known_told h (notice.Ended socket peer foreign) lives calm all = known_where (lives_between h socket peer foreign)
      life_ended lives over all
  known_told h (notice.PairReset peer) lives calm all = known_where (lives_with h peer) life_ended lives over all
  known_told h (notice.Sent socket bits) lives calm all = absurd calm
  known_told h (notice.Arrived socket bits) lives calm all = absurd calm
  known_told h (notice.Returned socket messages bits) lives calm all = known_where (lives_at h socket)
      (returned messages bits) lives (gave_back messages bits) all
  known_told h n lives calm all = all

  pub known_all : (h : Host) (ns : List Notice) (k : Kept) → Each IsCalm ns → Each (Known programs log) k.book.lives
      → Each (Known programs log) (all_told h ns k).book.lives
  known_all h [] k calm all = all
  known_all h (n ∷ ns) k calm all = known_all h ns (book_told h n k) calm.1
      (known_told h n k.book.lives calm.0 all)

  pub known_crossed : (c : Crossing) (lives : List Life) → Each (Known programs log) lives
      → Each (Known programs log) (lives_crossed c lives)
  known_crossed (crossing.Down h) lives all = known_where (lives_on h) life_ended lives over all
  known_crossed c lives all = all

  pub known_asked : (h : Host) (r : Request) (lives : List Life) → Each (Known programs log) lives
      → Each (Known programs log) (lives_asked h r lives)
  known_asked h (request.Grant socket messages bits) lives all = known_where (lives_at h socket)
      (granted messages bits) lives (gave messages bits) all
  known_asked h r lives all = all
