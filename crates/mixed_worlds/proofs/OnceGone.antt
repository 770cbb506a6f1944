-- A message of a host's own opens no end whose own request, or whose partner's, is that of a life already.
use Rattle.mixed_worlds.proofs.Common.{Host, Command, PairState, Entry, Notice, NcpState, pair_with, next_pair, Peer, AreInOrder, HasSome, both, End, Ask, Close, Mark, Listener, Stand, Standing, at, standing, mark_of, marks, find_passes, eqb-true, same_Some}
use Rattle.std.proofs.Common.{◌≡◌, inl, inr, ℕ, ◌<◌, ◌*◌, ◌==◌, ◌&&◌, Bool, true, false, not, if◌then◌else◌, List, [], ◌∷◌, ◌++◌, filter, take, drop, Option, Some, None, is_some, refl, ap, sym, subst, ◌∙◌, arith, eq-eqb}
use Rattle.host_pairs.specs.Desk.{DeskState, desk_of, desk_told, swept}
use Rattle.host_pairs.specs.Entries.{is_ending, changed_at, changed_first, ending, entry_at, is_at, is_over, opening_by, opening_notices}
use Rattle.host_pairs.specs.Parcels.{Parcel, asked_at, bits_gone, cls_sent, command_gone, commands_gone, may_send_on, pair_after, parcel_gone, link_of, request_gone}
use Rattle.sockets.specs.Sending.{next_in, offered_by, offered}
use Rattle.std.proofs.lemmas.List.{append-nil, append_assoc, take-append-drop}
use Rattle.std.proofs.lemmas.List.Elements.{All-append, All-cons, All-filter, All-nil, All-weaker}
use Rattle.std.specs.Prelude.{flat_map, All}
use Rattle.host_pairs.specs.Commands.{changed}
use Rattle.host_keeps_pairing.proofs.lemmas.{found_at, none_at, put, Found, heads, marks_append, one_gone}
use Rattle.ncp_control.specs.declared.command.Command.TheVariants as command
use Rattle.host_pairs.specs.Parcels as parcel
use Rattle.host_pairs.specs.declared.notice.Notice.TheVariants as notice
use Rattle.mixed_worlds.proofs.Once.{AreApart, Differ, IsBoth, IsDone, Opening, all_here, apart_more, at_two, both_same}
use Rattle.mixed_worlds.proofs.Once.{changed_found, done_same, found_all, lone_by, none_opened, openings}
use Rattle.mixed_worlds.proofs.Once.{openings_append}
use Rattle.mixed_worlds.proofs.Steps.{IsSame, desk_with, ended_none}
use Rattle.mixed_worlds.proofs.Waiting.{all_changed}

-- ---- an end whose request waits

-- it is there, it is the host's own and hasn't asked
record Waits (own foreign : ℕ) (es : List Entry) : Type 0 where
  end : Entry
  found : entry_at own foreign es ≡ Some end
  mine : end.mine ≡ true
  unasked : end.asked ≡ None

its_own : (s : Standing) (rest : List Standing) (words : List Mark) (x : End)
    → Stand true (λ n. n) 0 (s ∷ rest) (Ask 0 ∷ words) x → (s.mine ≡ true) × (s.asked ≡ None)
its_own s [] words x h = elim (heads 0 s.mine s.asked s.closing (Ask 0) words h.1) [
  | inl r ↦ (r.own, r.unasked)
  | inr r ↦ absurd (let clash : Ask 0 ≡ Close = r.mark in cc)
]
its_own s (t ∷ rest) words x h = absurd h

waits : (own foreign : ℕ) (es : List Entry) (words : List Mark) (x : End)
    → Stand true (λ n. n) 0 (at own foreign es) (Ask 0 ∷ words) x → Waits own foreign es
waits own foreign es words x h = by (entry_at own foreign es) refl where
  by : (o : Option Entry) → entry_at own foreign es ≡ o → Waits own foreign es
  by None f = absurd
      (let clash : Ask 0 ∷ words ≡ [] = (subst (λ (ss : List Standing). Stand true (λ n. n) 0 ss (Ask 0 ∷ words) x)
      (none_at own foreign es f) h).0 in cc)
  by (Some e) f =
      let g : Found own foreign es e = found_at own foreign es e f in
      let k : (e.mine ≡ true) × (e.asked ≡ None) = its_own (standing e) g.rest words x
      (subst (λ (ss : List Standing). Stand true (λ n. n) 0 ss (Ask 0 ∷ words) x) g.first h) in
      record { end = e; found = f; mine = k.0; unasked = k.1 }

-- ---- what goes out

-- no two lives, and none that is reported here, have the same own request or the same partner's; those that are
-- reported here have both requests
pub record IsOnceGone (h p : Host) (stamp : ℕ) (before : List Opening) (d : DeskState) : Type 0 where
  pub apart : AreApart (before ++ openings h d.notices)
  pub old : All (λ n. (n.asked < stamp) × (n.host ≡ h → n.peer ≡ p → All (IsDone n) d.entries)) before
  pub new : All (λ n. (n.host ≡ h) × (n.peer ≡ p) × All (IsBoth n) d.entries) (openings h d.notices)

module _ (h p : Host) (stamp : ℕ) (before : List Opening) where
  abbrev So : DeskState → Type 0
  So d = IsOnceGone h p stamp before d

  abbrev Old : List Entry → Opening → Type 0
  Old es n = (n.asked < stamp) × (n.host ≡ h → n.peer ≡ p → All (IsDone n) es)

  abbrev New : List Entry → Opening → Type 0
  New es n = (n.host ≡ h) × (n.peer ≡ p) × All (IsBoth n) es

  turned : (d : DeskState) (es : List Entry) (queue : List Command) (listening : List Listener)
      → ((n : Opening) → n.asked < stamp → All (IsDone n) d.entries → All (IsDone n) es)
      → ((n : Opening) → All (IsBoth n) d.entries → All (IsBoth n) es) → So d
      → So (record { entries = es; queue = queue; listening = listening; notices = d.notices })
  turned d es queue listening done both i = record {
    apart = i.apart;
    old = All-weaker (Old d.entries) (Old es) (λ n o. (o.0, λ host peer. done n o.0 (o.1 host peer))) before i.old;
    new = All-weaker (New d.entries) (New es) (λ n o. (o.0, o.1, both n o.2)) (openings h d.notices) i.new;
  }

  as_told : (d : DeskState) (ns : List Notice) → openings h ns ≡ [] → So d → So (desk_told ns d)
  as_told d ns none i =
      let same : openings h (d.notices ++ ns) ≡ openings h d.notices = openings_append h d.notices ns
      ∙ ap (λ (os : List Opening). openings h d.notices ++ os) none ∙ append-nil (openings h d.notices) in
      record {
        apart = subst (λ (os : List Opening). AreApart (before ++ os)) (sym same) i.apart;
        old = i.old;
        new = subst (λ (os : List Opening). All (New d.entries) os) (sym same) i.new;
      }

  one_more : (d : DeskState) (n : Opening) (ns : List Notice) → openings h ns ≡ n ∷ []
      → All (λ m. Differ m n) (before ++ openings h d.notices) → New d.entries n → So d → So (desk_told ns d)
  one_more d n ns is other here i =
      let more : openings h (d.notices ++ ns) ≡ openings h d.notices ++ n ∷ [] = openings_append h d.notices ns
      ∙ ap (λ (os : List Opening). openings h d.notices ++ os) is in
      let all : before ++ openings h (d.notices ++ ns) ≡ (before ++ openings h d.notices) ++ n ∷ [] =
      ap (λ (os : List Opening). before ++ os) more ∙ sym (append_assoc before (openings h d.notices) (n ∷ [])) in
      record {
        apart = subst AreApart (sym all) (apart_more (before ++ openings h d.notices) n i.apart other);
        old = i.old;
        new = subst (λ (os : List Opening). All (New d.entries) os) (sym more)
            (All-append (New d.entries) (openings h d.notices) (n ∷ []) i.new
            (All-cons (New d.entries) n [] here (All-nil (New d.entries))));
      }

  same_ends : (d : DeskState) (es : List Entry) → ((P : Entry → Type 0)
      → ((e f : Entry) → IsSame e f → P e → P f) → All P d.entries → All P es) → So d → So (record d { entries = es })
  same_ends d es k i = turned d es d.queue d.listening (λ n less all. k (IsDone n) (done_same n) all)
      (λ n all. k (IsBoth n) (both_same n) all) i

  -- ---- a request

  module _ (own foreign : ℕ) (d : DeskState) (w : Waits own foreign d.entries) (words : List Mark) (x : End)
      (s : Stand true (λ n. n) 0 (at own foreign d.entries) words x) (i : So d) where
    here : is_at own foreign w.end ≡ true
    here = find_passes (is_at own foreign) w.end d.entries w.found

    at_it : (w.end.own ≡ own) × (w.end.foreign ≡ foreign)
    at_it =
        let two : ((w.end.own == own) ≡ true) × ((w.end.foreign == foreign) ≡ true) = both (w.end.own == own)
        (w.end.foreign == foreign) here in
        (eqb-true w.end.own own two.0, eqb-true w.end.foreign foreign two.1)

    asks : So (changed (is_at own foreign) (asked_at stamp) d)
    asks = turned d (changed_at own foreign (asked_at stamp) d.entries) d.queue d.listening
        (λ n less all. all_changed (IsDone n) (is_at own foreign) (asked_at stamp) d.entries
        (λ y t k o f mine. (
          (λ a. absurd (let same : stamp ≡ n.asked = same_Some stamp n.asked a in omega (arith, less, same))),
          (λ q. refl),
        )) all)
        (λ n all. all_changed (IsBoth n) (is_at own foreign) (asked_at stamp) d.entries
        (λ y t k o f mine. (refl, (k o f mine).1)) all) i

    abbrev opening : ℕ → Opening
    opening b = record
        { host = h; peer = p; own = w.end.own; foreign = w.end.foreign; asked = stamp; partner = b }

    not_old : (b : ℕ) (m : Opening) → w.end.partner ≡ Some b → Old d.entries m → Differ m (opening b)
    not_old b m partner o = record {
      own = λ same. (let less : m.asked < stamp = o.0 in let is : m.asked ≡ stamp = same.place in
          omega (arith, less, is));
      partner = λ same.
          (let asked : is_some w.end.asked ≡ true = (found_all (IsDone m) (is_at own foreign) d.entries w.end w.found
          (o.1 same.host same.peer) (sym same.own) (sym same.foreign) w.mine).1
          (partner ∙ ap (λ (n : ℕ). Some n) (sym same.place)) in
          let clash : false ≡ true = ap is_some (sym w.unasked) ∙ asked in cc);
    }

    not_new : (b : ℕ) (m : Opening) → New d.entries m → Differ m (opening b)
    not_new b m o = record {
      own = λ same. clash same.own same.foreign;
      partner = λ same. clash same.own same.foreign;
    } where
      clash : m.own ≡ w.end.own → m.foreign ≡ w.end.foreign → ⊥
      clash y z =
          let asked : is_some w.end.asked ≡ true = (found_all (IsBoth m) (is_at own foreign) d.entries w.end w.found
          o.2 (sym y) (sym z) w.mine).0 in
          let no : false ≡ true = ap is_some (sym w.unasked) ∙ asked in cc

    both_here : (b : ℕ) → w.end.partner ≡ Some b
        → All (IsBoth (opening b)) (changed_at own foreign (asked_at stamp) d.entries)
    both_here b partner = All-weaker
        (λ y. is_at own foreign y ≡ true → (is_some y.asked ≡ true) × (is_some y.partner ≡ true))
        (IsBoth (opening b)) (λ y k o f mine. k (at_two own foreign y (o ∙ at_it.0, f ∙ at_it.1)))
        (changed_at own foreign (asked_at stamp) d.entries)
        (all_here (λ y. (is_some y.asked ≡ true) × (is_some y.partner ≡ true)) own foreign (asked_at stamp) d.entries
        w.end (λ y t. t) (refl, ap is_some partner) w.found (lone_by 0 (at own foreign d.entries) words x s))

    told : (b : Option ℕ) → w.end.partner ≡ b
        → So (desk_told (opening_by p (asked_at stamp w.end) (Some stamp) b)
        (changed (is_at own foreign) (asked_at stamp) d))
    told None partner = as_told (changed (is_at own foreign) (asked_at stamp) d) [] refl asks
    told (Some b) partner = by (is_ending w.end) where
      by : (v : Bool)
          → So (desk_told (if v then [] else notice.Opened w.end.own p w.end.foreign stamp b ∷ [])
          (changed (is_at own foreign) (asked_at stamp) d))
      by true = as_told (changed (is_at own foreign) (asked_at stamp) d) [] refl asks
      by false = one_more (changed (is_at own foreign) (asked_at stamp) d) (opening b)
          (notice.Opened w.end.own p w.end.foreign stamp b ∷ []) refl
          (All-append (λ m. Differ m (opening b)) before (openings h d.notices)
          (All-weaker (Old d.entries) (λ m. Differ m (opening b)) (λ m o. not_old b m partner o) before i.old)
          (All-weaker (New d.entries) (λ m. Differ m (opening b)) (λ m o. not_new b m o) (openings h d.notices) i.new))
          (refl, refl, both_here b partner) asks

    requested : So (request_gone p stamp own foreign d)
    requested =
        subst
        (λ (o : Option Entry). So (desk_told (opening_notices p o) (changed (is_at own foreign) (asked_at stamp) d)))
        (sym (changed_found own foreign (asked_at stamp) d.entries w.end (λ y t. t) w.found))
        (told w.end.partner refl)

  -- ---- all commands

  -- what waits of each two sockets is what their end still has to say
  abbrev AreDue : List Command → (ℕ → ℕ → List Mark) → DeskState → Type 0
  AreDue cs rest d = (own foreign : ℕ)
      → (x : End) × Stand true (λ n. n) 0 (at own foreign d.entries) (marks 0 own foreign cs ++ rest own foreign) x

  due_next : (c : Command) (cs : List Command) (rest : ℕ → ℕ → List Mark) (d : DeskState) → AreDue (c ∷ cs) rest d
      → (own foreign : ℕ)
      → (x : End) × Stand true (λ n. n) 0 (at own foreign d.entries)
      (mark_of 0 own foreign c ++ (marks 0 own foreign cs ++ rest own foreign)) x
  due_next c cs rest d due own foreign =
      let s : (x : End) × Stand true (λ n. n) 0 (at own foreign d.entries)
      (marks 0 own foreign (c ∷ cs) ++ rest own foreign) x = due own foreign in (
        s.0,
        subst (λ (ws : List Mark). Stand true (λ n. n) 0 (at own foreign d.entries) ws s.0)
            (append_assoc (mark_of 0 own foreign c) (marks 0 own foreign cs) (rest own foreign)) s.1,
      )

  asked_for : (own foreign : ℕ) (words : List Mark) (d : DeskState)
      → (x : End) × Stand true (λ n. n) 0 (at own foreign d.entries)
      ((if own == own && foreign == foreign then Ask 0 ∷ [] else []) ++ words) x
      → So d → So (request_gone p stamp own foreign d)
  asked_for own foreign words d s i =
      let same : (own == own && foreign == foreign) ≡ true = at_same own foreign in
      let k : Stand true (λ n. n) 0 (at own foreign d.entries) (Ask 0 ∷ words) s.0 =
      subst
      (λ (b : Bool). Stand true (λ n. n) 0 (at own foreign d.entries) ((if b then Ask 0 ∷ [] else []) ++ words) s.0)
      same s.1 in
      requested own foreign d (waits own foreign d.entries words s.0 k) (Ask 0 ∷ words) s.0 k i where
        at_same : (a b : ℕ) → (a == a && b == b) ≡ true
        at_same a b = rw (eq-eqb a a refl, eq-eqb b b refl) refl

  closed : (own foreign : ℕ) (d : DeskState) → So d → So (swept p (changed (is_at own foreign) cls_sent d))
  closed own foreign d i =
      let c : So (changed (is_at own foreign) cls_sent d) = same_ends d (changed_at own foreign cls_sent d.entries)
      (λ P k all. all_changed P (is_at own foreign) cls_sent d.entries
      (λ e t j. k e (cls_sent e)
      (record { own = refl; foreign = refl; mine = refl; asked = refl; partner = refl; link = refl }) j) all) i in
      as_told (record d { entries = filter (λ e. not (is_over e)) (changed_at own foreign cls_sent d.entries) })
      (flat_map (ending p) (filter is_over (changed_at own foreign cls_sent d.entries)))
      (none_opened h (flat_map (ending p) (filter is_over (changed_at own foreign cls_sent d.entries)))
      (ended_none p (filter is_over (changed_at own foreign cls_sent d.entries))))
      (turned (changed (is_at own foreign) cls_sent d)
      (filter (λ e. not (is_over e)) (changed_at own foreign cls_sent d.entries)) d.queue d.listening
      (λ n less all. All-filter (λ e. not (is_over e)) (IsDone n) (changed_at own foreign cls_sent d.entries) all)
      (λ n all. All-filter (λ e. not (is_over e)) (IsBoth n) (changed_at own foreign cls_sent d.entries) all) c)

  one_command : (c : Command) (words : ℕ → ℕ → List Mark) (d : DeskState)
      → ((own foreign : ℕ) → (x : End) × Stand true (λ n. n) 0 (at own foreign d.entries)
      (mark_of 0 own foreign c ++ words own foreign) x) → So d → So (command_gone p stamp c d)
  one_command (command.Rts own foreign link) words d due i = asked_for own foreign (words own foreign) d
      (due own foreign) i
  one_command (command.Str own foreign size) words d due i = asked_for own foreign (words own foreign) d
      (due own foreign) i
  one_command (command.Cls own foreign) words d due i = closed own foreign d i
  one_command c words d due i = i

  all_commands : (cs : List Command) (rest : ℕ → ℕ → List Mark) (d : DeskState) → AreDue cs rest d → So d
      → So (commands_gone p stamp cs d)
  all_commands [] rest d due i = i
  all_commands (c ∷ cs) rest d due i = all_commands cs rest (command_gone p stamp c d)
      (λ own foreign. (let s : (x : End) × Stand true (λ n. n) 0 (at own foreign d.entries)
      (mark_of 0 own foreign c ++ (marks 0 own foreign cs ++ rest own foreign)) x =
      due_next c cs rest d due own foreign in
      (_, one_gone (λ n. n) own foreign 0 p stamp c d (marks 0 own foreign cs ++ rest own foreign) s.0 s.1)))
      (one_command c (λ own foreign. marks 0 own foreign cs ++ rest own foreign) d (due_next c cs rest d due) i)

  -- ---- a parcel

  parcel_once : (x : Parcel) (q : PairState) (listening : List Listener)
      → ((own foreign : ℕ) → HasSome (λ n. n) own foreign q) → So (desk_of q listening)
      → So (record {
        entries = (pair_after x q (parcel_gone p stamp q.busy x (desk_of q listening))).entries;
        queue = (pair_after x q (parcel_gone p stamp q.busy x (desk_of q listening))).queue;
        listening = listening;
        notices = (parcel_gone p stamp q.busy x (desk_of q listening)).notices;
      })
  parcel_once parcel.Reset q listening sound i = record { apart = i.apart; old = i.old; new = i.new }
  parcel_once parcel.Reply q listening sound i = record { apart = i.apart; old = i.old; new = i.new }
  parcel_once (parcel.Bytes e size count) q listening sound i =
      as_told (changed (may_send_on q.busy (link_of e.link)) (bits_gone (size * count)) (desk_of q listening))
      (notice.Sent e.own (take (size * count) e.bits) ∷ []) refl
      (same_ends (desk_of q listening)
      (changed_first (may_send_on q.busy (link_of e.link)) (bits_gone (size * count)) q.entries)
      (λ P k all. all_changed P (may_send_on q.busy (link_of e.link)) (bits_gone (size * count)) q.entries
      (λ y t j. k y (bits_gone (size * count) y)
      (record { own = refl; foreign = refl; mine = refl; asked = refl; partner = refl; link = refl }) j) all) i)
  parcel_once (parcel.Commands count) q listening sound i =
      let g : So (commands_gone p stamp (take count q.queue) (desk_of q listening)) = all_commands (take count q.queue)
      (λ own foreign. marks 0 own foreign (drop count q.queue)) (desk_of q listening) due i in
      record { apart = g.apart; old = g.old; new = g.new } where
        due : AreDue (take count q.queue) (λ own foreign. marks 0 own foreign (drop count q.queue))
            (desk_of q listening)
        due own foreign = (
          (sound own foreign).x,
          subst (λ (ws : List Mark). Stand true (λ n. n) 0 (at own foreign q.entries) ws (sound own foreign).x)
              (ap (λ (cs : List Command). marks 0 own foreign cs) (sym (take-append-drop count q.queue))
              ∙ marks_append 0 own foreign (take count q.queue) (drop count q.queue)) ((sound own foreign).has.ends 0),
        )

-- its next message
pub offer_once : (s : NcpState) (stamp : ℕ) (g : Peer) (x : Parcel) (h : Host) (before : List Opening)
    → AreInOrder s.peers → next_in s.peers ≡ Some (g, x)
    → ((own foreign : ℕ) → HasSome (λ n. n) own foreign (pair_with g.host s.peers))
    → IsOnceGone h g.host stamp before (desk_with g.host (s, []))
    → IsOnceGone h g.host stamp before (desk_with g.host (offered s stamp))
unfolding offered
offer_once s stamp g x h before order next sound i =
    let same : pair_with g.host s.peers ≡ g.pair = next_pair s.peers g x order next in
    let done : IsOnceGone h g.host stamp before (record {
      entries = (pair_after x g.pair (parcel_gone g.host stamp g.pair.busy x (desk_of g.pair s.listening))).entries;
      queue = (pair_after x g.pair (parcel_gone g.host stamp g.pair.busy x (desk_of g.pair s.listening))).queue;
      listening = s.listening;
      notices = (parcel_gone g.host stamp g.pair.busy x (desk_of g.pair s.listening)).notices;
    }) = parcel_once h g.host stamp before x g.pair s.listening
    (λ own foreign. subst (λ (q : PairState). HasSome (λ n. n) own foreign q) same (sound own foreign))
    (subst (λ (q : PairState). IsOnceGone h g.host stamp before (desk_of q s.listening)) same i) in
    subst (λ (o : Option (Peer × Parcel)). IsOnceGone h g.host stamp before (desk_with g.host (offered_by s stamp o)))
    (sym next)
    (subst (λ (q : PairState). IsOnceGone h g.host stamp before (record {
      entries = q.entries;
      queue = q.queue;
      listening = s.listening;
      notices = (parcel_gone g.host stamp g.pair.busy x (desk_of g.pair s.listening)).notices;
    })) (sym (put g.host (pair_after x g.pair (parcel_gone g.host stamp g.pair.busy x (desk_of g.pair s.listening)))
    s.peers)) done)
