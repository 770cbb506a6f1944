-- The notices of data in a book are those of messages that crossed.
use Rattle.world_keeps_lives.proofs.Common.{Contains, drop-append_seam, Host, same_host, same_host-refl, Crossing, HostMessage, data_bits, header_bits, is_receive_socket, MayGo, data_of, is_link, is_open, is_receiving, receives_on, PairState, Entry, Notice, both, what_goes, pair, pair_with, message_for, next_in, next_is, next_pair, Told, HaveAddresses, Agrees, Asked, Crossed, IsNext, IsStory, Moment, places, program, events_of, crossings_of, host_in, kept_by, notices_by, AreOurs, Network, Happened, crossed_only, mixed_kept, same_Some}
use Rattle.std.proofs.Common.{◌≡◌, ◌&&◌, ◌||◌, ◌≤◌, inl, inr, not, Option, None, ℕ, ◌+◌, ◌*◌, ◌==◌, Bool, true, false, if◌then◌else◌, List, [], ◌∷◌, ◌++◌, take, drop, length, Some, refl, ap, sym, subst, ◌∙◌, arith, eq-eqb}
use Rattle.host_pairs.specs.Parcels.{Parcel, may_send_on, next_of, link_of}
use Rattle.host_keeps_streams.proofs.lemmas.{find_passes, link_is}
use Rattle.net_sim.specs.Book.{Kept, all_told, asked, book_told, crossed}
use Rattle.promise.specs.Formed.{HasCrossed, coming, data_by, going, request}
use Rattle.promise.specs.Notices.{AreTold, FormedNotices, HasLink, data_told, MayBeUntold, TellsOf, is_data}
use Rattle.net_sim.proofs.lemmas.{data_away, story_agrees, coupled}
use Rattle.world_keeps_lives.specs.Told.{AreToldAmong, MayBeUntoldAmong, ToldAmong, crossed_at, has_stranger, is_of_stranger, told_among}
use Rattle.world_keeps_pairing.proofs.lemmas.{mail_below, some_is}
use Rattle.std.proofs.Math.Bool.{and-false}
use Rattle.std.proofs.lemmas.Bool.{eqb-true, or_parts, or_right}
use Rattle.interface.specs.Mailboxes as mail
use Rattle.interface.specs.declared.crossing.Crossing.TheVariants as crossing
use Rattle.host_pairs.specs.Parcels as parcel
use Rattle.host_pairs.specs.declared.notice.Notice.TheVariants as notice
use Rattle.host_keeps_streams.proofs.lemmas.Senders as senders
use Rattle.promise.specs.Notices as notices
use Rattle.world_keeps_lives.proofs.Desks.{IsAnOpen, open_mine, open_parts}
use Rattle.world_keeps_lives.proofs.Walk.Rules.{Each, each_in, each_of, each_weaker, found_in}
use Rattle.world_keeps_lives.proofs.Grounds.{Grounded, IsAnswered, IsAsked, grounds}
use Rattle.world_keeps_lives.proofs.DataTold.{IsNoData, Reports, TakesIf, answer_told, asking_told, bytes_told, control_told, message_takes, offer_told}
use Rattle.world_keeps_lives.proofs.Firsts.Books.{some_link}

-- ---- lists of notices

told_if : (b : Bool) (t : Told) (ts us : List Told)
    → (if b then t ∷ ts else ts) ++ us ≡ (if b then t ∷ (ts ++ us) else ts ++ us)
told_if true t ts us = refl
told_if false t ts us = refl

data_more : (ts : List Told) (t : Told)
    → data_told (ts ++ t ∷ []) ≡ (if is_data t.notice then t ∷ data_told ts else data_told ts)
data_more [] t = refl
data_more (u ∷ ts) t =
    ap (λ (all : List Told). all ++ (if is_data u.notice then u ∷ [] else [])) (data_more ts t) ∙ told_if (is_data t.notice) t (data_told ts) (if is_data u.notice then u ∷ [] else [])

abbrev IsQuiet : Notice → Type 0
IsQuiet n = is_data n ≡ false

quiet_told : (h : Host) (ns : List Notice) (k : Kept) → Each IsQuiet ns
    → data_told (all_told h ns k).book.notices ≡ data_told k.book.notices
quiet_told h [] k q = refl
quiet_told h (n ∷ ns) k q =
    quiet_told h ns (book_told h n k) q.1 ∙ data_more k.book.notices (record { host = h; place = length k.book.crossings; notice = n })
    ∙ ap (λ (b : Bool). if b then record { host = h; place = length k.book.crossings; notice = n } ∷ data_told k.book.notices else data_told k.book.notices) q.0

one_told : (h : Host) (n : Notice) (k : Kept) → is_data n ≡ true
    → data_told (book_told h n k).book.notices ≡ record { host = h; place = length k.book.crossings; notice = n } ∷ data_told k.book.notices
one_told h n k d =
    data_more k.book.notices (record { host = h; place = length k.book.crossings; notice = n })
    ∙ ap (λ (b : Bool). if b then record { host = h; place = length k.book.crossings; notice = n } ∷ data_told k.book.notices else data_told k.book.notices) d

-- ---- what is kept of moments

told_log : (h : Host) (ns : List Notice) (k : Kept) → (all_told h ns k).book.crossings ≡ k.book.crossings
told_log h [] k = refl
told_log h (n ∷ ns) k = told_log h ns (book_told h n k)

pub kept_log : (strange : Host → Bool) (moments : List Moment)
    → (mixed_kept strange moments).book.crossings ≡ crossings_of moments
kept_log strange [] = refl
kept_log strange (x ∷ moments) = by x (strange (host_in x)) (kept_log strange moments) where
  by : (x : Moment) (b : Bool) → (mixed_kept strange moments).book.crossings ≡ crossings_of moments
      → (if b then crossed_only x (mixed_kept strange moments) else all_told (host_in x) (notices_by x moments) (kept_by x (mixed_kept strange moments))).book.crossings ≡ crossings_of (x ∷ moments)
  by (Crossed c) true rest = ap (λ (log : List Crossing). c ∷ log) rest
  by (Asked h r) true rest = rest
  by (Crossed c) false rest = told_log (host_in (Crossed c)) (notices_by (Crossed c) moments) (crossed c (mixed_kept strange moments)) ∙ ap (λ (log : List Crossing). c ∷ log) rest
  by (Asked h r) false rest = told_log h (notices_by (Asked h r) moments) (asked h r (mixed_kept strange moments)) ∙ rest

same_notices : (y : Moment) (k : Kept) → data_told (kept_by y k).book.notices ≡ data_told k.book.notices
same_notices (Crossed c) k = refl
same_notices (Asked h r) k = refl

only_notices : (y : Moment) (k : Kept) → data_told (crossed_only y k).book.notices ≡ data_told k.book.notices
only_notices (Crossed c) k = refl
only_notices (Asked h r) k = refl

-- ---- notices about crossings without a stranger

abbrev IsOld : List Crossing → Told → Type 0
IsOld log t = t.place ≤ length log

-- one more crossing is about none of them
still_among : (strange : Host → Bool) (c : Crossing) (log : List Crossing) (ts : List Told) → Each (IsOld log) ts
    → told_among strange (c ∷ log) ts ≡ told_among strange log ts
still_among strange c log [] old = refl
still_among strange c log (t ∷ ts) old =
    ap (λ (v : Bool). if not (has_stranger strange t.host (if v then Some c else crossed_at t.place log)) then t ∷ told_among strange (c ∷ log) ts else told_among strange (c ∷ log) ts) not_here
    ∙ ap (λ (us : List Told). if not (has_stranger strange t.host (crossed_at t.place log)) then t ∷ us else us) (still_among strange c log ts old.1) where
      not_here : (t.place == length (c ∷ log)) ≡ false
      not_here = by (t.place == length (c ∷ log)) refl where
        by : (v : Bool) → (t.place == length (c ∷ log)) ≡ v → v ≡ false
        by false e = refl
        by true e = let same : t.place ≡ length (c ∷ log) = eqb-true t.place (length (c ∷ log)) e in absurd (let less : t.place ≤ length log = old.0 in omega (arith, same, less))

module _ (strange : Host → Bool) (c : Crossing) (log : List Crossing) where
  abbrev Among : List Told → Type 0
  Among ts = AreToldAmong strange (c ∷ log) (told_among strange (c ∷ log) ts)

  untold : (ts : List Told) → MayBeUntoldAmong strange c → AreToldAmong strange log ts
      → AreToldAmong strange (c ∷ log) ts
  untold [] u a = (u, a)
  untold (t ∷ ts) u a = inl (u, a)

  unchanged : (ts : List Told) → Each (IsOld log) ts → MayBeUntoldAmong strange c
      → AreToldAmong strange log (told_among strange log ts) → Among ts
  unchanged ts old u a =
      subst (λ (us : List Told). AreToldAmong strange (c ∷ log) us) (sym (still_among strange c log ts old))
      (untold (told_among strange log ts) u a)

  first_among : (t : Told) (ts : List Told) → t.place ≡ length (c ∷ log) → t.host ≡ host_in (Crossed c)
      → told_among strange (c ∷ log) (t ∷ ts) ≡ (if not (is_of_stranger strange c) then t ∷ told_among strange (c ∷ log) ts else told_among strange (c ∷ log) ts)
  first_among t ts is here =
      ap (λ (v : Bool). if not (has_stranger strange t.host (if v then Some c else crossed_at t.place log)) then t ∷ told_among strange (c ∷ log) ts else told_among strange (c ∷ log) ts)
      (eq-eqb t.place (length (c ∷ log)) is)
      ∙ ap (λ (v : Bool). if not (v && is_of_stranger strange c) then t ∷ told_among strange (c ∷ log) ts else told_among strange (c ∷ log) ts)
      (ap (λ (h : Host). same_host h (host_in (Crossed c))) here ∙ same_host-refl (host_in (Crossed c)))

  reports_one : (t : Told) (ts : List Told) → t.place ≡ length (c ∷ log) → t.host ≡ host_in (Crossed c)
      → Each (IsOld log) ts → (is_of_stranger strange c ≡ false → notices.Tells c log t)
      → AreToldAmong strange log (told_among strange log ts) → Among (t ∷ ts)
  reports_one t ts is here old tells a = by (is_of_stranger strange c) refl where
    P : List Told → Type 0
    P us = AreToldAmong strange (c ∷ log) us

    by : (v : Bool) → is_of_stranger strange c ≡ v → Among (t ∷ ts)
    by true on =
        subst P (sym (first_among t ts is here ∙ ap (λ (v : Bool). if not v then t ∷ told_among strange (c ∷ log) ts else told_among strange (c ∷ log) ts) on)) (unchanged ts old (inl on) a)
    by false off =
        subst P (sym (first_among t ts is here ∙ ap (λ (v : Bool). if not v then t ∷ told_among strange (c ∷ log) ts else told_among strange (c ∷ log) ts) off))
        (inr (tells off, subst (λ (us : List Told). AreToldAmong strange log us) (sym (still_among strange c log ts old)) a))

one_more : (c : Crossing) (log : List Crossing) → 1 + length log ≡ length (c ∷ log)
one_more c log = omega arith

-- ---- one moment

quiet_notice : (hosts : Network) (h p : Host) (log : List Crossing) (n : Notice) → Reports hosts h p log n → IsQuiet n
quiet_notice hosts h p log (notice.Sent s bits) t = absurd t
quiet_notice hosts h p log (notice.Arrived s bits) t = absurd t
quiet_notice hosts h p log n t = refl

module _ (hosts : Network) (moments : List Moment) where
  -- they are as they have to be, and about what has crossed
  pub record AreSo : Type 0 where
    pub told : ToldAmong hosts.strange (crossings_of moments) (mixed_kept hosts.strange moments).book.notices
    pub old : Each (IsOld (crossings_of moments)) (data_told (mixed_kept hosts.strange moments).book.notices)

  -- those of a host with a program, and of a stranger
  own_data : (y : Moment) → hosts.strange (host_in y) ≡ false
      → data_told (mixed_kept hosts.strange (y ∷ moments)).book.notices ≡ data_told (all_told (host_in y) (notices_by y moments) (kept_by y (mixed_kept hosts.strange moments))).book.notices
  own_data y off = ap (λ (v : Bool). data_told (if v then crossed_only y (mixed_kept hosts.strange moments) else all_told (host_in y) (notices_by y moments) (kept_by y (mixed_kept hosts.strange moments))).book.notices) off

  strange_data : (y : Moment) → hosts.strange (host_in y) ≡ true
      → data_told (mixed_kept hosts.strange (y ∷ moments)).book.notices ≡ data_told (mixed_kept hosts.strange moments).book.notices
  strange_data y on = ap (λ (v : Bool). data_told (if v then crossed_only y (mixed_kept hosts.strange moments) else all_told (host_in y) (notices_by y moments) (kept_by y (mixed_kept hosts.strange moments))).book.notices) on ∙ only_notices y (mixed_kept hosts.strange moments)

  quiet_data : (y : Moment) (p : Host) (log : List Crossing) → hosts.strange (host_in y) ≡ false
      → Each (Reports hosts (host_in y) p log) (notices_by y moments)
      → data_told (mixed_kept hosts.strange (y ∷ moments)).book.notices ≡ data_told (mixed_kept hosts.strange moments).book.notices
  quiet_data y p log off told =
      own_data y off ∙ quiet_told (host_in y) (notices_by y moments) (kept_by y (mixed_kept hosts.strange moments)) (each_weaker (Reports hosts (host_in y) p log) IsQuiet (notices_by y moments) (quiet_notice hosts (host_in y) p log) told) ∙ same_notices y (mixed_kept hosts.strange moments)

module _ (hosts : Network) (moments : List Moment) (so : AreSo hosts moments) where
  older : (c : Crossing)
      → Each (IsOld (c ∷ crossings_of moments)) (data_told (mixed_kept hosts.strange moments).book.notices)
  older c = each_weaker (IsOld (crossings_of moments)) (IsOld (c ∷ crossings_of moments)) (data_told (mixed_kept hosts.strange moments).book.notices) (λ t i. omega (arith, i)) so.old

  quiet_crossing : (c : Crossing) → MayBeUntoldAmong hosts.strange c
      → data_told (mixed_kept hosts.strange (Crossed c ∷ moments)).book.notices ≡ data_told (mixed_kept hosts.strange moments).book.notices
      → AreSo hosts (Crossed c ∷ moments)
  quiet_crossing c may same = record {
    told = subst (λ (ts : List Told). AreToldAmong hosts.strange (c ∷ crossings_of moments) (told_among hosts.strange (c ∷ crossings_of moments) ts)) (sym same) (unchanged hosts.strange c (crossings_of moments) (data_told (mixed_kept hosts.strange moments).book.notices) so.old may so.told);
    old = subst (λ (ts : List Told). Each (IsOld (c ∷ crossings_of moments)) ts) (sym same) (older c);
  }

  data_crossing : (c : Crossing) (n : Notice) → hosts.strange (host_in (Crossed c)) ≡ false
      → notices_by (Crossed c) moments ≡ n ∷ [] → is_data n ≡ true
      → (is_of_stranger hosts.strange c ≡ false → notices.Tells c (crossings_of moments) (record { host = host_in (Crossed c); place = 1 + length (crossings_of moments); notice = n }))
      → AreSo hosts (Crossed c ∷ moments)
  data_crossing c n off told d tells = record {
    told = subst (λ (ts : List Told). AreToldAmong hosts.strange (c ∷ crossings_of moments) (told_among hosts.strange (c ∷ crossings_of moments) ts)) (sym same) (reports_one hosts.strange c (crossings_of moments) this (data_told (mixed_kept hosts.strange moments).book.notices) placed refl so.old (λ none. here none) so.told);
    old = subst (λ (ts : List Told). Each (IsOld (c ∷ crossings_of moments)) ts) (sym same) ((let p : this.place ≡ length (c ∷ crossings_of moments) = placed in omega (arith, p)), older c);
  } where
    this : Told
    this = record { host = host_in (Crossed c); place = length (c ∷ (mixed_kept hosts.strange moments).book.crossings); notice = n }

    placed : length (c ∷ (mixed_kept hosts.strange moments).book.crossings) ≡ length (c ∷ crossings_of moments)
    placed = ap (λ (log : List Crossing). length (c ∷ log)) (kept_log hosts.strange moments)

    same : data_told (mixed_kept hosts.strange (Crossed c ∷ moments)).book.notices ≡ this ∷ data_told (mixed_kept hosts.strange moments).book.notices
    same = own_data hosts moments (Crossed c) off
        ∙ ap (λ (ns : List Notice). data_told (all_told (host_in (Crossed c)) ns (crossed c (mixed_kept hosts.strange moments))).book.notices) told
        ∙ one_told (host_in (Crossed c)) n (crossed c (mixed_kept hosts.strange moments)) d

    here : is_of_stranger hosts.strange c ≡ false → notices.Tells c (crossings_of moments) this
    here none = subst (λ (k : ℕ). notices.Tells c (crossings_of moments) (record { host = host_in (Crossed c); place = k; notice = n })) (one_more c (crossings_of moments) ∙ sym placed) (tells none)

-- ---- the link of an open end

linked : (h p : Host) (log : List Crossing) (e : Entry) (link : ℕ) → Grounded h p log e → is_open e ≡ true
    → e.link ≡ Some link → HasLink h p e.own link log
linked h p log e link g opened is = by (is_receive_socket e.own) refl where
  parts : IsAnOpen e
  parts = open_parts e opened

  mine : e.mine ≡ true
  mine = open_mine e g.refusing opened

  a : (n : ℕ) × (e.asked ≡ Some n)
  a = some_is e.asked parts.asked

  b : (n : ℕ) × (e.partner ≡ Some n)
  b = some_is e.partner parts.partner

  own : IsAsked h p log e a.0
  own = g.asked mine a.0 a.1

  partner : IsAnswered h p log e b.0
  partner = g.partner mine b.0 b.1

  by : (r : Bool) → is_receive_socket e.own ≡ r → HasLink h p e.own link log
  by true r = record {
    foreign = e.foreign;
    size = partner.named;
    own_stamp = a.0;
    partner_stamp = b.0;
    own = subst (λ (t : Bool). HasCrossed going h p a.0 (request e.own e.foreign (if t then link else partner.named)) log) (sym r)
        (subst (λ (n : ℕ). HasCrossed going h p a.0 (request e.own e.foreign n) log) (same_Some own.named link (sym (own.link r) ∙ is)) own.crossed);
    partner = subst (λ (t : Bool). HasCrossed coming p h b.0 (request e.foreign e.own (if t then partner.named else link)) log) (sym r) partner.crossed;
  }
  by false r = record {
    foreign = e.foreign;
    size = own.named;
    own_stamp = a.0;
    partner_stamp = b.0;
    own = subst (λ (t : Bool). HasCrossed going h p a.0 (request e.own e.foreign (if t then link else own.named)) log) (sym r) own.crossed;
    partner = subst (λ (t : Bool). HasCrossed coming p h b.0 (request e.foreign e.own (if t then own.named else link)) log) (sym r)
        (subst (λ (n : ℕ). HasCrossed coming p h b.0 (request e.foreign e.own n) log) (same_Some partner.named link (sym (partner.link r) ∙ is)) partner.crossed);
  }

-- ---- all moments

module _ (hosts : Network) (addresses : HaveAddresses hosts.all) where
  module _ (moments : List Moment) (run : mail.IsRun hosts.all (crossings_of moments)) (time : Happened hosts moments)
      (so : AreSo hosts moments) where
    -- bytes that go out
    module _ (m : HostMessage) (plain : hosts.strange m.flow.source ≡ false) (n : IsNext (program m.flow.source moments) m) (e : Entry) (size count : ℕ) (next : next_in (program m.flow.source moments).peers ≡ Some (n.peer, parcel.Bytes e size count))
        (is : m ≡ message_for (program m.flow.source moments).own n.peer (parcel.Bytes e size count)) where
      to : m.flow.destination ≡ n.peer.host
      to = ap (λ (x : HostMessage). x.flow.destination) is

      same : pair_with m.flow.destination (program m.flow.source moments).peers ≡ n.peer.pair
      same = subst (λ (y : Host). pair_with y (program m.flow.source moments).peers ≡ n.peer.pair) (sym to) (next_pair (program m.flow.source moments).peers n.peer (parcel.Bytes e size count) n.order next)

      parcel_next : next_of n.peer.pair ≡ Some (parcel.Bytes e size count)
      parcel_next = next_is n.peer (parcel.Bytes e size count) (program m.flow.source moments).peers next

      may : MayGo n.peer.pair (parcel.Bytes e size count)
      may = what_goes n.peer.pair (parcel.Bytes e size count) parcel_next

      found : Contains n.peer.pair.entries e
      found = found_in (λ (y : Entry). Contains n.peer.pair.entries y) (may_send_on n.peer.pair.busy (link_of e.link)) n.peer.pair.entries e (senders.next_is n.peer.pair e size count parcel_next) (each_of n.peer.pair.entries)

      among : Contains (pair_with m.flow.destination (program m.flow.source moments).peers).entries e
      among = subst (λ (q : PairState). Contains q.entries e) (sym same) found

      text : drop 40 m.text ≡ take (size * count) e.bits
      text =
          let four : length (header_bits (record { size = size; count = count })) ≡ 40 = refl in
          ap (λ (x : HostMessage). drop 40 x.text) is ∙ ap (λ (k : ℕ). drop k (header_bits (record { size = size; count = count }) ++ take (size * count) e.bits)) (sym four) ∙ drop-append_seam (header_bits (record { size = size; count = count })) (take (size * count) e.bits)

      link : link_of e.link ≡ m.flow.link.0
      link = sym (ap (λ (x : HostMessage). x.flow.link.0) is)

      tells : AreOurs hosts m.flow.source m.flow.destination
          → TellsOf false m.flow.source m.flow.destination m (crossings_of moments) (record { host = m.flow.source; place = 1 + length (crossings_of moments); notice = notice.Sent e.own (take (size * count) e.bits) })
      tells ours = record {
        socket = e.own;
        bits = take (size * count) e.bits;
        told = refl;
        holds = text;
        way = may.1.sends;
        off_control = off;
        linked = linked m.flow.source m.flow.destination (crossings_of moments) e m.flow.link.0 ground may.1.is_opened (some_link e.link may.1.linked ∙ ap (λ (l : ℕ). Some l) link);
      } where
        ground : Grounded m.flow.source m.flow.destination (crossings_of moments) e
        ground = each_in (Grounded m.flow.source m.flow.destination (crossings_of moments)) (pair_with m.flow.destination (program m.flow.source moments).peers).entries e among (grounds hosts addresses moments run time m.flow.source m.flow.destination ours)

        agrees : Agrees (pair_with m.flow.destination (program m.flow.source moments).peers) (pair m.flow.source m.flow.destination (events_of moments))
        agrees = story_agrees hosts moments m.flow.source m.flow.destination ours (coupled hosts addresses moments run time).story

        off : (m.flow.link.0 == 0) ≡ false
        off = subst (λ (l : ℕ). (l == 0) ≡ false) link
            (data_away n.peer.pair e size count (subst (λ (q : PairState). Agrees q (pair m.flow.source m.flow.destination (events_of moments))) same agrees).linked may.1.linked parcel_next)

      sent_told : AreSo hosts (Crossed (crossing.Out m) ∷ moments)
      sent_told = data_crossing hosts moments so (crossing.Out m) (notice.Sent e.own (take (size * count) e.bits)) plain (bytes_told (program m.flow.source moments) (places moments) n.peer e size count next) refl (λ none. tells (or_parts (hosts.strange m.flow.source) (hosts.strange m.flow.destination) none))

    -- data that come in
    taken_told : (m : HostMessage) → hosts.strange m.flow.destination ≡ false → (m.flow.link.0 == 0) ≡ false
        → TakesIf m.flow.link.0 m.text (pair_with m.flow.source (program m.flow.destination moments).peers).entries (notices_by (Crossed (crossing.In m)) moments)
        → AreSo hosts (Crossed (crossing.In m) ∷ moments)
    taken_told m plain off (inl none) =
        quiet_crossing hosts moments so (crossing.In m) (inr tt)
        (own_data hosts moments (Crossed (crossing.In m)) plain ∙ ap (λ (ns : List Notice). data_told (all_told m.flow.destination ns (crossed (crossing.In m) (mixed_kept hosts.strange moments))).book.notices) none)
    taken_told m plain off (inr t) = data_crossing hosts moments so (crossing.In m) (notice.Arrived t.end.own (data_of (data_bits t.header) m.text)) plain t.is refl (λ none. tells (or_parts (hosts.strange m.flow.source) (hosts.strange m.flow.destination) none)) where
      among : Contains (pair_with m.flow.source (program m.flow.destination moments).peers).entries t.end
      among = found_in (λ (y : Entry). Contains (pair_with m.flow.source (program m.flow.destination moments).peers).entries y) (receives_on m.flow.link.0) (pair_with m.flow.source (program m.flow.destination moments).peers).entries t.end t.found
          (each_of (pair_with m.flow.source (program m.flow.destination moments).peers).entries)

      on : (is_receiving t.end ≡ true) × (is_link m.flow.link.0 t.end.link ≡ true)
      on = both (is_receiving t.end) (is_link m.flow.link.0 t.end.link) (find_passes (receives_on m.flow.link.0) t.end (pair_with m.flow.source (program m.flow.destination moments).peers).entries t.found)

      tells : AreOurs hosts m.flow.source m.flow.destination
          → TellsOf true m.flow.destination m.flow.source m (crossings_of moments) (record { host = m.flow.destination; place = 1 + length (crossings_of moments); notice = notice.Arrived t.end.own (data_of (data_bits t.header) m.text) })
      tells ours = record {
        socket = t.end.own;
        bits = data_of (data_bits t.header) m.text;
        told = refl;
        holds = ap (data_by m.text) t.read;
        way = on.0;
        off_control = off;
        linked = linked m.flow.destination m.flow.source (crossings_of moments) t.end m.flow.link.0
            (each_in (Grounded m.flow.destination m.flow.source (crossings_of moments)) (pair_with m.flow.source (program m.flow.destination moments).peers).entries t.end among (grounds hosts addresses moments run time m.flow.destination m.flow.source (ours.1, ours.0)))
            t.opened (link_is m.flow.link.0 t.end.link on.1);
      }

    out_told : (m : HostMessage) → hosts.strange m.flow.source ≡ false → IsNext (program m.flow.source moments) m
        → AreSo hosts (Crossed (crossing.Out m) ∷ moments)
    out_told m plain n = by n.parcel n.next n.message where
      quiet : (z : Parcel) → IsNoData z → parcel.link_for z ≡ 0
          → next_in (program m.flow.source moments).peers ≡ Some (n.peer, z)
          → m ≡ message_for (program m.flow.source moments).own n.peer z
          → AreSo hosts (Crossed (crossing.Out m) ∷ moments)
      quiet z no_data zero next is =
          quiet_crossing hosts moments so (crossing.Out m) (inr (eq-eqb m.flow.link.0 0 (ap (λ (x : HostMessage). x.flow.link.0) is ∙ zero)))
          (quiet_data hosts moments (Crossed (crossing.Out m)) m.flow.destination (crossing.Out m ∷ crossings_of moments) plain (offer_told hosts addresses moments run time m plain n z no_data next is))

      by : (z : Parcel) → next_in (program m.flow.source moments).peers ≡ Some (n.peer, z)
          → m ≡ message_for (program m.flow.source moments).own n.peer z
          → AreSo hosts (Crossed (crossing.Out m) ∷ moments)
      by parcel.Reset next is = quiet parcel.Reset tt refl next is
      by parcel.Reply next is = quiet parcel.Reply tt refl next is
      by (parcel.Commands count) next is = quiet (parcel.Commands count) tt refl next is
      by (parcel.Bytes e size count) next is = sent_told m plain n e size count next is

    in_told : (m : HostMessage) → hosts.strange m.flow.destination ≡ false
        → AreSo hosts (Crossed (crossing.In m) ∷ moments)
    in_told m plain = by (m.flow.link.0 == 0) refl where
      by : (z : Bool) → (m.flow.link.0 == 0) ≡ z → AreSo hosts (Crossed (crossing.In m) ∷ moments)
      by true here = quiet_crossing hosts moments so (crossing.In m) (inr tt) (quiet_data hosts moments (Crossed (crossing.In m)) m.flow.source (crossing.In m ∷ crossings_of moments) plain (control_told hosts addresses moments run time m plain here))
      by false off = taken_told m plain off (message_takes (program m.flow.destination moments) m (places moments) off)

    asked_so : (y : Moment) → crossings_of (y ∷ moments) ≡ crossings_of moments
        → data_told (mixed_kept hosts.strange (y ∷ moments)).book.notices ≡ data_told (mixed_kept hosts.strange moments).book.notices
        → AreSo hosts (y ∷ moments)
    asked_so y log same = record {
      told = subst (λ (l : List Crossing). AreToldAmong hosts.strange l (told_among hosts.strange l (data_told (mixed_kept hosts.strange (y ∷ moments)).book.notices))) (sym log) (subst (λ (ts : List Told). AreToldAmong hosts.strange (crossings_of moments) (told_among hosts.strange (crossings_of moments) ts)) (sym same) so.told);
      old = subst (λ (l : List Crossing). Each (IsOld l) (data_told (mixed_kept hosts.strange (y ∷ moments)).book.notices)) (sym log) (subst (λ (ts : List Told). Each (IsOld (crossings_of moments)) ts) (sym same) so.old);
    }

    own_told : (y : Moment) → hosts.strange (host_in y) ≡ false → IsStory hosts (y ∷ moments)
        → AreSo hosts (y ∷ moments)
    own_told (Crossed (crossing.Out m)) plain story = out_told m plain (story.0 plain)
    own_told (Crossed (crossing.In m)) plain story = in_told m plain
    own_told (Crossed (crossing.Answer kind f)) plain story = quiet_crossing hosts moments so (crossing.Answer kind f) (inr tt) (quiet_data hosts moments (Crossed (crossing.Answer kind f)) f.destination (crossing.Answer kind f ∷ crossings_of moments) plain (answer_told hosts addresses moments run time kind f plain))
    own_told (Crossed (crossing.Down g)) plain story = quiet_crossing hosts moments so (crossing.Down g) (inr tt) (quiet_data hosts moments (Crossed (crossing.Down g)) g (crossings_of moments) plain tt)
    own_told (Crossed (crossing.Up g)) plain story = quiet_crossing hosts moments so (crossing.Up g) (inr tt) (quiet_data hosts moments (Crossed (crossing.Up g)) g (crossings_of moments) plain tt)
    own_told (Asked h r) plain story = asked_so (Asked h r) refl (quiet_data hosts moments (Asked h r) h (crossings_of moments) plain (asking_told hosts moments h r))

    -- of what a stranger does nobody is notified
    stranger_in : (c : Crossing) → hosts.strange (host_in (Crossed c)) ≡ true → is_of_stranger hosts.strange c ≡ true
    stranger_in (crossing.Out m) on = ap (λ (v : Bool). v || hosts.strange m.flow.destination) on
    stranger_in (crossing.In m) on = or_right (hosts.strange m.flow.source) (hosts.strange m.flow.destination) on
    stranger_in (crossing.Answer kind f) on = ap (λ (v : Bool). v || hosts.strange f.destination) on
    stranger_in (crossing.Down g) on = on
    stranger_in (crossing.Up g) on = on

    strange_told : (y : Moment) → hosts.strange (host_in y) ≡ true → AreSo hosts (y ∷ moments)
    strange_told (Crossed c) on = quiet_crossing hosts moments so c (inl (stranger_in c on)) (strange_data hosts moments (Crossed c) on)
    strange_told (Asked h r) on = asked_so (Asked h r) refl (strange_data hosts moments (Asked h r) on)

    next_told : (y : Moment) → IsStory hosts (y ∷ moments) → AreSo hosts (y ∷ moments)
    next_told y story = by (hosts.strange (host_in y)) refl where
      by : (v : Bool) → hosts.strange (host_in y) ≡ v → AreSo hosts (y ∷ moments)
      by true on = strange_told y on
      by false plain = own_told y plain story

  all_so : (moments : List Moment) → mail.IsRun hosts.all (crossings_of moments) → Happened hosts moments
      → AreSo hosts moments
  all_so [] run time = record { told = tt; old = tt }
  all_so (y ∷ moments) run time =
      let before : mail.IsRun hosts.all (crossings_of moments) = mail_below hosts.all y moments run in
      next_told moments before time.1 (all_so moments before time.1) y (coupled hosts addresses (y ∷ moments) run time).story

  pub told : (moments : List Moment) → mail.IsRun hosts.all (crossings_of moments) → Happened hosts moments
      → ToldAmong hosts.strange (crossings_of moments) (mixed_kept hosts.strange moments).book.notices
  told moments run time = (all_so moments run time).told

-- ---- where all hosts run the program

nobody_strange : (c : Crossing) → is_of_stranger (λ h. false) c ≡ false
nobody_strange (crossing.Out m) = refl
nobody_strange (crossing.In m) = refl
nobody_strange (crossing.Answer kind f) = refl
nobody_strange (crossing.Down g) = refl
nobody_strange (crossing.Up g) = refl

all_among : (log : List Crossing) (ts : List Told) → told_among (λ h. false) log ts ≡ ts
all_among log [] = refl
all_among log (t ∷ ts) =
    ap (λ (v : Bool). if not v then t ∷ told_among (λ h. false) log ts else told_among (λ h. false) log ts) (plain (crossed_at t.place log))
    ∙ ap (λ (us : List Told). t ∷ us) (all_among log ts) where
      plain : (o : Option Crossing) → has_stranger (λ h. false) t.host o ≡ false
      plain None = refl
      plain (Some c) =
          ap (λ (v : Bool). same_host t.host (host_in (Crossed c)) && v) (nobody_strange c)
          ∙ and-false (same_host t.host (host_in (Crossed c)))

plainly : (c : Crossing) → MayBeUntoldAmong (λ h. false) c → MayBeUntold c
plainly c (inl on) = absurd (let both : false ≡ true = sym (nobody_strange c) ∙ on in cc)
plainly c (inr may) = may

all_told_plainly : (log : List Crossing) (ts : List Told) → AreToldAmong (λ h. false) log ts → AreTold log ts
all_told_plainly [] [] a = tt
all_told_plainly [] (t ∷ ts) a = absurd a
all_told_plainly (c ∷ log) [] a = (plainly c a.0, all_told_plainly log [] a.1)
all_told_plainly (c ∷ log) (t ∷ ts) (inl a) = inl (plainly c a.0, all_told_plainly log (t ∷ ts) a.1)
all_told_plainly (c ∷ log) (t ∷ ts) (inr a) = inr (a.0, all_told_plainly log ts a.1)

-- then all notices of data are formed
pub formed_notices : (log : List Crossing) (ts : List Told) → ToldAmong (λ h. false) log ts → FormedNotices log ts
formed_notices log ts a = all_told_plainly log (data_told ts) (subst (λ (us : List Told). AreToldAmong (λ h. false) log us) (all_among log (data_told ts)) a)
