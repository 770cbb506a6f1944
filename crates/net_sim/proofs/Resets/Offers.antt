-- What goes out is, for each peer, a step that the law of resets allows.
use Rattle.net_sim.proofs.Common.{◌≡◌, ◌⊎◌, inl, inr, ℕ, Bool, not, ◌&&◌, ◌||◌, ◌==◌, ◌*◌, if◌then◌else◌, List, [], ◌∷◌, take, drop, find, filter, length, nat_lt, Option, Some, None, refl, ap, sym, subst, ◌∙◌, eq-eqb, zero, suc, eqb-true, Host, same_host, same_host-refl, Command, packed_count, Order, Legal, Wrong, changed_first, is_at, is_busy, is_open, is_receiving, PairState, DeskState, desk_of, NcpState, pair_with, AreInOrder, Parcel, next_of, pair_after, parcel_gone, next_in, message_for, Entry, Listener, Peer, at_link, Message, Reset, Reply, Other, part_of, Pair, Kind, pair_moved, is_rst, is_rrp, is_alone, message_on, has_asked, event_of, IsApart, ArePlain, AllPlain, Agrees, has_control, on_control, list_any}
use Rattle.std.proofs.lemmas.Bool.{or_right}
use Rattle.std.proofs.Common.{◌≢◌, true, false, is_some}
use Rattle.bit_messages.specs.Octets.{octets_of}
use Rattle.ncp_control.specs.declared.command.Command.TheVariants as command
use Rattle.ncp_control.specs.Reading.{read_of, command_of}
use Rattle.interface.specs.declared.crossing.Crossing.TheVariants as crossing
use Rattle.host_pairs.specs.Control.{orders_of}
use Rattle.host_pairs.specs.Entries.{is_answered, is_ending}
use Rattle.host_pairs.specs.Allowed.{MaySend, MayGo, MayReset, MayReply, MaySpeak, MayCommand}
use Rattle.ncp_control.specs.Phases as program
use Rattle.host_pairs.specs.Parcels as parcel
use Rattle.host_pairs.specs.Parcels.{next_of_ready, next_bytes, bytes_on, bytes_of, bytes_by, lowest_link, may_send, may_send_on, link_of, link_for, text_for, if_silent, commands_gone, command_gone, request_gone, asked_at, cls_sent, bits_gone}
use Rattle.sockets.specs.Sending.{offered}
use Rattle.ncp_control.specs.declared.phase.Phase as host
use Rattle.ncp_control.specs.declared.phase.Phase.TheVariants as phase
use Rattle.sockets.proofs.lemmas.{next_is, next_pair}
use Rattle.host_pairs.proofs.lemmas.{all_gone_queue, both, what_goes}
use Rattle.reset_law.specs.Events.{Send}
use Rattle.reset_law.specs.Pairs.{IsFreePair, pair_sent}
use Rattle.reset_law.specs.Pairs as resets
use Rattle.net_sim.proofs.Resets.Kept.{any_changed, over_less, plain_drop, strays}
use Rattle.net_sim.proofs.Resets.Spelled.{packed_plain}
use Rattle.net_sim.proofs.Resets.Turns.{linked_by}
use Rattle.net_sim.proofs.Resets.Calls.{part_by}

-- ---- what is outstanding

none_is : {A : Type 0} (o : Option A) → is_some o ≡ false → o ≡ None
none_is None e = refl
none_is (Some x) e = absurd (cc)

free_of : (q : PairState) (p : Pair) → Agrees q p → (k : ℕ) → is_busy q.busy k ≡ false → p.out k ≡ None
free_of q p a k idle = none_is (p.out k) (a.busy k ∙ idle)

all_free : (q : PairState) (p : Pair) → Agrees q p → q.busy ≡ [] → IsFreePair p.out
all_free q p a none k = free_of q p a k (ap (λ (busy : List ℕ). is_busy busy k) none)

busy_by : (b c : Bool) (x : Kind) (o : Option Kind) → b ≡ c → is_some (if b then Some x else o) ≡ (c || is_some o)
busy_by true true x o e = refl
busy_by false false x o e = refl
busy_by true false x o e = absurd (cc)
busy_by false true x o e = absurd (cc)

same_number : (k l : ℕ) (b c : Bool) → (k == l) ≡ b → (l == k) ≡ c → b ≡ c
same_number k l true true e f = refl
same_number k l false false e f = refl
same_number k l true false e f = absurd (let r : true ≡ false = sym (eq-eqb l k (sym (eqb-true k l e))) ∙ f in cc)
same_number k l false true e f = absurd (let r : true ≡ false = sym (eq-eqb k l (sym (eqb-true l k f))) ∙ e in cc)

busier : (q : PairState) (p : Pair) → Agrees q p → (l : ℕ) (x : Kind) (k : ℕ) → is_some (at_link p.out l (Some x) k) ≡ is_busy (l ∷ q.busy) k
busier q p a l x k = busy_by (k == l) (l == k) x (p.out k) (same_number k l (k == l) (l == k) refl refl) ∙ ap (λ (b : Bool). (l == k) || b) (a.busy k)

-- ---- what it says

says_reset : (q : PairState) → message_on 0 (text_for q parcel.Reset) ≡ Reset
unfolding orders_of octets_of read_of command_of
says_reset q = refl

pub says_reply : (q : PairState) → message_on 0 (text_for q parcel.Reply) ≡ Reply
unfolding orders_of octets_of read_of command_of
says_reply q = refl

pub plain_take : (n : ℕ) (cs : List Command) → ArePlain cs → ArePlain (take n cs)
plain_take zero cs h = tt
plain_take (suc n) [] h = tt
plain_take (suc n) (c ∷ cs) h = (h.0, plain_take n cs h.1)

not_rst : (os : List Order) → AllPlain os → is_alone is_rst os ≡ false
not_rst [] h = refl
not_rst (Legal c ∷ []) h = h.0.0
not_rst (Legal c ∷ o ∷ os) h = refl
not_rst (Wrong code octets ∷ os) h = refl

not_rrp : (os : List Order) → AllPlain os → is_alone is_rrp os ≡ false
not_rrp [] h = refl
not_rrp (Legal c ∷ []) h = h.0.1
not_rrp (Legal c ∷ o ∷ os) h = refl
not_rrp (Wrong code octets ∷ os) h = refl

commands_plain : (q : PairState) (count : ℕ) → ArePlain q.queue → count ≡ packed_count q.queue → AllPlain (orders_of (text_for q (parcel.Commands count)))
commands_plain q count h front =
    subst (λ (n : ℕ). AllPlain (orders_of (text_for q (parcel.Commands n)))) (sym front) (packed_plain q.queue (plain_take (packed_count q.queue) q.queue h))

commands_say : (q : PairState) (count : ℕ) → ArePlain q.queue → count ≡ packed_count q.queue → message_on 0 (text_for q (parcel.Commands count)) ≡ Other (text_for q (parcel.Commands count))
commands_say q count h front =
    let plain : AllPlain (orders_of (text_for q (parcel.Commands count))) = commands_plain q count h front in
    let rst : is_alone is_rst (orders_of (text_for q (parcel.Commands count))) ≡ false = not_rst (orders_of (text_for q (parcel.Commands count))) plain in
    let rrp : is_alone is_rrp (orders_of (text_for q (parcel.Commands count))) ≡ false = not_rrp (orders_of (text_for q (parcel.Commands count))) plain in
    rw (rst, rrp) refl

bytes_say : (q : PairState) (e : Entry) (size count : ℕ) → (link_of e.link == 0) ≡ false
    → message_on (link_of e.link) (text_for q (parcel.Bytes e size count)) ≡ Other (text_for q (parcel.Bytes e size count))
bytes_say q e size count away = rw away refl

-- ---- data go from an end whose request went out

found_step : (test : Entry → Bool) → ((x : Entry) → test x ≡ true → is_some x.asked ≡ true) → (x e : Entry) (xs : List Entry) → (find test xs ≡ Some e → has_asked xs ≡ true)
    → (b : Bool) → test x ≡ b → find test (x ∷ xs) ≡ Some e → has_asked (x ∷ xs) ≡ true
found_step test k x e xs rest true t f = let a : is_some x.asked ≡ true = k x t in rw a refl
found_step test k x e xs rest false t f = let g : find test xs ≡ Some e = rw t at f in or_right (is_some x.asked) (has_asked xs) (rest g)

found_asked : (test : Entry → Bool) → ((x : Entry) → test x ≡ true → is_some x.asked ≡ true) → (xs : List Entry) (e : Entry) → find test xs ≡ Some e → has_asked xs ≡ true
found_asked test k [] e f = absurd (cc)
found_asked test k (x ∷ xs) e f = found_step test k x e xs (found_asked test k xs e) (test x) refl f

-- an end that may send has asked
may_asked : (busy : List ℕ) (link : ℕ) (e : Entry) → may_send_on busy link e ≡ true → is_some e.asked ≡ true
may_asked busy link e h =
    let a : (may_send busy e ≡ true) × ((link_of e.link == link) ≡ true) = both _ _ h in
    let b : ((not (is_receiving e) && is_open e && is_some e.link && is_answered busy e.link) ≡ true) × (nat_lt 0 (parcel.sendable e) ≡ true) = both _ _ a.0 in
    let c : ((not (is_receiving e) && is_open e && is_some e.link) ≡ true) × (is_answered busy e.link ≡ true) = both _ _ b.0 in
    let d : ((not (is_receiving e) && is_open e) ≡ true) × (is_some e.link ≡ true) = both _ _ c.0 in
    let o : (not (is_receiving e) ≡ true) × (is_open e ≡ true) = both _ _ d.0 in
    let p : ((is_some e.asked && is_some e.partner) ≡ true) × (not (is_ending e) ≡ true) = both _ _ o.1 in
    (both _ _ p.0).0

silent_signal : (busy : List ℕ) (x y : Parcel) (b : Bool) → (length busy == 0) ≡ b → if_silent busy x ≡ Some y → x ≡ y
silent_signal busy x y true e g = let r : Some x ≡ Some y = rw e at g in cc
silent_signal busy x y false e g = absurd (let r : None ≡ Some y = rw e at g in cc)

-- the end whose bytes go next
abbrev entry_or : Entry → Option Parcel → Entry
entry_or d (Some (parcel.Bytes e size count)) = e
entry_or d x = d

bytes_is : (e f : Entry) (size count : ℕ) (o : Option ℕ) → bytes_by f o ≡ Some (parcel.Bytes e size count) → f ≡ e
bytes_is e f size count None g = absurd (cc)
bytes_is e f size count (Some n) g = ap (entry_or f) g

module _ (P : Type 0) (e : Entry) (size count : ℕ) where
  abbrev x : Parcel
  x = parcel.Bytes e size count

  on_found : (busy : List ℕ) (entries : List Entry) → ((link : ℕ) → find (may_send_on busy link) entries ≡ Some e → P) → (link : ℕ) (o : Option Entry) → find (may_send_on busy link) entries ≡ o → bytes_of o ≡ Some x → P
  on_found busy entries k link None f g = absurd (cc)
  on_found busy entries k link (Some y) f g = k link (f ∙ ap (λ (z : Entry). Some z) (bytes_is e y size count y.size g))

  bytes_found : (busy : List ℕ) (entries : List Entry) → ((link : ℕ) → find (may_send_on busy link) entries ≡ Some e → P) → (o : Option ℕ) → bytes_on busy entries o ≡ Some x → P
  bytes_found busy entries k None g = absurd (cc)
  bytes_found busy entries k (Some link) g = on_found busy entries k link (find (may_send_on busy link) entries) refl g

  ready_found : (q : PairState) → ((link : ℕ) → find (may_send_on q.busy link) q.entries ≡ Some e → P) → (b : Bool) → (nat_lt 0 (length q.queue) && not (is_busy q.busy 0)) ≡ b → next_of_ready q ≡ Some x → P
  ready_found q k true t g = absurd (let r : Some (parcel.Commands (packed_count q.queue)) ≡ Some x = rw t at g in cc)
  ready_found q k false t g =
      let r : next_bytes q.busy q.entries ≡ Some x = rw t at g in bytes_found q.busy q.entries k (lowest_link (filter (may_send q.busy) q.entries)) r

  data_found : (q : PairState) → ((link : ℕ) → find (may_send_on q.busy link) q.entries ≡ Some e → P) → (want owed ready : Bool) → program.is_want q.phase ≡ want → q.owed ≡ owed
      → program.is_ready q.phase ≡ ready → next_of q ≡ Some x → P
  data_found q k true owed ready w o r g =
      absurd (let s : if_silent q.busy parcel.Reset ≡ Some x = rw w at g in
      let t : parcel.Reset ≡ x = silent_signal q.busy parcel.Reset x (length q.busy == 0) refl s in cc)
  data_found q k false true ready w o r g =
      absurd (let s : if_silent q.busy parcel.Reply ≡ Some x = rw (w, o) at g in
      let t : parcel.Reply ≡ x = silent_signal q.busy parcel.Reply x (length q.busy == 0) refl s in cc)
  data_found q k false false true w o r g =
      let s : next_of_ready q ≡ Some x = rw (w, o, r) at g in ready_found q k (nat_lt 0 (length q.queue) && not (is_busy q.busy 0)) refl s
  data_found q k false false false w o r g = absurd (let s : None ≡ Some x = rw (w, o, r) at g in cc)

data_asked : (q : PairState) (e : Entry) (size count : ℕ) → next_of q ≡ Some (parcel.Bytes e size count) → has_asked q.entries ≡ true
data_asked q e size count n =
    data_found (has_asked q.entries ≡ true) e size count q (λ link f. found_asked (may_send_on q.busy link) (may_asked q.busy link) q.entries e f)
    (program.is_want q.phase) q.owed (program.is_ready q.phase) refl refl refl n

-- data are sent on a connection's link
later_any : (T : Entry → Bool) (x : Entry) (xs : List Entry) → list_any T xs ≡ true → list_any T (x ∷ xs) ≡ true
later_any T x xs h = or_right (T x) (list_any T xs) h

any_step : (T test : Entry → Bool) (x e : Entry) (xs : List Entry) → T e ≡ true → (find test xs ≡ Some e → list_any T xs ≡ true) → (b : Bool) → test x ≡ b → find test (x ∷ xs) ≡ Some e → list_any T (x ∷ xs) ≡ true
any_step T test x e xs has rest true t f =
    let same : e ≡ x = sym (ap (found_or e) (rw t at f)) in
    let first : T x ≡ true = subst (λ (y : Entry). T y ≡ true) same has in
    rw first refl where
      found_or : Entry → Option Entry → Entry
      found_or d None = d
      found_or d (Some y) = y
any_step T test x e xs has rest false t f = later_any T x xs (rest (rw t at f))

any_found : (T test : Entry → Bool) (xs : List Entry) (e : Entry) → T e ≡ true → find test xs ≡ Some e → list_any T xs ≡ true
any_found T test [] e has f = absurd (cc)
any_found T test (x ∷ xs) e has f = any_step T test x e xs has (λ g. any_found T test xs e has g) (test x) refl f

stray_by : (o : Option ℕ) → is_some o ≡ true → (link_of o == 0) ≡ true → on_control o ≡ true
stray_by None some none = absurd (cc)
stray_by (Some link) some none = none

away_by : (q : PairState) (e : Entry) (link : ℕ) → has_control q.entries ≡ false → is_some e.link ≡ true → find (may_send_on q.busy link) q.entries ≡ Some e → (b : Bool) → (link_of e.link == 0) ≡ b → b ≡ false
away_by q e link none some f true control =
    absurd (let there : has_control q.entries ≡ true = any_found strays (may_send_on q.busy link) q.entries e (stray_by e.link some control) f in let both : true ≡ false = sym there ∙ none in cc)
away_by q e link none some f false control = refl

pub data_away : (q : PairState) (e : Entry) (size count : ℕ) → has_control q.entries ≡ false → is_some e.link ≡ true → next_of q ≡ Some (parcel.Bytes e size count) → (link_of e.link == 0) ≡ false
data_away q e size count none some n =
    data_found ((link_of e.link == 0) ≡ false) e size count q (λ link f. away_by q e link none some f (link_of e.link == 0) refl)
    (program.is_want q.phase) q.owed (program.is_ready q.phase) refl refl refl n

-- ---- the links of connections while commands go out

request_linked : (peer : Host) (stamp own foreign : ℕ) (d : DeskState) → has_control (request_gone peer stamp own foreign d).entries ≡ true → has_control d.entries ≡ true
request_linked peer stamp own foreign d h = any_changed strays (is_at own foreign) (asked_at stamp) (λ x k. k) d.entries h

gone_linked : (peer : Host) (stamp : ℕ) (c : Command) (d : DeskState) → has_control (command_gone peer stamp c d).entries ≡ true → has_control d.entries ≡ true
gone_linked peer stamp (command.Rts receive send link) d h = request_linked peer stamp receive send d h
gone_linked peer stamp (command.Str send receive size) d h = request_linked peer stamp send receive d h
gone_linked peer stamp (command.Cls own foreign) d h =
    any_changed strays (is_at own foreign) cls_sent (λ x k. k) d.entries (over_less strays (changed_first (is_at own foreign) cls_sent d.entries) h)
gone_linked peer stamp c d h = h

all_gone_linked : (peer : Host) (stamp : ℕ) (cs : List Command) (d : DeskState) → has_control (commands_gone peer stamp cs d).entries ≡ true → has_control d.entries ≡ true
all_gone_linked peer stamp [] d h = h
all_gone_linked peer stamp (c ∷ cs) d h = gone_linked peer stamp c d (all_gone_linked peer stamp cs (command_gone peer stamp c d) h)

-- ---- what may go

abbrev pub after : Host → ℕ → List Listener → Parcel → PairState → PairState
after peer stamp listening x q = pair_after x q (parcel_gone peer stamp q.busy x (desk_of q listening))

-- a parcel may go by the law, and then the pair is where the law has it
pub record Goes (q : PairState) (p : Pair) (x : Parcel) (new : PairState) : Type 0 where
  pub may : resets.MaySend p (link_for x) (message_on (link_for x) (text_for q x))
  pub agrees : Agrees new (pair_sent (link_for x) (message_on (link_for x) (text_for q x)) p)

not_want : (ph : host.Phase) → program.is_want ph ≡ false → ph ≢ phase.Want
not_want phase.Want e = absurd (cc)
not_want ph e = λ h. absurd (cc)

reset_goes : (peer : Host) (stamp : ℕ) (listening : List Listener) (q : PairState) (p : Pair) → Agrees q p → MayReset q → Goes q p parcel.Reset (after peer stamp listening parcel.Reset q)
reset_goes peer stamp listening q p a m =
    let P : Message → Type 0 = λ x. resets.MaySend p 0 x × Agrees (after peer stamp listening parcel.Reset q) (pair_sent 0 x p) in
    let no : has_asked q.entries ≡ true → ⊥ = λ h. (let r : program.is_ready phase.Want ≡ true = ap program.is_ready (sym m.wanted) ∙ a.ready h in cc) in
    let goes : P Reset = (
      (refl, a.phase ∙ m.wanted, all_free q p a m.silent),
      record { phase = refl; owed = a.owed; busy = busier q p a 0 resets.Rst; ready = λ h. absurd (no h); begun = a.begun; plain = a.plain; linked = a.linked },
    ) in
    let said : P (message_on 0 (text_for q parcel.Reset)) = subst P (sym (says_reset q)) goes in
    record { may = said.0; agrees = said.1 }

reply_goes : (peer : Host) (stamp : ℕ) (listening : List Listener) (q : PairState) (p : Pair) → Agrees q p → MayReply q → Goes q p parcel.Reply (after peer stamp listening parcel.Reply q)
reply_goes peer stamp listening q p a m =
    let P : Message → Type 0 = λ x. resets.MaySend p 0 x × Agrees (after peer stamp listening parcel.Reply q) (pair_sent 0 x p) in
    let goes : P Reply = (
      (refl, a.owed ∙ m.owed, (λ w. not_want q.phase m.unwanted (sym a.phase ∙ w)), all_free q p a m.silent),
      record { phase = a.phase; owed = refl; busy = busier q p a 0 resets.Rrp; ready = a.ready; begun = a.begun; plain = a.plain; linked = a.linked },
    ) in
    let said : P (message_on 0 (text_for q parcel.Reply)) = subst P (sym (says_reply q)) goes in
    record { may = said.0; agrees = said.1 }

-- what is said on connections
said_goes : (q new : PairState) (p : Pair) (l : ℕ) (text : List Bool) → Agrees q p → MaySpeak q → p.out l ≡ None → (l ≡ 0) ⊎ (p.begun ≡ true)
    → new.phase ≡ q.phase → new.owed ≡ q.owed → new.busy ≡ l ∷ q.busy → ArePlain new.queue → has_control new.entries ≡ false
    → resets.MaySend p l (Other text) × Agrees new (pair_sent l (Other text) p)
said_goes q new p l text a m free begun ph ow bu plain linked = (
  (a.phase ∙ m.ready, a.owed ∙ m.owes, free, begun),
  record {
    phase = a.phase ∙ sym ph;
    owed = a.owed ∙ sym ow;
    busy = λ k. busier q p a l resets.Plain k ∙ ap (λ (busy : List ℕ). is_busy busy k) (sym bu);
    ready = λ h. ap program.is_ready (ph ∙ m.ready);
    begun = λ h. refl;
    plain = plain;
    linked = linked;
  },
)

commands_go : (peer : Host) (stamp : ℕ) (listening : List Listener) (q : PairState) (p : Pair) (count : ℕ) → Agrees q p → MaySpeak q × MayCommand q count
    → Goes q p (parcel.Commands count) (after peer stamp listening (parcel.Commands count) q)
commands_go peer stamp listening q p count a m =
    let P : Message → Type 0 = λ x. resets.MaySend p 0 x × Agrees (after peer stamp listening (parcel.Commands count) q) (pair_sent 0 x p) in
    let kept : (commands_gone peer stamp (take count q.queue) (desk_of q listening)).queue ≡ q.queue = all_gone_queue peer stamp (take count q.queue) (desk_of q listening) in
    let plain : ArePlain (drop count (commands_gone peer stamp (take count q.queue) (desk_of q listening)).queue) = subst (λ (cs : List Command). ArePlain (drop count cs)) (sym kept) (plain_drop count q.queue a.plain) in
    let goes : P (Other (text_for q (parcel.Commands count))) =
    said_goes q (after peer stamp listening (parcel.Commands count) q) p 0 (text_for q (parcel.Commands count)) a m.0 (free_of q p a 0 m.1.answered) (inl refl) refl refl refl plain
    (linked_by (has_control (commands_gone peer stamp (take count q.queue) (desk_of q listening)).entries) (has_control q.entries) (all_gone_linked peer stamp (take count q.queue) (desk_of q listening)) a.linked) in
    let said : P (message_on 0 (text_for q (parcel.Commands count))) = subst P (sym (commands_say q count a.plain m.1.front)) goes in
    record { may = said.0; agrees = said.1 }

answered_free : (busy : List ℕ) (o : Option ℕ) → is_some o ≡ true → is_answered busy o ≡ true → is_busy busy (link_of o) ≡ false
answered_free busy None some h = absurd (cc)
answered_free busy (Some link) some h = not_busy (is_busy busy link) h where
  not_busy : (b : Bool) → not b ≡ true → b ≡ false
  not_busy true h = absurd (cc)
  not_busy false h = refl

bytes_go : (peer : Host) (stamp : ℕ) (listening : List Listener) (q : PairState) (p : Pair) (e : Entry) (size count : ℕ) → Agrees q p → MaySpeak q × MaySend q e size count → has_asked q.entries ≡ true
    → (link_of e.link == 0) ≡ false → Goes q p (parcel.Bytes e size count) (after peer stamp listening (parcel.Bytes e size count) q)
bytes_go peer stamp listening q p e size count a m asked away =
    let P : Message → Type 0 = λ x. resets.MaySend p (link_of e.link) x × Agrees (after peer stamp listening (parcel.Bytes e size count) q) (pair_sent (link_of e.link) x p) in
    let goes : P (Other (text_for q (parcel.Bytes e size count))) =
    said_goes q (after peer stamp listening (parcel.Bytes e size count) q) p (link_of e.link) (text_for q (parcel.Bytes e size count)) a m.0
    (free_of q p a (link_of e.link) (answered_free q.busy e.link m.1.linked m.1.answered)) (inr (a.begun asked)) refl refl refl a.plain
    (linked_by (has_control (changed_first (may_send_on q.busy (link_of e.link)) (bits_gone (size * count)) q.entries)) (has_control q.entries) (any_changed strays (may_send_on q.busy (link_of e.link)) (bits_gone (size * count)) (λ x k. k) q.entries) a.linked) in
    let said : P (message_on (link_of e.link) (text_for q (parcel.Bytes e size count))) = subst P (sym (bytes_say q e size count away)) goes in
    record { may = said.0; agrees = said.1 }

goes_by : (peer : Host) (stamp : ℕ) (listening : List Listener) (q : PairState) (p : Pair) (x : Parcel) → Agrees q p → MayGo q x → next_of q ≡ Some x → Goes q p x (after peer stamp listening x q)
goes_by peer stamp listening q p parcel.Reset a m n = reset_goes peer stamp listening q p a m
goes_by peer stamp listening q p parcel.Reply a m n = reply_goes peer stamp listening q p a m
goes_by peer stamp listening q p (parcel.Commands count) a m n = commands_go peer stamp listening q p count a m
goes_by peer stamp listening q p (parcel.Bytes e size count) a m n =
    bytes_go peer stamp listening q p e size count a m (data_asked q e size count n) (data_away q e size count a.linked m.1.linked n)

pub goes : (peer : Host) (stamp : ℕ) (listening : List Listener) (q : PairState) (p : Pair) (x : Parcel) → Agrees q p → next_of q ≡ Some x → Goes q p x (after peer stamp listening x q)
goes peer stamp listening q p x a n = goes_by peer stamp listening q p x a (what_goes q x n) n

-- ---- the host

pub offer_may : (s : NcpState) (g : Peer) (x : Parcel) (p : Pair) → AreInOrder s.peers → next_in s.peers ≡ Some (g, x) → Agrees (pair_with g.host s.peers) p
    → resets.MaySend p (link_for x) (message_on (link_for x) (text_for g.pair x))
offer_may s g x p order n a =
    let pair : pair_with g.host s.peers ≡ g.pair = next_pair s.peers g x order n in
    (goes g.host 0 s.listening g.pair p x (subst (λ (q : PairState). Agrees q p) pair a) (next_is g x s.peers n)).may

pub offer_agrees : (s : NcpState) (stamp : ℕ) (g : Peer) (x : Parcel) (h : Host) (p : Pair) → AreInOrder s.peers → next_in s.peers ≡ Some (g, x) → Agrees (pair_with h s.peers) p
    → Agrees (pair_with h (offered s stamp).0.peers) (pair_moved (part_of s.own h (event_of (crossing.Out (message_for s.own g x)))) p)
unfolding offered
offer_agrees s stamp g x h p order n a =
    let pair : pair_with g.host s.peers ≡ g.pair = next_pair s.peers g x order n in
    let step : Agrees (pair_with g.host s.peers) p → Agrees (after g.host stamp s.listening x g.pair) (pair_sent (link_for x) (message_on (link_for x) (text_for g.pair x)) p) =
    λ b. (goes g.host stamp s.listening g.pair p x (subst (λ (q : PairState). Agrees q p) pair b) (next_is g x s.peers n)).agrees in
    rw (n, same_host-refl s.own) (part_by g.host h (after g.host stamp s.listening x g.pair) s.peers p (Send (link_for x) (message_on (link_for x) (text_for g.pair x))) a (λ to. step) (same_host h g.host) refl)

-- what goes out is an RST or an RRP by itself, or has neither
apart : (q : PairState) (p : Pair) (x : Parcel) → Agrees q p → MayGo q x → next_of q ≡ Some x → IsApart (link_for x) (text_for q x) (message_on (link_for x) (text_for q x))
apart q p parcel.Reset a m n = subst (λ (m : Message). IsApart 0 (text_for q parcel.Reset) m) (sym (says_reset q)) tt
apart q p parcel.Reply a m n = subst (λ (m : Message). IsApart 0 (text_for q parcel.Reply) m) (sym (says_reply q)) tt
apart q p (parcel.Commands count) a m n =
    subst (λ (m : Message). IsApart 0 (text_for q (parcel.Commands count)) m) (sym (commands_say q count a.plain m.1.front)) (λ zero. commands_plain q count a.plain m.1.front)
apart q p (parcel.Bytes e size count) a m n =
    let away : (link_of e.link == 0) ≡ false = data_away q e size count a.linked m.1.linked n in
    subst (λ (m : Message). IsApart (link_of e.link) (text_for q (parcel.Bytes e size count)) m) (sym (bytes_say q e size count away)) (λ zero. absurd (let r : true ≡ false = sym zero ∙ away in cc))

pub offer_apart : (s : NcpState) (g : Peer) (x : Parcel) (p : Pair) → AreInOrder s.peers → next_in s.peers ≡ Some (g, x) → Agrees (pair_with g.host s.peers) p
    → IsApart (link_for x) (text_for g.pair x) (message_on (link_for x) (text_for g.pair x))
offer_apart s g x p order n a =
    let pair : pair_with g.host s.peers ≡ g.pair = next_pair s.peers g x order n in
    apart g.pair p x (subst (λ (q : PairState). Agrees q p) pair a) (what_goes g.pair x (next_is g x s.peers n)) (next_is g x s.peers n)
