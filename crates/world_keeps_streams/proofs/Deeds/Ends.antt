-- What becomes of a host's ends by a call, beside its deed.
use Rattle.world_keeps_streams.proofs.Common.{◌≡◌, ◌⊎◌, inl, inr, ℕ, ◌*◌, ◌==◌, ◌&&◌, ◌||◌, not, Bool, true, false, nat_le, if◌then◌else◌, List, [], ◌∷◌, ◌++◌, take, map, filter, find, Option, Some, None, is_some, refl, ap, sym, subst, ◌∙◌, eq-eqb, eqb-true, list_any, Host, IsCommand, data_bits, header_of, Command, DataHeader, MayGo, receiver_requested, with_more_bits, arrived_if, data_found, data_of, data_taken, is_acceptable, spent, DeskState, desk_of, listener_on, PairState, freed, Entry, Listener, both, not_is, what_goes, found_same, has_opened, AreRefusing, and_none}
use Rattle.ncp_control.specs.Numbers.{is_receive_socket, is_connection_link}
use Rattle.host_pairs.specs.Commands.{Unconnected, Ending, Open, asked_on_link, asked_with_size, at_end, found_in, given_back, interrupted, ret_taken, desk_taken, Found, granted, returned}
use Rattle.host_pairs.specs.Entries.{called_off, changed_at, changed_first, closed_by_partner, closed_when, entry_at, free_link, is_at, is_ending, is_mine_on, is_open, is_receiving, must_close, receives_on, receiving_end, refused_end, sending_end, sends_on, is_over}
use Rattle.host_pairs.specs.Parcels.{Bytes, asked_at, bits_gone, cls_sent, command_gone, may_send_on, next_of, link_of}
use Rattle.host_keeps_streams.specs.Histories.{Hears, Takes, Says, Sends, Answered, OpensReceiver, OpensSender, Grants, AsksBack, Gives, Closes, ends_by, Call}
use Rattle.host_keeps_streams.specs.Names.{AreApart, is_among, numbers, named}
use Rattle.host_keeps_streams.proofs.lemmas.{find_passes, is_there, numbers_mapped, unlike, numbers_changed, received_is}
use Rattle.world_keeps_lives.proofs.lemmas.{clash, open_mine, open_parts, refusing_found, IsLess, IsRefusing, called_less, closed_less, found_changed, heard_less, none_changed, sent_less, not_zero}
use Rattle.ncp_control.specs.declared.command.Command.TheVariants as command
use Rattle.host_pairs.specs.Commands as commands
use Rattle.host_keeps_ranges.proofs.lemmas.{free_is_link}
use Rattle.host_keeps_streams.proofs.lemmas.Senders as senders
use Rattle.world_keeps_streams.proofs.Deeds.Effects as deeds
use Rattle.world_keeps_streams.proofs.Deeds.Effects.{Among, Becomes, Comes, Deed, HasLink, IsLinked, IsNew, OpensAs, Stays, among_filter, changed_comes, changed_stays, filtered_stays, found_among, joined_comes, mapped_stays, stays_comes, stays_same, stays_then}
use Rattle.world_keeps_streams.proofs.Deeds.Kinds.{arrives, arrives_if, closings, deed_of, hears, matches, opens, opens_by, returns, says, sweeps}

-- ---- at which ends

pub record IsAt (e : Entry) (es : List Entry) : Type 0 where
  pub there : Among e es
  pub mine : e.mine ≡ true
  pub opened : is_open e ≡ true

-- an end that wasn't open is open by its two requests
pub record Opening (e : Entry) (u v : ℕ) (es new : List Entry) : Type 0 where
  pub before : Entry
  pub there : Among before es
  pub own : e.own ≡ before.own
  pub foreign : e.foreign ≡ before.foreign
  pub was_mine : before.mine ≡ true
  pub unopened : has_opened before ≡ false
  pub mine : e.mine ≡ true
  pub asked : e.asked ≡ Some u
  pub partner : e.partner ≡ Some v
  pub now : Among e new
  pub linked : IsLinked before → HasLink e

abbrev pub Acts : Deed → List Entry → List Entry → Type 0
Acts deeds.Nothing es new = Unit {0}
Acts (deeds.Opens e u v) es new = Opening e u v es new
Acts (deeds.Ends over) es new = (e : Entry) → Among e over → is_there e.own e.foreign new ≡ false
Acts (deeds.Arrives e bits) es new = IsAt e es × (is_receiving e ≡ true)
Acts (deeds.Leaves e bits) es new = IsAt e es × (is_receiving e ≡ false)
Acts (deeds.Grants e m n) es new = IsAt e es
Acts (deeds.Returns e m n) es new = IsAt e es

abbrev pub Does : Deed → List Entry → List Entry → Type 0
Does d es new = Comes d es new × Acts d es new

-- ---- ends that are much the same

plain_become : (d : Deed) (e new : Entry) → new.own ≡ e.own → new.foreign ≡ e.foreign → new.mine ≡ e.mine → new.link ≡ e.link → new.asked ≡ e.asked → new.partner ≡ e.partner → (is_open new ≡ true → is_open e ≡ true) → Becomes d e new
plain_become d e new own foreign mine link asked partner opens = record {
  own = own;
  foreign = foreign;
  mine = mine;
  opened = λ o. ap (λ (x : Option ℕ). is_some x && is_some new.partner) asked ∙ ap (λ (x : Option ℕ). is_some e.asked && is_some x) partner ∙ o;
  link = λ o. link;
  linked = λ l m r. let h : HasLink e = l (sym mine ∙ m) (either r) in record { link = h.link; is = link ∙ h.is; other = h.other };
  opens = λ o. inl (opens o);
} where
  either : (is_receiving new ≡ true) ⊎ (is_some new.partner ≡ true) → (is_receiving e ≡ true) ⊎ (is_some e.partner ≡ true)
  either (inl q) = inl (ap is_receive_socket (sym own) ∙ q)
  either (inr q) = inr (ap is_some (sym partner) ∙ q)

less_become : (d : Deed) (e new : Entry) → IsLess e new → new.link ≡ e.link → Becomes d e new
less_become d e new l link = plain_become d e new l.mine.1 l.foreign l.mine.0 link l.asked l.partner (λ o. (l.waits o).0)

same_becomes : (d : Deed) (e new : Entry) → new.own ≡ e.own → new.foreign ≡ e.foreign → new.mine ≡ e.mine → new.link ≡ e.link → new.asked ≡ e.asked → new.partner ≡ e.partner → is_open new ≡ is_open e → Becomes d e new
same_becomes d e new own foreign mine link asked partner is = plain_become d e new own foreign mine link asked partner (λ o. sym is ∙ o)

does_same : (d : Deed) (es : List Entry) → Acts d es es → Does d es es
does_same d es a = (stays_comes d es es (stays_same es), a)

does_nothing : (es : List Entry) → Does deeds.Nothing es es
does_nothing es = does_same deeds.Nothing es tt

does_if : (v : Bool) (d e : Deed) (es : List Entry) (x y : DeskState) → Does d es x.entries → Does e es y.entries → Does (if v then d else e) es (if v then x else y).entries
does_if true d e es x y p q = p
does_if false d e es x y p q = q

pub found_cases : (o : Option Entry) (P : Found → Type 0) → P Unconnected → P Ending → ((e : Entry) → o ≡ Some e → is_open e ≡ true → P (Open e)) → P (found_in o)
found_cases None P u v w = u
found_cases (Some e) P u v w = by (is_open e) (is_ending e) refl where
  by : (x y : Bool) → is_open e ≡ x → P (if x then Open e else (if y then Ending else Unconnected))
  by true y o = w e refl o
  by false true o = v
  by false false o = u

-- ---- an end that opens

module _ (x y : ℕ) (change : Entry → Entry) (es : List Entry) (e : Entry) (found : entry_at x y es ≡ Some e) (lacks : has_opened e ≡ false) (own : (change e).own ≡ e.own) (foreign : (change e).foreign ≡ e.foreign)
    (mine : (change e).mine ≡ e.mine) (refuses : IsRefusing (change e)) (linked : IsLinked e → IsLinked (change e)) where
  passes : is_at x y (change e) ≡ true
  passes = ap (λ (n : ℕ). n == x && (change e).foreign == y) own ∙ ap (λ (n : ℕ). e.own == x && n == y) foreign ∙ (found_among (is_at x y) es e found).1

  there : entry_at x y (changed_first (is_at x y) change es) ≡ Some (change e)
  there = found_changed (is_at x y) change es e found passes

  becomes : (d : Deed) → (is_open (change e) ≡ true → OpensAs d (change e)) → Becomes d e (change e)
  becomes d kind = record {
    own = own;
    foreign = foreign;
    mine = mine;
    opened = λ o. clash _ (has_opened e) o lacks;
    link = λ o. clash _ (has_opened e) o lacks;
    linked = linked;
    opens = λ o. inr (kind o);
  }

  comes : (d : Deed) → (is_open (change e) ≡ true → OpensAs d (change e)) → Comes d es (changed_first (is_at x y) change es)
  comes d kind = changed_comes d (is_at x y) change es (λ f g among. subst (λ (z : Entry). Becomes d z (change z)) (one f g) (becomes d kind)) where
    one : (f : Entry) → find (is_at x y) es ≡ Some f → e ≡ f
    one f g = found_same e f (sym found ∙ g)

  opened_by : (u v : Option ℕ) → (change e).asked ≡ u → (change e).partner ≡ v → Does (opens_by (change e) u v) es (changed_first (is_at x y) change es)
  opened_by None v f g = (comes deeds.Nothing (λ o. clash _ (is_some (change e).asked) (open_parts (change e) o).asked (ap is_some f)), tt)
  opened_by (Some u) None f g = (comes deeds.Nothing (λ o. clash _ (is_some (change e).partner) (open_parts (change e) o).partner (ap is_some g)), tt)
  opened_by (Some u) (Some v) f g = by (is_ending (change e)) refl where
    own_end : is_ending (change e) ≡ false → (b : Bool) → (change e).mine ≡ b → b ≡ true
    own_end live true m = refl
    own_end live false m = clash (false ≡ true) (is_ending (change e)) (let c : is_ending (change e) ≡ true = rw (refuses m) refl in c) live

    by : (b : Bool) → is_ending (change e) ≡ b → Does (if b then deeds.Nothing else deeds.Opens (change e) u v) es (changed_first (is_at x y) change es)
    by true t = (comes deeds.Nothing (λ o. clash _ (is_ending (change e)) t (not_is (is_ending (change e)) (both (has_opened (change e)) (not (is_ending (change e))) o).1)), tt)
    by false t = (
      comes (deeds.Opens (change e) u v) (λ o. refl),
      record {
        before = e;
        there = (found_among (is_at x y) es e found).0;
        own = own;
        foreign = foreign;
        was_mine = sym mine ∙ own_end t (change e).mine refl;
        unopened = lacks;
        mine = own_end t (change e).mine refl;
        asked = f;
        partner = g;
        now = (found_among (is_at x y) (changed_first (is_at x y) change es) (change e) there).0;
        linked = λ l. linked l (own_end t (change e).mine refl) (inr (ap is_some g));
      },
    )

  does_opens : Does (opens (entry_at x y (changed_at x y change es))) es (changed_first (is_at x y) change es)
  does_opens = subst (λ (o : Option Entry). Does (opens o) es (changed_first (is_at x y) change es)) (sym there) (opened_by (change e).asked (change e).partner refl refl)

-- ---- ends that go

pub among_number : (name : ℕ → ℕ → ℕ) (es : List Entry) (e : Entry) → Among e es → is_among (named name e) (numbers name es) ≡ true
among_number name [] e h = absurd h
among_number name (x ∷ xs) e (inl s) = let t : (named name x == named name e) ≡ true = eq-eqb (named name x) (named name e) (ap (λ (y : Entry). named name y) s) in rw t refl
among_number name (x ∷ xs) e (inr s) = by (named name x == named name e) (among_number name xs e s) where
  by : (v : Bool) → is_among (named name e) (numbers name xs) ≡ true → (v || is_among (named name e) (numbers name xs)) ≡ true
  by true t = refl
  by false t = t

apart_one : (name : ℕ → ℕ → ℕ) (es : List Entry) (e f : Entry) → AreApart (numbers name es) → Among e es → Among f es → named name e ≡ named name f → e ≡ f
apart_one name [] e f a h k s = absurd h
apart_one name (x ∷ xs) e f a (inl h) (inl k) s = sym h ∙ k
apart_one name (x ∷ xs) e f a (inl h) (inr k) s =
    absurd (unlike (is_among (named name x) (numbers name xs)) (subst (λ (n : ℕ). is_among n (numbers name xs) ≡ true) (sym (ap (λ (y : Entry). named name y) h ∙ s)) (among_number name xs f k)) a.0)
apart_one name (x ∷ xs) e f a (inr h) (inl k) s =
    absurd (unlike (is_among (named name x) (numbers name xs)) (subst (λ (n : ℕ). is_among n (numbers name xs) ≡ true) (s ∙ sym (ap (λ (y : Entry). named name y) k)) (among_number name xs e h)) a.0)
apart_one name (x ∷ xs) e f a (inr h) (inr k) s = apart_one name xs e f a.1 h k s

swept_gone : (name : ℕ → ℕ → ℕ) (es : List Entry) → AreApart (numbers name es) → (e : Entry) → Among e (filter is_over es) → is_there e.own e.foreign (filter (λ x. not (is_over x)) es) ≡ false
swept_gone name es a e h = by (entry_at e.own e.foreign (filter (λ x. not (is_over x)) es)) refl where
  by : (o : Option Entry) → entry_at e.own e.foreign (filter (λ x. not (is_over x)) es) ≡ o → is_some o ≡ false
  by None f = refl
  by (Some z) f =
      let g : Among z (filter (λ x. not (is_over x)) es) × (is_at e.own e.foreign z ≡ true) = found_among (is_at e.own e.foreign) (filter (λ x. not (is_over x)) es) z f in
      let k : Among z es × (not (is_over z) ≡ true) = among_filter (λ x. not (is_over x)) es z g.0 in
      let l : Among e es × (is_over e ≡ true) = among_filter is_over es e h in
      let m : ((z.own == e.own) ≡ true) × ((z.foreign == e.foreign) ≡ true) = both (z.own == e.own) (z.foreign == e.foreign) g.1 in
      let same : named name e ≡ named name z = ap (λ (n : ℕ). name n e.foreign) (sym (eqb-true z.own e.own m.0)) ∙ ap (λ (n : ℕ). name z.own n) (sym (eqb-true z.foreign e.foreign m.1)) in
      let one : e ≡ z = apart_one name es e z a l.0 k.0 same in
      clash (true ≡ false) (is_over z) (subst (λ (w : Entry). is_over w ≡ true) one l.1) (not_is (is_over z) k.1)

does_sweeps : (name : ℕ → ℕ → ℕ) (es fs : List Entry) → Stays es fs → AreApart (numbers name fs) → Does (sweeps fs) es (filter (λ x. not (is_over x)) fs)
does_sweeps name es fs s a = (
  stays_comes (sweeps fs) es (filter (λ x. not (is_over x)) fs) (stays_then es fs (filter (λ x. not (is_over x)) fs) s (filtered_stays (λ x. not (is_over x)) fs)),
  swept_gone name fs a,
)

-- ---- commands of the peer

abbrev pub Unasked : Command → List Entry → Type 0
Unasked (command.Rts receive send link) es = (e : Entry) → entry_at receive send es ≡ Some e → e.asked ≡ None
Unasked (command.Str send receive size) es = (e : Entry) → entry_at send receive es ≡ Some e → e.asked ≡ None
Unasked c es = Unit {0}

-- what a call needs: a request goes out once, and what a user isn't refused
abbrev pub Fits : Call → PairState → Type 0
Fits (Hears stamp said c) q = IsCommand c
Fits (Says stamp c) q = Unasked c q.entries
Fits (Sends stamp e size count) q = next_of q ≡ Some (Bytes e size count)
Fits (OpensSender own foreign size) q = is_receive_socket own ≡ false
Fits (Grants socket m n e) q = (find (is_mine_on socket) q.entries ≡ Some e) × (is_open e ≡ true)
Fits c q = Unit {0}

module _ (name : ℕ → ℕ → ℕ) (p : Host) (q : PairState) (listening : List Listener) (refusing : AreRefusing q.entries) (apart : AreApart (numbers name q.entries)) where
  join_refused : (x y stamp : ℕ) → Does deeds.Nothing q.entries (q.entries ++ refused_end x y stamp ∷ [])
  join_refused x y stamp = (joined_comes deeds.Nothing (refused_end x y stamp) q.entries (record { unasked = refl; linked = λ m r. absurd (let t : false ≡ true = m in cc) }), tt)

  join_new : (e : Entry) → IsNew e → Does deeds.Nothing q.entries (q.entries ++ e ∷ [])
  join_new e n = (joined_comes deeds.Nothing e q.entries n, tt)

  lacks_partner : (e : Entry) → is_some e.partner ≡ false → has_opened e ≡ false
  lacks_partner e f = ap (λ (b : Bool). is_some e.asked && b) f ∙ and_none (is_some e.asked)

  matched_does : (x y : ℕ) (c : Command) (e : Entry) (change : Entry → Entry) → entry_at x y q.entries ≡ Some e → (change e).own ≡ e.own → (change e).foreign ≡ e.foreign → (change e).mine ≡ e.mine → IsRefusing (change e) → (IsLinked e → IsLinked (change e))
      → Does (matches x y change q.entries (Some e)) q.entries (commands.matched_once p x y c e change (desk_of q listening)).entries
  matched_does x y c e change found own foreign mine refuses linked = by (is_some e.partner) refl where
    by : (v : Bool) → is_some e.partner ≡ v → Does (if v then deeds.Nothing else opens (entry_at x y (changed_at x y change q.entries))) q.entries (if v then commands.faulted 3 c (desk_of q listening) else commands.matched p x y change (desk_of q listening)).entries
    by true f = does_nothing q.entries
    by false f = does_opens x y change q.entries e found (lacks_partner e f) own foreign mine refuses linked

  rts_does : (x y link stamp : ℕ) → is_connection_link link ≡ true → (o : Option Entry) → entry_at x y q.entries ≡ o → Does (matches x y (asked_on_link stamp link) q.entries o) q.entries (commands.rts_taken_by p x y link stamp o (desk_of q listening)).entries
  rts_does x y link stamp l (Some e) f =
      matched_does x y (command.Rts y x link) e (asked_on_link stamp link) f refl refl refl (refusing_found (is_at x y) q.entries e refusing f) (λ was m r. record { link = link; is = refl; other = not_zero link l })
  rts_does x y link stamp l None f = by (listener_on x listening) where
    by : (o : Option Listener) → Does deeds.Nothing q.entries (commands.rts_heard x y link stamp o (desk_of q listening)).entries
    by None = join_refused x y stamp
    by (Some s) = join_new (asked_on_link stamp link (sending_end x y s.size)) (record { unasked = refl; linked = λ m r. record { link = link; is = refl; other = not_zero link l } })

  str_linked_does : (x y size stamp : ℕ) (free : Option ℕ) → free_link q.entries ≡ free → Does deeds.Nothing q.entries (commands.str_linked x y size stamp free (desk_of q listening)).entries
  str_linked_does x y size stamp None f = join_refused x y stamp
  str_linked_does x y size stamp (Some link) f =
      join_new (asked_with_size stamp size (receiving_end x y link)) (record { unasked = refl; linked = λ m r. record { link = link; is = refl; other = not_zero link (free_is_link q.entries link f) } })

  str_does : (x y size stamp : ℕ) → is_receive_socket x ≡ true → (o : Option Entry) → entry_at x y q.entries ≡ o → Does (matches x y (asked_with_size stamp size) q.entries o) q.entries (commands.str_taken_by p x y size stamp o (desk_of q listening)).entries
  str_does x y size stamp even (Some e) f =
      matched_does x y (command.Str y x size) e (asked_with_size stamp size) f refl refl refl (refusing_found (is_at x y) q.entries e refusing f)
      (λ was m r. let receives : is_receiving e ≡ true = ap is_receive_socket (eqb-true e.own x (both (e.own == x) (e.foreign == y) (found_among (is_at x y) q.entries e f).1).0) ∙ even in
      let h : HasLink e = was m (inl receives) in record { link = h.link; is = h.is; other = h.other })
  str_does x y size stamp even None f = by (listener_on x listening) where
    by : (o : Option Listener) → Does deeds.Nothing q.entries (commands.str_heard x y size stamp o (desk_of q listening)).entries
    by None = join_refused x y stamp
    by (Some s) = str_linked_does x y size stamp (free_link q.entries) refl

  cls_does : (own foreign : ℕ) (o : Option Entry) → Does (closings q.busy own foreign q.entries o) q.entries (commands.cls_taken_by p q.busy own foreign o (desk_of q listening)).entries
  cls_does own foreign None = does_nothing q.entries
  cls_does own foreign (Some e) =
      does_if e.partner_closed deeds.Nothing (sweeps (map (λ x. closed_when (must_close q.busy x) x) (changed_at own foreign closed_by_partner q.entries))) q.entries _ _ (does_nothing q.entries)
      (does_sweeps name q.entries (map (λ x. closed_when (must_close q.busy x) x) (changed_at own foreign closed_by_partner q.entries))
      (stays_then q.entries (changed_at own foreign closed_by_partner q.entries) (map (λ x. closed_when (must_close q.busy x) x) (changed_at own foreign closed_by_partner q.entries))
      (changed_stays (is_at own foreign) closed_by_partner q.entries (λ x. less_become deeds.Nothing x (closed_by_partner x) (heard_less x) refl))
      (mapped_stays (λ x. closed_when (must_close q.busy x) x) (changed_at own foreign closed_by_partner q.entries) (λ x. less_become deeds.Nothing x (closed_when (must_close q.busy x) x) (closed_less (must_close q.busy x) x) refl)))
      (subst (λ (ns : List ℕ). AreApart ns)
      (sym (numbers_mapped name (λ x. closed_when (must_close q.busy x) x) (changed_at own foreign closed_by_partner q.entries) (λ x. refl) ∙ numbers_changed name (is_at own foreign) closed_by_partner q.entries (λ x. refl))) apart))

  counts_does : (test : Entry → Bool) (change : Entry → Entry) (d : Deed) → ((e : Entry) → Becomes d e (change e)) → Acts d q.entries (changed_first test change q.entries) → Does d q.entries (changed_first test change q.entries)
  counts_does test change d b a = (changed_comes d test change q.entries (λ e f g. b e), a)

  -- what is done at the open end that is found
  at_does : (c : Command) (work : Entry → DeskState → DeskState) (f : Found → Deed) (o : Option Entry) → f Unconnected ≡ deeds.Nothing → f Ending ≡ deeds.Nothing
      → ((e : Entry) → o ≡ Some e → is_open e ≡ true → Does (f (Open e)) q.entries (work e (desk_of q listening)).entries)
      → Does (f (found_in o)) q.entries (at_end c work (found_in o) (desk_of q listening)).entries
  at_does c work f o none ending does =
      found_cases o (λ w. Does (f w) q.entries (at_end c work w (desk_of q listening)).entries)
      (subst (λ (d : Deed). Does d q.entries q.entries) (sym none) (does_nothing q.entries))
      (subst (λ (d : Deed). Does d q.entries q.entries) (sym ending) (does_nothing q.entries)) does

  is_at_link : (link : ℕ) (e : Entry) → find (receives_on link) q.entries ≡ Some e → is_open e ≡ true → IsAt e q.entries
  is_at_link link e f o = record { there = (found_among (receives_on link) q.entries e f).0; mine = open_mine e (refusing_found (receives_on link) q.entries e refusing f) o; opened = o }

  hear_does : (stamp : ℕ) (c : Command) → IsCommand c → Does (hears stamp c q) q.entries (desk_taken p q.busy stamp c (desk_of q listening)).entries
  hear_does stamp (command.Rts receive send link) i =
      does_if (list_any (sends_on link) q.entries) deeds.Nothing (matches send receive (asked_on_link stamp link) q.entries (entry_at send receive q.entries)) q.entries _ _ (does_nothing q.entries)
      (rts_does send receive link stamp i.4 (entry_at send receive q.entries) refl)
  hear_does stamp (command.Str send receive size) i = str_does receive send size stamp i.3 (entry_at receive send q.entries) refl
  hear_does stamp (command.Cls foreign own) i = cls_does own foreign (entry_at own foreign q.entries)
  hear_does stamp (command.All link m n) i =
      at_does (command.All link m n) (commands.all_taken link m n) (λ w. deeds.Nothing) (find (sends_on link) q.entries) refl refl
      (λ e f o. counts_does (sends_on link) (granted m n) deeds.Nothing (λ x. same_becomes deeds.Nothing x (granted m n x) refl refl refl refl refl refl refl) tt)
  hear_does stamp (command.Gvb link m n) i =
      at_does (command.Gvb link m n) (commands.gvb_taken link m n) (λ w. deeds.Nothing) (find (sends_on link) q.entries) refl refl
      (λ e f o. counts_does (sends_on link) (given_back m n) deeds.Nothing (λ x. same_becomes deeds.Nothing x (given_back m n x) refl refl refl refl refl refl refl) tt)
  hear_does stamp (command.Ret link m n) i =
      at_does (command.Ret link m n) (ret_taken link m n) (returns m n) (find (receives_on link) q.entries) refl refl
      (λ e f o. does_if (nat_le m e.allocation.messages && nat_le n e.allocation.bits) (deeds.Returns e m n) deeds.Nothing q.entries _ _
      (counts_does (receives_on link) (returned m n) (deeds.Returns e m n) (λ x. same_becomes (deeds.Returns e m n) x (returned m n x) refl refl refl refl refl refl refl) (is_at_link link e f o)) (does_nothing q.entries))
  hear_does stamp (command.Inr link) i = at_does (command.Inr link) interrupted (λ w. deeds.Nothing) (find (sends_on link) q.entries) refl refl (λ e f o. does_nothing q.entries)
  hear_does stamp (command.Ins link) i = at_does (command.Ins link) interrupted (λ w. deeds.Nothing) (find (receives_on link) q.entries) refl refl (λ e f o. does_nothing q.entries)
  hear_does stamp c i = does_nothing q.entries

  -- ---- data

  arrived_does : (link : ℕ) (text : List Bool) (e : Entry) → find (receives_on link) q.entries ≡ Some e → is_open e ≡ true → (h : Option DataHeader)
      → Does (arrives_if e text h) q.entries (arrived_if link e text h (desk_of q listening)).entries
  arrived_does link text e f o None = does_nothing q.entries
  arrived_does link text e f o (Some h) =
      does_if (is_acceptable e h) (deeds.Arrives e (data_of (data_bits h) text)) deeds.Nothing q.entries _ _
      (counts_does (receives_on link) (spent (data_bits h)) (deeds.Arrives e (data_of (data_bits h) text)) (λ x. same_becomes (deeds.Arrives e (data_of (data_bits h) text)) x (spent (data_bits h) x) refl refl refl refl refl refl refl)
      (is_at_link link e f o, received_is link e (find_passes (receives_on link) e q.entries f))) (does_nothing q.entries)

  data_does : (link : ℕ) (text : List Bool) → Does (arrives text (found_in (find (receives_on link) q.entries))) q.entries (data_taken link text (desk_of q listening)).entries
  data_does link text =
      found_cases (find (receives_on link) q.entries) (λ w. Does (arrives text w) q.entries (data_found link text w (desk_of q listening)).entries)
      (does_nothing q.entries) (does_nothing q.entries) (λ e f o. arrived_does link text e f o (header_of text))

  -- ---- what goes out

  request_does : (x y stamp : ℕ) → ((e : Entry) → entry_at x y q.entries ≡ Some e → e.asked ≡ None) → (o : Option Entry) → entry_at x y q.entries ≡ o
      → Does (opens (entry_at x y (changed_at x y (asked_at stamp) q.entries))) q.entries (changed_first (is_at x y) (asked_at stamp) q.entries)
  request_does x y stamp u None f =
      let still : changed_first (is_at x y) (asked_at stamp) q.entries ≡ q.entries = none_changed (is_at x y) (asked_at stamp) q.entries f in
      subst (λ (es : List Entry). Does (opens (entry_at x y es)) q.entries es) (sym still) (subst (λ (o : Option Entry). Does (opens o) q.entries q.entries) (sym f) (does_nothing q.entries))
  request_does x y stamp u (Some e) f =
      does_opens x y (asked_at stamp) q.entries e f (ap (λ (o : Option ℕ). is_some o && is_some e.partner) (u e f)) refl refl refl (refusing_found (is_at x y) q.entries e refusing f)
      (λ was m r. let h : HasLink e = was m r in record { link = h.link; is = h.is; other = h.other })

  out_does : (stamp : ℕ) (c : Command) → Unasked c q.entries → Does (says stamp c q) q.entries (command_gone p stamp c (desk_of q listening)).entries
  out_does stamp (command.Rts receive send link) u = request_does receive send stamp u (entry_at receive send q.entries) refl
  out_does stamp (command.Str send receive size) u = request_does send receive stamp u (entry_at send receive q.entries) refl
  out_does stamp (command.Cls own foreign) u =
      does_sweeps name q.entries (changed_at own foreign cls_sent q.entries) (changed_stays (is_at own foreign) cls_sent q.entries (λ x. less_become deeds.Nothing x (cls_sent x) (sent_less x) refl))
      (subst (λ (ns : List ℕ). AreApart ns) (sym (numbers_changed name (is_at own foreign) cls_sent q.entries (λ x. refl))) apart)
  out_does stamp c u = does_nothing q.entries

  bytes_does : (stamp : ℕ) (e : Entry) (size count : ℕ) → next_of q ≡ Some (Bytes e size count) → Does (deeds.Leaves e (take (size * count) e.bits)) q.entries (changed_first (may_send_on q.busy (link_of e.link)) (bits_gone (size * count)) q.entries)
  bytes_does stamp e size count next =
      let found : find (may_send_on q.busy (link_of e.link)) q.entries ≡ Some e = senders.next_is q e size count next in
      let may : MayGo q (Bytes e size count) = what_goes q (Bytes e size count) next in
      counts_does (may_send_on q.busy (link_of e.link)) (bits_gone (size * count)) (deeds.Leaves e (take (size * count) e.bits))
      (λ x. same_becomes (deeds.Leaves e (take (size * count) e.bits)) x (bits_gone (size * count) x) refl refl refl refl refl refl refl) (
        record {
          there = (found_among (may_send_on q.busy (link_of e.link)) q.entries e found).0;
          mine = open_mine e (refusing_found (may_send_on q.busy (link_of e.link)) q.entries e refusing found) may.1.is_opened;
          opened = may.1.is_opened;
        },
        may.1.sends,
      )

  -- ---- what a user asks for

  asks_does : (own foreign : ℕ) (free : Option ℕ) → free_link q.entries ≡ free → Does deeds.Nothing q.entries (receiver_requested own foreign free q).entries
  asks_does own foreign None f = does_nothing q.entries
  asks_does own foreign (Some link) f = join_new (receiving_end own foreign link) (record { unasked = refl; linked = λ m r. record { link = link; is = refl; other = not_zero link (free_is_link q.entries link f) } })

  sends_does : (own foreign size : ℕ) → is_receive_socket own ≡ false → Does deeds.Nothing q.entries (q.entries ++ sending_end own foreign size ∷ [])
  sends_does own foreign size odd = join_new (sending_end own foreign size) (record { unasked = refl; linked = λ m r. never r }) where
    never : (is_receive_socket own ≡ true) ⊎ (false ≡ true) → HasLink (sending_end own foreign size)
    never (inl e) = clash _ (is_receive_socket own) e odd
    never (inr e) = absurd (cc)

  pub call_does : (c : Call) → Fits c q → Does (deed_of c q) q.entries (ends_by p c q listening)
  call_does (Hears stamp said c) f = hear_does stamp c f
  call_does (Takes link text) f = data_does link text
  call_does (Says stamp c) f = out_does stamp c f
  call_does (Sends stamp e size count) f = bytes_does stamp e size count f
  call_does (Answered link) f =
      (stays_comes deeds.Nothing q.entries _ (mapped_stays (λ x. closed_when (must_close (freed link q).busy x) x) q.entries (λ x. less_become deeds.Nothing x (closed_when (must_close (freed link q).busy x) x) (closed_less (must_close (freed link q).busy x) x) refl)), tt)
  call_does (OpensReceiver own foreign) f = asks_does own foreign (free_link q.entries) refl
  call_does (OpensSender own foreign size) f = sends_does own foreign size f
  call_does (Grants socket m n e) f =
      counts_does (is_mine_on socket) (granted m n) (deeds.Grants e m n) (λ x. same_becomes (deeds.Grants e m n) x (granted m n x) refl refl refl refl refl refl refl)
      (record { there = (found_among (is_mine_on socket) q.entries e f.0).0; mine = (both e.mine (e.own == socket) (found_among (is_mine_on socket) q.entries e f.0).1).0; opened = f.1 })
  call_does (AsksBack socket m n e) f = does_nothing q.entries
  call_does (Gives socket bits e) f = counts_does (is_mine_on socket) (with_more_bits bits) deeds.Nothing (λ x. same_becomes deeds.Nothing x (with_more_bits bits x) refl refl refl refl refl refl refl) tt
  call_does (Closes socket e) f = (
    stays_comes deeds.Nothing q.entries _ (stays_then q.entries (changed_first (is_mine_on socket) called_off q.entries) (map (λ x. closed_when (must_close q.busy x) x) (changed_first (is_mine_on socket) called_off q.entries))
        (changed_stays (is_mine_on socket) called_off q.entries (λ x. less_become deeds.Nothing x (called_off x) (called_less x) refl))
        (mapped_stays (λ x. closed_when (must_close q.busy x) x) (changed_first (is_mine_on socket) called_off q.entries) (λ x. less_become deeds.Nothing x (closed_when (must_close q.busy x) x) (closed_less (must_close q.busy x) x) refl))),
    tt,
  )
