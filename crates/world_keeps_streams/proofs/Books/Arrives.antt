-- Data that are taken where they come for a receiving life whose end is open, or which no user of its host has closed, arrive there.
use Rattle.world_keeps_streams.proofs.Common.{◌≡◌, inl, inr, ◌==◌, ◌&&◌, not, ℕ, Bool, true, false, List, [], ◌∷◌, ◌++◌, length, filter, find, drop, Option, Some, is_some, refl, ap, sym, subst, ◌∙◌, eq-eqb, eqb-true, Contains, Seen, Host, same_host, HostMessage, data_bits, header_of, is_receive_socket, DataHeader, covers, arrived_if, data_found, data_of, data_taken, is_acceptable, DeskState, desk_of, has_cls, is_link, is_mine_on, is_open, receives_on, message_taken, Entry, both, AreReceiver, HasReceiver, IsReceiver, HasClosed, name_now, numbered, receiver_now, accepted, turn_of, NcpState, pair_with, HaveAddresses, IsLawful, Crossed, Moment, events_of, places, program, crossings_of, WorldState, program_own, HasOpenEnd, mail_below, own_calls, Happened, Network, AreOurs, all_ours}
use Rattle.interface.proofs.lemmas.{same_host-refl, unlike}
use Rattle.stream_law.proofs.lemmas.{Inv, some_is, waits_of, acceptable}
use Rattle.host_pairs.specs.Commands.{found_in, Found}
use Rattle.host_keeps_streams.proofs.lemmas.{accept_same, bits_there, closed_first, first_is, open_found, open_same}
use Rattle.world_keeps_streams.specs.Arrivals.{Arrives, ComesFor, AllArrive, IsUnclosed}
use Rattle.interface.specs.Mailboxes as mail
use Rattle.interface.specs.declared.crossing.Crossing.TheVariants as crossing
use Rattle.interface.specs.declared.crossing.Inbound.TheVariants as inbound
use Rattle.stream_law.specs.Words as words
use Rattle.stream_law.specs.Receivers as receivers
use Rattle.stream_law.specs.Receivers.{Receiver}
use Rattle.stream_law.specs.Streams.{Waiting}
use Rattle.stream_law.specs.Senders.{Sender}
use Rattle.ncp_control.specs.Phases as phases
use Rattle.host_pairs.specs.declared.notice.Notice.TheVariants as notice
use Rattle.reset_law.specs.Stays as stay
use Rattle.promise.specs.Safe.{receives}
use Rattle.promise.specs.declared.life.Life.{Life}
use Rattle.world_keeps_streams.proofs.Books.Lies.{Boxed, lies_there}
use Rattle.world_keeps_streams.proofs.Deeds.Effects.{Among, among_filter, among_kept}
use Rattle.world_keeps_streams.proofs.Lives.Left.{over_when_left}
use Rattle.world_keeps_streams.proofs.Lives.Lists.{is_of}
use Rattle.world_keeps_streams.proofs.Moments.In.{notices_there}
use Rattle.world_keeps_streams.proofs.Requests.Sides.{Lawful, lives_in, below, book_lawful}
use Rattle.world_keeps_streams.proofs.Steps.JoinedAll.{joined}
use Rattle.world_keeps_streams.proofs.Steps.Streams.{has_receiver}
use Rattle.world_keeps_streams.proofs.Ours.{held}

-- ---- the one end on a link

-- of the ends on a link there is one, so one that is among them is the law's
pub one_end : (name : ℕ → ℕ → ℕ) (e : Entry) (xs : List Entry) (r : Receiver) → AreReceiver name xs r → Among e xs → (xs ≡ e ∷ []) × IsReceiver (name e.own e.foreign) e r
one_end name e [] r h there = absurd there
one_end name e (y ∷ []) r h (inl same) = (ap (λ (z : Entry). z ∷ []) same, subst (λ (z : Entry). IsReceiver (name z.own z.foreign) z r) same h)
one_end name e (y ∷ []) r h (inr there) = absurd there
one_end name e (y ∷ z ∷ zs) r h there = absurd h

-- a life that continues has its end among those of its host's program
pub end_at : (x : Life) (s : NcpState) (h : HasOpenEnd s x) → Among h.end (pair_with x.peer s.peers).entries × (is_mine_on x.socket h.end ≡ true)
end_at x s h = among_filter (is_mine_on x.socket) (pair_with x.peer s.peers).entries h.end (subst (λ (xs : List Entry). Among h.end xs) (sym h.one) (inl refl))

pub on_link : (link : ℕ) (e : Entry) (x : Life) → e.own ≡ x.socket → receives x ≡ true → e.link ≡ Some link → receives_on link e ≡ true
on_link link e x own receiving is =
    let kind : is_receive_socket e.own ≡ true = ap is_receive_socket own ∙ receiving in
    let linked : is_link link e.link ≡ true = ap (is_link link) is ∙ eq-eqb link link refl in
    rw (kind, linked) refl

-- and its host stays with the peer
pub stays_of : (hosts : Network) (ms : List Moment) → Lawful hosts ms → (x : Life) → AreOurs hosts x.host x.peer
    → Contains (lives_in ms) x → x.ended ≡ false → stay.stays x.host x.peer (events_of ms) ≡ true
stays_of hosts ms l x ours there goes = by (stay.stays x.host x.peer (events_of ms)) refl where
  by : (v : Bool) → stay.stays x.host x.peer (events_of ms) ≡ v → stay.stays x.host x.peer (events_of ms) ≡ true
  by true e = e
  by false e = absurd (unlike x.ended (over_when_left hosts ms l x.host x.peer ours e x (is_of x (lives_in ms) there) refl refl) goes)

-- what is reported of data that an open end finds acceptable
told_open : (link : ℕ) (text : List Bool) (e : Entry) (h : DataHeader) (d : DeskState) → find (receives_on link) d.entries ≡ Some e → is_open e ≡ true → header_of text ≡ Some h → is_acceptable e h ≡ true
    → (data_taken link text d).notices ≡ d.notices ++ notice.Arrived e.own (data_of (data_bits h) text) ∷ []
told_open link text e h d found is header good =
    subst (λ (o : Option Entry). (data_found link text (found_in o) d).notices ≡ d.notices ++ notice.Arrived e.own (data_of (data_bits h) text) ∷ []) (sym found)
    (open_found (λ (w : Found). (data_found link text w d).notices ≡ d.notices ++ notice.Arrived e.own (data_of (data_bits h) text) ∷ []) e is
    (subst (λ (o : Option DataHeader). (arrived_if link e text o d).notices ≡ d.notices ++ notice.Arrived e.own (data_of (data_bits h) text) ∷ []) (sym header) (rw good refl)))

open_parts : (c : ℕ) (r : Receiver) → receivers.is_open c r ≡ true → (r.closed ≡ false) × (r.over c ≡ false)
open_parts c r e = by r.opened r.closed (r.over c) e where
  by : (u v w : Bool) → (u && not v && not w) ≡ true → (v ≡ false) × (w ≡ false)
  by true false false e = (refl, refl)
  by true true w e = absurd (let no : false ≡ true = e in cc)
  by true false true e = absurd (let no : false ≡ true = e in cc)
  by false v w e = absurd (let no : false ≡ true = e in cc)

-- ---- a message that is taken

module _ (hosts : Network) (addresses : HaveAddresses hosts.all) (m : HostMessage) (ms : List Moment)
    (run : mail.IsRun hosts.all (crossings_of (Crossed (crossing.In m) ∷ ms)))
    (time : Happened hosts (Crossed (crossing.In m) ∷ ms)) (x : Life) (ours : AreOurs hosts x.host x.peer)
    (f : ComesFor m ms x) where
  abbrev link : ℕ
  link = m.flow.link.0

  abbrev es : List Entry
  es = (pair_with x.peer (program x.host ms).peers).entries

  abbrev d : DeskState
  d = desk_of (pair_with x.peer (program x.host ms).peers) (program x.host ms).listening

  abbrev lawful : Lawful hosts ms
  lawful = (addresses, mail_below hosts.all (Crossed (crossing.In m)) ms run, time.1)

  stays : stay.stays x.host x.peer (events_of ms) ≡ true
  stays = stays_of hosts ms lawful x ours f.there f.goes

  -- ---- the life's end

  at_it : Among f.end.end es × (is_mine_on x.socket f.end.end ≡ true)
  at_it = end_at x (program x.host ms) f.end

  own : f.end.end.own ≡ x.socket
  own = eqb-true f.end.end.own x.socket (both f.end.end.mine (f.end.end.own == x.socket) at_it.1).1

  here : receives_on link f.end.end ≡ true
  here = on_link link f.end.end x own f.receiving f.link

  has : HasReceiver (name_now numbered x.peer (own_calls x.host x.peer ms)) link es (joined link f.off_control hosts addresses x.host x.peer ours ms lawful.1 time.1).x.receiver
  has = subst (λ (r : Receiver). HasReceiver (name_now numbered x.peer (own_calls x.host x.peer ms)) link es r) (sym ((joined link f.off_control hosts addresses x.host x.peer ours ms lawful.1 time.1).received_a stays))
      (has_receiver hosts addresses link f.off_control x.host x.peer ours ms lawful.1 time.1)

  the_end : (filter (receives_on link) es ≡ f.end.end ∷ []) × IsReceiver (name_now numbered x.peer (own_calls x.host x.peer ms) f.end.end.own f.end.end.foreign) f.end.end (joined link f.off_control hosts addresses x.host x.peer ours ms lawful.1 time.1).x.receiver
  the_end =
      one_end (name_now numbered x.peer (own_calls x.host x.peer ms)) f.end.end (filter (receives_on link) es) (joined link f.off_control hosts addresses x.host x.peer ours ms lawful.1 time.1).x.receiver has
      (among_kept (receives_on link) es f.end.end at_it.0 here)

  in_box : Boxed m.text (joined link f.off_control hosts addresses x.host x.peer ours ms lawful.1 time.1).x.box
  in_box = lies_there hosts addresses m ms run time x.host x.peer ours (record { stays = stays; host = f.host; peer = f.peer; off_control = f.off_control })

  -- ---- the end finds it acceptable

  abbrev r : Receiver
  r = (joined link f.off_control hosts addresses x.host x.peer ours ms lawful.1 time.1).x.receiver

  abbrev c : ℕ
  c = name_now numbered x.peer (own_calls x.host x.peer ms) f.end.end.own f.end.end.foreign

  -- it waits for an end that the sender hasn't closed, and so the partner's CLS can't have been heard
  same_connection : in_box.connection ≡ c
  same_connection =
      some_is in_box.connection c
      (sym (waits_of (joined link f.off_control hosts addresses x.host x.peer ours ms lawful.1 time.1).x (joined link f.off_control hosts addresses x.host x.peer ours ms lawful.1 time.1).joint.inv_x
      in_box.connection in_box.size in_box.bits in_box.is) ∙ the_end.1.end)

  inv : Inv (joined link f.off_control hosts addresses x.host x.peer ours ms lawful.1 time.1).x
  inv = (joined link f.off_control hosts addresses x.host x.peer ours ms lawful.1 time.1).joint.inv_x

  sender_open : (joined link f.off_control hosts addresses x.host x.peer ours ms lawful.1 time.1).x.sender.closed c ≡ false
  sender_open =
      subst (λ (k : ℕ). (joined link f.off_control hosts addresses x.host x.peer ours ms lawful.1 time.1).x.sender.closed k ≡ false) same_connection
      (waits (joined link f.off_control hosts addresses x.host x.peer ours ms lawful.1 time.1).x.sender in_box.connection in_box.size (rw in_box.is at inv.waiting)) where
        waits : (s : Sender) (k z : ℕ) → (s.end ≡ Some k) × (s.opened ≡ true) × (s.closed k ≡ false) × (s.size k ≡ Some z) → s.closed k ≡ false
        waits s k z w = w.2

  unheard : r.over c ≡ false
  unheard = by (r.over c) refl where
    by : (v : Bool) → r.over c ≡ v → v ≡ false
    by false e = refl
    by true e = absurd (unlike ((joined link f.off_control hosts addresses x.host x.peer ours ms lawful.1 time.1).x.sender.closed c) (inv.ends.passed c e) sender_open)

  unsaid : IsUnclosed link ms x → r.closed ≡ false
  unsaid none = by r.closed refl where
    by : (v : Bool) → r.closed ≡ v → v ≡ false
    by false e = refl
    by true e =
        let first : (receiver_now numbered x.peer link (own_calls x.host x.peer ms)).first c ≡ true =
        ap (λ (s : Receiver). s.first c) (sym ((joined link f.off_control hosts addresses x.host x.peer ours ms lawful.1 time.1).received_a stays)) ∙ inv.arrivals.firsts c the_end.1.end e unheard in
        let name : c ≡ name_now numbered x.peer (own_calls x.host x.peer ms) x.socket x.foreign =
        ap (λ (k : ℕ). name_now numbered x.peer (own_calls x.host x.peer ms) k f.end.end.foreign) own ∙ ap (λ (k : ℕ). name_now numbered x.peer (own_calls x.host x.peer ms) x.socket k) f.end.foreign in
        absurd (none (subst (λ (k : ℕ). HasClosed numbered x.peer link k (own_calls x.host x.peer ms)) name (closed_first numbered x.peer link c (own_calls x.host x.peer ms) first)))

  open_end : is_open f.end.end ≡ true
  open_end = elim f.unclosed [
    | inl is ↦ is
    | inr none ↦
        (let asked : is_some f.end.end.asked ≡ true = ap is_some f.end.own in
        let partner : is_some f.end.end.partner ≡ true = ap is_some f.end.partner in
        let closed : has_cls f.end.end.closing ≡ false = sym the_end.1.closed ∙ unsaid none in
        let over : f.end.end.partner_closed ≡ false = sym the_end.1.over ∙ unheard in
        rw (asked, partner, closed, over) refl)
  ]

  opened : receivers.is_open c r ≡ true
  opened = open_same c f.end.end r the_end.1 ∙ open_end

  fits : (receivers.is_open c r && words.is_size in_box.size (r.size c) && covers r.allocation (length in_box.bits)) ≡ true
  fits =
      acceptable (joined link f.off_control hosts addresses x.host x.peer ours ms lawful.1 time.1).x (joined link f.off_control hosts addresses x.host x.peer ours ms lawful.1 time.1).joint.inv_x c in_box.size in_box.bits
      (in_box.is ∙ ap (λ (k : ℕ). Waiting k in_box.size in_box.bits) same_connection) (open_parts c r opened).0 (open_parts c r opened).1

  good : is_acceptable f.end.end in_box.header ≡ true
  good =
      let long : length in_box.bits ≡ data_bits in_box.header = ap length (sym in_box.data_is) ∙ bits_there m.text in_box.header in_box.header_is in
      sym (accept_same c f.end.end r in_box.header in_box.bits the_end.1 open_end long) ∙ ap (λ (z : ℕ). receivers.is_open c r && words.is_size z (r.size c) && covers r.allocation (length in_box.bits)) in_box.size_is ∙ fits

  -- ---- what is answered

  ready : phases.is_ready (pair_with x.peer (program x.host ms).peers).phase ≡ true
  ready = by (phases.is_ready (pair_with x.peer (program x.host ms).peers).phase) refl where
    by : (v : Bool) → phases.is_ready (pair_with x.peer (program x.host ms).peers).phase ≡ v → phases.is_ready (pair_with x.peer (program x.host ms).peers).phase ≡ true
    by true e = e
    by false e = absurd (subst (λ (xs : List Entry). Among f.end.end xs) ((held x.host 0 hosts addresses ours.0 ms lawful.1 time.1).steady.idle x.peer e) at_it.0)

  told : (message_taken x.peer (places ms) link m.text (turn_of (program x.host ms) x.peer)).notices ≡ notice.Arrived x.socket (drop 40 m.text) ∷ []
  told =
      let all : (data_taken link m.text d).notices ≡ notice.Arrived f.end.end.own (data_of (data_bits in_box.header) m.text) ∷ [] = told_open link m.text f.end.end in_box.header d (first_is (receives_on link) f.end.end [] es the_end.0) open_end in_box.header_is good in
      let bits : data_of (data_bits in_box.header) m.text ≡ drop 40 m.text = in_box.data_is ∙ sym in_box.whole in
      rw (f.off_control, ready) (all ∙ ap (λ (k : ℕ). notice.Arrived k (data_of (data_bits in_box.header) m.text) ∷ []) own ∙ ap (λ (b : List Bool). notice.Arrived x.socket b ∷ []) bits)

  pub arrives : Arrives m ms x
  arrives =
      subst (λ (g : Host). (accepted (program g ms) (inbound.Message m) (places ms)).1 ≡ notice.Arrived x.socket (drop 40 m.text) ∷ []) f.host
      (notices_there (program x.host ms) m (places ms) (ap (λ (g : Host). same_host g m.flow.destination) (program_own x.host ms ∙ f.host) ∙ same_host-refl m.flow.destination)
      ∙ subst (λ (g : Host). (message_taken g (places ms) link m.text (turn_of (program x.host ms) g)).notices ≡ notice.Arrived x.socket (drop 40 m.text) ∷ []) f.peer told)

-- ---- over a list of moments

unfoldable pub rest_lawful : (hosts : Network) (later ms : List Moment) → Lawful hosts (later ++ ms) → Lawful hosts ms
rest_lawful hosts [] ms l = l
rest_lawful hosts (y ∷ later) ms l = rest_lawful hosts later ms (below hosts y (later ++ ms) l)

all_arrive : (hosts : Network) (ms : List Moment) → Lawful hosts ms → (m : HostMessage) (later earlier : List Moment)
    → ms ≡ later ++ Crossed (crossing.In m) ∷ earlier → (x : Life) → AreOurs hosts x.host x.peer → ComesFor m earlier x
    → Arrives m earlier x
all_arrive hosts ms l m later earlier is x ours f =
    let k : Lawful hosts (Crossed (crossing.In m) ∷ earlier) = rest_lawful hosts later (Crossed (crossing.In m) ∷ earlier) (subst (λ (ns : List Moment). Lawful hosts ns) is l) in
    arrives hosts k.0 m earlier k.1 k.2 x ours f

-- ---- worlds

pub world_arrives : {C : Type 0} (seen : C → Seen) (hosts : List Host) (w : WorldState C) → (lawful : IsLawful seen hosts w) → AllArrive lawful.whole.moments
world_arrives seen hosts w lawful m later earlier is x = all_arrive (all_ours hosts) lawful.whole.moments (book_lawful seen hosts w lawful) m later earlier is x (refl, refl)
