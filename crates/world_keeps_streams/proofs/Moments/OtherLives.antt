-- A moment at which a host does nothing with a peer leaves its lives with that peer as they were.
use Rattle.world_keeps_streams.proofs.Common.{eqb-true, flat_map, Host, same_host, Flow, Answer, HostMessage, same_host-true, is_receive_socket, Command, MayGo, contact_notices, DeskState, desk_of, PairState, is_ready, answered_turn, message_taken, Entry, Notice, Phase, both, what_goes, NcpState, owner_of, pair_with, AreInOrder, Peer, Request, next_is, next_pair, Kept, lives_asked, lives_at, lives_on, where_it, HaveAddresses, Asked, Crossed, Moment, places, program, crossings_of, coupled, AreRefusing, Happened, Network, AreOurs}
use Rattle.std.proofs.Common.{◌≡◌, ℕ, ◌*◌, ◌==◌, ◌&&◌, not, Bool, true, if◌then◌else◌, List, [], ◌∷◌, drop, filter, take, Option, Some, None, refl, ap, sym, subst, false}
use Rattle.host_pairs.specs.Entries.{changed_at, ending, entry_at, is_busy, is_ending, is_mine_on, opening_notices, opening_by, is_over}
use Rattle.host_pairs.specs.Parcels.{Parcel, asked_at, cls_sent, command_gone, commands_gone, may_send_on, next_of, parcel_gone, link_of}
use Rattle.sockets.specs.Accepting.{turn_of, after_turn, accepted}
use Rattle.sockets.specs.Requests.{grant_fault, on_open, first_if, refusal, served_notices}
use Rattle.sockets.specs.Sending.{message_of, next_in, offered_by, next_out, offered}
use Rattle.net_sim.specs.Told.{host_in, kept_by, notices_by, kept_in}
use Rattle.world_keeps_lives.proofs.lemmas.{owner_found, same_turned, Holds}
use Rattle.interface.specs.Mailboxes as mail
use Rattle.interface.specs.declared.crossing.Crossing.TheVariants as crossing
use Rattle.interface.specs.declared.crossing.Inbound.TheVariants as inbound
use Rattle.ncp_control.specs.declared.command.Command.TheVariants as command
use Rattle.host_pairs.specs.Parcels as parcel
use Rattle.host_pairs.specs.declared.notice.Notice.TheVariants as notice
use Rattle.host_keeps_streams.proofs.lemmas.Senders as senders
use Rattle.sockets.specs.declared.fault.NcpFault.TheVariants as fault
use Rattle.sockets.specs.declared.request.Request.TheVariants as request
use Rattle.promise.specs.declared.life.Life.{Life}
use Rattle.net_sim.specs.Book as book
use Rattle.world_keeps_streams.proofs.Deeds.Effects.{Among, all_lives, found_among}
use Rattle.world_keeps_streams.proofs.Deeds.Ends.{IsAt}
use Rattle.world_keeps_streams.proofs.Calls.Chain.{plain_at}
use Rattle.world_keeps_streams.proofs.Carried.Calls.{recent, since}
use Rattle.world_keeps_streams.proofs.Carried.Owned.{told_lives}
use Rattle.world_keeps_streams.proofs.Carried.Moments.{placed_first}
use Rattle.world_keeps_streams.proofs.Carried.Still.{AreIn}
use Rattle.world_keeps_streams.proofs.Moments.OtherAlike.{AreAlike, AreNamed, IsClear, alike_at_other, alike_back, alike_dropped, alike_forth, alike_same, alike_then, alike_where, away_alike, named_alike, named_append, on_other}
use Rattle.world_keeps_streams.proofs.Moments.OtherTurns.{Placed, answer_alike, at_found, clear_end, message_alike}
use Rattle.world_keeps_streams.proofs.Ours.{held}

-- ---- moments at which a host does nothing with a peer

-- whether an own end is with this peer
abbrev pub is_with : Host → Option (Host × Entry) → Bool
is_with b None = false
is_with b (Some (g, e)) = same_host b g

-- what a user asks for that changes no life with this peer
abbrev pub IsForOther : Host → NcpState → Request → Type 0
IsForOther b s (request.Contact p) = same_host b p ≡ false
IsForOther b s (request.Grant socket messages bits) = is_with b (owner_of socket s.peers) ≡ false
IsForOther b s r = Unit {0}

abbrev pub IsElsewhere : Host → Host → Moment → List Moment → Type 0
IsElsewhere a b (Crossed (crossing.Out m)) moments = (same_host a m.flow.source && same_host b m.flow.destination) ≡ false
IsElsewhere a b (Crossed (crossing.In m)) moments = (same_host a m.flow.destination && same_host b m.flow.source) ≡ false
IsElsewhere a b (Crossed (crossing.Answer kind f)) moments = (same_host a f.source && same_host b f.destination) ≡ false
IsElsewhere a b (Crossed (crossing.Down h)) moments = same_host a h ≡ false
IsElsewhere a b (Crossed (crossing.Up h)) moments = Unit {0}
IsElsewhere a b (Asked h r) moments = same_host a h ≡ true → IsForOther b (program a moments) r

second_off : (t u : Bool) → (t && u) ≡ false → t ≡ true → u ≡ false
second_off true u e is = e
second_off false u e is = absurd (let no : false ≡ true = is in cc)

-- ---- what goes out

goes_to : Host → Option HostMessage → Host
goes_to h None = h
goes_to h (Some m) = m.flow.destination

module _ (a b p : Host) where
  named_opening : (o : Option Entry) → AreNamed a b p (opening_notices p o)
  named_opening None = tt
  named_opening (Some e) = by e.asked e.partner where
    here : (u v : ℕ) (k : Bool) → AreNamed a b p (if k then [] else notice.Opened e.own p e.foreign u v ∷ [])
    here u v true = tt
    here u v false = (refl, tt)

    by : (u v : Option ℕ) → AreNamed a b p (opening_by p e u v)
    by None v = tt
    by (Some u) None = tt
    by (Some u) (Some v) = here u v (is_ending e)

  named_ending : (es : List Entry) → AreNamed a b p (flat_map (ending p) es)
  named_ending [] = tt
  named_ending (e ∷ es) = named_append a b p (ending p e) (flat_map (ending p) es) (by e.mine) (named_ending es) where
    by : (v : Bool) → AreNamed a b p (if v then notice.Ended e.own p e.foreign ∷ [] else [])
    by true = (refl, tt)
    by false = tt

  named_gone : (stamp : ℕ) (c : Command) (d : DeskState) → AreNamed a b p d.notices → AreNamed a b p (command_gone p stamp c d).notices
  named_gone stamp (command.Rts receive send link) d is =
      named_append a b p d.notices (opening_notices p (entry_at receive send (changed_at receive send (asked_at stamp) d.entries))) is (named_opening (entry_at receive send (changed_at receive send (asked_at stamp) d.entries)))
  named_gone stamp (command.Str send receive size) d is =
      named_append a b p d.notices (opening_notices p (entry_at send receive (changed_at send receive (asked_at stamp) d.entries))) is (named_opening (entry_at send receive (changed_at send receive (asked_at stamp) d.entries)))
  named_gone stamp (command.Cls own foreign) d is = named_append a b p d.notices (flat_map (ending p) (filter is_over (changed_at own foreign cls_sent d.entries))) is (named_ending (filter is_over (changed_at own foreign cls_sent d.entries)))
  named_gone stamp c d is = is

  named_all : (stamp : ℕ) (cs : List Command) (d : DeskState) → AreNamed a b p d.notices → AreNamed a b p (commands_gone p stamp cs d).notices
  named_all stamp [] d is = is
  named_all stamp (c ∷ cs) d is = named_all stamp cs (command_gone p stamp c d) (named_gone stamp c d is)

-- ---- what one program does

module _ (a b : Host) (s : NcpState) (κ : Kept) (holds : (k : ℕ) → Holds a k s κ) (order : AreInOrder s.peers) where
  places_of : (p : Host) (off : same_host p b ≡ false) → Placed a b p off κ (turn_of s p)
  places_of p off = placed_first a p s κ holds

  -- where another peer has an own end, no life with this one continues
  clear_here : (p : Host) → same_host p b ≡ false → (e : Entry) → Among e (pair_with p s.peers).entries → e.mine ≡ true → IsClear a b e.own κ.book.lives
  clear_here p off e there mine = clear_end a b p off κ (turn_of s p) (places_of p off) e there mine

  parcel_alike : (stamp : ℕ) (g : Peer) (x : Parcel) → next_in s.peers ≡ Some (g, x) → same_host g.host b ≡ false → AreAlike a b κ.book.lives (all_lives a (parcel_gone g.host stamp g.pair.busy x (desk_of g.pair s.listening)).notices κ.book.lives)
  parcel_alike stamp g parcel.Reset f off = alike_same a b κ.book.lives
  parcel_alike stamp g parcel.Reply f off = alike_same a b κ.book.lives
  parcel_alike stamp g (parcel.Commands count) f off =
      named_alike a b g.host off (commands_gone g.host stamp (take count g.pair.queue) (desk_of g.pair s.listening)).notices (named_all a b g.host stamp (take count g.pair.queue) (desk_of g.pair s.listening) tt) κ.book.lives
  parcel_alike stamp g (parcel.Bytes e size count) f off =
      alike_where a b (lives_at a e.own) (book.carried (take (size * count) e.bits)) κ.book.lives (λ x. refl) (λ x. refl)
      (clear_here g.host off e (subst (λ (q : PairState). Among e q.entries) (sym pair) at.there) at.mine) where
        pair : pair_with g.host s.peers ≡ g.pair
        pair = next_pair s.peers g (parcel.Bytes e size count) order f

        refusing : AreRefusing g.pair.entries
        refusing = subst (λ (q : PairState). AreRefusing q.entries) (next_pair s.peers g (parcel.Bytes e size count) order f) ((holds 0).steady.refusing g.host)

        at : IsAt e g.pair.entries
        at =
            let next : next_of g.pair ≡ Some (parcel.Bytes e size count) = next_is g (parcel.Bytes e size count) s.peers f in
            let may : MayGo g.pair (parcel.Bytes e size count) = what_goes g.pair (parcel.Bytes e size count) next in
            at_found g.pair refusing (may_send_on g.pair.busy (link_of e.link)) e (senders.next_is g.pair e size count next) may.1.is_opened

  offered_alike : (stamp : ℕ) (m : HostMessage) → next_out s ≡ Some m → same_host b m.flow.destination ≡ false → AreAlike a b κ.book.lives (all_lives a (offered s stamp).1 κ.book.lives)
  unfolding offered next_out goes_to
  offered_alike stamp m out off = by (next_in s.peers) refl out where
    by : (o : Option (Peer × Parcel)) → next_in s.peers ≡ o → message_of s.own o ≡ Some m → AreAlike a b κ.book.lives (all_lives a (offered_by s stamp o).1 κ.book.lives)
    by None f is = alike_same a b κ.book.lives
    by (Some (g, x)) f is =
        let to : g.host ≡ m.flow.destination = ap (λ (o : Option HostMessage). goes_to g.host o) is in
        parcel_alike stamp g x f (same_turned b g.host (subst (λ (h : Host). same_host b h ≡ false) (sym to) off))

  message_here : (m : HostMessage) (stamp : ℕ) → same_host b m.flow.source ≡ false → AreAlike a b κ.book.lives (all_lives a (accepted s (inbound.Message m) stamp).1 κ.book.lives)
  unfolding accepted
  message_here m stamp off = by (same_host s.own m.flow.destination) where
    by : (v : Bool) → AreAlike a b κ.book.lives (all_lives a (if v then after_turn s m.flow.source (message_taken m.flow.source stamp m.flow.link.0 m.text (turn_of s m.flow.source)) else (s, [])).1 κ.book.lives)
    by true =
        let turn : same_host m.flow.source b ≡ false = same_turned b m.flow.source off in
        subst (λ (ls : List Life). AreAlike a b κ.book.lives ls) (told_lives a (message_taken m.flow.source stamp m.flow.link.0 m.text (turn_of s m.flow.source)).notices κ)
        (message_alike a b m.flow.source turn κ stamp m.flow.link.0 m.text (turn_of s m.flow.source) (places_of m.flow.source turn))
    by false = alike_same a b κ.book.lives

  answer_here : (kind : Answer) (f : Flow) (stamp : ℕ) → same_host b f.destination ≡ false → AreAlike a b κ.book.lives (all_lives a (accepted s (inbound.Answer kind f) stamp).1 κ.book.lives)
  unfolding accepted
  answer_here kind f stamp off = by (same_host s.own f.source) (is_busy (pair_with f.destination s.peers).busy f.link.0) where
    by : (v w : Bool) → AreAlike a b κ.book.lives (all_lives a (if v then (if w then after_turn s f.destination (answered_turn f.destination kind f.link.0 (turn_of s f.destination)) else (s, [])) else (s, [])).1 κ.book.lives)
    by true true =
        subst (λ (ls : List Life). AreAlike a b κ.book.lives ls) (told_lives a (answered_turn f.destination kind f.link.0 (turn_of s f.destination)).notices κ)
        (answer_alike a b f.destination (same_turned b f.destination off) κ kind f.link.0 (turn_of s f.destination))
    by true false = alike_same a b κ.book.lives
    by false w = alike_same a b κ.book.lives

  -- ---- what its user asks for

  contact_alike : (p : Host) (ph : Phase) → same_host b p ≡ false → AreAlike a b κ.book.lives (all_lives a (contact_notices p ph) κ.book.lives)
  contact_alike p ph off = by (is_ready ph) where
    by : (v : Bool) → AreAlike a b κ.book.lives (all_lives a (if v then notice.PairReset p ∷ [] else []) κ.book.lives)
    by true = named_alike a b p (same_turned b p off) (notice.PairReset p ∷ []) (refl, tt) κ.book.lives
    by false = alike_same a b κ.book.lives

  never_refused : (t : Bool) (messages bits : ℕ) → first_if t fault.WrongEnd (on_open (grant_fault messages bits) None) ≡ None → ⊥
  never_refused true messages bits e = absurd (cc)
  never_refused false messages bits e = absurd (cc)

  grant_alike : (socket messages bits : ℕ) → refusal s (request.Grant socket messages bits) ≡ None → is_with b (owner_of socket s.peers) ≡ false
      → AreAlike a b κ.book.lives (where_it (lives_at a socket) (book.granted messages bits) κ.book.lives)
  unfolding refusal
  grant_alike socket messages bits may off = by (owner_of socket s.peers) refl may off where
    by : (o : Option (Host × Entry)) → owner_of socket s.peers ≡ o → first_if (not (is_receive_socket socket)) fault.WrongEnd (on_open (grant_fault messages bits) o) ≡ None → is_with b o ≡ false
        → AreAlike a b κ.book.lives (where_it (lives_at a socket) (book.granted messages bits) κ.book.lives)
    by None f may off = absurd (never_refused (not (is_receive_socket socket)) messages bits may)
    by (Some (g, e)) f may off =
        let r : Among e (pair_with g s.peers).entries × (is_mine_on socket e ≡ true) = found_among (is_mine_on socket) (pair_with g s.peers).entries e (owner_found socket s.peers g e order f) in
        let two : (e.mine ≡ true) × ((e.own == socket) ≡ true) = both e.mine (e.own == socket) r.1 in
        alike_where a b (lives_at a socket) (book.granted messages bits) κ.book.lives (λ x. refl) (λ x. refl)
        (subst (λ (k : ℕ). IsClear a b k κ.book.lives) (eqb-true e.own socket two.1) (clear_here g (same_turned b g off) e r.0 two.0))

  asked_alike : (r : Request) → refusal s r ≡ None → IsForOther b s r → AreAlike a b κ.book.lives (all_lives a (served_notices s r) (lives_asked a r κ.book.lives))
  unfolding served_notices
  asked_alike (request.Contact p) may off = contact_alike p (pair_with p s.peers).phase off
  asked_alike (request.Grant socket messages bits) may off = grant_alike socket messages bits may off
  asked_alike r may off = alike_same a b κ.book.lives

-- ---- all moments

module _ (a b : Host) where
  -- what another host's user asks for
  asked_away : (h : Host) → same_host h a ≡ false → (r : Request) (ls : List Life) → AreAlike a b ls (lives_asked h r ls)
  asked_away h off (request.Grant socket messages bits) ls = alike_at_other a b h off socket (book.granted messages bits) ls (λ x. refl) (λ x. refl)
  asked_away h off r ls = alike_same a b ls

  -- one host or another acts
  acts : (h : Host) (ns : Host → List Notice) (old : List Life) (next : Host → List Life) → (same_host a h ≡ true → AreAlike a b old (all_lives a (ns a) (next a))) → (same_host h a ≡ false → AreAlike a b old (next h))
      → AreAlike a b old (all_lives h (ns h) (next h))
  acts h ns old next here there = by (same_host a h) refl where
    by : (v : Bool) → same_host a h ≡ v → AreAlike a b old (all_lives h (ns h) (next h))
    by true f = subst (λ (g : Host). AreAlike a b old (all_lives g (ns g) (next g))) (same_host-true a h f) (here f)
    by false f = let off : same_host h a ≡ false = same_turned a h f in alike_then a b old (next h) (all_lives h (ns h) (next h)) (there off) (away_alike a b h off (ns h) (next h))

  moment_alike : (hosts : Network) → HaveAddresses hosts.all → hosts.strange a ≡ false → (x : Moment) (ms : List Moment)
      → mail.IsRun hosts.all (crossings_of (x ∷ ms)) → Happened hosts (x ∷ ms) → IsElsewhere a b x ms
      → AreAlike a b (kept_in ms).book.lives (all_lives (host_in x) (notices_by x ms) (kept_by x (kept_in ms)).book.lives)
  moment_alike hosts addresses plain (Crossed (crossing.Out m)) ms run time off =
      acts m.flow.source (λ h. (offered (program h ms) (places ms)).1) (kept_in ms).book.lives (λ h. (kept_in ms).book.lives)
      (λ e. offered_alike a b (program a ms) (kept_in ms) (λ k. held a k hosts addresses plain ms run.1 time.1) ((coupled hosts addresses ms run.1 time.1).order a plain) (places ms) m
      (subst (λ (g : Host). next_out (program g ms) ≡ Some m) (sym (same_host-true a m.flow.source e)) (time.0 (plain_at hosts a m.flow.source e plain))) (second_off (same_host a m.flow.source) (same_host b m.flow.destination) off e))
      (λ f. alike_same a b (kept_in ms).book.lives)
  moment_alike hosts addresses plain (Crossed (crossing.In m)) ms run time off =
      acts m.flow.destination (λ h. (accepted (program h ms) (inbound.Message m) (places ms)).1) (kept_in ms).book.lives (λ h. (kept_in ms).book.lives)
      (λ e. message_here a b (program a ms) (kept_in ms) (λ k. held a k hosts addresses plain ms run.1 time.1) ((coupled hosts addresses ms run.1 time.1).order a plain) m (places ms)
      (second_off (same_host a m.flow.destination) (same_host b m.flow.source) off e))
      (λ f. alike_same a b (kept_in ms).book.lives)
  moment_alike hosts addresses plain (Crossed (crossing.Answer kind f)) ms run time off =
      acts f.source (λ h. (accepted (program h ms) (inbound.Answer kind f) (places ms)).1) (kept_in ms).book.lives (λ h. (kept_in ms).book.lives)
      (λ e. answer_here a b (program a ms) (kept_in ms) (λ k. held a k hosts addresses plain ms run.1 time.1) ((coupled hosts addresses ms run.1 time.1).order a plain) kind f (places ms)
      (second_off (same_host a f.source) (same_host b f.destination) off e))
      (λ g. alike_same a b (kept_in ms).book.lives)
  moment_alike hosts addresses plain (Crossed (crossing.Down h)) ms run time off =
      alike_where a b (lives_on h) book.life_ended (kept_in ms).book.lives (λ x. refl) (λ x. refl) (λ x there host peer is. on_other a b h (same_turned a h off) x host is)
  moment_alike hosts addresses plain (Crossed (crossing.Up h)) ms run time off = alike_same a b (kept_in ms).book.lives
  moment_alike hosts addresses plain (Asked h r) ms run time off =
      acts h (λ g. served_notices (program g ms) r) (kept_in ms).book.lives (λ g. lives_asked g r (kept_in ms).book.lives)
      (λ e. asked_alike a b (program a ms) (kept_in ms) (λ k. held a k hosts addresses plain ms run time.1) ((coupled hosts addresses ms run time.1).order a plain) r
      (subst (λ (g : Host). refusal (program g ms) r ≡ None) (sym (same_host-true a h e)) (time.0 (plain_at hosts a h e plain)).2) (off e))
      (λ f. asked_away h f r (kept_in ms).book.lives)

module _ (hosts : Network) (addresses : HaveAddresses hosts.all) (a b : Host) (ours : AreOurs hosts a b) (x : Moment)
    (ms : List Moment) (run : mail.IsRun hosts.all (crossings_of (x ∷ ms))) (time : Happened hosts (x ∷ ms)) where
  other_alike : IsElsewhere a b x ms → AreAlike a b (kept_in ms).book.lives (kept_in (x ∷ ms)).book.lives
  other_alike off =
      subst (λ (ls : List Life). AreAlike a b (kept_in ms).book.lives ls) (sym (told_lives (host_in x) (notices_by x ms) (kept_by x (kept_in ms)))) (moment_alike a b hosts addresses ours.0 x ms run time off)

  recent_alike : IsElsewhere a b x ms → AreAlike a b (recent a b ms) (drop (since a b ms) (kept_in (x ∷ ms)).book.lives)
  recent_alike off = alike_dropped a b (since a b ms) (kept_in ms).book.lives (kept_in (x ∷ ms)).book.lives (other_alike off)

  -- the lives of the two since the host dropped its ends last are those that they were
  pub other_forth : IsElsewhere a b x ms → AreIn a b (recent a b ms) (drop (since a b ms) (kept_in (x ∷ ms)).book.lives)
  other_forth off = alike_forth a b (recent a b ms) (drop (since a b ms) (kept_in (x ∷ ms)).book.lives) (recent_alike off)

  pub other_back : IsElsewhere a b x ms → AreIn a b (drop (since a b ms) (kept_in (x ∷ ms)).book.lives) (recent a b ms)
  other_back off = alike_back a b (recent a b ms) (drop (since a b ms) (kept_in (x ∷ ms)).book.lives) (recent_alike off)
