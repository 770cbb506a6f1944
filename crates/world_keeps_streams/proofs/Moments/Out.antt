-- The lives of a host with one peer are carried by its calls at a moment at which a message goes out to the peer.
use Rattle.world_keeps_streams.proofs.Common.{◌≡◌, ℕ, ◌==◌, true, false, ◌&&◌, List, [], ◌∷◌, ◌++◌, take, drop, Some, refl, ap, sym, subst, ◌∙◌, Host, same_host, HostMessage, same_host-true, Command, DeskState, desk_of, PairState, Parcel, next_of, parcel_gone, with_connections, Entry, Listener, Notice, pair_range, turn_of, NcpState, pair_with, Peer, next_is, next_pair, all_told, crossed, HaveAddresses, Crossed, IsNext, IsStory, Moment, event_in, events_of, places, program, crossings_of, coupled, origin_in, keeps, both, Happened, Network, AreOurs}
use Rattle.host_keeps_streams.specs.Histories.{AreAllowed, IsHistory, IsTelling, Says, Sends}
use Rattle.sockets.specs.Sending.{next_in, offered}
use Rattle.world_keeps_lives.proofs.lemmas.{GoodTurn, Place, waits}
use Rattle.world_keeps_pairing.proofs.lemmas.{mail_below, offered_pair, programs_ranged, served_in, some_commands}
use Rattle.world_keeps_streams.specs.Calls.{calls_by, commands_said, own_calls, parcel_calls, called}
use Rattle.interface.specs.Mailboxes as mail
use Rattle.interface.specs.declared.crossing.Crossing.TheVariants as crossing
use Rattle.host_pairs.specs.Parcels as parcel
use Rattle.host_keeps_streams.specs.Histories as calls
use Rattle.promise.specs.declared.life.Life.{Life}
use Rattle.net_sim.specs.Told.{kept_in}
use Rattle.world_keeps_streams.proofs.Calls.Chain.{chain, plain_at}
use Rattle.world_keeps_streams.proofs.Deeds.Effects.{Among, all_lives}
use Rattle.world_keeps_streams.proofs.Deeds.Told.{call_told}
use Rattle.world_keeps_streams.proofs.Carried.Calls.{Carries, CarryIn, since}
use Rattle.world_keeps_streams.proofs.Carried.Owned.{IsAway, since_within, told_lives}
use Rattle.world_keeps_streams.proofs.Carried.Heard.{AllAllowed}
use Rattle.world_keeps_streams.proofs.Carried.Moments.{kept_next, placed_first, single_next}
use Rattle.world_keeps_streams.proofs.Carried.Said.{PlacedAt, said_all}
use Rattle.world_keeps_streams.proofs.Carried.Still.{still_next}
use Rattle.world_keeps_streams.proofs.Ours.{has_ends, held}

-- what is said comes upon what was before
said_onto : (b : Host) (stamp : ℕ) (cs : List Command) (q : PairState) (listening : List Listener) (older base : List calls.Moment) → commands_said b stamp cs q listening older ++ base ≡ commands_said b stamp cs q listening (older ++ base)
said_onto b stamp [] q listening older base = refl
said_onto b stamp (c ∷ cs) q listening older base =
    said_onto b stamp cs (with_connections q (parcel.command_gone b stamp c (desk_of q listening))) listening (called (Says stamp c) q listening ∷ older) base

-- what is reported of an offer
offered_told : (s : NcpState) (stamp : ℕ) (g : Peer) (x : Parcel) → next_in s.peers ≡ Some (g, x) → (offered s stamp).1 ≡ (parcel_gone g.host stamp g.pair.busy x (desk_of g.pair s.listening)).notices
unfolding offered
offered_told s stamp g x n = rw n refl

module _ (number : ℕ → ℕ → ℕ → ℕ) (tells : IsTelling number) (hosts : Network) (addresses : HaveAddresses hosts.all) (a b : Host) (ours : AreOurs hosts a b)
    (allowed : (ms : List Moment) → mail.IsRun hosts.all (crossings_of ms) → Happened hosts ms → (link : ℕ) → (link == 0) ≡ false → AreAllowed number b link (own_calls a b ms)) where
  -- the calls of a moment at which the host keeps its ends, upon those before it
  pub history_at : (x : Moment) (ms : List Moment) (cs : List calls.Moment)
      → mail.IsRun hosts.all (crossings_of (x ∷ ms)) → Happened hosts (x ∷ ms)
      → keeps a b (event_in x) (events_of ms) ≡ true → calls_by a b x ms ≡ cs → IsHistory b (cs ++ own_calls a b ms)
  history_at x ms cs run time on is =
      let h : IsHistory b (own_calls a b (x ∷ ms)) = (chain hosts addresses (x ∷ ms) run time a b ours).0 in
      subst (λ (ks : List calls.Moment). IsHistory b (ks ++ own_calls a b ms)) is (rw on at h)

  pub allowed_at : (x : Moment) (ms : List Moment) (cs : List calls.Moment)
      → mail.IsRun hosts.all (crossings_of (x ∷ ms)) → Happened hosts (x ∷ ms)
      → keeps a b (event_in x) (events_of ms) ≡ true → calls_by a b x ms ≡ cs
      → AllAllowed number tells a b (cs ++ own_calls a b ms)
  allowed_at x ms cs run time on is link other =
      let h : AreAllowed number b link (own_calls a b (x ∷ ms)) = allowed (x ∷ ms) run time link other in
      subst (λ (ks : List calls.Moment). AreAllowed number b link (ks ++ own_calls a b ms)) is (rw on at h)

  -- each socket of the host has its place
  pub placed_in : (ms : List Moment) → mail.IsRun hosts.all (crossings_of ms) → Happened hosts ms → (k : ℕ)
      → (m : Place) × IsAway b m × GoodTurn a k m b (kept_in ms) (turn_of (program a ms) b)
  placed_in ms run time k = placed_first a b (program a ms) (kept_in ms) (λ l. held a l hosts addresses ours.0 ms run time) k

  module _ (m : HostMessage) (ms : List Moment) (run : mail.IsRun hosts.all (crossings_of (Crossed (crossing.Out m) ∷ ms))) (time : Happened hosts (Crossed (crossing.Out m) ∷ ms))
      (on : keeps a b (event_in (Crossed (crossing.Out m))) (events_of ms) ≡ true) (mine : same_host a m.flow.source ≡ true) (theirs : same_host b m.flow.destination ≡ true) where
    story : IsStory hosts (Crossed (crossing.Out m) ∷ ms)
    story = (coupled hosts addresses (Crossed (crossing.Out m) ∷ ms) run time).story

    below : mail.IsRun hosts.all (crossings_of ms)
    below = mail_below hosts.all (Crossed (crossing.Out m)) ms run

    own_host : a ≡ m.flow.source
    own_host = same_host-true a m.flow.source mine

    n : IsNext (program a ms) m
    n = subst (λ (g : Host). IsNext (program g ms) m) (sym own_host) (story.0 (plain_at hosts a m.flow.source mine ours.0))

    to_peer : same_host b n.peer.host ≡ true
    to_peer = ap (λ (k : HostMessage). same_host b k.flow.destination) (sym n.message) ∙ theirs

    is_peer : b ≡ n.peer.host
    is_peer = same_host-true b n.peer.host to_peer

    same_pair : pair_with b (program a ms).peers ≡ n.peer.pair
    same_pair = ap (λ (g : Host). pair_with g (program a ms).peers) is_peer ∙ next_pair (program a ms).peers n.peer n.parcel n.order n.next

    goes_next : next_of (pair_with b (program a ms).peers) ≡ Some n.parcel
    goes_next = ap next_of same_pair ∙ next_is n.peer n.parcel (program a ms).peers n.next

    -- the desk after the parcel
    abbrev Gone : Parcel → DeskState
    Gone p = parcel_gone b (places ms) (pair_with b (program a ms).peers).busy p (desk_of (pair_with b (program a ms).peers) (program a ms).listening)

    same_gone : parcel_gone n.peer.host (places ms) n.peer.pair.busy n.parcel (desk_of n.peer.pair (program a ms).listening) ≡ Gone n.parcel
    same_gone =
        subst (λ (g : Host). parcel_gone g (places ms) n.peer.pair.busy n.parcel (desk_of n.peer.pair (program a ms).listening) ≡ Gone n.parcel) is_peer
        (ap (λ (k : PairState). parcel_gone b (places ms) k.busy n.parcel (desk_of k (program a ms).listening)) (sym same_pair))

    calls_are : calls_by a b (Crossed (crossing.Out m)) ms ≡ parcel_calls b (places ms) n.parcel (pair_with b (program a ms).peers) (program a ms).listening
    calls_are =
        rw mine (rw n.next (rw to_peer (ap (λ (k : PairState). parcel_calls b (places ms) n.parcel k (program a ms).listening) (sym same_pair))))

    ends_are : (pair_with b (program a (Crossed (crossing.Out m) ∷ ms)).peers).entries ≡ (Gone n.parcel).entries
    ends_are =
        rw mine (ap (λ (g : Host). (pair_with g (offered (program a ms) (places ms)).0.peers).entries) is_peer ∙ ap (λ (k : PairState). k.entries) (offered_pair (program a ms) (places ms) n.peer n.parcel n.next) ∙ ap (λ (d : DeskState). d.entries) same_gone)

    told_are : (kept_in (Crossed (crossing.Out m) ∷ ms)).book.lives ≡ all_lives a (Gone n.parcel).notices (kept_in ms).book.lives
    told_are =
        ap (λ (g : Host). (all_told g (offered (program g ms) (places ms)).1 (crossed (crossing.Out m) (kept_in ms))).book.lives) (sym own_host)
        ∙ told_lives a (offered (program a ms) (places ms)).1 (crossed (crossing.Out m) (kept_in ms))
        ∙ ap (λ (ns : List Notice). all_lives a ns (kept_in ms).book.lives) (offered_told (program a ms) (places ms) n.peer n.parcel n.next ∙ ap (λ (d : DeskState). d.notices) same_gone)

    -- a signal, by which nothing becomes of the ends
    signal_next : calls_by a b (Crossed (crossing.Out m)) ms ≡ [] → (pair_with b (program a (Crossed (crossing.Out m) ∷ ms)).peers).entries ≡ (pair_with b (program a ms).peers).entries
        → (kept_in (Crossed (crossing.Out m) ∷ ms)).book.lives ≡ (kept_in ms).book.lives → Carries number a b ms → Carries number a b (Crossed (crossing.Out m) ∷ ms)
    signal_next none ends told c =
        still_next number a b (Crossed (crossing.Out m)) ms on none ends (λ y host peer there. subst (λ (ls : List Life). Among y (drop (since a b ms) ls)) (sym told) there)
        (λ y host peer there. subst (λ (ls : List Life). Among y (drop (since a b ms) ls)) told there) c

    -- commands, one after another
    abbrev Said : ℕ → List calls.Moment
    Said count = commands_said b (places ms) (take count (pair_with b (program a ms).peers).queue) (pair_with b (program a ms).peers) (program a ms).listening (own_calls a b ms)

    commands_next : (count : ℕ) → calls_by a b (Crossed (crossing.Out m)) ms ≡ commands_said b (places ms) (take count (pair_with b (program a ms).peers).queue) (pair_with b (program a ms).peers) (program a ms).listening []
        → (pair_with b (program a (Crossed (crossing.Out m) ∷ ms)).peers).entries ≡ (Gone (parcel.Commands count)).entries
        → (kept_in (Crossed (crossing.Out m) ∷ ms)).book.lives ≡ all_lives a (Gone (parcel.Commands count)).notices (kept_in ms).book.lives → Carries number a b ms → Carries number a b (Crossed (crossing.Out m) ∷ ms)
    commands_next count is ends told c =
        kept_next number tells hosts a b ours (Crossed (crossing.Out m)) ms addresses run time below time.1 on
        (subst (λ (ks : List calls.Moment). CarryIn a b number ks (pair_with b (program a (Crossed (crossing.Out m) ∷ ms)).peers).entries (drop (since a b ms) (kept_in (Crossed (crossing.Out m) ∷ ms)).book.lives)) (sym all)
        (subst (λ (es : List Entry). CarryIn a b number (Said count) es (drop (since a b ms) (kept_in (Crossed (crossing.Out m) ∷ ms)).book.lives)) (sym ends)
        (subst (λ (ls : List Life). CarryIn a b number (Said count) (Gone (parcel.Commands count)).entries ls) (sym (ap (λ (ls : List Life). drop (since a b ms) ls) (told ∙ sym (told_lives a (Gone (parcel.Commands count)).notices (kept_in ms)))))
        (said_all number tells a b (kept_in ms) (since a b ms) (origin_in (crossings_of ms) a b) (places ms) (take count (pair_with b (program a ms).peers).queue) (drop count (pair_with b (program a ms).peers).queue)
        (pair_with b (program a ms).peers) (program a ms).listening [] (own_calls a b ms)
        (some_commands count (pair_with b (program a ms).peers).queue (pair_range b (program a ms).peers (programs_ranged hosts ms (served_in hosts ms time.1) a ours.0).pairs).commands)
        (waits (origin_in (crossings_of ms) a b) (pair_with b (program a ms).peers) count (has_ends hosts ms addresses below time.1 a b ours)) placed (since_within a b ms) history may c)))) where
          all : calls_by a b (Crossed (crossing.Out m)) ms ++ own_calls a b ms ≡ Said count
          all =
              ap (λ (ks : List calls.Moment). ks ++ own_calls a b ms) is
              ∙ said_onto b (places ms) (take count (pair_with b (program a ms).peers).queue) (pair_with b (program a ms).peers) (program a ms).listening [] (own_calls a b ms)

          placed : PlacedAt number tells a b (kept_in ms) (since a b ms) (origin_in (crossings_of ms) a b) (places ms) (desk_of (pair_with b (program a ms).peers) (program a ms).listening)
          placed k =
              let p : (l : Place) × IsAway b l × GoodTurn a k l b (kept_in ms) (turn_of (program a ms) b) = placed_in ms below time.1 k in
              (p.0, p.1, record { refusing = p.2.refusing; on = p.2.on })

          history : IsHistory b (Said count)
          history = subst (λ (ks : List calls.Moment). IsHistory b ks) all (history_at (Crossed (crossing.Out m)) ms (calls_by a b (Crossed (crossing.Out m)) ms) run time on refl)

          may : AllAllowed number tells a b (Said count)
          may = subst (λ (ks : List calls.Moment). AllAllowed number tells a b ks) all (allowed_at (Crossed (crossing.Out m)) ms (calls_by a b (Crossed (crossing.Out m)) ms) run time on refl)

    -- bytes of an end
    abbrev Call : Entry → ℕ → ℕ → calls.Moment
    Call e size count = called (Sends (places ms) e size count) (pair_with b (program a ms).peers) (program a ms).listening

    bytes_next : (e : Entry) (size count : ℕ) → next_of (pair_with b (program a ms).peers) ≡ Some (parcel.Bytes e size count)
        → calls_by a b (Crossed (crossing.Out m)) ms ≡ called (Sends (places ms) e size count) (pair_with b (program a ms).peers) (program a ms).listening ∷ []
        → (pair_with b (program a (Crossed (crossing.Out m) ∷ ms)).peers).entries ≡ (Gone (parcel.Bytes e size count)).entries
        → (kept_in (Crossed (crossing.Out m) ∷ ms)).book.lives ≡ all_lives a (Gone (parcel.Bytes e size count)).notices (kept_in ms).book.lives → Carries number a b ms → Carries number a b (Crossed (crossing.Out m) ∷ ms)
    bytes_next e size count next is ends told c =
        single_next number tells hosts a b ours (Crossed (crossing.Out m)) ms addresses run time below time.1 on (Call e size count) is refl (sym ends)
        (history_at (Crossed (crossing.Out m)) ms (Call e size count ∷ []) run time on is) (allowed_at (Crossed (crossing.Out m)) ms (Call e size count ∷ []) run time on is) (placed_in ms below time.1 0).2.refusing next
        (told ∙ call_told a b (pair_with b (program a ms).peers) (program a ms).listening (Sends (places ms) e size count) tt (kept_in ms).book.lives) c

    parcel_next : (p : Parcel) → next_of (pair_with b (program a ms).peers) ≡ Some p → calls_by a b (Crossed (crossing.Out m)) ms ≡ parcel_calls b (places ms) p (pair_with b (program a ms).peers) (program a ms).listening
        → (pair_with b (program a (Crossed (crossing.Out m) ∷ ms)).peers).entries ≡ (Gone p).entries → (kept_in (Crossed (crossing.Out m) ∷ ms)).book.lives ≡ all_lives a (Gone p).notices (kept_in ms).book.lives
        → Carries number a b ms → Carries number a b (Crossed (crossing.Out m) ∷ ms)
    parcel_next parcel.Reset next is ends told c = signal_next is ends told c
    parcel_next parcel.Reply next is ends told c = signal_next is ends told c
    parcel_next (parcel.Commands count) next is ends told c = commands_next count is ends told c
    parcel_next (parcel.Bytes e size count) next is ends told c = bytes_next e size count next is ends told c

    out_next : Carries number a b ms → Carries number a b (Crossed (crossing.Out m) ∷ ms)
    out_next c = parcel_next n.parcel goes_next calls_are ends_are told_are c

  pub keeps_out : (m : HostMessage) (ms : List Moment)
      → mail.IsRun hosts.all (crossings_of (Crossed (crossing.Out m) ∷ ms))
      → Happened hosts (Crossed (crossing.Out m) ∷ ms)
      → keeps a b (event_in (Crossed (crossing.Out m))) (events_of ms) ≡ true → (same_host a m.flow.source && same_host b m.flow.destination) ≡ true → Carries number a b ms → Carries number a b (Crossed (crossing.Out m) ∷ ms)
  keeps_out m ms run time on these c =
      let t : (same_host a m.flow.source ≡ true) × (same_host b m.flow.destination ≡ true) = both (same_host a m.flow.source) (same_host b m.flow.destination) these in
      out_next m ms run time on t.0 t.1 c
