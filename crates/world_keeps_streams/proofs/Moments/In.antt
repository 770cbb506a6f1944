-- The lives of a host with one peer are carried by its calls at a moment at which a message of the peer comes in.
use Rattle.world_keeps_streams.proofs.Common.{◌≡◌, ℕ, ◌==◌, ◌&&◌, not, Bool, true, false, List, [], ◌∷◌, ◌++◌, drop, refl, ap, sym, subst, ◌∙◌, Host, same_host, HostMessage, same_host-true, Legal, Order, Wrong, orders_of, data_taken, desk_of, PairState, TurnState, message_taken, orders_taken, reply_notices, with_desk, Entry, Notice, Phase, AreJoint, IsJoint, AreAllowed, Hears, IsHistory, IsTelling, Takes, NcpState, pair_with, all_told, crossed, HaveAddresses, IsApart, message_on, Crossed, Moment, event_in, events_of, places, program, crossings_of, coupled, program_own, keeps, AText, AnRrp, AnRst, Sort, mail_below, message_pair, plain_joint, sort_of, both, Happened, Network, AreOurs}
use Rattle.host_keeps_pairing.proofs.lemmas.{orders_idle}
use Rattle.reset_law.specs.Events.{In, Message, Other, are, Reset}
use Rattle.sockets.specs.Accepting.{turn_of, accepted}
use Rattle.world_keeps_streams.specs.Calls.{calls_by, message_calls, orders_heard, own_calls, called}
use Rattle.interface.specs.Mailboxes as mail
use Rattle.interface.specs.declared.crossing.Crossing.TheVariants as crossing
use Rattle.interface.specs.declared.crossing.Inbound.TheVariants as inbound
use Rattle.ncp_control.specs.declared.command.Command.TheVariants as command
use Rattle.ncp_control.specs.Phases as phases
use Rattle.ncp_control.specs.declared.phase.Phase.TheVariants as phase
use Rattle.host_keeps_streams.specs.Histories as calls
use Rattle.reset_law.specs.Stays as stay
use Rattle.promise.specs.declared.life.Life.{Life}
use Rattle.net_sim.specs.Told.{kept_in}
use Rattle.world_keeps_streams.proofs.Deeds.Effects.{Among, all_lives}
use Rattle.world_keeps_streams.proofs.Deeds.Kinds.{deed_of}
use Rattle.world_keeps_streams.proofs.Deeds.Told.{After, call_told}
use Rattle.world_keeps_streams.proofs.Deeds.Ends.{Fits}
use Rattle.world_keeps_streams.proofs.Carried.Calls.{Carries, CarryIn, recent, since}
use Rattle.world_keeps_streams.proofs.Carried.Heard.{AllAllowed, AreOrdinary, IsOrdinary, heard_all, heard_onto}
use Rattle.world_keeps_streams.proofs.Carried.Moments.{kept_next, placed_first, single_next}
use Rattle.world_keeps_streams.proofs.Carried.Owned.{since_within, told_lives}
use Rattle.world_keeps_streams.proofs.Carried.Still.{still_next}
use Rattle.world_keeps_streams.proofs.Calls.Chain.{chain, plain_at}
use Rattle.world_keeps_streams.proofs.Ours.{held}

-- what a host notifies its user of about a message
pub notices_there : (s : NcpState) (m : HostMessage) (stamp : ℕ) → same_host s.own m.flow.destination ≡ true
    → (accepted s (inbound.Message m) stamp).1 ≡ (message_taken m.flow.source stamp m.flow.link.0 m.text (turn_of s m.flow.source)).notices
unfolding accepted
notices_there s m stamp own = rw own refl

-- an RRP that is heard reports nothing of the lives
reply_lives : (a b : Host) (p : Phase) (ls : List Life) → all_lives a (reply_notices b p) ls ≡ ls
reply_lives a b phase.Closed ls = refl
reply_lives a b p ls = refl

module _ (number : ℕ → ℕ → ℕ → ℕ) (tells : IsTelling number) (hosts : Network) (addresses : HaveAddresses hosts.all) (a b : Host) (ours : AreOurs hosts a b)
    (allowed : (ms : List Moment) → mail.IsRun hosts.all (crossings_of ms) → Happened hosts ms → (link : ℕ) → (link == 0) ≡ false → AreAllowed number b link (own_calls a b ms)) where
  one_ordinary : (o : Order) → IsJoint o → IsOrdinary number tells a b o
  one_ordinary (Wrong code octets) j = tt
  one_ordinary (Legal command.Rst) j = absurd (let no : true ≡ false = j in cc)
  one_ordinary (Legal command.Rrp) j = absurd (let no : true ≡ false = j in cc)
  one_ordinary (Legal c) j = tt

  all_ordinary : (os : List Order) → AreJoint os → AreOrdinary number tells a b os
  all_ordinary [] j = tt
  all_ordinary (o ∷ os) j = (one_ordinary o j.0, all_ordinary os j.1)

  module _ (m : HostMessage) (ms : List Moment) (run : mail.IsRun hosts.all (crossings_of (Crossed (crossing.In m) ∷ ms))) (time : Happened hosts (Crossed (crossing.In m) ∷ ms)) (on : keeps a b (event_in (Crossed (crossing.In m))) (events_of ms) ≡ true)
      (mine : same_host a m.flow.destination ≡ true) (theirs : same_host b m.flow.source ≡ true) (old : Carries number a b ms) where
    abbrev x : Moment
    x = Crossed (crossing.In m)

    abbrev t : TurnState
    t = turn_of (program a ms) b

    abbrev new : TurnState
    new = message_taken b (places ms) m.flow.link.0 m.text (turn_of (program a ms) b)

    before : mail.IsRun hosts.all (crossings_of ms)
    before = mail_below hosts.all x ms run

    own_host : a ≡ m.flow.destination
    own_host = same_host-true a m.flow.destination mine

    peer_host : b ≡ m.flow.source
    peer_host = same_host-true b m.flow.source theirs

    own_is : same_host (program a ms).own m.flow.destination ≡ true
    own_is = ap (λ (g : Host). same_host g m.flow.destination) (program_own a ms) ∙ mine

    apart : IsApart m.flow.link.0 m.text (message_on m.flow.link.0 m.text)
    apart = (coupled hosts addresses (Crossed (crossing.In m) ∷ ms) run time).story.0 (plain_at hosts b m.flow.source theirs ours.1, plain_at hosts a m.flow.destination mine ours.0)

    -- ---- the program and the book after it

    pair_now : pair_with b (program a (Crossed (crossing.In m) ∷ ms)).peers ≡ new.pair
    pair_now = rw mine
        (subst (λ (g : Host). pair_with g (accepted (program a ms) (inbound.Message m) (places ms)).0.peers ≡ (message_taken g (places ms) m.flow.link.0 m.text (turn_of (program a ms) g)).pair) (sym peer_host)
        (message_pair (program a ms) m (places ms) own_is))

    notices_now : (accepted (program a ms) (inbound.Message m) (places ms)).1 ≡ new.notices
    notices_now = subst (λ (g : Host). (accepted (program a ms) (inbound.Message m) (places ms)).1 ≡ (message_taken g (places ms) m.flow.link.0 m.text (turn_of (program a ms) g)).notices) (sym peer_host)
        (notices_there (program a ms) m (places ms) own_is)

    lives_now : (kept_in (Crossed (crossing.In m) ∷ ms)).book.lives ≡ all_lives a new.notices (kept_in ms).book.lives
    lives_now = subst (λ (g : Host). (all_told g (accepted (program g ms) (inbound.Message m) (places ms)).1 (crossed (crossing.In m) (kept_in ms))).book.lives ≡ all_lives a new.notices (kept_in ms).book.lives) own_host
        (told_lives a (accepted (program a ms) (inbound.Message m) (places ms)).1 (crossed (crossing.In m) (kept_in ms)) ∙ ap (λ (ns : List Notice). all_lives a ns (kept_in ms).book.lives) notices_now)

    calls_are : calls_by a b (Crossed (crossing.In m)) ms ≡ message_calls b (places ms) m.flow.link.0 m.text (turn_of (program a ms) b)
    calls_are = rw (mine, theirs) refl

    own_are : own_calls a b (Crossed (crossing.In m) ∷ ms) ≡ calls_by a b (Crossed (crossing.In m)) ms ++ own_calls a b ms
    own_are = rw on refl

    -- ---- the calls follow one another, and might be made

    module _ (cs : List calls.Moment) (are : calls_by a b (Crossed (crossing.In m)) ms ≡ cs) where
      own_with : own_calls a b (Crossed (crossing.In m) ∷ ms) ≡ cs ++ own_calls a b ms
      own_with = own_are ∙ ap (λ (k : List calls.Moment). k ++ own_calls a b ms) are

      history : IsHistory b (cs ++ own_calls a b ms)
      history = subst (λ (k : List calls.Moment). IsHistory b k) own_with (chain hosts addresses (Crossed (crossing.In m) ∷ ms) run time a b ours).0

      may : AllAllowed number tells a b (cs ++ own_calls a b ms)
      may link other = subst (λ (k : List calls.Moment). AreAllowed number b link k) own_with (allowed (Crossed (crossing.In m) ∷ ms) run time link other)

    -- ---- where nothing is called

    still : message_calls b (places ms) m.flow.link.0 m.text t ≡ [] → new.pair.entries ≡ (pair_with b (program a ms).peers).entries → all_lives a new.notices (kept_in ms).book.lives ≡ (kept_in ms).book.lives → Carries number a b (Crossed (crossing.In m) ∷ ms)
    still none ends lives =
        still_next number a b (Crossed (crossing.In m)) ms on (calls_are ∙ none) (ap (λ (q : PairState). q.entries) pair_now ∙ ends)
        (λ y host peer there. subst (λ (ls : List Life). Among y ls) (sym same) there) (λ y host peer there. subst (λ (ls : List Life). Among y ls) same there) old where
          same : drop (since a b ms) (kept_in (Crossed (crossing.In m) ∷ ms)).book.lives ≡ recent a b ms
          same = ap (λ (ls : List Life). drop (since a b ms) ls) (lives_now ∙ lives)

    -- ---- where one thing is

    single : (c : calls.Call) → message_calls b (places ms) m.flow.link.0 m.text t ≡ called c (pair_with b (program a ms).peers) (program a ms).listening ∷ []
        → calls.ends_by b c (pair_with b (program a ms).peers) (program a ms).listening ≡ new.pair.entries
        → (AllAllowed number tells a b (called c (pair_with b (program a ms).peers) (program a ms).listening ∷ own_calls a b ms) → Fits c (pair_with b (program a ms).peers))
        → all_lives a new.notices (kept_in ms).book.lives ≡ After a b (deed_of c (pair_with b (program a ms).peers)) (kept_in ms).book.lives
        → Carries number a b (Crossed (crossing.In m) ∷ ms)
    single c is ends fits lives =
        single_next number tells hosts a b ours (Crossed (crossing.In m)) ms addresses run time before time.1 on (called c (pair_with b (program a ms).peers) (program a ms).listening) (calls_are ∙ is) refl (ends ∙ sym (ap (λ (q : PairState). q.entries) pair_now))
        (history (called c (pair_with b (program a ms).peers) (program a ms).listening ∷ []) (calls_are ∙ is)) (may (called c (pair_with b (program a ms).peers) (program a ms).listening ∷ []) (calls_are ∙ is))
        ((held a 0 hosts addresses ours.0 ms before time.1).steady.refusing b) (fits (may (called c (pair_with b (program a ms).peers) (program a ms).listening ∷ []) (calls_are ∙ is))) (lives_now ∙ lives) old

    -- ---- by kinds

    no_reset : message_on m.flow.link.0 m.text ≡ Reset → ⊥
    no_reset is =
        let kept : keeps a b (In m.flow.source m.flow.destination m.flow.link.0 Reset) (events_of ms) ≡ true = subst (λ (n : Message). keeps a b (In m.flow.source m.flow.destination m.flow.link.0 n) (events_of ms) ≡ true) is on in
        none (stay.ready a b (In m.flow.source m.flow.destination m.flow.link.0 Reset ∷ events_of ms)) (are a b m.flow.destination m.flow.source) kept (rw (mine, theirs) refl) where
          none : (r v : Bool) → (r && not v) ≡ true → v ≡ true → ⊥
          none true true f g = absurd (let no : false ≡ true = f in cc)
          none true false f g = absurd (let no : false ≡ true = g in cc)
          none false v f g = absurd (let no : false ≡ true = f in cc)

    joint : message_on m.flow.link.0 m.text ≡ Other m.text → (m.flow.link.0 == 0) ≡ true → AreJoint (orders_of m.text)
    joint is z = plain_joint (orders_of m.text) (subst (λ (n : Message). IsApart m.flow.link.0 m.text n) is apart z)

    text_next : message_on m.flow.link.0 m.text ≡ Other m.text → (m.flow.link.0 == 0) ≡ true → phases.is_ready (pair_with b (program a ms).peers).phase ≡ true → Carries number a b (Crossed (crossing.In m) ∷ ms)
    text_next is z ready =
        kept_next number tells hosts a b ours (Crossed (crossing.In m)) ms addresses run time before time.1 on
        (subst (λ (cs : List calls.Moment). CarryIn a b number cs (pair_with b (program a (Crossed (crossing.In m) ∷ ms)).peers).entries (drop (since a b ms) (kept_in (Crossed (crossing.In m) ∷ ms)).book.lives)) (sym upon)
        (subst (λ (es : List Entry). CarryIn a b number (orders_heard b (places ms) (orders_of m.text) t (own_calls a b ms)) es (drop (since a b ms) (kept_in (Crossed (crossing.In m) ∷ ms)).book.lives)) (sym (ap (λ (q : PairState). q.entries) pair_now ∙ ap (λ (u : TurnState). u.pair.entries) new_is))
        (subst (λ (ls : List Life). CarryIn a b number (orders_heard b (places ms) (orders_of m.text) t (own_calls a b ms)) (orders_taken b (places ms) (orders_of m.text) t).pair.entries (drop (since a b ms) ls)) (sym lives)
        (heard_all number tells a b (kept_in ms) (since a b ms) (places ms) (orders_of m.text) t (own_calls a b ms) (all_ordinary (orders_of m.text) (joint is z)) ready
        (placed_first a b (program a ms) (kept_in ms) (λ k. held a k hosts addresses ours.0 ms before time.1)) (since_within a b ms)
        (subst (λ (cs : List calls.Moment). IsHistory b cs) onto (history (orders_heard b (places ms) (orders_of m.text) t []) heard))
        (λ link other. subst (λ (cs : List calls.Moment). AreAllowed number b link cs) onto (may (orders_heard b (places ms) (orders_of m.text) t []) heard link other)) old)))) where
          new_is : new ≡ orders_taken b (places ms) (orders_of m.text) t
          new_is = rw z refl

          heard : calls_by a b (Crossed (crossing.In m)) ms ≡ orders_heard b (places ms) (orders_of m.text) t []
          heard = calls_are ∙ rw (ready, z) refl

          onto : orders_heard b (places ms) (orders_of m.text) t [] ++ own_calls a b ms ≡ orders_heard b (places ms) (orders_of m.text) t (own_calls a b ms)
          onto = heard_onto b (places ms) (orders_of m.text) t [] (own_calls a b ms)

          upon : calls_by a b (Crossed (crossing.In m)) ms ++ own_calls a b ms ≡ orders_heard b (places ms) (orders_of m.text) t (own_calls a b ms)
          upon = ap (λ (cs : List calls.Moment). cs ++ own_calls a b ms) heard ∙ onto

          lives : (kept_in (Crossed (crossing.In m) ∷ ms)).book.lives ≡ (all_told a (orders_taken b (places ms) (orders_of m.text) t).notices (kept_in ms)).book.lives
          lives = lives_now ∙ ap (λ (u : TurnState). all_lives a u.notices (kept_in ms).book.lives) new_is ∙ sym (told_lives a (orders_taken b (places ms) (orders_of m.text) t).notices (kept_in ms))

    -- an RRP reports nothing of the lives
    ready_reply : (m.flow.link.0 == 0) ≡ true → orders_of m.text ≡ Legal command.Rrp ∷ [] → all_lives a new.notices (kept_in ms).book.lives ≡ (kept_in ms).book.lives
    ready_reply zero orders = rw (zero, orders) (reply_lives a b (pair_with b (program a ms).peers).phase (kept_in ms).book.lives)

    -- a pair that isn't ready hears no orders
    idle : message_on m.flow.link.0 m.text ≡ Other m.text → (m.flow.link.0 == 0) ≡ true → phases.is_ready (pair_with b (program a ms).peers).phase ≡ false → new ≡ t
    idle is z f = rw z (orders_idle b (places ms) (orders_of m.text) t (joint is z) f)

    -- one that is takes data
    data_is : (m.flow.link.0 == 0) ≡ false → phases.is_ready (pair_with b (program a ms).peers).phase ≡ true → new ≡ with_desk t (data_taken m.flow.link.0 m.text (desk_of (pair_with b (program a ms).peers) (program a ms).listening))
    data_is z f = rw (z, f) refl

    by_sort : Sort m.flow.link.0 m.text → (z r : Bool) → (m.flow.link.0 == 0) ≡ z → phases.is_ready (pair_with b (program a ms).peers).phase ≡ r → Carries number a b (Crossed (crossing.In m) ∷ ms)
    by_sort (AnRst zero orders is) z r e f = absurd (no_reset is)
    by_sort (AnRrp zero orders is) z true e f =
        single (Hears (places ms) 0 command.Rrp) (rw (f, zero, orders) refl) (rw (zero, orders) refl) (λ k. (k 2 refl).0.0)
        (ready_reply zero orders ∙ call_told a b (pair_with b (program a ms).peers) (program a ms).listening (Hears (places ms) 0 command.Rrp) tt (kept_in ms).book.lives)
    by_sort (AnRrp zero orders is) z false e f = still (rw f refl) (rw (zero, orders) refl) (ready_reply zero orders)
    by_sort (AText is) true true e f = text_next is e f
    by_sort (AText is) true false e f = still (rw f refl) (ap (λ (u : TurnState). u.pair.entries) (idle is e f)) (ap (λ (u : TurnState). all_lives a u.notices (kept_in ms).book.lives) (idle is e f))
    by_sort (AText is) false true e f =
        single (Takes m.flow.link.0 m.text) (rw (f, e) refl) (rw (e, f) refl) (λ k. tt)
        (ap (λ (u : TurnState). all_lives a u.notices (kept_in ms).book.lives) (data_is e f)
        ∙ call_told a b (pair_with b (program a ms).peers) (program a ms).listening (Takes m.flow.link.0 m.text) tt (kept_in ms).book.lives)
    by_sort (AText is) false false e f = still (rw f refl) (rw (e, f) refl) (rw (e, f) refl)

    here_next : Carries number a b (Crossed (crossing.In m) ∷ ms)
    here_next = by_sort (sort_of m.flow.link.0 m.text) (m.flow.link.0 == 0) (phases.is_ready (pair_with b (program a ms).peers).phase) refl refl

  pub keeps_in : (m : HostMessage) (ms : List Moment)
      → mail.IsRun hosts.all (crossings_of (Crossed (crossing.In m) ∷ ms))
      → Happened hosts (Crossed (crossing.In m) ∷ ms)
      → keeps a b (event_in (Crossed (crossing.In m))) (events_of ms) ≡ true
      → (same_host a m.flow.destination && same_host b m.flow.source) ≡ true → Carries number a b ms → Carries number a b (Crossed (crossing.In m) ∷ ms)
  keeps_in m ms run time on here old =
      let two : (same_host a m.flow.destination ≡ true) × (same_host b m.flow.source ≡ true) = both (same_host a m.flow.destination) (same_host b m.flow.source) here in
      here_next m ms run time on two.0 two.1 old
