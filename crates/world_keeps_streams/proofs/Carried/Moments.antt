-- The lives of a host with one peer, from one moment to the next: where it drops its ends, where it makes one call, and where it makes none.
use Rattle.world_keeps_streams.proofs.Common.{◌≡◌, inl, inr, ℕ, Bool, true, false, List, [], ◌∷◌, ◌++◌, drop, length, refl, ap, sym, subst, ◌∙◌, Host, same_host, same_host-true, listens_on, Entry, IsHistory, IsTelling, ends_after, turn_of, NcpState, pair_with, Kept, HaveAddresses, Moment, event_in, events_of, program, crossings_of, keeps, calls_by, own_calls, Happened, Network, AreOurs}
use Rattle.world_keeps_lives.specs.Lives.{AreRefusing, IsLifeOf, mine_on, EachIn, IsOwned}
use Rattle.world_keeps_lives.proofs.lemmas.{At, Elsewhere, GoodTurn, Near, Place, same_turned, Holds}
use Rattle.interface.specs.Mailboxes as mail
use Rattle.stream_law.specs.Receivers.{Receiver}
use Rattle.stream_law.specs.Senders.{Sender}
use Rattle.host_pairs.proofs.lemmas.{none_left}
use Rattle.host_keeps_streams.specs.Histories as calls
use Rattle.promise.specs.declared.life.Life.{Life}
use Rattle.net_sim.specs.Told.{kept_in}
use Rattle.world_keeps_streams.proofs.Deeds.Effects.{Among}
use Rattle.world_keeps_streams.proofs.Deeds.Kinds.{deed_of}
use Rattle.world_keeps_streams.proofs.Deeds.Told.{After}
use Rattle.world_keeps_streams.proofs.Deeds.Ends.{Fits}
use Rattle.world_keeps_streams.proofs.Carried.Step.{AreOwned, Carry, LifeFor, Lives}
use Rattle.world_keeps_streams.proofs.Carried.Calls.{Carries, CarryIn, carry_none, since}
use Rattle.world_keeps_streams.proofs.Carried.Owned.{IsAway, after_dropped, owned_dropped, owned_now, since_within}
use Rattle.world_keeps_streams.proofs.Carried.Heard.{AllAllowed, call_more}

-- ---- the same lives of this host with this peer, in another list

module _ (told : ℕ → ℕ → ℕ → ℕ → Type 0) (a b : Host) (number : ℕ → ℕ → ℕ → ℕ) (gone : ℕ → ℕ → ℕ) (es : List Entry) (r : ℕ → Receiver) (s : ℕ → Sender) (lives others : List Life)
    (forth : (x : Life) → x.host ≡ a → x.peer ≡ b → Among x lives → Among x others) (back : (x : Life) → x.host ≡ a → x.peer ≡ b → Among x others → Among x lives) where
  lives_moved : (link k : ℕ) → Lives told a b number gone es r s lives link k → Lives told a b number gone es r s others link k
  lives_moved link k l = record { life = l.life; there = forth l.life l.host l.peer l.there; host = l.host; peer = l.peer; gone_before = l.gone_before; carried = l.carried; is = l.is }

  pub carry_moved : Carry told a b number gone es r s lives → Carry told a b number gone es r s others
  unfolding lives_moved
  carry_moved c = record {
    all = λ x there host peer. c.all x (back x host peer there) host peer;
    takes = λ link other k. elim (c.takes link other k) [ inl u ↦ inl u | inr l ↦ inr (lives_moved link k l.0, l.1) ];
    sends = λ link other k. elim (c.sends link other k) [ inl u ↦ inl u | inr l ↦ inr (lives_moved link k l.0, l.1) ];
    opens = λ e there mine o. let l : LifeFor a b e lives = c.opens e there mine o in record { life = l.life; there = forth l.life l.host l.peer l.there; host = l.host; peer = l.peer; goes = l.goes; socket = l.socket; foreign = l.foreign };
    linked = c.linked;
  }

-- ---- the places of a program's sockets

pub placed_first : (a b : Host) (s : NcpState) (κ : Kept) → ((k : ℕ) → Holds a k s κ) → (k : ℕ) → (m : Place) × IsAway b m × GoodTurn a k m b κ (turn_of s b)
placed_first a b s κ holds k = elim (holds k).socket [
  | inl f ↦ (Near, tt, good Near (subst (λ (ms : List Entry). At a k Near b ms (listens_on k s.listening) κ) (sym (f.none b)) f.lives))
  | inr o ↦ owned o (same_host b o.peer) refl
] where
  good : (m : Place) → At a k m b (mine_on k (pair_with b s.peers).entries) (listens_on k s.listening) κ → GoodTurn a k m b κ (turn_of s b)
  good m h = record { refusing = (holds k).steady.refusing b; idle = (holds k).steady.idle b; on = h }

  owned : (o : IsOwned a k s κ) → (v : Bool) → same_host b o.peer ≡ v → (m : Place) × IsAway b m × GoodTurn a k m b κ (turn_of s b)
  owned o true e =
      let same : b ≡ o.peer = same_host-true b o.peer e in
      let one : mine_on k (pair_with b s.peers).entries ≡ o.end ∷ [] = subst (λ (g : Host). mine_on k (pair_with g s.peers).entries ≡ o.end ∷ []) (sym same) o.one in (
        Near,
        tt,
        good Near (subst (λ (ms : List Entry). At a k Near b ms (listens_on k s.listening) κ) (sym one)
            (subst (λ (l : Bool). At a k Near b (o.end ∷ []) l κ) (sym o.silent) (o.fresh, subst (λ (g : Host). EachIn a k (IsLifeOf g o.end) κ) (sym same) o.lives))),
      )
  owned o false e = (
    Elsewhere o.peer o.end,
    same_turned b o.peer e,
    good (Elsewhere o.peer o.end) (subst (λ (ms : List Entry). At a k (Elsewhere o.peer o.end) b ms (listens_on k s.listening) κ) (sym (o.others b e))
        (subst (λ (l : Bool). At a k (Elsewhere o.peer o.end) b [] l κ) (sym o.silent) o.lives)),
  )

-- ---- where a host drops its ends

pub dropped_next : (number : ℕ → ℕ → ℕ → ℕ) (a b : Host) (x : Moment) (ms : List Moment) → keeps a b (event_in x) (events_of ms) ≡ false → (pair_with b (program a (x ∷ ms)).peers).entries ≡ [] → Carries number a b (x ∷ ms)
dropped_next number a b x ms off none =
    rw off (subst (λ (es : List Entry). CarryIn a b number [] es (drop (length (kept_in (x ∷ ms)).book.lives) (kept_in (x ∷ ms)).book.lives)) (sym none)
    (subst (λ (ls : List Life). CarryIn a b number [] [] ls) (sym (none_left (kept_in (x ∷ ms)).book.lives)) (carry_none a b number)))

-- ---- where it keeps them

module _ (number : ℕ → ℕ → ℕ → ℕ) (tells : IsTelling number) (hosts : Network) (a b : Host) (ours : AreOurs hosts a b) (x : Moment) (ms : List Moment) (addresses : HaveAddresses hosts.all) (run : mail.IsRun hosts.all (crossings_of (x ∷ ms))) (time : Happened hosts (x ∷ ms))
    (before : mail.IsRun hosts.all (crossings_of ms)) (time_before : Happened hosts ms) (on : keeps a b (event_in x) (events_of ms) ≡ true) where
  -- all that is shown of the lives since then is shown of the calls and the book
  pub kept_next : CarryIn a b number (calls_by a b x ms ++ own_calls a b ms) (pair_with b (program a (x ∷ ms)).peers).entries (drop (since a b ms) (kept_in (x ∷ ms)).book.lives) → Carries number a b (x ∷ ms)
  kept_next c = rw on c

  -- one call
  pub single_next : (m : calls.Moment) → calls_by a b x ms ≡ m ∷ [] → m.pair.entries ≡ (pair_with b (program a ms).peers).entries → ends_after b m ≡ (pair_with b (program a (x ∷ ms)).peers).entries
      → IsHistory b (m ∷ own_calls a b ms) → AllAllowed number tells a b (m ∷ own_calls a b ms) → AreRefusing m.pair.entries → Fits m.call m.pair
      → (kept_in (x ∷ ms)).book.lives ≡ After a b (deed_of m.call m.pair) (kept_in ms).book.lives → Carries number a b ms → Carries number a b (x ∷ ms)
  single_next m is pair after history allowed refusing fits told c =
      kept_next (subst (λ (cs : List calls.Moment). CarryIn a b number (cs ++ own_calls a b ms) (pair_with b (program a (x ∷ ms)).peers).entries (drop (since a b ms) (kept_in (x ∷ ms)).book.lives)) (sym is)
      (subst (λ (es : List Entry). CarryIn a b number (m ∷ own_calls a b ms) es (drop (since a b ms) (kept_in (x ∷ ms)).book.lives)) after
      (subst (λ (ls : List Life). CarryIn a b number (m ∷ own_calls a b ms) (ends_after b m) ls) (sym same)
      (call_more number tells a b (own_calls a b ms) m (drop (since a b ms) (kept_in ms).book.lives) history allowed refusing fits old now
      (subst (λ (es : List Entry). CarryIn a b number (own_calls a b ms) es (drop (since a b ms) (kept_in ms).book.lives)) (sym pair) c))))) where
        same : drop (since a b ms) (kept_in (x ∷ ms)).book.lives ≡ After a b (deed_of m.call m.pair) (drop (since a b ms) (kept_in ms).book.lives)
        same = ap (λ (ls : List Life). drop (since a b ms) ls) told ∙ after_dropped a b (deed_of m.call m.pair) (since a b ms) (kept_in ms).book.lives (since_within a b ms)

        old : AreOwned a b m.pair.entries (drop (since a b ms) (kept_in ms).book.lives)
        old = subst (λ (es : List Entry). AreOwned a b es (drop (since a b ms) (kept_in ms).book.lives)) (sym pair)
            (owned_dropped a b (pair_with b (program a ms).peers).entries (since a b ms) (kept_in ms).book.lives (owned_now hosts ms addresses before time_before a b ours.0))

        now : AreOwned a b (ends_after b m) (After a b (deed_of m.call m.pair) (drop (since a b ms) (kept_in ms).book.lives))
        now = subst (λ (ls : List Life). AreOwned a b (ends_after b m) ls) same
            (subst (λ (es : List Entry). AreOwned a b es (drop (since a b ms) (kept_in (x ∷ ms)).book.lives)) (sym after)
            (owned_dropped a b (pair_with b (program a (x ∷ ms)).peers).entries (since a b ms) (kept_in (x ∷ ms)).book.lives (owned_now hosts (x ∷ ms) addresses run time a b ours.0)))
