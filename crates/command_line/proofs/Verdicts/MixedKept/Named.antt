-- The strangers of a log are hosts that exist, in order.
use Rattle.command_line.proofs.Common.{All, Calls, WorldEvent, shown, IsLawfulAmong, absent_in, opening_mixed, strange_in, WorldState, ArePicked, Replays}
use Rattle.std.proofs.Common.{◌≡◌, Bool, true, false, List, [], ◌∷◌, None, refl, sym, subst, ◌∙◌, filter}
use Rattle.interface.specs.Host.{Host, InOrder, IsAddress, is_host, same_host}
use Rattle.std.proofs.lemmas.Bool.{le-leb, or_left, or_right}
use Rattle.std.proofs.lemmas.List.Elements.{All-cons, All-nil}
use Rattle.interface.proofs.lemmas.{host_before_trans, same_host-refl}
use Rattle.book_log.specs.Log.{AreStrangers}
use Rattle.script.specs.Spelling.{IsHost}
use Rattle.world_replay.specs.Output.{Shown}
use Rattle.command_line.proofs.Verdicts.MixedKept.Stay.{strangers_stay}

-- ---- in order

later : (g : Host) (hosts : List Host) → InOrder (g ∷ hosts) → InOrder hosts
later g [] order = tt
later g (h ∷ hosts) order = order.1

-- without the second
skipped : (g h : Host) (hosts : List Host) → InOrder (g ∷ h ∷ hosts) → InOrder (g ∷ hosts)
skipped g h [] order = tt
skipped g h (k ∷ hosts) order = (host_before_trans g h k order.0 order.1.0, order.1.1)

first_picked : (p : Host → Bool) (g : Host) (hosts : List Host) → InOrder (g ∷ hosts) → InOrder (filter p hosts)
    → InOrder (g ∷ filter p hosts)
first_picked p g [] order picked = tt
first_picked p g (h ∷ hosts) order picked = by (p h) refl (first_picked p g hosts (skipped g h hosts order)) picked
  where
    by : (b : Bool) → p h ≡ b → (InOrder (filter p hosts) → InOrder (g ∷ filter p hosts))
        → InOrder (filter p (h ∷ hosts)) → InOrder (g ∷ filter p (h ∷ hosts))
    by true e rest picked = rw e (order.0, rw e at picked)
    by false e rest picked = rw e (rest (rw e at picked))

-- hosts that are picked out of hosts in order are in order
pub picked_order : (p : Host → Bool) (hosts : List Host) → InOrder hosts → InOrder (filter p hosts)
picked_order p [] order = tt
picked_order p (g ∷ hosts) order = by (p g) refl (picked_order p hosts (later g hosts order)) where
  by : (b : Bool) → p g ≡ b → InOrder (filter p hosts) → InOrder (filter p (g ∷ hosts))
  by true e rest = rw e (first_picked p g hosts order rest)
  by false e rest = rw e rest

-- ---- hosts that exist

address_host : (h : Host) → IsAddress h → IsHost h
address_host h a = rw (le-leb h.host 3 a.host_to, le-leb 1 h.imp a.imp_from, le-leb h.imp 63 a.imp_to) refl

each_named : (named : List Host) → ((h : Host) → is_host named h ≡ true → IsHost h) → All IsHost named
each_named [] valid = All-nil IsHost
each_named (g ∷ named) valid =
    All-cons IsHost g named (valid g (or_left (same_host g g) (is_host named g) (same_host-refl g)))
    (each_named named (λ h there. valid h (or_right (same_host h g) (is_host named h) there)))

-- each of them has an address
pub all_hosts : (named : List Host) → ((h : Host) → is_host named h ≡ true → IsAddress h) → All IsHost named
all_hosts named addresses = each_named named (λ h there. address_host h (addresses h there))

-- hosts that are picked out of a carrier's, and are strangers in a lawful world over it
pub are_strangers : {C : Type 0} (calls : Calls C) (strangers : List Host) (carrier : C) (events : List WorldEvent)
    (last : WorldState C) (shows : List Shown) → absent_in (calls.seen carrier).hosts strangers ≡ None
    → ArePicked (calls.seen carrier).hosts strangers → InOrder (calls.seen carrier).hosts
    → Replays (shown calls) (opening_mixed (shown calls) carrier strangers) events last shows
    → IsLawfulAmong (strange_in last) calls.seen (calls.seen last.carrier).hosts last
    → AreStrangers strangers
are_strangers calls strangers carrier events last shows there picked order replayed lawful = record {
  valid = all_hosts strangers
      (λ h is. lawful.addresses h
      (lawful.strangers h (sym (strangers_stay calls carrier strangers events last shows there replayed h) ∙ is)));
  rising = subst InOrder (sym picked.1) (picked_order picked.0 (calls.seen carrier).hosts order);
}
