-- The strangers of a world are those that were named, whatever happens in it.
use Rattle.command_line.proofs.Common.{Calls, WorldState, WorldEvent, shown, absent_in, opening_mixed, strange_in, Replays}
use Rattle.std.proofs.Common.{◌≡◌, Bool, true, false, List, [], ◌∷◌, None, Some, refl, sym, ap, ◌∙◌, inl, inr, ◌&&◌, filter}
use Rattle.interface.specs.Host.{Host, is_host, same_host}
use Rattle.std.proofs.lemmas.Bool.{false≢true, or_cases}
use Rattle.std.proofs.lemmas.Map.Views.{any-filter_same}
use Rattle.interface.proofs.lemmas.{and_true, both_ways, same_host-true}
use Rattle.world_replay.proofs.lemmas.{replay_same}
use Rattle.world_replay.specs.Output.{Shown}
use Rattle.world_script.specs.declared.event.WorldEvent.TheVariants as mixed

-- ---- hosts of the network that are named are its strangers

-- each that is named is there
there_is : (hosts named : List Host) (h : Host) → absent_in hosts named ≡ None → is_host named h ≡ true
    → is_host hosts h ≡ true
there_is hosts [] h none is = absurd (false≢true is)
there_is hosts (g ∷ named) h none is = by (is_host hosts g) refl (λ e i. there_is hosts named h e i) none
  where
    by : (b : Bool) → is_host hosts g ≡ b
        → (absent_in hosts named ≡ None → is_host named h ≡ true → is_host hosts h ≡ true)
        → absent_in hosts (g ∷ named) ≡ None → is_host hosts h ≡ true
    by true e rest absent = elim (or_cases (same_host h g) (is_host named h) is) [
      | inl same ↦ ap (is_host hosts) (same_host-true h g same) ∙ e
      | inr other ↦ rest (rw e at absent) other
    ]
    by false e rest absent = absurd (let none : Some g ≡ None = rw e at absent in cc)

picked_is : (p : Host → Bool) (hosts : List Host) (h : Host) → is_host (filter p hosts) h ≡ (p h && is_host hosts h)
picked_is p hosts h = any-filter_same (same_host h) p (p h) (λ k same. ap p (sym (same_host-true h k same))) hosts

and_both : (a b : Bool) → a ≡ true → b ≡ true → (a && b) ≡ true
and_both true true p q = refl
and_both true false p q = q
and_both false b p q = p

named_is : (hosts named : List Host) (h : Host) → absent_in hosts named ≡ None
    → is_host named h ≡ is_host (filter (λ g. is_host named g) hosts) h
named_is hosts named h none = both_ways (is_host named h) (is_host (filter (λ g. is_host named g) hosts) h)
    (λ is. picked_is (λ g. is_host named g) hosts h
    ∙ and_both (is_host named h) (is_host hosts h) is (there_is hosts named h none is))
    (λ is. (and_true (is_host named h) (is_host hosts h) (sym (picked_is (λ g. is_host named g) hosts h) ∙ is)).0)

-- so after any replay a host is a stranger exactly where it is named
pub strangers_stay : {C : Type 0} (calls : Calls C) (opening : C) (named : List Host) (events : List WorldEvent)
    (last : WorldState C) (shows : List Shown) → absent_in (calls.seen opening).hosts named ≡ None
    → Replays (shown calls) (opening_mixed (shown calls) opening named) events last shows
    → (h : Host) → is_host named h ≡ strange_in last h
strangers_stay calls opening named events last shows none replayed h =
    named_is (calls.seen opening).hosts named h none
    ∙ ap (λ (hosts : List Host). is_host hosts h)
    (sym (replay_same (shown calls) events (opening_mixed (shown calls) opening named) last shows replayed))

-- whatever is named: these are the hosts of the network that are named
pub picked_stay : {C : Type 0} (calls : Calls C) (opening : C) (named : List Host) (last : WorldState C)
    → last.strangers ≡ (opening_mixed (shown calls) opening named).strangers
    → (h : Host) → strange_in last h ≡ (is_host named h && is_host (calls.seen opening).hosts h)
picked_stay calls opening named last same h =
    ap (λ (hosts : List Host). is_host hosts h) same
    ∙ picked_is (λ g. is_host named g) (calls.seen opening).hosts h
