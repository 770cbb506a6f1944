-- What `--log` writes is kept, with strangers or without.
use Rattle.command_line.proofs.Common.{reverse-reverse, Calls, CarrierKind, ClosesWhole, Crossing, Fate, Host, is_host, Life, AreSuited, WorldEvent, WorldState, plain_calls, plain_of, subnet_of, subnet_calls, world_book, made_twice, made_with, suited_with, logged_fate, KeepsAmong, KeepsToward, IsWellFormed, AreUnhanded, strange_in, SafeBook, EachIsWithin, EachWasSent, Logged, LogsAmong, TopologyFields, are_some}
use Rattle.std.proofs.Common.{◌≡◌, Bool, true, false, List, [], Some, map, sym, subst, ℕ, reverse}
use Rattle.command_line.specs.Audits.{Judged, kept, IsKeptLog}
use Rattle.command_line.specs.Events.{Asked, Raw, World}
use Rattle.command_line.specs.Logs.{LogsFrom, LogsIn, LogsOver}
use Rattle.mixed_worlds.specs.Book.{beside_among, contacts_among, lives_among}
use Rattle.net_sim.specs.Book.{Kept}
use Rattle.topology.specs.declared.network.CarrierKind.TheVariants as kind
use Rattle.command_line.proofs.Joined.{closes_logged, raw_kept, run_twice, says_logged, suited_logged, world_kept}
use Rattle.command_line.proofs.Verdicts.MixedKept.Stamped.{well_formed}
use Rattle.command_line.proofs.Verdicts.MixedKept.Stay.{strangers_stay}
use Rattle.command_line.proofs.Verdicts.MixedKept.Toward.{fates_logged, toward_each}
use Rattle.command_line.proofs.Verdicts.Named.{kept_from_safe}

-- what holds of a log holds of it turned round twice
twice : (P : List Crossing → Type 0) (log : List Crossing) → P log → P (reverse (reverse log))
twice P log h = subst P (sym (reverse-reverse log)) h

-- the book of a world with strangers is kept, by what a log says of how its lives end
judged : {C : Type 0} (strange : Host → Bool) (hosts : List Host) (w : WorldState C) → KeepsAmong strange hosts w
    → KeepsToward strange w → AreUnhanded w.kept.book.lives w.kept.handed
    → Judged kept strange (reverse w.kept.book.crossings) w.kept.book.lives w.kept.handed (map logged_fate w.kept.fates)
judged {C} strange hosts w among toward lists =
    let k : Kept = w.kept in
    let log : List Crossing = k.book.crossings in
    let some : List Life = lives_among strange k.book.lives in
    let texts : List (List Bool) = beside_among strange k.book.lives k.handed in
    let ends : List Fate = beside_among strange k.book.lives k.fates in
    let told : List Fate = beside_among strange k.book.lives (map logged_fate k.fates) in
    let same : map logged_fate ends ≡ told = sym (fates_logged strange k.book.lives k.fates) in
    kept_from_safe strange (reverse log) k.book.lives k.handed (map logged_fate k.fates) (run_twice hosts log among.run)
    (made_twice log some
    (made_with (contacts_among strange k.book.contacts) log some among.contacts among.formed among.within))
    (twice (λ (cs : List Crossing). IsWellFormed cs k.book.lives k.handed) log
    (well_formed log k.book.lives k.handed toward.messages lists toward.asked))
    (twice (λ (cs : List Crossing). SafeBook cs some texts) log among.safe)
    (twice (λ (cs : List Crossing). EachIsWithin cs some) log among.granted)
    (twice (λ (cs : List Crossing). EachWasSent cs some) log among.sent)
    (twice (λ (cs : List Crossing). ClosesWhole cs some texts told) log
    (subst (λ (fs : List Fate). ClosesWhole log some texts fs) same (closes_logged log some texts ends among.whole)))
    (twice (λ (cs : List Crossing). AreSuited cs some told) log
    (subst (λ (fs : List Fate). AreSuited log some fs) same
    (suited_logged log some ends
    (suited_with (contacts_among strange k.book.contacts) log some ends among.contacts among.over))))
    (toward_each strange k.book.lives k.handed toward.owner toward.taken toward.handed)

-- two tests that give the same of each host are one
pub one_test : (f g : Host → Bool) → ((h : Host) → f h ≡ g h) → f ≡ g
one_test f g same = λ i. λ h. same h i

among_kept : {C : Type 0} (calls : Calls C) (strangers : List Host) (opening : C) (events : List WorldEvent)
    (octets : List ℕ) → LogsAmong calls strangers opening events (Some []) (Some octets) → IsKeptLog octets
among_kept calls strangers opening events octets h =
    let k : Kept = h.last.kept in
    let same : strange_in h.last ≡ (λ g. is_host strangers g) =
    one_test (strange_in h.last) (λ g. is_host strangers g)
    (λ g. sym (strangers_stay calls opening strangers events h.last h.shows h.there h.replayed g)) in
    record {
      strangers = strangers;
      book = world_book k;
      log = record { spelled = h.written; named = h.named; valid = h.valid };
      says = says_logged k h.fated strangers
          (subst (λ (strange : Host → Bool).
          Judged kept strange (reverse k.book.crossings) k.book.lives k.handed (map logged_fate k.fates)) same
          (judged (strange_in h.last) (calls.seen h.last.carrier).hosts h.last h.among h.toward h.lists));
    }

-- ---- with strangers or without

kept_in : {C : Type 0} (among : Bool) (calls : Calls C) (strangers : List Host) (opening : C) (events : List WorldEvent)
    (octets : List ℕ) → LogsIn among calls strangers opening events (Some []) (Some octets) → IsKeptLog octets
kept_in true calls strangers opening events octets h = among_kept calls strangers opening events octets h
kept_in false calls strangers opening events octets h = world_kept calls opening events octets h

kept_from : {C : Type 0} (calls : Calls C) (strangers : List Host) (opening : C) (events : Asked) (octets : List ℕ)
    → LogsFrom calls strangers opening events (Some []) (Some octets) → IsKeptLog octets
kept_from calls strangers opening (Raw events) octets h = raw_kept calls opening events octets h
kept_from calls strangers opening (World events) octets h =
    kept_in (are_some strangers) calls strangers opening events octets h

kept_over : (carrier : CarrierKind) (t : TopologyFields) (events : Asked) (octets : List ℕ)
    → LogsOver carrier t events (Some []) (Some octets) → IsKeptLog octets
kept_over kind.Plain t events octets h = kept_from plain_calls t.strangers (plain_of t) events octets h
kept_over kind.Subnet t events octets h = kept_from subnet_calls t.strangers (subnet_of t) events octets h

pub logged_kept : (octets : List ℕ) → Logged (Some []) (Some octets) → IsKeptLog octets
logged_kept octets h = kept_over h.network.carrier h.network h.events octets h.logged
