-- Lives of the book that continue at both ends of the same sockets match.
use Rattle.world_keeps_connections.proofs.Common.{◌≡◌, ℕ, true, false, ◌==◌, List, Option, Some, None, refl, ap, sym, subst, ◌∙◌, eq-eqb, Contains, Host, same_host, same_host-refl, is_send_socket, ArePartners, Seen, Crossing, HaveAddresses, IsLawful, WorldState, Match, own_request, receives, sends, Moment, crossings_of, Coupled, origin_in, is_between, life_of, AreOpposite}
use Rattle.std.proofs.Common.{IsSome}
use Rattle.interface.specs.Mailboxes as mail
use Rattle.reset_law.specs.Network.{AreOurs, Network, all_ours}
use Rattle.net_sim.specs.Book.{Kept}
use Rattle.net_sim.specs.Mixed.{Happened, mixed_kept}
use Rattle.net_sim.proofs.lemmas.{coupled, kept_same}
use Rattle.net_sim.proofs.lemmas.AllOurs.{happened}
use Rattle.world_keeps_pairing.proofs.lemmas.{between_itself, book_lives, book_run, life_matches, partner_named, served_in}
use Rattle.promise.specs.Safe.{before, control_flow, last_out, named}
use Rattle.promise.specs.declared.life.Life as book
use Rattle.world_keeps_pairing.specs.Free.{place_or}
use Rattle.world_keeps_connections.proofs.Going.{life_known}
use Rattle.world_keeps_connections.proofs.Users.{known_partners}

-- the request that a place names
request_is : (o : Option ℕ) (x y : book.Life) → IsSome (named x o) → place_or 0 o ≡ y.own_stamp → x.foreign ≡ y.socket → y.foreign ≡ x.socket → named x o ≡ Some (own_request y)
request_is None x y some e f g = absurd (let r : false ≡ true = some in cc)
request_is (Some n) x y some e f g =
    ap (λ (k : ℕ). Some (record { place = k; own = x.foreign; foreign = x.socket })) e
    ∙ ap (λ (k : ℕ). Some (record { place = y.own_stamp; own = k; foreign = x.socket })) f
    ∙ ap (λ (k : ℕ). Some (record { place = y.own_stamp; own = y.socket; foreign = k })) (sym g)

between : (x y : book.Life) → AreOpposite x y → is_between x.peer x.host x.foreign x.socket y ≡ true
between x y o =
    let a : same_host x.peer y.host ≡ true = subst (λ (z : Host). same_host x.peer z ≡ true) o.0 (same_host-refl x.peer) in
    let b : same_host x.host y.peer ≡ true = subst (λ (z : Host). same_host x.host z ≡ true) (sym o.1) (same_host-refl x.host) in
    let c : (y.socket == x.foreign) ≡ true = eq-eqb y.socket x.foreign (sym o.2) in
    let d : (y.foreign == x.socket) ≡ true = eq-eqb y.foreign x.socket o.3 in
    rw (a, b, c, d) refl

pub live_match : (hosts : Network) (moments : List Moment) → HaveAddresses hosts.all → mail.IsRun hosts.all (crossings_of moments) → Happened hosts moments → (x y : book.Life) → AreOurs hosts x.host x.peer → Contains (mixed_kept hosts.strange moments).book.lives x
    → Contains (mixed_kept hosts.strange moments).book.lives y → x.ended ≡ false → y.ended ≡ false → AreOpposite x y → receives x ≡ true → sends y ≡ true → Match (crossings_of moments) x y
live_match hosts moments addresses run time x y ours here there on also o receiving sending =
    let k : Coupled hosts moments = coupled hosts addresses moments run time in
    let odd : is_send_socket x.foreign ≡ true = ap is_send_socket o.2 ∙ sending in
    let hers : AreOurs hosts y.host y.peer = (subst (λ (h : Host). hosts.strange h ≡ false) o.0 ours.1, subst (λ (h : Host). hosts.strange h ≡ false) (sym o.1) ours.0) in
    let partners : ArePartners (life_of (origin_in (crossings_of moments) x.host x.peer) x) (life_of (origin_in (crossings_of moments) x.peer x.host) y) =
    known_partners hosts moments addresses run time x.host x.peer ours (record { receive = x.socket; send = x.foreign }) receiving odd
    (life_of (origin_in (crossings_of moments) x.host x.peer) x) (life_of (origin_in (crossings_of moments) x.peer x.host) y)
    (life_known (origin_in (crossings_of moments) x.host x.peer) x.host x.peer x.socket x.foreign hosts moments run time ours.0 x here (between_itself x) on)
    (life_known (origin_in (crossings_of moments) x.peer x.host) x.peer x.host x.foreign x.socket hosts moments run time ours.1 y there (between x y o) also) in
    life_matches hosts moments k.story k.run run (served_in hosts moments time) x y ours hers here there receiving
    (request_is (last_out (control_flow x.peer x.host) (before x.partner_stamp (crossings_of moments))) x y (partner_named hosts moments k.story k.run run (served_in hosts moments time) x ours here) partners.0 o.2 o.3)

-- ---- over a carrier

pub world_match : {C : Type 0} (seen : C → Seen) (hosts : List Host) (w : WorldState C) → IsLawful seen hosts w → (x y : book.Life) → Contains w.kept.book.lives x → Contains w.kept.book.lives y
    → x.ended ≡ false → y.ended ≡ false → AreOpposite x y → receives x ≡ true → sends y ≡ true → Match w.kept.book.crossings x y
world_match seen hosts w lawful x y here there on also o receiving sending =
    subst (λ (log : List Crossing). Match log x y) (sym lawful.whole.crossings)
    (live_match (all_ours hosts) lawful.whole.moments lawful.addresses (book_run seen hosts w lawful) (happened hosts lawful.whole.moments lawful.whole.timeline) x y (refl, refl) (kept x here) (kept y there) on also o receiving sending) where
      kept : (z : book.Life) → Contains w.kept.book.lives z
          → Contains (mixed_kept (λ h. false) lawful.whole.moments).book.lives z
      kept z i = subst (λ (k : Kept). Contains k.book.lives z) (sym (kept_same lawful.whole.moments)) (subst (λ (lives : List book.Life). Contains lives z) (book_lives seen hosts w lawful) i)
