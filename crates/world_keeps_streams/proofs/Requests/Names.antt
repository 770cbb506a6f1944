-- A life's partner's request stays the same while more crosses; and two lives of one connection match.
use Rattle.world_keeps_streams.proofs.Common.{Contains, Host, Crossing, Moment, crossings_of, Coupled, law_events, origin_in, place_or, origin_or, steps, Network, AreOurs, lives_among, mixed_kept}
use Rattle.std.proofs.Common.{◌≡◌, ℕ, suc, true, false, List, [], ◌++◌, Option, Some, None, refl, ap, sym, subst, ◌∙◌, IsSome}
use Rattle.pairing_law.specs.Links.{events_at}
use Rattle.pairing_law.specs.Partners.{IsIn, OwnOnce}
use Rattle.pairing_law.proofs.lemmas.{run_at, safe_run}
use Rattle.promise.specs.Safe.{Match, SafePartners, control_flow, last_out, own_request, partner_request, before, named, receives}
use Rattle.world_keeps_pairing.specs.Lives.{life_of, openings, with_lives}
use Rattle.world_keeps_pairing.proofs.lemmas.{all_tied, are_origins, served_in, between_itself, by_sockets, in_among, lives_among as pairing_lives, one_own, place_there, told_in}
use Rattle.pairing_law.specs.Sides.{Life}
use Rattle.promise.specs.declared.life.Life as book
use Rattle.world_keeps_streams.proofs.Requests.Sides.{Lawful, Own, Heard, coupled_in, lives_in, same_request}
use Rattle.world_keeps_streams.proofs.Lives.Among.{safe_partners, among_there, kept_there, life_matches, partner_named}
use Rattle.world_keeps_streams.proofs.Ours.{ours_of}

some_place : (x : book.Life) (o : Option ℕ) → IsSome (named x o) → (p : ℕ) × (o ≡ Some p)
some_place x None i = absurd (let none : false ≡ true = i in cc)
some_place x (Some p) i = (p, refl)

-- what the same place names whatever it is named by where there is none
same_place : (o m : Option ℕ) → ((none : ℕ) → place_or none m ≡ place_or none o) → (p : ℕ) × (o ≡ Some p) → m ≡ o
same_place o m f some = place_there some.0 m (f (suc some.0) ∙ ap (place_or (suc some.0)) some.1) ∙ sym some.1

module _ (hosts : Network) (ms : List Moment) (l : Lawful hosts ms) where
  owns : (h p : Host) → AreOurs hosts h p → (own foreign : ℕ) → OwnOnce (openings h p own foreign ms)
  owns h p ours own foreign =
      let c : Coupled hosts ms = coupled_in hosts ms l in
      by_sockets OwnOnce h p own foreign ms
      (λ q. (safe_run (events_at (record { receive = own; send = foreign }) (steps h p (law_events ms)))
      (run_at (record { receive = own; send = foreign }) (steps h p (law_events ms)) ((all_tied hosts (origin_in (crossings_of ms)) ms (are_origins 0 (crossings_of ms) [] ms refl) c.story c.run (served_in hosts ms l.2)).tied h p ours).steps)).own_once.0)
      (λ q. (safe_run (events_at (record { receive = foreign; send = own }) (steps p h (law_events ms)))
      (run_at (record { receive = foreign; send = own }) (steps p h (law_events ms)) ((all_tied hosts (origin_in (crossings_of ms)) ms (are_origins 0 (crossings_of ms) [] ms refl) c.story c.run (served_in hosts ms l.2)).tied p h (ours.1, ours.0)).steps)).own_once.1)
      (λ u. tt)

  -- a life is an opening by any longer log too
  opening_by : (none : ℕ) (newer : List Crossing) (x : book.Life) → AreOurs hosts x.host x.peer
      → Contains (lives_in ms) x
      → IsIn (life_of (origin_or none (newer ++ crossings_of ms) x.host x.peer) x) (openings x.host x.peer x.socket x.foreign ms)
  opening_by none newer x ours there =
      let c : Coupled hosts ms = coupled_in hosts ms l in
      in_among _ _
      _
      (pairing_lives hosts (origin_or none (newer ++ crossings_of ms)) ms (are_origins none _ newer ms refl) c.story c.run l.1 (served_in hosts ms l.2) x.host x.peer ours x.socket x.foreign)
      (told_in (origin_or none (newer ++ crossings_of ms) x.host x.peer) x.host x.peer x.socket x.foreign x _ (kept_there hosts ms x ours there) (between_itself x))

  out_place : (x : book.Life) → AreOurs hosts x.host x.peer → Contains (lives_in ms) x
      → (p : ℕ) × (last_out (control_flow x.peer x.host) (before x.partner_stamp (crossings_of ms)) ≡ Some p)
  out_place x ours there =
      let c : Coupled hosts ms = coupled_in hosts ms l in
      some_place x _ (partner_named hosts ms c.story c.run l.1 (served_in hosts ms l.2) x ours there)

  last_grows : (newer : List Crossing) (x : book.Life) → AreOurs hosts x.host x.peer → Contains (lives_in ms) x
      → last_out (control_flow x.peer x.host) (before x.partner_stamp (newer ++ crossings_of ms)) ≡ last_out (control_flow x.peer x.host) (before x.partner_stamp (crossings_of ms))
  last_grows newer x ours there =
      same_place _ _
      (λ none. ap (λ (v : Life). v.partner)
      (one_own _ _ (openings x.host x.peer x.socket x.foreign ms)
      (owns x.host x.peer ours x.socket x.foreign) (opening_by none newer x ours there) (opening_by none [] x ours there) refl)) (out_place x ours there)

  pub request_grows : (newer : List Crossing) (x : book.Life) → AreOurs hosts x.host x.peer → Contains (lives_in ms) x
      → partner_request (newer ++ crossings_of ms) x ≡ partner_request (crossings_of ms) x
  request_grows newer x ours there = ap (named x) (last_grows newer x ours there)

  pub origin_grows : (newer : List Crossing) (x : book.Life) → AreOurs hosts x.host x.peer → Contains (lives_in ms) x
      → origin_in (newer ++ crossings_of ms) x.host x.peer x.partner_stamp ≡ origin_in (crossings_of ms) x.host x.peer x.partner_stamp
  origin_grows newer x ours there = ap (place_or 0) (last_grows newer x ours there)

  -- ---- lives of one connection match

  -- where the sender took what went out where the receiver's request did
  matched_by : (a b : Host) (x s : book.Life) → AreOurs hosts x.host x.peer → AreOurs hosts s.host s.peer
      → Contains (lives_in ms) x → Contains (lives_in ms) s → (s.host ≡ b) × (s.peer ≡ a)
      → (x.socket ≡ s.foreign) × (x.foreign ≡ s.socket) → receives x ≡ true
      → origin_in (crossings_of ms) b a s.partner_stamp ≡ x.own_stamp → Match (crossings_of ms) x s
  matched_by a b x s ours theirs here there of_b ends receiving place =
      let c : Coupled hosts ms = coupled_in hosts ms l in
      let out : (p : ℕ) × (last_out (control_flow s.peer s.host) (before s.partner_stamp (crossings_of ms)) ≡ Some p) = out_place s theirs there in
      let origin : origin_in (crossings_of ms) s.host s.peer s.partner_stamp ≡ out.0 = ap (place_or 0) out.1 in
      let same : out.0 ≡ x.own_stamp = sym origin ∙ ap (λ (h : Host). origin_in (crossings_of ms) h s.peer s.partner_stamp) of_b.0 ∙ ap (λ (h : Host). origin_in (crossings_of ms) b h s.partner_stamp) of_b.1 ∙ place in
      let answered : partner_request (crossings_of ms) s ≡ Some (own_request x) =
      ap (named s) out.1
      ∙ ap (λ (n : ℕ). Some (record { place = n; own = s.foreign; foreign = s.socket })) same
      ∙ ap (λ (n : ℕ). Some (record { place = x.own_stamp; own = n; foreign = s.socket })) (sym ends.0)
      ∙ ap (λ (n : ℕ). Some (record { place = x.own_stamp; own = x.socket; foreign = n })) (sym ends.1) in
      let partners : SafePartners (crossings_of ms) (lives_among hosts.strange (lives_in ms)) = safe_partners hosts ms c.story c.run l.1 (served_in hosts ms l.2) in
      life_matches hosts ms c.story c.run l.1 (served_in hosts ms l.2) x s ours theirs here there receiving (partners.both_ways s x (among_there hosts s (lives_in ms) theirs there) (among_there hosts x (lives_in ms) ours here) answered)

  pub matched : (a b : Host) → AreOurs hosts a b → (x s : book.Life) (g : ℕ) → Contains (lives_in ms) x
      → Contains (lives_in ms) s → (x.host ≡ a) × (x.peer ≡ b) → (s.host ≡ b) × (s.peer ≡ a)
      → (x.socket ≡ s.foreign) × (x.foreign ≡ s.socket) → receives x ≡ true
      → Own a b ms x.socket x.foreign x.own_stamp g → Heard a b ms s.foreign s.socket s.partner_stamp g → Match (crossings_of ms) x s
  matched a b ours x s g here there of_a of_b ends receiving own heard =
      let taken : Heard a b ms x.socket x.foreign s.partner_stamp g = subst (λ (n : ℕ). Heard a b ms n x.foreign s.partner_stamp g) (sym ends.0) (subst (λ (n : ℕ). Heard a b ms s.foreign n s.partner_stamp g) (sym ends.1) heard) in
      matched_by a b x s (ours_of hosts x a b ours of_a) (ours_of hosts s b a (ours.1, ours.0) of_b) here there of_b ends receiving (same_request hosts ms l a b ours x.socket x.foreign x.own_stamp s.partner_stamp g own taken)
