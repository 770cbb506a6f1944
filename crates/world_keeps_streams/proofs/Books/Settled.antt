-- In a world that has settled all lives that match agree.
use Rattle.world_keeps_streams.proofs.Common.{Contains, Seen, same_host-true, Crossing, stays_ready, IsLawful, events_of, program, crossings_of, WorldState, Seat, NoneOut, all_ours}
use Rattle.std.proofs.Common.{◌≡◌, ◌<◌, ℕ, zero, suc, Bool, true, List, [], ◌∷◌, ◌++◌, length, map, Option, Some, None, refl, ap, sym, subst, ◌∙◌, arith, false, slice_get}
use Rattle.interface.specs.Host.{Host, same_host, is_host}
use Rattle.interface.specs.Mailboxes as mail
use Rattle.sockets.specs.Sending.{next_out}
use Rattle.net_sim.specs.Told.{kept_in}
use Rattle.net_sim.specs.Whole.{seat_in}
use Rattle.net_sim.proofs.lemmas.{up_host, up_same}
use Rattle.promise.specs.declared.life.Life.{Life}
use Rattle.world_keeps_streams.specs.Settled.{EachAgrees, HasSettled}
use Rattle.world_keeps_streams.proofs.Books.Arrives.{stays_of}
use Rattle.world_keeps_streams.proofs.Books.Calm.{calm}
use Rattle.world_keeps_streams.proofs.Requests.Sides.{Lawful, coupled_in, book_lawful}
use Rattle.world_keeps_streams.proofs.Stays.Resets.{up_ready}

-- ---- the seat of a host that is up

-- the place of a host in a list
place_of : (h : Host) (hosts : List Host) → is_host hosts h ≡ true → (at : ℕ) × (at < length hosts) × (slice_get hosts at ≡ Some h)
place_of h [] there = absurd (let no : false ≡ true = there in cc)
place_of h (g ∷ hosts) there = by (same_host h g) refl (place_of h hosts) where
  by : (b : Bool) → same_host h g ≡ b → (is_host hosts h ≡ true → (at : ℕ) × (at < length hosts) × (slice_get hosts at ≡ Some h)) → (at : ℕ) × (at < suc (length hosts)) × (slice_get (g ∷ hosts) at ≡ Some h)
  by true t rest = (0, omega arith, ap (λ (x : Host). Some x) (sym (same_host-true h g t)))
  by false t rest = let later : (at : ℕ) × (at < length hosts) × (slice_get hosts at ≡ Some h) = rest (rw t at there) in (suc later.0, omega (arith, later.1), later.2)

get_mapped : (change : Host → Seat) (hosts : List Host) (at : ℕ) (h : Host) → slice_get hosts at ≡ Some h → slice_get (map change hosts) at ≡ Some (change h)
get_mapped change [] at h is = absurd (let no : None ≡ Some h = is in cc)
get_mapped change (g ∷ hosts) zero h is = ap (λ (o : Option Host). mapped o) is where
  mapped : Option Host → Option Seat
  mapped None = None
  mapped (Some x) = Some (change x)
get_mapped change (g ∷ hosts) (suc at) h is = get_mapped change hosts at h is

length_mapped : (change : Host → Seat) (hosts : List Host) → length (map change hosts) ≡ length hosts
length_mapped change [] = refl
length_mapped change (g ∷ hosts) = ap (λ (n : ℕ). suc n) (length_mapped change hosts)

-- ---- a world

module _ {C : Type 0} (seen : C → Seen) (hosts : List Host) (w : WorldState C) (lawful : IsLawful seen hosts w) (settled : HasSettled seen w) where
  l : Lawful (all_ours hosts) lawful.whole.moments
  l = book_lawful seen hosts w lawful

  -- a host that is up has nothing to say
  mute : (h : Host) → mail.is_up hosts h (crossings_of lawful.whole.moments) ≡ true → next_out (program h lawful.whole.moments) ≡ None
  mute h up =
      let place : (at : ℕ) × (at < length hosts) × (slice_get hosts at ≡ Some h) = place_of h hosts (up_host hosts h (crossings_of lawful.whole.moments) l.1 up) in
      let seats : w.seats ≡ map (seat_in hosts lawful.whole.moments) hosts = lawful.whole.seats settled.running in
      let here : slice_get w.seats place.0 ≡ Some (seat_in hosts lawful.whole.moments h) = ap (λ (ss : List Seat). slice_get ss place.0) seats ∙ get_mapped (seat_in hosts lawful.whole.moments) hosts place.0 h place.2 in
      let within : place.0 < length w.seats = subst (λ (n : ℕ). place.0 < n) (sym (ap (λ (ss : List Seat). length ss) seats ∙ length_mapped (seat_in hosts lawful.whole.moments) hosts)) place.1 in
      settled.silent place.0 within (seat_in hosts lawful.whole.moments h) here (program h lawful.whole.moments) (rw up refl)

  -- the host of a life that isn't over is up
  up_of : (x : Life) → Contains (kept_in lawful.whole.moments).book.lives x → x.ended ≡ false → mail.is_up hosts x.host (crossings_of lawful.whole.moments) ≡ true
  up_of x there goes =
      sym (up_same hosts x.host lawful.whole.moments)
      ∙ up_ready (all_ours hosts) (events_of lawful.whole.moments) (coupled_in (all_ours hosts) lawful.whole.moments l).run x.host x.peer (refl, refl) (stays_ready (events_of lawful.whole.moments) x.host x.peer (stays_of (all_ours hosts) lawful.whole.moments l x (refl, refl) there goes))

  log_is : (seen w.carrier).log ≡ crossings_of lawful.whole.moments
  log_is = lawful.booked.book ∙ ap (λ (more : List Crossing). more ++ w.kept.book.crossings) (lawful.booked.all settled.running) ∙ lawful.whole.crossings

  none_out : (a b : Host) → mail.is_up hosts a (crossings_of lawful.whole.moments) ≡ true → mail.is_up hosts b (crossings_of lawful.whole.moments) ≡ true → NoneOut a b (crossings_of lawful.whole.moments)
  none_out a b there back link =
      subst (λ (log : List Crossing). mail.box_of (record { source = a; destination = b; link = record { 0 = link } }) log ≡ mail.Empty) log_is
      (settled.answered (record { source = a; destination = b; link = record { 0 = link } }) (up_there a there) (up_there b back)) where
        up_there : (h : Host) → mail.is_up hosts h (crossings_of lawful.whole.moments) ≡ true → mail.is_up (seen w.carrier).hosts h (seen w.carrier).log ≡ true
        up_there h up = subst (λ (hs : List Host). mail.is_up hs h (seen w.carrier).log ≡ true) (sym lawful.whole.network) (subst (λ (log : List Crossing). mail.is_up hosts h log ≡ true) (sym log_is) up)

  pub world_settles : EachAgrees lawful.whole.moments
  world_settles x s here there matches goes sender_goes end giver =
      let up : mail.is_up hosts x.host (crossings_of lawful.whole.moments) ≡ true = up_of x here goes in
      let sender_up : mail.is_up hosts s.host (crossings_of lawful.whole.moments) ≡ true = up_of s there sender_goes in
      calm (all_ours hosts) lawful.whole.moments l x s (refl, refl)
      (record {
        there = here;
        sender_there = there;
        matches = matches;
        goes = goes;
        sender_goes = sender_goes;
        end = end;
        giver = giver;
        idle = record { there = none_out x.host s.host up sender_up; back = none_out s.host x.host sender_up up; mute = mute x.host up; mute_back = mute s.host sender_up };
      })
