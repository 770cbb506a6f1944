-- Lives at rest whose ends are open, and between whose hosts no command is on its way, agree on what may still be sent.
use Rattle.world_keeps_streams.proofs.Common.{◌≡◌, ℕ, suc, ◌==◌, Bool, true, List, [], length, refl, ap, sym, subst, ◌∙◌, arith, ◌++◌, eqb-true, Seen, Host, Allocation, message_bits, is_link, sends_on, has_opened, numbered, numbered_tells, IsLawful, Moment, events_of, WorldState, numbered_by_peer, Network, AreOurs, all_ours}
use Rattle.pair_keeps_streams.proofs.lemmas.{OfOne, agree, counters, linked}
use Rattle.world_keeps_streams.specs.Rests.{Agree, AllAgree, AreSettled}
use Rattle.stream_law.specs.Agreed.{AreAgreed}
use Rattle.stream_law.specs.Receivers.{Receiver}
use Rattle.reset_law.specs.Stays as stay
use Rattle.promise.specs.declared.life.Life.{Life}
use Rattle.world_keeps_lives.specs.Lives.{AddsUp}
use Rattle.world_keeps_streams.proofs.Books.Arrives.{rest_lawful}
use Rattle.world_keeps_streams.proofs.Books.Closes as closes
use Rattle.world_keeps_streams.proofs.Books.One.{HasPartner}
use Rattle.world_keeps_streams.proofs.Books.Silent as silent
use Rattle.world_keeps_streams.proofs.Books.Streams.{all_bits_length}
use Rattle.world_keeps_streams.proofs.Books.Whole.{GoesOn, PresentR, Whole}
use Rattle.world_keeps_streams.proofs.Requests.Sides.{Heard, Lawful, Own, book_lawful}
use Rattle.world_keeps_streams.proofs.Steps.Joined.{Joined, party, turned_tells}

-- ---- two lives

module _ (hosts : Network) (ms : List Moment) (l : Lawful hosts ms) (x s : Life) (ours : AreOurs hosts x.host x.peer)
    (q : AreSettled ms x s) where
  abbrev partner : HasPartner ms x s
  partner = record { there = q.rest.sender_there; matches = q.rest.matches; goes = q.rest.sender_goes; end = q.giver }

  abbrev w : Whole x.host x.peer (Own x.host x.peer) (Heard x.host x.peer) ms
  w = closes.w hosts ms l x (closes.at_rest hosts ms l x s ours q.rest)

  abbrev at : closes.AtLink hosts ms x
  at = closes.at_rest hosts ms l x s ours q.rest

  abbrev here : stay.stays x.host x.peer (events_of ms) ≡ true
  here = silent.here hosts ms l x s at partner

  abbrev there : stay.stays x.peer x.host (events_of ms) ≡ true
  there = silent.there hosts ms l x s at partner

  abbrev j : (m : ℕ) → Joined x.host x.peer (suc m) ms
  j m = silent.j hosts ms l x s at partner m

  abbrev of_one : (m : ℕ) → OfOne numbered numbered_by_peer (party x.host x.peer (suc m) (j m).rest_a ms) (party x.peer x.host (suc m) (j m).rest_b ms) q.rest.end.end q.giver.end
  of_one m = silent.of_one hosts ms l x s at partner m

  abbrev giver_opened : has_opened q.giver.end ≡ true
  giver_opened = silent.giver_opened hosts ms l x s at partner

  abbrev silent_a : (m : ℕ) → (party x.host x.peer (suc m) (j m).rest_a ms).pending ≡ []
  silent_a m = silent.silent_a hosts ms l x s at partner q.silent m

  abbrev silent_b : (m : ℕ) → (party x.peer x.host (suc m) (j m).rest_b ms).pending ≡ []
  silent_b m = silent.silent_b hosts ms l x s at partner q.silent m

  -- ---- on the link that both have

  abbrev k : (m : ℕ) × ((silent.giver_link hosts ms l x s at partner).0 ≡ suc m)
  k = silent.k hosts ms l x s at partner

  abbrev sends : sends_on (suc k.0) q.giver.end ≡ true
  sends = silent.sends hosts ms l x s at partner

  same_link : k.0 ≡ closes.n hosts ms l x (closes.at_rest hosts ms l x s ours q.rest)
  same_link =
      let on : is_link (suc k.0) q.rest.end.end.link ≡ true =
      linked numbered numbered_by_peer numbered_tells turned_tells (suc k.0) (j k.0).x (j k.0).y (party x.host x.peer (suc k.0) (j k.0).rest_a ms) (party x.peer x.host (suc k.0) (j k.0).rest_b ms) (j k.0).joint here there
      q.rest.end.end q.giver.end (of_one k.0) sends (λ own foreign g. refl) q.rest.opened giver_opened (silent_a k.0) (silent_b k.0) in
      let is : (q.rest.link == suc k.0) ≡ true = ap (is_link (suc k.0)) (sym q.rest.linked) ∙ on in
      closes.suc_is k.0 (closes.n hosts ms l x (closes.at_rest hosts ms l x s ours q.rest)) (sym (eqb-true q.rest.link (suc k.0) is) ∙ closes.place_is hosts ms l x (closes.at_rest hosts ms l x s ours q.rest))

  abbrev n : ℕ
  n = closes.n hosts ms l x (closes.at_rest hosts ms l x s ours q.rest)

  sends_here : sends_on (suc n) q.giver.end ≡ true
  sends_here = subst (λ (m : ℕ). sends_on (suc m) q.giver.end ≡ true) same_link sends

  both_agree : AreAgreed (j n).x (closes.c hosts ms l x (closes.at_rest hosts ms l x s ours q.rest))
  both_agree =
      subst (λ (c : ℕ). AreAgreed (j n).x c) (closes.name_is hosts ms l x (closes.at_rest hosts ms l x s ours q.rest))
      (agree numbered numbered_by_peer numbered_tells turned_tells (suc n) (j n).x (j n).y (party x.host x.peer (suc n) (j n).rest_a ms) (party x.peer x.host (suc n) (j n).rest_b ms) (j n).joint here there
      q.rest.end.end q.giver.end (of_one n) sends_here (λ own foreign g. refl) q.rest.opened giver_opened (silent_a n) (silent_b n) (closes.empty hosts ms l x s ours q.rest))

  same_counters : q.giver.end.allocation ≡ q.rest.end.end.allocation
  same_counters =
      counters numbered numbered_by_peer numbered_tells turned_tells (suc n) (j n).x (j n).y (party x.host x.peer (suc n) (j n).rest_a ms) (party x.peer x.host (suc n) (j n).rest_b ms) (j n).joint here there
      q.rest.end.end q.giver.end (of_one n) sends_here (λ own foreign g. refl) q.rest.opened giver_opened (silent_a n) (silent_b n) (closes.empty hosts ms l x s ours q.rest)

  law_counters : (j n).x.sender.allocation ≡ q.giver.end.allocation
  law_counters =
      both_agree.allocation ∙ ap (λ (r : Receiver). r.allocation) (closes.same hosts ms l x (closes.at_rest hosts ms l x s ours q.rest)) ∙ (closes.is_law hosts ms l x s ours q.rest).allocation ∙ sym same_counters

  left : AddsUp x q.giver.end.allocation
  left =
      let known : PresentR x.host x.peer (Own x.host x.peer) (Heard x.host x.peer) ms w.j x = closes.known hosts ms l x (closes.at_rest hosts ms l x s ours q.rest) in
      let going : GoesOn x.host x.peer (Own x.host x.peer) (Heard x.host x.peer) ms w.j n (closes.known hosts ms l x (closes.at_rest hosts ms l x s ours q.rest)).g x = closes.going hosts ms l x (closes.at_rest hosts ms l x s ours q.rest) in
      let c : ℕ = closes.c hosts ms l x (closes.at_rest hosts ms l x s ours q.rest) in
      let messages : x.messages ≡ length ((j n).x.receiver.taken (closes.c hosts ms l x (closes.at_rest hosts ms l x s ours q.rest))) = going.messages in
      let bits : length x.bits ≡ message_bits ((j n).x.receiver.taken (closes.c hosts ms l x (closes.at_rest hosts ms l x s ours q.rest)))
      = ap (λ (bs : List Bool). length bs) going.bits ∙ all_bits_length ((j n).x.receiver.taken (closes.c hosts ms l x (closes.at_rest hosts ms l x s ours q.rest))) in
      let more : (j n).x.sender.allocation.messages ≡ q.giver.end.allocation.messages = ap (λ (v : Allocation). v.messages) law_counters in
      let much : (j n).x.sender.allocation.bits ≡ q.giver.end.allocation.bits = ap (λ (v : Allocation). v.bits) law_counters in
      record {
        messages = omega (arith, messages, more, known.granted_messages, known.returned_messages, both_agree.in_messages);
        bits = omega (arith, bits, much, known.granted_bits, known.returned_bits, both_agree.in_bits);
      }

  pub settled : Agree x q.rest.end.end q.giver.end
  settled = record { counters = same_counters; left = left }

-- ---- at all moments, and in worlds

all_agree : (hosts : Network) (ms : List Moment) → Lawful hosts ms → (later earlier : List Moment)
    → ms ≡ later ++ earlier → (x s : Life) → AreOurs hosts x.host x.peer → (q : AreSettled earlier x s)
    → Agree x q.rest.end.end q.giver.end
all_agree hosts ms l later earlier is x s ours q = settled hosts earlier (rest_lawful hosts later earlier (subst (λ (ns : List Moment). Lawful hosts ns) is l)) x s ours q

pub world_agrees : {C : Type 0} (seen : C → Seen) (hosts : List Host) (w : WorldState C) → (lawful : IsLawful seen hosts w) → AllAgree lawful.whole.moments
world_agrees seen hosts w lawful later earlier is x s = all_agree (all_ours hosts) lawful.whole.moments (book_lawful seen hosts w lawful) later earlier is x s (refl, refl)
