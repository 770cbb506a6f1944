-- Two lives of one connection, between whose hosts no command is on its way: each end has heard what the other said.
use Rattle.world_keeps_streams.proofs.Common.{◌≡◌, ℕ, zero, suc, ◌==◌, true, false, List, [], ◌++◌, Some, refl, ap, sym, subst, ◌∙◌, Host, box_of, Command, has_cls, sends_on, has_opened, numbered, numbered_tells, boxes, pair_with, Moment, events_of, program, crossings_of, seen_box, control_flow, numbered_by_peer, Network, linked_end}
use Rattle.pair_keeps_streams.proofs.lemmas.{OfOne}
use Rattle.net_sim.proofs.lemmas.{box_same, flow_of}
use Rattle.world_keeps_streams.specs.Rests.{AreSilent, NoneWaits}
use Rattle.interface.specs.Mailboxes as mail
use Rattle.pair_keeps_streams.proofs.lemmas as pair
use Rattle.reset_law.specs.Stays as stay
use Rattle.promise.specs.declared.life.Life.{Life}
use Rattle.world_keeps_streams.proofs.Books.Closes as closes
use Rattle.world_keeps_streams.proofs.Books.Firsts.{together}
use Rattle.world_keeps_streams.proofs.Books.One as one
use Rattle.world_keeps_streams.proofs.Books.One.{HasPartner}
use Rattle.world_keeps_streams.proofs.Requests.Sides.{Lawful}
use Rattle.world_keeps_streams.proofs.Steps.Joined.{Joined, commands_in, party, turned_tells}
use Rattle.world_keeps_streams.proofs.Ours.{ours_sender}
use Rattle.world_keeps_streams.proofs.Lives.Among.{among_now}

-- ---- small facts

-- no commands are in a box in which no message waits
none_in : (a b : Host) (ms : List Moment) → NoneWaits (control_flow a b) (crossings_of ms) → commands_in (boxes a b (events_of ms) 0) ≡ []
none_in a b ms none = ap commands_in (box_same a b ms 0) ∙ by (box_of (flow_of a b 0) (crossings_of ms)) refl where
  by : (x : mail.Box) → box_of (flow_of a b 0) (crossings_of ms) ≡ x → commands_in (seen_box 0 x) ≡ []
  by mail.Empty e = refl
  by (mail.Taken there text) e = refl
  by (mail.Waiting there text) e = absurd (none there text e)

-- a link that data may have
off_zero : (link : ℕ) → (link == 0) ≡ false → (m : ℕ) × (link ≡ suc m)
off_zero zero e = absurd (let no : true ≡ false = e in cc)
off_zero (suc m) e = (m, refl)

-- ---- two lives

module _ (hosts : Network) (ms : List Moment) (l : Lawful hosts ms) (x s : Life) (f : closes.AtLink hosts ms x)
    (q : HasPartner ms x s) where
  pub here : stay.stays x.host x.peer (events_of ms) ≡ true
  here = one.here hosts ms l x s f q

  pub there : stay.stays x.peer x.host (events_of ms) ≡ true
  there = one.there hosts ms l x s f q

  abbrev pub j : (m : ℕ) → Joined x.host x.peer (suc m) ms
  j m = (closes.w hosts ms l x f).j m

  pub of_one : (m : ℕ) → OfOne numbered numbered_by_peer (party x.host x.peer (suc m) (j m).rest_a ms) (party x.peer x.host (suc m) (j m).rest_b ms) f.end.end q.end.end
  of_one m = one.of_one hosts ms l x s f q (suc m) (j m)

  pub giver_opened : has_opened q.end.end ≡ true
  giver_opened = (let own : q.end.end.asked ≡ Some s.own_stamp = q.end.own in let partner_is : q.end.end.partner ≡ Some s.partner_stamp = q.end.partner in rw (own, partner_is) refl)

  -- the link of the sender's end
  pub giver_link : (link : ℕ) × (q.end.end.link ≡ Some link) × ((link == 0) ≡ false)
  giver_link = linked_end hosts (together hosts) ms l s (among_now hosts ms s (ours_sender hosts q.matches f.ours) q.there) q.goes q.end

  pub k : (m : ℕ) × (giver_link.0 ≡ suc m)
  k = off_zero giver_link.0 giver_link.2

  pub sends : sends_on (suc k.0) q.end.end ≡ true
  sends = one.sends_on_it hosts ms l x s f q (suc k.0) (j k.0) (giver_link.1 ∙ ap (λ (n : ℕ). Some n) k.1)

  module _ (silent : AreSilent x.host s.host ms) where
    -- nothing is on its way
    pub silent_a : (m : ℕ) → (party x.host x.peer (suc m) (j m).rest_a ms).pending ≡ []
    silent_a m = ap (λ (cs : List Command). cs ++ (j m).rest_a) (none_in x.host x.peer ms none) ∙ (j m).queue_a here ∙ queue where
      none : NoneWaits (control_flow x.host x.peer) (crossings_of ms)
      none = subst (λ (h : Host). NoneWaits (control_flow x.host h) (crossings_of ms)) (sym q.matches.peers.0) silent.there

      queue : (pair_with x.peer (program x.host ms).peers).queue ≡ []
      queue = subst (λ (h : Host). (pair_with h (program x.host ms).peers).queue ≡ []) (sym q.matches.peers.0) silent.queue

    pub silent_b : (m : ℕ) → (party x.peer x.host (suc m) (j m).rest_b ms).pending ≡ []
    silent_b m = ap (λ (cs : List Command). cs ++ (j m).rest_b) (none_in x.peer x.host ms none) ∙ (j m).queue_b there ∙ queue where
      none : NoneWaits (control_flow x.peer x.host) (crossings_of ms)
      none = subst (λ (h : Host). NoneWaits (control_flow h x.host) (crossings_of ms)) (sym q.matches.peers.0) silent.back

      queue : (pair_with x.host (program x.peer ms).peers).queue ≡ []
      queue = subst (λ (h : Host). (pair_with x.host (program h ms).peers).queue ≡ []) (sym q.matches.peers.0) silent.queue_back

    -- so each has heard the other's CLS, if that was said
    pub taker_heard : has_cls q.end.end.closing ≡ f.end.end.partner_closed
    taker_heard =
        pair.taker_heard numbered numbered_by_peer numbered_tells turned_tells (suc k.0) (j k.0).x (j k.0).y (party x.host x.peer (suc k.0) (j k.0).rest_a ms) (party x.peer x.host (suc k.0) (j k.0).rest_b ms) (j k.0).joint here there
        f.end.end q.end.end (of_one k.0) sends (λ own foreign g. refl) (silent_a k.0) (silent_b k.0)

    pub giver_heard : has_cls f.end.end.closing ≡ q.end.end.partner_closed
    giver_heard =
        pair.giver_heard numbered numbered_by_peer numbered_tells turned_tells (suc k.0) (j k.0).x (j k.0).y (party x.host x.peer (suc k.0) (j k.0).rest_a ms) (party x.peer x.host (suc k.0) (j k.0).rest_b ms) (j k.0).joint here there
        f.end.end q.end.end (of_one k.0) sends (λ own foreign g. refl) (silent_a k.0) (silent_b k.0)
