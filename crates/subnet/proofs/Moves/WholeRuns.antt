-- Whatever happens from the opening on, the subnet is sound, and so its log is a run of the mailboxes.
use Rattle.subnet.proofs.Common.{◌≡◌, ℕ, ◌+◌, ◌≤◌, List, [], ◌∷◌, length, Option, Some, None, refl, subst, ◌∙◌, Host, most_imps, IsRun, CarrierFault, NetEvent, HostMessage, sound_run, Net, quiet_round, Ends, AreHosts, opening_subnet, IsSound}
use Rattle.subnet.specs.Routed.{IsHostMessage, IsRouted}
use Rattle.subnet.specs.Run.{Call, Offer, Take, Happen, Round, refusal, net_after, done_by, ran, OffersMessages}
use Rattle.subnet.proofs.Moves.EventSteps.{step_sound}
use Rattle.subnet.proofs.Moves.Offers.{offer_sound}
use Rattle.subnet.proofs.Moves.Openings.{opening_sound}
use Rattle.subnet.proofs.Calls.Rounds.{quiet_round_sound}
use Rattle.subnet.proofs.Packets.Routed.{opening_routed, offer_routed, take_routed, step_routed, round_routed, can_go}
use Rattle.subnet.proofs.Calls.Showing.{offer_same, take_same, step_same, round_same}
use Rattle.subnet.proofs.Moves.Takes.{take_sound}

-- ---- what holds after every call

record IsWhole (hosts : List Host) (n : Net) : Type 0 where
  same : n.hosts ≡ hosts
  sound : IsSound n
  routed : IsRouted n

done : (hosts : List Host) (n : Net) (c : Call) → IsWhole hosts n → (refusal n c ≡ None → IsWhole hosts (net_after n c)) → IsWhole hosts (done_by (refusal n c) n c)
done hosts n c is accepted = by (refusal n c) accepted where
  by : (o : Option CarrierFault) → (o ≡ None → IsWhole hosts (net_after n c)) → IsWhole hosts (done_by o n c)
  by None accepted = accepted refl
  by (Some fault) accepted = is

offered : (hosts : List Host) (n : Net) (m : HostMessage) → IsHostMessage m → IsWhole hosts n → IsWhole hosts (done_by (refusal n (Offer m)) n (Offer m))
offered hosts n m message is = done hosts n (Offer m) is (λ accepted. record {
  same = (offer_same n m).hosts ∙ is.same;
  sound = offer_sound n m (can_go n m is.routed is.sound message) accepted is.sound;
  routed = offer_routed n m is.routed;
})

taken : (hosts : List Host) (n : Net) (h : Host) → IsWhole hosts n → IsWhole hosts (done_by (refusal n (Take h)) n (Take h))
taken hosts n h is = done hosts n (Take h) is (λ accepted. record {
  same = (take_same n h).hosts ∙ is.same;
  sound = take_sound n h accepted is.sound;
  routed = take_routed n h is.routed;
})

happened : (hosts : List Host) (n : Net) (e : NetEvent) → IsWhole hosts n → IsWhole hosts (done_by (refusal n (Happen e)) n (Happen e))
happened hosts n e is = done hosts n (Happen e) is (λ accepted. record {
  same = (step_same n e).hosts ∙ is.same;
  sound = step_sound n e accepted is.sound;
  routed = step_routed n e is.routed;
})

rounded : (hosts : List Host) (n : Net) → IsWhole hosts n → IsWhole hosts (quiet_round n)
rounded hosts n is = record { same = (round_same n).hosts ∙ is.same; sound = quiet_round_sound n is.sound; routed = round_routed n is.routed }

ran_whole : (hosts : List Host) (n : Net) (calls : List Call) → OffersMessages calls → IsWhole hosts n → IsWhole hosts (ran calls n)
ran_whole hosts n [] messages is = is
ran_whole hosts n (Offer m ∷ calls) messages is = offered hosts _ m messages.0 (ran_whole hosts n calls messages.1 is)
ran_whole hosts n (Take h ∷ calls) messages is = taken hosts _ h (ran_whole hosts n calls messages is)
ran_whole hosts n (Happen e ∷ calls) messages is = happened hosts _ e (ran_whole hosts n calls messages is)
ran_whole hosts n (Round ∷ calls) messages is = rounded hosts _ (ran_whole hosts n calls messages is)

-- ---- from the opening on

opened_whole : (hosts : List Host) (sites : List (Option ℕ)) (ends : List Ends) (calls : List Call) → AreHosts hosts sites → length sites ≤ most_imps + 1 → OffersMessages calls → IsWhole hosts (ran calls (opening_subnet hosts sites ends))
opened_whole hosts sites ends calls are few messages =
    ran_whole hosts _ calls messages (record { same = refl; sound = opening_sound hosts sites ends are; routed = opening_routed hosts sites ends few })

pub always_sound : (hosts : List Host) (sites : List (Option ℕ)) (ends : List Ends) (calls : List Call) → AreHosts hosts sites → length sites ≤ most_imps + 1 → OffersMessages calls → IsSound (ran calls (opening_subnet hosts sites ends))
always_sound hosts sites ends calls are few messages = (opened_whole hosts sites ends calls are few messages).sound

pub always_run : (hosts : List Host) (sites : List (Option ℕ)) (ends : List Ends) (calls : List Call) → AreHosts hosts sites → length sites ≤ most_imps + 1 → OffersMessages calls → IsRun hosts (ran calls (opening_subnet hosts sites ends)).log
always_run hosts sites ends calls are few messages =
    let n : Net = ran calls (opening_subnet hosts sites ends) in
    let is : IsWhole hosts n = opened_whole hosts sites ends calls are few messages in
    subst (λ (hs : List Host). IsRun hs n.log) is.same (sound_run _ n.log _ _ is.sound.flows)
