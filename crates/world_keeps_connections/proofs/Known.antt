-- At all moments of a world what a host's user knows of an end is so.
use Rattle.world_keeps_connections.proofs.Common.{◌≡◌, ℕ, Bool, true, false, if◌then◌else◌, List, [], ◌∷◌, None, refl, ap, sym, subst, ◌∙◌, Host, same_host, Flow, Answer, HostMessage, same_host-true, accepted, NcpState, pair_with, refusal, served, served_notices, offered, Request, End, Sockets, HasEnd, Knows, all_known, Moment, Crossed, Asked, AllTied, all_tied, known_in}
use Rattle.interface.specs.declared.crossing.Crossing.TheVariants as crossing
use Rattle.interface.specs.declared.crossing.Inbound.TheVariants as inbound
use Rattle.sockets.specs.Pairs.{opening_state}
use Rattle.pairing_law.specs.Links.{Who, Receiver, Sender}
use Rattle.pairing_law.specs.Sides.{Life}
use Rattle.reset_law.specs.Network.{AreOurs, Network}
use Rattle.reset_law.specs.Runs.{IsRun}
use Rattle.net_sim.specs.Story.{IsNext, IsStory, events_of, places, program}
use Rattle.net_sim.proofs.lemmas.{program_own}
use Rattle.world_keeps_pairing.specs.Free.{TakesFreeAt}
use Rattle.world_keeps_pairing.proofs.lemmas.{AreOrigins, AreServed, Hears, IsFrom, IsPair, Side_of, Tie, foreign_of, own_of, programs_ranged, receiver_hears, sender_hears, served_below, takes}
use Rattle.world_keeps_connections.proofs.Carried.{Fitting, answer_carries, carries, message_carries, offer_carries, request_carries}

module _ (s : Sockets) (is_pair : IsPair s) (who : Who) (h p : Host) (origin : ℕ → ℕ) where
  -- what is known at these two sockets
  abbrev pub known : List Moment → List Life
  known moments = known_in origin h p (own_of who s) (foreign_of who s) moments

  abbrev end_of : List Moment → End
  end_of moments = (Side_of s is_pair who h p origin moments).end

  abbrev pub IsKnown : List Moment → Type 0
  IsKnown moments = Knows (known_in origin h p (own_of who s) (foreign_of who s) moments) (Side_of s is_pair who h p origin moments).end

  -- what its program reports at a moment, where it is its own
  turn_if : (b : Bool) (new old : NcpState) (now k : List Life) (x y : End) → (b ≡ true → HasEnd origin (own_of who s) (foreign_of who s) (pair_with p new.peers) y → Knows now y) → HasEnd origin (own_of who s) (foreign_of who s) (pair_with p old.peers) x
      → HasEnd origin (own_of who s) (foreign_of who s) (pair_with p (if b then new else old).peers) y → Knows k x → Knows (if b then now else k) y
  turn_if true new old now k x y work t next knows = work refl next
  turn_if false new old now k x y work t next knows = carries origin (own_of who s) (foreign_of who s) (pair_with p old.peers) x y k t next knows

  out_knows : (hosts : Network) (m : HostMessage) (moments : List Moment) → hosts.strange h ≡ false → IsStory hosts (Crossed (crossing.Out m) ∷ moments) → Tie s is_pair who h p origin moments → Tie s is_pair who h p origin (Crossed (crossing.Out m) ∷ moments) → IsKnown moments → IsKnown (Crossed (crossing.Out m) ∷ moments)
  out_knows hosts m moments plain story t next knows =
      turn_if (same_host h m.flow.source) (offered (program h moments) (places moments)).0 (program h moments) (all_known origin p (own_of who s) (foreign_of who s) (offered (program m.flow.source moments) (places moments)).1 (known moments)) (known moments) (end_of moments)
      (end_of (Crossed (crossing.Out m) ∷ moments))
      (λ e has.
      (let is : h ≡ m.flow.source = same_host-true h m.flow.source e in
      let n : IsNext (program h moments) m = subst (λ (y : Host). IsNext (program y moments) m) (sym is) (story.0 (subst (λ (y : Host). hosts.strange y ≡ false) is plain)) in
      subst (λ (y : Host). Knows (all_known origin p (own_of who s) (foreign_of who s) (offered (program y moments) (places moments)).1 (known moments)) (end_of (Crossed (crossing.Out m) ∷ moments))) is
      (offer_carries origin (own_of who s) (foreign_of who s) p (program h moments) (places moments) n.peer n.parcel n.order n.next (end_of moments) (end_of (Crossed (crossing.Out m) ∷ moments)) (known moments) t has knows)))
      t next knows

  answer_knows : (kind : Answer) (f : Flow) (moments : List Moment) → Tie s is_pair who h p origin moments → Tie s is_pair who h p origin (Crossed (crossing.Answer kind f) ∷ moments) → IsKnown moments → IsKnown (Crossed (crossing.Answer kind f) ∷ moments)
  answer_knows kind f moments t next knows =
      turn_if (same_host h f.source) (accepted (program h moments) (inbound.Answer kind f) (places moments)).0 (program h moments) (all_known origin p (own_of who s) (foreign_of who s) (accepted (program f.source moments) (inbound.Answer kind f) (places moments)).1 (known moments)) (known moments)
      (end_of moments) (end_of (Crossed (crossing.Answer kind f) ∷ moments))
      (λ e has. subst (λ (y : Host). Knows (all_known origin p (own_of who s) (foreign_of who s) (accepted (program y moments) (inbound.Answer kind f) (places moments)).1 (known moments)) (end_of (Crossed (crossing.Answer kind f) ∷ moments))) (same_host-true h f.source e)
      (answer_carries origin (own_of who s) (foreign_of who s) p (program h moments) kind f (places moments) (end_of moments) (end_of (Crossed (crossing.Answer kind f) ∷ moments)) (known moments) t has knows))
      t next knows

  asked_knows : (g : Host) (r : Request) (moments : List Moment) → (same_host h g ≡ true → refusal (program g moments) r ≡ None) → Tie s is_pair who h p origin moments → Tie s is_pair who h p origin (Asked g r ∷ moments) → IsKnown moments → IsKnown (Asked g r ∷ moments)
  asked_knows g r moments ok t next knows =
      turn_if (same_host h g) (served (program h moments) r) (program h moments) (all_known origin p (own_of who s) (foreign_of who s) (served_notices (program g moments) r) (known moments)) (known moments) (end_of moments) (end_of (Asked g r ∷ moments))
      (λ e has.
      (let is : h ≡ g = same_host-true h g e in
      subst (λ (y : Host). Knows (all_known origin p (own_of who s) (foreign_of who s) (served_notices (program y moments) r) (known moments)) (end_of (Asked g r ∷ moments))) is
      (request_carries origin (own_of who s) (foreign_of who s) p (program h moments) r (subst (λ (y : Host). refusal (program y moments) r ≡ None) (sym is) (ok e)) (end_of moments) (end_of (Asked g r ∷ moments)) (known moments) t has knows)))
      t next knows

  -- a host that stops or starts knows nothing
  outage_knows : (g : Host) (moments : List Moment) (y : End) → Tie s is_pair who h p origin moments → HasEnd origin (own_of who s) (foreign_of who s) (pair_with p (if same_host h g then opening_state h else program h moments).peers) y → IsKnown moments
      → Knows (if same_host h g then [] else known moments) y
  outage_knows g moments y t next knows = turn_if (same_host h g) (opening_state h) (program h moments) [] (known moments) (end_of moments) y (λ e has. tt) t next knows

  in_knows : (hosts : Network) (m : HostMessage) (moments : List Moment) → AreOurs hosts h p → (story : IsStory hosts (Crossed (crossing.In m) ∷ moments)) (run : IsRun hosts (events_of (Crossed (crossing.In m) ∷ moments)))
      → ((our : AreOurs hosts m.flow.source m.flow.destination) → same_host h m.flow.destination ≡ true → same_host p m.flow.source ≡ true → Hears s is_pair who origin hosts m moments our story run × IsFrom s is_pair who origin hosts m moments our story run)
      → Tie s is_pair who h p origin moments → Tie s is_pair who h p origin (Crossed (crossing.In m) ∷ moments) → IsKnown moments → IsKnown (Crossed (crossing.In m) ∷ moments)
  in_knows hosts m moments ours story run hears t next knows =
      turn_if (same_host h m.flow.destination) (accepted (program h moments) (inbound.Message m) (places moments)).0 (program h moments) (all_known origin p (own_of who s) (foreign_of who s) (accepted (program m.flow.destination moments) (inbound.Message m) (places moments)).1 (known moments)) (known moments)
      (end_of moments) (end_of (Crossed (crossing.In m) ∷ moments)) here t next knows where
        our : same_host h m.flow.destination ≡ true → same_host p m.flow.source ≡ true
            → AreOurs hosts m.flow.source m.flow.destination
        our e f = (subst (λ (y : Host). hosts.strange y ≡ false) (same_host-true p m.flow.source f) ours.1, subst (λ (y : Host). hosts.strange y ≡ false) (same_host-true h m.flow.destination e) ours.0)

        fits : same_host h m.flow.destination ≡ true → same_host p m.flow.source ≡ true → Fitting origin (own_of who s) (foreign_of who s) (program h moments) m (places moments) (end_of moments)
        fits e f =
            subst (λ (y : Host). Fitting origin (own_of who s) (foreign_of who s) (program y moments) m (places moments) (Side_of s is_pair who y p origin moments).end) (sym (same_host-true h m.flow.destination e))
            (subst (λ (y : Host). Fitting origin (own_of who s) (foreign_of who s) (program m.flow.destination moments) m (places moments) (Side_of s is_pair who m.flow.destination y origin moments).end) (sym (same_host-true p m.flow.source f)) (hears (our e f) e f).0)

        here : same_host h m.flow.destination ≡ true → HasEnd origin (own_of who s) (foreign_of who s) (pair_with p (accepted (program h moments) (inbound.Message m) (places moments)).0.peers) (end_of (Crossed (crossing.In m) ∷ moments))
            → Knows (all_known origin p (own_of who s) (foreign_of who s) (accepted (program m.flow.destination moments) (inbound.Message m) (places moments)).1 (known moments)) (end_of (Crossed (crossing.In m) ∷ moments))
        here e has =
            let mine : same_host (program h moments).own m.flow.destination ≡ true = ap (λ (y : Host). same_host y m.flow.destination) (program_own h moments) ∙ e in
            subst (λ (y : Host). Knows (all_known origin p (own_of who s) (foreign_of who s) (accepted (program y moments) (inbound.Message m) (places moments)).1 (known moments)) (end_of (Crossed (crossing.In m) ∷ moments))) (same_host-true h m.flow.destination e)
            (message_carries origin (own_of who s) (foreign_of who s) (program h moments) m (places moments) mine p (λ f. story.0 (our e f)) (end_of moments) (end_of (Crossed (crossing.In m) ∷ moments)) (known moments) (fits e) t has knows)

  -- each moment
  known_turn : (hosts : Network) (x : Moment) (moments : List Moment) → AreOurs hosts h p → IsStory hosts (x ∷ moments)
      → IsRun hosts (events_of (x ∷ moments)) → AreServed hosts (x ∷ moments)
      → ((m : HostMessage) (our : AreOurs hosts m.flow.source m.flow.destination) (story : IsStory hosts (Crossed (crossing.In m) ∷ moments)) (run : IsRun hosts (events_of (Crossed (crossing.In m) ∷ moments))) → x ≡ Crossed (crossing.In m) → same_host h m.flow.destination ≡ true → same_host p m.flow.source ≡ true
      → Hears s is_pair who origin hosts m moments our story run × IsFrom s is_pair who origin hosts m moments our story run)
      → Tie s is_pair who h p origin moments → Tie s is_pair who h p origin (x ∷ moments) → IsKnown moments → IsKnown (x ∷ moments)
  known_turn hosts (Crossed (crossing.Out m)) moments ours story run served hears t next knows =
      out_knows hosts m moments ours.0 story t next knows
  known_turn hosts (Crossed (crossing.In m)) moments ours story run served hears t next knows =
      in_knows hosts m moments ours story run (λ our. hears m our story run refl) t next knows
  known_turn hosts (Crossed (crossing.Answer kind f)) moments ours story run served hears t next knows =
      answer_knows kind f moments t next knows
  known_turn hosts (Crossed (crossing.Down g)) moments ours story run served hears t next knows =
      outage_knows g moments (end_of (Crossed (crossing.Down g) ∷ moments)) t next knows
  known_turn hosts (Crossed (crossing.Up g)) moments ours story run served hears t next knows =
      outage_knows g moments (end_of (Crossed (crossing.Up g) ∷ moments)) t next knows
  known_turn hosts (Asked g r) moments ours story run served hears t next knows =
      asked_knows g r moments (λ e. (served.0 (subst (λ (y : Host). hosts.strange y ≡ false) (same_host-true h g e) ours.0)).0) t next knows

-- all pairs of hosts with programs, one way and the other
pub record AllKnown (hosts : Network) (origin : Host → Host → ℕ → ℕ) (moments : List Moment) : Type 0 where
  pub receiver : (s : Sockets) (q : IsPair s) (a b : Host) → AreOurs hosts a b
      → IsKnown s q Receiver a b (origin a b) moments
  pub sender : (s : Sockets) (q : IsPair s) (a b : Host) → AreOurs hosts a b
      → IsKnown s q Sender b a (origin b a) moments

pub all_known_at : (hosts : Network) (origin : Host → Host → ℕ → ℕ) (moments : List Moment) → AreOrigins origin moments
    → IsStory hosts moments → IsRun hosts (events_of moments) → AreServed hosts moments → AllKnown hosts origin moments
all_known_at hosts origin [] from story run served =
    record { receiver = λ s q a b ours. tt; sender = λ s q a b ours. tt }
all_known_at hosts origin (x ∷ moments) from story run served =
    let below : AreServed hosts moments = served_below hosts x moments served in
    let old : AllKnown hosts origin moments = all_known_at hosts origin moments from.1 story.1 run.2 below in
    let t : AllTied hosts origin moments = all_tied hosts origin moments from.1 story.1 run.2 below in
    let next : AllTied hosts origin (x ∷ moments) = all_tied hosts origin (x ∷ moments) from story run served in
    let free : TakesFreeAt hosts x moments = takes hosts origin x moments story run (programs_ranged hosts moments below) from.0 t in
    record {
      receiver =
          λ s q a b ours.
          known_turn s q Receiver a b (origin a b) hosts x moments ours story run served (λ m our story run is e f. receiver_hears hosts origin a b x moments from.0 free s q m our story run is e f (next.tied a b ours).steps)
          ((t.tied a b ours).receiver s q) ((next.tied a b ours).receiver s q) (old.receiver s q a b ours);
      sender =
          λ s q a b ours.
          known_turn s q Sender b a (origin b a) hosts x moments (ours.1, ours.0) story run served (λ m our story run is e f. sender_hears hosts origin a b x moments from.0 free s q m our story run is e f (next.tied a b ours).steps)
          ((t.tied a b ours).sender s q) ((next.tied a b ours).sender s q) (old.sender s q a b ours);
    }
