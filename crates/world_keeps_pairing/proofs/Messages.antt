-- A message that a host takes of its peer keeps what it has at two sockets.
use Rattle.world_keeps_pairing.proofs.Common.{◌≡◌, inl, inr, ℕ, ◌==◌, Bool, true, false, ◌&&◌, if◌then◌else◌, List, [], ◌∷◌, refl, ap, sym, subst, ◌∙◌, Host, same_host, HostMessage, same_host-refl, same_host-true, orders_of, PairState, accepted, turn_of, NcpState, pair_with, HasEnd, AreFree, AreJoint, eqb-sym, same_kept, End, nothing, Mark, tagged, with_place, with_box, Side, Sockets, Who, Event, Message, Reset, Reply, Other, In, are, IsApart, message_on, Moment, Crossed, IsStory, events_of, places, program, program_own, law_events, AreOurs, Network}
use Rattle.host_keeps_pairing.specs.Words.{AllFit, marks_in, all_taken}
use Rattle.pairing_law.proofs.lemmas.{placed_run, takes_in_stay}
use Rattle.reset_law.specs.Boxes.{Box, Waiting, boxes}
use Rattle.interface.specs.declared.crossing.Crossing.TheVariants as crossing
use Rattle.interface.specs.declared.crossing.Inbound.TheVariants as inbound
use Rattle.ncp_control.specs.Phases as program_phases
use Rattle.ncp_control.specs.declared.phase.Phase as host
use Rattle.ncp_control.specs.declared.phase.Phase.TheVariants as phase
use Rattle.reset_law.specs.Runs.{IsRun}
use Rattle.reset_law.specs.Stays as stay
use Rattle.reset_law.proofs.lemmas.{stays_ready, ready_phase}
use Rattle.world_keeps_pairing.proofs.Sides.{all_hears, at_texts, before, hears_if, met_if}
use Rattle.world_keeps_pairing.proofs.Marks.{IsPair, foreign_of, own_of}
use Rattle.world_keeps_pairing.proofs.Moves.{hears_end}
use Rattle.world_keeps_pairing.proofs.Programs.{AnRrp, AnRst, AText, Has, Sort, after_text, in_has, plain_joint, sort_of}
use Rattle.world_keeps_pairing.proofs.Turns.{IsQuiet, heard_is, other, ready_is, tie_by, tie_quiet, tie_reset}
use Rattle.world_keeps_pairing.proofs.Moments.{Side_of, Tie, in_away, waiting}

pub are_same : (x y : Host) → are x y x y ≡ true
are_same x y = ap (λ (b : Bool). b && same_host y y) (same_host-refl x) ∙ same_host-refl y

pub heard_off : (b z : Bool) (T : List (List Bool)) → z ≡ false → (if b && z then T else []) ≡ []
heard_off true z T e = rw e refl
heard_off false z T e = refl

module _ (s : Sockets) (is_pair : IsPair s) (who : Who) (origin : ℕ → ℕ) (hosts : Network) (m : HostMessage) (moments : List Moment) (ours : AreOurs hosts m.flow.source m.flow.destination) (story : IsStory hosts (Crossed (crossing.In m) ∷ moments)) (run : IsRun hosts (events_of (Crossed (crossing.In m) ∷ moments))) where
  abbrev h : Host
  h = m.flow.destination

  abbrev p : Host
  p = m.flow.source

  abbrev old : List Event
  old = law_events moments

  abbrev x0 : Side
  x0 = Side_of s is_pair who m.flow.destination m.flow.source origin moments

  abbrev q1 : PairState
  q1 = pair_with m.flow.source (program m.flow.destination (Crossed (crossing.In m) ∷ moments)).peers

  abbrev acc : NcpState
  acc = (accepted (program m.flow.destination moments) (inbound.Message m) (places moments)).0

  -- the message with its place
  abbrev pub boxed : Message
  boxed = with_box (boxes m.flow.source m.flow.destination (events_of moments) m.flow.link.0) (message_on m.flow.link.0 m.text)

  abbrev After : Message → Type 0
  After n = HasEnd origin (own_of who s) (foreign_of who s) q1
      (met_if (stay.begins m.flow.destination m.flow.source (In m.flow.source m.flow.destination m.flow.link.0 n) old)
      (before m.flow.destination m.flow.source (at_texts s who) (at_texts s (other who)) (In m.flow.source m.flow.destination m.flow.link.0 n) old x0)).end

  abbrev IsReady : Message → Type 0
  IsReady n = stay.ready m.flow.destination m.flow.source (In m.flow.source m.flow.destination m.flow.link.0 n ∷ old) ≡ program_phases.is_ready q1.phase

  -- what the program has is what was taken
  has_now : (x : End) → Has origin (own_of who s) (foreign_of who s) m.flow.source acc x → HasEnd origin (own_of who s) (foreign_of who s) q1 x
  has_now x k =
      subst (λ (b : Bool). HasEnd origin (own_of who s) (foreign_of who s) (pair_with m.flow.source (if b then acc else program m.flow.destination moments).peers) x) (sym (same_host-refl m.flow.destination)) k

  pub place_in : (n : ℕ) × (boxes m.flow.source m.flow.destination (events_of moments) m.flow.link.0 ≡ Waiting n (message_on m.flow.link.0 m.text))
  place_in = waiting _ _ run.0.1

  pub boxed_is : (n : Message) → message_on m.flow.link.0 m.text ≡ n → boxed ≡ with_place place_in.0 n
  unfolding place_in
  boxed_is n e = ap (λ (b : Box). with_box b (message_on m.flow.link.0 m.text)) place_in.1 ∙ ap (with_place place_in.0) e

  ready_now : (n : Message) → boxed ≡ n → IsReady n
  ready_now n e = subst (λ (y : Message). IsReady y) e (ready_is hosts _ _ (Crossed (crossing.In m) ∷ moments) (ours.1, ours.0) story)

  as_boxed : (n : Message) → boxed ≡ n → After n → Tie s is_pair who m.flow.destination m.flow.source origin (Crossed (crossing.In m) ∷ moments)
  as_boxed n e k = subst (λ (y : Message). After y) (sym e) k

  quiet_now : (n : Message) → boxed ≡ n → IsQuiet origin (own_of who s) (foreign_of who s) m.flow.destination m.flow.source (at_texts s who) (at_texts s (other who)) (In m.flow.source m.flow.destination m.flow.link.0 n) old x0 q1
      → HasEnd origin (own_of who s) (foreign_of who s) q1 x0.end → Tie s is_pair who m.flow.destination m.flow.source origin (Crossed (crossing.In m) ∷ moments)
  quiet_now n e quiet k =
      as_boxed n e (tie_quiet origin (own_of who s) (foreign_of who s) m.flow.destination m.flow.source (at_texts s who) (at_texts s (other who)) (In m.flow.source m.flow.destination m.flow.link.0 n) old x0 q1
      refl refl (ready_now n e) quiet (same_kept origin (own_of who s) (foreign_of who s) q1 x0.end k))

  -- a text on link 0, where the host stays or not
  text_end : (place : ℕ) (b : Bool) → (m.flow.link.0 == 0) ≡ true → stay.stays m.flow.destination m.flow.source old ≡ b → (b ≡ true → AllFit (marks_in place (foreign_of who s) (own_of who s) (orders_of m.text)) x0.end)
      → (if b then all_taken (marks_in place (foreign_of who s) (own_of who s) (orders_of m.text)) x0.end else x0.end)
      ≡ (hears_if (stay.stays m.flow.destination m.flow.source old) (at_texts s (other who) (stay.heard_by m.flow.source m.flow.destination 0 (In m.flow.source m.flow.destination m.flow.link.0 (Other (tagged place m.text))))) x0).end
  text_end place true zero stays fit =
      let here : (are m.flow.source m.flow.destination m.flow.source m.flow.destination && 0 == m.flow.link.0) ≡ true =
      ap (λ (t : Bool). t && 0 == m.flow.link.0) (are_same m.flow.source m.flow.destination) ∙ eqb-sym 0 _ ∙ zero in
      let heard : at_texts s (other who) (if are m.flow.source m.flow.destination m.flow.source m.flow.destination && 0 == m.flow.link.0 then tagged place m.text ∷ [] else []) ≡ marks_in place (foreign_of who s) (own_of who s) (orders_of m.text) =
      ap (λ (t : Bool). at_texts s (other who) (if t then tagged place m.text ∷ [] else [])) here ∙ heard_is s is_pair who place m.text in
      sym (ap (λ (t : Bool). (hears_if t (at_texts s (other who) (if are m.flow.source m.flow.destination m.flow.source m.flow.destination && 0 == m.flow.link.0 then tagged place m.text ∷ [] else [])) x0).end) stays
      ∙ ap (λ (ms : List Mark). (all_hears ms x0).end) heard ∙ hears_end _ x0 (fit refl))
  text_end place false zero stays fit =
      sym (ap (λ (t : Bool). (hears_if t (at_texts s (other who) (if are m.flow.source m.flow.destination m.flow.source m.flow.destination && 0 == m.flow.link.0 then tagged place m.text ∷ [] else [])) x0).end) stays)

  -- where the host is through a reset it stays, and where it isn't it doesn't
  pub stays_as : (place : ℕ) → boxed ≡ Other (tagged place m.text) → (b : Bool) → program_phases.is_ready (pair_with m.flow.source (program m.flow.destination moments).peers).phase ≡ b
      → stay.stays m.flow.destination m.flow.source old ≡ b
  stays_as place e b r = by b (ready_is hosts _ _ moments (ours.1, ours.0) story.1 ∙ r) where
    by : (b : Bool) → stay.ready m.flow.destination m.flow.source old ≡ b → stay.stays m.flow.destination m.flow.source old ≡ b
    by true ready =
        takes_in_stay hosts old m.flow.source _ _ _ ours
        (subst (λ (n : Message). IsRun hosts (In m.flow.source m.flow.destination m.flow.link.0 n ∷ old)) e (placed_run hosts (events_of (Crossed (crossing.In m) ∷ moments)) run))
        (ready_phase _ ready)
    by false ready = none _ refl where
      none : (c : Bool) → stay.stays m.flow.destination m.flow.source old ≡ c → c ≡ false
      none true t = absurd (let both : true ≡ false = sym (stays_ready old _ _ t) ∙ ready in cc)
      none false t = refl

  -- what is asked of a text that is heard
  abbrev pub Hears : Type 0
  Hears = program_phases.is_ready (pair_with m.flow.source (program m.flow.destination moments).peers).phase ≡ true → (m.flow.link.0 == 0) ≡ true → AreJoint (orders_of m.text)
      → AreFree m.flow.source (places moments) (orders_of m.text) (turn_of (program m.flow.destination moments) m.flow.source)
      × AllFit (marks_in (origin (places moments)) (foreign_of who s) (own_of who s) (orders_of m.text)) x0.end

  abbrev pub IsFrom : Type 0
  IsFrom = (place : ℕ) → boxes m.flow.source m.flow.destination (events_of moments) m.flow.link.0 ≡ Waiting place (message_on m.flow.link.0 m.text) → (m.flow.link.0 == 0) ≡ true → origin (places moments) ≡ place

  pub own_is : same_host (program m.flow.destination moments).own m.flow.destination ≡ true
  own_is = ap (λ (y : Host). same_host y m.flow.destination) (program_own _ moments) ∙ same_host-refl m.flow.destination

  pub joint_now : (m.flow.link.0 == 0) ≡ true → message_on m.flow.link.0 m.text ≡ Other m.text → AreJoint (orders_of m.text)
  joint_now zero is = plain_joint _ (subst (λ (n : Message). IsApart m.flow.link.0 m.text n) is (story.0 ours) zero)

  by_sort : Hears → IsFrom → (m.flow.link.0 == 0) ≡ true → Sort m.flow.link.0 m.text
      → Has origin (own_of who s) (foreign_of who s) m.flow.source acc
      (after_text origin (own_of who s) (foreign_of who s) (origin (places moments)) (program_phases.is_ready (pair_with m.flow.source (program m.flow.destination moments).peers).phase) (message_on m.flow.link.0 m.text) (orders_of m.text) x0.end)
      → Tie s is_pair who m.flow.destination m.flow.source origin (Crossed (crossing.In m) ∷ moments)
  by_sort hears from zero (AnRst z orders is) r =
      as_boxed Reset (boxed_is Reset is)
      (tie_reset origin (own_of who s) (foreign_of who s) m.flow.destination m.flow.source (at_texts s who) (at_texts s (other who)) (In m.flow.source m.flow.destination m.flow.link.0 Reset) old x0 q1 (are_same m.flow.destination m.flow.source)
      (has_now nothing
      (subst (λ (n : Message). Has origin (own_of who s) (foreign_of who s) m.flow.source acc
      (after_text origin (own_of who s) (foreign_of who s) (origin (places moments)) (program_phases.is_ready (pair_with m.flow.source (program m.flow.destination moments).peers).phase) n (orders_of m.text) x0.end)) is r)))
  by_sort hears from zero (AnRrp z orders is) r =
      quiet_now Reply (boxed_is Reply is) (refl, refl, refl)
      (has_now x0.end
      (subst (λ (n : Message). Has origin (own_of who s) (foreign_of who s) m.flow.source acc
      (after_text origin (own_of who s) (foreign_of who s) (origin (places moments)) (program_phases.is_ready (pair_with m.flow.source (program m.flow.destination moments).peers).phase) n (orders_of m.text) x0.end)) is r))
  by_sort hears from zero (AText is) r =
      let n : Message = Other (tagged place_in.0 m.text) in
      let e : boxed ≡ Other (tagged place_in.0 m.text) = boxed_is _ is in
      let at : origin (places moments) ≡ place_in.0 = from place_in.0 place_in.1 zero in
      let ready : Bool = program_phases.is_ready (pair_with m.flow.source (program m.flow.destination moments).peers).phase in
      let z : Has origin (own_of who s) (foreign_of who s) m.flow.source acc
      (if program_phases.is_ready (pair_with m.flow.source (program m.flow.destination moments).peers).phase then all_taken (marks_in (origin (places moments)) (foreign_of who s) (own_of who s) (orders_of m.text)) x0.end else x0.end) =
      subst (λ (n : Message). Has origin (own_of who s) (foreign_of who s) m.flow.source acc
      (after_text origin (own_of who s) (foreign_of who s) (origin (places moments)) (program_phases.is_ready (pair_with m.flow.source (program m.flow.destination moments).peers).phase) n (orders_of m.text) x0.end)) is r in
      let w : Has origin (own_of who s) (foreign_of who s) m.flow.source acc
      (if program_phases.is_ready (pair_with m.flow.source (program m.flow.destination moments).peers).phase then all_taken (marks_in place_in.0 (foreign_of who s) (own_of who s) (orders_of m.text)) x0.end else x0.end) =
      subst (λ (k : ℕ). Has origin (own_of who s) (foreign_of who s) m.flow.source acc
      (if program_phases.is_ready (pair_with m.flow.source (program m.flow.destination moments).peers).phase then all_taken (marks_in k (foreign_of who s) (own_of who s) (orders_of m.text)) x0.end else x0.end)) at z in
      let fit : program_phases.is_ready (pair_with m.flow.source (program m.flow.destination moments).peers).phase ≡ true → AllFit (marks_in place_in.0 (foreign_of who s) (own_of who s) (orders_of m.text)) x0.end =
      λ t. subst (λ (k : ℕ). AllFit (marks_in k (foreign_of who s) (own_of who s) (orders_of m.text)) x0.end) at (hears t zero (joint_now zero is)).1 in
      as_boxed _ e
      (tie_by origin (own_of who s) (foreign_of who s) m.flow.destination m.flow.source (at_texts s who) (at_texts s (other who)) (In m.flow.source m.flow.destination m.flow.link.0 (Other (tagged place_in.0 m.text))) old x0 q1
      _
      (ready_now _ e) refl
      (same_kept origin (own_of who s) (foreign_of who s) q1 _ (has_now _ w))
      (text_end _ _ zero
      (stays_as _ e _ refl) fit))

  in_matched : Hears → IsFrom → Tie s is_pair who m.flow.destination m.flow.source origin moments → Tie s is_pair who m.flow.destination m.flow.source origin (Crossed (crossing.In m) ∷ moments)
  in_matched hears from t = by (m.flow.link.0 == 0) refl where
    taken : (z : Bool) → (m.flow.link.0 == 0) ≡ z → Has origin (own_of who s) (foreign_of who s) m.flow.source acc
        (if z then after_text origin (own_of who s) (foreign_of who s) (origin (places moments)) (program_phases.is_ready (pair_with m.flow.source (program m.flow.destination moments).peers).phase) (message_on m.flow.link.0 m.text) (orders_of m.text) x0.end else x0.end)
    taken z e = in_has origin (own_of who s) (foreign_of who s) (program m.flow.destination moments) m _ x0.end own_is (story.0 ours) hears t z e

    by : (z : Bool) → (m.flow.link.0 == 0) ≡ z → Tie s is_pair who m.flow.destination m.flow.source origin (Crossed (crossing.In m) ∷ moments)
    by true zero = by_sort hears from zero (sort_of _ m.text) (taken true zero)
    by false away =
        let is : message_on m.flow.link.0 m.text ≡ Other m.text = rw away refl in
        quiet_now _ (boxed_is _ is)
        (refl, heard_off _ _ _ (eqb-sym 0 _ ∙ away), refl)
        (has_now x0.end (taken false away))

-- any message that is taken
pub in_turn : (s : Sockets) (is_pair : IsPair s) (who : Who) (h p : Host) (origin : ℕ → ℕ) (hosts : Network) (m : HostMessage) (moments : List Moment) (ours : AreOurs hosts h p) (story : IsStory hosts (Crossed (crossing.In m) ∷ moments)) (run : IsRun hosts (events_of (Crossed (crossing.In m) ∷ moments)))
    → ((our : AreOurs hosts m.flow.source m.flow.destination) → same_host h m.flow.destination ≡ true → same_host p m.flow.source ≡ true → Hears s is_pair who origin hosts m moments our story run × IsFrom s is_pair who origin hosts m moments our story run)
    → Tie s is_pair who h p origin moments → Tie s is_pair who h p origin (Crossed (crossing.In m) ∷ moments)
in_turn s is_pair who h p origin hosts m moments ours story run k t = by (same_host h m.flow.destination) (same_host p m.flow.source) refl refl where
  by : (b c : Bool) → same_host h m.flow.destination ≡ b → same_host p m.flow.source ≡ c → Tie s is_pair who h p origin (Crossed (crossing.In m) ∷ moments)
  by true true e f =
      let is_h : h ≡ m.flow.destination = same_host-true h _ e in
      let is_p : p ≡ m.flow.source = same_host-true p _ f in
      let our : AreOurs hosts m.flow.source m.flow.destination = (subst (λ (y : Host). hosts.strange y ≡ false) is_p ours.1, subst (λ (y : Host). hosts.strange y ≡ false) is_h ours.0) in
      let there : Tie s is_pair who m.flow.destination m.flow.source origin moments =
      subst (λ (y : Host). Tie s is_pair who m.flow.destination y origin moments) is_p (subst (λ (y : Host). Tie s is_pair who y p origin moments) is_h t) in
      subst (λ (y : Host). Tie s is_pair who y p origin (Crossed (crossing.In m) ∷ moments)) (sym is_h)
      (subst (λ (y : Host). Tie s is_pair who m.flow.destination y origin (Crossed (crossing.In m) ∷ moments)) (sym is_p)
      (in_matched s is_pair who origin hosts m moments our story run (k our e f).0 (k our e f).1 there))
  by false c e f = in_away s is_pair who h p origin hosts ours m moments story (inl e) t
  by true false e f = in_away s is_pair who h p origin hosts ours m moments story (inr f) t
