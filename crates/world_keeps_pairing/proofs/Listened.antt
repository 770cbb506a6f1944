-- A message that a host takes of its peer reports no openings but those that the law says.
use Rattle.world_keeps_pairing.proofs.Common.{◌≡◌, inl, inr, ℕ, ◌==◌, Bool, true, false, ◌&&◌, if◌then◌else◌, List, [], ◌∷◌, refl, ap, sym, subst, ◌∙◌, Host, same_host, HostMessage, same_host-refl, same_host-true, orders_of, accepted, pair_with, message_about, AllFit, marks_in, AreJoint, AreAmong, all_lives_taken, with_openings, data_told, eqb-sym, idle_other, message_tells, rrp_other, rst_other, Mark, tagged, Sockets, Who, Event, Message, Reset, Reply, Other, In, are, message_on, Moment, Crossed, IsStory, events_of, places, program, law_events, with_lives, mixed_kept, AreOurs, Network}
use Rattle.pairing_law.specs.Sides.{Side, Life}
use Rattle.interface.specs.declared.crossing.Crossing.TheVariants as crossing
use Rattle.interface.specs.declared.crossing.Inbound.TheVariants as inbound
use Rattle.ncp_control.specs.Phases as program_phases
use Rattle.reset_law.specs.Runs.{IsRun}
use Rattle.reset_law.specs.Stays as stay
use Rattle.world_keeps_pairing.proofs.Books.{about_peer, all_of_peer}
use Rattle.world_keeps_pairing.proofs.Marks.{IsPair, foreign_of, own_of}
use Rattle.world_keeps_pairing.proofs.Messages.{Hears, IsFrom, are_same, boxed, boxed_is, heard_off, joint_now, own_is, place_in, stays_as}
use Rattle.world_keeps_pairing.proofs.Moments.{Side_of, Tie}
use Rattle.world_keeps_pairing.proofs.Opened.{Among, by_lives, hears_lives, hears_no_lives, in_away_among}
use Rattle.world_keeps_pairing.proofs.Programs.{AnRrp, AnRst, AText, Sort, sort_of}
use Rattle.world_keeps_pairing.proofs.Sides.{all_hears, at_texts, hears_if}
use Rattle.world_keeps_pairing.proofs.Turns.{heard_is, other}

module _ (s : Sockets) (is_pair : IsPair s) (who : Who) (origin : ℕ → ℕ) (hosts : Network) (m : HostMessage) (moments : List Moment) (ours : AreOurs hosts m.flow.source m.flow.destination) (story : IsStory hosts (Crossed (crossing.In m) ∷ moments)) (run : IsRun hosts (events_of (Crossed (crossing.In m) ∷ moments))) where
  abbrev h : Host
  h = m.flow.destination

  abbrev p : Host
  p = m.flow.source

  abbrev x0 : Side
  x0 = Side_of s is_pair who m.flow.destination m.flow.source origin moments

  abbrev T : List Life
  T = with_lives origin m.flow.destination m.flow.source (own_of who s) (foreign_of who s) (mixed_kept hosts.strange moments).book.lives []

  abbrev Lives : Message → List Life
  Lives n = (hears_if (stay.stays m.flow.destination m.flow.source (law_events moments)) (at_texts s (other who) (stay.heard_by m.flow.source m.flow.destination 0 (In m.flow.source m.flow.destination m.flow.link.0 n))) x0).lives

  -- what the program reports
  abbrev Tells : List Life → Type 0
  Tells more = AreAmong (with_openings origin (own_of who s) (foreign_of who s) (accepted (program m.flow.destination moments) (inbound.Message m) (places moments)).1 T) more

  told_in : (n : Message) → boxed s is_pair who origin hosts m moments ours story run ≡ n → (more : List Life) → Lives n ≡ more → Tells more → Among s is_pair who m.flow.destination m.flow.source origin hosts (Crossed (crossing.In m) ∷ moments)
  told_in n e more is k =
      by_lives s is_pair who m.flow.destination m.flow.source origin hosts (ours.1, ours.0) (Crossed (crossing.In m)) moments more (subst (λ (y : Message). Lives y ≡ more) (sym e) is)
      (subst (λ (b : Bool). AreAmong (if b then all_of_peer origin m.flow.destination m.flow.source (own_of who s) (foreign_of who s) (accepted (program m.flow.destination moments) (inbound.Message m) (places moments)).1 T else T) more)
      (sym (same_host-refl m.flow.destination))
      (subst (λ (l : List Life). AreAmong l more)
      (sym (about_peer origin m.flow.destination m.flow.source (own_of who s) (foreign_of who s) _ _ T
      (message_about _ m _) (same_host-refl m.flow.source))) k))

  -- where it reports none
  told_none : (n : Message) → boxed s is_pair who origin hosts m moments ours story run ≡ n → Lives n ≡ x0.lives
      → with_openings origin (own_of who s) (foreign_of who s) (accepted (program m.flow.destination moments) (inbound.Message m) (places moments)).1 T ≡ T
      → Among s is_pair who m.flow.destination m.flow.source origin hosts moments → Among s is_pair who m.flow.destination m.flow.source origin hosts (Crossed (crossing.In m) ∷ moments)
  told_none n e is none k = told_in n e _ is (subst (λ (l : List Life). AreAmong l x0.lives) (sym none) k)

  -- a text on link 0
  text_lives : (place : ℕ) (b : Bool) → (m.flow.link.0 == 0) ≡ true → stay.stays m.flow.destination m.flow.source (law_events moments) ≡ b → (b ≡ true → AllFit (marks_in place (foreign_of who s) (own_of who s) (orders_of m.text)) x0.end)
      → Lives (Other (tagged place m.text)) ≡ (if b then all_lives_taken (marks_in place (foreign_of who s) (own_of who s) (orders_of m.text)) x0.end x0.lives else x0.lives)
  text_lives place true zero stays fit =
      let here : (are m.flow.source m.flow.destination m.flow.source m.flow.destination && 0 == m.flow.link.0) ≡ true =
      ap (λ (t : Bool). t && 0 == m.flow.link.0) (are_same m.flow.source m.flow.destination) ∙ eqb-sym 0 _ ∙ zero in
      let heard : at_texts s (other who) (if are m.flow.source m.flow.destination m.flow.source m.flow.destination && 0 == m.flow.link.0 then tagged place m.text ∷ [] else []) ≡ marks_in place (foreign_of who s) (own_of who s) (orders_of m.text) =
      ap (λ (t : Bool). at_texts s (other who) (if t then tagged place m.text ∷ [] else [])) here ∙ heard_is s is_pair who place m.text in
      ap (λ (t : Bool). (hears_if t (at_texts s (other who) (if are m.flow.source m.flow.destination m.flow.source m.flow.destination && 0 == m.flow.link.0 then tagged place m.text ∷ [] else [])) x0).lives) stays
      ∙ ap (λ (ms : List Mark). (all_hears ms x0).lives) heard ∙ hears_lives _ x0 (fit refl)
  text_lives place false zero stays fit =
      ap (λ (t : Bool). (hears_if t (at_texts s (other who) (if are m.flow.source m.flow.destination m.flow.source m.flow.destination && 0 == m.flow.link.0 then tagged place m.text ∷ [] else [])) x0).lives) stays

  control_among : Hears s is_pair who origin hosts m moments ours story run → IsFrom s is_pair who origin hosts m moments ours story run → (m.flow.link.0 == 0) ≡ true → Sort m.flow.link.0 m.text
      → Tie s is_pair who m.flow.destination m.flow.source origin moments → Among s is_pair who m.flow.destination m.flow.source origin hosts moments → Among s is_pair who m.flow.destination m.flow.source origin hosts (Crossed (crossing.In m) ∷ moments)
  control_among hears from zero (AnRst z orders is) t k =
      told_none Reset (boxed_is s is_pair who origin hosts m moments ours story run Reset is) (hears_no_lives _ x0)
      (rst_other origin (own_of who s) (foreign_of who s) _ m _ (own_is s is_pair who origin hosts m moments ours story run) zero orders T) k
  control_among hears from zero (AnRrp z orders is) t k =
      told_none Reply (boxed_is s is_pair who origin hosts m moments ours story run Reply is) (hears_no_lives _ x0)
      (rrp_other origin (own_of who s) (foreign_of who s) _ m _ (own_is s is_pair who origin hosts m moments ours story run) zero orders T) k
  control_among hears from zero (AText is) t k = by (program_phases.is_ready (pair_with m.flow.source (program m.flow.destination moments).peers).phase) refl where
    place : ℕ
    place = (place_in s is_pair who origin hosts m moments ours story run).0

    text : boxed s is_pair who origin hosts m moments ours story run ≡ Other (tagged (place_in s is_pair who origin hosts m moments ours story run).0 m.text)
    text = boxed_is s is_pair who origin hosts m moments ours story run (Other m.text) is

    there : origin (places moments) ≡ (place_in s is_pair who origin hosts m moments ours story run).0
    there = from (place_in s is_pair who origin hosts m moments ours story run).0 (place_in s is_pair who origin hosts m moments ours story run).1 zero

    joint : AreJoint (orders_of m.text)
    joint = joint_now s is_pair who origin hosts m moments ours story run zero is

    by : (b : Bool) → program_phases.is_ready (pair_with m.flow.source (program m.flow.destination moments).peers).phase ≡ b → Among s is_pair who m.flow.destination m.flow.source origin hosts (Crossed (crossing.In m) ∷ moments)
    by true ready =
        let fit : AllFit (marks_in (origin (places moments)) (foreign_of who s) (own_of who s) (orders_of m.text)) x0.end = (hears ready zero joint).1 in
        told_in (Other (tagged (place_in s is_pair who origin hosts m moments ours story run).0 m.text)) text
        (all_lives_taken (marks_in (origin (places moments)) (foreign_of who s) (own_of who s) (orders_of m.text)) x0.end x0.lives)
        (text_lives _ true zero (stays_as s is_pair who origin hosts m moments ours story run _ text true ready)
        (λ e. subst (λ (n : ℕ). AllFit (marks_in n (foreign_of who s) (own_of who s) (orders_of m.text)) x0.end) there fit)
        ∙ ap (λ (n : ℕ). all_lives_taken (marks_in n (foreign_of who s) (own_of who s) (orders_of m.text)) x0.end x0.lives) (sym there))
        (message_tells origin (own_of who s) (foreign_of who s) _ m _ x0.end T _ (own_is s is_pair who origin hosts m moments ours story run) zero ready joint
        (hears ready zero joint).0 fit t k)
    by false idle =
        told_none _ text
        (text_lives _ false zero (stays_as s is_pair who origin hosts m moments ours story run _ text false idle)
        (λ e. absurd (let no : false ≡ true = e in cc)))
        (idle_other origin (own_of who s) (foreign_of who s) _ m _ (own_is s is_pair who origin hosts m moments ours story run) zero idle joint T) k

  in_here : Hears s is_pair who origin hosts m moments ours story run → IsFrom s is_pair who origin hosts m moments ours story run → Tie s is_pair who m.flow.destination m.flow.source origin moments
      → Among s is_pair who m.flow.destination m.flow.source origin hosts moments → Among s is_pair who m.flow.destination m.flow.source origin hosts (Crossed (crossing.In m) ∷ moments)
  in_here hears from t k = by (m.flow.link.0 == 0) refl where
    by : (z : Bool) → (m.flow.link.0 == 0) ≡ z → Among s is_pair who m.flow.destination m.flow.source origin hosts (Crossed (crossing.In m) ∷ moments)
    by true zero = control_among hears from zero (sort_of _ m.text) t k
    by false away =
        let is : message_on m.flow.link.0 m.text ≡ Other m.text = rw away refl in
        let place : ℕ = (place_in s is_pair who origin hosts m moments ours story run).0 in
        let heard : stay.heard_by m.flow.source m.flow.destination 0 (In m.flow.source m.flow.destination m.flow.link.0 (Other (tagged place m.text))) ≡ [] =
        heard_off _ _ _ (eqb-sym 0 _ ∙ away) in
        told_in _ (boxed_is s is_pair who origin hosts m moments ours story run _ is) _
        (ap (λ (ts : List (List Bool)). (hears_if (stay.stays m.flow.destination m.flow.source (law_events moments)) (at_texts s (other who) ts) x0).lives) heard ∙ hears_no_lives _ x0)
        (data_told origin (own_of who s) (foreign_of who s) _ m _ T _ (own_is s is_pair who origin hosts m moments ours story run) away k)

-- any message that is taken
pub in_among : (s : Sockets) (is_pair : IsPair s) (who : Who) (h p : Host) (origin : ℕ → ℕ) (hosts : Network) (m : HostMessage) (moments : List Moment) (ours : AreOurs hosts h p) (story : IsStory hosts (Crossed (crossing.In m) ∷ moments)) (run : IsRun hosts (events_of (Crossed (crossing.In m) ∷ moments)))
    → ((our : AreOurs hosts m.flow.source m.flow.destination) → same_host h m.flow.destination ≡ true → same_host p m.flow.source ≡ true → Hears s is_pair who origin hosts m moments our story run × IsFrom s is_pair who origin hosts m moments our story run)
    → Tie s is_pair who h p origin moments → Among s is_pair who h p origin hosts moments → Among s is_pair who h p origin hosts (Crossed (crossing.In m) ∷ moments)
in_among s is_pair who h p origin hosts m moments ours story run k t among = by (same_host h m.flow.destination) (same_host p m.flow.source) refl refl where
  by : (b c : Bool) → same_host h m.flow.destination ≡ b → same_host p m.flow.source ≡ c → Among s is_pair who h p origin hosts (Crossed (crossing.In m) ∷ moments)
  by true true e f =
      let is_h : h ≡ m.flow.destination = same_host-true h _ e in
      let is_p : p ≡ m.flow.source = same_host-true p _ f in
      let our : AreOurs hosts m.flow.source m.flow.destination = (subst (λ (y : Host). hosts.strange y ≡ false) is_p ours.1, subst (λ (y : Host). hosts.strange y ≡ false) is_h ours.0) in
      let tie : Tie s is_pair who m.flow.destination m.flow.source origin moments =
      subst (λ (y : Host). Tie s is_pair who m.flow.destination y origin moments) is_p (subst (λ (y : Host). Tie s is_pair who y p origin moments) is_h t) in
      let there : Among s is_pair who m.flow.destination m.flow.source origin hosts moments =
      subst (λ (y : Host). Among s is_pair who m.flow.destination y origin hosts moments) is_p (subst (λ (y : Host). Among s is_pair who y p origin hosts moments) is_h among) in
      subst (λ (y : Host). Among s is_pair who y p origin hosts (Crossed (crossing.In m) ∷ moments)) (sym is_h)
      (subst (λ (y : Host). Among s is_pair who m.flow.destination y origin hosts (Crossed (crossing.In m) ∷ moments)) (sym is_p)
      (in_here s is_pair who origin hosts m moments our story run (k our e f).0 (k our e f).1 tie there))
  by false c e f = in_away_among s is_pair who h p origin hosts ours m moments (inl e) among
  by true false e f = in_away_among s is_pair who h p origin hosts ours m moments (inr f) among
