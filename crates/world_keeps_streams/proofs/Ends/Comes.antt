-- What a message that a host takes of its peer is for a life.
use Rattle.world_keeps_streams.proofs.Common.{◌≡◌, inl, inr, ℕ, ◌==◌, ◌&&◌, Bool, true, false, if◌then◌else◌, List, [], ◌∷◌, refl, ap, sym, subst, ◌∙◌, Host, same_host, HostMessage, same_host-refl, Legal, Order, orders_of, data_taken, if_ready, message_taken, orders_taken, reply_notices, Entry, Notice, is_ready, Phase, HasEnd, at, AreJoint, with_openings, Message, pair_with, Crossed, Moment, places, program, crossings_of, new_life, notices_by, Coupled, program_own, TakesFreeAt, origin_in, AreOurs, Network}
use Rattle.host_pairs.specs.Entries.{is_sent, is_over}
use Rattle.pairing_law.specs.Ends.{End, nothing}
use Rattle.host_keeps_pairing.specs.Words.{AllFit, marks_in, all_taken}
use Rattle.host_keeps_pairing.proofs.lemmas.{eqb-sym, plain, data_told, idle_other, rst_other, message_data, message_hears, message_idle, message_replies, message_resets, message_tells}
use Rattle.sockets.specs.Accepting.{after_turn, turn_of, accepted}
use Rattle.net_sim.specs.Projection.{AllPlain, IsApart}
use Rattle.promise.specs.Ends.{Course, each, heard}
use Rattle.world_keeps_pairing.proofs.lemmas.{AText, AllBare, AllTied, AnRrp, AnRst, AreOrigins, Sort, all_bare, all_tied, are_origins, plain_joint, programs_ranged, sort_of, takes}
use Rattle.interface.specs.declared.crossing.Crossing.TheVariants as crossing
use Rattle.interface.specs.declared.crossing.Inbound.TheVariants as inbound
use Rattle.ncp_control.specs.declared.command.Command.TheVariants as command
use Rattle.ncp_control.specs.declared.phase.Phase.TheVariants as phase
use Rattle.promise.specs.declared.life.Life.{Life}
use Rattle.world_keeps_streams.proofs.Calls.MayHear.{fits_all}
use Rattle.world_keeps_streams.proofs.Calls.MayTurns.{Fits}
use Rattle.world_keeps_streams.proofs.Ends.Courses.{course_in}
use Rattle.world_keeps_streams.proofs.Ends.Kept.{AllKept, AllSpare, AreOff, IsTest, test_any, test_over, test_sent, test_taken, turn_data, turn_orders}
use Rattle.world_keeps_streams.proofs.Ends.Marks.{all_heard, all_heard_early, orders_here}
use Rattle.world_keeps_streams.proofs.Ends.Once.{in_once}
use Rattle.world_keeps_streams.proofs.Ends.Owes.{when_on}
use Rattle.world_keeps_streams.proofs.Ends.Ties.{end_in, fits_here, has_now, itself, law_end, once}
use Rattle.world_keeps_streams.proofs.Lives.Fates.{TellsOpening, TellsReset}
use Rattle.world_keeps_streams.proofs.Lives.LeavesEnds.{quiet_tells, reply_quiet, reset_quiet}
use Rattle.world_keeps_streams.proofs.Requests.Sides.{Lawful, below, coupled_in}
use Rattle.world_keeps_pairing.proofs.lemmas as served
use Rattle.world_keeps_streams.proofs.Ends.Kinds.{Kind, ItDrops, ItHears, ItIdles, ItStays, among_none, kept_ends, kept_resets, off_any, off_over, off_sent, off_taken, openings_some, pace, spare_any, spare_sent, spare_taken}

module _ (hosts : Network) (m : HostMessage) (ms : List Moment) (l : Lawful hosts (Crossed (crossing.In m) ∷ ms))
    (ours : AreOurs hosts m.flow.destination m.flow.source) (socket foreign own partner : ℕ) where
  abbrev it : Life
  it = new_life m.flow.destination socket m.flow.source foreign own partner

  lower_in : Lawful hosts ms
  lower_in = below hosts (Crossed (crossing.In m)) ms l

  back : AreOurs hosts m.flow.source m.flow.destination
  back = (ours.1, ours.0)

  c : Coupled hosts (Crossed (crossing.In m) ∷ ms)
  c = coupled_in hosts (Crossed (crossing.In m) ∷ ms) l

  mine : same_host (program m.flow.destination ms).own m.flow.destination ≡ true
  mine = ap (λ (h : Host). same_host h m.flow.destination) (program_own m.flow.destination ms) ∙ same_host-refl m.flow.destination

  has_in : HasEnd itself socket foreign (pair_with m.flow.source (program m.flow.destination ms).peers) (law_end m.flow.destination m.flow.source socket foreign ms)
  has_in = has_now hosts ms lower_in m.flow.destination m.flow.source ours socket foreign

  in_ends : (x : End) → HasEnd itself socket foreign (pair_with m.flow.source (accepted (program m.flow.destination ms) (inbound.Message m) (places ms)).0.peers) x → law_end m.flow.destination m.flow.source socket foreign (Crossed (crossing.In m) ∷ ms) ≡ x
  in_ends x h =
      ap (λ (v : Bool). end_in (at socket foreign (pair_with m.flow.source (if v then (accepted (program m.flow.destination ms) (inbound.Message m) (places ms)).0 else program m.flow.destination ms).peers).entries)) (same_host-refl m.flow.destination)
      ∙ once socket foreign (pair_with m.flow.source (accepted (program m.flow.destination ms) (inbound.Message m) (places ms)).0.peers) x h

  course_on : (os : List Order) → (m.flow.link.0 == 0) ≡ true → orders_of m.text ≡ os
      → course_in it (Crossed (crossing.In m) ∷ ms) ≡ each (heard it (places ms)) os (course_in it ms)
  course_on os zero orders =
      let z : (0 == m.flow.link.0) ≡ true = eqb-sym 0 m.flow.link.0 ∙ zero in
      let a : same_host m.flow.source m.flow.source ≡ true = same_host-refl m.flow.source in
      let b : same_host m.flow.destination m.flow.destination ≡ true = same_host-refl m.flow.destination in
      when_on (heard it (places ms))
      (same_host m.flow.source m.flow.source && same_host m.flow.destination m.flow.destination && 0 == m.flow.link.0)
      (orders_of m.text) os (course_in it ms) (rw (a, b, z) refl) orders

  course_off : (m.flow.link.0 == 0) ≡ false → course_in it (Crossed (crossing.In m) ∷ ms) ≡ course_in it ms
  course_off away_from =
      let z : (0 == m.flow.link.0) ≡ false = eqb-sym 0 m.flow.link.0 ∙ away_from in
      let a : same_host m.flow.source m.flow.source ≡ true = same_host-refl m.flow.source in
      let b : same_host m.flow.destination m.flow.destination ≡ true = same_host-refl m.flow.destination in
      let none : (same_host m.flow.source m.flow.source && same_host m.flow.destination m.flow.destination && 0 == m.flow.link.0) ≡ false = rw (a, b, z) refl in
      ap (λ (v : Bool). if v then each (heard it (places ms)) (orders_of m.text)
      (course_in it ms) else course_in it ms) none

  notes_by : (z : Bool) → (m.flow.link.0 == 0) ≡ z
      → notices_by (Crossed (crossing.In m)) ms ≡ (if z then orders_taken m.flow.source (places ms) (orders_of m.text) (turn_of (program m.flow.destination ms) m.flow.source) else if_ready (data_taken m.flow.link.0 m.text) (turn_of (program m.flow.destination ms) m.flow.source)).notices
  unfolding accepted
  notes_by z zero =
      ap (λ (v : Bool). (if v then after_turn (program m.flow.destination ms) m.flow.source (message_taken m.flow.source (places ms) m.flow.link.0 m.text (turn_of (program m.flow.destination ms) m.flow.source)) else (program m.flow.destination ms, [])).1) mine
      ∙ ap (λ (v : Bool). (if v then orders_taken m.flow.source (places ms) (orders_of m.text) (turn_of (program m.flow.destination ms) m.flow.source) else if_ready (data_taken m.flow.link.0 m.text) (turn_of (program m.flow.destination ms) m.flow.source)).notices) zero

  kept_text : (Lax : Type 0) (test : Entry → Bool) (t : IsTest Lax test) → (m.flow.link.0 == 0) ≡ true → AreJoint (orders_of m.text) → AllSpare Lax m.flow.source socket foreign (places ms) test t (orders_of m.text)
      → AreOff Lax m.flow.source socket foreign (places ms) test t (pair_with m.flow.source (program m.flow.destination ms).peers).entries → AllKept Lax socket foreign (notices_by (Crossed (crossing.In m)) ms)
  kept_text Lax test t zero joint spare off =
      subst (λ (ns : List Notice). AllKept Lax socket foreign ns) (sym (notes_by true zero))
      (turn_orders Lax m.flow.source socket foreign (places ms) test t (orders_of m.text) (turn_of (program m.flow.destination ms) m.flow.source) joint spare (record { ends = off; told = tt })).told

  kept_data : (m.flow.link.0 == 0) ≡ false → AllKept ⊥ socket foreign (notices_by (Crossed (crossing.In m)) ms)
  kept_data away_from =
      subst (λ (ns : List Notice). AllKept ⊥ socket foreign ns) (sym (notes_by false away_from))
      (turn_data ⊥ m.flow.source socket foreign (places ms) is_over test_over m.flow.link.0 m.text (turn_of (program m.flow.destination ms) m.flow.source) (record { ends = off_over it hosts ours ms lower_in; told = tt })).told

  sources : AreOrigins (origin_in (crossings_of (Crossed (crossing.In m) ∷ ms))) (Crossed (crossing.In m) ∷ ms)
  sources = are_origins 0 (crossings_of (Crossed (crossing.In m) ∷ ms)) [] (Crossed (crossing.In m) ∷ ms) refl

  tied : AllTied hosts (origin_in (crossings_of (Crossed (crossing.In m) ∷ ms))) ms
  tied = all_tied hosts (origin_in (crossings_of (Crossed (crossing.In m) ∷ ms))) ms sources.1 c.story.1 c.run.2 (served.served_in hosts ms lower_in.2)

  next_tied : AllTied hosts (origin_in (crossings_of (Crossed (crossing.In m) ∷ ms))) (Crossed (crossing.In m) ∷ ms)
  next_tied = all_tied hosts (origin_in (crossings_of (Crossed (crossing.In m) ∷ ms))) (Crossed (crossing.In m) ∷ ms) sources c.story c.run (served.served_in hosts (Crossed (crossing.In m) ∷ ms) l.2)

  bare : AllBare hosts (origin_in (crossings_of (Crossed (crossing.In m) ∷ ms))) ms
  bare = all_bare hosts (origin_in (crossings_of (Crossed (crossing.In m) ∷ ms))) ms sources.1 c.story.1 c.run.2 lower_in.1 (served.served_in hosts ms lower_in.2)

  free : TakesFreeAt hosts (Crossed (crossing.In m)) ms
  free = takes hosts (origin_in (crossings_of (Crossed (crossing.In m) ∷ ms))) (Crossed (crossing.In m)) ms c.story c.run (programs_ranged hosts ms (served.served_in hosts ms lower_in.2)) sources.0 tied

  fit_text : (m.flow.link.0 == 0) ≡ true → is_ready (pair_with m.flow.source (program m.flow.destination ms).peers).phase ≡ true → AreJoint (orders_of m.text)
      → AllFit (marks_in (places ms) foreign socket (orders_of m.text)) (law_end m.flow.destination m.flow.source socket foreign ms)
  fit_text zero ready joint = fits_here (origin_in (crossings_of (Crossed (crossing.In m) ∷ ms)) m.flow.destination m.flow.source) socket foreign (pair_with m.flow.source (program m.flow.destination ms).peers) f.0 (origin_in (crossings_of (Crossed (crossing.In m) ∷ ms)) m.flow.destination m.flow.source (places ms)) (places ms) (orders_of m.text) f.1 f.2 where
    f : Fits (origin_in (crossings_of (Crossed (crossing.In m) ∷ ms)) m.flow.destination m.flow.source) m.flow.source (places ms) (orders_of m.text) (turn_of (program m.flow.destination ms) m.flow.source) socket foreign
    f = fits_all hosts (origin_in (crossings_of (Crossed (crossing.In m) ∷ ms))) m ms back l.1 c.story c.run sources tied next_tied bare free zero ready joint socket foreign

  text_kind : (zero : (m.flow.link.0 == 0) ≡ true) → AllPlain (orders_of m.text) → (v : Bool) → is_ready (pair_with m.flow.source (program m.flow.destination ms).peers).phase ≡ v → Kind it (Crossed (crossing.In m)) ms
  text_kind zero plain false idle = ItIdles (record {
    ends = in_ends (law_end m.flow.destination m.flow.source socket foreign ms) (message_idle itself socket foreign (program m.flow.destination ms) m (places ms) (law_end m.flow.destination m.flow.source socket foreign ms) mine zero idle (plain_joint (orders_of m.text) plain) has_in) ∙ has_in.idle idle;
    idle = inl (has_in.idle idle);
    unopened = λ e t. openings_some it (notices_by (Crossed (crossing.In m)) ms) [] t (idle_other itself socket foreign (program m.flow.destination ms) m (places ms) mine zero idle (plain_joint (orders_of m.text) plain) []);
    up = λ d. d;
  })
  text_kind zero plain true ready = ItHears (record {
    marks = marks_in (places ms) foreign socket (orders_of m.text);
    here = orders_here (places ms) foreign socket (orders_of m.text);
    stage =
        ap (λ (j : Course). j.stage) (course_on (orders_of m.text) zero refl)
        ∙ all_heard it (places ms) (orders_of m.text) (course_in it ms) plain;
    early =
        ap (λ (j : Course). j.early) (course_on (orders_of m.text) zero refl)
        ∙ all_heard_early it (places ms) (orders_of m.text) (course_in it ms) plain;
    once = in_once hosts m ms l back zero foreign socket (places ms);
    ends = in_ends (all_taken (marks_in (places ms) foreign socket (orders_of m.text)) (law_end m.flow.destination m.flow.source socket foreign ms))
        (message_hears itself socket foreign (program m.flow.destination ms) m (places ms) (law_end m.flow.destination m.flow.source socket foreign ms) mine zero ready joint (free back ready zero) (fit_text zero ready joint) has_in);
    fit = fit_text zero ready joint;
    opens = message_tells itself socket foreign (program m.flow.destination ms) m (places ms) (law_end m.flow.destination m.flow.source socket foreign ms) [] [] mine zero ready joint (free back ready zero) (fit_text zero ready joint) has_in tt;
    unreset = λ e t. kept_resets (Unit {0}) it (notices_by (Crossed (crossing.In m)) ms) (kept_text (Unit {0}) (λ x. false) test_any zero joint (spare_any it m.flow.source (places ms) (orders_of m.text)) (off_any it hosts ours ms lower_in)) t;
    unsent = λ u e t. kept_ends it (notices_by (Crossed (crossing.In m)) ms) (kept_text ⊥ (λ x. is_sent x.closing) test_sent zero joint (spare_sent it m.flow.source (places ms) (orders_of m.text)) (off_sent it hosts ours ms lower_in u)) t;
    unheard = λ u none e t. kept_ends it (notices_by (Crossed (crossing.In m)) ms) (kept_text ⊥ (λ x. x.partner_closed) test_taken zero joint (spare_taken it m.flow.source (places ms) (orders_of m.text) none) (off_taken it hosts ours ms lower_in u)) t;
    up = λ d. d;
    next = refl;
  }) where
    joint : AreJoint (orders_of m.text)
    joint = plain_joint (orders_of m.text) plain

  no_resets : (x : Life) (p : Host) (ph : Phase) → TellsReset x (reply_notices p ph) → ⊥
  no_resets x p phase.Heard t = elim t [ inl e ↦ e | inr e ↦ e ]
  no_resets x p ph t = t

  no_openings : (x : Life) (p : Host) (ph : Phase) → TellsOpening x (reply_notices p ph) → ⊥
  no_openings x p phase.Heard t = elim t [ inl e ↦ e | inr e ↦ e ]
  no_openings x p ph t = t

  sort_kind : Sort m.flow.link.0 m.text → (v : Bool) → (m.flow.link.0 == 0) ≡ v → Kind it (Crossed (crossing.In m)) ms
  sort_kind s false away_from = ItStays (record {
    pace = ap pace (course_off away_from);
    ends = in_ends (law_end m.flow.destination m.flow.source socket foreign ms) (message_data itself socket foreign (program m.flow.destination ms) m (places ms) (law_end m.flow.destination m.flow.source socket foreign ms) mine away_from has_in);
    unended = λ e t. kept_ends it (notices_by (Crossed (crossing.In m)) ms) (kept_data away_from) t;
    unreset = λ e t. kept_resets ⊥ it (notices_by (Crossed (crossing.In m)) ms) (kept_data away_from) t;
    unopened = λ e t. openings_some it (notices_by (Crossed (crossing.In m)) ms) [] t (among_none (with_openings itself socket foreign (notices_by (Crossed (crossing.In m)) ms) []) [] (data_told itself socket foreign (program m.flow.destination ms) m (places ms) [] [] mine away_from tt) refl);
    up = λ d. d;
  })
  sort_kind (AnRst zero orders is) true on = ItDrops (record {
    stage = ap (λ (j : Course). j.stage) (course_on (Legal command.Rst ∷ []) zero orders);
    ends = in_ends nothing (message_resets itself socket foreign (program m.flow.destination ms) m (places ms) mine zero orders);
    unended = λ e t. quiet_tells it (notices_by (Crossed (crossing.In m)) ms) (reset_quiet (program m.flow.destination ms) (places ms) m zero orders) t;
    unopened = λ e t. openings_some it (notices_by (Crossed (crossing.In m)) ms) [] t (rst_other itself socket foreign (program m.flow.destination ms) m (places ms) mine zero orders []);
    up = λ d. d;
  })
  sort_kind (AnRrp zero orders is) true on = ItStays (record {
    pace = ap pace (course_on (Legal command.Rrp ∷ []) zero orders);
    ends = in_ends (law_end m.flow.destination m.flow.source socket foreign ms) (message_replies itself socket foreign (program m.flow.destination ms) m (places ms) (law_end m.flow.destination m.flow.source socket foreign ms) mine zero orders has_in);
    unended = λ e t. quiet_tells it (notices_by (Crossed (crossing.In m)) ms) (reply_quiet (program m.flow.destination ms) (places ms) m zero orders) t;
    unreset = λ e t. no_resets it m.flow.source (pair_with m.flow.source (program m.flow.destination ms).peers).phase (subst (λ (ns : List Notice). TellsReset it ns) told t);
    unopened = λ e t. no_openings it m.flow.source (pair_with m.flow.source (program m.flow.destination ms).peers).phase (subst (λ (ns : List Notice). TellsOpening it ns) told t);
    up = λ d. d;
  }) where
    told : notices_by (Crossed (crossing.In m)) ms ≡ reply_notices m.flow.source (pair_with m.flow.source (program m.flow.destination ms).peers).phase
    told = notes_by true zero ∙ ap (λ (os : List Order). (orders_taken m.flow.source (places ms) os (turn_of (program m.flow.destination ms) m.flow.source)).notices) orders
  sort_kind (AText is) true on = text_kind on (subst (λ (t : Message). IsApart m.flow.link.0 m.text t) is (c.story.0 back) on) (is_ready (pair_with m.flow.source (program m.flow.destination ms).peers).phase) refl

  pub in_here : Kind it (Crossed (crossing.In m)) ms
  in_here = sort_kind (sort_of m.flow.link.0 m.text) (m.flow.link.0 == 0) refl
