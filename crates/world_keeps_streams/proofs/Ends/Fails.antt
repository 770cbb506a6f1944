-- What an answer, a stop, a start or a request of its user is for a life.
use Rattle.world_keeps_streams.proofs.Common.{◌≡◌, inl, inr, ℕ, ◌==◌, ◌&&◌, ◌||◌, not, Bool, true, false, if◌then◌else◌, List, [], ◌∷◌, ◌++◌, Some, None, refl, ap, sym, subst, ◌∙◌, Host, same_host, Flow, Answer, same_host-refl, same_host-true, is_busy, TurnState, answered_turn, failed_by, freed, is_gone, settled_turn, Notice, Phase, pair, pair_moved, NcpState, opening_state, pair_with, Request, Agrees, Asked, Crossed, Moment, events_of, places, program, new_life, notices_by, story_agrees, ready_phase, AreOurs, Network}
use Rattle.ncp_control.specs.Phases.{failed_phase, is_ready, rfnm_phase, taken_phase}
use Rattle.pairing_law.specs.Ends.{End, nothing}
use Rattle.host_keeps_pairing.specs.Ends.{HasEnd, at, kept_in}
use Rattle.reset_law.specs.Events.{Hear, when}
use Rattle.sockets.specs.Accepting.{after_turn, turn_of, accepted}
use Rattle.sockets.specs.Requests.{refusal, served, served_notices}
use Rattle.promise.specs.Ends.{Course, Dropped, Stopped, cut, ended_by, fails}
use Rattle.interface.specs.declared.crossing.Answer.TheVariants as answer
use Rattle.interface.specs.declared.crossing.Crossing.TheVariants as crossing
use Rattle.interface.specs.declared.crossing.Inbound.TheVariants as inbound
use Rattle.host_pairs.specs.declared.notice.Notice.TheVariants as notice
use Rattle.ncp_control.specs.declared.phase.Phase.TheVariants as phase
use Rattle.host_keeps_pairing.specs.Hearing.{after_request}
use Rattle.host_keeps_pairing.proofs.lemmas.{answer_keeps, answer_other, request_keeps}
use Rattle.sockets.specs.declared.request.Request.TheVariants as request
use Rattle.promise.specs.declared.life.Life.{Life}
use Rattle.world_keeps_streams.proofs.Ends.Courses.{contacted_if, course_in}
use Rattle.world_keeps_streams.proofs.Ends.Owes.{owes_is}
use Rattle.world_keeps_streams.proofs.Ends.Ties.{end_in, has_now, itself, law_end, once}
use Rattle.world_keeps_streams.proofs.Lives.Fates.{TellsEnd, TellsOpening, TellsReset}
use Rattle.world_keeps_streams.proofs.Lives.LeavesEnds.{answer_quiet, quiet_tells, request_quiet}
use Rattle.world_keeps_streams.proofs.Requests.Sides.{Lawful, below, coupled_in}
use Rattle.world_keeps_streams.proofs.Ends.Kinds.{Kind, ItDrops, ItIdles, ItStays, ItStops, away, end_of, openings_some, pace}

if_ready_end : (v : Bool) (e : End) → v ≡ true → (if v then e else nothing) ≡ e
if_ready_end true e t = refl
if_ready_end false e t = absurd (let no : false ≡ true = t in cc)

if_unready_end : (v : Bool) (e : End) → v ≡ false → (if v then e else nothing) ≡ nothing
if_unready_end true e t = absurd (let no : true ≡ false = t in cc)
if_unready_end false e t = refl

if_nothing : (v : Bool) → (if v then nothing else nothing) ≡ nothing
if_nothing true = refl
if_nothing false = refl

module _ (hosts : Network) (kind : Answer) (f : Flow) (ms : List Moment)
    (l : Lawful hosts (Crossed (crossing.Answer kind f) ∷ ms)) (ours : AreOurs hosts f.source f.destination)
    (socket foreign own partner : ℕ) where
  lower_told : Lawful hosts ms
  lower_told = below hosts (Crossed (crossing.Answer kind f)) ms l

  has_told : HasEnd itself socket foreign (pair_with f.destination (program f.source ms).peers) (law_end f.source f.destination socket foreign ms)
  has_told = has_now hosts ms lower_told f.source f.destination ours socket foreign

  told_ends : law_end f.source f.destination socket foreign (Crossed (crossing.Answer kind f) ∷ ms)
      ≡ kept_in (pair_with f.destination (accepted (program f.source ms) (inbound.Answer kind f) (places ms)).0.peers) (law_end f.source f.destination socket foreign ms)
  told_ends =
      ap (λ (v : Bool). end_in (at socket foreign (pair_with f.destination (if v then (accepted (program f.source ms) (inbound.Answer kind f) (places ms)).0 else program f.source ms).peers).entries)) (same_host-refl f.source)
      ∙ once socket foreign (pair_with f.destination (accepted (program f.source ms) (inbound.Answer kind f) (places ms)).0.peers) _
      (answer_keeps itself socket foreign (program f.source ms) kind f (places ms) (law_end f.source f.destination socket foreign ms) has_told)

  -- its phase then
  phase_is : (pair_moved (Some (Hear f.link.0 kind)) (pair f.source f.destination (events_of ms))).phase ≡ (pair_with f.destination (accepted (program f.source ms) (inbound.Answer kind f) (places ms)).0.peers).phase
  phase_is =
      ap (λ (v : Bool). (pair_moved (when v (Hear f.link.0 kind)) (pair f.source f.destination (events_of ms))).phase) (sym both_refl)
      ∙ (story_agrees hosts (Crossed (crossing.Answer kind f) ∷ ms) f.source f.destination ours (coupled_in hosts (Crossed (crossing.Answer kind f) ∷ ms) l).story).phase
      ∙ ap (λ (v : Bool). (pair_with f.destination (if v then (accepted (program f.source ms) (inbound.Answer kind f) (places ms)).0 else program f.source ms).peers).phase) (same_host-refl f.source) where
        both_refl : (same_host f.source f.source && same_host f.destination f.destination) ≡ true
        both_refl = let a : same_host f.source f.source ≡ true = same_host-refl f.source in let b : same_host f.destination f.destination ≡ true = same_host-refl f.destination in rw (a, b) refl

  was : Agrees (pair_with f.destination (program f.source ms).peers) (pair f.source f.destination (events_of ms))
  was = story_agrees hosts ms f.source f.destination ours (coupled_in hosts ms lower_told).story

-- notices of an answer that leaves the pair ready: none
rfnm_notices : (s : NcpState) (f : Flow) (stamp : ℕ) → (accepted s (inbound.Answer answer.Rfnm f) stamp).1 ≡ []
unfolding accepted
rfnm_notices s f stamp = by (same_host s.own f.source) (is_busy (pair_with f.destination s.peers).busy f.link.0) where
  by : (v w : Bool) → (if v then (if w then after_turn s f.destination (answered_turn f.destination answer.Rfnm f.link.0 (turn_of s f.destination)) else (s, [])) else (s, [])).1 ≡ []
  by true true = refl
  by true false = refl
  by false w = refl

lost_turn : (peer : Host) (link : ℕ) (t : TurnState) (v : Bool) → v ≡ false → t.notices ≡ [] → (if v then failed_by peer t.pair.phase t else settled_turn t).notices ≡ []
lost_turn peer link t true e none = absurd (let no : true ≡ false = e in cc)
lost_turn peer link t false e none = ap (λ (ns : List Notice). ns ++ []) none

owed_notices : (s : NcpState) (kind : Answer) (f : Flow) (stamp : ℕ) → fails kind ≡ true → (is_gone (pair_with f.destination s.peers).phase || not (pair_with f.destination s.peers).owed) ≡ false → (accepted s (inbound.Answer kind f) stamp).1 ≡ []
unfolding accepted
owed_notices s answer.Rfnm f stamp fail e = absurd (let no : false ≡ true = fail in cc)
owed_notices s kind f stamp fail e = by (same_host s.own f.source) (is_busy (pair_with f.destination s.peers).busy f.link.0) where
  turn : TurnState
  turn = record (turn_of s f.destination) { pair = freed f.link.0 (pair_with f.destination s.peers) }

  by : (v w : Bool) → (if v then (if w then after_turn s f.destination (answered_turn f.destination kind f.link.0 (turn_of s f.destination)) else (s, [])) else (s, [])).1 ≡ []
  by true true = lost_turn f.destination f.link.0 (record (turn_of s f.destination) { pair = freed f.link.0 (pair_with f.destination s.peers) }) (is_gone (pair_with f.destination s.peers).phase || not (pair_with f.destination s.peers).owed) e refl
  by true false = refl
  by false w = refl

rfnm_ready : (link : ℕ) → is_ready (rfnm_phase link phase.Ready) ≡ true
rfnm_ready link = by (link == 0) where
  by : (v : Bool) → is_ready (if v then taken_phase phase.Ready else phase.Ready) ≡ true
  by true = refl
  by false = refl

module _ (hosts : Network) (f : Flow) (ms : List Moment) (ours : AreOurs hosts f.source f.destination)
    (socket foreign own partner : ℕ) where
  abbrev that : Life
  that = new_life f.source socket f.destination foreign own partner

  -- no RST has to be answered, and it wasn't an RFNM
  cut_when : (kind : Answer) (v : Bool) → (course_in (new_life f.source socket f.destination foreign own partner) ms).owes ≡ v → fails kind ≡ true
      → course_in (new_life f.source socket f.destination foreign own partner) (Crossed (crossing.Answer kind f) ∷ ms) ≡
      (if not v then ended_by (cut Dropped (places ms))
      (course_in (new_life f.source socket f.destination foreign own partner) ms) else course_in
      (new_life f.source socket f.destination foreign own partner) ms)
  cut_when kind v owes fail =
      let a : same_host f.source f.source ≡ true = same_host-refl f.source in
      let b : same_host f.destination f.destination ≡ true = same_host-refl f.destination in
      let on : (fails kind && (same_host f.source f.source && same_host f.destination f.destination) && not (course_in that ms).owes) ≡ not v = rw (fail, a, b, owes) refl in
      ap (λ (w : Bool). if w then ended_by (cut Dropped (places ms)) (course_in that ms) else course_in that ms) on

  stays_told : (kind : Answer) → end_of that (Crossed (crossing.Answer kind f) ∷ ms) ≡ end_of that ms
      → pace (course_in that (Crossed (crossing.Answer kind f) ∷ ms)) ≡ pace (course_in that ms)
      → (accepted (program f.source ms) (inbound.Answer kind f) (places ms)).1 ≡ []
      → Kind that (Crossed (crossing.Answer kind f)) ms
  stays_told kind ends same none = ItStays (record {
    pace = same;
    ends = ends;
    unended = λ e t. subst (λ (ns : List Notice). TellsEnd that ns) none t;
    unreset = λ e t. subst (λ (ns : List Notice). TellsReset that ns) none t;
    unopened = λ e t. subst (λ (ns : List Notice). TellsOpening that ns) none t;
    up = λ d. d;
  })

  failed_kind : (kind : Answer) (l : Lawful hosts (Crossed (crossing.Answer kind f) ∷ ms)) → fails kind ≡ true
      → (pair_moved (Some (Hear f.link.0 kind)) (pair f.source f.destination (events_of ms))).phase ≡ failed_phase (pair f.source f.destination (events_of ms)).phase (pair f.source f.destination (events_of ms)).owed
      → is_ready (pair_with f.destination (program f.source ms).peers).phase ≡ true → (v : Bool) → (course_in that ms).owes ≡ v → Kind that (Crossed (crossing.Answer kind f)) ms
  failed_kind kind l fail phases ready v owes = by v owes where
    before : Agrees (pair_with f.destination (program f.source ms).peers) (pair f.source f.destination (events_of ms))
    before = was hosts kind f ms l ours socket foreign own partner

    law_ready : (pair f.source f.destination (events_of ms)).phase ≡ phase.Ready
    law_ready = before.phase ∙ ready_phase (pair_with f.destination (program f.source ms).peers).phase ready

    owed_is : (pair_with f.destination (program f.source ms).peers).owed ≡ (course_in that ms).owes
    owed_is = sym (owes_is hosts that ours ms (lower_told hosts kind f ms l ours socket foreign own partner))

    phase_then : (w : Bool) → (course_in that ms).owes ≡ w → (pair_with f.destination (accepted (program f.source ms) (inbound.Answer kind f) (places ms)).0.peers).phase ≡ failed_phase phase.Ready w
    phase_then w e =
        sym (phase_is hosts kind f ms l ours socket foreign own partner) ∙ phases
        ∙ ap (λ (ph : Phase). failed_phase ph (pair f.source f.destination (events_of ms)).owed) law_ready ∙ ap (failed_phase phase.Ready) (before.owed ∙ owed_is ∙ e)

    by : (w : Bool) → (course_in that ms).owes ≡ w → Kind that (Crossed (crossing.Answer kind f)) ms
    by true e =
        stays_told kind (told_ends hosts kind f ms l ours socket foreign own partner
        ∙ if_ready_end _ (end_of that ms) (ap is_ready (phase_then true e))) (ap pace (cut_when kind true e fail))
        (owed_notices (program f.source ms) kind f (places ms) fail (ap (λ (ph : Phase). is_gone ph || not (pair_with f.destination (program f.source ms).peers).owed) (ready_phase (pair_with f.destination (program f.source ms).peers).phase ready) ∙ ap not (owed_is ∙ e)))
    by false e = ItDrops (record {
      stage = ap (λ (j : Course). j.stage) (cut_when kind false e fail);
      ends = told_ends hosts kind f ms l ours socket foreign own partner ∙ if_unready_end _ (end_of that ms) (ap is_ready (phase_then false e));
      unended = λ h t. quiet_tells that (notices_by (Crossed (crossing.Answer kind f)) ms) (answer_quiet (program f.source ms) (places ms) kind f) t;
      unopened = λ h t. openings_some that (notices_by (Crossed (crossing.Answer kind f)) ms) [] t (answer_other itself socket foreign (program f.source ms) kind f (places ms) []);
      up = λ d. d;
    })

  ready_kind : (kind : Answer) (l : Lawful hosts (Crossed (crossing.Answer kind f) ∷ ms))
      → is_ready (pair_with f.destination (program f.source ms).peers).phase ≡ true
      → Kind that (Crossed (crossing.Answer kind f)) ms
  ready_kind answer.Rfnm l ready =
      stays_told answer.Rfnm (told_ends hosts answer.Rfnm f ms l ours socket foreign own partner ∙ if_ready_end _ _ (ap is_ready (sym (phase_is hosts answer.Rfnm f ms l ours socket foreign own partner) ∙ ap (rfnm_phase f.link.0) law_ready) ∙ rfnm_ready f.link.0)) refl
      (rfnm_notices _ f _) where
        law_ready : (pair f.source f.destination (events_of ms)).phase ≡ phase.Ready
        law_ready = (was hosts answer.Rfnm f ms l ours socket foreign own partner).phase ∙ ready_phase _ ready
  ready_kind kind l ready = failed_kind kind l refl refl ready _ refl

  pub told_here : (kind : Answer) (l : Lawful hosts (Crossed (crossing.Answer kind f) ∷ ms))
      → Kind that (Crossed (crossing.Answer kind f)) ms
  told_here kind l = by (is_ready (pair_with f.destination (program f.source ms).peers).phase) refl where
    none : is_ready (pair_with f.destination (program f.source ms).peers).phase ≡ false → end_of that ms ≡ nothing
    none e = (has_told hosts kind f ms l ours socket foreign own partner).idle e

    by : (v : Bool) → is_ready (pair_with f.destination (program f.source ms).peers).phase ≡ v → Kind that (Crossed (crossing.Answer kind f)) ms
    by true e = ready_kind kind l e
    by false e = ItIdles (record {
      ends = told_ends hosts kind f ms l ours socket foreign own partner ∙ ap (λ (x : End). kept_in (pair_with f.destination (accepted (program f.source ms) (inbound.Answer kind f) (places ms)).0.peers) x) (none e) ∙ if_nothing _;
      idle = inl (none e);
      unopened = λ h t. openings_some that (notices_by (Crossed (crossing.Answer kind f)) ms) [] t (answer_other itself socket foreign _ kind f _ []);
      up = λ d. d;
    })

-- ---- a host that stops or starts, and what a user asks for

pub off_host : (h g : Host) → same_host h g ≡ false → g ≡ h → ⊥
off_host h g off is = absurd (let t : same_host h g ≡ true = subst (λ (x : Host). same_host h x ≡ true) (sym is) (same_host-refl h) in let no : true ≡ false = sym t ∙ off in cc)

module _ (k : Life) where
  pub down_here : (g : Host) (ms : List Moment) → Kind k (Crossed (crossing.Down g)) ms
  down_here g ms = by (same_host k.host g) refl where
    by : (v : Bool) → same_host k.host g ≡ v → Kind k (Crossed (crossing.Down g)) ms
    by true e = ItStops (record {
      stage = ap (λ (v : Bool). (if v then record (ended_by (cut Stopped (places ms)) (course_in k ms)) { owes = false } else course_in k ms).stage) e;
      ends = ap (λ (v : Bool). end_in (at k.socket k.foreign (pair_with k.peer (if v then opening_state k.host else program k.host ms).peers).entries)) e;
      unended = λ h t. t;
      unreset = λ h t. t;
      unopened = λ h t. t;
    })
    by false e =
        away k (Crossed (crossing.Down g)) ms (off_host k.host g e) (ap
        (λ (v : Bool). pace (if v then record (ended_by (cut Stopped (places ms))
        (course_in k ms)) { owes = false } else course_in k ms)) e)
        (ap (λ (v : Bool). end_in (at k.socket k.foreign (pair_with k.peer (if v then opening_state k.host else program k.host ms).peers).entries)) e) (off_host k.host g e)

  pub up_here : (g : Host) (ms : List Moment) → Kind k (Crossed (crossing.Up g)) ms
  up_here g ms = by (same_host k.host g) refl where
    by : (v : Bool) → same_host k.host g ≡ v → Kind k (Crossed (crossing.Up g)) ms
    by true e = ItIdles (record {
      ends = ap (λ (v : Bool). end_in (at k.socket k.foreign (pair_with k.peer (if v then opening_state k.host else program k.host ms).peers).entries)) e;
      idle = inr ((λ h t. t), (λ h t. t));
      unopened = λ h t. t;
      up = λ d. d;
    })
    by false e =
        away k (Crossed (crossing.Up g)) ms (off_host k.host g e) (ap (λ (v : Bool). pace
        (if v then record (course_in k ms) { owes = false } else course_in k ms)) e)
        (ap (λ (v : Bool). end_in (at k.socket k.foreign (pair_with k.peer (if v then opening_state k.host else program k.host ms).peers).entries)) e) (λ d. d)

  contact_reset : (s : NcpState) (peer : Host) → TellsReset k (served_notices s (request.Contact peer)) → peer ≡ k.peer
  unfolding served_notices
  contact_reset s peer t = by (is_ready (pair_with peer s.peers).phase) t where
    by : (v : Bool) → TellsReset k (if v then notice.PairReset peer ∷ [] else []) → peer ≡ k.peer
    by true u = elim u [ inl e ↦ e | inr e ↦ absurd e ]
    by false u = absurd u

  contact_opening : (s : NcpState) (peer : Host) → TellsOpening k (served_notices s (request.Contact peer)) → ⊥
  unfolding served_notices
  contact_opening s peer t = by (is_ready (pair_with peer s.peers).phase) t where
    by : (v : Bool) → TellsOpening k (if v then notice.PairReset peer ∷ [] else []) → ⊥
    by true u = elim u [ inl e ↦ e | inr e ↦ e ]
    by false u = u

  module _ (hosts : Network) (ours : AreOurs hosts k.host k.peer) where
    asked_ends : (g : Host) (r : Request) (ms : List Moment) (l : Lawful hosts (Asked g r ∷ ms))
        → same_host k.host g ≡ true → end_of k (Asked g r ∷ ms) ≡ after_request k.peer r (end_of k ms)
    asked_ends g r ms l e =
        ap (λ (v : Bool). end_in (at k.socket k.foreign (pair_with k.peer (if v then served (program k.host ms) r else program k.host ms).peers).entries)) e
        ∙ once k.socket k.foreign (pair_with k.peer (served (program k.host ms) r).peers) (after_request k.peer r (end_of k ms))
        (request_keeps itself k.socket k.foreign (program k.host ms) r k.peer (end_of k ms) (subst (λ (h : Host). refusal (program h ms) r ≡ None) (sym (same_host-true k.host g e)) (l.2.0 (subst (λ (h : Host). hosts.strange h ≡ false) (same_host-true k.host g e) ours.0)).2)
        (has_now hosts ms (below hosts (Asked g r) ms l) k.host k.peer ours k.socket k.foreign))

    asked_away : (g : Host) (r : Request) (ms : List Moment) → same_host k.host g ≡ false
        → pace (course_in k (Asked g r ∷ ms)) ≡ pace (course_in k ms)
    asked_away g (request.Contact peer) ms e =
        ap (λ (v : Bool). pace (contacted_if (v && same_host k.peer peer) (places ms) (course_in k ms))) e
    asked_away g r ms e = refl

    asked_on : (g : Host) (r : Request) (ms : List Moment) (l : Lawful hosts (Asked g r ∷ ms))
        → same_host k.host g ≡ true → Kind k (Asked g r) ms
    unfolding served_notices
    asked_on g (request.Contact peer) ms l e = by (same_host k.peer peer) refl where
      by : (v : Bool) → same_host k.peer peer ≡ v → Kind k (Asked g (request.Contact peer)) ms
      by true f = ItDrops (record {
        stage = ap (λ (v : Bool). (contacted_if (v && same_host k.peer peer) (places ms) (course_in k ms)).stage) e ∙ ap (λ (v : Bool). (contacted_if v (places ms) (course_in k ms)).stage) f;
        ends = asked_ends g (request.Contact peer) ms l e ∙ ap (λ (v : Bool). if v then nothing else end_of k ms) f;
        unended = λ h t. quiet_tells k (notices_by (Asked g (request.Contact peer)) ms) (request_quiet (program g ms) (places ms) (request.Contact peer)) t;
        unopened = λ h t. contact_opening (program g ms) peer t;
        up = λ d. d;
      })
      by false f = ItStays (record {
        pace =
            ap (λ (v : Bool). pace (contacted_if (v && same_host k.peer peer) (places ms) (course_in k ms))) e
            ∙ ap (λ (v : Bool). pace (contacted_if v (places ms) (course_in k ms))) f;
        ends = asked_ends g (request.Contact peer) ms l e ∙ ap (λ (v : Bool). if v then nothing else end_of k ms) f;
        unended = λ h t. quiet_tells k (notices_by (Asked g (request.Contact peer)) ms) (request_quiet (program g ms) (places ms) (request.Contact peer)) t;
        unreset = λ h t. off_host k.peer peer f (contact_reset (program g ms) peer t);
        unopened = λ h t. contact_opening (program g ms) peer t;
        up = λ d. d;
      })
    asked_on g r ms l e = ItStays (record {
      pace = refl;
      ends = asked_ends g r ms l e;
      unended = λ h t. quiet_tells k (notices_by (Asked g r) ms) (request_quiet (program g ms) (places ms) r) t;
      unreset = λ h t. t;
      unopened = λ h t. t;
      up = λ d. d;
    })

    pub asked_here : (g : Host) (r : Request) (ms : List Moment) (l : Lawful hosts (Asked g r ∷ ms))
        → Kind k (Asked g r) ms
    asked_here g r ms l = by (same_host k.host g) refl where
      by : (v : Bool) → same_host k.host g ≡ v → Kind k (Asked g r) ms
      by true e = asked_on g r ms l e
      by false e =
          away k (Asked g r) ms (off_host k.host g e) (asked_away g r ms e) (ap (λ (v : Bool). end_in (at k.socket k.foreign (pair_with k.peer (if v then served (program k.host ms) r else program k.host ms).peers).entries)) e) (λ d. d)
