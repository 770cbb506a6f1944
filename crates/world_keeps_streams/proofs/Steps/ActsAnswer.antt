-- Moments in which messages of a host are gone: answers about them, and hosts that start.
use Rattle.world_keeps_streams.proofs.Common.{◌≡◌, inl, inr, ℕ, ◌==◌, Bool, true, false, ◌&&◌, if◌then◌else◌, List, [], ◌∷◌, ◌++◌, Some, is_some, refl, ap, sym, subst, ◌∙◌, eq-eqb, eqb-true, Host, same_host, Flow, Answer, same_host-true, Command, Stream, desk_of, settled, is_busy, PairState, TurnState, answered_turn, failed, freed, settled_turn, eqb-sym, Fetched, Free, Party, Steps, kind_in, is_signal, turn_of, accepted, NcpState, opening_state, pair_with, answer_leaves, Agrees, Moment, Crossed, IsStory, event_in, events_of, places, program, program_own, story_agrees, freed_busy, AreOurs, Network}
use Rattle.host_keeps_streams.specs.Histories.{Answered, IsTelling, is_out}
use Rattle.reset_law.specs.Boxes.{Clear, ClearAll, posted, boxes, Box, Empty, Waiting, Taken, Fits}
use Rattle.reset_law.specs.Events.{Other, are, place, when, Reset, Reply}
use Rattle.reset_law.specs.Pairs.{pair, Plain}
use Rattle.reset_law.proofs.lemmas.{alone_run, stays_ready, ready_phase}
use Rattle.world_keeps_streams.specs.Calls.{answer_calls, own_calls, called}
use Rattle.interface.specs.declared.crossing.Answer.TheVariants as answer
use Rattle.interface.specs.declared.crossing.Crossing.TheVariants as crossing
use Rattle.interface.specs.declared.crossing.Inbound.TheVariants as inbound
use Rattle.ncp_control.specs.Phases as program_phases
use Rattle.ncp_control.specs.declared.phase.Phase.TheVariants as phase
use Rattle.reset_law.specs.Runs.{IsRun}
use Rattle.reset_law.specs.Stays as stay
use Rattle.world_keeps_streams.proofs.Steps.Going.{Goes, answered_here, elsewhere_here, stays_as}
use Rattle.world_keeps_streams.proofs.Steps.GoesOut.{IsCleared, box_is_free, out_cleared}
use Rattle.world_keeps_streams.proofs.Steps.Held.{Acted, Held, HereIn, act_by}
use Rattle.world_keeps_streams.proofs.Steps.Joined.{commands_in, post_in}
use Rattle.world_keeps_streams.proofs.Stays.Owing.{told_rfnm}
use Rattle.world_keeps_streams.proofs.Calls.Chain.{ready_both, plain_at}
use Rattle.world_keeps_streams.proofs.Moments.Answer.{accepted_pair}
use Rattle.world_keeps_streams.proofs.Steps.ActsAsked.{kept_stop}

cleared_all : (t : Bool) (here : ℕ) (X : ℕ → Box) (l : ℕ) → IsCleared (X l) (posted here (when t ClearAll) X l)
cleared_all true here X l = inr refl
cleared_all false here X l = inl refl

at_cleared : (v : Bool) (z : Box) → IsCleared z (if v then Empty else z)
at_cleared true z = inr refl
at_cleared false z = inl refl

cleared_one : (t : Bool) (here k : ℕ) (X : ℕ → Box) (l : ℕ) → IsCleared (X l) (posted here (when t (Clear k)) X l)
cleared_one true here k X l = at_cleared _ (X l)
cleared_one false here k X l = inl refl

-- ---- what an answer finds

fits_none : (kind : Answer) (z : Box) → Fits kind z → (kind_in z ≡ Some Plain → kind ≡ answer.Rfnm) → commands_in z ≡ []
fits_none kind Empty f plain = refl
fits_none kind (Taken place m) f plain = refl
fits_none kind (Waiting place Reset) f plain = refl
fits_none kind (Waiting place Reply) f plain = refl
fits_none kind (Waiting place (Other text)) f plain = absurd (subst (λ (k : Answer). Fits k (Waiting place (Other text))) (plain refl) f)

not_empty : (kind : Answer) → Fits kind Empty → ⊥
not_empty answer.Rfnm f = f
not_empty kind f = f

fits_fetched : (kind : Answer) (z : Box) → Fits kind z → (kind_in z ≡ Some Plain → kind ≡ answer.Rfnm) → is_signal (kind_in z) ≡ false → post_in z ≡ Fetched
fits_fetched kind Empty f plain none = absurd (not_empty kind f)
fits_fetched kind (Taken place m) f plain none = refl
fits_fetched kind (Waiting place Reset) f plain none = absurd (let no : true ≡ false = none in cc)
fits_fetched kind (Waiting place Reply) f plain none = absurd (let no : true ≡ false = none in cc)
fits_fetched kind (Waiting place (Other text)) f plain none = absurd (subst (λ (k : Answer). Fits k (Waiting place (Other text))) (plain refl) f)

-- ---- what an answer does to a pair that stays ready

failed_settles : (p : Host) (t : TurnState) → t.pair.phase ≡ phase.Ready → (o : Bool) → t.pair.owed ≡ o → program_phases.is_ready (failed p t).pair.phase ≡ true → failed p t ≡ settled_turn t
failed_settles p t e true f r = rw (e, f) refl
failed_settles p t e false f r = absurd (let no : false ≡ true = rw (e, f) at r in cc)

abbrev Settles : PairState → ℕ → TurnState → PairState → Type 0
Settles q k t next = ((settled (freed k q).busy (desk_of q t.listening)).entries ≡ next.entries) × ((settled (freed k q).busy (desk_of q t.listening)).queue ≡ next.queue)

answered_settles : (p : Host) (kind : Answer) (k : ℕ) (t : TurnState) → t.pair.phase ≡ phase.Ready → program_phases.is_ready (answered_turn p kind k t).pair.phase ≡ true → Settles t.pair k t (answered_turn p kind k t).pair
answered_settles p answer.Rfnm k t e r = (refl, refl)
answered_settles p answer.Dead k t e r =
    let cleared : TurnState = record t { pair = freed k t.pair } in
    let is : failed p (record t { pair = freed k t.pair }) ≡ settled_turn (record t { pair = freed k t.pair }) = failed_settles p (record t { pair = freed k t.pair }) e t.pair.owed refl r in
    (sym (ap (λ (u : TurnState). u.pair.entries) is), sym (ap (λ (u : TurnState). u.pair.queue) is))
answered_settles p kind k t e r =
    let is : failed p (record t { pair = freed k t.pair }) ≡ settled_turn (record t { pair = freed k t.pair }) = failed_settles p (record t { pair = freed k t.pair }) e t.pair.owed refl r in
    (sym (ap (λ (u : TurnState). u.pair.entries) is), sym (ap (λ (u : TurnState). u.pair.queue) is))

answered_pair : (s : NcpState) (kind : Answer) (f : Flow) (stamp : ℕ) (p : Host) → p ≡ f.destination → same_host s.own f.source ≡ true → is_busy (pair_with p s.peers).busy f.link.0 ≡ true
    → pair_with p (accepted s (inbound.Answer kind f) stamp).0.peers ≡ (answered_turn p kind f.link.0 (turn_of s p)).pair
answered_pair s kind f stamp p is own busy =
    subst (λ (h : Host). pair_with h (accepted s (inbound.Answer kind f) stamp).0.peers ≡ (answered_turn h kind f.link.0 (turn_of s h)).pair) (sym is)
    (accepted_pair s kind f stamp own (subst (λ (h : Host). is_busy (pair_with h s.peers).busy f.link.0 ≡ true) is busy))

module _ (number other : ℕ → ℕ → ℕ → ℕ) (tells : IsTelling number) (others : IsTelling other) (link : ℕ) (off : (link == 0) ≡ false) (steps : Steps number other tells others link) (hosts : Network) (h p : Host) (ours : AreOurs hosts h p) (moments : List Moment) (rest : List Command) (b : Party) (x y : Stream)
    (held : Held number other tells others link h p moments (commands_in (boxes h p (events_of moments) 0)) rest (post_in (boxes h p (events_of moments) link)) b x y) where
  abbrev X : ℕ → Box
  X = boxes h p (events_of moments)

  abbrev s : NcpState
  s = program h moments

  -- a host that starts
  pub act_up : (g : Host) → stay.begins h p (event_in (Crossed (crossing.Up g))) (events_of moments) ≡ false
      → Acted number other tells others link h p (Crossed (crossing.Up g) ∷ moments) (commands_in (boxes h p (events_of (Crossed (crossing.Up g) ∷ moments)) 0)) (post_in (boxes h p (events_of (Crossed (crossing.Up g) ∷ moments)) link)) b x y
  act_up g old =
      act_by number other tells others link steps h p (Crossed (crossing.Up g)) moments (commands_in (X 0)) rest (post_in (X link)) b x y
      (commands_in (boxes h p (events_of (Crossed (crossing.Up g) ∷ moments)) 0)) (post_in (boxes h p (events_of (Crossed (crossing.Up g) ∷ moments)) link)) b old held
      (λ k e f here. by (same_host h g) (kept_stop (same_host h g) (pair h p (events_of moments)) k) here)
      (λ left j. out_cleared number other tells others link steps h p (Crossed (crossing.Up g) ∷ moments) b x y left (X 0) (boxes h p (events_of (Crossed (crossing.Up g) ∷ moments)) 0) (X link) (boxes h p (events_of (Crossed (crossing.Up g) ∷ moments)) link) rest
      (cleared_all (same_host h g) (place (events_of moments)) X 0) (cleared_all (same_host h g) (place (events_of moments)) X link) j) where
        by : (t : Bool) → t ≡ false → HereIn number other tells others link h p moments (commands_in (X 0)) (post_in (X link)) b x y
            → Goes number other tells others link p ([] ++ own_calls h p moments) (pair_with p (if t then opening_state h else program h moments).peers)
            (commands_in (posted (place (events_of moments)) (when t ClearAll) X 0)) (post_in (posted (place (events_of moments)) (when t ClearAll) X link)) b x y
        by true e here = absurd (let no : true ≡ false = e in cc)
        by false e here = stays_as number other tells others link p (own_calls h p moments) (pair_with p s.peers) (commands_in (X 0)) (post_in (X link)) b x y here

  -- an answer about a message of this host
  module _ (kind : Answer) (f : Flow) (story : IsStory hosts (Crossed (crossing.Answer kind f) ∷ moments)) (run : IsRun hosts (events_of (Crossed (crossing.Answer kind f) ∷ moments))) where
    abbrev k : ℕ
    k = f.link.0

    abbrev q : PairState
    q = pair_with p s.peers

    module _ (mine : same_host h f.source ≡ true) (theirs : same_host p f.destination ≡ true) (stays : stay.stays h p (events_of moments) ≡ true) (still : stay.stays h p (events_of (Crossed (crossing.Answer kind f) ∷ moments)) ≡ true)
        (here : HereIn number other tells others link h p moments (commands_in (X 0)) (post_in (X link)) b x y) where
      agrees : Agrees (pair_with p (program h moments).peers) (pair h p (events_of moments))
      agrees = story_agrees hosts moments h p ours story.1

      are_these : are h p f.source f.destination ≡ true
      are_these = rw (mine, theirs) refl

      own_host : h ≡ f.source
      own_host = same_host-true h f.source mine

      peer_host : p ≡ f.destination
      peer_host = same_host-true p f.destination theirs

      own_is : same_host (program h moments).own f.source ≡ true
      own_is = ap (λ (g : Host). same_host g f.source) (program_own h moments) ∙ mine

      outstanding : is_busy (pair_with p (program h moments).peers).busy f.link.0 ≡ true
      outstanding =
          sym (agrees.busy f.link.0) ∙ subst (λ (g : Host). is_some ((pair g p (events_of moments)).out f.link.0) ≡ true) (sym own_host)
          (subst (λ (g : Host). is_some ((pair f.source g (events_of moments)).out f.link.0) ≡ true) (sym peer_host) (story.0 (plain_at hosts h f.source mine ours.0, plain_at hosts p f.destination theirs ours.1)))

      fits : Fits kind (X f.link.0)
      fits = subst (λ (g : Host). Fits kind (boxes g p (events_of moments) f.link.0)) (sym own_host) (subst (λ (g : Host). Fits kind (boxes f.source g (events_of moments) f.link.0)) (sym peer_host) run.0.1)

      rfnm : kind_in (X f.link.0) ≡ Some Plain → kind ≡ answer.Rfnm
      rfnm plain = told_rfnm hosts f.source f.destination f.link.0 kind (events_of moments) run h p ours are_these stays (stays_ready (events_of (Crossed (crossing.Answer kind f) ∷ moments)) h p still) plain

      now_ready : program_phases.is_ready (pair_with p (program h (Crossed (crossing.Answer kind f) ∷ moments)).peers).phase ≡ true
      now_ready = sym (ready_both hosts h p (Crossed (crossing.Answer kind f) ∷ moments) ours story) ∙ stays_ready (events_of (Crossed (crossing.Answer kind f) ∷ moments)) h p still

      was_ready : (pair_with p (program h moments).peers).phase ≡ phase.Ready
      was_ready = ready_phase (pair_with p (program h moments).peers).phase (sym (ready_both hosts h p moments ours story.1) ∙ stays_ready (events_of moments) h p stays)

      changed : pair_with p (accepted (program h moments) (inbound.Answer kind f) (places moments)).0.peers ≡ (answered_turn p kind f.link.0 (turn_of (program h moments) p)).pair
      changed = answered_pair _ kind f _ p peer_host own_is outstanding

      told_ready : program_phases.is_ready (pair_with p (accepted (program h moments) (inbound.Answer kind f) (places moments)).0.peers).phase ≡ true
      told_ready = rw mine at now_ready

      settles : Settles (pair_with p (program h moments).peers) f.link.0 (turn_of (program h moments) p) (answered_turn p kind f.link.0 (turn_of (program h moments) p)).pair
      settles = answered_settles p kind f.link.0 _ was_ready (sym (ap (λ (n : PairState). program_phases.is_ready n.phase) changed) ∙ told_ready)

      ends : (settled (freed f.link.0 (pair_with p (program h moments).peers)).busy (desk_of (pair_with p (program h moments).peers) (program h moments).listening)).entries ≡ (pair_with p (accepted (program h moments) (inbound.Answer kind f) (places moments)).0.peers).entries
      ends = settles.0 ∙ sym (ap (λ (n : PairState). n.entries) changed)

      waits : (settled (freed f.link.0 (pair_with p (program h moments).peers)).busy (desk_of (pair_with p (program h moments).peers) (program h moments).listening)).queue ≡ (pair_with p (accepted (program h moments) (inbound.Answer kind f) (places moments)).0.peers).queue
      waits = settles.1 ∙ sym (ap (λ (n : PairState). n.queue) changed)

      still_busy : (f.link.0 == link) ≡ false → is_busy (freed f.link.0 (pair_with p (program h moments).peers)).busy link ≡ is_busy (pair_with p (program h moments).peers).busy link
      still_busy away =
          let swapped : (link == f.link.0) ≡ false = eqb-sym link f.link.0 ∙ away in
          sym (freed_busy (pair_with p (program h moments).peers) (pair h p (events_of moments)) f.link.0 agrees.busy link) ∙ rw swapped (agrees.busy link)

      room : (f.link.0 == link) ≡ false → is_out link (Answered f.link.0) (pair_with p (program h moments).peers) ≡ false → post_in (X link) ≡ Free
      room away free = ap post_in (box_is_free hosts h p ours moments run.2 story.1 stays link (sym (still_busy away) ∙ free))

      clash_links : (f.link.0 == link) ≡ true → (0 == f.link.0) ≡ true → ⊥
      clash_links e z =
          let one : f.link.0 ≡ link = eqb-true f.link.0 link e in
          let two : 0 ≡ f.link.0 = eqb-true 0 f.link.0 z in
          let same : (link == 0) ≡ true = eq-eqb link 0 (sym (two ∙ one)) in
          let no : true ≡ false = sym same ∙ off in absurd (cc)

      is_fetched : (f.link.0 == link) ≡ true → post_in (X link) ≡ Fetched
      is_fetched e =
          let one : f.link.0 ≡ link = eqb-true f.link.0 link e in
          subst (λ (l : ℕ). post_in (X l) ≡ Fetched) one (fits_fetched kind _ fits rfnm (no_signal _ refl e)) where
            no_signal : (v : Bool) → is_signal (kind_in (X f.link.0)) ≡ v → (f.link.0 == link) ≡ true → v ≡ false
            no_signal true g e = absurd (clash_links e (eq-eqb 0 f.link.0 (sym ((alone_run hosts _ run.2 h p ours).on_zero f.link.0 g))))
            no_signal false g e = refl

      none_left : (0 == f.link.0) ≡ true → commands_in (X 0) ≡ []
      none_left z = subst (λ (l : ℕ). commands_in (X l) ≡ []) (sym (eqb-true 0 f.link.0 z)) (fits_none kind _ fits rfnm)

      -- by the link
      answered_by : (v w : Bool) → (f.link.0 == link) ≡ v → (0 == f.link.0) ≡ w
          → Goes number other tells others link p (called (Answered f.link.0) (pair_with p (program h moments).peers) (program h moments).listening ∷ own_calls h p moments) (pair_with p (accepted (program h moments) (inbound.Answer kind f) (places moments)).0.peers)
          (commands_in (if w then Empty else X 0)) (post_in (if v then Empty else X link)) b x y
      answered_by true true e z = absurd (clash_links e z)
      answered_by true false e z =
          answered_here number other tells others link p (own_calls h p moments) (pair_with p (program h moments).peers) (commands_in (X 0)) (post_in (X link)) b x y here steps (program h moments).listening f.link.0 e (is_fetched e)
          (pair_with p (accepted (program h moments) (inbound.Answer kind f) (places moments)).0.peers) ends waits
      answered_by false true e z =
          let nothing : commands_in (X 0) ≡ [] = none_left z in
          subst (λ (cs : List Command). Goes number other tells others link p (called (Answered f.link.0) (pair_with p (program h moments).peers) (program h moments).listening ∷ own_calls h p moments) (pair_with p (accepted (program h moments) (inbound.Answer kind f) (places moments)).0.peers) cs (post_in (X link)) b x y) nothing
          (elsewhere_here number other tells others link p (own_calls h p moments) (pair_with p (program h moments).peers) (commands_in (X 0)) (post_in (X link)) b x y here steps (program h moments).listening f.link.0 e (room e)
          (pair_with p (accepted (program h moments) (inbound.Answer kind f) (places moments)).0.peers) ends waits)
      answered_by false false e z =
          elsewhere_here number other tells others link p (own_calls h p moments) (pair_with p (program h moments).peers) (commands_in (X 0)) (post_in (X link)) b x y here steps (program h moments).listening f.link.0 e (room e)
          (pair_with p (accepted (program h moments) (inbound.Answer kind f) (places moments)).0.peers) ends waits

    pub act_answer : stay.begins h p (event_in (Crossed (crossing.Answer kind f))) (events_of moments) ≡ false
        → Acted number other tells others link h p (Crossed (crossing.Answer kind f) ∷ moments) (commands_in (boxes h p (events_of (Crossed (crossing.Answer kind f) ∷ moments)) 0)) (post_in (boxes h p (events_of (Crossed (crossing.Answer kind f) ∷ moments)) link)) b x y
    act_answer old =
        act_by number other tells others link steps h p (Crossed (crossing.Answer kind f)) moments (commands_in (X 0)) rest (post_in (X link)) b x y
        (commands_in (boxes h p (events_of (Crossed (crossing.Answer kind f) ∷ moments)) 0)) (post_in (boxes h p (events_of (Crossed (crossing.Answer kind f) ∷ moments)) link)) b old held
        (λ k e g here. by (same_host h f.source) (same_host p f.destination) refl refl e g here)
        (λ left j. out_cleared number other tells others link steps h p (Crossed (crossing.Answer kind f) ∷ moments) b x y left (X 0) (boxes h p (events_of (Crossed (crossing.Answer kind f) ∷ moments)) 0) (X link) (boxes h p (events_of (Crossed (crossing.Answer kind f) ∷ moments)) link) rest
        (cleared_one (are h p f.source f.destination) (place (events_of moments)) f.link.0 X 0) (cleared_one (are h p f.source f.destination) (place (events_of moments)) f.link.0 X link) j) where
          by : (t u : Bool) → same_host h f.source ≡ t → same_host p f.destination ≡ u → stay.stays h p (events_of moments) ≡ true → stay.stays h p (events_of (Crossed (crossing.Answer kind f) ∷ moments)) ≡ true
              → HereIn number other tells others link h p moments (commands_in (X 0)) (post_in (X link)) b x y
              → Goes number other tells others link p ((if t && u then answer_calls f.link.0 (pair_with p (program h moments).peers) (program h moments).listening else []) ++ own_calls h p moments)
              (pair_with p (if t then (accepted (program h moments) (inbound.Answer kind f) (places moments)).0 else program h moments).peers)
              (commands_in (posted (place (events_of moments)) (when (t && u) (Clear f.link.0)) X 0)) (post_in (posted (place (events_of moments)) (when (t && u) (Clear f.link.0)) X link)) b x y
          by true true e g stays still here =
              let busy : is_busy (pair_with p (program h moments).peers).busy f.link.0 ≡ true = outstanding e g stays still here in
              rw busy (rw (eqb-sym link f.link.0) (answered_by e g stays still here (f.link.0 == link) (0 == f.link.0) refl refl))
          by true false e g stays still here =
              let same : pair_with p (accepted (program h moments) (inbound.Answer kind f) (places moments)).0.peers ≡ pair_with p (program h moments).peers = answer_leaves (program h moments) kind f (places moments) p g in
              rw same (stays_as number other tells others link p (own_calls h p moments) (pair_with p (program h moments).peers) (commands_in (X 0)) (post_in (X link)) b x y here)
          by false u e g stays still here = stays_as number other tells others link p (own_calls h p moments) (pair_with p (program h moments).peers) (commands_in (X 0)) (post_in (X link)) b x y here
