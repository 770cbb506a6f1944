-- Each call of the plain boxes leaves what waits fitting the mailboxes.
use Rattle.leader1822.proofs.Common.{list_any, Host, is_host, same_host, texts_of, kinds_of, texts_for, kinds_for, FitsBox, FlowFits, AreTo, AreToldTo, Matches, IsSound, Flow, Answer, HostMessage}
use Rattle.std.proofs.Common.{◌≡◌, ℕ, Bool, true, false, not, List, [], ◌∷◌, ◌++◌, length, refl, ap, sym, subst, ◌∙◌, Some, None, inl, inr}
use Rattle.interface.specs.Mailboxes.{Box, Empty, Waiting, Taken, WaitsWith, Fits, fetched, same_flow, box_of}
use Rattle.leader1822.specs.Boxes.{Boxes, WaitingAnswer, for_host, with_queue, rest, is_of, is_about, is_running, is_busy, one_if, offer_refusal, offered, host_refusal, inbound_taken, inbound_of}
use Rattle.interface.specs.declared.carrier.CarrierFault.TheVariants as fault
use Rattle.interface.specs.declared.crossing.Answer.TheVariants as answer
use Rattle.interface.specs.declared.crossing.Crossing.TheVariants as crossing
use Rattle.interface.specs.declared.crossing.Inbound.TheVariants as inbound
use Rattle.interface.proofs.lemmas.{guard, not_false, or_false, same_flow-refl, same_flow-true, same_host-true}
use Rattle.leader1822.proofs.Waiting.{any_of, any_about, none_waits}
use Rattle.leader1822.proofs.ForHost.{for_with_here, for_with_other, texts_queued_same, texts_queued_other, kinds_queued_same, kinds_queued_other, AreTo-rest, AreToldTo-rest, sent_with, told_with, sent_queued, told_queued}

-- equal parts fit alike
pub same_fits : {s s' d d' : Bool} {ts ts' : List (List Bool)} {ks ks' : List Answer} {b b' : Box}
    → s' ≡ s → d' ≡ d → ts' ≡ ts → ks' ≡ ks → b' ≡ b → FitsBox s d ts ks b → FitsBox s' d' ts' ks' b'
same_fits {s} {s'} {d} {d'} {ts} {ts'} {ks} {ks'} {b} {b'} es ed et ek eb h =
    let P1 : Bool → Type 0 = λ x. FitsBox x d ts ks b in
    let P2 : Bool → Type 0 = λ x. FitsBox s' x ts ks b in
    let P3 : List (List Bool) → Type 0 = λ x. FitsBox s' d' x ks b in
    let P4 : List Answer → Type 0 = λ x. FitsBox s' d' ts' x b in
    let P5 : Box → Type 0 = λ x. FitsBox s' d' ts' ks' x in
    subst P5 (sym eb) (subst P4 (sym ek) (subst P3 (sym et) (subst P2 (sym ed) (subst P1 (sym es) h))))

-- what waits of a flow
pub record Waits (b : Boxes) (f : Flow) (ts : List (List Bool)) (ks : List Answer) : Type 0 where
  pub texts : texts_for b f ≡ ts
  pub kinds : kinds_for b f ≡ ks

-- ---- offering

-- a message goes into an empty box: it waits where it can be reached, and else Dead waits
fits_put : (d : Bool) (place : ℕ) (t : List Bool) → FitsBox true d (one_if d t) (one_if (not d) answer.Dead) (Waiting place t)
fits_put true place t = record {
  queued = inr (t, refl, refl, refl, refl);
  told = λ s n. absurd (cc);
  shut = λ s. refl;
}
fits_put false place t = record {
  queued = inl refl;
  told = λ s n. inr (answer.Dead, refl, tt);
  shut = λ s. absurd (cc);
}

-- the facts of an offer that isn't refused
pub record Offerable (b : Boxes) (f : Flow) : Type 0 where
  pub running : b.stopped ≡ false
  pub source : is_running b.hosts b.down f.source ≡ true
  pub no_text : texts_for b f ≡ []
  pub no_kind : kinds_for b f ≡ []

pub offerable : (b : Boxes) (f : Flow) → offer_refusal b f ≡ None → Offerable b f
offerable b f e =
    let g1 = guard b.stopped fault.Stopped _ e in
    let g2 = guard (not (is_host b.hosts f.source)) fault.NoSuch _ g1.1 in
    let g3 = guard (is_host b.down f.source) fault.IsDown _ g2.1 in
    let g4 = guard (is_busy b f) fault.Blocked _ g3.1 in
    let there = not_false (is_host b.hosts f.source) g2.0 in
    let idle = or_false (list_any (is_of f) (for_host b.messages f.destination)) (list_any (is_about f) (for_host b.answers f.source)) g4.0 in
    let up : is_host b.down f.source ≡ false = g3.0 in
    record {
      running = g1.0;
      source = rw (there, up) refl;
      no_text = none_waits (texts_for b f) (sym (any_of f (for_host b.messages f.destination)) ∙ idle.0);
      no_kind = none_waits (kinds_for b f) (sym (any_about f (for_host b.answers f.source)) ∙ idle.1);
    }

pub offered_here : (b : Boxes) (m : HostMessage) → Offerable b m.flow
    → Waits (offered b m) m.flow (one_if (is_running b.hosts b.down m.flow.destination) m.text) (one_if (not (is_running b.hosts b.down m.flow.destination)) answer.Dead)
offered_here b m o =
    let f = m.flow in
    let d = is_running b.hosts b.down f.destination in
    record {
      texts = texts_queued_same d b.messages m ∙ ap (λ (ts : List (List Bool)). ts ++ one_if d m.text) o.no_text;
      kinds = kinds_queued_same (not d) b.answers answer.Dead f ∙ ap (λ (ks : List Answer). ks ++ one_if (not d) answer.Dead) o.no_kind;
    }

pub offered_there : (b : Boxes) (m : HostMessage) (g : Flow) → same_flow g m.flow ≡ false → Waits (offered b m) g (texts_for b g) (kinds_for b g)
offered_there b m g other =
    let d = is_running b.hosts b.down m.flow.destination in
    record { texts = texts_queued_other d b.messages m g other; kinds = kinds_queued_other (not d) b.answers answer.Dead m.flow g other }

offered_flow : (b : Boxes) (m : HostMessage) → Matches b → Offerable b m.flow → (g : Flow) (same : Bool) → same_flow g m.flow ≡ same → FlowFits (offered b m) g
offered_flow b m h o g true e =
    let P : Flow → Type 0 = λ x. FlowFits (offered b m) x in
    let d = is_running b.hosts b.down m.flow.destination in
    let w = offered_here b m o in
    let box : box_of m.flow (crossing.Out m ∷ b.log) ≡ Waiting (length b.log) m.text = rw (same_flow-refl m.flow) refl in
    subst P (sym (same_flow-true g m.flow e)) (same_fits o.source refl w.texts w.kinds box (fits_put d (length b.log) m.text))
offered_flow b m h o g false e =
    let w = offered_there b m g e in
    let box : box_of g (crossing.Out m ∷ b.log) ≡ box_of g b.log = rw e refl in
    same_fits refl refl w.texts w.kinds box (h.flows g)

-- an idle flow's box is empty
empty_box : (b : Boxes) (f : Flow) → FlowFits b f → Offerable b f → box_of f b.log ≡ Empty
empty_box b f h o = elim (h.told o.source o.no_text) [
  | inl (none, empty) ↦ empty
  | inr (k, one, fit) ↦ absurd (let e : k ∷ [] ≡ [] = sym one ∙ o.no_kind in cc)
]

pub offered_sound : (b : Boxes) (m : HostMessage) → IsSound b → offer_refusal b m.flow ≡ None → IsSound (offered b m)
offered_sound b m h e =
    let o : Offerable b m.flow = offerable b m.flow e in
    let k : Matches b = h.matches o.running in
    let d = is_running b.hosts b.down m.flow.destination in
    record {
      ordered = h.ordered;
      run = ((k.up m.flow.source ∙ o.source, empty_box b m.flow (k.flows m.flow) o), h.run);
      matches = λ running. record {
        up = k.up;
        flows = λ g. offered_flow b m k o g (same_flow g m.flow) refl;
        sent = sent_queued d b.messages m k.sent;
        told = told_queued (not d) b.answers answer.Dead m.flow k.told;
      };
    }

-- ---- taking

pub record Runs (b : Boxes) (h : Host) : Type 0 where
  pub running : b.stopped ≡ false
  pub host : is_running b.hosts b.down h ≡ true

pub runs_here : (b : Boxes) (h : Host) → host_refusal b h ≡ None → Runs b h
runs_here b h e =
    let g1 = guard b.stopped fault.Stopped _ e in
    let g2 = guard (not (is_host b.hosts h)) fault.NoSuch _ g1.1 in
    let g3 = guard (is_host b.down h) fault.IsDown _ g2.1 in
    let there = not_false (is_host b.hosts h) g2.0 in
    let up : is_host b.down h ≡ false = g3.0 in
    record { running = g1.0; host = rw (there, up) refl }

pub fits_empty : (s d : Bool) → FitsBox s d [] [] Empty
fits_empty s d = record { queued = inl refl; told = λ u n. inl (refl, refl); shut = λ u. refl }

-- the answer that a host takes is all that waits of its flow
pub record TakesAnswer (b : Boxes) (h : Host) (a : WaitingAnswer) (left : List WaitingAnswer) : Type 0 where
  pub mine : a.1.source ≡ h
  pub fit : Fits a.0 (box_of a.1 b.log)
  pub no_text : texts_for b a.1 ≡ []
  pub alone : kinds_of a.1 left ≡ []

pub takes_answer : (b : Boxes) (h : Host) (a : WaitingAnswer) (left : List WaitingAnswer) → Matches b → is_running b.hosts b.down h ≡ true → for_host b.answers h ≡ a ∷ left → TakesAnswer b h a left
takes_answer b h a left k up whole =
    let f = a.1 in
    let told : AreToldTo h (a ∷ left) = subst (AreToldTo h) whole (k.told h) in
    let mine : f.source ≡ h = sym (same_host-true h f.source told.0) in
    let here : kinds_of f (a ∷ left) ≡ a.0 ∷ kinds_of f left = rw (same_flow-refl f) refl in
    let all : kinds_for b f ≡ a.0 ∷ kinds_of f left = ap (λ (x : Host). kinds_of f (for_host b.answers x)) mine ∙ ap (kinds_of f) whole ∙ here in
    let runs : is_running b.hosts b.down f.source ≡ true = ap (λ (x : Host). is_running b.hosts b.down x) mine ∙ up in
    elim ((k.flows f).queued) [
      | inr (t, one, holds, none, there) ↦ absurd (let c : a.0 ∷ kinds_of f left ≡ [] = sym all ∙ none in cc)
      | inl quiet ↦ elim ((k.flows f).told runs quiet) [
        | inl (none, empty) ↦ absurd (let c : a.0 ∷ kinds_of f left ≡ [] = sym all ∙ none in cc)
        | inr (kind, one, fit) ↦
            (let both : a.0 ∷ kinds_of f left ≡ kind ∷ [] = sym all ∙ one in
            let same : kind ≡ a.0 = cc in
            let nothing : kinds_of f left ≡ [] = cc in
            let P : Answer → Type 0 = λ x. Fits x (box_of f b.log) in
            record { mine = mine; fit = subst P same fit; no_text = quiet; alone = nothing })
      ]
    ]

-- the boxes after a host took this answer
abbrev pub answered : Boxes → Host → WaitingAnswer → Boxes
answered b h a = inbound_taken b h (Some (inbound_of a))

pub answered_here : (b : Boxes) (h : Host) (a : WaitingAnswer) (left : List WaitingAnswer) → for_host b.answers h ≡ a ∷ left → TakesAnswer b h a left → Waits (answered b h a) a.1 [] []
answered_here b h a left whole t = record {
  texts = t.no_text;
  kinds = ap (λ (x : Host). kinds_of a.1 (for_host (with_queue b.answers h (rest (for_host b.answers h))) x)) t.mine
      ∙ ap (kinds_of a.1) (for_with_here b.answers h (rest (for_host b.answers h)) ∙ ap rest whole) ∙ t.alone;
}

-- another flow's answers are as before
pub answered_there : (b : Boxes) (h : Host) (a : WaitingAnswer) (left : List WaitingAnswer) → for_host b.answers h ≡ a ∷ left → (g : Flow) → same_flow g a.1 ≡ false
    → Waits (answered b h a) g (texts_for b g) (kinds_for b g)
answered_there b h a left whole g other = record { texts = refl; kinds = by (same_host g.source h) refl } where
  by : (v : Bool) → same_host g.source h ≡ v → kinds_of g (for_host (with_queue b.answers h (rest (for_host b.answers h))) g.source) ≡ kinds_for b g
  by true s =
      let P : Host → Type 0 = λ x. kinds_of g (for_host (with_queue b.answers h (rest (for_host b.answers h))) x) ≡ kinds_of g (for_host b.answers x) in
      let past : kinds_of g (a ∷ left) ≡ kinds_of g left = rw other refl in
      subst P (sym (same_host-true g.source h s)) (ap (kinds_of g) (for_with_here b.answers h (rest (for_host b.answers h)) ∙ ap rest whole) ∙ sym past ∙ ap (kinds_of g) (sym whole))
  by false s = ap (kinds_of g) (for_with_other b.answers h (rest (for_host b.answers h)) g.source s)

answer_flow : (b : Boxes) (h : Host) (a : WaitingAnswer) (left : List WaitingAnswer) → for_host b.answers h ≡ a ∷ left → Matches b → TakesAnswer b h a left
    → (g : Flow) (same : Bool) → same_flow g a.1 ≡ same → FlowFits (answered b h a) g
answer_flow b h a left whole k t g true e =
    let f = a.1 in
    let P : Flow → Type 0 = λ x. FlowFits (answered b h a) x in
    let w = answered_here b h a left whole t in
    let box : box_of f (crossing.Answer a.0 f ∷ b.log) ≡ Empty = rw (same_flow-refl f) refl in
    subst P (sym (same_flow-true g f e)) (same_fits refl refl w.texts w.kinds box (fits_empty (is_running b.hosts b.down f.source) (is_running b.hosts b.down f.destination)))
answer_flow b h a left whole k t g false e =
    let w = answered_there b h a left whole g e in
    let box : box_of g (crossing.Answer a.0 a.1 ∷ b.log) ≡ box_of g b.log = rw e refl in
    same_fits refl refl w.texts w.kinds box (k.flows g)

pub answer_sound : (b : Boxes) (h : Host) (a : WaitingAnswer) (left : List WaitingAnswer) → IsSound b → host_refusal b h ≡ None → for_host b.answers h ≡ a ∷ left → IsSound (answered b h a)
answer_sound b h a left s e whole =
    let r : Runs b h = runs_here b h e in
    let k : Matches b = s.matches r.running in
    let t : TakesAnswer b h a left = takes_answer b h a left k r.host whole in
    record {
      ordered = s.ordered;
      run = ((k.up a.1.source ∙ ap (λ (x : Host). is_running b.hosts b.down x) t.mine ∙ r.host, t.fit), s.run);
      matches = λ running. record {
        up = k.up;
        flows = λ g. answer_flow b h a left whole k t g (same_flow g a.1) refl;
        sent = k.sent;
        told = told_with b.answers h (rest (for_host b.answers h)) k.told (AreToldTo-rest h (for_host b.answers h) (k.told h));
      };
    }

-- the RFNM of a message that was taken waits for its source, if that is up
fits_fetched : (s d : Bool) (box : Box) (t : List Bool) → WaitsWith box t → FitsBox s d [] (one_if s answer.Rfnm) (fetched box)
fits_fetched s d Empty t h = absurd h
fits_fetched s d (Taken place kept) t h = absurd h
fits_fetched true d (Waiting place kept) t h = record { queued = inl refl; told = λ u n. inr (answer.Rfnm, refl, tt); shut = λ u. absurd (cc) }
fits_fetched false d (Waiting place kept) t h = record { queued = inl refl; told = λ u n. absurd (cc); shut = λ u. refl }

-- the message that a host takes is all that waits of its flow
pub record TakesMessage (b : Boxes) (h : Host) (m : HostMessage) (left : List HostMessage) : Type 0 where
  pub mine : m.flow.destination ≡ h
  pub all : texts_for b m.flow ≡ m.text ∷ texts_of m.flow left
  pub holds : WaitsWith (box_of m.flow b.log) m.text
  pub no_kind : kinds_for b m.flow ≡ []
  pub alone : texts_of m.flow left ≡ []

pub takes_message : (b : Boxes) (h : Host) (m : HostMessage) (left : List HostMessage) → Matches b → for_host b.messages h ≡ m ∷ left → TakesMessage b h m left
takes_message b h m left k whole =
    let f = m.flow in
    let sent : AreTo h (m ∷ left) = subst (AreTo h) whole (k.sent h) in
    let mine : f.destination ≡ h = sym (same_host-true h f.destination sent.0) in
    let here : texts_of f (m ∷ left) ≡ m.text ∷ texts_of f left = rw (same_flow-refl f) refl in
    let all : texts_for b f ≡ m.text ∷ texts_of f left = ap (λ (x : Host). texts_of f (for_host b.messages x)) mine ∙ ap (texts_of f) whole ∙ here in
    elim ((k.flows f).queued) [
      | inl none ↦ absurd (let c : m.text ∷ texts_of f left ≡ [] = sym all ∙ none in cc)
      | inr (t, one, holds, none, there) ↦
          (let both : m.text ∷ texts_of f left ≡ t ∷ [] = sym all ∙ one in
          let same : t ≡ m.text = cc in
          let nothing : texts_of f left ≡ [] = cc in
          let P : List Bool → Type 0 = λ x. WaitsWith (box_of f b.log) x in
          record { mine = mine; all = all; holds = subst P same holds; no_kind = none; alone = nothing })
    ]

-- the boxes after a host took this message
abbrev pub fetches : Boxes → Host → HostMessage → Boxes
fetches b h m = inbound_taken b h (Some (inbound.Message m))

pub fetched_here : (b : Boxes) (h : Host) (m : HostMessage) (left : List HostMessage) → for_host b.messages h ≡ m ∷ left → TakesMessage b h m left
    → Waits (fetches b h m) m.flow [] (one_if (is_running b.hosts b.down m.flow.source) answer.Rfnm)
fetched_here b h m left whole t =
    let s = is_running b.hosts b.down m.flow.source in
    record {
      texts = ap (λ (x : Host). texts_of m.flow (for_host (with_queue b.messages h (rest (for_host b.messages h))) x)) t.mine
          ∙ ap (texts_of m.flow) (for_with_here b.messages h (rest (for_host b.messages h)) ∙ ap rest whole) ∙ t.alone;
      kinds = kinds_queued_same s b.answers answer.Rfnm m.flow ∙ ap (λ (ks : List Answer). ks ++ one_if s answer.Rfnm) t.no_kind;
    }

pub fetched_there : (b : Boxes) (h : Host) (m : HostMessage) (left : List HostMessage) → for_host b.messages h ≡ m ∷ left → (g : Flow) → same_flow g m.flow ≡ false
    → Waits (fetches b h m) g (texts_for b g) (kinds_for b g)
fetched_there b h m left whole g other =
    record { texts = by (same_host g.destination h) refl; kinds = kinds_queued_other (is_running b.hosts b.down m.flow.source) b.answers answer.Rfnm m.flow g other } where
      by : (v : Bool) → same_host g.destination h ≡ v → texts_of g (for_host (with_queue b.messages h (rest (for_host b.messages h))) g.destination) ≡ texts_for b g
      by true s =
          let P : Host → Type 0 = λ x. texts_of g (for_host (with_queue b.messages h (rest (for_host b.messages h))) x) ≡ texts_of g (for_host b.messages x) in
          let past : texts_of g (m ∷ left) ≡ texts_of g left = rw other refl in
          subst P (sym (same_host-true g.destination h s)) (ap (texts_of g) (for_with_here b.messages h (rest (for_host b.messages h)) ∙ ap rest whole) ∙ sym past ∙ ap (texts_of g) (sym whole))
      by false s = ap (texts_of g) (for_with_other b.messages h (rest (for_host b.messages h)) g.destination s)

message_flow : (b : Boxes) (h : Host) (m : HostMessage) (left : List HostMessage) → for_host b.messages h ≡ m ∷ left → Matches b → TakesMessage b h m left
    → (g : Flow) (same : Bool) → same_flow g m.flow ≡ same → FlowFits (fetches b h m) g
message_flow b h m left whole k t g true e =
    let f = m.flow in
    let s = is_running b.hosts b.down f.source in
    let P : Flow → Type 0 = λ x. FlowFits (fetches b h m) x in
    let w = fetched_here b h m left whole t in
    let box : box_of f (crossing.In m ∷ b.log) ≡ fetched (box_of f b.log) = rw (same_flow-refl f) refl in
    subst P (sym (same_flow-true g f e)) (same_fits refl refl w.texts w.kinds box (fits_fetched s (is_running b.hosts b.down f.destination) (box_of f b.log) m.text t.holds))
message_flow b h m left whole k t g false e =
    let w = fetched_there b h m left whole g e in
    let box : box_of g (crossing.In m ∷ b.log) ≡ box_of g b.log = rw e refl in
    same_fits refl refl w.texts w.kinds box (k.flows g)

pub message_sound : (b : Boxes) (h : Host) (m : HostMessage) (left : List HostMessage) → IsSound b → host_refusal b h ≡ None → for_host b.messages h ≡ m ∷ left → IsSound (fetches b h m)
message_sound b h m left s e whole =
    let r : Runs b h = runs_here b h e in
    let k : Matches b = s.matches r.running in
    let t : TakesMessage b h m left = takes_message b h m left k whole in
    record {
      ordered = s.ordered;
      run = ((k.up m.flow.destination ∙ ap (λ (x : Host). is_running b.hosts b.down x) t.mine ∙ r.host, t.holds), s.run);
      matches = λ running. record {
        up = k.up;
        flows = λ g. message_flow b h m left whole k t g (same_flow g m.flow) refl;
        sent = sent_with b.messages h (rest (for_host b.messages h)) k.sent (AreTo-rest h (for_host b.messages h) (k.sent h));
        told = told_queued (is_running b.hosts b.down m.flow.source) b.answers answer.Rfnm m.flow k.told;
      };
    }
