-- The events of the plain boxes leave what waits fitting the mailboxes.
use Rattle.leader1822.proofs.Common.{list_any, append-nil, Host, same_host, is_host, texts_of, kinds_of, texts_for, kinds_for, FitsBox, FlowFits, Matches, IsSound, Flow, Answer, HostMessage}
use Rattle.std.proofs.Common.{◌≡◌, Bool, true, false, not, ◌&&◌, ◌||◌, List, [], ◌∷◌, ◌++◌, filter, map, refl, ap, sym, subst, ◌∙◌, if◌then◌else◌, None, inl, inr}
use Rattle.std.proofs.lemmas.List.Folds.{list_any-append}
use Rattle.interface.specs.Mailboxes.{Box, Empty, Waiting, Taken, WaitsWith, Fits, same_flow, box_of}
use Rattle.leader1822.specs.Boxes.{Boxes, WaitingAnswer, Queues, for_host, with_queue, is_of, is_rfnm, is_rfnm_about, is_running, is_from, is_outstanding, is_unsettled, one_if, host_refusal, give_up_refusal, given_up, host_stopped, host_up_refusal, host_started}
use Rattle.interface.specs.declared.carrier.CarrierFault.TheVariants as fault
use Rattle.interface.specs.declared.crossing.Answer.TheVariants as answer
use Rattle.interface.proofs.lemmas.{and_true, guard, not_false, or_false, or_nothing, same_flow-refl, same_flow-sym, same_flow-true, same_host-refl, same_host-true}
use Rattle.leader1822.proofs.Waiting.{kinds_of-append, kinds_one_same, kinds_one_other, texts_of-filter, kinds_of-filter, filter_all, any_of, any_rfnm, none_from, has_any, if_same}
use Rattle.leader1822.proofs.ForHost.{for_with, for_with_here, for_with_other, AreTo-filter, AreToldTo-filter, AreToldTo-append, AreToldTo-one, sent_with, told_with, texts_elsewhere, kinds_elsewhere, told_told, kinds_told, deads}
use Rattle.leader1822.proofs.Sound.{same_fits, Waits, Runs, runs_here}

-- ---- giving up

fits_incomplete : (box : Box) (t : List Bool) → WaitsWith box t → Fits answer.Incomplete box
fits_incomplete Empty t h = absurd h
fits_incomplete (Waiting place kept) t h = tt
fits_incomplete (Taken place kept) t h = absurd h

incomplete_fits : (k : Answer) (box : Box) → Fits k box → Fits answer.Incomplete box
incomplete_fits answer.Rfnm Empty h = absurd h
incomplete_fits answer.Rfnm (Waiting place text) h = absurd h
incomplete_fits answer.Rfnm (Taken place text) h = tt
incomplete_fits answer.Dead Empty h = absurd h
incomplete_fits answer.Dead (Waiting place text) h = tt
incomplete_fits answer.Dead (Taken place text) h = absurd h
incomplete_fits answer.Incomplete box h = h
incomplete_fits answer.NotTaken Empty h = absurd h
incomplete_fits answer.NotTaken (Waiting place text) h = tt
incomplete_fits answer.NotTaken (Taken place text) h = absurd h

-- the answers other than RFNM
abbrev pub others : List Answer → List Answer
others ks = filter (λ k. not (is_rfnm k)) ks

fits_told : (s d : Bool) (box : Box) → Fits answer.Incomplete box → FitsBox s d [] (one_if s answer.Incomplete) box
fits_told true d box h = record { queued = inl refl; told = λ u n. inr (answer.Incomplete, refl, h); shut = λ u. absurd (cc) }
fits_told false d box h = record { queued = inl refl; told = λ u n. absurd (cc); shut = λ u. refl }

-- what was outstanding is answered Incomplete
pub record GivesUp (s : Bool) (ks : List Answer) (box : Box) : Type 0 where
  pub rest : others ks ≡ []
  pub fit : s ≡ true → Fits answer.Incomplete box

rfnm_only : (k : Answer) → list_any is_rfnm (k ∷ []) ≡ true → others (k ∷ []) ≡ []
rfnm_only answer.Rfnm e = refl
rfnm_only answer.Incomplete e = absurd (cc)
rfnm_only answer.Dead e = absurd (cc)
rfnm_only answer.NotTaken e = absurd (cc)

pub gives_up : (s d : Bool) (ts : List (List Bool)) (ks : List Answer) (box : Box) → FitsBox s d ts ks box → (has_any ts || list_any is_rfnm ks) ≡ true → GivesUp s ks box
gives_up s d ts ks box h e = elim h.queued [
  | inr (t, one, holds, none, there) ↦ record { rest = ap others none; fit = λ u. fits_incomplete box t holds }
  | inl quiet ↦ quiet_gives s refl (let P : List (List Bool) → Type 0 = λ x. (has_any x || list_any is_rfnm ks) ≡ true in subst P quiet e) quiet
] where
  quiet_gives : (b : Bool) → s ≡ b → list_any is_rfnm ks ≡ true → ts ≡ [] → GivesUp s ks box
  quiet_gives true u n quiet = elim (h.told u quiet) [
    | inl (none, empty) ↦ absurd (let c : false ≡ true = (let P : List Answer → Type 0 = λ x. list_any is_rfnm x ≡ true in subst P none n) in cc)
    | inr (k, one, fit) ↦ record {
      rest = ap others one ∙ rfnm_only k (let P : List Answer → Type 0 = λ x. list_any is_rfnm x ≡ true in subst P one n);
      fit = λ v. incomplete_fits k box fit;
    }
  ]
  quiet_gives false u n quiet = absurd (let c : false ≡ true = (let P : List Answer → Type 0 = λ x. list_any is_rfnm x ≡ true in subst P (h.shut u) n) in cc)

fits_given : (s d : Bool) (ks : List Answer) (box : Box) → GivesUp s ks box → FitsBox s d [] (others ks ++ one_if s answer.Incomplete) box
fits_given true d ks box g =
    same_fits refl refl refl (ap (λ (xs : List Answer). xs ++ answer.Incomplete ∷ []) g.rest) refl (fits_told true d box (g.fit refl))
fits_given false d ks box g =
    same_fits refl refl refl (ap (λ (xs : List Answer). xs ++ []) g.rest) refl (record { queued = inl refl; told = λ u n. absurd (cc); shut = λ u. refl })

pub record Outstanding (b : Boxes) (f : Flow) : Type 0 where
  pub running : b.stopped ≡ false
  pub there : is_host b.hosts f.source ≡ true
  pub busy : (has_any (texts_for b f) || list_any is_rfnm (kinds_for b f)) ≡ true

pub outstanding : (b : Boxes) (f : Flow) → give_up_refusal b f ≡ None → Outstanding b f
outstanding b f e =
    let g1 = guard b.stopped fault.Stopped _ e in
    let g2 = guard (not (is_host b.hosts f.source)) fault.NoSuch _ g1.1 in
    let g3 = guard (not (is_outstanding b f)) fault.NotOutstanding _ g2.1 in
    let busy : is_outstanding b f ≡ true = not_false (is_outstanding b f) g3.0 in
    record {
      running = g1.0;
      there = not_false (is_host b.hosts f.source) g2.0;
      busy = ap (λ (x : Bool). x || list_any is_rfnm (kinds_for b f)) (sym (any_of f (for_host b.messages f.destination)))
          ∙ ap (λ (x : Bool). list_any (is_of f) (for_host b.messages f.destination) || x) (sym (any_rfnm f (for_host b.answers f.source))) ∙ busy;
    }

-- what a giving up leaves in the two queues
abbrev left_messages : Boxes → Flow → List HostMessage
left_messages b f = filter (λ m. not (is_of f m)) (for_host b.messages f.destination)

abbrev left_answers : Boxes → Flow → List WaitingAnswer
left_answers b f = filter (λ a. not (is_rfnm_about f a)) (for_host b.answers f.source) ++ one_if (not (is_host b.down f.source)) (answer.Incomplete, f)

pub given_here : (b : Boxes) (f : Flow) → Waits (given_up b f) f [] (others (kinds_for b f) ++ one_if (not (is_host b.down f.source)) answer.Incomplete)
given_here b f =
    let s = not (is_host b.down f.source) in
    let texts : texts_of f (left_messages b f) ≡ [] =
    texts_of-filter f (λ m. not (is_of f m)) (for_host b.messages f.destination) ∙ filter_all (not (same_flow f f)) (texts_for b f)
    ∙ ap (λ (x : Bool). if x then texts_for b f else []) (ap not (same_flow-refl f)) in
    let left : kinds_of f (filter (λ a. not (is_rfnm_about f a)) (for_host b.answers f.source)) ≡ others (kinds_for b f) =
    kinds_of-filter f (λ a. not (is_rfnm_about f a)) (for_host b.answers f.source) ∙ ap (λ (x : Bool). filter (λ k. not (x && is_rfnm k)) (kinds_for b f)) (same_flow-refl f) in
    let kinds : kinds_of f (left_answers b f) ≡ others (kinds_for b f) ++ one_if s answer.Incomplete =
    kinds_of-append f (filter (λ a. not (is_rfnm_about f a)) (for_host b.answers f.source)) (one_if s (answer.Incomplete, f))
    ∙ ap (λ (ks : List Answer). ks ++ kinds_of f (one_if s (answer.Incomplete, f))) left ∙ ap (λ (ks : List Answer). others (kinds_for b f) ++ ks) (kinds_one_same answer.Incomplete f s) in
    record {
      texts = ap (texts_of f) (for_with_here b.messages f.destination (left_messages b f)) ∙ texts;
      kinds = ap (kinds_of f) (for_with_here b.answers f.source (left_answers b f)) ∙ kinds;
    }

pub given_there : (b : Boxes) (f g : Flow) → same_flow g f ≡ false → Waits (given_up b f) g (texts_for b g) (kinds_for b g)
given_there b f g other = record { texts = by_destination (same_host g.destination f.destination) refl; kinds = by_source (same_host g.source f.source) refl } where
  back : same_flow f g ≡ false
  back = same_flow-sym f g ∙ other

  texts : texts_of g (left_messages b f) ≡ texts_of g (for_host b.messages f.destination)
  texts = texts_of-filter g (λ m. not (is_of f m)) (for_host b.messages f.destination) ∙ filter_all (not (same_flow f g)) (texts_of g (for_host b.messages f.destination))
      ∙ ap (λ (x : Bool). if x then texts_of g (for_host b.messages f.destination) else []) (ap not back)

  by_destination : (v : Bool) → same_host g.destination f.destination ≡ v → texts_for (given_up b f) g ≡ texts_for b g
  by_destination true e =
      let P : Host → Type 0 = λ x. texts_of g (for_host (with_queue b.messages f.destination (left_messages b f)) x) ≡ texts_of g (for_host b.messages x) in
      subst P (sym (same_host-true g.destination f.destination e)) (ap (texts_of g) (for_with_here b.messages f.destination (left_messages b f)) ∙ texts)
  by_destination false e = ap (texts_of g) (for_with_other b.messages f.destination (left_messages b f) g.destination e)

  kinds : kinds_of g (left_answers b f) ≡ kinds_of g (for_host b.answers f.source)
  kinds =
      let s = not (is_host b.down f.source) in
      let ks = kinds_of g (for_host b.answers f.source) in
      let left : kinds_of g (filter (λ a. not (is_rfnm_about f a)) (for_host b.answers f.source)) ≡ ks =
      kinds_of-filter g (λ a. not (is_rfnm_about f a)) (for_host b.answers f.source) ∙ ap (λ (x : Bool). filter (λ k. not (x && is_rfnm k)) ks) back ∙ filter_all true ks in
      kinds_of-append g (filter (λ a. not (is_rfnm_about f a)) (for_host b.answers f.source)) (one_if s (answer.Incomplete, f))
      ∙ ap (λ (xs : List Answer). xs ++ kinds_of g (one_if s (answer.Incomplete, f))) left ∙ ap (λ (xs : List Answer). ks ++ xs) (kinds_one_other g answer.Incomplete f s other)
      ∙ append-nil ks

  by_source : (v : Bool) → same_host g.source f.source ≡ v → kinds_for (given_up b f) g ≡ kinds_for b g
  by_source true e =
      let P : Host → Type 0 = λ x. kinds_of g (for_host (with_queue b.answers f.source (left_answers b f)) x) ≡ kinds_of g (for_host b.answers x) in
      subst P (sym (same_host-true g.source f.source e)) (ap (kinds_of g) (for_with_here b.answers f.source (left_answers b f)) ∙ kinds)
  by_source false e = ap (kinds_of g) (for_with_other b.answers f.source (left_answers b f) g.source e)

given_fits : (b : Boxes) (f : Flow) → Matches b → Outstanding b f → FlowFits (given_up b f) f
given_fits b f k o =
    let s = not (is_host b.down f.source) in
    let d = is_running b.hosts b.down f.destination in
    let same : is_running b.hosts b.down f.source ≡ s = rw o.there refl in
    let h : FitsBox s d (texts_for b f) (kinds_for b f) (box_of f b.log) = same_fits (sym same) refl refl refl refl (k.flows f) in
    let w = given_here b f in
    same_fits same refl w.texts w.kinds refl (fits_given s d (kinds_for b f) (box_of f b.log) (gives_up s d (texts_for b f) (kinds_for b f) (box_of f b.log) h o.busy))

given_flow : (b : Boxes) (f : Flow) → Matches b → Outstanding b f → (g : Flow) (same : Bool) → same_flow g f ≡ same → FlowFits (given_up b f) g
given_flow b f k o g true e =
    let P : Flow → Type 0 = λ x. FlowFits (given_up b f) x in
    subst P (sym (same_flow-true g f e)) (given_fits b f k o)
given_flow b f k o g false e = let w = given_there b f g e in same_fits refl refl w.texts w.kinds refl (k.flows g)

pub given_sound : (b : Boxes) (f : Flow) → IsSound b → give_up_refusal b f ≡ None → IsSound (given_up b f)
given_sound b f s e =
    let o : Outstanding b f = outstanding b f e in
    let k : Matches b = s.matches o.running in
    let t = not (is_host b.down f.source) in
    record {
      ordered = s.ordered;
      run = s.run;
      matches = λ running. record {
        up = k.up;
        flows = λ g. given_flow b f k o g (same_flow g f) refl;
        sent = sent_with b.messages f.destination (left_messages b f) k.sent (AreTo-filter f.destination (λ m. not (is_of f m)) (for_host b.messages f.destination) (k.sent f.destination));
        told = told_with b.answers f.source (left_answers b f) k.told
            (AreToldTo-append f.source (filter (λ a. not (is_rfnm_about f a)) (for_host b.answers f.source)) (one_if t (answer.Incomplete, f))
            (AreToldTo-filter f.source (λ a. not (is_rfnm_about f a)) (for_host b.answers f.source) (k.told f.source))
            (AreToldTo-one f.source t (answer.Incomplete, f) (same_host-refl f.source)));
      };
    }

-- ---- a host that goes down

-- what waits of a flow when its source (a) or its destination (b) goes down
abbrev pub down_kinds : Bool → Bool → Bool → List (List Bool) → List Answer → List Answer
down_kinds a b s ts ks = (if a then [] else ks) ++ (if (if a then false else s) then map (λ t. answer.Dead) (if b then ts else []) else [])

dead_fits : (box : Box) (t : List Bool) → WaitsWith box t → Fits answer.Dead box
dead_fits Empty t h = absurd h
dead_fits (Waiting place kept) t h = tt
dead_fits (Taken place kept) t h = absurd h

fits_down : (a b s d : Bool) (ts : List (List Bool)) (ks : List Answer) (box : Box) → FitsBox s d ts ks box
    → FitsBox (if a then false else s) (if b then false else d) (if b then [] else ts) (down_kinds a b s ts ks) box
fits_down true true s d ts ks box h = record { queued = inl refl; told = λ u n. absurd (cc); shut = λ u. refl }
fits_down true false s d ts ks box h = record {
  queued = elim h.queued [ inl none ↦ inl none | inr (t, one, holds, none, there) ↦ inr (t, one, holds, refl, there) ];
  told = λ u n. absurd (cc);
  shut = λ u. refl;
}
fits_down false true false d ts ks box h = record { queued = inl refl; told = λ u n. absurd (cc); shut = λ u. append-nil ks ∙ h.shut refl }
fits_down false true true d ts ks box h = record {
  queued = inl refl;
  told = λ u n. elim h.queued [
    | inr (t, one, holds, none, there) ↦
        inr (answer.Dead, ap (λ (xs : List Answer). xs ++ map (λ t. answer.Dead) ts) none ∙ ap (λ (xs : List (List Bool)). map (λ t. answer.Dead) xs) one, dead_fits box t holds)
    | inl none ↦ elim (h.told refl none) [
      | inl (quiet, empty) ↦ inl (ap (λ (xs : List Answer). xs ++ map (λ t. answer.Dead) ts) quiet ∙ ap (λ (xs : List (List Bool)). map (λ t. answer.Dead) xs) none, empty)
      | inr (k, one, fit) ↦ inr (k, ap (λ (xs : List Answer). xs ++ map (λ t. answer.Dead) ts) one ∙ ap (λ (xs : List (List Bool)). k ∷ map (λ t. answer.Dead) xs) none, fit)
    ]
  ];
  shut = λ u. absurd (cc);
}
fits_down false false false d ts ks box h = same_fits refl refl refl (append-nil ks) refl h
fits_down false false true d ts ks box h = same_fits refl refl refl (append-nil ks) refl h

-- which hosts run when one more is down
pub runs_less : (hosts down : List Host) (h x : Host) → is_running hosts (down ++ h ∷ []) x ≡ (if same_host x h then false else is_running hosts down x)
runs_less hosts down h x =
    let any : is_host (down ++ h ∷ []) x ≡ (is_host down x || same_host x h) = list_any-append (same_host x) down (h ∷ []) ∙ ap (λ (v : Bool). is_host down x || v) (or_nothing (same_host x h)) in
    ap (λ (v : Bool). is_host hosts x && not v) any ∙ tests (is_host hosts x) (is_host down x) (same_host x h) where
      tests : (a b c : Bool) → (a && not (b || c)) ≡ (if c then false else (a && not b))
      tests true true true = refl
      tests true true false = refl
      tests true false true = refl
      tests true false false = refl
      tests false b true = refl
      tests false b false = refl

elsewhere : {A B : Type 0} (f : List A → List B) → f [] ≡ [] → (v : Bool) (xs : List A) → f (if v then [] else xs) ≡ (if v then [] else f xs)
elsewhere f none true xs = none
elsewhere f none false xs = refl

-- the texts of a flow among the messages for a host
pub texts_there : (b : Boxes) (h : Host) (g : Flow) → Matches b → (v : Bool) → same_host g.destination h ≡ v → texts_of g (for_host b.messages h) ≡ (if v then texts_for b g else [])
texts_there b h g k true e = ap (λ (x : Host). texts_of g (for_host b.messages x)) (sym (same_host-true g.destination h e))
texts_there b h g k false e = texts_elsewhere h (for_host b.messages h) g (k.sent h) e

-- the answers about a flow among those for the host
pub kinds_there : (b : Boxes) (h : Host) (g : Flow) → Matches b → (v : Bool) → same_host g.source h ≡ v → kinds_of g (for_host b.answers h) ≡ (if v then kinds_for b g else [])
kinds_there b h g k true e = ap (λ (x : Host). kinds_of g (for_host b.answers x)) (sym (same_host-true g.source h e))
kinds_there b h g k false e = kinds_elsewhere h (for_host b.answers h) g (k.told h) e

pub stopped_waits : (b : Boxes) (h : Host) → Matches b → (g : Flow)
    → Waits (host_stopped b h) g (if same_host g.destination h then [] else texts_for b g)
    (down_kinds (same_host g.source h) (same_host g.destination h) (is_running b.hosts b.down g.source) (texts_for b g) (kinds_for b g))
stopped_waits b h k g =
    let x = same_host g.source h in
    let y = same_host g.destination h in
    let down = b.down ++ h ∷ [] in
    let s = is_running b.hosts b.down g.source in
    let cleared : Queues WaitingAnswer = with_queue b.answers h [] in
    let left : kinds_of g (for_host cleared g.source) ≡ (if x then [] else kinds_for b g) =
    ap (kinds_of g) (for_with b.answers h [] g.source) ∙ elsewhere (kinds_of g) refl x (for_host b.answers g.source) in
    record {
      texts = ap (texts_of g) (for_with b.messages h [] g.destination) ∙ elsewhere (texts_of g) refl y (for_host b.messages g.destination);
      kinds = kinds_told b.hosts down g cleared (for_host b.messages h)
          ∙ ap (λ (ks : List Answer). ks ++ deads (is_running b.hosts down g.source) (texts_of g (for_host b.messages h))) left
          ∙ ap (λ (v : Bool). (if x then [] else kinds_for b g) ++ deads v (texts_of g (for_host b.messages h))) (runs_less b.hosts b.down h g.source)
          ∙ ap (λ (ts : List (List Bool)). (if x then [] else kinds_for b g) ++ deads (if x then false else s) ts) (texts_there b h g k y refl);
    }

down_flow : (b : Boxes) (h : Host) (g : Flow) → Matches b → FlowFits (host_stopped b h) g
down_flow b h g k =
    let x = same_host g.source h in
    let y = same_host g.destination h in
    let w = stopped_waits b h k g in
    same_fits (runs_less b.hosts b.down h g.source) (runs_less b.hosts b.down h g.destination) w.texts w.kinds refl
    (fits_down x y (is_running b.hosts b.down g.source) (is_running b.hosts b.down g.destination) (texts_for b g) (kinds_for b g) (box_of g b.log) (k.flows g))

pub stopped_sound : (b : Boxes) (h : Host) → IsSound b → host_refusal b h ≡ None → IsSound (host_stopped b h)
stopped_sound b h s e =
    let r : Runs b h = runs_here b h e in
    let k : Matches b = s.matches r.running in
    record {
      ordered = s.ordered;
      run = (k.up h ∙ r.host, s.run);
      matches = λ running. record {
        up = λ x. ap (λ (v : Bool). if same_host x h then false else v) (k.up x) ∙ sym (runs_less b.hosts b.down h x);
        flows = λ g. down_flow b h g k;
        sent = sent_with b.messages h [] k.sent tt;
        told = told_told b.hosts (b.down ++ h ∷ []) (with_queue b.answers h []) (for_host b.messages h) (told_with b.answers h [] k.told tt);
      };
    }

-- ---- a host that comes up

pub record Rises (b : Boxes) (h : Host) : Type 0 where
  pub running : b.stopped ≡ false
  pub there : is_host b.hosts h ≡ true
  pub down : is_host b.down h ≡ true
  pub settled : is_unsettled b h ≡ false

pub rises : (b : Boxes) (h : Host) → host_up_refusal b h ≡ None → Rises b h
rises b h e =
    let g1 = guard b.stopped fault.Stopped _ e in
    let g2 = guard (not (is_host b.hosts h)) fault.NoSuch _ g1.1 in
    let g3 = guard (not (is_host b.down h)) fault.IsUp _ g2.1 in
    let g4 = guard (is_unsettled b h) fault.Unsettled _ g3.1 in
    record { running = g1.0; there = not_false (is_host b.hosts h) g2.0; down = not_false (is_host b.down h) g3.0; settled = g4.0 }

dropped_more : (g : Host) (down : List Host) (h x : Host)
    → is_host (filter (λ y. not (same_host h y)) down) x ≡ (if same_host x h then false else is_host down x)
    → (a v : Bool) → same_host h g ≡ a → same_host x h ≡ v
    → is_host (filter (λ y. not (same_host h y)) (g ∷ down)) x ≡ (if same_host x h then false else is_host (g ∷ down) x)
dropped_more g down h x rest true true a v =
    let r : is_host (filter (λ y. not (same_host h y)) down) x ≡ false = rw v at rest in rw (a, v) r
dropped_more g down h x rest true false a v =
    let r : is_host (filter (λ y. not (same_host h y)) down) x ≡ is_host down x = rw v at rest in
    let same : same_host x g ≡ false = (let P : Host → Type 0 = λ y. same_host x y ≡ false in subst P (same_host-true h g a) v) in
    rw (a, v, same) r
dropped_more g down h x rest false true a v =
    let r : is_host (filter (λ y. not (same_host h y)) down) x ≡ false = rw v at rest in
    let other : same_host x g ≡ false = (let P : Host → Type 0 = λ y. same_host y g ≡ false in subst P (sym (same_host-true x h v)) a) in
    rw (a, v, other) r
dropped_more g down h x rest false false a v =
    let r : is_host (filter (λ y. not (same_host h y)) down) x ≡ is_host down x = rw v at rest in
    rw (a, v) (ap (λ (b : Bool). same_host x g || b) r)

-- a list without one host has another host exactly where it had it before
dropped_other : (down : List Host) (h x : Host) → is_host (filter (λ y. not (same_host h y)) down) x ≡ (if same_host x h then false else is_host down x)
dropped_other [] h x = if_same (same_host x h)
dropped_other (g ∷ down) h x = dropped_more g down h x (dropped_other down h x) (same_host h g) (same_host x h) refl refl

-- which hosts run when one is up again
runs_more : (hosts down : List Host) (h x : Host) → is_host hosts h ≡ true
    → is_running hosts (filter (λ y. not (same_host h y)) down) x ≡ (if same_host x h then true else is_running hosts down x)
runs_more hosts down h x there =
    ap (λ (v : Bool). is_host hosts x && not v) (dropped_other down h x) ∙ runs_again (same_host x h) refl where
      runs_again : (v : Bool) → same_host x h ≡ v → (is_host hosts x && not (if same_host x h then false else is_host down x)) ≡ (if same_host x h then true else is_running hosts down x)
      runs_again true e = let here : is_host hosts x ≡ true = (let P : Host → Type 0 = λ y. is_host hosts y ≡ true in subst P (sym (same_host-true x h e)) there) in rw (e, here) refl
      runs_again false e = rw e refl

-- a flow whose source (a) or destination (b) comes up
fits_up : (a b s d : Bool) (ts : List (List Bool)) (ks : List Answer) (box : Box) → FitsBox s d ts ks box
    → (a ≡ true → (ts ≡ []) × (s ≡ false)) → (b ≡ true → d ≡ false)
    → FitsBox (if a then true else s) (if b then true else d) ts ks (if a then Empty else box)
fits_up true true s d ts ks box h from to =
    record { queued = inl (from refl).0; told = λ u n. inl (h.shut (from refl).1, refl); shut = λ u. h.shut (from refl).1 }
fits_up true false s d ts ks box h from to =
    record { queued = inl (from refl).0; told = λ u n. inl (h.shut (from refl).1, refl); shut = λ u. h.shut (from refl).1 }
fits_up false true s d ts ks box h from to = record {
  queued = elim h.queued [ inl none ↦ inl none | inr (t, one, holds, none, there) ↦ inr (t, one, holds, none, refl) ];
  told = h.told;
  shut = h.shut;
}
fits_up false false s d ts ks box h from to = h

-- a host that is down doesn't run
pub down_stands : (b : Boxes) (h x : Host) → is_host b.down h ≡ true → same_host x h ≡ true → is_running b.hosts b.down x ≡ false
down_stands b h x down e =
    let here : is_host b.down x ≡ true = (let P : Host → Type 0 = λ y. is_host b.down y ≡ true in subst P (sym (same_host-true x h e)) down) in
    rw here (nothing (is_host b.hosts x)) where
      nothing : (v : Bool) → (v && false) ≡ false
      nothing true = refl
      nothing false = refl

-- a test that no host passes fails at each of them
pub none_of : (test : Host → Bool) (hosts : List Host) (x : Host) → list_any test hosts ≡ false → is_host hosts x ≡ true → test x ≡ false
none_of test [] x none there = absurd (cc)
none_of test (g ∷ hosts) x none there = by (same_host x g) refl there (none_of test hosts x ((or_false (test g) (list_any test hosts) none).1)) where
  by : (v : Bool) → same_host x g ≡ v → (same_host x g || is_host hosts x) ≡ true → (is_host hosts x ≡ true → test x ≡ false) → test x ≡ false
  by true e h others = ap test (same_host-true x g e) ∙ (or_false (test g) (list_any test hosts) none).0
  by false e h others = others (rw e at h)

-- no flow from the host has a message that waits
settled_flow : (b : Boxes) (g : Flow) → Matches b → is_unsettled b g.source ≡ false → texts_for b g ≡ []
settled_flow b g k settled = elim ((k.flows g).queued) [
  | inl none ↦ none
  | inr (t, one, holds, none, there) ↦
      (let known : is_host b.hosts g.destination ≡ true = (and_true (is_host b.hosts g.destination) (not (is_host b.down g.destination)) there).0 in
      none_from g (for_host b.messages g.destination) (none_of (λ x. list_any (is_from g.source) (for_host b.messages x)) b.hosts g.destination settled known))
]

up_flow : (b : Boxes) (h : Host) (g : Flow) → Rises b h → Matches b → FlowFits (host_started b h) g
up_flow b h g r k =
    let x = same_host g.source h in
    let y = same_host g.destination h in
    let down = filter (λ z. not (same_host h z)) b.down in
    let source : is_running b.hosts down g.source ≡ (if x then true else is_running b.hosts b.down g.source) = runs_more b.hosts b.down h g.source r.there in
    let destination : is_running b.hosts down g.destination ≡ (if y then true else is_running b.hosts b.down g.destination) = runs_more b.hosts b.down h g.destination r.there in
    let from : x ≡ true → (texts_for b g ≡ []) × (is_running b.hosts b.down g.source ≡ false) =
    λ e. (settled_flow b g k (let P : Host → Type 0 = λ z. is_unsettled b z ≡ false in subst P (sym (same_host-true g.source h e)) r.settled), down_stands b h g.source r.down e) in
    same_fits source destination refl refl refl
    (fits_up x y (is_running b.hosts b.down g.source) (is_running b.hosts b.down g.destination) (texts_for b g) (kinds_for b g) (box_of g b.log) (k.flows g) from
    (λ e. down_stands b h g.destination r.down e))

pub started_sound : (b : Boxes) (h : Host) → IsSound b → host_up_refusal b h ≡ None → IsSound (host_started b h)
started_sound b h s e =
    let r : Rises b h = rises b h e in
    let k : Matches b = s.matches r.running in
    record {
      ordered = s.ordered;
      run = ((r.there, k.up h ∙ down_stands b h h r.down (same_host-refl h)), s.run);
      matches = λ running. record {
        up = λ x. ap (λ (v : Bool). if same_host x h then true else v) (k.up x) ∙ sym (runs_more b.hosts b.down h x r.there);
        flows = λ g. up_flow b h g r k;
        sent = k.sent;
        told = k.told;
      };
    }
