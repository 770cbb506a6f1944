-- Plain boxes rest while nothing waits, as where their map by flow is empty; and beside hosts for which something does.
use Rattle.leader1822.proofs.Common.{arith, length, empty, get, get-empty, Host, is_host, same_host, flow_cmp, AllAnswered, Boxes, BoxesRound, BoxesTake, WaitingAnswer, for_host, first_of_list, next_for, answer_first, texts_of, kinds_of, texts_for, kinds_for, AreTo, AreToldTo, Matches, Flow, HostMessage}
use Rattle.std.proofs.Common.{◌≡◌, inl, inr, Bool, true, false, ◌==◌, ◌&&◌, ◌||◌, List, [], ◌∷◌, Option, Some, None, is_some, Ok, Err, refl, ap, sym, ◌∙◌}
use Rattle.std.proofs.lemmas.Bool.{and_parts, eqb-true, or_cases, or_right, or_left}
use Rattle.std.specs.List.{list_all}
use Rattle.interface.specs.Rest.{RestsBeside, TakesNothing}
use Rattle.leader1822.specs.Inside.Held.{Flows, Held, IsIndexed, IsKept}
use Rattle.leader1822.specs.Inside.Quiet.{AreEmptyBeside, has_none_beside}
use Rattle.interface.specs.declared.carrier.CarrierFault.TheVariants as fault
use Rattle.interface.proofs.lemmas.{same_flow-refl, same_host-true}
use Rattle.leader1822.proofs.Waiting.{has_any}
use Rattle.leader1822.proofs.Index.{some_pending}
use Rattle.leader1822.proofs.SoundCalls.{none_first}

-- of a flow that isn't in the map nothing waits
none_of : (c : Held) (f : Flow) → IsIndexed c → c.flows ≡ empty → (has_any (texts_for c.boxes f) || has_any (kinds_for c.boxes f)) ≡ true → ⊥
none_of c f i none some =
    let there : is_some (get c.flows f) ≡ true = ap is_some (i.each f) ∙ some_pending (texts_for c.boxes f) (kinds_for c.boxes f) ∙ some in
    let away : get c.flows f ≡ None = ap (λ (fs : Flows). get fs f) none ∙ get-empty flow_cmp f in
    let c : false ≡ true = ap is_some (sym away) ∙ there in cc

no_message : (c : Held) (h : Host) (q : List HostMessage) → IsIndexed c → c.flows ≡ empty → AreTo h q → for_host c.boxes.messages h ≡ q → first_of_list q ≡ None
no_message c h [] i none to is = refl
no_message c h (m ∷ q) i none to is =
    let f = m.flow in
    let there : f.destination ≡ h = sym (same_host-true h f.destination to.0) in
    let waits : has_any (texts_of f (m ∷ q)) ≡ true = rw (same_flow-refl f) refl in
    let text : has_any (texts_for c.boxes f) ≡ true = ap (λ (x : Host). has_any (texts_of f (for_host c.boxes.messages x))) there ∙ ap (λ (ms : List HostMessage). has_any (texts_of f ms)) is ∙ waits in
    absurd (none_of c f i none (or_left (has_any (texts_for c.boxes f)) (has_any (kinds_for c.boxes f)) text))

no_answer : (c : Held) (h : Host) (q : List WaitingAnswer) → IsIndexed c → c.flows ≡ empty → AreToldTo h q → for_host c.boxes.answers h ≡ q → first_of_list q ≡ None
no_answer c h [] i none to is = refl
no_answer c h (a ∷ q) i none to is =
    let f = a.1 in
    let there : f.source ≡ h = sym (same_host-true h f.source to.0) in
    let waits : has_any (kinds_of f (a ∷ q)) ≡ true = rw (same_flow-refl f) refl in
    let kind : has_any (kinds_for c.boxes f) ≡ true = ap (λ (x : Host). has_any (kinds_of f (for_host c.boxes.answers x))) there ∙ ap (λ (xs : List WaitingAnswer). has_any (kinds_of f xs)) is ∙ waits in
    absurd (none_of c f i none (or_right (has_any (texts_for c.boxes f)) (has_any (kinds_for c.boxes f)) kind))

-- where the map is empty, nothing waits for any host
pub none_waits : (c : Held) (h : Host) → IsKept c → c.boxes.stopped ≡ false → c.flows ≡ empty → next_for c.boxes h ≡ None
none_waits c h k goes none =
    let i : IsIndexed c = k.indexed goes in
    let m : Matches c.boxes = k.sound.matches goes in
    ap (λ (o : Option WaitingAnswer). answer_first o (first_of_list (for_host c.boxes.messages h))) (no_answer c h (for_host c.boxes.answers h) i none (m.told h) refl)
    ∙ ap (λ (o : Option HostMessage). answer_first None o) (no_message c h (for_host c.boxes.messages h) i none (m.sent h) refl)

-- ---- nothing waits but for some hosts

no_first : {A : Type 0} (q : List A) → (length q == 0) ≡ true → first_of_list q ≡ None
no_first [] e = refl
no_first (x ∷ q) e = let no = eqb-true (length (x ∷ q)) 0 e in absurd (omega (arith, no))

none_beside : (b : Boxes) (hosts : List Host) (h : Host) → has_none_beside b hosts h ≡ true → is_host hosts h ≡ false → next_for b h ≡ None
none_beside b hosts h none other =
    elim (or_cases (length (for_host b.messages h) == 0 && length (for_host b.answers h) == 0) (is_host hosts h) none) [
      | inl empty ↦
          let both = and_parts (length (for_host b.messages h) == 0) (length (for_host b.answers h) == 0) empty in
          ap (λ (o : Option WaitingAnswer). answer_first o (first_of_list (for_host b.messages h))) (no_first (for_host b.answers h) both.1)
          ∙ ap (λ (o : Option HostMessage). answer_first None o) (no_first (for_host b.messages h) both.0)
      | inr one ↦ absurd (let no : false ≡ true = sym other ∙ one in cc)
    ]

-- what each of these hosts has, any has that is one of them
each_has : (test : Host → Bool) (all : List Host) (h : Host) → list_all test all ≡ true → is_host all h ≡ true → test h ≡ true
each_has test [] h has there = absurd (cc)
each_has test (g ∷ all) h has there = by (same_host h g) refl there (each_has test all h both.1) where
  both : (test g ≡ true) × (list_all test all ≡ true)
  both = and_parts (test g) (list_all test all) has

  by : (s : Bool) → same_host h g ≡ s → (same_host h g || is_host all h) ≡ true → (is_host all h ≡ true → test h ≡ true) → test h ≡ true
  by true same t others = ap test (same_host-true h g same) ∙ both.0
  by false same t others = others (rw same at t)

pub all_beside : (b : Boxes) (hosts : List Host) → list_all (has_none_beside b hosts) b.hosts ≡ true → AreEmptyBeside b hosts
all_beside b hosts all h there other = none_beside b hosts h (each_has (has_none_beside b hosts) b.hosts h all there) other

pub empty_beside : (b : Boxes) (hosts : List Host) → ((h : Host) → next_for b h ≡ None) → AreEmptyBeside b hosts
empty_beside b hosts none h there other = none h

taking : (b : Boxes) (h : Host) → b.stopped ≡ false → (is_host b.hosts h ≡ true → next_for b h ≡ None) → TakesNothing BoxesTake b h
taking b h goes none = by (is_host b.hosts h) refl (is_host b.down h) refl where
  by : (there : Bool) → is_host b.hosts h ≡ there → (down : Bool) → is_host b.down h ≡ down → TakesNothing BoxesTake b h
  by false t down d = record { answer = Err fault.NoSuch; nothing = (refl, refl); unchanged = (rw (goes, t) refl, refl) }
  by true t true d = record { answer = Err fault.IsDown; nothing = (refl, refl); unchanged = (rw (goes, t, d) refl, refl) }
  by true t false d = record { answer = Ok None; nothing = tt; unchanged = (rw (goes, t, d) refl, (sym (none t), refl)) }

-- where nothing waits but for these hosts, they rest beside them
pub boxes_rest : (b : Boxes) (hosts : List Host) → b.stopped ≡ false → AreEmptyBeside b hosts → RestsBeside BoxesRound BoxesTake hosts b
boxes_rest b hosts goes none = record {
  round = (goes, refl);
  takings = λ h other. taking b h goes (λ there. none h there other);
}

pub all_answered : (b : Boxes) → Matches b → ((h : Host) → next_for b h ≡ None) → AllAnswered b
all_answered b m none f up =
    elim ((m.flows f).told (sym (m.up f.source) ∙ up) (ap (texts_of f) (messages f.destination))) [
      | inl empty ↦ empty.1
      | inr one ↦ absurd (let no : one.0 ∷ [] ≡ [] = sym one.1 ∙ ap (kinds_of f) (answers f.source) in cc)
    ] where
      by : (h : Host) → (a : Option WaitingAnswer) (o : Option HostMessage) → first_of_list (for_host b.answers h) ≡ a → first_of_list (for_host b.messages h) ≡ o → answer_first a o ≡ None → (for_host b.answers h ≡ []) × (for_host b.messages h ≡ [])
      by h None None e g n = (none_first (for_host b.answers h) e, none_first (for_host b.messages h) g)
      by h (Some a) o e g n = absurd (cc)
      by h None (Some x) e g n = absurd (cc)

      answers : (h : Host) → for_host b.answers h ≡ []
      answers h = (by h (first_of_list (for_host b.answers h)) (first_of_list (for_host b.messages h)) refl refl (none h)).0

      messages : (h : Host) → for_host b.messages h ≡ []
      messages h = (by h (first_of_list (for_host b.answers h)) (first_of_list (for_host b.messages h)) refl refl (none h)).1
