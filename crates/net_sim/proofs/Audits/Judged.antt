-- The answer that the tests give is the one that says what is so.
use Rattle.net_sim.proofs.Common.{◌≡◌, Bool, true, false, List, refl, subst, ◌↔◌, Crossing, Says, Life, messages_hold, partners_hold, streams_hold, grants_hold, is_well_formed, Audit}
use Rattle.net_sim.specs.Inside.Audit.{answered_by, judged}
use Rattle.net_sim.specs.declared.auditing.said.Audit.TheVariants as audit
use Rattle.net_sim.specs.declared.auditing.said.Part.TheVariants as part
use Rattle.std.proofs.lemmas.Bool.{false_from_ne_true}
use Rattle.net_sim.proofs.Audits.Elements.{false_not}
use Rattle.net_sim.proofs.Audits.Grants.{grants_decide}
use Rattle.net_sim.proofs.Audits.Messages.{messages_decide}
use Rattle.net_sim.proofs.Audits.Partners.{partners_decide}
use Rattle.net_sim.proofs.Audits.Stamps.{stamps_decide}
use Rattle.net_sim.proofs.Audits.Streams.{streams_decide}

-- what holds where a test fails
fails : {P : Type 0} (b : Bool) → (P → b ≡ true) → b ≡ false → P → ⊥
fails b f e p = false_not b e (f p)

-- the answer says what is so, whatever the tests are
told : (log : List Crossing) (lives : List Life) (handed : List (List Bool)) (f m p s g : Bool)
    → is_well_formed log lives handed ≡ f → messages_hold log ≡ m → partners_hold log lives ≡ p → streams_hold log lives handed ≡ s → grants_hold log lives ≡ g
    → Says (answered_by f m p s g) log lives handed
told log lives handed false m p s g ef em ep es eg = fails (is_well_formed log lives handed) (stamps_decide log lives handed).1 ef
told log lives handed true false p s g ef em ep es eg = ((stamps_decide log lives handed).0 ef, tt, fails (messages_hold log) (messages_decide log).1 em)
told log lives handed true true false s g ef em ep es eg =
    ((stamps_decide log lives handed).0 ef, (messages_decide log).0 em, fails (partners_hold log lives) (partners_decide log lives ((stamps_decide log lives handed).0 ef).stamped).1 ep)
told log lives handed true true true false g ef em ep es eg =
    (let partners = (partners_decide log lives ((stamps_decide log lives handed).0 ef).stamped).0 ep in
    ((stamps_decide log lives handed).0 ef, ((messages_decide log).0 em, partners), fails (streams_hold log lives handed) (streams_decide log lives handed partners).1 es))
told log lives handed true true true true false ef em ep es eg =
    (let partners = (partners_decide log lives ((stamps_decide log lives handed).0 ef).stamped).0 ep in
    ((stamps_decide log lives handed).0 ef, ((messages_decide log).0 em, partners, (streams_decide log lives handed partners).0 es), fails (grants_hold log lives) (grants_decide log lives).1 eg))
told log lives handed true true true true true ef em ep es eg =
    (let partners = (partners_decide log lives ((stamps_decide log lives handed).0 ef).stamped).0 ep in
    ((stamps_decide log lives handed).0 ef, record { messages = (messages_decide log).0 em; partners = partners; streams = (streams_decide log lives handed partners).0 es; grants = (grants_decide log lives).0 eg }))

-- only one answer says what is so
only : (log : List Crossing) (lives : List Life) (handed : List (List Bool)) (said : Audit) → Says said log lives handed → judged log lives handed ≡ said
only log lives handed audit.Malformed w =
    let f : is_well_formed log lives handed ≡ false = false_from_ne_true (is_well_formed log lives handed) (λ t. w ((stamps_decide log lives handed).0 t)) in rw f refl
only log lives handed (audit.Broken part.Messages) w =
    let f : is_well_formed log lives handed ≡ true = (stamps_decide log lives handed).1 w.0 in
    let m : messages_hold log ≡ false = false_from_ne_true (messages_hold log) (λ t. w.2 ((messages_decide log).0 t)) in
    rw (f, m) refl
only log lives handed (audit.Broken part.Partners) w =
    let f : is_well_formed log lives handed ≡ true = (stamps_decide log lives handed).1 w.0 in
    let m : messages_hold log ≡ true = (messages_decide log).1 w.1 in
    let p : partners_hold log lives ≡ false = false_from_ne_true (partners_hold log lives) (λ t. w.2 ((partners_decide log lives w.0.stamped).0 t)) in
    rw (f, m, p) refl
only log lives handed (audit.Broken part.Streams) w =
    let f : is_well_formed log lives handed ≡ true = (stamps_decide log lives handed).1 w.0 in
    let m : messages_hold log ≡ true = (messages_decide log).1 w.1.0 in
    let p : partners_hold log lives ≡ true = (partners_decide log lives w.0.stamped).1 w.1.1 in
    let s : streams_hold log lives handed ≡ false = false_from_ne_true (streams_hold log lives handed) (λ t. w.2 ((streams_decide log lives handed w.1.1).0 t)) in
    rw (f, m, p, s) refl
only log lives handed (audit.Broken part.Grants) w =
    let f : is_well_formed log lives handed ≡ true = (stamps_decide log lives handed).1 w.0 in
    let m : messages_hold log ≡ true = (messages_decide log).1 w.1.0 in
    let p : partners_hold log lives ≡ true = (partners_decide log lives w.0.stamped).1 w.1.1 in
    let s : streams_hold log lives handed ≡ true = (streams_decide log lives handed w.1.1).1 w.1.2 in
    let g : grants_hold log lives ≡ false = false_from_ne_true (grants_hold log lives) (λ t. w.2 ((grants_decide log lives).0 t)) in
    rw (f, m, p, s, g) refl
only log lives handed audit.Kept w =
    let f : is_well_formed log lives handed ≡ true = (stamps_decide log lives handed).1 w.0 in
    let m : messages_hold log ≡ true = (messages_decide log).1 w.1.messages in
    let p : partners_hold log lives ≡ true = (partners_decide log lives w.0.stamped).1 w.1.partners in
    let s : streams_hold log lives handed ≡ true = (streams_decide log lives handed w.1.partners).1 w.1.streams in
    let g : grants_hold log lives ≡ true = (grants_decide log lives).1 w.1.grants in
    rw (f, m, p, s, g) refl

says : (log : List Crossing) (lives : List Life) (handed : List (List Bool)) → Says (judged log lives handed) log lives handed
says log lives handed = told log lives handed (is_well_formed log lives handed) (messages_hold log) (partners_hold log lives) (streams_hold log lives handed) (grants_hold log lives) refl refl refl refl refl

pub judged_says : (log : List Crossing) (lives : List Life) (handed : List (List Bool)) (said : Audit) → (judged log lives handed ≡ said) ↔ Says said log lives handed
judged_says log lives handed said =
    (let P : Audit → Type 0 = λ a. Says a log lives handed in
    (λ e. subst P e (says log lives handed), only log lives handed said))
