-- The links of a pair's ends, against what the receiver said and the sender heard.
use Rattle.world_keeps_pairing.proofs.Common.{eqb-true, list_any, is_receive_socket, is_send_socket, Command, Entry}
use Rattle.std.proofs.Common.{◌≡◌, ℕ, ◌==◌, Bool, not, ◌&&◌, if◌then◌else◌, List, [], ◌∷◌, ◌++◌, map, filter, Option, Some, None, is_some, refl, ap, sym, subst, ◌∙◌, eq-eqb, true, false}
use Rattle.host_pairs.specs.Entries.{changed_at, entry_at, is_at, is_link, is_receiving, receives_on, sends_on, changed_first}
use Rattle.pairing_law.specs.Links.{Sockets, same}
use Rattle.pairing_law.proofs.lemmas.{same_is, same_self}
use Rattle.ncp_control.specs.declared.command.Command.TheVariants as command
use Rattle.host_pairs.proofs.lemmas.{both}
use Rattle.world_keeps_pairing.proofs.Claims.{Claim, last_link}
use Rattle.host_keeps_pairing.proofs.lemmas.{sockets_of}

-- ---- requests that wait

abbrev pub claim_of : Command → List Claim → List Claim
claim_of (command.Rts receive send link) claims =
    if is_receive_socket receive && is_send_socket send then record { sockets = record { receive = receive; send = send }; link = link } ∷ claims else claims
claim_of c claims = claims

-- all of them, the first first, upon what was said
abbrev pub all_claims : List Command → List Claim → List Claim
all_claims [] claims = claims
all_claims (c ∷ commands) claims = all_claims commands (claim_of c claims)

pub claims_join : (xs ys : List Command) (claims : List Claim) → all_claims (xs ++ ys) claims ≡ all_claims ys (all_claims xs claims)
claims_join [] ys claims = refl
claims_join (x ∷ xs) ys claims = claims_join xs ys (claim_of x claims)

-- ---- what is kept

-- a sending end with a link has its partner's request, which is the last that was heard, and named that link
abbrev pub SendsBy : List Claim → Entry → Type 0
SendsBy taken e =
    (l : ℕ) → sends_on l e ≡ true → (is_some e.partner ≡ true) × (last_link (record { receive = e.foreign; send = e.own }) taken ≡ Some l) × (is_receive_socket e.foreign ≡ true)

-- a receiving end of this host's own has the link of the last request for its sockets, said or still to be said
abbrev pub ReceivesBy : List Claim → Entry → Type 0
ReceivesBy said e = is_receiving e ≡ true → e.mine ≡ true → (l : ℕ) → last_link (record { receive = e.own; send = e.foreign }) said ≡ Some l → is_link l e.link ≡ true

-- only an end of this host's own has asked
abbrev pub AsksOwn : Entry → Type 0
AsksOwn e = is_some e.asked ≡ true → e.mine ≡ true

abbrev pub Each : (Entry → Type 0) → List Entry → Type 0
Each Q [] = Unit {0}
Each Q (e ∷ es) = Q e × Each Q es

abbrev pub AllOff : List Bool → Type 0
AllOff [] = Unit {0}
AllOff (b ∷ bs) = (b ≡ false) × AllOff bs

abbrev pub One : List Bool → Type 0
One [] = Unit {0}
One (true ∷ bs) = AllOff bs
One (false ∷ bs) = One bs

pub record Links (said taken : List Claim) (entries : List Entry) : Type 0 where
  pub sends : Each (SendsBy taken) entries
  pub names : Each (ReceivesBy said) entries
  pub own : Each AsksOwn entries
  pub single : (l : ℕ) → One (map (receives_on l) entries)

-- ---- lists

each_changed : (Q : Entry → Type 0) (test : Entry → Bool) (change : Entry → Entry) (es : List Entry) → ((e : Entry) → test e ≡ true → Q e → Q (change e)) → Each Q es → Each Q (changed_first test change es)
each_changed Q test change [] k h = tt
each_changed Q test change (e ∷ es) k h = by (test e) refl (each_changed Q test change es k h.1) where
  by : (b : Bool) → test e ≡ b → Each Q (changed_first test change es) → Each Q (if b then change e ∷ es else e ∷ changed_first test change es)
  by true t rest = (k e t h.0, h.1)
  by false t rest = (h.0, rest)

each_map : (Q : Entry → Type 0) (change : Entry → Entry) (es : List Entry) → ((e : Entry) → Q e → Q (change e)) → Each Q es → Each Q (map change es)
each_map Q change [] k h = tt
each_map Q change (e ∷ es) k h = (k e h.0, each_map Q change es k h.1)

each_filter : (Q : Entry → Type 0) (test : Entry → Bool) (es : List Entry) → Each Q es → Each Q (filter test es)
each_filter Q test [] h = tt
each_filter Q test (e ∷ es) h = by (test e) refl (each_filter Q test es h.1) where
  by : (b : Bool) → test e ≡ b → Each Q (filter test es) → Each Q (filter test (e ∷ es))
  by true t rest = rw t (h.0, rest)
  by false t rest = rw t rest

pub each_more : (Q : Entry → Type 0) (e : Entry) (es : List Entry) → Q e → Each Q es → Each Q (es ++ e ∷ [])
each_more Q e [] k h = (k, tt)
each_more Q e (x ∷ es) k h = (h.0, each_more Q e es k h.1)

each_both : (Q R S : Entry → Type 0) (es : List Entry) → ((e : Entry) → Q e → R e → S e) → Each Q es → Each R es → Each S es
each_both Q R S [] k h j = tt
each_both Q R S (e ∷ es) k h j = (k e h.0 j.0, each_both Q R S es k h.1 j.1)

-- who isn't found is nowhere
pub none_found : (own foreign : ℕ) (es : List Entry) → entry_at own foreign es ≡ None → Each (λ e. is_at own foreign e ≡ false) es
none_found own foreign [] n = tt
none_found own foreign (e ∷ es) n = by (is_at own foreign e) refl (λ k. none_found own foreign es k) where
  by : (b : Bool) → is_at own foreign e ≡ b → (entry_at own foreign es ≡ None → Each (λ x. is_at own foreign x ≡ false) es) → (is_at own foreign e ≡ false) × Each (λ x. is_at own foreign x ≡ false) es
  by true t rest = absurd (let both : Some e ≡ None = rw t at n in cc)
  by false t rest = (t, rest (rw t at n))

off_any : (test : Entry → Bool) (es : List Entry) → list_any test es ≡ false → AllOff (map test es)
off_any test [] n = tt
off_any test (e ∷ es) n = by (test e) refl (λ k. off_any test es k) where
  by : (b : Bool) → test e ≡ b → (list_any test es ≡ false → AllOff (map test es)) → (test e ≡ false) × AllOff (map test es)
  by true t rest = absurd (let both : true ≡ false = rw t at n in cc)
  by false t rest = (t, rest (rw t at n))

one_off : (bs : List Bool) → AllOff bs → (b : Bool) → One (bs ++ b ∷ [])
one_off [] h true = tt
one_off [] h false = tt
one_off (b ∷ bs) h c = subst (λ (x : Bool). One (x ∷ bs ++ c ∷ [])) (sym h.0) (one_off bs h.1 c)

off_more : (bs : List Bool) → AllOff bs → AllOff (bs ++ false ∷ [])
off_more [] h = (refl, tt)
off_more (b ∷ bs) h = (h.0, off_more bs h.1)

one_more : (bs : List Bool) → One bs → One (bs ++ false ∷ [])
one_more [] h = tt
one_more (true ∷ bs) h = off_more bs h
one_more (false ∷ bs) h = one_more bs h

flags_join : (test : Entry → Bool) (es : List Entry) (e : Entry) → map test (es ++ e ∷ []) ≡ map test es ++ test e ∷ []
flags_join test [] e = refl
flags_join test (x ∷ es) e = ap (λ (bs : List Bool). test x ∷ bs) (flags_join test es e)

one_joined : (test : Entry → Bool) (es : List Entry) (e : Entry) → (test e ≡ true → list_any test es ≡ false) → One (map test es) → One (map test (es ++ e ∷ []))
one_joined test es e k h = subst One (sym (flags_join test es e)) (by (test e) refl) where
  by : (b : Bool) → test e ≡ b → One (map test es ++ b ∷ [])
  by true t = one_off (map test es) (off_any test es (k t)) true
  by false t = one_more (map test es) h

off_filter : (test keep : Entry → Bool) (es : List Entry) → AllOff (map test es) → AllOff (map test (filter keep es))
off_filter test keep [] h = tt
off_filter test keep (e ∷ es) h = by (keep e) refl (off_filter test keep es h.1) where
  by : (b : Bool) → keep e ≡ b → AllOff (map test (filter keep es)) → AllOff (map test (filter keep (e ∷ es)))
  by true t rest = rw t (h.0, rest)
  by false t rest = rw t rest

one_filter : (test keep : Entry → Bool) (es : List Entry) → One (map test es) → One (map test (filter keep es))
one_filter test keep [] h = tt
one_filter test keep (e ∷ es) h = by (test e) (keep e) refl refl (λ k. one_filter test keep es k) where
  by : (b c : Bool) → test e ≡ b → keep e ≡ c → (One (map test es) → One (map test (filter keep es))) → One (map test (filter keep (e ∷ es)))
  by true true f g rest = let off : AllOff (map test es) = rw f at h in rw (g, f) (off_filter test keep es off)
  by true false f g rest = let off : AllOff (map test es) = rw f at h in rw g (all_one _ (off_filter test keep es off)) where
    all_one : (bs : List Bool) → AllOff bs → One bs
    all_one [] o = tt
    all_one (b ∷ bs) o = subst (λ (x : Bool). One (x ∷ bs)) (sym o.0) (all_one bs o.1)
  by false true f g rest = let one : One (map test es) = rw f at h in rw (g, f) (rest one)
  by false false f g rest = let one : One (map test es) = rw f at h in rw g (rest one)

flags_changed : (flag test : Entry → Bool) (change : Entry → Entry) (es : List Entry) → ((e : Entry) → test e ≡ true → flag (change e) ≡ flag e) → map flag (changed_first test change es) ≡ map flag es
flags_changed flag test change [] k = refl
flags_changed flag test change (e ∷ es) k = by (test e) refl (flags_changed flag test change es k) where
  by : (b : Bool) → test e ≡ b → map flag (changed_first test change es) ≡ map flag es → map flag (if b then change e ∷ es else e ∷ changed_first test change es) ≡ flag e ∷ map flag es
  by true t rest = ap (λ (b : Bool). b ∷ map flag es) (k e t)
  by false t rest = ap (λ (bs : List Bool). flag e ∷ bs) rest

flags_map : (flag : Entry → Bool) (change : Entry → Entry) (es : List Entry) → ((e : Entry) → flag (change e) ≡ flag e) → map flag (map change es) ≡ map flag es
flags_map flag change [] k = refl
flags_map flag change (e ∷ es) k = ap (λ (b : Bool). b ∷ map flag (map change es)) (k e) ∙ ap (λ (bs : List Bool). flag e ∷ bs) (flags_map flag change es k)

-- ---- changes that leave sockets and links

pub record IsQuiet (e f : Entry) : Type 0 where
  pub own : f.own ≡ e.own
  pub foreign : f.foreign ≡ e.foreign
  pub link : f.link ≡ e.link
  pub mine : f.mine ≡ e.mine
  pub partner : is_some e.partner ≡ true → is_some f.partner ≡ true
  pub asked : is_some f.asked ≡ true → is_some e.asked ≡ true

sends_is : (l : ℕ) (e f : Entry) → IsQuiet e f → sends_on l f ≡ sends_on l e
sends_is l e f q = ap (λ (n : ℕ). not (is_receive_socket n) && is_link l f.link) q.own ∙ ap (λ (o : Option ℕ). not (is_receive_socket e.own) && is_link l o) q.link

receives_is : (l : ℕ) (e f : Entry) → IsQuiet e f → receives_on l f ≡ receives_on l e
receives_is l e f q = ap (λ (n : ℕ). is_receive_socket n && is_link l f.link) q.own ∙ ap (λ (o : Option ℕ). is_receive_socket e.own && is_link l o) q.link

quiet_sends : (taken : List Claim) (e f : Entry) → IsQuiet e f → SendsBy taken e → SendsBy taken f
quiet_sends taken e f q h = λ l on.
    let k : (is_some e.partner ≡ true) × (last_link (record { receive = e.foreign; send = e.own }) taken ≡ Some l) × (is_receive_socket e.foreign ≡ true) = h l (sym (sends_is l e f q) ∙ on) in (
      q.partner k.0,
      ap (λ (n : ℕ). last_link (record { receive = n; send = f.own }) taken) q.foreign ∙ ap (λ (n : ℕ). last_link (record { receive = e.foreign; send = n }) taken) q.own ∙ k.1,
      ap is_receive_socket q.foreign ∙ k.2,
    )

quiet_receives : (said : List Claim) (e f : Entry) → IsQuiet e f → ReceivesBy said e → ReceivesBy said f
quiet_receives said e f q h = λ even own l last.
    let before : last_link (record { receive = e.own; send = e.foreign }) said ≡ Some l =
    sym (ap (λ (n : ℕ). last_link (record { receive = n; send = f.foreign }) said) q.own ∙ ap (λ (n : ℕ). last_link (record { receive = e.own; send = n }) said) q.foreign) ∙ last in
    ap (λ (o : Option ℕ). is_link l o) q.link ∙ h (ap is_receive_socket (sym q.own) ∙ even) (sym q.mine ∙ own) l before

quiet_own : (e f : Entry) → IsQuiet e f → AsksOwn e → AsksOwn f
quiet_own e f q h = λ asked. q.mine ∙ h (q.asked asked)

module _ (said taken : List Claim) where
  pub links_changed : (test : Entry → Bool) (change : Entry → Entry) (es : List Entry) → ((e : Entry) → IsQuiet e (change e)) → Links said taken es → Links said taken (changed_first test change es)
  links_changed test change es q h = record {
    sends = each_changed _ test change es (λ e t k. quiet_sends taken e (change e) (q e) k) h.sends;
    names = each_changed _ test change es (λ e t k. quiet_receives said e (change e) (q e) k) h.names;
    own = each_changed AsksOwn test change es (λ e t k. quiet_own e (change e) (q e) k) h.own;
    single = λ l. subst One (sym (flags_changed _ test change es (λ e t. receives_is l e (change e) (q e)))) (h.single l);
  }

  pub links_map : (change : Entry → Entry) (es : List Entry) → ((e : Entry) → IsQuiet e (change e)) → Links said taken es → Links said taken (map change es)
  links_map change es q h = record {
    sends = each_map _ change es (λ e k. quiet_sends taken e (change e) (q e) k) h.sends;
    names = each_map _ change es (λ e k. quiet_receives said e (change e) (q e) k) h.names;
    own = each_map AsksOwn change es (λ e k. quiet_own e (change e) (q e) k) h.own;
    single = λ l. subst One (sym (flags_map _ change es (λ e. receives_is l e (change e) (q e)))) (h.single l);
  }

  pub links_filter : (keep : Entry → Bool) (es : List Entry) → Links said taken es → Links said taken (filter keep es)
  links_filter keep es h = record {
    sends = each_filter _ keep es h.sends;
    names = each_filter _ keep es h.names;
    own = each_filter AsksOwn keep es h.own;
    single = λ l. one_filter (receives_on l) keep es (h.single l);
  }

  pub links_joined : (e : Entry) (es : List Entry) → SendsBy taken e → ReceivesBy said e → AsksOwn e → ((l : ℕ) → receives_on l e ≡ true → list_any (receives_on l) es ≡ false) → Links said taken es → Links said taken (es ++ e ∷ [])
  links_joined e es sends names own free h = record {
    sends = each_more _ e es sends h.sends;
    names = each_more _ e es names h.names;
    own = each_more AsksOwn e es own h.own;
    single = λ l. one_joined (receives_on l) es e (free l) (h.single l);
  }

-- ---- one claim more

skip_claim : (s t : Sockets) (link : ℕ) (claims : List Claim) → (same t s ≡ true → ⊥) → last_link t (record { sockets = s; link = link } ∷ claims) ≡ last_link t claims
skip_claim s t link claims apart = by (same t s) refl where
  by : (b : Bool) → same t s ≡ b → (if b then Some link else last_link t claims) ≡ last_link t claims
  by true e = absurd (apart e)
  by false e = refl

not_at : (own foreign : ℕ) (e : Entry) → is_at own foreign e ≡ false → e.own ≡ own → e.foreign ≡ foreign → ⊥
not_at own foreign e off f g =
    let on : is_at own foreign e ≡ true = ap (λ (n : ℕ). n == own && e.foreign == foreign) f ∙ ap (λ (n : ℕ). own == own && n == foreign) g ∙ ap (λ (b : Bool). b && foreign == foreign) (eq-eqb own own refl) ∙ eq-eqb foreign foreign refl in
    absurd (let both : true ≡ false = sym on ∙ off in cc)

-- a request is queued for sockets of which there is no end
pub links_said : (said taken : List Claim) (own foreign link : ℕ) (es : List Entry) → Each (λ e. is_at own foreign e ≡ false) es → Links said taken es → Links (record { sockets = record { receive = own; send = foreign }; link = link } ∷ said) taken es
links_said said taken own foreign link es off h = record {
  sends = h.sends;
  names = each_both _ _ _ es
      (λ e away k even mine l last. k even mine l
      (sym (skip_claim _ _ link said
      (λ on. (let is : record { receive = e.own; send = e.foreign } ≡ record { receive = own; send = foreign } = same_is _ _ on in
      not_at own foreign e away (ap (λ (s : Sockets). s.receive) is) (ap (λ (s : Sockets). s.send) is)))) ∙ last)) off h.names;
  own = h.own;
  single = h.single;
}

-- a request is heard for sockets of which there is no end
pub links_heard : (said taken : List Claim) (own foreign link : ℕ) (es : List Entry) → Each (λ e. is_at own foreign e ≡ false) es → Links said taken es → Links said (record { sockets = record { receive = foreign; send = own }; link = link } ∷ taken) es
links_heard said taken own foreign link es off h = record {
  sends = each_both _ _ _ es
      (λ e away k l on. (let j : (is_some e.partner ≡ true) × (last_link (record { receive = e.foreign; send = e.own }) taken ≡ Some l) × (is_receive_socket e.foreign ≡ true) = k l on in (
        j.0,
        skip_claim _ _ link taken
            (λ same. (let is : record { receive = e.foreign; send = e.own } ≡ record { receive = foreign; send = own } = same_is _ _ same in
            not_at own foreign e away (ap (λ (s : Sockets). s.send) is) (ap (λ (s : Sockets). s.receive) is)))
            ∙ j.1,
        j.2,
      ))) off h.sends;
  names = h.names;
  own = h.own;
  single = h.single;
}

-- ---- a request is heard for an end

off_each : (test : Entry → Bool) (es : List Entry) → AllOff (map test es) → Each (λ e. test e ≡ false) es
off_each test [] h = tt
off_each test (e ∷ es) h = (h.0, off_each test es h.1)

-- the one end of two sockets is changed, and the others stay
each_first : (Q R : Entry → Type 0) (test : Entry → Bool) (change : Entry → Entry) (es : List Entry) → One (map test es) → ((e : Entry) → test e ≡ true → Q e → R (change e)) → ((e : Entry) → test e ≡ false → Q e → R e) → Each Q es
    → Each R (changed_first test change es)
each_first Q R test change [] one here there h = tt
each_first Q R test change (e ∷ es) one here there h = by (test e) refl (λ k. each_first Q R test change es k here there h.1) where
  by : (b : Bool) → test e ≡ b → (One (map test es) → Each R (changed_first test change es)) → Each R (if b then change e ∷ es else e ∷ changed_first test change es)
  by true t rest =
      let off : AllOff (map test es) = rw t at one in
      (here e t h.0, each_both _ Q R es (λ x f k. there x f k) (off_each test es off) h.1)
  by false t rest = let more : One (map test es) = rw t at one in (there e t h.0, rest more)

link_same : (l link : ℕ) (own : Bool) → (own && is_link l (Some link)) ≡ true → Some link ≡ Some l
link_same l link own t = ap (λ (n : ℕ). Some n) (eqb-true link l (both own (link == l) t).1)

pub claim_first : (t : Sockets) (link : ℕ) (claims : List Claim) → last_link t (record { sockets = t; link = link } ∷ claims) ≡ Some link
claim_first t link claims = rw (same_self t) refl

-- the end of two sockets has a link from now on; its own socket sends
pub links_linked : (said taken : List Claim) (own foreign link : ℕ) (change : Entry → Entry) (es : List Entry) → is_receive_socket own ≡ false → is_receive_socket foreign ≡ true
    → ((e : Entry) → ((change e).own ≡ e.own) × ((change e).foreign ≡ e.foreign) × ((change e).link ≡ Some link) × (is_some (change e).partner ≡ true) × ((change e).asked ≡ e.asked) × ((change e).mine ≡ e.mine))
    → One (map (is_at own foreign) es) → Links said taken es → Links said (record { sockets = record { receive = foreign; send = own }; link = link } ∷ taken) (changed_at own foreign change es)
links_linked said taken own foreign link change es odd even is one h = record {
  sends = each_first _ _ _ change es one
      (λ e t k l on. (let s : (e.own ≡ own) × (e.foreign ≡ foreign) = sockets_of own foreign e t in
      let o : (change e).own ≡ own = (is e).0 ∙ s.0 in
      let f : (change e).foreign ≡ foreign = (is e).1 ∙ s.1 in
      let there : (not (is_receive_socket (change e).own) && is_link l (Some link)) ≡ true = ap (λ (x : Option ℕ). not (is_receive_socket (change e).own) && is_link l x) (sym (is e).2) ∙ on in (
        (is e).3,
        ap (λ (n : ℕ). last_link (record { receive = n; send = (change e).own }) (record { sockets = record { receive = foreign; send = own }; link = link } ∷ taken)) f
            ∙ ap (λ (n : ℕ). last_link (record { receive = foreign; send = n }) (record { sockets = record { receive = foreign; send = own }; link = link } ∷ taken)) o
            ∙ claim_first (record { receive = foreign; send = own }) link taken ∙ link_same l link _ there,
        ap is_receive_socket f ∙ even,
      )))
      (λ e away k l on. (let j : (is_some e.partner ≡ true) × (last_link (record { receive = e.foreign; send = e.own }) taken ≡ Some l) × (is_receive_socket e.foreign ≡ true) = k l on in (
        j.0,
        skip_claim _ _ link taken
            (λ same. (let s : record { receive = e.foreign; send = e.own } ≡ record { receive = foreign; send = own } = same_is _ _ same in
            not_at own foreign e away (ap (λ (s : Sockets). s.send) s) (ap (λ (s : Sockets). s.receive) s)))
            ∙ j.1,
        j.2,
      ))) h.sends;
  names = each_changed _ _ change es
      (λ e t k on. absurd (let both : true ≡ false = sym on ∙ ap is_receive_socket ((is e).0 ∙ (sockets_of own foreign e t).0) ∙ odd in cc)) h.names;
  own = each_changed AsksOwn _ change es (λ e t k asked. (is e).5 ∙ k (ap (λ (o : Option ℕ). is_some o) (sym (is e).4) ∙ asked)) h.own;
  single = λ l. subst One (sym (flags_changed _ _ change es
      (λ e t. (let o : (change e).own ≡ own = (is e).0 ∙ (sockets_of own foreign e t).0 in
      ap (λ (b : Bool). b && is_link l (change e).link) (ap is_receive_socket o ∙ odd) ∙ sym (ap (λ (b : Bool). b && is_link l e.link) (ap is_receive_socket (sockets_of own foreign e t).0 ∙ odd)))))) (h.single l);
}

-- a request goes out for an end that is this host's own
pub links_asked : (said taken : List Claim) (own foreign : ℕ) (change : Entry → Entry) (es : List Entry)
    → ((e : Entry) → ((change e).own ≡ e.own) × ((change e).foreign ≡ e.foreign) × ((change e).link ≡ e.link) × ((change e).partner ≡ e.partner) × ((change e).mine ≡ e.mine))
    → One (map (is_at own foreign) es) → Each (λ e. is_at own foreign e ≡ true → e.mine ≡ true) es → Links said taken es → Links said taken (changed_at own foreign change es)
links_asked said taken own foreign change es is one mine h = record {
  sends = each_changed _ _ change es
      (λ e t k l on. (let j : (is_some e.partner ≡ true) × (last_link (record { receive = e.foreign; send = e.own }) taken ≡ Some l) × (is_receive_socket e.foreign ≡ true) =
      k l (sym (ap (λ (n : ℕ). not (is_receive_socket n) && is_link l (change e).link) (is e).0 ∙ ap (λ (o : Option ℕ). not (is_receive_socket e.own) && is_link l o) (is e).2) ∙ on) in (
        ap (λ (o : Option ℕ). is_some o) (is e).3 ∙ j.0,
        ap (λ (n : ℕ). last_link (record { receive = n; send = (change e).own }) taken) (is e).1 ∙ ap (λ (n : ℕ). last_link (record { receive = e.foreign; send = n }) taken) (is e).0 ∙ j.1,
        ap is_receive_socket (is e).1 ∙ j.2,
      ))) h.sends;
  names = each_changed _ _ change es
      (λ e t k even own l last. ap (λ (o : Option ℕ). is_link l o) (is e).2
      ∙ k (ap is_receive_socket (sym (is e).0) ∙ even) (sym (is e).4 ∙ own) l
      (sym (ap (λ (n : ℕ). last_link (record { receive = n; send = (change e).foreign }) said) (is e).0 ∙ ap (λ (n : ℕ). last_link (record { receive = e.own; send = n }) said) (is e).1) ∙ last)) h.names;
  own = each_first (λ e. (is_at own foreign e ≡ true → e.mine ≡ true) × AsksOwn e) AsksOwn (is_at own foreign) change es one (λ e t k asked. (is e).4 ∙ k.0 t) (λ e away k. k.1)
      (each_both _ AsksOwn _ es (λ e f k. (f, k)) mine h.own);
  single = λ l. subst One (sym (flags_changed _ _ change es
      (λ e t. ap (λ (n : ℕ). is_receive_socket n && is_link l (change e).link) (is e).0 ∙ ap (λ (o : Option ℕ). is_receive_socket e.own && is_link l o) (is e).2))) (h.single l);
}
