-- What an audit names is broken: a part that holds of all holds of the first of them.
use Rattle.command_line.proofs.Common.{Contains, AreSuited, UnsuitedAt, IsSomeRun, StraysAt, SafeMessages, Crossing, Says, IsWellFormed, Finding, ClosesWhole, Fate, Life, Verdict, AreMade, UnmadeAt, IfFormed, KeepsGrants, first_closed, first_grants, first_sent, AreToward, UntowardAt, Host, beside_among, lives_among, EachIsWithin, EachWasSent}
use Rattle.std.proofs.Common.{◌≡◌, ℕ, ◌+◌, Bool, List, [], ◌∷◌, ◌++◌, take, Option, Some, None, arith, inl, inr, refl, ap, sym, subst, ◌∙◌, reverse, zero, suc, ◌-◌, length, drop, MatchOption}
use Rattle.std.proofs.lemmas.List.{append_assoc, take-append-drop}
use Rattle.promise.specs.Safe.{AreTwo, SafeBook, AreHanded, Name, SafePartners, SafeStreams, own_request}
use Rattle.command_line.specs.Audits.{Judged, kept}
use Rattle.std.specs.Prelude.{◌↔◌}
use Rattle.std.proofs.lemmas.List.Elements.{Contains-append_left}
use Rattle.book_judge.proofs.lemmas.{closed_front, made_front, run_front, suited_front, toward_front}
use Rattle.command_line.proofs.Verdicts.Among.{formed_among}
use Rattle.interface.proofs.lemmas.{safe_messages}
use Rattle.interface.specs.declared.crossing.Answer.TheVariants as answer
use Rattle.interface.specs.declared.crossing.Crossing.TheVariants as crossing
use Rattle.net_sim.specs.Findings.{AreFed, ShowsCrossing, ShowsLife, ShowsMalformed, ShowsTwo, first_fed}
use Rattle.net_sim.specs.declared.auditing.findings.Finding.TheVariants as finding
use Rattle.net_sim.specs.declared.auditing.said.Audit.TheVariants as audit

contains_front : {X : Type 0} (n : ℕ) (xs : List X) (x : X) → Contains (take n xs) x → Contains xs x
contains_front {X} n xs x c =
    subst (λ (zs : List X). Contains zs x) (take-append-drop n xs) (Contains-append_left (take n xs) (drop n xs) x c)

-- ---- messages

longer : (log : List Crossing) (n : ℕ) (newer older : List Crossing) → drop n log ≡ newer ++ older
    → log ≡ (take n log ++ newer) ++ older
longer log n newer older e =
    sym (take-append-drop n log) ∙ ap (λ (cs : List Crossing). take n log ++ cs) e
    ∙ sym (append_assoc (take n log) newer older)

safe_rest : (log : List Crossing) (n : ℕ) → SafeMessages log → SafeMessages (drop n log)
safe_rest log n s = record {
  answered =
      λ newer older f e. s.answered (take n log ++ newer) older f
      (longer log n newer (crossing.Answer answer.Rfnm f ∷ older) e);
  once =
      λ newer since before m e went. s.once (take n log ++ newer) since before m
      (longer log n newer (since ++ crossing.Out m ∷ before) e) went;
  none_before = λ newer older f e went. s.none_before (take n log ++ newer) older f (longer log n newer older e) went;
}

-- a run of the mailboxes keeps messages
pub run_kept : (log : List Crossing) (stray : Option ℕ) → stray ≡ None
    → MatchOption stray (IsSomeRun (reverse log)) (λ place. StraysAt log place) → SafeMessages (reverse log)
run_kept log None e run = safe_messages run.0 (reverse log) run.1
run_kept log (Some place) e strays = absurd (cc)

-- ---- lives

two_front : (lives : List Life) (n : ℕ) (x y : Life) → AreTwo (take n lives) x y → AreTwo lives x y
two_front lives n x y (front, between, rest, e) =
    (front, between, rest ++ drop n lives, sym (take-append-drop n lives) ∙ ap (λ (zs : List Life). zs ++ drop n lives) e ∙ append_assoc (front ++ x ∷ between) (y ∷ rest) (drop n lives))

partners_front : (log : List Crossing) (lives : List Life) (n : ℕ) → SafePartners log lives
    → SafePartners log (take n lives)
partners_front log lives n s = record {
  own_once = λ x y two e. s.own_once x y (two_front lives n x y two) e;
  partner_once = λ x y name two e f. s.partner_once x y name (two_front lives n x y two) e f;
  named = λ x c. s.named x (contains_front n lives x c);
  peers = λ x y c d e. s.peers x y (contains_front n lives x c) (contains_front n lives y d) e;
  both_ways = λ x y c d e. s.both_ways x y (contains_front n lives x c) (contains_front n lives y d) e;
}

handed_front : (n : ℕ) (lives : List Life) (handed : List (List Bool)) → AreHanded lives handed
    → AreHanded (take n lives) (take n handed)
handed_front zero lives handed h = refl
handed_front (suc n) [] handed h = ap (λ (hs : List (List Bool)). take (suc n) hs) h
handed_front (suc n) (x ∷ lives) [] h = absurd h
handed_front (suc n) (x ∷ lives) (b ∷ handed) (f, rest) = (f, handed_front n lives handed rest)

-- ---- what shows where it holds

pub shown_formed : (found : Finding) (log : List Crossing) (lives : List Life) (handed : List (List Bool))
    → IsWellFormed log lives handed → ShowsMalformed found log lives handed → ⊥
shown_formed (finding.Crossing place) log lives handed w h = h
shown_formed (finding.Life place) log lives handed w h =
    let same : length lives ≡ length handed = w.counts in
    elim h [
      | inl fewer ↦ (let few = fewer.0 in omega (arith, same, few))
      | inr at ↦ at.1.1 (λ x c. w.stamped x (contains_front (place + 1) lives x c))
    ]
shown_formed (finding.Lives place other) log lives handed w h = h
shown_formed (finding.List place) log lives handed w h =
    let same : length lives ≡ length handed = w.counts in let few = h.0 in omega (arith, same, few)

shown_messages : (found : Finding) (log : List Crossing) → SafeMessages log → ShowsCrossing found log → ⊥
shown_messages (finding.Crossing place) log s h = h.1 (safe_rest log (length log - (place + 1)) s)
shown_messages (finding.Life place) log s h = h
shown_messages (finding.Lives place other) log s h = h
shown_messages (finding.List place) log s h = h

shown_partners : (found : Finding) (log : List Crossing) (lives : List Life) → SafePartners log lives
    → ShowsTwo found log lives → ⊥
shown_partners (finding.Crossing place) log lives s h = h
shown_partners (finding.Life place) log lives s h = h
shown_partners (finding.Lives first second) log lives s h = h.0.1 (partners_front log lives (second + 1) s)
shown_partners (finding.List place) log lives s h = h

shown_streams : (found : Finding) (log : List Crossing) (lives : List Life) (handed : List (List Bool))
    → AreFed log lives lives handed → ShowsLife (first_fed log lives handed) found log lives → ⊥
shown_streams found log lives handed f h =
    h.first.1
    (record {
      source = λ x c r bits. f.source x (contains_front (h.place + 1) lives x c) r bits;
      sent = handed_front (h.place + 1) lives handed f.sent;
    })

shown_grants : (found : Finding) (log : List Crossing) (lives : List Life) → KeepsGrants log lives
    → ShowsLife (first_grants log lives) found log lives → ⊥
shown_grants found log lives g h =
    h.first.1 (
      record {
        taken = λ x c r. g.counted.taken x (contains_front (h.place + 1) lives x c) r;
        sent = λ x y c d m. g.counted.sent x y (contains_front (h.place + 1) lives x c) d m;
      },
      λ x link there sending named. g.crossed x link (contains_front (h.place + 1) lives x there) sending named,
    )

shown_sent : (found : Finding) (log : List Crossing) (lives : List Life) → EachWasSent log lives
    → ShowsLife (first_sent log lives) found log lives → ⊥
shown_sent found log lives each h =
    h.first.1 (λ x p m there comes crossed c. each x p m (contains_front (h.place + 1) lives x there) comes crossed c)

shown_closes : (found : Finding) (log : List Crossing) (lives : List Life) (handed : List (List Bool)) (fates : List Fate)
    → ClosesWhole log lives handed fates → ShowsLife (first_closed log lives handed fates) found log lives → ⊥
shown_closes found log lives handed fates w h = h.first.1 (closed_front log lives handed fates (h.place + 1) w)

-- ---- named or not

-- a part isn't named exactly where it holds
pub unnamed : {F A : Type 0} (r : Option F) (ShowsAt : F → Type 0) → ((found : F) → A → ShowsAt found → ⊥)
    → MatchOption r A ShowsAt → (r ≡ None) ↔ A
unnamed None ShowsAt never m = (λ e. m, λ a. refl)
unnamed (Some found) ShowsAt never m = (λ e. absurd (cc), λ a. absurd (never found a m))

-- where a book is well-formed, the parts that are about its requests are looked at
pub looked_at : {F : Type 0} (malformed : Option Finding) (found : Option F) (A : Type 0) (ShowsAt : F → Type 0)
    → malformed ≡ None
    → IfFormed malformed found A ShowsAt → MatchOption found A ShowsAt
looked_at None found A ShowsAt e h = h
looked_at (Some at) found A ShowsAt e h = absurd (cc)

-- the lives among hosts with programs, with what was handed over in them and their fates
abbrev some : (Host → Bool) → List Life → List Life
some strange lives = lives_among strange lives

abbrev lists : (Host → Bool) → List Life → List (List Bool) → List (List Bool)
lists strange lives handed = beside_among strange lives handed

abbrev ends : (Host → Bool) → List Life → List Fate → List Fate
ends strange lives fates = beside_among strange lives fates

pub run_named : (v : Verdict) (strange : Host → Bool) (log : List Crossing) (lives : List Life)
    (handed : List (List Bool)) (fates : List Fate)
    → Judged v strange log lives handed fates → (v.stray ≡ None) ↔ IsSomeRun (reverse log)
run_named v strange log lives handed fates j =
    unnamed v.stray (λ place. StraysAt log place) (λ place run at. at.1 (run_front log (place + 1) run)) j.run

pub lives_named : (v : Verdict) (strange : Host → Bool) (log : List Crossing) (lives : List Life)
    (handed : List (List Bool)) (fates : List Fate)
    → Judged v strange log lives handed fates → (v.unmade ≡ None) ↔ AreMade (reverse log) (lives_among strange lives)
lives_named v strange log lives handed fates j =
    unnamed v.unmade (λ place. UnmadeAt (reverse log) (some strange lives) place)
    (λ place made at. at.1 (made_front (reverse log) (some strange lives) (place + 1) made)) j.made

pub formed_named : (v : Verdict) (strange : Host → Bool) (log : List Crossing) (lives : List Life)
    (handed : List (List Bool)) (fates : List Fate)
    → Judged v strange log lives handed fates → (v.malformed ≡ None) ↔ IsWellFormed (reverse log) lives handed
formed_named v strange log lives handed fates j =
    unnamed v.malformed (λ found. ShowsMalformed found (reverse log) lives handed)
    (λ found w h. shown_formed found (reverse log) lives handed w h) j.formed

pub messages_named : (v : Verdict) (strange : Host → Bool) (log : List Crossing) (lives : List Life)
    (handed : List (List Bool)) (fates : List Fate)
    → Judged v strange log lives handed fates → (v.messages ≡ None) ↔ SafeMessages (reverse log)
messages_named v strange log lives handed fates j =
    unnamed v.messages (λ found. ShowsCrossing found (reverse log))
    (λ found s h. shown_messages found (reverse log) s h) j.messages

pub partners_named : (v : Verdict) (strange : Host → Bool) (log : List Crossing) (lives : List Life)
    (handed : List (List Bool)) (fates : List Fate)
    → Judged v strange log lives handed fates → v.malformed ≡ None
    → (v.partners ≡ None) ↔ SafePartners (reverse log) (lives_among strange lives)
partners_named v strange log lives handed fates j e =
    unnamed v.partners (λ found. ShowsTwo found (reverse log) (some strange lives))
    (λ found s h. shown_partners found (reverse log) (some strange lives) s h)
    (looked_at v.malformed v.partners (SafePartners (reverse log) (some strange lives)) (λ found. ShowsTwo found (reverse log) (some strange lives)) e j.partners)

pub streams_named : (v : Verdict) (strange : Host → Bool) (log : List Crossing) (lives : List Life)
    (handed : List (List Bool)) (fates : List Fate)
    → Judged v strange log lives handed fates → v.malformed ≡ None
    → (v.streams ≡ None) ↔ AreFed (reverse log) (lives_among strange lives) (lives_among strange lives) (beside_among strange lives handed)
streams_named v strange log lives handed fates j e =
    let xs : List Life = some strange lives in
    let hs : List (List Bool) = lists strange lives handed in
    unnamed v.streams (λ found. ShowsLife (first_fed (reverse log) xs hs) found (reverse log) xs)
    (λ found f h. shown_streams found (reverse log) xs hs f h)
    (looked_at v.malformed v.streams (AreFed (reverse log) xs xs hs) (λ found. ShowsLife (first_fed (reverse log) xs hs) found (reverse log) xs) e j.streams)

pub grants_named : (v : Verdict) (strange : Host → Bool) (log : List Crossing) (lives : List Life)
    (handed : List (List Bool)) (fates : List Fate)
    → Judged v strange log lives handed fates → v.malformed ≡ None
    → (v.grants ≡ None) ↔ KeepsGrants (reverse log) (lives_among strange lives)
grants_named v strange log lives handed fates j e =
    let xs : List Life = some strange lives in
    unnamed v.grants (λ found. ShowsLife (first_grants (reverse log) xs) found (reverse log) xs)
    (λ found g h. shown_grants found (reverse log) xs g h)
    (looked_at v.malformed v.grants (KeepsGrants (reverse log) xs) (λ found. ShowsLife (first_grants (reverse log) xs) found (reverse log) xs) e j.grants)

pub sent_named : (v : Verdict) (strange : Host → Bool) (log : List Crossing) (lives : List Life)
    (handed : List (List Bool)) (fates : List Fate)
    → Judged v strange log lives handed fates → v.malformed ≡ None
    → (v.sent ≡ None) ↔ EachWasSent (reverse log) (lives_among strange lives)
sent_named v strange log lives handed fates j e =
    let xs : List Life = some strange lives in
    unnamed v.sent (λ found. ShowsLife (first_sent (reverse log) xs) found (reverse log) xs)
    (λ found each h. shown_sent found (reverse log) xs each h)
    (looked_at v.malformed v.sent (EachWasSent (reverse log) xs) (λ found. ShowsLife (first_sent (reverse log) xs) found (reverse log) xs) e j.sent)

pub closes_named : (v : Verdict) (strange : Host → Bool) (log : List Crossing) (lives : List Life)
    (handed : List (List Bool)) (fates : List Fate)
    → Judged v strange log lives handed fates → v.malformed ≡ None
    → (v.closes ≡ None) ↔ ClosesWhole (reverse log) (lives_among strange lives) (beside_among strange lives handed) (beside_among strange lives fates)
closes_named v strange log lives handed fates j e =
    let xs : List Life = some strange lives in
    let hs : List (List Bool) = lists strange lives handed in
    let fs : List Fate = ends strange lives fates in
    unnamed v.closes (λ found. ShowsLife (first_closed (reverse log) xs hs fs) found (reverse log) xs)
    (λ found w h. shown_closes found (reverse log) xs hs fs w h)
    (looked_at v.malformed v.closes (ClosesWhole (reverse log) xs hs fs) (λ found. ShowsLife (first_closed (reverse log) xs hs fs) found (reverse log) xs) e j.closes)

pub fates_named : (v : Verdict) (strange : Host → Bool) (log : List Crossing) (lives : List Life)
    (handed : List (List Bool)) (fates : List Fate)
    → Judged v strange log lives handed fates
    → (v.unsuited ≡ None) ↔ AreSuited (reverse log) (lives_among strange lives) (beside_among strange lives fates)
fates_named v strange log lives handed fates j =
    let xs : List Life = some strange lives in
    let fs : List Fate = ends strange lives fates in
    unnamed v.unsuited (λ place. UnsuitedAt (reverse log) xs fs place)
    (λ place suited at. at.1 (suited_front (reverse log) xs fs (place + 1) suited)) j.suited

pub toward_named : (v : Verdict) (strange : Host → Bool) (log : List Crossing) (lives : List Life)
    (handed : List (List Bool)) (fates : List Fate)
    → Judged v strange log lives handed fates → v.malformed ≡ None → (v.toward ≡ None) ↔ AreToward strange lives handed
toward_named v strange log lives handed fates j e =
    unnamed v.toward (λ place. UntowardAt strange lives handed place)
    (λ place toward at. at.1 (toward_front strange (place + 1) lives handed toward))
    (looked_at v.malformed v.toward (AreToward strange lives handed) (λ place. UntowardAt strange lives handed place) e j.toward)

-- where all lives are so, nothing is said of them
unsaid : (malformed : Option Finding) (found : Option ℕ) (A : Type 0) (ShowsAt : ℕ → Type 0)
    → ((n : ℕ) → A → ShowsAt n → ⊥) → A
    → IfFormed malformed found A ShowsAt → found ≡ None
unsaid None None A ShowsAt never a h = refl
unsaid None (Some n) A ShowsAt never a h = absurd (never n a h)
unsaid (Some at) found A ShowsAt never a h = h

pub toward_none : (v : Verdict) (strange : Host → Bool) (log : List Crossing) (lives : List Life)
    (handed : List (List Bool)) (fates : List Fate)
    → Judged v strange log lives handed fates → AreToward strange lives handed → v.toward ≡ None
toward_none v strange log lives handed fates j toward =
    unsaid v.malformed v.toward (AreToward strange lives handed) (λ place. UntowardAt strange lives handed place)
    (λ place all at. at.1 (toward_front strange (place + 1) lives handed all)) toward j.toward

-- ---- nothing is named exactly of a safe book

pub kept_from_safe : (strange : Host → Bool) (log : List Crossing) (lives : List Life) (handed : List (List Bool))
    (fates : List Fate)
    → IsSomeRun (reverse log) → AreMade (reverse log) (lives_among strange lives)
    → IsWellFormed (reverse log) lives handed
    → SafeBook (reverse log) (lives_among strange lives) (beside_among strange lives handed)
    → EachIsWithin (reverse log) (lives_among strange lives) → EachWasSent (reverse log) (lives_among strange lives)
    → ClosesWhole (reverse log) (lives_among strange lives) (beside_among strange lives handed) (beside_among strange lives fates)
    → AreSuited (reverse log) (lives_among strange lives) (beside_among strange lives fates)
    → AreToward strange lives handed → Judged kept strange log lives handed fates
kept_from_safe strange log lives handed fates run made formed safe within sent closes suited toward = record {
  run = run;
  made = made;
  formed = formed;
  messages = safe.messages;
  partners = safe.partners;
  streams = record { source = safe.streams.source; sent = safe.streams.sent };
  grants = record { counted = safe.grants; crossed = within };
  sent = sent;
  closes = closes;
  suited = suited;
  toward = toward;
}

some_one : (a b : Name) → Some a ≡ Some b → a ≡ b
some_one a b e = cc

-- the partners are safe, so a receiving life matches one sender
streams_safe : (log : List Crossing) (lives : List Life) (handed : List (List Bool)) → SafePartners log lives
    → AreFed log lives lives handed → SafeStreams log lives handed
streams_safe log lives handed s f = record {
  one = λ r x y c two m n. s.own_once x y two (some_one (own_request x) (own_request y) (sym m.asked ∙ n.asked));
  source = f.source;
  sent = f.sent;
}

pub safe_from_kept : (strange : Host → Bool) (log : List Crossing) (lives : List Life) (handed : List (List Bool))
    (fates : List Fate)
    → Judged kept strange log lives handed fates
    → Says audit.Kept (reverse log) (lives_among strange lives) (beside_among strange lives handed)
safe_from_kept strange log lives handed fates j = (
  formed_among strange (reverse log) lives handed j.formed,
  record {
    messages = j.messages;
    partners = j.partners;
    streams = streams_safe (reverse log) (some strange lives) (lists strange lives handed) j.partners j.streams;
    grants = j.grants.counted;
  },
)

-- and of such a log nothing else is said
pub only_kept : (v : Verdict) (strange : Host → Bool) (log : List Crossing) (lives : List Life)
    (handed : List (List Bool)) (fates : List Fate)
    → Judged kept strange log lives handed fates → Judged v strange log lives handed fates → v ≡ kept
only_kept v strange log lives handed fates k j =
    let malformed : v.malformed ≡ None = (formed_named v strange log lives handed fates j).1 k.formed in
    let stray : v.stray ≡ None = (run_named v strange log lives handed fates j).1 k.run in
    let unmade : v.unmade ≡ None = (lives_named v strange log lives handed fates j).1 k.made in
    let messages : v.messages ≡ None = (messages_named v strange log lives handed fates j).1 k.messages in
    let partners : v.partners ≡ None = (partners_named v strange log lives handed fates j malformed).1 k.partners in
    let streams : v.streams ≡ None = (streams_named v strange log lives handed fates j malformed).1 k.streams in
    let grants : v.grants ≡ None = (grants_named v strange log lives handed fates j malformed).1 k.grants in
    let sent : v.sent ≡ None = (sent_named v strange log lives handed fates j malformed).1 k.sent in
    let closes : v.closes ≡ None = (closes_named v strange log lives handed fates j malformed).1 k.closes in
    let unsuited : v.unsuited ≡ None = (fates_named v strange log lives handed fates j).1 k.suited in
    let toward : v.toward ≡ None = (toward_named v strange log lives handed fates j malformed).1 k.toward in
    (λ i. record { stray = stray i; unmade = unmade i; malformed = malformed i; messages = messages i; partners = partners i; streams = streams i; grants = grants i; sent = sent i; closes = closes i; unsuited = unsuited i; toward = toward i })
