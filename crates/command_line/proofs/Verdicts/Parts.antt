-- What is judged of the lives among hosts with programs is said of the whole log.
use Rattle.command_line.proofs.Common.{AreSuited, UnsuitedAt, IsSomeRun, StraysAt, SafeMessages, Crossing, ClosesWhole, Fate, Host, Life, Finding, Verdict, IfFormed, KeepsGrants, first_closed, first_grants, first_sent, AreMade, UnmadeAt, AreToward, UntowardAt, EachWasSent, beside_among, lives_among, IsWellFormed}
use Rattle.std.proofs.Common.{◌≡◌, ℕ, Bool, List, Option, Some, None, ap, refl, subst, MatchOption, reverse}
use Rattle.command_line.specs.Audits.{Judged, AreParts}
use Rattle.book_judge.specs.declared.broken.Broken.{Broken}
use Rattle.net_sim.specs.Findings.{AreFed, ShowsCrossing, ShowsLife, ShowsMalformed, ShowsTwo, first_fed}
use Rattle.promise.specs.Safe.{SafePartners}
use Rattle.command_line.proofs.Verdicts.Among.{formed_among}
use Rattle.command_line.proofs.Verdicts.Named.{looked_at, shown_formed, unnamed}

-- the parts that aren't judged of a malformed book
pub record Parts (malformed : Option Finding) (b : Broken) (log : List Crossing) (lives : List Life)
    (handed : List (List Bool)) (fates : List Fate) : Type 0 where
  pub partners : IfFormed malformed b.partners (SafePartners log lives) (λ found. ShowsTwo found log lives)
  pub streams : IfFormed malformed b.streams (AreFed log lives lives handed)
      (λ found. ShowsLife (first_fed log lives handed) found log lives)
  pub grants : IfFormed malformed b.grants (KeepsGrants log lives)
      (λ found. ShowsLife (first_grants log lives) found log lives)
  pub sent : IfFormed malformed b.sent (EachWasSent log lives)
      (λ found. ShowsLife (first_sent log lives) found log lives)
  pub closes : IfFormed malformed b.closes (ClosesWhole log lives handed fates)
      (λ found. ShowsLife (first_closed log lives handed fates) found log lives)

parts_of : (malformed : Option Finding) (b : Broken) (log : List Crossing) (lives : List Life)
    (handed : List (List Bool)) (fates : List Fate) → (malformed ≡ None → IsWellFormed log lives handed)
    → AreParts malformed b log lives handed fates → Parts malformed b log lives handed fates
parts_of None b log lives handed fates formed is =
    let none : b.malformed ≡ None = (unnamed b.malformed (λ found. ShowsMalformed found log lives handed) (λ found w h. shown_formed found log lives handed w h) is.formed).1 (formed refl) in
    record {
      partners = looked_at b.malformed b.partners (SafePartners log lives) (λ found. ShowsTwo found log lives) none is.partners;
      streams = looked_at b.malformed b.streams (AreFed log lives lives handed) (λ found. ShowsLife (first_fed log lives handed) found log lives) none is.streams;
      grants = looked_at b.malformed b.grants (KeepsGrants log lives) (λ found. ShowsLife (first_grants log lives) found log lives) none is.grants;
      sent = looked_at b.malformed b.sent (EachWasSent log lives) (λ found. ShowsLife (first_sent log lives) found log lives) none is.sent;
      closes = looked_at b.malformed b.closes (ClosesWhole log lives handed fates) (λ found. ShowsLife (first_closed log lives handed fates) found log lives) none is.closes;
    }
parts_of (Some found) b log lives handed fates formed is = record {
  partners = ap (λ (x : Broken). x.partners) is;
  streams = ap (λ (x : Broken). x.streams) is;
  grants = ap (λ (x : Broken). x.grants) is;
  sent = ap (λ (x : Broken). x.sent) is;
  closes = ap (λ (x : Broken). x.closes) is;
}

formed_of : (malformed : Option Finding) (log : List Crossing) (lives : List Life) (handed : List (List Bool))
    → MatchOption malformed (IsWellFormed log lives handed) (λ found. ShowsMalformed found log lives handed)
    → malformed ≡ None → IsWellFormed log lives handed
formed_of None log lives handed m e = m
formed_of (Some found) log lives handed m e = absurd (cc)

-- the verdict of its parts
abbrev pub verdict_of : Option ℕ → Option ℕ → Option Finding → Option Finding → Broken → Option ℕ → Option ℕ → Verdict
verdict_of stray unmade malformed messages b unsuited toward = record {
  stray = stray;
  unmade = unmade;
  malformed = malformed;
  messages = messages;
  partners = b.partners;
  streams = b.streams;
  grants = b.grants;
  sent = b.sent;
  closes = b.closes;
  unsuited = unsuited;
  toward = toward;
}

-- what was found of these lists, and of the lives that are kept of them
pub record Found (strange : Host → Bool) (stray unmade : Option ℕ) (malformed messages : Option Finding) (b : Broken)
    (unsuited toward : Option ℕ) (log : List Crossing)
    (lives : List Life) (handed : List (List Bool)) (some : List Life) (lists : List (List Bool)) (ends : List Fate) :
    Type 0 where
  pub run : MatchOption stray (IsSomeRun (reverse log)) (λ place. StraysAt log place)
  pub made : MatchOption unmade (AreMade (reverse log) some) (λ n. UnmadeAt (reverse log) some n)
  pub formed : MatchOption malformed (IsWellFormed (reverse log) lives handed)
      (λ found. ShowsMalformed found (reverse log) lives handed)
  pub safe : MatchOption messages (SafeMessages (reverse log)) (λ found. ShowsCrossing found (reverse log))
  pub parts : AreParts malformed b (reverse log) some lists ends
  pub suited : MatchOption unsuited (AreSuited (reverse log) some ends)
      (λ place. UnsuitedAt (reverse log) some ends place)
  pub to : IfFormed malformed toward (AreToward strange lives handed) (λ place. UntowardAt strange lives handed place)

found_judged : (strange : Host → Bool) (stray unmade : Option ℕ) (malformed messages : Option Finding) (b : Broken)
    (unsuited toward : Option ℕ) (log : List Crossing) (lives : List Life)
    (handed : List (List Bool)) (fates : List Fate)
    → Found strange stray unmade malformed messages b unsuited toward log lives handed (lives_among strange lives) (beside_among strange lives handed) (beside_among strange lives fates)
    → Judged (verdict_of stray unmade malformed messages b unsuited toward) strange log lives handed fates
found_judged strange stray unmade malformed messages b unsuited toward log lives handed fates f =
    let xs : List Life = lives_among strange lives in
    let hs : List (List Bool) = beside_among strange lives handed in
    let fs : List Fate = beside_among strange lives fates in
    let all : Parts malformed b (reverse log) xs hs fs =
    parts_of malformed b (reverse log) xs hs fs
    (λ e. formed_among strange (reverse log) lives handed (formed_of malformed (reverse log) lives handed f.formed e))
    f.parts in
    record {
      run = f.run;
      made = f.made;
      formed = f.formed;
      messages = f.safe;
      partners = all.partners;
      streams = all.streams;
      grants = all.grants;
      sent = all.sent;
      closes = all.closes;
      suited = f.suited;
      toward = f.to;
    }

-- where each list is the one that was judged
pub judged_of : (strange : Host → Bool) (stray unmade : Option ℕ) (malformed messages : Option Finding) (b : Broken)
    (unsuited toward : Option ℕ) (now log : List Crossing) (all lives : List Life)
    (texts handed : List (List Bool)) (fates : List Fate) (some : List Life) (lists : List (List Bool)) (ends : List Fate) → now ≡ log → all ≡ lives → texts ≡ handed
    → some ≡ lives_among strange lives → lists ≡ beside_among strange lives handed
    → ends ≡ beside_among strange lives fates
    → Found strange stray unmade malformed messages b unsuited toward now all texts some lists ends
    → Judged (verdict_of stray unmade malformed messages b unsuited toward) strange log lives handed fates
judged_of strange stray unmade malformed messages b unsuited toward now log all lives texts handed fates some lists ends p q r s t u f =
    let xs : List Life = lives_among strange lives in
    let hs : List (List Bool) = beside_among strange lives handed in
    let fs : List Fate = beside_among strange lives fates in
    found_judged strange stray unmade malformed messages b unsuited toward log lives handed fates
    (subst (λ (cs : List Crossing). Found strange stray unmade malformed messages b unsuited toward cs lives handed xs hs fs) p
    (subst (λ (ys : List Life). Found strange stray unmade malformed messages b unsuited toward now ys handed xs hs fs) q
    (subst (λ (ys : List (List Bool)). Found strange stray unmade malformed messages b unsuited toward now all ys xs hs fs) r
    (subst (λ (ys : List Life). Found strange stray unmade malformed messages b unsuited toward now all texts ys hs fs) s
    (subst (λ (ys : List (List Bool)). Found strange stray unmade malformed messages b unsuited toward now all texts some ys fs) t
    (subst (λ (ys : List Fate). Found strange stray unmade malformed messages b unsuited toward now all texts some lists ys) u f))))))
