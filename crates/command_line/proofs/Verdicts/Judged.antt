-- What is written of a log is what its audit says.
use Rattle.command_line.proofs.Common.{false≢true, append_assoc, Appends, Keeps, Crossing, Fate, Life, Finding, Verdict, AuditFault, Host, is_host}
use Rattle.book_log.proofs.lemmas.{log_some, ran_some}
use Rattle.std.proofs.Common.{◌≡◌, ◌≢◌, ℕ, Bool, true, false, List, [], ◌++◌, Option, Some, None, IfSome, Result, Ok, Err, MatchResult, OnOk, ap, codes, refl, sym, ◌∙◌, subst}
use Rattle.book_log.specs.Log.{IsLog, fates_of, lives_of, Book}
use Rattle.command_line.specs.Audits.{AuditsLog, IsAuditFault, IsBookFault, IsSomeLog, Judged, SaysOf, Audited, IsLogReadFault, Layout, closes_text, life_at, lines_of, lines_text, sent_text, toward_text, verdict_text}
use Rattle.std.specs.Fmt.{decimal}
use Rattle.std.specs.Prelude.{[]}
use Rattle.command_line.specs.declared.verdict.Lines.{Lines}
use Rattle.command_line.specs.declared.auditing.AuditFault.TheVariants as fault

pub audits : (octets : List ℕ) (hosts : List Host) (b : Book) (said : Verdict) (before after : Option (List ℕ))
    → IsLog octets hosts b → SaysOf said hosts b → Appends before after (verdict_text hosts b said)
    → AuditsLog octets said before after
audits octets hosts b said before after log says written =
    record { strangers = hosts; book = b; log = log; says = says; written = written }

pub audited : (octets : List ℕ) (said : Verdict) (before after : Option (List ℕ)) → AuditsLog octets said before after → Audited said before after
audited octets said before after h = record { octets = octets; audits = h }

pub known_audited : (known : Option (List ℕ)) (octets : List ℕ) (said : Verdict) (before after : Option (List ℕ)) → IfSome known (λ k. octets ≡ k) → AuditsLog octets said before after → IfSome known (λ k. AuditsLog k said before after)
known_audited None octets said before after same h = tt
known_audited (Some k) octets said before after same h = subst (λ (o : List ℕ). AuditsLog o said before after) same h

pub some_log : (known : Option (List ℕ)) (octets : List ℕ) (hosts : List Host) (b : Book)
    → IfSome known (λ k. octets ≡ k) → IsLog octets hosts b → IfSome known IsSomeLog
some_log None octets hosts b same log = tt
some_log (Some k) octets hosts b same log = subst IsSomeLog same (hosts, b, log)

-- what is judged is what was read
pub says_of : (hosts named : List Host) (b : Book) (v : Verdict) (crossings : List Crossing) (lives : List Life)
    (handed : List (List Bool)) (fates : List Fate) → named ≡ hosts → crossings ≡ b.crossings
    → lives ≡ lives_of b → handed ≡ b.handed → fates ≡ fates_of b
    → Judged v (λ h. is_host named h) crossings lives handed fates → SaysOf v hosts b
says_of hosts named b v crossings lives handed fates o p q r s j =
    let strange : Host → Bool = λ h. is_host named h in
    subst (λ (hs : List Host). SaysOf v hs b) o
    (subst (λ (cs : List Crossing). Judged v strange cs (lives_of b) b.handed (fates_of b)) p
    (subst (λ (xs : List Life). Judged v strange crossings xs b.handed (fates_of b)) q
    (subst (λ (hs : List (List Bool)). Judged v strange crossings lives hs (fates_of b)) r (subst (λ (fs : List Fate). Judged v strange crossings lives handed fs) s j))))

pub whether_ok : {T E Q : Type 0} (r : Result T E) → Q → OnOk r Q
whether_ok (Ok x) q = q
whether_ok (Err e) q = tt

-- what is written stays where it is handed on
pub stays : (a b c : Option (List ℕ)) (text : List ℕ) → Appends a b text → Keeps b c → Appends a c text
stays None b c text h k = tt
stays (Some x) None c text h k = absurd h
stays (Some x) (Some y) None text h k = absurd k
stays (Some x) (Some y) (Some z) text h k = k ∙ h

-- and what is written in two parts is written
pub joins : (a b c : Option (List ℕ)) (text more : List ℕ) → Appends a b text → Appends b c more → Appends a c (text ++ more)
joins None b c text more h k = tt
joins (Some x) None c text more h k = absurd h
joins (Some x) (Some y) None text more h k = absurd k
joins (Some x) (Some y) (Some z) text more h k = k ∙ ap (λ (w : List ℕ). w ++ more) h ∙ append_assoc x text more

-- what is written of closes, by the lines that are found
pub closes_told : {T E : Type 0} (r : Result T E) (layout : Layout) (o : Option Finding) (found : Finding) (l : Lines)
    (before after : Option (List ℕ)) → o ≡ Some found → l ≡ lines_of layout layout.among found
    → OnOk r (Appends before after (codes "broken closes " ++ (lines_text l ++ codes "\n")))
    → OnOk r (Appends before after (closes_text layout o))
closes_told r layout o found l before after e f h =
    subst (λ (q : Option Finding). OnOk r (Appends before after (closes_text layout q))) (sym e)
    (subst (λ (k : Lines). OnOk r (Appends before after (codes "broken closes " ++ (lines_text k ++ codes "\n")))) f h)

-- of what was sent
pub sent_told : {T E : Type 0} (r : Result T E) (layout : Layout) (o : Option Finding) (found : Finding) (l : Lines)
    (before after : Option (List ℕ)) → o ≡ Some found → l ≡ lines_of layout layout.among found
    → OnOk r (Appends before after (codes "broken sent " ++ (lines_text l ++ codes "\n")))
    → OnOk r (Appends before after (sent_text layout o))
sent_told r layout o found l before after e f h =
    subst (λ (q : Option Finding). OnOk r (Appends before after (sent_text layout q))) (sym e)
    (subst (λ (k : Lines). OnOk r (Appends before after (codes "broken sent " ++ (lines_text k ++ codes "\n")))) f h)

-- and of a life toward a stranger, by its line
pub toward_told : {T E : Type 0} (r : Result T E) (layout : Layout) (o : Option ℕ) (place line : ℕ)
    (before after : Option (List ℕ)) → o ≡ Some place → line ≡ life_at layout [] place
    → OnOk r (Appends before after (codes "broken toward line " ++ (decimal line ++ codes "\n")))
    → OnOk r (Appends before after (toward_text layout o))
toward_told r layout o place line before after e f h =
    subst (λ (q : Option ℕ). OnOk r (Appends before after (toward_text layout q))) (sym e)
    (subst (λ (k : ℕ). OnOk r (Appends before after (codes "broken toward line " ++ (decimal k ++ codes "\n")))) f h)

-- ---- faults

unread_known : (k : List ℕ) (f : AuditFault) (failed : Bool) → IsLogReadFault f → (f ≡ fault.OutOfMemory → k ≢ [])
    → (f ≡ fault.CannotRead → failed ≡ true) → failed ≡ false → IsAuditFault k f
unread_known k fault.OutOfMemory failed read some told whole = some refl
unread_known k fault.CannotRead failed read some told whole = absurd (false≢true (sym whole ∙ told refl))
unread_known k (fault.BadLog number) failed read some told whole = absurd read
unread_known k fault.CannotWrite failed read some told whole = absurd read

pub unread : (known : Option (List ℕ)) (r : Result Verdict AuditFault) (f : AuditFault) (failed : Bool) → r ≡ Err f → IsLogReadFault f
    → (f ≡ fault.OutOfMemory → IfSome known (λ k. k ≢ [])) → (f ≡ fault.CannotRead → failed ≡ true) → failed ≡ false
    → IfSome known (λ k. MatchResult r (λ said. IsSomeLog k) (IsAuditFault k))
unread None r f failed is read some told whole = tt
unread (Some k) r f failed is read some told whole = subst (λ (q : Result Verdict AuditFault). MatchResult q (λ said. IsSomeLog k) (IsAuditFault k)) (sym is) (unread_known k f failed read some told whole)

unlogged_known : (k : List ℕ) (f : AuditFault) → IsBookFault k f → IsAuditFault k f
unlogged_known k (fault.BadLog number) bad = bad
unlogged_known k fault.OutOfMemory bad = ran_some k bad
unlogged_known k fault.CannotRead bad = absurd bad
unlogged_known k fault.CannotWrite bad = absurd bad

pub unlogged : (known : Option (List ℕ)) (octets : List ℕ) (r : Result Verdict AuditFault) (f : AuditFault) → IfSome known (λ k. octets ≡ k) → r ≡ Err f → IsBookFault octets f
    → IfSome known (λ k. MatchResult r (λ said. IsSomeLog k) (IsAuditFault k))
unlogged None octets r f same is bad = tt
unlogged (Some k) octets r f same is bad =
    subst (λ (q : Result Verdict AuditFault). MatchResult q (λ said. IsSomeLog k) (IsAuditFault k)) (sym is) (unlogged_known k f (subst (λ (o : List ℕ). IsBookFault o f) same bad))

-- memory ran out once the octets were a log
pub unjudged : (known : Option (List ℕ)) (octets : List ℕ) (hosts : List Host) (b : Book)
    (r : Result Verdict AuditFault) → IfSome known (λ k. octets ≡ k) → r ≡ Err fault.OutOfMemory → IsLog octets hosts b
    → IfSome known (λ k. MatchResult r (λ said. IsSomeLog k) (IsAuditFault k))
unjudged None octets hosts b r same is log = tt
unjudged (Some k) octets hosts b r same is log =
    subst (λ (q : Result Verdict AuditFault). MatchResult q (λ said. IsSomeLog k) (IsAuditFault k)) (sym is)
    (subst (λ (o : List ℕ). o ≢ []) same (log_some octets hosts b log))

-- a failed write is reported of a log
pub unwritten : (known : Option (List ℕ)) (octets : List ℕ) (hosts : List Host) (b : Book)
    (r : Result Verdict AuditFault) → IfSome known (λ k. octets ≡ k) → r ≡ Err fault.CannotWrite → IsLog octets hosts b
    → IfSome known (λ k. MatchResult r (λ said. IsSomeLog k) (IsAuditFault k))
unwritten None octets hosts b r same is log = tt
unwritten (Some k) octets hosts b r same is log =
    subst (λ (q : Result Verdict AuditFault). MatchResult q (λ said. IsSomeLog k) (IsAuditFault k)) (sym is)
    (subst IsSomeLog same (hosts, b, log))
