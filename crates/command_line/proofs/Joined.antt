-- What `--log` writes without strangers, `--audit` reads and calls kept.
use Rattle.command_line.proofs.Common.{reverse-reverse, Host, is_host, IsRun, SafeMessages, Crossing, Says, AreFated, ClosesWhole, IsBeside, Fate, Life, Calls, IsSomeRun, RawEvent, Verdict, WorldEvent, world_book, AuditFault, AreMade, beside_among, lives_among, SafeBook, EachIsWithin, EachWasSent, made_twice, made_with}
use Rattle.std.proofs.Common.{◌≡◌, ℕ, Bool, true, List, [], ◌∷◌, Option, Some, Err, inl, inr, map, refl, sym, subst, ap, ◌∙◌, reverse}
use Rattle.book_log.specs.Log.{fates_of, lives_of, Book, logged_fate}
use Rattle.book_log.proofs.lemmas.{lives_back, alone, book_once, fates_back, strangers_once}
use Rattle.book_judge.specs.Fates.{AreSuited, Outlasts, IsSuited, suits}
use Rattle.command_line.specs.Audits.{AuditsLog, IsAuditFault, Judged, SaysOf, kept, IsKeptLog, SaysKept}
use Rattle.command_line.specs.Logs.{LogsRaw, LogsWorld, raw_book}
use Rattle.headline.proofs.lemmas.{kept_promise}
use Rattle.net_sim.specs.declared.auditing.said.Audit.{Audit}
use Rattle.net_sim.specs.declared.auditing.said.Audit.TheVariants as audit
use Rattle.net_sim.specs.Book.{Kept}
use Rattle.promise.specs.Ends.{Asking, Closed, Dropped, Going, Over, Stage, Stopped, stage}
use Rattle.promise.specs.declared.life.Fate.TheVariants as fate
use Rattle.command_line.specs.declared.auditing.AuditFault.TheVariants as fault
use Rattle.command_line.proofs.Verdicts.Among.{all_beside, all_lives, none_toward}
use Rattle.command_line.proofs.Verdicts.Named.{kept_from_safe, only_kept}
use Rattle.command_line.proofs.Printed.{none_there, safe_alone}

-- ---- the log is kept

-- a log that is turned round twice
turned : (said : Audit) (log : List Crossing) (lives : List Life) (handed : List (List Bool))
    → Says said log lives handed → Says said (reverse (reverse log)) lives handed
turned said log lives handed = subst (λ (cs : List Crossing). Says said cs lives handed) (sym (reverse-reverse log))

pub run_twice : (hosts : List Host) (log : List Crossing) → IsRun hosts log → IsSomeRun (reverse (reverse log))
run_twice hosts log run = (hosts, subst (IsRun hosts) (sym (reverse-reverse log)) run)

kept_alone : (log : List Crossing) → SafeMessages log → Says audit.Kept log [] []
kept_alone log messages =
    (record { counts = refl; stamped = λ x there. absurd (none_there x there) }, safe_alone log messages)

-- where there is no life nothing is lost
none_closes : (log : List Crossing) → ClosesWhole log [] [] []
none_closes log =
    record { took_sent = λ x y beside c m. absurd beside; took_handed = λ x y text beside there m. absurd beside }

ended_logged : (f : Fate) → logged_fate f ≡ fate.Ended → f ≡ fate.Ended
ended_logged fate.Open e = absurd (cc)
ended_logged fate.Closing e = absurd (cc)
ended_logged fate.Closed e = absurd (cc)
ended_logged fate.Ended e = refl
ended_logged fate.Reset e = absurd (cc)
ended_logged fate.Stopped e = absurd (cc)

beside_logged : (x : Life) (lives : List Life) (fates : List Fate)
    → IsBeside x fate.Ended lives (map logged_fate fates) → IsBeside x fate.Ended lives fates
beside_logged x [] fates h = absurd h
beside_logged x (y ∷ lives) [] h = absurd h
beside_logged x (y ∷ lives) (f ∷ fates) h = elim h [
  | inl e ↦ inl (e.0, sym (ended_logged f (sym e.1)))
  | inr r ↦ inr (beside_logged x lives fates r)
]

-- what is logged of fates loses nothing where they don't
pub closes_logged : (log : List Crossing) (lives : List Life) (handed : List (List Bool)) (fates : List Fate)
    → ClosesWhole log lives handed fates → ClosesWhole log lives handed (map logged_fate fates)
closes_logged log lives handed fates w = record {
  took_sent = λ x y beside c m. w.took_sent x y (beside_logged x lives fates beside) c m;
  took_handed = λ x y text beside there m. w.took_handed x y text (beside_logged x lives fates beside) there m;
}

-- a fate that is logged suits where it does
suits_logged : (s : Stage) (f : Fate) → suits s f ≡ true → suits s (logged_fate f) ≡ true
suits_logged s fate.Open e = e
suits_logged (Asking own partner) fate.Closing e = refl
suits_logged (Going own partner) fate.Closing e = refl
suits_logged (Over Dropped place) fate.Closing e = e
suits_logged (Over Stopped place) fate.Closing e = e
suits_logged (Over (Closed first) place) fate.Closing e = e
suits_logged s fate.Closed e = e
suits_logged s fate.Ended e = e
suits_logged s fate.Reset e = e
suits_logged s fate.Stopped e = e

logged_beside : (x : Life) (f : Fate) (lives : List Life) (fates : List Fate)
    → IsBeside x f lives (map logged_fate fates) → (g : Fate) × IsBeside x g lives fates × (f ≡ logged_fate g)
logged_beside x f [] fates h = absurd h
logged_beside x f (y ∷ lives) [] h = absurd h
logged_beside x f (y ∷ lives) (g ∷ fates) h = elim h [
  | inl e ↦ (g, inl (e.0, refl), e.1)
  | inr r ↦ (let b = logged_beside x f lives fates r in (b.0, inr b.1, b.2))
]

reset_logged : (f : Fate) → fate.Reset ≡ logged_fate f → f ≡ fate.Reset
reset_logged fate.Open e = absurd (cc)
reset_logged fate.Closing e = absurd (cc)
reset_logged fate.Closed e = absurd (cc)
reset_logged fate.Ended e = absurd (cc)
reset_logged fate.Reset e = refl
reset_logged fate.Stopped e = absurd (cc)

pub suited_logged : (log : List Crossing) (lives : List Life) (fates : List Fate) → AreSuited log lives fates
    → AreSuited log lives (map logged_fate fates)
suited_logged log lives fates all = record { each = each; contact = contact } where
  each : (x : Life) (f : Fate) → IsBeside x f lives (map logged_fate fates) → IsSuited log x f
  each x f h =
      let b = logged_beside x f lives fates h in
      let s = all.each x b.0 b.1 in
      record {
        begins = s.begins;
        fate =
            subst (λ (g : Fate). suits (stage [] x log) g ≡ true) (sym b.2)
            (suits_logged (stage [] x log) b.0 s.fate);
      }

  contact : (x y : Life) (f : Fate) → IsBeside x fate.Reset lives (map logged_fate fates)
      → IsBeside y f lives (map logged_fate fates) → Outlasts log x y → f ≡ fate.Reset
  contact x y f h i both =
      let b = logged_beside x fate.Reset lives fates h in
      let c = logged_beside y f lives fates i in
      c.2 ∙ ap logged_fate
      (all.contact x y c.0 (subst (λ (g : Fate). IsBeside x g lives fates) (reset_logged b.0 b.2) b.1) c.1 both)

-- the lives and fates of the log of a world are those of its book
pub says_logged : (k : Kept) → AreFated k.book.lives k.fates
    → (hosts : List Host)
    → Judged kept (λ h. is_host hosts h) (reverse k.book.crossings) k.book.lives k.handed (map logged_fate k.fates)
    → SaysOf kept hosts (world_book k)
says_logged k are hosts j =
    let strange : Host → Bool = λ h. is_host hosts h in
    subst (λ (xs : List Life). Judged kept strange (reverse k.book.crossings) xs k.handed (fates_of (world_book k)))
    (sym (lives_back k.book.lives k.fates are))
    (subst (λ (fs : List Fate). Judged kept strange (reverse k.book.crossings) k.book.lives k.handed fs) (sym (fates_back k.book.lives k.fates are)) j)

-- without strangers all that there is is judged
kept_alone_from : (log : List Crossing) (lives : List Life) (handed : List (List Bool)) (fates : List Fate)
    → IsSomeRun (reverse log) → AreMade (reverse log) lives → Says audit.Kept (reverse log) lives handed
    → EachIsWithin (reverse log) lives → EachWasSent (reverse log) lives → ClosesWhole (reverse log) lives handed fates → AreSuited (reverse log) lives fates
    → Judged kept (λ h. is_host [] h) log lives handed fates
kept_alone_from log lives handed fates run made safe within sent closes suited =
    let xs : lives ≡ lives_among (λ h. is_host [] h) lives = sym (all_lives lives) in
    let hs : handed ≡ beside_among (λ h. is_host [] h) lives handed = sym (all_beside lives handed) in
    let fs : fates ≡ beside_among (λ h. is_host [] h) lives fates = sym (all_beside lives fates) in
    kept_from_safe (λ h. is_host [] h) log lives handed fates run
    (subst (λ (ys : List Life). AreMade (reverse log) ys) xs made) safe.0
    (subst (λ (ys : List Life). SafeBook (reverse log) ys (beside_among (λ h. is_host [] h) lives handed)) xs
    (subst (λ (ys : List (List Bool)). SafeBook (reverse log) lives ys) hs safe.1))
    (subst (λ (ys : List Life). EachIsWithin (reverse log) ys) xs within)
    (subst (λ (ys : List Life). EachWasSent (reverse log) ys) xs sent)
    (subst (λ (ys : List Life). ClosesWhole (reverse log) ys (beside_among (λ h. is_host [] h) lives handed) (beside_among (λ h. is_host [] h) lives fates)) xs
    (subst (λ (ys : List (List Bool)). ClosesWhole (reverse log) lives ys (beside_among (λ h. is_host [] h) lives fates)) hs
    (subst (λ (ys : List Fate). ClosesWhole (reverse log) lives handed ys) fs closes)))
    (subst (λ (ys : List Life). AreSuited (reverse log) ys (beside_among (λ h. is_host [] h) lives fates)) xs
    (subst (λ (ys : List Fate). AreSuited (reverse log) lives ys) fs suited))
    (none_toward lives handed)

pub raw_kept : {C : Type 0} (calls : Calls C) (opening : C) (events : List RawEvent) (octets : List ℕ)
    → LogsRaw calls opening events (Some []) (Some octets) → IsKeptLog octets
raw_kept calls opening events octets h = record {
  strangers = [];
  book = raw_book (calls.seen h.last).log;
  log = (alone octets (raw_book (calls.seen h.last).log)).1 (h.written, h.valid);
  says =
      kept_alone_from (reverse (calls.seen h.last).log) [] [] []
      (run_twice (calls.seen h.last).hosts (calls.seen h.last).log h.run) (λ x there. absurd (none_there x there))
      (turned audit.Kept (calls.seen h.last).log [] [] (kept_alone (calls.seen h.last).log h.messages))
      (λ x link there sending named. absurd (none_there x there))
      (λ x p m there comes crossed c. absurd (none_there x there))
      (none_closes (reverse (reverse (calls.seen h.last).log)))
      (record { each = λ x f beside. absurd beside; contact = λ x y f beside other both. absurd beside });
}

pub world_kept : {C : Type 0} (calls : Calls C) (opening : C) (events : List WorldEvent) (octets : List ℕ)
    → LogsWorld calls opening events (Some []) (Some octets) → IsKeptLog octets
world_kept calls opening events octets h = record {
  strangers = [];
  book = world_book h.last.kept;
  log = (alone octets (world_book h.last.kept)).1 (h.written, h.valid);
  says =
      says_logged h.last.kept h.promise.book.fated []
      (kept_alone_from (reverse h.last.kept.book.crossings) h.last.kept.book.lives h.last.kept.handed (map logged_fate h.last.kept.fates)
      (run_twice (calls.seen h.last.carrier).hosts h.last.kept.book.crossings h.promise.book.run)
      (made_twice h.last.kept.book.crossings h.last.kept.book.lives
      (made_with h.last.kept.book.contacts h.last.kept.book.crossings h.last.kept.book.lives h.promise.book.contacts h.promise.book.formed h.promise.book.within))
      (turned audit.Kept h.last.kept.book.crossings h.last.kept.book.lives h.last.kept.handed (kept_promise (calls.seen h.last.carrier).hosts (calls.seen h.last.carrier).log h.last.stopped h.last.kept h.promise.book))
      (subst (λ (cs : List Crossing). EachIsWithin cs h.last.kept.book.lives) (sym (reverse-reverse h.last.kept.book.crossings)) h.promise.book.granted)
      (subst (λ (cs : List Crossing). EachWasSent cs h.last.kept.book.lives) (sym (reverse-reverse h.last.kept.book.crossings)) h.promise.book.sent)
      (closes_logged (reverse (reverse h.last.kept.book.crossings)) h.last.kept.book.lives h.last.kept.handed h.last.kept.fates
      (subst (λ (cs : List Crossing). ClosesWhole cs h.last.kept.book.lives h.last.kept.handed h.last.kept.fates) (sym (reverse-reverse h.last.kept.book.crossings)) h.promise.book.whole))
      (suited_logged (reverse (reverse h.last.kept.book.crossings)) h.last.kept.book.lives h.last.kept.fates
      (subst (λ (cs : List Crossing). AreSuited cs h.last.kept.book.lives h.last.kept.fates) (sym (reverse-reverse h.last.kept.book.crossings)) h.suited)));
}

-- ---- and so its audit says

pub said_kept : (octets : List ℕ) (v : Verdict) (before after : Option (List ℕ)) → AuditsLog octets v before after
    → IsKeptLog octets → v ≡ kept
said_kept octets v before after a k =
    let same : a.book ≡ k.book = book_once octets a.strangers k.strangers a.book k.book a.log k.log in
    let named : a.strangers ≡ k.strangers = strangers_once octets a.strangers k.strangers a.book k.book a.log k.log in
    only_kept v (λ h. is_host k.strangers h) k.book.crossings (lives_of k.book) k.book.handed (fates_of k.book) k.says
    (subst (λ (b : Book). SaysOf v k.strangers b) same (subst (λ (hosts : List Host). SaysOf v hosts a.book) named a.says))

-- where octets are a log, its lines are not bad
pub never_bad : (octets : List ℕ) (f : AuditFault) → IsAuditFault octets f → IsKeptLog octets → SaysKept octets (Err f)
never_bad octets fault.OutOfMemory h k = tt
never_bad octets fault.CannotWrite h k = tt
never_bad octets (fault.BadLog number) h k = absurd (h.none k.strangers k.book k.log)
never_bad octets fault.CannotRead h k = absurd h
