-- Ends that the program does not have.
use Rattle.simulator.proofs.Common.{Appends, Keeps, text_of, TopologyFields, CarrierKind, Raw, World, Asked, plain_calls, subnet_calls, ScriptFault, detail_of, AllParts, Calls, Host, WorldEvent, Verdict, are_some, plain_of, shown, subnet_inside, subnet_of}
use Rattle.std.proofs.Common.{◌≡◌, inl, inr, ℕ, Bool, true, false, zip, List, [], ◌∷◌, ◌++◌, Option, Some, None, Result, Ok, Err, codes, map, refl, sym, ap, ◌∙◌}
use Rattle.simulator.specs.Program.{EndsTask, Sides, EndsReplay, Closes, LeavesUntouched, audited_as, finished_as}
use Rattle.simulator.specs.Traced.{Traced, TracesIn, TracesOver}
use Rattle.command_line.specs.Replayed.{Ran, ReplaysOver}
use Rattle.std.proofs.lemmas.Bool.{false≢true}
use Rattle.book_log.specs.Log.{log_text, Book, handed_line, life_line, log_lines, logged_line, strangers_text, text_of_lines}
use Rattle.command_line.specs.Logs.{Logged, LogsIn, LogsOver, raw_book, world_book}
use Rattle.command_line.specs.declared.auditing.AuditFault.{AuditFault}
use Rattle.topology.specs.declared.network.CarrierKind.TheVariants as kind
use Rattle.trace.specs.Traces.{plain_inside}
use Rattle.simulator.specs.WorkedSides.{Never, drained, no_options, only_check, out_of_memory, unread, wrote}
use Rattle.command_line.specs.declared.auditing.AuditFault.TheVariants as log
use Rattle.command_line.specs.declared.fault.ScriptFault.TheVariants as script
use Rattle.command_line.specs.declared.options.Task.TheVariants as task
use Rattle.simulator.specs.declared.program.Done.TheVariants as did
use Rattle.simulator.specs.declared.program.ProgramFault.TheVariants as fault

-- ---- which end it was

finished_memory : (ended : Result (Unit {0}) ScriptFault) → out_of_memory ≡ finished_as ended →
    ended ≡ Err script.OutOfMemory
finished_memory (Ok done) is = cc
finished_memory (Err f) is = cc

audited_memory : (ended : Result Verdict AuditFault) → Err (fault.Audit log.OutOfMemory) ≡ audited_as ended →
    ended ≡ Err log.OutOfMemory
audited_memory (Ok said) is = cc
audited_memory (Err f) is = cc

cons : (x : ℕ) (xs : List ℕ) → x ∷ xs ≡ [] → ⊥
cons x xs e = cc

-- what was kept of nothing is nothing
pub kept_nothing : (written : Option (List ℕ)) (x : ℕ) → Keeps (Some []) written → Keeps written (Some (x ∷ [])) → ⊥
kept_nothing None x h k = h
kept_nothing (Some ys) x h k = cons x [] (k ∙ h)

pub log_memory : (x : ℕ) → Never task.Log (wrote (x ∷ [])) out_of_memory
log_memory x o (ended, is, ends) = cons x [] (ends.nothing (finished_memory ended is))

pub audit_memory : (x : ℕ) → Never task.Audit (wrote (x ∷ [])) (Err (fault.Audit log.OutOfMemory))
audit_memory x o (ended, is, ends) = cons x [] (ends.nothing (audited_memory ended is))

pub check_memory : (x : ℕ) → EndsTask None (Some only_check) (wrote (x ∷ [])) out_of_memory → ⊥
check_memory x (ended, written, inl (is, kept), ends) =
    kept_nothing written x (ends.nothing refl (finished_memory ended is)) kept
check_memory x (ended, written, inr (is, other), ends) =
    let bad : out_of_memory ≡ Err (fault.Script script.CannotWrite) = other in cc

-- ---- what was written

ok_kept : (written : Option (List ℕ)) →
    EndsReplay only_check (record (wrote (codes "end\n")) { after = written }) (Ok tt) →
    Keeps written (Some (codes "end\n")) → ⊥
ok_kept None ends kept = ends.replayed
ok_kept (Some ys) ends kept = let bad : codes "end\n" ≡ codes "ok\n" = kept ∙ ends.replayed in cc

pub not_ok : EndsTask None (Some only_check) (wrote (codes "end\n")) (Ok did.Written) → ⊥
not_ok (Ok done, written, inl (is, kept), ends) = ok_kept written ends kept
not_ok (Err f, written, inl (is, kept), ends) = cc
not_ok (ended, written, inr (is, other), ends) = cc

-- lines are some octets
some_lines : (line : List ℕ) (lines : List (List ℕ)) → text_of_lines (line ∷ lines) ≡ [] → ⊥
some_lines [] lines e = cc
some_lines (x ∷ line) lines e = cc

none_lines : (lines : List (List ℕ)) → text_of_lines lines ≡ [] → lines ≡ []
none_lines [] e = refl
none_lines (line ∷ lines) e = absurd (some_lines line lines e)

no_end : (a b c : List (List ℕ)) (last : List ℕ) → a ++ (b ++ (c ++ last ∷ [])) ≡ [] → ⊥
no_end [] [] [] last e = cc
no_end [] [] (z ∷ c) last e = cc
no_end [] (y ∷ b) c last e = cc
no_end (x ∷ a) b c last e = cc

-- a log has its last line
some_log : (b : Book) → [] ≡ log_text b → ⊥
some_log b e = no_end (map logged_line b.crossings) (map life_line b.lives) (map handed_line b.handed) (codes "end") (none_lines (log_lines b) (sym e))

-- nor is it nothing after the lines of strangers
no_rest : (front rest : List ℕ) → [] ≡ front ++ rest → [] ≡ rest
no_rest [] rest e = e
no_rest (x ∷ front) rest e = cc

nothing_in : {C : Type 0} (among : Bool) (calls : Calls C) (strangers : List Host) (opening : C) (events : List WorldEvent) →
    LogsIn among calls strangers opening events (Some []) (Some []) → ⊥
nothing_in true calls strangers opening events h =
    let b : Book = world_book h.last.kept in
    some_log b (no_rest (strangers_text strangers) (log_text b) h.written)
nothing_in false calls strangers opening events h = some_log (world_book h.last.kept) h.written

nothing_logged : (carrier : CarrierKind) (t : TopologyFields) (events : Asked) →
    LogsOver carrier t events (Some []) (Some []) → ⊥
nothing_logged kind.Plain t (Raw events) h = some_log (raw_book (plain_calls.seen h.last).log) h.written
nothing_logged kind.Plain t (World events) h = nothing_in (are_some t.strangers) plain_calls t.strangers (plain_of t) events h
nothing_logged kind.Subnet t (Raw events) h = some_log (raw_book (subnet_calls.seen h.last).log) h.written
nothing_logged kind.Subnet t (World events) h = nothing_in (are_some t.strangers) subnet_calls t.strangers (subnet_of t) events h

none_logged : Logged (Some []) (Some []) → ⊥
none_logged h = nothing_logged h.network.carrier h.network h.events h.logged

pub no_log : Never task.Log (wrote []) (Ok did.Written)
no_log o (Ok done, is, ends) = none_logged ends.ran
no_log o (Err f, is, ends) = cc

-- and a trace its first one
nothing_written : (shown : List (List ℕ)) (first : List ℕ) (others : List (List ℕ)) (written : Option (List ℕ)) →
    shown ≡ first ∷ others → Appends (Some []) written (text_of (λ line. line) shown) → Keeps written (Some []) → ⊥
nothing_written shown first others None is h k = h
nothing_written shown first others (Some ys) is h k =
    some_lines first others (ap (λ (lines : List (List ℕ)). text_of_lines lines) (sym is) ∙ sym h ∙ sym k)

nothing_traced_in : {C : Type 0} (among : Bool) (calls : Calls C) (members : C → AllParts) (t : TopologyFields) (opening : C)
    (events : List (ℕ × WorldEvent)) (written : Option (List ℕ)) → TracesIn among calls members t opening events (Some []) written
    → Keeps written (Some []) → ⊥
nothing_traced_in true calls members t opening events written h k =
    nothing_written h.traced.shown _ h.traced.is_shown.0 written h.traced.is_shown.1 h.traced.written k
nothing_traced_in false calls members t opening events written h k =
    nothing_written h.traced.shown _ h.traced.is_shown.0 written h.traced.is_shown.1 h.traced.written k

nothing_traced : (carrier : CarrierKind) (t : TopologyFields) (numbers : List ℕ) (events : Asked)
    (written : Option (List ℕ)) → TracesOver carrier t numbers events (Some []) written → Keeps written (Some []) → ⊥
nothing_traced kind.Plain t numbers (Raw events) written h k =
    nothing_written h.traced.shown _ h.traced.is_shown.0 written h.traced.is_shown.1 h.traced.written k
nothing_traced kind.Plain t numbers (World events) written h k =
    nothing_traced_in (are_some t.strangers) (shown plain_calls) plain_inside.members t (plain_of t) (zip numbers events) written h k
nothing_traced kind.Subnet t numbers (Raw events) written h k =
    nothing_written h.traced.shown _ h.traced.is_shown.0 written h.traced.is_shown.1 h.traced.written k
nothing_traced kind.Subnet t numbers (World events) written h k =
    nothing_traced_in (are_some t.strangers) (shown subnet_calls) subnet_inside.members t (subnet_of t) (zip numbers events) written h k

none_traced : (written : Option (List ℕ)) → Traced (Some []) written → Keeps written (Some []) → ⊥
none_traced written h kept = nothing_traced h.network.carrier h.network h.lines h.events written h.traced kept

pub no_trace : Never task.Trace (wrote []) (Ok did.Written)
no_trace o (Ok done, written, inl (is, kept), ends) = none_traced written ends.ran kept
no_trace o (Err f, written, inl (is, kept), ends) = cc
no_trace o (ended, written, inr (is, other), ends) = cc

pub left : (v : Verdict) (x : ℕ) → Never task.Audit (unread (x ∷ [])) (Ok (did.Audited v))
left v x o (Ok said, is, ends) = cons x [] (ends.reads_all (λ e. cc) (λ e. cc))
left v x o (Err f, is, ends) = cc

pub no_help : Never task.Help (wrote []) (Ok did.Written)
no_help o h = let bad : [] ≡ Rattle.command_line.specs.declared.about.TheConstants.HELP.now = h.written in cc

pub not_refused : (s : Sides) → EndsTask None None s (Ok did.Written) → ⊥
not_refused s (inl bad) = cc
not_refused s (inr bad) = cc

-- ---- what is handed on

pub held_back : Closes out_of_memory false false false ⊥ → ⊥
held_back h = elim (h.handed_on refl) [
  | inl flushed ↦ false≢true flushed
  | inr none ↦ none
]

pub left_written : (line : ℕ) → LeavesUntouched (Err (fault.Script (script.BadLine line))) ⊥ → ⊥
left_written line h = h (λ e. cc)

-- ---- failures

pub unread_read : Closes (Ok did.Written) true false true ⊥ → ⊥
unread_read h = elim (h.cannot_read.1 refl) [
  | inl bad ↦ absurd (cc)
  | inr bad ↦ absurd (cc)
]

pub unwritten : Closes (Ok did.Written) false true true ⊥ → ⊥
unwritten h = elim (h.cannot_write.1 refl) [
  | inl bad ↦ absurd (cc)
  | inr bad ↦ absurd (cc)
]

pub no_read : Closes (Err (fault.Script script.CannotRead)) false false true (Unit {0}) → ⊥
no_read h = false≢true (h.cannot_read.0 (inl refl))

pub no_write : Closes (Err (fault.Audit log.CannotWrite)) false false true (Unit {0}) → ⊥
no_write h = false≢true (h.cannot_write.0 (inr refl))

pub reads_first : (x : ℕ) → Never task.Help (drained x) (Err (fault.Script script.CannotWrite))
reads_first x o h = let bad : Some [] ≡ Some (x ∷ []) = h.unread in cc

-- an output has its last line
ends_some : (a : List ℕ) → a ++ codes "end\n" ≡ [] → ⊥
ends_some [] e = cc
ends_some (x ∷ a) e = cc

pub nothing_ended : (a : List ℕ) (written : Option (List ℕ)) → Appends (Some []) written (a ++ codes "end\n") →
    Keeps written (Some []) → ⊥
nothing_ended a None h k = h
nothing_ended a (Some ys) h k = ends_some a (sym h ∙ sym k)

nothing_replayed : (carrier : CarrierKind) (t : TopologyFields) (events : Asked) (written : Option (List ℕ)) →
    ReplaysOver carrier t false (detail_of false) events (Some []) written → Keeps written (Some []) → ⊥
nothing_replayed kind.Plain t (Raw events) written h k = nothing_ended _ written h.written k
nothing_replayed kind.Plain t (World events) written h k = nothing_ended _ written h.written k
nothing_replayed kind.Subnet t (Raw events) written h k = nothing_ended _ written h.written k
nothing_replayed kind.Subnet t (World events) written h k = nothing_ended _ written h.written k

nothing_ran : (written : Option (List ℕ)) → Ran false (detail_of false) (Some []) written → Keeps written (Some []) → ⊥
nothing_ran written h k = nothing_replayed h.network.carrier h.network h.events written h.replayed k

pub no_output : EndsTask None (Some no_options) (wrote []) (Ok did.Written) → ⊥
no_output (Ok done, written, inl (is, kept), ends) = nothing_ran written ends.replayed.0 kept
no_output (Err f, written, inl (is, kept), ends) = cc
no_output (ended, written, inr (is, other), ends) = cc

good_options : (s : Sides) (ended : Result (Unit {0}) ScriptFault) →
    Err (fault.Script script.BadOptions) ≡ finished_as ended → EndsReplay no_options s ended → ⊥
good_options s (Ok done) is ends = cc
good_options s (Err f) is ends = ends.options_read (cc)

pub good_words : (s : Sides) → EndsTask None (Some no_options) s (Err (fault.Script script.BadOptions)) → ⊥
good_words s (ended, written, inl (is, kept), ends) = good_options _ ended is ends
good_words s (ended, written, inr (is, other), ends) = cc
