-- Each move keeps the clauses, and shows the hosts what their mailbox allows.
use Rattle.flow_law.proofs.Common.{◌≡◌, Bool, true, false, List, [], ◌∷◌, ◌++◌, None, inl, inr, refl, ap, sym, ◌∙◌, subst, append_assoc, if◌then◌else◌, View, Packet, Queued, mail_now, Invariant, Held, Sound}
use Rattle.interface.specs.Mailboxes.{Box, Mail, Passing, WaitsWith, MailNeeds, mail_after, mail_of, IsFlowRun}
use Rattle.link_table.specs.declared.destination.Fate.TheVariants as fate
use Rattle.flow_law.specs.Moves.{Move, Needs, Makes, Either, CanOffer, CanTakeMessage, NeedsAll, Grown, queued_text, view_moved, after_all, shows, shown_by}
use Rattle.flow_law.proofs.Clauses.{invariant_less}
use Rattle.flow_law.proofs.Begins.{dead_now, begin_sent, begin_local}
use Rattle.flow_law.proofs.Arrivals.{note_gone, whole, freed, given_up, take_message, held_there, take_answer, told}
use Rattle.flow_law.proofs.Stops.{stop_source, start_source, stop_destination, start_destination, stop_from, start_from, stop_to, unasked}
use Rattle.flow_law.proofs.Asking.{asks, reply}

-- a move that makes no packet
none_made : {Piece : List Bool → Packet → Type 0} (v : View) (t made : Packet → Type 0) → ((x : Packet) → made x → ⊥) → Invariant Piece v t → Invariant Piece v (Either t made)
none_made v t made none h = invariant_less v t _ (λ x there. elim there [
  | inl tx ↦ tx
  | inr m ↦ absurd (none x m)
]) h

-- each move keeps the clauses
pub invariant_after : {Piece : List Bool → Packet → Type 0} (m : Move) (v : View) (t : Packet → Type 0) → Needs Piece m v t → Invariant Piece v t → Invariant Piece (view_moved m v) (Either t (Makes Piece m v))
invariant_after Move.Quiet v t needs h = none_made v t _ (λ x none. none) h
invariant_after (Move.DeadNow place text) v t needs h = none_made _ t _ (λ x none. none) (dead_now v t place text needs h)
invariant_after (Move.Begin place text) v t needs h = begin_sent v t place text needs h
invariant_after (Move.BeginLocal place text) v t needs h = none_made _ t _ (λ x none. none) (begin_local v t place text needs h)
invariant_after (Move.NoteGone x new) v t needs h = note_gone v t x new needs.0 needs.1 h
invariant_after (Move.Whole x text) v t needs h = none_made _ t _ (λ x none. none) (whole v t x text needs h)
invariant_after (Move.Freed x kind) v t needs h = none_made _ t _ (λ x none. none) (freed v t x kind needs h)
invariant_after (Move.TakeMessage oldest others) v t needs h = take_message v t oldest others needs h (held_there v t oldest others needs h)
invariant_after (Move.TakeAnswer oldest others) v t needs h = none_made _ t _ (λ x none. none) (take_answer v t oldest others needs h)
invariant_after Move.StopSource v t needs h = none_made _ t _ (λ x none. none) (stop_source v t h)
invariant_after Move.StartSource v t needs h = none_made _ t _ (λ x none. none) (start_source v t needs h)
invariant_after Move.StopDestination v t needs h = stop_destination v t h
invariant_after Move.StartDestination v t needs h = none_made _ t _ (λ x none. none) (start_destination v t h)
invariant_after Move.StopFrom v t needs h = none_made _ t _ (λ x none. none) (stop_from v t h)
invariant_after Move.StartFrom v t needs h = none_made _ t _ (λ x none. none) (start_from v t needs h)
invariant_after Move.StopTo v t needs h = none_made _ t _ (λ x none. none) (stop_to v t h)
invariant_after Move.StartTo v t needs h = none_made _ t _ (λ x none. none) (unasked v t true v.kept v.fate needs h)
invariant_after (Move.GiveUp number) v t needs h = none_made _ t _ (λ x none. none) (given_up v t number needs h)
invariant_after Move.Forget v t needs h = none_made _ t _ (λ x none. none) (unasked v t v.to_up None fate.Waits needs h)
invariant_after (Move.Asks number) v t needs h = asks v t number needs h
invariant_after (Move.Reply x told) v t needs h = reply v t x told needs h

-- ---- what the hosts see

-- one passing, on top of what was seen
one_seen : (p : Passing) (start now : Mail) (seen : List Passing) → mail_of start seen ≡ now → MailNeeds p now → IsFlowRun start seen → IsFlowRun start (p ∷ seen)
one_seen p start now seen at needs run =
    let N : Mail → Type 0 = λ m. MailNeeds p m in
    (subst N (sym at) needs, run)

-- a passing that is there only where a host is up
stopped : (p : Passing) (up : Bool) (start now : Mail) (seen : List Passing) → mail_of start seen ≡ now → (up ≡ true → MailNeeds p now) → IsFlowRun start seen
    → IsFlowRun start ((if up then p ∷ [] else []) ++ seen)
stopped p true start now seen at needs run = one_seen p start now seen at (needs refl) run
stopped p false start now seen at needs run = run

-- the box is empty when the source may offer
offered_empty : {Piece : List Bool → Packet → Type 0} (v : View) (t : Packet → Type 0) → CanOffer v → Invariant Piece v t → v.box ≡ Box.Empty
offered_empty v t can h = elim (h.settled can.source can.idle) [
  | inl idle ↦ idle.empty
  | inr one ↦ (let answers : v.answers ≡ [] = can.answered in let only : v.answers ≡ one.kind ∷ [] = one.one in absurd (cc))
]

-- the box holds what is taken
taken_holds : {Piece : List Bool → Packet → Type 0} (v : View) (t : Packet → Type 0) (oldest : Queued) (others : List Queued) → CanTakeMessage v oldest others → Invariant Piece v t → WaitsWith v.box oldest.text
taken_holds v t oldest others can h =
    let held : Held v.from_up v.outstanding v.queue v.box = held_there v t oldest others can h in
    let waits : v.queue ≡ oldest ∷ others = can.waits in
    let one : v.queue ≡ queued_text held.number held.text ∷ [] = held.one in
    let same : queued_text held.number held.text ≡ oldest = cc in
    subst (λ (b : Box). WaitsWith b oldest.text) (sym held.waits) (ap (λ (q : Queued). q.text) same)

-- what a move shows is what the mailbox allows
shows_run : {Piece : List Bool → Packet → Type 0} (m : Move) (v : View) (t : Packet → Type 0) → Needs Piece m v t → Invariant Piece v t → (start : Mail) (seen : List Passing)
    → mail_of start seen ≡ mail_now v → IsFlowRun start seen → IsFlowRun start (shows m v ++ seen)
shows_run Move.Quiet v t needs h start seen at run = run
shows_run (Move.DeadNow place text) v t needs h start seen at run = one_seen (Passing.Put place text) start (mail_now v) seen at (needs.source, offered_empty v t needs h) run
shows_run (Move.Begin place text) v t needs h start seen at run = one_seen (Passing.Put place text) start _ seen at (needs.offer.source, offered_empty v t needs.offer h) run
shows_run (Move.BeginLocal place text) v t needs h start seen at run = one_seen (Passing.Put place text) start _ seen at (needs.offer.source, offered_empty v t needs.offer h) run
shows_run (Move.NoteGone x new) v t needs h start seen at run = run
shows_run (Move.Whole x text) v t needs h start seen at run = run
shows_run (Move.Freed x kind) v t needs h start seen at run = run
shows_run (Move.TakeMessage oldest others) v t needs h start seen at run = one_seen (Passing.Fetched oldest.text) start _ seen at (needs.destination, taken_holds v t oldest others needs h) run
shows_run (Move.TakeAnswer oldest others) v t needs h start seen at run = one_seen (Passing.Told oldest) start _ seen at ((told v t oldest others needs h).source, (told v t oldest others needs h).fits) run
shows_run Move.StopSource v t needs h start seen at run = one_seen Passing.SourceDown start _ seen at needs run
shows_run Move.StartSource v t needs h start seen at run = one_seen Passing.SourceUp start _ seen at needs.down run
shows_run Move.StopDestination v t needs h start seen at run = one_seen Passing.DestinationDown start _ seen at needs run
shows_run Move.StartDestination v t needs h start seen at run = one_seen Passing.DestinationUp start _ seen at needs run
shows_run Move.StopFrom v t needs h start seen at run = stopped Passing.SourceDown v.source start _ seen at (λ up. up) run
shows_run Move.StartFrom v t needs h start seen at run = run
shows_run Move.StopTo v t needs h start seen at run = stopped Passing.DestinationDown v.destination start _ seen at (λ up. up) run
shows_run Move.StartTo v t needs h start seen at run = run
shows_run (Move.GiveUp number) v t needs h start seen at run = run
shows_run Move.Forget v t needs h start seen at run = run
shows_run (Move.Asks number) v t needs h start seen at run = run
shows_run (Move.Reply x kind) v t needs h start seen at run = run

-- the mail after what a move shows is the mail of its view
stop_mail : (p : Passing) (up : Bool) (start now later : Mail) (seen : List Passing) → mail_of start seen ≡ now → (up ≡ true → mail_after p now ≡ later) → (up ≡ false → now ≡ later)
    → mail_of start ((if up then p ∷ [] else []) ++ seen) ≡ later
stop_mail p true start now later seen at goes stays = ap (mail_after p) at ∙ goes refl
stop_mail p false start now later seen at goes stays = at ∙ stays refl

shows_mail : (m : Move) (v : View) (start : Mail) (seen : List Passing) → mail_of start seen ≡ mail_now v → mail_of start (shows m v ++ seen) ≡ mail_now (view_moved m v)
shows_mail Move.Quiet v start seen at = at
shows_mail (Move.DeadNow place text) v start seen at = ap (mail_after (Passing.Put place text)) at
shows_mail (Move.Begin place text) v start seen at = ap (mail_after (Passing.Put place text)) at
shows_mail (Move.BeginLocal place text) v start seen at = ap (mail_after (Passing.Put place text)) at
shows_mail (Move.NoteGone x new) v start seen at = at
shows_mail (Move.Whole x text) v start seen at = at
shows_mail (Move.Freed x kind) v start seen at = at
shows_mail (Move.TakeMessage oldest others) v start seen at = ap (mail_after (Passing.Fetched oldest.text)) at
shows_mail (Move.TakeAnswer oldest others) v start seen at = ap (mail_after (Passing.Told oldest)) at
shows_mail Move.StopSource v start seen at = ap (mail_after Passing.SourceDown) at
shows_mail Move.StartSource v start seen at = ap (mail_after Passing.SourceUp) at
shows_mail Move.StopDestination v start seen at = ap (mail_after Passing.DestinationDown) at
shows_mail Move.StartDestination v start seen at = ap (mail_after Passing.DestinationUp) at
shows_mail Move.StopFrom v start seen at = stop_mail Passing.SourceDown v.source start _ _ seen at (λ up. refl)
    (λ down. ap (λ (s : Bool). let m : Mail = record { source = s; destination = v.destination; box = v.box } in m) down)
shows_mail Move.StartFrom v start seen at = at
shows_mail Move.StopTo v start seen at = stop_mail Passing.DestinationDown v.destination start _ _ seen at (λ up. refl)
    (λ down. ap (λ (d : Bool). let m : Mail = record { source = v.source; destination = d; box = v.box } in m) down)
shows_mail Move.StartTo v start seen at = at
shows_mail (Move.GiveUp number) v start seen at = at
shows_mail Move.Forget v start seen at = at
shows_mail (Move.Asks number) v start seen at = at
shows_mail (Move.Reply x kind) v start seen at = at

-- ---- lists of moves

pub sound_less : {Piece : List Bool → Packet → Type 0} (start : Mail) (seen : List Passing) (v : View) (t s : Packet → Type 0) → ((x : Packet) → s x → t x)
    → Sound Piece start seen v t → Sound Piece start seen v s
sound_less start seen v t s less h = record { clauses = invariant_less v t s less h.clauses; run = h.run; mail = h.mail }

pub sound_after : {Piece : List Bool → Packet → Type 0} (m : Move) (start : Mail) (seen : List Passing) (v : View) (t : Packet → Type 0) → Needs Piece m v t
    → Sound Piece start seen v t → Sound Piece start (shows m v ++ seen) (view_moved m v) (Either t (Makes Piece m v))
sound_after m start seen v t needs h = record {
  clauses = invariant_after m v t needs h.clauses;
  run = shows_run m v t needs h.clauses start seen h.mail h.run;
  mail = shows_mail m v start seen h.mail;
}

pub sound_after_all : {Piece : List Bool → Packet → Type 0} (ms : List Move) (start : Mail) (seen : List Passing) (v : View) (t : Packet → Type 0) → NeedsAll Piece ms v t
    → Sound Piece start seen v t → Sound Piece start (shown_by ms v ++ seen) (after_all ms v) (Grown Piece ms v t)
sound_after_all [] start seen v t needs h = h
sound_after_all {Piece} (m ∷ ms) start seen v t needs h =
    let S : List Passing → Type 0 = λ ps. Sound Piece start ps (after_all (m ∷ ms) v) (Grown Piece (m ∷ ms) v t) in
    subst S (sym (append_assoc (shows m _) (shown_by ms v) seen))
    (sound_after m start _ _ _ needs.0 (sound_after_all ms start seen v t needs.1 h))
