-- Events are traced one after the other, and one of them may be the last.
use Rattle.trace.proofs.Common.{◌≡◌, ℕ, suc, ◌<◌, ◌≤◌, ◌+◌, List, [], ◌∷◌, ◌++◌, drop, get_or, length, Option, arith, refl, sym, ap, subst, ◌∙◌, Appends, appends_more, appends_none, last_shown, last_written, one_written, ended_line, TopologyFields, Spot, members_of}
use Rattle.std.proofs.lemmas.List.{append_assoc, append-nil, drop_all, drop_more}
use Rattle.replay.specs.InTurn.{EndsInTurn, Happening, InTurn, text_of}
use Rattle.replay.specs.declared.events.ReplayFault.TheVariants as fault
use Rattle.trace.specs.Texts.{object, opening_line}
use Rattle.script.specs.declared.event.RawEvent.TheVariants as event
use Rattle.trace.specs.Traces.{AfterOpening, Inside, WritesTrace, numbered_from}

-- of these events the first ones happened, their lines are written, and those are left
pub record SoFar {S E : Type 0} (Happens : Happening S E (List ℕ)) (old : S) (all left : List E) (now : S) (before after : Option (List ℕ)) : Type 0 where
  pub done : List E
  pub parts : all ≡ done ++ left
  pub written : WritesTrace (InTurn Happens old done now) before after

pub none_yet : {S E : Type 0} (Happens : Happening S E (List ℕ)) (old : S) (all : List E) (a : Option (List ℕ)) → SoFar Happens old all all old a a
none_yet Happens old all a = record { done = []; parts = refl; written = record { shown = []; is_shown = (refl, refl); written = appends_none a } }

-- one more
pub one_more : {S E : Type 0} (Happens : Happening S E (List ℕ)) (old mid new : S) (all left later : List E) (e : E) (a b c : Option (List ℕ))
    → left ≡ e ∷ later → SoFar Happens old all left mid a b → WritesTrace (Happens mid e new) b c → SoFar Happens old all later new a c
one_more Happens old mid new all left later e a b c is h k = record {
  done = h.done ++ e ∷ [];
  parts = h.parts ∙ ap (λ es. h.done ++ es) is ∙ sym (append_assoc h.done (e ∷ []) later);
  written = one_written Happens (λ line. line) old mid new h.done e a b c h.written k;
}

-- all of them
pub all_told : {S E : Type 0} (Happens : Happening S E (List ℕ)) (old new : S) (all left : List E) (a b : Option (List ℕ))
    → left ≡ [] → SoFar Happens old all left new a b → WritesTrace (InTurn Happens old all new) a b
all_told {S} {E} Happens old new all left a b none h =
    let whole : all ≡ h.done = h.parts ∙ ap (λ es. h.done ++ es) none ∙ append-nil h.done in
    subst (λ (es : List E). WritesTrace (InTurn Happens old es new) a b) (sym whole) h.written

-- one is the last
pub ends_told : {S E : Type 0} (Happens Goes : Happening S E (List ℕ)) (old mid new : S) (all left later : List E) (e : E) (a b c : Option (List ℕ))
    → left ≡ e ∷ later → SoFar Happens old all left mid a b → WritesTrace (Goes mid e new) b c → WritesTrace (EndsInTurn Happens Goes old all new) a c
ends_told Happens Goes old mid new all left later e a b c is h k =
    last_written Happens Goes _ old mid new all h.done e later a b c (h.parts ∙ ap (λ es. h.done ++ es) is) h.written k

pub fails_told : {S E : Type 0} (Happens Goes : Happening S E (List ℕ)) (old mid new : S) (all left later : List E) (e : E) (a b : Option (List ℕ))
    → left ≡ e ∷ later → SoFar Happens old all left mid a b → ((lines : List (List ℕ)) × Goes mid e new lines) → (lines : List (List ℕ)) × EndsInTurn Happens Goes old all new lines
fails_told Happens Goes old mid new all left later e a b is h (lines, k) = (
  h.written.shown ++ lines,
  last_shown Happens Goes old mid new all h.done e later _ lines (h.parts ∙ ap (λ es. h.done ++ es) is) h.written.is_shown k,
)

-- ---- the events of a script

-- where the event at a place is
abbrev pub at_place : {E : Type 0} → ℕ → (ℕ × E) → Spot × E
at_place i e = (record { line = e.0; number = i + 1 }, e.1)

pub numbered_more : {E : Type 0} (events : List (ℕ × E)) (i : ℕ) (e : ℕ × E) → i < length events → e ≡ get_or events i e → numbered_from (i + 1) (drop i events) ≡ at_place i e ∷ numbered_from (i + 1 + 1) (drop (i + 1) events)
numbered_more {E} events i e lt is =
    let more : suc (i + 1) ≡ i + 1 + 1 = omega arith in
    ap (numbered_from (i + 1)) (drop_more events i e lt ∙ ap (λ (x : ℕ × E). x ∷ drop (i + 1) events) (sym is)) ∙ ap (λ (n : ℕ). at_place i e ∷ numbered_from n (drop (i + 1) events)) more

pub numbered_none : {E : Type 0} (events : List (ℕ × E)) (i n : ℕ) → length events ≤ i → numbered_from n (drop i events) ≡ []
numbered_none events i n past = ap (numbered_from n) (drop_all i events past)

-- ---- the first line

pub opened : {C : Type 0} (inside : Inside C) (t : TopologyFields) (opening : C) (AreLines : List (List ℕ) → Type 0) (a b c : Option (List ℕ)) → Appends a b (ended_line (opening_line t (object (members_of (inside.members opening))))) → WritesTrace AreLines b c → WritesTrace (AfterOpening inside t opening AreLines) a c
opened inside t opening AreLines a b c first others = record {
  shown = opening_line t (object (members_of (inside.members opening))) ∷ others.shown;
  is_shown = (others.shown, refl, others.is_shown);
  written = appends_more a b c (ended_line (opening_line t (object (members_of (inside.members opening))))) (text_of (λ line. line) others.shown) first others.written;
}
