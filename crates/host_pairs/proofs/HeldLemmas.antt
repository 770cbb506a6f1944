-- Where the ends are that have a mark, as some of them change.
use Rattle.std.proofs.Common.{◌≡◌, ℕ, ◌<◌, ◌≤◌, ◌+◌, ◌-◌, ◌++◌, Bool, true, false, not, ◌&&◌, ◌==◌, if◌then◌else◌, List, [], ◌∷◌, length, take, drop, filter, map, Some, None, slice_set, slice_index_or, zero, suc, refl, sym, ap, ◌∙◌, arith}
use Rattle.std.specs.List.{list_any, remove, position, position_from}
use Rattle.std.proofs.lemmas.List.{drop-drop, length-append, length-take, length-drop, length-set, take-append-le, take_all, get_or_default}
use Rattle.std.proofs.lemmas.List.Folds.{list_any-append}
use Rattle.std.proofs.lemmas.Bool.{eqb-true, not_from_false, or_parts}
use Rattle.std.proofs.lemmas.Iterator.Adapters.{position_from-zero}
use Rattle.std.proofs.Common.{Result, Ok, Err, OnOk, OnErr}
use Rattle.host_pairs.specs.Entries.{called_off, changed_first, close_due, closed_when, is_over, is_sent, must_close}
use Rattle.host_pairs.specs.declared.entry.Closing.{Closing}
use Rattle.host_pairs.specs.declared.entry.Closing.TheVariants as closing
use Rattle.host_pairs.specs.Inside.Index.{AreKept, end_key}
use Rattle.host_pairs.specs.declared.index.Places.{Places}
use Rattle.host_pairs.specs.Inside.Held.{waits, has_bits, none_but, is_where, AreHeld}
use Rattle.host_pairs.specs.declared.entry.Entry.{Entry}
use Rattle.host_pairs.specs.declared.held.Few.{Few}
use Rattle.host_pairs.specs.declared.held.Few.TheVariants as few
use Rattle.host_pairs.proofs.EntryLemmas.{one_changed}
use Rattle.host_pairs.proofs.IndexLemmas.{KeepsKey, kept_changed, kept_mapped, kept_set}
use Rattle.host_pairs.proofs.OpeningLemmas.{both, not_is}
use Rattle.host_pairs.proofs.ParcelLemmas.{no_turn}
use Rattle.host_pairs.specs.Parcels.{bits_gone, may_send}
use Rattle.interface.proofs.lemmas.{not_false}

-- ---- a change that gives no end the mark

-- an end without the mark has none after the change
abbrev pub Keeps : (Entry → Bool) → (Entry → Entry) → Type 0
Keeps mark change = (e : Entry) → mark e ≡ false → mark (change e) ≡ false

none_by : (mark test : Entry → Bool) (change : Entry → Entry) (e : Entry) (es : List Entry) → Keeps mark change
    → (list_any mark es ≡ false → list_any mark (changed_first test change es) ≡ false) → (b : Bool) → test e ≡ b
    → list_any mark (e ∷ es) ≡ false → list_any mark (changed_first test change (e ∷ es)) ≡ false
none_by mark test change e es keeps rest true t h =
    let two : (mark e ≡ false) × (list_any mark es ≡ false) = or_parts _ _ h in
    rw (t, keeps e two.0) two.1
none_by mark test change e es keeps rest false t h =
    let two : (mark e ≡ false) × (list_any mark es ≡ false) = or_parts _ _ h in
    rw (t, two.0) (rest two.1)

none_kept : (mark test : Entry → Bool) (change : Entry → Entry) (es : List Entry) → Keeps mark change
    → list_any mark es ≡ false → list_any mark (changed_first test change es) ≡ false
none_kept mark test change [] keeps h = h
none_kept mark test change (e ∷ es) keeps h = none_by mark test change e es keeps (none_kept mark test change es keeps) (test e) refl h

but_first : (mark test : Entry → Bool) (change : Entry → Entry) (e : Entry) (es : List Entry) → Keeps mark change → (b : Bool) → test e ≡ b
    → none_but mark zero (e ∷ es) ≡ true → none_but mark zero (changed_first test change (e ∷ es)) ≡ true
but_first mark test change e es keeps true t h = rw t h
but_first mark test change e es keeps false t h = rw t (not_from_false _ (none_kept mark test change es keeps (not_is _ h)))

but_later : (mark test : Entry → Bool) (change : Entry → Entry) (at : ℕ) (e : Entry) (es : List Entry) → Keeps mark change
    → (none_but mark at es ≡ true → none_but mark at (changed_first test change es) ≡ true) → (b : Bool) → test e ≡ b
    → none_but mark (suc at) (e ∷ es) ≡ true → none_but mark (suc at) (changed_first test change (e ∷ es)) ≡ true
but_later mark test change at e es keeps rest true t h =
    let without : mark e ≡ false = not_is _ (both _ _ h).0 in
    rw (t, keeps e without) ((both _ _ h).1)
but_later mark test change at e es keeps rest false t h =
    let without : mark e ≡ false = not_is _ (both _ _ h).0 in
    rw (t, without) (rest (both _ _ h).1)

but_kept : (mark test : Entry → Bool) (change : Entry → Entry) (at : ℕ) (es : List Entry) → Keeps mark change
    → none_but mark at es ≡ true → none_but mark at (changed_first test change es) ≡ true
but_kept mark test change at [] keeps h = refl
but_kept mark test change zero (e ∷ es) keeps h = but_first mark test change e es keeps (test e) refl h
but_kept mark test change (suc at) (e ∷ es) keeps h = but_later mark test change at e es keeps (but_kept mark test change at es keeps) (test e) refl h

-- what is remembered stays true
pub where_kept : (mark test : Entry → Bool) (change : Entry → Entry) (few : Few) (es : List Entry) → Keeps mark change
    → is_where mark few es ≡ true → is_where mark few (changed_first test change es) ≡ true
where_kept mark test change few.Nowhere es keeps h = not_from_false _ (none_kept mark test change es keeps (not_is _ h))
where_kept mark test change (few.At at) es keeps h = but_kept mark test change at es keeps h
where_kept mark test change few.Anywhere es keeps h = refl

-- ---- a change of one end, whatever it is

pub one_set : (mark : Entry → Bool) (at : ℕ) (y : Entry) (es : List Entry) → list_any mark es ≡ false → none_but mark at (slice_set es at y) ≡ true
one_set mark at y [] h = refl
one_set mark zero y (e ∷ es) h = not_from_false _ (or_parts _ _ h).1
one_set mark (suc at) y (e ∷ es) h =
    let without : mark e ≡ false = (or_parts _ _ h).0 in
    rw without (one_set mark at y es (or_parts _ _ h).1)

pub same_set : (mark : Entry → Bool) (at : ℕ) (y : Entry) (es : List Entry) → none_but mark at es ≡ true → none_but mark at (slice_set es at y) ≡ true
same_set mark at y [] h = refl
same_set mark zero y (e ∷ es) h = h
same_set mark (suc at) y (e ∷ es) h =
    let without : mark e ≡ false = not_is _ (both _ _ h).0 in
    rw without (same_set mark at y es (both _ _ h).1)

-- ---- the ends that may have the mark

-- what has the first mark has the second
abbrev pub Within : (Entry → Bool) → (Entry → Bool) → Type 0
Within one mark = (e : Entry) → mark e ≡ false → one e ≡ false

pub none_pass : (one mark : Entry → Bool) (es : List Entry) → Within one mark → list_any mark es ≡ false → filter one es ≡ []
none_pass one mark [] within h = refl
none_pass one mark (e ∷ es) within h = rw (within e (or_parts _ _ h).0) (none_pass one mark es within (or_parts _ _ h).1)

first_passes : (one : Entry → Bool) (e : Entry) (es : List Entry) → filter one es ≡ [] → filter one (e ∷ es) ≡ filter one (e ∷ [])
first_passes one e es h = rw h refl

-- the one at the place, if there is one
abbrev pub part_at : ℕ → List Entry → List Entry
part_at at es = take 1 (drop at es)

take_one : (e : Entry) (es : List Entry) → take 1 (e ∷ es) ≡ e ∷ []
take_one e es = refl

pub only_passes : (one mark : Entry → Bool) (at : ℕ) (es : List Entry) → Within one mark → none_but mark at es ≡ true → filter one (part_at at es) ≡ filter one es
only_passes one mark zero [] within h = refl
only_passes one mark (suc at) [] within h = refl
only_passes one mark zero (e ∷ es) within h = sym (first_passes one e es (none_pass one mark es within (not_is _ h)))
only_passes one mark (suc at) (e ∷ es) within h = rw (within e (not_is _ (both _ _ h).0)) (only_passes one mark at es within (both _ _ h).1)

-- ---- those after the ones that have gone

set_none : (at : ℕ) (y : Entry) → slice_set [] at y ≡ []
set_none zero y = refl
set_none (suc at) y = refl

index_none : (at : ℕ) (d : Entry) → slice_index_or [] at d ≡ d
index_none zero d = refl
index_none (suc at) d = refl

pub set_behind : (gone at : ℕ) (y : Entry) (ends : List Entry) → drop gone (slice_set ends (gone + at) y) ≡ slice_set (drop gone ends) at y
set_behind zero at y ends = ap (λ (n : ℕ). slice_set ends n y) (omega arith)
set_behind (suc gone) at y [] = ap (λ (es : List Entry). drop (suc gone) es) (set_none (suc gone + at) y) ∙ sym (set_none at y)
set_behind (suc gone) at y (e ∷ es) =
    let more : suc gone + at ≡ suc (gone + at) = omega arith in
    rw more (set_behind gone at y es)

pub index_behind : (gone at : ℕ) (d : Entry) (ends : List Entry) → slice_index_or (drop gone ends) at d ≡ slice_index_or ends (gone + at) d
index_behind zero at d ends = ap (λ (n : ℕ). slice_index_or ends n d) (omega arith)
index_behind (suc gone) at d [] = index_none at d ∙ sym (index_none (suc gone + at) d)
index_behind (suc gone) at d (e ∷ es) =
    let more : suc gone + at ≡ suc (gone + at) = omega arith in
    rw more (index_behind gone at d es)

-- the end at a place that was found is changed there
pub changed_behind : (test : Entry → Bool) (change : Entry → Entry) (gone at : ℕ) (d y : Entry) (live ends : List Entry) → drop gone ends ≡ live → position test live ≡ Some at
    → y ≡ change (slice_index_or ends (gone + at) d) → drop gone (slice_set ends (gone + at) y) ≡ changed_first test change live
changed_behind test change gone at d y live ends view is changed =
    set_behind gone at y ends ∙ ap (λ (es : List Entry). slice_set es at y) view
    ∙ one_changed test at change d y live is (changed ∙ ap change (sym (index_behind gone at d ends) ∙ ap (λ (es : List Entry). slice_index_or es at d) view))

pub within_set : (gone at : ℕ) (y : Entry) (ends : List Entry) → gone ≤ length ends → gone ≤ length (slice_set ends at y)
within_set gone at y ends h = omega (arith, h, length-set ends at y)

-- where the ends with a mark are, after one has changed
pub one_held : (mark : Entry → Bool) (few : Few) (gone at : ℕ) (y : Entry) (ends : List Entry)
    → is_where mark few (slice_set (drop gone ends) at y) ≡ true → is_where mark few (drop gone (slice_set ends (gone + at) y)) ≡ true
one_held mark few gone at y ends h = rw (set_behind gone at y ends) h

pub kept_held : (mark : Entry → Bool) (few : Few) (test : Entry → Bool) (change : Entry → Entry) (gone at : ℕ) (d y : Entry) (live ends : List Entry)
    → drop gone ends ≡ live → position test live ≡ Some at → y ≡ change (slice_index_or ends (gone + at) d) → Keeps mark change
    → is_where mark few (drop gone ends) ≡ true → is_where mark few (drop gone (slice_set ends (gone + at) y)) ≡ true
kept_held mark few test change gone at d y live ends view is changed keeps h =
    rw (changed_behind test change gone at d y live ends view is changed) (where_kept mark test change few live keeps (rw (← view) h))

pub index_held : (index : Places) (test : Entry → Bool) (change : Entry → Entry) (gone at : ℕ) (d y : Entry) (live ends : List Entry)
    → drop gone ends ≡ live → position test live ≡ Some at → y ≡ change (slice_index_or ends (gone + at) d) → KeepsKey change
    → AreKept index (drop gone ends) → AreKept index (drop gone (slice_set ends (gone + at) y))
index_held index test change gone at d y live ends view is changed keeps h =
    rw (changed_behind test change gone at d y live ends view is changed) (kept_changed index test change live keeps (rw (← view) h))

-- a change of the end at a place that was found gives no end a mark
pub record KeepsAll (change : Entry → Entry) : Type 0 where
  pub sockets : KeepsKey change
  pub closing : Keeps waits change
  pub ending : Keeps is_over change
  pub sending : Keeps has_bits change

pub all_held : (test : Entry → Bool) (change : Entry → Entry) (gone at : ℕ) (index : Places) (due over bits : Few) (d y : Entry) (live ends : List Entry) → KeepsAll change
    → drop gone ends ≡ live → position test live ≡ Some at → y ≡ change (slice_index_or ends (gone + at) d)
    → AreHeld gone index due over bits ends → AreHeld gone index due over bits (slice_set ends (gone + at) y)
all_held test change gone at index due over bits d y live ends keeps view is changed held = record {
  indexed = index_held index test change gone at d y live ends view is changed keeps.sockets held.indexed;
  within = within_set gone (gone + at) y ends held.within;
  closing = kept_held waits due test change gone at d y live ends view is changed keeps.closing held.closing;
  ending = kept_held is_over over test change gone at d y live ends view is changed keeps.ending held.ending;
  sending = kept_held has_bits bits test change gone at d y live ends view is changed keeps.sending held.sending;
}

-- ---- an end that joins the others

pub none_more : (mark : Entry → Bool) (es : List Entry) (e : Entry) → mark e ≡ false → not (list_any mark es) ≡ true → not (list_any mark (es ++ e ∷ [])) ≡ true
none_more mark es e without h = rw (list_any-append mark es (e ∷ []), not_is _ h, without) refl

pub one_more : (mark : Entry → Bool) (es : List Entry) (e : Entry) (at : ℕ) → length es ≡ at → not (list_any mark es) ≡ true → none_but mark at (es ++ e ∷ []) ≡ true
one_more mark [] e zero is h = refl
one_more mark [] e (suc at) is h = absurd (cc)
one_more mark (f ∷ es) e zero is h = absurd (omega (arith, is))
one_more mark (f ∷ es) e (suc at) is h =
    let two : (mark f ≡ false) × (list_any mark es ≡ false) = or_parts _ _ (not_is _ h) in
    let first : mark f ≡ false = two.0 in
    rw first (one_more mark es e at (omega (arith, is)) (not_from_false _ two.1))

pub same_more : (mark : Entry → Bool) (at : ℕ) (es : List Entry) (e : Entry) → mark e ≡ false → none_but mark at es ≡ true → none_but mark at (es ++ e ∷ []) ≡ true
same_more mark zero [] e without h = refl
same_more mark (suc at) [] e without h = rw without refl
same_more mark zero (f ∷ es) e without h = none_more mark es e without h
same_more mark (suc at) (f ∷ es) e without h =
    let first : mark f ≡ false = not_is _ (both _ _ h).0 in
    rw first (same_more mark at es e without (both _ _ h).1)

-- ---- an end that goes

pub none_removed : (mark : Entry → Bool) (at : ℕ) (es : List Entry) → not (list_any mark es) ≡ true → not (list_any mark (remove es at)) ≡ true
none_removed mark zero [] h = h
none_removed mark (suc at) [] h = h
none_removed mark zero (e ∷ es) h = not_from_false _ (or_parts _ _ (not_is _ h)).1
none_removed mark (suc at) (e ∷ es) h =
    let two : (mark e ≡ false) × (list_any mark es ≡ false) = or_parts _ _ (not_is _ h) in
    let first : mark e ≡ false = two.0 in
    rw first (none_removed mark at es (not_from_false _ two.1))

pub same_removed : (mark : Entry → Bool) (at : ℕ) (es : List Entry) → none_but mark at es ≡ true → not (list_any mark (remove es at)) ≡ true
same_removed mark zero [] h = refl
same_removed mark (suc at) [] h = refl
same_removed mark zero (e ∷ es) h = h
same_removed mark (suc at) (e ∷ es) h =
    let first : mark e ≡ false = not_is _ (both _ _ h).0 in
    rw first (same_removed mark at es (both _ _ h).1)

pub earlier_removed : (mark : Entry → Bool) (other at : ℕ) (es : List Entry) → other < at → none_but mark other es ≡ true → none_but mark other (remove es at) ≡ true
earlier_removed mark other zero es lt h = absurd (omega (arith, lt))
earlier_removed mark other (suc at) [] lt h = refl
earlier_removed mark zero (suc at) (e ∷ es) lt h = none_removed mark at es h
earlier_removed mark (suc other) (suc at) (e ∷ es) lt h =
    let first : mark e ≡ false = not_is _ (both _ _ h).0 in
    rw first (earlier_removed mark other at es (omega (arith, lt)) (both _ _ h).1)

later_by : (mark : Entry → Bool) (other at : ℕ) (es : List Entry) → at ≤ other → none_but mark (suc other) es ≡ true → none_but mark other (remove es at) ≡ true
later_by mark other zero [] le h = refl
later_by mark other (suc at) [] le h = refl
later_by mark other zero (e ∷ es) le h = (both _ _ h).1
later_by mark zero (suc at) (e ∷ es) le h = absurd (omega (arith, le))
later_by mark (suc other) (suc at) (e ∷ es) le h =
    let first : mark e ≡ false = not_is _ (both _ _ h).0 in
    rw first (later_by mark other at es (omega (arith, le)) (both _ _ h).1)

pub later_removed : (mark : Entry → Bool) (other at : ℕ) (es : List Entry) → at < other → none_but mark other es ≡ true → none_but mark (other - 1) (remove es at) ≡ true
later_removed mark zero at es lt h = absurd (omega (arith, lt))
later_removed mark (suc other) at es lt h =
    let less : suc other - 1 ≡ other = omega arith in
    rw less (later_by mark other at es (omega (arith, lt)) h)

left_by : (mark stays : Entry → Bool) (e : Entry) (es : List Entry) → mark e ≡ false → list_any mark (filter stays es) ≡ false → (b : Bool) → stays e ≡ b → list_any mark (filter stays (e ∷ es)) ≡ false
left_by mark stays e es without rest true is = rw (is, without) rest
left_by mark stays e es without rest false is = rw is rest

none_left_of : (mark stays : Entry → Bool) (es : List Entry) → list_any mark es ≡ false → list_any mark (filter stays es) ≡ false
none_left_of mark stays [] h = refl
none_left_of mark stays (e ∷ es) h = left_by mark stays e es (or_parts _ _ h).0 (none_left_of mark stays es (or_parts _ _ h).1) (stays e) refl

pub none_left : (mark stays : Entry → Bool) (es : List Entry) → not (list_any mark es) ≡ true → not (list_any mark (filter stays es)) ≡ true
none_left mark stays es h = not_from_false _ (none_left_of mark stays es (not_is _ h))

-- ---- the end of this host's own that its user closes isn't over by that

over_by : (c : Closing) (b : Bool) → (is_sent c && b) ≡ false → (is_sent (close_due c) && b) ≡ false
over_by closing.No b h = refl
over_by closing.Due b h = refl
over_by closing.Queued b h = h
over_by closing.Sent b h = h

pub called_off_kept : Keeps is_over called_off
called_off_kept e h = over_by e.closing e.partner_closed h

-- ---- among few ends

pub none_has : (one mark : Entry → Bool) (es : List Entry) → Within one mark → not (list_any mark es) ≡ true → list_any one es ≡ false
none_has one mark [] within h = refl
none_has one mark (e ∷ es) within h =
    let two : (mark e ≡ false) × (list_any mark es ≡ false) = or_parts _ _ (not_is _ h) in
    let first : one e ≡ false = within e two.0 in
    rw first (none_has one mark es within (not_from_false _ two.1))

first_has : (one : Entry → Bool) (e : Entry) (es : List Entry) → list_any one es ≡ false → list_any one (e ∷ es) ≡ list_any one (e ∷ [])
first_has one e es h = rw h refl

only_has : (one mark : Entry → Bool) (at : ℕ) (es : List Entry) → Within one mark → none_but mark at es ≡ true → list_any one (part_at at es) ≡ list_any one es
only_has one mark zero [] within h = refl
only_has one mark (suc at) [] within h = refl
only_has one mark zero (e ∷ es) within h = sym (first_has one e es (none_has one mark es within h))
only_has one mark (suc at) (e ∷ es) within h =
    let first : one e ≡ false = within e (not_is _ (both _ _ h).0) in
    rw first (only_has one mark at es within (both _ _ h).1)

pub has_among : (one mark : Entry → Bool) (at n : ℕ) (es : List Entry) → Within one mark → n ≡ 1 → none_but mark at es ≡ true → list_any one (take n (drop at es)) ≡ list_any one es
has_among one mark at n es within is h = rw is (only_has one mark at es within h)

pub passes_among : (one mark : Entry → Bool) (at n : ℕ) (es : List Entry) → Within one mark → n ≡ 1 → none_but mark at es ≡ true → filter one (take n (drop at es)) ≡ filter one es
passes_among one mark at n es within is h = rw is (only_passes one mark at es within h)

-- ---- closing

pub map_none : (mark : Entry → Bool) (change : Entry → Entry) (es : List Entry) → Keeps mark change → not (list_any mark es) ≡ true → not (list_any mark (map change es)) ≡ true
map_none mark change [] keeps h = refl
map_none mark change (e ∷ es) keeps h =
    let two : (mark e ≡ false) × (list_any mark es ≡ false) = or_parts _ _ (not_is _ h) in
    let first : mark (change e) ≡ false = keeps e two.0 in
    rw first (map_none mark change es keeps (not_from_false _ two.1))

map_but : (mark : Entry → Bool) (change : Entry → Entry) (at : ℕ) (es : List Entry) → Keeps mark change → none_but mark at es ≡ true → none_but mark at (map change es) ≡ true
map_but mark change at [] keeps h = refl
map_but mark change zero (e ∷ es) keeps h = map_none mark change es keeps h
map_but mark change (suc at) (e ∷ es) keeps h =
    let first : mark (change e) ≡ false = keeps e (not_is _ (both _ _ h).0) in
    rw first (map_but mark change at es keeps (both _ _ h).1)

pub map_kept : (mark : Entry → Bool) (change : Entry → Entry) (few : Few) (es : List Entry) → Keeps mark change → is_where mark few es ≡ true → is_where mark few (map change es) ≡ true
map_kept mark change few.Nowhere es keeps h = map_none mark change es keeps h
map_kept mark change (few.At at) es keeps h = map_but mark change at es keeps h
map_kept mark change few.Anywhere es keeps h = refl

-- no end has it where the one at the place hasn't
pub none_there : (mark : Entry → Bool) (at : ℕ) (d : Entry) (es : List Entry) → none_but mark at es ≡ true → mark (slice_index_or es at d) ≡ false → not (list_any mark es) ≡ true
none_there mark zero d [] h without = refl
none_there mark (suc at) d [] h without = refl
none_there mark zero d (e ∷ es) h without = rw without h
none_there mark (suc at) d (e ∷ es) h without =
    let first : mark e ≡ false = not_is _ (both _ _ h).0 in
    rw first (none_there mark at d es (both _ _ h).1 without)

pub none_set : (mark : Entry → Bool) (at : ℕ) (y : Entry) (es : List Entry) → none_but mark at es ≡ true → mark y ≡ false → not (list_any mark (slice_set es at y)) ≡ true
none_set mark zero y [] h without = refl
none_set mark (suc at) y [] h without = refl
none_set mark zero y (e ∷ es) h without = rw without h
none_set mark (suc at) y (e ∷ es) h without =
    let first : mark e ≡ false = not_is _ (both _ _ h).0 in
    rw first (none_set mark at y es (both _ _ h).1 without)

-- an end as the closing leaves it
abbrev pub closed_by : List ℕ → Entry → Entry
closed_by busy e = closed_when (must_close busy e) e

pub stays_open : (busy : List ℕ) (e : Entry) → must_close busy e ≡ false → closed_by busy e ≡ e
stays_open busy e h = rw h refl

pub closes : (busy : List ℕ) (e : Entry) → must_close busy e ≡ true → closed_by busy e ≡ record e { closing = closing.Queued }
closes busy e h = rw h refl

never_waits : (busy : List ℕ) (e : Entry) → waits e ≡ false → must_close busy e ≡ false
never_waits busy e h = rw h refl

pub closed_none : (busy : List ℕ) (es : List Entry) → not (list_any waits es) ≡ true → map (closed_by busy) es ≡ es
closed_none busy [] h = refl
closed_none busy (e ∷ es) h =
    let two : (waits e ≡ false) × (list_any waits es ≡ false) = or_parts _ _ (not_is _ h) in
    let first : closed_by busy e ≡ e = stays_open busy e (never_waits busy e two.0) in
    ap (λ (x : Entry). x ∷ map (closed_by busy) es) first ∙ ap (λ (xs : List Entry). e ∷ xs) (closed_none busy es (not_from_false _ two.1))

-- only the one at the place closes
pub closed_at : (busy : List ℕ) (at : ℕ) (d : Entry) (es : List Entry) → none_but waits at es ≡ true → at < length es
    → slice_set es at (closed_by busy (slice_index_or es at d)) ≡ map (closed_by busy) es
closed_at busy at d [] h lt = absurd (omega (arith, lt))
closed_at busy zero d (e ∷ es) h lt = ap (λ (xs : List Entry). closed_by busy e ∷ xs) (sym (closed_none busy es h))
closed_at busy (suc at) d (e ∷ es) h lt =
    let first : closed_by busy e ≡ e = stays_open busy e (never_waits busy e (not_is _ (both _ _ h).0)) in
    ap (λ (x : Entry). x ∷ slice_set es at (closed_by busy (slice_index_or es at d))) (sym first)
    ∙ ap (λ (xs : List Entry). closed_by busy e ∷ xs) (closed_at busy at d es (both _ _ h).1 (omega (arith, lt)))

closing_over : (now b : Bool) (c : Closing) → (is_sent c && b) ≡ false → (is_sent (if now then closing.Queued else c) && b) ≡ false
closing_over true b c h = refl
closing_over false b c h = h

pub over_kept : (busy : List ℕ) → Keeps is_over (closed_by busy)
over_kept busy e h = closing_over (must_close busy e) e.partner_closed e.closing h

-- ---- those that are over

keep_by : (e : Entry) (es : List Entry) → is_over e ≡ false → filter (λ e. not (is_over e)) (e ∷ es) ≡ e ∷ filter (λ e. not (is_over e)) es
keep_by e es h = rw h refl

pub swept_none : (es : List Entry) → not (list_any is_over es) ≡ true → filter (λ e. not (is_over e)) es ≡ es
swept_none [] h = refl
swept_none (e ∷ es) h =
    let two : (is_over e ≡ false) × (list_any is_over es ≡ false) = or_parts _ _ (not_is _ h) in
    keep_by e es two.0 ∙ ap (λ (xs : List Entry). e ∷ xs) (swept_none es (not_from_false _ two.1))

pub swept_at : (at : ℕ) (d : Entry) (es : List Entry) → none_but is_over at es ≡ true → at < length es → is_over (slice_index_or es at d) ≡ true → remove es at ≡ filter (λ e. not (is_over e)) es
swept_at at d [] h lt over = absurd (omega (arith, lt))
swept_at zero d (e ∷ es) h lt over = sym (rw over (swept_none es h))
swept_at (suc at) d (e ∷ es) h lt over =
    let first : is_over e ≡ false = not_is _ (both _ _ h).0 in
    ap (λ (xs : List Entry). e ∷ xs) (swept_at at d es (both _ _ h).1 (omega (arith, lt)) over) ∙ sym (keep_by e es first)

-- ---- the one at a place goes

pub removed_behind : (gone at : ℕ) (ends : List Entry) → gone ≤ length ends → drop gone (remove ends (gone + at)) ≡ remove (drop gone ends) at
removed_behind zero at ends h = ap (λ (n : ℕ). remove ends n) (omega arith)
removed_behind (suc gone) at [] h = absurd (omega (arith, h))
removed_behind (suc gone) at (e ∷ es) h =
    let more : suc gone + at ≡ suc (gone + at) = omega arith in
    rw more (removed_behind gone at es (omega (arith, h)))

pub first_behind : (gone : ℕ) (ends : List Entry) → drop (gone + 1) ends ≡ remove (drop gone ends) 0
first_behind gone ends = sym (drop-drop 1 gone ends)

-- ---- what is remembered, changed in part

pub with_due : (gone : ℕ) (index : Places) (due other over bits : Few) (ends : List Entry) → AreHeld gone index due over bits ends → is_where waits other (drop gone ends) ≡ true → AreHeld gone index other over bits ends
with_due gone index due other over bits ends held h = record { within = held.within; indexed = held.indexed; closing = h; ending = held.ending; sending = held.sending }

pub with_over : (gone : ℕ) (index : Places) (due over other bits : Few) (ends : List Entry) → AreHeld gone index due over bits ends → is_where is_over other (drop gone ends) ≡ true → AreHeld gone index due other bits ends
with_over gone index due over other bits ends held h = record { within = held.within; indexed = held.indexed; closing = held.closing; ending = h; sending = held.sending }

-- no end has the mark, since the one that might hasn't
pub none_waiting : (mark : Entry → Bool) (gone at : ℕ) (e : Entry) (live ends : List Entry) → drop gone ends ≡ live → e ≡ slice_index_or ends (gone + at) e → none_but mark at live ≡ true → mark e ≡ false
    → not (list_any mark live) ≡ true
none_waiting mark gone at e live ends view is h without =
    let read : slice_index_or live at e ≡ e = ap (λ (es : List Entry). slice_index_or es at e) (sym view) ∙ index_behind gone at e ends ∙ sym is in
    none_there mark at e live h (ap mark read ∙ without)

-- the one at the place closes
pub closed_view : (busy : List ℕ) (gone at : ℕ) (e y : Entry) (live ends : List Entry) → drop gone ends ≡ live → e ≡ slice_index_or ends (gone + at) e → none_but waits at live ≡ true → at < length live
    → y ≡ closed_by busy e → drop gone (slice_set ends (gone + at) y) ≡ map (closed_by busy) live
closed_view busy gone at e y live ends view is h lt by =
    let read : slice_index_or live at e ≡ e = ap (λ (es : List Entry). slice_index_or es at e) (sym view) ∙ index_behind gone at e ends ∙ sym is in
    set_behind gone at y ends ∙ ap (λ (es : List Entry). slice_set es at y) view
    ∙ ap (λ (x : Entry). slice_set live at x) (by ∙ ap (closed_by busy) (sym read)) ∙ closed_at busy at e live h lt

pub closed_held : (busy : List ℕ) (gone at : ℕ) (index : Places) (due over bits : Few) (e y : Entry) (live ends : List Entry) → AreHeld gone index due over bits ends → drop gone ends ≡ live → e ≡ slice_index_or ends (gone + at) e
    → none_but waits at live ≡ true → at < length live → y ≡ closed_by busy e → waits y ≡ false → AreHeld gone index few.Nowhere over bits (slice_set ends (gone + at) y)
closed_held busy gone at index due over bits e y live ends held view is h lt by without =
    let all : drop gone (slice_set ends (gone + at) y) ≡ map (closed_by busy) live = closed_view busy gone at e y live ends view is h lt by in
    record {
      within = within_set gone (gone + at) y ends held.within;
      indexed = rw all (kept_mapped index (closed_by busy) live (λ e. refl) (rw (← view) held.indexed));
      closing = rw (set_behind gone at y ends, view) (none_set waits at y live h without);
      ending = rw all (map_kept is_over (closed_by busy) over live (over_kept busy) (rw (← view) held.ending));
      sending = rw all (map_kept has_bits (closed_by busy) bits live (λ e h. h) (rw (← view) held.sending));
    }

pub each_held : (busy : List ℕ) (gone : ℕ) (index : Places) (due other over bits : Few) (live ends all : List Entry) → AreHeld gone index due over bits ends → all ≡ map (closed_by busy) (drop gone ends)
    → is_where waits other all ≡ true → AreHeld 0 index other over bits all
each_held busy gone index due other over bits live ends all held is h = record {
  within = omega arith;
  indexed = rw is (kept_mapped index (closed_by busy) (drop gone ends) (λ e. refl) held.indexed);
  closing = h;
  ending = rw is (map_kept is_over (closed_by busy) over (drop gone ends) (over_kept busy) held.ending);
  sending = rw is (map_kept has_bits (closed_by busy) bits (drop gone ends) (λ e h. h) held.sending);
}

pub removed_held : (gone : ℕ) (index : Places) (due over bits : Few) (all live : List Entry) → gone ≤ length all → drop gone all ≡ live → AreKept index live
    → is_where waits due live ≡ true → is_where is_over over live ≡ true → is_where has_bits bits live ≡ true → AreHeld gone index due over bits all
removed_held gone index due over bits all live within is indexed closing ending sending =
    record { within = within; indexed = rw is indexed; closing = rw is closing; ending = rw is ending; sending = rw is sending }

-- the end that is read at a place, among those after the ones that have gone
pub read_behind : (gone at : ℕ) (e : Entry) (ends : List Entry) → e ≡ slice_index_or ends (gone + at) e → e ≡ slice_index_or (drop gone ends) at e
read_behind gone at e ends is = is ∙ sym (index_behind gone at e ends)

pub first_within : (gone at : ℕ) (live ends : List Entry) → drop gone ends ≡ live → at < length live → gone + 1 ≤ length ends
first_within gone at live ends view lt =
    let same : length (drop gone ends) ≡ length live = ap (λ (es : List Entry). length es) view in
    omega (arith, lt, same, length-drop gone ends)

pub rest_within : (gone at : ℕ) (live ends : List Entry) → drop gone ends ≡ live → at < length live → gone ≤ length (remove ends (gone + at))
rest_within gone at live ends view lt =
    let same : length (drop gone ends) ≡ length live = ap (λ (es : List Entry). length es) view in
    omega (arith, lt, same, length-drop gone ends, length-append (take (gone + at) ends) (drop (suc (gone + at)) ends), length-take (gone + at) ends)

-- a slice that was changed whole
pub with_all : (len : ℕ) (changed items : List Entry) → length changed ≡ len → take len (changed ++ items) ≡ changed
with_all len changed items is = take-append-le len changed items (omega (arith, is)) ∙ take_all len changed (omega (arith, is))

-- the same end is read twice
pub same_read : (gone at : ℕ) (e other : Entry) (live ends : List Entry) → drop gone ends ≡ live → at < length live → e ≡ slice_index_or ends (gone + at) e → other ≡ slice_index_or ends (gone + at) other → other ≡ e
same_read gone at e other live ends view lt is other_is =
    let same : length (drop gone ends) ≡ length live = ap (λ (es : List Entry). length es) view in
    other_is ∙ get_or_default ends (gone + at) other e (omega (arith, lt, same, length-drop gone ends)) ∙ sym is

over_left : (e : Entry) (es : List Entry) → not (list_any is_over (filter (λ e. not (is_over e)) es)) ≡ true → (b : Bool) → is_over e ≡ b → not (list_any is_over (filter (λ e. not (is_over e)) (e ∷ es))) ≡ true
over_left e es rest true is = rw is rest
over_left e es rest false is = rw (is, is) rest

-- none is over among those that stay
pub none_over_left : (es : List Entry) → not (list_any is_over (filter (λ e. not (is_over e)) es)) ≡ true
none_over_left [] = refl
none_over_left (e ∷ es) = over_left e es (none_over_left es) (is_over e) refl

pub none_passes : (one mark : Entry → Bool) (es : List Entry) → Within one mark → not (list_any mark es) ≡ true → filter one es ≡ []
none_passes one mark es within h = none_pass one mark es within (not_is _ h)

-- ---- bits that wait on one end more

set_none_where : (mark : Entry → Bool) (at : ℕ) (e y : Entry) (es : List Entry) → slice_index_or es at e ≡ e → (mark e ≡ false → mark y ≡ false) → not (list_any mark es) ≡ true → not (list_any mark (slice_set es at y)) ≡ true
set_none_where mark zero e y [] read keeps h = refl
set_none_where mark (suc at) e y [] read keeps h = refl
set_none_where mark zero e y (f ∷ es) read keeps h =
    let two : (mark f ≡ false) × (list_any mark es ≡ false) = or_parts _ _ (not_is _ h) in
    let first : mark y ≡ false = keeps (ap mark (sym read) ∙ two.0) in
    rw first (not_from_false _ two.1)
set_none_where mark (suc at) e y (f ∷ es) read keeps h =
    let two : (mark f ≡ false) × (list_any mark es ≡ false) = or_parts _ _ (not_is _ h) in
    let first : mark f ≡ false = two.0 in
    rw first (set_none_where mark at e y es read keeps (not_from_false _ two.1))

set_but_where : (mark : Entry → Bool) (other at : ℕ) (e y : Entry) (es : List Entry) → slice_index_or es at e ≡ e → (mark e ≡ false → mark y ≡ false) → none_but mark other es ≡ true → none_but mark other (slice_set es at y) ≡ true
set_but_where mark other zero e y [] read keeps h = refl
set_but_where mark other (suc at) e y [] read keeps h = refl
set_but_where mark zero zero e y (f ∷ es) read keeps h = h
set_but_where mark zero (suc at) e y (f ∷ es) read keeps h = set_none_where mark at e y es read keeps h
set_but_where mark (suc other) zero e y (f ∷ es) read keeps h =
    let first : mark y ≡ false = keeps (ap mark (sym read) ∙ not_is _ (both _ _ h).0) in
    rw first ((both _ _ h).1)
set_but_where mark (suc other) (suc at) e y (f ∷ es) read keeps h =
    let first : mark f ≡ false = not_is _ (both _ _ h).0 in
    rw first (set_but_where mark other at e y es read keeps (both _ _ h).1)

set_where : (mark : Entry → Bool) (at : ℕ) (e y : Entry) (es : List Entry) → slice_index_or es at e ≡ e → (mark e ≡ false → mark y ≡ false) → (few : Few) → is_where mark few es ≡ true → is_where mark few (slice_set es at y) ≡ true
set_where mark at e y es read keeps few.Nowhere h = set_none_where mark at e y es read keeps h
set_where mark at e y es read keeps (few.At other) h = set_but_where mark other at e y es read keeps h
set_where mark at e y es read keeps few.Anywhere h = refl

set_as : (gone at : ℕ) (e y : Entry) (ends : List Entry) → e ≡ slice_index_or ends (gone + at) e → (mark : Entry → Bool) → (mark e ≡ false → mark y ≡ false) → (few : Few) → is_where mark few (drop gone ends) ≡ true
    → is_where mark few (drop gone (slice_set ends (gone + at) y)) ≡ true
set_as gone at e y ends is mark keeps few h =
    let read : slice_index_or (drop gone ends) at e ≡ e = index_behind gone at e ends ∙ sym is in
    rw (set_behind gone at y ends) (set_where mark at e y (drop gone ends) read keeps few h)

same_index : (gone at : ℕ) (index : Places) (e y : Entry) (ends : List Entry) → e ≡ slice_index_or ends (gone + at) e → end_key y ≡ end_key e → AreKept index (drop gone ends)
    → AreKept index (drop gone (slice_set ends (gone + at) y))
same_index gone at index e y ends is same h =
    let read : slice_index_or (drop gone ends) at e ≡ e = index_behind gone at e ends ∙ sym is in
    rw (set_behind gone at y ends) (kept_set index at e y (drop gone ends) read same h)

-- a change of bits only
pub bits_held : (gone at : ℕ) (index : Places) (due over bits other : Few) (e : Entry) (waiting : List Bool) (ends : List Entry) → AreHeld gone index due over bits ends → e ≡ slice_index_or ends (gone + at) e
    → is_where has_bits other (slice_set (drop gone ends) at (record e { bits = waiting })) ≡ true → AreHeld gone index due over other (slice_set ends (gone + at) (record e { bits = waiting }))
bits_held gone at index due over bits other e waiting ends held is h = record {
  within = within_set gone (gone + at) (record e { bits = waiting }) ends held.within;
  indexed = same_index gone at index e (record e { bits = waiting }) ends is refl held.indexed;
  closing = set_as gone at e (record e { bits = waiting }) ends is waits (λ h. h) due held.closing;
  ending = set_as gone at e (record e { bits = waiting }) ends is is_over (λ h. h) over held.ending;
  sending = one_held has_bits other gone at (record e { bits = waiting }) ends h;
}

-- ---- the end at a place, as it is read there

read_at : (gone at : ℕ) (e : Entry) (live ends : List Entry) → drop gone ends ≡ live → e ≡ slice_index_or ends (gone + at) e → slice_index_or live at e ≡ e
read_at gone at e live ends view is = ap (λ (es : List Entry). slice_index_or es at e) (sym view) ∙ index_behind gone at e ends ∙ sym is

closed_same : (busy : List ℕ) (at : ℕ) (d : Entry) (es : List Entry) → none_but waits at es ≡ true → must_close busy (slice_index_or es at d) ≡ false → map (closed_by busy) es ≡ es
closed_same busy zero d [] h stays = refl
closed_same busy (suc at) d [] h stays = refl
closed_same busy zero d (e ∷ es) h stays =
    ap (λ (x : Entry). x ∷ map (closed_by busy) es) (stays_open busy e stays) ∙ ap (λ (xs : List Entry). e ∷ xs) (closed_none busy es h)
closed_same busy (suc at) d (e ∷ es) h stays =
    let first : closed_by busy e ≡ e = stays_open busy e (never_waits busy e (not_is _ (both _ _ h).0)) in
    ap (λ (x : Entry). x ∷ map (closed_by busy) es) first ∙ ap (λ (xs : List Entry). e ∷ xs) (closed_same busy at d es (both _ _ h).1 stays)

pub stays_same : (busy : List ℕ) (gone at : ℕ) (e : Entry) (live ends : List Entry) → drop gone ends ≡ live → e ≡ slice_index_or ends (gone + at) e → none_but waits at live ≡ true → must_close busy e ≡ false
    → live ≡ map (closed_by busy) live
stays_same busy gone at e live ends view is h stays = sym (closed_same busy at e live h (ap (λ (x : Entry). must_close busy x) (read_at gone at e live ends view is) ∙ stays))

pub swept_place : (gone at : ℕ) (e : Entry) (live ends : List Entry) → drop gone ends ≡ live → e ≡ slice_index_or ends (gone + at) e → none_but is_over at live ≡ true → at < length live → is_over e ≡ true
    → remove live at ≡ filter (λ e. not (is_over e)) live
swept_place gone at e live ends view is h lt over = swept_at at e live h lt (ap is_over (read_at gone at e live ends view is) ∙ over)

pub swept_held : (gone : ℕ) (index fewer : Places) (due over bits due' bits' : Few) (ends all : List Entry) → AreHeld gone index due over bits ends → all ≡ filter (λ e. not (is_over e)) (drop gone ends)
    → AreKept fewer (filter (λ e. not (is_over e)) (drop gone ends)) → is_where waits due' (filter (λ e. not (is_over e)) (drop gone ends)) ≡ true → is_where has_bits bits' (filter (λ e. not (is_over e)) (drop gone ends)) ≡ true → AreHeld 0 fewer due' few.Nowhere bits' all
swept_held gone index fewer due over bits due' bits' ends all held is indexed closing sending = record {
  within = omega arith;
  indexed = rw is indexed;
  closing = rw is closing;
  ending = rw is (none_over_left (drop gone ends));
  sending = rw is sending;
}

-- ---- sending

-- an end without bits may not send
pub without_bits : (busy : List ℕ) (e : Entry) → has_bits e ≡ false → may_send busy e ≡ false
without_bits busy e h = no_turn busy e (rw h refl)

bits_kept : (count : ℕ) (bits : List Bool) → not (length bits == 0) ≡ false → not (length (drop count bits) == 0) ≡ false
bits_kept zero bits h = h
bits_kept (suc count) [] h = refl
bits_kept (suc count) (b ∷ bits) h =
    let none : length (b ∷ bits) ≡ 0 = eqb-true (length (b ∷ bits)) 0 (not_false _ h) in
    absurd (omega (arith, none))

sent_kept : (count : ℕ) → Keeps has_bits (bits_gone count)
sent_kept count e h = bits_kept count e.bits h

pub sent_held : (gone at count : ℕ) (index : Places) (due over bits : Few) (e : Entry) (ends : List Entry) → AreHeld gone index due over bits ends → e ≡ slice_index_or ends (gone + at) e
    → AreHeld gone index due over bits (slice_set ends (gone + at) (bits_gone count e))
sent_held gone at count index due over bits e ends held is = record {
  within = within_set gone (gone + at) (bits_gone count e) ends held.within;
  indexed = same_index gone at index e (bits_gone count e) ends is refl held.indexed;
  closing = set_as gone at e (bits_gone count e) ends is waits (λ h. h) due held.closing;
  ending = set_as gone at e (bits_gone count e) ends is is_over (λ h. h) over held.ending;
  sending = set_as gone at e (bits_gone count e) ends is has_bits (sent_kept count e) bits held.sending;
}

same_held : (gone at : ℕ) (index : Places) (due over bits : Few) (e : Entry) (ends : List Entry) → AreHeld gone index due over bits ends → e ≡ slice_index_or ends (gone + at) e → AreHeld gone index due over bits (slice_set ends (gone + at) e)
same_held gone at index due over bits e ends held is = record {
  within = within_set gone (gone + at) e ends held.within;
  indexed = same_index gone at index e e ends is refl held.indexed;
  closing = set_as gone at e e ends is waits (λ h. h) due held.closing;
  ending = set_as gone at e e ends is is_over (λ h. h) over held.ending;
  sending = set_as gone at e e ends is has_bits (λ h. h) bits held.sending;
}

-- whether or not the bits could go
pub sent_or_same : {T E : Type 0} (r : Result T E) (gone at count : ℕ) (index : Places) (due over bits : Few) (e y : Entry) (ends : List Entry) → OnOk r (y ≡ bits_gone count e) → OnErr r (y ≡ e)
    → AreHeld gone index due over bits ends → e ≡ slice_index_or ends (gone + at) e → AreHeld gone index due over bits (slice_set ends (gone + at) y)
sent_or_same (Ok x) gone at count index due over bits e y ends sent same held is = rw sent (sent_held gone at count index due over bits e ends held is)
sent_or_same (Err x) gone at count index due over bits e y ends sent same held is = rw same (same_held gone at index due over bits e ends held is)

pub with_bits : (gone : ℕ) (index : Places) (due over bits other : Few) (ends : List Entry) → AreHeld gone index due over bits ends → is_where has_bits other (drop gone ends) ≡ true → AreHeld gone index due over other ends
with_bits gone index due over bits other ends held h = record { within = held.within; indexed = held.indexed; closing = held.closing; ending = held.ending; sending = h }

-- the view of an end that was changed at its place
pub set_view : (gone at : ℕ) (e y : Entry) (change : Entry → Entry) (live ends : List Entry) (d : Entry) → drop gone ends ≡ live → at < length live → e ≡ slice_index_or ends (gone + at) e → y ≡ change e
    → drop gone (slice_set ends (gone + at) y) ≡ slice_set live at (change (slice_index_or live at d))
set_view gone at e y change live ends d view lt is by =
    let read : slice_index_or live at d ≡ e = get_or_default live at d e lt ∙ read_at gone at e live ends view is in
    set_behind gone at y ends ∙ ap (λ (es : List Entry). slice_set es at y) view ∙ ap (λ (x : Entry). slice_set live at x) (by ∙ ap change (sym read))

-- ---- the first end with a mark, where it is known where that may be

none_from : (mark : Entry → Bool) (i : ℕ) (es : List Entry) → list_any mark es ≡ false → position_from mark i es ≡ None
none_from mark i [] h = refl
none_from mark i (e ∷ es) h =
    let first : mark e ≡ false = (or_parts _ _ h).0 in
    rw first (none_from mark (i + 1) es (or_parts _ _ h).1)

only_from : (mark : Entry → Bool) (i at : ℕ) (d : Entry) (es : List Entry) → none_but mark at es ≡ true → at < length es → mark (slice_index_or es at d) ≡ true → position_from mark i es ≡ Some (i + at)
only_from mark i at d [] h lt is = absurd (omega (arith, lt))
only_from mark i zero d (e ∷ es) h lt is =
    let same : i ≡ i + 0 = omega arith in
    rw is (ap (λ (n : ℕ). Some n) same)
only_from mark i (suc at) d (e ∷ es) h lt is =
    let first : mark e ≡ false = not_is _ (both _ _ h).0 in
    let same : i + 1 + at ≡ i + suc at = omega arith in
    rw first (only_from mark (i + 1) at d es (both _ _ h).1 (omega (arith, lt)) is ∙ ap (λ (n : ℕ). Some n) same)

pub none_placed : (mark : Entry → Bool) (es : List Entry) → not (list_any mark es) ≡ true → None ≡ position mark es
none_placed mark es h = sym (position_from-zero mark es ∙ none_from mark 0 es (not_is _ h))

pub only_placed : (mark : Entry → Bool) (at : ℕ) (d : Entry) (es : List Entry) → none_but mark at es ≡ true → at < length es → mark (slice_index_or es at d) ≡ true → Some at ≡ position mark es
only_placed mark at d es h lt is =
    let same : 0 + at ≡ at = omega arith in
    sym (position_from-zero mark es ∙ only_from mark 0 at d es h lt is ∙ ap (λ (n : ℕ). Some n) same)

pub none_there_placed : (mark : Entry → Bool) (at : ℕ) (d : Entry) (es : List Entry) → none_but mark at es ≡ true → mark (slice_index_or es at d) ≡ false → None ≡ position mark es
none_there_placed mark at d es h without = none_placed mark es (none_there mark at d es h without)
