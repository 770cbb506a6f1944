-- The lines of a book's news.
use Rattle.world_replay.proofs.Common.{Appends, Appends-nil, Appends-trans, Reported, Crossing, text_of, crossing_line, Detail, ended_line, Fronts, Told}
use Rattle.std.proofs.Common.{arith, ◌≡◌, ℕ, ◌+◌, ◌-◌, ◌<◌, ◌≤◌, zero, suc, List, [], ◌∷◌, ◌++◌, take, drop, length, min, Option, refl, ap, sym, subst, ◌∙◌, get_or, max}
use Rattle.std.proofs.lemmas.List.{append-nil, append_assoc, drop_all, drop_more, drop_min, drop-append-le, length-drop, take_min, take_more, take-append-drop, take-append-le}
use Rattle.world_replay.specs.Output.{notices_of, reports_of, shown_text, output, shown_in_turn, shown_notices, told_in_turn, Noticed, Shown, Crossed, Said, Refused, crossings_of, place_of, shown_crossings}
use Rattle.std.proofs.Math.Seq.{drop-append-add, take-append-add}
use Rattle.replay.proofs.lemmas.{text_of-append}
use Rattle.world_replay.specs.Printed.{reported_text, told_text}

pub output-append : (detail : Detail) (xs ys : List Shown) → output detail (xs ++ ys) ≡ output detail xs ++ output detail ys
output-append detail xs ys = text_of-append (shown_text detail) xs ys

pub crossings_text : (detail : Detail) (cs : List Crossing) → output detail (shown_crossings cs) ≡ text_of (crossing_line detail) cs
crossings_text detail [] = refl
crossings_text detail (c ∷ cs) = ap (λ xs. ended_line (crossing_line detail c) ++ xs) (crossings_text detail cs)

-- ---- crossings and news in turn

shown_crossings-append : (xs ys : List Crossing) → shown_crossings (xs ++ ys) ≡ shown_crossings xs ++ shown_crossings ys
shown_crossings-append [] ys = refl
shown_crossings-append (x ∷ xs) ys = ap (λ zs. Crossed x ∷ zs) (shown_crossings-append xs ys)

shown_notices-append : (xs ys : List Told) → shown_notices (xs ++ ys) ≡ shown_notices xs ++ shown_notices ys
shown_notices-append [] ys = refl
shown_notices-append (x ∷ xs) ys = ap (λ zs. Noticed x ∷ zs) (shown_notices-append xs ys)

-- nothing is written yet
pub fronts_none : (detail : Detail) (before : ℕ) (crossings : List Crossing) (a : Option (List ℕ)) → Fronts detail before crossings [] before crossings a a
fronts_none detail before crossings a = record { shown = []; whole = λ more. refl; written = Appends-nil a }

-- some news, and then others
fronts_more : (detail : Detail) (first mid last : ℕ) (crossings left rest : List Crossing) (xs ys : List Shown) (a b c : Option (List ℕ)) → Fronts detail first crossings xs mid left a b → Fronts detail mid left ys last rest b c → Fronts detail first crossings (xs ++ ys) last rest a c
fronts_more detail first mid last crossings left rest xs ys a b c h k = record {
  shown = h.shown ++ k.shown;
  whole = λ more. ap (shown_in_turn first crossings) (append_assoc xs ys more) ∙ h.whole (ys ++ more) ∙ ap (λ zs. h.shown ++ zs) (k.whole more) ∙ sym (append_assoc h.shown k.shown (shown_in_turn last rest more));
  written = subst (Appends a c) (sym (output-append detail h.shown k.shown)) (Appends-trans a b c (output detail h.shown) (output detail k.shown) h.written k.written);
}

-- one piece of news after the crossings that were before it
one_front : (detail : Detail) (before : ℕ) (crossings : List Crossing) (s : Shown) (a b c : Option (List ℕ)) → Appends a b (output detail (shown_crossings (take (place_of s - before) crossings))) → Appends b c (ended_line (shown_text detail s))
    → Fronts detail before crossings (s ∷ []) (max before (place_of s)) (drop (place_of s - before) crossings) a c
one_front detail before crossings s a b c crossed told =
    let front : List Shown = shown_crossings (take (place_of s - before) crossings) in
    let line : output detail (s ∷ []) ≡ ended_line (shown_text detail s) = append-nil (ended_line (shown_text detail s)) in
    record {
      shown = front ++ s ∷ [];
      whole = λ more. sym (append_assoc front (s ∷ []) (shown_in_turn (max before (place_of s)) (drop (place_of s - before) crossings) more));
      written = subst (Appends a c) (sym (output-append detail front (s ∷ []) ∙ ap (λ xs. output detail front ++ xs) line)) (Appends-trans a b c (output detail front) (ended_line (shown_text detail s)) crossed told);
    }

max_zero : (n : ℕ) → max n 0 ≡ n
max_zero n = omega arith

minus_zero : (n : ℕ) → 0 - n ≡ 0
minus_zero n = omega arith

-- a report wants no crossings before it
report_front : (detail : Detail) (before : ℕ) (crossings : List Crossing) (r : Reported) (a b : Option (List ℕ)) → Appends a b (ended_line (reported_text r)) → Fronts detail before crossings (Said r ∷ []) before crossings a b
report_front detail before crossings r a b told =
    let none : shown_crossings (take (0 - before) crossings) ≡ [] = ap (λ n. shown_crossings (take n crossings)) (minus_zero before) in
    let here : Fronts detail before crossings (Said r ∷ []) (max before 0) (drop (0 - before) crossings) a b =
    one_front detail before crossings (Said r) a a b (subst (λ xs. Appends a a (output detail xs)) (sym none) (Appends-nil a)) told in
    subst (λ n. Fronts detail before crossings (Said r ∷ []) n crossings a b) (max_zero before)
    (subst (λ cs. Fronts detail before crossings (Said r ∷ []) (max before 0) cs a b) (ap (λ n. drop n crossings) (minus_zero before)) here)

-- notices up to this one
pub notice_front : (detail : Detail) (first before later : ℕ) (crossings left rest : List Crossing) (notices : List Told) (i : ℕ) (t : Told) (a b c d : Option (List ℕ)) → i < length notices → t ≡ get_or notices i t
    → later ≡ max before t.place → rest ≡ drop (t.place - before) left
    → Fronts detail first crossings (shown_notices (take i notices)) before left a b → Appends b c (output detail (shown_crossings (take (t.place - before) left))) → Appends c d (ended_line (told_text t))
    → Fronts detail first crossings (shown_notices (take (i + 1) notices)) later rest a d
notice_front detail first before later crossings left rest notices i t a b c d lt is latest rests h crossed told =
    let one : Fronts detail before left (Noticed t ∷ []) (max before t.place) (drop (t.place - before) left) b d = one_front detail before left (Noticed t) b c d crossed told in
    let mine : Fronts detail before left (Noticed t ∷ []) later rest b d = subst (λ n. Fronts detail before left (Noticed t ∷ []) n rest b d) (sym latest) (subst (λ cs. Fronts detail before left (Noticed t ∷ []) (max before t.place) cs b d) (sym rests) one) in
    let next : shown_notices (take (i + 1) notices) ≡ shown_notices (take i notices) ++ Noticed t ∷ [] =
    ap shown_notices (take_more notices i t lt ∙ ap (λ (x : Told). take i notices ++ x ∷ []) (sym is)) ∙ shown_notices-append (take i notices) (t ∷ []) in
    subst (λ xs. Fronts detail first crossings xs later rest a d) (sym next) (fronts_more detail first before later crossings left rest (shown_notices (take i notices)) (Noticed t ∷ []) a b d h mine)

-- reports up to this one, with the notices that they count
pub record Reports (detail : Detail) (start : ℕ) (notices : List Told) (reports : List Reported) (first : ℕ) (crossings : List Crossing) (i counted : ℕ) (waiting : List Told) (before : ℕ) (left : List Crossing) (a b : Option (List ℕ)) : Type 0 where
  pub news : List Shown
  pub whole : told_in_turn start notices reports ≡ news ++ told_in_turn counted waiting (drop i reports)
  pub fronts : Fronts detail first crossings news before left a b

pub no_reports : (detail : Detail) (start : ℕ) (notices : List Told) (reports : List Reported) (first : ℕ) (crossings : List Crossing) (a : Option (List ℕ)) → Reports detail start notices reports first crossings 0 start notices first crossings a a
no_reports detail start notices reports first crossings a = record { news = []; whole = refl; fronts = fronts_none detail first crossings a }

pub one_report : (detail : Detail) (start : ℕ) (notices : List Told) (reports : List Reported) (first : ℕ) (crossings : List Crossing) (i counted : ℕ) (waiting front rest : List Told) (r : Reported) (count before later : ℕ) (left less : List Crossing) (a b c d : Option (List ℕ))
    → i < length reports → r ≡ get_or reports i r → count ≡ min (r.notices - counted) (length waiting) → front ≡ take count waiting → rest ≡ drop count waiting
    → Reports detail start notices reports first crossings i counted waiting before left a b → Fronts detail before left (shown_notices front) later less b c → Appends c d (ended_line (reported_text r))
    → Reports detail start notices reports first crossings (i + 1) (max counted r.notices) rest later less a d
one_report detail start notices reports first crossings i counted waiting front rest r count before later left less a b c d lt is cut fronts rests h told said =
    let next : drop i reports ≡ r ∷ drop (i + 1) reports = drop_more reports i r lt ∙ ap (λ (x : Reported). x ∷ drop (i + 1) reports) (sym is) in
    let mine : front ≡ take (r.notices - counted) waiting = fronts ∙ ap (λ n. take n waiting) cut ∙ take_min (r.notices - counted) waiting in
    let others : rest ≡ drop (r.notices - counted) waiting = rests ∙ ap (λ n. drop n waiting) cut ∙ drop_min (r.notices - counted) waiting in
    let own : List Shown = shown_notices front ++ Said r ∷ [] in
    let more : List Shown = told_in_turn (max counted r.notices) rest (drop (i + 1) reports) in
    let now : told_in_turn counted waiting (drop i reports) ≡ own ++ more =
    ap (told_in_turn counted waiting) next
    ∙ ap (λ ts. shown_notices ts ++ Said r ∷ told_in_turn (max counted r.notices) (drop (r.notices - counted) waiting) (drop (i + 1) reports)) (sym mine)
    ∙ ap (λ ts. shown_notices front ++ Said r ∷ told_in_turn (max counted r.notices) ts (drop (i + 1) reports)) (sym others)
    ∙ sym (append_assoc (shown_notices front) (Said r ∷ []) more) in
    record {
      news = h.news ++ own;
      whole = h.whole ∙ ap (λ xs. h.news ++ xs) now ∙ sym (append_assoc h.news own more);
      fronts = fronts_more detail first before later crossings left less h.news own a b d h.fronts
          (fronts_more detail before later later left less less (shown_notices front) (Said r ∷ []) b c d told (report_front detail later less r c d said));
    }

pub all_reports : (detail : Detail) (start : ℕ) (notices : List Told) (reports : List Reported) (first : ℕ) (crossings : List Crossing) (i counted : ℕ) (waiting : List Told) (before later : ℕ) (left less : List Crossing) (a b c : Option (List ℕ)) → length reports ≤ i
    → Reports detail start notices reports first crossings i counted waiting before left a b → Fronts detail before left (shown_notices waiting) later less b c → Fronts detail first crossings (told_in_turn start notices reports) later less a c
all_reports detail start notices reports first crossings i counted waiting before later left less a b c le h told =
    let all : told_in_turn start notices reports ≡ h.news ++ shown_notices waiting = h.whole ∙ ap (λ rs. h.news ++ told_in_turn counted waiting rs) (drop_all i reports le) in
    subst (λ xs. Fronts detail first crossings xs later less a c) (sym all) (fronts_more detail first before later crossings left less h.news (shown_notices waiting) a b c h.fronts told)

-- with the crossings that are left all is written
pub all_fronts : (detail : Detail) (first : ℕ) (crossings : List Crossing) (news : List Shown) (later : ℕ) (left : List Crossing) (a b c : Option (List ℕ)) → Fronts detail first crossings news later left a b → Appends b c (output detail (shown_crossings left))
    → Appends a c (output detail (shown_in_turn first crossings news))
all_fronts detail first crossings news later left a b c h crossed =
    let all : shown_in_turn first crossings news ≡ h.shown ++ shown_crossings left = ap (shown_in_turn first crossings) (sym (append-nil news)) ∙ h.whole [] in
    subst (Appends a c) (sym (ap (output detail) all ∙ output-append detail h.shown (shown_crossings left))) (Appends-trans a b c (output detail h.shown) (output detail (shown_crossings left)) h.written crossed)

-- ---- all crossings are shown, and no others

pub crossings_of-append : (xs ys : List Shown) → crossings_of (xs ++ ys) ≡ crossings_of xs ++ crossings_of ys
crossings_of-append [] ys = refl
crossings_of-append (Crossed c ∷ xs) ys = ap (λ cs. c ∷ cs) (crossings_of-append xs ys)
crossings_of-append (Noticed t ∷ xs) ys = crossings_of-append xs ys
crossings_of-append (Said r ∷ xs) ys = crossings_of-append xs ys
crossings_of-append (Refused f ∷ xs) ys = crossings_of-append xs ys

crossings_again : (cs : List Crossing) → crossings_of (shown_crossings cs) ≡ cs
crossings_again [] = refl
crossings_again (c ∷ cs) = ap (λ xs. c ∷ xs) (crossings_again cs)

-- news are no crossings
abbrev AreNews : List Shown → Type 0
AreNews [] = Unit {0}
AreNews (Crossed c ∷ xs) = ⊥
AreNews (Noticed t ∷ xs) = AreNews xs
AreNews (Said r ∷ xs) = AreNews xs
AreNews (Refused f ∷ xs) = AreNews xs

news_behind : (ts : List Told) (xs : List Shown) → AreNews xs → AreNews (shown_notices ts ++ xs)
news_behind [] xs h = h
news_behind (t ∷ ts) xs h = news_behind ts xs h

notices_news : (ts : List Told) → AreNews (shown_notices ts)
notices_news [] = tt
notices_news (t ∷ ts) = notices_news ts

told_news : (n : ℕ) (ts : List Told) (rs : List Reported) → AreNews (told_in_turn n ts rs)
told_news n ts [] = notices_news ts
told_news n ts (r ∷ rs) = news_behind (take (r.notices - n) ts) (Said r ∷ told_in_turn (max n r.notices) (drop (r.notices - n) ts) rs) (told_news (max n r.notices) (drop (r.notices - n) ts) rs)

news_first : (s : Shown) (xs ys : List Shown) → AreNews (s ∷ xs) → crossings_of (s ∷ ys) ≡ crossings_of ys
news_first (Crossed c) xs ys h = absurd h
news_first s xs ys h = refl

news_rest : (s : Shown) (xs : List Shown) → AreNews (s ∷ xs) → AreNews xs
news_rest (Crossed c) xs h = absurd h
news_rest s xs h = h

among_news : (before : ℕ) (cs : List Crossing) (xs : List Shown) → AreNews xs → crossings_of (shown_in_turn before cs xs) ≡ cs
among_news before cs [] h = crossings_again cs
among_news before cs (s ∷ xs) h =
    let later : List Shown = shown_in_turn (max before (place_of s)) (drop (place_of s - before) cs) xs in
    crossings_of-append (shown_crossings (take (place_of s - before) cs)) (s ∷ later)
    ∙ ap (λ ys. ys ++ crossings_of (s ∷ later)) (crossings_again (take (place_of s - before) cs))
    ∙ ap (λ ys. take (place_of s - before) cs ++ ys) (news_first s xs later h ∙ among_news (max before (place_of s)) (drop (place_of s - before) cs) xs (news_rest s xs h))
    ∙ take-append-drop (place_of s - before) cs

pub crossings_in_turn : (before n : ℕ) (cs : List Crossing) (ts : List Told) (rs : List Reported) → crossings_of (shown_in_turn before cs (told_in_turn n ts rs)) ≡ cs
crossings_in_turn before n cs ts rs = among_news before cs (told_in_turn n ts rs) (told_news n ts rs)

-- ---- so are all notices and all reports

pub notices_of-append : (xs ys : List Shown) → notices_of (xs ++ ys) ≡ notices_of xs ++ notices_of ys
notices_of-append [] ys = refl
notices_of-append (Crossed c ∷ xs) ys = notices_of-append xs ys
notices_of-append (Noticed t ∷ xs) ys = ap (λ ts. t ∷ ts) (notices_of-append xs ys)
notices_of-append (Said r ∷ xs) ys = notices_of-append xs ys
notices_of-append (Refused f ∷ xs) ys = notices_of-append xs ys

pub reports_of-append : (xs ys : List Shown) → reports_of (xs ++ ys) ≡ reports_of xs ++ reports_of ys
reports_of-append [] ys = refl
reports_of-append (Crossed c ∷ xs) ys = reports_of-append xs ys
reports_of-append (Noticed t ∷ xs) ys = reports_of-append xs ys
reports_of-append (Said r ∷ xs) ys = ap (λ rs. r ∷ rs) (reports_of-append xs ys)
reports_of-append (Refused f ∷ xs) ys = reports_of-append xs ys

notices_again : (ts : List Told) → notices_of (shown_notices ts) ≡ ts
notices_again [] = refl
notices_again (t ∷ ts) = ap (λ xs. t ∷ xs) (notices_again ts)

no_report : (ts : List Told) → reports_of (shown_notices ts) ≡ []
no_report [] = refl
no_report (t ∷ ts) = no_report ts

-- crossings have neither
crossings_silent : (cs : List Crossing) → (notices_of (shown_crossings cs) ≡ []) × (reports_of (shown_crossings cs) ≡ [])
crossings_silent [] = (refl, refl)
crossings_silent (c ∷ cs) = crossings_silent cs

notices_told : (n : ℕ) (ts : List Told) (rs : List Reported) → notices_of (told_in_turn n ts rs) ≡ ts
notices_told n ts [] = notices_again ts
notices_told n ts (r ∷ rs) =
    let later : List Shown = told_in_turn (max n r.notices) (drop (r.notices - n) ts) rs in
    notices_of-append (shown_notices (take (r.notices - n) ts)) (Said r ∷ later)
    ∙ ap (λ xs. xs ++ notices_of later) (notices_again (take (r.notices - n) ts))
    ∙ ap (λ xs. take (r.notices - n) ts ++ xs) (notices_told (max n r.notices) (drop (r.notices - n) ts) rs)
    ∙ take-append-drop (r.notices - n) ts

reports_told : (n : ℕ) (ts : List Told) (rs : List Reported) → reports_of (told_in_turn n ts rs) ≡ rs
reports_told n ts [] = no_report ts
reports_told n ts (r ∷ rs) =
    let later : List Shown = told_in_turn (max n r.notices) (drop (r.notices - n) ts) rs in
    reports_of-append (shown_notices (take (r.notices - n) ts)) (Said r ∷ later)
    ∙ ap (λ xs. xs ++ r ∷ reports_of later) (no_report (take (r.notices - n) ts))
    ∙ ap (λ xs. r ∷ xs) (reports_told (max n r.notices) (drop (r.notices - n) ts) rs)

notices_behind : (s : Shown) (xs ys : List Shown) → notices_of xs ≡ notices_of ys → notices_of (s ∷ xs) ≡ notices_of (s ∷ ys)
notices_behind (Noticed t) xs ys e = ap (λ ts. t ∷ ts) e
notices_behind s xs ys e = e

reports_behind : (s : Shown) (xs ys : List Shown) → reports_of xs ≡ reports_of ys → reports_of (s ∷ xs) ≡ reports_of (s ∷ ys)
reports_behind (Said r) xs ys e = ap (λ rs. r ∷ rs) e
reports_behind s xs ys e = e

notices_among : (before : ℕ) (cs : List Crossing) (xs : List Shown) → notices_of (shown_in_turn before cs xs) ≡ notices_of xs
notices_among before cs [] = (crossings_silent cs).0
notices_among before cs (s ∷ xs) =
    let later : List Shown = shown_in_turn (max before (place_of s)) (drop (place_of s - before) cs) xs in
    notices_of-append (shown_crossings (take (place_of s - before) cs)) (s ∷ later)
    ∙ ap (λ ts. ts ++ notices_of (s ∷ later)) (crossings_silent (take (place_of s - before) cs)).0
    ∙ notices_behind s later xs (notices_among (max before (place_of s)) (drop (place_of s - before) cs) xs)

reports_among : (before : ℕ) (cs : List Crossing) (xs : List Shown) → reports_of (shown_in_turn before cs xs) ≡ reports_of xs
reports_among before cs [] = (crossings_silent cs).1
reports_among before cs (s ∷ xs) =
    let later : List Shown = shown_in_turn (max before (place_of s)) (drop (place_of s - before) cs) xs in
    reports_of-append (shown_crossings (take (place_of s - before) cs)) (s ∷ later)
    ∙ ap (λ rs. rs ++ reports_of (s ∷ later)) (crossings_silent (take (place_of s - before) cs)).1
    ∙ reports_behind s later xs (reports_among (max before (place_of s)) (drop (place_of s - before) cs) xs)

pub notices_in_turn : (before n : ℕ) (cs : List Crossing) (ts : List Told) (rs : List Reported) → notices_of (shown_in_turn before cs (told_in_turn n ts rs)) ≡ ts
notices_in_turn before n cs ts rs = notices_among before cs (told_in_turn n ts rs) ∙ notices_told n ts rs

pub reports_in_turn : (before n : ℕ) (cs : List Crossing) (ts : List Told) (rs : List Reported) → reports_of (shown_in_turn before cs (told_in_turn n ts rs)) ≡ rs
reports_in_turn before n cs ts rs = reports_among before cs (told_in_turn n ts rs) ∙ reports_told n ts rs

-- ---- what a book gains later is shown later

-- no news want more crossings than these
abbrev pub Want : ℕ → List Shown → Type 0
Want high [] = Unit {0}
Want high (s ∷ xs) = (place_of s ≤ high) × Want high xs

-- the first of the news, if there are any, wants this many
abbrev pub Begin : ℕ → List Shown → Type 0
Begin high [] = Unit {0}
Begin high (s ∷ xs) = high ≤ place_of s

-- news of a later time, with the crossings since, are shown after those of an earlier one
pub news_later : (first high : ℕ) (cs ds : List Crossing) (xs ys : List Shown) → high ≡ first + length cs → Want high xs → Begin high ys → shown_in_turn first (cs ++ ds) (xs ++ ys) ≡ shown_in_turn first cs xs ++ shown_in_turn high ds ys
news_later first high cs ds [] [] is h k = shown_crossings-append cs ds
news_later first high cs ds [] (s ∷ ys) is h k =
    let count : place_of s - first ≡ length cs + (place_of s - high) = omega (arith, is, k) in
    let front : take (place_of s - first) (cs ++ ds) ≡ cs ++ take (place_of s - high) ds = ap (λ n. take n (cs ++ ds)) count ∙ take-append-add cs ds (place_of s - high) in
    let back : drop (place_of s - first) (cs ++ ds) ≡ drop (place_of s - high) ds = ap (λ n. drop n (cs ++ ds)) count ∙ drop-append-add cs ds (place_of s - high) in
    let latest : max first (place_of s) ≡ max high (place_of s) = omega (arith, is, k) in
    ap (λ zs. shown_crossings zs ++ s ∷ shown_in_turn (max first (place_of s)) (drop (place_of s - first) (cs ++ ds)) ys) front
    ∙ ap (λ zs. shown_crossings (cs ++ take (place_of s - high) ds) ++ s ∷ shown_in_turn (max first (place_of s)) zs ys) back
    ∙ ap (λ n. shown_crossings (cs ++ take (place_of s - high) ds) ++ s ∷ shown_in_turn n (drop (place_of s - high) ds) ys) latest
    ∙ ap (λ zs. zs ++ s ∷ shown_in_turn (max high (place_of s)) (drop (place_of s - high) ds) ys) (shown_crossings-append cs (take (place_of s - high) ds))
    ∙ append_assoc (shown_crossings cs) (shown_crossings (take (place_of s - high) ds)) (s ∷ shown_in_turn (max high (place_of s)) (drop (place_of s - high) ds) ys)
news_later first high cs ds (s ∷ xs) ys is h k =
    let few : place_of s - first ≤ length cs = omega (arith, is, h.0) in
    let shorter : length (drop (place_of s - first) cs) ≡ length cs - (place_of s - first) = length-drop (place_of s - first) cs in
    let next : high ≡ max first (place_of s) + length (drop (place_of s - first) cs) = omega (arith, is, few, shorter) in
    let rest : shown_in_turn (max first (place_of s)) (drop (place_of s - first) cs ++ ds) (xs ++ ys) ≡ shown_in_turn (max first (place_of s)) (drop (place_of s - first) cs) xs ++ shown_in_turn high ds ys =
    news_later (max first (place_of s)) high (drop (place_of s - first) cs) ds xs ys next h.1 k in
    ap (λ zs. shown_crossings zs ++ s ∷ shown_in_turn (max first (place_of s)) (drop (place_of s - first) (cs ++ ds)) (xs ++ ys)) (take-append-le (place_of s - first) cs ds few)
    ∙ ap (λ zs. shown_crossings (take (place_of s - first) cs) ++ s ∷ shown_in_turn (max first (place_of s)) zs (xs ++ ys)) (drop-append-le (place_of s - first) cs ds few)
    ∙ ap (λ zs. shown_crossings (take (place_of s - first) cs) ++ s ∷ zs) rest
    ∙ sym (append_assoc (shown_crossings (take (place_of s - first) cs)) (s ∷ shown_in_turn (max first (place_of s)) (drop (place_of s - first) cs) xs) (shown_in_turn high ds ys))

-- ---- places of notices

-- none of them is before the one place, and none after the other
abbrev pub AreBetween : ℕ → ℕ → List Told → Type 0
AreBetween low high [] = Unit {0}
AreBetween low high (t ∷ ts) = (low ≤ t.place) × (t.place ≤ high) × AreBetween low high ts

pub between_append : (low high : ℕ) (xs ys : List Told) → AreBetween low high xs → AreBetween low high ys → AreBetween low high (xs ++ ys)
between_append low high [] ys h k = k
between_append low high (x ∷ xs) ys h k = (h.0, h.1, between_append low high xs ys h.2 k)

pub between_wider : (low high lower higher : ℕ) (xs : List Told) → lower ≤ low → high ≤ higher → AreBetween low high xs → AreBetween lower higher xs
between_wider low high lower higher [] d u h = tt
between_wider low high lower higher (x ∷ xs) d u h = (omega (arith, d, h.0), omega (arith, u, h.1), between_wider low high lower higher xs d u h.2)

-- each report counts more notices than the one number, and at most the other
abbrev pub AreAbout : ℕ → ℕ → List Reported → Type 0
AreAbout low high [] = Unit {0}
AreAbout low high (r ∷ rs) = (low < r.notices) × (r.notices ≤ high) × AreAbout low high rs

-- the same of notices and reports
pub told_later : (first high low top : ℕ) (ts us : List Told) (rs qs : List Reported) → high ≡ first + length ts → AreAbout low high rs → AreAbout high top qs → told_in_turn first (ts ++ us) (rs ++ qs) ≡ told_in_turn first ts rs ++ told_in_turn high us qs
told_later first high low top ts us [] [] is h k = shown_notices-append ts us
told_later first high low top ts us [] (q ∷ qs) is h k =
    let count : q.notices - first ≡ length ts + (q.notices - high) = omega (arith, is, k.0) in
    let front : take (q.notices - first) (ts ++ us) ≡ ts ++ take (q.notices - high) us = ap (λ n. take n (ts ++ us)) count ∙ take-append-add ts us (q.notices - high) in
    let back : drop (q.notices - first) (ts ++ us) ≡ drop (q.notices - high) us = ap (λ n. drop n (ts ++ us)) count ∙ drop-append-add ts us (q.notices - high) in
    let latest : max first q.notices ≡ max high q.notices = omega (arith, is, k.0) in
    ap (λ zs. shown_notices zs ++ Said q ∷ told_in_turn (max first q.notices) (drop (q.notices - first) (ts ++ us)) qs) front
    ∙ ap (λ zs. shown_notices (ts ++ take (q.notices - high) us) ++ Said q ∷ told_in_turn (max first q.notices) zs qs) back
    ∙ ap (λ n. shown_notices (ts ++ take (q.notices - high) us) ++ Said q ∷ told_in_turn n (drop (q.notices - high) us) qs) latest
    ∙ ap (λ zs. zs ++ Said q ∷ told_in_turn (max high q.notices) (drop (q.notices - high) us) qs) (shown_notices-append ts (take (q.notices - high) us))
    ∙ append_assoc (shown_notices ts) (shown_notices (take (q.notices - high) us)) (Said q ∷ told_in_turn (max high q.notices) (drop (q.notices - high) us) qs)
told_later first high low top ts us (r ∷ rs) qs is h k =
    let few : r.notices - first ≤ length ts = omega (arith, is, h.1) in
    let shorter : length (drop (r.notices - first) ts) ≡ length ts - (r.notices - first) = length-drop (r.notices - first) ts in
    let next : high ≡ max first r.notices + length (drop (r.notices - first) ts) = omega (arith, is, few, shorter) in
    let rest : told_in_turn (max first r.notices) (drop (r.notices - first) ts ++ us) (rs ++ qs) ≡ told_in_turn (max first r.notices) (drop (r.notices - first) ts) rs ++ told_in_turn high us qs =
    told_later (max first r.notices) high low top (drop (r.notices - first) ts) us rs qs next h.2 k in
    ap (λ zs. shown_notices zs ++ Said r ∷ told_in_turn (max first r.notices) (drop (r.notices - first) (ts ++ us)) (rs ++ qs)) (take-append-le (r.notices - first) ts us few)
    ∙ ap (λ zs. shown_notices (take (r.notices - first) ts) ++ Said r ∷ told_in_turn (max first r.notices) zs (rs ++ qs)) (drop-append-le (r.notices - first) ts us few)
    ∙ ap (λ zs. shown_notices (take (r.notices - first) ts) ++ Said r ∷ zs) rest
    ∙ sym (append_assoc (shown_notices (take (r.notices - first) ts)) (Said r ∷ told_in_turn (max first r.notices) (drop (r.notices - first) ts) rs) (told_in_turn high us qs))

-- ---- notices with their reports want what the notices want

want_behind : (high : ℕ) (xs ys : List Shown) → Want high xs → Want high ys → Want high (xs ++ ys)
want_behind high [] ys h k = k
want_behind high (x ∷ xs) ys h k = (h.0, want_behind high xs ys h.1 k)

want_notices : (low high : ℕ) (ts : List Told) → AreBetween low high ts → Want high (shown_notices ts)
want_notices low high [] h = tt
want_notices low high (t ∷ ts) h = (h.1, want_notices low high ts h.2)

between_take : (low high n : ℕ) (ts : List Told) → AreBetween low high ts → AreBetween low high (take n ts)
between_take low high zero ts h = tt
between_take low high (suc n) [] h = tt
between_take low high (suc n) (t ∷ ts) h = (h.0, h.1, between_take low high n ts h.2)

between_drop : (low high n : ℕ) (ts : List Told) → AreBetween low high ts → AreBetween low high (drop n ts)
between_drop low high zero ts h = h
between_drop low high (suc n) [] h = tt
between_drop low high (suc n) (t ∷ ts) h = between_drop low high n ts h.2

pub told_want : (low high n : ℕ) (ts : List Told) (rs : List Reported) → AreBetween low high ts → Want high (told_in_turn n ts rs)
told_want low high n ts [] h = want_notices low high ts h
told_want low high n ts (r ∷ rs) h =
    want_behind high (shown_notices (take (r.notices - n) ts)) (Said r ∷ told_in_turn (max n r.notices) (drop (r.notices - n) ts) rs) (want_notices low high (take (r.notices - n) ts) (between_take low high (r.notices - n) ts h))
    (omega arith, told_want low high (max n r.notices) (drop (r.notices - n) ts) rs (between_drop low high (r.notices - n) ts h))

-- where each report is about one of the notices, they begin with a notice
pub told_begin : (low high n top : ℕ) (us : List Told) (qs : List Reported) → top ≡ n + length us → AreBetween low high us → AreAbout n top qs → Begin low (told_in_turn n us qs)
told_begin low high n top [] [] is h k = tt
told_begin low high n top (u ∷ us) [] is h k = h.0
told_begin low high n top [] (q ∷ qs) is h k = absurd (omega (arith, is, k.0, k.1))
told_begin low high n top (u ∷ us) (q ∷ qs) is h k =
    let more : q.notices - n ≡ suc (q.notices - n - 1) = omega (arith, k.0) in
    subst (λ c. Begin low (shown_notices (take c (u ∷ us)) ++ Said q ∷ told_in_turn (max n q.notices) (drop (q.notices - n) (u ∷ us)) qs)) (sym more) h.0
