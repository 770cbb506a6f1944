-- Crossings oldest first, and newest first.
use Rattle.net_sim.proofs.Common.{◌≡◌, ℕ, ◌+◌, Option, List, [], ◌∷◌, ◌++◌, Some, None, length, map, take, drop, ◌-◌, refl, ap, sym, ◌∙◌, arith, flat_map, reverse-append, length-reverse, append-nil, take_all, drop-append_seam, Crossing, emptied_in_order, turned_in_order, Notice, Host, Request, Called, Reported, Kept, crossed, all_crossed, book_told, all_told, asked, all_asked, all_reported, contacts_asked, LivesState, entered, told_at, Seat, ServiceSeat, seats_turned, all_turned, all_emptied}
use Rattle.std.proofs.Common.{reverse}
use Rattle.std.proofs.lemmas.List.{length-append, append_assoc}
use Rattle.promise.specs.declared.book.Told.{Told}
use Rattle.net_sim.specs.Inside.Lives as all
use Rattle.net_sim.specs.Inside.Lives.{of_kept, followed, written}
use Rattle.net_sim.specs.World.{emptied}
use Rattle.net_sim.proofs.Books.Booked.{crossed_crossings, told_crossings}

turned_behind : (cs : List Crossing) (c : Crossing) (seats : List Seat) → all_turned (cs ++ c ∷ []) seats ≡ all_turned cs (seats_turned c seats)
turned_behind [] c seats = refl
turned_behind (d ∷ cs) c seats = ap (λ (s : List Seat). seats_turned d s) (turned_behind cs c seats)

pub turned_reversed : (cs : List Crossing) (seats : List Seat) → turned_in_order cs seats ≡ all_turned (reverse cs) seats
turned_reversed [] seats = refl
turned_reversed (c ∷ cs) seats =
    turned_reversed cs (seats_turned c seats) ∙ sym (turned_behind (reverse cs) c seats)
    ∙ ap (λ (ds : List Crossing). all_turned ds seats) (sym (reverse-append (c ∷ []) cs))

emptied_behind : (cs : List Crossing) (c : Crossing) (all : List ServiceSeat) → all_emptied (cs ++ c ∷ []) all ≡ all_emptied cs (emptied c all)
emptied_behind [] c all = refl
emptied_behind (d ∷ cs) c all = ap (λ (s : List ServiceSeat). emptied d s) (emptied_behind cs c all)

pub emptied_reversed : (cs : List Crossing) (all : List ServiceSeat) → emptied_in_order cs all ≡ all_emptied (reverse cs) all
emptied_reversed [] all = refl
emptied_reversed (c ∷ cs) all =
    emptied_reversed cs (emptied c all) ∙ sym (emptied_behind (reverse cs) c all)
    ∙ ap (λ (ds : List Crossing). all_emptied ds all) (sym (reverse-append (c ∷ []) cs))

-- ---- what is written down

crossed_behind : (cs : List Crossing) (c : Crossing) (k : Kept) → all_crossed (cs ++ c ∷ []) k ≡ all_crossed cs (crossed c k)
crossed_behind [] c k = refl
crossed_behind (d ∷ cs) c k = ap (λ (x : Kept). crossed d x) (crossed_behind cs c k)

crossed_reversed : (c : Crossing) (cs : List Crossing) (k : Kept) → all_crossed (reverse cs) (crossed c k) ≡ all_crossed (reverse (c ∷ cs)) k
crossed_reversed c cs k = sym (crossed_behind (reverse cs) c k) ∙ ap (λ (ds : List Crossing). all_crossed ds k) (sym (reverse-append (c ∷ []) cs))

same_kept : (xs ys : List Crossing) (ns ms : List Told) (us vs : List Called) (ps qs : List Reported) (l : LivesState) → xs ≡ ys → ns ≡ ms → us ≡ vs → ps ≡ qs
    → ◌≡◌ {A = Kept} (record { book = record { crossings = xs; notices = ns; contacts = us; reports = ps; lives = l.lives }; handed = l.handed; fates = l.fates })
    (record { book = record { crossings = ys; notices = ms; contacts = vs; reports = qs; lives = l.lives }; handed = l.handed; fates = l.fates })
same_kept xs ys ns ms us vs ps qs l x n a p = cc

-- what is in a book once all of that is written down
written_so : (cs : List Crossing) (a : Option (Host × Request)) (calls : List Called) (ts : List Told) (h : Option Host) (rs : List Request) (reports : List Reported) (k : Kept) (after : List Crossing) (ns : List Told) (us : List Called)
    (ps : List Reported) (l : LivesState) → after ≡ reverse cs ++ k.book.crossings → ns ≡ k.book.notices ++ ts → us ≡ k.book.contacts ++ calls → ps ≡ k.book.reports ++ reports
    → l ≡ followed cs a ts h rs (of_kept k)
    → ◌≡◌ {A = Kept} (record { book = record { crossings = after; notices = ns; contacts = us; reports = ps; lives = l.lives }; handed = l.handed; fates = l.fates }) (written cs a calls ts h rs reports k)
written_so cs a calls ts h rs reports k after ns us ps l more n u p f =
    same_kept after (reverse cs ++ k.book.crossings) ns (k.book.notices ++ ts) us (k.book.contacts ++ calls) ps (k.book.reports ++ reports) l more n u p
    ∙ ap (λ (m : LivesState). let after : Kept = record { book = record { crossings = reverse cs ++ k.book.crossings; notices = k.book.notices ++ ts; contacts = k.book.contacts ++ calls; reports = k.book.reports ++ reports; lives = m.lives }; handed = m.handed; fates = m.fates } in after) f

-- crossings and what users were notified of, and nothing else
abbrev pub plain : List Crossing → List Told → Kept → Kept
plain cs ts k = written cs None [] ts None [] [] k

-- what users were notified of, one notice after another
written_told : (h : Host) (ns : List Notice) (k : Kept) → plain [] (map (told_at h (length k.book.crossings)) ns) k ≡ all_told h ns k
written_told h [] k =
    same_kept k.book.crossings k.book.crossings (k.book.notices ++ []) k.book.notices (k.book.contacts ++ []) k.book.contacts (k.book.reports ++ []) k.book.reports (of_kept k) refl (append-nil k.book.notices)
    (append-nil k.book.contacts) (append-nil k.book.reports)
written_told h (n ∷ ns) k =
    let t : Told = told_at h (length k.book.crossings) n in
    let ts : List Told = map (told_at h (length k.book.crossings)) ns in
    same_kept k.book.crossings k.book.crossings (k.book.notices ++ t ∷ ts) ((k.book.notices ++ t ∷ []) ++ ts) (k.book.contacts ++ []) (k.book.contacts ++ []) (k.book.reports ++ []) (k.book.reports ++ [])
    (all.all_told ts (all.lives_state_told h n (of_kept k))) refl (sym (append_assoc k.book.notices (t ∷ []) ts)) refl refl
    ∙ written_told h ns (book_told h n k)

-- after what crossed
written_crossed : (cs : List Crossing) (ts : List Told) (k : Kept) → plain cs ts k ≡ plain [] ts (all_crossed (reverse cs) k)
written_crossed [] ts k = refl
written_crossed (c ∷ cs) ts k =
    same_kept (reverse (c ∷ cs) ++ k.book.crossings) (reverse cs ++ c ∷ k.book.crossings) (k.book.notices ++ ts) (k.book.notices ++ ts) (k.book.contacts ++ []) (k.book.contacts ++ []) (k.book.reports ++ []) (k.book.reports ++ [])
    (followed cs None ts None [] (all.crossed c (of_kept k)))
    (ap (λ (ds : List Crossing). ds ++ k.book.crossings) (reverse-append (c ∷ []) cs) ∙ append_assoc (reverse cs) (c ∷ []) k.book.crossings) refl refl refl
    ∙ written_crossed cs ts (crossed c k) ∙ ap (λ (x : Kept). plain [] ts x) (crossed_reversed c cs k)

-- the places are the number of crossings after these
written_before : (h : Host) (place : ℕ) (cs : List Crossing) (ns : List Notice) (k : Kept) → place ≡ length k.book.crossings + length cs
    → plain cs (map (told_at h place) ns) k ≡ all_told h ns (all_crossed (reverse cs) k)
written_before h place cs ns k is =
    let after : Kept = all_crossed (reverse cs) k in
    let many : place ≡ length after.book.crossings = is ∙ omega (arith, length-append (reverse cs) k.book.crossings, length-reverse cs) ∙ ap (λ (xs : List Crossing). length xs) (sym (crossed_crossings (reverse cs) k)) in
    written_crossed cs (map (told_at h place) ns) k ∙ ap (λ (n : ℕ). plain [] (map (told_at h n) ns) after) many ∙ written_told h ns after

-- ---- what services asked for, and reported

-- their contacts are at one place
written_ran : (h : Host) (rs : List Request) (reports : List Reported) (k : Kept)
    → ◌≡◌ {A = Kept} (record {
      book = record {
        crossings = k.book.crossings;
        notices = k.book.notices;
        contacts = k.book.contacts ++ flat_map (contacts_asked h (length k.book.crossings)) rs;
        reports = k.book.reports ++ reports;
        lives = (all.all_asked h rs (of_kept k)).lives;
      };
      handed = (all.all_asked h rs (of_kept k)).handed;
      fates = (all.all_asked h rs (of_kept k)).fates;
    }) (all_reported reports (all_asked h rs k))
written_ran h [] reports k =
    same_kept k.book.crossings k.book.crossings k.book.notices k.book.notices (k.book.contacts ++ []) k.book.contacts (k.book.reports ++ reports) (k.book.reports ++ reports) (of_kept k) refl refl (append-nil k.book.contacts) refl
written_ran h (r ∷ rs) reports k =
    same_kept k.book.crossings k.book.crossings k.book.notices k.book.notices
    (k.book.contacts ++ (contacts_asked h (length k.book.crossings) r ++ flat_map (contacts_asked h (length k.book.crossings)) rs))
    ((k.book.contacts ++ contacts_asked h (length k.book.crossings) r) ++ flat_map (contacts_asked h (length k.book.crossings)) rs)
    (k.book.reports ++ reports) (k.book.reports ++ reports) (all.all_asked h rs (all.asked h r (of_kept k))) refl refl
    (sym (append_assoc k.book.contacts (contacts_asked h (length k.book.crossings) r) (flat_map (contacts_asked h (length k.book.crossings)) rs))) refl
    ∙ written_ran h rs reports (asked h r k)

-- all that follows what was written before
after_that : (cs : List Crossing) (a : Option (Host × Request)) (first : List Called) (ts : List Told) (h : Host) (rs : List Request) (reports : List Reported) (k before : Kept) (n : ℕ)
    → written cs a first ts None [] [] k ≡ before → n ≡ length before.book.crossings
    → written cs a (first ++ flat_map (contacts_asked h n) rs) ts (Some h) rs reports k ≡ all_reported reports (all_asked h rs before)
after_that cs a first ts h rs reports k before n is many =
    let mid : Kept = written cs a first ts None [] [] k in
    let calls : List Called = flat_map (contacts_asked h n) rs in
    same_kept (reverse cs ++ k.book.crossings) (reverse cs ++ k.book.crossings) (k.book.notices ++ ts) (k.book.notices ++ ts) (k.book.contacts ++ (first ++ calls)) ((k.book.contacts ++ first) ++ calls)
    (k.book.reports ++ reports) ((k.book.reports ++ []) ++ reports) (all.all_asked h rs (of_kept mid)) refl refl (sym (append_assoc k.book.contacts first calls)) (ap (λ (ps : List Reported). ps ++ reports) (sym (append-nil k.book.reports)))
    ∙ ap (λ (m : ℕ). with_calls (flat_map (contacts_asked h m) rs)) (many ∙ ap (λ (x : Kept). length x.book.crossings) (sym is))
    ∙ written_ran h rs reports mid ∙ ap (λ (x : Kept). all_reported reports (all_asked h rs x)) is where
      with_calls : List Called → Kept
      with_calls us =
          let mid : Kept = written cs a first ts None [] [] k in
          record {
            book = record {
              crossings = mid.book.crossings;
              notices = mid.book.notices;
              contacts = mid.book.contacts ++ us;
              reports = mid.book.reports ++ reports;
              lives = (all.all_asked h rs (of_kept mid)).lives;
            };
            handed = (all.all_asked h rs (of_kept mid)).handed;
            fates = (all.all_asked h rs (of_kept mid)).fates;
          }

pub entered_crossed : (h : Host) (cs : List Crossing) (ns : List Notice) (rs : List Request) (reports : List Reported) (k : Kept)
    → entered cs None (flat_map (contacts_asked h (length k.book.crossings + length cs)) rs) h ns rs reports k ≡ all_reported reports (all_asked h rs (all_told h ns (all_crossed (reverse cs) k)))
entered_crossed h cs ns rs reports k =
    let place : ℕ = length k.book.crossings + length cs in
    let before : Kept = all_told h ns (all_crossed (reverse cs) k) in
    let same : before.book.crossings ≡ reverse cs ++ k.book.crossings = told_crossings h ns (all_crossed (reverse cs) k) ∙ crossed_crossings (reverse cs) k in
    let many : place ≡ length before.book.crossings = omega (arith, length-append (reverse cs) k.book.crossings, length-reverse cs) ∙ ap (λ (xs : List Crossing). length xs) (sym same) in
    after_that cs None [] (map (told_at h place) ns) h rs reports k before place (written_before h place cs ns k refl) many

-- ---- what was asked for

asked_before : (h : Host) (r : Request) (ns : List Notice) (k : Kept)
    → written [] (Some (h, r)) (contacts_asked h (length k.book.crossings) r) (map (told_at h (length k.book.crossings)) ns) None [] [] k ≡ all_told h ns (asked h r k)
asked_before h r ns k =
    let calls : List Called = k.book.contacts ++ contacts_asked h (length k.book.crossings) r in
    let ts : List Told = map (told_at h (length k.book.crossings)) ns in
    same_kept k.book.crossings k.book.crossings (k.book.notices ++ ts) (k.book.notices ++ ts) calls (calls ++ []) (k.book.reports ++ []) (k.book.reports ++ []) (all.all_told ts (all.asked h r (of_kept k))) refl refl (sym (append-nil calls)) refl
    ∙ written_told h ns (asked h r k)

pub entered_asked : (h : Host) (r : Request) (ns : List Notice) (rs : List Request) (reports : List Reported) (k : Kept)
    → entered [] (Some (h, r)) (contacts_asked h (length k.book.crossings) r ++ flat_map (contacts_asked h (length k.book.crossings)) rs) h ns rs reports k ≡ all_reported reports (all_asked h rs (all_told h ns (asked h r k)))
entered_asked h r ns rs reports k =
    let calls : List Called = contacts_asked h (length k.book.crossings) r ++ flat_map (contacts_asked h (length k.book.crossings)) rs in
    let same : length k.book.crossings + 0 ≡ length k.book.crossings = omega arith in
    ap (λ (m : ℕ). written [] (Some (h, r)) calls (map (told_at h m) ns) (Some h) rs reports k) same
    ∙ after_that [] (Some (h, r)) (contacts_asked h (length k.book.crossings) r) (map (told_at h (length k.book.crossings)) ns) h rs reports k (all_told h ns (asked h r k)) (length k.book.crossings) (asked_before h r ns k)
    (ap (λ (xs : List Crossing). length xs) (sym (told_crossings h ns (asked h r k))))

-- ---- nothing else

pub written_alone : (cs : List Crossing) (k : Kept) → plain cs [] k ≡ all_crossed (reverse cs) k
written_alone cs k =
    let after : Kept = all_crossed (reverse cs) k in
    written_crossed cs [] k
    ∙ same_kept after.book.crossings after.book.crossings (after.book.notices ++ []) after.book.notices (after.book.contacts ++ []) after.book.contacts (after.book.reports ++ []) after.book.reports (of_kept after) refl
    (append-nil after.book.notices) (append-nil after.book.contacts) (append-nil after.book.reports)

-- the same, as what is in the notes then
pub crossed_so : (cs : List Crossing) (k : Kept) (after : List Crossing) (ns : List Told) (us : List Called) (ps : List Reported) (l : LivesState) → after ≡ reverse cs ++ k.book.crossings
    → ns ≡ k.book.notices → us ≡ k.book.contacts → ps ≡ k.book.reports → l ≡ all.all_crossed cs (of_kept k)
    → ◌≡◌ {A = Kept} (record { book = record { crossings = after; notices = ns; contacts = us; reports = ps; lives = l.lives }; handed = l.handed; fates = l.fates }) (all_crossed (reverse cs) k)
crossed_so cs k after ns us ps l more n u p f =
    written_so cs None [] [] None [] [] k after ns us ps l more (n ∙ sym (append-nil k.book.notices)) (u ∙ sym (append-nil k.book.contacts)) (p ∙ sym (append-nil k.book.reports)) f
    ∙ written_alone cs k

-- ---- what a host's user asked for, and what it was notified of, as what is in the notes then

pub asked_so : (h : Host) (r : Request) (k : Kept) (now : List Crossing) (place : ℕ) (ns : List Told) (us : List Called) (ps : List Reported) (l : LivesState) → now ≡ k.book.crossings → place ≡ length k.book.crossings
    → ns ≡ k.book.notices → us ≡ k.book.contacts ++ contacts_asked h place r → ps ≡ k.book.reports → l ≡ all.asked h r (of_kept k)
    → ◌≡◌ {A = Kept} (record { book = record { crossings = now; notices = ns; contacts = us; reports = ps; lives = l.lives }; handed = l.handed; fates = l.fates }) (asked h r k)
asked_so h r k now place ns us ps l same is n u p f =
    let calls : List Called = k.book.contacts ++ contacts_asked h (length k.book.crossings) r in
    same_kept now k.book.crossings ns k.book.notices us calls ps k.book.reports l same n (u ∙ ap (λ (m : ℕ). k.book.contacts ++ contacts_asked h m r) is) p
    ∙ ap (λ (m : LivesState). let after : Kept = record { book = record { crossings = k.book.crossings; notices = k.book.notices; contacts = calls; reports = k.book.reports; lives = m.lives }; handed = m.handed; fates = m.fates } in after) f

-- the last of all that users were notified of
last_of : (old news seen : List Told) (n : ℕ) → seen ≡ old ++ news → n ≡ length old → take (length seen - n) (drop n seen) ≡ news
last_of old news seen n same many =
    let cut : drop n seen ≡ news = ap (λ (m : ℕ). drop m seen) many ∙ ap (λ (xs : List Told). drop (length old) xs) same ∙ drop-append_seam old news in
    let long : length seen ≡ length old + length news = ap (λ (xs : List Told). length xs) same ∙ length-append old news in
    ap (λ (xs : List Told). take (length seen - n) xs) cut ∙ take_all (length seen - n) news (omega (arith, long, many))

pub told_so : (h : Host) (cs : List Crossing) (ns : List Notice) (k : Kept) (after : List Crossing) (place n : ℕ) (ts seen : List Told) (us : List Called) (ps : List Reported) (l : LivesState)
    → after ≡ reverse cs ++ k.book.crossings → place ≡ length k.book.crossings + length cs → ts ≡ k.book.notices ++ map (told_at h place) ns → us ≡ k.book.contacts → ps ≡ k.book.reports → n ≡ length k.book.notices → seen ≡ ts
    → l ≡ all.all_told (take (length seen - n) (drop n seen)) (all.all_crossed cs (of_kept k))
    → ◌≡◌ {A = Kept} (record { book = record { crossings = after; notices = ts; contacts = us; reports = ps; lives = l.lives }; handed = l.handed; fates = l.fates }) (all_told h ns (all_crossed (reverse cs) k))
told_so h cs ns k after place n ts seen us ps l more is t u p many same f =
    let news : List Told = map (told_at h place) ns in
    written_so cs None [] news None [] [] k after ts us ps l more t (u ∙ sym (append-nil k.book.contacts)) (p ∙ sym (append-nil k.book.reports))
    (f ∙ ap (λ (xs : List Told). all.all_told xs (all.all_crossed cs (of_kept k))) (last_of k.book.notices news seen n (same ∙ t) many))
    ∙ written_before h place cs ns k is

-- the same, of all that happens at a host
pub entered_so : (cs : List Crossing) (a : Option (Host × Request)) (calls : List Called) (h : Host) (ns : List Notice) (rs : List Request) (reports : List Reported) (k : Kept) (after : List Crossing) (place n : ℕ)
    (ts seen : List Told) (us : List Called) (ps : List Reported) (l : LivesState) → after ≡ reverse cs ++ k.book.crossings → place ≡ length k.book.crossings + length cs
    → ts ≡ k.book.notices ++ map (told_at h place) ns → us ≡ k.book.contacts ++ calls → ps ≡ k.book.reports ++ reports → n ≡ length k.book.notices → seen ≡ ts
    → l ≡ followed cs a (take (length seen - n) (drop n seen)) (Some h) rs (of_kept k)
    → ◌≡◌ {A = Kept} (record { book = record { crossings = after; notices = ts; contacts = us; reports = ps; lives = l.lives }; handed = l.handed; fates = l.fates }) (entered cs a calls h ns rs reports k)
entered_so cs a calls h ns rs reports k after place n ts seen us ps l more is t u p many same f =
    let news : List Told = map (told_at h place) ns in
    written_so cs a calls news (Some h) rs reports k after ts us ps l more t u p
    (f ∙ ap (λ (xs : List Told). followed cs a xs (Some h) rs (of_kept k)) (last_of k.book.notices news seen n (same ∙ t) many))
    ∙ ap (λ (m : ℕ). written cs a calls (map (told_at h m) ns) (Some h) rs reports k) is
