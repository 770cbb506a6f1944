-- What is done to the connections of a pair keeps its numbers in their ranges.
use Rattle.std.proofs.Common.{◌≡◌, ℕ, Bool, true, false, not, if◌then◌else◌, nat_le, zero, suc, List, [], ◌∷◌, ◌++◌, map, filter, find, drop, Option, Some, None, IsTrue, refl, ap, subst, arith}
use Rattle.std.proofs.lemmas.Bool.{leb-true}
use Rattle.std.specs.List.{list_any}
use Rattle.ncp_control.specs.Command.{IsCommand, IsOctet}
use Rattle.ncp_control.specs.Numbers.{is_byte_size, is_connection_link}
use Rattle.ncp_control.specs.declared.command.Command.{Command}
use Rattle.host_pairs.specs.Entries.{changed_first, cls_of, connection_links, free_link, receives_on}
use Rattle.host_pairs.specs.declared.entry.Entry.{Entry}
use Rattle.host_pairs.specs.declared.listener.Listener.{Listener}
use Rattle.host_pairs.proofs.lemmas.{both}
use Rattle.host_keeps_ranges.specs.Ranges.{AreCommands, AreInRange, AreSizes, IsInRange}

-- ---- lists

pub commands_more : (xs : List Command) (c : Command) → AreCommands xs → IsCommand c → AreCommands (xs ++ c ∷ [])
commands_more [] c h is = (is, tt)
commands_more (x ∷ xs) c h is = (h.0, commands_more xs c h.1 is)

pub commands_append : (xs ys : List Command) → AreCommands xs → AreCommands ys → AreCommands (xs ++ ys)
commands_append [] ys h k = k
commands_append (x ∷ xs) ys h k = (h.0, commands_append xs ys h.1 k)

pub commands_drop : (n : ℕ) (xs : List Command) → AreCommands xs → AreCommands (drop n xs)
commands_drop zero xs h = h
commands_drop (suc n) [] h = tt
commands_drop (suc n) (x ∷ xs) h = commands_drop n xs h.1

pub ends_more : (xs : List Entry) (e : Entry) → AreInRange xs → IsInRange e → AreInRange (xs ++ e ∷ [])
ends_more [] e h is = (is, tt)
ends_more (x ∷ xs) e h is = (h.0, ends_more xs e h.1 is)

-- a change that keeps an end in range
abbrev pub Keeps : (Entry → Entry) → Type 0
Keeps change = (e : Entry) → IsInRange e → IsInRange (change e)

pub ends_changed : (test : Entry → Bool) (change : Entry → Entry) (xs : List Entry) → Keeps change → AreInRange xs → AreInRange (changed_first test change xs)
ends_changed test change [] k h = tt
ends_changed test change (x ∷ xs) k h = by (test x) (ends_changed test change xs k h.1) where
  by : (b : Bool) → AreInRange (changed_first test change xs) → AreInRange (if b then change x ∷ xs else x ∷ changed_first test change xs)
  by true rest = (k x h.0, h.1)
  by false rest = (h.0, rest)

pub ends_mapped : (change : Entry → Entry) (xs : List Entry) → Keeps change → AreInRange xs → AreInRange (map change xs)
ends_mapped change [] k h = tt
ends_mapped change (x ∷ xs) k h = (k x h.0, ends_mapped change xs k h.1)

ends_step : (x : Entry) (xs : List Entry) (test : Entry → Bool) → IsInRange x → AreInRange (filter test xs) → (b : Bool) → test x ≡ b → AreInRange (filter test (x ∷ xs))
ends_step x xs test is rest true e = rw e (is, rest)
ends_step x xs test is rest false e = rw e rest

pub ends_filtered : (test : Entry → Bool) (xs : List Entry) → AreInRange xs → AreInRange (filter test xs)
ends_filtered test [] h = tt
ends_filtered test (x ∷ xs) h = ends_step x xs test h.0 (ends_filtered test xs h.1) (test x) refl

pub closes : (xs : List Entry) → AreInRange xs → AreCommands (map cls_of xs)
closes [] h = tt
closes (x ∷ xs) h = ((h.0.own, h.0.foreign), closes xs h.1)

sizes_step : (x : Listener) (xs : List Listener) (test : Listener → Bool) → IsOctet x.size × IsTrue (is_byte_size x.size) → AreSizes (filter test xs) → (b : Bool) → test x ≡ b → AreSizes (filter test (x ∷ xs))
sizes_step x xs test is rest true e = rw e (is, rest)
sizes_step x xs test is rest false e = rw e rest

pub sizes_filtered : (test : Listener → Bool) (xs : List Listener) → AreSizes xs → AreSizes (filter test xs)
sizes_filtered test [] h = tt
sizes_filtered test (x ∷ xs) h = sizes_step x xs test h.0 (sizes_filtered test xs h.1) (test x) refl

listener_or : Listener → Option Listener → Listener
listener_or d None = d
listener_or d (Some l) = l

size_step : (test : Listener → Bool) (x l : Listener) (xs : List Listener) → IsOctet x.size × IsTrue (is_byte_size x.size) → (find test xs ≡ Some l → IsOctet l.size × IsTrue (is_byte_size l.size)) → (b : Bool) → test x ≡ b
    → find test (x ∷ xs) ≡ Some l → IsOctet l.size × IsTrue (is_byte_size l.size)
unfolding listener_or
size_step test x l xs is rest true e f =
    let same : x ≡ l = (let r : Some x ≡ Some l = rw e at f in ap (listener_or x) r) in
    subst (λ (y : Listener). IsOctet y.size × IsTrue (is_byte_size y.size)) same is
size_step test x l xs is rest false e f = rest (rw e at f)

pub size_found : (test : Listener → Bool) (xs : List Listener) (l : Listener) → AreSizes xs → find test xs ≡ Some l → IsOctet l.size × IsTrue (is_byte_size l.size)
size_found test [] l h f = absurd (cc)
size_found test (x ∷ xs) l h f = size_step test x l xs h.0 (size_found test xs l h.1) (test x) refl f

-- ---- links

pub link_octet : (link : ℕ) → IsTrue (is_connection_link link) → IsOctet link
link_octet link e = let p : (nat_le 2 link ≡ true) × (nat_le link 31 ≡ true) = both (nat_le 2 link) (nat_le link 31) e in omega (arith, leb-true link 31 p.1)

number_or : ℕ → Option ℕ → ℕ
number_or d None = d
number_or d (Some n) = n

link_step : (test : ℕ → Bool) (x link : ℕ) (xs : List ℕ) → IsTrue (is_connection_link x) → (find test xs ≡ Some link → IsTrue (is_connection_link link)) → (b : Bool) → test x ≡ b → find test (x ∷ xs) ≡ Some link → IsTrue (is_connection_link link)
unfolding number_or
link_step test x link xs is rest true e f = let same : x ≡ link = (let r : Some x ≡ Some link = rw e at f in ap (number_or x) r) in subst (λ (n : ℕ). IsTrue (is_connection_link n)) same is
link_step test x link xs is rest false e f = rest (rw e at f)

abbrev AreLinks : List ℕ → Type 0
AreLinks [] = Unit {0}
AreLinks (x ∷ xs) = IsTrue (is_connection_link x) × AreLinks xs

link_found : (test : ℕ → Bool) (xs : List ℕ) (link : ℕ) → AreLinks xs → find test xs ≡ Some link → IsTrue (is_connection_link link)
link_found test [] link h f = absurd (cc)
link_found test (x ∷ xs) link h f = link_step test x link xs h.0 (link_found test xs link h.1) (test x) refl f

all_links : AreLinks connection_links
all_links = (refl, (refl, (refl, (refl, (refl, (refl, (refl, (refl, (refl, (refl, (refl, (refl, (refl, (refl, (refl, (refl, (refl, (refl, (refl, (refl, (refl, (refl, (refl, (refl, (refl, (refl, (refl, (refl, (refl, (refl, tt))))))))))))))))))))))))))))))

-- the lowest free link is a connection's
pub free_is_link : (entries : List Entry) (link : ℕ) → free_link entries ≡ Some link → IsTrue (is_connection_link link)
free_is_link entries link is = link_found (λ l. not (list_any (receives_on l) entries)) connection_links link all_links is
