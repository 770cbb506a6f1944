-- The lives of a host with one peer beside the calls of its program, and what comes of it for the host's book.
use Rattle.world_keeps_streams.proofs.Common.{◌≡◌, inl, inr, ℕ, suc, ◌==◌, Bool, true, false, if◌then◌else◌, List, [], ◌∷◌, ◌++◌, drop, length, Some, refl, ap, sym, ◌∙◌, subst, eq-eqb, arith, eqb-true, Contains, Host, entry_at, Entry, AreAllowed, IsHistory, IsTelling, ends_after, gone_now, receiver_now, sender_now, Ask, Asks, Close, Mark, pair_with, Moment, event_in, events_of, program, AreRefusing, keeps, own_calls}
use Rattle.host_keeps_streams.proofs.lemmas.{holds_now, name_of, Holds}
use Rattle.host_keeps_streams.specs.Names.{AreApart, is_among, numbers, named}
use Rattle.host_keeps_streams.specs.Histories as calls
use Rattle.promise.specs.declared.life.Life.{Life}
use Rattle.net_sim.specs.Told.{kept_in}
use Rattle.world_keeps_streams.proofs.Deeds.Effects.{Among}
use Rattle.world_keeps_streams.proofs.Deeds.Kinds.{deed_of}
use Rattle.world_keeps_streams.proofs.Deeds.Law.{receiver_by}
use Rattle.world_keeps_streams.proofs.Deeds.Sent.{sender_by}
use Rattle.world_keeps_streams.proofs.Deeds.Told.{After}
use Rattle.world_keeps_streams.proofs.Deeds.Ends.{Fits, call_does, among_number}
use Rattle.world_keeps_streams.proofs.Carried.Step.{AreOwned, Carry}
use Rattle.world_keeps_streams.proofs.Carried.All.{carry_next}
use Rattle.world_keeps_streams.proofs.Heard.Ends.{heard_ends}
use Rattle.world_keeps_streams.proofs.Heard.Lists.{heard_list, mark_heard}
use Rattle.world_keeps_streams.proofs.Calls.May.{AllMay}

-- ---- calls

-- the request of its partner was heard by these calls, where this many CLS were heard before it; if they follow one another and may be made
abbrev pub Named : (ℕ → ℕ → ℕ → ℕ) → Host → List calls.Moment → ℕ → ℕ → ℕ → ℕ → Type 0
Named number b cs own foreign g v = (link : ℕ) → IsHistory b cs → AreAllowed number b link cs → AllMay cs → (origin : ℕ → ℕ) → Asks g (origin v) (heard_list origin foreign own cs)

-- these lives are beside the laws after these calls, which left these ends
abbrev pub CarryIn : Host → Host → (ℕ → ℕ → ℕ → ℕ) → List calls.Moment → List Entry → List Life → Type 0
CarryIn a b number cs es lives = Carry (Named number b cs) a b number (gone_now b cs) es (λ link. receiver_now number b link cs) (λ link. sender_now number b link cs) lives

-- where nothing was called, and nothing lives
pub carry_none : (a b : Host) (number : ℕ → ℕ → ℕ → ℕ) → CarryIn a b number [] [] []
carry_none a b number = record {
  all = λ x there host peer. absurd there;
  takes = λ link other c. inl (record { taken = refl; granted_messages = refl; granted_bits = refl; returned_messages = refl; returned_bits = refl });
  sends = λ link other c. inl refl;
  opens = λ e there mine o. absurd there;
  linked = λ e there. absurd there;
}

asks_after : (k p : ℕ) (ms w : List Mark) → Asks k p w → Asks k p (ms ++ w)
asks_after k p [] w a = a
asks_after k p (Ask q ∷ ms) w a = inr (asks_after k p ms w a)
asks_after k p (Close ∷ ms) w a = asks_after k p ms w a

found_among : (name : ℕ → ℕ → ℕ) (es : List Entry) → AreApart (numbers name es) → (e : Entry) → Among e es → entry_at e.own e.foreign es ≡ Some e
found_among name [] apart e there = absurd there
found_among name (y ∷ ys) apart e (inl is) = subst (λ (z : Entry). entry_at z.own z.foreign (y ∷ ys) ≡ Some z) is (rw (eq-eqb y.own y.own refl, eq-eqb y.foreign y.foreign refl) refl)
found_among name (y ∷ ys) apart e (inr there) = by (y.own == e.own) (y.foreign == e.foreign) refl refl (found_among name ys apart.1 e there) where
  by : (v w : Bool) → (y.own == e.own) ≡ v → (y.foreign == e.foreign) ≡ w → entry_at e.own e.foreign ys ≡ Some e → entry_at e.own e.foreign (y ∷ ys) ≡ Some e
  by true true f g rest =
      let same : named name y ≡ named name e = ap (λ (n : ℕ). name n y.foreign) (eqb-true y.own e.own f) ∙ ap (λ (n : ℕ). name e.own n) (eqb-true y.foreign e.foreign g) in
      let in_rest : is_among (named name y) (numbers name ys) ≡ true = ap (λ (n : ℕ). is_among n (numbers name ys)) same ∙ among_number name ys e there in
      absurd (let both : true ≡ false = sym in_rest ∙ apart.0 in cc)
  by true false f g rest = rw (f, g) rest
  by false w f g rest = rw f rest

-- one call more: `fits` is what it needs, and each life that continues is that of the one own end on its socket, before it and after it
pub call_next : (number : ℕ → ℕ → ℕ → ℕ) (tells : IsTelling number) (a b : Host) (cs : List calls.Moment) (m : calls.Moment) (lives : List Life)
    → ((link : ℕ) → (link == 0) ≡ false → Holds number tells link (gone_now b cs) m.pair.entries (receiver_now number b link cs) (sender_now number b link cs))
    → AreRefusing m.pair.entries → Fits m.call m.pair → AreOwned a b m.pair.entries lives → AreOwned a b (ends_after b m) (After a b (deed_of m.call m.pair) lives)
    → CarryIn a b number cs m.pair.entries lives → CarryIn a b number (m ∷ cs) (ends_after b m) (After a b (deed_of m.call m.pair) lives)
call_next number tells a b cs m lives holds refusing fits old now c =
    carry_next (Named number b cs) (Named number b (m ∷ cs)) (λ own foreign g v n link i allowed may origin. asks_after g (origin v) (mark_heard origin foreign own m.call) (heard_list origin foreign own cs) (n link i.1 allowed.1 may.1 origin)) number tells a b (gone_now b cs) m.pair.entries (λ link. receiver_now number b link cs) (λ link. sender_now number b link cs) (deed_of m.call m.pair) (ends_after b m)
    (λ link. receiver_now number b link (m ∷ cs)) (λ link. sender_now number b link (m ∷ cs)) lives
    (call_does (name_of number (gone_now b cs)) b m.pair m.listening refusing (holds 2 refl).sound.apart m.call fits)
    (λ link other. receiver_by (name_of number (gone_now b cs)) link m.call m.pair m.listening (receiver_now number b link cs) (holds link other).received)
    (λ link. sender_by (name_of number (gone_now b cs)) link m.call m.pair m.listening (sender_now number b link cs)) old now c
    (λ e there v has link i allowed may origin. heard_ends origin number tells b link (m ∷ cs) i allowed may e.own e.foreign e v (found_among (name_of number (gone_now b (m ∷ cs))) (ends_after b m) (holds_now number tells b link (m ∷ cs) i allowed).sound.apart e there) has)

-- ---- elements of a list

pub among_contains : {A : Type 0} (xs : List A) (x : A) → Among x xs → Contains xs x
among_contains [] x h = absurd h
among_contains (y ∷ ys) x (inl s) = (0, omega arith, s)
among_contains (y ∷ ys) x (inr s) = let k : Contains ys x = among_contains ys x s in (suc k.0, omega (arith, k.1), k.2)

-- ---- a host's book

-- this many lives were in the book where `a` dropped its ends with `b` last
abbrev pub since : Host → Host → List Moment → ℕ
since a b [] = 0
since a b (x ∷ ms) = if keeps a b (event_in x) (events_of ms) then since a b ms else length (kept_in (x ∷ ms)).book.lives

-- the lives since then
abbrev pub recent : Host → Host → List Moment → List Life
recent a b ms = drop (since a b ms) (kept_in ms).book.lives

-- what is to hold after all moments
abbrev pub Carries : (ℕ → ℕ → ℕ → ℕ) → Host → Host → List Moment → Type 0
Carries number a b ms = CarryIn a b number (own_calls a b ms) (pair_with b (program a ms).peers).entries (recent a b ms)
