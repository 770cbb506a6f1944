-- The end of two sockets in a host's program as the law of pairing has it, where a partner's request is named by the place at which it was taken.
use Rattle.world_keeps_streams.proofs.Common.{◌≡◌, ℕ, ◌==◌, Bool, true, false, not, ◌&&◌, ◌||◌, if◌then◌else◌, List, [], ◌∷◌, ◌++◌, filter, Option, Some, None, is_some, refl, ap, sym, subst, ◌∙◌, eq-eqb, eqb-true, Host, Legal, Order, Wrong, is_at, is_mine_on, is_sent, PairState, Entry, both, Command, Ask, Close, Mark, HasEnd, Stand, Standing, at, came_from, end_of, is_past, standing, AllFit, mark_of, marks, marks_in, pair_with, Moment, program, crossings_of, Coupled, HasOpenEnd, origin_in, AreOurs, Network}
use Rattle.pairing_law.specs.Ends.{End, mark_taken, nothing}
use Rattle.host_keeps_pairing.proofs.lemmas.{live_end, plain}
use Rattle.world_keeps_pairing.proofs.lemmas.{AllBare, AllTied, all_bare, all_tied, are_origins, served_in}
use Rattle.ncp_control.specs.declared.command.Command.TheVariants as command
use Rattle.promise.specs.declared.life.Life.{Life}
use Rattle.world_keeps_streams.proofs.Books.Arrives.{end_at}
use Rattle.world_keeps_streams.proofs.Calls.MayHear.{has_end}
use Rattle.world_keeps_streams.proofs.Deeds.Effects.{Among, among_kept, among_mapped}
use Rattle.world_keeps_streams.proofs.Lives.Left.{stands_as}
use Rattle.world_keeps_streams.proofs.Requests.Sides.{Lawful, coupled_in}
use Rattle.world_keeps_pairing.proofs.lemmas as served

abbrev pub itself : ℕ → ℕ
itself n = n

abbrev pub end_in : List Standing → End
end_in [] = nothing
end_in (s ∷ ss) = end_of itself s

-- that of a host's program with a peer
abbrev pub law_end : Host → Host → ℕ → ℕ → List Moment → End
law_end h p own foreign ms = end_in (at own foreign (pair_with p (program h ms).peers).entries)

-- ---- the same, but for the names of requests

pub record Alike (x y : End) : Type 0 where
  pub asked : x.asked ≡ y.asked
  pub partner : is_some x.partner ≡ is_some y.partner
  pub gone : x.gone ≡ y.gone
  pub taken : x.taken ≡ y.taken

alike_itself : (x : End) → Alike x x
alike_itself x = record { asked = refl; partner = refl; gone = refl; taken = refl }

came_some : (origin : ℕ → ℕ) (o : Option ℕ) → is_some (came_from origin o) ≡ is_some (came_from itself o)
came_some origin None = refl
came_some origin (Some n) = refl

alike_end : (origin : ℕ → ℕ) (s : Standing) → Alike (end_of origin s) (end_of itself s)
alike_end origin s = by (is_past s) where
  by : (v : Bool) → Alike (if v then nothing else plain origin s) (if v then nothing else plain itself s)
  by true = alike_itself nothing
  by false = record { asked = refl; partner = came_some origin s.partner; gone = refl; taken = refl }

alike_in : (origin : ℕ → ℕ) (place : ℕ) (ss : List Standing) (words : List Mark) (x : End) → Stand true origin place ss words x → Alike x (end_in ss)
alike_in origin place [] words x h = subst (λ (y : End). Alike y nothing) (sym h.1) (alike_itself nothing)
alike_in origin place (s ∷ []) words x h = subst (λ (y : End). Alike y (end_of itself s)) (sym h.2) (alike_end origin s)
alike_in origin place (s ∷ t ∷ ss) words x h = absurd h

stand_in : (origin : ℕ → ℕ) (place : ℕ) (ss : List Standing) (words : List Mark) (x : End) → Stand true origin place ss words x → Stand true itself place ss words (end_in ss)
stand_in origin place [] words x h = (h.0, refl)
stand_in origin place (s ∷ []) words x h = (h.0, h.1, refl)
stand_in origin place (s ∷ t ∷ ss) words x h = absurd h

fields : (a b : Option ℕ) (c d : Bool) → a ≡ None → b ≡ None → c ≡ false → d ≡ false → (let e : End = record { asked = a; partner = b; gone = c; taken = d } in e) ≡ nothing
fields a b c d e f g h = rw (e, f, g, h) refl

came_none : (origin : ℕ → ℕ) (o : Option ℕ) → came_from origin o ≡ None → came_from itself o ≡ None
came_none origin None e = refl
came_none origin (Some n) e = absurd (let no : Some (origin n) ≡ None = e in cc)

none_in : (origin : ℕ → ℕ) (place : ℕ) (ss : List Standing) (words : List Mark) (x : End) → Stand true origin place ss words x → x ≡ nothing → end_in ss ≡ nothing
none_in origin place [] words x h none = refl
none_in origin place (s ∷ []) words x h none = by (is_past s) refl where
  by : (v : Bool) → is_past s ≡ v → end_of itself s ≡ nothing
  by true e = ap (λ (v : Bool). if v then nothing else plain itself s) e
  by false e =
      let is : plain origin s ≡ nothing = sym (h.2 ∙ live_end origin s e) ∙ none in
      live_end itself s e
      ∙ fields s.asked _ _ s.partner_closed (ap (λ (y : End). y.asked) is) (came_none origin s.partner (ap (λ (y : End). y.partner) is)) (ap (λ (y : End). y.gone) is) (ap (λ (y : End). y.taken) is)
none_in origin place (s ∷ t ∷ ss) words x h none = absurd h

pub has_in : (origin : ℕ → ℕ) (own foreign : ℕ) (q : PairState) (x : End) → HasEnd origin own foreign q x → HasEnd itself own foreign q (end_in (at own foreign q.entries))
has_in origin own foreign q x h = record {
  ends = λ place. stand_in origin place (at own foreign q.entries) (marks place own foreign q.queue) x (h.ends place);
  idle = λ i. none_in origin 0 (at own foreign q.entries) (marks 0 own foreign q.queue) x (h.ends 0) (h.idle i);
}

pub alike : (origin : ℕ → ℕ) (own foreign : ℕ) (q : PairState) (x : End) → HasEnd origin own foreign q x → Alike x (end_in (at own foreign q.entries))
alike origin own foreign q x h = alike_in origin 0 _ _ x (h.ends 0)

-- there is one
pub once : (own foreign : ℕ) (q : PairState) (x : End) → HasEnd itself own foreign q x → end_in (at own foreign q.entries) ≡ x
once own foreign q x h = by (at own foreign q.entries) (h.ends 0) where
  by : (ss : List Standing) → Stand true itself 0 ss (marks 0 own foreign q.queue) x → end_in ss ≡ x
  by [] s = sym s.1
  by (t ∷ []) s = sym s.2
  by (t ∷ u ∷ ss) s = absurd s

-- ---- what is heard in order by one is so by the other

abbrev pub LikeMarks : List Mark → List Mark → Type 0
LikeMarks [] [] = Unit {0}
LikeMarks (Ask p ∷ ms) (Ask q ∷ ns) = LikeMarks ms ns
LikeMarks (Close ∷ ms) (Close ∷ ns) = LikeMarks ms ns
LikeMarks ms ns = ⊥

like_when_ask : (p q : ℕ) (v : Bool) (ms ns : List Mark) → LikeMarks ms ns → LikeMarks ((if v then Ask p ∷ [] else []) ++ ms) ((if v then Ask q ∷ [] else []) ++ ns)
like_when_ask p q true ms ns h = h
like_when_ask p q false ms ns h = h

like_when_close : (v : Bool) (ms ns : List Mark) → LikeMarks ms ns → LikeMarks ((if v then Close ∷ [] else []) ++ ms) ((if v then Close ∷ [] else []) ++ ns)
like_when_close true ms ns h = h
like_when_close false ms ns h = h

like_mark : (p q own foreign : ℕ) (c : Command) (ms ns : List Mark) → LikeMarks ms ns → LikeMarks (mark_of p own foreign c ++ ms) (mark_of q own foreign c ++ ns)
like_mark p q own foreign (command.Rts r n l) ms ns h = like_when_ask p q _ ms ns h
like_mark p q own foreign (command.Str n r size) ms ns h = like_when_ask p q _ ms ns h
like_mark p q own foreign (command.Cls a b) ms ns h = like_when_close _ ms ns h
like_mark p q own foreign c ms ns h = h

pub like_marks : (p q own foreign : ℕ) (os : List Order) → LikeMarks (marks_in p own foreign os)
    (marks_in q own foreign os)
like_marks p q own foreign [] = tt
like_marks p q own foreign (Legal c ∷ os) = like_mark p q own foreign c _ _ (like_marks p q own foreign os)
like_marks p q own foreign (Wrong code octets ∷ os) = like_marks p q own foreign os

fit_alike : (ms ns : List Mark) (x y : End) → Alike x y → LikeMarks ms ns → AllFit ms x → AllFit ns y
fit_alike [] [] x y a l fit = tt
fit_alike [] (n ∷ ns) x y a l fit = absurd l
fit_alike (Ask p ∷ ms) [] x y a l fit = absurd l
fit_alike (Close ∷ ms) [] x y a l fit = absurd l
fit_alike (Ask p ∷ ms) (Close ∷ ns) x y a l fit = absurd l
fit_alike (Close ∷ ms) (Ask q ∷ ns) x y a l fit = absurd l
fit_alike (Ask p ∷ ms) (Ask q ∷ ns) x y a l fit = (
  ap (λ (v : Bool). not v && not y.taken) (sym a.partner) ∙ ap (λ (v : Bool). not (is_some x.partner) && not v) (sym a.taken) ∙ fit.0,
  fit_alike ms ns (mark_taken (Ask p) x) (mark_taken (Ask q) y) (record { asked = a.asked; partner = refl; gone = a.gone; taken = a.taken }) l fit.1,
)
fit_alike (Close ∷ ms) (Close ∷ ns) x y a l fit = (
  ap (λ (o : Option ℕ). (is_some o || is_some y.partner) && not y.taken) (sym a.asked) ∙ ap (λ (v : Bool). (is_some x.asked || v) && not y.taken) (sym a.partner)
      ∙ ap (λ (v : Bool). (is_some x.asked || is_some x.partner) && not v) (sym a.taken) ∙ fit.0,
  fit_alike ms ns (mark_taken Close x) (mark_taken Close y) (by x.gone y.gone a.gone) l fit.1,
) where
  by : (v w : Bool) → v ≡ w → Alike (if v then nothing else record x { taken = true }) (if w then nothing else record y { taken = true })
  by true true e = alike_itself nothing
  by false false e = record { asked = a.asked; partner = a.partner; gone = a.gone; taken = refl }
  by true false e = absurd (let no : true ≡ false = e in cc)
  by false true e = absurd (let no : false ≡ true = e in cc)

pub fits_here : (origin : ℕ → ℕ) (own foreign : ℕ) (q : PairState) (x : End) (n place : ℕ) (os : List Order) → HasEnd origin own foreign q x → AllFit (marks_in n foreign own os) x → AllFit (marks_in place foreign own os) (end_in (at own foreign q.entries))
fits_here origin own foreign q x n place os h fit =
    fit_alike _ _ x _ (alike origin own foreign q x h) (like_marks n place foreign own os) fit

-- the end of a life that continues
pub record IsGoing (x : Life) (e : End) : Type 0 where
  pub asked : e.asked ≡ Some x.own_stamp
  pub partner : e.partner ≡ Some x.partner_stamp
  pub live : (e.gone && e.taken) ≡ false

-- ---- at all moments

module _ (hosts : Network) (ms : List Moment) (l : Lawful hosts ms) where
  pub has_now : (h p : Host) → AreOurs hosts h p → (own foreign : ℕ) → HasEnd itself own foreign (pair_with p (program h ms).peers) (law_end h p own foreign ms)
  has_now h p ours own foreign = has_in (origin_in (crossings_of ms) h p) own foreign (pair_with p (program h ms).peers) found.0 found.1 where
    c : Coupled hosts ms
    c = coupled_in hosts ms l

    tied : AllTied hosts (origin_in (crossings_of ms)) ms
    tied = all_tied hosts (origin_in (crossings_of ms)) ms (are_origins 0 (crossings_of ms) [] ms refl) c.story c.run (served.served_in hosts ms l.2)

    bare : AllBare hosts (origin_in (crossings_of ms)) ms
    bare = all_bare hosts (origin_in (crossings_of ms)) ms (are_origins 0 (crossings_of ms) [] ms refl) c.story c.run l.1 (served.served_in hosts ms l.2)

    found : (x : End) × HasEnd (origin_in (crossings_of ms) h p) own foreign (pair_with p (program h ms).peers) x
    found = has_end hosts (origin_in (crossings_of ms)) ms tied bare h p ours own foreign

  -- each end of the two sockets is that one
  pub entry_is : (h p : Host) → AreOurs hosts h p → (own foreign : ℕ) (e : Entry) → Among e (pair_with p (program h ms).peers).entries → e.own ≡ own → e.foreign ≡ foreign → (law_end h p own foreign ms ≡ plain itself (standing e)) × (is_past (standing e) ≡ false)
  entry_is h p ours own foreign e there is at_it =
      let here : is_at own foreign e ≡ true = (let a : (e.own == own) ≡ true = eq-eqb e.own own is in let b : (e.foreign == foreign) ≡ true = eq-eqb e.foreign foreign at_it in rw (a, b) refl) in
      let s : (law_end h p own foreign ms ≡ end_of itself (standing e)) × (is_past (standing e) ≡ false) =
      stands_as itself 0 (at own foreign (pair_with p (program h ms).peers).entries) (marks 0 own foreign (pair_with p (program h ms).peers).queue) (law_end h p own foreign ms) (standing e) ((has_now h p ours own foreign).ends 0)
      (among_mapped standing (filter (is_at own foreign) (pair_with p (program h ms).peers).entries) e (among_kept (is_at own foreign) (pair_with p (program h ms).peers).entries e there here)) in
      (s.0 ∙ live_end itself (standing e) s.1, s.1)

  -- it is the end of a life that continues
  pub going : (x : Life) → AreOurs hosts x.host x.peer → HasOpenEnd (program x.host ms) x → IsGoing x (law_end x.host x.peer x.socket x.foreign ms)
  going x ours h = record {
    asked = ap (λ (e : End). e.asked) is ∙ h.own;
    partner = ap (λ (e : End). e.partner) is ∙ ap (came_from itself) h.partner;
    live = ap (λ (e : End). e.gone && e.taken) is ∙ at_it.1;
  } where
    there : Among h.end (pair_with x.peer (program x.host ms).peers).entries × (is_mine_on x.socket h.end ≡ true)
    there = end_at x _ h

    at_it : (law_end x.host x.peer x.socket x.foreign ms ≡ plain itself (standing h.end)) × (is_past (standing h.end) ≡ false)
    at_it = entry_is x.host x.peer ours x.socket x.foreign h.end there.0 (eqb-true h.end.own x.socket (both h.end.mine _ there.1).1) h.foreign

    is : law_end x.host x.peer x.socket x.foreign ms ≡ plain itself (standing h.end)
    is = at_it.0
