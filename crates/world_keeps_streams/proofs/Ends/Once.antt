-- A text of a host's program asks once for a connection of two sockets, where it goes out and where it comes in.
use Rattle.world_keeps_streams.proofs.Common.{◌≡◌, ℕ, ◌+◌, ◌<◌, ◌≤◌, ◌==◌, Bool, true, false, if◌then◌else◌, List, [], ◌∷◌, ◌++◌, map, take, length, refl, ap, sym, subst, ◌∙◌, arith, Host, same_host, Flow, Crossing, HostMessage, same_flow-true, waits_with, Legal, Order, orders_of, Parcel, Command, HasEnd, Ask, Close, Mark, pair_with, Asked, Crossed, IsNext, Moment, places, program, crossings_of, AreOurs, Network}
use Rattle.pairing_law.specs.Ends.{End, gone}
use Rattle.host_keeps_pairing.specs.Words.{MayAllGo, mark_of, marks_in}
use Rattle.interface.specs.Mailboxes as mail
use Rattle.interface.specs.Mailboxes.{same_flow}
use Rattle.interface.specs.declared.crossing.Crossing.TheVariants as crossing
use Rattle.host_pairs.specs.Allowed.{commands_of}
use Rattle.host_pairs.specs.Parcels as parcel
use Rattle.host_keeps_pairing.specs.Words as words
use Rattle.host_keeps_pairing.proofs.lemmas.{offer_may}
use Rattle.net_sim.proofs.lemmas.{cleared_waits, fetched_waits}
use Rattle.world_keeps_streams.proofs.Ends.Marks.{AllHere, AskOnce, NoAsk, marks_here}
use Rattle.world_keeps_streams.proofs.Ends.Owes.{AData, AReply, AReset, Outs, Several, outs}
use Rattle.world_keeps_streams.proofs.Ends.Ties.{LikeMarks, has_now, itself, law_end, like_marks}
use Rattle.world_keeps_streams.proofs.Requests.Sides.{Lawful, below, coupled_in}

-- ---- marks

-- what may be said asks once at one place
no_more : (place : ℕ) (ms : List Mark) (e : End) (n : ℕ) → AllHere place ms → place < n → MayAllGo ms e n → NoAsk ms
no_more place [] e n here less may = tt
no_more place (Ask p ∷ ms) e n here less may =
    absurd (let le : n ≤ p = may.1 in let at : p ≡ place = here.0 in omega (arith, less, le, at))
no_more place (Close ∷ ms) e n here less may = no_more place ms (gone Close e) n here less may.2

may_once : (place : ℕ) (ms : List Mark) (e : End) (n : ℕ) → AllHere place ms → MayAllGo ms e n → AskOnce ms
may_once place [] e n here may = tt
may_once place (Ask p ∷ ms) e n here may =
    no_more place ms (gone (Ask p) e) (p + 1) here.1 (let at : p ≡ place = here.0 in omega (arith, at)) may.2
may_once place (Close ∷ ms) e n here may = may_once place ms (gone Close e) n here may.2

like_none : (ms ns : List Mark) → LikeMarks ms ns → NoAsk ms → NoAsk ns
like_none [] [] l h = tt
like_none [] (n ∷ ns) l h = absurd l
like_none (Ask p ∷ ms) ns l h = absurd h
like_none (Close ∷ ms) [] l h = absurd l
like_none (Close ∷ ms) (Ask q ∷ ns) l h = absurd l
like_none (Close ∷ ms) (Close ∷ ns) l h = like_none ms ns l h

like_once : (ms ns : List Mark) → LikeMarks ms ns → AskOnce ms → AskOnce ns
like_once [] [] l h = tt
like_once [] (n ∷ ns) l h = absurd l
like_once (Ask p ∷ ms) [] l h = absurd l
like_once (Ask p ∷ ms) (Ask q ∷ ns) l h = like_none ms ns l h
like_once (Ask p ∷ ms) (Close ∷ ns) l h = absurd l
like_once (Close ∷ ms) [] l h = absurd l
like_once (Close ∷ ms) (Ask q ∷ ns) l h = absurd l
like_once (Close ∷ ms) (Close ∷ ns) l h = like_once ms ns l h

legal_marks : (place own foreign : ℕ) (cs : List Command)
    → words.marks place own foreign cs ≡ marks_in place own foreign (map Legal cs)
legal_marks place own foreign [] = refl
legal_marks place own foreign (c ∷ cs) =
    ap (λ (ms : List Mark). mark_of place own foreign c ++ ms) (legal_marks place own foreign cs)

-- ---- where it goes out

-- a text asks once for each two sockets
abbrev OnceIn : List Order → Type 0
OnceIn os = (own foreign place : ℕ) → AskOnce (marks_in place own foreign os)

module _ (hosts : Network) (m : HostMessage) (ms : List Moment) (l : Lawful hosts
    (Crossed (crossing.Out m) ∷ ms)) (ours : AreOurs hosts m.flow.source m.flow.destination) where
  lower : Lawful hosts ms
  lower = below hosts (Crossed (crossing.Out m)) ms l

  n : IsNext (program m.flow.source ms) m
  n = (coupled_in hosts (Crossed (crossing.Out m) ∷ ms) l).story.0 ours.0

  with_peer : AreOurs hosts m.flow.source n.peer.host
  with_peer = (ours.0, subst (λ (g : Host). hosts.strange g ≡ false) (ap (λ (y : HostMessage). y.flow.destination) n.message) ours.1)

  several : (count : ℕ) → n.parcel ≡ parcel.Commands count → OnceIn (map Legal (take count n.peer.pair.queue))
  several count is own foreign place =
      like_once (marks_in (places ms) own foreign (map Legal (take count n.peer.pair.queue)))
      (marks_in place own foreign (map Legal (take count n.peer.pair.queue)))
      (like_marks (places ms) place own foreign (map Legal (take count n.peer.pair.queue)))
      (subst AskOnce (legal_marks (places ms) own foreign (take count n.peer.pair.queue))
      (may_once (places ms) (words.marks (places ms) own foreign (take count n.peer.pair.queue))
      (law_end m.flow.source n.peer.host own foreign ms) (places ms) (marks_here (places ms) own foreign
      (take count n.peer.pair.queue))
      (subst (λ (x : Parcel). MayAllGo (words.marks (places ms) own foreign (commands_of n.peer.pair x))
      (law_end m.flow.source n.peer.host own foreign ms) (places ms)) is
      (offer_may itself own foreign (program m.flow.source ms) (places ms) n.peer n.parcel
      (law_end m.flow.source n.peer.host own foreign ms) (places ms) n.order n.next (omega arith) has)))) where
        has : HasEnd itself own foreign (pair_with n.peer.host (program m.flow.source ms).peers)
            (law_end m.flow.source n.peer.host own foreign ms)
        has = has_now hosts ms lower m.flow.source n.peer.host with_peer own foreign

  out_once : (m.flow.link.0 == 0) ≡ true → OnceIn (orders_of m.text)
  out_once zero = by (outs hosts ms lower m.flow.source m n with_peer) where
    by : Outs n.peer.pair n.parcel m → OnceIn (orders_of m.text)
    by (AReset wanted at orders is) = subst OnceIn (sym orders) (λ own foreign place. tt)
    by (AReply owed at orders is) = subst OnceIn (sym orders) (λ own foreign place. tt)
    by (Several count is at orders) = subst OnceIn (sym orders) (several count is)
    by (AData d size count is away) = absurd (let no : true ≡ false = sym zero ∙ away in cc)

-- ---- where it comes in

abbrev AllOnce : Network → List Crossing → Type 0
AllOnce hosts [] = Unit {0}
AllOnce hosts (crossing.Out m ∷ log) = (AreOurs hosts m.flow.source m.flow.destination → (m.flow.link.0 == 0) ≡ true → OnceIn (orders_of m.text)) × AllOnce hosts log
AllOnce hosts (c ∷ log) = AllOnce hosts log

all_once : (hosts : Network) (ms : List Moment) → Lawful hosts ms → AllOnce hosts (crossings_of ms)
all_once hosts [] l = tt
all_once hosts (Crossed (crossing.Out m) ∷ ms) l =
    (out_once hosts m ms l, all_once hosts ms (below hosts (Crossed (crossing.Out m)) ms l))
all_once hosts (Crossed (crossing.In m) ∷ ms) l = all_once hosts ms (below hosts (Crossed (crossing.In m)) ms l)
all_once hosts (Crossed (crossing.Answer kind f) ∷ ms) l =
    all_once hosts ms (below hosts (Crossed (crossing.Answer kind f)) ms l)
all_once hosts (Crossed (crossing.Down h) ∷ ms) l = all_once hosts ms (below hosts (Crossed (crossing.Down h)) ms l)
all_once hosts (Crossed (crossing.Up h) ∷ ms) l = all_once hosts ms (below hosts (Crossed (crossing.Up h)) ms l)
all_once hosts (Asked h r ∷ ms) l = all_once hosts ms (below hosts (Asked h r) ms l)

abbrev text_in : mail.Box → List Bool
text_in mail.Empty = []
text_in (mail.Waiting place text) = text
text_in (mail.Taken place text) = text

-- what waits went out
waits_once : (hosts : Network) (f : Flow) → AreOurs hosts f.source f.destination → (p : ℕ) (text : List Bool) (log : List Crossing) → (f.link.0 == 0) ≡ true → AllOnce hosts log
    → mail.box_of f log ≡ mail.Waiting p text → OnceIn (orders_of text)
waits_once hosts f ours p text [] zero all is = absurd (let none : mail.Empty ≡ mail.Waiting p text = is in cc)
waits_once hosts f ours p text (crossing.Out m ∷ log) zero all is =
    by (same_flow f m.flow) refl is (λ w. waits_once hosts f ours p text log zero all.1 w) where
      by : (v : Bool) → same_flow f m.flow ≡ v
          → (if v then mail.Waiting (length log) m.text else mail.box_of f log) ≡ mail.Waiting p text
          → (mail.box_of f log ≡ mail.Waiting p text → OnceIn (orders_of text)) → OnceIn (orders_of text)
      by true e w rest =
          subst (λ (t : List Bool). OnceIn (orders_of t)) (ap text_in w) (all.0 (subst (λ (g : Flow). AreOurs hosts g.source g.destination) (same_flow-true f m.flow e) ours)
          (ap (λ (g : Flow). g.link.0 == 0) (sym (same_flow-true f m.flow e)) ∙ zero))
      by false e w rest = rest w
waits_once hosts f ours p text (crossing.In m ∷ log) zero all is =
    waits_once hosts f ours p text log zero all (fetched_waits (mail.box_of f log) p text _ is)
waits_once hosts f ours p text (crossing.Answer kind g ∷ log) zero all is =
    waits_once hosts f ours p text log zero all (cleared_waits _ p text _ is)
waits_once hosts f ours p text (crossing.Down h ∷ log) zero all is = waits_once hosts f ours p text log zero all is
waits_once hosts f ours p text (crossing.Up h ∷ log) zero all is =
    waits_once hosts f ours p text log zero all (cleared_waits _ p text _ is)

pub in_once : (hosts : Network) (m : HostMessage) (ms : List Moment) → Lawful hosts (Crossed (crossing.In m) ∷ ms)
    → AreOurs hosts m.flow.source m.flow.destination → (m.flow.link.0 == 0) ≡ true → (own foreign place : ℕ) → AskOnce (marks_in place own foreign (orders_of m.text))
in_once hosts m ms l ours zero =
    let w : (place : ℕ) × (mail.box_of m.flow (crossings_of ms) ≡ mail.Waiting place m.text) =
    waits_with (mail.box_of m.flow (crossings_of ms)) m.text l.1.0.1 in
    waits_once hosts m.flow ours w.0 m.text (crossings_of ms) zero (all_once hosts ms
    (below hosts (Crossed (crossing.In m)) ms l)) w.1
