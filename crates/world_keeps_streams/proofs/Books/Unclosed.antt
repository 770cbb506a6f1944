-- Two lives between whose hosts nothing is left to be done: nobody has closed their ends, but for a sender that drains.
use Rattle.world_keeps_streams.proofs.Common.{◌≡◌, inl, inr, ℕ, Bool, true, false, List, [], ◌∷◌, ◌++◌, Option, Some, None, refl, ap, sym, subst, ◌∙◌, Host, is_receive_socket, is_send_socket, Command, End, Close, entry_at, is_answered, is_busy, is_open, is_receiving, was_closed, Closing, Entry, marks, has_opened, pair_with, Moment, program, crossings_of, origin_in, Network, AreOurs}
use Rattle.host_keeps_pairing.specs.Ends.{Stand, Standing, standing, close_waits, request_due}
use Rattle.host_keeps_pairing.proofs.lemmas.{found_at}
use Rattle.world_keeps_lives.proofs.lemmas.{IsOfTwo}
use Rattle.world_keeps_streams.specs.Rests.{AreSilent}
use Rattle.host_pairs.specs.declared.entry.Closing.TheVariants as closing
use Rattle.promise.specs.declared.life.Life.{Life}
use Rattle.world_keeps_streams.proofs.Books.Arrives.{end_at}
use Rattle.world_keeps_streams.proofs.Books.Closes as closes
use Rattle.world_keeps_streams.proofs.Books.One as one
use Rattle.world_keeps_streams.proofs.Books.One.{HasPartner}
use Rattle.world_keeps_streams.proofs.Books.Silent as silent
use Rattle.world_keeps_streams.proofs.Deeds.Effects.{Among}
use Rattle.world_keeps_streams.proofs.Requests.Sides.{Lawful}
use Rattle.world_keeps_streams.proofs.Tidy.Pairs.{Each, IsTidy}
use Rattle.world_keeps_streams.proofs.Tidy.Programs.{all_tidy}
use Rattle.world_keeps_streams.proofs.Tidy.Two as two
use Rattle.world_keeps_streams.proofs.Ours.{has_ends, ours_sender}

-- ---- a CLS that waits

-- what an end still has to say isn't nothing while its CLS waits
nothing_due : (place : ℕ) (mine : Bool) (asked : Option ℕ) → [] ≡ request_due place mine asked ++ Close ∷ [] → ⊥
nothing_due place true None e = absurd (cc)
nothing_due place true (Some n) e = absurd (cc)
nothing_due place false asked e = absurd (cc)

none_stands : (origin : ℕ → ℕ) (e : Entry) (rest : List Standing) (x : End) → Stand true origin 0 (standing e ∷ rest) [] x → e.closing ≡ closing.Queued → ⊥
none_stands origin e [] x h is = nothing_due 0 e.mine e.asked (h.1 ∙ ap (λ (c : Closing). request_due 0 e.mine e.asked ++ close_waits c) is)
none_stands origin e (s ∷ rest) x h is = h

-- of no end where no command waits
unqueued : (hosts : Network) (ms : List Moment) → Lawful hosts ms → (a b : Host) → AreOurs hosts a b
    → (own foreign : ℕ) (e : Entry) → IsOfTwo own foreign → (pair_with b (program a ms).peers).queue ≡ []
    → entry_at own foreign (pair_with b (program a ms).peers).entries ≡ Some e → e.closing ≡ closing.Queued → ⊥
unqueued hosts ms l a b ours own foreign e of_two none found =
    let has : (x : End) × Stand true (origin_in (crossings_of ms) a b) 0 (standing e ∷ (found_at own foreign (pair_with b (program a ms).peers).entries e found).rest) [] x = (
      (has_ends hosts ms l.0 l.1 l.2 a b ours own foreign of_two).0,
      subst (λ (cs : List Command). Stand true (origin_in (crossings_of ms) a b) 0 (standing e ∷ (found_at own foreign (pair_with b (program a ms).peers).entries e found).rest) (marks 0 own foreign cs) (has_ends hosts ms l.0 l.1 l.2 a b ours own foreign of_two).0) none
          (subst (λ (ss : List Standing). Stand true (origin_in (crossings_of ms) a b) 0 ss (marks 0 own foreign (pair_with b (program a ms).peers).queue) (has_ends hosts ms l.0 l.1 l.2 a b ours own foreign of_two).0)
          (found_at own foreign (pair_with b (program a ms).peers).entries e found).first ((has_ends hosts ms l.0 l.1 l.2 a b ours own foreign of_two).1.ends 0)),
    ) in
    none_stands (origin_in (crossings_of ms) a b) e (found_at own foreign (pair_with b (program a ms).peers).entries e found).rest has.0 has.1

-- ---- an end of a program

each_among : (Q : Entry → Type 0) (es : List Entry) (e : Entry) → Among e es → Each Q es → Q e
each_among Q [] e i h = absurd i
each_among Q (z ∷ zs) e (inl same) h = subst Q same h.0
each_among Q (z ∷ zs) e (inr i) h = each_among Q zs e i h.1

pub all_answered : (busy : List ℕ) → ((k : ℕ) → is_busy busy k ≡ false) → (o : Option ℕ) → is_answered busy o ≡ true
all_answered busy free None = refl
all_answered busy free (Some k) = let none : is_busy busy k ≡ false = free k in rw none refl

-- ---- two lives

module _ (hosts : Network) (ms : List Moment) (l : Lawful hosts ms) (x s : Life) (f : closes.AtLink hosts ms x) (q : HasPartner ms x s) (quiet : AreSilent x.host s.host ms)
    (free : (k : ℕ) → is_busy (pair_with s.peer (program s.host ms).peers).busy k ≡ false) where
  mine : IsTidy (pair_with x.peer (program x.host ms).peers).busy f.end.end
  mine = each_among (IsTidy (pair_with x.peer (program x.host ms).peers).busy) (pair_with x.peer (program x.host ms).peers).entries f.end.end (closes.at_it hosts ms l x f).0 (all_tidy hosts l.0 ms l.1 l.2 x.host f.ours.0 x.peer)

  theirs : IsTidy (pair_with s.peer (program s.host ms).peers).busy q.end.end
  theirs = each_among (IsTidy (pair_with s.peer (program s.host ms).peers).busy) (pair_with s.peer (program s.host ms).peers).entries q.end.end (end_at s (program s.host ms) q.end).0 (all_tidy hosts l.0 ms l.1 l.2 s.host (ours_sender hosts q.matches f.ours).0 s.peer)

  receiving : is_receiving f.end.end ≡ true
  receiving = ap is_receive_socket (closes.own hosts ms l x f) ∙ f.receiving

  of_two : IsOfTwo x.socket x.foreign
  of_two = inl (f.receiving, ap is_send_socket q.matches.sockets.0 ∙ q.matches.sending)

  waits : f.end.end.closing ≡ closing.Queued → ⊥
  waits =
      unqueued hosts ms l x.host x.peer f.ours x.socket x.foreign f.end.end of_two (subst (λ (h : Host). (pair_with h (program x.host ms).peers).queue ≡ []) (sym q.matches.peers.0) quiet.queue)
      (one.taker_found hosts ms l x s f q 1 (silent.j hosts ms l x s f q 0))

  taker_opened : has_opened f.end.end ≡ true
  taker_opened = (let own : f.end.end.asked ≡ Some x.own_stamp = f.end.own in let partner_is : f.end.end.partner ≡ Some x.partner_stamp = f.end.partner in rw (own, partner_is) refl)

  pub taker_open : is_open f.end.end ≡ true
  taker_open =
      two.taker_open (pair_with x.peer (program x.host ms).peers).busy (pair_with s.peer (program s.host ms).peers).busy f.end.end q.end.end mine theirs receiving (all_answered (pair_with s.peer (program s.host ms).peers).busy free q.end.end.link) waits
      (closes.law hosts ms l x f).live (silent.taker_heard hosts ms l x s f q quiet) (silent.giver_heard hosts ms l x s f q quiet) taker_opened

  pub unclosed : (was_closed f.end.end ≡ false) × (is_open q.end.end ≡ true) × (was_closed q.end.end ≡ true → q.end.end.bits ≡ [] → ⊥)
  unclosed =
      two.unclosed (pair_with x.peer (program x.host ms).peers).busy (pair_with s.peer (program s.host ms).peers).busy f.end.end q.end.end mine theirs receiving (all_answered (pair_with s.peer (program s.host ms).peers).busy free q.end.end.link) waits
      (closes.law hosts ms l x f).live (silent.taker_heard hosts ms l x s f q quiet) (silent.giver_heard hosts ms l x s f q quiet) (silent.giver_opened hosts ms l x s f q)
