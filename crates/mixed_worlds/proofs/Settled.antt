-- Where nothing is left to be done among hosts with programs, all their lives agree.
use Rattle.mixed_worlds.proofs.Common.{◌≡◌, ℕ, Bool, true, false, if◌then◌else◌, not, find, List, [], ◌∷◌, Option, None, refl, ap, sym, subst, ◌∙◌, Contains, Host, same_host, same_host-true, Life, Match, NcpState, opening_state, pair_with, Moment, program, crossings_of, without_strangers, lives_among, mixed_kept, IsMixed, HasOpenEnd, mine_on, kept_in, Peer, AreOurs, Network, in_book}
use Rattle.host_pairs.specs.Parcels.{next_of}
use Rattle.std.specs.Prelude.{filter}
use Rattle.interface.specs.Mailboxes as mail
use Rattle.sockets.specs.Sending.{next_out}
use Rattle.world_keeps_streams.proofs.lemmas.{done, silent_next}
use Rattle.mixed_worlds.specs.Laws.{AgreeAmong, HaveSettled}
use Rattle.mixed_worlds.proofs.SameBooks.{other_host, same_lives}
use Rattle.mixed_worlds.proofs.Sockets.{idle}

-- a host has with another that runs the program what it has without the strangers
pair_among : (strange : Host → Bool) (h : Host) (ps : List Peer) → strange h ≡ false
    → pair_with h (filter (λ p. not (strange p.host)) ps) ≡ pair_with h ps
pair_among strange h [] off = refl
pair_among strange h (q ∷ qs) off = by (strange q.host) refl (same_host h q.host) refl (pair_among strange h qs off) where
  by : (b : Bool) → strange q.host ≡ b → (c : Bool) → same_host h q.host ≡ c
      → pair_with h (filter (λ p. not (strange p.host)) qs) ≡ pair_with h qs
      → pair_with h (filter (λ p. not (strange p.host)) (q ∷ qs)) ≡ pair_with h (q ∷ qs)
  by true e true f rest = absurd (let clash : true ≡ false = sym f ∙ other_host strange h q.host off e in cc)
  by true e false f rest = rw (e, f) rest
  by false e true f rest = rw (e, f) refl
  by false e false f rest = rw (e, f) rest

module _ (strange : Host → Bool) (hosts : List Host) (moments : List Moment) (mixed : IsMixed strange hosts moments)
    (settled : HaveSettled strange hosts moments) where
  abbrev all : Network
  all = record { all = hosts; strange = strange }

  -- the host of an open end is up
  up_of : (x : Life) → strange x.host ≡ false → HasOpenEnd (program x.host moments) x
      → mail.is_up hosts x.host (crossings_of moments) ≡ true
  up_of x off o = by (mail.is_up hosts x.host (crossings_of moments)) refl where
    by : (b : Bool) → mail.is_up hosts x.host (crossings_of moments) ≡ b → b ≡ true
    by true e = refl
    by false e =
        absurd (let clash : [] ≡ o.end ∷ [] = sym
        (ap (λ (s : NcpState). mine_on x.socket (pair_with x.peer s.peers).entries) (idle strange hosts x.host off moments mixed e)) ∙ o.one in cc)

  -- it has nothing to say to another that runs the program
  silent_to : (h p : Host) → strange h ≡ false → strange p ≡ false → mail.is_up hosts h (crossings_of moments) ≡ true
      → next_of (pair_with p (program h moments).peers) ≡ None
  silent_to h p off other up =
      ap next_of (sym (pair_among strange p (program h moments).peers other))
      ∙ silent_next (without_strangers strange (program h moments)) p (settled.silent h off up)

  pub settles : AgreeAmong strange moments
  settles x s here there m goes sender_goes end giver =
      let i : Contains (kept_in moments).book.lives x × AreOurs all x.host x.peer = in_book all (kept_in moments).book.lives x (subst (λ (xs : List Life). Contains xs x) (sym (same_lives strange moments)) here) in
      let j : Contains (kept_in moments).book.lives s × AreOurs all s.host s.peer = in_book all (kept_in moments).book.lives s (subst (λ (xs : List Life). Contains xs s) (sym (same_lives strange moments)) there) in
      let up : mail.is_up hosts x.host (crossings_of moments) ≡ true = up_of x i.1.0 end in
      let sender_up : mail.is_up hosts s.host (crossings_of moments) ≡ true = up_of s j.1.0 giver in
      done all moments (mixed.addresses, mixed.run, mixed.happen) x s i.1
      (record {
        there = i.0;
        sender_there = j.0;
        matches = m;
        goes = goes;
        sender_goes = sender_goes;
        end = end;
        giver = giver;
        out = λ link. settled.answered (record { source = x.host; destination = s.host; link = record { 0 = link } }) i.1.0 j.1.0 up sender_up;
        back = λ link. settled.answered (record { source = s.host; destination = x.host; link = record { 0 = link } }) j.1.0 i.1.0 sender_up up;
        next = silent_to x.host s.host i.1.0 j.1.0 up;
        next_back = silent_to s.host x.host j.1.0 i.1.0 sender_up;
      })
