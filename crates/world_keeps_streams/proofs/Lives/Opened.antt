-- A life that begins by a moment: before it no CLS of its end was queued or taken. So it isn't over by the moment.
use Rattle.world_keeps_streams.proofs.Common.{AreCommands, ◌≡◌, inl, inr, ℕ, zero, suc, ◌<◌, ◌==◌, Bool, true, false, List, [], ◌∷◌, length, slice_index_or, Option, Some, None, refl, ap, subst, ◌∙◌, arith, sym, Contains, Host, or_false, is_send_socket, entry_at, has_cls, is_at, is_ending, is_sent, Closing, Entry, Notice, both, eqb-true, pair_with, Asked, Crossed, IsStory, Moment, places, program, crossings_of, host_in, notices_by, Coupled, origin_in, Network, AreOurs, pair_range}
use Rattle.world_keeps_pairing.proofs.lemmas.{all_tied, are_origins, served_in, programs_ranged}
use Rattle.world_keeps_lives.proofs.lemmas.{unopened, Each, IsNoOpening}
use Rattle.interface.specs.declared.crossing.Crossing.TheVariants as crossing
use Rattle.host_pairs.specs.declared.entry.Closing.TheVariants as closing
use Rattle.host_pairs.specs.declared.notice.Notice.TheVariants as notice
use Rattle.pairing_law.specs.Links.{Receiver}
use Rattle.promise.specs.declared.life.Life.{Life}
use Rattle.promise.specs.Safe.{receives}
use Rattle.world_keeps_streams.proofs.Deeds.Effects.{Among, found_among}
use Rattle.world_keeps_streams.proofs.Lives.Fates.{IsEnd, IsOpening, TellsEnd, TellsOpening}
use Rattle.world_keeps_streams.proofs.Lives.LeavesEnds.{answer_quiet, quiet_tells, request_quiet}
use Rattle.world_keeps_streams.proofs.Lives.Left.{at_it, none_found, one_tied}
use Rattle.world_keeps_streams.proofs.Lives.Unended.{IsNoEnding, heard_lasts, said_lasts}
use Rattle.world_keeps_streams.proofs.Requests.Sides.{Lawful, coupled_in, below}

-- ---- lists

contains_from : {A : Type 0} (xs : List A) (x : A) (k : ℕ) → k < length xs → slice_index_or xs k x ≡ x → Among x xs
contains_from [] x k l e = absurd (omega (arith, l))
contains_from (y ∷ ys) x zero l e = inl e
contains_from (y ∷ ys) x (suc k) l e = inr (contains_from ys x k (omega (arith, l)) e)

pub contains_among : {A : Type 0} (xs : List A) (x : A) → Contains xs x → Among x xs
contains_among xs x c = contains_from xs x c.0 c.1 c.2

-- ---- notices

no_opening : (x : Life) (n : Notice) → IsNoOpening x.peer x.socket x.foreign n → IsOpening x n → ⊥
no_opening x (notice.Opened s q f a b) k o = k o.0 o.1 o.2
no_opening x n k o = o

pub no_openings : (x : Life) (ns : List Notice) → Each (IsNoOpening x.peer x.socket x.foreign) ns → TellsOpening x ns → ⊥
no_openings x [] k t = t
no_openings x (n ∷ ns) k (inl o) = no_opening x n k.0 o
no_openings x (n ∷ ns) k (inr t) = no_openings x ns k.1 t

no_ending : (x : Life) (n : Notice) → IsNoEnding x.peer x.socket x.foreign n → IsEnd x n → ⊥
no_ending x (notice.Ended s q f) k o = k o.0 o.1 o.2
no_ending x n k o = o

no_endings : (x : Life) (ns : List Notice) → Each (IsNoEnding x.peer x.socket x.foreign) ns → TellsEnd x ns → ⊥
no_endings x [] k t = t
no_endings x (n ∷ ns) k (inl o) = no_ending x n k.0 o
no_endings x (n ∷ ns) k (inr t) = no_endings x ns k.1 t

not_sent : (c : Closing) → has_cls c ≡ false → is_sent c ≡ false
not_sent closing.Sent e = e
not_sent c e = refl

-- where none of the ends of a life's sockets is ending before a moment, none goes by it
stays_there : (hosts : Network) (y : Moment) (ms : List Moment) (x : Life) → hosts.strange (host_in y) ≡ false
    → IsStory hosts (y ∷ ms)
    → ((a b : Host) → hosts.strange a ≡ false → AreCommands (pair_with b (program a ms).peers).queue)
    → ((e : Entry) → Among e (pair_with x.peer (program (host_in y) ms).peers).entries → e.own ≡ x.socket → e.foreign ≡ x.foreign → is_ending e ≡ false)
    → TellsEnd x (notices_by y ms) → ⊥
stays_there hosts (Crossed (crossing.Out m)) ms x plain story ok goes t =
    no_endings x _ (said_lasts x.peer x.socket x.foreign _ _ _ _ (story.0 plain).order (story.0 plain).next
    (ok m.flow.source (story.0 plain).peer.host plain) (λ e i own foreign. (or_false (has_cls e.closing) e.partner_closed (goes e i own foreign)).1)) t
stays_there hosts (Crossed (crossing.In m)) ms x plain story ok goes t =
    no_endings x _ (heard_lasts x.peer x.socket x.foreign _ m _
    (λ e i own foreign. not_sent e.closing (or_false (has_cls e.closing) e.partner_closed (goes e i own foreign)).0)) t
stays_there hosts (Crossed (crossing.Answer kind f)) ms x plain story ok goes t = quiet_tells x _ (answer_quiet (program f.source ms) (places ms) kind f) t
stays_there hosts (Crossed (crossing.Down g)) ms x plain story ok goes t = t
stays_there hosts (Crossed (crossing.Up g)) ms x plain story ok goes t = t
stays_there hosts (Asked g r) ms x plain story ok goes t = quiet_tells x _ (request_quiet (program g ms) (places ms) r) t

-- ---- a life that begins

module _ (hosts : Network) (y : Moment) (ms : List Moment) (l : Lawful hosts (y ∷ ms)) (x : Life)
    (ours : AreOurs hosts x.host x.peer) (kind : receives x ≡ true) (sends : is_send_socket x.foreign ≡ true)
    (host : host_in y ≡ x.host) (opens : TellsOpening x (notices_by y ms)) where
  old : Lawful hosts ms
  old = below hosts y ms l

  here : hosts.strange (host_in y) ≡ false
  here = subst (λ (h : Host). hosts.strange h ≡ false) (sym host) ours.0

  -- not all its ends were ending before
  not_shut : ((e : Entry) → Among e (pair_with x.peer (program x.host ms).peers).entries → e.own ≡ x.socket → e.foreign ≡ x.foreign → is_ending e ≡ true) → ⊥
  not_shut shut =
      no_openings x (notices_by y ms)
      (unopened x.peer x.socket x.foreign hosts old.0 ms old.1 old.2 y here (coupled_in hosts (y ∷ ms) l).story
      (λ e there own foreign. shut e (contains_among (pair_with x.peer (program x.host ms).peers).entries e (subst (λ (h : Host). Contains (pair_with x.peer (program h ms).peers).entries e) host there)) own foreign)) opens

  pub record Before : Type 0 where
    pub end : Entry
    pub there : Among end (pair_with x.peer (program x.host ms).peers).entries
    pub own : end.own ≡ x.socket
    pub foreign : end.foreign ≡ x.foreign
    pub goes : is_ending end ≡ false

  only : (e f : Entry) → Among e (pair_with x.peer (program x.host ms).peers).entries → Among f (pair_with x.peer (program x.host ms).peers).entries → e.own ≡ x.socket → e.foreign ≡ x.foreign → f.own ≡ x.socket → f.foreign ≡ x.foreign → e ≡ f
  only =
      let c : Coupled hosts ms = coupled_in hosts ms old in
      one_tied (record { receive = x.socket; send = x.foreign }) (kind, sends) Receiver x.host x.peer ms
      (((all_tied hosts (origin_in (crossings_of ms)) ms (are_origins 0 (crossings_of ms) [] ms refl) c.story c.run (served_in hosts ms old.2)).tied x.host x.peer ours).receiver (record { receive = x.socket; send = x.foreign }) (kind, sends))

  before : Before
  before = by (entry_at x.socket x.foreign (pair_with x.peer (program x.host ms).peers).entries) refl where
    with : (e : Entry) → Among e (pair_with x.peer (program x.host ms).peers).entries → e.own ≡ x.socket → e.foreign ≡ x.foreign → (v : Bool) → is_ending e ≡ v → Before
    with e there own foreign false t = record { end = e; there = there; own = own; foreign = foreign; goes = t }
    with e there own foreign true t = absurd (not_shut (λ f i is at. ap is_ending (only f e i there is at own foreign) ∙ t))

    by : (o : Option Entry) → entry_at x.socket x.foreign (pair_with x.peer (program x.host ms).peers).entries ≡ o → Before
    by None none = absurd (not_shut (λ f i is at. absurd (none_found (is_at x.socket x.foreign) _ f none i (at_it x.socket x.foreign f is at))))
    by (Some e) found =
        let f : Among e (pair_with x.peer (program x.host ms).peers).entries × (is_at x.socket x.foreign e ≡ true) = found_among _ _ e found in
        let parts : ((e.own == x.socket) ≡ true) × ((e.foreign == x.foreign) ≡ true) = both _ _ f.1 in
        with e f.0 (eqb-true e.own x.socket parts.0) (eqb-true e.foreign x.foreign parts.1) _ refl

  -- no end of its sockets was ending
  pub was_open : (e : Entry) → Among e (pair_with x.peer (program x.host ms).peers).entries → e.own ≡ x.socket → e.foreign ≡ x.foreign → is_ending e ≡ false
  was_open e i own foreign = ap is_ending (only e before.end i before.there own foreign before.own before.foreign) ∙ before.goes

  -- so it isn't over by the moment
  pub lasts : TellsEnd x (notices_by y ms) → ⊥
  lasts t =
      stays_there hosts y ms x here (coupled_in hosts (y ∷ ms) l).story (λ a b plain. (pair_range b (program a ms).peers (programs_ranged hosts ms (served_in hosts ms old.2) a plain).pairs).commands)
      (λ e i own foreign. was_open e (subst (λ (h : Host). Among e (pair_with x.peer (program h ms).peers).entries) host i) own foreign) t
