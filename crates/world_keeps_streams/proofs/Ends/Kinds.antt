-- What a moment is for a life: what is said or heard of its sockets, or its connections are dropped, or its host stops, or nothing of it changes.
use Rattle.world_keeps_streams.proofs.Common.{◌≡◌, ◌⊎◌, inl, inr, ℕ, ◌+◌, ◌≤◌, ◌==◌, ◌&&◌, ◌||◌, Bool, true, false, if◌then◌else◌, List, [], ◌∷◌, ◌++◌, map, take, Option, Some, refl, ap, sym, subst, ◌∙◌, eq-eqb, eqb-true, Host, same_host, HostMessage, same_host-true, AreAbout, IsAbout, Legal, Order, orders_of, desk_of, PairState, Parcel, parcel_gone, Closing, Entry, Notice, both, what_goes, is_ready, Command, Close, Mark, HasEnd, at, pair_with, Peer, Crossed, IsNext, Moment, places, program, host_in, notices_by, AreOurs, Network}
use Rattle.host_pairs.specs.Entries.{close_due, is_at, is_sent, is_over}
use Rattle.pairing_law.specs.Ends.{End, nothing}
use Rattle.host_keeps_pairing.specs.Openings.{all_lives_gone, all_lives_taken, with_openings, AreAmong}
use Rattle.host_keeps_pairing.specs.Words.{AllFit, MayAllGo, all_gone, mark_in, mark_of, marks_in, all_taken, marks}
use Rattle.host_keeps_pairing.proofs.lemmas.{eqb-sym, offer_may, offer_says, offer_tells}
use Rattle.sockets.specs.Sending.{offered_by, offered}
use Rattle.net_sim.proofs.lemmas.{plain_take}
use Rattle.promise.specs.Ends.{Course, Dropped, Stage, Stopped, cut, each, ended_by, said}
use Rattle.interface.specs.declared.crossing.Crossing.TheVariants as crossing
use Rattle.host_pairs.specs.Allowed.{MaySpeak, commands_of}
use Rattle.host_pairs.specs.Parcels as parcel
use Rattle.host_pairs.specs.declared.entry.Closing.TheVariants as closing
use Rattle.host_pairs.specs.declared.notice.Notice.TheVariants as notice
use Rattle.ncp_control.specs.declared.command.Command.TheVariants as command
use Rattle.ncp_control.specs.declared.phase.Phase.TheVariants as phase
use Rattle.pairing_law.specs.Sides as law
use Rattle.host_keeps_pairing.specs.Words as words
use Rattle.promise.specs.declared.life.Life.{Life}
use Rattle.world_keeps_streams.proofs.Deeds.Effects.{Among}
use Rattle.world_keeps_streams.proofs.Ends.Courses.{course_in}
use Rattle.world_keeps_streams.proofs.Ends.Kept.{AllKept, AllPass, AllSpare, AreOff, IsTest, all_keep, test_any, test_sent, test_taken}
use Rattle.world_keeps_streams.proofs.Ends.Marks.{AllHere, AskOnce, all_said, all_said_early, marks_here, own_early, own_marks, partner_early, partner_marks}
use Rattle.world_keeps_streams.proofs.Ends.Owes.{AData, AReply, AReset, Outs, Several, next_out, outs, owes_is, pair_is, queue_plain, when_on}
use Rattle.world_keeps_streams.proofs.Ends.Ties.{end_in, entry_is, has_now, itself, law_end, once}
use Rattle.world_keeps_streams.proofs.Lives.Fates.{IsDown, IsEnd, IsOpening, IsResetting, TellsEnd, TellsOpening, TellsReset}
use Rattle.world_keeps_streams.proofs.Requests.Sides.{Lawful, below, coupled_in}

-- ---- what notices say of a life

pub kept_end : (Lax : Type 0) (x : Life) (n : Notice) → (Lax → ⊥) → (AllKept Lax x.socket x.foreign (n ∷ [])) → IsEnd x n → ⊥
kept_end Lax x (notice.Ended s q f) none k e = none (k.0 e.1 e.2)
kept_end Lax x n none k e = e

pub kept_ends : (x : Life) (ns : List Notice) → AllKept ⊥ x.socket x.foreign ns → TellsEnd x ns → ⊥
kept_ends x [] k t = t
kept_ends x (n ∷ ns) k (inl e) = kept_end ⊥ x n (λ z. z) (k.0, tt) e
kept_ends x (n ∷ ns) k (inr t) = kept_ends x ns k.1 t

kept_reset : (Lax : Type 0) (x : Life) (n : Notice) → AllKept Lax x.socket x.foreign (n ∷ []) → IsResetting x n → ⊥
kept_reset Lax x (notice.PairReset q) k e = k.0
kept_reset Lax x n k e = e

pub kept_resets : (Lax : Type 0) (x : Life) (ns : List Notice) → AllKept Lax x.socket x.foreign ns → TellsReset x ns → ⊥
kept_resets Lax x [] k t = t
kept_resets Lax x (n ∷ ns) k (inl e) = kept_reset Lax x n (k.0, tt) e
kept_resets Lax x (n ∷ ns) k (inr t) = kept_resets Lax x ns k.1 t

-- a notice that names a peer names this one
about_end : (x : Life) (g : Host) (n : Notice) → IsAbout g n → IsEnd x n → g ≡ x.peer
about_end x g (notice.Ended s q f) a e = sym a ∙ e.0
about_end x g n a e = absurd e

about_ends : (x : Life) (g : Host) (ns : List Notice) → AreAbout g ns → TellsEnd x ns → g ≡ x.peer
about_ends x g [] a t = absurd t
about_ends x g (n ∷ ns) a (inl e) = about_end x g n a.0 e
about_ends x g (n ∷ ns) a (inr t) = about_ends x g ns a.1 t

about_reset : (x : Life) (g : Host) (n : Notice) → IsAbout g n → IsResetting x n → g ≡ x.peer
about_reset x g (notice.PairReset q) a e = sym a ∙ e
about_reset x g n a e = absurd e

about_resets : (x : Life) (g : Host) (ns : List Notice) → AreAbout g ns → TellsReset x ns → g ≡ x.peer
about_resets x g [] a t = absurd t
about_resets x g (n ∷ ns) a (inl e) = about_reset x g n a.0 e
about_resets x g (n ∷ ns) a (inr t) = about_resets x g ns a.1 t

about_opening : (x : Life) (g : Host) (n : Notice) → IsAbout g n → IsOpening x n → g ≡ x.peer
about_opening x g (notice.Opened s q f own partner) a e = sym a ∙ e.0
about_opening x g n a e = absurd e

about_openings : (x : Life) (g : Host) (ns : List Notice) → AreAbout g ns → TellsOpening x ns → g ≡ x.peer
about_openings x g [] a t = absurd t
about_openings x g (n ∷ ns) a (inl e) = about_opening x g n a.0 e
about_openings x g (n ∷ ns) a (inr t) = about_openings x g ns a.1 t

-- an opening of its sockets is one of them
opened_one : (x : Life) (n : Notice) (told : List law.Life) → IsOpening x n → (l : law.Life) × (ls : List law.Life) × (with_openings itself x.socket x.foreign (n ∷ []) told ≡ l ∷ ls)
opened_one x (notice.Opened s q f own partner) told e =
    let a : (s == x.socket) ≡ true = eq-eqb s x.socket e.1 in
    let b : (f == x.foreign) ≡ true = eq-eqb f x.foreign e.2 in
    (record { own = own; partner = partner }, told, rw (a, b) refl)
opened_one x n told e = absurd e

more_one : (own foreign : ℕ) (n : Notice) (l : law.Life) (ls : List law.Life) → (m : law.Life) × (ms : List law.Life) × (with_openings itself own foreign (n ∷ []) (l ∷ ls) ≡ m ∷ ms)
more_one own foreign (notice.Opened s q f a b) l ls = by (s == own && f == foreign) where
  by : (v : Bool) → (m : law.Life) × (ms : List law.Life) × ((if v then record { own = a; partner = itself b } ∷ l ∷ ls else l ∷ ls) ≡ m ∷ ms)
  by true = (record { own = a; partner = itself b }, l ∷ ls, refl)
  by false = (l, ls, refl)
more_one own foreign n l ls = (l, ls, refl)

more_openings : (own foreign : ℕ) (ns : List Notice) (told : List law.Life) (l : law.Life) (ls : List law.Life) → told ≡ l ∷ ls → with_openings itself own foreign ns told ≡ [] → ⊥
more_openings own foreign [] told l ls is none = absurd (let no : l ∷ ls ≡ [] = sym is ∙ none in cc)
more_openings own foreign (n ∷ ns) told l ls is none =
    let m : (m : law.Life) × (ms : List law.Life) × (with_openings itself own foreign (n ∷ []) (l ∷ ls) ≡ m ∷ ms) = more_one own foreign n l ls in
    more_openings own foreign ns (with_openings itself own foreign (n ∷ []) told) m.0 m.1 (ap (λ (t : List law.Life). with_openings itself own foreign (n ∷ []) t) is ∙ m.2) none

pub openings_some : (x : Life) (ns : List Notice) (told : List law.Life) → TellsOpening x ns → with_openings itself x.socket x.foreign ns told ≡ [] → ⊥
openings_some x [] told t none = t
openings_some x (n ∷ ns) told (inl e) none =
    let o : (l : law.Life) × (ls : List law.Life) × (with_openings itself x.socket x.foreign (n ∷ []) told ≡ l ∷ ls) = opened_one x n told e in
    more_openings x.socket x.foreign ns _ o.0 o.1 o.2 none
openings_some x (n ∷ ns) told (inr t) none = openings_some x ns (with_openings itself x.socket x.foreign (n ∷ []) told) t none

pub among_none : (xs ys : List law.Life) → AreAmong xs ys → ys ≡ [] → xs ≡ []
among_none [] ys a e = refl
among_none (x ∷ xs) [] a e = absurd a
among_none (x ∷ xs) (y ∷ ys) a e = absurd (let no : y ∷ ys ≡ [] = e in cc)

-- ---- what a moment is for a life

-- its stage, and whether what ends it came too early
abbrev pub Pace : Type 0
Pace = Stage × Bool

abbrev pub pace : Course → Pace
pace k = (k.stage, k.early)

module _ (k : Life) where
  abbrev pub end_of : List Moment → End
  end_of ms = law_end k.host k.peer k.socket k.foreign ms

  abbrev pub stage_of : List Moment → Stage
  stage_of ms = (course_in k ms).stage

  abbrev pub Unended : Moment → List Moment → Type 0
  Unended y ms = host_in y ≡ k.host → TellsEnd k (notices_by y ms) → ⊥

  abbrev pub Unreset : Moment → List Moment → Type 0
  Unreset y ms = host_in y ≡ k.host → TellsReset k (notices_by y ms) → ⊥

  abbrev pub Unopened : Moment → List Moment → Type 0
  Unopened y ms = host_in y ≡ k.host → TellsOpening k (notices_by y ms) → ⊥

  pub record Says (y : Moment) (ms : List Moment) : Type 0 where
    pub marks : List Mark
    pub here : AllHere (places ms) marks
    pub stage : stage_of (y ∷ ms) ≡ own_marks k (places ms) marks (stage_of ms)
    pub early : (course_in k (y ∷ ms)).early ≡ ((course_in k ms).early || own_early k (places ms) marks (stage_of ms))
    pub ends : end_of (y ∷ ms) ≡ all_gone marks (end_of ms)
    pub may : (n : ℕ) → n ≤ places ms → MayAllGo marks (end_of ms) n
    pub opens : AreAmong (with_openings itself k.socket k.foreign (notices_by y ms) []) (all_lives_gone marks (end_of ms) [])
    pub unreset : Unreset y ms
    pub ready : (pair_with k.peer (program k.host ms).peers).phase ≡ phase.Ready
    pub owes : (pair_with k.peer (program k.host ms).peers).owed ≡ false
    pub untaken : (end_of ms).taken ≡ false → Unended y ms
    pub unsaid : (end_of ms).gone ≡ false → marks ≡ [] → Unended y ms
    pub up : IsDown y k → ⊥
    pub next : places (y ∷ ms) ≡ 1 + places ms

  pub record Hears (y : Moment) (ms : List Moment) : Type 0 where
    pub marks : List Mark
    pub here : AllHere (places ms) marks
    pub stage : stage_of (y ∷ ms) ≡ partner_marks k (places ms) marks (stage_of ms)
    pub early : (course_in k (y ∷ ms)).early ≡ ((course_in k ms).early || partner_early k (places ms) marks
        (stage_of ms))
    pub once : AskOnce marks
    pub ends : end_of (y ∷ ms) ≡ all_taken marks (end_of ms)
    pub fit : AllFit marks (end_of ms)
    pub opens : AreAmong (with_openings itself k.socket k.foreign (notices_by y ms) []) (all_lives_taken marks (end_of ms) [])
    pub unreset : Unreset y ms
    pub unsent : (end_of ms).gone ≡ false → Unended y ms
    pub unheard : (end_of ms).taken ≡ false → marks ≡ [] → Unended y ms
    pub up : IsDown y k → ⊥
    pub next : places (y ∷ ms) ≡ 1 + places ms

  pub record Drops (y : Moment) (ms : List Moment) : Type 0 where
    pub stage : stage_of (y ∷ ms) ≡ cut Dropped (places ms) (stage_of ms)
    pub ends : end_of (y ∷ ms) ≡ nothing
    pub unended : Unended y ms
    pub unopened : Unopened y ms
    pub up : IsDown y k → ⊥

  pub record Stops (y : Moment) (ms : List Moment) : Type 0 where
    pub stage : stage_of (y ∷ ms) ≡ cut Stopped (places ms) (stage_of ms)
    pub ends : end_of (y ∷ ms) ≡ nothing
    pub unended : Unended y ms
    pub unreset : Unreset y ms
    pub unopened : Unopened y ms

  pub record Stays (y : Moment) (ms : List Moment) : Type 0 where
    pub pace : pace (course_in k (y ∷ ms)) ≡ pace (course_in k ms)
    pub ends : end_of (y ∷ ms) ≡ end_of ms
    pub unended : Unended y ms
    pub unreset : Unreset y ms
    pub unopened : Unopened y ms
    pub up : IsDown y k → ⊥

  pub record Idles (y : Moment) (ms : List Moment) : Type 0 where
    pub ends : end_of (y ∷ ms) ≡ nothing
    pub idle : (end_of ms ≡ nothing) ⊎ (Unended y ms × Unreset y ms)
    pub unopened : Unopened y ms
    pub up : IsDown y k → ⊥

  pub data Kind (y : Moment) (ms : List Moment) : Type 0 where
    ItSays : Says y ms → Kind y ms
    ItHears : Hears y ms → Kind y ms
    ItDrops : Drops y ms → Kind y ms
    ItStops : Stops y ms → Kind y ms
    ItStays : Stays y ms → Kind y ms
    ItIdles : Idles y ms → Kind y ms

  -- nothing of it: another host acts, or with another peer
  pub away : (y : Moment) (ms : List Moment) → (host_in y ≡ k.host → ⊥)
      → pace (course_in k (y ∷ ms)) ≡ pace (course_in k ms) → end_of (y ∷ ms) ≡ end_of ms → (IsDown y k → ⊥) → Kind y ms
  away y ms off same ends up =
      ItStays
      (record { pace = same; ends = ends; unended = λ e t. off e; unreset = λ e t. off e; unopened = λ e t. off e; up = up })

  pub beside : (y : Moment) (ms : List Moment) (g : Host) → AreAbout g (notices_by y ms) → (g ≡ k.peer → ⊥)
      → pace (course_in k (y ∷ ms)) ≡ pace (course_in k ms) → end_of (y ∷ ms) ≡ end_of ms → (IsDown y k → ⊥) → Kind y ms
  beside y ms g about off same ends up = ItStays (record {
    pace = same;
    ends = ends;
    unended = λ e t. off (about_ends k g _ about t);
    unreset = λ e t. off (about_resets k g _ about t);
    unopened = λ e t. off (about_openings k g _ about t);
    up = up;
  })

  -- ---- what passes

  append_none : (xs ys : List Mark) → xs ++ ys ≡ [] → (xs ≡ []) × (ys ≡ [])
  append_none [] ys e = (refl, e)
  append_none (x ∷ xs) ys e = absurd (let no : x ∷ (xs ++ ys) ≡ [] = e in cc)

  at_both : (a b : ℕ) (e : Entry) → is_at a b e ≡ true → (e.own ≡ a) × (e.foreign ≡ b)
  at_both a b e t = let p : ((e.own == a) ≡ true) × ((e.foreign == b) ≡ true) = both _ _ t in (eqb-true e.own a p.0, eqb-true e.foreign b p.1)

  close_there : (a b own foreign : ℕ) → a ≡ own → b ≡ foreign → (if a == own && b == foreign then Close ∷ [] else []) ≡ [] → ⊥
  close_there a b own foreign e f none =
      let x : (a == own) ≡ true = eq-eqb a own e in
      let y : (b == foreign) ≡ true = eq-eqb b foreign f in
      absurd (let no : Close ∷ [] ≡ [] = rw (x, y) at none in cc)

  module _ (g : Host) (place : ℕ) where
    pass_any : (cs : List Command) → AllPass (Unit {0}) g k.socket k.foreign place (λ e. false) test_any cs
    pass_any [] = tt
    pass_any (command.Cls a b ∷ cs) = ((λ e at_it off is there. refl), pass_any cs)
    pass_any (c ∷ cs) = (tt, pass_any cs)

    pass_taken : (cs : List Command) → AllPass ⊥ g k.socket k.foreign place (λ e. e.partner_closed) test_taken cs
    pass_taken [] = tt
    pass_taken (command.Cls a b ∷ cs) = ((λ e at_it off. off), pass_taken cs)
    pass_taken (c ∷ cs) = (tt, pass_taken cs)

    pass_sent : (cs : List Command) → words.marks place k.socket k.foreign cs ≡ [] → AllPass ⊥ g k.socket k.foreign place (λ e. is_sent e.closing) test_sent cs
    pass_sent [] none = tt
    pass_sent (command.Cls a b ∷ cs) none =
        let parts : ((if a == k.socket && b == k.foreign then Close ∷ [] else []) ≡ []) × (words.marks place k.socket k.foreign cs ≡ []) =
        append_none (if a == k.socket && b == k.foreign then Close ∷ [] else []) (words.marks place k.socket k.foreign cs) none in (
          (λ e at_it off is there. absurd (close_there a b k.socket k.foreign (sym (at_both a b e at_it).0 ∙ is) (sym (at_both a b e at_it).1 ∙ there) parts.0)),
          pass_sent cs parts.1,
        )
    pass_sent (c ∷ cs) none = (tt, pass_sent cs (append_none (mark_of place k.socket k.foreign c) (words.marks place k.socket k.foreign cs) none).1)

    pub spare_any : (os : List Order) → AllSpare (Unit {0}) g k.socket k.foreign place (λ e. false) test_any os
    spare_any [] = tt
    spare_any (Legal (command.Cls a b) ∷ os) = ((λ e at_it off is there. refl), spare_any os)
    spare_any (o ∷ os) = (tt, spare_any os)

    due_unsent : (c : Closing) → is_sent c ≡ false → is_sent (close_due c) ≡ false
    due_unsent closing.No e = refl
    due_unsent c e = e

    pub spare_sent : (os : List Order) → AllSpare ⊥ g k.socket k.foreign place (λ e. is_sent e.closing) test_sent os
    spare_sent [] = tt
    spare_sent (Legal (command.Cls a b) ∷ os) = ((λ e at_it off is there. due_unsent e.closing (off is there)), spare_sent os)
    spare_sent (o ∷ os) = (tt, spare_sent os)

    pub spare_taken : (os : List Order) → marks_in place k.foreign k.socket os ≡ [] → AllSpare ⊥ g k.socket k.foreign place (λ e. e.partner_closed) test_taken os
    spare_taken [] none = tt
    spare_taken (Legal (command.Cls a b) ∷ os) none =
        let parts : ((if a == k.foreign && b == k.socket then Close ∷ [] else []) ≡ []) × (marks_in place k.foreign k.socket os ≡ []) =
        append_none (if a == k.foreign && b == k.socket then Close ∷ [] else []) (marks_in place k.foreign k.socket os) none in (
          (λ e at_it off is there. absurd (close_there a b k.foreign k.socket (sym (at_both b a e at_it).1 ∙ there) (sym (at_both b a e at_it).0 ∙ is) parts.0)),
          spare_taken os parts.1,
        )
    spare_taken (o ∷ os) none = (tt, spare_taken os (append_none (mark_in place k.foreign k.socket o) (marks_in place k.foreign k.socket os) none).1)

  module _ (hosts : Network) (ours : AreOurs hosts k.host k.peer) where
    module _ (ms : List Moment) (l : Lawful hosts ms) where
      -- the ends of its sockets, by tests of them
      pub off_any : (e : Entry) → Among e (pair_with k.peer (program k.host ms).peers).entries → e.own ≡ k.socket → e.foreign ≡ k.foreign → false ≡ false
      off_any e i is there = refl

      pub off_taken : (end_of ms).taken ≡ false → (e : Entry) → Among e (pair_with k.peer (program k.host ms).peers).entries → e.own ≡ k.socket → e.foreign ≡ k.foreign → e.partner_closed ≡ false
      off_taken t e i is there = sym (ap (λ (x : End). x.taken) (entry_is hosts ms l k.host k.peer ours k.socket k.foreign e i is there).0) ∙ t

      pub off_sent : (end_of ms).gone ≡ false → (e : Entry) → Among e (pair_with k.peer (program k.host ms).peers).entries → e.own ≡ k.socket → e.foreign ≡ k.foreign → is_sent e.closing ≡ false
      off_sent t e i is there = sym (ap (λ (x : End). x.gone) (entry_is hosts ms l k.host k.peer ours k.socket k.foreign e i is there).0) ∙ t

      pub off_over : (e : Entry) → Among e (pair_with k.peer (program k.host ms).peers).entries → e.own ≡ k.socket → e.foreign ≡ k.foreign → is_over e ≡ false
      off_over e i is there = (entry_is hosts ms l k.host k.peer ours k.socket k.foreign e i is there).1

    -- ---- what goes out

    module _ (m : HostMessage) (ms : List Moment) (l : Lawful hosts (Crossed (crossing.Out m) ∷ ms))
        (from : same_host k.host m.flow.source ≡ true) (to : same_host k.peer m.flow.destination ≡ true) where
      abbrev y : Moment
      y = Crossed (crossing.Out m)

      lower : Lawful hosts ms
      lower = below hosts (Crossed (crossing.Out m)) ms l

      n : IsNext (program k.host ms) m
      n = subst (λ (h : Host). IsNext (program h ms) m) (sym (same_host-true k.host m.flow.source from)) ((coupled_in hosts (Crossed (crossing.Out m) ∷ ms) l).story.0 (subst (λ (g : Host). hosts.strange g ≡ false) (same_host-true k.host m.flow.source from) ours.0))

      there : n.peer.host ≡ k.peer
      there = sym (same_host-true k.peer m.flow.destination to ∙ ap (λ (x : HostMessage). x.flow.destination) n.message)

      with_peer : AreOurs hosts k.host n.peer.host
      with_peer = (ours.0, subst (λ (g : Host). hosts.strange g ≡ false) (sym there) ours.1)

      q_is : pair_with k.peer (program k.host ms).peers ≡ n.peer.pair
      q_is = sym (ap (λ (p : Host). pair_with p (program k.host ms).peers) there) ∙ pair_is hosts ms lower k.host m n with_peer

      has : HasEnd itself k.socket k.foreign (pair_with n.peer.host (program k.host ms).peers) (end_of ms)
      has = subst (λ (p : Host). HasEnd itself k.socket k.foreign (pair_with p (program k.host ms).peers) (end_of ms)) (sym there) (has_now hosts ms lower k.host k.peer ours k.socket k.foreign)

      out_ends : (p : Parcel) → n.parcel ≡ p → end_of (Crossed (crossing.Out m) ∷ ms) ≡ all_gone (words.marks (places ms) k.socket k.foreign (commands_of n.peer.pair p)) (end_of ms)
      out_ends p is =
          ap (λ (v : Bool). end_in (at k.socket k.foreign (pair_with k.peer (if v then (offered (program k.host ms) (places ms)).0 else program k.host ms).peers).entries)) from
          ∙ once k.socket k.foreign (pair_with k.peer (offered (program k.host ms) (places ms)).0.peers) (all_gone (words.marks (places ms) k.socket k.foreign (commands_of n.peer.pair n.parcel)) (end_of ms))
          (subst (λ (g : Host). HasEnd itself k.socket k.foreign (pair_with g (offered (program k.host ms) (places ms)).0.peers) (all_gone (words.marks (places ms) k.socket k.foreign (commands_of n.peer.pair n.parcel)) (end_of ms))) there
          (offer_says itself k.socket k.foreign (program k.host ms) (places ms) n.peer n.parcel (end_of ms) n.order n.next has))
          ∙ ap (λ (x : Parcel). all_gone (words.marks (places ms) k.socket k.foreign (commands_of n.peer.pair x)) (end_of ms)) is

      notes : (p : Parcel) → n.parcel ≡ p → notices_by (Crossed (crossing.Out m)) ms ≡ (parcel_gone n.peer.host (places ms) n.peer.pair.busy p (desk_of n.peer.pair (program k.host ms).listening)).notices
      unfolding offered
      notes p is =
          ap (λ (h : Host). (offered (program h ms) (places ms)).1) (sym (same_host-true k.host m.flow.source from))
          ∙ ap (λ (o : Option (Peer × Parcel)). (offered_by (program k.host ms) (places ms) o).1) n.next
          ∙ ap (λ (x : Parcel). (parcel_gone n.peer.host (places ms) n.peer.pair.busy x (desk_of n.peer.pair (program k.host ms).listening)).notices) is

      on_flow : (os : List Order) → m.flow.link.0 ≡ 0 → orders_of m.text ≡ os
          → course_in k (Crossed (crossing.Out m) ∷ ms) ≡ each (said k (places ms)) os (course_in k ms)
      on_flow os zero orders =
          let z : (0 == m.flow.link.0) ≡ true = eq-eqb 0 m.flow.link.0 (sym zero) in
          when_on _
          _
          _ os _ (rw (from, to, z) refl) orders

      off_flow : (m.flow.link.0 == 0) ≡ false → course_in k (Crossed (crossing.Out m) ∷ ms) ≡ course_in k ms
      off_flow away =
          let z : (0 == m.flow.link.0) ≡ false = eqb-sym 0 m.flow.link.0 ∙ away in
          let none : (same_host k.host m.flow.source && same_host k.peer m.flow.destination && 0 == m.flow.link.0) ≡ false = rw (from, to, z) refl in
          ap (λ (v : Bool). if v then each (said k (places ms)) (orders_of m.text)
          (course_in k ms) else course_in k ms) none

      kept : (Lax : Type 0) (test : Entry → Bool) (t : IsTest Lax test) (count : ℕ) → n.parcel ≡ parcel.Commands count → AllPass Lax n.peer.host k.socket k.foreign (places ms) test t (take count n.peer.pair.queue)
          → AreOff Lax n.peer.host k.socket k.foreign (places ms) test t (pair_with k.peer (program k.host ms).peers).entries → AllKept Lax k.socket k.foreign (notices_by (Crossed (crossing.Out m)) ms)
      kept Lax test t count is pass off =
          subst (λ (ns : List Notice). AllKept Lax k.socket k.foreign ns) (sym (notes _ is))
          (all_keep Lax n.peer.host k.socket k.foreign (places ms) test t _ _ pass
          (record { ends = subst (λ (q : PairState). AreOff Lax n.peer.host k.socket k.foreign (places ms) test t q.entries) q_is off; told = tt })).told

      speaks : (count : ℕ) → n.parcel ≡ parcel.Commands count → MaySpeak n.peer.pair
      speaks count is =
          (what_goes n.peer.pair _ (next_out hosts ms lower k.host m n with_peer
          ∙ ap (λ (x : Parcel). Some x) is)).0

      out_by : Outs n.peer.pair n.parcel m → Kind (Crossed (crossing.Out m)) ms
      out_by (AReset wanted zero orders is) = ItIdles (record { ends = out_ends parcel.Reset is ∙ none; idle = inl none; unopened = λ e t. subst (λ (ns : List Notice). TellsOpening k ns) (notes parcel.Reset is) t; up = λ d. d }) where
        none : end_of ms ≡ nothing
        none = (has_now hosts ms lower k.host k.peer ours k.socket k.foreign).idle (ap (λ (q : PairState). is_ready q.phase) q_is ∙ ap is_ready wanted)
      out_by (AReply owed zero orders is) = ItStays (record {
        pace =
            ap pace (on_flow (Legal command.Rrp ∷ []) zero orders)
            ∙ ap (λ (v : Bool). pace (if v then course_in k ms else ended_by (cut Dropped (places ms))
            (course_in k ms))) (owes_is hosts k ours ms lower ∙ ap (λ (q : PairState). q.owed) q_is ∙ owed);
        ends = out_ends parcel.Reply is;
        unended = λ e t. subst (λ (ns : List Notice). TellsEnd k ns) (notes parcel.Reply is) t;
        unreset = λ e t. subst (λ (ns : List Notice). TellsReset k ns) (notes parcel.Reply is) t;
        unopened = λ e t. subst (λ (ns : List Notice). TellsOpening k ns) (notes parcel.Reply is) t;
        up = λ d. d;
      })
      out_by (AData d size count is away) = ItStays (record {
        pace = ap pace (off_flow away);
        ends = out_ends (parcel.Bytes d size count) is;
        unended = λ e t. elim (subst (λ (ns : List Notice). TellsEnd k ns) (notes (parcel.Bytes d size count) is) t) [ inl x ↦ x | inr x ↦ x ];
        unreset = λ e t. elim (subst (λ (ns : List Notice). TellsReset k ns) (notes (parcel.Bytes d size count) is) t) [ inl x ↦ x | inr x ↦ x ];
        unopened = λ e t. elim (subst (λ (ns : List Notice). TellsOpening k ns) (notes (parcel.Bytes d size count) is) t) [ inl x ↦ x | inr x ↦ x ];
        up = λ d. d;
      })
      out_by (Several count is zero orders) = ItSays (record {
        marks = words.marks (places ms) k.socket k.foreign (take count n.peer.pair.queue);
        here = marks_here (places ms) k.socket k.foreign (take count n.peer.pair.queue);
        stage =
            ap (λ (j : Course). j.stage) (on_flow (map Legal (take count n.peer.pair.queue)) zero orders)
            ∙ all_said k (places ms) (take count n.peer.pair.queue) (course_in k ms)
            (plain_take count n.peer.pair.queue (queue_plain hosts ms lower k.host m n with_peer));
        early =
            ap (λ (j : Course). j.early) (on_flow (map Legal (take count n.peer.pair.queue)) zero orders)
            ∙ all_said_early k (places ms) (take count n.peer.pair.queue) (course_in k ms)
            (plain_take count n.peer.pair.queue (queue_plain hosts ms lower k.host m n with_peer));
        ends = out_ends (parcel.Commands count) is;
        may = λ j lower_than. subst (λ (x : Parcel). MayAllGo (words.marks (places ms) k.socket k.foreign (commands_of n.peer.pair x)) (end_of ms) j) is
            (offer_may itself k.socket k.foreign (program k.host ms) (places ms) n.peer n.parcel (end_of ms) j n.order n.next lower_than has);
        opens =
            subst (λ (x : Parcel). AreAmong (with_openings itself k.socket k.foreign (notices_by (Crossed (crossing.Out m)) ms) []) (all_lives_gone (words.marks (places ms) k.socket k.foreign (commands_of n.peer.pair x)) (end_of ms) [])) is
            (subst (λ (h : Host). AreAmong (with_openings itself k.socket k.foreign (offered (program h ms) (places ms)).1 []) (all_lives_gone (words.marks (places ms) k.socket k.foreign (commands_of n.peer.pair n.parcel)) (end_of ms) [])) (same_host-true k.host m.flow.source from)
            (offer_tells itself k.socket k.foreign (program k.host ms) (places ms) n.peer n.parcel (end_of ms) [] [] n.order n.next has tt));
        ready = ap (λ (q : PairState). q.phase) q_is ∙ (speaks count is).ready;
        owes = ap (λ (q : PairState). q.owed) q_is ∙ (speaks count is).owes;
        unreset = λ e t. kept_resets (Unit {0}) k (notices_by (Crossed (crossing.Out m)) ms) (kept (Unit {0}) (λ x. false) test_any count is (pass_any n.peer.host (places ms) (take count n.peer.pair.queue)) (off_any ms lower)) t;
        untaken = λ u e t. kept_ends k (notices_by (Crossed (crossing.Out m)) ms) (kept ⊥ (λ x. x.partner_closed) test_taken count is (pass_taken n.peer.host (places ms) (take count n.peer.pair.queue)) (off_taken ms lower u)) t;
        unsaid = λ u none e t. kept_ends k (notices_by (Crossed (crossing.Out m)) ms) (kept ⊥ (λ x. is_sent x.closing) test_sent count is (pass_sent n.peer.host (places ms) (take count n.peer.pair.queue) none) (off_sent ms lower u)) t;
        up = λ d. d;
        next = refl;
      })

      pub out_here : Kind (Crossed (crossing.Out m)) ms
      out_here = out_by (outs hosts ms lower k.host m n with_peer)
