-- A life that begins: no user of its host has closed its end before.
use Rattle.world_keeps_streams.proofs.Common.{◌≡◌, ◌⊎◌, inl, inr, ℕ, ◌==◌, ◌&&◌, ◌||◌, not, Bool, true, false, List, [], ◌∷◌, filter, length, Option, Some, None, is_some, refl, ap, sym, subst, ◌∙◌, eq-eqb, list_any, Host, same_host, or_false, same_host-true, has_cls, is_answered, is_at, is_busy, is_called_off, is_due, is_ending, is_link, is_mine_on, is_receiving, sends_on, Closing, Entry, has_opened, AreSender, name_now, numbered, sender_now, marks, pair_with, Moment, program, own_calls, story_agrees, Network, AreOurs}
use Rattle.world_keeps_lives.specs.Lives.{mine_on, AreRefusing, IsOwned}
use Rattle.host_pairs.specs.declared.entry.Closing.TheVariants as closing
use Rattle.ncp_control.specs.declared.phase.Phase.TheVariants as phase
use Rattle.promise.specs.declared.life.Life.{Life}
use Rattle.stream_law.specs.Senders.{Sender}
use Rattle.net_sim.specs.Projection.{on_control}
use Rattle.net_sim.specs.Told.{kept_in}
use Rattle.world_keeps_streams.proofs.Deeds.Effects.{Among, among_kept}
use Rattle.world_keeps_streams.proofs.Ends.Busy.{busy_open}
use Rattle.world_keeps_streams.proofs.Ends.Holds.{Has, Holds, holds, holds_parts}
use Rattle.world_keeps_streams.proofs.Ends.Marks.{never}
use Rattle.world_keeps_streams.proofs.Ends.Ties.{has_now, itself, law_end}
use Rattle.world_keeps_streams.proofs.Ends.Unshut.{is_shut}
use Rattle.world_keeps_streams.proofs.Lives.Left.{at_it, one_of}
use Rattle.world_keeps_streams.proofs.Requests.Sides.{Lawful, coupled_in}
use Rattle.world_keeps_streams.proofs.Steps.Streams.{has_sender}
use Rattle.world_keeps_streams.proofs.Tidy.Pairs.{Each, IsTidy}
use Rattle.world_keeps_streams.proofs.Tidy.Programs.{all_tidy}
use Rattle.world_keeps_streams.proofs.Facts.{clash}
use Rattle.world_keeps_streams.proofs.Ours.{held}

-- ---- lists

each_among : (Q : Entry → Type 0) (es : List Entry) (e : Entry) → Each Q es → Among e es → Q e
each_among Q [] e h i = absurd i
each_among Q (x ∷ xs) e h (inl same) = subst Q same h.0
each_among Q (x ∷ xs) e h (inr i) = each_among Q xs e h.1 i

refusing_among : (es : List Entry) (e : Entry) → AreRefusing es → Among e es → e.mine ≡ false → has_cls e.closing ≡ true
refusing_among [] e h i = absurd i
refusing_among (x ∷ xs) e h (inl same) = subst (λ (y : Entry). y.mine ≡ false → has_cls y.closing ≡ true) same h.0
refusing_among (x ∷ xs) e h (inr i) = refusing_among xs e h.1 i

any_off : (w : Entry → Bool) (es : List Entry) (e : Entry) → list_any w es ≡ false → Among e es → w e ≡ false
any_off w [] e none i = absurd i
any_off w (x ∷ xs) e none (inl same) = ap w (sym same) ∙ (or_false (w x) (list_any w xs) none).0
any_off w (x ∷ xs) e none (inr i) = any_off w xs e (or_false (w x) (list_any w xs) none).1 i

-- of one
only_one : (f e : Entry) (es : List Entry) → es ≡ f ∷ [] → Among e es → f ≡ e
only_one f e es is i = by (subst (λ (xs : List Entry). Among e xs) is i) where
  by : (f ≡ e) ⊎ ⊥ → f ≡ e
  by (inl same) = same
  by (inr none) = absurd none

only_sender : (name : ℕ → ℕ → ℕ) (es : List Entry) (s : Sender) (e f : Entry) → AreSender name es s → Among e es
    → Among f es → e ≡ f
only_sender name [] s e f h i j = absurd i
only_sender name (x ∷ []) s e f h (inl a) (inl b) = sym a ∙ b
only_sender name (x ∷ []) s e f h (inr a) j = absurd a
only_sender name (x ∷ []) s e f h (inl a) (inr b) = absurd b
only_sender name (x ∷ y ∷ ys) s e f h i j = absurd h

-- ---- an end that didn't open isn't due

module _ (hosts : Network) (ms : List Moment) (l : Lawful hosts ms) (x : Life)
    (ours : AreOurs hosts x.host x.peer) where
  abbrev es : List Entry
  es = (pair_with x.peer (program x.host ms).peers).entries

  -- one end at its sockets
  pub one_end : (e f : Entry) → Among e (pair_with x.peer (program x.host ms).peers).entries
      → Among f (pair_with x.peer (program x.host ms).peers).entries → e.own ≡ x.socket → e.foreign ≡ x.foreign
      → f.own ≡ x.socket → f.foreign ≡ x.foreign → e ≡ f
  one_end e f i j a b c d =
      one_of itself 0 (filter (is_at x.socket x.foreign) (pair_with x.peer (program x.host ms).peers).entries)
      (marks 0 x.socket x.foreign (pair_with x.peer (program x.host ms).peers).queue)
      (law_end x.host x.peer x.socket x.foreign ms) e f
      ((has_now hosts ms l x.host x.peer ours x.socket x.foreign).ends 0)
      (among_kept (is_at x.socket x.foreign) (pair_with x.peer (program x.host ms).peers).entries e i
      (at_it x.socket x.foreign e a b)) (among_kept (is_at x.socket x.foreign)
      (pair_with x.peer (program x.host ms).peers).entries f j (at_it x.socket x.foreign f c d))

  module _ (e : Entry) (there : Among e (pair_with x.peer (program x.host ms).peers).entries) (own : e.own ≡ x.socket)
      (goes : is_ending e ≡ false) (fresh : has_opened e ≡ false) where
    mine : e.mine ≡ true
    mine = by e.mine refl where
      by : (v : Bool) → e.mine ≡ v → v ≡ true
      by true t = refl
      by false t =
          clash (has_cls e.closing) (refusing_among (pair_with x.peer (program x.host ms).peers).entries e
          ((held x.host x.socket hosts l.0 ours.0 ms l.1 l.2).steady.refusing x.peer) there t)
          (or_false (has_cls e.closing) e.partner_closed goes).0

    on_socket : is_mine_on x.socket e ≡ true
    on_socket = ap (λ (v : Bool). v && e.own == x.socket) mine ∙ eq-eqb e.own x.socket own

    among_mine : Among e (mine_on x.socket (pair_with x.peer (program x.host ms).peers).entries)
    among_mine = among_kept (is_mine_on x.socket) (pair_with x.peer (program x.host ms).peers).entries e there on_socket

    -- nothing was handed over to be sent
    empty : e.bits ≡ []
    empty = elim (held x.host x.socket hosts l.0 ours.0 ms l.1 l.2).socket [
      | inl free ↦ absurd (subst (λ (xs : List Entry). Among e xs) (free.none x.peer) among_mine)
      | inr owned ↦ of owned (same_host x.peer owned.peer) refl
    ] where
      of : (o : IsOwned x.host x.socket (program x.host ms) (kept_in ms)) → (v : Bool) → same_host x.peer o.peer ≡ v
          → e.bits ≡ []
      of o true t =
          let same : o.end ≡ e =
          only_one o.end e (mine_on x.socket (pair_with x.peer (program x.host ms).peers).entries)
          (ap (λ (h : Host). mine_on x.socket (pair_with h (program x.host ms).peers).entries)
          (same_host-true x.peer o.peer t) ∙ o.one) among_mine in
          (subst (λ (f : Entry). has_opened f ≡ false → f.bits ≡ []) same
          (λ unopened_end. (o.fresh unopened_end).0)) fresh
      of o false t = absurd (subst (λ (xs : List Entry). Among e xs) (o.others x.peer t) among_mine)

    tidy : IsTidy (pair_with x.peer (program x.host ms).peers).busy e
    tidy =
        each_among (IsTidy (pair_with x.peer (program x.host ms).peers).busy)
        (pair_with x.peer (program x.host ms).peers).entries e (all_tidy hosts l.0 ms l.1 l.2 x.host ours.0 x.peer) there

    -- it has to close once no answer is waited for on its link
    undue : (is_receiving e ≡ false → is_answered (pair_with x.peer (program x.host ms).peers).busy e.link ≡ true)
        → is_due e.closing ≡ false
    undue answered = by (is_receiving e) refl where
      off_due : (d r z a : Bool) → (d && (r || (z && a))) ≡ false → (r || (z && a)) ≡ true → d ≡ false
      off_due true r z a t u = never (sym u ∙ t)
      off_due false r z a t u = refl

      drained : (r z a : Bool) → r ≡ false → z ≡ true → a ≡ true → (r || (z && a)) ≡ true
      drained true z a e f g = refl
      drained false z a e f g = ap (λ (v : Bool). v && a) f ∙ g

      by : (v : Bool) → is_receiving e ≡ v → is_due e.closing ≡ false
      by true t =
          off_due (is_due e.closing) (is_receiving e) (length e.bits == 0)
          (is_answered (pair_with x.peer (program x.host ms).peers).busy e.link) tidy.0
          (ap (λ (v : Bool). v || (length e.bits == 0 && is_answered (pair_with x.peer
          (program x.host ms).peers).busy e.link)) t)
      by false t =
          off_due (is_due e.closing) (is_receiving e) (length e.bits == 0)
          (is_answered (pair_with x.peer (program x.host ms).peers).busy e.link) tidy.0
          (drained (is_receiving e) (length e.bits == 0) (is_answered (pair_with x.peer
          (program x.host ms).peers).busy e.link) t (ap (λ (bs : List Bool). length bs == 0) empty) (answered t))

    unlinked : is_some e.partner ≡ false → is_receiving e ≡ false → (o : Option ℕ) → e.link ≡ o
        → is_answered (pair_with x.peer (program x.host ms).peers).busy o ≡ true
    unlinked none sends None is = refl
    unlinked none sends (Some k) is = clash (is_some e.partner) (tidy.2 sends (ap is_some is)) none

    -- its partner's request hasn't come
    pub undue_asked : is_some e.partner ≡ false → is_due e.closing ≡ false
    undue_asked none = undue (λ sends. unlinked none sends e.link refl)

    -- or nothing hinders its own from going out
    pub undue_heard : (pair_with x.peer (program x.host ms).peers).phase ≡ phase.Ready
        → (pair_with x.peer (program x.host ms).peers).owed ≡ false → is_due e.closing ≡ false
    undue_heard ready owes = undue (λ sends. answered sends e.link refl) where
      away : (k : ℕ) → e.link ≡ Some k → (k == 0) ≡ false
      away k is =
          ap on_control (sym is) ∙ any_off (λ f. on_control f.link) (pair_with x.peer
          (program x.host ms).peers).entries e (story_agrees hosts ms x.host x.peer ours (coupled_in hosts ms l).story).linked there

      answered : is_receiving e ≡ false → (o : Option ℕ) → e.link ≡ o → is_answered
          (pair_with x.peer (program x.host ms).peers).busy o ≡ true
      answered sends None is = refl
      answered sends (Some k) is = by (is_busy (pair_with x.peer (program x.host ms).peers).busy k) refl where
        here : sends_on k e ≡ true
        here = ap (λ (v : Bool). not v && is_link k e.link) sends ∙ ap (is_link k) is ∙ eq-eqb k k refl

        other : Has (holds k) (pair_with x.peer (program x.host ms).peers).entries → ⊥
        other h =
            let parts : Holds k h.0 = holds_parts k h.0 h.2 in
            let same : e ≡ h.0 =
            only_sender (name_now numbered x.peer (own_calls x.host x.peer ms))
            (filter (sends_on k) (pair_with x.peer (program x.host ms).peers).entries)
            (sender_now numbered x.peer k (own_calls x.host x.peer ms)) e h.0
            (has_sender hosts l.0 k (away k is) x.host x.peer ours ms l.1 l.2).here
            (among_kept (sends_on k) (pair_with x.peer (program x.host ms).peers).entries e there here)
            (among_kept (sends_on k) (pair_with x.peer (program x.host ms).peers).entries h.0 h.1 parts.sends) in
            never (sym (ap (λ (v : Bool). v && is_some h.0.partner) parts.asked ∙ parts.partner)
            ∙ ap has_opened (sym same) ∙ fresh)

        by : (v : Bool) → is_busy (pair_with x.peer (program x.host ms).peers).busy k ≡ v → not v ≡ true
        by true busy = absurd (other (busy_open hosts x.host x.peer ours k (away k is) ms l ready owes busy))
        by false free = refl

  open_closing : (c : Closing) → has_cls c ≡ false → is_due c ≡ false → is_called_off c ≡ false
  open_closing closing.No e f = refl
  open_closing closing.Due e f = never f
  open_closing closing.Queued e f = never e
  open_closing closing.Sent e f = never e

  -- so no user has closed it
  pub unshut_end : (e : Entry) → is_ending e ≡ false → is_due e.closing ≡ false → is_shut e ≡ false
  unshut_end e goes undue =
      middle (e.mine) (is_called_off e.closing) (not e.partner_closed)
      (open_closing e.closing (or_false (has_cls e.closing) e.partner_closed goes).0 undue) where
        middle : (u v w : Bool) → v ≡ false → (u && v && w) ≡ false
        middle true v w t = ap (λ (z : Bool). z && w) t
        middle false v w t = refl
