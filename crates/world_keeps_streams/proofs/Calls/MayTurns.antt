-- Each call of a turn may be made: what goes out was said by its end, and what is heard is the first of its kind.
use Rattle.world_keeps_streams.proofs.Common.{◌≡◌, ℕ, ◌==◌, ◌&&◌, not, Bool, true, false, if◌then◌else◌, List, [], ◌∷◌, ◌++◌, Option, Some, None, is_some, refl, ap, sym, subst, ◌∙◌, inl, inr, eq-eqb, append_assoc, Host, IsCommand, is_receive_socket, is_send_socket, Command, Legal, Order, Wrong, desk_of, entry_at, has_cls, PairState, command_gone, with_connections, is_ready, TurnState, order_taken, with_desk, Entry, Listener, both, not_is, HasEnd, Stand, Standing, at, came_from, standing, HasSaid, Hears, Says, Mark, Ask, Close, clash}
use Rattle.host_keeps_ranges.specs.Ranges.{AreCommands, AreOrders}
use Rattle.host_keeps_pairing.specs.Hearing.{AreJoint, AreFree}
use Rattle.host_keeps_pairing.specs.Words.{AllFit, all_gone, mark_in, mark_of, marks, marks_in, all_taken}
use Rattle.host_keeps_pairing.proofs.lemmas.{found_at, live_end, one_gone, plain, ready_when, work_of, Found, fit_first, heads, none_at, one_order}
use Rattle.pairing_law.specs.Ends.{End, fits, is_begun, nothing}
use Rattle.world_keeps_pairing.proofs.lemmas.{IsUnpaired, send_odd}
use Rattle.world_keeps_streams.specs.Calls.{commands_said, orders_heard, called}
use Rattle.ncp_control.specs.declared.command.Command.TheVariants as command
use Rattle.host_keeps_streams.specs.Histories as calls
use Rattle.world_keeps_streams.proofs.Calls.May.{AllMay, MayCall}

same_two : (a b : ℕ) → (a == a && b == b) ≡ true
same_two a b = rw (eq-eqb a a refl, eq-eqb b b refl) refl

-- ---- what goes out

module _ (origin : ℕ → ℕ) where
  queued_by : (s : Standing) (rest : List Standing) (words : List Mark) (x : End) → Stand true origin 0 (s ∷ rest) (Close ∷ words) x → has_cls s.closing ≡ true
  queued_by s [] words x h = elim (heads 0 s.mine s.asked s.closing Close words h.1) [
    | inl r ↦ absurd (let q : Close ≡ Ask 0 = r.mark in cc)
    | inr r ↦ ap has_cls r.queued
  ]
  queued_by s (t ∷ rest) words x h = absurd h

  closing_said : (own foreign : ℕ) (es : List Entry) (words : List Mark) (x : End) → Stand true origin 0 (at own foreign es) (Close ∷ words) x → HasSaid (command.Cls own foreign) es
  closing_said own foreign es words x h = λ e f.
      let g : Found own foreign es e = found_at own foreign es e f in
      queued_by _ g.rest words x (subst (λ (ss : List Standing). Stand true origin 0 ss (Close ∷ words) x) g.first h)

  -- what waits to be said of any two sockets is what their end still has to say
  abbrev pub Waits : List Entry → List Command → List Command → Type 0
  Waits es cs behind = (own foreign : ℕ) → (x : End) × Stand true origin 0 (at own foreign es) (marks 0 own foreign cs ++ marks 0 own foreign behind) x

  parted : (c : Command) (cs behind : List Command) (es : List Entry) → Waits es (c ∷ cs) behind → (own foreign : ℕ) → (x : End) × Stand true origin 0 (at own foreign es) (mark_of 0 own foreign c ++ (marks 0 own foreign cs ++ marks 0 own foreign behind)) x
  parted c cs behind es w own foreign =
      let s : (x : End) × Stand true origin 0 (at own foreign es) (marks 0 own foreign (c ∷ cs) ++ marks 0 own foreign behind) x = w own foreign in
      (s.0, subst (λ (l : List Mark). Stand true origin 0 (at own foreign es) l s.0) (append_assoc (mark_of 0 own foreign c) (marks 0 own foreign cs) (marks 0 own foreign behind)) s.1)

  said_one : (stamp : ℕ) (c : Command) (cs behind : List Command) (q : PairState) → IsCommand c → Waits q.entries (c ∷ cs) behind → MayCall (Says stamp c) q
  said_one stamp (command.Cls own foreign) cs behind q is w =
      let s : (x : End) × Stand true origin 0 (at own foreign q.entries) (mark_of 0 own foreign (command.Cls own foreign) ++ (marks 0 own foreign cs ++ marks 0 own foreign behind)) x =
      parted (command.Cls own foreign) cs behind q.entries w own foreign in (
        closing_said own foreign q.entries _ s.0
            (subst (λ (b : Bool). Stand true origin 0 (at own foreign q.entries) ((if b then Close ∷ [] else []) ++ (marks 0 own foreign cs ++ marks 0 own foreign behind)) s.0) (same_two own foreign) s.1),
        tt,
      )
  said_one stamp (command.Rts receive send link) cs behind q is w = (tt, (is.1, is.3))
  said_one stamp (command.Str send receive size) cs behind q is w = (tt, (is.3, is.1))
  said_one stamp c cs behind q is w = (tt, tt)

  pub said_may : (peer : Host) (stamp : ℕ) (cs behind : List Command) (q : PairState) (listening : List Listener) (older : List calls.Moment) → AreCommands cs → Waits q.entries cs behind → AllMay older → AllMay (commands_said peer stamp cs q listening older)
  said_may peer stamp [] behind q listening older is w h = h
  said_may peer stamp (c ∷ cs) behind q listening older is w h =
      said_may peer stamp cs behind (with_connections q (command_gone peer stamp c (desk_of q listening))) listening (called (Says stamp c) q listening ∷ older) is.1
      (λ own foreign.
      let s : (x : End) × Stand true origin 0 (at own foreign q.entries) (mark_of 0 own foreign c ++ (marks 0 own foreign cs ++ marks 0 own foreign behind)) x = parted c cs behind q.entries w own foreign in
      (all_gone (mark_of stamp own foreign c) s.0, one_gone origin own foreign 0 peer stamp c (desk_of q listening) (marks 0 own foreign cs ++ marks 0 own foreign behind) s.0 s.1))
      (said_one stamp c cs behind q is.0 w, h)

  -- ---- what is heard

  none_came : (o : Option ℕ) → not (is_some (came_from origin o)) ≡ true → o ≡ None
  none_came None e = refl
  none_came (Some p) e = absurd (cc)

  first_ask : (p : ℕ) (s : Standing) (rest : List Standing) (words : List Mark) (x : End) → Stand true origin 0 (s ∷ rest) words x → fits (Ask p) x ≡ true → (s.partner ≡ None) × (s.partner_closed ≡ false)
  first_ask p s [] words x h fit =
      let is : x ≡ plain origin s = h.2 ∙ live_end origin s (h.0.live refl) in
      let fit_plain : fits (Ask p) (plain origin s) ≡ true = subst (λ (y : End). fits (Ask p) y ≡ true) is fit in
      let parts : (not (is_some (came_from origin s.partner)) ≡ true) × (not s.partner_closed ≡ true) = both _ _ fit_plain in
      (none_came s.partner parts.0, not_is s.partner_closed parts.1)
  first_ask p s (t ∷ rest) words x h fit = absurd h

  first_close : (s : Standing) (rest : List Standing) (words : List Mark) (x : End) → Stand true origin 0 (s ∷ rest) words x → fits Close x ≡ true → s.partner_closed ≡ false
  first_close s [] words x h fit =
      let is : x ≡ plain origin s = h.2 ∙ live_end origin s (h.0.live refl) in
      let fit_plain : fits Close (plain origin s) ≡ true = subst (λ (y : End). fits Close y ≡ true) is fit in
      not_is s.partner_closed (both _ _ fit_plain).1
  first_close s (t ∷ rest) words x h fit = absurd h

  ask_found : (p own foreign : ℕ) (es : List Entry) (words : List Mark) (x : End) → Stand true origin 0 (at own foreign es) words x → fits (Ask p) x ≡ true → (e : Entry) → entry_at own foreign es ≡ Some e → (e.partner ≡ None) × (e.partner_closed ≡ false)
  ask_found p own foreign es words x h fit e f =
      let g : Found own foreign es e = found_at own foreign es e f in
      first_ask p _ g.rest words x (subst (λ (ss : List Standing). Stand true origin 0 ss words x) g.first h) fit

  close_found : (own foreign : ℕ) (es : List Entry) (words : List Mark) (x : End) → Stand true origin 0 (at own foreign es) words x → fits Close x ≡ true → (e : Entry) × (entry_at own foreign es ≡ Some e) × (e.partner_closed ≡ false)
  close_found own foreign es words x h fit = by (entry_at own foreign es) refl where
    by : (o : Option Entry) → entry_at own foreign es ≡ o → (e : Entry) × (entry_at own foreign es ≡ Some e) × (e.partner_closed ≡ false)
    by None f =
        let none : (words ≡ []) × (x ≡ nothing) = subst (λ (ss : List Standing). Stand true origin 0 ss words x) (none_at own foreign es f) h in
        absurd (let no : false ≡ true = subst (λ (y : End). fits Close y ≡ true) none.1 fit in cc)
    by (Some e) f =
        let g : Found own foreign es e = found_at own foreign es e f in
        (e, f, first_close _ g.rest words x (subst (λ (ss : List Standing). Stand true origin 0 ss words x) g.first h) fit)

  fit_head : (b : Bool) (m : Mark) (ms : List Mark) (x : End) → b ≡ true → AllFit ((if b then m ∷ [] else []) ++ ms) x → fits m x ≡ true
  fit_head true m ms x e h = h.0
  fit_head false m ms x e h = clash _ true refl (sym e)

  -- nothing is heard of two sockets that both receive or both send
  abbrev pub AreSilent : List Order → Type 0
  AreSilent orders = (own foreign place : ℕ) → IsUnpaired own foreign → marks_in place own foreign orders ≡ []

  append_none : (xs ys : List Mark) → xs ++ ys ≡ [] → ys ≡ []
  append_none [] ys e = e
  append_none (x ∷ xs) ys e = absurd (let no : x ∷ (xs ++ ys) ≡ [] = e in cc)

  apart_is : (own foreign : ℕ) → (IsUnpaired foreign own → ⊥) → is_receive_socket foreign ≡ not (is_receive_socket own)
  apart_is own foreign never = by (is_receive_socket foreign) (is_receive_socket own) refl refl where
    even : (n : ℕ) → is_receive_socket n ≡ true → (b : Bool) → is_send_socket n ≡ b → b ≡ false
    even n e true f = clash _ (is_receive_socket n) e (send_odd n f)
    even n e false f = refl

    by : (a b : Bool) → is_receive_socket foreign ≡ a → is_receive_socket own ≡ b → a ≡ not b
    by true false e f = refl
    by false true e f = refl
    by true true e f =
        let s : is_send_socket own ≡ false = even own f (is_send_socket own) refl in
        let t : is_send_socket foreign ≡ false = even foreign e (is_send_socket foreign) refl in
        absurd (never (rw (e, s) refl, rw t refl))
    by false false e f = absurd (never (rw e refl, and_off (is_send_socket foreign) (is_receive_socket own) f)) where
      and_off : (c d : Bool) → d ≡ false → (c && d) ≡ false
      and_off true d e = e
      and_off false d e = refl

  module _ (peer : Host) (stamp : ℕ) where
    -- the end of two sockets, and what is heard of it
    abbrev pub Fits : List Order → TurnState → ℕ → ℕ → Type 0
    Fits orders t own foreign = (x : End) × HasEnd origin own foreign t.pair x × AllFit (marks_in (origin stamp) foreign own orders) x

    heard_one : (c : Command) (orders : List Order) (t : TurnState) → IsCommand c → AreSilent (Legal c ∷ orders) → AreFree peer stamp (Legal c ∷ orders) t → ((own foreign : ℕ) → Fits (Legal c ∷ orders) t own foreign) → MayCall (Hears stamp 0 c) t.pair
    heard_one (command.Rts receive send link) orders t is silent free fit = (
      is,
      (is.1, is.3),
      ask_found (origin stamp) send receive t.pair.entries (marks 0 send receive t.pair.queue) (fit send receive).0 ((fit send receive).1.ends 0)
          (fit_head (receive == receive && send == send) (Ask (origin stamp)) (marks_in (origin stamp) receive send orders) (fit send receive).0 (same_two receive send) (fit send receive).2),
      free.0,
    )
    heard_one (command.Str send receive size) orders t is silent free fit = (
      is,
      (is.3, is.1),
      ask_found (origin stamp) receive send t.pair.entries (marks 0 receive send t.pair.queue) (fit receive send).0 ((fit receive send).1.ends 0)
          (fit_head (send == send && receive == receive) (Ask (origin stamp)) (marks_in (origin stamp) send receive orders) (fit receive send).0 (same_two send receive) (fit receive send).2),
      tt,
    )
    heard_one (command.Cls foreign own) orders t is silent free fit = (
      is,
      tt,
      close_found own foreign t.pair.entries (marks 0 own foreign t.pair.queue) (fit own foreign).0 ((fit own foreign).1.ends 0)
          (fit_head (foreign == foreign && own == own) Close (marks_in (origin stamp) foreign own orders) (fit own foreign).0 (same_two foreign own) (fit own foreign).2),
      apart_is own foreign (λ u. said (foreign == foreign && own == own) (same_two foreign own) (silent foreign own 0 u)),
    ) where
      said : (b : Bool) → b ≡ true → (if b then Close ∷ [] else []) ++ marks_in 0 foreign own orders ≡ [] → ⊥
      said true e none = absurd (let no : Close ∷ marks_in 0 foreign own orders ≡ [] = none in cc)
      said false e none = clash _ true refl (sym e)
    heard_one command.Nop orders t is silent free fit = (is, tt, tt, tt)
    heard_one c orders t is silent free fit = (is, tt, tt, tt)

    -- what is heard after an order
    behind : (o : Order) (orders : List Order) (t : TurnState) → AreJoint (o ∷ orders) → AreFree peer stamp (o ∷ orders) t → is_ready t.pair.phase ≡ true → ((own foreign : ℕ) → Fits (o ∷ orders) t own foreign)
        → (own foreign : ℕ) → Fits orders (order_taken peer stamp o t) own foreign
    behind o orders t joint free ready fit own foreign =
        let f : Fits (o ∷ orders) t own foreign = fit own foreign in
        let parts : AllFit (mark_in (origin stamp) foreign own o) f.0 × AllFit (marks_in (origin stamp) foreign own orders) (all_taken (mark_in (origin stamp) foreign own o) f.0) =
        fit_first origin own foreign (mark_in (origin stamp) foreign own o) (marks_in (origin stamp) foreign own orders) f.0 f.2 in
        let next : order_taken peer stamp o t ≡ with_desk t (work_of peer t.pair.busy stamp o (desk_of t.pair t.listening)) = ready_when peer stamp o t joint.0 ready in (
          all_taken (mark_in (origin stamp) foreign own o) f.0,
          subst (λ (u : TurnState). HasEnd origin own foreign u.pair (all_taken (mark_in (origin stamp) foreign own o) f.0)) (sym next) (one_order origin own foreign peer stamp o t f.0 joint.0 free.0 parts.0 ready f.1),
          parts.1,
        )

    pub heard_may : (orders : List Order) (t : TurnState) (older : List calls.Moment) → AreJoint orders → AreOrders orders → AreSilent orders → AreFree peer stamp orders t → is_ready t.pair.phase ≡ true → ((own foreign : ℕ) → Fits orders t own foreign)
        → AllMay older → AllMay (orders_heard peer stamp orders t older)
    heard_may [] t older joint legal silent free ready fit h = h
    heard_may (Legal c ∷ orders) t older joint legal silent free ready fit h =
        let next : order_taken peer stamp (Legal c) t ≡ with_desk t (work_of peer t.pair.busy stamp (Legal c) (desk_of t.pair t.listening)) = ready_when peer stamp (Legal c) t joint.0 ready in
        heard_may orders (order_taken peer stamp (Legal c) t) (called (Hears stamp 0 c) t.pair t.listening ∷ older) joint.1 legal.1
        (λ own foreign place u. append_none (mark_in place own foreign (Legal c)) (marks_in place own foreign orders) (silent own foreign place u)) free.1
        (ap (λ (u : TurnState). is_ready u.pair.phase) next ∙ ready) (behind (Legal c) orders t joint free ready fit)
        (heard_one c orders t legal.0 silent free fit, h)
    heard_may (Wrong code octets ∷ orders) t older joint legal silent free ready fit h =
        let next : order_taken peer stamp (Wrong code octets) t ≡ with_desk t (work_of peer t.pair.busy stamp (Wrong code octets) (desk_of t.pair t.listening)) = ready_when peer stamp (Wrong code octets) t joint.0 ready in
        heard_may orders (order_taken peer stamp (Wrong code octets) t) older joint.1 legal.1
        (λ own foreign place u. append_none (mark_in place own foreign (Wrong code octets)) (marks_in place own foreign orders) (silent own foreign place u)) free.1
        (ap (λ (u : TurnState). is_ready u.pair.phase) next ∙ ready) (behind (Wrong code octets) orders t joint free ready fit) h
