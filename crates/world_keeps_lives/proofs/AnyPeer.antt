-- Whatever a peer says, of two sockets there is at most one end with it, and what waits of it is what it still has to
-- say.
use Rattle.world_keeps_lives.proofs.Common.{◌≡◌, ℕ, ◌==◌, ◌&&◌, Bool, true, false, if◌then◌else◌, List, [], ◌∷◌, ◌++◌, Option, Some, None, is_some, refl, ap, sym, subst, ◌∙◌, list_any, Host, same_host, HostMessage, is_ready, Command, ERRONEOUS, Legal, Order, orders_of, NO_SOCKET, Wrong, error, data_taken, DeskState, desk_of, command_queued, settled, swept, PairState, Entry, NcpState, pair_with, spelling, Mark, Ask, Close, HasSome, Closing}
use Rattle.host_pairs.specs.Entries.{has_cls, closed_by_partner, entry_at, is_at, sends_on, close_due, is_sent}
use Rattle.host_pairs.specs.Turn.{TurnState, if_ready, message_taken, with_desk, command_taken, order_taken, orders_taken}
use Rattle.sockets.specs.Accepting.{after_turn, turn_of, accepted}
use Rattle.pairing_law.specs.Ends.{End, fits, mark_taken, nothing}
use Rattle.host_pairs.specs.Commands.{asked_on_link, asked_with_size, changed, cls_taken_by, desk_taken, matched_once, rts_taken_by, str_taken_by, faulted, matched}
use Rattle.host_keeps_pairing.specs.Ends.{Stand, at, Standing, standing, close_waits, end_of, is_past, request_due}
use Rattle.host_keeps_pairing.specs.Words.{marks, mark_of, AllFit, all_taken}
use Rattle.host_keeps_pairing.proofs.lemmas.{put, Found, Is, On, after_data, after_reply, after_reset, are, asked_by, change_away, change_here, closed_by, ends_swept, found_here, live_end, loose, none_here, on_queued, on_settled, on_taken, plain}
use Rattle.interface.specs.declared.crossing.Inbound.TheVariants as inbound
use Rattle.ncp_control.specs.declared.command.Command.TheVariants as command
use Rattle.host_pairs.specs.declared.entry.Closing.TheVariants as closing
use Rattle.interface.proofs.lemmas.{and_turned}

-- ---- the end of two sockets is asked for, or closed, in whatever order

takes_request : (origin : ℕ → ℕ) (place stamp : ℕ) (s : Standing) (words : List Mark) (x : End)
    → Stand true origin place (s ∷ []) words x
    → Stand true origin place (asked_by stamp s ∷ []) words (mark_taken (Ask (origin stamp)) x)
takes_request origin place stamp s words x h =
    let live : is_past s ≡ false = h.0.live refl in (
      record { live = h.0.live; refused = λ m. (refl, (h.0.refused m).1); asked = h.0.asked; own = h.0.own },
      h.1,
      ap (mark_taken (Ask (origin stamp))) (h.2 ∙ live_end origin s live)
          ∙ sym (live_end origin (asked_by stamp s) live),
    )

still_cls : (c : Closing) → has_cls c ≡ true → has_cls (close_due c) ≡ true
still_cls closing.No e = absurd (cc)
still_cls c e = e

as_sent : (c : Closing) → is_sent (close_due c) ≡ is_sent c
as_sent closing.No = refl
as_sent c = refl

as_waiting : (c : Closing) → close_waits (close_due c) ≡ close_waits c
as_waiting closing.No = refl
as_waiting c = refl

closes_as : (origin : ℕ → ℕ) (s : Standing) (b : Bool) → is_sent s.closing ≡ b → is_sent (close_due s.closing) ≡ b
    → mark_taken Close (plain origin s) ≡ end_of origin (closed_by s)
closes_as origin s true e f = rw (e, f) refl
closes_as origin s false e f = rw (e, f) refl

takes_close : (origin : ℕ → ℕ) (place : ℕ) (s : Standing) (words : List Mark) (x : End)
    → Stand true origin place (s ∷ []) words x
    → Stand false origin place (closed_by s ∷ []) words (mark_taken Close x)
takes_close origin place s words x h = (
  record {
    live = λ e. absurd (cc);
    refused = λ m. ((h.0.refused m).0, still_cls s.closing (h.0.refused m).1);
    asked = λ e m. h.0.asked (sym (as_sent s.closing) ∙ e) m;
    own = h.0.own;
  },
  h.1 ∙ ap (λ (l : List Mark). request_due place s.mine s.asked ++ l) (sym (as_waiting s.closing)),
  ap (mark_taken Close) (h.2 ∙ live_end origin s (h.0.live refl))
      ∙ closes_as origin s _ refl (as_sent s.closing),
)

module _ (origin : ℕ → ℕ) (own foreign : ℕ) where
  -- the connections of a pair have some end of the law
  pub record SomeEnd (d : DeskState) : Type 0 where
    pub x : End
    pub on : (place : ℕ) → On origin own foreign place true d x

  reports : (code : ℕ) (octets : List ℕ) (d : DeskState) → SomeEnd d → SomeEnd (command_queued (error code octets) d)
  reports code octets d h = record
      { x = h.x; on = λ place. on_queued origin own foreign place true (error code octets) d h.x refl (h.on place) }

  -- ---- requests

  -- an end that is there
  matches_end : (peer : Host) (a b stamp : ℕ) (e : Entry) (change : Entry → Entry) (d : DeskState)
      → Is (asked_by stamp) change → entry_at a b d.entries ≡ Some e → SomeEnd d → SomeEnd (matched peer a b change d)
  matches_end peer a b stamp e change d is f h = by (are a b own foreign) refl where
    by : (t : Bool) → are a b own foreign ≡ t → SomeEnd (matched peer a b change d)
    by true t =
        let g : Found own foreign d.entries e = found_here a b own foreign d.entries e t f in
        record {
          x = mark_taken (Ask (origin stamp)) h.x;
          on = λ place.
              change_here origin own foreign place true a b (asked_by stamp) change d.entries
              (marks place own foreign d.queue) (marks place own foreign d.queue) h.x
              (mark_taken (Ask (origin stamp)) h.x) is t (h.on place)
              (λ s rest there j. takes_request origin place stamp s (marks place own foreign d.queue) h.x j)
              (standing e) g.rest g.first;
        }
    by false t = record {
      x = h.x;
      on = λ place. change_away origin own foreign place true a b (asked_by stamp) change
          d.entries (marks place own foreign d.queue) h.x is t (h.on place);
    }

  matches_once : (peer : Host) (a b stamp : ℕ) (c : Command) (e : Entry) (change : Entry → Entry) (d : DeskState)
      → Is (asked_by stamp) change → entry_at a b d.entries ≡ Some e → SomeEnd d
      → SomeEnd (matched_once peer a b c e change d)
  matches_once peer a b stamp c e change d is f h = by (is_some e.partner) where
    by : (v : Bool) → SomeEnd (if v then faulted ERRONEOUS c d else matched peer a b change d)
    by true = reports ERRONEOUS (spelling c) d h
    by false = matches_end peer a b stamp e change d is f h

  -- where there is none a request fits
  fits_new : (a b stamp : ℕ) (d : DeskState) (h : SomeEnd d) (t : Bool) → t ≡ are a b own foreign
      → entry_at a b d.entries ≡ None → AllFit (if t then Ask (origin stamp) ∷ [] else []) h.x
  fits_new a b stamp d h false t f = tt
  fits_new a b stamp d h true t f =
      let none : h.x ≡
      nothing = (subst (λ (ss : List Standing). Stand true origin 0 ss (marks 0 own foreign d.queue) h.x)
      (none_here a b own foreign d.entries (sym t) f) (h.on 0)).1 in
      (ap (λ (y : End). fits (Ask (origin stamp)) y) none, tt)

  rts_end : (peer : Host) (busy : List ℕ) (stamp receive send link : ℕ) (d : DeskState) → SomeEnd d
      → SomeEnd (desk_taken peer busy stamp (command.Rts receive send link) d)
  rts_end peer busy stamp receive send link d h = by (list_any (sends_on link) d.entries) refl
      (entry_at send receive d.entries) refl where
        P : Bool → Option Entry → Type 0
        P v o = SomeEnd
            (if v then faulted ERRONEOUS (command.Rts receive send link) d
            else rts_taken_by peer send receive link stamp o d)

        by : (v : Bool) → list_any (sends_on link) d.entries ≡ v → (o : Option Entry)
            → entry_at send receive d.entries ≡ o
            → P (list_any (sends_on link) d.entries) (entry_at send receive d.entries)
        by true used o f = subst (λ (v : Bool). P v (entry_at send receive d.entries)) (sym used)
            (reports ERRONEOUS (spelling (command.Rts receive send link)) d h)
        by false free (Some e) f =
            subst (λ (v : Bool). P v (entry_at send receive d.entries)) (sym free)
            (subst (λ (o : Option Entry). P false o) (sym f)
            (matches_once peer send receive stamp (command.Rts receive send link) e (asked_on_link stamp link) d
            (λ y. (refl, refl, refl)) f h))
        by false free None f = record {
          x = all_taken (mark_of (origin stamp) foreign own (command.Rts receive send link)) h.x;
          on = λ place.
              on_taken origin own foreign place peer busy stamp (command.Rts receive send link) d h.x free
              (fits_new send receive stamp d h (receive == foreign && send == own)
              (and_turned (receive == foreign) (send == own)) f) (h.on place);
        }

  str_end : (peer : Host) (busy : List ℕ) (stamp send receive size : ℕ) (d : DeskState) → SomeEnd d
      → SomeEnd (desk_taken peer busy stamp (command.Str send receive size) d)
  str_end peer busy stamp send receive size d h = by (entry_at receive send d.entries) refl where
    by : (o : Option Entry) → entry_at receive send d.entries ≡ o
        → SomeEnd (str_taken_by peer receive send size stamp (entry_at receive send d.entries) d)
    by (Some e) f =
        subst (λ (o : Option Entry). SomeEnd (str_taken_by peer receive send size stamp o d)) (sym f)
        (matches_once peer receive send stamp (command.Str send receive size) e _ d
        (λ y. (refl, refl, refl)) f h)
    by None f = record {
      x = all_taken (mark_of (origin stamp) foreign own (command.Str send receive size)) h.x;
      on = λ place.
          on_taken origin own foreign place peer busy stamp (command.Str send receive size) d h.x tt
          (fits_new receive send stamp d h _
          (and_turned (send == foreign) (receive == own)) f) (h.on place);
    }

  -- ---- CLS

  cls_end : (peer : Host) (busy : List ℕ) (stamp mine yours : ℕ) (d : DeskState) → SomeEnd d
      → SomeEnd (desk_taken peer busy stamp (command.Cls mine yours) d)
  cls_end peer busy stamp mine yours d h = by (entry_at yours mine d.entries) refl where
    d_closed : DeskState
    d_closed = settled busy (changed (is_at yours mine) closed_by_partner d)

    closes : (e : Entry) → entry_at yours mine d.entries ≡ Some e → (t : Bool) → are yours mine own foreign ≡ t
        → SomeEnd (swept peer (settled busy (changed (is_at yours mine) closed_by_partner d)))
    closes e f true t =
        let g : Found own foreign d.entries e = found_here yours mine own foreign d.entries e t f in
        record {
          x = mark_taken Close h.x;
          on = λ place.
              ends_swept origin own foreign place d_closed.entries (marks place own foreign d_closed.queue)
              (mark_taken Close h.x)
              (on_settled origin own foreign place false busy (changed (is_at yours mine) closed_by_partner d)
              (mark_taken Close h.x)
              (change_here origin own foreign place false yours mine closed_by closed_by_partner d.entries
              (marks place own foreign d.queue) (marks place own foreign d.queue) h.x (mark_taken Close h.x)
              (λ y. (refl, refl, refl)) t (h.on place)
              (λ s rest there j. takes_close origin place s (marks place own foreign d.queue) h.x j) (standing e)
              g.rest g.first));
        }
    closes e f false t = record {
      x = h.x;
      on = λ place.
          ends_swept origin own foreign place d_closed.entries (marks place own foreign d_closed.queue) h.x
          (loose origin own foreign place (at own foreign d_closed.entries) (marks place own foreign d_closed.queue) h.x
          (on_settled origin own foreign place true busy (changed (is_at yours mine) closed_by_partner d) h.x
          (change_away origin own foreign place true yours mine closed_by closed_by_partner d.entries
          (marks place own foreign d.queue) h.x (λ y. (refl, refl, refl)) t (h.on place))));
    }

    once : (e : Entry) → entry_at yours mine d.entries ≡ Some e → (v : Bool)
        → SomeEnd (if v then d else swept peer (settled busy (changed (is_at yours mine) closed_by_partner d)))
    once e f true = h
    once e f false = closes e f (are yours mine own foreign) refl

    by : (o : Option Entry) → entry_at yours mine d.entries ≡ o
        → SomeEnd (cls_taken_by peer busy yours mine (entry_at yours mine d.entries) d)
    by None f = subst (λ (o : Option Entry). SomeEnd (cls_taken_by peer busy yours mine o d)) (sym f)
        (reports NO_SOCKET (spelling (command.Cls mine yours)) d h)
    by (Some e) f = subst (λ (o : Option Entry). SomeEnd (cls_taken_by peer busy yours mine o d)) (sym f)
        (once e f e.partner_closed)

  -- ---- all commands

  any_command : (peer : Host) (busy : List ℕ) (stamp : ℕ) (c : Command) (d : DeskState) → SomeEnd d
      → SomeEnd (desk_taken peer busy stamp c d)
  any_command peer busy stamp (command.Rts receive send link) d h = rts_end peer busy stamp receive send link d h
  any_command peer busy stamp (command.Str send receive size) d h = str_end peer busy stamp send receive size d h
  any_command peer busy stamp (command.Cls mine yours) d h = cls_end peer busy stamp mine yours d h
  any_command peer busy stamp (command.All link messages bits) d h = record {
    x = h.x;
    on = λ place. on_taken origin own foreign place peer busy stamp (command.All link messages bits) d
        h.x tt tt (h.on place);
  }
  any_command peer busy stamp (command.Gvb link messages bits) d h = record {
    x = h.x;
    on = λ place. on_taken origin own foreign place peer busy stamp (command.Gvb link messages bits) d
        h.x tt tt (h.on place);
  }
  any_command peer busy stamp (command.Ret link messages bits) d h = record {
    x = h.x;
    on = λ place. on_taken origin own foreign place peer busy stamp (command.Ret link messages bits) d
        h.x tt tt (h.on place);
  }
  any_command peer busy stamp (command.Inr link) d h = record {
    x = h.x;
    on = λ place. on_taken origin own foreign place peer busy stamp (command.Inr link) d h.x tt tt
        (h.on place);
  }
  any_command peer busy stamp (command.Ins link) d h = record {
    x = h.x;
    on = λ place. on_taken origin own foreign place peer busy stamp (command.Ins link) d h.x tt tt
        (h.on place);
  }
  any_command peer busy stamp (command.Eco octet) d h = record {
    x = h.x;
    on = λ place. on_taken origin own foreign place peer busy stamp (command.Eco octet) d h.x tt tt
        (h.on place);
  }
  any_command peer busy stamp (command.Erp octet) d h = record { x = h.x; on = h.on }
  any_command peer busy stamp (command.Err code detail) d h = record { x = h.x; on = h.on }
  any_command peer busy stamp command.Nop d h = h
  any_command peer busy stamp command.Rst d h = h
  any_command peer busy stamp command.Rrp d h = h

  -- ---- a message

  while_ready : (work : DeskState → DeskState) (t : TurnState)
      → (SomeEnd (desk_of t.pair t.listening) → SomeEnd (work (desk_of t.pair t.listening)))
      → HasSome origin own foreign t.pair → HasSome origin own foreign (if_ready work t).pair
  while_ready work t keeps h = by (is_ready t.pair.phase) refl where
    by : (b : Bool) → is_ready t.pair.phase ≡ b
        → HasSome origin own foreign (if b then with_desk t (work (desk_of t.pair t.listening)) else t).pair
    by false e = h
    by true e =
        let w : SomeEnd (work (desk_of t.pair t.listening)) = keeps (record { x = h.x; on = h.has.ends }) in
        record
        { x = w.x; has = record { ends = w.on; idle = λ i. absurd (let clash : true ≡ false = sym e ∙ i in cc) } }

  opened_command : (peer : Host) (stamp : ℕ) (c : Command) (t : TurnState) → HasSome origin own foreign t.pair
      → HasSome origin own foreign (if_ready (desk_taken peer t.pair.busy stamp c) t).pair
  opened_command peer stamp c t h = while_ready (desk_taken peer t.pair.busy stamp c) t
      (λ d. any_command peer t.pair.busy stamp c (desk_of t.pair t.listening) d) h

  one_command : (peer : Host) (stamp : ℕ) (c : Command) (t : TurnState) → HasSome origin own foreign t.pair
      → HasSome origin own foreign (command_taken peer stamp c t).pair
  one_command peer stamp command.Rst t h = record { x = nothing; has = after_reset origin own foreign peer t }
  one_command peer stamp command.Rrp t h = record { x = h.x; has = after_reply origin own foreign peer t h.x h.has }
  one_command peer stamp command.Nop t h = opened_command peer stamp command.Nop t h
  one_command peer stamp (command.Rts receive send link) t h = opened_command peer stamp
      (command.Rts receive send link) t h
  one_command peer stamp (command.Str send receive size) t h = opened_command peer stamp
      (command.Str send receive size) t h
  one_command peer stamp (command.Cls mine yours) t h = opened_command peer stamp (command.Cls mine yours) t h
  one_command peer stamp (command.All link messages bits) t h = opened_command peer stamp
      (command.All link messages bits) t h
  one_command peer stamp (command.Gvb link messages bits) t h = opened_command peer stamp
      (command.Gvb link messages bits) t h
  one_command peer stamp (command.Ret link messages bits) t h = opened_command peer stamp
      (command.Ret link messages bits) t h
  one_command peer stamp (command.Inr link) t h = opened_command peer stamp (command.Inr link) t h
  one_command peer stamp (command.Ins link) t h = opened_command peer stamp (command.Ins link) t h
  one_command peer stamp (command.Eco octet) t h = opened_command peer stamp (command.Eco octet) t h
  one_command peer stamp (command.Erp octet) t h = opened_command peer stamp (command.Erp octet) t h
  one_command peer stamp (command.Err code detail) t h = opened_command peer stamp (command.Err code detail) t h

  pub one_order : (peer : Host) (stamp : ℕ) (o : Order) (t : TurnState) → HasSome origin own foreign t.pair
      → HasSome origin own foreign (order_taken peer stamp o t).pair
  one_order peer stamp (Legal c) t h = one_command peer stamp c t h
  one_order peer stamp (Wrong code octets) t h = while_ready (command_queued (error code octets)) t
      (λ d. reports code octets (desk_of t.pair t.listening) d) h

  all_orders : (peer : Host) (stamp : ℕ) (os : List Order) (t : TurnState) → HasSome origin own foreign t.pair
      → HasSome origin own foreign (orders_taken peer stamp os t).pair
  all_orders peer stamp [] t h = h
  all_orders peer stamp (o ∷ os) t h = all_orders peer stamp os (order_taken peer stamp o t)
      (one_order peer stamp o t h)

  one_message : (peer : Host) (stamp link : ℕ) (text : List Bool) (t : TurnState) → HasSome origin own foreign t.pair
      → HasSome origin own foreign (message_taken peer stamp link text t).pair
  one_message peer stamp link text t h = by (link == 0) where
    by : (b : Bool)
        →
        HasSome origin own foreign
        (if b then orders_taken peer stamp (orders_of text) t else if_ready (data_taken link text) t).pair
    by true = all_orders peer stamp (orders_of text) t h
    by false = record { x = h.x; has = after_data origin own foreign link text t h.x h.has }

  pub any_message : (s : NcpState) (m : HostMessage) (stamp : ℕ)
      → HasSome origin own foreign (pair_with m.flow.source s.peers)
      → HasSome origin own foreign (pair_with m.flow.source (accepted s (inbound.Message m) stamp).0.peers)
  unfolding accepted
  any_message s m stamp h = by (same_host s.own m.flow.destination) where
    by : (b : Bool)
        →
        HasSome origin own foreign
        (pair_with m.flow.source
        (if b then after_turn s m.flow.source
        (message_taken m.flow.source stamp m.flow.link.0 m.text (turn_of s m.flow.source)) else (s, [])).0.peers)
    by true =
        subst (λ (q : PairState). HasSome origin own foreign q)
        (sym
        (put m.flow.source _
        s.peers))
        (one_message m.flow.source stamp m.flow.link.0 m.text _ h)
    by false = h
