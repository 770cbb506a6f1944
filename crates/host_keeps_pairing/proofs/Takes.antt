-- What a command or a message of the peer does at one pair of sockets, where it is in order.
use Rattle.host_keeps_pairing.proofs.Common.{◌≡◌, ℕ, Bool, true, false, ◌&&◌, ◌==◌, if◌then◌else◌, List, [], ◌∷◌, Option, Some, None, is_some, refl, ap, sym, subst, ◌∙◌, list_any, Host, Command, DataHeader, End, nothing, fits, mark_taken, Mark, Ask, Close, asked_on_link, asked_with_size, at_end, changed, closed_once, cls_taken_by, Unconnected, Ending, Open, gvb_taken, interrupted, entry_joined, matched_once, ret_taken, rts_heard, rts_taken, rts_taken_by, sender_on, receiver_on, str_heard, str_linked, str_taken_by, error, ERRONEOUS, arrived_if, data_found, data_taken, closed_by_partner, entry_at, is_at, sends_on, DeskState, command_queued, settled, swept, Entry, Listener, AllFit, mark_of, marks, Standing, standing, at, due, end_of, IsSound, Stand}
use Rattle.ncp_control.specs.Command.{spelling}
use Rattle.ncp_control.specs.declared.command.Command.TheVariants as command
use Rattle.host_pairs.specs.Commands as commands
use Rattle.host_pairs.specs.Commands.{all_taken, answered_on}
use Rattle.host_pairs.specs.Control.{NOT_CONNECTED}
use Rattle.host_keeps_pairing.specs.Words as words
use Rattle.host_keeps_pairing.specs.Hearing.{NamesFreeLink}
use Rattle.host_keeps_pairing.proofs.Lists.{Found, are, eqb-sym}
use Rattle.host_keeps_pairing.proofs.Lists as lists
use Rattle.host_keeps_pairing.proofs.Desks.{On, change_away, change_here, ends_swept, found_here, loose, none_here, on_if, on_joined, on_queued, on_quiet, on_settled}
use Rattle.host_keeps_pairing.proofs.Stands.{asked_by, closed_by, stand_asked, stand_closed}
use Rattle.interface.proofs.lemmas.{and_turned}

-- a list with one mark or none
abbrev pub when : Bool → Mark → List Mark
when b m = if b then m ∷ [] else []

module _ (origin : ℕ → ℕ) (own foreign place : ℕ) where
  -- ---- requests

  abbrev pub after : ℕ → ℕ → Mark → End → End
  after a b m x = if are a b own foreign then mark_taken m x else x

  abbrev pub Fits : ℕ → ℕ → Mark → End → Type 0
  Fits a b m x = are a b own foreign ≡ true → fits m x ≡ true

  matched_rest : (peer : Host) (a b stamp : ℕ) (c : Command) (e : Entry) (change : Entry → Entry) (d : DeskState) (x : End) → lists.Is (asked_by stamp) change → are a b own foreign ≡ true → fits (Ask (origin stamp)) x ≡ true
      → On origin own foreign place true d x → (rest : List Standing) → at own foreign d.entries ≡ standing e ∷ rest → On origin own foreign place true (matched_once peer a b c e change d) (mark_taken (Ask (origin stamp)) x)
  matched_rest peer a b stamp c e change d x is t fit h [] same =
      let k : Stand true origin place (standing e ∷ []) (marks place own foreign d.queue) x = subst (λ (ss : List Standing). Stand true origin place ss (marks place own foreign d.queue) x) same h in
      let none : is_some e.partner ≡ false = (stand_asked origin place stamp _ _ x k fit).0 in
      let done : On origin own foreign place true (commands.matched peer a b change d) (mark_taken (Ask (origin stamp)) x) =
      change_here origin own foreign place true a b _ change _ _ _ x _ is t h
      (λ s rest there j. (stand_asked origin place stamp s _ x j fit).1) _ [] same in
      subst (λ (v : Bool). On origin own foreign place true (if v then commands.faulted ERRONEOUS c d else commands.matched peer a b change d) (mark_taken (Ask (origin stamp)) x)) (sym none) done
  matched_rest peer a b stamp c e change d x is t fit h (s ∷ rest) same =
      absurd (subst (λ (ss : List Standing). Stand true origin place ss (marks place own foreign d.queue) x) same h)

  pub on_matched : (peer : Host) (a b stamp : ℕ) (c : Command) (e : Entry) (change : Entry → Entry) (d : DeskState) (x : End) → lists.Is (asked_by stamp) change → entry_at a b d.entries ≡ Some e → Fits a b (Ask (origin stamp)) x
      → On origin own foreign place true d x → On origin own foreign place true (matched_once peer a b c e change d) (after a b (Ask (origin stamp)) x)
  on_matched peer a b stamp c e change d x is f fit h = by (are a b own foreign) refl where
    by : (t : Bool) → are a b own foreign ≡ t → On origin own foreign place true (matched_once peer a b c e change d) (if t then mark_taken (Ask (origin stamp)) x else x)
    by true t =
        let g : Found own foreign d.entries e = found_here a b own foreign _ e t f in
        matched_rest peer a b stamp c e change d x is t (fit t) h g.rest g.first
    by false t =
        on_if origin own foreign place true _ _ _ x
        (on_queued origin own foreign place true _ d x refl h)
        (change_away origin own foreign place true a b (asked_by stamp) change _ _ x is t h)

  -- a new end by a request of the peer
  on_begun : (a b stamp : ℕ) (e : Entry) (c : Command) (d : DeskState) (x : End) → is_at own foreign e ≡ are a b own foreign → mark_of place own foreign c ≡ (if are a b own foreign then due place (standing e) else [])
      → IsSound true (standing e) → end_of origin (standing e) ≡ mark_taken (Ask (origin stamp)) nothing → entry_at a b d.entries ≡ None
      → On origin own foreign place true d x → On origin own foreign place true (command_queued c (entry_joined e d)) (after a b (Ask (origin stamp)) x)
  on_begun a b stamp e c d x there mark sound end none h =
      on_joined origin own foreign place a b e c d x _ there mark sound none
      (λ t is. ap (λ (v : Bool). if v then mark_taken (Ask (origin stamp)) x else x) t ∙ ap (mark_taken (Ask (origin stamp))) is ∙ sym end)
      (λ t. ap (λ (v : Bool). if v then mark_taken (Ask (origin stamp)) x else x) t) h

  on_refused : (a b stamp : ℕ) (d : DeskState) (x : End) → entry_at a b d.entries ≡ None → On origin own foreign place true d x → On origin own foreign place true (commands.refused a b stamp d) (after a b (Ask (origin stamp)) x)
  on_refused a b stamp d x none h =
      on_begun a b stamp _ _ d x refl refl (record { live = λ e. refl; refused = λ m. (refl, refl); asked = λ e. absurd (cc); own = λ e. absurd (cc) }) refl none h

  on_rts_heard : (a b link stamp : ℕ) (l : Option Listener) (d : DeskState) (x : End) → entry_at a b d.entries ≡ None → On origin own foreign place true d x → On origin own foreign place true (rts_heard a b link stamp l d) (after a b (Ask (origin stamp)) x)
  on_rts_heard a b link stamp None d x none h = on_refused a b stamp d x none h
  on_rts_heard a b link stamp (Some l) d x none h =
      on_begun a b stamp _ (command.Str a b l.size) (answered_on a d) x refl refl (record { live = λ e. refl; refused = λ m. absurd (cc); asked = λ e. absurd (cc); own = λ e. absurd (cc) }) refl none h

  on_rts_by : (peer : Host) (a b link stamp : ℕ) (o : Option Entry) (d : DeskState) (x : End) → entry_at a b d.entries ≡ o → Fits a b (Ask (origin stamp)) x → On origin own foreign place true d x
      → On origin own foreign place true (rts_taken_by peer a b link stamp o d) (after a b (Ask (origin stamp)) x)
  on_rts_by peer a b link stamp None d x f fit h = on_rts_heard a b link stamp _ d x f h
  on_rts_by peer a b link stamp (Some e) d x f fit h = on_matched peer a b stamp (command.Rts b a link) e (asked_on_link stamp link) d x (λ y. (refl, refl, refl)) f fit h

  -- its link is free
  on_rts : (peer : Host) (a b link stamp : ℕ) (d : DeskState) (x : End) → list_any (sends_on link) d.entries ≡ false → Fits a b (Ask (origin stamp)) x → On origin own foreign place true d x
      → On origin own foreign place true (rts_taken peer a b link stamp d) (after a b (Ask (origin stamp)) x)
  on_rts peer a b link stamp d x free fit h =
      subst (λ (v : Bool). On origin own foreign place true (if v then commands.faulted ERRONEOUS (command.Rts b a link) d else rts_taken_by peer a b link stamp (entry_at a b d.entries) d) (after a b (Ask (origin stamp)) x)) (sym free)
      (on_rts_by peer a b link stamp _ d x refl fit h)

  on_str_linked : (a b size stamp : ℕ) (l : Option ℕ) (d : DeskState) (x : End) → entry_at a b d.entries ≡ None → On origin own foreign place true d x → On origin own foreign place true (str_linked a b size stamp l d) (after a b (Ask (origin stamp)) x)
  on_str_linked a b size stamp None d x none h = on_refused a b stamp d x none h
  on_str_linked a b size stamp (Some link) d x none h =
      on_begun a b stamp _ (command.Rts a b link) (answered_on a d) x refl refl (record { live = λ e. refl; refused = λ m. absurd (cc); asked = λ e. absurd (cc); own = λ e. absurd (cc) }) refl none h

  on_str_heard : (a b size stamp : ℕ) (l : Option Listener) (d : DeskState) (x : End) → entry_at a b d.entries ≡ None → On origin own foreign place true d x → On origin own foreign place true (str_heard a b size stamp l d) (after a b (Ask (origin stamp)) x)
  on_str_heard a b size stamp None d x none h = on_refused a b stamp d x none h
  on_str_heard a b size stamp (Some l) d x none h = on_str_linked a b size stamp _ d x none h

  on_str_by : (peer : Host) (a b size stamp : ℕ) (o : Option Entry) (d : DeskState) (x : End) → entry_at a b d.entries ≡ o → Fits a b (Ask (origin stamp)) x → On origin own foreign place true d x
      → On origin own foreign place true (str_taken_by peer a b size stamp o d) (after a b (Ask (origin stamp)) x)
  on_str_by peer a b size stamp None d x f fit h = on_str_heard a b size stamp _ d x f h
  on_str_by peer a b size stamp (Some e) d x f fit h = on_matched peer a b stamp (command.Str b a size) e (asked_with_size stamp size) d x (λ y. (refl, refl, refl)) f fit h

  -- ---- a CLS

  -- the connections after a CLS, before the ends that are over go
  abbrev pub shut : List ℕ → ℕ → ℕ → DeskState → DeskState
  shut busy a b d = settled busy (changed (is_at a b) closed_by_partner d)

  closed_rest : (busy : List ℕ) (a b : ℕ) (e : Entry) (d : DeskState) (x : End) → are a b own foreign ≡ true → fits Close x ≡ true → On origin own foreign place true d x
      → (rest : List Standing) → at own foreign d.entries ≡ standing e ∷ rest → (e.partner_closed ≡ false) × On origin own foreign place false (shut busy a b d) (mark_taken Close x)
  closed_rest busy a b e d x t fit h [] same =
      let k : Stand true origin place (standing e ∷ []) (marks place own foreign d.queue) x = subst (λ (ss : List Standing). Stand true origin place ss (marks place own foreign d.queue) x) same h in
      let none : e.partner_closed ≡ false = (stand_closed origin place _ _ x k fit).0 in
      let marked : On origin own foreign place false (changed (is_at a b) closed_by_partner d) (mark_taken Close x) =
      change_here origin own foreign place false a b closed_by closed_by_partner _ _ _ x _ (λ y. (refl, refl, refl)) t h
      (λ s rest there j. (stand_closed origin place s _ x j fit).1) _ [] same in
      (none, on_settled origin own foreign place false busy (changed _ closed_by_partner d) (mark_taken Close x) marked)
  closed_rest busy a b e d x t fit h (s ∷ rest) same = absurd (subst (λ (ss : List Standing). Stand true origin place ss (marks place own foreign d.queue) x) same h)

  pub on_shut : (busy : List ℕ) (a b : ℕ) (e : Entry) (d : DeskState) (x : End) → entry_at a b d.entries ≡ Some e → Fits a b Close x → On origin own foreign place true d x
      → (are a b own foreign ≡ true → e.partner_closed ≡ false) × On origin own foreign place false (shut busy a b d) (after a b Close x)
  on_shut busy a b e d x f fit h = by (are a b own foreign) refl where
    by : (t : Bool) → are a b own foreign ≡ t → (t ≡ true → e.partner_closed ≡ false) × On origin own foreign place false (shut busy a b d) (if t then mark_taken Close x else x)
    by true t =
        let g : Found own foreign d.entries e = found_here a b own foreign _ e t f in
        let r : (e.partner_closed ≡ false) × On origin own foreign place false (shut busy a b d) (mark_taken Close x) = closed_rest busy a b e d x t (fit t) h g.rest g.first in
        (λ is. r.0, r.1)
    by false t =
        let marked : On origin own foreign place true (changed (is_at a b) closed_by_partner d) x = change_away origin own foreign place true a b closed_by closed_by_partner _ _ x (λ y. (refl, refl, refl)) t h in (
          λ is. absurd (cc),
          loose origin own foreign place _ _ x (on_settled origin own foreign place true busy (changed _ closed_by_partner d) x marked),
        )

  on_cls : (peer : Host) (busy : List ℕ) (a b : ℕ) (o : Option Entry) (d : DeskState) (x : End) → entry_at a b d.entries ≡ o → Fits a b Close x → On origin own foreign place true d x
      → On origin own foreign place true (cls_taken_by peer busy a b o d) (after a b Close x)
  on_cls peer busy a b None d x f fit h = by (are a b own foreign) refl where
    by : (t : Bool) → are a b own foreign ≡ t → On origin own foreign place true (cls_taken_by peer busy a b None d) (if t then mark_taken Close x else x)
    by true t =
        let was : (marks place own foreign d.queue ≡ []) × (x ≡ nothing) = subst (λ (ss : List Standing). Stand true origin place ss (marks place own foreign d.queue) x) (none_here a b own foreign _ t f) h in
        absurd (let r : fits Close nothing ≡ true = subst (λ (y : End). fits Close y ≡ true) was.1 (fit t) in cc)
    by false t = on_queued origin own foreign place true _ d x refl h
  on_cls peer busy a b (Some e) d x f fit h = by (are a b own foreign) refl (on_shut busy a b e d x f fit h) where
    by : (t : Bool) → are a b own foreign ≡ t → (t ≡ true → e.partner_closed ≡ false) × On origin own foreign place false (shut busy a b d) (if t then mark_taken Close x else x)
        → On origin own foreign place true (closed_once peer busy a b e d) (if t then mark_taken Close x else x)
    by true t r =
        subst (λ (v : Bool). On origin own foreign place true (if v then d else swept peer (shut busy a b d)) (mark_taken Close x)) (sym (r.0 refl))
        (ends_swept origin own foreign place _ _ _ r.1)
    by false t r =
        on_if origin own foreign place true _ d _ x h
        (ends_swept origin own foreign place _ _ x r.1)

  -- ---- allocation, interrupts and data

  on_error : (code : ℕ) (octets : List ℕ) (d : DeskState) (x : End) → On origin own foreign place true d x → On origin own foreign place true (command_queued (error code octets) d) x
  on_error code octets d x h = on_queued origin own foreign place true _ d x refl h

  on_found : (c : Command) (change : Entry → DeskState → DeskState) (f : commands.Found) (d : DeskState) (x : End) → ((e : Entry) → On origin own foreign place true (change e d) x) → On origin own foreign place true d x → On origin own foreign place true (at_end c change f d) x
  on_found c change Unconnected d x k h = on_error NOT_CONNECTED _ d x h
  on_found c change Ending d x k h = h
  on_found c change (Open e) d x k h = k e

  on_gvb : (link messages bits : ℕ) (e : Entry) (d : DeskState) (x : End) → On origin own foreign place true d x → On origin own foreign place true (gvb_taken link messages bits e d) x
  on_gvb link messages bits e d x h =
      on_queued origin own foreign place true _ (changed _ _ d) x refl (on_quiet origin own foreign place true _ _ d x (λ y. (refl, refl, refl)) h)

  on_ret : (link messages bits : ℕ) (e : Entry) (d : DeskState) (x : End) → On origin own foreign place true d x → On origin own foreign place true (ret_taken link messages bits e d) x
  on_ret link messages bits e d x h =
      on_if origin own foreign place true _ _ _ x
      (on_quiet origin own foreign place true _ _ d x (λ y. (refl, refl, refl)) h)
      (on_error ERRONEOUS (spelling (command.Ret link messages bits)) d x h)

  on_arrived : (link : ℕ) (e : Entry) (text : List Bool) (o : Option DataHeader) (d : DeskState) (x : End) → On origin own foreign place true d x → On origin own foreign place true (arrived_if link e text o d) x
  on_arrived link e text None d x h = on_error ERRONEOUS _ d x h
  on_arrived link e text (Some o) d x h =
      on_if origin own foreign place true _ _ _ x (on_quiet origin own foreign place true _ _ d x (λ y. (refl, refl, refl)) h) (on_error ERRONEOUS _ d x h)

  on_data_found : (link : ℕ) (text : List Bool) (f : commands.Found) (d : DeskState) (x : End) → On origin own foreign place true d x → On origin own foreign place true (data_found link text f d) x
  on_data_found link text Unconnected d x h = on_error NOT_CONNECTED _ d x h
  on_data_found link text Ending d x h = h
  on_data_found link text (Open e) d x h = on_arrived link e text _ d x h

  -- a message of data changes nothing of what is at any sockets
  pub on_data : (link : ℕ) (text : List Bool) (d : DeskState) (x : End) → On origin own foreign place true d x → On origin own foreign place true (data_taken link text d) x
  on_data link text d x h = on_data_found link text _ d x h

  -- ---- all commands

  pub one_mark : (s t : Bool) (m : Mark) (x : End) → s ≡ t → (if t then mark_taken m x else x) ≡ words.all_taken (when s m) x
  one_mark true true m x e = refl
  one_mark false false m x e = refl
  one_mark true false m x e = absurd (cc)
  one_mark false true m x e = absurd (cc)

  pub one_fits : (s t : Bool) (m : Mark) (x : End) → s ≡ t → AllFit (when s m) x → t ≡ true → fits m x ≡ true
  one_fits true true m x e h is = h.0
  one_fits false false m x e h is = absurd (cc)
  one_fits true false m x e h is = absurd (cc)
  one_fits false true m x e h is = absurd (cc)

  pub on_taken : (peer : Host) (busy : List ℕ) (stamp : ℕ) (c : Command) (d : DeskState) (x : End) → NamesFreeLink c d.entries → AllFit (mark_of (origin stamp) foreign own c) x → On origin own foreign place true d x
      → On origin own foreign place true (commands.desk_taken peer busy stamp c d) (words.all_taken (mark_of (origin stamp) foreign own c) x)
  on_taken peer busy stamp (command.Rts receive send link) d x free fit h =
      let e : (receive == foreign && send == own) ≡ are send receive own foreign = and_turned (receive == foreign) (send == own) in
      subst (λ (y : End). On origin own foreign place true (commands.desk_taken peer busy stamp (command.Rts receive send link) d) y) (one_mark _ _ _ x e)
      (on_rts peer send receive link stamp d x free (one_fits _ _ _ x e fit) h)
  on_taken peer busy stamp (command.Str send receive size) d x free fit h =
      let e : (send == foreign && receive == own) ≡ are receive send own foreign = and_turned (send == foreign) (receive == own) in
      subst (λ (y : End). On origin own foreign place true (commands.desk_taken peer busy stamp (command.Str send receive size) d) y) (one_mark _ _ _ x e)
      (on_str_by peer receive send size stamp _ d x refl (one_fits _ _ _ x e fit) h)
  on_taken peer busy stamp (command.Cls mine yours) d x free fit h =
      let e : (mine == foreign && yours == own) ≡ are yours mine own foreign = and_turned (mine == foreign) (yours == own) in
      subst (λ (y : End). On origin own foreign place true (commands.desk_taken peer busy stamp (command.Cls mine yours) d) y) (one_mark _ _ Close x e)
      (on_cls peer busy yours mine _ d x refl (one_fits _ _ Close x e fit) h)
  on_taken peer busy stamp (command.All link messages bits) d x free fit h =
      on_found (command.All link messages bits) (all_taken link messages bits) (sender_on link d) d x (λ e. on_quiet origin own foreign place true (sends_on link) (commands.granted messages bits) d x (λ y. (refl, refl, refl)) h) h
  on_taken peer busy stamp (command.Gvb link messages bits) d x free fit h = on_found (command.Gvb link messages bits) (gvb_taken link messages bits) (sender_on link d) d x (λ e. on_gvb link messages bits e d x h) h
  on_taken peer busy stamp (command.Ret link messages bits) d x free fit h = on_found (command.Ret link messages bits) (ret_taken link messages bits) (receiver_on link d) d x (λ e. on_ret link messages bits e d x h) h
  on_taken peer busy stamp (command.Inr link) d x free fit h = on_found (command.Inr link) interrupted (sender_on link d) d x (λ e. h) h
  on_taken peer busy stamp (command.Ins link) d x free fit h = on_found (command.Ins link) interrupted (receiver_on link d) d x (λ e. h) h
  on_taken peer busy stamp (command.Eco octet) d x free fit h = on_queued origin own foreign place true _ d x refl h
  on_taken peer busy stamp c d x free fit h = h
