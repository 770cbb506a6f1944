-- What is known of an end stays so while commands are taken and go out.
use Rattle.host_keeps_pairing.proofs.Common.{◌≡◌, ℕ, Bool, true, false, not, ◌&&◌, ◌==◌, if◌then◌else◌, nat_le, List, [], ◌∷◌, ◌++◌, map, filter, Option, Some, None, is_some, refl, ap, sym, subst, ◌∙◌, append_assoc, flat_map, list_any, Host, same_host, same_host-refl, Command, DataHeader, End, nothing, gone, mark_taken, fits, Mark, Ask, Close, Life, at_end, closed_once, cls_taken_by, Unconnected, Ending, Open, gvb_taken, interrupted, matched_once, ret_taken, rts_heard, rts_taken, rts_taken_by, sender_on, receiver_on, str_heard, str_linked, str_taken_by, asked_on_link, asked_with_size, ERRONEOUS, arrived_if, data_found, data_taken, is_acceptable, changed_at, closed_by_partner, closed_when, ending, entry_at, is_at, is_ending, is_over, must_close, opening_notices, opening_by, sends_on, DeskState, settled, swept, cls_sent, command_gone, commands_gone, request_gone, Entry, Listener, Notice, AllFit, all_gone, mark_of, marks, IsSound, Standing, standing, at, came_from, is_past, Stand, Knows, all_known, known_after}
use Rattle.ncp_control.specs.DataHeader.{data_bits}
use Rattle.ncp_control.specs.declared.command.Command.TheVariants as command
use Rattle.host_pairs.specs.Commands as commands
use Rattle.host_pairs.specs.Commands.{all_taken}
use Rattle.host_pairs.specs.Data.{arrived, data_of, text_faulted}
use Rattle.host_pairs.specs.declared.notice.Notice.TheVariants as notice
use Rattle.host_pairs.proofs.lemmas.{both}
use Rattle.host_keeps_pairing.specs.Words as words
use Rattle.host_keeps_pairing.proofs.Lists.{Found, Is, are, at_changed, first}
use Rattle.host_keeps_pairing.proofs.Desks.{On, closed_ends, found_here, none_here}
use Rattle.host_keeps_pairing.proofs.Stands.{asked_by, closed_by, closes_now, live_end, may_ask, plain}
use Rattle.host_keeps_pairing.proofs.Takes.{Fits, after, on_matched, on_shut, one_fits, one_mark, shut, when}
use Rattle.host_keeps_pairing.proofs.Passes.{all_gone_append, cls_unswept, one_gone, request_by}
use Rattle.host_keeps_pairing.proofs.Openings.{found_is, one_end, sockets_are}
use Rattle.interface.proofs.lemmas.{and_turned}

-- ---- what isn't known

pub unasked : (k : List Life) (x : End) → Knows k x → x.asked ≡ None → k ≡ []
unasked [] x h e = refl
unasked (l ∷ k) x h e = absurd (let r : None ≡ Some l.own = sym e ∙ h.0.0 in cc)

unpartnered : (k : List Life) (x : End) → Knows k x → is_some x.partner ≡ false → k ≡ []
unpartnered [] x h e = refl
unpartnered (l ∷ k) x h e = absurd (let r : true ≡ false = sym (ap is_some h.0.1) ∙ e in cc)

-- where nothing is known it stays so
known_none : (k : List Life) (x : End) → k ≡ [] → Knows k x
known_none k x e = subst (λ (j : List Life). Knows j x) (sym e) tt

no_partner : (origin : ℕ → ℕ) (stamp : ℕ) (x : End) → fits (Ask (origin stamp)) x ≡ true → is_some x.partner ≡ false
no_partner origin stamp x fit = by (is_some x.partner) refl where
  by : (b : Bool) → is_some x.partner ≡ b → b ≡ false
  by true e = absurd (let r : (not (is_some x.partner) ≡ true) × (not x.taken ≡ true) = both (not (is_some x.partner)) (not x.taken) fit in let q : false ≡ true = sym (ap not e) ∙ r.0 in cc)
  by false e = refl

-- a CLS leaves the two requests, or the end is over
knows_requests : (k : List Life) (x y : End) → x.asked ≡ y.asked → x.partner ≡ y.partner → Knows k x → Knows k y
knows_requests [] x y e f h = tt
knows_requests (l ∷ k) x y e f h = ((sym e ∙ h.0.0, sym f ∙ h.0.1), knows_requests k x y e f h.1)

module _ (origin : ℕ → ℕ) (peer : Host) (own foreign : ℕ) where
  -- what these notices leave known
  abbrev pub tells : List Notice → List Life → List Life
  tells ns k = all_known origin peer own foreign ns k

  -- from these notices to those, and from this end of the law to that
  abbrev pub Learns : List Notice → List Notice → End → End → Type 0
  Learns old new x y = (k : List Life) → Knows (tells old k) x → Knows (tells new k) y

  pub known_append : (xs ys : List Notice) (k : List Life) → tells (xs ++ ys) k ≡ tells ys (tells xs k)
  known_append [] ys k = refl
  known_append (x ∷ xs) ys k = known_append xs ys (known_after origin peer own foreign x k)

  pub learns_on : (old ns : List Notice) (x y : End) → ((k : List Life) → Knows k x → Knows (tells ns k) y) → Learns old (old ++ ns) x y
  learns_on old ns x y work k h = subst (λ (j : List Life). Knows j y) (sym (known_append old ns k)) (work (tells old k) h)

  -- notices that change nothing
  learns_more : (old ns : List Notice) (x : End) → ((k : List Life) → tells ns k ≡ k) → Learns old (old ++ ns) x x
  learns_more old ns x none = learns_on old ns x x (λ k h. subst (λ (j : List Life). Knows j x) (sym (none k)) h)

  learns_if : (b : Bool) (old : List Notice) (d e : DeskState) (x y : End) → Learns old d.notices x y → Learns old e.notices x y → Learns old (if b then d else e).notices x y
  learns_if true old d e x y h k = h
  learns_if false old d e x y h k = k

  learns_none : (old : List Notice) (x : End) → Learns old old x x
  learns_none old x k h = h

  itself : same_host peer peer ≡ true
  itself = same_host-refl peer

  -- ---- an opening

  here : (e : Entry) (a p : Option ℕ) (k : List Life) (y : End) → (e.own == own && e.foreign == foreign) ≡ true → y.asked ≡ a → y.partner ≡ came_from origin p → Knows k y → Knows (tells (opening_by peer e a p) k) y
  here e None p k y t f g h = h
  here e (Some a) None k y t f g h = h
  here e (Some a) (Some p) k y t f g h = by (is_ending e) where
    by : (v : Bool) → Knows (tells (if v then [] else notice.Opened e.own peer e.foreign a p ∷ []) k) y
    by true = h
    by false = rw (itself, t) ((f, g), h)

  away : (e : Entry) (a p : Option ℕ) (k : List Life) → (e.own == own && e.foreign == foreign) ≡ false → tells (opening_by peer e a p) k ≡ k
  away e None p k t = refl
  away e (Some a) None k t = refl
  away e (Some a) (Some p) k t = by (is_ending e) where
    by : (v : Bool) → tells (if v then [] else notice.Opened e.own peer e.foreign a p ∷ []) k ≡ k
    by true = refl
    by false = rw (itself, t) refl

  opens_here : (place a b : ℕ) (es : List Entry) (ws : List Mark) (x : End) → are a b own foreign ≡ true → Stand true origin place (at own foreign es) ws x → (o : Option Entry) → entry_at a b es ≡ o
      → (k : List Life) → Knows k x → Knows (tells (opening_notices peer o) k) x
  opens_here place a b es ws x t h None f k knows = knows
  opens_here place a b es ws x t h (Some e) f k knows =
      let g : Found own foreign es e = found_here a b own foreign es e t f in
      let is : x ≡ plain origin (standing e) = one_end origin own foreign place e g.rest ws x (subst (λ (ss : List Standing). Stand true origin place ss ws x) g.first h) in
      here e _ _ k x (sockets_are origin own foreign a b e (found_is a b es e f) ∙ t) (ap (λ (y : End). y.asked) is) (ap (λ (y : End). y.partner) is) knows

  opens_away : (a b : ℕ) (es : List Entry) → are a b own foreign ≡ false → (o : Option Entry) → entry_at a b es ≡ o → (k : List Life) → tells (opening_notices peer o) k ≡ k
  opens_away a b es t None f k = refl
  opens_away a b es t (Some e) f k = away e _ e.partner k (sockets_are origin own foreign a b e (found_is a b es e f) ∙ t)

  -- ---- ends that are over

  -- what is known once they are reported
  abbrev swept_known : List Standing → List Life → List Life
  swept_known [] k = k
  swept_known (s ∷ ss) k = swept_known ss (if is_past s && s.mine then [] else k)

  ended_step : (e : Entry) (es : List Entry) → ((k : List Life) → tells (flat_map (ending peer) (filter is_over es)) k ≡ swept_known (at own foreign es) k) → (k : List Life) → (b c m : Bool) → is_over e ≡ b → is_at own foreign e ≡ c → e.mine ≡ m
      → tells (flat_map (ending peer) (filter is_over (e ∷ es))) k ≡ swept_known (at own foreign (e ∷ es)) k
  ended_step e es rest k true true true f g i = rw (f, g, i, itself, g) (rest [] ∙ ap (λ (b : Bool). swept_known (at own foreign es) (if b && true then [] else k)) (sym f))
  ended_step e es rest k true true false f g i = rw (f, g, i) (rest k ∙ ap (λ (b : Bool). swept_known (at own foreign es) (if b && false then [] else k)) (sym f))
  ended_step e es rest k true false true f g i = rw (f, g, i, itself, g) (rest k)
  ended_step e es rest k true false false f g i = rw (f, g, i) (rest k)
  ended_step e es rest k false true m f g i = rw (f, g) (rest k ∙ ap (λ (b : Bool). swept_known (at own foreign es) (if b && e.mine then [] else k)) (sym f))
  ended_step e es rest k false false m f g i = rw (f, g) (rest k)

  ended : (es : List Entry) (k : List Life) → tells (flat_map (ending peer) (filter is_over es)) k ≡ swept_known (at own foreign es) k
  ended [] k = refl
  ended (e ∷ es) k = ended_step e es (ended es) k _ _ e.mine refl refl refl

  -- what was known of the ends before they are swept
  abbrev Knew : List Life → List Standing → Type 0
  Knew k [] = k ≡ []
  Knew k (s ∷ ss) = Knows k (plain origin s)

  not_own : (swept : Bool) (s : Standing) (k : List Life) → IsSound swept s → s.mine ≡ false → Knows k (plain origin s) → k ≡ []
  not_own swept s [] sound e h = refl
  not_own swept s (l ∷ k) sound e h = absurd (let r : true ≡ false = sym (sound.own (ap is_some h.0.0)) ∙ e in cc)

  swept_knows : (place : ℕ) (ss : List Standing) (ws : List Mark) (x : End) (k : List Life) → Stand false origin place ss ws x → Knew k ss → Knows (swept_known ss k) x
  swept_knows place [] ws x k h knew = known_none k x knew
  swept_knows place (s ∷ []) ws x k h knew = by (is_past s) s.mine refl refl where
    by : (b m : Bool) → is_past s ≡ b → s.mine ≡ m → Knows (if b && m then [] else k) x
    by true true e f = tt
    by true false e f = known_none k x (not_own false s k h.0 f knew)
    by false m e f = subst (λ (y : End). Knows k y) (sym (h.2 ∙ live_end origin s e)) knew
  swept_knows place (s ∷ t ∷ ss) ws x k h knew = absurd h

  ended_knows : (place : ℕ) (es : List Entry) (ws : List Mark) (x : End) (k : List Life) → Stand false origin place (at own foreign es) ws x → Knew k (at own foreign es) → Knows (tells (flat_map (ending peer) (filter is_over es)) k) x
  ended_knows place es ws x k h knew = subst (λ (j : List Life). Knows j x) (sym (ended es k)) (swept_knows place _ ws x k h knew)

  knew_of : (place : ℕ) (ss : List Standing) (ws : List Mark) (x : End) (k : List Life) → Stand true origin place ss ws x → Knows k x → Knew k ss
  knew_of place [] ws x k h knows = unasked k x knows (ap (λ (y : End). y.asked) h.1)
  knew_of place (s ∷ []) ws x k h knows = subst (λ (y : End). Knows k y) (h.2 ∙ live_end origin s (h.0.live refl)) knows
  knew_of place (s ∷ t ∷ ss) ws x k h knows = absurd h

  -- a change that leaves the requests
  abbrev LeavesRequests : (Standing → Standing) → Type 0
  LeavesRequests to = (s : Standing) → (s.asked ≡ (to s).asked) × (s.partner ≡ (to s).partner)

  knew_first : (to : Standing → Standing) (k : List Life) (ss : List Standing) → LeavesRequests to → (t : Bool) → Knew k ss → Knew k (if t then first to ss else ss)
  knew_first to k ss same false h = h
  knew_first to k [] same true h = h
  knew_first to k (s ∷ ss) same true h = knows_requests k _ _ (same s).0 (ap (came_from origin) (same s).1) h

  knew_changed : (a b : ℕ) (to : Standing → Standing) (change : Entry → Entry) (es : List Entry) (k : List Life) → Is to change → LeavesRequests to → Knew k (at own foreign es) → Knew k (at own foreign (changed_at a b change es))
  knew_changed a b to change es k is same h = subst (λ (ss : List Standing). Knew k ss) (sym (at_changed a b own foreign to change es is)) (knew_first to k _ same _ h)

  knew_closed : (busy : List ℕ) (k : List Life) (es : List Entry) → Knew k (map standing es) → Knew k (map standing (map (λ e. closed_when (must_close busy e) e) es))
  knew_closed busy k [] h = h
  knew_closed busy k (e ∷ es) h = knows_requests k _ _ refl refl h

  knew_settled : (busy : List ℕ) (d : DeskState) (k : List Life) → Knew k (at own foreign d.entries) → Knew k (at own foreign (settled busy d).entries)
  knew_settled busy d k h =
      subst (λ (es : List Entry). Knew k (map standing es)) (sym (closed_ends origin own foreign 0 busy _)) (knew_closed busy k _ h)

  -- ---- what is heard

  -- a request in order comes where nothing is known
  learns_ask : (place : ℕ) (old : List Notice) (a b stamp : ℕ) (x : End) → Fits origin own foreign place a b (Ask (origin stamp)) x → Learns old old x (after origin own foreign place a b (Ask (origin stamp)) x)
  learns_ask place old a b stamp x fit k h = by (are a b own foreign) refl where
    by : (t : Bool) → are a b own foreign ≡ t → Knows (tells old k) (if t then mark_taken (Ask (origin stamp)) x else x)
    by true t = known_none (tells old k) (mark_taken (Ask (origin stamp)) x) (unpartnered _ x h (no_partner origin stamp x (fit t)))
    by false t = h

  matched_learns : (place a b stamp : ℕ) (c : Command) (e : Entry) (change : Entry → Entry) (d : DeskState) (x : End)
      → Is (asked_by stamp) change → entry_at a b d.entries ≡ Some e → Fits origin own foreign place a b (Ask (origin stamp)) x → On origin own foreign place true d x
      → Learns d.notices (matched_once peer a b c e change d).notices x (after origin own foreign place a b (Ask (origin stamp)) x)
  matched_learns place a b stamp c e change d x is f fit h = by (is_some e.partner) refl where
    new : DeskState
    new = commands.matched peer a b change d

    told : (t : Bool) → are a b own foreign ≡ t → On origin own foreign place true new (if t then mark_taken (Ask (origin stamp)) x else x) → (k : List Life) → Knows k x
        → Knows (tells (opening_notices peer (entry_at a b new.entries)) k) (if t then mark_taken (Ask (origin stamp)) x else x)
    told true t there k knows =
        opens_here place a b new.entries _ _ t there _ refl k
        (known_none k _ (unpartnered k x knows (no_partner origin stamp x (fit t))))
    told false t there k knows = subst (λ (j : List Life). Knows j x) (sym (opens_away a b _ t (entry_at a b new.entries) refl k)) knows

    by : (v : Bool) → is_some e.partner ≡ v → Learns d.notices (if v then commands.faulted ERRONEOUS c d else new).notices x (after origin own foreign place a b (Ask (origin stamp)) x)
    by true g = learns_ask place d.notices a b stamp x fit
    by false g =
        let there : On origin own foreign place true new (after origin own foreign place a b (Ask (origin stamp)) x) =
        subst (λ (v : Bool). On origin own foreign place true (if v then commands.faulted ERRONEOUS c d else new) (after origin own foreign place a b (Ask (origin stamp)) x)) g (on_matched origin own foreign place peer a b stamp c e change d x is f fit h) in
        learns_on d.notices _ x _ (told _ refl there)

  rts_heard_learns : (place a b link stamp : ℕ) (l : Option Listener) (d : DeskState) (x : End) → Fits origin own foreign place a b (Ask (origin stamp)) x
      → Learns d.notices (rts_heard a b link stamp l d).notices x (after origin own foreign place a b (Ask (origin stamp)) x)
  rts_heard_learns place a b link stamp None d x fit = learns_ask place d.notices a b stamp x fit
  rts_heard_learns place a b link stamp (Some l) d x fit = learns_ask place d.notices a b stamp x fit

  rts_by_learns : (place a b link stamp : ℕ) (o : Option Entry) (d : DeskState) (x : End) → entry_at a b d.entries ≡ o → Fits origin own foreign place a b (Ask (origin stamp)) x → On origin own foreign place true d x
      → Learns d.notices (rts_taken_by peer a b link stamp o d).notices x (after origin own foreign place a b (Ask (origin stamp)) x)
  rts_by_learns place a b link stamp None d x f fit h = rts_heard_learns place a b link stamp _ d x fit
  rts_by_learns place a b link stamp (Some e) d x f fit h = matched_learns place a b stamp (command.Rts b a link) e (asked_on_link stamp link) d x (λ y. (refl, refl, refl)) f fit h

  rts_learns : (place a b link stamp : ℕ) (d : DeskState) (x : End) → Fits origin own foreign place a b (Ask (origin stamp)) x → On origin own foreign place true d x
      → Learns d.notices (rts_taken peer a b link stamp d).notices x (after origin own foreign place a b (Ask (origin stamp)) x)
  rts_learns place a b link stamp d x fit h =
      learns_if (list_any (sends_on link) d.entries) d.notices (commands.faulted ERRONEOUS (command.Rts b a link) d) (rts_taken_by peer a b link stamp (entry_at a b d.entries) d) x (after origin own foreign place a b (Ask (origin stamp)) x)
      (learns_ask place d.notices a b stamp x fit) (rts_by_learns place a b link stamp _ d x refl fit h)

  str_linked_learns : (place a b size stamp : ℕ) (l : Option ℕ) (d : DeskState) (x : End) → Fits origin own foreign place a b (Ask (origin stamp)) x
      → Learns d.notices (str_linked a b size stamp l d).notices x (after origin own foreign place a b (Ask (origin stamp)) x)
  str_linked_learns place a b size stamp None d x fit = learns_ask place d.notices a b stamp x fit
  str_linked_learns place a b size stamp (Some l) d x fit = learns_ask place d.notices a b stamp x fit

  str_heard_learns : (place a b size stamp : ℕ) (l : Option Listener) (d : DeskState) (x : End) → Fits origin own foreign place a b (Ask (origin stamp)) x
      → Learns d.notices (str_heard a b size stamp l d).notices x (after origin own foreign place a b (Ask (origin stamp)) x)
  str_heard_learns place a b size stamp None d x fit = learns_ask place d.notices a b stamp x fit
  str_heard_learns place a b size stamp (Some l) d x fit = str_linked_learns place a b size stamp _ d x fit

  str_learns : (place a b size stamp : ℕ) (o : Option Entry) (d : DeskState) (x : End) → entry_at a b d.entries ≡ o → Fits origin own foreign place a b (Ask (origin stamp)) x → On origin own foreign place true d x
      → Learns d.notices (str_taken_by peer a b size stamp o d).notices x (after origin own foreign place a b (Ask (origin stamp)) x)
  str_learns place a b size stamp None d x f fit h = str_heard_learns place a b size stamp _ d x fit
  str_learns place a b size stamp (Some e) d x f fit h = matched_learns place a b stamp (command.Str b a size) e (asked_with_size stamp size) d x (λ y. (refl, refl, refl)) f fit h

  -- a CLS: an end that is over by it is reported
  shut_learns : (place : ℕ) (busy : List ℕ) (a b : ℕ) (e : Entry) (d : DeskState) (x : End) → entry_at a b d.entries ≡ Some e → Fits origin own foreign place a b Close x → On origin own foreign place true d x
      → Learns d.notices (swept peer (shut origin own foreign place busy a b d)).notices x (after origin own foreign place a b Close x)
  shut_learns place busy a b e d x f fit h =
      let next : DeskState = shut origin own foreign place busy a b d in
      learns_on d.notices (flat_map (ending peer) (filter is_over next.entries)) x (after origin own foreign place a b Close x)
      (λ k knows. ended_knows place next.entries (marks place own foreign next.queue) (after origin own foreign place a b Close x) k (on_shut origin own foreign place busy a b e d x f fit h).1
      (knew_settled busy (commands.changed (is_at a b) closed_by_partner d) k
      (knew_changed a b closed_by closed_by_partner _ k (λ y. (refl, refl, refl)) (λ s. (refl, refl)) (knew_of place _ _ x k h knows))))

  cls_learns : (place : ℕ) (busy : List ℕ) (a b : ℕ) (o : Option Entry) (d : DeskState) (x : End) → entry_at a b d.entries ≡ o → Fits origin own foreign place a b Close x → On origin own foreign place true d x
      → Learns d.notices (cls_taken_by peer busy a b o d).notices x (after origin own foreign place a b Close x)
  cls_learns place busy a b None d x f fit h = by (are a b own foreign) refl where
    by : (t : Bool) → are a b own foreign ≡ t → Learns d.notices d.notices x (if t then mark_taken Close x else x)
    by true t =
        let was : (marks place own foreign d.queue ≡ []) × (x ≡ nothing) = subst (λ (ss : List Standing). Stand true origin place ss (marks place own foreign d.queue) x) (none_here a b own foreign _ t f) h in
        absurd (let r : fits Close nothing ≡ true = subst (λ (y : End). fits Close y ≡ true) was.1 (fit t) in cc)
    by false t = learns_none d.notices x
  cls_learns place busy a b (Some e) d x f fit h = by e.partner_closed refl where
    same : (t : Bool) → are a b own foreign ≡ t → e.partner_closed ≡ true → (t ≡ true → e.partner_closed ≡ false) → Learns d.notices d.notices x (if t then mark_taken Close x else x)
    same true t g none = absurd (let r : true ≡ false = sym g ∙ none refl in cc)
    same false t g none = learns_none d.notices x

    by : (v : Bool) → e.partner_closed ≡ v → Learns d.notices (if v then d else swept peer (shut origin own foreign place busy a b d)).notices x (after origin own foreign place a b Close x)
    by true g = same (are a b own foreign) refl g (on_shut origin own foreign place busy a b e d x f fit h).0
    by false g = shut_learns place busy a b e d x f fit h

  -- ---- allocation, interrupts and data

  found_learns : (c : Command) (change : Entry → DeskState → DeskState) (f : commands.Found) (d : DeskState) (x : End) → ((e : Entry) → Learns d.notices (change e d).notices x x) → Learns d.notices (at_end c change f d).notices x x
  found_learns c change Unconnected d x k = learns_none d.notices x
  found_learns c change Ending d x k = learns_none d.notices x
  found_learns c change (Open e) d x k = k e

  ret_learns : (link messages bits : ℕ) (e : Entry) (d : DeskState) (x : End) → Learns d.notices (ret_taken link messages bits e d).notices x x
  ret_learns link messages bits e d x =
      learns_if (nat_le messages e.allocation.messages && nat_le bits e.allocation.bits) d.notices _ _ x x (learns_more d.notices (notice.Returned e.own messages bits ∷ []) x (λ k. refl)) (learns_none d.notices x)

  -- data report nothing of ends
  arrived_leaves : (link : ℕ) (e : Entry) (text : List Bool) (o : Option DataHeader) (d : DeskState) (k : List Life) → tells (arrived_if link e text o d).notices k ≡ tells d.notices k
  arrived_leaves link e text None d k = refl
  arrived_leaves link e text (Some o) d k = by (is_acceptable e o) where
    by : (b : Bool) → tells (if b then arrived link e (data_bits o) text d else text_faulted ERRONEOUS text d).notices k ≡ tells d.notices k
    by true = known_append d.notices (notice.Arrived e.own (data_of (data_bits o) text) ∷ []) k
    by false = refl

  found_leaves : (link : ℕ) (text : List Bool) (f : commands.Found) (d : DeskState) (k : List Life) → tells (data_found link text f d).notices k ≡ tells d.notices k
  found_leaves link text Unconnected d k = refl
  found_leaves link text Ending d k = refl
  found_leaves link text (Open e) d k = arrived_leaves link e text _ d k

  pub data_leaves : (link : ℕ) (text : List Bool) (d : DeskState) (k : List Life) → tells (data_taken link text d).notices k ≡ tells d.notices k
  data_leaves link text d k = found_leaves link text _ d k

  -- ---- all commands

  -- a mark of these sockets, or of others
  to_all : (s : Bool) (place a b : ℕ) (m : Mark) (x : End) (old new : List Notice) → s ≡ are a b own foreign → Learns old new x (after origin own foreign place a b m x) → Learns old new x (words.all_taken (when s m) x)
  to_all s place a b m x old new e h = subst (λ (y : End). Learns old new x y) (one_mark origin own foreign place s _ m x e) h

  pub taken_learns : (place : ℕ) (busy : List ℕ) (stamp : ℕ) (c : Command) (d : DeskState) (x : End) → AllFit (mark_of (origin stamp) foreign own c) x → On origin own foreign place true d x
      → Learns d.notices (commands.desk_taken peer busy stamp c d).notices x (words.all_taken (mark_of (origin stamp) foreign own c) x)
  taken_learns place busy stamp (command.Rts receive send link) d x fit h =
      let e : (receive == foreign && send == own) ≡ are send receive own foreign = and_turned (receive == foreign) (send == own) in
      to_all _ place send receive (Ask (origin stamp)) x d.notices (commands.desk_taken peer busy stamp (command.Rts receive send link) d).notices e
      (rts_learns place send receive link stamp d x (one_fits origin own foreign place _ _ _ x e fit) h)
  taken_learns place busy stamp (command.Str send receive size) d x fit h =
      let e : (send == foreign && receive == own) ≡ are receive send own foreign = and_turned (send == foreign) (receive == own) in
      to_all _ place receive send (Ask (origin stamp)) x d.notices (commands.desk_taken peer busy stamp (command.Str send receive size) d).notices e
      (str_learns place receive send size stamp _ d x refl (one_fits origin own foreign place _ _ _ x e fit) h)
  taken_learns place busy stamp (command.Cls mine yours) d x fit h =
      let e : (mine == foreign && yours == own) ≡ are yours mine own foreign = and_turned (mine == foreign) (yours == own) in
      to_all _ place yours mine Close x d.notices (commands.desk_taken peer busy stamp (command.Cls mine yours) d).notices e
      (cls_learns place busy yours mine _ d x refl (one_fits origin own foreign place _ _ Close x e fit) h)
  taken_learns place busy stamp (command.All link messages bits) d x fit h = found_learns (command.All link messages bits) (all_taken link messages bits) (sender_on link d) d x (λ e. learns_none d.notices x)
  taken_learns place busy stamp (command.Gvb link messages bits) d x fit h = found_learns (command.Gvb link messages bits) (gvb_taken link messages bits) (sender_on link d) d x (λ e. learns_none d.notices x)
  taken_learns place busy stamp (command.Ret link messages bits) d x fit h = found_learns (command.Ret link messages bits) (ret_taken link messages bits) (receiver_on link d) d x (λ e. ret_learns link messages bits e d x)
  taken_learns place busy stamp (command.Inr link) d x fit h = found_learns (command.Inr link) interrupted (sender_on link d) d x (λ e. learns_more d.notices (notice.Interrupt e.own ∷ []) x (λ k. refl))
  taken_learns place busy stamp (command.Ins link) d x fit h = found_learns (command.Ins link) interrupted (receiver_on link d) d x (λ e. learns_more d.notices (notice.Interrupt e.own ∷ []) x (λ k. refl))
  taken_learns place busy stamp (command.Erp octet) d x fit h = learns_more d.notices (notice.Echoed peer octet ∷ []) x (λ k. refl)
  taken_learns place busy stamp (command.Err code detail) d x fit h = learns_more d.notices (notice.RemoteError peer code detail ∷ []) x (λ k. refl)
  taken_learns place busy stamp c d x fit h = learns_none d.notices x

  -- ---- what goes out

  -- an end that is still to ask is not yet open
  not_asked : (place : ℕ) (ss : List Standing) (ws : List Mark) (x : End) → Stand true origin place ss (Ask place ∷ ws) x → x.asked ≡ None
  not_asked place [] ws x h = absurd (let r : Ask place ∷ ws ≡ [] = h.0 in cc)
  not_asked place (s ∷ []) ws x h = (may_ask origin place s ws x h).0
  not_asked place (s ∷ t ∷ ss) ws x h = absurd h

  request_learns : (place stamp a b : ℕ) (d : DeskState) (ws : List Mark) (x : End) (t : Bool) → are a b own foreign ≡ t → Stand true origin place (at own foreign d.entries) ((if t then Ask place ∷ [] else []) ++ ws) x
      → Learns d.notices (request_gone peer stamp a b d).notices x (all_gone (if t then Ask stamp ∷ [] else []) x)
  request_learns place stamp a b d ws x true t h =
      let there : Stand true origin place (at own foreign (request_gone peer stamp a b d).entries) ws (gone (Ask stamp) x) = request_by origin own foreign place peer stamp a b d ws x true t h in
      learns_on d.notices (opening_notices peer (entry_at a b (request_gone peer stamp a b d).entries)) x (gone (Ask stamp) x)
      (λ k knows. opens_here place a b (request_gone peer stamp a b d).entries ws (gone (Ask stamp) x) t there (entry_at a b (request_gone peer stamp a b d).entries) refl k
      (known_none k _ (unasked k x knows (not_asked place _ ws x h))))
  request_learns place stamp a b d ws x false t h =
      learns_more d.notices (opening_notices peer (entry_at a b (request_gone peer stamp a b d).entries)) x (opens_away a b _ t (entry_at a b (request_gone peer stamp a b d).entries) refl)

  closes_learns : (place stamp a b : ℕ) (d : DeskState) (ws : List Mark) (x : End) (t : Bool) → are a b own foreign ≡ t → Stand true origin place (at own foreign d.entries) ((if t then Close ∷ [] else []) ++ ws) x
      → Learns d.notices (command_gone peer stamp (command.Cls a b) d).notices x (all_gone (if t then Close ∷ [] else []) x)
  closes_learns place stamp a b d ws x t e h =
      learns_on d.notices (flat_map (ending peer) (filter is_over (changed_at a b cls_sent d.entries))) x (all_gone (if t then Close ∷ [] else []) x)
      (λ k knows. ended_knows place (changed_at a b cls_sent d.entries) ws (all_gone (if t then Close ∷ [] else []) x) k (cls_unswept origin own foreign place a b d ws x t e h)
      (knew_changed a b closes_now cls_sent _ k (λ y. (refl, refl, refl)) (λ s. (refl, refl)) (knew_of place _ _ x k h knows)))

  gone_learns : (place stamp : ℕ) (c : Command) (d : DeskState) (ws : List Mark) (x : End) → Stand true origin place (at own foreign d.entries) (mark_of place own foreign c ++ ws) x
      → Learns d.notices (command_gone peer stamp c d).notices x (all_gone (mark_of stamp own foreign c) x)
  gone_learns place stamp (command.Rts receive send link) d ws x h = request_learns place stamp receive send d ws x _ refl h
  gone_learns place stamp (command.Str send receive size) d ws x h = request_learns place stamp send receive d ws x _ refl h
  gone_learns place stamp (command.Cls mine yours) d ws x h = closes_learns place stamp mine yours d ws x _ refl h
  gone_learns place stamp c d ws x h = learns_none d.notices x

  pub all_gone_learns : (place stamp : ℕ) (cs : List Command) (d : DeskState) (ws : List Mark) (x : End) → Stand true origin place (at own foreign d.entries) (marks place own foreign cs ++ ws) x
      → Learns d.notices (commands_gone peer stamp cs d).notices x (all_gone (marks stamp own foreign cs) x)
  all_gone_learns place stamp [] d ws x h = learns_none d.notices x
  all_gone_learns place stamp (c ∷ cs) d ws x h =
      let front : Stand true origin place (at own foreign d.entries) (mark_of place own foreign c ++ (marks place own foreign cs ++ ws)) x =
      subst (λ (l : List Mark). Stand true origin place (at own foreign d.entries) l x) (append_assoc (mark_of place own foreign c) (marks place own foreign cs) ws) h in
      let next : Stand true origin place (at own foreign (command_gone peer stamp c d).entries) (marks place own foreign cs ++ ws) (all_gone (mark_of stamp own foreign c) x) = one_gone origin own foreign place peer stamp c d _ x front in
      subst (λ (y : End). Learns d.notices (commands_gone peer stamp (c ∷ cs) d).notices x y) (sym (all_gone_append (mark_of stamp own foreign c) (marks stamp own foreign cs) x))
      (λ k knows. all_gone_learns place stamp cs (command_gone peer stamp c d) ws (all_gone (mark_of stamp own foreign c) x) next k (gone_learns place stamp c d _ x front k knows))
