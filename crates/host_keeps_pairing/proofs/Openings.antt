-- The openings that are reported of two sockets are lives of the law.
use Rattle.host_keeps_pairing.proofs.Common.{◌≡◌, inl, inr, ℕ, Bool, false, ◌&&◌, ◌==◌, if◌then◌else◌, nat_le, List, [], ◌∷◌, ◌++◌, filter, Option, Some, None, is_some, refl, ap, sym, subst, ◌∙◌, append_assoc, flat_map, list_any, Host, Command, DataHeader, End, gone, mark_taken, Mark, Ask, Close, Life, lives_taken, at_end, closed_once, cls_taken_by, Unconnected, Ending, Open, gvb_taken, interrupted, matched_once, ret_taken, rts_heard, rts_taken, rts_taken_by, sender_on, receiver_on, str_heard, str_linked, str_taken_by, asked_on_link, asked_with_size, ERRONEOUS, arrived_if, data_found, data_taken, is_acceptable, closed_by_partner, ending, entry_at, is_at, is_ending, is_over, opening_notices, opening_by, sends_on, DeskState, settled, swept, cls_sent, command_gone, commands_gone, request_gone, Entry, Listener, Notice, AllFit, all_gone, mark_of, marks, Standing, standing, at, came_from, Stand, AreAmong, all_lives_gone, all_lives_taken, with_openings}
use Rattle.std.proofs.Common.{true}
use Rattle.ncp_control.specs.declared.command.Command.TheVariants as command
use Rattle.pairing_law.specs.Sides.{lives_gone, lives_opened}
use Rattle.host_pairs.specs.Commands as commands
use Rattle.host_pairs.specs.Commands.{all_taken}
use Rattle.host_pairs.specs.declared.notice.Notice.TheVariants as notice
use Rattle.host_keeps_pairing.specs.Openings.{with_opening}
use Rattle.host_keeps_pairing.proofs.Lists.{Found, Is, are}
use Rattle.host_keeps_pairing.proofs.Desks.{On, found_here, they_are}
use Rattle.host_keeps_pairing.proofs.Stands.{asked_by, live_end, plain}
use Rattle.host_keeps_pairing.proofs.Takes.{Fits, on_matched, one_fits, when}
use Rattle.host_keeps_pairing.proofs.Passes.{one_gone, request_by}
use Rattle.interface.proofs.lemmas.{and_turned}

-- ---- some of others

among_more : (xs ys : List Life) (y : Life) → AreAmong xs ys → AreAmong xs (y ∷ ys)
among_more [] ys y h = tt
among_more (x ∷ xs) ys y h = inr h

among_opened : (a p : Option ℕ) (xs ys : List Life) → AreAmong xs ys → AreAmong xs (lives_opened a p ys)
among_opened None p xs ys h = h
among_opened (Some a) None xs ys h = h
among_opened (Some a) (Some p) xs ys h = among_more xs ys _ h

among_taken : (m : Mark) (x : End) (xs ys : List Life) → AreAmong xs ys → AreAmong xs (lives_taken m x ys)
among_taken (Ask p) x xs ys h = among_opened _ _ xs ys h
among_taken Close x xs ys h = h

-- where an entry is found
pub found_is : (a b : ℕ) (es : List Entry) (e : Entry) → entry_at a b es ≡ Some e → is_at a b e ≡ true
found_is a b [] e f = absurd (cc)
found_is a b (x ∷ es) e f = step _ refl (found_is a b es e) where
  out : Entry → Option Entry → Entry
  out d None = d
  out d (Some y) = y

  step : (t : Bool) → is_at a b x ≡ t → (entry_at a b es ≡ Some e → is_at a b e ≡ true) → is_at a b e ≡ true
  step true g rest = let r : Some x ≡ Some e = rw g at f in let same : x ≡ e = ap (out x) r in subst (λ (y : Entry). is_at a b y ≡ true) same g
  step false g rest = rest (rw g at f)

module _ (origin : ℕ → ℕ) (own foreign : ℕ) where
  -- from these notices to those, and from these lives to those
  abbrev pub Tells : List Notice → List Notice → List Life → List Life → Type 0
  Tells old new lives more = (told : List Life) → AreAmong (with_openings origin own foreign old told) lives → AreAmong (with_openings origin own foreign new told) more

  pub openings_append : (xs ys : List Notice) (told : List Life) → with_openings origin own foreign (xs ++ ys) told ≡ with_openings origin own foreign ys (with_openings origin own foreign xs told)
  openings_append [] ys told = refl
  openings_append (x ∷ xs) ys told = openings_append xs ys (with_opening origin own foreign x told)

  -- notices that report no opening
  abbrev pub AreOther : List Notice → Type 0
  AreOther ns = (told : List Life) → with_openings origin own foreign ns told ≡ told

  tells_more : (old ns : List Notice) (lives : List Life) → AreOther ns → Tells old (old ++ ns) lives lives
  tells_more old ns lives none told h =
      subst (λ (ts : List Life). AreAmong ts lives) (sym (openings_append old ns told ∙ none (with_openings origin own foreign old told))) h

  -- one notice or more that report this
  tells_on : (old ns : List Notice) (lives more : List Life) → ((told : List Life) → AreAmong told lives → AreAmong (with_openings origin own foreign ns told) more) → Tells old (old ++ ns) lives more
  tells_on old ns lives more work told h = subst (λ (ts : List Life). AreAmong ts more) (sym (openings_append old ns told)) (work (with_openings origin own foreign old told) h)

  tells_if : (b : Bool) (old : List Notice) (d e : DeskState) (lives more : List Life) → Tells old d.notices lives more → Tells old e.notices lives more → Tells old (if b then d else e).notices lives more
  tells_if true old d e lives more h k = h
  tells_if false old d e lives more h k = k

  -- ---- an opening

  here : (peer : Host) (e : Entry) (a p : Option ℕ) (told lives : List Life) → (e.own == own && e.foreign == foreign) ≡ true → AreAmong told lives
      → AreAmong (with_openings origin own foreign (opening_by peer e a p) told) (lives_opened a (came_from origin p) lives)
  here peer e None p told lives t h = h
  here peer e (Some a) None told lives t h = h
  here peer e (Some a) (Some p) told lives t h = by (is_ending e) where
    by : (v : Bool) → AreAmong (with_openings origin own foreign (if v then [] else notice.Opened e.own peer e.foreign a p ∷ []) told) (record { own = a; partner = origin p } ∷ lives)
    by true = among_more told lives _ h
    by false = subst (λ (v : Bool). AreAmong (if v then record { own = a; partner = origin p } ∷ told else told) (record { own = a; partner = origin p } ∷ lives)) (sym t) (inl (refl, h))

  away : (peer : Host) (e : Entry) (a p : Option ℕ) (told : List Life) → (e.own == own && e.foreign == foreign) ≡ false → with_openings origin own foreign (opening_by peer e a p) told ≡ told
  away peer e None p told t = refl
  away peer e (Some a) None told t = refl
  away peer e (Some a) (Some p) told t = by (is_ending e) where
    by : (v : Bool) → with_openings origin own foreign (if v then [] else notice.Opened e.own peer e.foreign a p ∷ []) told ≡ told
    by true = refl
    by false = ap (λ (v : Bool). if v then record { own = a; partner = origin p } ∷ told else told) t

  -- the sockets of what is found
  pub sockets_are : (a b : ℕ) (e : Entry) → is_at a b e ≡ true → (e.own == own && e.foreign == foreign) ≡ are a b own foreign
  sockets_are a b e f =
      let s : (e.own ≡ a) × (e.foreign ≡ b) = they_are e.own _ a b f in
      ap (λ (n : ℕ). n == own && e.foreign == foreign) s.0 ∙ ap (λ (n : ℕ). a == own && n == foreign) s.1

  pub one_end : (place : ℕ) (e : Entry) (rest : List Standing) (words : List Mark) (x : End) → Stand true origin place (standing e ∷ rest) words x → x ≡ plain origin (standing e)
  one_end place e [] words x h = h.2 ∙ live_end origin (standing e) (h.0.live refl)
  one_end place e (s ∷ rest) words x h = absurd h

  opens_here : (place : ℕ) (peer : Host) (a b : ℕ) (es : List Entry) (words : List Mark) (x : End) → are a b own foreign ≡ true → Stand true origin place (at own foreign es) words x → (o : Option Entry) → entry_at a b es ≡ o
      → (told lives : List Life) → AreAmong told lives → AreAmong (with_openings origin own foreign (opening_notices peer o) told) (lives_opened x.asked x.partner lives)
  opens_here place peer a b es words x t h None f told lives k = among_opened _ _ told lives k
  opens_here place peer a b es words x t h (Some e) f told lives k =
      let g : Found own foreign es e = found_here a b own foreign es e t f in
      let is : x ≡ plain origin (standing e) = one_end place e g.rest words x (subst (λ (ss : List Standing). Stand true origin place ss words x) g.first h) in
      subst (λ (y : End). AreAmong (with_openings origin own foreign (opening_by peer e e.asked e.partner) told) (lives_opened y.asked y.partner lives)) (sym is)
      (here peer e e.asked e.partner told lives (sockets_are a b e (found_is a b es e f) ∙ t) k)

  opens_away : (peer : Host) (a b : ℕ) (es : List Entry) → are a b own foreign ≡ false → (o : Option Entry) → entry_at a b es ≡ o → AreOther (opening_notices peer o)
  opens_away peer a b es t None f told = refl
  opens_away peer a b es t (Some e) f told = away peer e _ _ told (sockets_are a b e (found_is a b es e f) ∙ t)

  -- ---- what is heard

  -- the lives by one mark, where it is of these sockets
  abbrev by_mark : ℕ → ℕ → Mark → End → List Life → List Life
  by_mark a b m x lives = if are a b own foreign then lives_taken m x lives else lives

  among_by : (v : Bool) (m : Mark) (x : End) (told lives : List Life) → AreAmong told lives → AreAmong told (if v then lives_taken m x lives else lives)
  among_by true m x told lives h = among_taken m x told lives h
  among_by false m x told lives h = h

  -- notices stay as they are
  tells_same : (old : List Notice) (a b : ℕ) (m : Mark) (x : End) (lives : List Life) → Tells old old lives (by_mark a b m x lives)
  tells_same old a b m x lives told h = among_by _ m x _ lives h

  matched_tells : (place : ℕ) (peer : Host) (a b stamp : ℕ) (c : Command) (e : Entry) (change : Entry → Entry) (d : DeskState) (x : End) (lives : List Life)
      → Is (asked_by stamp) change → entry_at a b d.entries ≡ Some e → Fits origin own foreign place a b (Ask (origin stamp)) x → On origin own foreign place true d x
      → Tells d.notices (matched_once peer a b c e change d).notices lives (by_mark a b (Ask (origin stamp)) x lives)
  matched_tells place peer a b stamp c e change d x lives is f fit h = by (is_some e.partner) refl (are a b own foreign) refl where
    new : DeskState
    new = commands.matched peer a b change d

    by : (v : Bool) → is_some e.partner ≡ v → (t : Bool) → are a b own foreign ≡ t
        → Tells d.notices (if v then commands.faulted ERRONEOUS c d else new).notices lives (if t then lives_taken (Ask (origin stamp)) x lives else lives)
    by true g t u = λ told k. among_by t (Ask (origin stamp)) x (with_openings origin own foreign d.notices told) lives k
    by false g true u =
        let after : On origin own foreign place true (if is_some e.partner then commands.faulted ERRONEOUS c d else new) (if are a b own foreign then mark_taken (Ask (origin stamp)) x else x) = on_matched origin own foreign place peer a b stamp c e change d x is f fit h in
        let there : On origin own foreign place true new (mark_taken (Ask (origin stamp)) x) = rw (g, u) at after in
        tells_on d.notices _ lives _
        (opens_here_any new there) where
          opens_here_any : (n : DeskState) → On origin own foreign place true n (mark_taken (Ask (origin stamp)) x) → (told : List Life) → AreAmong told lives
              → AreAmong (with_openings origin own foreign (opening_notices peer (entry_at a b n.entries)) told) (lives_opened x.asked (Some (origin stamp)) lives)
          opens_here_any n k told among = opens_here place peer a b n.entries _ _ u k _ refl told lives among
    by false g false u = tells_more d.notices _ lives (opens_away peer a b _ u _ refl)

  ended_other : (peer : Host) (es : List Entry) → AreOther (flat_map (ending peer) es)
  ended_other peer [] told = refl
  ended_other peer (e ∷ es) told = by e.mine ∙ ended_other peer es told where
    by : (v : Bool) → with_openings origin own foreign ((if v then notice.Ended e.own peer e.foreign ∷ [] else []) ++ flat_map (ending peer) es) told ≡ with_openings origin own foreign (flat_map (ending peer) es) told
    by true = refl
    by false = refl

  rts_heard_tells : (a b link stamp : ℕ) (l : Option Listener) (d : DeskState) (x : End) (lives : List Life) → Tells d.notices (rts_heard a b link stamp l d).notices lives (by_mark a b (Ask (origin stamp)) x lives)
  rts_heard_tells a b link stamp None d x lives = tells_same d.notices a b (Ask (origin stamp)) x lives
  rts_heard_tells a b link stamp (Some l) d x lives = tells_same d.notices a b (Ask (origin stamp)) x lives

  rts_by_tells : (place : ℕ) (peer : Host) (a b link stamp : ℕ) (o : Option Entry) (d : DeskState) (x : End) (lives : List Life) → entry_at a b d.entries ≡ o → Fits origin own foreign place a b (Ask (origin stamp)) x
      → On origin own foreign place true d x → Tells d.notices (rts_taken_by peer a b link stamp o d).notices lives (by_mark a b (Ask (origin stamp)) x lives)
  rts_by_tells place peer a b link stamp None d x lives f fit h = rts_heard_tells a b link stamp _ d x lives
  rts_by_tells place peer a b link stamp (Some e) d x lives f fit h = matched_tells place peer a b stamp (command.Rts b a link) e (asked_on_link stamp link) d x lives (λ y. (refl, refl, refl)) f fit h

  rts_tells : (place : ℕ) (peer : Host) (a b link stamp : ℕ) (d : DeskState) (x : End) (lives : List Life) → Fits origin own foreign place a b (Ask (origin stamp)) x → On origin own foreign place true d x
      → Tells d.notices (rts_taken peer a b link stamp d).notices lives (by_mark a b (Ask (origin stamp)) x lives)
  rts_tells place peer a b link stamp d x lives fit h =
      tells_if (list_any (sends_on link) d.entries) d.notices (commands.faulted ERRONEOUS (command.Rts b a link) d) (rts_taken_by peer a b link stamp (entry_at a b d.entries) d) lives (by_mark a b (Ask (origin stamp)) x lives)
      (tells_same d.notices a b (Ask (origin stamp)) x lives) (rts_by_tells place peer a b link stamp _ d x lives refl fit h)

  str_linked_tells : (a b size stamp : ℕ) (l : Option ℕ) (d : DeskState) (x : End) (lives : List Life) → Tells d.notices (str_linked a b size stamp l d).notices lives (by_mark a b (Ask (origin stamp)) x lives)
  str_linked_tells a b size stamp None d x lives = tells_same d.notices a b (Ask (origin stamp)) x lives
  str_linked_tells a b size stamp (Some l) d x lives = tells_same d.notices a b (Ask (origin stamp)) x lives

  str_heard_tells : (a b size stamp : ℕ) (l : Option Listener) (d : DeskState) (x : End) (lives : List Life) → Tells d.notices (str_heard a b size stamp l d).notices lives (by_mark a b (Ask (origin stamp)) x lives)
  str_heard_tells a b size stamp None d x lives = tells_same d.notices a b (Ask (origin stamp)) x lives
  str_heard_tells a b size stamp (Some l) d x lives = str_linked_tells a b size stamp _ d x lives

  str_tells : (place : ℕ) (peer : Host) (a b size stamp : ℕ) (o : Option Entry) (d : DeskState) (x : End) (lives : List Life) → entry_at a b d.entries ≡ o → Fits origin own foreign place a b (Ask (origin stamp)) x
      → On origin own foreign place true d x → Tells d.notices (str_taken_by peer a b size stamp o d).notices lives (by_mark a b (Ask (origin stamp)) x lives)
  str_tells place peer a b size stamp None d x lives f fit h = str_heard_tells a b size stamp _ d x lives
  str_tells place peer a b size stamp (Some e) d x lives f fit h = matched_tells place peer a b stamp (command.Str b a size) e (asked_with_size stamp size) d x lives (λ y. (refl, refl, refl)) f fit h

  cls_tells : (peer : Host) (busy : List ℕ) (a b : ℕ) (o : Option Entry) (d : DeskState) (x : End) (lives : List Life) → Tells d.notices (cls_taken_by peer busy a b o d).notices lives (by_mark a b Close x lives)
  cls_tells peer busy a b None d x lives = tells_same d.notices a b Close x lives
  cls_tells peer busy a b (Some e) d x lives =
      let next : DeskState = settled busy (commands.changed (is_at a b) closed_by_partner d) in
      tells_if e.partner_closed d.notices d (swept peer next) lives (by_mark a b Close x lives) (tells_same d.notices a b Close x lives)
      (λ told k. tells_same (d.notices ++ flat_map (ending peer) (filter is_over next.entries)) a b Close x lives told (tells_more d.notices (flat_map (ending peer) (filter is_over next.entries)) lives (ended_other peer (filter is_over next.entries)) told k))

  -- ---- allocation, interrupts and data

  none_tells : (old : List Notice) (lives : List Life) → Tells old old lives lives
  none_tells old lives told k = k

  found_tells : (c : Command) (change : Entry → DeskState → DeskState) (f : commands.Found) (d : DeskState) (lives : List Life) → ((e : Entry) → Tells d.notices (change e d).notices lives lives) → Tells d.notices (at_end c change f d).notices lives lives
  found_tells c change Unconnected d lives k = none_tells d.notices lives
  found_tells c change Ending d lives k = none_tells d.notices lives
  found_tells c change (Open e) d lives k = k e

  ret_tells : (link messages bits : ℕ) (e : Entry) (d : DeskState) (lives : List Life) → Tells d.notices (ret_taken link messages bits e d).notices lives lives
  ret_tells link messages bits e d lives =
      tells_if (nat_le messages e.allocation.messages && nat_le bits e.allocation.bits) d.notices _ _ lives lives (tells_more d.notices (notice.Returned e.own messages bits ∷ []) lives (λ told. refl)) (none_tells d.notices lives)

  arrived_tells : (link : ℕ) (e : Entry) (text : List Bool) (o : Option DataHeader) (d : DeskState) (lives : List Life) → Tells d.notices (arrived_if link e text o d).notices lives lives
  arrived_tells link e text None d lives = none_tells d.notices lives
  arrived_tells link e text (Some o) d lives = tells_if (is_acceptable e o) d.notices _ _ lives lives (tells_more d.notices _ lives (λ told. refl)) (none_tells d.notices lives)

  data_found_tells : (link : ℕ) (text : List Bool) (f : commands.Found) (d : DeskState) (lives : List Life) → Tells d.notices (data_found link text f d).notices lives lives
  data_found_tells link text Unconnected d lives = none_tells d.notices lives
  data_found_tells link text Ending d lives = none_tells d.notices lives
  data_found_tells link text (Open e) d lives = arrived_tells link e text _ d lives

  pub data_tells : (link : ℕ) (text : List Bool) (d : DeskState) (lives : List Life) → Tells d.notices (data_taken link text d).notices lives lives
  data_tells link text d lives = data_found_tells link text _ d lives

  -- ---- all commands

  one_life : (s t : Bool) (m : Mark) (x : End) (lives : List Life) → s ≡ t → (if t then lives_taken m x lives else lives) ≡ all_lives_taken (when s m) x lives
  one_life true true m x lives e = refl
  one_life false false m x lives e = refl
  one_life true false m x lives e = absurd (cc)
  one_life false true m x lives e = absurd (cc)

  to_all : (s : Bool) (a b : ℕ) (m : Mark) (x : End) (old new : List Notice) (lives : List Life) → s ≡ are a b own foreign → Tells old new lives (by_mark a b m x lives) → Tells old new lives (all_lives_taken (when s m) x lives)
  to_all s a b m x old new lives e h = subst (λ (ls : List Life). Tells old new lives ls) (one_life s _ m x lives e) h

  pub taken_tells : (place : ℕ) (peer : Host) (busy : List ℕ) (stamp : ℕ) (c : Command) (d : DeskState) (x : End) (lives : List Life) → AllFit (mark_of (origin stamp) foreign own c) x → On origin own foreign place true d x
      → Tells d.notices (commands.desk_taken peer busy stamp c d).notices lives (all_lives_taken (mark_of (origin stamp) foreign own c) x lives)
  taken_tells place peer busy stamp (command.Rts receive send link) d x lives fit h =
      let e : (receive == foreign && send == own) ≡ are send receive own foreign = and_turned (receive == foreign) (send == own) in
      to_all _ send receive (Ask (origin stamp)) x d.notices (commands.desk_taken peer busy stamp (command.Rts receive send link) d).notices lives e
      (rts_tells place peer send receive link stamp d x lives (one_fits origin own foreign place _ _ _ x e fit) h)
  taken_tells place peer busy stamp (command.Str send receive size) d x lives fit h =
      let e : (send == foreign && receive == own) ≡ are receive send own foreign = and_turned (send == foreign) (receive == own) in
      to_all _ receive send (Ask (origin stamp)) x d.notices (commands.desk_taken peer busy stamp (command.Str send receive size) d).notices lives e
      (str_tells place peer receive send size stamp _ d x lives refl (one_fits origin own foreign place _ _ _ x e fit) h)
  taken_tells place peer busy stamp (command.Cls mine yours) d x lives fit h =
      to_all _ yours mine Close x d.notices (commands.desk_taken peer busy stamp (command.Cls mine yours) d).notices lives (and_turned (mine == foreign) (yours == own)) (cls_tells peer busy yours mine (entry_at yours mine d.entries) d x lives)
  taken_tells place peer busy stamp (command.All link messages bits) d x lives fit h = found_tells (command.All link messages bits) (all_taken link messages bits) (sender_on link d) d lives (λ e. none_tells d.notices lives)
  taken_tells place peer busy stamp (command.Gvb link messages bits) d x lives fit h = found_tells (command.Gvb link messages bits) (gvb_taken link messages bits) (sender_on link d) d lives (λ e. none_tells d.notices lives)
  taken_tells place peer busy stamp (command.Ret link messages bits) d x lives fit h = found_tells (command.Ret link messages bits) (ret_taken link messages bits) (receiver_on link d) d lives (λ e. ret_tells link messages bits e d lives)
  taken_tells place peer busy stamp (command.Inr link) d x lives fit h = found_tells (command.Inr link) interrupted (sender_on link d) d lives (λ e. tells_more d.notices (notice.Interrupt e.own ∷ []) lives (λ told. refl))
  taken_tells place peer busy stamp (command.Ins link) d x lives fit h = found_tells (command.Ins link) interrupted (receiver_on link d) d lives (λ e. tells_more d.notices (notice.Interrupt e.own ∷ []) lives (λ told. refl))
  taken_tells place peer busy stamp (command.Erp octet) d x lives fit h = tells_more d.notices (notice.Echoed peer octet ∷ []) lives (λ told. refl)
  taken_tells place peer busy stamp (command.Err code detail) d x lives fit h = tells_more d.notices (notice.RemoteError peer code detail ∷ []) lives (λ told. refl)
  taken_tells place peer busy stamp c d x lives fit h = none_tells d.notices lives

  -- ---- what goes out

  request_tells : (place : ℕ) (peer : Host) (stamp a b : ℕ) (d : DeskState) (words : List Mark) (x : End) (lives : List Life) (t : Bool) → are a b own foreign ≡ t
      → Stand true origin place (at own foreign d.entries) ((if t then Ask place ∷ [] else []) ++ words) x
      → Tells d.notices (request_gone peer stamp a b d).notices lives (all_lives_gone (if t then Ask stamp ∷ [] else []) x lives)
  request_tells place peer stamp a b d words x lives true t h =
      let after : Stand true origin place (at own foreign (request_gone peer stamp a b d).entries) words (gone (Ask stamp) x) = request_by origin own foreign place peer stamp a b d words x true t h in
      tells_on d.notices (opening_notices peer (entry_at a b (request_gone peer stamp a b d).entries)) lives (lives_opened (Some stamp) x.partner lives)
      (λ told k. opens_here place peer a b (request_gone peer stamp a b d).entries words (gone (Ask stamp) x) t after _ refl told lives k)
  request_tells place peer stamp a b d words x lives false t h =
      tells_more d.notices (opening_notices peer (entry_at a b (request_gone peer stamp a b d).entries)) lives (opens_away peer a b (request_gone peer stamp a b d).entries t _ refl)

  closes_tells : (peer : Host) (stamp a b : ℕ) (d : DeskState) (x : End) (lives : List Life) (t : Bool) → Tells d.notices (command_gone peer stamp (command.Cls a b) d).notices lives (all_lives_gone (if t then Close ∷ [] else []) x lives)
  closes_tells peer stamp a b d x lives true = tells_more d.notices _ lives (ended_other peer (filter is_over (commands.changed (is_at a b) cls_sent d).entries))
  closes_tells peer stamp a b d x lives false = tells_more d.notices _ lives (ended_other peer (filter is_over (commands.changed (is_at a b) cls_sent d).entries))

  gone_tells : (place : ℕ) (peer : Host) (stamp : ℕ) (c : Command) (d : DeskState) (words : List Mark) (x : End) (lives : List Life) → Stand true origin place (at own foreign d.entries) (mark_of place own foreign c ++ words) x
      → Tells d.notices (command_gone peer stamp c d).notices lives (all_lives_gone (mark_of stamp own foreign c) x lives)
  gone_tells place peer stamp (command.Rts receive send link) d words x lives h = request_tells place peer stamp receive send d words x lives _ refl h
  gone_tells place peer stamp (command.Str send receive size) d words x lives h = request_tells place peer stamp send receive d words x lives _ refl h
  gone_tells place peer stamp (command.Cls mine yours) d words x lives h = closes_tells peer stamp mine yours d x lives _
  gone_tells place peer stamp c d words x lives h = none_tells d.notices lives

  all_lives_append : (ms ns : List Mark) (x : End) (lives : List Life) → all_lives_gone (ms ++ ns) x lives ≡ all_lives_gone ns (all_gone ms x) (all_lives_gone ms x lives)
  all_lives_append [] ns x lives = refl
  all_lives_append (m ∷ ms) ns x lives = all_lives_append ms ns (gone m x) (lives_gone m x lives)

  pub all_gone_tells : (place : ℕ) (peer : Host) (stamp : ℕ) (cs : List Command) (d : DeskState) (words : List Mark) (x : End) (lives : List Life) → Stand true origin place (at own foreign d.entries) (marks place own foreign cs ++ words) x
      → Tells d.notices (commands_gone peer stamp cs d).notices lives (all_lives_gone (marks stamp own foreign cs) x lives)
  all_gone_tells place peer stamp [] d words x lives h = none_tells d.notices lives
  all_gone_tells place peer stamp (c ∷ cs) d words x lives h =
      let first : Stand true origin place (at own foreign d.entries) (mark_of place own foreign c ++ (marks place own foreign cs ++ words)) x =
      subst (λ (l : List Mark). Stand true origin place (at own foreign d.entries) l x) (append_assoc (mark_of place own foreign c) (marks place own foreign cs) words) h in
      let next : Stand true origin place (at own foreign (command_gone peer stamp c d).entries) (marks place own foreign cs ++ words) (all_gone (mark_of stamp own foreign c) x) = one_gone origin own foreign place peer stamp c d _ x first in
      subst (λ (ls : List Life). Tells d.notices (commands_gone peer stamp (c ∷ cs) d).notices lives ls) (sym (all_lives_append (mark_of stamp own foreign c) (marks stamp own foreign cs) x lives))
      (λ told k. all_gone_tells place peer stamp cs (command_gone peer stamp c d) words _ (all_lives_gone (mark_of stamp own foreign c) x lives) next told
      (gone_tells place peer stamp c d _ x lives first told k))
