-- What a host's user is notified of by a call, as what the call does to the lives.
use Rattle.world_keeps_streams.proofs.Common.{flat_map, list_any, Host, data_bits, header_of, Command, DataHeader, arrived_if, data_found, data_of, data_taken, is_acceptable, DeskState, desk_of, listener_on, PairState, Bytes, asked_at, cls_sent, command_gone, parcel_gone, Entry, Listener, Notice, changed_when, life_ended, lives_between, lives_told}
use Rattle.std.proofs.Common.{◌≡◌, ℕ, ◌*◌, ◌&&◌, Bool, true, false, nat_le, if◌then◌else◌, List, [], ◌∷◌, ◌++◌, take, map, filter, find, Option, Some, None, is_some, refl, ap, sym, subst, ◌∙◌, append-nil}
use Rattle.host_pairs.specs.Commands.{Unconnected, Ending, Open, asked_on_link, asked_with_size, at_end, found_in, interrupted, ret_taken, rts_heard, rts_taken_by, str_heard, str_linked, str_taken_by, desk_taken, Found, matched}
use Rattle.host_pairs.specs.Entries.{changed_at, closed_by_partner, closed_when, ending, entry_at, free_link, is_ending, must_close, opening_notices, opening_by, receives_on, sends_on, is_over}
use Rattle.host_keeps_streams.specs.Histories.{Hears, Takes, Says, Sends, Grants, Call}
use Rattle.ncp_control.specs.declared.command.Command.TheVariants as command
use Rattle.host_pairs.specs.Commands as commands
use Rattle.host_pairs.specs.declared.notice.Notice.TheVariants as notice
use Rattle.promise.specs.declared.life.Life.{Life}
use Rattle.world_keeps_streams.proofs.Deeds.Effects as deeds
use Rattle.world_keeps_streams.proofs.Deeds.Effects.{Deed, all_lives, life_by, life_ends, new_by}
use Rattle.world_keeps_streams.proofs.Deeds.Kinds.{arrives, arrives_if, closings, deed_of, hears, matches, opens, opens_by, returns, says, sweeps}

abbrev pub notices_of : Host → Call → PairState → List Listener → List Notice
notices_of p (Hears stamp said c) q listening = (desk_taken p q.busy stamp c (desk_of q listening)).notices
notices_of p (Takes link text) q listening = (data_taken link text (desk_of q listening)).notices
notices_of p (Says stamp c) q listening = (command_gone p stamp c (desk_of q listening)).notices
notices_of p (Sends stamp e size count) q listening = (parcel_gone p stamp q.busy (Bytes e size count) (desk_of q listening)).notices
notices_of p c q listening = []

-- all but a grant, which a user asks for, is reported
abbrev pub IsTold : Call → Type 0
IsTold (Grants socket messages bits e) = ⊥
IsTold c = Unit {0}

pub map_same : {A : Type 0} (xs : List A) → map (λ x. x) xs ≡ xs
map_same [] = refl
map_same (x ∷ xs) = ap (λ ys. x ∷ ys) (map_same xs)

map_twice : {A : Type 0} (f g : A → A) (xs : List A) → map g (map f xs) ≡ map (λ x. g (f x)) xs
map_twice f g [] = refl
map_twice f g (x ∷ xs) = ap (λ ys. g (f x) ∷ ys) (map_twice f g xs)

module _ (a p : Host) where
  abbrev pub After : Deed → List Life → List Life
  After d ls = map (λ x. life_by a p d x) ls ++ new_by a p d

  abbrev Tells : List Notice → Deed → Type 0
  Tells ns d = (ls : List Life) → all_lives a ns ls ≡ After d ls

  none_told : Tells [] deeds.Nothing
  none_told ls = sym (append-nil (map (λ x. x) ls) ∙ map_same ls)

  told_append : (ns ms : List Notice) (ls : List Life) → all_lives a (ns ++ ms) ls ≡ all_lives a ms (all_lives a ns ls)
  told_append [] ms ls = refl
  told_append (n ∷ ns) ms ls = told_append ns ms (lives_told a n ls)

  tells_if : (v : Bool) (d e : DeskState) (f g : Deed) → Tells d.notices f → Tells e.notices g → Tells (if v then d else e).notices (if v then f else g)
  tells_if true d e f g h k = h
  tells_if false d e f g h k = k

  -- one that opens
  tells_opens : (o : Option Entry) → Tells (opening_notices p o) (opens o)
  tells_opens None = none_told
  tells_opens (Some e) = by e.asked e.partner where
    here : (u v : ℕ) (k : Bool) → Tells (if k then [] else notice.Opened e.own p e.foreign u v ∷ []) (if k then deeds.Nothing else deeds.Opens e u v)
    here u v true = none_told
    here u v false = λ ls. ap (λ (xs : List Life). xs ++ new_by a p (deeds.Opens e u v)) (sym (map_same ls))

    by : (u v : Option ℕ) → Tells (opening_by p e u v) (opens_by e u v)
    by None v = none_told
    by (Some u) None = none_told
    by (Some u) (Some v) = here u v (is_ending e)

  -- ends that go
  one_ends : (e : Entry) (ls : List Life) → all_lives a (ending p e) ls ≡ map (λ x. if e.mine then changed_when (lives_between a e.own p e.foreign x) life_ended x else x) ls
  one_ends e ls = by e.mine where
    by : (v : Bool) → all_lives a (if v then notice.Ended e.own p e.foreign ∷ [] else []) ls ≡ map (λ x. if v then changed_when (lives_between a e.own p e.foreign x) life_ended x else x) ls
    by true = refl
    by false = sym (map_same ls)

  all_end : (es : List Entry) (ls : List Life) → all_lives a (flat_map (ending p) es) ls ≡ map (λ x. life_ends a p es x) ls
  all_end [] ls = sym (map_same ls)
  all_end (e ∷ es) ls =
      told_append (ending p e) (flat_map (ending p) es) ls ∙ ap (λ (xs : List Life). all_lives a (flat_map (ending p) es) xs) (one_ends e ls)
      ∙ all_end es (map (λ x. if e.mine then changed_when (lives_between a e.own p e.foreign x) life_ended x else x) ls)
      ∙ map_twice (λ x. if e.mine then changed_when (lives_between a e.own p e.foreign x) life_ended x else x) (λ x. life_ends a p es x) ls

  tells_ends : (es : List Entry) → Tells (flat_map (ending p) es) (deeds.Ends es)
  tells_ends es ls = all_end es ls ∙ sym (append-nil (map (λ x. life_ends a p es x) ls))

  module _ (q : PairState) (listening : List Listener) where
    matched_told : (own foreign : ℕ) (c : Command) (e : Entry) (change : Entry → Entry) → Tells (commands.matched_once p own foreign c e change (desk_of q listening)).notices (matches own foreign change q.entries (Some e))
    matched_told own foreign c e change =
        tells_if (is_some e.partner) _ _ deeds.Nothing (opens (entry_at own foreign (changed_at own foreign change q.entries))) none_told (tells_opens (entry_at own foreign (changed_at own foreign change q.entries)))

    rts_told : (x y link stamp : ℕ) (o : Option Entry) → Tells (rts_taken_by p x y link stamp o (desk_of q listening)).notices (matches x y (asked_on_link stamp link) q.entries o)
    rts_told x y link stamp (Some e) = matched_told x y (command.Rts y x link) e (asked_on_link stamp link)
    rts_told x y link stamp None = by (listener_on x listening) where
      by : (l : Option Listener) → Tells (rts_heard x y link stamp l (desk_of q listening)).notices deeds.Nothing
      by None = none_told
      by (Some l) = none_told

    str_told : (x y size stamp : ℕ) (o : Option Entry) → Tells (str_taken_by p x y size stamp o (desk_of q listening)).notices (matches x y (asked_with_size stamp size) q.entries o)
    str_told x y size stamp (Some e) = matched_told x y (command.Str y x size) e (asked_with_size stamp size)
    str_told x y size stamp None = by (listener_on x listening) where
      linked : (f : Option ℕ) → Tells (str_linked x y size stamp f (desk_of q listening)).notices deeds.Nothing
      linked None = none_told
      linked (Some link) = none_told

      by : (l : Option Listener) → Tells (str_heard x y size stamp l (desk_of q listening)).notices deeds.Nothing
      by None = none_told
      by (Some l) = linked (free_link q.entries)

    cls_told : (own foreign : ℕ) (o : Option Entry) → Tells (commands.cls_taken_by p q.busy own foreign o (desk_of q listening)).notices (closings q.busy own foreign q.entries o)
    cls_told own foreign None = none_told
    cls_told own foreign (Some e) =
        tells_if e.partner_closed _ _ deeds.Nothing (sweeps (map (λ x. closed_when (must_close q.busy x) x) (changed_at own foreign closed_by_partner q.entries))) none_told
        (tells_ends (filter is_over (map (λ x. closed_when (must_close q.busy x) x) (changed_at own foreign closed_by_partner q.entries))))

    -- what is done at the open end that is found
    at_told : (c : Command) (work : Entry → DeskState → DeskState) (f : Found → Deed) → f Unconnected ≡ deeds.Nothing → f Ending ≡ deeds.Nothing → ((e : Entry) → Tells (work e (desk_of q listening)).notices (f (Open e)))
        → (o : Option Entry) → Tells (at_end c work (found_in o) (desk_of q listening)).notices (f (found_in o))
    at_told c work f none ending does o = by (found_in o) where
      by : (w : Found) → Tells (at_end c work w (desk_of q listening)).notices (f w)
      by Unconnected = subst (λ (d : Deed). Tells [] d) (sym none) none_told
      by Ending = subst (λ (d : Deed). Tells [] d) (sym ending) none_told
      by (Open e) = does e

    at_quiet : (c : Command) (work : Entry → DeskState → DeskState) → ((e : Entry) → Tells (work e (desk_of q listening)).notices deeds.Nothing) → (o : Option Entry) → Tells (at_end c work (found_in o) (desk_of q listening)).notices deeds.Nothing
    at_quiet c work does o = at_told c work (λ w. deeds.Nothing) refl refl does o

    plain : (n : Notice) → ((ls : List Life) → lives_told a n ls ≡ ls) → Tells (n ∷ []) deeds.Nothing
    plain n keeps ls = keeps ls ∙ none_told ls

    returned_told : (e : Entry) (m n : ℕ) → Tells (notice.Returned e.own m n ∷ []) (deeds.Returns e m n)
    returned_told e m n ls = sym (append-nil (map (λ x. life_by a p (deeds.Returns e m n) x) ls))

    arrived_told : (e : Entry) (bits : List Bool) → Tells (notice.Arrived e.own bits ∷ []) (deeds.Arrives e bits)
    arrived_told e bits ls = sym (append-nil (map (λ x. life_by a p (deeds.Arrives e bits) x) ls))

    sent_told : (e : Entry) (bits : List Bool) → Tells (notice.Sent e.own bits ∷ []) (deeds.Leaves e bits)
    sent_told e bits ls = sym (append-nil (map (λ x. life_by a p (deeds.Leaves e bits) x) ls))

    ret_told : (link m n : ℕ) (e : Entry) → Tells (ret_taken link m n e (desk_of q listening)).notices (returns m n (Open e))
    ret_told link m n e =
        tells_if (nat_le m e.allocation.messages && nat_le n e.allocation.bits) _ _ (deeds.Returns e m n) deeds.Nothing (returned_told e m n) none_told

    data_told : (link : ℕ) (text : List Bool) (w : Found) → Tells (data_found link text w (desk_of q listening)).notices (arrives text w)
    data_told link text Unconnected = none_told
    data_told link text Ending = none_told
    data_told link text (Open e) = by (header_of text) where
      by : (h : Option DataHeader) → Tells (arrived_if link e text h (desk_of q listening)).notices (arrives_if e text h)
      by None = none_told
      by (Some h) = tells_if (is_acceptable e h) _ _ (deeds.Arrives e (data_of (data_bits h) text)) deeds.Nothing (arrived_told e (data_of (data_bits h) text)) none_told

    hear_told : (stamp : ℕ) (c : Command) → Tells (desk_taken p q.busy stamp c (desk_of q listening)).notices (hears stamp c q)
    hear_told stamp (command.Rts receive send link) =
        tells_if (list_any (sends_on link) q.entries) _ _ deeds.Nothing (matches send receive (asked_on_link stamp link) q.entries (entry_at send receive q.entries)) none_told (rts_told send receive link stamp (entry_at send receive q.entries))
    hear_told stamp (command.Str send receive size) = str_told receive send size stamp (entry_at receive send q.entries)
    hear_told stamp (command.Cls foreign own) = cls_told own foreign (entry_at own foreign q.entries)
    hear_told stamp (command.All link m n) = at_quiet (command.All link m n) (commands.all_taken link m n) (λ e. none_told) (find (sends_on link) q.entries)
    hear_told stamp (command.Gvb link m n) = at_quiet (command.Gvb link m n) (commands.gvb_taken link m n) (λ e. none_told) (find (sends_on link) q.entries)
    hear_told stamp (command.Ret link m n) = at_told (command.Ret link m n) (ret_taken link m n) (returns m n) refl refl (ret_told link m n) (find (receives_on link) q.entries)
    hear_told stamp (command.Inr link) = at_quiet (command.Inr link) interrupted (λ e. plain (notice.Interrupt e.own) (λ ls. refl)) (find (sends_on link) q.entries)
    hear_told stamp (command.Ins link) = at_quiet (command.Ins link) interrupted (λ e. plain (notice.Interrupt e.own) (λ ls. refl)) (find (receives_on link) q.entries)
    hear_told stamp (command.Erp octet) = plain (notice.Echoed p octet) (λ ls. refl)
    hear_told stamp (command.Err code detail) = plain (notice.RemoteError p code detail) (λ ls. refl)
    hear_told stamp c = none_told

    out_told : (stamp : ℕ) (c : Command) → Tells (command_gone p stamp c (desk_of q listening)).notices (says stamp c q)
    out_told stamp (command.Rts receive send link) = tells_opens (entry_at receive send (changed_at receive send (asked_at stamp) q.entries))
    out_told stamp (command.Str send receive size) = tells_opens (entry_at send receive (changed_at send receive (asked_at stamp) q.entries))
    out_told stamp (command.Cls own foreign) = tells_ends (filter is_over (changed_at own foreign cls_sent q.entries))
    out_told stamp c = none_told

    -- what is reported of a call
    pub call_told : (c : Call) → IsTold c → (ls : List Life) → all_lives a (notices_of p c q listening) ls ≡ After (deed_of c q) ls
    call_told (Hears stamp said c) t = hear_told stamp c
    call_told (Takes link text) t = data_told link text _
    call_told (Says stamp c) t = out_told stamp c
    call_told (Sends stamp e size count) t = sent_told e _
    call_told (Grants socket m n e) t = absurd t
    call_told c t = none_told
