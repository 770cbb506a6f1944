-- How many CLS were heard of two sockets, by each call.
use Rattle.pair_keeps_streams.proofs.Common.{◌≡◌, ℕ, nat_le, ◌&&◌, Bool, true, false, List, map, Option, Some, None, is_some, refl, sym, subst, ◌∙◌, list_any, Host, Command, DataHeader, Receiver, Sender, receiver_requested, Found, Unconnected, Ending, Open, all_taken, at_end, cls_taken_by, given_back, granted, gvb_taken, interrupted, ret_taken, receiver_on, rts_heard, rts_taken, rts_taken_by, sender_on, str_heard, str_linked, str_taken_by, desk_taken, arrived_if, data_found, is_acceptable, DeskState, desk_of, listener_on, called_off, changed_first, entry_at, free_link, is_at, sends_on, PairState, command_gone, Entry, Listener, Call, Hears, Takes, Says, Answered, OpensReceiver, OpensSender, Grants, AsksBack, Gives, Closes, IsTelling, ends_by, gone_by, numbers, AreApart, Holds, apart_changed, name_of, shut_one, heard_from, with_closing}
use Rattle.ncp_control.specs.declared.command.Command.TheVariants as command
use Rattle.host_pairs.specs.Parcels.{cls_sent}
use Rattle.host_keeps_streams.specs.Histories.{Sends}
use Rattle.pair_keeps_streams.proofs.Joint.{IsFirst}
use Rattle.pair_keeps_streams.proofs.Queues.{Stays, separate}
use Rattle.pair_keeps_streams.proofs.Hearing.{IsUnheard, IsAlike, unheard_counts, alike_unheard, same_unheard, changed_alike, changed_unheard, settled_alike, alike_both, append_unheard, swept_heard, cls_heard}

-- ---- all other commands

module _ (peer : Host) (busy : List ℕ) (stamp : ℕ) (d : DeskState) where
  kept : (test : Entry → Bool) (change : Entry → Entry) → Stays change → ((e : Entry) → (change e).partner_closed ≡ e.partner_closed) → IsUnheard d.entries (changed_first test change d.entries)
  kept test change s shut = changed_unheard test change s shut _

  at_end_heard : (c : Command) (change : Entry → DeskState → DeskState) (w : Found) → ((e : Entry) → IsUnheard d.entries (change e d).entries) → IsUnheard d.entries (at_end c change w d).entries
  at_end_heard c change Unconnected f = same_unheard _
  at_end_heard c change Ending f = same_unheard _
  at_end_heard c change (Open e) f = f e

  module _ (own foreign l : ℕ) where
    rts_listened : (o : Option Listener) → IsUnheard d.entries (rts_heard own foreign l stamp o d).entries
    rts_listened None = append_unheard _ _ refl
    rts_listened (Some x) = append_unheard _ _ refl

    rts_by : (o : Option Entry) → IsUnheard d.entries (rts_taken_by peer own foreign l stamp o d).entries
    rts_by None = rts_listened _
    rts_by (Some e) = by (is_some e.partner) refl where
      by : (v : Bool) → is_some e.partner ≡ v → IsUnheard d.entries (rts_taken_by peer own foreign l stamp (Some e) d).entries
      by true t = rw t (same_unheard _)
      by false t = rw t (kept _ _ (record { own = λ x. refl; foreign = λ x. refl }) (λ x. refl))

    rts_all : (v : Bool) → list_any (sends_on l) d.entries ≡ v → IsUnheard d.entries (rts_taken peer own foreign l stamp d).entries
    rts_all true t = rw t (same_unheard _)
    rts_all false t = rw t (rts_by _)

  module _ (own foreign z : ℕ) where
    str_answered : (o : Option ℕ) → IsUnheard d.entries (str_linked own foreign z stamp o d).entries
    str_answered None = append_unheard _ _ refl
    str_answered (Some l) = append_unheard _ _ refl

    str_listened : (o : Option Listener) → IsUnheard d.entries (str_heard own foreign z stamp o d).entries
    str_listened None = append_unheard _ _ refl
    str_listened (Some x) = str_answered (free_link d.entries)

    str_by : (o : Option Entry) → IsUnheard d.entries (str_taken_by peer own foreign z stamp o d).entries
    str_by None = str_listened (listener_on own d.listening)
    str_by (Some e) = by (is_some e.partner) refl where
      by : (v : Bool) → is_some e.partner ≡ v → IsUnheard d.entries (str_taken_by peer own foreign z stamp (Some e) d).entries
      by true t = rw t (same_unheard _)
      by false t = rw t (kept _ _ (record { own = λ x. refl; foreign = λ x. refl }) (λ x. refl))

  ret_heard : (l m n : ℕ) (e : Entry) → IsUnheard d.entries (ret_taken l m n e d).entries
  ret_heard l m n e = by (nat_le m e.allocation.messages && nat_le n e.allocation.bits) refl where
    by : (v : Bool) → (nat_le m e.allocation.messages && nat_le n e.allocation.bits) ≡ v → IsUnheard d.entries (ret_taken l m n e d).entries
    by true t = rw t (kept _ _ (record { own = λ x. refl; foreign = λ x. refl }) (λ x. refl))
    by false t = rw t (same_unheard _)

  data_by : (l : ℕ) (text : List Bool) (x : Entry) (o : Option DataHeader) → IsUnheard d.entries (arrived_if l x text o d).entries
  data_by l text x None = same_unheard _
  data_by l text x (Some h) = by (is_acceptable x h) refl where
    by : (v : Bool) → is_acceptable x h ≡ v → IsUnheard d.entries (arrived_if l x text (Some h) d).entries
    by true t = rw t (kept _ _ (record { own = λ x. refl; foreign = λ x. refl }) (λ x. refl))
    by false t = rw t (same_unheard _)

  data_heard : (l : ℕ) (text : List Bool) (w : Found) → IsUnheard d.entries (data_found l text w d).entries
  data_heard l text Unconnected = same_unheard _
  data_heard l text Ending = same_unheard _
  data_heard l text (Open x) = data_by l text x _

  out_heard : (name : ℕ → ℕ → ℕ) → AreApart (numbers name d.entries) → (c : Command) → IsUnheard d.entries (command_gone peer stamp c d).entries
  out_heard name apart (command.Rts receive send l) = kept _ _ (record { own = λ x. refl; foreign = λ x. refl }) (λ x. refl)
  out_heard name apart (command.Str send receive size) = kept _ _ (record { own = λ x. refl; foreign = λ x. refl }) (λ x. refl)
  out_heard name apart (command.Cls own foreign) = λ x y. (let a : IsAlike (entry_at x y d.entries) (entry_at x y (changed_first (is_at own foreign) cls_sent d.entries))
      = changed_alike _ cls_sent (record { own = λ x. refl; foreign = λ x. refl }) (λ x. refl) d.entries x y in
      swept_heard _ _ (separate name _ (apart_changed name _ cls_sent _ (λ x. refl) apart)) x y a.0 ∙ a.1)
  out_heard name apart c = same_unheard _

  module _ (name gone : ℕ → ℕ → ℕ) (apart : AreApart (numbers name d.entries)) where
    abbrev IsCounted : Command → Type 0
    IsCounted c = (x y : ℕ) → heard_from (gone_by d.entries (desk_taken peer busy stamp c d).entries gone) (desk_taken peer busy stamp c d).entries x y ≡ with_closing c (heard_from gone d.entries) x y

    plainly : (after : List Entry) → IsUnheard d.entries after → (x y : ℕ) → heard_from (gone_by d.entries after gone) after x y ≡ heard_from gone d.entries x y
    plainly after k x y = unheard_counts gone _ after k y x

    cls_counted : (own foreign : ℕ) (e : Entry) → entry_at own foreign d.entries ≡ Some e → e.partner_closed ≡ false → IsCounted (command.Cls foreign own)
    cls_counted own foreign e found first = λ x y.
        subst (λ (o : Option Entry). heard_from (gone_by d.entries (cls_taken_by peer busy own foreign o d).entries gone) (cls_taken_by peer busy own foreign o d).entries x y ≡ with_closing (command.Cls foreign own) (heard_from gone d.entries) x y)
        (sym found) (cls_heard peer busy own foreign name gone d apart e found first y x)

    taken_heard : (c : Command) → IsFirst c d.entries → IsCounted c
    taken_heard (command.Rts receive send l) f = plainly _ (rts_all send receive l _ refl)
    taken_heard (command.Str send receive size) f = plainly _ (str_by receive send size (entry_at receive send d.entries))
    taken_heard (command.Cls foreign own) f = cls_counted own foreign f.0 f.1 f.2
    taken_heard (command.All l m n) f =
        plainly _ (at_end_heard (command.All l m n) (all_taken l m n) (sender_on l d) (λ e. kept (sends_on l) (granted m n) (record { own = λ x. refl; foreign = λ x. refl }) (λ x. refl)))
    taken_heard (command.Gvb l m n) f =
        plainly _ (at_end_heard (command.Gvb l m n) (gvb_taken l m n) (sender_on l d) (λ e. kept (sends_on l) (given_back m n) (record { own = λ x. refl; foreign = λ x. refl }) (λ x. refl)))
    taken_heard (command.Ret l m n) f = plainly _ (at_end_heard (command.Ret l m n) (ret_taken l m n) (receiver_on l d) (ret_heard l m n))
    taken_heard (command.Inr l) f = plainly _ (at_end_heard (command.Inr l) interrupted (sender_on l d) (λ e. same_unheard d.entries))
    taken_heard (command.Ins l) f = plainly _ (at_end_heard (command.Ins l) interrupted (receiver_on l d) (λ e. same_unheard d.entries))
    taken_heard c f = plainly _ (same_unheard _)

-- ---- each call

-- one more where a CLS is heard
abbrev pub heard_more : Call → (ℕ → ℕ → ℕ) → ℕ → ℕ → ℕ
heard_more (Hears stamp said c) n x y = with_closing c n x y
heard_more k n x y = n x y

abbrev pub IsFirstCall : Call → List Entry → Type 0
IsFirstCall (Hears stamp said c) es = IsFirst c es
IsFirstCall k es = Unit {0}

module _ (number : ℕ → ℕ → ℕ → ℕ) (tells : IsTelling number) (link : ℕ) (gone : ℕ → ℕ → ℕ) (peer : Host) (q : PairState) (listening : List Listener) (r : Receiver) (s : Sender) (h : Holds number tells link gone q.entries r s) where
  settled_unheard : (busy : List ℕ) (es : List Entry) → ((x y : ℕ) → IsAlike (entry_at x y q.entries) (entry_at x y es)) → IsUnheard q.entries (map (shut_one busy) es)
  settled_unheard busy es a x y = alike_unheard _ _ (alike_both _ _ _ (a x y) (settled_alike busy es x y))

  opened_unheard : (own foreign : ℕ) (o : Option ℕ) → IsUnheard q.entries (receiver_requested own foreign o q).entries
  opened_unheard own foreign None = same_unheard _
  opened_unheard own foreign (Some l) = append_unheard _ _ refl

  quiet : (after : List Entry) → IsUnheard q.entries after → (x y : ℕ) → heard_from (gone_by q.entries after gone) after x y ≡ heard_from gone q.entries x y
  quiet after k x y = unheard_counts gone _ after k y x

  pub heard_step : (k : Call) → IsFirstCall k q.entries → (x y : ℕ) → heard_from (gone_by q.entries (ends_by peer k q listening) gone) (ends_by peer k q listening) x y ≡ heard_more k (heard_from gone q.entries) x y
  heard_step (Hears stamp said c) f = taken_heard peer q.busy stamp (desk_of q listening) (name_of number gone) gone h.sound.apart c f
  heard_step (Takes l text) f = quiet _ (data_heard peer q.busy 0 (desk_of q listening) l text _)
  heard_step (Says stamp c) f = quiet _ (out_heard peer q.busy stamp (desk_of q listening) _ h.sound.apart c)
  heard_step (Sends stamp e size count) f =
      quiet _ (changed_unheard _ _ (record { own = λ x. refl; foreign = λ x. refl }) (λ x. refl) _)
  heard_step (Answered l) f = quiet _ (settled_unheard _ _ (λ x y. (refl, refl)))
  heard_step (OpensReceiver own foreign) f = quiet _ (opened_unheard own foreign _)
  heard_step (OpensSender own foreign size) f = quiet _ (append_unheard _ _ refl)
  heard_step (Grants socket m n e) f = quiet _ (changed_unheard _ _ (record { own = λ x. refl; foreign = λ x. refl }) (λ x. refl) _)
  heard_step (AsksBack socket m n e) f = quiet _ (same_unheard _)
  heard_step (Gives socket bits e) f = quiet _ (changed_unheard _ _ (record { own = λ x. refl; foreign = λ x. refl }) (λ x. refl) _)
  heard_step (Closes socket e) f =
      quiet _ (settled_unheard q.busy _ (changed_alike _ called_off (record { own = λ x. refl; foreign = λ x. refl }) (λ x. refl) q.entries))

-- ---- the two forms in which it is used

module _ (number : ℕ → ℕ → ℕ → ℕ) (tells : IsTelling number) (link : ℕ) (gone : ℕ → ℕ → ℕ) (peer : Host) (q : PairState) (listening : List Listener) (r : Receiver) (s : Sender) (h : Holds number tells link gone q.entries r s) where
  pub heard_one : (stamp said : ℕ) (c : Command) → IsFirst c q.entries → (x y : ℕ)
      → heard_from (gone_by q.entries (ends_by peer (Hears stamp said c) q listening) gone) (ends_by peer (Hears stamp said c) q listening) x y ≡ with_closing c (heard_from gone q.entries) x y
  heard_one stamp said c f = heard_step number tells link gone peer q listening r s h (Hears stamp said c) f
