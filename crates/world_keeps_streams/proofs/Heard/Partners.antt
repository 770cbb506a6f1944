-- Which request of the peer an end has, where ends change, come and go.
use Rattle.world_keeps_streams.proofs.Common.{eqb-true, list_any, Host, header_of, data_bits, Command, DataHeader, receiver_requested, with_more_bits, arrived_if, data_found, is_acceptable, spent, DeskState, desk_of, listener_on, PairState, freed, Entry, Listener, both}
use Rattle.std.proofs.Common.{◌≡◌, ℕ, ◌*◌, ◌==◌, ◌&&◌, nat_le, Bool, List, [], ◌∷◌, ◌++◌, map, filter, Option, Some, None, is_some, refl, ap, sym, subst, ◌∙◌, ◌⊎◌, inl, inr, true, false}
use Rattle.host_pairs.specs.Commands.{Unconnected, Ending, Open, asked_on_link, asked_with_size, at_end, cls_taken_by, given_back, gvb_taken, interrupted, ret_taken, receiver_on, rts_heard, rts_taken, rts_taken_by, sender_on, str_heard, str_linked, str_taken_by, desk_taken, Found, all_taken, granted, returned}
use Rattle.host_pairs.specs.Entries.{called_off, changed_first, closed_by_partner, entry_at, free_link, is_at, is_mine_on, receiving_end, receives_on, refused_end, sending_end, sends_on}
use Rattle.host_pairs.specs.Parcels.{asked_at, bits_gone, cls_sent, command_gone, may_send_on, link_of}
use Rattle.host_keeps_streams.specs.Histories.{Hears, Takes, Says, Sends, Answered, OpensReceiver, OpensSender, Grants, AsksBack, Gives, Closes, IsTelling, ends_by, Call}
use Rattle.host_keeps_streams.specs.Names.{numbers, AreApart}
use Rattle.host_keeps_streams.proofs.lemmas.{name_of, numbers_mapped, Holds, apart_changed, shut_one, stays}
use Rattle.pair_keeps_streams.proofs.lemmas.{AreSeparate, separate, Stays, at_changed, kept_if, sweep_found}
use Rattle.ncp_control.specs.declared.command.Command.TheVariants as command
use Rattle.stream_law.specs.Receivers.{Receiver}
use Rattle.stream_law.specs.Senders.{Sender}

abbrev pub partner_at : Option Entry → Option ℕ
partner_at None = None
partner_at (Some e) = e.partner

-- each end has the request it had, or may have lost it by going
abbrev AreSame : List Entry → List Entry → Type 0
AreSame es after = (x y : ℕ) → partner_at (entry_at x y after) ≡ partner_at (entry_at x y es)

abbrev AreOld : List Entry → List Entry → Type 0
AreOld es after = (x y v : ℕ) → partner_at (entry_at x y after) ≡ Some v → partner_at (entry_at x y es) ≡ Some v

-- or it has a new one
abbrev pub IsNew : ℕ → ℕ → ℕ → ℕ → ℕ → ℕ → Type 0
IsNew own foreign stamp x y v = (x ≡ own) × (y ≡ foreign) × (v ≡ stamp)

abbrev AreTold : ℕ → ℕ → ℕ → List Entry → List Entry → Type 0
AreTold own foreign stamp es after = (x y v : ℕ) → partner_at (entry_at x y after) ≡ Some v → (partner_at (entry_at x y es) ≡ Some v) ⊎ IsNew own foreign stamp x y v

same_old : (es after : List Entry) → AreSame es after → AreOld es after
same_old es after s x y v t = sym (s x y) ∙ t

changed_step : (test : Entry → Bool) (change : Entry → Entry) → Stays change → ((e : Entry) → (change e).partner ≡ e.partner) → (x y : ℕ) (z : Entry) (zs : List Entry)
    → partner_at (entry_at x y (changed_first test change zs)) ≡ partner_at (entry_at x y zs) → (b c : Bool) → test z ≡ b → is_at x y z ≡ c → partner_at (entry_at x y (changed_first test change (z ∷ zs))) ≡ partner_at (entry_at x y (z ∷ zs))
changed_step test change s same x y z zs rest true true t a = let after : is_at x y (change z) ≡ true = at_changed change s x y z ∙ a in rw (t, a, after) (same z)
changed_step test change s same x y z zs rest true false t a = let after : is_at x y (change z) ≡ false = at_changed change s x y z ∙ a in rw (t, a, after) refl
changed_step test change s same x y z zs rest false true t a = rw (t, a) refl
changed_step test change s same x y z zs rest false false t a = rw (t, a) rest

changed_same : (test : Entry → Bool) (change : Entry → Entry) → Stays change → ((e : Entry) → (change e).partner ≡ e.partner) → (es : List Entry) → AreSame es (changed_first test change es)
changed_same test change s same [] x y = refl
changed_same test change s same (z ∷ zs) x y = changed_step test change s same x y z zs (changed_same test change s same zs x y) _ _ refl refl

settled_step : (busy : List ℕ) (x y : ℕ) (z : Entry) (zs : List Entry) → partner_at (entry_at x y (map (shut_one busy) zs)) ≡ partner_at (entry_at x y zs) → (b : Bool) → is_at x y z ≡ b → partner_at (entry_at x y (map (shut_one busy) (z ∷ zs))) ≡ partner_at (entry_at x y (z ∷ zs))
settled_step busy x y z zs rest true a = rw a refl
settled_step busy x y z zs rest false a = rw a rest

settled_same : (busy : List ℕ) (es : List Entry) → AreSame es (map (shut_one busy) es)
settled_same busy [] x y = refl
settled_same busy (z ∷ zs) x y = settled_step busy x y z zs (settled_same busy zs x y) _ refl

kept_old : (o : Option Entry) (v : ℕ) → partner_at (kept_if o) ≡ Some v → partner_at o ≡ Some v
kept_old None v t = t
kept_old (Some e) v t = by (stays e) refl where
  by : (b : Bool) → stays e ≡ b → e.partner ≡ Some v
  by true s = let r : e.partner ≡ Some v = rw s at t in r
  by false s = absurd (let r : None ≡ Some v = rw s at t in cc)

swept_old : (es after : List Entry) → AreSeparate after → AreSame es after → AreOld es (filter stays after)
swept_old es after a s x y v t = sym (s x y) ∙ kept_old (entry_at x y after) v (ap partner_at (sym (sweep_found after a x y)) ∙ t)

-- ---- a new end

same_sockets : (own foreign x y : ℕ) (z : Entry) → is_at own foreign z ≡ true → is_at x y z ≡ true → (x ≡ own) × (y ≡ foreign)
same_sockets own foreign x y z t a =
    let p : ((z.own == own) ≡ true) × ((z.foreign == foreign) ≡ true) = both _ _ t in
    let q : ((z.own == x) ≡ true) × ((z.foreign == y) ≡ true) = both _ _ a in
    (sym (eqb-true z.own x q.0) ∙ eqb-true z.own own p.0, sym (eqb-true z.foreign y q.1) ∙ eqb-true z.foreign foreign p.1)

append_step : (e z : Entry) (x y : ℕ) (zs : List Entry) → (partner_at (entry_at x y (zs ++ e ∷ [])) ≡ partner_at (entry_at x y zs)) ⊎ ((is_at x y e ≡ true) × (partner_at (entry_at x y (zs ++ e ∷ [])) ≡ e.partner) × (partner_at (entry_at x y zs) ≡ None))
    → (b : Bool) → is_at x y z ≡ b → (partner_at (entry_at x y (z ∷ zs ++ e ∷ [])) ≡ partner_at (entry_at x y (z ∷ zs))) ⊎ ((is_at x y e ≡ true) × (partner_at (entry_at x y (z ∷ zs ++ e ∷ [])) ≡ e.partner) × (partner_at (entry_at x y (z ∷ zs)) ≡ None))
append_step e z x y zs rest true a = inl (rw a refl)
append_step e z x y zs rest false a = rw a rest

appended : (es : List Entry) (e : Entry) (x y : ℕ) → (partner_at (entry_at x y (es ++ e ∷ [])) ≡ partner_at (entry_at x y es)) ⊎ ((is_at x y e ≡ true) × (partner_at (entry_at x y (es ++ e ∷ [])) ≡ e.partner) × (partner_at (entry_at x y es) ≡ None))
appended [] e x y = by (is_at x y e) refl where
  by : (b : Bool) → is_at x y e ≡ b → (partner_at (entry_at x y (e ∷ [])) ≡ partner_at (entry_at x y [])) ⊎ ((is_at x y e ≡ true) × (partner_at (entry_at x y (e ∷ [])) ≡ e.partner) × (partner_at (entry_at x y []) ≡ None))
  by true a = inr (a, rw a refl, refl)
  by false a = inl (rw a refl)
appended (z ∷ zs) e x y = append_step e z x y zs (appended zs e x y) (is_at x y z) refl

append_same : (es : List Entry) (e : Entry) → e.partner ≡ None → AreSame es (es ++ e ∷ [])
append_same es e new x y = elim (appended es e x y) [
  | inl same ↦ same
  | inr k ↦ (k.1 ∙ new ∙ sym k.2)
]

abbrev place_of : Option ℕ → ℕ
place_of None = 0
place_of (Some n) = n

some_same : (v stamp : ℕ) (o : Option ℕ) → o ≡ Some stamp → o ≡ Some v → v ≡ stamp
some_same v stamp o a b = ap place_of (sym b ∙ a)

append_told : (own foreign stamp : ℕ) (es : List Entry) (e : Entry) → e.own ≡ own → e.foreign ≡ foreign → e.partner ≡ Some stamp → AreTold own foreign stamp es (es ++ e ∷ [])
append_told own foreign stamp es e o f p x y v t = elim (appended es e x y) [
  | inl same ↦ inl (sym same ∙ t)
  | inr k ↦ inr (let q : ((e.own == x) ≡ true) × ((e.foreign == y) ≡ true) = both _ _ k.0 in
      (sym (eqb-true e.own x q.0) ∙ o, sym (eqb-true e.foreign y q.1) ∙ f, some_same v stamp _ (k.1 ∙ p) t))
]

module _ (own foreign stamp : ℕ) (change : Entry → Entry) (s : Stays change) (asked : (e : Entry) → (change e).partner ≡ Some stamp) where
  match_step : (x y v : ℕ) (z : Entry) (zs : List Entry) → (partner_at (entry_at x y (changed_first (is_at own foreign) change zs)) ≡ Some v → (partner_at (entry_at x y zs) ≡ Some v) ⊎ IsNew own foreign stamp x y v)
      → (b c : Bool) → is_at own foreign z ≡ b → is_at x y z ≡ c → partner_at (entry_at x y (changed_first (is_at own foreign) change (z ∷ zs))) ≡ Some v → (partner_at (entry_at x y (z ∷ zs)) ≡ Some v) ⊎ IsNew own foreign stamp x y v
  match_step x y v z zs rest true true t a p =
      let after : is_at x y (change z) ≡ true = at_changed change s x y z ∙ a in
      let r : (change z).partner ≡ Some v = rw (t, after) at p in
      let k : (x ≡ own) × (y ≡ foreign) = same_sockets own foreign x y z t a in
      inr (k.0, k.1, some_same v stamp (change z).partner (asked z) r)
  match_step x y v z zs rest true false t a p =
      let after : is_at x y (change z) ≡ false = at_changed change s x y z ∙ a in
      let r : partner_at (entry_at x y zs) ≡ Some v = rw (t, after) at p in
      inl (rw a r)
  match_step x y v z zs rest false true t a p = inl (let r : z.partner ≡ Some v = rw (t, a) at p in rw a r)
  match_step x y v z zs rest false false t a p = rw a (rest (let r : partner_at (entry_at x y (changed_first (is_at own foreign) change zs)) ≡ Some v = rw (t, a) at p in r))

  matched_told : (es : List Entry) → AreTold own foreign stamp es (changed_first (is_at own foreign) change es)
  matched_told [] x y v p = inl p
  matched_told (z ∷ zs) x y v p = match_step x y v z zs (matched_told zs x y v) _ _ refl refl p

-- ---- commands

same_self : (es : List Entry) → AreSame es es
same_self es x y = refl

module _ (peer : Host) (busy : List ℕ) (stamp : ℕ) (d : DeskState) where
  kept : (test : Entry → Bool) (change : Entry → Entry) → Stays change → ((e : Entry) → (change e).partner ≡ e.partner) → AreSame d.entries (changed_first test change d.entries)
  kept test change s same = changed_same test change s same d.entries

  at_end_same : (c : Command) (change : Entry → DeskState → DeskState) (w : Found) → ((e : Entry) → AreSame d.entries (change e d).entries) → AreSame d.entries (at_end c change w d).entries
  at_end_same c change Unconnected f = same_self d.entries
  at_end_same c change Ending f = same_self d.entries
  at_end_same c change (Open e) f = f e

  module _ (own foreign : ℕ) where
    none_told : AreTold own foreign stamp d.entries d.entries
    none_told x y v t = inl t

    rts_listened : (l : ℕ) (o : Option Listener) → AreTold own foreign stamp d.entries (rts_heard own foreign l stamp o d).entries
    rts_listened l None = append_told own foreign stamp d.entries _ refl refl refl
    rts_listened l (Some x) = append_told own foreign stamp d.entries _ refl refl refl

    rts_by : (l : ℕ) (o : Option Entry) → AreTold own foreign stamp d.entries (rts_taken_by peer own foreign l stamp o d).entries
    rts_by l None = rts_listened l _
    rts_by l (Some e) = by (is_some e.partner) refl where
      by : (v : Bool) → is_some e.partner ≡ v → AreTold own foreign stamp d.entries (rts_taken_by peer own foreign l stamp (Some e) d).entries
      by true t = rw t none_told
      by false t = rw t (matched_told own foreign stamp (asked_on_link stamp l) (record { own = λ x. refl; foreign = λ x. refl }) (λ x. refl) d.entries)

    rts_all : (l : ℕ) (v : Bool) → list_any (sends_on l) d.entries ≡ v → AreTold own foreign stamp d.entries (rts_taken peer own foreign l stamp d).entries
    rts_all l true t = rw t none_told
    rts_all l false t = rw t (rts_by l _)

    str_answered : (z : ℕ) (o : Option ℕ) → AreTold own foreign stamp d.entries (str_linked own foreign z stamp o d).entries
    str_answered z None = append_told own foreign stamp d.entries _ refl refl refl
    str_answered z (Some l) = append_told own foreign stamp d.entries _ refl refl refl

    str_listened : (z : ℕ) (o : Option Listener) → AreTold own foreign stamp d.entries (str_heard own foreign z stamp o d).entries
    str_listened z None = append_told own foreign stamp d.entries _ refl refl refl
    str_listened z (Some x) = str_answered z _

    str_by : (z : ℕ) (o : Option Entry) → AreTold own foreign stamp d.entries (str_taken_by peer own foreign z stamp o d).entries
    str_by z None = str_listened z _
    str_by z (Some e) = by (is_some e.partner) refl where
      by : (v : Bool) → is_some e.partner ≡ v → AreTold own foreign stamp d.entries (str_taken_by peer own foreign z stamp (Some e) d).entries
      by true t = rw t none_told
      by false t = rw t (matched_told own foreign stamp (asked_with_size stamp z) (record { own = λ x. refl; foreign = λ x. refl }) (λ x. refl) d.entries)

  ret_same : (l m n : ℕ) (e : Entry) → AreSame d.entries (ret_taken l m n e d).entries
  ret_same l m n e = by (nat_le m e.allocation.messages && nat_le n e.allocation.bits) refl where
    by : (v : Bool) → (nat_le m e.allocation.messages && nat_le n e.allocation.bits) ≡ v → AreSame d.entries (ret_taken l m n e d).entries
    by true t = rw t (kept _ _ (record { own = λ x. refl; foreign = λ x. refl }) (λ x. refl))
    by false t = rw t (same_self d.entries)

  data_by : (l : ℕ) (text : List Bool) (x : Entry) (o : Option DataHeader) → AreSame d.entries (arrived_if l x text o d).entries
  data_by l text x None = same_self d.entries
  data_by l text x (Some h) = by (is_acceptable x h) refl where
    by : (v : Bool) → is_acceptable x h ≡ v → AreSame d.entries (arrived_if l x text (Some h) d).entries
    by true t = rw t (kept _ _ (record { own = λ x. refl; foreign = λ x. refl }) (λ x. refl))
    by false t = rw t (same_self d.entries)

  data_same : (l : ℕ) (text : List Bool) (w : Found) → AreSame d.entries (data_found l text w d).entries
  data_same l text Unconnected = same_self d.entries
  data_same l text Ending = same_self d.entries
  data_same l text (Open x) = data_by l text x _

  module _ (name : ℕ → ℕ → ℕ) (apart : AreApart (numbers name d.entries)) where
    still : (after : List Entry) → AreSame d.entries after → AreOld d.entries after
    still after s = same_old d.entries after s

    out_old : (c : Command) → AreOld d.entries (command_gone peer stamp c d).entries
    out_old (command.Rts receive send l) = still (changed_first (is_at receive send) (asked_at stamp) d.entries) (kept (is_at receive send) (asked_at stamp) (record { own = λ x. refl; foreign = λ x. refl }) (λ x. refl))
    out_old (command.Str send receive size) = still (changed_first (is_at send receive) (asked_at stamp) d.entries) (kept (is_at send receive) (asked_at stamp) (record { own = λ x. refl; foreign = λ x. refl }) (λ x. refl))
    out_old (command.Cls own foreign) = swept_old d.entries (changed_first (is_at own foreign) cls_sent d.entries)
        (separate name (changed_first (is_at own foreign) cls_sent d.entries) (apart_changed name (is_at own foreign) cls_sent d.entries (λ x. refl) apart))
        (kept (is_at own foreign) cls_sent (record { own = λ x. refl; foreign = λ x. refl }) (λ x. refl))
    out_old c = still d.entries (same_self d.entries)

    cls_by : (own foreign : ℕ) (o : Option Entry) → AreOld d.entries (cls_taken_by peer busy own foreign o d).entries
    cls_by own foreign None = still d.entries (same_self d.entries)
    cls_by own foreign (Some e) = by e.partner_closed refl where
      shut : List Entry
      shut = changed_first (is_at own foreign) closed_by_partner d.entries

      all : AreSame d.entries (map (shut_one busy) shut)
      all x y = settled_same busy shut x y ∙ kept (is_at own foreign) closed_by_partner (record { own = λ x. refl; foreign = λ x. refl }) (λ x. refl) x y

      by : (v : Bool) → e.partner_closed ≡ v → AreOld d.entries (cls_taken_by peer busy own foreign (Some e) d).entries
      by true t = rw t (still d.entries (same_self d.entries))
      by false t = rw t (swept_old d.entries (map (shut_one busy) shut)
          (separate name (map (shut_one busy) shut) (subst AreApart (sym (numbers_mapped name (shut_one busy) shut (λ x. refl))) (apart_changed name (is_at own foreign) closed_by_partner d.entries (λ x. refl) apart))) all)

-- ---- each call

-- the request that a command brings
abbrev pub Brings : ℕ → Command → ℕ → ℕ → ℕ → Type 0
Brings stamp (command.Rts receive send l) x y v = IsNew send receive stamp x y v
Brings stamp (command.Str send receive size) x y v = IsNew receive send stamp x y v
Brings stamp c x y v = ⊥

abbrev pub BringsBy : Call → ℕ → ℕ → ℕ → Type 0
BringsBy (Hears stamp said c) x y v = Brings stamp c x y v
BringsBy k x y v = ⊥

module _ (peer : Host) (busy : List ℕ) (stamp : ℕ) (d : DeskState) (name : ℕ → ℕ → ℕ) (apart : AreApart (numbers name d.entries)) where
  abbrev IsTakenOf : Command → Type 0
  IsTakenOf c = (x y v : ℕ) → partner_at (entry_at x y (desk_taken peer busy stamp c d).entries) ≡ Some v → (partner_at (entry_at x y d.entries) ≡ Some v) ⊎ Brings stamp c x y v

  plainly : (c : Command) → AreSame d.entries (desk_taken peer busy stamp c d).entries → IsTakenOf c
  plainly c s x y v t = inl (sym (s x y) ∙ t)

  taken_partners : (c : Command) → IsTakenOf c
  taken_partners (command.Rts receive send l) = rts_all peer busy stamp d send receive l (list_any (sends_on l) d.entries) refl
  taken_partners (command.Str send receive size) = str_by peer busy stamp d receive send size (entry_at receive send d.entries)
  taken_partners (command.Cls foreign own) = λ x y v t. inl (cls_by peer busy stamp d name apart own foreign (entry_at own foreign d.entries) x y v t)
  taken_partners (command.All l m n) = plainly (command.All l m n) (at_end_same peer busy stamp d (command.All l m n) (all_taken l m n) (sender_on l d) (λ e. kept peer busy stamp d (sends_on l) (granted m n) (record { own = λ x. refl; foreign = λ x. refl }) (λ x. refl)))
  taken_partners (command.Gvb l m n) = plainly (command.Gvb l m n) (at_end_same peer busy stamp d (command.Gvb l m n) (gvb_taken l m n) (sender_on l d) (λ e. kept peer busy stamp d (sends_on l) (given_back m n) (record { own = λ x. refl; foreign = λ x. refl }) (λ x. refl)))
  taken_partners (command.Ret l m n) = plainly (command.Ret l m n) (at_end_same peer busy stamp d (command.Ret l m n) (ret_taken l m n) (receiver_on l d) (ret_same peer busy stamp d l m n))
  taken_partners (command.Inr l) = plainly (command.Inr l) (at_end_same peer busy stamp d (command.Inr l) interrupted (sender_on l d) (λ e. same_self d.entries))
  taken_partners (command.Ins l) = plainly (command.Ins l) (at_end_same peer busy stamp d (command.Ins l) interrupted (receiver_on l d) (λ e. same_self d.entries))
  taken_partners c = plainly c (same_self d.entries)

module _ (number : ℕ → ℕ → ℕ → ℕ) (tells : IsTelling number) (link : ℕ) (gone : ℕ → ℕ → ℕ) (peer : Host) (q : PairState) (listening : List Listener) (r : Receiver) (s : Sender) (h : Holds number tells link gone q.entries r s) where
  abbrev IsStepOf : Call → Type 0
  IsStepOf k = (x y v : ℕ) → partner_at (entry_at x y (ends_by peer k q listening)) ≡ Some v → (partner_at (entry_at x y q.entries) ≡ Some v) ⊎ BringsBy k x y v

  quiet : (k : Call) → AreSame q.entries (ends_by peer k q listening) → IsStepOf k
  quiet k same x y v t = inl (sym (same x y) ∙ t)

  opened_same : (own foreign : ℕ) (o : Option ℕ) → AreSame q.entries (receiver_requested own foreign o q).entries
  opened_same own foreign None = same_self q.entries
  opened_same own foreign (Some l) = append_same q.entries _ refl

  closing_same : (busy : List ℕ) (socket : ℕ) → AreSame q.entries (map (shut_one busy) (changed_first (is_mine_on socket) called_off q.entries))
  closing_same busy socket x y = settled_same busy (changed_first (is_mine_on socket) called_off q.entries) x y ∙ changed_same (is_mine_on socket) called_off (record { own = λ x. refl; foreign = λ x. refl }) (λ x. refl) q.entries x y

  -- an end that has a request of the peer had it before, or has just heard it
  pub partner_step : (k : Call) → IsStepOf k
  partner_step (Hears stamp said c) = taken_partners peer q.busy stamp (desk_of q listening) (name_of number gone) h.sound.apart c
  partner_step (Takes l text) = quiet (Takes l text) (data_same peer q.busy 0 (desk_of q listening) l text (receiver_on l (desk_of q listening)))
  partner_step (Says stamp c) = λ x y v t. inl (out_old peer q.busy stamp (desk_of q listening) (name_of number gone) h.sound.apart c x y v t)
  partner_step (Sends stamp e size count) = quiet (Sends stamp e size count) (changed_same (may_send_on q.busy (link_of e.link)) (bits_gone (size * count)) (record { own = λ x. refl; foreign = λ x. refl }) (λ x. refl) q.entries)
  partner_step (Answered l) = quiet (Answered l) (settled_same (freed l q).busy q.entries)
  partner_step (OpensReceiver own foreign) = quiet (OpensReceiver own foreign) (opened_same own foreign (free_link q.entries))
  partner_step (OpensSender own foreign size) = quiet (OpensSender own foreign size) (append_same q.entries (sending_end own foreign size) refl)
  partner_step (Grants socket m n e) = quiet (Grants socket m n e) (changed_same (is_mine_on socket) (granted m n) (record { own = λ x. refl; foreign = λ x. refl }) (λ x. refl) q.entries)
  partner_step (AsksBack socket m n e) = quiet (AsksBack socket m n e) (same_self q.entries)
  partner_step (Gives socket bits e) = quiet (Gives socket bits e) (changed_same (is_mine_on socket) (with_more_bits bits) (record { own = λ x. refl; foreign = λ x. refl }) (λ x. refl) q.entries)
  partner_step (Closes socket e) = quiet (Closes socket e) (closing_same q.busy socket)
