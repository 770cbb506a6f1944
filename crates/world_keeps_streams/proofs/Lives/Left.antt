-- The lives of a host that doesn't stay with a peer have all ended: it has taken no request of the peer since it left.
use Rattle.world_keeps_streams.proofs.Common.{Contains, eqb-true, Host, is_receive_socket, is_send_socket, entry_at, is_at, is_mine_on, Entry, both, Stand, Standing, at, end_of, is_past, standing, marks, End, Mark, stays_same, pair_with, Moment, events_of, program, crossings_of, Coupled, HasOpenEnd, mine_on, law_events, origin_in, Network, AreOurs}
use Rattle.std.proofs.Common.{◌≡◌, ◌⊎◌, inl, inr, ℕ, ◌==◌, Bool, false, List, [], ◌∷◌, filter, find, map, Option, Some, None, refl, ap, sym, subst, ◌∙◌, eq-eqb, true}
use Rattle.pairing_law.specs.Links.{Sockets, Who, Receiver, Sender}
use Rattle.world_keeps_pairing.proofs.lemmas.{Side_of, Tie, all_tied, are_origins, at_texts, foreign_of, other, own_of, served_in, IsPair, Unheard, unheard}
use Rattle.reset_law.specs.Stays as stay
use Rattle.promise.specs.declared.life.Life.{Life}
use Rattle.world_keeps_streams.proofs.Deeds.Effects.{Among, among_filter, among_kept, among_mapped, found_among}
use Rattle.world_keeps_streams.proofs.Lives.Lists.{IsOf, contains}
use Rattle.world_keeps_streams.proofs.Requests.Sides.{Lawful, coupled_in, lives_in}
use Rattle.world_keeps_streams.proofs.Lives.Among.{life_paired}
use Rattle.world_keeps_streams.proofs.Ours.{live, ours_of}

-- ---- an end of a program is that of the law

pub stands_as : (origin : ℕ → ℕ) (place : ℕ) (ss : List Standing) (words : List Mark) (x : End) (s : Standing) → Stand true origin place ss words x → Among s ss → (x ≡ end_of origin s) × (is_past s ≡ false)
stands_as origin place [] words x s h i = absurd i
stands_as origin place (t ∷ []) words x s h (inl e) = (h.2 ∙ ap (end_of origin) e, subst (λ (v : Standing). is_past v ≡ false) e (h.0.live refl))
stands_as origin place (t ∷ []) words x s h (inr i) = absurd i
stands_as origin place (t ∷ u ∷ more) words x s h i = absurd h

pub entry_end : (s : Sockets) (q : IsPair s) (who : Who) (h p : Host) (origin : ℕ → ℕ) (ms : List Moment) → Tie s q who h p origin ms → (e : Entry) → Among e (pair_with p (program h ms).peers).entries
    → e.own ≡ own_of who s → e.foreign ≡ foreign_of who s → ((Side_of s q who h p origin ms).end ≡ end_of origin (standing e)) × (is_past (standing e) ≡ false)
entry_end s q who h p origin ms tie e there own foreign =
    let a : (e.own == own_of who s) ≡ true = eq-eqb e.own (own_of who s) own in
    let b : (e.foreign == foreign_of who s) ≡ true = eq-eqb e.foreign (foreign_of who s) foreign in
    let here : is_at (own_of who s) (foreign_of who s) e ≡ true = (rw (a, b) refl) in
    stands_as origin 0 _ _
    _ _ (tie.ends 0)
    (among_mapped standing _ e
    (among_kept _ _ e there here))

-- ---- there is one at its two sockets

pub at_it : (own foreign : ℕ) (e : Entry) → e.own ≡ own → e.foreign ≡ foreign → is_at own foreign e ≡ true
at_it own foreign e is there =
    let a : (e.own == own) ≡ true = eq-eqb e.own own is in
    let b : (e.foreign == foreign) ≡ true = eq-eqb e.foreign foreign there in
    (rw (a, b) refl)

pub none_found : (test : Entry → Bool) (es : List Entry) (e : Entry) → find test es ≡ None → Among e es → test e ≡ true → ⊥
none_found test [] e none i t = i
none_found test (f ∷ es) e none i t = by (test f) refl i (none_found test es e) where
  by : (v : Bool) → test f ≡ v → (f ≡ e) ⊎ Among e es → (find test es ≡ None → Among e es → test e ≡ true → ⊥) → ⊥
  by true u j rest = let no : Some f ≡ None = rw u at none in absurd (cc)
  by false u (inl is) rest = absurd (let no : true ≡ false = sym t ∙ ap test (sym is) ∙ u in cc)
  by false u (inr j) rest = rest (rw u at none) j t

pub one_of : (origin : ℕ → ℕ) (place : ℕ) (fs : List Entry) (words : List Mark) (x : End) (e f : Entry)
    → Stand true origin place (map standing fs) words x → Among e fs → Among f fs → e ≡ f
one_of origin place [] words x e f h i j = absurd i
one_of origin place (g ∷ []) words x e f h (inl i) (inl j) = sym i ∙ j
one_of origin place (g ∷ []) words x e f h (inr i) j = absurd i
one_of origin place (g ∷ []) words x e f h (inl i) (inr j) = absurd j
one_of origin place (g ∷ k ∷ fs) words x e f h i j = absurd h

module _ (s : Sockets) (q : IsPair s) (who : Who) (h p : Host) (ms : List Moment) (tie : Tie s q who h p (origin_in (crossings_of ms) h p) ms) where
  pub one_tied : (e f : Entry) → Among e (pair_with p (program h ms).peers).entries → Among f (pair_with p (program h ms).peers).entries → e.own ≡ own_of who s → e.foreign ≡ foreign_of who s → f.own ≡ own_of who s → f.foreign ≡ foreign_of who s → e ≡ f
  one_tied e f i j e_own e_foreign f_own f_foreign =
      one_of _ 0 _ _
      _ e f (tie.ends 0)
      (among_kept _ _ e i (at_it _ _ e e_own e_foreign))
      (among_kept _ _ f j (at_it _ _ f f_own f_foreign))

  pub found_tied : (e : Entry) → Among e (pair_with p (program h ms).peers).entries → e.own ≡ own_of who s → e.foreign ≡ foreign_of who s → entry_at (own_of who s) (foreign_of who s) (pair_with p (program h ms).peers).entries ≡ Some e
  found_tied e i own foreign = by (entry_at (own_of who s) (foreign_of who s) (pair_with p (program h ms).peers).entries) refl where
    by : (o : Option Entry) → entry_at (own_of who s) (foreign_of who s) (pair_with p (program h ms).peers).entries ≡ o → o ≡ Some e
    by None none = absurd (none_found (is_at (own_of who s) (foreign_of who s)) _ e none i (at_it _ _ e own foreign))
    by (Some f) found =
        let g : Among f (pair_with p (program h ms).peers).entries × (is_at (own_of who s) (foreign_of who s) f ≡ true) = found_among _ _ f found in
        let parts : ((f.own == own_of who s) ≡ true) × ((f.foreign == foreign_of who s) ≡ true) = both _ _ g.1 in
        ap (λ (x : Entry). Some x) (one_tied f e g.0 i (eqb-true f.own (own_of who s) parts.0) (eqb-true f.foreign (foreign_of who s) parts.1) own foreign)

-- ---- a host that doesn't stay

pub partner_none : (origin : ℕ → ℕ) (s : Standing) (t : ℕ) → s.partner ≡ Some t → is_past s ≡ false → (end_of origin s).partner ≡ None → ⊥
partner_none origin s t partner live none =
    let e : (end_of origin s).partner ≡ Some (origin t) = (rw (live, partner) refl) in
    let two : None ≡ Some (origin t) = sym none ∙ e in
    absurd (cc)

module _ (hosts : Network) (ms : List Moment) (l : Lawful hosts ms) (h p : Host) (ours : AreOurs hosts h p)
    (left : stay.stays h p (events_of ms) ≡ false) where
  unpartnered : (s : Sockets) (q : IsPair s) (who : Who) → Tie s q who h p (origin_in (crossings_of ms) h p) ms → (e : Entry) (t : ℕ) → Among e (pair_with p (program h ms).peers).entries
      → e.own ≡ own_of who s → e.foreign ≡ foreign_of who s → e.partner ≡ Some t → ⊥
  unpartnered s q who tie e t there own foreign partner =
      let is : ((Side_of s q who h p (origin_in (crossings_of ms) h p) ms).end ≡ end_of (origin_in (crossings_of ms) h p) (standing e)) × (is_past (standing e) ≡ false) =
      entry_end s q who h p (origin_in (crossings_of ms) h p) ms tie e there own foreign in
      let none : Unheard (Side_of s q who h p (origin_in (crossings_of ms) h p) ms).end = unheard h p (at_texts s who) (at_texts s (other who)) refl (law_events ms) (stays_same h p (events_of ms) ∙ left) in
      partner_none (origin_in (crossings_of ms) h p) (standing e) t partner is.1 (ap (λ (x : End). x.partner) (sym is.0) ∙ none.0)

  pub no_partner : (own foreign : ℕ) → ((is_receive_socket own ≡ true) × (is_send_socket foreign ≡ true)) ⊎ ((is_send_socket own ≡ true) × (is_receive_socket foreign ≡ true)) → (e : Entry) (t : ℕ)
      → Among e (pair_with p (program h ms).peers).entries → e.own ≡ own → e.foreign ≡ foreign → e.partner ≡ Some t → ⊥
  no_partner own foreign (inl q) e t there f g partner =
      let c : Coupled hosts ms = coupled_in hosts ms l in
      unpartnered (record { receive = own; send = foreign }) (q.0, q.1) Receiver
      (((all_tied hosts (origin_in (crossings_of ms)) ms (are_origins 0 (crossings_of ms) [] ms refl) c.story c.run (served_in hosts ms l.2)).tied h p ours).receiver (record { receive = own; send = foreign }) (q.0, q.1)) e t there f g partner
  no_partner own foreign (inr q) e t there f g partner =
      let c : Coupled hosts ms = coupled_in hosts ms l in
      unpartnered (record { receive = foreign; send = own }) (q.1, q.0) Sender
      (((all_tied hosts (origin_in (crossings_of ms)) ms (are_origins 0 (crossings_of ms) [] ms refl) c.story c.run (served_in hosts ms l.2)).tied p h (ours.1, ours.0)).sender (record { receive = foreign; send = own }) (q.1, q.0)) e t there f g partner

  -- so each life of it with the peer has ended
  pub over_when_left : (x : Life) → IsOf x (lives_in ms) → x.host ≡ h → x.peer ≡ p → x.ended ≡ true
  over_when_left x i f g = by x.ended refl where
    goes : x.ended ≡ false → ⊥
    goes e =
        let c : Coupled hosts ms = coupled_in hosts ms l in
        let there : Contains (lives_in ms) x = contains x (lives_in ms) i in
        let o : HasOpenEnd (program x.host ms) x = live hosts ms l.0 l.1 l.2 x (ours_of hosts x h p ours (f, g)).0 there e in
        let in_mine : Among o.end (mine_on x.socket (pair_with x.peer (program x.host ms).peers).entries) = subst (λ (es : List Entry). Among o.end es) (sym o.one) (inl refl) in
        let at_it : Among o.end (pair_with x.peer (program x.host ms).peers).entries × (is_mine_on x.socket o.end ≡ true) = among_filter (is_mine_on x.socket) (pair_with x.peer (program x.host ms).peers).entries o.end in_mine in
        let own : o.end.own ≡ x.socket = eqb-true o.end.own x.socket (both o.end.mine (o.end.own == x.socket) at_it.1).1 in
        no_partner x.socket x.foreign (life_paired hosts ms c.story c.run l.1 (served_in hosts ms l.2) x (ours_of hosts x h p ours (f, g)) there) o.end x.partner_stamp
        (subst (λ (v : Host). Among o.end (pair_with p (program v ms).peers).entries) f (subst (λ (v : Host). Among o.end (pair_with v (program x.host ms).peers).entries) g at_it.0)) own o.foreign o.partner

    by : (v : Bool) → x.ended ≡ v → x.ended ≡ true
    by true e = e
    by false e = absurd (goes e)
