-- What goes out of a pair, at one socket of the host.
use Rattle.world_keeps_lives.proofs.Common.{◌≡◌, ◌⊎◌, inl, inr, ℕ, ◌==◌, ◌&&◌, Bool, true, false, if◌then◌else◌, List, [], ◌∷◌, ◌++◌, find, take, drop, Option, Some, None, is_some, refl, ap, sym, subst, ◌∙◌, eq-eqb, eqb-true, append_assoc, take-append-drop, Host, IsCommand, is_receive_socket, is_send_socket, Command, End, Mark, Ask, Close, DeskState, desk_told, listens_on, Entry, both, AreCommands, Life, Kept, all_told, carried, IsLifeOf, IsSafe, has_opened, mine_on}
use Rattle.host_pairs.specs.Commands.{changed}
use Rattle.host_pairs.specs.Entries.{entry_at, has_cls, is_at, is_open, is_receiving}
use Rattle.host_pairs.specs.Parcels.{asked_at, bits_gone, cls_sent, command_gone, commands_gone, may_send_on, request_gone}
use Rattle.host_keeps_pairing.specs.Ends.{Stand, at, Standing, standing}
use Rattle.host_keeps_pairing.specs.Words.{marks, mark_of}
use Rattle.ncp_control.specs.declared.command.Command.TheVariants as command
use Rattle.host_pairs.specs.declared.notice.Notice.TheVariants as notice
use Rattle.host_keeps_pairing.proofs.lemmas.{Found, found_at, heads, none_at, one_gone}
use Rattle.promise.specs.Safe.{receives, sends}
use Rattle.world_keeps_lives.proofs.Ends.{none_changed, refusing_changed, refusing_found, split}
use Rattle.world_keeps_lives.proofs.Desks.{At, Place, at_less, clash, open_mine, open_opened, open_parts, own_off}
use Rattle.world_keeps_lives.proofs.Steps.{good_changed, good_opening, good_quiet, good_swept, sent_drains, sent_less}
use Rattle.world_keeps_lives.proofs.Takes.{G, at_here, life_receives}

-- two sockets of a connection, the own one and the foreign one
abbrev pub IsOfTwo : ℕ → ℕ → Type 0
IsOfTwo own foreign = ((is_receive_socket own ≡ true) × (is_send_socket foreign ≡ true)) ⊎ ((is_send_socket own ≡ true) × (is_receive_socket foreign ≡ true))

-- what waits to be said of any two sockets is what their end still has to say
abbrev pub Waits : (ℕ → ℕ) → List Entry → List Command → List Command → Type 0
Waits origin entries commands behind = (own foreign : ℕ) → IsOfTwo own foreign → (x : End) × Stand true origin 0 (at own foreign entries) (marks 0 own foreign commands ++ marks 0 own foreign behind) x

-- an end whose request waits hasn't asked
pub unasked_by : (origin : ℕ → ℕ) (s : Standing) (rest : List Standing) (words : List Mark) (x : End)
    → Stand true origin 0 (s ∷ rest) (Ask 0 ∷ words) x → s.asked ≡ None
unasked_by origin s [] words x h = elim (heads 0 s.mine s.asked s.closing (Ask 0) words h.1) [
  | inl r ↦ r.unasked
  | inr r ↦ absurd (let q : Ask 0 ≡ Close = r.mark in cc)
]
unasked_by origin s (t ∷ rest) words x h = absurd h

unasked : (origin : ℕ → ℕ) (own foreign : ℕ) (entries : List Entry) (words : List Mark) (x : End) (e : Entry)
    → Stand true origin 0 (at own foreign entries) (Ask 0 ∷ words) x → entry_at own foreign entries ≡ Some e
    → e.asked ≡ None
unasked origin own foreign entries words x e h f =
    let g : Found own foreign entries e = found_at own foreign entries e f in
    unasked_by origin _ g.rest words x (subst (λ (ss : List Standing). Stand true origin 0 ss (Ask 0 ∷ words) x) g.first h)

-- the CLS of one whose CLS waits is queued
queued_by : (origin : ℕ → ℕ) (s : Standing) (rest : List Standing) (words : List Mark) (x : End)
    → Stand true origin 0 (s ∷ rest) (Close ∷ words) x → has_cls s.closing ≡ true
queued_by origin s [] words x h = elim (heads 0 s.mine s.asked s.closing Close words h.1) [
  | inl r ↦ absurd (let q : Close ≡ Ask 0 = r.mark in cc)
  | inr r ↦ ap has_cls r.queued
]
queued_by origin s (t ∷ rest) words x h = absurd h

has_queued : (origin : ℕ → ℕ) (own foreign : ℕ) (entries : List Entry) (words : List Mark) (x : End) (e : Entry)
    → Stand true origin 0 (at own foreign entries) (Close ∷ words) x → entry_at own foreign entries ≡ Some e
    → has_cls e.closing ≡ true
has_queued origin own foreign entries words x e h f =
    let g : Found own foreign entries e = found_at own foreign entries e f in
    queued_by origin _ g.rest words x (subst (λ (ss : List Standing). Stand true origin 0 ss (Close ∷ words) x) g.first h)

-- bits of a life go out
sent_safe : (p : Host) (e : Entry) (x : Life) (t : List Bool) (n : ℕ) → is_open e ≡ true → receives x ≡ false
    → IsLifeOf p e x t → IsSafe (carried (take n e.bits) x) t
sent_safe p e x t n o off i = record {
  front = λ s. (drop n e.bits, append_assoc x.bits (take n e.bits) (drop n e.bits) ∙ ap (λ (l : List Bool). x.bits ++ l) (take-append-drop n e.bits) ∙ sym (i.waits o s));
  within = λ r. clash _ (receives x) r off;
  bounded = λ r. clash _ (receives x) r off;
}

sent_life : (p : Host) (e : Entry) (x : Life) (t : List Bool) (n : ℕ) → is_open e ≡ true → receives x ≡ false
    → IsLifeOf p e x t → IsLifeOf p (bits_gone n e) (carried (take n e.bits) x) t
sent_life p e x t n o off i = record {
  peers = i.peers;
  foreign = i.foreign;
  own = i.own;
  partner = i.partner;
  drained = λ q r s c f. clash _ (has_cls e.closing) c (open_parts e o).unclosed;
  waits = λ q s. i.waits o s ∙ sym (append_assoc x.bits (take n e.bits) (drop n e.bits) ∙ ap (λ (l : List Bool). x.bits ++ l) (take-append-drop n e.bits));
  left = λ r. clash _ (receives x) r off;
}

module _ (a : Host) (k : ℕ) (m : Place) (p : Host) (k0 : Kept) where
  parted : (origin : ℕ → ℕ) (c : Command) (cs behind : List Command) (d : DeskState) (own foreign : ℕ)
      → (x : End) × Stand true origin 0 (at own foreign d.entries) (marks 0 own foreign (c ∷ cs) ++ marks 0 own foreign behind) x
      → (x : End) × Stand true origin 0 (at own foreign d.entries) (mark_of 0 own foreign c ++ (marks 0 own foreign cs ++ marks 0 own foreign behind)) x
  parted origin c cs behind d own foreign s =
      (s.0, subst (λ (l : List Mark). Stand true origin 0 (at own foreign d.entries) l s.0) (append_assoc (mark_of 0 own foreign c) (marks 0 own foreign cs) (marks 0 own foreign behind)) s.1)

  -- a request
  good_request : (origin : ℕ → ℕ) (stamp own foreign : ℕ) (d : DeskState) (words : List Mark) (x : End)
      → Stand true origin 0 (at own foreign d.entries) (Ask 0 ∷ words) x → G a k m p k0 d
      → G a k m p k0 (request_gone p stamp own foreign d)
  good_request origin stamp own foreign d words x s h = by (entry_at own foreign d.entries) refl where
    by : (o : Option Entry) → entry_at own foreign d.entries ≡ o → G a k m p k0 (request_gone p stamp own foreign d)
    by None f = absurd (let r : Ask 0 ∷ words ≡ [] = (subst (λ (ss : List Standing). Stand true origin 0 ss (Ask 0 ∷ words) x) (none_at own foreign d.entries f) s).0 in cc)
    by (Some e) f =
        let lacks : has_opened e ≡ false = ap (λ (o : Option ℕ). is_some o && is_some e.partner) (unasked origin own foreign d.entries words x e s f) in
        good_opening a k m p k0 own foreign (asked_at stamp) d e f lacks refl refl refl refl (λ e r. r) h

  asks : (origin : ℕ → ℕ) (stamp own foreign : ℕ) (d : DeskState) (words : List Mark)
      → (x : End) × Stand true origin 0 (at own foreign d.entries) ((if own == own && foreign == foreign then Ask 0 ∷ [] else []) ++ words) x
      → G a k m p k0 d → G a k m p k0 (request_gone p stamp own foreign d)
  asks origin stamp own foreign d words s h =
      let same : (own == own && foreign == foreign) ≡ true = rw (eq-eqb own own refl, eq-eqb foreign foreign refl) refl in
      good_request origin stamp own foreign d words s.0 (subst (λ (b : Bool). Stand true origin 0 (at own foreign d.entries) ((if b then Ask 0 ∷ [] else []) ++ words) s.0) same s.1) h

  -- a CLS
  good_closed : (origin : ℕ → ℕ) (own foreign : ℕ) (cs behind : List Command) (d : DeskState)
      → Waits origin d.entries (command.Cls own foreign ∷ cs) behind → G a k m p k0 d
      → G a k m p k0 (changed (is_at own foreign) cls_sent d)
  good_closed origin own foreign cs behind d w h = by (entry_at own foreign d.entries) refl where
    same : (own == own && foreign == foreign) ≡ true
    same = rw (eq-eqb own own refl, eq-eqb foreign foreign refl) refl

    queued : (e : Entry) → entry_at own foreign d.entries ≡ Some e → is_send_socket e.own ≡ true
        → is_receive_socket e.foreign ≡ true → has_cls e.closing ≡ true
    queued e f kind other =
        let at_it : ((e.own == own) ≡ true) × ((e.foreign == foreign) ≡ true) = both (e.own == own) (e.foreign == foreign) (split (is_at own foreign) (λ y. y) d.entries e f).passes in
        let sends : is_send_socket own ≡ true = ap is_send_socket (sym (eqb-true e.own own at_it.0)) ∙ kind in
        let receives : is_receive_socket foreign ≡ true = ap is_receive_socket (sym (eqb-true e.foreign foreign at_it.1)) ∙ other in
        let s : (x : End) × Stand true origin 0 (at own foreign d.entries) ((if own == own && foreign == foreign then Close ∷ [] else []) ++ (marks 0 own foreign cs ++ marks 0 own foreign behind)) x =
        parted origin (command.Cls own foreign) cs behind d own foreign (w own foreign (inr (sends, receives))) in
        has_queued origin own foreign d.entries (marks 0 own foreign cs ++ marks 0 own foreign behind) s.0 e
        (subst (λ (b : Bool). Stand true origin 0 (at own foreign d.entries) ((if b then Close ∷ [] else []) ++ (marks 0 own foreign cs ++ marks 0 own foreign behind)) s.0) same s.1) f

    by : (o : Option Entry) → entry_at own foreign d.entries ≡ o → G a k m p k0 (changed (is_at own foreign) cls_sent d)
    by None f = record {
      refusing = refusing_changed (is_at own foreign) cls_sent d.entries (λ e r g. refl) h.refusing;
      on = subst (λ (ys : List Entry). At a k m p (mine_on k ys) (listens_on k d.listening) (all_told a d.notices k0)) (sym (none_changed (is_at own foreign) cls_sent d.entries f)) h.on;
    }
    by (Some e) f =
        good_quiet a k m p k0 (is_at own foreign) cls_sent d e f refl (λ e r g. refl) (λ is l κ i. at_less a k m p e (cls_sent e) l κ (sent_less e) (sent_drains e (queued e f)) i) h

  one_goes : (origin : ℕ → ℕ) (stamp : ℕ) (c : Command) (cs behind : List Command) (d : DeskState) → IsCommand c
      → Waits origin d.entries (c ∷ cs) behind → G a k m p k0 d → G a k m p k0 (command_gone p stamp c d)
  one_goes origin stamp (command.Rts receive send link) cs behind d is w h =
      asks origin stamp receive send d (marks 0 receive send cs ++ marks 0 receive send behind) (parted origin (command.Rts receive send link) cs behind d receive send (w receive send (inl (is.1, is.3)))) h
  one_goes origin stamp (command.Str send receive size) cs behind d is w h =
      asks origin stamp send receive d (marks 0 send receive cs ++ marks 0 send receive behind) (parted origin (command.Str send receive size) cs behind d send receive (w send receive (inr (is.1, is.3)))) h
  one_goes origin stamp (command.Cls own foreign) cs behind d is w h = good_swept a k m p k0 _ (good_closed origin own foreign cs behind d w h)
  one_goes origin stamp c cs behind d is w h = h

  pub all_go : (origin : ℕ → ℕ) (stamp : ℕ) (cs behind : List Command) (d : DeskState) → AreCommands cs
      → Waits origin d.entries cs behind → G a k m p k0 d → G a k m p k0 (commands_gone p stamp cs d)
  all_go origin stamp [] behind d is w h = h
  all_go origin stamp (c ∷ cs) behind d is w h =
      all_go origin stamp cs behind (command_gone p stamp c d) is.1
      (λ own foreign two. let s : (x : End) × Stand true origin 0 (at own foreign d.entries) (mark_of 0 own foreign c ++ (marks 0 own foreign cs ++ marks 0 own foreign behind)) x = parted origin c cs behind d own foreign (w own foreign two) in
      (_, one_gone origin own foreign 0 p stamp c d _ s.0 s.1))
      (one_goes origin stamp c cs behind d is.0 w h)

  -- bytes
  pub good_bytes : (busy : List ℕ) (link n : ℕ) (e : Entry) (d : DeskState)
      → find (may_send_on busy link) d.entries ≡ Some e → is_open e ≡ true → is_receiving e ≡ false → G a k m p k0 d
      → G a k m p k0 (desk_told (notice.Sent e.own (take n e.bits) ∷ []) (changed (may_send_on busy link) (bits_gone n) d))
  good_bytes busy link n e d f o sends h =
      good_changed a k m p k0 (may_send_on busy link) (bits_gone n) (notice.Sent e.own (take n e.bits) ∷ []) d e f refl (λ e r. r)
      (λ is l κ i. at_here a k m p (carried (take n e.bits)) e (bits_gone n e) l κ (all_told a (notice.Sent e.own (take n e.bits) ∷ []) κ) is (open_opened e o) (λ x. refl)
      (λ x t there s j. let off : receives x ≡ false = life_receives a k e x is there ∙ sends in (sent_safe p e x t n o off j, sent_life p e x t n o off j)) refl refl i)
      (λ off. (own_off k e (open_mine e (refusing_found _ d.entries e h.refusing f) o) off, tt)) h
