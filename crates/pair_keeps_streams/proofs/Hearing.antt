-- How many CLS were heard of two sockets, where ends change, come and go.
use Rattle.pair_keeps_streams.proofs.Common.{◌≡◌, ℕ, suc, ◌==◌, ◌&&◌, not, Bool, if◌then◌else◌, List, [], ◌∷◌, ◌++◌, map, filter, Option, Some, None, is_some, refl, ap, sym, subst, ◌∙◌, eqb-true, Host, cls_taken_by, DeskState, changed_first, closed_by_partner, entry_at, is_at, Entry, both, gone_by, numbers, AreApart, apart_changed, numbers_mapped, shut_one, stays, counted, has_heard, heard_of, heard_from, with_closing}
use Rattle.std.proofs.Common.{true, false}
use Rattle.ncp_control.specs.declared.command.Command.TheVariants as command
use Rattle.host_pairs.specs.Entries.{is_over, is_sent}
use Rattle.pair_keeps_streams.proofs.Queues.{AreSeparate, Stays, kept_if, separate, sweep_found, at_changed}

-- ---- before and after

-- whether a CLS was heard of an end that was there, or is
abbrev pub is_heard : Option Entry → Option Entry → Bool
is_heard None after = has_heard after
is_heard (Some e) None = true
is_heard (Some e) (Some f) = f.partner_closed

value : (o p : Option Entry) (g : ℕ) → counted (has_heard p) (if is_some o && not (is_some p) then suc g else g) ≡ counted (is_heard o p) g
value None None g = refl
value None (Some f) g = refl
value (Some e) None g = refl
value (Some e) (Some f) g = refl

pub heard_after : (gone : ℕ → ℕ → ℕ) (es after : List Entry) (x y : ℕ) → heard_of (gone_by es after gone) after x y ≡ counted (is_heard (entry_at x y es) (entry_at x y after)) (gone x y)
heard_after gone es after x y = value (entry_at x y es) (entry_at x y after) (gone x y)

-- nothing was heard meanwhile
abbrev pub IsUnheard : List Entry → List Entry → Type 0
IsUnheard es after = (x y : ℕ) → is_heard (entry_at x y es) (entry_at x y after) ≡ has_heard (entry_at x y es)

pub unheard_counts : (gone : ℕ → ℕ → ℕ) (es after : List Entry) → IsUnheard es after → (x y : ℕ) → heard_of (gone_by es after gone) after x y ≡ heard_of gone es x y
unheard_counts gone es after k x y = heard_after gone es after x y ∙ ap (λ (v : Bool). counted v (gone x y)) (k x y)

-- ---- ends that change

-- both are there or none, and of both a CLS was heard or of none
abbrev pub IsAlike : Option Entry → Option Entry → Type 0
IsAlike o p = (is_some p ≡ is_some o) × (has_heard p ≡ has_heard o)

pub alike_unheard : (o p : Option Entry) → IsAlike o p → is_heard o p ≡ has_heard o
alike_unheard None p a = a.1
alike_unheard (Some e) None a = absurd (let l : false ≡ true = a.0 in cc)
alike_unheard (Some e) (Some f) a = a.1

pub same_unheard : (es : List Entry) → IsUnheard es es
same_unheard es x y = alike_unheard (entry_at x y es) (entry_at x y es) (refl, refl)

changed_step : (test : Entry → Bool) (change : Entry → Entry) → Stays change → ((e : Entry) → (change e).partner_closed ≡ e.partner_closed) → (x y : ℕ) (z : Entry) (zs : List Entry)
    → IsAlike (entry_at x y zs) (entry_at x y (changed_first test change zs)) → (b c : Bool) → test z ≡ b → is_at x y z ≡ c → IsAlike (entry_at x y (z ∷ zs)) (entry_at x y (changed_first test change (z ∷ zs)))
changed_step test change s shut x y z zs rest true true t a = let after : is_at x y (change z) ≡ true = at_changed change s x y z ∙ a in rw (t, a, after) (refl, shut z)
changed_step test change s shut x y z zs rest true false t a = let after : is_at x y (change z) ≡ false = at_changed change s x y z ∙ a in rw (t, a, after) (refl, refl)
changed_step test change s shut x y z zs rest false true t a = rw (t, a) (refl, refl)
changed_step test change s shut x y z zs rest false false t a = rw (t, a) rest

pub changed_alike : (test : Entry → Bool) (change : Entry → Entry) → Stays change → ((e : Entry) → (change e).partner_closed ≡ e.partner_closed) → (es : List Entry) (x y : ℕ) → IsAlike (entry_at x y es) (entry_at x y (changed_first test change es))
changed_alike test change s shut [] x y = (refl, refl)
changed_alike test change s shut (z ∷ zs) x y = changed_step test change s shut x y z zs (changed_alike test change s shut zs x y) _ _ refl refl

pub changed_unheard : (test : Entry → Bool) (change : Entry → Entry) → Stays change → ((e : Entry) → (change e).partner_closed ≡ e.partner_closed) → (es : List Entry) → IsUnheard es (changed_first test change es)
changed_unheard test change s shut es x y = alike_unheard _ _ (changed_alike test change s shut es x y)

settled_step : (busy : List ℕ) (x y : ℕ) (z : Entry) (zs : List Entry) → IsAlike (entry_at x y zs) (entry_at x y (map (shut_one busy) zs)) → (b : Bool) → is_at x y z ≡ b → IsAlike (entry_at x y (z ∷ zs)) (entry_at x y (map (shut_one busy) (z ∷ zs)))
settled_step busy x y z zs rest true a = rw a (refl, refl)
settled_step busy x y z zs rest false a = rw a rest

-- those that are due close
pub settled_alike : (busy : List ℕ) (es : List Entry) (x y : ℕ) → IsAlike (entry_at x y es) (entry_at x y (map (shut_one busy) es))
settled_alike busy [] x y = (refl, refl)
settled_alike busy (z ∷ zs) x y = settled_step busy x y z zs (settled_alike busy zs x y) _ refl

pub alike_both : (o p q : Option Entry) → IsAlike o p → IsAlike p q → IsAlike o q
alike_both o p q a b = (b.0 ∙ a.0, b.1 ∙ a.1)

-- ---- a new end

append_step : (e z : Entry) (x y : ℕ) (zs : List Entry) → is_heard (entry_at x y zs) (entry_at x y (zs ++ e ∷ [])) ≡ has_heard (entry_at x y zs)
    → (b : Bool) → is_at x y z ≡ b → is_heard (entry_at x y (z ∷ zs)) (entry_at x y (z ∷ zs ++ e ∷ [])) ≡ has_heard (entry_at x y (z ∷ zs))
append_step e z x y zs rest true a = rw a refl
append_step e z x y zs rest false a = rw a rest

alone_unheard : (e : Entry) (x y : ℕ) → e.partner_closed ≡ false → (b : Bool) → is_at x y e ≡ b → has_heard (entry_at x y (e ∷ [])) ≡ false
alone_unheard e x y unshut true a = rw a unshut
alone_unheard e x y unshut false a = rw a refl

pub append_unheard : (es : List Entry) (e : Entry) → e.partner_closed ≡ false → IsUnheard es (es ++ e ∷ [])
append_unheard [] e unshut x y = alone_unheard e x y unshut _ refl
append_unheard (z ∷ zs) e unshut x y = append_step e z x y zs (append_unheard zs e unshut x y) (is_at x y z) refl

-- ---- ends that go

over_heard : (e : Entry) → stays e ≡ false → e.partner_closed ≡ true
over_heard e s = by (is_over e) refl where
  by : (v : Bool) → is_over e ≡ v → e.partner_closed ≡ true
  by true t = (both (is_sent e.closing) e.partner_closed t).1
  by false t = absurd (let r : true ≡ false = rw t at s in cc)

sweep_heard : (o : Option Entry) (e : Entry) → is_some o ≡ true → (b : Bool) → stays e ≡ b → is_heard o (if b then Some e else None) ≡ e.partner_closed
sweep_heard None e there b s = absurd (let l : false ≡ true = there in cc)
sweep_heard (Some f) e there true s = refl
sweep_heard (Some f) e there false s = sym (over_heard e s)

sweep_option : (o p : Option Entry) → is_some p ≡ is_some o → is_heard o (kept_if p) ≡ has_heard p
sweep_option None None same = refl
sweep_option (Some e) None same = absurd (let l : false ≡ true = same in cc)
sweep_option o (Some e) same = sweep_heard o e (sym same) _ refl

-- those of which both CLS have passed go: one was heard of them
pub swept_heard : (es after : List Entry) → AreSeparate after → (x y : ℕ) → is_some (entry_at x y after) ≡ is_some (entry_at x y es) → is_heard (entry_at x y es) (entry_at x y (filter stays after)) ≡ has_heard (entry_at x y after)
swept_heard es after a x y same = ap (λ (o : Option Entry). is_heard (entry_at x y es) o) (sweep_found after a x y) ∙ sweep_option _ _ same

-- ---- a CLS is heard

shut_step : (own foreign : ℕ) (z : Entry) (zs : List Entry) (x y : ℕ) → is_some (entry_at x y (changed_first (is_at own foreign) closed_by_partner zs)) ≡ is_some (entry_at x y zs)
    → (b c : Bool) → is_at own foreign z ≡ b → is_at x y z ≡ c → is_some (entry_at x y (changed_first (is_at own foreign) closed_by_partner (z ∷ zs))) ≡ is_some (entry_at x y (z ∷ zs))
shut_step own foreign z zs x y rest true true t a = rw (t, a) refl
shut_step own foreign z zs x y rest true false t a = rw (t, a) refl
shut_step own foreign z zs x y rest false true t a = rw (t, a) refl
shut_step own foreign z zs x y rest false false t a = rw (t, a) rest

shut_there : (own foreign : ℕ) (es : List Entry) (x y : ℕ) → is_some (entry_at x y (changed_first (is_at own foreign) closed_by_partner es)) ≡ is_some (entry_at x y es)
shut_there own foreign [] x y = refl
shut_there own foreign (z ∷ zs) x y = shut_step own foreign z zs x y (shut_there own foreign zs x y) _ (is_at x y z) refl refl

here_step : (own foreign : ℕ) (z : Entry) (zs : List Entry) → (is_some (entry_at own foreign zs) ≡ true → has_heard (entry_at own foreign (changed_first (is_at own foreign) closed_by_partner zs)) ≡ true)
    → (b : Bool) → is_at own foreign z ≡ b → is_some (entry_at own foreign (z ∷ zs)) ≡ true → has_heard (entry_at own foreign (changed_first (is_at own foreign) closed_by_partner (z ∷ zs))) ≡ true
here_step own foreign z zs rest true t there = rw (t, t) refl
here_step own foreign z zs rest false t there = let more : is_some (entry_at own foreign zs) ≡ true = (rw t at there) in rw (t, t) (rest more)

shut_here : (own foreign : ℕ) (es : List Entry) → is_some (entry_at own foreign es) ≡ true → has_heard (entry_at own foreign (changed_first (is_at own foreign) closed_by_partner es)) ≡ true
shut_here own foreign [] there = absurd (cc)
shut_here own foreign (z ∷ zs) there = here_step own foreign z zs (shut_here own foreign zs) _ refl there

not_both : (own foreign x y : ℕ) (z : Entry) → (y == foreign && x == own) ≡ false → is_at own foreign z ≡ true → is_at x y z ≡ true → ⊥
not_both own foreign x y z other t a =
    let p : ((z.own == own) ≡ true) × ((z.foreign == foreign) ≡ true) = both (z.own == own) (z.foreign == foreign) t in
    let q : ((z.own == x) ≡ true) × ((z.foreign == y) ≡ true) = both (z.own == x) (z.foreign == y) a in
    let e : z.own ≡ x = eqb-true z.own x q.0 in
    let f : z.foreign ≡ y = eqb-true z.foreign y q.1 in
    let g : (x == own) ≡ true = subst (λ (n : ℕ). (n == own) ≡ true) e p.0 in
    let h : (y == foreign) ≡ true = subst (λ (n : ℕ). (n == foreign) ≡ true) f p.1 in
    let l : true ≡ false = (rw (h, g) at other) in
    absurd (cc)

other_step : (own foreign x y : ℕ) (z : Entry) (zs : List Entry) → (y == foreign && x == own) ≡ false → has_heard (entry_at x y (changed_first (is_at own foreign) closed_by_partner zs)) ≡ has_heard (entry_at x y zs)
    → (b c : Bool) → is_at own foreign z ≡ b → is_at x y z ≡ c → has_heard (entry_at x y (changed_first (is_at own foreign) closed_by_partner (z ∷ zs))) ≡ has_heard (entry_at x y (z ∷ zs))
other_step own foreign x y z zs other rest true true t a = absurd (not_both own foreign x y z other t a)
other_step own foreign x y z zs other rest true false t a = rw (t, a) refl
other_step own foreign x y z zs other rest false true t a = rw (t, a) refl
other_step own foreign x y z zs other rest false false t a = rw (t, a) rest

shut_elsewhere : (own foreign x y : ℕ) (es : List Entry) → (y == foreign && x == own) ≡ false → has_heard (entry_at x y (changed_first (is_at own foreign) closed_by_partner es)) ≡ has_heard (entry_at x y es)
shut_elsewhere own foreign x y [] other = refl
shut_elsewhere own foreign x y (z ∷ zs) other = other_step own foreign x y z zs other (shut_elsewhere own foreign x y zs other) _ _ refl refl

module _ (peer : Host) (busy : List ℕ) (own foreign : ℕ) (name gone : ℕ → ℕ → ℕ) (d : DeskState) (apart : AreApart (numbers name d.entries)) (e : Entry) (found : entry_at own foreign d.entries ≡ Some e) (first : e.partner_closed ≡ false) where
  abbrev shut_entries : List Entry
  shut_entries = map (shut_one busy) (changed_first (is_at own foreign) closed_by_partner d.entries)

  shut_separate : AreSeparate shut_entries
  shut_separate = separate name shut_entries
      (subst AreApart (sym (numbers_mapped name _ _ (λ x. refl))) (apart_changed name _ closed_by_partner _ (λ x. refl) apart))

  shut_heard : (x y : ℕ) → is_heard (entry_at x y d.entries) (entry_at x y (filter stays shut_entries)) ≡ has_heard (entry_at x y (changed_first (is_at own foreign) closed_by_partner d.entries))
  shut_heard x y =
      let a : IsAlike (entry_at x y (changed_first (is_at own foreign) closed_by_partner d.entries)) (entry_at x y shut_entries) = settled_alike busy _ x y in
      swept_heard _ shut_entries shut_separate x y (a.0 ∙ shut_there own foreign _ x y) ∙ a.1

  heard_here : heard_of (gone_by d.entries (filter stays shut_entries) gone) (filter stays shut_entries) own foreign ≡ suc (heard_of gone d.entries own foreign)
  heard_here =
      let now : has_heard (entry_at own foreign (changed_first (is_at own foreign) closed_by_partner d.entries)) ≡ true = shut_here own foreign _ (ap is_some found) in
      let before : has_heard (entry_at own foreign d.entries) ≡ false = ap has_heard found ∙ first in
      heard_after gone _ _ own foreign ∙ ap (λ (v : Bool). counted v (gone own foreign)) (shut_heard own foreign ∙ now) ∙ ap (λ (v : Bool). suc (counted v (gone own foreign))) (sym before)

  heard_elsewhere : (x y : ℕ) → (y == foreign && x == own) ≡ false → heard_of (gone_by d.entries (filter stays shut_entries) gone) (filter stays shut_entries) x y ≡ heard_of gone d.entries x y
  heard_elsewhere x y other =
      heard_after gone _ _ x y ∙ ap (λ (v : Bool). counted v (gone x y)) (shut_heard x y ∙ shut_elsewhere own foreign x y _ other)

  heard_at : (x y : ℕ) (v : Bool) → (y == foreign && x == own) ≡ v → heard_of (gone_by d.entries (filter stays shut_entries) gone) (filter stays shut_entries) x y ≡ (if v then suc (heard_of gone d.entries x y) else heard_of gone d.entries x y)
  heard_at x y true t =
      let p : ((y == foreign) ≡ true) × ((x == own) ≡ true) = both (y == foreign) (x == own) t in
      let e : own ≡ x = sym (eqb-true x own p.1) in
      let f : foreign ≡ y = sym (eqb-true y foreign p.0) in
      subst (λ (n : ℕ). heard_of (gone_by d.entries (filter stays shut_entries) gone) (filter stays shut_entries) x n ≡ suc (heard_of gone d.entries x n)) f
      (subst (λ (n : ℕ). heard_of (gone_by d.entries (filter stays shut_entries) gone) (filter stays shut_entries) n foreign ≡ suc (heard_of gone d.entries n foreign)) e heard_here)
  heard_at x y false t = heard_elsewhere x y t

  pub cls_heard : (x y : ℕ) → heard_from (gone_by d.entries (cls_taken_by peer busy own foreign (Some e) d).entries gone) (cls_taken_by peer busy own foreign (Some e) d).entries y x ≡ with_closing (command.Cls foreign own) (heard_from gone d.entries) y x
  cls_heard x y = rw first (heard_at x y _ refl)
