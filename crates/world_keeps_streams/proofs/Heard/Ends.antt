-- The request of the peer that an end has is one that was heard, and it is that of the connection to which the end belongs.
use Rattle.world_keeps_streams.proofs.Common.{◌≡◌, ℕ, suc, ◌+◌, ◌==◌, ◌&&◌, not, Bool, true, false, if◌then◌else◌, List, [], ◌∷◌, ◌++◌, Option, Some, None, is_some, refl, ap, sym, subst, ◌∙◌, inl, inr, eq-eqb, arith, Host, Command, eqb-sym, mark_of, entry_at, PairState, Entry, counted, has_heard, heard_from}
use Rattle.host_keeps_streams.specs.Histories.{AreAllowed, Hears, IsHistory, IsTelling, ends_by, ends_now, gone_by, gone_now, receiver_now, sender_now, Call}
use Rattle.host_keeps_streams.proofs.lemmas.{holds_now, Holds}
use Rattle.pair_keeps_streams.proofs.lemmas.{IsFirst}
use Rattle.pairing_law.specs.Marks.{Ask, Asks, Close, Mark, closes}
use Rattle.ncp_control.specs.declared.command.Command.TheVariants as command
use Rattle.host_keeps_streams.specs.Histories as calls
use Rattle.world_keeps_streams.proofs.Heard.Calls.{closes_by, closes_in, history_heard}
use Rattle.world_keeps_streams.proofs.Heard.Lists.{heard_list, mark_heard}
use Rattle.world_keeps_streams.proofs.Heard.Partners.{Brings, BringsBy, partner_at, partner_step}
use Rattle.world_keeps_streams.proofs.Calls.May.{AllMay, MayCall}

-- ---- marks

asks_if : (k p place : ℕ) (word : List Mark) (b : Bool) → Asks k p word → Asks k p ((if b then Ask place ∷ [] else []) ++ word)
asks_if k p place word true a = inr a
asks_if k p place word false a = a

asks_closed : (k p : ℕ) (word : List Mark) (b : Bool) → Asks k p word → Asks k p ((if b then Close ∷ [] else []) ++ word)
asks_closed k p word true a = a
asks_closed k p word false a = a

-- a request that was heard stays heard
asks_of : (k p place foreign own : ℕ) (c : Command) (word : List Mark) → Asks k p word → Asks k p (mark_of place foreign own c ++ word)
asks_of k p place foreign own (command.Rts a b l) word t = asks_if k p place word (a == foreign && b == own) t
asks_of k p place foreign own (command.Str a b l) word t = asks_if k p place word (a == foreign && b == own) t
asks_of k p place foreign own (command.Cls a b) word t = asks_closed k p word (a == foreign && b == own) t
asks_of k p place foreign own c word t = t

asks_by : (origin : ℕ → ℕ) (n p foreign own : ℕ) (k : Call) (word : List Mark) → Asks n p word → Asks n p (mark_heard origin foreign own k ++ word)
asks_by origin n p foreign own (Hears stamp said c) word t = asks_of n p (origin stamp) foreign own c word t
asks_by origin n p foreign own k word t = t

closes_asked : (place : ℕ) (word : List Mark) (b : Bool) → closes ((if b then Ask place ∷ [] else []) ++ word) ≡ closes word
closes_asked place word true = refl
closes_asked place word false = refl

more : (n : ℕ) → n + 1 ≡ suc n
more n = omega (arith)

closes_closed : (word : List Mark) (b : Bool) → closes ((if b then Close ∷ [] else []) ++ word) ≡ (if b then suc (closes word) else closes word)
closes_closed word true = more (closes word)
closes_closed word false = refl

closes_of : (stamp said place foreign own : ℕ) (c : Command) (word : List Mark) → closes (mark_of place foreign own c ++ word) ≡ closes_by (Hears stamp said c) foreign own (closes word)
closes_of stamp said place foreign own (command.Rts a b l) word = closes_asked place word (a == foreign && b == own)
closes_of stamp said place foreign own (command.Str a b l) word = closes_asked place word (a == foreign && b == own)
closes_of stamp said place foreign own (command.Cls a b) word = closes_closed word (a == foreign && b == own) ∙ turned (eqb-sym a foreign) (eqb-sym b own) where
  turned : (a == foreign) ≡ (foreign == a) → (b == own) ≡ (own == b) → (if a == foreign && b == own then suc (closes word) else closes word) ≡ (if foreign == a && own == b then suc (closes word) else closes word)
  turned e f = ap (λ (t : Bool). if t && b == own then suc (closes word) else closes word) e ∙ ap (λ (t : Bool). if foreign == a && t then suc (closes word) else closes word) f
closes_of stamp said place foreign own c word = refl

closes_call : (origin : ℕ → ℕ) (foreign own : ℕ) (k : Call) (word : List Mark) → closes (mark_heard origin foreign own k ++ word) ≡ closes_by k foreign own (closes word)
closes_call origin foreign own (Hears stamp said c) word = closes_of stamp said (origin stamp) foreign own c word
closes_call origin foreign own k word = refl

-- as many CLS are in the list as are counted
closes_heard : (origin : ℕ → ℕ) (foreign own : ℕ) (ms : List calls.Moment) → closes (heard_list origin foreign own ms) ≡ closes_in foreign own ms
closes_heard origin foreign own [] = refl
closes_heard origin foreign own (m ∷ ms) = closes_call origin foreign own m.call (heard_list origin foreign own ms) ∙ ap (λ (n : ℕ). closes_by m.call foreign own n) (closes_heard origin foreign own ms)

-- ---- ends

has_end : (o : Option Entry) (v : ℕ) → partner_at o ≡ Some v → (e : Entry) × (o ≡ Some e) × (e.partner ≡ Some v)
has_end None v t = absurd (cc)
has_end (Some e) v t = (e, refl, t)

gone_same : (es after : List Entry) (gone : ℕ → ℕ → ℕ) (own foreign : ℕ) → is_some (entry_at own foreign after) ≡ true → gone_by es after gone own foreign ≡ gone own foreign
gone_same es after gone own foreign t = rw t (by (is_some (entry_at own foreign es))) where
  by : (b : Bool) → (if b && not true then suc (gone own foreign) else gone own foreign) ≡ gone own foreign
  by true = refl
  by false = refl

not_heard : (o : Option Entry) → ((e : Entry) → o ≡ Some e → (e.partner ≡ None) × (e.partner_closed ≡ false)) → has_heard o ≡ false
not_heard None f = refl
not_heard (Some e) f = (f e refl).1

module _ (origin : ℕ → ℕ) (es : List Entry) (gone : ℕ → ℕ → ℕ) (own foreign v : ℕ) (word : List Mark) (count : closes word ≡ heard_from gone es foreign own) where
  -- a request is the first that is heard of its connection
  first_of : (a b : ℕ) → own ≡ a → foreign ≡ b → ((e : Entry) → entry_at a b es ≡ Some e → (e.partner ≡ None) × (e.partner_closed ≡ false)) → gone own foreign ≡ closes word
  first_of a b x y f =
      let same : entry_at a b es ≡ entry_at own foreign es = ap (λ (n : ℕ). entry_at n b es) (sym x) ∙ ap (λ (n : ℕ). entry_at own n es) (sym y) in
      let none : has_heard (entry_at own foreign es) ≡ false = not_heard (entry_at own foreign es) (λ e t. f e (same ∙ t)) in
      sym (count ∙ ap (λ (t : Bool). counted t (gone own foreign)) none)

  brought_of : (stamp : ℕ) (c : Command) → IsFirst c es → Brings stamp c own foreign v → Asks (gone own foreign) (origin v) (mark_of (origin stamp) foreign own c ++ word)
  brought_of stamp (command.Rts receive send l) f b =
      let t : (receive == foreign) ≡ true = eq-eqb receive foreign (sym b.1) in
      let u : (send == own) ≡ true = eq-eqb send own (sym b.0) in
      rw (t, u) (inl (ap origin b.2, first_of send receive b.0 b.1 f))
  brought_of stamp (command.Str send receive size) f b =
      let t : (send == foreign) ≡ true = eq-eqb send foreign (sym b.1) in
      let u : (receive == own) ≡ true = eq-eqb receive own (sym b.0) in
      rw (t, u) (inl (ap origin b.2, first_of receive send b.0 b.1 f))
  brought_of stamp c f b = absurd b

brought : (origin : ℕ → ℕ) (gone : ℕ → ℕ → ℕ) (own foreign v : ℕ) (word : List Mark) (k : Call) (q : PairState) → closes word ≡ heard_from gone q.entries foreign own → MayCall k q → BringsBy k own foreign v → Asks (gone own foreign) (origin v) (mark_heard origin foreign own k ++ word)
brought origin gone own foreign v word (Hears stamp said c) q count m b = brought_of origin q.entries gone own foreign v word count stamp c m.2 b
brought origin gone own foreign v word k q count m b = absurd b

module _ (origin : ℕ → ℕ) (number : ℕ → ℕ → ℕ → ℕ) (tells : IsTelling number) (peer : Host) (link : ℕ) where
  abbrev IsTold : List calls.Moment → ℕ → ℕ → ℕ → Type 0
  IsTold ms own foreign v = Asks (gone_now peer ms own foreign) (origin v) (heard_list origin foreign own ms)

  pub heard_ends : (ms : List calls.Moment) → IsHistory peer ms → AreAllowed number peer link ms → AllMay ms → (own foreign : ℕ) (e : Entry) (v : ℕ) → entry_at own foreign (ends_now peer ms) ≡ Some e → e.partner ≡ Some v
      → Asks (gone_now peer ms own foreign) (origin v) (heard_list origin foreign own ms)
  heard_ends [] i a may own foreign e v found has = absurd (cc)
  heard_ends (m ∷ ms) i a may own foreign e v found has =
      let before : Holds number tells link (gone_now peer ms) m.pair.entries (receiver_now number peer link ms) (sender_now number peer link ms)
      = subst (λ (es : List Entry). Holds number tells link (gone_now peer ms) es (receiver_now number peer link ms) (sender_now number peer link ms)) (sym i.0) (holds_now number tells peer link ms i.1 a.1) in
      let now : partner_at (entry_at own foreign (ends_by peer m.call m.pair m.listening)) ≡ Some v = ap partner_at found ∙ has in
      let same : gone_now peer (m ∷ ms) own foreign ≡ gone_now peer ms own foreign
      = gone_same m.pair.entries (ends_by peer m.call m.pair m.listening) (gone_now peer ms) own foreign (ap is_some found) in
      let count : closes (heard_list origin foreign own ms) ≡ heard_from (gone_now peer ms) m.pair.entries foreign own
      = closes_heard origin foreign own ms ∙ history_heard number tells peer link foreign own ms i.1 a.1 may.1 ∙ ap (λ (es : List Entry). heard_from (gone_now peer ms) es foreign own) (sym i.0) in
      let earlier : partner_at (entry_at own foreign m.pair.entries) ≡ Some v → IsTold ms own foreign v
      = λ old. (let x : (f : Entry) × (entry_at own foreign m.pair.entries ≡ Some f) × (f.partner ≡ Some v) = has_end (entry_at own foreign m.pair.entries) v old in
      heard_ends ms i.1 a.1 may.1 own foreign x.0 v (ap (λ (es : List Entry). entry_at own foreign es) (sym i.0) ∙ x.1) x.2) in
      let told : Asks (gone_now peer ms own foreign) (origin v) (mark_heard origin foreign own m.call ++ heard_list origin foreign own ms)
      = elim (partner_step number tells link (gone_now peer ms) peer m.pair m.listening (receiver_now number peer link ms) (sender_now number peer link ms) before m.call own foreign v now) [
        | inl old ↦ asks_by origin (gone_now peer ms own foreign) (origin v) foreign own m.call (heard_list origin foreign own ms) (earlier old)
        | inr new ↦ brought origin (gone_now peer ms) own foreign v (heard_list origin foreign own ms) m.call m.pair count may.0 new
      ] in
      subst (λ (n : ℕ). Asks n (origin v) (heard_list origin foreign own (m ∷ ms))) (sym same) told
