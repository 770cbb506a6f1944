-- Which RRP are owed: what is kept of it says so of all hosts and peers.
use Rattle.book_judge.proofs.Common.{get-empty, unwrap_or, flow_cmp, same_flow, Host, same_host, Flow, control_flow, Act, Deed, Owed}
use Rattle.std.proofs.Common.{◌≡◌, ℕ, ◌+◌, ◌≤◌, Bool, true, false, not, ◌&&◌, ◌||◌, Option, Some, refl, ap, ap₂, sym, subst, ◌∙◌, if◌then◌else◌, arith, nat_lt}
use Rattle.std.proofs.lemmas.Bool.{false_from_ne_true, ltb-true, lt-ltb}
use Rattle.book_judge.specs.Inside.Deeds.{has_peer, owes_by}
use Rattle.book_judge.specs.Inside.Changes.{nothing_owed, number_at, owed_once, owes, owes_after, owes_never, owed_by_act}
use Rattle.std.specs.FinMap as map
use Rattle.book_judge.proofs.Crossed.Mailboxes.{get_set}
use Rattle.book_judge.specs.declared.fates.deeds.Act.TheVariants as act

-- ---- numbers of flows

pub number_set : (m : map.FinMap flow_cmp ℕ) (k : Flow) (n : ℕ) (f : Flow)
    → number_at (map.insert m k n) f ≡ (if same_flow f k then n else number_at m f)
number_set m k n f = ap (λ (o : Option ℕ). unwrap_or o 0) (get_set m k n f) ∙ by (same_flow f k) where
  by : (b : Bool) → unwrap_or (if b then Some n else map.get m f) 0 ≡ (if b then n else number_at m f)
  by true = refl
  by false = refl

pub and_yes : (b : Bool) → (b && true) ≡ b
and_yes true = refl
and_yes false = refl

and_itself : (b : Bool) → ((b && b) && true) ≡ b
and_itself true = refl
and_itself false = refl

-- of a host and its peer
pub pair_set : (m : map.FinMap flow_cmp ℕ) (g q : Host) (n : ℕ) (h peer : Host)
    → number_at (map.insert m (control_flow g q) n) (control_flow h peer)
    ≡ (if same_host h g && same_host peer q then n else number_at m (control_flow h peer))
pair_set m g q n h peer =
    number_set m (control_flow g q) n (control_flow h peer)
    ∙ ap (λ (b : Bool). if b then n else number_at m (control_flow h peer))
    (and_yes (same_host h g && same_host peer q))

-- and of one host
pub own_set : (m : map.FinMap flow_cmp ℕ) (g : Host) (n : ℕ) (h : Host)
    → number_at (map.insert m (control_flow g g) n) (control_flow h h)
    ≡ (if same_host h g then n else number_at m (control_flow h h))
own_set m g n h =
    number_set m (control_flow g g) n (control_flow h h)
    ∙ ap (λ (b : Bool). if b then n else number_at m (control_flow h h)) (and_itself (same_host h g))

pub number_empty : (f : Flow) → number_at map.empty f ≡ 0
number_empty f = ap (λ (o : Option ℕ). unwrap_or o 0) (get-empty flow_cmp f)

-- ---- what is owed

-- what is kept is of the first deeds, as many as this
pub record AreBefore (n : ℕ) (o : Owed) : Type 0 where
  pub resets : (f : Flow) → number_at o.resets f ≤ n
  pub restarts : (f : Flow) → number_at o.restarts f ≤ n

below_more : (m : map.FinMap flow_cmp ℕ) (n : ℕ) → ((f : Flow) → number_at m f ≤ n) → (f : Flow) → number_at m f ≤ n + 1
below_more m n all f = let le = all f in omega (arith, le)

below_set : (m : map.FinMap flow_cmp ℕ) (k : Flow) (v n : ℕ) → v ≤ n + 1 → ((f : Flow) → number_at m f ≤ n)
    → (f : Flow) → number_at (map.insert m k v) f ≤ n + 1
below_set m k v n h all f = subst (λ (x : ℕ). x ≤ n + 1) (sym (number_set m k v f)) (by (same_flow f k)) where
  by : (b : Bool) → (if b then v else number_at m f) ≤ n + 1
  by true = h
  by false = below_more m n all f

before_by : (n : ℕ) (g q : Host) (a : Act) (o : Owed) → AreBefore n o → AreBefore (n + 1) (owed_by_act (n + 1) g q a o)
before_by n g q (act.Resets true) o b = record {
  resets = below_set o.resets (control_flow g q) (n + 1) n (omega arith) b.resets;
  restarts = below_more o.restarts n b.restarts;
}
before_by n g q (act.Resets false) o b =
    record { resets = below_more o.resets n b.resets; restarts = below_more o.restarts n b.restarts }
before_by n g q act.Replies o b = record {
  resets = below_set o.resets (control_flow g q) 0 n (omega arith) b.resets;
  restarts = below_more o.restarts n b.restarts;
}
before_by n g q act.Stops o b = record {
  resets = below_more o.resets n b.resets;
  restarts = below_set o.restarts (control_flow g g) (n + 1) n (omega arith) b.restarts;
}
before_by n g q act.Starts o b = record {
  resets = below_more o.resets n b.resets;
  restarts = below_set o.restarts (control_flow g g) (n + 1) n (omega arith) b.restarts;
}
before_by n g q act.Fails o b =
    record { resets = below_more o.resets n b.resets; restarts = below_more o.restarts n b.restarts }
before_by n g q (act.Asks comes own foreign) o b =
    record { resets = below_more o.resets n b.resets; restarts = below_more o.restarts n b.restarts }
before_by n g q (act.Closes comes own foreign) o b =
    record { resets = below_more o.resets n b.resets; restarts = below_more o.restarts n b.restarts }

pub before_last : (n : ℕ) (d : Deed) (o next : Owed) → next ≡ owed_once (n + 1) d o → AreBefore n o
    → AreBefore (n + 1) next
before_last n d o next e b = subst (λ (p : Owed). AreBefore (n + 1) p) (sym e) (before_by n d.host d.peer d.act o b)

pub same_if : (b x : Bool) → x ≡ (if b then x else x)
same_if true x = refl
same_if false x = refl

pub not_less : (a b : ℕ) → b ≤ a → nat_lt a b ≡ false
not_less a b h = false_from_ne_true (nat_lt a b) (λ e. (let lt = ltb-true a b e in omega (arith, lt, h)))

restarted : (n : ℕ) (g : Host) (o : Owed) (h peer : Host) → AreBefore n o
    → nat_lt (number_at (map.insert o.restarts (control_flow g g) (n + 1)) (control_flow h h))
    (number_at o.resets (control_flow h peer))
    ≡ (if same_host h g && true then false else owes o h peer)
restarted n g o h peer b =
    ap (λ (r : ℕ). nat_lt r (number_at o.resets (control_flow h peer))) (own_set o.restarts g (n + 1) h)
    ∙ by (same_host h g) where
      by : (t : Bool)
          → nat_lt (if t then n + 1 else number_at o.restarts (control_flow h h))
          (number_at o.resets (control_flow h peer))
          ≡ (if t && true then false else owes o h peer)
      by true =
          (let le = b.resets (control_flow h peer) in not_less (n + 1) (number_at o.resets (control_flow h peer))
          (omega (arith, le)))
      by false = refl

owed_by : (n : ℕ) (g q : Host) (a : Act) (o : Owed) (h peer : Host) → AreBefore n o
    → owes (owed_by_act (n + 1) g q a o) h peer
    ≡ (if same_host h g && (not (has_peer a) || same_host peer q) then owes_by a (owes o h peer) else owes o h peer)
owed_by n g q (act.Asks comes own foreign) o h peer b = same_if _ (owes o h peer)
owed_by n g q (act.Closes comes own foreign) o h peer b = same_if _ (owes o h peer)
owed_by n g q act.Fails o h peer b = same_if _ (owes o h peer)
owed_by n g q (act.Resets false) o h peer b = same_if _ (owes o h peer)
owed_by n g q (act.Resets true) o h peer b =
    ap (nat_lt (number_at o.restarts (control_flow h h))) (pair_set o.resets g q (n + 1) h peer)
    ∙ by (same_host h g && same_host peer q) where
      by : (t : Bool)
          → nat_lt (number_at o.restarts (control_flow h h))
          (if t then n + 1 else number_at o.resets (control_flow h peer))
          ≡ (if t then true else owes o h peer)
      by true =
          (let le = b.restarts (control_flow h h) in lt-ltb (number_at o.restarts (control_flow h h)) (n + 1)
          (omega (arith, le)))
      by false = refl
owed_by n g q act.Replies o h peer b =
    ap (nat_lt (number_at o.restarts (control_flow h h))) (pair_set o.resets g q 0 h peer)
    ∙ by (same_host h g && same_host peer q) where
      by : (t : Bool)
          → nat_lt (number_at o.restarts (control_flow h h))
          (if t then 0 else number_at o.resets (control_flow h peer))
          ≡ (if t then false else owes o h peer)
      by true = not_less (number_at o.restarts (control_flow h h)) 0 (omega arith)
      by false = refl
owed_by n g q act.Stops o h peer b = restarted n g o h peer b
owed_by n g q act.Starts o h peer b = restarted n g o h peer b

-- what is kept after a deed
pub owes_next : (n : ℕ) (d : Deed) (o : Owed) → AreBefore n o → owes (owed_once (n + 1) d o) ≡ owes_after d (owes o)
owes_next n d o b = λ i h peer. owed_by n d.host d.peer d.act o h peer b i

pub owes_first : owes nothing_owed ≡ owes_never
owes_first = λ i h peer. ap₂ nat_lt (number_empty (control_flow h h)) (number_empty (control_flow h peer)) i

pub before_first : AreBefore 0 nothing_owed
before_first = record {
  resets = λ f. (let e = number_empty f in omega (arith, e));
  restarts = λ f. (let e = number_empty f in omega (arith, e));
}
