use Rattle.world_keeps_streams.proofs.Common.{Contains, Flow, Crossing, IsBeside, each_in}
use Rattle.std.proofs.Common.{◌≡◌, inl, inr, ℕ, Bool, false, List, ◌∷◌, ◌++◌, length, if◌then◌else◌, Option, Some, refl, ap, sym, subst, ◌∙◌, arith, true, []}
use Rattle.promise.specs.Ends.{Going, stage}
use Rattle.promise.specs.Formed.{texts_on, link_of}
use Rattle.promise.specs.Safe.{Match, receives}
use Rattle.world_keeps_lives.specs.WorkedFormed.{sent_log}
use Rattle.world_keeps_streams.specs.WorkedArrived.{took_nothing, closed_log, closed_receiver, closed_sender, coming_log, sent_more}
use Rattle.world_keeps_streams.proofs.Ends.Arrived.{same_head}
use Rattle.bit_messages.specs.Octets.{octets_of}
use Rattle.interface.specs.declared.crossing.Answer.TheVariants as answer
use Rattle.interface.specs.declared.crossing.Crossing.TheVariants as crossing
use Rattle.ncp_control.specs.Reading.{command_of, read_of}
use Rattle.host_pairs.specs.Control.{orders_of}
use Rattle.promise.specs.declared.life.Fate.TheVariants as fate
use Rattle.promise.specs.declared.life.Life.{Life}
use Rattle.world_keeps_streams.proofs.worked_arrived.worked_open.Goals as goal

-- ---- a log without answers

is_answer : Crossing → Bool
is_answer (crossing.Answer kind f) = true
is_answer c = false

all_other : List Crossing → Bool
all_other [] = true
all_other (c ∷ log) = if is_answer c then false else all_other log

none_answered : (log newer older : List Crossing) (f : Flow) → all_other log ≡ true
    → log ≡ newer ++ crossing.Answer answer.Rfnm f ∷ older → ⊥
unfolding is_answer all_other
none_answered [] [] older f o e = let no : [] ≡ crossing.Answer answer.Rfnm f ∷ older = e in cc
none_answered [] (d ∷ newer) older f o e = let no : [] ≡ d ∷ (newer ++ crossing.Answer answer.Rfnm f ∷ older) = e in cc
none_answered (c ∷ log) [] older f o e =
    let is : c ≡ crossing.Answer answer.Rfnm f = (same_head c (crossing.Answer answer.Rfnm f) log older e).0 in
    let no : false ≡ true = ap (λ (d : Crossing). if is_answer d then false else all_other log) (sym is) ∙ o in cc
none_answered (c ∷ log) (d ∷ newer) older f o e = by (is_answer c) o
    (λ p. none_answered log newer older f p (same_head c d log (newer ++ crossing.Answer answer.Rfnm f ∷ older) e).1) where
      by : (v : Bool) → (if v then false else all_other log) ≡ true → (all_other log ≡ true → ⊥) → ⊥
      by true p rest = let no : false ≡ true = p in cc
      by false p rest = rest p

-- ---- the rows

closed_link : link_of closed_log closed_receiver ≡ Some 2
unfolding octets_of orders_of read_of command_of
closed_link = refl

closed_stage : stage [] closed_receiver closed_log ≡ Going false true
unfolding octets_of orders_of read_of command_of
closed_stage = refl

coming_link : link_of coming_log closed_receiver ≡ Some 2
unfolding octets_of orders_of read_of command_of
coming_link = refl

coming_stage : stage [] closed_receiver coming_log ≡ Going false false
unfolding octets_of orders_of read_of command_of
coming_stage = refl

pub returns-clause-coming : goal.returns-clause-coming
unfolding is_answer all_other
returns-clause-coming c = record {
  all = λ x i kind. all_of x kind i;
  closed = λ r s own i is there m. absurd (on_its_way r s own m i is);
  answered = λ newer older f e off. absurd (none_answered coming_log newer older f refl e);
} where
  all_of : (x : Life) → receives x ≡ true → IsBeside x fate.Open (closed_receiver ∷ sent_more ∷ [])
      (fate.Open ∷ fate.Open ∷ []) → x.messages ≡ length (texts_on x (link_of coming_log x) coming_log)
  all_of x kind (inl i) = subst (λ (y : Life). y.messages ≡ length (texts_on y (link_of coming_log y) coming_log))
      (sym i.0) (ap (λ (o : Option ℕ). length (texts_on closed_receiver o coming_log)) (sym coming_link))
  all_of x kind (inr (inl i)) = absurd (let no : false ≡ true = ap receives (sym i.0) ∙ kind in cc)
  all_of x kind (inr (inr i)) = absurd i

  on_its_way : (r s : Life) (own : Bool) → Match coming_log r s → IsBeside r fate.Open (closed_receiver ∷ sent_more ∷ [])
      (fate.Open ∷ fate.Open ∷ []) → stage [] r coming_log ≡ Going own true → ⊥
  on_its_way r s own m (inl i) is =
      let no : Going false false ≡ Going own true =
      sym coming_stage ∙ ap (λ (y : Life). stage [] y coming_log) (sym i.0) ∙ is in
      absurd (cc)
  on_its_way r s own m (inr (inl i)) is = absurd (let no : false ≡ true = ap receives (sym i.0) ∙ m.receiving in cc)
  on_its_way r s own m (inr (inr i)) is = absurd i

pub returns-clause-closed : goal.returns-clause-closed
unfolding is_answer all_other
returns-clause-closed c = record {
  all = λ x i kind. all_of x kind i;
  closed = λ r s own i is there m. sent_by r s m i there;
  answered = λ newer older f e off. absurd (none_answered closed_log newer older f refl e);
} where
  all_of : (x : Life) → receives x ≡ true → IsBeside x fate.Open (closed_receiver ∷ closed_sender ∷ [])
      (fate.Open ∷ fate.Open ∷ []) → x.messages ≡ length (texts_on x (link_of closed_log x) closed_log)
  all_of x kind (inl i) = subst (λ (y : Life). y.messages ≡ length (texts_on y (link_of closed_log y) closed_log))
      (sym i.0) (ap (λ (o : Option ℕ). length (texts_on closed_receiver o closed_log)) (sym closed_link))
  all_of x kind (inr (inl i)) = absurd (let no : false ≡ true = ap receives (sym i.0) ∙ kind in cc)
  all_of x kind (inr (inr i)) = absurd i

  none : (r s : Life) → Match closed_log r s → IsBeside r fate.Open (closed_receiver ∷ closed_sender ∷ [])
      (fate.Open ∷ fate.Open ∷ []) → (r.bits ≡ []) × (r.messages ≡ 0)
  none r s m (inl i) = (ap (λ (y : Life). y.bits) i.0, ap (λ (y : Life). y.messages) i.0)
  none r s m (inr (inl i)) = (ap (λ (y : Life). y.bits) i.0, ap (λ (y : Life). y.messages) i.0)
  none r s m (inr (inr i)) = absurd i

  sent_by : (r s : Life) → Match closed_log r s → IsBeside r fate.Open (closed_receiver ∷ closed_sender ∷ [])
      (fate.Open ∷ fate.Open ∷ []) → Contains (closed_receiver ∷ closed_sender ∷ []) s
      → (r.bits ≡ s.bits) × (r.messages ≡ s.messages)
  sent_by r s m i there =
      let k : (r.bits ≡ []) × (r.messages ≡ 0) = none r s m i in
      let n : (s.bits ≡ []) × (s.messages ≡ 0) = each_in (λ (y : Life). (y.bits ≡ []) × (y.messages ≡ 0))
      (closed_receiver ∷ closed_sender ∷ []) s there ((refl, refl), ((refl, refl), tt)) in
      (k.0 ∙ sym n.0, k.1 ∙ sym n.1)

pub returns-clause-lost : goal.returns-clause-lost
returns-clause-lost c a =
    let pairs : Match closed_log closed_receiver sent_more =
    record {
      receiving = refl;
      sending = refl;
      peers = (refl, refl);
      sockets = (refl, refl);
      asked =
          refl;
      answered = refl;
    } in
    let same : 0 ≡ 1 = (a.closed closed_receiver sent_more false (inl (refl, refl)) closed_stage
    (1, omega arith, refl) pairs).1 in
    omega (arith, same)

took_link : link_of sent_log took_nothing ≡ Some 2
unfolding octets_of orders_of read_of command_of
took_link = refl

pub returns-clause-uncounted : goal.returns-clause-uncounted
returns-clause-uncounted c a =
    let same : 0 ≡ length (texts_on took_nothing (Some 2) sent_log) =
    subst (λ (o : Option ℕ). 0 ≡ length (texts_on took_nothing o sent_log)) took_link
    (a.all took_nothing (inl (refl, refl)) refl) in
    let one : length (texts_on took_nothing (Some 2) sent_log) ≡ 1 = refl in
    omega (arith, same, one)
