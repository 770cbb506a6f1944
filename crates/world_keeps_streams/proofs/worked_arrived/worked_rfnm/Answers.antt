use Rattle.world_keeps_streams.proofs.Common.{◌≡◌, inl, inr, ℕ, ◌<◌, true, false, List, [], ◌∷◌, drop, length, Option, Some, refl, ap, sym, subst, ◌∙◌, arith, option_map, IsBeside, Fate, eight_sent, each_in}
use Rattle.promise.specs.Arrived.{IsCounted, HasArrived}
use Rattle.promise.specs.Formed.{texts_on, flow_of, link_of}
use Rattle.promise.specs.Safe.{Match, before, receives, sends}
use Rattle.world_keeps_lives.specs.WorkedFormed.{gave, sent_log, took}
use Rattle.world_keeps_streams.specs.WorkedArrived.{took_nothing, answered_log, on_two}
use Rattle.bit_messages.specs.Octets.{octets_of}
use Rattle.interface.specs.declared.crossing.Crossing.TheVariants as crossing
use Rattle.ncp_control.specs.Reading.{command_of, read_of}
use Rattle.host_pairs.specs.Control.{orders_of}
use Rattle.promise.specs.declared.life.Fate.TheVariants as fate
use Rattle.promise.specs.declared.life.Life.{Life}
use Rattle.world_keeps_streams.proofs.worked_arrived.worked_rfnm.Goals as goal

-- both lives have link 2
took_link : link_of answered_log took ≡ Some 2
unfolding octets_of orders_of read_of command_of
took_link = refl

gave_link : link_of answered_log gave ≡ Some 2
unfolding octets_of orders_of read_of command_of
gave_link = refl

sent : IsCounted answered_log 15 eight_sent gave
sent = record {
  flow = ap (option_map (flow_of gave)) gave_link;
  own = omega arith;
  partner = omega arith;
  counted = subst (λ (o : Option ℕ). length (texts_on gave o (before 15 answered_log)) < 1) (sym gave_link)
      (omega arith);
}

taken : IsCounted answered_log 16 eight_sent took
taken = record {
  flow = ap (option_map (flow_of took)) took_link;
  own = omega arith;
  partner = omega arith;
  counted = subst (λ (o : Option ℕ). length (texts_on took o (before 16 answered_log)) < 1) (sym took_link)
      (omega arith);
}

-- a receiving life beside this one, where it is open
by_receiver : (x : Life) (f : Fate) → (f ≡ fate.Open → IsCounted answered_log 16 eight_sent x)
    → HasArrived answered_log sent_log (x ∷ gave ∷ []) (f ∷ fate.Open ∷ []) on_two
by_receiver x f counts = record {
  out = record {
    since = crossing.In eight_sent ∷ [];
    message = eight_sent;
    before = drop 2 sent_log;
    parts =
        refl;
    flow = refl;
    last = refl;
  };
  sender = gave;
  there = (1, omega arith, refl);
  sending = refl;
  sent = sent;
  place = 16;
  after = omega arith;
  taken = inl (refl, refl);
  arrived = λ r i m. by r m i;
} where
  by : (r : Life) → Match answered_log r gave → IsBeside r fate.Open (x ∷ gave ∷ []) (f ∷ fate.Open ∷ [])
      → IsCounted answered_log 16 eight_sent r
  by r m (inl i) = subst (λ (y : Life). IsCounted answered_log 16 eight_sent y) (sym i.0) (counts (sym i.1))
  by r m (inr (inl i)) = absurd (let no : false ≡ true = ap receives (sym i.0) ∙ m.receiving in cc)
  by r m (inr (inr i)) = absurd i

pub returns-clause-arrived : goal.returns-clause-arrived
returns-clause-arrived c = by_receiver took fate.Open (λ e. taken)

pub returns-clause-closing : goal.returns-clause-closing
returns-clause-closing c = by_receiver took_nothing fate.Closing
    (λ e. absurd (let no : fate.Closing ≡ fate.Open = e in cc))

pairs : Match answered_log took_nothing gave
pairs = record {
  receiving = refl;
  sending = refl;
  peers = (refl, refl);
  sockets = (refl, refl);
  asked =
      refl;
  answered = refl;
}

-- its sending life is the only one
the_sender : (x : Life) (fates : List Fate) → sends x ≡ false
    → (a : HasArrived answered_log sent_log (x ∷ gave ∷ []) fates on_two) → (a.sender ≡ gave → ⊥) → ⊥
the_sender x fates odd a other =
    each_in (λ (y : Life). a.sender ≡ y → ⊥) (x ∷ gave ∷ []) a.sender a.there
    ((λ is. absurd (let no : true ≡ false = sym a.sending ∙ ap sends is ∙ odd in cc)), (other, tt)) refl

pub returns-clause-lost : goal.returns-clause-lost
returns-clause-lost c a =
    the_sender took_nothing (fate.Open ∷ fate.Open ∷ []) refl a
    (λ is.
    (let k : IsCounted answered_log a.place a.out.message took_nothing =
    a.arrived took_nothing (inl (refl, refl))
    (subst (λ (y : Life). Match answered_log took_nothing y) (sym is) pairs) in
    let less : length (texts_on took_nothing (link_of answered_log took_nothing) (before a.place answered_log)) < 0 =
    k.counted in
    absurd (omega (arith, less))))

pub returns-clause-stray : goal.returns-clause-stray
returns-clause-stray c a =
    each_in (λ (y : Life). a.sender ≡ y → ⊥) (took ∷ []) a.sender a.there
    ((λ is. absurd (let no : true ≡ false = sym a.sending ∙ ap sends is in cc)), tt) refl
