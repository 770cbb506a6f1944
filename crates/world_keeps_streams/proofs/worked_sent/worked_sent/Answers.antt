use Rattle.world_keeps_streams.proofs.Common.{◌≡◌, inl, ℕ, ◌<◌, true, false, List, [], ◌∷◌, length, Option, Some, refl, ap, sym, subst, ◌∙◌, arith, option_map, Flow, Crossing, HostMessage, IsCounted, some_is, eight_sent, each_in}
use Rattle.promise.specs.Formed.{texts_on, flow_of, link_of}
use Rattle.promise.specs.Safe.{last_out, Match, before, sends}
use Rattle.world_keeps_lives.specs.WorkedFormed.{gave, stray, stray_log, took, two_log}
use Rattle.bit_messages.specs.Octets.{octets_of}
use Rattle.ncp_control.specs.Reading.{command_of, read_of}
use Rattle.host_pairs.specs.Control.{orders_of}
use Rattle.promise.specs.declared.life.Life.{Life}
use Rattle.world_keeps_lives.proofs.lemmas.{gave_stray}
use Rattle.world_keeps_streams.specs.Sent.{WasSent}
use Rattle.world_keeps_streams.specs.WorkedSent.{again_log, early_log, gap_log, gave_twice, took_twice, unsent_log}
use Rattle.world_keeps_streams.proofs.worked_sent.worked_sent.Goals as goal

-- the lives have link 2
took_link : link_of two_log took_twice ≡ Some 2
unfolding octets_of orders_of read_of command_of
took_link = refl

gave_link : link_of two_log gave_twice ≡ Some 2
unfolding octets_of orders_of read_of command_of
gave_link = refl

took_again : link_of again_log took_twice ≡ Some 2
unfolding octets_of orders_of read_of command_of
took_again = refl

gave_again : link_of again_log gave ≡ Some 2
unfolding octets_of orders_of read_of command_of
gave_again = refl

took_gap : link_of gap_log took ≡ Some 2
unfolding octets_of orders_of read_of command_of
took_gap = refl

gave_gap : link_of gap_log gave ≡ Some 2
unfolding octets_of orders_of read_of command_of
gave_gap = refl

pairs : Match two_log took_twice gave_twice
pairs = record {
  receiving = refl;
  sending = refl;
  peers = (refl, refl);
  sockets = (refl, refl);
  asked = refl;
  answered = refl;
}

pub returns-clause-same : goal.returns-clause-same
returns-clause-same c = record {
  sender = gave_twice;
  there = (1, omega arith, refl);
  matches = pairs;
  out = 18;
  last = refl;
  counted = record {
    flow = ap (option_map (flow_of gave_twice)) gave_link;
    own = omega arith;
    partner = omega arith;
    counted = subst (λ (o : Option ℕ). length (texts_on gave_twice o (before 18 two_log)) < 2) (sym gave_link)
        (omega arith);
  };
  nth = ap (λ (o : Option ℕ). length (texts_on gave_twice o (before 18 two_log))) gave_link
      ∙ sym (ap (λ (o : Option ℕ). length (texts_on took_twice o (before 19 two_log))) took_link);
}

-- of two lives the second is the sender
by_sender : (log : List Crossing) (x : Life) (place : ℕ) (m : HostMessage) → sends x ≡ false
    → (w : WasSent log (x ∷ gave ∷ []) place m x) → (w.sender ≡ gave → ⊥) → ⊥
by_sender log x place m odd w other =
    each_in (λ (y : Life). w.sender ≡ y → ⊥) (x ∷ gave ∷ []) w.sender w.there
    ((λ is. absurd (let no : true ≡ false = sym w.matches.sending ∙ ap sends is ∙ odd in cc)), (other, tt)) refl

-- as many have to come in before it as go out
by_number : (log : List Crossing) (x : Life) (place out : ℕ) (m : HostMessage) → sends x ≡ false
    → link_of log gave ≡ Some 2 → link_of log x ≡ Some 2 → last_out m.flow (before place log) ≡ Some out
    → (length (texts_on gave (Some 2) (before out log)) ≡ length (texts_on x (Some 2) (before place log)) → ⊥)
    → WasSent log (x ∷ gave ∷ []) place m x → ⊥
by_number log x place out m odd given taken last differ w = by_sender log x place m odd w (λ is.
    (let went : w.out ≡ out = some_is w.out out (sym w.last ∙ last) in
    let same : length (texts_on gave (link_of log gave) (before w.out log))
    ≡ length (texts_on x (link_of log x) (before place log)) =
    subst (λ (y : Life). length (texts_on y (link_of log y) (before w.out log))
    ≡ length (texts_on x (link_of log x) (before place log))) is w.nth in
    differ (sym (ap (λ (o : Option ℕ). length (texts_on gave o (before out log))) given)
    ∙ ap (λ (k : ℕ). length (texts_on gave (link_of log gave) (before k log))) (sym went) ∙ same
    ∙ ap (λ (o : Option ℕ). length (texts_on x o (before place log))) taken)))

pub returns-clause-again : goal.returns-clause-again
returns-clause-again c =
    by_number again_log took_twice 17 15 eight_sent refl gave_again took_again refl (λ e. absurd (omega (arith, e)))

pub returns-clause-gap : goal.returns-clause-gap
returns-clause-gap c =
    by_number gap_log took 18 17 eight_sent refl gave_gap took_gap refl (λ e. absurd (omega (arith, e)))

pub returns-clause-early : goal.returns-clause-early
returns-clause-early c w =
    let first : last_out eight_sent.flow (before 16 early_log) ≡ Some 0 = refl in
    let went : w.out ≡ 0 = some_is w.out 0 (sym w.last ∙ first) in
    let own : w.sender.own_stamp < w.out = w.counted.own in
    absurd (omega (arith, went, own))

pub returns-clause-link : goal.returns-clause-link
returns-clause-link c w = by_sender stray_log took 13 stray refl w (λ is.
    (let on : option_map (flow_of gave) (link_of stray_log gave) ≡ Some stray.flow =
    subst (λ (y : Life). option_map (flow_of y) (link_of stray_log y) ≡ Some stray.flow) is w.counted.flow in
    let both : Some (flow_of gave 2) ≡ Some stray.flow = sym (ap (option_map (flow_of gave)) gave_stray) ∙ on in
    let same : flow_of gave 2 ≡ stray.flow = cc in
    let links : 2 ≡ 3 = ap (λ (f : Flow). f.link.0) same in
    absurd (omega (arith, links))))

pub returns-clause-stray : goal.returns-clause-stray
returns-clause-stray c w =
    each_in (λ (y : Life). w.sender ≡ y → ⊥) (took ∷ []) w.sender w.there
    ((λ is. absurd (let no : true ≡ false = sym w.matches.sending ∙ ap sends is in cc)), tt) refl

took_unsent : link_of unsent_log took ≡ Some 2
unfolding octets_of orders_of read_of command_of
took_unsent = refl

pub returns-clause-unsent : goal.returns-clause-unsent
returns-clause-unsent c each =
    let w : WasSent unsent_log (took ∷ []) 15 eight_sent took =
    each took 15 eight_sent (0, omega arith, refl) refl (inl (refl, refl)) (record {
      flow = ap (option_map (flow_of took)) took_unsent;
      own = omega arith;
      partner = omega arith;
      counted = subst (λ (o : Option ℕ). length (texts_on took o (before 15 unsent_log)) < 1) (sym took_unsent)
          (omega arith);
    }) in
    each_in (λ (y : Life). w.sender ≡ y → ⊥) (took ∷ []) w.sender w.there
    ((λ is. absurd (let no : true ≡ false = sym w.matches.sending ∙ ap sends is in cc)), tt) refl
