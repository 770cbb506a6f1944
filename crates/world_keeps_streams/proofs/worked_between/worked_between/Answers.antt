use Rattle.world_keeps_streams.proofs.Common.{◌≡◌, inl, inr, ℕ, ◌<◌, ◌==◌, true, false, List, [], ◌∷◌, length, Option, Some, refl, ap, sym, subst, ◌∙◌, arith, option_map, Contains, Flow, Crossing, HostMessage, eight_sent, each_in}
use Rattle.interface.specs.declared.crossing.Crossing.TheVariants as crossing
use Rattle.promise.specs.Formed.{CrossedAt, flow_of, link_of, texts_on}
use Rattle.promise.specs.Safe.{Match, before, receives, sends}
use Rattle.promise.specs.Worked.{opened, rts, str}
use Rattle.promise.specs.declared.life.Life.{Life}
use Rattle.world_keeps_lives.specs.WorkedFormed.{gave, sent_log, stray, stray_log, took, two_log, zeros_sent}
use Rattle.world_keeps_lives.proofs.lemmas.{gave_sent, gave_stray, gave_two, not_receiving, not_sending}
use Rattle.world_keeps_streams.specs.Between.{EachIsBetween, IsBetween}
use Rattle.world_keeps_streams.proofs.worked_between.worked_between.Goals as goal

pub returns-clause-both : goal.returns-clause-both
returns-clause-both c = record {
  sender = gave;
  receiver = took;
  there = (1, omega arith, refl);
  partner = (0, omega arith, refl);
  matches = record {
    receiving = refl;
    sending = refl;
    peers = (refl, refl);
    sockets = (refl, refl);
    asked = refl;
    answered = refl;
  };
  counted = record {
    flow = ap (option_map (flow_of gave)) gave_sent;
    own = omega arith;
    partner = omega arith;
    counted = subst (λ (o : Option ℕ). length (texts_on gave o (before 15 sent_log)) < 1) (sym gave_sent) (omega arith);
  };
}

-- the message went out at place 15
went : CrossedAt 15 (crossing.Out eight_sent) sent_log
went = inr (inl (refl, refl))

pub returns-clause-empty : goal.returns-clause-empty
returns-clause-empty c each = omega (arith, (each 15 eight_sent went refl).there.1)

pub returns-clause-waiting : goal.returns-clause-waiting
returns-clause-waiting c each = omega (arith, (each 15 eight_sent (inl (refl, refl)) refl).there.1)

-- a life that sends doesn't receive, and the other way round
no_receiver : (lives : List Life) → IsBetween sent_log lives 15 eight_sent → ((x : Life) → Contains lives x → receives x ≡ true → ⊥) → ⊥
no_receiver lives b none = none b.receiver b.partner b.matches.receiving

no_sender : (lives : List Life) → IsBetween sent_log lives 15 eight_sent → ((x : Life) → Contains lives x → sends x ≡ true → ⊥) → ⊥
no_sender lives b none = none b.sender b.there b.matches.sending

pub returns-clause-untaken : goal.returns-clause-untaken
returns-clause-untaken c each = no_receiver (gave ∷ []) (each 15 eight_sent went refl)
    (λ x there. each_in (λ (y : Life). x ≡ y → receives x ≡ true → ⊥) (gave ∷ []) x there (not_receiving x, tt) refl)

pub returns-clause-unsent : goal.returns-clause-unsent
returns-clause-unsent c each = no_sender (took ∷ []) (each 15 eight_sent went refl)
    (λ x there. each_in (λ (y : Life). x ≡ y → sends x ≡ true → ⊥) (took ∷ []) x there (not_sending x, tt) refl)

pub returns-clause-takers : goal.returns-clause-takers
returns-clause-takers c each = no_sender (took ∷ took ∷ []) (each 15 eight_sent went refl)
    (λ x there. each_in (λ (y : Life). x ≡ y → sends x ≡ true → ⊥) (took ∷ took ∷ []) x there
    (not_sending x, (not_sending x, tt)) refl)

pub returns-clause-givers : goal.returns-clause-givers
returns-clause-givers c each = no_receiver (gave ∷ gave ∷ []) (each 15 eight_sent went refl)
    (λ x there. each_in (λ (y : Life). x ≡ y → receives x ≡ true → ⊥) (gave ∷ gave ∷ []) x there
    (not_receiving x, (not_receiving x, tt)) refl)

-- of two lives the second is the sender
the_sender : (log : List Crossing) (place : ℕ) (m : HostMessage) → (b : IsBetween log (took ∷ gave ∷ []) place m) → (b.sender ≡ gave → ⊥) → ⊥
the_sender log place m b other =
    each_in (λ (y : Life). b.sender ≡ y → ⊥) (took ∷ gave ∷ []) b.sender b.there
    ((λ is. not_sending b.sender is b.matches.sending), (other, tt)) refl

pub returns-clause-second : goal.returns-clause-second
returns-clause-second c b = the_sender two_log 18 zeros_sent b (λ is.
    (let less : length (texts_on gave (link_of two_log gave) (before 18 two_log)) < 1 =
    subst (λ (y : Life). length (texts_on y (link_of two_log y) (before 18 two_log)) < y.messages) is b.counted.counted in
    let one : length (texts_on gave (Some 2) (before 18 two_log)) < 1 =
    subst (λ (o : Option ℕ). length (texts_on gave o (before 18 two_log)) < 1) gave_two less in
    absurd (omega (arith, one))))

pub returns-clause-link : goal.returns-clause-link
returns-clause-link c b = the_sender stray_log 12 stray b (λ is.
    (let on : option_map (flow_of gave) (link_of stray_log gave) ≡ Some stray.flow =
    subst (λ (y : Life). option_map (flow_of y) (link_of stray_log y) ≡ Some stray.flow) is b.counted.flow in
    let both : Some (flow_of gave 2) ≡ Some stray.flow = sym (ap (option_map (flow_of gave)) gave_stray) ∙ on in
    let same : flow_of gave 2 ≡ stray.flow = cc in
    let links : 2 ≡ 3 = ap (λ (f : Flow). f.link.0) same in
    absurd (omega (arith, links))))

-- what goes out on link 0 isn't data
on_control : (m n : HostMessage) → crossing.Out m ≡ crossing.Out n → (n.flow.link.0 == 0) ≡ true → (m.flow.link.0 == 0) ≡ false → ⊥
on_control m n is zero off =
    let same : m ≡ n = cc in
    absurd (let no : true ≡ false = sym zero ∙ ap (λ (k : HostMessage). k.flow.link.0 == 0) (sym same) ∙ off in cc)

pub returns-clause-control : goal.returns-clause-control
returns-clause-control c place m (inl (is, at)) off = absurd (let no : crossing.Out m ≡ crossing.In str = is in cc)
returns-clause-control c place m (inr (inl (is, at))) off = absurd (on_control m str is refl off)
returns-clause-control c place m (inr (inr (inl (is, at)))) off =
    absurd (let no : crossing.Out m ≡ crossing.In rts = is in cc)
returns-clause-control c place m (inr (inr (inr (inl (is, at))))) off = absurd (on_control m rts is refl off)
returns-clause-control c place m (inr (inr (inr (inr none)))) off = absurd none
