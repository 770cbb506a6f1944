-- The lives of a host with one peer, over all that it hears in one message of its peer.
use Rattle.world_keeps_streams.proofs.Common.{Host, Command, desk_taken, Legal, Order, Wrong, error, DeskState, desk_of, listens_on, command_queued, is_ready, TurnState, command_taken, if_ready, order_taken, orders_taken, with_desk, Entry, Notice, AreAllowed, Hears, IsHistory, IsTelling, ends_after, gone_now, receiver_now, sender_now, Kept, all_told, AreRefusing}
use Rattle.std.proofs.Common.{◌≡◌, ℕ, ◌≤◌, ◌==◌, true, false, List, [], ◌∷◌, ◌++◌, drop, length, refl, ap, sym, subst, ◌∙◌, arith, append-nil}
use Rattle.host_keeps_streams.proofs.lemmas.{holds_now, Holds}
use Rattle.world_keeps_lives.proofs.lemmas.{GoodTurn, Place, all_told_append, good_queued, good_ready, good_taken}
use Rattle.world_keeps_streams.specs.Calls.{orders_heard, called}
use Rattle.ncp_control.specs.declared.command.Command.TheVariants as command
use Rattle.host_keeps_streams.specs.Histories as calls
use Rattle.promise.specs.declared.life.Life.{Life}
use Rattle.world_keeps_streams.proofs.Deeds.Effects.{all_lives}
use Rattle.world_keeps_streams.proofs.Deeds.Kinds.{deed_of, hears}
use Rattle.world_keeps_streams.proofs.Deeds.Told.{After, call_told, notices_of}
use Rattle.world_keeps_streams.proofs.Deeds.Ends.{Fits}
use Rattle.world_keeps_streams.proofs.Carried.Step.{AreOwned}
use Rattle.world_keeps_streams.proofs.Carried.Calls.{CarryIn, call_next}
use Rattle.world_keeps_streams.proofs.Carried.Owned.{IsAway, after_dropped, all_longer, owned_dropped, owned_of, told_lives}

module _ (number : ℕ → ℕ → ℕ → ℕ) (tells : IsTelling number) (a b : Host) where
  abbrev pub AllAllowed : List calls.Moment → Type 0
  AllAllowed cs = (link : ℕ) → (link == 0) ≡ false → AreAllowed number b link cs

  -- one call more of a history
  pub call_more : (cs : List calls.Moment) (m : calls.Moment) (lives : List Life) → IsHistory b (m ∷ cs) → AllAllowed (m ∷ cs) → AreRefusing m.pair.entries → Fits m.call m.pair → AreOwned a b m.pair.entries lives → AreOwned a b (ends_after b m) (After a b (deed_of m.call m.pair) lives)
      → CarryIn a b number cs m.pair.entries lives → CarryIn a b number (m ∷ cs) (ends_after b m) (After a b (deed_of m.call m.pair) lives)
  call_more cs m lives history allowed refusing fits old now c =
      call_next number tells a b cs m lives
      (λ link other. subst (λ (es : List Entry). Holds number tells link (gone_now b cs) es (receiver_now number b link cs) (sender_now number b link cs)) (sym history.0) (holds_now number tells b link cs history.1 (allowed link other).1))
      refusing fits old now c

  -- ---- one command that is heard

  -- RST and RRP are the only commands in their messages
  abbrev pub IsOrdinary : Order → Type 0
  IsOrdinary (Legal command.Rst) = ⊥
  IsOrdinary (Legal command.Rrp) = ⊥
  IsOrdinary o = Unit {0}

  abbrev pub AreOrdinary : List Order → Type 0
  AreOrdinary [] = Unit {0}
  AreOrdinary (o ∷ os) = IsOrdinary o × AreOrdinary os

  ordinary_is : (stamp : ℕ) (c : Command) (t : TurnState) → IsOrdinary (Legal c) → command_taken b stamp c t ≡ if_ready (desk_taken b t.pair.busy stamp c) t
  ordinary_is stamp command.Rst t o = absurd o
  ordinary_is stamp command.Rrp t o = absurd o
  ordinary_is stamp c t o = refl

  module _ (κ : Kept) (n : ℕ) where
    -- at each socket of the host
    abbrev pub Placed : TurnState → Type 0
    Placed t = (k : ℕ) → (m : Place) × IsAway b m × GoodTurn a k m b κ t

    placed_owned : (t : TurnState) → Placed t → AreOwned a b t.pair.entries (drop n (all_told a t.notices κ).book.lives)
    placed_owned t p =
        owned_dropped a b t.pair.entries n (all_told a t.notices κ).book.lives
        (owned_of a b t.pair.entries (all_told a t.notices κ) (λ k. listens_on k t.listening) (λ k. ((p k).0, (p k).1, (p k).2.on)))

    placed_ready : (work : DeskState → DeskState) (t : TurnState) → ((k : ℕ) (m : Place) → GoodTurn a k m b κ t → GoodTurn a k m b κ (if_ready work t)) → Placed t → Placed (if_ready work t)
    placed_ready work t does p k = ((p k).0, (p k).1, does k (p k).0 (p k).2)

    placed_taken : (stamp : ℕ) (c : Command) (t : TurnState) → Placed t → Placed (if_ready (desk_taken b t.pair.busy stamp c) t)
    placed_taken stamp c t p = placed_ready (desk_taken b t.pair.busy stamp c) t (λ k m g. good_ready a k m b κ (desk_taken b t.pair.busy stamp c) t (good_taken a k m b (all_told a t.notices κ) t.pair.busy stamp c (desk_of t.pair t.listening)) g) p

    placed_wrong : (c : Command) (t : TurnState) → Placed t → Placed (if_ready (command_queued c) t)
    placed_wrong c t p = placed_ready (command_queued c) t (λ k m g. good_ready a k m b κ (command_queued c) t (good_queued a k m b (all_told a t.notices κ) c (desk_of t.pair t.listening)) g) p

    -- what is reported by a call, since that place
    later_told : (t : TurnState) (call : calls.Call) (ns : List Notice) → ns ≡ notices_of b call t.pair t.listening → ((ls : List Life) → all_lives a (notices_of b call t.pair t.listening) ls ≡ After a b (deed_of call t.pair) ls) → n ≤ length (all_told a t.notices κ).book.lives
        → drop n (all_told a (t.notices ++ ns) κ).book.lives ≡ After a b (deed_of call t.pair) (drop n (all_told a t.notices κ).book.lives)
    later_told t call ns is told less =
        let one : (all_told a (t.notices ++ ns) κ).book.lives ≡ all_lives a ns (all_told a t.notices κ).book.lives
        = ap (λ (k : Kept). k.book.lives) (all_told_append a t.notices ns κ) ∙ told_lives a ns (all_told a t.notices κ) in
        let two : all_lives a ns (all_told a t.notices κ).book.lives ≡ After a b (deed_of call t.pair) (all_told a t.notices κ).book.lives
        = ap (λ (xs : List Notice). all_lives a xs (all_told a t.notices κ).book.lives) is ∙ told (all_told a t.notices κ).book.lives in
        ap (λ (ls : List Life). drop n ls) (one ∙ two) ∙ after_dropped a b (deed_of call t.pair) n (all_told a t.notices κ).book.lives less

    -- one command
    heard_one : (stamp : ℕ) (c : Command) (t : TurnState) (older : List calls.Moment) → is_ready t.pair.phase ≡ true → Placed t → n ≤ length (all_told a t.notices κ).book.lives
        → IsHistory b (called (Hears stamp 0 c) t.pair t.listening ∷ older) → AllAllowed (called (Hears stamp 0 c) t.pair t.listening ∷ older)
        → CarryIn a b number older t.pair.entries (drop n (all_told a t.notices κ).book.lives)
        → CarryIn a b number (called (Hears stamp 0 c) t.pair t.listening ∷ older) (if_ready (desk_taken b t.pair.busy stamp c) t).pair.entries (drop n (all_told a (if_ready (desk_taken b t.pair.busy stamp c) t).notices κ).book.lives)
    heard_one stamp c t older ready placed less history allowed k =
        subst (λ (u : TurnState). CarryIn a b number (called (Hears stamp 0 c) t.pair t.listening ∷ older) u.pair.entries (drop n (all_told a u.notices κ).book.lives)) (sym is)
        (subst (λ (ls : List Life). CarryIn a b number (called (Hears stamp 0 c) t.pair t.listening ∷ older) (desk_taken b t.pair.busy stamp c (desk_of t.pair t.listening)).entries ls) (sym same)
        (call_more older (called (Hears stamp 0 c) t.pair t.listening) (drop n (all_told a t.notices κ).book.lives) history allowed (placed 0).2.refusing (allowed 2 refl).0.0 (placed_owned t placed) now k)) where
          new : TurnState
          new = with_desk t (desk_taken b t.pair.busy stamp c (desk_of t.pair t.listening))

          is : if_ready (desk_taken b t.pair.busy stamp c) t ≡ with_desk t (desk_taken b t.pair.busy stamp c (desk_of t.pair t.listening))
          is = rw ready refl

          same : drop n (all_told a (t.notices ++ (desk_taken b t.pair.busy stamp c (desk_of t.pair t.listening)).notices) κ).book.lives ≡ After a b (hears stamp c t.pair) (drop n (all_told a t.notices κ).book.lives)
          same = later_told t (Hears stamp 0 c) (desk_taken b t.pair.busy stamp c (desk_of t.pair t.listening)).notices refl (call_told a b t.pair t.listening (Hears stamp 0 c) tt) less

          now : AreOwned a b (desk_taken b t.pair.busy stamp c (desk_of t.pair t.listening)).entries (After a b (hears stamp c t.pair) (drop n (all_told a t.notices κ).book.lives))
          now = subst (λ (ls : List Life). AreOwned a b (desk_taken b t.pair.busy stamp c (desk_of t.pair t.listening)).entries ls) same
              (placed_owned (with_desk t (desk_taken b t.pair.busy stamp c (desk_of t.pair t.listening))) (subst (λ (u : TurnState). Placed u) is (placed_taken stamp c t placed)))

    -- ---- all orders of a message, one after the other

    ready_still : (work : DeskState → DeskState) (t : TurnState) → is_ready t.pair.phase ≡ true → is_ready (if_ready work t).pair.phase ≡ true
    ready_still work t ready = subst (λ (u : TurnState). is_ready u.pair.phase ≡ true) (sym is) ready where
      is : if_ready work t ≡ with_desk t (work (desk_of t.pair t.listening))
      is = rw ready refl

    later_more : (work : DeskState → DeskState) (t : TurnState) → is_ready t.pair.phase ≡ true → n ≤ length (all_told a t.notices κ).book.lives → n ≤ length (all_told a (if_ready work t).notices κ).book.lives
    later_more work t ready less = subst (λ (u : TurnState). n ≤ length (all_told a u.notices κ).book.lives) (sym is) here where
      is : if_ready work t ≡ with_desk t (work (desk_of t.pair t.listening))
      is = rw ready refl

      here : n ≤ length (all_told a (t.notices ++ (work (desk_of t.pair t.listening)).notices) κ).book.lives
      here =
          let ns : List Notice = (work (desk_of t.pair t.listening)).notices in
          let one : (all_told a (t.notices ++ ns) κ).book.lives ≡ all_lives a ns (all_told a t.notices κ).book.lives
          = ap (λ (k : Kept). k.book.lives) (all_told_append a t.notices ns κ) ∙ told_lives a ns (all_told a t.notices κ) in
          let more : length (all_told a t.notices κ).book.lives ≤ length (all_lives a ns (all_told a t.notices κ).book.lives) = all_longer a ns (all_told a t.notices κ).book.lives in
          let same : length (all_told a (t.notices ++ ns) κ).book.lives ≡ length (all_lives a ns (all_told a t.notices κ).book.lives) = ap length one in
          omega (arith, less, more, same)

    -- an error is only queued
    wrong_one : (c : Command) (t : TurnState) (older : List calls.Moment) → is_ready t.pair.phase ≡ true → CarryIn a b number older t.pair.entries (drop n (all_told a t.notices κ).book.lives)
        → CarryIn a b number older (if_ready (command_queued c) t).pair.entries (drop n (all_told a (if_ready (command_queued c) t).notices κ).book.lives)
    wrong_one c t older ready k =
        subst (λ (u : TurnState). CarryIn a b number older u.pair.entries (drop n (all_told a u.notices κ).book.lives)) (sym is)
        (subst (λ (ns : List Notice). CarryIn a b number older t.pair.entries (drop n (all_told a ns κ).book.lives)) (sym (append-nil t.notices)) k) where
          is : if_ready (command_queued c) t ≡ with_desk t (command_queued c (desk_of t.pair t.listening))
          is = rw ready refl

    -- what was before is a part of the history
    heard_history : (stamp : ℕ) (os : List Order) (t : TurnState) (older : List calls.Moment) → IsHistory b (orders_heard b stamp os t older) → IsHistory b older
    heard_history stamp [] t older h = h
    heard_history stamp (Legal c ∷ os) t older h = (heard_history stamp os (order_taken b stamp (Legal c) t) (called (Hears stamp 0 c) t.pair t.listening ∷ older) h).1
    heard_history stamp (Wrong code octets ∷ os) t older h = heard_history stamp os (order_taken b stamp (Wrong code octets) t) older h

    heard_allowed : (link stamp : ℕ) (os : List Order) (t : TurnState) (older : List calls.Moment) → AreAllowed number b link (orders_heard b stamp os t older) → AreAllowed number b link older
    heard_allowed link stamp [] t older h = h
    heard_allowed link stamp (Legal c ∷ os) t older h = (heard_allowed link stamp os (order_taken b stamp (Legal c) t) (called (Hears stamp 0 c) t.pair t.listening ∷ older) h).1
    heard_allowed link stamp (Wrong code octets ∷ os) t older h = heard_allowed link stamp os (order_taken b stamp (Wrong code octets) t) older h

    pub heard_all : (stamp : ℕ) (os : List Order) (t : TurnState) (older : List calls.Moment) → AreOrdinary os → is_ready t.pair.phase ≡ true → Placed t → n ≤ length (all_told a t.notices κ).book.lives
        → IsHistory b (orders_heard b stamp os t older) → AllAllowed (orders_heard b stamp os t older) → CarryIn a b number older t.pair.entries (drop n (all_told a t.notices κ).book.lives)
        → CarryIn a b number (orders_heard b stamp os t older) (orders_taken b stamp os t).pair.entries (drop n (all_told a (orders_taken b stamp os t).notices κ).book.lives)
    heard_all stamp [] t older o ready placed less history allowed k = k
    heard_all stamp (Legal c ∷ os) t older o ready placed less history allowed k =
        let is : command_taken b stamp c t ≡ if_ready (desk_taken b t.pair.busy stamp c) t = ordinary_is stamp c t o.0 in
        let m : calls.Moment = called (Hears stamp 0 c) t.pair t.listening in
        heard_all stamp os (order_taken b stamp (Legal c) t) (called (Hears stamp 0 c) t.pair t.listening ∷ older) o.1
        (subst (λ (u : TurnState). is_ready u.pair.phase ≡ true) (sym is) (ready_still (desk_taken b t.pair.busy stamp c) t ready))
        (subst (λ (u : TurnState). Placed u) (sym is) (placed_taken stamp c t placed))
        (subst (λ (u : TurnState). n ≤ length (all_told a u.notices κ).book.lives) (sym is) (later_more (desk_taken b t.pair.busy stamp c) t ready less))
        history allowed
        (subst (λ (u : TurnState). CarryIn a b number (called (Hears stamp 0 c) t.pair t.listening ∷ older) u.pair.entries (drop n (all_told a u.notices κ).book.lives)) (sym is)
        (heard_one stamp c t older ready placed less (heard_history stamp os (order_taken b stamp (Legal c) t) (called (Hears stamp 0 c) t.pair t.listening ∷ older) history)
        (λ link other. heard_allowed link stamp os (order_taken b stamp (Legal c) t) (called (Hears stamp 0 c) t.pair t.listening ∷ older) (allowed link other)) k))
    heard_all stamp (Wrong code octets ∷ os) t older o ready placed less history allowed k =
        heard_all stamp os (order_taken b stamp (Wrong code octets) t) older o.1 (ready_still (command_queued (error code octets)) t ready) (placed_wrong (error code octets) t placed) (later_more (command_queued (error code octets)) t ready less) history allowed
        (wrong_one (error code octets) t older ready k)

-- what is heard comes upon what was before
pub heard_onto : (b : Host) (stamp : ℕ) (os : List Order) (t : TurnState) (older base : List calls.Moment) → orders_heard b stamp os t older ++ base ≡ orders_heard b stamp os t (older ++ base)
heard_onto b stamp [] t older base = refl
heard_onto b stamp (Legal c ∷ os) t older base = heard_onto b stamp os (order_taken b stamp (Legal c) t) (called (Hears stamp 0 c) t.pair t.listening ∷ older) base
heard_onto b stamp (Wrong code octets ∷ os) t older base = heard_onto b stamp os (order_taken b stamp (Wrong code octets) t) older base
