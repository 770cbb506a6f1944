-- The lives of a host with one peer, over all commands that go out to it in one message.
use Rattle.world_keeps_streams.proofs.Common.{Host, IsCommand, Command, End, Ask, Mark, Stand, Standing, at, standing, mark_of, marks, AreCommands, DeskState, desk_of, listens_on, entry_at, PairState, command_gone, commands_gone, with_connections, Entry, Listener, Notice, AreAllowed, IsHistory, IsTelling, Says, Kept, all_told}
use Rattle.std.proofs.Common.{◌≡◌, inl, inr, ℕ, ◌≤◌, ◌==◌, ◌&&◌, Bool, true, if◌then◌else◌, List, [], ◌∷◌, ◌++◌, drop, length, Some, None, refl, ap, sym, subst, ◌∙◌, eq-eqb, arith, append-nil}
use Rattle.host_keeps_pairing.proofs.lemmas.{found_at, marks_append, one_gone, Found}
use Rattle.world_keeps_lives.proofs.lemmas.{IsOfTwo, Place, all_told_append, G, Waits, all_go, unasked_by}
use Rattle.world_keeps_streams.specs.Calls.{commands_said, called}
use Rattle.ncp_control.specs.declared.command.Command.TheVariants as command
use Rattle.host_keeps_streams.specs.Histories as calls
use Rattle.promise.specs.declared.life.Life.{Life}
use Rattle.world_keeps_streams.proofs.Deeds.Effects.{all_lives}
use Rattle.world_keeps_streams.proofs.Deeds.Kinds.{says}
use Rattle.world_keeps_streams.proofs.Deeds.Told.{After, call_told}
use Rattle.world_keeps_streams.proofs.Deeds.Ends.{Unasked}
use Rattle.world_keeps_streams.proofs.Carried.Step.{AreOwned}
use Rattle.world_keeps_streams.proofs.Carried.Calls.{CarryIn}
use Rattle.world_keeps_streams.proofs.Carried.Owned.{IsAway, after_dropped, all_longer, owned_dropped, owned_of, told_lives}
use Rattle.world_keeps_streams.proofs.Carried.Heard.{AllAllowed, call_more}

unasked : (origin : ℕ → ℕ) (own foreign : ℕ) (entries : List Entry) (words : List Mark) (x : End) (e : Entry) → Stand true origin 0 (at own foreign entries) ((if own == own && foreign == foreign then Ask 0 ∷ [] else []) ++ words) x → entry_at own foreign entries ≡ Some e → e.asked ≡ None
unasked origin own foreign entries words x e h f =
    let same : (own == own && foreign == foreign) ≡ true = rw (eq-eqb own own refl, eq-eqb foreign foreign refl) refl in
    let there : Stand true origin 0 (at own foreign entries) (Ask 0 ∷ words) x = subst (λ (b : Bool). Stand true origin 0 (at own foreign entries) ((if b then Ask 0 ∷ [] else []) ++ words) x) same h in
    let g : Found own foreign entries e = found_at own foreign entries e f in
    unasked_by origin (standing e) g.rest words x (subst (λ (ss : List Standing). Stand true origin 0 ss (Ask 0 ∷ words) x) g.first there)

module _ (number : ℕ → ℕ → ℕ → ℕ) (tells : IsTelling number) (a b : Host) (κ : Kept) (n : ℕ) (origin : ℕ → ℕ) (stamp : ℕ) where
  all_marks : (c : Command) (cs behind : List Command) (d : List Entry) → Waits origin d (c ∷ cs) behind → (own foreign : ℕ) → IsOfTwo own foreign
      → (x : End) × Stand true origin 0 (at own foreign d) (mark_of 0 own foreign c ++ marks 0 own foreign (cs ++ behind)) x
  all_marks c cs behind d w own foreign two =
      let s : (x : End) × Stand true origin 0 (at own foreign d) (marks 0 own foreign (c ∷ cs) ++ marks 0 own foreign behind) x = w own foreign two in
      (s.0, subst (λ (l : List Mark). Stand true origin 0 (at own foreign d) l s.0) (sym (marks_append 0 own foreign (c ∷ cs) behind)) s.1)

  says_once : (c : Command) (cs behind : List Command) (es : List Entry) → IsCommand c → Waits origin es (c ∷ cs) behind → Unasked c es
  says_once (command.Rts receive send link) cs behind es is w = λ e f.
      let s : (x : End) × _ = all_marks (command.Rts receive send link) cs behind es w receive send (inl (is.1, is.3)) in
      unasked origin receive send es (marks 0 receive send (cs ++ behind)) s.0 e s.1 f
  says_once (command.Str send receive size) cs behind es is w = λ e f.
      let s : (x : End) × _ = all_marks (command.Str send receive size) cs behind es w send receive (inr (is.1, is.3)) in
      unasked origin send receive es (marks 0 send receive (cs ++ behind)) s.0 e s.1 f
  says_once c cs behind es is w = tt

  -- ---- one command goes out

  abbrev Desk : PairState → List Listener → List Notice → DeskState
  Desk q listening ns = record { entries = q.entries; queue = q.queue; listening = listening; notices = ns }

  abbrev Next : Command → PairState → List Listener → PairState
  Next c q listening = with_connections q (command_gone b stamp c (desk_of q listening))

  gone_same : (c : Command) (q : PairState) (listening : List Listener) (ns : List Notice) → command_gone b stamp c (Desk q listening ns) ≡ Desk (Next c q listening) listening (ns ++ (command_gone b stamp c (desk_of q listening)).notices)
  gone_same (command.Rts receive send link) q listening ns = refl
  gone_same (command.Str send receive size) q listening ns = refl
  gone_same (command.Cls own foreign) q listening ns = refl
  gone_same c q listening ns = ap (λ (xs : List Notice). Desk q listening xs) (sym (append-nil ns))

  -- at each socket of the host
  abbrev pub PlacedAt : DeskState → Type 0
  PlacedAt d = (k : ℕ) → (m : Place) × IsAway b m × G a k m b κ d

  placed_owned : (d : DeskState) → PlacedAt d → AreOwned a b d.entries (drop n (all_told a d.notices κ).book.lives)
  placed_owned d p =
      owned_dropped a b d.entries n (all_told a d.notices κ).book.lives
      (owned_of a b d.entries (all_told a d.notices κ) (λ k. listens_on k d.listening) (λ k. ((p k).0, (p k).1, (p k).2.on)))

  placed_gone : (c : Command) (cs behind : List Command) (d : DeskState) → IsCommand c → Waits origin d.entries (c ∷ cs) behind → PlacedAt d → PlacedAt (command_gone b stamp c d)
  placed_gone c cs behind d is w p k = (
    (p k).0,
    (p k).1,
    all_go a k (p k).0 b κ origin stamp (c ∷ []) (cs ++ behind) d (is, tt)
        (λ own foreign two. let s : (x : End) × Stand true origin 0 (at own foreign d.entries) (mark_of 0 own foreign c ++ marks 0 own foreign (cs ++ behind)) x = all_marks c cs behind d.entries w own foreign two in
        (s.0, subst (λ (l : List Mark). Stand true origin 0 (at own foreign d.entries) l s.0) (marks_append 0 own foreign (c ∷ []) (cs ++ behind)) s.1))
        (p k).2,
  )

  waits_gone : (c : Command) (cs behind : List Command) (d : DeskState) → Waits origin d.entries (c ∷ cs) behind → Waits origin (command_gone b stamp c d).entries cs behind
  waits_gone c cs behind d w own foreign two =
      let s : (x : End) × Stand true origin 0 (at own foreign d.entries) (mark_of 0 own foreign c ++ marks 0 own foreign (cs ++ behind)) x = all_marks c cs behind d.entries w own foreign two in
      let t : Stand true origin 0 (at own foreign d.entries) (mark_of 0 own foreign c ++ (marks 0 own foreign cs ++ marks 0 own foreign behind)) s.0
      = subst (λ (l : List Mark). Stand true origin 0 (at own foreign d.entries) (mark_of 0 own foreign c ++ l) s.0) (marks_append 0 own foreign cs behind) s.1 in
      (_, one_gone origin own foreign 0 b stamp c d (marks 0 own foreign cs ++ marks 0 own foreign behind) s.0 t)

  later_lives : (ns ms : List Notice) → (all_told a (ns ++ ms) κ).book.lives ≡ all_lives a ms (all_told a ns κ).book.lives
  later_lives ns ms = ap (λ (k : Kept). k.book.lives) (all_told_append a ns ms κ) ∙ told_lives a ms (all_told a ns κ)

  said_history : (cs : List Command) (q : PairState) (listening : List Listener) (older : List calls.Moment) → IsHistory b (commands_said b stamp cs q listening older) → IsHistory b older
  said_history [] q listening older h = h
  said_history (c ∷ cs) q listening older h = (said_history cs (Next c q listening) listening (called (Says stamp c) q listening ∷ older) h).1

  said_allowed : (link : ℕ) (cs : List Command) (q : PairState) (listening : List Listener) (older : List calls.Moment) → AreAllowed number b link (commands_said b stamp cs q listening older) → AreAllowed number b link older
  said_allowed link [] q listening older h = h
  said_allowed link (c ∷ cs) q listening older h = (said_allowed link cs (Next c q listening) listening (called (Says stamp c) q listening ∷ older) h).1

  said_one : (c : Command) (cs behind : List Command) (q : PairState) (listening : List Listener) (ns : List Notice) (older : List calls.Moment) → IsCommand c → Waits origin q.entries (c ∷ cs) behind → PlacedAt (Desk q listening ns)
      → PlacedAt (Desk (Next c q listening) listening (ns ++ (command_gone b stamp c (desk_of q listening)).notices)) → n ≤ length (all_told a ns κ).book.lives
      → IsHistory b (called (Says stamp c) q listening ∷ older) → AllAllowed number tells a b (called (Says stamp c) q listening ∷ older) → CarryIn a b number older q.entries (drop n (all_told a ns κ).book.lives)
      → CarryIn a b number (called (Says stamp c) q listening ∷ older) (Next c q listening).entries (drop n (all_told a (ns ++ (command_gone b stamp c (desk_of q listening)).notices) κ).book.lives)
  said_one c cs behind q listening ns older is w placed placed_next less history allowed k =
      subst (λ (ls : List Life). CarryIn a b number (called (Says stamp c) q listening ∷ older) (Next c q listening).entries ls) (sym same)
      (call_more number tells a b older (called (Says stamp c) q listening) (drop n (all_told a ns κ).book.lives) history allowed (placed 0).2.refusing (says_once c cs behind q.entries is w) (placed_owned (Desk q listening ns) placed)
      (subst (λ (ls : List Life). AreOwned a b (Next c q listening).entries ls) same (placed_owned (Desk (Next c q listening) listening (ns ++ (command_gone b stamp c (desk_of q listening)).notices)) placed_next)) k) where
        same : drop n (all_told a (ns ++ (command_gone b stamp c (desk_of q listening)).notices) κ).book.lives ≡ After a b (says stamp c q) (drop n (all_told a ns κ).book.lives)
        same = ap (λ (ls : List Life). drop n ls) (later_lives ns (command_gone b stamp c (desk_of q listening)).notices ∙ call_told a b q listening (Says stamp c) tt (all_told a ns κ).book.lives) ∙ after_dropped a b (says stamp c q) n (all_told a ns κ).book.lives less

  pub said_all : (cs behind : List Command) (q : PairState) (listening : List Listener) (ns : List Notice) (older : List calls.Moment) → AreCommands cs → Waits origin q.entries cs behind → PlacedAt (Desk q listening ns) → n ≤ length (all_told a ns κ).book.lives
      → IsHistory b (commands_said b stamp cs q listening older) → AllAllowed number tells a b (commands_said b stamp cs q listening older) → CarryIn a b number older q.entries (drop n (all_told a ns κ).book.lives)
      → CarryIn a b number (commands_said b stamp cs q listening older) (commands_gone b stamp cs (Desk q listening ns)).entries (drop n (all_told a (commands_gone b stamp cs (Desk q listening ns)).notices κ).book.lives)
  said_all [] behind q listening ns older are w placed less history allowed k = k
  said_all (c ∷ cs) behind q listening ns older are w placed less history allowed k =
      let ms : List Notice = (command_gone b stamp c (desk_of q listening)).notices in
      let is : command_gone b stamp c (Desk q listening ns) ≡ Desk (Next c q listening) listening (ns ++ (command_gone b stamp c (desk_of q listening)).notices) = gone_same c q listening ns in
      let placed_next : PlacedAt (Desk (Next c q listening) listening (ns ++ (command_gone b stamp c (desk_of q listening)).notices)) = subst (λ (d : DeskState). PlacedAt d) is (placed_gone c cs behind (Desk q listening ns) are.0 w placed) in
      let w_next : Waits origin (Next c q listening).entries cs behind = subst (λ (d : DeskState). Waits origin d.entries cs behind) is (waits_gone c cs behind (Desk q listening ns) w) in
      let grows : length (all_told a ns κ).book.lives ≤ length (all_lives a (command_gone b stamp c (desk_of q listening)).notices (all_told a ns κ).book.lives) = all_longer a (command_gone b stamp c (desk_of q listening)).notices (all_told a ns κ).book.lives in
      let same : length (all_told a (ns ++ (command_gone b stamp c (desk_of q listening)).notices) κ).book.lives ≡ length (all_lives a (command_gone b stamp c (desk_of q listening)).notices (all_told a ns κ).book.lives) = ap length (later_lives ns (command_gone b stamp c (desk_of q listening)).notices) in
      let less_next : n ≤ length (all_told a (ns ++ (command_gone b stamp c (desk_of q listening)).notices) κ).book.lives = omega (arith, less, grows, same) in
      subst (λ (d : DeskState). CarryIn a b number (commands_said b stamp cs (Next c q listening) listening (called (Says stamp c) q listening ∷ older)) (commands_gone b stamp cs d).entries (drop n (all_told a (commands_gone b stamp cs d).notices κ).book.lives)) (sym is)
      (said_all cs behind (Next c q listening) listening (ns ++ (command_gone b stamp c (desk_of q listening)).notices) (called (Says stamp c) q listening ∷ older) are.1 w_next placed_next less_next history allowed
      (said_one c cs behind q listening ns older are.0 w placed placed_next less (said_history cs (Next c q listening) listening (called (Says stamp c) q listening ∷ older) history)
      (λ link other. said_allowed link cs (Next c q listening) listening (called (Says stamp c) q listening ∷ older) (allowed link other)) k))
