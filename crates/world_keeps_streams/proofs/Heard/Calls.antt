-- How many CLS of a peer a host has heard since it dropped its ends: one in each connection that is gone, and that of the end which is there.
use Rattle.world_keeps_streams.proofs.Common.{◌≡◌, ℕ, suc, ◌==◌, ◌&&◌, Bool, true, false, if◌then◌else◌, List, [], ◌∷◌, ◌++◌, refl, ap, sym, subst, ◌∙◌, Host, Command, PairState, Entry, pair_with, HaveAddresses, Moment, event_in, events_of, program, crossings_of, keeps, mail_below, calls_by, own_calls, AreOurs, Network, Happened}
use Rattle.host_keeps_streams.specs.Histories.{AreAllowed, Hears, IsHistory, IsTelling, ends_now, gone_now, receiver_now, sender_now, Call}
use Rattle.host_keeps_streams.proofs.lemmas.{holds_now, Holds}
use Rattle.pair_keeps_streams.specs.Words.{heard_from, with_closing}
use Rattle.interface.specs.Mailboxes as mail
use Rattle.ncp_control.specs.declared.command.Command.TheVariants as command
use Rattle.host_keeps_streams.specs.Histories as calls
use Rattle.pair_keeps_streams.proofs.lemmas.{IsFirstCall, heard_more, heard_step}
use Rattle.world_keeps_streams.proofs.Calls.Allowed.{may_calls}
use Rattle.world_keeps_streams.proofs.Calls.Chain.{Chained, chain}
use Rattle.world_keeps_streams.proofs.Calls.May.{AllMay, MayCall}

-- one more, where the call hears a CLS of these sockets, the peer's first
abbrev pub closes_by : Call → ℕ → ℕ → ℕ → ℕ
closes_by (Hears stamp said (command.Cls theirs mine)) foreign own n = if foreign == theirs && own == mine then suc n else n
closes_by k foreign own n = n

abbrev pub closes_in : ℕ → ℕ → List calls.Moment → ℕ
closes_in foreign own [] = 0
closes_in foreign own (m ∷ ms) = closes_by m.call foreign own (closes_in foreign own ms)

more_heard : (stamp said : ℕ) (c : Command) (n : ℕ → ℕ → ℕ) (x y : ℕ) → with_closing c n x y ≡ closes_by (Hears stamp said c) x y (n x y)
more_heard stamp said (command.Cls a b) n x y = refl
more_heard stamp said c n x y = refl

more_by : (k : Call) (n : ℕ → ℕ → ℕ) (x y : ℕ) → heard_more k n x y ≡ closes_by k x y (n x y)
more_by (Hears stamp said c) n x y = more_heard stamp said c n x y
more_by k n x y = refl

first_of : (k : Call) (q : PairState) → MayCall k q → IsFirstCall k q.entries
first_of (Hears stamp said c) q m = m.2
first_of k q m = tt

module _ (number : ℕ → ℕ → ℕ → ℕ) (tells : IsTelling number) (peer : Host) (link : ℕ) (foreign own : ℕ) where
  pub history_heard : (ms : List calls.Moment) → IsHistory peer ms → AreAllowed number peer link ms → AllMay ms → closes_in foreign own ms ≡ heard_from (gone_now peer ms) (ends_now peer ms) foreign own
  history_heard [] i a m = refl
  history_heard (m ∷ ms) i a may =
      let before : Holds number tells link (gone_now peer ms) m.pair.entries (receiver_now number peer link ms) (sender_now number peer link ms)
      = subst (λ (es : List Entry). Holds number tells link (gone_now peer ms) es (receiver_now number peer link ms) (sender_now number peer link ms)) (sym i.0) (holds_now number tells peer link ms i.1 a.1) in
      let old : closes_in foreign own ms ≡ heard_from (gone_now peer ms) m.pair.entries foreign own
      = history_heard ms i.1 a.1 may.1 ∙ ap (λ (es : List Entry). heard_from (gone_now peer ms) es foreign own) (sym i.0) in
      ap (λ (n : ℕ). closes_by m.call foreign own n) old
      ∙ sym (more_by m.call (heard_from (gone_now peer ms) m.pair.entries) foreign own)
      ∙ sym (heard_step number tells link (gone_now peer ms) peer m.pair m.listening (receiver_now number peer link ms) (sender_now number peer link ms) before m.call (first_of m.call m.pair may.0) foreign own)

-- ---- all calls of a host might be made

all_may : (xs ys : List calls.Moment) → AllMay xs → AllMay ys → AllMay (xs ++ ys)
all_may [] ys m n = n
all_may (x ∷ xs) ys m n = (m.0, all_may xs ys m.1 n)

pub own_may : (hosts : Network) → HaveAddresses hosts.all → (moments : List Moment) → mail.IsRun hosts.all (crossings_of moments) → Happened hosts moments → (a b : Host) → AreOurs hosts a b → AllMay (own_calls a b moments)
own_may hosts addresses [] run time a b ours = tt
own_may hosts addresses (x ∷ moments) run time a b ours = by (own_may hosts addresses moments (mail_below hosts.all x moments run) time.1 a b ours) (keeps a b (event_in x) (events_of moments)) where
  by : AllMay (own_calls a b moments) → (k : Bool) → AllMay (if k then calls_by a b x moments ++ own_calls a b moments else [])
  by old true = all_may (calls_by a b x moments) (own_calls a b moments) (may_calls hosts addresses x moments run time a b ours) old
  by old false = tt

-- so a host has heard as many as it has seen connections go, and one more where the end that is there heard one
pub heard_calls : (number : ℕ → ℕ → ℕ → ℕ) → IsTelling number → (link : ℕ) (hosts : Network) → HaveAddresses hosts.all → (moments : List Moment) → mail.IsRun hosts.all (crossings_of moments) → Happened hosts moments → (a b : Host) → AreOurs hosts a b
    → AreAllowed number b link (own_calls a b moments) → (foreign own : ℕ) → closes_in foreign own (own_calls a b moments) ≡ heard_from (gone_now b (own_calls a b moments)) (pair_with b (program a moments).peers).entries foreign own
heard_calls number tells link hosts addresses moments run time a b ours allowed foreign own =
    let c : Chained a b moments = chain hosts addresses moments run time a b ours in
    history_heard number tells b link foreign own (own_calls a b moments) c.0 allowed (own_may hosts addresses moments run time a b ours)
    ∙ ap (λ (es : List Entry). heard_from (gone_now b (own_calls a b moments)) es foreign own) c.1
