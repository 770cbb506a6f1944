-- How an event of a world with strangers ends.
use Rattle.net_sim.proofs.Common.{◌≡◌, Bool, true, false, List, refl, MatchBool, Calls, Host, is_host, HostMessage, WorldState, WorldFault, EventGives, Refuses}
use Rattle.std.proofs.Common.{Result}
use Rattle.net_sim.specs.Inside.Held.{among_after, among_of}
use Rattle.net_sim.specs.Inside.Parts.{HostsState, world_after, world_of}
use Rattle.net_sim.specs.Steps.{AskedGives, FetchGives, AmongGives, OutGives, asked_at, is_strange}
use Rattle.net_sim.specs.World.{NoProgram, Event, Out, Take}
use Rattle.net_sim.proofs.Hosts.Anyone.{event_among, fetch_among, out_among}

abbrev Answer : Type 0
Answer = Result (Unit {0}) WorldFault

on : (P Q : Type 0) (b : Bool) → b ≡ true → P → MatchBool b P Q
on P Q true is p = p
on P Q false is p = absurd (let no : false ≡ true = is in cc)

off : (P Q : Type 0) (b : Bool) → b ≡ false → Q → MatchBool b P Q
off P Q true is q = absurd (let no : true ≡ false = is in cc)
off P Q false is q = q

module _ {C : Type 0} (calls : Calls C) (xs : List Host) (c0 c1 : C) (h0 h1 : HostsState) (r : Answer) where
  abbrev old : WorldState C
  old = among_of c0 h0 xs

  abbrev new : WorldState C
  new = among_after c1 h1 xs r

  -- as where there are no strangers
  plain : (e : Event) → EventGives calls (world_of c0 h0) e r (world_after c1 h1 r) → EventGives calls old e r new
  plain e g = event_among calls xs e (world_of c0 h0) r (world_after c1 h1 r) g

  pub take_strange : (h : Host) → is_host xs h ≡ true → FetchGives calls h (world_of c0 h0) r (world_after c1 h1 r) → AmongGives calls old (Take h) r new
  take_strange h is_one g =
      on (FetchGives calls h old r new) (EventGives calls old (Take h) r new) (is_host xs h) is_one
      (fetch_among calls xs h (world_of c0 h0) r (world_after c1 h1 r) g)

  pub take_plain : (h : Host) → is_host xs h ≡ false → EventGives calls (world_of c0 h0) (Take h) r (world_after c1 h1 r) → AmongGives calls old (Take h) r new
  take_plain h is_none g = off (FetchGives calls h old r new) (EventGives calls old (Take h) r new) (is_host xs h) is_none (plain (Take h) g)

  pub ask_plain : (e : Event) → is_strange (λ h. is_host xs h) (asked_at e) ≡ false → EventGives calls (world_of c0 h0) e r (world_after c1 h1 r) → AskedGives calls old e r new
  ask_plain e is_none g = off (Refuses NoProgram old r new) (EventGives calls old e r new) (is_strange (λ h. is_host xs h) (asked_at e)) is_none (plain e g)

  -- all else
  pub asks : (e : Event) → ((m : HostMessage) → e ≡ Out m → ⊥) → ((h : Host) → e ≡ Take h → ⊥) → AskedGives calls old e r new → AmongGives calls old e r new
  asks (Out m) no_out no_take g = absurd (no_out m refl)
  asks (Take h) no_out no_take g = absurd (no_take h refl)
  asks e no_out no_take g = g

  pub says_strange : (m : HostMessage) → is_host xs m.flow.source ≡ true → OutGives calls m (world_of c0 h0) r (world_after c1 h1 r) → AmongGives calls old (Out m) r new
  says_strange m is_one g =
      on (OutGives calls m old r new) (EventGives calls old (Out m) r new) (is_host xs m.flow.source) is_one
      (out_among calls xs m (world_of c0 h0) r (world_after c1 h1 r) g)

  pub says_plain : (m : HostMessage) → is_host xs m.flow.source ≡ false → EventGives calls (world_of c0 h0) (Out m) r (world_after c1 h1 r) → AmongGives calls old (Out m) r new
  says_plain m is_none g = off (OutGives calls m old r new) (EventGives calls old (Out m) r new) (is_host xs m.flow.source) is_none (plain (Out m) g)
