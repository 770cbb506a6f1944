-- The RTS of an end that receives named its link in the message that went out at its place, whatever its peer sends.
use Rattle.mixed_worlds.proofs.Common.{◌≡◌, inl, inr, ℕ, Bool, true, false, if◌then◌else◌, List, [], ◌∷◌, map, take, Option, Some, None, refl, ap, sym, subst, ◌∙◌, Contains, Host, same_host, Crossing, HostMessage, same_host-true, is_receive_socket, Command, Legal, Order, orders_of, Entry, control_flow, accepted, NcpState, opening_state, pair_with, served, offered, Asked, Crossed, Moment, places, program, crossings_of, places_same, IsMixed, even_odd, same_Some}
use Rattle.promise.specs.Formed.{CrossedAt, HasCrossed, going}
use Rattle.sockets.proofs.lemmas.{message_leaves}
use Rattle.world_keeps_lives.proofs.lemmas.{Begins, Each, Ends, Goes, Hears, Quiet, each_weaker}
use Rattle.mixed_worlds.proofs.Moments.{Orders, Says, older, ordered}
use Rattle.std.proofs.lemmas.List.Elements.{All-contains, All-head, All-nil, All-tail, All-take}
use Rattle.std.specs.Prelude.{All}
use Rattle.interface.specs.declared.crossing.Crossing.TheVariants as crossing
use Rattle.interface.specs.declared.crossing.Inbound.TheVariants as inbound
use Rattle.ncp_control.specs.declared.command.Command.TheVariants as command
use Rattle.mixed_worlds.proofs.Asked.{read_at}
use Rattle.mixed_worlds.proofs.EndMoments.{Moved, moved_ends, own_out}
use Rattle.mixed_worlds.proofs.Sockets.{fit, own_request}
use Rattle.mixed_worlds.proofs.Steps.{message_step}
use Rattle.mixed_worlds.proofs.Waiting.{AreSound, DeskFits, Fits, PairFits, answer_fits, keeps_fit, offer_fits}
use Rattle.mixed_worlds.proofs.Waiting.{request_fits, steps}

-- ---- what waits, at each moment

module _ (orders : Orders) (strange : Host → Bool) (hosts : List Host) (a : Host) (off : strange a ≡ false) where
  if_fits : (p : Host) (b : Bool) (t old : NcpState) → (b ≡ true → PairFits (pair_with p t.peers))
      → PairFits (pair_with p old.peers) → PairFits (pair_with p (if b then t else old).peers)
  if_fits p true t old now k = now refl
  if_fits p false t old now k = k

  pub fitting : (moments : List Moment) → IsMixed strange hosts moments → (p : Host)
      → PairFits (pair_with p (program a moments).peers)
  fitting [] mixed p = All-nil (λ e. All (Fits e) [])
  fitting (x ∷ moments) mixed p = by x mixed (fitting moments below p) where
    below : IsMixed strange hosts moments
    below = older orders strange hosts x moments mixed

    sound : AreSound (program a moments)
    sound = (fit strange hosts a off moments below).ends

    by : (x : Moment) → IsMixed strange hosts (x ∷ moments) → PairFits (pair_with p (program a moments).peers)
        → PairFits (pair_with p (program a (x ∷ moments)).peers)
    by (Crossed (crossing.Out m)) mixed old = if_fits p (same_host a m.flow.source)
        (offered (program a moments) (places moments)).0 (program a moments)
        (λ e.
        (let out : Says (program a moments) m = own_out orders strange hosts a off m moments mixed
        (same_host-true a m.flow.source e) in
        offer_fits (program a moments) (places moments) out.peer out.parcel p
        (ordered orders strange hosts a moments off below) out.next old)) old
    by (Crossed (crossing.In m)) mixed old = if_fits p (same_host a m.flow.destination)
        (accepted (program a moments) (inbound.Message m) (places moments)).0 (program a moments)
        (λ e. at (same_host p m.flow.source) refl) old where
          at : (b : Bool) → same_host p m.flow.source ≡ b
              → PairFits (pair_with p (accepted (program a moments) (inbound.Message m) (places moments)).0.peers)
          at true f =
              subst
              (λ (h : Host). PairFits (pair_with h
              (accepted (program a moments) (inbound.Message m) (places moments)).0.peers))
              (sym (same_host-true p m.flow.source f))
              (message_step (program a moments) m (places moments) DeskFits (steps m.flow.source (places moments))
              (λ own foreign. sound own foreign m.flow.source)
              (subst (λ (h : Host). PairFits (pair_with h (program a moments).peers))
              (same_host-true p m.flow.source f) old))
          at false f = subst PairFits (sym (message_leaves (program a moments) m (places moments) p f)) old
    by (Crossed (crossing.Answer kind f)) mixed old = if_fits p (same_host a f.source)
        (accepted (program a moments) (inbound.Answer kind f) (places moments)).0 (program a moments)
        (λ e. answer_fits (program a moments) kind f (places moments) p old) old
    by (Crossed (crossing.Down g)) mixed old = if_fits p (same_host a g) (opening_state a) (program a moments)
        (λ e. All-nil (λ x. All (Fits x) [])) old
    by (Crossed (crossing.Up g)) mixed old = if_fits p (same_host a g) (opening_state a) (program a moments)
        (λ e. All-nil (λ x. All (Fits x) [])) old
    by (Asked g r) mixed old = if_fits p (same_host a g) (served (program a moments) r) (program a moments)
        (λ e. request_fits (program a moments) r p (own_request strange hosts a off g r moments mixed e).2 sound
        old) old

-- ---- the RTS that went out

module _ (h p : Host) (log : List Crossing) where
  -- an RTS for two sockets went out, and names this link
  pub record Said (own foreign a : ℕ) (link : Option ℕ) : Type 0 where
    pub number : ℕ
    pub is : link ≡ Some number
    pub crossed : HasCrossed going h p a (command.Rts own foreign number) log

  abbrev pub HasSaid : Entry → Type 0
  HasSaid e = is_receive_socket e.own ≡ true → (a : ℕ) → e.asked ≡ Some a → Said e.own e.foreign a e.link

  said_as : (e f : Entry) (a : ℕ) → f.own ≡ e.own → f.foreign ≡ e.foreign → f.link ≡ e.link
      → Said e.own e.foreign a e.link → Said f.own f.foreign a f.link
  said_as e f a own foreign link w = record {
    number = w.number;
    is = link ∙ w.is;
    crossed = subst (λ (n : ℕ). HasCrossed going h p a (command.Rts n f.foreign w.number) log) (sym own)
        (subst (λ (n : ℕ). HasCrossed going h p a (command.Rts e.own n w.number) log) (sym foreign) w.crossed);
  }

  said_quiet : (e f : Entry) → Quiet e f → HasSaid e → HasSaid f
  said_quiet e f q i = λ even a is. said_as e f a q.own q.foreign q.link
      (i (ap is_receive_socket (sym q.own) ∙ even) a (sym q.asked ∙ is))

  begins : Begins HasSaid
  begins = record {
    fresh = λ e mine asked partner. (λ even a is. absurd (let clash : None ≡ Some a = sym asked ∙ is in cc));
    refused = λ own foreign stamp. (λ even a is. absurd (let clash : None ≡ Some a = is in cc));
  }

  hears : (stamp : ℕ) (os : List Order) → Hears HasSaid stamp os
  hears stamp os = record {
    begins = begins;
    rts = λ own foreign link e there even odd o f i.
        (λ receives a is. absurd (even_odd own (ap is_receive_socket (sym o) ∙ receives) odd));
    str = λ own foreign size e there odd even o f i. i;
  }

  -- with what waits beside it
  abbrev Going : List Command → Entry → Type 0
  Going queue e = HasSaid e × All (Fits e) queue

  going_quiet : (queue : List Command) (e f : Entry) → Quiet e f → Going queue e → Going queue f
  going_quiet queue e f q i = (
    said_quiet e f q i.0,
    keeps_fit e f queue (record { own = q.own; foreign = q.foreign; link = λ even. q.link }) i.1,
  )

  goes : (m : HostMessage) (stamp n : ℕ) (queue : List Command) → m.flow ≡ control_flow h p
      → CrossedAt stamp (going m) log → orders_of m.text ≡ map Legal (take n queue)
      → Goes (Going queue) stamp (take n queue)
  goes m stamp n queue flow crossed reads = record {
    rts = λ own foreign link e there even o f i.
        ((λ receives a is. says own foreign link e there o f i.1 receives a (same_Some stamp a is)), i.1);
    str = λ own foreign size e there odd o f i.
        ((λ receives a is. absurd (even_odd own (ap is_receive_socket (sym o) ∙ receives) odd)), i.1);
  } where
    says : (own foreign link : ℕ) (e : Entry) → Contains (take n queue) (command.Rts own foreign link) → e.own ≡ own
        → e.foreign ≡ foreign → All (Fits e) queue → is_receive_socket e.own ≡ true → (a : ℕ) → stamp ≡ a
        → Said e.own e.foreign a e.link
    says own foreign link e there o f fits receives a at =
        let same : command.Rts own foreign link ≡ command.Rts e.own e.foreign link =
        ap (λ (k : ℕ). command.Rts k foreign link) (sym o) ∙ ap (λ (k : ℕ). command.Rts e.own k link) (sym f) in
        record {
          number = link;
          is = All-contains (Fits e) (take n queue) (command.Rts own foreign link) (All-take (Fits e) n queue fits)
              there link same receives;
          crossed = subst
              (λ (place : ℕ). HasCrossed going h p place (command.Rts e.own e.foreign link) log) at (record {
                message = m;
                flow = flow;
                crossed = crossed;
                holds = subst (λ (d : Command). Contains (orders_of m.text) (Legal d)) same
                    (subst (λ (os : List Order). Contains os (Legal (command.Rts own foreign link))) (sym reads)
                    (read_at (take n queue) (command.Rts own foreign link) there.0 there.1 there.2));
              });
        }

pub said_still : (h p : Host) (d : Crossing) (log : List Crossing) (own foreign a : ℕ) (link : Option ℕ)
    → Said h p log own foreign a link → Said h p (d ∷ log) own foreign a link
said_still h p d log own foreign a link w = record {
  number = w.number;
  is = w.is;
  crossed = record
      { message = w.crossed.message; flow = w.crossed.flow; crossed = inr w.crossed.crossed; holds = w.crossed.holds };
}

-- a fact of each end beside one of all of them
each_beside : (P : Entry → Type 0) (Q : Entry → Type 0) (es : List Entry) → All Q es → Each P es
    → Each (λ e. P e × Q e) es
each_beside P Q es all each = each_pair es each all where
  each_pair : (xs : List Entry) → Each P xs → All Q xs → Each (λ e. P e × Q e) xs
  each_pair [] k h = tt
  each_pair (x ∷ xs) k h = ((k.0, All-head Q x xs h), each_pair xs k.1 (All-tail Q x xs h))

module _ (orders : Orders) (strange : Host → Bool) (hosts : List Host) (a : Host) (off : strange a ≡ false) where
  pub said : (moments : List Moment) → IsMixed strange hosts moments → (p : Host)
      → Ends (HasSaid a p (crossings_of moments)) p (program a moments)
  said [] mixed p = tt
  said (x ∷ moments) mixed p = by x mixed (said moments (older orders strange hosts x moments mixed) p) where
    below : IsMixed strange hosts moments
    below = older orders strange hosts x moments mixed

    queue : List Command
    queue = (pair_with p (program a moments).peers).queue

    grown : (y : Moment) → Ends (HasSaid a p (crossings_of moments)) p (program a moments)
        → Ends (HasSaid a p (crossings_of (y ∷ moments))) p (program a moments)
    grown (Asked g r) old = old
    grown (Crossed c) old = each_weaker (HasSaid a p (crossings_of moments)) (HasSaid a p (c ∷ crossings_of moments))
        (pair_with p (program a moments).peers).entries
        (λ e i even b is. said_still a p c (crossings_of moments) e.own e.foreign b e.link (i even b is)) old

    moved_so : (y : Moment) → IsMixed strange hosts (y ∷ moments)
        → Moved orders strange hosts a off p moments (HasSaid a p (crossings_of (y ∷ moments))) y
        → Ends (HasSaid a p (crossings_of moments)) p (program a moments)
        → Ends (HasSaid a p (crossings_of (y ∷ moments))) p (program a (y ∷ moments))
    moved_so y mixed moved old =
        moved_ends orders strange hosts a off p moments (HasSaid a p (crossings_of (y ∷ moments)))
        (said_quiet a p (crossings_of (y ∷ moments))) y mixed moved (grown y old)

    by : (y : Moment) → IsMixed strange hosts (y ∷ moments)
        → Ends (HasSaid a p (crossings_of moments)) p (program a moments)
        → Ends (HasSaid a p (crossings_of (y ∷ moments))) p (program a (y ∷ moments))
    by (Crossed (crossing.Out m)) mixed old =
        each_weaker (Going a p log queue) (HasSaid a p log)
        (pair_with p (program a (Crossed (crossing.Out m) ∷ moments)).peers).entries (λ e i. i.0)
        (moved_ends orders strange hosts a off p moments (Going a p log queue) (going_quiet a p log queue)
        (Crossed (crossing.Out m)) mixed
        (λ flow n reads. goes a p log m (places moments) n queue flow (inl (refl, places_same moments)) reads)
        (each_beside (HasSaid a p log) (λ e. All (Fits e) queue) (pair_with p (program a moments).peers).entries
        (fitting orders strange hosts a off moments below p) (grown (Crossed (crossing.Out m)) old))) where
          log : List Crossing
          log = crossing.Out m ∷ crossings_of moments
    by (Crossed (crossing.In m)) mixed old = moved_so (Crossed (crossing.In m)) mixed
        (λ flow. hears a p (crossing.In m ∷ crossings_of moments) (places moments) (orders_of m.text)) old
    by (Asked g r) mixed old = moved_so (Asked g r) mixed (begins a p (crossings_of moments)) old
    by (Crossed c) mixed old = moved_so (Crossed c) mixed tt old
