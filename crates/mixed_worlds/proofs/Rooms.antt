-- What an end that sends may still send is, with what its life sent, within what its peer granted, whatever that sends.
use Rattle.mixed_worlds.proofs.Common.{Contains, Host, HostMessage, is_receive_socket, is_send_socket, is_ready, Command, Legal, Order, orders_of, desk_of, PairState, Entry, Notice, both, NcpState, pair_with, HasSome, End, Ask, Close, Mark, mark_of, marks, even_odd, eqb-true, Allocation, AreOrders, IsOrder, text_good, Amount, same_Some}
use Rattle.std.proofs.Common.{◌≡◌, ◌⊎◌, inl, inr, ℕ, zero, suc, ◌+◌, ◌<◌, ◌==◌, ◌&&◌, Bool, true, false, if◌then◌else◌, List, [], ◌∷◌, ◌++◌, map, filter, find, take, Option, Some, None, is_some, refl, ap, sym, subst, ◌∙◌, arith, eq-eqb, not}
use Rattle.host_pairs.specs.Commands.{asked_on_link, desk_taken, Ending, Open, Unconnected}
use Rattle.host_pairs.specs.Entries.{is_at, is_ending, is_open, is_receiving, sends_on, closed_by_partner, is_link, refused_end}
use Rattle.host_pairs.specs.Turn.{TurnState, order_taken, orders_taken, message_taken, with_desk}
use Rattle.host_pairs.specs.Parcels.{asked_at, cls_sent}
use Rattle.sockets.specs.Accepting.{accepted, turn_of}
use Rattle.world_keeps_lives.proofs.lemmas.{Each, Ends, Quiet, each_in, each_of, each_weaker, GoesAll, HearsAll, IsNoMore, Leaves, Starts, each_first, no_more, quiet_off, quiet_sent, turn_order, turn_passes}
use Rattle.host_keeps_pairing.specs.Ends.{Stand, standing, close_waits, due, request_due}
use Rattle.std.proofs.lemmas.List.Elements.{All-cons, All-contains, All-nil, All-weaker, All-take}
use Rattle.std.specs.Prelude.{All, ◌≤◌}
use Rattle.std.proofs.Math.Nat.{min-le_left}
use Rattle.interface.specs.declared.crossing.Inbound.TheVariants as inbound
use Rattle.ncp_control.specs.Allocation as counters
use Rattle.ncp_control.specs.declared.command.Command.TheVariants as command
use Rattle.interface.proofs.lemmas.{contains_head}
use Rattle.host_pairs.specs.Commands as commands
use Rattle.host_pairs.specs.declared.entry.Closing.{Closing}
use Rattle.host_pairs.specs.declared.entry.Closing.TheVariants as closing
use Rattle.host_keeps_streams.specs.Ends.{has_opened}
use Rattle.net_sim.specs.Book.{more}
use Rattle.mixed_worlds.specs.Toward.{granted_in}
use Rattle.mixed_worlds.proofs.EndMoments.{Free}

-- a life's socket and stamps, and what it has sent
pub record Share : Type 0 where
  pub socket : ℕ
  pub own : ℕ
  pub partner : ℕ
  pub messages : ℕ
  pub bits : ℕ

-- what was sent, what may still be sent and what is granted later are together within a total
pub record IsRoom (x : Share) (total later : Amount) (left : Allocation) : Type 0 where
  pub messages : x.messages + left.messages + later.messages ≤ total.messages
  pub bits : x.bits + left.bits + later.bits ≤ total.bits

pub record IsEmpty (a : Allocation) : Type 0 where
  pub messages : a.messages ≤ 0
  pub bits : a.bits ≤ 0

-- an end has asked before one place, and was answered before another. On a life's socket it has no allocation until
-- both; and if it is the life's, there is room for what it has and for what is granted on its link by orders that are
-- still to be taken
pub record Within (x : Share) (total : ℕ → Amount) (n k : ℕ) (later : List Order) (e : Entry) : Type 0 where
  pub early : (a : ℕ) → e.asked ≡ Some a → a < n
  pub answered : e.mine ≡ true → (b : ℕ) → e.partner ≡ Some b → b < k
  pub fresh : e.own ≡ x.socket → has_opened e ≡ false → IsEmpty e.allocation
  pub held : e.mine ≡ true → e.own ≡ x.socket → e.asked ≡ Some x.own → e.partner ≡ Some x.partner → (l : ℕ)
      → e.link ≡ Some l → IsRoom x (total l) (granted_in l later) e.allocation

-- an STR that waits is of an end that hasn't asked before this place
abbrev pub Asks : ℕ → Entry → Command → Type 0
Asks stamp e c = (size : ℕ) → c ≡ command.Str e.own e.foreign size → (e.asked ≡ None) ⊎ (e.asked ≡ Some stamp)

abbrev pub Going : Share → (ℕ → Amount) → ℕ → ℕ → List Command → Entry → Type 0
Going x total stamp k queue e = Within x total (1 + stamp) k [] e × All (Asks stamp e) queue

-- ---- small facts

pub link_is : (link : ℕ) (o : Option ℕ) → is_link link o ≡ true → o ≡ Some link
link_is link None e = absurd (cc)
link_is link (Some l) e = ap (λ (n : ℕ). Some n) (eqb-true l link e)

and_false : (b : Bool) → (b && false) ≡ false
and_false true = refl
and_false false = refl

no_place : {A : Type 0} (o : Option ℕ) (a : ℕ) → o ≡ None → o ≡ Some a → A
no_place o a none some = absurd (let clash : None ≡ Some a = sym none ∙ some in cc)

unasked : (e : Entry) → e.asked ≡ None → has_opened e ≡ false
unasked e none = ap (λ (o : Option ℕ). is_some o && is_some e.partner) none

unanswered : (e : Entry) → e.partner ≡ None → has_opened e ≡ false
unanswered e none = ap (λ (o : Option ℕ). is_some e.asked && is_some o) none ∙ and_false (is_some e.asked)

all_free : (ns : List Notice) → Each Free ns
all_free [] = tt
all_free (n ∷ ns) = (tt, all_free ns)

one_only : (o z : Order) → Contains (o ∷ []) z → o ≡ z
one_only o z (zero, less, is) = is
one_only o z (suc i, less, is) = absurd (omega (arith, less))

-- no more messages, and no more bits
abbrev pub AtMost : Amount → Amount → Type 0
AtMost a b = (a.messages ≤ b.messages) × (a.bits ≤ b.bits)

grows : (l : ℕ) (o : Order) (os : List Order) → AtMost (granted_in l os) (granted_in l (o ∷ os))
grows l (Legal (command.All other messages bits)) os = by (other == l) where
  by : (b : Bool) → AtMost (granted_in l os) (if b then more messages bits (granted_in l os) else granted_in l os)
  by true = (omega arith, omega arith)
  by false = (omega arith, omega arith)
grows l o os = (omega arith, omega arith)

-- ---- ends that pass a test

none_passes : (test : Entry → Bool) (x : Entry) (es : List Entry) → filter test es ≡ []
    → Each (λ (e : Entry). test e ≡ true → e ≡ x) es
none_passes test x [] none = tt
none_passes test x (e ∷ es) none = by (test e) refl none (none_passes test x es) where
  by : (b : Bool) → test e ≡ b → (if b then e ∷ filter test es else filter test es) ≡ []
      → (filter test es ≡ [] → Each (λ (y : Entry). test y ≡ true → y ≡ x) es)
      → Each (λ (y : Entry). test y ≡ true → y ≡ x) (e ∷ es)
  by true t k rest = absurd (cc)
  by false t k rest = ((λ u. absurd (let clash : true ≡ false = sym u ∙ t in cc)), rest k)

pub one_passes : (test : Entry → Bool) (x : Entry) (es : List Entry) → filter test es ≡ x ∷ []
    → Each (λ (e : Entry). test e ≡ true → e ≡ x) es
one_passes test x [] one = tt
one_passes test x (e ∷ es) one = by (test e) refl one (one_passes test x es) where
  by : (b : Bool) → test e ≡ b → (if b then e ∷ filter test es else filter test es) ≡ x ∷ []
      → (filter test es ≡ x ∷ [] → Each (λ (y : Entry). test y ≡ true → y ≡ x) es)
      → Each (λ (y : Entry). test y ≡ true → y ≡ x) (e ∷ es)
  by true t k rest =
      let same : e ≡ x = cc in
      let none : filter test es ≡ [] = cc in
      ((λ u. same), none_passes test x es none)
  by false t k rest = ((λ u. absurd (let clash : true ≡ false = sym u ∙ t in cc)), rest k)

pub nobody_passes : (test : Entry → Bool) (es : List Entry) → filter test es ≡ []
    → Each (λ (e : Entry). test e ≡ true → ⊥) es
nobody_passes test [] none = tt
nobody_passes test (e ∷ es) none = by (test e) refl none (nobody_passes test es) where
  by : (b : Bool) → test e ≡ b → (if b then e ∷ filter test es else filter test es) ≡ []
      → (filter test es ≡ [] → Each (λ (y : Entry). test y ≡ true → ⊥) es)
      → Each (λ (y : Entry). test y ≡ true → ⊥) (e ∷ es)
  by true t k rest = absurd (cc)
  by false t k rest = ((λ u. absurd (let clash : true ≡ false = sym u ∙ t in cc)), rest k)

module _ (x : Share) (total : ℕ → Amount) where
  -- ---- what changes no request

  pub less : (n k : ℕ) (os : List Order) (e f : Entry) → Quiet e f → IsNoMore e.allocation f.allocation
      → Within x total n k os e → Within x total n k os f
  less n k os e f q fewer h = record {
    early = λ a is. h.early a (sym q.asked ∙ is);
    answered = λ mine b is. h.answered (sym q.mine ∙ mine) b (sym q.partner ∙ is);
    fresh = λ own lacks.
        (let i : IsEmpty e.allocation = h.fresh (sym q.own ∙ own) (sym same ∙ lacks) in
        record {
          messages = omega (arith, i.messages, fewer.messages);
          bits = omega (arith, i.bits, fewer.bits);
        });
    held = λ mine own asked partner l link.
        (let r : IsRoom x (total l) (granted_in l os) e.allocation = h.held (sym q.mine ∙ mine) (sym q.own ∙ own)
        (sym q.asked ∙ asked) (sym q.partner ∙ partner) l (sym q.link ∙ link) in
        record {
          messages = omega (arith, r.messages, fewer.messages);
          bits = omega (arith, r.bits, fewer.bits);
        });
  } where
    same : has_opened f ≡ has_opened e
    same = ap (λ (o : Option ℕ). is_some o && is_some f.partner) q.asked
        ∙ ap (λ (o : Option ℕ). is_some e.asked && is_some o) q.partner

  begun : (n k : ℕ) (os : List Order) (e : Entry) → e.asked ≡ None → e.allocation ≡ counters.nothing
      → (e.mine ≡ true → (b : ℕ) → e.partner ≡ Some b → b < k) → Within x total n k os e
  begun n k os e asked none answered = record {
    early = λ a is. no_place e.asked a asked is;
    answered = answered;
    fresh = λ own lacks. record {
      messages = (let z : e.allocation.messages ≡ 0 = ap (λ (a : Allocation). a.messages) none in omega (arith, z));
      bits = (let z : e.allocation.bits ≡ 0 = ap (λ (a : Allocation). a.bits) none in omega (arith, z));
    };
    held = λ mine own is partner l link. no_place e.asked x.own asked is;
  }

  pub starts_so : (n k : ℕ) (os : List Order) → Starts (Within x total n k os)
  starts_so n k os = record {
    fresh = λ e mine asked partner unclosed none.
        begun n k os e asked none (λ own b is. no_place e.partner b partner is);
    refused = λ own foreign stamp.
        begun n k os (refused_end own foreign stamp) refl refl
        (λ mine b is. absurd (let clash : false ≡ true = mine in cc));
  }

  pub leaves_of : (p : Host) (n k : ℕ) (os : List Order) → Leaves (Within x total n k os) Free p
  leaves_of p n k os = record {
    plain = λ e f q h. less n k os e f q.quiet q.allocation h;
    others = λ o other unended. tt;
    ends = λ e h over. tt;
    opens = λ e a b h asked partner goes. tt;
    returns = λ e messages bits h o. tt;
  }

  -- ---- what comes in

  -- there is room for all that is granted from the partner's request on
  abbrev IsLeft : ℕ → List Order → Type 0
  IsLeft l os = (x.messages + (granted_in l os).messages ≤ (total l).messages)
      × (x.bits + (granted_in l os).bits ≤ (total l).bits)

  abbrev pub IsNow : ℕ → List Order → Type 0
  IsNow stamp os = x.own < stamp → x.partner ≡ stamp → (l : ℕ) → IsLeft l os

  now_later : (stamp : ℕ) (o : Order) (os : List Order) → IsNow stamp (o ∷ os) → IsNow stamp os
  now_later stamp o os now = λ own partner l.
      (let r : IsLeft l (o ∷ os) = now own partner l in
      let g : AtMost (granted_in l os) (granted_in l (o ∷ os)) = grows l o os in
      (omega (arith, r.0, g.0), omega (arith, r.1, g.1)))

  later : (n k : ℕ) (o : Order) (os : List Order) (e : Entry) → Within x total n k (o ∷ os) e → Within x total n k os e
  later n k o os e h = record {
    early = h.early;
    answered = h.answered;
    fresh = h.fresh;
    held = λ mine own asked partner l link.
        (let r : IsRoom x (total l) (granted_in l (o ∷ os)) e.allocation = h.held mine own asked partner l link in
        let g : AtMost (granted_in l os) (granted_in l (o ∷ os)) = grows l o os in
        record { messages = omega (arith, r.messages, g.0); bits = omega (arith, r.bits, g.1) });
  }

  pub none_later : (n k : ℕ) (os : List Order) (e : Entry) → Within x total n k os e → Within x total n k [] e
  none_later n k [] e h = h
  none_later n k (o ∷ os) e h = none_later n k os e (later n k o os e h)

  module _ (sending : is_send_socket x.socket ≡ true) where
    -- an end that receives isn't on the socket
    pub off : {A : Type 0} (own : ℕ) → is_receive_socket own ≡ true → own ≡ x.socket → A
    off own even is = absurd (even_odd x.socket (ap is_receive_socket (sym is) ∙ even) sending)

    module _ (peer : Host) (stamp k : ℕ) (soon : stamp < k) where
      abbrev So : List Order → Entry → Type 0
      So os e = Within x total stamp k os e

      asked_now : (own foreign link : ℕ) (os : List Order) → IsNow stamp os → (e : Entry) → e.partner ≡ None → So os e
          → So os (asked_on_link stamp link e)
      asked_now own foreign link os now e none h = record {
        early = h.early;
        answered = λ mine b is. (let same : stamp ≡ b = same_Some stamp b is in omega (arith, same, soon));
        fresh = λ own lacks. h.fresh own (unanswered e none);
        held = λ mine own asked partner l linked.
            (let empty : IsEmpty e.allocation = h.fresh own (unanswered e none) in
            let r : IsLeft l os = now (h.early x.own asked) (sym (same_Some stamp x.partner partner)) l in
            record {
              messages = omega (arith, r.0, empty.messages);
              bits = omega (arith, r.1, empty.bits);
            });
      }

      -- an order that isn't ALL
      hears : (o : Order) (os : List Order) → IsNow stamp os
          → ((link messages bits : ℕ) → o ≡ Legal (command.All link messages bits) → ⊥)
          → HearsAll (So os) stamp (o ∷ [])
      hears o os now not = record {
        begins = starts_so stamp k os;
        rts = λ own foreign link e there even odd is at none h. asked_now own foreign link os now e none h;
        str = λ own foreign size e there odd even is at none h. record {
          early = h.early;
          answered = λ mine b same. (let r : stamp ≡ b = same_Some stamp b same in omega (arith, r, soon));
          fresh = λ its lacks. off own even (sym is ∙ its);
          held = λ mine its asked partner l linked. off own even (sym is ∙ its);
        };
        cls = λ e h. less stamp k os e (closed_by_partner e) (quiet_off e) (no_more e.allocation) h;
        all = λ link messages bits e there on h.
            absurd (not link messages bits (one_only o (Legal (command.All link messages bits)) there));
      }

      -- what an ALL grants an end on its link
      granted_so : (link messages bits : ℕ) (os : List Order) (e : Entry) → is_open e ≡ true
          → is_link link e.link ≡ true → So (Legal (command.All link messages bits) ∷ os) e
          → So os (commands.granted messages bits e)
      granted_so link messages bits os e opened on h = record {
        early = h.early;
        answered = h.answered;
        fresh = λ own lacks. absurd
            (let yes : has_opened e ≡ true = (both (has_opened e) (not (is_ending e)) opened).0 in
            let clash : true ≡ false = sym yes ∙ lacks in cc);
        held = λ mine own asked partner l linked.
            (let same : (link == l) ≡ true = eq-eqb link l (same_Some link l (sym (link_is link e.link on) ∙ linked)) in
            let r : IsRoom x (total l) (more messages bits (granted_in l os)) e.allocation = subst
            (λ (b : Bool). IsRoom x (total l) (if b then more messages bits (granted_in l os) else granted_in l os)
            e.allocation) same (h.held mine own asked partner l linked) in
            record {
              messages = omega (arith, r.messages, min-le_left (e.allocation.messages + messages) 65535);
              bits = omega (arith, r.bits, min-le_left (e.allocation.bits + bits) 4294967295);
            });
      }

      all_granted : (link messages bits : ℕ) (os : List Order) (t : TurnState)
          → Each (So (Legal (command.All link messages bits) ∷ os)) t.pair.entries
          → Each (So os) (order_taken peer stamp (Legal (command.All link messages bits)) t).pair.entries
      all_granted link messages bits os t h = by (is_ready t.pair.phase) where
        c : Command
        c = command.All link messages bits

        kept : Each (So os) t.pair.entries
        kept = each_weaker (So (Legal c ∷ os)) (So os) t.pair.entries (later stamp k (Legal c) os) h

        found : (o : Option Entry) → find (sends_on link) t.pair.entries ≡ o
            → Each (So os)
            (commands.at_end c (commands.all_taken link messages bits) (commands.found_in o)
            (desk_of t.pair t.listening)).entries
        found None f = kept
        found (Some e) f = at (is_open e) (is_ending e) refl where
          at : (a b : Bool) → is_open e ≡ a
              → Each (So os)
              (commands.at_end c (commands.all_taken link messages bits)
              (if a then Open e else (if b then Ending else Unconnected)) (desk_of t.pair t.listening)).entries
          at true b o = each_first (So (Legal c ∷ os)) (So os) (sends_on link) (commands.granted messages bits)
              t.pair.entries (later stamp k (Legal c) os)
              (λ y g on i.
              (let found_one : Some e ≡ Some y = sym f ∙ g in
              let same : e ≡ y = cc in
              granted_so link messages bits os y (subst (λ (z : Entry). is_open z ≡ true) same o)
              (both (not (is_receiving y)) (is_link link y.link) on).1 i)) h
          at false true o = kept
          at false false o = kept

        by : (b : Bool)
            → Each (So os)
            (if b then with_desk t (desk_taken peer t.pair.busy stamp c (desk_of t.pair t.listening))
            else t).pair.entries
        by true = found (find (sends_on link) t.pair.entries) refl
        by false = kept

      another_taken : (o : Order) (os : List Order) (t : TurnState) → IsOrder o → IsNow stamp os
          → ((link messages bits : ℕ) → o ≡ Legal (command.All link messages bits) → ⊥)
          → Each (So (o ∷ os)) t.pair.entries → Each (So os) (order_taken peer stamp o t).pair.entries
      another_taken o os t ok now not h =
          (turn_order (So os) Free peer (leaves_of peer stamp k os) stamp (o ∷ []) (hears o os now not) o t ok
          (contains_head o []) (record {
            ends = each_weaker (So (o ∷ os)) (So os) t.pair.entries (later stamp k o os) h;
            told = all_free t.notices;
          })).ends

      one_taken : (o : Order) (os : List Order) (t : TurnState) → IsOrder o → IsNow stamp os
          → Each (So (o ∷ os)) t.pair.entries → Each (So os) (order_taken peer stamp o t).pair.entries
      one_taken (Legal (command.All link messages bits)) os t ok now h = all_granted link messages bits os t h
      one_taken o os t ok now h = another_taken o os t ok now (λ link messages bits is. absurd (cc)) h

      all_taken : (os : List Order) (t : TurnState) → AreOrders os → IsNow stamp os → Each (So os) t.pair.entries
          → Each (So []) (orders_taken peer stamp os t).pair.entries
      all_taken [] t ok now h = h
      all_taken (o ∷ os) t ok now h = all_taken os (order_taken peer stamp o t) ok.1 (now_later stamp o os now)
          (one_taken o os t ok.0 (now_later stamp o os now) h)

    -- a message on link 0
    pub heard : (s : NcpState) (m : HostMessage) (stamp k : ℕ) (p : Host) → stamp < k → m.flow.source ≡ p
        → (m.flow.link.0 == 0) ≡ true → IsNow stamp (orders_of m.text)
        → Ends (Within x total stamp k (orders_of m.text)) p s
        → Ends (Within x total stamp k []) p (accepted s (inbound.Message m) stamp).0
    heard s m stamp k p soon from here now h =
        (turn_passes (Within x total stamp k []) Free p (leaves_of p stamp k []) s m stamp from
        (each_weaker (Within x total stamp k (orders_of m.text)) (Within x total stamp k [])
        (pair_with p s.peers).entries (none_later stamp k (orders_of m.text)) h) (record {
          ends = rw here (all_taken p stamp k soon (orders_of m.text) (turn_of s p) (text_good m.text) now h);
          told = all_free (message_taken p stamp m.flow.link.0 m.text (turn_of s p)).notices;
        })).ends

    -- ---- what goes out

    going_less : (stamp k : ℕ) (queue : List Command) (e f : Entry) → Quiet e f → IsNoMore e.allocation f.allocation
        → Going x total stamp k queue e → Going x total stamp k queue f
    going_less stamp k queue e f q fewer i =
        (less (1 + stamp) k [] e f q fewer i.0, All-weaker (Asks stamp e) (Asks stamp f) one queue i.1) where
          moved : (e.asked ≡ None) ⊎ (e.asked ≡ Some stamp) → (f.asked ≡ None) ⊎ (f.asked ≡ Some stamp)
          moved (inl none) = inl (q.asked ∙ none)
          moved (inr now) = inr (q.asked ∙ now)

          one : (c : Command) → Asks stamp e c → Asks stamp f c
          one c a size is = moved
              (a size (is ∙ ap (λ (n : ℕ). command.Str n f.foreign size) q.own
              ∙ ap (λ (n : ℕ). command.Str e.own n size) q.foreign))

    pub going_leaves : (p : Host) (stamp k : ℕ) (queue : List Command) → Leaves (Going x total stamp k queue) Free p
    going_leaves p stamp k queue = record {
      plain = λ e f q i. going_less stamp k queue e f q.quiet q.allocation i;
      others = λ o other unended. tt;
      ends = λ e i over. tt;
      opens = λ e a b i asked partner goes. tt;
      returns = λ e messages bits i o. tt;
    }

    module _ (stamp k : ℕ) (new : x.own ≡ stamp → (x.messages ≡ 0) × (x.bits ≡ 0)) where
      placed : (a : ℕ) → Some stamp ≡ Some a → a < 1 + stamp
      placed a is = let same : stamp ≡ a = same_Some stamp a is in omega (arith, same)

      gone : (e : Entry) → Within x total (1 + stamp) k [] e → (e.asked ≡ None) ⊎ (e.asked ≡ Some stamp)
          → Within x total (1 + stamp) k [] (asked_at stamp e)
      gone e h u = record {
        early = placed;
        answered = h.answered;
        fresh = λ own lacks. h.fresh own
            (ap (λ (b : Bool). is_some e.asked && b) lacks ∙ and_false (is_some e.asked));
        held = λ mine own asked partner l linked. room mine own asked partner l linked u;
      } where
        room : e.mine ≡ true → e.own ≡ x.socket → Some stamp ≡ Some x.own → e.partner ≡ Some x.partner → (l : ℕ)
            → e.link ≡ Some l → (e.asked ≡ None) ⊎ (e.asked ≡ Some stamp)
            → IsRoom x (total l) (granted_in l []) e.allocation
        room mine own asked partner l linked (inl none) =
            let empty : IsEmpty e.allocation = h.fresh own (unasked e none) in
            let z : (x.messages ≡ 0) × (x.bits ≡ 0) = new (sym (same_Some stamp x.own asked)) in
            record { messages = omega (arith, empty.messages, z.0); bits = omega (arith, empty.bits, z.1) }
        room mine own asked partner l linked (inr now) = h.held mine own (now ∙ asked) partner l linked

      pub goes : (queue : List Command) (n : ℕ) → GoesAll (Going x total stamp k queue) stamp (take n queue)
      goes queue n = record {
        rts = λ own foreign link e there even is at i. (
          record {
            early = placed;
            answered = i.0.answered;
            fresh = λ its lacks. off own even (sym is ∙ its);
            held = λ mine its asked partner l linked. off own even (sym is ∙ its);
          },
          All-weaker (Asks stamp e) (Asks stamp (asked_at stamp e)) (λ c a size same. inr refl) queue i.1,
        );
        str = λ own foreign size e there odd is at i. (
          gone e i.0
              (All-contains (Asks stamp e) (take n queue) (command.Str own foreign size)
              (All-take (Asks stamp e) n queue i.1) there size
              (ap (λ (j : ℕ). command.Str j foreign size) (sym is)
              ∙ ap (λ (j : ℕ). command.Str e.own j size) (sym at))),
          All-weaker (Asks stamp e) (Asks stamp (asked_at stamp e)) (λ c a size same. inr refl) queue i.1,
        );
        cls = λ e i. going_less stamp k queue e (cls_sent e) (quiet_sent e) (no_more e.allocation) i;
      }

-- ---- an end whose request waits hasn't asked

all_so : {A : Type 0} (P : A → Type 0) (xs : List A) → ((x : A) → P x) → All P xs
all_so P [] k = All-nil P
all_so P (x ∷ xs) k = All-cons P x xs (k x) (all_so P xs k)

abbrev NoAsk : List Mark → Type 0
NoAsk [] = Unit {0}
NoAsk (Ask place ∷ ms) = ⊥
NoAsk (Close ∷ ms) = NoAsk ms

no_parts : (ms ns : List Mark) → NoAsk (ms ++ ns) → NoAsk ms × NoAsk ns
no_parts [] ns h = (tt, h)
no_parts (Ask place ∷ ms) ns h = absurd h
no_parts (Close ∷ ms) ns h = no_parts ms ns h

none_due : (mine : Bool) (a : ℕ) (c : Closing) → NoAsk (request_due 0 mine (Some a) ++ close_waits c)
none_due true a closing.Queued = tt
none_due false a closing.Queued = tt
none_due true a c = tt
none_due false a c = tt

never : (stamp : ℕ) (e : Entry) (cs : List Command) → NoAsk (marks 0 e.own e.foreign cs) → All (Asks stamp e) cs
never stamp e [] h = All-nil (Asks stamp e)
never stamp e (c ∷ cs) h =
    let p : NoAsk (mark_of 0 e.own e.foreign c) × NoAsk (marks 0 e.own e.foreign cs) = no_parts
    (mark_of 0 e.own e.foreign c) (marks 0 e.own e.foreign cs) h in
    All-cons (Asks stamp e) c cs
    (λ size is. absurd (spoken size (subst (λ (d : Command). NoAsk (mark_of 0 e.own e.foreign d)) is p.0)))
    (never stamp e cs p.1) where
      here : (e.own == e.own && e.foreign == e.foreign) ≡ true
      here = rw (eq-eqb e.own e.own refl, eq-eqb e.foreign e.foreign refl) refl

      spoken : (size : ℕ) → NoAsk (mark_of 0 e.own e.foreign (command.Str e.own e.foreign size)) → ⊥
      spoken size h = subst (λ (b : Bool). NoAsk (if b then Ask 0 ∷ [] else [])) here h

one_end : (own foreign : ℕ) (es : List Entry) (words : List Mark) (z : End) (fs : List Entry)
    → filter (is_at own foreign) es ≡ fs → Stand true (λ n. n) 0 (map standing fs) words z
    → Each (λ (e : Entry). is_at own foreign e ≡ true → words ≡ due 0 (standing e)) es
one_end own foreign es words z [] none h =
    each_weaker (λ (e : Entry). is_at own foreign e ≡ true → ⊥)
    (λ (e : Entry). is_at own foreign e ≡ true → words ≡ due 0 (standing e)) es (λ e off is. absurd (off is))
    (nobody_passes (is_at own foreign) es none)
one_end own foreign es words z (y ∷ []) one h =
    each_weaker (λ (e : Entry). is_at own foreign e ≡ true → e ≡ y)
    (λ (e : Entry). is_at own foreign e ≡ true → words ≡ due 0 (standing e)) es
    (λ e same is. h.1 ∙ ap (λ (v : Entry). due 0 (standing v)) (sym (same is)))
    (one_passes (is_at own foreign) y es one)
one_end own foreign es words z (y ∷ v ∷ fs) two h = absurd h

pub asking : (stamp : ℕ) (q : PairState) → ((own foreign : ℕ) → HasSome (λ n. n) own foreign q)
    → Each (λ (e : Entry). All (Asks stamp e) q.queue) q.entries
asking stamp q sound = each_weaker (λ (e : Entry). Contains q.entries e) (λ (e : Entry). All (Asks stamp e) q.queue)
    q.entries one (each_of q.entries) where
      one : (e : Entry) → Contains q.entries e → All (Asks stamp e) q.queue
      one e there = by e.asked refl where
        words : List Mark
        words = marks 0 e.own e.foreign q.queue

        h : HasSome (λ n. n) e.own e.foreign q
        h = sound e.own e.foreign

        is : marks 0 e.own e.foreign q.queue ≡ due 0 (standing e)
        is = each_in (λ (y : Entry). is_at e.own e.foreign y ≡ true → words ≡ due 0 (standing y)) q.entries e there
            (one_end e.own e.foreign q.entries words h.x (filter (is_at e.own e.foreign) q.entries) refl
            (h.has.ends 0)) (rw (eq-eqb e.own e.own refl, eq-eqb e.foreign e.foreign refl) refl)

        by : (o : Option ℕ) → e.asked ≡ o → All (Asks stamp e) q.queue
        by None none = all_so (Asks stamp e) q.queue (λ c size same. inl none)
        by (Some a) asked = never stamp e q.queue
            (subst NoAsk
            (sym (is ∙ ap (λ (o : Option ℕ). request_due 0 e.mine o ++ close_waits e.closing) asked))
            (none_due e.mine a e.closing))
