-- A receiving life that its partner has closed, and no user of its host, has all that its partner sent, whatever becomes of both later.
use Rattle.world_keeps_streams.proofs.Common.{◌≡◌, ◌⊎◌, inl, inr, ℕ, zero, suc, ◌+◌, ◌≤◌, Bool, true, false, List, [], ◌∷◌, ◌++◌, length, map, take, drop, Some, refl, ap, sym, subst, ◌∙◌, arith, Contains, Seen, Host, is_receive_socket, is_send_socket, Allocation, IsSafe, safe_inv, HasClosed, name_now, numbered, receiver_now, closed_first, numbered_tells, receiver, Fresh, asks_once, begins_fresh, IsLawful, Asked, Crossed, Moment, event_in, events_of, crossings_of, WorldState, law_events, keeps, steps, calls_by, own_calls, Network, AreOurs, all_ours, same_Some}
use Rattle.promise.specs.Safe.{Match, Name, own_request, partner_request, receives, sends}
use Rattle.world_keeps_streams.specs.Closes.{IsClosedByPartner, WasClosedByPartner, AllClose, TookAll}
use Rattle.stream_law.specs.Receivers.{Receiver}
use Rattle.host_keeps_streams.specs.Histories as calls
use Rattle.reset_law.specs.Stays as stay
use Rattle.promise.specs.declared.life.Life.{Life}
use Rattle.world_keeps_streams.proofs.Calls.Chain.{chain}
use Rattle.world_keeps_streams.proofs.Carried.Streams.{all_bits}
use Rattle.world_keeps_streams.proofs.Lives.Lists.{Grown, IsOf, Named, contains, drop_grown, grown, is_of, of_drop, of_left, of_map, of_parts, of_take, of_whole, take_grown}
use Rattle.world_keeps_streams.proofs.Requests.Names.{request_grows}
use Rattle.world_keeps_streams.proofs.Requests.Sides.{Heard, Lawful, Own, coupled_in, law_joined, lives_in, below, book_lawful}
use Rattle.world_keeps_streams.proofs.Stays.Resets.{stays_on}
use Rattle.world_keeps_streams.proofs.Steps.Joined.{IsSettled, Keeps}
use Rattle.world_keeps_streams.proofs.Steps.Overs.{Kept, kept_calls, over_alike}
use Rattle.world_keeps_streams.proofs.Steps.Streams.{all_allowed}
use Rattle.world_keeps_streams.proofs.Books.All.{all_given}
use Rattle.world_keeps_streams.proofs.Books.Arrives.{rest_lawful}
use Rattle.world_keeps_streams.proofs.Books.Books.{one_own, one_place, one_sender}
use Rattle.world_keeps_streams.proofs.Books.Clauses.{OldGranter, Older, match_grows, older, settled_s, stays_in}
use Rattle.world_keeps_streams.proofs.Books.Closes as closes
use Rattle.world_keeps_streams.proofs.Books.Closes.{AtLink}
use Rattle.world_keeps_streams.proofs.Books.Goes.{since_bound, since_new, since_on}
use Rattle.world_keeps_streams.proofs.Books.Run.{Given, whole, whole_keeps}
use Rattle.world_keeps_streams.proofs.Books.Source.{Granter, granted_of, one_matches}
use Rattle.world_keeps_streams.proofs.Books.Whole.{HasR, HasS, PresentR, PresentS, Whole, present_in, since}
use Rattle.world_keeps_streams.proofs.Facts.{none_long, some_long, no_zero, own_if}
use Rattle.interface.proofs.lemmas.{unlike}
use Rattle.world_keeps_streams.proofs.Ours.{ours_of, ours_receiver}

-- ---- words

pub named_request : (x y : Life) → Named x y → own_request y ≡ own_request x
named_request x y n =
    ap (λ (k : ℕ). let r : Name = record { place = k; own = y.socket; foreign = y.foreign } in r) n.own
    ∙ ap (λ (k : ℕ). let r : Name = record { place = x.own_stamp; own = k; foreign = y.foreign } in r) n.socket
    ∙ ap (λ (k : ℕ). let r : Name = record { place = x.own_stamp; own = x.socket; foreign = k } in r) n.foreign

-- ---- two hosts, and what a life of the one has

module _ (hosts : Network) (a b : Host) (ours : AreOurs hosts a b) where
  pub given : Given hosts a b (Own a b) (Heard a b)
  given = all_given hosts a b ours

  abbrev pub at_now : (ms : List Moment) → Lawful hosts ms → Whole a b (Own a b) (Heard a b) ms
  at_now ms l = whole hosts a b (Own a b) (Heard a b) (all_given hosts a b ours) ms l

  -- on each link the law's receiver has heard the connection's CLS; and it did not say its own before, or nothing was granted there
  abbrev pub IsShut : (ms : List Moment) → Lawful hosts ms → ℕ → Type 0
  IsShut ms l c = (m : ℕ) → (((at_now ms l).j m).x.receiver.over c ≡ true) × ((((at_now ms l).j m).x.receiver.first c ≡ false) ⊎ ((((at_now ms l).j m).x.receiver.granted c).messages ≡ 0))

  all_taken : (ms : List Moment) (l : Lawful hosts ms) (c : ℕ) → IsShut ms l c → (m : ℕ) → ((at_now ms l).j m).x.receiver.taken c ≡ ((at_now ms l).j m).x.sender.sent c
  all_taken ms l c shut m = elim (shut m).1 [
    | inl late ↦ safe.whole (shut m).0 late
    | inr none ↦
        (let s : length (((at_now ms l).j m).x.sender.sent c) + (((at_now ms l).j m).x.receiver.returned c).messages ≤ (((at_now ms l).j m).x.receiver.granted c).messages = safe.sent.in_messages in
        let t : length (((at_now ms l).j m).x.receiver.taken c) + (((at_now ms l).j m).x.receiver.returned c).messages ≤ (((at_now ms l).j m).x.receiver.granted c).messages = safe.taken.in_messages in
        none_long (((at_now ms l).j m).x.receiver.taken c) (omega (arith, t, none)) ∙ sym (none_long (((at_now ms l).j m).x.sender.sent c) (omega (arith, s, none))))
  ] where
    safe : IsSafe ((at_now ms l).j m).x c
    safe = safe_inv ((at_now ms l).j m).x ((at_now ms l).j m).joint.inv_x c

  -- a request is that of one connection
  pub one_number : (ms : List Moment) → Lawful hosts ms → (receive send stamp g k : ℕ) → Own a b ms receive send stamp g → Own a b ms receive send stamp k → g ≡ k
  one_number ms l receive send stamp g k o p =
      asks_once g k stamp (receiver (record { receive = receive; send = send }) (steps a b (law_events ms))).said (law_joined hosts ms l a b ours (record { receive = receive; send = send })).here.grows o p

  pub one_stamp : (ms : List Moment) → Lawful hosts ms → (receive send p q g : ℕ) → Own a b ms receive send p g → Own a b ms receive send q g → p ≡ q
  one_stamp ms l receive send p q g o r = (law_joined hosts ms l a b ours (record { receive = receive; send = send })).here.balanced.single g p q o r

  -- a sending life of the peer answers this request
  pub record Answers (ms : List Moment) (s : Life) (name : Name) : Type 0 where
    pub sending : sends s ≡ true
    pub host : s.host ≡ b
    pub peer : s.peer ≡ a
    pub is : partner_request (crossings_of ms) s ≡ Some name

  abbrev pub IsNothing : Life → Type 0
  IsNothing s = (s.messages ≡ 0) × (s.bits ≡ [])

  -- the life's connection is shut, or the life is of before both met last
  pub record Through (ms : List Moment) (l : Lawful hosts ms) (t : Life) : Type 0 where
    pub late : IsOf t (present_in a b ms)
    pub g : ℕ
    pub own : Own a b ms t.socket t.foreign t.own_stamp g
    pub shut : IsShut ms l (numbered t.socket t.foreign g)
    pub early : (s : Life) → IsOf s (take (since a b ms) (lives_in ms)) → Answers ms s (own_request t) → IsNothing s

  -- whom it took all of
  pub record Source (ms : List Moment) (t : Life) : Type 0 where
    pub sender : Life
    pub there : IsOf sender (lives_in ms)
    pub matches : Match (crossings_of ms) t sender
    pub bits : t.bits ≡ sender.bits
    pub messages : t.messages ≡ sender.messages

  pub record Nothing (ms : List Moment) (t : Life) : Type 0 where
    pub none : IsNothing t
    pub all : (s : Life) → IsOf s (lives_in ms) → Answers ms s (own_request t) → IsNothing s

  pub record Done (ms : List Moment) (t : Life) : Type 0 where
    pub early : IsOf t (take (since a b ms) (lives_in ms))
    pub over : t.ended ≡ true
    pub done : Nothing ms t ⊎ ((o : Source ms t) × (o.sender.ended ≡ true))

  -- ---- a life that is through has all that was sent

  module _ (ms : List Moment) (l : Lawful hosts ms) (t : Life) (of_host : t.host ≡ a) (of_peer : t.peer ≡ b) (kind : receives t ≡ true) (h : Through ms l t) where
    -- by whatever way its connection is known
    module _ (q : PresentR a b (Own a b) (Heard a b) ms (at_now ms l).j t) where
      g_is : h.g ≡ q.g
      g_is = one_number ms l t.socket t.foreign t.own_stamp h.g q.g h.own q.own

      over_here : ((at_now ms l).j q.link).x.receiver.over (numbered t.socket t.foreign q.g) ≡ true
      over_here = subst (λ (k : ℕ). ((at_now ms l).j q.link).x.receiver.over (numbered t.socket t.foreign k) ≡ true) g_is (h.shut q.link).0

      all_here : ((at_now ms l).j q.link).x.receiver.taken (numbered t.socket t.foreign q.g) ≡ ((at_now ms l).j q.link).x.sender.sent (numbered t.socket t.foreign q.g)
      all_here =
          subst (λ (k : ℕ). ((at_now ms l).j q.link).x.receiver.taken (numbered t.socket t.foreign k) ≡ ((at_now ms l).j q.link).x.sender.sent (numbered t.socket t.foreign k)) g_is
          (all_taken ms l (numbered t.socket t.foreign h.g) h.shut q.link)

      bits_here : t.bits ≡ all_bits (((at_now ms l).j q.link).x.sender.sent (numbered t.socket t.foreign q.g))
      bits_here = (q.settled over_here).0 ∙ ap all_bits all_here

      messages_here : t.messages ≡ length (((at_now ms l).j q.link).x.sender.sent (numbered t.socket t.foreign q.g))
      messages_here = (q.settled over_here).1 ∙ ap (λ (ts : List (List Bool)). length ts) all_here

    abbrev p : PresentR a b (Own a b) (Heard a b) ms (at_now ms l).j t
    p = (at_now ms l).receiving t h.late of_host of_peer kind

    t_in : IsOf t (lives_in ms)
    t_in = of_drop (since a b ms) t (lives_in ms) h.late

    -- where it took nothing, no life that answers it sent anything
    module _ (none : t.messages ≡ 0) (s : Life) (i : IsOf s (present_in a b ms)) (k : Answers ms s (own_request t)) where
      abbrev u : PresentS a b (Own a b) (Heard a b) ms (at_now ms l).j s
      u = (at_now ms l).sending s i k.host k.peer k.sending

      abbrev sent : List (List Bool)
      sent = ((at_now ms l).j ((at_now ms l).sending s i k.host k.peer k.sending).link).x.sender.sent (numbered s.foreign s.socket ((at_now ms l).sending s i k.host k.peer k.sending).g)

      not_there : (m : List Bool) (more : List (List Bool)) → ((at_now ms l).j ((at_now ms l).sending s i k.host k.peer k.sending).link).x.sender.sent (numbered s.foreign s.socket ((at_now ms l).sending s i k.host k.peer k.sending).g) ≡ m ∷ more → ⊥
      not_there m more e =
          subst (λ (z : Life). (q : PresentR a b (Own a b) (Heard a b) ms (at_now ms l).j z) → q.link ≡ u.link → numbered z.socket z.foreign q.g ≡ numbered s.foreign s.socket u.g → ⊥) (sym same) known r.is r.link r.name where
            safe : IsSafe ((at_now ms l).j u.link).x (numbered s.foreign s.socket u.g)
            safe = safe_inv ((at_now ms l).j u.link).x ((at_now ms l).j u.link).joint.inv_x (numbered s.foreign s.socket u.g)

            granted : 1 ≤ (((at_now ms l).j u.link).x.receiver.granted (numbered s.foreign s.socket u.g)).messages
            granted =
                let within : length (((at_now ms l).j u.link).x.sender.sent (numbered s.foreign s.socket u.g)) + (((at_now ms l).j u.link).x.receiver.returned (numbered s.foreign s.socket u.g)).messages ≤ (((at_now ms l).j u.link).x.receiver.granted (numbered s.foreign s.socket u.g)).messages
                = safe.sent.in_messages in
                let some : length (((at_now ms l).j u.link).x.sender.sent (numbered s.foreign s.socket u.g)) ≡ length (m ∷ more) = ap (λ (ts : List (List Bool)). length ts) e in
                let one : 1 ≤ length (m ∷ more) = some_long m more in
                omega (arith, within, some, one)

            r : HasR a b (Own a b) (Heard a b) ms (at_now ms l).j u.link (numbered s.foreign s.socket u.g)
            r = (at_now ms l).has_receiver u.link (numbered s.foreign s.socket u.g) granted

            pairs : Match (crossings_of ms) r.life s
            pairs =
                one_matches a b (Own a b) (Heard a b) ms (given.matched ms l) (at_now ms l) r.life s r.is.g u.g r.there i (r.host, r.peer) (k.host, k.peer) r.kind (sym r.name) r.is.own u.heard

            same : r.life ≡ t
            same = one_own hosts ms l r.life t (ours_of hosts r.life a b ours (r.host, r.peer)) (ours_of hosts t a b ours (of_host, of_peer)) (of_drop (since a b ms) r.life (lives_in ms) r.there) t_in (same_Some (own_request r.life) (own_request t) (sym pairs.answered ∙ k.is))

            known : (q : PresentR a b (Own a b) (Heard a b) ms (at_now ms l).j t) → q.link ≡ u.link → numbered t.socket t.foreign q.g ≡ numbered s.foreign s.socket u.g → ⊥
            known q on name =
                let some : ((at_now ms l).j q.link).x.sender.sent (numbered t.socket t.foreign q.g) ≡ m ∷ more =
                ap (λ (n : ℕ). ((at_now ms l).j n).x.sender.sent (numbered t.socket t.foreign q.g)) on ∙ ap (λ (n : ℕ). ((at_now ms l).j u.link).x.sender.sent n) name ∙ e in
                let long : t.messages ≡ length (m ∷ more) = messages_here q ∙ ap (λ (ts : List (List Bool)). length ts) some in
                let one : 1 ≤ length (m ∷ more) = some_long m more in
                absurd (omega (arith, none, long, one))

      nothing : IsNothing s
      nothing = by (((at_now ms l).j u.link).x.sender.sent (numbered s.foreign s.socket u.g)) refl where
        by : (ts : List (List Bool)) → ((at_now ms l).j u.link).x.sender.sent (numbered s.foreign s.socket u.g) ≡ ts → IsNothing s
        by [] e = (u.gave.messages ∙ ap (λ (ts : List (List Bool)). length ts) e, u.gave.bits ∙ ap all_bits e)
        by (m ∷ more) e = absurd (not_there m more e)

    through : Nothing ms t ⊎ ((o : Source ms t) × (stay.stays b a (events_of ms) ≡ false → o.sender.ended ≡ true))
    through = by (((at_now ms l).j p.link).x.sender.sent (numbered t.socket t.foreign p.g)) refl where
      by : (ts : List (List Bool)) → ((at_now ms l).j p.link).x.sender.sent (numbered t.socket t.foreign p.g) ≡ ts → Nothing ms t ⊎ ((o : Source ms t) × (stay.stays b a (events_of ms) ≡ false → o.sender.ended ≡ true))
      by [] e = inl (record { none = (empty, bits_here p ∙ ap all_bits e); all = λ s i k. each s k (of_parts (since a b ms) s (lives_in ms) i) }) where
        empty : t.messages ≡ 0
        empty = messages_here p ∙ ap (λ (ts : List (List Bool)). length ts) e

        each : (s : Life) → Answers ms s (own_request t) → IsOf s (take (since a b ms) (lives_in ms)) ⊎ IsOf s (drop (since a b ms) (lives_in ms)) → IsNothing s
        each s k (inl early) = h.early s early k
        each s k (inr late) = nothing empty s late k
      by (m ∷ more) e = inr (
        record {
          sender = s.life;
          there = of_drop (since a b ms) s.life (lives_in ms) s.there;
          matches =
              one_matches a b (Own a b) (Heard a b) ms (given.matched ms l) (at_now ms l) t s.life p.g s.is.g h.late s.there (of_host, of_peer) (s.host, s.peer) kind s.name p.own s.is.heard;
          bits = bits_here p ∙ sym gave.0;
          messages = messages_here p ∙ sym gave.1;
        },
        s.is.over,
      ) where
        s : HasS a b (Own a b) (Heard a b) ms (at_now ms l).j p.link (numbered t.socket t.foreign p.g)
        s = (at_now ms l).has_sender p.link (numbered t.socket t.foreign p.g) (λ none. absurd (let no : m ∷ more ≡ [] = sym e ∙ none in cc))

        gave : (s.life.bits ≡ all_bits (((at_now ms l).j p.link).x.sender.sent (numbered t.socket t.foreign p.g))) × (s.life.messages ≡ length (((at_now ms l).j p.link).x.sender.sent (numbered t.socket t.foreign p.g)))
        gave = (
          s.is.gave.bits ∙ ap (λ (n : ℕ). all_bits (((at_now ms l).j n).x.sender.sent (numbered s.life.foreign s.life.socket s.is.g))) s.link ∙ ap (λ (n : ℕ). all_bits (((at_now ms l).j p.link).x.sender.sent n)) s.name,
          s.is.gave.messages ∙ ap (λ (n : ℕ). length (((at_now ms l).j n).x.sender.sent (numbered s.life.foreign s.life.socket s.is.g))) s.link ∙ ap (λ (n : ℕ). length (((at_now ms l).j p.link).x.sender.sent n)) s.name,
        )

    -- and its life is over where its host has left
    through_over : stay.stays a b (events_of ms) ≡ false → t.ended ≡ true
    through_over left = p.over left

  -- ---- a moment more

  module _ (z : Moment) (ms : List Moment) (l : Lawful hosts (z ∷ ms)) where
    -- requests stay
    pub request_on : (s : Life) → (s.host ≡ b) × (s.peer ≡ a) → IsOf s (lives_in ms)
        → partner_request (crossings_of (z ∷ ms)) s ≡ partner_request (crossings_of ms) s
    request_on s of i = by z (below hosts z ms l) where
      by : (y : Moment) → Lawful hosts ms → partner_request (crossings_of (y ∷ ms)) s ≡ partner_request (crossings_of ms) s
      by (Asked h r) k = refl
      by (Crossed c) k = request_grows hosts ms k (c ∷ []) s (ours_of hosts s b a (ours.1, ours.0) of) (contains s (lives_in ms) i)

    pub fresh : stay.begins a b (event_in z) (events_of ms) ≡ true → Fresh a b (event_in z) (events_of ms)
    fresh new =
        begins_fresh hosts (event_in z) (events_of ms) (coupled_in hosts (z ∷ ms) l).run a b ours new

    -- a sending life of the peer that is of before both met last was over before, so it is as it was
    pub record Before (s : Life) : Type 0 where
      pub there : IsOf s (lives_in ms)
      pub early : stay.begins a b (event_in z) (events_of ms) ≡ false → IsOf s (take (since a b ms) (lives_in ms))

    pub before : (s : Life) → s.host ≡ b → s.peer ≡ a → sends s ≡ true → IsOf s (take (since a b (z ∷ ms)) (lives_in (z ∷ ms))) → Before s
    before s host peer kind i = by (stay.begins a b (event_in z) (events_of ms)) refl where
      was : (n : ℕ) (o : Older n ms z s) → o.life.ended ≡ true → (stay.begins a b (event_in z) (events_of ms) ≡ false → IsOf o.life (take (since a b ms) (lives_in ms))) → Before s
      was n o over early =
          subst (λ (v : Life). Before v) (sym (o.same over)) (record { there = of_take n o.life (lives_in ms) o.there; early = early })

      over_early : (v : Life) → IsOf v (take (since a b ms) (lives_in ms)) → v.host ≡ b → v.peer ≡ a → sends v ≡ true → v.ended ≡ true
      over_early v j f g q = (settled_s hosts a b (Own a b) (Heard a b) given ms (below hosts z ms l) v j f g q).over

      by : (v : Bool) → stay.begins a b (event_in z) (events_of ms) ≡ v → Before s
      by false none =
          let o : Older (since a b ms) ms z s = older (since a b ms) ms z s (since_bound a b ms) (subst (λ (n : ℕ). IsOf s (take n (lives_in (z ∷ ms)))) (since_on a b z ms none) i) in
          was (since a b ms) o (over_early o.life o.there (o.host ∙ host) (o.peer ∙ peer) (ap is_send_socket o.socket ∙ kind)) (λ e. o.there)
      by true new =
          let o : Older (length (lives_in ms)) ms z s = older (length (lives_in ms)) ms z s (omega arith) (subst (λ (n : ℕ). IsOf s (take n (lives_in (z ∷ ms)))) (since_new a b z ms new) i) in
          was (length (lives_in ms)) o
          (elim (of_parts (since a b ms) o.life (lives_in ms) (of_take (length (lives_in ms)) o.life (lives_in ms) o.there)) [
            | inl early ↦ over_early o.life early (o.host ∙ host) (o.peer ∙ peer) (ap is_send_socket o.socket ∙ kind)
            | inr late ↦ ((at_now ms (below hosts z ms l)).sending o.life late (o.host ∙ host) (o.peer ∙ peer) (ap is_send_socket o.socket ∙ kind)).over (fresh new).peer_left
          ])
          (λ e. absurd (let no : true ≡ false = sym new ∙ e in cc))

    pub answers_before : (s : Life) (name : Name) → IsOf s (lives_in ms) → Answers (z ∷ ms) s name → Answers ms s name
    answers_before s name i k = record { sending = k.sending; host = k.host; peer = k.peer; is = sym (request_on s (k.host, k.peer) i) ∙ k.is }

    -- no life that answers one of before both met last has sent anything if none had
    pub none_on : (t : Life) → (t.host ≡ a) × (t.peer ≡ b) → IsOf t (take (since a b (z ∷ ms)) (lives_in (z ∷ ms)))
        → ((s : Life) → IsOf s (lives_in ms) → Answers ms s (own_request t) → IsNothing s)
        → (s : Life) → IsOf s (lives_in (z ∷ ms)) → Answers (z ∷ ms) s (own_request t) → IsNothing s
    none_on t of early n s i k = each s k (of_parts (since a b (z ∷ ms)) s (lives_in (z ∷ ms)) i) where
      new : (s : Life) → Answers (z ∷ ms) s (own_request t) → IsNothing s ⊎ Granter a b (Own a b) (Heard a b) (z ∷ ms) (at_now (z ∷ ms) l).j s → IsNothing s
      new s k (inl none) = none
      new s k (inr o) =
          let same : o.receiver ≡ t =
          one_own hosts (z ∷ ms) l o.receiver t (ours_receiver hosts o.matches (ours_of hosts s b a (ours.1, ours.0) (k.host, k.peer))) (ours_of hosts t a b ours of) (of_drop (since a b (z ∷ ms)) o.receiver (lives_in (z ∷ ms)) o.there) (of_take (since a b (z ∷ ms)) t (lives_in (z ∷ ms)) early)
          (same_Some (own_request o.receiver) (own_request t) (sym o.matches.answered ∙ k.is)) in
          absurd (one_place hosts (z ∷ ms) l (since a b (z ∷ ms)) t (ours_of hosts t a b ours of) early (subst (λ (v : Life). IsOf v (drop (since a b (z ∷ ms)) (lives_in (z ∷ ms)))) same o.there))

      each : (s : Life) → Answers (z ∷ ms) s (own_request t) → IsOf s (take (since a b (z ∷ ms)) (lives_in (z ∷ ms))) ⊎ IsOf s (drop (since a b (z ∷ ms)) (lives_in (z ∷ ms))) → IsNothing s
      each s k (inl old) = let o : Before s = before s k.host k.peer k.sending old in n s o.there (answers_before s (own_request t) o.there k)
      each s k (inr late) = new s k (granted_of a b (Own a b) (Heard a b) (z ∷ ms) (given.matched (z ∷ ms) l) (at_now (z ∷ ms) l) s late k.host k.peer k.sending)

    nothing_on : (t : Life) → (t.host ≡ a) × (t.peer ≡ b) → IsOf t (take (since a b (z ∷ ms)) (lives_in (z ∷ ms)))
        → Nothing ms t → Nothing (z ∷ ms) t
    nothing_on t of early n = record { none = n.none; all = none_on t of early n.all }

    source_on : (t : Life) → (t.host ≡ a) × (t.peer ≡ b) → IsOf t (lives_in ms) → (o : Source ms t)
        → o.sender.ended ≡ true → (n : Source (z ∷ ms) t) × (n.sender.ended ≡ true)
    source_on t of i o over = (
      record {
        sender = o.sender;
        there = stays_in z ms o.sender o.there over;
        matches = match_grows hosts z ms (below hosts z ms l) t o.sender (ours_of hosts t a b ours of) i o.there o.matches;
        bits = o.bits;
        messages = o.messages;
      },
      over,
    )

    done_on : (t : Life) → (t.host ≡ a) × (t.peer ≡ b) → IsOf t (lives_in ms)
        → IsOf t (take (since a b (z ∷ ms)) (lives_in (z ∷ ms))) → t.ended ≡ true
        → Nothing ms t ⊎ ((o : Source ms t) × (o.sender.ended ≡ true)) → Done (z ∷ ms) t
    done_on t of i early over (inl n) = record { early = early; over = over; done = inl (nothing_on t of early n) }
    done_on t of i early over (inr o) = record { early = early; over = over; done = inr (source_on t of i o.0 o.1) }

    -- ---- the life itself

    -- one that is over stays where it is in the list
    still_early : (n : ℕ) (t : Life) → n ≤ length (lives_in ms) → t.ended ≡ true → IsOf t (take n (lives_in ms)) → IsOf t (take n (lives_in (z ∷ ms)))
    still_early n t less over i =
        let g : Grown (lives_in ms) (lives_in (z ∷ ms)) = grown z ms in
        subst (λ (ys : List Life). IsOf t ys) (sym (ap (take n) g.is ∙ take_grown g.change n (lives_in ms) g.more less))
        (subst (λ (v : Life). IsOf v (map g.change (take n (lives_in ms)))) (g.still t over) (of_map g.change t (take n (lives_in ms)) i))

    pub early_on : (t : Life) → t.ended ≡ true → IsOf t (lives_in ms) → (stay.begins a b (event_in z) (events_of ms) ≡ false → IsOf t (take (since a b ms) (lives_in ms))) → IsOf t (take (since a b (z ∷ ms)) (lives_in (z ∷ ms)))
    early_on t over i early = by (stay.begins a b (event_in z) (events_of ms)) refl where
      by : (v : Bool) → stay.begins a b (event_in z) (events_of ms) ≡ v → IsOf t (take (since a b (z ∷ ms)) (lives_in (z ∷ ms)))
      by false none = subst (λ (n : ℕ). IsOf t (take n (lives_in (z ∷ ms)))) (sym (since_on a b z ms none)) (still_early (since a b ms) t (since_bound a b ms) over (early none))
      by true new = subst (λ (n : ℕ). IsOf t (take n (lives_in (z ∷ ms)))) (sym (since_new a b z ms new)) (still_early (length (lives_in ms)) t (omega arith) over (of_whole t (lives_in ms) i))

    -- a connection that is shut stays so until both meet again
    shut_on : stay.begins a b (event_in z) (events_of ms) ≡ false → (c : ℕ) → IsShut ms (below hosts z ms l) c → IsShut (z ∷ ms) l c
    shut_on none c shut m = by (stay.stays a b (events_of (z ∷ ms))) refl where
      later : Keeps (stay.stays a b (events_of (z ∷ ms))) (stay.stays b a (events_of (z ∷ ms))) ((at_now ms (below hosts z ms l)).j m).x ((at_now (z ∷ ms) l).j m).x
      later = whole_keeps hosts a b (Own a b) (Heard a b) (all_given hosts a b ours) z ms l none m

      over_as : (r t : Receiver) → t.over c ≡ true → t.first c ≡ r.first c → t.granted c ≡ r.granted c → (r.first c ≡ false) ⊎ ((r.granted c).messages ≡ 0) → (t.over c ≡ true) × ((t.first c ≡ false) ⊎ ((t.granted c).messages ≡ 0))
      over_as r t over first granted (inl late) = (over, inl (first ∙ late))
      over_as r t over first granted (inr nil) = (over, inr (ap (λ (v : Allocation). v.messages) granted ∙ nil))

      by : (v : Bool) → stay.stays a b (events_of (z ∷ ms)) ≡ v
          → (((at_now (z ∷ ms) l).j m).x.receiver.over c ≡ true) × ((((at_now (z ∷ ms) l).j m).x.receiver.first c ≡ false) ⊎ ((((at_now (z ∷ ms) l).j m).x.receiver.granted c).messages ≡ 0))
      by false left =
          let k : IsSettled ((at_now ms (below hosts z ms l)).j m).x.receiver ((at_now (z ∷ ms) l).j m).x.receiver c = later.settled left c in
          over_as ((at_now ms (below hosts z ms l)).j m).x.receiver ((at_now (z ∷ ms) l).j m).x.receiver (k.over ∙ (shut m).0) k.first (later.granted left c) (shut m).1
      by true on =
          subst (λ (r : Receiver). (r.over c ≡ true) × ((r.first c ≡ false) ⊎ ((r.granted c).messages ≡ 0))) (sym (((at_now (z ∷ ms) l).j m).received_a on ∙ ap (λ (cs : List calls.Moment). receiver_now numbered b (suc m) cs) own))
          (over_as (receiver_now numbered b (suc m) (own_calls a b ms)) (receiver_now numbered b (suc m) (calls_by a b z ms ++ own_calls a b ms)) kept.over kept.first kept.granted
          (subst (λ (r : Receiver). (r.first c ≡ false) ⊎ ((r.granted c).messages ≡ 0)) old (shut m).1)) where
            both_on : (keeps a b (event_in z) (events_of ms) ≡ true) × (stay.stays a b (events_of ms) ≡ true)
            both_on = stays_on a b (event_in z) (events_of ms) on none

            own : own_calls a b (z ∷ ms) ≡ calls_by a b z ms ++ own_calls a b ms
            own = own_if (keeps a b (event_in z) (events_of ms)) (calls_by a b z ms ++ own_calls a b ms) [] both_on.0

            old : ((at_now ms (below hosts z ms l)).j m).x.receiver ≡ receiver_now numbered b (suc m) (own_calls a b ms)
            old = ((at_now ms (below hosts z ms l)).j m).received_a both_on.1

            kept : Kept (receiver_now numbered b (suc m) (own_calls a b ms)) (receiver_now numbered b (suc m) (calls_by a b z ms ++ own_calls a b ms)) c
            kept =
                kept_calls numbered numbered_tells b (suc m) c (calls_by a b z ms) (own_calls a b ms)
                (subst (λ (cs : List calls.Moment). calls.IsHistory b cs) own (chain hosts l.0 (z ∷ ms) l.1 l.2 a b ours).0)
                (subst (λ (cs : List calls.Moment). calls.AreAllowed numbered b (suc m) cs) own (all_allowed hosts l.0 (suc m) (no_zero m) a b ours (z ∷ ms) l.1 l.2))
                (subst (λ (r : Receiver). r.over c ≡ true) old (shut m).0)

    through_on : (t : Life) → Through ms (below hosts z ms l) t → stay.begins a b (event_in z) (events_of ms) ≡ false → Through (z ∷ ms) l ((grown z ms).change t)
    through_on t h none = record {
      late = subst (λ (n : ℕ). IsOf ((grown z ms).change t) (drop n (lives_in (z ∷ ms)))) (sym (since_on a b z ms none))
          (subst (λ (ys : List Life). IsOf ((grown z ms).change t) ys) (sym (ap (drop (since a b ms)) (grown z ms).is ∙ drop_grown (grown z ms).change (since a b ms) (lives_in ms) (grown z ms).more (since_bound a b ms)))
          (of_left ((grown z ms).change t) (map (grown z ms).change (present_in a b ms)) (grown z ms).more (of_map (grown z ms).change t (present_in a b ms) h.late)));
      g = h.g;
      own = renamed t ((grown z ms).change t) ((grown z ms).names t) (given.own_on z ms l none t.socket t.foreign t.own_stamp h.g h.own);
      shut = shut_named t ((grown z ms).change t) ((grown z ms).names t) (shut_on none (numbered t.socket t.foreign h.g) h.shut);
      early = λ s i k.
          (let o : Before s = before s k.host k.peer k.sending i in
          h.early s (o.early none) (answers_before s (own_request t) o.there (record { sending = k.sending; host = k.host; peer = k.peer; is = k.is ∙ ap (λ (v : Name). Some v) (named_request t ((grown z ms).change t) ((grown z ms).names t)) })));
    } where
      renamed : (x y : Life) → Named x y → Own a b (z ∷ ms) x.socket x.foreign x.own_stamp h.g → Own a b (z ∷ ms) y.socket y.foreign y.own_stamp h.g
      renamed x y n o =
          subst (λ (k : ℕ). Own a b (z ∷ ms) k y.foreign y.own_stamp h.g) (sym n.socket)
          (subst (λ (k : ℕ). Own a b (z ∷ ms) x.socket k y.own_stamp h.g) (sym n.foreign) (subst (λ (k : ℕ). Own a b (z ∷ ms) x.socket x.foreign k h.g) (sym n.own) o))

      shut_named : (x y : Life) → Named x y → IsShut (z ∷ ms) l (numbered x.socket x.foreign h.g) → IsShut (z ∷ ms) l (numbered y.socket y.foreign h.g)
      shut_named x y n o = subst (λ (k : ℕ). IsShut (z ∷ ms) l (numbered k y.foreign h.g)) (sym n.socket) (subst (λ (k : ℕ). IsShut (z ∷ ms) l (numbered x.socket k h.g)) (sym n.foreign) o)

    -- whichever of the two it is
    pub next_is : (t : Life) → t.host ≡ a → t.peer ≡ b → receives t ≡ true → IsOf t (lives_in ms) → Through ms (below hosts z ms l) t ⊎ Done ms t → Through (z ∷ ms) l ((grown z ms).change t) ⊎ Done (z ∷ ms) ((grown z ms).change t)
    next_is t host peer kind i (inr d) =
        inr (subst (λ (v : Life). Done (z ∷ ms) v) (sym ((grown z ms).still t d.over)) (done_on t (host, peer) i (early_on t d.over i (λ e. d.early)) d.over d.done))
    next_is t host peer kind i (inl h) = by (stay.begins a b (event_in z) (events_of ms)) refl where
      settled : stay.stays b a (events_of ms) ≡ false → Nothing ms t ⊎ ((o : Source ms t) × (stay.stays b a (events_of ms) ≡ false → o.sender.ended ≡ true)) → Nothing ms t ⊎ ((o : Source ms t) × (o.sender.ended ≡ true))
      settled left (inl n) = inl n
      settled left (inr o) = inr (o.0, o.1 left)

      by : (v : Bool) → stay.begins a b (event_in z) (events_of ms) ≡ v → Through (z ∷ ms) l ((grown z ms).change t) ⊎ Done (z ∷ ms) ((grown z ms).change t)
      by false none = inl (through_on t h none)
      by true new =
          let over : t.ended ≡ true = through_over ms (below hosts z ms l) t host peer kind h (fresh new).left in
          inr (subst (λ (v : Life). Done (z ∷ ms) v) (sym ((grown z ms).still t over))
          (done_on t (host, peer) i (early_on t over i (λ e. absurd (let no : true ≡ false = sym new ∙ e in cc))) over (settled (fresh new).peer_left (through ms (below hosts z ms l) t host peer kind h))))

  -- ---- what it has

  pub took_all : (ms : List Moment) (l : Lawful hosts ms) (t : Life) → t.host ≡ a → t.peer ≡ b → receives t ≡ true → IsOf t (lives_in ms) → Through ms l t ⊎ Done ms t → TookAll (crossings_of ms) (lives_in ms) t
  took_all ms l t host peer kind i state s there m = by state where
    nothing_is : Nothing ms t → (t.bits ≡ s.bits) × (t.messages ≡ s.messages)
    nothing_is n =
        let z : IsNothing s = n.all s (is_of s (lives_in ms) there) (record { sending = m.sending; host = sym m.peers.0 ∙ peer; peer = m.peers.1 ∙ host; is = m.answered }) in
        (n.none.1 ∙ sym z.1, n.none.0 ∙ sym z.0)

    source_is : Source ms t → (t.bits ≡ s.bits) × (t.messages ≡ s.messages)
    source_is o =
        let same : o.sender ≡ s = one_sender hosts ms l t o.sender s (ours_of hosts t a b ours (host, peer)) o.there (is_of s (lives_in ms) there) o.matches m in
        (o.bits ∙ ap (λ (v : Life). v.bits) same, o.messages ∙ ap (λ (v : Life). v.messages) same)

    either : {P : Source ms t → Type 0} → Nothing ms t ⊎ ((o : Source ms t) × P o) → (t.bits ≡ s.bits) × (t.messages ≡ s.messages)
    either (inl n) = nothing_is n
    either (inr o) = source_is o.0

    by : Through ms l t ⊎ Done ms t → (t.bits ≡ s.bits) × (t.messages ≡ s.messages)
    by (inl h) = either (through ms l t host peer kind h)
    by (inr d) = either d.done

-- ---- a receiving life that isn't over, on its link

module _ (hosts : Network) (ms : List Moment) (l : Lawful hosts ms) (x : Life) (f : AtLink hosts ms x) where
  abbrev own_link : ℕ
  own_link = closes.n hosts ms l x f

  abbrev own_name : ℕ
  own_name = closes.c hosts ms l x f

  it_in : IsOf x (lives_in ms)
  it_in = is_of x (lives_in ms) f.there

  abbrev g : ℕ
  g = (closes.known hosts ms l x f).g

  -- on another link nothing was granted in its connection
  pub same_link : (m : ℕ) → 1 ≤ (((at_now hosts x.host x.peer f.ours ms l).j m).x.receiver.granted own_name).messages
      → m ≡ own_link
  same_link m some =
      subst (λ (z : Life). (q : PresentR x.host x.peer (Own x.host x.peer) (Heard x.host x.peer) ms (at_now hosts x.host x.peer f.ours ms l).j z) → q.link ≡ m → m ≡ own_link) (sym it_is) on r.is r.link where
        r : HasR x.host x.peer (Own x.host x.peer) (Heard x.host x.peer) ms (at_now hosts x.host x.peer f.ours ms l).j m own_name
        r = (at_now hosts x.host x.peer f.ours ms l).has_receiver m own_name some

        socket : r.life.socket ≡ x.socket
        socket = numbered_tells.own r.life.socket r.life.foreign r.is.g x.socket x.foreign g r.name

        foreign : r.life.foreign ≡ x.foreign
        foreign = numbered_tells.foreign r.life.socket r.life.foreign r.is.g x.socket x.foreign g r.name

        gone : r.is.g ≡ g
        gone = numbered_tells.gone r.life.socket r.life.foreign r.is.g x.socket x.foreign g r.name

        own : Own x.host x.peer ms x.socket x.foreign r.life.own_stamp g
        own =
            subst (λ (k : ℕ). Own x.host x.peer ms k x.foreign r.life.own_stamp g) socket
            (subst (λ (k : ℕ). Own x.host x.peer ms r.life.socket k r.life.own_stamp g) foreign (subst (λ (k : ℕ). Own x.host x.peer ms r.life.socket r.life.foreign r.life.own_stamp k) gone r.is.own))

        stamp : r.life.own_stamp ≡ x.own_stamp
        stamp = one_stamp hosts x.host x.peer f.ours ms l x.socket x.foreign r.life.own_stamp x.own_stamp g own (closes.known hosts ms l x f).own

        request : own_request r.life ≡ own_request x
        request =
            ap (λ (k : ℕ). let v : Name = record { place = k; own = r.life.socket; foreign = r.life.foreign } in v) stamp
            ∙ ap (λ (k : ℕ). let v : Name = record { place = x.own_stamp; own = k; foreign = r.life.foreign } in v) socket
            ∙ ap (λ (k : ℕ). let v : Name = record { place = x.own_stamp; own = x.socket; foreign = k } in v) foreign

        it_is : r.life ≡ x
        it_is = one_own hosts ms l r.life x (ours_of hosts r.life x.host x.peer f.ours (r.host, r.peer)) f.ours (of_drop (since x.host x.peer ms) r.life (lives_in ms) r.there) it_in request

        on : (q : PresentR x.host x.peer (Own x.host x.peer) (Heard x.host x.peer) ms (at_now hosts x.host x.peer f.ours ms l).j x)
            → q.link ≡ m → m ≡ own_link
        on q is = sym is ∙ closes.suc_is q.link own_link (sym (closes.is_here hosts ms l x f q.link q.g (q.going f.goes)).0 ∙ (closes.place hosts ms l x f).0)

-- ---- where its end has taken the CLS

module _ (hosts : Network) (ms : List Moment) (l : Lawful hosts ms) (x : Life) (ours : AreOurs hosts x.host x.peer)
    (f : IsClosedByPartner ms x) where
  abbrev at_link : AtLink hosts ms x
  at_link = record { ours = ours; there = f.there; receiving = f.receiving; goes = f.goes; end = f.end; link = f.link; linked = f.linked }

  abbrev link_now : ℕ
  link_now = closes.n hosts ms l x at_link

  abbrev name_here : ℕ
  name_here = closes.c hosts ms l x at_link

  over : (receiver_now numbered x.peer (suc link_now) (own_calls x.host x.peer ms)).over name_here ≡ true
  over =
      ap (λ (k : ℕ). (receiver_now numbered x.peer (suc link_now) (own_calls x.host x.peer ms)).over k) (sym (closes.name_is hosts ms l x at_link)) ∙ (closes.law hosts ms l x at_link).over ∙ f.closed

  late_cls : (receiver_now numbered x.peer (suc link_now) (own_calls x.host x.peer ms)).first name_here ≡ false
  late_cls = by ((receiver_now numbered x.peer (suc link_now) (own_calls x.host x.peer ms)).first name_here) refl where
    none : HasClosed numbered x.peer (suc link_now) name_here (own_calls x.host x.peer ms) → ⊥
    none h =
        f.unclosed (subst (λ (k : ℕ). HasClosed numbered x.peer k (name_now numbered x.peer (own_calls x.host x.peer ms) x.socket x.foreign) (own_calls x.host x.peer ms)) (sym (closes.place hosts ms l x at_link).0)
        (subst (λ (k : ℕ). HasClosed numbered x.peer (suc link_now) k (own_calls x.host x.peer ms)) (closes.place hosts ms l x at_link).1 h))

    by : (v : Bool) → (receiver_now numbered x.peer (suc link_now) (own_calls x.host x.peer ms)).first name_here ≡ v → (receiver_now numbered x.peer (suc link_now) (own_calls x.host x.peer ms)).first name_here ≡ false
    by true e = absurd (none (closed_first numbered x.peer (suc link_now) name_here (own_calls x.host x.peer ms) e))
    by false e = e

  x_in : IsOf x (lives_in ms)
  x_in = is_of x (lives_in ms) f.there

  shut : IsShut hosts x.host x.peer ours ms l name_here
  shut m = (heard, by (((at_now hosts x.host x.peer ours ms l).j m).x.receiver.granted name_here).messages refl) where
    law_is : (k : ℕ)
        → ((at_now hosts x.host x.peer ours ms l).j k).x.receiver ≡ receiver_now numbered x.peer (suc k) (own_calls x.host x.peer ms)
    law_is k = ((at_now hosts x.host x.peer ours ms l).j k).received_a (closes.stays hosts ms l x at_link)

    heard : ((at_now hosts x.host x.peer ours ms l).j m).x.receiver.over name_here ≡ true
    heard =
        ap (λ (r : Receiver). r.over name_here) (law_is m) ∙ ap (λ (v : ℕ → Bool). v name_here) (over_alike numbered x.peer (suc m) (suc link_now) (own_calls x.host x.peer ms)) ∙ over

    by : (k : ℕ) → (((at_now hosts x.host x.peer ours ms l).j m).x.receiver.granted name_here).messages ≡ k
        → (((at_now hosts x.host x.peer ours ms l).j m).x.receiver.first name_here ≡ false) ⊎ ((((at_now hosts x.host x.peer ours ms l).j m).x.receiver.granted name_here).messages ≡ 0)
    by zero e = inr e
    by (suc k) e =
        inl (ap (λ (r : Receiver). r.first name_here) (law_is m) ∙ ap (λ (v : ℕ). (receiver_now numbered x.peer (suc v) (own_calls x.host x.peer ms)).first name_here) (same_link hosts ms l x at_link m (omega (arith, e))) ∙ late_cls)

  shut_now : Through hosts x.host x.peer ours ms l x
  shut_now = record {
    late = closes.late hosts ms l x at_link;
    g = (closes.known hosts ms l x at_link).g;
    own = (closes.known hosts ms l x at_link).own;
    shut = shut;
    early = λ s i k. nothing s k (settled_s hosts x.host x.peer (Own x.host x.peer) (Heard x.host x.peer) (all_given hosts x.host x.peer ours) ms l s i k.host k.peer k.sending).granted;
  } where
    nothing : (s : Life) → Answers hosts x.host x.peer ours ms s (own_request x)
        → ((s.messages ≡ 0) × (s.bits ≡ [])) ⊎ OldGranter ms s → (s.messages ≡ 0) × (s.bits ≡ [])
    nothing s k (inl none) = none
    nothing s k (inr o) =
        let same : o.receiver ≡ x = one_own hosts ms l o.receiver x (ours_receiver hosts o.matches (ours_of hosts s x.peer x.host (ours.1, ours.0) (k.host, k.peer))) ours o.there x_in (same_Some (own_request o.receiver) (own_request x) (sym o.matches.answered ∙ k.is)) in
        absurd (unlike x.ended (ap (λ (y : Life). y.ended) (sym same) ∙ o.over) f.goes)

-- ---- whatever happens later

-- the same life, later
record Later (hosts : Network) (ms : List Moment) (l : Lawful hosts ms) (x : Life) (ours : AreOurs hosts x.host x.peer) : Type 0 where
  life : Life
  there : IsOf life (lives_in ms)
  host : life.host ≡ x.host
  peer : life.peer ≡ x.peer
  kind : receives life ≡ true
  same : own_request life ≡ own_request x
  state : Through hosts x.host x.peer ours ms l life ⊎ Done hosts x.host x.peer ours ms life

later : (hosts : Network) (newer ms : List Moment) (l : Lawful hosts (newer ++ ms)) (x : Life) (ours : AreOurs hosts x.host x.peer)
    → IsClosedByPartner ms x → Later hosts (newer ++ ms) l x ours
later hosts [] ms l x ours f = record { life = x; there = is_of x (lives_in ms) f.there; host = refl; peer = refl; kind = f.receiving; same = refl; state = inl (shut_now hosts ms l x ours f) }
later hosts (z ∷ newer) ms l x ours f =
    let o : Later hosts (newer ++ ms) (below hosts z (newer ++ ms) l) x ours = later hosts newer ms (below hosts z (newer ++ ms) l) x ours f in
    let g : Grown (lives_in (newer ++ ms)) (lives_in (z ∷ (newer ++ ms))) = grown z (newer ++ ms) in
    record {
      life = (grown z (newer ++ ms)).change o.life;
      there = subst (λ (ys : List Life). IsOf ((grown z (newer ++ ms)).change o.life) ys) (sym (grown z (newer ++ ms)).is)
          (of_left ((grown z (newer ++ ms)).change o.life) (map (grown z (newer ++ ms)).change (lives_in (newer ++ ms))) (grown z (newer ++ ms)).more (of_map (grown z (newer ++ ms)).change o.life (lives_in (newer ++ ms)) o.there));
      host = ((grown z (newer ++ ms)).names o.life).host ∙ o.host;
      peer = ((grown z (newer ++ ms)).names o.life).peer ∙ o.peer;
      kind = ap is_receive_socket ((grown z (newer ++ ms)).names o.life).socket ∙ o.kind;
      same = named_request o.life ((grown z (newer ++ ms)).change o.life) ((grown z (newer ++ ms)).names o.life) ∙ o.same;
      state = next_is hosts x.host x.peer ours z (newer ++ ms) l o.life o.host o.peer o.kind o.there o.state;
    }

closes_at : (hosts : Network) (newer ms : List Moment) → Lawful hosts (newer ++ ms) → (receiver x : Life)
    → AreOurs hosts receiver.host receiver.peer → AreOurs hosts x.host x.peer → IsClosedByPartner ms receiver
    → Contains (lives_in (newer ++ ms)) x
    → own_request x ≡ own_request receiver → TookAll (crossings_of (newer ++ ms)) (lives_in (newer ++ ms)) x
closes_at hosts newer ms l receiver x was ours f there same =
    let o : Later hosts (newer ++ ms) l receiver was = later hosts newer ms l receiver was f in
    let one : o.life ≡ x = one_own hosts (newer ++ ms) l o.life x (ours_of hosts o.life receiver.host receiver.peer was (o.host, o.peer)) ours o.there (is_of x (lives_in (newer ++ ms)) there) (o.same ∙ sym same) in
    subst (λ (v : Life). TookAll (crossings_of (newer ++ ms)) (lives_in (newer ++ ms)) v) one (took_all hosts receiver.host receiver.peer was (newer ++ ms) l o.life o.host o.peer o.kind o.there o.state)

-- `was` is of the life as it was then
pub closes_whole : (hosts : Network) (ms : List Moment) → Lawful hosts ms → (x : Life) → AreOurs hosts x.host x.peer
    → (f : WasClosedByPartner ms x) → AreOurs hosts f.receiver.host f.receiver.peer
    → TookAll (crossings_of ms) (lives_in ms) x
closes_whole hosts ms l x ours f was =
    subst (λ (ns : List Moment). Lawful hosts ns → Contains (lives_in ns) x → TookAll (crossings_of ns) (lives_in ns) x) (sym f.is) (λ k there. closes_at hosts f.later f.earlier k f.receiver x was ours f.then there f.same) l f.there

all_close : (hosts : Network) (ms : List Moment) → Lawful hosts ms → (later earlier : List Moment)
    → ms ≡ later ++ earlier → (x : Life) → AreOurs hosts x.host x.peer → (f : WasClosedByPartner earlier x)
    → AreOurs hosts f.receiver.host f.receiver.peer
    → TookAll (crossings_of earlier) (lives_in earlier) x
all_close hosts ms l newer older is x ours f was = closes_whole hosts older (rest_lawful hosts newer older (subst (λ (ns : List Moment). Lawful hosts ns) is l)) x ours f was

pub world_closes : {C : Type 0} (seen : C → Seen) (hosts : List Host) (w : WorldState C) → (lawful : IsLawful seen hosts w) → AllClose lawful.whole.moments
world_closes seen hosts w lawful newer older is x f = all_close (all_ours hosts) lawful.whole.moments (book_lawful seen hosts w lawful) newer older is x (refl, refl) f (refl, refl)
