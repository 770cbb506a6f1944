-- What was sent to a receiving life when its end had taken its partner's CLS stays all that is sent to it, whatever becomes of both lives later.
use Rattle.world_keeps_streams.proofs.Common.{◌≡◌, ◌⊎◌, inl, inr, ℕ, suc, ◌+◌, ◌≤◌, ◌==◌, Bool, true, false, List, [], ◌∷◌, ◌++◌, length, map, take, drop, Some, refl, ap, sym, subst, ◌∙◌, arith, eqb-true, Host, IsSafe, safe_inv, numbered, receiver_now, sender_now, numbered_tells, Fresh, begins_either, Moment, event_in, events_of, crossings_of, keeps, calls_by, own_calls, Network, AreOurs, same_Some}
use Rattle.promise.specs.Safe.{Match, Name, own_request, receives}
use Rattle.stream_law.specs.Receivers.{Receiver}
use Rattle.stream_law.specs.Senders.{Sender}
use Rattle.host_keeps_streams.specs.Histories as calls
use Rattle.reset_law.specs.Stays as stay
use Rattle.promise.specs.declared.life.Life.{Life}
use Rattle.world_keeps_streams.proofs.Books.All.{all_given}
use Rattle.world_keeps_streams.proofs.Books.Books.{one_own, one_sender}
use Rattle.world_keeps_streams.proofs.Books.Clauses.{match_grows, stays_in}
use Rattle.world_keeps_streams.proofs.Books.Goes.{since_bound, since_on}
use Rattle.world_keeps_streams.proofs.Books.Later.{Answers, Before, answers_before, at_now, before, early_on, fresh, named_request, none_on, one_number}
use Rattle.world_keeps_streams.proofs.Books.Run.{Given, whole_keeps}
use Rattle.world_keeps_streams.proofs.Books.Source.{one_matches}
use Rattle.world_keeps_streams.proofs.Books.Whole.{HasR, HasS, PresentR, PresentS, Whole, present_in, since}
use Rattle.world_keeps_streams.proofs.Calls.Chain.{chain}
use Rattle.world_keeps_streams.proofs.Carried.Streams.{all_bits}
use Rattle.world_keeps_streams.proofs.Lives.Lists.{IsOf, Named, drop_grown, grown, of_drop, of_left, of_map, of_parts}
use Rattle.world_keeps_streams.proofs.Requests.Sides.{Heard, Lawful, Own, lives_in, below}
use Rattle.world_keeps_streams.proofs.Stays.Resets.{stays_on}
use Rattle.world_keeps_streams.proofs.Steps.Closed as closed
use Rattle.world_keeps_streams.proofs.Steps.Joined.{Joined, Keeps, numbered_by_peer, turned_tells}
use Rattle.world_keeps_streams.proofs.Steps.Overs as overs
use Rattle.world_keeps_streams.proofs.Steps.Streams.{all_allowed}
use Rattle.world_keeps_streams.proofs.Facts.{some_long, no_zero, own_if}
use Rattle.world_keeps_streams.proofs.Ours.{ours_of}

-- ---- two hosts, one that receives and one that sends: this much was sent in the connection on each link, and something on link `n` only

module _ (hosts : Network) (a b : Host) (ours : AreOurs hosts a b) (T : ℕ → List (List Bool)) (n : ℕ)
    (apart : (m : ℕ) → (m == n) ≡ false → T m ≡ []) where
  given : Given hosts a b (Own a b) (Heard a b)
  given = all_given hosts a b ours

  -- on each link the law's receiver has heard the connection's CLS
  abbrev pub IsFixed : (ms : List Moment) → Lawful hosts ms → ℕ → Type 0
  IsFixed ms l c = (m : ℕ) → (((at_now hosts a b ours ms l).j m).x.receiver.over c ≡ true) × (((at_now hosts a b ours ms l).j m).x.sender.sent c ≡ T m)

  -- the receiving life's connection is such a one
  pub record Fixed (ms : List Moment) (l : Lawful hosts ms) (t : Life) : Type 0 where
    pub late : IsOf t (present_in a b ms)
    pub g : ℕ
    pub own : Own a b ms t.socket t.foreign t.own_stamp g
    pub fixed : IsFixed ms l (numbered t.socket t.foreign g)
    pub early : (s : Life) → IsOf s (take (since a b ms) (lives_in ms)) → Answers hosts a b ours ms s (own_request t)
        → (s.messages ≡ 0) × (s.bits ≡ [])

  -- who sent it
  pub record Source (ms : List Moment) (t : Life) : Type 0 where
    pub sender : Life
    pub there : IsOf sender (lives_in ms)
    pub matches : Match (crossings_of ms) t sender
    pub messages : sender.messages ≡ length (T n)

  pub record Nothing (ms : List Moment) (t : Life) : Type 0 where
    pub none : T n ≡ []
    pub all : (s : Life) → IsOf s (lives_in ms) → Answers hosts a b ours ms s (own_request t)
        → (s.messages ≡ 0) × (s.bits ≡ [])

  -- or the life is of before both met last
  pub record Done (ms : List Moment) (t : Life) : Type 0 where
    pub early : IsOf t (take (since a b ms) (lives_in ms))
    pub over : t.ended ≡ true
    pub done : Nothing ms t ⊎ ((o : Source ms t) × (o.sender.ended ≡ true))

  -- ---- while both are in one stay

  module _ (ms : List Moment) (l : Lawful hosts ms) (t : Life) (of_host : t.host ≡ a) (of_peer : t.peer ≡ b) (kind : receives t ≡ true) (h : Fixed ms l t) where
    abbrev w : Whole a b (Own a b) (Heard a b) ms
    w = at_now hosts a b ours ms l

    abbrev c : ℕ
    c = numbered t.socket t.foreign h.g

    t_in : IsOf t (lives_in ms)
    t_in = of_drop (since a b ms) t (lives_in ms) h.late

    no_other : (m : ℕ) (first : List Bool) (more : List (List Bool)) → T n ≡ [] → T m ≡ first ∷ more → ⊥
    no_other m first more none some = by (m == n) refl where
      by : (v : Bool) → (m == n) ≡ v → ⊥
      by true e = absurd (let no : first ∷ more ≡ [] = sym some ∙ ap T (eqb-true m n e) ∙ none in cc)
      by false e = absurd (let no : first ∷ more ≡ [] = sym some ∙ apart m e in cc)

    -- where nothing was sent, no life that answers it sent anything
    module _ (none : T n ≡ []) (s : Life) (i : IsOf s (present_in a b ms))
        (k : Answers hosts a b ours ms s (own_request t)) where
      abbrev u : PresentS a b (Own a b) (Heard a b) ms w.j s
      u = w.sending s i k.host k.peer k.sending

      not_there : (first : List Bool) (more : List (List Bool)) → (w.j u.link).x.sender.sent (numbered s.foreign s.socket u.g) ≡ first ∷ more → ⊥
      not_there first more e =
          subst (λ (z : Life). (q : PresentR a b (Own a b) (Heard a b) ms w.j z) → numbered z.socket z.foreign q.g ≡ numbered s.foreign s.socket u.g → ⊥) (sym same) known r.is r.name where
            safe : IsSafe (w.j u.link).x (numbered s.foreign s.socket u.g)
            safe = safe_inv (w.j u.link).x (w.j u.link).joint.inv_x (numbered s.foreign s.socket u.g)

            granted : 1 ≤ ((w.j u.link).x.receiver.granted (numbered s.foreign s.socket u.g)).messages
            granted =
                let within : length ((w.j u.link).x.sender.sent (numbered s.foreign s.socket u.g)) + ((w.j u.link).x.receiver.returned (numbered s.foreign s.socket u.g)).messages ≤ ((w.j u.link).x.receiver.granted (numbered s.foreign s.socket u.g)).messages
                = safe.sent.in_messages in
                let some : length ((w.j u.link).x.sender.sent (numbered s.foreign s.socket u.g)) ≡ length (first ∷ more) = ap (λ (ts : List (List Bool)). length ts) e in
                let one : 1 ≤ length (first ∷ more) = some_long first more in
                omega (arith, within, some, one)

            r : HasR a b (Own a b) (Heard a b) ms w.j u.link (numbered s.foreign s.socket u.g)
            r = w.has_receiver u.link (numbered s.foreign s.socket u.g) granted

            pairs : Match (crossings_of ms) r.life s
            pairs = one_matches a b (Own a b) (Heard a b) ms (given.matched ms l) w r.life s r.is.g u.g r.there i (r.host, r.peer) (k.host, k.peer) r.kind (sym r.name) r.is.own u.heard

            same : r.life ≡ t
            same = one_own hosts ms l r.life t (ours_of hosts r.life a b ours (r.host, r.peer)) (ours_of hosts t a b ours (of_host, of_peer)) (of_drop (since a b ms) r.life (lives_in ms) r.there) t_in (same_Some (own_request r.life) (own_request t) (sym pairs.answered ∙ k.is))

            known : (q : PresentR a b (Own a b) (Heard a b) ms w.j t) → numbered t.socket t.foreign q.g ≡ numbered s.foreign s.socket u.g → ⊥
            known q name =
                let same_g : h.g ≡ q.g = one_number hosts a b ours ms l t.socket t.foreign t.own_stamp h.g q.g h.own q.own in
                let it_is : numbered s.foreign s.socket u.g ≡ numbered t.socket t.foreign h.g = sym name ∙ ap (λ (k : ℕ). numbered t.socket t.foreign k) (sym same_g) in
                no_other u.link first more none (sym (h.fixed u.link).1 ∙ ap (λ (k : ℕ). (w.j u.link).x.sender.sent k) (sym it_is) ∙ e)

      nothing : (s.messages ≡ 0) × (s.bits ≡ [])
      nothing = by ((w.j u.link).x.sender.sent (numbered s.foreign s.socket u.g)) refl where
        by : (ts : List (List Bool)) → (w.j u.link).x.sender.sent (numbered s.foreign s.socket u.g) ≡ ts → (s.messages ≡ 0) × (s.bits ≡ [])
        by [] e = (u.gave.messages ∙ ap (λ (ts : List (List Bool)). length ts) e, u.gave.bits ∙ ap all_bits e)
        by (m ∷ more) e = absurd (not_there m more e)

    through : Nothing ms t ⊎ ((o : Source ms t) × (stay.stays b a (events_of ms) ≡ false → o.sender.ended ≡ true))
    through = by (T n) refl where
      by : (ts : List (List Bool)) → T n ≡ ts → Nothing ms t ⊎ ((o : Source ms t) × (stay.stays b a (events_of ms) ≡ false → o.sender.ended ≡ true))
      by [] e = inl (record { none = e; all = λ s i k. each s k (of_parts (since a b ms) s (lives_in ms) i) }) where
        each : (s : Life) → Answers hosts a b ours ms s (own_request t)
            → IsOf s (take (since a b ms) (lives_in ms)) ⊎ IsOf s (drop (since a b ms) (lives_in ms))
            → (s.messages ≡ 0) × (s.bits ≡ [])
        each s k (inl early) = h.early s early k
        each s k (inr late) = nothing e s late k
      by (m ∷ more) e = inr (
        record {
          sender = s.life;
          there = of_drop (since a b ms) s.life (lives_in ms) s.there;
          matches = one_matches a b (Own a b) (Heard a b) ms (given.matched ms l) w t s.life h.g s.is.g h.late s.there (of_host, of_peer) (s.host, s.peer) kind s.name h.own s.is.heard;
          messages = s.is.gave.messages ∙ ap (λ (k : ℕ). length ((w.j k).x.sender.sent (numbered s.life.foreign s.life.socket s.is.g))) s.link ∙ ap (λ (k : ℕ). length ((w.j n).x.sender.sent k)) s.name ∙ ap (λ (ts : List (List Bool)). length ts) (h.fixed n).1;
        },
        s.is.over,
      ) where
        s : HasS a b (Own a b) (Heard a b) ms w.j n c
        s = w.has_sender n c (λ none. absurd (let no : m ∷ more ≡ [] = sym e ∙ sym (h.fixed n).1 ∙ none in cc))

    fixed_over : stay.stays a b (events_of ms) ≡ false → t.ended ≡ true
    fixed_over left = (w.receiving t h.late of_host of_peer kind).over left

  -- ---- a moment more

  module _ (z : Moment) (ms : List Moment) (l : Lawful hosts (z ∷ ms)) where
    fixed_on : stay.begins a b (event_in z) (events_of ms) ≡ false → (c : ℕ) → IsFixed ms (below hosts z ms l) c → IsFixed (z ∷ ms) l c
    fixed_on none c f m = (still_over (stay.stays a b (events_of (z ∷ ms))) refl, still_sent (stay.stays b a (events_of (z ∷ ms))) refl ∙ (f m).1) where
      old : Joined a b (suc m) ms
      old = (at_now hosts a b ours ms (below hosts z ms l)).j m

      later : Keeps (stay.stays a b (events_of (z ∷ ms))) (stay.stays b a (events_of (z ∷ ms))) ((at_now hosts a b ours ms (below hosts z ms l)).j m).x ((at_now hosts a b ours (z ∷ ms) l).j m).x
      later = whole_keeps hosts a b (Own a b) (Heard a b) (all_given hosts a b ours) z ms l none m

      still_over : (v : Bool) → stay.stays a b (events_of (z ∷ ms)) ≡ v
          → ((at_now hosts a b ours (z ∷ ms) l).j m).x.receiver.over c ≡ true
      still_over false left = (later.settled left c).over ∙ (f m).0
      still_over true on =
          ap (λ (r : Receiver). r.over c) (((at_now hosts a b ours (z ∷ ms) l).j m).received_a on ∙ ap (λ (cs : List calls.Moment). receiver_now numbered b (suc m) cs) own) ∙ kept.over where
            both_on : (keeps a b (event_in z) (events_of ms) ≡ true) × (stay.stays a b (events_of ms) ≡ true)
            both_on = stays_on a b (event_in z) (events_of ms) on none

            own : own_calls a b (z ∷ ms) ≡ calls_by a b z ms ++ own_calls a b ms
            own = own_if (keeps a b (event_in z) (events_of ms)) (calls_by a b z ms ++ own_calls a b ms) [] both_on.0

            kept : overs.Kept (receiver_now numbered b (suc m) (own_calls a b ms)) (receiver_now numbered b (suc m) (calls_by a b z ms ++ own_calls a b ms)) c
            kept =
                overs.kept_calls numbered numbered_tells b (suc m) c (calls_by a b z ms) (own_calls a b ms)
                (subst (λ (cs : List calls.Moment). calls.IsHistory b cs) own (chain hosts l.0 (z ∷ ms) l.1 l.2 a b ours).0)
                (subst (λ (cs : List calls.Moment). calls.AreAllowed numbered b (suc m) cs) own (all_allowed hosts l.0 (suc m) (no_zero m) a b ours (z ∷ ms) l.1 l.2))
                (ap (λ (r : Receiver). r.over c) (sym (((at_now hosts a b ours ms (below hosts z ms l)).j m).received_a both_on.1)) ∙ (f m).0)

      still_sent : (v : Bool) → stay.stays b a (events_of (z ∷ ms)) ≡ v
          → ((at_now hosts a b ours (z ∷ ms) l).j m).x.sender.sent c ≡ ((at_now hosts a b ours ms (below hosts z ms l)).j m).x.sender.sent c
      still_sent false left = later.sent left c
      still_sent true on =
          ap (λ (s : Sender). s.sent c) (((at_now hosts a b ours (z ∷ ms) l).j m).sent_b on ∙ ap (λ (cs : List calls.Moment). sender_now numbered_by_peer a (suc m) cs) own) ∙ kept.sent
          ∙ ap (λ (s : Sender). s.sent c) (sym (((at_now hosts a b ours ms (below hosts z ms l)).j m).sent_b both_on.1)) where
            both_on : (keeps b a (event_in z) (events_of ms) ≡ true) × (stay.stays b a (events_of ms) ≡ true)
            both_on = stays_on b a (event_in z) (events_of ms) on (sym (begins_either a b (event_in z) (events_of ms)) ∙ none)

            own : own_calls b a (z ∷ ms) ≡ calls_by b a z ms ++ own_calls b a ms
            own = own_if (keeps b a (event_in z) (events_of ms)) (calls_by b a z ms ++ own_calls b a ms) [] both_on.0

            kept : closed.Kept (sender_now numbered_by_peer a (suc m) (own_calls b a ms)) (sender_now numbered_by_peer a (suc m) (calls_by b a z ms ++ own_calls b a ms)) c
            kept =
                closed.kept_calls numbered_by_peer turned_tells a (suc m) c (calls_by b a z ms) (own_calls b a ms)
                (subst (λ (cs : List calls.Moment). calls.IsHistory a cs) own (chain hosts l.0 (z ∷ ms) l.1 l.2 b a (ours.1, ours.0)).0)
                (subst (λ (cs : List calls.Moment). calls.AreAllowed numbered_by_peer a (suc m) cs) own (((at_now hosts a b ours (z ∷ ms) l).j m).allowed_b on))
                (ap (λ (s : Sender). s.closed c) (sym (((at_now hosts a b ours ms (below hosts z ms l)).j m).sent_b both_on.1)) ∙ ((at_now hosts a b ours ms (below hosts z ms l)).j m).joint.inv_x.ends.passed c (f m).0)

    source_on : (t : Life) → (t.host ≡ a) × (t.peer ≡ b) → IsOf t (lives_in ms) → (o : Source ms t)
        → o.sender.ended ≡ true → (k : Source (z ∷ ms) t) × (k.sender.ended ≡ true)
    source_on t of i o over = (
      record { sender = o.sender; there = stays_in z ms o.sender o.there over; matches = match_grows hosts z ms (below hosts z ms l) t o.sender (ours_of hosts t a b ours of) i o.there o.matches; messages = o.messages },
      over,
    )

    done_on : (t : Life) → (t.host ≡ a) × (t.peer ≡ b) → IsOf t (lives_in ms)
        → IsOf t (take (since a b (z ∷ ms)) (lives_in (z ∷ ms))) → t.ended ≡ true
        → Nothing ms t ⊎ ((o : Source ms t) × (o.sender.ended ≡ true)) → Done (z ∷ ms) t
    done_on t of i early over (inl k) = record { early = early; over = over; done = inl (record { none = k.none; all = none_on hosts a b ours z ms l t of early k.all }) }
    done_on t of i early over (inr o) = record { early = early; over = over; done = inr (source_on t of i o.0 o.1) }

    still_fixed : (t : Life) → Fixed ms (below hosts z ms l) t → stay.begins a b (event_in z) (events_of ms) ≡ false → Fixed (z ∷ ms) l ((grown z ms).change t)
    still_fixed t h none = record {
      late = subst (λ (k : ℕ). IsOf ((grown z ms).change t) (drop k (lives_in (z ∷ ms)))) (sym (since_on a b z ms none))
          (subst (λ (ys : List Life). IsOf ((grown z ms).change t) ys) (sym (ap (drop (since a b ms)) (grown z ms).is ∙ drop_grown (grown z ms).change (since a b ms) (lives_in ms) (grown z ms).more (since_bound a b ms)))
          (of_left ((grown z ms).change t) (map (grown z ms).change (present_in a b ms)) (grown z ms).more (of_map (grown z ms).change t (present_in a b ms) h.late)));
      g = h.g;
      own = renamed t ((grown z ms).change t) ((grown z ms).names t) (given.own_on z ms l none t.socket t.foreign t.own_stamp h.g h.own);
      fixed = fixed_named t ((grown z ms).change t) ((grown z ms).names t) (fixed_on none (numbered t.socket t.foreign h.g) h.fixed);
      early = λ s i k.
          (let o : Before hosts a b ours z ms l s = before hosts a b ours z ms l s k.host k.peer k.sending i in
          h.early s (o.early none) (answers_before hosts a b ours z ms l s (own_request t) o.there (record { sending = k.sending; host = k.host; peer = k.peer; is = k.is ∙ ap (λ (v : Name). Some v) (named_request t ((grown z ms).change t) ((grown z ms).names t)) })));
    } where
      renamed : (x y : Life) → Named x y → Own a b (z ∷ ms) x.socket x.foreign x.own_stamp h.g → Own a b (z ∷ ms) y.socket y.foreign y.own_stamp h.g
      renamed x y k o =
          subst (λ (v : ℕ). Own a b (z ∷ ms) v y.foreign y.own_stamp h.g) (sym k.socket)
          (subst (λ (v : ℕ). Own a b (z ∷ ms) x.socket v y.own_stamp h.g) (sym k.foreign) (subst (λ (v : ℕ). Own a b (z ∷ ms) x.socket x.foreign v h.g) (sym k.own) o))

      fixed_named : (x y : Life) → Named x y → IsFixed (z ∷ ms) l (numbered x.socket x.foreign h.g) → IsFixed (z ∷ ms) l (numbered y.socket y.foreign h.g)
      fixed_named x y k o = subst (λ (v : ℕ). IsFixed (z ∷ ms) l (numbered v y.foreign h.g)) (sym k.socket) (subst (λ (v : ℕ). IsFixed (z ∷ ms) l (numbered x.socket v h.g)) (sym k.foreign) o)

    pub next_is : (t : Life) → t.host ≡ a → t.peer ≡ b → receives t ≡ true → IsOf t (lives_in ms) → Fixed ms (below hosts z ms l) t ⊎ Done ms t → Fixed (z ∷ ms) l ((grown z ms).change t) ⊎ Done (z ∷ ms) ((grown z ms).change t)
    next_is t host peer kind i (inr d) = inr (subst (λ (v : Life). Done (z ∷ ms) v) (sym ((grown z ms).still t d.over)) (done_on t (host, peer) i (early_on hosts a b ours z ms l t d.over i (λ e. d.early)) d.over d.done))
    next_is t host peer kind i (inl h) = by (stay.begins a b (event_in z) (events_of ms)) refl where
      settled : stay.stays b a (events_of ms) ≡ false → Nothing ms t ⊎ ((o : Source ms t) × (stay.stays b a (events_of ms) ≡ false → o.sender.ended ≡ true)) → Nothing ms t ⊎ ((o : Source ms t) × (o.sender.ended ≡ true))
      settled left (inl k) = inl k
      settled left (inr o) = inr (o.0, o.1 left)

      by : (v : Bool) → stay.begins a b (event_in z) (events_of ms) ≡ v → Fixed (z ∷ ms) l ((grown z ms).change t) ⊎ Done (z ∷ ms) ((grown z ms).change t)
      by false none = inl (still_fixed t h none)
      by true new =
          let k : Fresh a b (event_in z) (events_of ms) = fresh hosts a b ours z ms l new in
          let over : t.ended ≡ true = fixed_over ms (below hosts z ms l) t host peer kind h k.left in
          inr (subst (λ (v : Life). Done (z ∷ ms) v) (sym ((grown z ms).still t over))
          (done_on t (host, peer) i (early_on hosts a b ours z ms l t over i (λ e. absurd (let no : true ≡ false = sym new ∙ e in cc))) over (settled k.peer_left (through ms (below hosts z ms l) t host peer kind h))))

  -- ---- so the life that it matches has sent just this

  pub has_sent : (ms : List Moment) (l : Lawful hosts ms) (t : Life) → t.host ≡ a → t.peer ≡ b → receives t ≡ true → IsOf t (lives_in ms) → Fixed ms l t ⊎ Done ms t → (s : Life) → IsOf s (lives_in ms) → Match (crossings_of ms) t s
      → s.messages ≡ length (T n)
  has_sent ms l t host peer kind i state s there m = by state where
    nothing_is : Nothing ms t → s.messages ≡ length (T n)
    nothing_is k = (k.all s there (record { sending = m.sending; host = sym m.peers.0 ∙ peer; peer = m.peers.1 ∙ host; is = m.answered })).0 ∙ sym (ap (λ (ts : List (List Bool)). length ts) k.none)

    source_is : Source ms t → s.messages ≡ length (T n)
    source_is o = ap (λ (v : Life). v.messages) (sym (one_sender hosts ms l t o.sender s (ours_of hosts t a b ours (host, peer)) o.there there o.matches m)) ∙ o.messages

    either : {P : Source ms t → Type 0} → Nothing ms t ⊎ ((o : Source ms t) × P o) → s.messages ≡ length (T n)
    either (inl k) = nothing_is k
    either (inr o) = source_is o.0

    by : Fixed ms l t ⊎ Done ms t → s.messages ≡ length (T n)
    by (inl h) = either (through ms l t host peer kind h)
    by (inr d) = either d.done

  -- and there is such a life where this isn't nothing
  pub has_source : (ms : List Moment) (l : Lawful hosts ms) (t : Life) → t.host ≡ a → t.peer ≡ b → receives t ≡ true → Fixed ms l t ⊎ Done ms t → (T n ≡ [] → ⊥) → (s : Life) × IsOf s (lives_in ms) × Match (crossings_of ms) t s
  has_source ms l t host peer kind state some = by state where
    either : {P : Source ms t → Type 0} → Nothing ms t ⊎ ((o : Source ms t) × P o) → (s : Life) × IsOf s (lives_in ms) × Match (crossings_of ms) t s
    either (inl k) = absurd (some k.none)
    either (inr o) = (o.0.sender, o.0.there, o.0.matches)

    by : Fixed ms l t ⊎ Done ms t → (s : Life) × IsOf s (lives_in ms) × Match (crossings_of ms) t s
    by (inl h) = either (through ms l t host peer kind h)
    by (inr d) = either d.done
