-- An open receiving life counts all that came in on its link. So data of which a host got RFNM are among its bits,
-- where it matches the life that sent them.
use Rattle.world_keeps_streams.proofs.Common.{◌≡◌, ◌⊎◌, inl, inr, ℕ, suc, ◌+◌, ◌<◌, ◌≤◌, ◌==◌, Bool, true, false, if◌then◌else◌, List, [], ◌∷◌, ◌++◌, length, map, Option, Some, None, refl, ap, sym, subst, ◌∙◌, eq-eqb, arith, Contains, option_map, append_assoc, length-append, Seen, Host, SinceLastOut, went_out, Flow, Crossing, HostMessage, is_send_socket, orders_of, End, waiting_in, Inv, came_inv, some_is, waiting_of, waits_of, HasClosed, name_now, numbered, receiver_now, closed_first, IsBeside, Called, Kept, IsLawful, Asked, Crossed, Moment, contacts_of, crossings_of, WorldState, kept_fated, odd_send, send_odd, own_calls, IsClosedByPartner, WasClosedByPartner, Network, AreOurs, all_ours, lives_among, mixed_kept, IsSentIn, end_link}
use Rattle.stream_law.specs.Streams.{Stream, Box, Empty, Taken, Waiting}
use Rattle.promise.specs.Arrived.{IsCounted, ArrivedBook, HasArrived}
use Rattle.promise.specs.Ends.{Course, Going, stage}
use Rattle.promise.specs.Formed.{CrossedAt, texts_for, texts_of, texts_on, flow_of, link_of, named_in, own_named, partner_named}
use Rattle.promise.specs.Safe.{Match, Name, control_flow, last_out, own_request, before, named, receives, sends}
use Rattle.world_keeps_lives.proofs.lemmas.{Linked, LinkedBook, named_there, same_out}
use Rattle.interface.specs.declared.crossing.Answer.TheVariants as answer
use Rattle.interface.specs.declared.crossing.Crossing.TheVariants as crossing
use Rattle.stream_law.specs.Receivers.{Receiver}
use Rattle.promise.specs.declared.life.Fate.TheVariants as fate
use Rattle.promise.specs.declared.life.Life.{Life}
use Rattle.net_sim.specs.Told.{kept_in}
use Rattle.world_keeps_streams.specs.Answered as moments
use Rattle.world_keeps_streams.proofs.Books.All.{all_given}
use Rattle.world_keeps_streams.proofs.Books.Answered.{answered}
use Rattle.world_keeps_streams.proofs.Books.Arrives.{rest_lawful}
use Rattle.world_keeps_streams.proofs.Books.Books.{one_receiver}
use Rattle.world_keeps_streams.proofs.Books.Came.{match_named, partner_named as request_named}
use Rattle.world_keeps_streams.proofs.Books.CameIn.{came_as}
use Rattle.world_keeps_streams.proofs.Books.Clauses.{OldGranter, settled_s}
use Rattle.world_keeps_streams.proofs.Books.Closes as closes
use Rattle.world_keeps_streams.proofs.Books.Closes.{AtLink}
use Rattle.world_keeps_streams.proofs.Books.Ended.{all_crossings}
use Rattle.world_keeps_streams.proofs.Books.Ending.{at_link, never_closed}
use Rattle.world_keeps_streams.proofs.Books.Firsts.{sent_in, linked, together}
use Rattle.world_keeps_streams.proofs.Books.Later.{closes_whole, named_request}
use Rattle.world_keeps_streams.proofs.Books.Placed.{WentAt, before_end, before_later, crossed_end, crossed_one, link_later, none_out, texts_past, went_at}
use Rattle.world_keeps_streams.proofs.Books.Run.{whole}
use Rattle.world_keeps_streams.proofs.Books.Source.{Granter, granted_of}
use Rattle.world_keeps_streams.proofs.Books.Unasked.{life_of_link, own_below, partner_below}
use Rattle.world_keeps_streams.proofs.Books.Whole.{Whole, since}
use Rattle.world_keeps_streams.proofs.Ends.Courses.{course_key, course_same, key_of}
use Rattle.world_keeps_streams.proofs.Ends.Fits.{fits_now}
use Rattle.world_keeps_streams.proofs.Ends.Kinds.{end_of, stage_of}
use Rattle.world_keeps_streams.proofs.Ends.Ties.{entry_is}
use Rattle.world_keeps_streams.proofs.Lives.Fates.{beside_of, beside_over}
use Rattle.world_keeps_streams.proofs.Lives.Lists.{Grown, IsOf, Named, contains, grown, is_of, named_itself, of_drop, of_left, of_map, of_parts}
use Rattle.world_keeps_streams.proofs.Requests.Names.{request_grows}
use Rattle.world_keeps_streams.proofs.Requests.Sides.{Heard, Lawful, Own, lives_in, book_lawful}
use Rattle.interface.proofs.lemmas.{unlike}
use Rattle.world_keeps_streams.proofs.Ours.{ours_of, ours_receiver, ours_sender}
use Rattle.world_keeps_streams.proofs.Lives.Among.{among_now, now_kept}

-- ---- in the law of streams: a receiver that hasn't closed first has taken all that came

no_waiting : (c : ℕ) (box : Box) → ((k size : ℕ) (bits : List Bool) → box ≡ Waiting k size bits → c ≡ k)
    → waiting_of c box ≡ length (waiting_in box)
no_waiting c Empty same = refl
no_waiting c Taken same = refl
no_waiting c (Waiting k size bits) same = let here : (c == k) ≡ true =
    eq-eqb c k (same k size bits refl) in rw here refl

took_all : (x : Stream) → Inv x → (c : ℕ) → x.receiver.end ≡ Some c → x.receiver.first c ≡ false
    → length (x.receiver.taken c) ≡ x.receiver.came c
took_all x h c end unclosed = by (x.receiver.over c) refl where
  all : length (x.sender.sent c) ≡ x.receiver.came c + waiting_of c x.box
  all = h.arrivals.came c

  unheard_by : x.receiver.over c ≡ false → (v : Bool) → x.receiver.closed ≡ v
      → length (x.receiver.taken c) ≡ x.receiver.came c
  unheard_by unheard true said = absurd (unlike (x.receiver.first c) (h.arrivals.firsts c end said unheard) unclosed)
  unheard_by unheard false unsaid =
      let is : x.sender.sent c ≡ x.receiver.taken c ++ waiting_in x.box = h.arrivals.whole c end unsaid unheard in
      let long : length (x.sender.sent c) ≡ length (x.receiver.taken c) + length (waiting_in x.box) =
      ap (λ (ts : List (List Bool)). length ts) is ∙ length-append (x.receiver.taken c) (waiting_in x.box) in
      let box : waiting_of c x.box ≡ length (waiting_in x.box) =
      no_waiting c x.box (λ k size bits e. some_is c k (sym end ∙ waits_of x h k size bits e)) in
      omega (arith, all, long, box)

  by : (v : Bool) → x.receiver.over c ≡ v → length (x.receiver.taken c) ≡ x.receiver.came c
  by true heard = ap (λ (ts : List (List Bool)). length ts) (h.arrivals.settled c heard unclosed) ∙ came_inv x h c heard
  by false unheard = unheard_by unheard x.receiver.closed refl

-- ---- an open life counts all that came in

module _ (hosts : Network) (ms : List Moment) (l : Lawful hosts ms) where
  module _ (x : Life) (ours : AreOurs hosts x.host x.peer) (i : IsBeside x fate.Open (kept_in ms).book.lives (kept_in ms).fates)
      (kind : receives x ≡ true) where
    i_in : IsOf x (lives_in ms)
    i_in = beside_of (lives_in ms) (kept_in ms).fates x fate.Open i

    goes : x.ended ≡ false
    goes = beside_over (lives_in ms) (kept_in ms).fates x fate.Open (kept_fated ms) i

    abbrev f : AtLink hosts ms x
    f = at_link hosts ms l x ours (beside_of (lives_in ms) (kept_in ms).fates x fate.Open i)
        (beside_over (lives_in ms) (kept_in ms).fates x fate.Open (kept_fated ms) i) kind

    abbrev n : ℕ
    n = closes.n hosts ms l x f

    abbrev c : ℕ
    c = closes.c hosts ms l x f

    abbrev stream : Stream
    stream = ((closes.w hosts ms l x f).j n).x

    inv : Inv stream
    inv = ((closes.w hosts ms l x f).j n).joint.inv_x

    end : stream.receiver.end ≡ Some c
    end = ap (λ (r : Receiver). r.end) (closes.same hosts ms l x f) ∙ (closes.law hosts ms l x f).end
        ∙ ap (λ (k : ℕ). Some k) (closes.name_is hosts ms l x f)

    end_now : (receiver_now numbered x.peer (suc n) (own_calls x.host x.peer ms)).end
        ≡ Some (name_now numbered x.peer (own_calls x.host x.peer ms) x.socket x.foreign)
    end_now = (closes.law hosts ms l x f).end ∙ ap (λ (k : ℕ). Some k) (closes.name_is hosts ms l x f)
        ∙ ap (λ (k : ℕ). Some k) (closes.place hosts ms l x f).1

    unclosed : stream.receiver.first c ≡ false
    unclosed = by (stream.receiver.first c) refl where
      by : (v : Bool) → stream.receiver.first c ≡ v → v ≡ false
      by false e = refl
      by true e =
          let now : (receiver_now numbered x.peer (suc n) (own_calls x.host x.peer ms)).first c ≡ true =
          ap (λ (r : Receiver). r.first c) (sym (closes.same hosts ms l x f)) ∙ e in
          absurd (never_closed hosts ms l x ours i kind n end_now
          (subst (λ (k : ℕ). HasClosed numbered x.peer (suc n) k (own_calls x.host x.peer ms))
          (closes.place hosts ms l x f).1
          (closed_first numbered x.peer (suc n) c (own_calls x.host x.peer ms) now)))

    -- where its partner's CLS has come, it was closed by that, and by no user
    closed_by_partner : (v : Bool) → stage (contacts_of ms) x (crossings_of ms) ≡ Going v true → WasClosedByPartner ms x
    closed_by_partner v is = record {
      there = contains x (lives_in ms) i_in;
      later = [];
      earlier = ms;
      is =
          refl;
      receiver = x;
      then = now;
      same = refl;
    } where
      same : stage (contacts_of ms) x (crossings_of ms) ≡ stage_of (key_of x) ms
      same = ap (λ (k : Course). k.stage)
          (sym (course_key (contacts_of ms) x (crossings_of ms)) ∙ course_same (key_of x) ms)

      second : (a b c d : Bool) → Going a b ≡ Going c d → b ≡ d
      second a b c d e = cc

      taken : (end_of (key_of x) ms).taken ≡ true
      taken = sym (second v true (end_of (key_of x) ms).gone (end_of (key_of x) ms).taken
          (sym is ∙ same ∙ (fits_now hosts ms l x fate.Open ours i).both.1 refl))

      now : IsClosedByPartner ms x
      now = record {
        there = contains x (lives_in ms) i_in;
        receiving = kind;
        goes = goes;
        end = f.end;
        closed = ap (λ (e : End). e.taken)
            (sym (entry_is hosts ms l x.host x.peer ours x.socket x.foreign f.end.end (closes.at_it hosts ms l x f).0 (closes.own hosts ms l x f) f.end.foreign).0) ∙ taken;
        link = f.link;
        linked = f.linked;
        unclosed = λ h.
            never_closed hosts ms l x ours i kind n end_now
            (subst (λ (k : ℕ). HasClosed numbered x.peer k
            (name_now numbered x.peer (own_calls x.host x.peer ms) x.socket x.foreign) (own_calls x.host x.peer ms))
            (closes.place_is hosts ms l x f) h);
      }

    pub counts_all : x.messages ≡ length (texts_on x (link_of (crossings_of ms) x) (crossings_of ms))
    counts_all =
        (closes.going hosts ms l x f).messages ∙ took_all stream inv c end unclosed ∙ sym (came_as hosts ms l x f)
        ∙ ap (λ (o : Option ℕ). length (texts_on x o (crossings_of ms)))
        (sym (end_link hosts ms l (together hosts) x (among_now hosts ms x ours (contains x (lives_in ms) i_in)) goes f.end ∙ f.linked))

-- ---- the two lives of a connection have one link

some_place : (s : Life) (o : Option ℕ) (name : Name) → named s o ≡ Some name → o ≡ Some name.place
some_place s None name e = absurd (let no : None ≡ Some name = e in cc)
some_place s (Some p) name e = ap (λ (k : ℕ). Some k)
    (at (record { place = p; own = s.foreign; foreign = s.socket }) name e) where
      at : (a b : Name) → Some a ≡ Some b → a.place ≡ b.place
      at a b f = let same : a ≡ b = cc in ap (λ (z : Name). z.place) same

-- a life's own request went out, and its partner's came in
record OwnAt (log : List Crossing) (x : Life) : Type 0 where
  message : HostMessage
  flow : message.flow ≡ control_flow x.host x.peer
  crossed : CrossedAt x.own_stamp (crossing.Out message) log

record PartnerAt (log : List Crossing) (x : Life) : Type 0 where
  message : HostMessage
  flow : message.flow ≡ control_flow x.peer x.host
  crossed : CrossedAt x.partner_stamp (crossing.In message) log

module _ (hosts : Network) (ms : List Moment) (l : Lawful hosts ms) where
  abbrev log : List Crossing
  log = crossings_of ms

  own_at : (x : Life) → AreOurs hosts x.host x.peer → IsOf x (lives_in ms) → OwnAt (crossings_of ms) x
  own_at x ours i =
      let b : LinkedBook hosts (crossings_of ms) (lives_among hosts.strange (mixed_kept hosts.strange ms).book.lives) = linked hosts ms l in
      let r : (p : Linked) × Contains b.links p × (p.life ≡ x) =
      life_of_link x b.links (subst (λ (ys : List Life). IsOf x ys) (sym b.all) (is_of x (lives_among hosts.strange (mixed_kept hosts.strange ms).book.lives) (among_now hosts ms x ours (contains x (lives_in ms) i)))) in
      subst (λ (y : Life). OwnAt (crossings_of ms) y) r.2
      (record {
        message = (b.first r.0 r.1).asked.own.message;
        flow = (b.first r.0 r.1).asked.own.flow;
        crossed =
            (b.first r.0 r.1).asked.own.crossed;
      })

  partner_at : (x : Life) → AreOurs hosts x.host x.peer → IsOf x (lives_in ms) → PartnerAt (crossings_of ms) x
  partner_at x ours i =
      let b : LinkedBook hosts (crossings_of ms) (lives_among hosts.strange (mixed_kept hosts.strange ms).book.lives) = linked hosts ms l in
      let r : (p : Linked) × Contains b.links p × (p.life ≡ x) =
      life_of_link x b.links (subst (λ (ys : List Life). IsOf x ys) (sym b.all) (is_of x (lives_among hosts.strange (mixed_kept hosts.strange ms).book.lives) (among_now hosts ms x ours (contains x (lives_in ms) i)))) in
      subst (λ (y : Life). PartnerAt (crossings_of ms) y) r.2
      (record {
        message = (b.first r.0 r.1).asked.partner.message;
        flow =
            (b.first r.0 r.1).asked.partner.flow;
        crossed = (b.first r.0 r.1).asked.partner.crossed;
      })

  module _ (x s : Life) (ours : AreOurs hosts x.host x.peer) (here : IsOf x (lives_in ms)) (there : IsOf s (lives_in ms))
      (m : Match (crossings_of ms) x s) where
    abbrev rts : OwnAt (crossings_of ms) x
    rts = own_at x ours here

    abbrev heard : PartnerAt (crossings_of ms) s
    heard = partner_at s (ours_sender hosts m ours) there

    went : WentAt heard.message x.own_stamp (crossings_of ms)
    went =
        went_at hosts.all (crossings_of ms) l.1 s.partner_stamp x.own_stamp heard.message heard.crossed
        (ap (λ (g : Flow). last_out g (before s.partner_stamp (crossings_of ms))) heard.flow
        ∙ some_place s (last_out (control_flow s.peer s.host) (before s.partner_stamp (crossings_of ms)))
        (own_request x) m.answered)

    texts : rts.message.text ≡ heard.message.text
    texts =
        let same : went.message ≡ rts.message = same_out went.message rts.message
        (crossed_one x.own_stamp (crossing.Out went.message) (crossing.Out rts.message)
        (crossings_of ms) went.crossed rts.crossed) in
        ap (λ (k : HostMessage). k.text) (sym same) ∙ went.text

    names_same : own_named (crossings_of ms) x ≡ partner_named (crossings_of ms) s
    names_same =
        named_there false x.host x.peer x.socket x.foreign x.own_stamp rts.message
        (crossings_of ms) rts.flow rts.crossed
        ∙ ap (λ (t : List Bool). named_in x.socket x.foreign (orders_of t)) texts
        ∙ ap (λ (k : ℕ). named_in k x.foreign (orders_of heard.message.text)) (sym m.sockets.1)
        ∙ ap (λ (k : ℕ). named_in s.foreign k (orders_of heard.message.text)) m.sockets.0
        ∙ sym (named_there true s.peer s.host s.foreign s.socket s.partner_stamp heard.message
        (crossings_of ms) heard.flow heard.crossed)

    pub one_link : link_of (crossings_of ms) x ≡ link_of (crossings_of ms) s
    one_link =
        ap (λ (v : Bool). if v then own_named (crossings_of ms) x else partner_named (crossings_of ms) x) m.receiving
        ∙ names_same
        ∙ sym (ap (λ (v : Bool). if v then own_named (crossings_of ms) s else partner_named (crossings_of ms) s)
        (send_odd s.socket m.sending))

    pub flows : (k : ℕ) → flow_of x k ≡ flow_of s k
    flows k =
        ap (λ (v : Bool). if v then to x.peer x.host else to x.host x.peer) m.receiving
        ∙ ap (λ (h : Host). to h x.host) m.peers.0 ∙ ap (λ (h : Host). to s.host h) (sym m.peers.1)
        ∙ sym (ap (λ (v : Bool). if v then to s.peer s.host else to s.host s.peer) (send_odd s.socket m.sending)) where
          to : Host → Host → Flow
          to a b = record { source = a; destination = b; link = record { 0 = k } }

-- ---- lives, later

pub record LaterLife (ms : List Moment) (x : Life) : Type 0 where
  pub life : Life
  pub there : IsOf life (lives_in ms)
  pub names : Named x life
  pub counts : x.messages ≤ life.messages

pub later_life : (newer older : List Moment) (x : Life) → IsOf x (lives_in older) → LaterLife (newer ++ older) x
later_life [] older x i = record { life = x; there = i; names = named_itself x; counts = omega arith }
later_life (y ∷ newer) older x i =
    let o : LaterLife (newer ++ older) x = later_life newer older x i in
    let g : Grown (lives_in (newer ++ older)) (lives_in (y ∷ (newer ++ older))) = grown y (newer ++ older) in
    let k : Named o.life (g.change o.life) = g.names o.life in
    record {
      life = g.change o.life;
      there = subst (λ (ys : List Life). IsOf (g.change o.life) ys) (sym g.is)
          (of_left (g.change o.life) (map g.change (lives_in (newer ++ older))) g.more
          (of_map g.change o.life (lives_in (newer ++ older)) o.there));
      names = record {
        host = k.host ∙ o.names.host;
        socket = k.socket ∙ o.names.socket;
        peer = k.peer ∙ o.names.peer;
        foreign = k.foreign ∙ o.names.foreign;
        own = k.own ∙ o.names.own;
        partner = k.partner ∙ o.names.partner;
      };
      counts = (let first : x.messages ≤ o.life.messages =
          o.counts in let next : o.life.messages ≤ (g.change o.life).messages =
          g.counts o.life in omega (arith, first, next));
    }

-- what is so of a life, but for what it counts, has and was granted, is so of one with its names
abbrev pub bare : Host → ℕ → Host → ℕ → ℕ → ℕ → Life
bare host socket peer foreign own partner = record {
  host = host;
  socket = socket;
  peer = peer;
  foreign = foreign;
  own_stamp = own;
  partner_stamp = partner;
  bits = [];
  messages = 0;
  granted = record { messages = 0; bits = 0 };
  returned = record { messages = 0; bits = 0 };
  ended = false;
}

abbrev pub bare_of : Life → Life
bare_of x = bare x.host x.socket x.peer x.foreign x.own_stamp x.partner_stamp

pub by_names : (P : Life → Type 0) (x y : Life) → Named x y → P (bare_of x) → P (bare_of y)
by_names P x y n p =
    subst (λ (k : Host). P (bare k y.socket y.peer y.foreign y.own_stamp y.partner_stamp)) (sym n.host)
    (subst (λ (k : ℕ). P (bare x.host k y.peer y.foreign y.own_stamp y.partner_stamp)) (sym n.socket)
    (subst (λ (k : Host). P (bare x.host x.socket k y.foreign y.own_stamp y.partner_stamp)) (sym n.peer)
    (subst (λ (k : ℕ). P (bare x.host x.socket x.peer k y.own_stamp y.partner_stamp)) (sym n.foreign)
    (subst (λ (k : ℕ). P (bare x.host x.socket x.peer x.foreign k y.partner_stamp)) (sym n.own)
    (subst (λ (k : ℕ). P (bare x.host x.socket x.peer x.foreign x.own_stamp k)) (sym n.partner) p)))))

-- where a message is on the link of such a life, which counts this many
record Sits (log : List Crossing) (place : ℕ) (m : HostMessage) (count : ℕ) (x : Life) : Type 0 where
  flow : option_map (flow_of x) (link_of log x) ≡ Some m.flow
  own : x.own_stamp < place
  partner : x.partner_stamp < place
  counted : length (texts_on x (link_of log x) (before place log)) < count

counted_by : (log : List Crossing) (place : ℕ) (m : HostMessage) (count : ℕ) (x : Life) → count ≤ x.messages
    → Sits log place m count (bare_of x) → IsCounted log place m x
counted_by log place m count x less s = record {
  flow = s.flow;
  own = s.own;
  partner = s.partner;
  counted =
      (let c : length (texts_on x (link_of log x) (before place log)) < count = s.counted in omega (arith, c, less));
}

-- ---- who granted what was sent

pub granter : (hosts : Network) (ms : List Moment) → Lawful hosts ms → (s : Life) → AreOurs hosts s.host s.peer
    → IsOf s (lives_in ms) → sends s ≡ true
    → 1 ≤ s.messages → (r : Life) × IsOf r (lives_in ms) × Match (crossings_of ms) r s
granter hosts ms l s ours i kind some = elim (of_parts (since s.peer s.host ms) s (lives_in ms) i) [
  | inl early ↦ old (settled_s hosts s.peer s.host (Own s.peer s.host) (Heard s.peer s.host)
      (all_given hosts s.peer s.host (ours.1, ours.0)) ms l s early refl refl kind).granted
  | inr late ↦
      (let w : Whole s.peer s.host (Own s.peer s.host) (Heard s.peer s.host) ms =
      whole hosts s.peer s.host (Own s.peer s.host) (Heard s.peer s.host) (all_given hosts s.peer s.host (ours.1, ours.0)) ms l in
      new w (granted_of s.peer s.host (Own s.peer s.host) (Heard s.peer s.host) ms
      ((all_given hosts s.peer s.host (ours.1, ours.0)).matched ms l) w s late refl refl kind))
] where
  none : s.messages ≡ 0 → (r : Life) × IsOf r (lives_in ms) × Match (crossings_of ms) r s
  none e = absurd (omega (arith, e, some))

  old : ((s.messages ≡ 0) × (s.bits ≡ [])) ⊎ OldGranter ms s
      → (r : Life) × IsOf r (lives_in ms) × Match (crossings_of ms) r s
  old (inl e) = none e.0
  old (inr o) = (o.receiver, o.there, o.matches)

  new : (w : Whole s.peer s.host (Own s.peer s.host) (Heard s.peer s.host) ms)
      → ((s.messages ≡ 0) × (s.bits ≡ [])) ⊎ Granter s.peer s.host (Own s.peer s.host) (Heard s.peer s.host) ms w.j s
      → (r : Life) × IsOf r (lives_in ms) × Match (crossings_of ms) r s
  new w (inl e) = none e.0
  new w (inr o) = (o.receiver, of_drop (since s.peer s.host ms) o.receiver (lives_in ms) o.there, o.matches)

-- ---- lives that matched still do

match_sender : (log : List Crossing) (x s t : Life) → Named s t → Match log x s → Match log x t
match_sender log x s t n m = record {
  receiving = m.receiving;
  sending = ap is_send_socket n.socket ∙ m.sending;
  peers = (m.peers.0 ∙ sym n.host, n.peer ∙ m.peers.1);
  sockets = (m.sockets.0 ∙ sym n.socket, n.foreign ∙ m.sockets.1);
  asked = m.asked ∙ ap (λ (r : Name). Some r) (sym (named_request s t n));
  answered = request_named log s t n ∙ m.answered;
}

pub match_later : (hosts : Network) (newer older : List Moment) → Lawful hosts older → (x s y t : Life)
    → AreOurs hosts x.host x.peer
    → IsOf x (lives_in older) → IsOf s (lives_in older) → Named x y → Named s t → Match (crossings_of older) x s
    → Match (crossings_of (newer ++ older)) y t
match_later hosts newer older l x s y t ours i j n k m =
    match_named (crossings_of (newer ++ older)) x y t n (match_sender (crossings_of (newer ++ older)) x s t k
    (subst (λ (log : List Crossing). Match log x s) (sym (all_crossings newer older))
    (record {
      receiving = m.receiving;
      sending = m.sending;
      peers = m.peers;
      sockets = m.sockets;
      asked = request_grows hosts older l (crossings_of newer) x ours (contains x (lives_in older) i) ∙ m.asked;
      answered = request_grows hosts older l (crossings_of newer) s (ours_sender hosts m ours) (contains s (lives_in older) j) ∙ m.answered;
    })))

-- ---- a message that was taken

pub link_known : (x : Life) (o : Option ℕ) (f : Flow) → option_map (flow_of x) o ≡ Some f
    → (k : ℕ) × (o ≡ Some k) × (flow_of x k ≡ f)
link_known x None f e = absurd (let no : None ≡ Some f = e in cc)
link_known x (Some k) f e = (k, refl, (let same : Some (flow_of x k) ≡ Some f = e in cc))

flow_same : (x s : Life) (o : Option ℕ) → ((k : ℕ) → flow_of x k ≡ flow_of s k)
    → option_map (flow_of x) o ≡ option_map (flow_of s) o
flow_same x s None same = refl
flow_same x s (Some k) same = ap (λ (f : Flow). Some f) (same k)

module _ (hosts : Network) (newer older : List Moment) (f : Flow) (m : HostMessage)
    (l : Lawful hosts (newer ++ Crossed (crossing.In m) ∷ older)) (out : SinceLastOut f (crossings_of older))
    (is_m : out.message ≡ m) (off : (f.link.0 == 0) ≡ false) (ours : AreOurs hosts f.source f.destination) where
  abbrev all : List Moment
  all = newer ++ Crossed (crossing.In m) ∷ older

  abbrev whole_log : List Crossing
  whole_log = crossings_of (newer ++ Crossed (crossing.In m) ∷ older)

  abbrev more : List Crossing
  more = crossings_of newer ++ crossing.In m ∷ []

  old : Lawful hosts older
  old = rest_lawful hosts (Crossed (crossing.In m) ∷ []) older
      (rest_lawful hosts newer (Crossed (crossing.In m) ∷ older) l)

  -- the whole log
  log_is : whole_log ≡ crossings_of newer ++ crossing.In m ∷ crossings_of older
  log_is = all_crossings newer (Crossed (crossing.In m) ∷ older)

  log_more : whole_log ≡ more ++ crossings_of older
  log_more = log_is ∙ sym (append_assoc (crossings_of newer) (crossing.In m ∷ []) (crossings_of older))

  abbrev place : ℕ
  place = length out.before

  out_there : CrossedAt (length out.before) (crossing.Out out.message) (crossings_of older)
  out_there = subst (λ (xs : List Crossing). CrossedAt (length out.before) (crossing.Out out.message) xs)
      (sym out.parts) (crossed_end out.since out.before (crossing.Out out.message))

  out_less : length out.before < length (crossings_of older)
  out_less =
      let e : length (crossings_of older) ≡ length (out.since ++ crossing.Out out.message ∷ out.before) =
      ap (λ (xs : List Crossing). length xs) out.parts in
      let all_of : length (out.since ++ crossing.Out out.message ∷ out.before)
      ≡ length out.since + length (crossing.Out out.message ∷ out.before) =
      length-append out.since (crossing.Out out.message ∷ out.before) in
      omega (arith, e, all_of)

  off_out : (out.message.flow.link.0 == 0) ≡ false
  off_out = ap (λ (g : Flow). g.link.0 == 0) out.flow ∙ off

  -- the sending life as it was then
  abbrev was : (x : Life) × Contains (lives_among hosts.strange (mixed_kept hosts.strange older).book.lives) x × IsSentIn (crossings_of older)
      (length out.before) out.message x
  was = sent_in hosts older old (length out.before) out.message (subst (λ (g : Flow). AreOurs hosts g.source g.destination) (sym out.flow) ours) out_there off_out

  abbrev s : Life
  s = was.0

  s_in : IsOf s (lives_in older)
  s_in = is_of s (lives_in older) (now_kept hosts older s was.1).0

  of_s : AreOurs hosts s.host s.peer
  of_s = (now_kept hosts older s was.1).1

  sent : IsSentIn (crossings_of older) (length out.before) out.message s
  sent = was.2

  kind : sends s ≡ true
  kind = odd_send s.socket sent.sending

  -- and now
  abbrev now : LaterLife all s
  now = subst (λ (ns : List Moment). LaterLife ns s) (append_assoc newer (Crossed (crossing.In m) ∷ []) older)
      (later_life (newer ++ Crossed (crossing.In m) ∷ []) older s s_in)

  sits : Sits whole_log (length out.before) out.message s.messages s
  sits = subst (λ (xs : List Crossing). Sits xs (length out.before) out.message s.messages s) (sym log_more) (record {
    flow = ap (λ (o : Option ℕ). option_map (flow_of s) o) link ∙ sent.flow;
    own = sent.own;
    partner = sent.partner;
    counted = subst (λ (k : ℕ). k < s.messages)
        (sym (ap (λ (o : Option ℕ). length
        (texts_on s o (before (length out.before) (more ++ crossings_of older)))) link
        ∙ ap (λ (xs : List Crossing). length (texts_on s (link_of (crossings_of older) s) xs))
        (before_later more (crossings_of older) (length out.before) below)))
        sent.counted;
  }) where
    below : length out.before ≤ length (crossings_of older)
    below = let less : length out.before < length (crossings_of older) = out_less in omega (arith, less)

    link : link_of (more ++ crossings_of older) s ≡ link_of (crossings_of older) s
    link = link_later more (crossings_of older) s (own_below hosts older old s of_s s_in)
        (partner_below hosts older old s of_s s_in)

  counted : IsCounted whole_log (length out.before) out.message now.life
  counted =
      counted_by whole_log (length out.before) out.message s.messages now.life now.counts
      (by_names (λ (x : Life). Sits whole_log (length out.before) out.message s.messages x) s now.life now.names
      (record { flow = sits.flow; own = sits.own; partner = sits.partner; counted = sits.counted }))

  sending : sends now.life ≡ true
  sending = ap is_send_socket now.names.socket ∙ kind

  -- ---- the receiving life that matches it

  abbrev gave : (r : Life) × IsOf r (lives_in older) × Match (crossings_of older) r s
  gave = granter hosts older old s of_s s_in kind
      (let c : length (texts_on s (link_of (crossings_of older) s) (before (length out.before) (crossings_of older)))
      < s.messages = sent.counted in omega (arith, c))

  abbrev r : Life
  r = gave.0

  of_r : AreOurs hosts r.host r.peer
  of_r = ours_receiver hosts gave.2 of_s

  of_now : AreOurs hosts now.life.host now.life.peer
  of_now = ours_of hosts now.life s.host s.peer of_s (now.names.host, now.names.peer)

  abbrev r_now : LaterLife all r
  r_now = subst (λ (ns : List Moment). LaterLife ns r) (append_assoc newer (Crossed (crossing.In m) ∷ []) older)
      (later_life (newer ++ Crossed (crossing.In m) ∷ []) older r gave.1)

  still : Match whole_log r_now.life now.life
  still =
      subst (λ (ns : List Moment). Match (crossings_of ns) r_now.life now.life)
      (append_assoc newer (Crossed (crossing.In m) ∷ []) older)
      (match_later hosts (newer ++ Crossed
      (crossing.In m) ∷ []) older old r s r_now.life now.life of_r gave.1 s_in r_now.names now.names gave.2)

  module _ (x : Life) (i : IsBeside x fate.Open (kept_in all).book.lives (kept_in all).fates)
      (match : Match whole_log x now.life) where
    x_in : IsOf x (lives_in all)
    x_in = beside_of (lives_in all) (kept_in all).fates x fate.Open i

    same : x ≡ r_now.life
    same =
        one_receiver hosts all l x r_now.life now.life of_now x_in r_now.there match still

    own : x.own_stamp < length (crossings_of older)
    own =
        let e : x.own_stamp ≡ r.own_stamp = ap (λ (y : Life). y.own_stamp) same ∙ r_now.names.own in
        let less : r.own_stamp < length (crossings_of older) = own_below hosts older old r of_r gave.1 in
        omega (arith, e, less)

    partner : x.partner_stamp < length (crossings_of older)
    partner =
        let e : x.partner_stamp ≡ r.partner_stamp = ap (λ (y : Life). y.partner_stamp) same ∙ r_now.names.partner in
        let less : r.partner_stamp < length (crossings_of older) = partner_below hosts older old r of_r gave.1 in
        omega (arith, e, less)

    flow : option_map (flow_of x) (link_of whole_log x) ≡ Some out.message.flow
    flow =
        ap (λ (o : Option ℕ). option_map (flow_of x) o) (one_link hosts all l x now.life (ours_receiver hosts match of_now) x_in now.there match)
        ∙ flow_same x now.life (link_of whole_log now.life) (flows hosts all l x now.life (ours_receiver hosts match of_now) x_in now.there match)
        ∙ counted.flow

    abbrev on : (k : ℕ) × (link_of whole_log x ≡ Some k) × (flow_of x k ≡ out.message.flow)
    on = link_known x (link_of whole_log x) out.message.flow flow

    -- as much came in as it counts, and this did after what was before
    fewer : length (texts_for x on.0 (crossings_of older)) < length (texts_for x on.0 whole_log)
    fewer =
        subst (λ (v : Bool). length (texts_of v (flow_of x on.0) x.own_stamp x.partner_stamp (crossings_of older))
        < length (texts_of v (flow_of x on.0) x.own_stamp x.partner_stamp whole_log))
        (sym match.receiving)
        (subst (λ (xs : List Crossing). length
        (texts_of true (flow_of x on.0) x.own_stamp x.partner_stamp (crossings_of older))
        < length (texts_of true (flow_of x on.0) x.own_stamp x.partner_stamp xs)) (sym log_is)
        (texts_past (flow_of x on.0) x.own_stamp x.partner_stamp m (crossings_of newer) (crossings_of older)
        (on.2 ∙ ap (λ (k : HostMessage). k.flow) is_m) own partner))

    before_is : before (length (crossings_of older)) whole_log ≡ crossings_of older
    before_is = ap (before (length (crossings_of older))) log_more ∙ before_end more (crossings_of older)

    arrived : IsCounted whole_log (length (crossings_of older)) out.message x
    arrived = record {
      flow = flow;
      own = own;
      partner = partner;
      counted =
          (let was_is : length (texts_on x (link_of whole_log x) (before (length (crossings_of older)) whole_log))
          ≡ length (texts_for x on.0 (crossings_of older)) =
          ap (λ (o : Option ℕ). length (texts_on x o (before (length (crossings_of older)) whole_log))) on.1
          ∙ ap (λ (xs : List Crossing). length (texts_for x on.0 xs)) before_is in
          let all_is : x.messages ≡ length (texts_for x on.0 whole_log) =
          counts_all hosts all l x (ours_receiver hosts match of_now) i match.receiving ∙ ap (λ (o : Option ℕ). length (texts_on x o whole_log)) on.1 in
          let less : length (texts_for x on.0 (crossings_of older)) < length (texts_for x on.0 whole_log) = fewer in
          omega (arith, was_is, all_is, less));
    }

-- ---- each RFNM of data

-- a log ends with what moments before crossed
record Parted (ms : List Moment) (c : Crossing) (older : List Crossing) : Type 0 where
  later : List Moment
  earlier : List Moment
  is : ms ≡ later ++ Crossed c ∷ earlier
  below : crossings_of earlier ≡ older

pub same_head : (c d : Crossing) (xs ys : List Crossing) → c ∷ xs ≡ d ∷ ys → (c ≡ d) × (xs ≡ ys)
same_head c d xs ys e = ((let heads : c ≡ d = cc in heads), (let tails : xs ≡ ys = cc in tails))

parted : (ms : List Moment) (newer older : List Crossing) (c : Crossing) → crossings_of ms ≡ newer ++ c ∷ older
    → Parted ms c older
parted [] [] older c e = absurd (let no : [] ≡ c ∷ older = e in cc)
parted [] (d ∷ newer) older c e = absurd (let no : [] ≡ d ∷ (newer ++ c ∷ older) = e in cc)
parted (Asked h r ∷ ms) newer older c e =
    let p : Parted ms c older = parted ms newer older c e in
    record {
      later = Asked h r ∷ p.later;
      earlier = p.earlier;
      is =
          ap (λ (ns : List Moment). Asked h r ∷ ns) p.is;
      below = p.below;
    }
parted (Crossed d ∷ ms) [] older c e =
    let both : (d ≡ c) × (crossings_of ms ≡ older) = same_head d c (crossings_of ms) older e in
    record { later = []; earlier = ms; is = ap (λ (k : Crossing). Crossed k ∷ ms) both.0; below = both.1 }
parted (Crossed d ∷ ms) (b ∷ newer) older c e =
    let p : Parted ms c older = parted ms newer older c (same_head d b (crossings_of ms) (newer ++ c ∷ older) e).1 in
    record {
      later = Crossed d ∷ p.later;
      earlier = p.earlier;
      is =
          ap (λ (ns : List Moment). Crossed d ∷ ns) p.is;
      below = p.below;
    }

-- what a host got RFNM for, where it was taken at these moments
abbrev Arrival : List Moment → List Crossing → Flow → Type 0
Arrival ms older f = HasArrived (crossings_of ms) older (kept_in ms).book.lives (kept_in ms).fates f

arrival : (hosts : Network) (later since older : List Moment) (c : Crossing) (f : Flow) (m : HostMessage)
    → Lawful hosts (later ++ Crossed c ∷ (since ++ Crossed (crossing.In m) ∷ older))
    → (out : SinceLastOut f (crossings_of older)) → out.message ≡ m
    → went_out f (crossings_of since) ≡ false → (f.link.0 == 0) ≡ false → AreOurs hosts f.source f.destination
    → Arrival (later ++ Crossed c ∷ (since ++ Crossed (crossing.In m) ∷ older))
    (crossings_of (since ++ Crossed (crossing.In m) ∷ older)) f
arrival hosts later since older c f m l out is_m none off ours =
    subst (λ (ns : List Moment). Arrival ns (crossings_of (since ++ Crossed (crossing.In m) ∷ older)) f)
    (append_assoc later (Crossed c ∷ since) (Crossed (crossing.In m) ∷ older)) (record {
      out = record {
        since = crossings_of since ++ crossing.In m ∷ out.since;
        message = out.message;
        before = out.before;
        parts = all_crossings since (Crossed (crossing.In m) ∷ older)
            ∙ ap (λ (xs : List Crossing). crossings_of since ++ crossing.In m ∷ xs) out.parts
            ∙ sym (append_assoc (crossings_of since) (crossing.In m ∷ out.since)
            (crossing.Out out.message ∷ out.before));
        flow = out.flow;
        last = none_out f (crossings_of since) (crossing.In m ∷ out.since) none out.last;
      };
      sender = (now hosts newer older f m k out is_m off ours).life;
      there = contains (now hosts newer older f m k out is_m off ours).life
          (lives_in (newer ++ Crossed (crossing.In m) ∷ older)) (now hosts newer older f m k out is_m off ours).there;
      sending = sending hosts newer older f m k out is_m off ours;
      sent = counted hosts newer older f m k out is_m off ours;
      place = length (crossings_of older);
      after = out_less hosts newer older f m k out is_m off ours;
      taken = subst (λ (log : List Crossing). CrossedAt (length (crossings_of older)) (crossing.In out.message) log)
          (sym (all_crossings since (Crossed (crossing.In m) ∷ older)))
          (subst (λ (z : HostMessage). CrossedAt (length (crossings_of older)) (crossing.In out.message)
          (crossings_of since ++ crossing.In z ∷ crossings_of older)) is_m
          (crossed_end (crossings_of since) (crossings_of older) (crossing.In out.message)));
      arrived = λ x i match. arrived hosts newer older f m k out is_m off ours x i match;
    }) where
      newer : List Moment
      newer = later ++ Crossed c ∷ since

      k : Lawful hosts ((later ++ Crossed c ∷ since) ++ Crossed (crossing.In m) ∷ older)
      k = subst (λ (ns : List Moment). Lawful hosts ns)
          (sym (append_assoc later (Crossed c ∷ since) (Crossed (crossing.In m) ∷ older))) l

-- where a host with a program got RFNM for what it sent to another, it arrived
pub answers : (hosts : Network) (ms : List Moment) → Lawful hosts ms → (newer older : List Crossing) (f : Flow)
    → crossings_of ms ≡ newer ++ crossing.Answer answer.Rfnm f ∷ older
    → (f.link.0 == 0) ≡ false → AreOurs hosts f.source f.destination → Arrival ms older f
answers hosts ms l newer older f e off ours =
    let p : Parted ms (crossing.Answer answer.Rfnm f) older =
    parted ms newer older (crossing.Answer answer.Rfnm f) e in
    let k : Lawful hosts (p.later ++ Crossed (crossing.Answer answer.Rfnm f) ∷ p.earlier) =
    subst (λ (ns : List Moment). Lawful hosts ns) p.is l in
    let h : moments.HasArrived f p.earlier = answered hosts p.earlier f ours
    (rest_lawful hosts p.later (Crossed (crossing.Answer answer.Rfnm f) ∷ p.earlier) k) in
    let along : p.later ++ Crossed (crossing.Answer answer.Rfnm f) ∷ p.earlier
    ≡ p.later ++ Crossed (crossing.Answer answer.Rfnm f) ∷
    (h.since ++ Crossed (crossing.In h.message) ∷ h.before) =
    ap (λ (ns : List Moment). p.later ++ Crossed (crossing.Answer answer.Rfnm f) ∷ ns) h.is in
    subst (λ (ns : List Moment). Arrival ns older f) (sym (p.is ∙ along))
    (subst (λ (log : List Crossing). Arrival
    (p.later ++ Crossed (crossing.Answer answer.Rfnm f) ∷
    (h.since ++ Crossed (crossing.In h.message) ∷ h.before)) log f)
    (ap (λ (ns : List Moment). crossings_of ns) (sym h.is) ∙ p.below)
    (arrival hosts p.later h.since h.before (crossing.Answer answer.Rfnm f) f h.message
    (subst (λ (ns : List Moment). Lawful hosts ns) along k) h.out h.whole h.last off ours))

-- an open one whose partner's CLS has come has all that it sent
pub closed_all : (hosts : Network) (ms : List Moment) → Lawful hosts ms → (x s : Life) (own : Bool)
    → AreOurs hosts x.host x.peer → IsBeside x fate.Open (kept_in ms).book.lives (kept_in ms).fates
    → stage (contacts_of ms) x (crossings_of ms) ≡ Going own true → Contains (kept_in ms).book.lives s → Match (crossings_of ms) x s → (x.bits ≡ s.bits) × (x.messages ≡ s.messages)
unfolding closed_by_partner
closed_all hosts ms l x s own ours i is there m = closes_whole hosts ms l x ours (closed_by_partner hosts ms l x ours i m.receiving own is) ours s there m

pub arrived_book : (hosts : List Host) (ms : List Moment) → Lawful (all_ours hosts) ms
    → ArrivedBook (contacts_of ms) (crossings_of ms) (kept_in ms).book.lives (kept_in ms).fates
arrived_book hosts ms l = record {
  all = λ x i kind. counts_all (all_ours hosts) ms l x (refl, refl) i kind;
  closed = λ x s own i is there m. closed_all (all_ours hosts) ms l x s own (refl, refl) i is there m;
  answered = λ newer older f e off. answers (all_ours hosts) ms l newer older f e off (refl, refl);
}

-- ---- worlds

pub world_arrived : {C : Type 0} (seen : C → Seen) (hosts : List Host) (w : WorldState C) → IsLawful seen hosts w
    → ArrivedBook w.kept.book.contacts w.kept.book.crossings w.kept.book.lives w.kept.fates
world_arrived seen hosts w lawful =
    subst (λ (cs : List Called). ArrivedBook cs w.kept.book.crossings w.kept.book.lives w.kept.fates)
    (sym lawful.whole.contacts)
    (subst (λ (log : List Crossing). ArrivedBook (contacts_of lawful.whole.moments) log w.kept.book.lives w.kept.fates)
    (sym lawful.whole.crossings)
    (subst (λ (k : Kept). ArrivedBook (contacts_of lawful.whole.moments)
    (crossings_of lawful.whole.moments) k.book.lives k.fates) (sym lawful.whole.kept)
    (arrived_book hosts lawful.whole.moments (book_lawful seen hosts w lawful))))
