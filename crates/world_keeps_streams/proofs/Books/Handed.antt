-- A receiving life that its partner has closed, and no user of its host, took all that was handed over in the life that it matches.
use Rattle.world_keeps_streams.proofs.Common.{◌≡◌, inl, inr, ℕ, ◌+◌, ◌≤◌, Bool, true, false, List, [], ◌∷◌, ◌++◌, map, refl, ap, sym, subst, ◌∙◌, arith, append_assoc, Contains, Seen, Host, is_send_socket, is_sent, gone_now, pair_with, IsLawful, IsBeside, Moment, events_of, program, WorldState, HasOpenEnd, origin_in, own_calls, Network, AreOurs, all_ours, Happened, mixed_kept, lives_among}
use Rattle.promise.specs.Safe.{Match, own_request, AreHanded, IsPrefix, sends}
use Rattle.net_sim.specs.Timeline.{crossings_of, IsTimeline}
use Rattle.world_keeps_lives.specs.Drained.{ClosesFirst, AllSent, ClosedFirst, all_lives}
use Rattle.world_keeps_streams.specs.Closes.{IsClosedByPartner, WasClosedBy, WasClosedByPartner, AllHanded, TookHanded}
use Rattle.pairing_law.specs.Links.{Receiver}
use Rattle.pairing_law.specs.Marks.{closes}
use Rattle.reset_law.specs.Stays as stay
use Rattle.net_sim.specs.Told.{kept_in}
use Rattle.promise.specs.declared.life.Life.{Life}
use Rattle.world_keeps_lives.proofs.lemmas.{drained, handed_among, handed_in}
use Rattle.world_keeps_lives.proofs.lemmas.AllOurs as given
use Rattle.world_keeps_lives.proofs.lemmas.Drained as by_cls
use Rattle.world_keeps_lives.proofs.lemmas.Laws as laws
use Rattle.world_keeps_streams.proofs.Lives.Among.{among_now}
use Rattle.world_keeps_pairing.proofs.lemmas.{IsPair}
use Rattle.world_keeps_streams.proofs.Deeds.Effects.{Among}
use Rattle.world_keeps_streams.proofs.Lives.Fates.{beside_of}
use Rattle.world_keeps_streams.proofs.Lives.Lists.{IsOf, Named, contains, grown, is_of, named_itself, of_left, of_map}
use Rattle.world_keeps_streams.proofs.Requests.Sides.{Lawful, Own, lives_in, book_lawful}
use Rattle.world_keeps_streams.proofs.Books.Began as began
use Rattle.world_keeps_streams.proofs.Books.Began.{at_socket, closes_first, sent_cls}
use Rattle.world_keeps_streams.proofs.Books.Arrives.{end_at, rest_lawful, stays_of}
use Rattle.world_keeps_streams.proofs.Books.Books.{one_own}
use Rattle.world_keeps_streams.proofs.Books.Closes.{AtLink, known}
use Rattle.world_keeps_streams.proofs.Books.Counts.{side_of}
use Rattle.world_keeps_streams.proofs.Books.Ended.{Back, Last, back, goes, heard_most, last_of}
use Rattle.world_keeps_streams.proofs.Books.Parted.{HasLeft, heard_more, sender_closed}
use Rattle.world_keeps_streams.proofs.Books.Later.{closes_whole, named_request}
use Rattle.world_keeps_streams.proofs.Books.Went.{WasThere, Went, WentOrWas, went}
use Rattle.world_keeps_streams.proofs.Ours.{live, ours_of, ours_sender}

-- the lives between two hosts with programs
abbrev lives_of : Network → List Moment → List Life
lives_of hosts ms = lives_among hosts.strange (mixed_kept hosts.strange ms).book.lives

-- ---- the same life later

record Same (ms : List Moment) (x : Life) : Type 0 where
  life : Life
  there : IsOf life (lives_in ms)
  names : Named x life

same : (newer ms : List Moment) (x : Life) → IsOf x (lives_in ms) → Same (newer ++ ms) x
same [] ms x i = record { life = x; there = i; names = named_itself x }
same (y ∷ newer) ms x i =
    let o : Same (newer ++ ms) x = same newer ms x i in
    let n : Named o.life ((grown y (newer ++ ms)).change o.life) = (grown y (newer ++ ms)).names o.life in
    record {
      life = (grown y (newer ++ ms)).change o.life;
      there = subst (λ (ys : List Life). IsOf ((grown y (newer ++ ms)).change o.life) ys) (sym (grown y (newer ++ ms)).is)
          (of_left ((grown y (newer ++ ms)).change o.life) (map (grown y (newer ++ ms)).change (lives_in (newer ++ ms)))
          (grown y (newer ++ ms)).more
          (of_map (grown y (newer ++ ms)).change o.life (lives_in (newer ++ ms)) o.there));
      names = record {
        host = n.host ∙ o.names.host;
        socket = n.socket ∙ o.names.socket;
        peer = n.peer ∙ o.names.peer;
        foreign = n.foreign ∙ o.names.foreign;
        own = n.own ∙ o.names.own;
        partner = n.partner ∙ o.names.partner;
      };
    }

-- a life of a list that has its own request is it
pub names_of : (hosts : Network) (newer ms : List Moment) → Lawful hosts (newer ++ ms) → (x y : Life)
    → AreOurs hosts x.host x.peer → AreOurs hosts y.host y.peer
    → IsOf x (lives_in ms) → IsOf y (lives_in (newer ++ ms))
    → own_request y ≡ own_request x → Named x y
names_of hosts newer ms l x y ours theirs i j e =
    let o : Same (newer ++ ms) x = same newer ms x i in
    subst (λ (z : Life). Named x z)
    (one_own hosts (newer ++ ms) l o.life y (ours_of hosts o.life x.host x.peer ours (o.names.host, o.names.peer)) theirs o.there j
    (named_request x o.life o.names ∙ sym e)) o.names

-- ---- the sending life closed first

-- where a receiving life has taken the CLS of the life that it matches, whose host stays at the last of these moments
module _ (hosts : Network) (newer between ms : List Moment) (l : Lawful hosts (newer ++ (between ++ ms))) (x s : Life)
    (x_in : Contains (lives_in (newer ++ (between ++ ms))) x) (s_in : Contains (lives_in (newer ++ (between ++ ms))) s)
    (m : Match (crossings_of (newer ++ (between ++ ms))) x s) (ours : AreOurs hosts x.host x.peer)
    (r : Life) (was : AreOurs hosts r.host r.peer) (f : IsClosedByPartner (between ++ ms) r) (x_same : own_request x ≡ own_request r)
    (p : Life) (of_p : AreOurs hosts p.host p.peer) (p_there : Contains (lives_in (between ++ ms)) p)
    (s_same : own_request s ≡ own_request p) (left : HasLeft r.peer r.host between ms) (theirs : stay.stays r.peer r.host (events_of ms) ≡ true) where
  old : Lawful hosts (between ++ ms)
  old = rest_lawful hosts newer (between ++ ms) l

  oldest : Lawful hosts ms
  oldest = rest_lawful hosts between ms old

  of_receiver : Named r x
  of_receiver = names_of hosts newer (between ++ ms) l r x was ours (is_of r (lives_in (between ++ ms)) f.there) (is_of x (lives_in (newer ++ (between ++ ms))) x_in) x_same

  p_in : IsOf p (lives_in (between ++ ms))
  p_in = is_of p (lives_in (between ++ ms)) p_there

  of_sender : Named p s
  of_sender = names_of hosts newer (between ++ ms) l p s of_p (ours_sender hosts m ours) p_in (is_of s (lives_in (newer ++ (between ++ ms))) s_in) s_same

  host : p.host ≡ r.peer
  host = began.host hosts newer (between ++ ms) l x s r p m of_receiver of_sender was

  peer : p.peer ≡ r.host
  peer = began.peer hosts newer (between ++ ms) l x s r p m of_receiver of_sender was

  socket : p.socket ≡ r.foreign
  socket = began.socket hosts newer (between ++ ms) l x s r p m of_receiver of_sender was

  foreign : p.foreign ≡ r.socket
  foreign = began.foreign hosts newer (between ++ ms) l x s r p m of_receiver of_sender was

  sending : sends p ≡ true
  sending = began.sending hosts newer (between ++ ms) l x s r p m of_receiver of_sender was

  pair : IsPair (record { receive = r.socket; send = r.foreign })
  pair = (f.receiving, ap is_send_socket (sym socket) ∙ sending)

  -- ---- the receiver's request

  mine : stay.stays r.host r.peer (events_of (between ++ ms)) ≡ true
  mine = stays_of hosts (between ++ ms) old r was f.there f.goes

  abbrev at_link : AtLink hosts (between ++ ms) r
  at_link = record { ours = was; there = f.there; receiving = f.receiving; goes = f.goes; end = f.end; link = f.link; linked = f.linked }

  abbrev g : ℕ
  g = (known hosts (between ++ ms) old r at_link).g

  own : Own r.host r.peer (between ++ ms) r.socket r.foreign r.own_stamp g
  own = (known hosts (between ++ ms) old r at_link).own

  few : closes (side_of (record { receive = r.socket; send = r.foreign }) Receiver r.host r.peer (between ++ ms)).said ≤ g
  few =
      let more : closes (side_of (record { receive = r.socket; send = r.foreign }) Receiver r.host r.peer (between ++ ms)).heard ≡ closes (side_of (record { receive = r.socket; send = r.foreign }) Receiver r.host r.peer (between ++ ms)).said + 1 =
      heard_more hosts (between ++ ms) old r.host r.peer was (record { receive = r.socket; send = r.foreign }) pair mine
      f.end.end (end_at r (program r.host (between ++ ms)) f.end).0 (at_socket r (program r.host (between ++ ms)) f.end) f.end.foreign f.closed in
      let most : closes (side_of (record { receive = r.socket; send = r.foreign }) Receiver r.host r.peer (between ++ ms)).heard ≤ gone_now r.peer (own_calls r.host r.peer (between ++ ms)) r.socket r.foreign + 1 =
      heard_most hosts (between ++ ms) old (record { receive = r.socket; send = r.foreign }) pair Receiver r.host r.peer was mine in
      let gone : g ≡ gone_now r.peer (own_calls r.host r.peer (between ++ ms)) r.socket r.foreign = ((known hosts (between ++ ms) old r at_link).going f.goes).gone in
      omega (arith, more, most, gone)

  answers : origin_in (crossings_of (between ++ ms)) r.peer r.host p.partner_stamp ≡ r.own_stamp
  answers = began.answers hosts newer (between ++ ms) l x s r p m of_receiver of_sender was p_there

  -- ---- so its partner was there while its host stayed

  abbrev o : Back ms p
  o = back hosts r.host r.peer was between ms old left p host peer p_in

  o_goes : o.life.ended ≡ false
  o_goes = goes hosts between ms old r.host r.peer was r.socket r.foreign pair left theirs g r.own_stamp own few p p_in host peer socket foreign sending answers

  o_there : Contains (lives_in ms) o.life
  o_there = contains o.life (lives_in ms) o.there

  o_host : o.life.host ≡ r.peer
  o_host = sym o.names.host ∙ host

  o_peer : o.life.peer ≡ r.host
  o_peer = sym o.names.peer ∙ peer

  open_end : HasOpenEnd (program o.life.host ms) o.life
  open_end = live hosts ms oldest.0 oldest.1 oldest.2 o.life (ours_of hosts o.life p.host p.peer of_p (sym o.names.host, sym o.names.peer)).0 o_there o_goes

  among : Among open_end.end (pair_with r.host (program r.peer ms).peers).entries
  among =
      subst (λ (h : Host). Among open_end.end (pair_with r.host (program h ms).peers).entries) o_host
      (subst (λ (v : Host). Among open_end.end (pair_with v (program o.life.host ms).peers).entries) o_peer (end_at o.life (program o.life.host ms) open_end).0)

  closing_end : (is_sent open_end.end.closing ≡ true) × (open_end.end.partner_closed ≡ false)
  closing_end =
      sender_closed hosts between ms old oldest r.host r.peer was (record { receive = r.socket; send = r.foreign }) pair left mine theirs
      f.end.end (end_at r (program r.host (between ++ ms)) f.end).0 (at_socket r (program r.host (between ++ ms)) f.end) f.end.foreign f.closed
      open_end.end among (at_socket o.life (program o.life.host ms) open_end ∙ sym o.names.socket ∙ socket) (open_end.foreign ∙ sym o.names.foreign ∙ foreign)

  it_closed : ClosedFirst (lives_of hosts) (newer ++ (between ++ ms)) s
  it_closed = record {
    later = newer ++ between;
    earlier = ms;
    is = sym (append_assoc newer between ms);
    sender = o.life;
    there = among_now hosts ms o.life (ours_of hosts o.life p.host p.peer of_p (sym o.names.host, sym o.names.peer)) o_there;
    first = record {
      goes = o_goes;
      sending = ap is_send_socket (sym o.names.socket) ∙ sending;
      end = open_end;
      closed = sent_cls open_end.end.closing closing_end.0;
      unheard = closing_end.1;
    };
    same = s_same ∙ named_request o.life p o.names;
  }

-- ---- all lives of a book

-- a life of an earlier moment that has the same names
closed_then : (hosts : Network) (later earlier : List Moment) (s v : Life) → AreOurs hosts v.host v.peer
    → IsOf v (lives_in earlier) → ClosesFirst earlier v → Named v s
    → ClosedFirst (lives_of hosts) (later ++ earlier) s
closed_then hosts later earlier s v ours i c names =
    record { later = later; earlier = earlier; is = refl; sender = v; there = among_now hosts earlier v ours (contains v (lives_in earlier) i); first = c; same = named_request v s names }

module _ (hosts : Network) (ms : List Moment) (l : Lawful hosts ms) (x : Life)
    (ours : AreOurs hosts x.host x.peer) where
  -- where it was there when the receiver had taken its CLS
  first_there : (w : WasClosedByPartner ms x) (was : AreOurs hosts w.receiver.host w.receiver.peer) (s : Life)
      → Contains (lives_in ms) s → Match (crossings_of ms) x s → WasThere w.earlier s
      → ClosedFirst (lives_of hosts) ms s
  first_there w was s there m p =
      let k : Lawful hosts (w.later ++ w.earlier) = subst (λ (ns : List Moment). Lawful hosts ns) w.is l in
      let v : Last w.receiver.host w.receiver.peer w.earlier =
      last_of w.receiver.host w.receiver.peer w.earlier (stays_of hosts w.earlier (rest_lawful hosts w.later w.earlier k) w.receiver was w.then.there w.then.goes) in
      subst
      (λ (ns : List Moment). Lawful hosts ns → Contains (lives_in ns) x → Contains (lives_in ns) s → Match (crossings_of ns) x s → ClosedFirst (lives_of hosts) ns s)
      (sym (w.is ∙ ap (λ (ns : List Moment). w.later ++ ns) v.is))
      (λ k i j m. it_closed hosts w.later v.between v.last k x s i j m ours w.receiver was (subst (λ (ns : List Moment). IsClosedByPartner ns w.receiver) v.is w.then) w.same
      p.life (ours_of hosts p.life s.host s.peer (ours_sender hosts m ours) (sym p.names.host, sym p.names.peer)) (contains p.life (lives_in (v.between ++ v.last)) (subst (λ (ns : List Moment). IsOf p.life (lives_in ns)) v.is p.there)) (named_request p.life s p.names) v.left v.stays)
      l w.there there m

  -- where it began later, or was there at least
  first_went : (w : WasClosedByPartner ms x) (was : AreOurs hosts w.receiver.host w.receiver.peer) (s : Life)
      → Match (crossings_of ms) x s → Went w.later w.earlier s → ClosedFirst (lives_of hosts) ms s
  first_went w was s m p =
      subst
      (λ (ns : List Moment). Lawful hosts ns → IsOf x (lives_in ns) → Match (crossings_of ns) x s → ClosedFirst (lives_of hosts) ns s)
      (sym (w.is ∙ ap (λ (ns : List Moment). ns ++ w.earlier) p.is ∙ append_assoc p.later p.since w.earlier))
      (λ k i n.
      (let long : Lawful hosts ((p.later ++ p.since) ++ w.earlier) = subst (λ (ns : List Moment). Lawful hosts ns) (sym (append_assoc p.later p.since w.earlier)) k in
      let there : IsOf x (lives_in ((p.later ++ p.since) ++ w.earlier)) = subst (λ (ns : List Moment). IsOf x (lives_in ns)) (sym (append_assoc p.later p.since w.earlier)) i in
      let r : Named w.receiver x = names_of hosts (p.later ++ p.since) w.earlier long w.receiver x was ours (is_of w.receiver (lives_in w.earlier) w.then.there) there w.same in
      let old : Lawful hosts (p.since ++ w.earlier) = rest_lawful hosts p.later (p.since ++ w.earlier) k in
      closed_then hosts p.later (p.since ++ w.earlier) s p.life (ours_of hosts p.life s.host s.peer (ours_sender hosts n ours) (sym p.names.host, sym p.names.peer)) p.there
      (closes_first hosts p.since w.earlier old w.receiver was w.then p.life p.there p.goes
      (began.host hosts p.later (p.since ++ w.earlier) k x s w.receiver p.life n r p.names was) (began.peer hosts p.later (p.since ++ w.earlier) k x s w.receiver p.life n r p.names was)
      (began.socket hosts p.later (p.since ++ w.earlier) k x s w.receiver p.life n r p.names was) (began.foreign hosts p.later (p.since ++ w.earlier) k x s w.receiver p.life n r p.names was)
      (began.sending hosts p.later (p.since ++ w.earlier) k x s w.receiver p.life n r p.names was)
      (began.answers hosts p.later (p.since ++ w.earlier) k x s w.receiver p.life n r p.names was (contains p.life (lives_in (p.since ++ w.earlier)) p.there)))
      p.names))
      l (is_of x (lives_in ms) w.there) m

  -- all that was handed over in a life was sent
  sent_beside : (f : List Moment → List Life) (s : Life) (t : List Bool) (lives : List Life) (ts : List (List Bool))
      → AllSent f ms lives ts
      → IsBeside s t lives ts → ClosedFirst f ms s → s.bits ≡ t
  sent_beside f s t [] ts sent i c = absurd i
  sent_beside f s t (y ∷ lives) [] sent i c = absurd i
  sent_beside f s t (y ∷ lives) (u ∷ ts) sent (inl e) c = ap (λ (v : Life). v.bits) e.0 ∙ sent.0 (subst (λ (v : Life). ClosedFirst f ms v) e.0 c) ∙ sym e.1
  sent_beside f s t (y ∷ lives) (u ∷ ts) sent (inr i) c = sent_beside f s t lives ts sent.1 i c

  front_beside : (s : Life) (t : List Bool) (lives : List Life) (ts : List (List Bool)) → AreHanded lives ts
      → IsBeside s t lives ts → sends s ≡ true → IsPrefix s.bits t
  front_beside s t [] ts h i kind = absurd i
  front_beside s t (y ∷ lives) [] h i kind = absurd i
  front_beside s t (y ∷ lives) (u ∷ ts) h (inl e) kind =
      subst (λ (v : Life). IsPrefix v.bits t) (sym e.0) (subst (λ (b : List Bool). IsPrefix y.bits b) (sym e.1) (h.0 (ap sends (sym e.0) ∙ kind)))
  front_beside s t (y ∷ lives) (u ∷ ts) h (inr i) kind = front_beside s t lives ts h.1 i kind

  none_front : (bits t : List Bool) → IsPrefix bits t → t ≡ [] → bits ≡ t
  none_front [] t p none = sym none
  none_front (b ∷ bits) t p none = absurd (let no : (b ∷ bits) ++ p.0 ≡ [] = p.1 ∙ none in cc)

  -- what is beside a life in the network's book is given, and what would be if each host reported
  sent_all : (w : WasClosedByPartner ms x) → AreOurs hosts w.receiver.host w.receiver.peer → (s : Life) (t : List Bool)
      → IsBeside s t (kept_in ms).book.lives (kept_in ms).handed → IsBeside s t (lives_of hosts ms) (handed_in hosts ms)
      → Match (crossings_of ms) x s → s.bits ≡ t
  sent_all w was s t i j m = by (went w.later w.earlier s t (subst (λ (ns : List Moment). IsBeside s t (kept_in ns).book.lives (kept_in ns).handed) w.is i)) where
    there : Contains (lives_in ms) s
    there = contains s (lives_in ms) (beside_of (kept_in ms).book.lives (kept_in ms).handed s t i)

    by : WentOrWas w.later w.earlier s t → s.bits ≡ t
    by (inl none) =
        none_front s.bits t
        (front_beside s t (lives_of hosts ms) (handed_in hosts ms) (handed_among hosts.strange (mixed_kept hosts.strange ms).book.lives (mixed_kept hosts.strange ms).handed (laws.handed hosts ms l.0 l.1 l.2)) j m.sending) none
    by (inr (inl p)) = sent_beside (lives_of hosts) s t (lives_of hosts ms) (handed_in hosts ms) (by_cls.drained hosts ms l.0 l.1 l.2) j (first_there w was s there m p)
    by (inr (inr p)) = sent_beside (lives_of hosts) s t (lives_of hosts ms) (handed_in hosts ms) (by_cls.drained hosts ms l.0 l.1 l.2) j (first_went w was s m p)

  -- so the receiving life took it all
  pub took_all : (w : WasClosedByPartner ms x) → AreOurs hosts w.receiver.host w.receiver.peer
      → (s : Life) (t : List Bool)
      → IsBeside s t (kept_in ms).book.lives (kept_in ms).handed → IsBeside s t (lives_of hosts ms) (handed_in hosts ms)
      → Match (crossings_of ms) x s → x.bits ≡ t
  took_all w was s t i j m =
      (closes_whole hosts ms l x ours w was s (contains s (lives_in ms) (beside_of (kept_in ms).book.lives (kept_in ms).handed s t i)) m).0 ∙ sent_all w was s t i j m

-- ---- where all hosts run the program

module _ (hosts : List Host) (ms : List Moment) (l : Lawful (all_ours hosts) ms) (x : Life) where
  timed : (ns : List Moment) → Happened (all_ours hosts) ns → IsTimeline hosts ns
  timed [] h = tt
  timed (y ∷ ns) h = (h.0 refl, timed ns h.1)

  among_beside : (s : Life) (t : List Bool) → IsBeside s t (kept_in ms).book.lives (kept_in ms).handed
      → IsBeside s t (lives_of (all_ours hosts) ms) (handed_in (all_ours hosts) ms)
  among_beside s t i =
      subst (λ (lives : List Life). IsBeside s t lives (handed_in (all_ours hosts) ms)) (sym (given.lives_all hosts ms))
      (subst (λ (ts : List (List Bool)). IsBeside s t (kept_in ms).book.lives ts) (sym (given.handed_all hosts ms)) i)

  pub took_beside : (w : WasClosedByPartner ms x) (s : Life) (t : List Bool)
      → IsBeside s t (kept_in ms).book.lives (kept_in ms).handed → Match (crossings_of ms) x s → x.bits ≡ t
  took_beside w s t i m = took_all (all_ours hosts) ms l x (refl, refl) w (refl, refl) s t i (among_beside s t i) m

  each : (lives : List Life) (ts : List (List Bool)) → AllSent all_lives ms lives ts
      → ((s : Life) (t : List Bool) → IsBeside s t lives ts → WasClosedBy ms s x → x.bits ≡ t)
      → TookHanded ms x lives ts
  each [] ts sent took = tt
  each (s ∷ lives) [] sent took = sent
  each (s ∷ lives) (t ∷ ts) sent took = (took s t (inl (refl, refl)), each lives ts sent.1 (λ v u i. took v u (inr i)))

  pub took_handed : TookHanded ms x (kept_in ms).book.lives (kept_in ms).handed
  took_handed = each (kept_in ms).book.lives (kept_in ms).handed (drained hosts ms l.0 l.1 (timed ms l.2)) (λ s t i w. took_beside w.closed s t i w.matches)

all_handed : (hosts : List Host) (ms : List Moment) → Lawful (all_ours hosts) ms → AllHanded ms
all_handed hosts ms l newer older is x =
    took_handed hosts older (rest_lawful (all_ours hosts) newer older (subst (λ (ns : List Moment). Lawful (all_ours hosts) ns) is l)) x

pub world_handed_over : {C : Type 0} (seen : C → Seen) (hosts : List Host) (w : WorldState C)
    → (lawful : IsLawful seen hosts w) → AllHanded lawful.whole.moments
world_handed_over seen hosts w lawful = all_handed hosts lawful.whole.moments (book_lawful seen hosts w lawful)
