-- A sending life whose CLS its partner has taken, and whose partner has said none, isn't over while its host stays: so it is there, or it was at the last
-- moment before its host left.
use Rattle.world_keeps_streams.proofs.Common.{◌≡◌, inl, inr, ℕ, suc, ◌+◌, ◌<◌, ◌≤◌, ◌&&◌, ◌||◌, not, if◌then◌else◌, Bool, true, false, List, [], ◌∷◌, ◌++◌, refl, ap, sym, subst, ◌∙◌, arith, Contains, Host, Crossing, is_receive_socket, is_send_socket, entry_at, gone_now, counted, has_heard, heard_from, IsIn, Side, Joined, Stands, Stood, asks_once, asks_said, every_in, from_asks, closes_said, begins_either, pair_with, life_ended, Asked, Crossed, Moment, event_in, events_of, program, crossings_of, Coupled, law_events, origin_in, life_of, openings, steps, own_calls, Network, AreOurs}
use Rattle.pairing_law.specs.Links.{Sockets, Who, receiver, sender, Receiver, Sender}
use Rattle.pairing_law.specs.Marks.{Asks, Mark, closes}
use Rattle.world_keeps_pairing.proofs.lemmas.{even_odd, foreign_of, own_of, sender_half, served_in, IsPair}
use Rattle.pairing_law.specs.Sides as law
use Rattle.reset_law.specs.Stays as stay
use Rattle.promise.specs.Safe.{sends}
use Rattle.promise.specs.declared.life.Life.{Life}
use Rattle.world_keeps_streams.proofs.Books.All.{all_given}
use Rattle.world_keeps_streams.proofs.Books.Arrives.{rest_lawful}
use Rattle.world_keeps_streams.proofs.Books.Counts.{side_of}
use Rattle.world_keeps_streams.proofs.Books.Given.{counts}
use Rattle.world_keeps_streams.proofs.Books.Parted.{HasLeft, grows_on, no_begin, stands}
use Rattle.world_keeps_streams.proofs.Books.Run.{Given}
use Rattle.world_keeps_streams.proofs.Books.Unasked.{unasked}
use Rattle.world_keeps_streams.proofs.Books.Whole.{Sends, Was, present_in, since, was_there}
use Rattle.world_keeps_streams.proofs.Heard.Run.{heard_closes}
use Rattle.world_keeps_streams.proofs.Lives.Lists.{IsOf, Named, contains, named_itself, of_parts}
use Rattle.world_keeps_streams.proofs.Requests.Names.{origin_grows}
use Rattle.world_keeps_streams.proofs.Requests.Now.{joined_halves}
use Rattle.world_keeps_streams.proofs.Requests.Sides.{Heard, Lawful, Own, coupled_in, law_joined, lives_in, own_on, below}
use Rattle.world_keeps_streams.proofs.Lives.Among.{life_in}
use Rattle.world_keeps_streams.proofs.Ours.{ours_of}

-- ---- the last moment at which the peer of a host that stays did

pub record Last (a b : Host) (ms : List Moment) : Type 0 where
  pub between : List Moment
  pub last : List Moment
  pub is : ms ≡ between ++ last
  pub left : HasLeft b a between last
  pub stays : stay.stays b a (events_of last) ≡ true

stayed_on : (v r t s : Bool) → (v || (r && t && s)) ≡ true → v ≡ false → s ≡ true
stayed_on true r t s on off = absurd (let no : true ≡ false = off in cc)
stayed_on false true true s on off = on
stayed_on false true false s on off = absurd (let no : false ≡ true = on in cc)
stayed_on false false t s on off = absurd (let no : false ≡ true = on in cc)

pub last_of : (a b : Host) (ms : List Moment) → stay.stays a b (events_of ms) ≡ true → Last a b ms
last_of a b [] on = absurd (let no : false ≡ true = on in cc)
last_of a b (y ∷ ms) on = by (stay.stays b a (events_of (y ∷ ms))) refl (last_of a b ms) where
  by : (v : Bool) → stay.stays b a (events_of (y ∷ ms)) ≡ v → (stay.stays a b (events_of ms) ≡ true → Last a b ms) → Last a b (y ∷ ms)
  by true there rest = record { between = []; last = y ∷ ms; is = refl; left = tt; stays = there }
  by false off rest =
      let none : stay.begins a b (event_in y) (events_of ms) ≡ false = begins_either a b (event_in y) (events_of ms) ∙ no_begin b a (event_in y) (events_of ms) off in
      let before : stay.stays a b (events_of ms) ≡ true =
      stayed_on (stay.begins a b (event_in y) (events_of ms)) (stay.ready a b (events_of (y ∷ ms))) (not (stay.takes_reset a b (event_in y))) (stay.stays a b (events_of ms)) on none in
      let l : Last a b ms = rest before in
      record {
        between = y ∷ l.between;
        last = l.last;
        is = ap (λ (ns : List Moment). y ∷ ns) l.is;
        left = (subst (λ (ns : List Moment). stay.stays b a (events_of (y ∷ ns)) ≡ false) l.is off, l.left);
        stays = l.stays;
      }

-- ---- what a life was when its host left

pub record Back (ms : List Moment) (x : Life) : Type 0 where
  pub life : Life
  pub there : IsOf life (lives_in ms)
  pub names : Named life x

pub back : (hosts : Network) (a b : Host) → AreOurs hosts a b → (between last : List Moment)
    → Lawful hosts (between ++ last) → HasLeft b a between last → (x : Life) → x.host ≡ b → x.peer ≡ a
    → IsOf x (lives_in (between ++ last)) → Back last x
back hosts a b ours [] last l left x host peer i = record { life = x; there = i; names = named_itself x }
back hosts a b ours (y ∷ between) last l left x host peer i =
    let given : Given hosts a b (Own a b) (Heard a b) = all_given hosts a b ours in
    let w : Was b a 0 (lives_in (between ++ last)) x =
    was_there b a 0 (lives_in (between ++ last)) (lives_in (y ∷ (between ++ last))) (omega arith) (given.away_s y (between ++ last) l left.0) x i host peer in
    let o : Back last w.life = back hosts a b ours between last (below hosts y (between ++ last) l) left.1 w.life w.host w.peer w.there in
    record { life = o.life; there = o.there; names = subst (λ (z : Life). Named o.life z) (sym w.is) (ended o.life w.life o.names) } where
      ended : (u v : Life) → Named u v → Named u (life_ended v)
      ended u v n = record { host = n.host; socket = n.socket; peer = n.peer; foreign = n.foreign; own = n.own; partner = n.partner }

-- ---- how many CLS were heard

at_least : (v : Bool) (n : ℕ) → n ≤ counted v n
at_least true n = omega arith
at_least false n = omega arith

at_most : (v : Bool) (n : ℕ) → counted v n ≤ n + 1
at_most true n = omega arith
at_most false n = omega arith

module _ (hosts : Network) (ms : List Moment) (l : Lawful hosts ms) (s : Sockets) (q : IsPair s) (who : Who)
    (h p : Host) (ours : AreOurs hosts h p) (stays : stay.stays h p (events_of ms) ≡ true) where
  heard_is : closes (side_of s who h p ms).heard ≡ heard_from (gone_now p (own_calls h p ms)) (pair_with p (program h ms).peers).entries (foreign_of who s) (own_of who s)
  heard_is = heard_closes s q who hosts h p ours ms l stays ∙ counts hosts ms l h p ours (foreign_of who s) (own_of who s)

  pub heard_least : gone_now p (own_calls h p ms) (own_of who s) (foreign_of who s) ≤ closes (side_of s who h p ms).heard
  heard_least = subst (λ (n : ℕ). gone_now p (own_calls h p ms) (own_of who s) (foreign_of who s) ≤ n) (sym heard_is)
      (at_least (has_heard (entry_at (own_of who s) (foreign_of who s) (pair_with p (program h ms).peers).entries)) (gone_now p (own_calls h p ms) (own_of who s) (foreign_of who s)))

  pub heard_most : closes (side_of s who h p ms).heard ≤ gone_now p (own_calls h p ms) (own_of who s) (foreign_of who s) + 1
  heard_most = subst (λ (n : ℕ). n ≤ gone_now p (own_calls h p ms) (own_of who s) (foreign_of who s) + 1) (sym heard_is)
      (at_most (has_heard (entry_at (own_of who s) (foreign_of who s) (pair_with p (program h ms).peers).entries)) (gone_now p (own_calls h p ms) (own_of who s) (foreign_of who s)))

-- ---- requests of a host that stays

own_grows : (a b : Host) (between last : List Moment) → HasLeft b a between last → (receive send stamp g : ℕ) → Own a b last receive send stamp g → Own a b (between ++ last) receive send stamp g
own_grows a b [] last left receive send stamp g o = o
own_grows a b (y ∷ between) last left receive send stamp g o =
    own_on a b y (between ++ last) (begins_either a b (event_in y) (events_of (between ++ last)) ∙ no_begin b a (event_in y) (events_of (between ++ last)) left.0) receive send g stamp
    (own_grows a b between last left.1 receive send stamp g o)

pub all_crossings : (newer ms : List Moment) → crossings_of (newer ++ ms) ≡ crossings_of newer ++ crossings_of ms
all_crossings [] ms = refl
all_crossings (Crossed c ∷ newer) ms = ap (λ (log : List Crossing). c ∷ log) (all_crossings newer ms)
all_crossings (Asked h r ∷ newer) ms = all_crossings newer ms

-- a sending life is one of the sender's ends
sender_in : (y : law.Life) (x : Life) (ms : List Moment) → sends x ≡ true → is_receive_socket x.foreign ≡ true → IsIn y (openings x.host x.peer x.socket x.foreign ms)
    → IsIn y (sender (record { receive = x.foreign; send = x.socket }) (steps x.peer x.host (law_events ms))).lives
sender_in y x ms kind foreign i = by (is_receive_socket x.socket) refl i where
  other : (v : Bool) → (is_send_socket x.socket && is_receive_socket x.foreign) ≡ v → IsIn y (if v then (sender (record { receive = x.foreign; send = x.socket }) (steps x.peer x.host (law_events ms))).lives else [])
      → IsIn y (sender (record { receive = x.foreign; send = x.socket }) (steps x.peer x.host (law_events ms))).lives
  other true e i = i
  other false e i = absurd i

  by : (v : Bool) → is_receive_socket x.socket ≡ v
      → IsIn y (if v && is_send_socket x.foreign then (receiver (record { receive = x.socket; send = x.foreign }) (steps x.host x.peer (law_events ms))).lives
      else (if is_send_socket x.socket && is_receive_socket x.foreign then (sender (record { receive = x.foreign; send = x.socket }) (steps x.peer x.host (law_events ms))).lives else []))
      → IsIn y (sender (record { receive = x.foreign; send = x.socket }) (steps x.peer x.host (law_events ms))).lives
  by true e i = absurd (even_odd x.socket e kind)
  by false e i = other (is_send_socket x.socket && is_receive_socket x.foreign) refl i

-- ---- the life at the last moment

module _ (hosts : Network) (between last : List Moment) (l : Lawful hosts (between ++ last)) (a b : Host) (ours : AreOurs hosts a b) (receive send : ℕ) (q : IsPair (record { receive = receive; send = send }))
    (left : HasLeft b a between last) (theirs : stay.stays b a (events_of last) ≡ true)
    (g stamp : ℕ) (own : Own a b (between ++ last) receive send stamp g) (few : closes (side_of (record { receive = receive; send = send }) Receiver a b (between ++ last)).said ≤ g)
    (p : Life) (p_in : IsOf p (lives_in (between ++ last))) (host : p.host ≡ b) (peer : p.peer ≡ a) (socket : p.socket ≡ send) (foreign : p.foreign ≡ receive) (kind : sends p ≡ true)
    (answers : origin_in (crossings_of (between ++ last)) b a p.partner_stamp ≡ stamp) where
  older : Lawful hosts last
  older = rest_lawful hosts between last l

  abbrev pub o : Back last p
  o = back hosts a b ours between last l left p host peer p_in

  o_host : o.life.host ≡ b
  o_host = sym o.names.host ∙ host

  o_peer : o.life.peer ≡ a
  o_peer = sym o.names.peer ∙ peer

  o_socket : o.life.socket ≡ send
  o_socket = sym o.names.socket ∙ socket

  o_foreign : o.life.foreign ≡ receive
  o_foreign = sym o.names.foreign ∙ foreign

  o_kind : sends o.life ≡ true
  o_kind = ap is_send_socket (sym o.names.socket) ∙ kind

  o_there : Contains (lives_in last) o.life
  o_there = contains o.life (lives_in last) o.there

  origin : origin_in (crossings_of last) b a o.life.partner_stamp ≡ stamp
  origin =
      let at : (h v : Host) → o.life.host ≡ h → o.life.peer ≡ v → origin_in (crossings_of between ++ crossings_of last) h v o.life.partner_stamp ≡ origin_in (crossings_of last) h v o.life.partner_stamp =
      λ h v e f. subst (λ (k : Host). origin_in (crossings_of between ++ crossings_of last) k v o.life.partner_stamp ≡ origin_in (crossings_of last) k v o.life.partner_stamp) e
      (subst (λ (k : Host). origin_in (crossings_of between ++ crossings_of last) o.life.host k o.life.partner_stamp ≡ origin_in (crossings_of last) o.life.host k o.life.partner_stamp) f
      (origin_grows hosts last older (crossings_of between) o.life (ours_of hosts o.life b a (ours.1, ours.0) (o_host, o_peer)) o_there)) in
      sym (at b a o_host o_peer) ∙ ap (λ (log : List Crossing). origin_in log b a o.life.partner_stamp) (sym (all_crossings between last))
      ∙ ap (λ (n : ℕ). origin_in (crossings_of (between ++ last)) b a n) (sym o.names.partner) ∙ answers

  -- ---- its own request was said in this stay

  joined : Joined (receiver (record { receive = receive; send = send }) (steps a b (law_events (between ++ last)))) (sender (record { receive = receive; send = send }) (steps a b (law_events (between ++ last))))
  joined = law_joined hosts (between ++ last) l a b ours (record { receive = receive; send = send })

  in_sender : IsIn (life_of (origin_in (crossings_of (between ++ last)) b a) p) (sender (record { receive = receive; send = send }) (steps a b (law_events (between ++ last)))).lives
  in_sender =
      let c : Coupled hosts (between ++ last) = coupled_in hosts (between ++ last) l in
      let there : IsIn (life_of (origin_in (crossings_of (between ++ last)) p.host p.peer) p) (openings p.host p.peer p.socket p.foreign (between ++ last)) =
      life_in hosts (between ++ last) c.story c.run l.1 (served_in hosts (between ++ last) l.2) 0 p (ours_of hosts p b a (ours.1, ours.0) (host, peer)) (contains p (lives_in (between ++ last)) p_in) in
      let there_s : IsIn (life_of (origin_in (crossings_of (between ++ last)) p.host p.peer) p) (sender (record { receive = p.foreign; send = p.socket }) (steps p.peer p.host (law_events (between ++ last)))).lives =
      sender_in (life_of (origin_in (crossings_of (between ++ last)) p.host p.peer) p) p (between ++ last) kind (ap is_receive_socket foreign ∙ q.0) there in
      subst (λ (h : Host). IsIn (life_of (origin_in (crossings_of (between ++ last)) h a) p) (sender (record { receive = receive; send = send }) (steps a h (law_events (between ++ last)))).lives) host
      (subst (λ (v : Host). IsIn (life_of (origin_in (crossings_of (between ++ last)) p.host v) p) (sender (record { receive = receive; send = send }) (steps v p.host (law_events (between ++ last)))).lives) peer
      (subst (λ (k : ℕ). IsIn (life_of (origin_in (crossings_of (between ++ last)) p.host p.peer) p) (sender (record { receive = receive; send = k }) (steps p.peer p.host (law_events (between ++ last)))).lives) socket
      (subst (λ (k : ℕ). IsIn (life_of (origin_in (crossings_of (between ++ last)) p.host p.peer) p) (sender (record { receive = k; send = p.socket }) (steps p.peer p.host (law_events (between ++ last)))).lives) foreign there_s)))

  asked : (k : ℕ) × Asks k p.own_stamp (side_of (record { receive = receive; send = send }) Sender b a last).said
  asked = by (every_in (Stands joined.other joined.floor (sender (record { receive = receive; send = send }) (steps a b (law_events (between ++ last)))).said
      (sender (record { receive = receive; send = send }) (steps a b (law_events (between ++ last)))).heard (sender (record { receive = receive; send = send }) (steps a b (law_events (between ++ last)))).end)
      (life_of (origin_in (crossings_of (between ++ last)) b a) p) (sender (record { receive = receive; send = send }) (steps a b (law_events (between ++ last)))).lives joined.there.lived.stands in_sender).stood where
        by : Stood joined.other joined.floor (sender (record { receive = receive; send = send }) (steps a b (law_events (between ++ last)))).said
            (sender (record { receive = receive; send = send }) (steps a b (law_events (between ++ last)))).heard (life_of (origin_in (crossings_of (between ++ last)) b a) p)
            → (k : ℕ) × Asks k p.own_stamp (side_of (record { receive = receive; send = send }) Sender b a last).said
        by (inl old) =
            let under : origin_in (crossings_of (between ++ last)) b a p.partner_stamp < joined.floor = old.1 in
            let over : joined.floor ≤ stamp = from_asks g joined.floor stamp (receiver (record { receive = receive; send = send }) (steps a b (law_events (between ++ last)))).said joined.here.from own in
            absurd (omega (arith, under, over, answers))
        by (inr new) = (
          new.0,
          subst (λ (word : List Mark). Asks new.0 p.own_stamp word)
              (ap (λ (x : Side). x.said) (sender_half (record { receive = receive; send = send }) a b (law_events (between ++ last))) ∙ stands (record { receive = receive; send = send }) Sender b a between last left) new.1,
        )

  -- ---- so it isn't over there

  late : IsOf o.life (present_in a b last)
  late = elim (of_parts (since a b last) o.life (lives_in last) o.there) [
    | inl early ↦
        absurd (unasked hosts a b ours (record { receive = receive; send = send }) q last older o.life early o_host o_peer o_kind asked.0
        (subst (λ (n : ℕ). Asks asked.0 n (side_of (record { receive = receive; send = send }) Sender b a last).said) o.names.own asked.1))
    | inr there ↦ there
  ]

  carried : Sends a b (Own a b) (Heard a b) last o.life
  carried = (all_given hosts a b ours).carried_s last older theirs o.life late o_host o_peer o_kind

  number : carried.g ≡ g
  number =
      let j : Joined (receiver (record { receive = receive; send = send }) (steps a b (law_events last))) (sender (record { receive = receive; send = send }) (steps a b (law_events last))) = law_joined hosts last older a b ours (record { receive = receive; send = send }) in
      let heard : Heard a b last receive send o.life.partner_stamp carried.g =
      subst (λ (k : ℕ). Heard a b last receive k o.life.partner_stamp carried.g) o_socket (subst (λ (k : ℕ). Heard a b last k o.life.socket o.life.partner_stamp carried.g) o_foreign carried.heard) in
      let said : Own a b last receive send (origin_in (crossings_of last) b a o.life.partner_stamp) carried.g =
      asks_said carried.g (origin_in (crossings_of last) b a o.life.partner_stamp) (sender (record { receive = receive; send = send }) (steps a b (law_events last))).heard (receiver (record { receive = receive; send = send }) (steps a b (law_events last))).said j.there.older heard in
      let now : Own a b (between ++ last) receive send stamp carried.g = own_grows a b between last left receive send stamp carried.g (subst (λ (n : ℕ). Own a b last receive send n carried.g) origin said) in
      asks_once carried.g g stamp (receiver (record { receive = receive; send = send }) (steps a b (law_events (between ++ last)))).said joined.here.grows now own

  pub goes : o.life.ended ≡ false
  goes = by o.life.ended refl where
    by : (v : Bool) → o.life.ended ≡ v → v ≡ false
    by false e = refl
    by true e =
        let gone : suc carried.g ≤ gone_now a (own_calls b a last) o.life.socket o.life.foreign = carried.gone e in
        let here : suc carried.g ≤ gone_now a (own_calls b a last) send receive =
        subst (λ (k : ℕ). suc carried.g ≤ gone_now a (own_calls b a last) k receive) o_socket (subst (λ (k : ℕ). suc carried.g ≤ gone_now a (own_calls b a last) o.life.socket k) o_foreign gone) in
        let heard : gone_now a (own_calls b a last) send receive ≤ closes (side_of (record { receive = receive; send = send }) Sender b a last).heard = heard_least hosts last older (record { receive = receive; send = send }) q Sender b a (ours.1, ours.0) theirs in
        let j : Joined (side_of (record { receive = receive; send = send }) Receiver a b last) (side_of (record { receive = receive; send = send }) Sender b a last) = joined_halves hosts last older a b ours (record { receive = receive; send = send }) q in
        let said : closes (side_of (record { receive = receive; send = send }) Sender b a last).heard ≤ closes (side_of (record { receive = receive; send = send }) Receiver a b last).said = closes_said _ _ j.there.older in
        let more : closes (side_of (record { receive = receive; send = send }) Receiver a b last).said ≤ closes (side_of (record { receive = receive; send = send }) Receiver a b (between ++ last)).said =
        grows_on (record { receive = receive; send = send }) Receiver a b between last left in
        let same : carried.g ≡ g = number in
        absurd (omega (arith, here, heard, said, more, few, same))
