-- A receiving life and the sending one that it matches are of one connection.
use Rattle.world_keeps_streams.proofs.Common.{◌≡◌, inl, inr, ℕ, ◌==◌, Bool, true, false, List, [], ◌∷◌, Option, Some, None, refl, ap, sym, subst, ◌∙◌, eq-eqb, eqb-true, Contains, Host, is_receive_socket, is_send_socket, entry_at, is_at, is_link, is_mine_on, is_receiving, sends_on, Entry, both, gone_now, numbered, name_of, receiver, sender, Asks, pair_with, Moment, events_of, program, crossings_of, HasOpenEnd, law_events, origin_in, place_or, steps, numbered_by_peer, own_calls, Network, AreOurs}
use Rattle.pair_keeps_streams.proofs.lemmas.{AreSeparate, OfOne, separate}
use Rattle.pairing_law.proofs.lemmas.{asks_once, asks_said, Joined as Paired}
use Rattle.promise.specs.Safe.{Match, Name, own_request, named}
use Rattle.world_keeps_pairing.proofs.lemmas.{send_odd, IsPair}
use Rattle.reset_law.specs.Stays as stay
use Rattle.promise.specs.declared.life.Life.{Life}
use Rattle.world_keeps_streams.proofs.Books.Arrives.{end_at, stays_of}
use Rattle.world_keeps_streams.proofs.Books.Closes as closes
use Rattle.world_keeps_streams.proofs.Books.Given.{counts}
use Rattle.world_keeps_streams.proofs.Deeds.Effects.{Among}
use Rattle.world_keeps_streams.proofs.Requests.Now.{heard_now}
use Rattle.world_keeps_streams.proofs.Requests.Sides.{Heard, Lawful, Own, law_joined, lives_in}
use Rattle.world_keeps_streams.proofs.Steps.Joined.{Joined, party}
use Rattle.interface.proofs.lemmas.{unlike}
use Rattle.world_keeps_streams.proofs.Ours.{ours_sender}

-- ---- small facts

-- an end among those of a pair is found by its sockets
among_found : (own foreign : ℕ) (e : Entry) (es : List Entry) → AreSeparate es → is_at own foreign e ≡ true → Among e es → entry_at own foreign es ≡ Some e
among_found own foreign e [] a t i = absurd i
among_found own foreign e (z ∷ zs) a t i = by (is_at own foreign z) refl i (among_found own foreign e zs a.1 t) where
  none : is_at own foreign z ≡ true → entry_at own foreign zs ≡ None
  none h =
      let p : ((z.own == own) ≡ true) × ((z.foreign == foreign) ≡ true) = both (z.own == own) (z.foreign == foreign) h in
      subst (λ (n : ℕ). entry_at n foreign zs ≡ None) (eqb-true z.own own p.0) (subst (λ (n : ℕ). entry_at z.own n zs ≡ None) (eqb-true z.foreign foreign p.1) a.0)

  by : (v : Bool) → is_at own foreign z ≡ v → Among e (z ∷ zs) → (Among e zs → entry_at own foreign zs ≡ Some e) → entry_at own foreign (z ∷ zs) ≡ Some e
  by true h (inl same) rest = rw h (ap (λ (y : Entry). Some y) same)
  by true h (inr j) rest = absurd (let both_are : None ≡ Some e = sym (none h) ∙ rest j in cc)
  by false h (inl same) rest = absurd (unlike (is_at own foreign e) t (ap (is_at own foreign) (sym same) ∙ h))
  by false h (inr j) rest = rw h (rest j)

-- the place of a partner's request
place_is : (s : Life) (o : Option ℕ) (name : Name) → named s o ≡ Some name → place_or 0 o ≡ name.place
place_is s None name e = absurd (cc)
place_is s (Some p) name e = named_place (record { place = p; own = s.foreign; foreign = s.socket }) name e where
  named_place : (a b : Name) → Some a ≡ Some b → a.place ≡ b.place
  named_place a b f = let same : a ≡ b = cc in ap (λ (z : Name). z.place) same

-- what the receiver asked for and the sender heard is of one connection
one_connection : (hosts : Network) (ms : List Moment) → Lawful hosts ms → (a b : Host) → AreOurs hosts a b
    → (receive send stamp taken g k : ℕ) → origin_in (crossings_of ms) b a taken ≡ stamp
    → Own a b ms receive send stamp g → Heard a b ms receive send taken k → g ≡ k
one_connection hosts ms l a b ours receive send stamp taken g k is own heard =
    let j : Paired (receiver (record { receive = receive; send = send }) (steps a b (law_events ms))) (sender (record { receive = receive; send = send }) (steps a b (law_events ms))) = law_joined hosts ms l a b ours (record { receive = receive; send = send }) in
    let said : Asks k (origin_in (crossings_of ms) b a taken) (receiver (record { receive = receive; send = send }) (steps a b (law_events ms))).said =
    asks_said k (origin_in (crossings_of ms) b a taken) (sender (record { receive = receive; send = send }) (steps a b (law_events ms))).heard (receiver (record { receive = receive; send = send }) (steps a b (law_events ms))).said j.there.older heard in
    asks_once g k stamp (receiver (record { receive = receive; send = send }) (steps a b (law_events ms))).said j.here.grows own
    (subst (λ (p : ℕ). Asks k p (receiver (record { receive = receive; send = send }) (steps a b (law_events ms))).said) is said)

-- ---- two lives

-- the sending life that a receiving one matches isn't over either
pub record HasPartner (ms : List Moment) (x s : Life) : Type 0 where
  pub there : Contains (lives_in ms) s
  pub matches : Match (crossings_of ms) x s
  pub goes : s.ended ≡ false
  pub end : HasOpenEnd (program s.host ms) s

module _ (hosts : Network) (ms : List Moment) (l : Lawful hosts ms) (x s : Life) (f : closes.AtLink hosts ms x)
    (q : HasPartner ms x s) where
  pub here : stay.stays x.host x.peer (events_of ms) ≡ true
  here = closes.stays hosts ms l x f

  pub there : stay.stays x.peer x.host (events_of ms) ≡ true
  there =
      subst (λ (h : Host). stay.stays x.peer h (events_of ms) ≡ true) q.matches.peers.1
      (subst (λ (h : Host). stay.stays h s.peer (events_of ms) ≡ true) (sym q.matches.peers.0) (stays_of hosts ms l s (ours_sender hosts q.matches f.ours) q.there q.goes))

  -- the sender's end, among those of its host with the receiver's
  giver_at : Among q.end.end (pair_with x.host (program x.peer ms).peers).entries × (is_mine_on s.socket q.end.end ≡ true)
  giver_at =
      subst (λ (h : Host). Among q.end.end (pair_with h (program x.peer ms).peers).entries × (is_mine_on s.socket q.end.end ≡ true)) q.matches.peers.1
      (subst (λ (h : Host). Among q.end.end (pair_with s.peer (program h ms).peers).entries × (is_mine_on s.socket q.end.end ≡ true)) (sym q.matches.peers.0) (end_at s (program s.host ms) q.end))

  giver_own : q.end.end.own ≡ x.foreign
  giver_own = eqb-true q.end.end.own s.socket (both q.end.end.mine (q.end.end.own == s.socket) giver_at.1).1 ∙ sym q.matches.sockets.0

  giver_foreign : q.end.end.foreign ≡ x.socket
  giver_foreign = q.end.foreign ∙ q.matches.sockets.1

  sends_foreign : is_send_socket x.foreign ≡ true
  sends_foreign = ap is_send_socket q.matches.sockets.0 ∙ q.matches.sending

  pair : IsPair (record { receive = x.socket; send = x.foreign })
  pair = (q.matches.receiving, sends_foreign)

  origin_is : origin_in (crossings_of ms) x.peer x.host s.partner_stamp ≡ x.own_stamp
  origin_is =
      subst (λ (h : Host). origin_in (crossings_of ms) h x.host s.partner_stamp ≡ x.own_stamp) (sym q.matches.peers.0)
      (subst (λ (h : Host). origin_in (crossings_of ms) s.host h s.partner_stamp ≡ x.own_stamp) q.matches.peers.1 (place_is s _ (own_request x) q.matches.answered))

  own_now : Own x.host x.peer ms x.socket x.foreign x.own_stamp (gone_now x.peer (own_calls x.host x.peer ms) x.socket x.foreign)
  own_now = subst (λ (g : ℕ). Own x.host x.peer ms x.socket x.foreign x.own_stamp g) (closes.going hosts ms l x f).gone (closes.known hosts ms l x f).own

  -- ---- on any link

  module _ (link : ℕ) (j : Joined x.host x.peer link ms) where
    pub taker_found : entry_at x.socket x.foreign (pair_with x.peer (program x.host ms).peers).entries ≡ Some f.end.end
    taker_found =
        among_found x.socket x.foreign f.end.end (pair_with x.peer (program x.host ms).peers).entries
        (separate (name_of numbered (gone_now x.peer (own_calls x.host x.peer ms))) (pair_with x.peer (program x.host ms).peers).entries (j.joint.mine here).holds.sound.apart)
        (let own : (f.end.end.own == x.socket) ≡ true = eq-eqb f.end.end.own x.socket (closes.own hosts ms l x f) in
        let foreign : (f.end.end.foreign == x.foreign) ≡ true = eq-eqb f.end.end.foreign x.foreign f.end.foreign in rw (own, foreign) refl)
        (closes.at_it hosts ms l x f).0

    giver_found : entry_at x.foreign x.socket (pair_with x.host (program x.peer ms).peers).entries ≡ Some q.end.end
    giver_found =
        among_found x.foreign x.socket q.end.end (pair_with x.host (program x.peer ms).peers).entries
        (separate (name_of numbered_by_peer (gone_now x.host (own_calls x.peer x.host ms))) (pair_with x.host (program x.peer ms).peers).entries (j.joint.theirs there).holds.sound.apart)
        (let own : (q.end.end.own == x.foreign) ≡ true = eq-eqb q.end.end.own x.foreign giver_own in
        let foreign : (q.end.end.foreign == x.socket) ≡ true = eq-eqb q.end.end.foreign x.socket giver_foreign in rw (own, foreign) refl)
        giver_at.0

    heard : Heard x.host x.peer ms x.socket x.foreign s.partner_stamp (gone_now x.host (own_calls x.peer x.host ms) x.foreign x.socket)
    heard =
        heard_now hosts ms l x.host x.peer f.ours (record { receive = x.socket; send = x.foreign }) pair (counts hosts ms l x.peer x.host (f.ours.1, f.ours.0)) there q.end.end giver_found s.partner_stamp q.end.partner

    same_gone : gone_now x.peer (own_calls x.host x.peer ms) x.socket x.foreign ≡ gone_now x.host (own_calls x.peer x.host ms) x.foreign x.socket
    same_gone =
        one_connection hosts ms l x.host x.peer f.ours x.socket x.foreign x.own_stamp s.partner_stamp (gone_now x.peer (own_calls x.host x.peer ms) x.socket x.foreign) (gone_now x.host (own_calls x.peer x.host ms) x.foreign x.socket) origin_is own_now heard

    pub of_one : OfOne numbered numbered_by_peer (party x.host x.peer link j.rest_a ms) (party x.peer x.host link j.rest_b ms) f.end.end q.end.end
    of_one = record {
      own = x.socket;
      foreign = x.foreign;
      taker_found = taker_found;
      giver_found = giver_found;
      same = ap (λ (g : ℕ). numbered x.socket x.foreign g) same_gone;
      receiving = ap is_receive_socket (closes.own hosts ms l x f) ∙ f.receiving;
    }

    -- where the sender's end has this link
    pub sends_on_it : q.end.end.link ≡ Some link → sends_on link q.end.end ≡ true
    sends_on_it linked =
        let odd : is_receiving q.end.end ≡ false = ap is_receive_socket giver_own ∙ send_odd x.foreign sends_foreign in
        let on : is_link link q.end.end.link ≡ true = ap (is_link link) linked ∙ eq-eqb link link refl in
        rw (odd, on) refl
