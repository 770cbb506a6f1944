-- A receiving life that ended by CLS was closed by its partner: an open one is of a connection that no user has closed, and where its end goes, the sender's
-- CLS was heard before.
use Rattle.world_keeps_streams.proofs.Common.{eqb-true, Host, is_receive_socket, is_send_socket, Inv, some_is, has_cls, is_ending, is_mine_on, receives_on, Entry, both, AreReceiver, AreAllowed, HasClosed, IsHistory, gone_now, name_now, numbered, receiver_now, closed_first, numbered_tells, pair_with, begins_fresh, Fate, Asked, Moment, event_in, events_of, program, Coupled, kept_fated, HasOpenEnd, keeps, served_in, other_sends, calls_by, own_calls, IsClosedByPartner, WasClosedByPartner, Network, AreOurs}
use Rattle.std.proofs.Common.{◌≡◌, ◌⊎◌, inl, inr, ℕ, suc, ◌≤◌, ◌==◌, Bool, true, false, if◌then◌else◌, List, ◌∷◌, ◌++◌, map, drop, filter, Some, None, refl, ap, sym, subst, ◌∙◌, arith, []}
use Rattle.interface.proofs.lemmas.{or_false, unlike}
use Rattle.promise.specs.Fates.{IsBeside, is_over}
use Rattle.promise.specs.Safe.{own_request, receives}
use Rattle.net_sim.specs.Told.{host_in, notices_by, kept_in}
use Rattle.stream_law.specs.Receivers.{Receiver}
use Rattle.host_keeps_streams.specs.Histories as calls
use Rattle.reset_law.specs.Stays as stay
use Rattle.sockets.specs.Requests.{served_notices}
use Rattle.sockets.specs.declared.request.Request.TheVariants as request
use Rattle.promise.specs.declared.life.Fate.TheVariants as fate
use Rattle.promise.specs.declared.life.Life.{Life}
use Rattle.world_keeps_streams.proofs.Calls.Chain.{chain}
use Rattle.world_keeps_streams.proofs.Deeds.Effects.{Among, among_filter}
use Rattle.world_keeps_streams.proofs.Lives.Fates.{Came, IsBegun, IsClose, Moved, TellsEnd, TellsOpening, beside_of, beside_over, came}
use Rattle.world_keeps_streams.proofs.Lives.LeavesEnds.{still_stays}
use Rattle.world_keeps_streams.proofs.Lives.Lists.{IsOf, Named, contains, drop_grown, grown, of_left, of_map, of_parts}
use Rattle.world_keeps_streams.proofs.Lives.Opened.{lasts, was_open}
use Rattle.world_keeps_streams.proofs.Requests.Sides.{Heard, Lawful, Own, coupled_in, lives_in, below}
use Rattle.world_keeps_streams.proofs.Stays.Resets.{stays_on}
use Rattle.world_keeps_streams.proofs.Steps.Kinds.{closed_by, kinds}
use Rattle.world_keeps_streams.proofs.Steps.Overs.{AllHearNone, over_same}
use Rattle.world_keeps_streams.proofs.Steps.Shut.{IsShut, asked_calls, closed_shut, end_back, known_calls}
use Rattle.world_keeps_streams.proofs.Steps.Streams.{all_allowed, has_receiver}
use Rattle.world_keeps_streams.proofs.Steps.Unsaid.{AllHear, IsHere, here_calls}
use Rattle.world_keeps_streams.proofs.Books.All.{all_given}
use Rattle.world_keeps_streams.proofs.Books.Arrives.{end_at, stays_of}
use Rattle.world_keeps_streams.proofs.Books.Books.{one_own}
use Rattle.world_keeps_streams.proofs.Books.Clauses.{settled_r}
use Rattle.world_keeps_streams.proofs.Books.Closes as closes
use Rattle.world_keeps_streams.proofs.Books.Closes.{AtLink}
use Rattle.world_keeps_streams.proofs.Books.Goes.{since_bound, since_on}
use Rattle.world_keeps_streams.proofs.Books.Later as later
use Rattle.world_keeps_streams.proofs.Books.Later.{named_request}
use Rattle.world_keeps_streams.proofs.Books.Run.{whole}
use Rattle.world_keeps_streams.proofs.Books.Whole.{GoesOn, PresentR, Receives, Whole, present_in, since}
use Rattle.world_keeps_streams.proofs.Facts.{no_zero, own_if}
use Rattle.world_keeps_streams.proofs.Lives.Among.{life_paired}
use Rattle.world_keeps_streams.proofs.Ours.{live, ours_of}

-- ---- a receiving life that isn't over

late_now : (hosts : Network) (ms : List Moment) → Lawful hosts ms → (x : Life) → AreOurs hosts x.host x.peer
    → IsOf x (lives_in ms) → x.ended ≡ false → receives x ≡ true → IsOf x (present_in x.host x.peer ms)
late_now hosts ms l x ours i goes kind = elim (of_parts (since x.host x.peer ms) x (lives_in ms) i) [
  | inl early ↦ absurd (unlike x.ended (settled_r hosts x.host x.peer (Own x.host x.peer) (Heard x.host x.peer) (all_given hosts x.host x.peer ours) ms l x early refl refl kind).over goes)
  | inr there ↦ there
]

pub at_link : (hosts : Network) (ms : List Moment) → Lawful hosts ms → (x : Life) → AreOurs hosts x.host x.peer
    → IsOf x (lives_in ms) → x.ended ≡ false → receives x ≡ true → AtLink hosts ms x
at_link hosts ms l x ours i goes kind =
    let h : HasOpenEnd (program x.host ms) x = live hosts ms l.0 l.1 l.2 x ours.0 (contains x (lives_in ms) i) goes in
    let at : Among h.end (pair_with x.peer (program x.host ms).peers).entries × (is_mine_on x.socket h.end ≡ true) = end_at x (program x.host ms) h in
    let parts : (h.end.mine ≡ true) × ((h.end.own == x.socket) ≡ true) = both h.end.mine (h.end.own == x.socket) at.1 in
    let w : Whole x.host x.peer (Own x.host x.peer) (Heard x.host x.peer) ms = whole hosts x.host x.peer (Own x.host x.peer) (Heard x.host x.peer) (all_given hosts x.host x.peer ours) ms l in
    let p : PresentR x.host x.peer (Own x.host x.peer) (Heard x.host x.peer) ms w.j x = w.receiving x (late_now hosts ms l x ours i goes kind) refl refl kind in
    let o : GoesOn x.host x.peer (Own x.host x.peer) (Heard x.host x.peer) ms w.j p.link p.g x = p.going goes in
    record { ours = ours; there = contains x (lives_in ms) i; receiving = kind; goes = goes; end = h; link = suc p.link; linked = o.linked h.end at.0 parts.0 (eqb-true h.end.own x.socket parts.1) }

abbrev name_of : List Moment → Life → ℕ
name_of ms x = name_now numbered x.peer (own_calls x.host x.peer ms) x.socket x.foreign

-- no user has closed a connection on a link on which it has its end
abbrev NoneShut : Host → Host → List Moment → ℕ → Type 0
NoneShut a b ms c =
    (m : ℕ) → (receiver_now numbered b (suc m) (own_calls a b ms)).end ≡ Some c
    → HasClosed numbered b (suc m) c (own_calls a b ms) → ⊥

IsOpen : List Moment → Life → Type 0
IsOpen ms x = NoneShut x.host x.peer ms (name_now numbered x.peer (own_calls x.host x.peer ms) x.socket x.foreign)

-- ---- a moment more, while its host stays

module _ (hosts : Network) (y : Moment) (ms : List Moment) (l : Lawful hosts (y ∷ ms)) (x : Life)
    (ours : AreOurs hosts x.host x.peer) (i : IsOf x (lives_in ms)) (goes : x.ended ≡ false) (kind : receives x ≡ true)
    (on : stay.stays x.host x.peer (events_of (y ∷ ms)) ≡ true) where
  old : Lawful hosts ms
  old = below hosts y ms l

  abbrev k : AtLink hosts ms x
  k = at_link hosts ms (below hosts y ms l) x ours i goes kind

  was : stay.stays x.host x.peer (events_of ms) ≡ true
  was = stays_of hosts ms (below hosts y ms l) x ours (contains x (lives_in ms) i) goes

  -- they don't meet anew
  none : stay.begins x.host x.peer (event_in y) (events_of ms) ≡ false
  none = by (stay.begins x.host x.peer (event_in y) (events_of ms)) refl where
    by : (v : Bool) → stay.begins x.host x.peer (event_in y) (events_of ms) ≡ v → v ≡ false
    by false e = refl
    by true e = absurd (unlike (stay.stays x.host x.peer (events_of ms)) was (begins_fresh hosts (event_in y) (events_of ms) (coupled_in hosts (y ∷ ms) l).run x.host x.peer ours e).left)

  own_is : own_calls x.host x.peer (y ∷ ms) ≡ calls_by x.host x.peer y ms ++ own_calls x.host x.peer ms
  own_is = own_if (keeps x.host x.peer (event_in y) (events_of ms)) (calls_by x.host x.peer y ms ++ own_calls x.host x.peer ms) [] (stays_on x.host x.peer (event_in y) (events_of ms) on none).0

  history : IsHistory x.peer (calls_by x.host x.peer y ms ++ own_calls x.host x.peer ms)
  history = subst (λ (cs : List calls.Moment). IsHistory x.peer cs) own_is (chain hosts l.0 (y ∷ ms) l.1 l.2 x.host x.peer ours).0

  may : (m : ℕ) → AreAllowed numbered x.peer (suc m) (calls_by x.host x.peer y ms ++ own_calls x.host x.peer ms)
  may m = subst (λ (cs : List calls.Moment). AreAllowed numbered x.peer (suc m) cs) own_is (all_allowed hosts l.0 (suc m) (no_zero m) x.host x.peer ours (y ∷ ms) l.1 l.2)

  -- the number of its connection
  abbrev its_g : ℕ
  its_g = (closes.known hosts ms (below hosts y ms l) x (at_link hosts ms (below hosts y ms l) x ours i goes kind)).g

  abbrev its_c : ℕ
  its_c = numbered x.socket x.foreign (closes.known hosts ms (below hosts y ms l) x (at_link hosts ms (below hosts y ms l) x ours i goes kind)).g

  abbrev its_n : ℕ
  its_n = closes.n hosts ms (below hosts y ms l) x (at_link hosts ms (below hosts y ms l) x ours i goes kind)

  name_is : its_c ≡ name_of ms x
  name_is = (closes.place hosts ms (below hosts y ms l) x (at_link hosts ms (below hosts y ms l) x ours i goes kind)).1

  -- ---- no user closes it

  unshut_on : IsOpen ms x → (IsClose y x → ⊥) → NoneShut x.host x.peer (y ∷ ms) its_c
  unfolding IsOpen
  unshut_on clear un m end h =
      clear m (end_was ∙ ap (λ (j : ℕ). Some j) name_is)
      (subst (λ (j : ℕ). HasClosed numbered x.peer (suc m) j (own_calls x.host x.peer ms)) name_is closed_was) where
        closed_was : HasClosed numbered x.peer (suc m) its_c (own_calls x.host x.peer ms)
        closed_was =
            closed_by x.host x.peer ms x refl goes its_g (suc m) y (may m) un
            (subst (λ (cs : List calls.Moment). HasClosed numbered x.peer (suc m) its_c cs) own_is h)

        end_was : (receiver_now numbered x.peer (suc m) (own_calls x.host x.peer ms)).end ≡ Some its_c
        end_was =
            end_back numbered numbered_tells x.peer (suc m) its_c (calls_by x.host x.peer y ms) (own_calls x.host x.peer ms) history (may m)
            (closed_shut numbered numbered_tells x.peer (suc m) its_c (own_calls x.host x.peer ms) (chain hosts l.0 ms old.1 old.2 x.host x.peer ours).0
            (all_allowed hosts l.0 (suc m) (no_zero m) x.host x.peer ours ms old.1 old.2) closed_was).asked
            (subst (λ (cs : List calls.Moment). (receiver_now numbered x.peer (suc m) cs).end ≡ Some its_c) own_is end)

  -- ---- the life then

  names : Named x ((grown y ms).change x)
  names = (grown y ms).names x

  late_next : IsOf ((grown y ms).change x) (present_in x.host x.peer (y ∷ ms))
  late_next =
      subst (λ (n : ℕ). IsOf ((grown y ms).change x) (drop n (lives_in (y ∷ ms)))) (sym (since_on x.host x.peer y ms none))
      (subst (λ (ys : List Life). IsOf ((grown y ms).change x) ys) (sym (ap (drop (since x.host x.peer ms)) (grown y ms).is ∙ drop_grown (grown y ms).change (since x.host x.peer ms) (lives_in ms) (grown y ms).more (since_bound x.host x.peer ms)))
      (of_left ((grown y ms).change x) (map (grown y ms).change (present_in x.host x.peer ms)) (grown y ms).more
      (of_map (grown y ms).change x (present_in x.host x.peer ms) (late_now hosts ms (below hosts y ms l) x ours i goes kind))))

  kind_next : receives ((grown y ms).change x) ≡ true
  kind_next = ap is_receive_socket names.socket ∙ kind

  rc : Receives x.host x.peer (Own x.host x.peer) (Heard x.host x.peer) (y ∷ ms) ((grown y ms).change x)
  rc = (all_given hosts x.host x.peer ours).carried_r (y ∷ ms) l on ((grown y ms).change x) late_next names.host names.peer kind_next

  number : rc.g ≡ its_g
  number =
      let before : Own x.host x.peer (y ∷ ms) x.socket x.foreign x.own_stamp its_g =
      (all_given hosts x.host x.peer ours).own_on y ms l none x.socket x.foreign x.own_stamp its_g
      (closes.known hosts ms (below hosts y ms l) x (at_link hosts ms (below hosts y ms l) x ours i goes kind)).own in
      let now : Own x.host x.peer (y ∷ ms) x.socket x.foreign x.own_stamp rc.g =
      subst (λ (n : ℕ). Own x.host x.peer (y ∷ ms) n x.foreign x.own_stamp rc.g) names.socket
      (subst (λ (n : ℕ). Own x.host x.peer (y ∷ ms) ((grown y ms).change x).socket n x.own_stamp rc.g) names.foreign
      (subst (λ (n : ℕ). Own x.host x.peer (y ∷ ms) ((grown y ms).change x).socket ((grown y ms).change x).foreign n rc.g) names.own rc.own)) in
      later.one_number hosts x.host x.peer ours (y ∷ ms) l x.socket x.foreign x.own_stamp rc.g its_g now before

  -- it continues, so it is open still
  open_on : ((grown y ms).change x).ended ≡ false → IsOpen ms x → (IsClose y x → ⊥) → IsOpen (y ∷ ms) ((grown y ms).change x)
  unfolding IsOpen
  open_on t clear un =
      let gone : gone_now x.peer (own_calls x.host x.peer (y ∷ ms)) ((grown y ms).change x).socket ((grown y ms).change x).foreign ≡ its_g =
      sym (rc.gone t) ∙ number in
      let gone_x : gone_now x.peer (own_calls x.host x.peer (y ∷ ms)) x.socket x.foreign ≡ its_g =
      ap (λ (n : ℕ). gone_now x.peer (own_calls x.host x.peer (y ∷ ms)) n x.foreign) (sym names.socket)
      ∙ ap (λ (n : ℕ). gone_now x.peer (own_calls x.host x.peer (y ∷ ms)) ((grown y ms).change x).socket n) (sym names.foreign) ∙ gone in
      let here : NoneShut x.host x.peer (y ∷ ms) (name_now numbered x.peer (own_calls x.host x.peer (y ∷ ms)) x.socket x.foreign) =
      subst (λ (n : ℕ). NoneShut x.host x.peer (y ∷ ms) (numbered x.socket x.foreign n)) (sym gone_x) (unshut_on clear un) in
      subst (λ (h : Host). NoneShut h ((grown y ms).change x).peer (y ∷ ms) (name_now numbered ((grown y ms).change x).peer (own_calls h ((grown y ms).change x).peer (y ∷ ms)) ((grown y ms).change x).socket ((grown y ms).change x).foreign)) (sym names.host)
      (subst (λ (p : Host). NoneShut x.host p (y ∷ ms) (name_now numbered p (own_calls x.host p (y ∷ ms)) ((grown y ms).change x).socket ((grown y ms).change x).foreign)) (sym names.peer)
      (subst (λ (n : ℕ). NoneShut x.host x.peer (y ∷ ms) (name_now numbered x.peer (own_calls x.host x.peer (y ∷ ms)) n ((grown y ms).change x).foreign)) (sym names.socket)
      (subst (λ (n : ℕ). NoneShut x.host x.peer (y ∷ ms) (name_now numbered x.peer (own_calls x.host x.peer (y ∷ ms)) x.socket n)) (sym names.foreign) here)))

  -- ---- or it is over

  module _ (t : ((grown y ms).change x).ended ≡ true) where
    gone : suc its_g ≤ gone_now x.peer (own_calls x.host x.peer (y ∷ ms)) x.socket x.foreign
    gone =
        subst (λ (n : ℕ). suc its_g ≤ gone_now x.peer (own_calls x.host x.peer (y ∷ ms)) n x.foreign) names.socket
        (subst (λ (n : ℕ). suc its_g ≤ gone_now x.peer (own_calls x.host x.peer (y ∷ ms)) ((grown y ms).change x).socket n) names.foreign
        (subst (λ (n : ℕ). suc n ≤ gone_now x.peer (own_calls x.host x.peer (y ∷ ms)) ((grown y ms).change x).socket ((grown y ms).change x).foreign) number (rc.over t)))

    -- its connection was asked for
    asked : (receiver_now numbered x.peer (suc its_n) (own_calls x.host x.peer (y ∷ ms))).asked
        its_c ≡ true
    asked =
        subst (λ (cs : List calls.Moment). (receiver_now numbered x.peer (suc its_n) cs).asked its_c ≡ true) (sym own_is)
        (asked_calls numbered numbered_tells x.peer (suc its_n) its_c (calls_by x.host x.peer y ms) (own_calls x.host x.peer ms)
        (known_calls numbered numbered_tells x.peer (suc its_n) (own_calls x.host x.peer ms) its_c
        ((closes.law hosts ms (below hosts y ms l) x (at_link hosts ms (below hosts y ms l) x ours i goes kind)).end
        ∙ ap (λ (j : ℕ). Some j) (closes.name_is hosts ms (below hosts y ms l) x (at_link hosts ms (below hosts y ms l) x ours i goes kind)))))

    -- and its end has gone
    no_end : (es : List Entry) (v : Receiver) → AreReceiver (name_now numbered x.peer (own_calls x.host x.peer (y ∷ ms))) es v → v.end ≡ Some its_c → ⊥
    no_end [] v h e = let not : None ≡ Some its_c = sym h ∙ e in absurd (cc)
    no_end (f ∷ []) v h e =
        let same : name_now numbered x.peer (own_calls x.host x.peer (y ∷ ms)) f.own f.foreign ≡ its_c = some_is _ _ (sym h.end ∙ e) in
        let own : f.own ≡ x.socket = numbered_tells.own f.own f.foreign (gone_now x.peer (own_calls x.host x.peer (y ∷ ms)) f.own f.foreign) x.socket x.foreign its_g same in
        let foreign : f.foreign ≡ x.foreign = numbered_tells.foreign f.own f.foreign (gone_now x.peer (own_calls x.host x.peer (y ∷ ms)) f.own f.foreign) x.socket x.foreign its_g same in
        let count : gone_now x.peer (own_calls x.host x.peer (y ∷ ms)) f.own f.foreign ≡ its_g =
        numbered_tells.gone f.own f.foreign (gone_now x.peer (own_calls x.host x.peer (y ∷ ms)) f.own f.foreign) x.socket x.foreign its_g same in
        let here : gone_now x.peer (own_calls x.host x.peer (y ∷ ms)) x.socket x.foreign ≡ its_g =
        ap (λ (j : ℕ). gone_now x.peer (own_calls x.host x.peer (y ∷ ms)) j x.foreign) (sym own) ∙ ap (λ (j : ℕ). gone_now x.peer (own_calls x.host x.peer (y ∷ ms)) f.own j) (sym foreign) ∙ count in
        let more : suc its_g ≤ gone_now x.peer (own_calls x.host x.peer (y ∷ ms)) x.socket x.foreign = gone in
        absurd (omega (arith, here, more))
    no_end (f ∷ z ∷ zs) v h e = h

    law_is : (m : ℕ)
        → ((later.at_now hosts x.host x.peer ours (y ∷ ms) l).j m).x.receiver ≡ receiver_now numbered x.peer (suc m) (own_calls x.host x.peer (y ∷ ms))
    law_is m = ((later.at_now hosts x.host x.peer ours (y ∷ ms) l).j m).received_a on

    -- so the sender's CLS was heard
    over : (receiver_now numbered x.peer (suc its_n) (own_calls x.host x.peer (y ∷ ms))).over
        its_c ≡ true
    over = by (inv.ends.known its_c (ap (λ (v : Receiver). v.asked its_c) (law_is its_n) ∙ asked)) where
      inv : Inv ((later.at_now hosts x.host x.peer ours (y ∷ ms) l).j its_n).x
      inv = ((later.at_now hosts x.host x.peer ours (y ∷ ms) l).j its_n).joint.inv_x

      by : (((later.at_now hosts x.host x.peer ours (y ∷ ms) l).j its_n).x.receiver.end ≡ Some its_c) ⊎ (((later.at_now hosts x.host x.peer ours (y ∷ ms) l).j its_n).x.receiver.over its_c ≡ true)
          → (receiver_now numbered x.peer (suc its_n) (own_calls x.host x.peer (y ∷ ms))).over its_c ≡ true
      by (inl e) =
          absurd (no_end (filter (receives_on (suc its_n)) (pair_with x.peer (program x.host (y ∷ ms)).peers).entries) (receiver_now numbered x.peer (suc its_n) (own_calls x.host x.peer (y ∷ ms)))
          (has_receiver hosts l.0 (suc its_n) (no_zero its_n) x.host x.peer ours (y ∷ ms) l.1 l.2) (ap (λ (v : Receiver). v.end) (sym (law_is its_n)) ∙ e))
      by (inr e) = ap (λ (v : Receiver). v.over its_c) (sym (law_is its_n)) ∙ e

    -- ---- while it continued its end had taken the sender's CLS

    law_was : (m : ℕ)
        → ((later.at_now hosts x.host x.peer ours ms (below hosts y ms l)).j m).x.receiver ≡ receiver_now numbered x.peer (suc m) (own_calls x.host x.peer ms)
    law_was m = ((later.at_now hosts x.host x.peer ours ms (below hosts y ms l)).j m).received_a was

    end_was : (receiver_now numbered x.peer (suc its_n) (own_calls x.host x.peer ms)).end ≡ Some its_c
    end_was =
        (closes.law hosts ms (below hosts y ms l) x (at_link hosts ms (below hosts y ms l) x ours i goes kind)).end
        ∙ ap (λ (j : ℕ). Some j) (closes.name_is hosts ms (below hosts y ms l) x (at_link hosts ms (below hosts y ms l) x ours i goes kind))

    module _ (never : HasClosed numbered x.peer (suc its_n) its_c (own_calls x.host x.peer ms) → ⊥) where
      unsaid : (receiver_now numbered x.peer (suc its_n) (own_calls x.host x.peer ms)).over its_c ≡ false → (receiver_now numbered x.peer (suc its_n) (own_calls x.host x.peer ms)).closed ≡ true → ⊥
      unsaid unheard said =
          let inv : Inv ((later.at_now hosts x.host x.peer ours ms (below hosts y ms l)).j its_n).x = ((later.at_now hosts x.host x.peer ours ms (below hosts y ms l)).j its_n).joint.inv_x in
          let first : ((later.at_now hosts x.host x.peer ours ms (below hosts y ms l)).j its_n).x.receiver.first its_c ≡ true =
          inv.arrivals.firsts its_c (ap (λ (v : Receiver). v.end) (law_was its_n) ∙ end_was) (ap (λ (v : Receiver). v.closed) (law_was its_n) ∙ said) (ap (λ (v : Receiver). v.over its_c) (law_was its_n) ∙ unheard) in
          never (closed_first numbered x.peer (suc its_n) its_c (own_calls x.host x.peer ms) (ap (λ (v : Receiver). v.first its_c) (sym (law_was its_n)) ∙ first))

      over_was : (receiver_now numbered x.peer (suc its_n) (own_calls x.host x.peer ms)).over its_c ≡ true
      over_was = by ((receiver_now numbered x.peer (suc its_n) (own_calls x.host x.peer ms)).over its_c) refl where
        now : (receiver_now numbered x.peer (suc its_n) (calls_by x.host x.peer y ms ++ own_calls x.host x.peer ms)).over its_c ≡ true
        now = subst (λ (cs : List calls.Moment). (receiver_now numbered x.peer (suc its_n) cs).over its_c ≡ true) own_is over

        heard : (receiver_now numbered x.peer (suc its_n) (own_calls x.host x.peer ms)).over its_c ≡ false → AllHearNone (calls_by x.host x.peer y ms) ⊎ AllHear (calls_by x.host x.peer y ms) → ⊥
        heard unheard (inl none) =
            unlike ((receiver_now numbered x.peer (suc its_n) (own_calls x.host x.peer ms)).over its_c)
            (ap (λ (f : ℕ → Bool). f its_c) (sym (over_same numbered x.peer (suc its_n) (calls_by x.host x.peer y ms) (own_calls x.host x.peer ms) none)) ∙ now) unheard
        heard unheard (inr all) =
            let here : IsHere (receiver_now numbered x.peer (suc its_n) (calls_by x.host x.peer y ms ++ own_calls x.host x.peer ms)) its_c =
            here_calls numbered numbered_tells x.peer (suc its_n) its_c (calls_by x.host x.peer y ms) (own_calls x.host x.peer ms) all history (may its_n)
            (record { end = end_was; late = λ said. absurd (unsaid unheard said) }) in
            no_end (filter (receives_on (suc its_n)) (pair_with x.peer (program x.host (y ∷ ms)).peers).entries) (receiver_now numbered x.peer (suc its_n) (own_calls x.host x.peer (y ∷ ms)))
            (has_receiver hosts l.0 (suc its_n) (no_zero its_n) x.host x.peer ours (y ∷ ms) l.1 l.2) (ap (λ (cs : List calls.Moment). (receiver_now numbered x.peer (suc its_n) cs).end) own_is ∙ here.end)

        by : (v : Bool) → (receiver_now numbered x.peer (suc its_n) (own_calls x.host x.peer ms)).over its_c ≡ v → (receiver_now numbered x.peer (suc its_n) (own_calls x.host x.peer ms)).over its_c ≡ true
        by true e = e
        by false e = absurd (heard e (kinds x.host x.peer y ms))

      closed_then : IsClosedByPartner ms x
      closed_then = record {
        there = contains x (lives_in ms) i;
        receiving = kind;
        goes = goes;
        end = k.end;
        closed =
            sym (closes.law hosts ms (below hosts y ms l) x k).over
            ∙ ap (λ (j : ℕ). (receiver_now numbered x.peer (suc its_n) (own_calls x.host x.peer ms)).over j) (closes.name_is hosts ms (below hosts y ms l) x k) ∙ over_was;
        link = k.link;
        linked = k.linked;
        unclosed = λ h.
            never
            (subst (λ (j : ℕ). HasClosed numbered x.peer j its_c (own_calls x.host x.peer ms)) (closes.place hosts ms (below hosts y ms l) x k).0
            (subst (λ (j : ℕ). HasClosed numbered x.peer k.link j (own_calls x.host x.peer ms)) (sym name_is) h));
      }

    -- its partner had closed it, and no user of its host
    closed_there : IsOpen ms x → IsClosedByPartner ms x
    unfolding IsOpen
    closed_there clear =
        closed_then
        (λ h. clear its_n (end_was ∙ ap (λ (j : ℕ). Some j) name_is) (subst (λ (j : ℕ). HasClosed numbered x.peer (suc its_n) j (own_calls x.host x.peer ms)) name_is h))

-- ---- a life that begins

pub no_close_opening : (y : Moment) (ms : List Moment) (x : Life) → TellsOpening x (notices_by y ms) → IsClose y x → ⊥
unfolding served_notices
no_close_opening (Asked h (request.Close socket)) ms x t i = t
no_close_opening y ms x t i = i

module _ (hosts : Network) (y : Moment) (ms : List Moment) (l : Lawful hosts (y ∷ ms)) (x : Life)
    (ours : AreOurs hosts x.host x.peer) (i : IsOf x (lives_in (y ∷ ms))) (goes : x.ended ≡ false)
    (kind : receives x ≡ true) (host : host_in y ≡ x.host) (opens : TellsOpening x (notices_by y ms)) where
  older : Lawful hosts ms
  older = below hosts y ms l

  sends : is_send_socket x.foreign ≡ true
  sends =
      let c : Coupled hosts (y ∷ ms) = coupled_in hosts (y ∷ ms) l in
      other_sends x kind (life_paired hosts (y ∷ ms) c.story c.run l.1 (served_in hosts (y ∷ ms) l.2) x ours (contains x (lives_in (y ∷ ms)) i))

  abbrev its : ℕ
  its = name_now numbered x.peer (own_calls x.host x.peer (y ∷ ms)) x.socket x.foreign

  -- on a link where a user had closed its connection before, it had an end whose CLS was said
  module _ (is : own_calls x.host x.peer (y ∷ ms) ≡ calls_by x.host x.peer y ms ++ own_calls x.host x.peer ms) (m : ℕ) (end : (receiver_now numbered x.peer (suc m) (own_calls x.host x.peer (y ∷ ms))).end ≡ Some its)
      (closed : HasClosed numbered x.peer (suc m) its (own_calls x.host x.peer (y ∷ ms))) where
    history_new : IsHistory x.peer (calls_by x.host x.peer y ms ++ own_calls x.host x.peer ms)
    history_new = subst (λ (cs : List calls.Moment). IsHistory x.peer cs) is (chain hosts l.0 (y ∷ ms) l.1 l.2 x.host x.peer ours).0

    may_new : AreAllowed numbered x.peer (suc m) (calls_by x.host x.peer y ms ++ own_calls x.host x.peer ms)
    may_new = subst (λ (cs : List calls.Moment). AreAllowed numbered x.peer (suc m) cs) is (all_allowed hosts l.0 (suc m) (no_zero m) x.host x.peer ours (y ∷ ms) l.1 l.2)

    closed_was : HasClosed numbered x.peer (suc m) its (own_calls x.host x.peer ms)
    closed_was =
        closed_by x.host x.peer ms x refl goes (gone_now x.peer (own_calls x.host x.peer (y ∷ ms)) x.socket x.foreign) (suc m) y may_new (no_close_opening y ms x opens)
        (subst (λ (cs : List calls.Moment). HasClosed numbered x.peer (suc m) its cs) is closed)

    shut_was : IsShut (receiver_now numbered x.peer (suc m) (own_calls x.host x.peer ms)) its
    shut_was =
        closed_shut numbered numbered_tells x.peer (suc m) its (own_calls x.host x.peer ms) (chain hosts l.0 ms older.1 older.2 x.host x.peer ours).0
        (all_allowed hosts l.0 (suc m) (no_zero m) x.host x.peer ours ms older.1 older.2) closed_was

    end_was_new : (receiver_now numbered x.peer (suc m) (own_calls x.host x.peer ms)).end ≡ Some its
    end_was_new =
        end_back numbered numbered_tells x.peer (suc m) its (calls_by x.host x.peer y ms) (own_calls x.host x.peer ms) history_new may_new shut_was.asked
        (subst (λ (cs : List calls.Moment). (receiver_now numbered x.peer (suc m) cs).end ≡ Some its) is end)

    -- and there is none
    none_said : (es : List Entry) (v : Receiver) → ((e : Entry) → Among e es → e.own ≡ x.socket → e.foreign ≡ x.foreign → is_ending e ≡ false)
        → AreReceiver (name_now numbered x.peer (own_calls x.host x.peer ms)) es v → v.end ≡ Some its → v.closed ≡ true → ⊥
    none_said [] v goes_on h e said = let no : None ≡ Some its = sym h ∙ e in absurd (cc)
    none_said (f ∷ []) v goes_on h e said =
        let same : name_now numbered x.peer (own_calls x.host x.peer ms) f.own f.foreign ≡ its = some_is _ _ (sym h.end ∙ e) in
        let own : f.own ≡ x.socket = numbered_tells.own f.own f.foreign (gone_now x.peer (own_calls x.host x.peer ms) f.own f.foreign) x.socket x.foreign (gone_now x.peer (own_calls x.host x.peer (y ∷ ms)) x.socket x.foreign) same in
        let foreign : f.foreign ≡ x.foreign = numbered_tells.foreign f.own f.foreign (gone_now x.peer (own_calls x.host x.peer ms) f.own f.foreign) x.socket x.foreign (gone_now x.peer (own_calls x.host x.peer (y ∷ ms)) x.socket x.foreign) same in
        unlike (has_cls f.closing) (sym h.closed ∙ said) (or_false (has_cls f.closing) f.partner_closed (goes_on f (inl refl) own foreign)).0
    none_said (f ∷ k ∷ more) v goes_on h e said = h

    unshut : ⊥
    unshut =
        none_said (filter (receives_on (suc m)) (pair_with x.peer (program x.host ms).peers).entries) (receiver_now numbered x.peer (suc m) (own_calls x.host x.peer ms))
        (λ e j own foreign. was_open hosts y ms l x ours kind sends host opens e (among_filter (receives_on (suc m)) (pair_with x.peer (program x.host ms).peers).entries e j).0 own foreign)
        (has_receiver hosts l.0 (suc m) (no_zero m) x.host x.peer ours ms older.1 older.2) end_was_new (shut_was.closed end_was_new)

  begins_open : IsOpen (y ∷ ms) x
  unfolding IsOpen
  begins_open m end closed = by (keeps x.host x.peer (event_in y) (events_of ms)) refl where
    by : (v : Bool) → keeps x.host x.peer (event_in y) (events_of ms) ≡ v → ⊥
    by true on = unshut (own_if (keeps x.host x.peer (event_in y) (events_of ms)) (calls_by x.host x.peer y ms ++ own_calls x.host x.peer ms) [] on) m end closed
    by false away =
        subst (λ (cs : List calls.Moment). HasClosed numbered x.peer (suc m) its cs)
        (ap (λ (v : Bool). if v then calls_by x.host x.peer y ms ++ own_calls x.host x.peer ms else []) away) closed

-- ---- at every moment

-- it was closed by its partner, as a life of the same two hosts
pub record WasClosed (hosts : Network) (ms : List Moment) (x : Life) : Type 0 where
  pub closed : WasClosedByPartner ms x
  pub ours : AreOurs hosts closed.receiver.host closed.receiver.peer

-- what the fate of a receiving life says of its connection
record IsFated (hosts : Network) (ms : List Moment) (x : Life) (f : Fate) : Type 0 where
  opened : f ≡ fate.Open → IsOpen ms x
  ended : f ≡ fate.Ended → WasClosed hosts ms x

module _ (hosts : Network) (y : Moment) (ms : List Moment) (l : Lawful hosts (y ∷ ms)) (z : Life) (g : Fate)
    (i : IsBeside z g (kept_in (y ∷ ms)).book.lives (kept_in (y ∷ ms)).fates) (ours : AreOurs hosts z.host z.peer)
    (kind : receives z ≡ true) where
  z_in : IsOf z (lives_in (y ∷ ms))
  z_in = beside_of (lives_in (y ∷ ms)) (kept_in (y ∷ ms)).fates z g i

  z_over : z.ended ≡ is_over g
  z_over = beside_over (lives_in (y ∷ ms)) (kept_in (y ∷ ms)).fates z g (kept_fated (y ∷ ms)) i

  z_sends : is_send_socket z.foreign ≡ true
  z_sends =
      let c : Coupled hosts (y ∷ ms) = coupled_in hosts (y ∷ ms) l in
      other_sends z kind (life_paired hosts (y ∷ ms) c.story c.run l.1 (served_in hosts (y ∷ ms) l.2) z ours (contains z (lives_in (y ∷ ms)) z_in))

  fated_new : IsBegun (host_in y) (notices_by y ms) z g → IsFated hosts (y ∷ ms) z g
  fated_new b = record {
    opened = λ e. begins_open hosts y ms l z ours z_in (z_over ∙ ap is_over e) kind b.host b.opens;
    ended = λ e. absurd (lasts hosts y ms l z ours kind z_sends b.host b.opens (b.ends e));
  }

  module _ (x : Life) (f : Fate) (j : IsBeside x f (kept_in ms).book.lives (kept_in ms).fates) (m : Moved y ms x f z g) (before : IsFated hosts ms x f) where
    ours_x : AreOurs hosts x.host x.peer
    ours_x = ours_of hosts x z.host z.peer ours (sym m.named.host, sym m.named.peer)

    x_in : IsOf x (lives_in ms)
    x_in = beside_of (lives_in ms) (kept_in ms).fates x f j

    x_over : x.ended ≡ is_over f
    x_over = beside_over (lives_in ms) (kept_in ms).fates x f (kept_fated ms) j

    kind_x : receives x ≡ true
    kind_x = ap is_receive_socket (sym m.named.socket) ∙ kind

    changed_in : IsOf ((grown y ms).change x) (lives_in (y ∷ ms))
    changed_in =
        subst (λ (ys : List Life). IsOf ((grown y ms).change x) ys) (sym (grown y ms).is)
        (of_left ((grown y ms).change x) (map (grown y ms).change (lives_in ms)) (grown y ms).more (of_map (grown y ms).change x (lives_in ms) x_in))

    same : (grown y ms).change x ≡ z
    same =
        one_own hosts (y ∷ ms) l ((grown y ms).change x) z (ours_of hosts ((grown y ms).change x) x.host x.peer ours_x (((grown y ms).names x).host, ((grown y ms).names x).peer)) ours changed_in z_in
        (named_request x ((grown y ms).change x) ((grown y ms).names x) ∙ sym (named_request x z m.named))

    fated_old : IsFated hosts (y ∷ ms) z g
    fated_old = record { opened = opens; ended = ends } where
      opens : g ≡ fate.Open → IsOpen (y ∷ ms) z
      opens e =
          let was : f ≡ fate.Open = m.opens e in
          let goes : x.ended ≡ false = x_over ∙ ap is_over was in
          let goes_z : z.ended ≡ false = z_over ∙ ap is_over e in
          let on : stay.stays x.host x.peer (events_of (y ∷ ms)) ≡ true =
          subst (λ (h : Host). stay.stays h x.peer (events_of (y ∷ ms)) ≡ true) m.named.host
          (subst (λ (p : Host). stay.stays z.host p (events_of (y ∷ ms)) ≡ true) m.named.peer (stays_of hosts (y ∷ ms) l z ours (contains z (lives_in (y ∷ ms)) z_in) goes_z)) in
          subst (λ (v : Life). IsOpen (y ∷ ms) v) same
          (open_on hosts y ms l x ours_x x_in goes kind_x on (ap (λ (v : Life). v.ended) same ∙ goes_z) (before.opened was) (m.unclosed e))

      older : WasClosed hosts ms x → x.ended ≡ true → WasClosed hosts (y ∷ ms) z
      older v done = let w : WasClosedByPartner ms x = v.closed in record {
        ours = v.ours;
        closed = record {
          there = contains z (lives_in (y ∷ ms)) z_in;
          later = y ∷ w.later;
          earlier = w.earlier;
          is = ap (λ (ns : List Moment). y ∷ ns) w.is;
          receiver = w.receiver;
          then = w.then;
          same = ap own_request (m.still done) ∙ w.same;
        };
      }

      now : (f ≡ fate.Open) × (host_in y ≡ x.host) × TellsEnd x (notices_by y ms) → z.ended ≡ true
          → WasClosed hosts (y ∷ ms) z
      now t over_z =
          let goes : x.ended ≡ false = x_over ∙ ap is_over t.0 in
          let was : stay.stays (host_in y) x.peer (events_of ms) ≡ true =
          subst (λ (h : Host). stay.stays h x.peer (events_of ms) ≡ true) (sym t.1) (stays_of hosts ms (below hosts y ms l) x ours_x (contains x (lives_in ms) x_in) goes) in
          let on : stay.stays x.host x.peer (events_of (y ∷ ms)) ≡ true = subst (λ (h : Host). stay.stays h x.peer (events_of (y ∷ ms)) ≡ true) t.1 (still_stays hosts x.peer x y ms (subst (λ (h : Host). hosts.strange h ≡ false) (sym t.1) ours_x.0, ours_x.1) l was t.2) in
          let closed : IsClosedByPartner ms x = closed_there hosts y ms l x ours_x x_in goes kind_x on (ap (λ (v : Life). v.ended) same ∙ over_z) (before.opened t.0) in
          record { ours = ours_x; closed = record { there = contains z (lives_in (y ∷ ms)) z_in; later = y ∷ []; earlier = ms; is = refl; receiver = x; then = closed; same = named_request x z m.named } }

      ends : g ≡ fate.Ended → WasClosed hosts (y ∷ ms) z
      ends e = elim (m.ends e) [
        | inl was ↦ older (before.ended was) (x_over ∙ ap is_over was)
        | inr t ↦ now t (z_over ∙ ap is_over e)
      ]

fated_next : (hosts : Network) (y : Moment) (ms : List Moment) (l : Lawful hosts (y ∷ ms)) (z : Life) (g : Fate)
    → IsBeside z g (kept_in (y ∷ ms)).book.lives (kept_in (y ∷ ms)).fates → AreOurs hosts z.host z.peer
    → receives z ≡ true
    → ((x : Life) (f : Fate) → IsBeside x f (kept_in ms).book.lives (kept_in ms).fates → AreOurs hosts x.host x.peer → receives x ≡ true → IsFated hosts ms x f) → Came y ms z g → IsFated hosts (y ∷ ms) z g
fated_next hosts y ms l z g i ours kind before (inr b) = fated_new hosts y ms l z g i ours kind b
fated_next hosts y ms l z g i ours kind before (inl o) = fated_old hosts y ms l z g i ours kind o.0 o.1 o.2 o.3 (before o.0 o.1 o.2 (ours_of hosts o.0 z.host z.peer ours (sym o.3.named.host, sym o.3.named.peer)) (ap is_receive_socket (sym o.3.named.socket) ∙ kind))

fated : (hosts : Network) (ms : List Moment) (l : Lawful hosts ms) (z : Life) (g : Fate)
    → IsBeside z g (kept_in ms).book.lives (kept_in ms).fates → AreOurs hosts z.host z.peer → receives z ≡ true
    → IsFated hosts ms z g
fated hosts [] l z g i ours kind = absurd i
fated hosts (y ∷ ms) l z g i ours kind = fated_next hosts y ms l z g i ours kind (λ x f j o k. fated hosts ms (below hosts y ms l) x f j o k) (came y ms z g i)

-- a receiving life that ended so was closed by its partner, and by no user of its host
pub ended_by_partner : (hosts : Network) (ms : List Moment) → Lawful hosts ms → (x : Life) → AreOurs hosts x.host x.peer
    → IsBeside x fate.Ended (kept_in ms).book.lives (kept_in ms).fates → receives x ≡ true → WasClosed hosts ms x
ended_by_partner hosts ms l x ours i kind = (fated hosts ms l x fate.Ended i ours kind).ended refl

-- one that is open was closed by no user of its host
pub never_closed : (hosts : Network) (ms : List Moment) → Lawful hosts ms → (x : Life) → AreOurs hosts x.host x.peer
    → IsBeside x fate.Open (kept_in ms).book.lives (kept_in ms).fates → receives x ≡ true → (m : ℕ)
    → (receiver_now numbered x.peer (suc m) (own_calls x.host x.peer ms)).end
    ≡ Some (name_now numbered x.peer (own_calls x.host x.peer ms) x.socket x.foreign)
    → HasClosed numbered x.peer (suc m) (name_now numbered x.peer (own_calls x.host x.peer ms) x.socket x.foreign)
    (own_calls x.host x.peer ms)
    → ⊥
unfolding IsOpen
never_closed hosts ms l x ours i kind m end closed = (fated hosts ms l x fate.Open i ours kind).opened refl m end closed
