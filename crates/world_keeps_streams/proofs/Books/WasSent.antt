-- Each message that a receiving life counts is, with its number, one of the sending life that it matches (`was_sent`).
use Rattle.world_keeps_streams.proofs.Common.{◌≡◌, inl, inr, ℕ, ◌+◌, ◌<◌, ◌≤◌, Bool, true, false, List, [], ◌∷◌, ◌++◌, length, map, Option, Some, refl, ap, sym, subst, ◌∙◌, arith, option_map, append_assoc, length-append, Contains, Seen, Host, Flow, Crossing, HostMessage, waits_with, box_of, is_receive_socket, some_is, IsCounted, IsLawful, Asked, Crossed, Moment, program, crossings_of, WorldState, book_lives, send_odd, in_book, AreOurs, Network, all_ours, among_all, end_link, lives_among}
use Rattle.promise.specs.Formed.{CrossedAt, texts_for, texts_of, texts_on, flow_of, link_of}
use Rattle.promise.specs.Safe.{Match, last_out, before, receives}
use Rattle.interface.specs.Mailboxes as mail
use Rattle.interface.specs.declared.crossing.Crossing.TheVariants as crossing
use Rattle.promise.specs.declared.life.Life.{Life}
use Rattle.net_sim.proofs.lemmas.{flow_of as flow_from}
use Rattle.world_keeps_lives.proofs.lemmas.{crossed_below}
use Rattle.world_keeps_lives.proofs.lemmas.Full.{Latest, WasThere, latest, were_there}
use Rattle.world_keeps_streams.specs.Sent.{EachWasSent, WasSent}
use Rattle.world_keeps_streams.proofs.Books.AllOut.{all_out, sending, sending_in, sending_matches, sender_counts, link_named, flow_named, takes_on}
use Rattle.world_keeps_streams.proofs.Books.Arrives.{rest_lawful}
use Rattle.world_keeps_streams.proofs.Books.Books.{one_own}
use Rattle.world_keeps_streams.proofs.Books.Closes.{AtLink}
use Rattle.world_keeps_streams.proofs.Books.Ended.{all_crossings}
use Rattle.world_keeps_streams.proofs.Books.Ending.{at_link}
use Rattle.world_keeps_streams.proofs.Books.Firsts.{formed, together}
use Rattle.world_keeps_streams.proofs.Books.Later.{named_request}
use Rattle.world_keeps_streams.proofs.Books.Placed.{before_end, before_later, link_later}
use Rattle.world_keeps_streams.proofs.Books.Unasked.{own_below, partner_below}
use Rattle.world_keeps_streams.proofs.Books.Went.{named_then}
use Rattle.world_keeps_streams.proofs.Ends.Arrived.{LaterLife, by_names, flows, later_life, link_known, match_later}
use Rattle.world_keeps_streams.proofs.Ends.Arrived.{one_link}
use Rattle.world_keeps_streams.proofs.Ends.Within.{enough}
use Rattle.world_keeps_streams.proofs.Lives.Lists.{IsOf, Named, contains, grown, is_of, named_itself, of_left, of_map}
use Rattle.world_keeps_streams.proofs.Lives.Among.{among_now, among_there, now_kept}
use Rattle.world_keeps_streams.proofs.Ours.{ours_of, ours_sender}
use Rattle.net_sim.specs.Told.{kept_in}
use Rattle.world_keeps_streams.proofs.Requests.Sides.{Lawful, below, book_lawful, lives_in}

-- a life of earlier moments
record WasLife (ms : List Moment) (x : Life) : Type 0 where
  life : Life
  there : IsOf life (lives_in ms)
  names : Named life x
  still : life.ended ≡ true → x ≡ life

-- what crossed at a place
record PlacedAt (ms : List Moment) (place : ℕ) (c : Crossing) : Type 0 where
  later : List Moment
  earlier : List Moment
  is : ms ≡ later ++ Crossed c ∷ earlier
  at : place ≡ length (crossings_of earlier)

placed : (ms : List Moment) (place : ℕ) (c : Crossing) → CrossedAt place c (crossings_of ms) → PlacedAt ms place c
placed [] place c i = absurd i
placed (Asked h r ∷ ms) place c i =
    let p : PlacedAt ms place c = placed ms place c i in record {
      later = Asked h r ∷ p.later;
      earlier =
          p.earlier;
      is = ap (λ (ns : List Moment). Asked h r ∷ ns) p.is;
      at = p.at;
    }
placed (Crossed d ∷ ms) place c (inl i) = record {
  later = [];
  earlier = ms;
  is =
      ap (λ (e : Crossing). Crossed e ∷ ms) (sym i.0);
  at = i.1;
}
placed (Crossed d ∷ ms) place c (inr i) =
    let p : PlacedAt ms place c = placed ms place c i in record {
      later = Crossed d ∷ p.later;
      earlier =
          p.earlier;
      is = ap (λ (ns : List Moment). Crossed d ∷ ns) p.is;
      at = p.at;
    }

module _ (hosts : Network) where
  -- ---- a life of earlier moments

  back : (newer older : List Moment) → Lawful hosts (newer ++ older) → (x : Life) → AreOurs hosts x.host x.peer
      → IsOf x (lives_in (newer ++ older))
      → x.own_stamp < length (crossings_of older) → x.partner_stamp < length (crossings_of older) → WasLife older x
  back [] older l x ours i own partner = record { life = x; there = i; names = named_itself x; still = λ e. refl }
  back (y ∷ newer) older l x ours i own partner = from (were_there hosts (together hosts) y (newer ++ older) l x
      (among_now hosts (y ∷ (newer ++ older)) x ours (contains x (lives_in (y ∷ (newer ++ older))) i)) (more x.own_stamp own) (more x.partner_stamp partner))
      (back newer older (below hosts y (newer ++ older) l)) where
        more : (p : ℕ) → p < length (crossings_of older) → p < length (crossings_of (newer ++ older))
        more p less =
            let all : length (crossings_of (newer ++ older))
            ≡ length (crossings_of newer) + length (crossings_of older) =
            ap (λ (xs : List Crossing). length xs) (all_crossings newer older)
            ∙ length-append (crossings_of newer) (crossings_of older) in
            omega (arith, less, all)

        from : WasThere hosts (newer ++ older) x
            → ((v : Life) → AreOurs hosts v.host v.peer → IsOf v (lives_in (newer ++ older)) → v.own_stamp < length (crossings_of older)
            → v.partner_stamp < length (crossings_of older) → WasLife older v) → WasLife older x
        from w rest = record {
          life = z.life;
          there = z.there;
          names = named_then z.life w.life x z.names names;
          still = λ e. (let first : w.life ≡ z.life = z.still e in is
              ∙ (grown y (newer ++ older)).still w.life (ap (λ (k : Life). k.ended) first ∙ e) ∙ first);
        } where
          w_in : IsOf w.life (lives_in (newer ++ older))
          w_in = is_of w.life (lives_in (newer ++ older))
              (now_kept hosts (newer ++ older) w.life w.there).0

          w_ours : AreOurs hosts w.life.host w.life.peer
          w_ours = (now_kept hosts (newer ++ older) w.life w.there).1

          names : Named w.life x
          names = record {
            host = w.host;
            socket = w.socket;
            peer = w.peer;
            foreign = w.foreign;
            own = w.own;
            partner =
                w.partner;
          }

          v_in : IsOf ((grown y (newer ++ older)).change w.life) (lives_in (y ∷ (newer ++ older)))
          v_in =
              subst (λ (ys : List Life). IsOf ((grown y (newer ++ older)).change w.life) ys) (sym (grown y
              (newer ++ older)).is)
              (of_left ((grown y (newer ++ older)).change w.life) (map (grown y (newer ++ older)).change (lives_in
              (newer ++ older))) (grown y (newer ++ older)).more (of_map (grown y (newer ++ older)).change w.life
              (lives_in (newer ++ older)) w_in))

          is : x ≡ ((grown y (newer ++ older)).change w.life)
          is =
              one_own hosts (y ∷ (newer ++ older)) l x ((grown y (newer ++ older)).change w.life)
              ours (ours_of hosts ((grown y (newer ++ older)).change w.life) w.life.host w.life.peer w_ours
              (((grown y (newer ++ older)).names w.life).host, ((grown y (newer ++ older)).names w.life).peer)) i v_in
              (named_request w.life x names ∙ sym (named_request w.life ((grown y (newer ++ older)).change w.life)
              ((grown y (newer ++ older)).names w.life)))

          z : WasLife older w.life
          z =
              rest w.life w_ours w_in
              (let same : x.own_stamp ≡ w.life.own_stamp =
              w.own in omega (arith, own, same)) (let same : x.partner_stamp ≡ w.life.partner_stamp =
              w.partner in omega (arith, partner, same))

  -- ---- a message that was taken

  module _ (newer older : List Moment) (m : HostMessage) (l : Lawful hosts (newer ++ older)) (step : Lawful hosts
      (Crossed (crossing.In m) ∷ older)) (x : Life) (ours : AreOurs hosts x.host x.peer) (here : IsOf x (lives_in (newer ++ older))) (kind : receives x
      ≡ true)
      (counted : IsCounted (crossings_of (newer ++ older)) (length (crossings_of older)) m x) where
    abbrev log_now : List Crossing
    log_now = crossings_of (newer ++ older)

    abbrev older_log : List Crossing
    older_log = crossings_of older

    before_lawful : Lawful hosts older
    before_lawful = below hosts (Crossed (crossing.In m)) older step

    log_is : crossings_of (newer ++ older) ≡ crossings_of newer ++ crossings_of older
    log_is = all_crossings newer older

    before_is : before (length (crossings_of older)) (crossings_of (newer ++ older)) ≡ crossings_of older
    before_is = ap (before (length (crossings_of older))) log_is ∙ before_end (crossings_of newer) (crossings_of older)

    x_was : WasLife older x
    x_was = back newer older l x ours here counted.own counted.partner

    x_ours : AreOurs hosts x_was.life.host x_was.life.peer
    x_ours = (
      subst (λ (h : Host). hosts.strange h ≡ false) x_was.names.host ours.0,
      subst (λ (h : Host). hosts.strange h ≡ false) x_was.names.peer ours.1,
    )

    link_now : link_of log_now x ≡ link_of older_log x_was.life
    link_now =
        ap (λ (xs : List Crossing). link_of xs x) log_is
        ∙ link_later (crossings_of newer) (crossings_of older) x counted.own counted.partner
        ∙ link_named older_log x_was.life x x_was.names

    texts_now : length (texts_on x (link_of log_now x) (before (length older_log) log_now))
        ≡ length (texts_on x_was.life (link_of older_log x_was.life) older_log)
    texts_now =
        ap (λ (o : Option ℕ). length (texts_on x o (before (length older_log) log_now))) link_now
        ∙ ap (λ (xs : List Crossing). length (texts_on x (link_of older_log x_was.life) xs)) before_is
        ∙ by_names (λ (z : Life). length (texts_on z (link_of older_log x_was.life) older_log)
        ≡ length (texts_on x_was.life (link_of older_log x_was.life) older_log)) x_was.life x x_was.names refl

    x_goes : x_was.life.ended ≡ false
    x_goes = by x_was.life.ended refl where
      by : (v : Bool) → x_was.life.ended ≡ v → v ≡ false
      by false e = refl
      by true e =
          let least : x_was.life.messages ≤ length (texts_on x_was.life (link_of older_log x_was.life) older_log) =
          enough (receives x_was.life) x_was.life.messages (texts_on x_was.life
          (link_of older_log x_was.life) older_log) x_was.life.bits (formed hosts older before_lawful x_was.life
          (among_now hosts older x_was.life x_ours (contains x_was.life (lives_in older) x_was.there))).bits in
          let c : length (texts_on x (link_of log_now x) (before (length older_log) log_now)) < x.messages =
          counted.counted in
          let same : x.messages ≡ x_was.life.messages = ap (λ (z : Life). z.messages) (x_was.still e) in
          let now : length (texts_on x (link_of log_now x) (before (length older_log) log_now))
          ≡ length (texts_on x_was.life (link_of older_log x_was.life) older_log) = texts_now in
          absurd (omega (arith, least, c, same, now))

    x_kind : receives x_was.life ≡ true
    x_kind = ap is_receive_socket (sym x_was.names.socket) ∙ kind

    x_link : AtLink hosts older x_was.life
    x_link = at_link hosts older before_lawful x_was.life x_ours x_was.there x_goes x_kind

    x_linked : link_of older_log x_was.life ≡ Some x_link.link
    x_linked = end_link hosts older before_lawful (together hosts) x_was.life
        (among_now hosts older x_was.life x_ours x_link.there) x_goes x_link.end
        ∙ x_link.linked

    x_flow : flow_from x_was.life.peer x_was.life.host x_link.link ≡ m.flow
    x_flow =
        let k : (k : ℕ) × (link_of log_now x ≡ Some k) × (flow_of x k ≡ m.flow) =
        link_known x (link_of log_now x) m.flow counted.flow in
        let same : x_link.link ≡ k.0 = some_is x_link.link k.0 (sym x_linked ∙ sym link_now ∙ k.1) in
        sym (takes_on x_was.life x_link.link x_kind) ∙ sym (flow_named x_link.link x_was.life x x_was.names)
        ∙ ap (λ (n : ℕ). flow_of x n) same ∙ k.2

    x_waits : (place : ℕ) × (box_of (flow_from x_was.life.peer x_was.life.host x_link.link) older_log
        ≡ mail.Waiting place m.text)
    x_waits =
        waits_with (box_of (flow_from x_was.life.peer x_was.life.host x_link.link) older_log) m.text
        (subst (λ (g : Flow). mail.WaitsWith (box_of g older_log) m.text) (sym x_flow) step.1.0.1)

    -- its sender then
    abbrev s_then : Life
    s_then = (sending hosts older before_lawful x_was.life x_link x_waits.0 m.text x_waits.1).life

    s_then_in : IsOf s_then (lives_in older)
    s_then_in = sending_in hosts older before_lawful x_was.life x_link x_waits.0 m.text x_waits.1

    s_then_matches : Match older_log x_was.life s_then
    s_then_matches = sending_matches hosts older before_lawful x_was.life x_link x_waits.0 m.text x_waits.1

    s_ours_then : AreOurs hosts s_then.host s_then.peer
    s_ours_then = ours_sender hosts s_then_matches x_ours

    s_then_counts : s_then.messages ≡ length (texts_for x_was.life x_link.link older_log) + 1
    s_then_counts = sender_counts hosts older before_lawful x_was.life x_link x_waits.0 m.text x_waits.1 s_then
        s_then_in s_then_matches

    s_then_link : link_of older_log s_then ≡ Some x_link.link
    s_then_link = sym (one_link hosts older before_lawful x_was.life s_then x_ours x_was.there s_then_in s_then_matches)
        ∙ x_linked

    s_then_flow : flow_of s_then x_link.link ≡ m.flow
    s_then_flow = sym (flows hosts older before_lawful x_was.life s_then x_ours x_was.there s_then_in s_then_matches
        x_link.link) ∙ takes_on x_was.life x_link.link x_kind ∙ x_flow

    s_then_kind : receives s_then ≡ false
    s_then_kind = send_odd s_then.socket s_then_matches.sending

    abbrev out_of : List Crossing → ℕ
    out_of log = length (texts_of false m.flow s_then.own_stamp s_then.partner_stamp log)

    texts_are : (log : List Crossing) → length (texts_on s_then (Some x_link.link) log) ≡ out_of log
    texts_are log = ap (λ (v : Bool). length (texts_of v
        (flow_of s_then x_link.link) s_then.own_stamp s_then.partner_stamp log)) s_then_kind
        ∙ ap (λ (g : Flow). length (texts_of false g s_then.own_stamp s_then.partner_stamp log)) s_then_flow

    s_then_all : s_then.messages ≡ out_of older_log
    s_then_all =
        all_out hosts older before_lawful x_was.life s_then x_ours x_was.there s_then_in x_goes s_then_matches x_link.link x_linked
        x_waits.0 m.text x_waits.1
        ∙ ap (λ (o : Option ℕ). length (texts_on s_then o older_log)) s_then_link ∙ texts_are older_log

    abbrev last_one : Latest m.flow s_then.own_stamp s_then.partner_stamp older_log
    last_one = latest m.flow s_then.own_stamp s_then.partner_stamp older_log (let all : s_then.messages
        ≡ out_of older_log = s_then_all in let more : s_then.messages
        ≡ length (texts_for x_was.life x_link.link older_log) + 1 = s_then_counts in omega (arith, all, more))

    place_less : last_one.place < length older_log
    place_less = crossed_below last_one.place (crossing.Out last_one.message) older_log last_one.crossed

    -- and now
    abbrev now : LaterLife (newer ++ older) s_then
    now = later_life newer older s_then s_then_in

    link_later_is : link_of log_now now.life ≡ Some x_link.link
    link_later_is =
        link_named log_now s_then now.life now.names ∙ ap (λ (xs : List Crossing). link_of xs s_then) log_is
        ∙ link_later (crossings_of newer) (crossings_of older) s_then
        (own_below hosts older before_lawful s_then s_ours_then s_then_in)
        (partner_below hosts older before_lawful s_then s_ours_then s_then_in) ∙ s_then_link

    out_then : length (texts_on now.life (link_of log_now now.life) (before last_one.place log_now))
        ≡ out_of (before last_one.place older_log)
    out_then =
        ap (λ (o : Option ℕ). length (texts_on now.life o (before last_one.place log_now))) link_later_is
        ∙ by_names (λ (z : Life). length (texts_on z (Some x_link.link) (before last_one.place log_now))
        ≡ out_of (before last_one.place log_now)) s_then now.life now.names (texts_are
        (before last_one.place log_now))
        ∙ ap (λ (xs : List Crossing). out_of (before last_one.place xs)) log_is
        ∙ ap (λ (xs : List Crossing). out_of xs) (before_later (crossings_of newer)
        (crossings_of older) last_one.place (let less : last_one.place < length older_log =
        place_less in omega (arith, less)))

    now_ours : AreOurs hosts now.life.host now.life.peer
    now_ours = ours_of hosts now.life s_then.host s_then.peer s_ours_then (now.names.host, now.names.peer)

    was_sent : WasSent log_now (lives_among hosts.strange (lives_in (newer ++ older))) (length older_log) m x
    was_sent = record {
      sender = now.life;
      there = among_there hosts now.life (lives_in (newer ++ older)) now_ours (contains now.life (lives_in (newer ++ older)) now.there);
      matches = match_later hosts newer older before_lawful x_was.life s_then x now.life x_ours x_was.there s_then_in
          x_was.names now.names s_then_matches;
      out = last_one.place;
      last = ap (last_out m.flow) before_is ∙ last_one.last;
      counted = record {
        flow = ap (λ (o : Option ℕ). option_map (flow_of now.life) o) link_later_is
            ∙ ap (λ (g : Flow). Some g) (flow_named x_link.link s_then now.life now.names ∙ s_then_flow);
        own = (let e : now.life.own_stamp ≡ s_then.own_stamp =
            now.names.own in let less : s_then.own_stamp < last_one.place = last_one.own in omega (arith, e, less));
        partner = (let e : now.life.partner_stamp ≡ s_then.partner_stamp =
            now.names.partner in let less : s_then.partner_stamp < last_one.place =
            last_one.partner in omega (arith, e, less));
        counted =
            (let a : length (texts_on now.life (link_of log_now now.life) (before last_one.place log_now))
            ≡ out_of (before last_one.place older_log) = out_then in
            let b : out_of older_log ≡ out_of (before last_one.place older_log) + 1 = last_one.older in
            let c : s_then.messages ≡ out_of older_log = s_then_all in
            let d : s_then.messages ≤ now.life.messages = now.counts in
            omega (arith, a, b, c, d));
      };
      nth =
          (let a : length (texts_on now.life (link_of log_now now.life) (before last_one.place log_now))
          ≡ out_of (before last_one.place older_log) = out_then in
          let b : out_of older_log ≡ out_of (before last_one.place older_log) + 1 = last_one.older in
          let c : s_then.messages ≡ out_of older_log = s_then_all in
          let d : s_then.messages ≡ length (texts_for x_was.life x_link.link older_log) + 1 = s_then_counts in
          let e : length (texts_on x (link_of log_now x) (before (length older_log) log_now))
          ≡ length (texts_on x_was.life (link_of older_log x_was.life) older_log) = texts_now in
          let g : length (texts_on x_was.life (link_of older_log x_was.life) older_log)
          ≡ length (texts_for x_was.life x_link.link older_log) =
          ap (λ (o : Option ℕ). length (texts_on x_was.life o older_log)) x_linked in
          omega (arith, a, b, c, d, e, g));
    }

  -- ---- of a book

  pub each_was_sent : (ms : List Moment) → Lawful hosts ms
      → EachWasSent (crossings_of ms) (lives_among hosts.strange (kept_in ms).book.lives)
  each_was_sent ms l x place m among kind crossed counted =
      subst (λ (n : ℕ). WasSent (crossings_of ms) (lives_among hosts.strange (lives_in ms)) n m x) (sym p.at)
      (of ms l whole here.0 (subst (λ (n : ℕ). IsCounted (crossings_of ms) n m x) p.at counted)) where
        here : Contains (lives_in ms) x × AreOurs hosts x.host x.peer
        here = in_book hosts (lives_in ms) x among

        p : PlacedAt ms place (crossing.In m)
        p = placed ms place (crossing.In m) crossed

        step : Lawful hosts (Crossed (crossing.In m) ∷ p.earlier)
        step = rest_lawful hosts p.later (Crossed (crossing.In m) ∷ p.earlier) (subst (λ
            (ns : List Moment). Lawful hosts ns) p.is l)

        whole : (p.later ++ Crossed (crossing.In m) ∷ []) ++ p.earlier ≡ ms
        whole = append_assoc p.later (Crossed (crossing.In m) ∷ []) p.earlier ∙ sym p.is

        of : (ns : List Moment) → Lawful hosts ns → (p.later ++ Crossed (crossing.In m) ∷ []) ++ p.earlier ≡ ns
            → Contains (lives_in ns) x → IsCounted (crossings_of ns) (length (crossings_of p.earlier)) m x
            → WasSent (crossings_of ns) (lives_among hosts.strange (lives_in ns)) (length (crossings_of p.earlier)) m x
        of ns k is =
            subst (λ (os : List Moment). Contains (lives_in os) x
            → IsCounted (crossings_of os) (length (crossings_of p.earlier)) m x
            → WasSent (crossings_of os) (lives_among hosts.strange (lives_in os)) (length (crossings_of p.earlier)) m x) is
            (λ there counts. was_sent (p.later ++ Crossed (crossing.In m) ∷ []) p.earlier m (subst (λ
            (os : List Moment). Lawful hosts os) (sym is) k) step x here.1 (is_of x (lives_in ((p.later ++ Crossed
            (crossing.In m) ∷ []) ++ p.earlier)) there) kind counts)

-- ---- worlds

-- where all hosts run the program, so it is of all lives
pub all_was_sent : (hosts : List Host) (ms : List Moment) → Lawful (all_ours hosts) ms
    → EachWasSent (crossings_of ms) (kept_in ms).book.lives
all_was_sent hosts ms l = subst (λ (ls : List Life). EachWasSent (crossings_of ms) ls) (among_all (kept_in ms).book.lives)
    (each_was_sent (all_ours hosts) ms l)

pub world_was_sent : {C : Type 0} (seen : C → Seen) (hosts : List Host) (w : WorldState C) → IsLawful seen hosts w
    → EachWasSent w.kept.book.crossings w.kept.book.lives
world_was_sent seen hosts w lawful =
    subst (λ (log : List Crossing). EachWasSent log w.kept.book.lives) (sym lawful.whole.crossings)
    (subst (λ (lives : List Life). EachWasSent (crossings_of lawful.whole.moments) lives) (sym
    (book_lives seen hosts w lawful))
    (all_was_sent hosts lawful.whole.moments (book_lawful seen hosts w lawful)))
