-- What is outstanding on a connection's link is of an end that opened and hasn't closed, or no end is opened before a
-- reset.
use Rattle.world_keeps_streams.proofs.Common.{◌≡◌, ◌⊎◌, inl, inr, ℕ, zero, suc, ◌==◌, ◌&&◌, not, Bool, true, false, if◌then◌else◌, List, [], ◌∷◌, ◌++◌, Option, Some, None, is_some, refl, ap, sym, subst, ◌∙◌, eq-eqb, eqb-true, Host, same_host, Flow, Answer, HostMessage, same_host-true, same_host-refl, has_cls, is_busy, is_link, is_receiving, is_ending, PairState, Entry, both, what_goes, has_opened, AreAllowed, IsHistory, Answered, ends_now, numbered, Phase, pair_with, turn_of, Request, Asked, Crossed, IsNext, Moment, events_of, event_in, places, program, Agrees, message_on, story_agrees, freed_busy, MayGo, open_parts, next_is, next_in, keeps, ready_phase, AreOurs, Network}
use Rattle.host_pairs.specs.Parcels.{Parcel, may_send_on, next_of, link_for, link_of}
use Rattle.ncp_control.specs.Phases.{is_ready, failed_phase, reply_phase, taken_phase}
use Rattle.reset_law.specs.Pairs.{Pair, pair, pair_moved, MaySend, Plain, Rrp, Rst, pair_answered, pair_sent}
use Rattle.world_keeps_streams.specs.Calls.{calls_by, message_calls, own_calls, request_calls, next_calls, answer_calls, called}
use Rattle.reset_law.specs.Events.{Message, when, Send, Take, Hear, Begin, Other, Reply, Reset}
use Rattle.host_keeps_streams.specs.Histories as calls
use Rattle.ncp_control.specs.declared.phase.Phase.TheVariants as phase
use Rattle.interface.specs.declared.crossing.Answer.TheVariants as answer
use Rattle.interface.specs.declared.crossing.Crossing.TheVariants as crossing
use Rattle.host_keeps_streams.proofs.lemmas.Senders as senders
use Rattle.host_pairs.specs.Parcels as parcel
use Rattle.reset_law.specs.Events as signals
use Rattle.reset_law.specs.Pairs as reset
use Rattle.reset_law.specs.Stays as stay
use Rattle.sockets.specs.declared.request.Request.TheVariants as request
use Rattle.world_keeps_streams.proofs.Calls.Chain.{Chained, chain, idle, takes_by}
use Rattle.world_keeps_streams.proofs.Calls.Leads.{is_reset}
use Rattle.world_keeps_streams.proofs.Deeds.Effects.{Among, found_among}
use Rattle.world_keeps_streams.proofs.Ends.Marks.{never}
use Rattle.world_keeps_streams.proofs.Ends.Owes.{AData, AReply, AReset, Outs, Several, outs, pair_is}
use Rattle.world_keeps_streams.proofs.Requests.Sides.{Lawful, below, coupled_in}
use Rattle.world_keeps_streams.proofs.Steps.Streams.{all_allowed}
use Rattle.world_keeps_streams.proofs.Ends.Holds.{AllOn, Has, has_calls, holds, on_if, on_message, on_next, on_request}
use Rattle.world_keeps_streams.proofs.Facts.{no_zero}

-- ---- one moment, by the law of resets

-- it is closed, or an RST waits to go out
abbrev is_resting : Phase → Bool
is_resting phase.Closed = true
is_resting phase.Want = true
is_resting ph = false

-- a reset has still to come, that waits for all answers
abbrev pub Resting : Pair → Type 0
Resting p = (p.owed ≡ true) ⊎ (is_resting p.phase ≡ true)

rests_reply : (ph : Phase) → is_resting ph ≡ true → is_resting (reply_phase ph) ≡ true
rests_reply phase.Closed e = refl
rests_reply phase.Want e = refl
rests_reply (phase.Gone early) e = never (sym e)
rests_reply phase.Heard e = never (sym e)
rests_reply phase.Ready e = never (sym e)

rests_rfnm : (v : Bool) (ph : Phase) → is_resting ph ≡ true → is_resting (if v then taken_phase ph else ph) ≡ true
rests_rfnm true phase.Closed e = refl
rests_rfnm true phase.Want e = refl
rests_rfnm true (phase.Gone early) e = never (sym e)
rests_rfnm true phase.Heard e = never (sym e)
rests_rfnm true phase.Ready e = never (sym e)
rests_rfnm false ph e = e

rests_failed : (ph : Phase) → is_resting (failed_phase ph false) ≡ true
rests_failed phase.Closed = refl
rests_failed phase.Want = refl
rests_failed (phase.Gone early) = refl
rests_failed phase.Heard = refl
rests_failed phase.Ready = refl

ready_rfnm : (v : Bool) (ph : Phase) → ph ≡ phase.Ready → (if v then taken_phase ph else ph) ≡ phase.Ready
ready_rfnm true ph e = ap taken_phase e
ready_rfnm false ph e = e

module _ (hosts : Network) (a b : Host) (ours : AreOurs hosts a b) (l : ℕ) (off_zero : (l == 0) ≡ false) where
  abbrev Claim : List Moment → Type 0
  Claim ms =
      is_some ((pair a b (events_of ms)).out l) ≡ true → Resting (pair a b (events_of ms))
      ⊎ Has (holds l) (pair_with b (program a ms).peers).entries

  agrees : (ms : List Moment) → Lawful hosts ms
      → Agrees (pair_with b (program a ms).peers) (pair a b (events_of ms))
  agrees ms lawful = story_agrees hosts ms a b ours (coupled_in hosts ms lawful).story

  on_now : (ms : List Moment) → Lawful hosts ms → is_some ((pair a b (events_of ms)).out l) ≡ true
      → is_busy (pair_with b (program a ms).peers).busy l ≡ true
  on_now ms lawful out = sym ((agrees ms lawful).busy l) ∙ out

  -- ends are those of a pair that is ready
  ready_now : (ms : List Moment) → Lawful hosts ms → Has (holds l) (pair_with b (program a ms).peers).entries
      → (pair a b (events_of ms)).phase ≡ phase.Ready
  ready_now ms lawful h = by (is_ready (pair_with b (program a ms).peers).phase) refl where
    by : (v : Bool) → is_ready (pair_with b (program a ms).peers).phase ≡ v
        → (pair a b (events_of ms)).phase ≡ phase.Ready
    by true e = (agrees ms lawful).phase ∙ ready_phase (pair_with b (program a ms).peers).phase e
    by false e =
        absurd (subst (λ (es : List Entry). Among h.0 es) (idle hosts lawful.0 ms lawful.1 lawful.2 a b ours e).0 h.1)

  -- which stays so
  keep : (y : Moment) (ms : List Moment) → Lawful hosts (y ∷ ms)
      → (pair a b (events_of (y ∷ ms))).phase ≡ phase.Ready
      → stay.takes_reset a b (event_in y) ≡ false → AllOn l (calls_by a b y ms)
      → Has (holds l) (pair_with b (program a ms).peers).entries
      → Has (holds l) (pair_with b (program a (y ∷ ms)).peers).entries
  keep y ms lawful ready none on h =
      subst (λ (es : List Entry). Has (holds l) es) now.1 (subst (λ (cs : List calls.Moment). Has (holds l)
      (ends_now b cs)) (sym is) (has_calls l b (suc zero) (calls_by a b y ms) (own_calls a b ms)
      (subst (λ (cs : List calls.Moment). IsHistory b cs) is now.0) (subst
      (λ (cs : List calls.Moment). AreAllowed numbered b (suc zero) cs) is
      (all_allowed hosts lawful.0 (suc zero) (no_zero zero) a b ours (y ∷ ms) lawful.1 lawful.2)) on
      (subst (λ (es : List Entry). Has (holds l) es) (sym was.1) h))) where
        lower : Lawful hosts ms
        lower = below hosts y ms lawful

        now : Chained a b (y ∷ ms)
        now = chain hosts lawful.0 (y ∷ ms) lawful.1 lawful.2 a b ours

        was : Chained a b ms
        was = chain hosts lower.0 ms lower.1 lower.2 a b ours

        both_true : (v w : Bool) → v ≡ true → w ≡ false → (v && not w) ≡ true
        both_true v w e f = ap (λ (u : Bool). u && not w) e ∙ ap not f

        kept : keeps a b (event_in y) (events_of ms) ≡ true
        kept = both_true (stay.ready a b (events_of (y ∷ ms))) (stay.takes_reset a b (event_in y)) (ap is_ready ready) none

        is : own_calls a b (y ∷ ms) ≡ calls_by a b y ms ++ own_calls a b ms
        is = ap (λ (v : Bool). if v then calls_by a b y ms ++ own_calls a b ms else []) kept

  -- nothing becomes of the pair by the law
  quiet : (y : Moment) (ms : List Moment) → Lawful hosts (y ∷ ms) → pair a b (events_of (y ∷ ms)) ≡ pair a b
      (events_of ms) → stay.takes_reset a b (event_in y) ≡ false → (is_busy
      (pair_with b (program a ms).peers).busy l ≡ true → AllOn l (calls_by a b y ms)) → Claim ms → Claim (y ∷ ms)
  quiet y ms lawful same none on old out = by (old was) where
    lower : Lawful hosts ms
    lower = below hosts y ms lawful

    was : is_some ((pair a b (events_of ms)).out l) ≡ true
    was = ap (λ (p : Pair). is_some (p.out l)) (sym same) ∙ out

    by : Resting (pair a b (events_of ms)) ⊎ Has (holds l) (pair_with b (program a ms).peers).entries
        → Resting (pair a b (events_of (y ∷ ms))) ⊎ Has (holds l) (pair_with b (program a (y ∷ ms)).peers).entries
    by (inl r) = inl (subst Resting (sym same) r)
    by (inr h) =
        inr (keep y ms lawful (ap (λ (p : Pair). p.phase) same ∙ ready_now ms lower h) none
        (on (on_now ms lower was)) h)

  apart : (k : ℕ) → k ≡ 0 → (l == k) ≡ true → ⊥
  apart k zero_link e = never (sym (eq-eqb l 0 (eqb-true l k e ∙ zero_link)) ∙ off_zero)

  -- what goes out to the peer
  module _ (m : HostMessage) (ms : List Moment) (lawful : Lawful hosts (Crossed (crossing.Out m) ∷ ms))
      (from : a ≡ m.flow.source) (to : b ≡ m.flow.destination) (old : Claim ms) where
    abbrev y : Moment
    y = Crossed (crossing.Out m)

    lower : Lawful hosts ms
    lower = below hosts (Crossed (crossing.Out m)) ms lawful

    n : IsNext (program a ms) m
    n =
        subst (λ (h : Host). IsNext (program h ms) m) (sym from)
        ((coupled_in hosts (Crossed (crossing.Out m) ∷ ms) lawful).story.0 (subst (λ (h : Host). hosts.strange h ≡ false) from ours.0))

    with_peer : AreOurs hosts a n.peer.host
    with_peer = (ours.0, subst (λ (h : Host). hosts.strange h ≡ false) (to ∙ ap (λ (x : HostMessage). x.flow.destination) n.message) ours.1)

    may : MaySend (pair a b (events_of ms)) m.flow.link.0 (message_on m.flow.link.0 m.text)
    may =
        subst (λ (h : Host). MaySend (pair h b (events_of ms)) m.flow.link.0 (message_on m.flow.link.0 m.text))
        (sym from)
        (subst (λ (h : Host). MaySend (pair m.flow.source h (events_of ms)) m.flow.link.0
        (message_on m.flow.link.0 m.text)) (sym to) ((coupled_in hosts (Crossed (crossing.Out m) ∷ ms) lawful).run.1 (subst (λ (h : Host). hosts.strange h ≡ false) from ours.0, subst (λ (h : Host). hosts.strange h ≡ false) to ours.1)))

    on : AllOn l (calls_by a b (Crossed (crossing.Out m)) ms)
    on =
        on_if l (same_host a m.flow.source) (next_calls b (places ms) (program a ms).listening
        (next_in (program a ms).peers)) (on_next l b (places ms) (program a ms).listening
        (next_in (program a ms).peers))

    -- data of an open end
    sent : m.flow.link.0 ≡ l → Has (holds l) (pair_with b (program a ms).peers).entries
    sent at = by (outs hosts ms lower a m n with_peer) where
      there : n.peer.host ≡ b
      there = sym (to ∙ ap (λ (x : HostMessage). x.flow.destination) n.message)

      no_zero : m.flow.link.0 ≡ 0 → ⊥
      no_zero e = never (sym (eq-eqb l 0 (sym at ∙ e)) ∙ off_zero)

      bytes : (e : Entry) (size count : ℕ) → n.parcel ≡ parcel.Bytes e size count
          → Has (holds l) (pair_with b (program a ms).peers).entries
      bytes e size count is =
          let next : next_of n.peer.pair ≡ Some (parcel.Bytes e size count) =
          next_is n.peer n.parcel (program a ms).peers n.next ∙ ap (λ (x : Parcel). Some x) is in
          let go : MayGo n.peer.pair (parcel.Bytes e size count) =
          what_goes n.peer.pair (parcel.Bytes e size count) next in
          let found : Among e n.peer.pair.entries × (may_send_on n.peer.pair.busy (link_of e.link) e ≡ true) =
          found_among (may_send_on n.peer.pair.busy (link_of e.link)) n.peer.pair.entries e
          (senders.next_is n.peer.pair e size count next) in
          let opened : (has_opened e ≡ true) × (not (is_ending e) ≡ true) =
          both (has_opened e) (not (is_ending e)) go.1.is_opened in (
            e,
            subst (λ (q : PairState). Among e q.entries) (sym (sym (ap
                (λ (h : Host). pair_with h (program a ms).peers) there) ∙ pair_is hosts ms lower a m n with_peer)) found.0,
            holding e go.1.sends (linked e.link go.1.linked (sym (ap (λ (x : HostMessage). x.flow.link.0) n.message
                ∙ ap link_for is) ∙ at)) opened.0 (open_parts e go.1.is_opened).unclosed,
          ) where
            linked : (o : Option ℕ) → is_some o ≡ true → link_of o ≡ l → is_link l o ≡ true
            linked None s e = never (sym s)
            linked (Some k) s e = eq-eqb k l e

            holding : (e : Entry) → is_receiving e ≡ false → is_link l e.link ≡ true → has_opened e ≡ true
                → has_cls e.closing ≡ false → holds l e ≡ true
            holding e r k o c =
                ap (λ (v : Bool). (not v && is_link l e.link) && has_opened e && not (has_cls e.closing)) r
                ∙ ap (λ (v : Bool). v && has_opened e && not (has_cls e.closing)) k
                ∙ ap (λ (v : Bool). v && not (has_cls e.closing)) o ∙ ap not c

      by : Outs n.peer.pair n.parcel m → Has (holds l) (pair_with b (program a ms).peers).entries
      by (AReset wanted zero_link orders is) = absurd (no_zero zero_link)
      by (AReply owed zero_link orders is) = absurd (no_zero zero_link)
      by (Several count is zero_link orders) = absurd (no_zero zero_link)
      by (AData e size count is away) = bytes e size count is

    goes : (k : ℕ) (msg : Message) → m.flow.link.0 ≡ k → pair a b (events_of
        (Crossed (crossing.Out m) ∷ ms)) ≡ pair_sent k msg (pair a b (events_of ms))
        → MaySend (pair a b (events_of ms)) k msg → is_some ((pair_sent k msg (pair a b (events_of ms))).out l) ≡ true
        → Resting (pair_sent k msg (pair a b (events_of ms))) ⊎ Has (holds l)
        (pair_with b (program a (Crossed (crossing.Out m) ∷ ms)).peers).entries
    goes k Reset at same free out = by (l == k) refl out where
      by : (v : Bool) → (l == k) ≡ v → is_some (if v then Some Rst else (pair a b (events_of ms)).out l) ≡ true
          → Resting (pair_sent k Reset (pair a b (events_of ms))) ⊎ Has (holds l)
          (pair_with b (program a (Crossed (crossing.Out m) ∷ ms)).peers).entries
      by true e o = absurd (apart k free.0 e)
      by false e o = never (sym o ∙ ap is_some (free.2 l))
    goes k Reply at same free out = by (l == k) refl out where
      by : (v : Bool) → (l == k) ≡ v → is_some (if v then Some Rrp else (pair a b (events_of ms)).out l) ≡ true
          → Resting (pair_sent k Reply (pair a b (events_of ms))) ⊎ Has (holds l)
          (pair_with b (program a (Crossed (crossing.Out m) ∷ ms)).peers).entries
      by true e o = absurd (apart k free.0 e)
      by false e o = never (sym o ∙ ap is_some (free.3 l))
    goes k (Other text) at same speaks out = by (l == k) refl out where
      kept : Has (holds l) (pair_with b (program a ms).peers).entries → Has (holds l)
          (pair_with b (program a (Crossed (crossing.Out m) ∷ ms)).peers).entries
      kept h = keep (Crossed (crossing.Out m)) ms lawful (ap (λ (p : Pair). p.phase) same ∙ speaks.0) refl on h

      by : (v : Bool) → (l == k) ≡ v → is_some (if v then Some Plain else (pair a b (events_of ms)).out l) ≡ true
          → Resting (pair_sent k (Other text) (pair a b (events_of ms)))
          ⊎ Has (holds l) (pair_with b (program a (Crossed (crossing.Out m) ∷ ms)).peers).entries
      by true e o = inr (kept (sent (at ∙ sym (eqb-true l k e))))
      by false e o = elim (old o) [
        | inl r ↦ inl r
        | inr h ↦ inr (kept h)
      ]

    out_there : Claim (Crossed (crossing.Out m) ∷ ms)
    out_there out =
        subst (λ (p : Pair). Resting p ⊎ Has (holds l) (pair_with b (program a
        (Crossed (crossing.Out m) ∷ ms)).peers).entries) (sym is) (goes m.flow.link.0
        (message_on m.flow.link.0 m.text) refl is may (ap (λ (p : Pair). is_some (p.out l)) (sym is) ∙ out)) where
          is : pair a b (events_of (Crossed (crossing.Out m) ∷ ms)) ≡ pair_sent m.flow.link.0
              (message_on m.flow.link.0 m.text) (pair a b (events_of ms))
          is =
              let x : same_host a m.flow.source ≡ true =
              subst (λ (h : Host). same_host a h ≡ true) from (same_host-refl a) in
              let z : same_host b m.flow.destination ≡ true =
              subst (λ (h : Host). same_host b h ≡ true) to (same_host-refl b) in
              ap (λ (v : Bool). pair_moved (when v (Send m.flow.link.0 (message_on m.flow.link.0 m.text)))
              (pair a b (events_of ms))) (ap (λ (v : Bool). v && same_host b m.flow.destination) x ∙ z)

  and_not : (v w : Bool) → w ≡ false → (v && w) ≡ false
  and_not true w e = e
  and_not false w e = refl

  out_next : (m : HostMessage) (ms : List Moment) → Lawful hosts (Crossed (crossing.Out m) ∷ ms) → Claim ms
      → Claim (Crossed (crossing.Out m) ∷ ms)
  out_next m ms lawful old = by (same_host a m.flow.source) (same_host b m.flow.destination) refl refl where
    away : (same_host a m.flow.source && same_host b m.flow.destination) ≡ false → Claim (Crossed (crossing.Out m) ∷ ms)
    away e =
        quiet (Crossed (crossing.Out m)) ms lawful (ap (λ (v : Bool). pair_moved
        (when v (Send m.flow.link.0 (message_on m.flow.link.0 m.text))) (pair a b (events_of ms))) e) refl
        (λ busy. on_if l (same_host a m.flow.source) (next_calls b (places ms) (program a ms).listening
        (next_in (program a ms).peers)) (on_next l b (places ms) (program a ms).listening
        (next_in (program a ms).peers))) old

    by : (v w : Bool) → same_host a m.flow.source ≡ v → same_host b m.flow.destination ≡ w
        → Claim (Crossed (crossing.Out m) ∷ ms)
    by true true e f =
        out_there m ms lawful (same_host-true a m.flow.source e) (same_host-true b m.flow.destination f) old
    by true false e f = away (and_not (same_host a m.flow.source) (same_host b m.flow.destination) f)
    by false w e f = away (ap (λ (v : Bool). v && same_host b m.flow.destination) e)

  in_next : (m : HostMessage) (ms : List Moment) → Lawful hosts (Crossed (crossing.In m) ∷ ms) → Claim ms
      → Claim (Crossed (crossing.In m) ∷ ms)
  in_next m ms lawful old =
      by (same_host a m.flow.destination && same_host b m.flow.source) refl (message_on m.flow.link.0 m.text) refl where
        lower : Lawful hosts ms
        lower = below hosts (Crossed (crossing.In m)) ms lawful

        on : is_busy (pair_with b (program a ms).peers).busy l ≡ true → AllOn l (calls_by a b (Crossed (crossing.In m)) ms)
        on busy =
            on_if l (same_host a m.flow.destination && same_host b m.flow.source)
            (message_calls b (places ms) m.flow.link.0 m.text (turn_of (program a ms) b))
            (on_message l b (places ms) m.flow.link.0 m.text (turn_of (program a ms) b) busy)

        is : (v : Bool) → (same_host a m.flow.destination && same_host b m.flow.source) ≡ v → (msg : Message)
            → message_on m.flow.link.0 m.text ≡ msg → pair a b (events_of (Crossed (crossing.In m) ∷ ms)) ≡ pair_moved
            (when v (Take msg)) (pair a b (events_of ms))
        is v e msg f =
            ap (λ (w : Bool). pair_moved (when w (Take (message_on m.flow.link.0 m.text))) (pair a b (events_of ms))) e
            ∙ ap (λ (t : Message). pair_moved (when v (Take t)) (pair a b (events_of ms))) f

        takes : (v : Bool) → (same_host a m.flow.destination && same_host b m.flow.source) ≡ v → (msg : Message)
            → message_on m.flow.link.0 m.text ≡ msg → stay.takes_reset a b (event_in (Crossed (crossing.In m))) ≡
            (v && is_reset msg)
        takes v e msg f =
            takes_by a b m.flow.source m.flow.destination m.flow.link.0 (message_on m.flow.link.0 m.text) v e
            ∙ ap (λ (t : Message). v && is_reset t) f

        by : (v : Bool) → (same_host a m.flow.destination && same_host b m.flow.source) ≡ v → (msg : Message)
            → message_on m.flow.link.0 m.text ≡ msg → Claim (Crossed (crossing.In m) ∷ ms)
        by false e msg f = quiet (Crossed (crossing.In m)) ms lawful (is false e msg f) (takes false e msg f) on old
        by true e Reset f = λ out. inl (inl (ap (λ (p : Pair). p.owed) (is true e Reset f)))
        by true e (Other text) f =
            quiet (Crossed (crossing.In m)) ms lawful (is true e (Other text) f) (takes true e (Other text) f) on old
        by true e Reply f =
            λ out. reply (old (ap (λ (p : Pair). is_some (p.out l)) (sym (is true e Reply f)) ∙ out))
            (ap (λ (p : Pair). is_some (p.out l)) (sym (is true e Reply f)) ∙ out) where
              reply : Resting (pair a b (events_of ms)) ⊎ Has (holds l) (pair_with b (program a ms).peers).entries
                  → is_some ((pair a b (events_of ms)).out l) ≡ true
                  → Resting (pair a b (events_of (Crossed (crossing.In m) ∷ ms)))
                  ⊎ Has (holds l) (pair_with b (program a (Crossed (crossing.In m) ∷ ms)).peers).entries
              reply (inl (inl owed)) out = inl (inl (ap (λ (p : Pair). p.owed) (is true e Reply f) ∙ owed))
              reply (inl (inr rests)) out =
                  inl (inr (ap (λ (p : Pair). is_resting p.phase) (is true e Reply f)
                  ∙ rests_reply (pair a b (events_of ms)).phase rests))
              reply (inr h) out =
                  inr (keep (Crossed (crossing.In m)) ms lawful (ap (λ (p : Pair). p.phase) (is true e Reply f)
                  ∙ ap reply_phase (ready_now ms lower h)) (takes true e Reply f) (on (on_now ms lower out)) h)

  told_next : (kind : Answer) (f : Flow) (ms : List Moment) → Lawful hosts (Crossed (crossing.Answer kind f) ∷ ms)
      → Claim ms → Claim (Crossed (crossing.Answer kind f) ∷ ms)
  told_next kind f ms lawful old = by (same_host a f.source && same_host b f.destination) refl where
    lower : Lawful hosts ms
    lower = below hosts (Crossed (crossing.Answer kind f)) ms lawful

    is : (v : Bool) → (same_host a f.source && same_host b f.destination) ≡ v
        → pair a b (events_of (Crossed (crossing.Answer kind f) ∷ ms)) ≡ pair_moved (when v (Hear f.link.0 kind))
        (pair a b (events_of ms))
    is v e = ap (λ (w : Bool). pair_moved (when w (Hear f.link.0 kind)) (pair a b (events_of ms))) e

    none : (v : Bool) → (same_host a f.source && same_host b f.destination) ≡ v → v ≡ false
        → AllOn l (calls_by a b (Crossed (crossing.Answer kind f)) ms)
    none v e off_it =
        subst (λ (w : Bool). AllOn l (if w then answer_calls f.link.0 (pair_with b (program a ms).peers)
        (program a ms).listening else [])) (sym (e ∙ off_it)) tt

    was : (v : Bool) → is_some (if v then None else (pair a b (events_of ms)).out l) ≡ true
        → is_some ((pair a b (events_of ms)).out l) ≡ true
    was true o = never (sym o)
    was false o = o

    failed : (p : Pair) → (owed : Bool) → p.owed ≡ owed → Resting (reset.failed f.link.0 p)
    failed p true e = inl e
    failed p false e = inr (ap (λ (v : Bool). is_resting (failed_phase p.phase v)) e ∙ rests_failed p.phase)

    answered : (k : Answer) → kind ≡ k
        → pair a b (events_of (Crossed (crossing.Answer kind f) ∷ ms)) ≡ pair_answered f.link.0 k
        (pair a b (events_of ms)) → (same_host a f.source && same_host b f.destination) ≡ true
        → is_some ((pair_answered f.link.0 k (pair a b (events_of ms))).out l) ≡ true
        → Resting (pair_answered f.link.0 k (pair a b (events_of ms)))
        ⊎ Has (holds l) (pair_with b (program a (Crossed (crossing.Answer kind f) ∷ ms)).peers).entries
    answered answer.Dead k same here out = inl (failed (pair a b (events_of ms)) (pair a b (events_of ms)).owed refl)
    answered answer.Incomplete k same here out =
        inl (failed (pair a b (events_of ms)) (pair a b (events_of ms)).owed refl)
    answered answer.NotTaken k same here out =
        inl (failed (pair a b (events_of ms)) (pair a b (events_of ms)).owed refl)
    answered answer.Rfnm k same here out = elim (old (was (l == f.link.0) out)) [
      | inl (inl owed) ↦ inl (inl owed)
      | inl (inr rests) ↦ inl (inr (rests_rfnm (f.link.0 == 0) (pair a b (events_of ms)).phase rests))
      | inr h ↦ inr (keep (Crossed (crossing.Answer kind f)) ms lawful
          (ap (λ (p : Pair). p.phase) same ∙ ready_rfnm (f.link.0 == 0) (pair a b (events_of ms)).phase
          (ready_now ms lower h)) refl on h)
    ] where
      on : AllOn l (calls_by a b (Crossed (crossing.Answer kind f)) ms)
      on =
          on_if l (same_host a f.source && same_host b f.destination) (answer_calls f.link.0
          (pair_with b (program a ms).peers) (program a ms).listening)
          (on_if l (is_busy (pair_with b (program a ms).peers).busy f.link.0)
          (called (Answered f.link.0) (pair_with b (program a ms).peers) (program a ms).listening ∷ []) (
            sym (freed_busy (pair_with b (program a ms).peers) (pair a b (events_of ms)) f.link.0
                (agrees ms lower).busy l) ∙ out,
            tt,
          ))

    by : (v : Bool) → (same_host a f.source && same_host b f.destination) ≡ v
        → Claim (Crossed (crossing.Answer kind f) ∷ ms)
    by false e = quiet (Crossed (crossing.Answer kind f)) ms lawful (is false e) refl (λ busy. none false e refl) old
    by true e =
        λ out. subst (λ (p : Pair). Resting p ⊎ Has (holds l) (pair_with b
        (program a (Crossed (crossing.Answer kind f) ∷ ms)).peers).entries) (sym (is true e))
        (answered kind refl (is true e) e (ap (λ (p : Pair). is_some (p.out l)) (sym (is true e)) ∙ out))

  start_next : (y : Moment) (g : Host) (ms : List Moment) → Lawful hosts (y ∷ ms)
      → pair a b (events_of (y ∷ ms)) ≡ pair_moved (when (same_host a g) Begin) (pair a b (events_of ms))
      → stay.takes_reset a b (event_in y) ≡ false → AllOn l (calls_by a b y ms) → Claim ms → Claim (y ∷ ms)
  start_next y g ms lawful is none on old = by (same_host a g) refl where
    by : (v : Bool) → same_host a g ≡ v → Claim (y ∷ ms)
    by true e =
        λ out. never (sym out ∙ ap (λ (p : Pair). is_some (p.out l)) (is
        ∙ ap (λ (w : Bool). pair_moved (when w Begin) (pair a b (events_of ms))) e))
    by false e =
        quiet y ms lawful (is ∙ ap (λ (w : Bool). pair_moved (when w Begin) (pair a b (events_of ms))) e) none
        (λ busy. on) old

  asked_next : (g : Host) (r : Request) (ms : List Moment) → Lawful hosts (Asked g r ∷ ms) → Claim ms
      → Claim (Asked g r ∷ ms)
  asked_next g (request.Contact peer) ms lawful old = by (same_host a g && same_host b peer) refl where
    is : (v : Bool) → (same_host a g && same_host b peer) ≡ v → pair a b
        (events_of (Asked g (request.Contact peer) ∷ ms)) ≡ pair_moved (when v signals.Call) (pair a b (events_of ms))
    is v e = ap (λ (w : Bool). pair_moved (when w signals.Call) (pair a b (events_of ms))) e

    by : (v : Bool) → (same_host a g && same_host b peer) ≡ v → Claim (Asked g (request.Contact peer) ∷ ms)
    by true e = λ out. inl (inr (ap (λ (p : Pair). is_resting p.phase) (is true e)))
    by false e =
        quiet (Asked g (request.Contact peer)) ms lawful (is false e) refl
        (λ busy. on_if l (same_host a g) (request_calls b (program a ms) (request.Contact peer)) tt) old
  asked_next g r ms lawful old =
      quiet (Asked g r) ms lawful refl refl (λ busy. on_if l (same_host a g) (request_calls b (program a ms) r)
      (on_request l b (program a ms) r busy)) old

  -- ---- all moments

  pub busy_held : (ms : List Moment) → Lawful hosts ms → is_some ((pair a b (events_of ms)).out l) ≡ true
      → Resting (pair a b (events_of ms)) ⊎ Has (holds l) (pair_with b (program a ms).peers).entries
  busy_held [] lawful = λ out. never (sym out)
  busy_held (Crossed (crossing.Out m) ∷ ms) lawful =
      out_next m ms lawful (busy_held ms (below hosts (Crossed (crossing.Out m)) ms lawful))
  busy_held (Crossed (crossing.In m) ∷ ms) lawful =
      in_next m ms lawful (busy_held ms (below hosts (Crossed (crossing.In m)) ms lawful))
  busy_held (Crossed (crossing.Answer kind f) ∷ ms) lawful =
      told_next kind f ms lawful (busy_held ms (below hosts (Crossed (crossing.Answer kind f)) ms lawful))
  busy_held (Crossed (crossing.Down g) ∷ ms) lawful =
      start_next (Crossed (crossing.Down g)) g ms lawful refl refl tt (busy_held ms
      (below hosts (Crossed (crossing.Down g)) ms lawful))
  busy_held (Crossed (crossing.Up g) ∷ ms) lawful =
      start_next (Crossed (crossing.Up g)) g ms lawful refl refl tt (busy_held ms
      (below hosts (Crossed (crossing.Up g)) ms lawful))
  busy_held (Asked g r ∷ ms) lawful = asked_next g r ms lawful (busy_held ms (below hosts (Asked g r) ms lawful))

  -- a pair that is ready and owes nothing
  pub busy_open : (ms : List Moment) → Lawful hosts ms → (pair_with b (program a ms).peers).phase ≡ phase.Ready
      → (pair_with b (program a ms).peers).owed ≡ false → is_busy (pair_with b (program a ms).peers).busy l ≡ true
      → Has (holds l) (pair_with b (program a ms).peers).entries
  busy_open ms lawful ready owes busy = elim (busy_held ms lawful ((agrees ms lawful).busy l ∙ busy)) [
    | inl (inl owed) ↦ never (sym owed ∙ (agrees ms lawful).owed ∙ owes)
    | inl (inr rests) ↦ never (sym rests ∙ ap is_resting ((agrees ms lawful).phase ∙ ready))
    | inr h ↦ h
  ]
