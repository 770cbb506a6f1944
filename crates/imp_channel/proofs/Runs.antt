-- Every schedule keeps every channel, in both directions.
use Rattle.std.proofs.Common.{◌≡◌, ℕ, ◌+◌, ◌-◌, ◌≤◌, ◌<◌, Bool, true, false, List, [], ◌∷◌, ◌++◌, length, get_or, drop, map, Option, Some, None, Err, refl, sym, ap, ◌∙◌, subst, inl, inr, cond, leb, arith, position, slice_get, zero, suc, Ok, replicate}
use Rattle.std.proofs.lemmas.Bool.{cases_eq, cases_Bool, eq-eqb, ne_eqb, leb-true}
use Rattle.std.proofs.lemmas.List.{append-nil, get_or-set_same, get_or-set_other, length-append, map-append, drop-append-le, drop-drop, length-replicate}
use Rattle.std.specs.List.{drop-map}
use Rattle.std.proofs.lemmas.List.Quantifiers.{position-Some}
use Rattle.std.proofs.lemmas.Option.{slice_get_within}
use Rattle.packetiser.specs.PacketFields.{PacketFields}
use Rattle.imp_channel.specs.declared.channel.Channel.{Channel}
use Rattle.imp_channel.specs.declared.channel.TheConstants.{CHANNELS}
use Rattle.imp_channel.specs.declared.fault.ChannelFault.TheVariants as fault
use Rattle.imp_channel.specs.declared.frame.Frame.{Frame}
use Rattle.imp_channel.specs.declared.frame.TheConstants.{ACKS}
use Rattle.imp_channel.specs.Line.{End, opening_end, opening_channel, channel_at, expected_at, is_free, holding, frame_on, submitted, submitted_on, resent, acknowledgement, routes_frame, acknowledged, all_acknowledged, is_foreign, expected_after, brought}
use Rattle.imp_channel.specs.Schedule.{Side, opening_side, Act, Submit, Resend, Acknowledge, Tell, Take, on_channel, given_on, freed_by, writes, puts_in, takes, takes_at, acted, Event, Left, Right, Sides, opening_sides, sides_after, run, InOrder}
use Rattle.imp_channel.proofs.Calls.{none_from}
use Rattle.imp_channel.proofs.Alternating.{Passing, Kept, Carries, AllAre, expected_by, given_by, kept_drop, kept_wrote, kept_told, kept_submit, kept_acked, kept_came, kept_given, kept_freed}
use Rattle.imp_channel.proofs.OneChannel.{way_in, ack_in, AllAre-frames, Carries-frames, Carries-frame_on, get_or-all_acknowledged, length-expected_after, IsOnChannel, tells_channel}

-- the packets still on the way from this side on a channel, and the acknowledgement bits
abbrev pub way : ℕ → Side → List Passing
way c s = map (way_in c) (drop s.reached s.written)

abbrev pub returning : ℕ → Side → List Bool
returning c s = map (ack_in c) (drop s.reached s.written)

-- the channel from one side to the other
abbrev pub KeptFrom : ℕ → Side → Side → Type 0
KeptFrom c from to = Kept (channel_at from.state c) (expected_at to.state c) (way c from) (returning c to) (from.put c) (to.given c) (from.freed c)

-- a side's frames were taken within what it wrote, and it expects a bit on each channel
pub record IsSide (s : Side) : Type 0 where
  pub within : s.reached ≤ length s.written
  pub bits : length s.state.expected ≡ ACKS

pub record BothKept (c : ℕ) (me you : Side) : Type 0 where
  pub forth : KeptFrom c me you
  pub back : KeptFrom c you me
  pub mine : IsSide me
  pub yours : IsSide you

-- Writing.

more_written : {X : Type 0} (f : Frame → X) (s : Side) (frames : List Frame) → IsSide s
    → map f (drop s.reached (s.written ++ frames)) ≡ map f (drop s.reached s.written) ++ map f frames
more_written f s frames side =
    ap (λ (l : List Frame). map f l) (drop-append-le s.reached s.written frames side.within) ∙ map-append f (drop s.reached s.written) frames

-- frames that carry what the channel holds, and acknowledge what is expected, may be written
kept_writes : (c : ℕ) (me you : Side) (frames : List Frame) → Carries (channel_at me.state c) (map (way_in c) frames)
    → AllAre (expected_at me.state c) (map (ack_in c) frames) → BothKept c me you → BothKept c (writes frames me) you
kept_writes c me you frames carries tells k = record {
  forth =
      (let P : List Passing → Type 0 = λ l. Kept (channel_at me.state c) (expected_at you.state c) l (returning c you) (me.put c) (you.given c) (me.freed c) in
      subst P (sym (more_written (way_in c) me frames k.mine))
      (kept_wrote (channel_at me.state c) (expected_at you.state c) (way c me) (map (way_in c) frames) (returning c you) (me.put c) (you.given c) (me.freed c) carries k.forth));
  back =
      (let P : List Bool → Type 0 = λ l. Kept (channel_at you.state c) (expected_at me.state c) (way c you) l (you.put c) (me.given c) (you.freed c) in
      subst P (sym (more_written (ack_in c) me frames k.mine))
      (kept_told (channel_at you.state c) (expected_at me.state c) (way c you) (returning c me) (map (ack_in c) frames) (you.put c) (me.given c) (you.freed c) tells k.back));
  mine = record { within = omega (arith, length-append me.written frames, k.mine.within); bits = k.mine.bits };
  yours = k.yours;
}

-- Putting a packet in.

-- the side whose channel `at` holds the packet, with no frame written yet
abbrev pub holds : ℕ → PacketFields → Side → Side
holds at p s = record s { state = holding s.state at p; put = λ c. s.put c ++ on_channel c (frame_on s.state at (channel_at s.state at).bit p).content p }

put_here : (at : ℕ) (p : PacketFields) (me you : Side) → at < length me.state.sending → (channel_at me.state at).packet ≡ None
    → KeptFrom at me you → KeptFrom at (holds at p me) you
put_here at p me you within free k =
    let full : Channel = record { bit = (channel_at me.state at).bit; packet = Some p } in
    let P : Channel → Type 0 = λ ch. Kept ch (expected_at you.state at) (way at me) (returning at you) (me.put at ++ on_channel at (frame_on me.state at (channel_at me.state at).bit p).content p) (you.given at) (me.freed at) in
    let Q : Bool → Type 0 = λ t. Kept full (expected_at you.state at) (way at me) (returning at you) (me.put at ++ cond t (p ∷ []) []) (you.given at) (me.freed at) in
    subst P (sym (get_or-set_same me.state.sending at full opening_channel within))
    (subst Q (sym (eq-eqb at at refl))
    (kept_submit (channel_at me.state at) p (expected_at you.state at) (way at me) (returning at you) (me.put at) (you.given at) (me.freed at) free k))

put_elsewhere : (c at : ℕ) (p : PacketFields) (me you : Side) → (at ≡ c → ⊥)
    → KeptFrom c me you → KeptFrom c (holds at p me) you
put_elsewhere c at p me you other k =
    let full : Channel = record { bit = (channel_at me.state at).bit; packet = Some p } in
    let P : Channel → Type 0 = λ ch. Kept ch (expected_at you.state c) (way c me) (returning c you) (me.put c ++ on_channel c (frame_on me.state at (channel_at me.state at).bit p).content p) (you.given c) (me.freed c) in
    let Q : Bool → Type 0 = λ t. Kept (channel_at me.state c) (expected_at you.state c) (way c me) (returning c you) (me.put c ++ cond t (p ∷ []) []) (you.given c) (me.freed c) in
    let R : List PacketFields → Type 0 = λ l. Kept (channel_at me.state c) (expected_at you.state c) (way c me) (returning c you) l (you.given c) (me.freed c) in
    subst P (sym (get_or-set_other me.state.sending at c full opening_channel (λ (same : c ≡ at). other (sym same))))
    (subst Q (sym (ne_eqb at c other)) (subst R (sym (append-nil (me.put c))) k))

put : (c at : ℕ) (p : PacketFields) (me you : Side) → at < length me.state.sending → (channel_at me.state at).packet ≡ None
    → KeptFrom c me you → KeptFrom c (holds at p me) you
put c at p me you within free k =
    elim (cases_eq at c) [
      | inl same ↦
          (let P : ℕ → Type 0 = λ x. KeptFrom x (holds at p me) you in
          let Q : ℕ → Type 0 = λ x. KeptFrom x me you in
          subst P same (put_here at p me you within free (subst Q (sym same) k)))
      | inr other ↦ put_elsewhere c at p me you other k
    ]

-- the channel that holds the packet now
held_at : (e : End) (at c : ℕ) (p : PacketFields) → at < length e.sending → at ≡ c
    → channel_at (holding e at p) c ≡ record { bit = (channel_at e at).bit; packet = Some p }
held_at e at c p within same =
    ap (λ (x : ℕ). channel_at (holding e at p) x) (sym same) ∙ get_or-set_same e.sending at (record { bit = (channel_at e at).bit; packet = Some p }) opening_channel within

kept_puts_in : (c : ℕ) (p : PacketFields) (me you : Side) (free : Option ℕ) → position is_free me.state.sending ≡ free
    → BothKept c me you → BothKept c (puts_in p (submitted_on me.state p free) me) you
kept_puts_in c p me you None is k = k
kept_puts_in c p me you (Some at) is k =
    let found = position-Some is_free me.state.sending at opening_channel is in
    let bit : Bool = (channel_at me.state at).bit in
    let full : at ≡ c → channel_at (holding me.state at p) c ≡ record { bit = (channel_at me.state at).bit; packet = Some p } = held_at me.state at c p found.0 in
    kept_writes c (holds at p me) you (frame_on me.state at (channel_at me.state at).bit p ∷ [])
    (Carries-frame_on me.state at c (channel_at me.state at).bit p (channel_at (holding me.state at p) c) (λ same. (sym (ap (λ (ch : Channel). ch.bit) (full same)), ap (λ (ch : Channel). ch.packet) (full same))))
    (refl, tt)
    (record {
      forth = put c at p me you found.0 (none_from (channel_at me.state at).packet found.1) k.forth;
      back = k.back;
      mine = record { within = k.mine.within; bits = k.mine.bits };
      yours = k.yours;
    })

-- Taking a frame.

-- what is left from a later place
later : {X : Type 0} (f : Frame → X) (frames : List Frame) (from to : ℕ) → from ≤ to
    → drop (to - from) (map f (drop from frames)) ≡ map f (drop to frames)
later f frames from to le =
    drop-map f (to - from) (drop from frames)
    ∙ ap (λ (l : List Frame). map f l) (drop-drop (to - from) from frames ∙ ap (λ (n : ℕ). drop n frames) (let e : from + (to - from) ≡ to = omega arith in e))

-- frames may be skipped
kept_reach : (c : ℕ) (me you : Side) (place : ℕ) → you.reached ≤ place → place ≤ length you.written
    → BothKept c me you → BothKept c me (record you { reached = place })
kept_reach c me you place from to k = record {
  forth =
      (let P : List Bool → Type 0 = λ l. Kept (channel_at me.state c) (expected_at you.state c) (way c me) l (me.put c) (you.given c) (me.freed c) in
      subst P (later (ack_in c) you.written you.reached place from)
      (kept_drop 0 (place - you.reached) (channel_at me.state c) (expected_at you.state c) (way c me) (returning c you) (me.put c) (you.given c) (me.freed c) k.forth));
  back =
      (let P : List Passing → Type 0 = λ l. Kept (channel_at you.state c) (expected_at me.state c) l (returning c me) (you.put c) (me.given c) (you.freed c) in
      subst P (later (way_in c) you.written you.reached place from)
      (kept_drop (place - you.reached) 0 (channel_at you.state c) (expected_at me.state c) (way c you) (returning c me) (you.put c) (me.given c) (you.freed c) k.back));
  mine = k.mine;
  yours = record { within = to; bits = k.yours.bits };
}

-- the frame at a place begins what is left from there
drop_at : (fs : List Frame) (place : ℕ) (f : Frame) → slice_get fs place ≡ Some f → (rest : List Frame) × (drop place fs ≡ f ∷ rest)
drop_at [] place f at = cc
drop_at (g ∷ fs) zero f at = (fs, (let same : g ≡ f = cc in ap (λ (h : Frame). h ∷ fs) same))
drop_at (g ∷ fs) (suc place) f at = drop_at fs place f at

-- a frame that is refused, or isn't
abbrev takes_when : Bool → Frame → Side → Side
takes_when refused f s =
    let state : End = cond refused s.state (record { sending = all_acknowledged f.acks s.state.sending; expected = expected_after s.state.expected f.content }) in
    record s {
      state = state;
      given = λ c. s.given c ++ given_on c f.content (cond refused (Err fault.NotCanonical) (Ok (brought s.state.expected f.content)));
      freed = λ c. s.freed c ++ freed_by (channel_at s.state c).packet (channel_at state c).packet;
    }

freed_by-same : (o : Option PacketFields) → freed_by o o ≡ []
freed_by-same None = refl
freed_by-same (Some p) = refl

kept_refuses : (c : ℕ) (me you : Side) (f : Frame) → BothKept c me you → BothKept c (takes_when true f me) you
kept_refuses c me you f k = record {
  forth =
      (let P : List PacketFields → Type 0 = λ l. Kept (channel_at me.state c) (expected_at you.state c) (way c me) (returning c you) (me.put c) (you.given c) l in
      subst P (sym (ap (λ (l : List PacketFields). me.freed c ++ l) (freed_by-same (channel_at me.state c).packet) ∙ append-nil (me.freed c))) k.forth);
  back =
      (let P : List PacketFields → Type 0 = λ l. Kept (channel_at you.state c) (expected_at me.state c) (way c you) (returning c me) (you.put c) l (you.freed c) in
      subst P (sym (append-nil (me.given c))) k.back);
  mine = record { within = k.mine.within; bits = k.mine.bits };
  yours = k.yours;
}

kept_accepts : (c : ℕ) (me you : Side) (f : Frame) (rest : List Frame) → drop you.reached you.written ≡ f ∷ rest → is_foreign f.content ≡ false
    → BothKept c me you → BothKept c (takes_when false f me) you
kept_accepts c me you f rest at used k =
    let here : IsOnChannel c me.state.expected f.content = tells_channel c me.state.expected f.content k.mine.bits used in
    let ch : Channel = channel_at me.state c in
    let acks_at : returning c you ≡ ack_in c f ∷ map (ack_in c) rest = ap (λ (l : List Frame). map (ack_in c) l) at in
    let way_at : way c you ≡ way_in c f ∷ map (way_in c) rest = ap (λ (l : List Frame). map (way_in c) l) at in
    record {
      forth =
          (let P : List Bool → Type 0 = λ l. Kept (channel_at me.state c) (expected_at you.state c) (way c me) l (me.put c) (you.given c) (me.freed c) in
          let Q : List Bool → Type 0 = λ l. Kept (acknowledged (ack_in c f) (channel_at me.state c)) (expected_at you.state c) (way c me) l (me.put c) (you.given c) (me.freed c ++ freed_by (channel_at me.state c).packet (acknowledged (ack_in c f) (channel_at me.state c)).packet) in
          let R : Channel → Type 0 = λ after. Kept after (expected_at you.state c) (way c me) (returning c you) (me.put c) (you.given c) (me.freed c ++ freed_by (channel_at me.state c).packet after.packet) in
          subst R (sym (get_or-all_acknowledged f.acks me.state.sending c))
          (subst Q (sym acks_at)
          (kept_acked (channel_at me.state c).bit (channel_at me.state c).packet (ack_in c f) (expected_at you.state c) (way c me) (map (ack_in c) rest) (me.put c) (you.given c) (me.freed c) (subst P acks_at k.forth))));
      back =
          (let P : List Passing → Type 0 = λ l. Kept (channel_at you.state c) (expected_at me.state c) l (returning c me) (you.put c) (me.given c) (you.freed c) in
          let Q : List Passing → Type 0 = λ l. Kept (channel_at you.state c) (expected_by (way_in c f) (expected_at me.state c)) l (returning c me) (you.put c) (me.given c ++ given_by (way_in c f) (expected_at me.state c)) (you.freed c) in
          let R : Bool → Type 0 = λ v. Kept (channel_at you.state c) v (way c you) (returning c me) (you.put c) (me.given c ++ given_by (way_in c f) (expected_at me.state c)) (you.freed c) in
          let S : List PacketFields → Type 0 = λ l. Kept (channel_at you.state c) (get_or (expected_after me.state.expected f.content) c false) (way c you) (returning c me) (you.put c) (me.given c ++ l) (you.freed c) in
          subst S (sym here.gives)
          (subst R (sym here.expects)
          (subst Q (sym way_at)
          (kept_came (channel_at you.state c) (expected_at me.state c) (way_in c f) (map (way_in c) rest) (returning c me) (you.put c) (me.given c) (you.freed c) (subst P way_at k.back)))));
      mine = record { within = k.mine.within; bits = length-expected_after me.state.expected f.content ∙ k.mine.bits };
      yours = k.yours;
    }

kept_takes : (c : ℕ) (me you : Side) (f : Frame) (rest : List Frame) → drop you.reached you.written ≡ f ∷ rest
    → BothKept c me you → BothKept c (takes f me) you
kept_takes c me you f rest at k =
    let P : Bool → Type 0 = λ refused. BothKept c (takes_when refused f me) you in
    elim (cases_Bool (is_foreign f.content)) [
      | inl foreign ↦ subst P (sym foreign) (kept_refuses c me you f k)
      | inr used ↦ subst P (sym used) (kept_accepts c me you f rest at used k)
    ]

kept_takes_at : (c place : ℕ) (me you : Side) (found : Option Frame) → slice_get you.written place ≡ found → you.reached ≤ place
    → BothKept c me you → BothKept c (takes_at place found me you).0 (takes_at place found me you).1
kept_takes_at c place me you None is le k = k
kept_takes_at c place me you (Some f) is le k =
    let there : place < length you.written = slice_get_within you.written place f is in
    let left = drop_at you.written place f is in
    kept_takes c me (record you { reached = place }) f left.0 left.1 (kept_reach c me you place le (omega arith) k)

-- Each act, and each schedule.

kept_acted : (c : ℕ) (act : Act) (me you : Side) → BothKept c me you → BothKept c (acted act me you).0 (acted act me you).1
unfolding submitted
kept_acted c (Submit packet) me you k = kept_puts_in c packet me you (position is_free me.state.sending) refl k
kept_acted c Resend me you k =
    kept_writes c me you (resent me.state) (Carries-frames me.state 0 c c me.state.sending (omega arith)) (AllAre-frames me.state c 0 me.state.sending) k
kept_acted c Acknowledge me you k = kept_writes c me you (acknowledgement me.state ∷ []) tt (refl, tt) k
kept_acted c (Tell distances) me you k = kept_writes c me you (routes_frame me.state distances ∷ []) tt (refl, tt) k
kept_acted c (Take place) me you k =
    let P : Bool → Type 0 = λ t. BothKept c (cond t (takes_at place (slice_get you.written place) me you) (me, you)).0 (cond t (takes_at place (slice_get you.written place) me you) (me, you)).1 in
    elim (cases_Bool (leb you.reached place)) [
      | inl on ↦ subst P (sym on) (kept_takes_at c place me you (slice_get you.written place) refl (leb-true you.reached place on) k)
      | inr back ↦ subst P (sym back) k
    ]

turned : (c : ℕ) (me you : Side) → BothKept c me you → BothKept c you me
turned c me you k = record { forth = k.back; back = k.forth; mine = k.yours; yours = k.mine }

kept_after : (c : ℕ) (event : Event) (s : Sides) → BothKept c s.left s.right → BothKept c (sides_after event s).left (sides_after event s).right
kept_after c (Left act) s k = kept_acted c act s.left s.right k
kept_after c (Right act) s k = turned c (acted act s.right s.left).0 (acted act s.right s.left).1 (kept_acted c act s.right s.left (turned c s.left s.right k))

kept_run : (c : ℕ) (events : List Event) (s : Sides) → BothKept c s.left s.right → BothKept c (run events s).left (run events s).right
kept_run c [] s k = k
kept_run c (event ∷ rest) s k = kept_run c rest (sides_after event s) (kept_after c event s k)

get_or-opening : {X : Type 0} (n c : ℕ) (x : X) → get_or (replicate n x) c x ≡ x
get_or-opening zero c x = refl
get_or-opening (suc n) zero x = refl
get_or-opening (suc n) (suc c) x = get_or-opening n c x

kept_opening_from : (c : ℕ) → KeptFrom c opening_side opening_side
kept_opening_from c =
    let P : Channel → Type 0 = λ ch. Kept ch (expected_at opening_end c) [] [] [] [] [] in
    let Q : Bool → Type 0 = λ v. Kept opening_channel v [] [] [] [] [] in
    subst P (sym (get_or-opening CHANNELS c opening_channel))
    (subst Q (sym (get_or-opening ACKS c false)) (inl record { packet = refl; expected = refl; passing = tt; returning = tt; all_given = refl; all_freed = refl }))

kept_opening : (c : ℕ) → BothKept c opening_side opening_side
kept_opening c = record {
  forth = kept_opening_from c;
  back = kept_opening_from c;
  mine = record { within = omega arith; bits = length-replicate ACKS false };
  yours = record { within = omega arith; bits = length-replicate ACKS false };
}

in_order_from : (c : ℕ) (from to : Side) → KeptFrom c from to → InOrder c from to
in_order_from c from to k = record {
  given = kept_given (channel_at from.state c) (expected_at to.state c) (way c from) (returning c to) (from.put c) (to.given c) (from.freed c) k;
  freed = kept_freed (channel_at from.state c) (expected_at to.state c) (way c from) (returning c to) (from.put c) (to.given c) (from.freed c) k;
}

pub rightward : (events : List Event) (c : ℕ) → InOrder c (run events opening_sides).left (run events opening_sides).right
rightward events c =
    in_order_from c (run events opening_sides).left (run events opening_sides).right (kept_run c events opening_sides (kept_opening c)).forth

pub leftward : (events : List Event) (c : ℕ) → InOrder c (run events opening_sides).right (run events opening_sides).left
leftward events c =
    in_order_from c (run events opening_sides).right (run events opening_sides).left (kept_run c events opening_sides (kept_opening c)).back
