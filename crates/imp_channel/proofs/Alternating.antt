-- One channel in one direction: the sending channel, the bit that the far end expects, the packets that are
-- still on the way, the acknowledgement bits that are still on the way back, and the packets put in, given and freed.
use Rattle.std.proofs.Common.{◌≡◌, ℕ, zero, suc, Bool, true, false, not, List, [], ◌∷◌, ◌++◌, drop, Option, Some, None, refl, sym, ap, ◌∙◌, subst, ◌⊎◌, inl, inr, cond}
use Rattle.std.proofs.lemmas.List.{append-nil}
use Rattle.packetiser.specs.PacketFields.{PacketFields}
use Rattle.imp_channel.specs.Line.{differs, acknowledged}
use Rattle.imp_channel.specs.Schedule.{freed_by, Begins}
use Rattle.imp_channel.specs.declared.channel.Channel.{Channel}
use Rattle.imp_channel.proofs.Acknowledging.{same_differs}

-- a packet under its bit, or a frame with none on this channel
abbrev pub Passing : Type 0
Passing = Option (Bool × PacketFields)

-- all packets on the way have this bit
abbrev pub AllHave : Bool → List Passing → Type 0
AllHave b [] = Unit {0}
AllHave b (None ∷ way) = AllHave b way
AllHave b (Some m ∷ way) = (m.0 ≡ b) × AllHave b way

-- all packets on the way are this one, under this bit
abbrev pub AllThis : Bool → PacketFields → List Passing → Type 0
AllThis b p [] = Unit {0}
AllThis b p (None ∷ way) = AllThis b p way
AllThis b p (Some m ∷ way) = (m.0 ≡ b) × (m.1 ≡ p) × AllThis b p way

-- first come packets with the other bit, then this one under its own
abbrev pub OthersThen : Bool → PacketFields → List Passing → Type 0
OthersThen b p [] = Unit {0}
OthersThen b p (None ∷ way) = OthersThen b p way
OthersThen b p (Some m ∷ way) = ((m.0 ≡ not b) × OthersThen b p way) ⊎ ((m.0 ≡ b) × (m.1 ≡ p) × AllThis b p way)

-- all acknowledgement bits on the way back are this one
abbrev pub AllAre : Bool → List Bool → Type 0
AllAre b [] = Unit {0}
AllAre b (a ∷ acks) = (a ≡ b) × AllAre b acks

-- first this bit comes back, then the other
abbrev pub Turns : Bool → List Bool → Type 0
Turns b [] = Unit {0}
Turns b (a ∷ acks) = ((a ≡ b) × Turns b acks) ⊎ ((a ≡ not b) × AllAre (not b) acks)

-- nothing waits: all was given and freed, and what is still on the way has the other bit
pub record IsIdle (ch : Channel) (expects : Bool) (way : List Passing) (acks : List Bool) (put given freed : List PacketFields) : Type 0 where
  pub packet : ch.packet ≡ None
  pub expected : expects ≡ ch.bit
  pub passing : AllHave (not ch.bit) way
  pub returning : AllAre ch.bit acks
  pub all_given : given ≡ put
  pub all_freed : freed ≡ given

-- a packet waits that wasn't given yet
pub record IsWaiting (ch : Channel) (expects : Bool) (way : List Passing) (acks : List Bool) (put given freed : List PacketFields) : Type 0 where
  pub held : PacketFields
  pub packet : ch.packet ≡ Some held
  pub expected : expects ≡ ch.bit
  pub passing : OthersThen ch.bit held way
  pub returning : AllAre ch.bit acks
  pub all_given : put ≡ given ++ held ∷ []
  pub all_freed : freed ≡ given

-- a packet waits that was given, and isn't acknowledged yet
pub record IsTaken (ch : Channel) (expects : Bool) (way : List Passing) (acks : List Bool) (put given freed : List PacketFields) : Type 0 where
  pub held : PacketFields
  pub packet : ch.packet ≡ Some held
  pub expected : expects ≡ not ch.bit
  pub passing : AllHave ch.bit way
  pub returning : Turns ch.bit acks
  pub all_given : given ≡ put
  pub all_freed : given ≡ freed ++ held ∷ []

-- the three moments of a channel
abbrev pub Kept : Channel → Bool → List Passing → List Bool → List PacketFields → List PacketFields → List PacketFields → Type 0
Kept ch expects way acks put given freed =
    IsIdle ch expects way acks put given freed ⊎ (IsWaiting ch expects way acks put given freed ⊎ IsTaken ch expects way acks put given freed)

-- Whatever is skipped leaves these as they are.

AllHave-drop : (n : ℕ) (b : Bool) (way : List Passing) → AllHave b way → AllHave b (drop n way)
AllHave-drop zero b way h = h
AllHave-drop (suc n) b [] h = tt
AllHave-drop (suc n) b (None ∷ way) h = AllHave-drop n b way h
AllHave-drop (suc n) b (Some m ∷ way) h = AllHave-drop n b way h.1

AllThis-drop : (n : ℕ) (b : Bool) (p : PacketFields) (way : List Passing) → AllThis b p way → AllThis b p (drop n way)
AllThis-drop zero b p way h = h
AllThis-drop (suc n) b p [] h = tt
AllThis-drop (suc n) b p (None ∷ way) h = AllThis-drop n b p way h
AllThis-drop (suc n) b p (Some m ∷ way) h = AllThis-drop n b p way h.2

OthersThen-from_AllThis : (b : Bool) (p : PacketFields) (way : List Passing) → AllThis b p way → OthersThen b p way
OthersThen-from_AllThis b p [] h = tt
OthersThen-from_AllThis b p (None ∷ way) h = OthersThen-from_AllThis b p way h
OthersThen-from_AllThis b p (Some m ∷ way) h = inr h

OthersThen-drop : (n : ℕ) (b : Bool) (p : PacketFields) (way : List Passing) → OthersThen b p way → OthersThen b p (drop n way)
OthersThen-drop zero b p way h = h
OthersThen-drop (suc n) b p [] h = tt
OthersThen-drop (suc n) b p (None ∷ way) h = OthersThen-drop n b p way h
OthersThen-drop (suc n) b p (Some m ∷ way) (inl h) = OthersThen-drop n b p way h.1
OthersThen-drop (suc n) b p (Some m ∷ way) (inr h) = OthersThen-from_AllThis b p (drop n way) (AllThis-drop n b p way h.2)

AllAre-drop : (n : ℕ) (b : Bool) (acks : List Bool) → AllAre b acks → AllAre b (drop n acks)
AllAre-drop zero b acks h = h
AllAre-drop (suc n) b [] h = tt
AllAre-drop (suc n) b (a ∷ acks) h = AllAre-drop n b acks h.1

Turns-from_AllAre : (b : Bool) (acks : List Bool) → AllAre (not b) acks → Turns b acks
Turns-from_AllAre b [] h = tt
Turns-from_AllAre b (a ∷ acks) h = inr h

Turns-from_AllAre_same : (b : Bool) (acks : List Bool) → AllAre b acks → Turns b acks
Turns-from_AllAre_same b [] h = tt
Turns-from_AllAre_same b (a ∷ acks) h = inl (h.0, Turns-from_AllAre_same b acks h.1)

Turns-drop : (n : ℕ) (b : Bool) (acks : List Bool) → Turns b acks → Turns b (drop n acks)
Turns-drop zero b acks h = h
Turns-drop (suc n) b [] h = tt
Turns-drop (suc n) b (a ∷ acks) (inl h) = Turns-drop n b acks h.1
Turns-drop (suc n) b (a ∷ acks) (inr h) = Turns-from_AllAre b (drop n acks) (AllAre-drop n (not b) acks h.1)

-- frames may be skipped both ways
pub kept_drop : (n m : ℕ) (ch : Channel) (expects : Bool) (way : List Passing) (acks : List Bool) (put given freed : List PacketFields)
    → Kept ch expects way acks put given freed → Kept ch expects (drop n way) (drop m acks) put given freed
kept_drop n m ch expects way acks put given freed (inl k) =
    inl record { packet = k.packet; expected = k.expected; passing = AllHave-drop n (not ch.bit) way k.passing; returning = AllAre-drop m ch.bit acks k.returning; all_given = k.all_given; all_freed = k.all_freed }
kept_drop n m ch expects way acks put given freed (inr (inl k)) =
    inr (inl record { held = k.held; packet = k.packet; expected = k.expected; passing = OthersThen-drop n ch.bit k.held way k.passing; returning = AllAre-drop m ch.bit acks k.returning; all_given = k.all_given; all_freed = k.all_freed })
kept_drop n m ch expects way acks put given freed (inr (inr k)) =
    inr (inr record { held = k.held; packet = k.packet; expected = k.expected; passing = AllHave-drop n ch.bit way k.passing; returning = Turns-drop m ch.bit acks k.returning; all_given = k.all_given; all_freed = k.all_freed })

-- Writing more frames.

-- frames that carry what the channel holds, under its bit, or nothing on it
abbrev pub Carries : Channel → List Passing → Type 0
Carries ch [] = Unit {0}
Carries ch (None ∷ more) = Carries ch more
Carries ch (Some m ∷ more) = (m.0 ≡ ch.bit) × (ch.packet ≡ Some m.1) × Carries ch more

carries_none : (ch : Channel) (b : Bool) (more : List Passing) → ch.packet ≡ None → Carries ch more → AllHave b more
carries_none ch b [] none h = tt
carries_none ch b (None ∷ more) none h = carries_none ch b more none h
carries_none ch b (Some m ∷ more) none h = let at = h.1 in cc

carries_have : (ch : Channel) (more : List Passing) → Carries ch more → AllHave ch.bit more
carries_have ch [] h = tt
carries_have ch (None ∷ more) h = carries_have ch more h
carries_have ch (Some m ∷ more) h = (h.0, carries_have ch more h.2)

carries_this : (ch : Channel) (p : PacketFields) (more : List Passing) → ch.packet ≡ Some p → Carries ch more → AllThis ch.bit p more
carries_this ch p [] some h = tt
carries_this ch p (None ∷ more) some h = carries_this ch p more some h
carries_this ch p (Some m ∷ more) some h = (h.0, (let at = h.1 in let same : m.1 ≡ p = cc in same), carries_this ch p more some h.2)

AllHave-append : (b : Bool) (way more : List Passing) → AllHave b way → AllHave b more → AllHave b (way ++ more)
AllHave-append b [] more h k = k
AllHave-append b (None ∷ way) more h k = AllHave-append b way more h k
AllHave-append b (Some m ∷ way) more h k = (h.0, AllHave-append b way more h.1 k)

AllThis-append : (b : Bool) (p : PacketFields) (way more : List Passing) → AllThis b p way → AllThis b p more → AllThis b p (way ++ more)
AllThis-append b p [] more h k = k
AllThis-append b p (None ∷ way) more h k = AllThis-append b p way more h k
AllThis-append b p (Some m ∷ way) more h k = (h.0, h.1, AllThis-append b p way more h.2 k)

OthersThen-append : (b : Bool) (p : PacketFields) (way more : List Passing) → OthersThen b p way → AllThis b p more → OthersThen b p (way ++ more)
OthersThen-append b p [] more h k = OthersThen-from_AllThis b p more k
OthersThen-append b p (None ∷ way) more h k = OthersThen-append b p way more h k
OthersThen-append b p (Some m ∷ way) more (inl h) k = inl (h.0, OthersThen-append b p way more h.1 k)
OthersThen-append b p (Some m ∷ way) more (inr h) k = inr (h.0, h.1, AllThis-append b p way more h.2 k)

OthersThen-from_AllHave : (b : Bool) (p : PacketFields) (way : List Passing) → AllHave (not b) way → OthersThen b p way
OthersThen-from_AllHave b p [] h = tt
OthersThen-from_AllHave b p (None ∷ way) h = OthersThen-from_AllHave b p way h
OthersThen-from_AllHave b p (Some m ∷ way) h = inl (h.0, OthersThen-from_AllHave b p way h.1)

AllAre-append : (b : Bool) (acks more : List Bool) → AllAre b acks → AllAre b more → AllAre b (acks ++ more)
AllAre-append b [] more h k = k
AllAre-append b (a ∷ acks) more h k = (h.0, AllAre-append b acks more h.1 k)

Turns-append : (b : Bool) (acks more : List Bool) → Turns b acks → AllAre (not b) more → Turns b (acks ++ more)
Turns-append b [] more h k = Turns-from_AllAre b more k
Turns-append b (a ∷ acks) more (inl h) k = inl (h.0, Turns-append b acks more h.1 k)
Turns-append b (a ∷ acks) more (inr h) k = inr (h.0, AllAre-append (not b) acks more h.1 k)

AllAre-along : (a b : Bool) (acks : List Bool) → a ≡ b → AllAre a acks → AllAre b acks
AllAre-along a b acks e h = let P : Bool → Type 0 = λ v. AllAre v acks in subst P e h

-- the sender writes frames that carry what its channel holds
pub kept_wrote : (ch : Channel) (expects : Bool) (way more : List Passing) (acks : List Bool) (put given freed : List PacketFields)
    → Carries ch more → Kept ch expects way acks put given freed → Kept ch expects (way ++ more) acks put given freed
kept_wrote ch expects way more acks put given freed c (inl k) =
    inl record { packet = k.packet; expected = k.expected; passing = AllHave-append (not ch.bit) way more k.passing (carries_none ch (not ch.bit) more k.packet c); returning = k.returning; all_given = k.all_given; all_freed = k.all_freed }
kept_wrote ch expects way more acks put given freed c (inr (inl k)) =
    inr (inl record { held = k.held; packet = k.packet; expected = k.expected; passing = OthersThen-append ch.bit k.held way more k.passing (carries_this ch k.held more k.packet c); returning = k.returning; all_given = k.all_given; all_freed = k.all_freed })
kept_wrote ch expects way more acks put given freed c (inr (inr k)) =
    inr (inr record { held = k.held; packet = k.packet; expected = k.expected; passing = AllHave-append ch.bit way more k.passing (carries_have ch more c); returning = k.returning; all_given = k.all_given; all_freed = k.all_freed })

-- the far end writes frames that acknowledge with the bit that it expects
pub kept_told : (ch : Channel) (expects : Bool) (way : List Passing) (acks more : List Bool) (put given freed : List PacketFields)
    → AllAre expects more → Kept ch expects way acks put given freed → Kept ch expects way (acks ++ more) put given freed
kept_told ch expects way acks more put given freed m (inl k) =
    inl record { packet = k.packet; expected = k.expected; passing = k.passing; returning = AllAre-append ch.bit acks more k.returning (AllAre-along expects ch.bit more k.expected m); all_given = k.all_given; all_freed = k.all_freed }
kept_told ch expects way acks more put given freed m (inr (inl k)) =
    inr (inl record { held = k.held; packet = k.packet; expected = k.expected; passing = k.passing; returning = AllAre-append ch.bit acks more k.returning (AllAre-along expects ch.bit more k.expected m); all_given = k.all_given; all_freed = k.all_freed })
kept_told ch expects way acks more put given freed m (inr (inr k)) =
    inr (inr record { held = k.held; packet = k.packet; expected = k.expected; passing = k.passing; returning = Turns-append ch.bit acks more k.returning (AllAre-along expects (not ch.bit) more k.expected m); all_given = k.all_given; all_freed = k.all_freed })

-- a packet is put into a free channel
pub kept_submit : (ch : Channel) (p : PacketFields) (expects : Bool) (way : List Passing) (acks : List Bool) (put given freed : List PacketFields)
    → ch.packet ≡ None → Kept ch expects way acks put given freed
    → Kept (record { bit = ch.bit; packet = Some p }) expects way acks (put ++ p ∷ []) given freed
kept_submit ch p expects way acks put given freed free (inl k) =
    inr (inl record { held = p; packet = refl; expected = k.expected; passing = OthersThen-from_AllHave ch.bit p way k.passing; returning = k.returning; all_given = ap (λ (l : List PacketFields). l ++ p ∷ []) (sym k.all_given); all_freed = k.all_freed })
kept_submit ch p expects way acks put given freed free (inr (inl k)) = let at = k.packet in cc
kept_submit ch p expects way acks put given freed free (inr (inr k)) = let at = k.packet in cc

-- Taking a frame.

differs_not : (b : Bool) → differs (not b) b ≡ true
differs_not true = refl
differs_not false = refl

differs_not_right : (b : Bool) → differs b (not b) ≡ true
differs_not_right true = refl
differs_not_right false = refl

not-not : (b : Bool) → not (not b) ≡ b
not-not true = refl
not-not false = refl

-- the bit expected after a frame with this on the channel, and what it gave
abbrev pub expected_by : Passing → Bool → Bool
expected_by None expects = expects
expected_by (Some m) expects = cond (not (differs m.0 expects)) (not m.0) expects

abbrev pub given_by : Passing → Bool → List PacketFields
given_by None expects = []
given_by (Some m) expects = cond (not (differs m.0 expects)) (m.1 ∷ []) []

-- nothing is added
kept_more_freed : (ch : Channel) (expects : Bool) (way : List Passing) (acks : List Bool) (put given freed : List PacketFields)
    → Kept ch expects way acks put given freed → Kept ch expects way acks put given (freed ++ [])
kept_more_freed ch expects way acks put given freed k =
    let P : List PacketFields → Type 0 = λ l. Kept ch expects way acks put given l in subst P (sym (append-nil freed)) k

kept_more_given : (ch : Channel) (expects : Bool) (way : List Passing) (acks : List Bool) (put given freed : List PacketFields)
    → Kept ch expects way acks put given freed → Kept ch expects way acks put (given ++ []) freed
kept_more_given ch expects way acks put given freed k =
    let P : List PacketFields → Type 0 = λ l. Kept ch expects way acks put l freed in subst P (sym (append-nil given)) k

AllHave-along : (a b : Bool) (way : List Passing) → a ≡ b → AllHave a way → AllHave b way
AllHave-along a b way e h = let P : Bool → Type 0 = λ v. AllHave v way in subst P e h

AllHave-from_AllThis : (b : Bool) (p : PacketFields) (way : List Passing) → AllThis b p way → AllHave b way
AllHave-from_AllThis b p [] h = tt
AllHave-from_AllThis b p (None ∷ way) h = AllHave-from_AllThis b p way h
AllHave-from_AllThis b p (Some m ∷ way) h = (h.0, AllHave-from_AllThis b p way h.2)

-- a busy channel and what its acknowledgement makes of it, by whether the bits differ
abbrev acked_on : Bool → Bool → PacketFields → Channel
acked_on d b p = cond d (record { bit = not b; packet = None }) (record { bit = b; packet = Some p })

-- the bit that comes back is the packet's: nothing changes
acked_same : (b a : Bool) (p : PacketFields) (expects : Bool) (way : List Passing) (acks : List Bool) (put given freed : List PacketFields)
    → a ≡ b → Kept (record { bit = b; packet = Some p }) expects way acks put given freed
    → Kept (acked_on (differs a b) b p) expects way acks put given (freed ++ freed_by (Some p) (acked_on (differs a b) b p).packet)
acked_same b a p expects way acks put given freed e k =
    let same : differs a b ≡ false = ap (λ (v : Bool). differs v b) e ∙ same_differs b in
    let P : Bool → Type 0 = λ d. Kept (acked_on d b p) expects way acks put given (freed ++ freed_by (Some p) (acked_on d b p).packet) in
    subst P (sym same) (kept_more_freed (record { bit = b; packet = Some p }) expects way acks put given freed k)

-- it is the other bit: the channel is free
acked_other : (b a : Bool) (p : PacketFields) (expects : Bool) (way : List Passing) (acks : List Bool) (put given freed : List PacketFields)
    → a ≡ not b → AllAre (not b) acks → IsTaken (record { bit = b; packet = Some p }) expects way (a ∷ acks) put given freed
    → Kept (acked_on (differs a b) b p) expects way (a ∷ acks) put given (freed ++ freed_by (Some p) (acked_on (differs a b) b p).packet)
acked_other b a p expects way acks put given freed e rest k =
    let other : differs a b ≡ true = ap (λ (v : Bool). differs v b) e ∙ differs_not b in
    let held : k.held ≡ p = let at = k.packet in cc in
    let P : Bool → Type 0 = λ d. Kept (acked_on d b p) expects way (a ∷ acks) put given (freed ++ freed_by (Some p) (acked_on d b p).packet) in
    subst P (sym other)
    (inl record {
      packet = refl;
      expected = k.expected;
      passing = AllHave-along b (not (not b)) way (sym (not-not b)) k.passing;
      returning = (e, rest);
      all_given = k.all_given;
      all_freed = sym (k.all_freed ∙ ap (λ (q : PacketFields). freed ++ q ∷ []) held);
    })

-- the sender takes an acknowledgement bit
pub kept_acked : (b : Bool) (packet : Option PacketFields) (a : Bool) (expects : Bool) (way : List Passing) (acks : List Bool) (put given freed : List PacketFields)
    → Kept (record { bit = b; packet = packet }) expects way (a ∷ acks) put given freed
    → Kept (acknowledged a (record { bit = b; packet = packet })) expects way (a ∷ acks) put given (freed ++ freed_by packet (acknowledged a (record { bit = b; packet = packet })).packet)
kept_acked b None a expects way acks put given freed k = kept_more_freed (record { bit = b; packet = None }) expects way (a ∷ acks) put given freed k
kept_acked b (Some p) a expects way acks put given freed (inl k) = let at = k.packet in cc
kept_acked b (Some p) a expects way acks put given freed (inr (inl k)) =
    acked_same b a p expects way (a ∷ acks) put given freed k.returning.0 (inr (inl k))
kept_acked b (Some p) a expects way acks put given freed (inr (inr k)) =
    elim k.returning [
      | inl h ↦ acked_same b a p expects way (a ∷ acks) put given freed h.0 (inr (inr k))
      | inr h ↦ acked_other b a p expects way acks put given freed h.0 h.1 k
    ]

-- a repeat changes nothing
came_again : (ch : Channel) (expects : Bool) (m : Bool × PacketFields) (way : List Passing) (acks : List Bool) (put given freed : List PacketFields)
    → differs m.0 expects ≡ true → Kept ch expects way acks put given freed
    → Kept ch (expected_by (Some m) expects) way acks put (given ++ given_by (Some m) expects) freed
came_again ch expects m way acks put given freed e k =
    let P : Bool → Type 0 = λ d. Kept ch (cond (not d) (not m.0) expects) way acks put (given ++ cond (not d) (m.1 ∷ []) []) freed in
    subst P (sym e) (kept_more_given ch expects way acks put given freed k)

-- the packet that waits is given
came_first : (ch : Channel) (expects : Bool) (m : Bool × PacketFields) (way : List Passing) (acks : List Bool) (put given freed : List PacketFields)
    → (k : IsWaiting ch expects (Some m ∷ way) acks put given freed) → m.0 ≡ ch.bit → m.1 ≡ k.held → AllThis ch.bit k.held way
    → Kept ch (expected_by (Some m) expects) (Some m ∷ way) acks put (given ++ given_by (Some m) expects) freed
came_first ch expects m way acks put given freed k bit packet rest =
    let same : differs m.0 expects ≡ false = ap (λ (v : Bool). differs m.0 v) (k.expected ∙ sym bit) ∙ same_differs m.0 in
    let P : Bool → Type 0 = λ d. Kept ch (cond (not d) (not m.0) expects) (Some m ∷ way) acks put (given ++ cond (not d) (m.1 ∷ []) []) freed in
    let this : given ++ m.1 ∷ [] ≡ given ++ k.held ∷ [] = ap (λ (q : PacketFields). given ++ q ∷ []) packet in
    subst P (sym same)
    (inr
    (inr record {
      held = k.held;
      packet = k.packet;
      expected = ap not bit;
      passing = (bit, AllHave-from_AllThis ch.bit k.held way rest);
      returning = Turns-from_AllAre_same ch.bit acks k.returning;
      all_given = this ∙ sym k.all_given;
      all_freed = this ∙ ap (λ (l : List PacketFields). l ++ k.held ∷ []) (sym k.all_freed);
    }))

-- the far end takes a frame
pub kept_came : (ch : Channel) (expects : Bool) (m : Passing) (way : List Passing) (acks : List Bool) (put given freed : List PacketFields)
    → Kept ch expects (m ∷ way) acks put given freed
    → Kept ch (expected_by m expects) (m ∷ way) acks put (given ++ given_by m expects) freed
kept_came ch expects None way acks put given freed k = kept_more_given ch expects (None ∷ way) acks put given freed k
kept_came ch expects (Some m) way acks put given freed (inl k) =
    came_again ch expects m (Some m ∷ way) acks put given freed (ap (λ (v : Bool). differs m.0 v) k.expected ∙ ap (λ (v : Bool). differs v ch.bit) k.passing.0 ∙ differs_not ch.bit) (inl k)
kept_came ch expects (Some m) way acks put given freed (inr (inl k)) =
    elim k.passing [
      | inl h ↦ came_again ch expects m (Some m ∷ way) acks put given freed (ap (λ (v : Bool). differs m.0 v) k.expected ∙ ap (λ (v : Bool). differs v ch.bit) h.0 ∙ differs_not ch.bit) (inr (inl k))
      | inr h ↦ came_first ch expects m way acks put given freed k h.0 h.1 h.2
    ]
kept_came ch expects (Some m) way acks put given freed (inr (inr k)) =
    came_again ch expects m (Some m ∷ way) acks put given freed (ap (λ (v : Bool). differs m.0 v) k.expected ∙ ap (λ (v : Bool). differs v (not ch.bit)) k.passing.0 ∙ differs_not_right ch.bit) (inr (inr k))

-- what the moments say of the packets put in, given and freed
pub kept_given : (ch : Channel) (expects : Bool) (way : List Passing) (acks : List Bool) (put given freed : List PacketFields)
    → Kept ch expects way acks put given freed → Begins given put
kept_given ch expects way acks put given freed (inl k) = record { rest = []; joined = append-nil given ∙ k.all_given }
kept_given ch expects way acks put given freed (inr (inl k)) = record { rest = k.held ∷ []; joined = sym k.all_given }
kept_given ch expects way acks put given freed (inr (inr k)) = record { rest = []; joined = append-nil given ∙ k.all_given }

pub kept_freed : (ch : Channel) (expects : Bool) (way : List Passing) (acks : List Bool) (put given freed : List PacketFields)
    → Kept ch expects way acks put given freed → Begins freed given
kept_freed ch expects way acks put given freed (inl k) = record { rest = []; joined = append-nil freed ∙ k.all_freed }
kept_freed ch expects way acks put given freed (inr (inl k)) = record { rest = []; joined = append-nil freed ∙ k.all_freed }
kept_freed ch expects way acks put given freed (inr (inr k)) = record { rest = k.held ∷ []; joined = sym k.all_freed }
