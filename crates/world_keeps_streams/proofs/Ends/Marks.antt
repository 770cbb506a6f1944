-- A life's stage by what is said and heard of its two sockets, beside the end that the law of pairing has there.
use Rattle.world_keeps_streams.proofs.Common.{◌≡◌, ℕ, ◌==◌, ◌&&◌, ◌||◌, Bool, true, false, if◌then◌else◌, List, [], ◌∷◌, ◌++◌, map, refl, ap, sym, ◌∙◌, Legal, Order, Wrong, Command, Ask, Close, Mark, or_nothing}
use Rattle.host_keeps_pairing.specs.Words.{mark_in, mark_of, marks, marks_in}
use Rattle.net_sim.specs.Projection.{AllPlain, ArePlain, is_rrp, is_rst}
use Rattle.promise.specs.Ends.{Asking, Course, Going, Over, Stage, each, ended_by, heard, own_asked, own_closed, own_step, partner_asked, partner_closed, partner_step, said, Closed, is_half}
use Rattle.ncp_control.specs.declared.command.Command.TheVariants as command
use Rattle.promise.specs.declared.life.Life.{Life}

pub never : {A : Type 0} → true ≡ false → A
never e = absurd (let no : true ≡ false = e in cc)

-- ---- requests at one place

abbrev pub AllHere : ℕ → List Mark → Type 0
AllHere place [] = Unit {0}
AllHere place (Ask p ∷ ms) = (p ≡ place) × AllHere place ms
AllHere place (Close ∷ ms) = AllHere place ms

here_both : (place : ℕ) (ms ns : List Mark) → AllHere place ms → AllHere place ns → AllHere place (ms ++ ns)
here_both place [] ns h k = k
here_both place (Ask p ∷ ms) ns h k = (h.0, here_both place ms ns h.1 k)
here_both place (Close ∷ ms) ns h k = here_both place ms ns h k

ask_here : (place : ℕ) (v : Bool) → AllHere place (if v then Ask place ∷ [] else [])
ask_here place true = (refl, tt)
ask_here place false = tt

close_here : (place : ℕ) (v : Bool) → AllHere place (if v then Close ∷ [] else [])
close_here place true = tt
close_here place false = tt

mark_here : (place own foreign : ℕ) (c : Command) → AllHere place (mark_of place own foreign c)
mark_here place own foreign (command.Rts r n l) = ask_here place _
mark_here place own foreign (command.Str n r size) = ask_here place _
mark_here place own foreign (command.Cls a b) = close_here place _
mark_here place own foreign c = tt

pub marks_here : (place own foreign : ℕ) (cs : List Command) → AllHere place (marks place own foreign cs)
marks_here place own foreign [] = tt
marks_here place own foreign (c ∷ cs) = here_both place (mark_of place own foreign c) (marks place own foreign cs) (mark_here place own foreign c) (marks_here place own foreign cs)

order_here : (place own foreign : ℕ) (o : Order) → AllHere place (mark_in place own foreign o)
order_here place own foreign (Legal c) = mark_here place own foreign c
order_here place own foreign (Wrong code octets) = tt

pub orders_here : (place own foreign : ℕ) (os : List Order) → AllHere place (marks_in place own foreign os)
orders_here place own foreign [] = tt
orders_here place own foreign (o ∷ os) = here_both place (mark_in place own foreign o) (marks_in place own foreign os) (order_here place own foreign o) (orders_here place own foreign os)

-- ---- no CLS, and one request at most

abbrev pub NoClose : List Mark → Type 0
NoClose [] = Unit {0}
NoClose (Ask p ∷ ms) = NoClose ms
NoClose (Close ∷ ms) = ⊥

abbrev pub NoAsk : List Mark → Type 0
NoAsk [] = Unit {0}
NoAsk (Ask p ∷ ms) = ⊥
NoAsk (Close ∷ ms) = NoAsk ms

abbrev pub AskOnce : List Mark → Type 0
AskOnce [] = Unit {0}
AskOnce (Ask p ∷ ms) = NoAsk ms
AskOnce (Close ∷ ms) = AskOnce ms

or_three : (u v w : Bool) → (u || (v || w)) ≡ ((u || v) || w)
or_three true v w = refl
or_three false v w = refl

abbrev pub is_asking : Stage → Bool
is_asking (Asking own partner) = true
is_asking s = false

pub not_half : (s : Stage) → is_asking s ≡ false → is_half s ≡ false
not_half (Asking o p) g = never g
not_half (Going o p) g = refl
not_half (Over c n) g = refl

-- ---- the stage by marks

module _ (x : Life) (place : ℕ) where
  abbrev pub own_mark : Mark → Stage → Stage
  own_mark (Ask p) s = if place == x.own_stamp then own_asked s else s
  own_mark Close s = own_closed place s

  abbrev pub own_marks : List Mark → Stage → Stage
  own_marks [] s = s
  own_marks (m ∷ ms) s = own_marks ms (own_mark m s)

  abbrev pub partner_mark : Mark → Stage → Stage
  partner_mark (Ask p) s = if place == x.partner_stamp then partner_asked s else s
  partner_mark Close s = partner_closed place s

  abbrev pub partner_marks : List Mark → Stage → Stage
  partner_marks [] s = s
  partner_marks (m ∷ ms) s = partner_marks ms (partner_mark m s)

  own_append : (ms ns : List Mark) (s : Stage) → own_marks (ms ++ ns) s ≡ own_marks ns (own_marks ms s)
  own_append [] ns s = refl
  own_append (m ∷ ms) ns s = own_append ms ns (own_mark m s)

  partner_append : (ms ns : List Mark) (s : Stage) → partner_marks (ms ++ ns) s ≡ partner_marks ns (partner_marks ms s)
  partner_append [] ns s = refl
  partner_append (m ∷ ms) ns s = partner_append ms ns (partner_mark m s)

  own_ask : (v w : Bool) (k : Course) → (if v && w then record k { stage = own_asked k.stage } else k).stage ≡ (if v then (if w then own_asked k.stage else k.stage) else k.stage)
  own_ask true true k = refl
  own_ask true false k = refl
  own_ask false w k = refl

  own_ask_marks : (v : Bool) (s : Stage) → (if v then (if place == x.own_stamp then own_asked s else s) else s) ≡ own_marks (if v then Ask place ∷ [] else []) s
  own_ask_marks true s = refl
  own_ask_marks false s = refl

  own_close : (v : Bool) (k : Course) → (if v then ended_by (own_closed place) k else k).stage ≡ own_marks (if v then Close ∷ [] else []) k.stage
  own_close true k = refl
  own_close false k = refl

  own_stage : (c : Command) (k : Course) → (own_step x place c k).stage ≡ own_marks (mark_of place x.socket x.foreign c) k.stage
  own_stage (command.Rts r n l) k = own_ask _ _ k ∙ own_ask_marks _ k.stage
  own_stage (command.Str n r size) k = own_ask _ _ k ∙ own_ask_marks _ k.stage
  own_stage (command.Cls a b) k = own_close _ k
  own_stage c k = refl

  partner_ask : (v w : Bool) (k : Course) → (if v && w then record k { stage = partner_asked k.stage } else k).stage ≡ (if v then (if w then partner_asked k.stage else k.stage) else k.stage)
  partner_ask true true k = refl
  partner_ask true false k = refl
  partner_ask false w k = refl

  partner_ask_marks : (v : Bool) (s : Stage) → (if v then (if place == x.partner_stamp then partner_asked s else s) else s) ≡ partner_marks (if v then Ask place ∷ [] else []) s
  partner_ask_marks true s = refl
  partner_ask_marks false s = refl

  partner_close : (v : Bool) (k : Course) → (if v then ended_by (partner_closed place) k else k).stage ≡ partner_marks (if v then Close ∷ [] else []) k.stage
  partner_close true k = refl
  partner_close false k = refl

  partner_stage : (c : Command) (k : Course) → (partner_step x place c k).stage ≡ partner_marks (mark_of place x.foreign x.socket c) k.stage
  partner_stage (command.Rts r n l) k = partner_ask _ _ k ∙ partner_ask_marks _ k.stage
  partner_stage (command.Str n r size) k = partner_ask _ _ k ∙ partner_ask_marks _ k.stage
  partner_stage (command.Cls a b) k = partner_close _ k
  partner_stage c k = refl

  pub said_plain : (c : Command) (k : Course) → is_rst c ≡ false → is_rrp c ≡ false → said x place c k ≡ own_step x place c k
  said_plain command.Rst k e f = never e
  said_plain command.Rrp k e f = never f
  said_plain c k e f = refl

  pub heard_plain : (c : Command) (k : Course) → is_rst c ≡ false → heard x place c k ≡ partner_step x place c k
  heard_plain command.Rst k e = never e
  heard_plain c k e = refl

  -- what goes out: commands of a queue
  pub all_said : (cs : List Command) (k : Course) → ArePlain cs → (each (said x place) (map Legal cs) k).stage ≡ own_marks (marks place x.socket x.foreign cs) k.stage
  all_said [] k h = refl
  all_said (c ∷ cs) k h =
      all_said cs (said x place c k) h.1
      ∙ ap (λ (s : Stage). own_marks (marks place x.socket x.foreign cs) s) (ap (λ (j : Course). j.stage) (said_plain c k h.0.0 h.0.1) ∙ own_stage c k)
      ∙ sym (own_append (mark_of place x.socket x.foreign c) (marks place x.socket x.foreign cs) k.stage)

  -- what comes in: orders without RST and RRP
  pub all_heard : (os : List Order) (k : Course) → AllPlain os → (each (heard x place) os k).stage ≡ partner_marks (marks_in place x.foreign x.socket os) k.stage
  all_heard [] k h = refl
  all_heard (Legal c ∷ os) k h =
      all_heard os (heard x place c k) h.1
      ∙ ap (λ (s : Stage). partner_marks (marks_in place x.foreign x.socket os) s) (ap (λ (j : Course). j.stage) (heard_plain c k h.0.0) ∙ partner_stage c k)
      ∙ sym (partner_append (mark_of place x.foreign x.socket c) (marks_in place x.foreign x.socket os) k.stage)
  all_heard (Wrong code octets ∷ os) k h = all_heard os k h.1

  -- ---- a CLS that comes between the two requests

  abbrev pub own_early : List Mark → Stage → Bool
  own_early [] s = false
  own_early (Ask p ∷ ms) s = own_early ms (own_mark (Ask p) s)
  own_early (Close ∷ ms) s = is_half s || own_early ms (own_closed place s)

  abbrev pub partner_early : List Mark → Stage → Bool
  partner_early [] s = false
  partner_early (Ask p ∷ ms) s = partner_early ms (partner_mark (Ask p) s)
  partner_early (Close ∷ ms) s = is_half s || partner_early ms (partner_closed place s)

  own_early_append : (ms ns : List Mark) (s : Stage) → own_early (ms ++ ns) s ≡
      (own_early ms s || own_early ns (own_marks ms s))
  own_early_append [] ns s = refl
  own_early_append (Ask p ∷ ms) ns s = own_early_append ms ns (own_mark (Ask p) s)
  own_early_append (Close ∷ ms) ns s =
      ap (λ (v : Bool). is_half s || v) (own_early_append ms ns (own_closed place s))
      ∙ or_three (is_half s) (own_early ms (own_closed place s)) (own_early ns (own_marks ms (own_closed place s)))

  partner_early_append : (ms ns : List Mark) (s : Stage) → partner_early (ms ++ ns) s ≡
      (partner_early ms s || partner_early ns (partner_marks ms s))
  partner_early_append [] ns s = refl
  partner_early_append (Ask p ∷ ms) ns s = partner_early_append ms ns (partner_mark (Ask p) s)
  partner_early_append (Close ∷ ms) ns s =
      ap (λ (v : Bool). is_half s || v) (partner_early_append ms ns (partner_closed place s))
      ∙ or_three (is_half s) (partner_early ms (partner_closed place s))
      (partner_early ns (partner_marks ms (partner_closed place s)))

  own_ask_early : (v w : Bool) (k : Course) → (if v && w then record k { stage = own_asked k.stage } else k).early ≡
      (k.early || own_early (if v then Ask place ∷ [] else []) k.stage)
  own_ask_early true true k = sym (or_nothing k.early)
  own_ask_early true false k = sym (or_nothing k.early)
  own_ask_early false w k = sym (or_nothing k.early)

  own_close_early : (v : Bool) (k : Course) → (if v then ended_by (own_closed place) k else k).early ≡
      (k.early || own_early (if v then Close ∷ [] else []) k.stage)
  own_close_early true k = ap (λ (v : Bool). k.early || v) (sym (or_nothing _))
  own_close_early false k = sym (or_nothing k.early)

  own_step_early : (c : Command) (k : Course) → (own_step x place c k).early ≡
      (k.early || own_early (mark_of place x.socket x.foreign c) k.stage)
  own_step_early (command.Rts r n l) k = own_ask_early _ _ k
  own_step_early (command.Str n r size) k = own_ask_early _ _ k
  own_step_early (command.Cls a b) k = own_close_early _ k
  own_step_early c k = sym (or_nothing k.early)

  partner_ask_early : (v w : Bool) (k : Course)
      → (if v && w then record k { stage = partner_asked k.stage } else k).early ≡
      (k.early || partner_early (if v then Ask place ∷ [] else []) k.stage)
  partner_ask_early true true k = sym (or_nothing k.early)
  partner_ask_early true false k = sym (or_nothing k.early)
  partner_ask_early false w k = sym (or_nothing k.early)

  partner_close_early : (v : Bool) (k : Course) → (if v then ended_by (partner_closed place) k else k).early ≡
      (k.early || partner_early (if v then Close ∷ [] else []) k.stage)
  partner_close_early true k = ap (λ (v : Bool). k.early || v) (sym (or_nothing _))
  partner_close_early false k = sym (or_nothing k.early)

  partner_step_early : (c : Command) (k : Course) → (partner_step x place c k).early ≡
      (k.early || partner_early (mark_of place x.foreign x.socket c) k.stage)
  partner_step_early (command.Rts r n l) k =
      partner_ask_early _ _ k
  partner_step_early (command.Str n r size) k =
      partner_ask_early _ _ k
  partner_step_early (command.Cls a b) k = partner_close_early _ k
  partner_step_early c k = sym (or_nothing k.early)

  pub all_said_early : (cs : List Command) (k : Course) → ArePlain cs → (each (said x place) (map Legal cs) k).early ≡
      (k.early || own_early (marks place x.socket x.foreign cs) k.stage)
  all_said_early [] k h = sym (or_nothing k.early)
  all_said_early (c ∷ cs) k h =
      all_said_early cs (said x place c k) h.1
      ∙ ap (λ (j : Course). j.early || own_early (marks place x.socket x.foreign cs) j.stage)
      (said_plain c k h.0.0 h.0.1)
      ∙ ap (λ (v : Bool). v || own_early (marks place x.socket x.foreign cs) (own_step x place c k).stage)
      (own_step_early c k)
      ∙ ap (λ (s : Stage). (k.early || own_early (mark_of place x.socket x.foreign c) k.stage) || own_early
      (marks place x.socket x.foreign cs) s) (own_stage c k)
      ∙ sym (or_three k.early (own_early (mark_of place x.socket x.foreign c) k.stage)
      (own_early (marks place x.socket x.foreign cs) (own_marks (mark_of place x.socket x.foreign c) k.stage)))
      ∙ ap (λ (v : Bool). k.early || v) (sym (own_early_append (mark_of place x.socket x.foreign c)
      (marks place x.socket x.foreign cs) k.stage))

  pub all_heard_early : (os : List Order) (k : Course) → AllPlain os → (each (heard x place) os k).early ≡
      (k.early || partner_early (marks_in place x.foreign x.socket os) k.stage)
  all_heard_early [] k h = sym (or_nothing k.early)
  all_heard_early (Legal c ∷ os) k h =
      all_heard_early os (heard x place c k) h.1
      ∙ ap (λ (j : Course). j.early || partner_early (marks_in place x.foreign x.socket os) j.stage)
      (heard_plain c k h.0.0)
      ∙ ap (λ (v : Bool). v || partner_early (marks_in place x.foreign x.socket os) (partner_step x place c k).stage)
      (partner_step_early c k)
      ∙ ap (λ (s : Stage). (k.early || partner_early (mark_of place x.foreign x.socket c) k.stage) || partner_early
      (marks_in place x.foreign x.socket os) s) (partner_stage c k)
      ∙ sym (or_three k.early (partner_early (mark_of place x.foreign x.socket c) k.stage)
      (partner_early (marks_in place x.foreign x.socket os) (partner_marks
      (mark_of place x.foreign x.socket c) k.stage)))
      ∙ ap (λ (v : Bool). k.early || v) (sym (partner_early_append (mark_of place x.foreign x.socket c)
      (marks_in place x.foreign x.socket os) k.stage))
  all_heard_early (Wrong code octets ∷ os) k h = all_heard_early os k h.1

  -- none is early once it has begun
  pub begun_own : (v : Bool) (s : Stage) → is_asking s ≡ false → is_asking (if v then own_asked s else s) ≡ false
  begun_own true (Asking o p) g = never g
  begun_own true (Going o p) g = refl
  begun_own true (Over c n) g = refl
  begun_own false s g = g

  pub begun_own_closed : (s : Stage) → is_asking s ≡ false → is_asking (own_closed place s) ≡ false
  begun_own_closed (Asking o p) g = never g
  begun_own_closed (Going o true) g = refl
  begun_own_closed (Going o false) g = refl
  begun_own_closed (Over c n) g = refl

  pub begun_partner : (v : Bool) (s : Stage) → is_asking s ≡ false → is_asking
      (if v then partner_asked s else s) ≡ false
  begun_partner true (Asking o p) g = never g
  begun_partner true (Going o p) g = refl
  begun_partner true (Over c n) g = refl
  begun_partner false s g = g

  pub begun_partner_closed : (s : Stage) → is_asking s ≡ false → is_asking (partner_closed place s) ≡ false
  begun_partner_closed (Asking o p) g = never g
  begun_partner_closed (Going true p) g = refl
  begun_partner_closed (Going false p) g = refl
  begun_partner_closed (Over c n) g = refl

  pub own_early_begun : (ms : List Mark) (s : Stage) → is_asking s ≡ false → own_early ms s ≡ false
  own_early_begun [] s g = refl
  own_early_begun (Ask p ∷ ms) s g = own_early_begun ms (own_mark (Ask p) s) (begun_own _ s g)
  own_early_begun (Close ∷ ms) s g =
      ap (λ (v : Bool). v || own_early ms (own_closed place s)) (not_half s g)
      ∙ own_early_begun ms (own_closed place s) (begun_own_closed s g)

  pub partner_early_begun : (ms : List Mark) (s : Stage) → is_asking s ≡ false → partner_early ms s ≡ false
  partner_early_begun [] s g = refl
  partner_early_begun (Ask p ∷ ms) s g =
      partner_early_begun ms (partner_mark (Ask p) s) (begun_partner _ s g)
  partner_early_begun (Close ∷ ms) s g =
      ap (λ (v : Bool). v || partner_early ms (partner_closed place s)) (not_half s g)
      ∙ partner_early_begun ms (partner_closed place s) (begun_partner_closed s g)

  -- ---- over by CLS

  pub over_said : (ms : List Mark) (b : Bool) → own_marks ms (Over (Closed b) place) ≡ Over (Closed b) place
  over_said [] b = refl
  over_said (Ask p ∷ ms) b = ap (λ (s : Stage). own_marks ms s) (same_if _) ∙ over_said ms b where
    same_if : (v : Bool) → (if v then Over (Closed b) place else Over (Closed b) place) ≡ Over (Closed b) place
    same_if true = refl
    same_if false = refl
  over_said (Close ∷ ms) b = over_said ms b

  pub over_heard : (ms : List Mark) (b : Bool) → partner_marks ms (Over (Closed b) place) ≡ Over (Closed b) place
  over_heard [] b = refl
  over_heard (Ask p ∷ ms) b = ap (λ (s : Stage). partner_marks ms s) (same_if _) ∙ over_heard ms b where
    same_if : (v : Bool) → (if v then Over (Closed b) place else Over (Closed b) place) ≡ Over (Closed b) place
    same_if true = refl
    same_if false = refl
  over_heard (Close ∷ ms) b = over_heard ms b
