-- After a quiet round the pump would move nothing more in any IMP, whatever waited before.
use Rattle.subnet_trace.proofs.Common.{nat_tests, get_or_past, range_with_len, Host, Direction, PacketFields, vector_of, ChannelFault, Frame, Received, pump, Net, far_end, frames_on, imp_at, port_of, wire_at}
use Rattle.std.proofs.Common.{◌≡◌, ◌≤◌, ◌<◌, ◌==◌, ◌⊎◌, inl, inr, ℕ, zero, suc, ◌+◌, nat_lt, Bool, false, List, [], ◌∷◌, if◌then◌else◌, length, Option, Some, None, Result, Ok, slice_set, refl, sym, ap, ◌∙◌, subst, arith, true, slice_index_or}
use Rattle.imp_channel.specs.Line.{answer_to}
use Rattle.imp_node.specs.Arrival.{arrival, arrival_has_room, arrived, frame_taken, from_line, ignored, taken_frame, acknowledged, vector_heard}
use Rattle.imp_node.specs.Lines.{resend, resent_from, route, told_from}
use Rattle.imp_node.specs.State.{ImpTurn, State, port_at}
use Rattle.subnet.specs.Events.{all_refreshed, all_turns, at_imp, carried, deliver, delivered, drop_frame, quiet_round, refreshed, take_in, turn_of}
use Rattle.interface.specs.declared.event.Direction.TheVariants as way
use Rattle.imp_channel.specs.declared.line.Received.TheVariants as received
use Rattle.subnet_trace.proofs.Pump.{IsStill, pump_still}
use Rattle.subnet_trace.proofs.Rest.{not_some, some_is}

-- ---- one IMP

-- a frame is ignored, or the pump ends the call
line_still : (s : State) (k : ℕ) (f : Frame) → IsStill s → IsStill (from_line s k f).state
line_still s k f h = by_up _ where
  by_room : (p : PacketFields) (b : Bool) → IsStill (if b then pump (acknowledged k (frame_taken k f s)) (arrived (arrival s p) p (frame_taken k f s)) else ignored s).state
  by_room p true = pump_still (acknowledged k (frame_taken k f s)) (arrived (arrival s p) p (frame_taken k f s))
  by_room p false = h

  by_answer : (r : Result Received ChannelFault) → IsStill (taken_frame r k f s).state
  by_answer (Ok (received.Fresh p)) = by_room p (arrival_has_room (arrival s p) s p)
  by_answer (Ok received.Repeat) = pump_still (acknowledged k (frame_taken k f s)) (frame_taken k f s)
  by_answer (Ok received.AckOnly) = pump_still [] (frame_taken k f s)
  by_answer (Ok (received.Routes distances)) = pump_still [] (vector_heard k distances (frame_taken k f s))
  by_answer _ = h

  by_up : (b : Bool) → IsStill (if b then taken_frame (answer_to (port_at s.ports k).line f) k f s else ignored s).state
  by_up true = by_answer (answer_to (port_at s.ports k).line f)
  by_up false = h

-- ---- all IMPs

-- what is found at a place after one was set: the new one there, or what was there
pub set_at : {A : Type 0} (xs : List A) (i j : ℕ) (x d : A) → ((j ≡ i) × (slice_index_or (slice_set xs i x) j d ≡ x)) ⊎ (slice_index_or (slice_set xs i x) j d ≡ slice_index_or xs j d)
set_at [] i j x d = inr refl
set_at (y ∷ xs) zero zero x d = inl (refl, refl)
set_at (y ∷ xs) zero (suc j) x d = inr refl
set_at (y ∷ xs) (suc i) zero x d = inr refl
set_at (y ∷ xs) (suc i) (suc j) x d = more (set_at xs i j x d) where
  more : ((j ≡ i) × (slice_index_or (slice_set xs i x) j d ≡ x)) ⊎ (slice_index_or (slice_set xs i x) j d ≡ slice_index_or xs j d)
      → ((suc j ≡ suc i) × (slice_index_or (slice_set xs i x) j d ≡ x)) ⊎ (slice_index_or (slice_set xs i x) j d ≡ slice_index_or xs j d)
  more (inl is) = inl (ap suc is.0, is.1)
  more (inr is) = inr is

-- where an IMP is up, another one can be set in its place
set_here : {A : Type 0} (xs : List (Option A)) (i : ℕ) (x : A) (o : Option A) → slice_index_or xs i None ≡ Some x → slice_index_or (slice_set xs i o) i None ≡ o
set_here [] i x o up = absurd (not_some up)
set_here (y ∷ xs) zero x o up = refl
set_here (y ∷ xs) (suc i) x o up = set_here xs i x o up

-- the IMP of this number, if it is up, has nothing to move
abbrev pub IsSettledAt : Net → ℕ → Type 0
IsSettledAt n j = (s : State) → imp_at n.imps j ≡ Some s → IsStill s

-- a call keeps that
at_settled : (n : Net) (i : ℕ) (call : State → ImpTurn) → ((s : State) → IsStill s → IsStill (call s).state) → (j : ℕ) → IsSettledAt n j → IsSettledAt (at_imp (imp_at n.imps i) i call n) j
at_settled n i call each j h = by (imp_at n.imps i) refl where
  by : (o : Option State) → imp_at n.imps i ≡ o → IsSettledAt (at_imp o i call n) j
  by None down = h
  by (Some s) up = λ t is. found t is (set_at n.imps i j _ None) where
    found : (t : State) → imp_at (slice_set n.imps i (Some (call s).state)) j ≡ Some t
        → ((j ≡ i) × (imp_at (slice_set n.imps i (Some (call s).state)) j ≡ Some (call s).state)) ⊎ (imp_at (slice_set n.imps i (Some (call s).state)) j ≡ imp_at n.imps j) → IsStill t
    found t is (inl here) = subst IsStill (some_is (sym here.1 ∙ is)) (each s (h s (ap (imp_at n.imps) here.0 ∙ up)))
    found t is (inr same) = h t (sym same ∙ is)

-- and one that ends with the pump makes it so
at_settles : (n : Net) (i : ℕ) (call : State → ImpTurn) → ((s : State) → IsStill (call s).state) → IsSettledAt (at_imp (imp_at n.imps i) i call n) i
at_settles n i call each = by (imp_at n.imps i) refl where
  by : (o : Option State) → imp_at n.imps i ≡ o → IsSettledAt (at_imp o i call n) i
  by None down = λ t is. absurd (not_some (sym down ∙ is))
  by (Some s) up = λ t is. subst IsStill (some_is (sym (set_here n.imps i s _ up) ∙ is)) (each s)

-- ---- sending distances and sending again

route_still : (s : State) → IsStill (route s).state
route_still s = pump_still (told_from (vector_of s.routes) 0 s.ports) s

resend_still : (s : State) → IsStill (resend s).state
resend_still s = pump_still (resent_from 0 s.ports) s

refreshed_settled : (n : Net) (i j : ℕ) → IsSettledAt n j → IsSettledAt (refreshed n i) j
refreshed_settled n i j h =
    let told : Net = at_imp (imp_at n.imps i) i route n in
    at_settled told i resend (λ s still. resend_still s) j (at_settled n i route (λ s still. route_still s) j h)

refreshed_settles : (n : Net) (i : ℕ) → IsSettledAt (refreshed n i) i
refreshed_settles n i =
    let told : Net = at_imp (imp_at n.imps i) i route n in
    at_settles told i resend resend_still

all_settled : (numbers : List ℕ) (n : Net) (j : ℕ) → IsSettledAt n j → IsSettledAt (all_refreshed numbers n) j
all_settled [] n j h = h
all_settled (i ∷ numbers) n j h = all_settled numbers (refreshed n i) j (refreshed_settled n i j h)

range_settles : (a count : ℕ) (n : Net) (j : ℕ) → a ≤ j → j < a + count → IsSettledAt (all_refreshed (range_with_len a count) n) j
range_settles a zero n j low high = absurd (omega (arith, low, high))
range_settles a (suc count) n j low high = by (λ m next. range_settles (a + 1) count m j next (omega (arith, high))) (j == a) refl where
  by : ((m : Net) → a + 1 ≤ j → IsSettledAt (all_refreshed (range_with_len (a + 1) count) m) j) → (b : Bool) → (j == a) ≡ b → IsSettledAt (all_refreshed (range_with_len (a + 1) count) (refreshed n a)) j
  by more true e =
      let same : j ≡ a = grind (arith, nat_tests, e) in
      all_settled (range_with_len (a + 1) count) (refreshed n a) j (subst (λ (k : ℕ). IsSettledAt (refreshed n a) k) (sym same) (refreshed_settles n a))
  by more false e = more (refreshed n a) (grind (arith, nat_tests, e, low))

every_settles : (n : Net) (j : ℕ) → IsSettledAt (all_refreshed (range_with_len 0 (length n.imps)) n) j
every_settles n j = by (nat_lt j (length n.imps)) refl where
  by : (b : Bool) → nat_lt j (length n.imps) ≡ b → IsSettledAt (all_refreshed (range_with_len 0 (length n.imps)) n) j
  by true e = let low : 0 ≤ j = omega arith in let high : j < 0 + length n.imps = grind (arith, nat_tests, e) in range_settles 0 (length n.imps) n j low high
  by false e =
      let past : length n.imps ≤ j = grind (arith, nat_tests, e) in
      all_settled (range_with_len 0 (length n.imps)) n j (λ s is. absurd (not_some (sym (get_or_past n.imps j None past) ∙ is)))

-- ---- lines, and hosts

delivered_settled : (n : Net) (l : ℕ) (d : Direction) (o : Option Frame) (j : ℕ) → IsSettledAt n j → IsSettledAt (delivered n l d o) j
delivered_settled n l d None j h = h
delivered_settled n l d (Some f) j h =
    let i : ℕ = far_end d _ in
    at_settled n i _ (λ s still. line_still s (port_of n.lines i l) f still) j h

carried_settled : (count l : ℕ) (d : Direction) (n : Net) (j : ℕ) → IsSettledAt n j → IsSettledAt (carried count l d n) j
carried_settled zero l d n j h = h
carried_settled (suc count) l d n j h = carried_settled count l d (drop_frame (deliver n l d 0) l d 0) j (delivered_settled n l d _ j h)

turns_settled : (lines : List ℕ) (n : Net) (j : ℕ) → IsSettledAt n j → IsSettledAt (all_turns lines n) j
turns_settled [] n j h = h
turns_settled (l ∷ lines) n j h =
    let there : Net = turn_of l way.Forward n in
    turns_settled lines (turn_of l way.Back there) j
    (carried_settled (length (frames_on way.Back (wire_at there.lines l))) l way.Back there j (carried_settled (length (frames_on way.Forward (wire_at n.lines l))) l way.Forward n j h))

-- no IMP that is up has anything to move
abbrev pub IsSettled : Net → Type 0
IsSettled n = (j : ℕ) → IsSettledAt n j

pub quiet_settled : (n : Net) → IsSettled (quiet_round n)
quiet_settled n = λ j. turns_settled (range_with_len 0 (length n.lines)) (all_refreshed (range_with_len 0 (length n.imps)) n) j (every_settles n j)

pub take_settled : (n : Net) (h : Host) → IsSettled n → IsSettled (take_in n h)
take_settled n h settled = λ j. at_settled n h.imp _ (λ s still. pump_still [] _) j (settled j)
