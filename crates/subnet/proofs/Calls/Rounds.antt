-- A quiet round: distances are sent, packets sent again, and frames delivered and dropped. What these four keep, it keeps.
use Rattle.subnet.proofs.Common.{ℕ, zero, suc, List, [], ◌∷◌, length, range_with_len, Direction, Net, imp_at, wire_at, frames_on, IsSound}
use Rattle.interface.specs.declared.event.Direction.TheVariants as way
use Rattle.imp_node.specs.Lines.{resend, route}
use Rattle.subnet.specs.Events.{at_imp, deliver, drop_frame, refreshed, all_refreshed, carried, turn_of, all_turns, quiet_round}
use Rattle.subnet.proofs.Moves.Deliveries.{deliver_sound}
use Rattle.subnet.proofs.Moves.QuietCalls.{drop_sound, resend_sound, route_sound}

pub record Keeps (P : Net → Type 0) : Type 0 where
  pub route : (n : Net) (i : ℕ) → P n → P (at_imp (imp_at n.imps i) i route n)
  pub resend : (n : Net) (i : ℕ) → P n → P (at_imp (imp_at n.imps i) i resend n)
  pub deliver : (n : Net) (l : ℕ) (d : Direction) (k : ℕ) → P n → P (deliver n l d k)
  pub drop : (n : Net) (l : ℕ) (d : Direction) (k : ℕ) → P n → P (drop_frame n l d k)

refreshed_keeps : (P : Net → Type 0) → Keeps P → (n : Net) (i : ℕ) → P n → P (refreshed n i)
refreshed_keeps P keeps n i is = keeps.resend (at_imp (imp_at n.imps i) i route n) i (keeps.route n i is)

all_refreshed_keeps : (P : Net → Type 0) → Keeps P → (numbers : List ℕ) (n : Net) → P n → P (all_refreshed numbers n)
all_refreshed_keeps P keeps [] n is = is
all_refreshed_keeps P keeps (i ∷ numbers) n is = all_refreshed_keeps P keeps numbers (refreshed n i) (refreshed_keeps P keeps n i is)

carried_keeps : (P : Net → Type 0) → Keeps P → (count l : ℕ) (d : Direction) (n : Net) → P n → P (carried count l d n)
carried_keeps P keeps zero l d n is = is
carried_keeps P keeps (suc count) l d n is = carried_keeps P keeps count l d (drop_frame (deliver n l d 0) l d 0) (keeps.drop (deliver n l d 0) l d 0 (keeps.deliver n l d 0 is))

turn_keeps : (P : Net → Type 0) → Keeps P → (l : ℕ) (d : Direction) (n : Net) → P n → P (turn_of l d n)
turn_keeps P keeps l d n is = carried_keeps P keeps (length (frames_on d (wire_at n.lines l))) l d n is

all_turns_keep : (P : Net → Type 0) → Keeps P → (lines : List ℕ) (n : Net) → P n → P (all_turns lines n)
all_turns_keep P keeps [] n is = is
all_turns_keep P keeps (l ∷ lines) n is =
    all_turns_keep P keeps lines (turn_of l way.Back (turn_of l way.Forward n)) (turn_keeps P keeps l way.Back _ (turn_keeps P keeps l way.Forward n is))

pub round_keeps : (P : Net → Type 0) → Keeps P → (n : Net) → P n → P (quiet_round n)
round_keeps P keeps n is =
    all_turns_keep P keeps (range_with_len 0 (length n.lines)) _
    (all_refreshed_keeps P keeps (range_with_len 0 (length n.imps)) n is)

pub quiet_round_sound : (n : Net) → IsSound n → IsSound (quiet_round n)
quiet_round_sound n is = round_keeps IsSound (record { route = route_sound; resend = resend_sound; deliver = deliver_sound; drop = drop_sound }) n is
