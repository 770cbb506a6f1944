-- A life whose host stops, second lives of a host with its peer, and one with another: words for worked examples.
use Rattle.std.specs.Prelude.{◌≡◌, Bool, true, false, List, [], ◌∷◌}
use Rattle.interface.specs.Host.{Host}
use Rattle.interface.specs.declared.crossing.Crossing.{Crossing}
use Rattle.interface.specs.declared.crossing.Crossing.TheVariants as crossing
use Rattle.net_sim.specs.Timeline.{crossings_of}
use Rattle.interface.specs.declared.message.HostMessage.{HostMessage}
use Rattle.net_sim.specs.WorkedMoments.{bits_sent, eight_sent, rts, str}
use Rattle.net_sim.specs.WorkedResets.{rst}
use Rattle.host_pairs.specs.Control.{control_text}
use Rattle.promise.specs.Safe.{control_flow}
use Rattle.promise.specs.declared.life.Amount.{Amount}
use Rattle.promise.specs.declared.life.Life.{Life}
use Rattle.world_keeps_lives.specs.WorkedFormed.{close_taken, gave, sent_log, took}
use Rattle.book_judge.specs.Toward.{IsToward, UntowardAt}

-- eight bits come in for its host after that has stopped
abbrev pub stopped_log : List Crossing
stopped_log = crossing.In eight_sent ∷ crossing.Down took.host ∷ crossings_of bits_sent

-- its own request goes out at place 0, and its partner's comes in at place 2
abbrev pub late_answer : Life
late_answer = record took { own_stamp = 0; partner_stamp = 2 }

-- it has taken nothing
abbrev pub took_nothing : Life
took_nothing = record took { messages = 0; bits = [] }

-- none of its requests crosses
abbrev pub unasked : Life
unasked = record took { own_stamp = 99; partner_stamp = 99 }

-- a third host
abbrev pub third : Host
third = record { imp = 3; host = 0 }

-- its host asks that, too, which answers: the request goes out at place 17, and the other comes in at place 18
abbrev pub third_log : List Crossing
third_log =
    crossing.In (record str { flow = control_flow third took.host }) ∷
    crossing.Out (record rts { flow = control_flow took.host third }) ∷ sent_log

abbrev pub took_from_third : Life
took_from_third = record took_nothing { peer = third; own_stamp = 17; partner_stamp = 18 }

-- ---- after a stop, or both CLS

abbrev pub down_log : List Crossing
down_log = crossing.Down took.host ∷ sent_log

abbrev pub third_down_log : List Crossing
third_down_log = crossing.Down took.host ∷ third_log

-- the first host's CLS goes out at place 17, and the second's comes in at place 18
abbrev pub close_back : HostMessage
close_back = record {
  flow = control_flow took.peer took.host;
  text = control_text (3 ∷ 0 ∷ 0 ∷ 0 ∷ 33 ∷ 0 ∷ 0 ∷ 0 ∷ 16 ∷ []);
}

abbrev pub closed_log : List Crossing
closed_log = crossing.In close_back ∷ crossing.Out close_taken ∷ sent_log

-- then the same is asked and answered again
abbrev pub again_log : List Crossing
again_log = crossing.In str ∷ crossing.Out rts ∷ closed_log

abbrev pub took_again : Life
took_again = record took_nothing { own_stamp = 19; partner_stamp = 20 }

-- after an RST of the first host
abbrev pub reset_log : List Crossing
reset_log = crossing.In str ∷ crossing.Out rts ∷ crossing.Out (rst took.host took.peer) ∷ closed_log

abbrev pub took_after : Life
took_after = record took_nothing { own_stamp = 20; partner_stamp = 21 }

-- ---- toward a stranger

-- it took two bits in one message, where this was granted, and nothing was given back
abbrev pub took_two : Amount → Life
took_two granted = record took { messages = 1; bits = true ∷ false ∷ []; granted = granted; returned = record { messages = 0; bits = 0 } }

-- it sent these bits
abbrev pub gave_these : List Bool → Life
gave_these bits = record gave { bits = bits }

-- this host runs a program, and this one doesn't
abbrev pub AreApart : (Host → Bool) → Host → Host → Type 0
AreApart strange own peer = (strange own ≡ false) × (strange peer ≡ true)

-- where these were handed over at such a host it may have sent these bits to such a peer, or may not
abbrev pub MaySend : List Bool → List Bool → Type 0
MaySend text bits = (strange : Host → Bool) → AreApart strange gave.host gave.peer → IsToward strange (gave_these bits) text

abbrev pub MayNotSend : List Bool → List Bool → Type 0
MayNotSend text bits =
    (strange : Host → Bool) → AreApart strange gave.host gave.peer → IsToward strange (gave_these bits) text → ⊥

-- of two lives the second is named where it is a stranger's, and the first is between hosts with programs
abbrev pub SecondIsNamed : Life → Life → Type 0
SecondIsNamed x y = (strange : Host → Bool) → strange x.host ≡ false → strange x.peer ≡ false → strange y.host ≡ true
    → UntowardAt strange (x ∷ y ∷ []) ([] ∷ [] ∷ []) 1
