-- One message, from its offer to its answer, and what the hosts see of it: there are histories.
use Rattle.std.specs.Prelude.{◌≡◌, Bool, true, false, List, [], ◌∷◌, None}
use Rattle.interface.specs.declared.crossing.Answer.TheVariants as answer
use Rattle.interface.specs.Mailboxes.{Box, Passing}
use Rattle.link_table.specs.declared.destination.Fate.TheVariants as fate
use Rattle.flow_law.specs.View.{View, Packet, Kind}
use Rattle.flow_law.specs.Moves.{Move, queued_text}
use Rattle.flow_law.specs.Runs.{FlowTurn}
use Rattle.flow_law.specs.Local.{answer_packet}

-- both IMPs and both hosts up, and nothing sent
abbrev pub at_first : View
at_first = record {
  from_up = true;
  source = true;
  last = None;
  outstanding = None;
  answers = [];
  to_up = true;
  destination = true;
  kept = None;
  fate = fate.Waits;
  queue = [];
  box = Box.Empty;
}

-- a text of two bits, which one packet carries whole
abbrev pub first_text : List Bool
first_text = true ∷ false ∷ []

abbrev pub InOnePacket : List Bool → Packet → Type 0
InOnePacket whole x = x.bits ≡ whole

abbrev pub data_packet : Packet
data_packet = record { kind = Kind.Data; number = 0; place = 0; last = true; bits = first_text }

abbrev pub rfnm : Packet
rfnm = answer_packet Kind.Rfnm 0

-- newest first: begun, made whole, taken, heard of, and the answer taken. A copy of the data stays alive until the end
abbrev pub worked : List FlowTurn
worked =
    record { move = Move.TakeAnswer answer.Rfnm []; left = data_packet ∷ [] }
    ∷ record { move = Move.Freed rfnm answer.Rfnm; left = data_packet ∷ [] }
    ∷ record { move = Move.TakeMessage (queued_text 0 first_text) []; left = rfnm ∷ data_packet ∷ [] }
    ∷ record { move = Move.Whole data_packet first_text; left = data_packet ∷ [] }
    ∷ record { move = Move.Begin 0 first_text; left = data_packet ∷ [] }
    ∷ []

-- what the hosts see of it: the message put, fetched, and RFNM
abbrev pub worked_seen : List Passing
worked_seen = Passing.Told answer.Rfnm ∷ Passing.Fetched first_text ∷ Passing.Put 0 first_text ∷ []
