-- The worked history is one.
use Rattle.flow_law.proofs.Common.{◌≡◌, true, [], ◌∷◌, None, inl, refl, Packet, is_request, contains_head}
use Rattle.link_table.specs.Numbers.{is_new}
use Rattle.flow_law.specs.Moves.{New}
use Rattle.flow_law.specs.Runs.{IsHistory}
use Rattle.flow_law.specs.Example.{at_first, worked, data_packet, rfnm, InOnePacket}
use Rattle.flow_law.proofs.Left.{second_there, left_old, left_made, left_both}

-- where nothing was noted each request is new
pub new_at_first : (x : Packet) → is_request x.kind ≡ true → New true None x
unfolding is_new
new_at_first x kind = record { up = refl; request = kind; new = refl }

pub worked_history : IsHistory InOnePacket at_first worked
worked_history = (
  record { needs = refl; left = λ x there. inl there },
  (
    record { needs = record { there = contains_head rfnm (data_packet ∷ []); brings = tt; awaited = refl }; left = left_old _ _ data_packet (second_there rfnm data_packet []) },
    (
      record { needs = record { destination = refl; waits = refl }; left = left_both _ _ rfnm data_packet (record { kind = refl; number = refl }) (contains_head data_packet []) },
      (
        record { needs = record { note = record { there = contains_head data_packet []; new = new_at_first data_packet refl }; joined = λ whole all. all data_packet (contains_head data_packet []) refl refl }; left = λ x there. inl there },
        (
          record { needs = record { offer = record { source = refl; idle = refl; answered = refl }; free = λ last is. absurd (cc); unkept = λ is. absurd (cc) }; left = left_made _ _ data_packet (record { data_packet = refl; number = refl; piece = refl }) },
          tt,
        ),
      ),
    ),
  ),
)
