-- The hosts, crossing by crossing.
use Rattle.std.specs.Prelude.{List, [], ◌∷◌}
use Rattle.interface.specs.declared.crossing.Crossing.{Crossing}
use Rattle.net_sim.specs.World.{Seat, ServiceSeat, seats_turned, emptied}

-- the crossings oldest first
abbrev pub turned_in_order : List Crossing → List Seat → List Seat
turned_in_order [] seats = seats
turned_in_order (c ∷ cs) seats = turned_in_order cs (seats_turned c seats)

abbrev pub emptied_in_order : List Crossing → List ServiceSeat → List ServiceSeat
emptied_in_order [] all = all
emptied_in_order (c ∷ cs) all = emptied_in_order cs (emptied c all)
