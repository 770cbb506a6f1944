-- The ends of lines: what is sent again, the distances that are announced, and ends that go down and up.
use Rattle.std.specs.Prelude.{ℕ, ◌+◌, true, List, [], ◌∷◌, ◌++◌, length, map, Option, Some, None, nat_lt, slice_set, if◌then◌else◌}
use Rattle.interface.specs.declared.carrier.CarrierFault.{CarrierFault}
use Rattle.interface.specs.declared.carrier.CarrierFault.TheVariants as fault
use Rattle.imp_channel.specs.Holding.{packets_in}
use Rattle.imp_channel.specs.Line.{resent, routes_frame}
use Rattle.imp_channel.specs.declared.frame.Frame.{Frame}
use Rattle.routing.specs.RouteTable.{vector_of, claiming, loses}
use Rattle.imp_node.specs.declared.outgoing.Outgoing.{Outgoing}
use Rattle.imp_node.specs.declared.port.Port.{Port}
use Rattle.imp_node.specs.State.{State, ImpTurn, port_at, down_port, with_port}
use Rattle.imp_node.specs.Pump.{pump}

abbrev pub on_port : ℕ → Frame → Outgoing
on_port k f = record { port = k; frame = f }

-- ---- resend: the frames of all busy channels again, in order of ports and channels

abbrev pub resent_by : ℕ → Port → List Outgoing
resent_by k port = if port.up then map (on_port k) (resent port.line) else []

-- from port `k` on
abbrev pub resent_from : ℕ → List Port → List Outgoing
resent_from k [] = []
resent_from k (port ∷ ports) = resent_by k port ++ resent_from (k + 1) ports

abbrev pub resend : State → ImpTurn
resend s = pump (resent_from 0 s.ports) s

-- ---- route: what the IMP announces on each line that is live here

abbrev pub told_by : List ℕ → ℕ → Port → List Outgoing
told_by distances k port = if port.up then on_port k (routes_frame port.line distances) ∷ [] else []

-- from port `k` on
abbrev pub told_from : List ℕ → ℕ → List Port → List Outgoing
told_from distances k [] = []
told_from distances k (port ∷ ports) = told_by distances k port ++ told_from distances (k + 1) ports

abbrev pub route : State → ImpTurn
route s = pump (told_from (vector_of s.routes) 0 s.ports) s

-- ---- claim: from now on it announces that it is at distance 0 from every IMP

abbrev pub claim : State → ImpTurn
claim s = pump [] (record s { routes = claiming s.routes })

-- ---- an end goes down or up

abbrev pub end_refusal : State → ℕ → Option CarrierFault → Option CarrierFault
end_refusal s k others = if nat_lt k (length s.ports) then others else Some fault.NoSuch

abbrev pub end_down_refusal : State → ℕ → Option CarrierFault
end_down_refusal s k = end_refusal s k (if (port_at s.ports k).up then None else Some fault.IsDown)

abbrev pub end_up_refusal : State → ℕ → Option CarrierFault
end_up_refusal s k = end_refusal s k (if (port_at s.ports k).up then Some fault.IsUp else None)

-- The packets of its channels wait after those that wait already, for other routes. The end is as just reset, and the
-- distances that were heard on it are forgotten
abbrev pub end_down : State → ℕ → ImpTurn
end_down s k = pump [] (record s {
  ports = slice_set s.ports k down_port;
  routes = loses s.routes k;
  store = s.store ++ packets_in (port_at s.ports k).line.sending;
})

abbrev pub end_up : State → ℕ → ImpTurn
end_up s k = pump [] (with_port s k (record (port_at s.ports k) { up = true }))
