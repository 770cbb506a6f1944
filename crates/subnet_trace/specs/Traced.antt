-- What a subnet shows of its inside.
use Rattle.subnet.specs.Calls.{Kept}
use Rattle.trace.specs.Traces.{Inside}
use Rattle.subnet_trace.specs.Elements.{calm_of}
use Rattle.subnet_trace.specs.Fates.{fate_of}
use Rattle.subnet_trace.specs.Parts.{parts_of_net}

abbrev pub subnet_inside : Inside Kept
subnet_inside = record { calm = λ k. calm_of k.net; members = λ k. parts_of_net k.net; fate = λ k e. fate_of k.net e }
