-- What a replay writes as a trace: without strangers (Traced), with them (AmongTraced); that its events determine it
-- without strangers (OneTrace), and an input in any network (AmongTrace); and that an output leaves out no line that its
-- trace has as printed (LeftOut).
pub mod AmongTrace
pub mod AmongTraced
pub mod LeftOut
pub mod OneTrace
pub mod Traced
