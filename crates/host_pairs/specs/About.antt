-- Whom a notice is about: words for the laws of one host.
use Rattle.std.specs.Prelude.{◌≡◌, List, [], ◌∷◌}
use Rattle.interface.specs.Host.{Host}
use Rattle.host_pairs.specs.declared.notice.Notice.{Notice}
use Rattle.host_pairs.specs.declared.notice.Notice.TheVariants as notice

-- ---- whom a notice is about

-- a notice that names a peer names this one; any other names a socket of this host
abbrev pub IsAbout : Host → Notice → Type 0
IsAbout peer (notice.Ready p) = p ≡ peer
IsAbout peer (notice.ContactFailed p) = p ≡ peer
IsAbout peer (notice.PairReset p) = p ≡ peer
IsAbout peer (notice.Opened socket p foreign own partner) = p ≡ peer
IsAbout peer (notice.Ended socket p foreign) = p ≡ peer
IsAbout peer (notice.Sent socket bits) = Unit {0}
IsAbout peer (notice.Arrived socket bits) = Unit {0}
IsAbout peer (notice.Returned socket messages bits) = Unit {0}
IsAbout peer (notice.Interrupt socket) = Unit {0}
IsAbout peer (notice.Echoed p octet) = p ≡ peer
IsAbout peer (notice.RemoteError p code detail) = p ≡ peer

abbrev pub AreAbout : Host → List Notice → Type 0
AreAbout peer [] = Unit {0}
AreAbout peer (n ∷ ns) = IsAbout peer n × AreAbout peer ns
