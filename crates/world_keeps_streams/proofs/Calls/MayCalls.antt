-- What holds of each call of a host's program.
use Rattle.world_keeps_streams.proofs.Common.{◌≡◌, ℕ, List, [], ◌∷◌, Some, IsCommand, IsHeader, PairState, Bytes, next_of, HasSaid}
use Rattle.host_keeps_streams.specs.Histories.{Hears, Takes, Says, Sends, Answered, IsAllowed, Call}
use Rattle.pair_keeps_streams.proofs.lemmas.{IsFirst, IsHeard, IsPaired, IsPairedCall}
use Rattle.stream_law.specs.Senders.{Sender}
use Rattle.host_keeps_streams.specs.Histories as calls

abbrev pub MayCall : Call → PairState → Type 0
MayCall (Hears stamp said c) q = IsCommand c × IsPaired c × IsFirst c q.entries × IsHeard c q.entries
MayCall (Takes l text) q = Unit {0}
MayCall (Says stamp c) q = HasSaid c q.entries
MayCall (Sends stamp e size count) q = (next_of q ≡ Some (Bytes e size count)) × IsHeader (record { size = size; count = count })
MayCall (Answered l) q = Unit {0}
MayCall k q = ((l : ℕ) (s : Sender) → IsAllowed l k q s) × IsPairedCall k

abbrev pub MayCalls : List calls.Moment → Type 0
MayCalls [] = Unit {0}
MayCalls (m ∷ ms) = MayCall m.call m.pair × MayCalls ms
