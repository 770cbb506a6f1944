use Rattle.subnet_trace.proofs.Common.{◌≡◌, ◌++◌, codes, length, map, take, channel_text}
use Rattle.subnet_trace.proofs.imp.all_free.Given as goal

-- the texts of the channels that were looked at
abbrev pub invariant-loop-place : goal.invariant-loop-place
invariant-loop-place l = record { texts : take l.place l.texts ≡ map (λ c. codes "," ++ channel_text c) (take l.place l.channels); size : length l.texts ≡ 8 }
