use Rattle.subnet.proofs.Common.{◌≡◌, ◌≤◌, length, put_all}
use Rattle.subnet.proofs.lines.Lines.put_all.Given as goal

-- the frames that are left, after those so far
abbrev pub invariant-frames : goal.invariant-frames
invariant-frames l = record {
  state : put_all l.self l.imp l.queue.items ≡ put_all l.fn.self l.imp l.fn.frames.items;
  count : length l.self ≡ length l.fn.self;
  short : length l.queue.items ≤ length l.fn.frames.items;
}

abbrev pub decreases-frames : goal.decreases-frames
decreases-frames l = length l.queue.items
