use Rattle.subnet.proofs.Common.{◌≡◌, drop, length, vector_of, told_from, put_all}
use Rattle.subnet.proofs.telling.tell_all.Given as goal

-- the frames of the ports that are left, after those so far
abbrev pub invariant-loop-port : goal.invariant-loop-port
invariant-loop-port l = record {
  state : put_all l.lines l.number (told_from (vector_of l.imp.routes) l.port (drop l.port l.imp.ports)) ≡ put_all l.fn.lines l.number (told_from (vector_of l.imp.routes) 0 l.imp.ports);
  count : length l.lines ≡ length l.fn.lines;
}
