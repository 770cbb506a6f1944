use Rattle.packetiser.proofs.Calls.{still_table}
use Rattle.packetiser.proofs.reassembly.Reassembly.keep.Goals as goal

pub invariant_of-self : goal.invariant_of-self
invariant_of-self c =
    still_table c.keep.result c.self.inside.slots c.keep.new.self c.args.packet c.keep.ensures.kept c.keep.ensures.err
    c.self.invariant c.requires.format c.requires.piece (rw (c.self.view_is) c.requires.room)
