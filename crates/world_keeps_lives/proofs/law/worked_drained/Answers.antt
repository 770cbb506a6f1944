use Rattle.world_keeps_lives.proofs.Common.{◌≡◌, Bool, true, false, List, [], ◌∷◌, Some, refl, ap, ◌∙◌, arith, Entry, first, second, Crossed, program, ClosedFirst, ClosesFirst, all_lives}
use Rattle.host_pairs.specs.Entries.{has_cls, new_entry}
use Rattle.net_sim.specs.Book.{life_ended}
use Rattle.net_sim.specs.Worked.{eight}
use Rattle.world_keeps_lives.specs.WorkedFormed.{gave, closed_moments}
use Rattle.bit_messages.specs.Octets.{octets_of}
use Rattle.interface.specs.declared.crossing.Crossing.TheVariants as crossing
use Rattle.ncp_control.specs.Packing.{packed_count}
use Rattle.ncp_control.specs.Reading.{read_of, command_of}
use Rattle.host_pairs.specs.Control.{orders_of}
use Rattle.host_pairs.specs.declared.entry.Closing.TheVariants as closing
use Rattle.sockets.specs.Accepting.{accepted}
use Rattle.sockets.specs.Requests.{refusal, served, served_notices}
use Rattle.sockets.specs.Sending.{next_out, offered}
use Rattle.world_keeps_lives.proofs.Rows.{none_there}
use Rattle.world_keeps_lives.proofs.law.worked_drained.Goals as goal

first_closing : List Entry → Bool
first_closing [] = true
first_closing (e ∷ es) = has_cls e.closing

first_heard : List Entry → Bool
first_heard [] = false
first_heard (e ∷ es) = e.partner_closed

closes_there : ClosesFirst closed_moments gave
unfolding octets_of orders_of read_of command_of packed_count accepted refusal served served_notices next_out offered
closes_there = record {
  goes = refl;
  sending = refl;
  end = record {
    end = record (new_entry 33 16) { asked = Some 8; partner = Some 7; closing = closing.Queued; link = Some 2; size = Some 8; allocation = record { messages = 1; bits = 92 } };
    one = refl;
    others = λ other away. none_there 33 first other (program second closed_moments).peers (refl, tt) away;
    foreign = refl;
    own = refl;
    partner = refl;
  };
  closed = refl;
  unheard = refl;
}

pub returns-clause-closed : goal.returns-clause-closed
returns-clause-closed c = closes_there

closed_there : ClosedFirst all_lives (Crossed (crossing.Down second) ∷ closed_moments) (life_ended gave)
unfolding octets_of orders_of read_of command_of packed_count accepted refusal served served_notices next_out offered
closed_there = record {
  later = Crossed (crossing.Down second) ∷ [];
  earlier = closed_moments;
  is = refl;
  sender = gave;
  there = (0, omega arith, refl);
  first = closes_there;
  same = refl;
}

pub returns-clause-stopped : goal.returns-clause-stopped
returns-clause-stopped c = closed_there

pub returns-clause-all : goal.returns-clause-all
returns-clause-all c = ((λ f. refl), tt)

pub returns-clause-less : goal.returns-clause-less
returns-clause-less c h = let none : eight ≡ [] = h.0 closed_there in absurd (cc)

pub returns-clause-unanswered : goal.returns-clause-unanswered
unfolding octets_of orders_of read_of command_of packed_count accepted refusal served served_notices next_out offered first_closing
returns-clause-unanswered c f = let both : false ≡ true = ap first_closing f.end.one ∙ f.closed in absurd (cc)

pub returns-clause-taken : goal.returns-clause-taken
unfolding octets_of orders_of read_of command_of packed_count accepted refusal served served_notices next_out offered first_heard
returns-clause-taken c f = let both : true ≡ false = ap first_heard f.end.one ∙ f.unheard in absurd (cc)
