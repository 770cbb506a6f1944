use Rattle.std.proofs.Common.{◌≡◌, List, [], ◌∷◌, refl, ap, sym, ◌∙◌, arith}
use Rattle.bit_messages.specs.Octets.{octets_of}
use Rattle.ncp_control.specs.Packing.{packed_count}
use Rattle.ncp_control.specs.Reading.{read_of, command_of}
use Rattle.host_pairs.specs.Control.{orders_of}
use Rattle.sockets.specs.Accepting.{accepted}
use Rattle.sockets.specs.Requests.{refusal, served, served_notices}
use Rattle.sockets.specs.Sending.{next_out, offered}
use Rattle.promise.specs.declared.life.Life as book
use Rattle.world_keeps_connections.proofs.law.worked_lives.Goals as goal

first_or : book.Life → List book.Life → book.Life
first_or d [] = d
first_or d (x ∷ xs) = x

second_or : book.Life → List book.Life → book.Life
second_or d [] = d
second_or d (x ∷ xs) = first_or d xs

pub returns-clause-both : goal.returns-clause-both
unfolding octets_of orders_of read_of command_of packed_count accepted refusal served served_notices next_out offered
returns-clause-both c = refl

pub returns-clause-opposite : goal.returns-clause-opposite
unfolding octets_of orders_of read_of command_of packed_count accepted refusal served served_notices next_out offered first_or second_or
returns-clause-opposite c x y e = (
  ap (λ (l : List book.Life). (first_or x l).peer) (sym e) ∙ ap (λ (l : List book.Life). (second_or x l).host) e,
  ap (λ (l : List book.Life). (second_or x l).peer) (sym e) ∙ ap (λ (l : List book.Life). (first_or x l).host) e,
  ap (λ (l : List book.Life). (first_or x l).foreign) (sym e) ∙ ap (λ (l : List book.Life). (second_or x l).socket) e,
  ap (λ (l : List book.Life). (second_or x l).foreign) (sym e) ∙ ap (λ (l : List book.Life). (first_or x l).socket) e,
)

pub returns-clause-itself : goal.returns-clause-itself
returns-clause-itself c x e f o = let r : 33 ≡ 16 = sym f ∙ o.2 ∙ e in omega (arith, r)

pub returns-clause-others : goal.returns-clause-others
returns-clause-others c x y e f o = let r : 18 ≡ 16 = sym f ∙ o.3 ∙ e in omega (arith, r)
