use Rattle.mixed_worlds.proofs.Common.{Contains, Crossing, HostMessage, CrossedAt, crossings_of}
use Rattle.std.proofs.Common.{◌≡◌, ◌<◌, ℕ, inl, inr, zero, suc, List, ◌∷◌, refl, true, false, ap, sym, subst, arith}
use Rattle.sockets.specs.Worked.{on_link, second, third, control, STR}
use Rattle.host_pairs.specs.Control.{Legal, Order, orders_of}
use Rattle.mixed_worlds.specs.Worked.{listener_taken, sending_life, stranger_asks, stranger_ready, stranger_opened}
use Rattle.mixed_worlds.specs.Toward.{IsNamed}
use Rattle.bit_messages.specs.Octets.{octets_of}
use Rattle.interface.specs.declared.crossing.Crossing.TheVariants as crossing
use Rattle.ncp_control.specs.Packing.{packed_count}
use Rattle.ncp_control.specs.Reading.{command_of, read_of}
use Rattle.ncp_control.specs.declared.command.Command.TheVariants as command
use Rattle.mixed_worlds.proofs.Carried.{below_all, none_of}
use Rattle.mixed_worlds.proofs.law.worked_links.Goals as goal

abbrev log : List Crossing
log = crossings_of stranger_opened

named : IsNamed log sending_life 2
unfolding octets_of orders_of read_of command_of packed_count
named = record { message = stranger_asks; flow = refl; crossed = inr (inl (refl, refl)); holds = (0, omega arith, refl) }

pub returns-clause-named : goal.returns-clause-named
returns-clause-named c = named

pub returns-clause-carried : goal.returns-clause-carried
returns-clause-carried c = record {
  link = 2;
  messages = none_of false (on_link second third 2) 8 7 log;
  named = λ s. named;
  within = λ s. record { messages = omega arith; bits = omega arith };
  itself = λ r. absurd (let clash : false ≡ true = r in cc);
}

-- what came in at this place is the stranger's request
same_message : (m n : HostMessage) → crossing.In m ≡ crossing.In n → m ≡ n
same_message m n e = cc

-- the crossings before it
abbrev earlier : List Crossing
earlier = crossing.Out stranger_asks ∷ crossings_of stranger_ready

asks_at : (m : HostMessage) → CrossedAt 7 (crossing.In m) log → m ≡ stranger_asks
asks_at m (inl i) = absurd (let late : 7 ≡ 8 = i.1 in omega (arith, late))
asks_at m (inr (inl i)) = same_message m stranger_asks i.0
asks_at m (inr (inr i)) = absurd (let less : 7 < 7 = below_all 7 (crossing.In m) earlier i in omega (arith, less))

number : Order → ℕ
number (Legal (command.Rts own foreign link)) = link
number o = 0

-- and names one link
asks_for : (o : Order) → Contains (orders_of stranger_asks.text) o → number o ≡ 2
unfolding octets_of orders_of read_of command_of packed_count number
asks_for o (zero, less, is) = ap number (sym is)
asks_for o (suc i, less, is) = absurd (omega (arith, less))

pub returns-clause-other : goal.returns-clause-other
unfolding number
returns-clause-other c h =
    let is : h.message ≡ stranger_asks = asks_at h.message h.crossed in
    let there : Contains (orders_of stranger_asks.text) (Legal (command.Rts 16 33 3)) =
    subst (λ (m : HostMessage). Contains (orders_of m.text) (Legal (command.Rts 16 33 3))) is h.holds in
    absurd (let clash : 3 ≡ 2 = asks_for (Legal (command.Rts 16 33 3)) there in omega (arith, clash))

-- at the last place something went out
none_at : (m : HostMessage) → CrossedAt 8 (crossing.In m) log → ⊥
none_at m (inl i) = absurd (let no : crossing.In m ≡ crossing.Out (control second third (STR 33 16 8)) = i.0 in cc)
none_at m (inr i) = absurd
    (let less : 8 < 8 = below_all 8 (crossing.In m) (crossings_of listener_taken) i in omega (arith, less))

pub returns-clause-turned : goal.returns-clause-turned
returns-clause-turned c h = none_at h.message h.crossed
