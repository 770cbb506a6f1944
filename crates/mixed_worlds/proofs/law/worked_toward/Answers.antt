use Rattle.mixed_worlds.proofs.Common.{Contains, Crossing, HostMessage, CrossedAt, crossings_of, eight}
use Rattle.std.proofs.Common.{◌≡◌, ℕ, inl, inr, ◌<◌, zero, suc, [], Some, refl, ap, sym, subst, drop, false, true, arith, replicate}
use Rattle.sockets.specs.Worked.{on_link, second, third, control, RTS}
use Rattle.host_pairs.specs.Control.{Legal, Order, orders_of}
use Rattle.mixed_worlds.specs.Toward.{NamesItself}
use Rattle.bit_messages.specs.Octets.{octets_of}
use Rattle.ncp_control.specs.Packing.{packed_count}
use Rattle.ncp_control.specs.Reading.{command_of, read_of}
use Rattle.interface.specs.declared.crossing.Crossing.TheVariants as crossing
use Rattle.ncp_control.specs.declared.command.Command.TheVariants as command
use Rattle.sockets.specs.Accepting.{accepted}
use Rattle.sockets.specs.Requests.{refusal, served, served_notices}
use Rattle.sockets.specs.Sending.{next_out, offered}
use Rattle.mixed_worlds.specs.Worked.{eight_waits, odd_life, odd_size}
use Rattle.mixed_worlds.proofs.Carried.{below_all, none_of}
use Rattle.mixed_worlds.proofs.law.worked_toward.Goals as goal

pub returns-clause-mixed : goal.returns-clause-mixed
unfolding octets_of orders_of read_of command_of packed_count accepted refusal served served_notices next_out offered
returns-clause-mixed c = (
  (λ off. tt),
  (
    (λ off. absurd (cc)),
    (
      (λ off. tt),
      (
        (λ off. tt),
        (
          (λ off. absurd (cc)),
          (
            (λ off. (refl, tt, refl, (omega arith, omega arith))),
            (
              (λ off. refl),
              (
                (λ off. tt),
                (
                  (λ off. absurd (cc)),
                  (
                    (λ off. (refl, tt, refl, omega arith)),
                    (
                      (λ off. tt),
                      (
                        (λ off. tt),
                        (
                          (λ off. refl),
                          (
                            (λ off. tt),
                            (
                              (λ off. tt),
                              ((λ off. absurd (cc)), tt),
                            ),
                          ),
                        ),
                      ),
                    ),
                  ),
                ),
              ),
            ),
          ),
        ),
      ),
    ),
  ),
)

pub returns-clause-granting : goal.returns-clause-granting
unfolding octets_of orders_of read_of command_of packed_count accepted refusal served served_notices next_out offered
returns-clause-granting c = refl

pub returns-clause-life : goal.returns-clause-life
unfolding octets_of orders_of read_of command_of packed_count accepted refusal served served_notices next_out offered
returns-clause-life c = refl

pub returns-clause-unfirst : goal.returns-clause-unfirst
unfolding octets_of orders_of read_of command_of packed_count accepted refusal served served_notices next_out offered
returns-clause-unfirst c f = absurd (let clash : Some (replicate 7 true) ≡ Some eight = f.bits in cc)

pub returns-clause-asked : goal.returns-clause-asked
unfolding octets_of orders_of read_of command_of packed_count accepted refusal served served_notices next_out offered
returns-clause-asked c = record { own = refl; partner = refl }

pub returns-clause-turned : goal.returns-clause-turned
unfolding octets_of orders_of read_of command_of packed_count accepted refusal served served_notices next_out offered
returns-clause-turned c h = absurd (let clash : false ≡ true = h.own in cc)

-- the second host's RTS went out at its own stamp
own_rts : NamesItself (crossings_of odd_size) odd_life 2
unfolding octets_of orders_of read_of command_of packed_count
own_rts = record {
  message = control second third (RTS 16 33 2);
  flow = refl;
  crossed = inr (inr (inr (inr (inr (inl (refl, refl))))));
  holds = (0, omega arith, refl);
}

pub returns-clause-itself : goal.returns-clause-itself
returns-clause-itself c = own_rts

-- what goes out in a crossing
abbrev said : HostMessage → Crossing → HostMessage
said m (crossing.Out n) = n
said m c = m

-- nothing else went out there
rts_at : (m : HostMessage) → CrossedAt 8 (crossing.Out m) (crossings_of odd_size)
    → m ≡ control second third (RTS 16 33 2)
rts_at m (inl i) = absurd (let late : 8 ≡ 13 = i.1 in omega (arith, late))
rts_at m (inr (inl i)) = absurd (let late : 8 ≡ 12 = i.1 in omega (arith, late))
rts_at m (inr (inr (inl i))) = absurd (let late : 8 ≡ 11 = i.1 in omega (arith, late))
rts_at m (inr (inr (inr (inl i)))) = absurd (let late : 8 ≡ 10 = i.1 in omega (arith, late))
rts_at m (inr (inr (inr (inr (inl i))))) = absurd (let late : 8 ≡ 9 = i.1 in omega (arith, late))
rts_at m (inr (inr (inr (inr (inr (inl i)))))) = ap (said m) i.0
rts_at m (inr (inr (inr (inr (inr (inr i)))))) = absurd
    (let less : 8 < 8 = below_all 8 (crossing.Out m) (drop 6 (crossings_of odd_size)) i in omega (arith, less))

number : Order → ℕ
number (Legal (command.Rts own foreign link)) = link
number o = 0

-- and it names one link
says_two : (o : Order) → Contains (orders_of (control second third (RTS 16 33 2)).text) o → number o ≡ 2
unfolding octets_of orders_of read_of command_of packed_count number
says_two o (zero, less, is) = ap number (sym is)
says_two o (suc i, less, is) = absurd (omega (arith, less))

pub returns-clause-another : goal.returns-clause-another
unfolding number
returns-clause-another c h =
    let is : h.message ≡ control second third (RTS 16 33 2) = rts_at h.message h.crossed in
    let there : Contains (orders_of (control second third (RTS 16 33 2)).text) (Legal (command.Rts 16 33 3)) =
    subst (λ (m : HostMessage). Contains (orders_of m.text) (Legal (command.Rts 16 33 3))) is h.holds in
    absurd (let clash : 3 ≡ 2 = says_two (Legal (command.Rts 16 33 3)) there in omega (arith, clash))

pub returns-clause-carried : goal.returns-clause-carried
unfolding octets_of
returns-clause-carried c = record {
  link = 2;
  messages = inr (
    0,
    [],
    eight,
    refl,
    refl,
    (refl, refl),
    omega arith,
    omega arith,
    none_of true (on_link third second 2) 8 7 (crossings_of eight_waits),
  );
  named = λ s. absurd (let clash : false ≡ true = s in cc);
  within = λ s. absurd (let clash : false ≡ true = s in cc);
  itself = λ r. own_rts;
}

pub returns-clause-early : goal.returns-clause-early
returns-clause-early c (inl h) = absurd (let clash : 1 ≡ 0 = h.0 in omega (arith, clash))
returns-clause-early c (inr h) = absurd (let late : 8 < 0 = h.6 in omega (arith, late))

pub returns-clause-uncounted : goal.returns-clause-uncounted
returns-clause-uncounted c h = absurd (let clash : 1 ≡ 0 = h.0 in omega (arith, clash))

pub returns-clause-arrived : goal.returns-clause-arrived
unfolding octets_of
returns-clause-arrived c = (refl, refl)

pub returns-clause-others : goal.returns-clause-others
unfolding octets_of
returns-clause-others c h = absurd (let clash : Some eight ≡ Some (replicate 7 true) = h.1 in cc)

pub returns-clause-unsent : goal.returns-clause-unsent
returns-clause-unsent c h = absurd h
