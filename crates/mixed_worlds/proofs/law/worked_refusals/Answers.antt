use Rattle.mixed_worlds.proofs.Common.{Crossing, HostMessage, CrossedAt, crossings_of, Flow, eight, AreOf}
use Rattle.std.proofs.Common.{◌≡◌, ℕ, inl, inr, ◌<◌, ◌∷◌, [], refl, true, false, ap, sym, arith, drop, ◌≤◌, ◌∙◌}
use Rattle.sockets.specs.Worked.{on_link, second, third, control, STR, message}
use Rattle.mixed_worlds.specs.Worked.{listener_taken, granted_beside, odd_size, stranger_opened}
use Rattle.bit_messages.specs.Octets.{octets_of}
use Rattle.interface.specs.declared.crossing.Crossing.TheVariants as crossing
use Rattle.host_pairs.specs.Control.{orders_of}
use Rattle.ncp_control.specs.Packing.{packed_count}
use Rattle.ncp_control.specs.Reading.{command_of, read_of}
use Rattle.sockets.specs.Accepting.{accepted}
use Rattle.sockets.specs.Requests.{refusal, served, served_notices}
use Rattle.sockets.specs.Sending.{next_out, offered}
use Rattle.mixed_worlds.proofs.Carried.{below_all}
use Rattle.mixed_worlds.proofs.law.worked_refusals.Goals as goal

pub returns-clause-own : goal.returns-clause-own
unfolding octets_of orders_of read_of command_of packed_count accepted refusal served served_notices next_out offered
returns-clause-own c h = absurd (let clash : false ≡ true = h.own in cc)

pub returns-clause-partner : goal.returns-clause-partner
unfolding octets_of orders_of read_of command_of packed_count accepted refusal served served_notices next_out offered
returns-clause-partner c h = absurd (let clash : false ≡ true = h.partner in cc)

pub returns-clause-before_own : goal.returns-clause-before_own
returns-clause-before_own c (inl (inl h)) = absurd (let clash : 1 ≡ 0 = h.0 in omega (arith, clash))
returns-clause-before_own c (inl (inr h)) = absurd (let late : 1 < 0 = h.6 in omega (arith, late))
returns-clause-before_own c (inr h) = absurd (let late : 1 < 1 = h.6 in omega (arith, late))

pub returns-clause-before_partner : goal.returns-clause-before_partner
returns-clause-before_partner c (inl (inl h)) = absurd (let clash : 1 ≡ 0 = h.0 in omega (arith, clash))
returns-clause-before_partner c (inl (inr h)) = absurd (let late : 1 < 0 = h.7 in omega (arith, late))
returns-clause-before_partner c (inr h) = absurd (let late : 1 < 1 = h.7 in omega (arith, late))

-- nothing went out after both requests
unsent : (link : ℕ) → AreOf false (on_link second third link) 0 1 granted_beside 1 eight → ⊥
unsent link (inl (inl h)) = let clash : 1 ≡ 0 = h.0 in omega (arith, clash)
unsent link (inl (inr h)) = let late : 0 < 0 = h.6 in omega (arith, late)
unsent link (inr h) = h.5

pub returns-clause-messages : goal.returns-clause-messages
returns-clause-messages c h = unsent h.link h.messages

pub returns-clause-within : goal.returns-clause-within
unfolding octets_of orders_of read_of command_of packed_count
returns-clause-within c h = let over : 1 ≤ 0 = (h.within refl).messages in omega (arith, over)

-- at the last place something went out
none_in : (m : HostMessage) → CrossedAt 8 (crossing.In m) (crossings_of stranger_opened) → ⊥
none_in m (inl i) = let no : crossing.In m ≡ crossing.Out (control second third (STR 33 16 8)) = i.0 in cc
none_in m (inr i) = let less : 8 < 8 = below_all 8 (crossing.In m) (crossings_of listener_taken) i in omega (arith, less)

pub returns-clause-named : goal.returns-clause-named
returns-clause-named c h = none_in (h.named refl).message (h.named refl).crossed

-- and at place 9 the stranger's message of seven bits
seven_bits : HostMessage
seven_bits = message third second 2 (0 ∷ 7 ∷ 0 ∷ 1 ∷ 0 ∷ 254 ∷ [])

none_out : (m : HostMessage) → m.flow ≡ on_link second third 0 → CrossedAt 9 (crossing.Out m) (crossings_of odd_size) → ⊥
unfolding seven_bits
none_out m own (inl i) = let late : 9 ≡ 13 = i.1 in omega (arith, late)
none_out m own (inr (inl i)) = let late : 9 ≡ 12 = i.1 in omega (arith, late)
none_out m own (inr (inr (inl i))) = let late : 9 ≡ 11 = i.1 in omega (arith, late)
none_out m own (inr (inr (inr (inl i)))) = let late : 9 ≡ 10 = i.1 in omega (arith, late)
none_out m own (inr (inr (inr (inr (inl i))))) =
    let same : m ≡ seven_bits = let out : crossing.Out m ≡ crossing.Out seven_bits = i.0 in cc in
    let clash : 0 ≡ 2 = ap (λ (f : Flow). f.link.0) (sym own ∙ ap (λ (n : HostMessage). n.flow) same) in omega (arith, clash)
none_out m own (inr (inr (inr (inr (inr i))))) = let less : 9 < 9 = below_all 9 (crossing.Out m) (drop 5 (crossings_of odd_size)) i in omega (arith, less)

pub returns-clause-itself : goal.returns-clause-itself
returns-clause-itself c h = none_out (h.itself refl).message (h.itself refl).flow (h.itself refl).crossed

pub returns-clause-control : goal.returns-clause-control
returns-clause-control c h = absurd (let clash : true ≡ false = h.0 in cc)
