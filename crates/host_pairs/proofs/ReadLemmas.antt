-- The octets of commands in a control message are read again as these commands.
use Rattle.std.proofs.Common.{◌≡◌, ℕ, ◌*◌, ◌<◌, ◌≤◌, Bool, true, false, nat_lt, List, [], ◌∷◌, ◌++◌, length, take, drop, map, Some, Result, Ok, Err, IfOk, refl, ap, sym, ◌∙◌, arith, zero, suc, length-drop}
use Rattle.std.proofs.lemmas.Bool.{ltb-true}
use Rattle.std.proofs.lemmas.List.{take_all}
use Rattle.std.specs.Prelude.{All}
use Rattle.std.specs.declared.alloc.AllocError.{AllocError}
use Rattle.std.specs.Int.{w16, to_be_bytes}
use Rattle.bit_messages.specs.Octets.{bits_of, octets_of}
use Rattle.bit_messages.proofs.lemmas.{length-bits_of, octets_again, octets_of-append}
use Rattle.ncp_control.specs.Command.{is_alone, spelling}
use Rattle.ncp_control.specs.DataHeader.{header_of}
use Rattle.ncp_control.specs.Packing.{AreRead, packed_count}
use Rattle.ncp_control.specs.Reading.{command_of, read_of}
use Rattle.ncp_control.specs.declared.command.Command.{Command}
use Rattle.ncp_control.specs.declared.command.Command.TheVariants as command
use Rattle.ncp_control.specs.declared.data_header.DataHeader.{DataHeader}
use Rattle.ncp_control.specs.declared.fault.ControlFault.{ControlFault}
use Rattle.ncp_control.proofs.lemmas.{header_again}
use Rattle.host_pairs.specs.Control.{Order, Legal, control_text, is_control, orders_of, orders_within, then_orders}
use Rattle.host_pairs.specs.Allowed.{IsReadAs}
use Rattle.host_pairs.specs.Outgoing.{HasRoom, parcel_of}
use Rattle.host_pairs.specs.Pair.{PairState}
use Rattle.host_pairs.specs.Queue.{are_joint}
use Rattle.host_pairs.specs.declared.outgoing.Outgoing.{Outgoing}
use Rattle.host_pairs.specs.declared.outgoing.Outgoing.TheVariants as outgoing
use Rattle.host_pairs.proofs.ControlLemmas.{control_read}

-- ---- commands

nothing_read : (c : Command) (used : ℕ) → read_of [] ≡ Ok (c, used) → ⊥
unfolding read_of
nothing_read c used e = cc

-- a command has an octet at least
some_octet : (c : Command) → 0 < length (spelling c)
some_octet command.Nop = omega arith
some_octet (command.Rts receive send link) = omega arith
some_octet (command.Str send receive size) = omega arith
some_octet (command.Cls own foreign) = omega arith
some_octet (command.All link messages bits) = omega arith
some_octet (command.Gvb link messages bits) = omega arith
some_octet (command.Ret link messages bits) = omega arith
some_octet (command.Inr link) = omega arith
some_octet (command.Ins link) = omega arith
some_octet (command.Eco octet) = omega arith
some_octet (command.Erp octet) = omega arith
some_octet (command.Err code detail) = omega arith
some_octet command.Rst = omega arith
some_octet command.Rrp = omega arith

-- each command in its turn
read_all : (most : ℕ) (octets : List ℕ) (cs : List Command) → length octets ≤ most → AreRead octets cs → orders_within most octets ≡ map Legal cs
read_all zero octets [] le r = refl
read_all (suc most) octets [] le r = ap (λ (xs : List ℕ). orders_within (suc most) xs) r
read_all zero [] (c ∷ cs) le r = absurd (nothing_read c (length (spelling c)) r.0)
read_all zero (o ∷ os) (c ∷ cs) le r = absurd (omega (arith, le))
read_all (suc most) [] (c ∷ cs) le r = absurd (nothing_read c (length (spelling c)) r.0)
read_all (suc most) (o ∷ os) (c ∷ cs) le r =
    let some : 0 < length (spelling c) = some_octet c in
    let fewer : length (drop (length (spelling c)) (o ∷ os)) ≤ most = simp length-drop (omega arith) in
    ap (λ (read : Result (Command × ℕ) ControlFault). then_orders (o ∷ os) read (orders_within most)) r.0
    ∙ ap (λ (orders : List Order). Legal c ∷ orders) (read_all most (drop (length (spelling c)) (o ∷ os)) cs fewer r.1)

-- ---- the message

within_by : (n : ℕ) → n ≤ 120 → (b : Bool) → nat_lt 120 n ≡ b → b ≡ false
within_by n le true e = absurd (omega (arith, le, ltb-true 120 n e))
within_by n le false e = refl

abbrev header : ℕ → DataHeader
header count = record { size = 8; count = count }

abbrev header_octets : ℕ → List ℕ
header_octets count = 0 ∷ 8 ∷ to_be_bytes w16 count ++ 0 ∷ []

-- the octets of a control message are after those of its header
behind_header : (octets : List ℕ) → All (λ n. n < 256) octets → octets ≡ drop 5 (octets_of (control_text octets))
unfolding octets_of
behind_header octets small =
    let split : octets_of (control_text octets) ≡ octets_of (bits_of (header_octets (length octets))) ++ octets_of (bits_of octets) =
    octets_of-append (bits_of (header_octets (length octets))) (bits_of octets) refl in
    let behind : drop 5 (octets_of (control_text octets)) ≡ octets_of (bits_of octets) = ap (λ (xs : List ℕ). drop 5 xs) split in
    sym (behind ∙ octets_again octets small)

-- what a control message says is read again as just these commands
pub control_again : (octets : List ℕ) (cs : List Command) → All (λ n. n < 256) octets → length octets ≤ 120 → AreRead octets cs → orders_of (control_text octets) ≡ map Legal cs
control_again octets cs small room read =
    let count : length octets ≤ 120 = room in
    let all : 8 * length octets ≤ length (bits_of octets) = omega (arith, length-bits_of octets) in
    let there : header_of (control_text octets) ≡ Some (header (length octets)) = header_again (header (length octets)) (bits_of octets) (record { size = omega arith; count = omega (arith, count) }) all in
    let control : is_control (header (length octets)) ≡ true = rw (within_by (length octets) room (nat_lt 120 (length octets)) refl) refl in
    control_read (control_text octets) (header (length octets)) octets octets there control (behind_header octets small) (sym (take_all (length octets) octets (omega arith)))
    ∙ read_all (length octets) octets cs (omega arith) read

-- an RST or an RRP goes by itself
pub signal_again : (c : Command) → is_alone c ≡ true → orders_of (control_text (spelling c)) ≡ Legal c ∷ []
unfolding orders_of octets_of read_of command_of
signal_again command.Rst e = refl
signal_again command.Rrp e = refl
signal_again c e = absurd (cc)

-- as many commands as have room
pub commands_read : (q : PairState) (out : Outgoing) (count : ℕ) (r : Result (List Bool) AllocError) → out ≡ outgoing.Commands count → HasRoom q.entries q.queue out → are_joint q.queue ≡ true
    → IfOk r (λ text. orders_of text ≡ map Legal (take (packed_count q.queue) q.queue)) → IfOk r (λ text. IsReadAs q (parcel_of q.entries out) text)
commands_read q out count (Err e) is room joint again = tt
commands_read q outgoing.Reset count (Ok text) is room joint again = absurd (cc)
commands_read q outgoing.Reply count (Ok text) is room joint again = absurd (cc)
commands_read q (outgoing.Commands n) count (Ok text) is room joint again = (again ∙ ap (λ (k : ℕ). map Legal (take k q.queue)) (sym room), joint)
commands_read q (outgoing.Bytes at size n) count (Ok text) is room joint again = absurd (cc)
