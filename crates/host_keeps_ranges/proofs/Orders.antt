-- What is read in a text, and what an ERR quotes, is within its fields.
use Rattle.std.proofs.Common.{nat_le, ◌≡◌, ℕ, ◌*◌, ◌/◌, ◌%◌, ◌^◌, zero, suc, Bool, true, false, if◌then◌else◌, List, [], ◌∷◌, ◌++◌, length, take, drop, replicate, Option, Some, None, Result, Ok, Err, All, refl, arith, IsTrue}
use Rattle.std.proofs.lemmas.List.{length-append, length-take-le}
use Rattle.std.proofs.lemmas.List.Elements.{All-append, All-cons, All-drop, All-nil, All-replicate, All-take}
use Rattle.bit_messages.specs.Octets.{octets_of}
use Rattle.bit_messages.proofs.lemmas.{octets_below}
use Rattle.ncp_control.specs.Command.{IsCommand, IsOctet, detail_of, spelling}
use Rattle.std.specs.Int.{byte_at, bytes_high_first, to_be_bytes, w16, w32}
use Rattle.std.proofs.lemmas.Bool.{leb-true}
use Rattle.ncp_control.specs.Numbers.{is_connection_link}
use Rattle.host_pairs.proofs.lemmas.{both}
use Rattle.ncp_control.specs.DataHeader.{header_of}
use Rattle.ncp_control.specs.Reading.{read_of}
use Rattle.ncp_control.specs.declared.command.Command.{Command}
use Rattle.ncp_control.specs.declared.command.Command.TheVariants as command
use Rattle.ncp_control.specs.declared.data_header.DataHeader.{DataHeader}
use Rattle.ncp_control.specs.declared.fault.ControlFault.{ControlFault}
use Rattle.ncp_control.specs.declared.fault.ControlFault.TheVariants as fault
use Rattle.ncp_control.proofs.lemmas.{spelled_by}
use Rattle.host_pairs.specs.Control.{ERRONEOUS, Order, Wrong, error, is_control, orders_by, orders_in, orders_of, orders_within, then_orders}
use Rattle.host_keeps_ranges.specs.Ranges.{AreOrders}

-- ---- an ERR

detail_octets : (octets : List ℕ) → All IsOctet octets → All IsOctet (detail_of octets)
detail_octets octets small = All-take IsOctet 10 (octets ++ replicate 10 0) (All-append IsOctet octets (replicate 10 0) small (All-replicate IsOctet 10 0 (omega arith)))

ten : (octets : List ℕ) → length (detail_of octets) ≡ 10
ten octets =
    let zeros : List ℕ = replicate 10 0 in
    length-take-le 10 (octets ++ zeros) (omega (arith, length-append octets zeros))

pub error_command : (code : ℕ) (octets : List ℕ) → IsOctet code → All IsOctet octets → IsCommand (error code octets)
error_command code octets is small = (is, ten octets, detail_octets octets small)

-- ---- reading

then_good : (octets : List ℕ) (r : Result (Command × ℕ) ControlFault) (rest : List ℕ → List Order) → All IsOctet octets → read_of octets ≡ r → ((n : ℕ) → AreOrders (rest (drop n octets))) → AreOrders (then_orders octets r rest)
then_good octets (Ok (c, used)) rest small is more = ((spelled_by octets c used small is).command, more used)
then_good octets (Err (fault.IllegalCode quoted)) rest small is more = ((omega arith, All-take IsOctet quoted octets small), tt)
then_good octets (Err (fault.Short quoted)) rest small is more = ((omega arith, All-take IsOctet quoted octets small), tt)
then_good octets (Err (fault.Erroneous quoted)) rest small is more = ((omega arith, All-take IsOctet quoted octets small), more quoted)
then_good octets (Err fault.OutOfMemory) rest small is more = tt

within_good : (fuel : ℕ) (octets : List ℕ) → All IsOctet octets → AreOrders (orders_within fuel octets)
within_good zero octets small = tt
within_good (suc fuel) [] small = tt
within_good (suc fuel) (octet ∷ octets) small =
    then_good (octet ∷ octets) (read_of (octet ∷ octets)) (orders_within fuel) small refl (λ n. within_good fuel (drop n (octet ∷ octets)) (All-drop IsOctet n (octet ∷ octets) small))

by_good : (text : List Bool) (o : Option DataHeader) → AreOrders (orders_by text o)
by_good text None = ((omega arith, octets_below text), tt)
by_good text (Some h) = by (is_control h) where
  by : (b : Bool) → AreOrders (if b then orders_in (octets_of (take (8 * h.count) (drop 40 text))) else Wrong ERRONEOUS (octets_of text) ∷ [])
  by true = within_good (length (octets_of (take (8 * h.count) (drop 40 text)))) (octets_of (take (8 * h.count) (drop 40 text))) (octets_below (take (8 * h.count) (drop 40 text)))
  by false = ((omega arith, octets_below text), tt)

-- what is read in a text are commands and errors
pub text_good : (text : List Bool) → AreOrders (orders_of text)
unfolding orders_of
text_good text = by_good text (header_of text)

-- ---- the octets of a command

rest_below : (n : ℕ) → IsOctet (n % 256)
rest_below n = omega arith

byte_below : (k n : ℕ) → IsOctet (byte_at k n)
byte_below zero n = rest_below n
byte_below (suc k) n = rest_below (n / 256 ^ suc k)

bytes_below : (k n : ℕ) → All IsOctet (bytes_high_first k n)
bytes_below zero n = All-nil IsOctet
bytes_below (suc k) n = All-cons IsOctet (byte_at k n) (bytes_high_first k n) (byte_below k n) (bytes_below k n)

words : (n : ℕ) → All IsOctet (to_be_bytes w32 n)
words n = bytes_below 4 n

doubles : (n : ℕ) → All IsOctet (to_be_bytes w16 n)
doubles n = bytes_below 2 n

one_octet : (n : ℕ) → IsOctet n → All IsOctet (n ∷ [])
one_octet n h = All-cons IsOctet n [] h (All-nil IsOctet)

pub spelled_octets : (c : Command) → IsCommand c → All IsOctet (spelling c)
spelled_octets command.Nop h = one_octet 0 (omega arith)
spelled_octets (command.Rts receive send link) h =
    All-cons IsOctet 1 (to_be_bytes w32 receive ++ to_be_bytes w32 send ++ link ∷ []) (omega arith)
    (All-append IsOctet (to_be_bytes w32 receive ++ to_be_bytes w32 send) (link ∷ []) (All-append IsOctet (to_be_bytes w32 receive) (to_be_bytes w32 send) (words receive) (words send)) (one_octet link (link_octet link h.4))) where
      link_octet : (link : ℕ) → IsTrue (is_connection_link link) → IsOctet link
      link_octet link e = let p : (nat_le 2 link ≡ true) × (nat_le link 31 ≡ true) = both (nat_le 2 link) (nat_le link 31) e in omega (arith, leb-true link 31 p.1)
spelled_octets (command.Str send receive size) h =
    All-cons IsOctet 2 (to_be_bytes w32 send ++ to_be_bytes w32 receive ++ size ∷ []) (omega arith)
    (All-append IsOctet (to_be_bytes w32 send ++ to_be_bytes w32 receive) (size ∷ []) (All-append IsOctet (to_be_bytes w32 send) (to_be_bytes w32 receive) (words send) (words receive)) (one_octet size h.4))
spelled_octets (command.Cls own foreign) h = All-cons IsOctet 3 (to_be_bytes w32 own ++ to_be_bytes w32 foreign) (omega arith) (All-append IsOctet (to_be_bytes w32 own) (to_be_bytes w32 foreign) (words own) (words foreign))
spelled_octets (command.All link messages bits) h = All-cons IsOctet 4 (link ∷ to_be_bytes w16 messages ++ to_be_bytes w32 bits) (omega arith) (All-cons IsOctet link (to_be_bytes w16 messages ++ to_be_bytes w32 bits) h.0 (All-append IsOctet (to_be_bytes w16 messages) (to_be_bytes w32 bits) (doubles messages) (words bits)))
spelled_octets (command.Gvb link messages bits) h = All-cons IsOctet 5 (link ∷ messages ∷ bits ∷ []) (omega arith) (All-cons IsOctet link (messages ∷ bits ∷ []) h.0 (All-cons IsOctet messages (bits ∷ []) h.1 (one_octet bits h.2)))
spelled_octets (command.Ret link messages bits) h = All-cons IsOctet 6 (link ∷ to_be_bytes w16 messages ++ to_be_bytes w32 bits) (omega arith) (All-cons IsOctet link (to_be_bytes w16 messages ++ to_be_bytes w32 bits) h.0 (All-append IsOctet (to_be_bytes w16 messages) (to_be_bytes w32 bits) (doubles messages) (words bits)))
spelled_octets (command.Inr link) h = All-cons IsOctet 7 (link ∷ []) (omega arith) (one_octet link h)
spelled_octets (command.Ins link) h = All-cons IsOctet 8 (link ∷ []) (omega arith) (one_octet link h)
spelled_octets (command.Eco octet) h = All-cons IsOctet 9 (octet ∷ []) (omega arith) (one_octet octet h)
spelled_octets (command.Erp octet) h = All-cons IsOctet 10 (octet ∷ []) (omega arith) (one_octet octet h)
spelled_octets (command.Err code detail) h = All-cons IsOctet 11 (code ∷ detail) (omega arith) (All-cons IsOctet code detail h.0 h.2)
spelled_octets command.Rst h = one_octet 12 (omega arith)
spelled_octets command.Rrp h = one_octet 13 (omega arith)
