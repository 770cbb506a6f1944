-- Commands that wait to go out are read as neither RST nor RRP, whatever numbers are in them.
use Rattle.net_sim.proofs.Common.{◌≡◌, ℕ, ◌*◌, ◌%◌, ◌≤◌, Bool, true, false, not, ◌==◌, ◌&&◌, nat_lt, if◌then◌else◌, List, [], ◌∷◌, ◌++◌, map, length, take, drop, Option, Some, None, refl, ap, sym, subst, ◌∙◌, arith, zero, suc, eqb-true, take_all, length-map, bits_of, and_true, spelling, header_of, is_byte_size, is_receive_socket, is_send_socket, packed_count, Command, DataHeader, Order, Legal, orders_of, AllPlain, ArePlain, IsPlain, IsQueued}
use Rattle.std.proofs.Common.{◌/◌, nat_le, Result}
use Rattle.std.proofs.lemmas.Bool.{ltb-true}
use Rattle.std.proofs.lemmas.List.{length-append}
use Rattle.bit_messages.specs.Octets.{octet, octets_of}
use Rattle.bit_messages.proofs.lemmas.{length-bits_of, octets_of-append}
use Rattle.std.specs.Prelude.{slice_index}
use Rattle.std.specs.Int.{w16, w32, to_be_bytes}
use Rattle.ncp_control.specs.Numbers.{is_connection_link}
use Rattle.ncp_control.specs.Packing.{spellings}
use Rattle.ncp_control.specs.Reading.{command_of, length_of, number_at, read_as, read_of, rts_of, str_of}
use Rattle.ncp_control.specs.declared.command.Command.TheVariants as command
use Rattle.ncp_control.specs.declared.fault.ControlFault.{ControlFault}
use Rattle.ncp_control.proofs.lemmas.{header_again, longest_front}
use Rattle.host_pairs.specs.Control.{control_text, is_control, orders_within, then_orders}
use Rattle.host_pairs.proofs.lemmas.{control_read}

-- ---- octets

-- a number as its octet is read again
abbrev low : ℕ → ℕ
low n = octet (n / 128 % 2 == 1) (n / 64 % 2 == 1) (n / 32 % 2 == 1) (n / 16 % 2 == 1) (n / 8 % 2 == 1) (n / 4 % 2 == 1) (n / 2 % 2 == 1) (n % 2 == 1)

octets_low : (octets : List ℕ) → octets_of (bits_of octets) ≡ map low octets
unfolding octets_of
octets_low [] = refl
octets_low (n ∷ ns) = ap (λ (xs : List ℕ). low n ∷ xs) (octets_low ns)

drop_over : (n : ℕ) (xs ys : List ℕ) → length xs ≡ n → drop n (map low (xs ++ ys)) ≡ map low ys
drop_over zero [] ys e = refl
drop_over zero (x ∷ xs) ys e = absurd (omega (arith, e))
drop_over (suc n) [] ys e = absurd (omega (arith, e))
drop_over (suc n) (x ∷ xs) ys e = drop_over n xs ys (omega (arith, e))

-- ---- one command

abbrev OPlain : Option Command → Type 0
OPlain None = Unit {0}
OPlain (Some c) = IsPlain (Legal c)

link_away : (link : ℕ) → is_connection_link link ≡ true → (b : Bool) → (link == 0) ≡ b → b ≡ false
link_away link is true e =
    let from : nat_le 2 link ≡ true = (and_true (nat_le 2 link) (nat_le link 31) is).0 in
    absurd (let same : link ≡ 0 = eqb-true link 0 e in let low : nat_le 2 0 ≡ true = ap (λ (n : ℕ). nat_le 2 n) (sym same) ∙ from in cc)
link_away link is false e = refl

rts_by : (receive send link : ℕ) (a : Bool) → (is_connection_link link ≡ true → (link == 0) ≡ false) → (b : Bool) → is_connection_link link ≡ b → OPlain (if a && b then Some (command.Rts receive send link) else None)
rts_by receive send link true k true e = (refl, refl, k e)
rts_by receive send link true k false e = tt
rts_by receive send link false k b e = tt

rts_plain : (octets : List ℕ) → OPlain (rts_of octets)
rts_plain octets =
    rts_by (number_at w32 octets 1) (number_at w32 octets 5) (slice_index octets 9) (is_receive_socket (number_at w32 octets 1) && is_send_socket (number_at w32 octets 5))
    (λ is. link_away (slice_index octets 9) is (slice_index octets 9 == 0) refl) (is_connection_link (slice_index octets 9)) refl

str_by : (send receive size : ℕ) (b : Bool) → OPlain (if b then Some (command.Str send receive size) else None)
str_by send receive size true = (refl, refl, refl)
str_by send receive size false = tt

str_plain : (octets : List ℕ) → OPlain (str_of octets)
str_plain octets =
    str_by (number_at w32 octets 1) (number_at w32 octets 5) (slice_index octets 9)
    (is_send_socket (number_at w32 octets 1) && is_receive_socket (number_at w32 octets 5) && is_byte_size (slice_index octets 9))

enough_by : (n m : ℕ) → m ≤ n → (b : Bool) → nat_lt n m ≡ b → b ≡ false
enough_by n m le true e = absurd (omega (arith, le, ltb-true n m e))
enough_by n m le false e = refl

read_is : (code : ℕ) (fields : List ℕ) → nat_lt 13 code ≡ false → length_of code ≤ length (code ∷ fields) → read_of (code ∷ fields) ≡ read_as (command_of code (code ∷ fields)) (length_of code)
unfolding read_of
read_is code fields legal there =
    let all : nat_lt (length (code ∷ fields)) (length_of code) ≡ false = enough_by (length (code ∷ fields)) (length_of code) there (nat_lt (length (code ∷ fields)) (length_of code)) refl in
    rw (legal, all) refl

then_plain : (most : ℕ) (octets : List ℕ) (count : ℕ) (o : Option Command) → OPlain o → AllPlain (orders_within most (drop count octets)) → AllPlain (then_orders octets (read_as o count) (orders_within most))
then_plain most octets count None h rest = (tt, rest)
then_plain most octets count (Some c) h rest = (h, rest)

step_plain : (most code : ℕ) (fields : List ℕ) → nat_lt 13 code ≡ false → length_of code ≤ length (code ∷ fields) → OPlain (command_of code (code ∷ fields))
    → AllPlain (orders_within most (drop (length_of code) (code ∷ fields))) → AllPlain (orders_within (suc most) (code ∷ fields))
step_plain most code fields legal there h rest =
    subst (λ (r : Result (Command × ℕ) ControlFault). AllPlain (then_orders (code ∷ fields) r (orders_within most))) (sym (read_is code fields legal there))
    (then_plain most (code ∷ fields) (length_of code) (command_of code (code ∷ fields)) h rest)

ten_by : (n : ℕ) (b : Bool) → (n == 10) ≡ b → not b ≡ false → n ≡ 10
ten_by n true e h = eqb-true n 10 e
ten_by n false e h = absurd (cc)

first_plain : (most : ℕ) (c : Command) (rest : List ℕ) → IsQueued c → AllPlain (orders_within most (map low rest)) → AllPlain (orders_within (suc most) (map low (spelling c ++ rest)))
unfolding command_of
first_plain most command.Nop rest q h = step_plain most 0 (map low rest) refl (omega arith) (refl, refl, refl) h
first_plain most (command.Rts receive send link) rest q h = step_plain most 1 _ refl (omega arith) (rts_plain (map low (spelling (command.Rts receive send link) ++ rest))) h
first_plain most (command.Str send receive size) rest q h = step_plain most 2 _ refl (omega arith) (str_plain (map low (spelling (command.Str send receive size) ++ rest))) h
first_plain most (command.Cls own foreign) rest q h = step_plain most 3 _ refl (omega arith) (refl, refl, refl) h
first_plain most (command.All link messages bits) rest q h = step_plain most 4 _ refl (omega arith) (refl, refl, refl) h
first_plain most (command.Gvb link messages bits) rest q h = step_plain most 5 _ refl (omega arith) (refl, refl, refl) h
first_plain most (command.Ret link messages bits) rest q h = step_plain most 6 _ refl (omega arith) (refl, refl, refl) h
first_plain most (command.Inr link) rest q h = step_plain most 7 _ refl (omega arith) (refl, refl, refl) h
first_plain most (command.Ins link) rest q h = step_plain most 8 _ refl (omega arith) (refl, refl, refl) h
first_plain most (command.Eco octet) rest q h = step_plain most 9 _ refl (omega arith) (refl, refl, refl) h
first_plain most (command.Erp octet) rest q h = step_plain most 10 _ refl (omega arith) (refl, refl, refl) h
first_plain most (command.Err code detail) rest q h =
    let ten : length detail ≡ 10 = ten_by (length detail) (length detail == 10) refl q.3 in
    let behind : drop 10 (map low (detail ++ rest)) ≡ map low rest = drop_over 10 detail rest ten in
    let all : length (map low (detail ++ rest)) ≡ length (detail ++ rest) = length-map (detail ++ rest) low in
    let some : 10 ≤ length (detail ++ rest) = omega (arith, ten, length-append detail rest) in
    step_plain most 11 (low code ∷ map low (detail ++ rest)) refl (omega (arith, all, some)) (refl, refl, refl) (subst (λ (xs : List ℕ). AllPlain (orders_within most xs)) (sym behind) h)
first_plain most command.Rst rest q h = absurd (let no : true ≡ false = q.0 in cc)
first_plain most command.Rrp rest q h = absurd (let no : true ≡ false = q.1 in cc)

within_plain : (most : ℕ) (cs : List Command) → ArePlain cs → AllPlain (orders_within most (map low (spellings cs)))
within_plain zero cs h = tt
within_plain (suc most) [] h = tt
within_plain (suc most) (c ∷ cs) h = first_plain most c (spellings cs) h.0 (within_plain most cs h.1)

-- ---- the message

abbrev header_octets : ℕ → List ℕ
header_octets count = 0 ∷ 8 ∷ to_be_bytes w16 count ++ 0 ∷ []

behind_header : (octets : List ℕ) → map low octets ≡ drop 5 (octets_of (control_text octets))
unfolding octets_of
behind_header octets =
    let split : octets_of (control_text octets) ≡ octets_of (bits_of (header_octets (length octets))) ++ octets_of (bits_of octets) =
    octets_of-append (bits_of (header_octets (length octets))) (bits_of octets) refl in
    let behind : drop 5 (octets_of (control_text octets)) ≡ octets_of (bits_of octets) = ap (λ (xs : List ℕ). drop 5 xs) split in
    sym (behind ∙ octets_low octets)

abbrev header : ℕ → DataHeader
header count = record { size = 8; count = count }

text_plain : (cs : List Command) → length (spellings cs) ≤ 120 → ArePlain cs → AllPlain (orders_of (control_text (spellings cs)))
text_plain cs room h =
    let octets : List ℕ = spellings cs in
    let fits : length (spellings cs) ≤ 120 = room in
    let all : 8 * length (spellings cs) ≤ length (bits_of (spellings cs)) = omega (arith, length-bits_of (spellings cs)) in
    let there : header_of (control_text (spellings cs)) ≡ Some (header (length (spellings cs))) = header_again (header (length (spellings cs))) (bits_of (spellings cs)) (record { size = omega arith; count = omega (arith, fits) }) all in
    let small : nat_lt 120 (length (spellings cs)) ≡ false = enough_by 120 (length (spellings cs)) fits (nat_lt 120 (length (spellings cs))) refl in
    let control : is_control (header (length (spellings cs))) ≡ true = rw small refl in
    let same : length (map low (spellings cs)) ≡ length (spellings cs) = length-map (spellings cs) low in
    let read : orders_of (control_text (spellings cs)) ≡ orders_within (length (map low (spellings cs))) (map low (spellings cs)) =
    control_read (control_text (spellings cs)) (header (length (spellings cs))) (map low (spellings cs)) (map low (spellings cs)) there control (behind_header (spellings cs))
    (sym (take_all (length (spellings cs)) (map low (spellings cs)) (omega (arith, same)))) in
    subst (λ (os : List Order). AllPlain os) (sym read) (within_plain (length (map low (spellings cs))) cs h)

-- as many as have room in a message
pub packed_plain : (cs : List Command) → ArePlain (take (packed_count cs) cs) → AllPlain (orders_of (control_text (spellings (take (packed_count cs) cs))))
packed_plain cs h = text_plain (take (packed_count cs) cs) (longest_front cs).fits h
