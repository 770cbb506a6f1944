-- Commands written and read.
use Rattle.std.proofs.Common.{◌≡◌, ℕ, zero, suc, ◌+◌, ◌<◌, ◌≤◌, Bool, true, false, List, [], ◌∷◌, ◌++◌, length, take, drop, get_or, refl, ap, sym, ◌∙◌, arith, inl, inr, subst, Option, Some, None, unwrap_or, Ok, Err, nat_lt, All, ◌&&◌, if◌then◌else◌}
use Rattle.std.proofs.lemmas.Bool.Decides.{nat_tests}
use Rattle.std.proofs.lemmas.Bool.{cases_lt, and_parts}
use Rattle.std.proofs.lemmas.List.{length-append, length-take-le, length-drop, get_or_past}
use Rattle.std.proofs.lemmas.List.Elements.{All-take, All-drop}
use Rattle.std.proofs.Math.Seq.{take-add, take-append_seam}
use Rattle.std.proofs.lemmas.Nat.{be_bytes_2, be_bytes_4, from_be_bytes-to_be_bytes_2, from_be_bytes-to_be_bytes_4}
use Rattle.std.specs.Result.{result_ok}
use Rattle.std.specs.Int.{w16, w32, to_be_bytes}
use Rattle.std.proofs.lemmas.Option.{same_Some}
use Rattle.ncp_control.specs.declared.command.Command.{Command}
use Rattle.ncp_control.specs.declared.command.Command.TheVariants as command
use Rattle.ncp_control.specs.declared.fault.ControlFault.TheVariants as fault
use Rattle.ncp_control.specs.Numbers.{is_receive_socket, is_send_socket, is_connection_link, is_byte_size}
use Rattle.ncp_control.specs.Command.{spelling, IsCommand, IsOctet, IsDouble, IsWord}
use Rattle.ncp_control.specs.Reading.{read_of, read_as, command_of, rts_from, rts_of, str_from, str_of, err_of, length_of, number_at, quoted_of}

-- what reading a command says of the octets
pub record IsRead (code : ℕ) (fields : List ℕ) (c : Command) (used : ℕ) : Type 0 where
  pub legal : code ≤ 13
  pub whole : length_of code ≤ length (code ∷ fields)
  pub found : command_of code (code ∷ fields) ≡ Some c
  pub counted : used ≡ length_of code

-- a legal code, whole and within its ranges, is read
read_of-found : (code : ℕ) (fields : List ℕ) (c : Command) (used : ℕ) → IsRead code fields c used → read_of (code ∷ fields) ≡ Ok (c, used)
unfolding read_of
read_of-found code fields c used r =
    let legal : nat_lt 13 code ≡ false = grind (arith, nat_tests, r.legal) in
    let whole : nat_lt (length (code ∷ fields)) (length_of code) ≡ false = grind (arith, nat_tests, r.whole) in
    rw (legal, whole, r.found) (ap (λ (n : ℕ). Ok (c, n)) (sym r.counted))

record IsReadAs (found : Option Command) (count : ℕ) (c : Command) (used : ℕ) : Type 0 where
  found_is : found ≡ Some c
  counted : used ≡ count

read_as-tells : (found : Option Command) (count : ℕ) (c : Command) (used : ℕ) → read_as found count ≡ Ok (c, used) → IsReadAs found count c used
read_as-tells (Some d) count c used e =
    let same : (d, count) ≡ (c, used) = same_Some _ _ (ap result_ok e) in
    record { found_is = ap (λ (p : Command × ℕ). Some p.0) same; counted = sym (ap (λ (p : Command × ℕ). p.1) same) }
read_as-tells None count c used e = absurd cc

-- and nothing else is
read_of-tells : (code : ℕ) (fields : List ℕ) (c : Command) (used : ℕ) → read_of (code ∷ fields) ≡ Ok (c, used) → IsRead code fields c used
unfolding read_of
read_of-tells code fields c used e = elim (cases_lt 13 code) [
  | inl high ↦
      let illegal : nat_lt 13 code ≡ true = grind (arith, nat_tests, high) in
      absurd (let fails : Err (fault.IllegalCode (quoted_of (code ∷ fields))) ≡ Ok (c, used) = rw illegal at e in cc)
  | inr legal ↦ elim (cases_lt (length (code ∷ fields)) (length_of code)) [
    | inl few ↦
        let is_legal : nat_lt 13 code ≡ false = grind (arith, nat_tests, legal) in
        let short : nat_lt (length (code ∷ fields)) (length_of code) ≡ true = grind (arith, nat_tests, few) in
        absurd (let fails : Err (fault.Short (quoted_of (code ∷ fields))) ≡ Ok (c, used) = rw (is_legal, short) at e in cc)
    | inr whole ↦
        let is_legal : nat_lt 13 code ≡ false = grind (arith, nat_tests, legal) in
        let is_whole : nat_lt (length (code ∷ fields)) (length_of code) ≡ false = grind (arith, nat_tests, whole) in
        let read : read_as (command_of code (code ∷ fields)) (length_of code) ≡ Ok (c, used) = rw (is_legal, is_whole) at e in
        let told : IsReadAs (command_of code (code ∷ fields)) (length_of code) c used = read_as-tells (command_of code (code ∷ fields)) (length_of code) c used read in
        record { legal = legal; whole = whole; found = told.found_is; counted = told.counted }
  ]
]

-- only an RTS and an STR can have fields outside their ranges, and both have ten octets
pub only_requests : (code : ℕ) (octets : List ℕ) → code ≤ 13 → command_of code octets ≡ None → length_of code ≡ 10
unfolding command_of
only_requests zero octets legal none = absurd cc
only_requests (suc zero) octets legal none = refl
only_requests (suc (suc zero)) octets legal none = refl
only_requests (suc (suc (suc zero))) octets legal none = absurd cc
only_requests (suc (suc (suc (suc zero)))) octets legal none = absurd cc
only_requests (suc (suc (suc (suc (suc zero))))) octets legal none = absurd cc
only_requests (suc (suc (suc (suc (suc (suc zero)))))) octets legal none = absurd cc
only_requests (suc (suc (suc (suc (suc (suc (suc zero))))))) octets legal none = absurd cc
only_requests (suc (suc (suc (suc (suc (suc (suc (suc zero)))))))) octets legal none = absurd cc
only_requests (suc (suc (suc (suc (suc (suc (suc (suc (suc zero))))))))) octets legal none = absurd cc
only_requests (suc (suc (suc (suc (suc (suc (suc (suc (suc (suc zero)))))))))) octets legal none = absurd cc
only_requests (suc (suc (suc (suc (suc (suc (suc (suc (suc (suc (suc zero))))))))))) octets legal none = absurd cc
only_requests (suc (suc (suc (suc (suc (suc (suc (suc (suc (suc (suc (suc zero)))))))))))) octets legal none = absurd cc
only_requests (suc (suc (suc (suc (suc (suc (suc (suc (suc (suc (suc (suc (suc zero))))))))))))) octets legal none = absurd cc
only_requests (suc (suc (suc (suc (suc (suc (suc (suc (suc (suc (suc (suc (suc (suc code)))))))))))))) octets legal none = absurd (omega (arith, legal))

-- ---- what was written is read again

rts_from-found : (r s l receive send link : ℕ) → r ≡ receive → s ≡ send → l ≡ link
    → is_receive_socket receive ≡ true → is_send_socket send ≡ true → is_connection_link link ≡ true → rts_from r s l ≡ Some (command.Rts receive send link)
rts_from-found r s l receive send link same_receive same_send same_link even odd range =
    rw (same_receive, same_send, same_link, even, odd, range) refl

str_from-found : (s r b send receive size : ℕ) → s ≡ send → r ≡ receive → b ≡ size
    → is_send_socket send ≡ true → is_receive_socket receive ≡ true → is_byte_size size ≡ true → str_from s r b ≡ Some (command.Str send receive size)
str_from-found s r b send receive size same_send same_receive same_size odd even some =
    rw (same_send, same_receive, same_size, odd, even, some) refl

same_cls : (a b own foreign : ℕ) → a ≡ own → b ≡ foreign → Some (command.Cls a b) ≡ Some (command.Cls own foreign)
same_cls a b own foreign same_own same_foreign = rw (same_own, same_foreign) refl

same_all : (l a b link messages bits : ℕ) → l ≡ link → a ≡ messages → b ≡ bits → Some (command.All l a b) ≡ Some (command.All link messages bits)
same_all l a b link messages bits same_link same_messages same_bits = rw (same_link, same_messages, same_bits) refl

same_ret : (l a b link messages bits : ℕ) → l ≡ link → a ≡ messages → b ≡ bits → Some (command.Ret l a b) ≡ Some (command.Ret link messages bits)
same_ret l a b link messages bits same_link same_messages same_bits = rw (same_link, same_messages, same_bits) refl

-- an ERR's ten octets, before any others
detail_again : (detail rest : List ℕ) → length detail ≡ 10 → take 10 (detail ++ rest) ≡ detail
detail_again detail rest ten = ap (λ (n : ℕ). take n (detail ++ rest)) (sym ten) ∙ take-append_seam detail rest

pub again : (c : Command) (rest : List ℕ) → IsCommand c → read_of (spelling c ++ rest) ≡ Ok (c, length (spelling c))
unfolding command_of
again command.Nop rest h = read_of-found 0 rest command.Nop 1 record { legal = omega arith; whole = omega arith; found = refl; counted = refl }
again (command.Rts receive send link) rest h =
    read_of-found 1 (to_be_bytes w32 receive ++ to_be_bytes w32 send ++ link ∷ rest) (command.Rts receive send link) 10
    record {
      legal = omega arith;
      whole = omega arith;
      found = rts_from-found _ _ _ receive send link (from_be_bytes-to_be_bytes_4 receive h.0) (from_be_bytes-to_be_bytes_4 send h.2) refl h.1 h.3 h.4;
      counted = refl;
    }
again (command.Str send receive size) rest h =
    read_of-found 2 (to_be_bytes w32 send ++ to_be_bytes w32 receive ++ size ∷ rest) (command.Str send receive size) 10
    record {
      legal = omega arith;
      whole = omega arith;
      found = str_from-found _ _ _ send receive size (from_be_bytes-to_be_bytes_4 send h.0) (from_be_bytes-to_be_bytes_4 receive h.2) refl h.1 h.3 h.5;
      counted = refl;
    }
again (command.Cls own foreign) rest h =
    read_of-found 3 (to_be_bytes w32 own ++ to_be_bytes w32 foreign ++ rest) (command.Cls own foreign) 9
    record {
      legal = omega arith;
      whole = omega arith;
      found = same_cls _ _ own foreign (from_be_bytes-to_be_bytes_4 own h.0) (from_be_bytes-to_be_bytes_4 foreign h.1);
      counted = refl;
    }
again (command.All link messages bits) rest h =
    read_of-found 4 (link ∷ to_be_bytes w16 messages ++ to_be_bytes w32 bits ++ rest) (command.All link messages bits) 8
    record {
      legal = omega arith;
      whole = omega arith;
      found = same_all _ _ _ link messages bits refl (from_be_bytes-to_be_bytes_2 messages h.1) (from_be_bytes-to_be_bytes_4 bits h.2);
      counted = refl;
    }
again (command.Gvb link messages bits) rest h = read_of-found 5 (link ∷ messages ∷ bits ∷ rest) (command.Gvb link messages bits) 4 record { legal = omega arith; whole = omega arith; found = refl; counted = refl }
again (command.Ret link messages bits) rest h =
    read_of-found 6 (link ∷ to_be_bytes w16 messages ++ to_be_bytes w32 bits ++ rest) (command.Ret link messages bits) 8
    record {
      legal = omega arith;
      whole = omega arith;
      found = same_ret _ _ _ link messages bits refl (from_be_bytes-to_be_bytes_2 messages h.1) (from_be_bytes-to_be_bytes_4 bits h.2);
      counted = refl;
    }
again (command.Inr link) rest h = read_of-found 7 (link ∷ rest) (command.Inr link) 2 record { legal = omega arith; whole = omega arith; found = refl; counted = refl }
again (command.Ins link) rest h = read_of-found 8 (link ∷ rest) (command.Ins link) 2 record { legal = omega arith; whole = omega arith; found = refl; counted = refl }
again (command.Eco octet) rest h = read_of-found 9 (octet ∷ rest) (command.Eco octet) 2 record { legal = omega arith; whole = omega arith; found = refl; counted = refl }
again (command.Erp octet) rest h = read_of-found 10 (octet ∷ rest) (command.Erp octet) 2 record { legal = omega arith; whole = omega arith; found = refl; counted = refl }
again (command.Err code detail) rest h =
    read_of-found 11 (code ∷ detail ++ rest) (command.Err code detail) (suc (suc (length detail)))
    record {
      legal = omega arith;
      whole = omega (arith, h.1, length-append detail rest);
      found = ap (λ (d : List ℕ). Some (command.Err code d)) (detail_again detail rest h.1);
      counted = omega (arith, h.1);
    }
again command.Rst rest h = read_of-found 12 rest command.Rst 1 record { legal = omega arith; whole = omega arith; found = refl; counted = refl }
again command.Rrp rest h = read_of-found 13 rest command.Rrp 1 record { legal = omega arith; whole = omega arith; found = refl; counted = refl }

-- each spelling begins with a legal code, and has as many octets as the code says
record IsCoded (code : ℕ) (octets : List ℕ) : Type 0 where
  legal : code ≤ 13
  counted : length octets ≡ length_of code

spelling_coded : (c : Command) → IsCommand c → IsCoded (get_or (spelling c) 0 0) (spelling c)
spelling_coded (command.Err code detail) h = record { legal = omega arith; counted = omega (arith, h.1) }
spelling_coded c h = record { legal = omega arith; counted = refl }

coded : (c : Command) → IsCommand c → (code : ℕ) (fields : List ℕ) → spelling c ≡ code ∷ fields → IsCoded code (code ∷ fields)
coded c h code fields e = let
    P : List ℕ → Type 0 = λ octets. IsCoded (get_or octets 0 0) octets
    in subst P e (spelling_coded c h)

-- no prefix of a spelling but the whole is a command
pub short : (c : Command) (front rest : List ℕ) → IsCommand c → spelling c ≡ front ++ rest → 0 < length rest → read_of front ≡ Err (fault.Short (quoted_of front))
unfolding read_of
short c [] rest h e some = refl
short c (code ∷ fields) rest h e some =
    let s : IsCoded code (code ∷ fields ++ rest) = coded c h code (fields ++ rest) e in
    let legal : nat_lt 13 code ≡ false = grind (arith, nat_tests, s.legal) in
    let few : length (code ∷ fields) < length_of code = omega (arith, s.counted, some, length-append fields rest) in
    let is_short : nat_lt (length (code ∷ fields)) (length_of code) ≡ true = grind (arith, nat_tests, few) in
    rw (legal, is_short) refl

-- ---- what was read is spelled so

-- the command is one, and the octets used are its spelling
pub record IsSpelled (octets : List ℕ) (c : Command) (used : ℕ) : Type 0 where
  pub spelled : take used octets ≡ spelling c
  pub command : IsCommand c

-- each octet that is read is one, also past the end
read_below : (octets : List ℕ) (k : ℕ) → All IsOctet octets → get_or octets k 0 < 256
read_below octets k small = elim (cases_lt k (length octets)) [
  | inl there ↦ small k 0 there
  | inr past ↦ rw (get_or_past octets k 0 past) (omega arith)
]

-- the number in two octets, and in four
double_again : (octets : List ℕ) (place : ℕ) → All IsOctet octets → place + 2 ≤ length octets → to_be_bytes w16 (number_at w16 octets place) ≡ take 2 (drop place octets)
double_again octets place small there =
    be_bytes_2 (take 2 (drop place octets)) (number_at w16 octets place)
    (length-take-le 2 (drop place octets) (omega (arith, there, length-drop place octets)))
    (λ k. read_below (take 2 (drop place octets)) k (All-take IsOctet 2 (drop place octets) (All-drop IsOctet place octets small)))
    refl

word_again : (octets : List ℕ) (place : ℕ) → All IsOctet octets → place + 4 ≤ length octets → to_be_bytes w32 (number_at w32 octets place) ≡ take 4 (drop place octets)
word_again octets place small there =
    be_bytes_4 (take 4 (drop place octets)) (number_at w32 octets place)
    (length-take-le 4 (drop place octets) (omega (arith, there, length-drop place octets)))
    (λ k. read_below (take 4 (drop place octets)) k (All-take IsOctet 4 (drop place octets) (All-drop IsOctet place octets small)))
    refl

double_below : (octets : List ℕ) (place : ℕ) → All IsOctet octets → IsDouble (number_at w16 octets place)
double_below octets place small =
    let cells : All IsOctet (take 2 (drop place octets)) = All-take IsOctet 2 (drop place octets) (All-drop IsOctet place octets small) in
    omega (arith, read_below (take 2 (drop place octets)) 0 cells, read_below (take 2 (drop place octets)) 1 cells)

pub word_below : (octets : List ℕ) (place : ℕ) → All IsOctet octets → IsWord (number_at w32 octets place)
word_below octets place small =
    let cells : All IsOctet (take 4 (drop place octets)) = All-take IsOctet 4 (drop place octets) (All-drop IsOctet place octets small) in
    omega (arith, read_below (take 4 (drop place octets)) 0 cells, read_below (take 4 (drop place octets)) 1 cells, read_below (take 4 (drop place octets)) 2 cells, read_below (take 4 (drop place octets)) 3 cells)

one_at : (octets : List ℕ) (place : ℕ) → place < length octets → take 1 (drop place octets) ≡ get_or octets place 0 ∷ []
one_at [] place there = absurd (omega (arith, there))
one_at (n ∷ ns) zero there = refl
one_at (n ∷ ns) (suc place) there = one_at ns place (omega (arith, there))

joined : {a b x y : List ℕ} → a ≡ x → b ≡ y → a ++ b ≡ x ++ y
joined {a = a} {y = y} front back = ap (λ (l : List ℕ). a ++ l) back ∙ ap (λ (l : List ℕ). l ++ y) front

chosen : (b : Bool) (x c : Command) → (if b then Some x else None) ≡ Some c → (b ≡ true) × (x ≡ c)
chosen true x c e = (refl, same_Some x c e)
chosen false x c e = absurd cc

found_as : (x : Command) (octets : List ℕ) (c : Command) (used : ℕ) → Some x ≡ Some c → IsSpelled octets x used → IsSpelled octets c used
found_as x octets c used found s = subst (λ (c : Command). IsSpelled octets c used) (same_Some x c found) s

-- two sockets after a code octet
sockets_again : (code : ℕ) (fields : List ℕ) → All IsOctet (code ∷ fields) → 8 ≤ length fields
    → take 8 fields ≡ to_be_bytes w32 (number_at w32 (code ∷ fields) 1) ++ to_be_bytes w32 (number_at w32 (code ∷ fields) 5)
sockets_again code fields small there =
    take-add 4 4 fields ∙ joined (sym (word_again (code ∷ fields) 1 small (omega (arith, there)))) (sym (word_again (code ∷ fields) 5 small (omega (arith, there))))

-- and an octet after them
request_again : (code : ℕ) (fields : List ℕ) → All IsOctet (code ∷ fields) → 9 ≤ length fields
    → take 9 fields ≡ to_be_bytes w32 (number_at w32 (code ∷ fields) 1) ++ to_be_bytes w32 (number_at w32 (code ∷ fields) 5) ++ get_or (code ∷ fields) 9 0 ∷ []
request_again code fields small there = take-add 8 1 fields ∙ joined (sockets_again code fields small (omega (arith, there))) (one_at fields 8 (omega (arith, there)))

-- counts of messages and bits after a code octet and a link
counts_again : (code link : ℕ) (fields : List ℕ) → All IsOctet (code ∷ link ∷ fields) → 6 ≤ length fields
    → take 6 fields ≡ to_be_bytes w16 (number_at w16 (code ∷ link ∷ fields) 2) ++ to_be_bytes w32 (number_at w32 (code ∷ link ∷ fields) 4)
counts_again code link fields small there =
    take-add 2 4 fields ∙ joined (sym (double_again (code ∷ link ∷ fields) 2 small (omega (arith, there)))) (sym (word_again (code ∷ link ∷ fields) 4 small (omega (arith, there))))

spelled_rts : (fields : List ℕ) (c : Command) → All IsOctet (1 ∷ fields) → 10 ≤ length (1 ∷ fields) → rts_of (1 ∷ fields) ≡ Some c → IsSpelled (1 ∷ fields) c 10
spelled_rts fields c small whole found =
    let o : List ℕ = 1 ∷ fields in
    let found_is : (is_receive_socket (number_at w32 o 1) && is_send_socket (number_at w32 o 5) && is_connection_link (get_or o 9 0) ≡ true) × (command.Rts (number_at w32 o 1) (number_at w32 o 5) (get_or o 9 0) ≡ c) = chosen _ _ c found in
    let tests : (is_receive_socket (number_at w32 o 1) && is_send_socket (number_at w32 o 5) ≡ true) × (is_connection_link (get_or o 9 0) ≡ true) = and_parts _ _ found_is.0 in
    let parities : (is_receive_socket (number_at w32 o 1) ≡ true) × (is_send_socket (number_at w32 o 5) ≡ true) = and_parts _ _ tests.0 in
    subst (λ (c : Command). IsSpelled o c 10) found_is.1
    record {
      spelled = ap (λ (l : List ℕ). 1 ∷ l) (request_again 1 fields small (omega (arith, whole)));
      command = (word_below o 1 small, parities.0, word_below o 5 small, parities.1, tests.1);
    }

spelled_str : (fields : List ℕ) (c : Command) → All IsOctet (2 ∷ fields) → 10 ≤ length (2 ∷ fields) → str_of (2 ∷ fields) ≡ Some c → IsSpelled (2 ∷ fields) c 10
spelled_str fields c small whole found =
    let o : List ℕ = 2 ∷ fields in
    let found_is : (is_send_socket (number_at w32 o 1) && is_receive_socket (number_at w32 o 5) && is_byte_size (get_or o 9 0) ≡ true) × (command.Str (number_at w32 o 1) (number_at w32 o 5) (get_or o 9 0) ≡ c) = chosen _ _ c found in
    let tests : (is_send_socket (number_at w32 o 1) && is_receive_socket (number_at w32 o 5) ≡ true) × (is_byte_size (get_or o 9 0) ≡ true) = and_parts _ _ found_is.0 in
    let parities : (is_send_socket (number_at w32 o 1) ≡ true) × (is_receive_socket (number_at w32 o 5) ≡ true) = and_parts _ _ tests.0 in
    subst (λ (c : Command). IsSpelled o c 10) found_is.1
    record {
      spelled = ap (λ (l : List ℕ). 2 ∷ l) (request_again 2 fields small (omega (arith, whole)));
      command = (word_below o 1 small, parities.0, word_below o 5 small, parities.1, read_below o 9 small, tests.1);
    }

spelled_cls : (fields : List ℕ) → All IsOctet (3 ∷ fields) → 9 ≤ length (3 ∷ fields) → IsSpelled (3 ∷ fields) (command.Cls (number_at w32 (3 ∷ fields) 1) (number_at w32 (3 ∷ fields) 5)) 9
spelled_cls fields small whole = record {
  spelled = ap (λ (l : List ℕ). 3 ∷ l) (sockets_again 3 fields small (omega (arith, whole)));
  command = (word_below (3 ∷ fields) 1 small, word_below (3 ∷ fields) 5 small);
}

spelled_all : (fields : List ℕ) → All IsOctet (4 ∷ fields) → 8 ≤ length (4 ∷ fields)
    → IsSpelled (4 ∷ fields) (command.All (get_or (4 ∷ fields) 1 0) (number_at w16 (4 ∷ fields) 2) (number_at w32 (4 ∷ fields) 4)) 8
spelled_all [] small whole = absurd (omega (arith, whole))
spelled_all (link ∷ fields) small whole = record {
  spelled = ap (λ (l : List ℕ). 4 ∷ link ∷ l) (counts_again 4 link fields small (omega (arith, whole)));
  command = (read_below (4 ∷ link ∷ fields) 1 small, double_below (4 ∷ link ∷ fields) 2 small, word_below (4 ∷ link ∷ fields) 4 small);
}

spelled_gvb : (fields : List ℕ) → All IsOctet (5 ∷ fields) → 4 ≤ length (5 ∷ fields)
    → IsSpelled (5 ∷ fields) (command.Gvb (get_or (5 ∷ fields) 1 0) (get_or (5 ∷ fields) 2 0) (get_or (5 ∷ fields) 3 0)) 4
spelled_gvb [] small whole = absurd (omega (arith, whole))
spelled_gvb (link ∷ []) small whole = absurd (omega (arith, whole))
spelled_gvb (link ∷ messages ∷ []) small whole = absurd (omega (arith, whole))
spelled_gvb (link ∷ messages ∷ bits ∷ rest) small whole = record {
  spelled = refl;
  command = (read_below (5 ∷ link ∷ messages ∷ bits ∷ rest) 1 small, read_below (5 ∷ link ∷ messages ∷ bits ∷ rest) 2 small, read_below (5 ∷ link ∷ messages ∷ bits ∷ rest) 3 small);
}

spelled_ret : (fields : List ℕ) → All IsOctet (6 ∷ fields) → 8 ≤ length (6 ∷ fields)
    → IsSpelled (6 ∷ fields) (command.Ret (get_or (6 ∷ fields) 1 0) (number_at w16 (6 ∷ fields) 2) (number_at w32 (6 ∷ fields) 4)) 8
spelled_ret [] small whole = absurd (omega (arith, whole))
spelled_ret (link ∷ fields) small whole = record {
  spelled = ap (λ (l : List ℕ). 6 ∷ link ∷ l) (counts_again 6 link fields small (omega (arith, whole)));
  command = (read_below (6 ∷ link ∷ fields) 1 small, double_below (6 ∷ link ∷ fields) 2 small, word_below (6 ∷ link ∷ fields) 4 small);
}

-- the commands of a code and one octet
pair_again : (code : ℕ) (fields : List ℕ) → 2 ≤ length (code ∷ fields) → take 2 (code ∷ fields) ≡ code ∷ get_or (code ∷ fields) 1 0 ∷ []
pair_again code [] whole = absurd (omega (arith, whole))
pair_again code (octet ∷ rest) whole = refl

spelled_err : (fields : List ℕ) → All IsOctet (11 ∷ fields) → 12 ≤ length (11 ∷ fields) → IsSpelled (11 ∷ fields) (err_of (11 ∷ fields)) 12
spelled_err [] small whole = absurd (omega (arith, whole))
spelled_err (code ∷ detail) small whole = record {
  spelled = refl;
  command = (read_below (11 ∷ code ∷ detail) 1 small, length-take-le 10 detail (omega (arith, whole)), All-take IsOctet 10 detail (All-drop IsOctet 2 (11 ∷ code ∷ detail) small));
}

spelled_by_code : (code : ℕ) (fields : List ℕ) (c : Command) → All IsOctet (code ∷ fields) → IsRead code fields c (length_of code) → IsSpelled (code ∷ fields) c (length_of code)
unfolding command_of
spelled_by_code zero fields c small r = found_as command.Nop (0 ∷ fields) c 1 r.found record { spelled = refl; command = tt }
spelled_by_code (suc zero) fields c small r = spelled_rts fields c small r.whole r.found
spelled_by_code (suc (suc zero)) fields c small r = spelled_str fields c small r.whole r.found
spelled_by_code (suc (suc (suc zero))) fields c small r = found_as _ (3 ∷ fields) c 9 r.found (spelled_cls fields small r.whole)
spelled_by_code (suc (suc (suc (suc zero)))) fields c small r = found_as _ (4 ∷ fields) c 8 r.found (spelled_all fields small r.whole)
spelled_by_code (suc (suc (suc (suc (suc zero))))) fields c small r = found_as _ (5 ∷ fields) c 4 r.found (spelled_gvb fields small r.whole)
spelled_by_code (suc (suc (suc (suc (suc (suc zero)))))) fields c small r = found_as _ (6 ∷ fields) c 8 r.found (spelled_ret fields small r.whole)
spelled_by_code (suc (suc (suc (suc (suc (suc (suc zero))))))) fields c small r =
    found_as (command.Inr (get_or (7 ∷ fields) 1 0)) (7 ∷ fields) c 2 r.found record { spelled = pair_again 7 fields r.whole; command = read_below (7 ∷ fields) 1 small }
spelled_by_code (suc (suc (suc (suc (suc (suc (suc (suc zero)))))))) fields c small r =
    found_as (command.Ins (get_or (8 ∷ fields) 1 0)) (8 ∷ fields) c 2 r.found record { spelled = pair_again 8 fields r.whole; command = read_below (8 ∷ fields) 1 small }
spelled_by_code (suc (suc (suc (suc (suc (suc (suc (suc (suc zero))))))))) fields c small r =
    found_as (command.Eco (get_or (9 ∷ fields) 1 0)) (9 ∷ fields) c 2 r.found record { spelled = pair_again 9 fields r.whole; command = read_below (9 ∷ fields) 1 small }
spelled_by_code (suc (suc (suc (suc (suc (suc (suc (suc (suc (suc zero)))))))))) fields c small r =
    found_as (command.Erp (get_or (10 ∷ fields) 1 0)) (10 ∷ fields) c 2 r.found record { spelled = pair_again 10 fields r.whole; command = read_below (10 ∷ fields) 1 small }
spelled_by_code (suc (suc (suc (suc (suc (suc (suc (suc (suc (suc (suc zero))))))))))) fields c small r = found_as _ (11 ∷ fields) c 12 r.found (spelled_err fields small r.whole)
spelled_by_code (suc (suc (suc (suc (suc (suc (suc (suc (suc (suc (suc (suc zero)))))))))))) fields c small r = found_as command.Rst (12 ∷ fields) c 1 r.found record { spelled = refl; command = tt }
spelled_by_code (suc (suc (suc (suc (suc (suc (suc (suc (suc (suc (suc (suc (suc zero))))))))))))) fields c small r = found_as command.Rrp (13 ∷ fields) c 1 r.found record { spelled = refl; command = tt }
spelled_by_code (suc (suc (suc (suc (suc (suc (suc (suc (suc (suc (suc (suc (suc (suc code)))))))))))))) fields c small r = absurd (omega (arith, r.legal))

pub spelled_by : (octets : List ℕ) (c : Command) (used : ℕ) → All IsOctet octets → read_of octets ≡ Ok (c, used) → IsSpelled octets c used
unfolding read_of
spelled_by [] c used small e = absurd cc
spelled_by (code ∷ fields) c used small e =
    let r : IsRead code fields c used = read_of-tells code fields c used e in
    let s : IsSpelled (code ∷ fields) c (length_of code) = spelled_by_code code fields c small record { legal = r.legal; whole = r.whole; found = r.found; counted = refl } in
    subst (λ (n : ℕ). IsSpelled (code ∷ fields) c n) (sym r.counted) s
