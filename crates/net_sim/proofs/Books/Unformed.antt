-- Lives that are made of the messages of a small log, and lives that aren't.
use Rattle.net_sim.proofs.Common.{◌≡◌, ℕ, Bool, true, false, zero, suc, List, [], ◌∷◌, Option, Some, None, refl, ap, sym, subst, arith, Contains, Crossing, HostMessage, Legal, Order, Wrong, first, second, third, Life, receives, given_log, moved, taken_log, eight, eight_zeros, message, eight_sent, rts, str}
use Rattle.std.proofs.Common.{is_some}
use Rattle.std.specs.Prelude.{IsSome}
use Rattle.bit_messages.specs.Octets.{octets_of}
use Rattle.interface.specs.declared.crossing.Crossing.TheVariants as crossing
use Rattle.ncp_control.specs.Reading.{command_of, read_of}
use Rattle.ncp_control.specs.declared.command.Command.TheVariants as command
use Rattle.host_pairs.specs.Control.{orders_of}
use Rattle.promise.specs.Formed.{AreData, IsFormed, first_data, link_of, named_in, texts_on}
use Rattle.net_sim.specs.SmallLogs.{one_given, one_taken, two_rts}

-- ---- what the messages hold

pub rts_read : orders_of rts.text ≡ Legal (command.Rts 16 33 2) ∷ []
unfolding octets_of orders_of read_of command_of
rts_read = refl

pub str_read : orders_of str.text ≡ Legal (command.Str 33 16 8) ∷ []
unfolding octets_of orders_of read_of command_of
str_read = refl

pub plain_read : orders_of eight ≡ Wrong 3 (octets_of eight) ∷ []
unfolding orders_of
plain_read = refl

pub only_there : (order other : Order) (orders : List Order) → orders ≡ order ∷ [] → Contains orders other → order ≡ other
only_there order other orders is there = by (subst (λ (os : List Order). Contains os other) is there) where
  by : Contains (order ∷ []) other → order ≡ other
  by (zero, lt, e) = e
  by (suc k, lt, e) = absurd (omega (arith, lt))

two_read : orders_of two_rts.text ≡ Legal (command.Rts 16 33 2) ∷ Legal (command.Rts 16 33 3) ∷ []
unfolding octets_of orders_of read_of command_of
two_read = refl

pub rts_holds : Contains (orders_of rts.text) (Legal (command.Rts 16 33 2))
rts_holds = subst (λ (os : List Order). Contains os (Legal (command.Rts 16 33 2))) (sym rts_read) (0, omega arith, refl)

pub str_holds : Contains (orders_of str.text) (Legal (command.Str 33 16 8))
str_holds = subst (λ (os : List Order). Contains os (Legal (command.Str 33 16 8))) (sym str_read) (0, omega arith, refl)

-- ---- what is named

pub rts_named : named_in 16 33 (orders_of rts.text) ≡ Some 2
rts_named = ap (named_in 16 33) rts_read

pub str_named : named_in 33 16 (orders_of str.text) ≡ Some 8
str_named = ap (named_in 33 16) str_read

pub unnamed : (o : Option ℕ) → o ≡ None → IsSome o → ⊥
unnamed o is some = let both : false ≡ true = subst (λ (p : Option ℕ). IsSome p) is some in cc

-- a life's bits, where its link is known
bits_on : (log : List Crossing) (x : Life) (link : Option ℕ) → link_of log x ≡ link → IsFormed log x → first_data (receives x) x.messages (texts_on x link log) ≡ Some x.bits
bits_on log x link is f = subst (λ (o : Option ℕ). first_data (receives x) x.messages (texts_on x o log) ≡ Some x.bits) is f.bits

pub no_bits : (bits : List Bool) → None ≡ Some bits → ⊥
no_bits bits e = cc

-- ---- good ones

pub row_taken : IsFormed taken_log one_taken
row_taken = record { own = ap is_some rts_named; partner = ap is_some str_named; bits = ap (λ (o : Option ℕ). first_data true 1 (texts_on one_taken o taken_log)) rts_named }

pub row_given : IsFormed given_log one_given
row_given = record { own = ap is_some str_named; partner = ap is_some rts_named; bits = ap (λ (o : Option ℕ). first_data false 1 (texts_on one_given o given_log)) rts_named }

-- the first of two requests for its sockets
pub row_first_named : IsFormed (crossing.In eight_sent ∷ crossing.In str ∷ crossing.Out two_rts ∷ []) one_taken
row_first_named =
    let named : named_in 16 33 (orders_of two_rts.text) ≡ Some 2 = ap (named_in 16 33) two_read in
    record { own = ap is_some named; partner = ap is_some str_named; bits = ap (λ (o : Option ℕ). first_data true 1 (texts_on one_taken o (crossing.In eight_sent ∷ crossing.In str ∷ crossing.Out two_rts ∷ []))) named }

-- ---- requests

pub own_link : IsFormed (crossing.In eight_sent ∷ crossing.In str ∷ crossing.Out (moved first second 3 rts) ∷ []) one_taken → ⊥
own_link f = unnamed None refl f.own

pub partner_link : IsFormed (crossing.In eight_sent ∷ crossing.In (moved second first 3 str) ∷ crossing.Out rts ∷ []) one_taken → ⊥
partner_link f = unnamed None refl f.partner

pub own_to : IsFormed (crossing.In eight_sent ∷ crossing.In str ∷ crossing.Out (moved first third 0 rts) ∷ []) one_taken → ⊥
own_to f = unnamed None refl f.own

pub own_from : IsFormed (crossing.In eight_sent ∷ crossing.In str ∷ crossing.Out (moved third second 0 rts) ∷ []) one_taken → ⊥
own_from f = unnamed None refl f.own

pub partner_to : IsFormed (crossing.In eight_sent ∷ crossing.In (moved second third 0 str) ∷ crossing.Out rts ∷ []) one_taken → ⊥
partner_to f = unnamed None refl f.partner

pub partner_from : IsFormed (crossing.In eight_sent ∷ crossing.In (moved third first 0 str) ∷ crossing.Out rts ∷ []) one_taken → ⊥
partner_from f = unnamed None refl f.partner

pub own_holds : IsFormed (crossing.In eight_sent ∷ crossing.In str ∷ crossing.Out (message first second 0) ∷ []) one_taken → ⊥
own_holds f = unnamed (named_in 16 33 (orders_of eight)) (ap (named_in 16 33) plain_read) f.own

pub partner_holds : IsFormed (crossing.In eight_sent ∷ crossing.In (message second first 0) ∷ crossing.Out rts ∷ []) one_taken → ⊥
partner_holds f = unnamed (named_in 33 16 (orders_of eight)) (ap (named_in 33 16) plain_read) f.partner

pub own_socket : IsFormed taken_log (record one_taken { socket = 18 }) → ⊥
own_socket f = unnamed (named_in 18 33 (orders_of rts.text)) (ap (named_in 18 33) rts_read) f.own

pub foreign_socket : IsFormed given_log (record one_given { socket = 35 }) → ⊥
foreign_socket f = unnamed (named_in 35 16 (orders_of str.text)) (ap (named_in 35 16) str_read) f.own

-- ---- data

pub before_own : IsFormed (crossing.Out rts ∷ crossing.In eight_sent ∷ crossing.In str ∷ []) (record one_taken { own_stamp = 2; partner_stamp = 0 }) → ⊥
before_own f = no_bits eight (bits_on (crossing.Out rts ∷ crossing.In eight_sent ∷ crossing.In str ∷ []) (record one_taken { own_stamp = 2; partner_stamp = 0 }) (Some 2) rts_named f)

pub before_partner : IsFormed (crossing.In str ∷ crossing.In eight_sent ∷ crossing.Out rts ∷ []) (record one_taken { own_stamp = 0; partner_stamp = 2 }) → ⊥
before_partner f = no_bits eight (bits_on (crossing.In str ∷ crossing.In eight_sent ∷ crossing.Out rts ∷ []) (record one_taken { own_stamp = 0; partner_stamp = 2 }) (Some 2) rts_named f)

pub count : IsFormed taken_log (record one_taken { messages = 2 }) → ⊥
count f = no_bits eight (bits_on taken_log (record one_taken { messages = 2 }) (Some 2) rts_named f)

pub second_named : IsFormed (crossing.In (moved second first 3 eight_sent) ∷ crossing.In str ∷ crossing.Out two_rts ∷ []) one_taken → ⊥
second_named f = no_bits eight (bits_on (crossing.In (moved second first 3 eight_sent) ∷ crossing.In str ∷ crossing.Out two_rts ∷ []) one_taken (Some 2) (ap (named_in 16 33) two_read) f)

pub bits_or : List Bool → Option (List Bool) → List Bool
bits_or d (Some bits) = bits
bits_or d None = d

head_is : List Bool → Bool
head_is [] = false
head_is (b ∷ bits) = b

-- the message has ones
pub not_zeros : (takes : Bool) (m : HostMessage) → m ≡ eight_sent → AreData takes m.text eight_zeros → ⊥
unfolding bits_or head_is
not_zeros true m is held =
    let there : AreData true eight_sent.text eight_zeros = subst (λ (n : HostMessage). AreData true n.text eight_zeros) is held in
    let same : true ≡ false = ap (λ (o : Option (List Bool)). head_is (bits_or eight o)) there in
    cc
not_zeros false m is held =
    let there : AreData false eight_sent.text eight_zeros = subst (λ (n : HostMessage). AreData false n.text eight_zeros) is held in
    let same : true ≡ false = ap head_is there in
    cc

same_bits : (bits other : List Bool) → Some bits ≡ Some other → head_is bits ≡ head_is other
same_bits bits other e = let same : bits ≡ other = cc in ap head_is same

pub taken_bits : IsFormed taken_log (record one_taken { bits = eight_zeros }) → ⊥
unfolding head_is
taken_bits f = let both : true ≡ false = same_bits eight eight_zeros (bits_on taken_log (record one_taken { bits = eight_zeros }) (Some 2) rts_named f) in cc

pub given_bits : IsFormed given_log (record one_given { bits = eight_zeros }) → ⊥
unfolding head_is
given_bits f = let both : true ≡ false = same_bits eight eight_zeros (bits_on given_log (record one_given { bits = eight_zeros }) (Some 2) rts_named f) in cc

pub taken_from : IsFormed (crossing.In (moved third first 2 eight_sent) ∷ crossing.In str ∷ crossing.Out rts ∷ []) one_taken → ⊥
taken_from f = no_bits eight (bits_on (crossing.In (moved third first 2 eight_sent) ∷ crossing.In str ∷ crossing.Out rts ∷ []) one_taken (Some 2) rts_named f)

pub taken_to : IsFormed (crossing.In (moved second third 2 eight_sent) ∷ crossing.In str ∷ crossing.Out rts ∷ []) one_taken → ⊥
taken_to f = no_bits eight (bits_on (crossing.In (moved second third 2 eight_sent) ∷ crossing.In str ∷ crossing.Out rts ∷ []) one_taken (Some 2) rts_named f)

pub given_to : IsFormed (crossing.Out (moved second third 2 eight_sent) ∷ crossing.In rts ∷ crossing.Out str ∷ []) one_given → ⊥
given_to f = no_bits eight (bits_on (crossing.Out (moved second third 2 eight_sent) ∷ crossing.In rts ∷ crossing.Out str ∷ []) one_given (Some 2) rts_named f)

pub way : IsFormed (crossing.Out eight_sent ∷ crossing.In str ∷ crossing.Out rts ∷ []) one_taken → ⊥
way f = no_bits eight (bits_on (crossing.Out eight_sent ∷ crossing.In str ∷ crossing.Out rts ∷ []) one_taken (Some 2) rts_named f)
