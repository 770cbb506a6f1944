-- Lives that are made of messages that crossed, and lives that aren't.
use Rattle.world_keeps_lives.proofs.Common.{◌≡◌, ℕ, Bool, true, false, List, [], ◌∷◌, ◌++◌, Option, Some, None, is_some, refl, ap, sym, subst, arith, Contains, IsSome, Crossing, receives, Life}
use Rattle.host_pairs.specs.Control.{Legal, Order, Wrong, orders_of}
use Rattle.promise.specs.Formed.{IsFormed, first_data, named_in, texts_on, link_of}
use Rattle.net_sim.specs.Worked.{eight, eight_zeros, crossings, taker}
use Rattle.net_sim.specs.WorkedMoments.{rts, str, all_given}
use Rattle.world_keeps_lives.specs.WorkedFormed.{gave, sent_log, stray_log, took, two_log, took_second}
use Rattle.bit_messages.specs.Octets.{octets_of}
use Rattle.ncp_control.specs.Reading.{command_of, read_of}
use Rattle.ncp_control.specs.declared.command.Command.TheVariants as command

-- ---- what the messages say

pub rts_read : orders_of rts.text ≡ Legal (command.Rts 16 33 2) ∷ []
unfolding octets_of orders_of read_of command_of
rts_read = refl

str_read : orders_of str.text ≡ Legal (command.Str 33 16 8) ∷ []
unfolding octets_of orders_of read_of command_of
str_read = refl

all_read : orders_of all_given.text ≡ Legal (command.All 2 2 100) ∷ []
unfolding octets_of orders_of read_of command_of
all_read = refl

plain_read : orders_of eight ≡ Wrong 3 (octets_of eight) ∷ []
unfolding orders_of
plain_read = refl

pub rts_holds : Contains (orders_of rts.text) (Legal (command.Rts 16 33 2))
rts_holds = subst (λ (os : List Order). Contains os (Legal (command.Rts 16 33 2))) (sym rts_read) (0, omega arith, refl)

pub str_holds : Contains (orders_of str.text) (Legal (command.Str 33 16 8))
str_holds = subst (λ (os : List Order). Contains os (Legal (command.Str 33 16 8))) (sym str_read) (0, omega arith, refl)

-- ---- what is named

pub rts_named : named_in 16 33 (orders_of rts.text) ≡ Some 2
rts_named = ap (named_in 16 33) rts_read

pub str_named : named_in 33 16 (orders_of str.text) ≡ Some 8
str_named = ap (named_in 33 16) str_read

unnamed : (o : Option ℕ) → o ≡ None → IsSome o → ⊥
unnamed o is some = let both : false ≡ true = subst (λ (p : Option ℕ). IsSome p) is some in cc

-- a life's bits, where its link is known
bits_on : (log : List Crossing) (x : Life) → link_of log x ≡ Some 2 → IsFormed log x → first_data (receives x) x.messages (texts_on x (Some 2) log) ≡ Some x.bits
bits_on log x is f = subst (λ (o : Option ℕ). first_data (receives x) x.messages (texts_on x o log) ≡ Some x.bits) is f.bits

no_bits : (bits : List Bool) → None ≡ Some bits → ⊥
no_bits bits e = cc

head_is : List Bool → Bool
head_is [] = false
head_is (b ∷ bits) = b

same_head : (bits other : List Bool) → Some bits ≡ Some other → head_is bits ≡ head_is other
same_head bits other e = let same : bits ≡ other = cc in ap head_is same

-- ---- good ones

pub row_took : IsFormed sent_log took
row_took = record { own = ap is_some rts_named; partner = ap is_some str_named; bits = ap (λ (o : Option ℕ). first_data true 1 (texts_on took o sent_log)) rts_named }

pub row_gave : IsFormed sent_log gave
row_gave = record { own = ap is_some str_named; partner = ap is_some rts_named; bits = ap (λ (o : Option ℕ). first_data false 1 (texts_on gave o sent_log)) rts_named }

pub row_took_first : IsFormed two_log took
row_took_first = record { own = ap is_some rts_named; partner = ap is_some str_named; bits = ap (λ (o : Option ℕ). first_data true 1 (texts_on took o two_log)) rts_named }

pub row_took_both : IsFormed two_log (record took { messages = 2; bits = eight ++ eight_zeros })
row_took_both = record { own = ap is_some rts_named; partner = ap is_some str_named; bits = ap (λ (o : Option ℕ). first_data true 2 (texts_on took o two_log)) rts_named }

-- ---- bad ones

-- the safe book in which eight bits were taken though no message of data crossed
pub row_unsaid : IsFormed crossings taker → ⊥
row_unsaid f = unnamed (named_in 16 33 (orders_of eight)) (ap (named_in 16 33) plain_read) f.own

-- the message at the own stamp is an ALL
pub row_another_message : IsFormed sent_log (record took { own_stamp = 12 }) → ⊥
row_another_message f = unnamed (named_in 16 33 (orders_of all_given.text)) (ap (named_in 16 33) all_read) f.own

-- what came in at the partner's stamp is a message of another host
pub row_another_peer : IsFormed sent_log (record took { partner_stamp = 7 }) → ⊥
row_another_peer f = unnamed None refl f.partner

-- the bits crossed on link 3, and the RTS names link 2
pub row_another_link : IsFormed stray_log took → ⊥
row_another_link f = no_bits eight (bits_on stray_log took rts_named f)

-- of two messages the second only
pub row_passed_over : IsFormed two_log took_second → ⊥
unfolding head_is
row_passed_over f = let both : true ≡ false = same_head eight eight_zeros (bits_on two_log took_second rts_named f) in cc

-- two messages, where one crossed
pub row_uncrossed : IsFormed sent_log (record took { messages = 2 }) → ⊥
row_uncrossed f = no_bits eight (bits_on sent_log (record took { messages = 2 }) rts_named f)
