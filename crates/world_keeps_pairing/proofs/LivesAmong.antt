-- The lives of a book are openings of the law, at any two sockets.
use Rattle.world_keeps_pairing.proofs.Common.{Host, is_receive_socket, is_send_socket, AreAmong, receiver, sender, Moment, IsStory, events_of, crossings_of, law_events, steps, mixed_kept, AreOurs, Network}
use Rattle.std.proofs.Common.{◌≡◌, ℕ, Bool, ◌&&◌, if◌then◌else◌, List, [], refl, sym, subst, true, false}
use Rattle.pairing_law.specs.Sides.{Side, Life}
use Rattle.world_keeps_pairing.specs.Lives.{openings, with_lives}
use Rattle.interface.specs.Mailboxes as mail
use Rattle.host_pairs.proofs.lemmas.{both}
use Rattle.reset_law.specs.Runs.{IsRun}
use Rattle.world_keeps_pairing.proofs.Served.{AreServed}
use Rattle.world_keeps_pairing.proofs.LivesRun.{AllAmong, all_among}
use Rattle.world_keeps_pairing.proofs.Marks.{IsPair}
use Rattle.world_keeps_pairing.proofs.Sides.{receiver_half, sender_half}
use Rattle.world_keeps_pairing.proofs.Tied.{AreOrigins}
use Rattle.world_keeps_pairing.proofs.Unpaired.{IsUnpaired}
use Rattle.world_keeps_pairing.proofs.UnpairedMoments.{AllBare, all_bare}

-- what holds of the receiver's openings, of the sender's, and of none, holds of the openings
pub by_sockets : (P : List Life → Type 0) (h p : Host) (own foreign : ℕ) (moments : List Moment)
    → (IsPair (record { receive = own; send = foreign }) → P (receiver (record { receive = own; send = foreign }) (steps h p (law_events moments))).lives)
    → (IsPair (record { receive = foreign; send = own }) → P (sender (record { receive = foreign; send = own }) (steps p h (law_events moments))).lives)
    → (IsUnpaired own foreign → P []) → P (openings h p own foreign moments)
by_sockets P h p own foreign moments receives sends unpaired = by (is_receive_socket own && is_send_socket foreign) (is_send_socket own && is_receive_socket foreign) refl refl where
  by : (b c : Bool) → (is_receive_socket own && is_send_socket foreign) ≡ b → (is_send_socket own && is_receive_socket foreign) ≡ c
      → P (if b then (receiver (record { receive = own; send = foreign }) (steps h p (law_events moments))).lives else (if c then (sender (record { receive = foreign; send = own }) (steps p h (law_events moments))).lives else []))
  by true c e f = receives (both (is_receive_socket own) (is_send_socket foreign) e)
  by false true e f = let k : (is_send_socket own ≡ true) × (is_receive_socket foreign ≡ true) = both (is_send_socket own) (is_receive_socket foreign) f in sends (k.1, k.0)
  by false false e f = unpaired (e, f)

pub lives_among : (hosts : Network) (origin : Host → Host → ℕ → ℕ) (moments : List Moment) → AreOrigins origin moments → IsStory hosts moments → IsRun hosts (events_of moments) → mail.IsRun hosts.all (crossings_of moments) → AreServed hosts moments → (h p : Host) → AreOurs hosts h p → (own foreign : ℕ)
    → AreAmong (with_lives (origin h p) h p own foreign (mixed_kept hosts.strange moments).book.lives []) (openings h p own foreign moments)
lives_among hosts origin moments from story run mails served h p ours own foreign =
    let all : AllAmong hosts origin moments = all_among hosts origin moments from story run served in
    let none : AllBare hosts origin moments = all_bare hosts origin moments from story run mails served in
    by_sockets (λ (l : List Life). AreAmong (with_lives (origin h p) h p own foreign (mixed_kept hosts.strange moments).book.lives []) l) h p own foreign moments
    (λ q. subst (λ (x : Side). AreAmong (with_lives (origin h p) h p own foreign (mixed_kept hosts.strange moments).book.lives []) x.lives) (sym (receiver_half (record { receive = own; send = foreign }) h p (law_events moments))) (all.receiver (record { receive = own; send = foreign }) q h p ours))
    (λ q. subst (λ (x : Side). AreAmong (with_lives (origin h p) h p own foreign (mixed_kept hosts.strange moments).book.lives []) x.lives) (sym (sender_half (record { receive = foreign; send = own }) p h (law_events moments))) (all.sender (record { receive = foreign; send = own }) q p h (ours.1, ours.0)))
    (λ u. (none.bare h p ours own foreign u).1)
