-- The tests by which an audit decides: each is true exactly where that holds of which it is.
use Rattle.std.specs.Prelude.{◌≡◌, ℕ, ◌+◌, ◌<◌, ◌==◌, ◌&&◌, ◌||◌, nat_le, Bool, true, false, not, if◌then◌else◌, List, [], ◌∷◌, Option, Some, None, length, take}
use Rattle.std.specs.List.{list_all, list_any, slice_get}
use Rattle.interface.specs.Host.{same_host}
use Rattle.interface.specs.Mailboxes.{same_flow}
use Rattle.interface.specs.declared.address.Flow.{Flow}
use Rattle.interface.specs.declared.crossing.Answer.{Answer}
use Rattle.interface.specs.declared.crossing.Answer.TheVariants as answer
use Rattle.interface.specs.declared.crossing.Crossing.{Crossing}
use Rattle.interface.specs.declared.crossing.Crossing.TheVariants as crossing
use Rattle.interface.specs.declared.message.HostMessage.{HostMessage}
use Rattle.promise.specs.declared.life.Life.{Life}
use Rattle.promise.specs.Safe.{control_flow, last_out, before, receives, sends}
use Rattle.net_sim.specs.declared.auditing.said.Audit.{Audit}
use Rattle.net_sim.specs.declared.auditing.said.Audit.TheVariants as audit
use Rattle.net_sim.specs.declared.auditing.said.Part.TheVariants as part

-- ---- searches

-- what a search finds that looks at this many entries: how many hold together, where one more doesn't; nothing where all hold
abbrev pub Found : (ℕ → Bool) → ℕ → Option ℕ → Type 0
Found hold count None = hold count ≡ true
Found hold count (Some place) = (place < count) × (hold place ≡ true) × (hold (place + 1) ≡ false)

-- ---- messages

abbrev pub same_bit : Bool → Bool → Bool
same_bit true b = b
same_bit false b = not b

abbrev pub same_bits : List Bool → List Bool → Bool
same_bits [] [] = true
same_bits [] (y ∷ ys) = false
same_bits (x ∷ xs) [] = false
same_bits (x ∷ xs) (y ∷ ys) = same_bit x y && same_bits xs ys

-- whether the flow's last message out has this text and wasn't taken yet
abbrev pub is_fresh : HostMessage → List Crossing → Bool
is_fresh m [] = false
is_fresh m (crossing.Out o ∷ log) = if same_flow m.flow o.flow then same_bits o.text m.text else is_fresh m log
is_fresh m (crossing.In o ∷ log) = if same_flow m.flow o.flow then false else is_fresh m log
is_fresh m (crossing.Answer kind f ∷ log) = is_fresh m log
is_fresh m (crossing.Down h ∷ log) = is_fresh m log
is_fresh m (crossing.Up h ∷ log) = is_fresh m log

-- whether a message was taken on the flow since its last message out
abbrev pub was_taken : Flow → List Crossing → Bool
was_taken f [] = false
was_taken f (crossing.Out o ∷ log) = if same_flow f o.flow then false else was_taken f log
was_taken f (crossing.In o ∷ log) = if same_flow f o.flow then true else was_taken f log
was_taken f (crossing.Answer kind g ∷ log) = was_taken f log
was_taken f (crossing.Down h ∷ log) = was_taken f log
was_taken f (crossing.Up h ∷ log) = was_taken f log

abbrev pub answer_holds : Answer → Flow → List Crossing → Bool
answer_holds answer.Rfnm f log = was_taken f log
answer_holds answer.Incomplete f log = true
answer_holds answer.Dead f log = true
answer_holds answer.NotTaken f log = true

-- whether a crossing finds what it has to, in the log below it
abbrev pub crossing_holds : Crossing → List Crossing → Bool
crossing_holds (crossing.Out m) log = true
crossing_holds (crossing.In m) log = is_fresh m log
crossing_holds (crossing.Answer kind f) log = answer_holds kind f log
crossing_holds (crossing.Down h) log = true
crossing_holds (crossing.Up h) log = true

abbrev pub messages_hold : List Crossing → Bool
messages_hold [] = true
messages_hold (c ∷ log) = crossing_holds c log && messages_hold log

-- ---- requests

-- the place of the partner's request of a life
abbrev pub asked_at : List Crossing → Life → Option ℕ
asked_at log x = last_out (control_flow x.peer x.host) (before x.partner_stamp log)

abbrev pub is_there : Option ℕ → Bool
is_there None = false
is_there (Some place) = true

abbrev pub is_place : ℕ → Option ℕ → Bool
is_place place None = false
is_place place (Some other) = place == other

abbrev pub same_place : Option ℕ → Option ℕ → Bool
same_place None other = false
same_place (Some place) other = is_place place other

-- whether a life's partner's request, which went out at this place, is another's own
abbrev pub is_asked : Option ℕ → Life → Life → Bool
is_asked asked x y = x.foreign == y.socket && x.socket == y.foreign && is_place y.own_stamp asked

-- ---- partners

-- whether two lives have the same own request
abbrev pub same_own : Life → Life → Bool
same_own x y = x.own_stamp == y.own_stamp && x.socket == y.socket && x.foreign == y.foreign

-- whether two lives have the same hosts and sockets
abbrev pub same_ends : Life → Life → Bool
same_ends x y = x.socket == y.socket && x.foreign == y.foreign && same_host x.host y.host && same_host x.peer y.peer

-- whether two lives have the same partner's request, where that of the second went out at this place
abbrev pub same_asked : List Crossing → Option ℕ → Life → Life → Bool
same_asked log asked x y = same_ends x y && same_place (asked_at log x) asked

-- whether each of two lives has the other's host and socket for its peer
abbrev pub are_mates : Life → Life → Bool
are_mates x y = x.foreign == y.socket && x.socket == y.foreign && same_host x.peer y.host && same_host y.peer x.host

abbrev pub differ : Bool → Bool → Bool
differ true b = not b
differ false b = b

-- whether only one of two lives has the other's own request for its partner's
abbrev pub is_one_way : List Crossing → Option ℕ → Life → Life → Bool
is_one_way log asked x y = are_mates x y && differ (is_place y.own_stamp (asked_at log x)) (is_place x.own_stamp asked)

-- whether two lives can't both be in one book, where the request of the second one's partner went out at this place
abbrev pub are_at_odds : List Crossing → Option ℕ → Life → Life → Bool
are_at_odds log asked x y = same_own x y || same_asked log asked x y || is_one_way log asked x y

abbrev pub may_both : List Crossing → Life → Life → Bool
may_both log x y = not (are_at_odds log (asked_at log y) x y)

-- whether no two lives are at odds
abbrev pub partners_hold : List Crossing → List Life → Bool
partners_hold log [] = true
partners_hold log (x ∷ lives) = list_all (may_both log x) lives && partners_hold log lives

-- the first two lives that are at odds
abbrev pub FoundTwo : List Crossing → List Life → Option (ℕ × ℕ) → Type 0
FoundTwo log lives None = partners_hold log lives ≡ true
FoundTwo log lives (Some at) =
    Found (λ n. partners_hold log (take n lives)) (length lives) (Some at.1)
    × ((y : Life) × (slice_get lives at.1 ≡ Some y) × Found (λ n. list_all (λ x. may_both log x y) (take n lives)) at.1 (Some at.0))

-- whether two lives are each other's partners, where the request of the first one's partner is the other's own
abbrev pub is_partner : List Crossing → Life → Life → Bool
is_partner log x y = same_host x.peer y.host && same_host y.peer x.host && is_asked (asked_at log y) y x

-- ---- streams

-- whether a receiving life and a sending one match, where the request of the first one's partner went out at this place
abbrev pub is_match : List Crossing → Option ℕ → Life → Life → Bool
is_match log asked x y = receives x && sends y && is_asked asked x y && is_partner log x y

abbrev pub is_unmatched : List Crossing → Life → Life → Bool
is_unmatched log x y = not (is_match log (asked_at log x) x y)

abbrev pub same_found : Option Bool → Option Bool → Bool
same_found None found = false
same_found (Some x) None = false
same_found (Some x) (Some y) = same_bit x y

-- whether the first list is a prefix of the second
abbrev pub is_prefix : List Bool → List Bool → Bool
is_prefix [] ys = true
is_prefix (x ∷ xs) [] = false
is_prefix (x ∷ xs) (y ∷ ys) = same_bit x y && is_prefix xs ys

-- whether the second life matches the first, and sent what that one took
abbrev pub is_source : List Crossing → Option ℕ → Life → Life → Bool
is_source log asked x y = is_match log asked x y && is_prefix x.bits y.bits

-- whether a life took nothing, or what the one that it matches sent
abbrev pub is_fed : List Crossing → List Life → Life → Bool
is_fed log lives x = not (receives x) || length x.bits == 0 || list_any (is_source log (asked_at log x) x) lives

abbrev pub is_handed : Life → List Bool → Bool
is_handed x handed = not (sends x) || is_prefix x.bits handed

abbrev pub are_handed : List Life → List (List Bool) → Bool
are_handed [] [] = true
are_handed [] (h ∷ handed) = false
are_handed (x ∷ lives) [] = false
are_handed (x ∷ lives) (h ∷ handed) = is_handed x h && are_handed lives handed

-- whether what a life sent was handed over, where anything was
abbrev pub handed_at : Life → Option (List Bool) → Bool
handed_at x None = false
handed_at x (Some h) = is_handed x h

-- whether the first lives took what was sent, and what was handed over in them is what they sent
abbrev pub some_fed : List Crossing → List Life → List (List Bool) → ℕ → Bool
some_fed log lives handed n = list_all (is_fed log lives) (take n lives) && are_handed (take n lives) (take n handed)

abbrev pub streams_hold : List Crossing → List Life → List (List Bool) → Bool
streams_hold log lives handed = list_all (is_fed log lives) lives && are_handed lives handed

-- ---- grants

-- whether this many messages and bits, with what was returned, are no more than what a receiving life granted
abbrev pub is_granted : Life → ℕ → ℕ → Bool
is_granted x count size = nat_le (count + x.returned.messages) x.granted.messages && nat_le (size + x.returned.bits) x.granted.bits

-- whether what the second life sent is granted, where it matches the first
abbrev pub may_send : List Crossing → Option ℕ → Life → Life → Bool
may_send log asked x y = not (is_match log asked x y) || is_granted x y.messages (length y.bits)

-- whether what a receiving life took is granted, and what the lives sent that match it
abbrev pub has_granted : List Crossing → List Life → Life → Bool
has_granted log lives x = not (receives x) || (is_granted x x.messages (length x.bits) && list_all (may_send log (asked_at log x) x) lives)

abbrev pub grants_hold : List Crossing → List Life → Bool
grants_hold log lives = list_all (has_granted log lives) lives

-- ---- stamps

-- what crossed at a place
abbrev pub crossed_at : ℕ → List Crossing → Option Crossing
crossed_at place [] = None
crossed_at place (c ∷ log) = if place == length log then Some c else crossed_at place log

abbrev pub is_out : Flow → Option Crossing → Bool
is_out f None = false
is_out f (Some (crossing.Out m)) = same_flow f m.flow
is_out f (Some (crossing.In m)) = false
is_out f (Some (crossing.Answer kind g)) = false
is_out f (Some (crossing.Down h)) = false
is_out f (Some (crossing.Up h)) = false

abbrev pub is_in : Flow → Option Crossing → Bool
is_in f None = false
is_in f (Some (crossing.Out m)) = false
is_in f (Some (crossing.In m)) = same_flow f m.flow
is_in f (Some (crossing.Answer kind g)) = false
is_in f (Some (crossing.Down h)) = false
is_in f (Some (crossing.Up h)) = false

-- whether the stamps of a life name messages
abbrev pub is_stamped : List Crossing → Life → Bool
is_stamped log x = is_out (control_flow x.host x.peer) (crossed_at x.own_stamp log) && is_in (control_flow x.peer x.host) (crossed_at x.partner_stamp log) && is_there (asked_at log x)

abbrev pub is_well_formed : List Crossing → List Life → List (List Bool) → Bool
is_well_formed log lives handed = length lives == length handed && list_all (is_stamped log) lives

-- ---- the audit

-- the answer, by the tests in their order
abbrev pub answered_by : Bool → Bool → Bool → Bool → Bool → Audit
answered_by formed messages partners streams grants =
    if formed then (if messages then (if partners then (if streams then (if grants then audit.Kept else audit.Broken part.Grants) else audit.Broken part.Streams) else audit.Broken part.Partners) else audit.Broken part.Messages) else audit.Malformed

abbrev pub judged : List Crossing → List Life → List (List Bool) → Audit
judged log lives handed = answered_by (is_well_formed log lives handed) (messages_hold log) (partners_hold log lives) (streams_hold log lives handed) (grants_hold log lives)
