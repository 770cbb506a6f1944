use Rattle.world_replay.proofs.Common.{◌≡◌, ℕ, List, [], ◌∷◌, length, Option, Some, None, arith, refl, ap, Seat, ServiceSeat, Kept, NcpState}
use Rattle.host_services.specs.Turns as turns
use Rattle.sockets.specs.Requests.{served, served_notices}
use Rattle.world_replay.proofs.worked_apart.worked_same.Goals as goal

peers_of : Option NcpState → ℕ
peers_of None = 0
peers_of (Some s) = length s.peers

-- of the first host: how many peers it has, and where what is typed at it goes
peers_in : List Seat → ℕ
peers_in [] = 0
peers_in (s ∷ seats) = peers_of s.program

typed_of : Option ℕ → ℕ
typed_of None = 0
typed_of (Some socket) = socket

typed_in : List ServiceSeat → ℕ
typed_in [] = 0
typed_in (s ∷ all) = typed_of s.services.typing

pub returns-clause-carrier : goal.returns-clause-carrier
returns-clause-carrier c = record { seats = refl; services = refl; kept = refl }

pub returns-clause-program : goal.returns-clause-program
unfolding served served_notices turns.services_told peers_in peers_of
returns-clause-program c = λ h. let same : 1 ≡ 0 = ap peers_in h.seats in omega (arith, same)

pub returns-clause-services : goal.returns-clause-services
unfolding typed_in typed_of
returns-clause-services c = λ h. let same : 7 ≡ 0 = ap typed_in h.services in omega (arith, same)

pub returns-clause-book : goal.returns-clause-book
returns-clause-book c = λ h. let same : 1 ≡ 0 = ap (λ (k : Kept). length k.book.crossings) h.kept in omega (arith, same)
