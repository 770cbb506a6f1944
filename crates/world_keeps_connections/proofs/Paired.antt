-- The ends of a finished initial connection match.
use Rattle.world_keeps_connections.proofs.Common.{◌≡◌, ℕ, ◌&&◌, Bool, true, false, if◌then◌else◌, List, Option, Some, None, refl, ap, sym, subst, ◌∙◌, eq-eqb, arith, Seen, Host, is_receive_socket, is_send_socket, Notice, IsLawful, IsBacked, Match, receives, sends, WorldState, AreOpposite}
use Rattle.std.proofs.Common.{All, Contains, ◌+◌, nat_le, ◌%◌, take, eqb-true}
use Rattle.std.proofs.lemmas.List.Elements.{All-contains}
use Rattle.icp.specs.Sockets.{server_fault, user_fault}
use Rattle.icp.specs.declared.fault.StartFault.{StartFault}
use Rattle.icp.specs.declared.fault.StartFault.TheVariants as fault
use Rattle.icp.specs.declared.outcome.Outcome.TheVariants as outcome
use Rattle.host_services.specs.declared.report.Report.{Report}
use Rattle.host_services.specs.declared.report.Report.TheVariants as report
use Rattle.net_sim.specs.Reports.{IsSo, ServerIsDone, UserIsDone, told_to}
use Rattle.promise.specs.Book.{Book}
use Rattle.promise.specs.declared.life.Life.{Life}
use Rattle.promise.specs.Connections.{HasReported, IsConnected, IsEnd, JoinedBook}
use Rattle.world_keeps_connections.proofs.Matches.{world_match}

-- ---- the sockets above an even one

even_two : (n : ℕ) → is_receive_socket n ≡ true → is_receive_socket (n + 2) ≡ true
even_two n e = let a : n % 2 ≡ 0 = eqb-true (n % 2) 0 e in eq-eqb ((n + 2) % 2) 0 (omega (arith, a))

odd_one : (n : ℕ) → is_receive_socket n ≡ true → is_send_socket (n + 1) ≡ true
odd_one n e = let a : n % 2 ≡ 0 = eqb-true (n % 2) 0 e in eq-eqb ((n + 1) % 2) 1 (omega (arith, a))

odd_three : (n : ℕ) → is_receive_socket n ≡ true → is_send_socket (n + 3) ≡ true
odd_three n e = let a : n % 2 ≡ 0 = eqb-true (n % 2) 0 e in eq-eqb ((n + 3) % 2) 1 (omega (arith, a))

-- ---- the parity of what a machine may begin with

even_by : (a b : Bool) → ◌≡◌ {A = Option StartFault} (if a && b then None else Some fault.BadSocket) None → b ≡ true
even_by true true e = refl
even_by true false e = absurd (let no : ◌≡◌ {A = Option StartFault} (Some fault.BadSocket) None = e in cc)
even_by false b e = absurd (let no : ◌≡◌ {A = Option StartFault} (Some fault.BadSocket) None = e in cc)

server_even : (listen base : ℕ) → server_fault listen base ≡ None → is_receive_socket base ≡ true
server_even listen base can = even_by (is_send_socket listen) (is_receive_socket base) can

user_even : (listen own : ℕ) → user_fault listen own ≡ None → is_receive_socket own ≡ true
user_even listen own can = both_first (is_receive_socket own) (nat_le (own + 3) 4294967295) (even_by (is_send_socket listen) (is_receive_socket own && nat_le (own + 3) 4294967295) can) where
  both_first : (a b : Bool) → (a && b) ≡ true → a ≡ true
  both_first true b e = refl
  both_first false b e = e

-- ---- what a report says

reported_so : (book : Book) (host : Host) (what : Report) → All (IsBacked book.notices) book.reports
    → (r : HasReported host what book.reports) → IsSo (told_to r.entry.host (take r.entry.notices book.notices)) what
reported_so book host what backed r =
    let b : IsBacked book.notices r.entry = All-contains (IsBacked book.notices) book.reports r.entry backed r.there in
    subst (λ (x : Report). IsSo (told_to r.entry.host (take r.entry.notices book.notices)) x) r.report b.so

-- ---- two ends that name one another

-- of a book whose lives that continue match where they are at two ends of the same sockets
module _ (book : Book) (backed : All (IsBacked book.notices) book.reports)
    (matches : (x y : Life) → Contains book.lives x → Contains book.lives y → x.ended ≡ false → y.ended ≡ false → AreOpposite x y → receives x ≡ true → sends y ≡ true → Match book.crossings x y) where
  ends_match : (a b : Host) (p q : ℕ) (x y : Life) → IsEnd book a p b q x → IsEnd book b q a p y
      → is_receive_socket p ≡ true → is_send_socket q ≡ true → Match book.crossings x y
  ends_match a b p q x y one two even odd =
      let o : AreOpposite x y = (one.peer ∙ sym two.host, two.peer ∙ sym one.host, one.foreign ∙ sym two.socket, two.foreign ∙ sym one.socket) in
      let receiving : receives x ≡ true = ap is_receive_socket one.socket ∙ even in
      let sending : sends y ≡ true = ap is_send_socket two.socket ∙ odd in
      matches x y one.there two.there one.live two.live o receiving sending

  even_base : (server user : Host) (s u : ℕ) (a b c d : Life) → IsConnected book server user s u a b c d
      → is_receive_socket s ≡ true
  even_base server user s u a b c d k =
      let told : List Notice = told_to k.served.entry.host (take k.served.entry.notices book.notices) in
      let so : ServerIsDone told s (s + 1) = reported_so book server (report.Server (outcome.Done s (s + 1))) backed k.served in
      ap is_receive_socket so.receives ∙ server_even so.began.listen so.began.base so.began.can

  even_own : (server user : Host) (s u : ℕ) (a b c d : Life) → IsConnected book server user s u a b c d
      → is_receive_socket u ≡ true
  even_own server user s u a b c d k =
      let told : List Notice = told_to k.asked.entry.host (take k.asked.entry.notices book.notices) in
      let so : UserIsDone told (u + 2) (u + 3) = reported_so book user (report.User (outcome.Done (u + 2) (u + 3))) backed k.asked in
      let same : u ≡ so.began.own = omega (arith, so.receives) in
      ap is_receive_socket same ∙ user_even so.began.listen so.began.own so.began.can

  pub are_even : (server user : Host) (s u : ℕ) (a b c d : Life) → IsConnected book server user s u a b c d
      → (is_receive_socket s ≡ true) × (is_receive_socket u ≡ true)
  are_even server user s u a b c d k = (even_base server user s u a b c d k, even_own server user s u a b c d k)

  pub to_user : (server user : Host) (s u : ℕ) (a b c d : Life) → IsConnected book server user s u a b c d
      → Match book.crossings c b
  to_user server user s u a b c d k = ends_match user server (u + 2) (s + 1) c b k.user_hears k.server_speaks (even_two u (even_own server user s u a b c d k)) (odd_one s (even_base server user s u a b c d k))

  pub to_server : (server user : Host) (s u : ℕ) (a b c d : Life) → IsConnected book server user s u a b c d
      → Match book.crossings a d
  to_server server user s u a b c d k = ends_match server user s (u + 3) a d k.server_hears k.user_speaks (even_base server user s u a b c d k) (odd_three u (even_own server user s u a b c d k))

  pub joins : JoinedBook book
  joins server user s u a b c d k = (to_user server user s u a b c d k, to_server server user s u a b c d k)

-- of the book of a world
pub world_joined : {C : Type 0} (seen : C → Seen) (hosts : List Host) (w : WorldState C) → IsLawful seen hosts w
    → JoinedBook w.kept.book
world_joined seen hosts w lawful = joins w.kept.book lawful.reported.reports (world_match seen hosts w lawful)
