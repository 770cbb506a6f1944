-- What one notice more does to a machine that has received some.
use Rattle.std.proofs.Common.{◌≡◌, ◌+◌, ◌≤◌, List, [], ◌∷◌, ◌++◌, length, Option, Some, refl, ap, sym, subst, ◌∙◌, append_assoc, length-append, arith}
use Rattle.std.proofs.lemmas.List.{append-nil}
use Rattle.icp.specs.Played.{outcomes_of, server_played, user_played}
use Rattle.icp.specs.Server.{ServerState, server_turn}
use Rattle.icp.specs.User.{UserState, user_turn}
use Rattle.icp.specs.declared.outcome.Outcome.{Outcome}
use Rattle.host_pairs.specs.declared.notice.Notice.{Notice}
use Rattle.icp.proofs.ServerLemmas.{one_server_outcome}
use Rattle.icp.proofs.UserLemmas.{one_user_outcome}

-- the last of a list of at most one
only : (os : List Outcome) (o : Outcome) → length (os ++ o ∷ []) ≤ 1 → os ++ o ∷ [] ≡ o ∷ []
only [] o few = refl
only (x ∷ os) o few = let many : length (os ++ o ∷ []) ≡ length os + 1 = length-append os (o ∷ []) in absurd (omega (arith, many, few))

-- ---- a server

pub server_after : (ns : List Notice) (n : Notice) (s : ServerState) → (server_played s (ns ++ n ∷ [])).0 ≡ (server_turn (server_played s ns).0 n).0
server_after [] n s = refl
server_after (m ∷ ns) n s = server_after ns n (server_turn s m).0

server_outcomes : (ns : List Notice) (n : Notice) (s : ServerState) → (server_played s (ns ++ n ∷ [])).2 ≡ (server_played s ns).2 ++ outcomes_of (server_turn (server_played s ns).0 n).2
server_outcomes [] n s = append-nil (outcomes_of (server_turn s n).2)
server_outcomes (m ∷ ns) n s =
    ap (λ (os : List Outcome). outcomes_of (server_turn s m).2 ++ os) (server_outcomes ns n (server_turn s m).0)
    ∙ sym (append_assoc (outcomes_of (server_turn s m).2) (server_played (server_turn s m).0 ns).2 (outcomes_of (server_turn (server_played (server_turn s m).0 ns).0 n).2))

-- the outcome to which it comes is its only one
pub server_comes : (ns : List Notice) (n : Notice) (s : ServerState) (o : Outcome) → (server_turn (server_played s ns).0 n).2 ≡ Some o → (server_played s (ns ++ n ∷ [])).2 ≡ o ∷ []
server_comes ns n s o is =
    let all : (server_played s (ns ++ n ∷ [])).2 ≡ (server_played s ns).2 ++ o ∷ [] = server_outcomes ns n s ∙ ap (λ (p : Option Outcome). (server_played s ns).2 ++ outcomes_of p) is in
    all ∙ only (server_played s ns).2 o (subst (λ (os : List Outcome). length os ≤ 1) all (one_server_outcome (ns ++ n ∷ []) s))

-- ---- a user

pub user_after : (ns : List Notice) (n : Notice) (s : UserState) → (user_played s (ns ++ n ∷ [])).0 ≡ (user_turn (user_played s ns).0 n).0
user_after [] n s = refl
user_after (m ∷ ns) n s = user_after ns n (user_turn s m).0

user_outcomes : (ns : List Notice) (n : Notice) (s : UserState) → (user_played s (ns ++ n ∷ [])).2 ≡ (user_played s ns).2 ++ outcomes_of (user_turn (user_played s ns).0 n).2
user_outcomes [] n s = append-nil (outcomes_of (user_turn s n).2)
user_outcomes (m ∷ ns) n s =
    ap (λ (os : List Outcome). outcomes_of (user_turn s m).2 ++ os) (user_outcomes ns n (user_turn s m).0)
    ∙ sym (append_assoc (outcomes_of (user_turn s m).2) (user_played (user_turn s m).0 ns).2 (outcomes_of (user_turn (user_played (user_turn s m).0 ns).0 n).2))

pub user_comes : (ns : List Notice) (n : Notice) (s : UserState) (o : Outcome) → (user_turn (user_played s ns).0 n).2 ≡ Some o → (user_played s (ns ++ n ∷ [])).2 ≡ o ∷ []
user_comes ns n s o is =
    let all : (user_played s (ns ++ n ∷ [])).2 ≡ (user_played s ns).2 ++ o ∷ [] = user_outcomes ns n s ∙ ap (λ (p : Option Outcome). (user_played s ns).2 ++ outcomes_of p) is in
    all ∙ only (user_played s ns).2 o (subst (λ (os : List Outcome). length os ≤ 1) all (one_user_outcome (ns ++ n ∷ []) s))
