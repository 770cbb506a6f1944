-- What is looked through block by block.
use Rattle.world_trace.proofs.Common.{List, [], ◌∷◌, ◌++◌, All-append, All-cons, All-head, All-nil, All-tail, All, all_in, Service}

pub in_blocks : (P : Service → Type 0) (blocks : List (List Service)) → All (All P) blocks → All P (all_in blocks)
in_blocks P [] h = All-nil P
in_blocks P (b ∷ blocks) h = All-append P b (all_in blocks) (All-head (All P) b blocks h) (in_blocks P blocks (All-tail (All P) b blocks h))

pub both_parts : (P : Service → Type 0) (xs ys : List Service) → All P (xs ++ ys) → All P xs × All P ys
both_parts P [] ys h = (All-nil P, h)
both_parts P (x ∷ xs) ys h = let rest : All P xs × All P ys = both_parts P xs ys (All-tail P x (xs ++ ys) h) in (All-cons P x xs (All-head P x (xs ++ ys) h) rest.0, rest.1)

pub each_block : (P : Service → Type 0) (blocks : List (List Service)) → All P (all_in blocks) → All (All P) blocks
each_block P [] h = All-nil (All P)
each_block P (b ∷ blocks) h = let parts : All P b × All P (all_in blocks) = both_parts P b (all_in blocks) h in All-cons (All P) b blocks parts.0 (each_block P blocks parts.1)
