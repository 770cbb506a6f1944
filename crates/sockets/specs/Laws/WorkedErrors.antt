-- A law of src/worked.rt: its fields are the clauses.
use Rattle.std.specs.List.{range_with_len}
use Rattle.std.specs.Prelude.{None, Some, [], map, replicate, take, ◌++◌, ◌∷◌, ◌≡◌}
use Rattle.host_pairs.specs.Control.{Legal, Wrong, control_text, orders_of}
use Rattle.host_pairs.specs.declared.notice.Notice.TheVariants as notice
use Rattle.ncp_control.specs.declared.command.Command.TheVariants as command
use Rattle.sockets.specs.Sending.{next_out}
use Rattle.sockets.specs.Worked.{ECO, ERP, ERR, RTS, STR, control, control_heard, first, got, reset, second, second_in}
use Rattle.sockets.specs.Worked.{twelve}

-- What is answered by ERR, and what an ERR quotes.
pub record WorkedErrors : Type 0 where
  -- of an RTS with too few octets, those that are there are quoted, in each length
  pub each_length :
      map (λ k. orders_of (control_text (take k (RTS 16 33 5)))) (range_with_len 0 11)
      ≡ [] ∷ (Wrong 2 (1 ∷ []) ∷ []) ∷ (Wrong 2 (1 ∷ 0 ∷ []) ∷ []) ∷ (Wrong 2 (1 ∷ 0 ∷ 0 ∷ []) ∷ []) ∷
      (Wrong 2 (1 ∷ 0 ∷ 0 ∷ 0 ∷ []) ∷ []) ∷ (Wrong 2 (1 ∷ 0 ∷ 0 ∷ 0 ∷ 16 ∷ []) ∷ []) ∷
      (Wrong 2 (1 ∷ 0 ∷ 0 ∷ 0 ∷ 16 ∷ 0 ∷ []) ∷ []) ∷ (Wrong 2 (1 ∷ 0 ∷ 0 ∷ 0 ∷ 16 ∷ 0 ∷ 0 ∷ []) ∷ []) ∷
      (Wrong 2 (1 ∷ 0 ∷ 0 ∷ 0 ∷ 16 ∷ 0 ∷ 0 ∷ 0 ∷ []) ∷ []) ∷ (Wrong 2 (1 ∷ 0 ∷ 0 ∷ 0 ∷ 16 ∷ 0 ∷ 0 ∷ 0 ∷ 33 ∷ []) ∷ []) ∷
      (Legal (command.Rts 16 33 5) ∷ []) ∷ []
  pub short_quoted :
      next_out (control_heard (second_in reset) first (take 9 (RTS 16 33 5))).0
      ≡ Some (control second first (ERR 2 (take 9 (RTS 16 33 5)) 1))
  -- of a message with fewer bits than it announces, or than a header has, the text is quoted, filled with zeros
  pub each_text :
      map (λ n. orders_of (take n (control_text (RTS 16 33 5)))) (0 ∷ 8 ∷ 39 ∷ 40 ∷ 41 ∷ 48 ∷ 119 ∷ [])
      ≡ (Wrong 3 [] ∷ []) ∷ (Wrong 3 (0 ∷ []) ∷ []) ∷ (Wrong 3 (0 ∷ 8 ∷ 0 ∷ 10 ∷ 0 ∷ []) ∷ []) ∷
      (Wrong 3 (0 ∷ 8 ∷ 0 ∷ 10 ∷ 0 ∷ []) ∷ []) ∷ (Wrong 3 (0 ∷ 8 ∷ 0 ∷ 10 ∷ 0 ∷ 0 ∷ []) ∷ []) ∷
      (Wrong 3 (0 ∷ 8 ∷ 0 ∷ 10 ∷ 0 ∷ 1 ∷ []) ∷ []) ∷
      (Wrong 3 (0 ∷ 8 ∷ 0 ∷ 10 ∷ 0 ∷ 1 ∷ 0 ∷ 0 ∷ 0 ∷ 16 ∷ 0 ∷ 0 ∷ 0 ∷ 33 ∷ 4 ∷ []) ∷ []) ∷ []
  -- bits after those that it announces are ignored
  pub more_than_announced :
      next_out (got (second_in reset) first 0 (3 ∷ 8 ∷ 0 ∷ 2 ∷ 5 ∷ 9 ∷ 65 ∷ 9 ∷ 66 ∷ [])).0
      ≡ Some (control second first (ERP 65))
  -- 120 octets of commands are read, 121 are not
  pub greatest_control :
      (control_heard (second_in reset) first (replicate 118 0 ++ ERP 65)).1 ≡ notice.Echoed first 65 ∷ []
  pub too_great_control :
      next_out (control_heard (second_in reset) first (replicate 119 0 ++ ECO 65)).0
      ≡ Some (control second first (ERR 3 (0 ∷ 8 ∷ 0 ∷ 121 ∷ 0 ∷ []) 5))
  -- after a field outside its range the reading continues; after an illegal code and missing octets it doesn't, but
  -- what came before is heard
  pub goes_on :
      next_out (control_heard (second_in reset) first (RTS 16 33 1 ++ RTS 17 33 5 ++ RTS 16 34 5 ++ RTS 16 33 32 ++
      STR 33 16 0 ++ ECO 65)).0
      ≡ Some
      (control second first (ERR 3 (RTS 16 33 1) 0 ++ ERR 3 (RTS 17 33 5) 0 ++ ERR 3 (RTS 16 34 5) 0 ++
      ERR 3 (RTS 16 33 32) 0 ++ ERR 3 (STR 33 16 0) 0 ++ ERP 65))
  pub ends_at_an_illegal_code :
      next_out (control_heard (second_in reset) first (ECO 65 ++ 14 ∷ ECO 66)).0
      ≡ Some (control second first (ERP 65 ++ ERR 1 (14 ∷ ECO 66) 7))
  -- an ERR with any code is notified of and never answered
  pub never_answered : next_out (control_heard (second_in reset) first (ERR 77 (take 10 twelve) 0)).0 ≡ None
  pub told_of :
      (control_heard (second_in reset) first (ERR 77 (take 10 twelve) 0)).1
      ≡ notice.RemoteError first 77 (take 10 twelve) ∷ []
