-- A law of src/worked.rt: its fields are the clauses.
use Rattle.std.specs.Prelude.{Some, [], take, ◌++◌, ◌∷◌, ◌≡◌}
use Rattle.host_pairs.specs.declared.notice.Notice.TheVariants as notice
use Rattle.interface.specs.declared.crossing.Answer.TheVariants as answer
use Rattle.sockets.specs.Sending.{next_out}
use Rattle.sockets.specs.Worked.{ALL, CLS, ERP, ERR, GVB, INR, INS, RET, RRP, RST, answer_heard, closed, control}
use Rattle.sockets.specs.Worked.{control_heard, delivered, every_command, first, got, ready, reset, rst_out, rst_taken}
use Rattle.sockets.specs.Worked.{second, second_in, twelve, want}

-- Every command in every phase of a reset.
pub record WorkedPhases : Type 0 where
  -- outside the ready phase every command but RST and RRP is ignored, and so are data and malformed messages
  pub closed_commands : control_heard closed second every_command ≡ (closed, [])
  pub closed_data : got closed second 5 (0 ∷ 8 ∷ 0 ∷ 1 ∷ 0 ∷ 65 ∷ []) ≡ (closed, [])
  pub closed_malformed : got closed second 0 (0 ∷ 7 ∷ 0 ∷ 1 ∷ 0 ∷ []) ≡ (closed, [])
  pub want_commands : control_heard want second every_command ≡ (want, [])
  pub want_data : got want second 5 (0 ∷ 8 ∷ 0 ∷ 1 ∷ 0 ∷ 65 ∷ []) ≡ (want, [])
  pub want_malformed : got want second 0 (0 ∷ 7 ∷ 0 ∷ 1 ∷ 0 ∷ []) ≡ (want, [])
  pub rst_out_commands : control_heard rst_out second every_command ≡ (rst_out, [])
  pub rst_out_data : got rst_out second 5 (0 ∷ 8 ∷ 0 ∷ 1 ∷ 0 ∷ 65 ∷ []) ≡ (rst_out, [])
  pub rst_out_malformed : got rst_out second 0 (0 ∷ 7 ∷ 0 ∷ 1 ∷ 0 ∷ []) ≡ (rst_out, [])
  pub rst_taken_commands : control_heard rst_taken second every_command ≡ (rst_taken, [])
  pub rst_taken_data : got rst_taken second 5 (0 ∷ 8 ∷ 0 ∷ 1 ∷ 0 ∷ 65 ∷ []) ≡ (rst_taken, [])
  pub rst_taken_malformed : got rst_taken second 0 (0 ∷ 7 ∷ 0 ∷ 1 ∷ 0 ∷ []) ≡ (rst_taken, [])
  -- when the pair is ready each has its answer
  pub ready_commands :
      next_out (control_heard (second_in reset) first every_command).0
      ≡ Some
      (control second first (CLS 33 16 ++ CLS 18 35 ++ ERR 4 (CLS 20 37) 1 ++ ERR 5 (ALL 6 1 8) 2 ++
      ERR 5 (GVB 6 64 128) 6 ++ ERR 5 (RET 7 2 9) 2 ++ ERR 5 (INR 6) 8 ++ ERR 5 (INS 7) 8 ++ ERP 65 ++
      ERR 1 (14 ∷ []) 9))
  pub ready_notices :
      (control_heard (second_in reset) first every_command).1
      ≡ notice.Echoed first 66 ∷ notice.RemoteError first 77 (take 10 twelve) ∷ []
  -- an RST is answered by an RRP in every phase; it opens a closed pair, and is notified of where the pair was closed
  -- or ready
  pub closed_reset : (control_heard closed second RST).1 ≡ notice.Ready second ∷ []
  pub want_reset : next_out (delivered (control_heard want second RST).0 second 0) ≡ Some (control first second RRP)
  pub untold_when_wanted : (control_heard want second RST).1 ≡ []
  pub rst_out_reset :
      next_out (answer_heard (control_heard rst_out second RST).0 answer.Rfnm second 0).0
      ≡ Some (control first second RRP)
  pub untold_when_out : (control_heard rst_out second RST).1 ≡ []
  pub rst_taken_reset : next_out (control_heard rst_taken second RST).0 ≡ Some (control first second RRP)
  pub untold_when_taken : (control_heard rst_taken second RST).1 ≡ []
  -- an RRP is ignored if no RST of this host waits for one
  pub closed_reply : control_heard closed second RRP ≡ (closed, [])
  pub want_reply : control_heard want second RRP ≡ (want, [])
  pub ready_reply : control_heard ready second RRP ≡ (ready, [])
