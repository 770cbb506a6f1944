-- Octets read as a command (NIC 8246, the control commands).
use Rattle.std.specs.Prelude.{ℕ, ◌<◌, ◌≤◌, ◌==◌, ◌&&◌, nat_lt, min, if◌then◌else◌, List, [], ◌∷◌, length, take, drop, slice_index, Option, Some, None, Result, Ok, Err}
use Rattle.std.specs.Int.{Width, w16, w32, byte_len, from_be_bytes}
use Rattle.ncp_control.specs.declared.command.Command.{Command}
use Rattle.ncp_control.specs.declared.command.Command.TheVariants as command
use Rattle.ncp_control.specs.declared.fault.ControlFault.{ControlFault}
use Rattle.ncp_control.specs.declared.fault.ControlFault.TheVariants as fault
use Rattle.ncp_control.specs.Numbers.{is_receive_socket, is_send_socket, is_connection_link, is_byte_size}

-- how many octets a command of this code has
abbrev pub length_of : ℕ → ℕ
length_of code = slice_index (1 ∷ 10 ∷ 10 ∷ 9 ∷ 8 ∷ 4 ∷ 8 ∷ 2 ∷ 2 ∷ 2 ∷ 2 ∷ 12 ∷ 1 ∷ 1 ∷ []) code

-- the number in the octets from a place on
abbrev pub number_at : Width → List ℕ → ℕ → ℕ
number_at w octets place = from_be_bytes w (take (byte_len w) (drop place octets))

-- an RTS: its own socket receives, the foreign one sends, and the link is a connection's
abbrev pub rts_from : ℕ → ℕ → ℕ → Option Command
rts_from receive send link =
    if is_receive_socket receive && is_send_socket send && is_connection_link link then Some (command.Rts receive send link) else None

abbrev pub rts_of : List ℕ → Option Command
rts_of octets = rts_from (number_at w32 octets 1) (number_at w32 octets 5) (slice_index octets 9)

-- an STR: its own socket sends, the foreign one receives, and the size isn't 0
abbrev pub str_from : ℕ → ℕ → ℕ → Option Command
str_from send receive size =
    if is_send_socket send && is_receive_socket receive && is_byte_size size then Some (command.Str send receive size) else None

abbrev pub str_of : List ℕ → Option Command
str_of octets = str_from (number_at w32 octets 1) (number_at w32 octets 5) (slice_index octets 9)

-- an ERR: the kind of the error, and the ten octets that it quotes
abbrev pub err_of : List ℕ → Command
err_of octets = command.Err (slice_index octets 1) (take 10 (drop 2 octets))

-- the command of a legal code with the fields that follow it; none where a field is outside its range
unfoldable pub command_of : ℕ → List ℕ → Option Command
command_of code octets =
    if code == 0 then Some command.Nop
    else (if code == 1 then rts_of octets
    else (if code == 2 then str_of octets
    else (if code == 3 then Some (command.Cls (number_at w32 octets 1) (number_at w32 octets 5))
    else (if code == 4 then Some (command.All (slice_index octets 1) (number_at w16 octets 2) (number_at w32 octets 4))
    else (if code == 5 then Some (command.Gvb (slice_index octets 1) (slice_index octets 2) (slice_index octets 3))
    else (if code == 6 then Some (command.Ret (slice_index octets 1) (number_at w16 octets 2) (number_at w32 octets 4))
    else (if code == 7 then Some (command.Inr (slice_index octets 1))
    else (if code == 8 then Some (command.Ins (slice_index octets 1))
    else (if code == 9 then Some (command.Eco (slice_index octets 1))
    else (if code == 10 then Some (command.Erp (slice_index octets 1))
    else (if code == 11 then Some (err_of octets)
    else (if code == 12 then Some command.Rst
    else Some command.Rrp))))))))))))

-- an ERR about an illegal or a short command quotes all octets that are left, at most ten
abbrev pub quoted_of : List ℕ → ℕ
quoted_of octets = min (length octets) 10

-- what reading gives where the fields of that many octets were looked at
abbrev pub read_as : Option Command → ℕ → Result (Command × ℕ) ControlFault
read_as (Some c) count = Ok (c, count)
read_as None count = Err (fault.Erroneous count)

-- the first command: its code is legal, its octets are all there, its fields are within their ranges
unfoldable pub read_of : List ℕ → Result (Command × ℕ) ControlFault
read_of [] = Err (fault.Short 0)
read_of (code ∷ fields) =
    if nat_lt 13 code
    then Err (fault.IllegalCode (quoted_of (code ∷ fields)))
    else (if nat_lt (length (code ∷ fields)) (length_of code)
    then Err (fault.Short (quoted_of (code ∷ fields)))
    else read_as (command_of code (code ∷ fields)) (length_of code))

-- a command uses at least one octet, and no more than there are. An ERR has room for the octets that are quoted, and there
-- are that many. Reading takes no memory
abbrev pub ReachesWithin : List ℕ → Result (Command × ℕ) ControlFault → Type 0
ReachesWithin octets (Ok read) = (0 < read.1) × (read.1 ≤ length octets)
ReachesWithin octets (Err (fault.IllegalCode quoted)) = (quoted ≤ length octets) × (quoted ≤ 10)
ReachesWithin octets (Err (fault.Short quoted)) = (quoted ≤ length octets) × (quoted ≤ 10)
ReachesWithin octets (Err (fault.Erroneous quoted)) = (0 < quoted) × (quoted ≤ length octets) × (quoted ≤ 10)
ReachesWithin octets (Err fault.OutOfMemory) = ⊥
