-- The octets of each command (NIC 8246, the control commands).
use Rattle.std.specs.Prelude.{◌≡◌, ℕ, ◌<◌, ◌^◌, Bool, true, false, List, [], ◌∷◌, ◌++◌, length, take, replicate, IsTrue, All}
use Rattle.std.specs.Int.{w16, w32, to_be_bytes}
use Rattle.ncp_control.specs.declared.command.Command.{Command}
use Rattle.ncp_control.specs.declared.command.Command.TheVariants as command
use Rattle.ncp_control.specs.Numbers.{is_receive_socket, is_send_socket, is_connection_link, is_byte_size}

-- the code octet, and the fields after it
abbrev pub spelling : Command → List ℕ
spelling command.Nop = 0 ∷ []
spelling (command.Rts receive send link) = 1 ∷ to_be_bytes w32 receive ++ to_be_bytes w32 send ++ link ∷ []
spelling (command.Str send receive size) = 2 ∷ to_be_bytes w32 send ++ to_be_bytes w32 receive ++ size ∷ []
spelling (command.Cls own foreign) = 3 ∷ to_be_bytes w32 own ++ to_be_bytes w32 foreign
spelling (command.All link messages bits) = 4 ∷ link ∷ to_be_bytes w16 messages ++ to_be_bytes w32 bits
spelling (command.Gvb link messages bits) = 5 ∷ link ∷ messages ∷ bits ∷ []
spelling (command.Ret link messages bits) = 6 ∷ link ∷ to_be_bytes w16 messages ++ to_be_bytes w32 bits
spelling (command.Inr link) = 7 ∷ link ∷ []
spelling (command.Ins link) = 8 ∷ link ∷ []
spelling (command.Eco octet) = 9 ∷ octet ∷ []
spelling (command.Erp octet) = 10 ∷ octet ∷ []
spelling (command.Err code detail) = 11 ∷ code ∷ detail
spelling command.Rst = 12 ∷ []
spelling command.Rrp = 13 ∷ []

-- an octet, and the numbers of two and of four octets
abbrev pub IsOctet : ℕ → Type 0
IsOctet n = n < 2 ^ 8

abbrev pub IsDouble : ℕ → Type 0
IsDouble n = n < 2 ^ 16

abbrev pub IsWord : ℕ → Type 0
IsWord n = n < 2 ^ 32

-- the ranges that each command's fields keep
abbrev pub IsCommand : Command → Type 0
IsCommand (command.Rts receive send link) = IsWord receive × IsTrue (is_receive_socket receive) × IsWord send × IsTrue (is_send_socket send) × IsTrue (is_connection_link link)
IsCommand (command.Str send receive size) = IsWord send × IsTrue (is_send_socket send) × IsWord receive × IsTrue (is_receive_socket receive) × IsOctet size × IsTrue (is_byte_size size)
IsCommand (command.Cls own foreign) = IsWord own × IsWord foreign
IsCommand (command.All link messages bits) = IsOctet link × IsDouble messages × IsWord bits
IsCommand (command.Gvb link messages bits) = IsOctet link × IsOctet messages × IsOctet bits
IsCommand (command.Ret link messages bits) = IsOctet link × IsDouble messages × IsWord bits
IsCommand (command.Inr link) = IsOctet link
IsCommand (command.Ins link) = IsOctet link
IsCommand (command.Eco octet) = IsOctet octet
IsCommand (command.Erp octet) = IsOctet octet
IsCommand (command.Err code detail) = IsOctet code × (length detail ≡ 10) × All IsOctet detail
IsCommand command.Nop = Unit {0}
IsCommand command.Rst = Unit {0}
IsCommand command.Rrp = Unit {0}

-- RST and RRP are the only commands in their messages
abbrev pub is_alone : Command → Bool
is_alone command.Rst = true
is_alone command.Rrp = true
is_alone _ = false

-- what an ERR quotes of these octets: the first ten, filled with zeros
abbrev pub detail_of : List ℕ → List ℕ
detail_of octets = take 10 (octets ++ replicate 10 0)
