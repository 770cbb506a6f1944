-- Why something can't go, or be done or heard at an end: the two hosts aren't through a reset, or the connection was
-- lost.
use Rattle.std.specs.Prelude.{Bool, true, false, not, ◌&&◌, ◌||◌, option_and_then, Option, None, is_some, if◌then◌else◌}
use Rattle.std.specs.List.{list_any}
use Rattle.ncp_control.specs.Command.{is_alone}
use Rattle.host_contract.specs.Acts.{Sockets, Act, Says, Sends, Hands, Grants, Opened, Arrived, Returned}
use Rattle.host_contract.specs.Ends.{is_open}
use Rattle.host_contract.specs.Pairs.{Why, Unreset, Early, Failed, Stopped, Dropped, Pair, Past, is_any, same_sockets}
use Rattle.host_contract.specs.Pairs.{end_of, has_end, past_of, why_away}

abbrev pub why_missing : Sockets → Pair → Option Why
why_missing s p = if is_some (end_of s p) then None else option_and_then (λ (e : Past). e.lost) (past_of s p)

-- of a connection that is reported open: its partner's request was for one that was lost
abbrev pub why_unasked : Sockets → Pair → Option Why
why_unasked s p = option_and_then (λ (e : Past). if e.partner then e.lost else None) (past_of s p)

abbrev pub blamed : Act → Pair → Option Why
blamed (Says c) p = if is_alone c then None else why_away p.stage
blamed (Sends link text) p = why_away p.stage
blamed (Hands s bits) p = why_missing s p
blamed (Grants s messages bits) p = why_missing s p
blamed (Arrived s bits) p = why_missing s p
blamed (Returned s messages bits) p = why_missing s p
blamed (Opened s) p = if has_end s (λ e. not e.partner) p then why_unasked s p else None
blamed act p = None

abbrev pub is_why : Why → Why → Bool
is_why Unreset Unreset = true
is_why Early Early = true
is_why Failed Failed = true
is_why Stopped Stopped = true
is_why Dropped Dropped = true
is_why why other = false

abbrev pub is_blamed : Why → Act → Pair → Bool
is_blamed why act p = is_any (is_why why) (blamed act p)

-- an act is right at an end, unless the end is lost: then that is what is wrong
abbrev pub or_blamed : Act → Pair → Bool → Bool
or_blamed act p is_right = is_right || is_some (blamed act p)

-- both requests have crossed, and no CLS; or else another rule says why not
abbrev pub is_expected : Sockets → Pair → Bool
is_expected s p = or_blamed (Opened s) p (has_end s (λ e. is_open e && not e.told) p)

-- its partner's RTS named a link that the host didn't take
abbrev pub is_ignored : Sockets → Pair → Bool
is_ignored s p = list_any (same_sockets s) p.ignored
