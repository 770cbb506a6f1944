-- What may be said of each call of a world's program when it is made.
use Rattle.world_keeps_streams.proofs.Common.{◌≡◌, not, true, false, List, [], ◌∷◌, find, Some, None, list_any, IsCommand, IsHeader, is_receive_socket, is_send_socket, Command, passes, entry_at, is_mine_on, is_open, sends_on, was_closed, PairState, Bytes, next_of, Entry, HasSaid}
use Rattle.host_keeps_streams.specs.Histories.{Answered, AsksBack, Closes, Gives, Grants, Hears, OpensReceiver, OpensSender, Says, Sends, Takes, Call}
use Rattle.pair_keeps_streams.proofs.lemmas.{IsFirst, IsPaired}
use Rattle.ncp_control.specs.declared.command.Command.TheVariants as command
use Rattle.host_keeps_streams.specs.Histories as calls

-- an RTS that is heard names a link that no sending end has, and a CLS is of a receiving socket and a sending one
abbrev pub IsHeard : Command → List Entry → Type 0
IsHeard (command.Rts receive send l) es = list_any (sends_on l) es ≡ false
IsHeard (command.Cls foreign own) es = is_receive_socket foreign ≡ not (is_receive_socket own)
IsHeard c es = Unit {0}

abbrev pub MayCall : Call → PairState → Type 0
MayCall (Hears stamp said c) q = IsCommand c × IsPaired c × IsFirst c q.entries × IsHeard c q.entries
MayCall (Takes l text) q = Unit {0}
MayCall (Says stamp c) q = HasSaid c q.entries × IsPaired c
MayCall (Sends stamp e size count) q = (next_of q ≡ Some (Bytes e size count)) × IsHeader (record { size = size; count = count })
MayCall (Answered l) q = Unit {0}
MayCall (OpensReceiver own foreign) q = (is_receive_socket own ≡ true) × (is_send_socket foreign ≡ true) × (entry_at own foreign q.entries ≡ None)
MayCall (OpensSender own foreign size) q = (is_send_socket own ≡ true) × (is_receive_socket foreign ≡ true) × (entry_at own foreign q.entries ≡ None)
MayCall (Grants socket messages bits e) q = (find (is_mine_on socket) q.entries ≡ Some e) × (is_receive_socket socket ≡ true) × (is_open e ≡ true) × (passes e.allocation messages bits ≡ false)
MayCall (AsksBack socket messages bits e) q = (find (is_mine_on socket) q.entries ≡ Some e) × (is_open e ≡ true) × (is_receive_socket socket ≡ true)
MayCall (Gives socket bits e) q = (find (is_mine_on socket) q.entries ≡ Some e) × (is_receive_socket socket ≡ false)
MayCall (Closes socket e) q = (find (is_mine_on socket) q.entries ≡ Some e) × (was_closed e ≡ false)

abbrev pub AllMay : List calls.Moment → Type 0
AllMay [] = Unit {0}
AllMay (m ∷ ms) = MayCall m.call m.pair × AllMay ms
