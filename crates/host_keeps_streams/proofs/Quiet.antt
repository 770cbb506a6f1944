-- What leaves the ends on a link as they are.
use Rattle.host_keeps_streams.proofs.Common.{◌≡◌, ℕ, Bool, true, false, ◌&&◌, ◌==◌, nat_le, List, filter, Option, Some, None, refl, Host, header_of, data_bits, Command, DataHeader, Found, Unconnected, Ending, Open, at_end, all_taken, granted, gvb_taken, given_back, interrupted, ret_taken, returned, receiver_on, sender_on, desk_taken, arrived_if, data_found, data_taken, is_acceptable, spent, DeskState, receives_on, sends_on, Entry, LeavesReceiver, LeavesSender}
use Rattle.ncp_control.specs.declared.command.Command.TheVariants as command
use Rattle.host_keeps_streams.proofs.Lists.{apart, not_received, not_sent, other_receives, other_sends, received_is, sent_is}

-- whatever has the end that is looked for isn't on the link, and stays off it
abbrev Off : (Entry → Bool) → (Entry → Bool) → (Entry → Entry) → Type 0
Off test on change = (e : Entry) → test e ≡ true → (on e ≡ false) × (on (change e) ≡ false)

abbrev pub Same : (Entry → Bool) → DeskState → DeskState → Type 0
Same on d e = filter on e.entries ≡ filter on d.entries

at_end_same : (on : Entry → Bool) (c : Command) (change : Entry → DeskState → DeskState) (w : Found) (d : DeskState) → ((e : Entry) → Same on d (change e d)) → Same on d (at_end c change w d)
at_end_same on c change Unconnected d f = refl
at_end_same on c change Ending d f = refl
at_end_same on c change (Open e) d f = f e

ret_same : (on : Entry → Bool) (l m n : ℕ) (e : Entry) (d : DeskState) → Off (receives_on l) on (returned m n) → Same on d (ret_taken l m n e d)
ret_same on l m n e d off = by (nat_le m e.allocation.messages && nat_le n e.allocation.bits) refl where
  by : (v : Bool) → (nat_le m e.allocation.messages && nat_le n e.allocation.bits) ≡ v → Same on d (ret_taken l m n e d)
  by true t = rw t (apart _ on _ d.entries off)
  by false t = rw t refl

data_if : (on : Entry → Bool) (l : ℕ) (text : List Bool) (e : Entry) (d : DeskState) (o : Option DataHeader) → ((n : ℕ) → Off (receives_on l) on (spent n)) → Same on d (arrived_if l e text o d)
data_if on l text e d None off = refl
data_if on l text e d (Some h) off = by (is_acceptable e h) refl where
  by : (v : Bool) → is_acceptable e h ≡ v → Same on d (arrived_if l e text (Some h) d)
  by true t = rw t (apart _ on _ d.entries (off _))
  by false t = rw t refl

data_same : (on : Entry → Bool) (l : ℕ) (text : List Bool) (d : DeskState) (w : Found) → ((n : ℕ) → Off (receives_on l) on (spent n)) → Same on d (data_found l text w d)
data_same on l text d Unconnected off = refl
data_same on l text d Ending off = refl
data_same on l text d (Open e) off = data_if on l text e d _ off

-- ---- receivers

pub receiver_leaves : (link : ℕ) (peer : Host) (busy : List ℕ) (stamp : ℕ) (c : Command) (d : DeskState) → LeavesReceiver link c → Same (receives_on link) d (desk_taken peer busy stamp c d)
receiver_leaves link peer busy stamp (command.Rts receive send l) d a = absurd a
receiver_leaves link peer busy stamp (command.Str send receive size) d a = absurd a
receiver_leaves link peer busy stamp (command.Cls own foreign) d a = absurd a
receiver_leaves link peer busy stamp (command.All l m n) d a =
    at_end_same (receives_on link) (command.All l m n) (all_taken l m n) (sender_on l d) d (λ e. apart (sends_on l) (receives_on link) (granted m n) d.entries (λ x t. (not_received link x (sent_is l x t), not_received link (granted m n x) (sent_is l x t))))
receiver_leaves link peer busy stamp (command.Gvb l m n) d a =
    at_end_same (receives_on link) (command.Gvb l m n) (gvb_taken l m n) (sender_on l d) d (λ e. apart (sends_on l) (receives_on link) (given_back m n) d.entries (λ x t. (not_received link x (sent_is l x t), not_received link (given_back m n x) (sent_is l x t))))
receiver_leaves link peer busy stamp (command.Ret l m n) d a =
    at_end_same (receives_on link) (command.Ret l m n) (ret_taken l m n) (receiver_on l d) d (λ e. ret_same (receives_on link) l m n e d (λ x t. (other_receives link l a x t, other_receives link l a (returned m n x) t)))
receiver_leaves link peer busy stamp (command.Inr l) d a = at_end_same (receives_on link) (command.Inr l) interrupted (sender_on l d) d (λ e. refl)
receiver_leaves link peer busy stamp (command.Ins l) d a = at_end_same (receives_on link) (command.Ins l) interrupted (receiver_on l d) d (λ e. refl)
receiver_leaves link peer busy stamp c d a = refl

pub receiver_elsewhere : (link l : ℕ) (text : List Bool) (d : DeskState) → (l == link) ≡ false → Same (receives_on link) d (data_taken l text d)
receiver_elsewhere link l text d away = data_same _ l text d _ (λ n x t. (other_receives link l away x t, other_receives link l away (spent n x) t))

-- ---- senders

pub sender_leaves : (link : ℕ) (peer : Host) (busy : List ℕ) (stamp : ℕ) (c : Command) (d : DeskState) → LeavesSender link c → Same (sends_on link) d (desk_taken peer busy stamp c d)
sender_leaves link peer busy stamp (command.Rts receive send l) d a = absurd a
sender_leaves link peer busy stamp (command.Str send receive size) d a = absurd a
sender_leaves link peer busy stamp (command.Cls own foreign) d a = absurd a
sender_leaves link peer busy stamp (command.All l m n) d a =
    at_end_same (sends_on link) (command.All l m n) (all_taken l m n) (sender_on l d) d (λ e. apart (sends_on l) (sends_on link) (granted m n) d.entries (λ x t. (other_sends link l a x t, other_sends link l a (granted m n x) t)))
sender_leaves link peer busy stamp (command.Gvb l m n) d a =
    at_end_same (sends_on link) (command.Gvb l m n) (gvb_taken l m n) (sender_on l d) d (λ e. apart (sends_on l) (sends_on link) (given_back m n) d.entries (λ x t. (other_sends link l a x t, other_sends link l a (given_back m n x) t)))
sender_leaves link peer busy stamp (command.Ret l m n) d a =
    at_end_same (sends_on link) (command.Ret l m n) (ret_taken l m n) (receiver_on l d) d (λ e. ret_same (sends_on link) l m n e d (λ x t. (not_sent link x (received_is l x t), not_sent link (returned m n x) (received_is l x t))))
sender_leaves link peer busy stamp (command.Inr l) d a = at_end_same (sends_on link) (command.Inr l) interrupted (sender_on l d) d (λ e. refl)
sender_leaves link peer busy stamp (command.Ins l) d a = at_end_same (sends_on link) (command.Ins l) interrupted (receiver_on l d) d (λ e. refl)
sender_leaves link peer busy stamp c d a = refl

-- data of the peer are no matter of those that send
pub sender_hears_data : (link l : ℕ) (text : List Bool) (d : DeskState) → Same (sends_on link) d (data_taken l text d)
sender_hears_data link l text d = data_same _ l text d _ (λ n x t. (not_sent link x (received_is l x t), not_sent link (spent n x) (received_is l x t)))
