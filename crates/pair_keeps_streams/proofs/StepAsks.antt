-- Calls by which the other host hears nothing and takes nothing.
use Rattle.pair_keeps_streams.proofs.Common.{◌≡◌, ℕ, ◌==◌, ◌&&◌, not, Bool, true, false, if◌then◌else◌, List, [], ◌∷◌, ◌++◌, Option, Some, None, is_some, refl, ap, sym, subst, ◌∙◌, append-nil, Host, Command, DataHeader, Sender, Stream, Box, Empty, Waiting, Taken, with_end, called_off, entry_at, must_close, is_receiving, receives_on, sends_on, PairState, freed, Entry, Listener, received_gone, received_open, sent_open, HasSaid, Call, Takes, Says, Answered, OpensReceiver, OpensSender, Grants, AsksBack, Gives, Closes, IsTelling, IsAllowed, KeepBox, is_out, ends_by, gone_by, received_at, sent_at, asked_received, asked_sent, asks_for, closed_received, closes, data_received, of_end, received_out, sent_out, named, name_of}
use Rattle.ncp_control.specs.declared.command.Command.TheVariants as command
use Rattle.stream_law.specs.Receivers as receivers
use Rattle.stream_law.specs.Senders as senders
use Rattle.pair_keeps_streams.proofs.Joint.{queue_by, IsPairedCall, Party, Post, Free, Lies, Fetched, IsPosted, IsBox, Joint, receives, sends}
use Rattle.pair_keeps_streams.proofs.After.{Stepped, staying, keep_box}
use Rattle.pair_keeps_streams.proofs.Facts.{IsNoHearing, Facts, free_empty, said, later, alone}
use Rattle.pair_keeps_streams.proofs.Granted.{AreKept, IsRequest, IsUnasked, NoOpens, closes_none, none_kept, out_kept}
use Rattle.pair_keeps_streams.proofs.Streams.{AreQuiet, AreQuietSent, Sending, quiet_received, quiet_sent, told_sent}

-- ---- what a user asks for

abbrev pub IsAsking : Call → Type 0
IsAsking (OpensReceiver own foreign) = Unit {0}
IsAsking (OpensSender own foreign z) = Unit {0}
IsAsking (Grants socket m n e) = Unit {0}
IsAsking (AsksBack socket m n e) = Unit {0}
IsAsking (Gives socket bits e) = Unit {0}
IsAsking (Closes socket e) = Unit {0}
IsAsking k = ⊥

-- ---- quiet moves

pub if_quiet : (v : Bool) (ms : List receivers.Move) → AreQuiet ms → AreQuiet (if v then ms else [])
if_quiet true ms a = a
if_quiet false ms a = tt

pub open_quiet : (v : Bool) (c : ℕ) → AreQuiet (received_open v c)
open_quiet true c = (tt, tt)
open_quiet false c = tt

gone_quiet : (v : Bool) (c : ℕ) → AreQuiet (received_gone v c)
gone_quiet true c = (tt, tt)
gone_quiet false c = tt

pub open_quiet_sent : (v : Bool) (c : ℕ) → AreQuietSent (sent_open v c)
open_quiet_sent true c = (tt, tt)
open_quiet_sent false c = tt

pub closes_quiet : (name : ℕ → ℕ → ℕ) (busy : List ℕ) (es : List Entry) → AreQuietSent (closes name busy es)
closes_quiet name busy [] = tt
closes_quiet name busy (e ∷ es) = by (closes_quiet name busy es) (must_close busy e && not (is_receiving e)) where
  by : AreQuietSent (closes name busy es) → (v : Bool) → AreQuietSent (if v then senders.Close (named name e) ∷ closes name busy es else closes name busy es)
  by after true = (tt, after)
  by after false = after

asks_quiet : (link c : ℕ) (o : Option ℕ) → AreQuiet (asks_for link c o)
asks_quiet link c None = tt
asks_quiet link c (Some other) = if_quiet (other == link) (receivers.Ask c ∷ []) (tt, tt)

asked_quiet : (name : ℕ → ℕ → ℕ) (link : ℕ) (o : Option Entry) → AreQuiet (asked_received name link o)
asked_quiet name link None = tt
asked_quiet name link (Some e) = if_quiet (receives_on link e) (received_open (is_some e.partner) (named name e)) (open_quiet (is_some e.partner) (named name e))

closed_quiet : (name : ℕ → ℕ → ℕ) (link : ℕ) (o : Option Entry) → AreQuiet (closed_received name link o)
closed_quiet name link None = tt
closed_quiet name link (Some e) = if_quiet (receives_on link e) (received_gone e.partner_closed (named name e)) (gone_quiet e.partner_closed (named name e))

out_quiet : (name : ℕ → ℕ → ℕ) (link : ℕ) (c : Command) (es : List Entry) → AreQuiet (received_out name link c es)
out_quiet name link (command.Rts receive send l) es = asked_quiet name link (entry_at receive send es)
out_quiet name link (command.Str send receive z) es = asked_quiet name link (entry_at send receive es)
out_quiet name link (command.Cls own foreign) es = closed_quiet name link (entry_at own foreign es)
out_quiet name link c es = tt

-- an end that opens leaves the box
opens_keep : (out v : Bool) (c : ℕ) (s : Sender) → KeepBox out (sent_open v c) s
opens_keep out true c s = (tt, tt)
opens_keep out false c s = tt

asked_calm : (name : ℕ → ℕ → ℕ) (link : ℕ) (s : Sender) (o : Option Entry) → AreQuietSent (asked_sent name link s o) × KeepBox true (asked_sent name link s o) s
asked_calm name link s None = (tt, tt)
asked_calm name link s (Some e) = by (sends_on link e) s.end where
  by : (v : Bool) (o : Option ℕ) → AreQuietSent (if v then of_end (named name e) o (sent_open (is_some e.partner) (named name e)) else []) × KeepBox true (if v then of_end (named name e) o (sent_open (is_some e.partner) (named name e)) else []) s
  by false o = (tt, tt)
  by true None = (tt, tt)
  by true (Some own) = at _ where
    at : (v : Bool) → AreQuietSent (if v then sent_open (is_some e.partner) (named name e) else []) × KeepBox true (if v then sent_open (is_some e.partner) (named name e) else []) s
    at true = (open_quiet_sent _ _, opens_keep true _ _ s)
    at false = (tt, tt)

out_calm : (name : ℕ → ℕ → ℕ) (link : ℕ) (c : Command) (es : List Entry) (s : Sender) → AreQuietSent (sent_out name link c es s) × KeepBox true (sent_out name link c es s) s
out_calm name link (command.Rts receive send l) es s = asked_calm name link s (entry_at receive send es)
out_calm name link (command.Str send receive z) es s = asked_calm name link s (entry_at send receive es)
out_calm name link c es s = (tt, tt)

-- data on another link
passes_quiet : (link l : ℕ) (text : List Bool) (o : Option DataHeader) → (l == link) ≡ false → AreQuiet (data_received link l text o)
passes_quiet link l text None e = tt
passes_quiet link l text (Some h) e = rw e tt

-- nothing is queued
abbrev rest : List Command → List Command
rest [] = []
rest (c ∷ cs) = cs

no_more : (xs ys : List Command) → xs ≡ xs ++ ys → ys ≡ []
no_more [] ys e = sym e
no_more (x ∷ xs) ys e = no_more xs ys (ap rest e)

module _ (number other : ℕ → ℕ → ℕ → ℕ) (tells : IsTelling number) (others : IsTelling other) (facts : Facts number tells) (link : ℕ) (off : (link == 0) ≡ false) (x y : Stream) (gone : ℕ → ℕ → ℕ) (pending : List Command) (post : Post) (b : Party)
    (q : PairState) (j : Joint number other tells others link x y (staying gone q.entries pending post) b) (peer : Host) (listening : List Listener) where
  -- what is in the box of the other stream stays there
  same_box : (mine : Post) (here : Party) → here.stays ≡ true → IsBox b here x.box
  same_box mine here stays = record { whole = j.box_x.whole; left = λ e f. j.box_x.left e refl }

  own_box : (k : Call) (mine : Post) (es : List Entry) (g : ℕ → ℕ → ℕ) (cs : List Command) (box : Box) → IsPosted mine box → IsBox (staying g es cs mine) b box
  own_box k mine es g cs box p = record { whole = λ e. p; left = λ e f text l. absurd (cc) }

  pub room_here : (k : Call) → (is_out link k q ≡ false → post ≡ Free) → is_out link k q ≡ false → y.box ≡ Empty
  room_here k room e = free_empty post y.box (j.box_y.whole refl) (room e)

  pub stepped : (k : Call) (allowed : IsAllowed link k q y.sender) (paired : IsPairedCall k) (mine : Post) (b' : Party)
      → Joint number other tells others link (receives (received_at (name_of number gone) link k q listening) x) (sends (sent_at (name_of number gone) link k q listening y.sender) y) (later number other tells others facts link off x y gone pending post b q j peer listening k allowed paired mine) b'
      → Stepped number other tells others link x y (staying gone q.entries pending post) peer k q listening mine b'
  stepped k allowed paired mine b' joint = record {
    new = (said number other tells others facts link off x y gone pending post b q j peer listening k allowed paired).new;
    queue = (said number other tells others facts link off x y gone pending post b q j peer listening k allowed paired).queue;
    joint = joint;
  }

  -- quiet moves
  pub calm : (k : Call) (allowed : IsAllowed link k q y.sender) (paired : IsPairedCall k) → IsNoHearing k → AreQuiet (received_at (name_of number gone) link k q listening) → AreQuietSent (sent_at (name_of number gone) link k q listening y.sender)
      → (b.stays ≡ true → AreKept (sent_at (name_of number gone) link k q listening y.sender) y) → (out : Bool) → KeepBox out (sent_at (name_of number gone) link k q listening y.sender) y.sender → (out ≡ false → y.box ≡ Empty) → Stepped number other tells others link x y (staying gone q.entries pending post) peer k q listening post b
  calm k allowed paired silent quiet quiet_s ready out keep room =
      stepped k allowed paired post b
      (alone number other tells others facts link off x y gone pending post b q j peer listening k allowed paired silent x.box y.box
      (quiet_received _ x quiet)
      (quiet_sent out _ y quiet_s keep room) ready
      post b.post (same_box post _ refl)
      (own_box k post _ _ _ y.box (j.box_y.whole refl)))

  keeps : (k : Call) → IsAllowed link k q y.sender → KeepBox (is_out link k q) (sent_at (name_of number gone) link k q listening y.sender) y.sender
  keeps k allowed = keep_box number other tells others link x y gone pending post b q j peer listening k allowed

  asks_calm : (k : Call) → IsAsking k → AreQuiet (received_at (name_of number gone) link k q listening) × AreQuietSent (sent_at (name_of number gone) link k q listening y.sender) × IsNoHearing k
  asks_calm (OpensReceiver own foreign) i = (asks_quiet link _ _, tt, tt)
  asks_calm (OpensSender own foreign z) i = (tt, (tt, tt), tt)
  asks_calm (Grants socket m n e) i = (if_quiet (receives_on link e) (receivers.Grant (named (name_of number gone) e) m n ∷ []) (tt, tt), tt, tt)
  asks_calm (AsksBack socket m n e) i = (if_quiet (receives_on link e) (receivers.AskBack (named (name_of number gone) e) m n ∷ []) (tt, tt), tt, tt)
  asks_calm (Gives socket bits e) i = (tt, tt, tt)
  asks_calm (Closes socket e) i = (if_quiet (receives_on link e) (receivers.Close (named (name_of number gone) e) ∷ []) (tt, tt), closes_quiet (name_of number gone) q.busy (with_end socket called_off q).entries, tt)
  asks_calm k i = absurd (i)

  asks_none : (k : Call) → IsAsking k → NoOpens (sent_at (name_of number gone) link k q listening y.sender)
  asks_none (OpensReceiver own foreign) i = tt
  asks_none (OpensSender own foreign z) i = tt
  asks_none (Grants socket m n e) i = tt
  asks_none (AsksBack socket m n e) i = tt
  asks_none (Gives socket bits e) i = tt
  asks_none (Closes socket e) i = closes_none (name_of number gone) q.busy (with_end socket called_off q).entries
  asks_none k i = absurd (i)

  -- a user asks
  pub asks : (k : Call) → IsAsking k → IsAllowed link k q y.sender → IsPairedCall k → (is_out link k q ≡ false → post ≡ Free) → Stepped number other tells others link x y (staying gone q.entries pending post) peer k q listening post b
  asks k i allowed paired room =
      calm k allowed paired (asks_calm k i).2 (asks_calm k i).0 (asks_calm k i).1 (λ s. none_kept (sent_at (name_of number gone) link k q listening y.sender) y (asks_none k i)) _ (keeps k allowed) (room_here k room)

  -- what was sent on another link is answered
  pub elsewhere : (l : ℕ) → (l == link) ≡ false → (is_out link (Answered l) q ≡ false → post ≡ Free) → Stepped number other tells others link x y (staying gone q.entries pending post) peer (Answered l) q listening post b
  elsewhere l e room =
      calm _ tt tt tt tt (rw e (closes_quiet (name_of number gone) (freed l q).busy q.entries)) (λ s. none_kept (sent_at (name_of number gone) link (Answered l) q listening y.sender) y (rw e (closes_none (name_of number gone) (freed l q).busy q.entries))) _ (keeps (Answered l) tt) (room_here (Answered l) room)

  -- and on this one
  pub answered : (l : ℕ) → (l == link) ≡ true → post ≡ Fetched → Stepped number other tells others link x y (staying gone q.entries pending post) peer (Answered l) q listening Free b
  answered l e fetched =
      stepped _ tt tt Free b
      (alone number other tells others facts link off x y gone pending post b q j peer listening (Answered l) tt tt tt x.box Empty
      (quiet_received [] x tt)
      told
      (λ s. none_kept (sent_at (name_of number gone) link (Answered l) q listening y.sender) y (rw e (closes_none (name_of number gone) (freed l q).busy q.entries)))
      Free b.post (same_box Free _ refl)
      (own_box (Answered l) Free _ _ _ Empty tt)) where
        taken : (p : Post) (box : Box) → IsPosted p box → p ≡ Fetched → box ≡ Taken
        taken Fetched Taken i f = refl
        taken Fetched Empty i f = absurd (i)
        taken Fetched (Waiting c z bits) i f = absurd (i)
        taken Free box i f = absurd (cc)
        taken (Lies text) box i f = absurd (cc)

        keep : KeepBox (is_out link (Answered l) q) (senders.Told ∷ closes (name_of number gone) (freed l q).busy q.entries) y.sender
        keep = subst (λ (v : Bool). KeepBox (is_out link (Answered l) q) ((if v then senders.Told ∷ [] else []) ++ closes (name_of number gone) (freed l q).busy q.entries) y.sender) e (keeps (Answered l) tt)

        told : Sending (sent_at (name_of number gone) link (Answered l) q listening y.sender) y y.to_sender Empty
        told = rw e (told_sent _ _ y (closes_quiet _ _ q.entries) keep.1 (taken post y.box (j.box_y.whole refl) fetched))

  -- data come on another link
  pub passes : (l : ℕ) (text : List Bool) → (l == link) ≡ false → Stepped number other tells others link x y (staying gone q.entries pending post) peer (Takes l text) q listening post b
  passes l text e = calm _ tt tt tt (passes_quiet link l text _ e) tt (λ s. tt) true tt (λ f. absurd (cc))

  -- a command goes out
  said_out : (stamp : ℕ) (c : Command) → HasSaid c q.entries → (b.stays ≡ true → IsRequest c → IsUnasked (name_of number gone) q.entries y.receiver) → Stepped number other tells others link x y (staying gone q.entries pending post) peer (Says stamp c) q listening post b
  said_out stamp c has unasked =
      let calmly : AreQuietSent (sent_out (name_of number gone) link c q.entries y.sender) × KeepBox true (sent_out (name_of number gone) link c q.entries y.sender) y.sender = out_calm _ link c _ _ in
      calm _ has tt tt (out_quiet _ link c _) calmly.0
      (λ s. out_kept number tells link gone q.entries x.receiver y (j.mine refl).holds j.inv_y c (unasked s)) true calmly.1 (λ f. absurd (cc))

  -- nothing more waits where the queue is as it was
  pub nothing_new : (k : Call) (mine : Post) (b' : Party) → queue_by peer k q listening ≡ q.queue → Stepped number other tells others link x y (staying gone q.entries pending post) peer k q listening mine b'
      → Joint number other tells others link (receives (received_at (name_of number gone) link k q listening) x) (sends (sent_at (name_of number gone) link k q listening y.sender) y)
      (staying (gone_by q.entries (ends_by peer k q listening) gone) (ends_by peer k q listening) pending mine) b'
  nothing_new k mine b' same s =
      subst (λ (cs : List Command). Joint number other tells others link (receives (received_at (name_of number gone) link k q listening) x) (sends (sent_at (name_of number gone) link k q listening y.sender) y)
      (staying (gone_by q.entries (ends_by peer k q listening) gone) (ends_by peer k q listening) cs mine) b')
      (ap (λ (cs : List Command). pending ++ cs) (no_more _ s.new (sym same ∙ s.queue)) ∙ append-nil pending) s.joint

  pub says : (stamp : ℕ) (c : Command) → HasSaid c q.entries → (b.stays ≡ true → IsRequest c → IsUnasked (name_of number gone) q.entries y.receiver)
      → Joint number other tells others link (receives (received_at (name_of number gone) link (Says stamp c) q listening) x) (sends (sent_at (name_of number gone) link (Says stamp c) q listening y.sender) y)
      (staying (gone_by q.entries (ends_by peer (Says stamp c) q listening) gone) (ends_by peer (Says stamp c) q listening) pending post) b
  says stamp c has unasked = nothing_new _ post b refl (said_out stamp c has unasked)
