-- By each call one message at a time goes out on a link, and none is outstanding where an end closes.
use Rattle.host_keeps_streams.proofs.Common.{◌≡◌, ℕ, ◌*◌, Bool, true, false, not, ◌&&◌, ◌==◌, if◌then◌else◌, List, [], ◌∷◌, ◌++◌, take, Option, Some, None, is_some, refl, subst, list_any, Host, Command, Sender, MaySend, desk_of, listener_on, entry_at, is_answered, is_busy, is_link, is_receiving, sends_on, PairState, Bytes, next_of, freed, Entry, Listener, both, not_is, what_goes, all_sent, sent_open, HasSender, AreSound, Call, Hears, Says, Sends, Answered, OpensSender, Closes, IsAllowed, KeepBox, is_out, sent_at, asked_sent, closes, hears_rts, of_end, rts_sent, sent_out, named, AreKnown}
use Rattle.ncp_control.specs.declared.command.Command.TheVariants as command
use Rattle.stream_law.specs.Words as words
use Rattle.stream_law.specs.Senders as senders
use Rattle.host_keeps_streams.proofs.Asks.{link_is}
use Rattle.host_keeps_streams.proofs.Boxes.{keep_both, settled_box}
use Rattle.host_keeps_streams.proofs.EachCall.{AllNewSent}
use Rattle.host_keeps_streams.proofs.Requests.{closes_box}
use Rattle.host_keeps_streams.proofs.SenderShuts.{cls_box}

keep_if : (out v : Bool) (ms : List senders.Move) (s : Sender) → KeepBox out ms s → KeepBox out (if v then ms else []) s
keep_if out true ms s k = k
keep_if out false ms s k = tt

keep_rts : (out v : Bool) (c : ℕ) (s : Sender) → KeepBox out (hears_rts v c) s
keep_rts out true c s = (tt, tt)
keep_rts out false c s = tt

keep_open : (out v : Bool) (c : ℕ) (s : Sender) → KeepBox out (sent_open v c) s
keep_open out true c s = (tt, tt)
keep_open out false c s = tt

keep_end : (out : Bool) (c : ℕ) (o : Option ℕ) (ms : List senders.Move) (s : Sender) → KeepBox out ms s → KeepBox out (of_end c o ms) s
keep_end out c None ms s k = tt
keep_end out c (Some own) ms s k = keep_if out _ ms s k

-- a request that is refused closes before it opens
refused_by : (out : Bool) (c : ℕ) (s : Sender) → (s.end ≡ Some c → ⊥) → (o : Option ℕ) → s.end ≡ o → (senders.begins c o s).end ≡ Some c → (senders.begins c o s).opened ≡ true → out ≡ false
refused_by out c s new None e f g = absurd (cc)
refused_by out c s new (Some other) e f g = absurd (new f)

refused_box : (out v : Bool) (c : ℕ) (s : Sender) → (s.end ≡ Some c → ⊥) → KeepBox out (hears_rts v c ++ senders.Close c ∷ []) s
refused_box out true c s new = (tt, ((λ e o. refused_by out c s new s.end refl e o), tt))
refused_box out false c s new = ((λ e o. absurd (new e)), tt)

rts_box : (out v : Bool) (c : ℕ) (s : Sender) → (l : Option Listener) (o : Option Entry) → (o ≡ None → s.end ≡ Some c → ⊥) → KeepBox out (rts_sent v c l o) s
rts_box out v c s None None new = refused_box out v c s (new refl)
rts_box out v c s (Some l) None new = (tt, keep_rts out v c _)
rts_box out v c s l (Some e) new = by (is_some e.partner) where
  by : (u : Bool) → KeepBox out (if u then [] else hears_rts v c ++ sent_open (v && is_some e.asked) c) s
  by true = tt
  by false = keep_both out _ _ s (keep_rts out v c s) (keep_open out _ c _)

module _ (name : ℕ → ℕ → ℕ) (link : ℕ) (peer : Host) (q : PairState) (listening : List Listener) (sound : AreSound name q.entries) (s : Sender) (h : HasSender name link q.entries s) (k : AreKnown name q.entries s) (new : AllNewSent name q.entries s) where
  rts_by : (own foreign l : ℕ) (v : Bool)
      → KeepBox (is_busy q.busy link) (if v then [] else rts_sent (l == link) (name own foreign) (listener_on own listening) (entry_at own foreign q.entries)) s
  rts_by own foreign l true = tt
  rts_by own foreign l false = rts_box _ _ _ s _ _ (λ e. (new own foreign e).unheard)

  hears_box : (stamp said : ℕ) (c : Command) → KeepBox (is_busy q.busy link) (sent_at name link (Hears stamp said c) q listening s) s
  hears_box stamp said (command.Rts receive send l) = rts_by send receive l (list_any (sends_on l) q.entries)
  hears_box stamp said (command.Cls foreign own) = cls_box name link peer q.busy own foreign (desk_of q listening) s h k sound.apart (entry_at own foreign q.entries) refl
  hears_box stamp said (command.All l m n) = keep_if (is_busy q.busy link) (l == link) (senders.Hear (words.All said m n) ∷ []) s (tt, tt)
  hears_box stamp said (command.Gvb l m n) = keep_if (is_busy q.busy link) (l == link) (senders.Hear (words.Gvb said m n) ∷ []) s (tt, tt)
  hears_box stamp said c = tt

  asked_box : (out : Bool) (o : Option Entry) → KeepBox out (asked_sent name link s o) s
  asked_box out None = tt
  asked_box out (Some e) =
      keep_if out _ _ s
      (keep_end out _ s.end _ s (keep_open out _ _ s))

  says_box : (out : Bool) (c : Command) → KeepBox out (sent_out name link c q.entries s) s
  says_box out (command.Rts receive send l) = asked_box out (entry_at receive send q.entries)
  says_box out (command.Str send receive size) = asked_box out (entry_at send receive q.entries)
  says_box out c = tt

  bytes_box : (e : Entry) (z n : ℕ) → next_of q ≡ Some (Bytes e z n) → (v : Bool) → sends_on link e ≡ v → KeepBox (is_busy q.busy link) (if v then senders.Send (named name e) z (take (z * n) e.bits) ∷ [] else []) s
  bytes_box e z n next true on =
      let may : MaySend q e z n = (what_goes q _ next).1 in
      let linked : e.link ≡ Some link = link_is link e.link (both (not (is_receiving e)) (is_link link e.link) on).1 in
      let answered : not (is_busy q.busy link) ≡ true = subst (λ (o : Option ℕ). is_answered q.busy o ≡ true) linked may.answered in
      (not_is _ answered, tt)
  bytes_box e z n next false on = tt

  told_box : (l : ℕ) (v : Bool) → KeepBox (is_busy (freed l q).busy link) ((if v then senders.Told ∷ [] else []) ++ closes name (freed l q).busy q.entries) s
  told_box l true = (tt, settled_box name (freed l q).busy link q.entries s h k sound.apart)
  told_box l false = settled_box name (freed l q).busy link q.entries s h k sound.apart

  pub call_box : (c : Call) → IsAllowed link c q s → KeepBox (is_out link c q) (sent_at name link c q listening s) s
  call_box (Hears stamp said c) a = hears_box stamp said c
  call_box (Says stamp c) a = says_box _ c
  call_box (Sends stamp e z n) a = bytes_box e z n a _ refl
  call_box (Answered l) a = told_box l _
  call_box (OpensSender own foreign z) a = (tt, tt)
  call_box (Closes socket e) a = closes_box name link socket q e a.0 s h k sound
  call_box c a = tt
