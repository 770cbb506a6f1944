-- Each call of a host that stays with another is a step of both.
use Rattle.pair_keeps_streams.proofs.Common.{◌≡◌, ℕ, ◌*◌, ◌==◌, if◌then◌else◌, Bool, true, false, List, [], ◌∷◌, take, Some, refl, sym, subst, Host, IsCommand, IsHeader, Command, All, Gvb, Ret, Receiver, Sender, Stream, data_text, is_busy, sends_on, PairState, Bytes, next_of, Entry, Listener, all_received, all_sent, HasSaid, Call, Hears, Takes, Says, Answered, IsTelling, IsAllowed, is_out, ends_by, gone_by, received_at, sent_at, Holds, name_of, heard_of}
use Rattle.ncp_control.specs.declared.command.Command.TheVariants as command
use Rattle.stream_law.specs.Receivers as receivers
use Rattle.stream_law.specs.Senders as senders
use Rattle.host_keeps_streams.specs.Histories.{Sends}
use Rattle.pair_keeps_streams.proofs.Joint.{IsPaired, IsPairedCall, IsFirst, Party, Post, Free, Lies, Fetched, Joint}
use Rattle.pair_keeps_streams.proofs.After.{Stepped, staying, staying_is, x_after, y_after}
use Rattle.pair_keeps_streams.proofs.Facts.{Facts, IsNoHearing}
use Rattle.pair_keeps_streams.proofs.Granted.{IsRequest, IsUnasked, NotTaken, not_open}
use Rattle.pair_keeps_streams.proofs.Heard.{heard_step, heard_one}
use Rattle.pair_keeps_streams.proofs.Linked.{linked_step}
use Rattle.pair_keeps_streams.proofs.Queued.{queued}
use Rattle.pair_keeps_streams.proofs.StepAsks.{IsAsking, answered, asks, elsewhere, passes, says}
use Rattle.pair_keeps_streams.proofs.StepCommands.{hears}
use Rattle.pair_keeps_streams.proofs.StepHears.{IsHeard}
use Rattle.pair_keeps_streams.proofs.StepSends.{bytes, no_bytes, takes}

module _ (number : ℕ → ℕ → ℕ → ℕ) (tells : IsTelling number) where
  unheard_at : (link : ℕ) (gone : ℕ → ℕ → ℕ) (peer : Host) (q : PairState) (listening : List Listener) (r : Receiver) (s : Sender) (k : Call) → Holds number tells link gone q.entries r s → IsNoHearing k → (own foreign : ℕ)
      → heard_of (gone_by q.entries (ends_by peer k q listening) gone) (ends_by peer k q listening) own foreign ≡ heard_of gone q.entries own foreign
  unheard_at link gone peer q listening r s (Hears stamp said c) h silent own foreign = absurd (silent)
  unheard_at link gone peer q listening r s k h silent own foreign = heard_step number tells link gone peer q listening r s h k tt foreign own

  facts : Facts number tells
  facts = record {
    queued = λ link off gone peer q listening r s k allowed paired h l. queued number tells link off gone peer q listening r s k allowed paired h l;
    linked = λ link gone peer q listening r s k allowed paired h l. linked_step number tells link gone peer q listening r s h l k allowed;
    unheard = λ link gone peer q listening r s k allowed h silent own foreign. unheard_at link gone peer q listening r s k h silent own foreign;
    heard = λ link gone peer q listening r s stamp said c allowed h first foreign own. heard_one number tells link gone peer q listening r s h stamp said c first foreign own;
  }

module _ (number other : ℕ → ℕ → ℕ → ℕ) (tells : IsTelling number) (others : IsTelling other) (same : (own foreign g : ℕ) → other own foreign g ≡ number foreign own g) (link : ℕ) (off : (link == 0) ≡ false)
    (x y : Stream) (a b : Party) (j : Joint number other tells others link x y a b) (stays : a.stays ≡ true) (peer : Host) (q : PairState) (here : q.entries ≡ a.entries) (listening : List Listener) where
  joint_here : Joint number other tells others link x y (staying a.gone q.entries a.pending a.post) b
  joint_here = subst (λ (c : Party). Joint number other tells others link x y c b) (sym (staying_is a q stays here)) j

  back : (k : Call) (mine : Post) (c : Party) → Stepped number other tells others link x y (staying a.gone q.entries a.pending a.post) peer k q listening mine c → Stepped number other tells others link x y a peer k q listening mine c
  back k mine c s = subst (λ (p : Party). Stepped number other tells others link x y p peer k q listening mine c) (staying_is a q stays here) s

  -- a user asks
  pub step_asks : (k : Call) → IsAsking k → IsAllowed link k q y.sender → IsPairedCall k → (is_out link k q ≡ false → a.post ≡ Free) → Stepped number other tells others link x y a peer k q listening a.post b
  step_asks k i allowed paired room = back k a.post b (asks number other tells others (facts number tells) link off x y a.gone a.pending a.post b q joint_here peer listening k i allowed paired room)

  -- what was sent is answered, on this link or on another
  pub step_answered : (l : ℕ) → (l == link) ≡ true → a.post ≡ Fetched → Stepped number other tells others link x y a peer (Answered l) q listening Free b
  step_answered l e fetched = back _ Free b (answered number other tells others (facts number tells) link off x y a.gone a.pending a.post b q joint_here peer listening l e fetched)

  pub step_elsewhere : (l : ℕ) → (l == link) ≡ false → (is_out link (Answered l) q ≡ false → a.post ≡ Free) → Stepped number other tells others link x y a peer (Answered l) q listening a.post b
  step_elsewhere l e room = back _ a.post b (elsewhere number other tells others (facts number tells) link off x y a.gone a.pending a.post b q joint_here peer listening l e room)

  -- data are taken, on this link or on another
  pub step_takes : (l : ℕ) (text : List Bool) → (l == link) ≡ true → b.post ≡ Lies text → Stepped number other tells others link x y a peer (Takes l text) q listening a.post (record b { post = Fetched })
  step_takes l text e lies = back _ a.post _ (takes number other tells others (facts number tells) link off x y a.gone a.pending a.post b q joint_here peer listening l text e lies)

  pub step_passes : (l : ℕ) (text : List Bool) → (l == link) ≡ false → Stepped number other tells others link x y a peer (Takes l text) q listening a.post b
  step_passes l text e = back _ a.post b (passes number other tells others (facts number tells) link off x y a.gone a.pending a.post b q joint_here peer listening l text e)

  -- a command of the other is heard
  pub step_hears : (stamp : ℕ) (c : Command) (more : List Command) → b.pending ≡ c ∷ more → IsCommand c → IsPaired c → IsFirst c a.entries → IsHeard c a.entries → (is_busy q.busy link ≡ false → a.post ≡ Free)
      → (said : ℕ) × Stepped number other tells others link x y a peer (Hears stamp said c) q listening a.post (record b { pending = more })
  step_hears stamp c more e command paired first good room =
      let s : (said : ℕ) × Stepped number other tells others link x y (staying a.gone q.entries a.pending a.post) peer (Hears stamp said c) q listening a.post (record b { pending = more })
      = hears number other tells others (facts number tells) same link off x y a.gone a.pending a.post b q joint_here peer listening stamp more room c e command paired
      (subst (λ (es : List Entry). IsFirst c es) (sym here) first) (subst (λ (es : List Entry). IsHeard c es) (sym here) good) in
      (s.0, back _ a.post _ s.1)

  -- a command goes out, or bytes do. Nothing is queued
  abbrev pub Quietly : Call → Post → Type 0
  Quietly k post =
      Joint number other tells others link (x_after number link k q listening a x) (y_after number link k q listening a y)
      (record a { gone = gone_by a.entries (ends_by peer k q listening) a.gone; entries = ends_by peer k q listening; post = post }) b

  quietly : (k : Call) (mine : Post)
      → Joint number other tells others link (x_after number link k q listening a x) (y_after number link k q listening a y) (staying (gone_by q.entries (ends_by peer k q listening) a.gone) (ends_by peer k q listening) a.pending mine) b → Quietly k mine
  quietly k mine s =
      subst (λ (p : Party). Joint number other tells others link (x_after number link k q listening a x) (y_after number link k q listening a y)
      (record p { gone = gone_by p.entries (ends_by peer k q listening) p.gone; entries = ends_by peer k q listening; post = mine }) b) (staying_is a q stays here) s

  pub step_says : (stamp : ℕ) (c : Command) → HasSaid c a.entries → (b.stays ≡ true → IsRequest c → NotTaken (name_of number a.gone) (name_of other b.gone) a.entries b.entries) → Quietly (Says stamp c) a.post
  step_says stamp c has unasked =
      quietly (Says stamp c) a.post (says number other tells others (facts number tells) link off x y a.gone a.pending a.post b q joint_here peer listening stamp c (subst (λ (es : List Entry). HasSaid c es) (sym here) has)
      (λ s i. subst (λ (es : List Entry). IsUnasked (name_of number a.gone) es y.receiver) (sym here)
      (not_open number other tells others same link a.gone b.gone a.entries b.entries y.receiver x.sender (j.theirs s).holds (unasked s i))))

  pub step_bytes : (stamp : ℕ) (e : Entry) (size count : ℕ) → next_of q ≡ Some (Bytes e size count) → IsHeader (record { size = size; count = count }) → sends_on link e ≡ true → (is_out link (Sends stamp e size count) q ≡ false → a.post ≡ Free)
      → Quietly (Sends stamp e size count) (Lies (data_text size count (take (size * count) e.bits)))
  step_bytes stamp e size count next header on room =
      quietly (Sends stamp e size count) _
      (bytes number other tells others (facts number tells) link off x y a.gone a.pending a.post b q joint_here peer listening stamp e size count next header on room)

  pub step_no_bytes : (stamp : ℕ) (e : Entry) (size count : ℕ) → next_of q ≡ Some (Bytes e size count) → sends_on link e ≡ false → Quietly (Sends stamp e size count) a.post
  step_no_bytes stamp e size count next away =
      quietly (Sends stamp e size count) a.post (no_bytes number other tells others (facts number tells) link off x y a.gone a.pending a.post b q joint_here peer listening stamp e size count next away)

-- ---- in which connection an ALL, a GVB or a RET was said changes nothing

pub any_received : (name : ℕ → ℕ → ℕ) (link stamp s t : ℕ) (c : Command) (q : PairState) (listening : List Listener) (r : Receiver)
    → all_received (received_at name link (Hears stamp s c) q listening) r ≡ all_received (received_at name link (Hears stamp t c) q listening) r
any_received name link stamp s t (command.Ret l m n) q listening r = by (l == link) where
  by : (v : Bool) → all_received (if v then receivers.Hear (Ret s m n) ∷ [] else []) r ≡ all_received (if v then receivers.Hear (Ret t m n) ∷ [] else []) r
  by true = refl
  by false = refl
any_received name link stamp s t c q listening r = refl

pub any_sent : (name : ℕ → ℕ → ℕ) (link stamp s t : ℕ) (c : Command) (q : PairState) (listening : List Listener) (u : Sender)
    → all_sent (sent_at name link (Hears stamp s c) q listening u) u ≡ all_sent (sent_at name link (Hears stamp t c) q listening u) u
any_sent name link stamp s t (command.All l m n) q listening u = by (l == link) where
  by : (v : Bool) → all_sent (if v then senders.Hear (All s m n) ∷ [] else []) u ≡ all_sent (if v then senders.Hear (All t m n) ∷ [] else []) u
  by true = refl
  by false = refl
any_sent name link stamp s t (command.Gvb l m n) q listening u = by (l == link) where
  by : (v : Bool) → all_sent (if v then senders.Hear (Gvb s m n) ∷ [] else []) u ≡ all_sent (if v then senders.Hear (Gvb t m n) ∷ [] else []) u
  by true = refl
  by false = refl
any_sent name link stamp s t c q listening u = refl
