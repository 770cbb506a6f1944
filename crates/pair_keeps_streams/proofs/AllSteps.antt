-- All steps of two programs on a link, as one.
use Rattle.pair_keeps_streams.proofs.Common.{◌≡◌, ℕ, ◌*◌, ◌==◌, Bool, true, false, List, [], ◌∷◌, ◌++◌, take, Some, Host, IsCommand, IsHeader, Command, Receiver, Sender, Stream, data_text, is_busy, sends_on, PairState, Bytes, next_of, Entry, Listener, all_received, all_sent, HasSaid, Call, Hears, Takes, Says, Answered, IsTelling, IsAllowed, is_out, ends_by, gone_by, received_at, sent_at, name_of}
use Rattle.ncp_control.specs.declared.command.Command.TheVariants as command
use Rattle.stream_law.specs.Receivers as receivers
use Rattle.host_keeps_streams.specs.Histories.{Sends}
use Rattle.pair_keeps_streams.proofs.Joint.{IsPaired, IsPairedCall, IsFirst, Party, Post, Free, Lies, Fetched, Joint}
use Rattle.pair_keeps_streams.proofs.After.{Stepped, x_after, y_after}
use Rattle.pair_keeps_streams.proofs.Granted.{IsRequest, NotTaken}
use Rattle.pair_keeps_streams.proofs.StepAsks.{IsAsking}
use Rattle.pair_keeps_streams.proofs.StepHears.{IsHeard}
use Rattle.pair_keeps_streams.proofs.Joint.{receives}
use Rattle.pair_keeps_streams.proofs.Parting.{IsWordless, ghost, gone_pending, gone_post, leaves, wordless}
use Rattle.pair_keeps_streams.proofs.Steps.{step_answered, step_asks, step_bytes, step_elsewhere, step_hears, step_no_bytes, step_passes, step_says, step_takes, any_received, any_sent}

pub record Steps (number other : ℕ → ℕ → ℕ → ℕ) (tells : IsTelling number) (others : IsTelling other) (link : ℕ) : Type 0 where
  pub asks : (x y : Stream) (a b : Party) → Joint number other tells others link x y a b → a.stays ≡ true → (peer : Host) (q : PairState) → q.entries ≡ a.entries → (listening : List Listener) → (k : Call) → IsAsking k → IsAllowed link k q y.sender → IsPairedCall k
      → (is_out link k q ≡ false → a.post ≡ Free) → Stepped number other tells others link x y a peer k q listening a.post b
  pub answered : (x y : Stream) (a b : Party) → Joint number other tells others link x y a b → a.stays ≡ true → (peer : Host) (q : PairState) → q.entries ≡ a.entries → (listening : List Listener) → (l : ℕ) → (l == link) ≡ true → a.post ≡ Fetched
      → Stepped number other tells others link x y a peer (Answered l) q listening Free b
  pub elsewhere : (x y : Stream) (a b : Party) → Joint number other tells others link x y a b → a.stays ≡ true → (peer : Host) (q : PairState) → q.entries ≡ a.entries → (listening : List Listener) → (l : ℕ) → (l == link) ≡ false
      → (is_out link (Answered l) q ≡ false → a.post ≡ Free) → Stepped number other tells others link x y a peer (Answered l) q listening a.post b
  pub takes : (x y : Stream) (a b : Party) → Joint number other tells others link x y a b → a.stays ≡ true → (peer : Host) (q : PairState) → q.entries ≡ a.entries → (listening : List Listener) → (l : ℕ) (text : List Bool) → (l == link) ≡ true → b.post ≡ Lies text
      → Stepped number other tells others link x y a peer (Takes l text) q listening a.post (record b { post = Fetched })
  pub passes : (x y : Stream) (a b : Party) → Joint number other tells others link x y a b → a.stays ≡ true → (peer : Host) (q : PairState) → q.entries ≡ a.entries → (listening : List Listener) → (l : ℕ) (text : List Bool) → (l == link) ≡ false
      → Stepped number other tells others link x y a peer (Takes l text) q listening a.post b
  pub hears : (x y : Stream) (a b : Party) → Joint number other tells others link x y a b → a.stays ≡ true → (peer : Host) (q : PairState) → q.entries ≡ a.entries → (listening : List Listener) → (stamp : ℕ) (c : Command) (more : List Command) → b.pending ≡ c ∷ more
      → IsCommand c → IsPaired c → IsFirst c a.entries → IsHeard c a.entries → (is_busy q.busy link ≡ false → a.post ≡ Free)
      → (said : ℕ) × Stepped number other tells others link x y a peer (Hears stamp said c) q listening a.post (record b { pending = more })
  pub says : (x y : Stream) (a b : Party) → Joint number other tells others link x y a b → a.stays ≡ true → (peer : Host) (q : PairState) → q.entries ≡ a.entries → (listening : List Listener) → (stamp : ℕ) (c : Command) → HasSaid c a.entries → (b.stays ≡ true → IsRequest c → NotTaken (name_of number a.gone) (name_of other b.gone) a.entries b.entries)
      → Joint number other tells others link (x_after number link (Says stamp c) q listening a x) (y_after number link (Says stamp c) q listening a y)
      (record a { gone = gone_by a.entries (ends_by peer (Says stamp c) q listening) a.gone; entries = ends_by peer (Says stamp c) q listening }) b
  pub bytes : (x y : Stream) (a b : Party) → Joint number other tells others link x y a b → a.stays ≡ true → (peer : Host) (q : PairState) → q.entries ≡ a.entries → (listening : List Listener) → (stamp : ℕ) (e : Entry) (size count : ℕ) → next_of q ≡ Some (Bytes e size count)
      → IsHeader (record { size = size; count = count }) → sends_on link e ≡ true → (is_out link (Sends stamp e size count) q ≡ false → a.post ≡ Free)
      → Joint number other tells others link (x_after number link (Sends stamp e size count) q listening a x) (y_after number link (Sends stamp e size count) q listening a y)
      (record a { gone = gone_by a.entries (ends_by peer (Sends stamp e size count) q listening) a.gone; entries = ends_by peer (Sends stamp e size count) q listening; post = Lies (data_text size count (take (size * count) e.bits)) }) b
  pub no_bytes : (x y : Stream) (a b : Party) → Joint number other tells others link x y a b → a.stays ≡ true → (peer : Host) (q : PairState) → q.entries ≡ a.entries → (listening : List Listener) → (stamp : ℕ) (e : Entry) (size count : ℕ) → next_of q ≡ Some (Bytes e size count)
      → sends_on link e ≡ false
      → Joint number other tells others link (x_after number link (Sends stamp e size count) q listening a x) (y_after number link (Sends stamp e size count) q listening a y)
      (record a { gone = gone_by a.entries (ends_by peer (Sends stamp e size count) q listening) a.gone; entries = ends_by peer (Sends stamp e size count) q listening }) b
  pub replied : (x y : Stream) (a b : Party) → Joint number other tells others link x y a b → a.stays ≡ true → (peer : Host) (q : PairState) → q.entries ≡ a.entries → (listening : List Listener) → (stamp : ℕ)
      → Joint number other tells others link x y (record a { gone = gone_by a.entries q.entries a.gone; entries = q.entries }) b
  pub wordless : (x y : Stream) (a b : Party) → Joint number other tells others link x y a b → (c : Command) → IsWordless c → Joint number other tells others link x y (record a { pending = a.pending ++ c ∷ [] }) b
  pub leaves : (x y : Stream) (a b : Party) → Joint number other tells others link x y a b → (c : Party) → c.stays ≡ false → c.pending ≡ a.pending → c.post ≡ a.post → Joint number other tells others link x y c b
  pub ghost : (x y : Stream) (a b : Party) → Joint number other tells others link x y a b → a.stays ≡ false → b.stays ≡ true → (text : List Bool) → b.post ≡ Lies text
      → (size : ℕ) × (bits : List Bool) × Joint number other tells others link (receives (receivers.Take size bits ∷ []) x) y a (record b { post = Fetched })
  pub gone_post : (x y : Stream) (a b : Party) → Joint number other tells others link x y a b → a.stays ≡ false → (post : Post) → ((text : List Bool) → post ≡ Lies text → ⊥) → Joint number other tells others link x y (record a { post = post }) b
  pub gone_pending : (x y : Stream) (a b : Party) → Joint number other tells others link x y a b → b.stays ≡ false → (pending : List Command) → Joint number other tells others link x y (record a { pending = pending }) b
  pub any_received : (name : ℕ → ℕ → ℕ) (stamp s t : ℕ) (c : Command) (q : PairState) (listening : List Listener) (r : Receiver)
      → all_received (received_at name link (Hears stamp s c) q listening) r ≡ all_received (received_at name link (Hears stamp t c) q listening) r
  pub any_sent : (name : ℕ → ℕ → ℕ) (stamp s t : ℕ) (c : Command) (q : PairState) (listening : List Listener) (u : Sender)
      → all_sent (sent_at name link (Hears stamp s c) q listening u) u ≡ all_sent (sent_at name link (Hears stamp t c) q listening u) u

pub all_steps : (number other : ℕ → ℕ → ℕ → ℕ) (tells : IsTelling number) (others : IsTelling other) → ((own foreign g : ℕ) → other own foreign g ≡ number foreign own g) → (link : ℕ) → (link == 0) ≡ false → Steps number other tells others link
all_steps number other tells others same link off = record {
  asks = λ x y a b j stays peer q here listening. step_asks number other tells others same link off x y a b j stays peer q here listening;
  answered = λ x y a b j stays peer q here listening. step_answered number other tells others same link off x y a b j stays peer q here listening;
  elsewhere = λ x y a b j stays peer q here listening. step_elsewhere number other tells others same link off x y a b j stays peer q here listening;
  takes = λ x y a b j stays peer q here listening. step_takes number other tells others same link off x y a b j stays peer q here listening;
  passes = λ x y a b j stays peer q here listening. step_passes number other tells others same link off x y a b j stays peer q here listening;
  hears = λ x y a b j stays peer q here listening. step_hears number other tells others same link off x y a b j stays peer q here listening;
  says = λ x y a b j stays peer q here listening. step_says number other tells others same link off x y a b j stays peer q here listening;
  bytes = λ x y a b j stays peer q here listening. step_bytes number other tells others same link off x y a b j stays peer q here listening;
  no_bytes = λ x y a b j stays peer q here listening. step_no_bytes number other tells others same link off x y a b j stays peer q here listening;
  replied = λ x y a b j stays peer q here listening stamp. step_says number other tells others same link off x y a b j stays peer q here listening stamp command.Nop tt (λ s n. absurd n);
  wordless = λ x y a b j. wordless number other tells others link x y a b j;
  leaves = λ x y a b j. leaves number other tells others link x y a b j;
  ghost = λ x y a b j. ghost number other tells others link x y a b j;
  gone_post = λ x y a b j. gone_post number other tells others link x y a b j;
  gone_pending = λ x y a b j. gone_pending number other tells others link x y a b j;
  any_received = λ name stamp s t c q listening r. any_received name link stamp s t c q listening r;
  any_sent = λ name stamp s t c q listening u. any_sent name link stamp s t c q listening u;
}
