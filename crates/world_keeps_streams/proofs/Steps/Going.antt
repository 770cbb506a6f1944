-- One host that stays, beside one peer: its calls one after another, upon two streams of a link.
use Rattle.world_keeps_streams.proofs.Common.{◌≡◌, ℕ, ◌==◌, ◌*◌, Bool, true, false, List, [], ◌∷◌, ◌++◌, take, Some, refl, ap, sym, subst, ◌∙◌, append_assoc, Host, IsCommand, IsHeader, Command, Stream, is_busy, sends_on, PairState, Bytes, next_of, Entry, Listener, all_received, all_sent, name_of}
use Rattle.host_keeps_streams.specs.Formed.{HasSaid, FindsFree}
use Rattle.host_keeps_streams.specs.Histories.{Hears, Takes, Says, Answered, AreAllowed, IsAllowed, IsTelling, ends_by, gone_by, gone_now, is_out, received_at, receiver_now, sender_now, sent_at, Call}
use Rattle.pair_keeps_streams.proofs.lemmas.{Fetched, Free, IsAsking, IsFirst, IsHeard, IsPaired, IsPairedCall, IsWordless, Joint, Lies, NotTaken, Party, Post, Stepped, Steps, queue_by, receives_receiver, receives_sender, sends_receiver, sends_sender, x_after, y_after, IsRequest, finds_free, receives, sends}
use Rattle.stream_law.specs.Receivers as receivers
use Rattle.stream_law.specs.Receivers.{Receiver}
use Rattle.stream_law.specs.Senders as senders
use Rattle.stream_law.specs.Senders.{Sender}
use Rattle.host_pairs.specs.Data.{data_text}
use Rattle.host_keeps_streams.specs.Histories as calls
use Rattle.world_keeps_streams.specs.Calls.{called}

-- a host that stays with a peer: what waits to be taken of it, and after that what waits in its program
abbrev pub standing : Host → List calls.Moment → PairState → List Command → Post → Party
standing p own q front post = record { stays = true; gone = gone_now p own; entries = q.entries; pending = front ++ q.queue; post = post }

module _ (number other : ℕ → ℕ → ℕ → ℕ) (tells : IsTelling number) (others : IsTelling other) (link : ℕ) where
  -- after these calls with peer `p` it has this pair with it
  pub record Here (p : Host) (own : List calls.Moment) (q : PairState) (front : List Command) (post : Post) (b : Party) (x y : Stream) : Type 0 where
    pub joint : Joint number other tells others link x y (standing p own q front post) b
    pub received : x.receiver ≡ receiver_now number p link own
    pub sent : y.sender ≡ sender_now number p link own
    pub allowed : AreAllowed number p link own

  -- the same, after these streams
  pub record Goes (p : Host) (own : List calls.Moment) (q : PairState) (front : List Command) (post : Post) (b : Party) (x y : Stream) : Type 0 where
    pub first : Stream
    pub second : Stream
    pub here : Here p own q front post b first second
    pub sender : first.sender ≡ x.sender
    pub receiver : second.receiver ≡ y.receiver

  pub stays_as : (p : Host) (own : List calls.Moment) (q : PairState) (front : List Command) (post : Post) (b : Party) (x y : Stream) → Here p own q front post b x y → Goes p own q front post b x y
  stays_as p own q front post b x y h = record { first = x; second = y; here = h; sender = refl; receiver = refl }

  -- the pair goes by another name, with the same ends and the same that waits
  pub renamed : (p : Host) (own : List calls.Moment) (q next : PairState) (front fronts : List Command) (post : Post) (b : Party) (x y : Stream) → Here p own q front post b x y
      → q.entries ≡ next.entries → front ++ q.queue ≡ fronts ++ next.queue → Here p own next fronts post b x y
  renamed p own q next front fronts post b x y h same waits =
      let first : Joint number other tells others link x y (record (standing p own q front post) { entries = next.entries }) b =
      subst (λ (es : List Entry). Joint number other tells others link x y (record (standing p own q front post) { entries = es }) b) same h.joint in
      record {
        joint = subst (λ (cs : List Command). Joint number other tells others link x y (record (standing p own q front post) { entries = next.entries; pending = cs }) b) waits first;
        received = h.received;
        sent = h.sent;
        allowed = h.allowed;
      }

  module _ (p : Host) (own : List calls.Moment) (q : PairState) (front : List Command) (post : Post) (b : Party) (x y : Stream) (h : Here p own q front post b x y) where
    abbrev me : Party
    me = standing p own q front post

    -- after one call more
    abbrev then_me : Call → List Listener → List Command → Post → Party
    then_me k listening pending post' = record { stays = true; gone = gone_by q.entries (ends_by p k q listening) (gone_now p own); entries = ends_by p k q listening; pending = pending; post = post' }

    -- the law's moves of a call `k` are those of the call `made`
    went : (k made : Call) (listening : List Listener) → IsAllowed link made q (sender_now number p link own) → ends_by p k q listening ≡ ends_by p made q listening
        → ((r : Receiver) → all_received (received_at (name_of number (gone_now p own)) link k q listening) r ≡ all_received (received_at (name_of number (gone_now p own)) link made q listening) r)
        → ((u : Sender) → all_sent (sent_at (name_of number (gone_now p own)) link k q listening u) u ≡ all_sent (sent_at (name_of number (gone_now p own)) link made q listening u) u)
        → (next : PairState) (pending fronts : List Command) (post' : Post) (b' : Party) → ends_by p made q listening ≡ next.entries → pending ≡ fronts ++ next.queue
        → Joint number other tells others link (x_after number link k q listening (standing p own q front post) x) (y_after number link k q listening (standing p own q front post) y) (then_me made listening pending post') b'
        → Goes p (called made q listening ∷ own) next fronts post' b' x y
    went k made listening may ends all_r all_s next pending fronts post' b' same waits j =
        let xs : List receivers.Move = received_at (name_of number (gone_now p own)) link k q listening in
        let ys : List senders.Move = sent_at (name_of number (gone_now p own)) link k q listening y.sender in
        let made_r : Receiver → Receiver = λ r. all_received (received_at (name_of number (gone_now p own)) link made q listening) r in
        let made_s : Sender → Sender = λ u. all_sent (sent_at (name_of number (gone_now p own)) link made q listening u) u in
        let renamed_joint : Joint number other tells others link (receives xs x) (sends ys y) (standing p (called made q listening ∷ own) next fronts post') b' =
        subst (λ (cs : List Command). Joint number other tells others link (receives xs x) (sends ys y) (record (standing p (called made q listening ∷ own) next fronts post') { pending = cs }) b') waits
        (subst (λ (es : List Entry). Joint number other tells others link (receives xs x) (sends ys y) (record (standing p (called made q listening ∷ own) next fronts post') { entries = es; pending = pending }) b') same j) in
        record {
          first = receives xs x;
          second = sends ys y;
          here = record {
            joint = renamed_joint;
            received = receives_receiver xs x ∙ all_r x.receiver ∙ ap made_r h.received;
            sent = sends_sender ys y ∙ all_s y.sender ∙ ap made_s h.sent;
            allowed = (may, h.allowed);
          };
          sender = receives_sender xs x;
          receiver = sends_receiver ys y;
        }

    more_waits : (new : List Command) (k : Call) (listening : List Listener) (next : PairState) → queue_by p k q listening ≡ q.queue ++ new → queue_by p k q listening ≡ next.queue → (front ++ q.queue) ++ new ≡ front ++ next.queue
    more_waits new k listening next e f = append_assoc front q.queue new ∙ ap (λ (cs : List Command). front ++ cs) (sym e ∙ f)

    went_as : (k : Call) (listening : List Listener) (post' : Post) (b' : Party) → Stepped number other tells others link x y (standing p own q front post) p k q listening post' b' → IsAllowed link k q (sender_now number p link own)
        → (next : PairState) → ends_by p k q listening ≡ next.entries → queue_by p k q listening ≡ next.queue → Goes p (called k q listening ∷ own) next front post' b' x y
    went_as k listening post' b' s may next same waits =
        went k k listening may refl (λ r. refl) (λ u. refl) next _ front post' b' same (more_waits s.new k listening next s.queue waits) s.joint

    module _ (steps : Steps number other tells others link) (listening : List Listener) where
      pub asks_here : (k : Call) → IsAsking k → ((l : ℕ) (s : Sender) → IsAllowed l k q s) → IsPairedCall k → (is_out link k q ≡ false → post ≡ Free)
          → (next : PairState) → ends_by p k q listening ≡ next.entries → queue_by p k q listening ≡ next.queue → Goes p (called k q listening ∷ own) next front post b x y
      asks_here k is may paired room next same waits =
          went_as k listening post b (steps.asks x y me b h.joint refl p q refl listening k is (may link y.sender) paired room) (may link (sender_now number p link own)) next same waits

      pub answered_here : (l : ℕ) → (l == link) ≡ true → post ≡ Fetched
          → (next : PairState) → ends_by p (Answered l) q listening ≡ next.entries → queue_by p (Answered l) q listening ≡ next.queue → Goes p (called (Answered l) q listening ∷ own) next front Free b x y
      answered_here l on fetched next same waits = went_as _ listening Free b (steps.answered x y me b h.joint refl p q refl listening l on fetched) tt next same waits

      pub elsewhere_here : (l : ℕ) → (l == link) ≡ false → (is_out link (Answered l) q ≡ false → post ≡ Free)
          → (next : PairState) → ends_by p (Answered l) q listening ≡ next.entries → queue_by p (Answered l) q listening ≡ next.queue → Goes p (called (Answered l) q listening ∷ own) next front post b x y
      elsewhere_here l on room next same waits = went_as _ listening post b (steps.elsewhere x y me b h.joint refl p q refl listening l on room) tt next same waits

      pub takes_here : (l : ℕ) (text : List Bool) → (l == link) ≡ true → b.post ≡ Lies text
          → (next : PairState) → ends_by p (Takes l text) q listening ≡ next.entries → queue_by p (Takes l text) q listening ≡ next.queue
          → Goes p (called (Takes l text) q listening ∷ own) next front post (record b { post = Fetched }) x y
      takes_here l text on lies next same waits = went_as _ listening post _ (steps.takes x y me b h.joint refl p q refl listening l text on lies) tt next same waits

      pub passes_here : (l : ℕ) (text : List Bool) → (l == link) ≡ false
          → (next : PairState) → ends_by p (Takes l text) q listening ≡ next.entries → queue_by p (Takes l text) q listening ≡ next.queue
          → Goes p (called (Takes l text) q listening ∷ own) next front post b x y
      passes_here l text on next same waits = went_as _ listening post b (steps.passes x y me b h.joint refl p q refl listening l text on) tt next same waits

      pub hears_here : (stamp : ℕ) (c : Command) (more : List Command) → b.pending ≡ c ∷ more → IsCommand c → IsPaired c → IsFirst c q.entries → IsHeard c q.entries → (is_busy q.busy link ≡ false → post ≡ Free)
          → (next : PairState) → ends_by p (Hears stamp 0 c) q listening ≡ next.entries → queue_by p (Hears stamp 0 c) q listening ≡ next.queue
          → Goes p (called (Hears stamp 0 c) q listening ∷ own) next front post (record b { pending = more }) x y
      hears_here stamp c more e command paired first heard room next same waits =
          let s : (said : ℕ) × Stepped number other tells others link x y (standing p own q front post) p (Hears stamp said c) q listening post (record b { pending = more }) =
          steps.hears x y me b h.joint refl p q refl listening stamp c more e command paired first heard room in
          let free : FindsFree link c q.entries (sender_now number p link own) = subst (λ (u : Sender). FindsFree link c q.entries u) h.sent (finds_free number other tells others link x y me b h.joint refl c more e) in
          went (Hears stamp s.0 c) (Hears stamp 0 c) listening (command, free) refl
          (λ r. steps.any_received (name_of number (gone_now p own)) stamp s.0 0 c q listening r) (λ u. steps.any_sent (name_of number (gone_now p own)) stamp s.0 0 c q listening u)
          next ((front ++ q.queue) ++ s.1.new) front post (record b { pending = more }) same (more_waits s.1.new (Hears stamp 0 c) listening next s.1.queue waits) s.1.joint

      pub says_here : (stamp : ℕ) (c : Command) → HasSaid c q.entries → (b.stays ≡ true → IsRequest c → NotTaken (name_of number (gone_now p own)) (name_of other b.gone) q.entries b.entries) → (next : PairState) → ends_by p (Says stamp c) q listening ≡ next.entries → q.queue ≡ next.queue
          → Goes p (called (Says stamp c) q listening ∷ own) next front post b x y
      says_here stamp c said none next same waits =
          went (Says stamp c) (Says stamp c) listening said refl (λ r. refl) (λ u. refl) next (front ++ q.queue) front post b same (ap (λ (cs : List Command). front ++ cs) waits)
          (steps.says x y me b h.joint refl p q refl listening stamp c said none)

      pub bytes_here : (stamp : ℕ) (e : Entry) (size count : ℕ) → next_of q ≡ Some (Bytes e size count) → IsHeader (record { size = size; count = count }) → sends_on link e ≡ true → (is_busy q.busy link ≡ false → post ≡ Free)
          → (next : PairState) → ends_by p (calls.Sends stamp e size count) q listening ≡ next.entries → q.queue ≡ next.queue
          → Goes p (called (calls.Sends stamp e size count) q listening ∷ own) next front (Lies (data_text size count (take (size * count) e.bits))) b x y
      bytes_here stamp e size count n header on room next same waits =
          went (calls.Sends stamp e size count) (calls.Sends stamp e size count) listening n refl (λ r. refl) (λ u. refl) next (front ++ q.queue) front (Lies (data_text size count (take (size * count) e.bits))) b same
          (ap (λ (cs : List Command). front ++ cs) waits) (steps.bytes x y me b h.joint refl p q refl listening stamp e size count n header on room)

      pub no_bytes_here : (stamp : ℕ) (e : Entry) (size count : ℕ) → next_of q ≡ Some (Bytes e size count) → sends_on link e ≡ false
          → (next : PairState) → ends_by p (calls.Sends stamp e size count) q listening ≡ next.entries → q.queue ≡ next.queue
          → Goes p (called (calls.Sends stamp e size count) q listening ∷ own) next front post b x y
      no_bytes_here stamp e size count n off next same waits =
          went (calls.Sends stamp e size count) (calls.Sends stamp e size count) listening n refl (λ r. refl) (λ u. refl) next (front ++ q.queue) front post b same
          (ap (λ (cs : List Command). front ++ cs) waits) (steps.no_bytes x y me b h.joint refl p q refl listening stamp e size count n off)

      -- a command that is no word on any link is queued
      pub wordless_here : (c : Command) → IsWordless c → (next : PairState) → q.entries ≡ next.entries → q.queue ++ c ∷ [] ≡ next.queue → Here p own next front post b x y
      wordless_here c is next same waits =
          renamed p own (record q { queue = q.queue ++ c ∷ [] }) next front front post b x y
          (record {
            joint = subst (λ (cs : List Command). Joint number other tells others link x y (record (standing p own q front post) { pending = cs }) b) (append_assoc front q.queue (c ∷ []))
                (steps.wordless x y me b h.joint c is);
            received = h.received;
            sent = h.sent;
            allowed = h.allowed;
          }) same (ap (λ (cs : List Command). front ++ cs) waits)

  -- one after another
  pub then_goes : (p : Host) (own own' : List calls.Moment) (q q' : PairState) (front front' : List Command) (post post' : Post) (b b' : Party) (x y : Stream) → Goes p own q front post b x y
      → ((first second : Stream) → Here p own q front post b first second → Goes p own' q' front' post' b' first second) → Goes p own' q' front' post' b' x y
  then_goes p own own' q q' front front' post post' b b' x y g f =
      let r : Goes p own' q' front' post' b' g.first g.second = f g.first g.second g.here in
      record { first = r.first; second = r.second; here = r.here; sender = r.sender ∙ g.sender; receiver = r.receiver ∙ g.receiver }
