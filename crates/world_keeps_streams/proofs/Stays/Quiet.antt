-- What a host does by itself, before its peer has met it: a user asks for ends and closes them, answers come, and an RRP that nobody waits for.
use Rattle.world_keeps_streams.proofs.Common.{append_assoc, Host, Command, Inv, PairState, freed, Entry, Listener, all_received, all_sent, name_of}
use Rattle.std.proofs.Common.{◌≡◌, ℕ, ◌==◌, Bool, true, false, if◌then◌else◌, List, [], ◌∷◌, ◌++◌, refl, ap, sym, subst, ◌∙◌, append-nil}
use Rattle.stream_law.specs.Streams.{Stream, Box, Empty, Waiting, Taken}
use Rattle.host_keeps_streams.specs.Histories.{Hears, Answered, AreAllowed, IsAllowed, IsTelling, ends_now, gone_by, gone_now, name_now, receiver_now, sender_now, received_at, sent_at, Call}
use Rattle.pair_keeps_streams.proofs.lemmas.{Fetched, Free, IsAsking, IsPairedCall, IsPosted, IsWordless, Joint, Party, Post, Stepped, Steps, queue_by, receives_receiver, receives_sender, sends_receiver, sends_sender, x_after, y_after, after, sends}
use Rattle.ncp_control.specs.declared.command.Command.TheVariants as command
use Rattle.stream_law.specs.Receivers as receivers
use Rattle.stream_law.specs.Receivers.{Receiver}
use Rattle.stream_law.specs.Senders as senders
use Rattle.stream_law.specs.Senders.{Sender}
use Rattle.host_keeps_streams.specs.Histories as calls
use Rattle.host_keeps_streams.specs.Moves.{closes}

-- ---- such calls

-- one that a user asks for finds what it needs
pub data Quiet (k : Call) (q : PairState) : Type 0 where
  Asks : (is : IsAsking k) → (may : (link : ℕ) (s : Sender) → IsAllowed link k q s) → (paired : IsPairedCall k) → Quiet k q
  Told : (link : ℕ) → (is : k ≡ Answered link) → Quiet k q
  Replied : (stamp : ℕ) → (is : k ≡ Hears stamp 0 command.Rrp) → Quiet k q

abbrev pub AllWordless : List Command → Type 0
AllWordless [] = Unit {0}
AllWordless (c ∷ cs) = IsWordless c × AllWordless cs

-- commands that say nothing of connections may have been put after a queue
pub record IsMore (before now : List Command) : Type 0 where
  pub more : List Command
  pub wordless : AllWordless more
  pub is : now ≡ before ++ more

-- all calls are such, and leave these commands waiting
abbrev pub IsSolo : Host → List calls.Moment → List Command → Type 0
IsSolo peer [] queue = IsMore [] queue
IsSolo peer (m ∷ ms) queue = Quiet m.call m.pair × (m.pair.entries ≡ ends_now peer ms) × IsSolo peer ms m.pair.queue × IsMore (queue_by peer m.call m.pair m.listening) queue

all_wordless : (xs ys : List Command) → AllWordless xs → AllWordless ys → AllWordless (xs ++ ys)
all_wordless [] ys h k = k
all_wordless (x ∷ xs) ys h k = (h.0, all_wordless xs ys h.1 k)

pub no_more : (cs : List Command) → IsMore cs cs
no_more cs = record { more = []; wordless = tt; is = sym (append-nil cs) }

pub one_more : (cs : List Command) (c : Command) → IsWordless c → IsMore cs (cs ++ c ∷ [])
one_more cs c h = record { more = c ∷ []; wordless = (h, tt); is = refl }

more_more : (xs ys zs : List Command) → IsMore xs ys → IsMore ys zs → IsMore xs zs
more_more xs ys zs h k = record {
  more = h.more ++ k.more;
  wordless = all_wordless h.more k.more h.wordless k.wordless;
  is = k.is ∙ ap (λ (l : List Command). l ++ k.more) h.is ∙ append_assoc xs h.more k.more;
}

pub solo_more : (peer : Host) (ms : List calls.Moment) (ys zs : List Command) → IsSolo peer ms ys → IsMore ys zs → IsSolo peer ms zs
solo_more peer [] ys zs h k = more_more [] ys zs h k
solo_more peer (m ∷ ms) ys zs h k = (h.0, h.1, h.2, more_more _ ys zs h.3 k)

-- each of them may be made
quiet_allowed : (link : ℕ) (k : Call) (q : PairState) (s : Sender) → Quiet k q → IsAllowed link k q s
quiet_allowed link k q s (Asks is may paired) = may link s
quiet_allowed link k q s (Told l is) = subst (λ (c : Call). IsAllowed link c q s) (sym is) tt
quiet_allowed link k q s (Replied stamp is) = subst (λ (c : Call). IsAllowed link c q s) (sym is) (tt, tt)

pub solo_allowed : (number : ℕ → ℕ → ℕ → ℕ) (peer : Host) (link : ℕ) (ms : List calls.Moment) (queue : List Command) → IsSolo peer ms queue → AreAllowed number peer link ms
solo_allowed number peer link [] queue h = tt
solo_allowed number peer link (m ∷ ms) queue h = (quiet_allowed link m.call m.pair _ h.0, solo_allowed number peer link ms m.pair.queue h.2)

-- ---- an answer about a message of before: the law's box is free, and is so afterwards

abbrev boxed : Stream → Box → Stream
boxed y box = record y { box = box }

fetched_inv : (y : Stream) → y.box ≡ Empty → Inv y → Inv (boxed y Taken)
fetched_inv y free h = by (subst (λ (box : Box). Inv (boxed y box)) free h) where
  by : Inv (boxed y Empty) → Inv (boxed y Taken)
  by i = record {
    ends = i.ends;
    down = i.down;
    still = i.still;
    up = i.up;
    sizes = i.sizes;
    waiting = tt;
    arrivals = i.arrivals;
    account = i.account;
    grants = i.grants;
  }

free_box : (box : Box) → IsPosted Free box → box ≡ Empty
free_box Empty p = refl
free_box (Waiting c size bits) p = absurd p
free_box Taken p = absurd p

module _ (number other : ℕ → ℕ → ℕ → ℕ) (tells : IsTelling number) (others : IsTelling other) (link : ℕ) where
  abbrev J : Stream → Stream → Party → Party → Type 0
  J x y a b = Joint number other tells others link x y a b

  as_fetched : (x y : Stream) (a b : Party) → J x y a b → a.stays ≡ true → y.box ≡ Empty → J x (boxed y Taken) (record a { post = Fetched }) b
  as_fetched x y a b j stays free = record {
    inv_x = j.inv_x;
    inv_y = fetched_inv y free j.inv_y;
    exact_x = j.exact_x;
    exact_y = λ s t. record { holds = (j.exact_y s t).holds; fits = (j.exact_y s t).fits; all = (j.exact_y s t).all };
    mine = λ s. record { holds = (j.mine s).holds; linked = (j.mine s).linked };
    theirs = j.theirs;
    to_b = j.to_b;
    to_a = j.to_a;
    told_b = j.told_b;
    told_a = j.told_a;
    box_x = record { whole = j.box_x.whole; left = j.box_x.left };
    box_y = record { whole = λ s. tt; left = λ s. absurd (let both : true ≡ false = sym stays ∙ s in cc) };
  }

  module _ (steps : Steps number other tells others link) where
    answers_free : (x y : Stream) (a b : Party) → J x y a b → a.stays ≡ true → a.post ≡ Free → (peer : Host) (q : PairState) → q.entries ≡ a.entries → (listening : List Listener) → (l : ℕ) → (l == link) ≡ true
        → Stepped number other tells others link x y a peer (Answered l) q listening Free b
    answers_free x y a b j stays free peer q here listening l is =
        let box : y.box ≡ Empty = free_box y.box (subst (λ (p : Post). IsPosted p y.box) free (j.box_y.whole stays)) in
        let t : Stepped number other tells others link x (boxed y Taken) (record a { post = Fetched }) peer (Answered l) q listening Free b
        = steps.answered x (boxed y Taken) (record a { post = Fetched }) b (as_fetched x y a b j stays box) stays peer q here listening l is refl in
        record {
          new = t.new;
          queue = t.queue;
          joint = subst (λ (z : Stream). J (x_after number link (Answered l) q listening a x) z (after a peer (Answered l) q listening t.new Free) b) (same _ is) t.joint;
        }
      where
        rest : List senders.Move
        rest = closes (name_of number a.gone) (freed l q).busy q.entries

        same : (v : Bool) → v ≡ true → sends ((if v then senders.Told ∷ [] else []) ++ rest) (boxed y Taken) ≡ sends ((if v then senders.Told ∷ [] else []) ++ rest) y
        same true e = refl
        same false e = absurd (cc)

    -- ---- one call

    -- a party that stays, with what it has done
    abbrev pub alone : Host → List calls.Moment → List Command → Party
    alone peer ms queue = record { stays = true; gone = gone_now peer ms; entries = ends_now peer ms; pending = queue; post = Free }

    -- wordless commands are queued
    all_more : (x y : Stream) (a b : Party) (cs : List Command) → AllWordless cs → J x y a b → J x y (record a { pending = a.pending ++ cs }) b
    all_more x y a b [] h j = subst (λ (l : List Command). J x y (record a { pending = l }) b) (sym (append-nil a.pending)) j
    all_more x y a b (c ∷ cs) h j =
        subst (λ (l : List Command). J x y (record a { pending = l }) b) (append_assoc a.pending (c ∷ []) cs)
        (all_more x y (record a { pending = a.pending ++ c ∷ [] }) b cs h.1 (steps.wordless x y a b j c h.0))

    pub joint_more : (x y : Stream) (a b : Party) (queue : List Command) → IsMore a.pending queue → J x y a b → J x y (record a { pending = queue }) b
    joint_more x y a b queue h j = subst (λ (l : List Command). J x y (record a { pending = l }) b) (sym h.is) (all_more x y a b h.more h.wordless j)

    -- ---- all calls

    pub record Reached (peer : Host) (ms : List calls.Moment) (queue : List Command) (before_x before_y : Stream) (b : Party) : Type 0 where
      pub x : Stream
      pub y : Stream
      pub joint : J x y (alone peer ms queue) b
      pub received : x.receiver ≡ receiver_now number peer link ms
      pub sent : y.sender ≡ sender_now number peer link ms
      pub sender : x.sender ≡ before_x.sender
      pub receiver : y.receiver ≡ before_y.receiver

    module _ (peer : Host) (before_x before_y : Stream) (b : Party) where
      abbrev R : List calls.Moment → List Command → Type 0
      R ms queue = Reached peer ms queue before_x before_y b

      reached_more : (ms : List calls.Moment) (ys zs : List Command) → IsMore ys zs → R ms ys → R ms zs
      reached_more ms ys zs h r = record {
        x = r.x;
        y = r.y;
        joint = joint_more r.x r.y _ b zs h r.joint;
        received = r.received;
        sent = r.sent;
        sender = r.sender;
        receiver = r.receiver;
      }

      module _ (m : calls.Moment) (ms : List calls.Moment) (r : R ms m.pair.queue) (here : m.pair.entries ≡ ends_now peer ms) where
        -- the party with the ends that the call finds
        abbrev found : Party
        found = record (alone peer ms m.pair.queue) { entries = m.pair.entries }

        joint_found : J r.x r.y found b
        joint_found = subst (λ (es : List Entry). J r.x r.y (record (alone peer ms m.pair.queue) { entries = es }) b) (sym here) r.joint

        abbrev Step : Call → Type 0
        Step k = Stepped number other tells others link r.x r.y found peer k m.pair m.listening Free b

        stepped : Step m.call → R (m ∷ ms) (queue_by peer m.call m.pair m.listening)
        stepped t = record {
          x = x_after number link m.call m.pair m.listening found r.x;
          y = y_after number link m.call m.pair m.listening found r.y;
          joint = subst (λ (l : List Command). J (x_after number link m.call m.pair m.listening found r.x) (y_after number link m.call m.pair m.listening found r.y) (alone peer (m ∷ ms) l) b) (sym t.queue) t.joint;
          received = receives_receiver (received_at (name_now number peer ms) link m.call m.pair m.listening) r.x
              ∙ ap (all_received (received_at (name_now number peer ms) link m.call m.pair m.listening)) r.received;
          sent = sends_sender (sent_at (name_now number peer ms) link m.call m.pair m.listening r.y.sender) r.y
              ∙ ap (λ (s : Sender). all_sent (sent_at (name_now number peer ms) link m.call m.pair m.listening s) s) r.sent;
          sender = receives_sender (received_at (name_now number peer ms) link m.call m.pair m.listening) r.x ∙ r.sender;
          receiver = sends_receiver (sent_at (name_now number peer ms) link m.call m.pair m.listening r.y.sender) r.y ∙ r.receiver;
        }

        answers : (l : ℕ) → Step (Answered l)
        answers l = by (l == link) refl where
          by : (v : Bool) → (l == link) ≡ v → Step (Answered l)
          by true e = answers_free r.x r.y found b joint_found refl refl peer m.pair refl m.listening l e
          by false e = steps.elsewhere r.x r.y found b joint_found refl peer m.pair refl m.listening l e (λ out. refl)

        replies : (stamp : ℕ) → Step (Hears stamp 0 command.Rrp)
        replies stamp = record {
          new = [];
          queue = sym (append-nil m.pair.queue);
          joint = subst (λ (l : List Command). J r.x r.y (record (alone peer ms l) { gone = gone_by m.pair.entries m.pair.entries (gone_now peer ms); entries = m.pair.entries }) b) (sym (append-nil m.pair.queue))
              (steps.replied r.x r.y found b joint_found refl peer m.pair refl m.listening stamp);
        }

        quiet_step : Quiet m.call m.pair → Step m.call
        quiet_step (Asks is may paired) = steps.asks r.x r.y found b joint_found refl peer m.pair refl m.listening m.call is (may link r.y.sender) paired (λ out. refl)
        quiet_step (Told l is) = subst Step (sym is) (answers l)
        quiet_step (Replied stamp is) = subst Step (sym is) (replies stamp)

      pub reach : (ms : List calls.Moment) (queue : List Command) → IsSolo peer ms queue → J before_x before_y (alone peer [] []) b → before_x.receiver ≡ receivers.opening_receiver → before_y.sender ≡ senders.opening_sender → R ms queue
      reach [] queue h j e f = reached_more [] [] queue h (record { x = before_x; y = before_y; joint = j; received = e; sent = f; sender = refl; receiver = refl })
      reach (m ∷ ms) queue h j e f =
          let r : R ms m.pair.queue = reach ms m.pair.queue h.2 j e f in
          reached_more _ _ queue h.3 (stepped m ms r h.1 (quiet_step m ms r h.1 h.0))
