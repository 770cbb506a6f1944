-- Where two hosts meet and part: what is kept as one leaves, and what it may do afterwards.
use Rattle.pair_keeps_streams.proofs.Common.{◌≡◌, ℕ, Bool, true, false, List, [], ◌∷◌, ◌++◌, refl, ap, sym, subst, ◌∙◌, append-nil, Command, Word, Receiver, Stream, Box, Empty, Waiting, Taken, Entry, IsTelling, Holds, name_of, closings_in, heard_from, said_of, with_closing, receiver_word, receiver_words, sender_word, sender_words}
use Rattle.ncp_control.specs.declared.command.Command.TheVariants as command
use Rattle.stream_law.specs.Receivers as receivers
use Rattle.stream_law.specs.Senders as senders
use Rattle.stream_law.specs.Streams.{opening_stream}
use Rattle.stream_law.proofs.lemmas.{exact_opening, inv_opening}
use Rattle.pair_keeps_streams.proofs.Joint.{AreLinked, Party, Post, Free, Lies, Fetched, Half, Line, IsPosted, IsBox, Joint, receives, heard_by, said_by}
use Rattle.pair_keeps_streams.proofs.News.{take_asked}
use Rattle.pair_keeps_streams.proofs.Spoken.{closings_append, receiver_append, receiver_same, sender_append}
use Rattle.pair_keeps_streams.proofs.Streams.{kept_receives}

-- a command that is no word of a stream
abbrev pub IsWordless : Command → Type 0
IsWordless (command.Err code detail) = Unit {0}
IsWordless (command.Erp octet) = Unit {0}
IsWordless (command.Eco octet) = Unit {0}
IsWordless (command.Inr l) = Unit {0}
IsWordless (command.Ins l) = Unit {0}
IsWordless command.Nop = Unit {0}
IsWordless command.Rst = Unit {0}
IsWordless command.Rrp = Unit {0}
IsWordless c = ⊥

record IsSilent (number : ℕ → ℕ → ℕ → ℕ) (link : ℕ) (c : Command) : Type 0 where
  counts : (n : ℕ → ℕ → ℕ) → with_closing c n ≡ n
  received : (asked : ℕ → Bool) (n : ℕ → ℕ → ℕ) → receiver_word number link asked n c ≡ []
  sent : (n : ℕ → ℕ → ℕ) → sender_word number link n c ≡ []

silent : (number : ℕ → ℕ → ℕ → ℕ) (link : ℕ) (c : Command) → IsWordless c → IsSilent number link c
silent number link (command.Rts r s l) w = absurd (w)
silent number link (command.Str s r z) w = absurd (w)
silent number link (command.All l m n) w = absurd (w)
silent number link (command.Gvb l m n) w = absurd (w)
silent number link (command.Ret l m n) w = absurd (w)
silent number link (command.Cls own foreign) w = absurd (w)
silent number link c w = record { counts = λ n. refl; received = λ a n. refl; sent = λ n. refl }

module _ (number other : ℕ → ℕ → ℕ → ℕ) (tells : IsTelling number) (others : IsTelling other) (link : ℕ) where
  -- the other way round
  pub mirror : (x y : Stream) (a b : Party) → Joint number other tells others link x y a b → Joint other number others tells link y x b a
  mirror x y a b j = record {
    inv_x = j.inv_y;
    inv_y = j.inv_x;
    exact_x = λ e f. j.exact_y f e;
    exact_y = λ e f. j.exact_x f e;
    mine = j.theirs;
    theirs = j.mine;
    to_b = j.to_a;
    to_a = j.to_b;
    told_b = λ e f. j.told_a f e;
    told_a = λ e f. j.told_b f e;
    box_x = j.box_y;
    box_y = j.box_x;
  }

module _ (number other : ℕ → ℕ → ℕ → ℕ) (tells : IsTelling number) (others : IsTelling other) (link : ℕ) (x y : Stream) (a b : Party) (j : Joint number other tells others link x y a b) where
  -- a command is queued that is no word
  pub wordless : (c : Command) → IsWordless c → Joint number other tells others link x y (record a { pending = a.pending ++ c ∷ [] }) b
  wordless c w = record {
    inv_x = j.inv_x;
    inv_y = j.inv_y;
    exact_x = j.exact_x;
    exact_y = j.exact_y;
    mine = λ e. record { holds = (j.mine e).holds; linked = (j.mine e).linked };
    theirs = j.theirs;
    to_b = λ e. record {
      received = (j.to_b e).received ∙ sym (append-nil (receiver_words number link x.receiver.asked (heard_by b) a.pending))
          ∙ ap (λ (ws : List Word). receiver_words number link x.receiver.asked (heard_by b) a.pending ++ ws) (sym (append-nil (receiver_word number link x.receiver.asked (closings_in a.pending (heard_by b)) c) ∙ s.received x.receiver.asked (closings_in a.pending (heard_by b))))
          ∙ sym (receiver_append number link x.receiver.asked a.pending (c ∷ []) (heard_by b));
      sent = (j.to_b e).sent ∙ sym (append-nil (sender_words number link (heard_by b) a.pending))
          ∙ ap (λ (ws : List Word). sender_words number link (heard_by b) a.pending ++ ws) (sym (append-nil (sender_word number link (closings_in a.pending (heard_by b)) c) ∙ s.sent (closings_in a.pending (heard_by b))))
          ∙ sym (sender_append number link a.pending (c ∷ []) (heard_by b));
    };
    to_a = j.to_a;
    told_b = λ e f own foreign. j.told_b e f own foreign
        ∙ ap (λ (n : ℕ → ℕ → ℕ). n own foreign) (sym (closings_append a.pending (c ∷ []) (heard_by b) ∙ s.counts (closings_in a.pending (heard_by b))));
    told_a = j.told_a;
    box_x = record { whole = j.box_x.whole; left = j.box_x.left };
    box_y = record { whole = j.box_y.whole; left = j.box_y.left };
  } where
    s : IsSilent number link c
    s = silent number link c w

  -- a host leaves. What it said is still heard
  pub leaves : (c : Party) → c.stays ≡ false → c.pending ≡ a.pending → c.post ≡ a.post → Joint number other tells others link x y c b
  leaves c gone pending post = record {
    inv_x = j.inv_x;
    inv_y = j.inv_y;
    exact_x = λ e f. never e;
    exact_y = λ e f. never e;
    mine = λ e. never e;
    theirs = j.theirs;
    to_b = λ e. subst (λ (cs : List Command). Line number link (heard_by b) cs x.receiver.asked x.to_sender y.to_receiver) (sym pending) (j.to_b e);
    to_a = λ e. never e;
    told_b = λ e f. never e;
    told_a = λ e f. never e;
    box_x = record { whole = j.box_x.whole; left = λ e f. never f };
    box_y = record { whole = λ e. never e; left = λ e f text l. lies f text (sym post ∙ l) };
  } where
    never : {A : Type 0} → c.stays ≡ true → A
    never e = absurd (cc)

    lies : b.stays ≡ true → (text : List Bool) → a.post ≡ Lies text → IsPosted (Lies text) y.box
    lies f text l = by a.stays refl where
      by : (v : Bool) → a.stays ≡ v → IsPosted (Lies text) y.box
      by true e = subst (λ (p : Post). IsPosted p y.box) l (j.box_y.whole e)
      by false e = j.box_y.left e f text l

  -- its message is gone, or what lies there concerns nobody
  pub gone_post : a.stays ≡ false → (post : Post) → ((text : List Bool) → post ≡ Lies text → ⊥) → Joint number other tells others link x y (record a { post = post }) b
  gone_post gone post none = record {
    inv_x = j.inv_x;
    inv_y = j.inv_y;
    exact_x = λ e f. never e;
    exact_y = λ e f. never e;
    mine = λ e. record { holds = (j.mine e).holds; linked = (j.mine e).linked };
    theirs = j.theirs;
    to_b = j.to_b;
    to_a = j.to_a;
    told_b = j.told_b;
    told_a = j.told_a;
    box_x = record { whole = j.box_x.whole; left = j.box_x.left };
    box_y = record { whole = λ e. never e; left = λ e f text l. absurd (none text l) };
  } where
    never : {A : Type 0} → a.stays ≡ true → A
    never e = absurd (cc)

  -- what is said to a host that left isn't heard
  pub gone_pending : b.stays ≡ false → (pending : List Command) → Joint number other tells others link x y (record a { pending = pending }) b
  gone_pending gone pending = record {
    inv_x = j.inv_x;
    inv_y = j.inv_y;
    exact_x = λ e f. never f;
    exact_y = λ e f. never f;
    mine = λ e. record { holds = (j.mine e).holds; linked = (j.mine e).linked };
    theirs = j.theirs;
    to_b = λ e. never e;
    to_a = j.to_a;
    told_b = λ e f. never f;
    told_a = j.told_a;
    box_x = record { whole = j.box_x.whole; left = j.box_x.left };
    box_y = record { whole = j.box_y.whole; left = j.box_y.left };
  } where
    never : {A : Type 0} → b.stays ≡ true → A
    never e = absurd (cc)

  -- a message of a host that stays is taken by one that left
  ghost_by : (c z : ℕ) (bits : List Bool) → a.stays ≡ false → x.box ≡ Waiting c z bits → Joint number other tells others link (receives (receivers.Take z bits ∷ []) x) y a (record b { post = Fetched })
  ghost_by c z bits gone e = record {
    inv_x = kept_receives (receivers.Take z bits ∷ []) x (tt, tt) ((c, e), tt) j.inv_x;
    inv_y = j.inv_y;
    exact_x = λ e f. never e;
    exact_y = λ e f. never e;
    mine = λ e. never e;
    theirs = λ e. record { holds = (j.theirs e).holds; linked = (j.theirs e).linked };
    to_b = λ e. record {
      received = (j.to_b e).received ∙ receiver_same number link x.receiver.asked (receivers.takes z bits x.receiver.end x.receiver).asked a.pending (heard_by b) _ (λ own foreign. refl)
          (λ own foreign g l. take_asked (λ k. ⊥) (number own foreign g) (λ n. n) z bits x.receiver.end _);
      sent = (j.to_b e).sent;
    };
    to_a = λ e. never e;
    told_b = λ e f. never e;
    told_a = λ e f. never e;
    box_x = record { whole = λ f. tt; left = λ f g. never g };
    box_y = record { whole = j.box_y.whole; left = j.box_y.left };
  } where
    never : {A : Type 0} → a.stays ≡ true → A
    never e = absurd (cc)

  pub ghost : a.stays ≡ false → b.stays ≡ true → (text : List Bool) → b.post ≡ Lies text
      → (size : ℕ) × (bits : List Bool) × Joint number other tells others link (receives (receivers.Take size bits ∷ []) x) y a (record b { post = Fetched })
  ghost gone there text lies = by x.box refl (subst (λ (p : Post). IsPosted p x.box) lies (j.box_x.whole there)) where
    by : (box : Box) → x.box ≡ box → IsPosted (Lies text) box
        → (size : ℕ) × (bits : List Bool) × Joint number other tells others link (receives (receivers.Take size bits ∷ []) x) y a (record b { post = Fetched })
    by (Waiting c z bits) e i = (z, bits, ghost_by c z bits gone e)
    by Empty e i = absurd (i)
    by Taken e i = absurd (i)

-- ---- where they meet

-- a host that meets another: it has no ends, has said nothing, and nothing of it is under way
pub record IsFresh (a : Party) : Type 0 where
  pub gone : (own foreign : ℕ) → a.gone own foreign ≡ 0
  pub entries : a.entries ≡ []
  pub pending : a.pending ≡ []
  pub post : a.post ≡ Free

fresh_half : (number : ℕ → ℕ → ℕ → ℕ) (tells : IsTelling number) (link : ℕ) (a : Party) → IsFresh a → Half number tells link receivers.opening_receiver senders.opening_sender a
fresh_half number tells link a f = record {
  holds = subst (λ (es : List Entry). Holds number tells link a.gone es receivers.opening_receiver senders.opening_sender) (sym f.entries) (record {
    sound = record { formed = tt; apart = tt };
    received = refl;
    sent = record { here = λ k e o. absurd (cc); known = tt };
    unknown = λ own foreign g i. record { unasked = refl; untold = refl; unheard = refl };
    unsaid = λ own foreign g i. record { untold = refl; unclosed = refl; unheard = λ e. absurd (cc) };
  });
  linked = subst (λ (es : List Entry). AreLinked (name_of number a.gone) link es receivers.opening_receiver) (sym f.entries) tt;
}

fresh_said : (a : Party) → IsFresh a → (own foreign : ℕ) → said_by a own foreign ≡ 0
fresh_said a f own foreign = ap (λ (es : List Entry). said_of a.gone es own foreign) f.entries ∙ f.gone own foreign

fresh_heard : (a : Party) → IsFresh a → (own foreign : ℕ) → heard_by a own foreign ≡ 0
fresh_heard a f own foreign = ap (λ (es : List Entry). heard_from a.gone es own foreign) f.entries ∙ f.gone foreign own

fresh_line : (number : ℕ → ℕ → ℕ → ℕ) (link : ℕ) (heard : ℕ → ℕ → ℕ) (asked : ℕ → Bool) (cs : List Command) → cs ≡ [] → Line number link heard cs asked [] []
fresh_line number link heard asked cs e = subst (λ (ds : List Command). Line number link heard ds asked [] []) (sym e) (record { received = refl; sent = refl })

fresh_told : (a b : Party) → IsFresh a → IsFresh b → (own foreign : ℕ) → said_by a own foreign ≡ closings_in a.pending (heard_by b) own foreign
fresh_told a b f g own foreign =
    fresh_said a f own foreign ∙ sym (fresh_heard b g own foreign) ∙ ap (λ (cs : List Command). closings_in cs (heard_by b) own foreign) (sym f.pending)

fresh_box : (a b : Party) → IsFresh a → IsBox a b Empty
fresh_box a b f = record {
  whole = λ e. subst (λ (p : Post). IsPosted p Empty) (sym f.post) tt;
  left = λ e g text l. lies text (sym f.post ∙ l);
} where
  lies : (text : List Bool) → Free ≡ Lies text → IsPosted (Lies text) Empty
  lies text e = absurd (cc)

opened_fresh : (number other : ℕ → ℕ → ℕ → ℕ) (tells : IsTelling number) (others : IsTelling other) (link : ℕ) (a b : Party) → IsFresh a → IsFresh b → Joint number other tells others link opening_stream opening_stream a b
opened_fresh number other tells others link a b f g = record {
  inv_x = inv_opening;
  inv_y = inv_opening;
  exact_x = λ e h. exact_opening true;
  exact_y = λ e h. exact_opening true;
  mine = λ e. fresh_half number tells link a f;
  theirs = λ e. fresh_half other others link b g;
  to_b = λ e. fresh_line number link (heard_by b) receivers.opening_receiver.asked a.pending f.pending;
  to_a = λ e. fresh_line other link (heard_by a) receivers.opening_receiver.asked b.pending g.pending;
  told_b = λ e h. fresh_told a b f g;
  told_a = λ e h. fresh_told b a g f;
  box_x = fresh_box b a g;
  box_y = fresh_box a b f;
}

pub opened : (number other : ℕ → ℕ → ℕ → ℕ) (tells : IsTelling number) (others : IsTelling other) (link : ℕ) (a b : Party) → a.entries ≡ [] → b.entries ≡ [] → a.pending ≡ [] → b.pending ≡ []
    → ((own foreign : ℕ) → a.gone own foreign ≡ 0) → ((own foreign : ℕ) → b.gone own foreign ≡ 0) → a.post ≡ Free → b.post ≡ Free → Joint number other tells others link opening_stream opening_stream a b
opened number other tells others link a b ae be ap bp ag bg ao bo =
    opened_fresh number other tells others link a b (record { gone = ag; entries = ae; pending = ap; post = ao }) (record { gone = bg; entries = be; pending = bp; post = bo })
