-- What a host that stays takes of its peer; and what one takes that has left.
use Rattle.world_keeps_streams.proofs.Common.{◌≡◌, ℕ, true, false, List, [], ◌∷◌, ◌++◌, refl, ap, sym, ◌∙◌, Host, Command, Stream, desk_taken, Order, Legal, Wrong, error, desk_of, command_queued, is_busy, PairState, is_ready, TurnState, order_taken, orders_taken, with_desk, AreJoint, ready_when, Hears, IsTelling, Free, Joint, Party, Post, Steps, clash}
use Rattle.world_keeps_streams.specs.Calls.{orders_heard, called}
use Rattle.ncp_control.specs.declared.command.Command.TheVariants as command
use Rattle.host_keeps_streams.specs.Histories as calls
use Rattle.world_keeps_streams.proofs.Steps.Going.{Goes, Here, hears_here, standing, stays_as, then_goes, wordless_here}
use Rattle.world_keeps_streams.proofs.Steps.Joined.{legal_in}
use Rattle.world_keeps_streams.proofs.Calls.MayCalls.{MayCalls}

-- ---- a receiver that takes

module _ (number other : ℕ → ℕ → ℕ → ℕ) (tells : IsTelling number) (others : IsTelling other) (link : ℕ) where
  -- what waits of the peer, for a host that has left
  pub deaf : (x y : Stream) (a b : Party) → Joint number other tells others link x y a b → a.stays ≡ false → (pending : List Command) → Joint number other tells others link x y a (record b { pending = pending })
  deaf x y a b j left pending = record {
    inv_x = j.inv_x;
    inv_y = j.inv_y;
    exact_x = λ s t. clash _ a.stays s left;
    exact_y = λ s t. clash _ a.stays s left;
    mine = j.mine;
    theirs = λ s. record { holds = (j.theirs s).holds; linked = (j.theirs s).linked };
    to_b = j.to_b;
    to_a = λ s. clash _ a.stays s left;
    told_b = j.told_b;
    told_a = λ s t. clash _ a.stays s left;
    box_x = record { whole = j.box_x.whole; left = j.box_x.left };
    box_y = record { whole = j.box_y.whole; left = j.box_y.left };
  }

  -- the data of a host that has left, for one that has left
  pub blind : (x y : Stream) (a b : Party) → Joint number other tells others link x y a b → a.stays ≡ false → b.stays ≡ false → (post : Post) → Joint number other tells others link x y a (record b { post = post })
  blind x y a b j left gone post = record {
    inv_x = j.inv_x;
    inv_y = j.inv_y;
    exact_x = λ s t. clash _ a.stays s left;
    exact_y = λ s t. clash _ a.stays s left;
    mine = j.mine;
    theirs = λ s. clash _ b.stays s gone;
    to_b = j.to_b;
    to_a = λ s. clash _ a.stays s left;
    told_b = j.told_b;
    told_a = λ s t. clash _ a.stays s left;
    box_x = record { whole = λ s. clash _ b.stays s gone; left = λ s t. clash _ a.stays t left };
    box_y = record { whole = j.box_y.whole; left = j.box_y.left };
  }

  -- an RRP more at the beginning is no word
  reply_first : (x y : Stream) (a b : Party) → Joint number other tells others link x y a b → Joint number other tells others link x y a (record b { pending = command.Rrp ∷ b.pending })
  reply_first x y a b j = record {
    inv_x = j.inv_x;
    inv_y = j.inv_y;
    exact_x = j.exact_x;
    exact_y = j.exact_y;
    mine = j.mine;
    theirs = λ s. record { holds = (j.theirs s).holds; linked = (j.theirs s).linked };
    to_b = j.to_b;
    to_a = λ s. record { received = (j.to_a s).received; sent = (j.to_a s).sent };
    told_b = j.told_b;
    told_a = j.told_a;
    box_x = record { whole = j.box_x.whole; left = j.box_x.left };
    box_y = record { whole = j.box_y.whole; left = j.box_y.left };
  }

  module _ (steps : Steps number other tells others link) (p : Host) (stamp : ℕ) (own : List calls.Moment) (front : List Command) (post : Post) (b : Party) where
    pub reply_heard : (q next : PairState) (listening : List _) (x y : Stream) → (is_busy q.busy link ≡ false → post ≡ Free) → q.entries ≡ next.entries → q.queue ≡ next.queue → Here number other tells others link p own q front post b x y
        → Goes number other tells others link p (called (Hears stamp 0 command.Rrp) q listening ∷ own) next front post b x y
    reply_heard q next listening x y room same waits h =
        hears_here number other tells others link p own q front post (record b { pending = command.Rrp ∷ b.pending }) x y
        (record { joint = reply_first x y _ b h.joint; received = h.received; sent = h.sent; allowed = h.allowed })
        steps listening stamp command.Rrp b.pending refl tt tt tt tt room next same waits

    heard_under : (orders : List Order) (t : TurnState) (older : List calls.Moment) → MayCalls (orders_heard p stamp orders t older) → MayCalls older
    heard_under [] t older m = m
    heard_under (Legal c ∷ orders) t older m = (heard_under orders (order_taken p stamp (Legal c) t) (called (Hears stamp 0 c) t.pair t.listening ∷ older) m).1
    heard_under (Wrong code octets ∷ orders) t older m = heard_under orders (order_taken p stamp (Wrong code octets) t) older m

    pub heard_run : (orders : List Order) (t : TurnState) (older : List calls.Moment) (rest : List Command) (x y : Stream) → AreJoint orders → is_ready t.pair.phase ≡ true → (is_busy t.pair.busy link ≡ false → post ≡ Free)
        → MayCalls (orders_heard p stamp orders t older) → Here number other tells others link p (older ++ own) t.pair front post (record b { pending = legal_in orders ++ rest }) x y
        → Goes number other tells others link p (orders_heard p stamp orders t older ++ own) (orders_taken p stamp orders t).pair front post (record b { pending = rest }) x y
    heard_run [] t older rest x y joint ready room may h = stays_as number other tells others link p (older ++ own) t.pair front post (record b { pending = rest }) x y h
    heard_run (Legal c ∷ orders) t older rest x y joint ready room may h =
        let is : order_taken p stamp (Legal c) t ≡ with_desk t (desk_taken p t.pair.busy stamp c (desk_of t.pair t.listening)) = ready_when p stamp (Legal c) t joint.0 ready in
        let m : MayCalls (called (Hears stamp 0 c) t.pair t.listening ∷ older) = heard_under orders (order_taken p stamp (Legal c) t) (called (Hears stamp 0 c) t.pair t.listening ∷ older) may in
        let one : Goes number other tells others link p (called (Hears stamp 0 c) t.pair t.listening ∷ (older ++ own)) (order_taken p stamp (Legal c) t).pair front post (record b { pending = legal_in orders ++ rest }) x y =
        hears_here number other tells others link p (older ++ own) t.pair front post (record b { pending = c ∷ (legal_in orders ++ rest) }) x y h steps t.listening stamp c (legal_in orders ++ rest) refl m.0.0 m.0.1 m.0.2 m.0.3 room
        (order_taken p stamp (Legal c) t).pair (sym (ap (λ (u : TurnState). u.pair.entries) is)) (sym (ap (λ (u : TurnState). u.pair.queue) is)) in
        then_goes number other tells others link p (called (Hears stamp 0 c) t.pair t.listening ∷ (older ++ own)) (orders_heard p stamp (Legal c ∷ orders) t older ++ own) (order_taken p stamp (Legal c) t).pair (orders_taken p stamp (Legal c ∷ orders) t).pair
        front front post post (record b { pending = legal_in orders ++ rest }) (record b { pending = rest }) x y one
        (λ first second g. heard_run orders (order_taken p stamp (Legal c) t) (called (Hears stamp 0 c) t.pair t.listening ∷ older) rest first second joint.1 (ap (λ (u : TurnState). is_ready u.pair.phase) is ∙ ready)
        (λ f. room (sym (ap (λ (u : TurnState). is_busy u.pair.busy link) is) ∙ f)) may g)
    heard_run (Wrong code octets ∷ orders) t older rest x y joint ready room may h =
        let is : order_taken p stamp (Wrong code octets) t ≡ with_desk t (command_queued (error code octets) (desk_of t.pair t.listening)) = ready_when p stamp (Wrong code octets) t joint.0 ready in
        heard_run orders (order_taken p stamp (Wrong code octets) t) older rest x y joint.1 (ap (λ (u : TurnState). is_ready u.pair.phase) is ∙ ready)
        (λ f. room (sym (ap (λ (u : TurnState). is_busy u.pair.busy link) is) ∙ f)) may
        (wordless_here number other tells others link p (older ++ own) t.pair front post (record b { pending = legal_in orders ++ rest }) x y h steps t.listening (error code octets) tt
        (order_taken p stamp (Wrong code octets) t).pair (sym (ap (λ (u : TurnState). u.pair.entries) is)) (sym (ap (λ (u : TurnState). u.pair.queue) is)))
