-- The requests that a host said since it met its peer last aren't those of lives from before.
use Rattle.world_keeps_streams.proofs.Common.{◌≡◌, ◌⊎◌, inl, inr, ℕ, suc, ◌<◌, ◌==◌, ◌&&◌, if◌then◌else◌, Bool, true, false, List, [], ◌∷◌, ◌++◌, length, map, take, refl, ap, sym, subst, ◌∙◌, arith, Contains, Host, is_send_socket, Command, Legal, Order, Wrong, orders_of, mark_of, marks_in, Ask, Asks, Close, Mark, placed_event, tagged, Side, says, begins_either, Moment, event_in, events_of, crossings_of, place_same, law_events, Network, AreOurs, lives_among, mixed_kept}
use Rattle.pairing_law.specs.Links.{Sockets, Who, Receiver, Sender}
use Rattle.reset_law.specs.Events.{Contact, Event, Other, Out, are, place, Reply, Reset}
use Rattle.promise.specs.Formed.{CrossedAt}
use Rattle.world_keeps_lives.proofs.lemmas.{Linked, LinkedBook, crossed_below}
use Rattle.world_keeps_pairing.proofs.lemmas.{all_says, at_texts, foreign_of, heard_is, met_if, other, own_of, IsPair, before}
use Rattle.interface.specs.declared.crossing.Crossing.TheVariants as crossing
use Rattle.ncp_control.specs.declared.command.Command.TheVariants as command
use Rattle.reset_law.specs.Stays as stay
use Rattle.promise.specs.Safe.{sends}
use Rattle.promise.specs.declared.life.Life.{Life}
use Rattle.world_keeps_streams.proofs.Books.All.{all_given}
use Rattle.world_keeps_streams.proofs.Books.Clauses.{Older, older, settled_s}
use Rattle.world_keeps_streams.proofs.Books.Counts.{side_of}
use Rattle.world_keeps_streams.proofs.Books.Firsts.{linked}
use Rattle.world_keeps_streams.proofs.Books.Goes.{since_bound, since_on}
use Rattle.world_keeps_streams.proofs.Books.Parted.{said_now}
use Rattle.world_keeps_streams.proofs.Books.Whole.{since}
use Rattle.world_keeps_streams.proofs.Lives.Lists.{IsOf, of_take, contains, is_of}
use Rattle.world_keeps_streams.proofs.Requests.Sides.{Heard, Lawful, Own, begins_same, lives_in, below}
use Rattle.world_keeps_streams.proofs.Ours.{ours_of}
use Rattle.world_keeps_streams.proofs.Lives.Among.{among_now}

-- ---- where a request went out

abbrev pub AllAt : ℕ → List Mark → Type 0
AllAt n [] = Unit {0}
AllAt n (Ask k ∷ ms) = (k ≡ n) × AllAt n ms
AllAt n (Close ∷ ms) = AllAt n ms

all_at_both : (n : ℕ) (xs ys : List Mark) → AllAt n xs → AllAt n ys → AllAt n (xs ++ ys)
all_at_both n [] ys a b = b
all_at_both n (Ask k ∷ xs) ys a b = (a.0, all_at_both n xs ys a.1 b)
all_at_both n (Close ∷ xs) ys a b = all_at_both n xs ys a b

at_if : (n : ℕ) (v : Bool) (m : Mark) → AllAt n (m ∷ []) → AllAt n (if v then m ∷ [] else [])
at_if n true m a = a
at_if n false m a = tt

of_command : (n own foreign : ℕ) (c : Command) → AllAt n (mark_of n own foreign c)
of_command n own foreign (command.Rts receive send link) = at_if n (receive == own && send == foreign) (Ask n) (refl, tt)
of_command n own foreign (command.Str send receive size) = at_if n (send == own && receive == foreign) (Ask n) (refl, tt)
of_command n own foreign (command.Cls mine yours) = at_if n (mine == own && yours == foreign) Close tt
of_command n own foreign c = tt

of_orders : (n own foreign : ℕ) (orders : List Order) → AllAt n (marks_in n own foreign orders)
of_orders n own foreign [] = tt
of_orders n own foreign (Legal c ∷ orders) = all_at_both n (mark_of n own foreign c) (marks_in n own foreign orders) (of_command n own foreign c) (of_orders n own foreign orders)
of_orders n own foreign (Wrong code octets ∷ orders) = of_orders n own foreign orders

-- what a host says by an event it says at its place
module _ (s : Sockets) (q : IsPair s) (who : Who) (h p : Host) where
  pub of_event : (e : Event) (events : List Event) → AllAt (place events) (at_texts s (other who) (stay.said_by h p 0 (placed_event e events)))
  of_event (Contact x y) events = tt
  of_event (Out x y k Reset) events = tt
  of_event (Out x y k Reply) events = tt
  of_event (Out x y k (Other text)) events = by (are h p x y && 0 == k) where
    by : (v : Bool) → AllAt (place events) (at_texts s (other who) (if v then tagged (place events) text ∷ [] else []))
    by false = tt
    by true =
        subst (λ (ms : List Mark). AllAt (place events) ms) (sym (heard_is s q who (place events) text))
        (of_orders (place events) (foreign_of who s) (own_of who s) (orders_of text))
  of_event e events = tt

-- what is asked for after marks was asked for before, or is of their place
pub asked_by : (k n there : ℕ) (ms : List Mark) (x : Side) → AllAt there ms → Asks k n (all_says ms x).said → (n ≡ there) ⊎ Asks k n x.said
asked_by k n there [] x at a = inr a
asked_by k n there (Ask j ∷ ms) x at a = elim (asked_by k n there ms (says (Ask j) x) at.1 a) [ inl is ↦ inl is | inr b ↦ by x.stays b ] where
  by : (v : Bool) → Asks k n (if v then Ask j ∷ x.said else x.said) → (n ≡ there) ⊎ Asks k n x.said
  by true (inl new) = inl (new.0 ∙ at.0)
  by true (inr old) = inr old
  by false b = inr b
asked_by k n there (Close ∷ ms) x at a = elim (asked_by k n there ms (says Close x) at a) [ inl is ↦ inl is | inr b ↦ by x.stays b ] where
  by : (v : Bool) → Asks k n (if v then Close ∷ x.said else x.said) → (n ≡ there) ⊎ Asks k n x.said
  by true b = inr b
  by false b = inr b

-- ---- a life's own request went out before

pub life_of_link : (x : Life) (links : List Linked) → IsOf x (map (λ (p : Linked). p.life) links) → (p : Linked) × Contains links p × (p.life ≡ x)
life_of_link x [] i = absurd i
life_of_link x (p ∷ links) (inl e) = (p, (0, omega arith, refl), sym e)
life_of_link x (p ∷ links) (inr i) =
    let r : (v : Linked) × Contains links v × (v.life ≡ x) = life_of_link x links i in
    (r.0, (suc r.1.0, (let l : r.1.0 < length links = r.1.1 in omega (arith, l)), r.1.2), r.2)

pub own_below : (hosts : Network) (ms : List Moment) → Lawful hosts ms → (x : Life) → AreOurs hosts x.host x.peer
    → IsOf x (lives_in ms) → x.own_stamp < length (crossings_of ms)
own_below hosts ms l x ours i =
    let b : LinkedBook hosts (crossings_of ms) (lives_among hosts.strange (mixed_kept hosts.strange ms).book.lives) = linked hosts ms l in
    let r : (p : Linked) × Contains b.links p × (p.life ≡ x) = life_of_link x b.links (subst (λ (ys : List Life). IsOf x ys) (sym b.all) (is_of x (lives_among hosts.strange (mixed_kept hosts.strange ms).book.lives) (among_now hosts ms x ours (contains x (lives_in ms) i)))) in
    let c : CrossedAt r.0.life.own_stamp (crossing.Out (b.first r.0 r.1).asked.own.message) (crossings_of ms) = (b.first r.0 r.1).asked.own.crossed in
    subst (λ (y : Life). y.own_stamp < length (crossings_of ms)) r.2 (crossed_below r.0.life.own_stamp (crossing.Out (b.first r.0 r.1).asked.own.message) (crossings_of ms) c)

pub partner_below : (hosts : Network) (ms : List Moment) → Lawful hosts ms → (x : Life) → AreOurs hosts x.host x.peer
    → IsOf x (lives_in ms) → x.partner_stamp < length (crossings_of ms)
partner_below hosts ms l x ours i =
    let b : LinkedBook hosts (crossings_of ms) (lives_among hosts.strange (mixed_kept hosts.strange ms).book.lives) = linked hosts ms l in
    let r : (p : Linked) × Contains b.links p × (p.life ≡ x) = life_of_link x b.links (subst (λ (ys : List Life). IsOf x ys) (sym b.all) (is_of x (lives_among hosts.strange (mixed_kept hosts.strange ms).book.lives) (among_now hosts ms x ours (contains x (lives_in ms) i)))) in
    let c : CrossedAt r.0.life.partner_stamp (crossing.In (b.first r.0 r.1).asked.partner.message) (crossings_of ms) = (b.first r.0 r.1).asked.partner.crossed in
    subst (λ (y : Life). y.partner_stamp < length (crossings_of ms)) r.2 (crossed_below r.0.life.partner_stamp (crossing.In (b.first r.0 r.1).asked.partner.message) (crossings_of ms) c)

-- ---- lives from before both met last

-- where two hosts meet neither has said anything
pub said_new : (s : Sockets) (who : Who) (h p : Host) (y : Moment) (ms : List Moment) → stay.begins h p (event_in y) (events_of ms) ≡ true → (side_of s who h p (y ∷ ms)).said ≡ []
said_new s who h p y ms new =
    ap (λ (v : Bool). (met_if v (before h p (at_texts s who) (at_texts s (other who)) (placed_event (event_in y) (events_of ms)) (law_events ms) (side_of s who h p ms))).said)
    (begins_same h p (event_in y) (events_of ms) ∙ new)

module _ (hosts : Network) (a b : Host) (ours : AreOurs hosts a b) (s : Sockets) (q : IsPair s) where
  pub unasked : (ms : List Moment) → Lawful hosts ms → (x : Life) → IsOf x (take (since a b ms) (lives_in ms)) → x.host ≡ b → x.peer ≡ a → sends x ≡ true
      → (k : ℕ) → Asks k x.own_stamp (side_of s Sender b a ms).said → ⊥
  unasked [] l x i host peer kind k asks = absurd i
  unasked (y ∷ ms) l x i host peer kind k asks = by (stay.begins a b (event_in y) (events_of ms)) refl (unasked ms (below hosts y ms l)) where
    by : (v : Bool) → stay.begins a b (event_in y) (events_of ms) ≡ v
        → ((z : Life) → IsOf z (take (since a b ms) (lives_in ms)) → z.host ≡ b → z.peer ≡ a → sends z ≡ true → (k : ℕ) → Asks k z.own_stamp (side_of s Sender b a ms).said → ⊥) → ⊥
    by true new rest = subst (λ (word : List Mark). Asks k x.own_stamp word) (said_new s Sender b a y ms (begins_either b a (event_in y) (events_of ms) ∙ new)) asks
    by false none rest =
        let o : Older (since a b ms) ms y x = older (since a b ms) ms y x (since_bound a b ms) (subst (λ (n : ℕ). IsOf x (take n (lives_in (y ∷ ms)))) (since_on a b y ms none) i) in
        let kind_o : sends o.life ≡ true = ap is_send_socket o.socket ∙ kind in
        let over : o.life.ended ≡ true = (settled_s hosts a b (Own a b) (Heard a b) (all_given hosts a b ours) ms (below hosts y ms l) o.life o.there (o.host ∙ host) (o.peer ∙ peer) kind_o).over in
        let same : x.own_stamp ≡ o.life.own_stamp = ap (λ (z : Life). z.own_stamp) (o.same over) in
        let begins : stay.begins b a (placed_event (event_in y) (events_of ms)) (law_events ms) ≡ false =
        begins_same b a (event_in y) (events_of ms) ∙ begins_either b a (event_in y) (events_of ms) ∙ none in
        let spoke : Asks k x.own_stamp (all_says (at_texts s Sender (stay.said_by b a 0 (placed_event (event_in y) (events_of ms)))) (side_of s Sender b a ms)).said =
        subst (λ (word : List Mark). Asks k x.own_stamp word)
        (said_now b a (at_texts s Sender) (at_texts s Receiver) (placed_event (event_in y) (events_of ms)) (law_events ms) (side_of s Sender b a ms) begins) asks in
        elim (asked_by k x.own_stamp (place (events_of ms)) (at_texts s Sender (stay.said_by b a 0 (placed_event (event_in y) (events_of ms)))) (side_of s Sender b a ms) (of_event s q Receiver b a (event_in y) (events_of ms)) spoke) [
          | inl new ↦
              (let less : o.life.own_stamp < length (crossings_of ms) = own_below hosts ms (below hosts y ms l) o.life (ours_of hosts o.life b a (ours.1, ours.0) (o.host ∙ host, o.peer ∙ peer)) (of_take (since a b ms) o.life (lives_in ms) o.there) in
              let here : place (events_of ms) ≡ length (crossings_of ms) = place_same ms in
              absurd (omega (arith, less, here, new, same)))
          | inr old ↦ rest o.life o.there (o.host ∙ host) (o.peer ∙ peer) kind_o k (subst (λ (n : ℕ). Asks k n (side_of s Sender b a ms).said) same old)
        ]
