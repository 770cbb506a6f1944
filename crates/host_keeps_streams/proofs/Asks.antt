-- What data, answers and a user's requests are on a link.
use Rattle.host_keeps_streams.proofs.Common.{◌≡◌, ℕ, ◌*◌, Bool, not, ◌==◌, List, [], ◌∷◌, ◌++◌, take, Option, Some, None, is_some, refl, ap, sym, subst, ◌∙◌, eqb-true, Host, header_of, data_bits, DataHeader, Sender, Receiver, Found, Unconnected, Ending, Open, receiver_on, arrived_if, data_of, data_found, data_taken, is_acceptable, spent, DeskState, desk_of, changed_first, is_link, is_open, is_receiving, receives_on, sends_on, PairState, Bytes, bits_gone, link_of, may_send, may_send_on, next_of, parcel_gone, Entry, Listener, both, AreReceiver, HasReceiver, AreSender, HasSender, IsFormed, AreSound, bytes_sent, closes, data_received, told_on, named, AreApart, AreKnown}
use Rattle.std.proofs.Common.{true, false}
use Rattle.ncp_control.specs.Allocation as counters
use Rattle.stream_law.specs.Senders as senders
use Rattle.stream_law.specs.Receivers as receivers
use Rattle.host_pairs.specs.Desk.{settled}
use Rattle.host_keeps_streams.proofs.Ending as ending
use Rattle.host_keeps_streams.proofs.Ending.{shut_one}
use Rattle.host_keeps_streams.proofs.Formed.{counted_formed, formed_settled, link_there}
use Rattle.host_keeps_streams.proofs.Known.{Sent, known_idle, known_same, then_sent}
use Rattle.host_keeps_streams.proofs.Lists.{apart, away, not_received, sent_is}
use Rattle.host_keeps_streams.proofs.Names.{numbers_mapped}
use Rattle.host_keeps_streams.proofs.Quiet.{receiver_elsewhere, sender_hears_data}
use Rattle.host_keeps_streams.proofs.ReceiverHears.{Received}
use Rattle.host_keeps_streams.proofs.Receivers.{data_receives}
use Rattle.host_keeps_streams.proofs.Senders as sending
use Rattle.host_keeps_streams.proofs.Senders.{next_is, own_sender}
use Rattle.host_keeps_streams.proofs.Settling.{settle_all}
use Rattle.host_keeps_streams.proofs.Sound.{sound_some}

-- ---- data

headless_by : (l : ℕ) (text : List Bool) (d : DeskState) (w : Found) → header_of text ≡ None → (data_found l text w d).entries ≡ d.entries
headless_by l text d Unconnected e = refl
headless_by l text d Ending e = refl
headless_by l text d (Open x) e = ap (λ (o : Option DataHeader). (arrived_if l x text o d).entries) e

module _ (name : ℕ → ℕ → ℕ) (link l : ℕ) (text : List Bool) (d : DeskState) where
  data_by : (r : Receiver) → HasReceiver name link d.entries r → (o : Option DataHeader) → header_of text ≡ o → (v : Bool) → (l == link) ≡ v → Received name link (data_received link l text o) (data_taken l text d).entries r
  data_by r h None e v t = (tt, subst (λ (es : List Entry). HasReceiver name link es r) (sym (headless_by l text d _ e)) h)
  data_by r h (Some x) e true t =
      rw t ((tt, tt), subst (λ (n : ℕ). HasReceiver name link (data_taken n text d).entries (receivers.moved (receivers.Take x.size (data_of (data_bits x) text)) r)) (sym (eqb-true l link t)) (data_receives name link text x d r e h))
  data_by r h (Some x) e false t = rw t (tt, subst (λ (xs : List Entry). AreReceiver name xs r) (sym (receiver_elsewhere link l text d t)) h)

  pub takes_data : (r : Receiver) → HasReceiver name link d.entries r → Received name link (data_received link l text (header_of text)) (data_taken l text d).entries r
  takes_data r h = data_by r h _ refl _ refl

  -- of the ends only counters change
  abbrev Kept : (List Entry → Type 0) → Found → Type 0
  Kept P w = P (data_found l text w d).entries

  kept_by : (P : List Entry → Type 0) → P d.entries → ((n : ℕ) → P (changed_first (receives_on l) (spent n) d.entries)) → (x : Entry) → (o : Option DataHeader) → P (arrived_if l x text o d).entries
  kept_by P p f x None = p
  kept_by P p f x (Some h) = by (is_acceptable x h) refl where
    by : (v : Bool) → is_acceptable x h ≡ v → P (arrived_if l x text (Some h) d).entries
    by true t = rw t (f (data_bits h))
    by false t = rw t p

  kept_data : (P : List Entry → Type 0) → P d.entries → ((n : ℕ) → P (changed_first (receives_on l) (spent n) d.entries)) → (w : Found) → Kept P w
  kept_data P p f Unconnected = p
  kept_data P p f Ending = p
  kept_data P p f (Open x) = kept_by P p f x _

  pub data_sent : (s : Sender) → HasSender name link d.entries s → AreKnown name d.entries s → Sent name link [] (data_taken l text d).entries s
  data_sent s h k = record {
    may = tt;
    has = subst (λ (xs : List Entry). AreSender name xs s) (sym (sender_hears_data link l text d)) h;
    known = kept_data (λ (es : List Entry). AreKnown name es s) k (λ n. known_idle name (receives_on l) (spent n) s d.entries (record { own = λ x. refl; foreign = λ x. refl; size = λ x. refl; closing = λ x. refl }) k) (receiver_on l d);
  }

  pub data_sound : AreSound name d.entries → AreSound name (data_taken l text d).entries
  data_sound sound =
      kept_data (AreSound name) sound
      (λ n. sound_some name (receives_on l) (spent n) d.entries sound (λ x. refl) (λ x t f. counted_formed (spent n x).allocation x f (link_there l x.link (both (is_receiving x) (is_link l x.link) t).1))) _

-- ---- bytes that go out

pub link_is : (link : ℕ) (o : Option ℕ) → is_link link o ≡ true → o ≡ Some link
link_is link None e = absurd (cc)
link_is link (Some l) e = ap (λ (n : ℕ). Some n) (eqb-true l link e)

linked_sends : (busy : List ℕ) (e : Entry) → may_send busy e ≡ true → (is_receiving e ≡ false) × (is_some e.link ≡ true)
linked_sends busy e t = by (is_receiving e) (is_some e.link) refl refl where
  by : (u v : Bool) → is_receiving e ≡ u → is_some e.link ≡ v → (is_receiving e ≡ false) × (is_some e.link ≡ true)
  by true v i j = absurd (let r : false ≡ true = rw i at t in cc)
  by false true i j = (i, j)
  by false false i j = absurd (by_open _ refl) where
    by_open : (w : Bool) → is_open e ≡ w → ⊥
    by_open true o = let r : false ≡ true = rw (i, o, j) at t in absurd (cc)
    by_open false o = let r : false ≡ true = rw (i, o) at t in absurd (cc)

linked_on : (link : ℕ) (o : Option ℕ) → is_some o ≡ true → is_link link o ≡ (link_of o == link)
linked_on link None e = absurd (cc)
linked_on link (Some l) e = refl

-- an end that may send on its link is on that link
sends_there : (busy : List ℕ) (l : ℕ) (e : Entry) → may_send_on busy l e ≡ true → sends_on l e ≡ true
sends_there busy l e t =
    let p : (may_send busy e ≡ true) × ((link_of e.link == l) ≡ true) = both (may_send busy e) (link_of e.link == l) t in
    let q : (is_receiving e ≡ false) × (is_some e.link ≡ true) = linked_sends busy e p.0 in
    let on : is_link l e.link ≡ true = linked_on l e.link q.1 ∙ p.1 in
    let sends : is_receiving e ≡ false = q.0 in
    rw (sends, on) refl

module _ (name : ℕ → ℕ → ℕ) (link : ℕ) (peer : Host) (stamp : ℕ) (listening : List Listener) (q : PairState) (e : Entry) (size count : ℕ) (next : next_of q ≡ Some (Bytes e size count)) where
  pub bytes_out : (s : Sender) → HasSender name link q.entries s → AreKnown name q.entries s → Sent name link (bytes_sent name link e size count) (parcel_gone peer stamp q.busy (Bytes e size count) (desk_of q listening)).entries s
  bytes_out s h k = by (sends_on link e) refl where
    known : AreKnown name (changed_first (may_send_on q.busy (link_of e.link)) (bits_gone (size * count)) q.entries) s
    known = known_idle name _ _ s q.entries (record { own = λ x. refl; foreign = λ x. refl; size = λ x. refl; closing = λ x. refl }) k

    by : (v : Bool) → sends_on link e ≡ v → Sent name link (bytes_sent name link e size count) (parcel_gone peer stamp q.busy (Bytes e size count) (desk_of q listening)).entries s
    by true on =
        let linked : e.link ≡ Some link = link_is link e.link (both (not (is_receiving e)) (is_link link e.link) on).1 in
        rw on (record {
          may = (sending.bytes_may name link q e size count next s linked h, tt);
          has = sending.bytes_send name link q e size count next peer stamp listening s linked h;
          known = known_moved;
        }) where
          known_moved : AreKnown name (changed_first (may_send_on q.busy (link_of e.link)) (bits_gone (size * count)) q.entries) (senders.moved (senders.Send (named name e) size (take (size * count) e.bits)) s)
          known_moved = known_same name (changed_first (may_send_on q.busy (link_of e.link)) (bits_gone (size * count)) q.entries) s _ refl refl known
    by false off =
        rw off (record { may = tt; has = subst (λ (xs : List Entry). AreSender name xs s) (sym (away _ _ _ e q.entries off off (next_is q e size count next))) h; known = known })

  pub bytes_received : (r : Receiver) → HasReceiver name link q.entries r → HasReceiver name link (parcel_gone peer stamp q.busy (Bytes e size count) (desk_of q listening)).entries r
  bytes_received r h =
      subst (λ (xs : List Entry). AreReceiver name xs r)
      (sym (apart _ _ _ q.entries (λ x t. (off x t, off x t)))) h where
        off : (x : Entry) → may_send_on q.busy (link_of e.link) x ≡ true → receives_on link x ≡ false
        off x t = not_received link x (sent_is _ x (sends_there q.busy _ x t))

  pub bytes_sound : AreSound name q.entries → AreSound name (parcel_gone peer stamp q.busy (Bytes e size count) (desk_of q listening)).entries
  bytes_sound sound =
      sound_some name _ _ q.entries sound (λ x. refl) (λ x t f. (let p : (may_send q.busy x ≡ true) × ((link_of x.link == link_of e.link) ≡ true)
      = both (may_send q.busy x) (link_of x.link == link_of e.link) t in
      sent_formed x (counted_formed _ x f (linked_sends q.busy x p.0).1))) where
        sent_formed : (x : Entry) → IsFormed (record x { allocation = counters.spent x.allocation (size * count) }) → IsFormed (bits_gone (size * count) x)
        sent_formed x f = record { live = f.live; told = f.told; linked = f.linked; unlinked = f.unlinked; sized = f.sized; ungranted = f.ungranted; shut = f.shut }

-- ---- answers: whatever has to close does so

module _ (name : ℕ → ℕ → ℕ) (link : ℕ) (busy : List ℕ) (d : DeskState) where
  settled_sent : (s : Sender) → HasSender name link d.entries s → AreKnown name d.entries s → AreSound name d.entries → Sent name link (closes name busy d.entries) (settled busy d).entries s
  settled_sent s h k sound = settle_all name link busy d.entries s h k sound.apart

  pub settled_received : (r : Receiver) → HasReceiver name link d.entries r → HasReceiver name link (settled busy d).entries r
  settled_received r h = ending.settled_keeps name link busy d.entries r h

  pub settled_sound : AreSound name d.entries → AreSound name (settled busy d).entries
  settled_sound sound = record { formed = formed_settled busy d.entries sound.formed; apart = subst AreApart (sym (numbers_mapped name _ d.entries (λ x. refl))) sound.apart }

-- the sender of the link is notified before
module _ (name : ℕ → ℕ → ℕ) (link : ℕ) (busy : List ℕ) (d : DeskState) (l : ℕ) where
  pub told_sent : (s : Sender) → HasSender name link d.entries s → AreKnown name d.entries s → AreSound name d.entries → Sent name link (told_on link l ++ closes name busy d.entries) (settled busy d).entries s
  told_sent s h k sound = by (l == link) refl where
    by : (v : Bool) → (l == link) ≡ v → Sent name link (told_on link l ++ closes name busy d.entries) (settled busy d).entries s
    by true t = rw t (then_sent name link (senders.Told ∷ []) (closes name busy d.entries) (settled busy d).entries s (tt, tt) (settled_sent name link busy d s h k sound))
    by false t = rw t (settled_sent name link busy d s h k sound)
