-- What a host hears of a peer may be heard, over all moments.
use Rattle.world_keeps_streams.proofs.Common.{Host, HostMessage, same_host-refl, waits_with, is_receive_socket, is_send_socket, Order, orders_of, is_ready, both, HasEnd, AreJoint, AllFit, marks_in, Takes, Mark, Message, turn_of, pair_with, IsApart, Crossed, IsStory, Moment, events_of, places, program, crossings_of, TakesFreeAt, AreOurs, Network}
use Rattle.std.proofs.Common.{◌≡◌, ℕ, ◌==◌, ◌&&◌, Bool, if◌then◌else◌, List, [], ◌∷◌, refl, sym, subst, true, false}
use Rattle.host_keeps_ranges.proofs.lemmas.{text_good}
use Rattle.pairing_law.specs.Ends.{End, nothing}
use Rattle.pairing_law.specs.Links.{Sockets, Receiver, Sender}
use Rattle.world_keeps_pairing.proofs.lemmas.{AText, AllBare, AllTied, AnRrp, AnRst, AreOrigins, IsUnpaired, Side_of, Sort, plain_joint, sort_of, IsSilent, receiver_hears, sender_hears, unpaired_turned, waiting_silent}
use Rattle.world_keeps_streams.specs.Calls.{message_calls, orders_heard, called}
use Rattle.interface.specs.Mailboxes as mail
use Rattle.interface.specs.declared.crossing.Crossing.TheVariants as crossing
use Rattle.reset_law.specs.Runs.{IsRun}
use Rattle.world_keeps_streams.proofs.Calls.May.{AllMay}
use Rattle.world_keeps_streams.proofs.Calls.MayTurns.{AreSilent, Fits, heard_may}

-- two sockets are a receiving and a sending one, or the other way, or neither
by_kind : (P : Type 0) (own foreign : ℕ) → ((is_receive_socket own ≡ true) → (is_send_socket foreign ≡ true) → P) → ((is_send_socket own ≡ true) → (is_receive_socket foreign ≡ true) → P) → (IsUnpaired own foreign → P) → P
by_kind P own foreign first second third = by (is_receive_socket own && is_send_socket foreign) (is_send_socket own && is_receive_socket foreign) refl refl where
  by : (c d : Bool) → (is_receive_socket own && is_send_socket foreign) ≡ c → (is_send_socket own && is_receive_socket foreign) ≡ d → P
  by true d e f = let k : (is_receive_socket own ≡ true) × (is_send_socket foreign ≡ true) = both _ _ e in first k.0 k.1
  by false true e f = let k : (is_send_socket own ≡ true) × (is_receive_socket foreign ≡ true) = both _ _ f in second k.0 k.1
  by false false e f = third (e, f)

-- ---- the ends of any two sockets

module _ (hosts : Network) (origin : Host → Host → ℕ → ℕ) (moments : List Moment) (t : AllTied hosts origin moments)
    (bare : AllBare hosts origin moments) where
  pub has_end : (a b : Host) → AreOurs hosts a b → (own foreign : ℕ) → (x : End)
      × HasEnd (origin a b) own foreign (pair_with b (program a moments).peers) x
  has_end a b ours own foreign =
      by_kind _ own foreign
      (λ e f. ((Side_of (record { receive = own; send = foreign }) (e, f) Receiver a b (origin a b) moments).end, (t.tied a b ours).receiver (record { receive = own; send = foreign }) (e, f)))
      (λ e f. ((Side_of (record { receive = foreign; send = own }) (f, e) Sender a b (origin a b) moments).end, (t.tied b a (ours.1, ours.0)).sender (record { receive = foreign; send = own }) (f, e)))
      (λ u. (nothing, (bare.bare a b ours own foreign u).0))

-- ---- a message

module _ (hosts : Network) (origin : Host → Host → ℕ → ℕ) (m : HostMessage) (moments : List Moment) (ours : AreOurs hosts m.flow.source m.flow.destination) (mails : mail.IsRun hosts.all (crossings_of (Crossed (crossing.In m) ∷ moments))) (story : IsStory hosts (Crossed (crossing.In m) ∷ moments))
    (run : IsRun hosts (events_of (Crossed (crossing.In m) ∷ moments))) (from : AreOrigins origin (Crossed (crossing.In m) ∷ moments)) (t : AllTied hosts origin moments) (next : AllTied hosts origin (Crossed (crossing.In m) ∷ moments))
    (bare : AllBare hosts origin moments) (free : TakesFreeAt hosts (Crossed (crossing.In m)) moments) where
  silent : IsSilent m.flow.link.0 m.text
  silent =
      let w : (place : ℕ) × (mail.box_of m.flow (crossings_of moments) ≡ mail.Waiting place m.text) = waits_with (mail.box_of m.flow (crossings_of moments)) m.text mails.0.1 in
      waiting_silent hosts m.flow ours w.0 m.text (crossings_of moments) bare.silent w.1

  silent_orders : (m.flow.link.0 == 0) ≡ true → AreSilent (origin m.flow.destination m.flow.source) (orders_of m.text)
  silent_orders zero = λ own foreign place u. subst (λ (z : Bool). (if z then marks_in place own foreign (orders_of m.text) else []) ≡ []) zero (silent own foreign place u)

  pub fits_all : (m.flow.link.0 == 0) ≡ true → is_ready (pair_with m.flow.source (program m.flow.destination moments).peers).phase ≡ true → AreJoint (orders_of m.text)
      → (own foreign : ℕ) → Fits (origin m.flow.destination m.flow.source) m.flow.source (places moments) (orders_of m.text) (turn_of (program m.flow.destination moments) m.flow.source) own foreign
  fits_all zero ready joint own foreign =
      by_kind (Fits (origin m.flow.destination m.flow.source) m.flow.source (places moments) (orders_of m.text) (turn_of (program m.flow.destination moments) m.flow.source) own foreign) own foreign
      (λ e f.
      let s : Sockets = record { receive = own; send = foreign } in (
        (Side_of (record { receive = own; send = foreign }) (e, f) Receiver m.flow.destination m.flow.source (origin m.flow.destination m.flow.source) moments).end,
        (t.tied m.flow.destination m.flow.source (ours.1, ours.0)).receiver (record { receive = own; send = foreign }) (e, f),
        ((receiver_hears hosts origin m.flow.destination m.flow.source (Crossed (crossing.In m)) moments from.0 free (record { receive = own; send = foreign }) (e, f) m ours story run refl (same_host-refl m.flow.destination) (same_host-refl m.flow.source) (next.tied m.flow.destination m.flow.source (ours.1, ours.0)).steps).0 ready zero joint).1,
      ))
      (λ e f. (
        (Side_of (record { receive = foreign; send = own }) (f, e) Sender m.flow.destination m.flow.source (origin m.flow.destination m.flow.source) moments).end,
        (t.tied m.flow.source m.flow.destination ours).sender (record { receive = foreign; send = own }) (f, e),
        ((sender_hears hosts origin m.flow.source m.flow.destination (Crossed (crossing.In m)) moments from.0 free (record { receive = foreign; send = own }) (f, e) m ours story run refl (same_host-refl m.flow.destination) (same_host-refl m.flow.source) (next.tied m.flow.source m.flow.destination ours).steps).0 ready zero joint).1,
      ))
      (λ u. (
        nothing,
        (bare.bare m.flow.destination m.flow.source (ours.1, ours.0) own foreign u).0,
        subst (λ (ms : List Mark). AllFit ms nothing) (sym (silent_orders zero foreign own (origin m.flow.destination m.flow.source (places moments)) (unpaired_turned own foreign u))) tt,
      ))

  abbrev Heard : List Order → Type 0
  Heard orders = AllMay (orders_heard m.flow.source (places moments) orders (turn_of (program m.flow.destination moments) m.flow.source) [])

  control_may : (m.flow.link.0 == 0) ≡ true → is_ready (pair_with m.flow.source (program m.flow.destination moments).peers).phase ≡ true → Sort m.flow.link.0 m.text → Heard (orders_of m.text)
  control_may zero ready (AnRst z orders is) = subst (λ (os : List Order). Heard os) (sym orders) ((tt, tt, tt, tt), tt)
  control_may zero ready (AnRrp z orders is) = subst (λ (os : List Order). Heard os) (sym orders) ((tt, tt, tt, tt), tt)
  control_may zero ready (AText is) =
      let joint : AreJoint (orders_of m.text) = plain_joint _ (subst (λ (n : Message). IsApart m.flow.link.0 m.text n) is (story.0 ours) zero) in
      heard_may (origin m.flow.destination m.flow.source) m.flow.source (places moments) _ _ [] joint (text_good m.text) (silent_orders zero) (free ours ready zero) ready
      (fits_all zero ready joint) tt

  pub message_may : AllMay (message_calls m.flow.source (places moments) m.flow.link.0 m.text (turn_of (program m.flow.destination moments) m.flow.source))
  message_may = by (is_ready (pair_with m.flow.source (program m.flow.destination moments).peers).phase) (m.flow.link.0 == 0) refl refl where
    by : (r z : Bool) → is_ready (pair_with m.flow.source (program m.flow.destination moments).peers).phase ≡ r → (m.flow.link.0 == 0) ≡ z
        → AllMay (if r then (if z then orders_heard m.flow.source (places moments) (orders_of m.text) (turn_of (program m.flow.destination moments) m.flow.source) []
        else called (Takes m.flow.link.0 m.text) (turn_of (program m.flow.destination moments) m.flow.source).pair (turn_of (program m.flow.destination moments) m.flow.source).listening ∷ []) else [])
    by false z e f = tt
    by true false e f = (tt, tt)
    by true true e f = control_may f e (sort_of m.flow.link.0 m.text)
