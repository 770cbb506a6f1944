-- What a user's requests are on a link.
use Rattle.host_keeps_streams.proofs.Common.{◌≡◌, ℕ, Bool, true, false, not, ◌&&◌, ◌==◌, List, [], ◌∷◌, filter, find, Option, Some, None, refl, ap, sym, subst, ◌∙◌, inl, inr, eqb-true, is_receive_socket, Sender, Receiver, for_here, closed_end, passes, receiver_requested, requested, with_end, with_more_bits, granted, desk_of, called_off, is_busy, changed_first, close_due, free_link, is_mine_on, is_open, is_over, is_receiving, is_sent, receiving_end, receives_on, sending_end, sends_on, was_closed, PairState, Closing, Entry, both, AreReceiver, HasReceiver, AreSender, HasSender, IsFormed, AreSound, KeepBox, asks_for, closes, on_link, named, numbers, is_among, IsKnown, AreKnown, IsNewReceived, IsNewSent}
use Rattle.ncp_control.specs.declared.command.Command.TheVariants as command
use Rattle.stream_law.specs.Senders as senders
use Rattle.stream_law.specs.Receivers as receivers
use Rattle.host_pairs.specs.declared.entry.Closing.TheVariants as closing
use Rattle.host_keeps_streams.proofs.Asking as asking
use Rattle.host_keeps_streams.proofs.Asks.{settled_sound}
use Rattle.host_keeps_streams.proofs.Boxes.{settled_box}
use Rattle.host_keeps_streams.proofs.Ending as ending
use Rattle.host_keeps_streams.proofs.Ending.{shut_one}
use Rattle.host_keeps_streams.proofs.Formed.{formed_found, receiving_formed, sending_formed}
use Rattle.host_keeps_streams.proofs.Known.{Sent, known_append, known_changed, known_found, known_idle, known_other}
use Rattle.host_keeps_streams.proofs.Lists.{append_off, apart, away, find_passes, not_received, not_sent, unlike}
use Rattle.host_keeps_streams.proofs.Names.{apart_changed}
use Rattle.host_keeps_streams.proofs.Opening as opening
use Rattle.host_keeps_streams.proofs.Opening.{told_keeps}
use Rattle.host_keeps_streams.proofs.ReceiverHears.{Received}
use Rattle.host_keeps_streams.proofs.Senders.{own_sender}
use Rattle.host_keeps_streams.proofs.SenderHears.{ask_elsewhere}
use Rattle.host_keeps_streams.proofs.SenderShuts.{due_cls}
use Rattle.host_keeps_streams.proofs.Settling.{settle_all}
use Rattle.host_keeps_streams.proofs.Sound.{sound_append, sound_changed}
use Rattle.interface.proofs.lemmas.{and_none}

-- ---- new ends

module _ (name : ℕ → ℕ → ℕ) (link own foreign : ℕ) (q : PairState) where
  pub sends_asked : (z : ℕ) (s : Sender) → HasSender name link q.entries s → AreKnown name q.entries s → IsNewSent (name own foreign) (numbers name q.entries) s
      → Sent name link (senders.Ask (name own foreign) z ∷ []) (requested (sending_end own foreign z) (command.Str own foreign z) q).entries s
  sends_asked z s h k new = record {
    may = (new.untold, tt);
    has = subst (λ (xs : List Entry). AreSender name xs (senders.moved (senders.Ask (name own foreign) z) s)) (sym (append_off _ _ q.entries (and_none _)))
        (told_keeps name link (name own foreign) z s new.unheard _ h);
    known = known_append name q.entries _ _
        (known_other name _ q.entries s _ new.free (ask_elsewhere _ z s) k)
        (λ i. record { size = for_here _ (Some z) s.size; closed = new.unclosed });
  }

  pub sends_received : (z : ℕ) (r : Receiver) → HasReceiver name link q.entries r → HasReceiver name link (requested (sending_end own foreign z) (command.Str own foreign z) q).entries r
  sends_received z r h = subst (λ (xs : List Entry). AreReceiver name xs r) (sym (append_off _ _ q.entries (and_none _))) h

  pub sends_sound : (z : ℕ) → AreSound name q.entries → is_among (name own foreign) (numbers name q.entries) ≡ false → AreSound name (requested (sending_end own foreign z) (command.Str own foreign z) q).entries
  sends_sound z sound n = sound_append name q.entries _ sound (sending_formed own foreign z) n

  module _ (even : is_receive_socket own ≡ true) where
    asked_by : (r : Receiver) → HasReceiver name link q.entries r → IsNewReceived (name own foreign) (numbers name q.entries) r → (other : ℕ) → free_link q.entries ≡ Some other → (v : Bool) → (other == link) ≡ v
        → Received name link (asks_for link (name own foreign) (Some other)) (receiver_requested own foreign (Some other) q).entries r
    asked_by r h new other free true e =
        let same : other ≡ link = eqb-true other link e in
        let done : receivers.May (receivers.Ask (name own foreign)) r × HasReceiver name link (requested (receiving_end own foreign link) (command.Rts own foreign link) q).entries (receivers.moved (receivers.Ask (name own foreign)) r)
        = opening.asks_free name link own foreign q r h (free ∙ ap (λ (l : ℕ). Some l) same) even new.unasked new.untold new.unheard in
        rw e ((done.0, tt), subst (λ (l : ℕ). HasReceiver name link (requested (receiving_end own foreign l) (command.Rts own foreign l) q).entries (receivers.moved (receivers.Ask (name own foreign)) r)) (sym same) done.1)
    asked_by r h new other free false e = rw e (tt, opening.asks_elsewhere name link own foreign q r h other e)

    asked_on : (r : Receiver) → HasReceiver name link q.entries r → IsNewReceived (name own foreign) (numbers name q.entries) r → (o : Option ℕ) → free_link q.entries ≡ o
        → Received name link (asks_for link (name own foreign) o) (receiver_requested own foreign o q).entries r
    asked_on r h new None free = (tt, h)
    asked_on r h new (Some other) free = asked_by r h new other free _ refl

    pub receives_asked : (r : Receiver) → HasReceiver name link q.entries r → IsNewReceived (name own foreign) (numbers name q.entries) r
        → Received name link (asks_for link (name own foreign) (free_link q.entries)) (receiver_requested own foreign (free_link q.entries) q).entries r
    receives_asked r h new = asked_on r h new _ refl

    pub receives_sent : (s : Sender) → HasSender name link q.entries s → AreKnown name q.entries s → (o : Option ℕ) → Sent name link [] (receiver_requested own foreign o q).entries s
    receives_sent s h k None = record { may = tt; has = h; known = k }
    receives_sent s h k (Some l) = record {
      may = tt;
      has = subst (λ (xs : List Entry). AreSender name xs s) (sym (append_off _ _ q.entries (not_sent link (receiving_end own foreign l) even))) h;
      known = known_append name q.entries _ s k (λ j. absurd (unlike (is_receive_socket own) even j));
    }

    pub receives_sound : AreSound name q.entries → is_among (name own foreign) (numbers name q.entries) ≡ false → (o : Option ℕ) → AreSound name (receiver_requested own foreign o q).entries
    receives_sound sound n None = sound
    receives_sound sound n (Some l) = sound_append name q.entries _ sound (receiving_formed own foreign l even) n

-- ---- an end of this host's own

due_sent : (v : Closing) → is_sent (close_due v) ≡ is_sent v
due_sent closing.No = refl
due_sent v = refl

off_live : (e : Entry) → is_over (called_off e) ≡ is_over e
off_live e = ap (λ (v : Bool). v && e.partner_closed) (due_sent e.closing)

off_formed : (e : Entry) → IsFormed e → IsFormed (called_off e)
off_formed e f = record {
  live = off_live e ∙ f.live;
  told = f.told;
  linked = f.linked;
  unlinked = f.unlinked;
  sized = f.sized;
  ungranted = f.ungranted;
  shut = λ i n p. sym (due_cls e.closing) ∙ f.shut i n p;
}

off_sender : (name : ℕ → ℕ → ℕ) (e : Entry) (s : Sender) → AreSender name (e ∷ []) s → AreSender name (called_off e ∷ []) s
off_sender name e s (inl i) = inl (record { end = i.end; opened = i.opened; shut = i.shut; closed = i.closed ∙ due_cls e.closing; size = i.size; allocation = i.allocation; live = off_live e ∙ i.live })
off_sender name e s (inr n) = inr (record { closed = sym (due_cls e.closing) ∙ n.closed; shut = n.shut; live = off_live e ∙ n.live; none = n.none })

module _ (name : ℕ → ℕ → ℕ) (link socket : ℕ) (q : PairState) (e : Entry) (found : find (is_mine_on socket) q.entries ≡ Some e) where
  parity : (x : Entry) → is_mine_on socket x ≡ true → is_receiving x ≡ is_receive_socket socket
  parity x t = ap is_receive_socket (eqb-true x.own socket (both x.mine (x.own == socket) t).1)

  own_one : is_receiving e ≡ is_receive_socket socket
  own_one = parity e (find_passes _ e q.entries found)

  -- ---- grants

  pub grants : (m n : ℕ) (r : Receiver) → is_open e ≡ true → passes e.allocation m n ≡ false → HasReceiver name link q.entries r → Received name link (on_link link e (receivers.Grant (named name e) m n ∷ [])) (with_end socket (granted m n) q).entries r
  grants m n r opened little h = by (receives_on link e) refl where
    by : (v : Bool) → receives_on link e ≡ v → Received name link (on_link link e (receivers.Grant (named name e) m n ∷ [])) (with_end socket (granted m n) q).entries r
    by true on = rw on ((asking.grant_may name link socket e q.entries found m n r on opened little h, tt), asking.grant_receives name link socket e q.entries found m n r on h)
    by false off = rw off (tt, asking.grant_elsewhere name link socket e q.entries found m n r off h)

  pub grants_sent : (m n : ℕ) (s : Sender) → is_receive_socket socket ≡ true → HasSender name link q.entries s → AreKnown name q.entries s → Sent name link [] (with_end socket (granted m n) q).entries s
  grants_sent m n s even h k = record {
    may = tt;
    has = asking.grant_apart name link socket e q.entries found m n s (not_sent link e (own_one ∙ even)) h;
    known = known_idle name _ _ s q.entries (record { own = λ x. refl; foreign = λ x. refl; size = λ x. refl; closing = λ x. refl }) k;
  }

  granted_formed : (m n : ℕ) → is_receiving e ≡ true → IsFormed e → IsFormed (granted m n e)
  granted_formed m n i f = record { live = f.live; told = f.told; linked = f.linked; unlinked = f.unlinked; sized = f.sized; ungranted = λ j p. absurd (unlike (is_receiving e) i j); shut = f.shut }

  pub grants_sound : (m n : ℕ) → is_receive_socket socket ≡ true → AreSound name q.entries → AreSound name (with_end socket (granted m n) q).entries
  grants_sound m n even sound =
      sound_changed name _ _ e q.entries sound (λ x. refl) (granted_formed m n (own_one ∙ even) (formed_found _ e q.entries sound.formed found)) found

  pub asks_back : (m n : ℕ) (r : Receiver) → is_open e ≡ true → HasReceiver name link q.entries r → Received name link (on_link link e (receivers.AskBack (named name e) m n ∷ [])) q.entries r
  asks_back m n r opened h = by (receives_on link e) refl where
    by : (v : Bool) → receives_on link e ≡ v → Received name link (on_link link e (receivers.AskBack (named name e) m n ∷ [])) q.entries r
    by true on = rw on ((asking.ask_back_may name link socket e q.entries found m n r on opened h, tt), h)
    by false off = rw off (tt, h)

  -- ---- bits to be sent

  pub more_sent : (bits : List Bool) (s : Sender) → HasSender name link q.entries s → AreKnown name q.entries s → Sent name link [] (with_end socket (with_more_bits bits) q).entries s
  more_sent bits s h k = record {
    may = tt;
    has = asking.send_keeps name link socket e q.entries found bits s h;
    known = known_idle name _ _ s q.entries (record { own = λ x. refl; foreign = λ x. refl; size = λ x. refl; closing = λ x. refl }) k;
  }

  pub more_received : (bits : List Bool) (r : Receiver) → is_receive_socket socket ≡ false → HasReceiver name link q.entries r → HasReceiver name link (with_end socket (with_more_bits bits) q).entries r
  more_received bits r odd h =
      subst (λ (xs : List Entry). AreReceiver name xs r)
      (sym (apart _ _ _ q.entries (λ x t. (not_received link x (parity x t ∙ odd), not_received link (with_more_bits bits x) (parity x t ∙ odd))))) h

  more_formed : (bits : List Bool) → IsFormed e → IsFormed (with_more_bits bits e)
  more_formed bits f = record { live = f.live; told = f.told; linked = f.linked; unlinked = f.unlinked; sized = f.sized; ungranted = f.ungranted; shut = f.shut }

  pub more_sound : (bits : List Bool) → AreSound name q.entries → AreSound name (with_end socket (with_more_bits bits) q).entries
  more_sound bits sound = sound_changed name _ _ e q.entries sound (λ x. refl) (more_formed bits (formed_found _ e q.entries sound.formed found)) found

  -- ---- it closes

  pub closes_received : (r : Receiver) → was_closed e ≡ false → HasReceiver name link q.entries r → Received name link (on_link link e (receivers.Close (named name e) ∷ [])) (closed_end socket q).entries r
  closes_received r live h = by (receives_on link e) refl where
    by : (v : Bool) → receives_on link e ≡ v → Received name link (on_link link e (receivers.Close (named name e) ∷ [])) (closed_end socket q).entries r
    by true on =
        let done : receivers.May (receivers.Close (named name e)) r × HasReceiver name link (closed_end socket q).entries (receivers.moved (receivers.Close (named name e)) r) = ending.close_receives name link socket q e r found on live h in
        rw on ((done.0, tt), done.1)
    by false off = rw off (tt, ending.close_elsewhere name link socket q e r found off h)

  off_has : (s : Sender) → HasSender name link q.entries s → (v : Bool) → sends_on link e ≡ v → HasSender name link (changed_first (is_mine_on socket) called_off q.entries) s
  off_has s h true on =
      let k : AreSender name (e ∷ []) s × (filter (sends_on link) (changed_first (is_mine_on socket) called_off q.entries) ≡ called_off e ∷ []) = own_sender name link _ called_off e q.entries s found on on h in
      subst (λ (xs : List Entry). AreSender name xs s) (sym k.1) (off_sender name e s k.0)
  off_has s h false off = subst (λ (xs : List Entry). AreSender name xs s) (sym (away _ _ called_off e q.entries off off found)) h

  off_known : (s : Sender) → AreKnown name q.entries s → AreSound name q.entries → AreKnown name (changed_first (is_mine_on socket) called_off q.entries) s
  off_known s k sound =
      known_changed name _ called_off e q.entries s s (λ n out. (refl, refl)) (record { own = λ x. refl; foreign = λ x. refl })
      (λ i. (let one : IsKnown (named name e) e s = known_found name _ e q.entries s i k found in record { size = one.size; closed = one.closed ∙ due_cls e.closing })) sound.apart k found

  pub closes_sent : (s : Sender) → HasSender name link q.entries s → AreKnown name q.entries s → AreSound name q.entries
      → Sent name link (closes name q.busy (changed_first (is_mine_on socket) called_off q.entries)) (closed_end socket q).entries s
  closes_sent s h k sound =
      settle_all name link q.busy _ s (off_has s h _ refl)
      (off_known s k sound)
      (apart_changed name _ called_off q.entries (λ x. refl) sound.apart)

  pub closes_sound : AreSound name q.entries → AreSound name (closed_end socket q).entries
  closes_sound sound =
      settled_sound name link q.busy (desk_of (with_end socket called_off q) [])
      (sound_changed name _ called_off e q.entries sound (λ x. refl) (off_formed e (formed_found _ e q.entries sound.formed found)) found)

  -- and none is outstanding where it does
  pub closes_box : (s : Sender) → HasSender name link q.entries s → AreKnown name q.entries s → AreSound name q.entries → KeepBox (is_busy q.busy link) (closes name q.busy (changed_first (is_mine_on socket) called_off q.entries)) s
  closes_box s h k sound =
      settled_box name q.busy link _ s (off_has s h _ refl) (off_known s k sound) (apart_changed name _ called_off q.entries (λ x. refl) sound.apart)
