-- A command of the other host is heard.
use Rattle.pair_keeps_streams.proofs.Common.{◌≡◌, ℕ, ◌==◌, ◌&&◌, not, Bool, true, false, if◌then◌else◌, List, [], ◌∷◌, ◌++◌, map, Option, Some, None, refl, ap, sym, subst, ◌∙◌, eq-eqb, list_any, Host, is_receive_socket, Command, Word, Rts, Str, All, Gvb, Ret, Cls, Sender, Stream, Empty, Exact, link_free, changed_at, is_busy, closed_by_partner, entry_at, is_receiving, sends_on, listener_on, PairState, Entry, Listener, Hears, IsTelling, KeepBox, received_at, sent_at, closes, cls_received, rts_sent, named, name_of, own_name, own_parity, unlike, plain, with_closing, has_heard, heard_from, receiver_words, sender_words}
use Rattle.ncp_control.specs.declared.command.Command.TheVariants as command
use Rattle.stream_law.specs.Receivers as receivers
use Rattle.stream_law.specs.Senders as senders
use Rattle.stream_law.proofs.lemmas.{Down, claims_asked, unless_some}
use Rattle.host_keeps_streams.specs.Moves.{cls_sent}
use Rattle.pair_keeps_streams.proofs.Joint.{IsFirst, Party, Post, Free, Line, Joint}
use Rattle.pair_keeps_streams.proofs.After.{staying}
use Rattle.pair_keeps_streams.proofs.Facts.{Facts, free_empty}
use Rattle.pair_keeps_streams.proofs.Streams.{AreQuietSent, HearOne, HearOneSent, Receiving, Sending, one_received, one_sent, quiet_received, quiet_sent}
use Rattle.pair_keeps_streams.proofs.FirstWords.{Split, split, plain_rts, plain_str, plain_cls, plain_all, plain_gvb, plain_ret, none_heard, rts_hears, rts_quiet, str_hears, cls_hears, cls_deaf, sent_own, sent_here, sent_away}
use Rattle.pair_keeps_streams.proofs.Granted.{AreKept, heard_kept}
use Rattle.pair_keeps_streams.proofs.StepAsks.{closes_quiet}

-- a request names a link that no sending end has; and the two sockets of a CLS are of two kinds
abbrev pub IsHeard : Command → List Entry → Type 0
IsHeard (command.Rts receive send l) es = list_any (sends_on l) es ≡ false
IsHeard (command.Cls foreign own) es = is_receive_socket foreign ≡ not (is_receive_socket own)
IsHeard c es = Unit {0}

module _ (number other : ℕ → ℕ → ℕ → ℕ) (tells : IsTelling number) (others : IsTelling other) (facts : Facts number tells) (same : (own foreign g : ℕ) → other own foreign g ≡ number foreign own g) (link : ℕ) (off : (link == 0) ≡ false)
    (x y : Stream) (gone : ℕ → ℕ → ℕ) (pending : List Command) (post : Post) (b : Party)
    (q : PairState) (j : Joint number other tells others link x y (staying gone q.entries pending post) b) (peer : Host) (listening : List Listener) (stamp : ℕ) where
  abbrev heard : ℕ → ℕ → ℕ
  heard = heard_from gone q.entries

  abbrev name : ℕ → ℕ → ℕ
  name = name_of number gone

  -- what is heard on the link, and what is still under way
  pub record Found (c : Command) (more : List Command) : Type 0 where
    pub told : ℕ
    pub rest_x : List Word
    pub rest_y : List Word
    pub rx : Receiving (received_at name link (Hears stamp told c) q listening) x rest_x x.box
    pub sy : Sending (sent_at name link (Hears stamp told c) q listening y.sender) y rest_y y.box
    pub received : map plain rest_y ≡ receiver_words other link y.receiver.asked (with_closing c heard) more
    pub sent : map plain rest_x ≡ sender_words other link (with_closing c heard) more

  -- the name of a connection of which no CLS was heard
  named_same : (own foreign : ℕ) → ((e : Entry) → entry_at own foreign q.entries ≡ Some e → e.partner_closed ≡ false) → other foreign own (heard foreign own) ≡ name own foreign
  named_same own foreign f =
      same foreign own _ ∙ ap (λ (g : ℕ). number own foreign g) (none_heard _ _ f)

  -- a CLS that comes is that of the sender's end
  cls_end : (c : ℕ) (rest : List Word) → y.to_sender ≡ Cls c ∷ rest → y.sender.end ≡ Some c
  cls_end c rest e = (unless_some _ _ c (subst (λ (w : List Word). Down y.receiver y.sender w) e j.inv_y.down).0).0

  module _ (room : is_busy q.busy link ≡ false → post ≡ Free) (more : List Command) where
    empty : is_busy q.busy link ≡ false → y.box ≡ Empty
    empty e = free_empty post y.box (j.box_y.whole refl) (room e)

    -- ---- a request of a receiver

    rts_line : (receive send l : ℕ) → b.pending ≡ command.Rts receive send l ∷ more → IsFirst (command.Rts receive send l) q.entries
        → (map plain y.to_sender ≡ (if l == link then Rts (name send receive) ∷ [] else []) ++ receiver_words other link y.receiver.asked heard more) × (map plain x.to_receiver ≡ sender_words other link heard more)
    rts_line receive send l e first =
        let line : Line other link heard (command.Rts receive send l ∷ more) y.receiver.asked y.to_sender x.to_receiver = subst (λ (cs : List Command). Line other link heard cs y.receiver.asked y.to_sender x.to_receiver) e (j.to_a refl) in
        (line.received ∙ ap (λ (k : ℕ). (if l == link then Rts k ∷ [] else []) ++ receiver_words other link y.receiver.asked heard more) (named_same send receive (λ i f. (first i f).1)), line.sent)

    rts_split : (receive send l : ℕ) → b.pending ≡ command.Rts receive send l ∷ more → IsFirst (command.Rts receive send l) q.entries → (l == link) ≡ true
        → Split y.to_sender (Rts (name send receive)) (receiver_words other link y.receiver.asked heard more)
    rts_split receive send l e first on =
        split _ _ _
        (subst (λ (v : Bool). map plain y.to_sender ≡ (if v then Rts (name send receive) ∷ [] else []) ++ receiver_words other link y.receiver.asked heard more) on (rts_line receive send l e first).0)

    rts_there : (receive send l : ℕ) (e : b.pending ≡ command.Rts receive send l ∷ more) (first : IsFirst (command.Rts receive send l) q.entries) → (on : (l == link) ≡ true) → y.to_sender ≡ Rts (name send receive) ∷ (rts_split receive send l e first on).rest
    rts_there receive send l e first on =
        let s : Split y.to_sender (Rts (name send receive)) (receiver_words other link y.receiver.asked heard more) = rts_split receive send l e first on in
        s.is ∙ ap (λ (w : Word). w ∷ s.rest) (plain_rts _ _ s.same)

    pub rts_free : (receive send l : ℕ) → b.pending ≡ command.Rts receive send l ∷ more → IsFirst (command.Rts receive send l) q.entries → l ≡ link → list_any (sends_on link) q.entries ≡ false → y.sender.end ≡ None
    rts_free receive send l e first is none =
        let on : (l == link) ≡ true = eq-eqb l link is in
        link_free y _ _ j.inv_y (rts_there receive send l e first on)

    pub rts_found : (receive send l : ℕ) → b.pending ≡ command.Rts receive send l ∷ more → IsFirst (command.Rts receive send l) q.entries → list_any (sends_on l) q.entries ≡ false
        → KeepBox (is_busy q.busy link) (sent_at name link (Hears stamp 0 (command.Rts receive send l)) q listening y.sender) y.sender → Found (command.Rts receive send l) more
    rts_found receive send l e first none keep = by (l == link) refl where
      moves : (v : Bool) → (l == link) ≡ v → rts_sent v (name send receive) (listener_on send listening) (entry_at send receive q.entries) ≡ sent_at name link (Hears stamp 0 (command.Rts receive send l)) q listening y.sender
      moves v is = rw (none, is) refl

      by : (v : Bool) → (l == link) ≡ v → Found (command.Rts receive send l) more
      by true on = record {
        told = 0;
        rest_x = x.to_receiver;
        rest_y = (rts_split receive send l e first on).rest;
        rx = quiet_received [] x tt;
        sy = one_sent _ _ _ _ y (rts_there receive send l e first on)
            (subst (λ (ms : List senders.Move). HearOneSent (Rts (name send receive)) ms) (moves true on) (rts_hears _ _ _ (λ i f. (first i f).0))) keep empty;
        received = (rts_split receive send l e first on).behind;
        sent = (rts_line receive send l e first).1;
      }
      by false away = record {
        told = 0;
        rest_x = x.to_receiver;
        rest_y = y.to_sender;
        rx = quiet_received [] x tt;
        sy = quiet_sent _ _ y
            (subst (λ (ms : List senders.Move). AreQuietSent ms) (moves false away) (rts_quiet (name send receive) (listener_on send listening) _)) keep empty;
        received = subst (λ (v : Bool). map plain y.to_sender ≡ (if v then Rts (name send receive) ∷ [] else []) ++ receiver_words other link y.receiver.asked heard more) away (rts_line receive send l e first).0;
        sent = (rts_line receive send l e first).1;
      }

    -- nothing was lost where an end opens by it
    pub rts_kept : (receive send l : ℕ) → b.pending ≡ command.Rts receive send l ∷ more → IsFirst (command.Rts receive send l) q.entries → Exact true y → AreKept (sent_at name link (Hears stamp 0 (command.Rts receive send l)) q listening y.sender) y
    rts_kept receive send l e first exact = by (list_any (sends_on l) q.entries) where
      by : (v : Bool) → AreKept (if v then [] else rts_sent (l == link) (name send receive) (listener_on send listening) (entry_at send receive q.entries)) y
      by true = tt
      by false =
          heard_kept _ _ _ _ y
          (λ on. claims_asked y (name send receive) (name send receive) (rts_split receive send l e first on).rest (rts_there receive send l e first on) j.inv_y exact)

    -- ---- and of a sender

    pub str_found : (send receive z : ℕ) → b.pending ≡ command.Str send receive z ∷ more → IsFirst (command.Str send receive z) q.entries → Found (command.Str send receive z) more
    str_found send receive z e first = record {
      told = 0;
      rest_x = s.rest;
      rest_y = y.to_sender;
      rx = one_received _ s.rest _ x
          (s.is ∙ ap (λ (w : Word). w ∷ s.rest) (plain_str _ _ z s.same))
          (str_hears link _ z _ _ _ (λ i f. (first i f).0));
      sy = quiet_sent true [] y tt tt (λ f. absurd (cc));
      received = line.received;
      sent = s.behind;
    } where
      line : Line other link heard (command.Str send receive z ∷ more) y.receiver.asked y.to_sender x.to_receiver
      line = subst (λ (cs : List Command). Line other link heard cs y.receiver.asked y.to_sender x.to_receiver) e (j.to_a refl)

      s : Split x.to_receiver (Str (name receive send) z) (sender_words other link heard more)
      s = split _ _ _
          (line.sent ∙ ap (λ (k : ℕ). Str k z ∷ sender_words other link heard more) (named_same receive send (λ i f. (first i f).1)))

    -- ---- allocation

    line_of : (c : Command) → b.pending ≡ c ∷ more → Line other link heard (c ∷ more) y.receiver.asked y.to_sender x.to_receiver
    line_of c e = subst (λ (cs : List Command). Line other link heard cs y.receiver.asked y.to_sender x.to_receiver) e (j.to_a refl)

    pub all_found : (l m n : ℕ) → b.pending ≡ command.All l m n ∷ more → Found (command.All l m n) more
    all_found l m n e = by (l == link) refl where
      line : Line other link heard (command.All l m n ∷ more) y.receiver.asked y.to_sender x.to_receiver
      line = line_of (command.All l m n) e

      words : (v : Bool) → (l == link) ≡ v → map plain y.to_sender ≡ (if v then All 0 m n ∷ [] else []) ++ receiver_words other link y.receiver.asked heard more
      words v is = subst (λ (u : Bool). map plain y.to_sender ≡ (if u then All 0 m n ∷ [] else []) ++ receiver_words other link y.receiver.asked heard more) is line.received

      by : (v : Bool) → (l == link) ≡ v → Found (command.All l m n) more
      by true on =
          let s : Split y.to_sender (All 0 m n) (receiver_words other link y.receiver.asked heard more) = split _ _ _ (words true on) in
          let w : (k : ℕ) × (s.first ≡ All k m n) = plain_all _ m n s.same in
          record {
            told = w.0;
            rest_x = x.to_receiver;
            rest_y = s.rest;
            rx = quiet_received [] x tt;
            sy = subst (λ (v : Bool). Sending (if v then senders.Hear (All w.0 m n) ∷ [] else []) y s.rest y.box) (sym on) (one_sent true _ s.rest _ y (s.is ∙ ap (λ (v : Word). v ∷ s.rest) w.1) (refl, tt) (tt, tt) (λ f. absurd (cc)));
            received = s.behind;
            sent = line.sent;
          }
      by false away = record {
        told = 0;
        rest_x = x.to_receiver;
        rest_y = y.to_sender;
        rx = quiet_received [] x tt;
        sy = rw away (quiet_sent true [] y tt tt (λ f. absurd (cc)));
        received = words false away;
        sent = line.sent;
      }

    pub gvb_found : (l m n : ℕ) → b.pending ≡ command.Gvb l m n ∷ more → Found (command.Gvb l m n) more
    gvb_found l m n e = by (l == link) refl where
      line : Line other link heard (command.Gvb l m n ∷ more) y.receiver.asked y.to_sender x.to_receiver
      line = line_of (command.Gvb l m n) e

      words : (v : Bool) → (l == link) ≡ v → map plain y.to_sender ≡ (if v then Gvb 0 m n ∷ [] else []) ++ receiver_words other link y.receiver.asked heard more
      words v is = subst (λ (u : Bool). map plain y.to_sender ≡ (if u then Gvb 0 m n ∷ [] else []) ++ receiver_words other link y.receiver.asked heard more) is line.received

      by : (v : Bool) → (l == link) ≡ v → Found (command.Gvb l m n) more
      by true on =
          let s : Split y.to_sender (Gvb 0 m n) (receiver_words other link y.receiver.asked heard more) = split _ _ _ (words true on) in
          let w : (k : ℕ) × (s.first ≡ Gvb k m n) = plain_gvb _ m n s.same in
          record {
            told = w.0;
            rest_x = x.to_receiver;
            rest_y = s.rest;
            rx = quiet_received [] x tt;
            sy = subst (λ (v : Bool). Sending (if v then senders.Hear (Gvb w.0 m n) ∷ [] else []) y s.rest y.box) (sym on) (one_sent true _ s.rest _ y (s.is ∙ ap (λ (v : Word). v ∷ s.rest) w.1) (refl, tt) (tt, tt) (λ f. absurd (cc)));
            received = s.behind;
            sent = line.sent;
          }
      by false away = record {
        told = 0;
        rest_x = x.to_receiver;
        rest_y = y.to_sender;
        rx = quiet_received [] x tt;
        sy = rw away (quiet_sent true [] y tt tt (λ f. absurd (cc)));
        received = words false away;
        sent = line.sent;
      }

    pub ret_found : (l m n : ℕ) → b.pending ≡ command.Ret l m n ∷ more → Found (command.Ret l m n) more
    ret_found l m n e = by (l == link) refl where
      line : Line other link heard (command.Ret l m n ∷ more) y.receiver.asked y.to_sender x.to_receiver
      line = line_of (command.Ret l m n) e

      words : (v : Bool) → (l == link) ≡ v → map plain x.to_receiver ≡ (if v then Ret 0 m n ∷ [] else []) ++ sender_words other link heard more
      words v is = subst (λ (u : Bool). map plain x.to_receiver ≡ (if u then Ret 0 m n ∷ [] else []) ++ sender_words other link heard more) is line.sent

      by : (v : Bool) → (l == link) ≡ v → Found (command.Ret l m n) more
      by true on =
          let s : Split x.to_receiver (Ret 0 m n) (sender_words other link heard more) = split _ _ _ (words true on) in
          let w : (k : ℕ) × (s.first ≡ Ret k m n) = plain_ret _ m n s.same in
          record {
            told = w.0;
            rest_x = s.rest;
            rest_y = y.to_sender;
            rx = subst (λ (v : Bool). Receiving (if v then receivers.Hear (Ret w.0 m n) ∷ [] else []) x s.rest x.box) (sym on) (one_received _ s.rest _ x (s.is ∙ ap (λ (v : Word). v ∷ s.rest) w.1) (refl, tt));
            sy = quiet_sent true [] y tt tt (λ f. absurd (cc));
            received = line.received;
            sent = s.behind;
          }
      by false away = record {
        told = 0;
        rest_x = x.to_receiver;
        rest_y = y.to_sender;
        rx = rw away (quiet_received [] x tt);
        sy = quiet_sent true [] y tt tt (λ f. absurd (cc));
        received = line.received;
        sent = words false away;
      }

    -- ---- a CLS

    module _ (foreign own : ℕ) (e : b.pending ≡ command.Cls foreign own ∷ more) (z : Entry) (there : entry_at own foreign q.entries ≡ Some z) (unheard : z.partner_closed ≡ false) (two : is_receive_socket foreign ≡ not (is_receive_socket own))
        (keep : KeepBox (is_busy q.busy link) (cls_sent name q.busy own foreign q.entries y.sender (entry_at own foreign q.entries)) y.sender) where
      entry_unheard : (i : Entry) → Some i ≡ Some z → i.partner_closed ≡ false
      entry_unheard i f = ap has_heard f ∙ unheard

      cls_name : other foreign own (heard foreign own) ≡ name own foreign
      cls_name = named_same own foreign (λ i f. entry_unheard i (sym f ∙ there))

      words_y : map plain y.to_sender ≡ (if is_receive_socket foreign && y.receiver.asked (name own foreign) then Cls (name own foreign) ∷ [] else []) ++ receiver_words other link y.receiver.asked (with_closing (command.Cls foreign own) heard) more
      words_y = (line_of _ e).received
          ∙ ap (λ (k : ℕ). (if is_receive_socket foreign && y.receiver.asked k then Cls k ∷ [] else []) ++ receiver_words other link y.receiver.asked (with_closing (command.Cls foreign own) heard) more) cls_name

      words_x : map plain x.to_receiver ≡ (if is_receive_socket foreign then [] else Cls (name own foreign) ∷ []) ++ sender_words other link (with_closing (command.Cls foreign own) heard) more
      words_x = (line_of _ e).sent
          ∙ ap (λ (k : ℕ). (if is_receive_socket foreign then [] else Cls k ∷ []) ++ sender_words other link (with_closing (command.Cls foreign own) heard) more) cls_name

      closing_quiet : AreQuietSent (closes name q.busy (changed_at own foreign closed_by_partner q.entries))
      closing_quiet = closes_quiet name q.busy (changed_at own foreign closed_by_partner q.entries)

      z_name : named name z ≡ name own foreign
      z_name = own_name name link own foreign z _ there

      -- what is made of the entry that is there
      sends_by : (ms : List senders.Move) → cls_sent name q.busy own foreign q.entries y.sender (Some z) ≡ ms → sent_at name link (Hears stamp 0 (command.Cls foreign own)) q listening y.sender ≡ ms
      sends_by ms is = ap (λ (o : Option Entry). cls_sent name q.busy own foreign q.entries y.sender o) there ∙ is

      -- the other sends, and this one receives
      cls_to_receiver : is_receive_socket own ≡ true → is_receive_socket foreign ≡ false → Found (command.Cls foreign own) more
      cls_to_receiver mine its = record {
        told = 0;
        rest_x = s.rest;
        rest_y = y.to_sender;
        rx = one_received _ s.rest _ x
            (s.is ∙ ap (λ (w : Word). w ∷ s.rest) (plain_cls _ _ s.same))
            (subst (λ (o : Option Entry). HearOne (Cls (name own foreign)) (cls_received link (name own foreign) o)) (sym there) (cls_hears link (name own foreign) z unheard receiving));
        sy = quiet_sent _ _ y
            (subst (λ (ms : List senders.Move). AreQuietSent ms) (sym (sends_by _ (sent_own name q.busy own foreign q.entries y.sender z unheard receiving))) closing_quiet) keep empty;
        received = subst (λ (v : Bool). map plain y.to_sender ≡ (if v && y.receiver.asked (name own foreign) then Cls (name own foreign) ∷ [] else []) ++ receiver_words other link y.receiver.asked (with_closing (command.Cls foreign own) heard) more) its words_y;
        sent = s.behind;
      } where
        receiving : is_receiving z ≡ true
        receiving = own_parity name link own foreign z _ there ∙ mine

        s : Split x.to_receiver (Cls (name own foreign)) (sender_words other link (with_closing (command.Cls foreign own) heard) more)
        s = split _ _ _
            (subst (λ (v : Bool). map plain x.to_receiver ≡ (if v then [] else Cls (name own foreign) ∷ []) ++ sender_words other link (with_closing (command.Cls foreign own) heard) more) its words_x)

      -- the other receives, and this one sends
      cls_to_sender : is_receive_socket own ≡ false → is_receive_socket foreign ≡ true → Found (command.Cls foreign own) more
      cls_to_sender mine its = by (y.receiver.asked (name own foreign)) refl where
        sending : is_receiving z ≡ false
        sending = own_parity name link own foreign z _ there ∙ mine

        rx_none : Receiving (received_at name link (Hears stamp 0 (command.Cls foreign own)) q listening) x x.to_receiver x.box
        rx_none = subst (λ (ms : List receivers.Move). Receiving ms x x.to_receiver x.box)
            (sym (ap (λ (o : Option Entry). cls_received link (name own foreign) o) there ∙ cls_deaf link (name own foreign) z unheard sending)) (quiet_received [] x tt)

        sent_none : map plain x.to_receiver ≡ sender_words other link (with_closing (command.Cls foreign own) heard) more
        sent_none = subst (λ (v : Bool). map plain x.to_receiver ≡ (if v then [] else Cls (name own foreign) ∷ []) ++ sender_words other link (with_closing (command.Cls foreign own) heard) more) its words_x

        words_by : (v : Bool) → y.receiver.asked (name own foreign) ≡ v → map plain y.to_sender ≡ (if v then Cls (name own foreign) ∷ [] else []) ++ receiver_words other link y.receiver.asked (with_closing (command.Cls foreign own) heard) more
        words_by v is =
            subst (λ (u : Bool). map plain y.to_sender ≡ (if u then Cls (name own foreign) ∷ [] else []) ++ receiver_words other link y.receiver.asked (with_closing (command.Cls foreign own) heard) more) is
            (subst (λ (u : Bool). map plain y.to_sender ≡ (if u && y.receiver.asked (name own foreign) then Cls (name own foreign) ∷ [] else []) ++ receiver_words other link y.receiver.asked (with_closing (command.Cls foreign own) heard) more) its words_y)

        by : (v : Bool) → y.receiver.asked (name own foreign) ≡ v → Found (command.Cls foreign own) more
        by true asked =
            let s : Split y.to_sender (Cls (name own foreign)) (receiver_words other link y.receiver.asked (with_closing (command.Cls foreign own) heard) more)
            = split _ _ _ (words_by true asked) in
            let front : y.to_sender ≡ Cls (name own foreign) ∷ s.rest = s.is ∙ ap (λ (w : Word). w ∷ s.rest) (plain_cls _ _ s.same) in
            let end : y.sender.end ≡ Some (named name z) = cls_end _ s.rest front ∙ ap (λ (n : ℕ). Some n) (sym z_name) in
            record {
              told = 0;
              rest_x = x.to_receiver;
              rest_y = s.rest;
              rx = rx_none;
              sy = one_sent _ _ s.rest _ y front
                  (subst (λ (ms : List senders.Move). HearOneSent (Cls (name own foreign)) ms)
                  (sym (sends_by _ (sent_here name q.busy own foreign q.entries y.sender z unheard sending end)))
                  (ap (λ (n : ℕ). Cls n) z_name, closing_quiet)) keep empty;
              received = s.behind;
              sent = sent_none;
            }
        by false off = record {
          told = 0;
          rest_x = x.to_receiver;
          rest_y = y.to_sender;
          rx = rx_none;
          sy = quiet_sent _ _ y
              (subst (λ (ms : List senders.Move). AreQuietSent ms)
              (sym (sends_by _
              (sent_away name q.busy own foreign q.entries y.sender z unheard sending (λ end. unlike (y.receiver.asked (name own foreign)) (j.inv_y.ends.heard (name own foreign) (end ∙ ap (λ (n : ℕ). Some n) z_name)) off))))
              closing_quiet) keep empty;
          received = words_by false off;
          sent = sent_none;
        }

      pub cls_found : Found (command.Cls foreign own) more
      cls_found = by (is_receive_socket own) refl where
        by : (v : Bool) → is_receive_socket own ≡ v → Found (command.Cls foreign own) more
        by true is = cls_to_receiver is (two ∙ ap not is)
        by false is = cls_to_sender is (two ∙ ap not is)
