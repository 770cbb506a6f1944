-- Two programs that have nothing more to say to one another agree on what each connection may still carry.
use Rattle.pair_keeps_streams.proofs.Common.{◌≡◌, ◌⊎◌, inl, inr, ℕ, ◌&&◌, not, Bool, true, false, List, [], ◌∷◌, find, map, Option, Some, None, is_some, refl, ap, sym, subst, ◌∙◌, arith, Command, Receiver, Stream, Waiting, Word, entry_at, has_cls, is_at, is_link, is_open, is_receiving, receives_on, sends_on, Entry, has_opened, IsSender, IsTelling, named, leaving_shut, name_of, own_name, own_receiver, unlike, closings_in, counted, has_heard, has_said, plain, receiver_words, sender_words}
use Rattle.std.proofs.Common.{◌||◌}
use Rattle.stream_law.specs.Agreed.{AreAgreed, IsAtRest}
use Rattle.stream_law.specs.Within.{waiting_in}
use Rattle.stream_law.proofs.lemmas.{agreed_of}
use Rattle.host_keeps_streams.specs.Ends.{IsLeaving, IsReceiver}
use Rattle.host_keeps_streams.proofs.lemmas.{open_same, open_same_senders}
use Rattle.host_keeps_streams.proofs.lemmas.Senders as own_senders
use Rattle.pair_keeps_streams.proofs.Joint.{AreLinked, Half, Joint, Party, heard_by}

-- an end that a test finds was asked for on its link
found_step : (name : ℕ → ℕ → ℕ) (link : ℕ) (r : Receiver) (test : Entry → Bool) (e z : Entry) (zs : List Entry) → ((is_receiving z ≡ true) → r.asked (named name z) ≡ is_link link z.link) → (find test zs ≡ Some e → is_receiving e ≡ true → r.asked (named name e) ≡ is_link link e.link)
    → (v : Bool) → test z ≡ v → find test (z ∷ zs) ≡ Some e → is_receiving e ≡ true → r.asked (named name e) ≡ is_link link e.link
found_step name link r test e z zs here rest true t f i =
    let is : Some z ≡ Some e = (rw t at f) in
    let same : z ≡ e = cc in
    subst (λ (x : Entry). is_receiving x ≡ true → r.asked (named name x) ≡ is_link link x.link) same here i
found_step name link r test e z zs here rest false t f i = rest (rw t at f) i

asked_at_link : (name : ℕ → ℕ → ℕ) (link : ℕ) (es : List Entry) (r : Receiver) (test : Entry → Bool) (e : Entry) → AreLinked name link es r → find test es ≡ Some e → is_receiving e ≡ true → r.asked (named name e) ≡ is_link link e.link
asked_at_link name link [] r test e l f i = absurd (let no : None ≡ Some e = f in cc)
asked_at_link name link (z ∷ zs) r test e l f i = found_step name link r test e z zs l.0 (λ g. asked_at_link name link zs r test e l.1 g) _ refl f i

no_words : (ws : List Word) → map plain ws ≡ [] → ws ≡ []
no_words [] e = refl
no_words (w ∷ ws) e = absurd (let no : plain w ∷ map plain ws ≡ [] = e in cc)

count_same : (g : ℕ) (u v : Bool) → counted u g ≡ counted v g → u ≡ v
count_same g true true e = refl
count_same g true false e = absurd (omega (arith, e))
count_same g false true e = absurd (omega (arith, e))
count_same g false false e = refl

-- an open end has said no CLS and heard none
record Parts (e : Entry) : Type 0 where
  unsaid : has_cls e.closing ≡ false
  unheard : e.partner_closed ≡ false

open_parts : (e : Entry) → is_open e ≡ true → Parts e
open_parts e o = by (is_some e.asked) (is_some e.partner) (has_cls e.closing) refl e.partner_closed refl o where
  by : (s t u : Bool) → has_cls e.closing ≡ u → (v : Bool) → e.partner_closed ≡ v → (s && t && not (u || v)) ≡ true → Parts e
  by true true false f false g o = record { unsaid = f; unheard = g }
  by true true true f v g o = absurd (let no : false ≡ true = o in cc)
  by true true false f true g o = absurd (let no : false ≡ true = o in cc)
  by true false u f v g o = absurd (let no : false ≡ true = o in cc)
  by false t u f v g o = absurd (let no : false ≡ true = o in cc)

-- an end that takes, and one that gives, of one connection
pub record OfOne (number other : ℕ → ℕ → ℕ → ℕ) (a b : Party) (taker giver : Entry) : Type 0 where
  pub own : ℕ
  pub foreign : ℕ
  pub taker_found : entry_at own foreign a.entries ≡ Some taker
  pub giver_found : entry_at foreign own b.entries ≡ Some giver
  pub same : name_of number a.gone own foreign ≡ name_of other b.gone foreign own
  pub receiving : is_receiving taker ≡ true

module _ (number other : ℕ → ℕ → ℕ → ℕ) (tells : IsTelling number) (others : IsTelling other) (link : ℕ) (x y : Stream) (a b : Party) (j : Joint number other tells others link x y a b) (here : a.stays ≡ true) (there : b.stays ≡ true)
    (taker giver : Entry) (o : OfOne number other a b taker giver) (sends : sends_on link giver ≡ true) where
  taker_name : named (name_of number a.gone) taker ≡ name_of number a.gone o.own o.foreign
  taker_name = own_name (name_of number a.gone) link o.own _ taker _ o.taker_found

  giver_name : named (name_of other b.gone) giver ≡ name_of other b.gone o.foreign o.own
  giver_name = own_name (name_of other b.gone) link _ o.own giver _ o.giver_found

  names : named (name_of other b.gone) giver ≡ named (name_of number a.gone) taker
  names = giver_name ∙ sym o.same ∙ sym taker_name

  mine : Half number tells link x.receiver y.sender a
  mine = j.mine here

  theirs : Half other others link y.receiver x.sender b
  theirs = j.theirs there

  ends : IsSender (named (name_of other b.gone) giver) giver x.sender ⊎ IsLeaving giver x.sender
  ends = (own_senders.own_sender (name_of other b.gone) link (is_at o.foreign o.own) (λ z. z) giver b.entries x.sender o.giver_found sends sends theirs.holds.sent.here).0

  sender_end : IsSender (named (name_of other b.gone) giver) giver x.sender → x.sender.end ≡ Some (named (name_of number a.gone) taker)
  sender_end gives = gives.end ∙ ap (λ (n : ℕ). Some n) names

  -- the taker's end has the giver's link
  linked_by : IsSender (named (name_of other b.gone) giver) giver x.sender → is_link link taker.link ≡ true
  linked_by gives =
      sym (asked_at_link _ link _ _ _ taker mine.linked o.taker_found o.receiving) ∙ j.inv_x.ends.heard (named (name_of number a.gone) taker) (sender_end gives)

  -- while data wait, which no end that leaves has sent
  pub linked_waiting : (k z : ℕ) (bits : List Bool) → x.box ≡ Waiting k z bits → is_link link taker.link ≡ true
  linked_waiting k z bits e = elim ends [
    | inl gives ↦ linked_by gives
    | inr n ↦ (let w : (x.sender.end ≡ Some k) × (x.sender.opened ≡ true) × (x.sender.closed k ≡ false) × (x.sender.size k ≡ Some z) = rw e at j.inv_x.waiting in absurd (unlike (x.sender.closed k) (n.none k w.0 w.1) w.2))
  ]

  -- each has heard as many CLS as the other has said
  module _ (same : (own foreign g : ℕ) → other own foreign g ≡ number foreign own g) (silent : a.pending ≡ []) (quiet : b.pending ≡ []) where
    gone_same : a.gone o.own o.foreign ≡ b.gone o.foreign o.own
    gone_same = tells.gone o.own o.foreign (a.gone o.own o.foreign) o.own o.foreign (b.gone o.foreign o.own) (o.same ∙ same o.foreign o.own _)

    pub taker_heard : has_cls giver.closing ≡ taker.partner_closed
    taker_heard =
        count_same (b.gone o.foreign o.own) _ _
        (ap (λ (e : Option Entry). counted (has_said e) (b.gone o.foreign o.own)) (sym o.giver_found) ∙ j.told_a here there o.foreign o.own ∙ ap (λ (cs : List Command). closings_in cs (heard_by a) o.foreign o.own) quiet
        ∙ ap (λ (e : Option Entry). counted (has_heard e) (a.gone o.own o.foreign)) o.taker_found ∙ ap (λ (g : ℕ). counted taker.partner_closed g) gone_same)

    pub giver_heard : has_cls taker.closing ≡ giver.partner_closed
    giver_heard =
        count_same (a.gone o.own o.foreign) _ _
        (ap (λ (e : Option Entry). counted (has_said e) (a.gone o.own o.foreign)) (sym o.taker_found) ∙ j.told_b here there o.own o.foreign ∙ ap (λ (cs : List Command). closings_in cs (heard_by b) o.own o.foreign) silent
        ∙ ap (λ (e : Option Entry). counted (has_heard e) (b.gone o.foreign o.own)) o.giver_found ∙ ap (λ (g : ℕ). counted giver.partner_closed g) (sym gone_same))

  module _ (same : (own foreign g : ℕ) → other own foreign g ≡ number foreign own g) (taker_open : is_open taker ≡ true) (giver_opened : has_opened giver ≡ true) (silent : a.pending ≡ []) (quiet : b.pending ≡ []) where
    -- so the giver's end is open too
    unsaid : has_cls giver.closing ≡ false
    unsaid = taker_heard same silent quiet ∙ (open_parts taker taker_open).unheard

    unheard : giver.partner_closed ≡ false
    unheard = sym (giver_heard same silent quiet) ∙ (open_parts taker taker_open).unsaid

    giver_open : is_open giver ≡ true
    giver_open = rw (unsaid, unheard) (by (is_some giver.asked) (is_some giver.partner) giver_opened) where
      by : (u v : Bool) → (u && v) ≡ true → (u && v && true) ≡ true
      by true true e = refl
      by true false e = e
      by false v e = e

    gives : IsSender (named (name_of other b.gone) giver) giver x.sender
    gives = elim ends [
      | inl is ↦ is
      | inr n ↦ absurd (unlike (is_open giver) giver_open (leaving_shut giver _ n))
    ]

    pub linked : is_link link taker.link ≡ true
    linked = linked_by gives

    receives : receives_on link taker ≡ true
    receives = rw (o.receiving, linked) refl

    takes : IsReceiver (named (name_of number a.gone) taker) taker x.receiver
    takes = (own_receiver (name_of number a.gone) link (is_at o.own o.foreign) (λ z. z) taker a.entries _ o.taker_found receives receives mine.holds.received).0

    module _ (box : waiting_in x.box ≡ []) where
      to_sender : x.to_sender ≡ []
      to_sender = no_words _ ((j.to_b there).received ∙ ap (λ (cs : List Command). receiver_words number link x.receiver.asked (heard_by b) cs) silent)

      to_receiver : x.to_receiver ≡ []
      to_receiver = no_words _ ((j.to_a here).sent ∙ ap (λ (cs : List Command). sender_words other link (heard_by a) cs) quiet)

      rest : IsAtRest x (named (name_of number a.gone) taker)
      rest = record {
        receiver = takes.end;
        receives = open_same _ taker _ takes ∙ taker_open;
        sender = sender_end gives;
        sends = open_same_senders (named (name_of number a.gone) taker) giver x.sender
            (record { end = sender_end gives; opened = gives.opened; shut = gives.shut; closed = ap x.sender.closed (sym names) ∙ gives.closed; size = ap x.sender.size (sym names) ∙ gives.size; allocation = gives.allocation; live = gives.live }) ∙ giver_open;
        to_sender = to_sender;
        to_receiver = to_receiver;
        box = box;
      }

      pub agree : AreAgreed x (named (name_of number a.gone) taker)
      agree = agreed_of true x (named (name_of number a.gone) taker) j.inv_x (j.exact_x here there) rest

      pub counters : giver.allocation ≡ taker.allocation
      counters = sym gives.allocation ∙ agree.allocation ∙ takes.allocation
