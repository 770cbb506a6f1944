-- Each life of a book is formed, and its sending lives are one after another: with the link that its requests name.
use Rattle.world_keeps_lives.proofs.Common.{Contains, option_map, Flow, Crossing, HostMessage, is_receive_socket, Legal, orders_of, Entry, before, receives, Moment, program, crossings_of, Life, HasOpenEnd, AreOurs, Network, mixed_kept, in_book}
use Rattle.std.proofs.Common.{◌≡◌, inl, inr, ℕ, ◌<◌, ◌≤◌, ◌==◌, Bool, true, false, if◌then◌else◌, zero, suc, List, [], ◌∷◌, map, take, length, Option, Some, is_some, refl, ap, sym, subst, ◌∙◌, arith}
use Rattle.promise.specs.Formed.{CrossedAt, IsFormed, data_in, first_data, joined, request, texts_for, texts_on, FormedBook, flow_of, link_of, own_named, partner_named}
use Rattle.world_keeps_lives.specs.Firsts.{AreApart, IsSentIn, begun, AreAfter, IsBefore, flow_on}
use Rattle.interface.specs.declared.crossing.Crossing.TheVariants as crossing
use Rattle.ncp_control.specs.declared.command.Command.TheVariants as command
use Rattle.world_keeps_lives.proofs.Firsts.Books.{good}
use Rattle.world_keeps_lives.proofs.Firsts.Ends.{AtEnd, Good, Lawful, Together, Tracked, at_end, is_end, lives_in, ours, str_foreign}
use Rattle.world_keeps_lives.proofs.Firsts.Lists.{From, from_map, life_of, mapped}
use Rattle.world_keeps_lives.proofs.Firsts.Linked as by_link
use Rattle.world_keeps_lives.proofs.Firsts.Linked.{HasRequests, IsFirst, Linked, LinkedBook, all_data}
use Rattle.world_keeps_lives.proofs.Named.{Names, named_there, names_of}
use Rattle.world_keeps_lives.proofs.OneRequest.{NamesOnce, in_once, out_once}
use Rattle.world_keeps_lives.proofs.Walk.Rules.{Each, each_in, each_of, each_weaker}

-- ---- data

pub first_all : (comes : Bool) (n : ℕ) (ts : List (List Bool)) → n ≤ length ts
    → first_data comes n ts ≡ all_data comes (take n ts)
first_all comes zero ts less = refl
first_all comes (suc n) [] less = absurd (omega (arith, less))
first_all comes (suc n) (t ∷ ts) less = ap (λ (o : Option (List Bool)). joined (data_in comes t) o) (first_all comes n ts (omega (arith, less)))

some_same : (f g : Flow) → Some f ≡ Some g → f ≡ g
some_same f g e = cc

module _ (hosts : Network) (ms : List Moment) (l : Lawful hosts ms) where
  abbrev log : List Crossing
  log = crossings_of ms

  -- ---- requests

  named_rts : (own foreign n k : ℕ) (text : List Bool) → is_receive_socket own ≡ true → NamesOnce text
      → Contains (orders_of text) (Legal (request own foreign n))
      → Contains (orders_of text) (Legal (request own foreign k)) → n ≡ k
  named_rts own foreign n k text even once one other =
      once own foreign n k (rts n one) (rts k other) where
        rts : (j : ℕ) → Contains (orders_of text) (Legal (request own foreign j))
            → Contains (orders_of text) (Legal (command.Rts own foreign j))
        rts j there = subst (λ (v : Bool). Contains (orders_of text) (Legal (if v then command.Rts own foreign j else command.Str own foreign j))) even there

  module _ (p : Linked) (two : AreOurs hosts p.life.host p.life.peer) (a : HasRequests log p) where
    own : Names p.life.socket p.life.foreign (orders_of a.own.message.text)
    own = names_of p.life.socket p.life.foreign _ _ a.own.holds

    partner : Names p.life.foreign p.life.socket (orders_of a.partner.message.text)
    partner = names_of p.life.foreign p.life.socket _ _ a.partner.holds

    own_is : own_named log p.life ≡ Some own.named
    own_is = named_there false p.life.host p.life.peer p.life.socket p.life.foreign p.life.own_stamp a.own.message log a.own.flow a.own.crossed ∙ own.is

    partner_is : partner_named log p.life ≡ Some partner.named
    partner_is = named_there true p.life.peer p.life.host p.life.foreign p.life.socket p.life.partner_stamp a.partner.message log a.partner.flow a.partner.crossed ∙ partner.is

    pub link_is : link_of log p.life ≡ Some p.link
    link_is = by (receives p.life) refl where
      own_by : (v : Bool) → receives p.life ≡ v
          → Contains (orders_of a.own.message.text) (Legal (request p.life.socket p.life.foreign (if v then p.link else a.size)))
      own_by v e = subst (λ (v : Bool). Contains (orders_of a.own.message.text) (Legal (request p.life.socket p.life.foreign (if v then p.link else a.size)))) e a.own.holds

      partner_by : (v : Bool) → receives p.life ≡ v
          → Contains (orders_of a.partner.message.text) (Legal (request p.life.foreign p.life.socket (if v then a.size else p.link)))
      partner_by v e = subst (λ (v : Bool). Contains (orders_of a.partner.message.text) (Legal (request p.life.foreign p.life.socket (if v then a.size else p.link)))) e a.partner.holds

      by : (v : Bool) → receives p.life ≡ v
          → (if v then own_named log p.life else partner_named log p.life) ≡ Some p.link
      by true e =
          own_is
          ∙ ap (λ (n : ℕ). Some n)
          (named_rts p.life.socket p.life.foreign own.named p.link a.own.message.text e
          (out_once hosts l.0 ms l.1 l.2 a.own.message (subst (λ (f : Flow). AreOurs hosts f.source f.destination) (sym a.own.flow) two) p.life.own_stamp a.own.crossed (ap (λ (f : Flow). f.link.0 == 0) a.own.flow)) own.there (own_by true e))
      by false e =
          partner_is
          ∙ ap (λ (n : ℕ). Some n)
          (named_rts p.life.foreign p.life.socket partner.named p.link a.partner.message.text (str_foreign a.own.message.text p.life.socket p.life.foreign a.size e (own_by false e))
          (in_once hosts l.0 ms l.1 l.2 a.partner.message (subst (λ (f : Flow). AreOurs hosts f.source f.destination) (sym a.partner.flow) (two.1, two.0)) p.life.partner_stamp a.partner.crossed (ap (λ (f : Flow). f.link.0 == 0) a.partner.flow)) partner.there (partner_by false e))

  -- ---- one life

  texts_are : (p : Linked) → AreOurs hosts p.life.host p.life.peer → HasRequests log p → (older : List Crossing)
      → texts_on p.life (link_of log p.life) older ≡ texts_for p.life p.link older
  texts_are p two a older = ap (λ (o : Option ℕ). texts_on p.life o older) (link_is p two a)

  flow_is : (p : Linked) → AreOurs hosts p.life.host p.life.peer → HasRequests log p
      → flow_on log p.life ≡ Some (flow_of p.life p.link)
  flow_is p two a = ap (λ (o : Option ℕ). option_map (flow_of p.life) o) (link_is p two a)

  formed_one : (p : Linked) → AreOurs hosts p.life.host p.life.peer → IsFirst log p → IsFormed log p.life
  formed_one p two f = record {
    own = ap is_some (own_is p two f.asked);
    partner = ap is_some (partner_is p two f.asked);
    bits = ap (first_data (receives p.life) p.life.messages) (texts_are p two f.asked log) ∙ first_all _ p.life.messages _ f.enough ∙ f.bits;
  }

  -- ---- all of them

  module _ (b : LinkedBook hosts log (lives_in hosts ms)) where
    ours_in : (p : Linked) → Contains b.links p → AreOurs hosts p.life.host p.life.peer
    ours_in p there = (in_book hosts _ p.life (subst (λ (xs : List Life). Contains xs p.life) b.all (mapped life_of b.links p there))).1

    pub formed_book : FormedBook log (lives_in hosts ms)
    formed_book x there =
        let f : From life_of b.links x = from_map life_of b.links x (subst (λ (xs : List Life). Contains xs x) (sym b.all) there) in
        subst (λ (y : Life). IsFormed log y) f.is (formed_one f.one (ours_in f.one f.there) (b.first f.one f.there))

    -- in the order of their links
    abbrev Known : Linked → Type 0
    Known p = AreOurs hosts p.life.host p.life.peer × HasRequests log p

    before_one : (p q : Linked) → Known p → Known q → by_link.IsBefore log p q → IsBefore log p.life q.life
    before_one p q j k is (kind, like, share) =
        let flow : Some (flow_of p.life p.link) ≡ Some (flow_of q.life q.link) = sym (flow_is p j.0 j.1) ∙ share ∙ flow_is q k.0 k.1 in
        elim (is (kind, like, some_same _ _ flow)) [
          | inl none ↦ inl none
          | inr some ↦ inr (subst (λ (n : ℕ). p.life.messages ≤ n) (ap length (sym (texts_are p j.0 j.1 _))) some)
        ]

    after_one : (p : Linked) (qs : List Linked) → Known p → Each Known qs → by_link.AreAfter log p qs
        → AreAfter log p.life (map life_of qs)
    after_one p [] j ks a = tt
    after_one p (q ∷ qs) j ks a = (before_one p q j ks.0 a.0, after_one p qs j ks.1 a.1)

    all_apart : (ps : List Linked) → Each Known ps → by_link.AreApart log ps → AreApart log (map life_of ps)
    all_apart [] ks a = tt
    all_apart (p ∷ ps) ks a = (after_one p ps ks.0 ks.1 a.0, all_apart ps ks.1 a.1)

    all_known : Each Known b.links
    all_known = each_weaker _ Known b.links (λ p there. (ours_in p there, (b.first p there).asked)) (each_of b.links)

    sent_one : (place : ℕ) (m : HostMessage) (p : Linked) → Known p → by_link.IsSentIn log place m p
        → IsSentIn log place m p.life
    sent_one place m p k s = record {
      sending = s.sending;
      flow = flow_is p k.0 k.1 ∙ ap (λ (f : Flow). Some f) (sym s.flow);
      own = s.own;
      partner = s.partner;
      counted = subst (λ (n : ℕ). n < p.life.messages) (ap length (sym (texts_are p k.0 k.1 _))) s.counted;
    }

    pub apart_book : AreApart log (lives_in hosts ms)
    apart_book = subst (λ (xs : List Life). AreApart log xs) b.all (all_apart b.links all_known b.apart)

    -- each message between two of these hosts that goes out on another link than 0
    pub sent_book : (place : ℕ) (m : HostMessage) → AreOurs hosts m.flow.source m.flow.destination
        → CrossedAt place (crossing.Out m) log → (m.flow.link.0 == 0) ≡ false
        → (x : Life) × Contains (lives_in hosts ms) x × IsSentIn log place m x
    sent_book place m two crossed off =
        let s : (p : Linked) × Contains b.links p × by_link.IsSentIn log place m p = b.sent place m two crossed off in (
          s.0.life,
          subst (λ (xs : List Life). Contains xs s.0.life) b.all (mapped life_of b.links s.0 s.1),
          sent_one place m s.0 (ours_in s.0 s.1, (b.first s.0 s.1).asked) s.2,
        )

  -- ---- the end of a life that isn't over has its link

  module _ (given : Together hosts) where
    abbrev IsLinked : Life → Type 0
    IsLinked x = x.ended ≡ false → (o : HasOpenEnd (program x.host ms) x) → link_of (crossings_of ms) x ≡ o.end.link

    pub end_link : (x : Life) → Contains (lives_in hosts ms) x → x.ended ≡ false
        → (o : HasOpenEnd (program x.host ms) x)
        → link_of (crossings_of ms) x ≡ o.end.link
    end_link x there =
        let g : Good hosts ms = good hosts given ms l in
        let f : From life_of g.links x =
        from_map life_of g.links x (subst (λ (ls : List Life). Contains ls x) (sym g.all) there) in
        let t : Tracked ms f.one = each_in (Tracked ms) g.links f.one f.there g.tracked in
        subst IsLinked f.is (λ goes o.
        (let i : AtEnd ms f.one =
        at_end hosts given ms l f.one (subst (λ (z : Life). Contains (lives_in hosts ms) z) (sym f.is) there) t goes in
        let same : i.end ≡ o.end = is_end hosts given ms l f.one.life o i.end i.there i.mine i.own in
        link_is f.one (ours hosts given ms l f.one.life (subst (λ (z : Life). Contains (lives_in hosts ms) z) (sym f.is) there)) t.first.asked ∙ sym i.link ∙ ap (λ (e : Entry). e.link) same))
