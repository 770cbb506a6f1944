-- The requests of an end that is there, in a host that stays: those of the connection that its sockets' gone ones count.
use Rattle.world_keeps_streams.proofs.Common.{◌≡◌, ℕ, ◌+◌, ◌==◌, ◌&&◌, ◌||◌, Bool, true, false, List, [], ◌∷◌, Option, Some, None, refl, ap, sym, subst, ◌∙◌, arith, eqb-true, Host, entry_at, is_at, Entry, both, end_of, is_past, standing, gone_now, counted, has_heard, heard_from, End, Side, hears, says, Event, pair_with, Moment, events_of, program, crossings_of, Coupled, law_events, origin_in, keeps, steps, own_calls, AreOurs, Network}
use Rattle.pairing_law.specs.Links.{Sockets, Who, receiver, Receiver, Sender}
use Rattle.pairing_law.specs.Marks.{Mark, Asks, closes}
use Rattle.pairing_law.proofs.lemmas.{Half, Joined, count, stays_same, Balanced}
use Rattle.world_keeps_pairing.proofs.lemmas.{Tie, all_hears, all_says, all_tied, are_origins, at_texts, foreign_of, half, hears_if, left_if, met_if, other, own_of, receiver_half, sender_half, served_in, IsPair, before}
use Rattle.reset_law.specs.Stays as stay
use Rattle.world_keeps_streams.proofs.Deeds.Effects.{Among, found_among}
use Rattle.world_keeps_streams.proofs.Lives.Left.{entry_end}
use Rattle.world_keeps_streams.proofs.Requests.Sides.{Heard, Lawful, coupled_in, law_joined}
use Rattle.world_keeps_streams.proofs.Heard.Calls.{closes_in}
use Rattle.world_keeps_streams.proofs.Heard.Run.{heard_closes}

-- ---- a side stays where the law of resets has it

said_stays : (ms : List Mark) (x : Side) → (all_says ms x).stays ≡ x.stays
said_stays [] x = refl
said_stays (m ∷ ms) x = said_stays ms (says m x)

heard_stays : (ms : List Mark) (x : Side) → (all_hears ms x).stays ≡ x.stays
heard_stays [] x = refl
heard_stays (m ∷ ms) x = heard_stays ms (hears m x)

pub side_stays : (h p : Host) (spoken heard : List (List Bool) → List Mark) (events : List Event) → (half h p spoken heard events).stays ≡ stay.stays h p events
side_stays h p spoken heard [] = refl
side_stays h p spoken heard (e ∷ events) =
    let x : Side = half h p spoken heard events in
    let said : Side = all_says (spoken (stay.said_by h p 0 e)) (half h p spoken heard events) in
    met (stay.begins h p e events) (before h p spoken heard e events x)
    ∙ ap (λ (v : Bool). stay.begins h p e events || v)
    (left (keeps h p e events) (hears_if (stay.stays h p events) (heard (stay.heard_by p h 0 e)) said)
    ∙ ap (λ (v : Bool). keeps h p e events && v) (took (stay.stays h p events) (heard (stay.heard_by p h 0 e)) said ∙ said_stays (spoken (stay.said_by h p 0 e)) x ∙ side_stays h p spoken heard events)) where
      met : (v : Bool) (z : Side) → (met_if v z).stays ≡ (v || z.stays)
      met true z = refl
      met false z = refl

      left : (v : Bool) (z : Side) → (left_if v z).stays ≡ (v && z.stays)
      left true z = refl
      left false z = refl

      took : (v : Bool) (ms : List Mark) (z : Side) → (hears_if v ms z).stays ≡ z.stays
      took true ms z = heard_stays ms z
      took false ms z = refl

-- ---- one end

-- the connection of an end that is there is named by how many are gone
pub now_gone : (c now gone : ℕ) (partner_closed : Bool) → c ≡ now + count partner_closed → c ≡ counted partner_closed gone → now ≡ gone
now_gone c now gone true e f = omega (arith, e, f)
now_gone c now gone false e f = omega (arith, e, f)

-- what the law has of it
record Now (said heard : List Mark) (x : End) (g : ℕ) : Type 0 where
  asked : (n : ℕ) → x.asked ≡ Some n → Asks g n said
  partner : (n : ℕ) → x.partner ≡ Some n → Asks g n heard
  unasked : x.asked ≡ None → (n : ℕ) → Asks g n said → ⊥

now_at : (said heard : List Mark) (kept x : End) (g : ℕ) (partner_closed : Bool) → Balanced said heard kept → kept ≡ x → x.taken ≡ partner_closed → closes heard ≡ counted partner_closed g → Now said heard x g
now_at said heard kept x g pc b same taken counts =
    let h : closes heard ≡ b.now + count pc = b.heard ∙ ap (λ (v : Bool). b.now + count v) (ap (λ (e : End). e.taken) same ∙ taken) in
    let is : b.now ≡ g = now_gone (closes heard) b.now g pc h counts in
    record {
      asked = λ n e. subst (λ (k : ℕ). Asks k n said) is (b.asked_at n (ap (λ (v : End). v.asked) same ∙ e));
      partner = λ n e. subst (λ (k : ℕ). Asks k n heard) is (b.partner_at n (ap (λ (v : End). v.partner) same ∙ e));
      unasked = λ none n a. (let there : kept.asked ≡ Some n = b.asked_is n (subst (λ (k : ℕ). Asks k n said) (sym is) a) in let both : None ≡ Some n = sym none ∙ sym (ap (λ (v : End). v.asked) same) ∙ there in absurd (cc));
    }

-- ---- of a program

-- as many CLS were heard as its calls count
abbrev pub Counts : Host → Host → List Moment → Type 0
Counts h p ms = (foreign own : ℕ) → closes_in foreign own (own_calls h p ms) ≡ heard_from (gone_now p (own_calls h p ms)) (pair_with p (program h ms).peers).entries foreign own

module _ (hosts : Network) (ms : List Moment) (l : Lawful hosts ms) (s : Sockets) (q : IsPair s) (who : Who) (h p : Host) (ours : AreOurs hosts h p) (counts : Counts h p ms) (stays : stay.stays h p (events_of ms) ≡ true)
    (tie : Tie s q who h p (origin_in (crossings_of ms) h p) ms) (other_side : Side) (floor above : ℕ) (law : Half floor above (half h p (at_texts s who) (at_texts s (other who)) (law_events ms)) other_side)
    (e : Entry) (found : entry_at (own_of who s) (foreign_of who s) (pair_with p (program h ms).peers).entries ≡ Some e) where
  place : Among e (pair_with p (program h ms).peers).entries × (is_at (own_of who s) (foreign_of who s) e ≡ true)
  place = found_among (is_at (own_of who s) (foreign_of who s)) (pair_with p (program h ms).peers).entries e found

  end_is : ((half h p (at_texts s who) (at_texts s (other who)) (law_events ms)).end ≡ end_of (origin_in (crossings_of ms) h p) (standing e)) × (is_past (standing e) ≡ false)
  end_is =
      let t : ((e.own == own_of who s) ≡ true) × ((e.foreign == foreign_of who s) ≡ true) = both (e.own == own_of who s) (e.foreign == foreign_of who s) place.1 in
      entry_end s q who h p (origin_in (crossings_of ms) h p) ms tie e place.0 (eqb-true e.own (own_of who s) t.0) (eqb-true e.foreign (foreign_of who s) t.1)

  g : ℕ
  g = gone_now p (own_calls h p ms) (own_of who s) (foreign_of who s)

  counted_here : closes (half h p (at_texts s who) (at_texts s (other who)) (law_events ms)).heard ≡ counted e.partner_closed (gone_now p (own_calls h p ms) (own_of who s) (foreign_of who s))
  counted_here =
      heard_closes s q who hosts h p ours ms l stays ∙ counts (foreign_of who s) (own_of who s)
      ∙ ap (λ (o : Option Entry). counted (has_heard o) (gone_now p (own_calls h p ms) (own_of who s) (foreign_of who s))) found

  now : Now (half h p (at_texts s who) (at_texts s (other who)) (law_events ms)).said (half h p (at_texts s who) (at_texts s (other who)) (law_events ms)).heard
      (half h p (at_texts s who) (at_texts s (other who)) (law_events ms)).end (gone_now p (own_calls h p ms) (own_of who s) (foreign_of who s))
  now =
      now_at (half h p (at_texts s who) (at_texts s (other who)) (law_events ms)).said (half h p (at_texts s who) (at_texts s (other who)) (law_events ms)).heard law.kept (half h p (at_texts s who) (at_texts s (other who)) (law_events ms)).end
      (gone_now p (own_calls h p ms) (own_of who s) (foreign_of who s)) e.partner_closed law.balanced
      (law.same (side_stays h p (at_texts s who) (at_texts s (other who)) (law_events ms) ∙ stays_same h p (events_of ms) ∙ stays))
      (ap (λ (x : End). x.taken) end_is.0 ∙ (let live : is_past (standing e) ≡ false = end_is.1 in rw live refl)) counted_here

  pub partner_here : (t : ℕ) → e.partner ≡ Some t → Asks (gone_now p (own_calls h p ms) (own_of who s) (foreign_of who s)) (origin_in (crossings_of ms) h p t) (half h p (at_texts s who) (at_texts s (other who)) (law_events ms)).heard
  partner_here t partner =
      now.partner (origin_in (crossings_of ms) h p t) (ap (λ (x : End). x.partner) end_is.0 ∙ (let live : is_past (standing e) ≡ false = end_is.1 in rw (live, partner) refl))

  unasked_here : e.asked ≡ None → (n : ℕ) → Asks (gone_now p (own_calls h p ms) (own_of who s) (foreign_of who s)) n (half h p (at_texts s who) (at_texts s (other who)) (law_events ms)).said → ⊥
  unasked_here none = now.unasked (ap (λ (x : End). x.asked) end_is.0 ∙ (let live : is_past (standing e) ≡ false = end_is.1 in rw live none))

-- ---- both hosts

module _ (hosts : Network) (ms : List Moment) (l : Lawful hosts ms) (a b : Host) (ours : AreOurs hosts a b)
    (s : Sockets) (q : IsPair s) where
  pub joined_halves : Joined (half a b (at_texts s Receiver) (at_texts s Sender) (law_events ms)) (half b a (at_texts s Sender) (at_texts s Receiver) (law_events ms))
  joined_halves =
      subst (λ (x : Side). Joined x (half b a (at_texts s Sender) (at_texts s Receiver) (law_events ms))) (receiver_half s a b (law_events ms))
      (subst (λ (y : Side). Joined (receiver s (steps a b (law_events ms))) y) (sender_half s a b (law_events ms)) (law_joined hosts ms l a b ours s))

  -- the receiver heard the request that one of its ends has
  pub heard_there : Counts a b ms → stay.stays a b (events_of ms) ≡ true → (f : Entry) → entry_at s.receive s.send (pair_with b (program a ms).peers).entries ≡ Some f → (t : ℕ) → f.partner ≡ Some t
      → Asks (gone_now b (own_calls a b ms) s.receive s.send) (origin_in (crossings_of ms) a b t) (half a b (at_texts s Receiver) (at_texts s Sender) (law_events ms)).heard
  heard_there counts stays f found t partner =
      let c : Coupled hosts ms = coupled_in hosts ms l in
      let j : Joined (half a b (at_texts s Receiver) (at_texts s Sender) (law_events ms)) (half b a (at_texts s Sender) (at_texts s Receiver) (law_events ms)) = joined_halves in
      partner_here hosts ms l s q Receiver a b ours counts stays
      (((all_tied hosts (origin_in (crossings_of ms)) ms (are_origins 0 (crossings_of ms) [] ms refl) c.story c.run (served_in hosts ms l.2)).tied a b ours).receiver s q)
      (half b a (at_texts s Sender) (at_texts s Receiver) (law_events ms)) j.floor j.other j.here f found t partner

  -- and the sender hasn't said that of an end which has none
  pub unsaid_there : Counts b a ms → stay.stays b a (events_of ms) ≡ true → (e : Entry) → entry_at s.send s.receive (pair_with a (program b ms).peers).entries ≡ Some e → e.asked ≡ None
      → (n : ℕ) → Asks (gone_now a (own_calls b a ms) s.send s.receive) n (half b a (at_texts s Sender) (at_texts s Receiver) (law_events ms)).said → ⊥
  unsaid_there counts stays e found none =
      let c : Coupled hosts ms = coupled_in hosts ms l in
      let j : Joined (half a b (at_texts s Receiver) (at_texts s Sender) (law_events ms)) (half b a (at_texts s Sender) (at_texts s Receiver) (law_events ms)) = joined_halves in
      unasked_here hosts ms l s q Sender b a (ours.1, ours.0) counts stays
      (((all_tied hosts (origin_in (crossings_of ms)) ms (are_origins 0 (crossings_of ms) [] ms refl) c.story c.run (served_in hosts ms l.2)).tied a b ours).sender s q)
      (half a b (at_texts s Receiver) (at_texts s Sender) (law_events ms)) j.other j.floor j.there e found none

  pub heard_now : Counts b a ms → stay.stays b a (events_of ms) ≡ true → (e : Entry) → entry_at s.send s.receive (pair_with a (program b ms).peers).entries ≡ Some e → (t : ℕ) → e.partner ≡ Some t
      → Heard a b ms s.receive s.send t (gone_now a (own_calls b a ms) s.send s.receive)
  heard_now counts stays e found t partner =
      let c : Coupled hosts ms = coupled_in hosts ms l in
      let j : Joined (half a b (at_texts s Receiver) (at_texts s Sender) (law_events ms)) (half b a (at_texts s Sender) (at_texts s Receiver) (law_events ms)) = joined_halves in
      subst (λ (x : Side). Asks (gone_now a (own_calls b a ms) s.send s.receive) (origin_in (crossings_of ms) b a t) x.heard) (sym (sender_half s a b (law_events ms)))
      (partner_here hosts ms l s q Sender b a (ours.1, ours.0) counts stays
      (((all_tied hosts (origin_in (crossings_of ms)) ms (are_origins 0 (crossings_of ms) [] ms refl) c.story c.run (served_in hosts ms l.2)).tied a b ours).sender s q)
      (half a b (at_texts s Receiver) (at_texts s Sender) (law_events ms)) j.other j.floor j.there e found t partner)
