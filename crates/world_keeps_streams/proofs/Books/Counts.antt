-- How many CLS a host has said and heard of a connection, by the end that it has of it.
use Rattle.world_keeps_streams.proofs.Common.{◌≡◌, ℕ, ◌+◌, ◌≤◌, ◌&&◌, Bool, true, false, List, refl, ap, ◌∙◌, arith, Host, is_sent, Entry, end_of, is_past, standing, End, Sockets, Who, Side, pair_with, Moment, events_of, program, crossings_of, law_events, origin_in, Network}
use Rattle.pairing_law.specs.Marks.{Mark, closes}
use Rattle.pairing_law.proofs.lemmas.{Half, count, stays_same}
use Rattle.world_keeps_pairing.proofs.lemmas.{Tie, at_texts, foreign_of, half, other, own_of, IsPair}
use Rattle.reset_law.specs.Stays as stay
use Rattle.world_keeps_streams.proofs.Deeds.Effects.{Among}
use Rattle.world_keeps_streams.proofs.Lives.Left.{entry_end}
use Rattle.world_keeps_streams.proofs.Requests.Now.{side_stays}
use Rattle.world_keeps_streams.proofs.Requests.Sides.{Lawful}

-- ---- one host

abbrev pub side_of : Sockets → Who → Host → Host → List Moment → Side
side_of s who h p ms = half h p (at_texts s who) (at_texts s (other who)) (law_events ms)

-- as many as there were connections before this one, and one more where the end has said its own, or heard its partner's
pub record Counted (own partners : List Mark) (sent taken : Bool) : Type 0 where
  pub now : ℕ
  pub said : closes own ≡ now + count sent
  pub heard : closes partners ≡ now + count taken
  pub live : (sent && taken) ≡ false

counted_at : (floor above : ℕ) (x y : Side) (end : End) → Half floor above x y → x.stays ≡ true → x.end ≡ end
    → (end.gone && end.taken) ≡ false → Counted x.said x.heard end.gone end.taken
counted_at floor above x y end law stays is live =
    let same : law.kept ≡ end = law.same stays ∙ is in
    record {
      now = law.balanced.now;
      said = law.balanced.said ∙ ap (λ (e : End). law.balanced.now + count e.gone) same;
      heard = law.balanced.heard ∙ ap (λ (e : End). law.balanced.now + count e.taken) same;
      live = live;
    }

module _ (hosts : Network) (ms : List Moment) (l : Lawful hosts ms) (s : Sockets) (q : IsPair s)
    (who : Who) (h p : Host) where
  abbrev end_now : Entry → End
  end_now e = end_of (origin_in (crossings_of ms) h p) (standing e)

  pub counted : Tie s q who h p (origin_in (crossings_of ms) h p) ms → (floor above : ℕ) (there : Side)
      → Half floor above (side_of s who h p ms) there
      → stay.stays h p (events_of ms) ≡ true → (e : Entry)
      → Among e (pair_with p (program h ms).peers).entries → e.own ≡ own_of who s → e.foreign ≡ foreign_of who s
      → Counted (side_of s who h p ms).said (side_of s who h p ms).heard
      (is_sent e.closing) e.partner_closed
  counted tie floor above there law stays e among own foreign = record {
    now = k.now;
    said = k.said ∙ ap (λ (v : Bool). k.now + count v) gone_is;
    heard = k.heard ∙ ap (λ (v : Bool). k.now + count v) taken_is;
    live = is.1;
  } where
    is : ((side_of s who h p ms).end ≡ end_of (origin_in (crossings_of ms) h p) (standing e)) × (is_past (standing e) ≡ false)
    is = entry_end s q who h p (origin_in (crossings_of ms) h p) ms tie e among own foreign

    gone_is : (end_now e).gone ≡ is_sent e.closing
    gone_is = let live : is_past (standing e) ≡ false = is.1 in rw live refl

    taken_is : (end_now e).taken ≡ e.partner_closed
    taken_is = let live : is_past (standing e) ≡ false = is.1 in rw live refl

    stay_is : (side_of s who h p ms).stays ≡ true
    stay_is = side_stays h p (at_texts s who) (at_texts s (other who)) (law_events ms) ∙ stays_same h p (events_of ms) ∙ stays

    live : ((end_now e).gone && (end_now e).taken) ≡ false
    live = ap (λ (v : Bool). v && (end_now e).taken) gone_is ∙ ap (λ (v : Bool). is_sent e.closing && v) taken_is ∙ is.1

    k : Counted (side_of s who h p ms).said (side_of s who h p ms).heard (end_now e).gone (end_now e).taken
    k = counted_at floor above (side_of s who h p ms) there (end_now e) law stay_is is.0 live

-- ---- both hosts

-- who has heard one more than it has said has a peer that has said one more than it has heard
pub bounds : (m n : ℕ) (v w : Bool) → m + 1 ≤ n + count v → n + count w ≤ m → (v ≡ true) × (w ≡ false)
bounds m n true true up down = absurd (omega (arith, up, down))
bounds m n true false up down = (refl, refl)
bounds m n false true up down = absurd (omega (arith, up, down))
bounds m n false false up down = absurd (omega (arith, up, down))
