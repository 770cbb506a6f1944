-- Where two hosts meet: what each did by itself is the law's beginning of both streams.
use Rattle.world_keeps_streams.proofs.Common.{◌≡◌, ℕ, ◌==◌, Bool, true, false, List, [], ◌++◌, refl, ap, sym, subst, ◌∙◌, Host, Command, opening_stream, ends_now, gone_now, numbered, numbered_tells, Free, Joint, Party, Post, Steps, all_steps, mirror, opened, boxes, pair_with, Moment, events_of, program, own_calls}
use Rattle.reset_law.specs.Boxes as reset
use Rattle.reset_law.specs.Stays as stay
use Rattle.world_keeps_streams.proofs.Steps.Joined.{Joined, commands_in, party, post_in, numbered_by_peer, turned_tells}
use Rattle.world_keeps_streams.proofs.Stays.Quiet.{IsSolo, Reached, reach, solo_allowed}

-- what a host is where it meets its peer: its calls were such as it makes by itself, and nothing of it is outstanding
pub record Alone (a b : Host) (link : ℕ) (moments : List Moment) : Type 0 where
  pub stays : stay.stays a b (events_of moments) ≡ true
  pub solo : IsSolo b (own_calls a b moments) (pair_with b (program a moments).peers).queue
  pub ends : ends_now b (own_calls a b moments) ≡ (pair_with b (program a moments).peers).entries
  pub control : commands_in (boxes a b (events_of moments) 0) ≡ []
  pub free : boxes a b (events_of moments) link ≡ reset.Empty

module _ (link : ℕ) (off : (link == 0) ≡ false) where
  steps : Steps numbered numbered_by_peer numbered_tells turned_tells link
  steps = all_steps numbered numbered_by_peer numbered_tells turned_tells (λ own foreign g. refl) link off

  back : Steps numbered_by_peer numbered turned_tells numbered_tells link
  back = all_steps numbered_by_peer numbered turned_tells numbered_tells (λ own foreign g. refl) link off

  abbrev queue_of : Host → Host → List Moment → List Command
  queue_of a b moments = (pair_with b (program a moments).peers).queue

  abbrev made : Host → Host → List Moment → Party
  made a b moments = record { stays = true; gone = gone_now b (own_calls a b moments); entries = ends_now b (own_calls a b moments); pending = queue_of a b moments; post = Free }

  as_party : (a b : Host) (moments : List Moment) → Alone a b link moments → made a b moments ≡ party a b link (queue_of a b moments) moments
  as_party a b moments h = by true _ [] _ Free _ (sym h.stays) h.ends (sym h.control) (sym (ap post_in h.free)) where
    by : (s t : Bool) (cs ds : List Command) (p q : Post) → s ≡ t → ends_now b (own_calls a b moments) ≡ (pair_with b (program a moments).peers).entries → cs ≡ ds → p ≡ q
        → (let first : Party = record { stays = s; gone = gone_now b (own_calls a b moments); entries = ends_now b (own_calls a b moments); pending = cs ++ queue_of a b moments; post = p } in first)
        ≡ record { stays = t; gone = gone_now b (own_calls a b moments); entries = (pair_with b (program a moments).peers).entries; pending = ds ++ queue_of a b moments; post = q }
    by s t cs ds p q e f g i = rw (e, f, g, i) refl

  abbrev nothing : Host → Party
  nothing peer = record { stays = true; gone = gone_now peer []; entries = ends_now peer []; pending = []; post = Free }

  -- what the first did by itself, beside a peer that had done nothing
  abbrev First : Host → Host → List Moment → Type 0
  First a b moments = Reached numbered numbered_by_peer numbered_tells turned_tells link steps b (own_calls a b moments) (queue_of a b moments) opening_stream opening_stream (nothing a)

  -- and then the other, beside it
  abbrev Second : (a b : Host) (moments : List Moment) → First a b moments → Type 0
  Second a b moments r = Reached numbered_by_peer numbered turned_tells numbered_tells link back a (own_calls b a moments) (queue_of b a moments) r.y r.x (made a b moments)

  both : (a b : Host) (moments : List Moment) → Alone a b link moments → Alone b a link moments → (r : First a b moments) → Second a b moments r → Joined a b link moments
  both a b moments h k r t = record {
    x = t.y;
    y = t.x;
    rest_a = queue_of a b moments;
    rest_b = queue_of b a moments;
    joint = subst (λ (p : Party). Joint numbered numbered_by_peer numbered_tells turned_tells link t.y t.x p (party b a link (queue_of b a moments) moments)) (as_party a b moments h)
        (subst (λ (p : Party). Joint numbered numbered_by_peer numbered_tells turned_tells link t.y t.x (made a b moments) p) (as_party b a moments k)
        (mirror numbered_by_peer numbered turned_tells numbered_tells link t.x t.y _ _ t.joint));
    queue_a = λ s. refl;
    queue_b = λ s. refl;
    received_a = λ s. (t.receiver ∙ r.received);
    sent_a = λ s. (t.sender ∙ r.sent);
    received_b = λ s. t.received;
    sent_b = λ s. t.sent;
    allowed_a = λ s. solo_allowed numbered b link (own_calls a b moments) (queue_of a b moments) h.solo;
    allowed_b = λ s. solo_allowed numbered_by_peer a link (own_calls b a moments) (queue_of b a moments) k.solo;
  }

  first : (a b : Host) (moments : List Moment) → Alone a b link moments → First a b moments
  first a b moments h =
      reach numbered numbered_by_peer numbered_tells turned_tells link steps b opening_stream opening_stream (nothing a) _ _ h.solo
      (opened numbered numbered_by_peer numbered_tells turned_tells link (nothing b) (nothing a) refl refl refl refl (λ own foreign. refl) (λ own foreign. refl) refl refl) refl refl

  second : (a b : Host) (moments : List Moment) → Alone b a link moments → (r : First a b moments) → Second a b moments r
  second a b moments k r =
      reach numbered_by_peer numbered turned_tells numbered_tells link back a r.y r.x (made a b moments) _ _ k.solo
      (mirror numbered numbered_by_peer numbered_tells turned_tells link r.x r.y _ _ r.joint) r.receiver r.sender

  pub met : (a b : Host) (moments : List Moment) → Alone a b link moments → Alone b a link moments → Joined a b link moments
  met a b moments h k = both a b moments h k (first a b moments h) (second a b moments k (first a b moments h))
