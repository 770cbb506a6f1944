-- A moment in which no stay begins keeps two programs beside two streams of a link; and so they are at all lawful moments.
use Rattle.world_keeps_streams.proofs.Common.{◌≡◌, ℕ, ◌==◌, Bool, true, false, if◌then◌else◌, List, [], ◌∷◌, ◌++◌, refl, ap, sym, subst, ◌∙◌, eqb-true, Host, HostMessage, Command, Stream, opening_stream, IsRanged, AreAllowed, IsTelling, gone_now, numbered, name_of, numbered_tells, Joint, NotTaken, Party, Steps, begins_either, carry, pair_with, Request, HaveAddresses, event_by, message_on, Moment, Crossed, Asked, IsStory, event_in, events_of, program, crossings_of, Coupled, by_request, coupled, mail_below, programs_ranged, served_in, calls_by, own_calls, AreOurs, Network, Happened}
use Rattle.reset_law.specs.Boxes.{Fetch, posted, boxes, Box, Empty, fetched}
use Rattle.reset_law.specs.Events.{Event, Message, Other, Out, are, place, when}
use Rattle.interface.specs.Mailboxes as mail
use Rattle.interface.specs.declared.crossing.Crossing.TheVariants as crossing
use Rattle.reset_law.specs.Runs.{IsRun}
use Rattle.reset_law.specs.Stays as stay
use Rattle.world_keeps_streams.proofs.Steps.ActsAnswer.{act_answer, act_up}
use Rattle.world_keeps_streams.proofs.Steps.ActsAsked.{act_asked, act_down}
use Rattle.world_keeps_streams.proofs.Steps.ActsIn.{act_in}
use Rattle.world_keeps_streams.proofs.Steps.ActsOut.{FindsNone, act_out}
use Rattle.world_keeps_streams.proofs.Steps.GoesOut.{box_is_free}
use Rattle.world_keeps_streams.proofs.Steps.Held.{Acted, Held, side}
use Rattle.world_keeps_streams.proofs.Steps.Joined.{Joined, commands_in, party, post_in, numbered_by_peer, turned_tells}
use Rattle.world_keeps_streams.proofs.Steps.Joining.{Goes, Mirrors, both_act, old_held}
use Rattle.world_keeps_streams.proofs.Calls.MayCalls.{MayCalls}
use Rattle.world_keeps_streams.proofs.Stays.Resets.{out_alone, stays_out}

-- what a user asks for leaves all boxes
box_still : (h p g : Host) (r : Request) (events : List Event) → boxes h p (event_by g r ∷ events) ≡ boxes h p events
box_still h p g r events = by_request (λ e. boxes h p (e ∷ events) ≡ boxes h p events) g r (λ peer. refl) refl

-- nothing is taken from an empty box
fetched_if : (v : Bool) (z w : Box) → (v ≡ true → z ≡ w) → w ≡ Empty → (if v then fetched z else w) ≡ Empty
fetched_if true z w same e = ap fetched (same refl ∙ e)
fetched_if false z w same e = e

fetched_free : (t : Bool) (here k : ℕ) (Y : ℕ → Box) (l : ℕ) → Y l ≡ Empty → posted here (when t (Fetch k)) Y l ≡ Empty
fetched_free true here k Y l e = fetched_if (l == k) (Y k) (Y l) (λ f. ap Y (sym (eqb-true l k f))) e
fetched_free false here k Y l e = e

-- what is asked of a message that goes out
abbrev pub OfOut : Moment → Type 0 → Type 0
OfOut (Crossed (crossing.Out m)) P = P
OfOut x P = Unit {0}

-- where the request of a host hasn't gone out before, its peer hasn't taken it: `ns` is up to which moment the peer's ends are seen
abbrev pub Untaken : (ℕ → ℕ → ℕ → ℕ) → (ℕ → ℕ → ℕ → ℕ) → Host → Host → List Moment → List Moment → Type 0
Untaken number other h p moments ns =
    stay.stays h p (events_of moments) ≡ true → stay.stays p h (events_of ns) ≡ true
    → NotTaken (name_of number (gone_now p (own_calls h p moments))) (name_of other (gone_now h (own_calls p h ns))) (pair_with p (program h moments).peers).entries (pair_with h (program p ns).peers).entries

pub record Finds (link : ℕ) (a b : Host) (x : Moment) (moments : List Moment) : Type 0 where
  pub first : OfOut x (Untaken numbered numbered_by_peer a b moments moments)
  pub second : (stay.stays a b (events_of (x ∷ moments)) ≡ true → AreAllowed numbered b link (own_calls a b (x ∷ moments))) → OfOut x (Untaken numbered_by_peer numbered b a moments (x ∷ moments))

-- what goes out finds that its requests weren't taken before
abbrev pub AllFind : ℕ → Network → Host → Host → Type 0
AllFind link hosts a b =
    (x : Moment) (moments : List Moment) → mail.IsRun hosts.all (crossings_of (x ∷ moments)) → Happened hosts (x ∷ moments) → stay.begins a b (event_in x) (events_of moments) ≡ false → Joined a b link moments
    → Finds link a b x moments

abbrev pub NotIn : Moment → Type 0
NotIn (Crossed (crossing.In m)) = ⊥
NotIn x = Unit {0}

-- who says something outside of a stay does it with a peer that isn't in one
abbrev AloneFor : Host → Host → Bool → Moment → List Moment → Type 0
AloneFor h p stays (Crossed (crossing.Out m)) moments =
    are h p m.flow.source m.flow.destination ≡ true → (text : List Bool) → message_on m.flow.link.0 m.text ≡ Other text → stay.stays h p (events_of moments) ≡ false → stays ≡ false
AloneFor h p stays x moments = Unit {0}

-- ---- one host's half of a moment in which nothing is taken

module _ (number other : ℕ → ℕ → ℕ → ℕ) (tells : IsTelling number) (others : IsTelling other) (link : ℕ) (off : (link == 0) ≡ false) (steps : Steps number other tells others link) (hosts : Network) (h p : Host) (ours : AreOurs hosts h p) (moments : List Moment) (rest : List Command) (b : Party) (x y : Stream)
    (held : Held number other tells others link h p moments (commands_in (boxes h p (events_of moments) 0)) rest (post_in (boxes h p (events_of moments) link)) b x y)
    (ranged : IsRanged (program h moments)) (story : IsStory hosts moments) (run : IsRun hosts (events_of moments)) where
  half : (m : Moment) → NotIn m → IsStory hosts (m ∷ moments) → IsRun hosts (events_of (m ∷ moments)) → AloneFor h p b.stays m moments → stay.begins h p (event_in m) (events_of moments) ≡ false → OfOut m (FindsNone number other h p moments b)
      → MayCalls (calls_by h p m moments)
      → Acted number other tells others link h p (m ∷ moments) (commands_in (boxes h p (events_of (m ∷ moments)) 0)) (post_in (boxes h p (events_of (m ∷ moments)) link)) b x y
  half (Crossed (crossing.Out m)) other_kind now law alone old none may =
      act_out number other tells others link off steps hosts h p ours moments rest b x y held m now law ranged alone old none (λ k s. may)
  half (Crossed (crossing.In m)) other_kind now law alone old none may = absurd other_kind
  half (Crossed (crossing.Answer kind f)) other_kind now law alone old none may =
      act_answer number other tells others link off steps hosts h p ours moments rest b x y held kind f now law old
  half (Crossed (crossing.Down g)) other_kind now law alone old none may =
      act_down number other tells others link steps h p moments (commands_in (boxes h p (events_of moments) 0)) rest (post_in (boxes h p (events_of moments) link)) b x y held g old
  half (Crossed (crossing.Up g)) other_kind now law alone old none may = act_up number other tells others link off steps hosts h p ours moments rest b x y held g old
  half (Asked g r) other_kind now law alone old none may =
      subst (λ (Z : ℕ → Box). Acted number other tells others link h p (Asked g r ∷ moments) (commands_in (Z 0)) (post_in (Z link)) b x y) (sym (box_still h p g r (events_of moments)))
      (act_asked number other tells others link steps h p moments (commands_in (boxes h p (events_of moments) 0)) rest (post_in (boxes h p (events_of moments) link)) b x y held g r old
      (λ s free. ap post_in (box_is_free hosts h p ours moments run story s link free)) (λ k s. may))

-- ---- both

out_run : (hosts : Network) (h p : Host) (m : HostMessage) (events : List Event) (text : List Bool) → are h p m.flow.source m.flow.destination ≡ true → message_on m.flow.link.0 m.text ≡ Other text
    → IsRun hosts (Out m.flow.source m.flow.destination m.flow.link.0 (message_on m.flow.link.0 m.text) ∷ events) → IsRun hosts (Out h p m.flow.link.0 (Other text) ∷ events)
out_run hosts h p m events text same is run =
    carry (λ i j. IsRun hosts (Out i j m.flow.link.0 (Other text) ∷ events)) h p m.flow.source m.flow.destination same
    (subst (λ (n : Message). IsRun hosts (Out m.flow.source m.flow.destination m.flow.link.0 n ∷ events)) is run)

alone_first : (hosts : Network) (a b : Host) → AreOurs hosts a b → (x : Moment) (moments : List Moment) → IsRun hosts (events_of (x ∷ moments)) → AloneFor a b (stay.stays b a (events_of moments)) x moments
alone_first hosts a b ours (Crossed (crossing.Out m)) moments run = λ same text is left. out_alone hosts a b ours m.flow.link.0 text (events_of moments) (out_run hosts a b m (events_of moments) text same is run) left
alone_first hosts a b ours (Crossed c) moments run = tt
alone_first hosts a b ours (Asked g r) moments run = tt

alone_second : (hosts : Network) (a b : Host) → AreOurs hosts a b → (x : Moment) (moments : List Moment) → IsRun hosts (events_of (x ∷ moments)) → stay.begins a b (event_in x) (events_of moments) ≡ false → AloneFor b a (stay.stays a b (events_of (x ∷ moments))) x moments
alone_second hosts a b ours (Crossed (crossing.Out m)) moments run old = λ same text is left.
    stays_out a b (event_in (Crossed (crossing.Out m))) (events_of moments) (out_alone hosts b a (ours.1, ours.0) m.flow.link.0 text (events_of moments) (out_run hosts b a m (events_of moments) text same is run) left) old
alone_second hosts a b ours (Crossed c) moments run old = tt
alone_second hosts a b ours (Asked g r) moments run old = tt

module _ (link : ℕ) (off : (link == 0) ≡ false) (steps : Steps numbered numbered_by_peer numbered_tells turned_tells link) (back : Steps numbered_by_peer numbered turned_tells numbered_tells link) (mirrors : Mirrors link) (hosts : Network) (a b : Host) (ours : AreOurs hosts a b) where
  module _ (moments : List Moment) (ranged : (h : Host) → hosts.strange h ≡ false → IsRanged (program h moments)) (story : IsStory hosts moments) (run : IsRun hosts (events_of moments)) (old : Joined a b link moments) where
    own_goes : (x : Moment) → NotIn x → IsStory hosts (x ∷ moments) → IsRun hosts (events_of (x ∷ moments)) → ((h p : Host) → AreOurs hosts h p → MayCalls (calls_by h p x moments)) → stay.begins a b (event_in x) (events_of moments) ≡ false → Finds link a b x moments → Goes a b link x moments old
    own_goes x other_kind now law may none finds =
        both_act link mirrors a b x moments old (boxes a b (events_of (x ∷ moments))) (boxes b a (events_of moments))
        (half numbered numbered_by_peer numbered_tells turned_tells link off steps hosts a b ours moments old.rest_a (party b a link old.rest_b moments) old.x old.y (old_held link mirrors a b x moments old (boxes a b (events_of (x ∷ moments))) (boxes b a (events_of moments)))
        (ranged a ours.0) story run x other_kind now law (alone_first hosts a b ours x moments law) none finds.first (may a b ours))
        (λ rest first second held allowed. half numbered_by_peer numbered turned_tells numbered_tells link off back hosts b a (ours.1, ours.0) moments old.rest_b
        (side a b (x ∷ moments) (commands_in (boxes a b (events_of (x ∷ moments)) 0) ++ rest) (post_in (boxes a b (events_of (x ∷ moments)) link))) second first held
        (ranged b ours.1) story run x other_kind now law (alone_second hosts a b ours x moments law none) (sym (begins_either a b (event_in x) (events_of moments)) ∙ none) (finds.second allowed) (may b a (ours.1, ours.0)))

    in_goes : (m : HostMessage) → IsStory hosts (Crossed (crossing.In m) ∷ moments) → IsRun hosts (events_of (Crossed (crossing.In m) ∷ moments)) → ((h p : Host) → AreOurs hosts h p → MayCalls (calls_by h p (Crossed (crossing.In m)) moments))
        → stay.begins a b (event_in (Crossed (crossing.In m))) (events_of moments) ≡ false → Goes a b link (Crossed (crossing.In m)) moments old
    in_goes m now law may none =
        both_act link mirrors a b (Crossed (crossing.In m)) moments old (boxes a b (events_of moments)) (boxes b a (events_of (Crossed (crossing.In m) ∷ moments)))
        (act_in numbered numbered_by_peer numbered_tells turned_tells link off steps hosts a b ours moments (commands_in (boxes a b (events_of moments) 0)) old.rest_a (post_in (boxes a b (events_of moments) link)) (party b a link old.rest_b moments) old.rest_b old.x old.y
        (old_held link mirrors a b (Crossed (crossing.In m)) moments old (boxes a b (events_of moments)) (boxes b a (events_of (Crossed (crossing.In m) ∷ moments)))) m now law
        (λ s free. ap post_in (box_is_free hosts a b ours moments run story s link free)) none (λ k s. may a b ours))
        (λ rest first second held allowed. act_in numbered_by_peer numbered turned_tells numbered_tells link off back hosts b a (ours.1, ours.0) moments (commands_in (boxes b a (events_of (Crossed (crossing.In m) ∷ moments)) 0)) old.rest_b
        (post_in (boxes b a (events_of (Crossed (crossing.In m) ∷ moments)) link))
        (side a b (Crossed (crossing.In m) ∷ moments) (commands_in (boxes a b (events_of moments) 0) ++ rest) (post_in (boxes a b (events_of moments) link))) rest second first held m now law
        (λ s free. ap post_in (fetched_free (are b a m.flow.source m.flow.destination) (place (events_of moments)) m.flow.link.0 (boxes b a (events_of moments)) link (box_is_free hosts b a (ours.1, ours.0) moments run story s link free)))
        (sym (begins_either a b (event_in (Crossed (crossing.In m))) (events_of moments)) ∙ none) (λ k s. may b a (ours.1, ours.0)))

    -- a moment in which no stay begins
    pub goes : (x : Moment) → IsStory hosts (x ∷ moments) → IsRun hosts (events_of (x ∷ moments)) → ((h p : Host) → AreOurs hosts h p → MayCalls (calls_by h p x moments)) → stay.begins a b (event_in x) (events_of moments) ≡ false → Finds link a b x moments → Goes a b link x moments old
    goes (Crossed (crossing.In m)) now law may none finds = in_goes m now law may none
    goes (Crossed c) now law may none finds = own_goes (Crossed c) tt now law may none finds
    goes (Asked g r) now law may none finds = own_goes (Asked g r) tt now law may none finds

  -- ---- all lawful moments

  abbrev pub CallsMay : Type 0
  CallsMay = (x : Moment) (moments : List Moment) → mail.IsRun hosts.all (crossings_of (x ∷ moments)) → Happened hosts (x ∷ moments) → (h p : Host) → AreOurs hosts h p → MayCalls (calls_by h p x moments)

  abbrev pub HaveMet : Type 0
  HaveMet = (x : Moment) (moments : List Moment) → mail.IsRun hosts.all (crossings_of (x ∷ moments)) → Happened hosts (x ∷ moments) → stay.begins a b (event_in x) (events_of moments) ≡ true → Joined a b link (x ∷ moments)

  -- one more
  pub next_goes : HaveAddresses hosts.all → CallsMay → AllFind link hosts a b → (x : Moment) (moments : List Moment) → mail.IsRun hosts.all (crossings_of (x ∷ moments)) → Happened hosts (x ∷ moments) → (old : Joined a b link moments) → stay.begins a b (event_in x) (events_of moments) ≡ false
      → Goes a b link x moments old
  next_goes addresses may finds x moments run time old none =
      let below : mail.IsRun hosts.all (crossings_of moments) = mail_below hosts.all x moments run in
      let now : Coupled hosts (x ∷ moments) = coupled hosts addresses (x ∷ moments) run time in
      let before : Coupled hosts moments = coupled hosts addresses moments below time.1 in
      goes moments (programs_ranged hosts moments (served_in hosts moments time.1)) before.story before.run old x now.story now.run (may x moments run time) none (finds x moments run time none old)

  pub joined : HaveAddresses hosts.all → CallsMay → AllFind link hosts a b → HaveMet → Joint numbered numbered_by_peer numbered_tells turned_tells link opening_stream opening_stream (party a b link [] []) (party b a link [] [])
      → (moments : List Moment) → mail.IsRun hosts.all (crossings_of moments) → Happened hosts moments → Joined a b link moments
  joined addresses may finds met start [] run time = record {
    x = opening_stream;
    y = opening_stream;
    rest_a = [];
    rest_b = [];
    joint = start;
    queue_a = λ s. refl;
    queue_b = λ s. refl;
    received_a = λ s. refl;
    sent_a = λ s. refl;
    received_b = λ s. refl;
    sent_b = λ s. refl;
    allowed_a = λ s. tt;
    allowed_b = λ s. tt;
  }
  joined addresses may finds met start (x ∷ moments) run time = by (stay.begins a b (event_in x) (events_of moments)) refl (joined addresses may finds met start moments (mail_below hosts.all x moments run) time.1) where
    by : (t : Bool) → stay.begins a b (event_in x) (events_of moments) ≡ t → Joined a b link moments → Joined a b link (x ∷ moments)
    by true e old = met x moments run time e
    by false e old = (next_goes addresses may finds x moments run time old e).joined
