-- Each moment reports no openings at two sockets but those that the law says.
use Rattle.world_keeps_pairing.proofs.Common.{◌≡◌, ◌⊎◌, inl, inr, ℕ, Bool, true, false, if◌then◌else◌, List, [], ◌∷◌, refl, ap, sym, subst, ◌∙◌, Host, same_host, Flow, Answer, HostMessage, same_host-true, commands_of, accepted, offered, Request, answer_about, message_about, offer_about, IsRanged, AllFit, marks, AreAmong, all_lives_gone, all_lives_taken, with_openings, answer_other, offer_tells, End, mark_taken, Mark, placed_event, Sockets, Who, Event, pair, event_of, Moment, Crossed, Asked, IsNext, IsStory, event_in, events_of, places, program, host_in, notices_by, by_request, story_agrees, law_events, with_lives, keeps, mixed_kept, AreOurs, Network}
use Rattle.pairing_law.specs.Sides.{Side, hears, says, Life, lives_taken}
use Rattle.interface.specs.declared.crossing.Crossing.TheVariants as crossing
use Rattle.interface.specs.declared.crossing.Inbound.TheVariants as inbound
use Rattle.reset_law.specs.Stays as stay
use Rattle.world_keeps_pairing.proofs.Books.{about_none, about_other, about_peer, all_of_peer, asked_none, kept_step}
use Rattle.world_keeps_pairing.proofs.LinkRun.{heard_off_in}
use Rattle.world_keeps_pairing.proofs.Marks.{IsPair, foreign_of, own_of}
use Rattle.world_keeps_pairing.proofs.Moments.{Side_of, Tie, place_is, said_out, swap_off}
use Rattle.world_keeps_pairing.proofs.Programs.{Has, goes_marks, read_marks}
use Rattle.world_keeps_pairing.proofs.Sides.{all_hears, all_says, at_texts, before, hears_if, left_if, met_if}
use Rattle.world_keeps_pairing.proofs.Turns.{other, said_is, when_all}

-- ---- lives of a side

says_lives : (ms : List Mark) (x : Side) → (all_says ms x).lives ≡ all_lives_gone ms x.end x.lives
says_lives [] x = refl
says_lives (m ∷ ms) x = says_lives ms (says m x)

pub hears_lives : (ms : List Mark) (x : Side) → AllFit ms x.end → (all_hears ms x).lives ≡ all_lives_taken ms x.end x.lives
hears_lives [] x h = refl
hears_lives (m ∷ ms) x h =
    let end : (hears m x).end ≡ mark_taken m x.end = ap (λ (b : Bool). if b then mark_taken m x.end else x.end) h.0 in
    let lives : (hears m x).lives ≡ lives_taken m x.end x.lives = ap (λ (b : Bool). if b then lives_taken m x.end x.lives else x.lives) h.0 in
    hears_lives ms (hears m x) (subst (λ (e : End). AllFit ms e) (sym end) h.1)
    ∙ ap (λ (e : End). all_lives_taken ms e (hears m x).lives) end ∙ ap (λ (l : List Life). all_lives_taken ms (mark_taken m x.end) l) lives

pub hears_no_lives : (b : Bool) (x : Side) → (hears_if b [] x).lives ≡ x.lives
hears_no_lives true x = refl
hears_no_lives false x = refl

left_lives : (keep : Bool) (x : Side) → (left_if keep x).lives ≡ x.lives
left_lives true x = refl
left_lives false x = refl

met_lives : (begin : Bool) (x : Side) → (met_if begin x).lives ≡ x.lives
met_lives true x = refl
met_lives false x = refl

module _ (s : Sockets) (is_pair : IsPair s) (who : Who) (h p : Host) (origin : ℕ → ℕ) (hosts : Network) where
  -- the lives of the book at these two sockets
  abbrev pub Lives_of : List Moment → List Life
  Lives_of moments = with_lives origin h p (own_of who s) (foreign_of who s) (mixed_kept hosts.strange moments).book.lives []

  -- they are some of those that the law says
  abbrev pub Among : List Moment → Type 0
  Among moments = AreAmong (with_lives origin h p (own_of who s) (foreign_of who s) (mixed_kept hosts.strange moments).book.lives []) (Side_of s is_pair who h p origin moments).lives

  -- what is reported by a moment, added to older ones
  abbrev pub Now : Moment → List Moment → List Life
  Now x moments = all_of_peer origin h p (own_of who s) (foreign_of who s) (notices_by x moments) (with_lives origin h p (own_of who s) (foreign_of who s) (mixed_kept hosts.strange moments).book.lives [])

  -- what the law says by an event
  abbrev pub After : Event → List Moment → List Life
  After e moments =
      (hears_if (stay.stays h p (law_events moments)) (at_texts s (other who) (stay.heard_by p h 0 e)) (all_says (at_texts s who (stay.said_by h p 0 e)) (Side_of s is_pair who h p origin moments))).lives

  side_lives : (e : Event) (moments : List Moment) → (met_if (stay.begins h p e (law_events moments)) (before h p (at_texts s who) (at_texts s (other who)) e (law_events moments) (Side_of s is_pair who h p origin moments))).lives ≡ After e moments
  side_lives e moments =
      let y : Side = hears_if (stay.stays h p (law_events moments)) (at_texts s (other who) (stay.heard_by p h 0 e)) (all_says (at_texts s who (stay.said_by h p 0 e)) (Side_of s is_pair who h p origin moments)) in
      met_lives _ _ ∙ left_lives _ y

  module _ (ours : AreOurs hosts h p) where
    pub by_lives : (x : Moment) (moments : List Moment) (more : List Life) → After (placed_event (event_in x) (events_of moments)) moments ≡ more
        → AreAmong (if same_host h (host_in x) then Now x moments else Lives_of moments) more → Among (x ∷ moments)
    by_lives x moments more is k =
        subst (λ (l : List Life). AreAmong (with_lives origin h p (own_of who s) (foreign_of who s) (mixed_kept hosts.strange (x ∷ moments)).book.lives []) l) (sym (side_lives _ moments ∙ is))
        (subst (λ (l : List Life). AreAmong l more) (sym (kept_step origin h p (own_of who s) (foreign_of who s) hosts ours.0 x moments)) k)

    -- ---- moments by which nothing is said or heard

    quiet_lives : (e : Event) (moments : List Moment) → stay.said_by h p 0 e ≡ [] → stay.heard_by p h 0 e ≡ [] → After e moments ≡ (Side_of s is_pair who h p origin moments).lives
    quiet_lives e moments said heard =
        let b : Bool = stay.stays h p (law_events moments) in
        let x : Side = Side_of s is_pair who h p origin moments in
        ap (λ (ts : List (List Bool)). (hears_if b (at_texts s (other who) (stay.heard_by p h 0 e)) (all_says (at_texts s who ts) x)).lives) said
        ∙ ap (λ (ts : List (List Bool)). (hears_if b (at_texts s (other who) ts) x).lives) heard
        ∙ hears_no_lives b x

    same_if : (b : Bool) (now old lives : List Life) → (b ≡ true → now ≡ old) → AreAmong old lives → AreAmong (if b then now else old) lives
    same_if true now old lives same k = subst (λ (l : List Life). AreAmong l lives) (sym (same refl)) k
    same_if false now old lives same k = k

    quiet_among : (x : Moment) (moments : List Moment) → stay.said_by h p 0 (placed_event (event_in x) (events_of moments)) ≡ [] → stay.heard_by p h 0 (placed_event (event_in x) (events_of moments)) ≡ []
        → (same_host h (host_in x) ≡ true → Now x moments ≡ Lives_of moments) → Among moments → Among (x ∷ moments)
    quiet_among x moments said heard same k =
        by_lives x moments _ (quiet_lives _ moments said heard)
        (same_if _ _ _ _ same k)

    pub down_among : (g : Host) (moments : List Moment) → Among moments → Among (Crossed (crossing.Down g) ∷ moments)
    down_among g moments k = quiet_among (Crossed (crossing.Down g)) moments refl refl (λ e. refl) k

    pub up_among : (g : Host) (moments : List Moment) → Among moments → Among (Crossed (crossing.Up g) ∷ moments)
    up_among g moments k = quiet_among (Crossed (crossing.Up g)) moments refl refl (λ e. refl) k

    pub answer_among : (kind : Answer) (f : Flow) (moments : List Moment) → Among moments → Among (Crossed (crossing.Answer kind f) ∷ moments)
    answer_among kind f moments k =
        quiet_among (Crossed (crossing.Answer kind f)) moments refl refl
        (λ e. about_none origin h p (own_of who s) (foreign_of who s) f.destination (accepted (program f.source moments) (inbound.Answer kind f) (places moments)).1 (Lives_of moments)
        (answer_about _ kind f _) (answer_other origin (own_of who s) (foreign_of who s) _ kind f _ _)) k

    pub asked_among : (g : Host) (r : Request) (moments : List Moment) → Among moments → Among (Asked g r ∷ moments)
    asked_among g r moments k =
        quiet_among (Asked g r) moments
        (by_request (λ e. stay.said_by h p 0 (placed_event e (events_of moments)) ≡ []) g r (λ peer. refl) refl)
        (by_request (λ e. stay.heard_by p h 0 (placed_event e (events_of moments)) ≡ []) g r (λ peer. refl) refl)
        (λ e. asked_none origin h p (own_of who s) (foreign_of who s) (program g moments) r (Lives_of moments)) k

    -- ---- what goes out

    out_lives : (m : HostMessage) (moments : List Moment) → After (placed_event (event_of (crossing.Out m)) (events_of moments)) moments
        ≡ all_lives_gone (said_out s is_pair who h p origin m moments) (Side_of s is_pair who h p origin moments).end (Side_of s is_pair who h p origin moments).lives
    out_lives m moments =
        let e : Event = placed_event (event_of (crossing.Out m)) (events_of moments) in
        let x : Side = Side_of s is_pair who h p origin moments in
        hears_no_lives (stay.stays h p (law_events moments)) (all_says (at_texts s who (stay.said_by h p 0 (placed_event (event_of (crossing.Out m)) (events_of moments)))) (Side_of s is_pair who h p origin moments))
        ∙ says_lives (at_texts s who (stay.said_by h p 0 (placed_event (event_of (crossing.Out m)) (events_of moments)))) (Side_of s is_pair who h p origin moments)
        ∙ ap (λ (ms : List Mark). all_lives_gone ms (Side_of s is_pair who h p origin moments).end (Side_of s is_pair who h p origin moments).lives)
        (said_is s is_pair who h p _ _ _ _ m.text)

    out_told : (m : HostMessage) (moments : List Moment) → IsStory hosts moments → IsNext (program h moments) m → IsRanged (program h moments) → Tie s is_pair who h p origin moments → Among moments → same_host p m.flow.destination ≡ true
        → AreAmong (all_of_peer origin h p (own_of who s) (foreign_of who s) (offered (program h moments) (places moments)).1 (Lives_of moments))
        (all_lives_gone (read_marks (places moments) (own_of who s) (foreign_of who s) m.flow.link.0 m.text) (Side_of s is_pair who h p origin moments).end (Side_of s is_pair who h p origin moments).lives)
    out_told m moments story n ranged t k same =
        let to : same_host p n.peer.host ≡ true = ap (λ (y : HostMessage). same_host p y.flow.destination) (sym n.message) ∙ same in
        let there : Has origin (own_of who s) (foreign_of who s) n.peer.host (program h moments) (Side_of s is_pair who h p origin moments).end =
        subst (λ (y : Host). Has origin (own_of who s) (foreign_of who s) y (program h moments) (Side_of s is_pair who h p origin moments).end) (same_host-true p _ to) t in
        let tells : AreAmong (with_openings origin (own_of who s) (foreign_of who s) (offered (program h moments) (places moments)).1 (Lives_of moments))
        (all_lives_gone (marks (places moments) (own_of who s) (foreign_of who s) (commands_of n.peer.pair n.parcel)) (Side_of s is_pair who h p origin moments).end (Side_of s is_pair who h p origin moments).lives) =
        offer_tells origin (own_of who s) (foreign_of who s) _ _ n.peer _ _ _ _ n.order n.next there k in
        subst (λ (y : HostMessage). AreAmong (all_of_peer origin h p (own_of who s) (foreign_of who s) (offered (program h moments) (places moments)).1 (Lives_of moments))
        (all_lives_gone (read_marks (places moments) (own_of who s) (foreign_of who s) y.flow.link.0 y.text) (Side_of s is_pair who h p origin moments).end (Side_of s is_pair who h p origin moments).lives)) (sym n.message)
        (subst (λ (ms : List Mark). AreAmong (all_of_peer origin h p (own_of who s) (foreign_of who s) (offered (program h moments) (places moments)).1 (Lives_of moments))
        (all_lives_gone ms (Side_of s is_pair who h p origin moments).end (Side_of s is_pair who h p origin moments).lives))
        (goes_marks origin (own_of who s) (foreign_of who s) _ _ n.peer _ _ n.order n.next ranged (story_agrees hosts moments h _ (ours.0, subst (λ (y : Host). hosts.strange y ≡ false) (same_host-true p _ to) ours.1) story))
        (subst (λ (l : List Life). AreAmong l (all_lives_gone (marks (places moments) (own_of who s) (foreign_of who s) (commands_of n.peer.pair n.parcel)) (Side_of s is_pair who h p origin moments).end (Side_of s is_pair who h p origin moments).lives))
        (sym (about_peer origin h p (own_of who s) (foreign_of who s) _ _ _ (offer_about _ _ n.peer _ n.next) to)) tells))

    out_by : (b c : Bool) (ms : List Mark) (x : End) (now old lives : List Life) → (b ≡ true → c ≡ true → AreAmong now (all_lives_gone ms x lives)) → (b ≡ true → c ≡ false → now ≡ old) → AreAmong old lives
        → AreAmong (if b then now else old) (all_lives_gone (when_all b c ms) x lives)
    out_by true true ms x now old lives new same k = new refl refl
    out_by true false ms x now old lives new same k = subst (λ (l : List Life). AreAmong l lives) (sym (same refl refl)) k
    out_by false c ms x now old lives new same k = k

    pub out_among : (m : HostMessage) (moments : List Moment) → IsStory hosts (Crossed (crossing.Out m) ∷ moments) → IsRanged (program h moments) → Tie s is_pair who h p origin moments → Among moments → Among (Crossed (crossing.Out m) ∷ moments)
    out_among m moments story ranged t k =
        let x : Side = Side_of s is_pair who h p origin moments in
        by_lives (Crossed (crossing.Out m)) moments
        _
        (out_lives m moments
        ∙ ap (λ (n : ℕ). all_lives_gone (when_all (same_host h m.flow.source) (same_host p m.flow.destination) (read_marks n (own_of who s) (foreign_of who s) m.flow.link.0 m.text)) (Side_of s is_pair who h p origin moments).end (Side_of s is_pair who h p origin moments).lives) (place_is moments))
        (out_by _ _ (read_marks (places moments) (own_of who s) (foreign_of who s) m.flow.link.0 m.text) (Side_of s is_pair who h p origin moments).end
        _ _ _ new same k) where
          new : same_host h m.flow.source ≡ true → same_host p m.flow.destination ≡ true → AreAmong (Now (Crossed (crossing.Out m)) moments)
              (all_lives_gone (read_marks (places moments) (own_of who s) (foreign_of who s) m.flow.link.0 m.text) (Side_of s is_pair who h p origin moments).end (Side_of s is_pair who h p origin moments).lives)
          new e f =
              let is : h ≡ m.flow.source = same_host-true h _ e in
              subst (λ (y : Host). AreAmong (all_of_peer origin h p (own_of who s) (foreign_of who s) (offered (program y moments) (places moments)).1 (Lives_of moments))
              (all_lives_gone (read_marks (places moments) (own_of who s) (foreign_of who s) m.flow.link.0 m.text) (Side_of s is_pair who h p origin moments).end (Side_of s is_pair who h p origin moments).lives)) is
              (out_told m moments story.1 (subst (λ (y : Host). IsNext (program y moments) m) (sym is) (story.0 (subst (λ (y : Host). hosts.strange y ≡ false) is ours.0))) ranged t k f)

          same : same_host h m.flow.source ≡ true → same_host p m.flow.destination ≡ false → Now (Crossed (crossing.Out m)) moments ≡ Lives_of moments
          same e f =
              let n : IsNext (program m.flow.source moments) m = story.0 (subst (λ (y : Host). hosts.strange y ≡ false) (same_host-true h _ e) ours.0) in
              let away : same_host p n.peer.host ≡ false = ap (λ (y : HostMessage). same_host p y.flow.destination) (sym n.message) ∙ f in
              about_other origin h p (own_of who s) (foreign_of who s) _ _ _ (offer_about _ _ n.peer _ n.next) away

    -- ---- what comes in of others, or for others

    pub in_away_among : (m : HostMessage) (moments : List Moment) → ((same_host h m.flow.destination ≡ false) ⊎ (same_host p m.flow.source ≡ false)) → Among moments → Among (Crossed (crossing.In m) ∷ moments)
    in_away_among m moments away k =
        quiet_among (Crossed (crossing.In m)) moments refl
        (heard_off_in h p _ _ _ _
        (swap_off s is_pair who h p origin (same_host h m.flow.destination) _ away))
        (λ here. elim away [
          | inl not_here ↦ absurd (let both : true ≡ false = sym here ∙ not_here in cc)
          | inr not_there ↦
              about_other origin h p (own_of who s) (foreign_of who s) _ _ _
              (message_about _ m _) not_there
        ]) k
