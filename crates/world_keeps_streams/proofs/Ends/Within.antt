-- What a life counts had crossed before it was over.
use Rattle.world_keeps_streams.proofs.Common.{◌≡◌, inl, inr, ℕ, zero, suc, ◌<◌, ◌≤◌, ◌==◌, Bool, true, false, if◌then◌else◌, List, [], ◌∷◌, length, Option, Some, None, refl, ap, sym, subst, ◌∙◌, arith, same_flow-true, Seen, Host, Flow, Crossing, orders_of, Called, Fate, Kept, IsLawful, Asked, Crossed, Moment, places, program, contacts_of, crossings_of, WorldState, kept_fated, places_same, HasOpenEnd, Network, AreOurs, all_ours, Contains, lives_among, in_book, end_link, CountNothingLater, CountsBefore, among_all, linked_end}
use Rattle.promise.specs.Ends.{Cause, Going, Over, Stage, each, heard, said, Course}
use Rattle.promise.specs.Fates.{IsBeside, AreFated, is_over}
use Rattle.promise.specs.Formed.{text_of, texts_on, data_in, first_data, flow_of, joined, link_of}
use Rattle.promise.specs.Safe.{control_flow, before, receives}
use Rattle.interface.specs.Mailboxes.{same_flow}
use Rattle.interface.specs.declared.crossing.Crossing.TheVariants as crossing
use Rattle.net_sim.specs.Told.{kept_in}
use Rattle.promise.specs.declared.life.Life.{Life}
use Rattle.world_keeps_lives.proofs.lemmas.{texts_same}
use Rattle.world_keeps_streams.proofs.Books.Firsts.{formed, together}
use Rattle.world_keeps_streams.proofs.Books.Placed.{before_end, before_later, link_later}
use Rattle.world_keeps_streams.proofs.Books.Unasked.{own_below, partner_below}
use Rattle.world_keeps_streams.proofs.Ends.Courses.{course_in, course_key, course_same, key_named, key_of}
use Rattle.world_keeps_streams.proofs.Ends.Fits.{begun_now, fits_now, over_stage}
use Rattle.world_keeps_streams.proofs.Ends.Halves.{over_here, over_stays}
use Rattle.world_keeps_streams.proofs.Ends.Kinds.{end_of, stage_of}
use Rattle.world_keeps_streams.proofs.Lives.Fates.{Came, Moved, beside_of, beside_over, came}
use Rattle.world_keeps_streams.proofs.Lives.Lists.{IsOf, contains, is_of}
use Rattle.world_keeps_streams.proofs.Requests.Sides.{Lawful, below, book_lawful}
use Rattle.world_keeps_streams.proofs.Ours.{live, ours_of}
use Rattle.world_keeps_streams.proofs.Lives.Among.{among_now}

-- ---- what ends a life is no message of data

never : {A : Type 0} (s : Stage) (o p : Bool) (c : Cause) (n : ℕ) → s ≡ Going o p → s ≡ Over c n → A
never s o p c n goes over = absurd (let no : Going o p ≡ Over c n = sym goes ∙ over in cc)

off_control : (f g : Flow) (h p : Host) → (f.link.0 == 0) ≡ false → control_flow h p ≡ g → same_flow f g ≡ false
off_control f g h p off is = by (same_flow f g) refl where
  by : (v : Bool) → same_flow f g ≡ v → v ≡ false
  by false e = refl
  by true e =
      let on : (f.link.0 == 0) ≡ true = ap (λ (k : Flow). k.link.0 == 0) (same_flow-true f g e ∙ sym is) in
      absurd (let no : true ≡ false = sym on ∙ off in cc)

text_off : (f g : Flow) (text : List Bool) → same_flow f g ≡ false → (if same_flow f g then text ∷ [] else []) ≡ []
text_off f g text e = rw e refl

module _ (k : Life) (ms : List Moment) (o p : Bool) (cause : Cause) (n : ℕ) (was : stage_of k ms ≡ Going o p) where
  quiet : (c : Crossing) → stage_of k (Crossed c ∷ ms) ≡ Over cause n → (comes : Bool) (f : Flow)
      → (f.link.0 == 0) ≡ false → text_of comes f c ≡ []
  quiet (crossing.Out m) now true f off = refl
  quiet (crossing.Out m) now false f off = by (same_flow (control_flow k.host k.peer) m.flow) refl now where
    by : (v : Bool) → same_flow (control_flow k.host k.peer) m.flow ≡ v
        → (if v then each (said k (places ms)) (orders_of m.text) (course_in k ms) else course_in k ms).stage ≡ Over
        cause n → (if same_flow f m.flow then m.text ∷ [] else []) ≡ []
    by true e over =
        text_off f m.flow m.text (off_control f m.flow k.host k.peer off
        (same_flow-true (control_flow k.host k.peer) m.flow e))
    by false e over = never (stage_of k ms) o p cause n was over
  quiet (crossing.In m) now false f off = refl
  quiet (crossing.In m) now true f off = by (same_flow (control_flow k.peer k.host) m.flow) refl now where
    by : (v : Bool) → same_flow (control_flow k.peer k.host) m.flow ≡ v
        → (if v then each (heard k (places ms)) (orders_of m.text) (course_in k ms) else course_in k ms).stage ≡ Over
        cause n → (if same_flow f m.flow then m.text ∷ [] else []) ≡ []
    by true e over =
        text_off f m.flow m.text (off_control f m.flow k.peer k.host off
        (same_flow-true (control_flow k.peer k.host) m.flow e))
    by false e over = never (stage_of k ms) o p cause n was over
  quiet (crossing.Answer kind f) now true g off = refl
  quiet (crossing.Answer kind f) now false g off = refl
  quiet (crossing.Down h) now true f off = refl
  quiet (crossing.Down h) now false f off = refl
  quiet (crossing.Up h) now true f off = refl
  quiet (crossing.Up h) now false f off = refl

-- ---- what a life is made of, without the crossing that ended it

second : (a b : Cause) (m n : ℕ) → Over a m ≡ Over b n → m ≡ n
second a b m n e = cc

module _ (x : Life) (log : List Crossing) (c : Crossing) (n : ℕ) (own : x.own_stamp < length log)
    (partner : x.partner_stamp < length log) (link : link_of log x ≡ Some n)
    (none : text_of (receives x) (flow_of x n) c ≡ []) where
  pub texts_older : texts_on x (link_of (c ∷ log) x) (c ∷ log) ≡ texts_on x (link_of (c ∷ log) x) log
  texts_older =
      ap (λ (l : Option ℕ). texts_on x l (c ∷ log)) same
      ∙ texts_same (receives x) (flow_of x n) x.own_stamp x.partner_stamp c log none
      ∙ ap (λ (l : Option ℕ). texts_on x l log) (sym same) where
        same : link_of (c ∷ log) x ≡ Some n
        same = link_later (c ∷ []) log x own partner ∙ link

-- as many texts as a life counts are there
pub enough : (comes : Bool) (n : ℕ) (ts : List (List Bool)) (bits : List Bool) → first_data comes n ts ≡ Some bits
    → n ≤ length ts
enough comes zero ts bits e = omega arith
enough comes (suc n) [] bits e = absurd (let no : None ≡ Some bits = e in cc)
enough comes (suc n) (t ∷ ts) bits e =
    by (data_in comes t) (first_data comes n ts) refl e (λ rest f. enough comes n ts rest f) where
      by : (o p : Option (List Bool)) → first_data comes n ts ≡ p → joined o p ≡ Some bits
          → ((rest : List Bool) → first_data comes n ts ≡ Some rest → n ≤ length ts) → suc n ≤ length (t ∷ ts)
      by None p f h more = absurd (let no : None ≡ Some bits = h in cc)
      by (Some front) None f h more = absurd (let no : None ≡ Some bits = h in cc)
      by (Some front) (Some rest) f h more = let less : n ≤ length ts = more rest f in omega (arith, less)

-- its flow is of no control messages
flow_off : (x : Life) (k : ℕ) → (k == 0) ≡ false → ((flow_of x k).link.0 == 0) ≡ false
flow_off x k off = by (receives x) where
  to : Host → Host → Flow
  to a b = record { source = a; destination = b; link = record { 0 = k } }

  by : (v : Bool) → ((if v then to x.peer x.host else to x.host x.peer).link.0 == 0) ≡ false
  by true = off
  by false = off

-- ---- at all moments

-- as many messages as it counts had crossed at this place, which is one of this log
abbrev IsDone : ℕ → List Crossing → Life → Type 0
IsDone n log x = (n ≤ length log) × CountsBefore log n x

done_more : (n : ℕ) (y : Moment) (ms : List Moment) (x : Life) → x.own_stamp < length (crossings_of ms)
    → x.partner_stamp < length (crossings_of ms) → IsDone n (crossings_of ms) x → IsDone n (crossings_of (y ∷ ms)) x
done_more n (Crossed c) ms x own partner h = (
  (let less : n ≤ length (crossings_of ms) = h.0 in omega (arith, less)),
  subst (λ (l : Option ℕ). x.messages ≤ length (texts_on x l (before n (c ∷ crossings_of ms))))
      (sym (link_later (c ∷ []) (crossings_of ms) x own partner))
      (subst (λ (log : List Crossing). x.messages ≤ length (texts_on x (link_of (crossings_of ms) x) log))
      (sym (before_later (c ∷ []) (crossings_of ms) n h.0)) h.1),
)
done_more n (Asked g r) ms x own partner h = h

done_here : (n : ℕ) (y : Moment) (ms : List Moment) (x : Life) → n ≡ places ms
    → x.messages ≤ length (texts_on x (link_of (crossings_of (y ∷ ms)) x) (crossings_of ms))
    → IsDone n (crossings_of (y ∷ ms)) x
done_here n y ms x at h = (
  by y,
  subst (λ (log : List Crossing). x.messages
      ≤ length (texts_on x (link_of (crossings_of (y ∷ ms)) x) log)) (sym (older y)) h,
) where
  is : n ≡ length (crossings_of ms)
  is = at ∙ places_same ms

  by : (z : Moment) → n ≤ length (crossings_of (z ∷ ms))
  by (Crossed c) = omega (arith, is)
  by (Asked g r) = omega (arith, is)

  older : (z : Moment) → before n (crossings_of (z ∷ ms)) ≡ crossings_of ms
  older (Crossed c) =
      ap (λ (k : ℕ). before k (c ∷ crossings_of ms)) is ∙ before_end (c ∷ []) (crossings_of ms)
  older (Asked g r) = ap (λ (k : ℕ). before k (crossings_of ms)) is ∙ before_end [] (crossings_of ms)

module _ (hosts : Network) where
  -- a life that continued, where it has just ended
  module _ (y : Moment) (ms : List Moment) (l : Lawful hosts (y ∷ ms)) (w : Life) (g : Fate) (ours : AreOurs hosts w.host w.peer)
      (there : IsBeside w g (kept_in ms).book.lives (kept_in ms).fates) (goes : is_over g ≡ false) (x : Life)
      (f : Fate) (i : IsBeside x f (kept_in (y ∷ ms)).book.lives (kept_in (y ∷ ms)).fates)
      (keys : key_of x ≡ key_of w) (c : Cause) (n : ℕ) (now : stage_of (key_of w) (y ∷ ms) ≡ Over c n) where
    old : Lawful hosts ms
    old = below hosts y ms l

    w_in : IsOf w (kept_in ms).book.lives
    w_in = beside_of (kept_in ms).book.lives (kept_in ms).fates w g there

    continues : w.ended ≡ false
    continues = beside_over (kept_in ms).book.lives (kept_in ms).fates w g (kept_fated ms) there ∙ goes

    open_end : HasOpenEnd (program w.host ms) w
    open_end =
        live hosts ms old.0 old.1 old.2 w ours.0 (contains w (kept_in ms).book.lives w_in) continues

    was : stage_of (key_of w) ms ≡ Going (end_of (key_of w) ms).gone (end_of (key_of w) ms).taken
    was = (fits_now hosts ms old w g ours there).both.1 goes

    abbrev on : (k : ℕ) × (open_end.end.link ≡ Some k) × ((k == 0) ≡ false)
    on = linked_end hosts (together hosts) ms old w (among_now hosts ms w ours (contains w (kept_in ms).book.lives w_in)) continues open_end

    link : link_of (crossings_of ms) x ≡ Some on.0
    link =
        ap (λ (k : Life). link_of (crossings_of ms) k) keys
        ∙ end_link hosts ms old (together hosts) w (among_now hosts ms w ours (contains w (kept_in ms).book.lives w_in)) continues open_end
        ∙ on.1

    own : x.own_stamp < length (crossings_of ms)
    own =
        let is : x.own_stamp ≡ w.own_stamp = ap (λ (k : Life). k.own_stamp) keys in
        let less : w.own_stamp < length (crossings_of ms) = own_below hosts ms old w ours w_in in
        omega (arith, is, less)

    partner : x.partner_stamp < length (crossings_of ms)
    partner =
        let is : x.partner_stamp ≡ w.partner_stamp = ap (λ (k : Life). k.partner_stamp) keys in
        let less : w.partner_stamp < length (crossings_of ms) = partner_below hosts ms old w ours w_in in
        omega (arith, is, less)

    all_there : x.messages ≤ length (texts_on x (link_of (crossings_of (y ∷ ms)) x) (crossings_of (y ∷ ms)))
    all_there =
        enough (receives x) x.messages (texts_on x (link_of (crossings_of (y ∷ ms)) x) (crossings_of (y ∷ ms))) x.bits
        (formed hosts (y ∷ ms) l x (among_now hosts (y ∷ ms) x (subst (λ (k : Life). AreOurs hosts k.host k.peer) (sym keys) ours) (contains x (kept_in (y ∷ ms)).book.lives
        (beside_of (kept_in (y ∷ ms)).book.lives (kept_in (y ∷ ms)).fates x f i)))).bits

    just_ended : IsDone n (crossings_of (y ∷ ms)) x
    just_ended = done_here n y ms x at (by y now all_there) where
      at : n ≡ places ms
      at = over_here (key_of w) y ms (end_of (key_of w) ms).gone (end_of (key_of w) ms).taken c n was now

      by : (z : Moment) → stage_of (key_of w) (z ∷ ms) ≡ Over c n
          → x.messages ≤ length (texts_on x (link_of (crossings_of (z ∷ ms)) x) (crossings_of (z ∷ ms)))
          → x.messages ≤ length (texts_on x (link_of (crossings_of (z ∷ ms)) x) (crossings_of ms))
      by (Crossed d) is h =
          subst (λ (ts : List (List Bool)). x.messages ≤ length ts)
          (texts_older x (crossings_of ms) d on.0 own partner link
          (quiet (key_of w) ms (end_of (key_of w) ms).gone (end_of (key_of w) ms).taken c n was d is (receives x)
          (flow_of x on.0) (flow_off x on.0 on.2))) h
      by (Asked g r) is h = h

  within_now : (ms : List Moment) → Lawful hosts ms → (x : Life) (f : Fate) → AreOurs hosts x.host x.peer
      → IsBeside x f (kept_in ms).book.lives (kept_in ms).fates → (c : Cause) (n : ℕ)
      → stage_of (key_of x) ms ≡ Over c n → IsDone n (crossings_of ms) x
  within_now [] l x f ours i c n now = absurd i
  within_now (y ∷ ms) l x f ours i c n now =
      by (came y ms x f i) (within_now ms (below hosts y ms l)) where
        continued : (w : Life) (g : Fate) → AreOurs hosts w.host w.peer
            → IsBeside w g (kept_in ms).book.lives (kept_in ms).fates
            → Moved y ms w g x f → ((c : Cause) (n : ℕ) → stage_of (key_of w) ms ≡ Over c n
            → IsDone n (crossings_of ms) w) → IsDone n (crossings_of (y ∷ ms)) x
        continued w g of_w there m before_it = of (is_over g) refl where
          keys : key_of x ≡ key_of w
          keys = key_named w x m.named

          over_now : stage_of (key_of w) (y ∷ ms) ≡ Over c n
          over_now = subst (λ (k : Life). stage_of k (y ∷ ms) ≡ Over c n) keys now

          of : (v : Bool) → is_over g ≡ v → IsDone n (crossings_of (y ∷ ms)) x
          of true over =
              let s : (d : Cause) × (k : ℕ) × (stage_of (key_of w) ms ≡ Over d k) =
              over_stage (stage_of (key_of w) ms) g over
              (fits_now hosts ms (below hosts y ms l) w g of_w there).both.0 in
              let same : x ≡ w =
              m.still (beside_over (kept_in ms).book.lives (kept_in ms).fates w g (kept_fated ms) there ∙ over) in
              let at : s.1 ≡ n =
              second s.0 c s.1 n (sym (over_stays (key_of w) y ms s.0 s.1 s.2) ∙ over_now) in
              let w_in : IsOf w (kept_in ms).book.lives =
              beside_of (kept_in ms).book.lives (kept_in ms).fates w g there in
              subst (λ (z : Life). IsDone n (crossings_of (y ∷ ms)) z) (sym same)
              (done_more n y ms w (own_below hosts ms (below hosts y ms l) w of_w w_in)
              (partner_below hosts ms (below hosts y ms l) w of_w w_in)
              (subst (λ (k : ℕ). IsDone k (crossings_of ms) w) at (before_it s.0 s.1 s.2)))
          of false goes = just_ended y ms l w g of_w there goes x f i keys c n over_now

        by : Came y ms x f
            → ((w : Life) (g : Fate) → AreOurs hosts w.host w.peer → IsBeside w g (kept_in ms).book.lives (kept_in ms).fates
            → (d : Cause) (k : ℕ) → stage_of (key_of w) ms ≡ Over d k → IsDone k (crossings_of ms) w)
            → IsDone n (crossings_of (y ∷ ms)) x
        by (inl o) before_it = (let of_w : AreOurs hosts o.0.host o.0.peer = ours_of hosts o.0 x.host x.peer ours (sym o.3.named.host, sym o.3.named.peer) in continued o.0 o.1 of_w o.2 o.3 (before_it o.0 o.1 of_w o.2))
        by (inr b) before_it =
            never (stage_of (key_of x) (y ∷ ms)) (end_of (key_of x) (y ∷ ms)).gone
            (end_of (key_of x) (y ∷ ms)).taken c n (begun_now hosts y ms l x f ours i b).1 now

-- ---- by crossings and contacts

-- each life has a fate beside it
fate_beside : (lives : List Life) (fates : List Fate) (x : Life) → AreFated lives fates → IsOf x lives
    → (f : Fate) × IsBeside x f lives fates
fate_beside [] fates x a i = absurd i
fate_beside (y ∷ lives) [] x a i = absurd a
fate_beside (y ∷ lives) (g ∷ fates) x a (inl e) = (g, inl (e, refl))
fate_beside (y ∷ lives) (g ∷ fates) x a (inr i) =
    let r : (f : Fate) × IsBeside x f lives fates = fate_beside lives fates x a.1 i in (r.0, inr r.1)

pub within : (hosts : Network) (ms : List Moment) → Lawful hosts ms
    → CountNothingLater (contacts_of ms) (crossings_of ms) (lives_among hosts.strange (kept_in ms).book.lives)
within hosts ms l x c n among over = (within_now hosts ms l x beside.0 there.1 beside.1 c n is).1 where
  there : Contains (kept_in ms).book.lives x × AreOurs hosts x.host x.peer
  there = in_book hosts (kept_in ms).book.lives x among

  beside : (f : Fate) × IsBeside x f (kept_in ms).book.lives (kept_in ms).fates
  beside =
      fate_beside (kept_in ms).book.lives (kept_in ms).fates x (kept_fated ms)
      (is_of x (kept_in ms).book.lives there.0)

  is : stage_of (key_of x) ms ≡ Over c n
  is =
      sym (ap (λ (k : Course). k.stage)
      (sym (course_key (contacts_of ms) x (crossings_of ms)) ∙ course_same (key_of x) ms)) ∙ over

-- where all hosts run the program, so it is of all lives
pub all_within : (hosts : List Host) (ms : List Moment) → Lawful (all_ours hosts) ms
    → CountNothingLater (contacts_of ms) (crossings_of ms) (kept_in ms).book.lives
all_within hosts ms l = subst (λ (ls : List Life). CountNothingLater (contacts_of ms) (crossings_of ms) ls) (among_all (kept_in ms).book.lives) (within (all_ours hosts) ms l)

pub world_within : {C : Type 0} (seen : C → Seen) (hosts : List Host) (w : WorldState C) → IsLawful seen hosts w
    → CountNothingLater w.kept.book.contacts w.kept.book.crossings w.kept.book.lives
world_within seen hosts w lawful =
    subst (λ (cs : List Called). CountNothingLater cs w.kept.book.crossings w.kept.book.lives)
    (sym lawful.whole.contacts)
    (subst (λ (log : List Crossing). CountNothingLater (contacts_of lawful.whole.moments) log w.kept.book.lives)
    (sym lawful.whole.crossings)
    (subst (λ (k : Kept). CountNothingLater (contacts_of lawful.whole.moments) (crossings_of lawful.whole.moments)
    k.book.lives) (sym lawful.whole.kept)
    (all_within hosts lawful.whole.moments (book_lawful seen hosts w lawful))))
