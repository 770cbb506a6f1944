-- What the laws of lives say of hosts with programs is so of the book of a network, in which strangers report nothing.
use Rattle.mixed_worlds.proofs.Common.{◌≡◌, ℕ, ◌==◌, ◌&&◌, not, Bool, true, false, if◌then◌else◌, inl, inr, List, [], ◌∷◌, ◌++◌, length, Option, Some, None, refl, ap, sym, subst, ◌∙◌, Contains, Crossing, Fate, Flow, Host, IsBeside, ClosesWhole, AreFated, Kept, Life, Moment, program, HasOpenEnd, beside_among, contacts_among, is_among, lives_among, mixed_kept, crossings_of, contacts_of, kept_in, is_receive_socket, is_send_socket, AreOurs, Network, safe_messages, same_Some, EachWasSent, CountNothingLater, ArrivedAmong}
use Rattle.promise.specs.Safe.{Match, AreTwo, receives, sends, SafeBook, Source}
use Rattle.world_keeps_pairing.proofs.lemmas.{send_odd, in_book, served_in, two_in_book, two_left, two_right}
use Rattle.std.specs.Prelude.{option_map}
use Rattle.interface.specs.Mailboxes as mail
use Rattle.interface.specs.declared.crossing.Answer.TheVariants as answer
use Rattle.interface.specs.declared.crossing.Crossing.TheVariants as crossing
use Rattle.promise.specs.Arrived.{HasArrived, IsCounted}
use Rattle.promise.specs.Ends.{AreLeft, Going, Leaves, Over, Stage, stage}
use Rattle.promise.specs.Formed.{flow_of, link_of}
use Rattle.promise.specs.declared.life.Fate.TheVariants as fate
use Rattle.net_sim.proofs.lemmas.{Coupled, coupled, kept_fated}
use Rattle.net_sim.specs.Clean.{HaveAddresses}
use Rattle.net_sim.specs.Mixed.{Happened}
use Rattle.world_keeps_pairing.proofs.lemmas as pairing
use Rattle.world_keeps_lives.proofs.lemmas.{handed_among}
use Rattle.world_keeps_lives.proofs.lemmas.Laws as laws
use Rattle.world_keeps_streams.proofs.lemmas.{among_there, in_beside, took_all}
use Rattle.world_keeps_streams.specs.Laws as streams
use Rattle.mixed_worlds.specs.Arrived.{BetweenAmong}
use Rattle.world_keeps_streams.specs.Between.{IsBetween}
use Rattle.mixed_worlds.proofs.Contacts.{same_course, same_stage}
use Rattle.mixed_worlds.proofs.SameBooks.{same_fates, same_handed, same_lives}

-- ---- lists

fated_among : (strange : Host → Bool) (lives : List Life) (fates : List Fate) → AreFated lives fates
    → AreFated (lives_among strange lives) (beside_among strange lives fates)
fated_among strange [] fates f = f
fated_among strange (x ∷ lives) [] f = absurd f
fated_among strange (x ∷ lives) (a ∷ fates) f = by (is_among strange x) (fated_among strange lives fates f.1) where
  by : (b : Bool) → AreFated (lives_among strange lives) (beside_among strange lives fates)
      → AreFated (if b then x ∷ lives_among strange lives else lives_among strange lives) (if b then a ∷ beside_among strange lives fates else beside_among strange lives fates)
  by true rest = (f.0, rest)
  by false rest = rest

-- the hosts of a sending life on a flow
sends_from : (x : Life) (link : Option ℕ) (f : Flow) → sends x ≡ true → option_map (flow_of x) link ≡ Some f
    → (x.host ≡ f.source) × (x.peer ≡ f.destination)
sends_from x None f kind is = absurd (cc)
sends_from x (Some k) f kind is =
    let odd : receives x ≡ false = send_odd x.socket kind in
    let flow : record { source = x.host; destination = x.peer; link = record { 0 = k } } ≡ f =
    sym (ap (λ (b : Bool). let g : Flow = (if b then record { source = x.peer; destination = x.host; link = record { 0 = k } } else record { source = x.host; destination = x.peer; link = record { 0 = k } }) in g) odd)
    ∙ same_Some (flow_of x k) f is in
    (ap (λ (g : Flow). g.source) flow, ap (λ (g : Flow). g.destination) flow)

-- a life of two such hosts is in the network's book
listed : (hosts : Network) (moments : List Moment) (x : Life) → AreOurs hosts x.host x.peer
    → Contains (kept_in moments).book.lives x
    → Contains (lives_among hosts.strange (mixed_kept hosts.strange moments).book.lives) x
listed hosts moments x ours there =
    subst (λ (xs : List Life). Contains xs x) (same_lives hosts.strange moments)
    (among_there hosts x (kept_in moments).book.lives ours there)

module _ (law : streams.Among) (hosts : Network) (moments : List Moment) (addresses : HaveAddresses hosts.all)
    (run : mail.IsRun hosts.all (crossings_of moments)) (happen : Happened hosts moments) where
  abbrev strange : Host → Bool
  strange = hosts.strange

  abbrev log : List Crossing
  log = crossings_of moments

  abbrev lives : List Life
  lives = lives_among hosts.strange (mixed_kept hosts.strange moments).book.lives

  abbrev handed : List (List Bool)
  handed = beside_among hosts.strange (mixed_kept hosts.strange moments).book.lives (mixed_kept hosts.strange moments).handed

  abbrev fates : List Fate
  fates = beside_among hosts.strange (mixed_kept hosts.strange moments).book.lives (mixed_kept hosts.strange moments).fates

  abbrev all : streams.MayBe hosts moments
  all = (addresses, run, happen)

  -- a life among them is kept, with what is beside it
  kept : (x : Life) → Contains lives x → Contains (kept_in moments).book.lives x × AreOurs hosts x.host x.peer
  kept x there = in_book hosts (kept_in moments).book.lives x (subst (λ (xs : List Life). Contains xs x) (sym (same_lives hosts.strange moments)) there)

  kept_fate : (x : Life) (f : Fate) → IsBeside x f lives fates
      → IsBeside x f (kept_in moments).book.lives (kept_in moments).fates × AreOurs hosts x.host x.peer
  kept_fate x f i =
      in_beside hosts x f (kept_in moments).book.lives (kept_in moments).fates
      (subst (λ (xs : List Life). IsBeside x f xs (beside_among hosts.strange (kept_in moments).book.lives (kept_in moments).fates)) (sym (same_lives hosts.strange moments))
      (subst (λ (fs : List Fate). IsBeside x f lives fs) (sym (same_fates hosts.strange moments)) i))

  kept_text : (x : Life) (t : List Bool) → IsBeside x t lives handed
      → IsBeside x t (kept_in moments).book.lives (kept_in moments).handed
  kept_text x t i =
      (in_beside hosts x t (kept_in moments).book.lives (kept_in moments).handed
      (subst (λ (xs : List Life). IsBeside x t xs (beside_among hosts.strange (kept_in moments).book.lives (kept_in moments).handed)) (sym (same_lives hosts.strange moments))
      (subst (λ (ts : List (List Bool)). IsBeside x t lives ts) (sym (same_handed hosts.strange moments)) i))).0

  pub fated : AreFated lives fates
  fated =
      subst (λ (fs : List Fate). AreFated lives fs) (same_fates hosts.strange moments)
      (subst (λ (xs : List Life). AreFated xs (beside_among hosts.strange (kept_in moments).book.lives (kept_in moments).fates)) (same_lives hosts.strange moments)
      (fated_among hosts.strange (kept_in moments).book.lives (kept_in moments).fates (kept_fated moments)))

  -- where its sender is among them, too
  found : (x s : Life) → AreOurs hosts x.host x.peer → Source log (kept_in moments).book.lives x → Source log lives x
  found x s ours f = record {
    sender = f.sender;
    there = at_sender f.sender f.there f.matches;
    matches = f.matches;
    front = f.front;
  } where
    at_sender : (s : Life) → Contains (kept_in moments).book.lives s → Match log x s → Contains lives s
    at_sender s there m = listed hosts moments s (subst (λ (h : Host). hosts.strange h ≡ false) m.peers.0 ours.1, subst (λ (h : Host). hosts.strange h ≡ false) (sym m.peers.1) ours.0) there

  pub safe : SafeBook log lives handed
  safe = record {
    messages = safe_messages hosts.all log run;
    partners = pairing.safe_partners hosts moments c.story c.run run served lives (in_book hosts (mixed_kept hosts.strange moments).book.lives) (two_in_book hosts (mixed_kept hosts.strange moments).book.lives);
    streams = record {
      one = λ receiver x y there two m n.
          (let first : Contains (mixed_kept hosts.strange moments).book.lives x × AreOurs hosts x.host x.peer = in_book hosts (mixed_kept hosts.strange moments).book.lives x (two_left x y lives two) in
          let other : Contains (mixed_kept hosts.strange moments).book.lives y × AreOurs hosts y.host y.peer = in_book hosts (mixed_kept hosts.strange moments).book.lives y (two_right x y lives two) in
          pairing.life_alone hosts moments c.story c.run run served receiver x y first.1 other.1 (two_in_book hosts (mixed_kept hosts.strange moments).book.lives x y two) m n);
      source = λ receiver there kind some.
          (let k : Contains (kept_in moments).book.lives receiver × AreOurs hosts receiver.host receiver.peer = kept receiver there in
          found receiver receiver k.1 (law.source hosts moments all receiver k.1 k.0 kind some));
      sent = handed_among hosts.strange (mixed_kept hosts.strange moments).book.lives (mixed_kept hosts.strange moments).handed (laws.handed hosts moments addresses run happen);
    };
    grants = record {
      taken = λ receiver there kind.
          (let k : Contains (mixed_kept hosts.strange moments).book.lives receiver × AreOurs hosts receiver.host receiver.peer = in_book hosts (mixed_kept hosts.strange moments).book.lives receiver there in
          laws.taken hosts moments addresses run happen receiver k.1.0 k.0 kind);
      sent = λ receiver sender here there m.
          (let k : Contains (kept_in moments).book.lives receiver × AreOurs hosts receiver.host receiver.peer = kept receiver here in
          law.sent hosts moments all receiver sender k.1 k.0 (kept sender there).0 m);
    };
  } where
    c : Coupled hosts moments
    c = coupled hosts addresses moments run happen

    served : pairing.AreServed hosts moments
    served = served_in hosts moments happen

  pub whole : ClosesWhole log lives handed fates
  whole = record {
    took_sent = λ receiver sender ended there m.
        (let k : IsBeside receiver fate.Ended (kept_in moments).book.lives (kept_in moments).fates × AreOurs hosts receiver.host receiver.peer = kept_fate receiver fate.Ended ended in
        law.whole hosts moments all receiver sender k.1 k.0 (kept sender there).0 m);
    took_handed = λ receiver sender text ended there m.
        (let k : IsBeside receiver fate.Ended (kept_in moments).book.lives (kept_in moments).fates × AreOurs hosts receiver.host receiver.peer = kept_fate receiver fate.Ended ended in
        let w = law.ended hosts moments all receiver k.1 k.0 m.receiving in
        took_all hosts moments all receiver k.1 w.0 w.1 sender text (kept_text sender text there) there m);
  }

  pub over : AreLeft (contacts_among hosts.strange (contacts_of moments)) log lives fates
  over x f i =
      let k : IsBeside x f (kept_in moments).book.lives (kept_in moments).fates × AreOurs hosts x.host x.peer = kept_fate x f i in
      let left : AreLeft (contacts_of moments) log lives fates =
      subst (λ (fs : List Fate). AreLeft (contacts_of moments) log lives fs) (same_fates hosts.strange moments)
      (subst (λ (xs : List Life). AreLeft (contacts_of moments) log xs (beside_among hosts.strange (kept_in moments).book.lives (kept_in moments).fates)) (same_lives hosts.strange moments) (law.over hosts moments all)) in
      record {
        begins = ap (λ k. k.early) (same_course hosts x k.1 (contacts_of moments) log) ∙ (left x f i).begins;
        fate = subst (λ (s : Stage). Leaves s f) (sym (same_stage hosts x k.1 (contacts_of moments) log)) (left x f i).fate;
      }

  pub within : CountNothingLater (contacts_among hosts.strange (contacts_of moments)) log lives
  within x cause place there over =
      subst (λ (xs : List Life). CountNothingLater (contacts_of moments) log xs) (same_lives hosts.strange moments) (law.within hosts moments all) x cause place there
      (sym (same_stage hosts x (kept x there).1 (contacts_of moments) log) ∙ over)

  pub sent : EachWasSent log lives
  sent = subst (λ (xs : List Life). EachWasSent log xs) (same_lives hosts.strange moments) (law.was_sent hosts moments all)

  pub between : BetweenAmong hosts.strange log lives
  between place m crossed off source destination =
      subst (λ (xs : List Life). IsBetween log xs place m) (same_lives hosts.strange moments)
      (law.between hosts moments all place m crossed off (source, destination))

  pub arrived : ArrivedAmong hosts.strange (contacts_among hosts.strange (contacts_of moments)) log lives fates
  arrived = record {
    all = λ x i kind.
        (let k : IsBeside x fate.Open (kept_in moments).book.lives (kept_in moments).fates × AreOurs hosts x.host x.peer = kept_fate x fate.Open i in
        law.counts hosts moments (addresses, run, happen) x k.1 k.0 kind);
    closed = λ receiver sender own i going there m.
        (let k : IsBeside receiver fate.Open (kept_in moments).book.lives (kept_in moments).fates × AreOurs hosts receiver.host receiver.peer = kept_fate receiver fate.Open i in
        law.closed hosts moments (addresses, run, happen) receiver sender own k.1 k.0 (sym (same_stage hosts receiver k.1 (contacts_of moments) log) ∙ going) (kept sender there).0 m);
    answered = λ newer older f is off source destination. so older f (source, destination) (law.arrived hosts moments (addresses, run, happen) newer older f is off (source, destination));
  } where
    so : (older : List Crossing) (f : Flow) → AreOurs hosts f.source f.destination
        → HasArrived log older (kept_in moments).book.lives (kept_in moments).fates f
        → HasArrived log older lives fates f
    so older f ours h =
        let ends : (h.sender.host ≡ h.out.message.flow.source) × (h.sender.peer ≡ h.out.message.flow.destination) = sends_from h.sender (link_of log h.sender) h.out.message.flow h.sending h.sent.flow in
        let flow : h.out.message.flow ≡ f = h.out.flow in
        record {
          out = h.out;
          sender = h.sender;
          there = listed hosts moments h.sender (
            subst (λ (g : Host). hosts.strange g ≡ false) (sym (ends.0 ∙ ap (λ (g : Flow). g.source) flow)) ours.0,
            subst (λ (g : Host). hosts.strange g ≡ false) (sym (ends.1 ∙ ap (λ (g : Flow). g.destination) flow)) ours.1,
          ) h.there;
          sending = h.sending;
          sent = h.sent;
          place = h.place;
          after = h.after;
          taken = h.taken;
          arrived = λ receiver i m. h.arrived receiver (kept_fate receiver fate.Open i).0 m;
        }
