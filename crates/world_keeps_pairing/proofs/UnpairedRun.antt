-- At all moments no program has an end of two sockets that both receive or both send, and none was reported to be open.
use Rattle.world_keeps_pairing.proofs.Common.{◌≡◌, ℕ, ◌==◌, Bool, true, false, if◌then◌else◌, List, [], ◌∷◌, None, refl, ap, sym, subst, ◌∙◌, Host, same_host, Flow, Answer, HostMessage, same_host-refl, same_host-true, commands_of, Order, orders_of, PairState, link_for, text_for, is_ready, accepted, NcpState, opening_state, pair_with, refusal, served, offered, Request, answer_about, message_about, offer_about, IsRanged, HasEnd, AreJoint, after_request, AreAmong, all_lives_gone, all_lives_taken, with_openings, answer_other, data_told, idle_other, message_tells, offer_tells, opening_has, request_keeps, rrp_other, rst_other, End, nothing, Mark, Message, Reset, Reply, Other, pair, IsApart, message_on, Moment, Crossed, Asked, IsNext, IsStory, events_of, places, program, host_in, notices_by, program_own, story_agrees, TakesFreeAt, with_lives, mixed_kept, AreOurs, Network}
use Rattle.host_keeps_pairing.specs.Words.{AllFit, all_gone, marks, marks_in, all_taken}
use Rattle.interface.specs.declared.crossing.Crossing.TheVariants as crossing
use Rattle.interface.specs.declared.crossing.Inbound.TheVariants as inbound
use Rattle.sockets.specs.declared.request.Request.TheVariants as request
use Rattle.host_keeps_pairing.specs.Ends as ends
use Rattle.pairing_law.specs.Sides.{Life}
use Rattle.world_keeps_pairing.proofs.Books.{about_none, about_other, about_peer, all_of_peer, asked_none, kept_step}
use Rattle.world_keeps_pairing.proofs.Programs.{AnRrp, AnRst, AText, Has, Sort, after_text, answer_has, goes_marks, in_has, in_leaves, out_has, plain_joint, read_marks, sort_of}

-- no end stays none
kept_nothing : (q : PairState) → ends.kept_in q nothing ≡ nothing
kept_nothing q = by (is_ready q.phase) where
  by : (b : Bool) → (if b then nothing else nothing) ≡ nothing
  by true = refl
  by false = refl

asked_nothing : (p : Host) (r : Request) → after_request p r nothing ≡ nothing
asked_nothing p (request.Contact peer) = by (same_host p peer) where
  by : (b : Bool) → (if b then nothing else nothing) ≡ nothing
  by true = refl
  by false = refl
asked_nothing p r = refl

gone_nothing : (b : Bool) (ms : List Mark) → (b ≡ true → ms ≡ []) → all_gone (if b then ms else []) nothing ≡ nothing
gone_nothing true ms e = ap (λ (l : List Mark). all_gone l nothing) (e refl)
gone_nothing false ms e = refl

module _ (origin : ℕ → ℕ) (own foreign : ℕ) (hosts : Network) where
  -- a message of such sockets
  text_nothing : (place : ℕ) (b : Bool) (n : Message) (orders : List Order) → marks_in place foreign own orders ≡ [] → after_text origin own foreign place b n orders nothing ≡ nothing
  text_nothing place b Reset orders e = refl
  text_nothing place b Reply orders e = refl
  text_nothing place true (Other text) orders e = ap (λ (l : List Mark). all_taken l nothing) e
  text_nothing place false (Other text) orders e = refl

  module _ (h p : Host) where
    abbrev Lives_at : List Moment → List Life
    Lives_at moments = with_lives origin h p own foreign (mixed_kept hosts.strange moments).book.lives []

    -- its program has no end, and it reported no opening
    abbrev pub IsBare : List Moment → Type 0
    IsBare moments = Has origin own foreign p (program h moments) nothing × AreAmong (with_lives origin h p own foreign (mixed_kept hosts.strange moments).book.lives []) []

    abbrev Now : Moment → List Moment → List Life
    Now x moments = all_of_peer origin h p own foreign (notices_by x moments) (with_lives origin h p own foreign (mixed_kept hosts.strange moments).book.lives [])

    if_has : (b : Bool) (t old : NcpState) → (b ≡ true → Has origin own foreign p t nothing) → Has origin own foreign p old nothing → Has origin own foreign p (if b then t else old) nothing
    if_has true t old k h = k refl
    if_has false t old k h = h

    if_told : (b : Bool) (now old : List Life) → (b ≡ true → AreAmong now []) → AreAmong old [] → AreAmong (if b then now else old) []
    if_told true now old k h = k refl
    if_told false now old k h = h

    module _ (ours : AreOurs hosts h p) where
      next : (x : Moment) (moments : List Moment) → Has origin own foreign p (program h (x ∷ moments)) nothing → (same_host h (host_in x) ≡ true → AreAmong (Now x moments) []) → IsBare moments → IsBare (x ∷ moments)
      next x moments end told k =
          (end, subst (λ (l : List Life). AreAmong l []) (sym (kept_step origin h p own foreign hosts ours.0 x moments)) (if_told _ _ _ told k.1))

      pub down_bare : (g : Host) (moments : List Moment) → IsBare moments → IsBare (Crossed (crossing.Down g) ∷ moments)
      down_bare g moments k =
          next (Crossed (crossing.Down g)) moments (if_has (same_host h g) _ _ (λ e. opening_has origin own foreign h p) k.0) (λ e. k.1) k

      pub up_bare : (g : Host) (moments : List Moment) → IsBare moments → IsBare (Crossed (crossing.Up g) ∷ moments)
      up_bare g moments k =
          next (Crossed (crossing.Up g)) moments (if_has (same_host h g) _ _ (λ e. opening_has origin own foreign h p) k.0) (λ e. k.1) k

      pub answer_bare : (kind : Answer) (f : Flow) (moments : List Moment) → IsBare moments → IsBare (Crossed (crossing.Answer kind f) ∷ moments)
      answer_bare kind f moments k =
          let t : NcpState = (accepted (program h moments) (inbound.Answer kind f) (places moments)).0 in
          next (Crossed (crossing.Answer kind f)) moments
          (if_has _ _ _
          (λ e. subst (λ (x : End). HasEnd origin own foreign (pair_with p t.peers) x) (kept_nothing (pair_with p t.peers))
          (answer_has origin own foreign _ kind f _ p nothing k.0 _ refl)) k.0)
          (λ e. subst (λ (l : List Life). AreAmong l []) (sym (about_none origin h p own foreign _ _ _
          (answer_about _ kind f _) (answer_other origin own foreign _ kind f _ _))) k.1) k

      pub asked_bare : (g : Host) (r : Request) (moments : List Moment) → (same_host h g ≡ true → refusal (program h moments) r ≡ None) → IsBare moments → IsBare (Asked g r ∷ moments)
      asked_bare g r moments ok k =
          next (Asked g r) moments
          (if_has _ _ _
          (λ e. subst (λ (x : End). Has origin own foreign p (served (program h moments) r) x) (asked_nothing p r) (request_keeps origin own foreign _ r p nothing (ok e) k.0)) k.0)
          (λ e. subst (λ (l : List Life). AreAmong l []) (sym (asked_none origin h p own foreign _ r _)) k.1) k

      -- ---- what goes out

      out_has_none : (m : HostMessage) (moments : List Moment) → IsStory hosts moments → IsNext (program h moments) m → IsRanged (program h moments) → (same_host p m.flow.destination ≡ true → read_marks (places moments) own foreign m.flow.link.0 m.text ≡ []) → IsBare moments
          → Has origin own foreign p (offered (program h moments) (places moments)).0 nothing
      out_has_none m moments story n ranged silent k =
          let none : same_host p n.peer.host ≡ true → read_marks (places moments) own foreign (link_for n.parcel) (text_for n.peer.pair n.parcel) ≡ [] =
          subst (λ (y : HostMessage). same_host p y.flow.destination ≡ true → read_marks (places moments) own foreign y.flow.link.0 y.text ≡ []) n.message silent in
          subst (λ (x : End). Has origin own foreign p (offered (program h moments) (places moments)).0 x)
          (gone_nothing _ _ none)
          (out_has origin own foreign _ _ n.peer _ _ p nothing n.order n.next ranged (λ to. story_agrees hosts moments h n.peer.host (ours.0, subst (λ (y : Host). hosts.strange y ≡ false) (same_host-true p _ to) ours.1) story) k.0 _ refl)

      out_tells_none : (m : HostMessage) (moments : List Moment) → IsStory hosts moments → (n : IsNext (program h moments) m) → IsRanged (program h moments) → (same_host p m.flow.destination ≡ true → read_marks (places moments) own foreign m.flow.link.0 m.text ≡ []) → IsBare moments
          → (c : Bool) → same_host p n.peer.host ≡ c → AreAmong (all_of_peer origin h p own foreign (offered (program h moments) (places moments)).1 (Lives_at moments)) []
      out_tells_none m moments story n ranged silent k true e =
          let is : p ≡ n.peer.host = same_host-true p _ e in
          let none : same_host p n.peer.host ≡ true → read_marks (places moments) own foreign (link_for n.parcel) (text_for n.peer.pair n.parcel) ≡ [] =
          subst (λ (y : HostMessage). same_host p y.flow.destination ≡ true → read_marks (places moments) own foreign y.flow.link.0 y.text ≡ []) n.message silent in
          let mute : marks (places moments) own foreign (commands_of n.peer.pair n.parcel) ≡ [] =
          goes_marks origin own foreign _ _ n.peer _ _ n.order n.next ranged (story_agrees hosts moments h _ (ours.0, subst (λ (y : Host). hosts.strange y ≡ false) is ours.1) story) ∙ none e in
          subst (λ (l : List Life). AreAmong l []) (sym (about_peer origin h p own foreign _ _ _ (offer_about _ _ n.peer _ n.next) e))
          (subst (λ (ms : List Mark). AreAmong (with_openings origin own foreign (offered (program h moments) (places moments)).1 (Lives_at moments)) (all_lives_gone ms nothing [])) mute
          (offer_tells origin own foreign _ _ n.peer _ nothing _ [] n.order n.next (subst (λ (y : Host). Has origin own foreign y (program h moments) nothing) is k.0) k.1))
      out_tells_none m moments story n ranged silent k false e =
          subst (λ (l : List Life). AreAmong l []) (sym (about_other origin h p own foreign _ _ _ (offer_about _ _ n.peer _ n.next) e)) k.1

      pub out_bare : (m : HostMessage) (moments : List Moment) → IsStory hosts (Crossed (crossing.Out m) ∷ moments) → IsRanged (program h moments) → (same_host h m.flow.source ≡ true → same_host p m.flow.destination ≡ true → read_marks (places moments) own foreign m.flow.link.0 m.text ≡ []) → IsBare moments → IsBare (Crossed (crossing.Out m) ∷ moments)
      out_bare m moments story ranged silent k =
          next (Crossed (crossing.Out m)) moments
          (if_has _ _ _ (λ e. out_has_none m moments story.1 (next_here e) ranged (silent e) k) k.0)
          (λ e. subst (λ (y : Host). AreAmong (all_of_peer origin h p own foreign (offered (program y moments) (places moments)).1 (Lives_at moments)) []) (same_host-true h _ e)
          (out_tells_none m moments story.1 (next_here e) ranged (silent e) k _ refl)) k where
            next_here : same_host h m.flow.source ≡ true → IsNext (program h moments) m
            next_here e = subst (λ (y : Host). IsNext (program y moments) m) (sym (same_host-true h _ e)) (story.0 (subst (λ (y : Host). hosts.strange y ≡ false) (same_host-true h _ e) ours.0))

      -- ---- what comes in

      in_other : (m : HostMessage) (moments : List Moment) → same_host p m.flow.source ≡ false → IsBare moments → IsBare (Crossed (crossing.In m) ∷ moments)
      in_other m moments away k =
          next (Crossed (crossing.In m)) moments
          (if_has _ _ _
          (λ e. in_leaves origin own foreign (program h moments) m (places moments) p nothing away k.0) k.0)
          (λ e. subst (λ (l : List Life). AreAmong l []) (sym (about_other origin h p own foreign _ _ _
          (message_about _ m _) away)) k.1) k

      in_elsewhere : (m : HostMessage) (moments : List Moment) → same_host h m.flow.destination ≡ false → IsBare moments → IsBare (Crossed (crossing.In m) ∷ moments)
      in_elsewhere m moments away k =
          next (Crossed (crossing.In m)) moments
          (if_has _ _ _ (λ e. absurd (let no_way : true ≡ false = sym e ∙ away in cc)) k.0)
          (λ e. absurd (let no_way : true ≡ false = sym e ∙ away in cc)) k

  module _ (m : HostMessage) (moments : List Moment) (ours : AreOurs hosts m.flow.source m.flow.destination) (story : IsStory hosts (Crossed (crossing.In m) ∷ moments)) (free : TakesFreeAt hosts (Crossed (crossing.In m)) moments) (silent : read_marks (origin (places moments)) foreign own m.flow.link.0 m.text ≡ [])
      (k : IsBare m.flow.destination m.flow.source moments) where
    abbrev old : List Life
    old = Lives_at m.flow.destination m.flow.source moments

    own_is : same_host (program m.flow.destination moments).own m.flow.destination ≡ true
    own_is = ap (λ (y : Host). same_host y m.flow.destination) (program_own _ moments) ∙ same_host-refl m.flow.destination

    joint : message_on m.flow.link.0 m.text ≡ Other m.text → (m.flow.link.0 == 0) ≡ true → AreJoint (orders_of m.text)
    joint is zero = plain_joint _ (subst (λ (n : Message). IsApart m.flow.link.0 m.text n) is (story.0 ours) zero)

    mute : (m.flow.link.0 == 0) ≡ true → marks_in (origin (places moments)) foreign own (orders_of m.text) ≡ []
    mute zero = subst (λ (b : Bool). (if b then marks_in (origin (places moments)) foreign own (orders_of m.text) else []) ≡ []) zero silent

    end_now : (z : Bool) → (m.flow.link.0 == 0) ≡ z → Has origin own foreign m.flow.source (accepted (program m.flow.destination moments) (inbound.Message m) (places moments)).0 nothing
    end_now z e =
        subst (λ (x : End). Has origin own foreign m.flow.source (accepted (program m.flow.destination moments) (inbound.Message m) (places moments)).0 x) (none z e)
        (in_has origin own foreign _ m _ nothing own_is (story.0 ours)
        (λ ready zero j. (free ours ready zero, subst (λ (ms : List Mark). AllFit ms nothing) (sym (mute zero)) tt)) k.0 z e) where
          none : (z : Bool) → (m.flow.link.0 == 0) ≡ z
              → (if z then after_text origin own foreign (origin (places moments)) (is_ready (pair_with m.flow.source (program m.flow.destination moments).peers).phase) (message_on m.flow.link.0 m.text) (orders_of m.text) nothing else nothing) ≡ nothing
          none true zero = text_nothing (origin (places moments)) (is_ready (pair_with m.flow.source (program m.flow.destination moments).peers).phase) (message_on m.flow.link.0 m.text) _ (mute zero)
          none false zero = refl

    abbrev Told : Type 0
    Told = AreAmong (with_openings origin own foreign (accepted (program m.flow.destination moments) (inbound.Message m) (places moments)).1 (Lives_at m.flow.destination m.flow.source moments)) []

    as_told : with_openings origin own foreign (accepted (program m.flow.destination moments) (inbound.Message m) (places moments)).1 (Lives_at m.flow.destination m.flow.source moments) ≡ Lives_at m.flow.destination m.flow.source moments → Told
    as_told none = subst (λ (l : List Life). AreAmong l []) (sym none) k.1

    control_told : (m.flow.link.0 == 0) ≡ true → Sort m.flow.link.0 m.text → Told
    control_told zero (AnRst z orders is) = as_told (rst_other origin own foreign _ m _ own_is zero orders _)
    control_told zero (AnRrp z orders is) = as_told (rrp_other origin own foreign _ m _ own_is zero orders _)
    control_told zero (AText is) = by (is_ready (pair_with m.flow.source (program m.flow.destination moments).peers).phase) refl where
      by : (b : Bool) → is_ready (pair_with m.flow.source (program m.flow.destination moments).peers).phase ≡ b → Told
      by true ready =
          subst (λ (ms : List Mark). AreAmong (with_openings origin own foreign (accepted (program m.flow.destination moments) (inbound.Message m) (places moments)).1 (Lives_at m.flow.destination m.flow.source moments)) (all_lives_taken ms nothing [])) (mute zero)
          (message_tells origin own foreign _ m _ nothing _ [] own_is zero ready (joint is zero) (free ours ready zero)
          (subst (λ (ms : List Mark). AllFit ms nothing) (sym (mute zero)) tt) k.0 k.1)
      by false idle = as_told (idle_other origin own foreign _ m _ own_is zero idle (joint is zero) _)

    told_now : (z : Bool) → (m.flow.link.0 == 0) ≡ z → Told
    told_now true zero = control_told zero (sort_of _ m.text)
    told_now false away = data_told origin own foreign _ m _ _ [] own_is away k.1

    pub in_here : IsBare m.flow.destination m.flow.source (Crossed (crossing.In m) ∷ moments)
    in_here =
        next m.flow.destination m.flow.source (ours.1, ours.0) (Crossed (crossing.In m)) moments
        (if_has m.flow.destination m.flow.source _ _ _
        (λ e. end_now (m.flow.link.0 == 0) refl) k.0)
        (λ e. subst (λ (l : List Life). AreAmong l [])
        (sym (about_peer origin m.flow.destination m.flow.source own foreign _ _ _
        (message_about _ m _) (same_host-refl m.flow.source)))
        (told_now _ refl)) k

  pub in_bare : (h p : Host) → AreOurs hosts h p → (m : HostMessage) (moments : List Moment) → IsStory hosts (Crossed (crossing.In m) ∷ moments) → TakesFreeAt hosts (Crossed (crossing.In m)) moments → (AreOurs hosts m.flow.source m.flow.destination → read_marks (origin (places moments)) foreign own m.flow.link.0 m.text ≡ []) → IsBare h p moments
      → IsBare h p (Crossed (crossing.In m) ∷ moments)
  in_bare h p ours m moments story free silent k = by (same_host h m.flow.destination) (same_host p m.flow.source) refl refl where
    by : (b c : Bool) → same_host h m.flow.destination ≡ b → same_host p m.flow.source ≡ c → IsBare h p (Crossed (crossing.In m) ∷ moments)
    by true true e f =
        let is_h : h ≡ m.flow.destination = same_host-true h _ e in
        let is_p : p ≡ m.flow.source = same_host-true p _ f in
        let our : AreOurs hosts m.flow.source m.flow.destination = (subst (λ (y : Host). hosts.strange y ≡ false) is_p ours.1, subst (λ (y : Host). hosts.strange y ≡ false) is_h ours.0) in
        let there : IsBare m.flow.destination m.flow.source moments = subst (λ (y : Host). IsBare m.flow.destination y moments) is_p (subst (λ (y : Host). IsBare y p moments) is_h k) in
        subst (λ (y : Host). IsBare y p (Crossed (crossing.In m) ∷ moments)) (sym is_h)
        (subst (λ (y : Host). IsBare m.flow.destination y (Crossed (crossing.In m) ∷ moments)) (sym is_p) (in_here m moments our story free (silent our) there))
    by true false e f = in_other h p ours m moments f k
    by false c e f = in_elsewhere h p ours m moments e k
