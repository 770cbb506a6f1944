-- One socket of a host that runs the program, whatever strangers do.
use Rattle.world_keeps_lives.proofs.Common.{◌≡◌, ℕ, Bool, true, false, if◌then◌else◌, List, [], ◌∷◌, Option, Some, None, refl, sym, subst, ◌∙◌, Host, same_host, Flow, Answer, HostMessage, same_host-true, PairState, Parcel, accepted, NcpState, opening_state, pair_with, AreInOrder, Peer, Request, HaveAddresses, host_in, kept_by, notices_by, answer_leaves, message_leaves, offer_leaves, Happened, crossed_only, mixed_kept, Network, mail_below, HasSome}
use Rattle.sockets.specs.Requests.{served, refusal, served_notices}
use Rattle.sockets.specs.Sending.{next_in, offered_by, offered}
use Rattle.net_sim.specs.Book.{Kept, all_told, asked, crossed, lives_on, opening_kept}
use Rattle.net_sim.specs.Story.{Asked, Crossed, Moment, places, program, program_after}
use Rattle.net_sim.specs.Timeline.{crossings_of, Happens, IsAsked}
use Rattle.host_keeps_ranges.proofs.lemmas.{pair_range, answer_ranged, message_ranged, offer_ranged, request_ranged}
use Rattle.net_sim.proofs.lemmas.{coupled, same_host-sym}
use Rattle.interface.specs.Mailboxes as mail
use Rattle.interface.specs.declared.crossing.Crossing.TheVariants as crossing
use Rattle.interface.specs.declared.crossing.Inbound.TheVariants as inbound
use Rattle.host_keeps_ranges.specs.Ranges.{IsRanged}
use Rattle.host_keeps_pairing.specs.Hearing.{after_request}
use Rattle.host_keeps_pairing.proofs.lemmas.{answer_keeps, offer_says, opening_has, request_keeps}
use Rattle.world_keeps_lives.proofs.AnyPeer.{any_message}
use Rattle.world_keeps_lives.proofs.Asks.{request_holds}
use Rattle.world_keeps_lives.proofs.Books.{each_ending}
use Rattle.world_keeps_lives.proofs.Desks.{clash}
use Rattle.world_keeps_lives.proofs.Hosts.{HasEnds, Holds, answer_holds, message_holds, offer_holds}
use Rattle.world_keeps_lives.proofs.Moments.{acts, asked_away, crossed_holds, ended_holds, idle_if, opening_holds, up_at}

-- ---- some end of each two sockets, with each peer

pub record IsFit (s : NcpState) : Type 0 where
  pub ranged : IsRanged s
  pub ends : (own foreign : ℕ) (p : Host) → HasSome (λ n. n) own foreign (pair_with p s.peers)

opening_fit : (a : Host) → IsFit (opening_state a)
opening_fit a = record {
  ranged = record { pairs = tt; sizes = tt };
  ends = λ own foreign p. record
      { x = _; has = opening_has (λ n. n) own foreign a p };
}

-- what a call about one peer does
about_one : (s new : NcpState) (g : Host) → ((own foreign : ℕ) → HasSome (λ n. n) own foreign (pair_with g new.peers))
    → ((p : Host) → same_host p g ≡ false → pair_with p new.peers ≡ pair_with p s.peers)
    → ((own foreign : ℕ) (p : Host) → HasSome (λ n. n) own foreign (pair_with p s.peers))
    → (own foreign : ℕ) (p : Host) → HasSome (λ n. n) own foreign (pair_with p new.peers)
about_one s new g here others old own foreign p = by (same_host p g) refl where
  by : (b : Bool) → same_host p g ≡ b → HasSome (λ n. n) own foreign (pair_with p new.peers)
  by true e = subst (λ (h : Host). HasSome (λ n. n) own foreign (pair_with h new.peers)) (sym (same_host-true p g e))
      (here own foreign)
  by false e = subst (λ (q : PairState). HasSome (λ n. n) own foreign q) (sym (others p e)) (old own foreign p)

message_fit : (s : NcpState) (m : HostMessage) (n : ℕ) → IsFit s → IsFit (accepted s (inbound.Message m) n).0
message_fit s m n h = record {
  ranged = message_ranged s m n h.ranged;
  ends = about_one s (accepted s (inbound.Message m) n).0 m.flow.source
      (λ own foreign. any_message (λ n. n) own foreign s m n (h.ends own foreign m.flow.source))
      (λ p off. message_leaves s m n p off) h.ends;
}

answer_fit : (s : NcpState) (kind : Answer) (f : Flow) (n : ℕ) → IsFit s
    → IsFit (accepted s (inbound.Answer kind f) n).0
answer_fit s kind f n h = record {
  ranged = answer_ranged s kind f n h.ranged;
  ends = about_one s (accepted s (inbound.Answer kind f) n).0 f.destination
      (λ own foreign. record {
        x = _;
        has = answer_keeps (λ n. n) own foreign s kind f n (h.ends own foreign f.destination).x
            (h.ends own foreign f.destination).has;
      }) (λ p off. answer_leaves s kind f n p off) h.ends;
}

offer_fit : (s : NcpState) (n : ℕ) → AreInOrder s.peers → IsFit s → IsFit (offered s n).0
unfolding offered
offer_fit s n order h = by (next_in s.peers) refl where
  by : (o : Option (Peer × Parcel)) → next_in s.peers ≡ o → IsFit (offered s n).0
  by None next = subst (λ (o : Option (Peer × Parcel)). IsFit (offered_by s n o).0) (sym next) h
  by (Some (g, parcel)) next = record {
    ranged = offer_ranged s n h.ranged;
    ends = about_one s (offered s n).0 g.host
        (λ own foreign. record {
          x = _;
          has = offer_says (λ n. n) own foreign s n g parcel _ order next
              (h.ends own foreign g.host).has;
        }) (λ p off. offer_leaves s n g parcel p next off) h.ends;
  }

request_fit : (s : NcpState) (r : Request) → refusal s r ≡ None → IsAsked r → IsFit s → IsFit (served s r)
request_fit s r ok asks h = record {
  ranged = request_ranged s r ok asks h.ranged;
  ends = λ own foreign p. record {
    x = after_request p r (h.ends own foreign p).x;
    has = request_keeps (λ n. n) own
        foreign s r p _ ok (h.ends own foreign p).has;
  };
}

fit_if : (b : Bool) (s t : NcpState) → (b ≡ true → IsFit s) → IsFit t → IsFit (if b then s else t)
fit_if true s t now old = now refl
fit_if false s t now old = old

-- a host's program is as it was after what another host does
unmoved : (a : Host) (x : Moment) (moments : List Moment) → same_host a (host_in x) ≡ false
    → program a (x ∷ moments) ≡ program a moments
unmoved a (Crossed (crossing.Out m)) moments off = rw off refl
unmoved a (Crossed (crossing.In m)) moments off = rw off refl
unmoved a (Crossed (crossing.Answer kind f)) moments off = rw off refl
unmoved a (Crossed (crossing.Down h)) moments off = rw off refl
unmoved a (Crossed (crossing.Up h)) moments off = rw off refl
unmoved a (Asked h r) moments off = rw off refl

module _ (hosts : Network) (addresses : HaveAddresses hosts.all) (a : Host) (plain : hosts.strange a ≡ false) where
  -- a request of this host
  pub own_request : (h : Host) (r : Request) (moments : List Moment) → Happened hosts (Asked h r ∷ moments)
      → same_host a h ≡ true → Happens hosts.all (Asked a r) moments
  own_request h r moments time e =
      subst (λ (x : Host). Happens hosts.all (Asked x r) moments) (sym (same_host-true a h e))
      (time.0 (subst (λ (x : Host). hosts.strange x ≡ false) (same_host-true a h e) plain))

  pub ordered : (moments : List Moment) → mail.IsRun hosts.all (crossings_of moments) → Happened hosts moments
      → AreInOrder (program a moments).peers
  ordered moments run time = (coupled hosts addresses moments run time).order a plain

  pub fit : (moments : List Moment) → mail.IsRun hosts.all (crossings_of moments) → Happened hosts moments
      → IsFit (program a moments)
  fit [] run time = opening_fit a
  fit (x ∷ moments) run time = by x time (fit moments (mail_below hosts.all x moments run) time.1) (ordered moments (mail_below hosts.all x moments run) time.1) where
    by : (x : Moment) → Happened hosts (x ∷ moments) → IsFit (program a moments) → AreInOrder (program a moments).peers
        → IsFit (program_after a (places moments) x (program a moments))
    by (Crossed (crossing.Out m)) time h order =
        fit_if (same_host a m.flow.source) _ _ (λ e. offer_fit (program a moments) (places moments) order h) h
    by (Crossed (crossing.In m)) time h order =
        fit_if (same_host a m.flow.destination) _ _ (λ e. message_fit (program a moments) m (places moments) h) h
    by (Crossed (crossing.Answer kind f)) time h order =
        fit_if (same_host a f.source) _ _ (λ e. answer_fit (program a moments) kind f (places moments) h) h
    by (Crossed (crossing.Down g)) time h order = fit_if (same_host a g) (opening_state a) _ (λ e. opening_fit a) h
    by (Crossed (crossing.Up g)) time h order = fit_if (same_host a g) (opening_state a) _ (λ e. opening_fit a) h
    by (Asked g r) time h order =
        fit_if _ _ _ (λ e.
        let may : Happens hosts.all (Asked a r) moments = own_request g r moments time e in
        request_fit _ r may.2 may.3 h) h

  -- a host that is down has a program that does nothing
  pub idle : (moments : List Moment) → mail.IsRun hosts.all (crossings_of moments) → Happened hosts moments
      → mail.is_up hosts.all a (crossings_of moments) ≡ false → program a moments ≡ opening_state a
  idle [] run time down = refl
  idle (x ∷ moments) run time down = by x run time down (idle moments (mail_below hosts.all x moments run) time.1) where
    by : (x : Moment) → mail.IsRun hosts.all (crossings_of (x ∷ moments)) → Happened hosts (x ∷ moments)
        → mail.is_up hosts.all a (crossings_of (x ∷ moments)) ≡ false
        → (mail.is_up hosts.all a (crossings_of moments) ≡ false → program a moments ≡ opening_state a)
        → program_after a (places moments) x (program a moments) ≡ opening_state a
    by (Crossed (crossing.Out m)) run time down rest = idle_if a m.flow.source
        (mail.is_up hosts.all a (crossings_of moments)) (program a moments) _ down
        (up_at hosts.all a m.flow.source (crossings_of moments) run.0.0) (rest down)
    by (Crossed (crossing.In m)) run time down rest = idle_if a m.flow.destination
        (mail.is_up hosts.all a (crossings_of moments)) (program a moments) _ down
        (up_at hosts.all a m.flow.destination (crossings_of moments) run.0.0) (rest down)
    by (Crossed (crossing.Answer kind f)) run time down rest = idle_if a f.source
        (mail.is_up hosts.all a (crossings_of moments)) (program a moments) _ down
        (up_at hosts.all a f.source (crossings_of moments) run.0.0) (rest down)
    by (Crossed (crossing.Down g)) run time down rest = turns (same_host a g) down where
      turns : (b : Bool) → (if b then false else mail.is_up hosts.all a (crossings_of moments)) ≡ false
          → (if b then opening_state a else program a moments) ≡ opening_state a
      turns true d = refl
      turns false d = rest d
    by (Crossed (crossing.Up g)) run time down rest = turns _ down where
      turns : (b : Bool) → (if b then true else mail.is_up hosts.all a (crossings_of moments)) ≡ false
          → (if b then opening_state a else program a moments) ≡ opening_state a
      turns true d = refl
      turns false d = rest d
    by (Asked g r) run time down rest =
        idle_if a g _ (program a moments) _ down
        (λ e. (own_request g r moments time e).0) (rest down)

  -- ---- one socket

  module _ (k : ℕ) where
    has_ends : (s : NcpState) → IsFit s → (p : Host) → (origin : ℕ → ℕ) × HasEnds origin (pair_with p s.peers)
    has_ends s h p = ((λ n. n), λ own foreign two. ((h.ends own foreign p).x, (h.ends own foreign p).has))

    -- a moment of a host with a program
    pub own_moment : (x : Moment) (moments : List Moment) (κ : Kept) → mail.IsRun hosts.all (crossings_of (x ∷ moments))
        → Happened hosts (x ∷ moments)
        → AreInOrder (program a moments).peers → IsFit (program a moments)
        → (mail.is_up hosts.all a (crossings_of moments) ≡ false → program a moments ≡ opening_state a)
        → Holds a k (program a moments) κ
        → Holds a k (program a (x ∷ moments)) (all_told (host_in x) (notices_by x moments) (kept_by x κ))
    own_moment (Crossed (crossing.Out m)) moments κ run time order h idles old =
        acts a k m.flow.source (λ x. (offered (program x moments) (places moments)).1) _
        _ κ (λ x. crossed (crossing.Out m) κ)
        (λ e. offer_holds a k (program a moments) (places moments) (crossed (crossing.Out m) κ) order
        (λ p. (pair_range p _ h.ranged.pairs).commands) (has_ends _ h)
        (crossed_holds a k _ _ κ (λ P i. i) old))
        (λ e P i. i) old
    own_moment (Crossed (crossing.In m)) moments κ run time order h idles old =
        acts a k m.flow.destination (λ x. (accepted (program x moments) (inbound.Message m) (places moments)).1)
        _ _ κ
        (λ x. crossed (crossing.In m) κ)
        (λ e. message_holds a k (program a moments) m (places moments) (crossed (crossing.In m) κ)
        (crossed_holds a k _ _ κ (λ P i. i) old))
        (λ e P i. i) old
    own_moment (Crossed (crossing.Answer kind f)) moments κ run time order h idles old =
        acts a k f.source (λ x. (accepted (program x moments) (inbound.Answer kind f) (places moments)).1)
        _ _ κ
        (λ x. crossed (crossing.Answer kind f) κ)
        (λ e. answer_holds a k (program a moments) kind f (places moments) (crossed (crossing.Answer kind f) κ)
        (crossed_holds a k _ _ κ (λ P i. i) old))
        (λ e P i. i) old
    own_moment (Crossed (crossing.Down g)) moments κ run time order h idles old =
        acts a k g (λ x. []) _ _ κ (λ x. crossed (crossing.Down x) κ)
        (λ e. ended_holds a k (program a moments) κ old)
        (λ e P i. each_ending a k (lives_on g) P κ.book.lives κ.handed i) old
    own_moment (Crossed (crossing.Up g)) moments κ run time order h idles old =
        acts a k g (λ x. []) _ _ κ (λ x. crossed (crossing.Up g) κ)
        (λ e. let down : mail.is_up hosts.all a (crossings_of moments) ≡ false = subst
        (λ (x : Host). mail.is_up hosts.all x (crossings_of moments) ≡ false) (sym (same_host-true a g e)) run.0.1
        in
        crossed_holds a k _ (crossing.Up g) κ (λ P i. i)
        (subst (λ (s : NcpState). Holds a k s κ) (idles down) old))
        (λ e P i. i) old
    own_moment (Asked g r) moments κ run time order h idles old =
        acts a k g (λ x. served_notices (program x moments) r) _ _ κ
        (λ x. asked x r κ)
        (λ e. request_holds a k (program a moments) r κ order (own_request g r moments time e).2 old)
        (λ e. asked_away a k g r κ (other_way _ refl e)) old where
          other_way : (b : Bool) → same_host g a ≡ b → same_host a g ≡ false → b ≡ false
          other_way b is e = sym is ∙ same_host-sym g a ∙ e

    -- a moment of a stranger
    strange_moment : (x : Moment) (s : NcpState) (κ : Kept) → Holds a k s κ → Holds a k s (crossed_only x κ)
    strange_moment (Crossed (crossing.Out m)) s κ old = crossed_holds a k s _ κ (λ P i. i) old
    strange_moment (Crossed (crossing.In m)) s κ old = crossed_holds a k s _ κ (λ P i. i) old
    strange_moment (Crossed (crossing.Answer kind f)) s κ old = crossed_holds a k s _ κ
        (λ P i. i) old
    strange_moment (Crossed (crossing.Down g)) s κ old = crossed_holds a k s _ κ
        (λ P i. each_ending a k (lives_on g) P κ.book.lives κ.handed i) old
    strange_moment (Crossed (crossing.Up g)) s κ old = crossed_holds a k s _ κ (λ P i. i) old
    strange_moment (Asked g r) s κ old = old

    pub held : (moments : List Moment) → mail.IsRun hosts.all (crossings_of moments) → Happened hosts moments
        → Holds a k (program a moments) (mixed_kept hosts.strange moments)
    held [] run time = opening_holds a k opening_kept tt
    held (x ∷ moments) run time = by (hosts.strange (host_in x)) refl (mail_below hosts.all x moments run) (held moments (mail_below hosts.all x moments run) time.1) where
      other : (on : hosts.strange (host_in x) ≡ true) (b : Bool) → same_host a (host_in x) ≡ b → b ≡ false
      other on true e = clash (true ≡ false) (hosts.strange (host_in x)) on (subst (λ (g : Host). hosts.strange g ≡ false) (same_host-true a (host_in x) e) plain)
      other on false e = refl

      by : (b : Bool) → hosts.strange (host_in x) ≡ b → mail.IsRun hosts.all (crossings_of moments)
          → Holds a k (program a moments) (mixed_kept hosts.strange moments)
          → Holds a k (program a (x ∷ moments)) (if b then crossed_only x (mixed_kept hosts.strange moments) else all_told (host_in x) (notices_by x moments) (kept_by x (mixed_kept hosts.strange moments)))
      by true on below old =
          subst (λ (s : NcpState). Holds a k s (crossed_only x (mixed_kept hosts.strange moments))) (sym (unmoved a x moments (other on (same_host a (host_in x)) refl)))
          (strange_moment x _ _ old)
      by false apart below old =
          own_moment x moments _ run time (ordered moments below time.1) (fit moments below time.1) (idle moments below time.1) old
