-- The step itself: after a call all lives of a host with one peer are again beside the laws of their links.
use Rattle.world_keeps_streams.proofs.Common.{◌≡◌, inl, inr, ℕ, suc, ◌≤◌, ◌==◌, ◌&&◌, Bool, true, false, List, map, Option, Some, is_some, refl, ap, sym, subst, ◌∙◌, eq-eqb, arith, eqb-true, Host, same_host, same_host-refl, and_none, is_receive_socket, is_send_socket, Allocation, is_link, is_receiving, receives_on, sends_on, Entry, has_opened, IsTelling, gone_by, lives_at, clash}
use Rattle.host_keeps_streams.proofs.lemmas.{is_there, name_of, odd_is}
use Rattle.stream_law.specs.Receivers.{Receiver}
use Rattle.stream_law.specs.Senders.{Sender}
use Rattle.host_keeps_streams.specs.Names.{named}
use Rattle.promise.specs.declared.life.Life.{Life}
use Rattle.promise.specs.Safe.{receives, sends}
use Rattle.world_keeps_streams.proofs.Deeds.Effects.{Among, Deed, From, Receives, Sends, among_front, among_mapped, at_receiver, at_sender, granted_by, life_by, new_by, taken_by}
use Rattle.world_keeps_streams.proofs.Deeds.Ends.{Does, IsAt}
use Rattle.world_keeps_streams.proofs.Deeds.Told.{After}
use Rattle.world_keeps_streams.proofs.Carried.Streams.{EndOf, HasSent, HasTaken, IsSent, IsTaken, among_there, end_opened, end_own, end_there, gone_more, gone_one, gone_same, sent_step, taken_step, the_end}
use Rattle.world_keeps_streams.proofs.Carried.Step.{AreOwned, CarriedOn, Carry, by_goes, by_over, by_same, by_stamp}

module _ (told next_told : ℕ → ℕ → ℕ → ℕ → Type 0) (grows : (own foreign g v : ℕ) → told own foreign g v → next_told own foreign g v) (number : ℕ → ℕ → ℕ → ℕ) (tells : IsTelling number) (a b : Host) (gone : ℕ → ℕ → ℕ) (es : List Entry) (r : ℕ → Receiver) (s : ℕ → Sender) where
  -- ---- where a life is hit, the law is

  module _ (link g : ℕ) (x : Life) (host : x.host ≡ a) (k : CarriedOn told number gone es r s link g x) (owned : x.ended ≡ false → EndOf es x) (e : Entry) (i : IsAt e es) where
    same_of : number x.socket x.foreign g ≡ named (name_of number gone) e → (x.socket ≡ e.own) × (x.foreign ≡ e.foreign) × (g ≡ gone e.own e.foreign)
    same_of q = (
      tells.own x.socket x.foreign g e.own e.foreign (gone e.own e.foreign) q,
      tells.foreign x.socket x.foreign g e.own e.foreign (gone e.own e.foreign) q,
      tells.gone x.socket x.foreign g e.own e.foreign (gone e.own e.foreign) q,
    )

    ended_apart : x.ended ≡ true → number x.socket x.foreign g ≡ named (name_of number gone) e → ⊥
    ended_apart over q =
        let t : (x.socket ≡ e.own) × (x.foreign ≡ e.foreign) × (g ≡ gone e.own e.foreign) = same_of q in
        let same : gone x.socket x.foreign ≡ gone e.own e.foreign = ap (λ (n : ℕ). gone n x.foreign) t.0 ∙ ap (λ (n : ℕ). gone e.own n) t.1 in
        absurd (omega (arith, k.over over, same, t.2))

    number_here : x.ended ≡ false → x.socket ≡ e.own → number x.socket x.foreign g ≡ named (name_of number gone) e
    number_here goes own =
        let h : EndOf es x = owned goes in
        let one : h.end ≡ e = the_end es x h e i.there i.mine (sym own) in
        let foreign : x.foreign ≡ e.foreign = sym h.foreign ∙ ap (λ (y : Entry). y.foreign) one in
        let now : g ≡ gone e.own e.foreign = k.goes goes ∙ ap (λ (n : ℕ). gone n x.foreign) own ∙ ap (λ (n : ℕ). gone e.own n) foreign in
        ap (λ (n : ℕ). number n x.foreign g) own ∙ ap (λ (n : ℕ). number e.own n g) foreign ∙ ap (λ (n : ℕ). number e.own e.foreign n) now

    hit : lives_at a e.own x ≡ (number x.socket x.foreign g == named (name_of number gone) e)
    hit = by x.ended (x.socket == e.own) refl refl where
      here : same_host a x.host ≡ true
      here = subst (λ (h : Host). same_host a h ≡ true) (sym host) (same_host-refl a)

      off : (v : Bool) → (number x.socket x.foreign g == named (name_of number gone) e) ≡ v → (number x.socket x.foreign g ≡ named (name_of number gone) e → ⊥) → v ≡ false
      off true t never = absurd (never (eqb-true (number x.socket x.foreign g) (named (name_of number gone) e) t))
      off false t never = refl

      by : (v w : Bool) → x.ended ≡ v → (x.socket == e.own) ≡ w → lives_at a e.own x ≡ (number x.socket x.foreign g == named (name_of number gone) e)
      by true w t u = rw (here, t) (and_none (x.socket == e.own) ∙ sym (off (number x.socket x.foreign g == named (name_of number gone) e) refl (ended_apart t)))
      by false true t u =
          let same : (number x.socket x.foreign g == named (name_of number gone) e) ≡ true = eq-eqb (number x.socket x.foreign g) (named (name_of number gone) e) (number_here t (eqb-true x.socket e.own u)) in
          rw (here, t, u) (sym same)
      by false false t u =
          let same : (number x.socket x.foreign g == named (name_of number gone) e) ≡ false =
          off (number x.socket x.foreign g == named (name_of number gone) e) refl (λ q. clash ⊥ (x.socket == e.own) (eq-eqb x.socket e.own (same_of q).0) u) in
          rw (here, t, u) (sym same)

    linked_here : number x.socket x.foreign g ≡ named (name_of number gone) e → e.link ≡ Some link
    linked_here q = by x.ended refl where
      by : (v : Bool) → x.ended ≡ v → e.link ≡ Some link
      by true t = absurd (ended_apart t q)
      by false t = k.linked t e i.there i.mine (sym (same_of q).0)

    link_is : e.link ≡ Some link → is_link link e.link ≡ true
    link_is l = ap (λ (o : Option ℕ). is_link link o) l ∙ eq-eqb link link refl

    hits_receiver : receives x ≡ true → lives_at a e.own x ≡ at_receiver (name_of number gone) link (number x.socket x.foreign g) e
    hits_receiver even = hit ∙ by (number x.socket x.foreign g == named (name_of number gone) e) refl where
      by : (v : Bool) → (number x.socket x.foreign g == named (name_of number gone) e) ≡ v → v ≡ (receives_on link e && v)
      by true t =
          let q : number x.socket x.foreign g ≡ named (name_of number gone) e = eqb-true (number x.socket x.foreign g) (named (name_of number gone) e) t in
          let even_end : is_receiving e ≡ true = ap is_receive_socket (sym (same_of q).0) ∙ even in
          let on : is_link link e.link ≡ true = link_is (linked_here q) in
          rw (even_end, on) refl
      by false t = sym (and_none (receives_on link e))

    hits_sender : sends x ≡ true → lives_at a e.own x ≡ at_sender (name_of number gone) link (number x.socket x.foreign g) e
    hits_sender odd = hit ∙ by (number x.socket x.foreign g == named (name_of number gone) e) refl where
      by : (v : Bool) → (number x.socket x.foreign g == named (name_of number gone) e) ≡ v → v ≡ (sends_on link e && v)
      by true t =
          let q : number x.socket x.foreign g ≡ named (name_of number gone) e = eqb-true (number x.socket x.foreign g) (named (name_of number gone) e) t in
          let odd_end : is_receiving e ≡ false = ap is_receive_socket (sym (same_of q).0) ∙ odd_is x.socket odd in
          let on : is_link link e.link ≡ true = link_is (linked_here q) in
          rw (odd_end, on) refl
      by false t = sym (and_none (sends_on link e))

  -- ---- after a call

  module _ (deed : Deed) (new : List Entry) (rr : ℕ → Receiver) (ss : ℕ → Sender) (lives : List Life) (does : Does deed es new)
      (received : (link : ℕ) → (link == 0) ≡ false → Receives (name_of number gone) link deed (r link) (rr link)) (sent : (link : ℕ) → Sends (name_of number gone) link deed (s link) (ss link))
      (old : AreOwned a b es lives) (now : AreOwned a b new (After a b deed lives)) (c : Carry told a b number gone es r s lives) where
    -- an end that is there before and after has its link still
    link_same : (x : Life) (link : ℕ) (h : EndOf es x) → ((e : Entry) → Among e es → e.mine ≡ true → e.own ≡ x.socket → e.link ≡ Some link) → (y : Life) (h2 : EndOf new y) → y.socket ≡ x.socket
        → (e : Entry) → Among e new → e.mine ≡ true → e.own ≡ y.socket → e.link ≡ Some link
    link_same x link h was y h2 socket e there mine own = elim (does.0 e there) [
      | inl f ↦ from f
      | inr n ↦ absurd (let one : h2.end ≡ e = the_end new y h2 e there mine own in
          let r : true ≡ false = sym (ap is_some (sym (ap (λ (z : Entry). z.asked) one) ∙ h2.asked)) ∙ ap is_some n.unasked in cc)
    ] where
      from : (f : From deed es e) → e.link ≡ Some link
      from f =
          let was_mine : f.end.mine ≡ true = sym f.becomes.mine ∙ mine in
          let was_own : f.end.own ≡ x.socket = sym f.becomes.own ∙ own ∙ socket in
          let one : h.end ≡ f.end = the_end es x h f.end f.there was_mine was_own in
          f.becomes.link (subst (λ (z : Entry). has_opened z ≡ true) one (end_opened es x h)) ∙ was f.end f.there was_mine was_own

    there_before : (x : Life) → EndOf es x → is_there x.socket x.foreign es ≡ true
    there_before x h = among_there es h.end x.socket x.foreign (end_there es x h).0 (end_own es x h) h.foreign

    there_after : (x : Life) → EndOf new x → is_there x.socket x.foreign new ≡ true
    there_after x h = among_there new h.end x.socket x.foreign (end_there new x h).0 (end_own new x h) h.foreign

    -- a life that was there
    pub carried_next : (x : Life) → Among x lives → x.host ≡ a → x.peer ≡ b → (link g : ℕ) → CarriedOn told number gone es r s link g x → CarriedOn next_told number (gone_by es new gone) new rr ss link g (life_by a b deed x)
    carried_next x there host peer link g k = record {
      other = k.other;
      taken = λ even. takes (ap is_receive_socket (sym (by_same a b deed x).socket) ∙ even);
      sent = λ odd. sends_it (ap is_send_socket (sym (by_same a b deed x).socket) ∙ odd);
      goes = λ t. k.goes (by_goes a b deed x t) ∙ sym (still t);
      linked = λ t. link_same x link (old x there host peer (by_goes a b deed x t)) (k.linked (by_goes a b deed x t)) (life_by a b deed x) (ends t) (by_same a b deed x).socket;
      over = λ t. by x.ended refl t;
      named =
          subst (λ (n : ℕ). next_told n (life_by a b deed x).foreign g (life_by a b deed x).partner_stamp) (sym (by_same a b deed x).socket)
          (subst (λ (n : ℕ). next_told x.socket n g (life_by a b deed x).partner_stamp) (sym (by_same a b deed x).foreign)
          (subst (λ (n : ℕ). next_told x.socket x.foreign g n) (sym (by_stamp a b deed x)) (grows x.socket x.foreign g x.partner_stamp k.named)));
    } where
      y : Life
      y = life_by a b deed x

      there_now : Among (life_by a b deed x) (After a b deed lives)
      there_now = among_front (map (λ z. life_by a b deed z) lives) (new_by a b deed) (life_by a b deed x) (among_mapped (λ z. life_by a b deed z) lives x there)

      ends : (life_by a b deed x).ended ≡ false → EndOf new (life_by a b deed x)
      ends t = now (life_by a b deed x) there_now ((by_same a b deed x).host ∙ host) ((by_same a b deed x).peer ∙ peer) t

      same_gone : gone_by es new gone (life_by a b deed x).socket (life_by a b deed x).foreign ≡ gone_by es new gone x.socket x.foreign
      same_gone = ap (λ (n : ℕ). gone_by es new gone n (life_by a b deed x).foreign) (by_same a b deed x).socket ∙ ap (λ (n : ℕ). gone_by es new gone x.socket n) (by_same a b deed x).foreign

      same_number : number (life_by a b deed x).socket (life_by a b deed x).foreign g ≡ number x.socket x.foreign g
      same_number = ap (λ (n : ℕ). number n (life_by a b deed x).foreign g) (by_same a b deed x).socket ∙ ap (λ (n : ℕ). number x.socket n g) (by_same a b deed x).foreign

      still : (life_by a b deed x).ended ≡ false → gone_by es new gone (life_by a b deed x).socket (life_by a b deed x).foreign ≡ gone x.socket x.foreign
      still t =
          let is : is_there x.socket x.foreign new ≡ true =
          ap (λ (n : ℕ). is_there n x.foreign new) (sym (by_same a b deed x).socket) ∙ ap (λ (n : ℕ). is_there (life_by a b deed x).socket n new) (sym (by_same a b deed x).foreign) ∙ there_after (life_by a b deed x) (ends t) in
          same_gone ∙ gone_same es new gone x.socket x.foreign is

      by : (v : Bool) → x.ended ≡ v → (life_by a b deed x).ended ≡ true → suc g ≤ gone_by es new gone (life_by a b deed x).socket (life_by a b deed x).foreign
      by true t u =
          let was : suc g ≤ gone x.socket x.foreign = k.over t in
          let more : gone x.socket x.foreign ≤ gone_by es new gone x.socket x.foreign = gone_more es new gone x.socket x.foreign in
          let here : suc g ≤ gone_by es new gone x.socket x.foreign = omega (arith, was, more) in
          subst (λ (n : ℕ). suc g ≤ n) (sym same_gone) here
      by false t u =
          let one : gone_by es new gone x.socket x.foreign ≡ suc (gone x.socket x.foreign) = gone_one es new gone x.socket x.foreign (there_before x (old x there host peer t)) (by_over a b deed x es new does.1 t u) in
          let is : g ≡ gone x.socket x.foreign = k.goes t in
          let here : suc g ≤ gone_by es new gone x.socket x.foreign = omega (arith, one, is) in
          subst (λ (n : ℕ). suc g ≤ n) (sym same_gone) here

      takes : receives x ≡ true → IsTaken (number (life_by a b deed x).socket (life_by a b deed x).foreign g) (rr link) (life_by a b deed x)
      takes even =
          let n : ℕ = number x.socket x.foreign g in
          let q : Receives (name_of number gone) link deed (r link) (rr link) = received link k.other in
          subst (λ (m : ℕ). IsTaken m (rr link) (life_by a b deed x)) (sym same_number)
          (subst (λ (ts : List (List Bool)). HasTaken ts ((rr link).granted (number x.socket x.foreign g)) ((rr link).returned (number x.socket x.foreign g)) (life_by a b deed x)) (sym (q.taken (number x.socket x.foreign g)))
          (subst (λ (u : Allocation). HasTaken (taken_by (name_of number gone) link deed (number x.socket x.foreign g) ((r link).taken (number x.socket x.foreign g))) u ((rr link).returned (number x.socket x.foreign g)) (life_by a b deed x)) (sym (q.granted (number x.socket x.foreign g)))
          (subst (λ (v : Allocation). HasTaken (taken_by (name_of number gone) link deed (number x.socket x.foreign g) ((r link).taken (number x.socket x.foreign g))) (granted_by (name_of number gone) link deed (number x.socket x.foreign g) ((r link).granted (number x.socket x.foreign g))) v (life_by a b deed x)) (sym (q.returned (number x.socket x.foreign g)))
          (taken_step a b (name_of number gone) link (number x.socket x.foreign g) x deed es new does.1 (λ e i. hits_receiver link g x host k (old x there host peer) e i even)
          ((r link).taken (number x.socket x.foreign g)) ((r link).granted (number x.socket x.foreign g)) ((r link).returned (number x.socket x.foreign g)) (k.taken even)))))

      sends_it : sends x ≡ true → IsSent (number (life_by a b deed x).socket (life_by a b deed x).foreign g) (ss link) (life_by a b deed x)
      sends_it odd =
          subst (λ (m : ℕ). IsSent m (ss link) (life_by a b deed x)) (sym same_number)
          (subst (λ (ts : List (List Bool)). HasSent ts (life_by a b deed x)) (sym (sent link (number x.socket x.foreign g)))
          (sent_step a b (name_of number gone) link (number x.socket x.foreign g) x deed es new does.1 (λ e i. hits_sender link g x host k (old x there host peer) e i odd) ((s link).sent (number x.socket x.foreign g)) (k.sent odd)))
