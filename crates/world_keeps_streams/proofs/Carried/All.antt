-- After a call, all that holds of the lives of a host with one peer holds again.
use Rattle.world_keeps_streams.proofs.Common.{eqb-true, Host, is_receive_socket, is_send_socket, Allocation, is_link, is_open, is_receiving, receives_on, sends_on, Entry, both, not_is, has_opened, IsTelling, gone_by, is_there, name_of, new_life, clash, open_parts, odd_send}
use Rattle.std.proofs.Common.{◌≡◌, ◌⊎◌, inl, inr, ℕ, ◌==◌, not, Bool, true, List, [], ◌∷◌, ◌++◌, map, length, Option, Some, is_some, refl, ap, sym, subst, ◌∙◌, arith, false}
use Rattle.stream_law.specs.Receivers.{Receiver}
use Rattle.stream_law.specs.Senders.{Sender}
use Rattle.host_keeps_streams.specs.Names.{named}
use Rattle.promise.specs.declared.life.Life.{Life}
use Rattle.promise.specs.Safe.{receives, sends}
use Rattle.world_keeps_streams.proofs.Deeds.Effects as deeds
use Rattle.world_keeps_streams.proofs.Deeds.Effects.{Among, Becomes, Deed, From, HasLink, IsLinked, IsNew, OpensAs, Receives, Sends, among_either, among_front, among_behind, among_map, among_mapped, at_receiver, at_sender, granted_by, life_by, new_by, returned_by, sent_by, taken_by}
use Rattle.world_keeps_streams.proofs.Deeds.Ends.{Acts, Does, IsAt, Opening}
use Rattle.world_keeps_streams.proofs.Deeds.Told.{After}
use Rattle.world_keeps_streams.proofs.Carried.Streams.{EndOf, HasSent, HasTaken, all_bits, among_there, end_opened, gone_same, the_end}
use Rattle.world_keeps_streams.proofs.Carried.Step.{AreOwned, CarriedOn, Carry, IsBlank, LifeFor, Lives, by_over, by_same}
use Rattle.world_keeps_streams.proofs.Carried.Next.{carried_next}

same_link : (link l : ℕ) (e : Entry) → e.link ≡ Some l → is_link link e.link ≡ true → l ≡ link
same_link link l e is on = eqb-true l link (sym (ap (λ (o : Option ℕ). is_link link o) is) ∙ on)

module _ (told next_told : ℕ → ℕ → ℕ → ℕ → Type 0) (grows : (own foreign g v : ℕ) → told own foreign g v → next_told own foreign g v) (number : ℕ → ℕ → ℕ → ℕ) (tells : IsTelling number) (a b : Host) (gone : ℕ → ℕ → ℕ) (es : List Entry) (r : ℕ → Receiver) (s : ℕ → Sender)
    (deed : Deed) (new : List Entry) (rr : ℕ → Receiver) (ss : ℕ → Sender) (lives : List Life) (does : Does deed es new)
    (received : (link : ℕ) → (link == 0) ≡ false → Receives (name_of number gone) link deed (r link) (rr link)) (sent : (link : ℕ) → Sends (name_of number gone) link deed (s link) (ss link))
    (old : AreOwned a b es lives) (now : AreOwned a b new (After a b deed lives)) (c : Carry told a b number gone es r s lives)
    (born : (e : Entry) → Among e new → (v : ℕ) → e.partner ≡ Some v → next_told e.own e.foreign (gone_by es new gone e.own e.foreign) v) where
  next : (x : Life) → Among x lives → x.host ≡ a → x.peer ≡ b → (link g : ℕ) → CarriedOn told number gone es r s link g x → CarriedOn next_told number (gone_by es new gone) new rr ss link g (life_by a b deed x)
  next = carried_next told next_told grows number tells a b gone es r s deed new rr ss lives does received sent old now c

  among_next : (x : Life) → Among x lives → Among (life_by a b deed x) (After a b deed lives)
  among_next x there = among_front _ _ _ (among_mapped _ lives x there)

  -- ---- a life of a connection

  lives_next : (link k : ℕ) → (l : Lives told a b number gone es r s lives link k) → Lives next_told a b number (gone_by es new gone) new rr ss (After a b deed lives) link k
  lives_next link k l = record {
    life = life_by a b deed l.life;
    there = among_next l.life l.there;
    host = (by_same a b deed l.life).host ∙ l.host;
    peer = (by_same a b deed l.life).peer ∙ l.peer;
    gone_before = l.gone_before;
    carried = next l.life l.there l.host l.peer link l.gone_before l.carried;
    is = ap (λ (n : ℕ). number n (life_by a b deed l.life).foreign l.gone_before) (by_same a b deed l.life).socket ∙ ap (λ (n : ℕ). number l.life.socket n l.gone_before) (by_same a b deed l.life).foreign ∙ l.is;
  }

  -- that of an open end
  at_end : (e : Entry) → IsAt e es → (link k : ℕ) → is_link link e.link ≡ true → k ≡ named (name_of number gone) e → (l : Lives told a b number gone es r s lives link k) × (l.life.socket ≡ e.own)
  at_end e i link k on q =
      let f : LifeFor a b e lives = c.opens e i.there i.mine i.opened in
      let carried : (link : ℕ) × (g : ℕ) × CarriedOn told number gone es r s link g f.life = c.all f.life f.there f.host f.peer in
      let here : carried.0 ≡ link = same_link link carried.0 e (carried.2.linked f.goes e i.there i.mine (sym f.socket)) on in
      let same : number f.life.socket f.life.foreign carried.1 ≡ k =
      ap (λ (n : ℕ). number f.life.socket f.life.foreign n) (carried.2.goes f.goes) ∙ ap (λ (n : ℕ). number n f.life.foreign (gone n f.life.foreign)) f.socket ∙ ap (λ (n : ℕ). number e.own n (gone e.own n)) f.foreign ∙ sym q in (
        record {
          life = f.life;
          there = f.there;
          host = f.host;
          peer = f.peer;
          gone_before = carried.1;
          carried = subst (λ (n : ℕ). CarriedOn told number gone es r s n carried.1 f.life) here carried.2;
          is = same;
        },
        f.socket,
      )

  -- ---- what a receiver has

  abbrev HitsReceiver : ℕ → ℕ → Type 0
  HitsReceiver link k = (e : Entry) × IsAt e es × (at_receiver (name_of number gone) link k e ≡ true)

  blank_by : (link k : ℕ) → (d : Deed) → Acts d es new → Receives (name_of number gone) link d (r link) (rr link) → IsBlank k (r link) → IsBlank k (rr link) ⊎ HitsReceiver link k
  blank_by link k d act q u = of d act q where
    plain : (rr link).taken k ≡ (r link).taken k → (rr link).granted k ≡ (r link).granted k → (rr link).returned k ≡ (r link).returned k → IsBlank k (rr link)
    plain f g h = record {
      taken = f ∙ u.taken;
      granted_messages = ap (λ (z : Allocation). z.messages) g ∙ u.granted_messages;
      granted_bits = ap (λ (z : Allocation). z.bits) g ∙ u.granted_bits;
      returned_messages = ap (λ (z : Allocation). z.messages) h ∙ u.returned_messages;
      returned_bits = ap (λ (z : Allocation). z.bits) h ∙ u.returned_bits;
    }

    of : (d : Deed) → Acts d es new → Receives (name_of number gone) link d (r link) (rr link) → IsBlank k (rr link) ⊎ HitsReceiver link k
    of (deeds.Arrives e bits) act q = by (at_receiver (name_of number gone) link k e) refl where
      by : (v : Bool) → at_receiver (name_of number gone) link k e ≡ v → IsBlank k (rr link) ⊎ HitsReceiver link k
      by true t = inr (e, act.0, t)
      by false t = inl (plain (rw t at (q.taken k)) (q.granted k) (q.returned k))
    of (deeds.Grants e m n) act q = by (at_receiver (name_of number gone) link k e) refl where
      by : (v : Bool) → at_receiver (name_of number gone) link k e ≡ v → IsBlank k (rr link) ⊎ HitsReceiver link k
      by true t = inr (e, act, t)
      by false t = inl (plain (q.taken k) (rw t at (q.granted k)) (q.returned k))
    of (deeds.Returns e m n) act q = by (at_receiver (name_of number gone) link k e) refl where
      by : (v : Bool) → at_receiver (name_of number gone) link k e ≡ v → IsBlank k (rr link) ⊎ HitsReceiver link k
      by true t = inr (e, act, t)
      by false t = inl (plain (q.taken k) (q.granted k) (rw t at (q.returned k)))
    of d act q = inl (plain (q.taken k) (q.granted k) (q.returned k))

  abbrev Takes : ℕ → ℕ → Type 0
  Takes link k = (l : Lives next_told a b number (gone_by es new gone) new rr ss (After a b deed lives) link k) × (receives l.life ≡ true)

  takes_old : (link k : ℕ) → (l : Lives told a b number gone es r s lives link k) → receives l.life ≡ true → Takes link k
  unfolding lives_next
  takes_old link k l even = (lives_next link k l, ap is_receive_socket (by_same a b deed l.life).socket ∙ even)

  takes_hit : (link k : ℕ) → HitsReceiver link k → Takes link k
  takes_hit link k h =
      let on : (receives_on link h.0 ≡ true) × ((k == named (name_of number gone) h.0) ≡ true) = both (receives_on link h.0) (k == named (name_of number gone) h.0) h.2 in
      let two : (is_receiving h.0 ≡ true) × (is_link link h.0.link ≡ true) = both (is_receiving h.0) (is_link link h.0.link) on.0 in
      let l : (l : Lives told a b number gone es r s lives link k) × (l.life.socket ≡ h.0.own) = at_end h.0 h.1 link k two.1 (eqb-true k (named (name_of number gone) h.0) on.1) in
      takes_old link k l.0 (ap is_receive_socket l.1 ∙ two.0)

  takes_next : (link : ℕ) → (link == 0) ≡ false → (k : ℕ) → IsBlank k (rr link) ⊎ Takes link k
  takes_next link other k = elim (c.takes link other k) [
    | inl u ↦ elim (blank_by link k deed does.1 (received link other) u) [ inl v ↦ inl v | inr h ↦ inr (takes_hit link k h) ]
    | inr l ↦ inr (takes_old link k l.0 l.1)
  ]

  -- ---- what a sender has

  abbrev HitsSender : ℕ → ℕ → Type 0
  HitsSender link k = (e : Entry) × IsAt e es × (at_sender (name_of number gone) link k e ≡ true)

  unsent_by : (link k : ℕ) → (d : Deed) → Acts d es new → Sends (name_of number gone) link d (s link) (ss link) → (s link).sent k ≡ [] → ((ss link).sent k ≡ []) ⊎ HitsSender link k
  unsent_by link k (deeds.Leaves e bits) act q u = by (at_sender (name_of number gone) link k e) refl where
    by : (v : Bool) → at_sender (name_of number gone) link k e ≡ v → ((ss link).sent k ≡ []) ⊎ HitsSender link k
    by true t = inr (e, act.0, t)
    by false t = let same : (ss link).sent k ≡ (s link).sent k = rw t at (q k) in inl (same ∙ u)
  unsent_by link k d act q u = inl (q k ∙ u)

  abbrev Sent : ℕ → ℕ → Type 0
  Sent link k = (l : Lives next_told a b number (gone_by es new gone) new rr ss (After a b deed lives) link k) × (sends l.life ≡ true)

  sends_old : (link k : ℕ) → (l : Lives told a b number gone es r s lives link k) → sends l.life ≡ true → Sent link k
  unfolding lives_next
  sends_old link k l odd = (lives_next link k l, ap is_send_socket (by_same a b deed l.life).socket ∙ odd)

  sends_hit : (link k : ℕ) → HitsSender link k → Sent link k
  sends_hit link k h =
      let on : (sends_on link h.0 ≡ true) × ((k == named (name_of number gone) h.0) ≡ true) = both (sends_on link h.0) (k == named (name_of number gone) h.0) h.2 in
      let two : (not (is_receiving h.0) ≡ true) × (is_link link h.0.link ≡ true) = both (not (is_receiving h.0)) (is_link link h.0.link) on.0 in
      let l : (l : Lives told a b number gone es r s lives link k) × (l.life.socket ≡ h.0.own) = at_end h.0 h.1 link k two.1 (eqb-true k (named (name_of number gone) h.0) on.1) in
      sends_old link k l.0 (odd_send l.0.life.socket (ap is_receive_socket l.1 ∙ not_is (is_receiving h.0) two.0))

  sends_next : (link : ℕ) → (link == 0) ≡ false → (k : ℕ) → ((ss link).sent k ≡ []) ⊎ Sent link k
  sends_next link other k = elim (c.sends link other k) [
    | inl u ↦ elim (unsent_by link k deed does.1 (sent link) u) [ inl v ↦ inl v | inr h ↦ inr (sends_hit link k h) ]
    | inr l ↦ inr (sends_old link k l.0 l.1)
  ]

  -- ---- open ends

  opens_new : (d : Deed) (e : Entry) → OpensAs d e → LifeFor a b e (map (λ z. life_by a b d z) lives ++ new_by a b d)
  opens_new deeds.Nothing e o = absurd o
  opens_new (deeds.Opens f u v) e o = record {
    life = new_life a f.own b f.foreign u v;
    there = among_behind (map (λ z. life_by a b (deeds.Opens f u v) z) lives) (new_life a f.own b f.foreign u v ∷ []) (new_life a f.own b f.foreign u v) (inl refl);
    host = refl;
    peer = refl;
    goes = refl;
    socket = ap (λ (z : Entry). z.own) o;
    foreign = ap (λ (z : Entry). z.foreign) o;
  }
  opens_new (deeds.Ends over) e o = absurd o
  opens_new d e o = absurd o

  opens_old : (e : Entry) → Among e new → (f : Entry) → e.own ≡ f.own → e.foreign ≡ f.foreign → LifeFor a b f lives → LifeFor a b e (After a b deed lives)
  opens_old e there f own foreign l = record {
    life = life_by a b deed l.life;
    there = among_next l.life l.there;
    host = (by_same a b deed l.life).host ∙ l.host;
    peer = (by_same a b deed l.life).peer ∙ l.peer;
    goes = by (life_by a b deed l.life).ended refl;
    socket = (by_same a b deed l.life).socket ∙ l.socket ∙ sym own;
    foreign = (by_same a b deed l.life).foreign ∙ l.foreign ∙ sym foreign;
  } where
    by : (v : Bool) → (life_by a b deed l.life).ended ≡ v → v ≡ false
    by true t = clash (true ≡ false) (is_there l.life.socket l.life.foreign new) (among_there new e l.life.socket l.life.foreign there (own ∙ sym l.socket) (foreign ∙ sym l.foreign)) (by_over a b deed l.life es new does.1 l.goes t)
    by false t = refl

  opens_next : (e : Entry) → Among e new → e.mine ≡ true → is_open e ≡ true → LifeFor a b e (After a b deed lives)
  opens_next e there mine o = elim (does.0 e there) [
    | inl f ↦ from f
    | inr n ↦ clash _ (is_some e.asked) (open_parts e o).asked (ap is_some n.unasked)
  ] where
    from : From deed es e → LifeFor a b e (After a b deed lives)
    from f = elim (f.becomes.opens o) [
      | inl was ↦ opens_old e there f.end f.becomes.own f.becomes.foreign (c.opens f.end f.there (sym f.becomes.mine ∙ mine) was)
      | inr as_new ↦ opens_new deed e as_new
    ]

  linked_next : (e : Entry) → Among e new → IsLinked e
  linked_next e there = elim (does.0 e there) [ inl f ↦ f.becomes.linked (c.linked f.end f.there) | inr n ↦ n.linked ]

  -- ---- a new life

  module _ (e : Entry) (u v : ℕ) (o : Opening e u v es new) where
    fresh : (link : ℕ) → (l : Lives told a b number gone es r s lives link (named (name_of number gone) e)) → ⊥
    fresh link l = by l.life.ended refl where
      own : l.life.socket ≡ e.own
      own = tells.own l.life.socket l.life.foreign l.gone_before e.own e.foreign (gone e.own e.foreign) l.is

      foreign : l.life.foreign ≡ e.foreign
      foreign = tells.foreign l.life.socket l.life.foreign l.gone_before e.own e.foreign (gone e.own e.foreign) l.is

      before : l.gone_before ≡ gone e.own e.foreign
      before = tells.gone l.life.socket l.life.foreign l.gone_before e.own e.foreign (gone e.own e.foreign) l.is

      by : (w : Bool) → l.life.ended ≡ w → ⊥
      by true t =
          let same : gone l.life.socket l.life.foreign ≡ gone e.own e.foreign = ap (λ (n : ℕ). gone n l.life.foreign) own ∙ ap (λ (n : ℕ). gone e.own n) foreign in
          absurd (omega (arith, l.carried.over t, same, before))
      by false t =
          let h : EndOf es l.life = old l.life l.there l.host l.peer t in
          let one : h.end ≡ o.before = the_end es l.life h o.before o.there o.was_mine (sym o.own ∙ sym own) in
          clash ⊥ (has_opened o.before) (subst (λ (z : Entry). has_opened z ≡ true) one (end_opened es l.life h)) o.unopened

    blank_new : (link : ℕ) → (link == 0) ≡ false → Receives (name_of number gone) link (deeds.Opens e u v) (r link) (rr link) → HasTaken ((rr link).taken (named (name_of number gone) e)) ((rr link).granted (named (name_of number gone) e)) ((rr link).returned (named (name_of number gone) e)) (new_life a e.own b e.foreign u v)
    blank_new link other q = elim (c.takes link other (named (name_of number gone) e)) [
      | inr l ↦ absurd (fresh link l.0)
      | inl k ↦
          record {
            bits = sym (ap all_bits (q.taken (named (name_of number gone) e) ∙ k.taken));
            messages = sym (ap length (q.taken (named (name_of number gone) e) ∙ k.taken));
            granted_messages = sym (ap (λ (z : Allocation). z.messages) (q.granted (named (name_of number gone) e)) ∙ k.granted_messages);
            granted_bits = sym (ap (λ (z : Allocation). z.bits) (q.granted (named (name_of number gone) e)) ∙ k.granted_bits);
            returned_messages = sym (ap (λ (z : Allocation). z.messages) (q.returned (named (name_of number gone) e)) ∙ k.returned_messages);
            returned_bits = sym (ap (λ (z : Allocation). z.bits) (q.returned (named (name_of number gone) e)) ∙ k.returned_bits);
          }
    ]

    unsent_new : (link : ℕ) → (link == 0) ≡ false → Sends (name_of number gone) link (deeds.Opens e u v) (s link) (ss link) → HasSent ((ss link).sent (named (name_of number gone) e)) (new_life a e.own b e.foreign u v)
    unsent_new link other q = elim (c.sends link other (named (name_of number gone) e)) [
      | inr l ↦ absurd (fresh link l.0)
      | inl k ↦ record { bits = sym (ap all_bits (q (named (name_of number gone) e) ∙ k)); messages = sym (ap length (q (named (name_of number gone) e) ∙ k)) }
    ]

    new_next : EndOf new (new_life a e.own b e.foreign u v) → ((link : ℕ) → (link == 0) ≡ false → Receives (name_of number gone) link (deeds.Opens e u v) (r link) (rr link)) → ((link : ℕ) → Sends (name_of number gone) link (deeds.Opens e u v) (s link) (ss link))
        → (link : ℕ) × (g : ℕ) × CarriedOn next_told number (gone_by es new gone) new rr ss link g (new_life a e.own b e.foreign u v)
    new_next h q t =
        let l : HasLink e = o.linked (c.linked o.before o.there) in (
          l.link,
          gone e.own e.foreign,
          record {
            other = l.other;
            taken = λ even. blank_new l.link l.other (q l.link l.other);
            sent = λ odd. unsent_new l.link l.other (t l.link);
            goes = λ k. sym (gone_same es new gone e.own e.foreign (among_there new e e.own e.foreign o.now refl refl));
            linked = λ k f there mine own. ap (λ (z : Entry). z.link) (sym (the_end new (new_life a e.own b e.foreign u v) h f there mine own) ∙ the_end new (new_life a e.own b e.foreign u v) h e o.now o.mine refl) ∙ l.is;
            over = λ k. absurd (let z : false ≡ true = k in cc);
            named = subst (λ (n : ℕ). next_told e.own e.foreign n v) (gone_same es new gone e.own e.foreign (among_there new e e.own e.foreign o.now refl refl)) (born e o.now v o.partner);
          },
        )

  -- ---- all of it

  new_by_deed : (d : Deed) → Acts d es new → ((link : ℕ) → (link == 0) ≡ false → Receives (name_of number gone) link d (r link) (rr link)) → ((link : ℕ) → Sends (name_of number gone) link d (s link) (ss link))
      → (x : Life) → Among x (new_by a b d) → (x.ended ≡ false → EndOf new x) → (link : ℕ) × (g : ℕ) × CarriedOn next_told number (gone_by es new gone) new rr ss link g x
  new_by_deed (deeds.Opens e u v) act q t x (inl is) h =
      subst (λ (z : Life). (z.ended ≡ false → EndOf new z) → (link : ℕ) × (g : ℕ) × CarriedOn next_told number (gone_by es new gone) new rr ss link g z) is (λ k. new_next e u v act (k refl) q t) h
  new_by_deed (deeds.Opens e u v) act q t x (inr is) h = absurd is
  new_by_deed d act q t x is h = absurd is

  all_next : (x : Life) → Among x (After a b deed lives) → x.host ≡ a → x.peer ≡ b → (link : ℕ) × (g : ℕ) × CarriedOn next_told number (gone_by es new gone) new rr ss link g x
  all_next x there host peer = elim (among_either _ _ x there) [
    | inl was ↦ from (among_map _ lives x was)
    | inr is ↦ new_by_deed deed does.1 received sent x is (λ t. now x there host peer t)
  ] where
    from : (y : Life) × Among y lives × (life_by a b deed y ≡ x) → (link : ℕ) × (g : ℕ) × CarriedOn next_told number (gone_by es new gone) new rr ss link g x
    from y =
        let was_host : y.0.host ≡ a = sym (by_same a b deed y.0).host ∙ ap (λ (z : Life). z.host) y.2 ∙ host in
        let was_peer : y.0.peer ≡ b = sym (by_same a b deed y.0).peer ∙ ap (λ (z : Life). z.peer) y.2 ∙ peer in
        let k : (link : ℕ) × (g : ℕ) × CarriedOn told number gone es r s link g y.0 = c.all y.0 y.1 was_host was_peer in
        (k.0, k.1, subst (λ (z : Life). CarriedOn next_told number (gone_by es new gone) new rr ss k.0 k.1 z) y.2 (next y.0 y.1 was_host was_peer k.0 k.1 k.2))

  pub carry_next : Carry next_told a b number (gone_by es new gone) new rr ss (After a b deed lives)
  carry_next = record { all = all_next; takes = takes_next; sends = sends_next; opens = opens_next; linked = linked_next }
