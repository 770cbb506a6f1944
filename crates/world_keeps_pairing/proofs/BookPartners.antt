-- No two lives of a book have one request, and partners are partners both ways.
use Rattle.world_keeps_pairing.proofs.Common.{Bool, ◌≡◌, inl, inr, ℕ, suc, true, List, [], ◌∷◌, ◌++◌, Option, Some, None, refl, ap, sym, subst, ◌∙◌, arith, false, IsSome, Contains, Host, Crossing, is_receive_socket, is_send_socket, AreAmong, Receiver, Sender, Sockets, events_at, receiver, sender, run_at, safe_run, Moment, IsStory, events_of, crossings_of, law_events, origin_in, origin_or, place_or, steps, mixed_kept, AreOurs, Network}
use Rattle.pairing_law.specs.Partners.{IsIn, NoneOwns, OwnOnce, PartnerOnce, AreBoth}
use Rattle.pairing_law.specs.Sides.{Side, Life, both}
use Rattle.promise.specs.Safe.{AreTwo, Match, SafePartners, control_flow, last_out, own_request, partner_request, receives, Name, before, named}
use Rattle.world_keeps_pairing.specs.Lives.{is_between, life_of, openings, with_lives, ArePaired}
use Rattle.std.proofs.lemmas.List.Elements.{Contains-append_left, Contains-append_right}
use Rattle.interface.specs.Mailboxes as mail
use Rattle.pairing_law.specs.Partners as law
use Rattle.reset_law.specs.Runs.{IsRun}
use Rattle.promise.specs.declared.life.Life as book
use Rattle.world_keeps_pairing.proofs.Served.{AreServed}
use Rattle.world_keeps_pairing.proofs.LifeLists.{between_itself, in_among, once_among, own_once, partner_once, told_in, two_apart}
use Rattle.world_keeps_pairing.proofs.LinkRun.{all_tied}
use Rattle.world_keeps_pairing.proofs.LivesAmong.{by_sockets, lives_among}
use Rattle.world_keeps_pairing.proofs.Marks.{even_odd}
use Rattle.world_keeps_pairing.proofs.Origins.{are_origins}
use Rattle.world_keeps_pairing.proofs.Sides.{receiver_half, sender_half}
use Rattle.world_keeps_pairing.proofs.Went.{AllWent, Went, before_went, last_went, side_went, went_once}

-- ---- names

abbrev out_name : Name → Option Name → Name
out_name d None = d
out_name d (Some n) = n

record NamedBy (x : book.Life) (o : Option ℕ) (name : Name) : Type 0 where
  pub place : o ≡ Some name.place
  pub own : x.foreign ≡ name.own
  pub foreign : x.socket ≡ name.foreign

named_by : (x : book.Life) (o : Option ℕ) (name : Name) → named x o ≡ Some name → NamedBy x o name
named_by x None name e = absurd (let no_name : None ≡ Some name = e in cc)
named_by x (Some place) name e =
    let is : record { place = place; own = x.foreign; foreign = x.socket } ≡ name = ap (out_name name) e in
    record {
      place = ap (λ (n : Name). Some n.place) is;
      own = ap (λ (n : Name). n.own) is;
      foreign = ap (λ (n : Name). n.foreign) is;
    }

-- a place that is named by the number after it where there is none
pub place_there : (n : ℕ) (o : Option ℕ) → place_or (suc n) o ≡ n → o ≡ Some n
place_there n None e = absurd (omega (arith, e))
place_there n (Some k) e = ap (λ (j : ℕ). Some j) e

same_ends : (x y : book.Life) → x.host ≡ y.host → x.peer ≡ y.peer → x.socket ≡ y.socket → x.foreign ≡ y.foreign → is_between x.host x.peer x.socket x.foreign y ≡ true
same_ends x y e f g i = rw (e, f, g, i) (between_itself y)

-- ---- lists

went_in : (h p : Host) (log : List Crossing) (l : Life) (lives : List Life) → AllWent h p log lives → IsIn l lives → Went h p l.own log
went_in h p log l [] w i = absurd i
went_in h p log l (x ∷ lives) w (inl i) = subst (λ (v : Life). Went h p v.own log) (sym i) w.0
went_in h p log l (x ∷ lives) w (inr i) = went_in h p log l lives w.1 i

first_of : (x : book.Life) (xs : List book.Life) → Contains (x ∷ xs) x
first_of x xs = (0, omega arith, refl)

pub two_left : (x y : book.Life) (xs : List book.Life) → AreTwo xs x y → Contains xs x
two_left x y xs two =
    subst (λ (l : List book.Life). Contains l x) (sym two.3) (Contains-append_left (two.0 ++ x ∷ two.1) (y ∷ two.2) x (Contains-append_right two.0 (x ∷ two.1) x (first_of x two.1)))

pub two_right : (x y : book.Life) (xs : List book.Life) → AreTwo xs x y → Contains xs y
two_right x y xs two = subst (λ (l : List book.Life). Contains l y) (sym two.3) (Contains-append_right (two.0 ++ x ∷ two.1) (y ∷ two.2) y (first_of y two.2))

-- a life is known by its own request
not_owned : (p : ℕ) (y : Life) (lives : List Life) → NoneOwns p lives → IsIn y lives → y.own ≡ p → ⊥
not_owned p y [] none i e = i
not_owned p y (v ∷ lives) none (inl i) e = none.0 (ap (λ (l : Life). l.own) (sym i) ∙ e)
not_owned p y (v ∷ lives) none (inr i) e = not_owned p y lives none.1 i e

pub one_own : (x y : Life) (lives : List Life) → OwnOnce lives → IsIn x lives → IsIn y lives → x.own ≡ y.own → x ≡ y
one_own x y [] once i j e = absurd i
one_own x y (v ∷ lives) once (inl i) (inl j) e = i ∙ sym j
one_own x y (v ∷ lives) once (inl i) (inr j) e = absurd (not_owned v.own y lives once.0 j (sym e ∙ ap (λ (l : Life). l.own) i))
one_own x y (v ∷ lives) once (inr i) (inl j) e = absurd (not_owned v.own x lives once.0 i (e ∙ ap (λ (l : Life). l.own) j))
one_own x y (v ∷ lives) once (inr i) (inr j) e = one_own x y lives once.1 i j e

-- a place that is the same, whatever it is named by where there is none
some_place : (o : Option ℕ) → place_or 0 o ≡ place_or 1 o → IsSome o
some_place None e = absurd (omega (arith, e))
some_place (Some k) e = refl

some_name : (x : book.Life) (o : Option ℕ) → IsSome o → IsSome (named x o)
some_name x None i = absurd (let no_place : false ≡ true = i in cc)
some_name x (Some place) i = refl

pub other_sends : (x : book.Life) → receives x ≡ true → ArePaired x → is_send_socket x.foreign ≡ true
other_sends x here (inl p) = p.1
other_sends x here (inr p) = absurd (even_odd x.socket here p.0)

module _ (hosts : Network) (moments : List Moment) (story : IsStory hosts moments) (run : IsRun hosts (events_of moments)) (mails : mail.IsRun hosts.all (crossings_of moments)) (served : AreServed hosts moments) where
  -- ---- what the law says of openings

  safe : (a b : Host) → AreOurs hosts a b → (s : Sockets) → law.SafePartners (both (events_at s (steps a b (law_events moments))))
  safe a b ours s =
      safe_run (events_at s (steps a b (law_events moments)))
      (run_at s (steps a b (law_events moments)) ((all_tied hosts (origin_in (crossings_of moments)) moments (are_origins 0 (crossings_of moments) [] moments refl) story run served).tied a b ours).steps)

  owns : (h p : Host) → AreOurs hosts h p → (own foreign : ℕ) → OwnOnce (openings h p own foreign moments)
  owns h p ours own foreign =
      by_sockets OwnOnce h p own foreign moments (λ q. (safe h p ours _).own_once.0) (λ q. (safe p h (ours.1, ours.0) _).own_once.1) (λ u. tt)

  takes : (h p : Host) → AreOurs hosts h p → (own foreign : ℕ) → PartnerOnce (openings h p own foreign moments)
  takes h p ours own foreign =
      by_sockets PartnerOnce h p own foreign moments (λ q. (safe h p ours _).partner_once.0) (λ q. (safe p h (ours.1, ours.0) _).partner_once.1) (λ u. tt)

  no_both : (n : ℕ) → is_receive_socket n ≡ true → is_send_socket n ≡ true → (P : Type 0) → P
  no_both n e o P = absurd (even_odd n e o)

  turned : (h p : Host) → AreOurs hosts h p → (own foreign : ℕ) → AreBoth (openings h p own foreign moments) (openings p h foreign own moments)
  turned h p ours own foreign =
      by_sockets (λ l. AreBoth l (openings p h foreign own moments)) h p own foreign moments
      (λ q. by_sockets (λ l. AreBoth (receiver (record { receive = own; send = foreign }) (steps h p (law_events moments))).lives l) p h foreign own moments
      (λ r. no_both own q.0 r.1 _) (λ r. (safe h p ours (record { receive = own; send = foreign })).both_ways.0) (λ u x y i j. absurd j))
      (λ q. by_sockets (λ l. AreBoth (sender (record { receive = foreign; send = own }) (steps p h (law_events moments))).lives l) p h foreign own moments
      (λ r. (safe p h (ours.1, ours.0) (record { receive = foreign; send = own })).both_ways.1) (λ r. no_both own r.0 q.1 _) (λ u x y i j. absurd j))
      (λ u x y i. absurd i)

  went : (h p : Host) (own foreign : ℕ) → AllWent h p (crossings_of moments) (openings h p own foreign moments)
  went h p own foreign =
      by_sockets (AllWent h p (crossings_of moments)) h p own foreign moments
      (λ q. subst (λ (x : Side). AllWent h p (crossings_of moments) x.lives) (sym (receiver_half (record { receive = own; send = foreign }) h p (law_events moments)))
      (side_went h p (record { receive = own; send = foreign }) q Receiver (λ n. n) moments).1)
      (λ q. subst (λ (x : Side). AllWent h p (crossings_of moments) x.lives) (sym (sender_half (record { receive = foreign; send = own }) p h (law_events moments)))
      (side_went h p (record { receive = foreign; send = own }) q Sender (λ n. n) moments).1)
      (λ u. tt)

  -- ---- the lives of the book

  among : (none : ℕ) (h p : Host) → AreOurs hosts h p → (own foreign : ℕ) → AreAmong (with_lives (origin_or none (crossings_of moments) h p) h p own foreign (mixed_kept hosts.strange moments).book.lives []) (openings h p own foreign moments)
  among none h p ours own foreign = lives_among hosts (origin_or none (crossings_of moments)) moments (are_origins none (crossings_of moments) [] moments refl) story run mails served h p ours own foreign

  pub life_in : (none : ℕ) (x : book.Life) → AreOurs hosts x.host x.peer → Contains (mixed_kept hosts.strange moments).book.lives x → IsIn (life_of (origin_or none (crossings_of moments) x.host x.peer) x) (openings x.host x.peer x.socket x.foreign moments)
  life_in none x ours c =
      in_among (life_of (origin_or none (crossings_of moments) x.host x.peer) x) (with_lives (origin_or none (crossings_of moments) x.host x.peer) x.host x.peer x.socket x.foreign (mixed_kept hosts.strange moments).book.lives []) (openings x.host x.peer x.socket x.foreign moments)
      (among none x.host x.peer ours x.socket x.foreign) (told_in (origin_or none (crossings_of moments) x.host x.peer) x.host x.peer x.socket x.foreign x (mixed_kept hosts.strange moments).book.lives c (between_itself x))

  -- its own request went out to its peer
  own_went : (x : book.Life) → AreOurs hosts x.host x.peer → Contains (mixed_kept hosts.strange moments).book.lives x → Went x.host x.peer x.own_stamp (crossings_of moments)
  own_went x ours c =
      went_in x.host x.peer (crossings_of moments) (life_of (origin_or 0 (crossings_of moments) x.host x.peer) x) (openings x.host x.peer x.socket x.foreign moments) (went x.host x.peer x.socket x.foreign) (life_in 0 x ours c)

  -- and its partner's request came from there
  partner_went : (x : book.Life) (n : ℕ) → last_out (control_flow x.peer x.host) (before x.partner_stamp (crossings_of moments)) ≡ Some n → Went x.peer x.host n (crossings_of moments)
  partner_went x n e = before_went x.peer x.host n x.partner_stamp (crossings_of moments) (last_went (control_flow x.peer x.host) n (before x.partner_stamp (crossings_of moments)) e)

  owned_once : (x y : book.Life) → AreOurs hosts x.host x.peer → AreOurs hosts y.host y.peer → AreTwo (mixed_kept hosts.strange moments).book.lives x y → own_request x ≡ own_request y → ⊥
  owned_once x y ours hers two e =
      let place : x.own_stamp ≡ y.own_stamp = ap (λ (n : Name). n.place) e in
      let wy : Went y.host y.peer x.own_stamp (crossings_of moments) = subst (λ (n : ℕ). Went y.host y.peer n (crossings_of moments)) (sym place) (own_went y hers (two_right x y (mixed_kept hosts.strange moments).book.lives two)) in
      let ends : (x.host ≡ y.host) × (x.peer ≡ y.peer) = went_once x.host x.peer y.host y.peer x.own_stamp (crossings_of moments) (own_went x ours (two_left x y (mixed_kept hosts.strange moments).book.lives two)) wy in
      two_apart (origin_or 0 (crossings_of moments) x.host x.peer) x.host x.peer x.socket x.foreign (λ (l : Life). l.own) x y (mixed_kept hosts.strange moments).book.lives two (between_itself x)
      (same_ends x y ends.0 ends.1 (ap (λ (n : Name). n.own) e) (ap (λ (n : Name). n.foreign) e))
      (once_among (λ (l : Life). l.own) (with_lives (origin_or 0 (crossings_of moments) x.host x.peer) x.host x.peer x.socket x.foreign (mixed_kept hosts.strange moments).book.lives []) (openings x.host x.peer x.socket x.foreign moments)
      (among 0 x.host x.peer ours x.socket x.foreign) (own_once (openings x.host x.peer x.socket x.foreign moments) (owns x.host x.peer ours x.socket x.foreign))) place

  taken_once : (x y : book.Life) (name : Name) → AreOurs hosts x.host x.peer → AreTwo (mixed_kept hosts.strange moments).book.lives x y → partner_request (crossings_of moments) x ≡ Some name → partner_request (crossings_of moments) y ≡ Some name → ⊥
  taken_once x y name ours two ex ey =
      let nx : NamedBy x (last_out (control_flow x.peer x.host) (before x.partner_stamp (crossings_of moments))) name = named_by x _ name ex in
      let ny : NamedBy y (last_out (control_flow y.peer y.host) (before y.partner_stamp (crossings_of moments))) name = named_by y _ name ey in
      let ends : (x.peer ≡ y.peer) × (x.host ≡ y.host) = went_once x.peer x.host y.peer y.host name.place (crossings_of moments) (partner_went x name.place nx.place) (partner_went y name.place ny.place) in
      let there : last_out (control_flow x.peer x.host) (before y.partner_stamp (crossings_of moments)) ≡ Some name.place =
      subst (λ (h : Host). last_out (control_flow x.peer h) (before y.partner_stamp (crossings_of moments)) ≡ Some name.place) (sym ends.1)
      (subst (λ (p : Host). last_out (control_flow p y.host) (before y.partner_stamp (crossings_of moments)) ≡ Some name.place) (sym ends.0) ny.place) in
      two_apart (origin_or 0 (crossings_of moments) x.host x.peer) x.host x.peer x.socket x.foreign (λ (l : Life). l.partner) x y (mixed_kept hosts.strange moments).book.lives two (between_itself x)
      (same_ends x y ends.1 ends.0 (nx.foreign ∙ sym ny.foreign) (nx.own ∙ sym ny.own))
      (once_among (λ (l : Life). l.partner) (with_lives (origin_or 0 (crossings_of moments) x.host x.peer) x.host x.peer x.socket x.foreign (mixed_kept hosts.strange moments).book.lives []) (openings x.host x.peer x.socket x.foreign moments)
      (among 0 x.host x.peer ours x.socket x.foreign) (partner_once (openings x.host x.peer x.socket x.foreign moments) (takes x.host x.peer ours x.socket x.foreign)))
      (ap (place_or 0) nx.place ∙ sym (ap (place_or 0) there))

  both_there : (x y : book.Life) → AreOurs hosts x.host x.peer → AreOurs hosts y.host y.peer → Contains (mixed_kept hosts.strange moments).book.lives x → Contains (mixed_kept hosts.strange moments).book.lives y → partner_request (crossings_of moments) x ≡ Some (own_request y) → partner_request (crossings_of moments) y ≡ Some (own_request x)
  both_there x y ours hers cx cy e =
      let nx : NamedBy x (last_out (control_flow x.peer x.host) (before x.partner_stamp (crossings_of moments))) (own_request y) = named_by x _ (own_request y) e in
      let ends : (x.peer ≡ y.host) × (x.host ≡ y.peer) = went_once x.peer x.host y.host y.peer y.own_stamp (crossings_of moments) (partner_went x y.own_stamp nx.place) (own_went y hers cy) in
      let none : ℕ = suc x.own_stamp in
      let there : openings x.peer x.host x.foreign x.socket moments ≡ openings y.host y.peer y.socket y.foreign moments = rw (ends.0, ends.1, nx.own, nx.foreign) refl in
      let iy : IsIn (life_of (origin_or (suc x.own_stamp) (crossings_of moments) y.host y.peer) y) (openings x.peer x.host x.foreign x.socket moments) =
      subst (λ (l : List Life). IsIn (life_of (origin_or (suc x.own_stamp) (crossings_of moments) y.host y.peer) y) l) (sym there) (life_in (suc x.own_stamp) y hers cy) in
      let back : place_or (suc x.own_stamp) (last_out (control_flow y.peer y.host) (before y.partner_stamp (crossings_of moments))) ≡ x.own_stamp =
      turned x.host x.peer ours x.socket x.foreign (life_of (origin_or (suc x.own_stamp) (crossings_of moments) x.host x.peer) x) (life_of (origin_or (suc x.own_stamp) (crossings_of moments) y.host y.peer) y)
      (life_in (suc x.own_stamp) x ours cx) iy (ap (place_or (suc x.own_stamp)) nx.place) in
      let out : last_out (control_flow y.peer y.host) (before y.partner_stamp (crossings_of moments)) ≡ Some x.own_stamp = place_there x.own_stamp (last_out (control_flow y.peer y.host) (before y.partner_stamp (crossings_of moments))) back in
      ap (named y) out
      ∙ ap (λ (n : ℕ). Some (record { place = x.own_stamp; own = n; foreign = y.socket })) (sym nx.foreign)
      ∙ ap (λ (n : ℕ). Some (record { place = x.own_stamp; own = x.socket; foreign = n })) (sym nx.own)

  -- its partner's request went out too
  partner_out : (x : book.Life) → AreOurs hosts x.host x.peer → Contains (mixed_kept hosts.strange moments).book.lives x → IsSome (last_out (control_flow x.peer x.host) (before x.partner_stamp (crossings_of moments)))
  partner_out x ours c =
      some_place _
      (ap (λ (l : Life). l.partner)
      (one_own _ _ _
      (owns x.host x.peer ours x.socket x.foreign) (life_in 0 x ours c) (life_in 1 x ours c) refl))

  pub partner_named : (x : book.Life) → AreOurs hosts x.host x.peer → Contains (mixed_kept hosts.strange moments).book.lives x → IsSome (partner_request (crossings_of moments) x)
  partner_named x ours c = some_name x _ (partner_out x ours c)

  -- and it went out of the host of the life whose own it is
  peers_there : (x y : book.Life) → AreOurs hosts x.host x.peer → AreOurs hosts y.host y.peer → Contains (mixed_kept hosts.strange moments).book.lives x → Contains (mixed_kept hosts.strange moments).book.lives y → partner_request (crossings_of moments) x ≡ Some (own_request y) → (x.peer ≡ y.host) × (y.peer ≡ x.host)
  peers_there x y ours hers cx cy e =
      let nx : NamedBy x (last_out (control_flow x.peer x.host) (before x.partner_stamp (crossings_of moments))) (own_request y) = named_by x _ (own_request y) e in
      let ends : (x.peer ≡ y.host) × (x.host ≡ y.peer) = went_once x.peer x.host y.host y.peer y.own_stamp (crossings_of moments) (partner_went x y.own_stamp nx.place) (own_went y hers cy) in
      (ends.0, sym ends.1)

  -- of any lives of the book between hosts with programs
  pub safe_partners : (lives : List book.Life) → ((x : book.Life) → Contains lives x → Contains (mixed_kept hosts.strange moments).book.lives x × AreOurs hosts x.host x.peer)
      → ((x y : book.Life) → AreTwo lives x y → AreTwo (mixed_kept hosts.strange moments).book.lives x y) → SafePartners (crossings_of moments) lives
  safe_partners lives one two = record {
    own_once = λ x y t. owned_once x y (one x (two_left x y lives t)).1 (one y (two_right x y lives t)).1 (two x y t);
    partner_once = λ x y name t. taken_once x y name (one x (two_left x y lives t)).1 (two x y t);
    named = λ x c. partner_named x (one x c).1 (one x c).0;
    peers = λ x y cx cy. peers_there x y (one x cx).1 (one y cy).1 (one x cx).0 (one y cy).0;
    both_ways = λ x y cx cy. both_there x y (one x cx).1 (one y cy).1 (one x cx).0 (one y cy).0;
  }

  -- ---- what matches

  -- one of a life's sockets receives and the other sends
  pub life_paired : (x : book.Life) → AreOurs hosts x.host x.peer → Contains (mixed_kept hosts.strange moments).book.lives x → ArePaired x
  life_paired x ours c =
      by_sockets (λ l. IsIn (life_of (origin_or 0 (crossings_of moments) x.host x.peer) x) l → ArePaired x) x.host x.peer x.socket x.foreign moments
      (λ q i. inl q) (λ q i. inr (q.1, q.0)) (λ u i. absurd i) (life_in 0 x ours c)

  -- a life that receives matches whose own request it took
  pub life_matches : (x y : book.Life) → AreOurs hosts x.host x.peer → AreOurs hosts y.host y.peer → Contains (mixed_kept hosts.strange moments).book.lives x → Contains (mixed_kept hosts.strange moments).book.lives y → receives x ≡ true → partner_request (crossings_of moments) x ≡ Some (own_request y) → Match (crossings_of moments) x y
  life_matches x y ours hers cx cy here e =
      let nx : NamedBy x (last_out (control_flow x.peer x.host) (before x.partner_stamp (crossings_of moments))) (own_request y) = named_by x _ (own_request y) e in
      record {
        receiving = here;
        sending = subst (λ (n : ℕ). is_send_socket n ≡ true) nx.own (other_sends x here (life_paired x ours cx));
        peers = peers_there x y ours hers cx cy e;
        sockets = (nx.own, sym nx.foreign);
        asked = e;
        answered = both_there x y ours hers cx cy e;
      }

  -- and no other
  pub life_alone : (receiver x y : book.Life) → AreOurs hosts x.host x.peer → AreOurs hosts y.host y.peer → AreTwo (mixed_kept hosts.strange moments).book.lives x y → Match (crossings_of moments) receiver x → Match (crossings_of moments) receiver y → ⊥
  life_alone receiver x y ours hers two mx my = owned_once x y ours hers two (ap (out_name (own_request x)) (sym mx.asked ∙ my.asked))
