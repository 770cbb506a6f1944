-- How far ends have come once they are changed.
use Rattle.host_keeps_streams.proofs.Common.{◌≡◌, ℕ, Bool, not, List, [], ◌∷◌, ◌++◌, map, filter, find, Option, Some, None, is_some, refl, ap, sym, subst, ◌∙◌, is_receive_socket, Allocation, asked_on_link, asked_with_size, changed_first, closed_by_partner, has_cls, is_link, is_over, is_receiving, must_close, receiving_end, refused_end, sending_end, Closing, Entry, not_is, IsFormed, AreFormed}
use Rattle.std.proofs.Common.{true, false}
use Rattle.ncp_control.specs.Allocation as counters
use Rattle.host_pairs.specs.declared.entry.Closing.TheVariants as closing
use Rattle.host_keeps_streams.proofs.Ending.{shut_one, stays}
use Rattle.host_keeps_streams.proofs.Lists.{unlike}
use Rattle.host_keeps_streams.proofs.Sweeping.{over_stays}
use Rattle.host_pairs.proofs.lemmas.{some_is}

formed_step : (test : Entry → Bool) (e y : Entry) (ys : List Entry) → (find test ys ≡ Some e → IsFormed e) → IsFormed y → (b : Bool) → test y ≡ b → find test (y ∷ ys) ≡ Some e → IsFormed e
formed_step test e y ys rest k true t f = let r : Some y ≡ Some e = rw t at f in subst IsFormed (some_is y e r) k
formed_step test e y ys rest k false t f = rest (rw t at f)

pub formed_found : (test : Entry → Bool) (e : Entry) (es : List Entry) → AreFormed es → find test es ≡ Some e → IsFormed e
formed_found test e [] k f = absurd (cc)
formed_found test e (y ∷ ys) k f = formed_step test e y ys (formed_found test e ys k.1) k.0 (test y) refl f

-- ---- changes

changed_step : (test : Entry → Bool) (change : Entry → Entry) (e y : Entry) (ys : List Entry) → AreFormed (y ∷ ys) → IsFormed (change e) → (find test ys ≡ Some e → AreFormed (changed_first test change ys)) → (b : Bool) → test y ≡ b → find test (y ∷ ys) ≡ Some e
    → AreFormed (changed_first test change (y ∷ ys))
changed_step test change e y ys k new rest true t f =
    let r : Some y ≡ Some e = rw t at f in rw t (subst (λ (x : Entry). IsFormed (change x)) (sym (some_is y e r)) new, k.1)
changed_step test change e y ys k new rest false t f = let r : find test ys ≡ Some e = rw t at f in rw t (k.0, rest r)

-- the end that is found is changed
pub formed_changed : (test : Entry → Bool) (change : Entry → Entry) (e : Entry) (es : List Entry) → AreFormed es → IsFormed (change e) → find test es ≡ Some e → AreFormed (changed_first test change es)
formed_changed test change e [] k new f = absurd (cc)
formed_changed test change e (y ∷ ys) k new f = changed_step test change e y ys k new (formed_changed test change e ys k.1 new) (test y) refl f

some_step : (test : Entry → Bool) (change : Entry → Entry) (y : Entry) (ys : List Entry) → AreFormed (y ∷ ys) → ((x : Entry) → test x ≡ true → IsFormed x → IsFormed (change x)) → AreFormed (changed_first test change ys) → (b : Bool) → test y ≡ b
    → AreFormed (changed_first test change (y ∷ ys))
some_step test change y ys k new rest true t = rw t (new y t k.0, k.1)
some_step test change y ys k new rest false t = rw t (k.0, rest)

-- whatever passes is changed
pub formed_some : (test : Entry → Bool) (change : Entry → Entry) (es : List Entry) → AreFormed es → ((x : Entry) → test x ≡ true → IsFormed x → IsFormed (change x)) → AreFormed (changed_first test change es)
formed_some test change [] k new = tt
formed_some test change (y ∷ ys) k new = some_step test change y ys k new (formed_some test change ys k.1 new) (test y) refl

pub formed_append : (es : List Entry) (e : Entry) → AreFormed es → IsFormed e → AreFormed (es ++ e ∷ [])
formed_append [] e k one = (one, tt)
formed_append (y ∷ ys) e k one = (k.0, formed_append ys e k.1 one)

-- ---- new ends

pub refused_formed : (own foreign stamp : ℕ) → IsFormed (refused_end own foreign stamp)
refused_formed own foreign stamp = record {
  live = refl;
  told = λ i l p. absurd (cc);
  linked = λ i l. absurd (cc);
  unlinked = λ i p. refl;
  sized = λ i p. absurd (cc);
  ungranted = λ i p. refl;
  shut = λ i l p. refl;
}

pub sending_formed : (own foreign z : ℕ) → IsFormed (sending_end own foreign z)
sending_formed own foreign z = record {
  live = refl;
  told = λ i l p. refl;
  linked = λ i l. refl;
  unlinked = λ i p. refl;
  sized = λ i p. refl;
  ungranted = λ i p. refl;
  shut = λ i l p. absurd (cc);
}

pub answering_formed : (own foreign z stamp link : ℕ) → IsFormed (asked_on_link stamp link (sending_end own foreign z))
answering_formed own foreign z stamp link = record {
  live = refl;
  told = λ i l p. refl;
  linked = λ i l. refl;
  unlinked = λ i p. absurd (cc);
  sized = λ i p. refl;
  ungranted = λ i p. refl;
  shut = λ i l p. absurd (cc);
}

pub receiving_formed : (own foreign link : ℕ) → is_receive_socket own ≡ true → IsFormed (receiving_end own foreign link)
receiving_formed own foreign link even = record {
  live = refl;
  told = λ i l p. absurd (cc);
  linked = λ i l. absurd (unlike (is_receive_socket own) even i);
  unlinked = λ i p. absurd (unlike (is_receive_socket own) even i);
  sized = λ i p. absurd (unlike (is_receive_socket own) even i);
  ungranted = λ i p. refl;
  shut = λ i l p. absurd (cc);
}

pub linked_formed : (own foreign z stamp link : ℕ) → is_receive_socket own ≡ true → IsFormed (asked_with_size stamp z (receiving_end own foreign link))
linked_formed own foreign z stamp link even = record {
  live = refl;
  told = λ i l p. refl;
  linked = λ i l. refl;
  unlinked = λ i p. absurd (cc);
  sized = λ i p. refl;
  ungranted = λ i p. refl;
  shut = λ i l p. absurd (cc);
}

-- ---- an end that is changed

pub on_link_formed : (stamp link : ℕ) (e : Entry) → IsFormed e → is_receiving e ≡ false → is_some e.partner ≡ false → IsFormed (asked_on_link stamp link e)
on_link_formed stamp link e f sends first = record {
  live = f.live;
  told = λ i l p. f.sized sends first;
  linked = λ i l. f.sized sends first;
  unlinked = λ i p. absurd (cc);
  sized = λ i p. f.sized sends first;
  ungranted = λ i p. f.ungranted sends first;
  shut = λ i l p. absurd (cc);
}

pub with_size_formed : (stamp z : ℕ) (e : Entry) → IsFormed e → is_receiving e ≡ true → IsFormed (asked_with_size stamp z e)
with_size_formed stamp z e f there = record {
  live = f.live;
  told = λ i l p. refl;
  linked = λ i l. refl;
  unlinked = λ i p. absurd (unlike (is_receiving e) there i);
  sized = λ i p. refl;
  ungranted = λ i p. absurd (unlike (is_receiving e) there i);
  shut = λ i l p. absurd (unlike (is_receiving e) there i);
}

-- an end on a link had its request
pub counted_formed : (a : Allocation) (e : Entry) → IsFormed e → is_some e.link ≡ true → IsFormed (record e { allocation = a })
counted_formed a e f linked = record {
  live = f.live;
  told = f.told;
  linked = f.linked;
  unlinked = f.unlinked;
  sized = f.sized;
  ungranted = λ i p. (let none : is_some e.link ≡ false = ap is_some (f.unlinked i p) in absurd (unlike (is_some e.link) linked none));
  shut = f.shut;
}

pub link_there : (link : ℕ) (o : Option ℕ) → is_link link o ≡ true → is_some o ≡ true
link_there link None e = absurd (cc)
link_there link (Some l) e = refl

-- ---- ends that close

-- all but what a CLS changes
pub record IsNearly (e : Entry) : Type 0 where
  pub told : is_receiving e ≡ true → is_some e.link ≡ true → is_some e.partner ≡ true → is_some e.size ≡ true
  pub linked : is_receiving e ≡ false → is_some e.link ≡ true → is_some e.size ≡ true
  pub unlinked : is_receiving e ≡ false → is_some e.partner ≡ false → e.link ≡ None
  pub sized : is_receiving e ≡ false → is_some e.partner ≡ false → is_some e.size ≡ true
  pub ungranted : is_receiving e ≡ false → is_some e.partner ≡ false → e.allocation ≡ counters.nothing

nearly : (e : Entry) → IsFormed e → IsNearly e
nearly e f = record { told = f.told; linked = f.linked; unlinked = f.unlinked; sized = f.sized; ungranted = f.ungranted }

shut_formed : (busy : List ℕ) (e : Entry) → IsNearly e → (is_receiving e ≡ false → e.link ≡ None → e.partner_closed ≡ true → has_cls (shut_one busy e).closing ≡ true) → stays (shut_one busy e) ≡ true → IsFormed (shut_one busy e)
shut_formed busy e f shut live = record {
  live = not_is _ live;
  told = f.told;
  linked = f.linked;
  unlinked = f.unlinked;
  sized = f.sized;
  ungranted = f.ungranted;
  shut = shut;
}

still_closed : (busy : List ℕ) (e : Entry) → has_cls e.closing ≡ true → has_cls (shut_one busy e).closing ≡ true
still_closed busy e closed = by (must_close busy e) refl where
  by : (v : Bool) → must_close busy e ≡ v → has_cls (shut_one busy e).closing ≡ true
  by true t = rw t refl
  by false t = rw t closed

closed_without : (busy : List ℕ) (e : Entry) → is_receiving e ≡ false → e.link ≡ None → (v : Closing) → e.closing ≡ v → has_cls (shut_one busy (closed_by_partner e)).closing ≡ true
closed_without busy e sends none closing.No same = rw (same, sends, none) refl
closed_without busy e sends none closing.Due same = rw (same, sends, none) refl
closed_without busy e sends none closing.Queued same = rw same refl
closed_without busy e sends none closing.Sent same = rw same refl

formed_closed : (busy : List ℕ) (e : Entry) → IsFormed e → stays (shut_one busy (closed_by_partner e)) ≡ true → IsFormed (shut_one busy (closed_by_partner e))
formed_closed busy e f live = shut_formed busy _ (record { told = f.told; linked = f.linked; unlinked = f.unlinked; sized = f.sized; ungranted = f.ungranted }) (λ i n p. closed_without busy e i n e.closing refl) live

settled_step : (busy : List ℕ) (x : Entry) (zs : List Entry) → (stays (shut_one busy x) ≡ true → IsFormed (shut_one busy x)) → AreFormed (filter stays zs) → (b : Bool) → stays (shut_one busy x) ≡ b → AreFormed (filter stays (shut_one busy x ∷ zs))
settled_step busy x zs one rest true t = rw t (one t, rest)
settled_step busy x zs one rest false t = rw t rest

settled_one : (busy : List ℕ) (y : Entry) → IsFormed y → stays (shut_one busy y) ≡ true → IsFormed (shut_one busy y)
settled_one busy y f live = shut_formed busy y (nearly y f) (λ i n p. still_closed busy y (f.shut i n p)) live

formed_swept : (busy : List ℕ) (es : List Entry) → AreFormed es → AreFormed (filter stays (map (shut_one busy) es))
formed_swept busy [] k = tt
formed_swept busy (y ∷ ys) k = settled_step busy y (map (shut_one busy) ys) (settled_one busy y k.0) (formed_swept busy ys k.1) _ refl

closed_step : (busy : List ℕ) (test : Entry → Bool) (y : Entry) (ys : List Entry) → AreFormed (y ∷ ys) → AreFormed (filter stays (map (shut_one busy) (changed_first test closed_by_partner ys))) → (b : Bool) → test y ≡ b
    → AreFormed (filter stays (map (shut_one busy) (changed_first test closed_by_partner (y ∷ ys))))
closed_step busy test y ys k rest true t =
    rw t (settled_step busy _ (map (shut_one busy) ys) (formed_closed busy y k.0) (formed_swept busy ys k.1) _ refl)
closed_step busy test y ys k rest false t = rw t (settled_step busy y (map (shut_one busy) (changed_first test closed_by_partner ys)) (settled_one busy y k.0) rest _ refl)

-- a CLS is heard, and all settle
pub formed_shut : (busy : List ℕ) (test : Entry → Bool) (es : List Entry) → AreFormed es → AreFormed (filter stays (map (shut_one busy) (changed_first test closed_by_partner es)))
formed_shut busy test [] k = tt
formed_shut busy test (y ∷ ys) k = closed_step busy test y ys k (formed_shut busy test ys k.1) (test y) refl

settled_live : (busy : List ℕ) (es : List Entry) → AreFormed es → filter stays (map (shut_one busy) es) ≡ map (shut_one busy) es
settled_live busy [] k = refl
settled_live busy (y ∷ ys) k = let live : stays (shut_one busy y) ≡ true = over_stays busy y ∙ ap not (k.0).live in rw live (ap (λ (zs : List Entry). shut_one busy y ∷ zs) (settled_live busy ys k.1))

-- all settle
pub formed_settled : (busy : List ℕ) (es : List Entry) → AreFormed es → AreFormed (map (shut_one busy) es)
formed_settled busy es k = subst AreFormed (settled_live busy es k) (formed_swept busy es k)
