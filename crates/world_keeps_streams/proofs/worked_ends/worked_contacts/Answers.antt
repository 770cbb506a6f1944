use Rattle.world_keeps_streams.proofs.Common.{◌≡◌, inl, inr, ◌||◌, Bool, true, false, List, [], ◌∷◌, ◌++◌, refl, ap, sym, subst, list_any, Crossing, Called, Fate}
use Rattle.host_pairs.specs.Control.{Legal, orders_of}
use Rattle.sockets.specs.Worked.{control, first, second, RTS, STR}
use Rattle.promise.specs.Ends.{Course, crosses, is_contact, Leaves, AreLeft, IsLeft, contacts_now}
use Rattle.bit_messages.specs.Octets.{octets_of}
use Rattle.interface.specs.declared.crossing.Crossing.TheVariants as crossing
use Rattle.ncp_control.specs.Reading.{read_of, command_of}
use Rattle.ncp_control.specs.declared.command.Command.TheVariants as command
use Rattle.net_sim.specs.WorkedMoments.{rts, str}
use Rattle.promise.specs.declared.life.Fate.TheVariants as fate
use Rattle.promise.specs.declared.life.Life.{Life}
use Rattle.world_keeps_streams.specs.WorkedEnds.{asker, begun_then, both_asked, contact, later_life, own_cls, partner_cls, second_life}
use Rattle.world_keeps_streams.proofs.Ends.Courses.{begin, contacted_if}
use Rattle.world_keeps_streams.proofs.Ends.Rows.{one_left}
use Rattle.world_keeps_streams.proofs.worked_ends.worked_contacts.Goals as goal

-- a course by which places have a contact of the two hosts
two_with : (v0 v1 v2 : Bool) → Life → Course
two_with v0 v1 v2 x = contacted_if v2 2 (crosses x 1 (crossing.In (control second first (STR 33 16 8 ++ STR 35 18 8))) (contacted_if v1 1 (crosses x 0 (crossing.Out (control first second (RTS 16 33 2 ++ RTS 18 35 3))) (contacted_if v0 0 begin))))

four_with : (v0 v1 v2 v3 v4 : Bool) → (c d : Crossing) → Life → Course
four_with v0 v1 v2 v3 v4 c d x =
    contacted_if v4 4 (crosses x 3 d (contacted_if v3 3 (crosses x 2 c (contacted_if v2 2 (crosses x 1 (crossing.In str) (contacted_if v1 1 (crosses x 0 (crossing.Out rts) (contacted_if v0 0 begin))))))))

both_two : (contacts : List Called) (log : List Crossing) (f h : Fate) → IsLeft contacts log asker f → IsLeft contacts log second_life h → AreLeft contacts log (asker ∷ second_life ∷ []) (f ∷ h ∷ [])
both_two contacts log f h left more x g (inl e) = subst (λ (k : Fate). IsLeft contacts log x k) (sym e.1) (subst (λ (z : Life). IsLeft contacts log z f) (sym e.0) left)
both_two contacts log f h left more x g (inr (inl e)) = subst (λ (k : Fate). IsLeft contacts log x k) (sym e.1) (subst (λ (z : Life). IsLeft contacts log z h) (sym e.0) more)
both_two contacts log f h left more x g (inr (inr none)) = absurd none

pub returns-clause-reset : goal.returns-clause-reset
unfolding octets_of orders_of read_of command_of
returns-clause-reset c = record {
  contacts = contact first 2 second ∷ [];
  are = (λ e. absurd (let no : false ≡ true = e in cc), tt);
  left = one_left (contact first 2 second ∷ []) (begun_then []) asker fate.Reset (record { begins = refl; fate = tt });
}

pub returns-clause-stopped : goal.returns-clause-stopped
unfolding octets_of orders_of read_of command_of
returns-clause-stopped c = record {
  contacts = contact first 2 second ∷ [];
  are = (λ e. absurd (let no : false ≡ true = e in cc), tt);
  left =
      one_left (contact first 2 second ∷ []) (begun_then (crossing.Down first ∷ [])) asker fate.Reset
      (record { begins = refl; fate = tt });
}

pub returns-clause-open : goal.returns-clause-open
unfolding octets_of orders_of read_of command_of
returns-clause-open c = record {
  contacts = [];
  are = (λ e. absurd (let no : false ≡ true = e in cc), tt);
  left = one_left [] (begun_then []) asker fate.Open (record { begins = refl; fate = refl });
}

pub returns-clause-both : goal.returns-clause-both
unfolding octets_of orders_of read_of command_of
returns-clause-both c = record {
  contacts = contact first 2 second ∷ [];
  are = (λ e. absurd (let no : false ≡ true = e in cc), tt);
  left = both_two (contact first 2 second ∷ []) both_asked fate.Reset fate.Reset (record { begins = refl; fate = tt }) (record { begins = refl; fate = tt });
}

-- a contact is one of both lives
one_off : (v0 v1 v2 : Bool) → Leaves (two_with v0 v1 v2 asker).stage fate.Reset → Leaves (two_with v0 v1 v2 second_life).stage fate.Open → ⊥
unfolding two_with octets_of orders_of read_of command_of
one_off true true true a b = b
one_off true true false a b = a
one_off true false true a b = b
one_off true false false a b = a
one_off false true true a b = b
one_off false true false a b = a
one_off false false true a b = b
one_off false false false a b = a

pub returns-clause-one : goal.returns-clause-one
unfolding two_with octets_of orders_of read_of command_of
returns-clause-one c l = one_off (list_any (is_contact first second 0) l.contacts) (list_any (is_contact first second 1) l.contacts) (list_any (is_contact first second 2) l.contacts) (l.left asker fate.Reset (inl (refl, refl))).fate (l.left second_life fate.Open (inr (inl (refl, refl)))).fate

-- one that ends the first life comes before the second's request, or between its requests, or ends it too
rst_off : (v0 v1 v2 v3 v4 : Bool) → (v2 ≡ true → ⊥) → Leaves (four_with v0 v1 v2 v3 v4 (crossing.Out (control first second (RTS 18 35 3))) (crossing.In (control second first (STR 35 18 8))) asker).stage fate.Reset → (four_with v0 v1 v2 v3 v4 (crossing.Out (control first second (RTS 18 35 3))) (crossing.In (control second first (STR 35 18 8))) later_life).early ≡ false → Leaves (four_with v0 v1 v2 v3 v4 (crossing.Out (control first second (RTS 18 35 3))) (crossing.In (control second first (STR 35 18 8))) later_life).stage fate.Open → ⊥
unfolding four_with octets_of orders_of read_of command_of
rst_off true true true true true off a e b = off refl
rst_off true true true true false off a e b = off refl
rst_off true true true false true off a e b = off refl
rst_off true true true false false off a e b = off refl
rst_off true true false true true off a e b = absurd (let no : true ≡ false = e in cc)
rst_off true true false true false off a e b = absurd (let no : true ≡ false = e in cc)
rst_off true true false false true off a e b = b
rst_off true true false false false off a e b = a
rst_off true false true true true off a e b = off refl
rst_off true false true true false off a e b = off refl
rst_off true false true false true off a e b = off refl
rst_off true false true false false off a e b = off refl
rst_off true false false true true off a e b = absurd (let no : true ≡ false = e in cc)
rst_off true false false true false off a e b = absurd (let no : true ≡ false = e in cc)
rst_off true false false false true off a e b = b
rst_off true false false false false off a e b = a
rst_off false true true true true off a e b = off refl
rst_off false true true true false off a e b = off refl
rst_off false true true false true off a e b = off refl
rst_off false true true false false off a e b = off refl
rst_off false true false true true off a e b = absurd (let no : true ≡ false = e in cc)
rst_off false true false true false off a e b = absurd (let no : true ≡ false = e in cc)
rst_off false true false false true off a e b = b
rst_off false true false false false off a e b = a
rst_off false false true true true off a e b = off refl
rst_off false false true true false off a e b = off refl
rst_off false false true false true off a e b = off refl
rst_off false false true false false off a e b = off refl
rst_off false false false true true off a e b = absurd (let no : true ≡ false = e in cc)
rst_off false false false true false off a e b = absurd (let no : true ≡ false = e in cc)
rst_off false false false false true off a e b = b
rst_off false false false false false off a e b = a

pub returns-clause-no_rst : goal.returns-clause-no_rst
unfolding four_with octets_of orders_of read_of command_of
returns-clause-no_rst c l =
    rst_off (list_any (is_contact first second 0) l.contacts) (list_any (is_contact first second 1) l.contacts) (list_any (is_contact first second 2) l.contacts) (list_any (is_contact first second 3) l.contacts) (list_any (is_contact first second 4) l.contacts)
    (λ is. (let text : orders_of (control first second (RTS 18 35 3)).text ≡ Legal command.Rst ∷ [] = (l.are.0 (ap (λ (v : Bool). v || contacts_now l.contacts first second (crossing.Out rts ∷ [])) is)).1 in absurd (cc)))
    (l.left asker fate.Reset (inl (refl, refl))).fate (l.left later_life fate.Open (inr (inl (refl, refl)))).begins (l.left later_life fate.Open (inr (inl (refl, refl)))).fate

-- its own CLS is the first, or it is reset
first_off : (v0 v1 v2 v3 v4 : Bool) → Leaves (four_with v0 v1 v2 v3 v4 (crossing.Out own_cls) (crossing.In partner_cls) asker).stage fate.Ended → ⊥
unfolding four_with octets_of orders_of read_of command_of
first_off true true true true true a = a
first_off true true true true false a = a
first_off true true true false true a = a
first_off true true true false false a = a
first_off true true false true true a = a
first_off true true false true false a = a
first_off true true false false true a = absurd (let no : true ≡ false = a in cc)
first_off true true false false false a = absurd (let no : true ≡ false = a in cc)
first_off true false true true true a = a
first_off true false true true false a = a
first_off true false true false true a = a
first_off true false true false false a = a
first_off true false false true true a = a
first_off true false false true false a = a
first_off true false false false true a = absurd (let no : true ≡ false = a in cc)
first_off true false false false false a = absurd (let no : true ≡ false = a in cc)
first_off false true true true true a = a
first_off false true true true false a = a
first_off false true true false true a = a
first_off false true true false false a = a
first_off false true false true true a = a
first_off false true false true false a = a
first_off false true false false true a = absurd (let no : true ≡ false = a in cc)
first_off false true false false false a = absurd (let no : true ≡ false = a in cc)
first_off false false true true true a = a
first_off false false true true false a = a
first_off false false true false true a = a
first_off false false true false false a = a
first_off false false false true true a = a
first_off false false false true false a = a
first_off false false false false true a = absurd (let no : true ≡ false = a in cc)
first_off false false false false false a = absurd (let no : true ≡ false = a in cc)

pub returns-clause-own_first : goal.returns-clause-own_first
unfolding four_with octets_of orders_of read_of command_of
returns-clause-own_first c l = first_off (list_any (is_contact first second 0) l.contacts) (list_any (is_contact first second 1) l.contacts) (list_any (is_contact first second 2) l.contacts) (list_any (is_contact first second 3) l.contacts) (list_any (is_contact first second 4) l.contacts) (l.left asker fate.Ended (inl (refl, refl))).fate
