-- Lines that no book has.
use Rattle.command_line.proofs.Common.{false≢true, Host, Reported, Life, Detail, AreLived, ungranted, AreOneBook, PrintsBook, PrintsPart, HostMessage}
use Rattle.std.proofs.Common.{◌≡◌, ◌==◌, ◌∙◌, ℕ, Bool, false, List, [], ◌∷◌, Option, ap, map, not, refl, subst, sym, true}
use Rattle.interface.specs.declared.crossing.Crossing.TheVariants as crossing
use Rattle.host_pairs.specs.declared.notice.Notice.TheVariants as notice
use Rattle.net_sim.specs.Book.{new_life}
use Rattle.promise.specs.declared.life.Amount.{Amount}
use Rattle.world_replay.specs.Output.{Crossed, Noticed, Said, Shown}
use Rattle.command_line.specs.Worked.{here, life_one, there, told_one, took_one}

pub never_out : (raw : Bool) (m : HostMessage) (lives : List Life) →
    AreOneBook raw (Crossed (crossing.In m) ∷ []) lives → ⊥
never_out raw m lives h = h.run.0.1

pub nothing_in : (raw : Bool) (h : Host) (socket : ℕ) (bits : List Bool) (lives : List Life) →
    AreOneBook raw (Noticed (record { host = h; place = 0; notice = notice.Arrived socket bits }) ∷ []) lives → ⊥
nothing_in true h socket bits lives book = let none : record { host = h; place = 0; notice = notice.Arrived socket bits } ∷ [] ≡ [] = book.told.no_notices in cc
nothing_in false h socket bits lives book = book.told

pub some_life : (x : Life) (xs : List Life) → x ∷ xs ≡ [] → ⊥
some_life x xs e = cc

pub no_life : (raw : Bool) (h peer : Host) (socket foreign own partner : ℕ) →
    AreOneBook raw (Noticed (record { host = h; place = 0; notice = notice.Opened socket peer foreign own partner }) ∷ []) [] → ⊥
no_life raw h peer socket foreign own partner book =
    some_life (new_life h socket peer foreign own partner) [] (sym book.lived)

pub no_notice : (raw : Bool) (life : Life) (lives : List Life) → AreOneBook raw [] (life ∷ lives) → ⊥
no_notice raw life lives book = some_life (ungranted life) (map ungranted lives) book.lived

pub no_programs : (m : HostMessage) → (m.flow.link.0 == 0) ≡ false →
    AreOneBook false (Crossed (crossing.Out m) ∷ []) [] → ⊥
no_programs m off book = false≢true (sym off ∙ book.told.0)

pub no_services : (raw : Bool) (m : HostMessage) (r : Reported) → (m.flow.link.0 == 0) ≡ false →
    AreOneBook raw (Crossed (crossing.Out m) ∷ Said r ∷ []) [] → ⊥
no_services true m r off book = let none : r ∷ [] ≡ [] = book.told.no_reports in cc
no_services false m r off book = false≢true (sym off ∙ book.told.0)

pub not_printed : (raw book : Bool) (detail : Detail) (before after : Option (List ℕ)) (m : HostMessage)
    (p : PrintsBook raw book detail before after) → p.shown ≡ Crossed (crossing.In m) ∷ [] → ⊥
not_printed raw book detail before after m p is =
    never_out raw m p.lives (subst (λ (shown : List Shown). AreOneBook raw shown p.lives) is p.one)

pub not_in_part : (raw : Bool) (detail : Detail) (before after : Option (List ℕ)) (m : HostMessage)
    (p : PrintsPart raw detail before after) → p.shown ≡ Crossed (crossing.In m) ∷ [] → ⊥
not_in_part raw detail before after m p is =
    never_out raw m p.lives (subst (λ (shown : List Shown). AreOneBook raw shown p.lives) is p.one)

-- ---- of one life

abbrev of_first : (Life → Bool) → List Life → Bool
of_first Is [] = false
of_first Is (x ∷ lives) = Is x

-- something that is true of the life which the lines make, and false of another one
other : (Is : Life → Bool) (x : Life) (m : HostMessage) → Is life_one ≡ true → Is (ungranted x) ≡ false → AreLived (took_one m) told_one (x ∷ []) → ⊥
other Is x m one none lived = false≢true (sym none ∙ ap (of_first Is) lived ∙ one)

abbrev first_bit : List Bool → Bool
first_bit [] = false
first_bit (b ∷ bits) = b

pub made : (m : HostMessage) → AreLived (took_one m) told_one (life_one ∷ [])
made m = refl

pub any_grant : (m : HostMessage) (granted : Amount) → AreLived (took_one m) told_one (record life_one { granted = granted } ∷ [])
any_grant m granted = refl

pub other_bits : (m : HostMessage) → AreLived (took_one m) told_one (record life_one { bits = false ∷ false ∷ [] } ∷ []) → ⊥
other_bits m = other (λ x. first_bit x.bits) (record life_one { bits = false ∷ false ∷ [] }) m refl refl

pub other_count : (m : HostMessage) → AreLived (took_one m) told_one (record life_one { messages = 2 } ∷ []) → ⊥
other_count m = other (λ x. x.messages == 1) (record life_one { messages = 2 }) m refl refl

pub other_stamp : (m : HostMessage) → AreLived (took_one m) told_one (record life_one { partner_stamp = 2 } ∷ []) → ⊥
other_stamp m = other (λ x. x.partner_stamp == 1) (record life_one { partner_stamp = 2 }) m refl refl

pub given_back : (m : HostMessage) → AreLived (took_one m) told_one (record life_one { returned = record { messages = 1; bits = 0 } } ∷ []) → ⊥
given_back m = other (λ x. x.returned.messages == 0) (record life_one { returned = record { messages = 1; bits = 0 } }) m refl refl

pub over : (m : HostMessage) → AreLived (took_one m) told_one (record life_one { ended = true } ∷ []) → ⊥
over m = other (λ x. not x.ended) (record life_one { ended = true }) m refl refl

pub stopped : (m : HostMessage) → AreLived (crossing.Down here ∷ took_one m) told_one (record life_one { ended = true } ∷ [])
stopped m = refl

pub other_stopped : (m : HostMessage) → AreLived (crossing.Down there ∷ took_one m) told_one (life_one ∷ [])
other_stopped m = refl

pub still_alive : (m : HostMessage) → AreLived (crossing.Down here ∷ took_one m) told_one (life_one ∷ []) → ⊥
still_alive m lived = false≢true (ap (of_first (λ x. x.ended)) lived)
