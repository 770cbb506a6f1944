-- How far a life between hosts with programs is, by contacts among these hosts only.
use Rattle.mixed_worlds.proofs.Common.{list_any, Contains, Crossing, Host, same_host, same_host-true, Life, contacts_among, Called, Fate, AreOurs, Network, CountNothingLater}
use Rattle.std.proofs.Common.{◌≡◌, ℕ, ◌==◌, ◌&&◌, ◌||◌, not, Bool, true, false, if◌then◌else◌, List, [], ◌∷◌, length, refl, ap, sym, subst, ◌∙◌}
use Rattle.promise.specs.Ends.{AreLeft, Asking, Course, Dropped, Leaves, Stage, called, course, crosses, cut, ended_by, is_contact, stage}

module _ (hosts : Network) (x : Life) (ours : AreOurs hosts x.host x.peer) where
  -- a contact of its two hosts is among these
  kept_contact : (place : ℕ) (c : Called) → is_contact x.host x.peer place c ≡ true
      → (not (hosts.strange c.host) && not (hosts.strange c.peer)) ≡ true
  kept_contact place c is = by (same_host x.host c.host) (same_host x.peer c.peer) refl refl is where
    by : (a b : Bool) → same_host x.host c.host ≡ a → same_host x.peer c.peer ≡ b → (a && b && c.place == place) ≡ true
        → (not (hosts.strange c.host) && not (hosts.strange c.peer)) ≡ true
    by true true e f g =
        let own : hosts.strange c.host ≡ false = subst (λ (h : Host). hosts.strange h ≡ false) (same_host-true x.host c.host e) ours.0 in
        let peer : hosts.strange c.peer ≡ false = subst (λ (h : Host). hosts.strange h ≡ false) (same_host-true x.peer c.peer f) ours.1 in
        ap (λ (a : Bool). not a && not (hosts.strange c.peer)) own ∙ ap (λ (b : Bool). not b) peer
    by true false e f g = absurd (cc)
    by false b e f g = absurd (cc)

  same_contact : (place : ℕ) (contacts : List Called)
      → list_any (is_contact x.host x.peer place) (contacts_among hosts.strange contacts) ≡ list_any (is_contact x.host x.peer place) contacts
  same_contact place [] = refl
  same_contact place (c ∷ contacts) = by (not (hosts.strange c.host) && not (hosts.strange c.peer)) refl (is_contact x.host x.peer place c) refl (same_contact place contacts) where
    by : (v : Bool) → (not (hosts.strange c.host) && not (hosts.strange c.peer)) ≡ v → (w : Bool)
        → is_contact x.host x.peer place c ≡ w
        → list_any (is_contact x.host x.peer place) (contacts_among hosts.strange contacts) ≡ list_any (is_contact x.host x.peer place) contacts
        → list_any (is_contact x.host x.peer place) (if v then c ∷ contacts_among hosts.strange contacts else contacts_among hosts.strange contacts) ≡ (is_contact x.host x.peer place c || list_any (is_contact x.host x.peer place) contacts)
    by true e w f older = ap (λ (b : Bool). is_contact x.host x.peer place c || b) older
    by false e true f older = absurd (let clash : true ≡ false = sym (kept_contact place c f) ∙ e in cc)
    by false e false f older = older ∙ sym (ap (λ (b : Bool). b || list_any (is_contact x.host x.peer place) contacts) f)

  same_called : (place : ℕ) (contacts : List Called) (k : Course)
      → called (contacts_among hosts.strange contacts) x place k ≡ called contacts x place k
  same_called place contacts k = ap (λ (b : Bool). if b then ended_by (cut Dropped place) k else k) (same_contact place contacts)

  pub same_course : (contacts : List Called) (log : List Crossing)
      → course (contacts_among hosts.strange contacts) x log ≡ course contacts x log
  same_course contacts [] = same_called 0 contacts (record { stage = Asking false false; owes = false; early = false })
  same_course contacts (c ∷ log) =
      ap (λ (k : Course). called (contacts_among hosts.strange contacts) x (length (c ∷ log)) (crosses x (length log) c k)) (same_course contacts log)
      ∙ same_called (length (c ∷ log)) contacts (crosses x (length log) c (course contacts x log))

  pub same_stage : (contacts : List Called) (log : List Crossing)
      → stage (contacts_among hosts.strange contacts) x log ≡ stage contacts x log
  same_stage contacts log = ap (λ (k : Course). k.stage) (same_course contacts log)
