-- What each moment is for a life.
use Rattle.world_keeps_streams.proofs.Common.{◌≡◌, ◌==◌, ◌&&◌, Bool, true, false, if◌then◌else◌, List, ◌∷◌, refl, ap, sym, subst, ◌∙◌, Host, same_host, Flow, Answer, HostMessage, same_host-true, orders_of, PairState, at, accepted, pair_with, offered, new_life, Asked, Crossed, IsNext, Moment, places, program, AreOurs, Network}
use Rattle.sockets.proofs.lemmas.{answer_leaves, message_about, message_leaves, offer_about, offer_leaves, answer_about}
use Rattle.promise.specs.Ends.{Dropped, cut, each, ended_by, fails, heard, said}
use Rattle.interface.specs.declared.crossing.Crossing.TheVariants as crossing
use Rattle.interface.specs.declared.crossing.Inbound.TheVariants as inbound
use Rattle.promise.specs.declared.life.Life.{Life}
use Rattle.world_keeps_streams.proofs.Ends.Comes.{in_here}
use Rattle.world_keeps_streams.proofs.Ends.Courses.{course_in, key_of}
use Rattle.world_keeps_streams.proofs.Ends.Fails.{asked_here, down_here, off_host, told_here, up_here}
use Rattle.world_keeps_streams.proofs.Ends.Kinds.{Kind, away, beside, out_here, pace}
use Rattle.world_keeps_streams.proofs.Ends.Ties.{end_in}
use Rattle.world_keeps_streams.proofs.Requests.Sides.{Lawful, coupled_in}
use Rattle.world_keeps_streams.proofs.Facts.{middle_off}

first_off : (a b c : Bool) → a ≡ false → (a && b && c) ≡ false
first_off a b c e = ap (λ (v : Bool). v && b && c) e

module _ (hosts : Network) (x : Life) (ours : AreOurs hosts x.host x.peer) where
  out_every : (m : HostMessage) (ms : List Moment) → Lawful hosts (Crossed (crossing.Out m) ∷ ms)
      → Kind (key_of x) (Crossed (crossing.Out m)) ms
  out_every m ms l = by (same_host x.host m.flow.source) (same_host x.peer m.flow.destination) refl refl where
    same_pace : (v : Bool)
        → (same_host x.host m.flow.source && same_host x.peer m.flow.destination && 0 == m.flow.link.0) ≡ false
        → pace (course_in (key_of x) (Crossed (crossing.Out m) ∷ ms)) ≡ pace (course_in (key_of x) ms)
    same_pace v e =
        ap (λ (w : Bool). pace (if w then each (said (key_of x) (places ms)) (orders_of m.text)
        (course_in (key_of x) ms) else course_in (key_of x) ms)) e

    own : same_host x.host m.flow.source ≡ true → IsNext (program x.host ms) m
    own e = subst (λ (h : Host). IsNext (program h ms) m) (sym (same_host-true x.host m.flow.source e)) ((coupled_in hosts (Crossed (crossing.Out m) ∷ ms) l).story.0 (subst (λ (h : Host). hosts.strange h ≡ false) (same_host-true x.host m.flow.source e) ours.0))

    by : (v w : Bool) → same_host x.host m.flow.source ≡ v → same_host x.peer m.flow.destination ≡ w → Kind (key_of x) (Crossed (crossing.Out m)) ms
    by true true e f = out_here (key_of x) hosts ours m ms l e f
    by true false e f =
        beside (key_of x) (Crossed (crossing.Out m)) ms next.peer.host (offer_about (program m.flow.source ms) (places ms) next.peer next.parcel next.next)
        (λ same. off_host x.peer m.flow.destination f (ap (λ (y : HostMessage). y.flow.destination) next.message ∙ same))
        (same_pace true (middle_off (same_host x.host m.flow.source) (same_host x.peer m.flow.destination)
        (0 == m.flow.link.0) f))
        (ap (λ (v : Bool). end_in (at x.socket x.foreign (pair_with x.peer (if v then (offered (program x.host ms) (places ms)).0 else program x.host ms).peers).entries)) e
        ∙ ap (λ (q : PairState). end_in (at x.socket x.foreign q.entries)) (offer_leaves (program x.host ms) (places ms) (own e).peer (own e).parcel x.peer (own e).next (ap (λ (y : HostMessage). same_host x.peer y.flow.destination) (sym (own e).message) ∙ f))) (λ d. d) where
          next : IsNext (program m.flow.source ms) m
          next = (coupled_in hosts (Crossed (crossing.Out m) ∷ ms) l).story.0 (subst (λ (h : Host). hosts.strange h ≡ false) (same_host-true x.host m.flow.source e) ours.0)
    by false w e f =
        away (key_of x) (Crossed (crossing.Out m)) ms (off_host x.host m.flow.source e)
        (same_pace true (first_off (same_host x.host m.flow.source) (same_host x.peer m.flow.destination)
        (0 == m.flow.link.0) e))
        (ap (λ (v : Bool). end_in (at x.socket x.foreign (pair_with x.peer (if v then (offered (program x.host ms) (places ms)).0 else program x.host ms).peers).entries)) e) (λ d. d)

  in_every : (m : HostMessage) (ms : List Moment) → Lawful hosts (Crossed (crossing.In m) ∷ ms)
      → Kind (key_of x) (Crossed (crossing.In m)) ms
  in_every m ms l = by (same_host x.host m.flow.destination) (same_host x.peer m.flow.source) refl refl where
    same_pace : (same_host x.peer m.flow.source && same_host x.host m.flow.destination && 0 == m.flow.link.0) ≡ false
        → pace (course_in (key_of x) (Crossed (crossing.In m) ∷ ms)) ≡ pace (course_in (key_of x) ms)
    same_pace e =
        ap (λ (w : Bool). pace (if w then each (heard (key_of x) (places ms)) (orders_of m.text)
        (course_in (key_of x) ms) else course_in (key_of x) ms)) e

    by : (v w : Bool) → same_host x.host m.flow.destination ≡ v → same_host x.peer m.flow.source ≡ w → Kind (key_of x) (Crossed (crossing.In m)) ms
    by true true e f =
        subst (λ (h : Host). Kind (new_life h x.socket x.peer x.foreign x.own_stamp x.partner_stamp) (Crossed (crossing.In m)) ms) (sym (same_host-true x.host m.flow.destination e))
        (subst (λ (p : Host). Kind (new_life m.flow.destination x.socket p x.foreign x.own_stamp x.partner_stamp) (Crossed (crossing.In m)) ms) (sym (same_host-true x.peer m.flow.source f))
        (in_here hosts m ms l (subst (λ (h : Host). hosts.strange h ≡ false) (same_host-true x.host m.flow.destination e) ours.0, subst (λ (h : Host). hosts.strange h ≡ false) (same_host-true x.peer m.flow.source f) ours.1) x.socket x.foreign x.own_stamp x.partner_stamp))
    by true false e f =
        beside (key_of x) (Crossed (crossing.In m)) ms m.flow.source (message_about (program m.flow.destination ms) m (places ms)) (off_host x.peer m.flow.source f)
        (same_pace (first_off (same_host x.peer m.flow.source) (same_host x.host m.flow.destination)
        (0 == m.flow.link.0) f))
        (ap (λ (v : Bool). end_in (at x.socket x.foreign (pair_with x.peer (if v then (accepted (program x.host ms) (inbound.Message m) (places ms)).0 else program x.host ms).peers).entries)) e
        ∙ ap (λ (q : PairState). end_in (at x.socket x.foreign q.entries)) (message_leaves (program x.host ms) m (places ms) x.peer f)) (λ d. d)
    by false w e f =
        away (key_of x) (Crossed (crossing.In m)) ms (off_host x.host m.flow.destination e)
        (same_pace (middle_off (same_host x.peer m.flow.source) (same_host x.host m.flow.destination)
        (0 == m.flow.link.0) e))
        (ap (λ (v : Bool). end_in (at x.socket x.foreign (pair_with x.peer (if v then (accepted (program x.host ms) (inbound.Message m) (places ms)).0 else program x.host ms).peers).entries)) e) (λ d. d)

  told_every : (kind : Answer) (f : Flow) (ms : List Moment) → Lawful hosts (Crossed (crossing.Answer kind f) ∷ ms)
      → Kind (key_of x) (Crossed (crossing.Answer kind f)) ms
  told_every kind f ms l = by (same_host x.host f.source) (same_host x.peer f.destination) refl refl where
    off_both : (a b c d : Bool) → (b && c) ≡ false → (a && (b && c) && d) ≡ false
    off_both true b c d e = ap (λ (v : Bool). v && d) e
    off_both false b c d e = refl

    same_pace : (same_host x.host f.source && same_host x.peer f.destination) ≡ false
        → pace (course_in (key_of x) (Crossed (crossing.Answer kind f) ∷ ms)) ≡ pace (course_in (key_of x) ms)
    same_pace e =
        ap (λ (w : Bool). pace (if w then ended_by (cut Dropped (places ms)) (course_in (key_of x) ms) else course_in
        (key_of x) ms)) (off_both (fails kind) (same_host x.host f.source) (same_host x.peer f.destination) _ e)

    by : (v w : Bool) → same_host x.host f.source ≡ v → same_host x.peer f.destination ≡ w → Kind (key_of x) (Crossed (crossing.Answer kind f)) ms
    by true true e g =
        subst (λ (h : Host). Kind (new_life h x.socket x.peer x.foreign x.own_stamp x.partner_stamp) (Crossed (crossing.Answer kind f)) ms) (sym (same_host-true x.host f.source e))
        (subst (λ (p : Host). Kind (new_life f.source x.socket p x.foreign x.own_stamp x.partner_stamp) (Crossed (crossing.Answer kind f)) ms) (sym (same_host-true x.peer f.destination g))
        (told_here hosts f ms (subst (λ (h : Host). hosts.strange h ≡ false) (same_host-true x.host f.source e) ours.0, subst (λ (h : Host). hosts.strange h ≡ false) (same_host-true x.peer f.destination g) ours.1) x.socket x.foreign x.own_stamp x.partner_stamp kind l))
    by true false e g =
        beside (key_of x) (Crossed (crossing.Answer kind f)) ms f.destination (answer_about (program f.source ms) kind f (places ms)) (off_host x.peer f.destination g)
        (same_pace (ap (λ (v : Bool). v && same_host x.peer f.destination) e ∙ g))
        (ap (λ (v : Bool). end_in (at x.socket x.foreign (pair_with x.peer (if v then (accepted (program x.host ms) (inbound.Answer kind f) (places ms)).0 else program x.host ms).peers).entries)) e
        ∙ ap (λ (q : PairState). end_in (at x.socket x.foreign q.entries)) (answer_leaves (program x.host ms) kind f (places ms) x.peer g)) (λ d. d)
    by false w e g =
        away (key_of x) (Crossed (crossing.Answer kind f)) ms (off_host x.host f.source e)
        (same_pace (ap (λ (v : Bool). v && same_host x.peer f.destination) e))
        (ap (λ (v : Bool). end_in (at x.socket x.foreign (pair_with x.peer (if v then (accepted (program x.host ms) (inbound.Answer kind f) (places ms)).0 else program x.host ms).peers).entries)) e) (λ d. d)

  pub kind_here : (y : Moment) (ms : List Moment) → Lawful hosts (y ∷ ms) → Kind (key_of x) y ms
  kind_here (Crossed (crossing.Out m)) ms l = out_every m ms l
  kind_here (Crossed (crossing.In m)) ms l = in_every m ms l
  kind_here (Crossed (crossing.Answer kind f)) ms l = told_every kind f ms l
  kind_here (Crossed (crossing.Down g)) ms l = down_here (key_of x) g ms
  kind_here (Crossed (crossing.Up g)) ms l = up_here (key_of x) g ms
  kind_here (Asked g r) ms l = asked_here (key_of x) hosts ours g r ms l
