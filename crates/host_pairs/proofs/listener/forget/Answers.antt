use Rattle.std.proofs.Common.{◌==◌, ◌&&◌, not, Bool, false, true, cond, refl, sym, ap, ◌∙◌, ◌≡◌}
use Rattle.std.specs.BTreeSet.{contains}
use Rattle.std.specs.Cmp.{unsigned_tied}
use Rattle.std.specs.Ordering.{nat_cmp}
use Rattle.std.proofs.lemmas.List.Kept.{IsNonDecreasingBy-filter}
use Rattle.host_pairs.specs.Inside.Listening.{AreThese}
use Rattle.host_pairs.specs.declared.listener.Listener.{Listener}
use Rattle.host_pairs.proofs.ListenerLemmas.{others_listen}
use Rattle.host_pairs.proofs.listener.forget.Goals as goal

unless : (b x : Bool) → cond b false x ≡ (not b && x)
unless true x = refl
unless false x = refl

pub returns-in-Some : goal.returns-in-Some
returns-in-Some c = λ socket.
    let gone = c.args.socket in
    let these : AreThese c.in-Some.sockets c.args.listening.now = rw c.in-Some.is at c.requires in
    c.remove.ensures.updates.0 socket
    ∙ ap (λ (b : Bool). cond b false (contains nat_cmp c.in-Some.sockets socket)) (unsigned_tied gone socket)
    ∙ unless (gone == socket) (contains nat_cmp c.in-Some.sockets socket)
    ∙ ap (λ (b : Bool). not (gone == socket) && b) (these socket)
    ∙ sym (others_listen gone socket c.args.listening.now)

pub returns-in_default : goal.returns-in_default
returns-in_default c = rw c.in_default.is (IsNonDecreasingBy-filter (λ (l : Listener). l.socket) (λ (l : Listener). not (l.socket == c.args.socket)) c.args.listening.now (rw c.in_default.is at c.requires))
