-- A host that isn't through a reset does nothing with a text.
use Rattle.net_sim.proofs.Common.{◌≡◌, ℕ, Bool, true, false, ◌==◌, List, [], ◌∷◌, refl, ap, sym, subst, ◌∙◌, cond, Host, same_host, HostMessage, Command, TurnState, if_ready, command_taken, message_taken, order_taken, orders_taken, accepted_message, Order, Legal, Wrong, orders_of, data_taken, DeskState, NcpState, pair_with, with_pair, Peer, pair_changed, Message, IsText, IsUnheard, is_rst, is_rrp, message_on, AllPlain, IsApart, IsPlain}
use Rattle.sockets.specs.Accepting.{after_turn}
use Rattle.interface.specs.declared.crossing.Inbound.TheVariants as inbound
use Rattle.interface.proofs.lemmas.{same_host-true}
use Rattle.ncp_control.specs.declared.command.Command.TheVariants as command
use Rattle.sockets.specs.Accepting.{accepted, turn_of}
use Rattle.ncp_control.specs.Phases as program

if_unready : (work : DeskState → DeskState) (t : TurnState) → program.is_ready t.pair.phase ≡ false → if_ready work t ≡ t
if_unready work t e = rw e refl

command_unheard : (peer : Host) (stamp : ℕ) (c : Command) (t : TurnState) → is_rst c ≡ false → is_rrp c ≡ false → program.is_ready t.pair.phase ≡ false → command_taken peer stamp c t ≡ t
command_unheard peer stamp command.Rst t rst rrp e = absurd (cc)
command_unheard peer stamp command.Rrp t rst rrp e = absurd (cc)
command_unheard peer stamp c t rst rrp e = rw e refl

order_unheard : (peer : Host) (stamp : ℕ) (o : Order) (t : TurnState) → IsPlain o → program.is_ready t.pair.phase ≡ false → order_taken peer stamp o t ≡ t
order_unheard peer stamp (Legal c) t h e = command_unheard peer stamp c t h.0 h.1 e
order_unheard peer stamp (Wrong code octets) t h e = rw e refl

orders_unheard : (peer : Host) (stamp : ℕ) (os : List Order) (t : TurnState) → AllPlain os → program.is_ready t.pair.phase ≡ false → orders_taken peer stamp os t ≡ t
orders_unheard peer stamp [] t h e = refl
orders_unheard peer stamp (o ∷ os) t h e = ap (λ (u : TurnState). orders_taken peer stamp os u) (order_unheard peer stamp o t h.0 e) ∙ orders_unheard peer stamp os t h.1 e

message_by : (peer : Host) (stamp link : ℕ) (text : List Bool) (t : TurnState) → ((link == 0) ≡ true → AllPlain (orders_of text)) → program.is_ready t.pair.phase ≡ false → (b : Bool) → (link == 0) ≡ b
    → message_taken peer stamp link text t ≡ t
message_by peer stamp link text t h e true f = rw f (orders_unheard peer stamp (orders_of text) t (h f) e)
message_by peer stamp link text t h e false f = rw f (if_unready (data_taken link text) t e)

-- a pair that is put back as it was
same_by : (g h : Host) (ps : List Peer) (b : Bool) → same_host h g ≡ b → cond (same_host h g) (pair_with g ps) (pair_with h ps) ≡ pair_with h ps
same_by g h ps true e = rw e (ap (λ (x : Host). pair_with x ps) (sym (same_host-true h g e)))
same_by g h ps false e = rw e refl

put_back : (g h : Host) (ps : List Peer) → pair_with h (with_pair g (pair_with g ps) ps) ≡ pair_with h ps
put_back g h ps = pair_changed g h (pair_with g ps) ps ∙ same_by g h ps (same_host h g) refl

unheard_by : (s : NcpState) (m : HostMessage) (stamp : ℕ) → message_taken m.flow.source stamp m.flow.link.0 m.text (turn_of s m.flow.source) ≡ turn_of s m.flow.source → (b : Bool) → same_host s.own m.flow.destination ≡ b
    → IsUnheard s (accepted_message s m stamp)
unheard_by s m stamp same true e =
    let now : accepted_message s m stamp ≡ after_turn s m.flow.source (turn_of s m.flow.source) = rw e (ap (λ (t : TurnState). after_turn s m.flow.source t) same) in
    subst (IsUnheard s) (sym now) (record { told = refl; pairs = λ h. put_back m.flow.source h s.peers; listening = refl })
unheard_by s m stamp same false e = rw e (record { told = refl; pairs = λ h. refl; listening = refl })

pub unheard : (s : NcpState) (m : HostMessage) (stamp : ℕ) → IsApart m.flow.link.0 m.text (message_on m.flow.link.0 m.text) → IsText m → program.is_ready (pair_with m.flow.source s.peers).phase ≡ false
    → IsUnheard s (accepted s (inbound.Message m) stamp)
unfolding accepted
unheard s m stamp apart text e =
    let plain : (m.flow.link.0 == 0) ≡ true → AllPlain (orders_of m.text) = subst (λ (x : Message). IsApart m.flow.link.0 m.text x) text apart in
    unheard_by s m stamp (message_by m.flow.source stamp m.flow.link.0 m.text (turn_of s m.flow.source) plain e (m.flow.link.0 == 0) refl) (same_host s.own m.flow.destination) refl
