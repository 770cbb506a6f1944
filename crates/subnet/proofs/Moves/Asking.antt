-- An IMP asks what became of a message.
use Rattle.subnet.proofs.Common.{All-nil, All-cons, is_host, Flow, CarrierFault, guard, PacketFields, IsPacket, flow_of, Kind, makes_one, State, ImpTurn, ask, ask_refusal, answer_packet, is_own, outstanding, has_room_to, Net, imp_at, with_turn, packet_of, sender_at, view, OnlyNew, made_at, IsAt, IsSound}
use Rattle.std.proofs.Common.{◌≡◌, ℕ, false, not, List, [], ◌∷◌, Option, Some, None, refl, ap, sym, ◌∙◌, subst, inl, All, if◌then◌else◌}
use Rattle.std.specs.Prelude.{is_none}
use Rattle.interface.specs.declared.carrier.CarrierFault.TheVariants as fault
use Rattle.packetiser.specs.declared.packet.PacketKind.TheVariants as kind
use Rattle.flow_law.specs.Moves.{Move, Asks, IsTold}
use Rattle.imp_node.specs.Contents as contents
use Rattle.imp_node.specs.Making.{ask_makes}
use Rattle.imp_node.proofs.lemmas.{ask_imp, ask_unmoved}
use Rattle.subnet.specs.Events.{at_imp, at_up, asking_refusal}
use Rattle.subnet.proofs.Packets.HavingByEvents.{ask_only}
use Rattle.subnet.proofs.Moves.Turns.{Answerable, answerable, alive_or_made, none_cross, followed_turn}
use Rattle.subnet.proofs.Moves.Views.{turn_view}

-- the question is a packet by the format, as any packet about an outstanding message is
question_format : (n : Net) (f : Flow) (number : ℕ) → (view n f).outstanding ≡ Some number → IsSound n → IsPacket (answer_packet kind.Ask f number)
question_format n f number awaited is =
    let about : IsPacket (answer_packet kind.Rfnm f number) = is.askable f number awaited in
    record { source = about.source; destination = about.destination; link = about.link; number = about.number; place = about.place; body = about.body }

-- asking leaves what waits for hosts
same_waiting : (s : State) (f : Flow) (number : ℕ) → outstanding s f ≡ Some number → contents.messages (ask s f).state ≡ contents.messages s
same_waiting s f number awaited = rw awaited refl

asked_turn : (n : Net) (f : Flow) (s : State) (number : ℕ) → imp_at n.imps f.source.imp ≡ Some s → outstanding s f ≡ Some number → IsSound n → IsSound (with_turn f.source.imp (ask s f) n)
asked_turn n f s number at awaited is =
    let i : ℕ = f.source.imp in
    let turn : ImpTurn = ask s f in
    let next : Net = with_turn i turn n in
    let move : Move = Asks number in
    let question : PacketFields = answer_packet kind.Ask f number in
    let asked : (view n f).outstanding ≡ Some number = ap (λ (o : Option State). (sender_at o f).outstanding) at ∙ awaited in
    let all : OnlyNew n (ask_makes s f) next = subst (λ (o : Option State). OnlyNew n (made_at o (λ t. ask_makes t f)) (at_imp o i (λ t. ask t f) n)) at (ask_only n f) in
    let made : ask_makes s f ≡ question ∷ [] = rw awaited refl in
    let only : OnlyNew n (question ∷ []) next = subst (λ (ps : List PacketFields). OnlyNew n ps next) made all in
    let Ours : PacketFields → Type 0 = λ q. flow_of q ≡ f in
    let Told : PacketFields → Type 0 = λ q. IsTold Kind.Ask number (packet_of q) in
    followed_turn n i s turn [] f _ _ (record {
      at = at;
      sound = ask_imp i s f (subst (IsAt i) at (is.imps i));
      others = λ g other. ask_unmoved s f g;
      crossings = none_cross _ f n.log;
      only = only;
      of_flow = All-cons Ours question [] refl (All-nil Ours);
      formats = All-cons IsPacket question [] (question_format n f number asked is) (All-nil IsPacket);
      answers = subst (All Answerable) (sym (same_waiting s f number awaited)) (answerable n i s at is);
      here =
          makes_one move _ _ _ _ asked (turn_view n i s turn f at (ask_unmoved s f f))
          (λ x. alive_or_made n next (question ∷ []) (IsTold Kind.Ask number) f x only (All-cons Told question [] (record { kind = refl; number = refl }) (All-nil Told)));
      shown = refl;
      begun = inl refl;
    }) is

-- ---- the event

pub ask_sound : (n : Net) (f : Flow) → asking_refusal n f ≡ None → IsSound n → IsSound (at_imp (imp_at n.imps f.source.imp) f.source.imp (λ s. ask s f) n)
ask_sound n f accepted is =
    let i : ℕ = f.source.imp in
    let last : Option CarrierFault = at_up (imp_at n.imps i) (λ s. ask_refusal s f) in
    let there : (not (is_host n.hosts f.source) ≡ false) × (last ≡ None) = guard _ _ last accepted in
    by (imp_at n.imps i) refl there.1
  where
    named : (s : State) → imp_at n.imps f.source.imp ≡ Some s → (o : Option ℕ) → outstanding s f ≡ o → is_none o ≡ false → IsSound (with_turn f.source.imp (ask s f) n)
    named s at None awaited some = absurd (cc)
    named s at (Some number) awaited some = asked_turn n f s number at awaited is

    by : (o : Option State) → imp_at n.imps f.source.imp ≡ o → at_up o (λ s. ask_refusal s f) ≡ None → IsSound (at_imp o f.source.imp (λ s. ask s f) n)
    by None at own = absurd (cc)
    by (Some s) at own =
        let last : Option CarrierFault = if not (has_room_to s f.destination.imp) then Some fault.NoRoom else None in
        let second : Option CarrierFault = if is_none (outstanding s f) then Some fault.NotOutstanding else last in
        let host : (not (is_own s f.source) ≡ false) × (second ≡ None) = guard _ _ second own in
        let some : (is_none (outstanding s f) ≡ false) × (last ≡ None) = guard _ _ last host.1 in
        named s at _ refl some.0
