-- Notices that report the messages of a small log, and notices that don't.
use Rattle.net_sim.proofs.Common.{◌≡◌, inl, inr, ℕ, ◌+◌, ◌≤◌, Bool, true, false, List, [], ◌∷◌, length, refl, ap, sym, subst, ◌∙◌, arith, Crossing, HostMessage, is_receive_socket, Legal, Order, orders_of, Notice, first, second, third, CrossedAt, given_log, moved, taken_log, eight, eight_zeros, eight_sent, rts, str}
use Rattle.interface.specs.declared.crossing.Crossing.TheVariants as crossing
use Rattle.ncp_control.specs.declared.command.Command.TheVariants as command
use Rattle.host_pairs.specs.declared.notice.Notice.TheVariants as notice
use Rattle.promise.specs.declared.book.Told.{Told}
use Rattle.promise.specs.Notices.{AreTold, FormedNotices, HasLink, TellsOf}
use Rattle.net_sim.specs.SmallLogs.{given_told, taken_told}
use Rattle.net_sim.proofs.Books.Unformed.{not_zeros, only_there, rts_holds, rts_read, str_holds, str_read}

-- ---- good ones

taken_link : HasLink first second 16 2 (crossing.In str ∷ crossing.Out rts ∷ [])
taken_link = record {
  foreign = 33;
  size = 8;
  own_stamp = 0;
  partner_stamp = 1;
  own = record { message = rts; flow = refl; crossed = inr (inl (refl, refl)); holds = rts_holds };
  partner = record { message = str; flow = refl; crossed = inl (refl, refl); holds = str_holds };
}

given_link : HasLink second first 33 2 (crossing.In rts ∷ crossing.Out str ∷ [])
given_link = record {
  foreign = 16;
  size = 8;
  own_stamp = 0;
  partner_stamp = 1;
  own = record { message = str; flow = refl; crossed = inr (inl (refl, refl)); holds = str_holds };
  partner = record { message = rts; flow = refl; crossed = inl (refl, refl); holds = rts_holds };
}

pub row_arrived : FormedNotices taken_log (taken_told ∷ [])
row_arrived = inr (record { socket = 16; bits = eight; told = refl; holds = refl; way = refl; off_control = refl; linked = taken_link }, (tt, (refl, tt)))

pub row_sent : FormedNotices given_log (given_told ∷ [])
row_sent = inr (record { socket = 33; bits = eight; told = refl; holds = refl; way = refl; off_control = refl; linked = given_link }, (tt, (refl, tt)))

-- ---- bad ones

-- a notice reports nothing that crossed later
told_by : (log : List Crossing) (t : Told) (told : List Told) → AreTold log (t ∷ told) → t.place ≤ length log
told_by [] t told a = absurd a
told_by (crossing.Out m ∷ log) t told (inl a) = omega (arith, told_by log t told a.1)
told_by (crossing.Out m ∷ log) t told (inr a) = omega (arith, ap (λ (x : Told). x.place) a.0.told)
told_by (crossing.In m ∷ log) t told (inl a) = omega (arith, told_by log t told a.1)
told_by (crossing.In m ∷ log) t told (inr a) = omega (arith, ap (λ (x : Told). x.place) a.0.told)
told_by (crossing.Answer kind f ∷ log) t told (inl a) = omega (arith, told_by log t told a.1)
told_by (crossing.Answer kind f ∷ log) t told (inr a) = absurd a.0
told_by (crossing.Down h ∷ log) t told (inl a) = omega (arith, told_by log t told a.1)
told_by (crossing.Down h ∷ log) t told (inr a) = absurd a.0
told_by (crossing.Up h ∷ log) t told (inl a) = omega (arith, told_by log t told a.1)
told_by (crossing.Up h ∷ log) t told (inr a) = absurd a.0

-- so the notice with the newest place reports the newest crossing
of_taken : (m : HostMessage) (log : List Crossing) (t : Told) → t.place ≡ 1 + length log → AreTold (crossing.In m ∷ log) (t ∷ []) → TellsOf true m.flow.destination m.flow.source m log t
of_taken m log t place (inl a) = absurd (omega (arith, place, told_by log t [] a.1))
of_taken m log t place (inr a) = a.0

of_given : (m : HostMessage) (log : List Crossing) (t : Told) → t.place ≡ 1 + length log → AreTold (crossing.Out m ∷ log) (t ∷ []) → TellsOf false m.flow.source m.flow.destination m log t
of_given m log t place (inl a) = absurd (omega (arith, place, told_by log t [] a.1))
of_given m log t place (inr a) = a.0

abbrev socket_in : Notice → ℕ
socket_in (notice.Arrived socket bits) = socket
socket_in (notice.Sent socket bits) = socket
socket_in n = 0

abbrev bits_in : Notice → List Bool
bits_in (notice.Arrived socket bits) = bits
bits_in (notice.Sent socket bits) = bits
bits_in n = []

pub kind : FormedNotices (crossing.In eight_sent ∷ crossing.In (moved second first 0 rts) ∷ crossing.Out (moved first second 0 str) ∷ []) (record taken_told { notice = notice.Arrived 33 eight } ∷ []) → ⊥
kind a =
    let log : List Crossing = crossing.In (moved second first 0 rts) ∷ crossing.Out (moved first second 0 str) ∷ [] in
    let t : Told = record taken_told { notice = notice.Arrived 33 eight } in
    let x : TellsOf true first second eight_sent log t = of_taken eight_sent log t refl a in
    let socket : 33 ≡ x.socket = ap (λ (y : Told). socket_in y.notice) x.told in
    let same : false ≡ true = ap is_receive_socket socket ∙ x.way in
    cc

-- one crossing of another way is none
no_in : (place : ℕ) (m n : HostMessage) → CrossedAt place (crossing.In m) (crossing.Out n ∷ []) → ⊥
no_in place m n (inl i) = let e : crossing.In m ≡ crossing.Out n = i.0 in cc
no_in place m n (inr i) = i

no_out : (place : ℕ) (m n : HostMessage) → CrossedAt place (crossing.Out m) (crossing.In n ∷ []) → ⊥
no_out place m n (inl i) = let e : crossing.Out m ≡ crossing.In n = i.0 in cc
no_out place m n (inr i) = i

pub partner_unheard : FormedNotices (crossing.In eight_sent ∷ crossing.Out rts ∷ []) (record taken_told { place = 2 } ∷ []) → ⊥
partner_unheard a =
    let x : TellsOf true first second eight_sent (crossing.Out rts ∷ []) (record taken_told { place = 2 }) = of_taken eight_sent (crossing.Out rts ∷ []) (record taken_told { place = 2 }) refl a in
    no_in x.linked.partner_stamp x.linked.partner.message rts x.linked.partner.crossed

pub own_unsaid : FormedNotices (crossing.In eight_sent ∷ crossing.In str ∷ []) (record taken_told { place = 2 } ∷ []) → ⊥
own_unsaid a =
    let x : TellsOf true first second eight_sent (crossing.In str ∷ []) (record taken_told { place = 2 }) = of_taken eight_sent (crossing.In str ∷ []) (record taken_told { place = 2 }) refl a in
    no_out x.linked.own_stamp x.linked.own.message str x.linked.own.crossed

pub sent_bits : FormedNotices given_log (record given_told { notice = notice.Sent 33 eight_zeros } ∷ []) → ⊥
sent_bits a =
    let log : List Crossing = crossing.In rts ∷ crossing.Out str ∷ [] in
    let t : Told = record given_told { notice = notice.Sent 33 eight_zeros } in
    let x : TellsOf false second first eight_sent log t = of_given eight_sent log t refl a in
    not_zeros false eight_sent refl (x.holds ∙ sym (ap (λ (y : Told). bits_in y.notice) x.told))

-- the one message that went out says this
out_second : (place : ℕ) (m n l : HostMessage) → CrossedAt place (crossing.Out m) (crossing.In n ∷ crossing.Out l ∷ []) → m ≡ l
out_second place m n l (inl i) = absurd (let e : crossing.Out m ≡ crossing.In n = i.0 in cc)
out_second place m n l (inr (inl i)) = let e : crossing.Out m ≡ crossing.Out l = i.0 in cc
out_second place m n l (inr (inr i)) = absurd i

abbrev own_in : Order → ℕ
own_in (Legal (command.Rts own foreign link)) = own
own_in (Legal (command.Str own foreign size)) = own
own_in o = 0

no_given_link : HasLink second first 35 2 (crossing.In rts ∷ crossing.Out str ∷ []) → ⊥
no_given_link h =
    let is : h.own.message ≡ str = out_second h.own_stamp h.own.message rts str h.own.crossed in
    let same : Legal (command.Str 33 16 8) ≡ Legal (command.Str 35 h.foreign h.size) =
    only_there (Legal (command.Str 33 16 8)) (Legal (command.Str 35 h.foreign h.size)) (orders_of h.own.message.text) (ap (λ (m : HostMessage). orders_of m.text) is ∙ str_read) h.own.holds in
    let socket : 33 ≡ 35 = ap own_in same in
    omega (arith, socket)

no_taken_link : HasLink first second 18 2 (crossing.In str ∷ crossing.Out rts ∷ []) → ⊥
no_taken_link h =
    let is : h.own.message ≡ rts = out_second h.own_stamp h.own.message str rts h.own.crossed in
    let same : Legal (command.Rts 16 33 2) ≡ Legal (command.Rts 18 h.foreign 2) =
    only_there (Legal (command.Rts 16 33 2)) (Legal (command.Rts 18 h.foreign 2)) (orders_of h.own.message.text) (ap (λ (m : HostMessage). orders_of m.text) is ∙ rts_read) h.own.holds in
    let socket : 16 ≡ 18 = ap own_in same in
    omega (arith, socket)

pub sent_socket : FormedNotices given_log (record given_told { notice = notice.Sent 35 eight } ∷ []) → ⊥
sent_socket a =
    let log : List Crossing = crossing.In rts ∷ crossing.Out str ∷ [] in
    let t : Told = record given_told { notice = notice.Sent 35 eight } in
    let x : TellsOf false second first eight_sent log t = of_given eight_sent log t refl a in
    let socket : 35 ≡ x.socket = ap (λ (y : Told). socket_in y.notice) x.told in
    no_given_link (subst (λ (n : ℕ). HasLink second first n 2 log) (sym socket) x.linked)

pub arrived_socket : FormedNotices taken_log (record taken_told { notice = notice.Arrived 18 eight } ∷ []) → ⊥
arrived_socket a =
    let log : List Crossing = crossing.In str ∷ crossing.Out rts ∷ [] in
    let t : Told = record taken_told { notice = notice.Arrived 18 eight } in
    let x : TellsOf true first second eight_sent log t = of_taken eight_sent log t refl a in
    let socket : 18 ≡ x.socket = ap (λ (y : Told). socket_in y.notice) x.told in
    no_taken_link (subst (λ (n : ℕ). HasLink first second n 2 log) (sym socket) x.linked)

pub another_host : FormedNotices taken_log (record taken_told { host = third } ∷ []) → ⊥
another_host a =
    let log : List Crossing = crossing.In str ∷ crossing.Out rts ∷ [] in
    let t : Told = record taken_told { host = third } in
    let x : TellsOf true first second eight_sent log t = of_taken eight_sent log t refl a in
    let host : 3 ≡ 1 = ap (λ (y : Told). y.host.imp) x.told in
    omega (arith, host)
