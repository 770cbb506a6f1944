-- The notices of a small book, and wrong ones.
use Rattle.world_keeps_lives.proofs.Common.{◌≡◌, inl, inr, ℕ, Bool, true, false, List, [], ◌∷◌, drop, Option, Some, refl, ap, sym, subst, ◌∙◌, arith, Contains, Flow, Crossing, HostMessage, Notice, Told, CrossedAt, going, control_flow, kept_in}
use Rattle.host_pairs.specs.Control.{Legal, Order, orders_of}
use Rattle.sockets.specs.Worked.{first, second, third}
use Rattle.promise.specs.Notices.{AreTold, FormedNotices, HasLink, data_told, Tells}
use Rattle.net_sim.specs.Worked.{eight, eight_zeros}
use Rattle.net_sim.specs.WorkedMoments.{eight_sent, rts, str, sent_moments}
use Rattle.world_keeps_lives.specs.WorkedFormed.{sent_log, stray_log, arrived_told, sent_told, stray, stray_arrived, stray_sent, untaken_log}
use Rattle.bit_messages.specs.Octets.{octets_of}
use Rattle.interface.specs.declared.crossing.Crossing.TheVariants as crossing
use Rattle.ncp_control.specs.Packing.{packed_count}
use Rattle.ncp_control.specs.Reading.{command_of, read_of}
use Rattle.ncp_control.specs.declared.command.Command.TheVariants as command
use Rattle.host_pairs.specs.declared.notice.Notice.TheVariants as notice
use Rattle.sockets.specs.Accepting.{accepted}
use Rattle.sockets.specs.Requests.{refusal, served, served_notices}
use Rattle.sockets.specs.Sending.{next_out, offered}
use Rattle.net_sim.specs.WorkedResets.{rrp, rst}
use Rattle.world_keeps_lives.proofs.Walk.Rules.{Each, each_in}
use Rattle.world_keeps_lives.proofs.FormedRows.{rts_holds, rts_read, str_holds}
use Rattle.world_keeps_lives.proofs.Firsts.Books.{same_out}

-- ---- good ones

-- before the message went out
abbrev unsent_log : List Crossing
unsent_log = drop 2 sent_log

pub row_both : data_told (kept_in sent_moments).book.notices ≡ arrived_told ∷ sent_told ∷ []
unfolding octets_of orders_of read_of command_of packed_count accepted refusal served served_notices next_out offered
row_both = refl

sent_link : HasLink second first 33 2 unsent_log
sent_link = record {
  foreign = 16;
  size = 8;
  own_stamp = 8;
  partner_stamp = 7;
  own = record { message = str; flow = refl; crossed = inr (inr (inr (inr (inr (inr (inl (refl, refl))))))); holds = str_holds };
  partner = record { message = rts; flow = refl; crossed = inr (inr (inr (inr (inr (inr (inr (inl (refl, refl)))))))); holds = rts_holds };
}

arrived_link : HasLink first second 16 2 untaken_log
arrived_link = record {
  foreign = 33;
  size = 8;
  own_stamp = 6;
  partner_stamp = 10;
  own = record { message = rts; flow = refl; crossed = inr (inr (inr (inr (inr (inr (inr (inr (inr (inl (refl, refl)))))))))); holds = rts_holds };
  partner = record { message = str; flow = refl; crossed = inr (inr (inr (inr (inr (inl (refl, refl)))))); holds = str_holds };
}

sent_tells : Tells (crossing.Out eight_sent) unsent_log sent_told
sent_tells = record { socket = 33; bits = eight; told = refl; holds = refl; way = refl; off_control = refl; linked = sent_link }

arrived_tells : Tells (crossing.In eight_sent) untaken_log arrived_told
arrived_tells = record { socket = 16; bits = eight; told = refl; holds = refl; way = refl; off_control = refl; linked = arrived_link }

nothing_told : AreTold unsent_log []
nothing_told = (tt, (tt, (refl, (tt, (tt, (tt, (refl, (tt, (refl, (tt, (tt, (refl, (tt, (tt, (refl, tt)))))))))))))))

pub row_untaken : FormedNotices sent_log (sent_told ∷ [])
row_untaken = inl (tt, inr (sent_tells, nothing_told))

both_told : AreTold sent_log (arrived_told ∷ sent_told ∷ [])
both_told = inr (arrived_tells, inr (sent_tells, nothing_told))

pub row_told : FormedNotices sent_log (kept_in sent_moments).book.notices
row_told = subst (λ (told : List Told). AreTold sent_log told) (sym row_both) both_told

-- ---- bad ones

-- what went out has to be reported
must_tell : (t : Told) (told : List Told) → AreTold untaken_log (t ∷ told) → Tells (crossing.Out eight_sent) unsent_log t × AreTold unsent_log told
must_tell t told (inl a) = absurd (let no : false ≡ true = a.0 in cc)
must_tell t told (inr a) = a

-- and not as something that arrived
never_arrived : (t : Told) (socket : ℕ) (bits : List Bool) → t.notice ≡ notice.Arrived socket bits → Tells (crossing.Out eight_sent) unsent_log t → ⊥
never_arrived t socket bits is x = by (sym is ∙ ap (λ (y : Told). y.notice) x.told) where
  by : notice.Arrived socket bits ≡ notice.Sent x.socket x.bits → ⊥
  by e = cc

bits_or : List Bool → Option (List Bool) → List Bool
bits_or d (Some bits) = bits
bits_or d o = d

head_is : List Bool → Bool
head_is [] = true
head_is (b ∷ bits) = b

bits_in : Notice → List Bool
bits_in (notice.Arrived socket bits) = bits
bits_in n = []

pub row_other_bits : FormedNotices sent_log (sent_told ∷ record arrived_told { notice = notice.Arrived 16 eight_zeros } ∷ []) → ⊥
unfolding bits_or head_is bits_in
row_other_bits (inl a) = never_arrived (record arrived_told { notice = notice.Arrived 16 eight_zeros }) 16 eight_zeros refl (must_tell (record arrived_told { notice = notice.Arrived 16 eight_zeros }) (sent_told ∷ []) a.1).0
row_other_bits (inr a) =
    let said : eight_zeros ≡ a.0.bits = ap (λ (t : Told). bits_in t.notice) a.0.told in
    let held : eight ≡ a.0.bits = ap (bits_or eight) a.0.holds in
    let no : true ≡ false = ap head_is (held ∙ sym said) in
    absurd (cc)

pub row_unsent : FormedNotices sent_log (arrived_told ∷ []) → ⊥
row_unsent (inl a) = never_arrived arrived_told 16 eight refl (must_tell arrived_told [] a.1).0
row_unsent (inr a) = absurd (let no : false ≡ true = a.1.0 in cc)

pub row_nothing_crossed : FormedNotices untaken_log (sent_told ∷ arrived_told ∷ []) → ⊥
row_nothing_crossed a = never_arrived arrived_told 16 eight refl (must_tell arrived_told (sent_told ∷ []) a).0

pub row_early : FormedNotices sent_log (sent_told ∷ record arrived_told { place = 16 } ∷ []) → ⊥
row_early (inl a) = never_arrived (record arrived_told { place = 16 }) 16 eight refl (must_tell (record arrived_told { place = 16 }) (sent_told ∷ []) a.1).0
row_early (inr a) = let place : 16 ≡ 17 = ap (λ (t : Told). t.place) a.0.told in omega (arith, place)

pub row_twice : FormedNotices sent_log (sent_told ∷ arrived_told ∷ arrived_told ∷ []) → ⊥
row_twice (inl a) = never_arrived arrived_told 16 eight refl (must_tell arrived_told (arrived_told ∷ sent_told ∷ []) a.1).0
row_twice (inr a) = never_arrived arrived_told 16 eight refl (must_tell arrived_told (sent_told ∷ []) a.1).0

pub row_another_host : FormedNotices sent_log (record sent_told { host = third } ∷ arrived_told ∷ []) → ⊥
row_another_host (inl a) = never_arrived arrived_told 16 eight refl (must_tell arrived_told (record sent_told { host = third } ∷ []) a.1).0
row_another_host (inr a) =
    let host : 3 ≡ 2 = ap (λ (t : Told). t.host.imp) (must_tell (record sent_told { host = third }) [] a.1).0.told in
    omega (arith, host)

-- ---- a message on another link

crossed_in : (P : Crossing → Type 0) (place : ℕ) (c : Crossing) (log : List Crossing) → CrossedAt place c log → Each P log → P c
crossed_in P place c [] i all = absurd i
crossed_in P place c (d ∷ log) (inl i) all = subst P (sym i.0) all.0
crossed_in P place c (d ∷ log) (inr i) all = crossed_in P place c log i all.1

rst_read : orders_of (rst first second).text ≡ Legal command.Rst ∷ []
unfolding octets_of orders_of read_of command_of
rst_read = refl

-- it isn't a message of the first host to the second with an RTS of link 3
abbrev NamesOther : ℕ → Crossing → Type 0
NamesOther foreign c = (m : HostMessage) → c ≡ crossing.Out m → m.flow ≡ control_flow first second → Contains (orders_of m.text) (Legal (command.Rts 16 foreign 3)) → ⊥

none_in : (order : Order) (m : HostMessage) → (os : List Order) → orders_of m.text ≡ os → Each (λ (o : Order). o ≡ order → ⊥) os → Contains (orders_of m.text) order → ⊥
none_in order m os is none there = each_in (λ (o : Order). o ≡ order → ⊥) os order (subst (λ (all : List Order). Contains all order) is there) none refl

in_is : (m n : HostMessage) → crossing.In m ≡ crossing.Out n → ⊥
in_is m n e = cc

not_out : (foreign : ℕ) (m : HostMessage) → NamesOther foreign (crossing.In m)
not_out foreign m n e flow there = in_is m n e

not_answer : (foreign : ℕ) (kind : _) (f : Flow) → NamesOther foreign (crossing.Answer kind f)
not_answer foreign kind f n e flow there = cc

from_second : (foreign : ℕ) (m : HostMessage) → m.flow.source.imp ≡ 2 → NamesOther foreign (crossing.Out m)
from_second foreign m two n e flow there =
    let source : 2 ≡ 1 = sym two ∙ ap (λ (x : HostMessage). x.flow.source.imp) (same_out m n e) ∙ ap (λ (f : Flow). f.source.imp) flow in
    omega (arith, source)

of_these : (foreign : ℕ) (m : HostMessage) (os : List Order) → orders_of m.text ≡ os → Each (λ (o : Order). o ≡ Legal (command.Rts 16 foreign 3) → ⊥) os → NamesOther foreign (crossing.Out m)
of_these foreign m os is none n e flow there =
    none_in (Legal (command.Rts 16 foreign 3)) m os is none (subst (λ (x : HostMessage). Contains (orders_of x.text) (Legal (command.Rts 16 foreign 3))) (sym (same_out m n e)) there)

an_rst : (foreign : ℕ) → Legal command.Rst ≡ Legal (command.Rts 16 foreign 3) → ⊥
an_rst foreign e = cc

link_in : Order → ℕ
link_in (Legal (command.Rts own foreign link)) = link
link_in o = 0

another : (foreign : ℕ) → Legal (command.Rts 16 33 2) ≡ Legal (command.Rts 16 foreign 3) → ⊥
unfolding link_in
another foreign e = let link : 2 ≡ 3 = ap link_in e in omega (arith, link)

all_other : (foreign : ℕ) → Each (NamesOther foreign) (drop 1 stray_log)
all_other foreign = (
  from_second foreign stray refl,
  (
    not_answer foreign _ _,
    (
      not_out foreign str,
      (
        not_answer foreign _ _,
        (
          from_second foreign str refl,
          (
            not_out foreign rts,
            (
              of_these foreign rts (Legal (command.Rts 16 33 2) ∷ []) rts_read (another foreign, tt),
              (
                not_answer foreign _ _,
                (
                  not_out foreign (rrp second first),
                  (
                    from_second foreign (rrp second first) refl,
                    (
                      not_answer foreign _ _,
                      (
                        not_out foreign (rst first second),
                        (
                          of_these foreign (rst first second) (Legal command.Rst ∷ []) rst_read (an_rst foreign, tt),
                          tt,
                        ),
                      ),
                    ),
                  ),
                ),
              ),
            ),
          ),
        ),
      ),
    ),
  ),
)

no_link : HasLink first second 16 3 (drop 1 stray_log) → ⊥
no_link h = crossed_in (NamesOther h.foreign) h.own_stamp (going h.own.message) (drop 1 stray_log) h.own.crossed (all_other h.foreign) h.own.message refl h.own.flow h.own.holds

pub row_another_link : FormedNotices stray_log (stray_sent ∷ stray_arrived ∷ []) → ⊥
row_another_link (inl (may, (inl a))) = absurd (let no : false ≡ true = a.0 in cc)
row_another_link (inl (may, (inr a))) = by (ap (λ (t : Told). t.notice) a.0.told) where
  by : notice.Arrived 16 eight ≡ notice.Sent a.0.socket a.0.bits → ⊥
  by e = cc
row_another_link (inr a) =
    let socket : 16 ≡ a.0.socket = ap (λ (t : Told). socket_in t.notice) a.0.told in
    no_link (subst (λ (n : ℕ). HasLink first second n 3 (drop 1 stray_log)) (sym socket) a.0.linked) where
      socket_in : Notice → ℕ
      socket_in (notice.Arrived socket bits) = socket
      socket_in n = 0
