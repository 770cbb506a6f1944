-- What a book gains, event by event.
use Rattle.world_replay.proofs.Common.{false≢true, MatchBool, Host, Crossing, ServiceDeskState, ServicesState, opening_desk, NcpState, refusal, served, served_notices, next_out, offered, accepted, NcpFault, Notice, Request, Kept, crossed, all_crossed, book_told, all_told, asked, all_asked, WorldFault, Event, Net, Quiet, Offer, Out, Take, Ask, Server, User, Typed, Seat, line_bits, Gains}
use Rattle.std.proofs.Common.{◌≡◌, inr, ℕ, suc, ◌+◌, ◌≤◌, Bool, true, false, List, [], ◌∷◌, ◌++◌, length, Option, Some, None, Result, Ok, Err, reverse, refl, ap, sym, subst, ◌∙◌, arith, inl}
use Rattle.std.proofs.lemmas.List.{append-nil, length-append, reverse-append, append_assoc}
use Rattle.interface.specs.Calls.{Calls, crossing_of, step_crossings}
use Rattle.net_sim.specs.declared.event.WorldFault.TheVariants.{Carrier, Program}
use Rattle.net_sim.specs.World.{WorldState, seat_of, services_of, noticed, done_by, with_carrier, world_moved, changed, served_at, with_server, with_user, TypeGives, DoesOrHalts, Refuses, Does, Halts, Passes, OfferEnds, OfferGives, TakeEnds, TakeGives, NetEnds, QuietEnds, AskGives, AtProgram, AtSeat, TurnGives, stops, turn_of, EventGives}
use Rattle.interface.specs.declared.carrier.CarrierFault.{CarrierFault}
use Rattle.interface.specs.declared.carrier.CarrierFault.TheVariants as fault
use Rattle.interface.specs.declared.crossing.Crossing.TheVariants as crossing
use Rattle.interface.specs.declared.crossing.Inbound.{Inbound}
use Rattle.interface.specs.declared.event.NetEvent.{NetEvent}
use Rattle.interface.specs.declared.message.HostMessage.{HostMessage}
use Rattle.host_services.specs.Turns as services
use Rattle.sockets.specs.declared.fault.NcpFault.TheVariants as problem
use Rattle.sockets.specs.declared.request.Request.TheVariants as request
use Rattle.net_sim.proofs.lemmas.{turn_stands}
use Rattle.world_replay.proofs.News.{AreAbout, AreBetween, between_append, between_wider}
use Rattle.world_replay.proofs.Reports.{about_append, about_wider, told_about}

-- ---- books that only grow

-- a book gained crossings and notices, each at a place from its old end up to its new one, and reports about the new notices
pub record Grew (old new : Kept) : Type 0 where
  pub gains : Gains old new
  pub between : AreBetween (length old.book.crossings) (length new.book.crossings) gains.notices
  pub about : AreAbout (length old.book.notices) (length new.book.notices) gains.reports

pub longer : (old new : Kept) → Gains old new → length old.book.crossings ≤ length new.book.crossings
longer old new g =
    let all : length new.book.crossings ≡ length (reverse g.crossings ++ old.book.crossings) = ap length g.crossed in
    omega (arith, all, length-append (reverse g.crossings) old.book.crossings)

pub more_notices : (old new : Kept) → Gains old new → length old.book.notices ≤ length new.book.notices
more_notices old new g =
    let all : length new.book.notices ≡ length (old.book.notices ++ g.notices) = ap length g.told in
    omega (arith, all, length-append old.book.notices g.notices)

pub more_reports : (old new : Kept) → Gains old new → length old.book.reports ≤ length new.book.reports
more_reports old new g =
    let all : length new.book.reports ≡ length (old.book.reports ++ g.reports) = ap length g.said in
    omega (arith, all, length-append old.book.reports g.reports)

abbrev pub gains_none : (k : Kept) → Gains k k
gains_none k = record { crossings = []; notices = []; reports = []; crossed = refl; told = sym (append-nil k.book.notices); said = sym (append-nil k.book.reports) }

pub gains_same : (old new : Kept) → new ≡ old → Gains old new
gains_same old new is = subst (Gains old) (sym is) (gains_none old)

unfoldable pub grew_none : (k : Kept) → Grew k k
grew_none k = record { gains = gains_none k; between = tt; about = tt }

unfoldable pub grew_more : (old mid new : Kept) → Grew old mid → Grew mid new → Grew old new
grew_more old mid new h k = record {
  gains = record {
    crossings = h.gains.crossings ++ k.gains.crossings;
    notices = h.gains.notices ++ k.gains.notices;
    reports = h.gains.reports ++ k.gains.reports;
    crossed = k.gains.crossed ∙ ap (λ log. reverse k.gains.crossings ++ log) h.gains.crossed ∙ sym (append_assoc (reverse k.gains.crossings) (reverse h.gains.crossings) old.book.crossings)
        ∙ ap (λ log. log ++ old.book.crossings) (sym (reverse-append h.gains.crossings k.gains.crossings));
    told = k.gains.told ∙ ap (λ ns. ns ++ k.gains.notices) h.gains.told ∙ append_assoc old.book.notices h.gains.notices k.gains.notices;
    said = k.gains.said ∙ ap (λ rs. rs ++ k.gains.reports) h.gains.said ∙ append_assoc old.book.reports h.gains.reports k.gains.reports;
  };
  between = between_append (length old.book.crossings) (length new.book.crossings) h.gains.notices k.gains.notices
      (between_wider (length old.book.crossings) (length mid.book.crossings) (length old.book.crossings) (length new.book.crossings) h.gains.notices (omega arith) (longer mid new k.gains) h.between)
      (between_wider (length mid.book.crossings) (length new.book.crossings) (length old.book.crossings) (length new.book.crossings) k.gains.notices (longer old mid h.gains) (omega arith) k.between);
  about = about_append (length old.book.notices) (length new.book.notices) h.gains.reports k.gains.reports
      (about_wider (length old.book.notices) (length mid.book.notices) (length old.book.notices) (length new.book.notices) h.gains.reports (omega arith) (more_notices mid new k.gains) h.about)
      (about_wider (length mid.book.notices) (length new.book.notices) (length old.book.notices) (length new.book.notices) k.gains.reports (more_notices old mid h.gains) (omega arith) k.about);
}

grew_crossed : (c : Crossing) (k : Kept) → Grew k (crossed c k)
grew_crossed c k = record { gains = record { crossings = c ∷ []; notices = []; reports = []; crossed = refl; told = sym (append-nil k.book.notices); said = sym (append-nil k.book.reports) }; between = tt; about = tt }

grew_told : (h : Host) (n : Notice) (k : Kept) → Grew k (book_told h n k)
grew_told h n k = record {
  gains = record { crossings = []; notices = record { host = h; place = length k.book.crossings; notice = n } ∷ []; reports = []; crossed = refl; told = refl; said = sym (append-nil k.book.reports) };
  between = (omega arith, omega arith, tt);
  about = tt;
}

grew_all_told : (h : Host) (ns : List Notice) (k : Kept) → Grew k (all_told h ns k)
grew_all_told h [] k = grew_none k
grew_all_told h (n ∷ ns) k = grew_more k (book_told h n k) (all_told h ns (book_told h n k)) (grew_told h n k) (grew_all_told h ns (book_told h n k))

pub grew_all_crossed : (cs : List Crossing) (k : Kept) → Grew k (all_crossed cs k)
grew_all_crossed [] k = grew_none k
grew_all_crossed (c ∷ cs) k = grew_more k (all_crossed cs k) (crossed c (all_crossed cs k)) (grew_all_crossed cs k) (grew_crossed c (all_crossed cs k))

grew_asked : (h : Host) (q : Request) (k : Kept) → Grew k (asked h q k)
grew_asked h q k = record { gains = record { crossings = []; notices = []; reports = []; crossed = refl; told = sym (append-nil k.book.notices); said = sym (append-nil k.book.reports) }; between = tt; about = tt }

pub grew_same : (old new : Kept) → new ≡ old → Grew old new
grew_same old new is = subst (Grew old) (sym is) (grew_none old)

-- ---- what services do to a book

-- what they ask for leaves crossings, notices and reports as they were
record SameNews (k j : Kept) : Type 0 where
  crossings : j.book.crossings ≡ k.book.crossings
  notices : j.book.notices ≡ k.book.notices
  reports : j.book.reports ≡ k.book.reports

asked_same : (h : Host) (rs : List Request) (k : Kept) → SameNews k (all_asked h rs k)
asked_same h [] k = record { crossings = refl; notices = refl; reports = refl }
asked_same h (r ∷ rs) k =
    let rest : SameNews (asked h r k) (all_asked h rs (asked h r k)) = asked_same h rs (asked h r k) in
    record { crossings = rest.crossings; notices = rest.notices; reports = rest.reports }

-- nor do notices cross
told_crossings : (h : Host) (ns : List Notice) (k : Kept) → (all_told h ns k).book.crossings ≡ k.book.crossings
told_crossings h [] k = refl
told_crossings h (n ∷ ns) k = told_crossings h ns (book_told h n k)

-- after a crossing, its notices, and what services did
pub one_crossed : (h : Host) (d : ServiceDeskState) (ns : List Notice) (c : Crossing) (k : Kept) → length (done_by h d (all_told h ns (crossed c k))).book.crossings ≡ suc (length k.book.crossings)
one_crossed h d ns c k = ap length ((asked_same h d.asked (all_told h ns (crossed c k))).crossings ∙ told_crossings h ns (crossed c k))

-- notices count up, and are no reports
told_reports : (h : Host) (ns : List Notice) (k : Kept) → (all_told h ns k).book.reports ≡ k.book.reports
told_reports h [] k = refl
told_reports h (n ∷ ns) k = told_reports h ns (book_told h n k)

told_count : (h : Host) (ns : List Notice) (k : Kept) → length (all_told h ns k).book.notices ≡ length k.book.notices + length ns
told_count h [] k = omega arith
told_count h (n ∷ ns) k =
    let one : length (book_told h n k).book.notices ≡ length k.book.notices + 1 = length-append k.book.notices (record { host = h; place = length k.book.crossings; notice = n } ∷ []) in
    let more : length (all_told h ns (book_told h n k)).book.notices ≡ length (book_told h n k).book.notices + length ns = told_count h ns (book_told h n k) in
    omega (arith, one, more)

-- a book that grew by no report, and then by what services did, who were notified of its new notices
grew_done : (k j : Kept) (h : Host) (d : ServiceDeskState) → Grew k j → j.book.reports ≡ k.book.reports → AreAbout (length k.book.notices) (length j.book.notices) d.reports → Grew k (done_by h d j)
grew_done k j h d g none about =
    let same : SameNews j (all_asked h d.asked j) = asked_same h d.asked j in
    record {
      gains = record {
        crossings = g.gains.crossings;
        notices = g.gains.notices;
        reports = d.reports;
        crossed = same.crossings ∙ g.gains.crossed;
        told = same.notices ∙ g.gains.told;
        said = ap (λ rs. rs ++ d.reports) (same.reports ∙ none);
      };
      between = subst (λ cs. AreBetween (length k.book.crossings) (length cs) g.gains.notices) (sym same.crossings) g.between;
      about = subst (λ ns. AreAbout (length k.book.notices) (length ns) d.reports) (sym same.notices) about;
    }

-- the same of a new service, which is about no notice
gains_done : (k : Kept) (h : Host) (d : ServiceDeskState) → Gains k (done_by h d k)
gains_done k h d =
    let same : SameNews k (all_asked h d.asked k) = asked_same h d.asked k in
    record {
      crossings = [];
      notices = [];
      reports = d.reports;
      crossed = same.crossings;
      told = same.notices ∙ sym (append-nil k.book.notices);
      said = ap (λ rs. rs ++ d.reports) same.reports;
    }

-- the services of a host are given notices, of which this many were in the book before
grew_heard : (h : Host) (ns : List Notice) (x : ServicesState) (p : NcpState) (k j : Kept) → Grew k j → j.book.reports ≡ k.book.reports → j.book.notices ≡ k.book.notices
    → Grew k (done_by h (turn_of h (length k.book.notices) x (p, ns)).1 (all_told h ns j))
grew_heard h ns x p k j g none same =
    let more : Grew k (all_told h ns j) = grew_more k j (all_told h ns j) g (grew_all_told h ns j) in
    let count : length k.book.notices + length ns ≡ length (all_told h ns j).book.notices = ap (λ ts. length ts + length ns) (sym same) ∙ sym (told_count h ns j) in
    grew_done k (all_told h ns j) h (turn_of h (length k.book.notices) x (p, ns)).1 more (told_reports h ns j ∙ none)
    (subst (λ n. AreAbout (length k.book.notices) n (turn_of h (length k.book.notices) x (p, ns)).1.reports) count (told_about ns x (opening_desk h (length k.book.notices) p) refl))

grew_moved : (h : Host) (c : Crossing) (ns : List Notice) (x : ServicesState) (p : NcpState) (k : Kept) → Grew k (done_by h (turn_of h (length k.book.notices) x (p, ns)).1 (all_told h ns (crossed c k)))
grew_moved h c ns x p k = grew_heard h ns x p k (crossed c k) (grew_crossed c k) refl refl

grew_served : (h : Host) (q : Request) (ns : List Notice) (x : ServicesState) (p : NcpState) (k : Kept) → Grew k (done_by h (turn_of h (length k.book.notices) x (p, ns)).1 (all_told h ns (asked h q k)))
grew_served h q ns x p k = grew_heard h ns x p k (asked h q k) (grew_asked h q k) refl refl

-- ---- one event

-- whether an event begins a service
abbrev pub begins : Event → Bool
begins (Server h listen base) = true
begins (User h peer listen own) = true
begins e = false

module _ {C : Type 0} (calls : Calls C) where
  pub does_grow : (old done : WorldState C) (r : Result (Unit {0}) WorldFault) (new : WorldState C) → Grew old.kept done.kept → Does done r new → Grew old.kept new.kept
  does_grow old done r new g d = subst (λ (w : WorldState C). Grew old.kept w.kept) (sym d.1) g

  pub halts_grow : (c : C) (old : WorldState C) (r : Result (Unit {0}) WorldFault) (new : WorldState C) → Halts c old r new → Grew old.kept new.kept
  halts_grow c old r new h = grew_same old.kept new.kept h.kept

  refuses_grow : (f : WorldFault) (old : WorldState C) (r : Result (Unit {0}) WorldFault) (new : WorldState C) → Refuses f old r new → Grew old.kept new.kept
  refuses_grow f old r new h = grew_same old.kept new.kept (ap (λ (w : WorldState C). w.kept) h.1)

  pub passes_grow : (e : CarrierFault) (c : C) (old : WorldState C) (r : Result (Unit {0}) WorldFault) (new : WorldState C) → Passes e c old r new → Grew old.kept new.kept
  passes_grow e c old r new h = grew_same old.kept new.kept (ap (λ (w : WorldState C). w.kept) h.1)

  offer_end : (h : Host) (s : NcpState) (m : HostMessage) (answer : Result (Unit {0}) CarrierFault) (c : C) (old : WorldState C) (r : Result (Unit {0}) WorldFault) (new : WorldState C)
      → OfferEnds h s m answer c old r new → Grew old.kept new.kept
  offer_end h s m (Ok done) c old r new ends = elim ends [
    | inl d ↦ let turn : NcpState × List Notice = offered s (length old.kept.book.crossings) in
        does_grow old (world_moved c h (crossing.Out m) turn old) r new (grew_moved h (crossing.Out m) turn.1 (services_of h old.services) turn.0 old.kept) d
    | inr x ↦ halts_grow c old r new x
  ]
  offer_end h s m (Err e) c old r new ends = passes_grow e c old r new ends

  offer_grows : (h : Host) (s : NcpState) (o : Option HostMessage) (old : WorldState C) (r : Result (Unit {0}) WorldFault) (new : WorldState C) → OfferGives calls h s o old r new → Grew old.kept new.kept
  offer_grows h s None old r new gives = does_grow old old r new (grew_none old.kept) gives
  offer_grows h s (Some m) old r new gives = elim gives [ inl x ↦ halts_grow old.carrier old r new x | inr t ↦ offer_end h s m t.0 t.1 old r new t.3 ]

  take_end : (h : Host) (s : NcpState) (answer : Result (Option Inbound) CarrierFault) (c : C) (old : WorldState C) (r : Result (Unit {0}) WorldFault) (new : WorldState C)
      → TakeEnds h s answer c old r new → Grew old.kept new.kept
  take_end h s (Ok None) c old r new ends = does_grow old (with_carrier c old) r new (grew_none old.kept) ends
  take_end h s (Ok (Some i)) c old r new ends = elim ends [
    | inl d ↦ let turn : NcpState × List Notice = accepted s i (length old.kept.book.crossings) in
        does_grow old (world_moved c h (crossing_of i) turn old) r new (grew_moved h (crossing_of i) turn.1 (services_of h old.services) turn.0 old.kept) d
    | inr x ↦ halts_grow c old r new x
  ]
  take_end h s (Err e) c old r new ends = passes_grow e c old r new ends

  net_end : (e : NetEvent) (answer : Result (Unit {0}) CarrierFault) (c : C) (old : WorldState C) (r : Result (Unit {0}) WorldFault) (new : WorldState C)
      → NetEnds (calls.seen old.carrier) e answer c old r new → Grew old.kept new.kept
  net_end e (Ok done) c old r new ends = elim ends [
    | inl d ↦ does_grow old (changed c (step_crossings (calls.seen old.carrier) e) old) r new (grew_all_crossed (step_crossings (calls.seen old.carrier) e) old.kept) d
    | inr x ↦ halts_grow c old r new x.1
  ]
  net_end e (Err f) c old r new ends = passes_grow f c old r new ends

  quiet_end : (answer : Result (Unit {0}) CarrierFault) (c : C) (old : WorldState C) (r : Result (Unit {0}) WorldFault) (new : WorldState C) → QuietEnds answer c old r new → Grew old.kept new.kept
  quiet_end (Ok done) c old r new ends = does_grow old (with_carrier c old) r new (grew_none old.kept) ends
  quiet_end (Err f) c old r new ends = passes_grow f c old r new ends

  ask_grows : (h : Host) (q : Request) (s : NcpState) (o : Option NcpFault) (old : WorldState C) (r : Result (Unit {0}) WorldFault) (new : WorldState C) → AskGives h q s o old r new → Grew old.kept new.kept
  ask_grows h q s (Some f) old r new gives = refuses_grow (Program f) old r new gives
  ask_grows h q s None old r new gives = elim gives [
    | inl d ↦ does_grow old (served_at h q s old) r new (grew_served h q (served_notices s q) (services_of h old.services) (served s q) old.kept) d
    | inr x ↦ halts_grow old.carrier old r new x
  ]

  type_grows : (h : Host) (line : List ℕ) (s : NcpState) (o : Option ℕ) (old : WorldState C) (r : Result (Unit {0}) WorldFault) (new : WorldState C) → TypeGives h line s o old r new → Grew old.kept new.kept
  type_grows h line s None old r new gives = refuses_grow (Program problem.NotOpen) old r new gives
  type_grows h line s (Some socket) old r new gives = ask_grows h (request.Send socket (line_bits line)) s (refusal s (request.Send socket (line_bits line))) old r new gives

  pub at_program : (Gives : NcpState → Type 0) (G : Type 0) (o : Option NcpState) (old : WorldState C) (r : Result (Unit {0}) WorldFault) (new : WorldState C)
      → (new ≡ old → G) → ((s : NcpState) → Gives s → G) → AtProgram Gives o old r new → G
  at_program Gives G None old r new same k h = same h.1
  at_program Gives G (Some s) old r new same k h = k s h

  pub at_seat : (Gives : NcpState → Type 0) (G : Type 0) (o : Option Seat) (old : WorldState C) (r : Result (Unit {0}) WorldFault) (new : WorldState C)
      → (new ≡ old → G) → ((s : NcpState) → Gives s → G) → AtSeat Gives o old r new → G
  at_seat Gives G None old r new same k h = same h.1
  at_seat Gives G (Some seat) old r new same k h = at_program Gives G seat.program old r new same k h

  pub if_stopped : (P G : Type 0) (old : WorldState C) (r : Result (Unit {0}) WorldFault) (new : WorldState C) (b : Bool) → (new ≡ old → G) → (P → G) → MatchBool b (Refuses (Carrier fault.Stopped) old r new) P → G
  if_stopped P G old r new true same k h = same h.1
  if_stopped P G old r new false same k h = k h

  at_host : (Gives : NcpState → Type 0) (h : Host) (old : WorldState C) (r : Result (Unit {0}) WorldFault) (new : WorldState C) → ((s : NcpState) → Gives s → Grew old.kept new.kept) → AtSeat Gives (seat_of h old.seats) old r new → Grew old.kept new.kept
  at_host Gives h old r new k t =
      at_seat Gives (Grew old.kept new.kept) (seat_of h old.seats) old r new (λ is. grew_same old.kept new.kept (ap (λ (w : WorldState C). w.kept) is)) k t

  -- ---- a server or a user begins

  begun : (h : Host) (t : ServicesState × ServiceDeskState) (old done : WorldState C) (r : Result (Unit {0}) WorldFault) (new : WorldState C) → done.kept ≡ done_by h t.1 old.kept → DoesOrHalts done old r new → Gains old.kept new.kept
  begun h t old done r new is ends = elim ends [
    | inl d ↦ subst (Gains old.kept) (sym (ap (λ (w : WorldState C). w.kept) d.1 ∙ is)) (gains_done old.kept h t.1)
    | inr x ↦ gains_same old.kept new.kept x.kept
  ]

  -- ---- all others

  event_grows : (e : Event) (old : WorldState C) (r : Result (Unit {0}) WorldFault) (new : WorldState C) → begins e ≡ false → EventGives calls old e r new → Grew old.kept new.kept
  event_grows (Net e) old r new other t = net_end e t.0 t.1 old r new t.3
  event_grows Quiet old r new other t = quiet_end t.0 t.1 old r new t.3
  event_grows (Offer h) old r new other t = at_host (λ s. OfferGives calls h s (next_out s) old r new) h old r new (λ s g. offer_grows h s (next_out s) old r new g) t
  event_grows (Take h) old r new other t = at_host (λ s. TakeGives calls h s old r new) h old r new (λ s g. take_end h s g.0 g.1 old r new g.3) t
  event_grows (Ask h q) old r new other t = at_host (λ s. AskGives h q s (refusal s q) old r new) h old r new (λ s g. ask_grows h q s (refusal s q) old r new g) t
  event_grows (Server h listen base) old r new other t = absurd (false≢true (sym other))
  event_grows (User h peer listen own) old r new other t = absurd (false≢true (sym other))
  event_grows (Typed h line) old r new other t =
      at_host (λ s. TypeGives h line s (services_of h old.services).typing old r new) h old r new (λ s g. type_grows h line s (services_of h old.services).typing old r new g) t
  event_grows (Out m) old r new other t = grew_same old.kept new.kept (ap (λ (w : WorldState C). w.kept) t.1)

  pub event_gains : (e : Event) (old : WorldState C) (r : Result (Unit {0}) WorldFault) (new : WorldState C) → EventGives calls old e r new → Gains old.kept new.kept
  event_gains (Server h listen base) old r new t =
      at_seat (λ s. DoesOrHalts (with_server h listen base s old) old r new) (Gains old.kept new.kept) (seat_of h old.seats) old r new (λ is. gains_same old.kept new.kept (ap (λ (w : WorldState C). w.kept) is))
      (λ s g. begun h (services.server_begun listen base (services_of h old.services) (opening_desk h (noticed old) s)) old (with_server h listen base s old) r new refl g) t
  event_gains (User h peer listen own) old r new t =
      at_seat (λ s. DoesOrHalts (with_user h peer listen own s old) old r new) (Gains old.kept new.kept) (seat_of h old.seats) old r new (λ is. gains_same old.kept new.kept (ap (λ (w : WorldState C). w.kept) is))
      (λ s g. begun h (services.user_begun peer listen own (services_of h old.services) (opening_desk h (noticed old) s)) old (with_user h peer listen own s old) r new refl g) t
  event_gains e old r new t = (event_grows e old r new refl t).gains

  pub turn_grows : (e : Event) (old : WorldState C) (r : Result (Unit {0}) WorldFault) (new : WorldState C) → begins e ≡ false → TurnGives calls old e r new → Grew old.kept new.kept
  turn_grows e old r new other h =
      if_stopped (EventGives calls old e r new) (Grew old.kept new.kept) old r new old.stopped (λ is. grew_same old.kept new.kept (ap (λ (w : WorldState C). w.kept) is)) (λ g. event_grows e old r new other g) h

  pub turn_gains : (e : Event) (old : WorldState C) (r : Result (Unit {0}) WorldFault) (new : WorldState C) → TurnGives calls old e r new → Gains old.kept new.kept
  turn_gains e old r new h =
      if_stopped (EventGives calls old e r new) (Gains old.kept new.kept) old r new old.stopped (λ is. gains_same old.kept new.kept (ap (λ (w : WorldState C). w.kept) is)) (λ g. event_gains e old r new g) h

  -- where memory runs out, the book is unchanged
  pub turn_kept : (e : Event) (old : WorldState C) (r : Result (Unit {0}) WorldFault) (new : WorldState C) → TurnGives calls old e r new → stops r ≡ true → new.kept ≡ old.kept
  turn_kept e old (Ok done) new h halts = absurd (false≢true halts)
  turn_kept e old (Err f) new h halts = turn_stands calls f old (Err f) new refl e h
