-- Two sockets that both receive or both send: nothing is said of them, and no end of theirs opens.
use Rattle.world_keeps_pairing.proofs.Common.{Host, same_host, ◌≡◌, ℕ, ◌==◌, Bool, true, false, ◌&&◌, if◌then◌else◌, List, [], ◌∷◌, ◌++◌, refl, ap, sym, subst, ◌∙◌, eqb-true, same_flow, Flow, Crossing, HostMessage, same_flow-true, and_turned, is_receive_socket, is_send_socket, Order, Legal, Wrong, orders_of, AreOrders, IsOrder, text_good, MayAllGo, mark_in, marks_in, nothing, Mark, Ask, Close, AreOurs, Network}
use Rattle.interface.specs.Mailboxes as mail
use Rattle.interface.specs.declared.crossing.Crossing.TheVariants as crossing
use Rattle.ncp_control.specs.declared.command.Command.TheVariants as command
use Rattle.host_pairs.proofs.lemmas.{both}
use Rattle.net_sim.proofs.lemmas.{cleared_waits, fetched_waits}
use Rattle.world_keeps_pairing.proofs.Programs.{read_marks}

-- neither a receiving socket with a sending one, nor the other way
abbrev pub IsUnpaired : ℕ → ℕ → Type 0
IsUnpaired own foreign = ((is_receive_socket own && is_send_socket foreign) ≡ false) × ((is_send_socket own && is_receive_socket foreign) ≡ false)

pub unpaired_turned : (own foreign : ℕ) → IsUnpaired own foreign → IsUnpaired foreign own
unpaired_turned own foreign u = (and_turned (is_receive_socket foreign) _ ∙ u.1, and_turned (is_send_socket foreign) _ ∙ u.0)

-- ---- what orders say of them

-- nothing but CLS
abbrev AllClose : List Mark → Type 0
AllClose [] = Unit {0}
AllClose (Ask p ∷ ms) = ⊥
AllClose (Close ∷ ms) = AllClose ms

closes_append : (xs ys : List Mark) → AllClose xs → AllClose ys → AllClose (xs ++ ys)
closes_append [] ys h k = k
closes_append (Ask p ∷ xs) ys h k = h
closes_append (Close ∷ xs) ys h k = closes_append xs ys h k

close_if : (b : Bool) → AllClose (if b then Close ∷ [] else [])
close_if true = tt
close_if false = tt

-- a request isn't of these two
no_ask : (place : ℕ) (b : Bool) → (b ≡ true → ⊥) → AllClose (if b then Ask place ∷ [] else [])
no_ask place true k = k refl
no_ask place false k = tt

two_true : (a b c d : Bool) → a ≡ c → b ≡ d → c ≡ true → d ≡ true → (a && b) ≡ false → ⊥
two_true a b c d e f g h off = absurd (let both : true ≡ false = sym (ap (λ (t : Bool). t && b) (e ∙ g) ∙ f ∙ h) ∙ off in cc)

module _ (own foreign : ℕ) (u : IsUnpaired own foreign) where
  order_closes : (place : ℕ) (o : Order) → IsOrder o → AllClose (mark_in place own foreign o)
  order_closes place (Wrong code octets) h = tt
  order_closes place (Legal (command.Rts r n link)) h =
      no_ask place _
      (λ e. let is : ((r == own) ≡ true) × ((n == foreign) ≡ true) = both (r == own) (n == foreign) e in
      two_true _ _ _ _ (ap is_receive_socket (sym (eqb-true r own is.0))) (ap is_send_socket (sym (eqb-true n foreign is.1))) h.1 h.3 u.0)
  order_closes place (Legal (command.Str n r size)) h =
      no_ask place _
      (λ e. let is : ((n == own) ≡ true) × ((r == foreign) ≡ true) = both (n == own) (r == foreign) e in
      two_true _ _ _ _ (ap is_send_socket (sym (eqb-true n own is.0))) (ap is_receive_socket (sym (eqb-true r foreign is.1))) h.1 h.3 u.1)
  order_closes place (Legal (command.Cls mine yours)) h = close_if _
  order_closes place (Legal c) h = tt

  orders_close : (place : ℕ) (orders : List Order) → AreOrders orders → AllClose (marks_in place own foreign orders)
  orders_close place [] h = tt
  orders_close place (o ∷ orders) h = closes_append (mark_in place own foreign o) _ (order_closes place o h.0) (orders_close place orders h.1)

  read_closes : (place link : ℕ) (text : List Bool) → AllClose (read_marks place own foreign link text)
  read_closes place link text = by (link == 0) where
    by : (z : Bool) → AllClose (if z then marks_in place own foreign (orders_of text) else [])
    by true = orders_close place (orders_of text) (text_good text)
    by false = tt

-- and a CLS isn't said where there is no end
none_said : (ms : List Mark) (next : ℕ) → AllClose ms → MayAllGo ms nothing next → ms ≡ []
none_said [] next h may = refl
none_said (Ask p ∷ ms) next h may = absurd h
none_said (Close ∷ ms) next h may = absurd (let no : false ≡ true = may.0.0 in cc)

pub unsaid : (own foreign place link : ℕ) (text : List Bool) (next : ℕ) → IsUnpaired own foreign → MayAllGo (read_marks place own foreign link text) nothing next → read_marks place own foreign link text ≡ []
unsaid own foreign place link text next u may = none_said _ next (read_closes own foreign u place link text) may

-- ---- what waits was said

-- a text says nothing of such sockets
abbrev pub IsSilent : ℕ → List Bool → Type 0
IsSilent link text = (own foreign place : ℕ) → IsUnpaired own foreign → read_marks place own foreign link text ≡ []

abbrev pub AllSilent : Network → List Crossing → Type 0
AllSilent hosts [] = Unit {0}
AllSilent hosts (crossing.Out m ∷ log) = (AreOurs hosts m.flow.source m.flow.destination → IsSilent m.flow.link.0 m.text) × AllSilent hosts log
AllSilent hosts (crossing.In m ∷ log) = AllSilent hosts log
AllSilent hosts (crossing.Answer kind f ∷ log) = AllSilent hosts log
AllSilent hosts (crossing.Down h ∷ log) = AllSilent hosts log
AllSilent hosts (crossing.Up h ∷ log) = AllSilent hosts log

-- the text of a box
abbrev text_in : mail.Box → List Bool
text_in mail.Empty = []
text_in (mail.Waiting place text) = text
text_in (mail.Taken place text) = text

module _ (hosts : Network) (f : Flow) (ours : AreOurs hosts f.source f.destination) (p : ℕ) (text : List Bool) where
  put_silent : (m : HostMessage) (here : ℕ) (box : mail.Box) → (AreOurs hosts m.flow.source m.flow.destination → IsSilent m.flow.link.0 m.text) → (box ≡ mail.Waiting p text → IsSilent f.link.0 text) → (b : Bool) → same_flow f m.flow ≡ b → (if b then mail.Waiting here m.text else box) ≡ mail.Waiting p text → IsSilent f.link.0 text
  put_silent m here box said rest true e is =
      let same : f ≡ m.flow = same_flow-true f m.flow e in
      let kept : m.text ≡ text = ap text_in is in
      subst (λ (t : List Bool). IsSilent f.link.0 t) kept (subst (λ (g : Flow). IsSilent g.link.0 m.text) (sym same) (said (subst (λ (g : Flow). AreOurs hosts g.source g.destination) same ours)))
  put_silent m here box said rest false e is = rest is

  pub waiting_silent : (log : List Crossing) → AllSilent hosts log → mail.box_of f log ≡ mail.Waiting p text → IsSilent f.link.0 text
  waiting_silent [] all is = absurd (let no : mail.Empty ≡ mail.Waiting p text = is in cc)
  waiting_silent (crossing.Out m ∷ log) all is = put_silent m _ _ all.0 (λ e. waiting_silent log all.1 e) _ refl is
  waiting_silent (crossing.In m ∷ log) all is = waiting_silent log all (fetched_waits (mail.box_of f log) p text _ is)
  waiting_silent (crossing.Answer kind g ∷ log) all is = waiting_silent log all (cleared_waits _ p text _ is)
  waiting_silent (crossing.Down h ∷ log) all is = waiting_silent log all is
  waiting_silent (crossing.Up h ∷ log) all is = waiting_silent log all (cleared_waits _ p text _ is)
