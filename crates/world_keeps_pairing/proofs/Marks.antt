-- What orders say at one pair of sockets, by words and by marks.
use Rattle.world_keeps_pairing.proofs.Common.{◌≡◌, ℕ, ◌%◌, ◌==◌, Bool, true, false, ◌&&◌, if◌then◌else◌, List, [], ◌∷◌, ◌++◌, refl, ap, sym, ◌∙◌, arith, eqb-true, append-nil, is_receive_socket, is_send_socket, Order, Legal, Wrong, orders_of, IsOrder, AreOrders, text_good, mark_in, marks_in, untagged, eqb-sym, untagged_is, Mark, Ask, Close, tagged, Sockets, Word, Who, Receiver, Sender, and_turned}
use Rattle.world_keeps_pairing.specs.Steps.{word_by, words_by, words_of, word}
use Rattle.ncp_control.specs.declared.command.Command.TheVariants as command
use Rattle.host_pairs.proofs.lemmas.{both}
use Rattle.pairing_law.proofs.lemmas.{at, at_join}
use Rattle.world_keeps_pairing.proofs.Sides.{at_texts}

-- a receiving socket and a sending one
abbrev pub IsPair : Sockets → Type 0
IsPair s = (is_receive_socket s.receive ≡ true) × (is_send_socket s.send ≡ true)

abbrev pub own_of : Who → Sockets → ℕ
own_of Receiver s = s.receive
own_of Sender s = s.send

abbrev pub foreign_of : Who → Sockets → ℕ
foreign_of Receiver s = s.send
foreign_of Sender s = s.receive

pub even_odd : (n : ℕ) → is_receive_socket n ≡ true → is_send_socket n ≡ true → ⊥
even_odd n e o = let a : n % 2 ≡ 0 = eqb-true (n % 2) 0 e in let b : n % 2 ≡ 1 = eqb-true (n % 2) 1 o in absurd (omega (arith, a, b))

-- sockets of which one is another's sort aren't these
apart_by : (m n a b : ℕ) → (m ≡ a → ⊥) → (c : Bool) → (m == a && n == b) ≡ c → c ≡ false
apart_by m n a b never true e = absurd (never (eqb-true m a (both (m == a) (n == b) e).0))
apart_by m n a b never false e = refl

apart : (m n a b : ℕ) → (m ≡ a → ⊥) → (m == a && n == b) ≡ false
apart m n a b never = apart_by m n a b never _ refl

module _ (s : Sockets) (pair : IsPair s) where
  word_at : (r n link : ℕ) (m : Mark) (b c : Bool) → (is_receive_socket r && is_send_socket n) ≡ b → (r == s.receive && n == s.send) ≡ c
      → at s (if b then record { sockets = record { receive = r; send = n }; link = link; mark = m } ∷ [] else []) ≡ (if c then m ∷ [] else [])
  word_at r n link m true c e f =
      let is : (s.receive == r && s.send == n) ≡ c = ap (λ (t : Bool). t && s.send == n) (eqb-sym _ r) ∙ ap (λ (t : Bool). r == s.receive && t) (eqb-sym s.send n) ∙ f in
      ap (λ (t : Bool). if t then m ∷ [] else []) is
  word_at r n link m false true e f =
      let h : ((r == s.receive) ≡ true) × ((n == s.send) ≡ true) = both (r == s.receive) (n == s.send) f in
      let er : is_receive_socket r ≡ true = ap is_receive_socket (eqb-true r s.receive h.0) ∙ pair.0 in
      let en : is_send_socket n ≡ true = ap is_send_socket (eqb-true n s.send h.1) ∙ pair.1 in
      absurd (let no : true ≡ false = sym (ap (λ (t : Bool). t && is_send_socket n) er ∙ en) ∙ e in cc)
  word_at r n link m false false e f = refl

  at_word : (r n link : ℕ) (m : Mark) → at s (word r n link m) ≡ (if r == s.receive && n == s.send then m ∷ [] else [])
  at_word r n link m = word_at r n link m _ _ refl refl

  when_turned : (m : Mark) (a b : Bool) → (if a && b then m ∷ [] else []) ≡ (if b && a then m ∷ [] else [])
  when_turned m a b = ap (λ (t : Bool). if t then m ∷ [] else []) (and_turned a b)

  -- what one order says
  pub order_at : (who : Who) (place : ℕ) (o : Order) → IsOrder o → at s (word_by who place o) ≡ mark_in place (own_of who s) (foreign_of who s) o
  order_at Receiver place (Wrong code octets) h = refl
  order_at Receiver place (Legal (command.Rts r n link)) h = at_word r n link _
  order_at Receiver place (Legal (command.Str n r size)) h =
      ap (λ (t : Bool). if t then Ask place ∷ [] else []) (sym (apart n r _ s.send (λ e. even_odd n (ap is_receive_socket e ∙ pair.0) h.1)))
  order_at Receiver place (Legal (command.Cls own foreign)) h = at_word own foreign 0 Close
  order_at Receiver place (Legal c) h = refl
  order_at Sender place (Wrong code octets) h = refl
  order_at Sender place (Legal (command.Rts r n link)) h =
      ap (λ (t : Bool). if t then Ask place ∷ [] else []) (sym (apart r n s.send _ (λ e. even_odd r h.1 (ap is_send_socket e ∙ pair.1))))
  order_at Sender place (Legal (command.Str n r size)) h = at_word r n 0 _ ∙ when_turned (Ask place) (r == s.receive) _
  order_at Sender place (Legal (command.Cls own foreign)) h = at_word foreign own 0 Close ∙ when_turned Close (foreign == s.receive) _
  order_at Sender place (Legal c) h = refl

  orders_at : (who : Who) (place : ℕ) (orders : List Order) → AreOrders orders → at s (words_by who place orders) ≡ marks_in place (own_of who s) (foreign_of who s) orders
  orders_at who place [] h = refl
  orders_at who place (o ∷ orders) h =
      at_join s _ _
      ∙ ap (λ (l : List Mark). l ++ at s (words_by who place orders)) (order_at who place o h.0)
      ∙ ap (λ (l : List Mark). mark_in place (own_of who s) (foreign_of who s) o ++ l) (orders_at who place orders h.1)

  -- what a text says that carries its place
  pub text_at : (who : Who) (place : ℕ) (text : List Bool) → at_texts s who (tagged place text ∷ []) ≡ marks_in place (own_of who s) (foreign_of who s) (orders_of text)
  text_at who place text =
      ap (at s) (append-nil (words_by who _ (orders_of (untagged (tagged place text)).1)))
      ∙ ap (λ (parts : ℕ × List Bool). at s (words_by who parts.0 (orders_of parts.1))) (untagged_is place text)
      ∙ orders_at who place _ (text_good text)

-- ---- all words are of a receiving socket and a sending one

abbrev pub AllPairs : List Word → Type 0
AllPairs [] = Unit {0}
AllPairs (w ∷ ws) = IsPair w.sockets × AllPairs ws

pairs_join : (xs ys : List Word) → AllPairs xs → AllPairs ys → AllPairs (xs ++ ys)
pairs_join [] ys h k = k
pairs_join (x ∷ xs) ys h k = (h.0, pairs_join xs ys h.1 k)

word_pairs : (r n link : ℕ) (m : Mark) → AllPairs (word r n link m)
word_pairs r n link m = by (is_receive_socket r && is_send_socket n) refl where
  by : (b : Bool) → (is_receive_socket r && is_send_socket n) ≡ b → AllPairs (if b then record { sockets = record { receive = r; send = n }; link = link; mark = m } ∷ [] else [])
  by true e = (both (is_receive_socket r) (is_send_socket n) e, tt)
  by false e = tt

pub order_pairs : (who : Who) (place : ℕ) (o : Order) → AllPairs (word_by who place o)
order_pairs Receiver place (Wrong code octets) = tt
order_pairs Receiver place (Legal (command.Rts r n link)) = word_pairs r n link _
order_pairs Receiver place (Legal (command.Cls own foreign)) = word_pairs own foreign 0 Close
order_pairs Receiver place (Legal c) = tt
order_pairs Sender place (Wrong code octets) = tt
order_pairs Sender place (Legal (command.Str n r size)) = word_pairs r n 0 _
order_pairs Sender place (Legal (command.Cls own foreign)) = word_pairs foreign own 0 Close
order_pairs Sender place (Legal c) = tt

orders_pairs : (who : Who) (place : ℕ) (orders : List Order) → AllPairs (words_by who place orders)
orders_pairs who place [] = tt
orders_pairs who place (o ∷ orders) = pairs_join _ _ (order_pairs who place o) (orders_pairs who place orders)

pub texts_pairs : (who : Who) (texts : List (List Bool)) → AllPairs (words_of who texts)
texts_pairs who [] = tt
texts_pairs who (x ∷ texts) = pairs_join _ _ (orders_pairs who _ _) (texts_pairs who texts)

-- ---- all requests of a message are named by its place

abbrev pub AllAt : ℕ → List Mark → Type 0
AllAt place [] = Unit {0}
AllAt place (Ask p ∷ ms) = (p ≡ place) × AllAt place ms
AllAt place (Close ∷ ms) = AllAt place ms

at_append : (place : ℕ) (xs ys : List Mark) → AllAt place xs → AllAt place ys → AllAt place (xs ++ ys)
at_append place [] ys h k = k
at_append place (Ask p ∷ xs) ys h k = (h.0, at_append place xs ys h.1 k)
at_append place (Close ∷ xs) ys h k = at_append place xs ys h k

ask_at : (place : ℕ) (b : Bool) → AllAt place (if b then Ask place ∷ [] else [])
ask_at place true = (refl, tt)
ask_at place false = tt

close_at : (place : ℕ) (b : Bool) → AllAt place (if b then Close ∷ [] else [])
close_at place true = tt
close_at place false = tt

mark_at : (place own foreign : ℕ) (o : Order) → AllAt place (mark_in place own foreign o)
mark_at place own foreign (Wrong code octets) = tt
mark_at place own foreign (Legal (command.Rts r n link)) = ask_at place _
mark_at place own foreign (Legal (command.Str n r size)) = ask_at place _
mark_at place own foreign (Legal (command.Cls a b)) = close_at place _
mark_at place own foreign (Legal c) = tt

pub marks_at : (place own foreign : ℕ) (orders : List Order) → AllAt place (marks_in place own foreign orders)
marks_at place own foreign [] = tt
marks_at place own foreign (o ∷ orders) = at_append place (mark_in place own foreign o) _ (mark_at place own foreign o) (marks_at place own foreign orders)
