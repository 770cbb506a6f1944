-- A message of the peer, and links: each RTS in it names one that no sending end has.
use Rattle.world_keeps_pairing.proofs.Common.{◌≡◌, ℕ, zero, suc, ◌==◌, ◌%◌, Bool, true, false, not, ◌&&◌, if◌then◌else◌, List, [], ◌∷◌, ◌++◌, map, Option, Some, None, is_some, refl, ap, sym, subst, ◌∙◌, eq-eqb, arith, eqb-true, list_any, Host, is_receive_socket, is_send_socket, Command, Legal, Order, Wrong, desk_of, is_ready, Entry, AreOrders, IsOrder, End, fits, Mark, Ask, Close, Side, Sockets, Word, Receiver, Sender, Step, Hears, sender, AreSteps, all_heard, word_by, words_by, not_true}
use Rattle.host_pairs.specs.Commands.{desk_taken}
use Rattle.host_pairs.specs.Entries.{entry_at, is_at, is_link, sends_on}
use Rattle.host_pairs.specs.Turn.{TurnState, orders_taken, with_desk, order_taken}
use Rattle.host_keeps_pairing.specs.Words.{AllFit, mark_in, marks, all_taken}
use Rattle.host_keeps_pairing.specs.Ends.{HasEnd, Stand, Standing, standing, at, came_from}
use Rattle.host_keeps_pairing.specs.Hearing.{AreFree, AreJoint, IsFreeIn, IsJoint}
use Rattle.host_keeps_pairing.proofs.lemmas.{at_one, live_end, Found, at_append, found_at, one_order, ready_when, stand_asked, work_of}
use Rattle.pairing_law.proofs.lemmas.{put, same_self, unused}
use Rattle.ncp_control.specs.declared.command.Command.TheVariants as command
use Rattle.host_pairs.proofs.lemmas.{both}
use Rattle.pairing_law.proofs.lemmas.Seen as words
use Rattle.world_keeps_pairing.proofs.Claims.{Claim, heard_claims, last_link, partner_among}
use Rattle.world_keeps_pairing.proofs.LinkDesks.{Linked, linked_other, linked_wrong, rts_linked}
use Rattle.world_keeps_pairing.proofs.Local.{AllOff, Each, Links, One, SendsBy, all_claims}
use Rattle.world_keeps_pairing.proofs.Marks.{IsPair, order_at}
use Rattle.world_keeps_pairing.proofs.Moves.{hears_end, sender_fits}
use Rattle.world_keeps_pairing.proofs.Sides.{sender_hears}

-- ---- sockets

pub odd_send : (n : ℕ) → is_receive_socket n ≡ false → is_send_socket n ≡ true
odd_send n e = by (n % 2) refl where
  by : (k : ℕ) → n % 2 ≡ k → (n % 2 == 1) ≡ true
  by zero f = absurd (let same : (n % 2 == 0) ≡ true = eq-eqb (n % 2) 0 f in let no : true ≡ false = sym same ∙ e in cc)
  by (suc zero) f = eq-eqb (n % 2) 1 f
  by (suc (suc k)) f = absurd (omega (arith, f))

pub send_odd : (n : ℕ) → is_send_socket n ≡ true → is_receive_socket n ≡ false
send_odd n e = by (is_receive_socket n) refl where
  by : (b : Bool) → is_receive_socket n ≡ b → b ≡ false
  by true f = absurd (let a : n % 2 ≡ 0 = eqb-true (n % 2) 0 f in let c : n % 2 ≡ 1 = eqb-true (n % 2) 1 e in omega (arith, a, c))
  by false f = refl

-- ---- one end of two sockets

all_off : (own foreign : ℕ) (es : List Entry) → at own foreign es ≡ [] → AllOff (map (is_at own foreign) es)
all_off own foreign [] none = tt
all_off own foreign (e ∷ es) none = by (is_at own foreign e) refl (λ k. all_off own foreign es k) where
  by : (b : Bool) → is_at own foreign e ≡ b → (at own foreign es ≡ [] → AllOff (map (is_at own foreign) es)) → (is_at own foreign e ≡ false) × AllOff (map (is_at own foreign) es)
  by true t rest = absurd (let both : standing e ∷ at own foreign es ≡ [] = sym (at_one own foreign e es true t) ∙ none in cc)
  by false t rest = (t, rest (sym (at_one own foreign e es false t) ∙ none))

one_by : (own foreign : ℕ) (es : List Entry) → ((a b : Standing) (more : List Standing) → at own foreign es ≡ a ∷ b ∷ more → ⊥) → One (map (is_at own foreign) es)
one_by own foreign [] few = tt
one_by own foreign (e ∷ es) few = by (is_at own foreign e) refl (λ k. one_by own foreign es k) where
  alone : is_at own foreign e ≡ true → (l : List Standing) → at own foreign es ≡ l → AllOff (map (is_at own foreign) es)
  alone t [] f = all_off own foreign es f
  alone t (b ∷ more) f = absurd (few (standing e) b more (at_one own foreign e es true t ∙ ap (λ (ss : List Standing). standing e ∷ ss) f))

  by : (b : Bool) → is_at own foreign e ≡ b → (((a b : Standing) (more : List Standing) → at own foreign es ≡ a ∷ b ∷ more → ⊥) → One (map (is_at own foreign) es)) → One (is_at own foreign e ∷ map (is_at own foreign) es)
  by true t rest = rw t (alone t _ refl)
  by false t rest = rw t (rest (λ a b more q. few a b more (at_one own foreign e es false t ∙ q)))

few_stand : (swept : Bool) (origin : ℕ → ℕ) (place : ℕ) (ss : List Standing) (ws : List Mark) (x : End) → Stand swept origin place ss ws x → (a b : Standing) (more : List Standing) → ss ≡ a ∷ b ∷ more → ⊥
few_stand swept origin place ss ws x h a b more e = subst (λ (l : List Standing). Stand swept origin place l ws x) e h

pub one_at : (swept : Bool) (origin : ℕ → ℕ) (place own foreign : ℕ) (es : List Entry) (ws : List Mark) (x : End) → Stand swept origin place (at own foreign es) ws x → One (map (is_at own foreign) es)
one_at swept origin place own foreign es ws x h = one_by own foreign es (few_stand swept origin place _ ws x h)

-- an end among others, found by a test
pub record Split (test : Entry → Bool) (es : List Entry) : Type 0 where
  pub front : List Entry
  pub end : Entry
  pub rest : List Entry
  pub is : es ≡ front ++ end ∷ rest
  pub on : test end ≡ true

pub any_split : (test : Entry → Bool) (es : List Entry) → list_any test es ≡ true → Split test es
any_split test [] e = absurd (let both : false ≡ true = e in cc)
any_split test (x ∷ es) e = by (test x) refl (λ k. any_split test es k) where
  by : (b : Bool) → test x ≡ b → (list_any test es ≡ true → Split test es) → Split test (x ∷ es)
  by true t rest = record { front = []; end = x; rest = es; is = refl; on = t }
  by false t rest =
      let later : list_any test es ≡ true = rw t at e in
      let s : Split test es = rest later in
      record { front = x ∷ s.front; end = s.end; rest = s.rest; is = ap (λ (l : List Entry). x ∷ l) s.is; on = s.on }

pub each_split : (Q : Entry → Type 0) (front : List Entry) (e : Entry) (rest : List Entry) → Each Q (front ++ e ∷ rest) → Q e
each_split Q [] e rest h = h.0
each_split Q (x ∷ front) e rest h = each_split Q front e rest h.1

alone : (swept : Bool) (origin : ℕ → ℕ) (place : ℕ) (ss : List Standing) (s : Standing) (ts : List Standing) (ws : List Mark) (x : End) → Stand swept origin place (ss ++ s ∷ ts) ws x → ss ++ s ∷ ts ≡ s ∷ []
alone swept origin place [] s [] ws x h = refl
alone swept origin place [] s (t ∷ ts) ws x h = absurd h
alone swept origin place (a ∷ []) s ts ws x h = absurd h
alone swept origin place (a ∷ b ∷ ss) s ts ws x h = absurd h

-- its `Standing` is the only one of its sockets
pub stands_alone : (swept : Bool) (origin : ℕ → ℕ) (place own foreign : ℕ) (front : List Entry) (e : Entry) (rest : List Entry) (ws : List Mark) (x : End) → is_at own foreign e ≡ true → Stand swept origin place (at own foreign (front ++ e ∷ rest)) ws x
    → Stand swept origin place (standing e ∷ []) ws x
stands_alone swept origin place own foreign front e rest ws x here h =
    let parts : at own foreign (front ++ e ∷ rest) ≡ at own foreign front ++ standing e ∷ at own foreign rest =
    at_append own foreign front (e ∷ rest) ∙ ap (λ (ss : List Standing). at own foreign front ++ ss) (at_one own foreign e rest true here) in
    let k : Stand swept origin place (at own foreign front ++ standing e ∷ at own foreign rest) ws x = subst (λ (ss : List Standing). Stand swept origin place ss ws x) parts h in
    subst (λ (ss : List Standing). Stand swept origin place ss ws x) (alone swept origin place (at own foreign front) _ _ ws x k) k

pub own_at : (e : Entry) → is_at e.own e.foreign e ≡ true
own_at e = ap (λ (b : Bool). b && e.foreign == e.foreign) (eq-eqb e.own e.own refl) ∙ eq-eqb e.foreign e.foreign refl

end_partner : (origin : ℕ → ℕ) (place : ℕ) (e : Entry) (ws : List Mark) (x : End) (n : ℕ) → Stand true origin place (standing e ∷ []) ws x → e.partner ≡ Some n → x.partner ≡ Some (origin n)
end_partner origin place e ws x n h is = ap (λ (y : End). y.partner) (h.2 ∙ live_end origin (standing e) (h.0.live refl)) ∙ ap (came_from origin) is

pub some_is : (o : Option ℕ) → is_some o ≡ true → (n : ℕ) × (o ≡ Some n)
some_is None e = absurd (let both : false ≡ true = e in cc)
some_is (Some n) e = (n, refl)

-- ---- a link that is named is no sending end's

module _ (origin : ℕ → ℕ) where
  -- what a host has as the sender of its sending ends
  abbrev pub Ends : List Entry → List Command → List Step → Type 0
  Ends es queue xs = (s : Sockets) → IsPair s → (place : ℕ) → Stand true origin place (at s.send s.receive es) (marks place s.send s.receive queue) (sender s xs).end

  free_now : (xs : List Step) (w : Word) (p : ℕ) (es : List Entry) (queue : List Command) → AreSteps (Hears Sender w ∷ xs) → w.mark ≡ Ask p → Ends es queue xs → Each (SendsBy (heard_claims xs)) es → list_any (sends_on w.link) es ≡ false
  free_now xs w p es queue steps mark ends h = by (list_any (sends_on w.link) es) refl where
    by : (b : Bool) → list_any (sends_on w.link) es ≡ b → b ≡ false
    by true e =
        let f : Split (sends_on w.link) es = any_split _ es e in
        let q : SendsBy (heard_claims xs) f.end = each_split _ _ f.end f.rest (subst (λ (l : List Entry). Each (SendsBy (heard_claims xs)) l) f.is h) in
        let k : (is_some f.end.partner ≡ true) × (last_link (record { receive = f.end.foreign; send = f.end.own }) (heard_claims xs) ≡ Some w.link) × (is_receive_socket f.end.foreign ≡ true) = q w.link f.on in
        let sending : not (is_receive_socket f.end.own) ≡ true = (both (not (is_receive_socket f.end.own)) (is_link w.link f.end.link) f.on).0 in
        let odd : is_send_socket f.end.own ≡ true = odd_send _ (not_true _ sending) in
        let t : Sockets = record { receive = f.end.foreign; send = f.end.own } in
        let stand : Stand true origin 0 (at f.end.own f.end.foreign es) (marks 0 f.end.own f.end.foreign queue) (sender (record { receive = f.end.foreign; send = f.end.own }) xs).end = ends _ (k.2, odd) 0 in
        let one : Stand true origin 0 (standing f.end ∷ []) (marks 0 f.end.own f.end.foreign queue) (sender (record { receive = f.end.foreign; send = f.end.own }) xs).end =
        stands_alone true origin 0 _ _ _ f.end f.rest _ _ (own_at f.end) (subst (λ (l : List Entry). Stand true origin 0 (at f.end.own f.end.foreign l) (marks 0 f.end.own f.end.foreign queue) (sender (record { receive = f.end.foreign; send = f.end.own }) xs).end) f.is stand) in
        let place : (n : ℕ) × (f.end.partner ≡ Some n) = some_is _ k.0 in
        let partner : (sender (record { receive = f.end.foreign; send = f.end.own }) xs).end.partner ≡ Some (origin place.0) = end_partner origin 0 f.end _ _ _ one place.1 in
        absurd (unused xs w p steps mark (record { receive = f.end.foreign; send = f.end.own })
        (origin place.0, partner, partner_among _ xs steps.1 _ w.link (partner, k.1)))
    by false e = refl

module _ (origin : ℕ → ℕ) (peer : Host) (stamp : ℕ) (said : List Claim) where
  -- the same of a turn
  abbrev pub HasEnds : TurnState → List Step → Type 0
  HasEnds t xs = (s : Sockets) → IsPair s → HasEnd origin s.send s.receive t.pair (sender s xs).end

  -- the steps after an order
  abbrev pub heard_one : Order → List Step → List Step
  heard_one o xs = all_heard Sender (word_by Receiver (origin stamp) o) xs

  abbrev after_order : Order → TurnState → TurnState
  after_order o t = with_desk t (work_of peer t.pair.busy stamp o (desk_of t.pair t.listening))

  one_ends : (o : Order) (t : TurnState) (xs : List Step) → IsJoint o → IsOrder o → is_ready t.pair.phase ≡ true → IsFreeIn o t → AreSteps (heard_one o xs) → HasEnds t xs → HasEnds (after_order o t) (heard_one o xs)
  one_ends o t xs joint legal ready free steps h = λ s q.
      let ws : List Word = word_by Receiver (origin stamp) o in
      let fit : AllFit (words.at s (word_by Receiver (origin stamp) o)) (sender s xs).end = sender_fits s ws xs steps in
      let is : words.at s (word_by Receiver (origin stamp) o) ≡ mark_in (origin stamp) s.receive s.send o = order_at s q Receiver _ o legal in
      let has : HasEnd origin s.send s.receive (after_order o t).pair (all_taken (mark_in (origin stamp) s.receive s.send o) (sender s xs).end) =
      one_order origin s.send s.receive peer stamp o t _ joint free (subst (λ (ms : List Mark). AllFit ms (sender s xs).end) is fit) ready (h s q) in
      let end : (sender s (heard_one o xs)).end ≡ all_taken (mark_in (origin stamp) s.receive s.send o) (sender s xs).end =
      ap (λ (x : Side). x.end) (sender_hears s ws xs) ∙ hears_end _ _ fit ∙ ap (λ (ms : List Mark). all_taken ms (sender s xs).end) is in
      subst (λ (x : End). HasEnd origin s.send s.receive (after_order o t).pair x) (sym end) has

  close_claims : (b : Bool) (r n : ℕ) (xs : List Step) → heard_claims (all_heard Sender (if b then record { sockets = record { receive = r; send = n }; link = 0; mark = Close } ∷ [] else []) xs) ≡ heard_claims xs
  close_claims true r n xs = refl
  close_claims false r n xs = refl

  abbrev Result : Order → TurnState → List Step → Type 0
  Result o t xs = IsFreeIn o t × Linked said (heard_claims (heard_one o xs)) (work_of peer t.pair.busy stamp o (desk_of t.pair t.listening))

  rts_one : (r n l : ℕ) (t : TurnState) (xs : List Step) → is_receive_socket r ≡ true → is_send_socket n ≡ true → AreSteps (Hears Sender (record { sockets = record { receive = r; send = n }; link = l; mark = Ask (origin stamp) }) ∷ xs) → HasEnds t xs
      → Links (all_claims t.pair.queue said) (heard_claims xs) t.pair.entries
      → (list_any (sends_on l) t.pair.entries ≡ false) × Linked said (record { sockets = record { receive = r; send = n }; link = l } ∷ heard_claims xs) (desk_taken peer t.pair.busy stamp (command.Rts r n l) (desk_of t.pair t.listening))
  rts_one r n l t xs even odd steps ends h =
      let w : Word = record { sockets = record { receive = r; send = n }; link = l; mark = Ask (origin stamp) } in
      let s0 : Sockets = record { receive = r; send = n } in
      let free : list_any (sends_on l) t.pair.entries ≡ false = free_now origin xs w _ _ t.pair.queue steps refl (λ s q place. (ends s q).ends place) h.sends in
      let stand : Stand true origin 0 (at n r t.pair.entries) (marks 0 n r t.pair.queue) (sender (record { receive = r; send = n }) xs).end = (ends s0 (even, odd)).ends 0 in
      let fit : fits (Ask (origin stamp)) (sender (record { receive = r; send = n }) xs).end ≡ true =
      (subst (λ (b : Bool). AllFit (put b (Ask (origin stamp)) []) (sender (record { receive = r; send = n }) xs).end) (same_self s0) (sender_fits s0 (w ∷ []) xs steps)).0 in
      let fresh : (e : Entry) → entry_at n r t.pair.entries ≡ Some e → is_some e.partner ≡ false =
      λ e is. (let f : Found n r t.pair.entries e = found_at n r _ e is in
      let k : Stand true origin 0 (standing e ∷ f.rest) (marks 0 n r t.pair.queue) (sender (record { receive = r; send = n }) xs).end =
      subst (λ (ss : List Standing). Stand true origin 0 ss (marks 0 n r t.pair.queue) (sender (record { receive = r; send = n }) xs).end) f.first stand in
      (stand_asked origin 0 stamp _ _ _
      (subst (λ (ss : List Standing). Stand true origin 0 ss (marks 0 n r t.pair.queue) (sender (record { receive = r; send = n }) xs).end) (alone true origin 0 [] _ f.rest _ _ k) k) fit).0) in (
        free,
        rts_linked said (heard_claims xs) n r l (send_odd n odd) even peer stamp _ free fresh (one_at true origin 0 n r _ _ _ stand) h,
      )

  one_links : (o : Order) (t : TurnState) (xs : List Step) → IsOrder o → AreSteps (heard_one o xs) → HasEnds t xs → Links (all_claims t.pair.queue said) (heard_claims xs) t.pair.entries → Result o t xs
  one_links (Wrong code octets) t xs legal steps ends h = (tt, linked_wrong said (heard_claims xs) code octets (desk_of t.pair t.listening) h)
  one_links (Legal command.Nop) t xs legal steps ends h = (tt, linked_other said (heard_claims xs) peer t.pair.busy stamp command.Nop (desk_of t.pair t.listening) tt h)
  one_links (Legal (command.Rts r n l)) t xs legal steps ends h =
      let good : (is_receive_socket r && is_send_socket n) ≡ true = ap (λ (b : Bool). b && is_send_socket n) legal.1 ∙ legal.3 in
      let now : AreSteps (Hears Sender (record { sockets = record { receive = r; send = n }; link = l; mark = Ask (origin stamp) }) ∷ xs) =
      subst (λ (b : Bool). AreSteps (all_heard Sender (if b then record { sockets = record { receive = r; send = n }; link = l; mark = Ask (origin stamp) } ∷ [] else []) xs)) good steps in
      let k : (list_any (sends_on l) t.pair.entries ≡ false) × Linked said (record { sockets = record { receive = r; send = n }; link = l } ∷ heard_claims xs) (desk_taken peer t.pair.busy stamp (command.Rts r n l) (desk_of t.pair t.listening)) =
      rts_one r n l t xs legal.1 legal.3 now ends h in (
        k.0,
        subst (λ (b : Bool). Linked said (heard_claims (all_heard Sender (if b then record { sockets = record { receive = r; send = n }; link = l; mark = Ask (origin stamp) } ∷ [] else []) xs)) (desk_taken peer t.pair.busy stamp (command.Rts r n l) (desk_of t.pair t.listening))) (sym good) k.1,
      )
  one_links (Legal (command.Str n r size)) t xs legal steps ends h = (tt, linked_other said (heard_claims xs) peer t.pair.busy stamp (command.Str n r size) (desk_of t.pair t.listening) (legal.3, legal.1) h)
  one_links (Legal (command.Cls own foreign)) t xs legal steps ends h = (
    tt,
    subst (λ (claims : List Claim). Linked said claims (desk_taken peer t.pair.busy stamp (command.Cls own foreign) (desk_of t.pair t.listening))) (sym (close_claims _ own foreign xs))
        (linked_other said (heard_claims xs) peer t.pair.busy stamp (command.Cls own foreign) (desk_of t.pair t.listening) tt h),
  )
  one_links (Legal (command.All l a b)) t xs legal steps ends h = (tt, linked_other said (heard_claims xs) peer t.pair.busy stamp (command.All l a b) (desk_of t.pair t.listening) tt h)
  one_links (Legal c) t xs legal steps ends h = (tt, linked_other said (heard_claims xs) peer t.pair.busy stamp c (desk_of t.pair t.listening) tt h)

  heard_join : (ws vs : List Word) (xs : List Step) → all_heard Sender (ws ++ vs) xs ≡ all_heard Sender vs (all_heard Sender ws xs)
  heard_join [] vs xs = refl
  heard_join (w ∷ ws) vs xs = heard_join ws vs (Hears Sender w ∷ xs)

  under : (ws : List Word) (xs : List Step) → AreSteps (all_heard Sender ws xs) → AreSteps xs
  under [] xs h = h
  under (w ∷ ws) xs h = (under ws (Hears Sender w ∷ xs) h).1

  -- all orders of a message
  pub orders_links : (orders : List Order) (t : TurnState) (xs : List Step) → AreJoint orders → AreOrders orders → is_ready t.pair.phase ≡ true → AreSteps (all_heard Sender (words_by Receiver (origin stamp) orders) xs) → HasEnds t xs
      → Links (all_claims t.pair.queue said) (heard_claims xs) t.pair.entries
      → AreFree peer stamp orders t × Links (all_claims (orders_taken peer stamp orders t).pair.queue said) (heard_claims (all_heard Sender (words_by Receiver (origin stamp) orders) xs)) (orders_taken peer stamp orders t).pair.entries
  orders_links [] t xs joint legal ready steps ends h = (tt, h)
  orders_links (o ∷ orders) t xs joint legal ready steps ends h =
      let ws : List Word = word_by Receiver (origin stamp) o in
      let vs : List Word = words_by Receiver (origin stamp) orders in
      let ys : List Step = heard_one o xs in
      let parts : all_heard Sender (words_by Receiver (origin stamp) (o ∷ orders)) xs ≡ all_heard Sender (words_by Receiver (origin stamp) orders) (heard_one o xs) = heard_join ws vs xs in
      let later : AreSteps (all_heard Sender (words_by Receiver (origin stamp) orders) (heard_one o xs)) = subst AreSteps parts steps in
      let first : AreSteps (heard_one o xs) = under vs _ later in
      let k : Result o t xs = one_links o t xs legal.0 first ends h in
      let more : HasEnds (after_order o t) (heard_one o xs) = one_ends o t xs joint.0 legal.0 ready k.0 first ends in
      let next : order_taken peer stamp o t ≡ after_order o t = ready_when peer stamp o t joint.0 ready in
      let rest : AreFree peer stamp orders (after_order o t) × Links (all_claims (orders_taken peer stamp orders (after_order o t)).pair.queue said) (heard_claims (all_heard Sender (words_by Receiver (origin stamp) orders) (heard_one o xs))) (orders_taken peer stamp orders (after_order o t)).pair.entries =
      orders_links orders (after_order o t) (heard_one o xs) joint.1 legal.1 ready later more k.1 in (
        (k.0, subst (λ (u : TurnState). AreFree peer stamp orders u) (sym next) rest.0),
        subst (λ (ys : List Step). Links (all_claims (orders_taken peer stamp orders (order_taken peer stamp o t)).pair.queue said) (heard_claims ys) (orders_taken peer stamp orders (order_taken peer stamp o t)).pair.entries) (sym parts)
            (subst (λ (u : TurnState). Links (all_claims (orders_taken peer stamp orders u).pair.queue said) (heard_claims (all_heard Sender (words_by Receiver (origin stamp) orders) (heard_one o xs))) (orders_taken peer stamp orders u).pair.entries) (sym next) rest.1),
      )
