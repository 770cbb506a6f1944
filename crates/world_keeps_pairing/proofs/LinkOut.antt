-- All commands of a message that goes out, and links.
use Rattle.world_keeps_pairing.proofs.Common.{◌≡◌, ℕ, ◌==◌, Bool, true, false, not, ◌&&◌, if◌then◌else◌, List, [], ◌∷◌, ◌++◌, map, refl, ap, sym, subst, ◌∙◌, eq-eqb, Host, IsCommand, is_receive_socket, is_send_socket, Command, Legal, Entry, AreCommands, MayAllGo, all_gone, mark_of, marks, End, gone, Mark, Ask, Close, Sockets, Word, Receiver, Step, Says, receiver, said_words, stays, AreSteps, NameFree, all_said, word_by, words_by}
use Rattle.host_pairs.specs.Desk.{DeskState}
use Rattle.host_pairs.specs.Entries.{changed_at, is_over}
use Rattle.host_pairs.specs.Parcels.{commands_gone, asked_at, cls_sent, command_gone}
use Rattle.host_keeps_pairing.specs.Ends.{Stand, at}
use Rattle.pairing_law.specs.Sides.{Side, says, above}
use Rattle.ncp_control.specs.declared.command.Command.TheVariants as command
use Rattle.host_keeps_pairing.proofs.lemmas.{one_gone}
use Rattle.pairing_law.proofs.lemmas.Seen as words
use Rattle.world_keeps_pairing.proofs.Claims.{Claim, said_claims}
use Rattle.world_keeps_pairing.proofs.LinkGoes.{Receives, is_free, mine_by}
use Rattle.world_keeps_pairing.proofs.LinkTurns.{one_at}
use Rattle.world_keeps_pairing.proofs.Local.{Links, all_claims, claim_of, links_asked, links_changed, links_filter}
use Rattle.world_keeps_pairing.proofs.Marks.{AllPairs, IsPair, order_at, order_pairs}
use Rattle.world_keeps_pairing.proofs.Moves.{receiver_speaks, says_end}
use Rattle.world_keeps_pairing.proofs.Sides.{all_says, receiver_says}
use Rattle.pairing_law.proofs.lemmas.{at_join}

-- ---- lists of marks and words

all_above : List Mark → ℕ → ℕ
all_above [] next = next
all_above (m ∷ ms) next = all_above ms (above m next)

may_split : (ms ns : List Mark) (x : End) (next : ℕ) → MayAllGo (ms ++ ns) x next → MayAllGo ms x next × MayAllGo ns (all_gone ms x) (all_above ms next)
unfolding all_above
may_split [] ns x next h = (tt, h)
may_split (m ∷ ms) ns x next h = let r : MayAllGo ms (gone m x) (above m next) × MayAllGo ns (all_gone ms (gone m x)) (all_above ms (above m next)) = may_split ms ns (gone m x) (above m next) h.2 in ((h.0, h.1, r.0), r.1)

says_next : (ms : List Mark) (x : Side) → (all_says ms x).next ≡ all_above ms x.next
unfolding all_above
says_next [] x = refl
says_next (m ∷ ms) x = says_next ms (says m x)

said_join : (ws vs : List Word) (xs : List Step) → all_said Receiver (ws ++ vs) xs ≡ all_said Receiver vs (all_said Receiver ws xs)
said_join [] vs xs = refl
said_join (w ∷ ws) vs xs = said_join ws vs (Says Receiver w ∷ xs)

name_join : (ws vs : List Word) (xs : List Step) → NameFree ws xs → NameFree vs (all_said Receiver ws xs) → NameFree (ws ++ vs) xs
name_join [] vs xs h k = k
name_join (w ∷ ws) vs xs h k = (h.0, name_join ws vs (Says Receiver w ∷ xs) h.1 k)

pairs_if : (b : Bool) (w : Word) (ws : List Word) → IsPair w.sockets → AllPairs ws → AllPairs (if b then w ∷ ws else ws)
pairs_if true w ws p h = (p, h)
pairs_if false w ws p h = h

said_pairs : (ws : List Word) (xs : List Step) → AllPairs ws → AllPairs (said_words Receiver xs) → AllPairs (said_words Receiver (all_said Receiver ws xs))
said_pairs [] xs p h = h
said_pairs (w ∷ ws) xs p h = said_pairs ws (Says Receiver w ∷ xs) p.1 (pairs_if _ w _ p.0 h)

-- ---- one command

-- what it claims
claim_if : (b : Bool) (r n l stamp : ℕ) (xs : List Step) → said_claims (all_said Receiver (if b then record { sockets = record { receive = r; send = n }; link = l; mark = Ask stamp } ∷ [] else []) xs)
    ≡ (if b then record { sockets = record { receive = r; send = n }; link = l } ∷ said_claims xs else said_claims xs)
claim_if true r n l stamp xs = refl
claim_if false r n l stamp xs = refl

close_if : (b : Bool) (r n : ℕ) (xs : List Step) → said_claims (all_said Receiver (if b then record { sockets = record { receive = r; send = n }; link = 0; mark = Close } ∷ [] else []) xs) ≡ said_claims xs
close_if true r n xs = refl
close_if false r n xs = refl

claims_next : (stamp : ℕ) (c : Command) (xs : List Step) → said_claims (all_said Receiver (word_by Receiver stamp (Legal c)) xs) ≡ claim_of c (said_claims xs)
claims_next stamp (command.Rts r n l) xs = claim_if _ r n l stamp xs
claims_next stamp (command.Cls a b) xs = close_if (is_receive_socket a && is_send_socket b) a b xs
claims_next stamp c xs = refl

close_free : (b : Bool) (r n : ℕ) (xs : List Step) → NameFree (if b then record { sockets = record { receive = r; send = n }; link = 0; mark = Close } ∷ [] else []) xs
close_free true r n xs = (tt, tt)
close_free false r n xs = tt

module _ (origin other : ℕ → ℕ) (peer : Host) (stamp : ℕ) (taken : List Claim) where
  -- what a host has as the sender of its sending ends
  abbrev pub Sends : List Entry → List Command → Type 0
  Sends es queue = (s : Sockets) → IsPair s → (place : ℕ) → (x : End) × Stand true other place (at s.send s.receive es) (marks place s.send s.receive queue) x

  one_free : (c : Command) (rest : List Command) (es : List Entry) (xs : List Step) → IsCommand c → AreSteps xs → AllPairs (said_words Receiver xs) → Receives origin es (c ∷ rest) xs → Links (all_claims (c ∷ rest) (said_claims xs)) taken es
      → NameFree (word_by Receiver stamp (Legal c)) xs
  one_free (command.Rts r n l) rest es xs ok steps pairs ends h =
      let good : (is_receive_socket r && is_send_socket n) ≡ true = ap (λ (b : Bool). b && is_send_socket n) ok.1 ∙ ok.3 in
      subst (λ (b : Bool). NameFree (if b then record { sockets = record { receive = r; send = n }; link = l; mark = Ask stamp } ∷ [] else []) xs) (sym good)
      (is_free origin r n l rest taken es xs ok.1 ok.3 steps pairs ends h, tt)
  one_free (command.Cls a b) rest es xs ok steps pairs ends h = close_free _ a b xs
  one_free c rest es xs ok steps pairs ends h = tt

  self_mark : (a b : ℕ) → (if a == a && b == b then Ask 0 ∷ [] else []) ≡ Ask 0 ∷ []
  self_mark a b = ap (λ (t : Bool). if t then Ask 0 ∷ [] else []) (ap (λ (t : Bool). t && b == b) (eq-eqb a a refl) ∙ eq-eqb b b refl)

  asked_gone : (o : ℕ → ℕ) (a b : ℕ) (claims : List Claim) (es : List Entry) (words : List Mark) (x : End) → Stand true o 0 (at a b es) ((if a == a && b == b then Ask 0 ∷ [] else []) ++ words) x → Links claims taken es → Links claims taken (changed_at a b (asked_at stamp) es)
  asked_gone o a b claims es words x h k =
      let waits : Stand true o 0 (at a b es) (Ask 0 ∷ words) x = subst (λ (ms : List Mark). Stand true o 0 (at a b es) (ms ++ words) x) (self_mark a b) h in
      links_asked claims taken a b _ es (λ e. (refl, refl, refl, refl, refl)) (one_at true o 0 a b es _ x waits) (mine_by o a b es words x waits) k

  one_links : (c : Command) (rest : List Command) (d : DeskState) (xs : List Step) (claims : List Claim) → IsCommand c → Receives origin d.entries (c ∷ rest) xs → Sends d.entries (c ∷ rest) → Links claims taken d.entries → Links claims taken (command_gone peer stamp c d).entries
  one_links (command.Rts a b l) rest d xs claims ok r s h = asked_gone origin a b claims _ _ _ (r (record { receive = a; send = b }) (ok.1, ok.3) 0) h
  one_links (command.Str a b size) rest d xs claims ok r s h = asked_gone other a b claims _ _ _ (s (record { receive = b; send = a }) (ok.3, ok.1) 0).1 h
  one_links (command.Cls a b) rest d xs claims ok r s h =
      links_filter claims taken _ _
      (links_changed claims taken _ cls_sent _ (λ e. record { own = refl; foreign = refl; link = refl; mine = refl; partner = λ k. k; asked = λ k. k }) h)
  one_links c rest d xs claims ok r s h = h

  receives_next : (c : Command) (rest : List Command) (d : DeskState) (xs : List Step) → IsCommand c → Receives origin d.entries (c ∷ rest) xs → Receives origin (command_gone peer stamp c d).entries rest (all_said Receiver (word_by Receiver stamp (Legal c)) xs)
  receives_next c rest d xs ok r = λ s q place.
      let end : (receiver s (all_said Receiver (word_by Receiver stamp (Legal c)) xs)).end ≡ all_gone (mark_of stamp s.receive s.send c) (receiver s xs).end =
      ap (λ (x : Side). x.end) (receiver_says s (word_by Receiver stamp (Legal c)) xs) ∙ says_end (words.at s (word_by Receiver stamp (Legal c))) (receiver s xs)
      ∙ ap (λ (ms : List Mark). all_gone ms (receiver s xs).end) (order_at s q Receiver stamp (Legal c) ok) in
      subst (λ (x : End). Stand true origin place (at s.receive s.send (command_gone peer stamp c d).entries) (marks place s.receive s.send rest) x) (sym end)
      (one_gone origin s.receive s.send place peer stamp c d _ _ (r s q place))

  sends_next : (c : Command) (rest : List Command) (d : DeskState) → Sends d.entries (c ∷ rest) → Sends (command_gone peer stamp c d).entries rest
  sends_next c rest d r = λ s q place. (
    all_gone (mark_of stamp s.send s.receive c) _,
    one_gone other s.send s.receive place peer stamp c d _ _ (r s q place).1,
  )

  -- all commands that go out
  pub commands_links : (cs rest : List Command) (d : DeskState) (xs : List Step) → AreCommands cs → AreSteps xs → AllPairs (said_words Receiver xs) → Receives origin d.entries (cs ++ rest) xs → Sends d.entries (cs ++ rest)
      → ((s : Sockets) → IsPair s → MayAllGo (words.at s (words_by Receiver stamp (map Legal cs))) (receiver s xs).end (receiver s xs).next) → Links (all_claims (cs ++ rest) (said_claims xs)) taken d.entries
      → NameFree (words_by Receiver stamp (map Legal cs)) xs × Links (all_claims rest (said_claims (all_said Receiver (words_by Receiver stamp (map Legal cs)) xs))) taken (commands_gone peer stamp cs d).entries
  commands_links [] rest d xs ok steps pairs r s may h = (tt, h)
  commands_links (c ∷ cs) rest d xs ok steps pairs r s may h =
      let ws : List Word = word_by Receiver stamp (Legal c) in
      let vs : List Word = words_by Receiver stamp (map Legal cs) in
      let ys : List Step = all_said Receiver (word_by Receiver stamp (Legal c)) xs in
      let split : (t : Sockets) → IsPair t → MayAllGo (words.at t (word_by Receiver stamp (Legal c))) (receiver t xs).end (receiver t xs).next
      × MayAllGo (words.at t (words_by Receiver stamp (map Legal cs))) (all_gone (words.at t (word_by Receiver stamp (Legal c))) (receiver t xs).end) (all_above (words.at t (word_by Receiver stamp (Legal c))) (receiver t xs).next) =
      λ t q. may_split (words.at t ws) (words.at t vs) (receiver t xs).end (receiver t xs).next (subst (λ (ms : List Mark). MayAllGo ms (receiver t xs).end (receiver t xs).next) (at_join t ws vs) (may t q)) in
      let free : NameFree (word_by Receiver stamp (Legal c)) xs = one_free c (cs ++ rest) _ xs ok.0 steps pairs r h in
      let more : AreSteps (all_said Receiver (word_by Receiver stamp (Legal c)) xs) = receiver_speaks ws xs (order_pairs Receiver stamp (Legal c)) steps (λ t q. (split t q).0) free in
      let goes : (t : Sockets) → IsPair t → MayAllGo (words.at t (words_by Receiver stamp (map Legal cs))) (receiver t ys).end (receiver t ys).next =
      λ t q. (let is : receiver t (all_said Receiver (word_by Receiver stamp (Legal c)) xs) ≡ all_says (words.at t (word_by Receiver stamp (Legal c))) (receiver t xs) = receiver_says t ws xs in
      subst (λ (y : Side). MayAllGo (words.at t (words_by Receiver stamp (map Legal cs))) y.end y.next) (sym is)
      (subst (λ (n : ℕ). MayAllGo (words.at t (words_by Receiver stamp (map Legal cs))) (all_says (words.at t (word_by Receiver stamp (Legal c))) (receiver t xs)).end n) (sym (says_next (words.at t ws) (receiver t xs)))
      (subst (λ (x : End). MayAllGo (words.at t (words_by Receiver stamp (map Legal cs))) x (all_above (words.at t (word_by Receiver stamp (Legal c))) (receiver t xs).next)) (sym (says_end (words.at t ws) (receiver t xs))) (split t q).1))) in
      let links : Links (all_claims (cs ++ rest) (said_claims (all_said Receiver (word_by Receiver stamp (Legal c)) xs))) taken (command_gone peer stamp c d).entries =
      subst (λ (claims : List Claim). Links (all_claims (cs ++ rest) claims) taken (command_gone peer stamp c d).entries) (sym (claims_next stamp c xs))
      (one_links c (cs ++ rest) d xs _ ok.0 r s h) in
      let k : NameFree (words_by Receiver stamp (map Legal cs)) ys × Links (all_claims rest (said_claims (all_said Receiver (words_by Receiver stamp (map Legal cs)) ys))) taken (commands_gone peer stamp cs (command_gone peer stamp c d)).entries =
      commands_links cs rest (command_gone peer stamp c d) ys ok.1 more (said_pairs ws xs (order_pairs Receiver stamp (Legal c)) pairs) (receives_next c (cs ++ rest) d xs ok.0 r) (sends_next c (cs ++ rest) d s) goes links in (
        name_join ws vs xs free k.0,
        subst (λ (zs : List Step). Links (all_claims rest (said_claims zs)) taken (commands_gone peer stamp cs (command_gone peer stamp c d)).entries) (sym (said_join ws vs xs)) k.1,
      )
