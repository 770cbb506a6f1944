-- Links are free over all moments, so two programs are tied to the law.
use Rattle.world_keeps_pairing.proofs.Common.{Host, same_host, HostMessage, same_host-true, IsRanged, AreCommands, accepted, pair_with, refusal, offered, PairState, Receiver, Sender, Word, Sockets, placed_event, with_box, with_place, boxes, In, Message, Other, Out, Reply, Reset, are, place, event_of, message_on, Asked, Crossed, IsNext, IsStory, Moment, events_of, places, program, NameFree, NamesFreeAt, TakesFreeAt, law_events, origin_in, all_said, steps, words_of, Contains, IsCommand, is_receive_socket, is_send_socket, Command, Closing, Entry, pair_range, mark_of, marks, End, Mark, Ask, Close, HaveAddresses, IsTimeline, crossings_of, AreOurs, Network, Happened}
use Rattle.std.proofs.Common.{◌≡◌, ℕ, Bool, true, false, ◌&&◌, if◌then◌else◌, List, ◌∷◌, None, refl, ap, sym, subst, ◌∙◌, zero, suc, ◌+◌, ◌<◌, ◌≤◌, ◌==◌, ◌++◌, length, Option, Some, eq-eqb, arith, [], slice_index_or}
use Rattle.sockets.proofs.lemmas.{message_leaves, offer_leaves}
use Rattle.net_sim.proofs.lemmas.{by_request, Coupled, coupled}
use Rattle.std.proofs.lemmas.Bool.{eqb-true, and_right}
use Rattle.host_pairs.specs.Entries.{is_link}
use Rattle.host_keeps_pairing.specs.Ends.{HasEnd, Stand, Standing, close_waits, request_due, standing, at}
use Rattle.interface.specs.declared.crossing.Crossing.TheVariants as crossing
use Rattle.interface.specs.declared.crossing.Inbound.TheVariants as inbound
use Rattle.reset_law.specs.Runs.{IsRun}
use Rattle.reset_law.specs.Stays as stay
use Rattle.world_keeps_pairing.proofs.Served.{AreServed, served_in}
use Rattle.world_keeps_pairing.proofs.Claims.{Claim, heard_claims, said_claims, last_link}
use Rattle.world_keeps_pairing.proofs.LinkAll.{Linked, heard_nothing, as_before, asked_links, down_links, if_links, told_links, up_links}
use Rattle.world_keeps_pairing.proofs.LinkCalls.{LinksOf}
use Rattle.world_keeps_pairing.proofs.LinkMoments.{heard_next, said_next, said_upon, sender_said}
use Rattle.world_keeps_pairing.proofs.LinkTied.{in_free, in_linked, out_here}
use Rattle.world_keeps_pairing.proofs.Origins.{served_below, tied_opening, are_origins}
use Rattle.world_keeps_pairing.proofs.Tied.{AreOrigins, IsOrigin, Tied, programs_ranged, tied_turn}
use Rattle.interface.specs.Mailboxes as mail
use Rattle.ncp_control.specs.declared.command.Command.TheVariants as command
use Rattle.host_pairs.specs.declared.entry.Closing.TheVariants as closing
use Rattle.host_pairs.proofs.lemmas.{both}
use Rattle.world_keeps_pairing.proofs.LinkTurns.{each_split, own_at, stands_alone}
use Rattle.world_keeps_pairing.proofs.Local.{Each, ReceivesBy, all_claims, claim_first, claim_of}

-- a message of others, or for others
said_off : (a b x y : Host) (l : ℕ) (m : Message) → are a b x y ≡ false → stay.said_by a b 0 (Out x y l m) ≡ []
said_off a b x y l Reset e = refl
said_off a b x y l Reply e = refl
said_off a b x y l (Other text) e = rw e refl

pub heard_off_in : (a b x y : Host) (l : ℕ) (m : Message) → are b a x y ≡ false → stay.heard_by b a 0 (In x y l m) ≡ []
heard_off_in a b x y l Reset e = refl
heard_off_in a b x y l Reply e = refl
heard_off_in a b x y l (Other text) e = rw e refl

-- all pairs of hosts
pub record AllTied (hosts : Network) (origin : Host → Host → ℕ → ℕ) (moments : List Moment) : Type 0 where
  pub tied : (a b : Host) → AreOurs hosts a b → Tied origin a b moments
  pub linked : (a b : Host) → AreOurs hosts a b → Linked a b moments

module _ (hosts : Network) (origin : Host → Host → ℕ → ℕ) where
  -- ---- what goes out

  out_names : (a b : Host) (m : HostMessage) (moments : List Moment) → AreOurs hosts a b → IsStory hosts (Crossed (crossing.Out m) ∷ moments) → ((h : Host) → hosts.strange h ≡ false → IsRanged (program h moments)) → AllTied hosts origin moments → (c d : Bool) → same_host a m.flow.source ≡ c → same_host b m.flow.destination ≡ d
      → NamesFreeAt a b (Crossed (crossing.Out m)) moments
  out_names a b m moments ours story ranged t true true e f = (out_here origin hosts a b m moments ours story ranged (t.tied a b ours) (t.tied b a (ours.1, ours.0)) (t.linked a b ours) e f).0
  out_names a b m moments ours story ranged t true false e f =
      subst (λ (ts : List (List Bool)). NameFree (words_of Receiver ts) (all_said Sender (words_of Sender (stay.said_by b a 0 (placed_event (event_of (crossing.Out m)) (events_of moments)))) (steps a b (law_events moments))))
      (sym (said_off a b _ _ _ _ (and_right (same_host a m.flow.source) (same_host b m.flow.destination) f))) tt
  out_names a b m moments ours story ranged t false d e f =
      subst (λ (ts : List (List Bool)). NameFree (words_of Receiver ts) (all_said Sender (words_of Sender (stay.said_by b a 0 (placed_event (event_of (crossing.Out m)) (events_of moments)))) (steps a b (law_events moments))))
      (sym (said_off a b _ _ _ _ (ap (λ (x : Bool). x && same_host b m.flow.destination) e))) tt

  out_quiet : (a b : Host) (m : HostMessage) (moments : List Moment) → are a b m.flow.source m.flow.destination ≡ false → LinksOf (said_claims (steps a b (law_events moments))) (heard_claims (steps b a (law_events moments))) (pair_with b (program a (Crossed (crossing.Out m) ∷ moments)).peers)
      → Linked a b (Crossed (crossing.Out m) ∷ moments)
  out_quiet a b m moments off k =
      as_before a b (placed_event (event_of (crossing.Out m)) (events_of moments)) (law_events moments) (pair_with b (program a (Crossed (crossing.Out m) ∷ moments)).peers)
      (said_off a b _ _ m.flow.link.0 (with_place (place (events_of moments)) (message_on m.flow.link.0 m.text)) off) refl k

  out_linked : (a b : Host) (m : HostMessage) (moments : List Moment) → AreOurs hosts a b → IsStory hosts (Crossed (crossing.Out m) ∷ moments) → ((h : Host) → hosts.strange h ≡ false → IsRanged (program h moments)) → AllTied hosts origin moments → (c d : Bool) → same_host a m.flow.source ≡ c → same_host b m.flow.destination ≡ d
      → Linked a b (Crossed (crossing.Out m) ∷ moments)
  out_linked a b m moments ours story ranged t true true e f =
      let vs : List Word = words_of Sender (stay.said_by b a 0 (placed_event (event_of (crossing.Out m)) (events_of moments))) in
      let ws : List Word = words_of Receiver (stay.said_by a b 0 (placed_event (event_of (crossing.Out m)) (events_of moments))) in
      let k : LinksOf (said_claims (all_said Receiver (words_of Receiver (stay.said_by a b 0 (placed_event (event_of (crossing.Out m)) (events_of moments)))) (all_said Sender (words_of Sender (stay.said_by b a 0 (placed_event (event_of (crossing.Out m)) (events_of moments)))) (steps a b (law_events moments)))))
      (heard_claims (steps b a (law_events moments))) (pair_with b (offered (program a moments) (places moments)).0.peers) = (out_here origin hosts a b m moments ours story ranged (t.tied a b ours) (t.tied b a (ours.1, ours.0)) (t.linked a b ours) e f).1 in
      let said : said_claims (steps a b (law_events (Crossed (crossing.Out m) ∷ moments))) ≡ said_claims (all_said Receiver ws (all_said Sender vs (steps a b (law_events moments)))) =
      said_next a b (placed_event (event_of (crossing.Out m)) (events_of moments)) (law_events moments)
      ∙ sym (said_upon ws _ (steps a b (law_events moments)) (sender_said vs (steps a b (law_events moments)))) in
      let heard : heard_claims (steps b a (law_events (Crossed (crossing.Out m) ∷ moments))) ≡ heard_claims (steps b a (law_events moments)) =
      heard_next b a (placed_event (event_of (crossing.Out m)) (events_of moments)) (law_events moments) ∙ ap heard_claims (heard_nothing (stay.stays a b (law_events moments)) _) in
      subst (λ (cs : List Claim). LinksOf cs (heard_claims (steps b a (law_events (Crossed (crossing.Out m) ∷ moments)))) (pair_with b (program a (Crossed (crossing.Out m) ∷ moments)).peers)) (sym said)
      (subst (λ (cs : List Claim). LinksOf (said_claims (all_said Receiver ws (all_said Sender vs (steps a b (law_events moments))))) cs (pair_with b (program a (Crossed (crossing.Out m) ∷ moments)).peers)) (sym heard)
      (subst (λ (x : Bool). LinksOf (said_claims (all_said Receiver ws (all_said Sender vs (steps a b (law_events moments))))) (heard_claims (steps b a (law_events moments))) (pair_with b (if x then (offered (program a moments) (places moments)).0 else program a moments).peers)) (sym e) k))
  out_linked a b m moments ours story ranged t true false e f =
      let n : IsNext (program a moments) m = subst (λ (y : Host). IsNext (program y moments) m) (sym (same_host-true a _ e)) (story.0 (subst (λ (y : Host). hosts.strange y ≡ false) (same_host-true a _ e) ours.0)) in
      let away : same_host b n.peer.host ≡ false = ap (λ (y : HostMessage). same_host b y.flow.destination) (sym n.message) ∙ f in
      out_quiet a b m moments (and_right (same_host a m.flow.source) (same_host b m.flow.destination) f)
      (if_links _ _ b _ _ _
      (λ x. subst (λ (p : PairState). LinksOf (said_claims (steps a b (law_events moments))) (heard_claims (steps b a (law_events moments))) p) (sym (offer_leaves (program a moments) (places moments) n.peer _ b n.next away)) (t.linked a b ours)) (t.linked a b ours))
  out_linked a b m moments ours story ranged t false d e f =
      out_quiet a b m moments (ap (λ (x : Bool). x && same_host b m.flow.destination) e)
      (subst (λ (x : Bool). LinksOf (said_claims (steps a b (law_events moments))) (heard_claims (steps b a (law_events moments))) (pair_with b (if x then (offered (program a moments) (places moments)).0 else program a moments).peers)) (sym e) (t.linked a b ours))

  -- ---- what comes in

  in_quiet : (a b : Host) (m : HostMessage) (moments : List Moment) → are b a m.flow.source m.flow.destination ≡ false → LinksOf (said_claims (steps a b (law_events moments))) (heard_claims (steps b a (law_events moments))) (pair_with b (program a (Crossed (crossing.In m) ∷ moments)).peers)
      → Linked a b (Crossed (crossing.In m) ∷ moments)
  in_quiet a b m moments off k =
      as_before a b (placed_event (event_of (crossing.In m)) (events_of moments)) (law_events moments) (pair_with b (program a (Crossed (crossing.In m) ∷ moments)).peers) refl
      (heard_off_in a b _ _ m.flow.link.0 (with_box (boxes m.flow.source m.flow.destination (events_of moments) m.flow.link.0) (message_on m.flow.link.0 m.text)) off) k

  in_links : (a b : Host) (m : HostMessage) (moments : List Moment) → AreOurs hosts a b → IsStory hosts (Crossed (crossing.In m) ∷ moments) → IsRun hosts (events_of (Crossed (crossing.In m) ∷ moments)) → ((h : Host) → hosts.strange h ≡ false → IsRanged (program h moments)) → IsOrigin origin (Crossed (crossing.In m)) moments → AllTied hosts origin moments
      → (c d : Bool) → same_host a m.flow.destination ≡ c → same_host b m.flow.source ≡ d → Linked a b (Crossed (crossing.In m) ∷ moments)
  in_links a b m moments ours story run ranged from t true true e f =
      subst (λ (y : Host). Linked y b (Crossed (crossing.In m) ∷ moments)) (sym (same_host-true a _ e))
      (subst (λ (y : Host). Linked m.flow.destination y (Crossed (crossing.In m) ∷ moments)) (sym (same_host-true b _ f))
      (in_linked origin hosts m moments (subst (λ (y : Host). hosts.strange y ≡ false) (same_host-true b _ f) ours.1, subst (λ (y : Host). hosts.strange y ≡ false) (same_host-true a _ e) ours.0) story run ranged from
      (t.tied m.flow.source m.flow.destination (subst (λ (y : Host). hosts.strange y ≡ false) (same_host-true b _ f) ours.1, subst (λ (y : Host). hosts.strange y ≡ false) (same_host-true a _ e) ours.0))
      (t.linked m.flow.destination m.flow.source (subst (λ (y : Host). hosts.strange y ≡ false) (same_host-true a _ e) ours.0, subst (λ (y : Host). hosts.strange y ≡ false) (same_host-true b _ f) ours.1))))
  in_links a b m moments ours story run ranged from t true false e f =
      in_quiet a b m moments (ap (λ (x : Bool). x && same_host a m.flow.destination) f)
      (if_links _ _ b (same_host a m.flow.destination) (accepted (program a moments) (inbound.Message m) (places moments)).0 (program a moments)
      (λ x. subst (λ (p : PairState). LinksOf (said_claims (steps a b (law_events moments))) (heard_claims (steps b a (law_events moments))) p) (sym (message_leaves (program a moments) m (places moments) b f)) (t.linked a b ours)) (t.linked a b ours))
  in_links a b m moments ours story run ranged from t false d e f =
      in_quiet a b m moments (and_right (same_host b m.flow.source) (same_host a m.flow.destination) e)
      (subst (λ (x : Bool). LinksOf (said_claims (steps a b (law_events moments))) (heard_claims (steps b a (law_events moments))) (pair_with b (if x then (accepted (program a moments) (inbound.Message m) (places moments)).0 else program a moments).peers)) (sym e) (t.linked a b ours))

  -- ---- each moment

  names : (a b : Host) (x : Moment) (moments : List Moment) → AreOurs hosts a b → IsStory hosts (x ∷ moments) → ((h : Host) → hosts.strange h ≡ false → IsRanged (program h moments)) → AllTied hosts origin moments → NamesFreeAt a b x moments
  names a b (Crossed (crossing.Out m)) moments ours story ranged t = out_names a b m moments ours story ranged t _ _ refl refl
  names a b (Crossed c) moments ours story ranged t = tt
  names a b (Asked g r) moments ours story ranged t =
      by_request (λ e. NameFree (words_of Receiver (stay.said_by a b 0 (placed_event e (events_of moments)))) (all_said Sender (words_of Sender (stay.said_by b a 0 (placed_event e (events_of moments)))) (steps a b (law_events moments)))) g r (λ peer. tt) tt

  pub takes : (x : Moment) (moments : List Moment) → IsStory hosts (x ∷ moments) → IsRun hosts (events_of (x ∷ moments)) → ((h : Host) → hosts.strange h ≡ false → IsRanged (program h moments)) → IsOrigin origin x moments → AllTied hosts origin moments → TakesFreeAt hosts x moments
  takes (Crossed (crossing.In m)) moments story run ranged from t =
      λ our. in_free origin hosts m moments our story run ranged from (t.tied m.flow.source m.flow.destination our) (t.linked m.flow.destination m.flow.source (our.1, our.0)) our
  takes (Crossed c) moments story run ranged from t = tt
  takes (Asked g r) moments story run ranged from t = tt

  links : (a b : Host) (x : Moment) (moments : List Moment) → AreOurs hosts a b → IsStory hosts (x ∷ moments) → IsRun hosts (events_of (x ∷ moments)) → AreServed hosts (x ∷ moments) → ((h : Host) → hosts.strange h ≡ false → IsRanged (program h moments)) → IsOrigin origin x moments → AllTied hosts origin moments → Linked a b (x ∷ moments)
  links a b (Crossed (crossing.Out m)) moments ours story run served ranged from t = out_linked a b m moments ours story ranged t _ _ refl refl
  links a b (Crossed (crossing.In m)) moments ours story run served ranged from t = in_links a b m moments ours story run ranged from t _ _ refl refl
  links a b (Crossed (crossing.Answer kind f)) moments ours story run served ranged from t = told_links a b kind f moments (t.linked a b ours)
  links a b (Crossed (crossing.Down g)) moments ours story run served ranged from t = down_links a b g moments (t.linked a b ours)
  links a b (Crossed (crossing.Up g)) moments ours story run served ranged from t = up_links a b g moments (t.linked a b ours)
  links a b (Asked g r) moments ours story run served ranged from t =
      asked_links a b g r moments (λ e. subst (λ (y : Host). refusal (program y moments) r ≡ None) (sym (same_host-true a g e)) (served.0 (subst (λ (y : Host). hosts.strange y ≡ false) (same_host-true a g e) ours.0)).0) (t.linked a b ours)

pub all_tied : (hosts : Network) (origin : Host → Host → ℕ → ℕ) (moments : List Moment) → AreOrigins origin moments → IsStory hosts moments → IsRun hosts (events_of moments) → AreServed hosts moments → AllTied hosts origin moments
all_tied hosts origin [] from story run served = record { tied = λ a b ours. tied_opening origin a b; linked = λ a b ours. record { sends = tt; names = tt; own = tt; single = λ l. tt } }
all_tied hosts origin (x ∷ moments) from story run served =
    let below : AreServed hosts moments = served_below hosts x moments served in
    let t : AllTied hosts origin moments = all_tied hosts origin moments from.1 story.1 run.2 below in
    let ranged : (h : Host) → hosts.strange h ≡ false → IsRanged (program h moments) = programs_ranged hosts moments below in
    record {
      tied = λ a b ours. tied_turn hosts origin a b x moments ours story run served ranged from.0 (names hosts origin a b x moments ours story ranged t) (takes hosts origin x moments story run ranged from.0 t) (t.tied a b ours);
      linked = λ a b ours. links hosts origin a b x moments ours story run served ranged from.0 t;
    }

-- ---- requests are counted

abbrev asks : List Mark → ℕ
asks [] = 0
asks (Ask p ∷ ms) = suc (asks ms)
asks (Close ∷ ms) = asks ms

asks_append : (xs ys : List Mark) → asks (xs ++ ys) ≡ asks xs + asks ys
asks_append [] ys = omega arith
asks_append (Ask p ∷ xs) ys = let rest : asks (xs ++ ys) ≡ asks xs + asks ys = asks_append xs ys in omega (arith, rest)
asks_append (Close ∷ xs) ys = asks_append xs ys

none_in_close : (c : Closing) → asks (close_waits c) ≡ 0
none_in_close closing.No = refl
none_in_close c = refl

one_due : (mine : Bool) (asked : Option ℕ) → asks (request_due 0 mine asked) ≤ 1
one_due true None = omega arith
one_due true (Some a) = omega arith
one_due false asked = omega arith

module _ (o f : ℕ) (even : is_receive_socket o ≡ true) (odd : is_send_socket f ≡ true) where
  abbrev s : Sockets
  s = record { receive = o; send = f }

  both_on : (a b : Bool) → a ≡ true → b ≡ true → (a && b) ≡ true
  both_on a b e g = ap (λ (c : Bool). c && b) e ∙ g

  -- a command that asks for nothing here leaves the last request for these sockets
  other_claim : (c : Command) (claims : List Claim) → asks (mark_of 0 o f c) ≡ 0 → last_link s (claim_of c claims) ≡ last_link s claims
  other_claim (command.Rts r n k) claims none = by (is_receive_socket r && is_send_socket n) (o == r && f == n) refl where
    by : (b c : Bool) → (o == r && f == n) ≡ c → last_link s (if b then record { sockets = record { receive = r; send = n }; link = k } ∷ claims else claims) ≡ last_link s claims
    by false c e = refl
    by true true e =
        let parts : ((o == r) ≡ true) × ((f == n) ≡ true) = both (o == r) (f == n) e in
        let here : (r == o && n == f) ≡ true = both_on _ _ (eq-eqb r o (sym (eqb-true o r parts.0))) (eq-eqb n f (sym (eqb-true f n parts.1))) in
        let one : 1 ≡ 0 = sym (ap (λ (t : Bool). asks (if t then Ask 0 ∷ [] else [])) here) ∙ none in
        absurd (omega (arith, one))
    by true false e = rw e refl
  other_claim c claims none = refl

  none_queued : (cs : List Command) (claims : List Claim) → asks (marks 0 o f cs) ≡ 0 → last_link s (all_claims cs claims) ≡ last_link s claims
  none_queued [] claims none = refl
  none_queued (c ∷ cs) claims none =
      let parts : asks (mark_of 0 o f c ++ marks 0 o f cs) ≡ asks (mark_of 0 o f c) + asks (marks 0 o f cs) = asks_append (mark_of 0 o f c) _ in
      none_queued cs (claim_of c claims) (omega (arith, parts, none)) ∙ other_claim c claims (omega (arith, parts, none))

  -- where one request for them waits, it is the last
  last_queued : (l : ℕ) (cs : List Command) (claims : List Claim) (i : ℕ) → i < length cs → slice_index_or cs i (command.Rts o f l) ≡ command.Rts o f l → asks (marks 0 o f cs) ≤ 1 → last_link s (all_claims cs claims) ≡ Some l
  last_queued l [] claims i less is few = absurd (omega (arith, less))
  last_queued l (c ∷ cs) claims zero less is few =
      subst (λ (x : Command). asks (marks 0 o f (x ∷ cs)) ≤ 1 → last_link s (all_claims cs (claim_of x claims)) ≡ Some l) (sym is) here few where
        asked : asks (mark_of 0 o f (command.Rts o f l)) ≡ 1
        asked = ap (λ (t : Bool). asks (if t then Ask 0 ∷ [] else [])) (both_on _ _ (eq-eqb o o refl) (eq-eqb f f refl))

        first : last_link s (claim_of (command.Rts o f l) claims) ≡ Some l
        first =
            ap (λ (t : Bool). last_link s (if t then record { sockets = record { receive = o; send = f }; link = l } ∷ claims else claims)) (both_on _ _ even odd)
            ∙ claim_first s l claims

        here : asks (mark_of 0 o f (command.Rts o f l) ++ marks 0 o f cs) ≤ 1 → last_link s (all_claims cs (claim_of (command.Rts o f l) claims)) ≡ Some l
        here k =
            let parts : asks (mark_of 0 o f (command.Rts o f l) ++ marks 0 o f cs) ≡ asks (mark_of 0 o f (command.Rts o f l)) + asks (marks 0 o f cs) = asks_append (mark_of 0 o f (command.Rts o f l)) _ in
            none_queued cs _ (omega (arith, parts, asked, k)) ∙ first
  last_queued l (c ∷ cs) claims (suc i) less is few =
      let parts : asks (mark_of 0 o f c ++ marks 0 o f cs) ≡ asks (mark_of 0 o f c) + asks (marks 0 o f cs) = asks_append (mark_of 0 o f c) _ in
      last_queued l cs (claim_of c claims) i (omega (arith, less)) is (omega (arith, parts, few))

-- ---- lists

record Among (es : List Entry) (e : Entry) : Type 0 where
  front : List Entry
  rest : List Entry
  is : es ≡ front ++ e ∷ rest

among_at : (es : List Entry) (e : Entry) (i : ℕ) → i < length es → slice_index_or es i e ≡ e → Among es e
among_at [] e i less is = absurd (omega (arith, less))
among_at (x ∷ es) e zero less is = record { front = []; rest = es; is = ap (λ (y : Entry). y ∷ es) is }
among_at (x ∷ es) e (suc i) less is = let a : Among es e = among_at es e i (omega (arith, less)) is in record { front = x ∷ a.front; rest = a.rest; is = ap (λ (l : List Entry). x ∷ l) a.is }

command_at : (cs : List Command) (c : Command) (i : ℕ) → i < length cs → slice_index_or cs i c ≡ c → AreCommands cs → IsCommand c
command_at [] c i less is h = absurd (omega (arith, less))
command_at (d ∷ cs) c zero less is h = subst IsCommand is h.0
command_at (d ∷ cs) c (suc i) less is h = command_at cs c i (omega (arith, less)) is h.1

link_known : (l : ℕ) (o : Option ℕ) → is_link l o ≡ true → o ≡ Some l
link_known l None e = absurd (let both : false ≡ true = e in cc)
link_known l (Some k) e = ap (λ (n : ℕ). Some n) (eqb-true k l e)

-- of an end there is one request at most that waits
few : (origin : ℕ → ℕ) (q : PairState) (e : Entry) (x : End) → HasEnd origin e.own e.foreign q x → Among q.entries e → asks (marks 0 e.own e.foreign q.queue) ≤ 1
few origin q e x h i =
    let one : Stand true origin 0 (standing e ∷ []) (marks 0 e.own e.foreign q.queue) x =
    stands_alone true origin 0 e.own _ _ e i.rest _ x (own_at e) (subst (λ (xs : List Entry). Stand true origin 0 (at e.own e.foreign xs) (marks 0 e.own e.foreign q.queue) x) i.is (h.ends 0)) in
    let parts : asks (request_due 0 e.mine e.asked ++ close_waits e.closing) ≡ asks (request_due 0 e.mine e.asked) + asks (close_waits e.closing) = asks_append (request_due 0 e.mine e.asked) _ in
    let all : asks (marks 0 e.own e.foreign q.queue) ≡ asks (request_due 0 e.mine e.asked ++ close_waits e.closing) = ap asks one.1 in
    let first : asks (request_due 0 e.mine e.asked) ≤ 1 = one_due e.mine _ in
    let none : asks (close_waits e.closing) ≡ 0 = none_in_close _ in
    omega (arith, parts, all, first, none)

-- and for two sockets, whether there is an end of theirs or not
once_by : (origin : ℕ → ℕ) (own foreign : ℕ) (q : PairState) (x : End) → HasEnd origin own foreign q x → asks (marks 0 own foreign q.queue) ≤ 1
once_by origin own foreign q x h = by (at own foreign q.entries) (marks 0 own foreign q.queue) (h.ends 0) where
  by : (ss : List Standing) (words : List Mark) → Stand true origin 0 ss words x → asks words ≤ 1
  by [] words s = let none : asks words ≡ 0 = ap asks s.0 in omega (arith, none)
  by (s ∷ []) words i =
      let parts : asks (request_due 0 s.mine s.asked ++ close_waits s.closing) ≡ asks (request_due 0 s.mine s.asked) + asks (close_waits s.closing) = asks_append (request_due 0 s.mine s.asked) _ in
      let all : asks words ≡ asks (request_due 0 s.mine s.asked ++ close_waits s.closing) = ap asks i.1 in
      let first : asks (request_due 0 s.mine s.asked) ≤ 1 = one_due s.mine _ in
      let none : asks (close_waits s.closing) ≡ 0 = none_in_close _ in
      omega (arith, parts, all, first, none)
  by (s ∷ t ∷ more) words i = absurd i

-- ---- the queue of a host's program

module _ (hosts : Network) (moments : List Moment) (addresses : HaveAddresses hosts.all) (run : mail.IsRun hosts.all (crossings_of moments)) (time : Happened hosts moments) where
  served : AreServed hosts moments
  served = served_in hosts moments time

  tied : AllTied hosts (origin_in (crossings_of moments)) moments
  tied =
      let c : Coupled hosts moments = coupled hosts addresses moments run time in
      all_tied hosts _ moments (are_origins 0 _ [] moments refl) c.story c.run served

  pub queued_commands : (a b : Host) → AreOurs hosts a b → AreCommands (pair_with b (program a moments).peers).queue
  queued_commands a b ours = (pair_range b _ (programs_ranged hosts moments served a ours.0).pairs).commands

  -- for two sockets there is one request at most that waits, so two of them name one link
  pub queued_once : (a b : Host) → AreOurs hosts a b → (own foreign l k : ℕ) → Contains (pair_with b (program a moments).peers).queue (command.Rts own foreign l) → Contains (pair_with b (program a moments).peers).queue (command.Rts own foreign k) → l ≡ k
  queued_once a b ours own foreign l k one other =
      let is : IsCommand (command.Rts own foreign l) = command_at _ _ one.0 one.1 one.2 (queued_commands a b ours) in
      let once : asks (marks 0 own foreign (pair_with b (program a moments).peers).queue) ≤ 1 =
      once_by _ own foreign _ _ ((tied.tied a b ours).receiver (record { receive = own; send = foreign }) (is.1, is.3)) in
      let first : last_link (record { receive = own; send = foreign }) (all_claims (pair_with b (program a moments).peers).queue []) ≡ Some l =
      last_queued own foreign is.1 is.3 l _ [] one.0 one.1 one.2 once in
      let second : last_link (record { receive = own; send = foreign }) (all_claims (pair_with b (program a moments).peers).queue []) ≡ Some k =
      last_queued own foreign is.1 is.3 k _ [] _ other.1 other.2 once in
      let both : Some l ≡ Some k = sym first ∙ second in
      cc

  pub queued_link : (a b : Host) → AreOurs hosts a b → (l : ℕ) (e : Entry) → Contains (pair_with b (program a moments).peers).queue (command.Rts e.own e.foreign l) → Contains (pair_with b (program a moments).peers).entries e → e.mine ≡ true → e.link ≡ Some l
  queued_link a b ours l e waits there mine =
      let is : IsCommand (command.Rts e.own e.foreign l) = command_at _ _ _ waits.1 waits.2 (queued_commands a b ours) in
      let i : Among (pair_with b (program a moments).peers).entries e = among_at _ e _ there.1 there.2 in
      let once : asks (marks 0 e.own e.foreign (pair_with b (program a moments).peers).queue) ≤ 1 =
      few _ _ e _ ((tied.tied a b ours).receiver (record { receive = e.own; send = e.foreign }) (is.1, is.3)) i in
      let last : last_link (record { receive = e.own; send = e.foreign }) (all_claims (pair_with b (program a moments).peers).queue (said_claims (steps a b (law_events moments)))) ≡ Some l =
      last_queued e.own e.foreign is.1 is.3 l _ _ _ waits.1 waits.2 once in
      let names : ReceivesBy (all_claims (pair_with b (program a moments).peers).queue (said_claims (steps a b (law_events moments)))) e =
      each_split (ReceivesBy (all_claims (pair_with b (program a moments).peers).queue (said_claims (steps a b (law_events moments))))) _ e i.rest
      (subst (λ (xs : List Entry). Each (ReceivesBy (all_claims (pair_with b (program a moments).peers).queue (said_claims (steps a b (law_events moments))))) xs) i.is (tied.linked a b ours).names) in
      link_known l e.link (names is.1 mine l last)
