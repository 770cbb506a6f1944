-- A message that goes out, and links: each RTS in it names one that no receiving end has.
use Rattle.world_keeps_pairing.proofs.Common.{append_assoc, list_any, is_receive_socket, is_send_socket, Command, Closing, Entry, mark_of, marks, End, nothing, Mark, Ask, Close}
use Rattle.std.proofs.Common.{◌≡◌, ◌⊎◌, inl, inr, ℕ, ◌==◌, Bool, true, ◌&&◌, if◌then◌else◌, List, [], ◌∷◌, ◌++◌, map, Option, Some, None, is_some, refl, ap, sym, subst, ◌∙◌, eq-eqb, false}
use Rattle.host_pairs.specs.Entries.{is_at, is_link}
use Rattle.host_keeps_pairing.specs.Ends.{Stand, Standing, close_waits, request_due, standing, at}
use Rattle.host_keeps_pairing.proofs.lemmas.{at_one, eqb-sym, live_end, sockets_of}
use Rattle.pairing_law.specs.Links.{Sockets, Word, Receiver, Step, receiver, said_words, IsAmong, AreSteps, IsFreeLink}
use Rattle.ncp_control.specs.declared.command.Command.TheVariants as command
use Rattle.host_pairs.specs.declared.entry.Closing.TheVariants as closing
use Rattle.host_pairs.proofs.lemmas.{both}
use Rattle.world_keeps_pairing.proofs.Claims.{Claim, asked_last, last_link, said_claims}
use Rattle.world_keeps_pairing.proofs.LinkTurns.{Split, any_split, each_split, stands_alone}
use Rattle.world_keeps_pairing.proofs.Local.{AllOff, AsksOwn, claim_first, Each, Links, One, ReceivesBy, all_claims, claim_of}
use Rattle.world_keeps_pairing.proofs.Marks.{AllPairs, IsPair}

-- ---- what waits of an end that has asked

abbrev pub NoAsk : List Mark → Type 0
NoAsk [] = Unit {0}
NoAsk (Ask p ∷ ms) = ⊥
NoAsk (Close ∷ ms) = NoAsk ms

none_later : (ms ns : List Mark) → NoAsk (ms ++ ns) → NoAsk ns
none_later [] ns h = h
none_later (Ask p ∷ ms) ns h = absurd h
none_later (Close ∷ ms) ns h = none_later ms ns h

close_none : (c : Closing) → NoAsk (close_waits c)
close_none closing.No = tt
close_none c = tt

asked_none : (mine : Bool) (p : ℕ) (c : Closing) → NoAsk (request_due 0 mine (Some p) ++ close_waits c)
asked_none true p c = close_none c
asked_none false p c = close_none c

pub record DueAsk (mine : Bool) (asked : Option ℕ) (words : List Mark) : Type 0 where
  pub own : mine ≡ true
  pub unasked : asked ≡ None
  pub none : NoAsk words

not_close : (words : List Mark) (c : Closing) → Ask 0 ∷ words ≡ close_waits c → ⊥
not_close words closing.Queued e = absurd (let both : Ask 0 ∷ words ≡ Close ∷ [] = e in cc)
not_close words c e = absurd (let both : Ask 0 ∷ words ≡ [] = e in cc)

tail_of : List Mark → List Mark
tail_of [] = []
tail_of (m ∷ ms) = ms

due_ask : (mine : Bool) (asked : Option ℕ) (c : Closing) (words : List Mark) → Ask 0 ∷ words ≡ request_due 0 mine asked ++ close_waits c → DueAsk mine asked words
unfolding tail_of
due_ask true None c words e = record { own = refl; unasked = refl; none = subst NoAsk (sym (ap tail_of e)) (close_none c) }
due_ask true (Some p) c words e = absurd (not_close words c e)
due_ask false None c words e = absurd (not_close words c e)
due_ask false (Some p) c words e = absurd (not_close words c e)

-- ---- claims that wait

pending_by : (s : Sockets) (r n link : ℕ) (base : List Claim) (b c : Bool) → (r == s.receive && n == s.send) ≡ b → NoAsk (if b then Ask 0 ∷ [] else [])
    → last_link s (if c then record { sockets = record { receive = r; send = n }; link = link } ∷ base else base) ≡ last_link s base
pending_by s r n link base true c e h = absurd h
pending_by s r n link base false true e h =
    let off : (s.receive == r && s.send == n) ≡ false = ap (λ (t : Bool). t && s.send == n) (eqb-sym _ r) ∙ ap (λ (t : Bool). r == s.receive && t) (eqb-sym s.send n) ∙ e in
    ap (λ (t : Bool). if t then Some link else last_link s base) off
pending_by s r n link base false false e h = refl

front_none : (ms ns : List Mark) → NoAsk (ms ++ ns) → NoAsk ms
front_none [] ns h = tt
front_none (Ask p ∷ ms) ns h = absurd h
front_none (Close ∷ ms) ns h = front_none ms ns h

pending_one : (s : Sockets) (c : Command) (base : List Claim) → NoAsk (mark_of 0 s.receive s.send c) → last_link s (claim_of c base) ≡ last_link s base
pending_one s (command.Rts r n link) base h = pending_by s r n link base _ _ refl h
pending_one s c base h = refl

-- what waits of another end names nothing for these sockets
last_same : (s : Sockets) (cs : List Command) (xs ys : List Claim) → last_link s xs ≡ last_link s ys → NoAsk (marks 0 s.receive s.send cs) → last_link s (all_claims cs xs) ≡ last_link s ys
last_same s [] xs ys e h = e
last_same s (c ∷ cs) xs ys e h =
    last_same s cs (claim_of c xs) ys (pending_one s c xs (front_none (mark_of 0 s.receive s.send c) _ h) ∙ e) (none_later (mark_of 0 s.receive s.send c) _ h)

-- ---- ends of two sockets

none_any : (own foreign : ℕ) (es : List Entry) → list_any (is_at own foreign) es ≡ false → at own foreign es ≡ []
none_any own foreign [] e = refl
none_any own foreign (x ∷ es) e = by (is_at own foreign x) refl (λ k. none_any own foreign es k) where
  by : (b : Bool) → is_at own foreign x ≡ b → (list_any (is_at own foreign) es ≡ false → at own foreign es ≡ []) → at own foreign (x ∷ es) ≡ []
  by true t rest = absurd (let both : true ≡ false = rw t at e in cc)
  by false t rest = at_one own foreign x es false t ∙ rest (rw t at e)

-- there is an end, where the law has one or something waits
pub record There (origin : ℕ → ℕ) (own foreign : ℕ) (es : List Entry) (ws : List Mark) (x : End) : Type 0 where
  pub front : List Entry
  pub end : Entry
  pub rest : List Entry
  pub is : es ≡ front ++ end ∷ rest
  pub here : is_at own foreign end ≡ true
  pub stand : Stand true origin 0 (standing end ∷ []) ws x

there_by : (origin : ℕ → ℕ) (own foreign : ℕ) (es : List Entry) (ws : List Mark) (x : End) → Stand true origin 0 (at own foreign es) ws x → ((ws ≡ []) → (x ≡ nothing) → ⊥) → There origin own foreign es ws x
there_by origin own foreign es ws x h some = by (list_any (is_at own foreign) es) refl where
  by : (b : Bool) → list_any (is_at own foreign) es ≡ b → There origin own foreign es ws x
  by true e =
      let f : Split (is_at own foreign) es = any_split _ es e in
      record {
        front = f.front;
        end = f.end;
        rest = f.rest;
        is = f.is;
        here = f.on;
        stand = stands_alone true origin 0 own foreign _ f.end f.rest ws x f.on (subst (λ (l : List Entry). Stand true origin 0 (at own foreign l) ws x) f.is h);
      }
  by false e = let none : (ws ≡ []) × (x ≡ nothing) = subst (λ (ss : List Standing). Stand true origin 0 ss ws x) (none_any own foreign es e) h in absurd (some none.0 none.1)

In : Entry → List Entry → Type 0
In e [] = ⊥
In e (x ∷ es) = (e ≡ x) ⊎ In e es

split_in : (front : List Entry) (e : Entry) (rest : List Entry) → In e (front ++ e ∷ rest)
unfolding In
split_in [] e rest = inl refl
split_in (x ∷ front) e rest = inr (split_in front e rest)

off_in : (test : Entry → Bool) (es : List Entry) (e : Entry) → AllOff (map test es) → In e es → test e ≡ false
unfolding In
off_in test [] e o i = absurd i
off_in test (x ∷ es) e o (inl is) = ap test is ∙ o.0
off_in test (x ∷ es) e o (inr i) = off_in test es e o.1 i

one_same : (test : Entry → Bool) (es : List Entry) (e f : Entry) → One (map test es) → In e es → In f es → test e ≡ true → test f ≡ true → e ≡ f
unfolding In
one_same test [] e f one i j t u = absurd i
one_same test (x ∷ es) e f one i j t u = by (test x) refl (λ o k l. one_same test es e f o k l t u) i j where
  by : (b : Bool) → test x ≡ b → (One (map test es) → In e es → In f es → e ≡ f) → In e (x ∷ es) → In f (x ∷ es) → e ≡ f
  by true v rest (inl is) (inl there) = is ∙ sym there
  by true v rest (inr i) j = let off : AllOff (map test es) = rw v at one in absurd (let both : true ≡ false = sym t ∙ off_in test es e off i in cc)
  by true v rest (inl is) (inr j) = let off : AllOff (map test es) = rw v at one in absurd (let both : true ≡ false = sym u ∙ off_in test es f off j in cc)
  by false v rest (inl is) j = absurd (let both : true ≡ false = sym t ∙ ap test is ∙ v in cc)
  by false v rest (inr i) (inl is) = absurd (let both : true ≡ false = sym u ∙ ap test is ∙ v in cc)
  by false v rest (inr i) (inr j) = let more : One (map test es) = rw v at one in rest more i j

among_pair : (w : Word) (ws : List Word) → AllPairs ws → IsAmong w ws → IsPair w.sockets
among_pair w [] p i = absurd i
among_pair w (v ∷ ws) p (inl e) = subst (λ (u : Word). IsPair u.sockets) (sym e) p.0
among_pair w (v ∷ ws) p (inr i) = among_pair w ws p.1 i

-- ---- one RTS

module _ (origin : ℕ → ℕ) where
  -- what a host has as the receiver of its receiving ends
  abbrev pub Receives : List Entry → List Command → List Step → Type 0
  Receives es queue xs = (s : Sockets) → IsPair s → (place : ℕ) → Stand true origin place (at s.receive s.send es) (marks place s.receive s.send queue) (receiver s xs).end

  pub is_free : (r n l : ℕ) (rest : List Command) (taken : List Claim) (es : List Entry) (xs : List Step) → is_receive_socket r ≡ true → is_send_socket n ≡ true → AreSteps xs → AllPairs (said_words Receiver xs)
      → Receives es (command.Rts r n l ∷ rest) xs → Links (all_claims (command.Rts r n l ∷ rest) (said_claims xs)) taken es → IsFreeLink l xs
  is_free r n l rest taken es xs even odd steps pairs ends h = λ s named.
      let q : IsPair s = among_pair _ _ pairs named.2 in
      let all : List Claim = all_claims (command.Rts r n l ∷ rest) (said_claims xs) in
      let asks : There origin s.receive s.send es (marks 0 s.receive s.send (command.Rts r n l ∷ rest)) (receiver s xs).end =
      there_by origin _ s.send es _ _ (ends s q 0) (λ none is. absurd (let both : Some named.0 ≡ None = sym named.1 ∙ ap (λ (x : End). x.asked) is in cc)) in
      let asked : asks.end.asked ≡ Some named.0 = sym (ap (λ (x : End). x.asked) (asks.stand.2 ∙ live_end origin (standing asks.end) (asks.stand.0.live refl))) ∙ named.1 in
      let none : NoAsk (marks 0 s.receive s.send (command.Rts r n l ∷ rest)) =
      subst NoAsk (sym (asks.stand.1 ∙ ap (λ (o : Option ℕ). request_due 0 asks.end.mine o ++ close_waits asks.end.closing) asked)) (asked_none _ _ _) in
      let last : last_link s (all_claims (command.Rts r n l ∷ rest) (said_claims xs)) ≡ Some l = last_same s (command.Rts r n l ∷ rest) _ _ refl none ∙ asked_last s xs steps _ l (named.1, named.2) in
      let s_is : (asks.end.own ≡ s.receive) × (asks.end.foreign ≡ s.send) = sockets_of _ s.send asks.end asks.here in
      let owns : asks.end.mine ≡ true = each_split AsksOwn asks.front asks.end asks.rest (subst (λ (k : List Entry). Each AsksOwn k) asks.is h.own) (ap (λ (o : Option ℕ). is_some o) asked) in
      let even_e : is_receive_socket asks.end.own ≡ true = ap is_receive_socket s_is.0 ∙ q.0 in
      let one : is_link l asks.end.link ≡ true =
      each_split (ReceivesBy (all_claims (command.Rts r n l ∷ rest) (said_claims xs))) asks.front asks.end asks.rest (subst (λ (k : List Entry). Each (ReceivesBy (all_claims (command.Rts r n l ∷ rest) (said_claims xs))) k) asks.is h.names) even_e owns l
      (ap (λ (k : ℕ). last_link (record { receive = k; send = asks.end.foreign }) (all_claims (command.Rts r n l ∷ rest) (said_claims xs))) s_is.0
      ∙ ap (λ (k : ℕ). last_link (record { receive = s.receive; send = k }) (all_claims (command.Rts r n l ∷ rest) (said_claims xs))) s_is.1 ∙ last) in
      -- the end whose request goes out
      let t : Sockets = record { receive = r; send = n } in
      let mark : mark_of 0 r n (command.Rts r n l) ≡ Ask 0 ∷ [] = ap (λ (b : Bool). if b then Ask 0 ∷ [] else []) (ap (λ (b : Bool). b && n == n) (eq-eqb r r refl) ∙ eq-eqb n n refl) in
      let waits : Stand true origin 0 (at r n es) (Ask 0 ∷ marks 0 r n rest) (receiver (record { receive = r; send = n }) xs).end =
      subst (λ (ms : List Mark). Stand true origin 0 (at r n es) (ms ++ marks 0 r n rest) (receiver (record { receive = r; send = n }) xs).end) mark (ends _ (even, odd) 0) in
      let goes : There origin r n es (Ask 0 ∷ marks 0 r n rest) (receiver (record { receive = r; send = n }) xs).end =
      there_by origin r n es _ _ waits (λ none is. absurd (let both : Ask 0 ∷ marks 0 r n rest ≡ [] = none in cc)) in
      let d : DueAsk goes.end.mine goes.end.asked (marks 0 r n rest) = due_ask _ _ _ _ goes.stand.1 in
      let good : (is_receive_socket r && is_send_socket n) ≡ true = ap (λ (b : Bool). b && is_send_socket n) even ∙ odd in
      let first : last_link (record { receive = r; send = n }) (claim_of (command.Rts r n l) (said_claims xs)) ≡ Some l =
      ap (λ (b : Bool). last_link (record { receive = r; send = n }) (if b then record { sockets = record { receive = r; send = n }; link = l } ∷ said_claims xs else said_claims xs)) good ∙ claim_first (record { receive = r; send = n }) l (said_claims xs) in
      let later : last_link (record { receive = r; send = n }) (all_claims (command.Rts r n l ∷ rest) (said_claims xs)) ≡ Some l =
      last_same _ rest _ _ refl d.none ∙ first in
      let t_is : (goes.end.own ≡ r) × (goes.end.foreign ≡ n) = sockets_of r n goes.end goes.here in
      let even_f : is_receive_socket goes.end.own ≡ true = ap is_receive_socket t_is.0 ∙ even in
      let two : is_link l goes.end.link ≡ true =
      each_split (ReceivesBy (all_claims (command.Rts r n l ∷ rest) (said_claims xs))) goes.front goes.end goes.rest (subst (λ (k : List Entry). Each (ReceivesBy (all_claims (command.Rts r n l ∷ rest) (said_claims xs))) k) goes.is h.names) even_f d.own l
      (ap (λ (k : ℕ). last_link (record { receive = k; send = goes.end.foreign }) (all_claims (command.Rts r n l ∷ rest) (said_claims xs))) t_is.0
      ∙ ap (λ (k : ℕ). last_link (record { receive = r; send = k }) (all_claims (command.Rts r n l ∷ rest) (said_claims xs))) t_is.1 ∙ later) in
      let same_end : asks.end ≡ goes.end =
      one_same _ es _ _ (h.single l) (subst (λ (k : List Entry). In asks.end k) (sym asks.is) (split_in _ _ _)) (subst (λ (k : List Entry). In goes.end k) (sym goes.is) (split_in _ _ _))
      (ap (λ (b : Bool). b && is_link l asks.end.link) even_e ∙ one) (ap (λ (b : Bool). b && is_link l goes.end.link) even_f ∙ two) in
      absurd (let no : Some named.0 ≡ None = sym asked ∙ ap (λ (e : Entry). e.asked) same_end ∙ d.unasked in cc)

-- ---- an end whose request goes out is this host's own

mine_here : (origin : ℕ → ℕ) (own foreign : ℕ) (front : List Entry) (e : Entry) (rest : List Entry) (words : List Mark) (x : End) → Stand true origin 0 (at own foreign (front ++ e ∷ rest)) (Ask 0 ∷ words) x → is_at own foreign e ≡ true → e.mine ≡ true
mine_here origin own foreign front e rest words x h t =
    let one : Stand true origin 0 (standing e ∷ []) (Ask 0 ∷ words) x = stands_alone true origin 0 own foreign front e rest _ x t h in (due_ask e.mine _ _ words one.1).own

mine_from : (origin : ℕ → ℕ) (own foreign : ℕ) (front rest : List Entry) (words : List Mark) (x : End) → Stand true origin 0 (at own foreign (front ++ rest)) (Ask 0 ∷ words) x → Each (λ e. is_at own foreign e ≡ true → e.mine ≡ true) rest
mine_from origin own foreign front [] words x h = tt
mine_from origin own foreign front (e ∷ rest) words x h = (
  mine_here origin own foreign front e rest words x h,
  mine_from origin own foreign (front ++ e ∷ []) rest words x (subst (λ (l : List Entry). Stand true origin 0 (at own foreign l) (Ask 0 ∷ words) x) (sym (append_assoc front (e ∷ []) rest)) h),
)

pub mine_by : (origin : ℕ → ℕ) (own foreign : ℕ) (es : List Entry) (words : List Mark) (x : End) → Stand true origin 0 (at own foreign es) (Ask 0 ∷ words) x → Each (λ e. is_at own foreign e ≡ true → e.mine ≡ true) es
mine_by origin own foreign es words x h = mine_from origin own foreign [] es words x h
