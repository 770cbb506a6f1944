-- Each life is made of the first messages on its link: what two programs do together to make it so.
use Rattle.world_keeps_streams.proofs.Common.{◌≡◌, inl, inr, ℕ, ◌==◌, true, false, List, [], ◌∷◌, drop, filter, refl, sym, subst, ◌∙◌, Contains, Seen, Host, Crossing, is_open, sends_on, Entry, name_now, numbered, sender_now, IsSending, pair_with, IsLawful, Moment, program, crossings_of, WorldState, book_lives, own_calls, Network, AreOurs, all_ours, HostMessage, AreSender, lives_among, mixed_kept, among_all}
use Rattle.world_keeps_lives.proofs.lemmas.{LinkedBook, HasOwner, Together}
use Rattle.promise.specs.Formed.{CrossedAt, FormedBook}
use Rattle.stream_law.specs.Senders.{Sender}
use Rattle.interface.specs.declared.crossing.Crossing.TheVariants as crossing
use Rattle.promise.specs.declared.life.Life.{Life}
use Rattle.world_keeps_lives.specs.Firsts.{AreApart, FirstBook, IsSentIn}
use Rattle.world_keeps_lives.proofs.lemmas.Books.{linked_book}
use Rattle.world_keeps_lives.proofs.lemmas.Formed.{apart_book, formed_book, sent_book}
use Rattle.world_keeps_streams.proofs.Books.Arrives.{arrives}
use Rattle.world_keeps_streams.proofs.Carried.Calls.{Carries, recent, since}
use Rattle.world_keeps_streams.proofs.Carried.Step.{LifeFor}
use Rattle.world_keeps_streams.proofs.Carried.World.{carries_numbered}
use Rattle.world_keeps_streams.proofs.Deeds.Effects.{Among, among_kept}
use Rattle.world_keeps_streams.proofs.Lives.Lists.{contains, of_drop}
use Rattle.world_keeps_streams.proofs.Requests.Sides.{Lawful, lives_in, book_lawful}
use Rattle.world_keeps_streams.proofs.Steps.Streams.{has_sender}
use Rattle.world_keeps_streams.proofs.Lives.Present.{from_among}
use Rattle.world_keeps_streams.proofs.Lives.Opened.{contains_among}
use Rattle.world_keeps_streams.proofs.Ours.{ours_of}
use Rattle.world_keeps_streams.proofs.Lives.Among.{among_now, among_same, now_kept}

-- of the ends on a link there is one that sends
one_of : (name : ℕ → ℕ → ℕ) (xs : List Entry) (s : Sender) → AreSender name xs s → (e f : Entry) → Among e xs → Among f xs → e ≡ f
one_of name [] s h e f i j = absurd i
one_of name (x ∷ []) s h e f (inl i) (inl j) = sym i ∙ j
one_of name (x ∷ []) s h e f (inl i) (inr j) = absurd j
one_of name (x ∷ []) s h e f (inr i) j = absurd i
one_of name (x ∷ y ∷ more) s h e f i j = absurd h

module _ (hosts : Network) where
  one_sender : (ms : List Moment) → Lawful hosts ms → (a b : Host) → AreOurs hosts a b → (link : ℕ)
      → (link == 0) ≡ false → (e f : Entry) → Contains (pair_with b (program a ms).peers).entries e
      → Contains (pair_with b (program a ms).peers).entries f
      → sends_on link e ≡ true → sends_on link f ≡ true → e ≡ f
  one_sender ms l a b ours link off e f i j on also =
      let h : IsSending (name_now numbered b (own_calls a b ms)) link (pair_with b (program a ms).peers).entries (sender_now numbered b link (own_calls a b ms)) = has_sender hosts l.0 link off a b ours ms l.1 l.2 in
      one_of (name_now numbered b (own_calls a b ms)) (filter (sends_on link) (pair_with b (program a ms).peers).entries) (sender_now numbered b link (own_calls a b ms)) h.here e f
      (among_kept (sends_on link) (pair_with b (program a ms).peers).entries e (contains_among (pair_with b (program a ms).peers).entries e i) on)
      (among_kept (sends_on link) (pair_with b (program a ms).peers).entries f (contains_among (pair_with b (program a ms).peers).entries f j) also)

  owner : (ms : List Moment) → Lawful hosts ms → (a b : Host) → AreOurs hosts a b → (e : Entry)
      → Contains (pair_with b (program a ms).peers).entries e → e.mine ≡ true → is_open e ≡ true
      → HasOwner hosts a b ms e
  owner ms l a b ours e there mine opened =
      let c : Carries numbered a b ms = carries_numbered hosts l.0 a b ours ms l.1 l.2 in
      let w : LifeFor a b e (recent a b ms) = c.opens e (contains_among (pair_with b (program a ms).peers).entries e there) mine opened in
      record {
        life = w.life;
        there = among_now hosts ms w.life (ours_of hosts w.life a b ours (w.host, w.peer)) (contains w.life (lives_in ms) (of_drop (since a b ms) w.life (lives_in ms) (from_among w.life (drop (since a b ms) (lives_in ms)) w.there)));
        host = w.host;
        peer = w.peer;
        goes = w.goes;
        socket = w.socket;
      }

  pub together : Together hosts
  together = record {
    one_sender = one_sender;
    owner = owner;
    arrives = λ ms m l x there kind goes host peer o opened link off.
        (let i : Contains (lives_in ms) x × AreOurs hosts x.host x.peer = now_kept hosts ms x there in
        arrives hosts l.0 m ms l.1 l.2 x i.1 (record { there = i.0; receiving = kind; goes = goes; host = host; peer = peer; end = o; link = link; unclosed = inl opened; off_control = off }));
  }

  -- each life with its link
  pub linked : (ms : List Moment) → Lawful hosts ms
      → LinkedBook hosts (crossings_of ms) (lives_among hosts.strange (mixed_kept hosts.strange ms).book.lives)
  linked ms l = linked_book hosts together ms l

  pub formed : (ms : List Moment) → Lawful hosts ms
      → FormedBook (crossings_of ms) (lives_among hosts.strange (mixed_kept hosts.strange ms).book.lives)
  formed ms l = formed_book hosts ms l (linked ms l)

  pub apart : (ms : List Moment) → Lawful hosts ms
      → AreApart (crossings_of ms) (lives_among hosts.strange (mixed_kept hosts.strange ms).book.lives)
  apart ms l = apart_book hosts ms l (linked ms l)

  -- each message of data between two of these hosts is one of a sending life
  pub sent_in : (ms : List Moment) → Lawful hosts ms → (place : ℕ) (m : HostMessage)
      → AreOurs hosts m.flow.source m.flow.destination → CrossedAt place (crossing.Out m) (crossings_of ms)
      → (m.flow.link.0 == 0) ≡ false
      → (x : Life) × Contains (lives_among hosts.strange (mixed_kept hosts.strange ms).book.lives) x × IsSentIn (crossings_of ms) place m x
  sent_in ms l = sent_book hosts ms l (linked ms l)

-- ---- where all hosts run the program, and worlds

module _ (hosts : List Host) (ms : List Moment) (l : Lawful (all_ours hosts) ms) where
  pub all_formed : FormedBook (crossings_of ms) (lives_in ms)
  all_formed = subst (λ (ls : List Life). FormedBook (crossings_of ms) ls) (sym (among_same (λ h. false) ms) ∙ among_all (lives_in ms)) (formed (all_ours hosts) ms l)

  pub firsts : FirstBook (crossings_of ms) (lives_in ms)
  firsts = record {
    apart = subst (λ (ls : List Life). AreApart (crossings_of ms) ls) (sym (among_same (λ h. false) ms) ∙ among_all (lives_in ms)) (apart (all_ours hosts) ms l);
    sent = λ place m crossed off.
        (let s : (x : Life) × Contains (lives_among (λ h. false) (mixed_kept (λ h. false) ms).book.lives) x × IsSentIn (crossings_of ms) place m x = sent_in (all_ours hosts) ms l place m (refl, refl) crossed off in
        (s.0, (now_kept (all_ours hosts) ms s.0 s.1).0, s.2));
  }

pub world_formed : {C : Type 0} (seen : C → Seen) (hosts : List Host) (w : WorldState C) → IsLawful seen hosts w → FormedBook w.kept.book.crossings w.kept.book.lives
world_formed seen hosts w lawful =
    subst (λ (log : List Crossing). FormedBook log w.kept.book.lives) (sym lawful.whole.crossings)
    (subst (λ (lives : List Life). FormedBook (crossings_of lawful.whole.moments) lives) (sym (book_lives seen hosts w lawful)) (all_formed hosts lawful.whole.moments (book_lawful seen hosts w lawful)))

pub world_firsts : {C : Type 0} (seen : C → Seen) (hosts : List Host) (w : WorldState C) → IsLawful seen hosts w → FirstBook w.kept.book.crossings w.kept.book.lives
world_firsts seen hosts w lawful =
    subst (λ (log : List Crossing). FirstBook log w.kept.book.lives) (sym lawful.whole.crossings)
    (subst (λ (lives : List Life). FirstBook (crossings_of lawful.whole.moments) lives) (sym (book_lives seen hosts w lawful)) (firsts hosts lawful.whole.moments (book_lawful seen hosts w lawful)))
